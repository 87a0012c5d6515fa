use Rattle.qc_receive.proofs.Behind.{cut_some, cut_none}
use Rattle.qc_receive.proofs.FirstDatagrams.{not_taken, left_alone, may_not, no_packet, no_first, first_taken, first_heard, opened_none, opened_some, awaits_ideal}
use Rattle.qc_receive.proofs.receiving.first_datagram.Goals as goal

-- too late, too short, or from another address
pub returns-then-not-may_begin-clause-answer : goal.returns-then-not-may_begin-clause-answer
returns-then-not-may_begin-clause-answer g c =
    not_taken _ _ c.args.coming.now.remote c.args.bytes.items (awaits_ideal _ _ c.requires) (may_not _ _ c.args.coming.now.remote c.args.bytes.items c.len-len.result c.may_begin.result c.may_begin.ensures c.len-len.ensures.value c.if-not-may_begin.true)

pub returns-then-not-may_begin-clause-leads : goal.returns-then-not-may_begin-clause-leads
returns-then-not-may_begin-clause-leads g c =
    left_alone _ c.args.coming.now c.args.bytes.items _ (awaits_ideal _ _ c.requires) (may_not _ _ c.args.coming.now.remote c.args.bytes.items c.len-len.result c.may_begin.result c.may_begin.ensures c.len-len.ensures.value c.if-not-may_begin.true)

-- no packet
pub returns-in-None-clause-answer : goal.returns-in-None-clause-answer
returns-in-None-clause-answer g c =
    not_taken _ _ c.args.coming.now.remote c.args.bytes.items (awaits_ideal _ _ c.requires) (no_packet _ c.cutting_of-cutting.result _ c.args.coming.now.remote c.args.bytes.items c.cutting_of-cutting.ensures.cuts (cut_none c.cutting_of-cutting.result c.args.bytes _ c.in-None.is c.in_ok-cut.ensures.none))

pub returns-in-None-clause-leads : goal.returns-in-None-clause-leads
returns-in-None-clause-leads g c =
    left_alone _ c.args.coming.now c.args.bytes.items _ (awaits_ideal _ _ c.requires) (no_packet _ c.cutting_of-cutting.result _ c.args.coming.now.remote c.args.bytes.items c.cutting_of-cutting.ensures.cuts (cut_none c.cutting_of-cutting.result c.args.bytes _ c.in-None.is c.in_ok-cut.ensures.none))

-- no packet that may be a server's first one
pub returns-in-None-2-clause-answer : goal.returns-in-None-2-clause-answer
returns-in-None-2-clause-answer g c =
    let cut = cut_some c.cutting_of-cutting.result c.args.bytes c.in_ok-cut.field-0 c.in-Some.cut.0 c.in-Some.cut.1 c.in-Some.is c.in_ok-cut.ensures.some in
    not_taken _ _ c.args.coming.now.remote c.args.bytes.items (awaits_ideal _ _ c.requires)
    (no_first _ c.cutting_of-cutting.result _ c.args.coming.now.remote c.args.bytes.items c.in-Some.cut.0 c.in-Some.cut.1 c.cutting_of-cutting.ensures.cuts cut.0 (opened_none _ _ c.in-None-2.is c.in_ok-first_opened.ensures.none))

pub returns-in-None-2-clause-leads : goal.returns-in-None-2-clause-leads
returns-in-None-2-clause-leads g c =
    let cut = cut_some c.cutting_of-cutting.result c.args.bytes c.in_ok-cut.field-0 c.in-Some.cut.0 c.in-Some.cut.1 c.in-Some.is c.in_ok-cut.ensures.some in
    left_alone _ c.args.coming.now c.args.bytes.items _ (awaits_ideal _ _ c.requires)
    (no_first _ c.cutting_of-cutting.result _ c.args.coming.now.remote c.args.bytes.items c.in-Some.cut.0 c.in-Some.cut.1 c.cutting_of-cutting.ensures.cuts cut.0 (opened_none _ _ c.in-None-2.is c.in_ok-first_opened.ensures.none))

-- one that may be
pub returns-in_ok-others-in-Some-2-clause-answer : goal.returns-in_ok-others-in-Some-2-clause-answer
returns-in_ok-others-in-Some-2-clause-answer g c =
    let cut = cut_some c.cutting_of-cutting.result c.args.bytes c.in_ok-cut.field-0 c.in-Some.cut.0 c.in-Some.cut.1 c.in-Some.is c.in_ok-cut.ensures.some in
    let opened = opened_some _ _ c.in-Some-2.first c.in-Some-2.is c.in_ok-first_opened.ensures.some in
    first_taken _ c.cutting_of-cutting.result _ c.args.coming.now.remote c.args.bytes.items c.len-len.result c.may_begin.result c.in-Some.cut.0 c.in-Some.cut.1 _ _ _ _ _ (awaits_ideal _ _ c.requires) c.cutting_of-cutting.ensures.cuts cut.0 c.may_begin.ensures c.len-len.ensures.value
    c.if-not-may_begin.false opened.0 opened.1

pub returns-in_ok-others-in-Some-2-clause-leads : goal.returns-in_ok-others-in-Some-2-clause-leads
returns-in_ok-others-in-Some-2-clause-leads g c =
    let cut = cut_some c.cutting_of-cutting.result c.args.bytes c.in_ok-cut.field-0 c.in-Some.cut.0 c.in-Some.cut.1 c.in-Some.is c.in_ok-cut.ensures.some in
    let opened = opened_some _ _ c.in-Some-2.first c.in-Some-2.is c.in_ok-first_opened.ensures.some in
    first_heard _ c.args.coming.now c.cutting_of-cutting.result c.args.bytes.items c.len-len.result c.may_begin.result c.in-Some.cut.0 c.in-Some.cut.1 _ _ _ _ _ _ _ _ _ _ _ _ _ (awaits_ideal _ _ c.requires) c.cutting_of-cutting.ensures.cuts cut.0 c.may_begin.ensures c.len-len.ensures.value
    c.if-not-may_begin.false opened.0 opened.1 c.in_ok-token-in-Some-2.ensures.cases c.do_expect.ensures c.in_ok-received-in-Some-2.ensures c.in_ok-others-in-Some-2.ensures
    c.is_blocked-blocked.ensures c.counted.ensures
