use Rattle.std.proofs.Common.{ℕ, List, [], length, ap, sym, ◌∙◌}
use Rattle.std.specs.Prelude.{◌&&◌, ◌/◌, ◌==◌, nat_lt}
use Rattle.qc_base.specs.Mask.{first_byte}
use Rattle.qc_receive.specs.Cutting.{rest_of}
use Rattle.qc_receive.specs.Short.{short_in}
use Rattle.qc_receive.proofs.Behind.{cut_some, readable_is, heard_is}
use Rattle.qc_receive.proofs.Shorts.{front_short}
use Rattle.qc_receive.proofs.receiving.heard.Goals as goal

-- a datagram that is one 1-RTT packet
pub heard_short-requires-clause-front : goal.heard_short-requires-clause-front
heard_short-requires-clause-front g c =
    front_short c.cutting_of-cutting.result c.args.bytes.items c.is_short.result (c.is_short.ensures ∙ ap (λ (xs : List ℕ). (first_byte xs / 64 == 1) && nat_lt c.cutting_of-cutting.result.local_cid_len (length xs)) c.as_slice.ensures) c.if-is_short.true

pub returns-then-is_short-clause-answer : goal.returns-then-is_short-clause-answer
returns-then-is_short-clause-answer g c =
    readable_is c.cutting_of-cutting.result _ c.args.bytes.items (short_in c.cutting_of-cutting.result.local_cid_len c.args.bytes.items) [] c.cutting_of-cutting.ensures.cuts
    (front_short c.cutting_of-cutting.result c.args.bytes.items c.is_short.result (c.is_short.ensures ∙ ap (λ (xs : List ℕ). (first_byte xs / 64 == 1) && nat_lt c.cutting_of-cutting.result.local_cid_len (length xs)) c.as_slice.ensures) c.if-is_short.true)

-- a datagram that counts
pub returns-in_ok-pieces-in-Some-clause-leads : goal.returns-in_ok-pieces-in-Some-clause-leads
returns-in_ok-pieces-in-Some-clause-leads g c =
    let cut = cut_some c.cutting_of-cutting.result c.args.bytes c.in_ok-cut.field-0 c.in-Some.first c.in-Some.behind c.in-Some.is c.in_ok-cut.ensures.some in
    heard_is _ c.args.coming.now c.cutting_of-cutting.result c.args.bytes.items c.in-Some.first c.in-Some.behind _ _ _ _ _ c.cutting_of-cutting.ensures.cuts cut.0 (sym c.if-lets_in.true ∙ c.lets_in.ensures) c.len-len.ensures.value c.is_blocked-blocked.ensures
    c.in_ok-pieces-in-Some.ensures c.counted.ensures

-- one that doesn't count begins with a packet as well
pub returns-else-lets_in-clause-answer : goal.returns-else-lets_in-clause-answer
returns-else-lets_in-clause-answer g c =
    let cut = cut_some c.cutting_of-cutting.result c.args.bytes c.in_ok-cut.field-0 c.in-Some.first c.in-Some.behind c.in-Some.is c.in_ok-cut.ensures.some in
    readable_is c.cutting_of-cutting.result _ c.args.bytes.items c.in-Some.first (rest_of c.in-Some.behind) c.cutting_of-cutting.ensures.cuts cut.0

-- and so does one that counts
pub returns-in_ok-pieces-in-Some-clause-answer : goal.returns-in_ok-pieces-in-Some-clause-answer
returns-in_ok-pieces-in-Some-clause-answer g c =
    let cut = cut_some c.cutting_of-cutting.result c.args.bytes c.in_ok-cut.field-0 c.in-Some.first c.in-Some.behind c.in-Some.is c.in_ok-cut.ensures.some in
    readable_is c.cutting_of-cutting.result _ c.args.bytes.items c.in-Some.first (rest_of c.in-Some.behind) c.cutting_of-cutting.ensures.cuts cut.0
