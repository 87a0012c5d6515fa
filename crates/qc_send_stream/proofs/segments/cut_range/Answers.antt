use Rattle.std.proofs.Common.{◌∙◌}
use Rattle.qc_send_stream.specs.Segments.{split}
use Rattle.qc_send_stream.proofs.Outcomes.{on_ok_map, either}
use Rattle.qc_send_stream.proofs.Cutting.{split_flat, split_apart, split_end, split_cut, split_keeps_cut}
use Rattle.qc_send_stream.proofs.segments.cut_range.Goals as goal

pub cut-requires-2-clause-apart : goal.cut-requires-2-clause-apart
cut-requires-2-clause-apart c = rw c.in_ok-cut.ensures.cut (split_apart 0 c.args.start c.args.segments.now.entries c.requires.apart)

pub returns-clause-first : goal.returns-clause-first
returns-clause-first c =
    let apart = split_apart 0 c.args.start c.args.segments.now.entries c.requires.apart in
    let mid = split_cut 0 c.args.start c.args.segments.now.entries c.requires.apart in
    on_ok_map c.cut-2.result _ _ c.cut-2.ensures.cut
    (λ e. rw (e, c.in_ok-cut.ensures.cut) (split_keeps_cut 0 c.args.end c.args.start (split c.args.start c.args.segments.now.entries) apart mid))

pub returns-clause-last : goal.returns-clause-last
returns-clause-last c =
    let apart = split_apart 0 c.args.start c.args.segments.now.entries c.requires.apart in
    on_ok_map c.cut-2.result _ _ c.cut-2.ensures.cut
    (λ e. rw (e, c.in_ok-cut.ensures.cut) (split_cut 0 c.args.end (split c.args.start c.args.segments.now.entries) apart))

pub returns-clause-same : goal.returns-clause-same
returns-clause-same c =
    let apart = split_apart 0 c.args.start c.args.segments.now.entries c.requires.apart in
    let first = split_flat 0 c.args.start c.args.segments.now.entries c.requires.apart in
    either c.cut-2.result _ _ _ c.cut-2.ensures.cut c.cut-2.ensures.err
    (λ e. rw (e, c.in_ok-cut.ensures.cut) (split_flat 0 c.args.end (split c.args.start c.args.segments.now.entries) apart ∙ first))
    (λ e. rw (e, c.in_ok-cut.ensures.cut) first)

pub returns-clause-apart : goal.returns-clause-apart
returns-clause-apart c =
    let apart = split_apart 0 c.args.start c.args.segments.now.entries c.requires.apart in
    either c.cut-2.result _ _ _ c.cut-2.ensures.cut c.cut-2.ensures.err
    (λ e. rw (e, c.in_ok-cut.ensures.cut) (split_apart 0 c.args.end (split c.args.start c.args.segments.now.entries) apart))
    (λ e. rw (e, c.in_ok-cut.ensures.cut) apart)

pub returns-clause-below : goal.returns-clause-below
returns-clause-below c = λ n by.
    let first = split_end n c.args.start c.args.segments.now.entries by in
    either c.cut-2.result _ _ _ c.cut-2.ensures.cut c.cut-2.ensures.err
    (λ e. rw (e, c.in_ok-cut.ensures.cut) (split_end n c.args.end (split c.args.start c.args.segments.now.entries) first))
    (λ e. rw (e, c.in_ok-cut.ensures.cut) first)
