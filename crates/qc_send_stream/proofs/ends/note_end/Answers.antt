use Rattle.std.proofs.Common.{ℕ, List, ap, refl, ◌∙◌}
use Rattle.qc_send_stream.specs.Segments.{among}
use Rattle.qc_send_stream.proofs.Outcomes.{on_ok_map, either}
use Rattle.qc_send_stream.proofs.LostEnds.{insert_among, insert_extends, same_extends}
use Rattle.qc_send_stream.proofs.ends.note_end.Goals as goal

pub returns-then-needed-clause-noted : goal.returns-then-needed-clause-noted
returns-then-needed-clause-noted c =
    on_ok_map c.add_end.result _ _ c.add_end.ensures.added
    (λ e q. ap (λ (l : List ℕ). among c.args.end l) e ∙ insert_among c.args.end c.args.lost.now.keys)

pub returns-then-needed-clause-more : goal.returns-then-needed-clause-more
returns-then-needed-clause-more c =
    either c.add_end.result _ _ _ c.add_end.ensures.added c.add_end.ensures.err
    (λ e. insert_extends c.args.end c.args.lost.now.keys c.add_end.new.lost.keys e)
    (λ e. same_extends c.args.lost.now.keys c.add_end.new.lost.keys e)

pub returns-clause-more : goal.returns-clause-more
returns-clause-more c = same_extends c.args.lost.now.keys c.args.lost.now.keys refl
