use Rattle.std.proofs.Common.{sym}
use Rattle.qc_send_stream.specs.Segments.{buffered}
use Rattle.qc_send_stream.proofs.Next.{next_lost, next_fresh, lost_fits, fresh_fits}
use Rattle.qc_send_stream.proofs.Outcomes.{if_ok_map}
use Rattle.qc_send_stream.proofs.buffer.SendBuffer.offer.Goals as goal
use Rattle.qc_send_stream.proofs.buffer.SendBuffer.offer.Goals.{in-Some, in-None}

pub returns-clause-next : goal.returns-clause-next
returns-clause-next c =
    rw (← c.self.view_is)
    (elim c.match-first_lost.branch [
      | in-Some w ↦
          rw w.result-is
          (if_ok_map w.lost_part.result _ _ w.lost_part.ensures
          (λ p e. rw e
          (next_lost c.self.inside.written c.self.inside.sent c.args.most w.in-Some.end c.self.inside.segments.entries c.self.invariant.apart (sym w.in-Some.ensures.value))))
      | in-None w ↦
          rw w.result-is
          (if_ok_map w.fresh_part.result _ _ w.fresh_part.ensures
          (λ p e. rw e
          (next_fresh c.self.inside.written c.self.inside.sent c.args.most c.self.inside.segments.entries c.self.invariant.apart (sym w.in-None.ensures.value))))
    ])

pub returns-clause-fits : goal.returns-clause-fits
unfolding buffered
returns-clause-fits c =
    rw (← c.self.view_is)
    (elim c.match-first_lost.branch [
      | in-Some w ↦
          rw w.result-is
          (if_ok_map w.lost_part.result _ _ w.lost_part.ensures
          (λ p e. rw e (lost_fits c.self.inside.written c.args.most 0 c.self.inside.segments.entries c.self.invariant.apart c.self.invariant.below)))
      | in-None w ↦
          rw w.result-is
          (if_ok_map w.fresh_part.result _ _ w.fresh_part.ensures
          (λ p e. rw e (fresh_fits c.self.inside.written c.self.inside.sent c.args.most c.self.inside.segments.entries c.self.invariant.apart c.self.invariant.below)))
    ])
