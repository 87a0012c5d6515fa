use Rattle.qc_state.specs.Sending.{going}
use Rattle.qc_state.specs.View.{held}
use Rattle.qc_send.proofs.Loops.{fewer_begins, outcome_begins, outcome_dies, outcome_ends}
use Rattle.qc_send.proofs.Sends.{sends_join, sends_none, up_begins, up_goes, up_join, up_killed}
use Rattle.qc_send.proofs.Transmits.{dies_so, ends_so}
use Rattle.qc_send.proofs.sending.seal_all.Goals as goal

-- nothing was sealed so far
pub loop-outcome-init : goal.loop-outcome-init
loop-outcome-init g c = record { sends = sends_none _ _ _; takes = c.requires.takes; full = c.requires.full }

-- another datagram begins
pub loop-outcome-smaller : goal.loop-outcome-smaller
loop-outcome-smaller g c = fewer_begins c.loop-outcome.batch c.datagram_in.new.batch _ c.in-Begins.next c.in-Begins.is c.in_ok-outcome.ensures.falls

pub loop-outcome-preserved : goal.loop-outcome-preserved
loop-outcome-preserved g c = record {
  sends = sends_join _ _ _ _ _ c.loop-outcome.invariant.sends (up_begins _ _ _ c.in-Begins.next _ _ c.in-Begins.is c.in_ok-outcome.ensures.sends);
  takes = outcome_begins _ _ _ _ _ c.in-Begins.next c.in-Begins.is c.in_ok-outcome.ensures.next;
  full = c.in_ok-outcome.ensures.full;
}

-- the transmit ends
pub returns-in-Ends : goal.returns-in-Ends
returns-in-Ends g c =
    ends_so _ c.args.now _ (going (held g.U.Random.Rng.stream c.datagram_in.new.core c.datagram_in.new.did) c.datagram_in.new.batch c.datagram_in.new.buf.items) _ c.in-Ends.paced _
    (sends_join _ _ _ _ _ c.loop-outcome.invariant.sends (up_goes _ _ _ c.in-Ends.paced _ _ c.in-Ends.is c.in_ok-outcome.ensures.sends)) c.in_ok-outcome.ensures.full
    (outcome_ends _ _ _ _ _ c.in-Ends.paced c.in-Ends.is c.in_ok-outcome.ensures.next).0 (outcome_ends _ _ _ _ _ c.in-Ends.paced c.in-Ends.is c.in_ok-outcome.ensures.next).1
    c.in_ok-sent-in-Ends.ensures.leads c.in_ok-sent-in-Ends.ensures.sent

-- or the connection does
pub returns-in-Dies : goal.returns-in-Dies
returns-in-Dies g c =
    dies_so _ c.args.now _ (going (held g.U.Random.Rng.stream c.datagram_in.new.core c.datagram_in.new.did) c.datagram_in.new.batch c.datagram_in.new.buf.items) _ c.in-Dies.dying.form c.in-Dies.dying.why _ _
    (up_join _ _ _ _ _ _ c.loop-outcome.invariant.sends (up_killed _ _ _ c.in-Dies.dying _ _ c.in-Dies.is c.in_ok-outcome.ensures.sends)) (outcome_dies _ _ _ _ _ c.in-Dies.dying c.in-Dies.is c.in_ok-outcome.ensures.next)
    c.in_ok-sent-in-Dies.ensures.leads c.in_ok-sent-in-Dies.ensures.none c.in_ok-sent-in-Dies.ensures.empty
