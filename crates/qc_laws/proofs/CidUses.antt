-- Over a run from a new connection on packets carry an id of the peer's that is known, and that it hasn't retired; and the numbers that are told
-- retired lie below that of the id in use.
use Rattle.std.proofs.Common.{ℕ, List, sym, subst, arith}
use Rattle.qc_cids.specs.Cids.{first_ids}
use Rattle.qc_cids.specs.declared.connection_ids.ConnectionIds.{ConnectionIds}
use Rattle.qc_ids.specs.CidQueue.{active_seq_of}
use Rattle.qc_state.specs.declared.input.Input.{Input}
use Rattle.qc_state.specs.declared.trace.Step.{Step as TraceStep}
use Rattle.qc_state.specs.Headline.{deeds_of}
use Rattle.qc_state.specs.Run.{Run}
use Rattle.qc_state.specs.Types.{Types, Meaning}
use Rattle.qc_state.specs.View.{View}
use Rattle.qc_laws.specs.CidLaws.{HasNewIds, UsesPeers}
use Rattle.qc_laws.proofs.CidKept.{run_keeps}
use Rattle.qc_laws.proofs.CidQueues.{Any, Peers}
use Rattle.qc_laws.proofs.CidRuns.{run_retires, run_used}

module _ {t : Types} where
  new_peers : (s : View t) → HasNewIds s → Peers Any s.lower.ids.remote
  unfolding first_ids
  new_peers s new = subst (λ (y : ConnectionIds). Peers Any y.remote) (sym new.ids) (record { some = omega arith; grows = (omega arith, tt); known = (tt, tt) })

  pub run_uses : (m : Meaning t) (k : ℕ) (s : View t) (is : List Input) (xs : List TraceStep) (s' : View t) → Run m k s is xs s' → HasNewIds s → UsesPeers (deeds_of xs) s s'
  run_uses m k s is xs s' r new = record {
    number = active_seq_of s'.lower.ids.remote;
    used = run_used m k s is xs s' r new;
    kept = λ o. run_keeps m k s is xs s' r (new_peers s new) o;
    retired = run_retires m k s is xs s' r new;
  }
