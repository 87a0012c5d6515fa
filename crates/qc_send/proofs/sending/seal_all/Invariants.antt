use Rattle.std.proofs.Common.{◌≡◌, ◌-◌, true, length}
use Rattle.qc_send.specs.Joining.{MayTake}
use Rattle.qc_state.specs.Sending.{SendsAll, going}
use Rattle.qc_state.specs.Tokens.{token_with}
use Rattle.qc_state.specs.Types.{meaning}
use Rattle.qc_state.specs.View.{held, ideal}
use Rattle.qc_send.proofs.sending.seal_all.Given as goal

-- datagrams were sealed, and another one may be begun
abbrev pub invariant-loop-outcome : goal.invariant-loop-outcome
invariant-loop-outcome g l =
    let m = meaning g.U.Session.Session g.U.Session.HeaderKey.HeaderMask g.U.Session.PacketKey.PacketKey g.U.Control.Controller.Controller (token_with g.U.TokenKey.Aead.AeadKey.sealed g.U.TokenKey.HandshakeTokenKey.derived g.U.Time.TimeSource.time_of) in
    record {
      sends : SendsAll m l.now (going (held g.U.Random.Rng.stream l.fn.core l.fn.did) l.fn.batch l.fn.buf.items) (going (held g.U.Random.Rng.stream l.core l.did) l.batch l.buf.items);
      takes : MayTake m l.now (ideal g.U.Random.Rng.stream l.core) l.batch l.space true;
      full : length l.buf.items ≡ l.batch.total;
    }

-- ever fewer may follow
abbrev pub decreases-loop-outcome : goal.decreases-loop-outcome
decreases-loop-outcome g l = l.batch.most - l.batch.made
