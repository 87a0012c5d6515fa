use Rattle.std.proofs.Common.{◌≡◌, ◌+◌, length}
use Rattle.qc_send.specs.Joining.{MayTake, made_with, packets_from}
use Rattle.qc_state.specs.Sending.{SendsAll, going}
use Rattle.qc_state.specs.Tokens.{token_with}
use Rattle.qc_state.specs.Types.{meaning}
use Rattle.qc_state.specs.View.{held, ideal}
use Rattle.qc_send.proofs.sending.fill.Given as goal

-- packets were sealed, and another one may be taken
abbrev pub invariant-loop-next : goal.invariant-loop-next
invariant-loop-next g l =
    let m = meaning g.U.Session.Session g.U.Session.HeaderKey.HeaderMask g.U.Session.PacketKey.PacketKey g.U.Control.Controller.Controller (token_with g.U.TokenKey.Aead.AeadKey.sealed g.U.TokenKey.HandshakeTokenKey.derived g.U.Time.TimeSource.time_of) in
    record {
      sends : SendsAll m l.now (going (held g.U.Random.Rng.stream l.fn.core l.fn.did) l.fn.batch l.fn.buf.items) (going (held g.U.Random.Rng.stream l.core l.did) l.batch l.buf.items);
      takes : MayTake m l.now (ideal g.U.Random.Rng.stream l.core) l.batch l.space l.opens;
      made : made_with l.opens l.batch.made ≡ l.fn.batch.made + 1;
      most : l.batch.most ≡ l.fn.batch.most;
      full : length l.buf.items ≡ l.batch.total;
    }

-- its space is a later one
abbrev pub decreases-loop-next : goal.decreases-loop-next
decreases-loop-next g l = packets_from l.space
