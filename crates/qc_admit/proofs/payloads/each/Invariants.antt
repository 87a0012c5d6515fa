use Rattle.std.proofs.Common.{◌≡◌, length}
use Rattle.qc_admit.proofs.Fitting.{ItemsFit}
use Rattle.qc_frame.specs.Payload.{items_of}
use Rattle.qc_state.specs.Receiving.{Reads, items_after}
use Rattle.qc_state.specs.Tokens.{token_with}
use Rattle.qc_state.specs.Types.{meaning}
use Rattle.qc_state.specs.View.{held}
use Rattle.qc_admit.proofs.payloads.each.Given as goal

-- what the frames that are left make of what stands now is what all make of what stood first, and they fit their fields
abbrev pub invariant-loop-fault : goal.invariant-loop-fault
invariant-loop-fault g l =
    let m = meaning g.U.Session.Session g.U.Session.HeaderKey.HeaderMask g.U.Session.PacketKey.PacketKey g.U.Control.Controller.Controller (token_with g.U.TokenKey.Aead.AeadKey.sealed g.U.TokenKey.HandshakeTokenKey.derived g.U.Time.TimeSource.time_of) in
    record {
      same : items_after m l.coming l.space (items_of l.frames) (Reads l.close (held g.U.Random.Rng.stream l.core l.did))
          ≡ items_after m l.coming l.space (items_of l.fn.frames) (Reads l.fn.close (held g.U.Random.Rng.stream l.fn.core l.fn.did));
      fit : ItemsFit (items_of l.frames);
    }

-- the frames that are left are ever fewer
abbrev pub decreases-loop-fault : goal.decreases-loop-fault
decreases-loop-fault g l = length (items_of l.frames)
