use Rattle.qc_admit.proofs.PayloadFrames.{payload_done}
use Rattle.qc_admit.proofs.payloads.apply_payload.Goals as goal

-- the frames of a payload with bytes
pub returns-in-Ok : goal.returns-in-Ok
returns-in-Ok g c = payload_done _ _ _ _ _ _ _ _ c.in-Ok.ensures.bytes c.in-Ok.ensures.empty.1 c.items.ensures
