use Rattle.std.proofs.Common.{◌≡◌, true, false, subst}
use Rattle.std.specs.Result.{IfOk}
use Rattle.qc_state.specs.Acks.{IsLongAck, IsShortAck, may_acknowledge}
use Rattle.qc_state.specs.Spaces.{space_of}
use Rattle.qc_state.specs.declared.waiting.SpaceWaiting.{SpaceWaiting}
use Rattle.qc_send.proofs.owing.ack_fits.Goals as goal

-- as the layer below says
pub returns-clause-long : goal.returns-clause-long
returns-clause-long g c = subst (λ v. IfOk c.ack_fits.result (λ fits. fits ≡ false → IsLongAck c.args.now (space_of v.waiting.spaces c.args.space) c.args.room)) c.core.view_is c.ack_fits.ensures.long

pub returns-clause-short : goal.returns-clause-short
returns-clause-short g c =
    subst
    (λ v. IfOk c.ack_fits.result
    (λ fits. fits ≡ true → may_acknowledge (space_of {T = SpaceWaiting} v.waiting.spaces c.args.space).acks ≡ true → IsShortAck c.args.now (space_of v.waiting.spaces c.args.space) c.args.room)) c.core.view_is c.ack_fits.ensures.short
