use Rattle.qc_state.specs.View.{ideal}
use Rattle.qc_send.proofs.Rooms.{room_handshake, room_initial, room_short}
use Rattle.qc_send.proofs.joining.room_for.Goals as goal

-- its header is then as it is now, but for the number of a 1-RTT packet
pub returns-in-Initial : goal.returns-in-Initial
returns-in-Initial g c = room_initial c.args.left _ (ideal g.U.Random.Rng.stream c.args.core.now) c.args.space c.in-Initial.is c.frame_room-initial.ensures.value

pub returns-in-Handshake : goal.returns-in-Handshake
returns-in-Handshake g c = room_handshake c.args.left _ (ideal g.U.Random.Rng.stream c.args.core.now) c.args.space c.in-Handshake.is c.frame_room-handshake.ensures.value

pub returns-in-Data : goal.returns-in-Data
returns-in-Data g c = room_short c.args.left _ (ideal g.U.Random.Rng.stream c.args.core.now) c.args.space c.in-Data.is c.short_room-application.ensures
