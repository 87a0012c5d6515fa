-- The small moves that every step is made of, and what each makes of each group: one table a group, which says
-- "everything else stays" in its last line.
use Rattle.std.specs.Prelude.{◌≡◌, ℕ, ◌<◌, ◌≤◌, nat_le, Bool, true, false, ◌&&◌, not, if◌then◌else◌, List, [], ◌∷◌, ◌++◌, Option, Some, None, is_none}
use Rattle.std.specs.List.{list_any}
use Rattle.rand_core.specs.Stream.{Stream}
use Rattle.qc_base.specs.declared.ecn.EcnCodepoint.{EcnCodepoint}
use Rattle.qc_base.specs.declared.ecn.EcnCodepoint.TheVariants.{Ce}
use Rattle.qc_base.specs.declared.side.Side.{Side}
use Rattle.qc_base.specs.declared.side.Side.TheVariants.{Client, Server}
use Rattle.qc_base.specs.declared.side.SpaceId.{SpaceId}
use Rattle.qc_base.specs.declared.side.SpaceId.TheVariants.{Initial, Handshake, «Data»}
use Rattle.qc_frame.specs.Frame.{FrameValue}
use Rattle.qc_frame.specs.FrameSpelling.{elicits, spelling}
use Rattle.qc_frame.specs.declared.frames.FrameOf.TheVariants as frames
use Rattle.qc_state.specs.declared.form.Form.{Form}
use Rattle.qc_state.specs.declared.numbers.Numbers.{Numbers}
use Rattle.qc_rings.specs.declared.which.Which.{Which}
use Rattle.qc_state.specs.declared.keys.Fresh.{Fresh}
use Rattle.qc_state.specs.declared.keys.KeyGroup.{KeyGroup}
use Rattle.qc_state.specs.declared.keys.SpaceKeys.{SpaceKeys}
use Rattle.qc_state.specs.declared.life.Close.{Close}
use Rattle.qc_state.specs.declared.life.Life.{Life}
use Rattle.qc_state.specs.declared.life.State.{State}
use Rattle.qc_state.specs.declared.life.ConnectionError.{ConnectionError}
use Rattle.qc_state.specs.declared.paths.Paths.{Paths}
use Rattle.qc_state.specs.declared.timers.Timers.{Timers}
use Rattle.qc_params.specs.declared.params.TransportParameters.{TransportParameters}
use Rattle.qc_base.specs.declared.ids.IssuedCid.{IssuedCid}
use Rattle.qc_cids.specs.Cids.{asks_one, give_refusal, next_token, token_by}
use Rattle.qc_cids.specs.Steps as ids
use Rattle.qc_frame.specs.declared.frames.NewConnectionId.{NewConnectionId}
use Rattle.qc_ids.specs.CidQueue.{active_of}
use Rattle.qc_ids.specs.Expiries.{oldest_time}
use Rattle.qc_ids.specs.LocalCids.{may_retire}
use Rattle.qc_path.specs.Acks.{next_bundle}
use Rattle.qc_path.specs.Arrived.{arrived}
use Rattle.qc_path.specs.Pacing.{Bucket}
use Rattle.qc_path.specs.RoundTrips.{estimate}
use Rattle.qc_path.specs.declared.pending_acks.Arrival.{Arrival}
use Rattle.qc_state.specs.declared.waiting.Waiting.{Waiting}
use Rattle.qc_state.specs.declared.setup.Setup.{Setup}
use Rattle.qc_state.specs.declared.lower.Lower.{Lower}
use Rattle.qc_state.specs.declared.opening.Signs.{Signs}
use Rattle.qc_state.specs.declared.deeds.Did.{Did}
use Rattle.qc_state.specs.declared.deeds.Did.TheVariants as did
use Rattle.qc_state.specs.declared.deeds.Layer.TheVariants as layer
use Rattle.qc_state.specs.declared.deeds.Quiet.{Quiet}
use Rattle.qc_state.specs.declared.deeds.Verdict.{Verdict}
use Rattle.qc_state.specs.declared.deeds.Verdict.TheVariants as verdict
use Rattle.qc_recovery.specs.Steps.{After, FiredAfter, path_dropped}
use Rattle.qc_recovery.specs.declared.path.PathData.{PathData}
use Rattle.qc_state.specs.Acks.{is_ack}
use Rattle.qc_state.specs.Draws.{word}
use Rattle.qc_state.specs.Life.{rank_of, is_open, is_over, is_closed, is_drained, reason_given, life_raised, life_closed, life_drained, life_established, data_ready, token_learned, identifiers_wanted, retirement_told, token_told, ready_reported, connected_reported, datagram_heard, more_heard, heard_reported, all_heard_reported, lost_reported, notice_reported, notices_reported, drained_reported, is_established, is_handshake}
use Rattle.qc_state.specs.Numbers.{next_number, received_number, number_used, number_skipped, is_skipped, is_new_in, came_in, number_entered, number_accepted, number_acked, space_renewed}
use Rattle.qc_state.specs.Forms.{is_early, number_space}
use Rattle.qc_state.specs.Keys.{NewKeys, NoKeys, HandshakeKeys, DataKeys, epoch_in, form_in, has_keys_for, key_acked, key_discarded, key_opened, key_used, failure_counted, keys_given, keys_dropped, ring_of, sets_floor, key_updated, ring_may_update, initial_renewed}
use Rattle.qc_state.specs.Flight.{flown_packet}
use Rattle.qc_state.specs.Ids.{active_limit, fired_ids, lost_ids}
use Rattle.qc_state.specs.Lower.{bytes_came, frames_sealed, ids_stepped, session_asked, session_read, session_wrote, flight_dropped, packet_flown, packets_settled, timer_fired, streams_stepped, datagrams_stepped, frame_handed, limits_learned, streams_closed, event_told, events_told}
use Rattle.qc_state.specs.Offers.{packet_begun}
use Rattle.qc_state.specs.Paths.{is_blocked, path_capped, path_probed, path_quiet, path_sent, path_received, path_accepted, path_kept, path_named, path_spun, peer_fixed}
use Rattle.qc_state.specs.Recovering.{loss_time, probe_timeout_now}
use Rattle.qc_state.specs.Setup.{idle_limit_now, packet_drawn, parameters_known, peer_delay, retry_taken, token_expected, tokens_drawn, word_drawn}
use Rattle.qc_state.specs.Spaces.{is_space}
use Rattle.qc_state.specs.Streams.{is_given_to_streams}
use Rattle.qc_state.specs.StreamFrames.{acked_steps, fired_steps, lost_steps, sealed_steps}
use Rattle.qc_streams.specs.Steps.{AllMay, MayStep}
use Rattle.qc_streams.specs.Waits as streams
use Rattle.qc_datagrams.specs.Steps as datagrams
use Rattle.qc_state.specs.Datagrams.{sealed_datagrams, shrunk_by, tells_datagram, told_by_all}
use Rattle.qc_state.specs.Timers.{timers_sealed, timers_acking, timers_discarded, timers_keeping, timers_stopped, timers_closing, timers_accepted, timers_holding, timers_paced, timers_held, timers_released, timers_issued, timers_outlived, timers_armed, clock_set}
use Rattle.qc_state.specs.Tokens.{asked_tokens}
use Rattle.qc_state.specs.Types.{Types}
use Rattle.qc_state.specs.View.{View, At, at}
use Rattle.qc_state.specs.Waiting.{ping_asked, done_asked, waiting_without, close_begun, packet_told, packet_came, packets_acked, packets_lost, fired_in, crypto_written, space_left, hello_again, holds_back, ack_released, bundle_next, tokens_asked}

-- whether a frame closes the connection (RFC 9000, section 19.19)
abbrev pub is_close : FrameValue → Bool
is_close (frames.ConnectionClose code type reason) = true
is_close (frames.ApplicationClose code reason) = true
is_close _ = false

-- whether a mark tells of congestion (RFC 3168)
abbrev pub tells_congestion : Option EcnCodepoint → Bool
tells_congestion (Some Ce) = true
tells_congestion _ = false

-- a packet that came at a time, as the space's ACKs are told of it
abbrev pub arrival_of : (time number : ℕ) → (eliciting : Bool) → Signs → Arrival
arrival_of time n eliciting signs = record { number = n; at = time; ack_eliciting = eliciting; ce = tells_congestion signs.mark }

-- this end is the client
abbrev pub is_client : Side → Bool
is_client Client = true
is_client Server = false

-- from the rise to Closed on, a packet holds a close
abbrev pub ClosesOnly : ℕ → List FrameValue → Type 0
ClosesOnly rank fs = 2 ≤ rank → list_any is_close fs ≡ true

-- whether the number of a packet with this verdict counts as come from then on
abbrev pub enters : Verdict → Bool
enters verdict.Ignored = false
enters verdict.Failure = false
enters verdict.BadBits = false
enters verdict.BadUpdate = false
enters verdict.Seen = false
enters verdict.ReadForClose = true
enters verdict.NumberOnly = true
enters verdict.AckOnly = true
enters verdict.Admitted = true
enters verdict.RetryTaken = false
enters verdict.Versions = false

-- whether a packet with this verdict is to be acknowledged from then on
abbrev pub accepts : Verdict → Bool
accepts verdict.AckOnly = true
accepts verdict.Admitted = true
accepts _ = false

-- a deed that tells of a packet whose number doesn't count, or of a frame that was given to a layer
abbrev pub IsTold : Did → Type 0
IsTold (did.Piece space number verdict) = enters verdict ≡ false
IsTold (did.Gave layer body) = Unit {0}
IsTold _ = ⊥

-- what is told of a frame that the streams are handed
abbrev pub told_to_streams : FrameValue → List Did
told_to_streams frame = if is_given_to_streams frame then did.Gave layer.Streams (spelling frame) ∷ [] else []

-- whether a step of the streams is a call of the application's
abbrev pub is_call : streams.Step → Bool
is_call (streams.Opened dir) = true
is_call (streams.Accepted dir) = true
is_call (streams.Wrote id n chunk) = true
is_call (streams.Refused e id) = true
is_call (streams.Finished id) = true
is_call (streams.WasReset code id) = true
is_call (streams.Began ordered id) = true
is_call (streams.Read ordered result id) = true
is_call (streams.Stopped code id) = true
is_call (streams.ResetAsked id) = true
is_call (streams.PrioritySet priority id) = true
is_call (streams.SendWindowSet n) = true
is_call (streams.ReceiveWindowSet n) = true
is_call (streams.ConcurrentSet dir n) = true
is_call _ = false

-- whether a step of the datagrams is a call of the application's
abbrev pub is_post : datagrams.Step → Bool
is_post (datagrams.Came d) = false
is_post datagrams.Taken = true
is_post (datagrams.Sent most drops d) = true
is_post datagrams.Sealed = false
is_post (datagrams.Shrunk most) = false

-- the deeds, told one after another
abbrev pub told : List Did → List Did → List Did
told ds [] = ds
told ds (e ∷ es) = told (ds ++ e ∷ []) es

-- keys that are given are those of the space behind the highest one
abbrev pub AreNext : {H P : Type 0} → NewKeys H P → (highest : SpaceId) → Type 0
AreNext NoKeys highest = Unit {0}
AreNext (HandshakeKeys keys) highest = highest ≡ Initial
AreNext (DataKeys keys) highest = highest ≡ Handshake

-- the moves
pub data Move (t : Types) : Type 0 where
  Clock : (time : ℕ) → Move t  -- the connection is told a time
  Ask : (id : SpaceId) → Move t  -- a PING is asked for
  Take : (id : SpaceId) → (frames : List FrameValue) → Move t  -- frames leave what waits, to be sealed
  Seal : (time : ℕ) → (form : Form) → (number size : ℕ) → (frames : List FrameValue) → Move t  -- a packet is sealed
  Forget : (id : SpaceId) → Move t  -- the keys of a space are dropped
  Expect : (token : List ℕ) → Move t  -- a server's first packet came
  Enter : (id : SpaceId) → (number : ℕ) → (verdict : Verdict) → Move t  -- a packet came whose number counts, and whose frames don't
  Renew : (time : ℕ) → (cid token : List ℕ) → (keys : SpaceKeys t.H t.P) → Move t  -- a Retry with this source id and this token was taken; the session gave these keys of that id
  Fail : Move t  -- a packet didn't open
  Unseal : (time number : ℕ) → (which : Which) → (fresh : Option (Fresh t.P)) → (session : t.S) → Move t  -- a 1-RTT packet of this number was opened by these keys of the ring; as the next ones begin a new epoch, the session gave what that takes with it
  Update : (fresh : Option (Fresh t.P)) → (session : t.S) → Move t  -- this end begins a new epoch of its 1-RTT keys, for which the session gave what that takes with it
  Discard : Move t  -- the 1-RTT keys of the epoch before were kept for as long as they are to be
  Accept : (time : ℕ) → (id : SpaceId) → (number : ℕ) → (eliciting : Bool) → (signs : Signs) → (verdict : Verdict) → Move t  -- a packet was accepted
  Fix : (cid : List ℕ) → Move t  -- the peer has chosen its id
  Hear : (bytes : ℕ) → Move t  -- so many bytes came from the path's address
  Ack : (id : SpaceId) → (largest : ℕ) → (after : After t.C) → Move t  -- the peer acknowledged packets, which leaves this of loss recovery
  Fire : (after : FiredAfter t.C) → Move t  -- the loss timer fired, which leaves this of loss recovery
  Arm : (at : Option ℕ) → Move t  -- the loss timer is set, or stopped
  Pace : Move t  -- a datagram that the pacer held back may go
  Release : Move t  -- an ACK that was held back is owed
  Begin : (id : SpaceId) → (opens : Bool) → Move t  -- a packet is begun, and its own bits are drawn; where it opens a datagram, this spends a probe that is due in its space; streams that may owe something are looked at
  Skip : Move t  -- the next number of 1-RTT packets is skipped
  Come : (id : SpaceId) → (offset : ℕ) → (bytes : List ℕ) → Move t  -- bytes of a CRYPTO stream came
  Read : (id : SpaceId) → (count : ℕ) → (session : t.S) → Move t  -- the session was given so many of them
  Write : (bytes : List ℕ) → (keys : NewKeys t.H t.P) → (session : t.S) → Move t  -- the session wrote bytes, and gave keys
  Ready : Move t  -- what the handshake settles is ready
  Token : (token : List ℕ) → Move t  -- the peer's token for a stateless reset was read
  Learn : (parameters : TransportParameters) → Move t  -- the peer's parameters were read
  Want : (time count : ℕ) → Move t  -- so many identifiers are wanted
  Confirm : Move t  -- a server has confirmed the handshake
  Establish : Move t  -- the handshake is over
  Tell : (did : Did) → Move t  -- a packet that enters no number is told of, or a frame is given to a layer
  PeerClosesToo : Move t  -- the peer closed as well
  PeerCloses : (time : ℕ) → Move t  -- the peer closed
  Owe : Move t  -- a close is owed again
  Shut : (time : ℕ) → (close : Close) → Move t  -- this end closes
  Raise : (to : State) → Move t  -- the life rises
  Give : (why : ConnectionError) → Move t  -- a reason for the end is given
  Spend : (tokens : Bucket) → Move t  -- a packet that counts as in flight is taken out of the pacer's tokens
  Hold : (until : Option ℕ) → Move t  -- the pacer holds a datagram back until a time
  Finish : (bytes : ℕ) → (control : t.C) → Move t  -- a transmit ends that sealed packets: so many bytes go to the path's address, and the controller is told
  Probe : (time number bytes : ℕ) → (quiet : Quiet) → Move t  -- a probe of the path's size was sealed, of so many bytes, by a transmit that would have sealed nothing for this cause
  Say : (quiet : Quiet) → Move t  -- a transmit sends nothing, for this cause
  Hand : (frame : FrameValue) → Move t  -- the streams or the datagrams are handed a frame, which they may refuse
  Insert : (new : NewConnectionId) → Move t  -- the ids are handed a NEW_CONNECTION_ID, which they may refuse
  Switch : Move t  -- packets to the peer carry the next of its ids from then on
  Retire : (time sequence : ℕ) → Move t  -- the ids are handed a RETIRE_CONNECTION_ID, which they may refuse
  Issue : (time : ℕ) → (given : List IssuedCid) → Move t  -- ids of this end are given
  Outlive : Move t  -- the oldest ids of this end have grown old
  Call : (step : streams.Step) → Move t  -- the application makes a call of the streams, which is this step of theirs
  ReportReady : Move t  -- that the handshake's data is ready is reported
  ReportConnected : Move t  -- that the handshake is over is reported
  Post : (step : datagrams.Step) → Move t  -- the application sends a datagram, or takes one that came
  ReportHeard : Move t  -- the first that waits of datagrams is reported
  ReportAllHeard : Move t  -- all that waits of datagrams is reported
  ReportStream : Move t  -- the streams are asked for an event, and the first that waits is reported
  ReportStreams : Move t  -- all events of the streams are reported
  ReportLost : Move t  -- the reason of the end is reported
  ReportNotice : Move t  -- the first that waits for the endpoint before the end is reported
  ReportNotices : Move t  -- all that waits for the endpoint before the end is reported
  ReportDrained : Move t  -- the end is reported

module _ {t : Types} where
  unfoldable pub numbers_move : Move t → View t → Numbers
  numbers_move (Seal time form n size fs) s = number_used s.numbers (number_space form) n
  numbers_move Skip s = number_skipped s.numbers (word s.setup.random)
  numbers_move (Enter id n v) s = number_entered s.numbers id n
  numbers_move (Accept time id n e g v) s = number_accepted s.numbers id n
  numbers_move (Ack id n r) s = number_acked s.numbers id n
  numbers_move (Renew time cid token keys) s = space_renewed s.numbers time
  numbers_move _ s = s.numbers

  unfoldable pub keys_move : Move t → View t → KeyGroup t.H t.P
  keys_move (Seal time form n size fs) s = key_used s.keys form n
  keys_move (Forget id) s = keys_dropped s.keys id
  keys_move Fail s = failure_counted s.keys
  keys_move (Unseal time n which fresh session) s = key_opened s.keys which n fresh
  keys_move (Ack id n r) s = key_acked s.keys id n
  keys_move (Update fresh session) s = key_updated s.keys fresh
  keys_move Discard s = key_discarded s.keys
  keys_move (Write bytes keys session) s = keys_given s.keys keys
  keys_move (Renew time cid token keys) s = initial_renewed s.keys keys
  keys_move _ s = s.keys

  unfoldable pub life_move : Move t → View t → Life
  life_move (Shut time close) s = life_closed s.life close
  life_move (PeerCloses time) s = life_drained s.life
  life_move PeerClosesToo s = life_drained s.life
  life_move Ready s = data_ready s.life
  life_move Establish s = life_established s.life
  life_move (Token token) s = token_learned s.life s.paths.current.remote token
  life_move (Want time count) s = identifiers_wanted s.life time count
  life_move (Insert new) s = token_told s.life s.paths.current.remote (token_by new s.lower.ids.remote)
  life_move Switch s = token_told s.life s.paths.current.remote (next_token s.lower.ids.remote)
  life_move (Retire time n) s =
      if may_retire n s.lower.ids.local then retirement_told s.life time n (asks_one (active_limit s.setup.peer) n s.lower.ids) else s.life
  life_move (Raise to) s = life_raised s.life to
  life_move (Take id fs) s = more_heard (told_by_all (sealed_datagrams fs) s.lower.datagrams) s.life
  life_move (Hand frame) s = datagram_heard (tells_datagram frame s.lower.datagrams) s.life
  life_move (Give why) s = reason_given s.life why
  life_move ReportReady s = ready_reported s.life
  life_move ReportConnected s = connected_reported s.life
  life_move ReportHeard s = heard_reported s.life
  life_move ReportAllHeard s = all_heard_reported s.life
  life_move ReportLost s = lost_reported s.life
  life_move ReportNotice s = notice_reported s.life
  life_move ReportNotices s = notices_reported s.life
  life_move ReportDrained s = drained_reported s.life
  life_move _ s = s.life

  unfoldable pub paths_move : Move t → View t → Paths t.C
  paths_move (Spend tokens) s = path_kept s.paths (record s.paths.current.kept { pacing = tokens })
  paths_move (Finish bytes control) s = path_sent (path_kept s.paths (record s.paths.current.kept { congestion = control })) bytes
  paths_move (Fix cid) s = peer_fixed s.paths cid
  paths_move (Renew time cid token keys) s = path_named s.paths cid
  paths_move (Insert new) s = path_named s.paths (active_of (ids.after_step (ids.NewCame new) s.lower.ids).remote)
  paths_move Switch s = path_named s.paths (active_of (ids.after_step ids.Switched s.lower.ids).remote)
  paths_move (Learn parameters) s = path_named (path_capped s.paths parameters) (active_of (limits_learned parameters s.lower).ids.remote)
  paths_move (Accept time id n e g v) s = path_spun (path_accepted s.paths id v) s.setup.fixed.side (nat_le (received_number s.numbers id) n) g.spin
  paths_move (Hear bytes) s = path_received s.paths bytes
  paths_move (Forget id) s = path_kept s.paths (path_dropped id s.paths.current.kept)
  paths_move (Ack id n r) s = path_kept s.paths r.path
  paths_move (Fire r) s = path_kept s.paths r.path
  paths_move (Probe time n bytes q) s = path_probed s.paths time n bytes q
  paths_move (Say q) s = path_quiet s.paths q
  paths_move _ s = s.paths

  unfoldable pub timers_move : Move t → View t → Timers
  timers_move (Clock time) s = clock_set s.timers time
  timers_move (Seal time form n size fs) s =
      timers_acking (if list_any elicits fs then timers_sealed s.timers (idle_limit_now s.setup) (probe_timeout_now s (number_space form)) time else s.timers) (list_any is_ack fs)
  timers_move (Accept time id n e g v) s =
      timers_holding (timers_accepted s.timers (idle_limit_now s.setup) (probe_timeout_now s id) time)
      (holds_back s.waiting id (arrived n (came_in s.numbers id)) (arrival_of time n e g)) time
  timers_move (Unseal time n which fresh session) s = if sets_floor which fresh (ring_of s.keys) then timers_keeping s.timers (probe_timeout_now s «Data») time else s.timers
  timers_move Discard s = timers_discarded s.timers
  timers_move Pace s = timers_paced s.timers
  timers_move (Hold until) s = timers_held s.timers until
  timers_move Release s = timers_released s.timers
  timers_move (Arm at) s = timers_armed s.timers at
  timers_move (Issue time given) s =
      if is_drained s.life.state then s.timers else timers_issued s.timers (oldest_time (ids.after_step (ids.Given given time) s.lower.ids).local.expiries) time
  timers_move Outlive s = timers_outlived s.timers
  timers_move (Shut time close) s = timers_closing s.timers (probe_timeout_now s s.keys.highest) time
  timers_move (PeerCloses time) s = timers_closing s.timers (probe_timeout_now s s.keys.highest) time
  timers_move (Raise to) s = timers_stopped s.timers
  timers_move _ s = s.timers

  unfoldable pub waiting_move : Move t → View t → Waiting
  waiting_move (Ask id) s = ping_asked s.waiting id
  waiting_move (Take id fs) s = waiting_without s.waiting id fs
  waiting_move (Begin id opens) s = (packet_begun id opens s).waiting
  waiting_move (Seal time form n size fs) s =
      bundle_next (packet_told s.waiting (is_space (number_space form) s.keys.highest)) fs (next_bundle time (estimate s.paths.current.kept.rtt) (peer_delay s.setup.peer))
  waiting_move (Forget id) s = space_left s.waiting id
  waiting_move (Renew time cid token keys) s = hello_again s.waiting
  waiting_move (Accept time id n e g v) s = tokens_asked (asked_tokens id v s.issuer) (packet_came s.waiting id (arrived n (came_in s.numbers id)) (arrival_of time n e g) g.mark)
  waiting_move (Write bytes keys session) s = crypto_written s.waiting s.keys.highest bytes
  waiting_move Confirm s = done_asked s.waiting
  waiting_move (Ack id n r) s = packets_lost (packets_acked s.waiting id r.acked) id r.lost
  waiting_move (Fire r) s = fired_in s.waiting r.fired
  waiting_move Release s = ack_released s.waiting
  waiting_move Owe s = close_begun s.waiting
  waiting_move (Shut time close) s = close_begun s.waiting
  waiting_move _ s = s.waiting

  unfoldable pub setup_move : Move t → View t → Setup Stream
  setup_move (Expect token) s = token_expected s.setup token
  setup_move (Renew time cid token keys) s = retry_taken s.setup cid token
  setup_move (Learn parameters) s = parameters_known s.setup parameters
  setup_move (Take id fs) s = tokens_drawn fs s.setup
  setup_move Skip s = word_drawn s.setup
  setup_move (Begin id opens) s = packet_drawn s.setup (form_in s.keys id)
  setup_move _ s = s.setup

  -- the steps of the datagrams where loss recovery keeps this of the path in use from then on
  abbrev pub shrunk_steps : PathData t.C → View t → List datagrams.Step
  shrunk_steps kept s = shrunk_by s.paths.current.kept.mtud.current (record s.paths.current { kept = kept }) s.setup.peer

  unfoldable pub lower_move : Move t → View t → Lower t.S
  lower_move (Seal time form n size fs) s = if s.waiting.close_owed then s.lower else packet_flown s.lower (number_space form) n (flown_packet time size fs)
  lower_move (Take id fs) s = frames_sealed fs s.lower
  lower_move (Begin id opens) s = (packet_begun id opens s).lower
  lower_move (Forget id) s = flight_dropped s.lower id
  lower_move (Renew time cid token keys) s = ids_stepped (ids.Renamed cid ∷ []) (flight_dropped s.lower Initial)
  lower_move (Ack id n r) s = datagrams_stepped (shrunk_steps r.path s) (ids_stepped (lost_ids r.lost) (streams_stepped (acked_steps r.acked ++ lost_steps r.lost) (packets_settled s.lower r)))
  lower_move (Fire r) s = datagrams_stepped (shrunk_steps r.path s) (ids_stepped (fired_ids r.fired) (streams_stepped (fired_steps r.fired) (timer_fired s.lower r)))
  lower_move (Fix cid) s = ids_stepped (ids.Renamed cid ∷ []) s.lower
  lower_move (Want time count) s = ids_stepped (ids.Asked count ∷ []) s.lower
  lower_move (Insert new) s = ids_stepped (ids.NewCame new ∷ []) s.lower
  lower_move Switch s = ids_stepped (ids.Switched ∷ []) s.lower
  lower_move (Retire time n) s = ids_stepped (ids.RetireCame (active_limit s.setup.peer) n ∷ []) s.lower
  lower_move (Issue time given) s = ids_stepped (ids.Given given time ∷ []) s.lower
  lower_move Outlive s = ids_stepped (ids.Expired ∷ []) s.lower
  lower_move (Come id offset bytes) s = bytes_came s.lower id offset bytes
  lower_move (Read id count session) s = session_read s.lower id count session
  lower_move (Write bytes keys session) s = session_wrote s.lower session
  lower_move (Unseal time n which fresh session) s = session_asked s.lower session
  lower_move (Update fresh session) s = session_asked s.lower session
  lower_move (Learn parameters) s = limits_learned parameters s.lower
  lower_move (Hand frame) s = frame_handed frame s.lower
  lower_move (Call x) s = streams_stepped (x ∷ []) s.lower
  lower_move (Post x) s = datagrams_stepped (x ∷ []) s.lower
  lower_move (Shut time close) s = streams_closed s.lower
  lower_move (PeerCloses time) s = streams_closed s.lower
  lower_move PeerClosesToo s = streams_closed s.lower
  lower_move (Raise to) s = streams_closed s.lower
  lower_move ReportStream s = event_told s.lower
  lower_move ReportStreams s = events_told s.lower
  lower_move _ s = s.lower

  unfoldable pub deeds_move : Move t → View t → List Did
  deeds_move (Seal time form n size fs) s = did.Sealed (number_space form) n (epoch_in s.keys form) (is_early form) fs ∷ []
  deeds_move (Enter id n v) s = did.Piece (Some id) (Some n) v ∷ []
  deeds_move (Accept time id n e g v) s = did.Piece (Some id) (Some n) v ∷ []
  deeds_move (Renew time cid token keys) s = did.Piece None None verdict.RetryTaken ∷ []
  deeds_move Establish s = did.Rose 1 ∷ []
  deeds_move (Tell d) s = d ∷ []
  deeds_move (Hand frame) s = told_to_streams frame
  deeds_move (Insert new) s = did.Gave layer.Ids (spelling (frames.NewConnectionId new)) ∷ []
  deeds_move (Retire time n) s = did.Gave layer.Ids (spelling (frames.RetireConnectionId n)) ∷ []
  deeds_move (Shut time close) s = did.Rose 2 ∷ []
  deeds_move (PeerCloses time) s = did.Rose 3 ∷ []
  deeds_move PeerClosesToo s = did.Rose 3 ∷ []
  deeds_move (Raise to) s = did.Rose (rank_of to) ∷ []
  deeds_move (Give why) s = did.Lost why ∷ []
  deeds_move (Say q) s = did.Quiet q ∷ []
  deeds_move _ s = []

  unfoldable pub state_move : Move t → View t → View t
  state_move x s = record {
    numbers = numbers_move x s;
    keys = keys_move x s;
    life = life_move x s;
    paths = paths_move x s;
    timers = timers_move x s;
    waiting = waiting_move x s;
    setup = setup_move x s;
    lower = lower_move x s;
    issuer = s.issuer;
  }

  -- the loss timer is set to the time that recovery gives with the view, at a time and with word on whether datagrams may be begun
  pub record IsArmed (due : Option ℕ) (s : View t) : Type 0 where
    pub blocked : Bool
    pub time : ℕ
    pub set : due ≡ loss_time s blocked time

  -- a client that the server hasn't answered in its handshake: no packet of the server's was accepted, so that it hasn't chosen its id, and no
  -- Retry was taken (RFC 9000, sections 6.2 and 17.2.5.2)
  unfoldable pub is_unanswered : View t → Bool
  is_unanswered s = is_client s.setup.fixed.side && (is_handshake s.life.state && (not s.numbers.opened && (is_none s.paths.peer_cid && is_none s.setup.retry_cid)))

  -- where a move may be made once a call has begun, for which the time was told
  unfoldable pub MayMove : Move t → View t → Type 0
  MayMove (Clock time) s = ⊥
  MayMove (Seal time form n size fs) s = (n ≡ next_number s.numbers (number_space form)) × ClosesOnly (rank_of s.life.state) fs × (is_drained s.life.state ≡ false) × (has_keys_for s.keys form ≡ true)
  MayMove (Take id fs) s = AllMay (sealed_steps fs) s.lower.streams
  MayMove Skip s = is_skipped s.numbers «Data» ≡ true
  MayMove (Accept time id n e g v) s = (is_new_in s.numbers id n ≡ true) × (enters v ≡ true) × (is_open s.life.state ≡ true)
  MayMove (Enter id n v) s = (is_new_in s.numbers id n ≡ true) × (enters v ≡ true)
  MayMove (Fix cid) s = s.paths.peer_cid ≡ None
  MayMove (Renew time cid token keys) s = is_unanswered s ≡ true
  MayMove (Arm due) s = IsArmed due s
  MayMove (Write bytes keys session) s = AreNext keys s.keys.highest
  MayMove (Unseal time n which fresh session) s = is_over s.life.state ≡ false
  MayMove (Update fresh session) s = (is_established s.life.state ≡ true) × (ring_may_update s.keys.«data» ≡ true)
  MayMove Establish s = rank_of s.life.state < 1
  MayMove (Tell d) s = IsTold d
  MayMove (Post x) s = is_post x ≡ true
  MayMove (Issue time given) s = give_refusal given s.lower.ids ≡ None
  MayMove (Call x) s = (is_call x ≡ true) × MayStep x s.lower.streams
  MayMove (Shut time close) s = rank_of s.life.state < 2
  MayMove (PeerCloses time) s = rank_of s.life.state < 3
  MayMove PeerClosesToo s = is_closed s.life.state ≡ true
  MayMove Owe s = is_open s.life.state ≡ false
  MayMove (Raise to) s = rank_of s.life.state < rank_of to
  MayMove (Probe time n bytes q) s = s.paths.current.validated ≡ true
  MayMove (Hold until) s = is_drained s.life.state ≡ false
  MayMove (Give why) s = s.life.reason ≡ None
  MayMove _ s = Unit {0}

  unfoldable pub move_to : Move t → At t → At t
  move_to x a = at (state_move x a.state) (told a.did (deeds_move x a.state))

  -- the loss timer is set anew at a time; `blocked` says that no datagram may be begun
  unfoldable pub armed_with : (blocked : Bool) → (time : ℕ) → At t → At t
  armed_with blocked time a = move_to (Arm (loss_time a.state blocked time)) a

  -- so it is, as the path stands
  unfoldable pub armed_after : (time : ℕ) → At t → At t
  armed_after time a = armed_with (is_blocked a.state.paths) time a
