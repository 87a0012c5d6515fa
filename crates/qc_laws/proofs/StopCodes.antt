-- The errors with which a frame stops its packet have other codes than KEY_UPDATE_ERROR.
use Rattle.std.proofs.Common.{◌≡◌, ℕ, List, [], ◌∷◌, subst, Bool, true, false, Option, Some, None, if◌then◌else◌, arith}
use Rattle.std.specs.Prelude.{IfSome, option_map, ◌||◌, nat_le}
use Rattle.qc_base.specs.declared.side.Side.{Side}
use Rattle.qc_base.specs.declared.side.Side.TheVariants.{Client, Server}
use Rattle.qc_base.specs.declared.side.SpaceId.{SpaceId}
use Rattle.qc_base.specs.declared.side.SpaceId.TheVariants.{Initial, Handshake, «Data»}
use Rattle.qc_base.specs.declared.transport_error.TransportError.{TransportError}
use Rattle.qc_cids.specs.Cids.{limit_error, new_refusal, retires_too_many, violation}
use Rattle.qc_cids.specs.Steps.{NewCame, after_step}
use Rattle.qc_cids.specs.declared.connection_ids.ConnectionIds.{ConnectionIds}
use Rattle.qc_datagrams.specs.Datagrams.{is_refused}
use Rattle.qc_datagrams.specs.declared.datagrams.Datagrams.{Datagrams}
use Rattle.qc_frame.specs.Frame.{FrameValue}
use Rattle.qc_frame.specs.declared.frames.FrameOf.TheVariants as frames
use Rattle.qc_frame.specs.declared.frames.NewConnectionId.{NewConnectionId}
use Rattle.qc_ids.specs.LocalCids.{may_retire}
use Rattle.qc_recv.specs.declared.fault.Refusal.TheVariants.{FlowControl, FinalSize, TooManyParts}
use Rattle.qc_streams.specs.Refusals.{code_of}
use Rattle.qc_streams.specs.Steps.{Handed, refusal_of}
use Rattle.qc_streams.specs.declared.fault.Refusal.{Refusal}
use Rattle.qc_streams.specs.declared.fault.Refusal.TheVariants.{State, Limit, Encoding, Side as OfSide}
use Rattle.qc_streams.specs.declared.state.StreamsState.{StreamsState}
use Rattle.qc_state.specs.declared.lower.Lower.{Lower}
use Rattle.qc_state.specs.Acks.{acknowledges_any}
use Rattle.qc_state.specs.Datagrams.{datagram_stop}
use Rattle.qc_state.specs.Ids.{first_error, insert_stop, owes_too_many, retire_stop}
use Rattle.qc_state.specs.Lower.{first_of, handed_stop}
use Rattle.qc_state.specs.Receiving.{crypto_stop, data_stop, done_stop, first_stop, frame_stop, stop_in, token_stop}
use Rattle.qc_state.specs.Stopping.{buffer_error, internal_error_at, violation_at}
use Rattle.qc_state.specs.Streams.{refused_by, stream_frame, streams_stop}
use Rattle.qc_state.specs.Types.{Types}
use Rattle.qc_state.specs.View.{View}
use Rattle.qc_laws.specs.ReasonLaws.{KEY_UPDATE_ERROR}

-- an error has another code
abbrev pub IsOther : TransportError → Type 0
IsOther error = error.code ≡ KEY_UPDATE_ERROR → ⊥

-- so it has, if there is one
abbrev pub IfOther : Option TransportError → Type 0
IfOther o = IfSome o (λ error. IsOther error)

pub is_other : (o : Option TransportError) (error : TransportError) → IfOther o → o ≡ Some error → IsOther error
is_other o error h is = subst (λ (x : Option TransportError). IfOther x) is h

pub violation_other : (type : Option ℕ) → IsOther (violation_at type)
violation_other type code = let c : 0x0a ≡ 0x0e = code in omega (arith, c)

internal_other : (type : Option ℕ) → IsOther (internal_error_at type)
internal_other type code = let c : 0x01 ≡ 0x0e = code in omega (arith, c)

buffer_other : IsOther buffer_error
buffer_other code = let c : 0x0d ≡ 0x0e = code in omega (arith, c)

limit_other : IsOther limit_error
limit_other code = let c : 0x09 ≡ 0x0e = code in omega (arith, c)

if_other : (b : Bool) (error : TransportError) → IsOther error → IfOther (if b then Some error else None)
if_other true error other = other
if_other false error other = tt

-- ---- by a frame's kind

frame_other : (next type : ℕ) (f : FrameValue) → IfOther (frame_stop next type f)
frame_other next type frames.Padding = tt
frame_other next type frames.Ping = tt
frame_other next type (frames.Ack ack) = if_other (nat_le next ack.largest) (violation_at None) (violation_other None)
frame_other next type (frames.Crypto offset body) = tt
frame_other next type (frames.ConnectionClose code frame_type reason) = tt
frame_other next type (frames.ApplicationClose code reason) = tt
frame_other next type _ = violation_other (Some type)

done_other : (side : Side) → IfOther (done_stop side)
done_other Client = tt
done_other Server = violation_other None

token_other : (side : Side) (token : List ℕ) → IfOther (token_stop side token)
token_other Client [] = λ code. let c : 0x07 ≡ 0x0e = code in omega (arith, c)
token_other Client (b ∷ token) = tt
token_other Server token = violation_other None

data_other : (side : Side) (next : ℕ) (skipped : Option ℕ) (type : ℕ) (f : FrameValue) → IfOther (data_stop side next skipped type f)
data_other side next skipped type frames.Padding = tt
data_other side next skipped type frames.Ping = tt
data_other side next skipped type (frames.Ack ack) = if_other (nat_le next ack.largest || acknowledges_any ack skipped) (violation_at None) (violation_other None)
data_other side next skipped type (frames.Crypto offset body) = tt
data_other side next skipped type (frames.ConnectionClose code frame_type reason) = tt
data_other side next skipped type (frames.ApplicationClose code reason) = tt
data_other side next skipped type frames.HandshakeDone = done_other side
data_other side next skipped type (frames.NewToken token) = token_other side token
data_other side next skipped type (frames.ResetStream id code size) = tt
data_other side next skipped type (frames.StopSending id code) = tt
data_other side next skipped type (frames.Stream id offset fin body) = tt
data_other side next skipped type (frames.MaxData limit) = tt
data_other side next skipped type (frames.MaxStreamData id limit) = tt
data_other side next skipped type (frames.MaxStreams dir count) = tt
data_other side next skipped type (frames.DataBlocked limit) = tt
data_other side next skipped type (frames.StreamDataBlocked id limit) = tt
data_other side next skipped type (frames.StreamsBlocked dir limit) = tt
data_other side next skipped type (frames.Datagram body) = tt
data_other side next skipped type (frames.NewConnectionId new) = tt
data_other side next skipped type (frames.RetireConnectionId sequence) = tt
data_other side next skipped type _ = internal_other (Some type)

pub stop_other : (side : Side) (id : SpaceId) (next : ℕ) (skipped : Option ℕ) (type : ℕ) (f : FrameValue) → IfOther (stop_in side id next skipped type f)
stop_other side Initial next skipped type f = frame_other next type f
stop_other side Handshake next skipped type f = frame_other next type f
stop_other side Data next skipped type f = data_other side next skipped type f

-- ---- by CRYPTO bytes

rows_other : (a b c : Bool) (x y z : TransportError) → IsOther x → IsOther y → IsOther z → IfOther (first_stop ((a, x) ∷ (b, y) ∷ (c, z) ∷ []))
rows_other true b c x y z hx hy hz = hx
rows_other false true c x y z hx hy hz = hy
rows_other false false true x y z hx hy hz = hz
rows_other false false false x y z hx hy hz = tt

pub crypto_other : {t : Types} (s : View t) (id : SpaceId) (offset : ℕ) (body : List ℕ) → IfOther (crypto_stop s id offset body)
unfolding crypto_stop
crypto_other s id offset body = rows_other _ _ _ (violation_at None) buffer_error (internal_error_at None) (violation_other None) buffer_other (internal_other None)

-- ---- by the streams and the datagrams

code_other : (r : Refusal) → code_of r ≡ KEY_UPDATE_ERROR → ⊥
code_other State code = let c : 5 ≡ 0x0e = code in omega (arith, c)
code_other Limit code = let c : 4 ≡ 0x0e = code in omega (arith, c)
code_other Encoding code = let c : 7 ≡ 0x0e = code in omega (arith, c)
code_other (OfSide FlowControl) code = let c : 3 ≡ 0x0e = code in omega (arith, c)
code_other (OfSide FinalSize) code = let c : 6 ≡ 0x0e = code in omega (arith, c)
code_other (OfSide TooManyParts) code = let c : 1 ≡ 0x0e = code in omega (arith, c)

abbrev error_of : Refusal → TransportError
error_of r = record { code = code_of r; frame = None }

refusal_other : (o : Option Refusal) → IfOther (option_map error_of o)
refusal_other None = tt
refusal_other (Some r) = λ code. code_other r code

refused_other : (o : Option Handed) (s : StreamsState) → IfOther (refused_by o s)
refused_other None s = tt
refused_other (Some f) s = refusal_other (refusal_of f s)

streams_other : (f : FrameValue) (s : StreamsState) → IfOther (streams_stop f s)
unfolding streams_stop
streams_other f s = refused_other (stream_frame f) s

datagram_other : (f : FrameValue) (d : Datagrams) → IfOther (datagram_stop f d)
datagram_other (frames.Datagram body) d = if_other (is_refused body d) (violation_at None) (violation_other None)
datagram_other _ d = tt

first_other : (a b : Option TransportError) → IfOther a → IfOther b → IfOther (first_of a b)
first_other None b h k = k
first_other (Some error) b h k = h

pub handed_other : {S : Type 0} (f : FrameValue) (l : Lower S) → IfOther (handed_stop f l)
unfolding handed_stop
handed_other f l = first_other (streams_stop f l.streams) (datagram_stop f l.datagrams) (streams_other f l.streams) (datagram_other f l.datagrams)

-- ---- by the ids

two_other : (a b : Bool) (x y : TransportError) → IsOther x → IsOther y → IfOther (if a then Some x else if b then Some y else None)
two_other true b x y hx hy = hx
two_other false true x y hx hy = hy
two_other false false x y hx hy = tt

both_other : (a b : Option TransportError) → IfOther a → IfOther b → IfOther (first_error a b)
both_other None b h k = k
both_other (Some error) b h k = h

pub insert_other : (new : NewConnectionId) (s : ConnectionIds) → IfOther (insert_stop new s)
unfolding insert_stop new_refusal
insert_other new s =
    both_other (new_refusal new s.remote) (owes_too_many (after_step (NewCame new) s)) (two_other _ _ violation limit_error (violation_other None) limit_other)
    (if_other (retires_too_many (after_step (NewCame new) s)) limit_error limit_other)

unless_other : (b : Bool) (error : TransportError) → IsOther error → IfOther (if b then None else Some error)
unless_other true error other = tt
unless_other false error other = other

pub retire_other : (n : ℕ) (s : ConnectionIds) → IfOther (retire_stop n s)
unfolding retire_stop
retire_other n s = unless_other (may_retire n s.local) violation (violation_other None)
