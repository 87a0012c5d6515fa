-- In which order this end takes frames that wait for a packet, and how many: these are the words of the calls that take, and the
-- contract of a transmit has none of them.
use Rattle.std.specs.Prelude.{◌≡◌, ℕ, ◌+◌, ◌-◌, ◌≤◌, Bool, true, false, ◌&&◌, not, ◌⊎◌, if◌then◌else◌, List, [], ◌∷◌, ◌++◌, length, Option, is_some}
use Rattle.rand_core.specs.Stream.{Stream}
use Rattle.std.specs.declared.net.ip_addr.IpAddr.{IpAddr}
use Rattle.qc_frame.specs.Frame.{FrameValue}
use Rattle.qc_frame.specs.FrameFits.{Fits}
use Rattle.qc_frame.specs.FrameSpelling.{frames_spelling, spelling}
use Rattle.qc_frame.specs.declared.frames.FrameOf.TheVariants as frames
use Rattle.qc_state.specs.declared.events.Event.{Event}
use Rattle.qc_state.specs.declared.events.Event.TheVariants.{DatagramsUnblocked}
use Rattle.qc_state.specs.declared.waiting.TheConstants.{CRYPTO_HEAD}
use Rattle.qc_state.specs.declared.waiting.SpaceWaiting.{SpaceWaiting}
use Rattle.qc_datagrams.specs.Steps as datagrams
use Rattle.qc_datagrams.specs.declared.datagrams.Datagrams.{Datagrams}
use Rattle.qc_state.specs.Acks.{AckPart, is_ack_first, is_ack_last, is_ack_owed}
use Rattle.qc_cids.specs.Steps as ids
use Rattle.qc_cids.specs.declared.connection_ids.ConnectionIds.{ConnectionIds}
use Rattle.qc_state.specs.declared.lower.Lower.{Lower}
use Rattle.qc_state.specs.Datagrams.{AllOldest, sealed_datagrams}
use Rattle.qc_state.specs.Ids.{AllNext, sealed_cids}
use Rattle.qc_state.specs.Lower.{frames_sealed}
use Rattle.qc_state.specs.StreamFrames.{control_of, sealed_steps}
use Rattle.qc_state.specs.Tokens.{AllIssued, behind_tokens}
use Rattle.qc_state.specs.Waiting.{StartsWith, crypto_waits, without, without_all}
use Rattle.qc_streams.specs.Steps.{AllMay}
use Rattle.qc_streams.specs.Waits.{after}
use Rattle.qc_streams.specs.declared.state.StreamsState.{StreamsState}

-- the HANDSHAKE_DONE that waits
unfoldable pub done_part : SpaceWaiting → List FrameValue
done_part w = if w.done then frames.HandshakeDone ∷ [] else []

-- the PING that waits
unfoldable pub ping_part : SpaceWaiting → List FrameValue
ping_part w = if w.ping then frames.Ping ∷ [] else []

-- the HANDSHAKE_DONE and the PING that wait
unfoldable pub marks_part : SpaceWaiting → List FrameValue
marks_part w = done_part w ++ ping_part w

-- CRYPTO frames with the bytes that wait first, one behind the other: they fit into the room, and leave less of it than the greatest head of
-- one more and a byte take, or no byte that waits
unfoldable pub CryptoPart : SpaceWaiting → (room : ℕ) → List FrameValue → Type 0
CryptoPart w room [] = (crypto_waits w ≡ false) ⊎ (room ≤ CRYPTO_HEAD)
CryptoPart w room (frames.Crypto offset body ∷ fs) =
    StartsWith w.crypto offset body × (length (spelling (frames.Crypto offset body)) ≤ room) × CryptoPart (without w (frames.Crypto offset body)) (room - length (spelling (frames.Crypto offset body))) fs
CryptoPart w room (_ ∷ fs) = ⊥

-- whether a frame is one of the streams
abbrev pub is_streams_frame : FrameValue → Bool
is_streams_frame (frames.Stream id offset fin body) = true
is_streams_frame f = is_some (control_of f)

-- frames of the streams, which go in 1-RTT packets alone, and whose numbers have room in their fields
abbrev pub AreOfStreams : (in_data : Bool) → List FrameValue → Type 0
AreOfStreams in_data [] = Unit {0}
AreOfStreams in_data (f ∷ fs) = (in_data ≡ true) × (is_streams_frame f ≡ true) × Fits f × AreOfStreams in_data fs

-- whether a frame is one that a layer below offers, or is made as it is taken: one of the streams, a DATAGRAM, one about connection ids, or a
-- NEW_TOKEN
abbrev pub is_offered_frame : FrameValue → Bool
is_offered_frame (frames.Datagram body) = true
is_offered_frame (frames.NewToken token) = true
is_offered_frame (frames.NewConnectionId new) = true
is_offered_frame (frames.RetireConnectionId sequence) = true
is_offered_frame f = is_streams_frame f

-- such frames, which go in 1-RTT packets alone, and whose numbers have room in their fields
abbrev pub AreOffered : (in_data : Bool) → List FrameValue → Type 0
AreOffered in_data [] = Unit {0}
AreOffered in_data (f ∷ fs) = (in_data ≡ true) × (is_offered_frame f ≡ true) × Fits f × AreOffered in_data fs

-- DATAGRAM frames alone, whose lengths have room in their fields
abbrev pub AreDatagrams : List FrameValue → Type 0
AreDatagrams [] = Unit {0}
AreDatagrams (frames.Datagram body ∷ fs) = Fits (frames.Datagram body) × AreDatagrams fs
AreDatagrams (_ ∷ fs) = ⊥

-- The frames that this end takes at a time for a packet with so much room: the HANDSHAKE_DONE, the PING, the ACK that is owed or
-- joins, the CRYPTO bytes that fit behind them, frames that the layers below offer, and an ACK that is only bundled. An ACK that is owed
-- may have all the room behind the marks; one that only joins may be given less, so that it leaves room for what is owed.
pub record TakenPart (time : ℕ) (bundled : Option ℕ) (in_data : Bool) (w : SpaceWaiting) (room : ℕ) (fs : List FrameValue) : Type 0 where
  pub acks : List FrameValue
  pub most : ℕ
  pub few : most ≤ room - length (marks_part w)
  pub owed : is_ack_owed w.acks ≡ true → most ≡ room - length (marks_part w)
  pub ack : AckPart time w most acks (is_ack_first w.acks)
  pub crypto : List FrameValue
  pub part : CryptoPart (without_all w (marks_part w ++ acks)) (room - length (marks_part w) - length (frames_spelling acks)) crypto
  pub own : List FrameValue
  pub offered : AreOffered in_data own
  pub left : ℕ
  pub fits : length (frames_spelling own) + left ≤ room - length (marks_part w) - length (frames_spelling acks) - length (frames_spelling crypto)
  pub last : List FrameValue
  pub bundle : AckPart time w left last (is_ack_last time bundled w.acks)
  pub all : fs ≡ marks_part w ++ (acks ++ (crypto ++ (own ++ last)))

-- frames of the streams were taken, and put behind other frames, each as one of their steps that may be; of so much room they leave this
-- much
pub record TakesStreams (in_data : Bool) (room : ℕ) (s s' : StreamsState) (fs gs : List FrameValue) (left : ℕ) : Type 0 where
  pub own : List FrameValue
  pub are : AreOfStreams in_data own
  pub may : AllMay (sealed_steps own) s
  pub leads : s' ≡ after (sealed_steps own) s
  pub list : gs ≡ fs ++ own
  pub fits : length (frames_spelling own) + left ≡ room

-- DATAGRAM frames were taken, and put behind other frames, each with the oldest datagram that was to be sent then; of so much room they
-- leave this much
pub record TakesDatagrams (room : ℕ) (d d' : Datagrams) (fs gs : List FrameValue) (left : ℕ) : Type 0 where
  pub own : List FrameValue
  pub are : AreDatagrams own
  pub oldest : AllOldest own d
  pub given : d' ≡ datagrams.after (sealed_datagrams own) d
  pub list : gs ≡ fs ++ own
  pub fits : length (frames_spelling own) + left ≡ room

-- what is told where it was remembered before, or not, that a datagram had been refused because of a full buffer, and behind: that there is
-- room again, where it is remembered no longer
abbrev pub room_events : (before behind : Bool) → List Event
room_events before behind = if before && not behind then DatagramsUnblocked ∷ [] else []

-- frames about connection ids alone, whose numbers have room in their fields
abbrev pub AreOfIds : List FrameValue → Type 0
AreOfIds [] = Unit {0}
AreOfIds (frames.NewConnectionId new ∷ fs) = Fits (frames.NewConnectionId new) × AreOfIds fs
AreOfIds (frames.RetireConnectionId sequence ∷ fs) = Fits (frames.RetireConnectionId sequence) × AreOfIds fs
AreOfIds (_ ∷ fs) = ⊥

-- frames about connection ids were taken, and put behind other frames, each as the next one that waited then; of so much room they leave
-- this much
pub record TakesIds (room : ℕ) (d d' : ConnectionIds) (fs gs : List FrameValue) (left : ℕ) : Type 0 where
  pub own : List FrameValue
  pub are : AreOfIds own
  pub next : AllNext own d
  pub told : d' ≡ ids.after (sealed_cids own) d
  pub list : gs ≡ fs ++ own
  pub fits : length (frames_spelling own) + left ≡ room

-- NEW_TOKEN frames alone, whose lengths have room in their fields
abbrev pub AreTokens : List FrameValue → Type 0
AreTokens [] = Unit {0}
AreTokens (frames.NewToken token ∷ fs) = Fits (frames.NewToken token) × AreTokens fs
AreTokens (_ ∷ fs) = ⊥

-- NEW_TOKEN frames were taken, and put behind other frames, each with a token for this address that is made with the next nonce of the random
-- words; of so much room they leave this much
pub record TakesTokens (issuer : Option (IpAddr → ℕ → List ℕ)) (ip : IpAddr) (room : ℕ) (w w' : SpaceWaiting) (words words' : Stream) (fs gs : List FrameValue) (left : ℕ) : Type 0 where
  pub own : List FrameValue
  pub are : AreTokens own
  pub issued : AllIssued issuer ip own w words
  pub rest : w' ≡ without_all w own
  pub drawn : words' ≡ behind_tokens own words
  pub list : gs ≡ fs ++ own
  pub fits : length (frames_spelling own) + left ≡ room

-- Frames that the layers below offer were taken, and NEW_TOKENs, and put behind other frames: those of the streams each as one of their steps
-- that may be, each DATAGRAM with the oldest datagram that was to be sent then, each about connection ids as the next one that waited then, and
-- each NEW_TOKEN with a token that is made then; of so much room they leave this much
pub record TakesOffered {S : Type 0} (issuer : Option (IpAddr → ℕ → List ℕ)) (ip : IpAddr) (in_data : Bool) (room : ℕ) (w w' : SpaceWaiting) (words words' : Stream) (l l' : Lower S) (fs gs : List FrameValue) (left : ℕ) : Type 0 where
  pub own : List FrameValue
  pub are : AreOffered in_data own
  pub may : AllMay (sealed_steps own) l.streams
  pub oldest : AllOldest own l.datagrams
  pub next : AllNext own l.ids
  pub issued : AllIssued issuer ip own w words
  pub leads : l' ≡ frames_sealed own l
  pub rest : w' ≡ without_all w own
  pub drawn : words' ≡ behind_tokens own words
  pub list : gs ≡ fs ++ own
  pub fits : length (frames_spelling own) + left ≡ room

-- the ACK was taken where it was due and had room, and put behind other frames; it has so many bytes
pub record TakesAck (time : ℕ) (due : Bool) (room : ℕ) (w w' : SpaceWaiting) (fs gs : List FrameValue) (len : ℕ) : Type 0 where
  pub acks : List FrameValue
  pub part : AckPart time w room acks due
  pub list : gs ≡ fs ++ acks
  pub rest : w' ≡ without_all w acks
  pub size : len ≡ length (frames_spelling acks)

-- CRYPTO frames that fit into the room were taken, and put behind other frames; they leave so much of it
pub record TakesCrypto (room : ℕ) (w w' : SpaceWaiting) (fs gs : List FrameValue) (left : ℕ) : Type 0 where
  pub frames : List FrameValue
  pub part : CryptoPart w room frames
  pub list : gs ≡ fs ++ frames
  pub rest : w' ≡ without_all w frames
  pub fits : length (frames_spelling frames) + left ≡ room
