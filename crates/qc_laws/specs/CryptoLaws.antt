-- Laws over whole runs, said of the bytes that the session writes (RFC 9000, sections 13.3 and 19.6).
use Rattle.std.specs.Prelude.{◌≡◌, ℕ, ◌+◌, ◌<◌, ◌≤◌, ◌==◌, ◌&&◌, ◌||◌, nat_le, nat_lt, Bool, true, false, List, ◌++◌, length}
use Rattle.std.specs.List.{list_any}
use Rattle.qc_base.specs.declared.side.SpaceId.{SpaceId}
use Rattle.qc_flight.specs.Packets.{Entry}
use Rattle.qc_frame.specs.Frame.{FrameValue}
use Rattle.qc_frame.specs.declared.frames.FrameOf.TheVariants as frames
use Rattle.qc_recovery.specs.Steps as recovery
use Rattle.qc_send_stream.specs.Buffer.{Buffer, Kept}
use Rattle.qc_state.specs.declared.deeds.Did.{Did}
use Rattle.qc_state.specs.Keys.{has_keys}
use Rattle.qc_state.specs.Life.{is_open}
use Rattle.qc_state.specs.Receiving.{is_below}
use Rattle.qc_laws.specs.RecoveryLaws.{Recovers, acked_in}
use Rattle.qc_state.specs.Spaces.{space_of}
use Rattle.qc_state.specs.Types.{Types, Meaning}
use Rattle.qc_state.specs.View.{View}

-- a frame has this byte of its space's CRYPTO stream
abbrev pub carries : ℕ → FrameValue → Bool
carries o (frames.Crypto offset body) = nat_le offset o && nat_lt o (offset + length body)
carries o _ = false

-- a packet among these has it, by what was kept of its frames
abbrev pub is_carried : ℕ → List Entry → Bool
is_carried o es = list_any (λ e. list_any (carries o) e.1.frames) es

-- the byte is kept
abbrev pub is_kept : ℕ → List Kept → Bool
is_kept o ks = list_any (λ k. k.offset == o) ks

-- the byte was lost, and wasn't sealed since
abbrev pub is_lost : ℕ → List Kept → Bool
is_lost o ks = list_any (λ k. (k.offset == o) && k.lost) ks

-- it waits to be sealed: it never was, or it was lost since
abbrev pub is_awaited : ℕ → Buffer → Bool
is_awaited o b = nat_le b.sent o || is_lost o b.kept

-- Each byte that the session wrote is kept, and waits, or is in flight, or was acknowledged: a packet that has it is in flight, or was
-- acknowledged.
pub record BytesHold (acked : List Entry) (b : Buffer) (flight : List Entry) : Type 0 where
  pub kept : (o : ℕ) → o < b.written → is_kept o b.kept ≡ true
  pub bytes : (o : ℕ) → o < b.written → (is_awaited o b || (is_carried o flight || is_carried o acked)) ≡ true

-- In a space, of which these packets were acknowledged, with this highest space: no more bytes were sealed than written, and none were
-- written where the space lies above the highest one. While the connection is open and the space has keys, each byte waits, is in flight
-- or was acknowledged.
pub record CryptoHolds (id : SpaceId) (acked : List Entry) (highest : SpaceId) (opened keyed : Bool) (b : Buffer) (flight : List Entry) : Type 0 where
  pub sent : b.sent ≤ b.written
  pub above : is_below highest id ≡ true → b.written ≡ 0
  pub holds : opened ≡ true → keyed ≡ true → BytesHold acked b flight

module _ {t : Types} where
  -- so of a view
  abbrev pub CryptoKept : SpaceId → List Entry → View t → Type 0
  CryptoKept id acked s = CryptoHolds id acked s.keys.highest (is_open s.life.state) (has_keys s.keys id) (space_of s.waiting.spaces id).crypto (recovery.space_of id s.lower.recovery).flight

  -- From one view to another, between which these deeds were done: recovery made steps, and with the packets that they acknowledged each
  -- byte that the session wrote waits, is in flight or was acknowledged, where that held before.
  pub record KeepsBytes (m : Meaning t) (ds : List Did) (s s' : View t) : Type 0 where
    pub recovers : Recovers m ds s s'
    pub bytes : (id : SpaceId) (before : List Entry) → CryptoKept id before s → CryptoKept id (before ++ acked_in id recovers.steps) s'
