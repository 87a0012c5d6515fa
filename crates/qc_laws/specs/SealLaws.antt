-- Laws over whole runs, said of the bytes of packets, and of the datagrams that they make (RFC 9000, sections 12.2 and 17; RFC 9001, sections 5 and 6).
use Rattle.std.specs.Prelude.{◌≡◌, ◌⊎◌, ℕ, ◌+◌, ◌<◌, ◌^◌, min, zero, suc, Bool, true, List, [], ◌∷◌, ◌++◌, length, map, take, drop, Option, None, Some}
use Rattle.std.specs.Option.{option_map}
use Rattle.qc_base.specs.PacketNumber.{number_of}
use Rattle.qc_base.specs.Time.{plus}
use Rattle.qc_base.specs.declared.packet_number.PacketNumber.{PacketNumber}
use Rattle.qc_base.specs.declared.side.LongType.TheVariants as long
use Rattle.qc_base.specs.declared.side.SpaceId.{SpaceId}
use Rattle.qc_frame.specs.Frame.{FrameValue}
use Rattle.qc_frame.specs.FrameFits.{AllFit}
use Rattle.qc_frame.specs.FrameSpelling.{frames_spelling}
use Rattle.qc_header.specs.ReadBack.{AreIds}
use Rattle.qc_header.specs.declared.header.Header.{Header}
use Rattle.qc_header.specs.declared.header.Header.TheVariants as header
use Rattle.qc_packet.specs.Arrival.{AllCanArrive, SealedAs, coalesced}
use Rattle.qc_rings.specs.Ring.{phase_of}
use Rattle.qc_state.specs.declared.deeds.Did.{Did}
use Rattle.qc_state.specs.declared.deeds.Did.TheVariants as did
use Rattle.qc_state.specs.declared.form.Form.{Form}
use Rattle.qc_state.specs.declared.form.Form.TheVariants as form
use Rattle.qc_state.specs.declared.input.Input.{Input}
use Rattle.qc_state.specs.declared.keys.OneRttKeys.{OneRttKeys}
use Rattle.qc_state.specs.declared.input.Input.TheVariants as input
use Rattle.qc_state.specs.declared.trace.Answer.{Answer}
use Rattle.qc_state.specs.declared.trace.Answer.TheVariants as answer
use Rattle.qc_state.specs.declared.trace.Step.{Step}
use Rattle.qc_state.specs.declared.transmit.Transmit.{Transmit}
use Rattle.qc_state.specs.Forms.{is_early, is_one_rtt, number_space}
use Rattle.qc_state.specs.Keys.{epoch_in, header_key, packet_key}
use Rattle.qc_state.specs.Run.{IsStep}
use Rattle.qc_state.specs.Setup.{takes_grease}
use Rattle.qc_state.specs.Spaces.{space_of}
use Rattle.qc_state.specs.Types.{Types, Meaning}
use Rattle.qc_state.specs.Updating.{may_update_now}
use Rattle.qc_state.specs.View.{View, At}

-- ---- datagrams

-- bytes that are cut at multiples of a size: each piece has that size, but the last, which may have fewer. There are as many as there are bytes
-- for, and `most` at the most.
unfoldable pub cut_within : (most size : ℕ) → List ℕ → List (List ℕ)
cut_within zero size bytes = []
cut_within (suc most) size [] = []
cut_within (suc most) size (b ∷ bytes) = take size (b ∷ bytes) ∷ cut_within most size (drop size (b ∷ bytes))

-- the datagrams that are sent of bytes with this segment size: one, where there is none
abbrev pub datagrams_of : (segment : Option ℕ) → List ℕ → List (List ℕ)
datagrams_of None bytes = bytes ∷ []
datagrams_of (Some size) bytes = cut_within (length bytes) size bytes

-- the lists, one behind the other
abbrev pub all_of : {A : Type 0} → List (List A) → List A
all_of [] = []
all_of (xs ∷ xss) = xs ++ all_of xss

module _ {t : Types} where
  -- ---- packets

  -- the number of a packet of this form as its header spells it, by the view as its transmit began: from the greatest acknowledged one on (RFC
  -- 9000, section 17.1)
  abbrev pub spelled_number : View t → Form → (number : ℕ) → PacketNumber
  spelled_number s f n = number_of n (min (space_of s.numbers.spaces (number_space f)).largest_acked n)

  -- the key of the next epoch that seals 1-RTT packets, where there are such keys
  abbrev pub next_key : View t → Option t.P
  next_key s = option_map (λ (k : OneRttKeys t.H t.P). k.ring.next.local) s.keys.«data»

  -- This key of this epoch may seal packets of this form in a transmit, by the view as it began: it is that of the form, in its epoch; or the next one of
  -- 1-RTT packets, where this end may update its keys (RFC 9001, section 6.1).
  abbrev pub IsKeyIn : View t → Form → (epoch : ℕ) → t.P → Type 0
  IsKeyIn s f epoch key =
      ((epoch ≡ epoch_in s.keys f) × (packet_key s.keys f ≡ Some key)) ⊎ ((is_one_rtt f ≡ true) × (may_update_now s ≡ true) × (epoch ≡ plus (epoch_in s.keys f) 1) × (next_key s ≡ Some key))

  -- the header of a packet of this form with this number and spin bit, under a key of this epoch, by the view as its transmit began: with the ids in
  -- use, with the version and the token of an Initial packet, where its form has them, and in a 1-RTT packet with the parity of its key's epoch as
  -- key phase (RFC 9000, sections 17.2.2 to 17.2.4 and 17.3.1; RFC 9001, section 6)
  abbrev pub header_of : View t → Form → (spin : Bool) → (epoch number : ℕ) → Header
  header_of s form.Initial spin epoch n = header.Initial (record {
    dst_cid = s.paths.current.remote_cid;
    src_cid = s.setup.fixed.local_cid;
    token = s.setup.initial_token;
    number = spelled_number s form.Initial n;
    version = s.setup.fixed.version;
  })
  header_of s form.Handshake spin epoch n = header.Long long.Handshake s.paths.current.remote_cid s.setup.fixed.local_cid (spelled_number s form.Handshake n) s.setup.fixed.version
  header_of s form.Early spin epoch n = header.Long long.ZeroRtt s.paths.current.remote_cid s.setup.fixed.local_cid (spelled_number s form.Early n) s.setup.fixed.version
  header_of s form.OneRtt spin epoch n = header.Short spin (phase_of epoch) s.paths.current.remote_cid (spelled_number s form.OneRtt n)

  -- The fields of a packet have room for what this end puts there: its ids and the peer's have at most 20 bytes (RFC 9000, section 17.2); its
  -- version has 32 bits, and isn't 0, which is that of a Version Negotiation (section 17.2.1); and no CRYPTO stream is longer than an offset
  -- tells (section 19.6).
  pub record HasFields (s : View t) : Type 0 where
    pub ids : AreIds s.paths.current.remote_cid s.setup.fixed.local_cid
    pub version : s.setup.fixed.version < 2 ^ 32
    pub versioned : 0 < s.setup.fixed.version
    pub crypto : (id : SpaceId) → (space_of s.waiting.spaces id).crypto.written < 2 ^ 62

  -- Over a run what is fixed of a connection stays, its own first id and its version too; and no CRYPTO stream grows longer than an offset tells.
  pub record KeepsFields (s s' : View t) : Type 0 where
    pub fixed : s'.setup.fixed ≡ s.setup.fixed
    pub crypto : (id : SpaceId) → (space_of s.waiting.spaces id).crypto.written < 2 ^ 62 → (space_of s'.waiting.spaces id).crypto.written < 2 ^ 62

  -- A packet that was sealed so, as it is told of: in this space, with this number and these frames, by a key of this epoch, early or not. It is
  -- of a form of that space, and sealed under the key of that epoch which the view has for this form as the transmit begins. Its header
  -- is that form's; its spin bit is the path's, where the connection spins; its fixed bit is flipped only where the peer takes that (RFC 9287); its
  -- payload is the spelling of its frames, each of which fits its fields.
  pub record IsSealedAs (m : Meaning t) (s : View t) (space : SpaceId) (number epoch : ℕ) (early : Bool) (frames : List FrameValue) (p : SealedAs t.P) : Type 0 where
    pub form : Form
    pub in_space : space ≡ number_space form
    pub numbered : p.number ≡ number
    pub zero_rtt : early ≡ is_early form
    pub masked : option_map m.mask (header_key s.keys form) ≡ Some p.mask
    pub sealer : IsKeyIn s form epoch p.sealer
    pub spin : Bool
    pub header : p.header ≡ header_of s form spin epoch number
    pub spins : s.setup.fixed.spins ≡ true → spin ≡ s.paths.spin
    pub flips : p.flip ≡ true → takes_grease s.setup.peer ≡ true
    pub payload : p.plain ≡ frames_spelling frames
    pub fits : HasFields s → AllFit frames

  -- these are the packets that deeds tell as sealed, in order: none is left out, and none made up
  abbrev pub AreSealedAs : Meaning t → View t → List Did → List (SealedAs t.P) → Type 0
  AreSealedAs m s [] ps = ps ≡ []
  AreSealedAs m s (did.Sealed space number epoch early frames ∷ ds) [] = ⊥
  AreSealedAs m s (did.Sealed space number epoch early frames ∷ ds) (p ∷ ps) = IsSealedAs m s space number epoch early frames p × AreSealedAs m s ds ps
  AreSealedAs m s (_ ∷ ds) ps = AreSealedAs m s ds ps

  -- each packet of these datagrams can be told apart by a reader that knows this end's version, whose own ids have the length of the one that they
  -- carry, and which takes packets with a flipped fixed bit where it has said so
  abbrev pub AllArrive : Meaning t → View t → List (List (SealedAs t.P)) → Type 0
  AllArrive m s [] = Unit {0}
  AllArrive m s (d ∷ ds) = AllCanArrive m.seal (length s.paths.current.remote_cid) (s.setup.fixed.version ∷ []) (takes_grease s.setup.peer) d × AllArrive m s ds

  -- Bytes with this segment size are sent, between which and the view these deeds were done: cut at its multiples they are datagrams, each of which
  -- is the bytes of its packets, with nothing between or behind them (RFC 9000, section 12.2); and the packets are those that the deeds tell as
  -- sealed, in their order. Each can be told apart by its receiver; so a short header, which says not where its packet ends, stands last.
  pub record SealsDatagrams (m : Meaning t) (s : View t) (ds : List Did) (segment : Option ℕ) (bytes : List ℕ) : Type 0 where
    pub datagrams : List (List (SealedAs t.P))
    pub cut : datagrams_of segment bytes ≡ map (coalesced m.seal) datagrams
    pub told : AreSealedAs m s ds (all_of datagrams)
    pub arrive : HasFields s → AllArrive m s datagrams

  -- ---- a transmit, and runs

  -- what a transmit gives, between which and the view these deeds were done: such datagrams, or none
  abbrev pub SealsGiven : Meaning t → View t → List Did → Option Transmit → List ℕ → Type 0
  SealsGiven m s ds None bytes = bytes ≡ []
  SealsGiven m s ds (Some sent) bytes = SealsDatagrams m s ds sent.segment_size bytes

  -- a transmit from one moment to another, by this view
  pub record SealsBetween (m : Meaning t) (s : View t) (a b : At t) (sent : Option Transmit) (bytes : List ℕ) : Type 0 where
    pub since : List Did
    pub appended : b.did ≡ a.did ++ since
    pub seals : SealsGiven m s since sent bytes

  -- what a transmit answers in a trace: where it gives bytes, they are such datagrams
  abbrev pub SealsAnswer : Meaning t → View t → List Did → Input → Answer → Type 0
  SealsAnswer m s ds (input.Transmit time most) (answer.Out destination segment ecn bytes) = SealsDatagrams m s ds segment bytes
  SealsAnswer m s ds _ _ = Unit {0}

  -- so does each step of a run, by the view in which it begins
  unfoldable pub EachSealsAnswer : Meaning t → ℕ → View t → List Input → List Step → View t → Type 0
  EachSealsAnswer m k s (i ∷ is) (x ∷ xs) s' = (mid : View t) × IsStep m k s i x mid × SealsAnswer m s x.did i x.answer × EachSealsAnswer m (k + 1) mid is xs s'
  EachSealsAnswer m k s is xs s' = Unit {0}
