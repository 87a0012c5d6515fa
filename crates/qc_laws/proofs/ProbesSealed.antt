-- A probe of the path's size is sealed as its deed tells, and its receiver can tell it apart.
use Rattle.std.proofs.Common.{◌≡◌, ℕ, ◌+◌, ◌-◌, ◌<◌, ◌≤◌, ◌^◌, max, List, [], ◌∷◌, ◌++◌, length, replicate, refl, ap, sym, ◌∙◌, subst, length-append, arith, Bool, true, false, Option, Some, None, if◌then◌else◌}
use Rattle.std.specs.Option.{option_map}
use Rattle.std.proofs.lemmas.List.{length-replicate}
use Rattle.qc_base.specs.PacketNumber.{number_of}
use Rattle.qc_base.specs.Varint.{varint}
use Rattle.qc_base.specs.declared.side.SpaceId.TheVariants.{«Data»}
use Rattle.qc_frame.specs.Frame.{FrameValue}
use Rattle.qc_frame.specs.FrameSpelling.{frames_spelling, spelling}
use Rattle.qc_frame.specs.declared.frames.FrameOf.TheVariants.{Padding, Ping}
use Rattle.qc_frame.proofs.Padded.{zeros}
use Rattle.qc_header.specs.HeaderSpelling.{header_spelling, short_spelling}
use Rattle.qc_header.proofs.WrittenHeaders.{length-number_bytes}
use Rattle.qc_packet.specs.Arrival.{CanArrive, SealedAs, bytes_as}
use Rattle.qc_packet.specs.Building.{header_len, min_size_of, pn_len}
use Rattle.qc_state.specs.declared.deeds.Did.{Did}
use Rattle.qc_state.specs.declared.deeds.Did.TheVariants as did
use Rattle.qc_state.specs.declared.deeds.Quiet.{Quiet}
use Rattle.qc_state.specs.declared.form.Form.TheVariants as form
use Rattle.qc_state.specs.declared.transmit.Batch.{Batch}
use Rattle.qc_state.specs.Forms.{is_early}
use Rattle.qc_state.specs.Keys.{epoch_in}
use Rattle.qc_state.specs.Moves.{Seal, Take, move_to}
use Rattle.qc_state.specs.Numbers.{acked_number, next_number}
use Rattle.qc_state.specs.Paths.{held_size}
use Rattle.qc_state.specs.Sending.{header_in, is_flown, kill_in, least_size, packet_bytes, packet_size, probe_begun_after, probe_frames, probe_size, sealed_in}
use Rattle.qc_state.specs.Setup.{takes_grease}
use Rattle.qc_state.specs.Types.{Types, Meaning}
use Rattle.qc_state.specs.View.{View, At}
use Rattle.qc_state.proofs.Transmitted.{IsSealable, probe_sealable}
use Rattle.qc_laws.specs.SealLaws.{HasFields, IsSealedAs}
use Rattle.qc_laws.proofs.FramesFit.{carried_fit}
use Rattle.qc_laws.proofs.InitialLeft.{flown_deeds, sealed_deeds}
use Rattle.qc_laws.proofs.PacketBytes.{number_most}
use Rattle.qc_laws.proofs.PacketSeals.{HasKeys, as_sealed, bytes_are, can_arrive, is_sealed, keys_there}
use Rattle.qc_laws.proofs.SealingKept.{SealsBy, by_alike, probe_alike}

-- ---- its size

-- a PING and PADDING have a byte each
ping_byte : length (spelling Ping) ≡ 1
unfolding spelling varint
ping_byte = refl

probe_bytes : (n : ℕ) → length (frames_spelling (Ping ∷ replicate n Padding)) ≡ 1 + n
probe_bytes n =
    length-append (spelling Ping) (frames_spelling (replicate n Padding)) ∙ ap (λ (k : ℕ). k + length (frames_spelling (replicate n Padding))) ping_byte
    ∙ ap (λ (k : ℕ). 1 + k) (ap length (zeros n) ∙ length-replicate n 0)

ping_alone : length (frames_spelling (Ping ∷ [])) ≡ 1
ping_alone = probe_bytes 0

-- it is one that the path may take
held_within : (size : ℕ) → (1200 ≤ held_size size) × (held_size size ≤ 16383)
held_within size = (omega arith, omega arith)

abbrev IsWithin : Option ℕ → Type 0
IsWithin None = ⊥
IsWithin (Some k) = (1200 ≤ k) × (k ≤ 16383)

due_within : (b : Bool) (o : Option ℕ) (size : ℕ) → (if b then option_map held_size o else None) ≡ Some size → (1200 ≤ size) × (size ≤ 16383)
due_within true (Some n) size h = subst (λ (o : Option ℕ). IsWithin o) h (held_within n)
due_within true None size h = cc
due_within false o size h = cc

-- a short header has a byte, the id and the number
padded_size : (header cid number alone frames size : ℕ) → header ≡ 1 + cid + number → cid ≤ 20 → number ≤ 4 → alone ≡ 1 → 1200 ≤ size → frames ≡ 1 + (size - (header + alone + 16)) →
    (header + frames + 16 ≡ size) × (max (0 + header + (4 - number)) (0 + cid + 6) + 16 ≤ header + frames + 16)
padded_size header cid number alone frames size is few least one enough filled = (omega arith, omega arith)

module _ {t : Types} where
  short_len : (v : View t) → header_len (header_in v form.OneRtt) ≡ 1 + length v.paths.current.remote_cid + pn_len (header_in v form.OneRtt)
  unfolding header_spelling short_spelling
  short_len v = simp length-append (omega (arith, length-number_bytes (number_of (next_number v.numbers «Data») (acked_number v.numbers «Data»))))

  -- so it has as many bytes as it is to have, and no fewer than each packet
  probe_len : (v : View t) (size : ℕ) → 1200 ≤ size → length v.paths.current.remote_cid ≤ 20 → (packet_size v form.OneRtt (probe_frames v size) ≡ size) × (least_size v form.OneRtt ≤ packet_size v form.OneRtt (probe_frames v size))
  unfolding packet_size probe_frames least_size min_size_of
  probe_len v size enough few =
      let whole : ℕ = packet_size v form.OneRtt (Ping ∷ []) in
      padded_size (header_len (header_in v form.OneRtt)) (length v.paths.current.remote_cid) (pn_len (header_in v form.OneRtt)) (length (frames_spelling (Ping ∷ []))) (length (frames_spelling (Ping ∷ replicate (size - whole) Padding))) size
      (short_len v) few (number_most (number_of (next_number v.numbers «Data») (acked_number v.numbers «Data»))) ping_alone enough (probe_bytes (size - whole))

  -- ---- its deed

  -- once it was begun
  abbrev pub probe_deed : (size : ℕ) → At t → Did
  probe_deed size c = did.Sealed «Data» (next_number c.state.numbers «Data») (epoch_in c.state.keys form.OneRtt) (is_early form.OneRtt) (probe_frames c.state size)

  pub probe_deeds : (m : Meaning t) (time size : ℕ) (c : At t) → (sealed_in m time form.OneRtt (probe_frames c.state size) c).did ≡ c.did ++ probe_deed size c ∷ []
  unfolding sealed_in
  probe_deeds m time size c =
      let fs : List FrameValue = probe_frames c.state size in
      let n : ℕ = next_number c.state.numbers «Data» in
      let k : ℕ = packet_size c.state form.OneRtt fs in
      flown_deeds m time k (move_to (Seal time form.OneRtt n k fs) (move_to (Take «Data» fs) c)) (is_flown c.state fs) ∙ sealed_deeds time form.OneRtt n k fs c

  -- ---- its bytes

  -- it is sealed so, once it was begun, by the view in which its transmit began
  pub record SealsProbe (m : Meaning t) (s : View t) (time size : ℕ) (c : At t) : Type 0 where
    pub packet : SealedAs t.P
    pub is : IsSealedAs m s «Data» (next_number c.state.numbers «Data») (epoch_in c.state.keys form.OneRtt) (is_early form.OneRtt) (probe_frames c.state size) packet
    pub bytes : packet_bytes m c.state form.OneRtt (probe_frames c.state size) ≡ bytes_as m.seal packet
    pub can : HasFields s → CanArrive (length s.paths.current.remote_cid) (s.setup.fixed.version ∷ []) (takes_grease s.setup.peer) packet.flip packet.header packet.plain []

  pub seals_probe : (m : Meaning t) (time size : ℕ) (quiet : Quiet) (s : View t) (b : Batch) (a : At t) → SealsBy s a.state → probe_size time a.state ≡ Some size → kill_in b a.state form.OneRtt ≡ None →
      SealsProbe m s time size (probe_begun_after m time quiet b a)
  unfolding probe_size
  seals_probe m time size quiet s b a alike due kill =
      let c : At t = probe_begun_after m time quiet b a in
      let fs : List FrameValue = probe_frames c.state size in
      let here : SealsBy s c.state = by_alike s a.state c.state alike (probe_alike m time quiet b a) in
      let may : IsSealable time c.state form.OneRtt fs = probe_sealable m time size quiet b a due kill in
      let k : HasKeys c.state.keys form.OneRtt = keys_there c.state.keys form.OneRtt may.keyed in
      let within = due_within _ _ size due in
      record {
        packet = as_sealed m k.mask k.sealer c.state form.OneRtt fs;
        is = is_sealed m s c.state form.OneRtt fs k here
            (λ fields. carried_fit may.token may.closing time c.state form.OneRtt may.room fs (omega (arith, may.small)) (subst (λ (n : ℕ). n < 2 ^ 62) (sym (here.written «Data»)) (fields.crypto «Data»)) may.carries);
        bytes = bytes_are m c.state form.OneRtt fs k;
        can = λ fields. let sized = probe_len c.state size within.0 (subst (λ (cid : List ℕ). length cid ≤ 20) (sym here.cid) fields.ids.dst) in
            can_arrive s c.state form.OneRtt fs [] here fields (omega (arith, sized.0, within.1)) sized.1 (λ e. refl);
      }
