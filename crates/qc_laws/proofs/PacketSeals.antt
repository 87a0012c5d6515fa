-- A packet that may follow is sealed as its deed tells, and its receiver can tell it apart.
use Rattle.std.proofs.Common.{◌≡◌, ℕ, ◌+◌, ◌<◌, ◌≤◌, ◌^◌, min, Bool, true, false, ◌&&◌, List, [], ◌∷◌, ◌++◌, length, refl, ap, sym, ◌∙◌, subst, length-append, arith, rules, Option, Some, None, is_some, not, ◌==◌}
use Rattle.std.specs.Option.{option_map}
use Rattle.qc_base.specs.PacketNumber.{number_of}
use Rattle.qc_base.specs.declared.side.LongType.TheVariants as long
use Rattle.qc_base.specs.declared.side.SpaceId.{SpaceId}
use Rattle.qc_base.specs.declared.side.SpaceId.TheVariants.{Initial, Handshake, «Data»}
use Rattle.qc_frame.specs.Frame.{FrameValue}
use Rattle.qc_frame.specs.FrameFits.{AllFit}
use Rattle.qc_frame.specs.FrameSpelling.{frames_spelling}
use Rattle.qc_header.specs.HeaderSpelling.{header_spelling, initial_spelling, length_and_number, long_start, short_spelling}
use Rattle.qc_header.specs.Known.{IsKnown}
use Rattle.qc_header.specs.RoundTrip.{IsReadable}
use Rattle.qc_header.specs.declared.header.Header.{Header}
use Rattle.qc_header.specs.declared.header.Header.TheVariants as header
use Rattle.qc_header.specs.declared.header.InitialHeader.{InitialHeader}
use Rattle.qc_header.proofs.WrittenHeaders.{length-number_bytes}
use Rattle.qc_packet.specs.Arrival.{CanArrive, SealedAs, bytes_as}
use Rattle.qc_packet.specs.Building.{header_len, is_short, min_size_of, pn_len}
use Rattle.qc_rings.specs.Ring.{phase_of}
use Rattle.qc_state.specs.declared.form.Form.{Form}
use Rattle.qc_state.specs.declared.form.Form.TheVariants as form
use Rattle.qc_state.specs.declared.keys.KeyGroup.{KeyGroup}
use Rattle.qc_state.specs.declared.keys.OneRttKeys.{OneRttKeys}
use Rattle.qc_state.specs.declared.keys.SpaceKeys.{SpaceKeys}
use Rattle.qc_state.specs.declared.setup.Fixed.{Fixed}
use Rattle.qc_state.specs.declared.transmit.Batch.{Batch}
use Rattle.qc_state.specs.Forms.{is_early, is_one_rtt, number_space}
use Rattle.qc_state.specs.Keys.{epoch_in, epoch_with, has_keys_for, header_key, packet_key, phase_now, phase_with}
use Rattle.qc_state.specs.Numbers.{acked_number, next_number}
use Rattle.qc_state.specs.Batches.{batch_grown, batch_opened}
use Rattle.qc_state.specs.Sending.{Carries, Going, MayFollow, Sent, begun_after, begun_batch, begun_view, fills_up, flips_now, header_in, is_key_nearly_used_up, least_size, packet_after, packet_bytes, packet_size, padding_in, room_in, room_of, sealed_with, spin_now}
use Rattle.qc_state.specs.Setup.{takes_grease}
use Rattle.qc_state.specs.Spaces.{space_of}
use Rattle.qc_state.specs.Types.{Types, Meaning}
use Rattle.qc_state.specs.View.{View}
use Rattle.qc_state.proofs.Begun.{begun_keys, begun_same}
use Rattle.qc_state.proofs.Transmitted.{begins_keyed}
use Rattle.qc_laws.specs.SealLaws.{HasFields, IsSealedAs, header_of, spelled_number}
use Rattle.qc_laws.proofs.BatchSizes.{JoinsSo, OpensSo, joins_so, opens_so}
use Rattle.qc_laws.proofs.FramesFit.{carried_fit}
use Rattle.qc_laws.proofs.PacketBytes.{number_fits, number_some, sealed_size}
use Rattle.qc_laws.proofs.SealingKept.{SealsBy, begun_alike, by_alike}

first_of_both : (a b : Bool) → (a && b) ≡ true → a ≡ true
first_of_both true b h = refl
first_of_both false b h = cc

-- ---- keys

module _ {H P : Type 0} where
  -- those that there are for a form
  pub record HasKeys (v : KeyGroup H P) (f : Form) : Type 0 where
    pub mask : H
    pub sealer : P
    pub is_mask : header_key v f ≡ Some mask
    pub is_sealer : packet_key v f ≡ Some sealer

  pub keys_there : (v : KeyGroup H P) (f : Form) → has_keys_for v f ≡ true → HasKeys v f
  unfolding has_keys_for header_key packet_key
  keys_there v form.Initial h = by_some v.initial refl h
    where
      by_some : (o : Option (SpaceKeys H P)) → v.initial ≡ o → is_some o ≡ true → HasKeys v form.Initial
      by_some None e some = absurd (cc)
      by_some (Some k) e some = record {
        mask = k.keys.header.local;
        sealer = k.keys.packet.local;
        is_mask = ap (option_map (λ (x : SpaceKeys H P). x.keys.header.local)) e;
        is_sealer = ap (option_map (λ (x : SpaceKeys H P). x.keys.packet.local)) e;
      }
  keys_there v form.Handshake h = by_some v.handshake refl h
    where
      by_some : (o : Option (SpaceKeys H P)) → v.handshake ≡ o → is_some o ≡ true → HasKeys v form.Handshake
      by_some None e some = absurd (cc)
      by_some (Some k) e some = record {
        mask = k.keys.header.local;
        sealer = k.keys.packet.local;
        is_mask = ap (option_map (λ (x : SpaceKeys H P). x.keys.header.local)) e;
        is_sealer = ap (option_map (λ (x : SpaceKeys H P). x.keys.packet.local)) e;
      }
  keys_there v form.Early h = absurd (cc)
  keys_there v form.OneRtt h = by_some v.«data» refl h
    where
      by_some : (o : Option (OneRttKeys H P)) → v.«data» ≡ o → is_some o ≡ true → HasKeys v form.OneRtt
      by_some None e some = absurd (cc)
      by_some (Some k) e some = record {
        mask = k.header.local;
        sealer = k.ring.current.local;
        is_mask = ap (option_map (λ (x : OneRttKeys H P). x.header.local)) e;
        is_sealer = ap (option_map (λ (x : OneRttKeys H P). x.ring.current.local)) e;
      }

  -- the key phase is the parity of their epoch
  phase_is : (o : Option (OneRttKeys H P)) → phase_with o ≡ phase_of (epoch_with o)
  phase_is None = refl
  phase_is (Some k) = refl

-- ---- headers

token_within : (h : InitialHeader) → length h.token ≤ header_len (header.Initial h)
unfolding header_spelling initial_spelling
token_within h = simp length-append (omega arith)

known_alone : (version : ℕ) → 0 < version → IsKnown version (version ∷ [])
known_alone version some = record { some = some; listed = search rules }

module _ {t : Types} where
  -- a number has no more bytes than its header
  number_within : (v : View t) (f : Form) → pn_len (header_in v f) ≤ header_len (header_in v f)
  unfolding header_spelling initial_spelling short_spelling long_start length_and_number
  number_within v form.Initial = simp length-append (omega (arith, length-number_bytes (number_of (next_number v.numbers Initial) (acked_number v.numbers Initial))))
  number_within v form.Handshake = simp length-append (omega (arith, length-number_bytes (number_of (next_number v.numbers Handshake) (acked_number v.numbers Handshake))))
  number_within v form.Early = simp length-append (omega (arith, length-number_bytes (number_of (next_number v.numbers «Data») (acked_number v.numbers «Data»))))
  number_within v form.OneRtt = simp length-append (omega (arith, length-number_bytes (number_of (next_number v.numbers «Data») (acked_number v.numbers «Data»))))

  numbered : (v : View t) (f : Form) → 1 ≤ pn_len (header_in v f)
  numbered v form.Initial = number_some (number_of (next_number v.numbers Initial) (acked_number v.numbers Initial))
  numbered v form.Handshake = number_some (number_of (next_number v.numbers Handshake) (acked_number v.numbers Handshake))
  numbered v form.Early = number_some (number_of (next_number v.numbers «Data») (acked_number v.numbers «Data»))
  numbered v form.OneRtt = number_some (number_of (next_number v.numbers «Data») (acked_number v.numbers «Data»))

  -- the header of a packet is the one that the view gives in which its transmit began
  header_is : (s v : View t) (f : Form) → SealsBy s v → header_in v f ≡ header_of s f (spin_now v) (epoch_in v.keys f) (next_number v.numbers (number_space f))
  unfolding acked_number next_number phase_now epoch_in
  header_is s v form.Initial alike =
      let fixed : v.setup.fixed ≡ s.setup.fixed = alike.fixed in
      let n : ℕ = v.numbers.spaces.initial.next in
      λ i. header.Initial (record { dst_cid = alike.cid i; src_cid = (fixed i).local_cid; token = alike.token i; number = number_of n (min (alike.acked Initial i) n); version = (fixed i).version })
  header_is s v form.Handshake alike =
      let fixed : v.setup.fixed ≡ s.setup.fixed = alike.fixed in
      let n : ℕ = v.numbers.spaces.handshake.next in
      λ i. header.Long long.Handshake (alike.cid i) (fixed i).local_cid (number_of n (min (alike.acked Handshake i) n)) (fixed i).version
  header_is s v form.Early alike =
      let fixed : v.setup.fixed ≡ s.setup.fixed = alike.fixed in
      let n : ℕ = v.numbers.spaces.application.next in
      λ i. header.Long long.ZeroRtt (alike.cid i) (fixed i).local_cid (number_of n (min (alike.acked «Data» i) n)) (fixed i).version
  header_is s v form.OneRtt alike =
      let phase : phase_with v.keys.«data» ≡ phase_of (epoch_with v.keys.«data») = phase_is v.keys.«data» in
      let n : ℕ = v.numbers.spaces.application.next in
      λ i. header.Short (spin_now v) (phase i) (alike.cid i) (number_of n (min (alike.acked «Data» i) n))

  -- it is read
  readable : (s : View t) (f : Form) (spin grease : Bool) (epoch n : ℕ) → HasFields s → header_len (header_of s f spin epoch n) ≤ 16383 → IsReadable (length s.paths.current.remote_cid) (s.setup.fixed.version ∷ []) grease (header_of s f spin epoch n)
  readable s form.Initial spin grease epoch n fields small =
      let h : InitialHeader = record { dst_cid = s.paths.current.remote_cid; src_cid = s.setup.fixed.local_cid; token = s.setup.initial_token; number = spelled_number s form.Initial n; version = s.setup.fixed.version } in
      (record { dst = fields.ids.dst; src = fields.ids.src; number = number_fits n _; version = fields.version }, omega (arith, small, token_within h), known_alone s.setup.fixed.version fields.versioned)
  readable s form.Handshake spin grease epoch n fields small =
      (record { dst = fields.ids.dst; src = fields.ids.src; number = number_fits n _; version = fields.version }, known_alone s.setup.fixed.version fields.versioned)
  readable s form.Early spin grease epoch n fields small =
      (record { dst = fields.ids.dst; src = fields.ids.src; number = number_fits n _; version = fields.version }, known_alone s.setup.fixed.version fields.versioned)
  readable s form.OneRtt spin grease epoch n fields small = (refl, number_fits n _)

  short_form : (v : View t) (f : Form) → is_short (header_in v f) ≡ true → is_one_rtt f ≡ true
  short_form v form.Initial h = cc
  short_form v form.Handshake h = cc
  short_form v form.Early h = cc
  short_form v form.OneRtt h = refl

  flips_taken : (v : View t) → flips_now v ≡ true → takes_grease v.setup.peer ≡ true
  unfolding flips_now
  flips_taken v h = first_of_both (takes_grease v.setup.peer) v.setup.drawn.flip h

  spins_so : (v : View t) → v.setup.fixed.spins ≡ true → spin_now v ≡ v.paths.spin
  unfolding spin_now
  spins_so v h = rw h refl

  -- such a packet can be told apart
  pub can_arrive : (s v : View t) (f : Form) (fs : List FrameValue) (rest : List ℕ) → SealsBy s v → HasFields s → packet_size v f fs ≤ 16383 → least_size v f ≤ packet_size v f fs → (is_one_rtt f ≡ true → rest ≡ []) →
      CanArrive (length s.paths.current.remote_cid) (s.setup.fixed.version ∷ []) (takes_grease s.setup.peer) (flips_now v) (header_in v f) (frames_spelling fs) rest
  unfolding packet_size least_size min_size_of
  can_arrive s v f fs rest alike fields small enough last =
      let same : header_in v f ≡ header_of s f (spin_now v) (epoch_in v.keys f) (next_number v.numbers (number_space f)) = header_is s v f alike in
      let short : header_len (header_in v f) ≤ 16383 = omega (arith, small) in
      record {
        greased = λ e. sym (ap takes_grease alike.peer) ∙ flips_taken v e;
        readable = subst (λ (h : Header). IsReadable (length s.paths.current.remote_cid) (s.setup.fixed.version ∷ []) (takes_grease s.setup.peer) h) (sym same)
            (readable s f (spin_now v) (takes_grease s.setup.peer) (epoch_in v.keys f) (next_number v.numbers (number_space f)) fields (subst (λ (h : Header). header_len h ≤ 16383) same short));
        numbered = numbered v f;
        sample = omega (arith, enough);
        length_field = λ e. omega (arith, small, number_within v f);
        last = λ e. last (short_form v f e);
      }

  -- ---- a packet

  -- as it is sealed under these keys
  abbrev pub as_sealed : Meaning t → t.H → t.P → View t → Form → List FrameValue → SealedAs t.P
  as_sealed m h k v f fs = record { mask = m.mask h; sealer = k; flip = flips_now v; header = header_in v f; number = next_number v.numbers (number_space f); plain = frames_spelling fs }

  pub bytes_are : (m : Meaning t) (v : View t) (f : Form) (fs : List FrameValue) (k : HasKeys v.keys f) → packet_bytes m v f fs ≡ bytes_as m.seal (as_sealed m k.mask k.sealer v f fs)
  unfolding packet_bytes
  bytes_are m v f fs k =
      ap (λ (o : Option t.H). sealed_with m o (packet_key v.keys f) (flips_now v) (header_in v f) (next_number v.numbers (number_space f)) (frames_spelling fs)) k.is_mask
      ∙ ap (λ (o : Option t.P). sealed_with m (Some k.mask) o (flips_now v) (header_in v f) (next_number v.numbers (number_space f)) (frames_spelling fs)) k.is_sealer

  pub is_sealed : (m : Meaning t) (s v : View t) (f : Form) (fs : List FrameValue) (k : HasKeys v.keys f) → SealsBy s v → (HasFields s → AllFit fs) →
      IsSealedAs m s (number_space f) (next_number v.numbers (number_space f)) (epoch_in v.keys f) (is_early f) fs (as_sealed m k.mask k.sealer v f fs)
  is_sealed m s v f fs k alike fit = record {
    form = f;
    in_space = refl;
    numbered = refl;
    zero_rtt = refl;
    masked = ap (option_map m.mask) (sym (alike.masks f) ∙ k.is_mask);
    sealer = alike.keyed f k.sealer k.is_sealer;
    spin = spin_now v;
    header = header_is s v f alike;
    spins = λ e. spins_so v (ap (λ (x : Fixed). x.spins) alike.fixed ∙ e) ∙ alike.spin;
    flips = λ e. sym (ap takes_grease alike.peer) ∙ flips_taken v e;
    payload = refl;
    fits = fit;
  }

  -- the view in which it is taken and sealed
  abbrev pub view_of : Sent → Going t → View t
  view_of p g = (begun_after (number_space p.form) p.opens g.now).state

  -- how many bytes it has
  abbrev pub size_of : Sent → Going t → ℕ
  size_of p g = packet_size (view_of p g) p.form p.frames

  pub record SealsPacket (m : Meaning t) (s : View t) (time : ℕ) (p : Sent) (g : Going t) : Type 0 where
    pub packet : SealedAs t.P
    pub is : IsSealedAs m s (number_space p.form) (next_number (view_of p g).numbers (number_space p.form)) (epoch_in (view_of p g).keys p.form) (is_early p.form) p.frames packet
    pub out : (packet_after m time p g).out ≡ g.out ++ bytes_as m.seal packet
    pub size : length (bytes_as m.seal packet) ≡ size_of p g
    pub can : HasFields s → (packet_after m time p g).batch.capacity ≤ 16383 → (rest : List ℕ) → (is_one_rtt p.form ≡ true → rest ≡ []) →
        CanArrive (length s.paths.current.remote_cid) (s.setup.fixed.version ∷ []) (takes_grease s.setup.peer) packet.flip packet.header packet.plain rest

  -- a packet has no more room than its datagram has bytes
  room_small : (b : Batch) (v : View t) (f : Form) → b.capacity ≤ 65527 → room_in b v f < 2 ^ 62
  unfolding room_in room_of
  room_small b v f h = omega (arith, h)

  sized_by : (m : Meaning t) (v : View t) (f : Form) (fs : List FrameValue) (h : t.H) (k : t.P) → ((key : t.P) (number : ℕ) (header plain : List ℕ) → length (m.seal key number header plain) ≡ length plain + 16) →
      length (bytes_as m.seal (as_sealed m h k v f fs)) ≡ packet_size v f fs
  unfolding packet_size
  sized_by m v f fs h k size = sealed_size (m.mask h) (m.seal k) (flips_now v) (header_in v f) (next_number v.numbers (number_space f)) (frames_spelling fs) (λ header. size k (next_number v.numbers (number_space f)) header (frames_spelling fs))

  pub seals_packet : (m : Meaning t) → ((key : t.P) (number : ℕ) (header plain : List ℕ) → length (m.seal key number header plain) ≡ length plain + 16) → (time : ℕ) (s : View t) (p : Sent) (g : Going t) →
      SealsBy s g.now.state → MayFollow m time g.now.state g.batch p → SealsPacket m s time p g
  unfolding packet_after batch_grown
  seals_packet m size time s p g alike may =
      let id : SpaceId = number_space p.form in
      let v : View t = view_of p g in
      let b : Batch = begun_batch g.now.state id p.opens g.batch in
      let same : v ≡ begun_view g.now.state id p.opens = begun_same id p.opens g.now in
      let here : SealsBy s v = by_alike s g.now.state v alike (begun_alike id p.opens g.now) in
      let keyed : has_keys_for v.keys p.form ≡ true = subst (λ (k : KeyGroup t.H t.P). has_keys_for k p.form ≡ true) (sym (begun_keys id p.opens g.now)) (begins_keyed m time g.now.state g.batch p.form p.opens may.begins) in
      let k : HasKeys v.keys p.form = keys_there v.keys p.form keyed in
      let carries : Carries m.token g.batch.closing time v p.form (room_in b v p.form) p.frames = subst (λ (x : View t). Carries m.token g.batch.closing time x p.form (room_in b x p.form) p.frames) (sym same) may.carries in
      let fits : b.filled + packet_size v p.form p.frames ≤ b.capacity = subst (λ (x : View t). b.filled + packet_size x p.form p.frames ≤ b.capacity) (sym same) may.fits in
      let enough : least_size v p.form ≤ packet_size v p.form p.frames = subst (λ (x : View t). least_size x p.form ≤ packet_size x p.form p.frames) (sym same) may.padded.enough in
      record {
        packet = as_sealed m k.mask k.sealer v p.form p.frames;
        is = is_sealed m s v p.form p.frames k here
            (λ fields. carried_fit m.token g.batch.closing time v p.form (room_in b v p.form) p.frames (room_small b v p.form may.sized) (subst (λ (n : ℕ). n < 2 ^ 62) (sym (here.written id)) (fields.crypto id)) carries);
        out = ap (λ (bytes : List ℕ). g.out ++ bytes) (bytes_are m v p.form p.frames k);
        size = sized_by m v p.form p.frames k.mask k.sealer size;
        can = λ fields small rest last. can_arrive s v p.form p.frames rest here fields (omega (arith, fits, small)) enough last;
      }

  -- ---- and the batch behind it

  pub packet_opens : (m : Meaning t) (time : ℕ) (p : Sent) (g : Going t) → MayFollow m time g.now.state g.batch p → p.opens ≡ true → OpensSo p.form (size_of p g) g.batch (packet_after m time p g).batch
  unfolding packet_after begun_batch
  packet_opens m time p g may opens =
      let id : SpaceId = number_space p.form in
      let v : View t = view_of p g in
      let probes : Bool = not ((space_of g.now.state.waiting.spaces id).probes == 0) in
      let same : v ≡ begun_view g.now.state id p.opens = begun_same id p.opens g.now in
      let fits : (batch_opened p.opens probes g.batch).filled + size_of p g ≤ (batch_opened p.opens probes g.batch).capacity =
      subst (λ (x : View t). (batch_opened p.opens probes g.batch).filled + packet_size x p.form p.frames ≤ (batch_opened p.opens probes g.batch).capacity) (sym same) may.fits in
      subst (λ (o : Bool). OpensSo p.form (size_of p g) g.batch (batch_grown p.form (next_number v.numbers id) (size_of p g) (padding_in p.frames) (fills_up v p.form p.frames) (is_key_nearly_used_up g.now.state p.form) (batch_opened o probes g.batch))) (sym opens)
      (opens_so p.form (next_number v.numbers id) (size_of p g) (padding_in p.frames) (fills_up v p.form p.frames) (is_key_nearly_used_up g.now.state p.form) probes g.batch
      (subst (λ (o : Bool). (batch_opened o probes g.batch).capacity ≤ 65527) opens may.sized)
      (subst (λ (o : Bool). (batch_opened o probes g.batch).filled + size_of p g ≤ (batch_opened o probes g.batch).capacity) opens fits))

  pub packet_joins : (m : Meaning t) (time : ℕ) (p : Sent) (g : Going t) → MayFollow m time g.now.state g.batch p → p.opens ≡ false → JoinsSo p.form (size_of p g) g.batch (packet_after m time p g).batch
  unfolding packet_after begun_batch
  packet_joins m time p g may joins =
      let id : SpaceId = number_space p.form in
      let v : View t = view_of p g in
      let probes : Bool = not ((space_of g.now.state.waiting.spaces id).probes == 0) in
      let same : v ≡ begun_view g.now.state id p.opens = begun_same id p.opens g.now in
      let fits : (batch_opened p.opens probes g.batch).filled + size_of p g ≤ (batch_opened p.opens probes g.batch).capacity =
      subst (λ (x : View t). (batch_opened p.opens probes g.batch).filled + packet_size x p.form p.frames ≤ (batch_opened p.opens probes g.batch).capacity) (sym same) may.fits in
      subst (λ (o : Bool). JoinsSo p.form (size_of p g) g.batch (batch_grown p.form (next_number v.numbers id) (size_of p g) (padding_in p.frames) (fills_up v p.form p.frames) (is_key_nearly_used_up g.now.state p.form) (batch_opened o probes g.batch))) (sym joins)
      (joins_so p.form (next_number v.numbers id) (size_of p g) (padding_in p.frames) (fills_up v p.form p.frames) (is_key_nearly_used_up g.now.state p.form) probes g.batch
      (subst (λ (o : Bool). (batch_opened o probes g.batch).capacity ≤ 65527) joins may.sized)
      (subst (λ (o : Bool). (batch_opened o probes g.batch).filled + size_of p g ≤ (batch_opened o probes g.batch).capacity) joins fits))
