-- Which packets name keys of the ring: 1-RTT packets that opened; and where the next ones opened one, this end had answered its peer's last update.
use Rattle.std.proofs.Common.{◌≡◌, ℕ, ◌+◌, List, [], length, take, drop, refl, ap, sym, ◌∙◌, subst, Bool, true, false, Option, Some, None, if◌then◌else◌}
use Rattle.std.specs.Prelude.{◌==◌, ◌&&◌, ◌||◌, nat_le, nat_lt, is_some}
use Rattle.qc_base.specs.Mask.{first_byte}
use Rattle.qc_base.specs.declared.side.LongType.TheVariants as long
use Rattle.qc_base.specs.declared.side.SpaceId.{SpaceId}
use Rattle.qc_base.specs.declared.side.SpaceId.TheVariants.{«Data»}
use Rattle.qc_crypto.specs.Mates.{Opening as OpeningFunction}
use Rattle.qc_header.specs.HeaderSpelling.{header_number}
use Rattle.qc_header.specs.Piece.{Piece, space_of}
use Rattle.qc_header.specs.Unprotected.{header_end, header_from, unprotected}
use Rattle.qc_header.specs.declared.header.Header.{Header}
use Rattle.qc_header.specs.declared.protected.ProtectedHeader.{ProtectedHeader}
use Rattle.qc_header.specs.declared.protected.ProtectedHeader.TheVariants as protected
use Rattle.qc_packet.specs.OpenedPacket.{are_next, is_bad_update, is_unanswered, key_named, opened_by as opened_under_key, reserved_bits, which_in}
use Rattle.qc_rings.specs.Keyed.{Keyed}
use Rattle.qc_rings.specs.declared.which.Which.{Which}
use Rattle.qc_rings.specs.declared.which.Which.TheVariants.{Current, Next, Previous}
use Rattle.qc_state.specs.declared.form.Form.TheVariants as form
use Rattle.qc_state.specs.declared.opening.Opening.{Opening}
use Rattle.qc_state.specs.declared.opening.Opening.TheVariants.{Unreadable, Unopened, Reserved, Untimely, Opened}
use Rattle.qc_state.specs.Forms.{number_space}
use Rattle.qc_state.specs.Keys.{opening_key, plain_keys, ring_of, unmasking_key}
use Rattle.qc_state.specs.Numbers.{received_number}
use Rattle.qc_state.specs.Opening.{judged, opened_at, opened_by, opened_form, opened_in, opened_under, opening_of, source_of, spin_of, token_of, whole_number}
use Rattle.qc_state.specs.Spaces.{is_space}
use Rattle.qc_state.specs.Types.{Types, Meaning}
use Rattle.qc_state.specs.View.{View}

-- these keys opened a packet whose form is 1-RTT, `short`, or isn't
pub record IsNamed {P : Type 0} (short : Bool) (ring : Option (Keyed P)) (which : Option Which) : Type 0 where
  pub named : is_some which ≡ short
  pub answered : which ≡ Some Next → is_unanswered ring ≡ false

abbrev NamedIn : {P : Type 0} → (short : Bool) → Option (Keyed P) → Opening → Type 0
NamedIn short ring (Opened source token spin which number payload) = IsNamed short ring which
NamedIn short ring _ = Unit {0}

module _ {P : Type 0} where
  -- no keys of the ring
  none_named : (ring : Option (Keyed P)) → IsNamed false ring None
  none_named ring = record { named = refl; answered = λ e. cc e }

  -- the next ones, where the update that they show may be made
  next_named : (ring : Option (Keyed P)) (rx number : ℕ) (which : Which) → is_bad_update (Some which) ring rx number ≡ false → IsNamed true ring (Some which)
  next_named ring rx number Current e = record { named = refl; answered = λ is. cc is }
  next_named ring rx number Previous e = record { named = refl; answered = λ is. cc is }
  next_named ring rx number Next e = record { named = refl; answered = λ is. neither (nat_le number rx) (is_unanswered ring) e }
    where
      neither : (x y : Bool) → (x || y) ≡ false → y ≡ false
      neither true y h = cc
      neither false y h = h

  -- by its reserved bits, and whether the update may be made
  bits_named : (short : Bool) (ring : Option (Keyed P)) (b bad : Bool) (source token : List ℕ) (spin : Bool) (which : Option Which) (number : ℕ) (payload : List ℕ) → (bad ≡ false → IsNamed short ring which) →
      NamedIn short ring (if b then (if bad then Untimely number else Opened source token spin which number payload) else Reserved number)
  bits_named short ring true false source token spin which number payload h = h refl
  bits_named short ring true true source token spin which number payload h = tt
  bits_named short ring false bad source token spin which number payload h = tt

  judged_named : (short : Bool) (ring : Option (Keyed P)) (h : Header) (number : ℕ) (header_data : List ℕ) (which : Option Which) (bad : Bool) (o : Option (List ℕ)) → (bad ≡ false → IsNamed short ring which) → NamedIn short ring (judged h number header_data which bad o)
  judged_named short ring h number header_data which bad None n = tt
  judged_named short ring h number header_data which bad (Some payload) n =
      bits_named short ring (reserved_bits h (first_byte header_data) == 0) bad (source_of h) (token_of h) (spin_of h) which number payload n

  -- a long header names none of the ring
  long_named : (opening : P → OpeningFunction) (plain : Option P) (ring : Option (Keyed P)) (rx : ℕ) (h : Header) (header_data sealed : List ℕ) → ((number : ℕ) → which_in h ring number ≡ None) → NamedIn false ring (opened_by opening plain ring rx h header_data sealed)
  unfolding opened_by
  long_named opening plain ring rx h header_data sealed none =
      let number : ℕ = whole_number (header_number h) rx in
      judged_named false ring h number header_data (which_in h ring number) (is_bad_update (which_in h ring number) ring rx number) _ (λ e. subst (λ (w : Option Which). IsNamed false ring w) (sym (none number)) (none_named ring))

  -- a short one does, where there is one
  short_named : (opening : P → OpeningFunction) (ring : Option (Keyed P)) (rx : ℕ) (spin : Bool) (dst : List ℕ) (offset : ℕ) (front header_data sealed : List ℕ) →
      NamedIn true ring (opened_by opening None ring rx (header_from (protected.Short spin dst) offset front) header_data sealed)
  unfolding opened_by key_named opened_under_key
  short_named opening None rx spin dst offset front header_data sealed = tt
  short_named opening (Some k) rx spin dst offset front header_data sealed =
      let h : Header = header_from (protected.Short spin dst) offset front in
      let number : ℕ = whole_number (header_number h) rx in
      judged_named true (Some k) h number header_data (which_in h (Some k) number) (is_bad_update (which_in h (Some k) number) (Some k) rx number) _ (λ e. next_named (Some k) rx number _ e)

  cut_named : (short : Bool) (ring : Option (Keyed P)) (b : Bool) (x : Opening) → NamedIn short ring x → NamedIn short ring (if b then Unreadable else x)
  cut_named short ring true x h = tt
  cut_named short ring false x h = h

module _ {H P : Type 0} (mask : H → List ℕ → List ℕ) (opening : P → OpeningFunction) (ring : Option (Keyed P)) (rx : ℕ) (p : Piece) where
  long_under : (key : Option H) (plain : Option P) → ((offset : ℕ) (front : List ℕ) (number : ℕ) → which_in (header_from p.header offset front) ring number ≡ None) → NamedIn false ring (opened_in mask opening key plain ring rx p)
  unfolding opened_under
  long_under None plain none = tt
  long_under (Some key) plain none =
      let bytes : List ℕ = unprotected (mask key) p in
      let front : List ℕ = take (header_end p bytes) bytes in
      cut_named false ring (nat_lt (length p.bytes) (p.pn_offset + 20)) _
      (long_named opening plain ring rx (header_from p.header p.pn_offset front) front (drop (header_end p bytes) bytes) (λ number. none p.pn_offset front number))

  short_under : (key : Option H) (spin : Bool) (dst : List ℕ) → p.header ≡ protected.Short spin dst → NamedIn true ring (opened_in mask opening key None ring rx p)
  unfolding opened_under
  short_under None spin dst is = tt
  short_under (Some key) spin dst is =
      let bytes : List ℕ = unprotected (mask key) p in
      let front : List ℕ = take (header_end p bytes) bytes in
      cut_named true ring (nat_lt (length p.bytes) (p.pn_offset + 20)) _
      (subst (λ (h : ProtectedHeader). NamedIn true ring (opened_by opening None ring rx (header_from h p.pn_offset front) front (drop (header_end p bytes) bytes))) (sym is)
      (short_named opening ring rx spin dst p.pn_offset front front (drop (header_end p bytes) bytes)))

-- packets of this space are those of the Data space
abbrev data_of : Option SpaceId → Bool
data_of None = false
data_of (Some space) = is_space «Data» space

module _ {t : Types} (m : Meaning t) (s : View t) (p : Piece) where
  -- by its form
  form_named : (h : ProtectedHeader) → p.header ≡ h → (space : SpaceId) → space_of h ≡ Some space → NamedIn (is_space «Data» space) (ring_of s.keys) (opened_at m s (opened_form h) p)
  unfolding opening_key plain_keys
  form_named (protected.Initial dst src token_start token_len version) is space spaced =
      subst (λ (b : Bool). NamedIn b (ring_of s.keys) (opened_at m s (Some form.Initial) p)) (ap data_of spaced)
      (long_under m.mask m.opening (ring_of s.keys) (received_number s.numbers (number_space form.Initial)) p (unmasking_key s.keys form.Initial) (opening_key s.keys form.Initial)
      (λ offset front number. ap (λ (h : ProtectedHeader). which_in (header_from h offset front) (ring_of s.keys) number) is))
  form_named (protected.Long long.Handshake dst src version) is space spaced =
      subst (λ (b : Bool). NamedIn b (ring_of s.keys) (opened_at m s (Some form.Handshake) p)) (ap data_of spaced)
      (long_under m.mask m.opening (ring_of s.keys) (received_number s.numbers (number_space form.Handshake)) p (unmasking_key s.keys form.Handshake) (opening_key s.keys form.Handshake)
      (λ offset front number. ap (λ (h : ProtectedHeader). which_in (header_from h offset front) (ring_of s.keys) number) is))
  form_named (protected.Long long.ZeroRtt dst src version) is space spaced = tt
  form_named (protected.Retry dst src version) is space spaced = tt
  form_named (protected.Short spin dst) is space spaced =
      subst (λ (b : Bool). NamedIn b (ring_of s.keys) (opened_at m s (Some form.OneRtt) p)) (ap data_of spaced)
      (short_under m.mask m.opening (ring_of s.keys) (received_number s.numbers (number_space form.OneRtt)) p (unmasking_key s.keys form.OneRtt) spin dst is)
  form_named (protected.VersionNegotiate random src dst) is space spaced = tt

  -- so of a packet that opened
  pub opened_named : (space : SpaceId) (source token : List ℕ) (spin : Bool) (which : Option Which) (number : ℕ) (payload : List ℕ) →
      space_of p.header ≡ Some space → opening_of m s p ≡ Opened source token spin which number payload → IsNamed (is_space «Data» space) (ring_of s.keys) which
  unfolding opening_of
  opened_named space source token spin which number payload spaced opens = subst (NamedIn (is_space «Data» space) (ring_of s.keys)) opens (form_named p.header refl space spaced)
