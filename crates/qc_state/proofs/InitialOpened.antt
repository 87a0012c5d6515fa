-- An Initial packet has no spin bit, and names no keys of the ring.
use Rattle.std.proofs.Common.{◌≡◌, ℕ, ◌+◌, List, [], length, take, drop, refl, ap, sym, ◌∙◌, subst, Bool, true, false, Option, Some, None, if◌then◌else◌}
use Rattle.std.specs.Prelude.{◌==◌, nat_lt}
use Rattle.qc_base.specs.Mask.{first_byte}
use Rattle.qc_base.specs.declared.side.SpaceId.TheVariants as space
use Rattle.qc_crypto.specs.Mates.{Opening as OpeningFunction}
use Rattle.qc_header.specs.HeaderSpelling.{header_number}
use Rattle.qc_header.specs.Piece.{Piece, space_of}
use Rattle.qc_header.specs.Unprotected.{header_end, header_from, unprotected}
use Rattle.qc_header.specs.declared.header.Header.{Header}
use Rattle.qc_header.specs.declared.protected.ProtectedHeader.{ProtectedHeader}
use Rattle.qc_header.specs.declared.protected.ProtectedHeader.TheVariants as protected
use Rattle.qc_packet.specs.OpenedPacket.{is_bad_update, reserved_bits, which_in}
use Rattle.qc_rings.specs.Keyed.{Keyed}
use Rattle.qc_rings.specs.declared.which.Which.{Which}
use Rattle.qc_state.specs.declared.form.Form.{Form}
use Rattle.qc_state.specs.declared.opening.Opening.{Opening}
use Rattle.qc_state.specs.declared.opening.Opening.TheVariants.{Unreadable, Reserved, Untimely, Opened}
use Rattle.qc_state.specs.Forms.{number_space}
use Rattle.qc_state.specs.Keys.{opening_key, ring_of, unmasking_key}
use Rattle.qc_state.specs.Numbers.{received_number}
use Rattle.qc_state.specs.Opening.{judged, opened_at, opened_by, opened_in, opened_form, opened_under, opening_of, source_of, spin_of, token_of, whole_number}
use Rattle.qc_state.specs.Types.{Types, Meaning}
use Rattle.qc_state.specs.View.{View}

abbrev pub IsPlainOne : Opening → Type 0
IsPlainOne (Opened source token spin which number payload) = (spin ≡ false) × (which ≡ None)
IsPlainOne _ = Unit {0}

initial_spin : (h : ProtectedHeader) (offset : ℕ) (bytes : List ℕ) → space_of h ≡ Some space.Initial → spin_of (header_from h offset bytes) ≡ false
initial_spin (protected.Initial dst_cid src_cid token_start token_len version) offset bytes e = refl
initial_spin (protected.Long ty dst_cid src_cid version) offset bytes e = refl
initial_spin (protected.Retry dst_cid src_cid version) offset bytes e = refl
initial_spin (protected.Short spin dst_cid) offset bytes e = cc
initial_spin (protected.VersionNegotiate random src_cid dst_cid) offset bytes e = refl

initial_which : {P : Type 0} (h : ProtectedHeader) (offset : ℕ) (bytes : List ℕ) (ring : Option (Keyed P)) (number : ℕ) → space_of h ≡ Some space.Initial → which_in (header_from h offset bytes) ring number ≡ None
initial_which (protected.Initial dst_cid src_cid token_start token_len version) offset bytes ring number e = refl
initial_which (protected.Long ty dst_cid src_cid version) offset bytes ring number e = refl
initial_which (protected.Retry dst_cid src_cid version) offset bytes ring number e = refl
initial_which (protected.Short spin dst_cid) offset bytes ring number e = cc
initial_which (protected.VersionNegotiate random src_cid dst_cid) offset bytes ring number e = refl

bits_plain : (b bad : Bool) (source token : List ℕ) (spin : Bool) (which : Option Which) (number : ℕ) (payload : List ℕ) → spin ≡ false → which ≡ None →
    IsPlainOne (if b then (if bad then Untimely number else Opened source token spin which number payload) else Reserved number)
bits_plain true false source token spin which number payload e n = (e, n)
bits_plain true true source token spin which number payload e n = tt
bits_plain false bad source token spin which number payload e n = tt

judged_plain : (h : Header) (number : ℕ) (header_data : List ℕ) (which : Option Which) (bad : Bool) (o : Option (List ℕ)) → spin_of h ≡ false → which ≡ None → IsPlainOne (judged h number header_data which bad o)
judged_plain h number header_data which bad None e n = tt
judged_plain h number header_data which bad (Some payload) e n = bits_plain (reserved_bits h (first_byte header_data) == 0) bad (source_of h) (token_of h) (spin_of h) which number payload e n

short_plain : (b : Bool) (x : Opening) → IsPlainOne x → IsPlainOne (if b then Unreadable else x)
short_plain true x h = tt
short_plain false x h = h

module _ {P : Type 0} where
  opened_plain : (opening : P → OpeningFunction) (plain : Option P) (ring : Option (Keyed P)) (rx : ℕ) (h : Header) (header_data sealed : List ℕ) → spin_of h ≡ false → ((number : ℕ) → which_in h ring number ≡ None) →
      IsPlainOne (opened_by opening plain ring rx h header_data sealed)
  unfolding opened_by
  opened_plain opening plain ring rx h header_data sealed e n =
      let number : ℕ = whole_number (header_number h) rx in
      judged_plain h number header_data (which_in h ring number) (is_bad_update (which_in h ring number) ring rx number) _ e (n number)

module _ {H P : Type 0} where
  under_plain : (mask : H → List ℕ → List ℕ) (opening : P → OpeningFunction) (key : H) (plain : Option P) (ring : Option (Keyed P)) (rx : ℕ) (p : Piece) → space_of p.header ≡ Some space.Initial → IsPlainOne (opened_under mask opening key plain ring rx p)
  unfolding opened_under
  under_plain mask opening key plain ring rx p e =
      let bytes : List ℕ = unprotected (mask key) p in
      let front : List ℕ = take (header_end p bytes) bytes in
      short_plain (nat_lt (length p.bytes) (p.pn_offset + 20)) _
      (opened_plain opening plain ring rx (header_from p.header p.pn_offset front) front (drop (header_end p bytes) bytes) (initial_spin p.header p.pn_offset front e) (λ number. initial_which p.header p.pn_offset front ring number e))

  in_plain : (mask : H → List ℕ → List ℕ) (opening : P → OpeningFunction) (key : Option H) (plain : Option P) (ring : Option (Keyed P)) (rx : ℕ) (p : Piece) → space_of p.header ≡ Some space.Initial → IsPlainOne (opened_in mask opening key plain ring rx p)
  in_plain mask opening None plain ring rx p e = tt
  in_plain mask opening (Some key) plain ring rx p e = under_plain mask opening key plain ring rx p e

module _ {t : Types} (m : Meaning t) where
  at_plain : (s : View t) (form : Option Form) (p : Piece) → space_of p.header ≡ Some space.Initial → IsPlainOne (opened_at m s form p)
  at_plain s None p e = tt
  at_plain s (Some f) p e = in_plain m.mask m.opening (unmasking_key s.keys f) (opening_key s.keys f) (ring_of s.keys) (received_number s.numbers (number_space f)) p e

  pub plain_one : (s : View t) (p : Piece) (source token : List ℕ) (spin : Bool) (which : Option Which) (number : ℕ) (payload : List ℕ) →
      space_of p.header ≡ Some space.Initial → opening_of m s p ≡ Opened source token spin which number payload → (spin ≡ false) × (which ≡ None)
  unfolding opening_of
  plain_one s p source token spin which number payload is_initial opens = subst IsPlainOne opens (at_plain s (opened_form p.header) p is_initial)

  -- so the answer can leave the keys out
  pub names_none : (s : View t) (p : Piece) (o : Opening) (source token : List ℕ) (spin : Bool) (which : Option Which) (number : ℕ) (payload : List ℕ) →
      space_of p.header ≡ Some space.Initial → o ≡ opening_of m s p → o ≡ Opened source token spin which number payload → opening_of m s p ≡ Opened source token spin None number payload
  names_none s p o source token spin which number payload is_initial is opens =
      let said : opening_of m s p ≡ Opened source token spin which number payload = sym is ∙ opens in
      said ∙ ap (λ (w : Option Which). Opened source token spin w number payload) (plain_one s p source token spin which number payload is_initial said).1
