-- From what the opener of packets says to what becomes of one.
use Rattle.std.proofs.Common.{◌≡◌, ℕ, ◌+◌, List, length, take, drop, refl, ap, sym, ◌∙◌, subst, Bool, true, false, Option, Some, None, Result, Ok, Err, IsSome, is_some, nat_lt}
use Rattle.std.specs.Prelude.{◌&&◌, ◌==◌, if◌then◌else◌, IfSome, IfOk}
use Rattle.std.specs.declared.alloc.AllocError.{AllocError}
use Rattle.qc_base.specs.Mask.{first_byte}
use Rattle.qc_base.specs.declared.packet_number.PacketNumber.{PacketNumber}
use Rattle.qc_base.specs.declared.side.LongType.TheVariants as long
use Rattle.qc_crypto.specs.Mates.{Opening as OpeningFunction}
use Rattle.qc_header.specs.declared.finish.Packet.{Packet}
use Rattle.qc_header.specs.declared.header.Header.{Header}
use Rattle.qc_header.specs.declared.header.Header.TheVariants as header
use Rattle.qc_header.specs.HeaderSpelling.{header_number}
use Rattle.qc_header.specs.declared.protected.ProtectedHeader.{ProtectedHeader}
use Rattle.qc_header.specs.declared.protected.ProtectedHeader.TheVariants as protected
use Rattle.qc_header.specs.Piece.{Piece, is_protected}
use Rattle.qc_header.specs.Unprotected.{unprotected, header_end, header_from}
use Rattle.qc_packet.specs.declared.decrypt.DecryptPacketResult.{DecryptPacketResult}
use Rattle.qc_packet.specs.declared.decrypt.OpenError.{OpenError}
use Rattle.qc_packet.specs.declared.decrypt.OpenError.TheVariants as error
use Rattle.qc_packet.specs.declared.unprotect.UnprotectHeaderResult.{UnprotectHeaderResult}
use Rattle.qc_packet.specs.OpenedPacket.{IsNumberOf, is_bad_update, key_named, opened_by as opened_under_key, opening_answer, payload_after, reserved_bits, result_of, which_in}
use Rattle.qc_packet.specs.Unprotected.{is_cut, is_key_missing, told_as, told_in, IsUnprotected}
use Rattle.qc_rings.specs.Keyed.{Keyed}
use Rattle.qc_rings.specs.declared.which.Which.{Which}
use Rattle.qc_receive.specs.Told.{opening_told}
use Rattle.qc_state.specs.declared.opening.Opening.{Opening}
use Rattle.qc_state.specs.declared.opening.Opening.TheVariants.{Unreadable, Reserved, Untimely, Opened}
use Rattle.qc_state.specs.Opening.{judged, opened_form, opened_under, source_of, spin_of, token_of, whole_number}
use Rattle.qc_state.specs.Opening as state

-- a packet of a form that is taken is protected
protected_form : (h : ProtectedHeader) → IsSome (opened_form h) → is_protected h ≡ true
protected_form (protected.Initial dst_cid src_cid token_start token_len version) some = refl
protected_form (protected.Long long.Handshake dst_cid src_cid version) some = refl
protected_form (protected.Long long.ZeroRtt dst_cid src_cid version) some = refl
protected_form (protected.Retry dst_cid src_cid version) some = some
protected_form (protected.Short spin dst_cid) some = refl
protected_form (protected.VersionNegotiate random src_cid dst_cid) some = some

-- whether it was too short for a sample
told_cut : (is cut short : Bool) (r : Option (Bool × Bool)) → is ≡ true → r ≡ told_as (is && false) (is && short) false → r ≡ None → short ≡ true
told_cut true cut true r e h none = refl
told_cut true cut false r e h none = cc
told_cut false cut short r e h none = cc

told_whole : (is short : Bool) (r : Option (Bool × Bool)) (b : Bool) → is ≡ true → r ≡ told_as (is && false) (is && short) false → r ≡ Some (true, b) → short ≡ false
told_whole true true r b e h some = cc
told_whole true false r b e h some = refl
told_whole false short r b e h some = cc

abbrev first_told : Option (Bool × Bool) → Bool
first_told None = false
first_told (Some x) = x.0

told_never : (is short : Bool) (r : Option (Bool × Bool)) (b : Bool) → is ≡ true → r ≡ told_as (is && false) (is && short) false → r ≡ Some (false, b) → false ≡ true
told_never true true r b e h some = cc
told_never true false r b e h some = ap first_told (sym some ∙ h)
told_never false short r b e h some = e

-- what opening told of a packet with this header whose reserved bits are or aren't 0, which shows an update that wasn't allowed, or doesn't
told_as_judged : (b bad : Bool) (h : Header) (told : DecryptPacketResult) (number : ℕ) (which : Option Which) (payload : List ℕ) (p : Packet) → p.header ≡ h → told.number ≡ number → p.payload.items ≡ payload →
    opening_told (if b then (if bad then Err error.KeyUpdate else Ok (Some told)) else Err error.Reserved) number which p
    ≡ (if b then (if bad then Untimely number else Opened (source_of h) (token_of h) (spin_of h) which number payload) else Reserved number)
told_as_judged true false h told number which payload p is_h is_number is_payload = λ i. Opened (source_of (is_h i)) (token_of (is_h i)) (spin_of (is_h i)) which (is_number i) (is_payload i)
told_as_judged true true h told number which payload p is_h is_number is_payload = refl
told_as_judged false bad h told number which payload p is_h is_number is_payload = refl

module _ {P : Type 0} where
  -- what becomes of it where its key opened it, or didn't
  told_by : (h : Header) (bytes : List ℕ) (ring : Option (Keyed P)) (rx number : ℕ) (opened : Option (List ℕ)) (sealed : List ℕ) (p : Packet) → p.header ≡ h → p.payload.items ≡ payload_after sealed opened →
      opening_told (opening_answer h (first_byte bytes) ring rx number (is_some opened)) number (which_in h ring number) p
      ≡ judged h number bytes (which_in h ring number) (is_bad_update (which_in h ring number) ring rx number) opened
  unfolding opening_answer
  told_by h bytes ring rx number None sealed p is_h is_payload = refl
  told_by h bytes ring rx number (Some payload) sealed p is_h is_payload =
      told_as_judged (reserved_bits h (first_byte bytes) == 0) (is_bad_update (which_in h ring number) ring rx number) h (result_of (which_in h ring number) ring number) number (which_in h ring number) payload p is_h refl is_payload

  -- a form without a number names no key
  unnumbered : (h : Header) (plain : Option P) (ring : Option (Keyed P)) (number : ℕ) → header_number h ≡ None → key_named h plain None ring number ≡ None
  unfolding key_named
  unnumbered (header.Initial h) plain ring number e = cc e
  unnumbered (header.Long ty dst_cid src_cid low version) plain ring number e = cc e
  unnumbered (header.Retry dst_cid src_cid version) plain ring number e = refl
  unnumbered (header.Short spin phase dst_cid low) plain ring number e = cc e
  unnumbered (header.VersionNegotiate random src_cid dst_cid) plain ring number e = refl

module _ {P : Type 0} (opening : P → OpeningFunction) (plain : Option P) (ring : Option (Keyed P)) (rx : ℕ) where
  -- what the key that a packet names makes of its payload
  abbrev payload_by : Packet → ℕ → Option (List ℕ)
  payload_by p n = opened_under_key opening (key_named p.header plain None ring n) n p.header_data p.payload.items

  -- what becomes of a packet with this number
  abbrev judged_by : Packet → ℕ → Opening
  judged_by p n = judged p.header n p.header_data (which_in p.header ring n) (is_bad_update (which_in p.header ring n) ring rx n) (payload_by p n)

  -- so it is whether its form has a number or not
  opened_of : (low : Option PacketNumber) (p q : Packet) (number : ℕ) (answer : Result (Option DecryptPacketResult) OpenError) → header_number p.header ≡ low →
      (IsSome low → IsNumberOf low rx number) → (header_number p.header ≡ None → (answer ≡ Ok None) × (q ≡ p)) →
      ((n : ℕ) → IsNumberOf (header_number p.header) rx n → answer ≡ opening_answer p.header (first_byte p.header_data) ring rx n (is_some (payload_by p n))) →
      ((n : ℕ) → IsNumberOf (header_number p.header) rx n → q.payload.items ≡ payload_after p.payload.items (payload_by p n)) → q.header ≡ p.header →
      opening_told answer number (which_in p.header ring number) q ≡ judged_by p number
  unfolding opened_under_key
  opened_of None p q number answer is_low near unprotected answers payload is_h =
      let which : Option Which = which_in p.header ring number in
      ap (λ (x : Result (Option DecryptPacketResult) OpenError). opening_told x number which q) (unprotected is_low).0
      ∙ sym (ap (λ (x : Option P). judged p.header number p.header_data which (is_bad_update which ring rx number) (opened_under_key opening x number p.header_data p.payload.items)) (unnumbered p.header plain ring number is_low))
  opened_of (Some low) p q number answer is_low near unprotected answers payload is_h =
      let of : IsNumberOf (header_number p.header) rx number = subst (λ (x : Option PacketNumber). IsNumberOf x rx number) (sym is_low) (near refl) in
      ap (λ (x : Result (Option DecryptPacketResult) OpenError). opening_told x number (which_in p.header ring number) q) (answers number of)
      ∙ told_by p.header p.header_data ring rx number (payload_by p number) p.payload.items q is_h (payload number of)

  pub opened_is : (p q : Packet) (number : ℕ) (which : Option Which) (answer : Result (Option DecryptPacketResult) OpenError) → number ≡ whole_number (header_number p.header) rx →
      (IsSome (header_number p.header) → IsNumberOf (header_number p.header) rx number) → which ≡ which_in p.header ring number → (header_number p.header ≡ None → (answer ≡ Ok None) × (q ≡ p)) →
      ((n : ℕ) → IsNumberOf (header_number p.header) rx n → answer ≡ opening_answer p.header (first_byte p.header_data) ring rx n (is_some (payload_by p n))) →
      ((n : ℕ) → IsNumberOf (header_number p.header) rx n → q.payload.items ≡ payload_after p.payload.items (payload_by p n)) → q.header ≡ p.header →
      opening_told answer number which q ≡ state.opened_by opening plain ring rx p.header p.header_data p.payload.items
  unfolding state.opened_by
  opened_is p q number which answer is_number near is_which unprotected answers payload is_h =
      ap (λ (w : Option Which). opening_told answer number w q) is_which
      ∙ opened_of (header_number p.header) p q number answer refl near unprotected answers payload is_h
      ∙ ap (λ (n : ℕ). judged_by p n) is_number

module _ {H P : Type 0} (mask : H → List ℕ → List ℕ) (opening : P → OpeningFunction) (key : H) (plain : Option P) (ring : Option (Keyed P)) (rx : ℕ) (p : Piece) where
  cut_is : nat_lt (length p.bytes) (p.pn_offset + 20) ≡ true → opened_under mask opening key plain ring rx p ≡ Unreadable
  unfolding opened_under
  cut_is h = rw h refl

  whole_is : nat_lt (length p.bytes) (p.pn_offset + 20) ≡ false → (packet : Packet) → IsSome (opened_form p.header) → IsUnprotected (mask key) p packet →
      opened_under mask opening key plain ring rx p ≡ state.opened_by opening plain ring rx packet.header packet.header_data packet.payload.items
  unfolding opened_under
  whole_is h packet some u =
      let bytes : List ℕ = unprotected (mask key) p in
      let end : ℕ = header_end p bytes in
      rw h (ap (λ (x : Header). state.opened_by opening plain ring rx x (take end bytes) (drop end bytes)) (ap (header_from p.header p.pn_offset) (sym u.header_data) ∙ sym u.header)
      ∙ ap (λ (x : List ℕ). state.opened_by opening plain ring rx packet.header x (drop end bytes)) (sym u.header_data)
      ∙ ap (λ (x : List ℕ). state.opened_by opening plain ring rx packet.header packet.header_data x) (sym u.payload))

  -- what becomes of a packet by what taking its mask off told: nothing, that it is too short, or the packet
  pub none_is : (r : Option UnprotectHeaderResult) (o : Opening) → IsSome (opened_form p.header) → told_in r ≡ told_as (is_key_missing p true) (is_cut p) false → r ≡ None → o ≡ Unreadable → o ≡ opened_under mask opening key plain ring rx p
  none_is r o some told e is = is ∙ sym (cut_is (told_cut (is_protected p.header) false (nat_lt (length p.bytes) (p.pn_offset + 20)) (told_in r) (protected_form p.header some) told (ap told_in e)))

  pub reset_is : (r : Option UnprotectHeaderResult) (t : UnprotectHeaderResult) (o : Opening) → IsSome (opened_form p.header) → told_in r ≡ told_as (is_key_missing p true) (is_cut p) false → r ≡ Some t → t.packet ≡ None → o ≡ opened_under mask opening key plain ring rx p
  reset_is r t o some told e none = let no : ⊥ = cc (told_never (is_protected p.header) (nat_lt (length p.bytes) (p.pn_offset + 20)) (told_in r) t.stateless_reset (protected_form p.header some) told (ap told_in e ∙ ap (λ (x : Option Packet). Some (is_some x, t.stateless_reset)) none)) in absurd no

  pub under_is : (r : Option UnprotectHeaderResult) (t : UnprotectHeaderResult) (packet : Packet) (o : Opening) → IsSome (opened_form p.header) → told_in r ≡ told_as (is_key_missing p true) (is_cut p) false → r ≡ Some t → t.packet ≡ Some packet →
      IsUnprotected (mask key) p packet → o ≡ state.opened_by opening plain ring rx packet.header packet.header_data packet.payload.items → o ≡ opened_under mask opening key plain ring rx p
  under_is r t packet o some told e has u is =
      is ∙ sym (whole_is (told_whole (is_protected p.header) (nat_lt (length p.bytes) (p.pn_offset + 20)) (told_in r) t.stateless_reset (protected_form p.header some) told (ap told_in e ∙ ap (λ (x : Option Packet). Some (is_some x, t.stateless_reset)) has)) packet some u)

  -- the same of an answer that may be want of memory
  pub under_done : (r : Option UnprotectHeaderResult) (t : UnprotectHeaderResult) (packet : Packet) (answer : Result Opening AllocError) → IsSome (opened_form p.header) → told_in r ≡ told_as (is_key_missing p true) (is_cut p) false → r ≡ Some t → t.packet ≡ Some packet →
      IfSome r (λ told. IfSome told.packet (λ q. IsUnprotected (mask key) p q)) → IfOk answer (λ o. o ≡ state.opened_by opening plain ring rx packet.header packet.header_data packet.payload.items) → IfOk answer (λ o. o ≡ opened_under mask opening key plain ring rx p)
  under_done r t packet (Ok o) some told e has u is =
      let told_one : IfSome t.packet (λ q. IsUnprotected (mask key) p q) = subst (λ (x : Option UnprotectHeaderResult). IfSome x (λ told. IfSome told.packet (λ q. IsUnprotected (mask key) p q))) e u in
      under_is r t packet o some told e has (subst (λ (x : Option Packet). IfSome x (λ q. IsUnprotected (mask key) p q)) has told_one) is
  under_done r t packet (Err x) some told e has u is = tt

  -- the packet as it was handed on
  pub under_told : (r : Option UnprotectHeaderResult) (t : UnprotectHeaderResult) (packet given : Packet) (answer : Result Opening AllocError) → IsSome (opened_form p.header) → told_in r ≡ told_as (is_key_missing p true) (is_cut p) false → r ≡ Some t → t.packet ≡ Some packet →
      IfSome r (λ told. IfSome told.packet (λ q. IsUnprotected (mask key) p q)) → given ≡ packet → IfOk answer (λ o. o ≡ state.opened_by opening plain ring rx given.header given.header_data given.payload.items) → IfOk answer (λ o. o ≡ opened_under mask opening key plain ring rx p)
  under_told r t packet given answer some told e has u same is =
      under_done r t packet answer some told e has u (subst (λ (q : Packet). IfOk answer (λ o. o ≡ state.opened_by opening plain ring rx q.header q.header_data q.payload.items)) same is)
