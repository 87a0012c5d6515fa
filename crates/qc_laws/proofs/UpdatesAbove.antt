-- A packet that shows an update of its sender's has a number above all that were accepted before it (RFC 9001, section 6.4).
use Rattle.std.proofs.Common.{◌≡◌, ℕ, ◌<◌, ◌+◌, List, length, take, drop, refl, Bool, true, false, if◌then◌else◌, Option, Some, None, arith}
use Rattle.std.specs.Prelude.{◌||◌, nat_le, nat_lt}
use Rattle.std.proofs.lemmas.Bool.Decides.{nat_tests}
use Rattle.qc_crypto.specs.Mates.{Opening as OpeningFunction}
use Rattle.qc_header.specs.HeaderSpelling.{header_number}
use Rattle.qc_header.specs.Piece.{Piece}
use Rattle.qc_header.specs.Unprotected.{header_end, header_from, unprotected}
use Rattle.qc_header.specs.declared.header.Header.{Header}
use Rattle.qc_packet.specs.OpenedPacket.{is_bad_update, is_unanswered, key_named, opened_by as opened_under_key, which_in}
use Rattle.qc_rings.specs.Keyed.{Keyed}
use Rattle.qc_rings.specs.declared.which.Which.{Which}
use Rattle.qc_rings.specs.declared.which.Which.TheVariants.{Current, Next, Previous}
use Rattle.qc_state.specs.declared.opening.Opening.{Opening}
use Rattle.qc_state.specs.declared.opening.Opening.TheVariants.{Unreadable, Unopened, Reserved, Untimely, Opened}
use Rattle.qc_state.specs.Opening.{judged, opened_by, opened_in, opened_under, source_of, spin_of, token_of, whole_number}

-- so it is of a packet that opened, where the greatest number so far was this one
abbrev pub Above : (rx : ℕ) → Opening → Type 0
Above rx (Opened source token spin which number payload) = which ≡ Some Next → rx < number
Above rx _ = Unit {0}

module _ {P : Type 0} where
  -- by what an update that may be made is
  next_above : (ring : Option (Keyed P)) (rx number : ℕ) (which : Option Which) → is_bad_update which ring rx number ≡ false → which ≡ Some Next → rx < number
  next_above ring rx number None e is = cc is
  next_above ring rx number (Some Current) e is = cc is
  next_above ring rx number (Some Previous) e is = cc is
  next_above ring rx number (Some Next) e is = grind (arith, nat_tests, first (nat_le number rx) (is_unanswered ring) e)
    where
      first : (x y : Bool) → (x || y) ≡ false → x ≡ false
      first true y h = cc
      first false y h = refl

bits_above : (rx : ℕ) (b bad : Bool) (source token : List ℕ) (spin : Bool) (which : Option Which) (number : ℕ) (payload : List ℕ) → (bad ≡ false → which ≡ Some Next → rx < number) →
    Above rx (if b then (if bad then Untimely number else Opened source token spin which number payload) else Reserved number)
bits_above rx true false source token spin which number payload h = h refl
bits_above rx true true source token spin which number payload h = tt
bits_above rx false bad source token spin which number payload h = tt

judged_above : (rx : ℕ) (h : Header) (number : ℕ) (header_data : List ℕ) (which : Option Which) (bad : Bool) (o : Option (List ℕ)) → (bad ≡ false → which ≡ Some Next → rx < number) → Above rx (judged h number header_data which bad o)
judged_above rx h number header_data which bad None n = tt
judged_above rx h number header_data which bad (Some payload) n = bits_above rx _ bad (source_of h) (token_of h) (spin_of h) which number payload n

cut_above : (rx : ℕ) (b : Bool) (x : Opening) → Above rx x → Above rx (if b then Unreadable else x)
cut_above rx true x h = tt
cut_above rx false x h = h

module _ {H P : Type 0} (mask : H → List ℕ → List ℕ) (opening : P → OpeningFunction) (ring : Option (Keyed P)) (rx : ℕ) (p : Piece) where
  -- whatever comes of the keys of a ring
  pub opened_above : (key : Option H) → Above rx (opened_in mask opening key None ring rx p)
  unfolding opened_under opened_by
  opened_above None = tt
  opened_above (Some key) =
      let bytes : List ℕ = unprotected (mask key) p in
      let front : List ℕ = take (header_end p bytes) bytes in
      let h : Header = header_from p.header p.pn_offset front in
      let number : ℕ = whole_number (header_number h) rx in
      cut_above rx (nat_lt (length p.bytes) (p.pn_offset + 20)) _
      (judged_above rx h number front (which_in h ring number) (is_bad_update (which_in h ring number) ring rx number) (opened_under_key opening (key_named h None None ring number) number front (drop (header_end p bytes) bytes))
      (next_above ring rx number (which_in h ring number)))
