-- Datagrams that are one 1-RTT packet.
use Rattle.std.proofs.Common.{◌≡◌, ℕ, ◌+◌, ◌<◌, ◌≤◌, List, [], ◌∷◌, ◌++◌, length, take, drop, refl, ap, sym, ◌∙◌, subst, Bool, true, false, Option, Some, None, arith}
use Rattle.std.proofs.lemmas.Bool.Decides.{nat_tests}
use Rattle.std.proofs.lemmas.List.{take-append-drop, take_at, length-take-le, length-drop}
use Rattle.std.specs.Prelude.{◌&&◌, ◌-◌, ◌/◌, ◌%◌, ◌==◌, nat_lt, cond, if◌then◌else◌, Ok}
use Rattle.qc_base.specs.Mask.{first_byte, number_len_in, unmasked}
use Rattle.qc_base.specs.Time.{plus}
use Rattle.qc_base.specs.declared.packet_number.PacketNumber.{PacketNumber}
use Rattle.qc_receive.specs.Cutting.{Cuts, front_of}
use Rattle.qc_receive.specs.Short.{short_in}
use Rattle.qc_receive.specs.declared.receiving.Cutting.{Cutting}
use Rattle.qc_receive.proofs.Behind.{heard_is}
use Rattle.qc_crypto.specs.Mates.{Opening as OpeningFunction}
use Rattle.qc_header.specs.HeaderGrammar.{DatagramItem}
use Rattle.qc_header.specs.HeaderReading.{piece_at}
use Rattle.qc_header.specs.Piece.{Piece}
use Rattle.qc_header.specs.Unprotected.{header_from}
use Rattle.qc_header.specs.declared.header.Header.TheVariants as header
use Rattle.qc_header.specs.declared.protected.ProtectedHeader.TheVariants.{Short}
use Rattle.qc_header.proofs.Datagrams.{pieces_none}
use Rattle.qc_header.proofs.ReadHeaders.{short_piece}
use Rattle.qc_packet.specs.OpenedPacket.{key_named, opened_by as opened_under_key}
use Rattle.qc_rings.specs.Keyed.{Keyed}
use Rattle.qc_state.specs.declared.coming.Coming.{Coming}
use Rattle.qc_state.specs.declared.opening.Opening.{Opening}
use Rattle.qc_state.specs.declared.opening.Opening.TheVariants.{Unreadable, Unopened}
use Rattle.qc_state.specs.Expansion.{expanded}
use Rattle.qc_state.specs.Opening.{opened_by, opened_numbered, opened_under}
use Rattle.qc_state.specs.Paths.{is_blocked}
use Rattle.qc_state.specs.Receiving.{counted_after, heard_after, lets_in, piece_after, pieces_after}
use Rattle.qc_state.specs.Types.{Types, Meaning}
use Rattle.qc_state.specs.View.{At}

-- bytes that were changed where they stand, all of them
pub in_place : (new old : List ℕ) → length new ≡ length old → take (length old) (new ++ drop (length new) old) ≡ new
in_place new old same = take_at new (drop (length new) old) (length old) same

-- what isn't below a bound
long_by : (n least : ℕ) (b : Bool) → nat_lt n least ≡ b → (n < least → ⊥) → least ≤ n
long_by n least true t h = absurd (h (grind (arith, nat_tests)))
long_by n least false t h = grind (arith, nat_tests)

pub long_enough : (n least : ℕ) → (n < least → ⊥) → least ≤ n
long_enough n least h = long_by n least (nat_lt n least) refl h

module _ {P : Type 0} (opening : P → OpeningFunction) (rx : ℕ) where
  -- there are no keys of 1-RTT packets
  pub no_ring : (ring : Option (Keyed P)) (spin phase : Bool) (dst : List ℕ) (low : PacketNumber) (head sealed : List ℕ) → ring ≡ None → Unopened ≡ opened_by opening None ring rx (header.Short spin phase dst low) head sealed
  unfolding opened_by key_named opened_under_key
  no_ring ring spin phase dst low head sealed none = rw none refl

  -- there are
  pub in_ring : (n : ℕ) (ring : Option (Keyed P)) (k : Keyed P) (spin phase : Bool) (dst : List ℕ) (low : PacketNumber) (head sealed : List ℕ) (o : Opening) → ring ≡ Some k → n ≡ expanded low (plus rx 1) →
      o ≡ opened_numbered opening None (Some k) rx n (header.Short spin phase dst low) head sealed → o ≡ opened_by opening None ring rx (header.Short spin phase dst low) head sealed
  unfolding opened_by
  in_ring n ring k spin phase dst low head sealed o is_ring is_n is =
      is
      ∙ ap (λ (x : ℕ). opened_numbered opening None (Some k) rx x (header.Short spin phase dst low) head sealed) is_n
      ∙ sym (ap (λ (x : Option (Keyed P)). opened_by opening None x rx (header.Short spin phase dst low) head sealed) is_ring)

module _ {H P : Type 0} (mask : H → List ℕ → List ℕ) (opening : P → OpeningFunction) (key : H) (ring : Option (Keyed P)) (rx len pn_offset : ℕ) (spin : Bool) (dst bytes : List ℕ) where
  abbrev piece : Piece
  piece = record { header = Short spin dst; pn_offset = pn_offset; bytes = bytes }

  -- it is too short for a sample
  pub short_cut : len ≡ length bytes → len < pn_offset + 20 → Unreadable ≡ opened_under mask opening key None ring rx piece
  unfolding opened_under
  short_cut is_len below = let low : nat_lt (length bytes) (pn_offset + 20) ≡ true = grind (arith, nat_tests) in rw low refl

  -- it is long enough: its header without the mask, and what is behind that
  pub short_whole : (n : ℕ) (bare head payload : List ℕ) (o : Opening) → len ≡ length bytes → pn_offset + 20 ≤ len → bare ≡ unmasked (mask key) pn_offset bytes → n ≡ pn_offset + number_len_in bare → head ≡ take n bare → payload ≡ drop n bare →
      o ≡ opened_by opening None ring rx (header_from (Short spin dst) pn_offset head) head payload → o ≡ opened_under mask opening key None ring rx piece
  unfolding opened_under
  short_whole n bare head payload o is_len within is_bare is_n is_head is_payload is =
      let high : nat_lt (length bytes) (pn_offset + 20) ≡ false = grind (arith, nat_tests) in
      let front = is_head ∙ ap (λ (k : ℕ). take k bare) is_n in
      let behind = is_payload ∙ ap (λ (k : ℕ). drop k bare) is_n in
      is ∙ ap (λ (x : List ℕ). opened_by opening None ring rx (header_from (Short spin dst) pn_offset x) x payload) front
      ∙ ap (λ (x : List ℕ). opened_by opening None ring rx (header_from (Short spin dst) pn_offset (take (pn_offset + number_len_in bare) bare)) (take (pn_offset + number_len_in bare) bare) x) behind
      ∙ ap (λ (x : List ℕ). opened_by opening None ring rx (header_from (Short spin dst) pn_offset (take (pn_offset + number_len_in x) x)) (take (pn_offset + number_len_in x) x) (drop (pn_offset + number_len_in x) x)) is_bare
      ∙ sym (rw high refl)

-- a first byte with these two bits
spin_in : (b : ℕ) (spin : Bool) → b / 64 ≡ 1 → (b / 32 % 2 == 1) ≡ spin → b / 32 ≡ 2 + cond spin 1 0
spin_in b true high is = let odd : b / 32 % 2 ≡ 1 = grind (arith, nat_tests) in omega (arith, high, odd)
spin_in b false high is = let even : b / 32 % 2 ≡ 0 = grind (arith, nat_tests) in omega (arith, high, even)

-- a datagram that begins with a short header is one 1-RTT packet
front_by : (c : Cutting) (b : ℕ) (rest : List ℕ) → b / 64 ≡ 1 → c.local_cid_len ≤ length rest → front_of c (b ∷ rest) ≡ Ok (short_in c.local_cid_len (b ∷ rest), [])
front_by c b rest high within =
    let k : ℕ = c.local_cid_len in
    let read = short_piece k b (b / 32 % 2 == 1) (c.version ∷ []) (take k rest) (drop k rest) c.grease_quic_bit (spin_in b (b / 32 % 2 == 1) high refl) (length-take-le k rest within) in
    let whole = subst (λ (w : List ℕ). piece_at k (c.version ∷ []) c.grease_quic_bit (b ∷ w) ≡ Ok (record { header = Short (b / 32 % 2 == 1) (take k rest); pn_offset = length (b ∷ w) - length (drop k rest); bytes = b ∷ w }, [])) (take-append-drop k rest) read in
    let left : length (drop k rest) ≡ length rest - k = length-drop k rest in
    let offset : length (b ∷ rest) - length (drop k rest) ≡ 1 + k = omega (arith, left, within) in
    whole ∙ ap (λ (n : ℕ). Ok (record { header = Short (b / 32 % 2 == 1) (take k rest); pn_offset = n; bytes = b ∷ rest }, [])) offset

both : (x y : Bool) → (x && y) ≡ true → (x ≡ true) × (y ≡ true)
both true y h = (refl, h)
both false y h = cc h

pub front_short : (c : Cutting) (bytes : List ℕ) (short : Bool) → short ≡ ((first_byte bytes / 64 == 1) && nat_lt c.local_cid_len (length bytes)) → short ≡ true → front_of c bytes ≡ Ok (short_in c.local_cid_len bytes, [])
front_short c [] short is h = cc (is, h)
front_short c (b ∷ rest) short is h =
    let parts = both (b / 64 == 1) (nat_lt c.local_cid_len (length (b ∷ rest))) (sym is ∙ h) in
    let first = parts.0 in
    let second = parts.1 in
    let high : b / 64 ≡ 1 = grind (arith, nat_tests) in
    let within : c.local_cid_len ≤ length rest = grind (arith, nat_tests) in
    front_by c b rest high within

-- it counts
pub heard_alone : {t : Types} (m : Meaning t) (coming : Coming) (c : Cutting) (bytes : List ℕ) (p : Piece) (len : ℕ) (blocked : Bool) (a b d : At t) → Cuts a.state c → front_of c bytes ≡ Ok (p, []) →
    true ≡ lets_in a.state coming.remote → len ≡ length bytes → blocked ≡ is_blocked a.state.paths → b ≡ piece_after m coming p a → d ≡ counted_after coming.time blocked len b → d ≡ heard_after m coming bytes a
heard_alone m coming c bytes p len blocked a b d h e lets is_len as_stands is_b is_d =
    heard_is m coming c bytes p None len blocked a b d h e lets is_len as_stands
    (is_b ∙ sym (ap (λ (items : List DatagramItem). pieces_after m coming items (piece_after m coming p a)) (pieces_none c.local_cid_len (c.version ∷ []) c.grease_quic_bit [] refl))) is_d
