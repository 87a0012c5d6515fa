-- The packets that are left of a datagram.
use Rattle.std.proofs.Common.{◌≡◌, ℕ, ◌<◌, List, [], ◌∷◌, length, refl, ap, sym, ◌∙◌, subst, Bool, true, false, Option, Some, None, Result, Ok, Err, is_ok, IsErr, arith}
use Rattle.std.specs.Prelude.{◌&&◌, IfSome, IfNone, if◌then◌else◌}
use Rattle.std.specs.Global.{Global}
use Rattle.bytes.specs.declared.unique.BytesMut.{BytesMut}
use Rattle.qc_receive.specs.Cutting.{Cuts, front_of, rest_of, others_of}
use Rattle.qc_receive.specs.declared.receiving.Cutting.{Cutting}
use Rattle.qc_header.specs.HeaderGrammar.{DatagramItem}
use Rattle.qc_header.specs.HeaderReading.{piece_at}
use Rattle.qc_header.specs.Piece.{Piece}
use Rattle.qc_header.specs.Pieces.{pieces_of}
use Rattle.qc_header.specs.declared.protected.PacketDecodeError.{PacketDecodeError}
use Rattle.qc_header.proofs.Datagrams.{pieces_none, pieces_first, pieces_fault}
use Rattle.qc_header.proofs.FrontPiece.{piece_ends}
use Rattle.qc_state.specs.declared.coming.Coming.{Coming}
use Rattle.qc_state.specs.Paths.{is_blocked}
use Rattle.qc_state.specs.Receiving.{piece_after, pieces_after, lets_in, cut_of, is_readable, counted_after, heard_after}
use Rattle.qc_state.specs.Types.{Types, Meaning}
use Rattle.qc_state.specs.View.{View, At}

-- the bytes behind a packet are fewer
pub fewer : (c : Cutting) (bytes : List ℕ) (p : Piece) (rest : List ℕ) → front_of c bytes ≡ Ok (p, rest) → length rest < length bytes
fewer c bytes p rest e = let ends = piece_ends c.local_cid_len (c.version ∷ []) c.grease_quic_bit bytes p rest e in omega (arith, ends.1)

pub front_first : (c : Cutting) (bytes : List ℕ) (p : Piece) (rest : List ℕ) → front_of c bytes ≡ Ok (p, rest) →
    pieces_of c.local_cid_len (c.version ∷ []) c.grease_quic_bit bytes ≡ Ok p ∷ pieces_of c.local_cid_len (c.version ∷ []) c.grease_quic_bit rest
front_first c bytes p rest e = pieces_first c.local_cid_len (c.version ∷ []) c.grease_quic_bit bytes p rest (omega (arith, fewer c bytes p rest e)) e

module _ {t : Types} (m : Meaning t) (coming : Coming) (c : Cutting) where
  -- nothing is left
  pub none_left : (rest : Option (BytesMut Global)) (a target : At t) → rest ≡ None → pieces_after m coming (others_of c rest) a ≡ target → a ≡ target
  none_left rest a target none h =
      ap (λ (items : List DatagramItem). pieces_after m coming items a) (sym (ap (others_of c) none ∙ pieces_none c.local_cid_len (c.version ∷ []) c.grease_quic_bit [] refl)) ∙ h

  fault_by : (bytes : List ℕ) (a : At t) (v : Result (Piece × List ℕ) PacketDecodeError) → front_of c bytes ≡ v → IsErr v → 0 < length bytes →
      a ≡ pieces_after m coming (pieces_of c.local_cid_len (c.version ∷ []) c.grease_quic_bit bytes) a
  fault_by bytes a (Ok x) e none some = cc none
  fault_by bytes a (Err fault) e none some = ap (λ (items : List DatagramItem). pieces_after m coming items a) (sym (pieces_fault c.local_cid_len (c.version ∷ []) c.grease_quic_bit bytes fault some e))

  -- bytes that begin with no packet are left
  pub fault_left : (rest : Option (BytesMut Global)) (bytes : BytesMut Global) (a target : At t) → rest ≡ Some bytes → IfSome rest (λ b. 0 < length b.items) → IsErr (front_of c bytes.items) →
      pieces_after m coming (others_of c rest) a ≡ target → a ≡ target
  fault_left rest bytes a target is some none h =
      fault_by bytes.items a (front_of c bytes.items) refl none (subst (λ (o : Option (BytesMut Global)). IfSome o (λ b. 0 < length b.items)) is some)
      ∙ ap (λ (o : Option (BytesMut Global)). pieces_after m coming (others_of c o) a) (sym is) ∙ h

  -- one packet is taken of what is left
  pub one_left : (rest : Option (BytesMut Global)) (bytes : BytesMut Global) (others : Option (BytesMut Global)) (p : Piece) (a b target : At t) → rest ≡ Some bytes → front_of c bytes.items ≡ Ok (p, rest_of others) →
      b ≡ piece_after m coming p a → pieces_after m coming (others_of c rest) a ≡ target → pieces_after m coming (others_of c others) b ≡ target
  one_left rest bytes others p a b target same e is h =
      ap (λ (x : At t). pieces_after m coming (others_of c others) x) is ∙ ap (λ (items : List DatagramItem). pieces_after m coming items a) (sym (front_first c bytes.items p (rest_of others) e))
      ∙ ap (λ (o : Option (BytesMut Global)). pieces_after m coming (others_of c o) a) (sym same) ∙ h

-- the bytes that are left are fewer
pub fewer_left : (c : Cutting) (rest : Option (BytesMut Global)) (bytes : BytesMut Global) (others : Option (BytesMut Global)) (p : Piece) → rest ≡ Some bytes → front_of c bytes.items ≡ Ok (p, rest_of others) →
    length (rest_of others) < length (rest_of rest)
fewer_left c rest bytes others p same e = omega (arith, fewer c bytes.items p (rest_of others) e, ap (λ (o : Option (BytesMut Global)). length (rest_of o)) same)

-- what was cut
pub cut_some : (c : Cutting) (bytes : BytesMut Global) (o : Option (Piece × Option (BytesMut Global))) (p : Piece) (others : Option (BytesMut Global)) → o ≡ Some (p, others) →
    IfSome o (λ x. (front_of c bytes.items ≡ Ok (x.0, rest_of x.1)) × IfSome x.1 (λ b. 0 < length b.items)) → (front_of c bytes.items ≡ Ok (p, rest_of others)) × IfSome others (λ b. 0 < length b.items)
cut_some c bytes o p others is h = subst (λ (x : Option (Piece × Option (BytesMut Global))). IfSome x (λ y. (front_of c bytes.items ≡ Ok (y.0, rest_of y.1)) × IfSome y.1 (λ b. 0 < length b.items))) is h

pub cut_none : (c : Cutting) (bytes : BytesMut Global) (o : Option (Piece × Option (BytesMut Global))) → o ≡ None → IfNone o (IsErr (front_of c bytes.items)) → IsErr (front_of c bytes.items)
cut_none c bytes o is h = subst (λ (x : Option (Piece × Option (BytesMut Global))). IfNone x (IsErr (front_of c bytes.items))) is h

err_is : (v : Result (Piece × List ℕ) PacketDecodeError) → IsErr v → is_ok v ≡ false
err_is (Ok x) h = cc h
err_is (Err e) h = refl

-- how a connection cuts a datagram
module _ {t : Types} where
  same_front : (c : Cutting) (s : View t) (bytes : List ℕ) → Cuts s c → front_of c bytes ≡ piece_at (length s.setup.fixed.local_cid) (s.setup.fixed.version ∷ []) s.setup.fixed.grease_quic_bit bytes
  same_front c s bytes h = ap (λ k. piece_at k (c.version ∷ []) c.grease_quic_bit bytes) h.len ∙ ap (λ v. piece_at (length s.setup.fixed.local_cid) (v ∷ []) c.grease_quic_bit bytes) h.version ∙ ap (λ g. piece_at (length s.setup.fixed.local_cid) (s.setup.fixed.version ∷ []) g bytes) h.grease

  pub same_cut : (c : Cutting) (s : View t) (bytes : List ℕ) → Cuts s c → pieces_of c.local_cid_len (c.version ∷ []) c.grease_quic_bit bytes ≡ cut_of s bytes
  same_cut c s bytes h = ap (λ k. pieces_of k (c.version ∷ []) c.grease_quic_bit bytes) h.len ∙ ap (λ v. pieces_of (length s.setup.fixed.local_cid) (v ∷ []) c.grease_quic_bit bytes) h.version ∙ ap (λ g. pieces_of (length s.setup.fixed.local_cid) (s.setup.fixed.version ∷ []) g bytes) h.grease

  pub readable_is : (c : Cutting) (s : View t) (bytes : List ℕ) (p : Piece) (rest : List ℕ) → Cuts s c → front_of c bytes ≡ Ok (p, rest) → true ≡ is_readable s bytes
  unfolding is_readable
  readable_is c s bytes p rest h e = ap is_ok (sym e ∙ same_front c s bytes h)

  pub unreadable_is : (c : Cutting) (s : View t) (bytes : List ℕ) → Cuts s c → IsErr (front_of c bytes) → false ≡ is_readable s bytes
  unfolding is_readable
  unreadable_is c s bytes h e = sym (err_is (front_of c bytes) e) ∙ ap is_ok (same_front c s bytes h)

  -- the bytes of a datagram are counted
  pub counted_by : (time : ℕ) (blocked blocked' : Bool) (n k : ℕ) (a b d : At t) → blocked ≡ blocked' → n ≡ k → a ≡ b → d ≡ counted_after time blocked n a → d ≡ counted_after time blocked' k b
  counted_by time blocked blocked' n k a b d as_stands is_n is_a is_d =
      is_d ∙ ap (λ (x : Bool). counted_after time x n a) as_stands ∙ ap (λ (x : ℕ). counted_after time blocked' x a) is_n ∙ ap (λ (x : At t). counted_after time blocked' k x) is_a

  -- a datagram that counts
  pub heard_is : (m : Meaning t) (coming : Coming) (c : Cutting) (bytes : List ℕ) (p : Piece) (rest : Option (BytesMut Global)) (len : ℕ) (blocked : Bool) (a b d : At t) → Cuts a.state c → front_of c bytes ≡ Ok (p, rest_of rest) →
      true ≡ lets_in a.state coming.remote → len ≡ length bytes → blocked ≡ is_blocked a.state.paths → b ≡ pieces_after m coming (Ok p ∷ others_of c rest) a → d ≡ counted_after coming.time blocked len b → d ≡ heard_after m coming bytes a
  unfolding heard_after
  heard_is m coming c bytes p rest len blocked a b d h e lets is_len as_stands is_b is_d =
      let readable : is_readable a.state bytes ≡ true = sym (readable_is c a.state bytes p (rest_of rest) h e) in
      let inside : lets_in a.state coming.remote ≡ true = sym lets in
      rw (readable, inside) (counted_by coming.time blocked (is_blocked a.state.paths) len (length bytes) b _ d as_stands is_len (is_b ∙ ap (λ (items : List DatagramItem). pieces_after m coming items a) (sym (front_first c bytes p (rest_of rest) e) ∙ same_cut c a.state bytes h)) is_d)

  -- a datagram that doesn't count
  pub unheard_is : (m : Meaning t) (coming : Coming) (bytes : List ℕ) (a : At t) → false ≡ lets_in a.state coming.remote → a ≡ heard_after m coming bytes a
  unfolding heard_after
  unheard_is m coming bytes a lets = unheard_by (is_readable a.state bytes) (lets_in a.state coming.remote) (sym lets)
    where
      unheard_by : (x y : Bool) → y ≡ false → a ≡ (if x && y then counted_after coming.time (is_blocked a.state.paths) (length bytes) (pieces_after m coming (cut_of a.state bytes) a) else a)
      unheard_by true true e = cc e
      unheard_by true false e = refl
      unheard_by false y e = refl

  pub dropped_is : (m : Meaning t) (coming : Coming) (c : Cutting) (bytes : List ℕ) (a : At t) → Cuts a.state c → IsErr (front_of c bytes) → a ≡ heard_after m coming bytes a
  unfolding heard_after
  dropped_is m coming c bytes a h none = let not_readable : is_readable a.state bytes ≡ false = sym (unreadable_is c a.state bytes h none) in rw not_readable refl
