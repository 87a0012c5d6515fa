-- A datagram whose first packet was cut off already does what the whole datagram does.
use Rattle.std.proofs.Common.{◌≡◌, ℕ, ◌+◌, List, [], ◌∷◌, length, take, drop, ap, sym, ◌∙◌, subst, Bool, true, false, Option, Some, None, Result, Ok, Err, if◌then◌else◌, arith, length-append}
use Rattle.std.proofs.lemmas.List.{take-append-drop}
use Rattle.std.specs.Prelude.{◌&&◌, nat_le, nat_lt, is_ok}
use Rattle.std.specs.declared.net.SocketAddr.{SocketAddr}
use Rattle.qc_base.specs.Reading.{read_on}
use Rattle.qc_base.specs.declared.side.SpaceId.{SpaceId}
use Rattle.qc_base.specs.declared.side.SpaceId.TheVariants as space
use Rattle.qc_header.proofs.Datagrams.{pieces_first}
use Rattle.qc_header.proofs.FrontPiece.{piece_ends}
use Rattle.qc_header.specs.HeaderGrammar.{DatagramItem}
use Rattle.qc_header.specs.HeaderReading.{Heading, header_at, packet_at, piece_at}
use Rattle.qc_header.specs.Piece.{Piece, space_of}
use Rattle.qc_header.specs.declared.protected.PacketDecodeError.{PacketDecodeError}
use Rattle.qc_header.specs.declared.protected.PacketDecodeError.TheVariants.{InvalidHeader}
use Rattle.qc_header.specs.declared.protected.ProtectedHeader.{ProtectedHeader}
use Rattle.qc_rings.specs.declared.which.Which.{Which}
use Rattle.qc_state.specs.declared.coming.Coming.{Coming}
use Rattle.qc_state.specs.declared.deeds.Verdict.TheVariants as verdict
use Rattle.qc_state.specs.declared.opening.Opening.{Opening}
use Rattle.qc_state.specs.declared.opening.Opening.TheVariants.{Opened}
use Rattle.qc_state.specs.declared.transmit.TheConstants.{DATAGRAM_SIZE}
use Rattle.qc_state.specs.Life.{is_handshake, is_over}
use Rattle.qc_state.specs.Moves.{Expect, life_move, move_to, paths_move, setup_move, state_move}
use Rattle.qc_state.specs.Opening.{opening_of}
use Rattle.qc_state.specs.Paths.{is_blocked, same_address}
use Rattle.qc_state.specs.Receiving.{counted_after, cut_of, datagram_after, event_after, first_after, first_packet_after, first_token, has_first_ids, heard_after, is_readable, lets_in, opened_first, opening_after, piece_after, piece_told, pieces_after, received_after, token_in_first, token_in_items, formed_after}
use Rattle.qc_state.specs.Setup.{is_first_awaited, token_expected}
use Rattle.qc_state.specs.Types.{Types, Meaning}
use Rattle.qc_state.specs.Updating.{unsealed_after}
use Rattle.qc_state.specs.View.{View, At}
use Rattle.qc_state.proofs.InitialOpened.{plain_one}
use Rattle.qc_laws.proofs.HarmlessBytes.{expected_lets, first_ids, first_space, let_in, same_opening}
use Rattle.qc_laws.proofs.HarmlessTests.{not_over, tests_hold}

-- ---- a packet, and the bytes behind it, have as many bytes as the datagram

abbrev IsWhole : List ℕ → Result (Piece × List ℕ) PacketDecodeError → Type 0
IsWhole a (Ok x) = length x.0.bytes + length x.1 ≡ length a
IsWhole a (Err fault) = Unit {0}

packet_by : (a : List ℕ) (h : ProtectedHeader) (off n : ℕ) (b : Bool) → IsWhole a (if b then Err InvalidHeader else Ok (record { header = h; pn_offset = off; bytes = take n a }, drop n a))
packet_by a h off n true = tt
packet_by a h off n false = sym (length-append (take n a) (drop n a)) ∙ ap length (take-append-drop n a)

packet_whole : (a : List ℕ) (h : ProtectedHeader) (o : Option ℕ) (left : ℕ) → IsWhole a (packet_at a h o left)
packet_whole a h None left = omega arith
packet_whole a h (Some n) left = packet_by a h _ _ (nat_lt left n)

read_whole : (a : List ℕ) (v : Result (Heading × List ℕ) PacketDecodeError) → IsWhole a (read_on v (λ heading rest. packet_at a heading.0 heading.1 (length rest)))
read_whole a (Ok x) = packet_whole a x.0.0 x.0.1 (length x.1)
read_whole a (Err fault) = tt

cut_whole : (len : ℕ) (versions : List ℕ) (grease : Bool) (a : List ℕ) (p : Piece) (z : List ℕ) → piece_at len versions grease a ≡ Ok (p, z) → length p.bytes + length z ≡ length a
unfolding piece_at
cut_whole len versions grease a p z e = subst (IsWhole a) e (read_whole a (header_at (length a) len versions grease a))

module _ {t : Types} (m : Meaning t) where
  -- ---- a datagram that was cut

  -- the packets of a datagram are its first one and those of the bytes behind it
  cut_first : (s : View t) (bytes : List ℕ) (p : Piece) (behind : List ℕ) → piece_at (length s.setup.fixed.local_cid) (s.setup.fixed.version ∷ []) s.setup.fixed.grease_quic_bit bytes ≡ Ok (p, behind) → cut_of s bytes ≡ Ok p ∷ cut_of s behind
  cut_first s bytes p behind e =
      let ends = piece_ends (length s.setup.fixed.local_cid) (s.setup.fixed.version ∷ []) s.setup.fixed.grease_quic_bit bytes p behind e in
      pieces_first (length s.setup.fixed.local_cid) (s.setup.fixed.version ∷ []) s.setup.fixed.grease_quic_bit bytes p behind (omega (arith, ends.1)) e

  event_heard : (coming : Coming) (p : Piece) (behind bytes : List ℕ) (a : At t) →
      piece_at (length a.state.setup.fixed.local_cid) (a.state.setup.fixed.version ∷ []) a.state.setup.fixed.grease_quic_bit bytes ≡ Ok (p, behind) →
      event_after m coming p behind a ≡ heard_after m coming bytes a
  unfolding event_after heard_after is_readable
  event_heard coming p behind bytes a e =
      let size : length p.bytes + length behind ≡ length bytes = cut_whole (length a.state.setup.fixed.local_cid) (a.state.setup.fixed.version ∷ []) a.state.setup.fixed.grease_quic_bit bytes p behind e in
      ap (λ (n : ℕ). if lets_in a.state coming.remote then counted_after coming.time (is_blocked a.state.paths) n (pieces_after m coming (cut_of a.state behind) (piece_after m coming p a)) else a) size
      ∙ ap (λ (items : List DatagramItem). if lets_in a.state coming.remote then counted_after coming.time (is_blocked a.state.paths) (length bytes) (pieces_after m coming items a) else a) (sym (cut_first a.state bytes p behind e))
      ∙ ap (λ (x : Bool). if x && lets_in a.state coming.remote then counted_after coming.time (is_blocked a.state.paths) (length bytes) (pieces_after m coming (cut_of a.state bytes) a) else a) (sym (ap is_ok e))

  pub event_whole : (coming : Coming) (p : Piece) (behind bytes : List ℕ) (a : At t) →
      piece_at (length a.state.setup.fixed.local_cid) (a.state.setup.fixed.version ∷ []) a.state.setup.fixed.grease_quic_bit bytes ≡ Ok (p, behind) → is_first_awaited a.state.setup ≡ false →
      event_after m coming p behind a ≡ datagram_after m coming bytes a
  unfolding datagram_after
  event_whole coming p behind bytes a e awaits =
      event_heard coming p behind bytes a e
      ∙ ap (λ (x : Bool). if x then first_after m coming bytes (first_token m a.state coming.remote bytes) a else heard_after m coming bytes a) (sym awaits)

  -- ---- a server's first datagram, which was cut

  -- what the token says: the handshake goes on, the address is the path's, and the packet has the ids of a first one
  token_says : (remote : SocketAddr) (p : Piece) (behind bytes token : List ℕ) (s : View t) →
      piece_at (length s.setup.fixed.local_cid) (s.setup.fixed.version ∷ []) s.setup.fixed.grease_quic_bit bytes ≡ Ok (p, behind) → first_token m s remote bytes ≡ Some token →
      (is_handshake s.life.state ≡ true) × (same_address s.paths.current.remote remote ≡ true) × (has_first_ids s p.header ≡ true)
  unfolding first_token token_in_first
  token_says remote p behind bytes token s e h =
      let holds = tests_hold (is_handshake s.life.state) (nat_le DATAGRAM_SIZE (length bytes)) (same_address s.paths.current.remote remote) (token_in_items m s (cut_of s bytes)) token h in
      (holds.0, holds.1, first_ids m s p token (has_first_ids s p.header) (sym (ap (token_in_items m s) (cut_first s bytes p behind e)) ∙ holds.2))

  -- its first packet does what a packet does that opened in the Initial space
  first_piece : (coming : Coming) (p : Piece) (source token : List ℕ) (spin : Bool) (which : Option Which) (number : ℕ) (payload : List ℕ) (a : At t) →
      is_over a.state.life.state ≡ false → space_of p.header ≡ Some space.Initial → opening_of m a.state p ≡ Opened source token spin which number payload →
      piece_after m coming p a ≡ received_after m coming space.Initial false source token number payload a
  unfolding piece_after
  first_piece coming p source token spin which number payload a over is_initial opens =
      let plain : (spin ≡ false) × (which ≡ None) = plain_one m a.state p source token spin which number payload is_initial opens in
      ap (λ (x : Bool). if x then piece_told (space_of p.header) None verdict.Ignored a else formed_after m coming (space_of p.header) p a) over
      ∙ ap (λ (x : Option SpaceId). formed_after m coming x p a) is_initial
      ∙ ap (λ (o : Opening). opening_after m coming (Some space.Initial) o a) opens
      ∙ ap (λ (w : Option Which). received_after m coming space.Initial spin source token number payload (unsealed_after m coming.time w number a)) plain.1
      ∙ ap (λ (b : Bool). received_after m coming space.Initial b source token number payload a) plain.0

  first_event : (coming : Coming) (p : Piece) (source token : List ℕ) (spin : Bool) (which : Option Which) (number : ℕ) (payload behind : List ℕ) (a : At t) →
      lets_in a.state coming.remote ≡ true → is_over a.state.life.state ≡ false → space_of p.header ≡ Some space.Initial → opening_of m a.state p ≡ Opened source token spin which number payload →
      event_after m coming p behind a
      ≡ counted_after coming.time (is_blocked a.state.paths) (length p.bytes + length behind) (pieces_after m coming (cut_of a.state behind) (received_after m coming space.Initial false source token number payload a))
  unfolding event_after
  first_event coming p source token spin which number payload behind a lets over is_initial opens =
      ap (λ (x : Bool). if x then counted_after coming.time (is_blocked a.state.paths) (length p.bytes + length behind) (pieces_after m coming (cut_of a.state behind) (piece_after m coming p a)) else a) lets
      ∙ ap (λ (x : At t). counted_after coming.time (is_blocked a.state.paths) (length p.bytes + length behind) (pieces_after m coming (cut_of a.state behind) x)) (first_piece coming p source token spin which number payload a over is_initial opens)

  -- that its token is expected changes nothing of how its datagram is cut, nor of whether it is let in
  expected_heard : (coming : Coming) (p : Piece) (source token : List ℕ) (spin : Bool) (which : Option Which) (number : ℕ) (payload behind bytes : List ℕ) (a : At t) →
      piece_at (length a.state.setup.fixed.local_cid) (a.state.setup.fixed.version ∷ []) a.state.setup.fixed.grease_quic_bit bytes ≡ Ok (p, behind) →
      first_token m a.state coming.remote bytes ≡ Some token → opening_of m a.state p ≡ Opened source token spin which number payload →
      first_packet_after m coming source token number payload behind (length p.bytes + length behind) a ≡ heard_after m coming bytes (move_to (Expect token) a)
  unfolding first_packet_after opened_first move_to state_move life_move paths_move setup_move token_expected
  expected_heard coming p source token spin which number payload behind bytes a e is_token opens =
      let says = token_says coming.remote p behind bytes token a.state e is_token in
      let b : At t = move_to (Expect token) a in
      let lets : lets_in b.state coming.remote ≡ true = expected_lets a.state token coming.remote ∙ let_in a.state coming.remote says.0 says.1 in
      sym (first_event coming p source token spin which number payload behind b lets (not_over a.state.life.state says.0) (first_space a.state p says.2) (same_opening m a.state token p ∙ opens))
      ∙ event_heard coming p behind bytes b e

  pub first_whole : (coming : Coming) (p : Piece) (source token : List ℕ) (spin : Bool) (which : Option Which) (number : ℕ) (payload behind bytes : List ℕ) (a : At t) →
      piece_at (length a.state.setup.fixed.local_cid) (a.state.setup.fixed.version ∷ []) a.state.setup.fixed.grease_quic_bit bytes ≡ Ok (p, behind) → is_first_awaited a.state.setup ≡ true →
      first_token m a.state coming.remote bytes ≡ Some token → opening_of m a.state p ≡ Opened source token spin which number payload →
      first_packet_after m coming source token number payload behind (length bytes) a ≡ datagram_after m coming bytes a
  unfolding datagram_after
  first_whole coming p source token spin which number payload behind bytes a e awaits is_token opens =
      let size : length p.bytes + length behind ≡ length bytes = cut_whole (length a.state.setup.fixed.local_cid) (a.state.setup.fixed.version ∷ []) a.state.setup.fixed.grease_quic_bit bytes p behind e in
      ap (λ (n : ℕ). first_packet_after m coming source token number payload behind n a) (sym size)
      ∙ expected_heard coming p source token spin which number payload behind bytes a e is_token opens
      ∙ ap (λ (x : Option (List ℕ)). first_after m coming bytes x a) (sym is_token)
      ∙ ap (λ (x : Bool). if x then first_after m coming bytes (first_token m a.state coming.remote bytes) a else heard_after m coming bytes a) (sym awaits)
