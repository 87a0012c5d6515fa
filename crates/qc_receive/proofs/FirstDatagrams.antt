-- The first datagram of a server.
use Rattle.std.proofs.Common.{◌≡◌, ℕ, List, [], ◌∷◌, length, refl, ap, sym, ◌∙◌, subst, Bool, true, false, Option, Some, None, Result, Ok, Err, IsErr, arith}
use Rattle.std.specs.Prelude.{◌&&◌, not, nat_le, IfSome, IfNone, if◌then◌else◌}
use Rattle.rand_core.specs.Stream.{Stream}
use Rattle.std.specs.Global.{Global}
use Rattle.std.specs.declared.net.SocketAddr.{SocketAddr}
use Rattle.bytes.specs.declared.unique.BytesMut.{BytesMut}
use Rattle.qc_base.specs.declared.side.SpaceId.{SpaceId}
use Rattle.qc_base.specs.declared.side.SpaceId.TheVariants as space
use Rattle.qc_receive.specs.Cutting.{Cuts, front_of, rest_of, others_of}
use Rattle.qc_receive.specs.declared.receiving.Cutting.{Cutting}
use Rattle.qc_receive.specs.declared.receiving.First.{First}
use Rattle.qc_receive.proofs.Behind.{counted_by, front_first, readable_is, same_cut}
use Rattle.qc_header.specs.HeaderGrammar.{DatagramItem}
use Rattle.qc_header.specs.Piece.{Piece, space_of}
use Rattle.qc_header.specs.Pieces.{pieces_of}
use Rattle.qc_header.specs.declared.protected.PacketDecodeError.{PacketDecodeError}
use Rattle.qc_header.specs.declared.protected.ProtectedHeader.{ProtectedHeader}
use Rattle.qc_header.specs.declared.protected.ProtectedHeader.TheVariants.{Initial, Long, Retry, Short, VersionNegotiate}
use Rattle.qc_header.proofs.Datagrams.{pieces_none, pieces_fault}
use Rattle.qc_rings.specs.declared.which.Which.{Which}
use Rattle.qc_state.specs.declared.coming.Coming.{Coming}
use Rattle.qc_state.specs.declared.deeds.Did.{Did}
use Rattle.qc_state.specs.declared.deeds.Verdict.TheVariants as verdict
use Rattle.qc_state.specs.declared.life.State.{State}
use Rattle.qc_state.specs.declared.life.State.TheVariants as state
use Rattle.qc_state.specs.declared.opening.Opening.{Opening}
use Rattle.qc_state.specs.declared.opening.Opening.TheVariants.{Opened}
use Rattle.qc_state.specs.declared.transmit.TheConstants.{DATAGRAM_SIZE}
use Rattle.qc_state.specs.Life.{is_handshake, is_over}
use Rattle.qc_state.specs.Moves.{Expect, move_to, state_move, deeds_move, numbers_move, keys_move, life_move, paths_move, setup_move}
use Rattle.qc_state.specs.Opening.{opening_of}
use Rattle.qc_state.specs.Paths.{is_blocked, same_address}
use Rattle.qc_state.specs.Receiving.{is_initial_with, has_first_ids, opened_token, token_in_first, token_in_items, first_token, first_after, is_taken, lets_in, cut_of, counted_after, heard_after, datagram_after, formed_after, opening_after, received_after, piece_told, piece_after, pieces_after}
use Rattle.qc_state.specs.Setup.{is_first_awaited, ideal_setup, token_expected}
use Rattle.qc_state.specs.declared.setup.Setup.{Setup}
use Rattle.qc_state.specs.Types.{Types, Meaning}
use Rattle.qc_state.specs.View.{View, At, at}
use Rattle.qc_state.proofs.InitialOpened.{names_none}

-- a packet with the ids of a first one is an Initial packet
initial_space : (dst_cid src_cid : List ℕ) (header : ProtectedHeader) → is_initial_with dst_cid src_cid header ≡ true → space_of header ≡ Some space.Initial
initial_space dst_cid src_cid (Initial dst src token_start token_len version) h = refl
initial_space dst_cid src_cid (Long ty dst src version) h = cc h
initial_space dst_cid src_cid (Retry dst src version) h = cc h
initial_space dst_cid src_cid (Short spin dst) h = cc h
initial_space dst_cid src_cid (VersionNegotiate random src dst) h = cc h

-- while the handshake goes on the connection isn't over
handshake_not_over : (s : State) → is_handshake s ≡ true → is_over s ≡ false
handshake_not_over state.Handshake h = refl
handshake_not_over state.Established h = refl
handshake_not_over state.Closed h = refl
handshake_not_over state.Draining h = cc h
handshake_not_over state.Drained h = cc h

if_none : (b : Bool) (o : Option (List ℕ)) → o ≡ None → (if b then o else None) ≡ None
if_none true o h = h
if_none false o h = refl

-- the parts of a test of three
first_of : (a b c : Bool) → (a && (b && c)) ≡ true → a ≡ true
first_of true b c h = refl
first_of false b c h = cc h

third_of : (a b c : Bool) → (a && (b && c)) ≡ true → c ≡ true
third_of true true c h = h
third_of true false c h = cc h
third_of false b c h = cc h

both_hold : (a b : Bool) → a ≡ false → b ≡ true → (not a && b) ≡ true
both_hold true b e h = cc e
both_hold false b e h = h

-- an option that holds nothing, or something
pub opened_none : (o : Option First) (X : Type 0) → o ≡ None → IfNone o X → X
opened_none (Some x) X e h = cc e
opened_none None X e h = h

pub opened_some : (o : Option First) (X : First → Type 0) (x : First) → o ≡ Some x → IfSome o X → X x
opened_some o X x e h = subst (λ (y : Option First). IfSome y X) e h

-- the source of random words says nothing of whether a first packet is awaited
pub awaits_ideal : {R : Type 0} (stream : R → Stream) (s : Setup R) → is_first_awaited s ≡ true → is_first_awaited (ideal_setup stream s) ≡ true
unfolding is_first_awaited ideal_setup
awaits_ideal stream s h = h

-- a packet with a first one's ids that opened names no keys of the ring
module _ {t : Types} (m : Meaning t) where
  pub first_names_none : (s : View t) (p : Piece) (o : Opening) (source token : List ℕ) (spin : Bool) (which : Option Which) (number : ℕ) (payload : List ℕ) →
      has_first_ids s p.header ≡ true → o ≡ opening_of m s p → o ≡ Opened source token spin which number payload → opening_of m s p ≡ Opened source token spin None number payload
  unfolding has_first_ids
  first_names_none s p o source token spin which number payload ids = names_none m s p o source token spin which number payload (initial_space s.setup.fixed.first_cid s.paths.current.remote_cid p.header ids)

module _ {t : Types} (m : Meaning t) where
  -- no token: the datagram isn't taken
  pub not_taken : (s : View t) (remote : SocketAddr) (bytes : List ℕ) → is_first_awaited s.setup ≡ true → first_token m s remote bytes ≡ None → false ≡ is_taken m s remote bytes
  unfolding is_taken
  not_taken s remote bytes awaits none = rw (awaits, none) refl

  -- and changes nothing
  pub left_alone : (coming : Coming) (bytes : List ℕ) (a : At t) → is_first_awaited a.state.setup ≡ true → first_token m a.state coming.remote bytes ≡ None → a ≡ datagram_after m coming bytes a
  unfolding datagram_after
  left_alone coming bytes a awaits none = rw (awaits, none) refl

  -- the test on length and address
  may_is : (s : View t) (remote : SocketAddr) (bytes : List ℕ) (len : ℕ) (may : Bool) → may ≡ (is_handshake s.life.state && (nat_le DATAGRAM_SIZE len && same_address s.paths.current.remote remote)) → len ≡ length bytes →
      (is_handshake s.life.state && (nat_le DATAGRAM_SIZE (length bytes) && same_address s.paths.current.remote remote)) ≡ may
  may_is s remote bytes len may is is_len = sym (is ∙ ap (λ (n : ℕ). is_handshake s.life.state && (nat_le DATAGRAM_SIZE n && same_address s.paths.current.remote remote)) is_len)

  -- it comes too late, is too short, or comes from another address
  pub may_not : (s : View t) (remote : SocketAddr) (bytes : List ℕ) (len : ℕ) (may : Bool) → may ≡ (is_handshake s.life.state && (nat_le DATAGRAM_SIZE len && same_address s.paths.current.remote remote)) → len ≡ length bytes → may ≡ false →
      first_token m s remote bytes ≡ None
  unfolding first_token
  may_not s remote bytes len may is is_len fails = ap (λ (b : Bool). if b then token_in_items m s (cut_of s bytes) else None) (may_is s remote bytes len may is is_len ∙ fails)

  items_none : (c : Cutting) (s : View t) (bytes : List ℕ) (v : Result (Piece × List ℕ) PacketDecodeError) → front_of c bytes ≡ v → IsErr v → token_in_items m s (pieces_of c.local_cid_len (c.version ∷ []) c.grease_quic_bit bytes) ≡ None
  items_none c s [] (Err fault) e none = ap (token_in_items m s) (pieces_none c.local_cid_len (c.version ∷ []) c.grease_quic_bit [] refl)
  items_none c s (b ∷ bytes) (Err fault) e none = ap (token_in_items m s) (pieces_fault c.local_cid_len (c.version ∷ []) c.grease_quic_bit (b ∷ bytes) fault (omega arith) e)
  items_none c s bytes (Ok x) e none = cc none

  -- it begins with no packet
  pub no_packet : (c : Cutting) (s : View t) (remote : SocketAddr) (bytes : List ℕ) → Cuts s c → IsErr (front_of c bytes) → first_token m s remote bytes ≡ None
  unfolding first_token
  no_packet c s remote bytes h none = if_none _ _ (ap (token_in_items m s) (sym (same_cut c s bytes h)) ∙ items_none c s bytes (front_of c bytes) refl none)

  -- the packets of a datagram, the first of which was cut from it
  cut_first : (c : Cutting) (s : View t) (bytes : List ℕ) (p : Piece) (rest : Option (BytesMut Global)) → Cuts s c → front_of c bytes ≡ Ok (p, rest_of rest) → cut_of s bytes ≡ Ok p ∷ others_of c rest
  cut_first c s bytes p rest h e = sym (same_cut c s bytes h) ∙ front_first c bytes p (rest_of rest) e

  -- its first packet may not be a server's first one
  pub no_first : (c : Cutting) (s : View t) (remote : SocketAddr) (bytes : List ℕ) (p : Piece) (rest : Option (BytesMut Global)) → Cuts s c → front_of c bytes ≡ Ok (p, rest_of rest) → token_in_first m s p ≡ None → first_token m s remote bytes ≡ None
  unfolding first_token
  no_first c s remote bytes p rest h e none = if_none _ _ (ap (token_in_items m s) (cut_first c s bytes p rest h e) ∙ none)

  -- it may be one
  token_is : (c : Cutting) (s : View t) (remote : SocketAddr) (bytes : List ℕ) (p : Piece) (rest : Option (BytesMut Global)) (source token : List ℕ) (spin : Bool) (number : ℕ) (payload : List ℕ) → Cuts s c → front_of c bytes ≡ Ok (p, rest_of rest) →
      (is_handshake s.life.state && (nat_le DATAGRAM_SIZE (length bytes) && same_address s.paths.current.remote remote)) ≡ true → has_first_ids s p.header ≡ true → opening_of m s p ≡ Opened source token spin None number payload → first_token m s remote bytes ≡ Some token
  unfolding first_token token_in_first
  token_is c s remote bytes p rest source token spin number payload h e may ids opens =
      ap (λ (b : Bool). if b then token_in_items m s (cut_of s bytes) else None) may
      ∙ ap (token_in_items m s) (cut_first c s bytes p rest h e)
      ∙ ap (λ (b : Bool). if b then opened_token (opening_of m s p) else None) ids
      ∙ ap opened_token opens

  pub first_taken : (c : Cutting) (s : View t) (remote : SocketAddr) (bytes : List ℕ) (len : ℕ) (may : Bool) (p : Piece) (rest : Option (BytesMut Global)) (source token : List ℕ) (spin : Bool) (number : ℕ) (payload : List ℕ) →
      is_first_awaited s.setup ≡ true → Cuts s c → front_of c bytes ≡ Ok (p, rest_of rest) →
      may ≡ (is_handshake s.life.state && (nat_le DATAGRAM_SIZE len && same_address s.paths.current.remote remote)) → len ≡ length bytes → may ≡ true → has_first_ids s p.header ≡ true → opening_of m s p ≡ Opened source token spin None number payload →
      true ≡ is_taken m s remote bytes
  unfolding is_taken
  first_taken c s remote bytes len may p rest source token spin number payload awaits h e is is_len holds ids opens =
      rw (awaits, token_is c s remote bytes p rest source token spin number payload h e (may_is s remote bytes len may is is_len ∙ holds) ids opens) refl

  -- its first packet does what a packet does that opened
  first_piece : (coming : Coming) (p : Piece) (source token : List ℕ) (spin : Bool) (number : ℕ) (payload : List ℕ) (a : At t) → is_handshake a.state.life.state ≡ true → has_first_ids a.state p.header ≡ true → opening_of m a.state p ≡ Opened source token spin None number payload →
      piece_after m coming p a ≡ received_after m coming space.Initial spin source token number payload a
  unfolding piece_after has_first_ids
  first_piece coming p source token spin number payload a shakes ids opens =
      ap (λ (x : Bool). if x then piece_told (space_of p.header) None verdict.Ignored a else formed_after m coming (space_of p.header) p a) (handshake_not_over a.state.life.state shakes)
      ∙ ap (λ (x : Option SpaceId). formed_after m coming x p a) (initial_space a.state.setup.fixed.first_cid a.state.paths.current.remote_cid p.header ids)
      ∙ ap (λ (o : Opening). opening_after m coming (Some space.Initial) o a) opens

  -- its packets do what they do
  heard_packets : (coming : Coming) (c : Cutting) (bytes : List ℕ) (p : Piece) (rest : Option (BytesMut Global)) (source token : List ℕ) (spin : Bool) (number : ℕ) (payload : List ℕ) (a : At t) → Cuts a.state c → front_of c bytes ≡ Ok (p, rest_of rest) →
      is_handshake a.state.life.state ≡ true → same_address a.state.paths.current.remote coming.remote ≡ true → has_first_ids a.state p.header ≡ true → opening_of m a.state p ≡ Opened source token spin None number payload →
      heard_after m coming bytes a ≡ counted_after coming.time (is_blocked a.state.paths) (length bytes) (pieces_after m coming (others_of c rest) (received_after m coming space.Initial spin source token number payload a))
  unfolding heard_after lets_in
  heard_packets coming c bytes p rest source token spin number payload a h e shakes same ids opens =
      let heard : At t = counted_after coming.time (is_blocked a.state.paths) (length bytes) (pieces_after m coming (cut_of a.state bytes) a) in
      ap (λ (x : Bool). if x && lets_in a.state coming.remote then heard else a) (sym (readable_is c a.state bytes p (rest_of rest) h e))
      ∙ ap (λ (x : Bool). if x then heard else a) (both_hold (is_over a.state.life.state) (same_address a.state.paths.current.remote coming.remote) (handshake_not_over a.state.life.state shakes) same)
      ∙ ap (λ (items : List DatagramItem). counted_after coming.time (is_blocked a.state.paths) (length bytes) (pieces_after m coming items a)) (cut_first c a.state bytes p rest h e)
      ∙ ap (λ (x : At t). counted_after coming.time (is_blocked a.state.paths) (length bytes) (pieces_after m coming (others_of c rest) x)) (first_piece coming p source token spin number payload a shakes ids opens)

  -- that the token is expected changes nothing of that
  heard_first : (coming : Coming) (c : Cutting) (bytes : List ℕ) (p : Piece) (rest : Option (BytesMut Global)) (source token : List ℕ) (spin : Bool) (number : ℕ) (payload : List ℕ) (a : At t) → Cuts a.state c → front_of c bytes ≡ Ok (p, rest_of rest) →
      is_handshake a.state.life.state ≡ true → same_address a.state.paths.current.remote coming.remote ≡ true → has_first_ids a.state p.header ≡ true → opening_of m a.state p ≡ Opened source token spin None number payload →
      heard_after m coming bytes (move_to (Expect token) a) ≡ counted_after coming.time (is_blocked a.state.paths) (length bytes) (pieces_after m coming (others_of c rest) (received_after m coming space.Initial spin source token number payload (move_to (Expect token) a)))
  unfolding has_first_ids opening_of move_to state_move numbers_move keys_move life_move paths_move setup_move token_expected
  heard_first coming c bytes p rest source token spin number payload a h e shakes same ids opens =
      heard_packets coming c bytes p rest source token spin number payload (move_to (Expect token) a) (record { len = h.len; version = h.version; grease = h.grease }) e shakes same ids opens

  expect_moved : (token : List ℕ) (s s1 : View t) (ds : List Did) → s1 ≡ state_move (Expect token) s → at s1 ds ≡ move_to (Expect token) (at s ds)
  unfolding move_to deeds_move
  expect_moved token s s1 ds is = ap (λ (v : View t). at v ds) is

  pub first_heard : (coming : Coming) (c : Cutting) (bytes : List ℕ) (len : ℕ) (may : Bool) (p : Piece) (rest : Option (BytesMut Global)) (source token copy : List ℕ) (spin : Bool) (number : ℕ) (payload : List ℕ) (blocked : Bool) (s s1 : View t) (ds : List Did) (b d : At t) (e' : At t) →
      is_first_awaited s.setup ≡ true → Cuts s c → front_of c bytes ≡ Ok (p, rest_of rest) →
      may ≡ (is_handshake s.life.state && (nat_le DATAGRAM_SIZE len && same_address s.paths.current.remote coming.remote)) → len ≡ length bytes → may ≡ true → has_first_ids s p.header ≡ true → opening_of m s p ≡ Opened source token spin None number payload →
      copy ≡ token → s1 ≡ state_move (Expect copy) s → b ≡ received_after m coming space.Initial spin source token number payload (at s1 ds) → d ≡ pieces_after m coming (others_of c rest) b → blocked ≡ is_blocked s.paths → e' ≡ counted_after coming.time blocked len d →
      e' ≡ datagram_after m coming bytes (at s ds)
  unfolding datagram_after
  first_heard coming c bytes len may p rest source token copy spin number payload blocked s s1 ds b d e' awaits h e is is_len holds ids opens is_copy is_s1 is_b is_d free is_e =
      let whole : (is_handshake s.life.state && (nat_le DATAGRAM_SIZE (length bytes) && same_address s.paths.current.remote coming.remote)) ≡ true = may_is s coming.remote bytes len may is is_len ∙ holds in
      let moved : at s1 ds ≡ move_to (Expect token) (at s ds) = expect_moved copy s s1 ds is_s1 ∙ ap (λ (x : List ℕ). move_to (Expect x) (at s ds)) is_copy in
      counted_by coming.time blocked (is_blocked s.paths) len (length bytes) d _ e' free is_len (is_d ∙ ap (λ (x : At t). pieces_after m coming (others_of c rest) x) (is_b ∙ ap (λ (x : At t). received_after m coming space.Initial spin source token number payload x) moved)) is_e
      ∙ sym (heard_first coming c bytes p rest source token spin number payload (at s ds) h e (first_of (is_handshake s.life.state) (nat_le DATAGRAM_SIZE (length bytes)) (same_address s.paths.current.remote coming.remote) whole) (third_of (is_handshake s.life.state) (nat_le DATAGRAM_SIZE (length bytes)) (same_address s.paths.current.remote coming.remote) whole) ids opens)
      ∙ sym (ap (λ (x : Bool). if x then first_after m coming bytes (first_token m s coming.remote bytes) (at s ds) else heard_after m coming bytes (at s ds)) awaits
      ∙ ap (λ (x : Option (List ℕ)). first_after m coming bytes x (at s ds)) (token_is c s coming.remote bytes p rest source token spin number payload h e whole ids opens))
