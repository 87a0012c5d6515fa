-- Datagrams that were cut, and first packets that were opened.
use Rattle.std.proofs.Common.{◌≡◌, ℕ, ◌+◌, List, ◌∷◌, length, refl, ap, sym, ◌∙◌, Bool, true, false, Option, Ok, arith}
use Rattle.std.specs.Prelude.{◌&&◌, if◌then◌else◌, min, not}
use Rattle.std.specs.Global.{Global}
use Rattle.bytes.specs.declared.unique.BytesMut.{BytesMut}
use Rattle.qc_base.specs.declared.side.SpaceId.TheVariants as space
use Rattle.qc_base.specs.Time.{plus}
use Rattle.qc_receive.specs.Cutting.{Cuts, rest_of, others_of}
use Rattle.qc_receive.specs.FirstPacket.{reason_between, first_reason}
use Rattle.qc_receive.specs.declared.receiving.Cutting.{Cutting}
use Rattle.qc_receive.proofs.Behind.{counted_by, same_cut}
use Rattle.qc_header.specs.HeaderGrammar.{DatagramItem}
use Rattle.qc_header.specs.Piece.{Piece}
use Rattle.qc_state.specs.declared.coming.Coming.{Coming}
use Rattle.qc_state.specs.declared.deeds.Did.{Did}
use Rattle.qc_state.specs.declared.life.ConnectionError.{ConnectionError}
use Rattle.qc_state.specs.Moves.{Expect, Hear, move_to, state_move, deeds_move, numbers_move, keys_move, life_move, paths_move, timers_move, waiting_move, setup_move, lower_move, armed_after}
use Rattle.qc_state.specs.Paths.{is_blocked, path_received}
use Rattle.qc_state.specs.Receiving.{lets_in, piece_after, pieces_after, received_after, counted_after, event_after, opened_first, first_packet_after}
use Rattle.qc_state.specs.Types.{Types, Meaning}
use Rattle.qc_state.specs.View.{View, At, at}

-- counts that stop at the greatest one
min_more : (r k : ℕ) → min (r + min k 18446744073709551615) 18446744073709551615 ≡ min (r + k) 18446744073709551615
min_more r k = omega arith

-- a sum that stops at the greatest number, part by part
pub sum_most : (head body behind : ℕ) → plus (plus (head + body) 16) behind ≡ min (head + body + 16 + behind) 18446744073709551615
sum_most head body behind = omega arith

module _ {t : Types} where
  -- the bytes of a datagram are heard, also where their sum was cut off at the greatest number
  hear_most : (n k : ℕ) (a : At t) → n ≡ min k 18446744073709551615 → move_to (Hear n) a ≡ move_to (Hear k) a
  unfolding move_to deeds_move state_move numbers_move keys_move life_move paths_move timers_move waiting_move setup_move lower_move path_received
  hear_most n k a same =
      let s : View t = a.state in
      let received : plus s.paths.current.received n ≡ plus s.paths.current.received k = ap (λ (x : ℕ). plus s.paths.current.received x) same ∙ min_more s.paths.current.received k in
      ap (λ (x : ℕ). at (record s { paths = record s.paths { current = record s.paths.current { received = x } } }) a.did) received

  -- and so they are counted
  pub counted_most : (time : ℕ) (blocked : Bool) (n k : ℕ) (a : At t) → n ≡ min k 18446744073709551615 → counted_after time blocked n a ≡ counted_after time blocked k a
  unfolding counted_after
  counted_most time blocked n k a same = ap (λ (b : At t). if blocked && not (is_blocked b.state.paths) then armed_after time b else b) (hear_most n k a same)

module _ {t : Types} (m : Meaning t) (coming : Coming) where
  -- a datagram that counts
  pub event_is : (c : Cutting) (p : Piece) (behind : Option (BytesMut Global)) (len : ℕ) (blocked : Bool) (a b d : At t) → Cuts a.state c → true ≡ lets_in a.state coming.remote → len ≡ length p.bytes + length (rest_of behind) → blocked ≡ is_blocked a.state.paths →
      b ≡ pieces_after m coming (Ok p ∷ others_of c behind) a → d ≡ counted_after coming.time blocked len b → d ≡ event_after m coming p (rest_of behind) a
  unfolding event_after
  event_is c p behind len blocked a b d h lets is_len as_stands is_b is_d =
      let inside : lets_in a.state coming.remote ≡ true = sym lets in
      rw inside (counted_by coming.time blocked (is_blocked a.state.paths) len (length p.bytes + length (rest_of behind)) b _ d as_stands is_len (is_b ∙ ap (λ (items : List DatagramItem). pieces_after m coming items (piece_after m coming p a)) (same_cut c a.state (rest_of behind) h)) is_d)

  -- a datagram that doesn't count
  pub no_event : (p : Piece) (behind : List ℕ) (a : At t) → false ≡ lets_in a.state coming.remote → a ≡ event_after m coming p behind a
  unfolding event_after
  no_event p behind a lets = let outside : lets_in a.state coming.remote ≡ false = sym lets in rw outside refl

  -- a server's first packet
  pub first_opened_is : (source token copy : List ℕ) (number : ℕ) (payload : List ℕ) (s s1 : View t) (ds : List Did) (b : At t) → copy ≡ token → s1 ≡ state_move (Expect copy) s →
      b ≡ received_after m coming space.Initial false source token number payload (at s1 ds) → b ≡ opened_first m coming source token number payload (at s ds)
  unfolding opened_first move_to deeds_move
  first_opened_is source token copy number payload s s1 ds b is_copy is_s1 is_b =
      is_b ∙ ap (λ (x : View t). received_after m coming space.Initial false source token number payload (at x ds)) (is_s1 ∙ ap (λ (x : List ℕ). state_move (Expect x) s) is_copy)

  -- the reason that it gave
  pub reason_is : (source token : List ℕ) (number : ℕ) (payload : List ℕ) (s : View t) (ds : List Did) (mid : View t) (es : List Did) (why : Option ConnectionError) → why ≡ reason_between s mid → at mid es ≡ opened_first m coming source token number payload (at s ds) →
      why ≡ first_reason m coming source token number payload (at s ds)
  reason_is source token number payload s ds mid es why is_why is_mid = is_why ∙ ap (λ (x : At t). reason_between s x.state) is_mid

  -- what is behind it
  pub first_packet_is : (c : Cutting) (source token : List ℕ) (number : ℕ) (payload body : List ℕ) (behind : Option (BytesMut Global)) (len size : ℕ) (blocked : Bool) (a b d e : At t) → Cuts a.state c → body ≡ payload → len ≡ min size 18446744073709551615 → blocked ≡ is_blocked a.state.paths → b ≡ opened_first m coming source token number body a →
      d ≡ pieces_after m coming (others_of c behind) b → e ≡ counted_after coming.time blocked len d → e ≡ first_packet_after m coming source token number payload (rest_of behind) size a
  unfolding first_packet_after
  first_packet_is c source token number payload body behind len size blocked a b d e h same is_len as_stands is_b is_d is_e =
      let opened : b ≡ opened_first m coming source token number payload a = is_b ∙ ap (λ (x : List ℕ). opened_first m coming source token number x a) same in
      counted_by coming.time blocked (is_blocked a.state.paths) size size d _ e as_stands refl (is_d ∙ ap (λ (x : At t). pieces_after m coming (others_of c behind) x) opened ∙ ap (λ (items : List DatagramItem). pieces_after m coming items (opened_first m coming source token number payload a)) (same_cut c a.state (rest_of behind) h))
      (is_e ∙ counted_most coming.time blocked len size d is_len)
