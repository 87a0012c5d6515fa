-- How much room a packet of a space has once it is begun, by what is known before.
use Rattle.std.proofs.Common.{◌≡◌, ℕ, ◌+◌, ◌-◌, ◌<◌, ◌^◌, [], length, length-append, refl, sym, ap, ◌∙◌, subst, Bool, true, false, ◌||◌, if◌then◌else◌, nat_le, nat_lt, arith}
use Rattle.std.specs.Prelude.{min}
use Rattle.std.proofs.lemmas.Bool.Decides.{nat_tests}
use Rattle.qc_base.specs.declared.side.SpaceId.{SpaceId}
use Rattle.qc_base.specs.declared.side.SpaceId.TheVariants.{Initial, Handshake, «Data»}
use Rattle.qc_base.specs.PacketNumber.{number_len, number_of}
use Rattle.qc_core.proofs.NumberLengths.{one_byte}
use Rattle.qc_header.specs.HeaderSpelling.{header_spelling, short_spelling}
use Rattle.qc_header.proofs.WrittenHeaders.{length-number_bytes}
use Rattle.qc_header.specs.declared.header.Header.{Header}
use Rattle.qc_state.specs.declared.form.Form.TheVariants as form
use Rattle.qc_state.specs.Keys.{form_in}
use Rattle.qc_state.specs.Moves.{Begin, Skip, deeds_move, move_to, numbers_move, paths_move, setup_move, state_move}
use Rattle.qc_state.specs.Numbers.{acked_number, coming_number, is_skipped, next_number, number_skipped, used_in}
use Rattle.qc_state.specs.Offers.{short_room}
use Rattle.qc_state.specs.Sending.{begun_after, begun_view, header_in, is_past_limit, is_used_up, room_of, skipped_after}
use Rattle.qc_state.specs.Setup.{packet_drawn}
use Rattle.qc_state.specs.Types.{Types}
use Rattle.qc_state.specs.View.{View, At, at}

-- where a number is skipped, one more is acknowledged at most: this doesn't change how many bytes the next one has
skip_len : (largest n : ℕ) → number_len (number_of (n + 1) (min largest (n + 1))) ≡ number_len (number_of (n + 1) (min largest n))
skip_len largest n = by_test (nat_le largest n) refl
  where
    by_test : (b : Bool) → nat_le largest n ≡ b → number_len (number_of (n + 1) (min largest (n + 1))) ≡ number_len (number_of (n + 1) (min largest n))
    by_test true e =
        let few : largest < n + 1 = grind (arith, nat_tests) in
        ap (λ (x : ℕ). number_len (number_of (n + 1) x)) (omega (arith, few))
    by_test false e =
        let more : n < largest = grind (arith, nat_tests) in
        let first : nat_lt ((n + 1) - min largest (n + 1)) 0x80 ≡ true = grind (arith, nat_tests) in
        let second : nat_lt ((n + 1) - min largest n) 0x80 ≡ true = grind (arith, nat_tests) in
        sym (one_byte (n + 1) (min largest (n + 1)) ((n + 1) - min largest (n + 1)) refl first) ∙ one_byte (n + 1) (min largest n) ((n + 1) - min largest n) refl second

module _ {t : Types} where
  -- an Initial or a Handshake packet has the header that it would have before it is begun
  begun_initial : (opens : Bool) (s : View t) → header_in (begun_view s Initial opens) form.Initial ≡ header_in s form.Initial
  unfolding begun_view begun_after skipped_after is_skipped move_to state_move numbers_move paths_move setup_move packet_drawn
  begun_initial opens s = refl

  begun_handshake : (opens : Bool) (s : View t) → header_in (begun_view s Handshake opens) form.Handshake ≡ header_in s form.Handshake
  unfolding begun_view begun_after skipped_after is_skipped move_to state_move numbers_move paths_move setup_move packet_drawn
  begun_handshake opens s = refl

  -- a 1-RTT packet's header, by the number that comes
  short_len : (s : View t) → length (header_spelling (header_in s form.OneRtt) 0) ≡ 1 + length s.paths.current.remote_cid + number_len (number_of (next_number s.numbers «Data») (acked_number s.numbers «Data»))
  unfolding header_spelling short_spelling
  short_len s = simp length-append (omega (arith, length-number_bytes (number_of (next_number s.numbers «Data») (acked_number s.numbers «Data»))))

  begin_short : (opens : Bool) (s : View t) → length (header_spelling (header_in (state_move (Begin «Data» opens) s) form.OneRtt) 0)
      ≡ 1 + length s.paths.current.remote_cid + number_len (number_of (next_number s.numbers «Data») (acked_number s.numbers «Data»))
  unfolding state_move numbers_move paths_move
  begin_short opens s = short_len (state_move (Begin «Data» opens) s)

  skip_short : (opens : Bool) (a : At t) (b : Bool) → is_skipped a.state.numbers «Data» ≡ b →
      length (header_spelling (header_in (state_move (Begin «Data» opens) (if b then move_to Skip a else a).state) form.OneRtt) 0)
      ≡ 1 + length a.state.paths.current.remote_cid + number_len (number_of (if b then next_number a.state.numbers «Data» + 1 else next_number a.state.numbers «Data») (acked_number a.state.numbers «Data»))
  unfolding move_to state_move numbers_move paths_move number_skipped used_in next_number acked_number
  skip_short opens a true e =
      begin_short opens (move_to Skip a).state
      ∙ ap (λ (n : ℕ). 1 + length a.state.paths.current.remote_cid + n) (skip_len a.state.numbers.spaces.application.largest_acked a.state.numbers.spaces.application.next)
  skip_short opens a false e = begin_short opens a.state

  begun_short : (opens : Bool) (s : View t) → length (header_spelling (header_in (begun_view s «Data» opens) form.OneRtt) 0)
      ≡ 1 + length s.paths.current.remote_cid + number_len (number_of (coming_number s.numbers «Data») (acked_number s.numbers «Data»))
  unfolding begun_view begun_after skipped_after coming_number move_to deeds_move
  begun_short opens s = skip_short opens (at s []) (is_skipped s.numbers «Data») refl

  -- how much room a packet has
  pub room_initial : (left n : ℕ) (s : View t) (id : SpaceId) → id ≡ Initial → n ≡ room_of left s form.Initial → n ≡ room_of left (begun_view s id false) (form_in s.keys id)
  unfolding room_of form_in
  room_initial left n s id is_id is =
      subst (λ (x : SpaceId). n ≡ room_of left (begun_view s x false) (form_in s.keys x)) (sym is_id)
      (is ∙ ap (λ (h : Header). left - 16 - length (header_spelling h 0)) (sym (begun_initial false s)))

  pub room_handshake : (left n : ℕ) (s : View t) (id : SpaceId) → id ≡ Handshake → n ≡ room_of left s form.Handshake → n ≡ room_of left (begun_view s id false) (form_in s.keys id)
  unfolding room_of form_in
  room_handshake left n s id is_id is =
      subst (λ (x : SpaceId). n ≡ room_of left (begun_view s x false) (form_in s.keys x)) (sym is_id)
      (is ∙ ap (λ (h : Header). left - 16 - length (header_spelling h 0)) (sym (begun_handshake false s)))

  pub room_short : (left n : ℕ) (s : View t) (id : SpaceId) → id ≡ «Data» → n ≡ short_room left s → n ≡ room_of left (begun_view s id false) (form_in s.keys id)
  unfolding room_of short_room form_in
  room_short left n s id is_id is =
      subst (λ (x : SpaceId). n ≡ room_of left (begun_view s x false) (form_in s.keys x)) (sym is_id)
      (is ∙ ap (λ (x : ℕ). left - 16 - x) (sym (begun_short false s)))
