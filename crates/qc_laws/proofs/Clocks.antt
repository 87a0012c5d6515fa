-- Behind each call that takes a time, the greatest time is the greater of that one and of the one before: it never falls.
use Rattle.std.proofs.Common.{◌≡◌, ℕ, List, ◌∷◌, refl, ap, ◌∙◌, Bool, true, false, if◌then◌else◌, Option, None, Ok}
use Rattle.std.specs.Prelude.{max}
use Rattle.qc_base.specs.declared.ids.IssuedCid.{IssuedCid}
use Rattle.qc_base.specs.declared.side.SpaceId.TheVariants.{Initial}
use Rattle.qc_cids.specs.Cids.{give_refusal}
use Rattle.qc_header.specs.HeaderGrammar.{DatagramItem}
use Rattle.qc_header.specs.Piece.{Piece}
use Rattle.qc_state.specs.declared.coming.Coming.{Coming}
use Rattle.qc_state.specs.declared.life.Close.{Close}
use Rattle.qc_state.specs.declared.transmit.Transmit.{Transmit}
use Rattle.qc_state.specs.declared.life.State.{State}
use Rattle.qc_state.specs.declared.life.State.TheVariants as state
use Rattle.qc_state.specs.Life.{is_handshake, is_open, is_over}
use Rattle.qc_state.specs.Moves.{Move, Expect, Issue, Shut, MayMove, life_move, lower_move, move_to, state_move, timers_move}
use Rattle.qc_state.specs.Paths.{is_blocked}
use Rattle.qc_state.specs.Receiving.{counted_after, cut_of, datagram_after, event_after, first_packet_after, lets_in, opened_first, piece_after, pieces_after}
use Rattle.qc_state.specs.Run.{began, close_after}
use Rattle.qc_state.specs.Sending.{Transmits}
use Rattle.qc_state.specs.Timeouts.{timeout_after}
use Rattle.qc_state.specs.Timers.{clock_set}
use Rattle.qc_state.specs.Types.{Types, Meaning}
use Rattle.qc_state.specs.View.{View, At}
use Rattle.qc_state.proofs.Expired.{holds_timeout}
use Rattle.qc_laws.proofs.Receives.{holds_counted, holds_datagram, holds_pieces, holds_received}
use Rattle.qc_state.proofs.Telling.{clock_kept, open_rank}
use Rattle.qc_laws.proofs.Told.{told_transmit}

-- while the handshake goes on the connection isn't over
lively_by : (s : State) → is_handshake s ≡ true → is_over s ≡ false
lively_by state.Handshake h = refl
lively_by state.Established h = refl
lively_by state.Closed h = refl
lively_by state.Draining h = cc
lively_by state.Drained h = cc

module _ {t : Types} where
  -- the greatest time stands
  abbrev Stands : At t → At t → Type 0
  Stands a b = b.state.timers.greatest ≡ a.state.timers.greatest

  stands_here : (a : At t) → Stands a a
  stands_here a = refl

  stands_next : (a b c : At t) → Stands a b → Stands b c → Stands a c
  stands_next a b c g h = h ∙ g

  stands_move : (x : Move t) (a : At t) → MayMove x a.state → Stands a (move_to x a)
  unfolding move_to
  stands_move x a h = clock_kept x a.state h

  -- so it does behind the packets of a datagram
  stands_pieces : (m : Meaning t) (coming : Coming) (items : List DatagramItem) (a : At t) → Stands a (pieces_after m coming items a)
  stands_pieces m coming items a = holds_pieces Stands stands_here stands_next (λ x received b may. stands_move x b may) m coming items a

  stands_counted : (time : ℕ) (blocked : Bool) (n : ℕ) (a : At t) → Stands a (counted_after time blocked n a)
  stands_counted time blocked n a = holds_counted Stands stands_here stands_next (λ x received b may. stands_move x b may) time blocked n a

  -- and behind one that was cut already, which counts or doesn't
  event_by : (m : Meaning t) (coming : Coming) (p : Piece) (items : List DatagramItem) (n : ℕ) (a : At t) (b : Bool) →
      Stands a (if b then counted_after coming.time (is_blocked a.state.paths) n (pieces_after m coming items (piece_after m coming p a)) else a)
  event_by m coming p items n a true =
      let c : At t = pieces_after m coming (Ok p ∷ items) a in
      stands_counted coming.time (is_blocked a.state.paths) n c ∙ stands_pieces m coming (Ok p ∷ items) a
  event_by m coming p items n a false = refl

  stands_first : (m : Meaning t) (coming : Coming) (source token : List ℕ) (number : ℕ) (payload : List ℕ) (a : At t) → is_over a.state.life.state ≡ false → Stands a (opened_first m coming source token number payload a)
  unfolding opened_first MayMove move_to state_move life_move
  stands_first m coming source token number payload a lively =
      let b : At t = move_to (Expect token) a in
      holds_received Stands stands_here stands_next (λ x received c may. stands_move x c may) m coming Initial false source token number payload b lively ∙ stands_move (Expect token) a tt

  closed_by : (time : ℕ) (close : Close) (a : At t) (b : Bool) → is_open a.state.life.state ≡ b → Stands a (if b then move_to (Shut time close) a else a)
  unfolding MayMove
  closed_by time close a true h = stands_move (Shut time close) a (open_rank a.state.life.state h)
  closed_by time close a false h = refl

  -- a call that begins is told its time
  began_clock : (s : View t) (time : ℕ) → (began s time).state.timers.greatest ≡ max s.timers.greatest time
  unfolding began state_move timers_move clock_set
  began_clock s time = refl

  -- behind it stands the greatest time, whatever the call does: a datagram that comes
  pub datagram_clock : (m : Meaning t) (coming : Coming) (bytes : List ℕ) (s s' : View t) → s' ≡ (datagram_after m coming bytes (began s coming.time)).state →
      s'.timers.greatest ≡ max s.timers.greatest coming.time
  datagram_clock m coming bytes s s' is =
      ap (λ (v : View t). v.timers.greatest) is
      ∙ holds_datagram Stands stands_here stands_next (λ x received b may. stands_move x b may) m coming bytes (began s coming.time) ∙ began_clock s coming.time

  -- one that was cut already
  pub event_clock : (m : Meaning t) (coming : Coming) (p : Piece) (behind : List ℕ) (s s' : View t) → s' ≡ (event_after m coming p behind (began s coming.time)).state →
      s'.timers.greatest ≡ max s.timers.greatest coming.time
  unfolding event_after
  event_clock m coming p behind s s' is =
      ap (λ (v : View t). v.timers.greatest) is
      ∙ event_by m coming p (cut_of (began s coming.time).state behind) _ (began s coming.time) (lets_in (began s coming.time).state coming.remote) ∙ began_clock s coming.time

  -- ids that are given
  pub issue_clock : (time : ℕ) (given : List IssuedCid) (s s' : View t) → give_refusal given s.lower.ids ≡ None → s' ≡ (move_to (Issue time given) (began s time)).state →
      s'.timers.greatest ≡ max s.timers.greatest time
  unfolding began MayMove state_move lower_move
  issue_clock time given s s' may is = ap (λ (v : View t). v.timers.greatest) is ∙ stands_move (Issue time given) (began s time) may ∙ began_clock s time

  -- a server's first packet
  pub first_packet_clock : (m : Meaning t) (coming : Coming) (source token : List ℕ) (number : ℕ) (payload behind : List ℕ) (size : ℕ) (s s' : View t) →
      is_handshake s.life.state ≡ true → s' ≡ (first_packet_after m coming source token number payload behind size (began s coming.time)).state → s'.timers.greatest ≡ max s.timers.greatest coming.time
  unfolding first_packet_after began state_move life_move
  first_packet_clock m coming source token number payload behind size s s' shakes is =
      let a : At t = began s coming.time in
      let b : At t = opened_first m coming source token number payload a in
      let c : At t = pieces_after m coming (cut_of a.state behind) b in
      ap (λ (v : View t). v.timers.greatest) is
      ∙ stands_counted coming.time (is_blocked a.state.paths) size c ∙ stands_pieces m coming (cut_of a.state behind) b ∙ stands_first m coming source token number payload a (lively_by s.life.state shakes) ∙ began_clock s coming.time

  -- a timeout
  pub timeout_clock : (m : Meaning t) (time : ℕ) (s s' : View t) → s' ≡ (timeout_after m time (began s time)).state → s'.timers.greatest ≡ max s.timers.greatest time
  timeout_clock m time s s' is =
      ap (λ (v : View t). v.timers.greatest) is ∙ holds_timeout Stands stands_here stands_next (λ x timed b may. stands_move x b may) m time (began s time) ∙ began_clock s time

  -- a transmit
  pub transmit_clock : (m : Meaning t) (time asked : ℕ) (s : View t) (b : At t) (sent : Option Transmit) (buffer : List ℕ) → Transmits m time asked (began s time) b sent buffer → b.state.timers.greatest ≡ max s.timers.greatest time
  transmit_clock m time asked s b sent buffer h =
      ap (λ (x : At t). x.state.timers.greatest) h.leads ∙ (told_transmit Initial m time asked h.choice (began s time) h.may).clock ∙ began_clock s time

  -- a close
  pub close_clock : (time code : ℕ) (reason : List ℕ) (s s' : View t) → s' ≡ (close_after time code reason (began s time)).state → s'.timers.greatest ≡ max s.timers.greatest time
  unfolding close_after
  close_clock time code reason s s' is = ap (λ (v : View t). v.timers.greatest) is ∙ closed_by time _ (began s time) _ refl ∙ began_clock s time
