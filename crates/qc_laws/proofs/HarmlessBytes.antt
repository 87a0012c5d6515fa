-- Datagrams none of whose packets opened change only counts.
use Rattle.std.proofs.Common.{◌≡◌, ℕ, ◌+◌, ◌≤◌, List, [], ◌∷◌, ◌++◌, length, refl, ap, sym, ◌∙◌, subst, Bool, true, false, Option, Some, None, if◌then◌else◌, append_assoc, append-nil, arith}
use Rattle.qc_header.specs.declared.protected.ProtectedHeader.TheVariants as protected
use Rattle.qc_header.specs.declared.protected.ProtectedHeader.{ProtectedHeader}
use Rattle.qc_base.specs.declared.side.Side.TheVariants.{Client}
use Rattle.std.proofs.lemmas.List.Elements.{All-head, All-tail}
use Rattle.std.proofs.lemmas.List.Folds.{list_all-append}
use Rattle.std.specs.Prelude.{◌&&◌, not, nat_le, Ok, Err, drop}
use Rattle.std.specs.List.{All, list_all, list_any}
use Rattle.std.specs.declared.net.SocketAddr.{SocketAddr}
use Rattle.qc_base.specs.declared.side.Side.TheVariants.{Server}
use Rattle.qc_base.specs.declared.side.SpaceId.{SpaceId}
use Rattle.qc_base.specs.declared.side.SpaceId.TheVariants as space
use Rattle.qc_base.specs.declared.transport_error.TransportError.{TransportError}
use Rattle.qc_frame.specs.Payload.{items_of}
use Rattle.qc_header.specs.HeaderGrammar.{DatagramItem}
use Rattle.qc_header.specs.Piece.{Piece, space_of}
use Rattle.qc_header.specs.Pieces.{pieces_of}
use Rattle.qc_rings.specs.declared.which.Which.{Which}
use Rattle.qc_state.specs.declared.coming.Coming.{Coming}
use Rattle.qc_state.specs.declared.deeds.Did.{Did}
use Rattle.qc_state.specs.declared.deeds.Did.TheVariants as did
use Rattle.qc_state.specs.declared.deeds.Verdict.{Verdict}
use Rattle.qc_state.specs.declared.deeds.Verdict.TheVariants as verdict
use Rattle.qc_state.specs.declared.input.Input.{Input}
use Rattle.qc_state.specs.declared.input.Input.TheVariants as input
use Rattle.qc_state.specs.declared.keys.KeyGroup.{KeyGroup}
use Rattle.qc_state.specs.declared.life.ConnectionError.{ConnectionError}
use Rattle.qc_state.specs.declared.life.ConnectionError.TheVariants as lost
use Rattle.qc_state.specs.declared.life.State.TheVariants as state
use Rattle.qc_state.specs.declared.opening.Opening.{Opening}
use Rattle.qc_state.specs.declared.opening.Opening.TheVariants.{Unreadable, Unopened, Reserved, Untimely, Opened}
use Rattle.qc_state.specs.declared.paths.Paths.{Paths}
use Rattle.qc_state.specs.declared.timers.Timers.{Timers}
use Rattle.qc_state.specs.declared.trace.Step.{Step}
use Rattle.qc_state.specs.declared.transmit.TheConstants.{DATAGRAM_SIZE}
use Rattle.qc_state.specs.Headline.{deeds_of, is_harmless, is_datagram, OnlyCounts, Harmless}
use Rattle.qc_state.specs.Keys.{fails_too_often, failure_counted, new_keys}
use Rattle.qc_state.specs.Life.{is_handshake, is_over, is_open}
use Rattle.qc_state.specs.Moves.{Move, Accept, Clock, PeerClosesToo, Enter, Expect, Fail, Hear, Owe, Raise, Tell, Unseal, deeds_move, keys_move, life_move, lower_move, move_to, numbers_move, paths_move, setup_move, state_move, timers_move, waiting_move, armed_after, armed_with, Renew, PeerCloses}
use Rattle.qc_state.specs.Opening.{opening_of}
use Rattle.qc_state.specs.Paths.{is_blocked, path_received, same_address}
use Rattle.qc_state.specs.Receiving.{accepted_after, admitted_after, counted_after, cut_of, datagram_after, failed_after, first_after, first_token, fixed_after, has_first_ids, heard_after, is_close_item, is_eliciting_item, is_readable, lets_in, opened_token, opening_after, piece_after, piece_told, pieces_after, read_for_close, received_after, signs_of, token_in_first, token_in_items, verdict_after, formed_after, left_after, renewed_after, retried_after, unnumbered_after}
use Rattle.qc_state.specs.Run.{IsStep, Run, began, called, input_after, reported, step_after}
use Rattle.qc_state.specs.Setup.{is_first_awaited, token_expected}
use Rattle.qc_state.specs.Stopping.{key_limit_error, killed_after, stopped_after, update_error, violation_at, given_after}
use Rattle.qc_state.specs.Timers.{clock_set, timers_armed}
use Rattle.qc_state.specs.Types.{Types, Meaning}
use Rattle.qc_state.specs.Updating.{fresh_by, session_by, unsealed_after}
use Rattle.qc_state.specs.Verdicts.{verdict_of, ids_end, retry_token, unnumbered_verdict}
use Rattle.qc_state.specs.View.{View, At}
use Rattle.qc_state.specs.Recovering.{loss_time}
use Rattle.qc_state.proofs.Ends.{holds_given, holds_initial, holds_stopped, holds_armed_now}
use Rattle.qc_state.proofs.OpenPackets.{holds_fixed, holds_payload}
use Rattle.qc_state.proofs.PacketMoves.{OpenPacket}
use Rattle.qc_laws.proofs.Receives.{holds_counted}
use Rattle.qc_state.proofs.Telling.{told_appends}
use Rattle.qc_state.specs.Sending.{Choice}
use Rattle.qc_state.specs.declared.lower.Lower.{Lower}
use Rattle.qc_state.specs.Lower.{events_told}
use Rattle.qc_laws.proofs.EventsAsked.{told_again}
use Rattle.qc_laws.proofs.HarmlessTests.{all_harmless, back_harmless, both, first_fails, first_holds, front_harmless, initial_space, is_opened, life_reported, not_over, opened_by_row, reported_again, second_fails, stays_free, tests_hold, within_read}

module _ {t : Types} where
  -- only counts changed, and nothing was reported
  pub record Same (s s' : View t) : Type 0 where
    pub numbers : s'.numbers ≡ s.numbers
    pub keys : s'.keys ≡ record s.keys { failures = s'.keys.failures }
    pub life : s'.life ≡ s.life
    pub paths : s'.paths ≡ record s.paths { current = record s.paths.current { received = s'.paths.current.received } }
    pub ranged : s.paths.current.received ≤ 18446744073709551615 → s'.paths.current.received ≤ 18446744073709551615
    pub more : s.paths.current.received ≤ 18446744073709551615 → s.paths.current.received ≤ s'.paths.current.received
    pub timers : s'.timers ≡ record s.timers { greatest = s'.timers.greatest; loss_detection = s'.timers.loss_detection }
    pub still : s.paths.current.received ≤ 18446744073709551615 → is_blocked s.paths ≡ false → s'.timers.loss_detection ≡ s.timers.loss_detection
    pub waiting : s'.waiting ≡ s.waiting
    pub setup : s'.setup ≡ s.setup
    pub lower : s'.lower ≡ s.lower
    pub issuer : s'.issuer ≡ s.issuer

  same_here : (s : View t) → Same s s
  same_here s = record { numbers = refl; keys = refl; life = refl; paths = refl; ranged = λ r. r; more = λ r. omega arith; timers = refl; still = λ r f. refl; waiting = refl; setup = refl; lower = refl; issuer = refl }

  same_next : (r s u : View t) → Same r s → Same s u → Same r u
  same_next r s u g h = record {
    numbers = h.numbers ∙ g.numbers;
    keys = h.keys ∙ ap (λ (k : KeyGroup t.H t.P). record k { failures = u.keys.failures }) g.keys;
    life = h.life ∙ g.life;
    paths = h.paths ∙ ap (λ (p : Paths t.C). record p { current = record p.current { received = u.paths.current.received } }) g.paths;
    ranged = λ k. h.ranged (g.ranged k);
    more = λ k. let first : r.paths.current.received ≤ s.paths.current.received = g.more k in let second : s.paths.current.received ≤ u.paths.current.received = h.more (g.ranged k) in omega (arith, first, second);
    timers = h.timers ∙ ap (λ (x : Timers). record x { greatest = u.timers.greatest; loss_detection = u.timers.loss_detection }) g.timers;
    still = λ k f. h.still (g.ranged k) (stays_free r.paths s.paths g.paths (g.more k) f) ∙ g.still k f;
    waiting = h.waiting ∙ g.waiting;
    setup = h.setup ∙ g.setup;
    lower = h.lower ∙ g.lower;
    issuer = h.issuer ∙ g.issuer;
  }

  -- the same where what waited to be reported was reported
  counts_here : (s : View t) → OnlyCounts s s
  counts_here s = record { numbers = refl; keys = refl; life = refl; paths = refl; ranged = λ r. r; more = λ r. omega arith; timers = refl; still = λ r f. refl; waiting = refl; setup = refl; lower = refl; issuer = refl }

  pub same_counts : (s s' : View t) → Same s s' → OnlyCounts s s'
  unfolding reported state_move numbers_move keys_move life_move paths_move timers_move waiting_move setup_move lower_move
  same_counts s s' h = record { numbers = h.numbers; keys = h.keys; life = ap life_reported h.life; paths = h.paths; ranged = h.ranged; more = h.more; timers = h.timers; still = h.still; waiting = h.waiting; setup = h.setup; lower = ap (λ (l : Lower t.S). events_told l) h.lower; issuer = h.issuer }

  counts_next : (r s u : View t) → OnlyCounts r s → OnlyCounts s u → OnlyCounts r u
  counts_next r s u g h = record {
    numbers = h.numbers ∙ g.numbers;
    keys = h.keys ∙ ap (λ (k : KeyGroup t.H t.P). record k { failures = u.keys.failures }) g.keys;
    life = h.life ∙ g.life;
    paths = h.paths ∙ ap (λ (p : Paths t.C). record p { current = record p.current { received = u.paths.current.received } }) g.paths;
    ranged = λ k. h.ranged (g.ranged k);
    more = λ k. let first : r.paths.current.received ≤ s.paths.current.received = g.more k in let second : s.paths.current.received ≤ u.paths.current.received = h.more (g.ranged k) in omega (arith, first, second);
    timers = h.timers ∙ ap (λ (x : Timers). record x { greatest = u.timers.greatest; loss_detection = u.timers.loss_detection }) g.timers;
    still = λ k f. h.still (g.ranged k) (stays_free r.paths s.paths g.paths (g.more k) f) ∙ g.still k f;
    waiting = h.waiting ∙ g.waiting;
    setup = h.setup ∙ g.setup;
    lower = h.lower ∙ g.lower;
    issuer = h.issuer ∙ g.issuer;
  }

  -- from one moment to another, deeds were added
  record Grown (a b : At t) : Type 0 where
    pub since : List Did
    pub appended : b.did ≡ a.did ++ since

  grown_here : (a : At t) → Grown a a
  grown_here a = record { since = []; appended = sym (append-nil a.did) }

  grown_next : (a b c : At t) → Grown a b → Grown b c → Grown a c
  grown_next a b c g h = record { since = g.since ++ h.since; appended = h.appended ∙ ap (λ (ds : List Did). ds ++ h.since) g.appended ∙ append_assoc a.did g.since h.since }

  grown_move : (x : Move t) (a : At t) → Grown a (move_to x a)
  unfolding move_to
  grown_move x a = record { since = deeds_move x a.state; appended = told_appends a.did (deeds_move x a.state) }

  -- deeds were added of which one isn't harmless
  record Harmed (a b : At t) : Type 0 where
    pub since : List Did
    pub appended : b.did ≡ a.did ++ since
    pub harmful : list_all is_harmless since ≡ false

  -- so it is with deeds before and behind them
  harmed_next : (a b c : At t) → Harmed a b → Grown b c → Harmed a c
  harmed_next a b c g h = record {
    since = g.since ++ h.since;
    appended = h.appended ∙ ap (λ (ds : List Did). ds ++ h.since) g.appended ∙ append_assoc a.did g.since h.since;
    harmful = list_all-append is_harmless g.since h.since ∙ first_fails (list_all is_harmless g.since) (list_all is_harmless h.since) g.harmful;
  }

  next_harmed : (a b c : At t) → Grown a b → Harmed b c → Harmed a c
  next_harmed a b c g h = record {
    since = g.since ++ h.since;
    appended = h.appended ∙ ap (λ (ds : List Did). ds ++ h.since) g.appended ∙ append_assoc a.did g.since h.since;
    harmful = list_all-append is_harmless g.since h.since ∙ second_fails (list_all is_harmless g.since) (list_all is_harmless h.since) h.harmful;
  }

  -- a move whose deed isn't harmless
  harmed_move : (x : Move t) (a : At t) → list_all is_harmless (deeds_move x a.state) ≡ false → Harmed a (move_to x a)
  unfolding move_to
  harmed_move x a harm = record { since = deeds_move x a.state; appended = told_appends a.did (deeds_move x a.state); harmful = harm }

  -- deeds were added, and where all of them are harmless, only counts changed
  pub record Tame (a b : At t) : Type 0 where
    pub since : List Did
    pub appended : b.did ≡ a.did ++ since
    pub same : list_all is_harmless since ≡ true → Same a.state b.state

  tame_here : (a : At t) → Tame a a
  tame_here a = record { since = []; appended = sym (append-nil a.did); same = λ h. same_here a.state }

  tame_next : (a b c : At t) → Tame a b → Tame b c → Tame a c
  tame_next a b c g h = record {
    since = g.since ++ h.since;
    appended = h.appended ∙ ap (λ (ds : List Did). ds ++ h.since) g.appended ∙ append_assoc a.did g.since h.since;
    same = λ k. same_next a.state b.state c.state (g.same (front_harmless g.since h.since k)) (h.same (back_harmless g.since h.since k));
  }

  -- a move that changes only counts
  tame_move : (x : Move t) (a : At t) → Same a.state (state_move x a.state) → Tame a (move_to x a)
  unfolding move_to
  tame_move x a same = record { since = deeds_move x a.state; appended = told_appends a.did (deeds_move x a.state); same = λ h. same }

  harmed_tame : (a b : At t) → Harmed a b → Tame a b
  harmed_tame a b h = record { since = h.since; appended = h.appended; same = λ k. cc (h.harmful, k) }

  -- ---- the moves that change only counts

  same_tell : (d : Did) (s : View t) → Same s (state_move (Tell d) s)
  unfolding state_move numbers_move keys_move life_move paths_move timers_move waiting_move setup_move lower_move
  same_tell d s = same_here s

  same_fail : (s : View t) → Same s (state_move Fail s)
  unfolding state_move numbers_move keys_move life_move paths_move timers_move waiting_move setup_move lower_move failure_counted
  same_fail s = record { numbers = refl; keys = refl; life = refl; paths = refl; ranged = λ r. r; more = λ r. omega arith; timers = refl; still = λ r f. refl; waiting = refl; setup = refl; lower = refl; issuer = refl }

  same_hear : (n : ℕ) (s : View t) → Same s (state_move (Hear n) s)
  unfolding state_move numbers_move keys_move life_move paths_move timers_move waiting_move setup_move lower_move path_received
  same_hear n s = record { numbers = refl; keys = refl; life = refl; paths = refl; ranged = λ r. omega arith; more = λ r. omega arith; timers = refl; still = λ r f. refl; waiting = refl; setup = refl; lower = refl; issuer = refl }

  same_clock : (time : ℕ) (s : View t) → Same s (state_move (Clock time) s)
  unfolding state_move numbers_move keys_move life_move paths_move timers_move waiting_move setup_move lower_move clock_set
  same_clock time s = record { numbers = refl; keys = refl; life = refl; paths = refl; ranged = λ r. r; more = λ r. omega arith; timers = refl; still = λ r f. refl; waiting = refl; setup = refl; lower = refl; issuer = refl }

  -- ---- a packet that opened

  -- a packet is accepted
  harmed_accepted : (coming : Coming) (id : SpaceId) (number : ℕ) (e : Bool) (spin : Bool) (v : Verdict) (a : At t) → is_opened v ≡ true → Harmed a (accepted_after coming id number e spin v a)
  unfolding accepted_after deeds_move
  harmed_accepted coming id number e spin v a h =
      let b : At t = move_to (Accept coming.time id number e (signs_of coming spin) v) a in
      harmed_next a b _ (harmed_move (Accept coming.time id number e (signs_of coming spin) v) a (deed_harms v h)) (holds_initial Grown grown_here grown_next (λ x r c k. grown_move x c) Server (is_blocked b.state.paths) coming.time id b)
    where
      deed_harms : (v : Verdict) → is_opened v ≡ true → list_all is_harmless (did.Piece (Some id) (Some number) v ∷ []) ≡ false
      deed_harms verdict.Ignored k = cc
      deed_harms verdict.Failure k = cc
      deed_harms verdict.BadBits k = cc
      deed_harms verdict.BadUpdate k = cc
      deed_harms verdict.RetryTaken k = cc
      deed_harms verdict.Versions k = cc
      deed_harms verdict.Seen k = refl
      deed_harms verdict.ReadForClose k = refl
      deed_harms verdict.NumberOnly k = refl
      deed_harms verdict.AckOnly k = refl
      deed_harms verdict.Admitted k = refl

  -- a packet is admitted
  harmed_admitted : (m : Meaning t) (coming : Coming) (id : SpaceId) (spin : Bool) (source : List ℕ) (number : ℕ) (payload : List ℕ) (a : At t) → Harmed a (admitted_after m coming id spin source number payload a)
  unfolding admitted_after
  harmed_admitted m coming id spin source number payload a =
      let e : Bool = list_any is_eliciting_item (items_of payload) in
      let b : At t = accepted_after coming id number e spin verdict.Admitted a in
      let c : At t = fixed_after id source b in
      let o : OpenPacket = record { coming = coming; space = id; spin = spin; which = None; source = source; token = []; number = number; payload = payload } in
      harmed_next a b _ (harmed_accepted coming id number e spin verdict.Admitted a refl)
      (grown_next b c _ (holds_fixed m o Grown grown_here grown_next (λ x d r k. grown_move x d) b)
      (holds_payload m o Grown grown_here grown_next (λ x d r k. grown_move x d) c))

  -- a packet is read for a close
  closing_grown : (a : At t) (b : Bool) → Grown a (if b then move_to PeerClosesToo a else move_to Owe a)
  closing_grown a true = grown_move PeerClosesToo a
  closing_grown a false = grown_move Owe a

  harmed_closing : (id : SpaceId) (number : ℕ) (payload : List ℕ) (a : At t) → Harmed a (read_for_close id number payload a)
  unfolding read_for_close deeds_move
  harmed_closing id number payload a =
      let b : At t = move_to (Enter id number verdict.ReadForClose) a in
      harmed_next a b _ (harmed_move (Enter id number verdict.ReadForClose) a refl) (closing_grown b (list_any is_close_item (items_of payload)))

  harmed_verdict : (m : Meaning t) (coming : Coming) (id : SpaceId) (spin : Bool) (source : List ℕ) (number : ℕ) (payload : List ℕ) (v : Verdict) (a : At t) → is_opened v ≡ true → Harmed a (verdict_after m coming id spin source number payload v a)
  unfolding deeds_move
  harmed_verdict m coming id spin source number payload verdict.Ignored a h = cc
  harmed_verdict m coming id spin source number payload verdict.Failure a h = cc
  harmed_verdict m coming id spin source number payload verdict.BadBits a h = cc
  harmed_verdict m coming id spin source number payload verdict.BadUpdate a h = cc
  harmed_verdict m coming id spin source number payload verdict.RetryTaken a h = cc
  harmed_verdict m coming id spin source number payload verdict.Versions a h = cc
  harmed_verdict m coming id spin source number payload verdict.Seen a h = harmed_move (Tell (did.Piece (Some id) (Some number) verdict.Seen)) a refl
  harmed_verdict m coming id spin source number payload verdict.ReadForClose a h = harmed_closing id number payload a
  harmed_verdict m coming id spin source number payload verdict.NumberOnly a h = harmed_move (Enter id number verdict.NumberOnly) a refl
  harmed_verdict m coming id spin source number payload verdict.AckOnly a h = harmed_accepted coming id number false spin verdict.AckOnly a refl
  harmed_verdict m coming id spin source number payload verdict.Admitted a h = harmed_admitted m coming id spin source number payload a

  harmed_received : (m : Meaning t) (coming : Coming) (id : SpaceId) (spin : Bool) (source token : List ℕ) (number : ℕ) (payload : List ℕ) (a : At t) → Harmed a (received_after m coming id spin source token number payload a)
  unfolding received_after verdict_of
  harmed_received m coming id spin source token number payload a =
      harmed_verdict m coming id spin source number payload (verdict_of a.state id source token number) a (opened_by_row _ _ _ _)

  -- so it does behind its step of the ring
  unsealed_grown : (m : Meaning t) (time : ℕ) (which : Option Which) (number : ℕ) (a : At t) → Grown a (unsealed_after m time which number a)
  unsealed_grown m time None number a = grown_here a
  unsealed_grown m time (Some which) number a = grown_move (Unseal time number which (fresh_by m which a.state) (session_by m which a.state.lower.session)) a

  harmed_opened : (m : Meaning t) (coming : Coming) (id : SpaceId) (spin : Bool) (source token : List ℕ) (which : Option Which) (number : ℕ) (payload : List ℕ) (a : At t) →
      Harmed a (received_after m coming id spin source token number payload (unsealed_after m coming.time which number a))
  harmed_opened m coming id spin source token which number payload a =
      let b : At t = unsealed_after m coming.time which number a in
      next_harmed a b _ (unsealed_grown m coming.time which number a) (harmed_received m coming id spin source token number payload b)

  -- ---- the packets of a datagram

  -- a packet whose reserved bits aren't 0, or which shows an update that its sender wasn't allowed to make: this is told, with this verdict
  harmed_refused : (time : ℕ) (d : Did) (error : TransportError) (a : At t) → list_all is_harmless (deeds_move (Tell d) a.state) ≡ false → Harmed a (stopped_after time error (move_to (Tell d) a))
  unfolding deeds_move
  harmed_refused time d error a told =
      let b : At t = move_to (Tell d) a in
      harmed_next a b _ (harmed_move (Tell d) a told) (holds_stopped Grown grown_here grown_next (λ x r c k. grown_move x c) time error b)

  -- a packet that didn't open, and ends the connection
  harmed_killed : (why : ConnectionError) (a : At t) → Harmed a (killed_after why a)
  unfolding killed_after deeds_move
  harmed_killed why a =
      let b : At t = move_to (Raise state.Drained) a in
      harmed_next a b _ (harmed_move (Raise state.Drained) a refl) (holds_given Grown grown_here grown_next (λ x r c k. grown_move x c) why b)

  failed_by : (why : ConnectionError) (a : At t) (b : Bool) → Tame a (if b then killed_after why a else a)
  failed_by why a true = harmed_tame a _ (harmed_killed why a)
  failed_by why a false = tame_here a

  -- a packet that didn't open
  tame_failed : (id : Option SpaceId) (a : At t) → Tame a (failed_after id a)
  unfolding failed_after
  tame_failed id a =
      let b : At t = move_to Fail a in
      let c : At t = piece_told id None verdict.Failure b in
      tame_next a b _ (tame_move Fail a (same_fail a.state))
      (tame_next b c _ (tame_move (Tell (did.Piece id None verdict.Failure)) b (same_tell (did.Piece id None verdict.Failure) b.state)) (failed_by (lost.TransportError key_limit_error) c (fails_too_often c.state.keys)))

  -- a packet by what came of taking its protection off
  tame_opening : (m : Meaning t) (coming : Coming) (id : Option SpaceId) (o : Opening) (a : At t) → Tame a (opening_after m coming id o a)
  unfolding deeds_move
  tame_opening m coming id Unreadable a = tame_move (Tell (did.Piece id None verdict.Ignored)) a (same_tell (did.Piece id None verdict.Ignored) a.state)
  tame_opening m coming id Unopened a = tame_failed id a
  tame_opening m coming id (Reserved number) a = harmed_tame a _ (harmed_refused coming.time (did.Piece id (Some number) verdict.BadBits) (violation_at None) a refl)
  tame_opening m coming id (Untimely number) a = harmed_tame a _ (harmed_refused coming.time (did.Piece id (Some number) verdict.BadUpdate) update_error a refl)
  tame_opening m coming (Some id) (Opened source token spin which number payload) a = harmed_tame a _ (harmed_opened m coming id spin source token which number payload a)
  tame_opening m coming None (Opened source token spin which number payload) a = tame_move (Tell (did.Piece None None verdict.Ignored)) a (same_tell (did.Piece None None verdict.Ignored) a.state)

  -- a Retry that is taken
  harmed_retry : (m : Meaning t) (time : ℕ) (cid token : List ℕ) (a : At t) → Harmed a (renewed_after m time cid token a)
  unfolding renewed_after deeds_move
  harmed_retry m time cid token a =
      let renew : Move t = Renew time cid token (new_keys m.seal_limit m.failure_limit (m.initial a.state.lower.session cid Client)) in
      let b : At t = move_to renew a in
      harmed_next a b _ (harmed_move renew a refl) (holds_armed_now Grown grown_here grown_next (λ x r c k. grown_move x c) time b)

  -- a list of versions without this end's
  grown_left : (time : ℕ) (why : ConnectionError) (a : At t) (b : Bool) → Grown a (if b then given_after why (move_to (PeerCloses time) a) else a)
  grown_left time why a true =
      let b : At t = move_to (PeerCloses time) a in
      grown_next a b _ (grown_move (PeerCloses time) a) (holds_given Grown grown_here grown_next (λ x r c k. grown_move x c) why b)
  grown_left time why a false = grown_here a

  harmed_versions : (time : ℕ) (a : At t) → Harmed a (left_after time lost.VersionMismatch (piece_told None None verdict.Versions a))
  unfolding left_after deeds_move
  harmed_versions time a =
      let d : Did = did.Piece None None verdict.Versions in
      let b : At t = move_to (Tell d) a in
      harmed_next a b _ (harmed_move (Tell d) a refl) (grown_left time lost.VersionMismatch b (is_open b.state.life.state))

  -- a packet without a number, by its verdict
  tame_retried : (m : Meaning t) (time : ℕ) (h : ProtectedHeader) (bytes : List ℕ) (a : At t) → Tame a (retried_after m time h bytes a)
  tame_retried m time (protected.Retry dst src version) bytes a = harmed_tame a _ (harmed_retry m time src (retry_token (drop (ids_end dst src) bytes)) a)
  tame_retried m time _ bytes a = tame_here a

  tame_unnumbered : (m : Meaning t) (time : ℕ) (p : Piece) (v : Verdict) (a : At t) → Tame a (unnumbered_after m time p v a)
  tame_unnumbered m time p verdict.RetryTaken a = tame_retried m time p.header p.bytes a
  tame_unnumbered m time p verdict.Versions a = harmed_tame a _ (harmed_versions time a)
  tame_unnumbered m time p _ a = tame_move (Tell (did.Piece None None verdict.Ignored)) a (same_tell (did.Piece None None verdict.Ignored) a.state)

  tame_formed : (m : Meaning t) (coming : Coming) (id : Option SpaceId) (p : Piece) (a : At t) → Tame a (formed_after m coming id p a)
  tame_formed m coming None p a = tame_unnumbered m coming.time p (unnumbered_verdict m a.state p) a
  tame_formed m coming (Some id) p a = tame_opening m coming (Some id) (opening_of m a.state p) a

  -- a packet, which is ignored where the connection is over
  piece_by : (m : Meaning t) (coming : Coming) (p : Piece) (a : At t) (b : Bool) →
      Tame a (if b then piece_told (space_of p.header) None verdict.Ignored a else formed_after m coming (space_of p.header) p a)
  piece_by m coming p a true = tame_move (Tell (did.Piece (space_of p.header) None verdict.Ignored)) a (same_tell (did.Piece (space_of p.header) None verdict.Ignored) a.state)
  piece_by m coming p a false = tame_formed m coming (space_of p.header) p a

  tame_pieces : (m : Meaning t) (coming : Coming) (items : List DatagramItem) (a : At t) → Tame a (pieces_after m coming items a)
  unfolding piece_after
  tame_pieces m coming [] a = tame_here a
  tame_pieces m coming (Err fault ∷ items) a = tame_here a
  tame_pieces m coming (Ok p ∷ items) a = tame_next a (piece_after m coming p a) _ (piece_by m coming p a (is_over a.state.life.state)) (tame_pieces m coming items (piece_after m coming p a))

  -- the loss timer is set anew where no datagram could be begun before
  armed_same : (time : ℕ) (s : View t) (a : At t) (b : Bool) → (b ≡ true → is_blocked s.paths ≡ true) → Same s a.state → Same s (if b then armed_after time a else a).state
  unfolding armed_after armed_with move_to state_move numbers_move keys_move life_move paths_move timers_move waiting_move setup_move lower_move timers_armed
  armed_same time s a true blocked h = record {
    numbers = h.numbers;
    keys = h.keys;
    life = h.life;
    paths = h.paths;
    ranged = h.ranged;
    more = h.more;
    timers = ap (λ (x : Timers). record x { loss_detection = loss_time a.state (is_blocked a.state.paths) time }) h.timers;
    still = λ r free. cc (blocked refl, free);
    waiting = h.waiting;
    setup = h.setup;
    lower = h.lower;
    issuer = h.issuer;
  }
  armed_same time s a false blocked h = h

  -- which tells nothing
  armed_did : (time : ℕ) (a : At t) (b : Bool) → (if b then armed_after time a else a).did ≡ a.did
  unfolding armed_after armed_with move_to deeds_move
  armed_did time a true = refl
  armed_did time a false = refl

  -- the bytes of a datagram count
  tame_counted : (time : ℕ) (n : ℕ) (a b : At t) → Tame a b → Tame a (counted_after time (is_blocked a.state.paths) n b)
  unfolding counted_after
  tame_counted time n a b h =
      let c : At t = move_to (Hear n) b in
      let counts : Tame a c = tame_next a b c h (tame_move (Hear n) b (same_hear n b.state)) in
      let x : Bool = is_blocked a.state.paths && not (is_blocked c.state.paths) in
      record {
        since = counts.since;
        appended = armed_did time c x ∙ counts.appended;
        same = λ k. armed_same time a.state c x (λ e. first_holds (is_blocked a.state.paths) (not (is_blocked c.state.paths)) e) (counts.same k);
      }

  -- a datagram that is heard, or dropped
  heard_by : (m : Meaning t) (coming : Coming) (n : ℕ) (items : List DatagramItem) (a : At t) (b : Bool) → Tame a (if b then counted_after coming.time (is_blocked a.state.paths) n (pieces_after m coming items a) else a)
  heard_by m coming n items a true = tame_counted coming.time n a (pieces_after m coming items a) (tame_pieces m coming items a)
  heard_by m coming n items a false = tame_here a

  tame_heard : (m : Meaning t) (coming : Coming) (bytes : List ℕ) (a : At t) → Tame a (heard_after m coming bytes a)
  unfolding heard_after
  tame_heard m coming bytes a = heard_by m coming (length bytes) (cut_of a.state bytes) a (is_readable a.state bytes && lets_in a.state coming.remote)

  -- ---- a server's first datagram

  -- a packet that opened, where its form has a space
  harmed_opening : (m : Meaning t) (coming : Coming) (id : Option SpaceId) (this : SpaceId) (o : Opening) (token : List ℕ) (a : At t) → id ≡ Some this → opened_token o ≡ Some token → Harmed a (opening_after m coming id o a)
  harmed_opening m coming (Some id) this (Opened source other spin which number payload) token a e h = harmed_opened m coming id spin source other which number payload a
  harmed_opening m coming None this (Opened source other spin which number payload) token a e h = cc
  harmed_opening m coming id this Unreadable token a e h = cc
  harmed_opening m coming id this Unopened token a e h = cc
  harmed_opening m coming id this (Reserved number) token a e h = cc
  harmed_opening m coming id this (Untimely number) token a e h = cc

  harmed_piece : (m : Meaning t) (coming : Coming) (p : Piece) (token : List ℕ) (a : At t) → is_over a.state.life.state ≡ false → space_of p.header ≡ Some space.Initial → opened_token (opening_of m a.state p) ≡ Some token → Harmed a (piece_after m coming p a)
  unfolding piece_after
  harmed_piece m coming p token a over is_initial opened =
      rw over (subst (λ (x : Option SpaceId). Harmed a (formed_after m coming x p a)) (sym is_initial) (harmed_opening m coming (Some space.Initial) space.Initial (opening_of m a.state p) token a refl opened))

  -- that a token is expected leaves what opens
  pub same_opening : (m : Meaning t) (s : View t) (token : List ℕ) (p : Piece) → opening_of m (state_move (Expect token) s) p ≡ opening_of m s p
  unfolding opening_of state_move numbers_move keys_move
  same_opening m s token p = refl

  -- a packet with a token has the form of a first one, and opened
  pub first_ids : (m : Meaning t) (s : View t) (p : Piece) (token : List ℕ) (b : Bool) → (if b then opened_token (opening_of m s p) else None) ≡ Some token → b ≡ true
  first_ids m s p token true h = refl
  first_ids m s p token false h = cc

  first_opened : (m : Meaning t) (s : View t) (p : Piece) (token : List ℕ) (b : Bool) → (if b then opened_token (opening_of m s p) else None) ≡ Some token → opened_token (opening_of m s p) ≡ Some token
  first_opened m s p token true h = h
  first_opened m s p token false h = cc

  pub first_space : (s : View t) (p : Piece) → has_first_ids s p.header ≡ true → space_of p.header ≡ Some space.Initial
  unfolding has_first_ids
  first_space s p h = initial_space s.setup.fixed.first_cid s.paths.current.remote_cid p.header h

  -- the packets behind the first one add deeds
  behind_grown : (m : Meaning t) (coming : Coming) (items : List DatagramItem) (a : At t) → Grown a (pieces_after m coming items a)
  behind_grown m coming items a = let h = tame_pieces m coming items a in record { since = h.since; appended = h.appended }

  -- once its token is expected, the first packet of such a datagram counts
  harmed_first : (m : Meaning t) (coming : Coming) (token : List ℕ) (items : List DatagramItem) (a : At t) → is_handshake a.state.life.state ≡ true → token_in_items m a.state items ≡ Some token →
      Harmed a (pieces_after m coming items (move_to (Expect token) a))
  unfolding token_in_first move_to state_move life_move
  harmed_first m coming token [] a going h = cc
  harmed_first m coming token (Err fault ∷ items) a going h = cc
  harmed_first m coming token (Ok p ∷ items) a going h =
      let b : At t = move_to (Expect token) a in
      let c : At t = piece_after m coming p b in
      let ids : has_first_ids a.state p.header ≡ true = first_ids m a.state p token _ h in
      let opened : opened_token (opening_of m b.state p) ≡ Some token = ap opened_token (same_opening m a.state token p) ∙ first_opened m a.state p token _ h in
      next_harmed a b _ (grown_move (Expect token) a)
      (harmed_next b c _ (harmed_piece m coming p token b (not_over a.state.life.state going) (first_space a.state p ids) opened) (behind_grown m coming items c))

  -- such a datagram begins with a packet, and is let in
  items_read : (m : Meaning t) (s : View t) (bytes token : List ℕ) (items : List DatagramItem) → cut_of s bytes ≡ items → token_in_items m s items ≡ Some token → is_readable s bytes ≡ true
  unfolding is_readable pieces_of
  items_read m s bytes token [] e h = cc
  items_read m s bytes token (Err fault ∷ items) e h = cc
  items_read m s bytes token (Ok p ∷ items) e h = within_read (length bytes) (length s.setup.fixed.local_cid) (s.setup.fixed.version ∷ []) s.setup.fixed.grease_quic_bit bytes p items e

  pub let_in : (s : View t) (remote : SocketAddr) → is_handshake s.life.state ≡ true → same_address s.paths.current.remote remote ≡ true → lets_in s remote ≡ true
  unfolding lets_in
  let_in s remote going same = let on : is_over s.life.state ≡ false = not_over s.life.state going in rw (on, same) refl

  -- so it is once its token is expected
  expected_readable : (s : View t) (token bytes : List ℕ) → is_readable (state_move (Expect token) s) bytes ≡ is_readable s bytes
  unfolding is_readable state_move setup_move token_expected
  expected_readable s token bytes = refl

  pub expected_lets : (s : View t) (token : List ℕ) (remote : SocketAddr) → lets_in (state_move (Expect token) s) remote ≡ lets_in s remote
  unfolding lets_in state_move life_move paths_move
  expected_lets s token remote = refl

  -- it is heard
  harmed_heard : (m : Meaning t) (coming : Coming) (bytes token : List ℕ) (a : At t) →
      is_handshake a.state.life.state ≡ true → same_address a.state.paths.current.remote coming.remote ≡ true → token_in_items m a.state (cut_of a.state bytes) ≡ Some token →
      Harmed a (heard_after m coming bytes (move_to (Expect token) a))
  unfolding heard_after move_to state_move setup_move token_expected
  harmed_heard m coming bytes token a going same h =
      let b : At t = move_to (Expect token) a in
      let c : At t = pieces_after m coming (cut_of a.state bytes) b in
      let readable : is_readable b.state bytes ≡ true = expected_readable a.state token bytes ∙ items_read m a.state bytes token (cut_of a.state bytes) refl h in
      let lets : lets_in b.state coming.remote ≡ true = expected_lets a.state token coming.remote ∙ let_in a.state coming.remote going same in
      rw (both (is_readable b.state bytes) (lets_in b.state coming.remote) readable lets)
      (harmed_next a c _ (harmed_first m coming token (cut_of a.state bytes) a going h) (holds_counted Grown grown_here grown_next (λ x r d k. grown_move x d) coming.time (is_blocked b.state.paths) (length bytes) c))

  -- it isn't harmless
  harmed_token : (m : Meaning t) (coming : Coming) (bytes token : List ℕ) (a : At t) → first_token m a.state coming.remote bytes ≡ Some token →
      Harmed a (heard_after m coming bytes (move_to (Expect token) a))
  unfolding first_token
  harmed_token m coming bytes token a h =
      let holds = tests_hold (is_handshake a.state.life.state) (nat_le DATAGRAM_SIZE (length bytes)) (same_address a.state.paths.current.remote coming.remote) (token_in_items m a.state (cut_of a.state bytes)) token h in
      harmed_heard m coming bytes token a holds.0 holds.1 holds.2

  tame_first : (m : Meaning t) (coming : Coming) (bytes : List ℕ) (token : Option (List ℕ)) (a : At t) → first_token m a.state coming.remote bytes ≡ token →
      Tame a (first_after m coming bytes token a)
  tame_first m coming bytes None a h = tame_here a
  tame_first m coming bytes (Some token) a h = harmed_tame a _ (harmed_token m coming bytes token a h)

  -- ---- datagrams, steps and runs

  datagram_by : (m : Meaning t) (coming : Coming) (bytes : List ℕ) (a : At t) (b : Bool) →
      Tame a (if b then first_after m coming bytes (first_token m a.state coming.remote bytes) a else heard_after m coming bytes a)
  datagram_by m coming bytes a true = tame_first m coming bytes (first_token m a.state coming.remote bytes) a refl
  datagram_by m coming bytes a false = tame_heard m coming bytes a

  pub tame_datagram : (m : Meaning t) (coming : Coming) (bytes : List ℕ) (a : At t) → Tame a (datagram_after m coming bytes a)
  unfolding datagram_after
  tame_datagram m coming bytes a = datagram_by m coming bytes a (is_first_awaited a.state.setup)

  -- a call, before anything is reported
  same_called : (m : Meaning t) (i : Input) (s : View t) (choice : Choice) (ds : List Did) → is_datagram i ≡ true → ds ≡ (called m s i choice).did → list_all is_harmless ds ≡ true → Same s (called m s i choice).state
  unfolding called began input_after
  same_called m (input.Datagram time remote ecn bytes) s choice ds is_one is_did h =
      let a : At t = began s time in
      let b : At t = datagram_after m (record { time = time; remote = remote; mark = ecn }) bytes a in
      let tame = tame_datagram m (record { time = time; remote = remote; mark = ecn }) bytes a in
      same_next s a.state b.state (same_clock time s) (tame.same (subst (λ (es : List Did). list_all is_harmless es ≡ true) (is_did ∙ tame.appended) h))
  same_called m _ s choice ds is_one is_did h = cc

  -- a step
  step_counts : (m : Meaning t) (k : ℕ) (s : View t) (i : Input) (x : Step) (s' : View t) → IsStep m k s i x s' → is_datagram i ≡ true → list_all is_harmless x.did ≡ true → OnlyCounts s s'
  unfolding step_after reported state_move numbers_move keys_move life_move paths_move timers_move waiting_move setup_move lower_move
  step_counts m k s i x s' h is_one harmless =
      let b : At t = called m s i h.choice in
      let same = same_called m i s h.choice x.did is_one h.deeds harmless in
      record {
        numbers = h.numbers ∙ same.numbers;
        keys = h.keys ∙ same.keys ∙ ap (λ (y : KeyGroup t.H t.P). record s.keys { failures = y.failures }) (sym h.keys);
        life = ap life_reported h.life ∙ reported_again b.state.life ∙ ap life_reported same.life;
        paths = h.paths ∙ same.paths ∙ ap (λ (y : Paths t.C). record s.paths { current = record s.paths.current { received = y.current.received } }) (sym h.paths);
        ranged = λ r. subst (λ (p : Paths t.C). p.current.received ≤ 18446744073709551615) (sym h.paths) (same.ranged r);
        more = λ r. subst (λ (p : Paths t.C). s.paths.current.received ≤ p.current.received) (sym h.paths) (same.more r);
        timers = h.timers ∙ same.timers ∙ ap (λ (y : Timers). record s.timers { greatest = y.greatest; loss_detection = y.loss_detection }) (sym h.timers);
        still = λ r free. ap (λ (y : Timers). y.loss_detection) h.timers ∙ same.still r free;
        waiting = h.waiting ∙ same.waiting;
        setup = h.setup ∙ same.setup;
        lower = ap (λ (l : Lower t.S). events_told l) h.lower ∙ told_again b.state.lower ∙ ap (λ (l : Lower t.S). events_told l) same.lower;
        issuer = h.issuer ∙ same.issuer;
      }

  -- a run, one step after the other
  run_counts : (m : Meaning t) (k : ℕ) (s : View t) (is : List Input) (xs : List Step) (s' : View t) → Run m k s is xs s' → All (λ i. is_datagram i ≡ true) is → list_all is_harmless (deeds_of xs) ≡ true → OnlyCounts s s'
  unfolding Run
  run_counts m k s [] [] s' r all harmless = subst (OnlyCounts s) (sym r) (counts_here s)
  run_counts m k s (i ∷ is) (x ∷ xs) s' r all harmless =
      let mid : View t = r.0 in
      counts_next s mid s' (step_counts m k s i x mid r.1 (All-head (λ i. is_datagram i ≡ true) i is all) (front_harmless x.did (deeds_of xs) harmless))
      (run_counts m (k + 1) mid is xs s' r.2 (All-tail (λ i. is_datagram i ≡ true) i is all) (back_harmless x.did (deeds_of xs) harmless))
  run_counts m k s [] (x ∷ xs) s' r all harmless = absurd r
  run_counts m k s (i ∷ is) [] s' r all harmless = absurd r

  pub run_harmless : (m : Meaning t) (k : ℕ) (s : View t) (is : List Input) (xs : List Step) (s' : View t) → Run m k s is xs s' → Harmless s is xs s'
  unfolding Harmless
  run_harmless m k s is xs s' r = λ all harmless. run_counts m k s is xs s' r all (all_harmless (deeds_of xs) harmless)
