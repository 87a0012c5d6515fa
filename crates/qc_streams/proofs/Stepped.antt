-- What a step makes of the stream with an id, step by step
use Rattle.std.proofs.Common.{◌≡◌, ◌∙◌, ℕ, ◌==◌, Bool, true, false, cond, sym, subst, refl}
use Rattle.qc_recv.specs.declared.recv.Recv.{Recv}
use Rattle.qc_send_stream.specs.declared.send.SendPart.{SendPart}
use Rattle.qc_streams.specs.declared.state.StreamsState.{StreamsState}
use Rattle.qc_streams.specs.declared.stream.Stream.{Stream}
use Rattle.qc_streams.specs.Records.{changed, record_of}
use Rattle.qc_streams.specs.Stream.{with_receiving, with_sending}
use Rattle.qc_streams.specs.Waits.{Step, after_step}
use Rattle.qc_streams.proofs.StepAt.{IsStepped, SendsAlike, SteppedAt, came_to, sent_to}
use Rattle.qc_streams.proofs.SteppedAt.{Later, recv_step, rest_step, send_step, stepped_changed, stepped_still}

-- ---- a step changes one side of the stream with an id, or none

pub alike_self : (p : SendPart) → SendsAlike p p
alike_self p = record { buffer = refl; end = refl; reset = refl }

taken_if : {X : Type 0} (b : Bool) (x y : X) → b ≡ true → cond b x y ≡ x
taken_if true x y is = refl
taken_if false x y is = absurd (cc)

passed_if : {X : Type 0} (b : Bool) (x y : X) → b ≡ false → cond b x y ≡ y
passed_if true x y is = absurd (cc)
passed_if false x y is = refl

alike_if : (b : Bool) (p q : SendPart) → b ≡ true → SendsAlike (cond b p q) p
alike_if true p q is = alike_self p
alike_if false p q is = absurd (cc)

alike_else : (b : Bool) (p q : SendPart) → b ≡ false → SendsAlike (cond b p q) q
alike_else true p q is = absurd (cc)
alike_else false p q is = alike_self q

-- what changes a receiving side, under an id
pub record ChangesReceiving (j : ℕ) (x : Step) (g : Recv → Recv) : Type 0 where
  pub came : (id : ℕ) (r : Recv) → came_to id x r ≡ cond (j == id) (g r) r
  pub sent : (id : ℕ) (p : SendPart) → sent_to id x p ≡ p

-- what changes a sending side, under an id
pub record ChangesSending (j : ℕ) (x : Step) (g : SendPart → SendPart) : Type 0 where
  pub came : (id : ℕ) (r : Recv) → came_to id x r ≡ r
  pub sent : (id : ℕ) (p : SendPart) → sent_to id x p ≡ cond (j == id) (g p) p

-- what changes neither
pub record ChangesNone (x : Step) : Type 0 where
  pub came : (id : ℕ) (r : Recv) → came_to id x r ≡ r
  pub sent : (id : ℕ) (p : SendPart) → sent_to id x p ≡ p

alike_of_same : (p q : SendPart) → q ≡ p → SendsAlike q p
alike_of_same p q is = subst (λ (y : SendPart). SendsAlike y p) (sym is) (alike_self p)

module _ (id j : ℕ) (x : Step) where
  pub makes_receiving : (g : Recv → Recv) → ChangesReceiving j x g → (j == id) ≡ true → (st : Stream) → IsStepped id x st (with_receiving g st)
  makes_receiving g c is st =
      recv_step id x g (λ r. c.came id r ∙ taken_if (j == id) (g r) r is) (λ p. alike_of_same p (sent_to id x p) (c.sent id p)) st

  pub rests_receiving : (g : Recv → Recv) → ChangesReceiving j x g → (j == id) ≡ false → (st : Stream) → IsStepped id x st st
  rests_receiving g c is st =
      rest_step id x (λ r. c.came id r ∙ passed_if (j == id) (g r) r is) (λ p. alike_of_same p (sent_to id x p) (c.sent id p)) st

  makes_sending : (g : SendPart → SendPart) → ChangesSending j x g → (j == id) ≡ true → (st : Stream) → IsStepped id x st (with_sending g st)
  makes_sending g c is st =
      send_step id x g (c.came id) (λ p. alike_of_same (g p) (sent_to id x p) (c.sent id p ∙ taken_if (j == id) (g p) p is)) st

  rests_sending : (g : SendPart → SendPart) → ChangesSending j x g → (j == id) ≡ false → (st : Stream) → IsStepped id x st st
  rests_sending g c is st =
      rest_step id x (c.came id) (λ p. alike_of_same p (sent_to id x p) (c.sent id p ∙ passed_if (j == id) (g p) p is)) st

  -- a change that leaves a sending side's bytes, end and reset
  pub makes_alike : (g : SendPart → SendPart) → ChangesNone x → ((p : SendPart) → SendsAlike p (g p)) → (st : Stream) → IsStepped id x st (with_sending g st)
  makes_alike g c alike st = send_step id x g (c.came id) (λ p. subst (λ (y : SendPart). SendsAlike y (g p)) (sym (c.sent id p)) (alike p)) st

  pub rests_alike : ChangesNone x → (st : Stream) → IsStepped id x st st
  rests_alike c st = rest_step id x (c.came id) (λ p. alike_of_same p (sent_to id x p) (c.sent id p)) st

module _ (id j : ℕ) (x : Step) (s : StreamsState) where
  pub receives : (g : Recv → Recv) → ChangesReceiving j x g → Later (record_of id (changed (with_receiving g) j s.records)) (record_of id (after_step x s).records)
      → SteppedAt id x s
  receives g c later = stepped_changed id j x s (with_receiving g) (makes_receiving id j x g c) (rests_receiving id j x g c) later

  pub sends_on : (g : SendPart → SendPart) → ChangesSending j x g
      → Later (record_of id (changed (with_sending g) j s.records)) (record_of id (after_step x s).records) → SteppedAt id x s
  sends_on g c later = stepped_changed id j x s (with_sending g) (makes_sending id j x g c) (rests_sending id j x g c) later

  pub keeps_on : (g : SendPart → SendPart) → ChangesNone x → ((p : SendPart) → SendsAlike p (g p))
      → Later (record_of id (changed (with_sending g) j s.records)) (record_of id (after_step x s).records) → SteppedAt id x s
  keeps_on g c alike later = stepped_changed id j x s (with_sending g) (λ is. makes_alike id j x g c alike) (λ is. rests_alike id j x c) later

  -- no side changes
  pub still_on : ChangesNone x → Later (record_of id s.records) (record_of id (after_step x s).records) → SteppedAt id x s
  still_on c later = stepped_still id x s (rests_alike id j x c) later
