-- Over a run the datagrams that the application takes came, in order, each once.
use Rattle.std.proofs.Common.{◌≡◌, inl, inr, ℕ, List, [], ◌∷◌, ◌++◌, refl, ap, sym, ◌∙◌, subst, Bool, true, false, Option, Some, None, if◌then◌else◌, append_assoc, append-nil}
use Rattle.std.specs.Option.{unwrap_or}
use Rattle.qc_datagrams.specs.declared.datagrams.Datagrams.{Datagrams}
use Rattle.qc_datagrams.specs.declared.datagrams.SendRefusal.{SendRefusal}
use Rattle.qc_datagrams.specs.declared.datagrams.SendRefusal.TheVariants as send
use Rattle.qc_datagrams.specs.Datagrams.{frame_taken, is_refused, longer_dropped, new_datagrams, room_told, send_queued, send_refusal, send_refused}
use Rattle.qc_datagrams.specs.Given.{AreInOrder, Queues, Takes, all_given, all_queued, given_by, queued_by}
use Rattle.qc_datagrams.specs.Given as queue
use Rattle.qc_datagrams.specs.Queue.{first}
use Rattle.qc_datagrams.specs.Steps.{Sealed, Shrunk, Step, after, after_step, sent_unless}
use Rattle.qc_datagrams.proofs.GivenLaw.{gives_in_order}
use Rattle.qc_frame.specs.Frame.{FrameValue}
use Rattle.qc_frame.specs.FrameSpelling.{spelling}
use Rattle.qc_frame.specs.declared.frames.FrameOf.TheVariants as frames
use Rattle.qc_state.specs.declared.events.Event.{Event}
use Rattle.qc_state.specs.declared.input.Input.{Input}
use Rattle.qc_state.specs.declared.input.Input.TheVariants as input
use Rattle.qc_state.specs.declared.trace.Answer.{Answer}
use Rattle.qc_state.specs.declared.trace.Step.{Step as TraceStep}
use Rattle.qc_state.specs.declared.deeds.Did.{Did}
use Rattle.qc_state.specs.declared.deeds.Did.TheVariants as did
use Rattle.qc_state.specs.declared.deeds.Layer.TheVariants as layer
use Rattle.qc_state.specs.Datagrams.{datagram_steps, sealed_datagrams, taken_answer}
use Rattle.qc_state.specs.Run.{Run}
use Rattle.qc_state.specs.Types.{Types, Meaning}
use Rattle.qc_state.specs.View.{View}
use Rattle.qc_laws.specs.PostLaws.{AreDatagrams, AreOfDeeds, ArePosts, AreShrunk, FoldsPosts, HasNewDatagrams, MakesPosts, TakesCame, TakesTrace, taken_by, taken_in}
use Rattle.qc_laws.specs.ReadLaws.{given_in}
use Rattle.qc_laws.specs.StreamsLaws.{given_to_streams, with_steps}
use Rattle.qc_laws.proofs.PostsFold.{run_posts, three_leave}
use Rattle.qc_state.proofs.DatagramSteps.{posts_append}

-- ---- lists

-- the front of a list that is in order is
pub front_in : (xs ys zs : List (List ℕ)) → AreInOrder (xs ++ ys) zs → AreInOrder xs zs
unfolding AreInOrder
front_in [] ys zs h = tt
front_in (x ∷ xs) ys [] h = absurd h
front_in (x ∷ xs) ys (z ∷ zs) (inl h) = inl (h.0, front_in xs ys zs h.1)
front_in (x ∷ xs) ys (z ∷ zs) (inr h) = inr (front_in (x ∷ xs) ys zs h)

pub given_append : (xs ys : List queue.Step) (q : List (List ℕ)) → all_given (xs ++ ys) q ≡ all_given xs q ++ all_given ys (queue.after xs q)
unfolding all_given queue.after
given_append [] ys q = refl
given_append (x ∷ xs) ys q = ap (λ (l : List (List ℕ)). given_by x q ++ l) (given_append xs ys (queue.after_step x q)) ∙ sym (append_assoc (given_by x q) (all_given xs (queue.after_step x q)) (all_given ys (queue.after xs (queue.after_step x q))))

pub queued_append : (xs ys : List queue.Step) → all_queued (xs ++ ys) ≡ all_queued xs ++ all_queued ys
unfolding all_queued
queued_append [] ys = refl
queued_append (x ∷ xs) ys = ap (λ (l : List (List ℕ)). queued_by x ++ l) (queued_append xs ys) ∙ sym (append_assoc (queued_by x) (all_queued xs) (all_queued ys))

pub left_append : (xs ys : List queue.Step) (q : List (List ℕ)) → queue.after (xs ++ ys) q ≡ queue.after ys (queue.after xs q)
unfolding queue.after
left_append [] ys q = refl
left_append (x ∷ xs) ys q = left_append xs ys (queue.after_step x q)

among_append : (bodies more : List (List ℕ)) (ds es : List (List ℕ)) → AreDatagrams bodies ds → AreDatagrams more es → AreDatagrams (bodies ++ more) (ds ++ es)
among_append [] more ds es h g = subst (λ (l : List (List ℕ)). AreDatagrams more (l ++ es)) (sym h) g
among_append (body ∷ bodies) more ds es (inl h) g = inl (h.0, h.1 ++ es, ap (λ (l : List (List ℕ)). l ++ es) h.2, h.3, among_append bodies more h.1 es h.4 g)
among_append (body ∷ bodies) more ds es (inr h) g = inr (among_append bodies more ds es h g)

-- of what was given there may be none
none_among : (bodies : List (List ℕ)) → AreDatagrams bodies []
none_among [] = refl
none_among (body ∷ bodies) = inr (none_among bodies)

-- ---- the queue of those that came

-- over what was given, from one queue to another, these were taken
record Goes (bodies taken q q' : List (List ℕ)) : Type 0 where
  pub steps : List queue.Step
  pub gives : all_given steps q ≡ taken
  pub leads : q' ≡ queue.after steps q
  pub among : AreDatagrams bodies (all_queued steps)

goes_here : (bodies q q' : List (List ℕ)) → q' ≡ q → Goes bodies [] q q'
unfolding all_given all_queued queue.after
goes_here bodies q q' same = record { steps = []; gives = refl; leads = same; among = none_among bodies }

goes_next : (bodies more taken later p q r : List (List ℕ)) → Goes bodies taken p q → Goes more later q r → Goes (bodies ++ more) (taken ++ later) p r
goes_next bodies more taken later p q r g h = record {
  steps = g.steps ++ h.steps;
  gives = given_append g.steps h.steps p ∙ ap (λ (l : List (List ℕ)). l ++ all_given h.steps (queue.after g.steps p)) g.gives
      ∙ ap (λ (l : List (List ℕ)). taken ++ l) (ap (λ (l : List (List ℕ)). all_given h.steps l) (sym g.leads) ∙ h.gives);
  leads = h.leads ∙ ap (λ (l : List (List ℕ)). queue.after h.steps l) g.leads ∙ sym (left_append g.steps h.steps p);
  among = subst (λ (l : List (List ℕ)). AreDatagrams (bodies ++ more) l) (sym (queued_append g.steps h.steps)) (among_append bodies more (all_queued g.steps) (all_queued h.steps) g.among h.among);
}

goes_same : (bodies taken alike q q' : List (List ℕ)) → taken ≡ alike → Goes bodies taken q q' → Goes bodies alike q q'
goes_same bodies taken alike q q' same h = subst (λ (l : List (List ℕ)). Goes bodies l q q') same h

-- a frame that comes is queued, or refused
came_goes : (body bytes : List ℕ) (d : Datagrams) (refused : Bool) → body ≡ spelling (frames.Datagram bytes) → Goes (body ∷ []) [] d.incoming (if refused then d else frame_taken bytes d).incoming
unfolding all_given all_queued queue.after queue.after_step given_by queued_by frame_taken
came_goes body bytes d true spelled = goes_here (body ∷ []) d.incoming d.incoming refl
came_goes body bytes d false spelled = record { steps = Queues (unwrap_or d.receive_buffer 0) bytes ∷ []; gives = refl; leads = refl; among = inl (bytes, [], refl, spelled, refl) }

frame_goes : (body : List ℕ) (frame : FrameValue) (d : Datagrams) → body ≡ spelling frame → Goes (body ∷ []) [] d.incoming (after (datagram_steps frame) d).incoming
unfolding after after_step
frame_goes body (frames.Datagram bytes) d spelled = came_goes body bytes d (is_refused bytes d) spelled
frame_goes body _ d spelled = goes_here (body ∷ []) d.incoming d.incoming refl

-- frames that are sealed leave those that came
sealed_leaves : (fs : List FrameValue) (d : Datagrams) → (after (sealed_datagrams fs) d).incoming ≡ d.incoming
unfolding sealed_datagrams after after_step room_told
sealed_leaves [] d = refl
sealed_leaves (frames.Datagram body ∷ fs) d = sealed_leaves fs (after_step Sealed d)
sealed_leaves (_ ∷ fs) d = sealed_leaves fs d

-- so do those that drop what no longer fits
shrunk_leaves : (xs : List Step) (d : Datagrams) → AreShrunk xs → (after xs d).incoming ≡ d.incoming
unfolding after after_step longer_dropped
shrunk_leaves [] d h = refl
shrunk_leaves (Shrunk most ∷ xs) d h = shrunk_leaves xs (after_step (Shrunk most) d) h
shrunk_leaves (_ ∷ xs) d h = cc

deeds_go : (ds : List Did) (made : List Step) (d : Datagrams) → AreOfDeeds ds made d → Goes (given_to_streams ds) [] d.incoming (after made d).incoming
deeds_go [] made d h = goes_here [] d.incoming (after made d).incoming (shrunk_leaves made d h)
deeds_go (did.Gave layer.Streams body ∷ ds) made d h =
    let front : List Step = datagram_steps h.1 in
    let mid : Datagrams = after h.0 d in
    let leads : (after made d).incoming ≡ (after h.2 (after front mid)).incoming = ap (λ (x : Datagrams). x.incoming) (three_leave made h.0 front h.2 d h.5) in
    let came : Goes (body ∷ []) [] d.incoming (after front mid).incoming = subst (λ (p : List (List ℕ)). Goes (body ∷ []) [] p (after front mid).incoming) (shrunk_leaves h.0 d h.3) (frame_goes body h.1 mid h.4) in
    subst (λ (q : List (List ℕ)). Goes (body ∷ given_to_streams ds) [] d.incoming q) (sym leads)
    (goes_next (body ∷ []) (given_to_streams ds) [] [] d.incoming (after front mid).incoming (after h.2 (after front mid)).incoming came (deeds_go ds h.2 (after front mid) h.6))
deeds_go (did.Gave layer.Session body ∷ ds) made d h = deeds_go ds made d h
deeds_go (did.Gave layer.Recovery body ∷ ds) made d h = deeds_go ds made d h
deeds_go (did.Gave layer.Life body ∷ ds) made d h = deeds_go ds made d h
deeds_go (did.Gave layer.Store body ∷ ds) made d h = deeds_go ds made d h
deeds_go (did.Gave layer.Ids body ∷ ds) made d h = deeds_go ds made d h
deeds_go (did.Sealed space n epoch early fs ∷ ds) made d h =
    let front : List Step = sealed_datagrams fs in
    let mid : Datagrams = after h.0 d in
    let leads : (after made d).incoming ≡ (after h.1 (after front mid)).incoming = ap (λ (x : Datagrams). x.incoming) (three_leave made h.0 front h.1 d h.3) in
    subst (λ (q : List (List ℕ)). Goes (given_to_streams ds) [] d.incoming q) (sym leads)
    (subst (λ (p : List (List ℕ)). Goes (given_to_streams ds) [] p (after h.1 (after front mid)).incoming) (sealed_leaves fs mid ∙ shrunk_leaves h.0 d h.2) (deeds_go ds h.1 (after front mid) h.5))
deeds_go (did.Piece space number v ∷ ds) made d h = deeds_go ds made d h
deeds_go (did.Rose life ∷ ds) made d h = deeds_go ds made d h
deeds_go (did.Lost why ∷ ds) made d h = deeds_go ds made d h
deeds_go (did.Quiet why ∷ ds) made d h = deeds_go ds made d h

-- one that is sent leaves those that came
sent_leaves : (o : Option SendRefusal) (body : List ℕ) (d : Datagrams) → (sent_unless o body d).incoming ≡ d.incoming
unfolding send_queued send_refused
sent_leaves None body d = refl
sent_leaves (Some send.Blocked) body d = refl
sent_leaves (Some _) body d = refl

-- one that is taken is the oldest
taken_first : (q : List (List ℕ)) (time : ℕ) → taken_by (input.RecvDatagram time) (taken_answer q) ≡ first q
unfolding first
taken_first [] time = refl
taken_first (d ∷ ds) time = refl

-- ---- inputs

input_goes : (i : Input) (x : TraceStep) (made : List Step) (d : Datagrams) → MakesPosts i x made d → Goes (given_to_streams x.did) (taken_by i x.answer) d.incoming (after made d).incoming
unfolding after after_step all_given all_queued given_by queued_by queue.after queue.after_step
input_goes (input.SendDatagram time body) x made d h =
    goes_here (given_to_streams x.did) d.incoming (after made d).incoming (ap (λ (xs : List Step). (after xs d).incoming) h.1 ∙ sent_leaves (send_refusal h.0 true body d) body d)
input_goes (input.RecvDatagram time) x made d h =
    let took : first d.incoming ++ [] ≡ taken_by (input.RecvDatagram time) x.answer = append-nil (first d.incoming) ∙ sym (taken_first d.incoming time) ∙ ap (λ (a : Answer). taken_by (input.RecvDatagram time) a) (sym h.1) in
    record { steps = Takes ∷ []; gives = took; leads = ap (λ (xs : List Step). (after xs d).incoming) h.0; among = none_among (given_to_streams x.did) }
input_goes (input.Datagram time remote ecn bytes) x made d h = deeds_go x.did made d h
input_goes (input.Timeout time) x made d h = deeds_go x.did made d h
input_goes _ x made d h = deeds_go x.did made d h.1

inputs_go : (waited : List Event) (calls : List (Input × TraceStep)) (xs : List Step) (d : Datagrams) → ArePosts waited calls xs d → Goes (given_in calls) (taken_in calls) d.incoming (after xs d).incoming
unfolding after
inputs_go waited [] xs d h = goes_here [] d.incoming (after xs d).incoming (ap (λ (ys : List Step). (after ys d).incoming) h)
inputs_go waited (call ∷ calls) xs d h =
    let made : List Step = h.0 in
    let leads : (after xs d).incoming ≡ (after h.1 (after made d)).incoming = ap (λ (ys : List Step). (after ys d).incoming) h.2 ∙ ap (λ (x : Datagrams). x.incoming) (posts_append made h.1 d) in
    subst (λ (q : List (List ℕ)). Goes (given_in (call ∷ calls)) (taken_in (call ∷ calls)) d.incoming q) (sym leads)
    (goes_next (given_to_streams call.1.did) (given_in calls) (taken_by call.0 call.1.answer) (taken_in calls) d.incoming (after made d).incoming (after h.1 (after made d)).incoming
    (input_goes call.0 call.1 made d h.3) (inputs_go [] calls h.1 (after made d) h.5))

-- where none came before, what was taken came
went : (calls : List (Input × TraceStep)) (q : List (List ℕ)) → Goes (given_in calls) (taken_in calls) [] q → TakesCame calls
unfolding queue.GivesInOrder
went calls q h = record {
  came = all_queued h.steps;
  among = h.among;
  takes = subst (λ (l : List (List ℕ)). AreInOrder l (all_queued h.steps)) h.gives (front_in (all_given h.steps []) (queue.after h.steps []) (all_queued h.steps) (gives_in_order h.steps));
}

module _ {t : Types} where
  pub run_takes : (m : Meaning t) (k : ℕ) (s : View t) (is : List Input) (xs : List TraceStep) (s' : View t) → Run m k s is xs s' → HasNewDatagrams s → TakesTrace is xs
  unfolding TakesTrace new_datagrams
  run_takes m k s is xs s' r new =
      let folds : FoldsPosts is xs s s' = run_posts m k s is xs s' r in
      let none : s.lower.datagrams.incoming ≡ [] = ap (λ (d : Datagrams). d.incoming) new.2 in
      went (with_steps is xs) (after folds.steps s.lower.datagrams).incoming
      (subst (λ (q : List (List ℕ)). Goes (given_in (with_steps is xs)) (taken_in (with_steps is xs)) q (after folds.steps s.lower.datagrams).incoming) none (inputs_go _ (with_steps is xs) folds.steps s.lower.datagrams folds.are))
