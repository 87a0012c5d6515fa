-- Over a run the datagrams that are sealed were sent, in order, each once.
use Rattle.std.proofs.Common.{◌≡◌, ℕ, List, [], ◌∷◌, ◌++◌, refl, ap, sym, ◌∙◌, subst, Bool, true, false, Option, Some, None, if◌then◌else◌, append-nil}
use Rattle.qc_datagrams.specs.declared.datagrams.Datagrams.{Datagrams}
use Rattle.qc_datagrams.specs.declared.datagrams.SendRefusal.{SendRefusal}
use Rattle.qc_datagrams.specs.declared.datagrams.SendRefusal.TheVariants as send
use Rattle.qc_datagrams.specs.Datagrams.{frame_taken, is_refused, longer_dropped, new_datagrams, room_told, send_queued, send_refusal, send_refused}
use Rattle.qc_datagrams.specs.Given.{AreInOrder, Drops, Queues, Takes, all_given, all_queued, given_by, queued_by}
use Rattle.qc_datagrams.specs.Given as queue
use Rattle.qc_datagrams.specs.Queue.{first}
use Rattle.qc_datagrams.specs.Steps.{Sealed, Shrunk, Step, after, after_step, sent_unless}
use Rattle.qc_datagrams.proofs.GivenLaw.{gives_in_order}
use Rattle.qc_frame.specs.Frame.{FrameValue}
use Rattle.qc_frame.specs.declared.frames.FrameOf.TheVariants as frames
use Rattle.qc_state.specs.declared.deeds.Did.{Did}
use Rattle.qc_state.specs.declared.deeds.Did.TheVariants as did
use Rattle.qc_state.specs.declared.deeds.Layer.TheVariants as layer
use Rattle.qc_state.specs.declared.events.Event.{Event}
use Rattle.qc_state.specs.declared.input.Input.{Input}
use Rattle.qc_state.specs.declared.input.Input.TheVariants as input
use Rattle.qc_state.specs.declared.trace.Answer.{Answer}
use Rattle.qc_state.specs.declared.trace.Step.{Step as TraceStep}
use Rattle.qc_state.specs.Datagrams.{AllOldest, datagram_steps, sealed_datagrams, sent_answer}
use Rattle.qc_state.specs.Run.{Run}
use Rattle.qc_state.specs.Types.{Types, Meaning}
use Rattle.qc_state.specs.View.{View}
use Rattle.qc_state.proofs.DatagramSteps.{posts_append}
use Rattle.qc_laws.specs.PostLaws.{AreOfDeeds, ArePosts, AreShrunk, FoldsPosts, HasNewDatagrams, MakesPosts, SealsSent, datagrams_in, sealed_in, sent_by, sent_in}
use Rattle.qc_laws.specs.StreamsLaws.{frames_sealed, with_steps}
use Rattle.qc_laws.proofs.PostsFold.{run_posts, three_leave}
use Rattle.qc_laws.proofs.PostsTaken.{front_in, given_append, left_append, queued_append}

-- ---- the queue of those that are to be sent

-- from one queue to another these were sent, and these sealed
record Goes (sent sealed q q' : List (List ℕ)) : Type 0 where
  pub steps : List queue.Step
  pub gives : all_given steps q ≡ sealed
  pub leads : q' ≡ queue.after steps q
  pub queues : all_queued steps ≡ sent

goes_here : (q q' : List (List ℕ)) → q' ≡ q → Goes [] [] q q'
unfolding all_given all_queued queue.after
goes_here q q' same = record { steps = []; gives = refl; leads = same; queues = refl }

goes_next : (sent more sealed later p q r : List (List ℕ)) → Goes sent sealed p q → Goes more later q r → Goes (sent ++ more) (sealed ++ later) p r
goes_next sent more sealed later p q r g h = record {
  steps = g.steps ++ h.steps;
  gives = given_append g.steps h.steps p ∙ ap (λ (l : List (List ℕ)). l ++ all_given h.steps (queue.after g.steps p)) g.gives
      ∙ ap (λ (l : List (List ℕ)). sealed ++ l) (ap (λ (l : List (List ℕ)). all_given h.steps l) (sym g.leads) ∙ h.gives);
  leads = h.leads ∙ ap (λ (l : List (List ℕ)). queue.after h.steps l) g.leads ∙ sym (left_append g.steps h.steps p);
  queues = queued_append g.steps h.steps ∙ ap (λ (l : List (List ℕ)). l ++ all_queued h.steps) g.queues ∙ ap (λ (l : List (List ℕ)). sent ++ l) h.queues;
}

-- a DATAGRAM frame is sealed with the oldest one
one_goes : (body : List ℕ) (d : Datagrams) → first d.outgoing ≡ body ∷ [] → Goes [] (body ∷ []) d.outgoing (after_step Sealed d).outgoing
unfolding all_given all_queued queue.after queue.after_step given_by queued_by after_step room_told
one_goes body d is = record { steps = Takes ∷ []; gives = append-nil (first d.outgoing) ∙ is; leads = refl; queues = refl }

frames_go : (fs : List FrameValue) (d : Datagrams) → AllOldest fs d → Goes [] (datagrams_in fs) d.outgoing (after (sealed_datagrams fs) d).outgoing
unfolding sealed_datagrams after AllOldest
frames_go [] d h = goes_here d.outgoing d.outgoing refl
frames_go (frames.Datagram body ∷ fs) d h =
    goes_next [] [] (body ∷ []) (datagrams_in fs) d.outgoing (after_step Sealed d).outgoing (after (sealed_datagrams fs) (after_step Sealed d)).outgoing (one_goes body d h.0) (frames_go fs (after_step Sealed d) h.1)
frames_go (_ ∷ fs) d h = frames_go fs d h.1

datagrams_append : (fs gs : List FrameValue) → datagrams_in (fs ++ gs) ≡ datagrams_in fs ++ datagrams_in gs
datagrams_append [] gs = refl
datagrams_append (frames.Datagram body ∷ fs) gs = ap (λ (l : List (List ℕ)). body ∷ l) (datagrams_append fs gs)
datagrams_append (_ ∷ fs) gs = datagrams_append fs gs

-- one that comes, refused or not, leaves those that are to be sent
came_leaves : (body : List ℕ) (d : Datagrams) (refused : Bool) → (if refused then d else frame_taken body d).outgoing ≡ d.outgoing
unfolding frame_taken
came_leaves body d true = refl
came_leaves body d false = refl

frame_leaves : (frame : FrameValue) (d : Datagrams) → (after (datagram_steps frame) d).outgoing ≡ d.outgoing
unfolding after after_step
frame_leaves (frames.Datagram body) d = came_leaves body d (is_refused body d)
frame_leaves _ d = refl

-- what no longer fits is dropped
drop_goes : (most : ℕ) (d : Datagrams) → Goes [] [] d.outgoing (after_step (Shrunk most) d).outgoing
unfolding all_given all_queued queue.after queue.after_step given_by queued_by after_step longer_dropped
drop_goes most d = record { steps = Drops most ∷ []; gives = refl; leads = refl; queues = refl }

shrunk_goes : (xs : List Step) (d : Datagrams) → AreShrunk xs → Goes [] [] d.outgoing (after xs d).outgoing
unfolding after
shrunk_goes [] d h = goes_here d.outgoing d.outgoing refl
shrunk_goes (Shrunk most ∷ xs) d h =
    let next : Datagrams = after_step (Shrunk most) d in
    goes_next [] [] [] [] d.outgoing next.outgoing (after xs next).outgoing (drop_goes most d) (shrunk_goes xs next h)
shrunk_goes (_ ∷ xs) d h = cc

deeds_go : (ds : List Did) (made : List Step) (d : Datagrams) → AreOfDeeds ds made d → Goes [] (datagrams_in (frames_sealed ds)) d.outgoing (after made d).outgoing
deeds_go [] made d h = shrunk_goes made d h
deeds_go (did.Gave layer.Streams body ∷ ds) made d h =
    let front : List Step = datagram_steps h.1 in
    let mid : Datagrams = after h.0 d in
    let leads : (after made d).outgoing ≡ (after h.2 (after front mid)).outgoing = ap (λ (x : Datagrams). x.outgoing) (three_leave made h.0 front h.2 d h.5) in
    let more : List (List ℕ) = datagrams_in (frames_sealed ds) in
    subst (λ (q : List (List ℕ)). Goes [] more d.outgoing q) (sym leads)
    (goes_next [] [] [] more d.outgoing mid.outgoing (after h.2 (after front mid)).outgoing (shrunk_goes h.0 d h.3)
    (subst (λ (p : List (List ℕ)). Goes [] more p (after h.2 (after front mid)).outgoing) (frame_leaves h.1 mid) (deeds_go ds h.2 (after front mid) h.6)))
deeds_go (did.Gave layer.Session body ∷ ds) made d h = deeds_go ds made d h
deeds_go (did.Gave layer.Recovery body ∷ ds) made d h = deeds_go ds made d h
deeds_go (did.Gave layer.Life body ∷ ds) made d h = deeds_go ds made d h
deeds_go (did.Gave layer.Store body ∷ ds) made d h = deeds_go ds made d h
deeds_go (did.Gave layer.Ids body ∷ ds) made d h = deeds_go ds made d h
deeds_go (did.Sealed space n epoch early fs ∷ ds) made d h =
    let front : List Step = sealed_datagrams fs in
    let mid : Datagrams = after h.0 d in
    let behind : List (List ℕ) = (after h.1 (after front mid)).outgoing in
    let leads : (after made d).outgoing ≡ behind = ap (λ (x : Datagrams). x.outgoing) (three_leave made h.0 front h.1 d h.3) in
    let more : List (List ℕ) = datagrams_in (frames_sealed ds) in
    subst (λ (q : List (List ℕ)). Goes [] (datagrams_in (fs ++ frames_sealed ds)) d.outgoing q) (sym leads)
    (subst (λ (l : List (List ℕ)). Goes [] l d.outgoing behind) (sym (datagrams_append fs (frames_sealed ds)))
    (goes_next [] [] [] (datagrams_in fs ++ more) d.outgoing mid.outgoing behind (shrunk_goes h.0 d h.2)
    (goes_next [] [] (datagrams_in fs) more mid.outgoing (after front mid).outgoing behind (frames_go fs mid h.4) (deeds_go ds h.1 (after front mid) h.5))))
deeds_go (did.Piece space number v ∷ ds) made d h = deeds_go ds made d h
deeds_go (did.Rose life ∷ ds) made d h = deeds_go ds made d h
deeds_go (did.Lost why ∷ ds) made d h = deeds_go ds made d h
deeds_go (did.Quiet why ∷ ds) made d h = deeds_go ds made d h

-- ---- inputs

-- one that is sent is queued, or refused
sent_goes : (o : Option SendRefusal) (time : ℕ) (body : List ℕ) (d : Datagrams) → Goes (sent_by (input.SendDatagram time body) (sent_answer o)) [] d.outgoing (sent_unless o body d).outgoing
unfolding all_given all_queued queue.after queue.after_step given_by queued_by send_queued send_refused
sent_goes None time body d = record { steps = Queues d.send_buffer body ∷ []; gives = refl; leads = refl; queues = refl }
sent_goes (Some send.Disabled) time body d = goes_here d.outgoing d.outgoing refl
sent_goes (Some send.UnsupportedByPeer) time body d = goes_here d.outgoing d.outgoing refl
sent_goes (Some send.TooLarge) time body d = goes_here d.outgoing d.outgoing refl
sent_goes (Some send.Blocked) time body d = goes_here d.outgoing d.outgoing refl

input_goes : (i : Input) (x : TraceStep) (made : List Step) (d : Datagrams) → MakesPosts i x made d → Goes (sent_by i x.answer) (datagrams_in (frames_sealed x.did)) d.outgoing (after made d).outgoing
unfolding after after_step
input_goes (input.SendDatagram time body) x made d h =
    let o : Option SendRefusal = send_refusal h.0 true body d in
    let leads : (after made d).outgoing ≡ (sent_unless o body d).outgoing = ap (λ (xs : List Step). (after xs d).outgoing) h.1 in
    subst (λ (q : List (List ℕ)). Goes (sent_by (input.SendDatagram time body) x.answer) (datagrams_in (frames_sealed x.did)) d.outgoing q) (sym leads)
    (subst (λ (a : Answer). Goes (sent_by (input.SendDatagram time body) a) (datagrams_in (frames_sealed x.did)) d.outgoing (sent_unless o body d).outgoing) (sym h.2)
    (subst (λ (l : List (List ℕ)). Goes (sent_by (input.SendDatagram time body) (sent_answer o)) l d.outgoing (sent_unless o body d).outgoing) (append-nil (datagrams_in (frames_sealed x.did)))
    (goes_next [] (sent_by (input.SendDatagram time body) (sent_answer o)) (datagrams_in (frames_sealed x.did)) [] d.outgoing d.outgoing (sent_unless o body d).outgoing (deeds_go x.did [] d h.3) (sent_goes o time body d))))
input_goes (input.RecvDatagram time) x made d h =
    subst (λ (q : List (List ℕ)). Goes [] (datagrams_in (frames_sealed x.did)) d.outgoing q) (sym (ap (λ (xs : List Step). (after xs d).outgoing) h.0)) (deeds_go x.did [] d h.2)
input_goes (input.Datagram time remote ecn bytes) x made d h = deeds_go x.did made d h
input_goes (input.Timeout time) x made d h = deeds_go x.did made d h
input_goes _ x made d h = deeds_go x.did made d h.1

inputs_go : (waited : List Event) (calls : List (Input × TraceStep)) (xs : List Step) (d : Datagrams) → ArePosts waited calls xs d → Goes (sent_in calls) (sealed_in calls) d.outgoing (after xs d).outgoing
unfolding after
inputs_go waited [] xs d h = goes_here d.outgoing (after xs d).outgoing (ap (λ (ys : List Step). (after ys d).outgoing) h)
inputs_go waited (call ∷ calls) xs d h =
    let made : List Step = h.0 in
    let leads : (after xs d).outgoing ≡ (after h.1 (after made d)).outgoing = ap (λ (ys : List Step). (after ys d).outgoing) h.2 ∙ ap (λ (x : Datagrams). x.outgoing) (posts_append made h.1 d) in
    subst (λ (q : List (List ℕ)). Goes (sent_in (call ∷ calls)) (sealed_in (call ∷ calls)) d.outgoing q) (sym leads)
    (goes_next (sent_by call.0 call.1.answer) (sent_in calls) (datagrams_in (frames_sealed call.1.did)) (sealed_in calls) d.outgoing (after made d).outgoing (after h.1 (after made d)).outgoing
    (input_goes call.0 call.1 made d h.3) (inputs_go [] calls h.1 (after made d) h.5))

-- where none waited before, what was sealed was sent
went : (calls : List (Input × TraceStep)) (q : List (List ℕ)) → Goes (sent_in calls) (sealed_in calls) [] q → AreInOrder (sealed_in calls) (sent_in calls)
unfolding queue.GivesInOrder
went calls q h =
    subst (λ (l : List (List ℕ)). AreInOrder (sealed_in calls) l) h.queues
    (subst (λ (l : List (List ℕ)). AreInOrder l (all_queued h.steps)) h.gives (front_in (all_given h.steps []) (queue.after h.steps []) (all_queued h.steps) (gives_in_order h.steps)))

module _ {t : Types} where
  pub run_seals : (m : Meaning t) (k : ℕ) (s : View t) (is : List Input) (xs : List TraceStep) (s' : View t) → Run m k s is xs s' → HasNewDatagrams s → SealsSent is xs
  unfolding SealsSent new_datagrams
  run_seals m k s is xs s' r new =
      let folds : FoldsPosts is xs s s' = run_posts m k s is xs s' r in
      let none : s.lower.datagrams.outgoing ≡ [] = ap (λ (d : Datagrams). d.outgoing) new.2 in
      went (with_steps is xs) (after folds.steps s.lower.datagrams).outgoing
      (subst (λ (q : List (List ℕ)). Goes (sent_in (with_steps is xs)) (sealed_in (with_steps is xs)) q (after folds.steps s.lower.datagrams).outgoing) none (inputs_go _ (with_steps is xs) folds.steps s.lower.datagrams folds.are))
