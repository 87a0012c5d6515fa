-- The counts that a run tells in its ACKs are those of the packets that were accepted with each mark.
use Rattle.std.proofs.Common.{◌≡◌, ℕ, ◌+◌, ◌-◌, ◌^◌, List, [], ◌∷◌, ◌++◌, length, take, refl, ap, sym, ◌∙◌, subst, Bool, true, false, Option, Some, None, if◌then◌else◌, append_assoc, append-nil, arith}
use Rattle.std.specs.Prelude.{min}
use Rattle.std.specs.List.{list_any}
use Rattle.qc_base.specs.declared.ecn.EcnCodepoint.{EcnCodepoint}
use Rattle.qc_base.specs.declared.ecn.EcnCodepoint.TheVariants.{Ect0, Ect1, Ce}
use Rattle.qc_base.specs.declared.side.SpaceId.{SpaceId}
use Rattle.qc_base.specs.declared.side.SpaceId.TheVariants.{Initial, Handshake, «Data»}
use Rattle.qc_frame.specs.Frame.{FrameValue}
use Rattle.qc_frame.specs.declared.frames.EcnCounts.{EcnCounts}
use Rattle.qc_flight.specs.Packets.{Entry}
use Rattle.qc_path.specs.Arrived.{Window, arrived}
use Rattle.qc_path.specs.declared.pending_acks.Arrival.{Arrival}
use Rattle.qc_recovery.specs.declared.calls.Fired.{Fired}
use Rattle.qc_recovery.specs.declared.calls.Fired.TheVariants as fired
use Rattle.qc_state.specs.declared.form.Form.{Form}
use Rattle.qc_state.specs.declared.coming.Coming.{Coming}
use Rattle.qc_state.specs.declared.deeds.Did.{Did}
use Rattle.qc_state.specs.declared.deeds.Did.TheVariants as did
use Rattle.qc_state.specs.declared.deeds.Verdict.{Verdict}
use Rattle.qc_state.specs.declared.deeds.Verdict.TheVariants as verdict
use Rattle.qc_state.specs.declared.input.Input.{Input}
use Rattle.qc_state.specs.declared.input.Input.TheVariants as input
use Rattle.qc_state.specs.declared.life.Close.{Close}
use Rattle.qc_state.specs.declared.opening.Signs.{Signs}
use Rattle.qc_state.specs.declared.trace.Step.{Step}
use Rattle.qc_state.specs.declared.waiting.SpaceWaiting.{SpaceWaiting}
use Rattle.qc_state.specs.declared.waiting.Waiting.{Waiting}
use Rattle.qc_state.specs.Acks.{is_ack, told_counts}
use Rattle.qc_state.specs.Forms.{number_space}
use Rattle.qc_state.specs.Life.{is_open, is_over}
use Rattle.qc_laws.specs.MarkLaws.{AcksTell, DeedsTell, EachTold, SealsTold, StepsTell, Tally, carried_mark, nothing_tallied, tally_accepted, tally_behind, tally_judged, tally_of, tally_since, tally_told}
use Rattle.qc_state.specs.Moves.{Probe, Move, Clock, Ask, Take, Seal, Forget, Enter, Expect, Fail, Accept, Fix, Hear, Ack, Fire, Arm, Pace, Release, Begin, Skip, Come, Read, Write, Ready, Token, Learn, Want, Confirm, Establish, Tell, PeerClosesToo, PeerCloses, Owe, Shut, Raise, Give, Say, Finish, ReportReady, ReportConnected, ReportLost, ReportNotice, ReportNotices, ReportDrained, accepts, arrival_of, enters, state_move, move_to, deeds_move, waiting_move, numbers_move, keys_move, life_move, MayMove, IsTold, told, Hand, Call, ReportStream, ReportStreams, told_to_streams, Post, ReportHeard, ReportAllHeard, Insert, Switch, Retire, Issue, Outlive, Hold, Spend, Discard, Unseal, Update, Renew}
use Rattle.qc_state.specs.Numbers as numbers
use Rattle.qc_state.specs.Numbers.{next_number}
use Rattle.qc_state.specs.Offers.{packet_begun}
use Rattle.qc_state.proofs.Probed.{begun_holds}
use Rattle.qc_state.specs.Receiving.{datagram_after}
use Rattle.qc_state.specs.Run.{time_of, began, close_after, input_after, called, reported, step_after, IsAllowed, IsStep, Run, Ran, datagram_limit}
use Rattle.qc_state.specs.Sending.{Choice, MayTransmit, packet_size, transmit_after}
use Rattle.qc_state.specs.Spaces.{space_of, with_space, is_space}
use Rattle.qc_state.specs.Tokens.{asked_tokens}
use Rattle.qc_laws.proofs.TokensAsked.{asked_marks}
use Rattle.qc_state.specs.Types.{Types, Meaning}
use Rattle.qc_state.specs.View.{View, At}
use Rattle.qc_state.specs.Waiting.{done_asked, ping_asked, waiting_without, close_begun, counts_begun, mark_counted, packet_told, packets_lost, lost_in, packets_acked, acked_in, fired_in, probes_added, probe_spent, frames_again, all_again, came_in, packet_came, crypto_written, nothing_left, space_left, released, ack_released, bundle_next, bytes_again, hello_again}
use Rattle.qc_state.specs.Updating.{fresh_now}
use Rattle.qc_state.proofs.Updates.{holds_updated}
use Rattle.qc_state.proofs.Expired.{IsTimed, holds_timeout}
use Rattle.qc_laws.proofs.MarksKept.{acked_keeps, all_again_keeps, carries_tells, lost_keeps, without_all_keeps}
use Rattle.qc_state.proofs.OpenPackets.{holds_packet, packet_received}
use Rattle.qc_state.proofs.PacketMoves.{IsInPacket, OpenPacket}
use Rattle.qc_state.proofs.ReceivedMoves.{IsOutside}
use Rattle.qc_laws.proofs.Receives.{datagram_holds}
use Rattle.qc_state.proofs.Telling.{open_rank, told_appends}
use Rattle.qc_state.proofs.Transmitted.{IsSealable, IsSending, holds_transmit}
use Rattle.qc_laws.proofs.StreamCalls.{called_input, handed_told}
use Rattle.qc_datagrams.specs.Steps as datagrams

-- ---- the counts of a space, as they are known

-- the counts that a space has
abbrev MarksOf : SpaceId → Waiting → Option EcnCounts
MarksOf id v = (space_of v.spaces id).marks

-- one count is as it is known, or both are beyond the greatest that an ACK tells
abbrev Same : ℕ → ℕ → Type 0
Same count known = min count (2 ^ 62 - 1) ≡ min known (2 ^ 62 - 1)

-- the counts that a space has are those that are known
abbrev Fits : Tally → Option EcnCounts → Type 0
Fits t None = t ≡ nothing_tallied
Fits t (Some c) = (t.came ≡ true) × Same c.ect0 t.ect0 × Same c.ect1 t.ect1 × Same c.ce t.ce

-- those of the start are
start_fits : (c : Option EcnCounts) → Fits (tally_of c) c
start_fits None = refl
start_fits (Some c) = (refl, refl, refl, refl)

-- they are told
fits_told : (t : Tally) (c : Option EcnCounts) → Fits t c → tally_told t ≡ told_counts c
fits_told t None h = rw h refl
fits_told t (Some c) h = rw (h.0, ← h.1, ← h.2, ← h.3) refl

-- one more
one_more : (count known : ℕ) → Same count known → Same (min (count + 1) 4611686018427387903) (known + 1)
one_more count known h = omega arith

one_first : Same (min (0 + 1) 4611686018427387903) (0 + 1)
one_first = omega arith

-- a packet was accepted in the space
here_fits : (mark : Option EcnCodepoint) (t : Tally) (c : Option EcnCounts) → Fits t c → Fits (tally_accepted true mark t) (counts_begun mark (mark_counted mark c))
here_fits None t None h = h
here_fits None t (Some c) h = h
here_fits (Some Ect0) t None h = rw h (refl, one_first, refl, refl)
here_fits (Some Ect1) t None h = rw h (refl, refl, one_first, refl)
here_fits (Some Ce) t None h = rw h (refl, refl, refl, one_first)
here_fits (Some Ect0) t (Some c) h = (refl, one_more c.ect0 t.ect0 h.1, h.2, h.3)
here_fits (Some Ect1) t (Some c) h = (refl, h.1, one_more c.ect1 t.ect1 h.2, h.3)
here_fits (Some Ce) t (Some c) h = (refl, h.1, h.2, one_more c.ce t.ce h.3)

-- or in another one
other_fits : (mark : Option EcnCodepoint) (t : Tally) (c : Option EcnCounts) → Fits t c → Fits (tally_accepted false mark t) (counts_begun mark c)
other_fits None t None h = h
other_fits None t (Some c) h = h
other_fits (Some mark) t None h = rw h (refl, refl, refl, refl)
other_fits (Some mark) t (Some c) h = (refl, h.1, h.2, h.3)

-- ---- what leaves the counts of a space

same_marks : (id space : SpaceId) (v : Waiting) (w : SpaceWaiting) → w.marks ≡ (space_of v.spaces space).marks → MarksOf id (record v { spaces = with_space v.spaces space w }) ≡ MarksOf id v
same_marks Initial Initial v w same = same
same_marks Initial Handshake v w same = refl
same_marks Initial Data v w same = refl
same_marks Handshake Initial v w same = refl
same_marks Handshake Handshake v w same = same
same_marks Handshake Data v w same = refl
same_marks Data Initial v w same = refl
same_marks Data Handshake v w same = refl
same_marks Data Data v w same = same

-- packets were lost
lost_marks : (id space : SpaceId) (v : Waiting) (es : List Entry) → MarksOf id (packets_lost v space es) ≡ MarksOf id v
unfolding packets_lost
lost_marks id space v es = same_marks id space v (lost_in (space_of v.spaces space) es) (lost_keeps (space_of v.spaces space) es)

-- packets were acknowledged
acked_marks : (id space : SpaceId) (v : Waiting) (es : List Entry) → MarksOf id (packets_acked v space es) ≡ MarksOf id v
unfolding packets_acked
acked_marks id space v es = same_marks id space v (acked_in (space_of v.spaces space) es) (acked_keeps (space_of v.spaces space) es)

-- the loss timer fired
fired_marks : (id : SpaceId) (v : Waiting) (f : Fired) → MarksOf id (fired_in v f) ≡ MarksOf id v
unfolding probes_added
fired_marks id v (fired.Lost space es) = lost_marks id space v es
fired_marks id v (fired.Probe space count) = same_marks id space v _ refl
fired_marks id v fired.Nothing = refl

-- a packet was begun
packet_marks : {t : Types} (id space : SpaceId) (opens : Bool) (s : View t) → MarksOf id (packet_begun space opens s).waiting ≡ MarksOf id s.waiting
unfolding probe_spent frames_again ping_asked
packet_marks id space opens s =
    begun_holds (λ w. MarksOf id w ≡ MarksOf id s.waiting) (λ w x h. same_marks id x w (record (space_of w.spaces x) { probes = (space_of w.spaces x).probes - 1 }) refl ∙ h)
    (λ w x fs h. same_marks id x w (all_again (space_of w.spaces x) fs) (all_again_keeps (space_of w.spaces x) fs) ∙ h) (λ w x h. same_marks id x w (record (space_of w.spaces x) { ping = true }) refl ∙ h) space opens s refl

-- the frames of a packet were taken
taken_marks : (id space : SpaceId) (v : Waiting) (fs : List FrameValue) → MarksOf id (waiting_without v space fs) ≡ MarksOf id v
unfolding waiting_without
taken_marks id space v fs = same_marks id space v _ (without_all_keeps (space_of v.spaces space) fs)

-- a packet was sealed
bundle_marks : (id : SpaceId) (v : Waiting) (next : ℕ) (b : Bool) → MarksOf id (if b then record v { bundled = Some next } else v) ≡ MarksOf id v
bundle_marks id v next true = refl
bundle_marks id v next false = refl

sealed_marks : (id : SpaceId) (v : Waiting) (last : Bool) (fs : List FrameValue) (next : ℕ) → MarksOf id (bundle_next (packet_told v last) fs next) ≡ MarksOf id v
unfolding bundle_next packet_told
sealed_marks id v last fs next = bundle_marks id (packet_told v last) next (list_any is_ack fs)

-- an ACK that was held back is owed
released_marks : (id : SpaceId) (v : Waiting) → MarksOf id (ack_released v) ≡ MarksOf id v
unfolding ack_released
released_marks id v = same_marks id «Data» v (released v.spaces.application) refl

-- ---- a packet was accepted

came_fits : (id space : SpaceId) (v : Waiting) (seen : Window) (a : Arrival) (mark : Option EcnCodepoint) (t : Tally) → Fits t (MarksOf id v) → Fits (tally_accepted (is_space id space) mark t) (MarksOf id (packet_came v space seen a mark))
unfolding packet_came came_in
came_fits Initial Initial v seen a mark t h = here_fits mark t v.spaces.initial.marks h
came_fits Initial Handshake v seen a mark t h = other_fits mark t v.spaces.initial.marks h
came_fits Initial Data v seen a mark t h = other_fits mark t v.spaces.initial.marks h
came_fits Handshake Initial v seen a mark t h = other_fits mark t v.spaces.handshake.marks h
came_fits Handshake Handshake v seen a mark t h = here_fits mark t v.spaces.handshake.marks h
came_fits Handshake Data v seen a mark t h = other_fits mark t v.spaces.handshake.marks h
came_fits Data Initial v seen a mark t h = other_fits mark t v.spaces.application.marks h
came_fits Data Handshake v seen a mark t h = other_fits mark t v.spaces.application.marks h
came_fits Data Data v seen a mark t h = here_fits mark t v.spaces.application.marks h

-- a verdict that enters no number accepts no packet
accepts_none : (v : Verdict) → enters v ≡ false → accepts v ≡ false
accepts_none verdict.Ignored h = refl
accepts_none verdict.Failure h = refl
accepts_none verdict.BadBits h = refl
accepts_none verdict.BadUpdate h = refl
accepts_none verdict.RetryTaken h = refl
accepts_none verdict.Versions h = refl
accepts_none verdict.Seen h = refl
accepts_none verdict.ReadForClose h = refl
accepts_none verdict.NumberOnly h = refl
accepts_none verdict.AckOnly h = cc
accepts_none verdict.Admitted h = cc

-- a packet that isn't accepted leaves what is known
judged_same : (id : SpaceId) (mark : Option EcnCodepoint) (space : Option SpaceId) (v : Verdict) (t : Tally) → accepts v ≡ false → tally_judged id mark space v t ≡ t
judged_same id mark None v t h = refl
judged_same id mark (Some space) v t h = rw h refl

-- one that is accepted counts
judged_one : (id space : SpaceId) (mark : Option EcnCodepoint) (v : Verdict) (t : Tally) → accepts v ≡ true → tally_judged id mark (Some space) v t ≡ tally_accepted (is_space id space) mark t
judged_one id space mark v t h = rw h refl

-- what a packet tells, said of its space
told_there : (id space : SpaceId) (v : Waiting) (fs : List FrameValue) → AcksTell (told_counts (MarksOf space v)) fs → is_space id space ≡ true → AcksTell (told_counts (MarksOf id v)) fs
told_there Initial Initial v fs h same = h
told_there Initial Handshake v fs h same = cc
told_there Initial Data v fs h same = cc
told_there Handshake Initial v fs h same = cc
told_there Handshake Handshake v fs h same = h
told_there Handshake Data v fs h same = cc
told_there Data Initial v fs h same = cc
told_there Data Handshake v fs h same = cc
told_there Data Data v fs h same = h

-- ---- deeds one after the other

tell_append : (id : SpaceId) (mark : Option EcnCodepoint) (t : Tally) (ds es : List Did) → DeedsTell id mark t ds → DeedsTell id mark (tally_since id mark t ds) es → DeedsTell id mark t (ds ++ es)
tell_append id mark t [] es a b = b
tell_append id mark t (d ∷ ds) es a b = (a.0, tell_append id mark (tally_behind id mark t d) ds es a.1 b)

since_append : (id : SpaceId) (mark : Option EcnCodepoint) (t : Tally) (ds es : List Did) → tally_since id mark t (ds ++ es) ≡ tally_since id mark (tally_since id mark t ds) es
since_append id mark t [] es = refl
since_append id mark t (d ∷ ds) es = since_append id mark (tally_behind id mark t d) ds es

-- inputs behind the last step say nothing
told_first : (id : SpaceId) (y : Tally) (is : List Input) (xs : List Step) → StepsTell id y (take (length xs) is) xs → StepsTell id y is xs
told_first id y [] [] h = tt
told_first id y [] (x ∷ xs) h = tt
told_first id y (i ∷ is) [] h = tt
told_first id y (i ∷ is) (x ∷ xs) h = (h.0, told_first id (tally_since id (carried_mark i) y x.did) is xs h.1)

-- no step tells anything
none_told : (id : SpaceId) (y : Tally) (is : List Input) → StepsTell id y is []
none_told id y [] = tt
none_told id y (i ∷ is) = tt

module _ {t : Types} where
  -- what a move has to say: a packet that is sealed tells the counts of its space, one that is accepted came with the mark, and one
  -- whose number alone enters isn't accepted
  abbrev IsTelling : Option EcnCodepoint → Move t → View t → Type 0
  IsTelling mark (Seal time form n size fs) s = AcksTell (told_counts (MarksOf (number_space form) s.waiting)) fs
  IsTelling mark (Accept time space n e g v) s = (accepts v ≡ true) × (g.mark ≡ mark)
  IsTelling mark (Enter space n v) s = accepts v ≡ false
  IsTelling mark _ s = Unit {0}

  -- from one moment to another in an input whose datagram carried a mark: where the counts of a space are known, those that are told
  -- in its ACKs are, and so are those of the end
  record Counted (id : SpaceId) (mark : Option EcnCodepoint) (a b : At t) : Type 0 where
    pub since : List Did
    pub appended : b.did ≡ a.did ++ since
    pub told : (x : Tally) → Fits x (MarksOf id a.state.waiting) → DeedsTell id mark x since
    pub kept : (x : Tally) → Fits x (MarksOf id a.state.waiting) → Fits (tally_since id mark x since) (MarksOf id b.state.waiting)

  counted_here : (id : SpaceId) (mark : Option EcnCodepoint) (a : At t) → Counted id mark a a
  counted_here id mark a = record { since = []; appended = sym (append-nil a.did); told = λ x h. tt; kept = λ x h. h }

  counted_next : (id : SpaceId) (mark : Option EcnCodepoint) (a b c : At t) → Counted id mark a b → Counted id mark b c → Counted id mark a c
  counted_next id mark a b c g h =
      record {
        since = g.since ++ h.since;
        appended = h.appended ∙ ap (λ (x : List Did). x ++ h.since) g.appended ∙ append_assoc a.did g.since h.since;
        told = λ x f. tell_append id mark x g.since h.since (g.told x f) (h.told (tally_since id mark x g.since) (g.kept x f));
        kept = λ x f. subst (λ (y : Tally). Fits y (MarksOf id c.state.waiting)) (sym (since_append id mark x g.since h.since)) (h.kept (tally_since id mark x g.since) (g.kept x f));
      }

  -- a move without a deed that leaves the counts
  silent_counted : (id : SpaceId) (mark : Option EcnCodepoint) (x : Move t) (a : At t) → deeds_move x a.state ≡ [] → MarksOf id (waiting_move x a.state) ≡ MarksOf id a.state.waiting → Counted id mark a (move_to x a)
  unfolding move_to state_move
  silent_counted id mark x a none same =
      record { since = []; appended = ap (λ (ds : List Did). told a.did ds) none ∙ sym (append-nil a.did); told = λ y h. tt; kept = λ y h. subst (Fits y) (sym same) h }

  -- a move with one deed
  deed_counted : (id : SpaceId) (mark : Option EcnCodepoint) (x : Move t) (d : Did) (a : At t) → deeds_move x a.state ≡ d ∷ []
      → ((y : Tally) → Fits y (MarksOf id a.state.waiting) → SealsTold id (tally_told y) d)
      → ((y : Tally) → Fits y (MarksOf id a.state.waiting) → Fits (tally_behind id mark y d) (MarksOf id (waiting_move x a.state))) → Counted id mark a (move_to x a)
  unfolding move_to state_move
  deed_counted id mark x d a one seals same =
      record { since = d ∷ []; appended = ap (λ (ds : List Did). told a.did ds) one; told = λ y h. (seals y h, tt); kept = same }

  -- one that leaves the counts, and seals and accepts nothing
  plain_counted : (id : SpaceId) (mark : Option EcnCodepoint) (x : Move t) (d : Did) (a : At t) → deeds_move x a.state ≡ d ∷ []
      → ((y : Tally) → SealsTold id (tally_told y) d) → ((y : Tally) → tally_behind id mark y d ≡ y) → MarksOf id (waiting_move x a.state) ≡ MarksOf id a.state.waiting → Counted id mark a (move_to x a)
  plain_counted id mark x d a one seals still same =
      deed_counted id mark x d a one (λ y h. seals y) (λ y h. subst (λ (z : Tally). Fits z (MarksOf id (waiting_move x a.state))) (sym (still y)) (subst (Fits y) (sym same) h))

  -- a deed that is told beside the others
  tell_counted : (id : SpaceId) (mark : Option EcnCodepoint) (d : Did) (a : At t) → IsTold d → Counted id mark a (move_to (Tell d) a)
  unfolding deeds_move waiting_move
  tell_counted id mark (did.Piece space number v) a h =
      plain_counted id mark (Tell (did.Piece space number v)) (did.Piece space number v) a refl (λ y. tt) (λ y. judged_same id mark space v y (accepts_none v h)) refl
  tell_counted id mark (did.Gave layer body) a h = plain_counted id mark (Tell (did.Gave layer body)) (did.Gave layer body) a refl (λ y. tt) (λ y. refl) refl
  tell_counted id mark _ a h = absurd h

  -- a packet is accepted
  accept_counted : (id : SpaceId) (mark : Option EcnCodepoint) (x : Move t) (space : SpaceId) (n : ℕ) (v : Verdict) (seen : Window) (arrival : Arrival) (came : Option EcnCodepoint) (a : At t) → deeds_move x a.state ≡ did.Piece (Some space) (Some n) v ∷ []
      → MarksOf id (waiting_move x a.state) ≡ MarksOf id (packet_came a.state.waiting space seen arrival came) → accepts v ≡ true → came ≡ mark → Counted id mark a (move_to x a)
  accept_counted id mark x space n v seen arrival came a one leaves takes is =
      deed_counted id mark x (did.Piece (Some space) (Some n) v) a one (λ y h. tt)
      (λ y h. subst (λ (c : Option EcnCounts). Fits (tally_judged id mark (Some space) v y) c) (sym leaves)
      (subst (λ (z : Tally). Fits z (MarksOf id (packet_came a.state.waiting space seen arrival came))) (sym (judged_one id space mark v y takes))
      (subst (λ (m : Option EcnCodepoint). Fits (tally_accepted (is_space id space) m y) (MarksOf id (packet_came a.state.waiting space seen arrival came))) is (came_fits id space a.state.waiting seen arrival came y h))))

  -- a frame that the streams are handed
  handed_counted : (id : SpaceId) (mark : Option EcnCodepoint) (frame : FrameValue) (a : At t) → Counted id mark a (move_to (Hand frame) a)
  unfolding move_to state_move deeds_move waiting_move
  handed_counted id mark frame a = record {
    since = told_to_streams frame;
    appended = told_appends a.did (told_to_streams frame);
    told = λ y f. handed_told (λ ds. DeedsTell id mark y ds) frame tt (λ body. (tt, tt));
    kept = λ y f. handed_told (λ ds. Fits (tally_since id mark y ds) (MarksOf id a.state.waiting)) frame f (λ body. f);
  }

  -- over each move
  counted_move : (id : SpaceId) (mark : Option EcnCodepoint) (x : Move t) (a : At t) → MayMove x a.state → IsTelling mark x a.state → Counted id mark a (move_to x a)
  unfolding MayMove deeds_move waiting_move ping_asked crypto_written done_asked space_left nothing_left close_begun hello_again bytes_again
  counted_move id mark (Clock time) a h k = absurd h
  counted_move id mark (Ask space) a h k = silent_counted id mark (Ask space) a refl (same_marks id space a.state.waiting _ refl)
  counted_move id mark (Take space fs) a h k = silent_counted id mark (Take space fs) a refl (taken_marks id space a.state.waiting fs)
  counted_move id mark (Seal time form n size fs) a h k =
      let told_now : (y : Tally) → Fits y (MarksOf id a.state.waiting) → is_space id (number_space form) ≡ true → AcksTell (tally_told y) fs =
      λ y f same. subst (λ (c : Option EcnCounts). AcksTell c fs) (sym (fits_told y (MarksOf id a.state.waiting) f)) (told_there id (number_space form) a.state.waiting fs k same) in
      deed_counted id mark (Seal time form n size fs) _ a refl told_now (λ y f. subst (Fits y) (sym (sealed_marks id a.state.waiting _ fs _)) f)
  counted_move id mark (Forget space) a h k = silent_counted id mark (Forget space) a refl (same_marks id space a.state.waiting _ refl)
  counted_move id mark (Expect token) a h k = silent_counted id mark (Expect token) a refl refl
  counted_move id mark (Enter space n v) a h k = plain_counted id mark (Enter space n v) _ a refl (λ y. tt) (λ y. judged_same id mark (Some space) v y k) refl
  counted_move id mark Fail a h k = silent_counted id mark Fail a refl refl
  counted_move id mark (Renew time cid token keys) a h k = plain_counted id mark (Renew time cid token keys) _ a refl (λ y. tt) (λ y. refl) (same_marks id Initial a.state.waiting _ refl)
  counted_move id mark (Unseal time n which fresh session) a h k = silent_counted id mark (Unseal time n which fresh session) a refl refl
  counted_move id mark (Update fresh session) a h k = silent_counted id mark (Update fresh session) a refl refl
  counted_move id mark Discard a h k = silent_counted id mark Discard a refl refl
  counted_move id mark (Accept time space n e g v) a h k =
      let seen : Window = arrived n (numbers.came_in a.state.numbers space) in
      accept_counted id mark (Accept time space n e g v) space n v seen (arrival_of time n e g) g.mark a refl
      (asked_marks id (asked_tokens space v a.state.issuer) (packet_came a.state.waiting space seen (arrival_of time n e g) g.mark)) k.0 k.1
  counted_move id mark (Fix cid) a h k = silent_counted id mark (Fix cid) a refl refl
  counted_move id mark (Hear bytes) a h k = silent_counted id mark (Hear bytes) a refl refl
  counted_move id mark (Ack space n after) a h k = silent_counted id mark (Ack space n after) a refl (lost_marks id space (packets_acked a.state.waiting space after.acked) after.lost ∙ acked_marks id space a.state.waiting after.acked)
  counted_move id mark (Fire after) a h k = silent_counted id mark (Fire after) a refl (fired_marks id a.state.waiting after.fired)
  counted_move id mark (Arm at) a h k = silent_counted id mark (Arm at) a refl refl
  counted_move id mark Pace a h k = silent_counted id mark Pace a refl refl
  counted_move id mark Release a h k = silent_counted id mark Release a refl (released_marks id a.state.waiting)
  counted_move id mark (Begin space opens) a h k = silent_counted id mark (Begin space opens) a refl (packet_marks id space opens a.state)
  counted_move id mark Skip a h k = silent_counted id mark Skip a refl refl
  counted_move id mark (Come space offset bytes) a h k = silent_counted id mark (Come space offset bytes) a refl refl
  counted_move id mark (Read space count session) a h k = silent_counted id mark (Read space count session) a refl refl
  counted_move id mark (Write bytes keys session) a h k = silent_counted id mark (Write bytes keys session) a refl (same_marks id a.state.keys.highest a.state.waiting _ refl)
  counted_move id mark Ready a h k = silent_counted id mark Ready a refl refl
  counted_move id mark (Token token) a h k = silent_counted id mark (Token token) a refl refl
  counted_move id mark (Learn parameters) a h k = silent_counted id mark (Learn parameters) a refl refl
  counted_move id mark (Want time count) a h k = silent_counted id mark (Want time count) a refl refl
  counted_move id mark Confirm a h k = silent_counted id mark Confirm a refl (same_marks id «Data» a.state.waiting _ refl)
  counted_move id mark Establish a h k = plain_counted id mark Establish _ a refl (λ y. tt) (λ y. refl) refl
  counted_move id mark (Tell d) a h k = tell_counted id mark d a h
  counted_move id mark PeerClosesToo a h k = plain_counted id mark PeerClosesToo _ a refl (λ y. tt) (λ y. refl) refl
  counted_move id mark (PeerCloses time) a h k = plain_counted id mark (PeerCloses time) _ a refl (λ y. tt) (λ y. refl) refl
  counted_move id mark Owe a h k = silent_counted id mark Owe a refl refl
  counted_move id mark (Shut time close) a h k = plain_counted id mark (Shut time close) _ a refl (λ y. tt) (λ y. refl) refl
  counted_move id mark (Raise to) a h k = plain_counted id mark (Raise to) _ a refl (λ y. tt) (λ y. refl) refl
  counted_move id mark (Give why) a h k = plain_counted id mark (Give why) _ a refl (λ y. tt) (λ y. refl) refl
  counted_move id mark (Spend tokens) a h k = silent_counted id mark (Spend tokens) a refl refl
  counted_move id mark (Hold until) a h k = silent_counted id mark (Hold until) a refl refl
  counted_move id mark (Finish bytes control) a h k = silent_counted id mark (Finish bytes control) a refl refl
  counted_move id mark (Probe time n bytes q) a h k = silent_counted id mark (Probe time n bytes q) a refl refl
  counted_move id mark (Say q) a h k = plain_counted id mark (Say q) _ a refl (λ y. tt) (λ y. refl) refl
  counted_move id mark (Hand frame) a h k = handed_counted id mark frame a
  counted_move id mark (Insert new) a h k = plain_counted id mark (Insert new) _ a refl (λ y. tt) (λ y. refl) refl
  counted_move id mark Switch a h k = silent_counted id mark Switch a refl refl
  counted_move id mark (Retire time n) a h k = plain_counted id mark (Retire time n) _ a refl (λ y. tt) (λ y. refl) refl
  counted_move id mark (Issue time given) a h k = silent_counted id mark (Issue time given) a refl refl
  counted_move id mark Outlive a h k = silent_counted id mark Outlive a refl refl
  counted_move id mark (Call x) a h k = silent_counted id mark (Call x) a refl refl
  counted_move id mark (Post x) a h k = silent_counted id mark (Post x) a refl refl
  counted_move id mark ReportReady a h k = silent_counted id mark ReportReady a refl refl
  counted_move id mark ReportConnected a h k = silent_counted id mark ReportConnected a refl refl
  counted_move id mark ReportHeard a h k = silent_counted id mark ReportHeard a refl refl
  counted_move id mark ReportAllHeard a h k = silent_counted id mark ReportAllHeard a refl refl
  counted_move id mark ReportStream a h k = silent_counted id mark ReportStream a refl refl
  counted_move id mark ReportStreams a h k = silent_counted id mark ReportStreams a refl refl
  counted_move id mark ReportLost a h k = silent_counted id mark ReportLost a refl refl
  counted_move id mark ReportNotice a h k = silent_counted id mark ReportNotice a refl refl
  counted_move id mark ReportNotices a h k = silent_counted id mark ReportNotices a refl refl
  counted_move id mark ReportDrained a h k = silent_counted id mark ReportDrained a refl refl

  -- ---- inputs

  -- what a packet that opened does seals nothing, and it is accepted with the mark of its datagram
  opened_telling : (m : Meaning t) (o : OpenPacket) (mark : Option EcnCodepoint) (x : Move t) (s : View t) → o.coming.mark ≡ mark → IsInPacket m o x s → IsTelling mark x s
  opened_telling m o mark (Seal time form n size fs) s came h = absurd h
  opened_telling m o mark (Accept time id n e g v) s came h = (h.2, ap (λ (signs : Signs). signs.mark) h.1 ∙ came)
  opened_telling m o mark (Enter id n v) s came h = h.0
  opened_telling m o mark _ s came h = tt

  -- over such a packet
  counted_opened : (id : SpaceId) (m : Meaning t) (mark : Option EcnCodepoint) (o : OpenPacket) (a : At t) → o.coming.mark ≡ mark → is_over a.state.life.state ≡ false → Counted id mark a (packet_received m o a)
  counted_opened id m mark o a came lively =
      holds_packet m o (Counted id mark) (counted_here id mark) (counted_next id mark) (λ x b h may. counted_move id mark x b may (opened_telling m o mark x b.state came h)) a lively

  -- all else that receiving does seals and accepts nothing
  outside_telling : (mark : Option EcnCodepoint) (time : ℕ) (x : Move t) (s : View t) → IsOutside time x s → IsTelling mark x s
  outside_telling mark at_time (Seal time form n size fs) s h = absurd h
  outside_telling mark at_time (Accept time id n e g v) s h = absurd h
  outside_telling mark at_time (Enter id n v) s h = absurd h
  outside_telling mark at_time _ s h = tt

  -- a datagram
  counted_datagram : (id : SpaceId) (m : Meaning t) (coming : Coming) (bytes : List ℕ) (a : At t) → Counted id coming.mark a (datagram_after m coming bytes a)
  counted_datagram id m coming bytes a =
      datagram_holds m coming (λ p. Unit {0}) (Counted id coming.mark) (counted_here id coming.mark) (counted_next id coming.mark) (λ x b h may. counted_move id coming.mark x b may (outside_telling coming.mark coming.time x b.state h))
      (λ p comes o b opened. counted_opened id m coming.mark o b (ap (λ (c : Coming). c.mark) opened.came) opened.lively) bytes a (λ p among. tt)

  -- what a transmit does beside sealing accepts nothing
  sending_telling : (x : Move t) (s : View t) → IsSending x → IsTelling None x s
  sending_telling (Seal time form n size fs) s h = absurd h
  sending_telling (Accept time id n e g v) s h = absurd h
  sending_telling (Enter id n v) s h = absurd h
  sending_telling _ s h = tt

  -- a packet is taken and sealed
  counted_sealed : (id : SpaceId) (time : ℕ) (form : Form) (fs : List FrameValue) (a : At t) → IsSealable time a.state form fs →
      Counted id None a (move_to (Seal time form (next_number a.state.numbers (number_space form)) (packet_size a.state form fs) fs) (move_to (Take (number_space form) fs) a))
  unfolding MayMove move_to state_move numbers_move keys_move life_move waiting_move
  counted_sealed id time form fs a may =
      let space : SpaceId = number_space form in
      let b : At t = move_to (Take space fs) a in
      let said : AcksTell (told_counts (MarksOf space (waiting_without a.state.waiting space fs))) fs =
      subst (λ (x : Option EcnCounts). AcksTell (told_counts x) fs) (sym (taken_marks space space a.state.waiting fs)) (carries_tells may.token may.closing time a.state form may.room fs may.carries) in
      counted_next id None a b _ (counted_move id None (Take space fs) a may.takes tt)
      (counted_move id None (Seal time form (next_number a.state.numbers (number_space form)) (packet_size a.state form fs) fs) b (refl, may.closes, may.alive, may.keyed) said)

  -- a transmit
  counted_transmit : (id : SpaceId) (m : Meaning t) (time asked : ℕ) (choice : Choice) (a : At t) → MayTransmit m time asked choice a → Counted id None a (transmit_after m time asked choice a)
  counted_transmit id m time asked choice a may =
      holds_transmit (Counted id None) (counted_here id None) (counted_next id None) (λ x sends b h. counted_move id None x b h (sending_telling x b.state sends))
      (λ at_time space fs b h. counted_sealed id at_time space fs b h) m time asked choice a may

  -- the application closes, or has closed before
  closed_by : (id : SpaceId) (time : ℕ) (close : Close) (a : At t) (b : Bool) → is_open a.state.life.state ≡ b → Counted id None a (if b then move_to (Shut time close) a else a)
  unfolding MayMove
  closed_by id time close a true h = counted_move id None (Shut time close) a (open_rank a.state.life.state h) tt
  closed_by id time close a false h = counted_here id None a

  -- what a timer does seals nothing, and accepts nothing
  timed_telling : (x : Move t) (s : View t) → IsTimed x → IsTelling None x s
  timed_telling (Fire after) s r = tt
  timed_telling (Arm at) s r = tt
  timed_telling Pace s r = tt
  timed_telling Discard s r = tt
  timed_telling Release s r = tt
  timed_telling Outlive s r = tt
  timed_telling (Want time count) s r = tt
  timed_telling (Raise to) s r = tt
  timed_telling (Give why) s r = tt
  timed_telling _ s r = absurd r

  -- each input
  counted_input : (id : SpaceId) (m : Meaning t) (i : Input) (choice : Choice) (a : At t) → IsAllowed m i choice a → Counted id (carried_mark i) a (input_after m i choice a)
  unfolding IsAllowed input_after close_after MayMove
  counted_input id m (input.Datagram time remote ecn bytes) choice a h = counted_datagram id m (record { time = time; remote = remote; mark = ecn }) bytes a
  counted_input id m (input.Timeout time) choice a h =
      holds_timeout (Counted id None) (counted_here id None) (counted_next id None) (λ x timed b may. counted_move id None x b may (timed_telling x b.state timed)) m time a
  counted_input id m (input.Transmit time max) choice a h = counted_transmit id m time max choice a h
  counted_input id m (input.Close time code reason) choice a h = closed_by id time _ a _ refl
  counted_input id m (input.Ping time) choice a h = counted_move id None (Ask a.state.keys.highest) a tt tt
  counted_input id m (input.Update time) choice a h = holds_updated m (Counted id None) (counted_here id None) (λ b may. counted_move id None (Update (fresh_now m b.state) (m.after_next b.state.lower.session)) b may tt) a
  counted_input id m (input.SendDatagram time body) choice a h = counted_move id None (Post (datagrams.Sent (datagram_limit a.state) true body)) a refl tt
  counted_input id m (input.RecvDatagram time) choice a h = counted_move id None (Post datagrams.Taken) a refl tt
  counted_input id m (input.Identifiers time given) choice a h = counted_move id None (Issue time given) a h tt
  counted_input id m i choice a h = called_input (Counted id None) (counted_here id None) (counted_next id None) (λ x b may. counted_move id None (Call x) b may tt) i choice.read a h

  -- ---- runs

  -- the ACKs of a step tell what is known, and what is known behind it are the counts of the space
  record StepCounted (id : SpaceId) (mark : Option EcnCodepoint) (x : Tally) (ds : List Did) (s' : View t) : Type 0 where
    pub told : DeedsTell id mark x ds
    pub kept : Fits (tally_since id mark x ds) (MarksOf id s'.waiting)

  step_counted : (id : SpaceId) (m : Meaning t) (k : ℕ) (s : View t) (i : Input) (x : Step) (s' : View t) (y : Tally) → IsStep m k s i x s' → Fits y (MarksOf id s.waiting) → StepCounted id (carried_mark i) y x.did s'
  unfolding called began step_after reported state_move waiting_move
  step_counted id m k s i x s' y h f =
      let a : At t = began s (time_of i) in
      let b : At t = input_after m i h.choice a in
      let counted : Counted id (carried_mark i) a b = counted_input id m i h.choice a h.allowed in
      let deeds : x.did ≡ counted.since = h.deeds ∙ counted.appended in
      let waiting : s'.waiting ≡ b.state.waiting = h.waiting in
      record {
        told = subst (DeedsTell id (carried_mark i) y) (sym deeds) (counted.told y f);
        kept = subst (λ (v : Waiting). Fits (tally_since id (carried_mark i) y x.did) (MarksOf id v)) (sym waiting)
            (subst (λ (ds : List Did). Fits (tally_since id (carried_mark i) y ds) (MarksOf id b.state.waiting)) (sym deeds) (counted.kept y f));
      }

  run_told : (id : SpaceId) (m : Meaning t) (k : ℕ) (s : View t) (is : List Input) (xs : List Step) (s' : View t) (y : Tally) → Run m k s is xs s' → Fits y (MarksOf id s.waiting) → StepsTell id y is xs
  unfolding Run
  run_told id m k s [] [] s' y r f = tt
  run_told id m k s (i ∷ is) (x ∷ xs) s' y r f =
      let step : StepCounted id (carried_mark i) y x.did r.0 = step_counted id m k s i x r.0 y r.1 f in
      (step.told, run_told id m (k + 1) r.0 is xs s' (tally_since id (carried_mark i) y x.did) r.2 step.kept)
  run_told id m k s [] (x ∷ xs) s' y r f = absurd r
  run_told id m k s (i ∷ is) [] s' y r f = absurd r

  -- the ACKs of a run tell how many packets were accepted with each mark
  pub run_each_told : (m : Meaning t) (k : ℕ) (s : View t) (is : List Input) (xs : List Step) (s' : View t) → Run m k s is xs s' → EachTold s is xs
  unfolding EachTold
  run_each_told m k s is xs s' r = λ id. run_told id m k s is xs s' (tally_of (MarksOf id s.waiting)) r (start_fits (MarksOf id s.waiting))

  -- the same of a run over the first inputs
  pub ran_each_told : (m : Meaning t) (k : ℕ) (s : View t) (is : List Input) (xs : List Step) → Ran m k s is xs → EachTold s is xs
  unfolding EachTold
  ran_each_told m k s is xs r = λ id. told_first id _ is xs (run_told id m k s (take (length xs) is) xs r.last (tally_of (MarksOf id s.waiting)) r.run (start_fits (MarksOf id s.waiting)))

  -- the empty trace
  pub none_each_told : (s : View t) (is : List Input) (xs : List Step) → xs ≡ [] → EachTold s is xs
  unfolding EachTold
  none_each_told s is xs e = subst (λ (ys : List Step). (id : SpaceId) → StepsTell id (tally_of (MarksOf id s.waiting)) is ys) (sym e) (λ id. none_told id (tally_of (MarksOf id s.waiting)) is)
