-- Where a stream offers its end, it was finished.
use Rattle.std.proofs.Common.{◌≡◌, ◌⊎◌, inl, inr, ℕ, ◌+◌, List, [], ◌∷◌, length, refl, ap, sym, ◌∙◌, subst, Bool, true, false, cond, Option, Some, None, if◌then◌else◌, take}
use Rattle.std.specs.Prelude.{◌==◌, ◌||◌, is_some}
use Rattle.std.specs.List.{list_any}
use Rattle.std.specs.Option.{option_map}
use Rattle.qc_base.specs.declared.side.Dir.{Dir}
use Rattle.qc_base.specs.declared.side.Dir.TheVariants.{Bi, Uni}
use Rattle.qc_send_stream.specs.declared.send.Part.{Part}
use Rattle.qc_send_stream.specs.declared.send.SendPart.{SendPart}
use Rattle.qc_send_stream.specs.declared.send.Standing.{Standing}
use Rattle.qc_send_stream.specs.Sending.{IsOffer, acked_standing, end_waits, end_with, finished, is_done, lost_standing, new_sending, part_acked, part_lost, part_of, part_sealed, part_written, reset_acked, reset_lost, reset_sealed, sealed_standing, was_reset}
use Rattle.qc_streams.specs.declared.control.Control.{Control}
use Rattle.qc_streams.specs.declared.control.Control.TheVariants as control
use Rattle.qc_streams.specs.declared.state.StreamsState.{StreamsState}
use Rattle.qc_streams.specs.declared.stream.Stream.{Stream}
use Rattle.qc_streams.specs.Calls.{if_known}
use Rattle.qc_streams.specs.Records.{record_of}
use Rattle.qc_streams.specs.Steps.{AllMay}
use Rattle.qc_streams.specs.Stream.{fresh_stream}
use Rattle.qc_streams.specs.StreamBytes.{IsOfferAt, IsOfferOf}
use Rattle.qc_streams.specs.Streams.{fresh_own, fresh_peer}
use Rattle.qc_streams.specs.Waits.{Step, BytesAcked, BytesLost, ControlAcked, ControlLost, ControlSealed, Finished, PartSealed, WasReset, Wrote, after, after_step}
use Rattle.qc_streams.proofs.StepAt.{AlikeIf, ComesFrom, Gone, OwnOpened, PeerOpened, SteppedAt, Stood, There, control_sent, sent_to}
use Rattle.qc_streams.proofs.SteppedLaw.{steps}
use Rattle.qc_streams.proofs.WaitLaw.{step_ok}
use Rattle.qc_streams.proofs.WaitSteps.{Holds}
use Rattle.qc_laws.proofs.HarmlessTests.{first_holds}

-- whether a step finishes the stream with an id
abbrev pub finishes : ℕ → Step → Bool
finishes id (Finished j) = j == id
finishes id _ = false

-- ---- a sending side

-- where it was finished, this holds
abbrev EndsFor : Type 0 → SendPart → Type 0
EndsFor P p = is_some p.end ≡ true → P

if_ends : (P : Type 0) (b : Bool) (q p : SendPart) → (b ≡ true → EndsFor P q) → EndsFor P p → EndsFor P (cond b q p)
if_ends P true q p changed h = changed refl
if_ends P false q p changed h = h

known_ends : (P : Type 0) (f : SendPart → SendPart) (p : SendPart) → EndsFor P (f p) → EndsFor P p → EndsFor P (if_known f p)
known_ends P f p changed h = if_ends P (is_done p) p (f p) (λ e. h) changed

-- a frame with the end changes only its standing
same_end : (f : Standing → Standing) (last : Bool) (o : Option Standing) → is_some (end_with f last o) ≡ is_some o
same_end f last None = refl
same_end f true (Some x) = refl
same_end f false (Some x) = refl

control_ends : (P : Type 0) (id : ℕ) (c : Control) (f : SendPart → SendPart) (p : SendPart) → EndsFor P (f p) → EndsFor P p → EndsFor P (control_sent id c f p)
control_ends P id (control.Reset j code size) f p changed h = if_ends P (j == id) (f p) p (λ e. changed) h
control_ends P id (control.Stop j code) f p changed h = h
control_ends P id (control.MaxData limit) f p changed h = h
control_ends P id (control.MaxStreamData j limit) f p changed h = h
control_ends P id (control.MaxStreams dir limit) f p changed h = h

-- each step: where it finishes the stream, that holds too
step_ends : (P : Type 0) (id : ℕ) (x : Step) (p : SendPart) → (finishes id x ≡ true → P) → EndsFor P p → EndsFor P (sent_to id x p)
unfolding sent_to part_written finished was_reset reset_sealed reset_lost reset_acked part_sealed part_lost part_acked
step_ends P id (Wrote j n chunk) p told h = if_ends P (j == id) (if_known (part_written (take n chunk)) p) p (λ e. known_ends P (part_written (take n chunk)) p h h) h
step_ends P id (Finished j) p told h = if_ends P (j == id) (if_known finished p) p (λ e. λ is. told e) h
step_ends P id (WasReset code j) p told h = if_ends P (j == id) (if_known (was_reset code) p) p (λ e. known_ends P (was_reset code) p h h) h
step_ends P id (ControlSealed c) p told h = control_ends P id c reset_sealed p h h
step_ends P id (ControlLost c) p told h = control_ends P id c reset_lost p h h
step_ends P id (ControlAcked c) p told h = control_ends P id c reset_acked p h h
step_ends P id (PartSealed d) p told h = if_ends P (d.id == id) _ p (λ e. λ is. h (sym (same_end sealed_standing d.part.last p.end) ∙ is)) h
step_ends P id (BytesLost j start stop last) p told h = if_ends P (j == id) _ p (λ e. λ is. h (sym (same_end lost_standing last p.end) ∙ is)) h
step_ends P id (BytesAcked j start stop last) p told h = if_ends P (j == id) _ p (λ e. λ is. h (sym (same_end acked_standing last p.end) ∙ is)) h
step_ends P id _ p told h = h

-- ---- a stream

-- the same where there is such a side, of a stream, and of the one with an id
abbrev SideEnds : Type 0 → Option SendPart → Type 0
SideEnds P None = Unit {0}
SideEnds P (Some p) = EndsFor P p

abbrev StreamEnds : Type 0 → Option Stream → Type 0
StreamEnds P None = Unit {0}
StreamEnds P (Some st) = SideEnds P st.sending

abbrev pub EndsAt : Type 0 → ℕ → StreamsState → Type 0
EndsAt P id s = StreamEnds P (record_of id s.records)

weaken_side : (P Q : Type 0) (o : Option SendPart) → (P → Q) → SideEnds P o → SideEnds Q o
weaken_side P Q None weaker h = tt
weaken_side P Q (Some p) weaker h = λ is. weaker (h is)

weaken : (P Q : Type 0) (o : Option Stream) → (P → Q) → StreamEnds P o → StreamEnds Q o
weaken P Q None weaker h = tt
weaken P Q (Some st) weaker h = weaken_side P Q st.sending weaker h

side_stepped : (P : Type 0) (id : ℕ) (x : Step) (o next : Option SendPart) → (finishes id x ≡ true → P) → AlikeIf (option_map (sent_to id x) o) next → SideEnds P o → SideEnds P next
side_stepped P id x None None told alike h = tt
side_stepped P id x None (Some q) told alike h = absurd alike
side_stepped P id x (Some p) None told alike h = tt
side_stepped P id x (Some p) (Some q) told alike h = λ is. step_ends P id x p told h (ap (λ (e : Option Standing). is_some e) (sym alike.end) ∙ is)

own_ends : (P : Type 0) (dir : Dir) (s : StreamsState) → SideEnds P (fresh_own dir s).sending
unfolding fresh_stream new_sending
own_ends P Bi s = λ is. absurd cc
own_ends P Uni s = λ is. absurd cc

peer_ends : (P : Type 0) (dir : Dir) (s : StreamsState) → SideEnds P (fresh_peer dir s).sending
unfolding fresh_stream new_sending
peer_ends P Bi s = λ is. absurd cc
peer_ends P Uni s = tt

from_ends : (P : Type 0) (id : ℕ) (s : StreamsState) (st : Stream) → EndsAt P id s → ComesFrom id s st → SideEnds P st.sending
from_ends P id s st h (Stood is) = subst (λ (o : Option Stream). StreamEnds P o) is h
from_ends P id s st h (OwnOpened dir is before) = subst (λ (z : Stream). SideEnds P z.sending) (sym is) (own_ends P dir s)
from_ends P id s st h (PeerOpened dir is before) = subst (λ (z : Stream). SideEnds P z.sending) (sym is) (peer_ends P dir s)

stepped_ends : (P : Type 0) (id : ℕ) (x : Step) (s : StreamsState) → (finishes id x ≡ true → P) → EndsAt P id s → SteppedAt id x s → EndsAt P id (after_step x s)
stepped_ends P id x s told h (Gone none why) = subst (λ (o : Option Stream). StreamEnds P o) (sym none) tt
stepped_ends P id x s told h (There st next from stepped is) =
    subst (λ (o : Option Stream). StreamEnds P o) (sym is) (side_stepped P id x st.sending next.sending told stepped.sending (from_ends P id s st h from))

-- behind steps
more_ends : (P : Type 0) (a b : Bool) → (P ⊎ (a ≡ true)) ⊎ (b ≡ true) → P ⊎ ((a || b) ≡ true)
more_ends P a b (inl (inl p)) = inl p
more_ends P true b _ = inr refl
more_ends P false b (inl (inr e)) = cc
more_ends P false b (inr e) = inr e

pub steps_end : (P : Type 0) (id : ℕ) (xs : List Step) (s : StreamsState) → AllMay xs s → Holds s → EndsAt P id s → EndsAt (P ⊎ (list_any (finishes id) xs ≡ true)) id (after xs s)
unfolding AllMay after
steps_end P id [] s may sound h = weaken P (P ⊎ (false ≡ true)) (record_of id s.records) (λ p. inl p) h
steps_end P id (x ∷ xs) s may sound h =
    let Q : Type 0 = P ⊎ (finishes id x ≡ true) in
    let once : EndsAt Q id (after_step x s) =
    stepped_ends Q id x s (λ e. inr e) (weaken P Q (record_of id s.records) (λ p. inl p) h) (steps id x s may.0.possible sound) in
    weaken (Q ⊎ (list_any (finishes id) xs ≡ true)) (P ⊎ (list_any (finishes id) (x ∷ xs) ≡ true)) (record_of id (after xs (after_step x s)).records)
    (more_ends P (finishes id x) (list_any (finishes id) xs)) (steps_end Q id xs (after_step x s) may.1 (step_ok x s may.0.possible sound) once)

-- ---- what is offered

-- whether a part has the end
abbrev has_end : Option Part → Bool
has_end None = false
has_end (Some part) = part.last

waits_ended : (e : Option Standing) (written : ℕ) → has_end (if end_waits e then Some (record { offset = written; bytes = []; last = true }) else None) ≡ true → is_some e ≡ true
waits_ended None written h = cc
waits_ended (Some x) written h = refl

part_ended : (bytes : Option (ℕ × List ℕ)) (p : SendPart) → has_end (part_of bytes p) ≡ true → is_some p.end ≡ true
part_ended (Some q) p h = first_holds (is_some p.end) (q.0 + length q.1 == p.buffer.written) h
part_ended None p h = waits_ended p.end p.buffer.written h

offer_ended : (most : ℕ) (p : SendPart) (part : Part) → IsOffer most p (Some part) → part.last ≡ true → is_some p.end ≡ true
unfolding IsOffer
offer_ended most p part offer last = by (is_some p.reset) offer.2
  where
    by : (b : Bool) → Some part ≡ (if b then None else part_of offer.0 p) → is_some p.end ≡ true
    by true is = cc
    by false is = part_ended offer.0 p (sym (ap has_end is) ∙ last)

side_offers : (P : Type 0) (o : Option SendPart) (most : ℕ) (part : Part) → SideEnds P o → IsOfferOf most o (Some part) → part.last ≡ true → P
unfolding IsOfferOf
side_offers P None most part h offer last = absurd cc
side_offers P (Some p) most part h offer last = h (offer_ended most p part offer last)

stream_offers : (P : Type 0) (o : Option Stream) (most : ℕ) (part : Part) → StreamEnds P o → IsOfferAt most o (Some part) → part.last ≡ true → P
unfolding IsOfferAt
stream_offers P None most part h offer last = absurd cc
stream_offers P (Some st) most part h offer last = side_offers P st.sending most part h offer last

-- where the end is offered, that holds
pub end_offered : (P : Type 0) (id : ℕ) (s : StreamsState) (most : ℕ) (part : Part) → EndsAt P id s → IsOfferAt most (record_of id s.records) (Some part) → part.last ≡ true → P
end_offered P id s most part h offer last = stream_offers P (record_of id s.records) most part h offer last
