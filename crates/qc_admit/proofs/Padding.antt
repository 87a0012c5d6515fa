-- The frames that are left of a payload, behind a run of PADDING.
use Rattle.std.proofs.Common.{◌≡◌, ◌<◌, ℕ, zero, suc, List, [], ◌∷◌, ◌++◌, length, replicate, refl, ap, sym, ◌∙◌, subst, Bool, true, false, Option, None, Result, Ok, Err, arith, append-nil, length-append}
use Rattle.std.specs.Prelude.{OnOk}
use Rattle.std.specs.Borrow.{Bor}
use Rattle.std.specs.declared.alloc.AllocError.{AllocError}
use Rattle.qc_base.specs.declared.side.Side.{Side}
use Rattle.qc_base.specs.declared.side.SpaceId.{SpaceId}
use Rattle.qc_base.specs.declared.side.SpaceId.TheVariants.{Initial, Handshake, «Data»}
use Rattle.qc_base.specs.declared.transport_error.TransportError.{TransportError}
use Rattle.qc_admit.specs.Behind.{course_of}
use Rattle.qc_admit.specs.Items.{IsLeft, NextIs}
use Rattle.qc_admit.specs.declared.behind.Left.{Left}
use Rattle.qc_admit.specs.declared.behind.Left.TheVariants.{End, Fault}
use Rattle.qc_frame.specs.declared.frames.FrameOf.TheVariants as frames
use Rattle.qc_frame.specs.Payload.{Item, items_of, item_view, padding_item}
use Rattle.qc_frame.specs.declared.fault.InvalidFrame.{InvalidFrame}
use Rattle.qc_frame.specs.declared.frames.TypedOf.{TypedOf}
use Rattle.qc_state.specs.declared.coming.Coming.{Coming}
use Rattle.qc_state.specs.declared.life.ConnectionError.{ConnectionError}
use Rattle.qc_state.specs.Numbers.{next_number}
use Rattle.qc_state.specs.Receiving.{Ended, Reads, applied_after, course_with, end_after, ended_by, item_after, items_after, stop_in}
use Rattle.qc_state.specs.Receiving as receiving
use Rattle.qc_state.specs.Stopping.{encoding_error_at, stopped_after}
use Rattle.qc_state.specs.Types.{Types, Meaning}
use Rattle.qc_state.specs.View.{At}
use Rattle.qc_state.proofs.OpenPackets.{ended_stays}

same_error : (e : TransportError) (type : Option ℕ) → e.code ≡ 7 → e.frame ≡ type → e ≡ encoding_error_at type
same_error e type c f = λ i. record { code = c i; frame = f i }

-- PADDING stops nothing
no_stop : (side : Side) (id : SpaceId) (next : ℕ) (skipped : Option ℕ) (type : ℕ) → stop_in side id next skipped type frames.Padding ≡ None
no_stop side Initial next skipped type = refl
no_stop side Handshake next skipped type = refl
no_stop side «Data» next skipped type = refl

-- the next item and how it is read, behind a run of PADDING that was skipped
pub next_read : (n : ℕ) (old mid : List ℕ) (rest : List Item) (item : Result (TypedOf (Bor (List ℕ))) InvalidFrame) (view : Item) → items_of old ≡ replicate n padding_item ++ items_of mid → items_of mid ≡ item_view item ∷ rest → item_view item ≡ view →
    NextIs view rest (items_of old)
next_read n old mid rest item view skipped steps is = (n, skipped ∙ ap (λ (items : List Item). replicate n padding_item ++ items) (steps ∙ ap (λ (x : Item). x ∷ rest) is))

-- nothing is next
pub none_read : (n : ℕ) (old mid : List ℕ) → items_of old ≡ replicate n padding_item ++ items_of mid → items_of mid ≡ [] → IsLeft End (items_of old)
none_read n old mid skipped none = (n, skipped ∙ ap (λ (items : List Item). replicate n padding_item ++ items) none ∙ append-nil (replicate n padding_item))

-- behind the next item fewer are left
pub fewer_left : (item : Item) (rest old : List Item) → NextIs item rest old → length rest < length old
fewer_left item rest old next = omega (arith, ap length next.1, length-append (replicate next.0 padding_item) (item ∷ rest))

module _ {t : Types} (m : Meaning t) (coming : Coming) (space : SpaceId) where
  -- what frames make of what those before them made
  abbrev rest_after : List Item → receiving.Course t → receiving.Course t
  rest_after items course = items_after m coming space items course

  padding_one : (course : receiving.Course t) → item_after m coming space padding_item course ≡ course
  unfolding applied_after
  padding_one (Reads close a) =
      ap (λ (stop : Option TransportError). course_with close (ended_by coming.time stop (applied_after m coming space frames.Padding) a)) (no_stop a.state.setup.fixed.side space (next_number a.state.numbers space) a.state.numbers.filter.last 0)
  padding_one (Ended a) = refl

  padding_does_nothing : (n : ℕ) (items : List Item) (course : receiving.Course t) → rest_after (replicate n padding_item ++ items) course ≡ rest_after items course
  padding_does_nothing zero items course = refl
  padding_does_nothing (suc n) items course = ap (λ (c : receiving.Course t). rest_after (replicate n padding_item ++ items) c) (padding_one course) ∙ padding_does_nothing n items course

  -- what all items make, the next one and those behind it make
  next_made : (item : Item) (rest old : List Item) (course : receiving.Course t) → NextIs item rest old → rest_after rest (item_after m coming space item course) ≡ rest_after old course
  next_made item rest old course next = sym (padding_does_nothing next.0 (item ∷ rest) course) ∙ ap (λ (items : List Item). rest_after items course) (sym next.1)

  -- nothing is left
  pub none_more : (left : Left) (old : List Item) (close : Option ConnectionError) (a : At t) (target : receiving.Course t) → IsLeft left old → left ≡ End → rest_after old (Reads close a) ≡ target → Reads close a ≡ target
  none_more left old close a target none is h = none_by (subst (λ (x : Left). IsLeft x old) is none)
    where
      none_by : IsLeft End old → Reads close a ≡ target
      none_by none =
          sym (padding_does_nothing none.0 [] (Reads close a)) ∙ ap (λ (items : List Item). rest_after items (Reads close a)) (append-nil (replicate none.0 padding_item) ∙ sym none.1) ∙ h

  -- bytes that are no frame are left
  pub fault_more : (left : Left) (old : List Item) (fault : InvalidFrame) (error : TransportError) (close : Option ConnectionError) (a b : At t) (target : receiving.Course t) →
      IsLeft left old → left ≡ Fault fault → error.code ≡ 7 → error.frame ≡ fault.ty → b ≡ stopped_after coming.time error a → rest_after old (Reads close a) ≡ target → Ended b ≡ target
  fault_more left old fault error close a b target none is is_code frame stops h = fault_by (subst (λ (x : Left). IsLeft x old) is none)
    where
      fault_by : IsLeft (Fault fault) old → Ended b ≡ target
      fault_by none =
          ap (λ (x : At t). Ended x) (stops ∙ ap (λ (x : TransportError). stopped_after coming.time x a) (same_error error fault.ty is_code frame))
          ∙ sym (ended_stays m coming space none.0 (stopped_after coming.time (encoding_error_at fault.ty) a))
          ∙ next_made (Err fault) none.0 old (Reads close a) none.1 ∙ h

  -- a frame is left, behind which the others are next
  pub one_left : (item : Item) (rest old : List Item) (goes : Bool) (close next : Option ConnectionError) (a b : At t) (target : receiving.Course t) → NextIs item rest old → goes ≡ true →
      course_of goes next b ≡ item_after m coming space item (Reads close a) → rest_after old (Reads close a) ≡ target → rest_after rest (Reads next b) ≡ target
  one_left item rest old goes close next a b target is e leaves h =
      ap (λ (c : receiving.Course t). rest_after rest c) (ap (λ (x : Bool). course_of x next b) (sym e) ∙ leaves) ∙ next_made item rest old (Reads close a) is ∙ h

  -- a frame ended the packet
  pub ended_left : (item : Item) (rest old : List Item) (goes : Bool) (close next : Option ConnectionError) (a b : At t) (target : receiving.Course t) → NextIs item rest old → goes ≡ false →
      course_of goes next b ≡ item_after m coming space item (Reads close a) → rest_after old (Reads close a) ≡ target → Ended b ≡ target
  ended_left item rest old goes close next a b target is e leaves h =
      sym (ended_stays m coming space rest b) ∙ ap (λ (c : receiving.Course t). rest_after rest c) (ap (λ (x : Bool). course_of x next b) (sym e) ∙ leaves) ∙ next_made item rest old (Reads close a) is ∙ h

  -- behind the last frame
  pub end_reached : (r : Result (Unit {0}) AllocError) (goes : Bool) (close : Option ConnectionError) (a b : At t) (course : receiving.Course t) → goes ≡ true → course_of goes close a ≡ course → OnOk r (b ≡ end_after m coming space (Reads close a)) →
      OnOk r (b ≡ end_after m coming space course)
  end_reached (Ok done) goes close a b course e is h = h ∙ ap (λ (c : receiving.Course t). end_after m coming space c) (ap (λ (x : Bool). course_of x close a) (sym e) ∙ is)
  end_reached (Err x) goes close a b course e is h = tt

  -- nothing is done behind the frame that ended the packet
  pub end_left : (goes : Bool) (close : Option ConnectionError) (a : At t) (course : receiving.Course t) → goes ≡ false → course_of goes close a ≡ course → a ≡ end_after m coming space course
  end_left goes close a course e is = ap (λ (c : receiving.Course t). end_after m coming space c) (ap (λ (x : Bool). course_of x close a) (sym e) ∙ is)
