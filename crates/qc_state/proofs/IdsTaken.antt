-- The frames about connection ids that this end takes: each is the one that goes next, and they fit into the room.
use Rattle.std.proofs.Common.{◌≡◌, ℕ, ◌+◌, ◌-◌, ◌^◌, ◌<◌, ◌≤◌, List, [], ◌∷◌, ◌++◌, length, refl, ap, sym, ◌∙◌, subst, Bool, true, false, nat_lt, ◌&&◌, ◌||◌, if◌then◌else◌, None, Some, arith, append_assoc, append-nil}
use Rattle.std.proofs.lemmas.Bool.Decides.{nat_tests}
use Rattle.qc_base.specs.Varint.{varint}
use Rattle.qc_base.specs.declared.ids.IssuedCid.{IssuedCid}
use Rattle.qc_cids.specs.Cids.{next_retired, next_told, retired_first, told_first, told_with}
use Rattle.qc_cids.specs.Steps.{Step, RetireSealed, TellSealed, after, after_step}
use Rattle.qc_cids.specs.declared.connection_ids.ConnectionIds.{ConnectionIds}
use Rattle.qc_frame.specs.Frame.{FrameValue}
use Rattle.qc_frame.specs.FrameFits.{Fits}
use Rattle.qc_frame.specs.FrameSpelling.{frames_spelling, spelling}
use Rattle.qc_frame.specs.declared.frames.FrameOf.TheVariants as frames
use Rattle.qc_frame.specs.declared.frames.NewConnectionId.{NewConnectionId}
use Rattle.qc_frame.proofs.Lengths.{length-new_connection_id, length-retire_connection_id}
use Rattle.qc_state.specs.Ids.{AllNext, sealed_cids}
use Rattle.qc_state.specs.Offers.{ids_offer}
use Rattle.std.specs.Option.{is_some}
use Rattle.qc_state.specs.Taking.{AreOfIds, TakesIds}
use Rattle.qc_state.proofs.IdSteps.{cids_append, next_append}
use Rattle.qc_state.proofs.IdsSettled.{after_append}
use Rattle.qc_state.proofs.StreamsTaken.{spelled_append}

-- ---- which frames go next

-- an id that can be told has a number that fits into its field, and bytes
told_by : (floor : ℕ) (c : IssuedCid) (a b : Bool) (new : NewConnectionId) → nat_lt c.sequence (2 ^ 62) ≡ a → nat_lt 0 (length c.id) ≡ b → (if a && b then Some (told_with floor c) else None) ≡ Some new →
    (new.sequence < 2 ^ 62) × (new.retire_prior_to ≤ new.sequence) × (0 < length new.id)
told_by floor c true true new small some is =
    let same : told_with floor c ≡ new = cc in
    subst (λ (x : NewConnectionId). (x.sequence < 2 ^ 62) × (x.retire_prior_to ≤ x.sequence) × (0 < length x.id)) same (grind (arith, nat_tests), omega arith, grind (arith, nat_tests))
told_by floor c true false new small some is = absurd (cc)
told_by floor c false b new small some is = absurd (cc)

first_told : (floor : ℕ) (cs : List IssuedCid) (new : NewConnectionId) → told_first floor cs ≡ Some new → (new.sequence < 2 ^ 62) × (new.retire_prior_to ≤ new.sequence) × (0 < length new.id)
first_told floor [] new is = absurd (cc)
first_told floor (c ∷ cs) new is = told_by floor c _ _ new refl refl is

-- so the frame that tells it has room for them
pub told_fits : (s : ConnectionIds) (new : NewConnectionId) → next_told s ≡ Some new → length new.id ≤ 20 → length new.reset_token ≡ 16 → Fits (frames.NewConnectionId new)
unfolding next_told Fits
told_fits s new is short token =
    let facts : (new.sequence < 2 ^ 62) × (new.retire_prior_to ≤ new.sequence) × (0 < length new.id) = first_told s.local.retire_prior_to s.unsent new is in
    (facts.0, facts.1, facts.2, short, token)

-- a number that is to be retired fits into its field
retired_by : (n m : ℕ) (b : Bool) → nat_lt n (2 ^ 62) ≡ b → (if b then Some n else None) ≡ Some m → m < 2 ^ 62
retired_by n m true small is =
    let same : n ≡ m = cc in
    subst (λ (k : ℕ). k < 2 ^ 62) same (grind (arith, nat_tests))
retired_by n m false small is = absurd (cc)

first_retired : (ns : List ℕ) (n : ℕ) → retired_first ns ≡ Some n → n < 2 ^ 62
first_retired [] n is = absurd (cc)
first_retired (m ∷ ns) n is = retired_by m n _ refl is

pub retired_fits : (s : ConnectionIds) (n : ℕ) → next_retired s ≡ Some n → Fits (frames.RetireConnectionId n)
unfolding next_retired Fits
retired_fits s n is = first_retired s.retired n is

-- ---- frames about ids, one behind the other

are_ids_both : (fs gs : List FrameValue) → AreOfIds fs → AreOfIds gs → AreOfIds (fs ++ gs)
are_ids_both [] gs h k = k
are_ids_both (frames.NewConnectionId new ∷ fs) gs h k = (h.0, are_ids_both fs gs h.1 k)
are_ids_both (frames.RetireConnectionId sequence ∷ fs) gs h k = (h.0, are_ids_both fs gs h.1 k)
are_ids_both (_ ∷ fs) gs h k = absurd h

-- none is taken
pub takes_no_cid : (room : ℕ) (d : ConnectionIds) (fs : List FrameValue) → TakesIds room d d fs fs room
unfolding sealed_cids AllNext after
takes_no_cid room d fs = record { own = []; are = tt; next = tt; told = refl; list = sym (append-nil fs); fits = omega arith }

-- frames are taken, and more behind them
pub takes_ids_both : (room left left' : ℕ) (d d1 d2 : ConnectionIds) (fs gs hs : List FrameValue) → TakesIds room d d1 fs gs left → TakesIds left d1 d2 gs hs left' → TakesIds room d d2 fs hs left'
takes_ids_both room left left' d d1 d2 fs gs hs first behind =
    record {
      own = first.own ++ behind.own;
      are = are_ids_both first.own behind.own first.are behind.are;
      next = next_append first.own behind.own d first.next (subst (λ (x : ConnectionIds). AllNext behind.own x) first.told behind.next);
      told = behind.told ∙ ap (λ (x : ConnectionIds). after (sealed_cids behind.own) x) first.told ∙ sym (ap (λ (xs : List Step). after xs d) (cids_append first.own behind.own) ∙ after_append (sealed_cids first.own) (sealed_cids behind.own) d);
      list = behind.list ∙ ap (λ (x : List FrameValue). x ++ behind.own) first.list ∙ append_assoc fs first.own behind.own;
      fits = omega (arith, spelled_append first.own behind.own, first.fits, behind.fits);
    }

-- one is taken
takes_told : (left : ℕ) (d d1 : ConnectionIds) (fs gs : List FrameValue) (new : NewConnectionId) → next_told d ≡ Some new → Fits (frames.NewConnectionId new) → length (spelling (frames.NewConnectionId new)) ≤ left →
    d1 ≡ after_step (TellSealed new.sequence) d → gs ≡ fs ++ frames.NewConnectionId new ∷ [] → TakesIds left d d1 fs gs (left - length (spelling (frames.NewConnectionId new)))
unfolding sealed_cids AllNext after
takes_told left d d1 fs gs new is numbers fits leads list =
    let f : FrameValue = frames.NewConnectionId new in
    let whole : length (frames_spelling (f ∷ [])) ≡ length (spelling f) = ap length (append-nil (spelling f)) in
    record { own = f ∷ []; are = (numbers, tt); next = (is, tt); told = leads; list = list; fits = omega (arith, whole, fits) }

takes_retired : (left : ℕ) (d d1 : ConnectionIds) (fs gs : List FrameValue) (n : ℕ) → next_retired d ≡ Some n → length (spelling (frames.RetireConnectionId n)) ≤ left → d1 ≡ after_step (RetireSealed n) d →
    gs ≡ fs ++ frames.RetireConnectionId n ∷ [] → TakesIds left d d1 fs gs (left - length (spelling (frames.RetireConnectionId n)))
unfolding sealed_cids AllNext after
takes_retired left d d1 fs gs n is fits leads list =
    let f : FrameValue = frames.RetireConnectionId n in
    let whole : length (frames_spelling (f ∷ [])) ≡ length (spelling f) = ap length (append-nil (spelling f)) in
    record { own = f ∷ []; are = (retired_fits d n is, tt); next = (is, tt); told = leads; list = list; fits = omega (arith, whole, fits) }

-- one more is
pub told_taken : (room left : ℕ) (d d1 d2 : ConnectionIds) (fs gs hs : List FrameValue) (new : NewConnectionId) → TakesIds room d d1 fs gs left → next_told d1 ≡ Some new → Fits (frames.NewConnectionId new) →
    length (spelling (frames.NewConnectionId new)) ≤ left → d2 ≡ after_step (TellSealed new.sequence) d1 → hs ≡ gs ++ frames.NewConnectionId new ∷ [] → TakesIds room d d2 fs hs (left - length (spelling (frames.NewConnectionId new)))
told_taken room left d d1 d2 fs gs hs new before is numbers fits leads list = takes_ids_both room left _ d d1 d2 fs gs hs before (takes_told left d1 d2 gs hs new is numbers fits leads list)

pub retired_taken : (room left : ℕ) (d d1 d2 : ConnectionIds) (fs gs hs : List FrameValue) (n : ℕ) → TakesIds room d d1 fs gs left → next_retired d1 ≡ Some n → length (spelling (frames.RetireConnectionId n)) ≤ left →
    d2 ≡ after_step (RetireSealed n) d1 → hs ≡ gs ++ frames.RetireConnectionId n ∷ [] → TakesIds room d d2 fs hs (left - length (spelling (frames.RetireConnectionId n)))
retired_taken room left d d1 d2 fs gs hs n before is fits leads list = takes_ids_both room left _ d d1 d2 fs gs hs before (takes_retired left d1 d2 gs hs n is fits leads list)

-- ---- how many bytes they have

pub told_size : (new : NewConnectionId) → Fits (frames.NewConnectionId new) → length (spelling (frames.NewConnectionId new)) ≡ 18 + length (varint new.sequence) + length (varint new.retire_prior_to) + length new.id
unfolding Fits
told_size new fits = omega (arith, length-new_connection_id new, fits.4)

pub retired_size : (n : ℕ) → length (spelling (frames.RetireConnectionId n)) ≡ 1 + length (varint n)
retired_size n = length-retire_connection_id n

-- ---- nothing is left

-- a number that is retired leaves the ids that are to be told
pub told_stays : (n : ℕ) (s : ConnectionIds) → next_told (after_step (RetireSealed n) s) ≡ next_told s
unfolding next_told after_step
told_stays n s = refl

-- where neither is left that has room, none is
pub none_left : (more left : ℕ) (d1 d2 : ConnectionIds) (gs hs : List FrameValue) → (64 ≤ more → next_told d1 ≡ None) → TakesIds more d1 d2 gs hs left → (64 ≤ left → next_retired d2 ≡ None) → next_told d2 ≡ next_told d1 →
    64 ≤ left → ids_offer d2 ≡ false
none_left more left d1 d2 gs hs told takes retired rest enough =
    λ i. is_some ((rest ∙ told (omega (arith, takes.fits, enough))) i) || is_some ((retired enough) i)
