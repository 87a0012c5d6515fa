-- Frames about connection ids that are sealed, are in flight, and are lost: which ids they tell, and which numbers they name.
use Rattle.std.proofs.Common.{◌≡◌, ℕ, ◌<◌, ◌≤◌, ◌^◌, Bool, true, false, List, [], ◌∷◌, ◌++◌, Some, None, nat_lt, refl, sym, subst, arith, if◌then◌else◌, Contains}
use Rattle.std.proofs.lemmas.List.Elements.{All-cons, All-head, All-nil, All-tail}
use Rattle.std.proofs.lemmas.List.Sorted.{All-permutation}
use Rattle.std.specs.List.{All}
use Rattle.std.specs.Prelude.{IsPermutation}
use Rattle.qc_base.specs.declared.ids.IssuedCid.{IssuedCid}
use Rattle.qc_cids.specs.Cids.{can_be_told, next_retired, next_told, retired_first, told_first, told_with}
use Rattle.qc_cids.specs.Steps.{after, after_step}
use Rattle.qc_cids.specs.declared.connection_ids.ConnectionIds.{ConnectionIds}
use Rattle.qc_flight.specs.Packets.{Entry, first_of}
use Rattle.qc_frame.specs.Frame.{FrameValue}
use Rattle.qc_frame.specs.declared.frames.FrameOf.TheVariants as frames
use Rattle.qc_frame.specs.declared.frames.NewConnectionId.{NewConnectionId}
use Rattle.qc_ids.specs.CidQueue.{active_seq_of}
use Rattle.qc_state.specs.Flight.{kept_frames, kept_of}
use Rattle.qc_state.specs.Ids.{AllNext, IsNext, again_ids, lost_cid, lost_cids, lost_ids, sealed_cid, sealed_cids, told_cid}
use Rattle.qc_state.proofs.IdsSettled.{after_append}
use Rattle.qc_laws.specs.CidLaws.{AllNameBelow, AreIssued}
use Rattle.qc_laws.proofs.CidQueues.{AllBelow, AllIssued, AreFine, Fine, Goes, steps_go}

module _ (I : IssuedCid → Type 0) where
  -- a NEW_CONNECTION_ID tells an id that was issued, a RETIRE_CONNECTION_ID names a number below this one
  abbrev pub IsTold : ℕ → FrameValue → Type 0
  IsTold n (frames.NewConnectionId new) = I (told_cid new)
  IsTold n (frames.RetireConnectionId k) = k < n
  IsTold n _ = Unit {0}

  abbrev pub AreTold : ℕ → List FrameValue → Type 0
  AreTold n [] = Unit {0}
  AreTold n (f ∷ fs) = IsTold n f × AreTold n fs

  told_more : (n m : ℕ) (f : FrameValue) → n ≤ m → IsTold n f → IsTold m f
  told_more n m (frames.NewConnectionId new) le h = h
  told_more n m (frames.RetireConnectionId k) le h = let below : k < n = h in omega arith
  told_more n m _ le h = tt

  pub all_more : (n m : ℕ) (fs : List FrameValue) → n ≤ m → AreTold n fs → AreTold m fs
  all_more n m [] le h = tt
  all_more n m (f ∷ fs) le h = (told_more n m f le h.0, all_more n m fs le h.1)

  pub told_append : (n : ℕ) (fs gs : List FrameValue) → AreTold n fs → AreTold n gs → AreTold n (fs ++ gs)
  told_append n [] gs h g = g
  told_append n (f ∷ fs) gs h g = (h.0, told_append n fs gs h.1 g)

  told_kept_of : (n : ℕ) (f : FrameValue) → IsTold n f → AreTold n (kept_of f)
  told_kept_of n frames.HandshakeDone h = (tt, tt)
  told_kept_of n (frames.Crypto offset body) h = (tt, tt)
  told_kept_of n (frames.NewToken token) h = (tt, tt)
  told_kept_of n (frames.Ack ack) h = (tt, tt)
  told_kept_of n (frames.ResetStream id code size) h = (tt, tt)
  told_kept_of n (frames.StopSending id code) h = (tt, tt)
  told_kept_of n (frames.MaxData limit) h = (tt, tt)
  told_kept_of n (frames.MaxStreamData id limit) h = (tt, tt)
  told_kept_of n (frames.MaxStreams dir limit) h = (tt, tt)
  told_kept_of n (frames.NewConnectionId new) h = (h, tt)
  told_kept_of n (frames.RetireConnectionId k) h = (h, tt)
  told_kept_of n _ h = tt

  -- what is kept of frames
  pub told_kept : (n : ℕ) (fs : List FrameValue) → AreTold n fs → AreTold n (kept_frames fs)
  told_kept n [] h = tt
  told_kept n (f ∷ fs) h = told_append n (kept_of f) (kept_frames fs) (told_kept_of n f h.0) (told_kept n fs h.1)

  -- ---- packets in flight

  abbrev pub Carry : ℕ → List Entry → Type 0
  Carry n [] = Unit {0}
  Carry n (e ∷ es) = AreTold n e.1.frames × Carry n es

  pub carry_more : (n m : ℕ) (es : List Entry) → n ≤ m → Carry n es → Carry m es
  carry_more n m [] le h = tt
  carry_more n m (e ∷ es) le h = (all_more n m e.1.frames le h.0, carry_more n m es le h.1)

  pub carry_append : (n : ℕ) (es fs : List Entry) → Carry n es → Carry n fs → Carry n (es ++ fs)
  carry_append n [] fs h g = g
  carry_append n (e ∷ es) fs h g = (h.0, carry_append n es fs h.1 g)

  carry_front : (n : ℕ) (es fs : List Entry) → Carry n (es ++ fs) → Carry n es
  carry_front n [] fs h = tt
  carry_front n (e ∷ es) fs h = (h.0, carry_front n es fs h.1)

  carry_behind : (n : ℕ) (es fs : List Entry) → Carry n (es ++ fs) → Carry n fs
  carry_behind n [] fs h = h
  carry_behind n (e ∷ es) fs h = carry_behind n es fs h.1

  abbrev Holds : ℕ → Entry → Type 0
  Holds n e = AreTold n e.1.frames

  to_all : (n : ℕ) (es : List Entry) → Carry n es → All (Holds n) es
  to_all n [] h = All-nil (Holds n)
  to_all n (e ∷ es) h = All-cons (Holds n) e es h.0 (to_all n es h.1)

  from_all : (n : ℕ) (es : List Entry) → All (Holds n) es → Carry n es
  from_all n [] h = tt
  from_all n (e ∷ es) h = (All-head (Holds n) e es h, from_all n es (All-tail (Holds n) e es h))

  -- those that were in flight are settled, or are in flight still
  pub carry_settled : (n : ℕ) (flight acked lost flight' : List Entry) → IsPermutation flight (acked ++ (lost ++ flight')) → Carry n flight → Carry n lost × Carry n flight'
  carry_settled n flight acked lost flight' once h =
      let all : Carry n (acked ++ (lost ++ flight')) = from_all n (acked ++ (lost ++ flight')) (All-permutation (Holds n) flight (acked ++ (lost ++ flight')) once (to_all n flight h)) in
      let behind : Carry n (lost ++ flight') = carry_behind n acked (lost ++ flight') all in
      (carry_front n lost flight' behind, carry_behind n lost flight' behind)

  pub names_below : (n : ℕ) (fs : List FrameValue) → AreTold n fs → AllNameBelow n fs
  names_below n [] h = tt
  names_below n (frames.RetireConnectionId k ∷ fs) h = (h.0, names_below n fs h.1)
  names_below n (_ ∷ fs) h = (tt, names_below n fs h.1)

module _ (K : ℕ → List ℕ → Type 0) (I : IssuedCid → Type 0) where
  -- ---- frames that are sealed

  told_by : (floor : ℕ) (cs : List IssuedCid) (new : NewConnectionId) → told_first floor cs ≡ Some new → AllIssued I cs → I (told_cid new)
  told_by floor [] new is h = absurd cc
  told_by floor (c ∷ cs) new is h = first_by (can_be_told c) is
    where
      first_by : (b : Bool) → (if b then Some (told_with floor c) else None) ≡ Some new → I (told_cid new)
      first_by true e = let same : told_with floor c ≡ new = cc in subst (λ (x : NewConnectionId). I (told_cid x)) same h.0
      first_by false e = absurd cc

  retired_by : (n : ℕ) (ks : List ℕ) (k : ℕ) → retired_first ks ≡ Some k → AllBelow n ks → k < n
  retired_by n [] k is h = absurd cc
  retired_by n (j ∷ js) k is h = first_by (nat_lt j (2 ^ 62)) is
    where
      first_by : (b : Bool) → (if b then Some j else None) ≡ Some k → k < n
      first_by true e = let same : j ≡ k = cc in subst (λ (x : ℕ). x < n) same h.0
      first_by false e = absurd cc

  -- a frame that goes next
  next_told_by : (f : FrameValue) (s : ConnectionIds) → IsNext f s → Fine K I s → IsTold I (active_seq_of s.remote) f
  unfolding next_told next_retired
  next_told_by (frames.NewConnectionId new) s is h = told_by s.local.retire_prior_to s.unsent new is h.told
  next_told_by (frames.RetireConnectionId k) s is h = retired_by (active_seq_of s.remote) s.retired k is h.below
  next_told_by _ s is h = tt

  sealed_fine : (f : FrameValue) (s : ConnectionIds) → AreFine K I (sealed_cid f) s
  sealed_fine (frames.NewConnectionId new) s = (tt, tt)
  sealed_fine (frames.RetireConnectionId k) s = (tt, tt)
  sealed_fine _ s = tt

  sealed_active : (f : FrameValue) (s : ConnectionIds) → active_seq_of (after (sealed_cid f) s).remote ≡ active_seq_of s.remote
  unfolding after after_step
  sealed_active (frames.NewConnectionId new) s = refl
  sealed_active (frames.RetireConnectionId k) s = refl
  sealed_active _ s = refl

  -- frames of a packet, each of which goes next
  pub all_told : (fs : List FrameValue) (s : ConnectionIds) → AllNext fs s → Fine K I s → AreTold I (active_seq_of s.remote) fs × Goes K I s (after (sealed_cids fs) s)
  unfolding AllNext sealed_cids
  all_told [] s next h = (tt, steps_go K I [] s tt h)
  all_told (f ∷ fs) s next h =
      let mid : ConnectionIds = after (sealed_cid f) s in
      let first : Goes K I s mid = steps_go K I (sealed_cid f) s (sealed_fine f s) h in
      let more = all_told fs mid next.1 first.fine in
      let one = first.later in
      let two = more.1.later in (
        (next_told_by f s next.0 h, subst (λ (n : ℕ). AreTold I n fs) (sealed_active f s) more.0),
        subst (λ (x : ConnectionIds). Goes K I s x) (sym (after_append (sealed_cid f) (sealed_cids fs) s)) (record { fine = more.1.fine; later = omega arith }),
      )

  -- ---- frames that are lost

  lost_one : (f : FrameValue) (s : ConnectionIds) → IsTold I (active_seq_of s.remote) f → AreFine K I (lost_cid f) s
  lost_one (frames.NewConnectionId new) s h = (h, tt)
  lost_one (frames.RetireConnectionId k) s h = (h, tt)
  lost_one _ s h = tt

  pub lost_goes : (fs : List FrameValue) (s : ConnectionIds) → AreTold I (active_seq_of s.remote) fs → Fine K I s → Goes K I s (after (lost_cids fs) s)
  unfolding lost_cids
  lost_goes [] s told h = steps_go K I [] s tt h
  lost_goes (f ∷ fs) s told h =
      let mid : ConnectionIds = after (lost_cid f) s in
      let first : Goes K I s mid = steps_go K I (lost_cid f) s (lost_one f s told.0) h in
      let more : Goes K I mid (after (lost_cids fs) mid) = lost_goes fs mid (all_more I (active_seq_of s.remote) (active_seq_of mid.remote) fs first.later told.1) first.fine in
      let one = first.later in
      let two = more.later in
      subst (λ (x : ConnectionIds). Goes K I s x) (sym (after_append (lost_cid f) (lost_cids fs) s)) (record { fine = more.fine; later = omega arith })

  -- packets are lost
  pub packets_go : (es : List Entry) (s : ConnectionIds) → Carry I (active_seq_of s.remote) es → Fine K I s → Goes K I s (after (lost_ids es) s)
  unfolding lost_ids
  packets_go [] s told h = steps_go K I [] s tt h
  packets_go (e ∷ es) s told h =
      let mid : ConnectionIds = after (lost_cids e.1.frames) s in
      let first : Goes K I s mid = lost_goes e.1.frames s told.0 h in
      let more : Goes K I mid (after (lost_ids es) mid) = packets_go es mid (carry_more I (active_seq_of s.remote) (active_seq_of mid.remote) es first.later told.1) first.fine in
      let one = first.later in
      let two = more.later in
      subst (λ (x : ConnectionIds). Goes K I s x) (sym (after_append (lost_cids e.1.frames) (lost_ids es) s)) (record { fine = more.fine; later = omega arith })

  -- the frames of the oldest packet wait again
  first_told : (n : ℕ) (es : List Entry) (s : ConnectionIds) → n ≡ active_seq_of s.remote → Carry I n es → Fine K I s → Goes K I s (after (again_ids (first_of es)) s)
  first_told n [] s same h fine = steps_go K I [] s tt fine
  first_told n (e ∷ es) s same h fine = lost_goes e.1.frames s (subst (λ (k : ℕ). AreTold I k e.1.frames) same h.0) fine

  pub again_goes : (es : List Entry) (s : ConnectionIds) → Carry I (active_seq_of s.remote) es → Fine K I s → Goes K I s (after (again_ids (first_of es)) s)
  again_goes es s h fine = first_told (active_seq_of s.remote) es s refl h fine

pub are_issued : (ids : List IssuedCid) (n : ℕ) (fs : List FrameValue) → AreTold (λ c. Contains ids c) n fs → AreIssued ids fs
are_issued ids n [] h = tt
are_issued ids n (frames.NewConnectionId new ∷ fs) h = (h.0, are_issued ids n fs h.1)
are_issued ids n (_ ∷ fs) h = (tt, are_issued ids n fs h.1)

-- told among more ids, too
module _ (I J : IssuedCid → Type 0) (issued : (c : IssuedCid) → I c → J c) where
  more_frame : (n : ℕ) (f : FrameValue) → IsTold I n f → IsTold J n f
  more_frame n (frames.NewConnectionId new) h = issued (told_cid new) h
  more_frame n (frames.RetireConnectionId k) h = h
  more_frame n _ h = tt

  pub more_told : (n : ℕ) (fs : List FrameValue) → AreTold I n fs → AreTold J n fs
  more_told n [] h = tt
  more_told n (f ∷ fs) h = (more_frame n f h.0, more_told n fs h.1)

  pub more_carry : (n : ℕ) (es : List Entry) → Carry I n es → Carry J n es
  more_carry n [] h = tt
  more_carry n (e ∷ es) h = (more_told n e.1.frames h.0, more_carry n es h.1)
