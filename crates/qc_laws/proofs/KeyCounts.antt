-- Each key counts the packets that are sealed under it, over the steps of the 1-RTT keys; so none seals more than it may.
use Rattle.std.proofs.Common.{◌≡◌, ℕ, ◌+◌, ◌≤◌, ◌<◌, List, [], ◌∷◌, ◌++◌, refl, ap, sym, ◌∙◌, subst, Bool, true, false, Option, Some, None, if◌then◌else◌, append_assoc, append-nil, arith}
use Rattle.std.proofs.lemmas.Bool.Decides.{nat_tests}
use Rattle.std.specs.Prelude.{min, nat_eq, nat_le}
use Rattle.qc_base.specs.Time.{plus}
use Rattle.qc_rings.specs.Keyed.{keyed_acked, keyed_discarded, keyed_in, keyed_opened, keyed_sealed, keyed_updated}
use Rattle.qc_rings.specs.Ring.{Dropped, after_acked, after_discard, after_opened, after_sealed, after_update, has_floor, is_from, may_update}
use Rattle.qc_rings.specs.declared.which.Which.{Which}
use Rattle.qc_rings.specs.declared.which.Which.TheVariants.{Current, Next, Previous}
use Rattle.qc_state.specs.declared.keys.Fresh.{Fresh}
use Rattle.qc_state.specs.declared.keys.OneRttKeys.{OneRttKeys}
use Rattle.qc_state.specs.Keys.{epoch_with, reaches_limit, ring_acked, ring_discarded, ring_opened, ring_updated, ring_usage, ring_used, with_ring}
use Rattle.qc_laws.specs.UpdateLaws.{Acknowledged, AllMay, AreCounted, Discarded, EachMaySeal, EpochsRise, Given, KeyStep, MaySealMore, MayStep, NoneLater, Opened, Sealed, Updated, key_step, key_steps, sealed_by, sealed_in}
use Rattle.qc_laws.proofs.KeyEpochs.{step_held, steps_rise}

-- ---- packets

-- one more of this epoch
one_more : (epoch : ℕ) (n : ℕ) (ps : List (ℕ × ℕ)) → sealed_in epoch (ps ++ (n, epoch) ∷ []) ≡ sealed_in epoch ps + 1
one_more epoch n [] = one_here (nat_eq epoch epoch) refl
  where
    one_here : (b : Bool) → nat_eq epoch epoch ≡ b → (if b then 1 else 0) + 0 ≡ 0 + 1
    one_here true e = refl
    one_here false e = absurd (grind (arith, nat_tests, e))
one_more epoch n (p ∷ ps) = omega (arith, one_more epoch n ps)

one_later : (epoch : ℕ) (n : ℕ) (ps : List (ℕ × ℕ)) → NoneLater epoch ps → NoneLater epoch (ps ++ (n, epoch) ∷ [])
one_later epoch n [] h = (omega arith, tt)
one_later epoch n (p ∷ ps) h = (h.0, one_later epoch n ps h.1)

-- in a later epoch none was sealed
later_none : (epoch later : ℕ) (ps : List (ℕ × ℕ)) → epoch < later → NoneLater epoch ps → sealed_in later ps ≡ 0
later_none epoch later [] above h = refl
later_none epoch later (p ∷ ps) above h = none_by (nat_eq p.1 later) refl (later_none epoch later ps above h.1)
  where
    none_by : (b : Bool) → nat_eq p.1 later ≡ b → sealed_in later ps ≡ 0 → (if b then 1 else 0) + sealed_in later ps ≡ 0
    none_by true e rest = absurd (grind (arith, nat_tests, e, above, h.0))
    none_by false e rest = omega (arith, rest)

none_later : (epoch later : ℕ) (ps : List (ℕ × ℕ)) → epoch ≤ later → NoneLater epoch ps → NoneLater later ps
none_later epoch later [] above h = tt
none_later epoch later (p ∷ ps) above h = (omega (arith, above, h.0), none_later epoch later ps above h.1)

-- the epochs of packets lie between these
rise_most : (from upto : ℕ) (ps : List (ℕ × ℕ)) → EpochsRise from upto ps → from ≤ upto
rise_most from upto [] h = h
rise_most from upto (p ∷ ps) h = omega (arith, h.0, rise_most p.1 upto ps h.1)

-- ---- counts

-- one more is counted
pub plus_one : (x count : ℕ) → count ≡ min x 18446744073709551615 → plus count 1 ≡ min (x + 1) 18446744073709551615
plus_one x count e = grind (arith, e)

-- a count below a limit of 64 bits is exact
below_limit : (x count limit : ℕ) → count ≡ min x 18446744073709551615 → nat_le limit (count + 0) ≡ false → limit ≤ 18446744073709551615 → x < limit
below_limit x count limit e h small = grind (arith, nat_tests, e, h, small)

module _ {H P : Type 0} where
  -- a new epoch, in which none was sealed so far
  begun_counted : (before : List (ℕ × ℕ)) (k : OneRttKeys H P) (epoch : ℕ) → epoch ≡ plus k.ring.ring.epoch 1 → epoch < 18446744073709551615 → AreCounted before (Some k) →
      (0 ≡ min (sealed_in epoch before) 18446744073709551615) × NoneLater epoch before
  begun_counted before k epoch is small h =
      let above : k.ring.ring.epoch < epoch = grind (arith, is, small) in
      let none : sealed_in epoch before ≡ 0 = later_none k.ring.ring.epoch epoch before above h.1 in
      (ap (λ (n : ℕ). min n 18446744073709551615) (sym none), none_later k.ring.ring.epoch epoch before (omega (arith, above)) h.1)

  opened_counted : (which : Which) (n : ℕ) (fresh : Option (Fresh P)) (k : Option (OneRttKeys H P)) (before : List (ℕ × ℕ)) → epoch_with (ring_opened which n fresh k) < 18446744073709551615 →
      AreCounted before k → AreCounted before (ring_opened which n fresh k)
  unfolding ring_opened keyed_opened after_opened
  opened_counted which n fresh None before small h = h
  opened_counted Next n None (Some k) before small h = h
  opened_counted Next n (Some fresh) (Some k) before small h = begun_counted before k (plus k.ring.ring.epoch 1) refl small h
  opened_counted Current n None (Some k) before small h = h
  opened_counted Previous n None (Some k) before small h = h
  opened_counted Current n (Some fresh) (Some k) before small h = h
  opened_counted Previous n (Some fresh) (Some k) before small h = h

  acked_counted : (n : ℕ) (k : Option (OneRttKeys H P)) (before : List (ℕ × ℕ)) → AreCounted before k → AreCounted before (ring_acked n k)
  unfolding ring_acked keyed_acked after_acked
  acked_counted n None before h = h
  acked_counted n (Some k) before h = acked_by_test (is_from k.ring.ring.first n)
    where
      acked_by_test : (b : Bool) → AreCounted before (Some (record k { ring = record k.ring { ring = if b then record k.ring.ring { acked = true } else k.ring.ring } }))
      acked_by_test true = h
      acked_by_test false = h

  updated_counted : (fresh : Option (Fresh P)) (k : Option (OneRttKeys H P)) (before : List (ℕ × ℕ)) → epoch_with (ring_updated fresh k) < 18446744073709551615 → AreCounted before k → AreCounted before (ring_updated fresh k)
  unfolding ring_updated keyed_updated after_update
  updated_counted None None before small h = h
  updated_counted None (Some k) before small h = h
  updated_counted (Some fresh) None before small h = h
  updated_counted (Some fresh) (Some k) before small h = updated_by_test (may_update k.ring.ring) small
    where
      updated_by_test : (b : Bool) → (if b then keyed_in (after_update k.ring.ring) k.ring fresh.keys else k.ring).ring.epoch < 18446744073709551615 →
          AreCounted before (Some (with_ring k (Some fresh) (if b then keyed_in (after_update k.ring.ring) k.ring fresh.keys else k.ring)))
      updated_by_test true s = begun_counted before k (plus k.ring.ring.epoch 1) refl s h
      updated_by_test false s = h

  discarded_counted : (k : Option (OneRttKeys H P)) (before : List (ℕ × ℕ)) → AreCounted before k → AreCounted before (ring_discarded k)
  unfolding ring_discarded keyed_discarded after_discard
  discarded_counted None before h = h
  discarded_counted (Some k) before h = dropped_by_test (has_floor k.ring.ring.kept)
    where
      dropped_by_test : (b : Bool) → AreCounted before (Some (record k { ring = if b then record k.ring { ring = if b then record k.ring.ring { kept = Dropped } else k.ring.ring; previous = None } else k.ring }))
      dropped_by_test true = h
      dropped_by_test false = h

  -- keys that are given have sealed nothing
  given_counted : (keys : OneRttKeys H P) (k : Option (OneRttKeys H P)) (before : List (ℕ × ℕ)) → k ≡ None → keys.ring.count ≡ 0 → AreCounted before k → AreCounted before (Some keys)
  given_counted keys k before none count h =
      let empty : before ≡ [] = subst (λ (o : Option (OneRttKeys H P)). AreCounted before o) none h in
      subst (λ (ps : List (ℕ × ℕ)). AreCounted ps (Some keys)) (sym empty) (count, tt)

  sealed_counted : (n : ℕ) (k : OneRttKeys H P) (before : List (ℕ × ℕ)) → AreCounted before (Some k) → AreCounted (before ++ (n, k.ring.ring.epoch) ∷ []) (ring_used n (Some k))
  unfolding ring_used keyed_sealed after_sealed
  sealed_counted n k before h =
      let epoch : ℕ = k.ring.ring.epoch in
      (plus_one (sealed_in epoch before) k.ring.count h.0 ∙ ap (λ (x : ℕ). min x 18446744073709551615) (sym (one_more epoch n before)), one_later epoch n before h.1)

  may_seal : (k : OneRttKeys H P) (before : List (ℕ × ℕ)) → reaches_limit 0 (Some (ring_usage k)) ≡ false → AreCounted before (Some k) → MaySealMore before (Some k)
  may_seal k before free h small = below_limit (sealed_in k.ring.ring.epoch before) k.ring.count k.confidentiality_limit h.0 free small

  -- ---- steps

  -- each step lies below the last epoch
  step_small : (x : KeyStep H P) (xs : List (KeyStep H P)) (k : Option (OneRttKeys H P)) → MayStep x k → AllMay xs (key_step x k) → epoch_with k ≤ 18446744073709551615 →
      epoch_with (key_steps xs (key_step x k)) < 18446744073709551615 → epoch_with (key_step x k) < 18446744073709551615
  step_small x xs k may all held small =
      let more : Option (OneRttKeys H P) = key_step x k in
      let rise : epoch_with more ≤ epoch_with (key_steps xs more) = rise_most (epoch_with more) (epoch_with (key_steps xs more)) (sealed_by xs more) (steps_rise xs more all (step_held x k may held)) in
      omega (arith, rise, small)

  pub steps_counted : (xs : List (KeyStep H P)) (k : Option (OneRttKeys H P)) (before : List (ℕ × ℕ)) → AllMay xs k → AreCounted before k → epoch_with k ≤ 18446744073709551615 → epoch_with (key_steps xs k) < 18446744073709551615 →
      EachMaySeal before xs k × AreCounted (before ++ sealed_by xs k) (key_steps xs k)
  steps_counted [] k before may h held small = (tt, subst (λ (ps : List (ℕ × ℕ)). AreCounted ps k) (sym (append-nil before)) h)
  steps_counted (Sealed n ∷ xs) None before may h held small = absurd (let none : false ≡ true = may.0.0 in cc)
  steps_counted (Sealed n ∷ xs) (Some k) before may h held small =
      let epoch : ℕ = k.ring.ring.epoch in
      let more : Option (OneRttKeys H P) = ring_used n (Some k) in
      let behind = steps_counted xs more (before ++ (n, epoch) ∷ []) may.1 (sealed_counted n k before h) (step_held (Sealed n) (Some k) may.0 held) small in
      ((may_seal k before may.0.1 h, behind.0), subst (λ (ps : List (ℕ × ℕ)). AreCounted ps (key_steps xs more)) (append_assoc before ((n, epoch) ∷ []) (sealed_by xs more)) behind.1)
  steps_counted (Given keys ∷ xs) k before may h held small =
      steps_counted xs (Some keys) before may.1 (given_counted keys k before may.0.0 may.0.2 h) (step_held (Given keys) k may.0 held) small
  steps_counted (Opened n which fresh ∷ xs) k before may h held small =
      steps_counted xs (ring_opened which n fresh k) before may.1 (opened_counted which n fresh k before (step_small (Opened n which fresh) xs k may.0 may.1 held small) h) (step_held (Opened n which fresh) k may.0 held) small
  steps_counted (Acknowledged n ∷ xs) k before may h held small =
      steps_counted xs (ring_acked n k) before may.1 (acked_counted n k before h) (step_held (Acknowledged n) k may.0 held) small
  steps_counted (Updated fresh ∷ xs) k before may h held small =
      steps_counted xs (ring_updated fresh k) before may.1 (updated_counted fresh k before (step_small (Updated fresh) xs k may.0 may.1 held small) h) (step_held (Updated fresh) k may.0 held) small
  steps_counted (Discarded ∷ xs) k before may h held small =
      steps_counted xs (ring_discarded k) before may.1 (discarded_counted k before h) (step_held Discarded k may.0 held) small
