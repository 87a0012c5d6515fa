-- Over any steps of the connection ids: those of the peer's that are kept ascend and are known, the number of the one in use never falls, the
-- numbers that wait to be told retired lie below it, and the ids that wait to be told were issued.
use Rattle.std.proofs.Common.{◌≡◌, ℕ, ◌+◌, ◌-◌, ◌<◌, ◌≤◌, Bool, true, false, List, [], ◌∷◌, ◌++◌, Option, Some, None, length, min, nat_lt, nat_le, refl, sym, subst, arith, if◌then◌else◌, is_some, ◌==◌, not, ◌&&◌}
use Rattle.std.proofs.lemmas.Bool.Decides.{nat_tests}
use Rattle.std.specs.List.{filter}
use Rattle.std.specs.Option.{option_map}
use Rattle.std.specs.declared.ops.Range.{Range}
use Rattle.qc_base.specs.declared.ids.IssuedCid.{IssuedCid}
use Rattle.qc_base.specs.declared.transport_error.TransportError.{TransportError}
use Rattle.qc_cids.specs.Cids.{asked_more, asks_one, cid_dropped, cid_placed, limit_error, new_refusal, number_dropped, number_placed, numbers_placed, retires_by, violation}
use Rattle.qc_cids.specs.Steps.{Step, NewCame, Switched, Renamed, Preferred, RetireCame, Asked, Given, Expired, TellSealed, RetireSealed, TellLost, RetireLost, after, after_step, new_taken}
use Rattle.qc_cids.specs.declared.connection_ids.ConnectionIds.{ConnectionIds}
use Rattle.qc_frame.specs.declared.frames.NewConnectionId.{NewConnectionId}
use Rattle.qc_ids.specs.CidQueue.{active_of, active_seq_of, active_token_of, after_next, given_cid, insert_answer, inserted, is_above, is_between, kept_above, kept_between, numbers_from, renamed, renewal_of}
use Rattle.qc_ids.specs.LocalCids.{may_retire, retired}
use Rattle.qc_ids.specs.Numbers.{Rises}
use Rattle.qc_ids.specs.QueueLaws.{Insert, Next, is_taken, numbers_of, queue_after, retires}
use Rattle.qc_ids.specs.declared.cid_queue.KeptCid.{KeptCid}
use Rattle.qc_ids.proofs.Numbers.{numbers_rise}

-- ---- numbers that ascend

-- the numbers of kept ids ascend, from one on
abbrev pub Grows : ℕ → List KeptCid → Type 0
Grows low [] = Unit {0}
Grows low (x ∷ xs) = (low ≤ x.sequence) × Grows (x.sequence + 1) xs

-- they lie between two numbers
abbrev AllBetween : (low high : ℕ) → List KeptCid → Type 0
AllBetween low high [] = Unit {0}
AllBetween low high (x ∷ xs) = (low ≤ x.sequence) × (x.sequence < high) × AllBetween low high xs

grows_lower : (low low' : ℕ) (xs : List KeptCid) → low' ≤ low → Grows low xs → Grows low' xs
grows_lower low low' [] le h = tt
grows_lower low low' (x ∷ xs) le h = let from : low ≤ x.sequence = h.0 in (omega arith, h.1)

grows_filter : (p : KeptCid → Bool) (low : ℕ) (xs : List KeptCid) → Grows low xs → Grows low (filter p xs)
grows_filter p low [] h = tt
grows_filter p low (x ∷ xs) h = kept_or (p x) (grows_filter p (x.sequence + 1) xs h.1)
  where
    kept_or : (b : Bool) → Grows (x.sequence + 1) (filter p xs) → Grows low (if b then x ∷ filter p xs else filter p xs)
    kept_or true more = (h.0, more)
    kept_or false more = let from : low ≤ x.sequence = h.0 in grows_lower (x.sequence + 1) low (filter p xs) (omega arith) more

between_lies : (low high : ℕ) (xs : List KeptCid) → AllBetween low high (filter (is_between low high) xs)
between_lies low high [] = tt
between_lies low high (x ∷ xs) = kept_or (is_between low high x) refl (between_lies low high xs)
  where
    kept_or : (b : Bool) → is_between low high x ≡ b → AllBetween low high (filter (is_between low high) xs) → AllBetween low high (if b then x ∷ filter (is_between low high) xs else filter (is_between low high) xs)
    kept_or true e more = let both : (low ≤ x.sequence) × (x.sequence < high) = grind (arith, nat_tests) in (both.0, both.1, more)
    kept_or false e more = more

above_grows : (n low : ℕ) (xs : List KeptCid) → Grows low xs → Grows (n + 1) (filter (is_above n) xs)
above_grows n low [] h = tt
above_grows n low (x ∷ xs) h = kept_or (is_above n x) refl (above_grows n (x.sequence + 1) xs h.1)
  where
    kept_or : (b : Bool) → is_above n x ≡ b → Grows (n + 1) (filter (is_above n) xs) → Grows (n + 1) (if b then x ∷ filter (is_above n) xs else filter (is_above n) xs)
    kept_or true e more = let above : n < x.sequence = grind (arith, nat_tests) in (omega arith, grows_filter (is_above n) (x.sequence + 1) xs h.1)
    kept_or false e more = more

grows_join : (low s least : ℕ) (xs : List KeptCid) (c : KeptCid) (ys : List KeptCid) → Grows low xs → AllBetween least s xs → low ≤ s → c.sequence ≡ s → Grows (s + 1) ys → Grows low (xs ++ c ∷ ys)
grows_join low s least [] c ys h under le is more = (omega arith, grows_lower (s + 1) (c.sequence + 1) ys (omega arith) more)
grows_join low s least (x ∷ xs) c ys h under le is more =
    let below : x.sequence < s = under.1 in
    (h.0, grows_join (x.sequence + 1) s least xs c ys h.1 under.2 (omega arith) is more)

-- a frame that is taken leaves numbers that ascend from where they did
inserted_grows : (low : ℕ) (new : NewConnectionId) (xs : List KeptCid) → low ≤ new.sequence → Grows low xs → Grows low (inserted new xs)
unfolding inserted kept_between kept_above
inserted_grows low new xs le h =
    grows_join low new.sequence new.retire_prior_to (filter (is_between new.retire_prior_to new.sequence) xs) (given_cid new) (filter (is_above new.sequence) xs)
    (grows_filter (is_between new.retire_prior_to new.sequence) low xs h) (between_lies new.retire_prior_to new.sequence xs) le refl (above_grows new.sequence low xs h)

first_grows : (xs : List KeptCid) → Grows 0 xs → Grows (active_seq_of xs) xs
first_grows [] h = tt
first_grows (x ∷ xs) h = (omega arith, h.1)

first_from : (low : ℕ) (xs : List KeptCid) → 0 < length xs → Grows low xs → low ≤ active_seq_of xs
first_from low [] some h = absurd (omega (arith, some))
first_from low (x ∷ xs) some h = h.0

inserted_some : (new : NewConnectionId) (xs : List KeptCid) → 0 < length (inserted new xs)
unfolding inserted
inserted_some new xs = joined (kept_between new.retire_prior_to new.sequence xs)
  where
    joined : (ys : List KeptCid) → 0 < length (ys ++ given_cid new ∷ kept_above new.sequence xs)
    joined [] = omega arith
    joined (y ∷ ys) = omega arith

-- the first of those that a frame leaves isn't one that it retires
inserted_from : (new : NewConnectionId) (xs : List KeptCid) → new.retire_prior_to ≤ new.sequence → new.retire_prior_to ≤ active_seq_of (inserted new xs)
unfolding inserted kept_between
inserted_from new xs order = joined (filter (is_between new.retire_prior_to new.sequence) xs) (between_lies new.retire_prior_to new.sequence xs)
  where
    joined : (ys : List KeptCid) → AllBetween new.retire_prior_to new.sequence ys → new.retire_prior_to ≤ active_seq_of (ys ++ given_cid new ∷ kept_above new.sequence xs)
    joined [] between = order
    joined (y ∷ ys) between = between.0

-- ---- numbers below one

abbrev pub AllBelow : ℕ → List ℕ → Type 0
AllBelow n [] = Unit {0}
AllBelow n (k ∷ ks) = (k < n) × AllBelow n ks

below_more : (n m : ℕ) (ks : List ℕ) → n ≤ m → AllBelow n ks → AllBelow m ks
below_more n m [] le h = tt
below_more n m (k ∷ ks) le h = let below : k < n = h.0 in (omega arith, below_more n m ks le h.1)

below_placed : (n k : ℕ) (ks : List ℕ) → k < n → AllBelow n ks → AllBelow n (number_placed k ks)
below_placed n k [] below h = (below, tt)
below_placed n k (j ∷ js) below h = placed_or (nat_lt k j) (below_placed n k js below h.1)
  where
    placed_or : (b : Bool) → AllBelow n (number_placed k js) → AllBelow n (if b then k ∷ j ∷ js else j ∷ number_placed k js)
    placed_or true more = (below, h)
    placed_or false more = (h.0, more)

all_placed : (n : ℕ) (js ks : List ℕ) → AllBelow n js → AllBelow n ks → AllBelow n (numbers_placed js ks)
all_placed n [] ks a h = h
all_placed n (j ∷ js) ks a h = all_placed n js (number_placed j ks) a.1 (below_placed n j ks a.0 h)

below_dropped : (n k : ℕ) (ks : List ℕ) → AllBelow n ks → AllBelow n (number_dropped k ks)
below_dropped n k [] h = tt
below_dropped n k (j ∷ js) h = dropped_or (j == k) (below_dropped n k js h.1)
  where
    dropped_or : (b : Bool) → AllBelow n (number_dropped k js) → AllBelow n (if b then js else j ∷ number_dropped k js)
    dropped_or true more = h.1
    dropped_or false more = (h.0, more)

rises_below : (low n : ℕ) (ks : List ℕ) → Rises low n ks → AllBelow n ks
rises_below low n [] h = tt
rises_below low n (k ∷ ks) h = (h.1, rises_below (k + 1) n ks h.2)

-- the numbers that give way to a new one in use lie below it
renewal_below : (old n : ℕ) (token : Option (List ℕ)) → old ≤ n → AllBelow n (numbers_of (option_map (λ (answer : Range ℕ × List ℕ). answer.0) (option_map (λ t. (numbers_from old (min n (old + 5)), t)) token)))
renewal_below old n None le = tt
renewal_below old n (Some token) le = rises_below old n _ (numbers_rise old (min n (old + 5) - old) n (omega arith))

next_below : (old n : ℕ) (token : Option (List ℕ)) → old ≤ n → AllBelow n (numbers_of (option_map (λ (answer : List ℕ × Range ℕ). answer.1) (option_map (λ t. (t, numbers_from old n)) token)))
next_below old n None le = tt
next_below old n (Some token) le = rises_below old n _ (numbers_rise old (n - old) n (omega arith))

module _ (I : IssuedCid → Type 0) where
  -- each id that waits to be told was issued
  abbrev pub AllIssued : List IssuedCid → Type 0
  AllIssued [] = Unit {0}
  AllIssued (c ∷ cs) = I c × AllIssued cs

  issued_append : (xs ys : List IssuedCid) → AllIssued xs → AllIssued ys → AllIssued (xs ++ ys)
  issued_append [] ys h g = g
  issued_append (x ∷ xs) ys h g = (h.0, issued_append xs ys h.1 g)

  issued_placed : (c : IssuedCid) (xs : List IssuedCid) → I c → AllIssued xs → AllIssued (cid_placed c xs)
  issued_placed c [] is h = (is, tt)
  issued_placed c (x ∷ xs) is h = placed_or (nat_lt c.sequence x.sequence) (x.sequence == c.sequence) (issued_placed c xs is h.1)
    where
      placed_or : (b d : Bool) → AllIssued (cid_placed c xs) → AllIssued (if b then c ∷ x ∷ xs else if d then x ∷ xs else x ∷ cid_placed c xs)
      placed_or true d more = (is, h)
      placed_or false true more = h
      placed_or false false more = (h.0, more)

  issued_dropped : (n : ℕ) (xs : List IssuedCid) → AllIssued xs → AllIssued (cid_dropped n xs)
  issued_dropped n [] h = tt
  issued_dropped n (x ∷ xs) h = dropped_or (x.sequence == n) (issued_dropped n xs h.1)
    where
      dropped_or : (b : Bool) → AllIssued (cid_dropped n xs) → AllIssued (if b then xs else x ∷ cid_dropped n xs)
      dropped_or true more = h.1
      dropped_or false more = (h.0, more)

module _ (K : ℕ → List ℕ → Type 0) where
  -- each id of the peer's that is kept is known with its number
  abbrev pub AllKnown : List KeptCid → Type 0
  AllKnown [] = Unit {0}
  AllKnown (x ∷ xs) = K x.sequence x.id × AllKnown xs

  known_filter : (p : KeptCid → Bool) (xs : List KeptCid) → AllKnown xs → AllKnown (filter p xs)
  known_filter p [] h = tt
  known_filter p (x ∷ xs) h = kept_or (p x) (known_filter p xs h.1)
    where
      kept_or : (b : Bool) → AllKnown (filter p xs) → AllKnown (if b then x ∷ filter p xs else filter p xs)
      kept_or true more = (h.0, more)
      kept_or false more = more

  known_append : (xs ys : List KeptCid) → AllKnown xs → AllKnown ys → AllKnown (xs ++ ys)
  known_append [] ys h g = g
  known_append (x ∷ xs) ys h g = (h.0, known_append xs ys h.1 g)

  -- one at least is kept, their numbers ascend, and they are known
  pub record Peers (xs : List KeptCid) : Type 0 where
    pub some : 0 < length xs
    pub grows : Grows 0 xs
    pub known : AllKnown xs

  -- so it is where some make place for others, with a number in use that isn't less, below which these lie
  pub record Moves (xs ys : List KeptCid) (ns : List ℕ) : Type 0 where
    peers : Peers ys
    later : active_seq_of xs ≤ active_seq_of ys
    below : AllBelow (active_seq_of ys) ns

  inserted_peers : (new : NewConnectionId) (xs : List KeptCid) → K new.sequence new.id → Peers xs → Peers (inserted new xs)
  unfolding inserted kept_between kept_above
  inserted_peers new xs is h = record {
    some = inserted_some new xs;
    grows = inserted_grows 0 new xs (omega arith) h.grows;
    known = known_append (filter (is_between new.retire_prior_to new.sequence) xs) (given_cid new ∷ filter (is_above new.sequence) xs) (known_filter (is_between new.retire_prior_to new.sequence) xs h.known)
        (is, known_filter (is_above new.sequence) xs h.known);
  }

  insert_by : (new : NewConnectionId) (xs : List KeptCid) (taken early renews : Bool) → is_taken new xs ≡ taken → nat_lt new.sequence (active_seq_of xs) ≡ early → K new.sequence new.id → Peers xs →
      Moves xs (if taken then inserted new xs else xs)
      (if early then new.sequence ∷ [] else (if taken then numbers_of (option_map (λ (answer : Range ℕ × List ℕ). answer.0) (if renews then renewal_of (active_seq_of xs) (inserted new xs) else None)) else []))
  unfolding renewal_of
  insert_by new xs true early renews t e is h =
      let from : active_seq_of xs ≤ new.sequence = grind (arith, nat_tests) in
      let later : active_seq_of xs ≤ active_seq_of (inserted new xs) = first_from (active_seq_of xs) (inserted new xs) (inserted_some new xs) (inserted_grows (active_seq_of xs) new xs from (first_grows xs h.grows)) in
      record { peers = inserted_peers new xs is h; later = later; below = numbers_by early renews e later from }
    where
      numbers_by : (early renews : Bool) → nat_lt new.sequence (active_seq_of xs) ≡ early → active_seq_of xs ≤ active_seq_of (inserted new xs) → active_seq_of xs ≤ new.sequence →
          AllBelow (active_seq_of (inserted new xs))
          (if early then new.sequence ∷ [] else numbers_of (option_map (λ (answer : Range ℕ × List ℕ). answer.0) (if renews then renewal_of (active_seq_of xs) (inserted new xs) else None)))
      numbers_by true renews e later from = let under : new.sequence < active_seq_of xs = grind (arith, nat_tests) in (omega arith, tt)
      numbers_by false true e later from = renewal_below (active_seq_of xs) (active_seq_of (inserted new xs)) (active_token_of (inserted new xs)) later
      numbers_by false false e later from = tt
  insert_by new xs false true renews t e is h = let under : new.sequence < active_seq_of xs = grind (arith, nat_tests) in record { peers = h; later = omega arith; below = (under, tt) }
  insert_by new xs false false renews t e is h = record { peers = h; later = omega arith; below = tt }

  insert_moves : (new : NewConnectionId) (xs : List KeptCid) → K new.sequence new.id → Peers xs → Moves xs (queue_after (Insert new) xs) (retires_by new xs)
  unfolding queue_after retires_by retires insert_answer
  insert_moves new xs is h = insert_by new xs (is_taken new xs) (nat_lt new.sequence (active_seq_of xs)) (nat_lt (active_seq_of xs) new.retire_prior_to) refl refl is h

  next_moves : (xs : List KeptCid) → Peers xs → Moves xs (after_next xs) (retires Next xs)
  unfolding retires
  next_moves [] h = absurd (omega (arith, h.some))
  next_moves (x ∷ []) h = record { peers = h; later = omega arith; below = tt }
  next_moves (x ∷ y ∷ xs) h =
      let from : x.sequence + 1 ≤ y.sequence = h.grows.1.0 in
      record { peers = record { some = omega arith; grows = (omega arith, h.grows.1.1); known = h.known.1 }; later = omega arith; below = next_below x.sequence y.sequence y.reset_token (omega arith) }

  renamed_moves : (id : List ℕ) (xs : List KeptCid) → K (active_seq_of xs) id → Peers xs → Moves xs (renamed id xs) []
  renamed_moves id [] is h = absurd (omega (arith, h.some))
  renamed_moves id (x ∷ xs) is h = record { peers = record { some = omega arith; grows = h.grows; known = (is, h.known.1) }; later = omega arith; below = tt }

module _ (K : ℕ → List ℕ → Type 0) (I : IssuedCid → Type 0) where
  -- what holds of the ids of both ends
  pub record Fine (s : ConnectionIds) : Type 0 where
    pub peers : Peers K s.remote
    pub below : AllBelow (active_seq_of s.remote) s.retired
    pub told : AllIssued I s.unsent

  -- it holds on, and the number in use isn't less
  pub record Goes (s s' : ConnectionIds) : Type 0 where
    pub fine : Fine s'
    pub later : active_seq_of s.remote ≤ active_seq_of s'.remote

  -- what is known of a step: ids that it gives are known or issued, and a frame that it loses told such an id, or retired such a number
  abbrev pub IsFine : Step → ConnectionIds → Type 0
  IsFine (NewCame new) s = K new.sequence new.id
  IsFine (Renamed id) s = K (active_seq_of s.remote) id
  IsFine (Preferred new) s = K new.sequence new.id
  IsFine (Given ids time) s = AllIssued I ids
  IsFine (TellLost c) s = I c
  IsFine (RetireLost n) s = n < active_seq_of s.remote
  IsFine _ s = Unit {0}

  -- so of all steps, each as its turn comes
  abbrev pub AreFine : List Step → ConnectionIds → Type 0
  AreFine [] s = Unit {0}
  AreFine (x ∷ xs) s = IsFine x s × AreFine xs (after_step x s)

  -- where the ids of the peer's move on so, and these numbers wait besides
  goes_by : (s s' : ConnectionIds) (ns : List ℕ) → Moves K s.remote s'.remote ns → s'.retired ≡ numbers_placed ns s.retired → s'.unsent ≡ s.unsent → Fine s → Goes s s'
  goes_by s s' ns m retired unsent h = record {
    fine = record {
      peers = m.peers;
      below = subst (λ (ks : List ℕ). AllBelow (active_seq_of s'.remote) ks) (sym retired) (all_placed (active_seq_of s'.remote) ns s.retired m.below (below_more (active_seq_of s.remote) (active_seq_of s'.remote) s.retired m.later h.below));
      told = subst (λ (cs : List IssuedCid). AllIssued I cs) (sym unsent) h.told;
    };
    later = m.later;
  }

  goes_same : (s s' : ConnectionIds) → s'.remote ≡ s.remote → s'.retired ≡ s.retired → s'.unsent ≡ s.unsent → Fine s → Goes s s'
  goes_same s s' remote retired unsent h =
      goes_by s s' [] (subst (λ (xs : List KeptCid). Moves K s.remote xs []) (sym remote) (record { peers = h.peers; later = omega arith; below = tt })) retired unsent h

  came_goes : (b : Bool) (new : NewConnectionId) (s : ConnectionIds) → K new.sequence new.id → Fine s → Goes s (if b then s else new_taken new s)
  unfolding new_taken
  came_goes true new s is h = goes_same s s refl refl refl h
  came_goes false new s is h = goes_by s (new_taken new s) (retires_by new s.remote) (insert_moves K new s.remote is h.peers) refl refl h

  retire_goes : (b : Bool) (n count : ℕ) (s : ConnectionIds) → Fine s → Goes s (if b then asked_more count (record s { local = retired n s.local }) else s)
  unfolding asked_more
  retire_goes true n count s h = goes_same s _ refl refl refl h
  retire_goes false n count s h = goes_same s s refl refl refl h

  preferred_goes : (new : NewConnectionId) (s : ConnectionIds) → K new.sequence new.id → Fine s → Goes s (record s { remote = queue_after (Insert new) s.remote })
  preferred_goes new s is h = let m = insert_moves K new s.remote is h.peers in goes_by s _ [] (record { peers = m.peers; later = m.later; below = tt }) refl refl h

  pub step_goes : (x : Step) (s : ConnectionIds) → IsFine x s → Fine s → Goes s (after_step x s)
  unfolding after_step asked_more
  step_goes (NewCame new) s is h = came_goes (is_some (new_refusal new s.remote)) new s is h
  step_goes Switched s is h = goes_by s _ (retires Next s.remote) (next_moves K s.remote h.peers) refl refl h
  step_goes (Renamed id) s is h = goes_by s _ [] (renamed_moves K id s.remote is h.peers) refl refl h
  step_goes (Preferred new) s is h = preferred_goes new s is h
  step_goes (RetireCame limit n) s is h = retire_goes (may_retire n s.local) n (if asks_one limit n s then 1 else 0) s h
  step_goes (Asked n) s is h = goes_same s _ refl refl refl h
  step_goes (Given ids time) s is h = record { fine = record { peers = h.peers; below = h.below; told = issued_append I s.unsent ids h.told is }; later = omega arith }
  step_goes Expired s is h = goes_same s _ refl refl refl h
  step_goes (TellSealed n) s is h = record { fine = record { peers = h.peers; below = h.below; told = issued_dropped I n s.unsent h.told }; later = omega arith }
  step_goes (RetireSealed n) s is h = record { fine = record { peers = h.peers; below = below_dropped (active_seq_of s.remote) n s.retired h.below; told = h.told }; later = omega arith }
  step_goes (TellLost c) s is h = record { fine = record { peers = h.peers; below = h.below; told = issued_placed I c s.unsent is h.told }; later = omega arith }
  step_goes (RetireLost n) s is h = record { fine = record { peers = h.peers; below = below_placed (active_seq_of s.remote) n s.retired is h.below; told = h.told }; later = omega arith }

  pub steps_go : (xs : List Step) (s : ConnectionIds) → AreFine xs s → Fine s → Goes s (after xs s)
  unfolding after
  steps_go [] s are h = goes_same s s refl refl refl h
  steps_go (x ∷ xs) s are h =
      let first : Goes s (after_step x s) = step_goes x s are.0 h in
      let more : Goes (after_step x s) (after xs (after_step x s)) = steps_go xs (after_step x s) are.1 first.fine in
      let one = first.later in
      let two = more.later in
      record { fine = more.fine; later = omega arith }

  -- a NEW_CONNECTION_ID that isn't refused retires no number from that of the id in use on
  pub retires_below : (new : NewConnectionId) (s : ConnectionIds) → new_refusal new s.remote ≡ None → new.retire_prior_to ≤ new.sequence → new.retire_prior_to ≤ active_seq_of (after_step (NewCame new) s).remote
  unfolding after_step new_refusal new_taken queue_after
  retires_below new s none order =
      subst (λ (o : Option TransportError). new.retire_prior_to ≤ active_seq_of (if is_some o then s else new_taken new s).remote) (sym none)
      (taken_from (length (active_of s.remote) == 0) (nat_le (active_seq_of s.remote) new.sequence) (is_taken new s.remote) refl refl none)
    where
      taken_from : (empty from taken : Bool) → nat_le (active_seq_of s.remote) new.sequence ≡ from → is_taken new s.remote ≡ taken →
          (if empty then Some violation else if from && not taken then Some limit_error else None) ≡ None → new.retire_prior_to ≤ active_seq_of (if taken then inserted new s.remote else s.remote)
      taken_from true from taken f t h = cc
      taken_from false true true f t h = inserted_from new s.remote order
      taken_from false true false f t h = cc
      taken_from false false true f t h = inserted_from new s.remote order
      taken_from false false false f t h = let under : new.sequence < active_seq_of s.remote = grind (arith, nat_tests) in omega arith

-- ---- of the peer's ids alone

-- whatever is known of them
abbrev pub Any : ℕ → List ℕ → Type 0
Any n id = Unit {0}

-- one at least is kept, their numbers ascend, and that of the one in use isn't less
pub record Remain (xs ys : List KeptCid) : Type 0 where
  pub peers : Peers Any ys
  pub later : active_seq_of xs ≤ active_seq_of ys

remain_by : (xs ys : List KeptCid) (ns : List ℕ) → Moves Any xs ys ns → Remain xs ys
remain_by xs ys ns m = record { peers = m.peers; later = m.later }

remain_same : (xs ys : List KeptCid) → ys ≡ xs → Peers Any xs → Remain xs ys
remain_same xs ys same h = subst (λ (zs : List KeptCid). Remain xs zs) (sym same) (record { peers = h; later = omega arith })

came_remain : (b : Bool) (new : NewConnectionId) (s : ConnectionIds) → Peers Any s.remote → Remain s.remote (if b then s else new_taken new s).remote
unfolding new_taken
came_remain true new s h = remain_same s.remote s.remote refl h
came_remain false new s h = remain_by s.remote _ (retires_by new s.remote) (insert_moves Any new s.remote tt h)

retire_remain : (b : Bool) (n count : ℕ) (s : ConnectionIds) → Peers Any s.remote → Remain s.remote (if b then asked_more count (record s { local = retired n s.local }) else s).remote
unfolding asked_more
retire_remain true n count s h = remain_same s.remote s.remote refl h
retire_remain false n count s h = remain_same s.remote s.remote refl h

step_remains : (x : Step) (s : ConnectionIds) → Peers Any s.remote → Remain s.remote (after_step x s).remote
unfolding after_step asked_more
step_remains (NewCame new) s h = came_remain (is_some (new_refusal new s.remote)) new s h
step_remains Switched s h = remain_by s.remote _ (retires Next s.remote) (next_moves Any s.remote h)
step_remains (Renamed id) s h = remain_by s.remote _ [] (renamed_moves Any id s.remote tt h)
step_remains (Preferred new) s h = remain_by s.remote _ (retires_by new s.remote) (insert_moves Any new s.remote tt h)
step_remains (RetireCame limit n) s h = retire_remain (may_retire n s.local) n (if asks_one limit n s then 1 else 0) s h
step_remains _ s h = remain_same s.remote s.remote refl h

pub steps_remain : (xs : List Step) (s : ConnectionIds) → Peers Any s.remote → Remain s.remote (after xs s).remote
unfolding after
steps_remain [] s h = remain_same s.remote s.remote refl h
steps_remain (x ∷ xs) s h =
    let first : Remain s.remote (after_step x s).remote = step_remains x s h in
    let more : Remain (after_step x s).remote (after xs (after_step x s)).remote = steps_remain xs (after_step x s) first.peers in
    let one = first.later in
    let two = more.later in
    record { peers = more.peers; later = omega arith }

-- what waits is issued among more ids too, and known where more are
module _ (K L : ℕ → List ℕ → Type 0) (I J : IssuedCid → Type 0) (known : (n : ℕ) (id : List ℕ) → K n id → L n id) (issued : (c : IssuedCid) → I c → J c) where
  more_known : (xs : List KeptCid) → AllKnown K xs → AllKnown L xs
  more_known [] h = tt
  more_known (x ∷ xs) h = (known x.sequence x.id h.0, more_known xs h.1)

  pub more_issued : (cs : List IssuedCid) → AllIssued I cs → AllIssued J cs
  more_issued [] h = tt
  more_issued (c ∷ cs) h = (issued c h.0, more_issued cs h.1)

  pub more_fine : (s : ConnectionIds) → Fine K I s → Fine L J s
  more_fine s h = record { peers = record { some = h.peers.some; grows = h.peers.grows; known = more_known s.remote h.peers.known }; below = h.below; told = more_issued s.unsent h.told }
