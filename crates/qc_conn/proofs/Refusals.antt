-- Inputs one after another, up to the first that is refused.
use Rattle.std.proofs.Common.{◌≡◌, ℕ, ◌+◌, ◌<◌, ◌≤◌, ◌==◌, suc, List, [], ◌∷◌, ◌++◌, length, take, drop, get_or, refl, ap, sym, ◌∙◌, subst, Bool, true, false, nat_lt, if◌then◌else◌, Option, Some, None, arith}
use Rattle.std.proofs.Math.Seq.{drop-cons}
use Rattle.std.proofs.lemmas.Bool.Decides.{nat_tests}
use Rattle.std.proofs.lemmas.List.{take_more}
use Rattle.std.specs.Option.{option_map}
use Rattle.qc_cids.specs.declared.giving.GiveRefusal.{GiveRefusal}
use Rattle.qc_cids.specs.declared.giving.GiveRefusal.TheVariants as give
use Rattle.qc_conn.specs.declared.driving.BadWhy.{BadWhy}
use Rattle.qc_conn.specs.declared.driving.BadWhy.TheVariants.{ZeroDatagrams}
use Rattle.qc_conn.specs.declared.driving.DriveKind.{DriveKind}
use Rattle.qc_conn.specs.declared.driving.DriveKind.TheVariants.{TimeBack, BadCall}
use Rattle.qc_conn.specs.Refusal.{bad_call, bad_ids, refusal_of, place_of, RefusedAt, TakesAll}
use Rattle.qc_state.specs.declared.input.Input.{Input}
use Rattle.qc_state.specs.declared.trace.Step.{Step}
use Rattle.qc_state.specs.Run.{time_of, Adds, IsStep}
use Rattle.qc_state.specs.Types.{Types, Meaning}
use Rattle.qc_state.specs.View.{View}

forward_by : (k greatest time : ℕ) (b : Bool) (o : Option BadWhy) → nat_lt time greatest ≡ b → (if b then Some (TimeBack k time greatest) else option_map (BadCall k) o) ≡ None → greatest ≤ time
forward_by k greatest time true o e h = cc
forward_by k greatest time false o e h = grind (arith, nat_tests)

-- nor does it ask for a call that can't be made
good_by : (k greatest time : ℕ) (b : Bool) (o : Option BadWhy) → (if b then Some (TimeBack k time greatest) else option_map (BadCall k) o) ≡ None → o ≡ None
good_by k greatest time true o h = cc
good_by k greatest time false None h = refl
good_by k greatest time false (Some why) h = cc

-- where nothing is wrong with ids that are given, they may be given
pub ids_good : (refusal : Option GiveRefusal) → bad_ids refusal ≡ None → refusal ≡ None
ids_good None h = refl
ids_good (Some (give.NotAsked asked given)) h = cc
ids_good (Some (give.Sequence wanted given)) h = cc
ids_good (Some (give.IdLength wanted given)) h = cc

some_by : (max : ℕ) (b : Bool) → (max == 0) ≡ b → (if b then Some ZeroDatagrams else None) ≡ None → 1 ≤ max
some_by max true e h = cc
some_by max false e h = grind (arith, nat_tests)

-- a transmit that isn't refused is allowed a datagram
pub some_allowed : (max : ℕ) → (if max == 0 then Some ZeroDatagrams else None) ≡ None → 1 ≤ max
some_allowed max h = some_by max (max == 0) refl h

-- the input at this place, and those behind it
left_from : (is : List Input) (n : ℕ) (i : Input) → n < length is → i ≡ get_or is n i → drop n is ≡ i ∷ drop (n + 1) is
left_from is n i h e =
    let cut : drop n is ≡ get_or is n i ∷ drop (suc n) is = drop-cons is n i h in
    let one : suc n ≡ n + 1 = omega arith in
    cut ∙ ap (λ (y : Input). y ∷ drop (suc n) is) (sym e) ∙ ap (λ (m : ℕ). i ∷ drop m is) one

place_by : (k greatest time : ℕ) (b : Bool) (o : Option BadWhy) (kind : DriveKind) → (if b then Some (TimeBack k time greatest) else option_map (BadCall k) o) ≡ Some kind → place_of kind ≡ Some k
place_by k greatest time true o kind h = ap place_or (sym h)
  where
    place_or : Option DriveKind → Option ℕ
    place_or None = None
    place_or (Some x) = place_of x
place_by k greatest time false None kind h = cc
place_by k greatest time false (Some why) kind h = ap place_or (sym h)
  where
    place_or : Option DriveKind → Option ℕ
    place_or None = None
    place_or (Some x) = place_of x

module _ {t : Types} where
  -- an input that isn't refused has a time that doesn't fall
  pub taken_forward : (k : ℕ) (s : View t) (i : Input) → refusal_of k s i ≡ None → s.timers.greatest ≤ time_of i
  taken_forward k s i h = forward_by k s.timers.greatest (time_of i) (nat_lt (time_of i) s.timers.greatest) (bad_call s i) refl h

  -- and asks for a call that can be made
  pub taken_good : (k : ℕ) (s : View t) (i : Input) → refusal_of k s i ≡ None → bad_call s i ≡ None
  taken_good k s i h = good_by k s.timers.greatest (time_of i) (nat_lt (time_of i) s.timers.greatest) (bad_call s i) h

  -- of one that is refused the place is told
  pub refusal_place : (k : ℕ) (s : View t) (i : Input) (kind : DriveKind) → refusal_of k s i ≡ Some kind → place_of kind ≡ Some k
  refusal_place k s i kind h = place_by k s.timers.greatest (time_of i) _ (bad_call s i) kind h

  -- no inputs
  pub takes_none : (m : Meaning t) (k : ℕ) (s : View t) (xs : List Step) → xs ≡ [] → TakesAll m k s [] xs s
  unfolding TakesAll
  takes_none m k s [] e = refl
  takes_none m k s (x ∷ xs) e = cc

  -- one input more
  takes_more : (m : Meaning t) (k : ℕ) (s : View t) (is : List Input) (xs : List Step) (mid s' : View t) (i : Input) (x : Step) →
      TakesAll m k s is xs mid → refusal_of (k + length xs) mid i ≡ None → IsStep m (k + length xs) mid i x s' → TakesAll m k s (is ++ i ∷ []) (xs ++ x ∷ []) s'
  unfolding TakesAll
  takes_more m k s [] [] mid s' i x e none h =
      let same : k + 0 ≡ k = omega arith in
      let here : refusal_of k s i ≡ None = subst (λ (v : View t). refusal_of k v i ≡ None) e (subst (λ (n : ℕ). refusal_of n mid i ≡ None) same none) in
      (s', here, subst (λ (v : View t). IsStep m k v i x s') e (subst (λ (n : ℕ). IsStep m n mid i x s') same h), refl)
  takes_more m k s (j ∷ is) (y ∷ xs) mid s' i x r none h =
      let place : k + suc (length xs) ≡ k + 1 + length xs = omega arith in
      (r.0, r.1, r.2, takes_more m (k + 1) r.0 is xs mid s' i x r.3 (subst (λ (n : ℕ). refusal_of n mid i ≡ None) place none) (subst (λ (n : ℕ). IsStep m n mid i x s') place h))
  takes_more m k s [] (y ∷ xs) mid s' i x r none h = absurd r
  takes_more m k s (j ∷ is) [] mid s' i x r none h = absurd r

  -- the inputs up to the next, which isn't refused
  pub takes_next : (m : Meaning t) (s : View t) (is : List Input) (xs ys : List Step) (mid s' : View t) (x : Input) (i k : ℕ) → i < length is → x ≡ get_or is i x → length xs ≡ i → k ≡ i →
      refusal_of k mid x ≡ None → TakesAll m 0 s (take i is) xs mid → Adds m k mid x s' xs ys → TakesAll m 0 s (take (i + 1) is) ys s'
  takes_next m s is xs ys mid s' x i k h e count place none r adds =
      let more : take (i + 1) is ≡ take i is ++ x ∷ [] = take_more is i x h ∙ ap (λ (y : Input). take i is ++ y ∷ []) (sym e) in
      let number : k ≡ 0 + length xs = omega arith in
      subst (λ (js : List Input). TakesAll m 0 s js ys s') (sym more)
      (subst (λ (zs : List Step). TakesAll m 0 s (take i is ++ x ∷ []) zs s') (sym adds.added)
      (takes_more m 0 s (take i is) xs mid s' x adds.step r (subst (λ (n : ℕ). refusal_of n mid x ≡ None) number none) (subst (λ (n : ℕ). IsStep m n mid x adds.step s') number adds.is_step)))

  -- the inputs before were done, and this one asks for a call that can be made
  pub next_good : (m : Meaning t) (s mid : View t) (is : List Input) (xs : List Step) (x : Input) (i k : ℕ) → i < length is → x ≡ get_or is i x → k ≡ i → TakesAll m 0 s (take i is) xs mid →
      refusal_of k mid x ≡ None → bad_call mid x ≡ None
  next_good m s mid is xs x i k h e place taken none = taken_good k mid x none

  -- the inputs before were done, and this one is refused
  pub refused_at : (m : Meaning t) (s last : View t) (is : List Input) (i : Input) (kind : DriveKind) (xs : List Step) (n k : ℕ) (failed : Bool) →
      n < length is → i ≡ get_or is n i → length xs ≡ n → k ≡ n → refusal_of k last i ≡ Some kind → TakesAll m 0 s (take n is) xs last → failed ≡ false → RefusedAt m s is kind xs last failed
  refused_at m s last is i kind xs n k failed h e count place some taken alive =
      let number : k ≡ length xs = place ∙ sym count in
      record {
        input = i;
        behind = drop (n + 1) is;
        here = ap (λ (l : ℕ). drop l is) count ∙ left_from is n i h e;
        first = subst (λ (l : ℕ). refusal_of l last i ≡ Some kind) number some;
        place = refusal_place k last i kind some ∙ ap Some number;
        before = subst (λ (l : ℕ). TakesAll m 0 s (take l is) xs last) (sym count) taken;
        alive = alive;
      }
