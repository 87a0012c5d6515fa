-- Maps under ids, as lists in ascending order: what is found under an id after a change
use Rattle.std.proofs.Common.{◌≡◌, ◌∙◌, ℕ, ◌<◌, ◌==◌, Bool, true, false, cond, List, [], ◌∷◌, Option, None, Some, ap, sym, subst, arith, refl}
use Rattle.std.specs.declared.cmp.Ordering.TheVariants.{Less, Equal, Greater}
use Rattle.std.specs.BTreeMap.{insert_entry, is_at}
use Rattle.std.specs.Map.{lookup, set_value, remove_entry}
use Rattle.std.specs.declared.cmp.Ordering.{Ordering}
use Rattle.std.specs.Ordering.{nat_cmp, match_ordering}
use Rattle.std.proofs.lemmas.Bool.Decides.{nat_tests}
use Rattle.std.proofs.lemmas.Cmp.{ranked}

-- ids that are told to be the same are
pub same_id : (id j : ℕ) → (id == j) ≡ true → id ≡ j
same_id id j is = grind (arith, nat_tests)

-- ---- which keys are found

pub own_key : (id : ℕ) → is_at (nat_cmp id) id ≡ true
own_key id = grind (arith, nat_tests)

at_less : (id k : ℕ) → id < k → is_at (nat_cmp id) k ≡ false
at_less id k less = grind (arith, nat_tests)

at_more : (id k : ℕ) → k < id → is_at (nat_cmp id) k ≡ false
at_more id k more = grind (arith, nat_tests)

at_other : (id j k : ℕ) → (id == j) ≡ false → id ≡ k → is_at (nat_cmp j) k ≡ false
at_other id j k apart is = grind (arith, nat_tests)

pub at_is : (id k : ℕ) → is_at (nat_cmp id) k ≡ true → id ≡ k
at_is id k is = grind (arith, nat_tests)

-- what is found under an id
abbrev pub found : {X : Type 0} → ℕ → List (ℕ × X) → Option X
found id es = lookup (is_at (nat_cmp id)) es

skip : {X : Type 0} (b : Bool) (x y : Option X) → b ≡ false → cond b x y ≡ y
skip true x y is = absurd (cc)
skip false x y is = refl

here : {X : Type 0} (b : Bool) (x y : Option X) → b ≡ true → cond b x y ≡ x
here true x y is = refl
here false x y is = absurd (cc)

-- ---- a value is set

set_step : {X Y : Type 0} (g : Option X → Y) (b : Bool) (j : ℕ) (e : ℕ × X) (es rest : List (ℕ × X)) (v w : X) (o : Option X)
    → cond b (Some e.1) o ≡ Some v → g (Some w) ≡ g (Some v) → (o ≡ Some v → g (found j rest) ≡ g (found j es))
    → g (found j (cond b ((e.0, w) ∷ es) (e ∷ rest))) ≡ g (found j (e ∷ es))
set_step g true j e es rest v w o is same then = by (is_at (nat_cmp j) e.0)
  where
    by : (t : Bool) → g (cond t (Some w) (found j es)) ≡ g (cond t (Some e.1) (found j es))
    by true = same ∙ ap g (sym is)
    by false = refl
set_step g false j e es rest v w o is same then = by (is_at (nat_cmp j) e.0)
  where
    by : (t : Bool) → g (cond t (Some e.1) (found j rest)) ≡ g (cond t (Some e.1) (found j es))
    by true = refl
    by false = then is

-- a value is set in place of one of which the same is told: so is under each id
pub set_alike : {X Y : Type 0} (g : Option X → Y) (id j : ℕ) (es : List (ℕ × X)) (v w : X) → found id es ≡ Some v → g (Some w) ≡ g (Some v)
    → g (found j (set_value (is_at (nat_cmp id)) es w)) ≡ g (found j es)
set_alike g id j [] v w is same = refl
set_alike g id j (e ∷ es) v w is same =
    set_step g (is_at (nat_cmp id) e.0) j e es (set_value (is_at (nat_cmp id)) es w) v w (found id es) is same
    (λ there. set_alike g id j es v w there same)

set_here_step : {X : Type 0} (b : Bool) (id : ℕ) (e : ℕ × X) (es rest : List (ℕ × X)) (v w : X) → is_at (nat_cmp id) e.0 ≡ b
    → cond b (Some e.1) (found id es) ≡ Some v → (found id es ≡ Some v → found id rest ≡ Some w)
    → found id (cond b ((e.0, w) ∷ es) (e ∷ rest)) ≡ Some w
set_here_step true id e es rest v w at is then = here (is_at (nat_cmp id) e.0) (Some w) (found id es) at
set_here_step false id e es rest v w at is then = skip (is_at (nat_cmp id) e.0) (Some e.1) (found id rest) at ∙ then is

-- the value that is set is found
pub set_here : {X : Type 0} (id : ℕ) (es : List (ℕ × X)) (v w : X) → found id es ≡ Some v → found id (set_value (is_at (nat_cmp id)) es w) ≡ Some w
set_here id [] v w is = absurd (cc)
set_here id (e ∷ es) v w is =
    set_here_step (is_at (nat_cmp id) e.0) id e es (set_value (is_at (nat_cmp id)) es w) v w refl is (λ there. set_here id es v w there)

set_other_step : {X : Type 0} (b : Bool) (id j : ℕ) (e : ℕ × X) (es rest : List (ℕ × X)) (w : X) → is_at (nat_cmp id) e.0 ≡ b → (id == j) ≡ false
    → found j rest ≡ found j es → found j (cond b ((e.0, w) ∷ es) (e ∷ rest)) ≡ found j (e ∷ es)
set_other_step true id j e es rest w at apart then =
    skip (is_at (nat_cmp j) e.0) (Some w) (found j es) (at_other id j e.0 apart (at_is id e.0 at))
    ∙ sym (skip (is_at (nat_cmp j) e.0) (Some e.1) (found j es) (at_other id j e.0 apart (at_is id e.0 at)))
set_other_step {X = X} false id j e es rest w at apart then = ap (λ (o : Option X). cond (is_at (nat_cmp j) e.0) (Some e.1) o) then

-- nothing else is found otherwise
pub set_other : {X : Type 0} (id j : ℕ) (es : List (ℕ × X)) (w : X) → (id == j) ≡ false → found j (set_value (is_at (nat_cmp id)) es w) ≡ found j es
set_other id j [] w apart = refl
set_other id j (e ∷ es) w apart =
    set_other_step (is_at (nat_cmp id) e.0) id j e es (set_value (is_at (nat_cmp id)) es w) w refl apart (set_other id j es w apart)

-- ---- an entry comes

new_here_step : {X : Type 0} (r : Ordering) (id : ℕ) (e : ℕ × X) (es rest : List (ℕ × X)) (v : X) → r ≡ nat_cmp id e.0
    → found id rest ≡ Some v → found id (match_ordering r ((id, v) ∷ e ∷ es) ((e.0, v) ∷ es) (e ∷ rest)) ≡ Some v
new_here_step Less id e es rest v r then = here (is_at (nat_cmp id) id) (Some v) (found id (e ∷ es)) (own_key id)
new_here_step Equal id e es rest v r then =
    let same : id ≡ e.0 = ranked id e.0 Equal r in
    here (is_at (nat_cmp id) e.0) (Some v) (found id es) (ap (λ (k : ℕ). is_at (nat_cmp id) k) (sym same) ∙ own_key id)
new_here_step Greater id e es rest v r then =
    let more : e.0 < id = ranked id e.0 Greater r in
    skip (is_at (nat_cmp id) e.0) (Some e.1) (found id rest) (at_more id e.0 more) ∙ then

-- it is found
pub new_here : {X : Type 0} (id : ℕ) (es : List (ℕ × X)) (v : X) → found id (insert_entry nat_cmp es id v) ≡ Some v
new_here id [] v = here (is_at (nat_cmp id) id) (Some v) None (own_key id)
new_here id (e ∷ es) v = new_here_step (nat_cmp id e.0) id e es (insert_entry nat_cmp es id v) v refl (new_here id es v)

new_other_step : {X : Type 0} (r : Ordering) (id j : ℕ) (e : ℕ × X) (es rest : List (ℕ × X)) (v : X) → r ≡ nat_cmp id e.0 → (id == j) ≡ false
    → found j rest ≡ found j es → found j (match_ordering r ((id, v) ∷ e ∷ es) ((e.0, v) ∷ es) (e ∷ rest)) ≡ found j (e ∷ es)
new_other_step Less id j e es rest v r apart then = skip (is_at (nat_cmp j) id) (Some v) (found j (e ∷ es)) (at_other id j id apart refl)
new_other_step Equal id j e es rest v r apart then =
    let same : id ≡ e.0 = ranked id e.0 Equal r in
    skip (is_at (nat_cmp j) e.0) (Some v) (found j es) (at_other id j e.0 apart same)
    ∙ sym (skip (is_at (nat_cmp j) e.0) (Some e.1) (found j es) (at_other id j e.0 apart same))
new_other_step {X = X} Greater id j e es rest v r apart then = ap (λ (o : Option X). cond (is_at (nat_cmp j) e.0) (Some e.1) o) then

-- nothing else is found otherwise
pub new_other : {X : Type 0} (id j : ℕ) (es : List (ℕ × X)) (v : X) → (id == j) ≡ false → found j (insert_entry nat_cmp es id v) ≡ found j es
new_other id j [] v apart = skip (is_at (nat_cmp j) id) (Some v) None (at_other id j id apart refl)
new_other id j (e ∷ es) v apart = new_other_step (nat_cmp id e.0) id j e es (insert_entry nat_cmp es id v) v refl apart (new_other id j es v apart)

-- ---- ids in ascending order

-- all ids lie above one
abbrev pub Above : {X : Type 0} → ℕ → List (ℕ × X) → Type 0
Above k [] = Unit {0}
Above k (e ∷ es) = (k < e.0) × Above k es

-- the ids ascend
abbrev pub Ascends : {X : Type 0} → List (ℕ × X) → Type 0
Ascends [] = Unit {0}
Ascends (e ∷ es) = Above e.0 es × Ascends es

above_less : {X : Type 0} (j k : ℕ) (es : List (ℕ × X)) → j < k → Above k es → Above j es
above_less j k [] less above = tt
above_less j k (e ∷ es) less above = (omega (arith, less, above.0), above_less j k es less above.1)

above_none : {X : Type 0} (k : ℕ) (es : List (ℕ × X)) → Above k es → found k es ≡ None
above_none k [] above = refl
above_none k (e ∷ es) above = skip (is_at (nat_cmp k) e.0) (Some e.1) (found k es) (at_less k e.0 above.0) ∙ above_none k es above.1

above_set : {X : Type 0} (k id : ℕ) (es : List (ℕ × X)) (w : X) → Above k es → Above k (set_value (is_at (nat_cmp id)) es w)
above_set k id [] w above = tt
above_set k id (e ∷ es) w above = by (is_at (nat_cmp id) e.0) (above_set k id es w above.1)
  where
    by : (b : Bool) → Above k (set_value (is_at (nat_cmp id)) es w) → Above k (cond b ((e.0, w) ∷ es) (e ∷ set_value (is_at (nat_cmp id)) es w))
    by true rest = (above.0, above.1)
    by false rest = (above.0, rest)

pub ascends_set : {X : Type 0} (id : ℕ) (es : List (ℕ × X)) (w : X) → Ascends es → Ascends (set_value (is_at (nat_cmp id)) es w)
ascends_set id [] w asc = tt
ascends_set id (e ∷ es) w asc = by (is_at (nat_cmp id) e.0) (ascends_set id es w asc.1)
  where
    by : (b : Bool) → Ascends (set_value (is_at (nat_cmp id)) es w) → Ascends (cond b ((e.0, w) ∷ es) (e ∷ set_value (is_at (nat_cmp id)) es w))
    by true rest = (asc.0, asc.1)
    by false rest = (above_set e.0 id es w asc.0, rest)

above_new : {X : Type 0} (k id : ℕ) (es : List (ℕ × X)) (v : X) → k < id → Above k es → Above k (insert_entry nat_cmp es id v)
above_new k id [] v less above = (less, tt)
above_new k id (e ∷ es) v less above = by (nat_cmp id e.0) (above_new k id es v less above.1)
  where
    by : (r : Ordering) → Above k (insert_entry nat_cmp es id v)
        → Above k (match_ordering r ((id, v) ∷ e ∷ es) ((e.0, v) ∷ es) (e ∷ insert_entry nat_cmp es id v))
    by Less rest = (less, (above.0, above.1))
    by Equal rest = (above.0, above.1)
    by Greater rest = (above.0, rest)

pub ascends_new : {X : Type 0} (id : ℕ) (es : List (ℕ × X)) (v : X) → Ascends es → Ascends (insert_entry nat_cmp es id v)
ascends_new id [] v asc = (tt, tt)
ascends_new id (e ∷ es) v asc = by (nat_cmp id e.0) refl (ascends_new id es v asc.1)
  where
    by : (r : Ordering) → r ≡ nat_cmp id e.0 → Ascends (insert_entry nat_cmp es id v)
        → Ascends (match_ordering r ((id, v) ∷ e ∷ es) ((e.0, v) ∷ es) (e ∷ insert_entry nat_cmp es id v))
    by Less r rest =
        let less : id < e.0 = ranked id e.0 Less r in
        ((less, above_less id e.0 es less asc.0), (asc.0, asc.1))
    by Equal r rest = (asc.0, asc.1)
    by Greater r rest = (above_new e.0 id es v (ranked id e.0 Greater r) asc.0, rest)

above_gone : {X : Type 0} (k id : ℕ) (es : List (ℕ × X)) → Above k es → Above k (remove_entry (is_at (nat_cmp id)) es)
above_gone k id [] above = tt
above_gone k id (e ∷ es) above = by (is_at (nat_cmp id) e.0) (above_gone k id es above.1)
  where
    by : (b : Bool) → Above k (remove_entry (is_at (nat_cmp id)) es) → Above k (cond b es (e ∷ remove_entry (is_at (nat_cmp id)) es))
    by true rest = above.1
    by false rest = (above.0, rest)

pub ascends_gone : {X : Type 0} (id : ℕ) (es : List (ℕ × X)) → Ascends es → Ascends (remove_entry (is_at (nat_cmp id)) es)
ascends_gone id [] asc = tt
ascends_gone id (e ∷ es) asc = by (is_at (nat_cmp id) e.0) (ascends_gone id es asc.1)
  where
    by : (b : Bool) → Ascends (remove_entry (is_at (nat_cmp id)) es) → Ascends (cond b es (e ∷ remove_entry (is_at (nat_cmp id)) es))
    by true rest = asc.1
    by false rest = (above_gone e.0 id es asc.0, rest)

-- ---- an entry leaves

gone_here_step : {X : Type 0} (b : Bool) (id : ℕ) (e : ℕ × X) (es rest : List (ℕ × X)) → is_at (nat_cmp id) e.0 ≡ b → Above e.0 es
    → found id rest ≡ None → found id (cond b es (e ∷ rest)) ≡ None
gone_here_step true id e es rest at above then =
    above_none id es (subst (λ (k : ℕ). Above k es) (sym (at_is id e.0 at)) above)
gone_here_step false id e es rest at above then = skip (is_at (nat_cmp id) e.0) (Some e.1) (found id rest) at ∙ then

-- it isn't found any more
pub gone_here : {X : Type 0} (id : ℕ) (es : List (ℕ × X)) → Ascends es → found id (remove_entry (is_at (nat_cmp id)) es) ≡ None
gone_here id [] asc = refl
gone_here id (e ∷ es) asc =
    gone_here_step (is_at (nat_cmp id) e.0) id e es (remove_entry (is_at (nat_cmp id)) es) refl asc.0 (gone_here id es asc.1)

gone_other_step : {X : Type 0} (b : Bool) (id j : ℕ) (e : ℕ × X) (es rest : List (ℕ × X)) → is_at (nat_cmp id) e.0 ≡ b → (id == j) ≡ false
    → found j rest ≡ found j es → found j (cond b es (e ∷ rest)) ≡ found j (e ∷ es)
gone_other_step true id j e es rest at apart then =
    sym (skip (is_at (nat_cmp j) e.0) (Some e.1) (found j es) (at_other id j e.0 apart (at_is id e.0 at)))
gone_other_step {X = X} false id j e es rest at apart then = ap (λ (o : Option X). cond (is_at (nat_cmp j) e.0) (Some e.1) o) then

-- nothing else is found otherwise
pub gone_other : {X : Type 0} (id j : ℕ) (es : List (ℕ × X)) → (id == j) ≡ false → found j (remove_entry (is_at (nat_cmp id)) es) ≡ found j es
gone_other id j [] apart = refl
gone_other id j (e ∷ es) apart =
    gone_other_step (is_at (nat_cmp id) e.0) id j e es (remove_entry (is_at (nat_cmp id)) es) refl apart (gone_other id j es apart)
