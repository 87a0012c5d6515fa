-- That streams can be written on again waits to be told: one after the other, and none where none waits
use Rattle.std.proofs.Common.{◌≡◌, ◌∙◌, ℕ, ◌<◌, Bool, true, false, cond, [], ◌∷◌, length, Option, None, Some, ap, sym, arith, refl}
use Rattle.std.specs.Option.{unwrap_or}
use Rattle.qc_streams.specs.declared.state.StreamsState.{StreamsState}
use Rattle.qc_streams.specs.Blocked.{BlockedIds, first_blocked, first_gone, is_below}
use Rattle.qc_streams.specs.Events.{EventQueue, given_up_if, place_given_up, place_put_by, put_by_if}
use Rattle.qc_streams.specs.Writable.{all_told, has_room, told_first, writables_told}

-- where none waits nothing is told
none-by : (b : Bool) (below : Option ℕ) (s : StreamsState) (ids : BlockedIds) → ids ≡ [] → cond b (all_told below ids s) s ≡ s
unfolding all_told
none-by true below s ids is = ap (λ (l : BlockedIds). all_told below l s) is
none-by false below s ids is = refl

pub none_told : (below : Option ℕ) (s : StreamsState) → s.blocked ≡ [] → writables_told below s ≡ s
unfolding writables_told
none_told below s is = none-by (has_room s) below s s.blocked is

-- a place that was put by and is given up again
pub given_back : (needs : Bool) (q : EventQueue) → given_up_if needs (put_by_if needs q) ≡ q
unfolding place_put_by place_given_up
given_back true q = ap (λ (n : ℕ). (let x : EventQueue = record q { places = n } in x)) (omega arith)
given_back false q = refl

-- ---- one of those that wait, and the others

step-by : (b : Bool) (below : Option ℕ) (x y : ℕ × ℕ) (ys : BlockedIds) (s : StreamsState) → cond b (Some y) None ≡ Some x
    → cond b (all_told below ys (told_first y ys s)) s
    ≡ all_told below (cond b ys (y ∷ ys)) (told_first x (cond b ys (y ∷ ys)) s)
step-by true below x y ys s is = ap (λ (z : ℕ × ℕ). all_told below ys (told_first z ys s)) (ap (λ (o : Option (ℕ × ℕ)). unwrap_or o y) is)
step-by false below x y ys s is = absurd (cc)

step : (below : Option ℕ) (x : ℕ × ℕ) (ids : BlockedIds) (s : StreamsState) → first_blocked below ids ≡ Some x
    → all_told below ids s ≡ all_told below (first_gone below ids) (told_first x (first_gone below ids) s)
unfolding all_told
step below x [] s is = absurd (cc)
step below x (y ∷ ys) s is = step-by (is_below below y.1) below x y ys s is

less-by : (b : Bool) (x y : ℕ × ℕ) (ys : BlockedIds) → cond b (Some y) None ≡ Some x → length (cond b ys (y ∷ ys)) < length (y ∷ ys)
less-by true x y ys is = omega arith
less-by false x y ys is = absurd (cc)

pub fewer : (below : Option ℕ) (x : ℕ × ℕ) (ids : BlockedIds) → first_blocked below ids ≡ Some x → length (first_gone below ids) < length ids
fewer below x [] is = absurd (cc)
fewer below x (y ∷ ys) is = less-by (is_below below y.1) x y ys is

-- so one turn of the loop leaves what is to come
pub one_told : (below : Option ℕ) (x : ℕ × ℕ) (s : StreamsState) (ids : BlockedIds) (u : StreamsState) → Some x ≡ first_blocked below s.blocked
    → ids ≡ first_gone below s.blocked → u ≡ told_first x ids (let r : StreamsState = record s { blocked = ids } in r)
    → all_told below u.blocked u ≡ all_told below s.blocked s
one_told below x s ids u is gone told =
    ap (λ (r : StreamsState). all_told below r.blocked r) (told ∙ ap (λ (l : BlockedIds). told_first x l s) gone)
    ∙ sym (step below x s.blocked s (sym is))

-- and it ends where the first one isn't to be told
done-by : (b : Bool) (below : Option ℕ) (y : ℕ × ℕ) (ys : BlockedIds) (s : StreamsState) → cond b (Some y) None ≡ None
    → cond b (all_told below ys (told_first y ys s)) s ≡ s
done-by true below y ys s is = absurd (cc)
done-by false below y ys s is = refl

done : (below : Option ℕ) (ids : BlockedIds) (s : StreamsState) → first_blocked below ids ≡ None → all_told below ids s ≡ s
unfolding all_told
done below [] s is = refl
done below (y ∷ ys) s is = done-by (is_below below y.1) below y ys s is

stays-by : (b : Bool) (y : ℕ × ℕ) (ys : BlockedIds) → cond b (Some y) None ≡ None → cond b ys (y ∷ ys) ≡ y ∷ ys
stays-by true y ys is = absurd (cc)
stays-by false y ys is = refl

stays : (below : Option ℕ) (ids : BlockedIds) → first_blocked below ids ≡ None → first_gone below ids ≡ ids
stays below [] is = refl
stays below (y ∷ ys) is = stays-by (is_below below y.1) y ys is

pub all_are : (below : Option ℕ) (s : StreamsState) (ids : BlockedIds) → None ≡ first_blocked below s.blocked → ids ≡ first_gone below s.blocked
    → (let r : StreamsState = record s { blocked = ids } in r) ≡ all_told below s.blocked s
all_are below s ids is gone =
    ap (λ (l : BlockedIds). (let r : StreamsState = record s { blocked = l } in r)) (gone ∙ stays below s.blocked (sym is))
    ∙ sym (done below s.blocked s (sym is))
