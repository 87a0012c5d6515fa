-- How many packets at the front have a number up to a limit
use Rattle.std.proofs.Common.{◌≡◌, ℕ, zero, suc, ◌+◌, ◌<◌, ◌≤◌, Bool, true, false, not, List, [], ◌∷◌, length, drop, get_or, refl, sym, ◌∙◌, ap, subst, add-one, arith}
use Rattle.std.specs.Prelude.{cond, nat_le}
use Rattle.std.proofs.lemmas.Bool.Decides.{nat_tests}
use Rattle.qc_flight.specs.Packets.{Entry, AllAbove, Ascending, others, up_to}

front_suc : (limit : ℕ) (es : List Entry) (count : ℕ) (e : Entry) → e ≡ get_or es count e → count < length es → e.0 ≤ limit → count + up_to limit (drop count es) ≡ suc count + up_to limit (drop (suc count) es)
front_suc limit [] count e is within le = absurd (omega arith)
front_suc limit (x ∷ es) zero e is within le =
    let P : Entry → Type 0 = λ y. y.0 ≤ limit in
    let here : x.0 ≤ limit = subst P is le in
    let passes : nat_le x.0 limit ≡ true = grind (arith, nat_tests) in
    rw passes (omega arith)
front_suc limit (x ∷ es) (suc count) e is within le = let rest = front_suc limit es count e is (omega arith) le in omega arith

-- a packet up to the limit is counted
pub front_step : (limit : ℕ) (es : List Entry) (count : ℕ) (e : Entry) → e ≡ get_or es count e → count < length es → e.0 ≤ limit → count + up_to limit (drop count es) ≡ up_to limit es → (count + 1) + up_to limit (drop (count + 1) es) ≡ up_to limit es
front_step limit es count e is within le so_far = rw add-one (sym (front_suc limit es count e is within le) ∙ so_far)

drop_zero : (es : List Entry) (count : ℕ) → length es ≤ count → drop count es ≡ []
drop_zero [] zero le = refl
drop_zero [] (suc count) le = refl
drop_zero (x ∷ es) zero le = absurd (omega arith)
drop_zero (x ∷ es) (suc count) le = drop_zero es count (omega arith)

pub front_end : (limit : ℕ) (es : List Entry) (count : ℕ) → length es ≤ count → count + up_to limit (drop count es) ≡ up_to limit es → count ≡ up_to limit es
front_end limit es count le so_far = let none : up_to limit (drop count es) ≡ 0 = ap (up_to limit) (drop_zero es count le) in omega arith

-- a packet above the limit ends the count
stop_at : (limit : ℕ) (es : List Entry) (count : ℕ) (e : Entry) → e ≡ get_or es count e → count < length es → limit < e.0 → up_to limit (drop count es) ≡ 0
stop_at limit [] count e is within less = absurd (omega arith)
stop_at limit (x ∷ es) zero e is within less =
    let P : Entry → Type 0 = λ y. limit < y.0 in
    let here : limit < x.0 = subst P is less in
    let fails : nat_le x.0 limit ≡ false = grind (arith, nat_tests) in
    rw fails refl
stop_at limit (x ∷ es) (suc count) e is within less = stop_at limit es count e is (omega arith) less

pub front_stop : (limit : ℕ) (es : List Entry) (count : ℕ) (e : Entry) → e ≡ get_or es count e → count < length es → limit < e.0 → count + up_to limit (drop count es) ≡ up_to limit es → count ≡ up_to limit es
front_stop limit es count e is within less so_far = let none = stop_at limit es count e is within less in omega arith

-- packets above a number that is above the limit don't count
none_count : (limit n : ℕ) (es : List Entry) → limit < n → AllAbove n es → up_to limit es ≡ 0
none_count limit n [] less above = refl
none_count limit n (e ∷ es) less above =
    let fails : nat_le e.0 limit ≡ false = (let high : n < e.0 = above.0 in grind (arith, nat_tests)) in
    rw fails refl

kept_yes : (limit : ℕ) (e : Entry) (es fs : List Entry) (b : Bool) → nat_le e.0 limit ≡ b → up_to limit fs ≤ up_to limit es → up_to limit (e ∷ fs) ≤ up_to limit (e ∷ es)
kept_yes limit e es fs true is le = rw is (omega arith)
kept_yes limit e es fs false is le = rw is (omega arith)

kept_no : (limit : ℕ) (e : Entry) (es fs : List Entry) (b : Bool) → nat_le e.0 limit ≡ b → AllAbove e.0 es → up_to limit fs ≤ up_to limit es → up_to limit fs ≤ up_to limit (e ∷ es)
kept_no limit e es fs true is above le = rw is (omega arith)
kept_no limit e es fs false is above le =
    let less : limit < e.0 = grind (arith, nat_tests) in
    let none : up_to limit es ≡ 0 = none_count limit e.0 es less above in
    omega arith

kept_count : (limit : ℕ) (e : Entry) (es fs : List Entry) (b : Bool) → AllAbove e.0 es → up_to limit fs ≤ up_to limit es → up_to limit (cond b (e ∷ fs) fs) ≤ up_to limit (e ∷ es)
kept_count limit e es fs true above le = kept_yes limit e es fs (nat_le e.0 limit) refl le
kept_count limit e es fs false above le = kept_no limit e es fs (nat_le e.0 limit) refl above le

pub fewer_stay : (limit : ℕ) (p : Entry → Bool) (es : List Entry) → Ascending es → up_to limit (others p es) ≤ up_to limit es
unfolding others
fewer_stay limit p [] order = omega arith
fewer_stay limit p (e ∷ es) order = kept_count limit e es (others p es) (not (p e)) order.0 (fewer_stay limit p es order.1)
