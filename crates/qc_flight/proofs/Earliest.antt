-- The earliest packet below a number, by a look at the front
use Rattle.std.proofs.Common.{◌≡◌, ℕ, zero, suc, ◌+◌, ◌<◌, ◌≤◌, true, false, List, [], ◌∷◌, length, drop, get_or, Option, None, refl, sym, ◌∙◌, ap, subst, add-one, arith}
use Rattle.std.proofs.lemmas.Bool.Decides.{nat_tests}
use Rattle.qc_flight.specs.Packets.{Entry, AllAbove, Ascending, earlier_of, earliest_from, earliest_of, is_below, those}
use Rattle.qc_flight.proofs.Sifting.{those_yes, those_no, those_none}

pub earliest_start : (limit : ℕ) (es : List Entry) → earliest_from None (those (is_below limit) (drop 0 es)) ≡ earliest_of (those (is_below limit) es)
earliest_start limit [] = refl
earliest_start limit (e ∷ es) = refl

earliest_suc : (limit : ℕ) (known : Option ℕ) (es : List Entry) (place : ℕ) (e : Entry) → e ≡ get_or es place e → place < length es → e.0 < limit → earliest_from (earlier_of known e.1.at) (those (is_below limit) (drop (suc place) es)) ≡ earliest_from known (those (is_below limit) (drop place es))
earliest_suc limit known [] place e is within below = absurd (omega arith)
earliest_suc limit known (x ∷ es) zero e is within below =
    let passes : is_below limit e ≡ true = grind (arith, nat_tests) in
    let here : is_below limit x ≡ true = ap (is_below limit) (sym is) ∙ passes in
    rw (those_yes (is_below limit) x es here) (ap (λ y. earliest_from (earlier_of known y.1.at) (those (is_below limit) es)) is)
earliest_suc limit known (x ∷ es) (suc place) e is within below = earliest_suc limit known es place e is (omega arith) below

pub earliest_step : (limit : ℕ) (known : Option ℕ) (es : List Entry) (place : ℕ) (e : Entry) → e ≡ get_or es place e → place < length es → e.0 < limit → earliest_from (earlier_of known e.1.at) (those (is_below limit) (drop (place + 1) es)) ≡ earliest_from known (those (is_below limit) (drop place es))
earliest_step limit known es place e is within below = rw add-one (earliest_suc limit known es place e is within below)

-- from a packet that isn't below the limit on, none is
none_below : (limit n : ℕ) (es : List Entry) → limit ≤ n → AllAbove n es → those (is_below limit) es ≡ []
none_below limit n [] le above = those_none (is_below limit)
none_below limit n (e ∷ es) le above =
    let out : is_below limit e ≡ false = (let high : n < e.0 = above.0 in grind (arith, nat_tests)) in
    those_no (is_below limit) e es out ∙ none_below limit n es le above.1

not_above : (limit : ℕ) (es : List Entry) (x : Entry) → limit ≤ x.0 → AllAbove x.0 es → those (is_below limit) (x ∷ es) ≡ []
not_above limit es x le above =
    let out : is_below limit x ≡ false = grind (arith, nat_tests) in
    those_no (is_below limit) x es out ∙ none_below limit x.0 es le above

pub earliest_stop : (limit : ℕ) (known : Option ℕ) (es : List Entry) (place : ℕ) (e : Entry) → e ≡ get_or es place e → place < length es → limit ≤ e.0 → Ascending es → known ≡ earliest_from known (those (is_below limit) (drop place es))
earliest_stop limit known [] place e is within le order = absurd (omega arith)
earliest_stop limit known (x ∷ es) zero e is within le order =
    let here : limit ≤ x.0 = let P : Entry → Type 0 = λ y. limit ≤ y.0 in subst P is le in
    rw (not_above limit es x here order.0) refl
earliest_stop limit known (x ∷ es) (suc place) e is within le order = earliest_stop limit known es place e is (omega arith) le order.1

pub earliest_end : (limit : ℕ) (known : Option ℕ) (es : List Entry) (place : ℕ) → length es ≤ place → known ≡ earliest_from known (those (is_below limit) (drop place es))
earliest_end limit known [] zero le = rw (those_none (is_below limit)) refl
earliest_end limit known [] (suc place) le = rw (those_none (is_below limit)) refl
earliest_end limit known (x ∷ es) zero le = absurd (omega arith)
earliest_end limit known (x ∷ es) (suc place) le = earliest_end limit known es place (omega arith)
