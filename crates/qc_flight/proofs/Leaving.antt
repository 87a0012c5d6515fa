-- Packets that are taken out, and those that stay
use Rattle.std.proofs.Common.{◌≡◌, ℕ, ◌<◌, Bool, true, false, ◌||◌, List, [], ◌∷◌, refl, sym, ◌∙◌, ap, arith}
use Rattle.std.specs.Prelude.{◌==◌}
use Rattle.std.proofs.lemmas.Bool.Decides.{nat_tests}
use Rattle.qc_flight.specs.Packets.{AllAbove, Ascending, Entry, has_number, others, those}
use Rattle.qc_flight.proofs.Sifting.{those_yes, those_no, those_none, others_yes, others_no, others_none}

or_third : (a b c : Bool) → (a || (b || c)) ≡ (b || (a || c))
or_third true true c = refl
or_third true false c = refl
or_third false true c = refl
or_third false false c = refl

or_group : (a b c : Bool) → ((a || b) || c) ≡ (a || (b || c))
or_group true b c = refl
or_group false b c = refl

kept_by : (n : ℕ) (p : Entry → Bool) (e : Entry) (es : List Entry) (b : Bool) → p e ≡ b → (has_number n (those p es) || has_number n (others p es)) ≡ has_number n es → (has_number n (those p (e ∷ es)) || has_number n (others p (e ∷ es))) ≡ has_number n (e ∷ es)
kept_by n p e es true is rest =
    rw (those_yes p e es is, others_yes p e es is) (or_group (e.0 == n) (has_number n (those p es)) (has_number n (others p es)) ∙ ap (λ x. (e.0 == n) || x) rest)
kept_by n p e es false is rest =
    rw (those_no p e es is, others_no p e es is) (or_third (has_number n (those p es)) (e.0 == n) (has_number n (others p es)) ∙ ap (λ x. (e.0 == n) || x) rest)

pub number_kept : (n : ℕ) (p : Entry → Bool) (es : List Entry) → (has_number n (those p es) || has_number n (others p es)) ≡ has_number n es
number_kept n p [] = rw (those_none p, others_none p) refl
number_kept n p (e ∷ es) = kept_by n p e es (p e) refl (number_kept n p es)

-- a number that all are above is none of theirs
not_there : (n m : ℕ) (es : List Entry) → AllAbove m es → (m == n) ≡ true → has_number n es ≡ false
not_there n m [] above here = refl
not_there n m (e ∷ es) above here =
    let other : (e.0 == n) ≡ false = (let high : m < e.0 = above.0 in grind (arith, nat_tests)) in
    rw (other, not_there n m es above.1 here) refl

neither : (a b : Bool) → (a || b) ≡ false → (a ≡ false) × (b ≡ false)
neither true b e = absurd (cc)
neither false b e = (refl, e)

once_here : (n : ℕ) (p : Entry → Bool) (e : Entry) (es : List Entry) (b : Bool) → AllAbove e.0 es → (e.0 == n) ≡ b → (has_number n (those p es) ≡ true → has_number n (others p es) ≡ false) → ((e.0 == n) || has_number n (those p es)) ≡ true → has_number n (others p es) ≡ false
once_here n p e es true above is rest here =
    (neither (has_number n (those p es)) (has_number n (others p es)) (number_kept n p es ∙ not_there n e.0 es above is)).1
once_here n p e es false above is rest here = rest (rw is at here)

once_there : (n : ℕ) (p : Entry → Bool) (e : Entry) (es : List Entry) (b : Bool) → AllAbove e.0 es → (e.0 == n) ≡ b → (has_number n (those p es) ≡ true → has_number n (others p es) ≡ false) → has_number n (those p es) ≡ true → ((e.0 == n) || has_number n (others p es)) ≡ false
once_there n p e es true above is rest here =
    let none : has_number n (those p es) ≡ false = (neither (has_number n (those p es)) (has_number n (others p es)) (number_kept n p es ∙ not_there n e.0 es above is)).0 in
    absurd (cc)
once_there n p e es false above is rest here = rw is (rest here)

once_by : (n : ℕ) (p : Entry → Bool) (e : Entry) (es : List Entry) (b : Bool) → p e ≡ b → AllAbove e.0 es → (has_number n (those p es) ≡ true → has_number n (others p es) ≡ false) → has_number n (those p (e ∷ es)) ≡ true → has_number n (others p (e ∷ es)) ≡ false
once_by n p e es true is above rest here =
    rw (others_yes p e es is) (once_here n p e es (e.0 == n) above refl rest (rw (those_yes p e es is) at here))
once_by n p e es false is above rest here =
    rw (others_no p e es is) (once_there n p e es (e.0 == n) above refl rest (rw (those_no p e es is) at here))

pub not_both : (n : ℕ) (p : Entry → Bool) (es : List Entry) → Ascending es → has_number n (those p es) ≡ true → has_number n (others p es) ≡ false
not_both n p [] order here = rw (others_none p) refl
not_both n p (e ∷ es) order here = once_by n p e es (p e) refl order.0 (not_both n p es order.1) here

none_by : (p : Entry → Bool) (e : Entry) (es : List Entry) (b : Bool) → p e ≡ b → (those p es ≡ [] → others p es ≡ es) → those p (e ∷ es) ≡ [] → others p (e ∷ es) ≡ e ∷ es
none_by p e es true is rest none = let some : e ∷ those p es ≡ [] = sym (those_yes p e es is) ∙ none in absurd (cc)
none_by p e es false is rest none = others_no p e es is ∙ ap (λ xs. e ∷ xs) (rest (sym (those_no p e es is) ∙ none))

pub none_taken : (p : Entry → Bool) (es : List Entry) → those p es ≡ [] → others p es ≡ es
none_taken p [] none = others_none p
none_taken p (e ∷ es) none = none_by p e es (p e) refl (none_taken p es) none
