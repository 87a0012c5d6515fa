-- Numbers that are new as their turn comes are different from one another, and from all that came before.
use Rattle.std.proofs.Common.{◌≡◌, ℕ, Bool, true, false, List, [], ◌∷◌, refl, sym, ◌∙◌, ap, arith}
use Rattle.std.proofs.lemmas.Bool.Decides.{nat_tests}
use Rattle.std.specs.Prelude.{◌==◌, ◌||◌, ◌&&◌, not, nat_lt}
use Rattle.std.specs.List.{list_all}
use Rattle.qc_path.specs.Arrived.{Window, Remembers, arrived, is_among, is_new_among}
use Rattle.qc_path.proofs.Arrivals.{new_among, one_more}
use Rattle.qc_state.specs.Headline.{EachNew, NoneTwice}

-- what exceeds all that came is none of it
none_above : (came : List ℕ) (n : ℕ) → list_all (λ x. nat_lt x n) came ≡ true → is_among came n ≡ false
none_above [] n above = refl
none_above (x ∷ came) n above = grind (arith, nat_tests, none_above came n)

-- one test among three
out_by : (a b c : Bool) → (a ≡ true → c ≡ false) → (a || (b && not c)) ≡ true → c ≡ false
out_by true b c above h = above refl
out_by false true true above h = cc
out_by false true false above h = refl
out_by false false c above h = cc

new_is_out : (came : List ℕ) (n : ℕ) → is_new_among came n ≡ true → is_among came n ≡ false
new_is_out came n h = out_by (list_all (λ x. nat_lt x n) came) _ (is_among came n) (none_above came n) h

both_out : (a b : Bool) → a ≡ false → b ≡ false → (a || b) ≡ false
both_out true b h k = cc
both_out false b h k = k

among_more : (a b : Bool) → b ≡ true → (a || b) ≡ true
among_more true b h = refl
among_more false b h = h

differs : (n m : ℕ) (came : List ℕ) (b : Bool) → (n == m) ≡ b → is_among came n ≡ false → is_among came m ≡ true → b ≡ false
differs n m came true e out among = let same : n ≡ m = grind (arith, nat_tests) in cc (ap (is_among came) same)
differs n m came false e out among = refl

each_out : (came ns : List ℕ) (w : Window) → Remembers came w → EachNew w ns → (m : ℕ) → is_among came m ≡ true → is_among ns m ≡ false
each_out came [] w r h m among = refl
each_out came (n ∷ ns) w r h m among =
    both_out (n == m) (is_among ns m)
    (differs n m came (n == m) refl (new_is_out came n (sym (new_among came w n r) ∙ h.0)) among)
    (each_out (n ∷ came) ns (arrived n w) (one_more came w n r) h.1 m (among_more (n == m) (is_among came m) among))

same_among : (n : ℕ) (came : List ℕ) → is_among (n ∷ came) n ≡ true
same_among n came = grind (arith, nat_tests)

pub none_twice : (came ns : List ℕ) (w : Window) → Remembers came w → EachNew w ns → NoneTwice ns
none_twice came [] w r h = tt
none_twice came (n ∷ ns) w r h = (each_out (n ∷ came) ns (arrived n w) (one_more came w n r) h.1 n (same_among n came), none_twice (n ∷ came) ns (arrived n w) (one_more came w n r) h.1)

pub none_before : (came ns : List ℕ) (w : Window) → Remembers came w → EachNew w ns → (m : ℕ) → is_among came m ≡ true → is_among ns m ≡ false
none_before came ns w r h m among = each_out came ns w r h m among
