-- What is given was queued, in order, once
use Rattle.std.proofs.Common.{◌≡◌, ◌∙◌, ap, sym, ℕ, ◌+◌, ◌≤◌, inl, inr, ◌⊎◌, List, [], ◌∷◌, ◌++◌, Bool, true, false, cond, length, arith, refl, subst, append_assoc}
use Rattle.std.proofs.lemmas.Bool.{le-leb, leb-true}
use Rattle.std.specs.Prelude.{nat_le}
use Rattle.std.specs.List.{filter}
use Rattle.qc_datagrams.specs.Queue.{first, fits, has_room, no_longer_than, queued, rest, total, weight, with_room}
use Rattle.qc_datagrams.specs.Given.{Step, Queues, Takes, Drops, Clears, after_step, after, queued_by, all_queued, given_by, all_given, AreInOrder, held, AllFit, GivesInOrder, GivesAll, StaysWithin}

append_none : (ds : List (List ℕ)) → ds ++ [] ≡ ds
append_none [] = refl
append_none (d ∷ ds) = ap (λ (l : List (List ℕ)). d ∷ l) (append_none ds)

-- ---- lists of which one has some of the other's

all_in : (xs : List (List ℕ)) → AreInOrder xs xs
unfolding AreInOrder
all_in [] = tt
all_in (x ∷ xs) = inl (refl, all_in xs)

through : (xs ys zs : List (List ℕ)) → AreInOrder xs ys → AreInOrder ys zs → AreInOrder xs zs
unfolding AreInOrder
through [] ys zs a b = tt
through (x ∷ xs) [] zs a b = absurd a
through (x ∷ xs) (y ∷ ys) [] a b = absurd b
through (x ∷ xs) (y ∷ ys) (z ∷ zs) a (inr b) = inr (through (x ∷ xs) (y ∷ ys) zs a b)
through (x ∷ xs) (y ∷ ys) (z ∷ zs) (inl a) (inl b) = inl (a.0 ∙ b.0, through xs ys zs a.1 b.1)
through (x ∷ xs) (y ∷ ys) (z ∷ zs) (inr a) (inl b) = inr (through (x ∷ xs) ys zs a b.1)

behind : (g xs ys : List (List ℕ)) → AreInOrder xs ys → AreInOrder (g ++ xs) (g ++ ys)
unfolding AreInOrder
behind [] xs ys a = a
behind (x ∷ g) xs ys a = inl (refl, behind g xs ys a)

more : (x : List ℕ) (xs ys : List (List ℕ)) → AreInOrder xs ys → AreInOrder xs (x ∷ ys)
unfolding AreInOrder
more x [] ys a = tt
more x (y ∷ xs) ys a = inr a

last_in : (b c : List (List ℕ)) → AreInOrder c (b ++ c)
last_in [] c = all_in c
last_in (y ∷ b) c = more y c (b ++ c) (last_in b c)

before : (xs ys c : List (List ℕ)) → AreInOrder xs ys → AreInOrder (xs ++ c) (ys ++ c)
unfolding AreInOrder
before [] ys c a = last_in ys c
before (x ∷ xs) [] c a = absurd a
before (x ∷ xs) (y ∷ ys) c (inl a) = inl (a.0, before xs ys c a.1)
before (x ∷ xs) (y ∷ ys) c (inr a) = inr (before (x ∷ xs) ys c a)

none_in : (ds : List (List ℕ)) → AreInOrder [] ds
unfolding AreInOrder
none_in ds = tt

-- ---- what a step leaves

room_in : (limit : ℕ) (d : List ℕ) (ds : List (List ℕ)) → AreInOrder (with_room limit d ds) ds
unfolding with_room AreInOrder
room_in limit d [] = tt
room_in limit d (x ∷ xs) = by (has_room limit d (x ∷ xs)) (room_in limit d xs)
  where
    by : (t : Bool) → AreInOrder (with_room limit d xs) xs → AreInOrder (cond t (x ∷ xs) (with_room limit d xs)) (x ∷ xs)
    by true some = inl (refl, all_in xs)
    by false some = more x (with_room limit d xs) xs some

short_in : (most : ℕ) (ds : List (List ℕ)) → AreInOrder (no_longer_than most ds) ds
unfolding no_longer_than AreInOrder
short_in most [] = tt
short_in most (x ∷ xs) = by (nat_le (length x) most) (short_in most xs)
  where
    by : (t : Bool) → AreInOrder (filter (λ d. nat_le (length d) most) xs) xs
        → AreInOrder (cond t (x ∷ filter (λ d. nat_le (length d) most) xs) (filter (λ d. nat_le (length d) most) xs)) (x ∷ xs)
    by true some = inl (refl, some)
    by false some = more x (filter (λ d. nat_le (length d) most) xs) xs some

first_rest : (ds : List (List ℕ)) → first ds ++ rest ds ≡ ds
unfolding first rest
first_rest [] = refl
first_rest (d ∷ ds) = refl

queued_in : (limit : ℕ) (d : List ℕ) (g ds q : List (List ℕ)) → AreInOrder (g ++ ds) q → AreInOrder (g ++ queued limit d ds) (q ++ d ∷ [])
unfolding queued
queued_in limit d g ds q a =
    subst (λ (l : List (List ℕ)). AreInOrder l (q ++ d ∷ [])) (append_assoc g (with_room limit d ds) (d ∷ []))
    (before (g ++ with_room limit d ds) q (d ∷ []) (through (g ++ with_room limit d ds) (g ++ ds) q (behind g (with_room limit d ds) ds (room_in limit d ds)) a))

given_in : (xs : List Step) (g ds q : List (List ℕ)) → AreInOrder (g ++ ds) q → AreInOrder (g ++ (all_given xs ds ++ after xs ds)) (q ++ all_queued xs)
unfolding after after_step all_given given_by all_queued queued_by
given_in [] g ds q a = subst (λ (l : List (List ℕ)). AreInOrder (g ++ ds) l) (sym (append_none q)) a
given_in (Queues limit d ∷ xs) g ds q a =
    subst (λ (l : List (List ℕ)). AreInOrder (g ++ (all_given xs (queued limit d ds) ++ after xs (queued limit d ds))) l) (append_assoc q (d ∷ []) (all_queued xs))
    (given_in xs g (queued limit d ds) (q ++ d ∷ []) (queued_in limit d g ds q a))
given_in (Takes ∷ xs) g ds q a =
    let here : (g ++ first ds) ++ rest ds ≡ g ++ ds = append_assoc g (first ds) (rest ds) ∙ ap (λ (l : List (List ℕ)). g ++ l) (first_rest ds) in
    let there : (g ++ first ds) ++ (all_given xs (rest ds) ++ after xs (rest ds)) ≡ g ++ ((first ds ++ all_given xs (rest ds)) ++ after xs (rest ds)) =
    append_assoc g (first ds) (all_given xs (rest ds) ++ after xs (rest ds))
    ∙ ap (λ (l : List (List ℕ)). g ++ l) (sym (append_assoc (first ds) (all_given xs (rest ds)) (after xs (rest ds)))) in
    subst (λ (l : List (List ℕ)). AreInOrder l (q ++ all_queued xs)) there
    (given_in xs (g ++ first ds) (rest ds) q (subst (λ (l : List (List ℕ)). AreInOrder l q) (sym here) a))
given_in (Drops most ∷ xs) g ds q a =
    given_in xs g (no_longer_than most ds) q (through (g ++ no_longer_than most ds) (g ++ ds) q (behind g (no_longer_than most ds) ds (short_in most ds)) a)
given_in (Clears ∷ xs) g ds q a = given_in xs g [] q (through (g ++ []) (g ++ ds) q (behind g [] ds (none_in ds)) a)

pub gives_in_order : (xs : List Step) → GivesInOrder xs
unfolding GivesInOrder AreInOrder
gives_in_order xs = given_in xs [] [] [] tt

-- ---- where all fit

held_total : (ds : List (List ℕ)) → held ds ≡ total ds
unfolding held total weight
held_total [] = refl
held_total (d ∷ ds) = ap (λ (n : ℕ). length d + 32 + n) (held_total ds)

room_there : (limit : ℕ) (d : List ℕ) (ds : List (List ℕ)) → held ds + (length d + 32) ≤ limit → queued limit d ds ≡ ds ++ d ∷ []
unfolding queued with_room has_room fits weight
room_there limit d [] room = refl
room_there limit d (x ∷ xs) room =
    let enough : total (x ∷ xs) + (length d + 32) ≤ limit = omega (arith, room, held_total (x ∷ xs)) in
    rw (le-leb (total (x ∷ xs) + (length d + 32)) limit enough) refl

all_in_turn : (xs : List Step) (g ds q : List (List ℕ)) → AllFit xs ds → g ++ ds ≡ q → g ++ (all_given xs ds ++ after xs ds) ≡ q ++ all_queued xs
unfolding AllFit after after_step all_given given_by all_queued queued_by
all_in_turn [] g ds q fit is = is ∙ sym (append_none q)
all_in_turn (Queues limit d ∷ xs) g ds q fit is =
    all_in_turn xs g (queued limit d ds) (q ++ d ∷ []) fit.1
    (ap (λ (l : List (List ℕ)). g ++ l) (room_there limit d ds fit.0) ∙ sym (append_assoc g ds (d ∷ [])) ∙ ap (λ (l : List (List ℕ)). l ++ d ∷ []) is)
    ∙ append_assoc q (d ∷ []) (all_queued xs)
all_in_turn (Takes ∷ xs) g ds q fit is =
    ap (λ (l : List (List ℕ)). g ++ l) (append_assoc (first ds) (all_given xs (rest ds)) (after xs (rest ds)))
    ∙ sym (append_assoc g (first ds) (all_given xs (rest ds) ++ after xs (rest ds)))
    ∙ all_in_turn xs (g ++ first ds) (rest ds) q fit (append_assoc g (first ds) (rest ds) ∙ ap (λ (l : List (List ℕ)). g ++ l) (first_rest ds) ∙ is)
all_in_turn (Drops most ∷ xs) g ds q fit is = absurd fit
all_in_turn (Clears ∷ xs) g ds q fit is = absurd fit

pub gives_all : (xs : List Step) → GivesAll xs
unfolding GivesAll
gives_all xs = λ fit. all_in_turn xs [] [] [] fit refl

-- ---- within the buffer

total_last : (ds : List (List ℕ)) (d : List ℕ) → total (ds ++ d ∷ []) ≡ total ds + weight d
unfolding total
total_last [] d = omega arith
total_last (x ∷ xs) d = omega (arith, total_last xs d)

within : (limit : ℕ) (d : List ℕ) (ds : List (List ℕ)) → (queued limit d ds ≡ d ∷ []) ⊎ (total (queued limit d ds) ≤ limit)
unfolding queued with_room has_room fits
within limit d [] = inl refl
within limit d (x ∷ xs) = by (nat_le (total (x ∷ xs) + weight d) limit) refl (within limit d xs)
  where
    by : (t : Bool) → nat_le (total (x ∷ xs) + weight d) limit ≡ t → (queued limit d xs ≡ d ∷ []) ⊎ (total (queued limit d xs) ≤ limit)
        → (cond t (x ∷ xs) (with_room limit d xs) ++ d ∷ [] ≡ d ∷ []) ⊎ (total (cond t (x ∷ xs) (with_room limit d xs) ++ d ∷ []) ≤ limit)
    by true is rest = inr (omega (arith, leb-true (total (x ∷ xs) + weight d) limit is, total_last (x ∷ xs) d))
    by false is rest = rest

pub stays_within : (xs : List Step) → StaysWithin xs
unfolding StaysWithin after_step
stays_within xs = λ limit d. either limit (queued limit d (after xs [])) d (within limit d (after xs []))
  where
    either : (limit : ℕ) (ds : List (List ℕ)) (d : List ℕ) → (ds ≡ d ∷ []) ⊎ (total ds ≤ limit) → (ds ≡ d ∷ []) ⊎ (held ds ≤ limit)
    either limit ds d (inl alone) = inl alone
    either limit ds d (inr fits) = inr (omega (arith, fits, held_total ds))
