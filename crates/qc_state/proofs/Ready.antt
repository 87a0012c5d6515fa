-- The bytes of a CRYPTO stream that can be read in order, read chunk by chunk.
use Rattle.std.proofs.Common.{◌≡◌, ℕ, suc, ◌+◌, ◌<◌, List, [], ◌∷◌, ◌++◌, length, drop, refl, ap, sym, ◌∙◌, subst, true, false, IsTrue, ◌==◌, Option, None, Some, arith, length-append}
use Rattle.std.proofs.lemmas.Bool.Decides.{nat_tests}
use Rattle.std.proofs.lemmas.List.{append-nil, append_assoc, drop-drop}
use Rattle.qc_assembler.specs.Assembly.{Assembly, IsFront, advanced, begins_at, bytes_of, is_readable, run}
use Rattle.qc_state.specs.Lower.{front_run, ready_bytes}

-- bytes in a row stand at the front
front_of_run : (o : ℕ) (bs : List ℕ) (rest : List (ℕ × ℕ)) → front_run o (run o bs ++ rest) ≡ bs ++ front_run (o + length bs) rest
unfolding run
front_of_run o [] rest = ap (λ (n : ℕ). front_run n rest) (omega arith)
front_of_run o (b ∷ bs) rest =
    let same : (o == o) ≡ true = grind (arith, nat_tests) in
    rw same (ap (λ (l : List ℕ). b ∷ l) (front_of_run (suc o) bs rest ∙ ap (λ (n : ℕ). bs ++ front_run n rest) (omega arith)))

-- a chunk and what can be read behind it
pub chunk_and : (most : ℕ) (a : Assembly) (chunk : Option (List ℕ)) → IsFront most a chunk → ready_bytes a ≡ bytes_of chunk ++ ready_bytes (advanced (length (bytes_of chunk)) a)
unfolding ready_bytes advanced
chunk_and most a chunk h =
    ap (front_run a.read) h.first ∙ front_of_run a.read (bytes_of chunk) (drop (length (bytes_of chunk)) a.came)

-- nothing can be read where the next byte hasn't come
none_by : (o : ℕ) (came : List (ℕ × ℕ)) → begins_at o came ≡ false → front_run o came ≡ []
unfolding begins_at
none_by o [] h = refl
none_by o (x ∷ xs) h = rw h refl

pub none_ready : (most : ℕ) (a : Assembly) (chunk : Option (List ℕ)) → IsFront most a chunk → chunk ≡ None → ready_bytes a ≡ []
unfolding ready_bytes is_readable
none_ready most a None h e = none_by a.read a.came (sym h.given)
none_ready most a (Some bs) h e = cc

-- a row has as many places as bytes
run_length : (o : ℕ) (bs : List ℕ) → length (run o bs) ≡ length bs
unfolding run
run_length o [] = refl
run_length o (b ∷ bs) = ap suc (run_length (suc o) bs)

-- the rest is shorter
pub shorter : (most : ℕ) (a : Assembly) (bs : List ℕ) (chunk : Option (List ℕ)) → 0 < most → IsFront most a chunk → chunk ≡ Some bs → length (advanced (length (bytes_of chunk)) a).came < length a.came
unfolding advanced bytes_of is_readable
shorter most a bs None some h e = cc
shorter most a bs (Some c) some h e =
    let readable : IsTrue (is_readable a) = sym h.given in
    let more : 0 < length c = h.some readable some in
    let all : length a.came ≡ length (run a.read c ++ drop (length c) a.came) = ap length h.first in
    omega (arith, more, all, length-append (run a.read c) (drop (length c) a.came), run_length a.read c)

-- before anything is read
pub first_all : (a : Assembly) (bs : List ℕ) → bs ≡ [] → bs ++ ready_bytes a ≡ ready_bytes a
first_all a bs e = ap (λ (l : List ℕ). l ++ ready_bytes a) e

pub first_none : (a : Assembly) (bs : List ℕ) → bs ≡ [] → a ≡ advanced (length bs) a
unfolding advanced
first_none a bs e =
    let zero_read : a.read ≡ a.read + length bs = omega (arith, ap length e) in
    rw e (ap (λ (n : ℕ). record a { read = n }) (omega arith))

-- a chunk was read
pub shorter_now : (most : ℕ) (a b : Assembly) (bs : List ℕ) (chunk : Option (List ℕ)) → 0 < most → IsFront most a chunk → chunk ≡ Some bs → b ≡ advanced (length (bytes_of chunk)) a → length b.came < length a.came
shorter_now most a b bs chunk some h e after = subst (λ (x : Assembly). length x.came < length a.came) (sym after) (shorter most a bs chunk some h e)

pub more_all : (most : ℕ) (first a b : Assembly) (bs slice before after : List ℕ) (chunk : Option (List ℕ)) → IsFront most a chunk → chunk ≡ Some bs → slice ≡ bs → b ≡ advanced (length (bytes_of chunk)) a →
    after ≡ before ++ slice → before ++ ready_bytes a ≡ ready_bytes first → after ++ ready_bytes b ≡ ready_bytes first
unfolding bytes_of
more_all most first a b bs slice before after chunk h e is_slice is_b is_after held =
    let bytes : bytes_of chunk ≡ bs = ap bytes_of e in
    let both : ready_bytes a ≡ slice ++ ready_bytes b =
    chunk_and most a chunk h ∙ ap (λ (l : List ℕ). l ++ ready_bytes (advanced (length (bytes_of chunk)) a)) (bytes ∙ sym is_slice) ∙ ap (λ (x : Assembly). slice ++ ready_bytes x) (sym is_b) in
    ap (λ (l : List ℕ). l ++ ready_bytes b) is_after ∙ append_assoc before slice (ready_bytes b) ∙ ap (λ (l : List ℕ). before ++ l) (sym both) ∙ held

pub more_none : (first a b : Assembly) (bs slice before after : List ℕ) (chunk : Option (List ℕ)) → chunk ≡ Some bs → slice ≡ bs → b ≡ advanced (length (bytes_of chunk)) a →
    after ≡ before ++ slice → a ≡ advanced (length before) first → b ≡ advanced (length after) first
unfolding bytes_of advanced
more_none first a b bs slice before after chunk e is_slice is_b is_after held =
    let count : length (bytes_of chunk) ≡ length slice = ap (λ (x : Option (List ℕ)). length (bytes_of x)) e ∙ ap length (sym is_slice) in
    let total : length after ≡ length before + length slice = ap length is_after ∙ length-append before slice in
    let place : first.read + length before + length (bytes_of chunk) ≡ first.read + length after = omega (arith, count, total) in
    let left : drop (length (bytes_of chunk)) (drop (length before) first.came) ≡ drop (length after) first.came = drop-drop (length (bytes_of chunk)) (length before) first.came ∙ ap (λ (n : ℕ). drop n first.came) (omega (arith, count, total)) in
    is_b ∙ ap (λ (x : Assembly). advanced (length (bytes_of chunk)) x) held ∙ ap (λ (n : ℕ). record { read = n; ahead = first.ahead; came = drop (length (bytes_of chunk)) (drop (length before) first.came) }) place
    ∙ ap (λ (l : List (ℕ × ℕ)). record { read = first.read + length after; ahead = first.ahead; came = l }) left

-- nothing more can be read
pub none_left : (most : ℕ) (first a : Assembly) (before : List ℕ) (chunk : Option (List ℕ)) → IsFront most a chunk → chunk ≡ None → before ++ ready_bytes a ≡ ready_bytes first → before ≡ ready_bytes first
none_left most first a before chunk h e held = sym (append-nil before) ∙ ap (λ (l : List ℕ). before ++ l) (sym (none_ready most a chunk h e)) ∙ held

pub rest_left : (first a b : Assembly) (n : ℕ) (chunk : Option (List ℕ)) → chunk ≡ None → b ≡ advanced (length (bytes_of chunk)) a → a ≡ advanced n first → b ≡ advanced n first
unfolding advanced bytes_of
rest_left first a b n chunk e is_b held =
    let none : length (bytes_of chunk) ≡ 0 = ap (λ (x : Option (List ℕ)). length (bytes_of x)) e in
    let same : a.read + 0 ≡ a.read = omega arith in
    is_b ∙ ap (λ (k : ℕ). advanced k a) none ∙ ap (λ (k : ℕ). record { read = k; ahead = a.ahead; came = a.came }) same ∙ held
