-- The steps that a connection counts, and those of a trace.
use Rattle.std.proofs.Common.{◌≡◌, ℕ, ◌+◌, ◌<◌, ◌≤◌, List, [], length, ap, arith}
use Rattle.qc_state.specs.declared.trace.Step.{Step}
use Rattle.qc_conn.specs.Seen.{counted}

-- none was given so far
pub none_counted : (steps : ℕ) (xs : List Step) → steps ≤ 18446744073709551615 → xs ≡ [] → steps ≡ counted steps (length xs)
none_counted steps xs fits e = let none : length xs ≡ 0 = ap length e in omega (arith, fits, none)

-- one more was
pub one_counted : (first mid last : ℕ) (xs ys : List Step) → mid ≡ counted first (length xs) → last ≡ counted mid 1 → length ys ≡ length xs + 1 → last ≡ counted first (length ys)
one_counted first mid last xs ys before after more = omega (arith, before, after, more)

-- no more were, and an input is left
pub counted_before : {I : Type 0} (first mid last at : ℕ) (xs ys : List Step) (is : List I) → mid ≡ counted first (length xs) → last ≡ mid → ys ≡ xs → length xs ≡ at → at < length is →
    (last ≡ counted first (length ys)) × (length ys < length is)
counted_before first mid last at xs ys is before after kept count left =
    let same : length ys ≡ length xs = ap length kept in
    (omega (arith, before, after, same), omega (arith, same, count, left))
