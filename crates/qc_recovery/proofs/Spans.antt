-- Persistent congestion is found in one pass
use Rattle.std.proofs.Common.{◌≡◌, ℕ, ◌+◌, ◌-◌, Bool, true, false, ◌&&◌, ◌||◌, List, [], ◌∷◌, Option, None, Some, refl, sym, ◌∙◌, ap, arith}
use Rattle.std.specs.Prelude.{◌==◌, nat_lt, min}
use Rattle.std.proofs.lemmas.Bool.Decides.{nat_tests}
use Rattle.qc_flight.specs.Packets.{Entry}
use Rattle.qc_recovery.specs.Losses.{earlier_start, is_far, may_start, persists, reaches, run_on, scans}

-- the run from a time, where there is one
abbrev reaches_by : (Entry → Bool) → ℕ → Option ℕ → ℕ → List Entry → Bool
reaches_by marks span None before es = false
reaches_by marks span (Some from) before es = reaches marks span from before es

far_min : (span time a b : ℕ) → nat_lt span (time - min a b) ≡ (nat_lt span (time - a) || nat_lt span (time - b))
far_min span time a b = grind (arith, nat_tests)

bool_reach : (n m p q r s : Bool) → (n && ((m && (p || q)) || (r || s))) ≡ ((n && ((m && p) || r)) || (n && ((m && q) || s)))
bool_reach true true true q r s = refl
bool_reach true true false true true s = refl
bool_reach true true false true false s = refl
bool_reach true true false false true s = refl
bool_reach true true false false false s = refl
bool_reach true false p q true s = refl
bool_reach true false p q false s = refl
bool_reach false m p q r s = refl

-- the earlier of two times reaches what either of them does
reaches_min : (marks : Entry → Bool) (span a b before : ℕ) (es : List Entry) → reaches marks span (min a b) before es ≡ (reaches marks span a before es || reaches marks span b before es)
reaches_min marks span a b before [] = refl
reaches_min marks span a b before (e ∷ es) =
    ap (λ x. (e.0 == before + 1) && ((marks e && x) || reaches marks span (min a b) e.0 es)) (far_min span e.1.at a b)
    ∙ ap (λ x. (e.0 == before + 1) && ((marks e && (nat_lt span (e.1.at - a) || nat_lt span (e.1.at - b))) || x)) (reaches_min marks span a b e.0 es)
    ∙ bool_reach (e.0 == before + 1) (marks e) (nat_lt span (e.1.at - a)) (nat_lt span (e.1.at - b)) (reaches marks span a e.0 es) (reaches marks span b e.0 es)

or_false : (b : Bool) → (b || false) ≡ b
or_false true = refl
or_false false = refl

-- where a packet may be the first of a run, what it reaches is reached too
reaches_start : (marks : Entry → Bool) (span : ℕ) (starts : Bool) (from : Option ℕ) (time before : ℕ) (es : List Entry) → reaches_by marks span (earlier_start starts from time) before es ≡ (reaches_by marks span from before es || (starts && reaches marks span time before es))
reaches_start marks span false from time before es = sym (or_false (reaches_by marks span from before es))
reaches_start marks span true None time before es = refl
reaches_start marks span true (Some from) time before es = reaches_min marks span from time before es

no_far : (b : Bool) → false ≡ ((b && false) || false)
no_far true = refl
no_far false = refl

-- the first step of a run
reaches_run : (marks : Entry → Bool) (span : ℕ) (from : Option ℕ) (before : ℕ) (e : Entry) (es : List Entry) (next : Bool) → (e.0 == before + 1) ≡ next → reaches_by marks span from before (e ∷ es) ≡ ((marks e && is_far span (run_on next from) e.1.at) || reaches_by marks span (run_on next from) e.0 es)
reaches_run marks span None before e es true is = no_far (marks e)
reaches_run marks span None before e es false is = no_far (marks e)
reaches_run marks span (Some from) before e es true is = rw is refl
reaches_run marks span (Some from) before e es false is = rw is (no_far (marks e))

bool_scan : (a b c d : Bool) → (a || (b || c || d)) ≡ ((a || b) || (c || d))
bool_scan true b c d = refl
bool_scan false true c d = refl
bool_scan false false c d = refl

-- the pass finds what a run so far reaches, and what begins later
pub scan_finds : (marks : Entry → Bool) (span : ℕ) (start : Option ℕ) (before : ℕ) (from : Option ℕ) (es : List Entry) → scans marks span start before from es ≡ (reaches_by marks span from before es || persists marks span start es)
scan_finds marks span start before None [] = refl
scan_finds marks span start before (Some from) [] = refl
scan_finds marks span start before from (e ∷ es) =
    let run : Option ℕ = run_on (e.0 == before + 1) from in
    let starts : Bool = marks e && may_start start e.0 in
    let far : Bool = marks e && is_far span run e.1.at in
    ap (λ x. far || x) (scan_finds marks span start e.0 (earlier_start starts run e.1.at) es ∙ ap (λ x. x || persists marks span start es) (reaches_start marks span starts run e.1.at e.0 es))
    ∙ bool_scan far (reaches_by marks span run e.0 es) (starts && reaches marks span e.1.at e.0 es) (persists marks span start es)
    ∙ ap (λ x. x || ((starts && reaches marks span e.1.at e.0 es) || persists marks span start es)) (sym (reaches_run marks span from before e es (e.0 == before + 1) refl))

pub scan_start : (marks : Entry → Bool) (span : ℕ) (start : Option ℕ) (es : List Entry) → scans marks span start 0 None es ≡ persists marks span start es
scan_start marks span start es = scan_finds marks span start 0 None es

pub scan_end : (marks : Entry → Bool) (span : ℕ) (start : Option ℕ) (before : ℕ) (from : Option ℕ) → scans marks span start before from [] ≡ false
scan_end marks span start before from = refl
