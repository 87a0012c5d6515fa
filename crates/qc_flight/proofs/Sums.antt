-- Sums over packets
use Rattle.std.proofs.Common.{◌≡◌, ℕ, zero, suc, ◌+◌, ◌-◌, ◌*◌, ◌<◌, ◌≤◌, ◌^◌, Bool, true, false, not, List, [], ◌∷◌, ◌++◌, length, drop, get_or, refl, sym, ◌∙◌, ap, subst, add-one, arith}
use Rattle.std.specs.Prelude.{cond, ◌↔◌}
use Rattle.std.proofs.lemmas.List.Sums.{sum_by-cons, sum_by_push}
use Rattle.std.proofs.lemmas.List.Filters.{sum_by-filter_both}
use Rattle.qc_flight.specs.Packets.{Entry, AllAbove, AllBelow, AllFit, Ascending, IsCounted, bytes_of, counted_bytes, counted_of, counted_one, counts_less, counts_minus, counts_of, counts_with, eliciting_of, eliciting_one, others, those}
use Rattle.qc_flight.specs.declared.counts.Counts.{Counts}

abbrev record_of : ℕ → ℕ → ℕ → Counts
record_of a b c = record { bytes = a; eliciting = b; counted = c }

record_same : (a b c x y z : ℕ) → a ≡ x → b ≡ y → c ≡ z → record_of a b c ≡ record_of x y z
record_same a b c x y z e f g = ap (λ n. record_of n b c) e ∙ ap (λ n. record_of x n c) f ∙ ap (λ n. record_of x y n) g

cond_fits : (b : Bool) (n : ℕ) → n ≤ 18446744073709551615 → cond b n 0 ≤ 18446744073709551615
cond_fits true n le = le
cond_fits false n le = omega arith

cond_one : (b : Bool) → cond b 1 0 ≤ 1
cond_one true = omega arith
cond_one false = omega arith

-- one packet after the other is taken off
minus_cons : (c : Counts) (e : Entry) (es : List Entry) → counts_minus (counts_less c e.1) es ≡ counts_minus c (e ∷ es)
unfolding counts_minus counts_less bytes_of eliciting_of counted_of
minus_cons c e es =
    let bytes = sum_by-cons counted_bytes e es in
    let eliciting = sum_by-cons eliciting_one e es in
    let counted = sum_by-cons counted_one e es in
    rw (bytes, eliciting, counted) (record_same _ _ _ _ _ _ (omega arith) (omega arith) (omega arith))

minus_suc : (c : Counts) (es : List Entry) (place : ℕ) (e : Entry) → e ≡ get_or es place e → place < length es → counts_minus (counts_less c e.1) (drop (suc place) es) ≡ counts_minus c (drop place es)
minus_suc c [] place e is within = absurd (omega arith)
minus_suc c (x ∷ es) zero e is within = ap (λ y. counts_minus (counts_less c y.1) es) is ∙ minus_cons c x es
minus_suc c (x ∷ es) (suc place) e is within = minus_suc c es place e is (omega arith)

pub minus_more : (c : Counts) (es : List Entry) (place : ℕ) (e : Entry) → e ≡ get_or es place e → place < length es → counts_minus (counts_less c e.1) (drop (place + 1) es) ≡ counts_minus c (drop place es)
minus_more c es place e is within = rw add-one (minus_suc c es place e is within)

drop_all : (es : List Entry) (place : ℕ) → length es ≤ place → drop place es ≡ []
drop_all [] zero le = refl
drop_all [] (suc place) le = refl
drop_all (x ∷ es) zero le = absurd (omega arith)
drop_all (x ∷ es) (suc place) le = drop_all es place (omega arith)

minus_nil : (c : Counts) → counts_minus c [] ≡ c
unfolding counts_minus bytes_of eliciting_of counted_of
minus_nil c = record_same _ _ _ _ _ _ (omega arith) (omega arith) (omega arith)

pub minus_none : (c : Counts) (es : List Entry) (place : ℕ) → length es ≤ place → counts_minus c (drop place es) ≡ c
minus_none c es place le = ap (counts_minus c) (drop_all es place le) ∙ minus_nil c

-- what stays behind is counted by what was taken
pub counted_others : (p : Entry → Bool) (es : List Entry) → counts_minus (counts_of es) (those p es) ≡ counts_of (others p es)
unfolding counts_minus counts_of bytes_of eliciting_of counted_of those others
counted_others p es =
    let bytes = sum_by-filter_both p (λ e. not (p e)) (λ e. refl) counted_bytes es in
    let eliciting = sum_by-filter_both p (λ e. not (p e)) (λ e. refl) eliciting_one es in
    let counted = sum_by-filter_both p (λ e. not (p e)) (λ e. refl) counted_one es in
    record_same _ _ _ _ _ _ (omega arith) (omega arith) (omega arith)

pub counted_push : (es : List Entry) (e : Entry) → counts_of (es ++ e ∷ []) ≡ counts_with (counts_of es) e.1
unfolding counts_of counts_with bytes_of eliciting_of counted_of
counted_push es e =
    record_same _ _ _ _ _ _ (sum_by_push counted_bytes es e) (sum_by_push eliciting_one es e) (sum_by_push counted_one es e)

-- the sums fit
pub record AreSmall (c : Counts) : Type 0 where
  pub bytes : c.bytes < 2 ^ 127
  pub eliciting : c.eliciting < 2 ^ 63
  pub counted : c.counted < 2 ^ 63

bytes_fit : (es : List Entry) → AllFit es → bytes_of es ≤ length es * 18446744073709551615
unfolding bytes_of
bytes_fit [] fit = omega arith
bytes_fit (e ∷ es) fit =
    let rest = bytes_fit es fit.1 in
    let one = sum_by-cons counted_bytes e es in
    let here : counted_bytes e ≤ 18446744073709551615 = cond_fits e.1.counted e.1.size fit.0 in
    omega arith

eliciting_fit : (es : List Entry) → eliciting_of es ≤ length es
unfolding eliciting_of
eliciting_fit [] = omega arith
eliciting_fit (e ∷ es) =
    let rest = eliciting_fit es in
    let one = sum_by-cons eliciting_one e es in
    let here : eliciting_one e ≤ 1 = cond_one e.1.ack_eliciting in
    omega arith

counted_fit : (es : List Entry) → counted_of es ≤ length es
unfolding counted_of
counted_fit [] = omega arith
counted_fit (e ∷ es) =
    let rest = counted_fit es in
    let one = sum_by-cons counted_one e es in
    let here : counted_one e ≤ 1 = cond_one e.1.counted in
    omega arith

pub counts_small : (es : List Entry) (c : Counts) → IsCounted es c → length es < 2 ^ 63 → AreSmall c
unfolding counts_of
counts_small es c is short =
    let bytes = bytes_fit es is.fit in
    let eliciting = eliciting_fit es in
    let counted = counted_fit es in
    let all : AreSmall (counts_of es) = record { bytes = omega arith; eliciting = omega arith; counted = omega arith } in
    subst AreSmall (sym is.sums) all

-- a packet above all others is put behind them
above_push : (n : ℕ) (es : List Entry) (e : Entry) → AllAbove n es → n < e.0 → AllAbove n (es ++ e ∷ [])
above_push n [] e above less = (less, tt)
above_push n (x ∷ es) e above less = (above.0, above_push n es e above.1 less)

ascending_push : (es : List Entry) (e : Entry) → Ascending es → AllBelow e.0 es → Ascending (es ++ e ∷ [])
ascending_push [] e order below = (tt, tt)
ascending_push (x ∷ es) e order below = (above_push x.0 es e order.0 below.0, ascending_push es e order.1 below.1)

fit_push : (es : List Entry) (e : Entry) → AllFit es → e.1.size ≤ 18446744073709551615 → AllFit (es ++ e ∷ [])
fit_push [] e fit le = (le, tt)
fit_push (x ∷ es) e fit le = (fit.0, fit_push es e fit.1 le)

pub counted_sent : (es : List Entry) (c : Counts) (e : Entry) → IsCounted es c → AllBelow e.0 es → e.1.size ≤ 18446744073709551615 → IsCounted (es ++ e ∷ []) (counts_with c e.1)
counted_sent es c e is below fits = record {
  order = ascending_push es e is.order below;
  fit = fit_push es e is.fit fits;
  sums = ap (λ x. counts_with x e.1) is.sums ∙ sym (counted_push es e);
}

-- packets that stay behind are in order, and fit
above_kept : (n : ℕ) (e : Entry) (es : List Entry) (b : Bool) → n < e.0 → AllAbove n es → AllAbove n (cond b (e ∷ es) es)
above_kept n e es true less rest = (less, rest)
above_kept n e es false less rest = rest

above_others : (n : ℕ) (p : Entry → Bool) (es : List Entry) → AllAbove n es → AllAbove n (others p es)
unfolding others
above_others n p [] above = tt
above_others n p (e ∷ es) above = above_kept n e (others p es) (not (p e)) above.0 (above_others n p es above.1)

order_kept : (e : Entry) (es : List Entry) (b : Bool) → AllAbove e.0 es → Ascending es → Ascending (cond b (e ∷ es) es)
order_kept e es true above order = (above, order)
order_kept e es false above order = order

order_others : (p : Entry → Bool) (es : List Entry) → Ascending es → Ascending (others p es)
unfolding others
order_others p [] order = tt
order_others p (e ∷ es) order = order_kept e (others p es) (not (p e)) (above_others e.0 p es order.0) (order_others p es order.1)

fit_kept : (e : Entry) (es : List Entry) (b : Bool) → e.1.size ≤ 18446744073709551615 → AllFit es → AllFit (cond b (e ∷ es) es)
fit_kept e es true here rest = (here, rest)
fit_kept e es false here rest = rest

fit_others : (p : Entry → Bool) (es : List Entry) → AllFit es → AllFit (others p es)
unfolding others
fit_others p [] fit = tt
fit_others p (e ∷ es) fit = fit_kept e (others p es) (not (p e)) fit.0 (fit_others p es fit.1)

pub counted_taken : (p : Entry → Bool) (es : List Entry) (c : Counts) → IsCounted es c → IsCounted (others p es) (counts_minus c (those p es))
counted_taken p es c is = record {
  order = order_others p es is.order;
  fit = fit_others p es is.fit;
  sums = ap (λ x. counts_minus x (those p es)) is.sums ∙ counted_others p es;
}

pub counted_none : IsCounted [] (record { bytes = 0; eliciting = 0; counted = 0 })
unfolding counts_of bytes_of eliciting_of counted_of
counted_none = record { order = tt; fit = tt; sums = refl }

pub sums_are : (es : List Entry) (c : Counts) → IsCounted es c → (c.bytes ≡ bytes_of es) × (c.eliciting ≡ eliciting_of es) × (c.counted ≡ counted_of es)
unfolding counts_of
sums_are es c is = (ap (λ x. x.bytes) is.sums, ap (λ x. x.eliciting) is.sums, ap (λ x. x.counted) is.sums)

pub below_nothing : (n : ℕ) (es : List Entry) → length es ≡ 0 → AllBelow n es
below_nothing n [] none = tt
below_nothing n (x ∷ es) none = absurd (omega arith)

-- the last of packets in order has the greatest number
below_all : (n : ℕ) (es : List Entry) (e : Entry) (i : ℕ) → e ≡ get_or es i e → length es ≡ suc i → Ascending es → e.0 < n → AllBelow n es
below_all n [] e i is size order less = absurd (omega arith)
below_all n (x ∷ es) e zero is size order less =
    let P : Entry → Type 0 = λ y. y.0 < n in
    (subst P is less, below_nothing n es (omega arith))
below_all n (x ∷ []) e (suc i) is size order less = absurd (omega arith)
below_all n (x ∷ y ∷ es) e (suc i) is size order less =
    let rest = below_all n (y ∷ es) e i is (omega arith) order.1 less in
    (omega (arith, order.0.0, rest.0), rest)

below_last : (n : ℕ) (es : List Entry) (e : Entry) (i : ℕ) → e ≡ get_or es i e → i < length es → AllBelow n es → e.0 < n
below_last n [] e i is within below = absurd (omega arith)
below_last n (x ∷ es) e zero is within below = let P : Entry → Type 0 = λ y. y.0 < n in subst P (sym is) below.0
below_last n (x ∷ es) e (suc i) is within below = below_last n es e i is (omega arith) below.1

pub above_all : (n : ℕ) (es : List Entry) (e : Entry) → e ≡ get_or es (length es - 1) e → 0 < length es → Ascending es → (e.0 < n) ↔ AllBelow n es
above_all n es e is some order = ((λ less. below_all n es e (length es - 1) is (omega arith) order less), (λ below. below_last n es e (length es - 1) is (omega arith) below))
