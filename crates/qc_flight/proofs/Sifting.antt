-- Packets sifted by a test, and put in front of others one by one
use Rattle.std.proofs.Common.{◌≡◌, ℕ, zero, suc, ◌+◌, ◌-◌, ◌<◌, ◌≤◌, Bool, true, false, not, List, [], ◌∷◌, ◌++◌, length, take, drop, get_or, refl, sym, ◌∙◌, ap, subst, append_assoc, append-nil, arith}
use Rattle.std.proofs.lemmas.List.{take-append-drop}
use Rattle.std.proofs.Math.Seq.{take-append_seam, drop-append_seam}
use Rattle.std.proofs.lemmas.List.Elements.{filter-append}
use Rattle.qc_flight.specs.Packets.{Entry, Agree, AgreeOn, AllAbove, Ascending, PassesUpTo, onto, others, those}

pub onto_append : (ks es fs : List Entry) → onto ks (es ++ fs) ≡ onto ks es ++ fs
onto_append [] es fs = refl
onto_append (k ∷ ks) es fs = onto_append ks (k ∷ es) fs

pub onto_length : (ks es : List Entry) → length (onto ks es) ≡ length ks + length es
onto_length [] es = omega arith
onto_length (k ∷ ks) es = onto_length ks (k ∷ es) ∙ omega arith

pub onto_twice : (ks es fs : List Entry) → onto (onto ks es) fs ≡ onto es (ks ++ fs)
onto_twice [] es fs = refl
onto_twice (k ∷ ks) es fs = onto_twice ks (k ∷ es) fs

-- tests that say the same of what is above a number say the same of packets that are
pub agree_above : (n : ℕ) (es : List Entry) (p q : Entry → Bool) → AllAbove n es → Agree n p q → AgreeOn es p q
agree_above n [] p q above agree = tt
agree_above n (e ∷ es) p q above agree = (agree.above e above.0, agree_above n es p q above.1 agree)

pub agree_self : (es : List Entry) (p : Entry → Bool) → AgreeOn es p p
agree_self [] p = tt
agree_self (e ∷ es) p = (refl, agree_self es p)

pub agree_more : (es : List Entry) (p q r : Entry → Bool) → AgreeOn es p q → AgreeOn es q r → AgreeOn es p r
agree_more [] p q r a b = tt
agree_more (e ∷ es) p q r a b = (a.0 ∙ b.0, agree_more es p q r a.1 b.1)

pub those_none : (p : Entry → Bool) → those p [] ≡ []
unfolding those
those_none p = refl

pub others_none : (p : Entry → Bool) → others p [] ≡ []
unfolding others
others_none p = refl

pub those_yes : (p : Entry → Bool) (e : Entry) (es : List Entry) → p e ≡ true → those p (e ∷ es) ≡ e ∷ those p es
unfolding those
those_yes p e es here = rw here refl

pub those_no : (p : Entry → Bool) (e : Entry) (es : List Entry) → p e ≡ false → those p (e ∷ es) ≡ those p es
unfolding those
those_no p e es here = rw here refl

pub others_yes : (p : Entry → Bool) (e : Entry) (es : List Entry) → p e ≡ true → others p (e ∷ es) ≡ others p es
unfolding others
others_yes p e es here = rw here refl

pub others_no : (p : Entry → Bool) (e : Entry) (es : List Entry) → p e ≡ false → others p (e ∷ es) ≡ e ∷ others p es
unfolding others
others_no p e es here = rw here refl

-- where a walk stands: what is left to sift comes to what all of it comes to
pub record Sifts (p q : Entry → Bool) (start : List Entry) (count : ℕ) (row : List Entry) (left : ℕ) (buffer : List Entry) (kept : ℕ) : Type 0 where
  pub order : Ascending row
  pub agree : AgreeOn row p q
  pub rest : drop left row ≡ drop count start
  pub sifted : onto (others p (take left row)) buffer ++ those p (take left row) ≡ onto (others p (take count start)) [] ++ those p (take count start)
  pub stay : kept + length (others p (take left row)) ≡ length (others p (take count start))

pub sifts_start : (p : Entry → Bool) (start : List Entry) (count : ℕ) (buffer : List Entry) → Ascending start → buffer ≡ [] → Sifts p p start count start count buffer 0
sifts_start p start count buffer order empty = record { order = order; agree = agree_self start p; rest = refl; sifted = rw empty refl; stay = omega arith }

pub sifts_yes : (p q r : Entry → Bool) (start : List Entry) (count : ℕ) (e : Entry) (row : List Entry) (left : ℕ) (buffer : List Entry) (kept : ℕ) → Sifts p q start count (e ∷ row) (suc left) buffer kept → q e ≡ true → Agree e.0 q r → Sifts p r start count row left (buffer ++ e ∷ []) kept
sifts_yes p q r start count e row left buffer kept s here later =
    let passes : p e ≡ true = s.agree.0 ∙ here in
    record {
      order = s.order.1;
      agree = agree_more row p q r s.agree.1 (agree_above e.0 row q r s.order.0 later);
      rest = s.rest;
      sifted = rw (onto_append, append_assoc) (rw (others_yes p e (take left row) passes, those_yes p e (take left row) passes) at s.sifted);
      stay = rw (others_yes p e (take left row) passes) at s.stay;
    }

pub sifts_no : (p q r : Entry → Bool) (start : List Entry) (count : ℕ) (e : Entry) (row : List Entry) (left : ℕ) (buffer : List Entry) (kept : ℕ) → Sifts p q start count (e ∷ row) (suc left) buffer kept → q e ≡ false → Agree e.0 q r → Sifts p r start count row left (e ∷ buffer) (kept + 1)
sifts_no p q r start count e row left buffer kept s here later =
    let fails : p e ≡ false = s.agree.0 ∙ here in
    record {
      order = s.order.1;
      agree = agree_more row p q r s.agree.1 (agree_above e.0 row q r s.order.0 later);
      rest = s.rest;
      sifted = rw (others_no p e (take left row) fails, those_no p e (take left row) fails) at s.sifted;
      stay = let before : kept + length (e ∷ others p (take left row)) ≡ length (others p (take count start)) = rw (others_no p e (take left row) fails) at s.stay in omega arith;
    }

-- the same, as the walk goes: the first packet is taken from the row
pub sifts_taken : (p q r : Entry → Bool) (start : List Entry) (count : ℕ) (e : Entry) (before row : List Entry) (left : ℕ) (buffer after : List Entry) (kept : ℕ) → Sifts p q start count before left buffer kept → before ≡ e ∷ row → 0 < left → q e ≡ true → Agree e.0 q r → after ≡ buffer ++ e ∷ [] → Sifts p r start count row (left - 1) after kept
sifts_taken p q r start count e before row zero buffer after kept s front some here later put = absurd (omega arith)
sifts_taken p q r start count e before row (suc left) buffer after kept s front some here later put =
    let less : suc left - 1 ≡ left = omega arith in
    let at : Sifts p q start count (e ∷ row) (suc left) buffer kept = let P : List Entry → Type 0 = λ x. Sifts p q start count x (suc left) buffer kept in subst P front s in
    rw (less, put) (sifts_yes p q r start count e row left buffer kept at here later)

pub sifts_left : (p q r : Entry → Bool) (start : List Entry) (count : ℕ) (e : Entry) (before row : List Entry) (left : ℕ) (buffer after : List Entry) (kept : ℕ) → Sifts p q start count before left buffer kept → before ≡ e ∷ row → 0 < left → q e ≡ false → Agree e.0 q r → after ≡ e ∷ buffer → Sifts p r start count row (left - 1) after (kept + 1)
sifts_left p q r start count e before row zero buffer after kept s front some here later put = absurd (omega arith)
sifts_left p q r start count e before row (suc left) buffer after kept s front some here later put =
    let less : suc left - 1 ≡ left = omega arith in
    let at : Sifts p q start count (e ∷ row) (suc left) buffer kept = let P : List Entry → Type 0 = λ x. Sifts p q start count x (suc left) buffer kept in subst P front s in
    rw (less, put) (sifts_no p q r start count e row left buffer kept at here later)

-- and the end
pub sifts_end : (p q : Entry → Bool) (start : List Entry) (count : ℕ) (row : List Entry) (left : ℕ) (buffer : List Entry) (kept : ℕ) → Sifts p q start count row left buffer kept → left ≡ 0 → buffer ≡ onto (others p (take count start)) [] ++ those p (take count start)
sifts_end p q start count row left buffer kept s none =
    let P : ℕ → Type 0 = λ x. Sifts p q start count row x buffer kept in
    let done : Sifts p q start count row 0 buffer kept = subst P none s in
    sym (append-nil buffer) ∙ (rw (others_none p, those_none p) at done.sifted)

pub sifts_kept : (p q : Entry → Bool) (start : List Entry) (count : ℕ) (row : List Entry) (left : ℕ) (buffer : List Entry) (kept : ℕ) → Sifts p q start count row left buffer kept → left ≡ 0 → kept ≡ length (others p (take count start))
sifts_kept p q start count row left buffer kept s none =
    let P : ℕ → Type 0 = λ x. Sifts p q start count row x buffer kept in
    let done : Sifts p q start count row 0 buffer kept = subst P none s in
    let all : kept + length (others p []) ≡ length (others p (take count start)) = done.stay in
    let none_left : length (others p []) ≡ 0 = ap length (others_none p) in
    omega arith

-- the first of the buffer goes in front of the row
pub back_row : (left : ℕ) (e : Entry) (buffer after row : List Entry) → buffer ≡ e ∷ after → 0 < left → onto (take (left - 1) after) (e ∷ row) ≡ onto (take left buffer) row
back_row zero e buffer after row front some = absurd (omega arith)
back_row (suc left) e buffer after row front some = let less : suc left - 1 ≡ left = omega arith in rw (less, front) refl

pub back_buffer : (left : ℕ) (e : Entry) (buffer after : List Entry) → buffer ≡ e ∷ after → 0 < left → drop (left - 1) after ≡ drop left buffer
back_buffer zero e buffer after front some = absurd (omega arith)
back_buffer (suc left) e buffer after front some = let less : suc left - 1 ≡ left = omega arith in rw (less, front) refl

-- a lower limit
above_lower : (n m : ℕ) (es : List Entry) → n < m → AllAbove m es → AllAbove n es
above_lower n m [] less above = tt
above_lower n m (e ∷ es) less above = (omega arith, above_lower n m es less above.1)

-- from a packet above a limit on, all are
pub above_from : (limit count : ℕ) (es : List Entry) (e : Entry) → e ≡ get_or es count e → limit < e.0 → count < length es → Ascending es → AllAbove limit (drop count es)
above_from limit count [] e at less within order = absurd (omega arith)
above_from limit zero (x ∷ es) e at less within order =
    let here : limit < x.0 = let P : Entry → Type 0 = λ y. limit < y.0 in subst P at less in
    (here, above_lower limit x.0 es here order.0)
above_from limit (suc count) (x ∷ es) e at less within order = above_from limit count es e at less (omega arith) order.1

pub above_none : (limit count : ℕ) (es : List Entry) → length es ≤ count → AllAbove limit (drop count es)
above_none limit zero [] all = tt
above_none limit (suc count) [] all = tt
above_none limit zero (x ∷ es) all = absurd (omega arith)
above_none limit (suc count) (x ∷ es) all = above_none limit count es (omega arith)

-- above the limit no packet is taken
pub none_pass : (limit : ℕ) (p : Entry → Bool) (es : List Entry) → PassesUpTo limit p → AllAbove limit es → those p es ≡ []
none_pass limit p [] up above = those_none p
none_pass limit p (e ∷ es) up above = those_no p e es (up.none e above.0) ∙ none_pass limit p es up above.1

pub all_stay : (limit : ℕ) (p : Entry → Bool) (es : List Entry) → PassesUpTo limit p → AllAbove limit es → others p es ≡ es
all_stay limit p [] up above = others_none p
all_stay limit p (e ∷ es) up above = others_no p e es (up.none e above.0) ∙ ap (λ xs. e ∷ xs) (all_stay limit p es up above.1)

pub those_append : (p : Entry → Bool) (es fs : List Entry) → those p (es ++ fs) ≡ those p es ++ those p fs
unfolding those
those_append p es fs = filter-append p es fs

pub others_append : (p : Entry → Bool) (es fs : List Entry) → others p (es ++ fs) ≡ others p es ++ others p fs
unfolding others
others_append p es fs = filter-append (λ e. not (p e)) es fs

-- what is sifted is put together again
pub taken_all : (limit count : ℕ) (p : Entry → Bool) (es : List Entry) → PassesUpTo limit p → AllAbove limit (drop count es) → those p (take count es) ≡ those p es
taken_all limit count p es up above =
    sym (append-nil (those p (take count es))) ∙ ap (λ x. those p (take count es) ++ x) (sym (none_pass limit p (drop count es) up above)) ∙ sym (those_append p (take count es) (drop count es)) ∙ ap (those p) (take-append-drop count es)

pub rest_all : (limit count : ℕ) (p : Entry → Bool) (es : List Entry) → PassesUpTo limit p → AllAbove limit (drop count es) → others p (take count es) ++ drop count es ≡ others p es
rest_all limit count p es up above =
    ap (λ x. others p (take count es) ++ x) (sym (all_stay limit p (drop count es) up above)) ∙ sym (others_append p (take count es) (drop count es)) ∙ ap (others p) (take-append-drop count es)

-- the buffer after sifting: the others, turned round, and then those
pub put_back_row : (ks ts row : List Entry) (buffer : List Entry) → buffer ≡ onto ks [] ++ ts → onto (take (length ks) buffer) row ≡ ks ++ row
put_back_row ks ts row buffer is =
    let len : length (onto ks []) ≡ length ks = onto_length ks [] ∙ omega arith in
    let front : take (length ks) buffer ≡ onto ks [] = rw (is, ← len) (take-append_seam (onto ks []) ts) in
    rw front (onto_twice ks [] row)

pub put_back_buffer : (ks ts : List Entry) (buffer : List Entry) → buffer ≡ onto ks [] ++ ts → drop (length ks) buffer ≡ ts
put_back_buffer ks ts buffer is =
    let len : length (onto ks []) ≡ length ks = onto_length ks [] ∙ omega arith in
    rw (is, ← len) (drop-append_seam (onto ks []) ts)
