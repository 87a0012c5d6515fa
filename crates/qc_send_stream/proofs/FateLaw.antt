-- A byte that was written and isn't acknowledged is kept, and waits where it is to be sent
use Rattle.std.proofs.Common.{◌≡◌, ◌∙◌, ap, sym, ℕ, ◌+◌, ◌<◌, ◌≤◌, ◌==◌, ◌&&◌, if◌then◌else◌, suc, inl, inr, ◌⊎◌, List, [], ◌∷◌, ◌++◌, Bool, true, false, cond, length, arith, refl, subst, Option, None, Some, is_some}
use Rattle.std.proofs.lemmas.Bool.{cases_lt, cases_eq, and_parts, and_from, ltb-true, lt-ltb, leb-true, le-leb, lt-leb, le-ltb, eq-eqb, ne_eqb, false≢true, false_from_ne_true}
use Rattle.std.specs.Prelude.{min, max, nat_le, nat_lt, IsSome, IfSome}
use Rattle.std.specs.Option.{option_map}
use Rattle.qc_send_stream.specs.Buffer.{Kept, Buffer, nothing, row, lies_in, marked, without, bytes_written, sent_with, range_sealed, range_acked, range_lost, discarded, has_bytes, from_lost, from_offset, waiting, first_offset}
use Rattle.qc_send_stream.specs.Written.{Step, Wrote, Sealed, Acked, Lost, Discarded, after_step, after, wrote}
use Rattle.qc_send_stream.specs.Fates.{Fate, NotWritten, NotSent, Outstanding, Missing, Acknowledged, LetGo, holds, fate_if, fate_written, fate_sealed, fate_acked, fate_lost, fate_dropped, next_fate, fate_from, fate, is_owed, is_due, is_kept, KeepsUntilAcknowledged, SendsWhatIsDue}

-- ---- ranges

holds_from : (start end o : ℕ) → start ≤ o → o < end → holds start end o ≡ true
unfolding holds
holds_from start end o low high = and_from (nat_le start o) (nat_lt o end) (le-leb start o low) (lt-ltb o end high)

holds_low : (start end o : ℕ) → holds start end o ≡ true → start ≤ o
unfolding holds
holds_low start end o in_it = leb-true start o (and_parts (nat_le start o) (nat_lt o end) in_it).0

holds_high : (start end o : ℕ) → holds start end o ≡ true → o < end
unfolding holds
holds_high start end o in_it = ltb-true o end (and_parts (nat_le start o) (nat_lt o end) in_it).1

not_both : (b : Bool) → b ≡ false → b ≡ true → ⊥
not_both b is_false is_true = false≢true (sym is_false ∙ is_true)

min_left : (a b x : ℕ) → x < min a b → x < a
min_left a b x less = omega arith

min_right : (a b x : ℕ) → x < min a b → x < b
min_right a b x less = omega arith

min_both : (a b x : ℕ) → x < a → x < b → x < min a b
min_both a b x first second = omega arith

-- a range that is cut at what was sent holds no more
cut_not : (start end sent o : ℕ) → holds start end o ≡ false → holds start (min end sent) o ≡ false
cut_not start end sent o out = false_from_ne_true (holds start (min end sent) o) (λ in_it.
    not_both (holds start end o) out (holds_from start end o (holds_low start (min end sent) o in_it) (min_left end sent o (holds_high start (min end sent) o in_it))))

-- nor a byte that wasn't sent
cut_fresh : (start end sent o : ℕ) → sent ≤ o → holds start (min end sent) o ≡ false
cut_fresh start end sent o fresh = false_from_ne_true (holds start (min end sent) o) (λ in_it.
    let less : o < sent = min_right end sent o (holds_high start (min end sent) o in_it) in omega arith)

cut_sent : (start end sent o : ℕ) → o < sent → holds start end o ≡ true → holds start (min end sent) o ≡ true
cut_sent start end sent o less in_it =
    holds_from start (min end sent) o (holds_low start end o in_it) (min_both end sent o (holds_high start end o in_it) less)

-- what is sealed of other bytes leaves one unsent
sent_other : (start end sent written o : ℕ) → holds start end o ≡ false → o < sent_with start end sent written → o < sent
unfolding sent_with
sent_other start end sent written o out less = elim (cases_lt sent start) [
  | inl gap ↦
      let same : nat_le start sent ≡ false = lt-leb start sent gap in
      subst (λ (t : Bool). o < cond t (max sent (min end written)) sent) same less
  | inr met ↦
      let same : nat_le start sent ≡ true = le-leb start sent met in
      let far : o < max sent (min end written) = subst (λ (t : Bool). o < cond t (max sent (min end written)) sent) same less in
      elim (cases_lt o sent) [
        | inl low ↦ low
        | inr high ↦ absurd (not_both (holds start end o) out (holds_from start end o (omega arith) (omega arith)))
      ]
]

sent_grows : (start end sent written : ℕ) → sent ≤ sent_with start end sent written
unfolding sent_with
sent_grows start end sent written = by (nat_le start sent)
  where
    by : (t : Bool) → sent ≤ cond t (max sent (min end written)) sent
    by true = omega arith
    by false = omega arith

sent_within : (start end sent written : ℕ) → sent ≤ written → sent_with start end sent written ≤ written
unfolding sent_with
sent_within start end sent written low = by (nat_le start sent)
  where
    by : (t : Bool) → cond t (max sent (min end written)) sent ≤ written
    by true = omega arith
    by false = omega arith

-- ---- the byte at an offset

-- whether the byte at o is lost, where it is kept
abbrev pub mark_at : ℕ → List Kept → Option Bool
mark_at o [] = None
mark_at o (k ∷ ks) = if o == k.offset then Some k.lost else mark_at o ks

mark_here : (o : ℕ) (k : Kept) (ks : List Kept) → o ≡ k.offset → mark_at o (k ∷ ks) ≡ Some k.lost
mark_here o k ks same = rw (eq-eqb o k.offset same) refl

mark_other : (o : ℕ) (k : Kept) (ks : List Kept) → (o ≡ k.offset → ⊥) → mark_at o (k ∷ ks) ≡ mark_at o ks
mark_other o k ks other = rw (ne_eqb o k.offset other) refl

kept_mark : (o : ℕ) (ks : List Kept) → is_kept o ks ≡ is_some (mark_at o ks)
unfolding is_kept
kept_mark o [] = refl
kept_mark o (k ∷ ks) = by (kept_mark o ks) (o == k.offset)
  where
    by : is_kept o ks ≡ is_some (mark_at o ks) → (t : Bool) → cond t true (is_kept o ks) ≡ is_some (cond t (Some k.lost) (mark_at o ks))
    by rest true = refl
    by rest false = rest

-- what is there of a byte once those of a range are marked
abbrev pub remarked : Bool → Bool → Option Bool → Option Bool
remarked in_it l None = None
remarked in_it l (Some was) = Some (if in_it then l else was)

same_range : (start end o : ℕ) (k : Kept) → o ≡ k.offset → holds start end o ≡ lies_in start end k
unfolding holds lies_in
same_range start end o k same = ap (λ (i : ℕ). nat_le start i && nat_lt i end) same

marked_mark : (o : ℕ) (l : Bool) (start end : ℕ) (ks : List Kept) → mark_at o (marked l start end ks) ≡ remarked (holds start end o) l (mark_at o ks)
unfolding marked
marked_mark o l start end [] = refl
marked_mark o l start end (k ∷ ks) = by (marked_mark o l start end ks) (lies_in start end k) refl
  where
    by : mark_at o (marked l start end ks) ≡ remarked (holds start end o) l (mark_at o ks) → (t : Bool) → lies_in start end k ≡ t
        → mark_at o (cond t (record k { lost = l }) k ∷ marked l start end ks) ≡ remarked (holds start end o) l (mark_at o (k ∷ ks))
    by rest true is = elim (cases_eq o k.offset) [
      | inl same ↦ rw (eq-eqb o k.offset same, same_range start end o k same, is) refl
      | inr other ↦ rw (ne_eqb o k.offset other) rest
    ]
    by rest false is = elim (cases_eq o k.offset) [
      | inl same ↦ rw (eq-eqb o k.offset same, same_range start end o k same, is) refl
      | inr other ↦ rw (ne_eqb o k.offset other) rest
    ]

-- what is there of a byte once those of a range are taken out
abbrev pub left_out : Bool → Option Bool → Option Bool
left_out true m = None
left_out false m = m

none_left : (t : Bool) → None ≡ left_out t None
none_left true = refl
none_left false = refl

without_mark : (o start end : ℕ) (ks : List Kept) → mark_at o (without start end ks) ≡ left_out (holds start end o) (mark_at o ks)
unfolding without
without_mark o start end [] = none_left (holds start end o)
without_mark o start end (k ∷ ks) = by (without_mark o start end ks) (lies_in start end k) refl
  where
    by : mark_at o (without start end ks) ≡ left_out (holds start end o) (mark_at o ks) → (t : Bool) → lies_in start end k ≡ t
        → mark_at o (cond t (without start end ks) (k ∷ without start end ks)) ≡ left_out (holds start end o) (mark_at o (k ∷ ks))
    by rest true is = elim (cases_eq o k.offset) [
      | inl same ↦
          let in_it : holds start end o ≡ true = same_range start end o k same ∙ is in
          rest ∙ ap (λ (t : Bool). left_out t (mark_at o ks)) in_it ∙ sym (ap (λ (t : Bool). left_out t (mark_at o (k ∷ ks))) in_it)
      | inr other ↦ rw (ne_eqb o k.offset other) rest
    ]
    by rest false is = elim (cases_eq o k.offset) [
      | inl same ↦
          let out : holds start end o ≡ false = same_range start end o k same ∙ is in
          mark_here o k (without start end ks) same
          ∙ sym (ap (λ (t : Bool). left_out t (mark_at o (k ∷ ks))) out ∙ mark_here o k ks same)
      | inr other ↦ rw (ne_eqb o k.offset other) rest
    ]

-- the first of two that is there
abbrev pub first_of : Option Bool → Option Bool → Option Bool
first_of None m = m
first_of (Some l) m = Some l

append_mark : (o : ℕ) (v w : List Kept) → mark_at o (v ++ w) ≡ first_of (mark_at o v) (mark_at o w)
append_mark o [] w = refl
append_mark o (k ∷ v) w = by (append_mark o v w) (o == k.offset)
  where
    by : mark_at o (v ++ w) ≡ first_of (mark_at o v) (mark_at o w) → (t : Bool)
        → cond t (Some k.lost) (mark_at o (v ++ w)) ≡ first_of (cond t (Some k.lost) (mark_at o v)) (mark_at o w)
    by rest true = refl
    by rest false = rest

row_mark : (o n : ℕ) (bs : List ℕ) → n ≤ o → o < n + length bs → is_some (mark_at o (row false n bs)) ≡ true
unfolding row
row_mark o n [] low high = absurd (omega arith)
row_mark o n (b ∷ bs) low high =
    let k : Kept = record { offset = n; byte = b; lost = false } in
    elim (cases_eq o n) [
      | inl same ↦ ap is_some (mark_here o k (row false (suc n) bs) same)
      | inr other ↦ ap is_some (mark_other o k (row false (suc n) bs) other) ∙ row_mark o (suc n) bs (omega (arith, other)) (omega arith)
    ]

-- a byte that is there stays, whatever is written
some_first : (m m' : Option Bool) → is_some m ≡ true → first_of m m' ≡ m
some_first (Some l) m' some = refl
some_first None m' some = absurd (false≢true some)

some_either : (m m' : Option Bool) → is_some m' ≡ true → is_some (first_of m m') ≡ true
some_either (Some l) m' some = refl
some_either None m' some = some

some_remarked : (t l : Bool) (m : Option Bool) → is_some m ≡ true → is_some (remarked t l m) ≡ true
some_remarked t l (Some x) some = refl
some_remarked t l None some = absurd (false≢true some)

same_mark : (m : Option Bool) (l : Bool) → m ≡ Some true → remarked false l m ≡ Some true
same_mark m l lost = ap (λ (x : Option Bool). remarked false l x) lost

stays_lost : (t : Bool) (m : Option Bool) → m ≡ Some true → remarked t true m ≡ Some true
stays_lost true m lost = ap (λ (x : Option Bool). remarked true true x) lost
stays_lost false m lost = ap (λ (x : Option Bool). remarked false true x) lost

marks_lost : (t : Bool) (m : Option Bool) → t ≡ true → is_some m ≡ true → remarked t true m ≡ Some true
marks_lost t (Some x) is some = ap (λ (u : Bool). (let r : Option Bool = Some (if u then true else x) in r)) is
marks_lost t None is some = absurd (false≢true some)

plus_none : (n : ℕ) → n + 0 ≡ n
plus_none n = omega arith

-- ---- what is kept stands in order

-- ascending from low on, below what was written, and only bytes that were sent are lost
abbrev pub IsInOrder : ℕ → ℕ → ℕ → List Kept → Type 0
IsInOrder sent written low [] = Unit {0}
IsInOrder sent written low (k ∷ ks) = (low ≤ k.offset) × (k.offset < written) × (k.lost ≡ true → k.offset < sent) × IsInOrder sent written (suc k.offset) ks

order_more : (sent sent' written low low' : ℕ) (ks : List Kept) → sent ≤ sent' → low' ≤ low → IsInOrder sent written low ks → IsInOrder sent' written low' ks
order_more sent sent' written low low' [] more less is = tt
order_more sent sent' written low low' (k ∷ ks) more less is = (
  omega (arith, is.0),
  is.1,
  λ lost. omega (arith, is.2 lost),
  order_more sent sent' written (suc k.offset) (suc k.offset) ks more (omega arith) is.3,
)

order_found : (sent written low start end : ℕ) (ks : List Kept) → IsInOrder sent written low ks → IsInOrder sent written low (marked false start end ks)
unfolding marked
order_found sent written low start end [] is = tt
order_found sent written low start end (k ∷ ks) is = by (lies_in start end k) (order_found sent written (suc k.offset) start end ks is.3)
  where
    by : (t : Bool) → IsInOrder sent written (suc k.offset) (marked false start end ks)
        → IsInOrder sent written low (cond t (record k { lost = false }) k ∷ marked false start end ks)
    by true rest = (is.0, is.1, λ lost. absurd (false≢true lost), rest)
    by false rest = (is.0, is.1, is.2, rest)

lies_high : (start end : ℕ) (k : Kept) → lies_in start end k ≡ true → k.offset < end
unfolding lies_in
lies_high start end k in_it = ltb-true k.offset end (and_parts (nat_le start k.offset) (nat_lt k.offset end) in_it).1

order_lost : (sent written low start end : ℕ) (ks : List Kept) → IsInOrder sent written low ks → IsInOrder sent written low (marked true start (min end sent) ks)
unfolding marked
order_lost sent written low start end [] is = tt
order_lost sent written low start end (k ∷ ks) is = by (lies_in start (min end sent) k) refl (order_lost sent written (suc k.offset) start end ks is.3)
  where
    by : (t : Bool) → lies_in start (min end sent) k ≡ t → IsInOrder sent written (suc k.offset) (marked true start (min end sent) ks)
        → IsInOrder sent written low (cond t (record k { lost = true }) k ∷ marked true start (min end sent) ks)
    by true in_it rest = (is.0, is.1, λ _. min_right end sent k.offset (lies_high start (min end sent) k in_it), rest)
    by false out rest = (is.0, is.1, is.2, rest)

order_without : (sent written low start end : ℕ) (ks : List Kept) → IsInOrder sent written low ks → IsInOrder sent written low (without start end ks)
unfolding without
order_without sent written low start end [] is = tt
order_without sent written low start end (k ∷ ks) is = by (lies_in start end k) (order_without sent written (suc k.offset) start end ks is.3)
  where
    by : (t : Bool) → IsInOrder sent written (suc k.offset) (without start end ks) → IsInOrder sent written low (cond t (without start end ks) (k ∷ without start end ks))
    by true rest = order_more sent sent written (suc k.offset) low (without start end ks) (omega arith) (omega (arith, is.0)) rest
    by false rest = (is.0, is.1, is.2, rest)

order_row : (sent o n low : ℕ) (bs : List ℕ) → low ≤ o → o + length bs ≤ n → IsInOrder sent n low (row false o bs)
unfolding row
order_row sent o n low [] above fits = tt
order_row sent o n low (b ∷ bs) above fits = (above, omega arith, λ lost. absurd (false≢true lost), order_row sent (suc o) n (suc o) bs (omega arith) (omega arith))

order_written : (sent written low : ℕ) (bs : List ℕ) (ks : List Kept) → low ≤ written → IsInOrder sent written low ks
    → IsInOrder sent (written + length bs) low (ks ++ row false written bs)
order_written sent written low bs [] above is = order_row sent written (written + length bs) low bs above (omega arith)
order_written sent written low bs (k ∷ ks) above is = (
  is.0,
  omega (arith, is.1),
  is.2,
  order_written sent written (suc k.offset) bs ks (omega (arith, is.1)) is.3,
)

-- ---- what a fate says of a byte

-- the byte at o, whose mark is m, where n bytes were written and so many were sent
abbrev pub Fits : ℕ → ℕ → ℕ → Option Bool → Fate → Type 0
Fits o n sent m NotWritten = n ≤ o
Fits o n sent m NotSent = (is_some m ≡ true) × (sent ≤ o)
Fits o n sent m Outstanding = is_some m ≡ true
Fits o n sent m Missing = (is_some m ≡ true) × (o < sent → m ≡ Some true)
Fits o n sent m Acknowledged = Unit {0}
Fits o n sent m LetGo = Unit {0}

-- What holds of the byte at o after steps that wrote n bytes
record Stands (o n : ℕ) (f : Fate) (b : Buffer) : Type 0 where
  pub count : b.written ≡ n
  pub low : b.sent ≤ b.written
  pub order : IsInOrder b.sent b.written 0 b.kept
  pub fits : Fits o n b.sent (mark_at o b.kept) f

-- bytes are written
fits_written : (o n sent : ℕ) (bs : List ℕ) (m : Option Bool) (f : Fate) → sent ≤ n → Fits o n sent m f
    → Fits o (n + length bs) sent (first_of m (mark_at o (row false n bs))) (fate_if (nat_lt o (n + length bs)) fate_written f)
unfolding fate_if fate_written
fits_written o n sent bs m NotWritten low fits = elim (cases_lt o (n + length bs)) [
  | inl less ↦
      rw (lt-ltb o (n + length bs) less)
      (some_either m (mark_at o (row false n bs)) (row_mark o n bs fits less), omega (arith, fits))
  | inr more ↦ rw (le-ltb o (n + length bs) more) more
]
fits_written o n sent bs m NotSent low fits = by (nat_lt o (n + length bs))
  where
    same : first_of m (mark_at o (row false n bs)) ≡ m
    same = some_first m (mark_at o (row false n bs)) fits.0

    by : (t : Bool) → Fits o (n + length bs) sent (first_of m (mark_at o (row false n bs))) (fate_if t fate_written NotSent)
    by true = (ap is_some same ∙ fits.0, fits.1)
    by false = (ap is_some same ∙ fits.0, fits.1)
fits_written o n sent bs m Outstanding low fits = by (nat_lt o (n + length bs))
  where
    by : (t : Bool) → Fits o (n + length bs) sent (first_of m (mark_at o (row false n bs))) (fate_if t fate_written Outstanding)
    by true = ap is_some (some_first m (mark_at o (row false n bs)) fits) ∙ fits
    by false = ap is_some (some_first m (mark_at o (row false n bs)) fits) ∙ fits
fits_written o n sent bs m Missing low fits = by (nat_lt o (n + length bs))
  where
    same : first_of m (mark_at o (row false n bs)) ≡ m
    same = some_first m (mark_at o (row false n bs)) fits.0

    by : (t : Bool) → Fits o (n + length bs) sent (first_of m (mark_at o (row false n bs))) (fate_if t fate_written Missing)
    by true = (ap is_some same ∙ fits.0, λ less. same ∙ fits.1 less)
    by false = (ap is_some same ∙ fits.0, λ less. same ∙ fits.1 less)
fits_written o n sent bs m Acknowledged low fits = by (nat_lt o (n + length bs))
  where
    by : (t : Bool) → Fits o (n + length bs) sent (first_of m (mark_at o (row false n bs))) (fate_if t fate_written Acknowledged)
    by true = tt
    by false = tt
fits_written o n sent bs m LetGo low fits = by (nat_lt o (n + length bs))
  where
    by : (t : Bool) → Fits o (n + length bs) sent (first_of m (mark_at o (row false n bs))) (fate_if t fate_written LetGo)
    by true = tt
    by false = tt

-- what is sealed where the byte isn't in the frame, and where it is
fits_sealed : (o n sent now : ℕ) (t : Bool) (m : Option Bool) (f : Fate) → (t ≡ false → o < now → o < sent) → Fits o n sent m f
    → Fits o n now (remarked t false m) (fate_if t fate_sealed f)
unfolding fate_if fate_sealed
fits_sealed o n sent now true m NotWritten still fits = fits
fits_sealed o n sent now true m NotSent still fits = some_remarked true false m fits.0
fits_sealed o n sent now true m Outstanding still fits = some_remarked true false m fits
fits_sealed o n sent now true m Missing still fits = some_remarked true false m fits.0
fits_sealed o n sent now true m Acknowledged still fits = tt
fits_sealed o n sent now true m LetGo still fits = tt
fits_sealed o n sent now false m NotWritten still fits = fits
fits_sealed o n sent now false m NotSent still fits = (some_remarked false false m fits.0, unsent (still refl) fits.1)
  where
    unsent : (o < now → o < sent) → sent ≤ o → now ≤ o
    unsent back high = elim (cases_lt o now) [ inl less ↦ absurd (let low : o < sent = back less in omega arith) | inr more ↦ more ]
fits_sealed o n sent now false m Outstanding still fits = some_remarked false false m fits
fits_sealed o n sent now false m Missing still fits = (some_remarked false false m fits.0, λ less. same_mark m false (fits.1 (still refl less)))
fits_sealed o n sent now false m Acknowledged still fits = tt
fits_sealed o n sent now false m LetGo still fits = tt

-- what is acknowledged: u says whether the byte is among those that were sent and are in the frame
fits_acked : (o n sent : ℕ) (t u : Bool) (m : Option Bool) (f : Fate) → (t ≡ false → u ≡ false) → (sent ≤ o → u ≡ false) → Fits o n sent m f
    → Fits o n sent (left_out u m) (fate_if t fate_acked f)
unfolding fate_if fate_acked
fits_acked o n sent true u m NotWritten out fresh fits = fits
fits_acked o n sent true u m NotSent out fresh fits = (ap (λ (x : Bool). is_some (left_out x m)) (fresh fits.1) ∙ fits.0, fits.1)
fits_acked o n sent true u m Outstanding out fresh fits = tt
fits_acked o n sent true u m Missing out fresh fits = tt
fits_acked o n sent true u m Acknowledged out fresh fits = tt
fits_acked o n sent true u m LetGo out fresh fits = tt
fits_acked o n sent false u m NotWritten out fresh fits = fits
fits_acked o n sent false u m NotSent out fresh fits = (ap (λ (x : Bool). is_some (left_out x m)) (out refl) ∙ fits.0, fits.1)
fits_acked o n sent false u m Outstanding out fresh fits = ap (λ (x : Bool). is_some (left_out x m)) (out refl) ∙ fits
fits_acked o n sent false u m Missing out fresh fits = (
  ap (λ (x : Bool). is_some (left_out x m)) (out refl) ∙ fits.0,
  λ less. ap (λ (x : Bool). left_out x m) (out refl) ∙ fits.1 less,
)
fits_acked o n sent false u m Acknowledged out fresh fits = tt
fits_acked o n sent false u m LetGo out fresh fits = tt

-- what is lost
fits_lost : (o n sent : ℕ) (t u : Bool) (m : Option Bool) (f : Fate) → (t ≡ true → o < sent → u ≡ true) → Fits o n sent m f
    → Fits o n sent (remarked u true m) (fate_if t fate_lost f)
unfolding fate_if fate_lost
fits_lost o n sent true u m NotWritten inside fits = fits
fits_lost o n sent true u m NotSent inside fits = (some_remarked u true m fits.0, fits.1)
fits_lost o n sent true u m Outstanding inside fits = (some_remarked u true m fits, λ less. marks_lost u m (inside refl less) fits)
fits_lost o n sent true u m Missing inside fits = (some_remarked u true m fits.0, λ less. stays_lost u m (fits.1 less))
fits_lost o n sent true u m Acknowledged inside fits = tt
fits_lost o n sent true u m LetGo inside fits = tt
fits_lost o n sent false u m NotWritten inside fits = fits
fits_lost o n sent false u m NotSent inside fits = (some_remarked u true m fits.0, fits.1)
fits_lost o n sent false u m Outstanding inside fits = some_remarked u true m fits
fits_lost o n sent false u m Missing inside fits = (some_remarked u true m fits.0, λ less. stays_lost u m (fits.1 less))
fits_lost o n sent false u m Acknowledged inside fits = tt
fits_lost o n sent false u m LetGo inside fits = tt

fits_dropped : (o n sent : ℕ) (m m' : Option Bool) (f : Fate) → Fits o n sent m f → Fits o n sent m' (fate_dropped f)
unfolding fate_dropped
fits_dropped o n sent m m' NotWritten fits = fits
fits_dropped o n sent m m' NotSent fits = tt
fits_dropped o n sent m m' Outstanding fits = tt
fits_dropped o n sent m m' Missing fits = tt
fits_dropped o n sent m m' Acknowledged fits = tt
fits_dropped o n sent m m' LetGo fits = tt

stands_step : (o n : ℕ) (f : Fate) (x : Step) (b : Buffer) → Stands o n f b → Stands o (n + length (wrote x)) (next_fate o n x f) (after_step x b)
unfolding wrote next_fate after_step bytes_written range_sealed range_acked range_lost discarded
stands_step o n f (Wrote bs) b is = record {
  count = omega (arith, is.count);
  low = omega (arith, is.low);
  order = order_written b.sent b.written 0 bs b.kept (omega arith) is.order;
  fits = rw (append_mark o b.kept (row false b.written bs), is.count) (fits_written o n b.sent bs (mark_at o b.kept) f (omega (arith, is.low, is.count)) is.fits);
}
stands_step o n f (Sealed start end) b is = record {
  count = omega (arith, is.count);
  low = sent_within start end b.sent b.written is.low;
  order =
      order_found (sent_with start end b.sent b.written) b.written 0 start end b.kept
      (order_more b.sent (sent_with start end b.sent b.written) b.written 0 0 b.kept (sent_grows start end b.sent b.written) (omega arith) is.order);
  fits = rw (marked_mark o false start end b.kept, plus_none n)
      (fits_sealed o n b.sent (sent_with start end b.sent b.written) (holds start end o) (mark_at o b.kept) f
      (λ out less. sent_other start end b.sent b.written o out less) is.fits);
}
stands_step o n f (Acked start end) b is = record {
  count = omega (arith, is.count);
  low = is.low;
  order = order_without b.sent b.written 0 start (min end b.sent) b.kept is.order;
  fits = rw (without_mark o start (min end b.sent) b.kept, plus_none n)
      (fits_acked o n b.sent (holds start end o) (holds start (min end b.sent) o) (mark_at o b.kept) f
      (λ out. cut_not start end b.sent o out) (λ fresh. cut_fresh start end b.sent o fresh) is.fits);
}
stands_step o n f (Lost start end) b is = record {
  count = omega (arith, is.count);
  low = is.low;
  order = order_lost b.sent b.written 0 start end b.kept is.order;
  fits = rw (marked_mark o true start (min end b.sent) b.kept, plus_none n)
      (fits_lost o n b.sent (holds start end o) (holds start (min end b.sent) o) (mark_at o b.kept) f
      (λ in_it less. cut_sent start end b.sent o less in_it) is.fits);
}
stands_step o n f Discarded b is = record {
  count = omega (arith, is.count);
  low = is.low;
  order = tt;
  fits = rw (plus_none n) (fits_dropped o n b.sent (mark_at o b.kept) None f is.fits);
}

stands_after : (o n : ℕ) (f : Fate) (xs : List Step) (b : Buffer) → Stands o n f b → (m : ℕ) × Stands o m (fate_from o n f xs) (after xs b)
unfolding fate_from after
stands_after o n f [] b is = (n, is)
stands_after o n f (x ∷ xs) b is = stands_after o (n + length (wrote x)) (next_fate o n x f) xs (after_step x b) (stands_step o n f x b is)

stands : (o : ℕ) (xs : List Step) → (m : ℕ) × Stands o m (fate o xs) (after xs nothing)
unfolding fate nothing
stands o xs = stands_after o 0 NotWritten xs nothing (record { count = refl; low = omega arith; order = tt; fits = omega arith })

-- ---- the laws

owed_fits : (o n sent : ℕ) (m : Option Bool) (f : Fate) → is_owed f ≡ true → Fits o n sent m f → is_some m ≡ true
unfolding is_owed
owed_fits o n sent m NotWritten owed fits = absurd (false≢true owed)
owed_fits o n sent m NotSent owed fits = fits.0
owed_fits o n sent m Outstanding owed fits = fits
owed_fits o n sent m Missing owed fits = fits.0
owed_fits o n sent m Acknowledged owed fits = absurd (false≢true owed)
owed_fits o n sent m LetGo owed fits = absurd (false≢true owed)

pub keeps_until_acknowledged : (xs : List Step) → KeepsUntilAcknowledged xs
unfolding KeepsUntilAcknowledged
keeps_until_acknowledged xs = λ o owed.
    let is = stands o xs in
    kept_mark o (after xs nothing).kept ∙ owed_fits o is.0 (after xs nothing).sent (mark_at o (after xs nothing).kept) (fate o xs) owed is.1.fits

-- the first byte, where there is one, stands at o or before
abbrev pub BeginsBy : ℕ → List Kept → Type 0
BeginsBy o [] = ⊥
BeginsBy o (k ∷ ks) = k.offset ≤ o

begun_has : (o : ℕ) (v : List Kept) → BeginsBy o v → has_bytes v ≡ true
unfolding has_bytes
begun_has o [] by = absurd by
begun_has o (k ∷ v) by = refl

above_low : (sent written low o : ℕ) (ks : List Kept) → IsInOrder sent written low ks → is_some (mark_at o ks) ≡ true → low ≤ o
above_low sent written low o [] order there = absurd (false≢true there)
above_low sent written low o (k ∷ ks) order there = elim (cases_eq o k.offset) [
  | inl same ↦ omega (arith, order.0, same)
  | inr other ↦
      let rest : suc k.offset ≤ o = above_low sent written (suc k.offset) o ks order.3 (ap is_some (sym (mark_other o k ks other)) ∙ there) in
      omega (arith, order.0, rest)
]

-- the first that is lost stands at a lost byte or before
lost_begins : (sent written low o : ℕ) (ks : List Kept) → IsInOrder sent written low ks → mark_at o ks ≡ Some true → BeginsBy o (from_lost ks)
unfolding from_lost
lost_begins sent written low o [] order lost = absurd (let none : ⊥ = cc in none)
lost_begins sent written low o (k ∷ ks) order lost = by (lost_begins sent written (suc k.offset) o ks order.3) k.lost refl (cases_eq o k.offset)
  where
    by : (mark_at o ks ≡ Some true → BeginsBy o (from_lost ks)) → (t : Bool) → k.lost ≡ t → (o ≡ k.offset) ⊎ (o ≡ k.offset → ⊥) → BeginsBy o (cond t (k ∷ ks) (from_lost ks))
    by rest true is where_it = above_low sent written k.offset o (k ∷ ks) (omega arith, order.1, order.2, order.3) (ap is_some lost)
    by rest false is (inl same) =
        absurd (let both : Some k.lost ≡ Some true = sym (mark_here o k ks same) ∙ lost in
        let yes_lost : k.lost ≡ true = cc in not_both k.lost is yes_lost)
    by rest false is (inr other) = rest (sym (mark_other o k ks other) ∙ lost)

-- or before each byte that wasn't sent
lost_before : (sent written low o : ℕ) (ks : List Kept) → IsInOrder sent written low ks → sent ≤ o → has_bytes (from_lost ks) ≡ true → BeginsBy o (from_lost ks)
unfolding from_lost has_bytes
lost_before sent written low o [] order high some = absurd (false≢true some)
lost_before sent written low o (k ∷ ks) order high some = by (lost_before sent written (suc k.offset) o ks order.3 high) k.lost refl some
  where
    by : (has_bytes (from_lost ks) ≡ true → BeginsBy o (from_lost ks)) → (t : Bool) → k.lost ≡ t → has_bytes (cond t (k ∷ ks) (from_lost ks)) ≡ true
        → BeginsBy o (cond t (k ∷ ks) (from_lost ks))
    by rest true is some_here = let less : k.offset < sent = order.2 is in omega arith
    by rest false is some_there = rest some_there

fresh_begins : (sent written low o : ℕ) (ks : List Kept) → IsInOrder sent written low ks → sent ≤ o → is_some (mark_at o ks) ≡ true → BeginsBy o (from_offset sent ks)
unfolding from_offset
fresh_begins sent written low o [] order high there = absurd (false≢true there)
fresh_begins sent written low o (k ∷ ks) order high there = elim (cases_lt k.offset sent) [
  | inl less ↦
      rw (lt-leb sent k.offset less)
      (fresh_begins sent written (suc k.offset) o ks order.3 high (ap is_some (sym (mark_other o k ks (λ same. omega arith))) ∙ there))
  | inr more ↦ rw (le-leb sent k.offset more) (above_low sent written k.offset o (k ∷ ks) (omega arith, order.1, order.2, order.3) there)
]

unsent_waits : (o : ℕ) (b : Buffer) → IsInOrder b.sent b.written 0 b.kept → is_some (mark_at o b.kept) ≡ true → b.sent ≤ o → BeginsBy o (waiting b)
unfolding waiting
unsent_waits o b order there high = by (has_bytes (from_lost b.kept)) refl
  where
    by : (t : Bool) → has_bytes (from_lost b.kept) ≡ t → BeginsBy o (cond t (from_lost b.kept) (from_offset b.sent b.kept))
    by true some = lost_before b.sent b.written 0 o b.kept order high some
    by false none = fresh_begins b.sent b.written 0 o b.kept order high there

lost_waits : (o : ℕ) (b : Buffer) → IsInOrder b.sent b.written 0 b.kept → mark_at o b.kept ≡ Some true → BeginsBy o (waiting b)
unfolding waiting
lost_waits o b order lost =
    let first = lost_begins b.sent b.written 0 o b.kept order lost in
    rw (begun_has o (from_lost b.kept) first) first

due_waits : (o n : ℕ) (b : Buffer) (f : Fate) → is_due f ≡ true → IsInOrder b.sent b.written 0 b.kept → Fits o n b.sent (mark_at o b.kept) f → BeginsBy o (waiting b)
unfolding is_due
due_waits o n b NotWritten due order fits = absurd (false≢true due)
due_waits o n b NotSent due order fits = unsent_waits o b order fits.0 fits.1
due_waits o n b Outstanding due order fits = absurd (false≢true due)
due_waits o n b Missing due order fits = elim (cases_lt o b.sent) [
  | inl less ↦ lost_waits o b order (fits.1 less)
  | inr more ↦ unsent_waits o b order fits.0 more
]
due_waits o n b Acknowledged due order fits = absurd (false≢true due)
due_waits o n b LetGo due order fits = absurd (false≢true due)

part_begins : (o : ℕ) (v : List Kept) (part : Option (ℕ × List ℕ)) → BeginsBy o v → first_offset v ≡ option_map (λ p. p.0) part → IsSome part × IfSome part (λ p. p.0 ≤ o)
unfolding first_offset
part_begins o [] part by place = absurd by
part_begins o (k ∷ v) None by place = absurd (let none : ⊥ = cc in none)
part_begins o (k ∷ v) (Some p) by place = (refl, let same : k.offset ≡ p.0 = cc in omega (arith, same, by))

pub sends_what_is_due : (xs : List Step) → SendsWhatIsDue xs
unfolding SendsWhatIsDue
sends_what_is_due xs = λ o most part due next.
    let is = stands o xs in
    part_begins o (waiting (after xs nothing)) part (due_waits o is.0 (after xs nothing) (fate o xs) due is.1.order is.1.fits) next.place
