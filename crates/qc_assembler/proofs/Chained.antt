-- Parts that follow one another
use Rattle.std.proofs.Common.{◌≡◌, ◌∙◌, ap, sym, ℕ, ◌+◌, ◌-◌, ◌<◌, ◌≤◌, inl, inr, List, [], ◌∷◌, ◌++◌, true, false, length, take, drop, arith, refl, subst, Option, None, Some, length-drop}
use Rattle.std.specs.Prelude.{◌==◌, nat_lt, not, is_some, IsTrue, IfNone, option_to_list}
use Rattle.std.specs.List.{concat}
use Rattle.std.specs.Option.{option_map}
use Rattle.std.proofs.Math.Seq.{take-length, take-append_seam, drop-append_seam}
use Rattle.std.proofs.lemmas.Bool.{false≢true, cases_lt, lt-ltb, le-ltb}
use Rattle.std.proofs.lemmas.List.{append-nil, append_assoc, length-append, length-take-le, take_all, take-append-le, drop-append-le}
use Rattle.std.proofs.lemmas.List.Folds.{concat-append}
use Rattle.qc_assembler.specs.Assembly.{bytes_of}
use Rattle.qc_assembler.specs.Waiting.{front_left}
use Rattle.qc_assembler.specs.Chain.{EachSome, IsLinked, linked}

-- ---- what is seen of them

pub linked_some : (p : Option (List ℕ)) (rest : List (List ℕ)) → is_some (linked p rest) ≡ is_some p
unfolding linked
linked_some None rest = refl
linked_some (Some p) rest = refl

pub linked_len : (p : Option (List ℕ)) (rest : List (List ℕ)) (len : ℕ) → IsLinked p rest len → len ≡ length (bytes_of (linked p rest))
unfolding linked IsLinked bytes_of
linked_len None rest len sound = sound.1
linked_len (Some p) rest len sound = sound.2

pub linked_bytes : (p : Option (List ℕ)) (first : List ℕ) (rest : List (List ℕ)) → p ≡ Some first → bytes_of (linked p rest) ≡ first ++ concat rest
unfolding linked bytes_of
linked_bytes None first rest e = absurd (let no : ⊥ = cc in no)
linked_bytes (Some p) first rest e = let same : p ≡ first = cc in rw same refl

pub linked_none : (p : Option (List ℕ)) (rest : List (List ℕ)) → p ≡ None → bytes_of (linked p rest) ≡ []
unfolding linked bytes_of
linked_none None rest e = refl
linked_none (Some p) rest e = absurd (let no : ⊥ = cc in no)

-- ---- one part more

pub pushed_first : (p : Option (List ℕ)) (rest : List (List ℕ)) (len count : ℕ) (b : List ℕ) → is_some p ≡ false → IsLinked p rest len → 0 < length b → count ≡ length b
    → (let q : Option (List ℕ) = Some b in IsLinked q rest count)
unfolding IsLinked EachSome
pushed_first None rest len count b e sound some n = rw sound.0 (some, tt, n ∙ ap length (sym (append-nil b)))
pushed_first (Some p) rest len count b e sound some n = absurd (false≢true (sym e))

pub pushed_first_seen : (p : Option (List ℕ)) (rest : List (List ℕ)) (len : ℕ) (b : List ℕ) → is_some p ≡ false → IsLinked p rest len
    → (let q : Option (List ℕ) = Some b in linked q rest) ≡ Some (bytes_of (linked p rest) ++ b)
unfolding IsLinked linked bytes_of
pushed_first_seen None rest len b e sound = rw sound.0 (ap (λ (l : List ℕ). (let q : Option (List ℕ) = Some l in q)) (append-nil b))
pushed_first_seen (Some p) rest len b e sound = absurd (false≢true (sym e))

each_more : (rest : List (List ℕ)) (b : List ℕ) → EachSome rest → 0 < length b → EachSome (rest ++ b ∷ [])
unfolding EachSome
each_more [] b each some = (some, tt)
each_more (p ∷ ps) b each some = (each.0, each_more ps b each.1 some)

concat_more : (rest : List (List ℕ)) (b : List ℕ) → concat (rest ++ b ∷ []) ≡ concat rest ++ b
concat_more rest b = concat-append rest (b ∷ []) ∙ ap (λ (l : List ℕ). concat rest ++ l) (append-nil b)

pub pushed : (p : Option (List ℕ)) (rest next : List (List ℕ)) (len count : ℕ) (b : List ℕ) → is_some p ≡ true → next ≡ rest ++ b ∷ [] → IsLinked p rest len → 0 < length b → count ≡ length b
    → IsLinked p next (len + count)
unfolding IsLinked
pushed None rest next len count b e n sound some c = absurd (false≢true e)
pushed (Some p) rest next len count b e n sound some c =
    let all : p ++ concat next ≡ p ++ concat rest ++ b = rw n (ap (λ (l : List ℕ). p ++ l) (concat_more rest b) ∙ sym (append_assoc p (concat rest) b)) in
    let size : length (p ++ concat next) ≡ length (p ++ concat rest) + length b = ap length all ∙ length-append (p ++ concat rest) b in
    let is_len : len ≡ length (p ++ concat rest) = sound.2 in
    (sound.0, subst EachSome (sym n) (each_more rest b sound.1 some), omega (arith, size, is_len, c))

pub pushed_seen : (p : Option (List ℕ)) (rest next : List (List ℕ)) (b : List ℕ) → is_some p ≡ true → next ≡ rest ++ b ∷ [] → linked p next ≡ Some (bytes_of (linked p rest) ++ b)
unfolding linked bytes_of
pushed_seen None rest next b e n = absurd (false≢true e)
pushed_seen (Some p) rest next b e n =
    rw n (ap (λ (l : List ℕ). (let q : Option (List ℕ) = Some l in q)) (ap (λ (l : List ℕ). p ++ l) (concat_more rest b) ∙ sym (append_assoc p (concat rest) b)))

pub same_linked : (p : Option (List ℕ)) (rest next : List (List ℕ)) (len : ℕ) → next ≡ rest → IsLinked p rest len → IsLinked p next len
same_linked p rest next len e sound = subst (λ (l : List (List ℕ)). IsLinked p l len) (sym e) sound

pub same_first : (p q : Option (List ℕ)) (rest : List (List ℕ)) (len : ℕ) → q ≡ p → IsLinked p rest len → IsLinked q rest len
same_first p q rest len e sound = subst (λ (f : Option (List ℕ)). IsLinked f rest len) (sym e) sound

-- ---- bytes are taken off the front

-- what is taken, at most so many bytes of those, and what is left then
pub record Cut (most : ℕ) (old chunk left : Option (List ℕ)) (rest : List (List ℕ)) (len : ℕ) : Type 0 where
  -- it is their front
  pub chunk_is : chunk ≡ option_map (λ p. take (length (bytes_of chunk)) p) old
  -- it has no more bytes than were asked for
  pub within : length (bytes_of chunk) ≤ most
  -- at least one, where one was asked for and there is one
  pub some : 0 < most → IsTrue (is_some old) → 0 < length (bytes_of chunk)
  -- the others are left
  pub left_is : linked left rest ≡ front_left (length (bytes_of chunk)) old
  -- of those that are left
  pub sound : IsLinked left rest len

pub cut_fits : (most : ℕ) (p chunk : Option (List ℕ)) (rest : List (List ℕ)) (len : ℕ) → chunk ≡ option_map (λ l. take most l) p → IsLinked p rest len → length (bytes_of chunk) ≤ len
unfolding IsLinked bytes_of
cut_fits most None chunk rest len e sound = rw e (omega arith)
cut_fits most (Some p) chunk rest len e sound =
    let all = length-append p (concat rest) in
    let is_len : len ≡ length (p ++ concat rest) = sound.2 in
    let few : length (take most p) ≤ length p = elim (cases_lt most (length p)) [
      | inl less ↦ let n = length-take-le most p (omega arith) in omega (arith, n)
      | inr more ↦ rw (take_all most p more) (omega arith)
    ] in
    rw e (omega (arith, all, is_len, few))

-- of the first part some bytes are left
pub cut_within : (most len n : ℕ) (p left chunk : Option (List ℕ)) (rest : List (List ℕ)) → chunk ≡ option_map (λ l. take most l) p → left ≡ front_left most p → is_some left ≡ true → IsLinked p rest len
    → n ≡ length (bytes_of chunk) → Cut most (linked p rest) chunk left rest (len - n)
unfolding IsLinked bytes_of linked front_left
cut_within most len n None left chunk rest e l there sound is_n = absurd (false≢true (ap is_some (sym l) ∙ there))
cut_within most len n (Some p) left chunk rest e l there sound is_n = elim (cases_lt most (length p)) [
  | inr more ↦
      let gone : left ≡ None = l ∙ (rw (le-ltb most (length p) more) refl) in
      absurd (false≢true (ap is_some (sym gone) ∙ there))
  | inl less ↦
      let all = length-append p (concat rest) in
      let is_len : len ≡ length (p ++ concat rest) = sound.2 in
      let long = length-take-le most p (omega arith) in
      let is_most : length (bytes_of chunk) ≡ most = rw e long in
      let is_left : left ≡ Some (drop most p) = l ∙ (rw (lt-ltb most (length p) less) refl) in
      let behind = length-append (drop most p) (concat rest) in
      let dropped = length-drop most p in
      record {
        chunk_is = rw (is_most, e, take-append-le most p (concat rest) (omega arith)) refl;
        within = omega (arith, is_most);
        some = λ h _. omega (arith, is_most);
        left_is = rw (is_most, is_left, lt-ltb most (length (p ++ concat rest)) (omega (arith, all)), drop-append-le most p (concat rest) (omega arith)) refl;
        sound = rw is_left (omega (arith, dropped), sound.1, omega (arith, is_n, is_most, is_len, all, behind, dropped));
      }
]

some_more : (p q : List ℕ) → 0 < length q → length p < length (p ++ q)
some_more p q some = let all = length-append p q in omega (arith, all)

-- the first part is taken
whole_cut : (most len n : ℕ) (p : List ℕ) (chunk next : Option (List ℕ)) (rest behind : List (List ℕ)) → length p ≤ most → chunk ≡ Some p → (let q : Option (List ℕ) = Some p in IsLinked q rest len)
    → n ≡ length (bytes_of chunk) → rest ≡ option_to_list next ++ behind → IfNone next (rest ≡ []) → (let q : Option (List ℕ) = Some p in Cut most (linked q rest) chunk next behind (len - n))
unfolding IsLinked EachSome bytes_of linked front_left
whole_cut most len n p chunk None rest behind more is_chunk sound is_n r none =
    let empty : behind ≡ [] = sym r ∙ none in
    let is_len : len ≡ length (p ++ concat rest) = sound.2 in
    let alone : length (p ++ concat rest) ≡ length p = rw none (ap length (append-nil p)) in
    rw (is_chunk, none) record {
      chunk_is = rw (append-nil p, take-length p) refl;
      within = more;
      some = λ h t. sound.0;
      left_is = rw (append-nil p, le-ltb (length p) (length p) (omega arith)) refl;
      sound = (empty, omega (arith, is_n, ap (λ (c : Option (List ℕ)). length (bytes_of c)) is_chunk, is_len, alone));
    }
whole_cut most len n p chunk (Some x) rest behind more is_chunk sound is_n r none =
    let each = subst EachSome r sound.1 in
    let is_len : len ≡ length (p ++ concat rest) = sound.2 in
    let parts : length (p ++ concat rest) ≡ length p + length (x ++ concat behind) = rw r (length-append p (x ++ concat behind)) in
    let some = length-append x (concat behind) in
    let long = some_more p (x ++ concat behind) (omega (arith, some, each.0)) in
    rw (is_chunk, r) record {
      chunk_is = rw (take-append_seam p (x ++ concat behind)) refl;
      within = more;
      some = λ h t. sound.0;
      left_is = rw (lt-ltb (length p) (length (p ++ (x ++ concat behind))) long, drop-append_seam p (x ++ concat behind)) refl;
      sound = (each.0, each.1, omega (arith, is_n, ap (λ (c : Option (List ℕ)). length (bytes_of c)) is_chunk, is_len, parts));
    }

-- nothing of the first part is left, and the next one is the first
pub cut_whole : (most len n : ℕ) (p left chunk next : Option (List ℕ)) (rest behind : List (List ℕ)) → chunk ≡ option_map (λ l. take most l) p → left ≡ front_left most p → is_some left ≡ false → IsLinked p rest len
    → n ≡ length (bytes_of chunk) → rest ≡ option_to_list next ++ behind → IfNone next (rest ≡ []) → Cut most (linked p rest) chunk next behind (len - n)
unfolding IsLinked EachSome bytes_of linked front_left
cut_whole most len n None left chunk None rest behind e l gone sound is_n r none =
    let empty : behind ≡ [] = sym r ∙ sound.0 in
    rw e record { chunk_is = refl; within = omega arith; some = λ h t. absurd (false≢true t); left_is = refl; sound = (empty, omega (arith, sound.1)) }
cut_whole most len n None left chunk (Some x) rest behind e l gone sound is_n r none = absurd (let no : ⊥ = nothing_first x behind (sym r ∙ sound.0) in no)
  where
    nothing_first : (x : List ℕ) (xs : List (List ℕ)) → x ∷ xs ≡ [] → ⊥
    nothing_first x xs q = cc
cut_whole most len n (Some p) left chunk next rest behind e l gone sound is_n r none = elim (cases_lt most (length p)) [
  | inl less ↦
      let there : left ≡ Some (drop most p) = l ∙ (rw (lt-ltb most (length p) less) refl) in
      absurd (false≢true (sym gone ∙ ap is_some there))
  | inr more ↦
      let is_chunk : chunk ≡ Some p = e ∙ ap (λ (k : List ℕ). (let q : Option (List ℕ) = Some k in q)) (take_all most p more) in
      whole_cut most len n p chunk next rest behind more is_chunk sound is_n r none
]

-- ---- all as one

pub all_copied : (p start one two three : List ℕ) (front back rest : List (List ℕ)) → start ≡ [] → front ++ back ≡ rest → one ≡ start ++ p → two ≡ one ++ concat front → three ≡ two ++ concat back
    → three ≡ p ++ concat rest
all_copied p start one two three front back rest s f a b c =
    rw (c, b, a, s, ← f, concat-append front back) (append_assoc p (concat front) (concat back))

pub alone_is : (p b : List ℕ) (rest : List (List ℕ)) → length rest ≡ 0 → b ≡ p → b ≡ p ++ concat rest
alone_is p b [] none e = e ∙ sym (append-nil p)
alone_is p b (x ∷ xs) none e = absurd (omega (arith, none))
