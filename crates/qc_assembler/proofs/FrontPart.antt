-- The part that waits outside of the tree
use Rattle.std.proofs.Common.{◌≡◌, ◌∙◌, ap, sym, ℕ, ◌+◌, ◌-◌, ◌^◌, ◌<◌, ◌≤◌, inl, inr, suc, List, [], ◌∷◌, ◌++◌, true, false, length, take, drop, arith, refl, subst, Option, None, Some, Result, Ok, Err}
use Rattle.std.specs.Option.{option_map}
use Rattle.std.specs.Prelude.{is_some, IsTrue, OnOk, OnErr}
use Rattle.std.specs.BTreeMap.{insert_entry}
use Rattle.std.specs.Ordering.{nat_cmp}
use Rattle.std.proofs.lemmas.Bool.{false≢true, cases_lt, lt-ltb, le-ltb, eq-eqb}
use Rattle.std.proofs.Common.{length-drop}
use Rattle.std.proofs.Math.Seq.{take-length}
use Rattle.std.proofs.lemmas.List.{length-append, length-take-le, length-take, take_all}
use Rattle.qc_assembler.specs.Assembly.{Assembly, add, byte_came, bytes_of, inserted, advanced, part_count, begins_at, IsFirst, IsFront}
use Rattle.qc_assembler.specs.Parts.{flat, Apart, joints, starts_at, first_part, front_bytes, without_front, one, IsKept}
use Rattle.qc_assembler.specs.Ahead.{AllUnread, AreRanges, IsSound, listed, range_past, assembled}
use Rattle.qc_assembler.specs.Waiting.{entries_with, front_left, IsAlone, IsWhole}
use Rattle.qc_assembler.proofs.Adding.{add_front}
use Rattle.qc_assembler.proofs.Placing.{parts_counted}
use Rattle.qc_assembler.proofs.Segments.{fill_step, inserted_none, unread_beyond}
use Rattle.qc_assembler.proofs.FirstPart.{front_some, left_front, kept_cut, cut_behind, drop_all}
use Rattle.qc_assembler.proofs.ReadFront.{starts_begins, front_taken, advance_taken}
use Rattle.qc_assembler.proofs.Unread.{from_parts, unread_after, unread_beyond_read, unread_drop}

-- ---- with no front part, and with one

pub with_none : (o : ℕ) (front : Option (List ℕ)) (parts : List (ℕ × List ℕ)) → front ≡ None → entries_with o front parts ≡ parts
unfolding entries_with
with_none o None parts e = refl
with_none o (Some p) parts e = absurd (let no : ⊥ = cc in no)

pub with_some : (o : ℕ) (front : Option (List ℕ)) (p : List ℕ) (parts : List (ℕ × List ℕ)) → front ≡ Some p → entries_with o front parts ≡ (o + length p, p) ∷ []
unfolding entries_with
with_some o None p parts e = absurd (let no : ⊥ = cc in no)
with_some o (Some q) p parts e = let same : q ≡ p = cc in rw same refl

pub none_alone : (o : ℕ) (front : Option (List ℕ)) (parts : List (ℕ × List ℕ)) → front ≡ None → IsAlone o front parts
unfolding IsAlone
none_alone o None parts e = tt
none_alone o (Some p) parts e = absurd (let no : ⊥ = cc in no)

pub some_alone : (o : ℕ) (front : Option (List ℕ)) (p : List ℕ) (parts : List (ℕ × List ℕ)) → front ≡ Some p → IsAlone o front parts
    → (0 < length p) × (o + length p < 2 ^ 64) × (parts ≡ [])
unfolding IsAlone
some_alone o None p parts e alone = absurd (let no : ⊥ = cc in no)
some_alone o (Some q) p parts e alone =
    let same : q ≡ p = cc in
    subst (λ (l : List ℕ). (0 < length l) × (o + length l < 2 ^ 64) × (parts ≡ [])) same alone

pub left_none : (most : ℕ) (front : Option (List ℕ)) → front ≡ None → front ≡ front_left most front
unfolding front_left
left_none most None e = refl
left_none most (Some p) e = absurd (let no : ⊥ = cc in no)

pub left_some : (most : ℕ) (front : Option (List ℕ)) (p q : List ℕ) → front ≡ Some p → most < length p → q ≡ drop most p → Some q ≡ front_left most front
unfolding front_left
left_some most None p q e less rest = absurd (let no : ⊥ = cc in no)
left_some most (Some r) p q e less rest = let same : r ≡ p = cc in rw (same, lt-ltb most (length p) less, rest) refl

pub left_whole : (most : ℕ) (front : Option (List ℕ)) (p : List ℕ) → front ≡ Some p → length p ≤ most → None ≡ front_left most front
unfolding front_left
left_whole most None p e more = absurd (let no : ⊥ = cc in no)
left_whole most (Some r) p e more = let same : r ≡ p = cc in rw (same, le-ltb most (length p) more) refl

-- ---- bytes that come next, where nothing waits

pub next_came : (o : ℕ) (p : List ℕ) → assembled o [] ((o + length p, p) ∷ []) ≡ inserted o p (assembled o [] [])
unfolding flat AreRanges range_past
next_came o p =
    let s : o + length p - length p ≡ o = omega arith in
    let came : flat ((o + length p, p) ∷ []) ≡ add o (take (length p) p) (flat []) = rw (s, take-length p) (sym (add_front o p [] tt)) in
    sym (fill_step o (length p) o [] p [] ((o + length p, p) ∷ []) (omega arith) (unread_beyond o (length p) o [] [] tt refl (omega arith)) came
    ∙ inserted_none (o + length p) (drop (length p) p) (assembled o [] ((o + length p, p) ∷ [])) (length-drop (length p) p ∙ omega arith))

one_apart : (o : ℕ) (p : List ℕ) → 0 < length p → Apart 0 ((o + length p, p) ∷ [])
unfolding Apart
one_apart o p some = (some, omega arith, tt)

one_kept : (o j : ℕ) (p : List ℕ) → 0 < length p → IsKept [] j → IsKept ((o + length p, p) ∷ []) j
unfolding joints starts_at one
one_kept o j p some kept = record { apart = one_apart o p some; count = kept.count }

none_kept : (o j : ℕ) (p : List ℕ) → IsKept ((o + length p, p) ∷ []) j → IsKept [] j
unfolding Apart joints starts_at one
none_kept o j p kept = record { apart = tt; count = kept.count }

pub one_part : (o : ℕ) (p : List ℕ) → 0 < length p → part_count (flat ((o + length p, p) ∷ [])) ≡ 1
unfolding joints starts_at one
one_part o p some = omega (arith, parts_counted ((o + length p, p) ∷ []) (one_apart o p some))

-- bytes that come one after the other come in two steps
inserted_more : (o : ℕ) (q p : List ℕ) (a : Assembly) → inserted o (q ++ p) a ≡ inserted (o + length q) p (inserted o q a)
unfolding inserted
inserted_more o [] p a = let e : o + 0 ≡ o = omega arith in rw e refl
inserted_more o (b ∷ q) p a = let e : o + suc (length q) ≡ suc o + length q = omega arith in rw e (inserted_more (suc o) q p (byte_came o b a))

fresh_whole : (o j : ℕ) (l : List ℕ) → IsKept [] j → 0 < length l → o + length l < 2 ^ 64 → (let f : Option (List ℕ) = Some l in IsWhole o [] f [] j)
unfolding entries_with IsAlone AreRanges AllUnread flat
fresh_whole o j l kept some fits = record {
  sound = record {
    kept = one_kept o j l some kept;
    ascending = tt;
    unread = unread_after o o [] l [] ((o + length l, l) ∷ []) tt (next_came o l);
  };
  alone = (some, fits, refl);
}

kept_alone : (o j : ℕ) (front : Option (List ℕ)) (parts : List (ℕ × List ℕ)) → parts ≡ [] → IsKept (entries_with o front parts) j → IsKept [] j
unfolding entries_with
kept_alone o j None parts none kept = subst (λ (l : List (ℕ × List ℕ)). IsKept l j) none kept
kept_alone o j (Some p) parts none kept = none_kept o j p kept

-- the front with bytes behind it
pub more_whole : (o j : ℕ) (ranges : List (ℕ × ℕ)) (front next : Option (List ℕ)) (p : List ℕ) (parts : List (ℕ × List ℕ))
    → ranges ≡ [] → parts ≡ [] → 0 < length p → o + length (bytes_of front) + length p < 2 ^ 64 → next ≡ Some (bytes_of front ++ p) → IsWhole o ranges front parts j → IsWhole o ranges next parts j
more_whole o j ranges front next p parts r q some fits is whole =
    let size = length-append (bytes_of front) p in
    let kept = kept_alone o j front parts q whole.sound.kept in
    rw (r, q, is) (fresh_whole o j (bytes_of front ++ p) kept (omega (arith, size)) (omega (arith, size)))

pub followed_whole : {E : Type 0} (res : Result (Unit {0}) E) (o j : ℕ) (ranges : List (ℕ × ℕ)) (front next : Option (List ℕ)) (p : List ℕ) (parts : List (ℕ × List ℕ))
    → ranges ≡ [] → parts ≡ [] → 0 < length p → o + length (bytes_of front) + length p < 2 ^ 64 → OnOk res (next ≡ Some (bytes_of front ++ p)) → OnErr res (next ≡ front) → IsWhole o ranges front parts j
    → IsWhole o ranges next parts j
followed_whole (Ok x) o j ranges front next p parts r q some fits ok err whole = more_whole o j ranges front next p parts r q some fits ok whole
followed_whole (Err e) o j ranges front next p parts r q some fits ok err whole = subst (λ (f : Option (List ℕ)). IsWhole o ranges f parts j) (sym err) whole

more_came : (o : ℕ) (front : Option (List ℕ)) (p : List ℕ) → assembled o [] ((o + length (bytes_of front ++ p), bytes_of front ++ p) ∷ []) ≡ inserted (o + length (bytes_of front)) p (assembled o [] (entries_with o front []))
unfolding entries_with bytes_of
more_came o None p = let e : o + 0 ≡ o = omega arith in next_came o p ∙ ap (λ (i : ℕ). inserted i p (assembled o [] [])) (sym e)
more_came o (Some q) p = next_came o (q ++ p) ∙ inserted_more o q p (assembled o [] []) ∙ ap (λ (a : Assembly). inserted (o + length q) p a) (sym (next_came o q))

pub more_inserted : (o : ℕ) (ranges : List (ℕ × ℕ)) (front next : Option (List ℕ)) (p : List ℕ) (parts : List (ℕ × List ℕ))
    → ranges ≡ [] → parts ≡ [] → next ≡ Some (bytes_of front ++ p)
    → assembled o ranges (entries_with o next parts) ≡ inserted (o + length (bytes_of front)) p (assembled o ranges (entries_with o front parts))
more_inserted o ranges front next p parts r q is =
    rw (r, q) (ap (λ (l : List (ℕ × List ℕ)). assembled o [] l) (with_some o next (bytes_of front ++ p) [] is) ∙ more_came o front p)

pub more_few : (o : ℕ) (ranges : List (ℕ × ℕ)) (front next : Option (List ℕ)) (p : List ℕ) (parts : List (ℕ × List ℕ)) (a : Assembly) → 0 < length p → next ≡ Some (bytes_of front ++ p)
    → assembled o ranges (entries_with o next parts) ≡ a → part_count a.came ≤ 1024
unfolding assembled
more_few o ranges front next p parts a some is came =
    let size = length-append (bytes_of front) p in
    let one = one_part o (bytes_of front ++ p) (omega (arith, size)) in
    subst (λ (b : Assembly). part_count b.came ≤ 1024) came
    (subst (λ (l : List (ℕ × List ℕ)). part_count (flat l) ≤ 1024) (sym (with_some o next (bytes_of front ++ p) parts is)) (omega (arith, one)))

pub alone_part : (o : ℕ) (front : Option (List ℕ)) (parts : List (ℕ × List ℕ)) → is_some front ≡ true → IsAlone o front parts → 1 ≡ part_count (flat (entries_with o front parts))
unfolding entries_with IsAlone
alone_part o None parts e alone = absurd (false≢true e)
alone_part o (Some p) parts e alone = sym (one_part o p alone.0)

pub alone_fits : (o : ℕ) (front : Option (List ℕ)) (parts : List (ℕ × List ℕ)) → is_some front ≡ true → IsAlone o front parts → o + length (bytes_of front) < 2 ^ 64
unfolding IsAlone bytes_of
alone_fits o None parts e alone = absurd (false≢true e)
alone_fits o (Some p) parts e alone = alone.1

-- ---- what a read of the front part gives and leaves

first_of : (most o : ℕ) (p : List ℕ) → 0 < length p → IsFirst most (flat ((o + length p, p) ∷ [])) (Some (o, take most p))
unfolding first_part front_bytes
first_of most o p some =
    let s : o + length p - length p ≡ o = omega arith in
    let at : (n : ℕ) → n ≤ length p → n ≤ most → (0 < most → 0 < n) → take n p ≡ take most p → IsFirst most (flat ((o + length p, p) ∷ [])) (Some (o, take most p)) =
    λ n fits few more same.
    subst (λ (l : List ℕ). IsFirst most (flat ((o + length p, p) ∷ [])) (Some (o, l))) same
    (subst (λ (i : ℕ). IsFirst most (flat ((o + length p, p) ∷ [])) (Some (i, take n p))) s
    (front_some most n (o + length p) (length p) ((o + length p, p) ∷ []) (one_apart o p some) refl fits few more)) in
    elim (cases_lt most (length p)) [
      | inl less ↦ at most (omega arith) (omega arith) (λ h. h) refl
      | inr more ↦ at (length p) (omega arith) more (λ _. some) (take-length p ∙ sym (take_all most p more))
    ]

begins_one : (o : ℕ) (p : List ℕ) → 0 < length p → begins_at o (flat ((o + length p, p) ∷ [])) ≡ true
unfolding starts_at
begins_one o p some = sym (starts_begins o ((o + length p, p) ∷ []) (one_apart o p some)) ∙ eq-eqb (o + length p - length p) o (omega arith)

-- the parts that are left, by how many bytes were asked for
left_cut : (most o : ℕ) (p : List ℕ) (parts : List (ℕ × List ℕ)) → most < length p
    → entries_with (o + length (take most p)) (front_left most (Some p)) parts ≡ without_front most ((o + length p, p) ∷ [])
unfolding entries_with front_left without_front
left_cut most o p parts less =
    let long : length (drop most p) ≡ length p - most = length-drop most p in
    let end : o + most + length (drop most p) ≡ o + length p = omega arith in
    rw (lt-ltb most (length p) less, length-take-le most p (omega arith), end) refl

left_none_behind : (most o : ℕ) (p : List ℕ) (parts : List (ℕ × List ℕ)) → length p ≤ most → parts ≡ [] → entries_with (o + length (take most p)) (front_left most (Some p)) parts ≡ []
unfolding entries_with front_left
left_none_behind most o p parts more none = rw (le-ltb most (length p) more) none

left_flat : (most o : ℕ) (p : List ℕ) (parts : List (ℕ × List ℕ)) → 0 < length p → parts ≡ []
    → flat (entries_with (o + length (take most p)) (front_left most (Some p)) parts) ≡ drop (length (take most p)) (flat ((o + length p, p) ∷ []))
unfolding flat first_part front_bytes
left_flat most o p parts some none = elim (cases_lt most (length p)) [
  | inl less ↦
      ap flat (left_cut most o p parts less) ∙ left_front most (o + length p) (length p) ((o + length p, p) ∷ []) (one_apart o p some) refl (omega arith)
  | inr more ↦
      rw (left_none_behind most o p parts more none, take_all most p more) (sym (drop_all (o + length p - length p) p []))
]

left_kept : (most o j : ℕ) (p : List ℕ) (parts : List (ℕ × List ℕ)) → 0 < length p → parts ≡ [] → IsKept ((o + length p, p) ∷ []) j
    → IsKept (entries_with (o + length (take most p)) (front_left most (Some p)) parts) j
unfolding first_part
left_kept most o j p parts some none kept = elim (cases_lt most (length p)) [
  | inl less ↦
      subst (λ (l : List (ℕ × List ℕ)). IsKept l j) (sym (left_cut most o p parts less)) (kept_cut most (o + length p) (length p) j ((o + length p, p) ∷ []) refl less kept)
  | inr more ↦ subst (λ (l : List (ℕ × List ℕ)). IsKept l j) (sym (left_none_behind most o p parts more none)) (none_kept o j p kept)
]

left_behind : (most o : ℕ) (p : List ℕ) (parts : List (ℕ × List ℕ)) → 0 < length p → parts ≡ []
    → Apart (o + length (take most p)) (entries_with (o + length (take most p)) (front_left most (Some p)) parts)
unfolding first_part Apart
left_behind most o p parts some none = elim (cases_lt most (length p)) [
  | inl less ↦
      let long = length-take-le most p (omega arith) in
      let s : o + length p - length p + most ≡ o + length (take most p) = omega arith in
      subst (λ (l : List (ℕ × List ℕ)). Apart (o + length (take most p)) l) (sym (left_cut most o p parts less))
      (subst (λ (i : ℕ). Apart i (without_front most ((o + length p, p) ∷ []))) s
      (cut_behind most (o + length p) (length p) ((o + length p, p) ∷ []) refl less (one_apart o p some)))
  | inr more ↦ subst (λ (l : List (ℕ × List ℕ)). Apart (o + length (take most p)) l) (sym (left_none_behind most o p parts more none)) tt
]

left_alone : (most o : ℕ) (p : List ℕ) (parts : List (ℕ × List ℕ)) → o + length p < 2 ^ 64 → parts ≡ [] → IsAlone (o + length (take most p)) (front_left most (Some p)) parts
unfolding front_left IsAlone
left_alone most o p parts fits none = elim (cases_lt most (length p)) [
  | inl less ↦
      let long : length (drop most p) ≡ length p - most = length-drop most p in
      let taken = length-take-le most p (omega arith) in
      rw (lt-ltb most (length p) less) (omega arith, omega arith, none)
  | inr more ↦ rw (le-ltb most (length p) more) tt
]

left_whole_of : (most o j : ℕ) (ranges : List (ℕ × ℕ)) (p : List ℕ) (parts : List (ℕ × List ℕ)) → IsWhole o ranges (Some p) parts j
    → IsWhole (o + length (take most p)) ranges (front_left most (Some p)) parts j
unfolding entries_with IsAlone
left_whole_of most o j ranges p parts whole =
    let some = whole.alone.0 in
    let none = whole.alone.2 in
    let left = left_flat most o p parts some none in
    let unread = subst (λ (v : List (ℕ × ℕ)). AllUnread o (listed ranges) v) (sym left)
    (unread_drop o (length (take most p)) (listed ranges) (flat ((o + length p, p) ∷ [])) whole.sound.unread) in
    record {
      sound = record {
        kept = left_kept most o j p parts some none whole.sound.kept;
        ascending = whole.sound.ascending;
        unread = unread_beyond_read o (o + length (take most p)) (listed ranges) (flat (entries_with (o + length (take most p)) (front_left most (Some p)) parts))
            (from_parts (o + length (take most p)) (entries_with (o + length (take most p)) (front_left most (Some p)) parts) (left_behind most o p parts some none)) unread;
      };
      alone = left_alone most o p parts whole.alone.1 none;
    }

-- a chunk that is taken off a front part

pub taken_fits : (most o : ℕ) (front : Option (List ℕ)) (parts : List (ℕ × List ℕ)) (chunk : List ℕ) → Some chunk ≡ option_map (λ p. take most p) front
    → IsAlone o front parts → o + length chunk < 2 ^ 64
unfolding IsAlone
taken_fits most o None parts chunk e alone = absurd (let no : ⊥ = cc in no)
taken_fits most o (Some p) parts chunk e alone =
    let same : chunk ≡ take most p = cc in
    let long = length-take most p in
    let size : length chunk ≤ length p = rw same (shorter most p) in
    omega (arith, alone.1)
  where
    shorter : (n : ℕ) (l : List ℕ) → length (take n l) ≤ length l
    shorter n l = let long = length-take n l in omega (arith, long)

pub taken_front : (most o j : ℕ) (ranges : List (ℕ × ℕ)) (front : Option (List ℕ)) (parts : List (ℕ × List ℕ)) (chunk : List ℕ) → Some chunk ≡ option_map (λ p. take most p) front
    → IsWhole o ranges front parts j → IsFront most (assembled o ranges (entries_with o front parts)) (Some chunk)
unfolding entries_with IsAlone
taken_front most o j ranges None parts chunk e whole = absurd (let no : ⊥ = cc in no)
taken_front most o j ranges (Some p) parts chunk e whole =
    let same : chunk ≡ take most p = cc in
    subst (λ (l : List ℕ). IsFront most (assembled o ranges ((o + length p, p) ∷ [])) (Some l)) (sym same)
    (front_taken most o o ranges ((o + length p, p) ∷ []) (take most p) (begins_one o p whole.alone.0) (first_of most o p whole.alone.0))

pub taken_after : (most o j : ℕ) (ranges : List (ℕ × ℕ)) (front left : Option (List ℕ)) (parts : List (ℕ × List ℕ)) (chunk : List ℕ) → Some chunk ≡ option_map (λ p. take most p) front
    → left ≡ front_left most front → IsWhole o ranges front parts j
    → assembled (o + length chunk) ranges (entries_with (o + length chunk) left parts) ≡ advanced (length chunk) (assembled o ranges (entries_with o front parts))
unfolding entries_with IsAlone
taken_after most o j ranges None left parts chunk e l whole = absurd (let no : ⊥ = cc in no)
taken_after most o j ranges (Some p) left parts chunk e l whole =
    let same : chunk ≡ take most p = cc in
    rw (same, l)
    (advance_taken (length (take most p)) o ranges ((o + length p, p) ∷ []) (entries_with (o + length (take most p)) (front_left most (Some p)) parts)
    (left_flat most o p parts whole.alone.0 whole.alone.2))

pub taken_whole : (most o j : ℕ) (ranges : List (ℕ × ℕ)) (front left : Option (List ℕ)) (parts : List (ℕ × List ℕ)) (chunk : List ℕ) → Some chunk ≡ option_map (λ p. take most p) front
    → left ≡ front_left most front → IsWhole o ranges front parts j → IsWhole (o + length chunk) ranges left parts j
taken_whole most o j ranges None left parts chunk e l whole = absurd (let no : ⊥ = cc in no)
taken_whole most o j ranges (Some p) left parts chunk e l whole =
    let same : chunk ≡ take most p = cc in
    subst (λ (f : Option (List ℕ)). IsWhole (o + length chunk) ranges f parts j) (sym l)
    (subst (λ (c : List ℕ). IsWhole (o + length c) ranges (front_left most (Some p)) parts j) (sym same) (left_whole_of most o j ranges p parts whole))

-- where there is no front part, all stands in the tree
pub tree_whole : (o j : ℕ) (ranges : List (ℕ × ℕ)) (front : Option (List ℕ)) (parts : List (ℕ × List ℕ)) → front ≡ None → IsSound o ranges parts j → IsWhole o ranges front parts j
unfolding entries_with IsAlone
tree_whole o j ranges None parts e sound = record { sound = sound; alone = tt }
tree_whole o j ranges (Some p) parts e sound = absurd (let no : ⊥ = cc in no)

pub tree_sound : (o j : ℕ) (ranges : List (ℕ × ℕ)) (front : Option (List ℕ)) (parts : List (ℕ × List ℕ)) → front ≡ None → IsWhole o ranges front parts j → IsSound o ranges parts j
unfolding entries_with
tree_sound o j ranges None parts e whole = whole.sound
tree_sound o j ranges (Some p) parts e whole = absurd (let no : ⊥ = cc in no)

pub tree_view : (o : ℕ) (ranges : List (ℕ × ℕ)) (front : Option (List ℕ)) (parts : List (ℕ × List ℕ)) → front ≡ None
    → assembled o ranges (entries_with o front parts) ≡ assembled o ranges parts
tree_view o ranges front parts e = ap (λ (l : List (ℕ × List ℕ)). assembled o ranges l) (with_none o front parts e)

-- where nothing was taken off it
pub untouched : (most : ℕ) (front left chunk : Option (List ℕ)) → chunk ≡ option_map (λ p. take most p) front → chunk ≡ None → left ≡ front_left most front → (front ≡ None) × (left ≡ None)
unfolding front_left
untouched most None left chunk e none l = (refl, l)
untouched most (Some p) left chunk e none l = absurd (let no : ⊥ = cc in no)

-- what the tree holds once the front part was moved there
pub moved_sound : (o j : ℕ) (ranges : List (ℕ × ℕ)) (front : Option (List ℕ)) (parts moved : List (ℕ × List ℕ)) → moved ≡ entries_with o front parts → IsWhole o ranges front parts j
    → IsSound o ranges moved j
moved_sound o j ranges front parts moved e whole = subst (λ (l : List (ℕ × List ℕ)). IsSound o ranges l j) (sym e) whole.sound

pub is_absent : (front : Option (List ℕ)) → is_some front ≡ false → front ≡ None
is_absent None e = refl
is_absent (Some p) e = absurd (false≢true (sym e))

-- what waits there is put into an empty tree as one part
pub moved_in : (o end : ℕ) (front : Option (List ℕ)) (p : List ℕ) (parts moved : List (ℕ × List ℕ)) → is_some front ≡ true → IsAlone o front parts → end ≡ o + length (bytes_of front) → p ≡ bytes_of front
    → moved ≡ insert_entry nat_cmp parts end p → moved ≡ entries_with o front parts
unfolding entries_with IsAlone bytes_of
moved_in o end None p parts moved e alone is_end is_p is = absurd (false≢true e)
moved_in o end (Some q) p parts moved e alone is_end is_p is = rw (is, alone.2, is_end, is_p) refl

-- a read of at most n bytes is one of at most so many
pub front_within : (n most : ℕ) (a : Assembly) (chunk : Option (List ℕ)) → length (bytes_of chunk) ≤ most → (0 < most → 0 < length (bytes_of chunk)) → IsFront n a chunk → IsFront most a chunk
front_within n most a chunk within some front = record { given = front.given; within = within; some = λ _ h. some h; first = front.first }

pub front_stands : (f : List ℕ → List ℕ) (front : Option (List ℕ)) (chunk : List ℕ) → Some chunk ≡ option_map f front → IsTrue (is_some front)
front_stands f None chunk e = absurd (let no : ⊥ = cc in no)
front_stands f (Some p) chunk e = refl
