-- Variable-length integers: what is read is what is spelled
use Rattle.std.proofs.Common.{◌≡◌, ℕ, ◌+◌, ◌-◌, ◌/◌, ◌%◌, ◌<◌, ◌≤◌, List, [], ◌∷◌, ◌++◌, Bool, true, false, cond, length, get_or, Option, None, Some, refl, ap, sym, ◌∙◌, subst, arith, nat_lt, lit<}
use Rattle.std.specs.Int.{byte_len, from_be_bytes, w16, w32, w64}
use Rattle.std.specs.Option.{option_map, option_and_then}
use Rattle.std.proofs.lemmas.Nat.{be_bytes_2, be_bytes_4, be_bytes_8, from_be_bytes-to_be_bytes_2, from_be_bytes-to_be_bytes_4, from_be_bytes-to_be_bytes_8}
use Rattle.std.proofs.lemmas.Bool.Decides.{nat_tests}
use Rattle.qc_base.specs.Varint.{Form, one, two, four, eight, width, mark, limit, spelled, varint}
use Rattle.qc_base.specs.Reading.{bytes_of, form_of, in_form, varint_of, blob_of}
use Rattle.qc_base.specs.Grammar.{Varint, Blob, IsBytes}
use Rattle.qc_base.proofs.Front.{bytes_again, bytes_take, same_first, same_second, before_bytes}
use Rattle.qc_base.proofs.Exact.{Found, Ends, ends_both, found_bytes}
use Rattle.std.proofs.lemmas.List.{get_or_past, get_or_append_left, length-append}

-- what makes the reading of a form and its spelling one
pub record IsForm (f : Form) : Type 0 where
  pub some : 0 < byte_len (width f)
  -- the spelling is read back
  pub value : (n : ℕ) → n < limit f → from_be_bytes (width f) (spelled f n) - mark f ≡ n
  pub size : (n : ℕ) → length (spelled f n) ≡ byte_len (width f)
  -- by its first byte
  pub first : (n : ℕ) (z : List ℕ) → n < limit f → varint_of (spelled f n ++ z) ≡ in_form f (spelled f n ++ z)
  -- and bytes of this form are the spelling of the number that is read
  pub fits : (x : List ℕ) → length x ≡ byte_len (width f) → ((i : ℕ) → get_or x i 0 < 256) → form_of (get_or x 0 0) ≡ f
      → (from_be_bytes (width f) x - mark f < limit f) × (x ≡ spelled f (from_be_bytes (width f) x - mark f))

-- the forms by the first byte
form_one : (b : ℕ) → b < 64 → form_of b ≡ one
form_one b h = grind (arith, nat_tests)

form_two : (b : ℕ) → 64 ≤ b → b < 128 → form_of b ≡ two
form_two b g h = grind (arith, nat_tests)

form_four : (b : ℕ) → 128 ≤ b → b < 192 → form_of b ≡ four
form_four b g h = grind (arith, nat_tests)

form_eight : (b : ℕ) → 192 ≤ b → form_of b ≡ eight
form_eight b g = grind (arith, nat_tests)

was_one : (b : ℕ) → form_of b ≡ one → b < 64
was_one b e = grind (arith, nat_tests)

was_two : (b : ℕ) → form_of b ≡ two → (64 ≤ b) × (b < 128)
was_two b e = grind (arith, nat_tests)

was_four : (b : ℕ) → form_of b ≡ four → (128 ≤ b) × (b < 192)
was_four b e = grind (arith, nat_tests)

was_eight : (b : ℕ) → form_of b ≡ eight → 192 ≤ b
was_eight b e = grind (arith, nat_tests)

one_byte : (x : List ℕ) → length x ≡ 1 → x ≡ get_or x 0 0 ∷ []
one_byte [] l = absurd (omega arith)
one_byte (a ∷ []) l = refl
one_byte (a ∷ b ∷ x) l = absurd (omega arith)

is_one : IsForm one
unfolding varint_of
is_one = record {
  value = λ n h. omega arith;
  some = omega arith;
  size = λ n. refl;
  first = λ n z h. let b : (0 + n) % 256 < 64 = omega arith in ap (λ f. in_form f ((0 + n) % 256 ∷ z)) (form_one ((0 + n) % 256) b);
  fits = λ x l b e. let h = was_one (get_or x 0 0) e in
      let m : get_or x 0 0 ≡ (0 + (get_or x 0 0 - 0)) % 256 = omega arith in
      (omega arith, one_byte x l ∙ ap (λ (n : ℕ). n ∷ []) m);
}

is_two : IsForm two
unfolding varint_of
is_two = record {
  value = λ n h. let r = from_be_bytes-to_be_bytes_2 (16384 + n) (omega arith) in omega (arith, r);
  some = omega arith;
  size = λ n. refl;
  first = λ n z h. let s : List ℕ = (16384 + n) % 256 ∷ z in
      ap (λ f. in_form f ((16384 + n) / 256 % 256 ∷ s)) (form_two ((16384 + n) / 256 % 256) (omega arith) (omega arith));
  fits = λ x l b e. let h = was_two (get_or x 0 0) e in
      let b0 = b 0 in let b1 = b 1 in
      let m : 16384 + (from_be_bytes w16 x - 16384) ≡ from_be_bytes w16 x = omega arith in
      (omega arith, sym (be_bytes_2 x (16384 + (from_be_bytes w16 x - 16384)) l b m));
}

is_four : IsForm four
unfolding varint_of
is_four = record {
  value = λ n h. let r = from_be_bytes-to_be_bytes_4 (2147483648 + n) (omega arith) in omega (arith, r);
  some = omega arith;
  size = λ n. refl;
  first = λ n z h.
      let s : List ℕ = (2147483648 + n) / 65536 % 256 ∷ (2147483648 + n) / 256 % 256 ∷ (2147483648 + n) % 256 ∷ z in
      ap (λ f. in_form f ((2147483648 + n) / 16777216 % 256 ∷ s)) (form_four ((2147483648 + n) / 16777216 % 256) (omega arith) (omega arith));
  fits = λ x l b e. let h = was_four (get_or x 0 0) e in
      let b0 = b 0 in let b1 = b 1 in let b2 = b 2 in let b3 = b 3 in
      let m : 2147483648 + (from_be_bytes w32 x - 2147483648) ≡ from_be_bytes w32 x = omega arith in
      (omega arith, sym (be_bytes_4 x (2147483648 + (from_be_bytes w32 x - 2147483648)) l b m));
}

is_eight : IsForm eight
unfolding varint_of
is_eight = record {
  value = λ n h. let r = from_be_bytes-to_be_bytes_8 (13835058055282163712 + n) (omega arith) in omega (arith, r);
  some = omega arith;
  size = λ n. refl;
  first = λ n z h.
      let m = 13835058055282163712 + n in
      let s : List ℕ = m / 281474976710656 % 256 ∷ m / 1099511627776 % 256 ∷ m / 4294967296 % 256 ∷ m / 16777216 % 256 ∷ m / 65536 % 256 ∷ m / 256 % 256 ∷ m % 256 ∷ z in
      ap (λ f. in_form f (m / 72057594037927936 % 256 ∷ s)) (form_eight (m / 72057594037927936 % 256) (omega arith));
  fits = λ x l b e. let h = was_eight (get_or x 0 0) e in
      let b0 = b 0 in let b1 = b 1 in let b2 = b 2 in let b3 = b 3 in let b4 = b 4 in let b5 = b 5 in let b6 = b 6 in let b7 = b 7 in
      let m : 13835058055282163712 + (from_be_bytes w64 x - 13835058055282163712) ≡ from_be_bytes w64 x = omega arith in
      (omega arith, sym (be_bytes_8 x (13835058055282163712 + (from_be_bytes w64 x - 13835058055282163712)) l b m));
}

pub is_form : (f : Form) → IsForm f
is_form one = is_one
is_form two = is_two
is_form four = is_four
is_form eight = is_eight

-- what a form reads: some bytes, and their number
formed : (f : Form) (v : Option (List ℕ × List ℕ)) (n : ℕ) (z : List ℕ) → option_map {U = ℕ × List ℕ} (λ x. (from_be_bytes (width f) x.0 - mark f, x.1)) v ≡ Some (n, z)
    → (x : List ℕ) × (v ≡ Some (x, z)) × (from_be_bytes (width f) x - mark f ≡ n)
formed f None n z e = cc
formed f (Some x) n z e =
    let p : ℕ × List ℕ = (from_be_bytes (width f) x.0 - mark f, x.1) in
    (x.0, ap (λ (s : List ℕ). Some (x.0, s)) (same_second p (n, z) e), same_first p (n, z) e)

is_less : (n m : ℕ) → nat_lt n m ≡ true → n < m
is_less n m e = grind (arith, nat_tests)

is_not_less : (n m : ℕ) → nat_lt n m ≡ false → m ≤ n
is_not_less n m e = grind (arith, nat_tests)

front_byte : (x z : List ℕ) (i : ℕ) (less : Bool) → IsBytes (x ++ z) → nat_lt i (length x) ≡ less → get_or x i 0 < 256
front_byte x z i true h e = before_bytes x z h i (is_less i (length x) e)
front_byte x z i false h e = let past : length x ≤ i = is_not_less i (length x) e in rw (get_or_past x i 0 past) (lit< tt)

pub front_bytes : (x z : List ℕ) → IsBytes (x ++ z) → IsBytes x
front_bytes x z h i = front_byte x z i (nat_lt i (length x)) h refl

takes_form : (f : Form) (a : List ℕ) (n : ℕ) (z : List ℕ) → IsBytes a → form_of (get_or a 0 0) ≡ f → in_form f a ≡ Some (n, z) → Varint n a z
takes_form f a n z h first e =
    let w = formed f (bytes_of (byte_len (width f)) a) n z e in
    let x = w.0 in
    let t = bytes_take (byte_len (width f)) a x z w.1 in
    let form = is_form f in
    let bytes : IsBytes x = front_bytes x z (subst (λ (s : List ℕ). IsBytes s) t.1 h) in
    let some : 0 < length x = omega (arith, form.some, t.0) in
    let front : get_or a 0 0 ≡ get_or x 0 0 = ap (λ (s : List ℕ). get_or s 0 0) t.1 ∙ get_or_append_left x z 0 0 some in
    let fits = form.fits x t.0 bytes (ap form_of (sym front) ∙ first) in
    (f, subst (λ (m : ℕ). m < limit f) w.2 fits.0, t.1 ∙ ap (λ (s : List ℕ). s ++ z) (fits.1 ∙ ap (spelled f) w.2))

varint_takes : (a : List ℕ) (n : ℕ) (z : List ℕ) → IsBytes a → varint_of a ≡ Some (n, z) → Varint n a z
unfolding varint_of
varint_takes [] n z h e = cc
varint_takes (b ∷ a) n z h e = takes_form (form_of b) (b ∷ a) n z h refl e

varint_ends : (a : List ℕ) (n : ℕ) (z : List ℕ) → varint_of a ≡ Some (n, z) → Ends a z
unfolding varint_of
varint_ends [] n z e = cc
varint_ends (b ∷ a) n z e =
    let w = formed (form_of b) (bytes_of (byte_len (width (form_of b))) (b ∷ a)) n z e in
    (w.0, (bytes_take (byte_len (width (form_of b))) (b ∷ a) w.0 z w.1).1)

-- it has at least one byte
pub varint_shorter : (a : List ℕ) (n : ℕ) (z : List ℕ) → varint_of a ≡ Some (n, z) → length z < length a
unfolding varint_of
varint_shorter [] n z e = cc
varint_shorter (b ∷ a) n z e =
    let w = formed (form_of b) (bytes_of (byte_len (width (form_of b))) (b ∷ a)) n z e in
    let t = bytes_take (byte_len (width (form_of b))) (b ∷ a) w.0 z w.1 in
    let some = (is_form (form_of b)).some in
    let all = ap length t.1 in
    omega (arith, some, t.0, all, length-append w.0 z)

varint_again : (a : List ℕ) (n : ℕ) (z : List ℕ) → Varint n a z → varint_of a ≡ Some (n, z)
varint_again a n z (f, less, e) =
    let form = is_form f in
    ap varint_of e ∙ form.first n z less
    ∙ ap (λ v. option_map {U = ℕ × List ℕ} (λ x. (from_be_bytes (width f) x.0 - mark f, x.1)) v) (bytes_again (byte_len (width f)) (spelled f n) z (form.size n))
    ∙ ap (λ (m : ℕ). Some (m, z)) (form.value n less)

pub found_varint : Found varint_of Varint
found_varint = record { takes = varint_takes; again = varint_again; ends = varint_ends }

spelled_by : (n : ℕ) (z : List ℕ) (a b c : Bool) → n < 4611686018427387904 → nat_lt n 64 ≡ a → nat_lt n 16384 ≡ b → nat_lt n 1073741824 ≡ c
    → Varint n (cond a (spelled one n) (cond b (spelled two n) (cond c (spelled four n) (spelled eight (n % 4611686018427387904)))) ++ z) z
spelled_by n z true b c h e f g = (one, is_less n 64 e, refl)
spelled_by n z false true c h e f g = (two, is_less n 16384 f, refl)
spelled_by n z false false true h e f g = (four, is_less n 1073741824 g, refl)
spelled_by n z false false false h e f g =
    let same : n % 4611686018427387904 ≡ n = omega arith in (eight, h, ap (λ (m : ℕ). spelled eight m ++ z) same)

-- the shortest form is one of the forms
pub varint_spelled : (n : ℕ) (z : List ℕ) → n < 4611686018427387904 → Varint n (varint n ++ z) z
unfolding varint
varint_spelled n z h = spelled_by n z (nat_lt n 64) (nat_lt n 16384) (nat_lt n 1073741824) h refl refl refl

-- a byte string behind its length
blob_steps : (v : Option (ℕ × List ℕ)) (x z : List ℕ) → option_and_then (λ p. bytes_of p.0 p.1) v ≡ Some (x, z)
    → (n : ℕ) × (b : List ℕ) × (v ≡ Some (n, b)) × (bytes_of n b ≡ Some (x, z))
blob_steps None x z e = cc
blob_steps (Some p) x z e = (p.0, p.1, refl, e)

pub found_blob : Found blob_of Blob
unfolding blob_of
found_blob = record {
  takes = λ a x z h e. let w = blob_steps (varint_of a) x z e in
      (w.0, w.1, varint_takes a w.0 w.1 h w.2, bytes_take w.0 w.1 x z w.3);
  again = λ a x z g. ap (λ v. option_and_then (λ p. bytes_of p.0 p.1) v) (varint_again a g.0 g.1 g.2) ∙ (found_bytes g.0).again g.1 x z g.3;
  ends = λ a x z e. let w = blob_steps (varint_of a) x z e in
      ends_both a w.1 z (varint_ends a w.0 w.1 w.2) ((found_bytes w.0).ends w.1 x z w.3);
}
