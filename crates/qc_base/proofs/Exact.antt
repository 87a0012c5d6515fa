-- Readers that give exactly what a grammar says
use Rattle.std.proofs.Common.{◌≡◌, ◌≤◌, ℕ, ◌-◌, List, [], ◌∷◌, ◌++◌, Bool, true, false, cond, length, take, Option, None, Some, Result, Ok, Err, refl, ap, sym, ◌∙◌, subst, arith, append_assoc, append-nil, length-append}
use Rattle.std.proofs.Math.Seq.{take-append_seam}
use Rattle.std.specs.Option.{ok_or}
use Rattle.qc_base.specs.Reading.{Reader, read_on, give, text_of, left_at, rest_at, or_fault, byte_of, bytes_of}
use Rattle.qc_base.specs.Grammar.{Spelling, ◌>>=◌, Is, Where, Text, Bytes, Byte, Rest, Left, IsBytes}
use Rattle.qc_base.proofs.Front.{behind_bytes, bytes_again, bytes_take, same_first, same_second}

-- z is the end of a
abbrev pub Ends : List ℕ → List ℕ → Type 0
Ends a z = (front : List ℕ) × (a ≡ front ++ z)

pub ends_bytes : (a z : List ℕ) → Ends a z → IsBytes a → IsBytes z
ends_bytes a z (front, e) h = behind_bytes front z (subst (λ (s : List ℕ). IsBytes s) e h)

pub ends_length : (a z : List ℕ) → Ends a z → length z ≤ length a
ends_length a z (front, e) = let all = ap length e in omega (arith, all, length-append front z)

-- what the reader gives is what the bytes spell, and where they spell something the reader gives it
pub record Exact {E X : Type 0} (r : Reader E X) (S : Spelling X) : Type 0 where
  pub takes : (a : List ℕ) (x : X) (z : List ℕ) → IsBytes a → r a ≡ Ok (x, z) → S x a z
  pub again : (a : List ℕ) (x : X) (z : List ℕ) → S x a z → r a ≡ Ok (x, z)
  pub ends : (a : List ℕ) (x : X) (z : List ℕ) → r a ≡ Ok (x, z) → Ends a z

-- the same for values with which bytes begin
pub record Found {X : Type 0} (read : List ℕ → Option (X × List ℕ)) (S : Spelling X) : Type 0 where
  pub takes : (a : List ℕ) (x : X) (z : List ℕ) → IsBytes a → read a ≡ Some (x, z) → S x a z
  pub again : (a : List ℕ) (x : X) (z : List ℕ) → S x a z → read a ≡ Some (x, z)
  pub ends : (a : List ℕ) (x : X) (z : List ℕ) → read a ≡ Some (x, z) → Ends a z

was_some : {E A : Type 0} (v : Option A) (e : E) (x : A) → ok_or v e ≡ Ok x → v ≡ Some x
was_some None e x is = cc
was_some (Some y) e x is = cc

pub exact_or : {E X : Type 0} {read : List ℕ → Option (X × List ℕ)} {S : Spelling X} (e : E) → Found read S → Exact (or_fault e read) S
exact_or {read = read} e f = record {
  takes = λ a x z h is. f.takes a x z h (was_some (read a) e (x, z) is);
  again = λ a x z s. ap (λ v. ok_or v e) (f.again a x z s);
  ends = λ a x z is. f.ends a x z (was_some (read a) e (x, z) is);
}

-- the two steps of two readers in a row
pub two_steps : {E X Y : Type 0} (v : Result (X × List ℕ) E) (k : X → Reader E Y) (y : Y) (z : List ℕ) → read_on v k ≡ Ok (y, z)
    → (x : X) × (b : List ℕ) × (v ≡ Ok (x, b)) × (k x b ≡ Ok (y, z))
two_steps (Ok x) k y z e = (x.0, x.1, refl, e)
two_steps (Err f) k y z e = cc

pub ends_both : (a b z : List ℕ) → Ends a b → Ends b z → Ends a z
ends_both a b z (f, e) (g, d) = (f ++ g, e ∙ ap (λ (s : List ℕ). f ++ s) d ∙ sym (append_assoc f g z))

pub exact_then : {E X Y : Type 0} {r : Reader E X} {k : X → Reader E Y} {S : Spelling X} {T : X → Spelling Y}
    → Exact r S → ((x : X) → Exact (k x) (T x)) → Exact (λ a. read_on (r a) k) (S >>= T)
exact_then {r = r} {k = k} s t = record {
  takes = λ a y z h e. let w = two_steps (r a) k y z e in
      (w.0, w.1, s.takes a w.0 w.1 h w.2, (t w.0).takes w.1 y z (ends_bytes a w.1 (s.ends a w.0 w.1 w.2) h) w.3);
  again = λ a y z g. ap (λ v. read_on v k) (s.again a g.0 g.1 g.2) ∙ (t g.0).again g.1 y z g.3;
  ends = λ a y z e. let w = two_steps (r a) k y z e in
      ends_both a w.1 z (s.ends a w.0 w.1 w.2) ((t w.0).ends w.1 y z w.3);
}

first_of_ok : {E A B : Type 0} → Result (A × B) E → A → A
first_of_ok (Err _) d = d
first_of_ok (Ok p) d = p.0

second_of_ok : {E A B : Type 0} → Result (A × B) E → B → B
second_of_ok (Err _) d = d
second_of_ok (Ok p) d = p.1

-- the parts of what one reading gives
pub same_value : {E A B : Type 0} (r : Result (A × B) E) (p q : A × B) → r ≡ Ok p → r ≡ Ok q → p.0 ≡ q.0
unfolding first_of_ok
same_value r p q e d = sym (ap (λ o. first_of_ok o p.0) e) ∙ ap (λ o. first_of_ok o p.0) d

pub same_rest : {E A B : Type 0} (r : Result (A × B) E) (p q : A × B) → r ≡ Ok p → r ≡ Ok q → p.1 ≡ q.1
unfolding second_of_ok
same_rest r p q e d = sym (ap (λ o. second_of_ok o p.1) e) ∙ ap (λ o. second_of_ok o p.1) d

pub exact_give : {E X : Type 0} (x : X) → Exact {E = E} (give x) (Is x)
exact_give x = record {
  takes = λ a y z h e. (sym (same_value (give x a) (x, a) (y, z) refl e), sym (same_rest (give x a) (x, a) (y, z) refl e));
  again = λ a y z s. rw (s.0, s.1) refl;
  ends = λ a y z e. ([], same_rest (give x a) (x, a) (y, z) refl e);
}

-- the test holds exactly where P doesn't
pub record Tests (test : Bool) (P : Type 0) : Type 0 where
  pub passes : test ≡ false → P
  pub fails : P → test ≡ false

went_on : {E A : Type 0} (test : Bool) (e : E) (v : Result A E) (x : A) → cond test (Err e) v ≡ Ok x → (test ≡ false) × (v ≡ Ok x)
went_on true e v x is = cc
went_on false e v x is = (refl, is)

pub exact_where : {E X : Type 0} {r : Reader E X} {S : Spelling X} {test : Bool} {P : Type 0} (e : E) → Tests test P → Exact r S → Exact (λ a. cond test (Err e) (r a)) (Where P S)
exact_where {r = r} {test = test} e t s = record {
  takes = λ a x z h is. let w = went_on test e (r a) (x, z) is in (t.passes w.0, s.takes a x z h w.1);
  again = λ a x z g. ap (λ b. cond b (Err e) (r a)) (t.fails g.0) ∙ s.again a x z g.1;
  ends = λ a x z is. let w = went_on test e (r a) (x, z) is in s.ends a x z w.1;
}

pub exact_left : {E : Type 0} → Exact {E = E} left_at Left
exact_left = record {
  takes = λ a n z h e. (sym (same_value (left_at a) (length a, a) (n, z) refl e), sym (same_rest (left_at a) (length a, a) (n, z) refl e));
  again = λ a n z s. rw (s.0, s.1) refl;
  ends = λ a n z e. ([], same_rest (left_at a) (length a, a) (n, z) refl e);
}

pub exact_rest : {E : Type 0} → Exact {E = E} rest_at Rest
exact_rest = record {
  takes = λ a x z h e. (sym (same_value (rest_at a) (a, []) (x, z) refl e), sym (same_rest (rest_at a) (a, []) (x, z) refl e));
  again = λ a x z s. rw (s.0, s.1) refl;
  ends = λ a x z e. (a, sym (append-nil a) ∙ ap (λ (s : List ℕ). a ++ s) (same_rest (rest_at a) (a, []) (x, z) refl e));
}

pub found_bytes : (n : ℕ) → Found (bytes_of n) (Bytes n)
found_bytes n = record {
  takes = λ a x z h e. bytes_take n a x z e;
  again = λ a x z s. rw s.1 (bytes_again n x z s.0);
  ends = λ a x z e. (x, (bytes_take n a x z e).1);
}

byte_takes : (a : List ℕ) (b : ℕ) (z : List ℕ) → IsBytes a → byte_of a ≡ Some (b, z) → Byte b a z
byte_takes [] b z h e = cc
byte_takes (c ∷ a) b z h e = let x = same_first (c, a) (b, z) e in let y = same_second (c, a) (b, z) e in rw (x, y) refl

byte_again : (a : List ℕ) (b : ℕ) (z : List ℕ) → Byte b a z → byte_of a ≡ Some (b, z)
byte_again a b z s = rw s refl

byte_ends : (a : List ℕ) (b : ℕ) (z : List ℕ) → byte_of a ≡ Some (b, z) → Ends a z
byte_ends [] b z e = cc
byte_ends (c ∷ a) b z e = let y = same_second (c, a) (b, z) e in (c ∷ [], ap (λ (s : List ℕ). c ∷ s) y)

pub found_byte : Found byte_of Byte
found_byte = record { takes = byte_takes; again = byte_again; ends = byte_ends }

-- the bytes that a reader reads, of those that it was given
cut_off : (a front z : List ℕ) → a ≡ front ++ z → take (length a - length z) a ≡ front
cut_off a front z e =
    let l : length a - length z ≡ length front = omega (arith, length-append front z, ap length e) in
    rw (l, e) (take-append_seam front z)

-- the two steps of `text_of`
text_steps : {E X : Type 0} (v : Result (X × List ℕ) E) (a t z : List ℕ) → read_on v (λ _ rest. Ok (take (length a - length rest) a, rest)) ≡ Ok (t, z)
    → (x : X) × (v ≡ Ok (x, z)) × (t ≡ take (length a - length z) a)
text_steps (Err f) a t z e = cc
text_steps (Ok x) a t z e =
    let p : List ℕ × List ℕ = (take (length a - length x.1) a, x.1) in
    let rest : x.1 ≡ z = same_rest (read_on (Ok x) (λ _ rest. Ok (take (length a - length rest) a, rest))) p (t, z) refl e in
    let text : take (length a - length x.1) a ≡ t = same_value (read_on (Ok x) (λ _ rest. Ok (take (length a - length rest) a, rest))) p (t, z) refl e in
    (x.0, ap (λ (s : List ℕ). Ok (x.0, s)) rest, sym text ∙ ap (λ (s : List ℕ). take (length a - length s) a) rest)

pub exact_text : {E X : Type 0} {r : Reader E X} {S : Spelling X} → Exact r S → Exact (text_of r) (Text S)
exact_text {r = r} s = record {
  takes = λ a t z h e. let w = text_steps (r a) a t z e in let d = s.ends a w.0 z w.1 in
      (w.0, s.takes a w.0 z h w.1, d.1 ∙ ap (λ (f : List ℕ). f ++ z) (sym (w.2 ∙ cut_off a d.0 z d.1)));
  again = λ a t z g. ap (λ v. read_on v (λ _ rest. Ok (take (length a - length rest) a, rest))) (s.again a g.0 z g.1) ∙ ap (λ (f : List ℕ). Ok (f, z)) (cut_off a t z g.2);
  ends = λ a t z e. let w = text_steps (r a) a t z e in s.ends a w.0 z w.1;
}
