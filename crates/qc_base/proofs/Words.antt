-- Big-endian numbers of fixed width: what is read is what is spelled
use Rattle.std.proofs.Common.{◌≡◌, ℕ, ◌<◌, ◌^◌, List, ◌++◌, length, Option, None, Some, refl, ap, sym, ◌∙◌, subst, arith}
use Rattle.std.specs.Int.{Width, byte_len, to_be_bytes, from_be_bytes, w32, w64}
use Rattle.std.specs.Option.{option_map}
use Rattle.std.proofs.lemmas.Nat.{be_bytes_4, be_bytes_8, from_be_bytes-to_be_bytes_4, from_be_bytes-to_be_bytes_8}
use Rattle.qc_base.specs.Reading.{bytes_of, word_of}
use Rattle.qc_base.specs.Grammar.{Word, IsBytes}
use Rattle.qc_base.proofs.Front.{bytes_again, bytes_take, same_first, same_second}
use Rattle.qc_base.proofs.Exact.{Found}
use Rattle.qc_base.proofs.Varints.{front_bytes}

-- what makes the reading of a word and its spelling one
pub record IsWord (w : Width) : Type 0 where
  pub value : (n : ℕ) → n < 256 ^ byte_len w → from_be_bytes w (to_be_bytes w n) ≡ n
  pub size : (n : ℕ) → length (to_be_bytes w n) ≡ byte_len w
  pub small : (x : List ℕ) → IsBytes x → from_be_bytes w x < 256 ^ byte_len w
  pub back : (x : List ℕ) → length x ≡ byte_len w → IsBytes x → to_be_bytes w (from_be_bytes w x) ≡ x

pub word_32 : IsWord w32
word_32 = record {
  value = λ n h. from_be_bytes-to_be_bytes_4 n h;
  size = λ n. refl;
  small = λ x b. let b0 = b 0 in let b1 = b 1 in let b2 = b 2 in let b3 = b 3 in omega arith;
  back = λ x l b. be_bytes_4 x (from_be_bytes w32 x) l b refl;
}

pub word_64 : IsWord w64
word_64 = record {
  value = λ n h. from_be_bytes-to_be_bytes_8 n h;
  size = λ n. refl;
  small = λ x b. let b0 = b 0 in let b1 = b 1 in let b2 = b 2 in let b3 = b 3 in let b4 = b 4 in let b5 = b 5 in let b6 = b 6 in let b7 = b 7 in omega arith;
  back = λ x l b. be_bytes_8 x (from_be_bytes w64 x) l b refl;
}

-- what is read: some bytes, and their number
read : (w : Width) (v : Option (List ℕ × List ℕ)) (n : ℕ) (z : List ℕ) → option_map {U = ℕ × List ℕ} (λ x. (from_be_bytes w x.0, x.1)) v ≡ Some (n, z)
    → (x : List ℕ) × (v ≡ Some (x, z)) × (from_be_bytes w x ≡ n)
read w None n z e = cc
read w (Some x) n z e =
    let p : ℕ × List ℕ = (from_be_bytes w x.0, x.1) in
    (x.0, ap (λ (s : List ℕ). Some (x.0, s)) (same_second p (n, z) e), same_first p (n, z) e)

pub found_word : (w : Width) → IsWord w → Found (word_of w) (Word w)
unfolding word_of
found_word w word = record {
  takes = λ a n z h e.
      let r = read w (bytes_of (byte_len w) a) n z e in
      let x = r.0 in
      let t = bytes_take (byte_len w) a x z r.1 in
      let bytes : IsBytes x = front_bytes x z (subst (λ (s : List ℕ). IsBytes s) t.1 h) in (
        subst (λ (m : ℕ). m < 256 ^ byte_len w) r.2 (word.small x bytes),
        t.1 ∙ ap (λ (s : List ℕ). s ++ z) (sym (word.back x t.0 bytes) ∙ ap (to_be_bytes w) r.2),
      );
  again = λ a n z g.
      ap (word_of w) g.1
      ∙ ap (λ v. option_map {U = ℕ × List ℕ} (λ x. (from_be_bytes w x.0, x.1)) v) (bytes_again (byte_len w) (to_be_bytes w n) z (word.size n))
      ∙ ap (λ (m : ℕ). Some (m, z)) (word.value n g.0);
  ends = λ a n z e. let r = read w (bytes_of (byte_len w) a) n z e in (r.0, (bytes_take (byte_len w) a r.0 z r.1).1);
}
