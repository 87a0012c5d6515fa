-- A chunk that the assembler gives is one that the stream gives
use Rattle.std.proofs.Common.{◌≡◌, ◌∙◌, ap, sym, ℕ, ◌+◌, List, Bool, true, false, cond, length, arith, refl, subst, Option, None, Some}
use Rattle.std.proofs.lemmas.Bool.{false≢true}
use Rattle.qc_assembler.specs.Assembly.{Assembly, IsFront, IsFirst, is_readable, has_bytes, bytes_of, chunk_offset, chunk_bytes, advanced, taken, noted}
use Rattle.qc_recv.specs.declared.recv.Recv.{Recv}
use Rattle.qc_recv.specs.Receiving.{given, chunk_given, has_chunk, ReadsChunk}

advance_none : (a : Assembly) → advanced 0 a ≡ a
unfolding advanced
advance_none a = let e : a.read + 0 ≡ a.read = omega arith in ap (λ (i : ℕ). (let x : Assembly = record a { read = i } in x)) e

take_none : (o : ℕ) (a : Assembly) → taken o 0 a ≡ a
unfolding taken noted
take_none o a = refl

pub in_order_none : (most : ℕ) (r : Recv) (s : Assembly) (c : Option (List ℕ)) → r.unordered ≡ false → c ≡ None → IsFront most r.assembler c → s ≡ advanced (length (bytes_of c)) r.assembler
    → ReadsChunk most r None (record r { assembler = s })
unfolding ReadsChunk has_chunk bytes_of
in_order_none most r s (Some bs) ordered none front after = absurd (let no : ⊥ = cc in no)
in_order_none most r s None ordered none front after = (
  ap (λ (b : Bool). cond b (has_bytes r.assembler.came) (is_readable r.assembler)) ordered ∙ sym front.given,
  ap (λ (a : Assembly). (let x : Recv = record r { assembler = a } in x)) (after ∙ advance_none r.assembler),
)

pub in_order_some : (most : ℕ) (r new : Recv) (s : Assembly) (bs : List ℕ) (c : Option (List ℕ)) → r.unordered ≡ false → c ≡ Some bs → IsFront most r.assembler c
    → s ≡ advanced (length (bytes_of c)) r.assembler → new ≡ given (length bs) (record r { assembler = s })
    → ReadsChunk most r (Some (record { offset = r.assembler.read; bytes = bs })) new
unfolding ReadsChunk has_chunk bytes_of chunk_given
in_order_some most r new s bs None ordered some front after count = absurd (let no : ⊥ = cc in no)
in_order_some most r new s bs (Some cs) ordered some front after count =
    let same : cs ≡ bs = cc in
    let f = subst (λ (l : List ℕ). IsFront most r.assembler (Some l)) same front in
    let a = subst (λ (l : List ℕ). s ≡ advanced (length l) r.assembler) same after in
    let there : cond r.unordered (has_bytes r.assembler.came) (is_readable r.assembler) ≡ true =
    ap (λ (b : Bool). cond b (has_bytes r.assembler.came) (is_readable r.assembler)) ordered ∙ sym f.given in (
      record { there = there; within = f.within; some = λ more. f.some (sym f.given) more; place = λ _. refl; first = f.first },
      count ∙ ap (λ (x : Assembly). (let y : Recv = record r { assembler = x } in given (length bs) y)) (a
          ∙ sym (ap (λ (b : Bool). cond b (taken r.assembler.read (length bs) r.assembler) (advanced (length bs) r.assembler)) ordered)),
    )

pub out_of_order_none : (most : ℕ) (r : Recv) (s : Assembly) (c : Option (ℕ × List ℕ)) → r.unordered ≡ true → c ≡ None → IsFirst most r.assembler.came c
    → s ≡ taken (chunk_offset c) (length (chunk_bytes c)) r.assembler → ReadsChunk most r None (record r { assembler = s })
unfolding ReadsChunk has_chunk chunk_offset chunk_bytes
out_of_order_none most r s (Some x) unordered none first after = absurd (let no : ⊥ = cc in no)
out_of_order_none most r s None unordered none first after = (
  ap (λ (b : Bool). cond b (has_bytes r.assembler.came) (is_readable r.assembler)) unordered ∙ sym first.given,
  ap (λ (a : Assembly). (let x : Recv = record r { assembler = a } in x)) (after ∙ take_none 0 r.assembler),
)

pub out_of_order_some : (most o : ℕ) (r new : Recv) (s : Assembly) (bs : List ℕ) (c : Option (ℕ × List ℕ)) → r.unordered ≡ true → c ≡ Some (o, bs) → IsFirst most r.assembler.came c
    → s ≡ taken (chunk_offset c) (length (chunk_bytes c)) r.assembler → new ≡ given (length bs) (record r { assembler = s })
    → ReadsChunk most r (Some (record { offset = o; bytes = bs })) new
unfolding ReadsChunk has_chunk chunk_offset chunk_bytes chunk_given
out_of_order_some most o r new s bs None unordered some first after count = absurd (let no : ⊥ = cc in no)
out_of_order_some most o r new s bs (Some x) unordered some first after count =
    let same : x ≡ (o, bs) = cc in
    let f = subst (λ (p : ℕ × List ℕ). IsFirst most r.assembler.came (Some p)) same first in
    let a = subst (λ (p : ℕ × List ℕ). s ≡ taken p.0 (length p.1) r.assembler) same after in
    let there : cond r.unordered (has_bytes r.assembler.came) (is_readable r.assembler) ≡ true =
    ap (λ (b : Bool). cond b (has_bytes r.assembler.came) (is_readable r.assembler)) unordered ∙ sym f.given in (
      record {
        there = there;
        within = f.within;
        some = λ more. f.some (sym f.given) more;
        place = λ ordered. absurd (false≢true (sym ordered ∙ unordered));
        first = f.first;
      },
      count ∙ ap (λ (x : Assembly). (let y : Recv = record r { assembler = x } in given (length bs) y)) (a
          ∙ sym (ap (λ (b : Bool). cond b (taken o (length bs) r.assembler) (advanced (length bs) r.assembler)) unordered)),
    )
