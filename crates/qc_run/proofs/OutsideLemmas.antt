-- Calls of a source or a sink one after another.
use Rattle.std.proofs.Common.{◌≡◌, ℕ, ◌+◌, List, [], ◌++◌, length, take, drop, Option, Some, refl, sym, ◌∙◌, ap, arith, append_assoc}
use Rattle.std.proofs.lemmas.List.{append-nil, take-append-drop, take_at, drop-drop, length-append}
use Rattle.qc_run.specs.Outside.{Keeps, Appends, AppendsPart, Gives, GivesMore}

pub gives_none : (a : Option (List ℕ)) → Gives a a []
gives_none a = record { told = λ all h. (all, refl, h) }

pub gives_grown : (a b c : Option (List ℕ)) (xs ys : List ℕ) → Gives a b xs → GivesMore b c xs ys → Gives a c ys
gives_grown a b c xs ys first next = record {
  told = λ all h.
      let f = first.told all h in
      let n = next.given.told f.0 f.2 in
      (n.0, f.1 ∙ ap (λ (r : List ℕ). xs ++ r) n.1 ∙ sym (append_assoc xs next.part n.0) ∙ ap (λ (r : List ℕ). r ++ n.0) (sym next.grown), n.2);
}

pub gives_more : (a b : Option (List ℕ)) (xs ys zs : List ℕ) → zs ≡ xs ++ ys → Gives a b ys → GivesMore a b xs zs
gives_more a b xs ys zs e h = record { part = ys; grown = e; given = h }

-- a sink took the bytes before these
pub record Writing (before after : Option (List ℕ)) (all rest : List ℕ) : Type 0 where
  pub done : List ℕ
  pub parts : all ≡ done ++ rest
  pub taken : Appends before after done

pub writing_none : (a : Option (List ℕ)) (all : List ℕ) → Writing a a all all
writing_none a all = record { done = []; parts = refl; taken = record { told = λ held h. rw append-nil h } }

pub writing_more : (a b c : Option (List ℕ)) (all rest : List ℕ) (n : ℕ) → Writing a b all rest → Appends b c (take n rest) → Writing a c all (drop n rest)
writing_more a b c all rest n first next = record {
  done = first.done ++ take n rest;
  parts = first.parts ∙ ap (λ (r : List ℕ). first.done ++ r) (sym (take-append-drop n rest)) ∙ sym (append_assoc first.done (take n rest) (drop n rest));
  taken = record { told = λ held h. rw (← append_assoc) (next.told _ (first.taken.told held h)) };
}

pub writing_kept : (a b c : Option (List ℕ)) (all rest : List ℕ) → Writing a b all rest → Keeps b c → Writing a c all rest
writing_kept a b c all rest first next = record {
  done = first.done;
  parts = first.parts;
  taken = record { told = λ held h. next.told _ (first.taken.told held h) };
}

pub writing_all : (a b : Option (List ℕ)) (all rest : List ℕ) → rest ≡ [] → Writing a b all rest → Appends a b all
writing_all a b all rest e w = record { told = λ held h. rw (w.parts, e, append-nil) (w.taken.told held h) }

pub writing_part : (a b : Option (List ℕ)) (all rest : List ℕ) → Writing a b all rest → AppendsPart a b all
writing_part a b all rest w = record {
  count = length w.done;
  inside = omega (arith, ap length w.parts, length-append w.done rest);
  taken = rw (w.parts, take_at w.done rest (length w.done) refl) w.taken;
}

-- a copy of the bytes at a place, put before others
pub gives_front : (xs copied others : List ℕ) (i n : ℕ) → copied ≡ take n (drop i xs) → length copied ≡ n → Gives (Some (drop i xs)) (Some (drop (i + n) xs)) (take n (copied ++ others))
gives_front xs copied others i n e size = record {
  told = λ all h.
      let same : drop i xs ≡ all = cc in
      let copy : take n (copied ++ others) ≡ take n (drop i xs) = take_at copied others n size ∙ e in
      (drop n (drop i xs), sym same ∙ sym (take-append-drop n (drop i xs)) ∙ ap (λ (front : List ℕ). front ++ drop n (drop i xs)) (sym copy), ap Some (sym (drop-drop n i xs)));
}

-- one write after another
pub appends_more : (a b c : Option (List ℕ)) (xs ys zs : List ℕ) → zs ≡ xs ++ ys → Appends a b xs → Appends b c ys → Appends a c zs
appends_more a b c xs ys zs e first next = record { told = λ all h. rw (e, ← append_assoc) (next.told _ (first.told all h)) }
