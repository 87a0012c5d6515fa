-- Places and turns: what stands at a place once a stream takes one, or gives one up, and which turn each stream has
use Rattle.std.proofs.Common.{◌≡◌, ◌∙◌, ℕ, ℤ, ◌==◌, Bool, true, false, cond, not, ◌&&◌, ◌⊎◌, inl, inr, List, [], ◌∷◌, Option, None, Some, is_eq, is_some, ap, ap₂, sym, subst, arith, refl}
use Rattle.std.specs.declared.cmp.Ordering.{Ordering}
use Rattle.std.specs.declared.cmp.Ordering.TheVariants.{Less, Equal, Greater}
use Rattle.std.specs.Prelude.{neg_ℤ}
use Rattle.std.specs.BTreeMap.{insert_entry, is_at}
use Rattle.std.specs.Map.{lookup, remove_entry}
use Rattle.std.specs.Option.{option_map}
use Rattle.std.specs.Ordering.{int_cmp, nat_cmp, match_ordering, ordering_then}
use Rattle.std.proofs.lemmas.Bool.{false≢true, cases_eq}
use Rattle.std.proofs.lemmas.Bool.Decides.{nat_tests}
use Rattle.std.proofs.lemmas.Cmp.{int_cmp_total, nat_cmp_total, tied_itself}
use Rattle.std.proofs.lemmas.Map.Entries.{lookup_head, lookup_tail}
use Rattle.std.proofs.lemmas.Map.Lookups.{CmpEqualImpliesEq, exact_pairs, exact_signed, exact_unsigned}
use Rattle.qc_turns.specs.Ready.{place_cmp}
use Rattle.qc_streams.specs.declared.stream.Stream.{Stream}
use Rattle.qc_streams.specs.Lending.{AllRecords}
use Rattle.qc_streams.specs.Records.{changed, on_some, record_of, with_new, without}
use Rattle.qc_streams.specs.Queues.{due_at, due_next, dues_of, queue_one, takes_number, turn_at, with_turn}
use Rattle.qc_streams.proofs.Waits.{here}
use Rattle.qc_streams.proofs.Keyed.{Ascends, ascends_set, gone_here as record_gone, gone_other as record_left, new_here as record_new, new_other as record_old, set_alike, set_other}

-- what an answer says
tied-is : (r : Ordering) → is_eq r ≡ true → r ≡ Equal
tied-is Less is = absurd (cc)
tied-is Equal is = refl
tied-is Greater is = absurd (cc)

-- ---- entries under keys that are compared

-- what stands at a key
abbrev standing : {K X : Type 0} → (K → K → Ordering) → K → List (K × X) → Option X
standing R k es = lookup (is_at (R k)) es

-- no key comes twice
abbrev pub Once : {K X : Type 0} → (K → K → Ordering) → List (K × X) → Type 0
Once R [] = Unit {0}
Once R (e ∷ es) = (standing R e.0 es ≡ None) × Once R es

-- an order that finds a key the same as itself, and as no other
module _ {K : Type 0} (R : K → K → Ordering) (tied : (k : K) → R k k ≡ Equal) (exact : CmpEqualImpliesEq R) where
  -- the comparison of two keys that differ, or that it tells apart
  far : (k q : K) → (k ≡ q → ⊥) → is_eq (R k q) ≡ false
  far k q apart = by (is_eq (R k q)) refl
    where
      by : (b : Bool) → is_eq (R k q) ≡ b → b ≡ false
      by true is = absurd (apart (exact k q (tied-is (R k q) is)))
      by false is = refl

  near : (k q : K) → is_eq (R k q) ≡ false → k ≡ q → ⊥
  near k q is same = false≢true (sym is ∙ ap (λ (x : K). is_eq (R k x)) (sym same) ∙ ap is_eq (tied k))

  -- two keys are the same or not
  pub either : (k q : K) → (k ≡ q) ⊎ (k ≡ q → ⊥)
  either k q = by (is_eq (R k q)) refl
    where
      by : (b : Bool) → is_eq (R k q) ≡ b → (k ≡ q) ⊎ (k ≡ q → ⊥)
      by true is = inl (exact k q (tied-is (R k q) is))
      by false is = inr (near k q is)

  module _ {X : Type 0} where
    new-here-step : (r : Ordering) (k : K) (e : K × X) (es rest : List (K × X)) (v : X) → R k e.0 ≡ r → standing R k rest ≡ Some v
        → standing R k (match_ordering r ((k, v) ∷ e ∷ es) ((e.0, v) ∷ es) (e ∷ rest)) ≡ Some v
    new-here-step Less k e es rest v is then = lookup_head (is_at (R k)) (k, v) (e ∷ es) (ap is_eq (tied k))
    new-here-step Equal k e es rest v is then = lookup_head (is_at (R k)) (e.0, v) es (ap is_eq is)
    new-here-step Greater k e es rest v is then = lookup_tail (is_at (R k)) e rest (ap is_eq is) ∙ then

    -- what comes stands at its key
    pub new_here : (k : K) (es : List (K × X)) (v : X) → standing R k (insert_entry R es k v) ≡ Some v
    new_here k [] v = lookup_head (is_at (R k)) (k, v) [] (ap is_eq (tied k))
    new_here k (e ∷ es) v = new-here-step (R k e.0) k e es (insert_entry R es k v) v refl (new_here k es v)

    new-other-step : (r : Ordering) (k q : K) (e : K × X) (es rest : List (K × X)) (v : X) → R k e.0 ≡ r → (k ≡ q → ⊥)
        → standing R q rest ≡ standing R q es → standing R q (match_ordering r ((k, v) ∷ e ∷ es) ((e.0, v) ∷ es) (e ∷ rest)) ≡ standing R q (e ∷ es)
    new-other-step Less k q e es rest v is apart then = lookup_tail (is_at (R q)) (k, v) (e ∷ es) (far q k (λ same. apart (sym same)))
    new-other-step Equal k q e es rest v is apart then =
        let off : is_eq (R q e.0) ≡ false = far q e.0 (λ same. apart (exact k e.0 is ∙ sym same)) in
        lookup_tail (is_at (R q)) (e.0, v) es off ∙ sym (lookup_tail (is_at (R q)) e es off)
    new-other-step Greater k q e es rest v is apart then = ap (λ (o : Option X). cond (is_eq (R q e.0)) (Some e.1) o) then

    -- at any other the same stands as before
    pub new_other : (k q : K) (es : List (K × X)) (v : X) → (k ≡ q → ⊥) → standing R q (insert_entry R es k v) ≡ standing R q es
    new_other k q [] v apart = lookup_tail (is_at (R q)) (k, v) [] (far q k (λ same. apart (sym same)))
    new_other k q (e ∷ es) v apart = new-other-step (R k e.0) k q e es (insert_entry R es k v) v refl apart (new_other k q es v apart)

    -- a key comes that wasn't there: each still comes once
    pub once_new : (k : K) (es : List (K × X)) (v : X) → standing R k es ≡ None → Once R es → Once R (insert_entry R es k v)
    once_new k [] v none once = (refl, tt)
    once_new k (e ∷ es) v none once = by (R k e.0) refl (λ is. once_new k es v (sym (lookup_tail (is_at (R k)) e es is) ∙ none) once.1)
      where
        by : (r : Ordering) → R k e.0 ≡ r → (is_eq (R k e.0) ≡ false → Once R (insert_entry R es k v))
            → Once R (match_ordering r ((k, v) ∷ e ∷ es) ((e.0, v) ∷ es) (e ∷ insert_entry R es k v))
        by Less is rest = (none, once)
        by Equal is rest = (once.0, once.1)
        by Greater is rest = (new_other k e.0 es v (near k e.0 (ap is_eq is)) ∙ once.0, rest (ap is_eq is))

    gone-other-step : (b : Bool) (k q : K) (e : K × X) (es rest : List (K × X)) → is_eq (R k e.0) ≡ b → (k ≡ q → ⊥)
        → standing R q rest ≡ standing R q es → standing R q (cond b es (e ∷ rest)) ≡ standing R q (e ∷ es)
    gone-other-step true k q e es rest is apart then =
        sym (lookup_tail (is_at (R q)) e es (far q e.0 (λ same. apart (exact k e.0 (tied-is (R k e.0) is) ∙ sym same))))
    gone-other-step false k q e es rest is apart then = ap (λ (o : Option X). cond (is_eq (R q e.0)) (Some e.1) o) then

    -- where a key leaves, the same stands at any other
    pub gone_other : (k q : K) (es : List (K × X)) → (k ≡ q → ⊥) → standing R q (remove_entry (is_at (R k)) es) ≡ standing R q es
    gone_other k q [] apart = refl
    gone_other k q (e ∷ es) apart =
        gone-other-step (is_eq (R k e.0)) k q e es (remove_entry (is_at (R k)) es) refl apart (gone_other k q es apart)

    gone-here-step : (b : Bool) (k : K) (e : K × X) (es rest : List (K × X)) → is_eq (R k e.0) ≡ b → standing R e.0 es ≡ None
        → standing R k rest ≡ None → standing R k (cond b es (e ∷ rest)) ≡ None
    gone-here-step true k e es rest is none then =
        subst (λ (x : K). standing R x es ≡ None) (sym (exact k e.0 (tied-is (R k e.0) is))) none
    gone-here-step false k e es rest is none then = lookup_tail (is_at (R k)) e rest is ∙ then

    -- and nothing at it
    pub gone_here : (k : K) (es : List (K × X)) → Once R es → standing R k (remove_entry (is_at (R k)) es) ≡ None
    gone_here k [] once = refl
    gone_here k (e ∷ es) once =
        gone-here-step (is_eq (R k e.0)) k e es (remove_entry (is_at (R k)) es) refl once.0 (gone_here k es once.1)

    -- the others still come once each
    pub once_gone : (k : K) (es : List (K × X)) → Once R es → Once R (remove_entry (is_at (R k)) es)
    once_gone k [] once = tt
    once_gone k (e ∷ es) once = by (is_eq (R k e.0)) refl (once_gone k es once.1)
      where
        by : (b : Bool) → is_eq (R k e.0) ≡ b → Once R (remove_entry (is_at (R k)) es) → Once R (cond b es (e ∷ remove_entry (is_at (R k)) es))
        by true is rest = once.1
        by false is rest = (gone_other k e.0 es (near k e.0 is) ∙ once.0, rest)

-- ---- places

-- the order of places is such a one
pub place_tied : (place : ℤ × ℕ) → place_cmp place place ≡ Equal
place_tied place = ap₂ ordering_then (tied_itself int_cmp_total place.0) (tied_itself nat_cmp_total place.1)

pub place_exact : CmpEqualImpliesEq place_cmp
place_exact = exact_pairs int_cmp nat_cmp exact_signed exact_unsigned

-- ---- turns

-- A place is a stream's turn exactly where the stream stands at it
pub record Agree {K : Type 0} (turn : ℕ → Option K) (stand : K → Option ℕ) : Type 0 where
  pub stands : (j : ℕ) (q : K) → stand q ≡ Some j → turn j ≡ Some q
  pub takes : (j : ℕ) (q : K) → turn j ≡ Some q → stand q ≡ Some j

-- a stream has another turn, and all others have theirs
pub record Moves {K : Type 0} (id : ℕ) (place : K) (turn turn' : ℕ → Option K) (stand stand' : K → Option ℕ) : Type 0 where
  pub turns : (j : ℕ) → (id ≡ j → ⊥) → turn' j ≡ turn j
  pub places : (q : K) → (place ≡ q → ⊥) → stand' q ≡ stand q

module _ {K : Type 0} (id : ℕ) (place : K) (turn turn' : ℕ → Option K) (stand stand' : K → Option ℕ) (same : (q : K) → (place ≡ q) ⊎ (place ≡ q → ⊥)) where
  -- a stream without a turn takes a place that is free
  pub came : Moves id place turn turn' stand stand' → turn id ≡ None → turn' id ≡ Some place → stand place ≡ None → stand' place ≡ Some id
      → Agree turn stand → Agree turn' stand'
  came m before after free taken h = record { stands = λ j q is. stands j q is (same q); takes = λ j q is. takes j q is (cases_eq id j) }
    where
      stands : (j : ℕ) (q : K) → stand' q ≡ Some j → (place ≡ q) ⊎ (place ≡ q → ⊥) → turn' j ≡ Some q
      stands j q is (inl here) =
          let there : Some id ≡ Some j = sym taken ∙ ap stand' here ∙ is in
          let one : id ≡ j = cc in
          ap turn' (sym one) ∙ after ∙ ap Some here
      stands j q is (inr apart) =
          let there : turn j ≡ Some q = h.stands j q (sym (m.places q apart) ∙ is) in
          m.turns j (λ one. let no : None ≡ Some q = sym before ∙ ap turn one ∙ there in cc) ∙ there

      takes : (j : ℕ) (q : K) → turn' j ≡ Some q → (id ≡ j) ⊎ (id ≡ j → ⊥) → stand' q ≡ Some j
      takes j q is (inl one) =
          let there : Some place ≡ Some q = sym after ∙ ap turn' one ∙ is in
          let here : place ≡ q = cc in
          ap stand' (sym here) ∙ taken ∙ ap Some one
      takes j q is (inr apart) =
          let there : stand q ≡ Some j = h.takes j q (sym (m.turns j apart) ∙ is) in
          m.places q (λ here. let no : None ≡ Some j = sym free ∙ ap stand here ∙ there in cc) ∙ there

  -- a stream gives its place up
  pub went : Moves id place turn turn' stand stand' → turn id ≡ Some place → turn' id ≡ None → stand' place ≡ None
      → Agree turn stand → Agree turn' stand'
  went m before after free h = record { stands = λ j q is. stands j q is (same q); takes = λ j q is. takes j q is (cases_eq id j) }
    where
      stands : (j : ℕ) (q : K) → stand' q ≡ Some j → (place ≡ q) ⊎ (place ≡ q → ⊥) → turn' j ≡ Some q
      stands j q is (inl here) = let no : None ≡ Some j = sym free ∙ ap stand' here ∙ is in absurd (cc)
      stands j q is (inr apart) =
          let there : turn j ≡ Some q = h.stands j q (sym (m.places q apart) ∙ is) in
          m.turns j (λ one. let both : Some place ≡ Some q = sym before ∙ ap turn one ∙ there in apart (cc)) ∙ there

      takes : (j : ℕ) (q : K) → turn' j ≡ Some q → (id ≡ j) ⊎ (id ≡ j → ⊥) → stand' q ≡ Some j
      takes j q is (inl one) = let no : None ≡ Some q = sym after ∙ ap turn' one ∙ is in absurd (cc)
      takes j q is (inr apart) =
          let there : stand q ≡ Some j = h.takes j q (sym (m.turns j apart) ∙ is) in
          m.places q (λ here. let both : Some id ≡ Some j = sym (h.takes id place before) ∙ ap stand here ∙ there in apart (cc)) ∙ there

-- ---- streams and their turns

-- the ids ascend as before
order-in : (f : Stream → Stream) (id : ℕ) (all : AllRecords) (o : Option Stream) → Ascends all → Ascends (on_some f id o all)
order-in f id all None order = order
order-in f id all (Some st) order = ascends_set id all (f st) order

pub order_changed : (f : Stream → Stream) (id : ℕ) (all : AllRecords) → Ascends all → Ascends (changed f id all)
order_changed f id all order = order-in f id all (record_of id all) order

alike-in : (f : Stream → Stream) → ((st : Stream) → (f st).turn ≡ st.turn) → (id j : ℕ) (all : AllRecords) (o : Option Stream) → record_of id all ≡ o
    → turn_at (record_of j (on_some f id o all)) ≡ turn_at (record_of j all)
alike-in f same id j all None is = refl
alike-in f same id j all (Some st) is = set_alike (λ (o : Option Stream). turn_at o) id j all st (f st) is (same st)

-- a place is a stream's turn, or is put by for it
abbrev pub Claims : Option Stream → ℤ × ℕ → Type 0
Claims o place = (turn_at o ≡ Some place) ⊎ (due_at o ≡ Some place)

pub claims_same : (o o' : Option Stream) (place : ℤ × ℕ) → turn_at o' ≡ turn_at o → due_at o' ≡ due_at o → Claims o' place → Claims o place
claims_same o o' place turn due (inl is) = inl (sym turn ∙ is)
claims_same o o' place turn due (inr is) = inr (sym due ∙ is)

no_claim : (place : ℤ × ℕ) (o : Option Stream) → turn_at o ≡ None → due_at o ≡ None → Claims o place → ⊥
no_claim place o turn due (inl is) = let no : None ≡ Some place = sym turn ∙ is in absurd (cc)
no_claim place o turn due (inr is) = let no : None ≡ Some place = sym due ∙ is in absurd (cc)

due-in : (f : Stream → Stream) → ((st : Stream) → (f st).due ≡ st.due) → (id j : ℕ) (all : AllRecords) (o : Option Stream) → record_of id all ≡ o
    → due_at (record_of j (on_some f id o all)) ≡ due_at (record_of j all)
due-in f same id j all None is = refl
due-in f same id j all (Some st) is = set_alike (λ (o : Option Stream). due_at o) id j all st (f st) is (same st)

-- the place that is put by for each stream stays where a change leaves that of one
pub due_alike : (f : Stream → Stream) → ((st : Stream) → (f st).due ≡ st.due) → (id j : ℕ) (all : AllRecords)
    → due_at (record_of j (changed f id all)) ≡ due_at (record_of j all)
due_alike f same id j all = due-in f same id j all (record_of id all) refl

-- the turn of each stream stays where a change leaves that of one
pub turn_alike : (f : Stream → Stream) → ((st : Stream) → (f st).turn ≡ st.turn) → (id j : ℕ) (all : AllRecords)
    → turn_at (record_of j (changed f id all)) ≡ turn_at (record_of j all)
turn_alike f same id j all = alike-in f same id j all (record_of id all) refl

other_id : (id j : ℕ) → (id ≡ j → ⊥) → (id == j) ≡ false
other_id id j apart = by (id == j) refl
  where
    by : (b : Bool) → (id == j) ≡ b → b ≡ false
    by true is = let same : id ≡ j = grind (arith, nat_tests) in absurd (apart same)
    by false is = refl

other-in : (f : Stream → Stream) (id j : ℕ) (all : AllRecords) (o : Option Stream) → (id ≡ j → ⊥) → record_of j (on_some f id o all) ≡ record_of j all
other-in f id j all None apart = refl
other-in f id j all (Some st) apart = set_other id j all (f st) (other_id id j apart)

-- whatever becomes of one stream, the turn of any other stays
pub turn_other : (f : Stream → Stream) (id j : ℕ) (all : AllRecords) → (id ≡ j → ⊥) → turn_at (record_of j (changed f id all)) ≡ turn_at (record_of j all)
turn_other f id j all apart = ap (λ (o : Option Stream). turn_at o) (other-in f id j all (record_of id all) apart)

pub due_other : (f : Stream → Stream) (id j : ℕ) (all : AllRecords) → (id ≡ j → ⊥) → due_at (record_of j (changed f id all)) ≡ due_at (record_of j all)
due_other f id j all apart = ap (λ (o : Option Stream). due_at o) (other-in f id j all (record_of id all) apart)

pub claims_other : (f : Stream → Stream) (id j : ℕ) (all : AllRecords) (q : ℤ × ℕ) → (id ≡ j → ⊥) → Claims (record_of j (changed f id all)) q
    → Claims (record_of j all) q
claims_other f id j all q apart = claims_same (record_of j all) (record_of j (changed f id all)) q (turn_other f id j all apart) (due_other f id j all apart)

-- a stream that takes a place claims it alone
entered-claim : (place q : ℤ × ℕ) (o : Option Stream) → Claims (option_map (with_turn (Some place)) o) q → place ≡ q
unfolding with_turn
entered-claim place q None (inl is) = absurd (cc)
entered-claim place q None (inr is) = absurd (cc)
entered-claim place q (Some st) (inl is) = cc
entered-claim place q (Some st) (inr is) = absurd (cc)

pub claims_entered : (place : ℤ × ℕ) (id j : ℕ) (all : AllRecords) (q : ℤ × ℕ) → Claims (record_of j (changed (with_turn (Some place)) id all)) q
    → ((id ≡ j) × (place ≡ q)) ⊎ Claims (record_of j all) q
claims_entered place id j all q claim = by (cases_eq id j)
  where
    by : (id ≡ j) ⊎ (id ≡ j → ⊥) → ((id ≡ j) × (place ≡ q)) ⊎ Claims (record_of j all) q
    by (inl one) =
        inl (
          one,
          entered-claim place q (record_of id all)
              (subst (λ (o : Option Stream). Claims o q) (here (with_turn (Some place)) id all)
              (subst (λ (k : ℕ). Claims (record_of k (changed (with_turn (Some place)) id all)) q) (sym one) claim)),
        )
    by (inr apart) = inr (claims_other (with_turn (Some place)) id j all q apart claim)

left-claim : (q : ℤ × ℕ) (o : Option Stream) → Claims (option_map (with_turn None) o) q → ⊥
unfolding with_turn
left-claim q None (inl is) = absurd (cc)
left-claim q None (inr is) = absurd (cc)
left-claim q (Some st) (inl is) = absurd (cc)
left-claim q (Some st) (inr is) = absurd (cc)

-- one that gives its place up claims none
pub claims_left : (id j : ℕ) (all : AllRecords) (q : ℤ × ℕ) → Claims (record_of j (changed (with_turn None) id all)) q → Claims (record_of j all) q
claims_left id j all q claim = by (cases_eq id j)
  where
    by : (id ≡ j) ⊎ (id ≡ j → ⊥) → Claims (record_of j all) q
    by (inl one) =
        absurd (left-claim q (record_of id all)
        (subst (λ (o : Option Stream). Claims o q) (here (with_turn None) id all)
        (subst (λ (k : ℕ). Claims (record_of k (changed (with_turn None) id all)) q) (sym one) claim)))
    by (inr apart) = claims_other (with_turn None) id j all q apart claim

due-cases : (owes : Bool) (turn due : Option (ℤ × ℕ)) (next q : ℤ × ℕ) → due_next owes turn due next ≡ Some q
    → ((next ≡ q) × ((owes && (not (is_some turn) && not (is_some due))) ≡ true)) ⊎ (due ≡ Some q)
due-cases true None None next q is = inl (cc, refl)
due-cases true None (Some place) next q is = inr is
due-cases true (Some turn) due next q is = inr is
due-cases false turn due next q is = absurd (cc)

queued-claim : (n : ℕ) (q : ℤ × ℕ) (o : Option Stream) → Claims (option_map (queue_one n) o) q → ((q.1 ≡ n) × (takes_number o ≡ true)) ⊎ Claims o q
unfolding queue_one
queued-claim n q None (inl is) = absurd (cc)
queued-claim n q None (inr is) = absurd (cc)
queued-claim n q (Some st) (inl is) = inr (inl is)
queued-claim n q (Some st) (inr is) = by (due-cases (dues_of st).bytes st.turn st.due (neg_ℤ st.priority, n) q is)
  where
    by : (((neg_ℤ st.priority, n) ≡ q) × (takes_number (Some st) ≡ true)) ⊎ (st.due ≡ Some q) → ((q.1 ≡ n) × (takes_number (Some st) ≡ true)) ⊎ Claims (Some st) q
    by (inl new) = inl (ap (λ (p : ℤ × ℕ). p.1) (sym new.0), new.1)
    by (inr is) = inr (inr is)

-- one that began to wait claims the number of that moment, or what it claimed
pub claims_queued : (n id j : ℕ) (all : AllRecords) (q : ℤ × ℕ) → Claims (record_of j (changed (queue_one n) id all)) q
    → ((id ≡ j) × (q.1 ≡ n) × (takes_number (record_of id all) ≡ true)) ⊎ Claims (record_of j all) q
claims_queued n id j all q claim = by (cases_eq id j)
  where
    new : (id ≡ j) → ((q.1 ≡ n) × (takes_number (record_of id all) ≡ true)) ⊎ Claims (record_of id all) q
        → ((id ≡ j) × (q.1 ≡ n) × (takes_number (record_of id all) ≡ true)) ⊎ Claims (record_of j all) q
    new one (inl is) = inl (one, is.0, is.1)
    new one (inr claim) = inr (subst (λ (k : ℕ). Claims (record_of k all) q) one claim)

    by : (id ≡ j) ⊎ (id ≡ j → ⊥) → ((id ≡ j) × (q.1 ≡ n) × (takes_number (record_of id all) ≡ true)) ⊎ Claims (record_of j all) q
    by (inl one) =
        new one (queued-claim n q (record_of id all)
        (subst (λ (o : Option Stream). Claims o q) (here (queue_one n) id all)
        (subst (λ (k : ℕ). Claims (record_of k (changed (queue_one n) id all)) q) (sym one) claim)))
    by (inr apart) = inr (claims_other (queue_one n) id j all q apart claim)

-- the turn that a stream is given
pub turn_some : (turn : Option (ℤ × ℕ)) (o : Option Stream) → is_some o ≡ true → turn_at (option_map (with_turn turn) o) ≡ turn
unfolding with_turn
turn_some turn None is = absurd (false≢true is)
turn_some turn (Some st) is = refl

pub turn_none : (o : Option Stream) → turn_at (option_map (with_turn None) o) ≡ None
unfolding with_turn
turn_none None = refl
turn_none (Some st) = refl

-- a stream leaves that has no turn
pub without_turn : (id : ℕ) (all : AllRecords) → turn_at (record_of id all) ≡ None → Ascends all → (j : ℕ)
    → turn_at (record_of j (without id all)) ≡ turn_at (record_of j all)
without_turn id all none order j = by (id == j) refl
  where
    by : (b : Bool) → (id == j) ≡ b → turn_at (record_of j (without id all)) ≡ turn_at (record_of j all)
    by true is =
        let same : id ≡ j = grind (arith, nat_tests) in
        subst (λ (k : ℕ). turn_at (record_of k (without id all)) ≡ turn_at (record_of k all)) same
        (ap (λ (o : Option Stream). turn_at o) (record_gone id all order) ∙ sym none)
    by false is = ap (λ (o : Option Stream). turn_at o) (record_left id j all is)

-- a stream comes that has no turn
pub new_turn : (id : ℕ) (st : Stream) (all : AllRecords) → st.turn ≡ None → record_of id all ≡ None → (j : ℕ)
    → turn_at (record_of j (with_new id st all)) ≡ turn_at (record_of j all)
new_turn id st all none absent j = by (id == j) refl
  where
    by : (b : Bool) → (id == j) ≡ b → turn_at (record_of j (with_new id st all)) ≡ turn_at (record_of j all)
    by true is =
        let same : id ≡ j = grind (arith, nat_tests) in
        subst (λ (k : ℕ). turn_at (record_of k (with_new id st all)) ≡ turn_at (record_of k all)) same
        (ap (λ (o : Option Stream). turn_at o) (record_new id all st) ∙ none ∙ sym (ap (λ (o : Option Stream). turn_at o) absent))
    by false is = ap (λ (o : Option Stream). turn_at o) (record_old id j all st is)

-- what a stream claimed that leaves is free, and all others claim what they did
pub without_claims : (id : ℕ) (all : AllRecords) → Ascends all → (j : ℕ) (q : ℤ × ℕ) → Claims (record_of j (without id all)) q → Claims (record_of j all) q
without_claims id all order j q claim = by (id == j) refl
  where
    by : (b : Bool) → (id == j) ≡ b → Claims (record_of j all) q
    by true is =
        let same : id ≡ j = grind (arith, nat_tests) in
        let gone : record_of j (without id all) ≡ None = subst (λ (k : ℕ). record_of k (without id all) ≡ None) same (record_gone id all order) in
        absurd (no_claim q None refl refl (subst (λ (o : Option Stream). Claims o q) gone claim))
    by false is = subst (λ (o : Option Stream). Claims o q) (record_left id j all is) claim

-- a stream that comes claims none
pub new_claims : (id : ℕ) (st : Stream) (all : AllRecords) → st.turn ≡ None → st.due ≡ None → (j : ℕ) (q : ℤ × ℕ)
    → Claims (record_of j (with_new id st all)) q → Claims (record_of j all) q
new_claims id st all turn due j q claim = by (id == j) refl
  where
    by : (b : Bool) → (id == j) ≡ b → Claims (record_of j all) q
    by true is =
        let same : id ≡ j = grind (arith, nat_tests) in
        let new : record_of j (with_new id st all) ≡ Some st = subst (λ (k : ℕ). record_of k (with_new id st all) ≡ Some st) same (record_new id all st) in
        absurd (no_claim q (Some st) turn due (subst (λ (o : Option Stream). Claims o q) new claim))
    by false is = subst (λ (o : Option Stream). Claims o q) (record_old id j all st is) claim
