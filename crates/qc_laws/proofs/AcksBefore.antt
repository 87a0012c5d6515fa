-- What is known where a packet is sealed, said by the deeds before it.
use Rattle.std.proofs.Common.{◌≡◌, ℕ, ◌⊎◌, inl, inr, List, [], ◌∷◌, ◌++◌, refl, subst, Bool, true, false, Option, Some, None, arith}
use Rattle.std.specs.Prelude.{◌||◌, option_to_list}
use Rattle.std.proofs.lemmas.Bool.Decides.{nat_tests}
use Rattle.qc_base.specs.declared.side.SpaceId.{SpaceId}
use Rattle.qc_base.specs.declared.side.SpaceId.TheVariants.{Initial, Handshake, «Data»}
use Rattle.qc_frame.specs.Frame.{FrameValue}
use Rattle.qc_path.specs.Arrived.{is_among}
use Rattle.qc_state.specs.declared.deeds.Did.{Did}
use Rattle.qc_state.specs.declared.deeds.Did.TheVariants as did
use Rattle.qc_state.specs.declared.trace.Step.{Step}
use Rattle.qc_state.specs.Headline.{deeds_of, accepted_number, accepted_in, KnownBehind, AcksOnly, SealsKnown, AcksKnown, IsKept, EachAcksKnown}
use Rattle.qc_state.specs.Spaces.{is_space}
use Rattle.qc_state.specs.Types.{Types}
use Rattle.qc_state.specs.View.{View}
use Rattle.qc_laws.proofs.AcksKnown.{KnownSince, only_more}

-- a number among those of before is among those with one more
among_more : (a b : Bool) → b ≡ true → (a || b) ≡ true
among_more true b h = refl
among_more false b h = h

-- the first number is among them
among_first : (n : ℕ) (ns : List ℕ) → is_among (n ∷ ns) n ≡ true
among_first n ns = grind (arith, nat_tests)

-- a number among the others is among all
among_rest : (o : Option ℕ) (ns : List ℕ) (n : ℕ) → is_among ns n ≡ true → is_among (option_to_list o ++ ns) n ≡ true
among_rest None ns n h = h
among_rest (Some m) ns n h = among_more _ _ h

-- so is the one that there is
among_one : (o : Option ℕ) (ns : List ℕ) (n : ℕ) → o ≡ Some n → is_among (option_to_list o ++ ns) n ≡ true
among_one o ns n is = rw is (among_first n ns)

-- what is known behind deeds is the number of a packet that was accepted, or was known before
since_is : (id : SpaceId) (K : ℕ → Type 0) (ds : List Did) (n : ℕ) → KnownSince id K ds n → (is_among (accepted_in id ds) n ≡ true) ⊎ K n
since_is id K [] n known = inr known
since_is id K (did.Piece space number v ∷ ds) n known = by_piece (since_is id (KnownBehind id K (did.Piece space number v)) ds n known)
  where
    by_piece : (is_among (accepted_in id ds) n ≡ true) ⊎ KnownBehind id K (did.Piece space number v) n → (is_among (accepted_in id (did.Piece space number v ∷ ds)) n ≡ true) ⊎ K n
    by_piece (inl among) = inl (among_rest (accepted_number id space number v) (accepted_in id ds) n among)
    by_piece (inr (inl is)) = inl (among_one (accepted_number id space number v) (accepted_in id ds) n is)
    by_piece (inr (inr before)) = inr before
since_is id K (did.Gave layer body ∷ ds) n known = since_is id K ds n known
since_is id K (did.Sealed space number epoch early fs ∷ ds) n known = since_is id K ds n known
since_is id K (did.Rose life ∷ ds) n known = since_is id K ds n known
since_is id K (did.Lost why ∷ ds) n known = since_is id K ds n known
since_is id K (did.Quiet why ∷ ds) n known = since_is id K ds n known

-- a packet acknowledges what is known behind the deeds before it
seals_there : (id : SpaceId) (K : ℕ → Type 0) (ds es : List Did) (d : Did) → AcksKnown id K (ds ++ d ∷ es) → SealsKnown id (KnownSince id K ds) d
seals_there id K [] es d h = h.0
seals_there id K (e ∷ ds) es d h = seals_there id (KnownBehind id K e) ds es d h.1

-- a space is itself
space_is : (id : SpaceId) → is_space id id ≡ true
space_is Initial = refl
space_is Handshake = refl
space_is Data = refl

module _ {t : Types} where
  -- a number that a packet acknowledges was accepted before, or was kept at the start
  pub acks_before : (s : View t) (xs : List Step) (id : SpaceId) (ds es : List Did) (number epoch : ℕ) (early : Bool) (fs : List FrameValue) → EachAcksKnown s xs
      → deeds_of xs ≡ ds ++ did.Sealed id number epoch early fs ∷ es → AcksOnly (λ n. (is_among (accepted_in id ds) n ≡ true) ⊎ IsKept id s.waiting n) fs
  unfolding EachAcksKnown
  acks_before s xs id ds es number epoch early fs h is =
      let K : ℕ → Type 0 = IsKept id s.waiting in
      only_more (KnownSince id K ds) (λ n. (is_among (accepted_in id ds) n ≡ true) ⊎ K n) (since_is id K ds) fs
      (seals_there id K ds es (did.Sealed id number epoch early fs) (subst (AcksKnown id K) is (h id)) (space_is id))
