-- What a packet does that its key doesn't open.
use Rattle.std.proofs.Common.{◌≡◌, ℕ, ◌+◌, ◌≤◌, ◌<◌, List, [], ◌∷◌, ◌++◌, refl, ap, sym, ◌∙◌, subst, Bool, true, false, Option, None, Some, if◌then◌else◌, append_assoc, arith}
use Rattle.std.proofs.lemmas.Bool.Decides.{nat_tests}
use Rattle.std.specs.Prelude.{is_none, nat_lt}
use Rattle.qc_base.specs.Time.{plus}
use Rattle.qc_base.specs.declared.side.SpaceId.{SpaceId}
use Rattle.qc_base.specs.declared.side.SpaceId.TheVariants.{Initial, Handshake, «Data»}
use Rattle.qc_header.specs.Piece.{Piece, space_of}
use Rattle.qc_state.specs.declared.coming.Coming.{Coming}
use Rattle.qc_state.specs.declared.deeds.Did.{Did}
use Rattle.qc_state.specs.declared.deeds.Did.TheVariants as did
use Rattle.qc_state.specs.declared.deeds.Verdict.TheVariants as verdict
use Rattle.qc_state.specs.declared.keys.KeyGroup.{KeyGroup}
use Rattle.qc_state.specs.declared.life.ConnectionError.{ConnectionError}
use Rattle.qc_state.specs.declared.life.Life.{Life}
use Rattle.qc_state.specs.declared.life.ConnectionError.TheVariants as lost
use Rattle.qc_state.specs.declared.life.State.TheVariants.{Drained}
use Rattle.qc_state.specs.declared.opening.Opening.{Opening}
use Rattle.qc_state.specs.declared.opening.Opening.TheVariants.{Unopened}
use Rattle.qc_state.specs.Keys.{exceeds_limit, failure_counted, fails_too_often, integrity_limit_of}
use Rattle.qc_state.specs.Life.{is_over, life_raised, reason_given}
use Rattle.qc_state.specs.Moves.{Fail, Give, Raise, Tell, deeds_move, keys_move, life_move, move_to, state_move}
use Rattle.qc_state.specs.Opening.{opening_of}
use Rattle.qc_state.specs.Receiving.{failed_after, formed_after, opening_after, piece_after, piece_told}
use Rattle.qc_state.specs.Stopping.{given_after, key_limit_error, killed_after}
use Rattle.qc_state.specs.Types.{Types, Meaning}
use Rattle.qc_state.specs.View.{At}
use Rattle.qc_laws.specs.ReasonLaws.{Fails, reason_deeds}

some_is : (x y : ℕ) → Some x ≡ Some y → x ≡ y
some_is x y h = cc

-- more failed than this limit, or not
not_most : (n limit : ℕ) (o : Option ℕ) → o ≡ Some limit → exceeds_limit n o ≡ true → n ≤ limit → ⊥
not_most n limit None is more most = let clash : None ≡ Some limit = is in cc
not_most n limit (Some other) is more most =
    let same : other ≡ limit = some_is other limit is in
    grind (arith, nat_tests, more, most, same)

not_more : (n limit : ℕ) (o : Option ℕ) → o ≡ Some limit → exceeds_limit n o ≡ false → limit < n → ⊥
not_more n limit None is most more = let clash : None ≡ Some limit = is in cc
not_more n limit (Some other) is most more =
    let same : other ≡ limit = some_is other limit is in
    grind (arith, nat_tests, more, most, same)

-- a failure leaves the limit
same_limit : {H P : Type 0} (v : KeyGroup H P) (id : SpaceId) → integrity_limit_of (failure_counted v) id ≡ integrity_limit_of v id
unfolding integrity_limit_of failure_counted
same_limit v Initial = refl
same_limit v Handshake = refl
same_limit v «Data» = refl

-- a reason that is given leaves the state
given_state : (v : Life) (why : ConnectionError) → (reason_given v why).state ≡ v.state
unfolding reason_given
given_state v why = given_by (is_none v.reason)
  where
    given_by : (b : Bool) → (if b then record v { reason = Some why; lost = Some why } else v).state ≡ v.state
    given_by true = refl
    given_by false = refl

module _ {H P : Type 0} where
  -- what exceeds the limit of the keys, once one more failed
  by_limit : (v : KeyGroup H P) (b : Bool) → fails_too_often (failure_counted v) ≡ b → exceeds_limit (plus v.failures 1) (integrity_limit_of v v.highest) ≡ b
  unfolding fails_too_often failure_counted
  by_limit v b h = ap (λ (o : Option ℕ). exceeds_limit (plus v.failures 1) o) (sym (same_limit v v.highest)) ∙ h

module _ {t : Types} where
  -- it is counted, and told of
  abbrev told_failed : SpaceId → At t → At t
  told_failed space a = piece_told (Some space) None verdict.Failure (move_to Fail a)

  -- the connection ends
  ended : (space : SpaceId) (a : At t) → fails_too_often (failure_counted a.state.keys) ≡ true → Fails space a (killed_after (lost.TransportError key_limit_error) (told_failed space a))
  unfolding killed_after given_after move_to state_move keys_move failure_counted deeds_move life_move life_raised
  ended space a more = by_reason a.state.life.reason refl
    where
      by_reason : (o : Option ConnectionError) → a.state.life.reason ≡ o →
          Fails space a (if is_none o then move_to (Give (lost.TransportError key_limit_error)) (move_to (Raise Drained) (told_failed space a)) else move_to (Raise Drained) (told_failed space a))
      by_reason None is = record {
        counted = refl;
        ends = λ limit of_limit above. (
          given_state (life_raised a.state.life Drained) (lost.TransportError key_limit_error),
          append_assoc (a.did ++ did.Piece (Some space) None verdict.Failure ∷ []) (did.Rose 4 ∷ []) (did.Lost (lost.TransportError key_limit_error) ∷ [])
              ∙ append_assoc a.did (did.Piece (Some space) None verdict.Failure ∷ []) (did.Rose 4 ∷ did.Lost (lost.TransportError key_limit_error) ∷ [])
              ∙ ap (λ (r : Option ConnectionError). a.did ++ did.Piece (Some space) None verdict.Failure ∷ did.Rose 4 ∷ reason_deeds r (lost.TransportError key_limit_error)) (sym is),
        );
        goes_on = λ limit of_limit most. absurd (not_most (plus a.state.keys.failures 1) limit (integrity_limit_of a.state.keys a.state.keys.highest) of_limit (by_limit a.state.keys true more) most);
      }
      by_reason (Some earlier) is = record {
        counted = refl;
        ends = λ limit of_limit above. (
          refl,
          append_assoc a.did (did.Piece (Some space) None verdict.Failure ∷ []) (did.Rose 4 ∷ [])
              ∙ ap (λ (r : Option ConnectionError). a.did ++ did.Piece (Some space) None verdict.Failure ∷ did.Rose 4 ∷ reason_deeds r (lost.TransportError key_limit_error)) (sym is),
        );
        goes_on = λ limit of_limit most. absurd (not_most (plus a.state.keys.failures 1) limit (integrity_limit_of a.state.keys a.state.keys.highest) of_limit (by_limit a.state.keys true more) most);
      }

  -- or it goes on
  went_on : (space : SpaceId) (a : At t) → fails_too_often (failure_counted a.state.keys) ≡ false → Fails space a (told_failed space a)
  unfolding move_to state_move keys_move failure_counted deeds_move life_move
  went_on space a most = record {
    counted = refl;
    ends = λ limit of_limit above. absurd (not_more (plus a.state.keys.failures 1) limit (integrity_limit_of a.state.keys a.state.keys.highest) of_limit (by_limit a.state.keys false most) above);
    goes_on = λ limit of_limit below. (refl, refl);
  }

  failed_by : (space : SpaceId) (a : At t) (b : Bool) → fails_too_often (failure_counted a.state.keys) ≡ b →
      Fails space a (if b then killed_after (lost.TransportError key_limit_error) (told_failed space a) else told_failed space a)
  failed_by space a true more = ended space a more
  failed_by space a false most = went_on space a most

  failed : (space : SpaceId) (a : At t) → Fails space a (failed_after (Some space) a)
  unfolding failed_after move_to state_move keys_move
  failed space a = failed_by space a (fails_too_often (failure_counted a.state.keys)) refl

  pub piece_fails : (m : Meaning t) (coming : Coming) (p : Piece) (space : SpaceId) (a : At t) → is_over a.state.life.state ≡ false → space_of p.header ≡ Some space → opening_of m a.state p ≡ Unopened → Fails space a (piece_after m coming p a)
  unfolding piece_after
  piece_fails m coming p space a lively form unopened =
      subst (λ (b : Bool). Fails space a (if b then piece_told (space_of p.header) None verdict.Ignored a else formed_after m coming (space_of p.header) p a)) (sym lively)
      (subst (λ (s : Option SpaceId). Fails space a (formed_after m coming s p a)) (sym form)
      (subst (λ (o : Opening). Fails space a (opening_after m coming (Some space) o a)) (sym unopened) (failed space a)))
