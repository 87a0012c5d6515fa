-- Over a run the 1-RTT keys stay the session's, each of its epoch.
use Rattle.std.proofs.Common.{ℕ, ◌≤◌, ◌<◌, inl, inr, List, [], ◌∷◌, refl, sym, subst, Option, arith}
use Rattle.qc_base.specs.RangeSet.{Member}
use Rattle.qc_base.specs.declared.range_set.NumberRange.{NumberRange}
use Rattle.qc_base.specs.declared.side.SpaceId.TheVariants.{«Data»}
use Rattle.qc_crypto.specs.declared.session.Session.{Ghosts as SessionGhosts}
use Rattle.qc_state.specs.declared.input.Input.{Input}
use Rattle.qc_state.specs.declared.keys.OneRttKeys.{OneRttKeys}
use Rattle.qc_state.specs.declared.trace.Step.{Step}
use Rattle.qc_state.specs.Numbers.{next_number, received_number}
use Rattle.qc_state.specs.Run.{Run}
use Rattle.qc_state.specs.Spaces.{space_of}
use Rattle.qc_state.specs.Types.{Types, Meaning}
use Rattle.qc_state.specs.View.{View}
use Rattle.qc_laws.specs.FitLaws.{FitKeys, KeysFit}
use Rattle.qc_laws.specs.MirrorLaws.{ComesWith, Goes, Ledger, Mirrors, Shown, bound}
use Rattle.qc_laws.specs.UpdateLaws.{AreLast}
use Rattle.qc_laws.proofs.KeysFit.{Fits, IsLawful, passed_fits, steps_fit}
use Rattle.qc_laws.proofs.Mirrors.{run_mirrors}

-- the last numbers of ranges, which bound all that are in them
abbrev lasts_of : List NumberRange → List ℕ
lasts_of [] = []
lasts_of (range ∷ ranges) = range.last ∷ lasts_of ranges

lasts_bound : (n : ℕ) (ranges : List NumberRange) → Member n ranges → n < bound (lasts_of ranges)
lasts_bound n [] h = absurd h
lasts_bound n (range ∷ ranges) (inl among) = grind (arith, among.1)
lasts_bound n (range ∷ ranges) (inr later) = let more : n < bound (lasts_of ranges) = lasts_bound n ranges later in grind (arith, more)

module _ {t : Types} (m : Meaning t) (calls : SessionGhosts t.S t.H t.P t.D t.I) (laws : IsLawful m calls) where
  -- a ledger that shows a view, in which nothing was told so far
  abbrev first_ledger : View t → Ledger t
  first_ledger s = record {
    session = s.lower.session;
    keys = s.keys.«data»;
    next = next_number s.numbers «Data»;
    rx = received_number s.numbers «Data»;
    sent = [];
    opened = lasts_of (space_of s.waiting.spaces «Data»).acks.ranges;
    read = [];
    given = [];
  }

  first_mirrors : (s : View t) → Mirrors s (first_ledger s)
  first_mirrors s = record { session = refl; keys = refl; next = omega arith; rx = refl; kept = λ n h. lasts_bound n (space_of s.waiting.spaces «Data»).acks.ranges h }

  -- what fits fits a view that shows the same, with numbers that lie no lower
  shown_fits : (s : View t) (e : Ledger t) → Mirrors s e → calls.is_sound e.session → FitKeys m calls e.session e.next e.keys → KeysFit m calls s
  shown_fits s e h sound fits = record {
    sound = subst (λ (c : t.S). calls.is_sound c) h.session sound;
    keys = subst (λ (c : t.S). FitKeys m calls c (next_number s.numbers «Data») s.keys.«data») h.session
        (subst (λ (k : Option (OneRttKeys t.H t.P)). FitKeys m calls e.session (next_number s.numbers «Data») k) h.keys (passed_fits m calls laws e.session e.next (next_number s.numbers «Data») e.keys h.next fits));
  }

  pub run_keeps_fit : (k : ℕ) (s : View t) (is : List Input) (xs : List Step) (s' : View t) → Run m k s is xs s' → AreLast s → next_number s'.numbers «Data» ≤ 4611686018427387904 → KeysFit m calls s → KeysFit m calls s'
  run_keeps_fit k s is xs s' r last small h =
      let e : Ledger t = first_ledger s in
      let shown : Shown m is xs s s' e = run_mirrors m k s is xs s' r last e (first_mirrors s) in
      let goes : Goes m (ComesWith s is) e shown.end = shown.goes in
      let few : shown.end.next ≤ 4611686018427387904 = omega (arith, shown.mirrors.next, small) in
      let fits : Fits m calls laws (ComesWith s is) shown.end =
      subst (λ (f : Ledger t). Fits m calls laws (ComesWith s is) f) (sym goes.leads)
      (steps_fit m calls laws (ComesWith s is) goes.steps e goes.may (subst (λ (f : Ledger t). f.next ≤ 4611686018427387904) goes.leads few) (record { sound = h.sound; keys = h.keys })) in
      shown_fits s' shown.end shown.mirrors fits.sound fits.keys
