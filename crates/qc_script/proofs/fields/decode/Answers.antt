use Rattle.std.proofs.Common.{◌+◌, ◌*◌, ◌<◌, inl, inr, refl, arith}
use Rattle.std.proofs.lemmas.Bool.{OnFalse_from, ltb-false, cases_lt}
use Rattle.hex.specs.Hex.{encode_with}
use Rattle.qc_script.proofs.FieldLemmas.{decode_more, no_hex}
use Rattle.qc_script.proofs.fields.decode.Goals as goal

pub loop-place-init : goal.loop-place-init
unfolding encode_with
loop-place-init c = record { spelled = λ h. refl; other = λ h. absurd (omega arith) }

pub loop-place-preserved : goal.loop-place-preserved
loop-place-preserved c = record {
  spelled = λ h.
      let high : c.digit_value-high.result < 16 = omega arith in
      let low : c.digit_value-low.result < 16 = omega arith in
      let before : c.loop-place.greatest < 16 = omega arith in
      decode_more c.args.digits.now c.loop-place.bytes c.loop-place.place c.digit_value-high.result c.digit_value-low.result _ (omega arith) (omega arith) high low (omega arith)
      (c.digit_value-high.ensures.digit high) (c.digit_value-low.ensures.digit low) (c.loop-place.invariant.spelled before);
  other = λ h.
      elim (cases_lt c.loop-place.greatest 16) [
        | inr before ↦ c.loop-place.invariant.other before
        | inl below ↦
            elim (cases_lt c.digit_value-high.result 16) [
              | inr none ↦ (2 * c.loop-place.place, omega arith, c.digit_value-high.ensures.none none)
              | inl high ↦ (2 * c.loop-place.place + 1, omega arith, c.digit_value-low.ensures.none (omega arith))
            ]
      ];
}

pub returns-clause-other : goal.returns-clause-other
returns-clause-other c = OnFalse_from _ _ (λ e.
    let other = c.loop-place.invariant.other (ltb-false c.loop-place.greatest 16 e) in
    no_hex c.args.digits.now other.0 other.1 other.2)
