use Rattle.std.proofs.Common.{◌≡◌, ◌<◌, ◌^◌, sym, ◌∙◌, ap, length, arith, rules, refl}
use Rattle.std.proofs.lemmas.List.{drop_all}
use Rattle.std.proofs.lemmas.Bool.Decides.{nat_tests}
use Rattle.qc_script.proofs.NumberLemmas.{read_on, AreDigits, decimal_isnt_empty, decimal_zero_alone, stops_decimal, decimal_read}
use Rattle.qc_script.proofs.fields.read_number.Goals as goal

pub returns-then-is_empty : goal.returns-then-is_empty
returns-then-is_empty c n h e = let some : 0 < length c.args.digits.now = decimal_isnt_empty c.args.digits.now n h e in grind arith

pub returns-then-digits-gt1 : goal.returns-then-digits-gt1
returns-then-digits-gt1 c n h e = decimal_zero_alone c.args.digits.now n h e (search rules) (omega arith)

pub returns-in_err-number : goal.returns-in_err-number
returns-in_err-number c = rw c.from_residual.ensures (λ n h e. stops_decimal c.args.digits.now c.loop-byte.byte-index c.loop-byte.number _ n h e (omega arith) refl c.loop-byte.invariant.so_far c.in_err-number.ensures.none)

pub returns : goal.returns
returns c =
    let whole : c.loop-byte.number ≡ read_on 0 c.args.digits.now = ap (read_on c.loop-byte.number) (sym (drop_all c.loop-byte.byte-index c.args.digits.now (omega arith))) ∙ c.loop-byte.invariant.so_far in
    let digits : AreDigits c.args.digits.now = λ k inside. c.loop-byte.invariant.digits k (omega arith) in
    let some : 0 < length c.args.digits.now = grind (arith, nat_tests) in
    let small : c.loop-byte.number < 2 ^ 64 = c.loop-byte.invariant.small in
    decimal_read c.args.digits.now c.loop-byte.number some digits c.else-digits-eq48.either small whole
