use Rattle.std.proofs.Common.{◌≢◌, ◌≡◌, ◌∙◌, codes, sym, ap, subst, arith, ◌<◌, length}
use Rattle.std.proofs.lemmas.Bool.Decides.{nat_tests}
use Rattle.std.proofs.lemmas.List.{take-append-le, take_all}
use Rattle.std.proofs.lemmas.Slice.Eq.{bytes_eq-Decides}
use Rattle.qc_base.specs.Grammar.{IsBytes}
use Rattle.qc_script.specs.Fields.{hex_field}
use Rattle.qc_script.proofs.FieldLemmas.{hex_odd, hex_other, hex_read}
use Rattle.qc_script.proofs.fields.read_hex.Goals as goal
use Rattle.qc_script.proofs.fields.read_hex.Goals.{then-is_empty-via-then-is_empty, then-is_empty-via-else-is_empty+then-field-ne0}

pub returns-then-is_empty : goal.returns-then-is_empty
returns-then-is_empty c =
    let dash : c.args.field.now ≢ codes "-" = λ e. let yes = (bytes_eq-Decides c.args.field.now c.as_slice.result.now).1 (e ∙ sym c.as_slice.ensures) in cc (yes, c.eq.ensures, c.if-eq.false) in
    hex_odd c.args.field.now dash
    (λ some even. elim c.then-is_empty.branch [ then-is_empty-via-then-is_empty w ↦ grind (arith, nat_tests) | then-is_empty-via-else-is_empty+then-field-ne0 w ↦ w.if-field-ne0.true even ])

pub returns-then-decode : goal.returns-then-decode
returns-then-decode c =
    let some : 0 < length c.args.field.now = grind (arith, nat_tests) in
    let size : c.in_ok-bytes.bytes.len ≡ length c.decode.new.bytes = omega (arith, c.decode.auto.bytes, c.as_mut_slice.ensures.len) in
    let whole : c.from_vec-then-decode.result ≡ c.decode.new.bytes =
    c.from_vec-then-decode.ensures ∙ take-append-le c.in_ok-bytes.bytes.len c.decode.new.bytes _ (omega arith) ∙ take_all c.in_ok-bytes.bytes.len c.decode.new.bytes (omega arith) in (
      hex_read c.args.field.now c.decode.new.bytes some c.if-decode.ensures.spelled ∙ ap hex_field (sym whole),
      subst IsBytes (c.as_slice-then-decode.ensures.value ∙ sym c.from_vec-then-decode.ensures) c.are_bytes.ensures,
    )

pub returns-else-decode : goal.returns-else-decode
returns-else-decode c =
    let dash : c.args.field.now ≢ codes "-" = λ e. let yes = (bytes_eq-Decides c.args.field.now c.as_slice.result.now).1 (e ∙ sym c.as_slice.ensures) in cc (yes, c.eq.ensures, c.if-eq.false) in
    hex_other c.args.field.now dash c.if-decode.ensures.other
