use Rattle.std.proofs.Common.{◌^◌, sym, ◌∙◌, arith}
use Rattle.qc_script.specs.Fields.{dir_text}
use Rattle.std.specs.Fmt.{decimal}
use Rattle.qc_state.specs.declared.input.Input.TheVariants.{MaxStreams}
use Rattle.qc_script.proofs.FieldLemmas.{begins_same, dir_split}
use Rattle.qc_script.proofs.LineLemmas.{is_next, no_streams, three_read}
use Rattle.qc_script.proofs.stream_lines.streams_line.Goals as goal

pub returns-in_err-now : goal.returns-in_err-now
returns-in_err-now c = rw c.from_residual.ensures (no_streams c.args.fields.now (λ now rest b dir more f x within e. c.in_err-now.ensures now rest b))

pub returns-in_err-dir : goal.returns-in_err-dir
returns-in_err-dir c = rw c.from_residual-in_err-dir.ensures (no_streams c.args.fields.now (λ now rest b dir more f x within e.
    let same = begins_same (2 ^ 64) c.args.fields.now c.in_ok-now.now c.in_ok-now.rest.now now rest (omega arith) c.in_ok-now.ensures b in
    c.in_err-dir.ensures dir more (same.1 ∙ f)))

pub returns-in_err-count : goal.returns-in_err-count
returns-in_err-count c = rw c.from_residual-in_err-count.ensures (no_streams c.args.fields.now (λ now rest b dir more f x within e.
    let same = begins_same (2 ^ 64) c.args.fields.now c.in_ok-now.now c.in_ok-now.rest.now now rest (omega arith) c.in_ok-now.ensures b in
    let second = dir_split c.in_ok-dir.dir dir c.in_ok-dir.digits.now more (sym c.in_ok-dir.ensures ∙ same.1 ∙ f) in
    c.in_err-count.ensures x within (second.1 ∙ e)))

pub returns : goal.returns
returns c =
    let fields = three_read c.args.fields.now c.in_ok-now.rest.now (dir_text c.in_ok-dir.dir) c.in_ok-dir.digits.now (decimal c.in_ok-count.count) c.in_ok-now.now c.in_ok-now.ensures c.in_ok-dir.ensures c.in_ok-count.ensures in
    rw c.from_nanos.ensures (is_next c.args.fields.now (MaxStreams c.in_ok-now.now c.in_ok-dir.dir c.in_ok-count.count) fields (omega arith, omega arith))
