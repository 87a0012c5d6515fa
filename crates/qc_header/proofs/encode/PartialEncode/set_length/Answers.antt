use Rattle.std.proofs.Common.{◌∙◌, ap}
use Rattle.qc_header.specs.SetLength.{with_length}
use Rattle.qc_header.proofs.SetLengths.{length_is_set, begun_is_set}
use Rattle.qc_header.proofs.encode.PartialEncode.set_length.Goals as goal

pub returns-clause-header : goal.returns-clause-header
returns-clause-header c h was before behind place e =
    c.put_length.ensures ∙ ap (with_length c.args.self c.args.length_field) e
    ∙ length_is_set c.args.self h was c.args.length_field before behind place

pub returns-clause-flipped : goal.returns-clause-flipped
returns-clause-flipped c h was first before behind place alike e =
    c.put_length.ensures ∙ ap (with_length c.args.self c.args.length_field) e
    ∙ begun_is_set c.args.self h was c.args.length_field first before behind place alike
