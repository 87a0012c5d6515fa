use Rattle.std.proofs.Common.{◌∙◌, ap, arith}
use Rattle.std.specs.Net.Addr.{segments_of}
use Rattle.qc_script.proofs.FieldLemmas.{ip_v6}
use Rattle.qc_script.proofs.address.ip_of.Goals as goal

pub returns-in-16 : goal.returns-in-16
returns-in-16 c = ip_v6 c.args.octets.now c.from_octets-in-16.result c.in-16.is (λ i. omega (arith, c.type_inv.octets i)) (c.from_octets-in-16.ensures ∙ ap segments_of c.sixteen.ensures)
