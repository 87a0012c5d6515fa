use Rattle.std.proofs.Common.{◌≡◌, ◌≢◌, sym, ◌∙◌, ap, subst, List, ℕ, Option, Some, None}
use Rattle.std.specs.Prelude.{MatchOption}
use Rattle.std.specs.declared.net.ip_addr.IpAddr.{IpAddr}
use Rattle.qc_base.specs.Grammar.{IsBytes}
use Rattle.qc_script.specs.Fields.{hex_field, ip_octets, ip_text, IsIpInRange}
use Rattle.qc_script.proofs.FieldLemmas.{ip_read, ip_other, ip_not_read}
use Rattle.qc_script.proofs.address.read_ip.Goals as goal

found : (digits bytes : List ℕ) (r : Option IpAddr) → digits ≡ hex_field bytes → IsBytes bytes
    → MatchOption r ((ip : IpAddr) → IsIpInRange ip → bytes ≢ ip_octets ip) (λ ip. (bytes ≡ ip_octets ip) × IsIpInRange ip)
    → MatchOption r ((ip : IpAddr) → IsIpInRange ip → digits ≢ ip_text ip) (λ ip. (digits ≡ ip_text ip) × IsIpInRange ip)
found digits bytes (Some ip) e h is = (ip_read digits bytes ip e is.0 is.1, is.1)
found digits bytes None e h is = ip_other digits bytes e h is

pub returns-in-Some : goal.returns-in-Some
returns-in-Some c =
    let hex = rw c.in-Some.is at c.in_ok-octets.ensures in
    found c.args.digits.now c.as_slice.result.now c.ip_of.result (hex.0 ∙ ap hex_field (sym c.as_slice.ensures)) (subst IsBytes (sym c.as_slice.ensures) hex.1) c.ip_of.ensures

pub returns-in-None : goal.returns-in-None
returns-in-None c = ip_not_read c.args.digits.now (rw c.in-None.is at c.in_ok-octets.ensures)
