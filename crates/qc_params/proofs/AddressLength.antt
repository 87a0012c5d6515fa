use Rattle.std.proofs.Common.{◌≡◌, ◌+◌, length, arith, length-append}
use Rattle.std.specs.Net.Addr.{ipv4_octets, ipv6_octets}
use Rattle.qc_params.specs.declared.params.PreferredAddress.{PreferredAddress}
use Rattle.qc_params.specs.ParametersSpelling.{address_bytes}

-- how long a preferred address is
pub address_length : (a : PreferredAddress)
    → length (address_bytes a) ≡ length (ipv4_octets a.ipv4) + length (ipv6_octets a.ipv6) + length a.id + length a.reset_token + 5
unfolding address_bytes
address_length a = simp length-append (omega arith)
