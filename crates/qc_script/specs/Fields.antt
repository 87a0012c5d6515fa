-- The fields of a line: numbers, bytes, addresses and marks.
use Rattle.std.specs.Prelude.{◌≡◌, ◌≢◌, ℕ, ◌^◌, ◌<◌, List, [], ◌∷◌, ◌++◌, length, codes, Bool, true, false, Option, Some, None}
use Rattle.std.specs.Fmt.{decimal}
use Rattle.std.specs.Net.Addr.{ipv4_octets, ipv6_octets}
use Rattle.std.specs.Net.Socket.{socket_ip, socket_port, socket_flowinfo, socket_scope_id}
use Rattle.std.specs.declared.net.ip_addr.IpAddr.{IpAddr}
use Rattle.std.specs.declared.net.ip_addr.IpAddr.TheVariants.{V4, V6}
use Rattle.std.specs.declared.net.socket_addr.SocketAddr.{SocketAddr}
use Rattle.hex.specs.Hex.{encode_lower}
use Rattle.qc_base.specs.Ecn.{ecn_bits}
use Rattle.qc_base.specs.Grammar.{IsBytes}
use Rattle.qc_base.specs.declared.ecn.EcnCodepoint.{EcnCodepoint}
use Rattle.qc_base.specs.declared.side.Dir.{Dir}
use Rattle.qc_base.specs.declared.side.Dir.TheVariants.{Bi, Uni}

-- no byte of the text is this one
abbrev pub Lacks : ℕ → List ℕ → Type 0
Lacks b [] = Unit {0}
Lacks b (c ∷ text) = (c ≢ b) × Lacks b text

-- bytes as a field: lower-case hex, or `-` where there are none
abbrev pub hex_field : List ℕ → List ℕ
hex_field [] = codes "-"
hex_field (b ∷ bytes) = encode_lower (b ∷ bytes)

-- the octets of an IP address, in order
abbrev pub ip_octets : IpAddr → List ℕ
ip_octets (V4 ip) = ipv4_octets ip
ip_octets (V6 ip) = ipv6_octets ip

-- the octets of an IP address in hex: 8 digits for IPv4 and 32 for IPv6
unfoldable pub ip_text : IpAddr → List ℕ
ip_text ip = encode_lower (ip_octets ip)

-- an IP address and its UDP port
unfoldable pub address_text : SocketAddr → List ℕ
address_text address = ip_text (socket_ip address) ++ codes "/" ++ decimal (socket_port address)

-- an IP address has 4 octets or 16
abbrev pub IsIpInRange : IpAddr → Type 0
IsIpInRange (V4 ip) = (length (ipv4_octets ip) ≡ 4) × IsBytes (ipv4_octets ip)
IsIpInRange (V6 ip) = (length (ipv6_octets ip) ≡ 16) × IsBytes (ipv6_octets ip)

-- an address of which its text tells all: an IP address, a port of 16 bits, and neither a flow label nor a scope
pub record IsAddress (address : SocketAddr) : Type 0 where
  pub ip : IsIpInRange (socket_ip address)
  pub port : socket_port address < 2 ^ 16
  pub flow : socket_flowinfo address ≡ 0
  pub scope : socket_scope_id address ≡ 0

-- a mark of explicit congestion notification as the two bits that it is, or `-` where there is none
abbrev pub ecn_text : Option EcnCodepoint → List ℕ
ecn_text None = codes "-"
ecn_text (Some mark) = decimal (ecn_bits mark)

-- the word of a direction
abbrev pub dir_text : Dir → List ℕ
dir_text Bi = codes "bi"
dir_text Uni = codes "uni"

-- a flag as a digit
abbrev pub flag_text : Bool → List ℕ
flag_text false = codes "0"
flag_text true = codes "1"

-- the text is the decimal of a number below this bound, a space, and the rest
pub record Begins (bound : ℕ) (text : List ℕ) (number : ℕ) (rest : List ℕ) : Type 0 where
  pub spelled : text ≡ decimal number ++ 32 ∷ rest
  pub small : number < bound

-- the text is these four fields, with a space between each two; only the last may have more
pub record AreFields (text a b c d : List ℕ) : Type 0 where
  pub spelled : text ≡ a ++ 32 ∷ (b ++ 32 ∷ (c ++ 32 ∷ d))
  pub first : Lacks 32 a
  pub second : Lacks 32 b
  pub third : Lacks 32 c
