-- Fields of a line: what each spells, and that nothing else does.
use Rattle.std.proofs.Common.{zero, suc, nat_lt, if◌then◌else◌, ◌/◌, ◌%◌, slice_index, slice_set, take, ◌≡◌, ◌≢◌, ℕ, ◌+◌, ◌*◌, ◌^◌, ◌<◌, ◌≤◌, List, [], ◌∷◌, ◌++◌, length, get_or, drop, Option, Some, None, refl, sym, ◌∙◌, ap, subst, arith, codes, Bool, true, false}
use Rattle.std.proofs.lemmas.List.{append_assoc, take_more, take_more_set}
use Rattle.std.specs.Fmt.{decimal}
use Rattle.std.proofs.lemmas.Fmt.{decimal_injective, decimal_digit}
use Rattle.std.specs.Net.Addr.{ipv6_octets, ipv6_segments, octets_of, segments_of}
use Rattle.std.specs.Net.Socket.{socket_ip, socket_port}
use Rattle.std.specs.declared.net.ipv6_addr.Ipv6Addr.{Ipv6Addr}
use Rattle.std.specs.declared.net.ip_addr.IpAddr.{IpAddr}
use Rattle.std.specs.declared.net.ip_addr.IpAddr.TheVariants as Ip
use Rattle.std.specs.declared.net.socket_addr.SocketAddr.{SocketAddr}
use Rattle.std.specs.declared.net.socket_addr.SocketAddr.TheVariants.{V4, V6}
use Rattle.hex.specs.Hex.{lower_digits, encode_with, encode_lower, decode_of}
use Rattle.hex.proofs.HexLemmas.{decode_of-encode_lower, decode_of-same, length-encode_with}
use Rattle.qc_base.specs.Grammar.{IsBytes}
use Rattle.qc_base.specs.declared.ecn.EcnCodepoint.{EcnCodepoint}
use Rattle.qc_base.specs.declared.ecn.EcnCodepoint.TheVariants.{Ect0, Ect1, Ce}
use Rattle.qc_base.specs.declared.side.Dir.{Dir}
use Rattle.qc_base.specs.declared.side.Dir.TheVariants.{Bi, Uni}
use Rattle.qc_script.specs.Fields.{Lacks, hex_field, ip_octets, ip_text, address_text, dir_text, ecn_text, IsIpInRange, IsAddress, AreFields, Begins}
use Rattle.qc_script.proofs.NumberLemmas.{Lacks-append, Lacks-decimal, first_split, no_split}

-- ---- numbers

-- a number of 2^62 or more is no code
pub code_too_great : (digits : List ℕ) (code : ℕ) → digits ≡ decimal code → code < 2 ^ 64 → 2 ^ 62 ≤ code → (n : ℕ) → n < 2 ^ 62 → digits ≢ decimal n
code_too_great digits code e small great n h is = let same : code ≡ n = decimal_injective code n small (omega arith) (sym e ∙ is) in omega arith

-- nor is one of 2^16 or more a port
pub port_too_great : (digits : List ℕ) (port : ℕ) → digits ≡ decimal port → port < 2 ^ 64 → 2 ^ 16 ≤ port → (n : ℕ) → n < 2 ^ 16 → digits ≢ decimal n
port_too_great digits port e small great n h is = let same : port ≡ n = decimal_injective port n small (omega arith) (sym e ∙ is) in omega arith

-- nor is one of 2^32 or more a count
pub count_too_great : (digits : List ℕ) (count : ℕ) → digits ≡ decimal count → count < 2 ^ 64 → 2 ^ 32 ≤ count → (n : ℕ) → n < 2 ^ 32 → digits ≢ decimal n
count_too_great digits count e small great n h is = let same : count ≡ n = decimal_injective count n small (omega arith) (sym e ∙ is) in omega arith

-- ---- hex

-- the digit of a value
digit_of : ℕ → ℕ
digit_of v = if nat_lt v 10 then 48 + v else 87 + v

digit_at : (v : ℕ) → v < 16 → slice_index lower_digits v ≡ digit_of v
unfolding digit_of
digit_at zero h = refl
digit_at (suc zero) h = refl
digit_at (suc (suc zero)) h = refl
digit_at (suc (suc (suc zero))) h = refl
digit_at (suc (suc (suc (suc zero)))) h = refl
digit_at (suc (suc (suc (suc (suc zero))))) h = refl
digit_at (suc (suc (suc (suc (suc (suc zero)))))) h = refl
digit_at (suc (suc (suc (suc (suc (suc (suc zero))))))) h = refl
digit_at (suc (suc (suc (suc (suc (suc (suc (suc zero)))))))) h = refl
digit_at (suc (suc (suc (suc (suc (suc (suc (suc (suc zero))))))))) h = refl
digit_at (suc (suc (suc (suc (suc (suc (suc (suc (suc (suc zero)))))))))) h = refl
digit_at (suc (suc (suc (suc (suc (suc (suc (suc (suc (suc (suc zero))))))))))) h = refl
digit_at (suc (suc (suc (suc (suc (suc (suc (suc (suc (suc (suc (suc zero)))))))))))) h = refl
digit_at (suc (suc (suc (suc (suc (suc (suc (suc (suc (suc (suc (suc (suc zero))))))))))))) h = refl
digit_at (suc (suc (suc (suc (suc (suc (suc (suc (suc (suc (suc (suc (suc (suc zero)))))))))))))) h = refl
digit_at (suc (suc (suc (suc (suc (suc (suc (suc (suc (suc (suc (suc (suc (suc (suc zero))))))))))))))) h = refl
digit_at (suc (suc (suc (suc (suc (suc (suc (suc (suc (suc (suc (suc (suc (suc (suc (suc v)))))))))))))))) h = absurd (omega arith)

high_digit : (v b : ℕ) → v < 16 → b < 48 → slice_index lower_digits v ≢ b
unfolding digit_of
high_digit v b h small e = let low : digit_of v ≡ b = sym (digit_at v h) ∙ e in digit_high v b small low
  where
    digit_by : (v b : ℕ) (c : Bool) → b < 48 → (if c then 48 + v else 87 + v) ≡ b → ⊥
    digit_by v b true small e = omega arith
    digit_by v b false small e = omega arith

    digit_high : (v b : ℕ) → b < 48 → digit_of v ≡ b → ⊥
    digit_high v b small e = digit_by v b (nat_lt v 10) small e

pub Lacks-hex : (b : ℕ) (bs : List ℕ) → b < 48 → IsBytes bs → Lacks b (encode_lower bs)
unfolding encode_with
Lacks-hex b [] small h = tt
Lacks-hex b (x ∷ xs) small h =
    let byte : x < 256 = h 0 in
    (high_digit (x / 16) b (omega arith) small, (high_digit (x % 16) b (omega arith) small, Lacks-hex b xs small (λ i. h (suc i))))

pub Lacks-hex_field : (b : ℕ) (bs : List ℕ) → b < 45 → IsBytes bs → Lacks b (hex_field bs)
Lacks-hex_field b [] small h = (λ e. omega (arith, e), tt)
Lacks-hex_field b (x ∷ xs) small h = Lacks-hex b (x ∷ xs) (omega arith) h

-- a field that spells bytes tells them
hex_field_some : (bs : List ℕ) → 0 < length bs → hex_field bs ≡ encode_lower bs
hex_field_some [] h = absurd (omega arith)
hex_field_some (x ∷ xs) h = refl

-- each byte of a hex text is a digit
encoded_digit : (bs : List ℕ) → IsBytes bs → (k : ℕ) → k < length (encode_lower bs) → (v : ℕ) × (v < 16) × (slice_index lower_digits v ≡ get_or (encode_lower bs) k 0)
unfolding encode_with
encoded_digit [] h k inside = absurd (omega arith)
encoded_digit (b ∷ bs) h zero inside = (b / 16, (let byte : b < 256 = h 0 in omega arith), refl)
encoded_digit (b ∷ bs) h (suc zero) inside = (b % 16, omega arith, refl)
encoded_digit (b ∷ bs) h (suc (suc k)) inside = encoded_digit bs (λ i. h (suc i)) k (omega arith)

-- so a text with another byte is none
pub no_hex : (digits : List ℕ) (k : ℕ) → k < length digits → ((v : ℕ) → v < 16 → slice_index lower_digits v ≢ get_or digits k 0) → (bs : List ℕ) → IsBytes bs → digits ≢ encode_lower bs
no_hex digits k inside none bs h e =
    let digit = encoded_digit bs h k (omega (arith, ap length e)) in
    none digit.0 digit.1 (digit.2 ∙ ap (λ (r : List ℕ). get_or r k 0) (sym e))

-- one byte more is two digits more
encode_more : (xs : List ℕ) (b : ℕ) → encode_lower (xs ++ b ∷ []) ≡ encode_lower xs ++ slice_index lower_digits (b / 16) ∷ slice_index lower_digits (b % 16) ∷ []
unfolding encode_with
encode_more [] b = refl
encode_more (x ∷ xs) b = ap (λ (r : List ℕ). slice_index lower_digits (x / 16) ∷ slice_index lower_digits (x % 16) ∷ r) (encode_more xs b)

take_two : (xs : List ℕ) (i : ℕ) → 2 * i + 1 < length xs → take (2 * (i + 1)) xs ≡ take (2 * i) xs ++ get_or xs (2 * i) 0 ∷ get_or xs (2 * i + 1) 0 ∷ []
take_two xs i inside =
    let two : 2 * (i + 1) ≡ 2 * i + 1 + 1 = omega arith in
    let first = take_more xs (2 * i) 0 (omega arith) in
    let second = take_more xs (2 * i + 1) 0 inside in
    rw (two, second, first) (append_assoc (take (2 * i) xs) (get_or xs (2 * i) 0 ∷ []) (get_or xs (2 * i + 1) 0 ∷ []))

pub decode_more : (digits bytes : List ℕ) (i high low b : ℕ) → 2 * i + 1 < length digits → i < length bytes → high < 16 → low < 16 → b ≡ high * 16 + low
    → slice_index lower_digits high ≡ get_or digits (2 * i) 0 → slice_index lower_digits low ≡ get_or digits (2 * i + 1) 0
    → take (2 * i) digits ≡ encode_lower (take i bytes) → take (2 * (i + 1)) digits ≡ encode_lower (take (i + 1) (slice_set bytes i b))
decode_more digits bytes i high low b inside room h l is first second front =
    let top : b / 16 ≡ high = omega arith in
    let bottom : b % 16 ≡ low = omega arith in
    let more = encode_more (take i bytes) b in
    rw (take_two digits i inside, take_more_set bytes i b room, more, top, bottom, first, second, front) refl

-- a field that spells no bytes
pub hex_odd : (field : List ℕ) → field ≢ codes "-" → ((0 < length field) → length field % 2 ≡ 0 → ⊥) → (bs : List ℕ) → IsBytes bs → field ≢ hex_field bs
hex_odd field dash odd [] h is = dash is
hex_odd field dash odd (x ∷ xs) h is =
    let size = ap length is ∙ length-encode_with lower_digits (x ∷ xs) in
    odd (omega (arith, size)) (omega (arith, size))

pub hex_other : (field : List ℕ) → field ≢ codes "-" → ((bs : List ℕ) → IsBytes bs → field ≢ encode_lower bs) → (bs : List ℕ) → IsBytes bs → field ≢ hex_field bs
hex_other field dash none [] h is = dash is
hex_other field dash none (x ∷ xs) h is = none (x ∷ xs) h is

pub hex_read : (field bs : List ℕ) → 0 < length field → field ≡ encode_lower bs → field ≡ hex_field bs
hex_read field [] some is = absurd (omega (arith, ap length is ∙ length-encode_with lower_digits []))
hex_read field (x ∷ xs) some is = is

pub hex_field_injective : (bs cs : List ℕ) → IsBytes bs → IsBytes cs → hex_field bs ≡ hex_field cs → bs ≡ cs
unfolding encode_with
hex_field_injective [] [] h k e = refl
hex_field_injective [] (x ∷ xs) h k e = absurd (high_digit (x / 16) 45 (let byte : x < 256 = k 0 in omega arith) (omega arith) (ap (λ (r : List ℕ). get_or r 0 0) (sym e)))
hex_field_injective (x ∷ xs) [] h k e = absurd (high_digit (x / 16) 45 (let byte : x < 256 = h 0 in omega arith) (omega arith) (ap (λ (r : List ℕ). get_or r 0 0) e))
hex_field_injective (x ∷ xs) (y ∷ ys) h k e = decode_of-same (encode_lower (x ∷ xs)) (x ∷ xs) (y ∷ ys) (decode_of-encode_lower (x ∷ xs) h) (ap decode_of e ∙ decode_of-encode_lower (y ∷ ys) k)

-- ---- addresses

octets_injective : (a b : List ℕ) → octets_of a ≡ octets_of b → a ≡ b
octets_injective [] [] e = refl
octets_injective [] (y ∷ b) e = cc e
octets_injective (x ∷ a) [] e = cc e
octets_injective (x ∷ a) (y ∷ b) e =
    let high : x / 256 ≡ y / 256 = ap (λ (o : List ℕ). get_or o 0 0) e in
    let low : x % 256 ≡ y % 256 = ap (λ (o : List ℕ). get_or o 1 0) e in
    let first : x ≡ y = omega arith in
    let others = octets_injective a b (ap (drop 2) e) in
    cc

-- the octets of the segments of octets are these octets
octets_back : (n : ℕ) (os : List ℕ) → length os ≡ 2 * n → IsBytes os → octets_of (segments_of os) ≡ os
octets_back zero [] l h = refl
octets_back (suc n) [] l h = absurd (omega arith)
octets_back n (a ∷ []) l h = absurd (omega arith)
octets_back zero (a ∷ b ∷ os) l h = absurd (omega arith)
octets_back (suc n) (a ∷ b ∷ os) l h =
    let low : b < 256 = h 1 in
    let high : (a * 256 + b) / 256 ≡ a = omega arith in
    let rest : (a * 256 + b) % 256 ≡ b = omega arith in
    let more = octets_back n os (omega arith) (λ i. h (suc (suc i))) in
    rw (high, rest, more) refl

-- the IP address of these 16 octets
pub ip_v6 : (octets : List ℕ) (ip : Ipv6Addr) → length octets ≡ 16 → IsBytes octets → ipv6_segments ip ≡ segments_of octets → (octets ≡ ipv6_octets ip) × IsIpInRange (Ip.V6 ip)
ip_v6 octets ip size h e =
    let back : ipv6_octets ip ≡ octets = ap octets_of e ∙ octets_back 8 octets size h in
    (sym back, (ap length back ∙ size, subst IsBytes (sym back) h))

ip_bytes : (ip : IpAddr) → IsIpInRange ip → IsBytes (ip_octets ip)
ip_bytes (Ip.V4 ip) h = h.1
ip_bytes (Ip.V6 ip) h = h.1

ip_some : (ip : IpAddr) → IsIpInRange ip → 0 < length (ip_octets ip)
ip_some (Ip.V4 ip) h = omega (arith, h.0)
ip_some (Ip.V6 ip) h = omega (arith, h.0)

-- an IP address's text is its octets as a field
pub ip_field : (ip : IpAddr) → IsIpInRange ip → ip_text ip ≡ hex_field (ip_octets ip)
unfolding ip_text
ip_field ip h = sym (hex_field_some (ip_octets ip) (ip_some ip h))

-- a text that spells no bytes is no IP address
pub ip_not_read : (digits : List ℕ) → ((bytes : List ℕ) → IsBytes bytes → digits ≢ hex_field bytes) → (ip : IpAddr) → IsIpInRange ip → digits ≢ ip_text ip
ip_not_read digits none ip h e = none (ip_octets ip) (ip_bytes ip h) (e ∙ ip_field ip h)

-- nor is one that spells other bytes
pub ip_other : (digits bytes : List ℕ) → digits ≡ hex_field bytes → IsBytes bytes → ((ip : IpAddr) → IsIpInRange ip → bytes ≢ ip_octets ip) → (ip : IpAddr) → IsIpInRange ip → digits ≢ ip_text ip
ip_other digits bytes e h none ip within is = none ip within (hex_field_injective bytes (ip_octets ip) h (ip_bytes ip within) (sym e ∙ is ∙ ip_field ip within))

pub ip_read : (digits bytes : List ℕ) (ip : IpAddr) → digits ≡ hex_field bytes → bytes ≡ ip_octets ip → IsIpInRange ip → digits ≡ ip_text ip
ip_read digits bytes ip e is h = e ∙ ap hex_field is ∙ sym (ip_field ip h)

Lacks-ip : (b : ℕ) (ip : IpAddr) → b < 48 → IsIpInRange ip → Lacks b (ip_text ip)
unfolding ip_text
Lacks-ip b ip small h = Lacks-hex b (ip_octets ip) small (ip_bytes ip h)

address_parts : (a : SocketAddr) → address_text a ≡ ip_text (socket_ip a) ++ 47 ∷ decimal (socket_port a)
unfolding address_text
address_parts a = simp append_assoc

-- an address's text has hex, a slash and digits alone
pub Lacks-address : (b : ℕ) (a : SocketAddr) → b < 47 → IsAddress a → Lacks b (address_text a)
Lacks-address b a small h =
    rw (address_parts a) (Lacks-append b (ip_text (socket_ip a)) (47 ∷ decimal (socket_port a)) (Lacks-ip b (socket_ip a) (omega arith) h.ip)
    ((λ e. omega (arith, e)), Lacks-decimal b (socket_port a) (omega arith) (omega (arith, h.port))))

-- the address of these parts
pub address_read : (field digits port : List ℕ) (ip : IpAddr) (a : SocketAddr) → field ≡ digits ++ 47 ∷ port → digits ≡ ip_text ip → port ≡ decimal (socket_port a) → socket_ip a ≡ ip → field ≡ address_text a
address_read field digits port ip a e is number same = e ∙ ap (λ (z : List ℕ). z ++ 47 ∷ port) (is ∙ ap ip_text (sym same)) ∙ ap (λ (z : List ℕ). ip_text (socket_ip a) ++ 47 ∷ z) number ∙ sym (address_parts a)

-- the parts of an address's text
pub address_split : (field digits port : List ℕ) (a : SocketAddr) → field ≡ digits ++ 47 ∷ port → Lacks 47 digits → IsAddress a → field ≡ address_text a → (digits ≡ ip_text (socket_ip a)) × (port ≡ decimal (socket_port a))
address_split field digits port a e lacks h is =
    first_split 47 digits (ip_text (socket_ip a)) port (decimal (socket_port a)) lacks (Lacks-ip 47 (socket_ip a) (omega arith) h.ip) (sym e ∙ is ∙ address_parts a)

pub address_no_slash : (field : List ℕ) → Lacks 47 field → (a : SocketAddr) → IsAddress a → field ≢ address_text a
address_no_slash field lacks a h is = no_split 47 field (ip_text (socket_ip a)) (decimal (socket_port a)) lacks (is ∙ address_parts a)

-- an address is told by its octets and its port
ips_same : (a b : IpAddr) → IsIpInRange a → IsIpInRange b → ip_octets a ≡ ip_octets b → a ≡ b
ips_same (Ip.V4 a) (Ip.V4 b) h k o = λ i. Ip.V4 (record { octets = o i })
ips_same (Ip.V4 a) (Ip.V6 b) h k o = absurd (omega (arith, h.0, k.0, ap length o))
ips_same (Ip.V6 a) (Ip.V4 b) h k o = absurd (omega (arith, h.0, k.0, ap length o))
ips_same (Ip.V6 a) (Ip.V6 b) h k o = let segments = octets_injective a.segments b.segments o in λ i. Ip.V6 (record { segments = segments i })

sockets_same : (a b : SocketAddr) → IsAddress a → IsAddress b → ip_octets (socket_ip a) ≡ ip_octets (socket_ip b) → socket_port a ≡ socket_port b → a ≡ b
sockets_same (V4 a) (V4 b) p q o n = λ i. V4 (record { ip = record { octets = o i }; port = n i })
sockets_same (V4 a) (V6 b) p q o n = absurd (omega (arith, p.ip.0, q.ip.0, ap length o))
sockets_same (V6 a) (V4 b) p q o n = absurd (omega (arith, p.ip.0, q.ip.0, ap length o))
sockets_same (V6 a) (V6 b) p q o n =
    let segments = octets_injective a.ip.segments b.ip.segments o in
    let flow : a.flowinfo ≡ b.flowinfo = p.flow ∙ sym q.flow in
    let scope : a.scope_id ≡ b.scope_id = p.scope ∙ sym q.scope in
    λ i. V6 (record { ip = record { segments = segments i }; port = n i; flowinfo = flow i; scope_id = scope i })

pub address_injective : (a b : SocketAddr) → IsAddress a → IsAddress b → address_text a ≡ address_text b → a ≡ b
address_injective a b h k e =
    let parts = first_split 47 (ip_text (socket_ip a)) (ip_text (socket_ip b)) (decimal (socket_port a)) (decimal (socket_port b)) (Lacks-ip 47 (socket_ip a) (omega arith) h.ip) (Lacks-ip 47 (socket_ip b) (omega arith) k.ip)
    (sym (address_parts a) ∙ e ∙ address_parts b) in
    let octets = hex_field_injective (ip_octets (socket_ip a)) (ip_octets (socket_ip b)) (ip_bytes (socket_ip a) h.ip) (ip_bytes (socket_ip b) k.ip) (sym (ip_field (socket_ip a) h.ip) ∙ parts.0 ∙ ip_field (socket_ip b) k.ip) in
    let port = decimal_injective (socket_port a) (socket_port b) (omega (arith, h.port)) (omega (arith, k.port)) parts.1 in
    sockets_same a b h k octets port

-- ---- marks

-- a mark's one digit
abbrev pub mark_digit : Option EcnCodepoint → ℕ
mark_digit None = 45
mark_digit (Some Ect0) = 50
mark_digit (Some Ect1) = 49
mark_digit (Some Ce) = 51

pub ecn_is_digit : (mark : Option EcnCodepoint) → ecn_text mark ≡ mark_digit mark ∷ []
ecn_is_digit None = refl
ecn_is_digit (Some Ect0) = decimal_digit 2 (omega arith)
ecn_is_digit (Some Ect1) = decimal_digit 1 (omega arith)
ecn_is_digit (Some Ce) = decimal_digit 3 (omega arith)

pub Lacks-mark : (b : ℕ) (mark : Option EcnCodepoint) → b < 45 → Lacks b (ecn_text mark)
Lacks-mark b None small = ((λ e. omega (arith, e)), tt)
Lacks-mark b (Some Ect0) small = Lacks-decimal b 2 (omega arith) (omega arith)
Lacks-mark b (Some Ect1) small = Lacks-decimal b 1 (omega arith) (omega arith)
Lacks-mark b (Some Ce) small = Lacks-decimal b 3 (omega arith) (omega arith)

some_digit : (mark : EcnCodepoint) → 48 < mark_digit (Some mark)
some_digit Ect0 = omega arith
some_digit Ect1 = omega arith
some_digit Ce = omega arith

digits_apart : (a b : Option EcnCodepoint) → mark_digit a ≡ mark_digit b → a ≡ b
digits_apart None None e = refl
digits_apart None (Some b) e = absurd (omega (arith, some_digit b, e))
digits_apart (Some a) None e = absurd (omega (arith, some_digit a, e))
digits_apart (Some Ect0) (Some Ect0) e = refl
digits_apart (Some Ect1) (Some Ect1) e = refl
digits_apart (Some Ce) (Some Ce) e = refl
digits_apart (Some _) (Some _) e = absurd (omega (arith, e))

-- a text that is no mark's digit alone
pub mark_other : (digit : ℕ) → (digit ≡ 45 → ⊥) → (digit ≡ 49 → ⊥) → (digit ≡ 50 → ⊥) → (digit ≡ 51 → ⊥) → (mark : Option EcnCodepoint) → digit ∷ [] ≢ ecn_text mark
mark_other digit none one two three mark e = other digit none one two three mark (ap (λ (z : List ℕ). get_or z 0 0) (e ∙ ecn_is_digit mark))
  where
    other : (digit : ℕ) → (digit ≡ 45 → ⊥) → (digit ≡ 49 → ⊥) → (digit ≡ 50 → ⊥) → (digit ≡ 51 → ⊥) → (mark : Option EcnCodepoint) → digit ≡ mark_digit mark → ⊥
    other digit none one two three None e = none e
    other digit none one two three (Some Ect0) e = two e
    other digit none one two three (Some Ect1) e = one e
    other digit none one two three (Some Ce) e = three e

pub mark_injective : (a b : Option EcnCodepoint) → ecn_text a ≡ ecn_text b → a ≡ b
mark_injective a b e = digits_apart a b (ap (λ (z : List ℕ). get_or z 0 0) (sym (ecn_is_digit a) ∙ e ∙ ecn_is_digit b))

-- ---- directions

pub Lacks-dir : (d : Dir) → Lacks 32 (dir_text d)
Lacks-dir Bi = ((λ e. omega (arith, e)), ((λ e. omega (arith, e)), tt))
Lacks-dir Uni = ((λ e. omega (arith, e)), ((λ e. omega (arith, e)), ((λ e. omega (arith, e)), tt)))

pub dir_injective : (a b : Dir) → dir_text a ≡ dir_text b → a ≡ b
dir_injective Bi Bi e = refl
dir_injective Uni Uni e = refl
dir_injective _ _ e = absurd (omega (arith, ap (λ (z : List ℕ). get_or z 0 0) e))

-- a text that is the word of neither
pub dir_other : (field : List ℕ) → field ≢ codes "bi" → field ≢ codes "uni" → (d : Dir) → field ≢ dir_text d
dir_other field bi uni Bi e = bi e
dir_other field bi uni Uni e = uni e

-- one in front of a space
pub dir_split : (a b : Dir) (r s : List ℕ) → dir_text a ++ 32 ∷ r ≡ dir_text b ++ 32 ∷ s → (a ≡ b) × (r ≡ s)
dir_split a b r s e =
    let parts = first_split 32 (dir_text a) (dir_text b) r s (Lacks-dir a) (Lacks-dir b) e in
    (dir_injective a b parts.0, parts.1)

-- a text without a space, or with another field in front of it
pub dir_no_split : (text : List ℕ) → Lacks 32 text → (d : Dir) (rest : List ℕ) → text ≢ dir_text d ++ 32 ∷ rest
dir_no_split text lacks d rest e = no_split 32 text (dir_text d) rest lacks e

pub dir_no_word : (text field more : List ℕ) → text ≡ field ++ 32 ∷ more → Lacks 32 field → ((d : Dir) → field ≢ dir_text d) → (d : Dir) (rest : List ℕ) → text ≢ dir_text d ++ 32 ∷ rest
dir_no_word text field more e lacks none d rest h = none d (first_split 32 field (dir_text d) more rest lacks (Lacks-dir d) (sym e ∙ h)).0

-- ---- a number in front of a space

-- a text begins with one number, and has one rest
pub begins_same : (bound : ℕ) (text : List ℕ) (m : ℕ) (r : List ℕ) (n : ℕ) (s : List ℕ) → bound ≤ 2 ^ 64 → Begins bound text m r → Begins bound text n s → (m ≡ n) × (r ≡ s)
begins_same bound text m r n s le h k =
    let first : m < 2 ^ 64 = omega (arith, h.small, le) in
    let second : n < 2 ^ 64 = omega (arith, k.small, le) in
    let parts = first_split 32 (decimal m) (decimal n) r s (Lacks-decimal 32 m (omega arith) first) (Lacks-decimal 32 n (omega arith) second) (sym h.spelled ∙ k.spelled) in
    (decimal_injective m n first second parts.0, parts.1)

-- a text without a space, or with another field in front of it
pub begins_no_split : (bound : ℕ) (text : List ℕ) → Lacks 32 text → (n : ℕ) (rest : List ℕ) → Begins bound text n rest → ⊥
begins_no_split bound text lacks n rest h = no_split 32 text (decimal n) rest lacks h.spelled

pub begins_no_number : (bound : ℕ) (text digits more : List ℕ) → bound ≤ 2 ^ 64 → text ≡ digits ++ 32 ∷ more → Lacks 32 digits → ((n : ℕ) → n < bound → digits ≢ decimal n) → (n : ℕ) (rest : List ℕ) → Begins bound text n rest → ⊥
begins_no_number bound text digits more le e lacks none n rest h =
    none n h.small (first_split 32 digits (decimal n) more rest lacks (Lacks-decimal 32 n (omega arith) (omega (arith, h.small, le))) (sym e ∙ h.spelled)).0

-- what is said of a text, where another one is the same
pub begins_at : {bound : ℕ} {text other : List ℕ} {n : ℕ} {rest : List ℕ} → text ≡ other → Begins bound other n rest → Begins bound text n rest
begins_at e h = record { spelled = e ∙ h.spelled; small = h.small }

pub begins_read : (bound : ℕ) (text digits rest : List ℕ) (n : ℕ) → text ≡ digits ++ 32 ∷ rest → digits ≡ decimal n → n < bound → Begins bound text n rest
begins_read bound text digits rest n e number small = record { spelled = e ∙ ap (λ (z : List ℕ). z ++ 32 ∷ rest) number; small = small }

-- ---- four fields

pub fields_same : (text a b c d a' b' c' d' : List ℕ) → AreFields text a b c d → AreFields text a' b' c' d' → (a ≡ a') × (b ≡ b') × (c ≡ c') × (d ≡ d')
fields_same text a b c d a' b' c' d' h k =
    let one = first_split 32 a a' (b ++ 32 ∷ (c ++ 32 ∷ d)) (b' ++ 32 ∷ (c' ++ 32 ∷ d')) h.first k.first (sym h.spelled ∙ k.spelled) in
    let two = first_split 32 b b' (c ++ 32 ∷ d) (c' ++ 32 ∷ d') h.second k.second one.1 in
    let three = first_split 32 c c' d d' h.third k.third two.1 in
    (one.0, two.0, three.0, three.1)

-- a text without its first, its second or its third space
pub no_first : (text : List ℕ) → Lacks 32 text → (a b c d : List ℕ) → AreFields text a b c d → ⊥
no_first text lacks a b c d h = no_split 32 text a (b ++ 32 ∷ (c ++ 32 ∷ d)) lacks h.spelled

pub no_second : (text x rest : List ℕ) → text ≡ x ++ 32 ∷ rest → Lacks 32 x → Lacks 32 rest → (a b c d : List ℕ) → AreFields text a b c d → ⊥
no_second text x rest e lacks none a b c d h =
    let one = first_split 32 x a rest (b ++ 32 ∷ (c ++ 32 ∷ d)) lacks h.first (sym e ∙ h.spelled) in
    no_split 32 rest b (c ++ 32 ∷ d) none one.1

pub no_third : (text x y rest rest' : List ℕ) → text ≡ x ++ 32 ∷ rest → Lacks 32 x → rest ≡ y ++ 32 ∷ rest' → Lacks 32 y → Lacks 32 rest' → (a b c d : List ℕ) → AreFields text a b c d → ⊥
no_third text x y rest rest' e lacks f lacks' none a b c d h =
    let one = first_split 32 x a rest (b ++ 32 ∷ (c ++ 32 ∷ d)) lacks h.first (sym e ∙ h.spelled) in
    let two = first_split 32 y b rest' (c ++ 32 ∷ d) lacks' h.second (sym f ∙ one.1) in
    no_split 32 rest' c d none two.1

pub fields_read : (text a b c d rest rest' : List ℕ) → text ≡ a ++ 32 ∷ rest → Lacks 32 a → rest ≡ b ++ 32 ∷ rest' → Lacks 32 b → rest' ≡ c ++ 32 ∷ d → Lacks 32 c → AreFields text a b c d
fields_read text a b c d rest rest' e first f second g third = record {
  spelled = e ∙ ap (λ (z : List ℕ). a ++ 32 ∷ z) (f ∙ ap (λ (z : List ℕ). b ++ 32 ∷ z) g);
  first = first;
  second = second;
  third = third;
}
