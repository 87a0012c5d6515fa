-- What is read as a token is what the grammar says, and what is written is spelled by it
use Rattle.std.proofs.Common.{◌≡◌, ℕ, ◌+◌, ◌*◌, ◌/◌, ◌%◌, ◌<◌, ◌≤◌, ◌^◌, inl, inr, ◌==◌, suc, zero, Bool, true, false, List, [], ◌∷◌, ◌++◌, length, Some, Result, Ok, Err, nat_eq, nat_lt, arith, refl, ap, subst, sym, ◌∙◌, if◌then◌else◌, append_assoc, append-nil}
use Rattle.std.proofs.lemmas.Bool.Decides.{nat_tests}
use Rattle.std.proofs.lemmas.Nat.{be_bytes_2, from_be_bytes-to_be_bytes_2}
use Rattle.std.specs.Int.{to_be_bytes, from_be_bytes, w16, w64}
use Rattle.std.specs.Net.Addr.{ipv4_octets, ipv6_segments, ipv6_octets, segments_of, octets_of}
use Rattle.std.specs.Net.Socket.{socket_ip, socket_port, socket_flowinfo, socket_scope_id}
use Rattle.std.specs.declared.net.ip_addr.IpAddr.{IpAddr}
use Rattle.std.specs.declared.net.ip_addr.IpAddr.TheVariants as Ip
use Rattle.std.specs.declared.net.socket_addr.SocketAddr.{SocketAddr}
use Rattle.std.specs.declared.net.socket_addr.SocketAddr.TheVariants as Socket
use Rattle.qc_base.specs.Reading.{Reader}
use Rattle.qc_base.specs.Grammar.{Spelling, ◌>>=◌, Is, Bytes, Byte, IsBytes}
use Rattle.qc_base.specs.declared.reading.Cut.{Cut}
use Rattle.qc_base.proofs.Exact.{Exact, Tests, exact_then, exact_or, exact_give, exact_where, found_byte, found_bytes}
use Rattle.qc_base.proofs.Varints.{front_bytes}
use Rattle.qc_base.proofs.Words.{IsWord, found_word, word_64}
use Rattle.qc_token.specs.declared.token.TokenPayload.{TokenPayload}
use Rattle.qc_token.specs.declared.token.TokenPayload.TheVariants.{Retry, Validation}
use Rattle.qc_token.specs.TokenGrammar.{IpText, TimeText, RetryText, ValidationText, PayloadText, IsPayloadText, socket_of}
use Rattle.qc_token.specs.TokenReading.{cut, v4_at, v6_at, ip_at, time_at, retry_at, validation_at, payload_at, all_read, payload_of}
use Rattle.qc_token.specs.TokenSpelling.{ip_bytes, time_bytes, payload_bytes, IsWholeTime, IsIp, IsWhole}

-- ---- octets and segments

segments_back : (ss : List ℕ) → segments_of (octets_of ss) ≡ ss
segments_back [] = refl
segments_back (s ∷ ss) = let same : s / 256 * 256 + s % 256 ≡ s = omega arith in rw (same, segments_back ss) refl

length-octets : (ss : List ℕ) → length (octets_of ss) ≡ 2 * length ss
length-octets [] = refl
length-octets (s ∷ ss) = omega (arith, length-octets ss)

tail_bytes : (b : ℕ) (bs : List ℕ) → IsBytes (b ∷ bs) → IsBytes bs
tail_bytes b bs h = λ i. h (suc i)

octets_back : (n : ℕ) (os : List ℕ) → length os ≡ 2 * n → IsBytes os → (octets_of (segments_of os) ≡ os) × (length (segments_of os) ≡ n)
octets_back zero [] l h = (refl, refl)
octets_back (suc n) [] l h = absurd (omega arith)
octets_back n (a ∷ []) l h = absurd (omega arith)
octets_back zero (a ∷ b ∷ os) l h = absurd (omega arith)
octets_back (suc n) (a ∷ b ∷ os) l h =
    let low : b < 256 = h 1 in
    let high : (a * 256 + b) / 256 ≡ a = omega arith in
    let rest : (a * 256 + b) % 256 ≡ b = omega arith in
    let more = octets_back n os (omega arith) (tail_bytes b os (tail_bytes a (b ∷ os) h)) in
    (rw (high, rest, more.0) refl, omega (arith, more.1))

-- ---- the readers are exact

none_exact : {E X : Type 0} (e : E) → Exact {X = X} (λ a. Err e) (λ x a z. ⊥)
none_exact e = record { takes = λ a x z h is. cc; again = λ a x z g. absurd g; ends = λ a x z is. cc }

word_16 : IsWord w16
word_16 = record {
  value = λ n h. from_be_bytes-to_be_bytes_2 n h;
  size = λ n. refl;
  small = λ x b. let b0 = b 0 in let b1 = b 1 in omega arith;
  back = λ x l b. be_bytes_2 x (from_be_bytes w16 x) l b refl;
}

abbrev V4Text : Spelling IpAddr
V4Text = Bytes 4 >>= λ octets. Is (Ip.V4 (record { octets = octets }))

abbrev V6Text : Spelling IpAddr
V6Text = Bytes 16 >>= λ octets. Is (Ip.V6 (record { segments = segments_of octets }))

-- what stands behind a kind byte: the first kind, the second, or nothing that is allowed
abbrev Behind : {X : Type 0} → Spelling X → Spelling X → Bool → Bool → Spelling X
Behind S T true q = S
Behind S T false true = T
Behind S T false false = λ x a z. ⊥

behind_exact : {E X : Type 0} {r s : Reader E X} {S T : Spelling X} (e : E) (p q : Bool) → Exact r S → Exact s T → Exact (if p then r else if q then s else (λ _. Err e)) (Behind S T p q)
behind_exact e true q one two = one
behind_exact e false true one two = two
behind_exact e false false one two = none_exact e

v4_exact : Exact v4_at V4Text
v4_exact = exact_then (exact_or cut (found_bytes 4)) (λ octets. exact_give (Ip.V4 (record { octets = octets })))

v6_exact : Exact v6_at V6Text
v6_exact = exact_then (exact_or cut (found_bytes 16)) (λ octets. exact_give (Ip.V6 (record { segments = segments_of octets })))

abbrev KindText : Spelling IpAddr
KindText = Byte >>= λ kind. Behind V4Text V6Text (kind == 0) (kind == 1)

kind_exact : Exact ip_at KindText
unfolding ip_at
kind_exact = exact_then (exact_or cut found_byte) (λ kind. behind_exact cut (kind == 0) (kind == 1) v4_exact v6_exact)

ip_from : (a : List ℕ) (ip : IpAddr) (z : List ℕ) (kind : ℕ) (b : List ℕ) (p q : Bool) → nat_eq kind 0 ≡ p → nat_eq kind 1 ≡ q → IsBytes a → a ≡ kind ∷ b
    → Behind V4Text V6Text p q ip b z → IpText ip a z
ip_from a ip z kind b true q e f h split g =
    let zero_kind : kind ≡ 0 = grind (arith, nat_tests) in
    rw (g.3.0, g.3.1) (g.2.0, split ∙ (ap (λ (k : ℕ). k ∷ b) zero_kind ∙ ap (λ (s : List ℕ). 0 ∷ s) g.2.1))
ip_from a ip z kind b false true e f h split g =
    let one_kind : kind ≡ 1 = grind (arith, nat_tests) in
    let bytes : IsBytes (g.0 ++ g.1) = subst (λ (s : List ℕ). IsBytes s) g.2.1 (tail_bytes kind b (subst (λ (s : List ℕ). IsBytes s) split h)) in
    let octets : IsBytes g.0 = front_bytes g.0 g.1 bytes in
    let back = octets_back 8 g.0 g.2.0 octets in
    rw (g.3.0, g.3.1) (back.1, split ∙ (ap (λ (k : ℕ). k ∷ b) one_kind ∙ (ap (λ (s : List ℕ). 1 ∷ s) g.2.1 ∙ ap (λ (s : List ℕ). 1 ∷ (s ++ g.1)) (sym back.0))))
ip_from a ip z kind b false false e f h split g = absurd g

ip_back : (ip : IpAddr) (a z : List ℕ) → IpText ip a z → KindText ip a z
ip_back (Ip.V4 ip) a z g = (0, ipv4_octets ip ++ z, g.1, (ipv4_octets ip, z, (g.0, refl), (refl, refl)))
ip_back (Ip.V6 ip) a z g =
    let size : length (ipv6_octets ip) ≡ 16 = omega (arith, length-octets (ipv6_segments ip), g.0) in
    (1, ipv6_octets ip ++ z, g.1, (ipv6_octets ip, z, (size, refl), (ap (λ (s : List ℕ). Ip.V6 (record { segments = s })) (sym (segments_back (ipv6_segments ip))), refl)))

ip_exact : Exact ip_at IpText
ip_exact = record {
  takes = λ a ip z h e. let g = kind_exact.takes a ip z h e in ip_from a ip z g.0 g.1 (nat_eq g.0 0) (nat_eq g.0 1) refl refl h g.2 g.3;
  again = λ a ip z g. kind_exact.again a ip z (ip_back ip a z g);
  ends = kind_exact.ends;
}

time_fits : (n : ℕ) → Tests (nat_lt 18446744073709551615 n) (n < 2 ^ 64)
time_fits n = record { passes = λ t. grind (arith, nat_tests); fails = λ l. grind (arith, nat_tests) }

time_exact : Exact time_at TimeText
unfolding time_at
time_exact = exact_then (exact_or cut (found_word w64 word_64)) (λ s. exact_where cut (time_fits (s * 1000000000)) (exact_give (s * 1000000000)))

short_enough : (n : ℕ) → Tests (nat_lt 20 n) (n ≤ 20)
short_enough n = record { passes = λ t. grind (arith, nat_tests); fails = λ l. grind (arith, nat_tests) }

retry_exact : Exact retry_at RetryText
unfolding retry_at
retry_exact =
    exact_then ip_exact (λ ip. exact_then (exact_or cut (found_word w16 word_16)) (λ port. exact_then (exact_or cut found_byte) (λ len.
    exact_where cut (short_enough len) (exact_then (exact_or cut (found_bytes len)) (λ id. exact_then time_exact (λ issued.
    exact_give (Retry (socket_of ip port) id issued)))))))

validation_exact : Exact validation_at ValidationText
unfolding validation_at
validation_exact = exact_then ip_exact (λ ip. exact_then time_exact (λ issued. exact_give (Validation ip issued)))

abbrev TypeText : Spelling TokenPayload
TypeText = Byte >>= λ kind. Behind RetryText ValidationText (kind == 0) (kind == 1)

type_exact : Exact payload_at TypeText
unfolding payload_at
type_exact = exact_then (exact_or cut found_byte) (λ kind. behind_exact cut (kind == 0) (kind == 1) retry_exact validation_exact)

payload_from : (a : List ℕ) (p : TokenPayload) (z : List ℕ) (kind : ℕ) (b : List ℕ) (t u : Bool) → nat_eq kind 0 ≡ t → nat_eq kind 1 ≡ u → a ≡ kind ∷ b
    → Behind RetryText ValidationText t u p b z → PayloadText p a z
payload_from a p z kind b true u e f split g = let is : kind ≡ 0 = grind (arith, nat_tests) in inl (b, split ∙ ap (λ (k : ℕ). k ∷ b) is, g)
payload_from a p z kind b false true e f split g = let is : kind ≡ 1 = grind (arith, nat_tests) in inr (b, split ∙ ap (λ (k : ℕ). k ∷ b) is, g)
payload_from a p z kind b false false e f split g = absurd g

payload_back : (p : TokenPayload) (a z : List ℕ) → PayloadText p a z → TypeText p a z
payload_back p a z (inl g) = (0, g.0, g.1, g.2)
payload_back p a z (inr g) = (1, g.0, g.1, g.2)

-- ---- whole tokens

all_steps : (r : Result (TokenPayload × List ℕ) Cut) (p : TokenPayload) → all_read r ≡ Some p → r ≡ Ok (p, [])
all_steps (Ok (q, [])) p e = let same : q ≡ p = cc in rw same refl
all_steps (Ok (q, b ∷ bytes)) p e = cc
all_steps (Err f) p e = cc

pub payload_takes : (a : List ℕ) (p : TokenPayload) → IsBytes a → payload_of a ≡ Some p → IsPayloadText p a
unfolding payload_of IsPayloadText
payload_takes a p h e =
    let g = type_exact.takes a p [] h (all_steps (payload_at a) p e) in
    payload_from a p [] g.0 g.1 (nat_eq g.0 0) (nat_eq g.0 1) refl refl g.2 g.3

pub payload_again : (a : List ℕ) (p : TokenPayload) → IsPayloadText p a → payload_of a ≡ Some p
unfolding payload_of IsPayloadText
payload_again a p g = ap all_read (type_exact.again a p [] (payload_back p a [] g))

-- ---- what is written

ip_spelled : (ip : IpAddr) (z : List ℕ) → IsIp ip → IpText ip (ip_bytes ip ++ z) z
unfolding ip_bytes
ip_spelled (Ip.V4 ip) z h = (h, refl)
ip_spelled (Ip.V6 ip) z h = (h, refl)

time_spelled : (t : ℕ) (z : List ℕ) → IsWholeTime t → TimeText t (time_bytes t ++ z) z
unfolding time_bytes
time_spelled t z h =
    let whole = h.0 in let fits = h.1 in
    let back : t ≡ t / 1000000000 * 1000000000 = omega arith in
    (t / 1000000000, z, (omega arith, refl), (omega arith, (back, refl)))

retry_parts : (address : SocketAddr) (id : List ℕ) (issued : ℕ) → payload_bytes (Retry address id issued)
    ≡ 0 ∷ (ip_bytes (socket_ip address) ++ (to_be_bytes w16 (socket_port address) ++ (length id ∷ (id ++ (time_bytes issued ++ [])))))
unfolding payload_bytes
retry_parts address id issued = simp (append_assoc, append-nil) refl

validation_parts : (ip : IpAddr) (issued : ℕ) → payload_bytes (Validation ip issued) ≡ 1 ∷ (ip_bytes ip ++ (time_bytes issued ++ []))
unfolding payload_bytes
validation_parts ip issued = simp append-nil refl

socket_back : (address : SocketAddr) → socket_flowinfo address ≡ 0 → socket_scope_id address ≡ 0 → address ≡ socket_of (socket_ip address) (socket_port address)
socket_back (Socket.V4 a) f s = refl
socket_back (Socket.V6 a) f s = ap (λ (n : ℕ). Socket.V6 (record { ip = a.ip; port = a.port; flowinfo = n; scope_id = a.scope_id })) f
    ∙ ap (λ (n : ℕ). Socket.V6 (record { ip = a.ip; port = a.port; flowinfo = 0; scope_id = n })) s

pub payload_spelled : (p : TokenPayload) → IsWhole p → IsPayloadText p (payload_bytes p)
unfolding IsPayloadText
payload_spelled (Retry address id issued) h =
    let b = ip_bytes (socket_ip address) ++ (to_be_bytes w16 (socket_port address) ++ (length id ∷ (id ++ (time_bytes issued ++ [])))) in
    let port : socket_port address < 65536 = h.1 in
    inl (
      b,
      retry_parts address id issued,
      (
        socket_ip address,
        to_be_bytes w16 (socket_port address) ++ (length id ∷ (id ++ (time_bytes issued ++ []))),
        ip_spelled (socket_ip address) _ h.0,
        (
          socket_port address,
          length id ∷ (id ++ (time_bytes issued ++ [])),
          (port, refl),
          (
            length id,
            id ++ (time_bytes issued ++ []),
            refl,
            (h.4, (id, time_bytes issued ++ [], (refl, refl), (issued, [], time_spelled issued [] h.5, (ap (λ (s : SocketAddr). Retry s id issued) (socket_back address h.2 h.3), refl)))),
          ),
        ),
      ),
    )
payload_spelled (Validation ip issued) h =
    inr (ip_bytes ip ++ (time_bytes issued ++ []), validation_parts ip issued, (ip, time_bytes issued ++ [], ip_spelled ip (time_bytes issued ++ []) h.0, (issued, [], time_spelled issued [] h.1, (refl, refl))))
