-- Tokens come back
use Rattle.std.proofs.Common.{◌≡◌, ℕ, ◌+◌, ◌-◌, ◌*◌, ◌/◌, ◌%◌, ◌<◌, ◌^◌, false, List, [], ◌++◌, length, take, drop, Option, Some, None, IfSome, nat_lt, arith, refl, ap, subst, sym, ◌∙◌}
use Rattle.std.proofs.lemmas.Bool.Decides.{nat_tests}
use Rattle.std.proofs.lemmas.List.{take_at, drop_at, length-append, length-take-le, length-drop, take-append-drop}
use Rattle.std.proofs.lemmas.Nat.{le_bytes_8, from_le_bytes-to_le_bytes_8}
use Rattle.std.specs.Int.{to_le_bytes, from_le_bytes, w64}
use Rattle.std.specs.Option.{option_map, option_and_then}
use Rattle.qc_base.specs.Grammar.{IsBytes}
use Rattle.qc_base.proofs.Front.{behind_bytes}
use Rattle.qc_base.proofs.Varints.{front_bytes}
use Rattle.qc_token.specs.declared.token.Token.{Token}
use Rattle.qc_token.specs.declared.token.TokenPayload.{TokenPayload}
use Rattle.qc_token.specs.Nonce.{nonce_bytes, nonce_of}
use Rattle.qc_token.specs.TokenGrammar.{IsPayloadText}
use Rattle.qc_token.specs.TokenReading.{payload_of}
use Rattle.qc_token.specs.TokenSpelling.{payload_bytes, IsWhole}
use Rattle.qc_token.specs.Tokens.{IsOnlySealed, IsOnlyToken, IsSealedText, IsTokenText, decoded, sealed_token, token_bytes}
use Rattle.qc_token.proofs.Payloads.{payload_again, payload_spelled, payload_takes}

-- ---- nonces

pub length-nonce_bytes : (n : ℕ) → length (nonce_bytes n) ≡ 16
unfolding nonce_bytes
length-nonce_bytes n = refl

pub nonce_back : (n : ℕ) → n < 2 ^ 128 → nonce_of (nonce_bytes n) ≡ n
unfolding nonce_of nonce_bytes
nonce_back n h =
    let low = to_le_bytes w64 (n % 2 ^ 64) in
    let high = to_le_bytes w64 (n / 2 ^ 64) in
    let l : from_le_bytes w64 (to_le_bytes w64 (n % 2 ^ 64)) ≡ n % 2 ^ 64 = from_le_bytes-to_le_bytes_8 (n % 2 ^ 64) (omega arith) in
    let u : from_le_bytes w64 (to_le_bytes w64 (n / 2 ^ 64)) ≡ n / 2 ^ 64 = from_le_bytes-to_le_bytes_8 (n / 2 ^ 64) (omega arith) in
    omega (arith, l, u)

halves : (l u : ℕ) → l < 2 ^ 64 → ((l + 2 ^ 64 * u) % 2 ^ 64 ≡ l) × ((l + 2 ^ 64 * u) / 2 ^ 64 ≡ u)
halves l u h = (omega arith, omega arith)

bytes_of_halves : (l u : ℕ) → l < 2 ^ 64 → nonce_bytes (l + 2 ^ 64 * u) ≡ to_le_bytes w64 l ++ to_le_bytes w64 u
unfolding nonce_bytes
bytes_of_halves l u h =
    ap (λ (k : ℕ). to_le_bytes w64 k ++ to_le_bytes w64 ((l + 2 ^ 64 * u) / 2 ^ 64)) (halves l u h).0
    ∙ ap (λ (k : ℕ). to_le_bytes w64 l ++ to_le_bytes w64 k) (halves l u h).1

small : (x : List ℕ) → IsBytes x → from_le_bytes w64 x < 2 ^ 64
small x b = let b0 = b 0 in let b1 = b 1 in let b2 = b 2 in let b3 = b 3 in let b4 = b 4 in let b5 = b 5 in let b6 = b 6 in let b7 = b 7 in omega arith

both_halves : (l h : List ℕ) → length l ≡ 8 → length h ≡ 8 → IsBytes l → IsBytes h
    → (nonce_bytes (from_le_bytes w64 l + 2 ^ 64 * from_le_bytes w64 h) ≡ l ++ h) × (from_le_bytes w64 l + 2 ^ 64 * from_le_bytes w64 h < 2 ^ 128)
both_halves l h a b c d =
    let low = small l c in
    let high = small h d in (
      bytes_of_halves (from_le_bytes w64 l) (from_le_bytes w64 h) low
          ∙ (ap (λ (s : List ℕ). s ++ to_le_bytes w64 (from_le_bytes w64 h)) (le_bytes_8 l (from_le_bytes w64 l) a c refl)
          ∙ ap (λ (s : List ℕ). l ++ s) (le_bytes_8 h (from_le_bytes w64 h) b d refl)),
      omega arith,
    )

pub bytes_back : (b : List ℕ) → length b ≡ 16 → IsBytes b → (nonce_bytes (nonce_of b) ≡ b) × (nonce_of b < 2 ^ 128)
unfolding nonce_of
bytes_back b len bytes =
    let parts : IsBytes (take 8 b ++ drop 8 b) = subst (λ (s : List ℕ). IsBytes s) (sym (take-append-drop 8 b)) bytes in
    let both = both_halves (take 8 b) (drop 8 b) (length-take-le 8 b (omega arith)) (omega (arith, length-drop 8 b)) (front_bytes (take 8 b) (drop 8 b) parts) (behind_bytes (take 8 b) (drop 8 b) parts) in
    (both.0 ∙ take-append-drop 8 b, both.1)

-- ---- plain bytes that are sealed

pub found_payload : (bytes : List ℕ) (r : Option TokenPayload) → IsBytes bytes → r ≡ payload_of bytes → IfSome r (λ p. IsPayloadText p bytes)
found_payload bytes None h e = tt
found_payload bytes (Some p) h e = payload_takes bytes p h (sym e)

module _ (sealing : List ℕ → List ℕ) (opening : List ℕ → Option (List ℕ)) where
  -- what was sealed opens to itself, so nothing else does
  pub only_sealed : ((plain : List ℕ) → opening (sealing plain) ≡ Some plain) → (body : List ℕ) → IsOnlySealed sealing body (option_and_then payload_of (opening body))
  unfolding IsOnlySealed IsSealedText
  only_sealed law body p (plain, text, is) = rw (is, law plain) (payload_again plain p text)

  pub found_sealed : ((cipher plain : List ℕ) → opening cipher ≡ Some plain → cipher ≡ sealing plain) → (body plain : List ℕ) (r : Option TokenPayload)
      → opening body ≡ Some plain → IfSome r (λ p. IsPayloadText p plain) → IfSome r (IsSealedText sealing body)
  unfolding IsSealedText
  found_sealed law body plain None o h = tt
  found_sealed law body plain (Some p) o h = (plain, h, law body plain o)

-- ---- tokens

not_short : (s n : List ℕ) → length n ≡ 16 → nat_lt (length (s ++ n)) 16 ≡ false
not_short s n h = let all = length-append s n in grind (arith, nat_tests)

module _ {A : Type 0} (sealed : A → List ℕ → List ℕ → List ℕ) (derived : List ℕ → A) where
  pub found_token : (raw body nonce : List ℕ) (p : TokenPayload) → raw ≡ body ++ nonce → length nonce ≡ 16 → IsBytes nonce → IsSealedText (sealed (derived nonce) []) body p
      → IsTokenText sealed derived (record { payload = p; nonce = nonce_of nonce }) raw
  unfolding IsTokenText IsSealedText sealed_token
  found_token raw body nonce p split len bytes (plain, text, is) =
      let back = bytes_back nonce len bytes in
      (plain, text, back.1, rw back.0 (split ∙ ap (λ (s : List ℕ). s ++ nonce) is))

  pub only_token : (raw body nonce : List ℕ) (r : Option TokenPayload) → raw ≡ body ++ nonce → length nonce ≡ 16 → IsOnlySealed (sealed (derived nonce) []) body r
      → IsOnlyToken sealed derived raw (option_map (λ p. record { payload = p; nonce = nonce_of nonce }) r)
  unfolding IsOnlyToken IsTokenText IsOnlySealed IsSealedText sealed_token
  only_token raw body nonce r split len only t (plain, text, below, is) =
      let s = sealed (derived (nonce_bytes t.nonce)) [] plain in
      let same : body ++ nonce ≡ s ++ nonce_bytes t.nonce = sym split ∙ is in
      let sizes : length body ≡ length s = omega (arith, ap length same, length-append body nonce, length-append (sealed (derived (nonce_bytes t.nonce)) [] plain) (nonce_bytes t.nonce), length-nonce_bytes t.nonce) in
      let front : body ≡ s = sym (take_at body nonce (length s) sizes) ∙ (ap (take (length s)) same ∙ take_at s (nonce_bytes t.nonce) (length s) refl) in
      let back : nonce ≡ nonce_bytes t.nonce = sym (drop_at body nonce (length s) sizes) ∙ (ap (drop (length s)) same ∙ drop_at s (nonce_bytes t.nonce) (length s) refl) in
      let found : r ≡ Some t.payload = only t.payload (plain, text, front ∙ ap (λ (k : List ℕ). sealed (derived k) [] plain) (sym back)) in
      rw (found, back, nonce_back t.nonce below) refl

  pub short_token : (raw : List ℕ) → length raw < 16 → IsOnlyToken sealed derived raw None
  unfolding IsOnlyToken IsTokenText sealed_token
  short_token raw short t (plain, text, below, is) =
      absurd (omega (arith, ap length is, length-append (sealed (derived (nonce_bytes t.nonce)) [] plain) (nonce_bytes t.nonce), length-nonce_bytes t.nonce))

  -- a token of whole seconds is what its bytes say
  pub token_spelled : (t : Token) → IsWhole t.payload → t.nonce < 2 ^ 128 → IsTokenText sealed derived t (token_bytes sealed derived t)
  unfolding IsTokenText token_bytes
  token_spelled t whole below = (payload_bytes t.payload, payload_spelled t.payload whole, below, refl)

  pub token_back : (opened : A → List ℕ → List ℕ → Option (List ℕ)) → ((key : A) (additional plain : List ℕ) → opened key additional (sealed key additional plain) ≡ Some plain)
      → (t : Token) → IsWhole t.payload → t.nonce < 2 ^ 128 → decoded opened derived (token_bytes sealed derived t) ≡ Some t
  unfolding decoded token_bytes sealed_token
  token_back opened law t whole below =
      let s = sealed (derived (nonce_bytes t.nonce)) [] (payload_bytes t.payload) in
      let size : length (s ++ nonce_bytes t.nonce) - 16 ≡ length s = omega (arith, length-append (sealed (derived (nonce_bytes t.nonce)) [] (payload_bytes t.payload)) (nonce_bytes t.nonce), length-nonce_bytes t.nonce) in
      let long : nat_lt (length (s ++ nonce_bytes t.nonce)) 16 ≡ false = not_short s (nonce_bytes t.nonce) (length-nonce_bytes t.nonce) in
      rw (
        long,
        size,
        take_at s (nonce_bytes t.nonce) (length s) refl,
        drop_at s (nonce_bytes t.nonce) (length s) refl,
        law (derived (nonce_bytes t.nonce)) [] (payload_bytes t.payload),
        payload_again (payload_bytes t.payload) t.payload (payload_spelled t.payload whole),
        nonce_back t.nonce below,
      )
      refl
