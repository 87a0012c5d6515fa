-- The fixed bit of a first byte, where a reader takes packets without it
use Rattle.std.proofs.Common.{◌≡◌, ◌≢◌, ℕ, ◌-◌, ◌/◌, ◌%◌, ◌<◌, ◌≤◌, ◌==◌, inr, cond, Bool, true, false, List, ◌∷◌, nat_lt, Some, None, Result, Ok, Err, refl, ap, sym, ◌∙◌, arith}
use Rattle.std.proofs.lemmas.Bool.Decides.{nat_tests}
use Rattle.std.specs.Int.{w32}
use Rattle.std.specs.List.{list_any}
use Rattle.std.specs.Prelude.{not}
use Rattle.qc_base.specs.Reading.{Reader, read_on, give, refuse, word_of}
use Rattle.qc_header.specs.HeaderReading.{Heading, field, id_of, typed_at, long_at, short_at, header_at}
use Rattle.qc_header.specs.declared.protected.PacketDecodeError.{PacketDecodeError}
use Rattle.qc_header.specs.declared.protected.PacketDecodeError.TheVariants.{InvalidHeader, UnsupportedVersion}
use Rattle.qc_header.specs.declared.protected.ProtectedHeader.TheVariants.{VersionNegotiate}
use Rattle.qc_header.proofs.Readings.{was_some}
use Rattle.qc_header.proofs.ReadHeaders.{fixed_let, zero_first}

-- readings that go on alike are alike
read_same : {E X Y : Type 0} (r : Result (X × List ℕ) E) (f g : X → Reader E Y) → ((x : X) (rest : List ℕ) → r ≡ Ok (x, rest) → f x rest ≡ g x rest) → read_on r f ≡ read_on r g
read_same (Ok x) f g same = same x.0 x.1 refl
read_same (Err e) f g same = refl

short_same : (k first : ℕ) (bytes : List ℕ) → first / 64 % 2 ≡ 1 → short_at k (first - 64) bytes ≡ short_at k first bytes
unfolding short_at
short_same k first bytes fixed = let same : (first - 64) / 32 % 2 ≡ first / 32 % 2 = omega arith in rw same refl

typed_same : (size first : ℕ) (dst src : List ℕ) (v : ℕ) (bytes : List ℕ) → first / 64 % 2 ≡ 1 → typed_at size (first - 64) dst src v bytes ≡ typed_at size first dst src v bytes
unfolding typed_at
typed_same size first dst src v bytes fixed = let same : (first - 64) / 16 % 4 ≡ first / 16 % 4 = omega arith in rw same refl

-- behind the ids of a packet whose version isn't 0
versioned_same : (size first : ℕ) (dst src : List ℕ) (v : ℕ) (unknown zero : Bool) (bytes : List ℕ) → first / 64 % 2 ≡ 1 → zero ≡ false
    → cond zero (give (VersionNegotiate ((first - 64) % 128) src dst, None)) (refuse unknown (UnsupportedVersion src dst v) (typed_at size (first - 64) dst src v)) bytes
    ≡ cond zero (give (VersionNegotiate (first % 128) src dst, None)) (refuse unknown (UnsupportedVersion src dst v) (typed_at size first dst src v)) bytes
versioned_same size first dst src v unknown true bytes fixed e = cc
versioned_same size first dst src v unknown false bytes fixed e =
    ap (λ (r : Result (Heading × List ℕ) PacketDecodeError). cond unknown (Err (UnsupportedVersion src dst v)) r) (typed_same size first dst src v bytes fixed)

not_zero : (v : ℕ) → v ≢ 0 → (v == 0) ≡ false
not_zero v h = grind (arith, nat_tests)

long_same : (size first : ℕ) (versions bytes : List ℕ) → first / 64 % 2 ≡ 1 → ((rest : List ℕ) → word_of w32 bytes ≢ Some (0, rest))
    → long_at size versions (first - 64) bytes ≡ long_at size versions first bytes
unfolding long_at
long_same size first versions bytes fixed versioned =
    read_same (field (word_of w32) bytes) _ _ (λ v behind is.
    let some : v ≢ 0 = λ none. versioned behind (was_some (word_of w32 bytes) (v, behind) InvalidHeader is ∙ ap (λ (n : ℕ). Some (n, behind)) none) in
    read_same (field id_of behind) _ _ (λ dst behind_dst _.
    read_same (field id_of behind_dst) _ _ (λ src behind_src _.
    versioned_same size first dst src v (not (list_any (λ u. u == v) versions)) (v == 0) behind_src fixed (not_zero v some))))

short_first : (size k first : ℕ) (versions bytes : List ℕ) → first < 128 → header_at size k versions true (first ∷ bytes) ≡ short_at k first bytes
unfolding header_at
short_first size k first versions bytes low =
    let short : nat_lt first 128 ≡ true = grind (arith, nat_tests) in
    rw (fixed_let first true (inr refl), short) refl

by_form : (size k first : ℕ) (versions bytes : List ℕ) (short : Bool) → nat_lt first 128 ≡ short → first / 64 % 2 ≡ 1 → (128 ≤ first → (rest : List ℕ) → word_of w32 bytes ≢ Some (0, rest))
    → header_at size k versions true ((first - 64) ∷ bytes) ≡ header_at size k versions true (first ∷ bytes)
by_form size k first versions bytes true is fixed versioned =
    let low : first < 128 = grind (arith, nat_tests) in
    short_first size k (first - 64) versions bytes (omega arith) ∙ short_same k first bytes fixed ∙ sym (short_first size k first versions bytes low)
by_form size k first versions bytes false is fixed versioned =
    let high : 128 ≤ first = grind (arith, nat_tests) in
    zero_first size k (first - 64) versions bytes true (omega arith) (inr refl)
    ∙ long_same size first versions bytes fixed (versioned high)
    ∙ sym (zero_first size k first versions bytes true high (inr refl))

-- a header, but for Version Negotiation's
pub header_same : (size k first : ℕ) (versions bytes : List ℕ) → first / 64 % 2 ≡ 1 → (128 ≤ first → (rest : List ℕ) → word_of w32 bytes ≢ Some (0, rest))
    → header_at size k versions true ((first - 64) ∷ bytes) ≡ header_at size k versions true (first ∷ bytes)
header_same size k first versions bytes fixed versioned = by_form size k first versions bytes (nat_lt first 128) refl fixed versioned
