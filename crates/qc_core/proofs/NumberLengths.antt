-- How many bytes a packet number has, by how far it lies above the greatest acknowledged one.
use Rattle.std.proofs.Common.{◌≡◌, ℕ, ◌-◌, ◌*◌, true, false, nat_lt, refl, arith}
use Rattle.std.proofs.lemmas.Bool.Decides.{nat_tests}
use Rattle.qc_base.specs.PacketNumber.{number_len, number_of}

pub one_byte : (n acked apart : ℕ) → apart ≡ n - acked → nat_lt apart 0x80 ≡ true → 1 ≡ number_len (number_of n acked)
unfolding number_of
one_byte n acked apart is near =
    let first : nat_lt (2 * (n - acked)) 0x100 ≡ true = grind (arith, nat_tests) in
    rw first refl

pub two_bytes : (n acked apart : ℕ) → apart ≡ n - acked → nat_lt apart 0x80 ≡ false → nat_lt apart 0x8000 ≡ true → 2 ≡ number_len (number_of n acked)
unfolding number_of
two_bytes n acked apart is far near =
    let first : nat_lt (2 * (n - acked)) 0x100 ≡ false = grind (arith, nat_tests) in
    let second : nat_lt (2 * (n - acked)) 0x10000 ≡ true = grind (arith, nat_tests) in
    rw (first, second) refl

pub three_bytes : (n acked apart : ℕ) → apart ≡ n - acked → nat_lt apart 0x80 ≡ false → nat_lt apart 0x8000 ≡ false → nat_lt apart 0x800000 ≡ true → 3 ≡ number_len (number_of n acked)
unfolding number_of
three_bytes n acked apart is far farther near =
    let first : nat_lt (2 * (n - acked)) 0x100 ≡ false = grind (arith, nat_tests) in
    let second : nat_lt (2 * (n - acked)) 0x10000 ≡ false = grind (arith, nat_tests) in
    let third : nat_lt (2 * (n - acked)) 0x1000000 ≡ true = grind (arith, nat_tests) in
    rw (first, second, third) refl

pub four_bytes : (n acked apart : ℕ) → apart ≡ n - acked → nat_lt apart 0x80 ≡ false → nat_lt apart 0x8000 ≡ false → nat_lt apart 0x800000 ≡ false → 4 ≡ number_len (number_of n acked)
unfolding number_of
four_bytes n acked apart is far farther farthest =
    let first : nat_lt (2 * (n - acked)) 0x100 ≡ false = grind (arith, nat_tests) in
    let second : nat_lt (2 * (n - acked)) 0x10000 ≡ false = grind (arith, nat_tests) in
    let third : nat_lt (2 * (n - acked)) 0x1000000 ≡ false = grind (arith, nat_tests) in
    rw (first, second, third) refl
