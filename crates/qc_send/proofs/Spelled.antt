-- A number that is far from the greatest acknowledged one is spelled in four bytes.
use Rattle.std.proofs.Common.{◌≡◌, ℕ, ◌-◌, ◌≤◌, ◌%◌, arith}
use Rattle.std.proofs.lemmas.Bool.Decides.{nat_tests}
use Rattle.qc_base.specs.PacketNumber.{number_of}
use Rattle.qc_base.specs.declared.packet_number.PacketNumber.TheVariants.{U32}

pub far_is : (n acked : ℕ) → 2147483648 ≤ n - acked → U32 (n % 4294967296) ≡ number_of n acked
unfolding number_of
far_is n acked far = grind (arith, nat_tests, far)
