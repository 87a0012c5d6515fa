-- The ECN field of an IP packet (RFC 3168, section 5)
use Rattle.std.specs.Prelude.{ℕ}
use Rattle.qc_base.specs.declared.ecn.EcnCodepoint.{EcnCodepoint}
use Rattle.qc_base.specs.declared.ecn.EcnCodepoint.TheVariants.{Ect0, Ect1, Ce}

-- the two bits that a codepoint is
abbrev pub ecn_bits : EcnCodepoint → ℕ
ecn_bits Ect0 = 2
ecn_bits Ect1 = 1
ecn_bits Ce = 3
