-- Parts of what is written
use Rattle.std.specs.Prelude.{ℕ, Bool, List, ◌++◌, length, if◌then◌else◌}
use Rattle.qc_base.specs.Varint.{varint}

-- a bit of this worth where it is set, else 0
abbrev pub bit : Bool → ℕ → ℕ
bit set worth = if set then worth else 0

-- a byte string behind its length, which is a variable-length integer in its shortest form
abbrev pub blob : List ℕ → List ℕ
blob bytes = varint (length bytes) ++ bytes
