-- Stream ids (RFC 9000, section 2.1)
use Rattle.std.specs.Prelude.{ℕ, ◌+◌, ◌*◌}
use Rattle.qc_base.specs.declared.side.Side.{Side}
use Rattle.qc_base.specs.declared.side.Side.TheVariants.{Client, Server}
use Rattle.qc_base.specs.declared.side.Dir.{Dir}
use Rattle.qc_base.specs.declared.side.Dir.TheVariants.{Bi, Uni}

-- the lowest bit says which end opens the stream
abbrev pub initiator_bit : Side → ℕ
initiator_bit Client = 0
initiator_bit Server = 1

-- the bit above it says whether the stream carries data both ways
abbrev pub dir_bit : Dir → ℕ
dir_bit Bi = 0
dir_bit Uni = 1

-- the other bits count the streams of each kind
abbrev pub stream_id : Side → Dir → ℕ → ℕ
stream_id initiator dir index = 4 * index + 2 * dir_bit dir + initiator_bit initiator
