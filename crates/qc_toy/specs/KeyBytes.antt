-- The bytes of the toy's keys.
use Rattle.std.specs.Prelude.{ℕ, ◌+◌, ◌%◌, ◌==◌, if◌then◌else◌, List, [], ◌∷◌, slice_index}
use Rattle.std.specs.Int.{w64, to_be_bytes}
use Rattle.qc_base.specs.declared.side.Side.{Side}
use Rattle.qc_base.specs.declared.side.Side.TheVariants.{Client, Server}
use Rattle.qc_toy.specs.declared.key_bytes.Level.{Level}
use Rattle.qc_toy.specs.declared.key_bytes.Level.TheVariants.{Initial, Handshake, Data, Early}
use Rattle.qc_toy.specs.declared.key_bytes.Usage.{Usage}
use Rattle.qc_toy.specs.declared.key_bytes.Usage.TheVariants.{Packet, Header}

-- the sixth byte of a key, which tells the levels apart
abbrev pub level_byte : Level → ℕ
level_byte Initial = 0
level_byte Handshake = 1
level_byte Data = 2
level_byte Early = 3

-- the seventh byte of a key, which tells what a client sends from what a server sends
abbrev pub sender_byte : Side → ℕ
sender_byte Client = 0
sender_byte Server = 1

-- the eighth byte of a key, which tells keys that seal packets from keys that mask headers
abbrev pub usage_byte : Usage → ℕ
usage_byte Packet = 0
usage_byte Header = 1

-- A key: 5 bytes of a secret, the level, the sender, the use, and 8 bytes of the epoch.
unfoldable pub key_bytes : List ℕ → Level → Side → Usage → ℕ → List ℕ
key_bytes secret level sender usage epoch =
    slice_index secret 0 ∷ slice_index secret 1 ∷ slice_index secret 2 ∷ slice_index secret 3 ∷ slice_index secret 4
    ∷ level_byte level ∷ sender_byte sender ∷ usage_byte usage ∷ to_be_bytes w64 epoch

-- The sum of the bytes whose index, counted from `at` on, leaves `i` modulo 5.
abbrev pub sum_of_fifths : ℕ → (at : ℕ) → List ℕ → ℕ
sum_of_fifths i at [] = 0
sum_of_fifths i at (b ∷ bytes) = (if at % 5 == i then b else 0) + sum_of_fifths i (at + 1) bytes

-- The secret of the Initial keys: byte i is the sum modulo 256 of the bytes j of the destination id
-- with j mod 5 = i.
unfoldable pub initial_secret : List ℕ → List ℕ
initial_secret id =
    sum_of_fifths 0 0 id % 256 ∷ sum_of_fifths 1 0 id % 256 ∷ sum_of_fifths 2 0 id % 256
    ∷ sum_of_fifths 3 0 id % 256 ∷ sum_of_fifths 4 0 id % 256 ∷ []
