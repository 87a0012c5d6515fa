-- Variable-length integers (RFC 9000, section 16)
use Rattle.std.specs.Prelude.{ℕ, ◌+◌, ◌%◌, ◌<◌, List, nat_lt, if◌then◌else◌}
use Rattle.std.specs.Int.{Width, w8, w16, w32, w64, to_be_bytes}

-- the four lengths, by the first two bits of the first byte
pub data Form : Type 0 where
  one : Form
  two : Form
  four : Form
  eight : Form

-- how many bits each has room for, with the two that tell it
abbrev pub width : Form → Width
width one = w8
width two = w16
width four = w32
width eight = w64

-- what the first two bits, alone, are worth
abbrev pub mark : Form → ℕ
mark one = 0
mark two = 0x4000
mark four = 0x80000000
mark eight = 0xC000000000000000

-- the first number that the form is too short for
abbrev pub limit : Form → ℕ
limit one = 64
limit two = 16384
limit four = 1073741824
limit eight = 4611686018427387904

-- a number that some form has room for: below 2^62
abbrev pub IsNumber : ℕ → Type 0
IsNumber n = n < 4611686018427387904

-- a number below the limit in that form: big-endian, below the mark
abbrev pub spelled : Form → ℕ → List ℕ
spelled f n = to_be_bytes (width f) (mark f + n)

-- a number below 2^62 in its shortest form (of a greater one the lowest 62 bits, in eight bytes)
unfoldable pub varint : ℕ → List ℕ
varint n =
    if nat_lt n (limit one) then spelled one n
    else if nat_lt n (limit two) then spelled two n
    else if nat_lt n (limit four) then spelled four n
    else spelled eight (n % limit eight)
