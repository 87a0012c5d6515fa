-- Packet numbers as the wire carries them (RFC 9000, section 17.1): their lowest 1 to 4 bytes
use Rattle.std.specs.Prelude.{◌≡◌, ℕ, ◌+◌, ◌*◌, ◌-◌, ◌%◌, ◌^◌, ◌<◌, ◌≤◌, ◌⊎◌, List, nat_lt, if◌then◌else◌}
use Rattle.std.specs.Int.{bytes_high_first}
use Rattle.qc_base.specs.declared.packet_number.PacketNumber.{PacketNumber}
use Rattle.qc_base.specs.declared.packet_number.PacketNumber.TheVariants.{U8, U16, U24, U32}

-- the number n, where the peer acknowledged largest: as few bytes as tell more than twice as many
-- numbers apart as n lies above largest
unfoldable pub number_of : ℕ → (largest : ℕ) → PacketNumber
number_of n largest =
    if nat_lt (2 * (n - largest)) 0x100 then U8 (n % 0x100)
    else if nat_lt (2 * (n - largest)) 0x10000 then U16 (n % 0x10000)
    else if nat_lt (2 * (n - largest)) 0x1000000 then U24 (n % 0x1000000)
    else U32 (n % 0x100000000)

-- how many bytes it has
abbrev pub number_len : PacketNumber → ℕ
number_len (U8 n) = 1
number_len (U16 n) = 2
number_len (U24 n) = 3
number_len (U32 n) = 4

-- its bytes on the wire, the highest first
unfoldable pub number_bytes : PacketNumber → List ℕ
number_bytes (U8 n) = bytes_high_first 1 n
number_bytes (U16 n) = bytes_high_first 2 n
number_bytes (U24 n) = bytes_high_first 3 n
number_bytes (U32 n) = bytes_high_first 4 n

-- how many numbers its bytes can tell apart
abbrev pub number_window : PacketNumber → ℕ
number_window (U8 n) = 0x100
number_window (U16 n) = 0x10000
number_window (U24 n) = 0x1000000
number_window (U32 n) = 0x100000000

-- the number that its bytes are
abbrev pub number_low : PacketNumber → ℕ
number_low (U8 n) = n % 0x100
number_low (U16 n) = n % 0x10000
number_low (U24 n) = n % 0x1000000
number_low (U32 n) = n % 0x100000000

-- ---- the full number (RFC 9000, appendix A.3)

-- how far two numbers lie apart
abbrev pub distance : ℕ → ℕ → ℕ
distance a b = (a - b) + (b - a)

-- a packet number whose low bytes are low
abbrev pub IsCandidate : (window low : ℕ) → ℕ → Type 0
IsCandidate window low x = (x % window ≡ low) × (x < 2 ^ 62)

-- the candidate nearest to the expected number, the greater one where two are as near
unfoldable pub IsNearest : (window low expected : ℕ) → ℕ → Type 0
IsNearest window low expected x =
    IsCandidate window low x
    × ((y : ℕ) → IsCandidate window low y
    → (distance x expected < distance y expected)
    ⊎ ((distance x expected ≡ distance y expected) × (y ≤ x)))

-- n lies in the window around the expected number: at most half a window above it, and less than half a window below
abbrev pub IsInWindow : (window expected : ℕ) → ℕ → Type 0
IsInWindow window expected n = (2 * n ≤ 2 * expected + window) × (2 * expected < 2 * n + window)
