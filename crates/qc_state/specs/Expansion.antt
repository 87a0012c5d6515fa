-- The whole number of a packet that came (RFC 9000, section 17.1 and appendix A.3).
use Rattle.std.specs.Prelude.{ℕ, ◌+◌, ◌-◌, ◌*◌, ◌%◌, min, nat_lt, nat_le, ◌&&◌, if◌then◌else◌}
use Rattle.qc_base.specs.PacketNumber.{number_window, number_low}
use Rattle.qc_base.specs.declared.packet_number.PacketNumber.{PacketNumber}

-- of x, which has the low bytes and lies in the window of the expected number `near`, and of its neighbours a window
-- further, the one nearest to it below 2^62
abbrev pub nearer : (window near x : ℕ) → ℕ
nearer window near x =
    if nat_lt x near then (if nat_le window (2 * (near - x)) && nat_lt (x + window) 4611686018427387904 then x + window else x)
    else (if nat_lt window (2 * (x - near)) && nat_le window x then x - window else x)

-- the number with these low bytes that is nearest to an expected one: of those a window apart
abbrev pub nearest_to : (window low near : ℕ) → ℕ
nearest_to window low near = nearer window near (near - near % window + low)

-- the number below 2^62 with these low bytes that is nearest to the expected one
unfoldable pub expanded : PacketNumber → ℕ → ℕ
expanded number expected = nearest_to (number_window number) (number_low number) (min expected 4611686018427387903)
