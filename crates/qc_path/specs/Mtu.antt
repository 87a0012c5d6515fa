-- The search for a larger datagram, and black holes (RFC 8899; RFC 9000, section 14.3). Sizes are bytes of UDP payload.
use Rattle.std.specs.Prelude.{ℕ, ◌+◌, ◌-◌, ◌/◌, ◌==◌, Bool, false, not, ◌&&◌, ◌||◌, nat_lt, nat_le, if◌then◌else◌, Option, Some, None, is_some, min, max}
use Rattle.qc_base.specs.Time.{plus}
use Rattle.qc_path.specs.BlackHole.{is_cleared, no_bursts, packet_passed, probe_passed, with_burst}
use Rattle.qc_path.specs.declared.black_hole.BlackHoleDetector.{BlackHoleDetector}
use Rattle.qc_path.specs.declared.mtu.Phase.{Phase}
use Rattle.qc_path.specs.declared.mtu.Phase.TheVariants.{Unbegun, Searching, Resting}
use Rattle.qc_path.specs.declared.mtu.Search.{Search}
use Rattle.qc_path.specs.declared.mtu.SearchSettings.{SearchSettings}

-- the sizes in use, and the search, if there is one
pub record Mtu : Type 0 where
  pub current : ℕ  -- the size in use
  pub least : ℕ  -- the size that every path takes
  pub peer : Option ℕ  -- the greatest size that the peer takes, once it is known
  pub settings : Option SearchSettings  -- how to search, if at all
  pub phase : Phase
  pub holes : BlackHoleDetector  -- the bursts of losses that count

-- a size, and at most what the peer takes, where that is known
abbrev pub capped : Option ℕ → ℕ → ℕ
capped None size = size
capped (Some most) size = min size most

-- a path's first size
unfoldable pub first_mtu : (initial least : ℕ) → Option ℕ → Option SearchSettings → Mtu
first_mtu initial least peer settings =
    record { current = capped peer (max initial least); least = least; peer = peer; settings = settings; phase = Unbegun; holes = no_bursts }

-- the peer's greatest size is known, and a search begins anew
unfoldable pub peer_known : ℕ → Mtu → Mtu
peer_known size m = record m { current = min m.current size; peer = Some size; phase = Unbegun }

-- a search from the size in use
unfoldable pub begun : SearchSettings → Mtu → Search
begun s m = record { lower = m.current; upper = max m.current (capped m.peer s.upper_bound); losses = 0; probe = None }

-- the search goes on while the ends differ by the least change, and by something
abbrev pub goes_on : SearchSettings → Search → Bool
goes_on s q = nat_le (max s.minimum_change 1) (q.upper - q.lower)

-- the size in the middle, rounded down, and at least one above the lower end where the ends differ
abbrev pub middle : Search → ℕ
middle q = max (q.lower + (q.upper - q.lower) / 2) (min (q.lower + 1) q.upper)

-- A larger datagram is searched; bursts of losses show a black hole (RFC 8899; RFC 9000, section 14.3). The search of a
-- moment: one that goes on, or one that begins. One that begins where its ends are close ends as it begins: it probes
-- nothing, and neither would the next one, which begins between the same ends
abbrev pub search_at : ℕ → SearchSettings → Mtu → Phase → Option Search
search_at now s m Unbegun = Some (begun s m)
search_at now s m (Searching q) = Some q
search_at now s m (Resting until) = if nat_le until now then Some (begun s m) else None

-- the size that a search probes next, where none is in flight
abbrev pub size_of_probe : SearchSettings → Option Search → Option ℕ
size_of_probe s None = None
size_of_probe s (Some q) = if not (is_some q.probe) && goes_on s q then Some (middle q) else None

-- the size that is probed next by these settings
abbrev pub probe_if_set : ℕ → Mtu → Option SearchSettings → Option ℕ
probe_if_set now m None = None
probe_if_set now m (Some s) = size_of_probe s (search_at now s m m.phase)

-- the size of the probe that is due, if one is
unfoldable pub probe_due : ℕ → Mtu → Option ℕ
probe_due now m = probe_if_set now m m.settings

-- a search whose next size is probed by the packet with this number
abbrev pub probing : ℕ → Option Search → Mtu → Mtu
probing number None m = m
probing number (Some q) m = record m { phase = Searching (record q { probe = Some (number, middle q) }) }

-- that packet was sent, by these settings
abbrev pub probe_sent_if_set : (now number : ℕ) → Option SearchSettings → Mtu → Mtu
probe_sent_if_set now number None m = m
probe_sent_if_set now number (Some s) m = probing number (search_at now s m m.phase) m

-- the probe that is due was sent
unfoldable pub probe_sent : (now number : ℕ) → Mtu → Mtu
probe_sent now number m = probe_sent_if_set now number m.settings m

-- the probe in flight: the number of its packet, and its size
abbrev pub probe_of : Phase → Option (ℕ × ℕ)
probe_of (Searching q) = q.probe
probe_of _ = None

-- the probe, if there is one, has this number
abbrev pub has_number : ℕ → Option (ℕ × ℕ) → Bool
has_number number None = false
has_number number (Some probe) = probe.0 == number

-- the number is that of the probe in flight
unfoldable pub is_probe : ℕ → Mtu → Bool
is_probe number m = has_number number (probe_of m.phase)

-- a search whose ends have come close rests
abbrev pub rested : ℕ → SearchSettings → Search → Phase
rested now s q = if goes_on s q then Searching q else Resting (plus now s.interval)

-- the same, where there are settings; without them a search goes on
abbrev pub rested_if_set : ℕ → Option SearchSettings → Search → Phase
rested_if_set now None q = Searching q
rested_if_set now (Some s) q = rested now s q

-- the probe's size passed: it is the size in use, and the lower end
abbrev pub search_raised : ℕ → Mtu → Search → Option (ℕ × ℕ) → Mtu
search_raised now m q None = m
search_raised now m q (Some probe) = record m {
  current = probe.1;
  holes = probe_passed (record { number = probe.0; size = probe.1 }) m.holes;
  phase = rested_if_set now m.settings (record q { lower = probe.1; losses = 0; probe = None });
}

-- a path whose probe passed, where a search goes on
abbrev pub raised_if_searching : ℕ → Phase → Mtu → Mtu
raised_if_searching now (Searching q) m = search_raised now m q q.probe
raised_if_searching now _ m = m

-- a packet is acknowledged: a probe raises the size, and each one above the least size clears bursts
unfoldable pub mtu_acked : (now number size : ℕ) → Mtu → Mtu
mtu_acked now number size m =
    if is_probe number m then raised_if_searching now m.phase m
    else if nat_lt m.least size then record m { holes = packet_passed (record { number = number; size = size }) m.holes } else m

-- the probe is lost: the third time at one size, what lies below it becomes the upper end
abbrev pub search_lowered : ℕ → Mtu → Search → Option (ℕ × ℕ) → Mtu
search_lowered now m q None = m
search_lowered now m q (Some probe) =
    if nat_le 2 q.losses then record m { phase = rested_if_set now m.settings (record q { upper = probe.1 - 1; losses = 0; probe = None }) }
    else record m { phase = Searching (record q { losses = q.losses + 1; probe = None }) }

-- a path whose probe is lost, where a search goes on
abbrev pub lowered_if_searching : ℕ → Phase → Mtu → Mtu
lowered_if_searching now (Searching q) m = search_lowered now m q q.probe
lowered_if_searching now _ m = m

-- the probe in flight is lost
unfoldable pub mtu_probe_lost : ℕ → Mtu → Mtu
mtu_probe_lost now m = lowered_if_searching now m.phase m

-- after a black hole no larger size is tried for a time, where there are settings
abbrev pub rested_after_hole : ℕ → Option SearchSettings → Phase → Phase
rested_after_hole now None phase = phase
rested_after_hole now (Some s) phase = Resting (plus now s.black_hole_cooldown)

-- a path once a burst counts, or once it has a black hole: its size is the least, or what the peer takes where that is less
abbrev pub after_burst : ℕ → Option BlackHoleDetector → Mtu → Mtu
after_burst now (Some holes) m = record m { holes = holes }
after_burst now None m = record m { current = capped m.peer m.least; holes = no_bursts; phase = rested_after_hole now m.settings m.phase }

-- packets of consecutive numbers were lost at once, probes aside, the smallest of them of this size, and the last with this
-- number. The burst counts where all of them are above the least size, and no packet that was sent later, and is at least as
-- large as the smallest, is known to be acknowledged. The fourth burst that counts shows a black hole
unfoldable pub mtu_burst : (now smallest last : ℕ) → Mtu → Mtu
mtu_burst now smallest last m =
    if nat_le smallest m.least || is_cleared m.holes.acked (record { smallest = smallest; last = last }) then m
    else after_burst now (with_burst (record { smallest = smallest; last = last }) m.holes) m

-- the probe in flight is forgotten
abbrev pub unprobed : Phase → Phase
unprobed (Searching q) = Searching (record q { probe = None })
unprobed phase = phase

-- a path whose probe in flight is forgotten
unfoldable pub mtu_forgotten : Mtu → Mtu
mtu_forgotten m = record m { phase = unprobed m.phase }
