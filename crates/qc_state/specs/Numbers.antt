-- The packet numbers of a connection (RFC 9000, 12.3).
use Rattle.std.specs.Prelude.{ℕ, ◌+◌, min, max, Bool, true, ◌&&◌, ◌==◌, if◌then◌else◌}
use Rattle.qc_base.specs.declared.side.SpaceId.{SpaceId}
use Rattle.qc_base.specs.declared.side.SpaceId.TheVariants.{Initial, «Data»}
use Rattle.qc_path.specs.Arrived.{Window, nothing_came, is_new, arrived}
use Rattle.qc_path.specs.Filter.{numbered}
use Rattle.qc_state.specs.declared.numbers.Numbers.{Numbers}
use Rattle.qc_state.specs.declared.numbers.SpaceNumbers.{SpaceNumbers}
use Rattle.qc_state.specs.Spaces.{is_space, space_of, with_space}

-- a space that began at this time, in which no packet was sealed, and none came
abbrev pub no_numbers : (time : ℕ) → SpaceNumbers
no_numbers time = record { next = 0; largest_acked = 0; rx = 0; came = nothing_came; began = time }

-- the number of the next packet that is sealed in the space
unfoldable pub next_number : Numbers → SpaceId → ℕ
next_number v id = (space_of v.spaces id).next

-- when the space began
unfoldable pub began_at : Numbers → SpaceId → ℕ
began_at v id = (space_of v.spaces id).began

-- the number from which the next one is spelled (RFC 9000, section 17.1): the greatest acknowledged one, which was sealed
unfoldable pub acked_number : Numbers → SpaceId → ℕ
acked_number v id = min (space_of v.spaces id).largest_acked (space_of v.spaces id).next

-- a packet was sealed with this number
unfoldable pub used_in : ℕ → SpaceNumbers → SpaceNumbers
used_in n w = record w { next = n + 1 }

-- Packet numbers of a space are used once and rise (RFC 9000, section 12.3). A packet was sealed in the space with this number
unfoldable pub number_used : Numbers → SpaceId → ℕ → Numbers
number_used v id n = record v { spaces = with_space v.spaces id (used_in n (space_of v.spaces id)) }

-- whether the number that would be next in the space is skipped: some numbers of 1-RTT packets are, so that a peer shows itself that
-- acknowledges packets which it never saw (RFC 9000, section 21.4)
unfoldable pub is_skipped : Numbers → SpaceId → Bool
is_skipped v id = is_space id «Data» && (next_number v id == v.filter.skipped)

-- the number that the space's next packet gets
unfoldable pub coming_number : Numbers → SpaceId → ℕ
coming_number v id = if is_skipped v id then next_number v id + 1 else next_number v id

-- the next number of 1-RTT packets is skipped; the number that is skipped after it comes of this random word
unfoldable pub number_skipped : Numbers → (word : ℕ) → Numbers
number_skipped v word = record {
  spaces = with_space v.spaces «Data» (used_in (next_number v «Data») (space_of v.spaces «Data»));
  filter = numbered (next_number v «Data») word v.filter;
  opened = v.opened;
}

-- the greatest number of the packets that were accepted in the space, 0 before the first
unfoldable pub received_number : Numbers → SpaceId → ℕ
received_number v id = (space_of v.spaces id).rx

-- what came in the space
unfoldable pub came_in : Numbers → SpaceId → Window
came_in v id = (space_of v.spaces id).came

-- a number that is new in the space: greater than all that came, or one that never came and lies at most 128 below the
-- greatest
unfoldable pub is_new_in : Numbers → SpaceId → ℕ → Bool
is_new_in v id n = is_new (came_in v id) n

-- a packet with this number came
unfoldable pub entered_in : ℕ → SpaceNumbers → SpaceNumbers
entered_in n w = record w { came = arrived n w.came }

-- a packet with this number came in the space
unfoldable pub number_entered : Numbers → SpaceId → ℕ → Numbers
number_entered v id n = record v { spaces = with_space v.spaces id (entered_in n (space_of v.spaces id)) }

-- it came and was accepted
unfoldable pub accepted_in : ℕ → SpaceNumbers → SpaceNumbers
accepted_in n w = record w { came = arrived n w.came; rx = max w.rx n }

-- a packet with this number came in the space and was accepted
unfoldable pub number_accepted : Numbers → SpaceId → ℕ → Numbers
number_accepted v id n = record v { spaces = with_space v.spaces id (accepted_in n (space_of v.spaces id)); opened = true }

-- The Initial space begins anew at a time, and its numbers go on (RFC 9000, section 17.2.5.3). Nothing came in it so far.
unfoldable pub space_renewed : Numbers → (time : ℕ) → Numbers
space_renewed v time = record v { spaces = with_space v.spaces Initial (record (space_of v.spaces Initial) { began = time }) }

-- the peer acknowledged packets up to this number
unfoldable pub acked_in : ℕ → SpaceNumbers → SpaceNumbers
acked_in n w = record w { largest_acked = max w.largest_acked n }

-- the peer acknowledged packets of the space up to this number
unfoldable pub number_acked : Numbers → SpaceId → ℕ → Numbers
number_acked v id n = record v { spaces = with_space v.spaces id (acked_in n (space_of v.spaces id)) }
