-- What a packet number space keeps of packets that came
use Rattle.std.specs.Prelude.{ℕ, ◌+◌, ◌-◌, Bool, true, false, min, [], Option, Some, None}
use Rattle.qc_base.specs.Time.{plus}
use Rattle.qc_base.specs.declared.ecn.EcnCodepoint.{EcnCodepoint}
use Rattle.qc_base.specs.declared.ecn.EcnCodepoint.TheVariants.{Ect0, Ect1, Ce}
use Rattle.qc_frame.specs.declared.frames.EcnCounts.{EcnCounts}
use Rattle.qc_path.specs.Acks.{acks_received, no_marks}
use Rattle.qc_path.specs.Arrived.{arrived, nothing_came}
use Rattle.qc_path.specs.declared.pending_acks.Arrival.{Arrival}
use Rattle.qc_space.specs.declared.space.PacketSpace.{PacketSpace}

-- nothing came, and no probe is due
abbrev pub no_packets : PacketSpace
no_packets = record {
  seen = nothing_came;
  acks = record { ranges = []; marks = no_marks };
  marks = record { ect0 = 0; ect1 = 0; ce = 0 };
  probes = 0;
}

-- one more, up to 2^62 - 1
abbrev pub counted_marks : ℕ → ℕ
counted_marks count = min (count + 1) 4611686018427387903

-- the counts with one more packet, if it was marked
abbrev pub marked : EcnCounts → Option EcnCodepoint → EcnCounts
marked counts None = counts
marked counts (Some Ect0) = record counts { ect0 = counted_marks counts.ect0 }
marked counts (Some Ect1) = record counts { ect1 = counted_marks counts.ect1 }
marked counts (Some Ce) = record counts { ce = counted_marks counts.ce }

-- the mark says that congestion was experienced
abbrev pub is_congested : Option EcnCodepoint → Bool
is_congested (Some Ce) = true
is_congested _ = false

-- a packet that came
abbrev pub arrival_of : (number at : ℕ) → Bool → Option EcnCodepoint → Arrival
arrival_of number at eliciting mark = record { number = number; at = at; ack_eliciting = eliciting; ce = is_congested mark }

-- a packet came that was opened: its number, its arrival among those to acknowledge, and its mark
unfoldable pub packet_received : Bool → (number at : ℕ) → Bool → Option EcnCodepoint → PacketSpace → PacketSpace
packet_received in_data number at eliciting mark s = record s {
  seen = arrived number s.seen;
  acks = acks_received in_data (arrived number s.seen) (arrival_of number at eliciting mark) s.acks;
  marks = marked s.marks mark;
}

-- so many more probes are due
abbrev pub probes_added : ℕ → PacketSpace → PacketSpace
probes_added count s = record s { probes = plus s.probes count }

-- a probe that was due is spent, if any was
abbrev pub probes_spent : PacketSpace → PacketSpace
probes_spent s = record s { probes = s.probes - 1 }
