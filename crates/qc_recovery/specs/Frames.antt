-- What recovery reads of an ACK frame (RFC 9000, section 19.3)
use Rattle.std.specs.Prelude.{List, reverse}
use Rattle.qc_base.specs.declared.range_set.NumberRange.{NumberRange}
use Rattle.qc_frame.specs.AckRanges.{ranges_of}
use Rattle.qc_frame.specs.Frame.{AckValue}
use Rattle.qc_recovery.specs.declared.calls.AckValues.{AckValues}

-- what the frame says beside its ranges
abbrev pub values_of : AckValue → AckValues
values_of ack = record { largest = ack.largest; delay = ack.delay; ecn = ack.ecn }

-- its ranges, from low to high
abbrev pub ranges_up_of : AckValue → List NumberRange
ranges_up_of ack = reverse (ranges_of ack)
