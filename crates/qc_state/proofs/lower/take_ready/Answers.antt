use Rattle.std.proofs.Common.{length, arith}
use Rattle.qc_state.proofs.Ready.{first_all, first_none, more_all, more_none, none_left, rest_left, shorter_now}
use Rattle.qc_state.proofs.lower.take_ready.Goals as goal

-- nothing was read yet
pub loop-bytes-init : goal.loop-bytes-init
loop-bytes-init c = (first_all c.args.stream.now c.new-bytes.result.items c.new-bytes.ensures.items, first_none c.args.stream.now c.new-bytes.result.items c.new-bytes.ensures.items)

-- a chunk was read
pub loop-bytes-smaller-in_ok-extend_from_slice-in-Some : goal.loop-bytes-smaller-in_ok-extend_from_slice-in-Some
loop-bytes-smaller-in_ok-extend_from_slice-in-Some c = shorter_now 18446744073709551615 c.loop-bytes.stream c.read.new.self c.in-Some.chunk c.in_ok-read.field-0 (omega arith) c.in_ok-read.ensures.front c.in-Some.is c.in_ok-read.ensures.after

pub loop-bytes-preserved-in_ok-extend_from_slice-in-Some : goal.loop-bytes-preserved-in_ok-extend_from_slice-in-Some
loop-bytes-preserved-in_ok-extend_from_slice-in-Some c = (
  more_all 18446744073709551615 c.args.stream.now c.loop-bytes.stream c.read.new.self c.in-Some.chunk c.as_slice.result.now _ _ c.in_ok-read.field-0 c.in_ok-read.ensures.front c.in-Some.is c.as_slice.ensures c.in_ok-read.ensures.after c.in_ok-extend_from_slice-in-Some.ensures.items c.loop-bytes.invariant.0,
  more_none c.args.stream.now c.loop-bytes.stream c.read.new.self c.in-Some.chunk c.as_slice.result.now _ _ c.in_ok-read.field-0 c.in-Some.is c.as_slice.ensures c.in_ok-read.ensures.after c.in_ok-extend_from_slice-in-Some.ensures.items c.loop-bytes.invariant.1,
)

pub loop-bytes-smaller : goal.loop-bytes-smaller
loop-bytes-smaller c = shorter_now 18446744073709551615 c.loop-bytes.stream c.read.new.self c.in-Some.chunk c.in_ok-read.field-0 (omega arith) c.in_ok-read.ensures.front c.in-Some.is c.in_ok-read.ensures.after

pub loop-bytes-preserved : goal.loop-bytes-preserved
loop-bytes-preserved c = (
  more_all 18446744073709551615 c.args.stream.now c.loop-bytes.stream c.read.new.self c.in-Some.chunk c.as_slice.result.now _ _ c.in_ok-read.field-0 c.in_ok-read.ensures.front c.in-Some.is c.as_slice.ensures c.in_ok-read.ensures.after c.in_ok-extend_from_slice-in-Some.ensures.items c.loop-bytes.invariant.0,
  more_none c.args.stream.now c.loop-bytes.stream c.read.new.self c.in-Some.chunk c.as_slice.result.now _ _ c.in_ok-read.field-0 c.in-Some.is c.as_slice.ensures c.in_ok-read.ensures.after c.in_ok-extend_from_slice-in-Some.ensures.items c.loop-bytes.invariant.1,
)

-- nothing more can be read
pub returns-in-None-clause-bytes : goal.returns-in-None-clause-bytes
returns-in-None-clause-bytes c = none_left 18446744073709551615 c.args.stream.now _ c.loop-bytes.bytes.items c.in_ok-read.field-0 c.in_ok-read.ensures.front c.in-None.is c.loop-bytes.invariant.0

pub returns-in-None-clause-rest : goal.returns-in-None-clause-rest
returns-in-None-clause-rest c = rest_left c.args.stream.now c.loop-bytes.stream c.read.new.self (length c.loop-bytes.bytes.items) c.in_ok-read.field-0 c.in-None.is c.in_ok-read.ensures.after c.loop-bytes.invariant.1
