use Rattle.qc_bench_run.specs.Results.{read, sealed, passed, usage, no_memory}
use Rattle.qc_bench_run.proofs.running.run.Goals as goal

pub returns-in-None : goal.returns-in-None
returns-in-None c = usage c.in-None.ensures

pub returns-in-Ok : goal.returns-in-Ok
returns-in-Ok c = read _ _ c.in-Ok.tally (rw c.in-Some-Frames.field-0-is at c.in-Some-Frames.ensures) c.in-Ok.ensures

pub returns-in-Err : goal.returns-in-Err
returns-in-Err c = no_memory c.in-Some-Frames.field-0 c.in-Some-Frames.ensures

pub returns-in-Ok-seal_and_open : goal.returns-in-Ok-seal_and_open
returns-in-Ok-seal_and_open c = sealed _ c.in-Ok-seal_and_open.opened (rw c.in-Some-Keys.field-0-is at c.in-Some-Keys.ensures) c.in-Ok-seal_and_open.ensures

pub returns-in-Err-seal_and_open : goal.returns-in-Err-seal_and_open
returns-in-Err-seal_and_open c = no_memory c.in-Some-Keys.field-0 c.in-Some-Keys.ensures

pub returns-in-Ok-pass_toy_packets : goal.returns-in-Ok-pass_toy_packets
returns-in-Ok-pass_toy_packets c =
    passed _ _ c.in-Ok-pass_toy_packets.opened (rw c.in-Some-Packets.field-0-is at c.in-Some-Packets.ensures) c.in-Ok-pass_toy_packets.ensures

pub returns-in-Err-pass_toy_packets : goal.returns-in-Err-pass_toy_packets
returns-in-Err-pass_toy_packets c = no_memory c.in-Some-Packets.field-0 c.in-Some-Packets.ensures
