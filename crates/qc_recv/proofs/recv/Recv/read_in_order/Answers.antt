use Rattle.std.proofs.Common.{◌∙◌, ap, ℕ}
use Rattle.qc_recv.specs.declared.recv.Recv.{Recv}
use Rattle.qc_recv.specs.Receiving.{given}
use Rattle.qc_recv.proofs.Chunks.{in_order_none, in_order_some}
use Rattle.qc_recv.proofs.recv.Recv.read_in_order.Goals as goal

pub returns-in_default-clause-chunk : goal.returns-in_default-clause-chunk
returns-in_default-clause-chunk c =
    in_order_none c.args.most c.args.self.now c.read.new.self c.in_ok-bytes.field-0 c.requires c.in_default.is c.in_ok-bytes.ensures.front c.in_ok-bytes.ensures.after

pub returns-clause-chunk : goal.returns-clause-chunk
returns-clause-chunk c =
    rw c.bytes_read-offset.ensures
    (in_order_some c.args.most c.args.self.now c.count_given.new.self c.read.new.self c.in-Some.bytes c.in_ok-bytes.field-0 c.requires c.in-Some.is c.in_ok-bytes.ensures.front c.in_ok-bytes.ensures.after
    (c.count_given.ensures ∙ ap (λ (n : ℕ). (let x : Recv = record c.args.self.now { assembler = c.read.new.self } in given n x)) c.len.ensures.value))
