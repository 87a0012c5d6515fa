use Rattle.std.proofs.Common.{◌≡◌, ◌≤◌, length, arith, sym, Bool, true, false, cond, ℕ, Option, Some, None}
use Rattle.qc_base.specs.declared.varint.VarInt.{VarInt}
use Rattle.qc_send_stream.specs.declared.fault.WriteError.{WriteError}
use Rattle.qc_send_stream.specs.declared.fault.WriteError.TheVariants.{Blocked, ClosedStream, Stopped, OutOfMemory}
use Rattle.qc_send_stream.specs.declared.send.SendPart.{SendPart}
use Rattle.qc_send_stream.specs.Sending.{write_refusal, stop_refusal, IsWriteRefusal}
use Rattle.qc_send_stream.proofs.Counting.{part_more}
use Rattle.qc_send_stream.proofs.send.SendPart.write.Goals as goal

-- no write is refused for want of memory
never : (a b t : Bool) (stopped : Option VarInt) → (let r : Option WriteError = Some OutOfMemory in r) ≡ cond a (Some Blocked) (cond b (Some ClosedStream) (stop_refusal stopped t)) → ⊥
never true b t stopped q = cc
never false true t stopped q = cc
never false false t (Some code) q = cc
never false false true None q = cc
never false false false None q = cc

refusal_is : (e : WriteError) (budget : ℕ) (s : SendPart) → Some e ≡ write_refusal budget s → IsWriteRefusal e (write_refusal budget s)
unfolding write_refusal IsWriteRefusal
refusal_is Blocked budget s q = sym q
refusal_is ClosedStream budget s q = sym q
refusal_is (Stopped code) budget s q = sym q
refusal_is OutOfMemory budget s q = absurd (never _ _ _ s.stopped q)

pub returns-in-Some-clause-refused : goal.returns-in-Some-clause-refused
returns-in-Some-clause-refused c = refusal_is c.in-Some.refusal c.args.budget c.args.self.now c.in-Some.ensures

pub returns-in-Err-clause-refused : goal.returns-in-Err-clause-refused
unfolding IsWriteRefusal
returns-in-Err-clause-refused c = sym c.in_default.ensures

pub returns-in-Ok-clause-more : goal.returns-in-Ok-clause-more
returns-in-Ok-clause-more c =
    let within : c.takes-count.result ≤ length c.args.chunk.now = omega (arith, c.takes-count.ensures.within, c.len.ensures.value) in
    part_more c.takes-count.result c.args.chunk.now c.args.self.now.buffer c.write_front.new.self within c.in-Ok.ensures.written
