use Rattle.std.proofs.Common.{ap, sym, ◌∙◌, Bool, if◌then◌else◌}
use Rattle.qc_state.specs.declared.trace.Answer.TheVariants.{Done, Dropped}
use Rattle.qc_laws.proofs.Steps.{calls_datagram}
use Rattle.qc_conn.proofs.steps.datagram_call.Goals as goal

-- a datagram that begins with a packet
pub returns-then-branch : goal.returns-then-branch
returns-then-branch g c =
    calls_datagram _ _ _ (record { time = c.args.now; remote = c.args.remote; mark = c.args.ecn }) _ c.in_ok-bytes.bytes.items _ _ c.in_ok-datagram.field-0 _ c.clock.ensures c.requires (c.in_ok-bytes.ensures ∙ c.as_slice.ensures)
    c.in_ok-datagram.ensures.leads c.in_ok-datagram.ensures.answer (sym (ap (λ (begins : Bool). if begins then Done else Dropped) c.if-branch.true))

-- one that begins with none
pub returns : goal.returns
returns g c =
    calls_datagram _ _ _ (record { time = c.args.now; remote = c.args.remote; mark = c.args.ecn }) _ c.in_ok-bytes.bytes.items _ _ c.in_ok-datagram.field-0 _ c.clock.ensures c.requires (c.in_ok-bytes.ensures ∙ c.as_slice.ensures)
    c.in_ok-datagram.ensures.leads c.in_ok-datagram.ensures.answer (sym (ap (λ (begins : Bool). if begins then Done else Dropped) c.if-branch.false))
