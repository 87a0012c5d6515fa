use Rattle.std.proofs.Common.{arith, ap, subst, sym, ◌∙◌}
use Rattle.std.specs.Fmt.{decimal}
use Rattle.qc_script.specs.Fields.{IsIpInRange}
use Rattle.qc_script.proofs.FieldLemmas.{address_read, address_split, address_no_slash}
use Rattle.qc_script.proofs.address.read_address.Goals as goal

pub returns-in_default : goal.returns-in_default
returns-in_default c = address_no_slash c.args.field.now c.in_default.ensures

pub returns-in_default-read_port : goal.returns-in_default-read_port
returns-in_default-read_port c = λ a h e.
    let parts = address_split c.args.field.now c.in-Some.digits.now c.in-Some.port.now a c.in-Some.ensures.0 c.in-Some.ensures.1 h e in
    c.in_default-read_port.ensures _ h.port parts.1

pub returns-in-Some-2 : goal.returns-in-Some-2
returns-in-Some-2 c =
    let ip = rw c.in-Some-2.is at c.in_ok-ip.ensures in
    let number = c.in-Some-read_port.ensures ∙ ap decimal (sym c.new.ensures.port) in (
      address_read c.args.field.now c.in-Some.digits.now c.in-Some.port.now c.in-Some-2.ip c.new.result c.in-Some.ensures.0 ip.0 number c.new.ensures.ip,
      record {
        ip = subst IsIpInRange (sym c.new.ensures.ip) ip.1;
        port = omega (arith, c.new.ensures.port);
        flow = c.new.ensures.flowinfo;
        scope = c.new.ensures.scope_id;
      },
    )

pub returns-in-None : goal.returns-in-None
returns-in-None c = λ a h e.
    let parts = address_split c.args.field.now c.in-Some.digits.now c.in-Some.port.now a c.in-Some.ensures.0 c.in-Some.ensures.1 h e in
    (rw c.in-None.is at c.in_ok-ip.ensures) _ h.ip parts.0
