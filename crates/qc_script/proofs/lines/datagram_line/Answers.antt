use Rattle.std.proofs.Common.{arith}
use Rattle.qc_script.proofs.LineLemmas.{datagram_four, datagram_parts, datagram_read, no_datagram}
use Rattle.qc_script.proofs.lines.datagram_line.Goals as goal

pub returns-in_default : goal.returns-in_default
returns-in_default c = no_datagram c.args.fields.now (λ t a m bs h e. c.in_default.ensures _ _ _ _ (datagram_four c.args.fields.now t a m bs h e))

pub returns-in_default-read_number : goal.returns-in_default-read_number
returns-in_default-read_number c = no_datagram c.args.fields.now (λ t a m bs h e.
    let parts = datagram_parts c.args.fields.now c.in-Some.time.now c.in-Some.address.now c.in-Some.mark.now c.in-Some.bytes.now t a m bs c.in-Some.ensures h e in
    c.in_default-read_number.ensures t h.0 parts.0)

pub returns-in_default-read_mark : goal.returns-in_default-read_mark
returns-in_default-read_mark c = no_datagram c.args.fields.now (λ t a m bs h e.
    let parts = datagram_parts c.args.fields.now c.in-Some.time.now c.in-Some.address.now c.in-Some.mark.now c.in-Some.bytes.now t a m bs c.in-Some.ensures h e in
    c.in_default-read_mark.ensures m parts.2)

pub returns-in_default-2 : goal.returns-in_default-2
returns-in_default-2 c = no_datagram c.args.fields.now (λ t a m bs h e.
    let parts = datagram_parts c.args.fields.now c.in-Some.time.now c.in-Some.address.now c.in-Some.mark.now c.in-Some.bytes.now t a m bs c.in-Some.ensures h e in
    (rw c.in_default-2.is at c.in_ok-remote.ensures) a h.1 parts.1)

pub returns-in_default-3 : goal.returns-in_default-3
returns-in_default-3 c = no_datagram c.args.fields.now (λ t a m bs h e.
    let parts = datagram_parts c.args.fields.now c.in-Some.time.now c.in-Some.address.now c.in-Some.mark.now c.in-Some.bytes.now t a m bs c.in-Some.ensures h e in
    (rw c.in_default-3.is at c.in_ok-bytes.ensures) bs h.2 parts.3)

pub returns : goal.returns
returns c =
    let address = rw c.in-Some-2.is at c.in_ok-remote.ensures in
    let hex = rw c.in-Some-3.is at c.in_ok-bytes.ensures in
    rw c.from_nanos.ensures (datagram_read c.args.fields.now c.in-Some.time.now c.in-Some.address.now c.in-Some.mark.now c.in-Some.bytes.now c.in-Some-read_number.now c.in-Some-2.remote c.in-Some-read_mark.ecn c.in-Some-3.bytes c.in-Some.ensures (omega arith)
    c.in-Some-read_number.ensures address.0 address.1 c.in-Some-read_mark.ensures hex.0 hex.1)
