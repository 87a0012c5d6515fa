use Rattle.std.proofs.Common.{ℕ, ◌/◌, ◌%◌, take, ap, ◌∙◌}
use Rattle.std.specs.Prelude.{◌==◌}
use Rattle.qc_base.specs.Mask.{first_byte}
use Rattle.qc_header.specs.Unprotected.{header_from}
use Rattle.qc_header.specs.declared.protected.ProtectedHeader.TheVariants.{Short}
use Rattle.qc_header.proofs.short.finish_short.Goals as goal

-- the spin bit was read before the mask came off, and the rest behind it
pub returns-in-Some-clause-header : goal.returns-in-Some-clause-header
returns-in-Some-clause-header g c dst_cid =
    let bare = c.unmask_header.new.packet in
    c.short_header.ensures.header dst_cid
    ∙ ap (λ (b : ℕ). header_from (Short (b / 32 % 2 == 1) dst_cid) c.args.pn_offset (take c.in-Some.end bare)) c.leading_byte.ensures
    ∙ ap (λ (n : ℕ). header_from (Short (first_byte c.args.packet.now / 32 % 2 == 1) dst_cid) c.args.pn_offset (take n bare)) c.in-Some.ensures.end
