use Rattle.std.proofs.Common.{ℕ, ◌+◌, length, ap, arith}
use Rattle.qc_base.specs.Varint.{varint}
use Rattle.qc_frame.specs.declared.frames.FrameOf.TheVariants as frames
use Rattle.qc_frame.proofs.Lengths.{is_longest, length-connection_close}
use Rattle.qc_frame.proofs.size.fit_close_reason.Goals as goal

pub returns : goal.returns
returns c =
    let code = c.varint_size.ensures.size in
    let ty = c.varint_size-2.ensures.size in
    let code_is = ap (λ (n : ℕ). length (varint n)) c.into_inner-code.ensures in
    let ty_is = ap (λ (n : ℕ). length (varint n)) c.unwrap_or.ensures in
    is_longest (frames.ConnectionClose c.args.error_code c.args.frame_type) (1 + c.varint_size.result + c.varint_size-2.result) c.args.reason.now c.args.room c.longest_reason.result
    (λ r. let l = length-connection_close c.args.error_code c.args.frame_type r in omega arith)
    c.longest_reason.ensures.within c.longest_reason.ensures.fits c.longest_reason.ensures.nothing c.longest_reason.ensures.longest
