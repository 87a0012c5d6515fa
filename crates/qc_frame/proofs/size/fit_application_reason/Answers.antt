use Rattle.std.proofs.Common.{ℕ, ◌+◌, length, ap, arith}
use Rattle.qc_base.specs.Varint.{varint}
use Rattle.qc_frame.specs.declared.frames.FrameOf.TheVariants as frames
use Rattle.qc_frame.proofs.Lengths.{is_longest, length-application_close}
use Rattle.qc_frame.proofs.size.fit_application_reason.Goals as goal

pub returns : goal.returns
returns c =
    let code = c.varint_size-head.ensures.size in
    let same = c.into_inner.ensures.value in
    is_longest (frames.ApplicationClose c.args.error_code) (1 + c.varint_size-head.result) c.args.reason.now c.args.room c.longest_reason.result
    (λ r. let l = length-application_close c.args.error_code r in let e = ap (λ (n : ℕ). length (varint n)) same in omega arith)
    c.longest_reason.ensures.within c.longest_reason.ensures.fits c.longest_reason.ensures.nothing c.longest_reason.ensures.longest
