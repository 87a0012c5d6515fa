use Rattle.std.proofs.Common.{ℕ, ap, arith, length}
use Rattle.qc_base.specs.Varint.{varint}
use Rattle.qc_streams.specs.declared.parts.StreamPart.{StreamPart}
use Rattle.qc_state.proofs.StreamsTaken.{part_size, stream_short}
use Rattle.qc_state.proofs.stream_frames.part_len.Goals as goal

-- the length has two bytes at most
pub returns-clause-most : goal.returns-clause-most
returns-clause-most c =
    let d : StreamPart = c.args.drawn.now in
    omega (
      arith,
      part_size d.id d.part.offset d.part.last d.part.bytes,
      stream_short d.id d.part.offset d.part.last d.part.bytes c.requires,
      ap (λ (n : ℕ). length (varint n)) c.len-len.ensures.value,
    )
