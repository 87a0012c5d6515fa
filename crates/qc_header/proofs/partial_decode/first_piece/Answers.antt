use Rattle.std.proofs.Common.{◌≤◌, ◌<◌, length, drop, take, arith}
use Rattle.std.proofs.lemmas.Grind.{common_steps}
use Rattle.std.proofs.lemmas.List.{length-drop}
use Rattle.qc_header.proofs.partial_decode.first_piece.Goals as goal

pub returns-in-Err-clause-memory : goal.returns-in-Err-clause-memory
returns-in-Err-clause-memory c _ =
    let within : c.in_ok-bounds.bounds.end ≤ length c.args.bytes.items = rw (← c.as_slice.ensures) c.in_ok-bounds.ensures.end in
    let less : c.in_ok-bounds.bounds.end < length c.args.bytes.items = grind (arith, common_steps) in (
      record {
        header = c.in_ok-bounds.bounds.header;
        pn_offset = c.in_ok-bounds.bounds.pn_offset;
        bytes = take c.in_ok-bounds.bounds.end c.args.bytes.items;
      },
      drop c.in_ok-bounds.bounds.end c.args.bytes.items,
      rw (← c.as_slice.ensures) c.in_ok-bounds.ensures.exact,
      omega (arith, length-drop c.in_ok-bounds.bounds.end c.args.bytes.items),
    )
