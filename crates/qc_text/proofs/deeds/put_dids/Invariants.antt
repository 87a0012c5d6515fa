use Rattle.std.proofs.Common.{◌≡◌, ◌++◌, take, drop}
use Rattle.std.specs.List.{All, flat_map}
use Rattle.qc_text.specs.OneText.{IsDeedInRange}
use Rattle.qc_text.specs.TraceText.{did_text}
use Rattle.qc_text.proofs.deeds.put_dids.Given as goal

abbrev pub invariant-loop-did : goal.invariant-loop-did
invariant-loop-did l = record {
  text : l.out.items ++ flat_map did_text (drop l.did-index l.dids) ≡ l.fn.out.items ++ flat_map did_text l.dids;
  in_range : All IsDeedInRange (take l.did-index l.dids);
}
