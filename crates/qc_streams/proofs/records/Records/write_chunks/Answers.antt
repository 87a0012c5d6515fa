use Rattle.std.proofs.Common.{◌∙◌, sym, refl}
use Rattle.qc_streams.proofs.Keeping.{more}
use Rattle.qc_streams.proofs.Sending.{still}
use Rattle.qc_streams.proofs.records.Records.write_chunks.Goals as goal

pub invariant_of-self-in-Some : goal.invariant_of-self-in-Some
invariant_of-self-in-Some c = (
  more c.args.id c.self.inside.kept c.in_ok-taken-in-Some.taken.bytes c.self.inside.streams _ c.in-Some.stream.now c.note_write-noted.new.self c.self.invariant.0
      (sym c.in-Some.ensures.value) refl (c.note_write-noted.ensures.same ∙ c.in_ok-taken-in-Some.ensures.more),
  still c.args.id c.self.inside.sending c.self.inside.streams _ c.in-Some.stream.now c.note_write-noted.new.self c.self.invariant.1
      (sym c.in-Some.ensures.value) refl (c.note_write-noted.ensures.still ∙ c.in_ok-taken-in-Some.ensures.open),
)
