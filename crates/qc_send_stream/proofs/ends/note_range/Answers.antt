use Rattle.std.proofs.Common.{sym, arith, refl}
use Rattle.qc_send_stream.proofs.Ranges.{next_bounds}
use Rattle.qc_send_stream.proofs.LostEnds.{noted_none, noted_step, noted_all, listed_more}
use Rattle.qc_send_stream.proofs.ends.note_range.Goals as goal

pub loop-at-init : goal.loop-at-init
loop-at-init c = record { noted = noted_none c.args.start c.args.segments.now.entries c.args.lost.now.keys; listed = c.requires.listed }

pub loop-at-smaller : goal.loop-at-smaller
loop-at-smaller c = omega (arith, next_bounds c.loop-at.start c.args.end c.in-Some.at c.args.segments.now.entries (sym c.in-Some.ensures))

pub loop-at-preserved : goal.loop-at-preserved
loop-at-preserved c = record {
  noted = noted_step c.args.start c.loop-at.start c.args.end c.in-Some.at 0 c.args.segments.now.entries c.loop-at.lost.keys c.note_end.new.lost.keys c.requires.apart
      (sym c.in-Some.ensures) c.loop-at.invariant.noted c.note_end.ensures.more (c.in_ok-note_end.ensures.noted refl);
  listed = listed_more c.args.segments.now.entries c.loop-at.lost.keys c.note_end.new.lost.keys c.loop-at.invariant.listed c.note_end.ensures.more;
}

pub returns-in_err-note_end-clause-listed : goal.returns-in_err-note_end-clause-listed
returns-in_err-note_end-clause-listed c = listed_more c.args.segments.now.entries c.loop-at.lost.keys c.note_end.new.lost.keys c.loop-at.invariant.listed c.note_end.ensures.more

pub returns-clause-noted : goal.returns-clause-noted
returns-clause-noted c =
    noted_all c.args.start c.loop-at.start c.args.end 0 c.args.segments.now.entries c.loop-at.lost.keys c.requires.apart (sym c.in_default.ensures) c.loop-at.invariant.noted
