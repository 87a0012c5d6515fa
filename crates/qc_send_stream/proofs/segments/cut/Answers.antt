use Rattle.std.proofs.Common.{◌∙◌, sym}
use Rattle.qc_send_stream.proofs.Cutting.{split_none, split_done, split_listed, front_lost}
use Rattle.qc_send_stream.proofs.LostEnds.{listed_more}
use Rattle.qc_send_stream.proofs.segments.cut.Goals as goal

pub returns-in_default-clause-cut : goal.returns-in_default-clause-cut
returns-in_default-clause-cut c = sym (split_none c.args.at c.args.segments.now.entries (sym c.in_ok-end.ensures ∙ c.in_default.is))

pub returns-in_err-note_end-clause-listed : goal.returns-in_err-note_end-clause-listed
returns-in_err-note_end-clause-listed c =
    listed_more c.args.segments.now.entries c.args.lost.now.keys c.note_end.new.lost.keys c.requires.listed c.note_end.ensures.more

pub returns-in_err-keep-clause-listed : goal.returns-in_err-keep-clause-listed
returns-in_err-keep-clause-listed c =
    rw c.in_err-keep.ensures.err (listed_more c.args.segments.now.entries c.args.lost.now.keys c.note_end.new.lost.keys c.requires.listed c.note_end.ensures.more)

pub shorten-requires : goal.shorten-requires
shorten-requires c =
    let found = sym c.in_ok-end.ensures ∙ c.in-Some.is in
    rw (c.in_ok-keep.ensures.kept, c.len-count.ensures.value)
    (split_done 0 c.args.at (c.in-Some.end, c.in-Some.front, c.in-Some.was_lost) c.args.segments.now.entries c.requires.apart found).0

pub returns-clause-cut : goal.returns-clause-cut
returns-clause-cut c =
    let found = sym c.in_ok-end.ensures ∙ c.in-Some.is in
    rw (c.shorten.ensures, c.in_ok-keep.ensures.kept, c.len-count.ensures.value)
    (split_done 0 c.args.at (c.in-Some.end, c.in-Some.front, c.in-Some.was_lost) c.args.segments.now.entries c.requires.apart found).1

pub returns-clause-listed : goal.returns-clause-listed
returns-clause-listed c =
    let found = sym c.in_ok-end.ensures ∙ c.in-Some.is in
    let more = listed_more c.args.segments.now.entries c.args.lost.now.keys c.note_end.new.lost.keys c.requires.listed c.note_end.ensures.more in
    rw (
      c.shorten.ensures,
      c.in_ok-keep.ensures.kept,
      c.len-count.ensures.value,
      (split_done 0 c.args.at (c.in-Some.end, c.in-Some.front, c.in-Some.was_lost) c.args.segments.now.entries c.requires.apart found).1,
    )
    (split_listed c.args.at c.args.segments.now.entries c.note_end.new.lost.keys more
    (front_lost c.args.at (c.in-Some.end, c.in-Some.front, c.in-Some.was_lost) c.args.segments.now.entries c.note_end.new.lost.keys found c.in_ok-note_end.ensures.noted))
