use Rattle.std.proofs.Common.{◌∙◌, false, arith, length, take, sym, refl}
use Rattle.qc_streams.proofs.Done.{written_still}
use Rattle.qc_streams.proofs.Fronts.{count_of, more_of, written_of}
use Rattle.qc_streams.proofs.JustWritten.{written_more}
use Rattle.qc_streams.proofs.Refused.{unplaced_so}
use Rattle.std.specs.List.{concat}
use Rattle.qc_streams.proofs.chunks.write.Goals as goal

pub returns-clause-count : goal.returns-clause-count
returns-clause-count c lacked =
    count_of _ (length (concat c.args.chunks.now)) c.args.most c.write_front-front.result.bytes c.args.sending.now c.test.new.sending (sym c.is_done.ensures ∙ c.if-is_done.false)
    c.in_ok-test.ensures.same
    (omega (arith, c.write_front-front.ensures.count lacked, c.min.ensures, c.saturating_sub-credit.ensures, c.written-written.ensures))

pub returns-clause-written : goal.returns-clause-written
returns-clause-written c =
    written_of _ _ c.args.sending.now c.test.new.sending c.write_front-front.new.buffer (sym c.is_done.ensures ∙ c.if-is_done.false) c.in_ok-test.ensures.same c.write_front-front.ensures.written

pub returns-clause-more : goal.returns-clause-more
returns-clause-more c =
    more_of c.write_front-front.result.bytes _ c.args.sending.now c.test.new.sending c.write_front-front.new.buffer c.write_front-front.ensures.there
    c.in_ok-test.ensures.same c.write_front-front.ensures.written

pub returns-clause-unplaced : goal.returns-clause-unplaced
returns-clause-unplaced c =
    unplaced_so c.args.most c.args.sending.now c.args.events.now c.put_by.new.events c.requires c.in_ok-put_by.ensures.added c.in_ok-test.ensures.fits

pub returns-clause-open : goal.returns-clause-open
returns-clause-open c =
    written_still c.args.most (take c.write_front-front.result.bytes (concat c.args.chunks.now)) c.args.sending.now _ c.in_ok-test.ensures.fits
    (written_of false _ c.args.sending.now c.test.new.sending c.write_front-front.new.buffer refl c.in_ok-test.ensures.same c.write_front-front.ensures.written)

pub is_owing-owes-requires : goal.is_owing-owes-requires
is_owing-owes-requires c some least =
    written_more c.args.most c.write_front-front.result.bytes (concat c.args.chunks.now) c.args.sending.now c.test.new.sending _ c.write_front-front.new.buffer
    c.in_ok-test.ensures.fits c.in_ok-test.ensures.same (omega (arith, least, c.sent-sent.ensures, c.written-written.ensures)) some
    c.write_front-front.ensures.there c.write_front-front.ensures.written refl
