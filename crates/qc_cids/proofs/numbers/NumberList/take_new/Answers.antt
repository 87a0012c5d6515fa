use Rattle.std.proofs.Common.{◌≡◌, ◌∙◌, length, nat_eq, true, false, vec_len, vec_capacity}
use Rattle.qc_ids.specs.CidQueue.{active_of}
use Rattle.qc_cids.proofs.Leaving.{insert_room, leaves_err, leaves_none, leaves_ok}
use Rattle.qc_cids.proofs.numbers.NumberList.take_new.Goals as goal

pub returns-then-is_empty-clause-refused : goal.returns-then-is_empty-clause-refused
returns-then-is_empty-clause-refused c =
    let empty : nat_eq (length (active_of c.args.queue.now)) 0 ≡ true = cc in
    let left = leaves_none c.args.cid c.args.queue.now c.args.self.now empty in
    rw c.violation.ensures left.refused

pub returns-then-is_empty-clause-token : goal.returns-then-is_empty-clause-token
returns-then-is_empty-clause-token c =
    let empty : nat_eq (length (active_of c.args.queue.now)) 0 ≡ true = cc in
    let left = leaves_none c.args.cid c.args.queue.now c.args.self.now empty in
    rw c.violation.ensures left.token

pub returns-then-is_empty-clause-queue : goal.returns-then-is_empty-clause-queue
returns-then-is_empty-clause-queue c =
    let empty : nat_eq (length (active_of c.args.queue.now)) 0 ≡ true = cc in
    let left = leaves_none c.args.cid c.args.queue.now c.args.self.now empty in
    left.queue

pub returns-then-is_empty-clause-numbers : goal.returns-then-is_empty-clause-numbers
returns-then-is_empty-clause-numbers c =
    let empty : nat_eq (length (active_of c.args.queue.now)) 0 ≡ true = cc in
    let left = leaves_none c.args.cid c.args.queue.now c.args.self.now empty in
    left.numbers

pub retire_range-requires : goal.retire_range-requires
retire_range-requires c = insert_room c.args.cid c.args.queue.now c.in-Ok.answer (vec_len c.reserve.new.self) (vec_capacity c.reserve.new.self) c.in_ok-reserve.ensures.ok c.in-Ok.ensures.answer

pub returns-in-Ok-clause-refused : goal.returns-in-Ok-clause-refused
returns-in-Ok-clause-refused c =
    let full : nat_eq (length (active_of c.args.queue.now)) 0 ≡ false = cc in
    let left = leaves_ok c.args.cid c.args.queue.now c.args.self.now c.in-Ok.answer full c.in-Ok.ensures.retired c.in-Ok.ensures.exceeds c.in-Ok.ensures.answer in
    rw c.taken.ensures left.refused

pub returns-in-Ok-clause-token : goal.returns-in-Ok-clause-token
returns-in-Ok-clause-token c =
    let full : nat_eq (length (active_of c.args.queue.now)) 0 ≡ false = cc in
    let left = leaves_ok c.args.cid c.args.queue.now c.args.self.now c.in-Ok.answer full c.in-Ok.ensures.retired c.in-Ok.ensures.exceeds c.in-Ok.ensures.answer in
    rw (c.taken.ensures, c.retire_range.ensures.token) left.token

pub returns-in-Ok-clause-queue : goal.returns-in-Ok-clause-queue
returns-in-Ok-clause-queue c =
    let full : nat_eq (length (active_of c.args.queue.now)) 0 ≡ false = cc in
    let left = leaves_ok c.args.cid c.args.queue.now c.args.self.now c.in-Ok.answer full c.in-Ok.ensures.retired c.in-Ok.ensures.exceeds c.in-Ok.ensures.answer in
    rw c.in-Ok.ensures.kept left.queue

pub returns-in-Ok-clause-numbers : goal.returns-in-Ok-clause-numbers
returns-in-Ok-clause-numbers c =
    let full : nat_eq (length (active_of c.args.queue.now)) 0 ≡ false = cc in
    let left = leaves_ok c.args.cid c.args.queue.now c.args.self.now c.in-Ok.answer full c.in-Ok.ensures.retired c.in-Ok.ensures.exceeds c.in-Ok.ensures.answer in
    let same : c.reserve.new.self.items ≡ c.args.self.now = c.reserve.ensures.items ∙ c.self.view_is in
    rw (c.retire_range.ensures.numbers, same) left.numbers

pub returns-in-Err-clause-refused : goal.returns-in-Err-clause-refused
returns-in-Err-clause-refused c =
    let full : nat_eq (length (active_of c.args.queue.now)) 0 ≡ false = cc in
    let left = leaves_err c.args.cid c.args.queue.now c.reserve.new.self.items c.not_kept.new.numbers.items c.in-Err.error c.not_kept.result full
    c.in-Err.ensures.retired c.in-Err.ensures.exceeds c.not_kept.ensures.retired c.not_kept.ensures.exceeds in
    left.refused

pub returns-in-Err-clause-token : goal.returns-in-Err-clause-token
returns-in-Err-clause-token c =
    let full : nat_eq (length (active_of c.args.queue.now)) 0 ≡ false = cc in
    let left = leaves_err c.args.cid c.args.queue.now c.reserve.new.self.items c.not_kept.new.numbers.items c.in-Err.error c.not_kept.result full
    c.in-Err.ensures.retired c.in-Err.ensures.exceeds c.not_kept.ensures.retired c.not_kept.ensures.exceeds in
    left.token

pub returns-in-Err-clause-queue : goal.returns-in-Err-clause-queue
returns-in-Err-clause-queue c =
    let full : nat_eq (length (active_of c.args.queue.now)) 0 ≡ false = cc in
    let left = leaves_err c.args.cid c.args.queue.now c.reserve.new.self.items c.not_kept.new.numbers.items c.in-Err.error c.not_kept.result full
    c.in-Err.ensures.retired c.in-Err.ensures.exceeds c.not_kept.ensures.retired c.not_kept.ensures.exceeds in
    rw c.in-Err.ensures.err left.queue

pub returns-in-Err-clause-numbers : goal.returns-in-Err-clause-numbers
returns-in-Err-clause-numbers c =
    let full : nat_eq (length (active_of c.args.queue.now)) 0 ≡ false = cc in
    let left = leaves_err c.args.cid c.args.queue.now c.reserve.new.self.items c.not_kept.new.numbers.items c.in-Err.error c.not_kept.result full
    c.in-Err.ensures.retired c.in-Err.ensures.exceeds c.not_kept.ensures.retired c.not_kept.ensures.exceeds in
    let same : c.reserve.new.self.items ≡ c.args.self.now = c.reserve.ensures.items ∙ c.self.view_is in
    rw (← same) left.numbers
