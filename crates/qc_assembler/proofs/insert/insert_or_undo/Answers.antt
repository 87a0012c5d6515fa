use Rattle.std.proofs.Common.{◌≡◌, ℕ, ◌<◌, ◌≤◌, ◌∙◌, List, ap, sym, subst}
use Rattle.qc_assembler.specs.Assembly.{Assembly, part_count}
use Rattle.qc_assembler.specs.Parts.{flat, undone, IsKept}
use Rattle.qc_assembler.specs.Ahead.{AllUnread, listed, assembled}
use Rattle.qc_assembler.proofs.Outcomes.{on_err, on_ok_through, at_ok, where_ok}
use Rattle.qc_assembler.proofs.Unread.{unread_after}
use Rattle.qc_assembler.proofs.insert.insert_or_undo.Goals as goal
use Rattle.qc_assembler.proofs.insert.insert_or_undo.Goals.{After-undo}

-- what was kept before this call is kept again
as_before : (c : goal.After-undo) → c.undo.new.parts.entries ≡ c.args.parts.now.entries
unfolding undone
as_before c =
    c.undo.ensures.parts ∙ c.insert_all-outcome.ensures.undo ∙ ap (λ (ks : List ℕ). undone ks c.args.parts.now.entries) c.clear.ensures.items

pub returns-then-is_err-clause-kept : goal.returns-then-is_err-clause-kept
returns-then-is_err-clause-kept c = subst (λ (es : List (ℕ × List ℕ)). IsKept es c.args.joined.now) (sym (as_before c)) c.requires.kept

pub returns-then-is_err-clause-err : goal.returns-then-is_err-clause-err
returns-then-is_err-clause-err c = on_err c.judge-judged.result (c.undo.new.parts.entries ≡ c.args.parts.now.entries) (as_before c)

-- the count is that of what came with the bytes
counted : (read n : ℕ) (ranges : List (ℕ × ℕ)) (parts : List (ℕ × List ℕ)) (b : Assembly) → n ≡ part_count (flat parts) → assembled read ranges parts ≡ b → n ≡ part_count b.came
unfolding assembled
counted read n ranges parts b e all = e ∙ ap (λ (a : Assembly). part_count a.came) all

pub returns-then-is_err-clause-many : goal.returns-then-is_err-clause-many
returns-then-is_err-clause-many c =
    λ q.
    let many = c.judge-judged.ensures.many q in
    let came = at_ok c.insert_all-outcome.result _ many.1 c.insert_all-outcome.ensures.came in
    let all = counted c.args.read c.part_count.result c.args.ranges.now.entries c.insert_all-outcome.new.parts.entries _ c.part_count.ensures came in
    subst (λ (n : ℕ). 1024 < n) all many.0

pub returns-else-is_err-clause-few : goal.returns-else-is_err-clause-few
returns-else-is_err-clause-few c =
    on_ok_through c.judge-judged.result c.insert_all-outcome.result _ _ _ c.judge-judged.ensures.ok c.insert_all-outcome.ensures.came
    (λ (few : c.part_count.result ≤ 1024) came.
    subst (λ (n : ℕ). n ≤ 1024) (counted c.args.read c.part_count.result c.args.ranges.now.entries c.insert_all-outcome.new.parts.entries _ c.part_count.ensures came) few)

pub returns-then-is_err-clause-unread : goal.returns-then-is_err-clause-unread
returns-then-is_err-clause-unread c =
    subst (λ (es : List (ℕ × List ℕ)). AllUnread c.args.read (listed c.args.ranges.now.entries) (flat es)) (sym (as_before c)) c.requires.unread

pub returns-else-is_err-clause-unread : goal.returns-else-is_err-clause-unread
returns-else-is_err-clause-unread c =
    let ok = (where_ok c.judge-judged.result _ c.if-is_err.ensures.value c.judge-judged.ensures.ok).1 in
    unread_after c.args.read c.args.offset c.args.ranges.now.entries c.args.bytes c.args.parts.now.entries c.insert_all-outcome.new.parts.entries c.requires.unread
    (at_ok c.insert_all-outcome.result _ ok c.insert_all-outcome.ensures.came)
