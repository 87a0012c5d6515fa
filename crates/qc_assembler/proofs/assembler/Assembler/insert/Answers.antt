use Rattle.std.proofs.Common.{◌∙◌, ◌+◌, ℕ, List, Option, length, ap, sym, arith, refl}
use Rattle.qc_assembler.specs.Assembly.{Assembly, bytes_of, inserted}
use Rattle.qc_assembler.specs.Ahead.{assembled}
use Rattle.qc_assembler.specs.Waiting.{entries_with}
use Rattle.qc_assembler.proofs.Outcomes.{on_ok_map, on_err_map, where_ok}
use Rattle.qc_assembler.proofs.FrontPart.{followed_whole, more_few, more_inserted, tree_whole, tree_view}
use Rattle.qc_assembler.proofs.assembler.Assembler.insert.Goals as goal

pub follow-requires-clause-some : goal.follow-requires-clause-some
follow-requires-clause-some c = c.if-is_next.ensures.some refl

pub follow-requires-clause-fits : goal.follow-requires-clause-fits
follow-requires-clause-fits c =
    let place = c.if-is_next.ensures.place refl in
    omega (arith, place, c.requires)

pub invariant_of-self : goal.invariant_of-self
invariant_of-self c =
    let next = c.if-is_next.ensures in
    let place = next.place refl in
    followed_whole c.follow.result c.self.inside.read c.self.inside.joined c.self.inside.ahead.entries c.self.inside.front c.follow.new.front c.args.bytes c.self.inside.parts.entries (next.ranges refl) (next.parts refl)
    (next.some refl) (omega (arith, place, c.requires)) c.follow.ensures.ok c.follow.ensures.err c.self.invariant

pub returns-then-is_next-clause-came : goal.returns-then-is_next-clause-came
returns-then-is_next-clause-came c =
    let next = c.if-is_next.ensures in
    on_ok_map c.follow.result _ _ c.follow.ensures.ok
    (λ is.
    more_inserted c.self.inside.read c.self.inside.ahead.entries c.self.inside.front c.follow.new.front c.args.bytes c.self.inside.parts.entries (next.ranges refl) (next.parts refl) is
    ∙ ap (λ (a : Assembly). inserted (c.self.inside.read + length (bytes_of c.self.inside.front)) c.args.bytes a) c.self.view_is
    ∙ ap (λ (i : ℕ). inserted i c.args.bytes c.args.self.now) (sym (next.place refl)))

pub returns-then-is_next-clause-few : goal.returns-then-is_next-clause-few
returns-then-is_next-clause-few c =
    let next = c.if-is_next.ensures in
    on_ok_map c.follow.result _ _ c.follow.ensures.ok
    (λ is.
    more_few c.self.inside.read c.self.inside.ahead.entries c.self.inside.front c.follow.new.front c.args.bytes c.self.inside.parts.entries (inserted c.args.offset c.args.bytes c.args.self.now) (next.some refl) is
    (more_inserted c.self.inside.read c.self.inside.ahead.entries c.self.inside.front c.follow.new.front c.args.bytes c.self.inside.parts.entries (next.ranges refl) (next.parts refl) is
    ∙ ap (λ (a : Assembly). inserted (c.self.inside.read + length (bytes_of c.self.inside.front)) c.args.bytes a) c.self.view_is
    ∙ ap (λ (i : ℕ). inserted i c.args.bytes c.args.self.now) (sym (next.place refl))))

pub returns-then-is_next-clause-many : goal.returns-then-is_next-clause-many
returns-then-is_next-clause-many c many = absurd (c.follow.ensures.few many)

pub returns-then-is_next-clause-err : goal.returns-then-is_next-clause-err
returns-then-is_next-clause-err c =
    on_err_map c.follow.result _ _ c.follow.ensures.err
    (λ same. ap (λ (f : Option (List ℕ)). assembled c.self.inside.read c.self.inside.ahead.entries (entries_with c.self.inside.read f c.self.inside.parts.entries)) same ∙ c.self.view_is)

pub invariant_of-self-2 : goal.invariant_of-self-2
invariant_of-self-2 c =
    let gone = where_ok c.settle.result _ c.if-is_err.ensures.value c.settle.ensures.gone in
    tree_whole c.self.inside.read c.insert_or_undo.new.joined c.self.inside.ahead.entries c.settle.new.front c.insert_or_undo.new.parts.entries gone
    (record { kept = c.insert_or_undo.ensures.kept; ascending = c.self.invariant.sound.ascending; unread = c.insert_or_undo.ensures.unread })

-- what waited before, all in the tree
pub returns-clause-came : goal.returns-clause-came
returns-clause-came c =
    let gone = where_ok c.settle.result _ c.if-is_err.ensures.value c.settle.ensures.gone in
    let moved = where_ok c.settle.result _ c.if-is_err.ensures.value c.settle.ensures.moved in
    on_ok_map c.insert_or_undo.result _ _ c.insert_or_undo.ensures.came
    (λ came.
    tree_view c.self.inside.read c.self.inside.ahead.entries c.settle.new.front c.insert_or_undo.new.parts.entries gone ∙ came
    ∙ ap (λ (l : List (ℕ × List ℕ)). inserted c.args.offset c.args.bytes (assembled c.self.inside.read c.self.inside.ahead.entries l)) moved
    ∙ ap (λ (a : Assembly). inserted c.args.offset c.args.bytes a) c.self.view_is)

pub returns-clause-err : goal.returns-clause-err
returns-clause-err c =
    let gone = where_ok c.settle.result _ c.if-is_err.ensures.value c.settle.ensures.gone in
    let moved = where_ok c.settle.result _ c.if-is_err.ensures.value c.settle.ensures.moved in
    on_err_map c.insert_or_undo.result _ _ c.insert_or_undo.ensures.err
    (λ same.
    tree_view c.self.inside.read c.self.inside.ahead.entries c.settle.new.front c.insert_or_undo.new.parts.entries gone
    ∙ ap (λ (l : List (ℕ × List ℕ)). assembled c.self.inside.read c.self.inside.ahead.entries l) (same ∙ moved) ∙ c.self.view_is)
