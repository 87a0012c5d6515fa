use Rattle.std.proofs.Common.{◌≡◌, ◌+◌, ◌<◌, ◌≤◌, ◌∙◌, List, ℕ, ap, refl, length, arith}
use Rattle.std.specs.BTreeMap.{insert_entry}
use Rattle.std.specs.Ordering.{nat_cmp}
use Rattle.qc_assembler.specs.Parts.{undone, ends_at, one, part_begins, first_past, HasRoom, IsKept}
use Rattle.qc_assembler.proofs.Placing.{joints_few, insert_flat, insert_apart, insert_joints, insert_undone, undone_push}
use Rattle.qc_assembler.proofs.parts.place.Goals as goal

pub overflow_add-joined-2 : goal.overflow_add-joined-2
overflow_add-joined-2 c = omega (arith, joints_few c.args.parts.now.entries)

pub returns-clause-came : goal.returns-clause-came
returns-clause-came c =
    rw (c.in_default.ensures.kept, c.len.ensures.value)
    (insert_flat 0 c.args.offset (c.args.offset + length c.args.piece) c.args.piece c.args.parts.now.entries c.requires.kept.apart c.requires.some (omega arith) refl c.requires.room)

-- the parts with a new one, and the count with what joins it
kept_with : (es : List (ℕ × List ℕ)) (o j a b : ℕ) (bs : List ℕ) → IsKept es j → 0 < length bs → HasRoom (o + length bs) (first_past o es)
    → a ≡ one (ends_at o es) → b ≡ one (part_begins (o + length bs) (first_past o es))
    → IsKept (insert_entry nat_cmp es (o + length bs) bs) (j + (a + b))
kept_with es o j a b bs kept some room left right =
    let low : 0 ≤ o = omega arith in
    let all = insert_joints 0 o (o + length bs) bs es kept.apart some low refl room in
    let count = kept.count in
    record { apart = insert_apart 0 o (o + length bs) bs es kept.apart some low refl room; count = omega (arith, all, count, left, right) }

pub returns-clause-kept : goal.returns-clause-kept
unfolding ends_at
returns-clause-kept c =
    rw (c.in_default.ensures.kept, c.len.ensures.value)
    (kept_with c.args.parts.now.entries c.args.offset c.args.joined.now c.one.result c.one-2.result c.args.piece c.requires.kept c.requires.some c.requires.room
    (c.one.ensures.value ∙ ap one c.contains_key-follows.ensures) (c.one-2.ensures.value ∙ ap one c.requires.next))

pub returns-clause-undo : goal.returns-clause-undo
returns-clause-undo c =
    rw (c.in_ok-push.ensures.items, c.in_default.ensures.kept, c.len.ensures.value)
    (undone_push c.args.placed.now.items (c.args.offset + length c.args.piece) (insert_entry nat_cmp c.args.parts.now.entries (c.args.offset + length c.args.piece) c.args.piece)
    ∙ ap (λ (l : List (ℕ × List ℕ)). undone c.args.placed.now.items l)
    (insert_undone 0 c.args.offset (c.args.offset + length c.args.piece) c.args.piece c.args.parts.now.entries c.requires.kept.apart c.requires.some (omega arith) refl c.requires.room))
