use Rattle.std.proofs.Common.{◌≡◌, ◌∙◌, ℕ, List, ◌+◌, ◌<◌, ◌≤◌, length, drop, arith, ap, sym, subst, Option, None, Some}
use Rattle.qc_assembler.specs.Assembly.{Assembly, IsFirst, IsFront, advanced, bytes_of, chunk_bytes, chunk_offset}
use Rattle.qc_assembler.specs.Ahead.{AllUnread, listed, assembled}
use Rattle.qc_assembler.specs.Parts.{flat, Apart}
use Rattle.qc_assembler.proofs.Outcomes.{on_err}
use Rattle.qc_assembler.proofs.Unread.{from_parts, unread_beyond_read, unread_drop}
use Rattle.qc_assembler.proofs.ReadFront.{front_taken, front_missing, front_there, advance_taken, advance_none, begins_offset}
use Rattle.qc_assembler.proofs.FrontPart.{front_stands, front_within, taken_fits, taken_front, taken_after, taken_whole, tree_whole, tree_sound, tree_view, untouched}
use Rattle.qc_assembler.proofs.assembler.Assembler.read.Goals as goal

pub overflow_add-self : goal.overflow_add-self
overflow_add-self c =
    let fits = taken_fits (length (bytes_of c.in_ok-part.field-0)) c.self.inside.read c.self.inside.front c.self.inside.parts.entries c.in-Some.part (sym c.in-Some.is ∙ c.in_ok-part.ensures.chunk) c.self.invariant.alone in
    omega (arith, fits)

pub invariant_of-self-in-Some : goal.invariant_of-self-in-Some
invariant_of-self-in-Some c =
    rw c.len.ensures.value
    (taken_whole (length (bytes_of c.in_ok-part.field-0)) c.self.inside.read c.self.inside.joined c.self.inside.ahead.entries c.self.inside.front c.take.new.self c.self.inside.parts.entries c.in-Some.part
    (sym c.in-Some.is ∙ c.in_ok-part.ensures.chunk) c.in_ok-part.ensures.left c.self.invariant)

pub returns-in-Some-clause-front : goal.returns-in-Some-clause-front
returns-in-Some-clause-front c =
    let there = front_stands _ c.self.inside.front c.in-Some.part (sym c.in-Some.is ∙ c.in_ok-part.ensures.chunk) in
    rw (← c.self.view_is)
    (front_within (length (bytes_of c.in_ok-part.field-0)) c.args.most _ (Some c.in-Some.part)
    (subst (λ (x : Option (List ℕ)). length (bytes_of x) ≤ c.args.most) c.in-Some.is c.in_ok-part.ensures.within)
    (λ h. subst (λ (x : Option (List ℕ)). 0 < length (bytes_of x)) c.in-Some.is (c.in_ok-part.ensures.some h there))
    (taken_front (length (bytes_of c.in_ok-part.field-0)) c.self.inside.read c.self.inside.joined c.self.inside.ahead.entries c.self.inside.front c.self.inside.parts.entries c.in-Some.part
    (sym c.in-Some.is ∙ c.in_ok-part.ensures.chunk) c.self.invariant))

pub returns-in-Some-clause-after : goal.returns-in-Some-clause-after
unfolding bytes_of
returns-in-Some-clause-after c =
    rw (← c.self.view_is, c.len.ensures.value)
    (taken_after (length (bytes_of c.in_ok-part.field-0)) c.self.inside.read c.self.inside.joined c.self.inside.ahead.entries c.self.inside.front c.take.new.self c.self.inside.parts.entries c.in-Some.part
    (sym c.in-Some.is ∙ c.in_ok-part.ensures.chunk) c.in_ok-part.ensures.left c.self.invariant)

pub begins_at-requires : goal.begins_at-requires
begins_at-requires c =
    let none = untouched (length (bytes_of c.in_ok-part.field-0)) c.self.inside.front c.take.new.self c.in_ok-part.field-0 c.in_ok-part.ensures.chunk c.in_default.is c.in_ok-part.ensures.left in
    (tree_sound c.self.inside.read c.self.inside.joined c.self.inside.ahead.entries c.self.inside.front c.self.inside.parts.entries none.0 c.self.invariant).kept.apart

pub invariant_of-self-then-not-begins_at : goal.invariant_of-self-then-not-begins_at
invariant_of-self-then-not-begins_at c =
    let none = untouched (length (bytes_of c.in_ok-part.field-0)) c.self.inside.front c.take.new.self c.in_ok-part.field-0 c.in_ok-part.ensures.chunk c.in_default.is c.in_ok-part.ensures.left in
    let sound = tree_sound c.self.inside.read c.self.inside.joined c.self.inside.ahead.entries c.self.inside.front c.self.inside.parts.entries none.0 c.self.invariant in
    tree_whole c.self.inside.read c.self.inside.joined c.self.inside.ahead.entries c.take.new.self c.self.inside.parts.entries none.1 sound

pub returns-then-not-begins_at-clause-front : goal.returns-then-not-begins_at-clause-front
returns-then-not-begins_at-clause-front c =
    let none = untouched (length (bytes_of c.in_ok-part.field-0)) c.self.inside.front c.take.new.self c.in_ok-part.field-0 c.in_ok-part.ensures.chunk c.in_default.is c.in_ok-part.ensures.left in
    let view = sym (tree_view c.self.inside.read c.self.inside.ahead.entries c.self.inside.front c.self.inside.parts.entries none.0) ∙ c.self.view_is in
    subst (λ (a : Assembly). IsFront c.args.most a None) view
    (front_missing c.args.most c.self.inside.read c.self.inside.ahead.entries c.self.inside.parts.entries (sym c.if-not-begins_at.ensures))

pub returns-then-not-begins_at-clause-after : goal.returns-then-not-begins_at-clause-after
unfolding bytes_of
returns-then-not-begins_at-clause-after c =
    let none = untouched (length (bytes_of c.in_ok-part.field-0)) c.self.inside.front c.take.new.self c.in_ok-part.field-0 c.in_ok-part.ensures.chunk c.in_default.is c.in_ok-part.ensures.left in
    let view = sym (tree_view c.self.inside.read c.self.inside.ahead.entries c.self.inside.front c.self.inside.parts.entries none.0) ∙ c.self.view_is in
    tree_view c.self.inside.read c.self.inside.ahead.entries c.take.new.self c.self.inside.parts.entries none.1 ∙ view ∙ advance_none c.args.self.now

pub take_front-requires : goal.take_front-requires
take_front-requires c =
    let none = untouched (length (bytes_of c.in_ok-part.field-0)) c.self.inside.front c.take.new.self c.in_ok-part.field-0 c.in_ok-part.ensures.chunk c.in_default.is c.in_ok-part.ensures.left in
    let sound = tree_sound c.self.inside.read c.self.inside.joined c.self.inside.ahead.entries c.self.inside.front c.self.inside.parts.entries none.0 c.self.invariant in
    record { kept = sound.kept }

pub invariant_of-self-in_err-chunk : goal.invariant_of-self-in_err-chunk
invariant_of-self-in_err-chunk c =
    let none = untouched (length (bytes_of c.in_ok-part.field-0)) c.self.inside.front c.take.new.self c.in_ok-part.field-0 c.in_ok-part.ensures.chunk c.in_default.is c.in_ok-part.ensures.left in
    let sound = tree_sound c.self.inside.read c.self.inside.joined c.self.inside.ahead.entries c.self.inside.front c.self.inside.parts.entries none.0 c.self.invariant in
    tree_whole c.self.inside.read c.take_front.new.joined c.self.inside.ahead.entries c.take.new.self c.take_front.new.parts.entries none.1
    (record {
      kept = c.in_err-chunk.ensures.kept;
      ascending = sound.ascending;
      unread = subst (λ (l : List (ℕ × List ℕ)). AllUnread c.self.inside.read (listed c.self.inside.ahead.entries) (flat l)) (sym c.in_err-chunk.ensures.err) sound.unread;
    })

pub returns-in_err-chunk-clause-err : goal.returns-in_err-chunk-clause-err
returns-in_err-chunk-clause-err c =
    let none = untouched (length (bytes_of c.in_ok-part.field-0)) c.self.inside.front c.take.new.self c.in_ok-part.field-0 c.in_ok-part.ensures.chunk c.in_default.is c.in_ok-part.ensures.left in
    let view = sym (tree_view c.self.inside.read c.self.inside.ahead.entries c.self.inside.front c.self.inside.parts.entries none.0) ∙ c.self.view_is in
    on_err c.from_residual-in_err-chunk.result _
    (tree_view c.self.inside.read c.self.inside.ahead.entries c.take.new.self c.take_front.new.parts.entries none.1
    ∙ ap (λ (l : List (ℕ × List ℕ)). assembled c.self.inside.read c.self.inside.ahead.entries l) c.in_err-chunk.ensures.err ∙ view)

pub invariant_of-self-in_default-2 : goal.invariant_of-self-in_default-2
invariant_of-self-in_default-2 c =
    let some = subst (λ (x : Option (ℕ × List ℕ)). IsFirst c.args.most (flat c.self.inside.parts.entries) x) c.in_default-2.is c.in_ok-chunk.ensures.front in
    absurd (front_there c.args.most c.self.inside.read c.self.inside.parts.entries (sym c.if-not-begins_at.ensures) some)

pub returns-in_default-2-clause-front : goal.returns-in_default-2-clause-front
returns-in_default-2-clause-front c =
    let some = subst (λ (x : Option (ℕ × List ℕ)). IsFirst c.args.most (flat c.self.inside.parts.entries) x) c.in_default-2.is c.in_ok-chunk.ensures.front in
    absurd (front_there c.args.most c.self.inside.read c.self.inside.parts.entries (sym c.if-not-begins_at.ensures) some)

pub returns-in_default-2-clause-after : goal.returns-in_default-2-clause-after
returns-in_default-2-clause-after c =
    let some = subst (λ (x : Option (ℕ × List ℕ)). IsFirst c.args.most (flat c.self.inside.parts.entries) x) c.in_default-2.is c.in_ok-chunk.ensures.front in
    absurd (front_there c.args.most c.self.inside.read c.self.inside.parts.entries (sym c.if-not-begins_at.ensures) some)

pub overflow_add-self-2 : goal.overflow_add-self-2
unfolding chunk_bytes chunk_offset
overflow_add-self-2 c =
    let first = subst (λ (x : Option (ℕ × List ℕ)). IsFirst c.args.most (flat c.self.inside.parts.entries) x) c.in-Some-2.is c.in_ok-chunk.ensures.front in
    let fits = subst (λ (x : Option (ℕ × List ℕ)). chunk_offset x + length (chunk_bytes x) < 18446744073709551616) c.in-Some-2.is c.in_ok-chunk.ensures.fits in
    let at = begins_offset c.self.inside.read c.in-Some-2.field-0-0 (flat c.self.inside.parts.entries) (sym c.if-not-begins_at.ensures) first.place in
    omega (arith, fits, at)

pub returns-clause-front : goal.returns-clause-front
returns-clause-front c =
    let none = untouched (length (bytes_of c.in_ok-part.field-0)) c.self.inside.front c.take.new.self c.in_ok-part.field-0 c.in_ok-part.ensures.chunk c.in_default.is c.in_ok-part.ensures.left in
    let view = sym (tree_view c.self.inside.read c.self.inside.ahead.entries c.self.inside.front c.self.inside.parts.entries none.0) ∙ c.self.view_is in
    let first = subst (λ (x : Option (ℕ × List ℕ)). IsFirst c.args.most (flat c.self.inside.parts.entries) x) c.in-Some-2.is c.in_ok-chunk.ensures.front in
    subst (λ (a : Assembly). IsFront c.args.most a (Some c.in-Some-2.chunk)) view
    (front_taken c.args.most c.self.inside.read c.in-Some-2.field-0-0 c.self.inside.ahead.entries c.self.inside.parts.entries c.in-Some-2.chunk (sym c.if-not-begins_at.ensures) first)

pub returns-clause-after : goal.returns-clause-after
unfolding bytes_of chunk_bytes
returns-clause-after c =
    let none = untouched (length (bytes_of c.in_ok-part.field-0)) c.self.inside.front c.take.new.self c.in_ok-part.field-0 c.in_ok-part.ensures.chunk c.in_default.is c.in_ok-part.ensures.left in
    let view = sym (tree_view c.self.inside.read c.self.inside.ahead.entries c.self.inside.front c.self.inside.parts.entries none.0) ∙ c.self.view_is in
    let left = subst (λ (x : Option (ℕ × List ℕ)). flat c.take_front.new.parts.entries ≡ drop (length (chunk_bytes x)) (flat c.self.inside.parts.entries)) c.in-Some-2.is c.in_ok-chunk.ensures.left in
    rw c.len-2.ensures.value
    (tree_view (c.self.inside.read + length c.in-Some-2.chunk) c.self.inside.ahead.entries c.take.new.self c.take_front.new.parts.entries none.1
    ∙ advance_taken (length c.in-Some-2.chunk) c.self.inside.read c.self.inside.ahead.entries c.self.inside.parts.entries c.take_front.new.parts.entries left
    ∙ ap (λ (a : Assembly). advanced (length c.in-Some-2.chunk) a) view)

pub invariant_of-self-2 : goal.invariant_of-self-2
unfolding chunk_bytes chunk_offset
invariant_of-self-2 c =
    let none = untouched (length (bytes_of c.in_ok-part.field-0)) c.self.inside.front c.take.new.self c.in_ok-part.field-0 c.in_ok-part.ensures.chunk c.in_default.is c.in_ok-part.ensures.left in
    let sound = tree_sound c.self.inside.read c.self.inside.joined c.self.inside.ahead.entries c.self.inside.front c.self.inside.parts.entries none.0 c.self.invariant in
    let first = subst (λ (x : Option (ℕ × List ℕ)). IsFirst c.args.most (flat c.self.inside.parts.entries) x) c.in-Some-2.is c.in_ok-chunk.ensures.front in
    let left = subst (λ (x : Option (ℕ × List ℕ)). flat c.take_front.new.parts.entries ≡ drop (length (chunk_bytes x)) (flat c.self.inside.parts.entries)) c.in-Some-2.is c.in_ok-chunk.ensures.left in
    let behind = subst (λ (x : Option (ℕ × List ℕ)). Apart (chunk_offset x + length (chunk_bytes x)) c.take_front.new.parts.entries) c.in-Some-2.is c.in_ok-chunk.ensures.behind in
    let at = begins_offset c.self.inside.read c.in-Some-2.field-0-0 (flat c.self.inside.parts.entries) (sym c.if-not-begins_at.ensures) first.place in
    let end : c.in-Some-2.field-0-0 + length c.in-Some-2.chunk ≡ c.self.inside.read + c.len-2.result = omega (arith, at) in
    let apart = subst (λ (i : ℕ). Apart i c.take_front.new.parts.entries) end behind in
    let unread = subst (λ (v : List (ℕ × ℕ)). AllUnread c.self.inside.read (listed c.self.inside.ahead.entries) v) (sym left)
    (unread_drop c.self.inside.read (length c.in-Some-2.chunk) (listed c.self.inside.ahead.entries) (flat c.self.inside.parts.entries) sound.unread) in
    tree_whole (c.self.inside.read + c.len-2.result) c.take_front.new.joined c.self.inside.ahead.entries c.take.new.self c.take_front.new.parts.entries none.1
    (record {
      kept = c.in_ok-chunk.ensures.kept;
      ascending = sound.ascending;
      unread = unread_beyond_read c.self.inside.read (c.self.inside.read + c.len-2.result) (listed c.self.inside.ahead.entries) (flat c.take_front.new.parts.entries)
          (from_parts (c.self.inside.read + c.len-2.result) c.take_front.new.parts.entries apart) unread;
    })
