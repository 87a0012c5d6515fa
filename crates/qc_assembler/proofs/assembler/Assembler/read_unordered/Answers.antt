use Rattle.std.proofs.Common.{◌≡◌, ◌∙◌, ℕ, List, ◌+◌, ◌-◌, ◌<◌, ◌≤◌, length, drop, arith, sym, ap, subst, refl, Option, None, Some}
use Rattle.qc_assembler.specs.Assembly.{Assembly, IsFirst, chunk_bytes, chunk_offset, noted, taken}
use Rattle.qc_assembler.specs.Parts.{flat, Apart, first_begin, first_length}
use Rattle.qc_assembler.specs.Ahead.{AllUnread, IsSound, listed, assembled}
use Rattle.qc_assembler.proofs.Outcomes.{on_err}
use Rattle.qc_assembler.proofs.Unread.{from_parts, unread_drop, unread_noted, gap_at}
use Rattle.qc_assembler.proofs.FrontPart.{moved_sound, tree_whole, tree_view}
use Rattle.qc_assembler.proofs.assembler.Assembler.read_unordered.Goals as goal

-- what is seen of the parts is what came
first_seen : (most read : ℕ) (ranges : List (ℕ × ℕ)) (parts : List (ℕ × List ℕ)) (a : Assembly) (chunk : Option (ℕ × List ℕ)) → assembled read ranges parts ≡ a
    → IsFirst most (flat parts) chunk → IsFirst most a.came chunk
unfolding assembled
first_seen most read ranges parts a chunk view first = subst (λ (b : Assembly). IsFirst most b.came chunk) view first

none_taken : (o n : ℕ) (a : Assembly) → n ≡ 0 → a ≡ taken o n a
unfolding taken noted
none_taken o n a e = rw e refl

pub invariant_of-self-in_err-offset : goal.invariant_of-self-in_err-offset
invariant_of-self-in_err-offset c =
    let sound = moved_sound c.self.inside.read c.self.inside.joined c.self.inside.ahead.entries c.self.inside.front c.self.inside.parts.entries c.settle.new.parts.entries c.in_ok-settle.ensures.moved c.self.invariant in
    tree_whole c.self.inside.read c.self.inside.joined c.self.inside.ahead.entries c.settle.new.front c.settle.new.parts.entries c.in_ok-settle.ensures.gone sound

pub returns-in_err-offset-clause-err : goal.returns-in_err-offset-clause-err
returns-in_err-offset-clause-err c =
    let view = ap (λ (l : List (ℕ × List ℕ)). assembled c.self.inside.read c.self.inside.ahead.entries l) c.in_ok-settle.ensures.moved ∙ c.self.view_is in
    on_err c.from_residual-in_err-offset.result _ (tree_view c.self.inside.read c.self.inside.ahead.entries c.settle.new.front c.settle.new.parts.entries c.in_ok-settle.ensures.gone ∙ view)

pub invariant_of-self-in_default : goal.invariant_of-self-in_default
invariant_of-self-in_default c =
    let sound = moved_sound c.self.inside.read c.self.inside.joined c.self.inside.ahead.entries c.self.inside.front c.self.inside.parts.entries c.settle.new.parts.entries c.in_ok-settle.ensures.moved c.self.invariant in
    tree_whole c.self.inside.read c.self.inside.joined c.self.inside.ahead.entries c.settle.new.front c.settle.new.parts.entries c.in_ok-settle.ensures.gone sound

pub returns-in_default-clause-first : goal.returns-in_default-clause-first
returns-in_default-clause-first c =
    let view = ap (λ (l : List (ℕ × List ℕ)). assembled c.self.inside.read c.self.inside.ahead.entries l) c.in_ok-settle.ensures.moved ∙ c.self.view_is in
    first_seen c.args.most c.self.inside.read c.self.inside.ahead.entries c.settle.new.parts.entries c.args.self.now None view
    (subst (λ (x : Option (ℕ × List ℕ)). IsFirst c.args.most (flat c.settle.new.parts.entries) x) c.in_default.is c.in_ok-offset.ensures.front)

pub returns-in_default-clause-after : goal.returns-in_default-clause-after
unfolding chunk_bytes chunk_offset
returns-in_default-clause-after c =
    let view = ap (λ (l : List (ℕ × List ℕ)). assembled c.self.inside.read c.self.inside.ahead.entries l) c.in_ok-settle.ensures.moved ∙ c.self.view_is in
    tree_view c.self.inside.read c.self.inside.ahead.entries c.settle.new.front c.settle.new.parts.entries c.in_ok-settle.ensures.gone ∙ view ∙ none_taken 0 0 c.args.self.now refl

pub invariant_of-self-then-count-eq0 : goal.invariant_of-self-then-count-eq0
invariant_of-self-then-count-eq0 c =
    let sound = moved_sound c.self.inside.read c.self.inside.joined c.self.inside.ahead.entries c.self.inside.front c.self.inside.parts.entries c.settle.new.parts.entries c.in_ok-settle.ensures.moved c.self.invariant in
    tree_whole c.self.inside.read c.self.inside.joined c.self.inside.ahead.entries c.settle.new.front c.settle.new.parts.entries c.in_ok-settle.ensures.gone sound

pub returns-then-count-eq0-clause-first : goal.returns-then-count-eq0-clause-first
returns-then-count-eq0-clause-first c =
    let view = ap (λ (l : List (ℕ × List ℕ)). assembled c.self.inside.read c.self.inside.ahead.entries l) c.in_ok-settle.ensures.moved ∙ c.self.view_is in
    first_seen c.args.most c.self.inside.read c.self.inside.ahead.entries c.settle.new.parts.entries c.args.self.now (Some (c.in-Some.offset, c.in-Some.chunk)) view
    (subst (λ (x : Option (ℕ × List ℕ)). IsFirst c.args.most (flat c.settle.new.parts.entries) x) c.in-Some.is c.in_ok-offset.ensures.front)

pub returns-then-count-eq0-clause-after : goal.returns-then-count-eq0-clause-after
unfolding chunk_bytes chunk_offset
returns-then-count-eq0-clause-after c =
    let view = ap (λ (l : List (ℕ × List ℕ)). assembled c.self.inside.read c.self.inside.ahead.entries l) c.in_ok-settle.ensures.moved ∙ c.self.view_is in
    tree_view c.self.inside.read c.self.inside.ahead.entries c.settle.new.front c.settle.new.parts.entries c.in_ok-settle.ensures.gone ∙ view
    ∙ none_taken c.in-Some.offset (length c.in-Some.chunk) c.args.self.now (sym c.len-count.ensures.value ∙ c.if-count-eq0.true)

pub overflow_add-offset : goal.overflow_add-offset
unfolding chunk_bytes chunk_offset
overflow_add-offset c =
    let fits = subst (λ (x : Option (ℕ × List ℕ)). chunk_offset x + length (chunk_bytes x) < 18446744073709551616) c.in-Some.is c.in_ok-offset.ensures.fits in
    omega (arith, fits)

pub note_range-requires-clause-gap : goal.note_range-requires-clause-gap
unfolding chunk_bytes chunk_offset
note_range-requires-clause-gap c =
    let sound = moved_sound c.self.inside.read c.self.inside.joined c.self.inside.ahead.entries c.self.inside.front c.self.inside.parts.entries c.settle.new.parts.entries c.in_ok-settle.ensures.moved c.self.invariant in
    let first = subst (λ (x : Option (ℕ × List ℕ)). IsFirst c.args.most (flat c.settle.new.parts.entries) x) c.in-Some.is c.in_ok-offset.ensures.front in
    gap_at c.self.inside.read c.in-Some.offset c.len-count.result c.self.inside.ahead.entries c.in-Some.chunk (drop (length c.in-Some.chunk) (flat c.settle.new.parts.entries))
    sound.ascending
    (subst (λ (v : List (ℕ × ℕ)). AllUnread c.self.inside.read (listed c.self.inside.ahead.entries) v) first.first sound.unread)
    c.len-count.ensures.value (omega arith)

pub invariant_of-self-in_err-note_range : goal.invariant_of-self-in_err-note_range
invariant_of-self-in_err-note_range c =
    let sound = moved_sound c.self.inside.read c.self.inside.joined c.self.inside.ahead.entries c.self.inside.front c.self.inside.parts.entries c.settle.new.parts.entries c.in_ok-settle.ensures.moved c.self.invariant in
    tree_whole c.self.inside.read c.self.inside.joined c.note_range.new.ranges.entries c.settle.new.front c.settle.new.parts.entries c.in_ok-settle.ensures.gone
    (subst (λ (l : List (ℕ × ℕ)). IsSound c.self.inside.read l c.settle.new.parts.entries c.self.inside.joined) (sym c.in_err-note_range.ensures.err) sound)

pub returns-in_err-note_range-clause-err : goal.returns-in_err-note_range-clause-err
returns-in_err-note_range-clause-err c =
    let view = ap (λ (l : List (ℕ × List ℕ)). assembled c.self.inside.read c.self.inside.ahead.entries l) c.in_ok-settle.ensures.moved ∙ c.self.view_is in
    on_err c.from_residual-in_err-note_range.result _
    (tree_view c.self.inside.read c.note_range.new.ranges.entries c.settle.new.front c.settle.new.parts.entries c.in_ok-settle.ensures.gone
    ∙ ap (λ (l : List (ℕ × ℕ)). assembled c.self.inside.read l c.settle.new.parts.entries) c.in_err-note_range.ensures.err ∙ view)

pub discard_front-requires-clause-within : goal.discard_front-requires-clause-within
unfolding chunk_bytes
discard_front-requires-clause-within c =
    let within = subst (λ (x : Option (ℕ × List ℕ)). length (chunk_bytes x) ≤ first_length c.settle.new.parts.entries) c.in-Some.is c.in_ok-offset.ensures.within in
    omega (arith, within)

pub invariant_of-self-2 : goal.invariant_of-self-2
unfolding chunk_offset
invariant_of-self-2 c =
    let sound = moved_sound c.self.inside.read c.self.inside.joined c.self.inside.ahead.entries c.self.inside.front c.self.inside.parts.entries c.settle.new.parts.entries c.in_ok-settle.ensures.moved c.self.invariant in
    let begin = subst (λ (x : Option (ℕ × List ℕ)). chunk_offset x ≡ first_begin c.settle.new.parts.entries) c.in-Some.is c.in_ok-offset.ensures.begin in
    let end : first_begin c.settle.new.parts.entries + c.len-count.result ≡ c.in-Some.offset + c.len-count.result = omega (arith, begin) in
    let n : c.in-Some.offset + c.len-count.result - c.in-Some.offset ≡ c.len-count.result = omega arith in
    let apart = subst (λ (i : ℕ). Apart i c.discard_front.new.parts.entries) end c.discard_front.ensures.behind in
    let unread = subst (λ (v : List (ℕ × ℕ)). AllUnread c.self.inside.read (listed c.self.inside.ahead.entries) v) (sym c.discard_front.ensures.left)
    (unread_drop c.self.inside.read c.len-count.result (listed c.self.inside.ahead.entries) (flat c.settle.new.parts.entries) sound.unread) in
    tree_whole c.self.inside.read c.discard_front.new.joined c.note_range.new.ranges.entries c.settle.new.front c.discard_front.new.parts.entries c.in_ok-settle.ensures.gone
    (record {
      kept = c.discard_front.ensures.kept;
      ascending = c.in_ok-note_range.ensures.ranges;
      unread = subst (λ (l : List ℕ). AllUnread c.self.inside.read l (flat c.discard_front.new.parts.entries))
          (sym (c.in_ok-note_range.ensures.noted ∙ ap (λ (i : ℕ). noted c.in-Some.offset i (listed c.self.inside.ahead.entries)) n))
          (unread_noted c.self.inside.read c.in-Some.offset c.len-count.result (listed c.self.inside.ahead.entries) (flat c.discard_front.new.parts.entries)
          (from_parts (c.in-Some.offset + c.len-count.result) c.discard_front.new.parts.entries apart) unread);
    })

pub returns-clause-first : goal.returns-clause-first
returns-clause-first c =
    let view = ap (λ (l : List (ℕ × List ℕ)). assembled c.self.inside.read c.self.inside.ahead.entries l) c.in_ok-settle.ensures.moved ∙ c.self.view_is in
    first_seen c.args.most c.self.inside.read c.self.inside.ahead.entries c.settle.new.parts.entries c.args.self.now (Some (c.in-Some.offset, c.in-Some.chunk)) view
    (subst (λ (x : Option (ℕ × List ℕ)). IsFirst c.args.most (flat c.settle.new.parts.entries) x) c.in-Some.is c.in_ok-offset.ensures.front)

-- what is left once n bytes at o are noted
noted_left : (read o n : ℕ) (ranges noted_ranges : List (ℕ × ℕ)) (old new : List (ℕ × List ℕ)) → listed noted_ranges ≡ noted o n (listed ranges) → flat new ≡ drop n (flat old)
    → assembled read noted_ranges new ≡ taken o n (assembled read ranges old)
unfolding assembled taken
noted_left read o n ranges noted_ranges old new ahead came = rw (ahead, came) refl

pub returns-clause-after : goal.returns-clause-after
unfolding chunk_bytes chunk_offset
returns-clause-after c =
    let view = ap (λ (l : List (ℕ × List ℕ)). assembled c.self.inside.read c.self.inside.ahead.entries l) c.in_ok-settle.ensures.moved ∙ c.self.view_is in
    let n : c.in-Some.offset + c.len-count.result - c.in-Some.offset ≡ length c.in-Some.chunk = omega (arith, c.len-count.ensures.value) in
    tree_view c.self.inside.read c.note_range.new.ranges.entries c.settle.new.front c.discard_front.new.parts.entries c.in_ok-settle.ensures.gone
    ∙ noted_left c.self.inside.read c.in-Some.offset (length c.in-Some.chunk) c.self.inside.ahead.entries c.note_range.new.ranges.entries c.settle.new.parts.entries c.discard_front.new.parts.entries
    (c.in_ok-note_range.ensures.noted ∙ ap (λ (i : ℕ). noted c.in-Some.offset i (listed c.self.inside.ahead.entries)) n)
    (c.discard_front.ensures.left ∙ ap (λ (i : ℕ). drop i (flat c.settle.new.parts.entries)) c.len-count.ensures.value)
    ∙ ap (λ (a : Assembly). taken c.in-Some.offset (length c.in-Some.chunk) a) view
