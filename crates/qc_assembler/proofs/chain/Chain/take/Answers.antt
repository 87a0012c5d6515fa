use Rattle.std.proofs.Common.{◌≡◌, ◌∙◌, ◌<◌, ℕ, List, Option, IsTrue, length, take, ap, sym, subst, arith}
use Rattle.std.specs.Prelude.{is_some}
use Rattle.std.specs.Option.{option_map}
use Rattle.qc_assembler.specs.Assembly.{bytes_of}
use Rattle.qc_assembler.specs.Waiting.{front_left}
use Rattle.qc_assembler.specs.Chain.{linked}
use Rattle.qc_assembler.proofs.Chained.{cut_fits, cut_whole, cut_within, same_first}
use Rattle.qc_assembler.proofs.Outcomes.{on_err}
use Rattle.qc_assembler.proofs.chain.Chain.take.Goals as goal

pub invariant_of-self : goal.invariant_of-self
invariant_of-self c = same_first c.self.inside.first c.take_waiting.new.front c.self.inside.rest.items c.self.inside.len c.in_err-chunk.ensures.err c.self.invariant

pub returns-in_err-chunk-clause-err : goal.returns-in_err-chunk-clause-err
returns-in_err-chunk-clause-err c =
    on_err c.from_residual.result _ (ap (λ (f : Option (List ℕ)). linked f c.self.inside.rest.items) c.in_err-chunk.ensures.err ∙ c.self.view_is)

pub overflow_sub-self : goal.overflow_sub-self
overflow_sub-self c =
    let fits = cut_fits c.args.most c.self.inside.first c.in_ok-chunk.chunk c.self.inside.rest.items c.self.inside.len c.in_ok-chunk.ensures.chunk c.self.invariant in
    omega (arith, fits, c.chunk_len.ensures)

-- the first part is taken, and the next one stands in its place

pub invariant_of-self-then-is_none : goal.invariant_of-self-then-is_none
invariant_of-self-then-is_none c =
    (cut_whole c.args.most c.self.inside.len c.chunk_len.result c.self.inside.first c.take_waiting.new.front c.in_ok-chunk.chunk c.next_of.result c.self.inside.rest.items c.next_of.new.rest.items
    c.in_ok-chunk.ensures.chunk c.in_ok-chunk.ensures.left c.if-is_none.ensures c.self.invariant c.chunk_len.ensures c.next_of.ensures.first c.next_of.ensures.none).sound

pub returns-then-is_none-clause-chunk : goal.returns-then-is_none-clause-chunk
returns-then-is_none-clause-chunk c =
    (cut_whole c.args.most c.self.inside.len c.chunk_len.result c.self.inside.first c.take_waiting.new.front c.in_ok-chunk.chunk c.next_of.result c.self.inside.rest.items c.next_of.new.rest.items
    c.in_ok-chunk.ensures.chunk c.in_ok-chunk.ensures.left c.if-is_none.ensures c.self.invariant c.chunk_len.ensures c.next_of.ensures.first c.next_of.ensures.none).chunk_is
    ∙ ap (λ (v : Option (List ℕ)). option_map (λ p. take (length (bytes_of c.in_ok-chunk.chunk)) p) v) c.self.view_is

pub returns-then-is_none-clause-within : goal.returns-then-is_none-clause-within
returns-then-is_none-clause-within c =
    (cut_whole c.args.most c.self.inside.len c.chunk_len.result c.self.inside.first c.take_waiting.new.front c.in_ok-chunk.chunk c.next_of.result c.self.inside.rest.items c.next_of.new.rest.items
    c.in_ok-chunk.ensures.chunk c.in_ok-chunk.ensures.left c.if-is_none.ensures c.self.invariant c.chunk_len.ensures c.next_of.ensures.first c.next_of.ensures.none).within

pub returns-then-is_none-clause-some : goal.returns-then-is_none-clause-some
returns-then-is_none-clause-some c =
    subst (λ (v : Option (List ℕ)). 0 < c.args.most → IsTrue (is_some v) → 0 < length (bytes_of c.in_ok-chunk.chunk)) c.self.view_is
    (cut_whole c.args.most c.self.inside.len c.chunk_len.result c.self.inside.first c.take_waiting.new.front c.in_ok-chunk.chunk c.next_of.result c.self.inside.rest.items c.next_of.new.rest.items
    c.in_ok-chunk.ensures.chunk c.in_ok-chunk.ensures.left c.if-is_none.ensures c.self.invariant c.chunk_len.ensures c.next_of.ensures.first c.next_of.ensures.none).some

pub returns-then-is_none-clause-left : goal.returns-then-is_none-clause-left
returns-then-is_none-clause-left c =
    (cut_whole c.args.most c.self.inside.len c.chunk_len.result c.self.inside.first c.take_waiting.new.front c.in_ok-chunk.chunk c.next_of.result c.self.inside.rest.items c.next_of.new.rest.items
    c.in_ok-chunk.ensures.chunk c.in_ok-chunk.ensures.left c.if-is_none.ensures c.self.invariant c.chunk_len.ensures c.next_of.ensures.first c.next_of.ensures.none).left_is
    ∙ ap (λ (v : Option (List ℕ)). front_left (length (bytes_of c.in_ok-chunk.chunk)) v) c.self.view_is

-- some of the first part is left

pub invariant_of-self-else-is_none : goal.invariant_of-self-else-is_none
invariant_of-self-else-is_none c =
    (cut_within c.args.most c.self.inside.len c.chunk_len.result c.self.inside.first c.take_waiting.new.front c.in_ok-chunk.chunk c.self.inside.rest.items
    c.in_ok-chunk.ensures.chunk c.in_ok-chunk.ensures.left c.if-is_none.ensures c.self.invariant c.chunk_len.ensures).sound

pub returns-clause-chunk : goal.returns-clause-chunk
returns-clause-chunk c =
    (cut_within c.args.most c.self.inside.len c.chunk_len.result c.self.inside.first c.take_waiting.new.front c.in_ok-chunk.chunk c.self.inside.rest.items
    c.in_ok-chunk.ensures.chunk c.in_ok-chunk.ensures.left c.if-is_none.ensures c.self.invariant c.chunk_len.ensures).chunk_is
    ∙ ap (λ (v : Option (List ℕ)). option_map (λ p. take (length (bytes_of c.in_ok-chunk.chunk)) p) v) c.self.view_is

pub returns-clause-within : goal.returns-clause-within
returns-clause-within c =
    (cut_within c.args.most c.self.inside.len c.chunk_len.result c.self.inside.first c.take_waiting.new.front c.in_ok-chunk.chunk c.self.inside.rest.items
    c.in_ok-chunk.ensures.chunk c.in_ok-chunk.ensures.left c.if-is_none.ensures c.self.invariant c.chunk_len.ensures).within

pub returns-clause-some : goal.returns-clause-some
returns-clause-some c =
    subst (λ (v : Option (List ℕ)). 0 < c.args.most → IsTrue (is_some v) → 0 < length (bytes_of c.in_ok-chunk.chunk)) c.self.view_is
    (cut_within c.args.most c.self.inside.len c.chunk_len.result c.self.inside.first c.take_waiting.new.front c.in_ok-chunk.chunk c.self.inside.rest.items
    c.in_ok-chunk.ensures.chunk c.in_ok-chunk.ensures.left c.if-is_none.ensures c.self.invariant c.chunk_len.ensures).some

pub returns-clause-left : goal.returns-clause-left
returns-clause-left c =
    (cut_within c.args.most c.self.inside.len c.chunk_len.result c.self.inside.first c.take_waiting.new.front c.in_ok-chunk.chunk c.self.inside.rest.items
    c.in_ok-chunk.ensures.chunk c.in_ok-chunk.ensures.left c.if-is_none.ensures c.self.invariant c.chunk_len.ensures).left_is
    ∙ ap (λ (v : Option (List ℕ)). front_left (length (bytes_of c.in_ok-chunk.chunk)) v) c.self.view_is
