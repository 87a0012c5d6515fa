use Rattle.std.proofs.Common.{◌∙◌, ℕ, List, Option, Some, ◌++◌, length, ap, sym, arith}
use Rattle.qc_assembler.specs.Assembly.{bytes_of}
use Rattle.qc_assembler.specs.Chain.{linked}
use Rattle.qc_assembler.proofs.Chained.{linked_len, pushed, pushed_first, pushed_first_seen, pushed_seen, same_linked}
use Rattle.qc_assembler.proofs.Outcomes.{on_err}
use Rattle.qc_assembler.proofs.chain.Chain.push.Goals as goal

-- a first part

pub invariant_of-self : goal.invariant_of-self
invariant_of-self c =
    pushed_first c.self.inside.first c.self.inside.rest.items c.self.inside.len c.len-count.result c.args.bytes c.if-is_none.ensures c.self.invariant c.requires.some c.len-count.ensures.value

pub returns-then-is_none-clause-ok : goal.returns-then-is_none-clause-ok
returns-then-is_none-clause-ok c =
    pushed_first_seen c.self.inside.first c.self.inside.rest.items c.self.inside.len c.args.bytes c.if-is_none.ensures c.self.invariant
    ∙ ap (λ (v : Option (List ℕ)). (let q : Option (List ℕ) = Some (bytes_of v ++ c.args.bytes) in q)) c.self.view_is

-- a further one

pub invariant_of-self-in_err-add : goal.invariant_of-self-in_err-add
invariant_of-self-in_err-add c = same_linked c.self.inside.first c.self.inside.rest.items c.add.new.rest.items c.self.inside.len c.in_err-add.ensures.err c.self.invariant

pub returns-in_err-add-clause-err : goal.returns-in_err-add-clause-err
returns-in_err-add-clause-err c =
    on_err c.from_residual.result _ (ap (λ (l : List (List ℕ)). linked c.self.inside.first l) c.in_err-add.ensures.err ∙ c.self.view_is)

pub overflow_add-self : goal.overflow_add-self
overflow_add-self c =
    let len = linked_len c.self.inside.first c.self.inside.rest.items c.self.inside.len c.self.invariant ∙ ap (λ (v : Option (List ℕ)). length (bytes_of v)) c.self.view_is in
    omega (arith, len, c.requires.fits, c.len-count.ensures.value)

pub invariant_of-self-2 : goal.invariant_of-self-2
invariant_of-self-2 c =
    pushed c.self.inside.first c.self.inside.rest.items c.add.new.rest.items c.self.inside.len c.len-count.result c.args.bytes c.if-is_none.ensures c.in_ok-add.ensures.ok c.self.invariant c.requires.some c.len-count.ensures.value

pub returns-clause-ok : goal.returns-clause-ok
returns-clause-ok c =
    pushed_seen c.self.inside.first c.self.inside.rest.items c.add.new.rest.items c.args.bytes c.if-is_none.ensures c.in_ok-add.ensures.ok
    ∙ ap (λ (v : Option (List ℕ)). (let q : Option (List ℕ) = Some (bytes_of v ++ c.args.bytes) in q)) c.self.view_is
