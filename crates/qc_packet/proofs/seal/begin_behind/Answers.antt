use Rattle.std.specs.Prelude.{Option, IfOk, IfSome, Err}
use Rattle.std.proofs.Common.{◌≡◌, ℕ, ◌+◌, ◌∙◌, length, ap, subst, arith}
use Rattle.qc_packet.specs.declared.slot.BuildError.TheVariants as error
use Rattle.qc_packet.specs.declared.slot.Kill.{Kill}
use Rattle.qc_packet.specs.Building.{builder_for, kill_of}
use Rattle.qc_packet.proofs.Behind.{kill_behind, tag_fits}
use Rattle.qc_packet.proofs.seal.begin_behind.Goals as goal

-- it is refused as it would be alone
pub returns-clause-kill : goal.returns-clause-kill
returns-clause-kill c =
    let start : c.len-start.result ≡ length c.args.buf.now.items = omega (arith, c.len-start.ensures) in
    let same : kill_of c.args.slot.now c.args.header.now (length c.args.buf.now.items) (c.len-start.result + c.args.capacity) ≡ kill_of c.args.slot.now c.args.header.now 0 c.args.capacity =
    ap (λ (n : ℕ). kill_of c.args.slot.now c.args.header.now (length c.args.buf.now.items) (n + c.args.capacity)) start
    ∙ kill_behind c.args.slot.now c.args.header.now (length c.args.buf.now.items) c.args.capacity (tag_fits c.args.header.now c.args.capacity c.requires.sized) in
    subst (λ (o : Option Kill). IfSome o (λ k. c.new.result ≡ Err (error.Kill k))) same c.new.ensures.kill

pub returns-clause-memory : goal.returns-clause-memory
returns-clause-memory c none =
    let start : c.len-start.result ≡ length c.args.buf.now.items = omega (arith, c.len-start.ensures) in
    let same : kill_of c.args.slot.now c.args.header.now (length c.args.buf.now.items) (c.len-start.result + c.args.capacity) ≡ kill_of c.args.slot.now c.args.header.now 0 c.args.capacity =
    ap (λ (n : ℕ). kill_of c.args.slot.now c.args.header.now (length c.args.buf.now.items) (n + c.args.capacity)) start
    ∙ kill_behind c.args.slot.now c.args.header.now (length c.args.buf.now.items) c.args.capacity (tag_fits c.args.header.now c.args.capacity c.requires.sized) in
    c.new.ensures.memory (same ∙ none)

-- and its builder knows where it begins
pub returns-clause-builder : goal.returns-clause-builder
returns-clause-builder c =
    let start : c.len-start.result ≡ length c.args.buf.now.items = omega (arith, c.len-start.ensures) in
    subst (λ (n : ℕ). IfOk c.new.result (λ b. b ≡ builder_for c.args.slot.now.space c.args.slot.now.number c.args.header.now (length c.args.buf.now.items) (n + c.args.capacity) n c.args.eliciting)) start c.new.ensures.builder
