use Rattle.std.proofs.Common.{inl, inr, arith}
use Rattle.qc_base.proofs.Windows.{stays, goes_up, goes_down}
use Rattle.qc_base.proofs.packet_number.nearest.Goals as goal

pub returns-then-near-window-le-GREATEST : goal.returns-then-near-window-le-GREATEST
returns-then-near-window-le-GREATEST c =
    goes_up c.args.window c.args.low c.args.expected c.min-expected.result c.min-expected.ensures c.requires.some (omega arith) (omega arith) (omega arith)

pub returns-then-near-window : goal.returns-then-near-window
returns-then-near-window c =
    goes_down c.args.window c.args.low c.args.expected c.min-expected.result c.min-expected.ensures c.requires.some c.requires.whole (omega arith) (omega arith) (omega arith)

pub returns-else-near-window-le-GREATEST : goal.returns-else-near-window-le-GREATEST
returns-else-near-window-le-GREATEST c =
    stays c.args.window c.args.low c.args.expected c.min-expected.result c.min-expected.ensures c.requires.some c.requires.whole
    (inr (omega arith)) (inl (omega arith))

pub returns-else-expected-near : goal.returns-else-expected-near
returns-else-expected-near c =
    stays c.args.window c.args.low c.args.expected c.min-expected.result c.min-expected.ensures c.requires.some c.requires.whole
    (inl (omega arith)) (inl (omega arith))

pub returns-else-near-window : goal.returns-else-near-window
returns-else-near-window c =
    stays c.args.window c.args.low c.args.expected c.min-expected.result c.min-expected.ensures c.requires.some c.requires.whole
    (inl (omega arith)) (inr (omega arith))

pub returns-else-near-expected-2 : goal.returns-else-near-expected-2
returns-else-near-expected-2 c =
    stays c.args.window c.args.low c.args.expected c.min-expected.result c.min-expected.ensures c.requires.some c.requires.whole
    (inl (omega arith)) (inl (omega arith))
