use Rattle.std.proofs.Common.{refl, arith, rules}
use Rattle.qc_base.proofs.Differences.{agree_more, same_more, all_agree}
use Rattle.qc_base.proofs.constant_time.eq.Goals as goal

pub loop-i-preserved : goal.loop-i-preserved
loop-i-preserved c = record {
  agree = agree_more c.args.a.now c.args.b.now c.loop-i.i c.loop-i.different c.loop-i.invariant.agree;
  same = same_more c.args.a.now c.args.b.now c.loop-i.i c.loop-i.different c.loop-i.invariant.same;
}

pub returns : goal.returns
returns c = (
  (λ zero. all_agree c.args.a.now c.args.b.now c.loop-i.i (omega arith) (omega arith) (c.loop-i.invariant.agree (search rules))),
  (λ e. rw (c.loop-i.invariant.same e) refl),
)
