use Rattle.std.proofs.Common.{ap, length, arith, refl, sym, ◌∙◌}
use Rattle.qc_conn.proofs.Refusals.{next_good, takes_none, takes_next, refused_at}
use Rattle.qc_laws.proofs.Steps.{run_empty, ran_kept, run_next, added_length, ran}
use Rattle.qc_conn.proofs.Stores.{named_more, named_step, none_yet, part_stored, refused_stored, run_stored}
use Rattle.qc_conn.proofs.Counting.{none_counted, one_counted, counted_before}
use Rattle.qc_conn.proofs.driving.drive_all.Goals as goal

-- nothing was done yet
pub loop-input-init : goal.loop-input-init
loop-input-init g c = record {
  count = ap length c.new-trace.ensures;
  place = refl;
  run = run_empty _ _ _ _ c.new-trace.ensures;
  taken = takes_none _ _ _ _ c.new-trace.ensures;
  alive = c.requires.alive;
  steps = none_counted _ _ c.steps-before.ensures.fits c.new-trace.ensures;
  name = refl;
  store = none_yet g.G.TokenStore.inserted _ _ _ c.new-trace.ensures;
}

-- this input asks for a call that can be made
pub add_step-requires-clause-good : goal.add_step-requires-clause-good
add_step-requires-clause-good g c = next_good _ _ _ _ _ _ _ _ c.loop-input-test.true c.input-item.is c.loop-input.invariant.place c.loop-input.invariant.taken (sym c.refusal.ensures ∙ c.in_default.is)

-- the steps before stand
pub returns-in-Err-clause-part : goal.returns-in-Err-clause-part
returns-in-Err-clause-part g c = ran_kept _ _ _ _ _ _ _ _ c.in-Err.ensures.kept c.loop-input.invariant.count c.loop-input.invariant.run

-- one step more
pub loop-input-preserved : goal.loop-input-preserved
loop-input-preserved g c = record {
  count = added_length _ _ _ _ _ _ _ c.in-Ok.ensures.adds ∙ omega (arith, c.loop-input.invariant.count);
  place = omega (arith, c.loop-input.invariant.place);
  run = run_next _ _ _ _ _ _ _ _ _ _ c.loop-input-test.true c.input-item.is c.loop-input.invariant.count c.loop-input.invariant.place c.loop-input.invariant.run c.in-Ok.ensures.adds;
  taken = takes_next _ _ _ _ _ _ _ _ _ _ c.loop-input-test.true c.input-item.is c.loop-input.invariant.count c.loop-input.invariant.place
      (sym c.refusal.ensures ∙ c.in_default.is) c.loop-input.invariant.taken c.in-Ok.ensures.adds;
  alive = c.in-Ok.ensures.alive;
  steps = one_counted _ _ _ _ _ c.loop-input.invariant.steps c.in-Ok.ensures.count (added_length _ _ _ _ _ _ _ c.in-Ok.ensures.adds);
  name = c.in-Ok.ensures.name ∙ c.loop-input.invariant.name;
  store = run_stored g.G.TokenStore.inserted _ _ _ _ _ _ c.loop-input.invariant.store (named_step g.G.TokenStore.inserted _ _ _ _ _ _ c.loop-input.invariant.name c.in-Ok.ensures.store);
}

-- the steps before an input that is refused stand
pub returns-in-Some-clause-part : goal.returns-in-Some-clause-part
returns-in-Some-clause-part g c = ran _ _ _ _ _ _ _ c.loop-input.invariant.count c.loop-input.invariant.run

-- this input is the first that is refused
pub returns-in-Some-clause-refused : goal.returns-in-Some-clause-refused
returns-in-Some-clause-refused g c = λ _. refused_at _ _ _ _ _ _ _ _ _ _ c.loop-input-test.true c.input-item.is c.loop-input.invariant.count c.loop-input.invariant.place
    (sym c.refusal.ensures ∙ c.in-Some.is) c.loop-input.invariant.taken c.loop-input.invariant.alive

-- the steps before want of memory, or before an input that is refused, are those that were counted
pub returns-in-Err-clause-count_part : goal.returns-in-Err-clause-count_part
returns-in-Err-clause-count_part g c = counted_before _ _ _ _ _ _ _ c.loop-input.invariant.steps c.in-Err.ensures.uncounted c.in-Err.ensures.kept c.loop-input.invariant.count c.loop-input-test.true

pub returns-in-Some-clause-count_part : goal.returns-in-Some-clause-count_part
returns-in-Some-clause-count_part g c = counted_before _ _ _ _ _ _ _ c.loop-input.invariant.steps refl refl c.loop-input.invariant.count c.loop-input-test.true

-- the store has the tokens of the steps before
pub returns-in-Some-clause-store_part : goal.returns-in-Some-clause-store_part
returns-in-Some-clause-store_part g c = refused_stored g.G.TokenStore.inserted _ _ _ _ _ c.loop-input.invariant.store

pub returns-in-Err-clause-store_part : goal.returns-in-Err-clause-store_part
returns-in-Err-clause-store_part g c = part_stored g.G.TokenStore.inserted _ _ _ _ _ _ c.in-Err.ensures.kept c.loop-input.invariant.store
    (named_more g.G.TokenStore.inserted _ _ _ _ c.loop-input.invariant.name c.in-Err.ensures.store_part)
