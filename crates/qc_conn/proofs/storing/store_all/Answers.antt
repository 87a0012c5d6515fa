use Rattle.std.proofs.Common.{◌∷◌, [], ap, drop, ◌+◌, refl, sym, ◌∙◌}
use Rattle.std.proofs.lemmas.List.{at_drop_all, drop_more}
use Rattle.qc_conn.specs.Stored.{stored, tokens_in, tokens_told}
use Rattle.qc_conn.proofs.Stores.{more_next, none_more, told_one}
use Rattle.qc_conn.proofs.storing.store_all.Goals as goal

-- none so far
pub loop-one-init : goal.loop-one-init
loop-one-init g c = record { left = refl; more = none_more g.G.TokenStore.inserted _ _ _ refl }

-- one deed more
pub loop-one-preserved : goal.loop-one-preserved
loop-one-preserved g c =
    let next = drop_more c.args.did.now c.loop-one.one-index c.one-item.result c.loop-one-test.true ∙ ap (λ x. x ∷ drop (c.loop-one.one-index + 1) c.args.did.now) (sym c.one-item.is) in
    record {
      left = told_one g.G.TokenStore.inserted _ (drop c.loop-one.one-index c.args.did.now) c.one-item.result (drop (c.loop-one.one-index + 1) c.args.did.now) _ _ next c.in-Ok.ensures.ok ∙ c.loop-one.invariant.left;
      more = more_next g.G.TokenStore.inserted _ (tokens_told c.one-item.result) _ _ _ c.loop-one.invariant.more c.in-Ok.ensures.ok;
    }

-- those before it are in the store
pub returns-in-Err-clause-err : goal.returns-in-Err-clause-err
returns-in-Err-clause-err g c = more_next g.G.TokenStore.inserted _ [] _ _ _ c.loop-one.invariant.more c.in-Err.ensures.err

-- all are
pub returns-clause-ok : goal.returns-clause-ok
returns-clause-ok g c =
    sym (at_drop_all (λ ds. stored g.G.TokenStore.inserted c.args.server_name.now (tokens_in ds) c.loop-one.store) c.args.did.now c.loop-one.one-index c.loop-one-test.false) ∙ c.loop-one.invariant.left
