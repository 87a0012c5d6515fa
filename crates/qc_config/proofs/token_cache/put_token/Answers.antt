use Rattle.std.proofs.Common.{◌∙◌, sym}
use Rattle.qc_config.proofs.CacheEntries.{back_same, stored_none, stored_some}
use Rattle.qc_config.proofs.token_cache.put_token.Goals as goal

pub returns-in-Err-clause-err : goal.returns-in-Err-clause-err
returns-in-Err-clause-err c = back_same c.args.name c.args.names.now c.in-Some.queue.now c.push.new.self (sym c.in-Some.ensures.value) c.in-Err.ensures.err

pub returns-in-Some-clause-ok : goal.returns-in-Some-clause-ok
returns-in-Some-clause-ok c =
    c.promote.ensures.entries
    ∙ stored_some c.args.name c.args.names.now c.args.most c.args.token c.in-Some.queue.now c.push.new.self (sym c.in-Some.ensures.value) c.in-Ok.ensures.ok

pub returns-clause-ok : goal.returns-clause-ok
returns-clause-ok c =
    c.in_ok-put.ensures.entries
    ∙ stored_none c.args.name c.args.names.now c.args.most c.args.token c.in_ok-queue.queue (sym c.in_default.ensures.value) c.in_ok-queue.ensures
