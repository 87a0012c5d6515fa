use Rattle.std.proofs.Common.{◌∙◌, ◌≡◌, true, false, length, nat_le, sym, arith}
use Rattle.std.proofs.lemmas.Bool.Decides.{nat_tests}
use Rattle.qc_config.proofs.CacheEntries.{oldest_none, oldest_some, taken_last, taken_none, taken_one}
use Rattle.qc_config.proofs.token_cache.take_token.Goals as goal

pub returns-then-is_last-clause-token : goal.returns-then-is_last-clause-token
returns-then-is_last-clause-token c = c.pop-token.ensures.token ∙ oldest_some c.args.name.now c.args.names.now c.in-Some.queue.now (sym c.in-Some.ensures.value)

pub returns-then-is_last-clause-after : goal.returns-then-is_last-clause-after
returns-then-is_last-clause-after c =
    let last : nat_le (length c.in-Some.queue.now) 1 ≡ true = grind (arith, nat_tests) in
    c.pop.ensures.entries ∙ taken_last c.args.name.now c.args.names.now c.in-Some.queue.now c.pop-token.new.self (sym c.in-Some.ensures.value) last

pub returns-in-Some-clause-token : goal.returns-in-Some-clause-token
returns-in-Some-clause-token c = c.pop-token.ensures.token ∙ oldest_some c.args.name.now c.args.names.now c.in-Some.queue.now (sym c.in-Some.ensures.value)

pub returns-in-Some-clause-after : goal.returns-in-Some-clause-after
returns-in-Some-clause-after c =
    let more : nat_le (length c.in-Some.queue.now) 1 ≡ false = grind (arith, nat_tests) in
    c.promote.ensures.entries
    ∙ taken_one c.args.name.now c.args.names.now c.in-Some.queue.now c.pop-token.new.self (sym c.in-Some.ensures.value) more c.pop-token.ensures.rest

pub returns-clause-token : goal.returns-clause-token
returns-clause-token c = oldest_none c.args.name.now c.args.names.now (sym c.in_default.ensures.value)

pub returns-clause-after : goal.returns-clause-after
returns-clause-after c = taken_none c.args.name.now c.args.names.now (sym c.in_default.ensures.value)
