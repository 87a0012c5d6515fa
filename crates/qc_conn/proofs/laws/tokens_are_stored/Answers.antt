use Rattle.qc_conn.proofs.TokensStored.{stored_in_order, told_other, told_token}
use Rattle.qc_conn.proofs.laws.tokens_are_stored.Goals as goal

pub returns-clause-order : goal.returns-clause-order
returns-clause-order c name tokens kept = stored_in_order name tokens kept

pub returns-clause-told : goal.returns-clause-told
returns-clause-told c token ds fits = told_token token ds fits

pub returns-clause-others : goal.returns-clause-others
returns-clause-others c d ds other = told_other d ds other
