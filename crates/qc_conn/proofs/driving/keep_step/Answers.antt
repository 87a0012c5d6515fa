use Rattle.qc_conn.specs.Stored.{tokens_in}
use Rattle.qc_conn.proofs.driving.keep_step.Goals as goal

-- the store has the step's tokens, though the trace had no room for it
pub returns-in-Err-push-clause-store_part : goal.returns-in-Err-push-clause-store_part
returns-in-Err-push-clause-store_part g c = record { tokens = tokens_in c.args.step.did; is = c.in-Ok.ensures.store }
