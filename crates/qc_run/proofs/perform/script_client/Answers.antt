use Rattle.std.specs.Prelude.{ℕ, List, [], Option, unwrap_or}
use Rattle.std.proofs.Common.{ap}
use Rattle.qc_run.proofs.RunLemmas.{address_plain, client_end}
use Rattle.qc_run.proofs.perform.script_client.Goals as goal

pub returns-clause-client : goal.returns-clause-client
returns-clause-client c = client_end _ _ _ _ c.args.set.now _ _ _ _ _ _ _ _ _ _ _ _ _ _ _ c.requires.side c.in_ok-setup.ensures.remote c.in_ok-setup.ensures.session c.in_ok-setup.ensures.random c.in_ok-setup.ensures.version c.in_ok-setup.ensures.local_cid c.in_ok-setup.ensures.lifetime c.in_ok-setup.ensures.local_ip c.in_ok-setup.ensures.allow c.in_ok-setup.ensures.transport c.in_ok-setup.ensures.control c.in_ok-setup.ensures.grease c.in_ok-setup.ensures.first_cid (ap (λ (o : Option (List ℕ)). unwrap_or o []) c.in_ok-store.ensures) c.time_or.ensures c.in_ok-client.ensures.made

pub returns-clause-plain : goal.returns-clause-plain
returns-clause-plain c = c.in_ok-client.ensures.plain (address_plain c.args.set.now.addr c.in_ok-setup.setup.remote c.requires.address c.in_ok-setup.ensures.remote)
