use Rattle.qc_run.proofs.RunLemmas.{address_plain, server_end}
use Rattle.qc_run.proofs.perform.script_server.Goals as goal

pub returns-clause-server : goal.returns-clause-server
returns-clause-server c = server_end _ _ _ _ c.args.set.now _ _ _ _ _ _ _ _ _ _ _ _ _ _ _ _ _ _ _ _ c.requires.side c.in_ok-setup.ensures.remote c.in_ok-setup.ensures.session c.in_ok-setup.ensures.random c.in_ok-setup.ensures.version c.in_ok-setup.ensures.local_cid c.in_ok-setup.ensures.lifetime c.in_ok-setup.ensures.preferred c.in_ok-setup.ensures.local_ip c.in_ok-setup.ensures.allow c.in_ok-setup.ensures.transport c.in_ok-setup.ensures.control c.in_ok-setup.ensures.grease c.in_ok-setup.ensures.first_cid c.in_ok-setup.ensures.remote_cid c.in_ok-setup.ensures.validated c.in_ok-setup.ensures.key c.in_ok-setup.ensures.time c.in_ok-setup.ensures.sent c.time_or.ensures c.in_ok-server.ensures.made

pub returns-clause-plain : goal.returns-clause-plain
returns-clause-plain c = c.in_ok-server.ensures.plain (address_plain c.args.set.now.addr c.in_ok-setup.setup.remote c.requires.address c.in_ok-setup.ensures.remote)
