use Rattle.std.proofs.lemmas.Result.{on_ok_weaker}
use Rattle.qc_state.specs.Timeouts.{timeout_after}
use Rattle.qc_state.specs.Tokens.{token_with}
use Rattle.qc_state.specs.Types.{meaning}
use Rattle.qc_conn.proofs.Firsts.{still_alive, told_leads}
use Rattle.qc_conn.proofs.steps.core_timeout.Goals as goal

pub returns-clause-leads : goal.returns-clause-leads
returns-clause-leads g c =
    on_ok_weaker c.handle_timeout.result (λ is. told_leads (timeout_after (meaning g.U.Session.Session g.U.Session.HeaderKey.HeaderMask g.U.Session.PacketKey.PacketKey g.U.Control.Controller.Controller (token_with g.U.TokenKey.Aead.AeadKey.sealed g.U.TokenKey.HandshakeTokenKey.derived g.U.Time.TimeSource.time_of)) c.args.now) _ _ _ c.args.now _ c.handle_timeout.new.did c.clock.ensures c.new-did.ensures is)
    c.handle_timeout.ensures.leads

pub returns-clause-idle : goal.returns-clause-idle
returns-clause-idle g c =
    on_ok_weaker c.handle_timeout.result (λ later alive. later (still_alive g.U.Random.Rng.stream c.args.core.now c.clock.new.self c.args.now c.clock.ensures alive)) c.handle_timeout.ensures.idle

pub returns-clause-close : goal.returns-clause-close
returns-clause-close g c =
    on_ok_weaker c.handle_timeout.result (λ later alive. later (still_alive g.U.Random.Rng.stream c.args.core.now c.clock.new.self c.args.now c.clock.ensures alive)) c.handle_timeout.ensures.close

pub returns-clause-keys : goal.returns-clause-keys
returns-clause-keys g c =
    on_ok_weaker c.handle_timeout.result (λ later alive. later (still_alive g.U.Random.Rng.stream c.args.core.now c.clock.new.self c.args.now c.clock.ensures alive)) c.handle_timeout.ensures.keys

pub returns-clause-paced : goal.returns-clause-paced
returns-clause-paced g c =
    on_ok_weaker c.handle_timeout.result (λ later alive. later (still_alive g.U.Random.Rng.stream c.args.core.now c.clock.new.self c.args.now c.clock.ensures alive)) c.handle_timeout.ensures.paced

pub returns-clause-aged : goal.returns-clause-aged
returns-clause-aged g c =
    on_ok_weaker c.handle_timeout.result (λ later alive. later (still_alive g.U.Random.Rng.stream c.args.core.now c.clock.new.self c.args.now c.clock.ensures alive)) c.handle_timeout.ensures.ids

pub returns-clause-held : goal.returns-clause-held
returns-clause-held g c =
    on_ok_weaker c.handle_timeout.result (λ later alive. later (still_alive g.U.Random.Rng.stream c.args.core.now c.clock.new.self c.args.now c.clock.ensures alive)) c.handle_timeout.ensures.ack
