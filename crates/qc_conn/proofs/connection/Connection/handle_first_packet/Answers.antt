use Rattle.std.proofs.Common.{ap, sym, ◌∙◌}
use Rattle.std.specs.Prelude.{max}
use Rattle.qc_state.specs.Life.{is_handshake}
use Rattle.qc_laws.proofs.Clocks.{first_packet_clock}
use Rattle.qc_conn.proofs.Marks.{first_packet_mark}
use Rattle.qc_conn.proofs.connection.Connection.handle_first_packet.Goals as goal

-- the greatest time, where the packet gave no reason for the end
pub returns-in-Ok-None-clause-clock : goal.returns-in-Ok-None-clause-clock
returns-in-Ok-None-clause-clock g c = first_packet_clock _ (record { time = c.args.now; remote = c.args.remote; mark = c.args.ecn }) _ _ _ _ _ _ _ _ (ap (λ v. is_handshake v.core.life.state) c.self.view_is ∙ c.requires.first.shakes) c.in-Ok-None.ensures.leads ∙ ap (λ v. max v.core.timers.greatest c.args.now) c.self.view_is

-- and where it gave one
pub returns-in-Ok-Some-clause-clock : goal.returns-in-Ok-Some-clause-clock
returns-in-Ok-Some-clause-clock g c = first_packet_clock _ (record { time = c.args.now; remote = c.args.remote; mark = c.args.ecn }) _ _ _ _ _ _ _ _ (ap (λ v. is_handshake v.core.life.state) c.self.view_is ∙ c.requires.first.shakes) c.in-Ok-Some.ensures.leads ∙ ap (λ v. max v.core.timers.greatest c.args.now) c.self.view_is

-- the mark, where the packet gave no reason for the end
pub returns-in-Ok-None-clause-alive : goal.returns-in-Ok-None-clause-alive
returns-in-Ok-None-clause-alive g c = first_packet_mark _ (record { time = c.args.now; remote = c.args.remote; mark = c.args.ecn }) _ _ _ _ _ _ _ _ (ap (λ v. is_handshake v.core.life.state) c.self.view_is ∙ c.requires.first.shakes) c.in-Ok-None.ensures.leads ∙ ap (λ v. v.failed) c.self.view_is ∙ sym c.if-is_failed.ensures

-- and where it gave one
pub returns-in-Ok-Some-clause-alive : goal.returns-in-Ok-Some-clause-alive
returns-in-Ok-Some-clause-alive g c = first_packet_mark _ (record { time = c.args.now; remote = c.args.remote; mark = c.args.ecn }) _ _ _ _ _ _ _ _ (ap (λ v. is_handshake v.core.life.state) c.self.view_is ∙ c.requires.first.shakes) c.in-Ok-Some.ensures.leads ∙ ap (λ v. v.failed) c.self.view_is ∙ sym c.if-is_failed.ensures
