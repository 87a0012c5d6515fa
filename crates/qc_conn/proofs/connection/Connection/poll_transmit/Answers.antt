use Rattle.std.proofs.Common.{ap, sym, ◌∙◌}
use Rattle.std.specs.Prelude.{max}
use Rattle.qc_conn.proofs.Clocks.{sent_clock}
use Rattle.qc_conn.proofs.Marks.{sent_mark}
use Rattle.qc_conn.proofs.Sealing.{sealed_of, sends_sealed}
use Rattle.qc_state.specs.View.{ideal}
use Rattle.qc_conn.proofs.connection.Connection.poll_transmit.Goals as goal

-- the greatest time
pub returns-in-Ok-clause-clock : goal.returns-in-Ok-clause-clock
returns-in-Ok-clause-clock g c = sent_clock _ c.args.now _ _ _ _ _ c.in-Ok.ensures ∙ ap (λ v. max v.core.timers.greatest c.args.now) c.self.view_is

-- the mark
pub returns-in-Ok-clause-alive : goal.returns-in-Ok-clause-alive
returns-in-Ok-clause-alive g c = sent_mark _ c.args.now _ _ _ _ _ c.in-Ok.ensures ∙ ap (λ v. v.failed) c.self.view_is ∙ sym c.if-is_failed.ensures

-- the datagrams
pub returns-in-Ok-clause-datagrams : goal.returns-in-Ok-clause-datagrams
returns-in-Ok-clause-datagrams g c =
    sealed_of _ _ c.self.view_is (λ v. ideal g.U.Random.Rng.stream v.core) _ _ _ (sends_sealed _ g.met.U.Session.PacketKey.PacketKey.sealed_length c.args.now _ _ _ _ _ c.in-Ok.ensures)
