use Rattle.qc_receive.proofs.receiving.numbered.Goals as goal

-- a 1-RTT packet
pub returns-in-Ok : goal.returns-in-Ok
returns-in-Ok g c = rw c.in-Ok.ensures.short c.short_opened.ensures
