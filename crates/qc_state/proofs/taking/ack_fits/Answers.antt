use Rattle.qc_state.proofs.taking.ack_fits.Goals as goal

-- what is acknowledged are numbers of packets
pub ack_of-requires : goal.ack_of-requires
ack_of-requires c = c.may_acknowledge-due.ensures.packets c.if-due.true
