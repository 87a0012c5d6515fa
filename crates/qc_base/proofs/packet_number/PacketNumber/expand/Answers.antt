use Rattle.qc_base.proofs.Numbers.{number_comes_back}
use Rattle.qc_base.proofs.packet_number.PacketNumber.expand.Goals as goal

pub returns-clause-comes_back : goal.returns-clause-comes_back
returns-clause-comes_back c n largest_acked =
    number_comes_back c.args.self c.args.expected c.nearest_of.result n largest_acked c.nearest_of.ensures
