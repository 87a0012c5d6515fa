use Rattle.qc_packet.proofs.Arrivals as law
use Rattle.qc_packet.proofs.laws.coalesced_packets_arrive.Goals as goal

pub returns : goal.returns
returns g c k versions grease packets can = law.cut_back g.P.PacketKey.seal k versions grease packets g.met.P.PacketKey.sealed_length can
