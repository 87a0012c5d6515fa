use Rattle.qc_header.specs.HeaderSpelling.{header_number}
use Rattle.qc_packet.proofs.Arrivals as law
use Rattle.qc_packet.proofs.laws.sealed_packet_arrives.Goals as goal

pub returns-clause-arrives : goal.returns-clause-arrives
returns-clause-arrives g c mask sealer k versions grease flip h number plain rest can =
    law.arrives mask (g.P.PacketKey.seal sealer) k versions grease flip h number plain rest (λ header. g.met.P.PacketKey.sealed_length sealer number header plain) can

pub returns-clause-number : goal.returns-clause-number
returns-clause-number g c h rx number reach = law.number_arrives (header_number h) rx number reach

pub returns-clause-opened : goal.returns-clause-opened
returns-clause-opened g c sealer opener flip h number plain p keys mates is has =
    law.opened_as g.P.PacketKey.opening opener (g.P.PacketKey.seal sealer) flip h number plain p keys mates is has

pub returns-clause-taken : goal.returns-clause-taken
returns-clause-taken g c sealer flip h number rx plain p ring told is =
    law.is_taken (g.P.PacketKey.seal sealer) flip h number rx plain p ring told is
