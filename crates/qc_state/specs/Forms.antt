-- The forms of packets that have keys (RFC 9001, section 5.1).
use Rattle.std.specs.Prelude.{Bool, true, false}
use Rattle.qc_base.specs.declared.side.SpaceId.{SpaceId}
use Rattle.qc_base.specs.declared.side.SpaceId.TheVariants as space
use Rattle.qc_state.specs.declared.form.Form.{Form}
use Rattle.qc_state.specs.declared.form.Form.TheVariants.{Initial, Handshake, Early, OneRtt}

-- the packet number space that packets of this form count in: 0-RTT and 1-RTT packets share one (RFC 9000, section 12.3)
abbrev pub number_space : Form → SpaceId
number_space Initial = space.Initial
number_space Handshake = space.Handshake
number_space Early = space.Data
number_space OneRtt = space.Data

-- whether it is 0-RTT
abbrev pub is_early : Form → Bool
is_early Initial = false
is_early Handshake = false
is_early Early = true
is_early OneRtt = false

-- whether it is 1-RTT: its header is a short one (RFC 9000, section 17.3)
abbrev pub is_one_rtt : Form → Bool
is_one_rtt Initial = false
is_one_rtt Handshake = false
is_one_rtt Early = false
is_one_rtt OneRtt = true
