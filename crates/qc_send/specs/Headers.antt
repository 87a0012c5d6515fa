-- The header of a packet, by its spin bit and its token.
use Rattle.std.specs.Prelude.{ℕ, ◌+◌, ◌-◌, Bool, List, [], length}
use Rattle.qc_base.specs.declared.side.LongType.TheVariants as long
use Rattle.qc_base.specs.declared.side.SpaceId.TheVariants.{Initial, Handshake, «Data»}
use Rattle.qc_base.specs.PacketNumber.{number_of}
use Rattle.qc_base.specs.Varint.{varint}
use Rattle.qc_header.specs.declared.header.Header.{Header}
use Rattle.qc_header.specs.declared.header.Header.TheVariants as header
use Rattle.qc_state.specs.declared.form.Form.{Form}
use Rattle.qc_state.specs.declared.form.Form.TheVariants as form
use Rattle.qc_state.specs.Keys.{phase_now}
use Rattle.qc_state.specs.Numbers.{next_number, acked_number}
use Rattle.qc_state.specs.Types.{Types}
use Rattle.qc_state.specs.View.{View}

-- how many bytes a token adds to the header of a packet of this form: its own, and those of its length beyond the one that an empty
-- token has
abbrev pub token_bytes : Form → (token : List ℕ) → ℕ
token_bytes form.Initial token = length (varint (length token)) - 1 + length token
token_bytes _ token = 0

-- the token that a packet of this form carries: none but an Initial one has any
abbrev pub token_in : Form → (token : List ℕ) → List ℕ
token_in form.Initial token = token
token_in _ token = []

module _ {t : Types} where
  -- the header of the next packet, of this form, with this spin bit where it is a 1-RTT packet, and this token where it is an Initial one
  abbrev pub header_with : View t → Form → (spin : Bool) → (token : List ℕ) → Header
  header_with s form.Initial spin token = header.Initial (record {
    dst_cid = s.paths.current.remote_cid;
    src_cid = s.setup.fixed.local_cid;
    token = token;
    number = number_of (next_number s.numbers Initial) (acked_number s.numbers Initial);
    version = s.setup.fixed.version;
  })
  header_with s form.Handshake spin token =
      header.Long long.Handshake s.paths.current.remote_cid s.setup.fixed.local_cid (number_of (next_number s.numbers Handshake) (acked_number s.numbers Handshake)) s.setup.fixed.version
  header_with s form.Early spin token =
      header.Long long.ZeroRtt s.paths.current.remote_cid s.setup.fixed.local_cid (number_of (next_number s.numbers Data) (acked_number s.numbers Data)) s.setup.fixed.version
  header_with s form.OneRtt spin token = header.Short spin (phase_now s.keys) s.paths.current.remote_cid (number_of (next_number s.numbers Data) (acked_number s.numbers Data))
