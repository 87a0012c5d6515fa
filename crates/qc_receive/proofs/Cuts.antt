-- How the datagrams of a connection are cut.
use Rattle.std.proofs.Common.{◌≡◌, ℕ, Bool, length}
use Rattle.qc_receive.specs.Cutting.{Cuts}
use Rattle.qc_state.specs.Types.{Types}
use Rattle.qc_state.specs.View.{View}

pub cuts_is : {t : Types} (s : View t) (len version : ℕ) (grease : Bool) → len ≡ length s.setup.fixed.local_cid → version ≡ s.setup.fixed.version → grease ≡ s.setup.fixed.grease_quic_bit →
    Cuts s (record { local_cid_len = len; version = version; grease_quic_bit = grease })
cuts_is s len version grease is_len is_version is_grease = record { len = is_len; version = is_version; grease = is_grease }
