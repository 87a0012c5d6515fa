-- What becomes of a packet by what opening it told.
use Rattle.std.specs.Prelude.{ℕ, Option, Some, None, Result, Ok, Err}
use Rattle.qc_header.specs.declared.finish.Packet.{Packet}
use Rattle.qc_packet.specs.declared.decrypt.DecryptPacketResult.{DecryptPacketResult}
use Rattle.qc_packet.specs.declared.decrypt.OpenError.{OpenError}
use Rattle.qc_packet.specs.declared.decrypt.OpenError.TheVariants as error
use Rattle.qc_rings.specs.declared.which.Which.{Which}
use Rattle.qc_state.specs.declared.opening.Opening.{Opening}
use Rattle.qc_state.specs.declared.opening.Opening.TheVariants.{Unopened, Reserved, Untimely, Opened}
use Rattle.qc_state.specs.Opening.{source_of, spin_of, token_of}

-- a packet with this number, which names these keys of the ring, as it stands behind that
abbrev pub opening_told : Result (Option DecryptPacketResult) OpenError → (number : ℕ) → Option Which → Packet → Opening
opening_told (Ok (Some told)) number which p = Opened (source_of p.header) (token_of p.header) (spin_of p.header) which told.number p.payload.items
opening_told (Ok None) number which p = Unopened
opening_told (Err error.Unopened) number which p = Unopened
opening_told (Err error.Reserved) number which p = Reserved number
opening_told (Err error.KeyUpdate) number which p = Untimely number
