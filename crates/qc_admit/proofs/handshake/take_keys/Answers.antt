use Rattle.qc_admit.proofs.Sessions.{taken_none, taken_first, taken_next, taken_missing, taken_late}
use Rattle.qc_state.specs.Tokens.{token_with}
use Rattle.qc_state.specs.Types.{meaning}
use Rattle.qc_admit.proofs.handshake.take_keys.Goals as goal

-- no keys were given
pub returns-in-None-clause-leads : goal.returns-in-None-clause-leads
returns-in-None-clause-leads g c = taken_none (meaning g.U.Session.Session g.U.Session.HeaderKey.HeaderMask g.U.Session.PacketKey.PacketKey g.U.Control.Controller.Controller (token_with g.U.TokenKey.Aead.AeadKey.sealed g.U.TokenKey.HandshakeTokenKey.derived g.U.Time.TimeSource.time_of)) g.U.Random.Rng.stream c.args.core.now c.args.keys c.in-None.is

-- those of the Handshake space
pub returns-in-Initial-clause-leads : goal.returns-in-Initial-clause-leads
returns-in-Initial-clause-leads g c =
    taken_first (meaning g.U.Session.Session g.U.Session.HeaderKey.HeaderMask g.U.Session.PacketKey.PacketKey g.U.Control.Controller.Controller (token_with g.U.TokenKey.Aead.AeadKey.sealed g.U.TokenKey.HandshakeTokenKey.derived g.U.Time.TimeSource.time_of)) g.U.Random.Rng.stream c.args.core.now _ c.args.keys c.in-Some.keys c.new.result c.give_handshake.new.self
    c.core.view_is c.in-Initial.is c.in-Some.is c.new.ensures c.give_handshake.ensures

-- the 1-RTT keys
pub returns-in-Some-next_keys-clause-leads : goal.returns-in-Some-next_keys-clause-leads
returns-in-Some-next_keys-clause-leads g c =
    taken_next (meaning g.U.Session.Session g.U.Session.HeaderKey.HeaderMask g.U.Session.PacketKey.PacketKey g.U.Control.Controller.Controller (token_with g.U.TokenKey.Aead.AeadKey.sealed g.U.TokenKey.HandshakeTokenKey.derived g.U.Time.TimeSource.time_of)) g.U.Random.Rng.stream c.args.core.now _ c.args.keys c.in-Some.keys c.next_keys.result c.in-Some-next_keys.next c.next_keys.new.self c.new-in-Some-next_keys.result c.give_data.new.self
    c.core.view_is c.in-Handshake.is c.in-Some.is c.next_keys.ensures.keys c.in-Some-next_keys.is c.next_keys.ensures.after c.new-in-Some-next_keys.ensures c.give_data.ensures

-- 1-RTT keys without those of the next epoch
pub returns-in_default-clause-leads : goal.returns-in_default-clause-leads
returns-in_default-clause-leads g c =
    taken_missing (meaning g.U.Session.Session g.U.Session.HeaderKey.HeaderMask g.U.Session.PacketKey.PacketKey g.U.Control.Controller.Controller (token_with g.U.TokenKey.Aead.AeadKey.sealed g.U.TokenKey.HandshakeTokenKey.derived g.U.Time.TimeSource.time_of)) g.U.Random.Rng.stream c.args.core.now _ c.args.keys c.in-Some.keys c.next_keys.result c.next_keys.new.self
    c.core.view_is c.in-Handshake.is c.in-Some.is c.next_keys.ensures.keys c.in_default.is c.next_keys.ensures.after

-- keys behind the 1-RTT keys
pub returns-in-Data-clause-leads : goal.returns-in-Data-clause-leads
returns-in-Data-clause-leads g c = taken_late (meaning g.U.Session.Session g.U.Session.HeaderKey.HeaderMask g.U.Session.PacketKey.PacketKey g.U.Control.Controller.Controller (token_with g.U.TokenKey.Aead.AeadKey.sealed g.U.TokenKey.HandshakeTokenKey.derived g.U.Time.TimeSource.time_of)) g.U.Random.Rng.stream c.args.core.now _ c.args.keys c.in-Some.keys c.core.view_is c.in-Data.is c.in-Some.is
