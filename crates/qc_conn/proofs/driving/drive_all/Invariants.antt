use Rattle.std.proofs.Common.{◌≡◌, length, take, false}
use Rattle.qc_conn.specs.Refusal.{TakesAll}
use Rattle.qc_conn.specs.Seen.{counted}
use Rattle.qc_conn.specs.Stored.{stored, tokens_in}
use Rattle.qc_state.specs.Headline.{deeds_of}
use Rattle.qc_state.specs.Run.{Run}
use Rattle.qc_state.specs.Tokens.{token_with}
use Rattle.qc_state.specs.Types.{meaning}
use Rattle.qc_state.specs.View.{ideal}
use Rattle.qc_conn.proofs.driving.drive_all.Given as goal

-- the steps so far are a run over the inputs so far, none of which was refused
abbrev pub invariant-loop-input : goal.invariant-loop-input
invariant-loop-input g l = record {
  count : length l.trace ≡ l.input-index;
  place : l.at ≡ l.input-index;
  run : Run (meaning g.U.Session.Session g.U.Session.HeaderKey.HeaderMask g.U.Session.PacketKey.PacketKey g.U.Control.Controller.Controller (token_with g.U.TokenKey.Aead.AeadKey.sealed g.U.TokenKey.HandshakeTokenKey.derived g.U.Time.TimeSource.time_of)) 0 (ideal g.U.Random.Rng.stream l.fn.connection.core) (take l.input-index l.inputs) l.trace (ideal g.U.Random.Rng.stream l.connection.core);
  taken : TakesAll (meaning g.U.Session.Session g.U.Session.HeaderKey.HeaderMask g.U.Session.PacketKey.PacketKey g.U.Control.Controller.Controller (token_with g.U.TokenKey.Aead.AeadKey.sealed g.U.TokenKey.HandshakeTokenKey.derived g.U.Time.TimeSource.time_of)) 0 (ideal g.U.Random.Rng.stream l.fn.connection.core) (take l.input-index l.inputs) l.trace (ideal g.U.Random.Rng.stream l.connection.core);
  alive : l.connection.failed ≡ false;
  steps : l.connection.steps ≡ counted l.fn.connection.steps (length l.trace);
  name : l.connection.name ≡ l.fn.connection.name;
  store : l.store ≡ stored g.G.TokenStore.inserted l.fn.connection.name (tokens_in (deeds_of l.trace)) l.fn.store;
}
