use Rattle.std.proofs.Common.{◌≡◌, drop}
use Rattle.qc_conn.specs.Stored.{StoresMore, stored, tokens_in}
use Rattle.qc_conn.proofs.storing.store_all.Given as goal

-- those of the deeds so far are in the store
abbrev pub invariant-loop-one : goal.invariant-loop-one
invariant-loop-one g l = record {
  left : stored g.G.TokenStore.inserted l.server_name (tokens_in (drop l.one-index l.did)) l.store ≡ stored g.G.TokenStore.inserted l.server_name (tokens_in l.did) l.fn.store;
  more : StoresMore g.G.TokenStore.inserted l.server_name l.fn.store l.store;
}
