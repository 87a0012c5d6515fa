use Rattle.std.proofs.Common.{ap, refl, ◌∙◌}
use Rattle.qc_conn.proofs.Stores.{named_more, none_more}
use Rattle.qc_state.specs.View.{ideal}
use Rattle.qc_conn.proofs.connection.Connection.handle_event.Goals as goal

-- the view is that of before the tokens were stored, and their deeds let go
pub returns-in-Ok-store_tokens-clause-leads : goal.returns-in-Ok-store_tokens-clause-leads
returns-in-Ok-store_tokens-clause-leads g c =
    ap (λ v. ideal g.U.Random.Rng.stream v.core) (c.keep_room.ensures ∙ c.in-Ok-store_tokens.ensures.kept) ∙ ap (λ a. a.state) c.in-Ok.ensures.leads

-- nothing was done
pub returns-in-Err-clause-store_part : goal.returns-in-Err-clause-store_part
returns-in-Err-clause-store_part g c = none_more g.G.TokenStore.inserted _ _ _ refl

-- the name is that of before
pub returns-in-Err-store_tokens-clause-store_part : goal.returns-in-Err-store_tokens-clause-store_part
returns-in-Err-store_tokens-clause-store_part g c = named_more g.G.TokenStore.inserted _ _ _ _ c.in-Ok.ensures.name c.in-Err-store_tokens.ensures.store_part
