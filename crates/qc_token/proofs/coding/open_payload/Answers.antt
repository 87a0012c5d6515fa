use Rattle.std.proofs.Common.{[]}
use Rattle.qc_token.proofs.TokenLaws.{found_sealed, only_sealed}
use Rattle.qc_token.proofs.coding.open_payload.Goals as goal

pub returns-in-Ok-clause-found : goal.returns-in-Ok-clause-found
returns-in-Ok-clause-found g c =
    found_sealed (g.A.AeadKey.sealed c.args.aead.now []) (g.A.AeadKey.opened c.args.aead.now []) (g.met.A.AeadKey.opens_only c.args.aead.now [])
    c.args.body.now c.in-Ok.plain.now c.read_payload.result c.in-Ok.ensures.ok c.read_payload.ensures.found

pub returns-in-Ok-clause-only : goal.returns-in-Ok-clause-only
returns-in-Ok-clause-only g c =
    let only = only_sealed (g.A.AeadKey.sealed c.args.aead.now []) (g.A.AeadKey.opened c.args.aead.now []) (g.met.A.AeadKey.opens_sealed c.args.aead.now []) c.args.body.now in
    rw c.read_payload.ensures.exact (rw c.in-Ok.ensures.ok at only)

pub returns-in-Err-clause-only : goal.returns-in-Err-clause-only
returns-in-Err-clause-only g c =
    let only = only_sealed (g.A.AeadKey.sealed c.args.aead.now []) (g.A.AeadKey.opened c.args.aead.now []) (g.met.A.AeadKey.opens_sealed c.args.aead.now []) c.args.body.now in
    rw c.in-Err.ensures.refused at only
