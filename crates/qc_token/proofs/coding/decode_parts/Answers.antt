use Rattle.std.proofs.Common.{◌++◌, [], Some, None, refl, arith}
use Rattle.qc_token.specs.Tokens.{IsOnlySealed, IsSealedText}
use Rattle.qc_token.proofs.TokenLaws.{found_token, only_token}
use Rattle.qc_token.proofs.coding.decode_parts.Goals as goal

pub returns-in-Some-clause-found : goal.returns-in-Some-clause-found
returns-in-Some-clause-found g c =
    let derived = g.K.HandshakeTokenKey.derived c.args.key.now in
    let text : IsSealedText (g.K.Aead.AeadKey.sealed (g.K.HandshakeTokenKey.derived c.args.key.now c.args.nonce.now) []) c.args.body.now c.in-Some.payload =
    rw c.aead_from_hkdf-aead.ensures at c.in-Some.ensures.found in
    rw (c.nonce_from_bytes.ensures, c.sixteen.ensures)
    (found_token g.K.Aead.AeadKey.sealed (g.K.HandshakeTokenKey.derived c.args.key.now) (c.args.body.now ++ c.args.nonce.now) c.args.body.now c.args.nonce.now c.in-Some.payload
    refl c.requires (λ i. omega (arith, c.type_inv.nonce i)) text)

pub returns-in-Some-clause-only : goal.returns-in-Some-clause-only
returns-in-Some-clause-only g c =
    let only : IsOnlySealed (g.K.Aead.AeadKey.sealed (g.K.HandshakeTokenKey.derived c.args.key.now c.args.nonce.now) []) c.args.body.now (Some c.in-Some.payload) =
    rw c.aead_from_hkdf-aead.ensures at c.in-Some.ensures.only in
    rw (c.nonce_from_bytes.ensures, c.sixteen.ensures)
    (only_token g.K.Aead.AeadKey.sealed (g.K.HandshakeTokenKey.derived c.args.key.now) (c.args.body.now ++ c.args.nonce.now) c.args.body.now c.args.nonce.now (Some c.in-Some.payload)
    refl c.requires only)

pub returns-clause-only : goal.returns-clause-only
returns-clause-only g c =
    let only : IsOnlySealed (g.K.Aead.AeadKey.sealed (g.K.HandshakeTokenKey.derived c.args.key.now c.args.nonce.now) []) c.args.body.now None =
    rw c.aead_from_hkdf-aead.ensures at c.in-None.ensures.only in
    only_token g.K.Aead.AeadKey.sealed (g.K.HandshakeTokenKey.derived c.args.key.now) (c.args.body.now ++ c.args.nonce.now) c.args.body.now c.args.nonce.now None refl c.requires only
