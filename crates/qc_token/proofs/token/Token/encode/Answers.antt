use Rattle.std.proofs.Common.{◌≡◌, ◌+◌, [], length, ap, ◌∙◌, arith}
use Rattle.qc_token.specs.TokenSpelling.{token_len}
use Rattle.qc_token.proofs.token.Token.encode.Goals as goal

-- the plain bytes, the tag that sealing adds, and the nonce
pub returns-clause-size : goal.returns-clause-size
unfolding token_len
returns-clause-size g c =
    let sealed : length c.seal.new.body.items ≡ length c.put_payload.new.out.items + 16 =
    ap length c.in_ok-seal.ensures.ok ∙ g.met.K.Aead.AeadKey.sealed_length c.aead_from_hkdf-aead.result [] c.put_payload.new.out.items in
    omega (arith, sealed, c.in_ok-put_payload.ensures.size, c.in_ok-extend_from_slice.ensures.len)
