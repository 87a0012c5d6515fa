use Rattle.std.proofs.Common.{arith}
use Rattle.qc_token.proofs.TokenLaws.{short_token}
use Rattle.qc_token.proofs.token.Token.decode.Goals as goal

pub returns-then-raw-lt16-clause-only : goal.returns-then-raw-lt16-clause-only
returns-then-raw-lt16-clause-only g c = short_token g.K.Aead.AeadKey.sealed (g.K.HandshakeTokenKey.derived c.args.key.now) c.args.raw.now (omega arith)
