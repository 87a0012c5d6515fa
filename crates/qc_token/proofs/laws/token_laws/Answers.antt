use Rattle.qc_token.proofs.TokenLaws.{token_back, token_spelled}
use Rattle.qc_token.proofs.laws.token_laws.Goals as goal

pub returns-clause-text : goal.returns-clause-text
returns-clause-text g c = λ derived t whole below. token_spelled g.A.AeadKey.sealed derived t whole below

pub returns-clause-back : goal.returns-clause-back
returns-clause-back g c = λ derived t whole below. token_back g.A.AeadKey.sealed derived g.A.AeadKey.opened g.met.A.AeadKey.opens_sealed t whole below
