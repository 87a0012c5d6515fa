-- A datagram that is refused: what is noted of it is what the connection has then.
use Rattle.std.proofs.Common.{◌≡◌, ℕ, List, [], ◌∷◌, refl, ap, sym, ◌∙◌, Bool, Option, Some}
use Rattle.qc_conn.specs.Posting.{posted, refused_as, unsent, with_datagrams}
use Rattle.qc_datagrams.specs.declared.datagrams.Datagrams.{Datagrams}
use Rattle.qc_datagrams.specs.declared.datagrams.SendRefusal.{SendRefusal}
use Rattle.qc_datagrams.specs.declared.datagrams.SendRefusal.TheVariants as send
use Rattle.qc_datagrams.specs.Datagrams.{send_refusal, send_refused}
use Rattle.qc_datagrams.specs.Steps.{after, after_step, sent_unless}
use Rattle.qc_state.specs.Lower.{datagrams_stepped}
use Rattle.qc_state.specs.Types.{Types}
use Rattle.qc_state.specs.View.{Held}

module _ {t : Types} {R : Type 0} where
  pub refusal_leaves : (most : Option ℕ) (drops : Bool) (body : List ℕ) (c : Held t R) (why : SendRefusal) → send_refusal most drops body c.lower.datagrams ≡ Some why →
      with_datagrams c (send_refused why c.lower.datagrams) ≡ unsent (refused_as why body) most drops body c
  unfolding datagrams_stepped after after_step send_refused
  refusal_leaves most drops body c send.Disabled is = refl
  refusal_leaves most drops body c send.UnsupportedByPeer is = refl
  refusal_leaves most drops body c send.TooLarge is = refl
  refusal_leaves most drops body c send.Blocked is = ap (λ (o : Option SendRefusal). with_datagrams c (sent_unless o body c.lower.datagrams)) (sym is)
