-- What is asked for last, since that takes longest, where it decides nothing.
use Rattle.std.proofs.Common.{◌≡◌, Bool, true, false, ◌&&◌, not, refl, ap, sym, ◌∙◌, None}
use Rattle.std.proofs.lemmas.Bool.{false≢true}
use Rattle.qc_state.specs.Sending.{held_in}

-- where neither the window nor the pacer holds a datagram back, nothing does
pub none_held : (eager congested paced : Bool) → congested ≡ false → paced ≡ false → None ≡ held_in eager congested paced
none_held eager true paced calm free = absurd (false≢true (sym calm))
none_held eager false true calm free = absurd (false≢true (sym free))
none_held true false false calm free = refl
none_held false false false calm free = refl

-- where no ACK is owed, none is owed alone
pub none_owed : (wants owes : Bool) → owes ≡ false → false ≡ (not wants && owes)
none_owed true owes none = refl
none_owed false owes none = sym none

-- where one is, it is owed alone unless more waits
pub owed_alone : (told wants owes : Bool) → told ≡ wants → owes ≡ true → not told ≡ (not wants && owes)
owed_alone told true owes same some = ap (λ (b : Bool). not b) same
owed_alone told false owes same some = ap (λ (b : Bool). not b) same ∙ sym some
