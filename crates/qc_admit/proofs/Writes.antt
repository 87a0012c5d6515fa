-- The session writes until nothing is left.
use Rattle.std.proofs.Common.{◌≡◌, ℕ, zero, suc, ◌<◌, ◌≤◌, refl, sym, ◌∙◌, subst, ap, Bool, true, false, arith}
use Rattle.qc_admit.specs.Reading.{HasWritten}
use Rattle.qc_state.specs.Progress.{is_written, write_after, writes_after, written_after}
use Rattle.qc_state.specs.Types.{Types, Meaning}
use Rattle.qc_state.specs.View.{At}

module _ {t : Types} (m : Meaning t) where
  -- so many more writes make of what stands now what all writes make of what stood first
  pub record Leads (a first : At t) : Type 0 where
    pub fuel : ℕ
    pub enough : m.left a.state.lower.session ≤ fuel
    pub same : writes_after fuel m a ≡ written_after m first

  -- before the first write
  pub leads_first : (a : At t) → Leads a a
  unfolding written_after
  leads_first a = record { fuel = m.left a.state.lower.session; enough = omega arith; same = refl }

  -- one write more, by how many may be made
  one_write : (n : ℕ) (a b first : At t) → m.left a.state.lower.session ≤ n → is_written m a.state.lower.session ≡ false → b ≡ write_after m a → m.left b.state.lower.session < m.left a.state.lower.session →
      writes_after n m a ≡ written_after m first → Leads b first
  one_write zero a b first enough more is less same = absurd (omega (arith, enough, less))
  one_write (suc n) a b first enough more is less same =
      record { fuel = n; enough = omega (arith, enough, less); same = ap (writes_after n m) is ∙ sym (rw more refl) ∙ same }

  -- the session wrote once more
  pub leads_on : (a b first : At t) (wrote : Bool) → wrote ≡ true → HasWritten m wrote a b → Leads a first → Leads b first
  leads_on a b first wrote e told l = let h = subst (λ (x : Bool). HasWritten m x a b) e told in one_write l.fuel a b first l.enough h.0 h.1.0 h.1.1 l.same

  -- less is left behind a write
  pub falls : (a b : At t) (wrote : Bool) → wrote ≡ true → HasWritten m wrote a b → m.left b.state.lower.session < m.left a.state.lower.session
  falls a b wrote e told = (subst (λ (x : Bool). HasWritten m x a b) e told).1.1

  -- where nothing is left, more writes change nothing
  none_left : (n : ℕ) (a : At t) → is_written m a.state.lower.session ≡ true → writes_after n m a ≡ a
  none_left zero a done = refl
  none_left (suc n) a done = rw done refl

  -- nothing is left
  pub leads_last : (a b first : At t) (wrote : Bool) → wrote ≡ false → HasWritten m wrote a b → Leads a first → b ≡ written_after m first
  leads_last a b first wrote e told l = let h = subst (λ (x : Bool). HasWritten m x a b) e told in h.1 ∙ sym (none_left l.fuel a h.0) ∙ l.same
