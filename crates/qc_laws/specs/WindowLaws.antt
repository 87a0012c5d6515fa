-- Laws over whole runs, said of the congestion window (RFC 9002, section 7).
use Rattle.std.specs.Prelude.{◌≡◌, ◌⊎◌, ℕ, ◌+◌, ◌<◌, Bool, true, false, not, List, ◌∷◌}
use Rattle.std.specs.List.{list_any}
use Rattle.qc_base.specs.declared.side.SpaceId.TheVariants.{«Data»}
use Rattle.qc_path.specs.Mtu.{is_probe}
use Rattle.qc_recovery.specs.Steps.{all_bytes}
use Rattle.qc_state.specs.declared.deeds.Did.{Did}
use Rattle.qc_state.specs.declared.deeds.Did.TheVariants as did
use Rattle.qc_state.specs.declared.input.Input.{Input}
use Rattle.qc_state.specs.declared.trace.Step.{Step}
use Rattle.qc_state.specs.Run.{IsStep}
use Rattle.qc_state.specs.Sending.{is_eager}
use Rattle.qc_state.specs.Types.{Types, Meaning}
use Rattle.qc_state.specs.View.{View}

module _ {t : Types} where
  -- the bytes in flight
  abbrev pub in_flight : View t → ℕ
  in_flight s = all_bytes s.lower.recovery

  -- the congestion window of the path in use
  abbrev pub window_of : Meaning t → View t → ℕ
  window_of m s = m.control.window_of s.paths.current.kept.congestion

  -- a deed seals a packet in a space where no frame waited that elicits an acknowledgement, or where a probe was due, which the window
  -- mustn't hold back (RFC 9002, section 7.5)
  abbrev pub is_exempt : View t → Did → Bool
  is_exempt s (did.Sealed id number epoch early fs) = not (is_eager s id)
  is_exempt s _ = false

  -- a deed seals the probe of the path's size that the search waits for from then on
  abbrev pub seals_probe : View t → Did → Bool
  seals_probe s' (did.Sealed «Data» number epoch early fs) = is_probe number s'.paths.current.kept.mtud
  seals_probe s' _ = false

  -- Where more bytes are in flight behind an input than before it, they are fewer than the window as it began, unless it sealed such a packet
  -- (RFC 9002, section 7: no packet may be sent that would make them more than the window), or a probe of the path's size, which goes alone.
  unfoldable pub KeepsWindow : Meaning t → List Did → View t → View t → Type 0
  KeepsWindow m ds s s' = in_flight s < in_flight s' → (in_flight s' < window_of m s) ⊎ ((list_any (is_exempt s) ds ≡ true) ⊎ (list_any (seals_probe s') ds ≡ true))

  -- so does each step of a run
  unfoldable pub EachKeepsWindow : Meaning t → ℕ → View t → List Input → List Step → View t → Type 0
  EachKeepsWindow m k s (i ∷ is) (x ∷ xs) s' = (mid : View t) × IsStep m k s i x mid × KeepsWindow m x.did s mid × EachKeepsWindow m (k + 1) mid is xs s'
  EachKeepsWindow m k s is xs s' = Unit {0}
