-- A transmit that sends nothing leaves the path in use, and the id that the peer chose; and one that the pacer holds back all of the paths.
use Rattle.std.proofs.Common.{◌≡◌, ℕ, refl}
use Rattle.qc_state.specs.declared.deeds.Quiet.{Quiet}
use Rattle.qc_state.specs.declared.deeds.Quiet.TheVariants.{NothingOwed, Silent, Amplification, Congestion, Pacing, Killed}
use Rattle.qc_state.specs.declared.paths.Paths.{Paths}
use Rattle.qc_state.specs.declared.transmit.Batch.{Batch}
use Rattle.qc_state.specs.Moves.{move_to, paths_move, state_move}
use Rattle.qc_base.specs.Time.{plus}
use Rattle.qc_path.specs.Mtu.{probe_sent}
use Rattle.qc_state.specs.Paths.{is_blocked, path_probed, path_quiet}
use Rattle.qc_state.specs.Sending.{held_after}
use Rattle.qc_state.specs.Types.{Types, Meaning}
use Rattle.qc_state.specs.View.{At}

pub quiet_current : {C : Type 0} → (p : Paths C) (q : Quiet) → (path_quiet p q).current ≡ p.current
unfolding path_quiet
quiet_current p NothingOwed = refl
quiet_current p Silent = refl
quiet_current p Amplification = refl
quiet_current p Congestion = refl
quiet_current p Pacing = refl
quiet_current p Killed = refl

pub quiet_chosen : {C : Type 0} → (p : Paths C) (q : Quiet) → (path_quiet p q).peer_cid ≡ p.peer_cid
unfolding path_quiet
quiet_chosen p NothingOwed = refl
quiet_chosen p Silent = refl
quiet_chosen p Amplification = refl
quiet_chosen p Congestion = refl
quiet_chosen p Pacing = refl
quiet_chosen p Killed = refl

-- so the path is blocked where it was
pub quiet_blocked : {C : Type 0} → (p : Paths C) (q : Quiet) → is_blocked (path_quiet p q) ≡ is_blocked p
unfolding path_quiet is_blocked
quiet_blocked p NothingOwed = refl
quiet_blocked p Silent = refl
quiet_blocked p Amplification = refl
quiet_blocked p Congestion = refl
quiet_blocked p Pacing = refl
quiet_blocked p Killed = refl

-- a probe of the path's size leaves the path as it is, but for the bytes that were sent and its search, and the id that the peer chose
pub probed_current : {C : Type 0} → (p : Paths C) (time n bytes : ℕ) (q : Quiet) →
    (path_probed p time n bytes q).current ≡ record p.current { sent = plus p.current.sent bytes; kept = record p.current.kept { mtud = probe_sent time n p.current.kept.mtud } }
unfolding path_probed path_quiet
probed_current p time n bytes NothingOwed = refl
probed_current p time n bytes Silent = refl
probed_current p time n bytes Amplification = refl
probed_current p time n bytes Congestion = refl
probed_current p time n bytes Pacing = refl
probed_current p time n bytes Killed = refl

pub probed_chosen : {C : Type 0} → (p : Paths C) (time n bytes : ℕ) (q : Quiet) → (path_probed p time n bytes q).peer_cid ≡ p.peer_cid
unfolding path_probed path_quiet
probed_chosen p time n bytes NothingOwed = refl
probed_chosen p time n bytes Silent = refl
probed_chosen p time n bytes Amplification = refl
probed_chosen p time n bytes Congestion = refl
probed_chosen p time n bytes Pacing = refl
probed_chosen p time n bytes Killed = refl

-- so do those of a transmit that the pacer may hold back
module _ {t : Types} where
  pub held_paths : (m : Meaning t) (time : ℕ) (quiet : Quiet) (b : Batch) (a : At t) → (held_after m time quiet b a).state.paths ≡ a.state.paths
  unfolding held_after move_to state_move paths_move
  held_paths m time Pacing b a = refl
  held_paths m time NothingOwed b a = refl
  held_paths m time Silent b a = refl
  held_paths m time Amplification b a = refl
  held_paths m time Congestion b a = refl
  held_paths m time Killed b a = refl
