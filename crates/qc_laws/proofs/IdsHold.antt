-- The law of the ids that packets to the peer carry, of each input and of a run.
use Rattle.std.proofs.Common.{◌≡◌, ℕ, ◌+◌, ◌<◌, ◌==◌, List, [], ◌∷◌, ◌++◌, length, refl, sym, ap, ◌∙◌, subst, Bool, true, false, Option, Some, None, if◌then◌else◌, arith, length-append}
use Rattle.std.specs.Prelude.{nat_le, is_some}
use Rattle.qc_base.specs.declared.side.Side.{Side}
use Rattle.qc_base.specs.declared.side.SpaceId.{SpaceId}
use Rattle.qc_base.specs.declared.side.SpaceId.TheVariants.{Handshake}
use Rattle.qc_cids.specs.Cids.{asked_more, new_refusal}
use Rattle.qc_cids.specs.Steps as cids
use Rattle.qc_cids.specs.Steps.{after, after_step, new_taken}
use Rattle.qc_cids.specs.declared.connection_ids.ConnectionIds.{ConnectionIds}
use Rattle.qc_flight.specs.Packets.{Entry}
use Rattle.qc_flight.specs.declared.sent.SentPacket.{SentPacket}
use Rattle.qc_frame.specs.Frame.{FrameValue}
use Rattle.qc_frame.specs.declared.frames.FrameOf.TheVariants as frames
use Rattle.qc_frame.specs.declared.frames.NewConnectionId.{NewConnectionId}
use Rattle.qc_ids.specs.CidQueue.{active_of, after_next, given_cid, inserted, kept_above, kept_between, renamed}
use Rattle.qc_ids.specs.LocalCids.{may_retire}
use Rattle.qc_ids.specs.QueueLaws.{is_taken, queue_after}
use Rattle.qc_ids.specs.declared.cid_queue.KeptCid.{KeptCid}
use Rattle.qc_params.specs.declared.params.PreferredAddress.{PreferredAddress}
use Rattle.qc_recovery.specs.declared.calls.Fired.{Fired}
use Rattle.qc_recovery.specs.declared.calls.Fired.TheVariants as fired
use Rattle.qc_state.specs.declared.deeds.Verdict.{Verdict}
use Rattle.qc_state.specs.declared.deeds.Verdict.TheVariants as verdict
use Rattle.qc_state.specs.declared.form.Form.{Form}
use Rattle.qc_state.specs.declared.input.Input.{Input}
use Rattle.qc_state.specs.declared.lower.Lower.{Lower}
use Rattle.qc_state.specs.declared.paths.Path.{Path}
use Rattle.qc_state.specs.declared.paths.Paths.{Paths}
use Rattle.qc_state.specs.declared.trace.Step.{Step}
use Rattle.qc_state.specs.Flight.{flown_packet}
use Rattle.qc_state.specs.Forms.{number_space}
use Rattle.qc_state.specs.Ids.{again_ids, fired_ids, lost_cid, lost_cids, lost_ids, preferred_cid, preferred_steps, sealed_cid, sealed_cids}
use Rattle.qc_state.specs.Lower.{bytes_came, datagrams_stepped, events_told, flight_dropped, frame_handed, frames_sealed, ids_stepped, limits_learned, packet_flown, packets_settled, session_read, session_wrote, streams_closed, streams_stepped, timer_fired}
use Rattle.qc_state.specs.Moves.{Probe, Accept, Ack, Begin, Clock, Finish, Fire, Fix, Forget, Hear, Insert, Issue, Learn, MayMove, Move, Outlive, Retire, Say, Seal, Spend, Switch, Take, Want, lower_move, move_to, paths_move, state_move, Renew}
use Rattle.qc_state.specs.Moves as moves
use Rattle.qc_state.specs.Numbers.{next_number, received_number}
use Rattle.qc_state.specs.Offers.{begun_ids, oldest_in, probe_ids, wants_sending}
use Rattle.qc_state.specs.Paths.{path_accepted, path_kept, path_named, path_received, path_sent, path_spun, peer_fixed, spun_by, path_capped}
use Rattle.qc_state.specs.Run.{IsStep, Run, began, called, reported, step_after, time_of}
use Rattle.qc_state.specs.Sending.{packet_size}
use Rattle.qc_state.specs.Spaces.{space_of}
use Rattle.qc_state.specs.Types.{Types, Meaning}
use Rattle.qc_state.specs.View.{View, At}
use Rattle.qc_state.specs.Waiting.{probe_spent}
use Rattle.qc_state.proofs.Probed.{begun_streams}
use Rattle.qc_state.proofs.Quieted.{probed_chosen, probed_current, quiet_chosen, quiet_current}
use Rattle.qc_state.proofs.Transmitted.{IsSealable}
use Rattle.qc_laws.specs.IdLaws.{IdsHold}
use Rattle.qc_laws.proofs.KnownMoves.{IsKnownMove, known_input}

-- ---- steps that leave the peer's ids

-- the steps with which frames are sealed or lost, and those of this end's ids
abbrev pub IsCalm : cids.Step → Type 0
IsCalm (cids.NewCame new) = ⊥
IsCalm cids.Switched = ⊥
IsCalm (cids.Renamed id) = ⊥
IsCalm (cids.Preferred new) = ⊥
IsCalm _ = Unit {0}

abbrev pub AreCalm : List cids.Step → Type 0
AreCalm [] = Unit {0}
AreCalm (x ∷ xs) = IsCalm x × AreCalm xs

retired_by : (b : Bool) (s s' : ConnectionIds) → s'.remote ≡ s.remote → (if b then s' else s).remote ≡ s.remote
retired_by true s s' same = same
retired_by false s s' same = refl

calm_step : (x : cids.Step) (s : ConnectionIds) → IsCalm x → (after_step x s).remote ≡ s.remote
unfolding after_step asked_more
calm_step (cids.NewCame new) s h = absurd h
calm_step cids.Switched s h = absurd h
calm_step (cids.Renamed id) s h = absurd h
calm_step (cids.Preferred new) s h = absurd h
calm_step (cids.RetireCame limit n) s h = retired_by (may_retire n s.local) s _ refl
calm_step _ s h = refl

pub calm_steps : (xs : List cids.Step) (s : ConnectionIds) → AreCalm xs → (after xs s).remote ≡ s.remote
unfolding after
calm_steps [] s h = refl
calm_steps (x ∷ xs) s h = calm_steps xs (after_step x s) h.1 ∙ calm_step x s h.0

calm_append : (xs ys : List cids.Step) → AreCalm xs → AreCalm ys → AreCalm (xs ++ ys)
calm_append [] ys h g = g
calm_append (x ∷ xs) ys h g = (h.0, calm_append xs ys h.1 g)

sealed_one : (f : FrameValue) → AreCalm (sealed_cid f)
sealed_one (frames.NewConnectionId new) = (tt, tt)
sealed_one (frames.RetireConnectionId n) = (tt, tt)
sealed_one _ = tt

pub sealed_calm : (fs : List FrameValue) → AreCalm (sealed_cids fs)
unfolding sealed_cids
sealed_calm [] = tt
sealed_calm (f ∷ fs) = calm_append (sealed_cid f) (sealed_cids fs) (sealed_one f) (sealed_calm fs)

lost_one : (f : FrameValue) → AreCalm (lost_cid f)
lost_one (frames.NewConnectionId new) = (tt, tt)
lost_one (frames.RetireConnectionId n) = (tt, tt)
lost_one _ = tt

lost_calm : (fs : List FrameValue) → AreCalm (lost_cids fs)
unfolding lost_cids
lost_calm [] = tt
lost_calm (f ∷ fs) = calm_append (lost_cid f) (lost_cids fs) (lost_one f) (lost_calm fs)

pub packets_calm : (es : List Entry) → AreCalm (lost_ids es)
unfolding lost_ids
packets_calm [] = tt
packets_calm (e ∷ es) = calm_append (lost_cids e.1.frames) (lost_ids es) (lost_calm e.1.frames) (packets_calm es)

pub fired_calm : (f : Fired) → AreCalm (fired_ids f)
fired_calm (fired.Lost id lost) = packets_calm lost
fired_calm (fired.Probe id count) = tt
fired_calm fired.Nothing = tt

again_calm : (b : Bool) (o : Option SentPacket) → AreCalm (if b then [] else again_ids o)
again_calm true o = tt
again_calm false None = tt
again_calm false (Some packet) = lost_calm packet.frames

-- one id at least is left
taken_some : (b : Bool) (new : NewConnectionId) (ids : List KeptCid) → 0 < length ids → 0 < length (if b then inserted new ids else ids)
unfolding inserted
taken_some true new ids some = omega (arith, length-append (kept_between new.retire_prior_to new.sequence ids) (given_cid new ∷ kept_above new.sequence ids))
taken_some false new ids some = some

came_some : (b : Bool) (new : NewConnectionId) (s : ConnectionIds) → 0 < length s.remote → 0 < length (if b then s else new_taken new s).remote
unfolding new_taken queue_after
came_some true new s some = some
came_some false new s some = taken_some (is_taken new s.remote) new s.remote some

next_some : (ids : List KeptCid) → 0 < length ids → 0 < length (after_next ids)
next_some [] some = some
next_some (x ∷ []) some = some
next_some (x ∷ y ∷ ids) some = omega arith

renamed_some : (id : List ℕ) (ids : List KeptCid) → 0 < length ids → 0 < length (renamed id ids)
renamed_some id [] some = some
renamed_some id (x ∷ ids) some = omega arith

renamed_active : (id : List ℕ) (ids : List KeptCid) → 0 < length ids → id ≡ active_of (renamed id ids)
renamed_active id [] some = absurd (omega (arith, some))
renamed_active id (x ∷ ids) some = refl

-- ---- paths

module _ {C : Type 0} where
  -- neither id on the path changes
  record SamePath (p q : Paths C) : Type 0 where
    pub chosen : q.peer_cid ≡ p.peer_cid
    pub used : q.current.remote_cid ≡ p.current.remote_cid

  same_here : (p : Paths C) → SamePath p p
  same_here p = record { chosen = refl; used = refl }

  -- a packet was accepted
  accepted_same : (p : Paths C) (id : SpaceId) (v : Verdict) → SamePath p (path_accepted p id v)
  unfolding path_accepted
  accepted_same p Handshake verdict.Admitted = record { chosen = refl; used = refl }
  accepted_same p _ _ = same_here p

  spun_greatest : (p : Paths C) (side : Side) (bit b : Bool) → SamePath p (if b then record p { spin = spun_by side bit } else p)
  spun_greatest p side bit true = record { chosen = refl; used = refl }
  spun_greatest p side bit false = same_here p

  spun_same : (p : Paths C) (id : SpaceId) (v : Verdict) (side : Side) (greatest bit : Bool) → SamePath p (path_spun (path_accepted p id v) side greatest bit)
  unfolding path_spun
  spun_same p id v side greatest bit =
      let first = accepted_same p id v in
      let second = spun_greatest (path_accepted p id v) side bit greatest in
      record { chosen = second.chosen ∙ first.chosen; used = second.used ∙ first.used }

-- a packet that is sealed leaves the ids
pub flown_ids : {S : Type 0} → (owed : Bool) (l : Lower S) (id : SpaceId) (n : ℕ) (packet : SentPacket) → (if owed then l else packet_flown l id n packet).ids ≡ l.ids
unfolding packet_flown
flown_ids true l id n packet = refl
flown_ids false l id n packet = refl

module _ {t : Types} (m : Meaning t) where
  -- where the peer's ids stay, and both on the path
  ids_by : (s s' : View t) → s'.lower.ids.remote ≡ s.lower.ids.remote → SamePath s.paths s'.paths → IdsHold s s'
  ids_by s s' same path = record {
    chosen = λ cid e. path.chosen ∙ e;
    carried = λ k. record { some = subst (λ (ids : List KeptCid). 0 < length ids) (sym same) k.some; used = path.used ∙ k.used ∙ ap active_of (sym same) };
  }

  ids_here : (s : View t) → IdsHold s s
  ids_here s = ids_by s s refl (same_here s.paths)

  ids_next : (u v w : View t) → IdsHold u v → IdsHold v w → IdsHold u w
  ids_next u v w g h = record { chosen = λ cid e. h.chosen cid (g.chosen cid e); carried = λ k. h.carried (g.carried k) }

  -- a packet is begun
  pub begun_calm : (id : SpaceId) (opens : Bool) (s : View t) → AreCalm (begun_ids id opens s)
  unfolding begun_ids probe_ids
  begun_calm id opens s = begun_by ((space_of s.waiting.spaces id).probes == 0)
    where
      begun_by : (b : Bool) → AreCalm (if b then [] else probe_ids id (if opens then record s { waiting = probe_spent s.waiting id } else s))
      begun_by true = tt
      begun_by false = let v : View t = if opens then record s { waiting = probe_spent s.waiting id } else s in again_calm (wants_sending v id) (oldest_in v id)

  -- the peer's parameters were read
  learned_some : (s : ConnectionIds) (o : Option PreferredAddress) → 0 < length s.remote → 0 < length (after (preferred_steps o) s).remote
  unfolding after after_step queue_after
  learned_some s None some = some
  learned_some s (Some address) some = taken_some (is_taken (preferred_cid address) s.remote) (preferred_cid address) s.remote some

  -- each move
  ids_move : (x : Move t) (s : View t) → IsKnownMove m x s → MayMove x s → IdsHold s (state_move x s)
  unfolding state_move lower_move paths_move path_kept path_named path_received path_sent peer_fixed MayMove frames_sealed ids_stepped streams_stepped datagrams_stepped bytes_came session_read session_wrote flight_dropped packets_settled timer_fired frame_handed streams_closed limits_learned after after_step path_capped
  ids_move (Clock time) s known may = absurd known
  ids_move (Take id fs) s known may = absurd known
  ids_move (Seal time form n size fs) s known may = absurd known
  ids_move (Spend tokens) s known may = ids_by s _ refl (record { chosen = refl; used = refl })
  ids_move (Finish bytes control) s known may = ids_by s _ refl (record { chosen = refl; used = refl })
  ids_move (Probe time n bytes q) s known may = ids_by s _ refl (record { chosen = probed_chosen s.paths time n bytes q; used = ap (λ (p : Path t.C). p.remote_cid) (probed_current s.paths time n bytes q) })
  ids_move (Fix cid) s known may = record {
    chosen = λ other e. cc (may, e);
    carried = λ k. record { some = renamed_some cid s.lower.ids.remote k.some; used = renamed_active cid s.lower.ids.remote k.some };
  }
  ids_move (Renew time cid token keys) s known may = record {
    chosen = λ other e. e;
    carried = λ k. record { some = renamed_some cid s.lower.ids.remote k.some; used = renamed_active cid s.lower.ids.remote k.some };
  }
  ids_move (Insert new) s known may = record {
    chosen = λ cid e. e;
    carried = λ k. record { some = came_some (is_some (new_refusal new s.lower.ids.remote)) new s.lower.ids k.some; used = refl };
  }
  ids_move Switch s known may = record { chosen = λ cid e. e; carried = λ k. record { some = next_some s.lower.ids.remote k.some; used = refl } }
  ids_move (Learn p) s known may = record { chosen = λ cid e. e; carried = λ k. record { some = learned_some s.lower.ids p.preferred_address k.some; used = refl } }
  ids_move (Accept time id n e g v) s known may = ids_by s _ refl (spun_same s.paths id v s.setup.fixed.side (nat_le (received_number s.numbers id) n) g.spin)
  ids_move (Hear bytes) s known may = ids_by s _ refl (record { chosen = refl; used = refl })
  ids_move (Forget id) s known may = ids_by s _ refl (record { chosen = refl; used = refl })
  ids_move (Ack id n r) s known may = ids_by s _ (calm_steps (lost_ids r.lost) s.lower.ids (packets_calm r.lost)) (record { chosen = refl; used = refl })
  ids_move (Fire r) s known may = ids_by s _ (calm_steps (fired_ids r.fired) s.lower.ids (fired_calm r.fired)) (record { chosen = refl; used = refl })
  ids_move (Say quiet) s known may = ids_by s _ refl (record { chosen = quiet_chosen s.paths quiet; used = ap (λ (p : Path t.C). p.remote_cid) (quiet_current s.paths quiet) })
  ids_move (Begin id opens) s known may =
      ids_by s _ (ap (λ (l : Lower t.S). l.ids.remote) (begun_streams id opens s) ∙ calm_steps (begun_ids id opens s) s.lower.ids (begun_calm id opens s)) (record { chosen = refl; used = refl })
  ids_move (Retire time n) s known may = ids_by s _ (calm_step (cids.RetireCame _ n) s.lower.ids tt) (record { chosen = refl; used = refl })
  ids_move (Issue time given) s known may = ids_by s _ (calm_step (cids.Given given time) s.lower.ids tt) (record { chosen = refl; used = refl })
  ids_move Outlive s known may = ids_by s _ (calm_step cids.Expired s.lower.ids tt) (record { chosen = refl; used = refl })
  ids_move (Want time count) s known may = ids_by s _ (calm_step (cids.Asked count) s.lower.ids tt) (record { chosen = refl; used = refl })
  ids_move moves.ReportStream s known may = absurd known
  ids_move moves.ReportStreams s known may = absurd known
  ids_move _ s known may = ids_by s _ refl (record { chosen = refl; used = refl })

  -- from one moment to another
  abbrev IdsOver : At t → At t → Type 0
  IdsOver a b = IdsHold a.state b.state

  known_ids : (x : Move t) (a : At t) → IsKnownMove m x a.state → MayMove x a.state → IdsOver a (move_to x a)
  unfolding move_to
  known_ids x a known may = ids_move x a.state known may

  -- a packet is taken and sealed
  sealed_ids : (time : ℕ) (form : Form) (fs : List FrameValue) (a : At t) → IsSealable time a.state form fs →
      IdsOver a (move_to (Seal time form (next_number a.state.numbers (number_space form)) (packet_size a.state form fs) fs) (move_to (Take (number_space form) fs) a))
  unfolding move_to state_move paths_move lower_move frames_sealed ids_stepped streams_stepped datagrams_stepped
  sealed_ids time form fs a may =
      let b : At t = move_to (Take (number_space form) fs) a in
      ids_by a.state _
      (ap (λ (x : ConnectionIds). x.remote) (flown_ids b.state.waiting.close_owed b.state.lower (number_space form) (next_number a.state.numbers (number_space form)) (flown_packet time (packet_size a.state form fs) fs))
      ∙ calm_steps (sealed_cids fs) a.state.lower.ids (sealed_calm fs)) (record { chosen = refl; used = refl })

  -- a step
  step_ids : (k : ℕ) (s : View t) (i : Input) (x : Step) (s' : View t) → IsStep m k s i x s' → IdsHold s s'
  unfolding called began step_after reported state_move paths_move lower_move events_told streams_stepped
  step_ids k s i x s' h =
      let b : At t = called m s i h.choice in
      let over : IdsHold (began s (time_of i)).state b.state =
      known_input m IdsOver (λ a. ids_here a.state) (λ a b c g h. ids_next a.state b.state c.state g h) known_ids sealed_ids i h.choice (began s (time_of i)) h.allowed in
      ids_next s b.state s' (record { chosen = over.chosen; carried = λ k. over.carried (record { some = k.some; used = k.used }) })
      (ids_by b.state s' (ap (λ (l : Lower t.S). l.ids.remote) h.lower) (record { chosen = ap (λ (p : Paths t.C). p.peer_cid) h.paths; used = ap (λ (p : Paths t.C). p.current.remote_cid) h.paths }))

  -- a run, one step after the other
  pub run_ids : (k : ℕ) (s : View t) (is : List Input) (xs : List Step) (s' : View t) → Run m k s is xs s' → IdsHold s s'
  unfolding Run
  run_ids k s [] [] s' r = subst (λ (v : View t). IdsHold s v) (sym r) (ids_here s)
  run_ids k s (i ∷ is) (x ∷ xs) s' r = ids_next s r.0 s' (step_ids k s i x r.0 r.1) (run_ids (k + 1) r.0 is xs s' r.2)
  run_ids k s [] (x ∷ xs) s' r = absurd r
  run_ids k s (i ∷ is) [] s' r = absurd r
