-- The laws of the path, of each input and of a run.
use Rattle.std.proofs.Common.{◌≡◌, ℕ, ◌+◌, ◌*◌, ◌<◌, ◌≤◌, List, [], ◌∷◌, ◌++◌, ◌⊎◌, inl, inr, length, refl, ap, sym, ◌∙◌, subst, Bool, true, false, Option, Some, None, if◌then◌else◌, arith}
use Rattle.std.proofs.lemmas.Bool.Decides.{nat_tests}
use Rattle.std.proofs.lemmas.List.{append_assoc, append-nil}
use Rattle.std.proofs.lemmas.List.Folds.{list_any-append}
use Rattle.std.specs.Prelude.{◌&&◌, ◌||◌, ◌-◌, ◌==◌, min, not, nat_le, is_none}
use Rattle.qc_base.specs.Time.{plus}
use Rattle.std.specs.List.{list_any}
use Rattle.std.specs.declared.net.SocketAddr.{SocketAddr}
use Rattle.qc_base.specs.declared.side.Side.{Side}
use Rattle.qc_base.specs.declared.side.Side.TheVariants.{Client}
use Rattle.qc_base.specs.declared.side.SpaceId.{SpaceId}
use Rattle.qc_base.specs.declared.side.SpaceId.TheVariants.{Initial, Handshake, «Data»}
use Rattle.qc_frame.specs.Frame.{FrameValue}
use Rattle.qc_header.specs.HeaderGrammar.{DatagramItem}
use Rattle.qc_recovery.specs.Steps.{path_dropped}
use Rattle.qc_recovery.specs.declared.path.PathData.{PathData}
use Rattle.qc_path.specs.Mtu.{probe_sent}
use Rattle.qc_state.specs.declared.form.Form.{Form}
use Rattle.qc_state.specs.declared.form.Form.TheVariants as form
use Rattle.qc_state.specs.declared.coming.Coming.{Coming}
use Rattle.qc_state.specs.declared.deeds.Did.{Did}
use Rattle.qc_state.specs.declared.deeds.Did.TheVariants as did
use Rattle.qc_state.specs.declared.deeds.Verdict.{Verdict}
use Rattle.qc_state.specs.declared.deeds.Verdict.TheVariants as verdict
use Rattle.qc_state.specs.declared.deeds.Quiet.TheVariants.{Killed, Pacing}
use Rattle.qc_state.specs.declared.input.Input.{Input}
use Rattle.qc_state.specs.declared.input.Input.TheVariants as input
use Rattle.qc_state.specs.declared.life.Close.{Close}
use Rattle.qc_state.specs.declared.life.Close.TheVariants as close
use Rattle.qc_state.specs.declared.life.ConnectionError.{ConnectionError}
use Rattle.qc_state.specs.declared.life.ConnectionError.TheVariants as lost
use Rattle.qc_state.specs.declared.life.State.TheVariants.{Drained}
use Rattle.qc_state.specs.declared.paths.Path.{Path}
use Rattle.qc_state.specs.declared.paths.Paths.{Paths}
use Rattle.qc_state.specs.declared.trace.Step.{Step}
use Rattle.qc_state.specs.Forms.{number_space}
use Rattle.qc_state.specs.Life.{is_open}
use Rattle.qc_state.specs.Moves.{Accept, Ack, Arm, Come, Confirm, PeerClosesToo, Enter, Establish, Expect, Fail, Fire, Fix, Forget, Give, Hear, Learn, PeerCloses, MayMove, Move, Owe, Pace, Raise, Read, Ready, Release, Say, Seal, Shut, Take, Tell, Token, Want, Write, armed_after, armed_with, deeds_move, move_to, paths_move, state_move, told, Begin, Skip, Hand, told_to_streams, Insert, Switch, Retire, Outlive, Probe, Spend, Discard, Unseal, Update, Renew}
use Rattle.qc_state.specs.Numbers.{next_number, received_number}
use Rattle.qc_state.specs.Headline.{deeds_of}
use Rattle.qc_laws.specs.PathLaws.{IsLimited, PathHolds, all_from, bytes_from, is_handshake_admitted}
use Rattle.qc_state.specs.Paths.{held_size, is_blocked, is_blocked_behind, most_on, path_accepted, path_capped, path_probed, path_kept, path_quiet, path_received, path_sent, path_spun, peer_fixed, same_address, spun_by, path_named}
use Rattle.qc_state.specs.Receiving.{counted_after, cut_of, datagram_after, first_after, first_token, heard_after, is_readable, lets_in, pieces_after}
use Rattle.qc_state.specs.Run.{IsAllowed, IsStep, Run, began, called, close_after, input_after, reported, step_after, time_of, called_all}
use Rattle.qc_state.specs.Batches.{batch_grown, batch_opened, next_segment}
use Rattle.qc_state.specs.Sending.{MayFollow, MayStand, MayTransmit, begun_after, begun_batch, drops_initial, initial_left, packet_after, packet_size, spared_after, transmit_after, Choice, Sent, Ending, Went, Held, Hushed, Probed, Died, MayProbe, flown_after, is_flown, is_key_nearly_used_up, probe_begun_after, probe_frames, probe_sealed, probed_after, sealed_in, spent_after, ending_after, packets_after, Going, going_from, MayAll, MayEnd, handshake_left, finished_after, gone_after, held_after, told_sent, going_tried}
use Rattle.qc_state.specs.Spaces.{space_of}
use Rattle.qc_state.specs.Stopping.{given_after, key_limit_error, killed_after, stopped_after}
use Rattle.qc_state.specs.Setup.{is_first_awaited}
use Rattle.qc_state.specs.Timeouts.{timeout_after}
use Rattle.qc_state.specs.Types.{Types, Meaning}
use Rattle.qc_state.specs.View.{View, At, at}
use Rattle.qc_state.proofs.Expired.{IsTimed, holds_timeout}
use Rattle.qc_state.proofs.ReceivedMoves.{IsOfPiece}
use Rattle.qc_laws.proofs.Receives.{holds_pieces}
use Rattle.qc_state.proofs.Quieted.{held_paths, quiet_current}
use Rattle.qc_state.specs.declared.deeds.Quiet.{Quiet}
use Rattle.qc_state.specs.declared.transmit.Batch.{Batch}
use Rattle.qc_state.proofs.Transmitted.{IsPacketMove, IsSealable, free_behind, holds_packets, holds_packet, beginning_packet}
use Rattle.qc_state.proofs.Batches.{opened_filled, opened_most, opened_total}
use Rattle.qc_state.proofs.Begun.{begun_same}
use Rattle.qc_state.proofs.Probing.{due_validated, probe_paths, sealed_validated}
use Rattle.qc_laws.proofs.StreamCalls.{called_input}
use Rattle.qc_state.proofs.Telling.{told_appends}
use Rattle.qc_state.specs.Streams.{MayRead, calls_of}
use Rattle.qc_state.specs.Updating.{updated_after, tried_after}
use Rattle.qc_state.proofs.Updates.{holds_updated}
use Rattle.qc_state.proofs.Tried.{holds_tried, tried_keeps, tried_same}

-- the path in use holds, from some paths to others
abbrev KeepsPath : {C : Type 0} → (came : ℕ) → List Did → Paths C → Paths C → Type 0
KeepsPath came ds p p' = PathHolds came ds p.current p'.current

-- nothing changes of the counts of a path, nor of its address, and an address that is validated stays so
record Still {C : Type 0} (p p' : Paths C) : Type 0 where
  pub same : p'.current.remote ≡ p.current.remote
  pub first : p'.current.first_mtu ≡ p.current.first_mtu
  pub received : p'.current.received ≡ p.current.received
  pub sent : p'.current.sent ≡ p.current.sent
  pub kept : p.current.validated ≡ true → p'.current.validated ≡ true

still_here : {C : Type 0} → (p : Paths C) → Still p p
still_here p = record { same = refl; first = refl; received = refl; sent = refl; kept = λ h. h }

still_next : {C : Type 0} → (p q r : Paths C) → Still p q → Still q r → Still p r
still_next p q r g h = record { same = h.same ∙ g.same; first = h.first ∙ g.first; received = h.received ∙ g.received; sent = h.sent ∙ g.sent; kept = λ v. h.kept (g.kept v) }

-- by these deeds an address is validated only where it was before, or a Handshake packet was admitted
abbrev Shown : {C : Type 0} → List Did → Paths C → Paths C → Type 0
Shown ds p p' = p'.current.validated ≡ true → (p.current.validated ≡ true) ⊎ (list_any is_handshake_admitted ds ≡ true)

-- of two tests one holds
any_left : (a b : Bool) → a ≡ true → (a || b) ≡ true
any_left true b h = refl
any_left false b h = cc h

any_right : (a b : Bool) → b ≡ true → (a || b) ≡ true
any_right true b h = refl
any_right false b h = h

shown_next : {C : Type 0} → (ds es : List Did) (p q r : Paths C) → Shown ds p q → Shown es q r → Shown (ds ++ es) p r
shown_next ds es p q r g h v = elim (h v) [
  | inl before ↦ elim (g before) [
    | inl first ↦ inl first
    | inr some ↦ inr (list_any-append is_handshake_admitted ds es ∙ any_left (list_any is_handshake_admitted ds) (list_any is_handshake_admitted es) some)
  ]
  | inr some ↦ inr (list_any-append is_handshake_admitted ds es ∙ any_right (list_any is_handshake_admitted ds) (list_any is_handshake_admitted es) some)
]

-- an address that isn't validated afterwards wasn't so before
was_not : (a b : Bool) → (a ≡ true → b ≡ true) → b ≡ false → a ≡ false
was_not true b h e = cc (h refl, e)
was_not false b h e = refl

-- such a path holds, whatever came
still_holds : {C : Type 0} → (came : ℕ) (ds : List Did) (p p' : Paths C) → Still p p' → Shown ds p p' → KeepsPath came ds p p'
still_holds came ds p p' h shown = record {
  same = h.same;
  first = h.first;
  validated = shown;
  received = omega (arith, h.received);
  ranged = λ r. omega (arith, h.received);
  limited = λ r l not_yet. let few : p.current.sent < 3 * p.current.received + held_size p.current.first_mtu = l (was_not p.current.validated p'.current.validated h.kept not_yet) in omega (arith, few, h.received, h.sent, h.first);
}

-- a path that didn't change
unchanged : {C : Type 0} → (came : ℕ) (ds : List Did) (p : Paths C) → KeepsPath came ds p p
unchanged came ds p = still_holds came ds p p (still_here p) (λ v. inl v)

holds_next : {C : Type 0} → (m n : ℕ) (ds es : List Did) (p q r : Paths C) → KeepsPath m ds p q → KeepsPath n es q r → KeepsPath (m + n) (ds ++ es) p r
holds_next m n ds es p q r g h = record {
  same = h.same ∙ g.same;
  first = h.first ∙ g.first;
  validated = shown_next ds es p q r g.validated h.validated;
  received = omega (arith, g.received, h.received);
  ranged = λ k. h.ranged (g.ranged k);
  limited = λ k l. h.limited (g.ranged k) (g.limited k l);
}

-- a packet was accepted
accepted_still : {C : Type 0} → (p : Paths C) (id : SpaceId) (v : Verdict) → Still p (path_accepted p id v)
unfolding path_accepted
accepted_still p Handshake verdict.Admitted = record { same = refl; first = refl; received = refl; sent = refl; kept = λ v. refl }
accepted_still p _ _ = still_here p

accepted_shown : {C : Type 0} → (p : Paths C) (id : SpaceId) (n : ℕ) (v : Verdict) → Shown (did.Piece (Some id) (Some n) v ∷ []) p (path_accepted p id v)
unfolding path_accepted
accepted_shown p Handshake n verdict.Admitted h = inr refl
accepted_shown p _ n _ h = inl h

-- the spin bit leaves the counts, the address and whether it is validated
spun_by_greatest : {C : Type 0} → (p : Paths C) (side : Side) (bit b : Bool) → Still p (if b then record p { spin = spun_by side bit } else p)
spun_by_greatest p side bit true = record { same = refl; first = refl; received = refl; sent = refl; kept = λ v. v }
spun_by_greatest p side bit false = still_here p

spun_still : {C : Type 0} → (p : Paths C) (side : Side) (greatest bit : Bool) → Still p (path_spun p side greatest bit)
unfolding path_spun
spun_still p side greatest bit = spun_by_greatest p side bit greatest

spun_same_by : {C : Type 0} → (p : Paths C) (side : Side) (bit b : Bool) → (if b then record p { spin = spun_by side bit } else p).current.validated ≡ p.current.validated
spun_same_by p side bit true = refl
spun_same_by p side bit false = refl

spun_shown : {C : Type 0} → (p : Paths C) (side : Side) (greatest bit : Bool) → Shown [] p (path_spun p side greatest bit)
unfolding path_spun
spun_shown p side greatest bit v = inl (sym (spun_same_by p side bit greatest) ∙ v)

-- a packet with this spin bit was accepted
accepted_spun : {C : Type 0} → (p : Paths C) (id : SpaceId) (v : Verdict) (side : Side) (greatest bit : Bool) → Still p (path_spun (path_accepted p id v) side greatest bit)
accepted_spun p id v side greatest bit =
    let q = path_accepted p id v in
    still_next p q (path_spun q side greatest bit) (accepted_still p id v) (spun_still q side greatest bit)

spun_after : {C : Type 0} → (p : Paths C) (id : SpaceId) (n : ℕ) (v : Verdict) (side : Side) (greatest bit : Bool) → Shown (did.Piece (Some id) (Some n) v ∷ []) p (path_spun (path_accepted p id v) side greatest bit)
spun_after p id n v side greatest bit =
    let q = path_accepted p id v in
    shown_next (did.Piece (Some id) (Some n) v ∷ []) [] p q (path_spun q side greatest bit) (accepted_shown p id n v) (spun_shown q side greatest bit)

-- what recovery keeps of the path is nothing of that
kept_still : {C : Type 0} → (p : Paths C) (kept : PathData C) → Still p (path_kept p kept)
unfolding path_kept
kept_still p kept = record { same = refl; first = refl; received = refl; sent = refl; kept = λ v. v }

-- so many bytes were heard from the path's address
heard_path : {C : Type 0} → (came : ℕ) (ds : List Did) (p q : Paths C) → Still p q → Shown ds p q → KeepsPath came ds p (path_received q came)
unfolding path_received
heard_path came ds p q h shown = record {
  same = h.same;
  first = h.first;
  validated = shown;
  received = omega (arith, h.received);
  ranged = λ r. omega arith;
  limited = λ r l not_yet. let few : p.current.sent < 3 * p.current.received + held_size p.current.first_mtu = l (was_not p.current.validated q.current.validated h.kept not_yet) in omega (arith, few, h.received, h.sent, h.first, r);
}

-- a transmit sent nothing
quiet_path : {C : Type 0} → (came : ℕ) (ds : List Did) (p : Paths C) (q : Quiet) → KeepsPath came ds p (path_quiet p q)
quiet_path {C} came ds p q = subst (λ (x : Path C). PathHolds came ds p.current x) (sym (quiet_current p q)) (unchanged came ds p)

-- of two tests that hold the second holds
second_holds : (a b : Bool) → (a && b) ≡ true → b ≡ true
second_holds true b h = h
second_holds false b h = cc

-- where it counts, it comes from the path's address
came_length : (remote from : SocketAddr) (bytes : List ℕ) → same_address remote from ≡ true → (if same_address remote from then length bytes else 0) ≡ length bytes
came_length remote from bytes h = ap (λ (b : Bool). if b then length bytes else 0) h

-- so many bytes more stay within the limit, where the path was within it
abbrev HasRoom : {C : Type 0} → Paths C → (bytes : ℕ) → Type 0
HasRoom p bytes = IsLimited p.current → p.current.validated ≡ false → p.current.sent + bytes < 3 * p.current.received + held_size p.current.first_mtu

-- then they may be sent there
sent_path : {C : Type 0} → (came : ℕ) (ds : List Did) (p : Paths C) (size : ℕ) → HasRoom p size → KeepsPath came ds p (path_sent p size)
unfolding path_sent
sent_path came ds p size room = record {
  same = refl;
  first = refl;
  validated = λ v. inl v;
  received = omega arith;
  ranged = λ r. r;
  limited = λ r l not_yet. let few : p.current.sent + size < 3 * p.current.received + held_size p.current.first_mtu = room l not_yet in omega (arith, few);
}

-- and the controller is told
told_path : {C : Type 0} → (ds : List Did) (p : Paths C) (control : C) (size : ℕ) → HasRoom p size → KeepsPath 0 ds p (path_sent (path_kept p (record p.current.kept { congestion = control })) size)
unfolding path_kept
told_path {C} ds p control size room =
    let q : Paths C = path_kept p (record p.current.kept { congestion = control }) in
    holds_next 0 0 [] ds p q (path_sent q size) (still_holds 0 [] p q (record { same = refl; first = refl; received = refl; sent = refl; kept = λ v. v }) (λ v. inl v)) (sent_path 0 ds q size room)

-- a datagram to an address that isn't validated has no more bytes than its path began with
most_by : (v : Bool) (first found : ℕ) → v ≡ false → held_size (if v then found else min first found) ≤ held_size first
most_by true first found e = cc
most_by false first found e = omega arith

first_most : {C : Type 0} → (p : Path C) → p.validated ≡ false → most_on p ≤ held_size p.first_mtu
unfolding most_on
first_most p not_yet = most_by p.validated p.first_mtu p.kept.mtud.current not_yet

-- ---- the datagrams of a transmit

-- to an address that isn't validated none has more bytes than its path began with; and what all have, with what is left in the open one, stays
-- within the limit
record IsWithin {C : Type 0} (p : Paths C) (b : Batch) : Type 0 where
  pub segment : p.current.validated ≡ false → b.segment ≤ held_size p.current.first_mtu
  pub capacity : p.current.validated ≡ false → b.capacity ≤ held_size p.current.first_mtu
  pub filled : b.filled ≤ b.capacity
  pub room : HasRoom p (b.total + (b.capacity - b.filled))

at_most : (a b c : ℕ) → a ≤ b → b ≤ c → a ≤ c
at_most a b c h k = omega (arith, h, k)

-- there are none yet
begun_room : {C : Type 0} → (p : Paths C) → HasRoom p 0
begun_room p = λ l not_yet. let few : p.current.sent < 3 * p.current.received + held_size p.current.first_mtu = l not_yet in omega (arith, few)

-- what the next one may have
next_small : (most : ℕ) (one : Bool) (filled segment : ℕ) → filled ≤ most → segment ≤ most → (if one then filled else segment) ≤ most
next_small most true filled segment f s = f
next_small most false filled segment f s = s

opened_segment : (b : Batch) (probes : Bool) → (batch_opened true probes b).segment ≡ next_segment b
unfolding batch_opened
opened_segment b probes = refl

-- with so many bytes more the path isn't blocked, and isn't validated: there are fewer
unblocked : (v x : Bool) (most bytes : ℕ) → v ≡ false → (not v && x) ≡ false → nat_le most bytes ≡ x → bytes < most
unblocked true x most bytes e f g = cc e
unblocked false true most bytes e f g = cc f
unblocked false false most bytes e f g = grind (arith, nat_tests)

-- a datagram is begun where the path isn't blocked with those before it
opens_room : (most sent before total capacity filled received : ℕ) → capacity ≤ most → total ≡ before → before + sent < 3 * received → sent + (total + (capacity - filled)) < 3 * received + most
opens_room most sent before total capacity filled received few same free = omega (arith, few, same, free)

opened_within : {C : Type 0} → (p : Paths C) (probes : Bool) (b : Batch) → is_blocked_behind p b.total ≡ false → IsWithin p b → IsWithin p (batch_opened true probes b)
unfolding is_blocked_behind
opened_within {C} p probes b free h =
    let opened : Batch = batch_opened true probes b in
    let most : ℕ = held_size p.current.first_mtu in
    let next : p.current.validated ≡ false → next_segment b ≤ most = λ not_yet. next_small most (b.made == 1) b.filled b.segment (at_most b.filled b.capacity most h.filled (h.capacity not_yet)) (h.segment not_yet) in
    let small : p.current.validated ≡ false → opened.capacity ≤ most = λ not_yet. at_most opened.capacity (next_segment b) most (opened_most b probes) (next not_yet) in
    record {
      segment = λ not_yet. subst (λ (n : ℕ). n ≤ most) (sym (opened_segment b probes)) (next not_yet);
      capacity = small;
      filled = subst (λ (n : ℕ). n ≤ opened.capacity) (sym (opened_filled b probes)) (omega arith);
      room = λ l not_yet. opens_room most p.current.sent b.total opened.total opened.capacity opened.filled p.current.received (small not_yet) (opened_total b true probes)
          (unblocked p.current.validated (nat_le (3 * p.current.received) (b.total + p.current.sent)) (3 * p.current.received) (b.total + p.current.sent) not_yet free refl);
    }

begun_within : {C : Type 0} → (p : Paths C) (opens probes : Bool) (b : Batch) → (opens ≡ true → is_blocked_behind p b.total ≡ false) → IsWithin p b → IsWithin p (batch_opened opens probes b)
unfolding batch_opened
begun_within p true probes b free h = opened_within p probes b (free refl) h
begun_within p false probes b free h = h

-- a packet is sealed into what was left
grows_filled : (filled size capacity : ℕ) → filled + size ≤ capacity → plus filled size ≤ capacity
grows_filled filled size capacity fits = omega (arith, fits)

grows_room : (most sent total filled size capacity received : ℕ) → capacity ≤ 65527 → filled + size ≤ capacity → sent + (total + (capacity - filled)) < 3 * received + most →
    sent + (plus total size + (capacity - plus filled size)) < 3 * received + most
grows_room most sent total filled size capacity received few fits room = omega (arith, few, fits, room)

grown_within : {C : Type 0} → (p : Paths C) (form : Form) (number size padding : ℕ) (fills nearly : Bool) (b : Batch) → b.capacity ≤ 65527 → b.filled + size ≤ b.capacity → IsWithin p b →
    IsWithin p (batch_grown form number size padding fills nearly b)
unfolding batch_grown
grown_within p form number size padding fills nearly b few fits h = record {
  segment = h.segment;
  capacity = h.capacity;
  filled = grows_filled b.filled size b.capacity fits;
  room = λ l not_yet. grows_room (held_size p.current.first_mtu) p.current.sent b.total b.filled size b.capacity p.current.received few fits (h.room l not_yet);
}

-- what all have stays within the limit
total_room : {C : Type 0} → (p : Paths C) (b : Batch) → IsWithin p b → HasRoom p b.total
total_room p b h = λ l not_yet. let few : p.current.sent + (b.total + (b.capacity - b.filled)) < 3 * p.current.received + held_size p.current.first_mtu = h.room l not_yet in omega (arith, few)

-- a probe of the path's size goes to a validated address
probed_path : {C : Type 0} → (ds : List Did) (p : Paths C) (time n bytes : ℕ) (q : Quiet) → p.current.validated ≡ true → KeepsPath 0 ds p (path_probed p time n bytes q)
unfolding path_probed
probed_path ds p time n bytes q validated =
    subst (λ (x : Path _). PathHolds 0 ds p.current x) (sym (quiet_current (record p { current = record p.current { sent = plus p.current.sent bytes; kept = record p.current.kept { mtud = probe_sent time n p.current.kept.mtud } } }) q))
    (record { same = refl; first = refl; validated = λ v. inl v; received = omega arith; ranged = λ r. r; limited = λ r l not_yet. absurd (cc (not_yet, validated)) })

module _ {t : Types} where
  -- from one moment to another, where the path stays as it was: the deeds between, by which it may have been validated
  record StillAt (a b : At t) : Type 0 where
    pub since : List Did
    pub appended : b.did ≡ a.did ++ since
    pub still : Still a.state.paths b.state.paths
    pub shown : Shown since a.state.paths b.state.paths

  at_here : (a : At t) → StillAt a a
  at_here a = record { since = []; appended = sym (append-nil a.did); still = still_here a.state.paths; shown = λ v. inl v }

  at_next : (a b c : At t) → StillAt a b → StillAt b c → StillAt a c
  at_next a b c g h = record {
    since = g.since ++ h.since;
    appended = h.appended ∙ ap (λ (ds : List Did). ds ++ h.since) g.appended ∙ append_assoc a.did g.since h.since;
    still = still_next a.state.paths b.state.paths c.state.paths g.still h.still;
    shown = shown_next g.since h.since a.state.paths b.state.paths c.state.paths g.shown h.shown;
  }

  -- a move that tells nothing, or one deed, and leaves the path
  silent_at : (x : Move t) (a : At t) → deeds_move x a.state ≡ [] → Still a.state.paths (paths_move x a.state) → Shown [] a.state.paths (paths_move x a.state) → StillAt a (move_to x a)
  unfolding move_to state_move
  silent_at x a none still shown = record { since = []; appended = ap (λ (ds : List Did). told a.did ds) none ∙ sym (append-nil a.did); still = still; shown = shown }

  deed_at : (x : Move t) (d : Did) (a : At t) → deeds_move x a.state ≡ d ∷ [] → Still a.state.paths (paths_move x a.state) → Shown (d ∷ []) a.state.paths (paths_move x a.state) → StillAt a (move_to x a)
  unfolding move_to state_move
  deed_at x d a one still shown = record { since = d ∷ []; appended = ap (λ (ds : List Did). told a.did ds) one; still = still; shown = shown }

  -- a frame that the streams are handed
  handed_at : (frame : FrameValue) (a : At t) → StillAt a (move_to (Hand frame) a)
  unfolding move_to state_move deeds_move paths_move
  handed_at frame a = record {
    since = told_to_streams frame;
    appended = told_appends a.did (told_to_streams frame);
    still = still_here a.state.paths;
    shown = λ v. inl v;
  }

  -- the moves of a packet that came
  still_move : (x : Move t) → IsOfPiece x → (a : At t) → MayMove x a.state → StillAt a (move_to x a)
  unfolding paths_move deeds_move path_kept path_capped path_named peer_fixed
  still_move (Forget id) r a h = silent_at (Forget id) a refl (kept_still a.state.paths (path_dropped id a.state.paths.current.kept)) (λ v. inl v)
  still_move (Enter id n v) r a h = deed_at (Enter id n v) _ a refl (still_here a.state.paths) (λ v. inl v)
  still_move Fail r a h = silent_at Fail a refl (still_here a.state.paths) (λ v. inl v)
  still_move (Renew time cid token keys) r a h = deed_at (Renew time cid token keys) _ a refl (record { same = refl; first = refl; received = refl; sent = refl; kept = λ v. v }) (λ v. inl v)
  still_move (Accept time id n e g v) r a h =
      let greatest : Bool = nat_le (received_number a.state.numbers id) n in
      let side : Side = a.state.setup.fixed.side in
      deed_at (Accept time id n e g v) (did.Piece (Some id) (Some n) v) a refl (accepted_spun a.state.paths id v side greatest g.spin) (spun_after a.state.paths id n v side greatest g.spin)
  still_move (Fix cid) r a h = silent_at (Fix cid) a refl (record { same = refl; first = refl; received = refl; sent = refl; kept = λ v. v }) (λ v. inl v)
  still_move (Ack id n after) r a h = silent_at (Ack id n after) a refl (kept_still a.state.paths after.path) (λ v. inl v)
  still_move (Arm at) r a h = silent_at (Arm at) a refl (still_here a.state.paths) (λ v. inl v)
  still_move (Come id offset bytes) r a h = silent_at (Come id offset bytes) a refl (still_here a.state.paths) (λ v. inl v)
  still_move (Read id count session) r a h = silent_at (Read id count session) a refl (still_here a.state.paths) (λ v. inl v)
  still_move (Write bytes keys session) r a h = silent_at (Write bytes keys session) a refl (still_here a.state.paths) (λ v. inl v)
  still_move Ready r a h = silent_at Ready a refl (still_here a.state.paths) (λ v. inl v)
  still_move (Token token) r a h = silent_at (Token token) a refl (still_here a.state.paths) (λ v. inl v)
  still_move (Want time count) r a h = silent_at (Want time count) a refl (still_here a.state.paths) (λ v. inl v)
  still_move (Learn parameters) r a h = silent_at (Learn parameters) a refl (record { same = refl; first = refl; received = refl; sent = refl; kept = λ v. v }) (λ v. inl v)
  still_move Confirm r a h = silent_at Confirm a refl (still_here a.state.paths) (λ v. inl v)
  still_move Establish r a h = deed_at Establish _ a refl (still_here a.state.paths) (λ v. inl v)
  still_move (Tell d) r a h = deed_at (Tell d) d a refl (still_here a.state.paths) (λ v. inl v)
  still_move PeerClosesToo r a h = deed_at PeerClosesToo _ a refl (still_here a.state.paths) (λ v. inl v)
  still_move (PeerCloses time) r a h = deed_at (PeerCloses time) _ a refl (still_here a.state.paths) (λ v. inl v)
  still_move Owe r a h = silent_at Owe a refl (still_here a.state.paths) (λ v. inl v)
  still_move (Shut time close) r a h = deed_at (Shut time close) _ a refl (still_here a.state.paths) (λ v. inl v)
  still_move (Raise to) r a h = deed_at (Raise to) _ a refl (still_here a.state.paths) (λ v. inl v)
  still_move (Give why) r a h = deed_at (Give why) _ a refl (still_here a.state.paths) (λ v. inl v)
  still_move (Hand frame) r a h = handed_at frame a
  still_move (Insert new) r a h = deed_at (Insert new) _ a refl (record { same = refl; first = refl; received = refl; sent = refl; kept = λ v. v }) (λ v. inl v)
  still_move Switch r a h = silent_at Switch a refl (record { same = refl; first = refl; received = refl; sent = refl; kept = λ v. v }) (λ v. inl v)
  still_move (Retire time n) r a h = deed_at (Retire time n) _ a refl (still_here a.state.paths) (λ v. inl v)
  still_move (Unseal time number which fresh session) r a h = silent_at (Unseal time number which fresh session) a refl (still_here a.state.paths) (λ v. inl v)
  still_move _ r a h = absurd r

  -- the packets of a datagram
  still_pieces : (m : Meaning t) (coming : Coming) (items : List DatagramItem) (a : At t) → StillAt a (pieces_after m coming items a)
  still_pieces m coming items a = holds_pieces StillAt at_here at_next still_move m coming items a

  -- setting the loss timer leaves the path, and tells nothing
  freed_paths : (time : ℕ) (a : At t) (b : Bool) → (if b then armed_after time a else a).state.paths ≡ a.state.paths
  unfolding armed_after armed_with move_to state_move paths_move
  freed_paths time a true = refl
  freed_paths time a false = refl

  freed_did : (time : ℕ) (a : At t) (b : Bool) → (if b then armed_after time a else a).did ≡ a.did
  unfolding armed_after armed_with move_to deeds_move
  freed_did time a true = refl
  freed_did time a false = refl

  -- so many bytes count as received
  counted_paths : (time : ℕ) (blocked : Bool) (n : ℕ) (a : At t) → (counted_after time blocked n a).state.paths ≡ path_received a.state.paths n
  unfolding counted_after move_to state_move paths_move
  counted_paths time blocked n a = let b : At t = move_to (Hear n) a in freed_paths time b (blocked && not (is_blocked b.state.paths))

  pub counted_did : (time : ℕ) (blocked : Bool) (n : ℕ) (a : At t) → (counted_after time blocked n a).did ≡ a.did
  unfolding counted_after move_to deeds_move
  counted_did time blocked n a = let b : At t = move_to (Hear n) a in freed_did time b (blocked && not (is_blocked b.state.paths))

  -- a datagram, where its bytes are those that count, or none
  heard_by : (m : Meaning t) (coming : Coming) (blocked : Bool) (came : ℕ) (bytes : List ℕ) (items : List DatagramItem) (s : View t) (b : Bool) → (b ≡ true → came ≡ length bytes) →
      let r : At t = if b then counted_after coming.time blocked (length bytes) (pieces_after m coming items (at s [])) else at s [] in KeepsPath came r.did s.paths r.state.paths
  heard_by m coming blocked came bytes items s true h =
      let q : At t = pieces_after m coming items (at s []) in
      let r : At t = counted_after coming.time blocked (length bytes) q in
      let pieces = still_pieces m coming items (at s []) in
      subst (λ (n : ℕ). KeepsPath n r.did s.paths r.state.paths) (sym (h refl))
      (subst (λ (ds : List Did). KeepsPath (length bytes) ds s.paths r.state.paths) (sym (counted_did coming.time blocked (length bytes) q ∙ pieces.appended))
      (subst (λ (p : Paths t.C). KeepsPath (length bytes) pieces.since s.paths p) (sym (counted_paths coming.time blocked (length bytes) q)) (heard_path (length bytes) pieces.since s.paths q.state.paths pieces.still pieces.shown)))
  heard_by m coming blocked came bytes items s false h = unchanged came [] s.paths

  lets_same : (s : View t) (from : SocketAddr) → lets_in s from ≡ true → same_address s.paths.current.remote from ≡ true
  unfolding lets_in
  lets_same s from h = second_holds _ _ h

  holds_heard : (m : Meaning t) (coming : Coming) (bytes : List ℕ) (s : View t) →
      let r : At t = heard_after m coming bytes (at s []) in KeepsPath (if same_address s.paths.current.remote coming.remote then length bytes else 0) r.did s.paths r.state.paths
  unfolding heard_after
  holds_heard m coming bytes s =
      heard_by m coming (is_blocked s.paths) _ bytes (cut_of s bytes) s (is_readable s bytes && lets_in s coming.remote)
      (λ h. came_length s.paths.current.remote coming.remote bytes (lets_same s coming.remote (second_holds (is_readable s bytes) (lets_in s coming.remote) h)))

  -- that a token is expected changes nothing of the path
  expected_first : (m : Meaning t) (coming : Coming) (bytes token : List ℕ) (s : View t) →
      let r : At t = heard_after m coming bytes (move_to (Expect token) (at s [])) in KeepsPath (if same_address s.paths.current.remote coming.remote then length bytes else 0) r.did s.paths r.state.paths
  unfolding move_to state_move paths_move deeds_move
  expected_first m coming bytes token s = holds_heard m coming bytes (state_move (Expect token) s)

  holds_first : (m : Meaning t) (coming : Coming) (bytes : List ℕ) (token : Option (List ℕ)) (s : View t) →
      let r : At t = first_after m coming bytes token (at s []) in KeepsPath (if same_address s.paths.current.remote coming.remote then length bytes else 0) r.did s.paths r.state.paths
  holds_first m coming bytes None s = unchanged _ [] s.paths
  holds_first m coming bytes (Some token) s = expected_first m coming bytes token s

  datagram_by : (m : Meaning t) (coming : Coming) (bytes : List ℕ) (token : Option (List ℕ)) (s : View t) (b : Bool) →
      let r : At t = if b then first_after m coming bytes token (at s []) else heard_after m coming bytes (at s []) in
      KeepsPath (if same_address s.paths.current.remote coming.remote then length bytes else 0) r.did s.paths r.state.paths
  datagram_by m coming bytes token s true = holds_first m coming bytes token s
  datagram_by m coming bytes token s false = holds_heard m coming bytes s

  pub path_datagram : (m : Meaning t) (coming : Coming) (bytes : List ℕ) (s : View t) →
      let r : At t = datagram_after m coming bytes (at s []) in PathHolds (if same_address s.paths.current.remote coming.remote then length bytes else 0) r.did s.paths.current r.state.paths.current
  unfolding datagram_after
  path_datagram m coming bytes s = datagram_by m coming bytes (first_token m s coming.remote bytes) s (is_first_awaited s.setup)

  -- the connection ends
  killed_paths : (why : ConnectionError) (a : At t) (z : Bool) → let b : At t = move_to (Raise Drained) a in (if z then move_to (Give why) b else b).state.paths ≡ a.state.paths
  unfolding move_to state_move paths_move
  killed_paths why a true = refl
  killed_paths why a false = refl

  path_killed : (why : ConnectionError) (a : At t) → (move_to (Say Killed) (killed_after why a)).state.paths ≡ path_quiet a.state.paths Killed
  unfolding killed_after given_after move_to state_move paths_move
  path_killed why a = ap (λ (p : Paths t.C). path_quiet p Killed) (killed_paths why a (is_none (move_to (Raise Drained) a).state.life.reason))

  -- nothing is sealed
  path_hushed : (m : Meaning t) (time : ℕ) (quiet : Quiet) (b : Batch) (a : At t) → (move_to (Say quiet) (held_after m time quiet b a)).state.paths ≡ path_quiet a.state.paths quiet
  unfolding move_to state_move paths_move
  path_hushed m time quiet b a = ap (λ (p : Paths t.C). path_quiet p quiet) (held_paths m time quiet b a)

  -- leaving the Initial space
  left_paths : (time : ℕ) (a : At t) (x : Bool) → (if x then armed_with false time (move_to (Forget Initial) a) else a).state.paths ≡ a.state.paths
  unfolding armed_with move_to state_move paths_move path_dropped path_kept
  left_paths time a true = refl
  left_paths time a false = refl

  path_left : (time : ℕ) (shook : Bool) (a : At t) → (handshake_left time shook a).state.paths ≡ a.state.paths
  unfolding initial_left
  path_left time true a = left_paths time a (drops_initial Client a.state Handshake)
  path_left time false a = refl

  -- this end closes behind a packet, or not
  stopped_paths : (time : ℕ) (as_told : Close) (why : ConnectionError) (a : At t) (x y : Bool) → let b : At t = move_to (Shut time as_told) a in
      (if x then (if y then move_to (Give why) b else b) else a).state.paths ≡ a.state.paths
  unfolding move_to state_move paths_move
  stopped_paths time as_told why a true true = refl
  stopped_paths time as_told why a true false = refl
  stopped_paths time as_told why a false y = refl

  path_spared : (time : ℕ) (nearly : Bool) (a : At t) → (spared_after time nearly a).state.paths ≡ a.state.paths
  unfolding spared_after stopped_after given_after
  path_spared time true a =
      let why : Close = close.Connection (record { error_code = key_limit_error.code; frame_type = key_limit_error.frame; reason = [] }) in
      stopped_paths time why (lost.TransportError key_limit_error) a (is_open a.state.life.state) (is_none (move_to (Shut time why) a).state.life.reason)
  path_spared time false a = refl

  -- the address and the counts of the path stand still, and whether it is validated
  abbrev Rests : At t → At t → Type 0
  Rests a b = Still a.state.paths b.state.paths × (b.state.paths.current.validated ≡ a.state.paths.current.validated)

  rests_here : (a : At t) → Rests a a
  rests_here a = (still_here a.state.paths, refl)

  rests_next : (a b c : At t) → Rests a b → Rests b c → Rests a c
  rests_next a b c g h = (still_next a.state.paths b.state.paths c.state.paths g.0 h.0, h.1 ∙ g.1)

  rests_hold : (ds : List Did) (a b : At t) → Rests a b → KeepsPath 0 ds a.state.paths b.state.paths
  rests_hold ds a b rests = still_holds 0 ds a.state.paths b.state.paths rests.0 (λ v. inl (sym rests.1 ∙ v))

  -- then as many bytes more stay within the limit
  rests_room : (a b : At t) (bytes : ℕ) → Rests a b → HasRoom a.state.paths bytes → HasRoom b.state.paths bytes
  rests_room a b bytes rests room = λ l not_yet.
      let before : a.state.paths.current.validated ≡ false = sym rests.1 ∙ not_yet in
      let low : b.state.paths.current.sent < 3 * b.state.paths.current.received + held_size b.state.paths.current.first_mtu = l not_yet in
      let same : b.state.paths.current.sent ≡ a.state.paths.current.sent = rests.0.sent in
      let heard : b.state.paths.current.received ≡ a.state.paths.current.received = rests.0.received in
      let first : b.state.paths.current.first_mtu ≡ a.state.paths.current.first_mtu = rests.0.first in
      let few : a.state.paths.current.sent + bytes < 3 * a.state.paths.current.received + held_size a.state.paths.current.first_mtu = room (λ v. omega (arith, low, same, heard, first)) before in
      omega (arith, few, same, heard, first)

  rests_within : (a b : At t) (c : Batch) → Rests a b → IsWithin a.state.paths c → IsWithin b.state.paths c
  rests_within a b c rests h = record { segment = λ not_yet. omega (arith, h.segment (sym rests.1 ∙ not_yet), rests.0.first); capacity = λ not_yet. omega (arith, h.capacity (sym rests.1 ∙ not_yet), rests.0.first); filled = h.filled; room = rests_room a b (c.total + (c.capacity - c.filled)) rests h.room }

  -- so it is with packets: their bytes count as the transmit ends
  packet_move : (x : Move t) → IsPacketMove x → (a : At t) → MayMove x a.state → Rests a (move_to x a)
  unfolding move_to state_move paths_move path_kept
  packet_move (Begin id opens) r a h = rests_here a
  packet_move Skip r a h = rests_here a
  packet_move (Update fresh session) r a h = rests_here a
  packet_move (Spend tokens) r a h = (kept_still a.state.paths _, refl)
  packet_move (Arm due) r a h = rests_here a
  packet_move _ r a h = absurd r

  packet_sealed : (time : ℕ) (form : Form) (fs : List FrameValue) (a : At t) → IsSealable time a.state form fs →
      Rests a (move_to (Seal time form (next_number a.state.numbers (number_space form)) (packet_size a.state form fs) fs) (move_to (Take (number_space form) fs) a))
  unfolding move_to state_move paths_move
  packet_sealed time form fs a may = rests_here a

  path_packets : (m : Meaning t) (time : ℕ) (ps : List Sent) (g : Going t) → MayAll m time g ps → Rests g.now (packets_after m time ps g).now
  path_packets m time ps g may = holds_packets Rests rests_here rests_next packet_move packet_sealed m time ps g may

  path_packet : (m : Meaning t) (time : ℕ) (p : Sent) (g : Going t) → MayFollow m time g.now.state g.batch p → Rests g.now (packet_after m time p g).now
  path_packet m time p g may = holds_packet Rests rests_here rests_next (λ x r a h. packet_move x (beginning_packet x r) a h) packet_sealed m time p g may

  -- and with an update that is tried for one
  path_tried : (m : Meaning t) (f : Form) (a : At t) → Rests a (tried_after m f a)
  path_tried m f a = holds_tried m Rests rests_here (λ b may. packet_move (Update _ _) tt b may) f a

  -- a packet that is taken, sealed and counted leaves the address and the counts
  flown_still : (m : Meaning t) (time size : ℕ) (b : Bool) (a : At t) → Still a.state.paths (flown_after m time size b a).state.paths
  unfolding armed_with spent_after move_to state_move paths_move
  flown_still m time size true a = kept_still a.state.paths _
  flown_still m time size false a = still_here a.state.paths

  sealed_still : (m : Meaning t) (time : ℕ) (form : Form) (fs : List FrameValue) (a : At t) → Still a.state.paths (sealed_in m time form fs a).state.paths
  unfolding sealed_in move_to state_move paths_move
  sealed_still m time form fs a = flown_still m time _ (is_flown a.state fs) _

  -- a packet that begins a datagram does so where the path isn't blocked
  place_free : (m : Meaning t) (time : ℕ) (s : View t) (b : Batch) (id : SpaceId) (opens : Bool) → MayStand m time s b id opens → opens ≡ true → is_blocked_behind s.paths b.total ≡ false
  place_free m time s b id true may e = free_behind m time s b id may.free
  place_free m time s b id false may e = cc

  packet_within : (m : Meaning t) (time : ℕ) (p : Sent) (g : Going t) → MayFollow m time g.now.state g.batch p → IsWithin g.now.state.paths g.batch → IsWithin g.now.state.paths (packet_after m time p g).batch
  unfolding packet_after begun_batch
  packet_within m time p g may h =
      let id : SpaceId = number_space p.form in
      let begun : At t = begun_after id p.opens g.now in
      let probes : Bool = not ((space_of g.now.state.waiting.spaces id).probes == 0) in
      let opened : Batch = batch_opened p.opens probes g.batch in
      let fits : opened.filled + packet_size begun.state p.form p.frames ≤ opened.capacity = subst (λ (s : View t). opened.filled + packet_size s p.form p.frames ≤ opened.capacity) (sym (begun_same id p.opens g.now)) may.fits in
      grown_within g.now.state.paths p.form _ (packet_size begun.state p.form p.frames) _ _ _ opened may.sized fits
      (begun_within g.now.state.paths p.opens probes g.batch (place_free m time g.now.state g.batch id p.opens may.begins.place) h)

  -- so it is behind all of them
  within : (m : Meaning t) (time : ℕ) (ps : List Sent) (g : Going t) → IsWithin g.now.state.paths g.batch → MayAll m time g ps → IsWithin (packets_after m time ps g).now.state.paths (packets_after m time ps g).batch
  within m time [] g h may = h
  within m time (p ∷ ps) g h may =
      let f : Going t = going_tried m p.form g in
      let k : Going t = packet_after m time p f in
      let tried : IsWithin f.now.state.paths f.batch = rests_within g.now f.now g.batch (path_tried m p.form g.now) h in
      within m time ps k (rests_within f.now k.now k.batch (path_packet m time p f may.0) (packet_within m time p f may.0 tried)) may.1

  begun_all_within : (asked : ℕ) (a : At t) → IsWithin a.state.paths (going_from asked a).batch
  begun_all_within asked a = record { segment = λ not_yet. first_most a.state.paths.current not_yet; capacity = λ not_yet. omega arith; filled = omega arith; room = begun_room a.state.paths }

  -- what a transmit does once
  path_finished : (m : Meaning t) (time : ℕ) (b : Batch) (ds : List Did) (a : At t) → HasRoom a.state.paths b.total → KeepsPath 0 ds a.state.paths (finished_after m time b a).state.paths
  unfolding finished_after told_sent move_to state_move paths_move
  path_finished m time b ds a room =
      let c : At t = handshake_left time b.shook a in
      let d : At t = spared_after time b.worn c in
      let same : d.state.paths ≡ a.state.paths = path_spared time b.worn c ∙ path_left time b.shook a in
      subst (λ (p : Paths t.C). KeepsPath 0 ds p (finished_after m time b a).state.paths) same
      (told_path ds d.state.paths (m.control.after_sent d.state.paths.current.kept.congestion time b.total b.last) b.total (subst (λ (p : Paths t.C). HasRoom p b.total) (sym same) room))

  path_probe : (m : Meaning t) (time size : ℕ) (quiet : Quiet) (b : Batch) (ds : List Did) (a : At t) → MayProbe m time a.state b quiet size → KeepsPath 0 ds a.state.paths (probed_after m time size quiet b a).state.paths
  unfolding probed_after probe_sealed move_to state_move paths_move
  path_probe m time size quiet b ds a may =
      let c : At t = probe_begun_after m time quiet b a in
      let fs : List FrameValue = probe_frames c.state size in
      let d : At t = sealed_in m time form.OneRtt fs c in
      let e : At t = move_to (Probe time (next_number c.state.numbers «Data») size quiet) d in
      let begun : c.state.paths ≡ a.state.paths = probe_paths m time quiet b a in
      let validated : d.state.paths.current.validated ≡ true =
      sealed_validated m time form.OneRtt fs c ∙ ap (λ (p : Paths t.C). p.current.validated) begun ∙ due_validated time size a.state may.due in
      let rests : Still c.state.paths d.state.paths = sealed_still m time form.OneRtt fs c in
      let first : KeepsPath 0 [] a.state.paths d.state.paths =
      subst (λ (p : Paths t.C). KeepsPath 0 [] p d.state.paths) begun (still_holds 0 [] c.state.paths d.state.paths rests (λ v. inl (sym (sealed_validated m time form.OneRtt fs c) ∙ v))) in
      subst (λ (p : Paths t.C). KeepsPath 0 ds a.state.paths p) (sym (path_spared time (is_key_nearly_used_up c.state form.OneRtt) e))
      (holds_next 0 0 [] ds a.state.paths d.state.paths (path_probed d.state.paths time (next_number c.state.numbers «Data») size quiet) first (probed_path ds d.state.paths time (next_number c.state.numbers «Data») size quiet validated))

  path_ending : (m : Meaning t) (time : ℕ) (e : Ending) (b : Batch) (ds : List Did) (a : At t) → IsWithin a.state.paths b → MayEnd m time e a.state b → KeepsPath 0 ds a.state.paths (ending_after m time e b a).state.paths
  unfolding ending_after
  path_ending m time Went b ds a h may = path_finished m time b ds a (total_room a.state.paths b h)
  path_ending m time Held b ds a h may =
      let c : At t = held_after m time Pacing b a in
      let same : c.state.paths ≡ a.state.paths = held_paths m time Pacing b a in
      subst (λ (p : Paths t.C). KeepsPath 0 ds p (finished_after m time b c).state.paths) same
      (path_finished m time b ds c (subst (λ (p : Paths t.C). HasRoom p b.total) (sym same) (total_room a.state.paths b h)))
  path_ending m time (Hushed quiet) b ds a h may = subst (λ (p : Paths t.C). KeepsPath 0 ds a.state.paths p) (sym (path_hushed m time quiet b a)) (quiet_path 0 ds a.state.paths quiet)
  path_ending m time (Probed quiet size) b ds a h may =
      let c : At t = tried_after m form.OneRtt a in
      subst (λ (p : Paths t.C). KeepsPath 0 ds p (probed_after m time size quiet b c).state.paths) (tried_keeps m form.OneRtt a).paths
      (path_probe m time size quiet b ds c (subst (λ (s : View t). MayProbe m time s b quiet size) (sym (tried_same m form.OneRtt a)) may.0))
  path_ending m time (Died f why) b ds a h may =
      subst (λ (p : Paths t.C). KeepsPath 0 ds a.state.paths p) (sym (path_killed why (tried_after m f a) ∙ ap (λ (p : Paths t.C). path_quiet p Killed) (tried_keeps m f a).paths)) (quiet_path 0 ds a.state.paths Killed)

  path_transmit : (m : Meaning t) (time asked : ℕ) (choice : Choice) (ds : List Did) (a : At t) → MayTransmit m time asked choice a → KeepsPath 0 ds a.state.paths (transmit_after m time asked choice a).state.paths
  unfolding MayTransmit transmit_after gone_after
  path_transmit m time asked choice ds a may =
      let g : Going t = packets_after m time choice.packets (going_from asked a) in
      let rests : Rests a g.now = path_packets m time choice.packets (going_from asked a) may.0 in
      let behind : IsWithin g.now.state.paths g.batch = within m time choice.packets (going_from asked a) (begun_all_within asked a) may.0 in
      holds_next 0 0 [] ds a.state.paths g.now.state.paths (transmit_after m time asked choice a).state.paths (rests_hold [] a g.now rests) (path_ending m time choice.ending g.batch ds g.now behind may.1)

  -- the application closes, or has closed before
  path_close : (time : ℕ) (close : Close) (ds : List Did) (a : At t) (b : Bool) → KeepsPath 0 ds a.state.paths (if b then move_to (Shut time close) a else a).state.paths
  unfolding move_to state_move paths_move
  path_close time close ds a true = unchanged 0 ds a.state.paths
  path_close time close ds a false = unchanged 0 ds a.state.paths

  -- nothing of that is changed by a timer
  timed_paths : (x : Move t) → IsTimed x → (a : At t) → MayMove x a.state → Rests a (move_to x a)
  unfolding move_to state_move paths_move path_kept
  timed_paths (Fire after) r a h = (kept_still a.state.paths after.path, refl)
  timed_paths (Arm at) r a h = (still_here a.state.paths, refl)
  timed_paths Pace r a h = (still_here a.state.paths, refl)
  timed_paths Discard r a h = (still_here a.state.paths, refl)
  timed_paths Release r a h = (still_here a.state.paths, refl)
  timed_paths Outlive r a h = (still_here a.state.paths, refl)
  timed_paths (Want time count) r a h = (still_here a.state.paths, refl)
  timed_paths (Raise to) r a h = (still_here a.state.paths, refl)
  timed_paths (Give why) r a h = (still_here a.state.paths, refl)
  timed_paths _ r a h = absurd r

  -- and so they do over a timeout
  path_timeout : (m : Meaning t) (time : ℕ) (ds : List Did) (a : At t) → KeepsPath 0 ds a.state.paths (timeout_after m time a).state.paths
  path_timeout m time ds a = rests_hold ds a (timeout_after m time a) (holds_timeout Rests rests_here rests_next timed_paths m time a)

  -- the application makes calls of the streams
  path_called : (i : Input) (choice : Choice) (s : View t) → MayRead i choice.read s.lower.streams → let r : At t = called_all (calls_of i choice.read s.lower.streams) (at s []) in KeepsPath 0 r.did s.paths r.state.paths
  unfolding move_to state_move paths_move
  path_called i choice s may =
      let r : At t = called_all (calls_of i choice.read s.lower.streams) (at s []) in
      let same : r.state.paths ≡ s.paths = called_input (λ (a b : At t). b.state.paths ≡ a.state.paths) (λ a. refl) (λ a b c g h. h ∙ g) (λ x a h. refl) i choice.read (at s []) may in
      subst (λ (p : Paths t.C). KeepsPath 0 r.did s.paths p) (sym same) (unchanged 0 r.did s.paths)

  -- each input
  path_input : (m : Meaning t) (i : Input) (choice : Choice) (s : View t) → IsAllowed m i choice (at s []) → let r : At t = input_after m i choice (at s []) in KeepsPath (bytes_from s.paths.current.remote i) r.did s.paths r.state.paths
  unfolding IsAllowed input_after close_after move_to state_move paths_move
  path_input m (input.Datagram time from ecn bytes) choice s may = path_datagram m (record { time = time; remote = from; mark = ecn }) bytes s
  path_input m (input.Timeout time) choice s may = path_timeout m time _ (at s [])
  path_input m (input.Transmit time max) choice s may = path_transmit m time max choice _ (at s []) may
  path_input m (input.Close time code reason) choice s may = path_close time _ _ (at s []) (is_open s.life.state)
  path_input m (input.Ping time) choice s may = unchanged 0 _ s.paths
  path_input m (input.Update time) choice s may =
      let r : At t = updated_after m (at s []) in
      let same : r.state.paths ≡ s.paths = holds_updated m (λ (a b : At t). b.state.paths ≡ a.state.paths) (λ a. refl) (λ b may_be. refl) (at s []) in
      subst (λ (p : Paths t.C). KeepsPath 0 r.did s.paths p) (sym same) (unchanged 0 r.did s.paths)
  path_input m (input.SendDatagram time body) choice s may = unchanged 0 _ s.paths
  path_input m (input.RecvDatagram time) choice s may = unchanged 0 _ s.paths
  path_input m (input.Identifiers time given) choice s may = unchanged 0 _ s.paths
  path_input m i choice s may = path_called i choice s may

  -- a step
  path_step : (m : Meaning t) (k : ℕ) (s : View t) (i : Input) (x : Step) (s' : View t) → IsStep m k s i x s' → KeepsPath (bytes_from s.paths.current.remote i) x.did s.paths s'.paths
  unfolding called began step_after reported state_move paths_move
  path_step m k s i x s' h =
      let r : At t = input_after m i h.choice (began s (time_of i)) in
      subst (λ (ds : List Did). KeepsPath (bytes_from s.paths.current.remote i) ds s.paths s'.paths) (sym h.deeds)
      (subst (λ (p : Paths t.C). KeepsPath (bytes_from s.paths.current.remote i) r.did s.paths p) (sym h.paths) (path_input m i h.choice (began s (time_of i)).state h.allowed))

  -- a run
  pub path_run : (m : Meaning t) (k : ℕ) (s : View t) (is : List Input) (xs : List Step) (s' : View t) → Run m k s is xs s' → PathHolds (all_from s.paths.current.remote is) (deeds_of xs) s.paths.current s'.paths.current
  unfolding Run
  path_run m k s [] [] s' r = subst (λ (v : View t). KeepsPath 0 [] s.paths v.paths) (sym r) (unchanged 0 [] s.paths)
  path_run m k s (i ∷ is) (x ∷ xs) s' r =
      let first = path_step m k s i x r.0 r.1 in
      holds_next (bytes_from s.paths.current.remote i) (all_from s.paths.current.remote is) x.did (deeds_of xs) s.paths r.0.paths s'.paths first
      (subst (λ (remote : SocketAddr). KeepsPath (all_from remote is) (deeds_of xs) r.0.paths s'.paths) first.same (path_run m (k + 1) r.0 is xs s' r.2))
  path_run m k s [] (x ∷ xs) s' r = absurd r
  path_run m k s (i ∷ is) [] s' r = absurd r
