-- The limits of keys end a connection in time: a transmit whose last packet leaves its key at most one more closes behind it.
use Rattle.std.proofs.Common.{◌≡◌, ◌⊎◌, inl, inr, ℕ, ◌+◌, ◌≤◌, ◌<◌, List, [], ◌∷◌, ◌++◌, refl, ap, sym, ◌∙◌, subst, Bool, true, false, Option, Some, None, if◌then◌else◌, append_assoc, arith}
use Rattle.std.specs.Prelude.{IfSome, is_none, ◌||◌}
use Rattle.qc_base.specs.declared.side.Side.TheVariants.{Client}
use Rattle.qc_base.specs.declared.side.SpaceId.TheVariants.{Initial, Handshake, «Data»}
use Rattle.qc_frame.specs.Frame.{FrameValue}
use Rattle.qc_state.specs.declared.deeds.Did.{Did}
use Rattle.qc_state.specs.declared.deeds.Did.TheVariants as did
use Rattle.qc_state.specs.declared.deeds.Quiet.{Quiet}
use Rattle.qc_state.specs.declared.deeds.Quiet.TheVariants.{NothingOwed, Silent, Amplification, Congestion, Pacing, Killed}
use Rattle.qc_state.specs.declared.form.Form.{Form}
use Rattle.qc_state.specs.declared.form.Form.TheVariants as form
use Rattle.qc_state.specs.declared.input.Input.{Input}
use Rattle.qc_state.specs.declared.input.Input.TheVariants as input
use Rattle.qc_state.specs.declared.keys.KeyGroup.{KeyGroup}
use Rattle.qc_state.specs.declared.keys.KeyUse.{KeyUse}
use Rattle.qc_state.specs.declared.life.Close.{Close}
use Rattle.qc_state.specs.declared.life.Close.TheVariants as close
use Rattle.qc_state.specs.declared.life.ConnectionError.{ConnectionError}
use Rattle.qc_state.specs.declared.life.ConnectionError.TheVariants as lost
use Rattle.qc_state.specs.declared.life.Life.{Life}
use Rattle.qc_state.specs.declared.life.State.{State}
use Rattle.qc_state.specs.declared.life.State.TheVariants as state
use Rattle.qc_state.specs.declared.trace.Step.{Step}
use Rattle.qc_state.specs.declared.transmit.Batch.{Batch}
use Rattle.qc_state.specs.declared.transmit.Transmit.{Transmit}
use Rattle.qc_state.specs.Batches.{batch_grown, is_in_order}
use Rattle.qc_state.specs.Forms.{is_early, number_space}
use Rattle.qc_state.specs.Keys.{epoch_in, has_keys, has_keys_for, key_used, reaches_limit, usage_of}
use Rattle.qc_state.specs.Life.{all_heard_reported, connected_reported, drained_reported, is_drained, is_open, life_closed, life_raised, lost_reported, notices_reported, rank_of, ready_reported, reason_given}
use Rattle.qc_state.specs.Moves.{Ask, Forget, Give, MayMove, Raise, Say, Shut, Update, armed_with, deeds_move, keys_move, life_move, move_to, state_move}
use Rattle.qc_state.specs.Numbers.{next_number}
use Rattle.qc_state.specs.Run.{IsAllowed, IsStep, Run, began, called, input_after, reported, step_after, time_of}
use Rattle.qc_state.specs.Sending.{Choice, Died, Dies, DiesProbing, Ending, Going, Held, Hushed, MayAll, MayEnd, MayFollow, MayTransmit, Probed, Sent, Went, begun_after, drops_initial, ending_after, finished_after, flown_after, going_from, going_tried, gone_after, handshake_left, held_after, initial_left, is_flown, is_key_nearly_used_up, is_key_used_up, is_token_too_long, is_used_up, kill_in, packet_after, packets_after, probe_begun_after, probe_frames, probe_sealed, probed_after, sealed_in, spared_after, spent_after, told_sent, transmit_after, Transmits}
use Rattle.qc_state.specs.Spaces.{is_space}
use Rattle.qc_state.specs.Stopping.{given_after, key_limit_error, killed_after, stopped_after}
use Rattle.qc_state.specs.Types.{Types, Meaning}
use Rattle.qc_state.specs.Updating.{tried_after, tried_view}
use Rattle.qc_state.specs.View.{View, At, at}
use Rattle.qc_state.proofs.Batches.{packet_made}
use Rattle.qc_state.proofs.Begun.{begun_keys, begun_life}
use Rattle.qc_state.proofs.Probing.{due_keyed, probe_keys, probe_life}
use Rattle.qc_state.proofs.Telling.{Told, kernel, open_rank}
use Rattle.qc_state.proofs.Transmitted.{owing_keyed, unlimited}
use Rattle.qc_state.proofs.Tried.{holds_tried, tried_did, tried_keeps, tried_same}
use Rattle.qc_laws.specs.KeyLaws.{ClosesBehind, EachLimitEnds, EndsBefore, IsLimitReason, IsNearLimit, IsSpared, LimitsEnd, LimitsEndIn, SparesKeys, limit_reached}
use Rattle.qc_laws.specs.ReasonLaws.{reason_deeds}
use Rattle.qc_laws.proofs.InitialDeeds.{tells_rank}
use Rattle.qc_laws.proofs.InitialLeft.{begun_deeds, flown_deeds, killed_ended, packet_shakes, shook_behind}
use Rattle.qc_laws.proofs.KeyLimits.{Left, Spared, all_left, dropped_epoch, dropped_others, dropped_so, dropped_usage, is_near, keyed_usage, left_behind, limit_reason, near_behind, near_reached, none_spared, others_behind, spared_behind}
use Rattle.qc_laws.proofs.LimitReasons.{GivenSo, LostSo, kill_given, kill_limit, lost_any, lost_append, lost_one}
use Rattle.qc_laws.proofs.KeyUses.{AreUsedSo, KeepsUses, input_uses, move_uses, uses_here}
use Rattle.qc_laws.proofs.SealingKept.{used_epoch}
use Rattle.qc_laws.proofs.Told.{told_input}

-- ---- keys and lives

-- a key that is spared isn't one that may seal at most one more
spared_unworn : (o : Option KeyUse) (P : Type 0) → IsSpared o → IfSome o (λ (u : KeyUse). 1 ≤ u.sealed → u.limit ≤ u.sealed + 1 → P)
spared_unworn None P h = tt
spared_unworn (Some u) P h = λ some near. let far : u.sealed + 2 ≤ u.limit = h some in absurd (omega (arith, far, near))

any_closes : (o : Option KeyUse) (P : Type 0) → P → IfSome o (λ (u : KeyUse). 1 ≤ u.sealed → u.limit ≤ u.sealed + 1 → P)
any_closes None P h = tt
any_closes (Some u) P h = λ some near. h

-- a closed connection isn't open, and one of a low rank is
closed_shut : (s : State) → s ≡ state.Closed → is_open s ≡ true → ⊥
closed_shut s is opened = let shut : is_open s ≡ false = ap is_open is in cc

low_open : (s : State) → rank_of s < 2 → is_open s ≡ true
low_open state.Handshake h = refl
low_open state.Established h = refl
low_open state.Closed h = absurd (omega (arith, h))
low_open state.Draining h = absurd (omega (arith, h))
low_open state.Drained h = absurd (omega (arith, h))

-- ---- a packet

module _ {t : Types} where
  abbrev Spares : At t → Type 0
  Spares a = AreUsedSo Spared a.state.keys

  -- a packet of this form was sealed, from one moment to another
  record Seals (f : Form) (a b : At t) : Type 0 where
    pub number : ℕ
    pub frames : List FrameValue
    pub keys : b.state.keys ≡ key_used a.state.keys f number
    pub state : b.state.life.state ≡ a.state.life.state
    pub reason : b.state.life.reason ≡ a.state.life.reason
    pub did : b.did ≡ a.did ++ did.Sealed (number_space f) number (epoch_in a.state.keys f) (is_early f) frames ∷ []

  flown_keys : (m : Meaning t) (time size : ℕ) (a : At t) (b : Bool) → (flown_after m time size b a).state.keys ≡ a.state.keys
  unfolding armed_with spent_after move_to state_move keys_move
  flown_keys m time size a true = refl
  flown_keys m time size a false = refl

  flown_life : (m : Meaning t) (time size : ℕ) (a : At t) (b : Bool) → (flown_after m time size b a).state.life ≡ a.state.life
  unfolding armed_with spent_after move_to state_move life_move
  flown_life m time size a true = refl
  flown_life m time size a false = refl

  seals_here : (m : Meaning t) (time : ℕ) (f : Form) (fs : List FrameValue) (a : At t) → Seals f a (sealed_in m time f fs a)
  unfolding sealed_in move_to state_move keys_move life_move deeds_move
  seals_here m time f fs a = record {
    number = next_number a.state.numbers (number_space f);
    frames = fs;
    keys = flown_keys m time _ _ (is_flown a.state fs);
    state = ap (λ (l : Life). l.state) (flown_life m time _ _ (is_flown a.state fs));
    reason = ap (λ (l : Life). l.reason) (flown_life m time _ _ (is_flown a.state fs));
    did = flown_deeds m time _ _ (is_flown a.state fs);
  }

  -- the same, where what was done before leaves keys and life, and tells nothing
  seals_behind : (f : Form) (a b c : At t) → b.state.keys ≡ a.state.keys → b.state.life ≡ a.state.life → b.did ≡ a.did → Seals f b c → Seals f a c
  seals_behind f a b c keys life untold h = record {
    number = h.number;
    frames = h.frames;
    keys = h.keys ∙ ap (λ (v : KeyGroup t.H t.P). key_used v f h.number) keys;
    state = h.state ∙ ap (λ (l : Life). l.state) life;
    reason = h.reason ∙ ap (λ (l : Life). l.reason) life;
    did = h.did ∙ ap (λ (ds : List Did). ds ++ did.Sealed (number_space f) h.number (epoch_in b.state.keys f) (is_early f) h.frames ∷ []) untold
        ∙ ap (λ (v : KeyGroup t.H t.P). a.did ++ did.Sealed (number_space f) h.number (epoch_in v f) (is_early f) h.frames ∷ []) keys;
  }

  packet_seals : (m : Meaning t) (time : ℕ) (p : Sent) (g : Going t) → Seals p.form g.now (packet_after m time p g).now
  unfolding packet_after
  packet_seals m time p g =
      let a : At t = begun_after (number_space p.form) p.opens g.now in
      seals_behind p.form g.now a _ (begun_keys (number_space p.form) p.opens g.now) (begun_life (number_space p.form) p.opens g.now) (begun_deeds (number_space p.form) p.opens g.now) (seals_here m time p.form p.frames a)

  -- A packet of this form was the last thing done, and its key may seal at most one more. Where keys were spared before, the others are, and each that
  -- may seal two packets at all may seal one more.
  record Wears (S : Type 0) (f : Form) (a : At t) : Type 0 where
    pub near : IsNearLimit (usage_of a.state.keys f)
    pub before : List Did
    pub number : ℕ
    pub frames : List FrameValue
    pub did : a.did ≡ before ++ did.Sealed (number_space f) number (epoch_in a.state.keys f) (is_early f) frames ∷ []
    pub others : S → (other : Form) → (other ≡ f) ⊎ IsSpared (usage_of a.state.keys other)
    pub left : S → AreUsedSo Left a.state.keys

  seals_wears : (S : Type 0) (f : Form) (a b : At t) → Seals f a b → reaches_limit 0 (usage_of a.state.keys f) ≡ false → is_near (usage_of a.state.keys f) ≡ true → (S → Spares a) → Wears S f b
  seals_wears S f a b h more near spares = record {
    near = subst (λ (v : KeyGroup t.H t.P). IsNearLimit (usage_of v f)) (sym h.keys) (near_behind a.state.keys f h.number more near);
    before = a.did;
    number = h.number;
    frames = h.frames;
    did = h.did ∙ ap (λ (e : ℕ). a.did ++ did.Sealed (number_space f) h.number e (is_early f) h.frames ∷ []) (sym (ap (λ (v : KeyGroup t.H t.P). epoch_in v f) h.keys ∙ used_epoch a.state.keys f h.number f));
    others = λ s other. subst (λ (v : KeyGroup t.H t.P). (other ≡ f) ⊎ IsSpared (usage_of v other)) (sym h.keys) (others_behind a.state.keys f h.number (spares s) other);
    left = λ s. subst (λ (v : KeyGroup t.H t.P). AreUsedSo Left v) (sym h.keys) (left_behind a.state.keys f h.number (spares s));
  }

  seals_spares : (f : Form) (a b : At t) → Seals f a b → is_near (usage_of a.state.keys f) ≡ false → Spares a → Spares b
  seals_spares f a b h far spares = subst (λ (v : KeyGroup t.H t.P). AreUsedSo Spared v) (sym h.keys) (spared_behind a.state.keys f h.number far spares)

  seals_lost : (f : Form) (a b : At t) → Seals f a b → LostSo ⊥ a.did → LostSo ⊥ b.did
  seals_lost f a b h none = subst (LostSo ⊥) (sym h.did) (lost_append ⊥ a.did _ none tt)

  -- an update that is tried for a packet
  tried_spares : (m : Meaning t) (f : Form) (a : At t) → Spares a → Spares (tried_after m f a)
  unfolding MayMove
  tried_spares m f a = holds_tried m (KeepsUses Spared) (uses_here Spared none_spared) (λ b may. move_uses Spared none_spared (Update _ _) b may.1) f a

  -- ---- the packets of a transmit

  abbrev IsFresh : (S : Type 0) → Going t → Type 0
  IsFresh S g = (g.batch.worn ≡ false) × (S → Spares g.now)

  record IsWorn (S : Type 0) (g : Going t) : Type 0 where
    pub worn : g.batch.worn ≡ true
    pub made : 0 < g.batch.made
    pub of : Form
    pub wears : Wears S of g.now
    pub kept : of ≡ form.Initial → g.batch.shook ≡ false

  record Goes (S : Type 0) (a : At t) (g : Going t) : Type 0 where
    pub state : g.now.state.life.state ≡ a.state.life.state
    pub reason : g.now.state.life.reason ≡ a.state.life.reason
    pub none : LostSo ⊥ g.now.did
    pub behind : g.batch.shook ≡ true → is_in_order g.batch.space Initial ≡ false
    pub how : IsFresh S g ⊎ IsWorn S g

  fresh_of : (S : Type 0) (g : Going t) → g.batch.worn ≡ false → IsFresh S g ⊎ IsWorn S g → S → Spares g.now
  fresh_of S g fresh (inl h) = h.1
  fresh_of S g fresh (inr h) = let worn : g.batch.worn ≡ true = h.worn in absurd cc

  -- behind an Initial packet none was of the Handshake space
  initial_unshaken : (m : Meaning t) (time : ℕ) (p : Sent) (g : Going t) → MayFollow m time g.now.state g.batch p → (g.batch.shook ≡ true → is_in_order g.batch.space Initial ≡ false) →
      p.form ≡ form.Initial → (packet_after m time p g).batch.shook ≡ false
  initial_unshaken m time p g may behind is =
      packet_shakes m time p g ∙ by_both g.batch.shook (ap (λ (f : Form). is_space (number_space f) Handshake) is) refl
    where
      by_both : (b : Bool) → is_space (number_space p.form) Handshake ≡ false → g.batch.shook ≡ b → (b || is_space (number_space p.form) Handshake) ≡ false
      by_both true other shook =
          let late : is_in_order g.batch.space Initial ≡ false = behind shook in
          let order : is_in_order g.batch.space Initial ≡ true = subst (λ (f : Form). is_in_order g.batch.space (number_space f) ≡ true) is may.begins.turn.order in
          absurd cc
      by_both false other shook = other

  worn_is : (m : Meaning t) (time : ℕ) (p : Sent) (g : Going t) → (packet_after m time p g).batch.worn ≡ is_near (usage_of g.now.state.keys p.form)
  unfolding packet_after batch_grown is_key_nearly_used_up
  worn_is m time p g = refl

  more_than : (m : Meaning t) (time : ℕ) (p : Sent) (g : Going t) → MayFollow m time g.now.state g.batch p → reaches_limit 0 (usage_of g.now.state.keys p.form) ≡ false
  unfolding is_key_used_up
  more_than m time p g may = (unlimited g.batch g.now.state p.form may.begins.fresh).0

  how_behind : (S : Type 0) (m : Meaning t) (time : ℕ) (p : Sent) (g : Going t) → MayFollow m time g.now.state g.batch p → (g.batch.shook ≡ true → is_in_order g.batch.space Initial ≡ false) → (S → Spares g.now) → (b : Bool) →
      is_near (usage_of g.now.state.keys p.form) ≡ b → IsFresh S (packet_after m time p g) ⊎ IsWorn S (packet_after m time p g)
  how_behind S m time p g may behind spares true near =
      inr (record {
        worn = worn_is m time p g ∙ near;
        made = packet_made m time p g may;
        of = p.form;
        wears = seals_wears S p.form g.now (packet_after m time p g).now (packet_seals m time p g) (more_than m time p g may) near spares;
        kept = initial_unshaken m time p g may behind;
      })
  how_behind S m time p g may behind spares false far =
      inl (worn_is m time p g ∙ far, λ s. seals_spares p.form g.now (packet_after m time p g).now (packet_seals m time p g) far (spares s))

  goes_packet : (S : Type 0) (m : Meaning t) (time : ℕ) (a : At t) (p : Sent) (g : Going t) → MayFollow m time (going_tried m p.form g).now.state g.batch p → Goes S a g → Goes S a (packet_after m time p (going_tried m p.form g))
  goes_packet S m time a p g may h =
      let f : Going t = going_tried m p.form g in
      let seals : Seals p.form f.now (packet_after m time p f).now = packet_seals m time p f in
      let life : f.now.state.life ≡ g.now.state.life = (tried_keeps m p.form g.now).life in
      record {
        state = seals.state ∙ ap (λ (l : Life). l.state) life ∙ h.state;
        reason = seals.reason ∙ ap (λ (l : Life). l.reason) life ∙ h.reason;
        none = seals_lost p.form f.now (packet_after m time p f).now seals (subst (LostSo ⊥) (sym (tried_did m p.form g.now)) h.none);
        behind = shook_behind m time p f may.begins.turn.order h.behind;
        how = how_behind S m time p f may h.behind (λ s. tried_spares m p.form g.now (fresh_of S g may.begins.turn.spare h.how s)) (is_near (usage_of f.now.state.keys p.form)) refl;
      }

  goes_packets : (S : Type 0) (m : Meaning t) (time : ℕ) (a : At t) (ps : List Sent) (g : Going t) → MayAll m time g ps → Goes S a g → Goes S a (packets_after m time ps g)
  goes_packets S m time a [] g may h = h
  goes_packets S m time a (p ∷ ps) g may h = goes_packets S m time a ps (packet_after m time p (going_tried m p.form g)) may.1 (goes_packet S m time a p g may.0 h)

  goes_from : (asked : ℕ) (a : At t) → LostSo ⊥ a.did → Goes (Spares a) a (going_from asked a)
  goes_from asked a none = record { state = refl; reason = refl; none = none; behind = λ s. absurd cc; how = inl (refl, λ s. s) }

  -- ---- how a transmit ends

  -- what is known at its end
  record Comes (S : Type 0) (a d : At t) : Type 0 where
    pub closes : S → is_open a.state.life.state ≡ true → (f : Form) → IfSome (usage_of d.state.keys f) (λ (u : KeyUse). 1 ≤ u.sealed → u.limit ≤ u.sealed + 1 → ClosesBehind f d.did a.state d.state)
    pub left : S → (f : Form) → IfSome (usage_of d.state.keys f) Left
    pub ends : is_drained a.state.life.state ≡ false → is_drained d.state.life.state ≡ true → (f : Form) × EndsBefore f d.did a.state d.state
    pub only : is_open a.state.life.state ≡ true → d.state.life.state ≡ state.Closed → (f : Form) × IsNearLimit (usage_of d.state.keys f)
    pub caused : LostSo ((f : Form) × IsNearLimit (usage_of d.state.keys f)) d.did
    pub spares : S → is_open a.state.life.state ≡ true → is_open d.state.life.state ≡ true → Spares d

  -- where keys are spared
  same_ends : (a d : At t) → d.state.life.state ≡ a.state.life.state → is_drained a.state.life.state ≡ false → is_drained d.state.life.state ≡ true → (f : Form) × EndsBefore f d.did a.state d.state
  same_ends a d life alive ended = let still : is_drained d.state.life.state ≡ false = ap is_drained life ∙ alive in absurd cc

  same_only : (P : Type 0) (a d : At t) → d.state.life.state ≡ a.state.life.state → is_open a.state.life.state ≡ true → d.state.life.state ≡ state.Closed → P
  same_only P a d life opened closed = absurd (closed_shut d.state.life.state closed (ap is_open life ∙ opened))

  fresh_comes : (S : Type 0) (a d : At t) → (S → Spares d) → (is_drained a.state.life.state ≡ false → is_drained d.state.life.state ≡ true → (f : Form) × EndsBefore f d.did a.state d.state) →
      (is_open a.state.life.state ≡ true → d.state.life.state ≡ state.Closed → (f : Form) × IsNearLimit (usage_of d.state.keys f)) →
      LostSo ((f : Form) × IsNearLimit (usage_of d.state.keys f)) d.did → Comes S a d
  fresh_comes S a d spares ends only caused = record {
    closes = λ s opened f. spared_unworn (usage_of d.state.keys f) (ClosesBehind f d.did a.state d.state) (spares s f);
    left = λ s. all_left d.state.keys (spares s);
    ends = ends;
    only = only;
    caused = caused;
    spares = λ s opened still. spares s;
  }

  -- this end closes, for this limit
  record Shuts (a b : At t) : Type 0 where
    pub keys : b.state.keys ≡ a.state.keys
    pub closed : b.state.life.state ≡ state.Closed
    pub close : b.state.life.close ≡ Some (close.Connection (record { error_code = limit_reached.code; frame_type = limit_reached.frame; reason = [] }))
    pub did : b.did ≡ a.did ++ did.Rose 2 ∷ reason_deeds a.state.life.reason (lost.TransportError limit_reached)

  given_shuts : (time : ℕ) (c : At t) (o : Option ConnectionError) → c.state.life.reason ≡ o →
      Shuts c (if is_none o then move_to (Give (lost.TransportError key_limit_error)) (move_to (Shut time (close.Connection (record { error_code = key_limit_error.code; frame_type = key_limit_error.frame; reason = [] }))) c)
      else move_to (Shut time (close.Connection (record { error_code = key_limit_error.code; frame_type = key_limit_error.frame; reason = [] }))) c)
  unfolding move_to state_move keys_move life_move life_closed deeds_move reason_given
  given_shuts time c None is = record {
    keys = refl;
    closed = ap (λ (o : Option ConnectionError). (if is_none o then record (life_closed c.state.life (close.Connection (record { error_code = 0x0f; frame_type = None; reason = [] }))) { reason = Some (lost.TransportError key_limit_error); lost = Some (lost.TransportError key_limit_error) } else life_closed c.state.life (close.Connection (record { error_code = 0x0f; frame_type = None; reason = [] }))).state) is;
    close = ap (λ (o : Option ConnectionError). (if is_none o then record (life_closed c.state.life (close.Connection (record { error_code = 0x0f; frame_type = None; reason = [] }))) { reason = Some (lost.TransportError key_limit_error); lost = Some (lost.TransportError key_limit_error) } else life_closed c.state.life (close.Connection (record { error_code = 0x0f; frame_type = None; reason = [] }))).close) is;
    did = append_assoc c.did (did.Rose 2 ∷ []) (did.Lost (lost.TransportError key_limit_error) ∷ [])
        ∙ ap (λ (o : Option ConnectionError). c.did ++ did.Rose 2 ∷ reason_deeds o (lost.TransportError limit_reached)) (sym is);
  }
  given_shuts time c (Some why) is = record {
    keys = refl;
    closed = refl;
    close = refl;
    did = ap (λ (o : Option ConnectionError). c.did ++ did.Rose 2 ∷ reason_deeds o (lost.TransportError limit_reached)) (sym is);
  }

  stopped_shuts : (time : ℕ) (c : At t) (b : Bool) → b ≡ true →
      Shuts c (if b then given_after (lost.TransportError key_limit_error) (move_to (Shut time (close.Connection (record { error_code = key_limit_error.code; frame_type = key_limit_error.frame; reason = [] }))) c) else c)
  unfolding given_after move_to state_move life_move life_closed
  stopped_shuts time c true is = given_shuts time c c.state.life.reason refl
  stopped_shuts time c false is = absurd cc

  spared_shuts : (time : ℕ) (c : At t) → is_open c.state.life.state ≡ true → Shuts c (spared_after time true c)
  unfolding spared_after stopped_after
  spared_shuts time c opened = stopped_shuts time c (is_open c.state.life.state) opened

  -- the keys stay, whether it closes or has closed before
  given_keys : (why : ConnectionError) (c : At t) (b : Bool) → (if b then move_to (Give why) c else c).state.keys ≡ c.state.keys
  unfolding move_to state_move keys_move
  given_keys why c true = refl
  given_keys why c false = refl

  stopped_keys : (time : ℕ) (close : Close) (why : ConnectionError) (c : At t) (b : Bool) → (if b then given_after why (move_to (Shut time close) c) else c).state.keys ≡ c.state.keys
  unfolding given_after move_to state_move keys_move
  stopped_keys time close why c true = given_keys why (move_to (Shut time close) c) (is_none (move_to (Shut time close) c).state.life.reason)
  stopped_keys time close why c false = refl

  spared_keys : (time : ℕ) (c : At t) → (spared_after time true c).state.keys ≡ c.state.keys
  unfolding spared_after stopped_after
  spared_keys time c = stopped_keys time _ _ c (is_open c.state.life.state)

  -- the reason that it gives then, if any, is caused
  given_lost : (P : Type 0) (why : ConnectionError) (c : At t) (b : Bool) → P → LostSo ⊥ c.did → LostSo P (if b then move_to (Give why) c else c).did
  unfolding move_to deeds_move
  given_lost P why c true p none = lost_append P c.did _ (lost_any P c.did none) (given_all P why p, tt)
    where
      given_all : (P : Type 0) (why : ConnectionError) → P → GivenSo P why
      given_all P (lost.TransportError error) p = λ code. p
      given_all P _ p = tt
  given_lost P why c false p none = lost_any P c.did none

  stopped_lost : (P : Type 0) (time : ℕ) (close : Close) (why : ConnectionError) (c : At t) (b : Bool) → P → LostSo ⊥ c.did → LostSo P (if b then given_after why (move_to (Shut time close) c) else c).did
  unfolding given_after move_to deeds_move
  stopped_lost P time close why c true p none =
      given_lost P why (move_to (Shut time close) c) (is_none (move_to (Shut time close) c).state.life.reason) p (lost_append ⊥ c.did (did.Rose 2 ∷ []) none tt)
  stopped_lost P time close why c false p none = lost_any P c.did none

  spared_lost : (P : Type 0) (time : ℕ) (c : At t) → P → LostSo ⊥ c.did → LostSo P (spared_after time true c).did
  unfolding spared_after stopped_after
  spared_lost P time c p none = stopped_lost P time _ _ c (is_open c.state.life.state) p none

  -- behind a packet whose key may seal at most one more, where it closes
  worn_closes : (S : Type 0) (f : Form) (a c : At t) (time : ℕ) → Wears S f c → c.state.life.state ≡ a.state.life.state → c.state.life.reason ≡ a.state.life.reason → is_open a.state.life.state ≡ true → ClosesBehind f (spared_after time true c).did a.state (spared_after time true c).state
  worn_closes S f a c time w life reason opened =
      let shuts : Shuts c (spared_after time true c) = spared_shuts time c (ap is_open life ∙ opened) in
      record {
        closed = shuts.closed;
        close = shuts.close;
        before = w.before;
        number = w.number;
        frames = w.frames;
        deeds = shuts.did
            ∙ ap (λ (ds : List Did). ds ++ did.Rose 2 ∷ reason_deeds c.state.life.reason (lost.TransportError limit_reached)) w.did
            ∙ append_assoc w.before (did.Sealed (number_space f) w.number (epoch_in c.state.keys f) (is_early f) w.frames ∷ []) (did.Rose 2 ∷ reason_deeds c.state.life.reason (lost.TransportError limit_reached))
            ∙ ap (λ (o : Option ConnectionError). w.before ++ did.Sealed (number_space f) w.number (epoch_in c.state.keys f) (is_early f) w.frames ∷ did.Rose 2 ∷ reason_deeds o (lost.TransportError limit_reached)) reason
            ∙ ap (λ (v : KeyGroup t.H t.P). w.before ++ did.Sealed (number_space f) w.number (epoch_in v f) (is_early f) w.frames ∷ did.Rose 2 ∷ reason_deeds a.state.life.reason (lost.TransportError limit_reached)) (sym shuts.keys);
      }

  closes_by : (S : Type 0) (f other : Form) (a d : At t) → ClosesBehind f d.did a.state d.state → (other ≡ f) ⊎ IsSpared (usage_of d.state.keys other) →
      IfSome (usage_of d.state.keys other) (λ (u : KeyUse). 1 ≤ u.sealed → u.limit ≤ u.sealed + 1 → ClosesBehind other d.did a.state d.state)
  closes_by S f other a d closes (inl same) = any_closes (usage_of d.state.keys other) (ClosesBehind other d.did a.state d.state) (subst (λ (g : Form). ClosesBehind g d.did a.state d.state) (sym same) closes)
  closes_by S f other a d closes (inr spared) = spared_unworn (usage_of d.state.keys other) (ClosesBehind other d.did a.state d.state) spared

  stopped_alive : (time : ℕ) (close : Close) (why : ConnectionError) (c : At t) (b : Bool) → is_drained (if b then given_after why (move_to (Shut time close) c) else c).state.life.state ≡ true → is_drained c.state.life.state ≡ true
  unfolding given_after move_to state_move life_move life_closed reason_given
  stopped_alive time close why c true ended = absurd (by_reason (is_none c.state.life.reason) ended)
    where
      by_reason : (b : Bool) → is_drained (if b then move_to (Give why) (move_to (Shut time close) c) else move_to (Shut time close) c).state.life.state ≡ true → ⊥
      by_reason true ended = let shut : is_drained (reason_given (life_closed c.state.life close) why).state ≡ false = given_alive (is_none c.state.life.reason) in cc
        where
          given_alive : (b : Bool) → is_drained (if b then record (life_closed c.state.life close) { reason = Some why; lost = Some why } else life_closed c.state.life close).state ≡ false
          given_alive true = refl
          given_alive false = refl
      by_reason false ended = cc
  stopped_alive time close why c false ended = ended

  spared_alive : (time : ℕ) (c : At t) → is_drained (spared_after time true c).state.life.state ≡ true → is_drained c.state.life.state ≡ true
  unfolding spared_after stopped_after
  spared_alive time c ended = stopped_alive time _ _ c (is_open c.state.life.state) ended

  worn_comes : (S : Type 0) (f : Form) (a c : At t) (time : ℕ) → Wears S f c → c.state.life.state ≡ a.state.life.state → c.state.life.reason ≡ a.state.life.reason → LostSo ⊥ c.did → Comes S a (spared_after time true c)
  worn_comes S f a c time w life reason none =
      let d : At t = spared_after time true c in
      let keys : d.state.keys ≡ c.state.keys = spared_keys time c in
      record {
        closes = λ s opened other. closes_by S f other a d (worn_closes S f a c time w life reason opened) (subst (λ (v : KeyGroup t.H t.P). (other ≡ f) ⊎ IsSpared (usage_of v other)) (sym keys) (w.others s other));
        left = λ s. subst (λ (v : KeyGroup t.H t.P). AreUsedSo Left v) (sym keys) (w.left s);
        ends = λ alive ended.
            let still : is_drained c.state.life.state ≡ false = ap is_drained life ∙ alive in
            let over : is_drained c.state.life.state ≡ true = spared_alive time c ended in
            absurd cc;
        only = λ opened closed. (f, subst (λ (v : KeyGroup t.H t.P). IsNearLimit (usage_of v f)) (sym keys) w.near);
        caused = spared_lost _ time c (f, subst (λ (v : KeyGroup t.H t.P). IsNearLimit (usage_of v f)) (sym keys) w.near) none;
        spares = λ s opened still. absurd (closed_shut d.state.life.state (worn_closes S f a c time w life reason opened).closed still);
      }

  -- the Initial space is left before that, or not
  record Stays (a b : At t) : Type 0 where
    pub state : b.state.life.state ≡ a.state.life.state
    pub reason : b.state.life.reason ≡ a.state.life.reason
    pub did : b.did ≡ a.did

  left_stays : (time : ℕ) (a : At t) (b : Bool) → Stays a (if b then armed_with false time (move_to (Forget Initial) a) else a)
  unfolding armed_with move_to state_move life_move deeds_move
  left_stays time a true = record { state = refl; reason = refl; did = refl }
  left_stays time a false = record { state = refl; reason = refl; did = refl }

  shook_stays : (time : ℕ) (shook : Bool) (a : At t) → Stays a (handshake_left time shook a)
  unfolding initial_left
  shook_stays time true a = left_stays time a (drops_initial Client a.state Handshake)
  shook_stays time false a = record { state = refl; reason = refl; did = refl }

  left_spares : (time : ℕ) (a : At t) (b : Bool) → Spares a → Spares (if b then armed_with false time (move_to (Forget Initial) a) else a)
  unfolding armed_with move_to state_move keys_move
  left_spares time a true h = dropped_so Spared a.state.keys h
  left_spares time a false h = h

  shook_spares : (time : ℕ) (shook : Bool) (a : At t) → Spares a → Spares (handshake_left time shook a)
  unfolding initial_left
  shook_spares time true a h = left_spares time a (drops_initial Client a.state Handshake) h
  shook_spares time false a h = h

  left_wears : (S : Type 0) (f : Form) (time : ℕ) (a : At t) (b : Bool) → (f ≡ form.Initial → ⊥) → Wears S f a → Wears S f (if b then armed_with false time (move_to (Forget Initial) a) else a)
  unfolding armed_with move_to state_move keys_move deeds_move
  left_wears S f time a true other w = record {
    near = subst IsNearLimit (sym (dropped_usage a.state.keys f other)) w.near;
    before = w.before;
    number = w.number;
    frames = w.frames;
    did = w.did ∙ ap (λ (e : ℕ). w.before ++ did.Sealed (number_space f) w.number e (is_early f) w.frames ∷ []) (sym (dropped_epoch a.state.keys f));
    others = λ s. dropped_others a.state.keys f (w.others s);
    left = λ s. dropped_so Left a.state.keys (w.left s);
  }
  left_wears S f time a false other w = w

  shook_wears : (S : Type 0) (f : Form) (time : ℕ) (shook : Bool) (a : At t) → (f ≡ form.Initial → shook ≡ false) → Wears S f a → Wears S f (handshake_left time shook a)
  unfolding initial_left
  shook_wears S f time true a kept w = left_wears S f time a (drops_initial Client a.state Handshake) (λ is. let none : true ≡ false = kept is in cc) w
  shook_wears S f time false a kept w = w

  -- bytes are told of to the path, behind all that
  told_comes : (S : Type 0) (m : Meaning t) (time : ℕ) (b : Batch) (a c : At t) → Comes S a c → Comes S a (told_sent m time b c)
  unfolding told_sent move_to state_move keys_move life_move deeds_move
  told_comes S m time b a c h = record {
    closes = λ s opened f. same_closes f (usage_of c.state.keys f) (h.closes s opened f);
    left = h.left;
    ends = λ alive ended. let k : (f : Form) × EndsBefore f c.did a.state c.state = h.ends alive ended in (k.0, record { why = k.1.why; limit = k.1.limit; before = k.1.before; deeds = k.1.deeds });
    only = h.only;
    caused = h.caused;
    spares = h.spares;
  }
    where
      same_closes : (f : Form) (o : Option KeyUse) → IfSome o (λ (u : KeyUse). 1 ≤ u.sealed → u.limit ≤ u.sealed + 1 → ClosesBehind f c.did a.state c.state) →
          IfSome o (λ (u : KeyUse). 1 ≤ u.sealed → u.limit ≤ u.sealed + 1 → ClosesBehind f (told_sent m time b c).did a.state (told_sent m time b c).state)
      same_closes f None k = tt
      same_closes f (Some u) k = λ some near. let e : ClosesBehind f c.did a.state c.state = k some near in record { closed = e.closed; close = e.close; before = e.before; number = e.number; frames = e.frames; deeds = e.deeds }

  unworn_comes : (S : Type 0) (time : ℕ) (a c : At t) → (S → Spares c) → c.state.life.state ≡ a.state.life.state → LostSo ⊥ c.did → Comes S a (spared_after time false c)
  unfolding spared_after
  unworn_comes S time a c spares life none = fresh_comes S a c spares (same_ends a c life) (same_only _ a c life) (lost_any _ c.did none)

  -- a transmit that sealed packets, from any moment with the keys, the life and the deeds behind them
  finished_comes : (S : Type 0) (m : Meaning t) (time : ℕ) (a : At t) (g : Going t) (e : At t) → Goes S a g → e.state.keys ≡ g.now.state.keys → Stays g.now e → Comes S a (finished_after m time g.batch e)
  unfolding finished_after
  finished_comes S m time a g e h keys stays =
      let c : At t = handshake_left time g.batch.shook e in
      told_comes S m time g.batch a (spared_after time g.batch.worn c) (by_how h.how)
    where
      life_is : (handshake_left time g.batch.shook e).state.life.state ≡ a.state.life.state
      life_is = (shook_stays time g.batch.shook e).state ∙ stays.state ∙ h.state

      reason_is : (handshake_left time g.batch.shook e).state.life.reason ≡ a.state.life.reason
      reason_is = (shook_stays time g.batch.shook e).reason ∙ stays.reason ∙ h.reason

      none_is : LostSo ⊥ (handshake_left time g.batch.shook e).did
      none_is = subst (LostSo ⊥) (sym ((shook_stays time g.batch.shook e).did ∙ stays.did)) h.none

      wears_here : (f : Form) → Wears S f g.now → Wears S f e
      wears_here f w = record {
        near = subst (λ (v : KeyGroup t.H t.P). IsNearLimit (usage_of v f)) (sym keys) w.near;
        before = w.before;
        number = w.number;
        frames = w.frames;
        did = stays.did ∙ w.did ∙ ap (λ (v : KeyGroup t.H t.P). w.before ++ did.Sealed (number_space f) w.number (epoch_in v f) (is_early f) w.frames ∷ []) (sym keys);
        others = λ s other. subst (λ (v : KeyGroup t.H t.P). (other ≡ f) ⊎ IsSpared (usage_of v other)) (sym keys) (w.others s other);
        left = λ s. subst (λ (v : KeyGroup t.H t.P). AreUsedSo Left v) (sym keys) (w.left s);
      }

      by_how : IsFresh S g ⊎ IsWorn S g → Comes S a (spared_after time g.batch.worn (handshake_left time g.batch.shook e))
      by_how (inl fresh) =
          subst (λ (b : Bool). Comes S a (spared_after time b (handshake_left time g.batch.shook e))) (sym fresh.0)
          (unworn_comes S time a (handshake_left time g.batch.shook e) (λ s. shook_spares time g.batch.shook e (subst (λ (v : KeyGroup t.H t.P). AreUsedSo Spared v) (sym keys) (fresh.1 s))) life_is none_is)
      by_how (inr worn) =
          subst (λ (b : Bool). Comes S a (spared_after time b (handshake_left time g.batch.shook e))) (sym worn.worn)
          (worn_comes S worn.of a (handshake_left time g.batch.shook e) time (shook_wears S worn.of time g.batch.shook e worn.kept (wears_here worn.of worn.wears)) life_is reason_is none_is)

  -- the pacer holds a datagram back
  paced_stays : (m : Meaning t) (time : ℕ) (quiet : Quiet) (b : Batch) (a : At t) → Stays a (held_after m time quiet b a)
  unfolding held_after move_to state_move life_move deeds_move
  paced_stays m time Pacing b a = record { state = refl; reason = refl; did = refl }
  paced_stays m time NothingOwed b a = record { state = refl; reason = refl; did = refl }
  paced_stays m time Silent b a = record { state = refl; reason = refl; did = refl }
  paced_stays m time Amplification b a = record { state = refl; reason = refl; did = refl }
  paced_stays m time Congestion b a = record { state = refl; reason = refl; did = refl }
  paced_stays m time Killed b a = record { state = refl; reason = refl; did = refl }

  paced_keys : (m : Meaning t) (time : ℕ) (quiet : Quiet) (b : Batch) (a : At t) → (held_after m time quiet b a).state.keys ≡ a.state.keys
  unfolding held_after move_to state_move keys_move
  paced_keys m time Pacing b a = refl
  paced_keys m time NothingOwed b a = refl
  paced_keys m time Silent b a = refl
  paced_keys m time Amplification b a = refl
  paced_keys m time Congestion b a = refl
  paced_keys m time Killed b a = refl

  -- a transmit that sealed nothing spares the keys
  made_fresh : (S : Type 0) (a : At t) (g : Going t) → Goes S a g → g.batch.made ≡ 0 → S → Spares g.now
  made_fresh S a g h none = by_how h.how
    where
      by_how : IsFresh S g ⊎ IsWorn S g → S → Spares g.now
      by_how (inl fresh) = fresh.1
      by_how (inr worn) = let made : 0 < g.batch.made = worn.made in absurd (omega (arith, made, none))

  hushed_comes : (S : Type 0) (m : Meaning t) (time : ℕ) (quiet : Quiet) (a : At t) (g : Going t) → Goes S a g → g.batch.made ≡ 0 → Comes S a (move_to (Say quiet) (held_after m time quiet g.batch g.now))
  unfolding move_to state_move keys_move life_move deeds_move
  hushed_comes S m time quiet a g h none =
      let c : At t = held_after m time quiet g.batch g.now in
      fresh_comes S a (move_to (Say quiet) c) (λ s. subst (λ (v : KeyGroup t.H t.P). AreUsedSo Spared v) (sym (paced_keys m time quiet g.batch g.now)) (made_fresh S a g h none s))
      (same_ends a (move_to (Say quiet) c) ((paced_stays m time quiet g.batch g.now).state ∙ h.state))
      (same_only _ a (move_to (Say quiet) c) ((paced_stays m time quiet g.batch g.now).state ∙ h.state))
      (lost_any _ (move_to (Say quiet) c).did (lost_append ⊥ c.did (did.Quiet quiet ∷ []) (subst (LostSo ⊥) (sym (paced_stays m time quiet g.batch g.now).did) h.none) tt))

  -- a probe of the path's size is begun, and sealed
  asked_did : (a : At t) → (move_to (Ask «Data») a).did ≡ a.did
  unfolding move_to deeds_move
  asked_did a = refl

  begun_probe_did : (m : Meaning t) (time : ℕ) (quiet : Quiet) (b : Batch) (a : At t) → (probe_begun_after m time quiet b a).did ≡ a.did
  unfolding probe_begun_after
  begun_probe_did m time quiet b a = begun_deeds «Data» false (move_to (Ask «Data») (held_after m time quiet b a)) ∙ asked_did (held_after m time quiet b a) ∙ (paced_stays m time quiet b a).did

  probe_seals : (m : Meaning t) (time size : ℕ) (quiet : Quiet) (a : At t) → Seals form.OneRtt a (probe_sealed m time size quiet a)
  unfolding probe_sealed move_to state_move keys_move life_move deeds_move
  probe_seals m time size quiet a =
      let h : Seals form.OneRtt a (sealed_in m time form.OneRtt (probe_frames a.state size) a) = seals_here m time form.OneRtt (probe_frames a.state size) a in
      record { number = h.number; frames = h.frames; keys = h.keys; state = h.state; reason = h.reason; did = h.did }

  probe_by : (S : Type 0) (a c e : At t) (time : ℕ) (b : Bool) → Seals form.OneRtt c e → reaches_limit 0 (usage_of c.state.keys form.OneRtt) ≡ false → is_near (usage_of c.state.keys form.OneRtt) ≡ b → (S → Spares c) →
      c.state.life.state ≡ a.state.life.state → c.state.life.reason ≡ a.state.life.reason → LostSo ⊥ c.did → Comes S a (spared_after time b e)
  probe_by S a c e time true h more near spares life reason none =
      worn_comes S form.OneRtt a e time (seals_wears S form.OneRtt c e h more near spares) (h.state ∙ life) (h.reason ∙ reason) (seals_lost form.OneRtt c e h none)
  probe_by S a c e time false h more far spares life reason none = unworn_comes S time a e (λ s. seals_spares form.OneRtt c e h far (spares s)) (h.state ∙ life) (seals_lost form.OneRtt c e h none)

  probed_comes : (S : Type 0) (m : Meaning t) (time size : ℕ) (quiet : Quiet) (a : At t) (g : Going t) → Goes S a g → g.batch.made ≡ 0 → kill_in g.batch (tried_view m g.now.state form.OneRtt) form.OneRtt ≡ None →
      Comes S a (probed_after m time size quiet g.batch (tried_after m form.OneRtt g.now))
  unfolding probed_after is_key_nearly_used_up is_key_used_up
  probed_comes S m time size quiet a g h none kill =
      let d : At t = tried_after m form.OneRtt g.now in
      let c : At t = probe_begun_after m time quiet g.batch d in
      let keys : c.state.keys ≡ d.state.keys = probe_keys m time quiet g.batch d in
      let life : c.state.life ≡ g.now.state.life = probe_life m time quiet g.batch d ∙ (tried_keeps m form.OneRtt g.now).life in
      probe_by S a c (probe_sealed m time size quiet c) time (is_near (usage_of c.state.keys form.OneRtt)) (probe_seals m time size quiet c)
      (ap (λ (v : KeyGroup t.H t.P). reaches_limit 0 (usage_of v form.OneRtt)) (keys ∙ ap (λ (s : View t). s.keys) (tried_same m form.OneRtt g.now)) ∙ (unlimited g.batch (tried_view m g.now.state form.OneRtt) form.OneRtt kill).0)
      refl
      (λ s. subst (λ (v : KeyGroup t.H t.P). AreUsedSo Spared v) (sym keys) (tried_spares m form.OneRtt g.now (made_fresh S a g h none s)))
      (ap (λ (l : Life). l.state) life ∙ h.state) (ap (λ (l : Life). l.reason) life ∙ h.reason)
      (subst (LostSo ⊥) (sym (begun_probe_did m time quiet g.batch d ∙ tried_did m form.OneRtt g.now)) h.none)

  -- the connection ends as a packet was to begin
  dies_kill : (m : Meaning t) (time : ℕ) (s : View t) (b : Batch) (f : Form) (why : ConnectionError) → Dies m time s b f why ⊎ DiesProbing m time s b f why → kill_in b s f ≡ Some why
  dies_kill m time s b f why (inl h) = h.kill
  dies_kill m time s b f why (inr h) = h.kill

  dies_fresh : (S : Type 0) (m : Meaning t) (time : ℕ) (s : View t) (f : Form) (why : ConnectionError) (a : At t) (g : Going t) → Goes S a g → Dies m time s g.batch f why ⊎ DiesProbing m time s g.batch f why → S → Spares g.now
  dies_fresh S m time s f why a g h (inl dies) = fresh_of S g dies.turn.spare h.how
  dies_fresh S m time s f why a g h (inr dies) = made_fresh S a g h dies.may.none

  killed_keys : (why : ConnectionError) (a : At t) → (move_to (Say Killed) (killed_after why a)).state.keys ≡ a.state.keys
  unfolding killed_after given_after move_to state_move keys_move
  killed_keys why a = given_keys why (move_to (Raise state.Drained) a) (is_none (move_to (Raise state.Drained) a).state.life.reason)

  given_dies : (P : Type 0) (why : ConnectionError) (c : At t) (b : Bool) → GivenSo P why → LostSo ⊥ c.did → LostSo P (if b then move_to (Give why) c else c).did
  unfolding move_to deeds_move
  given_dies P why c true p none = lost_append P c.did (did.Lost why ∷ []) (lost_any P c.did none) (p, tt)
  given_dies P why c false p none = lost_any P c.did none

  killed_lost : (P : Type 0) (why : ConnectionError) (a : At t) → GivenSo P why → LostSo ⊥ a.did → LostSo P (move_to (Say Killed) (killed_after why a)).did
  unfolding killed_after given_after move_to deeds_move
  killed_lost P why a p none =
      let c : At t = move_to (Raise state.Drained) a in
      lost_append P (if is_none c.state.life.reason then move_to (Give why) c else c).did (did.Quiet Killed ∷ []) (given_dies P why c (is_none c.state.life.reason) p (lost_append ⊥ a.did (did.Rose 4 ∷ []) none tt)) tt

  why_given : (P : Type 0) (b : Batch) (s : View t) (f : Form) (why : ConnectionError) → kill_in b s f ≡ Some why → (reaches_limit 0 (usage_of s.keys f) ≡ true → P) → GivenSo P why
  unfolding kill_in is_key_used_up
  why_given P b s f why kill near = kill_given P (reaches_limit 0 (usage_of s.keys f)) (is_used_up s (number_space f)) (is_token_too_long b s f) why kill near

  killed_by : (why : ConnectionError) (c : At t) (o : Option ConnectionError) → c.state.life.reason ≡ o →
      (if is_none o then move_to (Give why) (move_to (Raise state.Drained) c) else move_to (Raise state.Drained) c).did ++ did.Quiet Killed ∷ [] ≡ c.did ++ did.Rose 4 ∷ (reason_deeds c.state.life.reason why ++ did.Quiet Killed ∷ [])
  unfolding move_to deeds_move
  killed_by why c None is =
      append_assoc (c.did ++ did.Rose 4 ∷ []) (did.Lost why ∷ []) (did.Quiet Killed ∷ []) ∙ append_assoc c.did (did.Rose 4 ∷ []) (did.Lost why ∷ did.Quiet Killed ∷ [])
      ∙ ap (λ (o : Option ConnectionError). c.did ++ did.Rose 4 ∷ (reason_deeds o why ++ did.Quiet Killed ∷ [])) (sym is)
  killed_by why c (Some earlier) is =
      append_assoc c.did (did.Rose 4 ∷ []) (did.Quiet Killed ∷ []) ∙ ap (λ (o : Option ConnectionError). c.did ++ did.Rose 4 ∷ (reason_deeds o why ++ did.Quiet Killed ∷ [])) (sym is)

  killed_did : (why : ConnectionError) (c : At t) → (move_to (Say Killed) (killed_after why c)).did ≡ c.did ++ did.Rose 4 ∷ (reason_deeds c.state.life.reason why ++ did.Quiet Killed ∷ [])
  unfolding killed_after given_after move_to state_move life_move life_raised deeds_move
  killed_did why c = killed_by why c c.state.life.reason refl

  -- there are keys for that packet
  dies_keyed : (m : Meaning t) (time : ℕ) (s : View t) (b : Batch) (f : Form) (why : ConnectionError) → Dies m time s b f why ⊎ DiesProbing m time s b f why → has_keys_for s.keys f ≡ true
  unfolding has_keys
  dies_keyed m time s b f why (inl h) = subst (λ (g : Form). has_keys_for s.keys g ≡ true) (sym h.now) (owing_keyed b s h.space h.turn.owed)
  dies_keyed m time s b f why (inr h) = subst (λ (g : Form). has_keys_for s.keys g ≡ true) (sym h.now) (due_keyed time h.size s h.may.due)

  why_limit : (b : Batch) (s : View t) (f : Form) (why : ConnectionError) → kill_in b s f ≡ Some why → has_keys_for s.keys f ≡ true → IsLimitReason why (usage_of s.keys f)
  unfolding kill_in is_key_used_up
  why_limit b s f why kill keyed =
      limit_reason why (usage_of s.keys f) (keyed_usage s.keys f keyed) (λ worn. kill_limit (reaches_limit 0 (usage_of s.keys f)) (is_used_up s (number_space f)) (is_token_too_long b s f) why kill worn)
      (λ free is. subst (GivenSo ⊥) is (kill_given ⊥ (reaches_limit 0 (usage_of s.keys f)) (is_used_up s (number_space f)) (is_token_too_long b s f) why kill (λ worn. absurd cc)) refl)

  died_comes : (S : Type 0) (m : Meaning t) (time : ℕ) (f : Form) (why : ConnectionError) (a : At t) (g : Going t) → Goes S a g →
      Dies m time (tried_view m g.now.state f) g.batch f why ⊎ DiesProbing m time (tried_view m g.now.state f) g.batch f why → Comes S a (move_to (Say Killed) (killed_after why (tried_after m f g.now)))
  died_comes S m time f why a g h dies =
      let d : At t = tried_after m f g.now in
      let e : At t = move_to (Say Killed) (killed_after why d) in
      let keys : e.state.keys ≡ d.state.keys = killed_keys why d in
      let view : e.state.keys ≡ (tried_view m g.now.state f).keys = keys ∙ ap (λ (s : View t). s.keys) (tried_same m f g.now) in
      let P : Type 0 = (other : Form) × IsNearLimit (usage_of e.state.keys other) in
      fresh_comes S a e (λ s. subst (λ (v : KeyGroup t.H t.P). AreUsedSo Spared v) (sym keys) (tried_spares m f g.now (dies_fresh S m time (tried_view m g.now.state f) f why a g h dies s)))
      (λ alive ended. (
        f,
        record {
          why = why;
          limit = subst (λ (v : KeyGroup t.H t.P). IsLimitReason why (usage_of v f)) (sym view)
              (why_limit g.batch (tried_view m g.now.state f) f why (dies_kill m time (tried_view m g.now.state f) g.batch f why dies) (dies_keyed m time (tried_view m g.now.state f) g.batch f why dies));
          before = d.did;
          deeds = killed_did why d ∙ ap (λ (o : Option ConnectionError). d.did ++ did.Rose 4 ∷ (reason_deeds o why ++ did.Quiet Killed ∷ [])) (ap (λ (l : Life). l.reason) (tried_keeps m f g.now).life ∙ h.reason);
        },
      ))
      (λ opened closed. let ended : is_drained e.state.life.state ≡ true = killed_ended why d in let still : is_drained e.state.life.state ≡ false = ap is_drained closed in absurd cc)
      (killed_lost P why d
      (why_given P g.batch (tried_view m g.now.state f) f why (dies_kill m time (tried_view m g.now.state f) g.batch f why dies)
      (λ worn. (f, subst (λ (v : KeyGroup t.H t.P). IsNearLimit (usage_of v f)) (sym view) (near_reached (usage_of (tried_view m g.now.state f).keys f) worn))))
      (subst (LostSo ⊥) (sym (tried_did m f g.now)) h.none))

  ending_comes : (S : Type 0) (m : Meaning t) (time : ℕ) (e : Ending) (a : At t) (g : Going t) → Goes S a g → MayEnd m time e g.now.state g.batch → Comes S a (ending_after m time e g.batch g.now)
  unfolding ending_after
  ending_comes S m time Went a g h may = finished_comes S m time a g g.now h refl (record { state = refl; reason = refl; did = refl })
  ending_comes S m time Held a g h may = finished_comes S m time a g (held_after m time Pacing g.batch g.now) h (paced_keys m time Pacing g.batch g.now) (paced_stays m time Pacing g.batch g.now)
  ending_comes S m time (Hushed quiet) a g h may = hushed_comes S m time quiet a g h may.0
  ending_comes S m time (Probed quiet size) a g h may = probed_comes S m time size quiet a g h may.0.none may.1
  ending_comes S m time (Died f why) a g h may = died_comes S m time f why a g h may

  transmit_comes : (m : Meaning t) (time asked : ℕ) (choice : Choice) (a : At t) → MayTransmit m time asked choice a → LostSo ⊥ a.did → Comes (Spares a) a (transmit_after m time asked choice a)
  unfolding MayTransmit transmit_after gone_after
  transmit_comes m time asked choice a may none =
      ending_comes (Spares a) m time choice.ending a (packets_after m time choice.packets (going_from asked a)) (goes_packets (Spares a) m time a choice.packets (going_from asked a) may.0 (goes_from asked a none)) may.1

  -- ---- steps and runs

  -- a connection that is open was so before
  opened_before : (m : Meaning t) (i : Input) (choice : Choice) (a : At t) → IsAllowed m i choice a → is_open (input_after m i choice a).state.life.state ≡ true → is_open a.state.life.state ≡ true
  opened_before m i choice a may opened =
      let b : At t = input_after m i choice a in
      let told : Told Initial a b = told_input Initial m i choice a may in
      let rank : rank_of a.state.life.state ≤ rank_of b.state.life.state = tells_rank Initial (kernel Initial a.state) (kernel Initial b.state) told.since told.tells in
      let low : rank_of b.state.life.state < 2 = open_rank b.state.life.state opened in
      low_open a.state.life.state (omega (arith, rank, low))

  input_spares : (m : Meaning t) (i : Input) (choice : Choice) (a : At t) → a.did ≡ [] → IsAllowed m i choice a → is_open a.state.life.state ≡ true → is_open (input_after m i choice a).state.life.state ≡ true → Spares a → Spares (input_after m i choice a)
  unfolding IsAllowed input_after
  input_spares m (input.Transmit time max) choice a none may opened still spares =
      (transmit_comes m time max choice a may (subst (LostSo ⊥) (sym none) tt)).spares spares opened still
  input_spares m i choice a none may opened still spares = input_uses Spared none_spared m i choice a tt may spares

  step_spares : (m : Meaning t) (k : ℕ) (s : View t) (i : Input) (x : Step) (s' : View t) → IsStep m k s i x s' → SparesKeys s → SparesKeys s'
  unfolding called began step_after reported state_move keys_move life_move ready_reported connected_reported all_heard_reported lost_reported notices_reported drained_reported
  step_spares m k s i x s' h spares still =
      let a : At t = began s (time_of i) in
      let b : At t = input_after m i h.choice a in
      let now : is_open b.state.life.state ≡ true = sym (ap (λ l. is_open l.state) h.life) ∙ still in
      let before : is_open a.state.life.state ≡ true = opened_before m i h.choice a h.allowed now in
      subst (λ (v : KeyGroup t.H t.P). AreUsedSo Spared v) (sym h.keys) (input_spares m i h.choice a refl h.allowed before now (spares before))

  -- the law of a transmit, whose call left this view and deeds, by the view before
  closes_over : (f : Form) (s s' : View t) (ds : List Did) (a d : At t) → a.state.life ≡ s.life → ds ≡ d.did → s'.keys ≡ d.state.keys → s'.life.state ≡ d.state.life.state → s'.life.close ≡ d.state.life.close →
      ClosesBehind f d.did a.state d.state → ClosesBehind f ds s s'
  closes_over f s s' ds a d from deeds keys life close e = record {
    closed = life ∙ e.closed;
    close = close ∙ e.close;
    before = e.before;
    number = e.number;
    frames = e.frames;
    deeds = deeds ∙ e.deeds
        ∙ ap (λ (v : KeyGroup t.H t.P). e.before ++ did.Sealed (number_space f) e.number (epoch_in v f) (is_early f) e.frames ∷ did.Rose 2 ∷ reason_deeds a.state.life.reason (lost.TransportError limit_reached)) (sym keys)
        ∙ ap (λ (l : Life). e.before ++ did.Sealed (number_space f) e.number (epoch_in s'.keys f) (is_early f) e.frames ∷ did.Rose 2 ∷ reason_deeds l.reason (lost.TransportError limit_reached)) from;
  }

  ends_over : (f : Form) (s s' : View t) (ds : List Did) (a d : At t) → a.state.life ≡ s.life → ds ≡ d.did → s'.keys ≡ d.state.keys → EndsBefore f d.did a.state d.state → EndsBefore f ds s s'
  ends_over f s s' ds a d from deeds keys e = record {
    why = e.why;
    limit = subst (λ (v : KeyGroup t.H t.P). IsLimitReason e.why (usage_of v f)) (sym keys) e.limit;
    before = e.before;
    deeds = deeds ∙ e.deeds ∙ ap (λ (l : Life). e.before ++ did.Rose 4 ∷ (reason_deeds l.reason e.why ++ did.Quiet Killed ∷ [])) from;
  }

  all_over : (f : Form) (o : Option KeyUse) (s s' : View t) (ds : List Did) (a d : At t) → (ClosesBehind f d.did a.state d.state → ClosesBehind f ds s s') →
      IfSome o (λ (u : KeyUse). 1 ≤ u.sealed → u.limit ≤ u.sealed + 1 → ClosesBehind f d.did a.state d.state) → IfSome o (λ (u : KeyUse). 1 ≤ u.sealed → u.limit ≤ u.sealed + 1 → ClosesBehind f ds s s')
  all_over f None s s' ds a d over h = tt
  all_over f (Some u) s s' ds a d over h = λ some near. over (h some near)

  limits_over : (s s' : View t) (ds : List Did) (a d : At t) → Comes (Spares a) a d → SparesKeys s → a.state.keys ≡ s.keys → a.state.life ≡ s.life → ds ≡ d.did → s'.keys ≡ d.state.keys → s'.life.state ≡ d.state.life.state → s'.life.close ≡ d.state.life.close → LimitsEnd ds s s'
  limits_over s s' ds a d h spares same from deeds keys life close =
      let all : is_open s.life.state ≡ true → Spares a = λ opened. subst (λ (v : KeyGroup t.H t.P). AreUsedSo Spared v) (sym same) (spares opened) in
      record {
        closes = λ opened f. subst (λ (v : KeyGroup t.H t.P). IfSome (usage_of v f) (λ (u : KeyUse). 1 ≤ u.sealed → u.limit ≤ u.sealed + 1 → ClosesBehind f ds s s')) (sym keys)
            (all_over f (usage_of d.state.keys f) s s' ds a d (closes_over f s s' ds a d from deeds keys life close) (h.closes (all opened) (ap (λ (l : Life). is_open l.state) from ∙ opened) f));
        left = λ opened f. subst (λ (v : KeyGroup t.H t.P). IfSome (usage_of v f) Left) (sym keys) (h.left (all opened) f);
        ends = λ alive ended.
            let e : (f : Form) × EndsBefore f d.did a.state d.state = h.ends (ap (λ (l : Life). is_drained l.state) from ∙ alive) (sym (ap is_drained life) ∙ ended) in
            (e.0, ends_over e.0 s s' ds a d from deeds keys e.1);
        only = λ opened closed.
            let near : (f : Form) × IsNearLimit (usage_of d.state.keys f) = h.only (ap (λ (l : Life). is_open l.state) from ∙ opened) (sym life ∙ closed) in
            (near.0, subst (λ (v : KeyGroup t.H t.P). IsNearLimit (usage_of v near.0)) (sym keys) near.1);
        caused = λ before behind error is code.
            let near : (f : Form) × IsNearLimit (usage_of d.state.keys f) = lost_one _ d.did before behind error h.caused (sym deeds ∙ is) code in
            (near.0, subst (λ (v : KeyGroup t.H t.P). IsNearLimit (usage_of v near.0)) (sym keys) near.1);
      }

  -- a call alone
  pub transmits_limits : (m : Meaning t) (time asked : ℕ) (s : View t) (b : At t) (sent : Option Transmit) (buffer : List ℕ) → Transmits m time asked (at s []) b sent buffer → SparesKeys s → LimitsEnd b.did s b.state
  transmits_limits m time asked s b sent buffer h spares =
      let d : At t = transmit_after m time asked h.choice (at s []) in
      limits_over s b.state b.did (at s []) d (transmit_comes m time asked h.choice (at s []) h.may tt) spares refl refl
      (ap (λ (x : At t). x.did) h.leads) (ap (λ (x : At t). x.state.keys) h.leads) (ap (λ (x : At t). x.state.life.state) h.leads) (ap (λ (x : At t). x.state.life.close) h.leads)

  -- and a step
  step_limits : (m : Meaning t) (k : ℕ) (s : View t) (i : Input) (x : Step) (s' : View t) → IsStep m k s i x s' → SparesKeys s → LimitsEndIn i x.did s s'
  unfolding called began input_after IsAllowed step_after reported state_move keys_move life_move ready_reported connected_reported all_heard_reported lost_reported notices_reported drained_reported
  step_limits m k s (input.Transmit time max) x s' h spares =
      let a : At t = began s time in
      limits_over s s' x.did a (transmit_after m time max h.choice a) (transmit_comes m time max h.choice a h.allowed tt) spares refl refl h.deeds h.keys (ap (λ l. l.state) h.life) (ap (λ l. l.close) h.life)
  step_limits m k s i x s' h spares = tt

  pub run_spares : (m : Meaning t) (k : ℕ) (s : View t) (is : List Input) (xs : List Step) (s' : View t) → Run m k s is xs s' → SparesKeys s → SparesKeys s'
  unfolding Run
  run_spares m k s [] [] s' r h = subst (λ (v : View t). SparesKeys v) (sym r) h
  run_spares m k s (i ∷ is) (x ∷ xs) s' r h = run_spares m (k + 1) r.0 is xs s' r.2 (step_spares m k s i x r.0 r.1 h)
  run_spares m k s [] (x ∷ xs) s' r h = absurd r
  run_spares m k s (i ∷ is) [] s' r h = absurd r

  pub run_limits : (m : Meaning t) (k : ℕ) (s : View t) (is : List Input) (xs : List Step) (s' : View t) → Run m k s is xs s' → SparesKeys s → EachLimitEnds m k s is xs s'
  unfolding Run EachLimitEnds
  run_limits m k s [] [] s' r h = tt
  run_limits m k s (i ∷ is) (x ∷ xs) s' r h = (r.0, r.1, step_limits m k s i x r.0 r.1 h, run_limits m (k + 1) r.0 is xs s' r.2 (step_spares m k s i x r.0 r.1 h))
  run_limits m k s [] (x ∷ xs) s' r h = absurd r
  run_limits m k s (i ∷ is) [] s' r h = absurd r
