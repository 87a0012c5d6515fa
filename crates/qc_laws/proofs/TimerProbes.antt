-- Where a client has to probe behind a move, it had to before; and what each move leaves of a space.
use Rattle.std.proofs.Common.{◌≡◌, ℕ, refl, ap, sym, ◌∙◌, subst, Bool, true, false, Option, Some, None, if◌then◌else◌}
use Rattle.std.specs.Prelude.{◌&&◌, ◌||◌, not, is_some}
use Rattle.qc_base.specs.declared.side.Side.{Side}
use Rattle.qc_base.specs.declared.side.Side.TheVariants.{Client, Server}
use Rattle.qc_base.specs.declared.side.SpaceId.{SpaceId}
use Rattle.qc_base.specs.declared.side.SpaceId.TheVariants.{Initial, Handshake, «Data»}
use Rattle.qc_recovery.specs.Calls.{dropped_after}
use Rattle.qc_recovery.specs.Steps.{is_handshake, space_dropped, was_acknowledged}
use Rattle.qc_recovery.specs.Steps as recovery
use Rattle.qc_recovery.specs.declared.recovery.Recovery.{Recovery}
use Rattle.qc_state.specs.declared.form.Form.{Form}
use Rattle.qc_state.specs.declared.form.Form.TheVariants as form
use Rattle.qc_state.specs.declared.keys.KeyGroup.{KeyGroup}
use Rattle.qc_state.specs.declared.keys.OneRttKeys.{OneRttKeys}
use Rattle.qc_state.specs.declared.keys.SpaceKeys.{SpaceKeys}
use Rattle.qc_state.specs.Forms.{number_space}
use Rattle.qc_state.specs.Keys.{NewKeys, NoKeys, HandshakeKeys, DataKeys, count_one, failure_counted, form_in, has_keys, has_keys_for, initial_renewed, key_used, keys_dropped, keys_given, ring_used}
use Rattle.qc_state.specs.Moves.{AreNext}
use Rattle.qc_state.specs.Receiving.{is_below}
use Rattle.qc_state.specs.Recovering.{is_validated_by_peer, validates}
use Rattle.qc_laws.specs.TimerLaws.{has_asked, has_probe_keys, must_probe}
use Rattle.qc_state.specs.Types.{Types}
use Rattle.qc_state.specs.View.{View}
use Rattle.qc_state.specs.declared.setup.Fixed.{Fixed}
use Rattle.qc_state.specs.declared.setup.Setup.{Setup}
use Rattle.qc_state.proofs.KeySteps.{still_some}
use Rattle.rand_core.specs.Stream.{Stream}
use Rattle.qc_state.specs.Spaces.{is_space}
use Rattle.qc_laws.proofs.CryptoBuffers.{or_left, or_right}

-- ---- tests

pub not_false : (b : Bool) → (true && not b) ≡ false → b ≡ true
not_false true h = refl
not_false false h = cc

and_first : (x y : Bool) → (x && y) ≡ true → x ≡ true
and_first true y e = refl
and_first false y e = cc

and_second : (x y : Bool) → (x && y) ≡ true → y ≡ true
and_second true y e = e
and_second false y e = cc

-- ---- keys

module _ {H P : Type 0} where
  pub failed_same : (v : KeyGroup H P) (id : SpaceId) → has_keys (failure_counted v) id ≡ has_keys v id
  unfolding failure_counted has_keys has_keys_for form_in
  failed_same v Initial = refl
  failed_same v Handshake = refl
  failed_same v Data = refl

  counted_same : (o : Option (SpaceKeys H P)) → is_some (count_one o) ≡ is_some o
  unfolding count_one
  counted_same None = refl
  counted_same (Some k) = refl

  ring_same : (n : ℕ) (o : Option (OneRttKeys H P)) → is_some (ring_used n o) ≡ is_some o
  unfolding ring_used
  ring_same n None = refl
  ring_same n (Some k) = refl

  -- a packet that is sealed leaves which keys there are
  pub used_same : (v : KeyGroup H P) (f : Form) (n : ℕ) (id : SpaceId) → has_keys (key_used v f n) id ≡ has_keys v id
  unfolding key_used has_keys has_keys_for form_in
  used_same v form.Initial n Initial = counted_same v.initial
  used_same v form.Initial n Handshake = refl
  used_same v form.Initial n Data = refl
  used_same v form.Handshake n Initial = refl
  used_same v form.Handshake n Handshake = counted_same v.handshake
  used_same v form.Handshake n Data = refl
  used_same v form.Early n id = refl
  used_same v form.OneRtt n Initial = refl
  used_same v form.OneRtt n Handshake = refl
  used_same v form.OneRtt n Data = ring_same n v.«data»

  -- the keys of a packet are those of its space, but for 0-RTT, which there are none for
  pub form_keyed : (v : KeyGroup H P) (f : Form) → has_keys_for v f ≡ true → has_keys v (number_space f) ≡ true
  unfolding has_keys has_keys_for form_in
  form_keyed v form.Initial h = h
  form_keyed v form.Handshake h = h
  form_keyed v form.Early h = cc
  form_keyed v form.OneRtt h = h

  -- keys that are given
  pub given_more : (v : KeyGroup H P) (keys : NewKeys H P) (id : SpaceId) → has_keys v id ≡ true → has_keys (keys_given v keys) id ≡ true
  unfolding keys_given has_keys has_keys_for form_in
  given_more v NoKeys id h = h
  given_more v (HandshakeKeys k) Initial h = h
  given_more v (HandshakeKeys k) Handshake h = refl
  given_more v (HandshakeKeys k) Data h = h
  given_more v (DataKeys k) Initial h = h
  given_more v (DataKeys k) Handshake h = h
  given_more v (DataKeys k) Data h = refl

  pub given_below : (v : KeyGroup H P) (keys : NewKeys H P) (id : SpaceId) → AreNext keys v.highest → (has_keys v id ≡ true → is_below v.highest id ≡ false) → has_keys (keys_given v keys) id ≡ true → is_below (keys_given v keys).highest id ≡ false
  unfolding keys_given has_keys has_keys_for form_in
  given_below v NoKeys id next h k = h k
  given_below v (HandshakeKeys new) Initial next h k = refl
  given_below v (HandshakeKeys new) Handshake next h k = refl
  given_below v (HandshakeKeys new) Data next h k = let above : true ≡ false = ap (λ (x : SpaceId). is_below x «Data») (sym next) ∙ h k in cc
  given_below v (DataKeys new) Initial next h k = refl
  given_below v (DataKeys new) Handshake next h k = refl
  given_below v (DataKeys new) Data next h k = refl

  -- keys that are dropped, with what is in flight
  pub dropped_keyed : (v : KeyGroup H P) (r : Recovery) (id space : SpaceId) → (is_some (recovery.space_of id r).eliciting_at ≡ true → has_keys v id ≡ true) → is_some (recovery.space_of id (dropped_after space r)).eliciting_at ≡ true → has_keys (keys_dropped v space) id ≡ true
  unfolding keys_dropped has_keys has_keys_for form_in dropped_after space_dropped
  dropped_keyed v r Initial Initial f h = cc
  dropped_keyed v r Initial Handshake f h = f h
  dropped_keyed v r Initial Data f h = f h
  dropped_keyed v r Handshake Initial f h = f h
  dropped_keyed v r Handshake Handshake f h = cc
  dropped_keyed v r Handshake Data f h = f h
  dropped_keyed v r Data Initial f h = f h
  dropped_keyed v r Data Handshake f h = f h
  dropped_keyed v r Data Data f h = cc

  -- keys that are given leave what the keys show, and let a client that has to probe do so before
  pub given_confirmed : (v : KeyGroup H P) (keys : NewKeys H P) → AreNext keys v.highest → (has_keys v «Data» ≡ true → is_below v.highest «Data» ≡ false) → (has_keys v «Data» && not (has_keys v Handshake)) ≡ true →
      (has_keys (keys_given v keys) «Data» && not (has_keys (keys_given v keys) Handshake)) ≡ true
  unfolding keys_given has_keys has_keys_for form_in
  given_confirmed v NoKeys next b e = e
  given_confirmed v (HandshakeKeys k) next b e =
      let above : true ≡ false = ap (λ (x : SpaceId). is_below x «Data») (sym next) ∙ b (and_first (is_some v.«data») (not (is_some v.handshake)) e) in cc
  given_confirmed v (DataKeys k) next b e = and_second (is_some v.«data») (not (is_some v.handshake)) e

  pub given_probe : (v : KeyGroup H P) (keys : NewKeys H P) (i h : Bool) → AreNext keys v.highest → (i ≡ true → has_keys v Initial ≡ true) → (h ≡ true → has_keys v Handshake ≡ true) → (has_keys v Handshake ≡ true → is_below v.highest Handshake ≡ false) →
      (i || h) ≡ true → (has_keys (keys_given v keys) «Data» && not (has_keys (keys_given v keys) Handshake)) ≡ false →
      (if is_handshake (keys_given v keys).highest then has_keys (keys_given v keys) Handshake else has_keys (keys_given v keys) Initial) ≡ true → (if is_handshake v.highest then has_keys v Handshake else has_keys v Initial) ≡ true
  unfolding keys_given has_keys has_keys_for form_in
  given_probe v NoKeys i h next f g b a u e = e
  given_probe v (HandshakeKeys k) true h next f g b a u e = ap (λ (x : SpaceId). if is_handshake x then is_some v.handshake else is_some v.initial) next ∙ f refl
  given_probe v (HandshakeKeys k) false true next f g b a u e = let above : true ≡ false = ap (λ (x : SpaceId). is_below x Handshake) (sym next) ∙ b (g refl) in cc
  given_probe v (HandshakeKeys k) false false next f g b a u e = cc
  given_probe v (DataKeys k) i h next f g b a u e = ap (λ (x : SpaceId). if is_handshake x then is_some v.handshake else is_some v.initial) next ∙ not_false (is_some v.handshake) u

-- ---- what is left of a space whose keys are dropped

kept_known : (id space : SpaceId) (r : Recovery) → is_some (recovery.space_of id r).greatest ≡ true → is_some (recovery.space_of id (dropped_after space r)).greatest ≡ true
unfolding dropped_after space_dropped
kept_known Initial Initial r h = h
kept_known Initial Handshake r h = h
kept_known Initial Data r h = h
kept_known Handshake Initial r h = h
kept_known Handshake Handshake r h = h
kept_known Handshake Data r h = h
kept_known Data Initial r h = h
kept_known Data Handshake r h = h
kept_known Data Data r h = h

without_first : (i h d : Bool) → (h && not d) ≡ true → ((i || h) && not d) ≡ true
without_first true true d e = e
without_first true false d e = cc
without_first false h d e = e

without_second : (i h d : Bool) → ((i || false) && not d) ≡ true → ((i || h) && not d) ≡ true
without_second true h d e = e
without_second false h d e = cc

initial_keys : (b h i : Bool) → (if b then h else false) ≡ true → (if b then h else i) ≡ true
initial_keys true h i e = e
initial_keys false h i e = cc

handshake_keys : (b h i : Bool) → (if b then false else i) ≡ true → (if b then h else i) ≡ true
handshake_keys true h i e = cc
handshake_keys false h i e = e

shown : (d h : Bool) → (d && not h) ≡ true → (d && true) ≡ true
shown true h e = refl
shown false h e = cc

-- ---- what has to hold of a client that has to probe

parts : (v p a : Bool) → (not v && (p && a)) ≡ true → (v ≡ false) × (p ≡ true) × (a ≡ true)
parts true p a h = cc
parts false true true h = (refl, refl, refl)
parts false true false h = cc
parts false false a h = cc

whole : (v p a : Bool) → v ≡ false → p ≡ true → a ≡ true → (not v && (p && a)) ≡ true
whole true p a h k e = cc
whole false true a h k e = e
whole false false a h k e = cc

not_true : (b : Bool) → (b ≡ true → ⊥) → b ≡ false
not_true true h = absurd (h refl)
not_true false h = refl

-- whether the peer is known to have validated this end's address: by what was acknowledged, and by the keys
validated_by : (side : Side) (h d h' d' k k' : Bool) → (h ≡ true → h' ≡ true) → (d ≡ true → d' ≡ true) → (k ≡ true → k' ≡ true) → validates side (h || d) k ≡ true → validates side (h' || d') k' ≡ true
validated_by Server h d h' d' k k' f g e v = refl
validated_by Client true d h' d' k k' f g e v = or_left (h' || d') k' (or_left h' d' (f refl))
validated_by Client false true h' d' k k' f g e v = or_left (h' || d') k' (or_right h' d' (g refl))
validated_by Client false false h' d' k k' f g e v = or_right (h' || d') k' (e v)

-- where it isn't known, the keys don't show it
unknown_keys : (side : Side) (a k : Bool) → validates side a k ≡ false → k ≡ false
unknown_keys Server a k h = cc
unknown_keys Client true k h = cc
unknown_keys Client false k h = h

module _ {t : Types} where
  -- an end asked for an acknowledgement before it had 1-RTT keys
  abbrev pub Asked : View t → Bool
  Asked s = (has_asked s Initial || has_asked s Handshake) && not (has_asked s «Data»)

  -- the keys show that the handshake is confirmed
  abbrev pub IsConfirmed : View t → Bool
  IsConfirmed s = has_keys s.keys «Data» && not (has_keys s.keys Handshake)

  -- what of a change makes that a client which has to probe behind it had to before
  pub record Before (s s' : View t) : Type 0 where
    pub side : s'.setup.fixed.side ≡ s.setup.fixed.side
    pub greatest : (id : SpaceId) → is_some (recovery.space_of id s.lower.recovery).greatest ≡ true → is_some (recovery.space_of id s'.lower.recovery).greatest ≡ true
    pub asked : Asked s' ≡ true → Asked s ≡ true
    pub confirmed : IsConfirmed s ≡ true → IsConfirmed s' ≡ true
    pub keys : has_probe_keys s' ≡ true → Asked s ≡ true → is_validated_by_peer s' false ≡ false → has_probe_keys s ≡ true

  validated_before : (s s' : View t) → Before s s' → is_validated_by_peer s false ≡ true → is_validated_by_peer s' false ≡ true
  unfolding is_validated_by_peer has_keys form_in
  validated_before s s' b v =
      ap (λ (x : Side). validates x (was_acknowledged Handshake s'.lower.recovery || was_acknowledged «Data» s'.lower.recovery) (IsConfirmed s')) b.side
      ∙ validated_by s.setup.fixed.side _ _ _ _ _ _ (b.greatest Handshake) (b.greatest «Data») b.confirmed v

  pub before_probes : (s s' : View t) → Before s s' → must_probe s' ≡ true → must_probe s ≡ true
  unfolding must_probe
  before_probes s s' b h =
      let p = parts (is_validated_by_peer s' false) (has_probe_keys s') (Asked s') h in
      let asked : Asked s ≡ true = b.asked p.2 in
      whole (is_validated_by_peer s false) (has_probe_keys s) (Asked s)
      (not_true (is_validated_by_peer s false) (λ v. let known : is_validated_by_peer s' false ≡ true = validated_before s s' b v in let unknown : is_validated_by_peer s' false ≡ false = p.0 in absurd cc))
      (b.keys p.1 asked p.0) asked

  pub probe_parts : (s : View t) → must_probe s ≡ true → (is_validated_by_peer s false ≡ false) × (has_probe_keys s ≡ true) × (Asked s ≡ true)
  unfolding must_probe
  probe_parts s h = parts (is_validated_by_peer s false) (has_probe_keys s) (Asked s) h

  pub unknown_confirmed : (s : View t) → is_validated_by_peer s false ≡ false → IsConfirmed s ≡ false
  unfolding is_validated_by_peer has_keys form_in
  unknown_confirmed s h = unknown_keys s.setup.fixed.side _ (IsConfirmed s) h

  -- ---- what moves leave

  -- the keys of the Initial or the Handshake space are dropped
  -- a Retry was taken
  pub renew_before : (keys : SpaceKeys t.H t.P) (s s' : View t) → s'.setup.fixed ≡ s.setup.fixed → s'.keys ≡ initial_renewed s.keys keys → s'.lower.recovery ≡ dropped_after Initial s.lower.recovery → Before s s'
  unfolding has_asked has_probe_keys initial_renewed has_keys has_keys_for form_in dropped_after space_dropped
  renew_before keys s s' fixed is lower = record {
    side = ap (λ (x : Fixed). x.side) fixed;
    greatest = λ id g. subst (λ (r : Recovery). is_some (recovery.space_of id r).greatest ≡ true) (sym lower) (kept_known id Initial s.lower.recovery g);
    asked = λ e. without_first (is_some s.lower.recovery.initial.eliciting_at) (is_some s.lower.recovery.handshake.eliciting_at) (is_some s.lower.recovery.application.eliciting_at)
        (ap (λ (r : Recovery). (is_some r.initial.eliciting_at || is_some r.handshake.eliciting_at) && not (is_some r.application.eliciting_at)) (sym lower) ∙ e);
    confirmed = λ e. ap (λ (k : KeyGroup t.H t.P). is_some k.«data» && not (is_some k.handshake)) is ∙ e;
    keys = λ e a u. ap (λ (b : Bool). if is_handshake s.keys.highest then is_some s.keys.handshake else b) (sym (still_some s.keys.initial keys))
        ∙ (ap (λ (k : KeyGroup t.H t.P). if is_handshake k.highest then is_some k.handshake else is_some k.initial) (sym is) ∙ e);
  }

  pub forget_before : (space : SpaceId) (s s' : View t) → is_space space «Data» ≡ false → s'.setup ≡ s.setup → s'.keys ≡ keys_dropped s.keys space → s'.lower.recovery ≡ dropped_after space s.lower.recovery → Before s s'
  unfolding has_asked has_probe_keys keys_dropped has_keys has_keys_for form_in dropped_after space_dropped
  forget_before Initial s s' other setup keys lower = record {
    side = ap (λ (x : Setup Stream). x.fixed.side) setup;
    greatest = λ id g. subst (λ (r : Recovery). is_some (recovery.space_of id r).greatest ≡ true) (sym lower) (kept_known id Initial s.lower.recovery g);
    asked = λ e. without_first (is_some s.lower.recovery.initial.eliciting_at) (is_some s.lower.recovery.handshake.eliciting_at) (is_some s.lower.recovery.application.eliciting_at)
        (ap (λ (r : Recovery). (is_some r.initial.eliciting_at || is_some r.handshake.eliciting_at) && not (is_some r.application.eliciting_at)) (sym lower) ∙ e);
    confirmed = λ e. ap (λ (k : KeyGroup t.H t.P). is_some k.«data» && not (is_some k.handshake)) keys ∙ e;
    keys = λ e a u. initial_keys (is_handshake s.keys.highest) (is_some s.keys.handshake) (is_some s.keys.initial) (ap (λ (k : KeyGroup t.H t.P). if is_handshake k.highest then is_some k.handshake else is_some k.initial) (sym keys) ∙ e);
  }
  forget_before Handshake s s' other setup keys lower = record {
    side = ap (λ (x : Setup Stream). x.fixed.side) setup;
    greatest = λ id g. subst (λ (r : Recovery). is_some (recovery.space_of id r).greatest ≡ true) (sym lower) (kept_known id Handshake s.lower.recovery g);
    asked = λ e. without_second (is_some s.lower.recovery.initial.eliciting_at) (is_some s.lower.recovery.handshake.eliciting_at) (is_some s.lower.recovery.application.eliciting_at)
        (ap (λ (r : Recovery). (is_some r.initial.eliciting_at || is_some r.handshake.eliciting_at) && not (is_some r.application.eliciting_at)) (sym lower) ∙ e);
    confirmed = λ e. ap (λ (k : KeyGroup t.H t.P). is_some k.«data» && not (is_some k.handshake)) keys ∙ shown (is_some s.keys.«data») (is_some s.keys.handshake) e;
    keys = λ e a u. handshake_keys (is_handshake s.keys.highest) (is_some s.keys.handshake) (is_some s.keys.initial) (ap (λ (k : KeyGroup t.H t.P). if is_handshake k.highest then is_some k.handshake else is_some k.initial) (sym keys) ∙ e);
  }
  forget_before Data s s' other setup keys lower = cc
