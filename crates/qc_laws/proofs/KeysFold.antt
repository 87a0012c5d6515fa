-- Over a run the 1-RTT keys are the fold of their steps, and their epochs never fall.
use Rattle.std.proofs.Common.{◌≡◌, ℕ, ◌+◌, ◌≤◌, ◌<◌, IsSome, ◌⊎◌, inl, inr, List, [], ◌∷◌, ◌++◌, refl, ap, sym, ◌∙◌, subst, Bool, true, false, Option, Some, None, if◌then◌else◌, append_assoc, append-nil}
use Rattle.std.specs.Prelude.{◌&&◌, is_some, option_map}
use Rattle.qc_base.specs.declared.side.SpaceId.{SpaceId}
use Rattle.qc_base.specs.declared.side.SpaceId.TheVariants.{Initial, Handshake, «Data»}
use Rattle.qc_crypto.specs.declared.keys.KeyPair.{KeyPair}
use Rattle.qc_crypto.specs.declared.keys.Keys.{Keys}
use Rattle.qc_datagrams.specs.Steps as datagrams
use Rattle.qc_frame.specs.Frame.{AckValue, FrameValue}
use Rattle.qc_frame.specs.FrameSpelling.{spelling}
use Rattle.qc_frame.specs.declared.frames.FrameOf.TheVariants as frames
use Rattle.qc_header.specs.Piece.{Piece}
use Rattle.qc_packet.specs.OpenedPacket.{is_unanswered}
use Rattle.qc_rings.specs.Ring.{first_ring}
use Rattle.qc_rings.specs.declared.which.Which.{Which}
use Rattle.qc_rings.specs.declared.which.Which.TheVariants.{Next}
use Rattle.qc_state.specs.declared.coming.Coming.{Coming}
use Rattle.qc_state.specs.declared.deeds.Did.{Did}
use Rattle.qc_state.specs.declared.deeds.Did.TheVariants as did
use Rattle.qc_state.specs.declared.deeds.Layer.TheVariants as layer
use Rattle.qc_state.specs.declared.deeds.Verdict.{Verdict}
use Rattle.qc_state.specs.declared.form.Form.{Form}
use Rattle.qc_state.specs.declared.form.Form.TheVariants as form
use Rattle.qc_state.specs.declared.input.Input.{Input}
use Rattle.qc_state.specs.declared.input.Input.TheVariants as input
use Rattle.qc_state.specs.declared.keys.Fresh.{Fresh}
use Rattle.qc_state.specs.declared.keys.KeyGroup.{KeyGroup}
use Rattle.qc_state.specs.declared.keys.OneRttKeys.{OneRttKeys}
use Rattle.qc_state.specs.declared.life.Close.{Close}
use Rattle.qc_state.specs.declared.life.Life.{Life}
use Rattle.qc_state.specs.declared.trace.Step.{Step}
use Rattle.qc_state.specs.Forms.{is_early, number_space}
use Rattle.qc_state.specs.Headline.{deeds_of}
use Rattle.qc_state.specs.Keys.{DataKeys, HandshakeKeys, NewKeys, NoKeys, epoch_in, epoch_with, failure_counted, key_acked, key_discarded, key_opened, key_used, keys_dropped, keys_given, reaches_limit, ring_of, ring_used, usage_of, key_updated, initial_renewed, has_keys_for}
use Rattle.qc_state.specs.Life.{is_open, is_over}
use Rattle.qc_state.specs.Moves.{Accept, Ack, AreNext, Ask, Call, Discard, Enter, Fail, Forget, Hand, Issue, MayMove, Move, Post, Read, Seal, Shut, Take, Tell, Unseal, Write, deeds_move, keys_move, move_to, state_move, Update, Renew}
use Rattle.qc_state.specs.Numbers.{next_number}
use Rattle.qc_state.specs.Progress.{keys_behind, ring_with}
use Rattle.qc_state.specs.Receiving.{datagram_after}
use Rattle.qc_state.specs.Run.{IsAllowed, IsStep, Run, began, called, close_after, datagram_limit, input_after, reported, step_after, time_of}
use Rattle.qc_state.specs.Sending.{Choice, packet_size}
use Rattle.qc_state.specs.Spaces.{is_space}
use Rattle.qc_state.specs.Types.{Types, Meaning}
use Rattle.qc_state.specs.Updating.{fresh_by, unsealed_after, fresh_now}
use Rattle.qc_state.specs.Verdicts.{verdict_of}
use Rattle.qc_state.specs.View.{View, At}
use Rattle.qc_state.proofs.Expired.{IsTimed, holds_timeout}
use Rattle.qc_state.proofs.KeySteps.{RingMoves, acked_moves, discarded_moves, opened_moves, still_no_ring, updated_moves}
use Rattle.qc_state.proofs.OpenPackets.{IsBeside, given_ack, given_read, packet_beside, packet_received, unsealed_life}
use Rattle.qc_state.proofs.PacketMoves.{IsInPacket, IsToldOf, OpenPacket}
use Rattle.qc_state.proofs.ReceivedMoves.{AreUnused, IsOutside, behind_unused}
use Rattle.qc_state.proofs.Telling.{told_appends}
use Rattle.qc_state.proofs.Transmitted.{IsSealable, IsSending, holds_transmit}
use Rattle.qc_state.proofs.Updates.{holds_updated}
use Rattle.qc_state.proofs.WhichOpened.{IsNamed, opened_named}
use Rattle.qc_laws.specs.StreamLaws.{is_of}
use Rattle.qc_laws.specs.UpdateLaws.{Acknowledged, AllMay, AreAcksOf, AreCounted, AreLast, Discarded, EpochsRise, FoldsKeys, Given, KeepsEpochs, KeyStep, Opened, Sealed, acked_by, acks_told, is_unsealed, key_step, key_steps, opened_by, sealed_by, sealed_under, unsealed_in, unsealed_number, waits_for_answer, Updated}
use Rattle.qc_laws.proofs.KeyDeeds.{acks_append, no_pieces, read_unsealed, under_append, unread_none, unsealed_append}
use Rattle.qc_laws.proofs.KeyCounts.{steps_counted}
use Rattle.qc_laws.proofs.KeyEpochs.{steps_held, steps_rise}
use Rattle.qc_laws.proofs.PieceLaws.{opened_tells, read_row}
use Rattle.qc_laws.proofs.Receives.{IsOpened, datagram_holds}
use Rattle.qc_laws.proofs.StreamCalls.{called_input, handed_told}
use Rattle.qc_laws.proofs.StreamSteps.{last_append, last_of, same_since}

-- ---- steps, one list behind another

module _ {H P : Type 0} where
  steps_append : (xs ys : List (KeyStep H P)) (k : Option (OneRttKeys H P)) → key_steps (xs ++ ys) k ≡ key_steps ys (key_steps xs k)
  steps_append [] ys k = refl
  steps_append (x ∷ xs) ys k = steps_append xs ys (key_step x k)

  may_append : (xs ys : List (KeyStep H P)) (k : Option (OneRttKeys H P)) → AllMay xs k → AllMay ys (key_steps xs k) → AllMay (xs ++ ys) k
  may_append [] ys k h g = g
  may_append (x ∷ xs) ys k h g = (h.0, may_append xs ys (key_step x k) h.1 g)

  sealed_append : (xs ys : List (KeyStep H P)) (k : Option (OneRttKeys H P)) → sealed_by (xs ++ ys) k ≡ sealed_by xs k ++ sealed_by ys (key_steps xs k)
  sealed_append [] ys k = refl
  sealed_append (Sealed n ∷ xs) ys k = ap (λ (l : List (ℕ × ℕ)). (n, epoch_with k) ∷ l) (sealed_append xs ys (key_step (Sealed n) k))
  sealed_append (x ∷ xs) ys k = sealed_append xs ys (key_step x k)

  opened_append : (xs ys : List (KeyStep H P)) → opened_by (xs ++ ys) ≡ opened_by xs ++ opened_by ys
  opened_append [] ys = refl
  opened_append (Opened n which fresh ∷ xs) ys = ap (λ (l : List ℕ). n ∷ l) (opened_append xs ys)
  opened_append (x ∷ xs) ys = opened_append xs ys

  acked_append : (xs ys : List (KeyStep H P)) → acked_by (xs ++ ys) ≡ acked_by xs ++ acked_by ys
  acked_append [] ys = refl
  acked_append (Acknowledged n ∷ xs) ys = ap (λ (l : List ℕ). n ∷ l) (acked_append xs ys)
  acked_append (x ∷ xs) ys = acked_append xs ys

-- acknowledgements, one list behind another
acks_of_append : (ns ms : List ℕ) (bs cs : List (List ℕ)) → AreAcksOf ns bs → AreAcksOf ms cs → AreAcksOf (ns ++ ms) (bs ++ cs)
acks_of_append [] ms [] cs h g = g
acks_of_append (n ∷ ns) ms (b ∷ bs) cs h g = (h.0, acks_of_append ns ms bs cs h.1 g)
acks_of_append [] ms (b ∷ bs) cs h g = absurd h
acks_of_append (n ∷ ns) ms [] cs h g = absurd h

-- ---- keys

module _ {H P : Type 0} where
  -- 1-RTT keys are there only where their space is the highest one
  abbrev IsLast : KeyGroup H P → Type 0
  IsLast v = (v.highest ≡ «Data») ⊎ (v.«data» ≡ None)

  -- so it is behind a step of the ring
  ring_last : (v w : KeyGroup H P) → RingMoves v w → IsLast v → IsLast w
  ring_last v w moves (inl is) = inl (moves.highest ∙ is)
  ring_last v w moves (inr none) = inr (still_no_ring v w moves none)

  -- keys of a space below are dropped
  dropped_same : (v : KeyGroup H P) (id : SpaceId) → is_space id «Data» ≡ false → (keys_dropped v id).«data» ≡ v.«data»
  unfolding keys_dropped
  dropped_same v Initial h = refl
  dropped_same v Handshake h = refl
  dropped_same v «Data» h = absurd cc

  dropped_highest : (v : KeyGroup H P) (id : SpaceId) → (keys_dropped v id).highest ≡ v.highest
  unfolding keys_dropped
  dropped_highest v Initial = refl
  dropped_highest v Handshake = refl
  dropped_highest v «Data» = refl

  -- the keys that are given with a write are a step, if they are 1-RTT keys
  abbrev given_steps : NewKeys H P → List (KeyStep H P)
  given_steps (DataKeys keys) = Given keys ∷ []
  given_steps _ = []

  given_leads : (v : KeyGroup H P) (keys : NewKeys H P) → (keys_given v keys).«data» ≡ key_steps (given_steps keys) v.«data»
  unfolding keys_given
  given_leads v NoKeys = refl
  given_leads v (HandshakeKeys keys) = refl
  given_leads v (DataKeys keys) = refl

  -- they are in their first epoch
  abbrev AreFirst : NewKeys H P → Type 0
  AreFirst (DataKeys keys) = keys.ring.ring ≡ first_ring
  AreFirst _ = Unit {0}

  below_none : (v : KeyGroup H P) (id : SpaceId) → v.highest ≡ id → is_space id «Data» ≡ false → IsLast v → v.«data» ≡ None
  below_none v id is below (inr none) = none
  below_none v Initial is below (inl high) = absurd cc
  below_none v Handshake is below (inl high) = absurd cc
  below_none v «Data» is below (inl high) = absurd cc

  given_may : (v : KeyGroup H P) (keys : NewKeys H P) → AreNext keys v.highest → AreUnused keys → AreFirst keys → IsLast v → AllMay (given_steps keys) v.«data»
  given_may v NoKeys next unused first last = tt
  given_may v (HandshakeKeys keys) next unused first last = tt
  given_may v (DataKeys keys) next unused first last = ((below_none v Handshake next refl last, first, unused), tt)

  given_last : (v : KeyGroup H P) (keys : NewKeys H P) → AreNext keys v.highest → IsLast v → IsLast (keys_given v keys)
  unfolding keys_given
  given_last v NoKeys next last = last
  given_last v (HandshakeKeys keys) next last = inr (below_none v Initial next refl last)
  given_last v (DataKeys keys) next last = inl refl

  -- an acknowledgement is a step, where it is one of 1-RTT packets
  abbrev settled_steps : SpaceId → ℕ → List (KeyStep H P)
  settled_steps Initial n = []
  settled_steps Handshake n = []
  settled_steps «Data» n = Acknowledged n ∷ []

  settled_leads : (v : KeyGroup H P) (id : SpaceId) (n : ℕ) → (key_acked v id n).«data» ≡ key_steps (settled_steps id n) v.«data»
  unfolding key_acked
  settled_leads v Initial n = refl
  settled_leads v Handshake n = refl
  settled_leads v «Data» n = refl

  settled_may : (id : SpaceId) (n : ℕ) (k : Option (OneRttKeys H P)) → AllMay (settled_steps id n) k
  settled_may Initial n k = tt
  settled_may Handshake n k = tt
  settled_may «Data» n k = (tt, tt)

  settled_none : (id : SpaceId) (n : ℕ) → (k : Option (OneRttKeys H P)) → sealed_by (settled_steps id n) k ≡ []
  settled_none Initial n k = refl
  settled_none Handshake n k = refl
  settled_none «Data» n k = refl

  given_none : (keys : NewKeys H P) (k : Option (OneRttKeys H P)) → sealed_by (given_steps keys) k ≡ []
  given_none NoKeys k = refl
  given_none (HandshakeKeys keys) k = refl
  given_none (DataKeys keys) k = refl

  given_closed : (keys : NewKeys H P) → opened_by (given_steps keys) ≡ []
  given_closed NoKeys = refl
  given_closed (HandshakeKeys keys) = refl
  given_closed (DataKeys keys) = refl

  given_acks : (keys : NewKeys H P) → AreAcksOf (acked_by (given_steps keys)) []
  given_acks NoKeys = tt
  given_acks (HandshakeKeys keys) = tt
  given_acks (DataKeys keys) = tt

  is_there : (k : Option (OneRttKeys H P)) → is_some k ≡ true → IsSome k
  is_there None h = absurd cc
  is_there (Some k) h = refl

  -- a packet of this form is sealed
  abbrev sealing_steps : Form → ℕ → List (KeyStep H P)
  sealing_steps form.OneRtt n = Sealed n ∷ []
  sealing_steps _ n = []

  used_last : (v : KeyGroup H P) (f : Form) (n : ℕ) → IsLast v → IsLast (key_used v f n)
  unfolding key_used ring_used
  used_last v form.Initial n last = last
  used_last v form.Handshake n last = last
  used_last v form.Early n last = last
  used_last v form.OneRtt n (inl high) = inl high
  used_last v form.OneRtt n (inr none) = inr (ap (λ (k : Option (OneRttKeys H P)). ring_used n k) none)

  used_leads : (v : KeyGroup H P) (f : Form) (n : ℕ) → (key_used v f n).«data» ≡ key_steps (sealing_steps f n) v.«data»
  unfolding key_used
  used_leads v form.Initial n = refl
  used_leads v form.Handshake n = refl
  used_leads v form.Early n = refl
  used_leads v form.OneRtt n = refl

  used_may : (v : KeyGroup H P) (f : Form) (n : ℕ) → has_keys_for v f ≡ true → reaches_limit 0 (usage_of v f) ≡ false → AllMay (sealing_steps f n) v.«data»
  unfolding usage_of has_keys_for
  used_may v form.Initial n keyed h = tt
  used_may v form.Handshake n keyed h = tt
  used_may v form.Early n keyed h = tt
  used_may v form.OneRtt n keyed h = ((is_there v.«data» keyed, h), tt)

  used_sealed : (v : KeyGroup H P) (f : Form) (n : ℕ) (fs : List FrameValue) → sealed_by (sealing_steps f n) v.«data» ≡ sealed_under (did.Sealed (number_space f) n (epoch_in v f) (is_early f) fs ∷ [])
  unfolding epoch_in
  used_sealed v form.Initial n fs = refl
  used_sealed v form.Handshake n fs = refl
  used_sealed v form.Early n fs = refl
  used_sealed v form.OneRtt n fs = refl

-- the keys that a write gives are in their first epoch
ring_first : {t : Types} (m : Meaning t) (keys : Keys t.H t.P) (next : Option (KeyPair t.P)) → AreFirst (ring_with m keys next)
ring_first m keys None = tt
ring_first m keys (Some next) = refl

behind_first : {t : Types} (m : Meaning t) (highest : SpaceId) (keys : Option (Keys t.H t.P)) (session : t.S) → AreFirst (keys_behind m highest keys session)
behind_first m highest None session = tt
behind_first m Initial (Some k) session = tt
behind_first m Handshake (Some k) session = ring_first m k (m.next_keys session)
behind_first m «Data» (Some k) session = tt

settled_closed : (H P : Type 0) (id : SpaceId) (n : ℕ) → opened_by {H = H} {P = P} (settled_steps id n) ≡ []
settled_closed H P Initial n = refl
settled_closed H P Handshake n = refl
settled_closed H P «Data» n = refl

settled_acks : (H P : Type 0) (id : SpaceId) (ack : AckValue) → AreAcksOf (acked_by {H = H} {P = P} (settled_steps id ack.largest)) ((if is_space «Data» id then spelling (frames.Ack ack) ∷ [] else []) ++ [])
settled_acks H P Initial ack = tt
settled_acks H P Handshake ack = tt
settled_acks H P «Data» ack = (record { ack = ack; spelled = refl; greatest = refl }, tt)

used_closed : (H P : Type 0) (f : Form) (n : ℕ) → opened_by {H = H} {P = P} (sealing_steps f n) ≡ []
used_closed H P form.Initial n = refl
used_closed H P form.Handshake n = refl
used_closed H P form.Early n = refl
used_closed H P form.OneRtt n = refl

used_acks : (H P : Type 0) (f : Form) (n : ℕ) → AreAcksOf (acked_by {H = H} {P = P} (sealing_steps f n)) []
used_acks H P form.Initial n = tt
used_acks H P form.Handshake n = tt
used_acks H P form.Early n = tt
used_acks H P form.OneRtt n = tt

-- its own step of the ring
abbrev own_steps : (H P : Type 0) (which : Option Which) → (number : ℕ) → (fresh : Option (Fresh P)) → List (KeyStep H P)
own_steps H P None number fresh = []
own_steps H P (Some which) number fresh = Opened number which fresh ∷ []

own_may : (H P : Type 0) (which : Option Which) (number : ℕ) (fresh : Option (Fresh P)) (k : Option (OneRttKeys H P)) → (which ≡ Some Next → waits_for_answer k ≡ false) → AllMay (own_steps H P which number fresh) k
own_may H P None number fresh k h = tt
own_may H P (Some which) number fresh k h = ((λ (is : which ≡ Next). h (ap (λ (w : Which). Some w) is)), tt)

own_none : (H P : Type 0) (which : Option Which) (number : ℕ) (fresh : Option (Fresh P)) (k : Option (OneRttKeys H P)) → sealed_by (own_steps H P which number fresh) k ≡ []
own_none H P None number fresh k = refl
own_none H P (Some which) number fresh k = refl

own_acked : (H P : Type 0) (which : Option Which) (number : ℕ) (fresh : Option (Fresh P)) → acked_by (own_steps H P which number fresh) ≡ []
own_acked H P None number fresh = refl
own_acked H P (Some which) number fresh = refl

own_opened : (H P : Type 0) (which : Option Which) (number : ℕ) (fresh : Option (Fresh P)) (space : SpaceId) (v : Verdict) → is_some which ≡ is_space «Data» space → is_unsealed v ≡ true →
    opened_by (own_steps H P which number fresh) ≡ unsealed_number (Some space) (Some number) v
own_opened H P None number fresh space v named opened = sym (λ i. if opened i && sym named i then number ∷ [] else [])
own_opened H P (Some which) number fresh space v named opened = sym (λ i. if opened i && sym named i then number ∷ [] else [])

answered_by : (H P : Type 0) (k : Option (OneRttKeys H P)) → waits_for_answer k ≡ is_unanswered (option_map (λ (x : OneRttKeys H P). x.ring) k)
answered_by H P None = refl
answered_by H P (Some k) = refl

module _ {t : Types} where
  -- ---- within a packet, behind its own step and what tells of it

  -- the keys made these steps, with which nothing is sealed or opened, in a packet of 1-RTT or not
  record Within (now : Bool) (a b : At t) : Type 0 where
    pub since : List Did
    pub appended : b.did ≡ a.did ++ since
    pub steps : List (KeyStep t.H t.P)
    pub may : AreLast a.state → AllMay steps a.state.keys.«data»
    pub leads : b.state.keys.«data» ≡ key_steps steps a.state.keys.«data»
    pub last : AreLast a.state → AreLast b.state
    pub none : (k : Option (OneRttKeys t.H t.P)) → sealed_by steps k ≡ []
    pub unsealed : sealed_under since ≡ []
    pub closed : opened_by steps ≡ []
    pub stays : last_of «Data» now since ≡ now
    pub acked : AreAcksOf (acked_by steps) (acks_told now since)

  within_here : (now : Bool) (a : At t) → Within now a a
  within_here now a = record { since = []; appended = sym (append-nil a.did); steps = []; may = λ l. tt; leads = refl; last = λ l. l; none = λ k. refl; unsealed = refl; closed = refl; stays = refl; acked = tt }

  within_next : (now : Bool) (a b c : At t) → Within now a b → Within now b c → Within now a c
  within_next now a b c g h = record {
    since = g.since ++ h.since;
    appended = h.appended ∙ ap (λ (x : List Did). x ++ h.since) g.appended ∙ append_assoc a.did g.since h.since;
    steps = g.steps ++ h.steps;
    may = λ l. may_append g.steps h.steps a.state.keys.«data» (g.may l) (subst (λ (k : Option (OneRttKeys t.H t.P)). AllMay h.steps k) g.leads (h.may (g.last l)));
    leads = h.leads ∙ ap (λ (k : Option (OneRttKeys t.H t.P)). key_steps h.steps k) g.leads ∙ sym (steps_append g.steps h.steps a.state.keys.«data»);
    last = λ l. h.last (g.last l);
    none = λ k. sealed_append g.steps h.steps k ∙ (λ i. g.none k i ++ h.none (key_steps g.steps k) i);
    unsealed = under_append g.since h.since ∙ (λ i. g.unsealed i ++ h.unsealed i);
    closed = opened_append g.steps h.steps ∙ (λ i. g.closed i ++ h.closed i);
    stays = last_append «Data» now g.since h.since ∙ ap (λ (x : Bool). last_of «Data» x h.since) g.stays ∙ h.stays;
    acked = subst (λ (ns : List ℕ). AreAcksOf ns (acks_told now (g.since ++ h.since))) (sym (acked_append g.steps h.steps))
        (subst (λ (bs : List (List ℕ)). AreAcksOf (acked_by g.steps ++ acked_by h.steps) bs)
        (sym (acks_append now g.since h.since ∙ ap (λ (x : Bool). acks_told now g.since ++ acks_told x h.since) g.stays))
        (acks_of_append (acked_by g.steps) (acked_by h.steps) (acks_told now g.since) (acks_told now h.since) g.acked h.acked));
  }

  -- a move that leaves the 1-RTT keys, and gives no ACK
  still_within : (now : Bool) (x : Move t) (a : At t) → (keys_move x a.state).«data» ≡ a.state.keys.«data» → (keys_move x a.state).highest ≡ a.state.keys.highest → sealed_under (deeds_move x a.state) ≡ [] →
      last_of «Data» now (deeds_move x a.state) ≡ now → acks_told now (deeds_move x a.state) ≡ [] → Within now a (move_to x a)
  unfolding move_to state_move
  still_within now x a same highest unsealed stays none = record {
    since = deeds_move x a.state;
    appended = told_appends a.did (deeds_move x a.state);
    steps = [];
    may = λ l. tt;
    leads = same;
    last = λ l. last_by l;
    none = λ k. refl;
    unsealed = unsealed;
    closed = refl;
    stays = stays;
    acked = subst (λ (bs : List (List ℕ)). AreAcksOf [] bs) (sym none) tt;
  }
    where
      last_by : AreLast a.state → ((keys_move x a.state).highest ≡ «Data») ⊎ ((keys_move x a.state).«data» ≡ None)
      last_by (inl high) = inl (highest ∙ high)
      last_by (inr gone) = inr (same ∙ gone)

  told_stays : (o : OpenPacket) (d : Did) (s : View t) → IsToldOf o d s → IsBeside {t = t} (Tell d) →
      (sealed_under (d ∷ []) ≡ []) × (last_of «Data» (is_space «Data» o.space) (d ∷ []) ≡ is_space «Data» o.space) × (acks_told (is_space «Data» o.space) (d ∷ []) ≡ [])
  told_stays o (did.Gave layer.Session body) s h beside = absurd beside
  told_stays o (did.Gave layer.Recovery body) s h beside = absurd beside
  told_stays o (did.Gave layer.Life body) s h beside = (refl, refl, refl)
  told_stays o (did.Gave layer.Store body) s h beside = (refl, refl, refl)
  told_stays o (did.Gave layer.Ids body) s h beside = (refl, refl, refl)
  told_stays o (did.Gave layer.Streams body) s h beside = (refl, refl, refl)
  told_stays o (did.Piece space number v) s h beside = (refl, ap (λ (x : Option SpaceId). is_of «Data» x) h.0, refl)
  told_stays o _ s h beside = absurd h

  -- the session gives keys with a write
  write_within : (m : Meaning t) (now : Bool) (bytes : List ℕ) (keys : NewKeys t.H t.P) (session : t.S) (a : At t) →
      keys ≡ keys_behind m a.state.keys.highest (m.write_keys a.state.lower.session) (m.after_write a.state.lower.session) → AreNext keys a.state.keys.highest → Within now a (move_to (Write bytes keys session) a)
  unfolding move_to state_move keys_move deeds_move
  write_within m now bytes keys session a is next =
      let highest : SpaceId = a.state.keys.highest in
      let unused : AreUnused keys = subst (λ (x : NewKeys t.H t.P). AreUnused x) (sym is) (behind_unused m highest (m.write_keys a.state.lower.session) (m.after_write a.state.lower.session)) in
      let first : AreFirst keys = subst (λ (x : NewKeys t.H t.P). AreFirst x) (sym is) (behind_first m highest (m.write_keys a.state.lower.session) (m.after_write a.state.lower.session)) in
      record {
        since = [];
        appended = sym (append-nil a.did);
        steps = given_steps keys;
        may = λ l. given_may a.state.keys keys next unused first l;
        leads = given_leads a.state.keys keys;
        last = λ l. given_last a.state.keys keys next l;
        none = λ k. given_none keys k;
        unsealed = refl;
        closed = given_closed keys;
        stays = refl;
        acked = given_acks keys;
      }

  -- the session is given bytes
  gave_within : (m : Meaning t) (o : OpenPacket) (x : ℕ) (bytes : List ℕ) (a : At t) → Within (is_space «Data» o.space) a (given_read m o x bytes a)
  unfolding move_to state_move keys_move deeds_move
  gave_within m o x bytes a = record {
    since = did.Gave layer.Session (x ∷ bytes) ∷ [];
    appended = refl;
    steps = [];
    may = λ l. tt;
    leads = refl;
    last = λ l. l;
    none = λ k. refl;
    unsealed = refl;
    closed = refl;
    stays = refl;
    acked = tt;
  }

  -- loss recovery is given an ACK
  ack_within : (m : Meaning t) (o : OpenPacket) (ack : AckValue) (a : At t) → Within (is_space «Data» o.space) a (given_ack m o ack a)
  unfolding move_to state_move keys_move deeds_move
  ack_within m o ack a = record {
    since = did.Gave layer.Recovery (spelling (frames.Ack ack)) ∷ [];
    appended = refl;
    steps = settled_steps o.space ack.largest;
    may = λ l. settled_may o.space ack.largest a.state.keys.«data»;
    leads = settled_leads a.state.keys o.space ack.largest;
    last = λ l. ring_last a.state.keys (key_acked a.state.keys o.space ack.largest) (acked_moves a.state.keys o.space ack.largest) l;
    none = λ k. settled_none o.space ack.largest k;
    unsealed = refl;
    closed = settled_closed t.H t.P o.space ack.largest;
    stays = refl;
    acked = settled_acks t.H t.P o.space ack;
  }

  -- each other move of a packet that names no keys of the ring
  move_within : (m : Meaning t) (o : OpenPacket) (x : Move t) (a : At t) → o.which ≡ None → IsInPacket m o x a.state → IsBeside x → MayMove x a.state → Within (is_space «Data» o.space) a (move_to x a)
  unfolding keys_move deeds_move keys_dropped MayMove
  move_within m o (Read space count session) a plain h beside may = absurd beside
  move_within m o (Ack space n after) a plain h beside may = absurd beside
  move_within m o (Seal time f n size fs) a plain h beside may = absurd h
  move_within m o Fail a plain h beside may = absurd h
  move_within m o Discard a plain h beside may = absurd h
  move_within m o (Update fresh session) a plain h beside may = absurd h
  move_within m o (Renew time cid token keys) a plain h beside may = absurd h
  move_within m o (Unseal time n which fresh session) a plain h beside may = let named : o.which ≡ Some which = h.named in absurd cc
  move_within m o (Forget Initial) a plain h beside may = still_within (is_space «Data» o.space) (Forget Initial) a refl refl refl refl refl
  move_within m o (Forget Handshake) a plain h beside may = still_within (is_space «Data» o.space) (Forget Handshake) a refl refl refl refl refl
  move_within m o (Forget «Data») a plain h beside may = absurd h
  move_within m o (Write bytes keys session) a plain h beside may = write_within m (is_space «Data» o.space) bytes keys session a h.given may
  move_within m o (Tell d) a plain h beside may = let told = told_stays o d a.state h beside in still_within (is_space «Data» o.space) (Tell d) a refl refl told.0 told.1 told.2
  move_within m o (Enter space n v) a plain h beside may = still_within (is_space «Data» o.space) (Enter space n v) a refl refl refl (ap (λ (y : SpaceId). is_space «Data» y) h.1.space) refl
  move_within m o (Accept time space n e g v) a plain h beside may = still_within (is_space «Data» o.space) (Accept time space n e g v) a refl refl refl (ap (λ (y : SpaceId). is_space «Data» y) h.3.space) refl
  move_within m o (Hand frame) a plain h beside may =
      let now : Bool = is_space «Data» o.space in
      still_within now (Hand frame) a refl refl (handed_told (λ ds. sealed_under ds ≡ []) frame refl (λ body. refl)) (handed_told (λ ds. last_of «Data» now ds ≡ now) frame refl (λ body. refl))
      (handed_told (λ ds. acks_told now ds ≡ []) frame refl (λ body. refl))
  move_within m o x a plain h beside may = still_within (is_space «Data» o.space) x a refl refl refl refl refl

  -- ---- from one moment to another

  record Kept (a b : At t) : Type 0 where
    pub since : List Did
    pub appended : b.did ≡ a.did ++ since
    pub steps : List (KeyStep t.H t.P)
    pub may : AreLast a.state → AllMay steps a.state.keys.«data»
    pub leads : b.state.keys.«data» ≡ key_steps steps a.state.keys.«data»
    pub last : AreLast a.state → AreLast b.state
    pub sealed : sealed_by steps a.state.keys.«data» ≡ sealed_under since
    pub opened : opened_by steps ≡ unsealed_in since
    pub acks : List (List ℕ)
    pub told : (now : Bool) → acks_told now since ≡ acks
    pub acked : AreAcksOf (acked_by steps) acks

  kept_here : (a : At t) → Kept a a
  kept_here a = record { since = []; appended = sym (append-nil a.did); steps = []; may = λ l. tt; leads = refl; last = λ l. l; sealed = refl; opened = refl; acks = []; told = λ now. refl; acked = tt }

  kept_next : (a b c : At t) → Kept a b → Kept b c → Kept a c
  kept_next a b c g h = record {
    since = g.since ++ h.since;
    appended = h.appended ∙ ap (λ (x : List Did). x ++ h.since) g.appended ∙ append_assoc a.did g.since h.since;
    steps = g.steps ++ h.steps;
    may = λ l. may_append g.steps h.steps a.state.keys.«data» (g.may l) (subst (λ (k : Option (OneRttKeys t.H t.P)). AllMay h.steps k) g.leads (h.may (g.last l)));
    leads = h.leads ∙ ap (λ (k : Option (OneRttKeys t.H t.P)). key_steps h.steps k) g.leads ∙ sym (steps_append g.steps h.steps a.state.keys.«data»);
    last = λ l. h.last (g.last l);
    sealed = sealed_append g.steps h.steps a.state.keys.«data»
        ∙ (λ i. g.sealed i ++ (ap (λ (k : Option (OneRttKeys t.H t.P)). sealed_by h.steps k) (sym g.leads) ∙ h.sealed) i)
        ∙ sym (under_append g.since h.since);
    opened = opened_append g.steps h.steps ∙ (λ i. g.opened i ++ h.opened i) ∙ sym (unsealed_append g.since h.since);
    acks = g.acks ++ h.acks;
    told = λ now. acks_append now g.since h.since ∙ (λ i. g.told now i ++ h.told (last_of «Data» now g.since) i);
    acked = subst (λ (ns : List ℕ). AreAcksOf ns (g.acks ++ h.acks)) (sym (acked_append g.steps h.steps)) (acks_of_append (acked_by g.steps) (acked_by h.steps) g.acks h.acks g.acked h.acked);
  }

  -- a move that leaves the 1-RTT keys, and tells of no packet or ACK
  still_kept : (x : Move t) (a : At t) → (keys_move x a.state).«data» ≡ a.state.keys.«data» → (keys_move x a.state).highest ≡ a.state.keys.highest → sealed_under (deeds_move x a.state) ≡ [] → unsealed_in (deeds_move x a.state) ≡ [] →
      ((now : Bool) → acks_told now (deeds_move x a.state) ≡ []) → Kept a (move_to x a)
  unfolding move_to state_move
  still_kept x a same highest unsealed unopened none = record {
    since = deeds_move x a.state;
    appended = told_appends a.did (deeds_move x a.state);
    steps = [];
    may = λ l. tt;
    leads = same;
    last = λ l. last_by l;
    sealed = sym unsealed;
    opened = sym unopened;
    acks = [];
    told = none;
    acked = tt;
  }
    where
      last_by : AreLast a.state → ((keys_move x a.state).highest ≡ «Data») ⊎ ((keys_move x a.state).«data» ≡ None)
      last_by (inl high) = inl (highest ∙ high)
      last_by (inr gone) = inr (same ∙ gone)

  -- ---- a packet that opened

  abbrev own_fresh : Meaning t → Option Which → View t → Option (Fresh t.P)
  own_fresh m None s = None
  own_fresh m (Some which) s = fresh_by m which s

  own_leads : (m : Meaning t) (time : ℕ) (which : Option Which) (number : ℕ) (a : At t) →
      (unsealed_after m time which number a).state.keys.«data» ≡ key_steps (own_steps t.H t.P which number (own_fresh m which a.state)) a.state.keys.«data»
  unfolding move_to state_move keys_move key_opened
  own_leads m time None number a = refl
  own_leads m time (Some which) number a = refl

  own_last : (m : Meaning t) (time : ℕ) (which : Option Which) (number : ℕ) (a : At t) → AreLast a.state → AreLast (unsealed_after m time which number a).state
  unfolding move_to state_move keys_move
  own_last m time None number a last = last
  own_last m time (Some which) number a last = ring_last a.state.keys (key_opened a.state.keys which number (fresh_by m which a.state)) (opened_moves a.state.keys which number (fresh_by m which a.state)) last

  own_did : (m : Meaning t) (time : ℕ) (which : Option Which) (number : ℕ) (a : At t) → (unsealed_after m time which number a).did ≡ a.did
  unfolding move_to deeds_move
  own_did m time None number a = refl
  own_did m time (Some which) number a = refl

  -- it makes its own step, and then those within
  packet_kept : (m : Meaning t) (coming : Coming) (p : Piece) (o : OpenPacket) (a : At t) → IsOpened m coming a.state p o → Kept a (packet_received m o a)
  unfolding ring_of
  packet_kept m coming p o a is =
      let named : IsNamed (is_space «Data» o.space) (ring_of a.state.keys) o.which = opened_named m a.state p o.space o.source o.token o.spin o.which o.number o.payload is.form is.opened in
      let fresh : Option (Fresh t.P) = own_fresh m o.which a.state in
      let own : List (KeyStep t.H t.P) = own_steps t.H t.P o.which o.number fresh in
      let b : At t = unsealed_after m o.coming.time o.which o.number a in
      let leads = own_leads m o.coming.time o.which o.number a in
      let plain : OpenPacket = record o { which = None } in
      let w : Within (is_space «Data» o.space) b (packet_received m plain b) =
      packet_beside m plain (Within (is_space «Data» o.space)) (within_here (is_space «Data» o.space)) (within_next (is_space «Data» o.space)) (λ x c h beside may. move_within m plain x c refl h beside may)
      (λ x bytes c ready. gave_within m plain x bytes c) (λ ack c among. ack_within m plain ack c) b (ap (λ (l : Life). is_over l.state) (unsealed_life m o.coming.time o.number o.which a) ∙ is.lively) in
      let told = opened_tells m o.coming o.space o.source o.token o.spin o.which o.number o.payload a in
      let v : Verdict = verdict_of a.state o.space o.source o.token o.number in
      let first = same_since a.did w.since _ (sym (w.appended ∙ ap (λ (ds : List Did). ds ++ w.since) (own_did m o.coming.time o.which o.number a)) ∙ told.appended) in
      record {
        since = w.since;
        appended = w.appended ∙ ap (λ (ds : List Did). ds ++ w.since) (own_did m o.coming.time o.which o.number a);
        steps = own ++ w.steps;
        may = λ l. may_append own w.steps a.state.keys.«data» (own_may t.H t.P o.which o.number fresh a.state.keys.«data» (λ next. answered_by t.H t.P a.state.keys.«data» ∙ named.answered next))
            (subst (λ (k : Option (OneRttKeys t.H t.P)). AllMay w.steps k) leads (w.may (own_last m o.coming.time o.which o.number a l)));
        leads = w.leads ∙ ap (λ (k : Option (OneRttKeys t.H t.P)). key_steps w.steps k) leads ∙ sym (steps_append own w.steps a.state.keys.«data»);
        last = λ l. w.last (own_last m o.coming.time o.which o.number a l);
        sealed = sealed_append own w.steps a.state.keys.«data» ∙ (λ i. own_none t.H t.P o.which o.number fresh a.state.keys.«data» i ++ w.none (key_steps own a.state.keys.«data») i) ∙ sym w.unsealed;
        opened = opened_append own w.steps ∙ (λ i. own_opened t.H t.P o.which o.number fresh o.space v named.named (read_unsealed v (read_row a.state o.space o.source o.token o.number)) i ++ (w.closed ∙ sym (no_pieces told.others told.one)) i)
            ∙ ap (λ (ds : List Did). unsealed_in ds) (sym first);
        acks = acks_told (is_space «Data» o.space) w.since;
        told = λ now. ap (λ (ds : List Did). acks_told now ds) first ∙ ap (λ (ds : List Did). acks_told (is_space «Data» o.space) ds) (sym first);
        acked = subst (λ (ns : List ℕ). AreAcksOf ns (acks_told (is_space «Data» o.space) w.since)) (sym (acked_append own w.steps ∙ ap (λ (ns : List ℕ). ns ++ acked_by w.steps) (own_acked t.H t.P o.which o.number fresh))) w.acked;
      }

  -- ---- inputs

  outside_kept : (time : ℕ) (x : Move t) (a : At t) → IsOutside time x a.state → Kept a (move_to x a)
  unfolding keys_move deeds_move failure_counted initial_renewed
  outside_kept time (Seal at f n size fs) a h = absurd h
  outside_kept time (Forget space) a h = absurd h
  outside_kept time (Ack space n after) a h = absurd h
  outside_kept time (Write bytes keys session) a h = absurd h
  outside_kept time (Unseal at n which fresh session) a h = absurd h
  outside_kept time Discard a h = absurd h
  outside_kept time (Update fresh session) a h = absurd h
  outside_kept time (Renew at cid token keys) a h = still_kept (Renew at cid token keys) a refl refl refl refl (λ now. refl)
  outside_kept time (Hand frame) a h = absurd h
  outside_kept time (Enter space n v) a h = absurd h
  outside_kept time (Accept at space n e g v) a h = absurd h
  outside_kept time (Tell (did.Piece space number v)) a h = still_kept (Tell (did.Piece space number v)) a refl refl refl (ap (λ (l : List ℕ). l ++ []) (unread_none space number v h)) (λ now. refl)
  outside_kept time (Tell d) a h = absurd h
  outside_kept time x a h = still_kept x a refl refl refl refl (λ now. refl)

  datagram_kept : (m : Meaning t) (coming : Coming) (bytes : List ℕ) (a : At t) → Kept a (datagram_after m coming bytes a)
  datagram_kept m coming bytes a =
      datagram_holds m coming (λ p. Unit {0}) Kept kept_here kept_next (λ x b h may. outside_kept coming.time x b h) (λ p comes o b opened. packet_kept m coming p o b opened) bytes a (λ p among. tt)

  discard_kept : (a : At t) → Kept a (move_to Discard a)
  unfolding move_to state_move keys_move deeds_move key_discarded
  discard_kept a = record {
    since = [];
    appended = sym (append-nil a.did);
    steps = Discarded ∷ [];
    may = λ l. (tt, tt);
    leads = refl;
    last = λ l. ring_last a.state.keys (key_discarded a.state.keys) (discarded_moves a.state.keys) l;
    sealed = refl;
    opened = refl;
    acks = [];
    told = λ now. refl;
    acked = tt;
  }

  update_kept : (fresh : Option (Fresh t.P)) (session : t.S) (a : At t) → MayMove (Update fresh session) a.state → Kept a (move_to (Update fresh session) a)
  unfolding move_to state_move keys_move deeds_move key_updated MayMove
  update_kept fresh session a may = record {
    since = [];
    appended = sym (append-nil a.did);
    steps = Updated fresh ∷ [];
    may = λ l. (may.1, tt);
    leads = refl;
    last = λ l. ring_last a.state.keys (key_updated a.state.keys fresh) (updated_moves a.state.keys fresh) l;
    sealed = refl;
    opened = refl;
    acks = [];
    told = λ now. refl;
    acked = tt;
  }

  timed_kept : (x : Move t) → IsTimed x → (a : At t) → Kept a (move_to x a)
  unfolding keys_move deeds_move
  timed_kept (Seal at f n size fs) h a = absurd h
  timed_kept (Tell d) h a = absurd h
  timed_kept (Enter space n v) h a = absurd h
  timed_kept (Accept time space n e g v) h a = absurd h
  timed_kept (Forget space) h a = absurd h
  timed_kept (Ack space n after) h a = absurd h
  timed_kept (Write bytes keys session) h a = absurd h
  timed_kept (Unseal at n which fresh session) h a = absurd h
  timed_kept Fail h a = absurd h
  timed_kept (Hand frame) h a = absurd h
  timed_kept Discard h a = discard_kept a
  timed_kept (Update fresh session) h a = absurd h
  timed_kept (Renew at cid token keys) h a = absurd h
  timed_kept x h a = still_kept x a refl refl refl refl (λ now. refl)

  sending_kept : (x : Move t) → IsSending x → (a : At t) → MayMove x a.state → Kept a (move_to x a)
  unfolding keys_move deeds_move
  sending_kept (Seal at f n size fs) h a may = absurd h
  sending_kept (Tell d) h a may = absurd h
  sending_kept (Enter space n v) h a may = absurd h
  sending_kept (Accept time space n e g v) h a may = absurd h
  sending_kept (Ack space n after) h a may = absurd h
  sending_kept (Write bytes keys session) h a may = absurd h
  sending_kept (Unseal at n which fresh session) h a may = absurd h
  sending_kept Discard h a may = absurd h
  sending_kept (Update fresh session) h a may = update_kept fresh session a may
  sending_kept (Renew at cid token keys) h a may = absurd h
  sending_kept Fail h a may = absurd h
  sending_kept (Hand frame) h a may = absurd h
  sending_kept (Forget id) h a may = still_kept (Forget id) a (dropped_same a.state.keys id (ap (λ (space : SpaceId). is_space space «Data») h)) (dropped_highest a.state.keys id) refl refl (λ now. refl)
  sending_kept x h a may = still_kept x a refl refl refl refl (λ now. refl)

  seal_kept : (time : ℕ) (f : Form) (fs : List FrameValue) (a : At t) → IsSealable time a.state f fs → Kept a (move_to (Seal time f (next_number a.state.numbers (number_space f)) (packet_size a.state f fs) fs) (move_to (Take (number_space f) fs) a))
  unfolding move_to state_move keys_move deeds_move
  seal_kept time f fs a may =
      let n : ℕ = next_number a.state.numbers (number_space f) in
      record {
        since = did.Sealed (number_space f) n (epoch_in a.state.keys f) (is_early f) fs ∷ [];
        appended = refl;
        steps = sealing_steps f n;
        may = λ l. used_may a.state.keys f n may.keyed may.fresh;
        leads = used_leads a.state.keys f n;
        last = λ l. used_last a.state.keys f n l;
        sealed = used_sealed a.state.keys f n fs;
        opened = used_closed t.H t.P f n;
        acks = [];
        told = λ now. refl;
        acked = used_acks t.H t.P f n;
      }

  shut_kept : (time : ℕ) (close : Close) (a : At t) (b : Bool) → Kept a (if b then move_to (Shut time close) a else a)
  unfolding keys_move deeds_move
  shut_kept time close a true = still_kept (Shut time close) a refl refl refl refl (λ now. refl)
  shut_kept time close a false = kept_here a

  input_kept : (m : Meaning t) (i : Input) (choice : Choice) (a : At t) → IsAllowed m i choice a → Kept a (input_after m i choice a)
  unfolding IsAllowed input_after close_after keys_move deeds_move
  input_kept m (input.Datagram time remote ecn bytes) choice a may = datagram_kept m (record { time = time; remote = remote; mark = ecn }) bytes a
  input_kept m (input.Timeout time) choice a may = holds_timeout Kept kept_here kept_next (λ x h b may_be. timed_kept x h b) m time a
  input_kept m (input.Transmit time max) choice a may = holds_transmit Kept kept_here kept_next (λ x r b h. sending_kept x r b h) (λ at f fs b h. seal_kept at f fs b h) m time max choice a may
  input_kept m (input.Close time code reason) choice a may = shut_kept time _ a (is_open a.state.life.state)
  input_kept m (input.Ping time) choice a may = still_kept (Ask a.state.keys.highest) a refl refl refl refl (λ now. refl)
  input_kept m (input.Update time) choice a may = holds_updated m Kept kept_here (λ b h. update_kept (fresh_now m b.state) (m.after_next b.state.lower.session) b h) a
  input_kept m (input.SendDatagram time body) choice a may = still_kept (Post (datagrams.Sent (datagram_limit a.state) true body)) a refl refl refl refl (λ now. refl)
  input_kept m (input.RecvDatagram time) choice a may = still_kept (Post datagrams.Taken) a refl refl refl refl (λ now. refl)
  input_kept m (input.Identifiers time given) choice a may = still_kept (Issue time given) a refl refl refl refl (λ now. refl)
  input_kept m i choice a may = called_input Kept kept_here kept_next (λ x b h. still_kept (Call x) b refl refl refl refl (λ now. refl)) i choice.read a may

  -- ---- steps and runs

  record Over (ds : List Did) (s s' : View t) : Type 0 where
    pub steps : List (KeyStep t.H t.P)
    pub may : AreLast s → AllMay steps s.keys.«data»
    pub leads : s'.keys.«data» ≡ key_steps steps s.keys.«data»
    pub last : AreLast s → AreLast s'
    pub sealed : sealed_by steps s.keys.«data» ≡ sealed_under ds
    pub opened : opened_by steps ≡ unsealed_in ds
    pub acks : List (List ℕ)
    pub told : (now : Bool) → acks_told now ds ≡ acks
    pub acked : AreAcksOf (acked_by steps) acks

  step_over : (m : Meaning t) (k : ℕ) (s : View t) (i : Input) (x : Step) (s' : View t) → IsStep m k s i x s' → Over x.did s s'
  unfolding called began step_after reported state_move keys_move
  step_over m k s i x s' h =
      let kept : Kept (began s (time_of i)) (input_after m i h.choice (began s (time_of i))) = input_kept m i h.choice (began s (time_of i)) h.allowed in
      let deeds : x.did ≡ kept.since = h.deeds ∙ kept.appended in
      record {
        steps = kept.steps;
        may = λ l. kept.may l;
        leads = ap (λ (v : KeyGroup t.H t.P). v.«data») h.keys ∙ kept.leads;
        last = λ l. subst (λ (v : KeyGroup t.H t.P). (v.highest ≡ «Data») ⊎ (v.«data» ≡ None)) (sym h.keys) (kept.last l);
        sealed = kept.sealed ∙ ap (λ (ds : List Did). sealed_under ds) (sym deeds);
        opened = kept.opened ∙ ap (λ (ds : List Did). unsealed_in ds) (sym deeds);
        acks = kept.acks;
        told = λ now. ap (λ (ds : List Did). acks_told now ds) deeds ∙ kept.told now;
        acked = kept.acked;
      }

  run_over : (m : Meaning t) (k : ℕ) (s : View t) (is : List Input) (xs : List Step) (s' : View t) → Run m k s is xs s' → Over (deeds_of xs) s s'
  unfolding Run
  run_over m k s [] [] s' r = record {
    steps = [];
    may = λ l. tt;
    leads = ap (λ (v : View t). v.keys.«data») r;
    last = λ l. subst (λ (v : View t). AreLast v) (sym r) l;
    sealed = refl;
    opened = refl;
    acks = [];
    told = λ now. refl;
    acked = tt;
  }
  run_over m k s (i ∷ is) (x ∷ xs) s' r =
      let g : Over x.did s r.0 = step_over m k s i x r.0 r.1 in
      let h : Over (deeds_of xs) r.0 s' = run_over m (k + 1) r.0 is xs s' r.2 in
      record {
        steps = g.steps ++ h.steps;
        may = λ l. may_append g.steps h.steps s.keys.«data» (g.may l) (subst (λ (k : Option (OneRttKeys t.H t.P)). AllMay h.steps k) g.leads (h.may (g.last l)));
        leads = h.leads ∙ ap (λ (k : Option (OneRttKeys t.H t.P)). key_steps h.steps k) g.leads ∙ sym (steps_append g.steps h.steps s.keys.«data»);
        last = λ l. h.last (g.last l);
        sealed = sealed_append g.steps h.steps s.keys.«data»
            ∙ (λ i. g.sealed i ++ (ap (λ (k : Option (OneRttKeys t.H t.P)). sealed_by h.steps k) (sym g.leads) ∙ h.sealed) i)
            ∙ sym (under_append x.did (deeds_of xs));
        opened = opened_append g.steps h.steps ∙ (λ i. g.opened i ++ h.opened i) ∙ sym (unsealed_append x.did (deeds_of xs));
        acks = g.acks ++ h.acks;
        told = λ now. acks_append now x.did (deeds_of xs) ∙ (λ i. g.told now i ++ h.told (last_of «Data» now x.did) i);
        acked = subst (λ (ns : List ℕ). AreAcksOf ns (g.acks ++ h.acks)) (sym (acked_append g.steps h.steps)) (acks_of_append (acked_by g.steps) (acked_by h.steps) g.acks h.acks g.acked h.acked);
      }
  run_over m k s [] (x ∷ xs) s' r = absurd r
  run_over m k s (i ∷ is) [] s' r = absurd r

  pub run_folds_keys : (m : Meaning t) (k : ℕ) (s : View t) (is : List Input) (xs : List Step) (s' : View t) → Run m k s is xs s' → AreLast s → FoldsKeys xs s s'
  run_folds_keys m k s is xs s' r last =
      let o : Over (deeds_of xs) s s' = run_over m k s is xs s' r in
      let k : Option (OneRttKeys t.H t.P) = s.keys.«data» in
      record {
        steps = o.steps;
        may = o.may last;
        leads = o.leads;
        sealed = o.sealed;
        opened = o.opened;
        acked = subst (λ (bs : List (List ℕ)). AreAcksOf (acked_by o.steps) bs) (sym (o.told false)) o.acked;
        counted = λ before counted held small.
            let behind = steps_counted o.steps k before (o.may last) counted held (subst (λ (keys : Option (OneRttKeys t.H t.P)). epoch_with keys < 18446744073709551615) o.leads small) in (
              behind.0,
              subst (λ (keys : Option (OneRttKeys t.H t.P)). AreCounted (before ++ sealed_under (deeds_of xs)) keys) (sym o.leads)
                  (subst (λ (ps : List (ℕ × ℕ)). AreCounted (before ++ ps) (key_steps o.steps k)) o.sealed behind.1),
            );
      }

  pub run_last : (m : Meaning t) (k : ℕ) (s : View t) (is : List Input) (xs : List Step) (s' : View t) → Run m k s is xs s' → AreLast s → AreLast s'
  run_last m k s is xs s' r last = (run_over m k s is xs s' r).last last

  -- ---- epochs

  pub run_keeps_epochs : (m : Meaning t) (k : ℕ) (s : View t) (is : List Input) (xs : List Step) (s' : View t) → Run m k s is xs s' → AreLast s → KeepsEpochs xs s s'
  run_keeps_epochs m k s is xs s' r last =
      let o : FoldsKeys xs s s' = run_folds_keys m k s is xs s' r last in
      record {
        ranged = λ held. subst (λ (keys : Option (OneRttKeys t.H t.P)). epoch_with keys ≤ 18446744073709551615) (sym o.leads) (steps_held o.steps s.keys.«data» o.may held);
        rise = λ held.
            subst (λ (ps : List (ℕ × ℕ)). EpochsRise (epoch_with s.keys.«data») (epoch_with s'.keys.«data») ps) o.sealed
            (subst (λ (keys : Option (OneRttKeys t.H t.P)). EpochsRise (epoch_with s.keys.«data») (epoch_with keys) (sealed_by o.steps s.keys.«data»)) (sym o.leads)
            (steps_rise o.steps s.keys.«data» o.may held));
      }
