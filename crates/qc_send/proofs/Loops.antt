-- What the loops of a transmit keep, packet for packet and datagram for datagram.
use Rattle.std.proofs.Common.{◌≡◌, ℕ, ◌+◌, ◌<◌, ◌^◌, refl, ap, sym, ◌∙◌, subst, Bool, true, false, Option, Some, None, arith}
use Rattle.std.specs.Prelude.{not, ◌==◌}
use Rattle.qc_base.specs.declared.side.SpaceId.{SpaceId}
use Rattle.qc_base.specs.Time.{plus}
use Rattle.qc_send.specs.declared.joining.Further.{Further}
use Rattle.qc_send.specs.declared.joining.Further.TheVariants as further
use Rattle.qc_send.specs.declared.sending.Dying.{Dying}
use Rattle.qc_send.specs.declared.sending.Next.{Next}
use Rattle.qc_send.specs.declared.sending.Next.TheVariants as next
use Rattle.qc_send.specs.declared.sending.Outcome.{Outcome}
use Rattle.qc_send.specs.declared.sending.Outcome.TheVariants as outcome
use Rattle.qc_send.specs.Joining.{FallsTo, FilledIs, FollowIs, FurtherIs, HeldIf, IsBelow, IsFull, LeavesFewer, MadeIs, MayTake, NextIs, OutcomeIs, follows, made_with, outcome_of}
use Rattle.qc_state.specs.declared.form.Form.{Form}
use Rattle.qc_state.specs.declared.transmit.Batch.{Batch}
use Rattle.qc_state.specs.Forms.{number_space}
use Rattle.qc_state.specs.Keys.{form_in}
use Rattle.qc_state.specs.Batches.{batch_grown, batch_opened}
use Rattle.qc_state.specs.Sending.{Dies, MayBegin, MayStand, begun_batch}
use Rattle.qc_state.specs.Spaces.{space_of}
use Rattle.qc_state.specs.Types.{Types, Meaning}
use Rattle.qc_state.specs.View.{View}
use Rattle.qc_state.proofs.Batches.{opened_total}
use Rattle.qc_send.proofs.Choosing.{form_back}
use Rattle.qc_send.proofs.Follows.{grown_made, grown_most}
use Rattle.qc_send.proofs.Sizes.{begun_made}
use Rattle.qc_send.specs.Joining.{IsRoomy}

-- ---- what is known of the datagrams

opened_most : (opens probes : Bool) (b : Batch) → (batch_opened opens probes b).most ≡ b.most
unfolding batch_opened
opened_most true probes b = refl
opened_most false probes b = refl

grown_total : (form : Form) (number size padding : ℕ) (f nearly : Bool) (b : Batch) → (batch_grown form number size padding f nearly b).total ≡ plus b.total size
unfolding batch_grown
grown_total form number size padding f nearly b = refl

-- the space of a packet that joins is a later one
falls_by : (id : SpaceId) (o : Option SpaceId) → IsBelow id o → FallsTo id (follows o)
falls_by id None h = tt
falls_by id (Some other) h = h

module _ {t : Types} where
  -- how many datagrams were begun behind a packet
  pub packet_made : (opens fills nearly : Bool) (m : Meaning t) (time : ℕ) (s : View t) (form : Form) (before c batch : Batch) (number size padding : ℕ) → MayBegin m time s before form opens → IsRoomy before (number_space form) opens →
      c ≡ begun_batch s (number_space form) opens before → batch ≡ batch_grown form number size padding fills nearly c → batch.made ≡ made_with opens before.made
  unfolding begun_batch
  packet_made opens fills nearly m time s form before c batch number size padding may roomy is_c is =
      ap (λ (x : Batch). x.made) is ∙ grown_made form number size padding fills nearly c ∙ ap (λ (x : Batch). x.made) is_c
      ∙ begun_made before opens (not ((space_of s.waiting.spaces (number_space form)).probes == 0)) roomy.sized.most (λ e. few_by opens e may.place)
    where
      few_by : (o : Bool) → o ≡ true → MayStand m time s before (number_space form) o → before.made < before.most
      few_by true e place = place.few
      few_by false e place = cc

  -- and how many there may be
  pub packet_most : (opens fills nearly : Bool) (s : View t) (form : Form) (before c batch : Batch) (number size padding : ℕ) →
      c ≡ begun_batch s (number_space form) opens before → batch ≡ batch_grown form number size padding fills nearly c → batch.most ≡ before.most
  unfolding begun_batch
  packet_most opens fills nearly s form before c batch number size padding is_c is =
      ap (λ (x : Batch). x.most) is ∙ grown_most form number size padding fills nearly c ∙ ap (λ (x : Batch). x.most) is_c ∙ opened_most opens (not ((space_of s.waiting.spaces (number_space form)).probes == 0)) before

  -- their bytes are those in the buffer
  pub packet_total : (opens fills nearly : Bool) (s : View t) (form : Form) (before c batch : Batch) (number size padding old len : ℕ) → c ≡ begun_batch s (number_space form) opens before → batch ≡ batch_grown form number size padding fills nearly c →
      old ≡ before.total → len ≡ old + size → len < 2 ^ 64 → len ≡ batch.total
  unfolding begun_batch
  packet_total opens fills nearly s form before c batch number size padding old len is_c is is_old is_len few =
      let kept : c.total ≡ before.total = ap (λ (x : Batch). x.total) is_c ∙ opened_total before opens (not ((space_of s.waiting.spaces (number_space form)).probes == 0)) in
      let grown : batch.total ≡ plus c.total size = ap (λ (x : Batch). x.total) is ∙ grown_total form number size padding fills nearly c in
      omega (arith, kept, grown, is_old, is_len, few)

  -- there may be one more, where another one begins
  pub take_few : (m : Meaning t) (time : ℕ) (s : View t) (b : Batch) (id : SpaceId) → MayTake m time s b id true → b.made < b.most
  take_few m time s b id may = may.place.few

  -- ---- what follows a packet

  follow_next : (m : Meaning t) (time : ℕ) (s : View t) (b : Batch) (o : Option SpaceId) → FollowIs m time s b o → NextIs m time s b (follows o)
  follow_next m time s b None h = h
  follow_next m time s b (Some id) h = h

  pub next_follows : (m : Meaning t) (time : ℕ) (s : View t) (b : Batch) (o : Option SpaceId) (found : Next) → found ≡ follows o → FollowIs m time s b o → NextIs m time s b found
  next_follows m time s b o found is h = subst (λ (x : Next). NextIs m time s b x) (sym is) (follow_next m time s b o h)

  pub next_falls : (s : View t) (id : SpaceId) (form : Form) (o : Option SpaceId) (found : Next) → form ≡ form_in s.keys id → found ≡ follows o → IsBelow (number_space form) o → FallsTo id found
  next_falls s id form o found is_form is h =
      subst (λ (x : Next). FallsTo id x) (sym is) (falls_by id o (subst (λ (x : SpaceId). IsBelow x o) (ap number_space is_form ∙ form_back s.keys id) h))

made_by : (o : Option SpaceId) (made after : ℕ) → after ≡ made → MadeIs made after (follows o)
made_by None made after h = h
made_by (Some id) made after h = h

pub next_made : (o : Option SpaceId) (found : Next) (made after : ℕ) → found ≡ follows o → after ≡ made → MadeIs made after found
next_made o found made after is h = subst (λ (x : Next). MadeIs made after x) (sym is) (made_by o made after h)

-- ---- what follows a datagram

module _ {t : Types} where
  -- the answer at a variant
  pub next_joins : (m : Meaning t) (time : ℕ) (s : View t) (b : Batch) (found : Next) (id : SpaceId) → found ≡ next.Joins id → NextIs m time s b found → MayTake m time s b id false
  next_joins m time s b found id is h = subst (λ (x : Next). NextIs m time s b x) is h

  pub next_full : (m : Meaning t) (time : ℕ) (s : View t) (b : Batch) (found : Next) → found ≡ next.Full → NextIs m time s b found → IsFull time s b
  next_full m time s b found is h = subst (λ (x : Next). NextIs m time s b x) is h

  pub next_dies : (m : Meaning t) (time : ℕ) (s : View t) (b : Batch) (found : Next) (dying : Dying) → found ≡ next.Dies dying → NextIs m time s b found → Dies m time s b dying.form dying.why
  next_dies m time s b found dying is h = subst (λ (x : Next). NextIs m time s b x) is h

  -- a datagram that is full is followed by what the search for a further one finds
  outcome_by : (m : Meaning t) (time : ℕ) (s : View t) (b : Batch) (found : Further) → IsFull time s b → FurtherIs m time s b found → OutcomeIs m time s b (outcome_of found)
  outcome_by m time s b (further.Begins id) full h = h.0
  outcome_by m time s b further.Paced full h = (full, h)
  outcome_by m time s b further.Ends full h = (full, tt)
  outcome_by m time s b further.Passes full h = (full, tt)

  pub outcome_is : (m : Meaning t) (time : ℕ) (s : View t) (b : Batch) (dies : Option Dying) (found : Further) (o : Outcome) → dies ≡ None → FilledIs m time s b dies → FurtherIs m time s b found → o ≡ outcome_of found → OutcomeIs m time s b o
  outcome_is m time s b dies found o none full h is =
      subst (λ (x : Outcome). OutcomeIs m time s b x) (sym is) (outcome_by m time s b found (subst (λ (x : Option Dying). FilledIs m time s b x) none full) h)

  pub filled_full : (m : Meaning t) (time : ℕ) (s : View t) (b : Batch) (dies : Option Dying) → dies ≡ None → FilledIs m time s b dies → IsFull time s b
  filled_full m time s b dies none full = subst (λ (x : Option Dying). FilledIs m time s b x) none full

  pub filled_dies : (m : Meaning t) (time : ℕ) (s : View t) (b : Batch) (dies : Option Dying) (dying : Dying) → dies ≡ Some dying → FilledIs m time s b dies → Dies m time s b dying.form dying.why
  filled_dies m time s b dies dying is full = subst (λ (x : Option Dying). FilledIs m time s b x) is full

  pub outcome_begins : (m : Meaning t) (time : ℕ) (s : View t) (b : Batch) (o : Outcome) (id : SpaceId) → o ≡ outcome.Begins id → OutcomeIs m time s b o → MayTake m time s b id true
  outcome_begins m time s b o id is h = subst (λ (x : Outcome). OutcomeIs m time s b x) is h

  pub outcome_ends : (m : Meaning t) (time : ℕ) (s : View t) (b : Batch) (o : Outcome) (paced : Bool) → o ≡ outcome.Ends paced → OutcomeIs m time s b o → IsFull time s b × HeldIf m time s b paced
  outcome_ends m time s b o paced is h = subst (λ (x : Outcome). OutcomeIs m time s b x) is h

  pub outcome_dies : (m : Meaning t) (time : ℕ) (s : View t) (b : Batch) (o : Outcome) (dying : Dying) → o ≡ outcome.Dies dying → OutcomeIs m time s b o → Dies m time s b dying.form dying.why
  outcome_dies m time s b o dying is h = subst (λ (x : Outcome). OutcomeIs m time s b x) is h

-- fewer may follow
pub falls_joins : (id other : SpaceId) (found : Next) → found ≡ next.Joins other → FallsTo id found → FallsTo id (next.Joins other)
falls_joins id other found is h = subst (λ (x : Next). FallsTo id x) is h

pub made_joins : (made after : ℕ) (found : Next) (id : SpaceId) → found ≡ next.Joins id → MadeIs made after found → after ≡ made
made_joins made after found id is h = subst (λ (x : Next). MadeIs made after x) is h

pub made_full : (made after : ℕ) (found : Next) → found ≡ next.Full → MadeIs made after found → after ≡ made
made_full made after found is h = subst (λ (x : Next). MadeIs made after x) is h

fewer_by : (b c : Batch) (found : Further) → c.made ≡ b.made + 1 → c.most ≡ b.most → b.made < b.most → LeavesFewer b c (outcome_of found)
fewer_by b c (further.Begins id) made most few = omega (arith, made, most, few)
fewer_by b c further.Paced made most few = tt
fewer_by b c further.Ends made most few = tt
fewer_by b c further.Passes made most few = tt

pub leaves_fewer : (b c : Batch) (found : Further) (o : Outcome) → o ≡ outcome_of found → c.made ≡ b.made + 1 → c.most ≡ b.most → b.made < b.most → LeavesFewer b c o
leaves_fewer b c found o is made most few = subst (λ (x : Outcome). LeavesFewer b c x) (sym is) (fewer_by b c found made most few)

pub fewer_begins : (b c : Batch) (o : Outcome) (id : SpaceId) → o ≡ outcome.Begins id → LeavesFewer b c o → LeavesFewer b c (outcome.Begins id)
fewer_begins b c o id is h = subst (λ (x : Outcome). LeavesFewer b c x) is h
