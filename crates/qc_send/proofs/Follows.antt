-- What follows a packet that was sealed: the one that was thought to join before it was sealed joins; or none need.
use Rattle.std.proofs.Common.{◌≡◌, ℕ, ◌+◌, ◌-◌, ◌≤◌, List, [], ◌∷◌, length, refl, ap, sym, ◌∙◌, subst, Bool, true, false, ◌||◌, ◌&&◌, not, Option, Some, None, ◌⊎◌, inl, inr, nat_le, nat_lt, arith}
use Rattle.std.specs.Prelude.{max}
use Rattle.std.proofs.lemmas.Bool.Decides.{nat_tests}
use Rattle.qc_base.specs.declared.side.SpaceId.{SpaceId}
use Rattle.qc_base.specs.declared.side.SpaceId.TheVariants.{Initial, Handshake, «Data»}
use Rattle.qc_base.specs.Time.{plus}
use Rattle.qc_frame.specs.Frame.{FrameValue}
use Rattle.qc_frame.specs.FrameSpelling.{frames_spelling}
use Rattle.qc_send.specs.Taking.{TakenNow}
use Rattle.qc_state.specs.declared.numbers.Numbers.{Numbers}
use Rattle.qc_state.specs.Moves.{Seal, Take, life_move, move_to, state_move}
use Rattle.qc_state.proofs.Begun.{begun_life}
use Rattle.qc_send.proofs.Begins.{begun_is}
use Rattle.qc_send.proofs.Fits.{now_fits}
use Rattle.qc_send.proofs.Seals.{begun_closing, packet_fits}
use Rattle.qc_send.proofs.Takes.{number_kept, room_kept}
use Rattle.qc_send.specs.Filling.{batch_planned, padded_to, padding_to, size_to}
use Rattle.qc_send.specs.Joining.{FollowIs, IsBegun, IsBelow, IsFull, IsRoomy, JoiningIs, LacksIn, MayTake, is_later, joins_more, least_by}
use Rattle.qc_state.specs.declared.form.Form.{Form}
use Rattle.qc_state.specs.declared.life.Life.{Life}
use Rattle.qc_state.specs.declared.transmit.Batch.{Batch}
use Rattle.qc_state.specs.declared.transmit.TheConstants.{JOINING_SIZE}
use Rattle.qc_state.specs.Acks.{IsLongAck}
use Rattle.qc_state.specs.Datagrams.{first_fits}
use Rattle.qc_state.specs.Forms.{is_one_rtt, number_space}
use Rattle.qc_state.specs.Keys.{form_in}
use Rattle.qc_state.specs.Life.{is_drained, is_open}
use Rattle.qc_state.specs.declared.life.State.{State}
use Rattle.qc_state.specs.Numbers.{next_number}
use Rattle.qc_state.specs.Offers.{datagram_fits}
use Rattle.qc_state.specs.Batches.{batch_grown, is_done, takes_another}
use Rattle.qc_state.specs.Sending.{LacksRoom, MayBegin, begun_after, begun_batch, begun_view, flown_after, fills_up, least_size, owes_in, packet_size, room_in, room_of}
use Rattle.qc_state.specs.Spaces.{is_space, space_of}
use Rattle.qc_state.specs.Types.{Types, Meaning}
use Rattle.qc_state.specs.View.{View, At, at}
use Rattle.qc_send.proofs.Padded.{fills_first, fills_padded, least_near, padded_size_is, padding_is, size_parts}
use Rattle.qc_send.proofs.Sealed.{Leaves, lacks_other, owes_other, packet_leaves}
use Rattle.qc_send.proofs.Sizes.{grown_closed, grown_sized, joins_still, later_below, later_order, later_other, later_padding, left_less, none_joins, order_later}

-- a frame has room in no less of it
le_more : (len m n : ℕ) → m ≤ n → nat_le len n ≡ false → nat_le len m ≡ false
le_more len m n h k = grind (arith, nat_tests)

first_less : (m n : ℕ) (ds : List (List ℕ)) → m ≤ n → first_fits n ds ≡ false → first_fits m ds ≡ false
first_less m n [] h k = refl
first_less m n (d ∷ ds) h k = le_more _ m n h k

-- how far a batch has come, which many things don't ask
pub grown_made : (form : Form) (number size padding : ℕ) (f nearly : Bool) (b : Batch) → (batch_grown form number size padding f nearly b).made ≡ b.made
unfolding batch_grown
grown_made form number size padding f nearly b = refl

pub grown_most : (form : Form) (number size padding : ℕ) (f nearly : Bool) (b : Batch) → (batch_grown form number size padding f nearly b).most ≡ b.most
unfolding batch_grown
grown_most form number size padding f nearly b = refl

module _ {t : Types} where
  -- with less room a space lacks it no less
  lacks_less : (time left less : ℕ) (s : View t) (id : SpaceId) → less ≤ left → LacksIn time left s id → LacksIn time less s id
  unfolding room_of
  lacks_less time left less s id few lacks = record {
    wants = lacks.wants;
    probes = lacks.probes;
    ack = λ owed. long_more (lacks.ack owed);
    datagram = fits_less id lacks.datagram;
  }
    where
      long_more : IsLongAck time (space_of s.waiting.spaces id) (room_of left (begun_view s id false) (form_in s.keys id)) → IsLongAck time (space_of s.waiting.spaces id) (room_of less (begun_view s id false) (form_in s.keys id))
      long_more h = record { ack = h.ack; says = h.says; long = omega (arith, h.long, few) }

      fits_less : (id : SpaceId) → datagram_fits id (room_of left (begun_view s id false) (form_in s.keys id)) s ≡ false → datagram_fits id (room_of less (begun_view s id false) (form_in s.keys id)) s ≡ false
      fits_less Initial h = refl
      fits_less Handshake h = refl
      fits_less Data h = first_less _ _ s.lower.datagrams.outgoing (omega (arith, few)) h

  -- a packet has no more than 6 bytes of PADDING for itself
  pub own_near : (s : View t) (form : Form) (fs : List FrameValue) → (packet_size s form fs ≤ size_to s form 0 fs) × (size_to s form 0 fs ≤ packet_size s form fs + 6) × (16 ≤ packet_size s form fs)
  unfolding packet_size
  own_near s form fs = (omega (arith, size_parts s form 0 fs), omega (arith, size_parts s form 0 fs, least_near s form), omega arith)

  own_less : (s : View t) (form : Form) (least : ℕ) (fs : List FrameValue) → size_to s form 0 fs ≤ size_to s form least fs
  own_less s form least fs = omega (arith, size_parts s form 0 fs, size_parts s form least fs)

  -- what a space owes in a batch that knows of the last packet's space, and of a close
  owes_grown : (s : View t) (id : SpaceId) (form : Form) (number n size padding : ℕ) (f g nearly : Bool) (b : Batch) → owes_in (batch_grown form number size padding g nearly b) s id ≡ owes_in (batch_grown form number n 0 f nearly b) s id
  unfolding owes_in batch_grown
  owes_grown s id form number n size padding f g nearly b = refl

  -- another packet joins
  one_joins : (m : Meaning t) (time : ℕ) (s w : View t) (form : Form) (number n size padding plain : ℕ) (f nearly : Bool) (b : Batch) (id : SpaceId) → IsBegun b (number_space form) → (f ≡ true → is_space (number_space form) Initial ≡ true) →
      b.filled + size ≤ b.capacity → size ≡ n → n ≤ plain + 6 → padding ≡ size - plain → Leaves form number s w → is_drained s.life.state ≡ false → (b.closing ≡ false → is_open s.life.state ≡ true) →
      joins_more (batch_grown form number n 0 f nearly b) ≡ true → is_later (Some (number_space form)) id ≡ true → owes_in (batch_grown form number n 0 f nearly b) s id ≡ true →
      MayTake m time w (batch_grown form number size padding f nearly b) id false
  unfolding batch_grown
  one_joins m time s w form number n size padding plain f nearly b id begun first fits same near pads leaves alive unclosed more later owes =
      let c : Batch = batch_grown form number size padding f nearly b in
      let still = joins_still b form number n size padding f f nearly same more in
      record {
        turn = record {
          alive = ap (λ (l : Life). is_drained l.state) leaves.life ∙ alive;
          unclosed = λ e. ap (λ (l : Life). is_open l.state) leaves.life ∙ unclosed e;
          spare = still.0;
          owed = owes_other c form number s w id leaves later ∙ owes_grown s id form number n size padding f f nearly b ∙ owes;
          order = later_order (number_space form) id later;
          first = λ none. absurd (omega (arith, none, begun.some));
        };
        place = still.1;
        behind = tt;
        roomy = record {
          sized = grown_sized b (number_space form) form number size padding f nearly begun first fits;
          left = left_wide still.1;
          large = λ e. absurd (cc (e, later_other (Some (number_space form)) id later));
          bare = λ e. omega (arith, begun.bare, later_padding (number_space form) id later, pads, same, near);
        };
      }
    where
      left_by : (x y : Bool) (k : ℕ) → (x && (y && nat_le 103 k)) ≡ true → 103 ≤ k
      left_by true true k h = grind (arith, nat_tests)
      left_by true false k h = cc
      left_by false y k h = cc

      left_wide : takes_another (batch_grown form number size padding f nearly b) ≡ true → JOINING_SIZE ≤ b.capacity - plus b.filled size
      left_wide h = left_by (nat_lt 0 b.made) (not (b.short || is_one_rtt form)) (b.capacity - plus b.filled size) h

  -- no packet need join
  none_need : (time : ℕ) (s w : View t) (form : Form) (number n size padding plain : ℕ) (f nearly : Bool) (b : Batch) → IsBegun b (number_space form) → b.filled + size ≤ b.capacity → plain ≤ n → n ≤ plain + 6 → n ≤ size → padding ≡ size - plain → 16 ≤ plain →
      Leaves form number s w → JoiningIs time s (batch_grown form number n 0 f nearly b) None → nearly ≡ false → is_done (batch_grown form number size padding f nearly b) ≡ false →
      (id : SpaceId) → is_later (Some (number_space form)) id ≡ true → (owes_in (batch_grown form number size padding f nearly b) w id ≡ false) ⊎ LacksIn time ((batch_grown form number size padding f nearly b).capacity - (batch_grown form number size padding f nearly b).filled) w id
  unfolding batch_grown
  none_need time s w form number n size padding plain f nearly b begun fits few near more pads wide leaves (inl none) spare done id later =
      absurd (none_joins b (number_space form) form number n size padding plain f f nearly begun fits few near more pads wide none spare done)
  none_need time s w form number n size padding plain f nearly b begun fits few near more pads wide leaves (inr each) spare done id later = by_stay (each id later)
    where
      by_stay : (owes_in (batch_grown form number n 0 f nearly b) s id ≡ false) ⊎ LacksIn time ((batch_grown form number n 0 f nearly b).capacity - (batch_grown form number n 0 f nearly b).filled) s id →
          (owes_in (batch_grown form number size padding f nearly b) w id ≡ false) ⊎ LacksIn time ((batch_grown form number size padding f nearly b).capacity - (batch_grown form number size padding f nearly b).filled) w id
      by_stay (inl none) = inl (owes_other (batch_grown form number size padding f nearly b) form number s w id leaves later ∙ owes_grown s id form number n size padding f f nearly b ∙ none)
      by_stay (inr lacks) = inr (lacks_less time _ _ w id (left_less b form number n size padding f f nearly more) (lacks_other time _ form number s w id leaves later lacks))

  -- so the datagram is full
  full_by : (time : ℕ) (s w : View t) (form : Form) (number n size padding least plain asked : ℕ) (f nearly : Bool) (b : Batch) → IsBegun b (number_space form) → (f ≡ true → is_space (number_space form) Initial ≡ true) → b.filled + size ≤ b.capacity →
      plain ≤ n → n ≤ plain + 6 → n ≤ size → padding ≡ size - plain → 16 ≤ plain → size ≡ max (max least asked) plain → asked ≡ least_by None (batch_grown form number n 0 f nearly b) b.filled → Leaves form number s w →
      is_drained s.life.state ≡ false → (b.closing ≡ false → is_open s.life.state ≡ true) → JoiningIs time s (batch_grown form number n 0 f nearly b) None → IsFull time w (batch_grown form number size padding f nearly b)
  unfolding batch_grown room_in
  full_by time s w form number n size padding least plain asked f nearly b begun first fits few near more pads wide is is_asked leaves alive unclosed joining = record {
    ended = record {
      some = begun.some;
      filled = grown_closed b (number_space form) form number n size padding least plain f nearly begun fits (is ∙ ap (λ (x : ℕ). max (max least x) plain) is_asked);
      none = λ one free spare done id order other. by_lacks id (none_need time s w form number n size padding plain f nearly b begun fits few near more pads wide leaves joining spare done id (order_later (number_space form) id order other));
    };
    alive = ap (λ (l : Life). is_drained l.state) leaves.life ∙ alive;
    unclosed = λ e. ap (λ (l : Life). is_open l.state) leaves.life ∙ unclosed e;
    sized = grown_sized b (number_space form) form number size padding f nearly begun first fits;
  }
    where
      by_lacks : (id : SpaceId) → (owes_in (batch_grown form number size padding f nearly b) w id ≡ false) ⊎ LacksIn time ((batch_grown form number size padding f nearly b).capacity - (batch_grown form number size padding f nearly b).filled) w id →
          (owes_in (batch_grown form number size padding f nearly b) w id ≡ false) ⊎ LacksRoom time (batch_grown form number size padding f nearly b) w id
      by_lacks id (inl none) = inl none
      by_lacks id (inr lacks) = inr (record { wants = lacks.wants; probes = lacks.probes; ack = lacks.ack; datagram = lacks.datagram })

  -- taking frames leaves how far the connection has come
  taken_life : (s : View t) (id : SpaceId) (fs : List FrameValue) → (state_move (Take id fs) s).life.state ≡ s.life.state
  unfolding state_move life_move
  taken_life s id fs = refl

  -- so does all that comes before a packet is sealed
  life_before : (opens : Bool) (id : SpaceId) (a : At t) (e mid : View t) (fs : List FrameValue) → at e a.did ≡ begun_after id opens a → mid ≡ state_move (Take id fs) e → mid.life.state ≡ a.state.life.state
  life_before opens id a e mid fs begun is_mid =
      ap (λ (x : View t). x.life.state) is_mid ∙ taken_life e id fs ∙ ap (λ (x : At t). x.state.life.state) begun ∙ ap (λ (l : Life). l.state) (begun_life id opens a)

  -- by what was thought to follow
  follow_by : (m : Meaning t) (time : ℕ) (s w : View t) (form : Form) (nearly : Bool) (size padding least : ℕ) (fs : List FrameValue) (b : Batch) (next : Option SpaceId) → IsBegun b (number_space form) → b.filled + size ≤ b.capacity →
      size ≡ size_to s form least fs → padding ≡ size - packet_size s form fs → Leaves form (next_number s.numbers (number_space form)) s w → is_drained s.life.state ≡ false → (b.closing ≡ false → is_open s.life.state ≡ true) →
      JoiningIs time s (batch_planned s form nearly fs b) next → least ≡ least_by next (batch_planned s form nearly fs b) b.filled →
      FollowIs m time w (batch_grown form (next_number s.numbers (number_space form)) size padding (fills_up s form fs) nearly b) next × IsBelow (number_space form) next
  unfolding batch_planned batch_grown
  follow_by m time s w form nearly size padding least fs b (Some id) begun fits is_size is_padding leaves alive unclosed joining is_least = (
    one_joins m time s w form (next_number s.numbers (number_space form)) (size_to s form 0 fs) size padding (packet_size s form fs) (fills_up s form fs) nearly b id begun (fills_first s form fs) fits
        (is_size ∙ ap (λ (n : ℕ). size_to s form n fs) is_least) (own_near s form fs).1 is_padding leaves alive unclosed joining.0 joining.1 joining.2,
    later_below (number_space form) id joining.1,
  )
  follow_by m time s w form nearly size padding least fs b None begun fits is_size is_padding leaves alive unclosed joining is_least = (
    full_by time s w form (next_number s.numbers (number_space form)) (size_to s form 0 fs) size padding (least_size s form) (packet_size s form fs) least (fills_up s form fs) nearly b begun (fills_first s form fs) fits
        (own_near s form fs).0 (own_near s form fs).1 (subst (λ (n : ℕ). size_to s form 0 fs ≤ n) (sym is_size) (own_less s form least fs)) is_padding (own_near s form fs).2 (is_size ∙ size_parts s form least fs) is_least
        leaves alive unclosed joining,
    tt,
  )

  -- from what the calls say
  pub follows_taken : (opens first nearly fills counts : Bool) (m : Meaning t) (time : ℕ) (form : Form) (a : At t) (e mid : View t) (b f : At t) (before c batch : Batch) (next : Option SpaceId) (left room least number size padding : ℕ) (fs : List FrameValue) →
      MayBegin m time a.state before form opens → IsRoomy before (number_space form) opens → at e a.did ≡ begun_after (number_space form) opens a → c ≡ begun_batch a.state (number_space form) opens before →
      left ≡ c.capacity - c.filled → room ≡ room_of left e form → 25 ≤ room → number ≡ next_number e.numbers (number_space form) → TakenNow m.token c.closing first time e (number_space form) room fs → mid ≡ state_move (Take (number_space form) fs) e →
      JoiningIs time mid (batch_planned mid form nearly fs c) next → least ≡ least_by next (batch_planned mid form nearly fs c) c.filled →
      b ≡ move_to (Seal time form (next_number mid.numbers (number_space form)) (packet_size mid form (padded_to mid form least fs)) (padded_to mid form least fs)) (at mid a.did) →
      size ≡ packet_size mid form (padded_to mid form least fs) → padding ≡ padding_to mid form least fs → fills ≡ fills_up mid form (padded_to mid form least fs) →
      f ≡ flown_after m time size counts b → batch ≡ batch_grown form number size padding fills nearly c →
      FollowIs m time f.state batch next × IsBelow (number_space form) next
  follows_taken opens first nearly fills counts m time form a e mid b f before c batch next left room least number size padding fs may roomy begun is_c is_left is_room wide is_number taken is_mid joining is_least is_b is_size is_padding is_fills is_f is_batch =
      let id : SpaceId = number_space form in
      let sizes : IsBegun c id = begun_is opens m time a.state before c form may roomy is_c in
      let room_m : room ≡ room_of (c.capacity - c.filled) mid form =
      is_room ∙ ap (λ (n : ℕ). room_of n e form) is_left ∙ sym (room_kept (c.capacity - c.filled) e form fs) ∙ ap (λ (v : View t). room_of (c.capacity - c.filled) v form) (sym is_mid) in
      let fit : length (frames_spelling fs) ≤ room_of (c.capacity - c.filled) mid form = subst (λ (n : ℕ). length (frames_spelling fs) ≤ n) room_m (now_fits c.closing first time e id room fs taken wide) in
      let whole : size ≡ size_to mid form least fs = is_size ∙ padded_size_is mid form least fs in
      let fits : c.filled + size ≤ c.capacity =
      subst (λ (n : ℕ). c.filled + n ≤ c.capacity) (sym is_size) (packet_fits next c mid form nearly least fs sizes (subst (λ (n : ℕ). 25 ≤ n) room_m wide) fit is_least) in
      let life : mid.life.state ≡ a.state.life.state = life_before opens id a e mid fs begun is_mid in
      let number_m : number ≡ next_number mid.numbers id = is_number ∙ ap (λ (v : Numbers). next_number v id) (sym (ap (λ (x : View t). x.numbers) is_mid ∙ number_kept e form fs)) in
      let grown : batch ≡ batch_grown form (next_number mid.numbers id) size padding (fills_up mid form fs) nearly c =
      is_batch ∙ (λ i. batch_grown form (number_m i) size padding ((is_fills ∙ fills_padded mid form least fs) i) nearly c) in
      let follow = follow_by m time mid f.state form nearly size padding least fs c next sizes fits whole (omega (arith, is_padding, padding_is mid form least fs, whole))
      (packet_leaves m time (packet_size mid form (padded_to mid form least fs)) size counts form (next_number mid.numbers id) (padded_to mid form least fs) mid a.did b f is_b is_f)
      (ap (λ (x : State). is_drained x) life ∙ may.turn.alive) (λ e. ap (λ (x : State). is_open x) life ∙ may.turn.unclosed (sym (begun_closing a.state id opens before c is_c) ∙ e)) joining is_least in
      (subst (λ (x : Batch). FollowIs m time f.state x next) (sym grown) follow.0, follow.1)
