-- Where a packet may begin: its number, its keys and its room are those that sealing asks for.
use Rattle.std.proofs.Common.{◌≡◌, ℕ, ◌+◌, ◌-◌, ◌≤◌, List, [], length, refl, ap, sym, ◌∙◌, subst, Bool, true, false, ◌&&◌, ◌||◌, if◌then◌else◌, nat_le, nat_lt, ◌<◌, ◌^◌, arith}
use Rattle.std.proofs.lemmas.Bool.Decides.{nat_tests}
use Rattle.qc_base.specs.declared.side.SpaceId.{SpaceId}
use Rattle.qc_base.specs.declared.side.SpaceId.TheVariants.{Initial, Handshake, «Data»}
use Rattle.qc_frame.specs.Frame.{FrameValue}
use Rattle.qc_header.specs.declared.header.Header.{Header}
use Rattle.qc_header.specs.HeaderSpelling.{header_spelling}
use Rattle.qc_state.specs.declared.form.Form.{Form}
use Rattle.qc_state.specs.declared.form.Form.TheVariants as form
use Rattle.qc_state.specs.declared.transmit.Batch.{Batch}
use Rattle.qc_state.specs.declared.transmit.TheConstants.{JOINING_SIZE}
use Rattle.qc_send.specs.Joining.{IsBegun, IsRoomy}
use Rattle.qc_send.proofs.Sizes.{begun_room}
use Rattle.qc_state.proofs.Batches.{joins_some}
use Rattle.qc_state.specs.declared.keys.KeyGroup.{KeyGroup}
use Rattle.qc_state.specs.Forms.{number_space}
use Rattle.qc_state.specs.Keys.{has_keys_for, reaches_limit, usage_of}
use Rattle.qc_state.specs.Moves.{Begin, Skip, Take, state_move, move_to, numbers_move, keys_move, paths_move, setup_move, deeds_move}
use Rattle.qc_state.specs.Numbers.{next_number, acked_number, coming_number, is_skipped, number_skipped, used_in}
use Rattle.qc_state.specs.declared.numbers.Numbers.{Numbers}
use Rattle.qc_state.specs.Batches.{batch_opened}
use Rattle.qc_state.specs.Sending.{is_past_limit, is_used_up, is_key_used_up, is_token_too_long, header_in, room_of, skipped_after, begun_after, begun_batch, MayBegin, MayStand}
use Rattle.qc_state.specs.Setup.{packet_drawn}
use Rattle.qc_state.specs.Spaces.{is_space}
use Rattle.qc_state.specs.Types.{Types, Meaning}
use Rattle.qc_state.specs.View.{View, At, at}
use Rattle.qc_state.proofs.Transmitted.{begins_keyed, unlimited}
use Rattle.qc_send.proofs.Takes.{number_kept}

-- of two tests of which none holds the first doesn't hold
neither_left : (a b : Bool) → (a || b) ≡ false → a ≡ false
neither_left true b h = cc
neither_left false b h = refl

-- and the second doesn't
neither_right : (a b : Bool) → (a || b) ≡ false → b ≡ false
neither_right true b h = cc
neither_right false b h = h

-- a number within the limit is below the greatest
pub number_low : (number acked : ℕ) → is_past_limit number acked ≡ false → number < 2 ^ 62 - 1
number_low number acked h =
    let below : nat_le (2 ^ 62 - 1) number ≡ false = neither_left (nat_le (2 ^ 62 - 1) number) (nat_le (2 ^ 31) (number - acked)) h in
    grind (arith, nat_tests)

-- and near the greatest acknowledged one
pub number_near : (number acked : ℕ) → is_past_limit number acked ≡ false → number - acked < 2 ^ 31
number_near number acked h =
    let below : nat_le (2 ^ 31) (number - acked) ≡ false = neither_right (nat_le (2 ^ 62 - 1) number) (nat_le (2 ^ 31) (number - acked)) h in
    grind (arith, nat_tests)

module _ {t : Types} where
  -- a number is skipped, or isn't, with no deed
  skip_at : (a : At t) (b : Bool) → (if b then move_to Skip a else a) ≡ at (if b then move_to Skip (at a.state []) else at a.state []).state a.did
  unfolding move_to deeds_move
  skip_at a true = refl
  skip_at a false = refl

  -- a datagram is begun with no deed
  pub begun_at : (opens : Bool) (id : SpaceId) (a : At t) → begun_after id opens a ≡ at (begun_after id opens (at a.state [])).state a.did
  unfolding begun_after skipped_after move_to deeds_move
  begun_at opens id a = ap (λ (x : At t). at (state_move (Begin id opens) x.state) x.did) (skip_at a (is_skipped a.state.numbers id))

  -- a skipped number leaves the keys
  skip_keys : (a : At t) (b : Bool) → (if b then move_to Skip a else a).state.keys ≡ a.state.keys
  unfolding move_to state_move keys_move
  skip_keys a true = refl
  skip_keys a false = refl

  -- the view once a datagram is begun, of the answer of the call that begins it
  pub begun_state : (opens : Bool) (a : At t) (e : View t) (space : SpaceId) → at e a.did ≡ begun_after space opens a → e ≡ (begun_after space opens (at a.state [])).state
  begun_state opens a e space is = ap (λ (x : At t). x.state) (is ∙ begun_at opens space a)

  -- there is room for 25 bytes in an Initial packet, where its token isn't too long, and so there is in the others
  initial_header : (opens : Bool) (s : View t) → header_in (begun_after Initial opens (at s [])).state form.Initial ≡ header_in s form.Initial
  unfolding begun_after skipped_after is_skipped move_to state_move numbers_move paths_move setup_move packet_drawn
  initial_header opens s = refl

  initial_wide : (opens : Bool) (least left : ℕ) (s : View t) → least ≤ left → nat_lt (room_of least s form.Initial) 25 ≡ false → 25 ≤ room_of left (begun_after Initial opens (at s [])).state form.Initial
  unfolding room_of
  initial_wide opens least left s large long = subst (λ (x : Header). 25 ≤ left - 16 - length (header_spelling x 0)) (sym (initial_header opens s)) (grind (arith, nat_tests))

  wide_by : (opens : Bool) (least left : ℕ) (s : View t) (f : Form) → (is_space (number_space f) Initial ≡ true → least ≤ left) → (is_space (number_space f) Initial && nat_lt (room_of least s form.Initial) 25) ≡ false →
      (is_space (number_space f) Initial ≡ false → 25 ≤ room_of left (begun_after (number_space f) opens (at s [])).state f) → 25 ≤ room_of left (begun_after (number_space f) opens (at s [])).state f
  wide_by opens least left s form.Initial large long others = initial_wide opens least left s (large refl) long
  wide_by opens least left s form.Handshake large long others = others refl
  wide_by opens least left s form.Early large long others = others refl
  wide_by opens least left s form.OneRtt large long others = others refl

  -- what a packet finds that was begun, in numbers
  pub begun_is : (opens : Bool) (m : Meaning t) (time : ℕ) (s : View t) (batch b : Batch) (form : Form) → MayBegin m time s batch form opens → IsRoomy batch (number_space form) opens → b ≡ begun_batch s (number_space form) opens batch → IsBegun b (number_space form)
  unfolding begun_batch
  begun_is opens m time s batch b form may roomy is =
      subst (λ (x : Batch). IsBegun x (number_space form)) (sym is) (begun_room batch (number_space form) opens _ roomy (joined opens may.place))
    where
      joined : (o : Bool) → MayStand m time s batch (number_space form) o → o ≡ false → 0 < batch.made
      joined true place e = cc
      joined false place e = joins_some batch place

  -- datagrams are filled up as they were
  begun_least : (s : View t) (id : SpaceId) (opens : Bool) (b : Batch) → (begun_batch s id opens b).least ≡ b.least
  unfolding begun_batch batch_opened
  begun_least s id true b = refl
  begun_least s id false b = refl

  -- there is room for a close in it
  pub loud_wide : (opens : Bool) (m : Meaning t) (time left room : ℕ) (batch b : Batch) (a : At t) (e : View t) (form : Form) → MayBegin m time a.state batch form opens → IsRoomy batch (number_space form) opens →
      at e a.did ≡ begun_after (number_space form) opens a → b ≡ begun_batch a.state (number_space form) opens batch → left ≡ b.capacity - b.filled → room ≡ room_of left e form →
      (is_space (number_space form) Initial ≡ false → JOINING_SIZE ≤ left → 25 ≤ room) → 25 ≤ room
  unfolding is_token_too_long
  loud_wide opens m time left room batch b a e form may roomy begun is_b is_left is_room others =
      let is_e : e ≡ (begun_after (number_space form) opens (at a.state [])).state = begun_state opens a e (number_space form) begun in
      let sizes : IsBegun b (number_space form) = begun_is opens m time a.state batch b form may roomy is_b in
      let same_least : b.least ≡ batch.least = ap (λ (x : Batch). x.least) is_b ∙ begun_least a.state (number_space form) opens batch in
      let same : room ≡ room_of left (begun_after (number_space form) opens (at a.state [])).state form = is_room ∙ ap (λ (v : View t). room_of left v form) is_e in
      subst (λ (n : ℕ). 25 ≤ n) (sym same)
      (wide_by opens batch.least left a.state form (λ first. omega (arith, is_left, same_least, sizes.large first)) (unlimited batch a.state form may.fresh).2
      (λ other. subst (λ (n : ℕ). 25 ≤ n) same (others other (subst (λ (n : ℕ). JOINING_SIZE ≤ n) (sym is_left) sizes.left))))

  -- once a datagram is begun, the next number is the one that was to come
  skip_number : (id : SpaceId) (a : At t) (b : Bool) → is_skipped a.state.numbers id ≡ b → next_number (if b then move_to Skip a else a).state.numbers id ≡ (if b then next_number a.state.numbers id + 1 else next_number a.state.numbers id)
  unfolding is_skipped move_to state_move numbers_move number_skipped used_in next_number
  skip_number Initial a true e = cc
  skip_number Handshake a true e = cc
  skip_number Data a true e = refl
  skip_number id a false e = refl

  pub begun_number : (opens : Bool) (s : View t) (id : SpaceId) → next_number (begun_after id opens (at s [])).state.numbers id ≡ coming_number s.numbers id
  unfolding begun_after skipped_after coming_number move_to state_move numbers_move deeds_move
  begun_number opens s id = skip_number id (at s []) (is_skipped s.numbers id) refl

  -- and no packet is acknowledged no longer
  skip_acked : (id : SpaceId) (a : At t) (b : Bool) → is_skipped a.state.numbers id ≡ b → acked_number a.state.numbers id ≤ acked_number (if b then move_to Skip a else a).state.numbers id
  unfolding is_skipped move_to state_move numbers_move number_skipped used_in next_number acked_number
  skip_acked Initial a true e = cc
  skip_acked Handshake a true e = cc
  skip_acked Data a true e = omega arith
  skip_acked id a false e = omega arith

  pub begun_acked : (opens : Bool) (s : View t) (id : SpaceId) → acked_number s.numbers id ≤ acked_number (begun_after id opens (at s [])).state.numbers id
  unfolding begun_after skipped_after move_to state_move numbers_move deeds_move
  begun_acked opens s id = skip_acked id (at s []) (is_skipped s.numbers id) refl

  -- where a packet may be sealed, its number is near the greatest acknowledged one once a datagram is begun for it
  loud_near_begun : (opens : Bool) (m : Meaning t) (time : ℕ) (batch : Batch) (a : At t) (e : View t) (form : Form) → MayBegin m time a.state batch form opens → at e a.did ≡ begun_after (number_space form) opens a → next_number e.numbers (number_space form) - acked_number e.numbers (number_space form) < 2 ^ 31
  unfolding is_used_up
  loud_near_begun opens m time batch a e form may begun =
      let s : View t = a.state in
      let near : coming_number s.numbers (number_space form) - acked_number s.numbers (number_space form) < 2 ^ 31 = number_near (coming_number s.numbers (number_space form)) (acked_number s.numbers (number_space form)) (unlimited batch s form may.fresh).1 in
      subst (λ (v : View t). next_number v.numbers (number_space form) - acked_number v.numbers (number_space form) < 2 ^ 31) (sym (begun_state opens a e (number_space form) begun)) (omega (arith, near, begun_number opens s (number_space form), begun_acked opens s (number_space form)))

  -- so it is once frames were taken
  pub loud_near : (opens : Bool) (m : Meaning t) (time : ℕ) (batch : Batch) (a : At t) (e mid : View t) (form : Form) (fs : List FrameValue) → MayBegin m time a.state batch form opens → at e a.did ≡ begun_after (number_space form) opens a → mid ≡ state_move (Take (number_space form) fs) e →
      next_number mid.numbers (number_space form) - acked_number mid.numbers (number_space form) < 2 ^ 31
  loud_near opens m time batch a e mid form fs may begun is_mid =
      subst (λ (v : Numbers). next_number v (number_space form) - acked_number v (number_space form) < 2 ^ 31) (sym (ap (λ (x : View t). x.numbers) is_mid ∙ number_kept e form fs)) (loud_near_begun opens m time batch a e form may begun)

  -- and it is below the greatest of all
  pub loud_low : (opens : Bool) (m : Meaning t) (time : ℕ) (batch : Batch) (a : At t) (e mid : View t) (form : Form) (fs : List FrameValue) → MayBegin m time a.state batch form opens → at e a.did ≡ begun_after (number_space form) opens a → mid ≡ state_move (Take (number_space form) fs) e →
      next_number mid.numbers (number_space form) < 2 ^ 62 - 1
  unfolding is_used_up
  loud_low opens m time batch a e mid form fs may begun is_mid =
      let s : View t = a.state in
      let low : coming_number s.numbers (number_space form) < 2 ^ 62 - 1 = number_low (coming_number s.numbers (number_space form)) (acked_number s.numbers (number_space form)) (unlimited batch s form may.fresh).1 in
      let same : next_number mid.numbers (number_space form) ≡ coming_number s.numbers (number_space form) =
      ap (λ (v : Numbers). next_number v (number_space form)) (ap (λ (x : View t). x.numbers) is_mid ∙ number_kept e form fs) ∙ ap (λ (v : View t). next_number v.numbers (number_space form)) (begun_state opens a e (number_space form) begun) ∙ begun_number opens s (number_space form) in
      subst (λ (n : ℕ). n < 2 ^ 62 - 1) (sym same) low

  -- taking frames leaves the keys, and so does a datagram that is begun
  taken_keys : (e : View t) (space : SpaceId) (fs : List FrameValue) → (state_move (Take space fs) e).keys ≡ e.keys
  unfolding state_move keys_move
  taken_keys e space fs = refl

  begun_keys : (opens : Bool) (s : View t) (id : SpaceId) → (begun_after id opens (at s [])).state.keys ≡ s.keys
  unfolding begun_after skipped_after move_to state_move keys_move numbers_move deeds_move
  begun_keys opens s id = skip_keys (at s []) (is_skipped s.numbers id)

  same_keys : (opens : Bool) (a : At t) (e mid : View t) (space : SpaceId) (fs : List FrameValue) → at e a.did ≡ begun_after space opens a → mid ≡ state_move (Take space fs) e → mid.keys ≡ a.state.keys
  same_keys opens a e mid space fs begun is_mid =
      ap (λ (x : View t). x.keys) is_mid ∙ taken_keys e space fs ∙ ap (λ (x : View t). x.keys) (begun_state opens a e space begun) ∙ begun_keys opens a.state space

  -- and there are keys for it
  pub loud_keyed : (opens : Bool) (m : Meaning t) (time : ℕ) (batch : Batch) (a : At t) (e mid : View t) (form : Form) (fs : List FrameValue) → MayBegin m time a.state batch form opens → at e a.did ≡ begun_after (number_space form) opens a → mid ≡ state_move (Take (number_space form) fs) e →
      has_keys_for mid.keys form ≡ true
  loud_keyed opens m time batch a e mid form fs may begun is_mid =
      ap (λ (k : KeyGroup t.H t.P). has_keys_for k form) (same_keys opens a e mid (number_space form) fs begun is_mid) ∙ begins_keyed m time a.state batch form opens may

  -- of which its key may seal one packet more
  pub loud_fresh : (opens : Bool) (m : Meaning t) (time : ℕ) (batch : Batch) (a : At t) (e mid : View t) (form : Form) (fs : List FrameValue) → MayBegin m time a.state batch form opens → at e a.did ≡ begun_after (number_space form) opens a → mid ≡ state_move (Take (number_space form) fs) e →
      reaches_limit 0 (usage_of mid.keys form) ≡ false
  unfolding is_key_used_up
  loud_fresh opens m time batch a e mid form fs may begun is_mid =
      ap (λ (k : KeyGroup t.H t.P). reaches_limit 0 (usage_of k form)) (same_keys opens a e mid (number_space form) fs begun is_mid) ∙ (unlimited batch a.state form may.fresh).0
