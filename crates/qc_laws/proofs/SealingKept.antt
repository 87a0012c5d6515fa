-- What sealing reads of a view stays over the packets of a transmit: the keys and their epoch, the ids, what was acknowledged, and how long the CRYPTO
-- streams are.
use Rattle.std.proofs.Common.{◌≡◌, ℕ, ◌-◌, List, ◌∷◌, [], refl, ap, ◌∙◌, Bool, true, false, Option, Some, None, inl, inr, sym, subst, if◌then◌else◌}
use Rattle.std.specs.List.{list_any}
use Rattle.std.specs.Option.{option_map}
use Rattle.qc_base.specs.declared.side.SpaceId.{SpaceId}
use Rattle.qc_base.specs.declared.side.SpaceId.TheVariants.{Initial, Handshake, «Data»}
use Rattle.qc_frame.specs.Frame.{FrameValue}
use Rattle.qc_rings.specs.Keyed.{keyed_sealed, keyed_in, keyed_updated}
use Rattle.qc_rings.specs.Ring.{after_sealed, after_update, is_dropped, may_update}
use Rattle.qc_send_stream.specs.Buffer.{Buffer}
use Rattle.qc_state.specs.declared.deeds.Quiet.{Quiet}
use Rattle.qc_state.specs.declared.deeds.Quiet.TheVariants.{NothingOwed, Silent, Amplification, Congestion, Pacing, Killed}
use Rattle.qc_state.specs.declared.form.Form.{Form}
use Rattle.qc_state.specs.declared.form.Form.TheVariants as form
use Rattle.qc_state.specs.declared.keys.KeyGroup.{KeyGroup}
use Rattle.qc_state.specs.declared.keys.OneRttKeys.{OneRttKeys}
use Rattle.qc_state.specs.declared.keys.SpaceKeys.{SpaceKeys}
use Rattle.qc_state.specs.declared.numbers.Numbers.{Numbers}
use Rattle.qc_state.specs.declared.spaces.Spaces.{Spaces}
use Rattle.qc_state.specs.declared.waiting.SpaceWaiting.{SpaceWaiting}
use Rattle.qc_state.specs.declared.transmit.Batch.{Batch}
use Rattle.qc_state.specs.declared.waiting.Waiting.{Waiting}
use Rattle.qc_state.specs.Acks.{is_ack}
use Rattle.qc_state.specs.Draws.{word}
use Rattle.qc_state.specs.Forms.{number_space}
use Rattle.qc_state.specs.Keys.{count_one, epoch_in, epoch_with, header_key, key_used, packet_key, ring_used, key_updated, ring_may_update, ring_updated}
use Rattle.qc_state.specs.Moves.{Arm, Ask, Begin, Move, Seal, Skip, Spend, Take, keys_move, move_to, numbers_move, paths_move, setup_move, state_move, waiting_move, MayMove, Update, life_move}
use Rattle.qc_state.specs.Numbers.{next_number, number_skipped, number_used, used_in}
use Rattle.qc_state.specs.Offers.{packet_begun}
use Rattle.qc_state.specs.Paths.{path_kept}
use Rattle.qc_state.specs.Sending.{Going, MayAll, MayFollow, Sent, begun_after, held_after, packet_after, packet_size, packets_after, probe_begun_after, going_tried}
use Rattle.qc_state.specs.Setup.{packet_drawn, word_drawn}
use Rattle.qc_state.specs.Spaces.{space_of}
use Rattle.qc_state.specs.Types.{Types, Meaning}
use Rattle.qc_state.specs.View.{View, At}
use Rattle.qc_state.specs.Waiting.{bundle_next, frames_again, packet_told, ping_asked, probe_spent, waiting_without}
use Rattle.qc_state.proofs.Begun.{holds_begun}
use Rattle.qc_state.proofs.Probed.{begun_holds}
use Rattle.qc_state.proofs.Transmitted.{IsBeginning, holds_packet}
use Rattle.qc_laws.proofs.CryptoBuffers.{all_stays}
use Rattle.qc_laws.proofs.CryptoPlaces.{bundled_spaces, put_again, put_crypto}
use Rattle.std.specs.Prelude.{◌&&◌}
use Rattle.qc_base.specs.Time.{plus}
use Rattle.qc_state.specs.declared.keys.Fresh.{Fresh}
use Rattle.qc_state.specs.Life.{is_established}
use Rattle.qc_state.specs.Updating.{may_update_now, tried_after}
use Rattle.qc_laws.specs.SealLaws.{IsKeyIn, next_key}
use Rattle.qc_state.proofs.Tried.{holds_tried}

-- ---- keys

module _ {H P : Type 0} where
  one_mask : (o : Option (SpaceKeys H P)) → option_map (λ (k : SpaceKeys H P). k.keys.header.local) (count_one o) ≡ option_map (λ (k : SpaceKeys H P). k.keys.header.local) o
  unfolding count_one
  one_mask None = refl
  one_mask (Some k) = refl

  one_sealer : (o : Option (SpaceKeys H P)) → option_map (λ (k : SpaceKeys H P). k.keys.packet.local) (count_one o) ≡ option_map (λ (k : SpaceKeys H P). k.keys.packet.local) o
  unfolding count_one
  one_sealer None = refl
  one_sealer (Some k) = refl

  ring_mask : (n : ℕ) (o : Option (OneRttKeys H P)) → option_map (λ (k : OneRttKeys H P). k.header.local) (ring_used n o) ≡ option_map (λ (k : OneRttKeys H P). k.header.local) o
  unfolding ring_used
  ring_mask n None = refl
  ring_mask n (Some k) = refl

  ring_sealer : (n : ℕ) (o : Option (OneRttKeys H P)) → option_map (λ (k : OneRttKeys H P). k.ring.current.local) (ring_used n o) ≡ option_map (λ (k : OneRttKeys H P). k.ring.current.local) o
  unfolding ring_used keyed_sealed
  ring_sealer n None = refl
  ring_sealer n (Some k) = refl

  ring_next : (n : ℕ) (o : Option (OneRttKeys H P)) → option_map (λ (k : OneRttKeys H P). k.ring.next.local) (ring_used n o) ≡ option_map (λ (k : OneRttKeys H P). k.ring.next.local) o
  unfolding ring_used keyed_sealed
  ring_next n None = refl
  ring_next n (Some k) = refl

  ring_may : (n : ℕ) (o : Option (OneRttKeys H P)) → ring_may_update (ring_used n o) ≡ ring_may_update o
  unfolding ring_used keyed_sealed after_sealed may_update
  ring_may n None = refl
  ring_may n (Some k) = refl

  ring_epoch : (n : ℕ) (o : Option (OneRttKeys H P)) → epoch_with (ring_used n o) ≡ epoch_with o
  unfolding ring_used keyed_sealed after_sealed
  ring_epoch n None = refl
  ring_epoch n (Some k) = refl

  used_mask : (v : KeyGroup H P) (f : Form) (n : ℕ) (g : Form) → header_key (key_used v f n) g ≡ header_key v g
  unfolding key_used header_key
  used_mask v form.Initial n form.Initial = one_mask v.initial
  used_mask v form.Handshake n form.Handshake = one_mask v.handshake
  used_mask v form.OneRtt n form.OneRtt = ring_mask n v.«data»
  used_mask v _ n _ = refl

  used_sealer : (v : KeyGroup H P) (f : Form) (n : ℕ) (g : Form) → packet_key (key_used v f n) g ≡ packet_key v g
  unfolding key_used packet_key
  used_sealer v form.Initial n form.Initial = one_sealer v.initial
  used_sealer v form.Handshake n form.Handshake = one_sealer v.handshake
  used_sealer v form.OneRtt n form.OneRtt = ring_sealer n v.«data»
  used_sealer v _ n _ = refl

  pub used_epoch : (v : KeyGroup H P) (f : Form) (n : ℕ) (g : Form) → epoch_in (key_used v f n) g ≡ epoch_in v g
  unfolding key_used epoch_in
  used_epoch v form.OneRtt n form.OneRtt = ring_epoch n v.«data»
  used_epoch v _ n _ = refl

  used_next : (v : KeyGroup H P) (f : Form) (n : ℕ) → option_map (λ (k : OneRttKeys H P). k.ring.next.local) (key_used v f n).«data» ≡ option_map (λ (k : OneRttKeys H P). k.ring.next.local) v.«data»
  unfolding key_used
  used_next v form.Initial n = refl
  used_next v form.Handshake n = refl
  used_next v form.Early n = refl
  used_next v form.OneRtt n = ring_next n v.«data»

  used_may : (v : KeyGroup H P) (f : Form) (n : ℕ) → ring_may_update (key_used v f n).«data» ≡ ring_may_update v.«data»
  unfolding key_used
  used_may v form.Initial n = refl
  used_may v form.Handshake n = refl
  used_may v form.Early n = refl
  used_may v form.OneRtt n = ring_may n v.«data»

-- ---- numbers, and what waits

used_acked : (v : Numbers) (space : SpaceId) (n : ℕ) (id : SpaceId) → (space_of (number_used v space n).spaces id).largest_acked ≡ (space_of v.spaces id).largest_acked
unfolding number_used used_in
used_acked v Initial n Initial = refl
used_acked v Handshake n Handshake = refl
used_acked v Data n Data = refl
used_acked v _ n _ = refl

skipped_acked : (v : Numbers) (word : ℕ) (id : SpaceId) → (space_of (number_skipped v word).spaces id).largest_acked ≡ (space_of v.spaces id).largest_acked
unfolding number_skipped used_in
skipped_acked v word Initial = refl
skipped_acked v word Handshake = refl
skipped_acked v word Data = refl

taken_written : (v : Waiting) (space : SpaceId) (fs : List FrameValue) (id : SpaceId) → (space_of (waiting_without v space fs).spaces id).crypto.written ≡ (space_of v.spaces id).crypto.written
unfolding waiting_without
taken_written v Initial fs Initial = (all_stays v.spaces.initial fs).written
taken_written v Handshake fs Handshake = (all_stays v.spaces.handshake fs).written
taken_written v Data fs Data = (all_stays v.spaces.application fs).written
taken_written v _ fs _ = refl

told_written : (v : Waiting) (last : Bool) (fs : List FrameValue) (next : ℕ) (id : SpaceId) → (space_of (bundle_next (packet_told v last) fs next).spaces id).crypto.written ≡ (space_of v.spaces id).crypto.written
unfolding bundle_next packet_told
told_written v last fs next id = ap (λ (w : Spaces SpaceWaiting). (space_of w id).crypto.written) (bundled_spaces _ next (list_any is_ack fs))

module _ {t : Types} where
  begun_written : (space : SpaceId) (opens : Bool) (s : View t) (id : SpaceId) → (space_of (packet_begun space opens s).waiting.spaces id).crypto.written ≡ (space_of s.waiting.spaces id).crypto.written
  unfolding probe_spent frames_again ping_asked
  begun_written space opens s id =
      begun_holds (λ (v : Waiting). (space_of v.spaces id).crypto.written ≡ (space_of s.waiting.spaces id).crypto.written)
      (λ w other h. ap (λ (b : Buffer). b.written) (put_crypto id other w.spaces (record (space_of w.spaces other) { probes = (space_of w.spaces other).probes - 1 }) refl) ∙ h)
      (λ w other fs h. (put_again id other w.spaces fs).written ∙ h)
      (λ w other h. ap (λ (b : Buffer). b.written) (put_crypto id other w.spaces (record (space_of w.spaces other) { ping = true }) refl) ∙ h)
      space opens s refl

  -- ---- views

  -- what sealing reads of one is what it reads of the other, but for the numbers, and what was drawn
  pub record SealsAlike (s v : View t) : Type 0 where
    pub masks : (f : Form) → header_key v.keys f ≡ header_key s.keys f
    pub sealers : (f : Form) → packet_key v.keys f ≡ packet_key s.keys f
    pub epochs : (f : Form) → epoch_in v.keys f ≡ epoch_in s.keys f
    pub nexts : next_key v ≡ next_key s
    pub may : may_update_now v ≡ may_update_now s
    pub cid : v.paths.current.remote_cid ≡ s.paths.current.remote_cid
    pub spin : v.paths.spin ≡ s.paths.spin
    pub fixed : v.setup.fixed ≡ s.setup.fixed
    pub token : v.setup.initial_token ≡ s.setup.initial_token
    pub peer : v.setup.peer ≡ s.setup.peer
    pub acked : (id : SpaceId) → (space_of v.numbers.spaces id).largest_acked ≡ (space_of s.numbers.spaces id).largest_acked
    pub written : (id : SpaceId) → (space_of v.waiting.spaces id).crypto.written ≡ (space_of s.waiting.spaces id).crypto.written

  pub alike_here : (s : View t) → SealsAlike s s
  alike_here s = record { masks = λ f. refl; sealers = λ f. refl; epochs = λ f. refl; nexts = refl; may = refl; cid = refl; spin = refl; fixed = refl; token = refl; peer = refl; acked = λ id. refl; written = λ id. refl }

  pub alike_next : (u v w : View t) → SealsAlike u v → SealsAlike v w → SealsAlike u w
  alike_next u v w g h = record {
    masks = λ f. h.masks f ∙ g.masks f;
    sealers = λ f. h.sealers f ∙ g.sealers f;
    epochs = λ f. h.epochs f ∙ g.epochs f;
    nexts = h.nexts ∙ g.nexts;
    may = h.may ∙ g.may;
    cid = h.cid ∙ g.cid;
    spin = h.spin ∙ g.spin;
    fixed = h.fixed ∙ g.fixed;
    token = h.token ∙ g.token;
    peer = h.peer ∙ g.peer;
    acked = λ id. h.acked id ∙ g.acked id;
    written = λ id. h.written id ∙ g.written id;
  }

  -- Once packets were sealed, and updates tried for them: a key that seals now is one that may seal by the view in which the transmit began; and an update
  -- is allowed only where none was made since.
  pub record SealsBy (s v : View t) : Type 0 where
    pub masks : (f : Form) → header_key v.keys f ≡ header_key s.keys f
    pub keyed : (f : Form) (key : t.P) → packet_key v.keys f ≡ Some key → IsKeyIn s f (epoch_in v.keys f) key
    pub allowed : may_update_now v ≡ true → (may_update_now s ≡ true) × (epoch_in v.keys form.OneRtt ≡ epoch_in s.keys form.OneRtt) × (next_key v ≡ next_key s)
    pub cid : v.paths.current.remote_cid ≡ s.paths.current.remote_cid
    pub spin : v.paths.spin ≡ s.paths.spin
    pub fixed : v.setup.fixed ≡ s.setup.fixed
    pub token : v.setup.initial_token ≡ s.setup.initial_token
    pub peer : v.setup.peer ≡ s.setup.peer
    pub acked : (id : SpaceId) → (space_of v.numbers.spaces id).largest_acked ≡ (space_of s.numbers.spaces id).largest_acked
    pub written : (id : SpaceId) → (space_of v.waiting.spaces id).crypto.written ≡ (space_of s.waiting.spaces id).crypto.written

  -- at the beginning, and behind what leaves the keys
  pub by_alike : (s v w : View t) → SealsBy s v → SealsAlike v w → SealsBy s w
  by_alike s v w g h = record {
    masks = λ f. h.masks f ∙ g.masks f;
    keyed = λ f key is. subst (λ (e : ℕ). IsKeyIn s f e key) (sym (h.epochs f)) (g.keyed f key (sym (h.sealers f) ∙ is));
    allowed = λ may. let o = g.allowed (sym h.may ∙ may) in (o.0, h.epochs form.OneRtt ∙ o.1, h.nexts ∙ o.2);
    cid = h.cid ∙ g.cid;
    spin = h.spin ∙ g.spin;
    fixed = h.fixed ∙ g.fixed;
    token = h.token ∙ g.token;
    peer = h.peer ∙ g.peer;
    acked = λ id. h.acked id ∙ g.acked id;
    written = λ id. h.written id ∙ g.written id;
  }

  pub by_begun : (s v : View t) → SealsAlike s v → SealsBy s v
  by_begun s v h =
      by_alike s s v
      (record { masks = λ f. refl; keyed = λ f key is. inl (refl, is); allowed = λ may. (may, refl, refl); cid = refl; spin = refl; fixed = refl; token = refl; peer = refl; acked = λ id. refl; written = λ id. refl }) h

  -- behind an update: the next key seals from then on
  risen_keyed : (s v : View t) (fresh : Option (Fresh t.P)) (o : Option (OneRttKeys t.H t.P)) → v.keys.«data» ≡ o → SealsBy s v → may_update_now v ≡ true → ring_may_update o ≡ true →
      (f : Form) (key : t.P) → packet_key (record v.keys { «data» = ring_updated fresh o }) f ≡ Some key → IsKeyIn s f (epoch_in (record v.keys { «data» = ring_updated fresh o }) f) key
  unfolding packet_key epoch_in ring_updated keyed_updated after_update
  risen_keyed s v fresh o is g may ring form.Initial key e = g.keyed form.Initial key e
  risen_keyed s v fresh o is g may ring form.Handshake key e = g.keyed form.Handshake key e
  risen_keyed s v fresh o is g may ring form.Early key e = g.keyed form.Early key e
  risen_keyed s v None o is g may ring form.OneRtt key e =
      subst (λ (n : ℕ). IsKeyIn s form.OneRtt n key) (ap (λ (k : Option (OneRttKeys t.H t.P)). epoch_with k) is) (g.keyed form.OneRtt key (ap (λ (k : Option (OneRttKeys t.H t.P)). packet_key (record v.keys { «data» = k }) form.OneRtt) is ∙ e))
  risen_keyed s v (Some fresh) None is g may ring form.OneRtt key e = absurd cc
  risen_keyed s v (Some fresh) (Some k) is g may ring form.OneRtt key e =
      let o = g.allowed may in
      let next : next_key v ≡ Some k.ring.next.local = ap (option_map (λ (x : OneRttKeys t.H t.P). x.ring.next.local)) is in
      let epoch : k.ring.ring.epoch ≡ epoch_in s.keys form.OneRtt = sym (ap (λ (x : Option (OneRttKeys t.H t.P)). epoch_with x) is) ∙ o.1 in
      by_ring (may_update k.ring.ring) ring e
    where
      by_ring : (b : Bool) → b ≡ true → Some (if b then keyed_in (after_update k.ring.ring) k.ring fresh.keys else k.ring).current.local ≡ Some key →
          IsKeyIn s form.OneRtt (if b then keyed_in (after_update k.ring.ring) k.ring fresh.keys else k.ring).ring.epoch key
      by_ring true so e =
          let o = g.allowed may in
          inr (refl, o.0, ap (λ (n : ℕ). plus n 1) (sym (ap (λ (x : Option (OneRttKeys t.H t.P)). epoch_with x) is) ∙ o.1), sym o.2 ∙ ap (option_map (λ (x : OneRttKeys t.H t.P). x.ring.next.local)) is ∙ e)
      by_ring false so e = absurd cc

  -- no further one is allowed, where the session gave keys; else nothing changed
  risen_open : (s v : View t) (fresh : Option (Fresh t.P)) (o : Option (OneRttKeys t.H t.P)) → v.keys.«data» ≡ o → SealsBy s v → may_update_now v ≡ true → ring_may_update o ≡ true → ring_may_update (ring_updated fresh o) ≡ true →
      (may_update_now s ≡ true) × (epoch_with (ring_updated fresh o) ≡ epoch_in s.keys form.OneRtt) × (option_map (λ (k : OneRttKeys t.H t.P). k.ring.next.local) (ring_updated fresh o) ≡ next_key s)
  unfolding epoch_in ring_updated keyed_updated after_update may_update
  risen_open s v None o is g may ring again =
      let held = g.allowed may in
      (held.0, ap (λ (k : Option (OneRttKeys t.H t.P)). epoch_with k) (sym is) ∙ held.1, ap (option_map (λ (k : OneRttKeys t.H t.P). k.ring.next.local)) (sym is) ∙ held.2)
  risen_open s v (Some fresh) None is g may ring again = absurd cc
  risen_open s v (Some fresh) (Some k) is g may ring again = absurd (by_ring (is_dropped k.ring.ring.kept && k.ring.ring.acked) ring again)
    where
      by_ring : (b : Bool) → b ≡ true → (is_dropped (if b then keyed_in (after_update k.ring.ring) k.ring fresh.keys else k.ring).ring.kept && (if b then keyed_in (after_update k.ring.ring) k.ring fresh.keys else k.ring).ring.acked) ≡ true → ⊥
      by_ring true so e = cc
      by_ring false so e = cc

  by_updated : (s : View t) (fresh : Option (Fresh t.P)) (session : t.S) (a : At t) → MayMove (Update fresh session) a.state → SealsBy s a.state → SealsBy s (move_to (Update fresh session) a).state
  unfolding move_to state_move keys_move life_move paths_move setup_move numbers_move waiting_move key_updated header_key may_update_now MayMove epoch_in ring_updated
  by_updated s fresh session a may g =
      let v : View t = a.state in
      let now : may_update_now v ≡ true = λ i. may.0 i && may.1 i in
      record {
        masks = by_mask;
        keyed = risen_keyed s v fresh v.keys.«data» refl g now may.1;
        allowed = λ again. risen_open s v fresh v.keys.«data» refl g now may.1 (second_of (is_established v.life.state) _ again);
        cid = g.cid;
        spin = g.spin;
        fixed = g.fixed;
        token = g.token;
        peer = g.peer;
        acked = g.acked;
        written = g.written;
      }
    where
      second_of : (b c : Bool) → (b && c) ≡ true → c ≡ true
      second_of true c h = h
      second_of false c h = absurd cc

      ring_mask_kept : (fresh : Option (Fresh t.P)) (o : Option (OneRttKeys t.H t.P)) → option_map (λ (k : OneRttKeys t.H t.P). k.header.local) (ring_updated fresh o) ≡ option_map (λ (k : OneRttKeys t.H t.P). k.header.local) o
      ring_mask_kept None o = refl
      ring_mask_kept (Some fresh) None = refl
      ring_mask_kept (Some fresh) (Some k) = refl

      by_mask : (f : Form) → header_key (record a.state.keys { «data» = ring_updated fresh a.state.keys.«data» }) f ≡ header_key s.keys f
      by_mask form.Initial = g.masks form.Initial
      by_mask form.Handshake = g.masks form.Handshake
      by_mask form.Early = g.masks form.Early
      by_mask form.OneRtt = ring_mask_kept fresh a.state.keys.«data» ∙ g.masks form.OneRtt

  pub by_tried : (m : Meaning t) (s : View t) (f : Form) (a : At t) → SealsBy s a.state → SealsBy s (tried_after m f a).state
  by_tried m s f a = holds_tried m (λ (b c : At t). SealsBy s b.state → SealsBy s c.state) (λ b h. h) (λ b may h. by_updated s _ _ b may h) f a

  -- the moves with which a packet is begun, and counted
  abbrev AlikeAfter : At t → At t → Type 0
  AlikeAfter a b = SealsAlike a.state b.state

  begin_alike : (id : SpaceId) (opens : Bool) (a : At t) → AlikeAfter a (move_to (Begin id opens) a)
  unfolding move_to state_move keys_move life_move paths_move setup_move numbers_move waiting_move may_update_now packet_drawn
  begin_alike id opens a = record { masks = λ f. refl; sealers = λ f. refl; epochs = λ f. refl; nexts = refl; may = refl; cid = refl; spin = refl; fixed = refl; token = refl; peer = refl; acked = λ x. refl; written = begun_written id opens a.state }

  skip_alike : (a : At t) → AlikeAfter a (move_to Skip a)
  unfolding move_to state_move keys_move life_move paths_move setup_move numbers_move waiting_move may_update_now word_drawn
  skip_alike a = record { masks = λ f. refl; sealers = λ f. refl; epochs = λ f. refl; nexts = refl; may = refl; cid = refl; spin = refl; fixed = refl; token = refl; peer = refl; acked = skipped_acked a.state.numbers (word a.state.setup.random); written = λ x. refl }

  move_alike : (x : Move t) → IsBeginning x → (a : At t) → AlikeAfter a (move_to x a)
  unfolding move_to state_move keys_move life_move paths_move setup_move numbers_move waiting_move may_update_now path_kept
  move_alike (Begin id opens) r a = begin_alike id opens a
  move_alike Skip r a = skip_alike a
  move_alike (Spend tokens) r a = record { masks = λ f. refl; sealers = λ f. refl; epochs = λ f. refl; nexts = refl; may = refl; cid = refl; spin = refl; fixed = refl; token = refl; peer = refl; acked = λ x. refl; written = λ x. refl }
  move_alike (Arm at) r a = record { masks = λ f. refl; sealers = λ f. refl; epochs = λ f. refl; nexts = refl; may = refl; cid = refl; spin = refl; fixed = refl; token = refl; peer = refl; acked = λ x. refl; written = λ x. refl }
  move_alike _ r a = absurd r

  seal_alike : (time n size : ℕ) (f : Form) (fs : List FrameValue) (a : At t) → AlikeAfter a (move_to (Seal time f n size fs) (move_to (Take (number_space f) fs) a))
  unfolding move_to state_move keys_move life_move paths_move setup_move numbers_move waiting_move may_update_now
  seal_alike time n size f fs a = record {
    masks = used_mask a.state.keys f n;
    sealers = used_sealer a.state.keys f n;
    epochs = used_epoch a.state.keys f n;
    nexts = used_next a.state.keys f n;
    may = ap (λ (x : Bool). is_established a.state.life.state && x) (used_may a.state.keys f n);
    cid = refl;
    spin = refl;
    fixed = refl;
    token = refl;
    peer = refl;
    acked = used_acked a.state.numbers (number_space f) n;
    written = λ id. told_written (waiting_without a.state.waiting (number_space f) fs) _ fs _ id ∙ taken_written a.state.waiting (number_space f) fs id;
  }

  -- a packet that is begun, and one that was sealed
  pub begun_alike : (id : SpaceId) (opens : Bool) (a : At t) → SealsAlike a.state (begun_after id opens a).state
  begun_alike id opens a = holds_begun AlikeAfter (λ b. alike_here b.state) (λ b c d g h. alike_next b.state c.state d.state g h) id opens a (λ b. begin_alike id opens b) (λ b may. skip_alike b)

  pub packet_alike : (m : Meaning t) (time : ℕ) (p : Sent) (g : Going t) → MayFollow m time g.now.state g.batch p → SealsAlike g.now.state (packet_after m time p g).now.state
  packet_alike m time p g may =
      holds_packet AlikeAfter (λ b. alike_here b.state) (λ b c d h k. alike_next b.state c.state d.state h k) (λ x r b h. move_alike x r b)
      (λ at f fs b h. seal_alike at (next_number b.state.numbers (number_space f)) (packet_size b.state f fs) f fs b) m time p g may

  -- and packets behind them, each with an update that is tried for it
  pub packets_by : (m : Meaning t) (time : ℕ) (s : View t) (ps : List Sent) (g : Going t) → SealsBy s g.now.state → MayAll m time g ps → SealsBy s (packets_after m time ps g).now.state
  packets_by m time s [] g h may = h
  packets_by m time s (p ∷ ps) g h may =
      let f : Going t = going_tried m p.form g in
      let k : Going t = packet_after m time p f in
      packets_by m time s ps k (by_alike s f.now.state k.now.state (by_tried m s p.form g.now h) (packet_alike m time p f may.0)) may.1

  -- and a probe of the path's size that is begun
  held_alike : (m : Meaning t) (time : ℕ) (quiet : Quiet) (b : Batch) (a : At t) → AlikeAfter a (held_after m time quiet b a)
  unfolding held_after move_to state_move keys_move life_move paths_move setup_move numbers_move waiting_move may_update_now
  held_alike m time Pacing b a = record { masks = λ f. refl; sealers = λ f. refl; epochs = λ f. refl; nexts = refl; may = refl; cid = refl; spin = refl; fixed = refl; token = refl; peer = refl; acked = λ x. refl; written = λ x. refl }
  held_alike m time NothingOwed b a = alike_here a.state
  held_alike m time Silent b a = alike_here a.state
  held_alike m time Amplification b a = alike_here a.state
  held_alike m time Congestion b a = alike_here a.state
  held_alike m time Killed b a = alike_here a.state

  asked_alike : (a : At t) → AlikeAfter a (move_to (Ask «Data») a)
  unfolding move_to state_move keys_move life_move paths_move setup_move numbers_move waiting_move may_update_now ping_asked
  asked_alike a = record { masks = λ f. refl; sealers = λ f. refl; epochs = λ f. refl; nexts = refl; may = refl; cid = refl; spin = refl; fixed = refl; token = refl; peer = refl; acked = λ x. refl; written = asked_written }
    where
      asked_written : (id : SpaceId) → (space_of (ping_asked a.state.waiting «Data»).spaces id).crypto.written ≡ (space_of a.state.waiting.spaces id).crypto.written
      asked_written Initial = refl
      asked_written Handshake = refl
      asked_written Data = refl

  pub probe_alike : (m : Meaning t) (time : ℕ) (quiet : Quiet) (b : Batch) (a : At t) → SealsAlike a.state (probe_begun_after m time quiet b a).state
  unfolding probe_begun_after
  probe_alike m time quiet b a =
      let c : At t = held_after m time quiet b a in
      let d : At t = move_to (Ask «Data») c in
      alike_next a.state c.state (begun_after «Data» false d).state (held_alike m time quiet b a) (alike_next c.state d.state (begun_after «Data» false d).state (asked_alike c) (begun_alike «Data» false d))
