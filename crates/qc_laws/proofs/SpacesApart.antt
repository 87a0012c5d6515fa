-- A packet leaves what waits in the spaces behind its own; and where no probe is due in its own space, how many are due in each.
use Rattle.std.proofs.Common.{◌≡◌, ℕ, ◌+◌, ◌-◌, List, [], ◌∷◌, ◌++◌, length, replicate, refl, ap, sym, ◌∙◌, subst, Bool, true, false, Option, Some, None, if◌then◌else◌, ◌==◌}
use Rattle.std.specs.Prelude.{◌&&◌, ◌||◌}
use Rattle.std.specs.List.{list_any}
use Rattle.qc_base.specs.PacketNumber.{number_len, number_of}
use Rattle.qc_base.specs.declared.side.SpaceId.{SpaceId}
use Rattle.qc_base.specs.declared.side.SpaceId.TheVariants.{Initial, Handshake, «Data»}
use Rattle.qc_cids.specs.Steps as ids
use Rattle.qc_datagrams.specs.Steps as datagrams
use Rattle.qc_flight.specs.declared.sent.SentPacket.{SentPacket}
use Rattle.qc_frame.specs.Frame.{FrameValue}
use Rattle.qc_frame.specs.declared.frames.FrameOf.TheVariants as frames
use Rattle.qc_streams.specs.Waits.{Step, after}
use Rattle.qc_state.specs.declared.form.Form.{Form}
use Rattle.qc_state.specs.declared.lower.Lower.{Lower}
use Rattle.qc_state.specs.declared.numbers.Numbers.{Numbers}
use Rattle.qc_state.specs.declared.spaces.Spaces.{Spaces}
use Rattle.qc_state.specs.declared.waiting.SpaceWaiting.{SpaceWaiting}
use Rattle.qc_state.specs.declared.waiting.Waiting.{Waiting}
use Rattle.qc_state.specs.Acks.{is_ack}
use Rattle.qc_state.specs.Allowed.{WaitAll, Waits}
use Rattle.qc_state.specs.Datagrams.{first_fits, sealed_datagram, sealed_datagrams}
use Rattle.qc_state.specs.Flight.{flown_packet}
use Rattle.qc_state.specs.Forms.{number_space}
use Rattle.qc_state.specs.Ids.{ids_want, sealed_cid, sealed_cids}
use Rattle.qc_state.specs.Lower.{datagrams_stepped, frames_sealed, ids_stepped, packet_flown, streams_stepped}
use Rattle.qc_state.specs.Moves.{Begin, Seal, Skip, Take, armed_with, keys_move, lower_move, move_to, numbers_move, paths_move, state_move, waiting_move}
use Rattle.qc_state.specs.Numbers.{acked_number, coming_number, is_skipped, next_number, number_used}
use Rattle.qc_state.specs.Offers.{datagram_waits, packet_begun, path_size, probe_begun, probe_sent, short_room, streams_filed, streams_want, wants_sending, tokens_want}
use Rattle.qc_state.specs.Paths.{most_on, path_kept}
use Rattle.qc_state.specs.Batches.{is_in_order, is_last_in}
use Rattle.qc_state.specs.Sending.{Carries, Going, MayFollow, Sent, begun_after, flown_after, is_flown, packet_after, packet_size, sealed_in, skipped_after, spent_after, wants_in}
use Rattle.qc_state.specs.Keys.{form_in}
use Rattle.qc_state.specs.Setup.{packet_drawn}
use Rattle.qc_state.specs.Spaces.{is_space, space_of, with_space}
use Rattle.qc_state.specs.StreamFrames.{sealed_step, sealed_steps}
use Rattle.qc_state.specs.Types.{TokenMaker, Types, Meaning}
use Rattle.qc_state.specs.View.{View, At}
use Rattle.qc_state.specs.Waiting.{bundle_next, packet_told, probe_spent, waiting_without, wants_here, without, without_all}
use Rattle.qc_state.proofs.DatagramSteps.{datagrams_close, datagrams_padded}
use Rattle.qc_state.proofs.IdSteps.{cids_close, cids_padded}
use Rattle.qc_state.proofs.Probed.{begun_is}
use Rattle.qc_state.proofs.SealedSteps.{sealed_close, sealed_padded}
use Rattle.qc_laws.proofs.CryptoPlaces.{bundled_spaces}

-- ---- the order of spaces

-- a space behind that of a packet stands behind those before it too, and is none of theirs
pub further : (last : Option SpaceId) (x id : SpaceId) → is_in_order last x ≡ true → is_in_order (Some x) id ≡ true → is_space x id ≡ false → (is_in_order last id ≡ true) × (is_last_in last id ≡ false)
further None x id h k other = (refl, refl)
further (Some Initial) Initial Initial h k other = cc
further (Some Initial) Handshake Initial h k other = cc
further (Some Initial) Data Initial h k other = cc
further (Some Initial) x Handshake h k other = (refl, refl)
further (Some Initial) x Data h k other = (refl, refl)
further (Some Handshake) Initial id h k other = cc
further (Some Handshake) Handshake Initial h k other = cc
further (Some Handshake) Handshake Handshake h k other = cc
further (Some Handshake) Handshake Data h k other = (refl, refl)
further (Some Handshake) Data Initial h k other = cc
further (Some Handshake) Data Handshake h k other = cc
further (Some Handshake) Data Data h k other = cc
further (Some «Data») Initial id h k other = cc
further (Some «Data») Handshake id h k other = cc
further (Some «Data») Data Initial h k other = cc
further (Some «Data») Data Handshake h k other = cc
further (Some «Data») Data Data h k other = cc

-- none stands behind that of 1-RTT packets
pub stands_early : (x id : SpaceId) → is_in_order (Some x) id ≡ true → is_space x id ≡ false → is_space x «Data» ≡ false
stands_early Initial id h other = refl
stands_early Handshake id h other = refl
stands_early Data Initial h other = cc
stands_early Data Handshake h other = cc
stands_early Data Data h other = cc

not_data : (id : SpaceId) → id ≡ «Data» → is_space id «Data» ≡ false → ⊥
not_data id is e = let one : is_space id «Data» ≡ true = ap (λ (x : SpaceId). is_space x «Data») is in cc

-- ---- one space among others

put_apart : (x id : SpaceId) (v : Spaces SpaceWaiting) (w : SpaceWaiting) → is_space x id ≡ false → space_of (with_space v x w) id ≡ space_of v id
put_apart Initial Initial v w other = cc
put_apart Initial Handshake v w other = refl
put_apart Initial Data v w other = refl
put_apart Handshake Initial v w other = refl
put_apart Handshake Handshake v w other = cc
put_apart Handshake Data v w other = refl
put_apart Data Initial v w other = refl
put_apart Data Handshake v w other = refl
put_apart Data Data v w other = cc

put_probes : (x id : SpaceId) (v : Spaces SpaceWaiting) (w : SpaceWaiting) → w.probes ≡ (space_of v x).probes → (space_of (with_space v x w) id).probes ≡ (space_of v id).probes
put_probes Initial Initial v w same = same
put_probes Initial Handshake v w same = refl
put_probes Initial Data v w same = refl
put_probes Handshake Initial v w same = refl
put_probes Handshake Handshake v w same = same
put_probes Handshake Data v w same = refl
put_probes Data Initial v w same = refl
put_probes Data Handshake v w same = refl
put_probes Data Data v w same = same

-- frames that are sealed leave the probes that are due
without_probes : (w : SpaceWaiting) (f : FrameValue) → (without w f).probes ≡ w.probes
unfolding without
without_probes w frames.HandshakeDone = refl
without_probes w frames.Ping = refl
without_probes w (frames.Ack ack) = refl
without_probes w (frames.Crypto offset body) = refl
without_probes w _ = refl

all_probes : (w : SpaceWaiting) (fs : List FrameValue) → (without_all w fs).probes ≡ w.probes
unfolding without_all
all_probes w [] = refl
all_probes w (f ∷ fs) = all_probes (without w f) fs ∙ without_probes w f

-- a number that is used in another space than that of 1-RTT packets leaves their next one, and the one from which that is spelled
used_coming : (v : Numbers) (x : SpaceId) (n : ℕ) → is_space x «Data» ≡ false → coming_number (number_used v x n) «Data» ≡ coming_number v «Data»
unfolding coming_number is_skipped next_number number_used
used_coming v Initial n e = refl
used_coming v Handshake n e = refl
used_coming v Data n e = cc

used_acked : (v : Numbers) (x : SpaceId) (n : ℕ) → is_space x «Data» ≡ false → acked_number (number_used v x n) «Data» ≡ acked_number v «Data»
unfolding acked_number number_used
used_acked v Initial n e = refl
used_acked v Handshake n e = refl
used_acked v Data n e = cc

early_unskipped : (v : Numbers) (x : SpaceId) → is_space x «Data» ≡ false → is_skipped v x ≡ false
unfolding is_skipped
early_unskipped v x e = ap (λ (b : Bool). b && (next_number v x == v.filter.skipped)) e

-- ---- the frames of a packet that isn't a 1-RTT packet

-- none of them is one of the streams or of the connection ids, or a DATAGRAM
pub record AreOwn (fs : List FrameValue) : Type 0 where
  pub streams : sealed_steps fs ≡ []
  pub cids : sealed_cids fs ≡ []
  pub posts : sealed_datagrams fs ≡ []

own_none : AreOwn []
unfolding sealed_steps sealed_cids sealed_datagrams
own_none = record { streams = refl; cids = refl; posts = refl }

own_more : (f : FrameValue) (fs : List FrameValue) → (sealed_step f ≡ []) × (sealed_cid f ≡ []) × (sealed_datagram f ≡ []) → AreOwn fs → AreOwn (f ∷ fs)
unfolding sealed_steps sealed_cids sealed_datagrams
own_more f fs first h = record {
  streams = ap (λ (xs : List Step). xs ++ sealed_steps fs) first.0 ∙ h.streams;
  cids = ap (λ (xs : List ids.Step). xs ++ sealed_cids fs) first.1 ∙ h.cids;
  posts = ap (λ (xs : List datagrams.Step). xs ++ sealed_datagrams fs) first.2 ∙ h.posts;
}

own_padded : (n : ℕ) (fs gs : List FrameValue) → fs ≡ gs ++ replicate n frames.Padding → AreOwn gs → AreOwn fs
own_padded n fs gs is h = record {
  streams = ap sealed_steps is ∙ sealed_padded gs n ∙ h.streams;
  cids = ap sealed_cids is ∙ cids_padded gs n ∙ h.cids;
  posts = ap sealed_datagrams is ∙ datagrams_padded gs n ∙ h.posts;
}

module _ {S : Type 0} where
  -- such frames leave streams, connection ids and datagrams, and so does a packet that is in flight from then on
  abbrev IsLow : Lower S → Lower S → Type 0
  IsLow l l' = (l'.streams ≡ l.streams) × (l'.ids ≡ l.ids) × (l'.datagrams ≡ l.datagrams)

  own_low : (l : Lower S) (fs : List FrameValue) → AreOwn fs → IsLow l (frames_sealed fs l)
  unfolding frames_sealed streams_stepped datagrams_stepped ids_stepped after ids.after datagrams.after
  own_low l fs h = (ap (λ (xs : List Step). after xs l.streams) h.streams, ap (λ (xs : List ids.Step). ids.after xs l.ids) h.cids, ap (λ (xs : List datagrams.Step). datagrams.after xs l.datagrams) h.posts)

  owed_low : (owed : Bool) (l : Lower S) (id : SpaceId) (n : ℕ) (packet : SentPacket) → IsLow l (if owed then l else packet_flown l id n packet)
  unfolding packet_flown
  owed_low true l id n packet = (refl, refl, refl)
  owed_low false l id n packet = (refl, refl, refl)

module _ {t : Types} (maker : TokenMaker t) where
  waits_own : (time : ℕ) (s : View t) (id : SpaceId) (f : FrameValue) → Waits maker time s id f → is_space id «Data» ≡ false → (sealed_step f ≡ []) × (sealed_cid f ≡ []) × (sealed_datagram f ≡ [])
  unfolding Waits
  waits_own time s id (frames.Stream stream offset fin body) w e = absurd (not_data id w.0 e)
  waits_own time s id (frames.ResetStream stream code size) w e = absurd (not_data id w.0 e)
  waits_own time s id (frames.StopSending stream code) w e = absurd (not_data id w.0 e)
  waits_own time s id (frames.MaxData limit) w e = absurd (not_data id w.0 e)
  waits_own time s id (frames.MaxStreamData stream limit) w e = absurd (not_data id w.0 e)
  waits_own time s id (frames.MaxStreams dir limit) w e = absurd (not_data id w.0 e)
  waits_own time s id (frames.NewConnectionId new) w e = absurd (not_data id w.0 e)
  waits_own time s id (frames.RetireConnectionId sequence) w e = absurd (not_data id w.0 e)
  waits_own time s id (frames.Datagram body) w e = absurd (not_data id w.0 e)
  waits_own time s id _ w e = (refl, refl, refl)

  wait_own : (time : ℕ) (s : View t) (id : SpaceId) (fs : List FrameValue) → WaitAll maker time s id fs → is_space id «Data» ≡ false → AreOwn fs
  unfolding WaitAll
  wait_own time s id [] w e = own_none
  wait_own time s id (f ∷ fs) w e = own_more f fs (waits_own time s id f w.0 e) (wait_own time (state_move (Take id (f ∷ [])) s) id fs w.1 e)

  pub carried_own : (closing : Bool) (time : ℕ) (s : View t) (form : Form) (room : ℕ) (fs : List FrameValue) → Carries maker closing time s form room fs → is_space (number_space form) «Data» ≡ false → AreOwn fs
  carried_own closing time s form room fs (Carries.a_close owed gs n closes is) e = own_padded n fs gs is (record {
    streams = sealed_close time s (number_space form) room gs closes;
    cids = cids_close time s (number_space form) room gs closes;
    posts = datagrams_close time s (number_space form) room gs closes;
  })
  carried_own closing time s form room fs (Carries.what_waits free gs n wait is) e = own_padded n fs gs is (wait_own time s (number_space form) gs wait e)

-- ---- what waits in a space

module _ {t : Types} where
  -- what follows from these is the same: what waits in a space that elicits an acknowledgement
  record Alike (id : SpaceId) (s s' : View t) : Type 0 where
    pub space : space_of s'.waiting.spaces id ≡ space_of s.waiting.spaces id
    pub streams : s'.lower.streams ≡ s.lower.streams
    pub cids : s'.lower.ids ≡ s.lower.ids
    pub posts : s'.lower.datagrams ≡ s.lower.datagrams
    pub cid : s'.paths.current.remote_cid ≡ s.paths.current.remote_cid
    pub size : path_size s' ≡ path_size s
    pub coming : coming_number s'.numbers «Data» ≡ coming_number s.numbers «Data»
    pub acked : acked_number s'.numbers «Data» ≡ acked_number s.numbers «Data»

  alike_wants : (id : SpaceId) (s s' : View t) → Alike id s s' → wants_in s' id ≡ wants_in s id
  unfolding wants_sending datagram_waits short_room
  alike_wants Initial s s' h = λ i. (wants_here (h.space i) || (streams_want Initial (h.streams i) || (ids_want Initial (h.cids i) || tokens_want Initial (h.space i)))) || false
  alike_wants Handshake s s' h = λ i. (wants_here (h.space i) || (streams_want Handshake (h.streams i) || (ids_want Handshake (h.cids i) || tokens_want Handshake (h.space i)))) || false
  alike_wants Data s s' h = λ i. (wants_here (h.space i) || (streams_want «Data» (h.streams i) || (ids_want «Data» (h.cids i) || tokens_want «Data» (h.space i))))
      || first_fits (h.size i - 16 - (1 + length (h.cid i) + number_len (number_of (h.coming i) (h.acked i)))) (h.posts i).outgoing

  -- ---- a packet is begun

  -- where no probe is due, the streams alone are looked at
  none_begun : (id : SpaceId) (opens : Bool) (s : View t) → ((space_of s.waiting.spaces id).probes == 0) ≡ true → packet_begun id opens s ≡ streams_filed id s
  unfolding packet_begun probe_begun
  none_begun id opens s none = ap (λ (b : Bool). streams_filed id (if b then s else probe_sent id (if opens then record s { waiting = probe_spent s.waiting id } else s))) none

  filed_early : (id : SpaceId) (s : View t) → is_space id «Data» ≡ false → streams_filed id s ≡ s
  unfolding streams_filed streams_stepped after
  filed_early Initial s e = refl
  filed_early Handshake s e = refl
  filed_early Data s e = cc

  early_begun : (id : SpaceId) (opens : Bool) (a : At t) → ((space_of a.state.waiting.spaces id).probes == 0) ≡ true → is_space id «Data» ≡ false →
      (begun_after id opens a).state ≡ record a.state { setup = packet_drawn a.state.setup (form_in a.state.keys id) }
  unfolding begun_after skipped_after move_to
  early_begun id opens a none e =
      ap (λ (b : Bool). state_move (Begin id opens) (if b then move_to Skip a else a).state) (early_unskipped a.state.numbers id e) ∙ sym (begun_is id opens a.state)
      ∙ ap (λ (x : View t). record x { setup = packet_drawn x.setup (form_in x.keys id) }) (none_begun id opens a.state none ∙ filed_early id a.state e)

  skip_waiting : (c : At t) (b : Bool) → (if b then move_to Skip c else c).state.waiting ≡ c.state.waiting
  unfolding move_to state_move waiting_move
  skip_waiting c true = refl
  skip_waiting c false = refl

  begun_waiting : (id : SpaceId) (opens : Bool) (a : At t) → ((space_of a.state.waiting.spaces id).probes == 0) ≡ true → (begun_after id opens a).state.waiting ≡ a.state.waiting
  unfolding begun_after skipped_after move_to streams_filed
  begun_waiting id opens a none =
      let c : At t = if is_skipped a.state.numbers id then move_to Skip a else a in
      let same : c.state.waiting ≡ a.state.waiting = skip_waiting a (is_skipped a.state.numbers id) in
      let free : ((space_of c.state.waiting.spaces id).probes == 0) ≡ true = ap (λ (w : Waiting). (space_of w.spaces id).probes == 0) same ∙ none in
      ap (λ (s : View t). s.waiting) (sym (begun_is id opens c.state)) ∙ ap (λ (s : View t). s.waiting) (none_begun id opens c.state free) ∙ same

  -- ---- a packet is taken and sealed

  -- what the pacer spends, and the loss timer, are none of that
  flown_rest : (m : Meaning t) (time size : ℕ) (c : At t) (b : Bool) → let d : At t = flown_after m time size b c in
      (d.state.waiting ≡ c.state.waiting) × (d.state.lower ≡ c.state.lower) × (d.state.numbers ≡ c.state.numbers) × (d.state.paths.current.remote_cid ≡ c.state.paths.current.remote_cid)
      × (path_size d.state ≡ path_size c.state)
  unfolding armed_with spent_after move_to state_move numbers_move waiting_move lower_move paths_move path_kept most_on
  flown_rest m time size c true = (refl, refl, refl, refl, refl)
  flown_rest m time size c false = (refl, refl, refl, refl, refl)

  sealed_spaces : (m : Meaning t) (time : ℕ) (form : Form) (fs : List FrameValue) (b : At t) →
      (sealed_in m time form fs b).state.waiting.spaces ≡ with_space b.state.waiting.spaces (number_space form) (without_all (space_of b.state.waiting.spaces (number_space form)) fs)
  unfolding sealed_in move_to state_move keys_move waiting_move waiting_without packet_told bundle_next
  sealed_spaces m time form fs b =
      let x : SpaceId = number_space form in
      let size : ℕ = packet_size b.state form fs in
      let c : At t = move_to (Seal time form (next_number b.state.numbers x) size fs) (move_to (Take x fs) b) in
      let told : Waiting = packet_told (waiting_without b.state.waiting x fs) (is_space x b.state.keys.highest) in
      ap (λ (w : Waiting). w.spaces) (flown_rest m time size c (is_flown b.state fs)).0 ∙ bundled_spaces told _ (list_any is_ack fs)

  sealed_alike : (m : Meaning t) (time : ℕ) (form : Form) (fs : List FrameValue) (b : At t) (id : SpaceId) → AreOwn fs → is_space (number_space form) «Data» ≡ false → is_space (number_space form) id ≡ false →
      Alike id b.state (sealed_in m time form fs b).state
  unfolding sealed_in move_to state_move numbers_move waiting_move lower_move paths_move waiting_without
  sealed_alike m time form fs b id own e other =
      let x : SpaceId = number_space form in
      let n : ℕ = next_number b.state.numbers x in
      let size : ℕ = packet_size b.state form fs in
      let c : At t = move_to (Seal time form n size fs) (move_to (Take x fs) b) in
      let rest = flown_rest m time size c (is_flown b.state fs) in
      let taken = own_low b.state.lower fs own in
      let owed = owed_low b.state.waiting.close_owed (frames_sealed fs b.state.lower) x n (flown_packet time size fs) in
      record {
        space = ap (λ (v : Spaces SpaceWaiting). space_of v id) (sealed_spaces m time form fs b) ∙ put_apart x id b.state.waiting.spaces (without_all (space_of b.state.waiting.spaces x) fs) other;
        streams = ap (λ (l : Lower t.S). l.streams) rest.1 ∙ owed.0 ∙ taken.0;
        cids = ap (λ (l : Lower t.S). l.ids) rest.1 ∙ owed.1 ∙ taken.1;
        posts = ap (λ (l : Lower t.S). l.datagrams) rest.1 ∙ owed.2 ∙ taken.2;
        cid = rest.3;
        size = rest.4;
        coming = ap (λ (v : Numbers). coming_number v «Data») rest.2 ∙ used_coming b.state.numbers x n e;
        acked = ap (λ (v : Numbers). acked_number v «Data») rest.2 ∙ used_acked b.state.numbers x n e;
      }

  -- ---- a packet, begun and sealed, where no probe is due in its space

  -- what waits in a space behind its own stays
  pub packet_wants : (m : Meaning t) (time : ℕ) (p : Sent) (g : Going t) → MayFollow m time g.now.state g.batch p → ((space_of g.now.state.waiting.spaces (number_space p.form)).probes == 0) ≡ true →
      (id : SpaceId) → is_in_order (Some (number_space p.form)) id ≡ true → is_space (number_space p.form) id ≡ false → wants_in (packet_after m time p g).now.state id ≡ wants_in g.now.state id
  unfolding packet_after
  packet_wants m time p g may none id order other =
      let x : SpaceId = number_space p.form in
      let b : At t = begun_after x p.opens g.now in
      let end : At t = sealed_in m time p.form p.frames b in
      let e : is_space x «Data» ≡ false = stands_early x id order other in
      let alike : Alike id (record g.now.state { setup = packet_drawn g.now.state.setup (form_in g.now.state.keys x) }) end.state =
      subst (λ (s : View t). Alike id s end.state) (early_begun x p.opens g.now none e) (sealed_alike m time p.form p.frames b id (carried_own m.token g.batch.closing time _ p.form _ p.frames may.carries e) e other) in
      alike_wants id g.now.state end.state (record {
        space = alike.space;
        streams = alike.streams;
        cids = alike.cids;
        posts = alike.posts;
        cid = alike.cid;
        size = alike.size;
        coming = alike.coming;
        acked = alike.acked;
      })

  -- and the probes that are due
  pub packet_probes : (m : Meaning t) (time : ℕ) (p : Sent) (g : Going t) → ((space_of g.now.state.waiting.spaces (number_space p.form)).probes == 0) ≡ true →
      (id : SpaceId) → (space_of (packet_after m time p g).now.state.waiting.spaces id).probes ≡ (space_of g.now.state.waiting.spaces id).probes
  unfolding packet_after
  packet_probes m time p g none id =
      let x : SpaceId = number_space p.form in
      let b : At t = begun_after x p.opens g.now in
      ap (λ (v : Spaces SpaceWaiting). (space_of v id).probes) (sealed_spaces m time p.form p.frames b)
      ∙ put_probes x id b.state.waiting.spaces (without_all (space_of b.state.waiting.spaces x) p.frames) (all_probes (space_of b.state.waiting.spaces x) p.frames)
      ∙ ap (λ (w : Waiting). (space_of w.spaces id).probes) (begun_waiting x p.opens g.now none)
