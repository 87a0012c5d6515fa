-- What a packet that is sealed leaves to other spaces: what they owe, and what room their packets have, is as before.
use Rattle.std.proofs.Common.{◌≡◌, ℕ, ◌+◌, ◌-◌, List, length, refl, sym, ap, ◌∙◌, subst, Bool, true, false, ◌||◌, ◌&&◌, not, if◌then◌else◌, Option, Some, None}
use Rattle.std.specs.Prelude.{◌==◌, is_some}
use Rattle.std.specs.List.{list_any}
use Rattle.qc_base.specs.PacketNumber.{number_len, number_of}
use Rattle.qc_base.specs.declared.side.LongType.TheVariants as long
use Rattle.qc_header.specs.HeaderSpelling.{header_spelling}
use Rattle.qc_header.specs.declared.header.Header.TheVariants as header
use Rattle.qc_base.specs.declared.side.SpaceId.{SpaceId}
use Rattle.qc_base.specs.declared.side.SpaceId.TheVariants.{Initial, Handshake, «Data»}
use Rattle.qc_datagrams.specs.declared.datagrams.Datagrams.{Datagrams}
use Rattle.qc_frame.specs.Frame.{FrameValue}
use Rattle.qc_header.specs.declared.header.Header.{Header}
use Rattle.qc_send.specs.Joining.{LacksIn, is_later}
use Rattle.qc_send.proofs.Rooms.{room_handshake, room_short}
use Rattle.qc_send.proofs.Sizes.{later_apart, later_other}
use Rattle.qc_state.specs.declared.keys.KeyGroup.{KeyGroup}
use Rattle.qc_state.specs.declared.keys.OneRttKeys.{OneRttKeys}
use Rattle.qc_state.specs.declared.keys.SpaceKeys.{SpaceKeys}
use Rattle.qc_state.specs.Datagrams.{first_fits}
use Rattle.qc_state.specs.Ids.{ids_want}
use Rattle.qc_state.specs.Offers.{datagram_fits, datagram_waits, path_size, short_room, streams_want, waits_in, wants_sending, tokens_want}
use Rattle.qc_state.specs.declared.deeds.Did.{Did}
use Rattle.qc_state.specs.declared.form.Form.{Form}
use Rattle.qc_state.specs.declared.form.Form.TheVariants as form
use Rattle.qc_state.specs.declared.lower.Lower.{Lower}
use Rattle.qc_state.specs.declared.numbers.Numbers.{Numbers}
use Rattle.qc_state.specs.declared.spaces.Spaces.{Spaces}
use Rattle.qc_state.specs.declared.transmit.Batch.{Batch}
use Rattle.qc_state.specs.declared.waiting.SpaceWaiting.{SpaceWaiting}
use Rattle.qc_state.specs.declared.waiting.Waiting.{Waiting}
use Rattle.qc_state.specs.Acks.{IsLongAck, is_ack, is_ack_owed}
use Rattle.qc_state.specs.Forms.{number_space}
use Rattle.qc_state.specs.Keys.{count_one, has_keys, has_keys_for, form_in, key_used, ring_used}
use Rattle.qc_state.specs.Lower.{packet_flown}
use Rattle.qc_state.specs.Moves.{Seal, armed_with, keys_move, life_move, lower_move, move_to, numbers_move, paths_move, setup_move, state_move, waiting_move}
use Rattle.qc_state.specs.Numbers.{acked_number, coming_number, is_skipped, next_number, number_used}
use Rattle.qc_state.specs.Paths.{most_on, path_kept}
use Rattle.qc_state.specs.Batches.{is_last_in}
use Rattle.qc_state.specs.Sending.{begun_view, flown_after, header_in, owes_in, room_of, spent_after}
use Rattle.qc_state.specs.Spaces.{is_space, space_of}
use Rattle.qc_state.specs.Types.{Types, Meaning}
use Rattle.qc_state.specs.View.{View, At, at}
use Rattle.qc_state.specs.Waiting.{bundle_next, packet_told, wants_here}

-- a packet tells what waits nothing of what waits in the spaces
told_spaces : (v : Waiting) (last : Bool) (fs : List FrameValue) (until : ℕ) (b : Bool) → list_any is_ack fs ≡ b → (if b then record (packet_told v last) { bundled = Some until } else packet_told v last).spaces ≡ v.spaces
unfolding packet_told
told_spaces v last fs until true e = refl
told_spaces v last fs until false e = refl

-- their numbers
coming_other : (v : Numbers) (f : Form) (n : ℕ) → is_space (number_space f) «Data» ≡ false → coming_number (number_used v (number_space f) n) «Data» ≡ coming_number v «Data»
unfolding coming_number is_skipped next_number number_used
coming_other v form.Initial n h = refl
coming_other v form.Handshake n h = refl
coming_other v form.Early n h = cc
coming_other v form.OneRtt n h = cc

acked_other : (v : Numbers) (f : Form) (n : ℕ) → is_space (number_space f) «Data» ≡ false → acked_number (number_used v (number_space f) n) «Data» ≡ acked_number v «Data»
unfolding acked_number number_used
acked_other v form.Initial n h = refl
acked_other v form.Handshake n h = refl
acked_other v form.Early n h = cc
acked_other v form.OneRtt n h = cc

next_other : (v : Numbers) (f : Form) (n : ℕ) → is_space (number_space f) Handshake ≡ false → next_number (number_used v (number_space f) n) Handshake ≡ next_number v Handshake
unfolding next_number number_used
next_other v form.Initial n h = refl
next_other v form.Handshake n h = cc
next_other v form.Early n h = refl
next_other v form.OneRtt n h = refl

handshake_other : (v : Numbers) (f : Form) (n : ℕ) → is_space (number_space f) Handshake ≡ false → acked_number (number_used v (number_space f) n) Handshake ≡ acked_number v Handshake
unfolding acked_number number_used
handshake_other v form.Initial n h = refl
handshake_other v form.Handshake n h = cc
handshake_other v form.Early n h = refl
handshake_other v form.OneRtt n h = refl

-- and their keys
module _ {H P : Type 0} where
  counted_some : (k : Option (SpaceKeys H P)) → is_some (count_one k) ≡ is_some k
  unfolding count_one
  counted_some None = refl
  counted_some (Some k) = refl

  ring_some : (n : ℕ) (k : Option (OneRttKeys H P)) → is_some (ring_used n k) ≡ is_some k
  unfolding ring_used
  ring_some n None = refl
  ring_some n (Some k) = refl

  keys_other : (v : KeyGroup H P) (f : Form) (n : ℕ) (id : SpaceId) → has_keys (key_used v f n) id ≡ has_keys v id
  unfolding has_keys has_keys_for form_in key_used
  keys_other v form.Initial n Initial = counted_some v.initial
  keys_other v form.Initial n Handshake = refl
  keys_other v form.Initial n Data = refl
  keys_other v form.Handshake n Initial = refl
  keys_other v form.Handshake n Handshake = counted_some v.handshake
  keys_other v form.Handshake n Data = refl
  keys_other v form.Early n id = refl
  keys_other v form.OneRtt n Initial = refl
  keys_other v form.OneRtt n Handshake = refl
  keys_other v form.OneRtt n Data = ring_some n v.«data»

module _ {S : Type 0} where
  -- a packet in flight changes nothing of the layers below but what recovery keeps
  kept_streams : (l k : Lower S) (b : Bool) → k.streams ≡ l.streams → (if b then l else k).streams ≡ l.streams
  kept_streams l k true h = refl
  kept_streams l k false h = h

  kept_datagrams : (l k : Lower S) (b : Bool) → k.datagrams ≡ l.datagrams → (if b then l else k).datagrams ≡ l.datagrams
  kept_datagrams l k true h = refl
  kept_datagrams l k false h = h

  kept_ids : (l k : Lower S) (b : Bool) → k.ids ≡ l.ids → (if b then l else k).ids ≡ l.ids
  kept_ids l k true h = refl
  kept_ids l k false h = h

module _ {t : Types} where
  sealed_spaces : (time : ℕ) (f : Form) (n size : ℕ) (fs : List FrameValue) (s : View t) → (state_move (Seal time f n size fs) s).waiting.spaces ≡ s.waiting.spaces
  unfolding state_move waiting_move bundle_next
  sealed_spaces time f n size fs s = told_spaces s.waiting _ fs _ (list_any is_ack fs) refl

  -- what a packet of a form with a number leaves of a view
  pub record Leaves (f : Form) (n : ℕ) (s w : View t) : Type 0 where
    pub numbers : w.numbers ≡ number_used s.numbers (number_space f) n
    pub keys : w.keys ≡ key_used s.keys f n
    pub life : w.life ≡ s.life
    pub remote : w.paths.current.remote ≡ s.paths.current.remote
    pub cid : w.paths.current.remote_cid ≡ s.paths.current.remote_cid
    pub size : path_size w ≡ path_size s
    pub marks : w.paths.current.kept.sending_ecn ≡ s.paths.current.kept.sending_ecn
    pub fixed : w.setup.fixed ≡ s.setup.fixed
    pub spaces : w.waiting.spaces ≡ s.waiting.spaces
    pub streams : w.lower.streams ≡ s.lower.streams
    pub datagrams : w.lower.datagrams ≡ s.lower.datagrams
    pub ids : w.lower.ids ≡ s.lower.ids

  sealed_leaves : (time : ℕ) (f : Form) (n size : ℕ) (fs : List FrameValue) (s : View t) → Leaves f n s (state_move (Seal time f n size fs) s)
  unfolding state_move numbers_move keys_move life_move paths_move setup_move lower_move packet_flown
  sealed_leaves time f n size fs s = record {
    numbers = refl;
    keys = refl;
    life = refl;
    remote = refl;
    cid = refl;
    size = refl;
    marks = refl;
    fixed = refl;
    spaces = sealed_spaces time f n size fs s;
    streams = kept_streams s.lower _ s.waiting.close_owed refl;
    datagrams = kept_datagrams s.lower _ s.waiting.close_owed refl;
    ids = kept_ids s.lower _ s.waiting.close_owed refl;
  }

  -- spending the pacer's tokens, and setting the loss timer, leave all that
  flown_leaves : (m : Meaning t) (time size : ℕ) (counts : Bool) (f : Form) (n : ℕ) (s : View t) (a : At t) → Leaves f n s a.state → Leaves f n s (flown_after m time size counts a).state
  unfolding armed_with spent_after move_to state_move numbers_move keys_move life_move paths_move waiting_move setup_move lower_move path_kept most_on
  flown_leaves m time size true f n s a h = record {
    numbers = h.numbers;
    keys = h.keys;
    life = h.life;
    remote = h.remote;
    cid = h.cid;
    size = h.size;
    marks = h.marks;
    fixed = h.fixed;
    spaces = h.spaces;
    streams = h.streams;
    datagrams = h.datagrams;
    ids = h.ids;
  }
  flown_leaves m time size false f n s a h = h

  -- what a packet leaves that was sealed and counted
  pub packet_leaves : (m : Meaning t) (time size bytes : ℕ) (counts : Bool) (f : Form) (n : ℕ) (fs : List FrameValue) (mid : View t) (ds : List Did) (b c : At t) → b ≡ move_to (Seal time f n size fs) (at mid ds) →
      c ≡ flown_after m time bytes counts b → Leaves f n mid c.state
  unfolding move_to
  packet_leaves m time size bytes counts f n fs mid ds b c is_b is_c =
      subst (λ (x : At t). Leaves f n mid x.state) (sym is_c)
      (flown_leaves m time bytes counts f n mid b (subst (λ (x : At t). Leaves f n mid x.state) (sym is_b) (sealed_leaves time f n size fs mid)))

  -- ---- other spaces

  -- what waits there that elicits an acknowledgement
  wants_other : (f : Form) (n : ℕ) (s w : View t) (id : SpaceId) → Leaves f n s w → wants_sending w id ≡ wants_sending s id
  unfolding wants_sending
  wants_other f n s w id h = λ i. wants_here (space_of (h.spaces i) id) || (streams_want id (h.streams i) || (ids_want id (h.ids i) || tokens_want id (space_of (h.spaces i) id)))

  -- how much room their packets have
  short_other : (left : ℕ) (f : Form) (n : ℕ) (s w : View t) → Leaves f n s w → is_space (number_space f) «Data» ≡ false → short_room left w ≡ short_room left s
  unfolding short_room
  short_other left f n s w h apart =
      let coming : coming_number w.numbers «Data» ≡ coming_number s.numbers «Data» = ap (λ (v : Numbers). coming_number v «Data») h.numbers ∙ coming_other s.numbers f n apart in
      let acked : acked_number w.numbers «Data» ≡ acked_number s.numbers «Data» = ap (λ (v : Numbers). acked_number v «Data») h.numbers ∙ acked_other s.numbers f n apart in
      λ i. left - 16 - (1 + length (h.cid i) + number_len (number_of (coming i) (acked i)))

  long_other : (f : Form) (n : ℕ) (s w : View t) → Leaves f n s w → is_space (number_space f) Handshake ≡ false → header_in w form.Handshake ≡ header_in s form.Handshake
  long_other f n s w h apart =
      let next : next_number w.numbers Handshake ≡ next_number s.numbers Handshake = ap (λ (v : Numbers). next_number v Handshake) h.numbers ∙ next_other s.numbers f n apart in
      let acked : acked_number w.numbers Handshake ≡ acked_number s.numbers Handshake = ap (λ (v : Numbers). acked_number v Handshake) h.numbers ∙ handshake_other s.numbers f n apart in
      λ i. header.Long long.Handshake (h.cid i) (h.fixed i).local_cid (number_of (next i) (acked i)) (h.fixed i).version

  room_other : (left : ℕ) (f : Form) (n : ℕ) (s w : View t) (id : SpaceId) → Leaves f n s w → is_later (Some (number_space f)) id ≡ true → room_of left (begun_view w id false) (form_in w.keys id) ≡ room_of left (begun_view s id false) (form_in s.keys id)
  unfolding room_of
  room_other left f n s w Initial h later = absurd (cc (later_other (Some (number_space f)) Initial later))
  room_other left f n s w Handshake h later =
      sym (room_handshake left (room_of left w form.Handshake) w Handshake refl refl)
      ∙ ap (λ (x : Header). left - 16 - length (header_spelling x 0)) (long_other f n s w h (later_apart (number_space f) Handshake later))
      ∙ room_handshake left (room_of left s form.Handshake) s Handshake refl refl
  room_other left f n s w Data h later =
      sym (room_short left (short_room left w) w «Data» refl refl) ∙ short_other left f n s w h (later_apart (number_space f) «Data» later) ∙ room_short left (short_room left s) s «Data» refl refl

  -- whether a DATAGRAM waits there
  datagram_other : (f : Form) (n : ℕ) (s w : View t) (id : SpaceId) → Leaves f n s w → is_later (Some (number_space f)) id ≡ true → datagram_waits id w ≡ datagram_waits id s
  unfolding datagram_waits
  datagram_other f n s w Initial h later = refl
  datagram_other f n s w Handshake h later = refl
  datagram_other f n s w Data h later =
      let room : short_room (path_size w) w ≡ short_room (path_size s) s = ap (λ (n : ℕ). short_room n w) h.size ∙ short_other (path_size s) f n s w h (later_apart (number_space f) «Data» later) in
      λ i. first_fits (room i) (h.datagrams i).outgoing

  -- what they owe
  pub owes_other : (b : Batch) (f : Form) (n : ℕ) (s w : View t) (id : SpaceId) → Leaves f n s w → is_later (Some (number_space f)) id ≡ true → owes_in b w id ≡ owes_in b s id
  unfolding owes_in waits_in
  owes_other b f n s w id h later =
      let keyed : has_keys w.keys id ≡ has_keys s.keys id = ap (λ (v : KeyGroup t.H t.P). has_keys v id) h.keys ∙ keys_other s.keys f n id in
      let wants : wants_sending w id ≡ wants_sending s id = wants_other f n s w id h in
      let datagram : datagram_waits id w ≡ datagram_waits id s = datagram_other f n s w id h later in
      λ i. keyed i && (if b.closing then not (is_last_in b.space id) else if is_last_in b.space id then wants i || datagram i
      else wants i || datagram i || is_ack_owed (space_of (h.spaces i) id).acks || not ((space_of (h.spaces i) id).probes == 0))

  -- and what of it has no room
  pub lacks_other : (time left : ℕ) (f : Form) (n : ℕ) (s w : View t) (id : SpaceId) → Leaves f n s w → is_later (Some (number_space f)) id ≡ true → LacksIn time left s id → LacksIn time left w id
  lacks_other time left f n s w id h later lacks =
      let room : room_of left (begun_view w id false) (form_in w.keys id) ≡ room_of left (begun_view s id false) (form_in s.keys id) = room_other left f n s w id h later in
      let here : space_of w.waiting.spaces id ≡ space_of s.waiting.spaces id = ap (λ (v : Spaces SpaceWaiting). space_of v id) h.spaces in
      record {
        wants = wants_other f n s w id h ∙ lacks.wants;
        probes = ap (λ (v : SpaceWaiting). v.probes) here ∙ lacks.probes;
        ack = λ owed. subst (λ (n : ℕ). IsLongAck time (space_of w.waiting.spaces id) n) (sym room)
            (subst (λ (v : SpaceWaiting). IsLongAck time v (room_of left (begun_view s id false) (form_in s.keys id))) (sym here) (lacks.ack (ap (λ (v : SpaceWaiting). is_ack_owed v.acks) (sym here) ∙ owed)));
        datagram = fits_other id room lacks.datagram;
      }
    where
      fits_other : (id : SpaceId) → room_of left (begun_view w id false) (form_in w.keys id) ≡ room_of left (begun_view s id false) (form_in s.keys id) →
          datagram_fits id (room_of left (begun_view s id false) (form_in s.keys id)) s ≡ false → datagram_fits id (room_of left (begun_view w id false) (form_in w.keys id)) w ≡ false
      fits_other Initial e none = refl
      fits_other Handshake e none = refl
      fits_other Data e none = ap (λ (n : ℕ). first_fits n w.lower.datagrams.outgoing) e ∙ ap (λ (d : Datagrams). first_fits (room_of left (begun_view s «Data» false) (form_in s.keys «Data»)) d.outgoing) h.datagrams ∙ none
