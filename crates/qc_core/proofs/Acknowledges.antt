-- An ACK is given to loss recovery, and the loss timer fires.
use Rattle.std.proofs.Common.{◌≡◌, ℕ, List, [], ◌∷◌, ◌++◌, length, refl, ap, ◌∙◌, subst, Bool, true, false, ◌==◌, Result, Ok, Err, arith}
use Rattle.std.proofs.lemmas.Bool.Decides.{nat_tests}
use Rattle.std.specs.Prelude.{OnOk, not}
use Rattle.std.specs.declared.alloc.AllocError.{AllocError}
use Rattle.rand_core.specs.Stream.{Stream}
use Rattle.qc_base.specs.declared.side.SpaceId.{SpaceId}
use Rattle.qc_flight.specs.Packets.{Entry}
use Rattle.qc_frame.specs.Frame.{AckValue}
use Rattle.qc_frame.specs.FrameSpelling.{spelling}
use Rattle.qc_frame.specs.declared.frames.FrameOf.TheVariants as frames
use Rattle.qc_recovery.specs.Frames.{ranges_up_of, values_of}
use Rattle.qc_recovery.specs.Steps.{After, FiredAfter, ack_after, timeout_after}
use Rattle.qc_recovery.specs.declared.calls.Around.{Around}
use Rattle.qc_recovery.specs.declared.path.PathData.{PathData}
use Rattle.qc_state.specs.declared.deeds.Did.{Did}
use Rattle.qc_state.specs.declared.deeds.Did.TheVariants as did
use Rattle.qc_state.specs.declared.deeds.Layer.TheVariants as layer
use Rattle.qc_state.specs.declared.lower.Lower.{Lower}
use Rattle.qc_state.specs.declared.numbers.Numbers.{Numbers}
use Rattle.qc_state.specs.declared.waiting.Waiting.{Waiting}
use Rattle.qc_state.specs.declared.keys.KeyGroup.{KeyGroup}
use Rattle.qc_cids.specs.Steps as ids
use Rattle.qc_cids.specs.declared.connection_ids.ConnectionIds.{ConnectionIds}
use Rattle.qc_datagrams.specs.Steps as datagrams
use Rattle.qc_datagrams.specs.declared.datagrams.Datagrams.{Datagrams}
use Rattle.qc_state.specs.Datagrams.{shrunk_by}
use Rattle.qc_state.specs.Ids.{fired_ids, lost_ids}
use Rattle.qc_state.specs.Lower.{datagrams_stepped, ids_stepped, packets_settled, streams_stepped, timer_fired}
use Rattle.qc_state.specs.Moves.{Ack, Fire, Tell, move_to, armed_after, shrunk_steps, state_move, numbers_move, keys_move, life_move, paths_move, timers_move, waiting_move, setup_move, lower_move, deeds_move}
use Rattle.qc_state.specs.Numbers.{began_at, next_number, number_acked}
use Rattle.qc_state.specs.Paths.{is_blocked, path_kept}
use Rattle.qc_state.specs.Receiving.{acked_after, rearmed_after, settled_after}
use Rattle.qc_state.specs.Recovering.{around_of, fired_by, settled_by, shows_validated}
use Rattle.qc_state.specs.Setup.{ideal_setup}
use Rattle.qc_state.specs.StreamFrames.{acked_steps, fired_steps, lost_steps}
use Rattle.qc_streams.specs.Waits as streams
use Rattle.qc_streams.specs.Waits.{Step}
use Rattle.qc_streams.specs.declared.state.StreamsState.{StreamsState}
use Rattle.qc_state.specs.Types.{Types, Meaning}
use Rattle.qc_state.specs.View.{View, Held, At, at, ideal}
use Rattle.qc_state.specs.Waiting.{fired_in, packets_acked, packets_lost}
use Rattle.qc_state.specs.Keys.{key_acked}

module _ {t : Types} (m : Meaning t) where
  -- what loss recovery makes of an ACK, which is told of the connection as it stands
  pub settled_is : (s : View t) (time : ℕ) (id : SpaceId) (ack : AckValue) (blocked shows : Bool) (around : Around) (next began : ℕ) (after : After t.C) → blocked ≡ is_blocked s.paths → shows ≡ shows_validated id → around ≡ around_of s blocked shows →
      next ≡ next_number s.numbers id → began ≡ began_at s.numbers id → after ≡ ack_after m.control time id next began (values_of ack) (ranges_up_of ack) around s.lower.recovery s.paths.current.kept → after ≡ settled_by m time id ack s
  unfolding settled_by
  settled_is s time id ack blocked shows around next began after as_stands is_shows is_around is_next is_began is =
      let told : around ≡ around_of s (is_blocked s.paths) (shows_validated id) = is_around ∙ ap (λ (x : Bool). around_of s x shows) as_stands ∙ ap (λ (x : Bool). around_of s (is_blocked s.paths) x) is_shows in
      is ∙ ap (λ (x : ℕ). ack_after m.control time id x began (values_of ack) (ranges_up_of ack) around s.lower.recovery s.paths.current.kept) is_next
      ∙ ap (λ (x : ℕ). ack_after m.control time id (next_number s.numbers id) x (values_of ack) (ranges_up_of ack) around s.lower.recovery s.paths.current.kept) is_began
      ∙ ap (λ (x : Around). ack_after m.control time id (next_number s.numbers id) (began_at s.numbers id) (values_of ack) (ranges_up_of ack) x s.lower.recovery s.paths.current.kept) told

  -- and of the loss timer
  pub fired_is : (s : View t) (time : ℕ) (blocked : Bool) (around : Around) (after : FiredAfter t.C) → blocked ≡ is_blocked s.paths → around ≡ around_of s blocked false →
      after ≡ timeout_after m.control time around s.lower.recovery s.paths.current.kept → after ≡ fired_by m time s
  unfolding fired_by
  fired_is s time blocked around after as_stands is_around is =
      is ∙ ap (λ (x : Around). timeout_after m.control time x s.lower.recovery s.paths.current.kept) (is_around ∙ ap (λ (x : Bool). around_of s x false) as_stands)

module _ {t : Types} {R : Type 0} (m : Meaning t) (stream : R → Stream) where
  -- the same of the state that is held
  pub settled_held : (v w : Held t R) (time : ℕ) (id : SpaceId) (ack : AckValue) (blocked shows : Bool) (around : Around) (next began : ℕ) (after : After t.C) → w ≡ v → blocked ≡ is_blocked v.paths → shows ≡ shows_validated id → around ≡ around_of (ideal stream v) blocked shows →
      next ≡ next_number w.numbers id → began ≡ began_at w.numbers id → after ≡ ack_after m.control time id next began (values_of ack) (ranges_up_of ack) around w.lower.recovery w.paths.current.kept → after ≡ settled_by m time id ack (ideal stream v)
  settled_held v w time id ack blocked shows around next began after same as_stands is_shows is_around is_next is_began is =
      settled_is m (ideal stream v) time id ack blocked shows around next began after as_stands is_shows is_around (is_next ∙ ap (λ (x : Held t R). next_number x.numbers id) same) (is_began ∙ ap (λ (x : Held t R). began_at x.numbers id) same)
      (is ∙ ap (λ (x : Held t R). ack_after m.control time id next began (values_of ack) (ranges_up_of ack) around x.lower.recovery x.paths.current.kept) same)

  pub fired_held : (v w : Held t R) (time : ℕ) (blocked : Bool) (around : Around) (after : FiredAfter t.C) → w ≡ v → blocked ≡ is_blocked v.paths → around ≡ around_of (ideal stream v) blocked false →
      after ≡ timeout_after m.control time around w.lower.recovery w.paths.current.kept → after ≡ fired_by m time (ideal stream v)
  fired_held v w time blocked around after same as_stands is_around is =
      fired_is m (ideal stream v) time blocked around after as_stands is_around (is ∙ ap (λ (x : Held t R). timeout_after m.control time around x.lower.recovery x.paths.current.kept) same)

  -- the streams step behind the packets, the ids behind them, and the datagrams last
  stepped : (l l' : Lower t.S) (x : StreamsState) (xs : List Step) (y : ConnectionIds) (ys : List ids.Step) (d : Datagrams) (ds : List datagrams.Step) → l ≡ l' → x ≡ streams.after xs l.streams → y ≡ ids.after ys l.ids → d ≡ datagrams.after ds l.datagrams →
      record l { streams = x; ids = y; datagrams = d } ≡ datagrams_stepped ds (ids_stepped ys (streams_stepped xs l'))
  unfolding datagrams_stepped ids_stepped streams_stepped
  stepped l l' x xs y ys d ds same is told left =
      ap (λ (z : StreamsState). record l { streams = z; ids = y; datagrams = d }) is ∙ ap (λ (z : ConnectionIds). record l { streams = streams.after xs l.streams; ids = z; datagrams = d }) told
      ∙ ap (λ (z : Datagrams). record l { streams = streams.after xs l.streams; ids = ids.after ys l.ids; datagrams = z }) left
      ∙ ap (λ (k : Lower t.S). record k { streams = streams.after xs k.streams; ids = ids.after ys k.ids; datagrams = datagrams.after ds k.datagrams }) same

  -- the steps of the datagrams, by what is kept of the path before and behind
  shrinks : (v : Held t R) (before : ℕ) (kept left : PathData t.C) (l : Lower t.S) (d : Datagrams) → before ≡ v.paths.current.kept.mtud.current → kept ≡ left → d ≡ datagrams.after (shrunk_by before (record v.paths.current { kept = kept }) v.setup.peer) l.datagrams →
      d ≡ datagrams.after (shrunk_steps left (ideal stream v)) l.datagrams
  unfolding ideal_setup
  shrinks v before kept left l d was is_kept is =
      is ∙ ap (λ (n : ℕ). datagrams.after (shrunk_by n (record v.paths.current { kept = kept }) v.setup.peer) l.datagrams) was
      ∙ ap (λ (k : PathData t.C). datagrams.after (shrunk_by v.paths.current.kept.mtud.current (record v.paths.current { kept = k }) v.setup.peer) l.datagrams) is_kept

  -- the groups that change are those of the move
  pub settled_parts : (r : Result Bool AllocError) (v w : Held t R) (time : ℕ) (id : SpaceId) (ack : AckValue) (after : After t.C) (numbers : Numbers) (keys : KeyGroup t.H t.P) (waiting : Waiting) (lower : Lower t.S) (x : StreamsState) (z : ConnectionIds) (d : Datagrams) (before : ℕ) (kept : PathData t.C) → w ≡ v →
      after ≡ settled_by m time id ack (ideal stream v) → kept ≡ after.path → lower ≡ packets_settled w.lower after → x ≡ streams.after (acked_steps after.acked ++ lost_steps after.lost) lower.streams → z ≡ ids.after (lost_ids after.lost) lower.ids →
      before ≡ w.paths.current.kept.mtud.current → d ≡ datagrams.after (shrunk_by before (record w.paths.current { kept = kept }) w.setup.peer) lower.datagrams → keys ≡ key_acked w.keys id ack.largest → numbers ≡ number_acked w.numbers id ack.largest → OnOk r (waiting ≡ packets_lost (packets_acked w.waiting id after.acked) id after.lost) →
      OnOk r (ideal stream (record w { numbers = numbers; keys = keys; paths = record w.paths { current = record w.paths.current { kept = kept } }; waiting = waiting; lower = record lower { streams = x; ids = z; datagrams = d } }) ≡ state_move (Ack id ack.largest (settled_by m time id ack (ideal stream v))) (ideal stream v))
  unfolding state_move numbers_move keys_move life_move paths_move timers_move waiting_move setup_move lower_move path_kept ideal_setup
  settled_parts (Ok newly) v w time id ack after numbers keys waiting lower x z d before kept same is is_kept is_lower is_streams is_ids was is_datagrams is_keys is_numbers is_waiting =
      let below = stepped lower (packets_settled w.lower after) x (acked_steps after.acked ++ lost_steps after.lost) z (lost_ids after.lost) d (shrunk_steps after.path (ideal stream w)) is_lower is_streams is_ids (shrinks w before kept after.path lower d was is_kept is_datagrams) in
      subst (λ (y : Held t R). ideal stream (record w { numbers = numbers; keys = keys; paths = record w.paths { current = record w.paths.current { kept = kept } }; waiting = waiting; lower = record lower { streams = x; ids = z; datagrams = d } }) ≡ state_move (Ack id ack.largest after) (ideal stream y)) same
      (λ i. record {
        numbers = is_numbers i;
        keys = is_keys i;
        life = w.life;
        paths = record w.paths { current = record w.paths.current { kept = is_kept i } };
        timers = w.timers;
        waiting = is_waiting i;
        setup = ideal_setup stream w.setup;
        lower = below i;
        issuer = w.issuer;
      })
      ∙ ap (λ (x : After t.C). state_move (Ack id ack.largest x) (ideal stream v)) is
  settled_parts (Err e) v w time id ack after numbers keys waiting lower x z d before kept same is is_kept is_lower is_streams is_ids was is_datagrams is_keys is_numbers is_waiting = tt

  pub fired_parts : (r : Result (Unit {0}) AllocError) (v w : Held t R) (time : ℕ) (after : FiredAfter t.C) (waiting : Waiting) (lower : Lower t.S) (x : StreamsState) (z : ConnectionIds) (d : Datagrams) (before : ℕ) (kept : PathData t.C) → w ≡ v →
      after ≡ fired_by m time (ideal stream v) → kept ≡ after.path → lower ≡ timer_fired w.lower after → x ≡ streams.after (fired_steps after.fired) lower.streams → z ≡ ids.after (fired_ids after.fired) lower.ids →
      before ≡ w.paths.current.kept.mtud.current → d ≡ datagrams.after (shrunk_by before (record w.paths.current { kept = kept }) w.setup.peer) lower.datagrams → OnOk r (waiting ≡ fired_in w.waiting after.fired) →
      OnOk r (ideal stream (record w { paths = record w.paths { current = record w.paths.current { kept = kept } }; waiting = waiting; lower = record lower { streams = x; ids = z; datagrams = d } }) ≡ state_move (Fire (fired_by m time (ideal stream v))) (ideal stream v))
  unfolding state_move numbers_move keys_move life_move paths_move timers_move waiting_move setup_move lower_move path_kept ideal_setup
  fired_parts (Ok done) v w time after waiting lower x z d before kept same is is_kept is_lower is_streams is_ids was is_datagrams is_waiting =
      let below = stepped lower (timer_fired w.lower after) x (fired_steps after.fired) z (fired_ids after.fired) d (shrunk_steps after.path (ideal stream w)) is_lower is_streams is_ids (shrinks w before kept after.path lower d was is_kept is_datagrams) in
      subst (λ (y : Held t R). ideal stream (record w { paths = record w.paths { current = record w.paths.current { kept = kept } }; waiting = waiting; lower = record lower { streams = x; ids = z; datagrams = d } }) ≡ state_move (Fire after) (ideal stream y)) same
      (λ i. record {
        numbers = w.numbers;
        keys = w.keys;
        life = w.life;
        paths = record w.paths { current = record w.paths.current { kept = is_kept i } };
        timers = w.timers;
        waiting = is_waiting i;
        setup = ideal_setup stream w.setup;
        lower = below i;
        issuer = w.issuer;
      })
      ∙ ap (λ (x : FiredAfter t.C). state_move (Fire x) (ideal stream v)) is
  fired_parts (Err e) v w time after waiting lower x z d before kept same is is_kept is_lower is_streams is_ids was is_datagrams is_waiting = tt

-- of entries of which there are none, none is newly acknowledged
some_entries : (x : Entry) (acked : List Entry) → not (length (x ∷ acked) == 0) ≡ true
some_entries x acked = let some : (length (x ∷ acked) == 0) ≡ false = grind (arith, nat_tests) in ap not some

module _ {t : Types} where
  -- the loss timer is set anew where packets were newly acknowledged
  rearmed_by : (time : ℕ) (acked : List Entry) (newly : Bool) (a b : At t) → newly ≡ not (length acked == 0) → newly ≡ true → b ≡ armed_after time a → b ≡ rearmed_after time acked a
  rearmed_by time [] newly a b is e h = cc (is, e)
  rearmed_by time (x ∷ acked) newly a b is e h = h

  -- and stays where none were
  still_by : (time : ℕ) (acked : List Entry) (newly : Bool) (a : At t) → newly ≡ not (length acked == 0) → newly ≡ false → a ≡ rearmed_after time acked a
  still_by time [] newly a is e = refl
  still_by time (x ∷ acked) newly a is e = let some = some_entries x acked in cc (is, e, some)

module _ {t : Types} (m : Meaning t) (time : ℕ) (id : SpaceId) (ack : AckValue) where
  -- the ACK was told, and settled
  told_ack : (body : List ℕ) (s s' : View t) (ds ds' : List Did) → body ≡ spelling (frames.Ack ack) → at s ds' ≡ move_to (Tell (did.Gave layer.Recovery body)) (at s ds) → s' ≡ state_move (Ack id ack.largest (settled_by m time id ack s)) s →
      at s' ds' ≡ move_to (Ack id ack.largest (settled_by m time id ack s)) (move_to (Tell (did.Gave layer.Recovery (spelling (frames.Ack ack)))) (at s ds))
  unfolding move_to state_move numbers_move keys_move life_move paths_move timers_move waiting_move setup_move lower_move deeds_move
  told_ack body s s' ds ds' is_body told moved =
      let listed : ds' ≡ ds ++ did.Gave layer.Recovery (spelling (frames.Ack ack)) ∷ [] = ap (λ (a : At t). a.did) told ∙ ap (λ (x : List ℕ). ds ++ did.Gave layer.Recovery x ∷ []) is_body in
      λ i. record { state = moved i; did = listed i }

  pub acked_armed : (body : List ℕ) (newly : Bool) (s s' : View t) (ds ds' : List Did) (b : At t) → body ≡ spelling (frames.Ack ack) → at s ds' ≡ move_to (Tell (did.Gave layer.Recovery body)) (at s ds) →
      s' ≡ state_move (Ack id ack.largest (settled_by m time id ack s)) s → newly ≡ not (length (settled_by m time id ack s).acked == 0) → newly ≡ true → b ≡ armed_after time (at s' ds') → b ≡ acked_after m time id ack (at s ds)
  unfolding acked_after settled_after
  acked_armed body newly s s' ds ds' b is_body told moved is e armed =
      rearmed_by time (settled_by m time id ack s).acked newly _ b is e (armed ∙ ap (armed_after time) (told_ack body s s' ds ds' is_body told moved))

  pub acked_still : (body : List ℕ) (newly : Bool) (s s' : View t) (ds ds' : List Did) → body ≡ spelling (frames.Ack ack) → at s ds' ≡ move_to (Tell (did.Gave layer.Recovery body)) (at s ds) →
      s' ≡ state_move (Ack id ack.largest (settled_by m time id ack s)) s → newly ≡ not (length (settled_by m time id ack s).acked == 0) → newly ≡ false → at s' ds' ≡ acked_after m time id ack (at s ds)
  unfolding acked_after settled_after
  acked_still body newly s s' ds ds' is_body told moved is e =
      told_ack body s s' ds ds' is_body told moved ∙ still_by time (settled_by m time id ack s).acked newly _ is e
