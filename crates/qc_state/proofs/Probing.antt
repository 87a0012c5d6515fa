-- A probe of the path's size as it is begun: a PING waits, and what else is asked of its packet stands as it did.
use Rattle.std.proofs.Common.{◌≡◌, ℕ, ◌==◌, List, refl, ap, ◌∙◌, Bool, true, false, Option, Some, None, if◌then◌else◌, arith}
use Rattle.std.specs.Prelude.{◌||◌, ◌&&◌, is_some, option_map}
use Rattle.std.proofs.lemmas.Bool.Decides.{nat_tests}
use Rattle.qc_base.specs.declared.side.SpaceId.TheVariants.{«Data»}
use Rattle.qc_frame.specs.Frame.{FrameValue}
use Rattle.qc_path.specs.Mtu.{Mtu, is_probe, probe_due, probe_if_set, probe_sent, probe_sent_if_set, probing, search_at, size_of_probe}
use Rattle.qc_path.specs.declared.mtu.Search.{Search}
use Rattle.qc_path.specs.declared.mtu.SearchSettings.{SearchSettings}
use Rattle.qc_state.specs.declared.deeds.Quiet.{Quiet}
use Rattle.qc_state.specs.declared.deeds.Quiet.TheVariants.{NothingOwed, Silent, Amplification, Congestion, Pacing, Killed}
use Rattle.qc_state.specs.declared.form.Form.{Form}
use Rattle.qc_state.specs.declared.form.Form.TheVariants as form
use Rattle.qc_state.specs.declared.life.State.{State}
use Rattle.qc_state.specs.declared.life.State.TheVariants as state
use Rattle.qc_state.specs.declared.transmit.Batch.{Batch}
use Rattle.qc_state.specs.declared.waiting.Waiting.{Waiting}
use Rattle.qc_state.specs.Keys.{has_keys_for}
use Rattle.qc_state.specs.Life.{is_drained, is_established, is_open}
use Rattle.qc_state.specs.Moves.{Ask, Skip, keys_move, life_move, move_to, paths_move, state_move, waiting_move, armed_with}
use Rattle.qc_state.specs.Numbers.{is_skipped}
use Rattle.qc_state.specs.Offers.{packet_again, packet_begun, probe_begun, probe_sent as ping_sent, oldest_in, streams_filed, wants_sending, with_ping}
use Rattle.qc_state.specs.Paths.{held_size, path_kept}
use Rattle.qc_state.specs.Sending.{begun_after, flown_after, held_after, is_flown, probe_begun_after, probe_size, sealed_in, skipped_after, spent_after}
use Rattle.qc_state.specs.Spaces.{space_of}
use Rattle.qc_state.specs.Types.{Types, Meaning}
use Rattle.qc_state.specs.View.{View, At}
use Rattle.qc_state.specs.Waiting.{ping_asked}
use Rattle.qc_state.proofs.Begun.{begun_keys, begun_life}
use Rattle.qc_state.proofs.Quieted.{held_paths}

-- ---- tests

one_wants : (done ping crypto other : Bool) → ping ≡ true → ((done || ping || crypto) || other) ≡ true
one_wants true ping crypto other h = refl
one_wants false true crypto other h = refl
one_wants false false crypto other h = cc

pub first_holds : (a b : Bool) → (a && b) ≡ true → a ≡ true
first_holds true b h = refl
first_holds false b h = cc

pub second_holds : (a b : Bool) → (a && b) ≡ true → b ≡ true
second_holds true b h = h
second_holds false b h = cc

test_holds : (b : Bool) (o : Option ℕ) (n : ℕ) → (if b then o else None) ≡ Some n → b ≡ true
test_holds true o n h = refl
test_holds false o n h = cc

same_number : (n : ℕ) → (n == n) ≡ true
same_number n = grind (arith, nat_tests)

mapped_some : (o : Option ℕ) (size : ℕ) → option_map held_size o ≡ Some size → is_some o ≡ true
mapped_some None size h = cc
mapped_some (Some n) size h = refl

-- a search whose next size was probed waits for that probe
search_waits : (n : ℕ) (s : SearchSettings) (q : Option Search) (m : Mtu) → is_some (size_of_probe s q) ≡ true → is_probe n (probing n q m) ≡ true
unfolding is_probe
search_waits n s None m h = cc
search_waits n s (Some q) m h = same_number n

sent_waits : (time n : ℕ) (m : Mtu) → is_some (probe_due time m) ≡ true → is_probe n (probe_sent time n m) ≡ true
unfolding probe_due probe_sent
sent_waits time n m h = by_settings m.settings h
  where
    by_settings : (o : Option SearchSettings) → is_some (probe_if_set time m o) ≡ true → is_probe n (probe_sent_if_set time n o m) ≡ true
    by_settings None e = cc
    by_settings (Some s) e = search_waits n s (search_at time s m m.phase) m e

-- an established connection is open, and hasn't ended
pub established_open : (s : State) → is_established s ≡ true → is_open s ≡ true
established_open state.Established h = refl
established_open state.Handshake h = cc
established_open state.Closed h = cc
established_open state.Draining h = cc
established_open state.Drained h = cc

pub established_alive : (s : State) → is_established s ≡ true → is_drained s ≡ false
established_alive state.Established h = refl
established_alive state.Handshake h = cc
established_alive state.Closed h = cc
established_alive state.Draining h = cc
established_alive state.Drained h = cc

module _ {t : Types} where
  -- ---- where a probe is due

  pub due_established : (time size : ℕ) (s : View t) → probe_size time s ≡ Some size → is_established s.life.state ≡ true
  unfolding probe_size
  due_established time size s h = first_holds (is_established s.life.state) _ (test_holds (is_established s.life.state && (s.paths.current.validated && has_keys_for s.keys form.OneRtt)) _ size h)

  pub due_validated : (time size : ℕ) (s : View t) → probe_size time s ≡ Some size → s.paths.current.validated ≡ true
  unfolding probe_size
  due_validated time size s h =
      first_holds s.paths.current.validated _
      (second_holds (is_established s.life.state) _ (test_holds (is_established s.life.state && (s.paths.current.validated && has_keys_for s.keys form.OneRtt)) _ size h))

  pub due_keyed : (time size : ℕ) (s : View t) → probe_size time s ≡ Some size → has_keys_for s.keys form.OneRtt ≡ true
  unfolding probe_size
  due_keyed time size s h =
      second_holds s.paths.current.validated _
      (second_holds (is_established s.life.state) _ (test_holds (is_established s.life.state && (s.paths.current.validated && has_keys_for s.keys form.OneRtt)) _ size h))

  -- the probe that is due, once it is sent, is the one that the search waits for
  pub due_searched : (time size n : ℕ) (s : View t) → probe_size time s ≡ Some size → is_probe n (probe_sent time n s.paths.current.kept.mtud) ≡ true
  unfolding probe_size
  due_searched time size n s h = by_test (is_established s.life.state && (s.paths.current.validated && has_keys_for s.keys form.OneRtt)) h
    where
      by_test : (b : Bool) → (if b then option_map held_size (probe_due time s.paths.current.kept.mtud) else None) ≡ Some size → is_probe n (probe_sent time n s.paths.current.kept.mtud) ≡ true
      by_test true e = sent_waits time n s.paths.current.kept.mtud (mapped_some (probe_due time s.paths.current.kept.mtud) size e)
      by_test false e = cc

  -- ---- what stands as a probe is begun

  held_keys : (m : Meaning t) (time : ℕ) (quiet : Quiet) (b : Batch) (a : At t) → (held_after m time quiet b a).state.keys ≡ a.state.keys
  unfolding held_after move_to state_move keys_move
  held_keys m time NothingOwed b a = refl
  held_keys m time Silent b a = refl
  held_keys m time Amplification b a = refl
  held_keys m time Congestion b a = refl
  held_keys m time Pacing b a = refl
  held_keys m time Killed b a = refl

  held_life : (m : Meaning t) (time : ℕ) (quiet : Quiet) (b : Batch) (a : At t) → (held_after m time quiet b a).state.life ≡ a.state.life
  unfolding held_after move_to state_move life_move
  held_life m time NothingOwed b a = refl
  held_life m time Silent b a = refl
  held_life m time Amplification b a = refl
  held_life m time Congestion b a = refl
  held_life m time Pacing b a = refl
  held_life m time Killed b a = refl

  asked_keys : (a : At t) → (move_to (Ask «Data») a).state.keys ≡ a.state.keys
  unfolding move_to state_move keys_move
  asked_keys a = refl

  asked_life : (a : At t) → (move_to (Ask «Data») a).state.life ≡ a.state.life
  unfolding move_to state_move life_move
  asked_life a = refl

  asked_paths : (a : At t) → (move_to (Ask «Data») a).state.paths ≡ a.state.paths
  unfolding move_to state_move paths_move
  asked_paths a = refl

  skipped_paths : (a : At t) (b : Bool) → (if b then move_to Skip a else a).state.paths ≡ a.state.paths
  unfolding move_to state_move paths_move
  skipped_paths a true = refl
  skipped_paths a false = refl

  begun_paths : (a : At t) → (begun_after «Data» false a).state.paths ≡ a.state.paths
  unfolding begun_after skipped_after move_to state_move paths_move
  begun_paths a = skipped_paths a (is_skipped a.state.numbers «Data»)

  pub probe_keys : (m : Meaning t) (time : ℕ) (quiet : Quiet) (b : Batch) (a : At t) → (probe_begun_after m time quiet b a).state.keys ≡ a.state.keys
  unfolding probe_begun_after
  probe_keys m time quiet b a =
      let c : At t = held_after m time quiet b a in begun_keys «Data» false (move_to (Ask «Data») c) ∙ asked_keys c ∙ held_keys m time quiet b a

  pub probe_life : (m : Meaning t) (time : ℕ) (quiet : Quiet) (b : Batch) (a : At t) → (probe_begun_after m time quiet b a).state.life ≡ a.state.life
  unfolding probe_begun_after
  probe_life m time quiet b a =
      let c : At t = held_after m time quiet b a in begun_life «Data» false (move_to (Ask «Data») c) ∙ asked_life c ∙ held_life m time quiet b a

  pub probe_paths : (m : Meaning t) (time : ℕ) (quiet : Quiet) (b : Batch) (a : At t) → (probe_begun_after m time quiet b a).state.paths ≡ a.state.paths
  unfolding probe_begun_after
  probe_paths m time quiet b a =
      let c : At t = held_after m time quiet b a in begun_paths (move_to (Ask «Data») c) ∙ asked_paths c ∙ held_paths m time quiet b a

  -- its packet leaves whether the address is validated
  flown_validated : (m : Meaning t) (time size : ℕ) (b : Bool) (a : At t) → (flown_after m time size b a).state.paths.current.validated ≡ a.state.paths.current.validated
  unfolding armed_with spent_after move_to state_move paths_move path_kept
  flown_validated m time size true a = refl
  flown_validated m time size false a = refl

  pub sealed_validated : (m : Meaning t) (time : ℕ) (form : Form) (fs : List FrameValue) (a : At t) → (sealed_in m time form fs a).state.paths.current.validated ≡ a.state.paths.current.validated
  unfolding sealed_in move_to state_move paths_move
  sealed_validated m time form fs a = flown_validated m time _ (is_flown a.state fs) _

  -- ---- a PING waits

  ping_wants : (s : View t) → (space_of s.waiting.spaces «Data»).ping ≡ true → wants_sending s «Data» ≡ true
  unfolding wants_sending
  ping_wants s h = one_wants (space_of s.waiting.spaces «Data»).done (space_of s.waiting.spaces «Data»).ping _ _ h

  sent_keeps : (s : View t) → (space_of s.waiting.spaces «Data»).ping ≡ true → ping_sent «Data» s ≡ s
  unfolding ping_sent with_ping
  sent_keeps s h =
      let wants : wants_sending s «Data» ≡ true = ping_wants s h in
      ap (λ (b : Bool). with_ping «Data» (if b then s else packet_again «Data» (oldest_in s «Data») s)) wants ∙ ap (λ (b : Bool). if b then s else record s { waiting = ping_asked s.waiting «Data» }) wants

  begun_ping : (s : View t) → (space_of s.waiting.spaces «Data»).ping ≡ true → (space_of (probe_begun «Data» false s).waiting.spaces «Data»).ping ≡ true
  unfolding probe_begun
  begun_ping s h = by_probes ((space_of s.waiting.spaces «Data»).probes == 0)
    where
      by_probes : (b : Bool) → (space_of (if b then s else ping_sent «Data» s).waiting.spaces «Data»).ping ≡ true
      by_probes true = h
      by_probes false = ap (λ (v : View t). (space_of v.waiting.spaces «Data»).ping) (sent_keeps s h) ∙ h

  skipped_waiting : (a : At t) (b : Bool) → (if b then move_to Skip a else a).state.waiting ≡ a.state.waiting
  unfolding move_to state_move waiting_move
  skipped_waiting a true = refl
  skipped_waiting a false = refl

  asked_ping : (a : At t) → (space_of (move_to (Ask «Data») a).state.waiting.spaces «Data»).ping ≡ true
  unfolding move_to state_move waiting_move ping_asked
  asked_ping a = refl

  begin_ping : (a : At t) → (space_of a.state.waiting.spaces «Data»).ping ≡ true → (space_of (begun_after «Data» false a).state.waiting.spaces «Data»).ping ≡ true
  unfolding begun_after skipped_after move_to state_move waiting_move packet_begun streams_filed
  begin_ping a h =
      let b : At t = if is_skipped a.state.numbers «Data» then move_to Skip a else a in
      begun_ping b.state (ap (λ (w : Waiting). (space_of w.spaces «Data»).ping) (skipped_waiting a (is_skipped a.state.numbers «Data»)) ∙ h)

  pub probe_ping : (m : Meaning t) (time : ℕ) (quiet : Quiet) (b : Batch) (a : At t) → (space_of (probe_begun_after m time quiet b a).state.waiting.spaces «Data»).ping ≡ true
  unfolding probe_begun_after
  probe_ping m time quiet b a = let c : At t = held_after m time quiet b a in begin_ping (move_to (Ask «Data») c) (asked_ping c)
