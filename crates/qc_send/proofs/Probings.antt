-- A probe of the path's size that was begun, taken, sealed and counted is the end of a transmit.
use Rattle.std.proofs.Common.{◌≡◌, ℕ, if◌then◌else◌, ◌+◌, ◌-◌, ◌<◌, ◌≤◌, ◌^◌, List, [], ◌∷◌, ◌++◌, length, replicate, refl, ap, sym, ◌∙◌, subst, Bool, true, false, Option, Some, None, inr, arith}
use Rattle.std.specs.Prelude.{option_map}
use Rattle.qc_base.specs.declared.side.SpaceId.TheVariants.{«Data»}
use Rattle.qc_base.specs.Varint.{varint}
use Rattle.qc_frame.specs.Frame.{FrameValue}
use Rattle.qc_frame.specs.FrameSpelling.{frames_spelling, spelling}
use Rattle.qc_frame.specs.declared.frames.FrameOf.TheVariants.{Padding, Ping}
use Rattle.qc_send.specs.Ending.{EndsSo}
use Rattle.qc_send.specs.Filling.{padded_to, size_to}
use Rattle.qc_state.specs.declared.deeds.Did.{Did}
use Rattle.qc_state.specs.declared.deeds.Quiet.{Quiet}
use Rattle.qc_state.specs.declared.deeds.Quiet.TheVariants.{NothingOwed, Silent, Amplification, Congestion, Pacing, Killed}
use Rattle.qc_state.specs.declared.form.Form.TheVariants as form
use Rattle.qc_state.specs.declared.keys.KeyGroup.{KeyGroup}
use Rattle.qc_state.specs.declared.life.ConnectionError.{ConnectionError}
use Rattle.qc_state.specs.declared.numbers.Numbers.{Numbers}
use Rattle.qc_state.specs.declared.transmit.Batch.{Batch}
use Rattle.qc_state.specs.declared.transmit.Transmit.{Transmit}
use Rattle.qc_state.specs.Keys.{has_keys_for, reaches_limit, usage_of}
use Rattle.qc_state.specs.Moves.{Ask, Probe, Say, Seal, Take, deeds_move, keys_move, move_to, numbers_move, state_move}
use Rattle.qc_state.specs.Numbers.{acked_number, coming_number, next_number}
use Rattle.qc_state.specs.Paths.{held_size}
use Rattle.qc_state.specs.Sending.{Died, Hushed, MayProbe, Probed, begun_after, begun_view, ending_after, flown_after, going, held_after, is_flown, is_key_nearly_used_up, is_key_used_up, is_used_up, kill_in, packet_bytes, packet_size, probe_begun_after, probe_frames, probe_sealed, probe_size, probed_after, quiet_of, room_of, sealed_in, sent_out, sent_size, spared_after, transmit_with, DiesProbing, probe_bytes}
use Rattle.qc_state.specs.Stopping.{killed_after}
use Rattle.qc_state.specs.Types.{Types, Meaning}
use Rattle.qc_state.specs.View.{View, At, at}
use Rattle.qc_state.proofs.Begun.{begun_same}
use Rattle.qc_state.proofs.Probing.{due_keyed, probe_keys}
use Rattle.qc_state.proofs.Transmitted.{unlimited}
use Rattle.qc_send.proofs.Begins.{begun_acked, begun_number, number_low, number_near}
use Rattle.qc_send.proofs.Padded.{least_near, padded_size_is, padding_is, size_parts}
use Rattle.qc_send.proofs.Takes.{bytes_kept, number_kept, padded_kept, room_kept, sealed_now, size_kept, take_padded}
use Rattle.qc_state.specs.Updating.{tried_after, tried_view}
use Rattle.qc_state.proofs.Tried.{tried_same}
use Rattle.qc_state.proofs.TriedTurns.{probe_tried, quiet_tried}
use Rattle.qc_send.proofs.Transmits.{tried_sent}

-- a PING has one byte
ping_len : length (frames_spelling (Ping ∷ [])) ≡ 1
unfolding spelling varint
ping_len = refl

pub ping_fits : (fs : List FrameValue) (room : ℕ) → fs ≡ Ping ∷ [] → 25 ≤ room → length (frames_spelling fs) ≤ room
ping_fits fs room is wide = omega (arith, ap (λ (xs : List FrameValue). length (frames_spelling xs)) is, ping_len, wide)

-- a size that is held lies between bounds
sized_by : (b : Bool) (o : Option ℕ) (size : ℕ) → (if b then option_map held_size o else None) ≡ Some size → (1200 ≤ size) × (size ≤ 16383)
sized_by true (Some n) size h = let is : held_size n ≡ size = cc in (omega (arith, is), omega (arith, is))
sized_by true None size h = cc
sized_by false o size h = cc

module _ {t : Types} where
  -- ---- its size and its frames

  -- it has as many bytes as are asked for, where that is enough for each packet
  pub probe_whole : (s : View t) (size room : ℕ) → room ≡ room_of size s form.OneRtt → 25 ≤ room → size_to s form.OneRtt size (Ping ∷ []) ≡ size
  unfolding room_of packet_size
  probe_whole s size room is wide = omega (arith, is, wide, size_parts s form.OneRtt size (Ping ∷ []), least_near s form.OneRtt, ping_len)

  pub probe_padded : (s : View t) (size room : ℕ) → room ≡ room_of size s form.OneRtt → 25 ≤ room → padded_to s form.OneRtt size (Ping ∷ []) ≡ probe_frames s size
  unfolding padded_to probe_frames
  probe_padded s size room is wide =
      ap (λ (n : ℕ). Ping ∷ replicate n Padding) (padding_is s form.OneRtt size (Ping ∷ []) ∙ ap (λ (n : ℕ). n - packet_size s form.OneRtt (Ping ∷ [])) (probe_whole s size room is wide))

  pub probe_sized : (s : View t) (size room : ℕ) → room ≡ room_of size s form.OneRtt → 25 ≤ room → packet_size s form.OneRtt (probe_frames s size) ≡ size
  probe_sized s size room is wide =
      ap (λ (fs : List FrameValue). packet_size s form.OneRtt fs) (sym (probe_padded s size room is wide)) ∙ padded_size_is s form.OneRtt size (Ping ∷ []) ∙ probe_whole s size room is wide

  -- ---- its number and its key

  held_numbers : (m : Meaning t) (time : ℕ) (quiet : Quiet) (b : Batch) (a : At t) → (held_after m time quiet b a).state.numbers ≡ a.state.numbers
  unfolding held_after move_to state_move numbers_move
  held_numbers m time NothingOwed b a = refl
  held_numbers m time Silent b a = refl
  held_numbers m time Amplification b a = refl
  held_numbers m time Congestion b a = refl
  held_numbers m time Pacing b a = refl
  held_numbers m time Killed b a = refl

  asked_numbers : (a : At t) → (move_to (Ask «Data») a).state.numbers ≡ a.state.numbers
  unfolding move_to state_move numbers_move
  asked_numbers a = refl

  abbrev before : Meaning t → ℕ → Quiet → Batch → At t → At t
  before m time quiet b a = move_to (Ask «Data») (held_after m time quiet b a)

  before_numbers : (m : Meaning t) (time : ℕ) (quiet : Quiet) (b : Batch) (a : At t) → (before m time quiet b a).state.numbers ≡ a.state.numbers
  before_numbers m time quiet b a = asked_numbers (held_after m time quiet b a) ∙ held_numbers m time quiet b a

  begun_again : (m : Meaning t) (time : ℕ) (quiet : Quiet) (b : Batch) (a : At t) → (probe_begun_after m time quiet b a).state ≡ (begun_after «Data» false (at (before m time quiet b a).state [])).state
  unfolding probe_begun_after begun_view
  begun_again m time quiet b a = begun_same «Data» false (before m time quiet b a)

  probe_number : (m : Meaning t) (time : ℕ) (quiet : Quiet) (b : Batch) (a : At t) → next_number (probe_begun_after m time quiet b a).state.numbers «Data» ≡ coming_number a.state.numbers «Data»
  probe_number m time quiet b a =
      ap (λ (v : View t). next_number v.numbers «Data») (begun_again m time quiet b a) ∙ begun_number false (before m time quiet b a).state «Data»
      ∙ ap (λ (v : Numbers). coming_number v «Data») (before_numbers m time quiet b a)

  probe_acked : (m : Meaning t) (time : ℕ) (quiet : Quiet) (b : Batch) (a : At t) → acked_number a.state.numbers «Data» ≤ acked_number (probe_begun_after m time quiet b a).state.numbers «Data»
  probe_acked m time quiet b a =
      omega (arith, ap (λ (v : Numbers). acked_number v «Data») (before_numbers m time quiet b a), begun_acked false (before m time quiet b a).state «Data», ap (λ (v : View t). acked_number v.numbers «Data») (begun_again m time quiet b a))

  -- what holds of its number holds once the PING was taken too
  taken_view : (m : Meaning t) (time : ℕ) (quiet : Quiet) (b : Batch) (a : At t) (e mid : View t) → at e a.did ≡ probe_begun_after m time quiet b a → mid ≡ state_move (Take «Data» (Ping ∷ [])) e → mid.numbers ≡ (probe_begun_after m time quiet b a).state.numbers
  taken_view m time quiet b a e mid begun is = ap (λ (x : View t). x.numbers) is ∙ number_kept e form.OneRtt (Ping ∷ []) ∙ ap (λ (x : At t). x.state.numbers) begun

  probe_near_begun : (m : Meaning t) (time : ℕ) (quiet : Quiet) (b : Batch) (a : At t) (e : View t) → kill_in b a.state form.OneRtt ≡ None → at e a.did ≡ probe_begun_after m time quiet b a →
      next_number e.numbers «Data» - acked_number e.numbers «Data» < 2 ^ 31
  unfolding is_used_up
  probe_near_begun m time quiet b a e kill begun =
      let near : coming_number a.state.numbers «Data» - acked_number a.state.numbers «Data» < 2 ^ 31 = number_near (coming_number a.state.numbers «Data») (acked_number a.state.numbers «Data») (unlimited b a.state form.OneRtt kill).1 in
      subst (λ (x : At t). next_number x.state.numbers «Data» - acked_number x.state.numbers «Data» < 2 ^ 31) (sym begun) (omega (arith, near, probe_number m time quiet b a, probe_acked m time quiet b a))

  pub probe_near : (m : Meaning t) (time : ℕ) (quiet : Quiet) (b : Batch) (a : At t) (e mid : View t) → kill_in b a.state form.OneRtt ≡ None → at e a.did ≡ probe_begun_after m time quiet b a → mid ≡ state_move (Take «Data» (Ping ∷ [])) e →
      next_number mid.numbers «Data» - acked_number mid.numbers «Data» < 2 ^ 31
  probe_near m time quiet b a e mid kill begun is =
      subst (λ (v : Numbers). next_number v «Data» - acked_number v «Data» < 2 ^ 31) (sym (ap (λ (x : View t). x.numbers) is ∙ number_kept e form.OneRtt (Ping ∷ []))) (probe_near_begun m time quiet b a e kill begun)

  pub probe_low : (m : Meaning t) (time : ℕ) (quiet : Quiet) (b : Batch) (a : At t) (e mid : View t) → kill_in b a.state form.OneRtt ≡ None → at e a.did ≡ probe_begun_after m time quiet b a → mid ≡ state_move (Take «Data» (Ping ∷ [])) e →
      next_number mid.numbers «Data» < 2 ^ 62 - 1
  unfolding is_used_up
  probe_low m time quiet b a e mid kill begun is =
      let low : coming_number a.state.numbers «Data» < 2 ^ 62 - 1 = number_low (coming_number a.state.numbers «Data») (acked_number a.state.numbers «Data») (unlimited b a.state form.OneRtt kill).1 in
      subst (λ (n : ℕ). n < 2 ^ 62 - 1) (sym (ap (λ (v : Numbers). next_number v «Data») (taken_view m time quiet b a e mid begun is) ∙ probe_number m time quiet b a)) low

  taken_keys : (m : Meaning t) (time : ℕ) (quiet : Quiet) (b : Batch) (a : At t) (e mid : View t) → at e a.did ≡ probe_begun_after m time quiet b a → mid ≡ state_move (Take «Data» (Ping ∷ [])) e → mid.keys ≡ a.state.keys
  unfolding state_move keys_move
  taken_keys m time quiet b a e mid begun is = ap (λ (x : View t). x.keys) is ∙ ap (λ (x : At t). x.state.keys) begun ∙ probe_keys m time quiet b a

  pub probe_keyed : (m : Meaning t) (time size : ℕ) (quiet : Quiet) (b : Batch) (a : At t) (e mid : View t) → MayProbe m time a.state b quiet size → at e a.did ≡ probe_begun_after m time quiet b a → mid ≡ state_move (Take «Data» (Ping ∷ [])) e →
      has_keys_for mid.keys form.OneRtt ≡ true
  probe_keyed m time size quiet b a e mid may begun is = ap (λ (k : KeyGroup t.H t.P). has_keys_for k form.OneRtt) (taken_keys m time quiet b a e mid begun is) ∙ due_keyed time size a.state may.due

  pub probe_fresh : (m : Meaning t) (time : ℕ) (quiet : Quiet) (b : Batch) (a : At t) (e mid : View t) → kill_in b a.state form.OneRtt ≡ None → at e a.did ≡ probe_begun_after m time quiet b a → mid ≡ state_move (Take «Data» (Ping ∷ [])) e →
      reaches_limit 0 (usage_of mid.keys form.OneRtt) ≡ false
  unfolding is_key_used_up
  probe_fresh m time quiet b a e mid kill begun is = ap (λ (k : KeyGroup t.H t.P). reaches_limit 0 (usage_of k form.OneRtt)) (taken_keys m time quiet b a e mid begun is) ∙ (unlimited b a.state form.OneRtt kill).0

  -- a size that is probed is held so
  pub probe_held : (m : Meaning t) (time size : ℕ) (s : View t) (b : Batch) (quiet : Quiet) → MayProbe m time s b quiet size → (1200 ≤ size) × (size ≤ 16383)
  unfolding probe_size
  probe_held m time size s b quiet may = sized_by _ _ size may.due

  -- ---- what it leaves

  -- it was begun by the calls one behind the other
  pub probe_begins : (m : Meaning t) (time : ℕ) (quiet : Quiet) (b : Batch) (a : At t) (c d e : View t) (ds : List Did) → ds ≡ a.did → at c ds ≡ held_after m time quiet b a → d ≡ state_move (Ask «Data») c → at e ds ≡ begun_after «Data» false (at d ds) →
      at e ds ≡ probe_begun_after m time quiet b a
  unfolding probe_begun_after move_to deeds_move
  probe_begins m time quiet b a c d e ds same held asked begun =
      begun ∙ ap (λ (x : View t). begun_after «Data» false (at x ds)) asked ∙ ap (λ (x : At t). begun_after «Data» false (move_to (Ask «Data») x)) held

  -- it was taken, sealed and counted
  pub probe_seals : (m : Meaning t) (time size room bytes : ℕ) (counts : Bool) (ds : List Did) (e mid : View t) (b f : At t) → room ≡ room_of size e form.OneRtt → 25 ≤ room → mid ≡ state_move (Take «Data» (Ping ∷ [])) e →
      b ≡ move_to (Seal time form.OneRtt (next_number mid.numbers «Data») (packet_size mid form.OneRtt (padded_to mid form.OneRtt size (Ping ∷ []))) (padded_to mid form.OneRtt size (Ping ∷ []))) (at mid ds) →
      bytes ≡ packet_size mid form.OneRtt (padded_to mid form.OneRtt size (Ping ∷ [])) → counts ≡ is_flown mid (padded_to mid form.OneRtt size (Ping ∷ [])) → f ≡ flown_after m time bytes counts b →
      f ≡ sealed_in m time form.OneRtt (probe_frames e size) (at e ds)
  probe_seals m time size room bytes counts ds e mid b f is_room wide is_mid is_b is_bytes is_counts is_f =
      let fs : List FrameValue = Ping ∷ [] in
      let gs : List FrameValue = padded_to e form.OneRtt size fs in
      let hs : List FrameValue = padded_to mid form.OneRtt size fs in
      let filled : hs ≡ gs = ap (λ (v : View t). padded_to v form.OneRtt size fs) is_mid ∙ padded_kept e form.OneRtt size fs fs in
      let size_e : packet_size mid form.OneRtt hs ≡ packet_size e form.OneRtt gs =
      ap (λ (xs : List FrameValue). packet_size mid form.OneRtt xs) filled ∙ ap (λ (v : View t). packet_size v form.OneRtt gs) is_mid ∙ size_kept e form.OneRtt fs gs in
      let number_e : next_number mid.numbers «Data» ≡ next_number e.numbers «Data» = ap (λ (v : Numbers). next_number v «Data») (ap (λ (x : View t). x.numbers) is_mid ∙ number_kept e form.OneRtt fs) in
      let sealed : b ≡ move_to (Seal time form.OneRtt (next_number e.numbers «Data») (packet_size e form.OneRtt gs) gs) (at mid ds) =
      is_b ∙ ap (λ (n : ℕ). move_to (Seal time form.OneRtt n (packet_size mid form.OneRtt hs) hs) (at mid ds)) number_e ∙ ap (λ (n : ℕ). move_to (Seal time form.OneRtt (next_number e.numbers «Data») n hs) (at mid ds)) size_e
      ∙ ap (λ (xs : List FrameValue). move_to (Seal time form.OneRtt (next_number e.numbers «Data») (packet_size e form.OneRtt gs) xs) (at mid ds)) filled in
      let flown : f ≡ flown_after m time (packet_size e form.OneRtt gs) (is_flown mid gs) b =
      is_f ∙ ap (λ (n : ℕ). flown_after m time n counts b) (is_bytes ∙ size_e) ∙ ap (λ (x : Bool). flown_after m time (packet_size e form.OneRtt gs) x b) (is_counts ∙ ap (λ (xs : List FrameValue). is_flown mid xs) filled) in
      sealed_now m time form.OneRtt ds e mid b f gs (is_mid ∙ sym (take_padded form.OneRtt size fs e)) sealed flown ∙ ap (λ (xs : List FrameValue). sealed_in m time form.OneRtt xs (at e ds)) (probe_padded e size room is_room wide)

  -- its bytes are those of its packet
  pub probe_spelled : (m : Meaning t) (size room : ℕ) (e mid : View t) (old buffer : List ℕ) → room ≡ room_of size e form.OneRtt → 25 ≤ room → mid ≡ state_move (Take «Data» (Ping ∷ [])) e → old ≡ [] →
      buffer ≡ old ++ packet_bytes m mid form.OneRtt (padded_to mid form.OneRtt size (Ping ∷ [])) → buffer ≡ packet_bytes m e form.OneRtt (probe_frames e size)
  probe_spelled m size room e mid old buffer is_room wide is_mid empty is =
      let fs : List FrameValue = Ping ∷ [] in
      is ∙ ap (λ (xs : List ℕ). xs ++ packet_bytes m mid form.OneRtt (padded_to mid form.OneRtt size fs)) empty
      ∙ ap (λ (v : View t). packet_bytes m v form.OneRtt (padded_to v form.OneRtt size fs)) is_mid ∙ bytes_kept m e form.OneRtt fs (padded_to (state_move (Take «Data» fs) e) form.OneRtt size fs)
      ∙ ap (λ (xs : List FrameValue). packet_bytes m e form.OneRtt xs) (padded_kept e form.OneRtt size fs fs ∙ probe_padded e size room is_room wide)

  -- so it is with the frames that a call gives
  pub probe_seals_so : (m : Meaning t) (time size room bytes : ℕ) (counts : Bool) (ds : List Did) (e mid : View t) (b f : At t) (fs : List FrameValue) → fs ≡ Ping ∷ [] → room ≡ room_of size e form.OneRtt → 25 ≤ room → mid ≡ state_move (Take «Data» (Ping ∷ [])) e →
      b ≡ move_to (Seal time form.OneRtt (next_number mid.numbers «Data») (packet_size mid form.OneRtt (padded_to mid form.OneRtt size fs)) (padded_to mid form.OneRtt size fs)) (at mid ds) →
      bytes ≡ packet_size mid form.OneRtt (padded_to mid form.OneRtt size fs) → counts ≡ is_flown mid (padded_to mid form.OneRtt size fs) → f ≡ flown_after m time bytes counts b →
      f ≡ sealed_in m time form.OneRtt (probe_frames e size) (at e ds)
  probe_seals_so m time size room bytes counts ds e mid b f fs is is_room wide is_mid is_b is_bytes is_counts is_f =
      probe_seals m time size room bytes counts ds e mid b f is_room wide is_mid
      (subst (λ (xs : List FrameValue). b ≡ move_to (Seal time form.OneRtt (next_number mid.numbers «Data») (packet_size mid form.OneRtt (padded_to mid form.OneRtt size xs)) (padded_to mid form.OneRtt size xs)) (at mid ds)) is is_b)
      (is_bytes ∙ ap (λ (xs : List FrameValue). packet_size mid form.OneRtt (padded_to mid form.OneRtt size xs)) is)
      (is_counts ∙ ap (λ (xs : List FrameValue). is_flown mid (padded_to mid form.OneRtt size xs)) is) is_f

  pub probe_spelled_so : (m : Meaning t) (time size room : ℕ) (quiet : Quiet) (batch : Batch) (a : At t) (e mid : View t) (old buffer : List ℕ) (fs : List FrameValue) → fs ≡ Ping ∷ [] → at e a.did ≡ probe_begun_after m time quiet batch a → room ≡ room_of size e form.OneRtt → 25 ≤ room →
      mid ≡ state_move (Take «Data» (Ping ∷ [])) e → old ≡ [] → buffer ≡ old ++ packet_bytes m mid form.OneRtt (padded_to mid form.OneRtt size fs) → buffer ≡ probe_bytes m time size quiet batch a
  probe_spelled_so m time size room quiet batch a e mid old buffer fs is begun is_room wide is_mid empty is_buffer =
      probe_spelled m size room e mid old buffer is_room wide is_mid empty (is_buffer ∙ ap (λ (xs : List FrameValue). old ++ packet_bytes m mid form.OneRtt (padded_to mid form.OneRtt size xs)) is)
      ∙ ap (λ (x : At t). packet_bytes m x.state form.OneRtt (probe_frames x.state size)) begun

  -- as many as were asked for
  pub probe_full : (size room : ℕ) (e mid : View t) (old buffer : List ℕ) (fs : List FrameValue) → fs ≡ Ping ∷ [] → room ≡ room_of size e form.OneRtt → 25 ≤ room → mid ≡ state_move (Take «Data» (Ping ∷ [])) e → old ≡ [] →
      length buffer ≡ length old + packet_size mid form.OneRtt (padded_to mid form.OneRtt size fs) → length buffer ≡ size
  probe_full size room e mid old buffer fs is is_room wide is_mid empty full =
      let room_m : room ≡ room_of size mid form.OneRtt = is_room ∙ sym (room_kept size e form.OneRtt (Ping ∷ [])) ∙ ap (λ (v : View t). room_of size v form.OneRtt) (sym is_mid) in
      let whole : packet_size mid form.OneRtt (padded_to mid form.OneRtt size fs) ≡ size =
      ap (λ (xs : List FrameValue). packet_size mid form.OneRtt (padded_to mid form.OneRtt size xs)) is ∙ padded_size_is mid form.OneRtt size (Ping ∷ []) ∙ probe_whole mid size room room_m wide in
      omega (arith, full, whole, ap (λ (xs : List ℕ). length xs) empty)

  -- it was marked by a call
  pub probe_marked : (time n size : ℕ) (quiet : Quiet) (f : At t) (s : View t) → s ≡ state_move (Probe time n size quiet) f.state → at s f.did ≡ move_to (Probe time n size quiet) f
  unfolding move_to deeds_move
  probe_marked time n size quiet f s is = ap (λ (x : View t). at x f.did) is

  -- the search waits for it, and the connection closes, where it is to
  pub probe_leads : (m : Meaning t) (time size number : ℕ) (quiet : Quiet) (nearly : Bool) (b : Batch) (a f : At t) (e : View t) (g h : At t) → at e a.did ≡ probe_begun_after m time quiet b a → f ≡ sealed_in m time form.OneRtt (probe_frames e size) (at e a.did) →
      number ≡ next_number e.numbers «Data» → g ≡ move_to (Probe time number size quiet) f → nearly ≡ is_key_nearly_used_up e form.OneRtt → h ≡ spared_after time nearly g → h ≡ probed_after m time size quiet b a
  unfolding probed_after probe_sealed
  probe_leads m time size number quiet nearly b a f e g h begun is_f is_number is_g is_nearly is_h =
      is_h ∙ ap (λ (x : Bool). spared_after time x g) is_nearly ∙ ap (λ (x : At t). spared_after time (is_key_nearly_used_up e form.OneRtt) x) (is_g ∙ ap (λ (n : ℕ). move_to (Probe time n size quiet) f) is_number ∙ ap (λ (x : At t). move_to (Probe time (next_number e.numbers «Data») size quiet) x) is_f)
      ∙ ap (λ (x : At t). spared_after time (is_key_nearly_used_up x.state form.OneRtt) (probe_sealed m time size quiet x)) begun

  -- ---- the end of a transmit

  -- nothing is sealed, for a cause
  pub quiet_ends : (m : Meaning t) (time : ℕ) (a mid b : At t) (batch : Batch) (quiet : Quiet) (found : Option ℕ) (buffer : List ℕ) → batch.made ≡ 0 → quiet_of m time a.state batch ≡ Some quiet → found ≡ probe_size time a.state → found ≡ None →
      mid ≡ held_after m time quiet batch a → b ≡ move_to (Say quiet) mid → buffer ≡ [] → EndsSo m time (going a batch buffer) b None buffer
  unfolding ending_after
  quiet_ends m time a mid b batch quiet found buffer none cause is nothing held moved empty = record {
    packets = [];
    ending = Hushed quiet;
    may = tt;
    ends = (none, cause, sym is ∙ nothing);
    leads = moved ∙ ap (λ (x : At t). move_to (Say quiet) x) held;
    answer = refl;
    bytes = empty;
    full = ap length empty;
  }

  -- a probe is due, also behind an update that is tried for it
  pub probe_may : (m : Meaning t) (time size : ℕ) (a c : At t) (batch : Batch) (quiet : Quiet) (found : Option ℕ) → c ≡ tried_after m form.OneRtt a → batch.made ≡ 0 → quiet_of m time a.state batch ≡ Some quiet → found ≡ probe_size time a.state → found ≡ Some size →
      MayProbe m time c.state batch quiet size
  probe_may m time size a c batch quiet found tried none cause is some =
      subst (λ (x : At t). MayProbe m time x.state batch quiet size) (sym tried)
      (record { none = none; cause = quiet_tried m time batch form.OneRtt a ∙ cause; due = probe_tried m time batch form.OneRtt a ∙ sym is ∙ some })

  -- that can't begin: the connection ends
  pub probe_dies : (m : Meaning t) (time size : ℕ) (a c b : At t) (batch : Batch) (quiet : Quiet) (why : ConnectionError) (killed : Option ConnectionError) (sent : Option Transmit) (old buffer : List ℕ) → c ≡ tried_after m form.OneRtt a →
      MayProbe m time c.state batch quiet size → killed ≡ kill_in batch c.state form.OneRtt → killed ≡ Some why → b ≡ move_to (Say Killed) (killed_after why c) → sent ≡ None → buffer ≡ [] → EndsSo m time (going a batch old) b sent buffer
  unfolding ending_after
  probe_dies m time size a c b batch quiet why killed sent old buffer tried may is some moved is_sent empty = record {
    packets = [];
    ending = Died form.OneRtt why;
    may = tt;
    ends = inr (subst (λ (v : View t). DiesProbing m time v batch form.OneRtt why) (ap (λ (x : At t). x.state) tried ∙ tried_same m form.OneRtt a)
        (record { quiet = quiet; size = size; may = may; now = refl; kill = sym is ∙ some }));
    leads = moved ∙ ap (λ (x : At t). move_to (Say Killed) (killed_after why x)) tried;
    answer = is_sent;
    bytes = empty;
    full = ap length empty ∙ sym (ap sent_size is_sent);
  }

  -- or is sealed
  pub probe_ends : (m : Meaning t) (time size : ℕ) (a c b : At t) (batch : Batch) (quiet : Quiet) (killed : Option ConnectionError) (sent : Transmit) (old buffer : List ℕ) → c ≡ tried_after m form.OneRtt a → MayProbe m time c.state batch quiet size →
      killed ≡ kill_in batch c.state form.OneRtt → killed ≡ None → b ≡ probed_after m time size quiet batch c → Some sent ≡ sent_out (Probed quiet size) (transmit_with c.state batch) → buffer ≡ probe_bytes m time size quiet batch c → length buffer ≡ sent.size →
      EndsSo m time (going a batch old) b (Some sent) buffer
  unfolding ending_after
  probe_ends m time size a c b batch quiet killed sent old buffer tried may is none moved is_sent spelled full =
      let same : c.state ≡ tried_view m a.state form.OneRtt = ap (λ (x : At t). x.state) tried ∙ tried_same m form.OneRtt a in
      record {
        packets = [];
        ending = Probed quiet size;
        may = tt;
        ends = (subst (λ (v : View t). MayProbe m time v batch quiet size) same may, sym (ap (λ (v : View t). kill_in batch v form.OneRtt) same) ∙ sym is ∙ none);
        leads = moved ∙ ap (λ (x : At t). probed_after m time size quiet batch x) tried;
        answer = is_sent ∙ ap (λ (x : Transmit). sent_out (Probed quiet size) x) (ap (λ (x : At t). transmit_with x.state batch) tried ∙ tried_sent m form.OneRtt a batch);
        bytes = spelled ∙ ap (λ (x : At t). probe_bytes m time size quiet batch x) tried;
        full = full;
      }
