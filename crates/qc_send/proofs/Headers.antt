-- The header of a packet, and what sealing it makes.
use Rattle.std.proofs.Common.{◌≡◌, ℕ, ◌+◌, ◌-◌, ◌≤◌, List, [], ◌++◌, length, length-append, refl, ap, sym, ◌∙◌, subst, ◌%◌, replicate, nat_lt, Bool, true, false, if◌then◌else◌, Option, Some, None, IsSome, is_some, ◌<◌, ◌^◌, arith}
use Rattle.std.specs.Result.{MatchResult}
use Rattle.std.specs.Prelude.{IfOk, IfSome, Result, Ok, Err, option_map}
use Rattle.rand_core.specs.Stream.{Stream}
use Rattle.qc_base.specs.PacketNumber.{number_len, number_of}
use Rattle.qc_base.specs.declared.side.SpaceId.TheVariants.{«Data»}
use Rattle.qc_base.specs.Varint.{varint, spelled, one, two, four, eight}
use Rattle.qc_frame.specs.Frame.{FrameValue}
use Rattle.qc_header.specs.declared.header.Header.{Header}
use Rattle.qc_header.specs.HeaderSpelling.{header_most, header_spelling, initial_spelling, short_spelling}
use Rattle.qc_header.proofs.WrittenHeaders.{length-number_bytes}
use Rattle.qc_frame.specs.FrameSpelling.{frames_spelling}
use Rattle.qc_frame.specs.declared.frames.FrameOf.TheVariants.{Padding}
use Rattle.qc_packet.specs.Building.{kill_of, min_size_of, padded_size}
use Rattle.qc_packet.specs.PacketSpelling.{padding_len}
use Rattle.qc_packet.specs.declared.slot.Slot.{Slot}
use Rattle.qc_send.specs.Headers.{header_with, token_bytes, token_in}
use Rattle.qc_state.specs.declared.deeds.Did.{Did}
use Rattle.qc_state.specs.declared.form.Form.{Form}
use Rattle.qc_state.specs.declared.form.Form.TheVariants.{Initial, Handshake, Early, OneRtt}
use Rattle.qc_state.specs.Forms.{number_space}
use Rattle.qc_state.specs.Moves.{Seal, move_to}
use Rattle.qc_state.specs.declared.keys.KeyUse.{KeyUse}
use Rattle.qc_state.specs.Keys.{has_keys_for, header_key, packet_key, reaches_limit, usage_of}
use Rattle.qc_state.specs.Numbers.{acked_number, next_number}
use Rattle.qc_state.specs.Sending.{flips_now, room_of, header_in, fills_up, is_flown, packet_bytes, packet_size, sealed_with, slot_with, spin_now}
use Rattle.qc_state.specs.Types.{Types, Meaning}
use Rattle.qc_state.specs.View.{Held, View, At, at, ideal}
use Rattle.qc_send.proofs.Built.{fresh_use, keyed_header, keyed_packet, keyed_usage, least_wide, no_kill}
use Rattle.qc_send.proofs.Padded.{padded_size_is, padding_is, plain_is}
use Rattle.qc_send.specs.Filling.{padded_to, padding_to, size_to}

-- a number has a byte at least
one_of : (n m : ℕ) (a b c : Bool) → 1 ≤ length (if a then spelled one n else if b then spelled two n else if c then spelled four n else spelled eight m)
one_of n m true b c = omega arith
one_of n m false true c = omega arith
one_of n m false false true = omega arith
one_of n m false false false = omega arith

varint_some : (n : ℕ) → 1 ≤ length (varint n)
unfolding varint
varint_some n = one_of n (n % 4611686018427387904) (nat_lt n 64) (nat_lt n 16384) (nat_lt n 1073741824)

varint_0 : length (varint 0) ≡ 1
unfolding varint
varint_0 = refl

-- what was found isn't missing
missing : {A : Type 0} (found given : Option A) → found ≡ given → IsSome given → found ≡ None → ⊥
missing found given is some none = cc (ap is_some (sym is ∙ none), some)

-- a function of what is there is there
mapped_some : {A B : Type 0} (f : A → B) (x : Option A) → IsSome x → IsSome (option_map f x)
mapped_some f None some = some
mapped_some f (Some a) some = refl

module _ {t : Types} where
  -- the header by its spin bit and its token
  header_by : (s : View t) (form : Form) → header_with s form (spin_now s) (token_in form s.setup.initial_token) ≡ header_in s form
  header_by s Initial = refl
  header_by s Handshake = refl
  header_by s Early = refl
  header_by s OneRtt = refl

  pub header_is : (s : View t) (form : Form) (spin : Bool) (token : List ℕ) (h : Header) → spin ≡ spin_now s → token ≡ token_in form s.setup.initial_token → h ≡ header_with s form spin token → h ≡ header_in s form
  header_is s form spin token h is_spin is_token is_h =
      is_h ∙ ap (λ (b : Bool). header_with s form b token) is_spin ∙ ap (λ (x : List ℕ). header_with s form (spin_now s) x) is_token ∙ header_by s form

  -- a token makes the header so much longer
  spelled_len : (s : View t) (form : Form) → length (header_spelling (header_in s form) 0) ≡ length (header_spelling (header_with s form false []) 0) + token_bytes form s.setup.initial_token
  unfolding header_spelling initial_spelling short_spelling
  spelled_len s Initial = simp length-append (omega (arith, varint_some (length s.setup.initial_token), varint_0))
  spelled_len s Handshake = omega arith
  spelled_len s Early = omega arith
  spelled_len s OneRtt = omega arith

  -- the header of a 1-RTT packet, by its parts
  pub short_bare : (s : View t) (form : Form) (cid number n : ℕ) → form ≡ OneRtt → cid ≡ length s.paths.current.remote_cid →
      number ≡ number_len (number_of (next_number s.numbers (number_space form)) (acked_number s.numbers (number_space form))) → n ≡ 1 + cid + number →
      n ≡ length (header_spelling (header_with s form false []) 0)
  unfolding header_spelling short_spelling
  short_bare s form cid number n is_form is_cid is_number is_n =
      let same : number ≡ number_len (number_of (next_number s.numbers «Data») (acked_number s.numbers «Data»)) =
      is_number ∙ ap (λ (f : Form). number_len (number_of (next_number s.numbers (number_space f)) (acked_number s.numbers (number_space f)))) is_form in
      let short : length (header_spelling (header_with s OneRtt false []) 0) ≡ 1 + length s.paths.current.remote_cid + number_len (number_of (next_number s.numbers «Data») (acked_number s.numbers «Data»)) =
      simp length-append (omega (arith, length-number_bytes (number_of (next_number s.numbers «Data») (acked_number s.numbers «Data»)))) in
      let whole : n ≡ length (header_spelling (header_with s OneRtt false []) 0) = omega (arith, is_n, is_cid, same, short) in
      whole ∙ ap (λ (f : Form). length (header_spelling (header_with s f false []) 0)) (sym is_form)

  -- that of another one, by what was written
  pub written_bare : (s : View t) (form : Form) (h : Header) (none : List ℕ) (n : ℕ) → none ≡ [] → h ≡ header_with s form false none → n ≡ length (header_spelling h 0) →
      n ≡ length (header_spelling (header_with s form false []) 0)
  written_bare s form h none n is_none is_h is_n =
      is_n ∙ ap (λ (x : Header). length (header_spelling x 0)) (is_h ∙ ap (λ (x : List ℕ). header_with s form false x) is_none)

  bare_most : (s : View t) (form : Form) → header_most (header_with s form false []) ≤ 61
  bare_most s Initial = omega arith
  bare_most s Handshake = omega arith
  bare_most s Early = omega arith
  bare_most s OneRtt = omega arith

  -- which is short
  pub written_most : (s : View t) (form : Form) (h : Header) (none : List ℕ) (n : ℕ) → none ≡ [] → h ≡ header_with s form false none → n ≤ header_most h → n ≤ 61
  written_most s form h none n is_none is_h most =
      let same : header_most h ≡ header_most (header_with s form false []) = ap (λ (x : Header). header_most x) (is_h ∙ ap (λ (x : List ℕ). header_with s form false x) is_none) in
      omega (arith, same, most, bare_most s form)

  -- the room for frames, by the length of the header without a token
  pub room_is : (left : ℕ) (s : View t) (form : Form) (token : List ℕ) (bare room more n : ℕ) → bare ≡ length (header_spelling (header_with s form false []) 0) → room ≡ left - 16 - bare →
      token ≡ s.setup.initial_token → more ≡ token_bytes form token → n ≡ room - more → n ≡ room_of left s form
  unfolding room_of
  room_is left s form token bare room more n is_bare is_room is_token is_more is_n =
      let rest : more ≡ token_bytes form s.setup.initial_token = is_more ∙ ap (λ (x : List ℕ). token_bytes form x) is_token in
      omega (arith, spelled_len s form, is_bare, is_room, rest, is_n)

  -- the packet can be begun, where its key may seal one more
  begins_with : (capacity : ℕ) (s : View t) (form : Form) (known : Option KeyUse) → capacity ≤ 16383 → reaches_limit 0 known ≡ false → next_number s.numbers (number_space form) < 2 ^ 62 - 1 → next_number s.numbers (number_space form) - acked_number s.numbers (number_space form) < 2 ^ 31 → 25 ≤ room_of capacity s form →
      IfSome known (λ usage. kill_of (slot_with s form usage) (header_in s form) 0 capacity ≡ None)
  begins_with capacity s form None most fresh low near wide = tt
  begins_with capacity s form (Some usage) most fresh low near wide = no_kill capacity s form usage most (fresh_use usage fresh) low near wide

  pub begins_still : (capacity : ℕ) (s : View t) (form : Form) (h : Header) → capacity ≤ 16383 → h ≡ header_in s form → reaches_limit 0 (usage_of s.keys form) ≡ false → next_number s.numbers (number_space form) < 2 ^ 62 - 1 →
      next_number s.numbers (number_space form) - acked_number s.numbers (number_space form) < 2 ^ 31 → 25 ≤ room_of capacity s form → IfSome (usage_of s.keys form) (λ usage. kill_of (slot_with s form usage) h 0 capacity ≡ None)
  begins_still capacity s form h most is_h fresh low near wide =
      subst (λ (x : Header). IfSome (usage_of s.keys form) (λ usage. kill_of (slot_with s form usage) x 0 capacity ≡ None)) (sym is_h) (begins_with capacity s form (usage_of s.keys form) most fresh low near wide)

  -- its header leaves room for what each packet needs
  pub sized_still : (capacity : ℕ) (s : View t) (form : Form) (h : Header) → h ≡ header_in s form → 25 ≤ room_of capacity s form → min_size_of 0 h + 16 ≤ capacity
  sized_still capacity s form h is_h wide = subst (λ (x : Header). min_size_of 0 x + 16 ≤ capacity) (sym is_h) (least_wide capacity s form wide)

  -- and its frames have room behind it
  pub room_still : (left room : ℕ) (s : View t) (form : Form) (h : Header) (fs : List FrameValue) → h ≡ header_in s form → room ≡ room_of left s form → 25 ≤ room → length (frames_spelling fs) ≤ room →
      length (header_spelling h 0) + length (frames_spelling fs) + 16 ≤ left
  unfolding room_of
  room_still left room s form h fs is_h is_room wide fits =
      let len : length (header_spelling h 0) ≡ length (header_spelling (header_in s form) 0) = ap (λ (x : Header). length (header_spelling x 0)) is_h in
      omega (arith, len, is_room, wide, fits)

  -- the frames have the PADDING that they need
  pub filled : (s : View t) (form : Form) (h : Header) (least : ℕ) (fs gs : List FrameValue) → h ≡ header_in s form → gs ≡ fs ++ replicate (padding_len h fs (padded_size h fs least)) Padding → gs ≡ padded_to s form least fs
  unfolding padded_to padding_to
  filled s form h least fs gs is_h is_gs = is_gs ∙ ap (λ (x : Header). fs ++ replicate (padding_len x fs (padded_size x fs least)) Padding) is_h

  -- the packet has as many bytes as it is to have, behind those before it
  pub sized : (s : View t) (form : Form) (h : Header) (least n start : ℕ) (fs : List FrameValue) → h ≡ header_in s form → n ≡ start + padded_size h fs least → n ≡ start + packet_size s form (padded_to s form least fs)
  unfolding size_to
  sized s form h least n start fs is_h is_n =
      is_n ∙ ap (λ (x : Header). start + padded_size x fs least) is_h ∙ ap (λ (x : ℕ). start + x) (sym (padded_size_is s form least fs))

  -- how many bytes that is, and how many of them are PADDING, by the buffer's lengths
  pub size_by : (s : View t) (form : Form) (h : Header) (least n start size : ℕ) (fs : List FrameValue) → h ≡ header_in s form → n ≡ start + padded_size h fs least → size ≡ n - start → size ≡ packet_size s form (padded_to s form least fs)
  size_by s form h least n start size fs is_h is_n is = omega (arith, sized s form h least n start fs is_h is_n, is)

  pub padding_by : (s : View t) (form : Form) (h : Header) (least left room n start size plain padding : ℕ) (fs : List FrameValue) → h ≡ header_in s form → room ≡ room_of left s form → 25 ≤ room →
      n ≡ start + padded_size h fs least → size ≡ n - start → plain ≡ left - room + length (frames_spelling fs) → padding ≡ size - plain → padding ≡ padding_to s form least fs
  padding_by s form h least left room n start size plain padding fs is_h is_room wide is_n is_size is_plain is =
      let whole : size ≡ packet_size s form (padded_to s form least fs) = size_by s form h least n start size fs is_h is_n is_size in
      omega (arith, is, whole, padded_size_is s form least fs, padding_is s form least fs, plain_is left room s form plain fs is_room wide is_plain)

  -- these are its bytes
  pub spelled_by : (m : Meaning t) (s : View t) (form : Form) (h : Header) (least : ℕ) (fs gs : List FrameValue) (old buffer : List ℕ) → h ≡ header_in s form → gs ≡ fs ++ replicate (padding_len h fs (padded_size h fs least)) Padding →
      buffer ≡ old ++ sealed_with m (header_key s.keys form) (packet_key s.keys form) (flips_now s) h (next_number s.numbers (number_space form)) (frames_spelling gs) → buffer ≡ old ++ packet_bytes m s form (padded_to s form least fs)
  unfolding packet_bytes
  spelled_by m s form h least fs gs old buffer is_h is_gs is =
      is ∙ ap (λ (x : Header). old ++ sealed_with m (header_key s.keys form) (packet_key s.keys form) (flips_now s) x (next_number s.numbers (number_space form)) (frames_spelling gs)) is_h
      ∙ ap (λ (xs : List FrameValue). old ++ sealed_with m (header_key s.keys form) (packet_key s.keys form) (flips_now s) (header_in s form) (next_number s.numbers (number_space form)) (frames_spelling xs)) (filled s form h least fs gs is_h is_gs)

  -- whether it counts as in flight
  pub flies_by : (s : View t) (form : Form) (h : Header) (least : ℕ) (fs gs : List FrameValue) (counts : Bool) → h ≡ header_in s form → gs ≡ fs ++ replicate (padding_len h fs (padded_size h fs least)) Padding →
      counts ≡ is_flown s gs → counts ≡ is_flown s (padded_to s form least fs)
  flies_by s form h least fs gs counts is_h is_gs is = is ∙ ap (λ (xs : List FrameValue). is_flown s xs) (filled s form h least fs gs is_h is_gs)

  -- and whether it fills up its datagram
  pub fills_by : (s : View t) (form : Form) (h : Header) (least : ℕ) (fs gs : List FrameValue) (fills : Bool) → h ≡ header_in s form → gs ≡ fs ++ replicate (padding_len h fs (padded_size h fs least)) Padding →
      fills ≡ fills_up s form gs → fills ≡ fills_up s form (padded_to s form least fs)
  fills_by s form h least fs gs fills is_h is_gs is = is ∙ ap (λ (xs : List FrameValue). fills_up s form xs) (filled s form h least fs gs is_h is_gs)

  -- sealing it is its move
  pub moved_by : (s : View t) (ds : List Did) (time : ℕ) (form : Form) (h : Header) (number size least : ℕ) (fs gs : List FrameValue) (b : At t) → h ≡ header_in s form → number ≡ next_number s.numbers (number_space form) →
      gs ≡ fs ++ replicate (padding_len h fs (padded_size h fs least)) Padding → size ≡ packet_size s form (padded_to s form least fs) → b ≡ move_to (Seal time form number size gs) (at s ds) →
      b ≡ move_to (Seal time form (next_number s.numbers (number_space form)) (packet_size s form (padded_to s form least fs)) (padded_to s form least fs)) (at s ds)
  moved_by s ds time form h number size least fs gs b is_h is_number is_gs is_size is =
      is ∙ ap (λ (n : ℕ). move_to (Seal time form n size gs) (at s ds)) is_number
      ∙ ap (λ (n : ℕ). move_to (Seal time form (next_number s.numbers (number_space form)) n gs) (at s ds)) is_size
      ∙ ap (λ (xs : List FrameValue). move_to (Seal time form (next_number s.numbers (number_space form)) (packet_size s form (padded_to s form least fs)) xs) (at s ds)) (filled s form h least fs gs is_h is_gs)

module _ {t : Types} {R : Type 0} (stream : R → Stream) where
  -- where there are keys, there are all, and a slot
  pub header_key_there : (v w : Held t R) (form : Form) (found : Option t.H) → w ≡ v → has_keys_for v.keys form ≡ true → found ≡ header_key w.keys form → found ≡ None → ⊥
  header_key_there v w form found same keyed is none =
      missing found (header_key w.keys form) is (keyed_header w.keys form (ap (λ (x : Held t R). has_keys_for x.keys form) same ∙ keyed)) none

  pub packet_key_there : (v w : Held t R) (form : Form) (found : Option t.P) → w ≡ v → has_keys_for v.keys form ≡ true → found ≡ packet_key w.keys form → found ≡ None → ⊥
  packet_key_there v w form found same keyed is none =
      missing found (packet_key w.keys form) is (keyed_packet w.keys form (ap (λ (x : Held t R). has_keys_for x.keys form) same ∙ keyed)) none

  pub slot_there : (v : Held t R) (form : Form) (found : Option Slot) → has_keys_for v.keys form ≡ true → found ≡ option_map (slot_with (ideal stream v) form) (usage_of v.keys form) → found ≡ None → ⊥
  slot_there v form found keyed is none =
      missing found (option_map (slot_with (ideal stream v) form) (usage_of v.keys form)) is
      (mapped_some (slot_with (ideal stream v) form) (usage_of v.keys form) (keyed_usage v.keys form keyed)) none

  -- the token of an Initial packet
  pub token_is : {E : Type 0} (v w : Held t R) (form : Form) (copied : Result (List ℕ) E) → w ≡ v → form ≡ Initial → MatchResult copied (λ copy. copy ≡ w.setup.initial_token) (λ error. ⊥ → ⊥) → IfOk copied (λ token. token ≡ token_in form v.setup.initial_token)
  token_is v w form (Ok copy) same first is = is ∙ ap (λ (x : Held t R). x.setup.initial_token) same ∙ ap (λ (x : Form). token_in x v.setup.initial_token) (sym first)
  token_is v w form (Err e) same first is = tt
