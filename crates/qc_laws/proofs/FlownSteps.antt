-- Steps of the streams, and whether a packet in flight has a byte of one.
use Rattle.std.proofs.Common.{◌≡◌, ◌∙◌, inl, inr, ℕ, zero, suc, ◌==◌, Bool, true, false, cond, nat_le, nat_lt, List, [], ◌∷◌, ◌++◌, ap, sym, refl, Option, Some, None}
use Rattle.std.specs.Prelude.{◌&&◌, ◌||◌, filter, map}
use Rattle.std.specs.List.{list_all, list_any}
use Rattle.std.proofs.lemmas.Bool.{false≢true}
use Rattle.std.proofs.lemmas.List.Folds.{list_any-append}
use Rattle.qc_flight.specs.Packets.{Entry}
use Rattle.qc_flight.specs.declared.stream_frames.StreamMeta.{StreamMeta}
use Rattle.qc_frame.specs.Frame.{FrameValue}
use Rattle.qc_frame.specs.declared.frames.FrameOf.TheVariants as frames
use Rattle.qc_streams.specs.Carried.{keeps_streams}
use Rattle.qc_streams.specs.Counts.{saturated}
use Rattle.qc_streams.specs.Finishing.{acked_on, with_acked}
use Rattle.qc_streams.specs.StreamBytes.{part_end}
use Rattle.qc_streams.specs.Waits.{Step, BytesAcked, BytesLost, ControlAcked, ControlLost, ControlSealed, EarlyRefused, PartSealed}
use Rattle.qc_streams.specs.declared.control.Control.{Control}
use Rattle.qc_state.specs.Flight.{metas_of}
use Rattle.qc_state.specs.Moves.{is_call}
use Rattle.qc_state.specs.StreamFrames.{acked_steps, control_of, control_step, controls_acked, controls_lost, lost_steps, meta_acked, meta_lost, packet_acked, packet_lost, sealed_steps}
use Rattle.qc_state.specs.Streams.{asked_for}
use Rattle.qc_laws.specs.AckedLaws.{is_acked}
use Rattle.qc_laws.specs.BytesLaws.{has_byte, is_held}
use Rattle.qc_laws.specs.StreamsLaws.{is_sealed}
use Rattle.qc_laws.proofs.BytePlaces.{flown_by}
use Rattle.qc_laws.proofs.CryptoBuffers.{or_either, or_left, or_right}
use Rattle.qc_laws.proofs.FramesAcked.{AreQuiet}
use Rattle.qc_laws.proofs.HarmlessTests.{first_holds, second_holds}
use Rattle.qc_laws.proofs.StreamStands.{flown_on}

module _ (id o : ℕ) where
  -- ---- lists of steps

  pub flown_append : (ys zs : List Step) (b : Bool) → flown_on id o (ys ++ zs) b ≡ flown_on id o zs (flown_on id o ys b)
  flown_append [] zs b = refl
  flown_append (y ∷ ys) zs b = flown_append ys zs (flown_by id o y b)

  flown_more : (x : Step) (b c : Bool) → (b ≡ true → c ≡ true) → flown_by id o x b ≡ true → flown_by id o x c ≡ true
  flown_more (PartSealed d) b c f h = by (d.id == id && (nat_le d.part.offset o && nat_lt o (part_end d.part))) h
    where
      by : (r : Bool) → cond r true b ≡ true → cond r true c ≡ true
      by true e = refl
      by false e = f e
  flown_more (BytesLost j start stop last) b c f h = by (j == id && (nat_le start o && nat_lt o stop)) h
    where
      by : (r : Bool) → cond r false b ≡ true → cond r false c ≡ true
      by true e = e
      by false e = f e
  flown_more x b c f h = f h

  pub all_flown_more : (xs : List Step) (b c : Bool) → (b ≡ true → c ≡ true) → flown_on id o xs b ≡ true → flown_on id o xs c ≡ true
  all_flown_more [] b c f h = f h
  all_flown_more (x ∷ xs) b c f h = all_flown_more xs (flown_by id o x b) (flown_by id o x c) (flown_more x b c f) h

  -- ---- steps with which nothing is sealed

  flown_less : (x : Step) (b : Bool) → is_sealed x ≡ false → flown_by id o x b ≡ true → b ≡ true
  flown_less (PartSealed d) b is h = absurd (false≢true (sym is))
  flown_less (BytesLost j start stop last) b is h = by (j == id && (nat_le start o && nat_lt o stop)) h
    where
      by : (r : Bool) → cond r false b ≡ true → b ≡ true
      by true e = absurd (false≢true e)
      by false e = e
  flown_less x b is h = h

  pub all_flown_less : (kind : Step → Bool) → ((x : Step) → kind x ≡ true → is_sealed x ≡ false) → (xs : List Step) (b : Bool) → list_all kind xs ≡ true → flown_on id o xs b ≡ true → b ≡ true
  all_flown_less kind apart [] b is h = h
  all_flown_less kind apart (x ∷ xs) b is h =
      flown_less x b (apart x (first_holds (kind x) (list_all kind xs) is)) (all_flown_less kind apart xs (flown_by id o x b) (second_holds (kind x) (list_all kind xs) is) h)

  call_unsealed : (x : Step) → is_call x ≡ true → is_sealed x ≡ false
  call_unsealed (PartSealed d) h = absurd (false≢true h)
  call_unsealed (ControlSealed c) h = absurd (false≢true h)
  call_unsealed _ h = refl

  asked_flown : (n : ℕ) (b : Bool) → flown_on id o (asked_for n) b ≡ b
  asked_flown zero b = refl
  asked_flown (suc n) b = asked_flown n b

  pub quiet_flown : (xs : List Step) (b : Bool) → AreQuiet xs → flown_on id o xs b ≡ true → b ≡ true
  quiet_flown xs b (inl calls) h = all_flown_less is_call call_unsealed xs b calls h
  quiet_flown xs b (inr asked) h = sym (asked_flown asked.0 b) ∙ ap (λ (ys : List Step). flown_on id o ys b) (sym asked.1) ∙ h

  -- ---- frames that are lost

  control_flown : (x : Control → Step) → ((c : Control) (b : Bool) → flown_by id o (x c) b ≡ b) → (c : Option Control) (b : Bool) → flown_on id o (control_step x c) b ≡ b
  control_flown x same None b = refl
  control_flown x same (Some c) b = same c b

  controls_flown : (fs : List FrameValue) (b : Bool) → flown_on id o (controls_lost fs) b ≡ b
  controls_flown [] b = refl
  controls_flown (f ∷ fs) b =
      flown_append (control_step ControlLost (control_of f)) (controls_lost fs) b
      ∙ ap (λ (c : Bool). flown_on id o (controls_lost fs) c) (control_flown ControlLost (λ c d. refl) (control_of f) b) ∙ controls_flown fs b

  metas_flown : (ms : List StreamMeta) (b : Bool) → flown_on id o (map meta_lost ms) b ≡ true → (b ≡ true) × (list_any (has_byte id o) ms ≡ false)
  metas_flown [] b h = (h, refl)
  metas_flown (meta ∷ ms) b h = by (metas_flown ms) (has_byte id o meta) refl
    where
      by : ((c : Bool) → flown_on id o (map meta_lost ms) c ≡ true → (c ≡ true) × (list_any (has_byte id o) ms ≡ false)) → (c : Bool) → has_byte id o meta ≡ c → (b ≡ true) × ((has_byte id o meta || list_any (has_byte id o) ms) ≡ false)
      by later true is = absurd (false≢true ((later false (sym (ap (λ (c : Bool). flown_on id o (map meta_lost ms) (cond c false b)) is) ∙ h)).0))
      by later false is =
          let rest = later b (sym (ap (λ (c : Bool). flown_on id o (map meta_lost ms) (cond c false b)) is) ∙ h) in
          (rest.0, ap (λ (c : Bool). c || list_any (has_byte id o) ms) is ∙ rest.1)

  neither : (a b : Bool) → a ≡ false → b ≡ false → (a || b) ≡ false
  neither true b e f = e
  neither false b e f = f

  pub lost_flown : (es : List Entry) (b : Bool) → flown_on id o (lost_steps es) b ≡ true → (b ≡ true) × (is_held id o es ≡ false)
  unfolding lost_steps packet_lost
  lost_flown [] b h = (h, refl)
  lost_flown (e ∷ es) b h =
      let parted : flown_on id o (lost_steps es) (flown_on id o (packet_lost e.1) b) ≡ true = sym (flown_append (packet_lost e.1) (lost_steps es) b) ∙ h in
      let rest = lost_flown es (flown_on id o (packet_lost e.1) b) parted in
      let here : flown_on id o (map meta_lost e.1.stream_frames) b ≡ true =
      ap (λ (c : Bool). flown_on id o (map meta_lost e.1.stream_frames) c) (sym (controls_flown e.1.frames b)) ∙ sym (flown_append (controls_lost e.1.frames) (map meta_lost e.1.stream_frames) b) ∙ rest.0 in
      let first = metas_flown e.1.stream_frames b here in
      (first.0, neither (list_any (has_byte id o) e.1.stream_frames) (is_held id o es) first.1 rest.1)

  -- ---- frames that are sealed

  pub sealed_flown : (fs : List FrameValue) (b : Bool) → flown_on id o (sealed_steps fs) b ≡ true → (b || list_any (has_byte id o) (metas_of fs)) ≡ true
  unfolding sealed_steps part_end saturated
  sealed_flown [] b h = or_left b false h
  sealed_flown (frames.Stream stream offset fin body ∷ fs) b h =
      let meta : StreamMeta = record { id = stream; start = offset; end = _; fin = fin } in
      by (has_byte id o meta) (sealed_flown fs (cond (has_byte id o meta) true b) h)
    where
      by : (c : Bool) → (cond c true b || list_any (has_byte id o) (metas_of fs)) ≡ true → (b || (c || list_any (has_byte id o) (metas_of fs))) ≡ true
      by true e = or_right b true refl
      by false e = e
  sealed_flown (f ∷ fs) b h =
      sealed_flown fs b (ap (λ (c : Bool). flown_on id o (sealed_steps fs) c) (sym (control_flown ControlSealed (λ c d. refl) (control_of f) b)) ∙ sym (flown_append (control_step ControlSealed (control_of f)) (sealed_steps fs) b) ∙ h)

  -- ---- frames that are acknowledged

  acked_one : (x : Step) (b : Bool) → keeps_streams x ≡ true → is_acked x ≡ false → with_acked id o x b ≡ b
  unfolding with_acked keeps_streams
  acked_one (BytesAcked j start stop last) b keeps h = absurd (false≢true (sym h))
  acked_one (ControlAcked c) b keeps h = refl
  acked_one EarlyRefused b keeps h = absurd (false≢true keeps)
  acked_one x b keeps h = refl

  -- others say nothing of it
  pub acked_filtered : (xs : List Step) (b : Bool) → list_all keeps_streams xs ≡ true → acked_on id o xs b ≡ acked_on id o (filter is_acked xs) b
  unfolding acked_on
  acked_filtered [] b keep = refl
  acked_filtered (x ∷ xs) b keep = by (λ c. acked_filtered xs c (second_holds (keeps_streams x) (list_all keeps_streams xs) keep)) (is_acked x) refl
    where
      keeps : keeps_streams x ≡ true
      keeps = first_holds (keeps_streams x) (list_all keeps_streams xs) keep

      by : ((c : Bool) → acked_on id o xs c ≡ acked_on id o (filter is_acked xs) c) → (c : Bool) → is_acked x ≡ c → acked_on id o xs (with_acked id o x b) ≡ acked_on id o (cond c (x ∷ filter is_acked xs) (filter is_acked xs)) b
      by rest true is = rest (with_acked id o x b)
      by rest false is = rest (with_acked id o x b) ∙ ap (λ (c : Bool). acked_on id o (filter is_acked xs) c) (acked_one x b keeps is)

  pub acked_append : (xs ys : List Step) (b : Bool) → acked_on id o (xs ++ ys) b ≡ acked_on id o ys (acked_on id o xs b)
  unfolding acked_on
  acked_append [] ys b = refl
  acked_append (x ∷ xs) ys b = acked_append xs ys (with_acked id o x b)

  control_acks : (c : Option Control) (b : Bool) → acked_on id o (control_step ControlAcked c) b ≡ b
  unfolding acked_on with_acked
  control_acks None b = refl
  control_acks (Some c) b = refl

  controls_ack : (fs : List FrameValue) (b : Bool) → acked_on id o (controls_acked fs) b ≡ b
  unfolding acked_on
  controls_ack [] b = refl
  controls_ack (f ∷ fs) b =
      acked_append (control_step ControlAcked (control_of f)) (controls_acked fs) b ∙ ap (λ (c : Bool). acked_on id o (controls_acked fs) c) (control_acks (control_of f) b) ∙ controls_ack fs b

  metas_ack : (ms : List StreamMeta) (b : Bool) → acked_on id o (map meta_acked ms) b ≡ true → (b || list_any (has_byte id o) ms) ≡ true
  unfolding acked_on with_acked
  metas_ack [] b h = or_left b false h
  metas_ack (meta ∷ ms) b h = by (has_byte id o meta) (metas_ack ms (cond (has_byte id o meta) true b) h)
    where
      by : (c : Bool) → (cond c true b || list_any (has_byte id o) ms) ≡ true → (b || (c || list_any (has_byte id o) ms)) ≡ true
      by true e = or_right b true refl
      by false e = e

  or_three : (a b c : Bool) → ((a || b) || c) ≡ true → (a || (b || c)) ≡ true
  or_three true b c h = refl
  or_three false b c h = h

  pub acked_held : (es : List Entry) (b : Bool) → acked_on id o (acked_steps es) b ≡ true → (b || is_held id o es) ≡ true
  unfolding acked_steps acked_on
  acked_held [] b h = or_left b false h
  acked_held (e ∷ es) b h =
      let metas : Bool = list_any (has_byte id o) e.1.stream_frames in
      let parted : acked_on id o (acked_steps es) (acked_on id o (packet_acked e.1) b) ≡ true = sym (acked_append (packet_acked e.1) (acked_steps es) b) ∙ h in
      or_three b metas (is_held id o es)
      (or_either (acked_on id o (packet_acked e.1) b) (is_held id o es) _
      (λ x. or_left (b || metas) (is_held id o es) (metas_ack e.1.stream_frames b
      (ap (λ (c : Bool). acked_on id o (map meta_acked e.1.stream_frames) c) (sym (controls_ack e.1.frames b)) ∙ sym (acked_append (controls_acked e.1.frames) (map meta_acked e.1.stream_frames) b) ∙ x)))
      (λ x. or_right (b || metas) (is_held id o es) x) (acked_held es (acked_on id o (packet_acked e.1) b) parted))

  -- ---- lists of packets

  pub held_append : (es fs : List Entry) → is_held id o (es ++ fs) ≡ (is_held id o es || is_held id o fs)
  held_append es fs = list_any-append (λ e. list_any (has_byte id o) e.1.stream_frames) es fs
