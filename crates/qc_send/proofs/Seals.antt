-- A packet that was begun, whose frames were taken and sealed, is one that may follow.
use Rattle.std.proofs.Common.{◌≡◌, ℕ, ◌+◌, ◌-◌, ◌<◌, ◌≤◌, ◌==◌, List, ◌++◌, length, refl, ap, sym, ◌∙◌, subst, Bool, true, false, not, Option, ◌⊎◌, inl, inr, arith}
use Rattle.std.specs.List.{list_any}
use Rattle.std.proofs.lemmas.Bool.Decides.{nat_tests}
use Rattle.qc_base.specs.declared.side.SpaceId.{SpaceId}
use Rattle.qc_frame.specs.Frame.{FrameValue}
use Rattle.qc_frame.specs.FrameSpelling.{elicits, frames_spelling}
use Rattle.qc_send.specs.Filling.{batch_planned, padded_to, padding_to, size_to}
use Rattle.qc_send.specs.Joining.{IsBegun, IsRoomy, least_by}
use Rattle.qc_send.specs.Taking.{TakenNow}
use Rattle.qc_state.specs.declared.deeds.Did.{Did}
use Rattle.qc_state.specs.declared.form.Form.{Form}
use Rattle.qc_state.specs.declared.numbers.Numbers.{Numbers}
use Rattle.qc_state.specs.declared.transmit.Batch.{Batch}
use Rattle.qc_state.specs.Forms.{number_space}
use Rattle.qc_state.specs.Moves.{Seal, Take, move_to, state_move}
use Rattle.qc_state.specs.Numbers.{next_number}
use Rattle.qc_state.specs.Offers.{offers_in}
use Rattle.qc_state.specs.Spaces.{space_of}
use Rattle.qc_state.specs.Batches.{batch_grown, batch_opened}
use Rattle.qc_state.specs.Sending.{Carries, Going, IsPadded, LacksAckRoom, MayBegin, MayFollow, SendsOne, begun_after, begun_batch, begun_view, fills_up, flown_after, going, holds_owed, is_flown, is_key_nearly_used_up, packet_after, packet_bytes, packet_size, padding_in, room_beside, room_in, room_of, sealed_in}
use Rattle.qc_state.specs.Types.{TokenMaker, Types, Meaning}
use Rattle.qc_state.specs.View.{View, At, at}
use Rattle.qc_send.proofs.Begins.{begun_is, begun_state}
use Rattle.qc_send.proofs.Fits.{now_fits, room_holds}
use Rattle.qc_send.proofs.Padded.{beside_padded, elicits_kept, fills_first, owed_padded, padded_is, padded_size_is, padding_in_is, size_parts, taken_bare, least_near}
use Rattle.qc_send.proofs.Sizes.{least_fits, size_fits}
use Rattle.qc_send.proofs.Takes.{bytes_kept, fills_kept, number_kept, padded_kept, padding_kept, room_kept, sealed_now, size_kept, size_to_kept, take_padded}
use Rattle.qc_send.proofs.Waits.{taken_owed, taken_wait}

-- a packet begins a transmit where none was made before it
first_made : (n : ℕ) (first : Bool) → first ≡ (n == 0) → first ≡ true → n ≡ 0
first_made n first is e =
    let zero : (n == 0) ≡ true = sym is ∙ e in
    grind (arith, nat_tests)

opened_closing : (opens probes : Bool) (b : Batch) → (batch_opened opens probes b).closing ≡ b.closing
unfolding batch_opened
opened_closing true probes b = refl
opened_closing false probes b = refl

-- no datagram has many bytes
pub left_small : (c : Batch) (id : SpaceId) → IsBegun c id → c.capacity - c.filled ≤ 16383
left_small c id begun = omega (arith, begun.sized.within, begun.sized.small)

module _ {t : Types} where
  -- a batch in which a packet is begun knows of a close still
  pub begun_closing : (s : View t) (id : SpaceId) (opens : Bool) (b c : Batch) → c ≡ begun_batch s id opens b → c.closing ≡ b.closing
  unfolding begun_batch
  begun_closing s id opens b c is = ap (λ (x : Batch). x.closing) is ∙ opened_closing opens _ b

  -- what a packet carries, by the view and the batch once it was begun
  record IsCarried (maker : TokenMaker t) (closing due : Bool) (made time : ℕ) (v : View t) (c : Batch) (form : Form) (gs : List FrameValue) : Type 0 where
    sized : c.capacity ≤ 65527
    carries : Carries maker closing time v form (room_in c v form) gs
    holds : closing ≡ false → (holds_owed v (number_space form) gs ≡ true) ⊎ ((made ≡ 0) × LacksAckRoom time v (number_space form) (room_in c v form))
    full : closing ≡ false → 64 ≤ room_beside (room_in c v form) gs → offers_in (state_move (Take (number_space form) gs) v) (number_space form) ≡ false
    probes : closing ≡ false → due ≡ true → (list_any elicits gs ≡ true) ⊎ (room_beside (room_in c v form) gs < 64)
    padded : IsPadded c v form gs
    fits : c.filled + packet_size v form gs ≤ c.capacity

  -- frames that were taken, with PADDING behind them, are carried
  taken_carries : (maker : TokenMaker t) (closing first : Bool) (time : ℕ) (v : View t) (form : Form) (room least : ℕ) (fs : List FrameValue) → TakenNow maker closing first time v (number_space form) room fs → Carries maker closing time v form room (padded_to v form least fs)
  unfolding padded_to
  taken_carries maker closing first time v form room least fs (TakenNow.a_close e closes) = Carries.a_close e fs (padding_to v form least fs) closes refl
  taken_carries maker closing first time v form room least fs (TakenNow.what_waits e taken may oldest next issued some) =
      Carries.what_waits e fs (padding_to v form least fs) (taken_wait maker time v (number_space form) room fs taken may oldest next issued) refl

  -- and hold something that is owed
  taken_holds : {maker : TokenMaker t} (closing first : Bool) (made time : ℕ) (v : View t) (form : Form) (room least : ℕ) (fs : List FrameValue) → first ≡ (made == 0) → TakenNow maker closing first time v (number_space form) room fs → closing ≡ false →
      (holds_owed v (number_space form) (padded_to v form least fs) ≡ true) ⊎ ((made ≡ 0) × LacksAckRoom time v (number_space form) room)
  taken_holds closing first made time v form room least fs is_first (TakenNow.a_close e closes) free = absurd (cc (e, free))
  taken_holds closing first made time v form room least fs is_first (TakenNow.what_waits e taken may oldest next issued some) free = by_owed (taken_owed first time v (number_space form) room fs taken some)
    where
      by_owed : (holds_owed v (number_space form) fs ≡ true) ⊎ ((first ≡ true) × LacksAckRoom time v (number_space form) room) →
          (holds_owed v (number_space form) (padded_to v form least fs) ≡ true) ⊎ ((made ≡ 0) × LacksAckRoom time v (number_space form) room)
      by_owed (inl held) = inl (owed_padded v form least (number_space form) fs held)
      by_owed (inr lacks) = inr (first_made made first is_first lacks.0, lacks.1)

  -- PADDING behind what was taken leaves whether it is full, and answers a probe
  full_padded : (v : View t) (form : Form) (room least : ℕ) (fs : List FrameValue) → padding_in fs ≡ 0 → (64 ≤ room - length (frames_spelling fs) → offers_in (state_move (Take (number_space form) fs) v) (number_space form) ≡ false) →
      64 ≤ room_beside room (padded_to v form least fs) → offers_in (state_move (Take (number_space form) (padded_to v form least fs)) v) (number_space form) ≡ false
  full_padded v form room least fs bare full enough =
      ap (λ (x : View t). offers_in x (number_space form)) (take_padded form least fs v) ∙ full (subst (λ (n : ℕ). 64 ≤ n) (beside_padded v form room least fs bare) enough)

  probes_padded : (v : View t) (form : Form) (room least : ℕ) (fs : List FrameValue) → padding_in fs ≡ 0 → (list_any elicits fs ≡ true) ⊎ (room - length (frames_spelling fs) < 64) →
      (list_any elicits (padded_to v form least fs) ≡ true) ⊎ (room_beside room (padded_to v form least fs) < 64)
  probes_padded v form room least fs bare (inl some) = inl (elicits_kept v form least fs ∙ some)
  probes_padded v form room least fs bare (inr few) = inr (subst (λ (n : ℕ). n < 64) (sym (beside_padded v form room least fs bare)) few)

  -- the packet has room
  pub packet_fits : (next : Option SpaceId) (c : Batch) (v : View t) (form : Form) (nearly : Bool) (least : ℕ) (fs : List FrameValue) → IsBegun c (number_space form) → 25 ≤ room_of (c.capacity - c.filled) v form →
      length (frames_spelling fs) ≤ room_of (c.capacity - c.filled) v form → least ≡ least_by next (batch_planned v form nearly fs c) c.filled → c.filled + packet_size v form (padded_to v form least fs) ≤ c.capacity
  unfolding batch_planned packet_size
  packet_fits next c v form nearly least fs begun wide fit is =
      let behind = room_holds (c.capacity - c.filled) v form (length (frames_spelling fs)) wide fit in
      let asked : least ≤ c.capacity - c.filled = subst (λ (n : ℕ). n ≤ c.capacity - c.filled) (sym is) (least_fits next c (number_space form) form _ _ (fills_up v form fs) nearly begun (fills_first v form fs)) in
      size_fits c (number_space form) _ least _ (packet_size v form (padded_to v form least fs)) begun (padded_size_is v form least fs ∙ size_parts v form least fs)
      (omega (arith, least_near v form, behind.0)) asked (omega (arith, behind.1))

  -- what is asked of the packet as it is sealed
  pub room_taken : (left n room : ℕ) (e mid : View t) (form : Form) (fs : List FrameValue) → room ≡ room_of left e form → left ≡ n → mid ≡ state_move (Take (number_space form) fs) e → room ≡ room_of n mid form
  room_taken left n room e mid form fs is_room is_left is_mid =
      is_room ∙ ap (λ (x : ℕ). room_of x e form) is_left ∙ sym (room_kept n e form fs) ∙ ap (λ (v : View t). room_of n v form) (sym is_mid)

  pub least_small : (next : Option SpaceId) (c : Batch) (v : View t) (form : Form) (nearly : Bool) (least left : ℕ) (fs : List FrameValue) → IsBegun c (number_space form) → left ≡ c.capacity - c.filled → least ≡ least_by next (batch_planned v form nearly fs c) c.filled →
      least ≤ left
  unfolding batch_planned
  least_small next c v form nearly least left fs begun is_left is =
      omega (arith, is, is_left, least_fits next c (number_space form) form (next_number v.numbers (number_space form)) (size_to v form 0 fs) (fills_up v form fs) nearly begun (fills_first v form fs))

  -- so it is carried
  is_carried : (maker : TokenMaker t) (next : Option SpaceId) (closing first due nearly : Bool) (made time room least : ℕ) (v : View t) (c : Batch) (form : Form) (fs : List FrameValue) → IsBegun c (number_space form) → first ≡ (made == 0) →
      room ≡ room_of (c.capacity - c.filled) v form → 25 ≤ room → TakenNow maker closing first time v (number_space form) room fs →
      (closing ≡ false → 64 ≤ room - length (frames_spelling fs) → offers_in (state_move (Take (number_space form) fs) v) (number_space form) ≡ false) →
      (closing ≡ false → due ≡ true → (list_any elicits fs ≡ true) ⊎ (room - length (frames_spelling fs) < 64)) → least ≡ least_by next (batch_planned v form nearly fs c) c.filled →
      IsCarried maker closing due made time v c form (padded_to v form least fs)
  unfolding room_in
  is_carried maker next closing first due nearly made time room least v c form fs begun is_first is_room wide taken full probes is =
      let here : TakenNow maker closing first time v (number_space form) (room_of (c.capacity - c.filled) v form) fs = subst (λ (n : ℕ). TakenNow maker closing first time v (number_space form) n fs) is_room taken in
      let broad : 25 ≤ room_of (c.capacity - c.filled) v form = subst (λ (n : ℕ). 25 ≤ n) is_room wide in
      let bare : padding_in fs ≡ 0 = taken_bare maker closing first time v (number_space form) room fs taken in
      record {
        sized = omega (arith, begun.sized.within, begun.sized.small);
        carries = taken_carries maker closing first time v form (room_of (c.capacity - c.filled) v form) least fs here;
        holds = taken_holds closing first made time v form (room_of (c.capacity - c.filled) v form) least fs is_first here;
        full = λ free enough. full_padded v form room least fs bare (full free) (subst (λ (n : ℕ). 64 ≤ room_beside n (padded_to v form least fs)) (sym is_room) enough);
        probes = λ free owed. subst (λ (n : ℕ). (list_any elicits (padded_to v form least fs) ≡ true) ⊎ (room_beside n (padded_to v form least fs) < 64)) is_room (probes_padded v form room least fs bare (probes free owed));
        padded = padded_is next c v form nearly least fs begun broad (taken_bare maker closing first time v (number_space form) (room_of (c.capacity - c.filled) v form) fs here) is;
        fits = packet_fits next c v form nearly least fs begun broad (now_fits closing first time v (number_space form) (room_of (c.capacity - c.filled) v form) fs here broad) is;
      }

  -- a packet may follow that may be begun, and is carried
  may_follow : (m : Meaning t) (time : ℕ) (s v : View t) (b c : Batch) (form : Form) (opens due : Bool) (gs : List FrameValue) → MayBegin m time s b form opens → v ≡ begun_view s (number_space form) opens →
      c ≡ begun_batch s (number_space form) opens b → due ≡ not ((space_of s.waiting.spaces (number_space form)).probes == 0) → IsCarried m.token b.closing due b.made time v c form gs →
      MayFollow m time s b (record { form = form; opens = opens; frames = gs })
  may_follow m time s v b c form opens due gs may is_v is_c is_due carried =
      let here : IsCarried m.token b.closing due b.made time (begun_view s (number_space form) opens) (begun_batch s (number_space form) opens b) form gs =
      subst (λ (x : Batch). IsCarried m.token b.closing due b.made time (begun_view s (number_space form) opens) x form gs) is_c (subst (λ (x : View t). IsCarried m.token b.closing due b.made time x c form gs) is_v carried) in
      record {
        begins = may;
        sized = here.sized;
        carries = here.carries;
        holds = here.holds;
        full = here.full;
        probes = λ free owed. here.probes free (is_due ∙ ap not owed);
        padded = here.padded;
        fits = here.fits;
      }

  -- what a packet leaves, by the view once it was begun
  leads_by : (m : Meaning t) (time : ℕ) (g : Going t) (e : View t) (form : Form) (opens : Bool) (gs : List FrameValue) (f : At t) (batch : Batch) (buffer : List ℕ) → at e g.now.did ≡ begun_after (number_space form) opens g.now →
      f ≡ sealed_in m time form gs (at e g.now.did) →
      batch ≡ batch_grown form (next_number e.numbers (number_space form)) (packet_size e form gs) (padding_in gs) (fills_up e form gs) (is_key_nearly_used_up g.now.state form) (begun_batch g.now.state (number_space form) opens g.batch) →
      buffer ≡ g.out ++ packet_bytes m e form gs → going f batch buffer ≡ packet_after m time (record { form = form; opens = opens; frames = gs }) g
  unfolding packet_after
  leads_by m time g e form opens gs f batch buffer begun is_f is_batch is_buffer =
      let step : At t → Going t = λ (x : At t). going (sealed_in m time form gs x) (batch_grown form (next_number x.state.numbers (number_space form)) (packet_size x.state form gs) (padding_in gs) (fills_up x.state form gs)
      (is_key_nearly_used_up g.now.state form) (begun_batch g.now.state (number_space form) opens g.batch)) (g.out ++ packet_bytes m x.state form gs) in
      let here : going f batch buffer ≡ step (at e g.now.did) = λ i. record { now = is_f i; batch = is_batch i; out = is_buffer i } in
      here ∙ ap step begun

  -- taking frames leaves what is planned
  pub planned_kept : (s : View t) (form : Form) (nearly : Bool) (fs gs : List FrameValue) (c : Batch) → batch_planned (state_move (Take (number_space form) fs) s) form nearly gs c ≡ batch_planned s form nearly gs c
  unfolding batch_planned
  planned_kept s form nearly fs gs c =
      let numbers : (state_move (Take (number_space form) fs) s).numbers ≡ s.numbers = number_kept s form fs in
      let size : size_to (state_move (Take (number_space form) fs) s) form 0 gs ≡ size_to s form 0 gs = size_to_kept s form 0 fs gs in
      let fill : fills_up (state_move (Take (number_space form) fs) s) form gs ≡ fills_up s form gs = fills_kept s form fs gs in
      λ i. batch_grown form (next_number (numbers i) (number_space form)) (size i) 0 (fill i) nearly c

  -- the packet is one that may follow: from what the calls say that begin it, take the frames, plan it, seal it, and count it
  pub seals_taken : (opens first due nearly fills counts : Bool) (m : Meaning t) (time : ℕ) (form : Form) (g : Going t) (e mid : View t) (b f : At t) (c batch : Batch) (buffer : List ℕ) (next : Option SpaceId)
      (left room least number size padding : ℕ) (fs : List FrameValue) → first ≡ (g.batch.made == 0) → due ≡ not ((space_of g.now.state.waiting.spaces (number_space form)).probes == 0) →
      nearly ≡ is_key_nearly_used_up g.now.state form → MayBegin m time g.now.state g.batch form opens → IsRoomy g.batch (number_space form) opens →
      at e g.now.did ≡ begun_after (number_space form) opens g.now → c ≡ begun_batch g.now.state (number_space form) opens g.batch → left ≡ c.capacity - c.filled → room ≡ room_of left e form → 25 ≤ room →
      number ≡ next_number e.numbers (number_space form) → TakenNow m.token c.closing first time e (number_space form) room fs →
      (c.closing ≡ false → 64 ≤ room - length (frames_spelling fs) → offers_in mid (number_space form) ≡ false) → (c.closing ≡ false → due ≡ true → (list_any elicits fs ≡ true) ⊎ (room - length (frames_spelling fs) < 64)) →
      mid ≡ state_move (Take (number_space form) fs) e → least ≡ least_by next (batch_planned mid form nearly fs c) c.filled →
      b ≡ move_to (Seal time form (next_number mid.numbers (number_space form)) (packet_size mid form (padded_to mid form least fs)) (padded_to mid form least fs)) (at mid g.now.did) →
      buffer ≡ g.out ++ packet_bytes m mid form (padded_to mid form least fs) → size ≡ packet_size mid form (padded_to mid form least fs) → padding ≡ padding_to mid form least fs → fills ≡ fills_up mid form (padded_to mid form least fs) →
      counts ≡ is_flown mid (padded_to mid form least fs) → f ≡ flown_after m time size counts b → batch ≡ batch_grown form number size padding fills nearly c → SendsOne m time form g (going f batch buffer)
  unfolding begun_view
  seals_taken opens first due nearly fills counts m time form g e mid b f c batch buffer next left room least number size padding fs is_first is_due is_nearly may roomy begun is_c is_left is_room wide is_number taken full probes is_mid is_least is_b is_buffer
      is_size is_padding is_fills is_counts is_f is_batch =
      let id : SpaceId = number_space form in
      let ds : List Did = g.now.did in
      let gs : List FrameValue = padded_to e form least fs in
      let hs : List FrameValue = padded_to mid form least fs in
      let filled : hs ≡ gs = ap (λ (v : View t). padded_to v form least fs) is_mid ∙ padded_kept e form least fs fs in
      let size_e : packet_size mid form hs ≡ packet_size e form gs = ap (λ (xs : List FrameValue). packet_size mid form xs) filled ∙ ap (λ (v : View t). packet_size v form gs) is_mid ∙ size_kept e form fs gs in
      let number_e : next_number mid.numbers id ≡ next_number e.numbers id = ap (λ (v : Numbers). next_number v id) (ap (λ (x : View t). x.numbers) is_mid ∙ number_kept e form fs) in
      let padding_e : padding ≡ padding_in gs =
      is_padding ∙ ap (λ (v : View t). padding_to v form least fs) is_mid ∙ padding_kept e form least fs fs ∙ sym (padding_in_is e form least fs (taken_bare m.token c.closing first time e id room fs taken)) in
      let fills_e : fills ≡ fills_up e form gs = is_fills ∙ ap (λ (xs : List FrameValue). fills_up mid form xs) filled ∙ ap (λ (v : View t). fills_up v form gs) is_mid ∙ fills_kept e form fs gs in
      let bytes_e : packet_bytes m mid form hs ≡ packet_bytes m e form gs = ap (λ (xs : List FrameValue). packet_bytes m mid form xs) filled ∙ ap (λ (v : View t). packet_bytes m v form gs) is_mid ∙ bytes_kept m e form fs gs in
      let sealed : b ≡ move_to (Seal time form (next_number e.numbers id) (packet_size e form gs) gs) (at mid ds) =
      is_b ∙ ap (λ (n : ℕ). move_to (Seal time form n (packet_size mid form hs) hs) (at mid ds)) number_e ∙ ap (λ (n : ℕ). move_to (Seal time form (next_number e.numbers id) n hs) (at mid ds)) size_e
      ∙ ap (λ (xs : List FrameValue). move_to (Seal time form (next_number e.numbers id) (packet_size e form gs) xs) (at mid ds)) filled in
      let flown : f ≡ flown_after m time (packet_size e form gs) (is_flown mid gs) b =
      is_f ∙ ap (λ (n : ℕ). flown_after m time n counts b) (is_size ∙ size_e) ∙ ap (λ (x : Bool). flown_after m time (packet_size e form gs) x b) (is_counts ∙ ap (λ (xs : List FrameValue). is_flown mid xs) filled) in
      let now : f ≡ sealed_in m time form gs (at e ds) = sealed_now m time form ds e mid b f gs (is_mid ∙ sym (take_padded form least fs e)) sealed flown in
      let planned : least ≡ least_by next (batch_planned e form nearly fs c) c.filled =
      is_least ∙ ap (λ (x : Batch). least_by next x c.filled) (ap (λ (v : View t). batch_planned v form nearly fs c) is_mid ∙ planned_kept e form nearly fs fs c) in
      let room_e : room ≡ room_of (c.capacity - c.filled) e form = is_room ∙ ap (λ (n : ℕ). room_of n e form) is_left in
      let filled_up : c.closing ≡ false → 64 ≤ room - length (frames_spelling fs) → offers_in (state_move (Take id fs) e) id ≡ false =
      λ free enough. subst (λ (v : View t). offers_in v id ≡ false) is_mid (full free enough) in
      let carried : IsCarried m.token c.closing due g.batch.made time e c form gs =
      is_carried m.token next c.closing first due nearly g.batch.made time room least e c form fs (begun_is opens m time g.now.state g.batch c form may roomy is_c) is_first room_e wide taken filled_up probes planned in
      let grown : batch ≡ batch_grown form (next_number e.numbers id) (packet_size e form gs) (padding_in gs) (fills_up e form gs) (is_key_nearly_used_up g.now.state form) (begun_batch g.now.state id opens g.batch) =
      is_batch ∙ (λ i. batch_grown form (is_number i) ((is_size ∙ size_e) i) (padding_e i) (fills_e i) (is_nearly i) (is_c i)) in
      record {
        packet = record { form = form; opens = opens; frames = gs };
        same = refl;
        may = may_follow m time g.now.state e g.batch c form opens due gs may (begun_state opens g.now e id begun) is_c is_due
            (subst (λ (x : Bool). IsCarried m.token x due g.batch.made time e c form gs) (begun_closing g.now.state id opens g.batch c is_c) carried);
        leads = leads_by m time g e form opens gs f batch buffer begun now grown (is_buffer ∙ ap (λ (xs : List ℕ). g.out ++ xs) bytes_e);
      }
