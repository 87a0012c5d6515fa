-- What a packet that is sealed, acknowledged or lost leaves of the bytes that wait and of what is in flight, in each space.
use Rattle.std.proofs.Common.{◌≡◌, ℕ, ◌<◌, ◌≤◌, ◌⊎◌, inl, inr, List, [], ◌∷◌, ◌++◌, refl, ap, sym, ◌∙◌, subst, Bool, true, false, Option, Some, None, if◌then◌else◌, arith}
use Rattle.std.specs.Prelude.{◌==◌, ◌||◌, is_some, IsPermutation}
use Rattle.std.specs.List.{list_any}
use Rattle.std.proofs.lemmas.List.Folds.{list_any-append}
use Rattle.std.proofs.lemmas.List.Sorted.{list_any-IsPermutation}
use Rattle.qc_base.specs.declared.ecn.EcnCodepoint.{EcnCodepoint}
use Rattle.qc_base.specs.declared.range_set.NumberRange.{NumberRange}
use Rattle.qc_base.specs.declared.side.SpaceId.{SpaceId}
use Rattle.qc_base.specs.declared.side.SpaceId.TheVariants.{Initial, Handshake, «Data»}
use Rattle.qc_flight.specs.Packets.{Entry}
use Rattle.qc_flight.specs.declared.sent.SentPacket.{SentPacket}
use Rattle.qc_frame.specs.Frame.{FrameValue}
use Rattle.qc_path.specs.declared.controller.Controller.{Ghosts as Control}
use Rattle.qc_recovery.specs.Losses.{rank}
use Rattle.qc_recovery.specs.Runs.{in_space}
use Rattle.qc_recovery.specs.Steps.{After, SpaceAfter, ack_after, loss_first, occasion, probe_fired, probe_line, sent_after, space_after, space_sent, space_timed, timeout_after, timeout_by}
use Rattle.qc_recovery.specs.Steps as recovery
use Rattle.qc_recovery.specs.declared.calls.AckValues.{AckValues}
use Rattle.qc_recovery.specs.declared.calls.Around.{Around}
use Rattle.qc_recovery.specs.declared.calls.Fired.{Fired}
use Rattle.qc_recovery.specs.declared.calls.Fired.TheVariants as fired
use Rattle.qc_recovery.specs.declared.path.PathData.{PathData}
use Rattle.qc_recovery.specs.declared.recovery.Recovery.{Recovery}
use Rattle.qc_recovery.proofs.RunsSettle.{count_keeps, put_flight}
use Rattle.qc_recovery.proofs.Settling.{ack_settles, timer_settles}
use Rattle.qc_send_stream.specs.Buffer.{Buffer, discarded}
use Rattle.qc_state.specs.declared.form.Form.{Form}
use Rattle.qc_state.specs.declared.form.Form.TheVariants as form
use Rattle.qc_state.specs.declared.spaces.Spaces.{Spaces}
use Rattle.qc_state.specs.declared.waiting.SpaceWaiting.{SpaceWaiting}
use Rattle.qc_state.specs.declared.waiting.Waiting.{Waiting}
use Rattle.qc_laws.specs.CryptoLaws.{BytesHold, CryptoHolds, carries, is_awaited, is_carried}
use Rattle.qc_state.specs.Flight.{kept_frames}
use Rattle.qc_state.specs.Spaces.{is_space, space_of, with_space}
use Rattle.qc_state.specs.Waiting.{acked_in, all_again, all_confirmed, confirmed, crypto_more, fired_in, lost_in, marks_begun, nothing_left, packets_lost, probes_added, without_all}
use Rattle.qc_base.specs.Time.{plus}
use Rattle.qc_frame.specs.declared.frames.FrameOf.TheVariants as frames
use Rattle.qc_state.specs.declared.keys.KeyGroup.{KeyGroup}
use Rattle.qc_state.specs.declared.keys.OneRttKeys.{OneRttKeys}
use Rattle.qc_state.specs.declared.keys.SpaceKeys.{SpaceKeys}
use Rattle.qc_state.specs.declared.life.ConnectionError.{ConnectionError}
use Rattle.qc_state.specs.declared.life.Life.{Life}
use Rattle.qc_state.specs.declared.lower.Lower.{Lower}
use Rattle.qc_state.specs.Keys.{NewKeys, NoKeys, HandshakeKeys, DataKeys, count_one, failure_counted, has_keys, key_used, keys_dropped, keys_given, ring_used, form_in, has_keys_for}
use Rattle.qc_state.specs.Lower.{packet_flown}
use Rattle.qc_state.specs.Moves.{AreNext}
use Rattle.qc_state.specs.Receiving.{is_below}
use Rattle.qc_state.specs.Run.{began}
use Rattle.qc_laws.proofs.CryptoBuffers.{More, Stays, all_awaited, all_kept_has, all_stays, all_again_more, lost_in_awaited, lost_in_more, more_awaited, more_here, or_either, or_left, or_right}

-- ---- spaces

pub same_or : (id space : SpaceId) → (id ≡ space) ⊎ (is_space id space ≡ false)
same_or Initial Initial = inl refl
same_or Initial Handshake = inr refl
same_or Initial Data = inr refl
same_or Handshake Initial = inr refl
same_or Handshake Handshake = inl refl
same_or Handshake Data = inr refl
same_or Data Initial = inr refl
same_or Data Handshake = inr refl
same_or Data Data = inl refl

-- a space that is put in its place is found there, and the others stay
pub put_here : (id : SpaceId) (v : Spaces SpaceWaiting) (w : SpaceWaiting) → space_of (with_space v id w) id ≡ w
put_here Initial v w = refl
put_here Handshake v w = refl
put_here Data v w = refl

pub put_other : (id space : SpaceId) (v : Spaces SpaceWaiting) (w : SpaceWaiting) → is_space id space ≡ false → space_of (with_space v space w) id ≡ space_of v id
put_other Initial Initial v w h = cc
put_other Initial Handshake v w h = refl
put_other Initial Data v w h = refl
put_other Handshake Initial v w h = refl
put_other Handshake Handshake v w h = cc
put_other Handshake Data v w h = refl
put_other Data Initial v w h = refl
put_other Data Handshake v w h = refl
put_other Data Data v w h = cc

-- where a space keeps its CRYPTO bytes, each does
pub put_crypto : (id space : SpaceId) (v : Spaces SpaceWaiting) (w : SpaceWaiting) → w.crypto ≡ (space_of v space).crypto → (space_of (with_space v space w) id).crypto ≡ (space_of v id).crypto
put_crypto Initial Initial v w h = h
put_crypto Initial Handshake v w h = refl
put_crypto Initial Data v w h = refl
put_crypto Handshake Initial v w h = refl
put_crypto Handshake Handshake v w h = h
put_crypto Handshake Data v w h = refl
put_crypto Data Initial v w h = refl
put_crypto Data Handshake v w h = refl
put_crypto Data Data v w h = h

pub rank_same : (id : SpaceId) → (rank id == rank id) ≡ true
rank_same Initial = refl
rank_same Handshake = refl
rank_same Data = refl

pub rank_other : (id space : SpaceId) → is_space id space ≡ false → (rank space == rank id) ≡ false
rank_other Initial Initial h = cc
rank_other Initial Handshake h = refl
rank_other Initial Data h = refl
rank_other Handshake Initial h = refl
rank_other Handshake Handshake h = cc
rank_other Handshake Data h = refl
rank_other Data Initial h = refl
rank_other Data Handshake h = refl
rank_other Data Data h = cc

-- ---- what is acknowledged leaves the bytes

pub confirmed_crypto : (w : SpaceWaiting) (f : FrameValue) → (confirmed w f).crypto ≡ w.crypto
confirmed_crypto w (frames.Ack ack) = refl
confirmed_crypto w _ = refl

pub all_confirmed_crypto : (w : SpaceWaiting) (fs : List FrameValue) → (all_confirmed w fs).crypto ≡ w.crypto
all_confirmed_crypto w [] = refl
all_confirmed_crypto w (f ∷ fs) = all_confirmed_crypto (confirmed w f) fs ∙ confirmed_crypto w f

pub acked_crypto : (w : SpaceWaiting) (es : List Entry) → (acked_in w es).crypto ≡ w.crypto
acked_crypto w [] = refl
acked_crypto w (e ∷ es) = acked_crypto (all_confirmed w e.1.frames) es ∙ all_confirmed_crypto w e.1.frames

-- ---- bytes

module _ (o : ℕ) where
  pub carried_before : (before acked : List Entry) → is_carried o before ≡ true → is_carried o (before ++ acked) ≡ true
  carried_before before acked h = list_any-append (λ e. list_any (carries o) e.1.frames) before acked ∙ or_left _ _ h

  pub carried_behind : (before acked : List Entry) → is_carried o acked ≡ true → is_carried o (before ++ acked) ≡ true
  carried_behind before acked h = list_any-append (λ e. list_any (carries o) e.1.frames) before acked ∙ or_right (is_carried o before) _ h

-- nothing was written nor sealed, and nothing is in flight that wasn't
pub more_bytes : (before acked : List Entry) (b c : Buffer) (flight flight' : List Entry) → More b c → flight' ≡ flight → BytesHold before b flight → BytesHold (before ++ acked) c flight'
more_bytes before acked b c flight flight' more same h = record {
  kept = λ o less. more.kept o (h.kept o (subst (λ (n : ℕ). o < n) more.written less));
  bytes = λ o less.
      or_either (is_awaited o b) (is_carried o flight || is_carried o before) _ (λ e. or_left _ _ (more_awaited b c more o e))
      (λ e. or_right (is_awaited o c) _ (or_either (is_carried o flight) (is_carried o before) _ (λ x. or_left _ _ (ap (is_carried o) same ∙ x)) (λ x. or_right (is_carried o flight') _ (carried_before o before acked x)) e))
      (h.bytes o (subst (λ (n : ℕ). o < n) more.written less));
}

-- packets are acknowledged and lost
pub settled_bytes : (before acked lost flight flight' : List Entry) (w : SpaceWaiting) → IsPermutation flight (acked ++ (lost ++ flight')) → BytesHold before w.crypto flight → BytesHold (before ++ acked) (lost_in w lost).crypto flight'
settled_bytes before acked lost flight flight' w once h = record {
  kept = λ o less. more.kept o (h.kept o (subst (λ (n : ℕ). o < n) more.written less));
  bytes = λ o less.
      let below : o < w.crypto.written = subst (λ (n : ℕ). o < n) more.written less in
      or_either (is_awaited o w.crypto) (is_carried o flight || is_carried o before) _ (λ e. or_left _ _ (more_awaited w.crypto (lost_in w lost).crypto more o e))
      (λ e. or_either (is_carried o flight) (is_carried o before) _
      (λ x. either_way o below (sym (list_any-IsPermutation (λ e. list_any (carries o) e.1.frames) flight (acked ++ (lost ++ flight')) once) ∙ x))
      (λ x. or_right (is_awaited o (lost_in w lost).crypto) _ (or_right (is_carried o flight') _ (carried_before o before acked x))) e)
      (h.bytes o below);
}
  where
    more : More w.crypto (lost_in w lost).crypto
    more = lost_in_more w lost

    either_way : (o : ℕ) → o < w.crypto.written → is_carried o (acked ++ (lost ++ flight')) ≡ true → (is_awaited o (lost_in w lost).crypto || (is_carried o flight' || is_carried o (before ++ acked))) ≡ true
    either_way o below x =
        or_either (is_carried o acked) (is_carried o (lost ++ flight')) _
        (λ y. or_right (is_awaited o (lost_in w lost).crypto) _ (or_right (is_carried o flight') _ (carried_behind o before acked y)))
        (λ y. or_either (is_carried o lost) (is_carried o flight') _
        (λ z. or_left _ _ (lost_in_awaited o w lost (h.kept o below) z))
        (λ z. or_right (is_awaited o (lost_in w lost).crypto) _ (or_left _ _ z))
        (sym (list_any-append (λ e. list_any (carries o) e.1.frames) lost flight') ∙ y))
        (sym (list_any-append (λ e. list_any (carries o) e.1.frames) acked (lost ++ flight')) ∙ x)

pub flown_bytes : (before flight : List Entry) (n : ℕ) (packet : SentPacket) (fs : List FrameValue) (b c : Buffer) → Stays b c → ((o : ℕ) → is_awaited o b ≡ true → (is_awaited o c || list_any (carries o) fs) ≡ true) → packet.frames ≡ kept_frames fs →
    BytesHold before b flight → BytesHold (before ++ []) c (flight ++ (n, packet) ∷ [])
flown_bytes before flight n packet fs b c stays awaited is h = record {
  kept = λ o less. stays.kept o ∙ h.kept o (subst (λ (m : ℕ). o < m) stays.written less);
  bytes = λ o less.
      or_either (is_awaited o b) (is_carried o flight || is_carried o before) _
      (λ e. or_either (is_awaited o c) (list_any (carries o) fs) _ (λ x. or_left _ _ x) (λ x. or_right (is_awaited o c) _ (or_left _ _ (carried_behind o flight ((n, packet) ∷ []) (or_left _ false (ap (list_any (carries o)) is ∙ all_kept_has o fs x))))) (awaited o e))
      (λ e. or_right (is_awaited o c) _ (or_either (is_carried o flight) (is_carried o before) _ (λ x. or_left _ _ (carried_before o flight ((n, packet) ∷ []) x)) (λ x. or_right (is_carried o (flight ++ (n, packet) ∷ [])) _ (carried_before o before [] x)) e))
      (h.bytes o (subst (λ (m : ℕ). o < m) stays.written less));
}

-- ---- streams, and what is in flight, in their places

pub came_crypto : (mark : Option EcnCodepoint) (v : Spaces SpaceWaiting) (id : SpaceId) → (space_of (marks_begun mark v) id).crypto ≡ (space_of v id).crypto
came_crypto mark v Initial = refl
came_crypto mark v Handshake = refl
came_crypto mark v Data = refl

pub given_open : (v : Life) (why : ConnectionError) (b : Bool) → (if b then record v { reason = Some why; lost = Some why } else v).state ≡ v.state
given_open v why true = refl
given_open v why false = refl

pub left_counts : (id space : SpaceId) (v : Spaces SpaceWaiting) → let b : Buffer = (space_of (with_space v space (nothing_left (space_of v space))) id).crypto in (b.written ≡ (space_of v id).crypto.written) × (b.sent ≡ (space_of v id).crypto.sent)
unfolding nothing_left discarded
left_counts Initial Initial v = (refl, refl)
left_counts Initial Handshake v = (refl, refl)
left_counts Initial Data v = (refl, refl)
left_counts Handshake Initial v = (refl, refl)
left_counts Handshake Handshake v = (refl, refl)
left_counts Handshake Data v = (refl, refl)
left_counts Data Initial v = (refl, refl)
left_counts Data Handshake v = (refl, refl)
left_counts Data Data v = (refl, refl)

pub in_same : (id : SpaceId) (es : List Entry) → in_space id id es ≡ es
in_same id es = ap (λ (b : Bool). if b then es else []) (rank_same id)

pub in_other : (id space : SpaceId) (es : List Entry) → is_space id space ≡ false → in_space id space es ≡ []
in_other id space es h = ap (λ (b : Bool). if b then es else []) (rank_other id space h)

-- the stream of a space whose packets were settled
pub settled_stream : (id : SpaceId) (v : Spaces SpaceWaiting) (acked lost : List Entry) →
    let u : Spaces SpaceWaiting = with_space v id (acked_in (space_of v id) acked) in
    (space_of (with_space u id (lost_in (space_of u id) lost)) id).crypto ≡ (lost_in (acked_in (space_of v id) acked) lost).crypto
settled_stream Initial v acked lost = refl
settled_stream Handshake v acked lost = refl
settled_stream Data v acked lost = refl

pub settled_other : (id space : SpaceId) (v : Spaces SpaceWaiting) (acked lost : List Entry) → is_space id space ≡ false →
    let u : Spaces SpaceWaiting = with_space v space (acked_in (space_of v space) acked) in
    (space_of (with_space u space (lost_in (space_of u space) lost)) id).crypto ≡ (space_of v id).crypto
settled_other id space v acked lost h =
    let u : Spaces SpaceWaiting = with_space v space (acked_in (space_of v space) acked) in
    ap (λ (w : SpaceWaiting). w.crypto) (put_other id space u (lost_in (space_of u space) lost) h ∙ put_other id space v (acked_in (space_of v space) acked) h)

-- the loss timer
pub lost_stream : (id : SpaceId) (v : Spaces SpaceWaiting) (lost : List Entry) → (space_of (with_space v id (lost_in (space_of v id) lost)) id).crypto ≡ (lost_in (space_of v id) lost).crypto
lost_stream id v lost = ap (λ (w : SpaceWaiting). w.crypto) (put_here id v (lost_in (space_of v id) lost))

pub not_above : (id : SpaceId) → is_below id id ≡ false
not_above Initial = refl
not_above Handshake = refl
not_above Data = refl

pub none_written : (acked : List Entry) (b : Buffer) (flight : List Entry) → b.written ≡ 0 → BytesHold acked b flight
none_written acked b flight none = record { kept = λ o less. absurd (omega (arith, none, less)); bytes = λ o less. absurd (omega (arith, none, less)) }

pub written_same : (id : SpaceId) (highest : SpaceId) (v : Spaces SpaceWaiting) (bytes : List ℕ) → id ≡ highest →
    (space_of (with_space v highest (record (space_of v highest) { crypto = crypto_more (space_of v highest).crypto bytes })) id).crypto ≡ crypto_more (space_of v id).crypto bytes
written_same id highest v bytes is =
    subst (λ (x : SpaceId). (space_of (with_space v x (record (space_of v x) { crypto = crypto_more (space_of v x).crypto bytes })) id).crypto ≡ crypto_more (space_of v id).crypto bytes) is
    (ap (λ (w : SpaceWaiting). w.crypto) (put_here id v (record (space_of v id) { crypto = crypto_more (space_of v id).crypto bytes })))

pub bundled_spaces : (v : Waiting) (next : ℕ) (b : Bool) → (if b then record v { bundled = Some next } else v).spaces ≡ v.spaces
bundled_spaces v next true = refl
bundled_spaces v next false = refl

pub sealed_stream : (id : SpaceId) (v : Spaces SpaceWaiting) (fs : List FrameValue) → (space_of (with_space v id (without_all (space_of v id) fs)) id).crypto ≡ (without_all (space_of v id) fs).crypto
sealed_stream Initial v fs = refl
sealed_stream Handshake v fs = refl
sealed_stream Data v fs = refl

pub sealed_apart : (id space : SpaceId) (v : Spaces SpaceWaiting) (fs : List FrameValue) → is_space id space ≡ false →
    (space_of (with_space v space (without_all (space_of v space) fs)) id).crypto ≡ (space_of v id).crypto
sealed_apart id space v fs h = ap (λ (w : SpaceWaiting). w.crypto) (put_other id space v (without_all (space_of v space) fs) h)

-- what is in flight
pub flown_here : (id : SpaceId) (n : ℕ) (packet : SentPacket) (r : Recovery) → (recovery.space_of id (sent_after id n packet r)).flight ≡ (recovery.space_of id r).flight ++ (n, packet) ∷ []
unfolding sent_after space_sent
flown_here id n packet r = put_flight id id (space_sent n packet (recovery.space_of id r)) r ∙ ap (λ (b : Bool). if b then (recovery.space_of id r).flight ++ (n, packet) ∷ [] else (recovery.space_of id r).flight) (rank_same id)

pub flown_apart : (id space : SpaceId) (n : ℕ) (packet : SentPacket) (r : Recovery) → is_space id space ≡ false → (recovery.space_of id (sent_after space n packet r)).flight ≡ (recovery.space_of id r).flight
unfolding sent_after space_sent
flown_apart id space n packet r other = put_flight id space (space_sent n packet (recovery.space_of space r)) r ∙ ap (λ (b : Bool). if b then (recovery.space_of space r).flight ++ (n, packet) ∷ [] else (recovery.space_of id r).flight) (rank_other id space other)

-- the stream of the packet's space, and what is in flight there
pub here_values : (id : SpaceId) (before : List Entry) (highest : SpaceId) (opened keyed owed : Bool) (w : SpaceWaiting) (flight flight' : List Entry) (n : ℕ) (packet : SentPacket) (fs : List FrameValue) → packet.frames ≡ kept_frames fs →
    (opened ≡ true → owed ≡ false) → (owed ≡ false → flight' ≡ flight ++ (n, packet) ∷ []) → CryptoHolds id before highest opened keyed w.crypto flight → CryptoHolds id (before ++ []) highest opened keyed (without_all w fs).crypto flight'
here_values id before highest opened keyed owed w flight flight' n packet fs is unowed flown h =
    let stays : Stays w.crypto (without_all w fs).crypto = all_stays w fs in
    record {
      sent = stays.sent h.sent;
      above = λ e. stays.written ∙ h.above e;
      holds = λ o k. subst (λ (es : List Entry). BytesHold (before ++ []) (without_all w fs).crypto es) (sym (flown (unowed o)))
          (flown_bytes before flight n packet fs w.crypto (without_all w fs).crypto stays (λ place e. all_awaited place w fs e) is (h.holds o k));
    }

pub apart_values : (id : SpaceId) (before : List Entry) (highest : SpaceId) (opened keyed : Bool) (b c : Buffer) (flight flight' : List Entry) → c ≡ b → flight' ≡ flight → CryptoHolds id before highest opened keyed b flight → CryptoHolds id (before ++ []) highest opened keyed c flight'
apart_values id before highest opened keyed b c flight flight' is same h =
    subst (λ (x : Buffer). CryptoHolds id (before ++ []) highest opened keyed x flight') (sym is)
    (record { sent = h.sent; above = h.above; holds = λ o k. more_bytes before [] b b flight flight' (more_here b) same (h.holds o k) })

-- fewer keys, and the same highest space
pub narrow : (id : SpaceId) (acked : List Entry) (highest highest' : SpaceId) (opened keyed keyed' : Bool) (b : Buffer) (flight : List Entry) → highest' ≡ highest → (keyed' ≡ true → keyed ≡ true) → CryptoHolds id acked highest opened keyed b flight → CryptoHolds id acked highest' opened keyed' b flight
narrow id acked highest highest' opened keyed keyed' b flight is fewer h = record { sent = h.sent; above = λ e. h.above (ap (λ (x : SpaceId). is_below x id) (sym is) ∙ e); holds = λ o k. h.holds o (fewer k) }

-- what the timer leaves in flight in a space
abbrev pub FiresIn : SpaceId → Recovery → Recovery → Fired → Type 0
FiresIn id r r' (fired.Lost space lost) =
    (id ≡ space → IsPermutation (recovery.space_of id r).flight (lost ++ (recovery.space_of id r').flight)) × (is_space id space ≡ false → (recovery.space_of id r').flight ≡ (recovery.space_of id r).flight)
FiresIn id r r' (fired.Probe space count) = (recovery.space_of id r').flight ≡ (recovery.space_of id r).flight
FiresIn id r r' fired.Nothing = (recovery.space_of id r').flight ≡ (recovery.space_of id r).flight

pub probe_kept : (v : Waiting) (b : Buffer) (r r' : Recovery) (highest : SpaceId) (opened keyed : Bool) (id : SpaceId) (before : List Entry) → b ≡ (space_of v.spaces id).crypto → (recovery.space_of id r').flight ≡ (recovery.space_of id r).flight →
    CryptoHolds id before highest opened keyed (space_of v.spaces id).crypto (recovery.space_of id r).flight → CryptoHolds id (before ++ []) highest opened keyed b (recovery.space_of id r').flight
probe_kept v b r r' highest opened keyed id before is same h =
    subst (λ (c : Buffer). CryptoHolds id (before ++ []) highest opened keyed c (recovery.space_of id r').flight) (sym is)
    (record { sent = h.sent; above = h.above; holds = λ o k. more_bytes before [] _ _ _ _ (more_here (space_of v.spaces id).crypto) same (h.holds o k) })

pub lost_kept : (space : SpaceId) (lost : List Entry) (v : Waiting) (r r' : Recovery) (highest : SpaceId) (opened keyed : Bool) (id : SpaceId) (before : List Entry) → (id ≡ space) ⊎ (is_space id space ≡ false) → FiresIn id r r' (fired.Lost space lost) →
    CryptoHolds id before highest opened keyed (space_of v.spaces id).crypto (recovery.space_of id r).flight →
    CryptoHolds id (before ++ []) highest opened keyed (space_of (with_space v.spaces space (lost_in (space_of v.spaces space) lost)) id).crypto (recovery.space_of id r').flight
lost_kept space lost v r r' highest opened keyed id before (inl is) fires h =
    let w : SpaceWaiting = space_of v.spaces id in
    let more : More w.crypto (lost_in w lost).crypto = lost_in_more w lost in
    subst (λ (x : SpaceId). CryptoHolds id (before ++ []) highest opened keyed (space_of (with_space v.spaces x (lost_in (space_of v.spaces x) lost)) id).crypto (recovery.space_of id r').flight) is
    (subst (λ (b : Buffer). CryptoHolds id (before ++ []) highest opened keyed b (recovery.space_of id r').flight) (sym (lost_stream id v.spaces lost))
    (record {
      sent = subst (λ (k : ℕ). k ≤ (lost_in w lost).crypto.written) (sym more.sent) (subst (λ (k : ℕ). w.crypto.sent ≤ k) (sym more.written) h.sent);
      above = λ e. more.written ∙ h.above e;
      holds = λ o k. settled_bytes before [] lost (recovery.space_of id r).flight (recovery.space_of id r').flight w (fires.0 is) (h.holds o k);
    }))
lost_kept space lost v r r' highest opened keyed id before (inr other) fires h =
    let stream = ap (λ (w : SpaceWaiting). w.crypto) (put_other id space v.spaces (lost_in (space_of v.spaces space) lost) other) in
    subst (λ (b : Buffer). CryptoHolds id (before ++ []) highest opened keyed b (recovery.space_of id r').flight) (sym stream)
    (record {
      sent = h.sent;
      above = h.above;
      holds = λ o k. more_bytes before [] (space_of v.spaces id).crypto (space_of v.spaces id).crypto (recovery.space_of id r).flight (recovery.space_of id r').flight (more_here (space_of v.spaces id).crypto) (fires.1 other) (h.holds o k);
    })

pub fire_kept : (f : Fired) (v : Waiting) (r r' : Recovery) (highest : SpaceId) (opened keyed : Bool) (id : SpaceId) (before : List Entry) → FiresIn id r r' f →
    CryptoHolds id before highest opened keyed (space_of v.spaces id).crypto (recovery.space_of id r).flight → CryptoHolds id (before ++ []) highest opened keyed (space_of (fired_in v f).spaces id).crypto (recovery.space_of id r').flight
unfolding packets_lost probes_added
fire_kept (fired.Lost space lost) v r r' highest opened keyed id before fires h = lost_kept space lost v r r' highest opened keyed id before (same_or id space) fires h
fire_kept (fired.Probe space count) v r r' highest opened keyed id before fires h =
    probe_kept v _ r r' highest opened keyed id before (put_crypto id space v.spaces (record (space_of v.spaces space) { probes = plus (space_of v.spaces space).probes count }) refl) fires h
fire_kept fired.Nothing v r r' highest opened keyed id before fires h = probe_kept v _ r r' highest opened keyed id before refl fires h

-- frames of a space wait again
pub put_again : (id space : SpaceId) (v : Spaces SpaceWaiting) (fs : List FrameValue) → More (space_of v id).crypto (space_of (with_space v space (all_again (space_of v space) fs)) id).crypto
put_again Initial Initial v fs = all_again_more v.initial fs
put_again Initial Handshake v fs = more_here v.initial.crypto
put_again Initial Data v fs = more_here v.initial.crypto
put_again Handshake Initial v fs = more_here v.handshake.crypto
put_again Handshake Handshake v fs = all_again_more v.handshake fs
put_again Handshake Data v fs = more_here v.handshake.crypto
put_again Data Initial v fs = more_here v.application.crypto
put_again Data Handshake v fs = more_here v.application.crypto
put_again Data Data v fs = all_again_more v.application fs

module _ {H P : Type 0} where
  pub failed_keys : (v : KeyGroup H P) (id : SpaceId) → has_keys (failure_counted v) id ≡ true → has_keys v id ≡ true
  unfolding failure_counted has_keys has_keys_for form_in
  failed_keys v Initial h = h
  failed_keys v Handshake h = h
  failed_keys v Data h = h

  -- the keys of a space are dropped
  pub dropped_keys : (v : KeyGroup H P) (id space : SpaceId) → has_keys (keys_dropped v space) id ≡ true → (is_space id space ≡ false) × (has_keys v id ≡ true)
  unfolding keys_dropped has_keys has_keys_for form_in
  dropped_keys v Initial Initial h = cc
  dropped_keys v Initial Handshake h = (refl, h)
  dropped_keys v Initial Data h = (refl, h)
  dropped_keys v Handshake Initial h = (refl, h)
  dropped_keys v Handshake Handshake h = cc
  dropped_keys v Handshake Data h = (refl, h)
  dropped_keys v Data Initial h = (refl, h)
  dropped_keys v Data Handshake h = (refl, h)
  dropped_keys v Data Data h = cc

  pub dropped_highest : (v : KeyGroup H P) (space : SpaceId) → (keys_dropped v space).highest ≡ v.highest
  unfolding keys_dropped
  dropped_highest v Initial = refl
  dropped_highest v Handshake = refl
  dropped_highest v Data = refl

  -- keys that are given are those of a space above the highest one, and nothing lies above it that didn't before
  pub given_keys : (v : KeyGroup H P) (keys : NewKeys H P) (id : SpaceId) → AreNext keys v.highest → has_keys (keys_given v keys) id ≡ true → (has_keys v id ≡ true) ⊎ (is_below v.highest id ≡ true)
  unfolding keys_given has_keys has_keys_for form_in
  given_keys v NoKeys id next k = inl k
  given_keys v (HandshakeKeys new) Initial next k = inl k
  given_keys v (HandshakeKeys new) Handshake next k = inr (ap (λ (x : SpaceId). is_below x Handshake) next)
  given_keys v (HandshakeKeys new) Data next k = inl k
  given_keys v (DataKeys new) Initial next k = inl k
  given_keys v (DataKeys new) Handshake next k = inl k
  given_keys v (DataKeys new) Data next k = inr (ap (λ (x : SpaceId). is_below x «Data») next)

  pub given_above : (v : KeyGroup H P) (keys : NewKeys H P) (id : SpaceId) → AreNext keys v.highest → is_below (keys_given v keys).highest id ≡ true → is_below v.highest id ≡ true
  unfolding keys_given
  given_above v NoKeys id next k = k
  given_above v (HandshakeKeys new) Initial next k = cc
  given_above v (HandshakeKeys new) Handshake next k = cc
  given_above v (HandshakeKeys new) Data next k = ap (λ (x : SpaceId). is_below x «Data») next
  given_above v (DataKeys new) Initial next k = cc
  given_above v (DataKeys new) Handshake next k = cc
  given_above v (DataKeys new) Data next k = cc

  pub counted_keys : (o : Option (SpaceKeys H P)) → is_some (count_one o) ≡ true → is_some o ≡ true
  unfolding count_one
  counted_keys None h = h
  counted_keys (Some k) h = refl

  pub ring_keys : (n : ℕ) (o : Option (OneRttKeys H P)) → is_some (ring_used n o) ≡ true → is_some o ≡ true
  unfolding ring_used
  ring_keys n None h = h
  ring_keys n (Some k) h = refl

  pub used_keys : (v : KeyGroup H P) (form : Form) (n : ℕ) (id : SpaceId) → has_keys (key_used v form n) id ≡ true → has_keys v id ≡ true
  unfolding key_used has_keys has_keys_for form_in
  used_keys v form.Initial n Initial h = counted_keys v.initial h
  used_keys v form.Initial n Handshake h = h
  used_keys v form.Initial n Data h = h
  used_keys v form.Handshake n Initial h = h
  used_keys v form.Handshake n Handshake h = counted_keys v.handshake h
  used_keys v form.Handshake n Data h = h
  used_keys v form.Early n id h = h
  used_keys v form.OneRtt n Initial h = h
  used_keys v form.OneRtt n Handshake h = h
  used_keys v form.OneRtt n Data h = ring_keys n v.«data» h

  pub used_highest : (v : KeyGroup H P) (form : Form) (n : ℕ) → (key_used v form n).highest ≡ v.highest
  unfolding key_used
  used_highest v form.Initial n = refl
  used_highest v form.Handshake n = refl
  used_highest v form.Early n = refl
  used_highest v form.OneRtt n = refl

module _ {S : Type 0} where
  pub flown_lower : (owed : Bool) (l : Lower S) (space : SpaceId) (n : ℕ) (packet : SentPacket) (id : SpaceId) → (owed ≡ false → id ≡ space → (recovery.space_of id (if owed then l else packet_flown l space n packet).recovery).flight ≡ (recovery.space_of id l.recovery).flight ++ (n, packet) ∷ [])
  unfolding packet_flown
  flown_lower true l space n packet id = λ no is. absurd cc
  flown_lower false l space n packet id = λ no is. subst (λ (x : SpaceId). (recovery.space_of id (sent_after x n packet l.recovery)).flight ≡ (recovery.space_of id l.recovery).flight ++ (n, packet) ∷ []) is (flown_here id n packet l.recovery)

  pub apart_lower : (owed : Bool) (l : Lower S) (space : SpaceId) (n : ℕ) (packet : SentPacket) (id : SpaceId) → is_space id space ≡ false → (recovery.space_of id (if owed then l else packet_flown l space n packet).recovery).flight ≡ (recovery.space_of id l.recovery).flight
  unfolding packet_flown
  apart_lower true l space n packet id other = refl
  apart_lower false l space n packet id other = flown_apart id space n packet l.recovery other

-- ---- what recovery leaves in flight

module _ {C : Type 0} where
  pub ack_flight : (m : Control C) (now : ℕ) (id : SpaceId) (next began : ℕ) (ack : AckValues) (ranges : List NumberRange) (around : Around) (r : Recovery) (p : PathData C) →
      let after : After C = ack_after m now id next began ack ranges around r p in
      IsPermutation (recovery.space_of id r).flight (after.acked ++ (after.lost ++ (recovery.space_of id after.recovery).flight))
  unfolding ack_after
  ack_flight m now id next began ack ranges around r p =
      let q : SpaceAfter C = space_after m r.limits (occasion now id next began r) ack ranges around (recovery.space_of id r) p in
      subst (λ (es : List Entry). IsPermutation (recovery.space_of id r).flight (q.acked ++ (q.lost ++ es)))
      (sym (count_keeps id _ (recovery.with_space id q.space r) ∙ put_flight id id q.space r ∙ ap (λ (b : Bool). if b then q.space.flight else (recovery.space_of id r).flight) (rank_same id)))
      (ack_settles m r.limits (occasion now id next began r) ack ranges around (recovery.space_of id r) p)

  pub ack_other : (m : Control C) (now : ℕ) (id space : SpaceId) (next began : ℕ) (ack : AckValues) (ranges : List NumberRange) (around : Around) (r : Recovery) (p : PathData C) → is_space id space ≡ false →
      (recovery.space_of id (ack_after m now space next began ack ranges around r p).recovery).flight ≡ (recovery.space_of id r).flight
  unfolding ack_after
  ack_other m now id space next began ack ranges around r p other =
      let q : SpaceAfter C = space_after m r.limits (occasion now space next began r) ack ranges around (recovery.space_of space r) p in
      count_keeps id _ (recovery.with_space space q.space r) ∙ put_flight id space q.space r ∙ ap (λ (b : Bool). if b then q.space.flight else (recovery.space_of id r).flight) (rank_other id space other)

  pub probe_flight : (id : SpaceId) (due : Option (ℕ × SpaceId)) (r : Recovery) (p : PathData C) → FiresIn id r (probe_fired due r p).recovery (probe_fired due r p).fired
  probe_flight id None r p = refl
  probe_flight id (Some due) r p = count_keeps id _ r

  pub lost_flight : (m : Control C) (now : ℕ) (space : SpaceId) (r : Recovery) (p : PathData C) → let q : SpaceAfter C = space_timed m r.limits now space (recovery.space_of space r) p in
      IsPermutation (recovery.space_of space r).flight (q.lost ++ (recovery.space_of space (recovery.with_space space q.space r)).flight)
  unfolding space_timed
  lost_flight m now space r p =
      let q : SpaceAfter C = space_timed m r.limits now space (recovery.space_of space r) p in
      subst (λ (es : List Entry). IsPermutation (recovery.space_of space r).flight (q.lost ++ es))
      (sym (put_flight space space q.space r ∙ ap (λ (b : Bool). if b then q.space.flight else (recovery.space_of space r).flight) (rank_same space)))
      (timer_settles m r.limits now space (recovery.space_of space r) p)

  pub timed_flight : (m : Control C) (id : SpaceId) (now : ℕ) (around : Around) (first : Option (ℕ × SpaceId)) (r : Recovery) (p : PathData C) → FiresIn id r (timeout_by m now around first r p).recovery (timeout_by m now around first r p).fired
  timed_flight m id now around None r p = probe_flight id (probe_line now around p.rtt r) r p
  timed_flight m id now around (Some loss) r p =
      let q : SpaceAfter C = space_timed m r.limits now loss.1 (recovery.space_of loss.1 r) p in (
        λ is. subst (λ (space : SpaceId). IsPermutation (recovery.space_of space r).flight (q.lost ++ (recovery.space_of space (recovery.with_space loss.1 q.space r)).flight)) (sym is) (lost_flight m now loss.1 r p),
        λ other. put_flight id loss.1 q.space r ∙ ap (λ (b : Bool). if b then q.space.flight else (recovery.space_of id r).flight) (rank_other id loss.1 other),
      )

  pub fired_flight : (m : Control C) (id : SpaceId) (now : ℕ) (around : Around) (r : Recovery) (p : PathData C) → FiresIn id r (timeout_after m now around r p).recovery (timeout_after m now around r p).fired
  unfolding timeout_after
  fired_flight m id now around r p = timed_flight m id now around (loss_first r) r p
