-- The text of a trace tells the trace.
use Rattle.std.proofs.Common.{◌≡◌, ℕ, ◌+◌, ◌<◌, ◌^◌, Bool, true, false, ◌==◌, List, ◌∷◌, ◌++◌, drop, get_or, Option, refl, sym, ap, ◌∙◌, append_assoc, arith}
use Rattle.std.specs.Prelude.{decimal, codes, ◌||◌}
use Rattle.std.specs.List.{All, flat_map}
use Rattle.std.proofs.lemmas.Bool.Decides.{nat_tests}
use Rattle.std.specs.declared.net.socket_addr.SocketAddr.{SocketAddr}
use Rattle.qc_base.specs.declared.side.Dir.{Dir}
use Rattle.qc_base.specs.declared.side.Dir.TheVariants.{Bi, Uni}
use Rattle.qc_state.specs.declared.deeds.Did.{Did}
use Rattle.qc_state.specs.declared.deeds.Did.TheVariants as deed
use Rattle.qc_state.specs.declared.events.EndpointEvent.{EndpointEvent}
use Rattle.qc_state.specs.declared.events.EndpointEvent.TheVariants.{ResetToken, NeedIdentifiers, RetireConnectionId, Drained}
use Rattle.qc_state.specs.declared.events.Event.{Event}
use Rattle.qc_state.specs.declared.events.Event.TheVariants.{HandshakeDataReady, Connected, ConnectionLost, DatagramReceived, DatagramsUnblocked, Stream}
use Rattle.qc_state.specs.declared.input.Word.{Word}
use Rattle.qc_state.specs.declared.input.Word.TheVariants as word
use Rattle.qc_state.specs.declared.trace.Answer.{Answer}
use Rattle.qc_state.specs.declared.trace.Answer.TheVariants as answer
use Rattle.qc_state.specs.declared.trace.Step.{Step}
use Rattle.qc_streams.specs.declared.events.StreamEvent.{StreamEvent}
use Rattle.qc_streams.specs.declared.events.StreamEvent.TheVariants as streamed
use Rattle.qc_text.specs.TraceText.{sealed_text, piece_text, gave_text, did_text, bytes_or_dash, address_text, target_text, out_text, read_text, answer_text, dir_name, stream_event_text, event_text, reset_token_text, need_text, flag_text, retired_text, retire_text, endpoint_text, timer_text, word_name, step_head, step_text, trace_text}
use Rattle.qc_text.specs.OneText.{IsOptionInRange, IsDeedInRange, IsDeedPlain, IsStreamEventInRange, IsEventInRange, IsEndpointInRange, IsEndpointPlain, IsInRange, IsPlain}
use Rattle.qc_text.proofs.Tokens.{is_token, token_back, number_back, lines_back, lines_begin}
use Rattle.qc_text.proofs.DeedsBack.{did_back}
use Rattle.qc_text.proofs.FieldsBack.{option_back, body_back}
use Rattle.qc_text.proofs.ReasonsBack.{reason_back}
use Rattle.qc_text.proofs.AnswersBack.{address_back, is_after_answer, answer_back}

-- ---- the head

word_is_token : (w : Word) → is_token (word_name w) ≡ true
unfolding word_name
word_is_token word.Datagram = refl
word_is_token word.Timeout = refl
word_is_token word.Transmit = refl
word_is_token word.Open = refl
word_is_token word.Accept = refl
word_is_token word.Write = refl
word_is_token word.Finish = refl
word_is_token word.ResetSend = refl
word_is_token word.StopRecv = refl
word_is_token word.Read = refl
word_is_token word.SendDatagram = refl
word_is_token word.RecvDatagram = refl
word_is_token word.Close = refl
word_is_token word.Ping = refl
word_is_token word.Update = refl
word_is_token word.MaxStreams = refl
word_is_token word.SendWindow = refl
word_is_token word.ReceiveWindow = refl
word_is_token word.Identifiers = refl

-- the sums of the first, the third and the fifth letter differ
word_injective : (v w : Word) → word_name v ≡ word_name w → v ≡ w
unfolding word_name
word_injective word.Datagram word.Datagram e = refl
word_injective word.Timeout word.Timeout e = refl
word_injective word.Transmit word.Transmit e = refl
word_injective word.Open word.Open e = refl
word_injective word.Accept word.Accept e = refl
word_injective word.Write word.Write e = refl
word_injective word.Finish word.Finish e = refl
word_injective word.ResetSend word.ResetSend e = refl
word_injective word.StopRecv word.StopRecv e = refl
word_injective word.Read word.Read e = refl
word_injective word.SendDatagram word.SendDatagram e = refl
word_injective word.RecvDatagram word.RecvDatagram e = refl
word_injective word.Close word.Close e = refl
word_injective word.Ping word.Ping e = refl
word_injective word.Update word.Update e = refl
word_injective word.MaxStreams word.MaxStreams e = refl
word_injective word.SendWindow word.SendWindow e = refl
word_injective word.ReceiveWindow word.ReceiveWindow e = refl
word_injective word.Identifiers word.Identifiers e = refl
word_injective _ _ e = absurd (omega (arith, ap (λ (a : List ℕ). get_or a 0 0 + get_or a 2 0 + get_or a 4 0) e))

head_parts : (at : ℕ) (w : Word) (now : ℕ) (r : List ℕ) → step_head at w now ++ r ≡ codes "step " ++ (decimal at ++ 32 ∷ (word_name w ++ 32 ∷ (decimal now ++ 10 ∷ r)))
unfolding step_head
head_parts at w now r = simp append_assoc

head_back : (m n : ℕ) (v w : Word) (x y : ℕ) (r s : List ℕ) → m < 2 ^ 64 → n < 2 ^ 64 → x < 2 ^ 64 → y < 2 ^ 64
    → step_head m v x ++ r ≡ step_head n w y ++ s → (m ≡ n) × (v ≡ w) × (x ≡ y) × (r ≡ s)
head_back m n v w x y r s p q k l e =
    let parts = sym (head_parts m v x r) ∙ e ∙ head_parts n w y s in
    let place = number_back m n 32 32 _ _ (omega arith) (omega arith) refl refl (ap (drop 5) parts) in
    let named = token_back (word_name v) (word_name w) 32 32 _ _ (word_is_token v) (word_is_token w) refl refl (ap (drop 1) place.1) in
    let time = number_back x y 10 10 r s (omega arith) (omega arith) refl refl (ap (drop 1) named.1) in
    (place.0, word_injective v w named.0, time.0, ap (drop 1) time.1)

-- ---- events and the timer

dir_is_token : (dir : Dir) → is_token (dir_name dir) ≡ true
unfolding dir_name
dir_is_token Bi = refl
dir_is_token Uni = refl

dir_injective : (a b : Dir) → dir_name a ≡ dir_name b → a ≡ b
unfolding dir_name
dir_injective Bi Bi e = refl
dir_injective Uni Uni e = refl
dir_injective _ _ e = absurd (omega (arith, ap (λ (a : List ℕ). get_or a 0 0) e))

dir_back : (a b : Dir) (r s : List ℕ) → dir_name a ++ 10 ∷ r ≡ dir_name b ++ 10 ∷ s → (a ≡ b) × (r ≡ s)
dir_back a b r s e =
    let dir = token_back (dir_name a) (dir_name b) 10 10 r s (dir_is_token a) (dir_is_token b) refl refl e in
    (dir_injective a b dir.0, ap (drop 1) dir.1)

-- what happened on a stream, up to the line's end; the first letters differ
stream_event_back : (a b : StreamEvent) (r s : List ℕ) → IsStreamEventInRange a → IsStreamEventInRange b → stream_event_text a ++ 10 ∷ r ≡ stream_event_text b ++ 10 ∷ s → (a ≡ b) × (r ≡ s)
unfolding stream_event_text
stream_event_back (streamed.Opened a) (streamed.Opened b) r s p q e =
    let parts = simp append_assoc at e in
    let dir = dir_back a b r s (ap (drop 7) parts) in
    (ap streamed.Opened dir.0, dir.1)
stream_event_back (streamed.Readable m) (streamed.Readable n) r s p q e =
    let parts = simp append_assoc at e in
    let id = number_back m n 10 10 r s (omega arith) (omega arith) refl refl (ap (drop 9) parts) in
    (ap streamed.Readable id.0, ap (drop 1) id.1)
stream_event_back (streamed.Writable m) (streamed.Writable n) r s p q e =
    let parts = simp append_assoc at e in
    let id = number_back m n 10 10 r s (omega arith) (omega arith) refl refl (ap (drop 9) parts) in
    (ap streamed.Writable id.0, ap (drop 1) id.1)
stream_event_back (streamed.Stopped m x) (streamed.Stopped n y) r s p q e =
    let parts = simp append_assoc at e in
    let id = number_back m n 32 32 _ _ (omega arith) (omega arith) refl refl (ap (drop 8) parts) in
    let code = number_back x y 10 10 r s (omega arith) (omega arith) refl refl (ap (drop 1) id.1) in
    (same id.0 code.0, ap (drop 1) code.1)
  where
    same : m ≡ n → x ≡ y → streamed.Stopped m x ≡ streamed.Stopped n y
    same i j = cc
stream_event_back (streamed.Finished m) (streamed.Finished n) r s p q e =
    let parts = simp append_assoc at e in
    let id = number_back m n 10 10 r s (omega arith) (omega arith) refl refl (ap (drop 9) parts) in
    (ap streamed.Finished id.0, ap (drop 1) id.1)
stream_event_back (streamed.Available a) (streamed.Available b) r s p q e =
    let parts = simp append_assoc at e in
    let dir = dir_back a b r s (ap (drop 10) parts) in
    (ap streamed.Available dir.0, dir.1)
stream_event_back _ _ r s p q e = absurd (omega (arith, ap (λ (a : List ℕ). get_or a 0 0) e))

event_back : (a b : Event) (r s : List ℕ) → IsEventInRange a → IsEventInRange b → event_text a ++ r ≡ event_text b ++ s → (a ≡ b) × (r ≡ s)
unfolding event_text
event_back HandshakeDataReady HandshakeDataReady r s p q e = (refl, ap (drop 21) e)
event_back Connected Connected r s p q e = (refl, ap (drop 16) e)
event_back (ConnectionLost a) (ConnectionLost b) r s p q e =
    let parts = simp append_assoc at e in
    let reason = reason_back a b r s p q (ap (drop 11) parts) in
    (ap ConnectionLost reason.0, reason.1)
event_back DatagramReceived DatagramReceived r s p q e = (refl, ap (drop 15) e)
event_back DatagramsUnblocked DatagramsUnblocked r s p q e = (refl, ap (drop 16) e)
event_back (Stream a) (Stream b) r s p q e =
    let parts = simp append_assoc at e in
    let event = stream_event_back a b r s p q (ap (drop 13) parts) in
    (ap Stream event.0, event.1)
event_back _ _ r s p q e = absurd (omega (arith, ap (λ (a : List ℕ). get_or a 6 0) e))

-- a report to the endpoint that its text tells
abbrev IsEndpointTold : EndpointEvent → Type 0
IsEndpointTold a = IsEndpointInRange a × IsEndpointPlain a

reset_token_parts : (a : SocketAddr) (token r : List ℕ) → reset_token_text a token ++ r ≡ codes "endpoint reset-token " ++ (address_text a ++ 32 ∷ (bytes_or_dash token ++ 10 ∷ r))
unfolding reset_token_text
reset_token_parts a token r = simp append_assoc

reset_token_back : (a b : SocketAddr) (j k r s : List ℕ) → IsEndpointTold (ResetToken a j) → IsEndpointTold (ResetToken b k)
    → reset_token_text a j ++ r ≡ reset_token_text b k ++ s → (ResetToken a j ≡ ResetToken b k) × (r ≡ s)
reset_token_back a b j k r s p q e =
    let parts = sym (reset_token_parts a j r) ∙ e ∙ reset_token_parts b k s in
    let address = address_back a b _ _ p.0.0 q.0.0 p.1 q.1 (ap (drop 21) parts) in
    let token = body_back j k 10 10 r s p.0.1 q.0.1 refl refl address.1 in
    (same address.0 token.0, ap (drop 1) token.1)
  where
    same : a ≡ b → j ≡ k → ResetToken a j ≡ ResetToken b k
    same x y = cc

need_parts : (time count : ℕ) (r : List ℕ) → need_text time count ++ r ≡ codes "endpoint need " ++ (decimal time ++ 32 ∷ (decimal count ++ 10 ∷ r))
unfolding need_text
need_parts time count r = simp append_assoc

need_back : (m n x y : ℕ) (r s : List ℕ) → IsEndpointTold (NeedIdentifiers m x) → IsEndpointTold (NeedIdentifiers n y)
    → need_text m x ++ r ≡ need_text n y ++ s → (NeedIdentifiers m x ≡ NeedIdentifiers n y) × (r ≡ s)
need_back m n x y r s p q e =
    let parts = sym (need_parts m x r) ∙ e ∙ need_parts n y s in
    let time = number_back m n 32 32 _ _ (omega arith) (omega arith) refl refl (ap (drop 14) parts) in
    let count = number_back x y 10 10 r s (omega arith) (omega arith) refl refl (ap (drop 1) time.1) in
    (same time.0 count.0, ap (drop 1) count.1)
  where
    same : m ≡ n → x ≡ y → NeedIdentifiers m x ≡ NeedIdentifiers n y
    same u v = cc

flag_is_token : (a : Bool) → is_token (flag_text a) ≡ true
unfolding flag_text
flag_is_token false = refl
flag_is_token true = refl

flag_injective : (a b : Bool) → flag_text a ≡ flag_text b → a ≡ b
unfolding flag_text
flag_injective false false e = refl
flag_injective true true e = refl
flag_injective _ _ e = absurd (omega (arith, ap (λ (a : List ℕ). get_or a 0 0) e))

retired_parts : (sequence : ℕ) (more : Bool) (r : List ℕ) → retired_text sequence more ++ r ≡ decimal sequence ++ 32 ∷ (flag_text more ++ r)
unfolding retired_text
retired_parts sequence more r = simp append_assoc

retire_front : (time sequence : ℕ) (more : Bool) (r : List ℕ) → retire_text time sequence more ++ r ≡ codes "endpoint retire " ++ (decimal time ++ 32 ∷ (retired_text sequence more ++ 10 ∷ r))
unfolding retire_text
retire_front time sequence more r = simp append_assoc

retire_parts : (time sequence : ℕ) (more : Bool) (r : List ℕ) → retire_text time sequence more ++ r ≡ codes "endpoint retire " ++ (decimal time ++ 32 ∷ (decimal sequence ++ 32 ∷ (flag_text more ++ 10 ∷ r)))
retire_parts time sequence more r = retire_front time sequence more r ∙ ap (λ (z : List ℕ). codes "endpoint retire " ++ (decimal time ++ 32 ∷ z)) (retired_parts sequence more (10 ∷ r))

retire_back : (m n x y : ℕ) (f g : Bool) (r s : List ℕ) → IsEndpointTold (RetireConnectionId m x f) → IsEndpointTold (RetireConnectionId n y g)
    → retire_text m x f ++ r ≡ retire_text n y g ++ s → (RetireConnectionId m x f ≡ RetireConnectionId n y g) × (r ≡ s)
retire_back m n x y f g r s p q e =
    let parts = sym (retire_parts m x f r) ∙ e ∙ retire_parts n y g s in
    let time = number_back m n 32 32 _ _ (omega arith) (omega arith) refl refl (ap (drop 16) parts) in
    let sequence = number_back x y 32 32 _ _ (omega arith) (omega arith) refl refl (ap (drop 1) time.1) in
    let flag = token_back (flag_text f) (flag_text g) 10 10 r s (flag_is_token f) (flag_is_token g) refl refl (ap (drop 1) sequence.1) in
    (same time.0 sequence.0 (flag_injective f g flag.0), ap (drop 1) flag.1)
  where
    same : m ≡ n → x ≡ y → f ≡ g → RetireConnectionId m x f ≡ RetireConnectionId n y g
    same u v w = cc

-- the twelfth letters differ
endpoint_back : (a b : EndpointEvent) (r s : List ℕ) → IsEndpointTold a → IsEndpointTold b → endpoint_text a ++ r ≡ endpoint_text b ++ s → (a ≡ b) × (r ≡ s)
unfolding endpoint_text reset_token_text need_text retire_text
endpoint_back (ResetToken a j) (ResetToken b k) r s p q e = reset_token_back a b j k r s p q e
endpoint_back (NeedIdentifiers m x) (NeedIdentifiers n y) r s p q e = need_back m n x y r s p q e
endpoint_back (RetireConnectionId m x f) (RetireConnectionId n y g) r s p q e = retire_back m n x y f g r s p q e
endpoint_back Drained Drained r s p q e = (refl, ap (drop 17) e)
endpoint_back _ _ r s p q e = absurd (omega (arith, ap (λ (a : List ℕ). get_or a 11 0) e))

timer_back : (a b : Option ℕ) (r s : List ℕ) → IsOptionInRange a → IsOptionInRange b → timer_text a ++ r ≡ timer_text b ++ s → (a ≡ b) × (r ≡ s)
unfolding timer_text
timer_back a b r s p q e =
    let parts = simp append_assoc at e in
    let time = option_back a b 10 10 r s p q refl refl (ap (drop 6) parts) in
    (time.0, ap (drop 1) time.1)

-- ---- by what a part of a step is told from the parts behind it

is_deed : List ℕ → Bool
is_deed r = (get_or r 0 0 == 115) || (get_or r 0 0 == 112) || (get_or r 0 0 == 103) || (get_or r 0 0 == 108) || (get_or r 0 0 == 113)

is_event : List ℕ → Bool
is_event r = get_or r 1 0 == 118

is_endpoint : List ℕ → Bool
is_endpoint r = get_or r 0 0 == 101

is_step : List ℕ → Bool
is_step r = get_or r 0 0 == 115

deed_begins : (d : Did) (r : List ℕ) → is_deed (did_text d ++ r) ≡ true
unfolding is_deed did_text sealed_text piece_text gave_text
deed_begins (deed.Sealed space number epoch early frames) r = refl
deed_begins (deed.Piece space number verdict) r = refl
deed_begins (deed.Gave layer body) r = refl
deed_begins (deed.Rose life) r = refl
deed_begins (deed.Lost reason) r = refl
deed_begins (deed.Quiet quiet) r = refl

no_deed_after : (r : List ℕ) → is_after_answer r ≡ true → is_deed r ≡ false
unfolding is_deed
no_deed_after r h = grind (arith, nat_tests)

answer_is_no_deed : (w : Word) (a : Answer) (r : List ℕ) → is_after_answer r ≡ true → is_deed (answer_text w a ++ r) ≡ false
unfolding is_deed answer_text read_text out_text target_text
answer_is_no_deed w answer.Done r h = refl
answer_is_no_deed w answer.Dropped r h = refl
answer_is_no_deed word.Transmit answer.Nothing r h = no_deed_after r h
answer_is_no_deed _ answer.Nothing r h = refl
answer_is_no_deed w (answer.Flag true) r h = refl
answer_is_no_deed w (answer.Flag false) r h = refl
answer_is_no_deed w (answer.Opened id) r h = refl
answer_is_no_deed w (answer.Accepted id) r h = refl
answer_is_no_deed w (answer.Wrote count) r h = refl
answer_is_no_deed w (answer.Read offset body) r h = refl
answer_is_no_deed w answer.Ended r h = refl
answer_is_no_deed w (answer.Datagram body) r h = refl
answer_is_no_deed w (answer.Error why) r h = refl
answer_is_no_deed w (answer.Out destination segment ecn bytes) r h = refl

event_begins : (a : Event) (r : List ℕ) → (is_event (event_text a ++ r) ≡ true) × (is_after_answer (event_text a ++ r) ≡ true)
unfolding is_event event_text
event_begins HandshakeDataReady r = (refl, refl)
event_begins Connected r = (refl, refl)
event_begins (ConnectionLost reason) r = (refl, refl)
event_begins DatagramReceived r = (refl, refl)
event_begins DatagramsUnblocked r = (refl, refl)
event_begins (Stream event) r = (refl, refl)

endpoint_begins : (a : EndpointEvent) (r : List ℕ) → (is_event (endpoint_text a ++ r) ≡ false) × (is_endpoint (endpoint_text a ++ r) ≡ true) × (is_after_answer (endpoint_text a ++ r) ≡ true)
unfolding is_event is_endpoint endpoint_text reset_token_text need_text retire_text
endpoint_begins (ResetToken remote token) r = (refl, refl, refl)
endpoint_begins (NeedIdentifiers time count) r = (refl, refl, refl)
endpoint_begins (RetireConnectionId time sequence more) r = (refl, refl, refl)
endpoint_begins Drained r = (refl, refl, refl)

timer_begins : (a : Option ℕ) (r : List ℕ) → (is_event (timer_text a ++ r) ≡ false) × (is_endpoint (timer_text a ++ r) ≡ false) × (is_after_answer (timer_text a ++ r) ≡ true)
unfolding is_event is_endpoint timer_text
timer_begins a r = (refl, refl, refl)

step_begins : (x : Step) (r : List ℕ) → is_step (step_text x ++ r) ≡ true
unfolding is_step step_text step_head
step_begins x r = refl

-- ---- a step

-- the reports of a step, and what follows the step
reports : Step → List ℕ → List ℕ
reports x r = flat_map event_text x.events ++ (flat_map endpoint_text x.endpoint ++ (timer_text x.timeout ++ r))

step_parts : (x : Step) (r : List ℕ) → step_text x ++ r ≡ step_head x.at x.word x.now ++ (flat_map did_text x.did ++ (answer_text x.word x.answer ++ reports x r))
unfolding step_text reports
step_parts x r = simp append_assoc

reports_begin : (x : Step) (r : List ℕ) → is_after_answer (reports x r) ≡ true
unfolding reports
reports_begin x r = lines_begin event_text is_after_answer true (λ a r. (event_begins a r).1) x.events _
    (lines_begin endpoint_text is_after_answer true (λ a r. (endpoint_begins a r).2) x.endpoint _ (timer_begins x.timeout r).2)

-- a step that its text tells
abbrev IsTold : Step → Type 0
IsTold x = IsInRange x × IsPlain x

reports_back : (x y : Step) (r s : List ℕ) → IsTold x → IsTold y → reports x r ≡ reports y s → (x.events ≡ y.events) × (x.endpoint ≡ y.endpoint) × (x.timeout ≡ y.timeout) × (r ≡ s)
unfolding reports
reports_back x y r s p q e =
    let quiet : (z : Step) (r : List ℕ) → is_event (flat_map endpoint_text z.endpoint ++ (timer_text z.timeout ++ r)) ≡ false
    = λ z r. lines_begin endpoint_text is_event false (λ a r. (endpoint_begins a r).0) z.endpoint _ (timer_begins z.timeout r).0 in
    let events = lines_back event_text IsEventInRange is_event (λ a r. (event_begins a r).0) event_back x.events y.events _ _ p.0.events q.0.events (quiet x r) (quiet y s) e in
    let ends = lines_back endpoint_text IsEndpointTold is_endpoint (λ a r. (endpoint_begins a r).1) endpoint_back x.endpoint y.endpoint _ _
    (λ k d h. (p.0.endpoint k d h, p.1.endpoint k d h)) (λ k d h. (q.0.endpoint k d h, q.1.endpoint k d h))
    (timer_begins x.timeout r).1 (timer_begins y.timeout s).1 events.1 in
    let timer = timer_back x.timeout y.timeout r s p.0.timeout q.0.timeout ends.1 in
    (events.0, ends.0, timer.0, timer.1)

step_back : (x y : Step) (r s : List ℕ) → IsTold x → IsTold y → step_text x ++ r ≡ step_text y ++ s → (x ≡ y) × (r ≡ s)
step_back x y r s p q e =
    let parts = sym (step_parts x r) ∙ e ∙ step_parts y s in
    let head = head_back x.at y.at x.word y.word x.now y.now _ _ p.0.at q.0.at p.0.now q.0.now parts in
    let deeds = lines_back did_text (λ d. IsDeedInRange d × IsDeedPlain d) is_deed deed_begins did_back x.did y.did _ _ (λ k d h. (p.0.did k d h, p.1.did k d h)) (λ k d h. (q.0.did k d h, q.1.did k d h))
    (answer_is_no_deed x.word x.answer (reports x r) (reports_begin x r)) (answer_is_no_deed y.word y.answer (reports y s) (reports_begin y s)) head.3 in
    let same_word : answer_text x.word y.answer ++ reports y s ≡ answer_text y.word y.answer ++ reports y s = ap (λ (w : Word). answer_text w y.answer ++ reports y s) head.1 in
    let answer = answer_back x.word x.answer y.answer (reports x r) (reports y s) p.0.answer q.0.answer p.1.answer q.1.answer (reports_begin x r) (reports_begin y s) (deeds.1 ∙ sym same_word) in
    let rest = reports_back x y r s p q answer.1 in
    (same x y head.0 head.1 head.2 deeds.0 answer.0 rest.0 rest.1 rest.2, rest.3)
  where
    same : (x y : Step) → x.at ≡ y.at → x.word ≡ y.word → x.now ≡ y.now → x.did ≡ y.did → x.answer ≡ y.answer → x.events ≡ y.events → x.endpoint ≡ y.endpoint → x.timeout ≡ y.timeout → x ≡ y
    same x y a b c d e f g h = λ i. record { at = a i; word = b i; now = c i; did = d i; answer = e i; events = f i; endpoint = g i; timeout = h i }

-- ---- a trace

end_is_no_step : is_step (codes "end\n") ≡ false
unfolding is_step
end_is_no_step = refl

pub trace_back : (xs ys : List Step) → All IsInRange xs → All IsInRange ys → All IsPlain xs → All IsPlain ys → trace_text xs ≡ trace_text ys → xs ≡ ys
unfolding trace_text
trace_back xs ys p q k l e =
    let parts = simp append_assoc at e in
    let both = lines_back step_text IsTold is_step step_begins step_back xs ys (codes "end\n") (codes "end\n") (λ n d h. (p n d h, k n d h)) (λ n d h. (q n d h, l n d h)) end_is_no_step end_is_no_step (ap (drop 8) parts) in
    both.0
