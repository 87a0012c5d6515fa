-- The line of an input: its word, its fields, and that no other input has it.
use Rattle.std.proofs.Common.{◌≡◌, ◌≢◌, ℕ, ◌+◌, ◌^◌, ◌<◌, ◌==◌, if◌then◌else◌, List, [], ◌∷◌, ◌++◌, drop, get_or, Option, Some, None, Result, Ok, Err, IfOk, refl, sym, ◌∙◌, ap, arith, codes}
use Rattle.std.proofs.lemmas.List.{append_assoc, append_cancel_left, append_cancel_right}
use Rattle.std.specs.Fmt.{decimal}
use Rattle.std.proofs.lemmas.Fmt.{decimal_injective}
use Rattle.std.specs.declared.net.socket_addr.SocketAddr.{SocketAddr}
use Rattle.qc_base.specs.Grammar.{IsBytes}
use Rattle.qc_base.specs.declared.ecn.EcnCodepoint.{EcnCodepoint}
use Rattle.qc_base.specs.declared.ids.IssuedCid.{IssuedCid}
use Rattle.qc_base.specs.declared.side.Dir.{Dir}
use Rattle.qc_state.specs.declared.input.Input.{Input}
use Rattle.qc_state.specs.declared.input.Input.TheVariants.{Datagram, Timeout, Transmit, Open, Accept, Write, Finish, ResetSend, StopRecv, Read, SendDatagram, RecvDatagram, Close, Ping, Update, Identifiers, MaxStreams, SendWindow, ReceiveWindow}
use Rattle.qc_script.specs.Fields.{hex_field, address_text, dir_text, ecn_text, IsAddress, AreFields, Begins}
use Rattle.qc_script.specs.Script.{ids_text, input_line, AreIssued, IsWithin, IsNext, IsLineRead, IsOfStreams, IsCallRead}
use Rattle.qc_script.proofs.IdLemmas.{ids_front, ids_injective}
use Rattle.qc_script.proofs.NumberLemmas.{Lacks-decimal}
use Rattle.qc_script.proofs.FieldLemmas.{hex_field_injective, Lacks-address, address_injective, Lacks-mark, mark_injective, dir_injective, dir_split, begins_same, fields_same}

-- ---- words and fields

-- the word of an input's line
abbrev pub word_of : Input → List ℕ
word_of (Datagram now remote ecn bytes) = codes "datagram"
word_of (Timeout now) = codes "timeout"
word_of (Transmit now count) = codes "transmit"
word_of (Open now dir) = codes "open"
word_of (Accept now dir) = codes "accept"
word_of (Write now id body) = codes "write"
word_of (Finish now id) = codes "finish"
word_of (ResetSend now id code) = codes "reset"
word_of (StopRecv now id code) = codes "stop"
word_of (Read now id max) = codes "read"
word_of (SendDatagram now body) = codes "send"
word_of (RecvDatagram now) = codes "recv"
word_of (Close now code reason) = codes "close"
word_of (Ping now) = codes "ping"
word_of (Update now) = codes "update"
word_of (Identifiers now ids) = codes "ids"
word_of (MaxStreams now dir count) = codes "streams"
word_of (SendWindow now size) = codes "sendwindow"
word_of (ReceiveWindow now size) = codes "recvwindow"

-- and its fields
abbrev pub fields_of : Input → List ℕ
fields_of (Datagram now remote ecn bytes) = decimal now ++ 32 ∷ (address_text remote ++ 32 ∷ (ecn_text ecn ++ 32 ∷ hex_field bytes))
fields_of (Timeout now) = decimal now
fields_of (Transmit now count) = decimal now ++ 32 ∷ decimal count
fields_of (Open now dir) = decimal now ++ 32 ∷ dir_text dir
fields_of (Accept now dir) = decimal now ++ 32 ∷ dir_text dir
fields_of (Write now id body) = decimal now ++ 32 ∷ (decimal id ++ 32 ∷ hex_field body)
fields_of (Finish now id) = decimal now ++ 32 ∷ decimal id
fields_of (ResetSend now id code) = decimal now ++ 32 ∷ (decimal id ++ 32 ∷ decimal code)
fields_of (StopRecv now id code) = decimal now ++ 32 ∷ (decimal id ++ 32 ∷ decimal code)
fields_of (Read now id max) = decimal now ++ 32 ∷ (decimal id ++ 32 ∷ decimal max)
fields_of (SendDatagram now body) = decimal now ++ 32 ∷ hex_field body
fields_of (RecvDatagram now) = decimal now
fields_of (Close now code reason) = decimal now ++ 32 ∷ (decimal code ++ 32 ∷ hex_field reason)
fields_of (Ping now) = decimal now
fields_of (Update now) = decimal now
fields_of (Identifiers now ids) = decimal now ++ ids_text ids
fields_of (MaxStreams now dir count) = decimal now ++ 32 ∷ (dir_text dir ++ 32 ∷ decimal count)
fields_of (SendWindow now size) = decimal now ++ 32 ∷ decimal size
fields_of (ReceiveWindow now size) = decimal now ++ 32 ∷ decimal size

-- a space stands between them, and LF behind them
pub line_parts : (i : Input) → input_line i ≡ (word_of i ++ 32 ∷ fields_of i) ++ 10 ∷ []
unfolding input_line
line_parts (Datagram now remote ecn bytes) = simp append_assoc
line_parts (Timeout now) = simp append_assoc
line_parts (Transmit now count) = simp append_assoc
line_parts (Open now dir) = simp append_assoc
line_parts (Accept now dir) = simp append_assoc
line_parts (Write now id body) = simp append_assoc
line_parts (Finish now id) = simp append_assoc
line_parts (ResetSend now id code) = simp append_assoc
line_parts (StopRecv now id code) = simp append_assoc
line_parts (Read now id max) = simp append_assoc
line_parts (SendDatagram now body) = simp append_assoc
line_parts (RecvDatagram now) = simp append_assoc
line_parts (Close now code reason) = simp append_assoc
line_parts (Ping now) = simp append_assoc
line_parts (Update now) = simp append_assoc
line_parts (Identifiers now ids) = simp append_assoc
line_parts (MaxStreams now dir count) = simp append_assoc
line_parts (SendWindow now size) = simp append_assoc
line_parts (ReceiveWindow now size) = simp append_assoc

-- the sum of the first, the third and the fifth letter of an input's line, by which its word is told from the other ones; the one
-- word of three letters has no fifth one
abbrev letters_of : List ℕ → ℕ
letters_of line = get_or line 0 0 + get_or line 2 0 + (if get_or line 3 0 == 32 then 0 else get_or line 4 0)

abbrev letters : Input → ℕ
letters (Datagram now remote ecn bytes) = 319
letters (Timeout now) = 336
letters (Transmit now count) = 328
letters (Open now dir) = 244
letters (Accept now dir) = 308
letters (Write now id body) = 325
letters (Finish now id) = 327
letters (ResetSend now id code) = 345
letters (StopRecv now id code) = 258
letters (Read now id max) = 243
letters (SendDatagram now body) = 257
letters (RecvDatagram now) = 245
letters (Close now code reason) = 311
letters (Ping now) = 254
letters (Update now) = 333
letters (Identifiers now ids) = 220
letters (MaxStreams now dir count) = 326
letters (SendWindow now size) = 344
letters (ReceiveWindow now size) = 332

line_letters : (i : Input) → letters_of (input_line i) ≡ letters i
unfolding input_line
line_letters (Datagram now remote ecn bytes) = refl
line_letters (Timeout now) = refl
line_letters (Transmit now count) = refl
line_letters (Open now dir) = refl
line_letters (Accept now dir) = refl
line_letters (Write now id body) = refl
line_letters (Finish now id) = refl
line_letters (ResetSend now id code) = refl
line_letters (StopRecv now id code) = refl
line_letters (Read now id max) = refl
line_letters (SendDatagram now body) = refl
line_letters (RecvDatagram now) = refl
line_letters (Close now code reason) = refl
line_letters (Ping now) = refl
line_letters (Update now) = refl
line_letters (Identifiers now ids) = refl
line_letters (MaxStreams now dir count) = refl
line_letters (SendWindow now size) = refl
line_letters (ReceiveWindow now size) = refl

-- no word is `set`, with a space behind it: the sums of the first and the fourth letter differ
pub no_set : (i : Input) → get_or (input_line i) 0 0 + get_or (input_line i) 3 0 ≢ 147
unfolding input_line
no_set (Datagram now remote ecn bytes) e = omega (arith, e)
no_set (Timeout now) e = omega (arith, e)
no_set (Transmit now count) e = omega (arith, e)
no_set (Open now dir) e = omega (arith, e)
no_set (Accept now dir) e = omega (arith, e)
no_set (Write now id body) e = omega (arith, e)
no_set (Finish now id) e = omega (arith, e)
no_set (ResetSend now id code) e = omega (arith, e)
no_set (StopRecv now id code) e = omega (arith, e)
no_set (Read now id max) e = omega (arith, e)
no_set (SendDatagram now body) e = omega (arith, e)
no_set (RecvDatagram now) e = omega (arith, e)
no_set (Close now code reason) e = omega (arith, e)
no_set (Ping now) e = omega (arith, e)
no_set (Update now) e = omega (arith, e)
no_set (Identifiers now ids) e = omega (arith, e)
no_set (MaxStreams now dir count) e = omega (arith, e)
no_set (SendWindow now size) e = omega (arith, e)
no_set (ReceiveWindow now size) e = omega (arith, e)

-- a text that is an input's line without LF
next_text : (text : List ℕ) (i : Input) → IsNext text i → text ≡ word_of i ++ 32 ∷ fields_of i
next_text text i h = append_cancel_right text (word_of i ++ 32 ∷ fields_of i) (10 ∷ []) (h.spelled ∙ line_parts i)

text_letters : (text : List ℕ) (i : Input) → IsNext text i → letters_of (text ++ 10 ∷ []) ≡ letters i
text_letters text i h = ap letters_of h.spelled ∙ line_letters i

-- such a text, where its word is known
next_fields : (word fields : List ℕ) (i : Input) → word ≡ word_of i → IsNext (word ++ 32 ∷ fields) i → fields ≡ fields_of i
next_fields word fields i e h =
    let whole : word ++ 32 ∷ fields ≡ word ++ 32 ∷ fields_of i = next_text (word ++ 32 ∷ fields) i h ∙ ap (λ (z : List ℕ). z ++ 32 ∷ fields_of i) (sym e) in
    ap (drop 1) (append_cancel_left word (32 ∷ fields) (32 ∷ fields_of i) whole)

pub is_next : (fields : List ℕ) (i : Input) → fields ≡ fields_of i → IsWithin i → IsNext (word_of i ++ 32 ∷ fields) i
is_next fields i e within = record {
  spelled = ap (λ (z : List ℕ). (word_of i ++ 32 ∷ z) ++ 10 ∷ []) e ∙ sym (line_parts i);
  within = within;
}

-- ---- lines that are no input's: those that begin with a word, and whose fields are none of its inputs

pub no_datagram : (fields : List ℕ) → ((now : ℕ) (remote : SocketAddr) (ecn : Option EcnCodepoint) (bytes : List ℕ) → IsWithin (Datagram now remote ecn bytes) → fields ≡ fields_of (Datagram now remote ecn bytes) → ⊥) → (i : Input) → IsNext (codes "datagram " ++ fields) i → ⊥
no_datagram fields none (Datagram now remote ecn bytes) h = none now remote ecn bytes h.within (next_fields (codes "datagram") fields (Datagram now remote ecn bytes) refl h)
no_datagram fields none i h = let e : 319 ≡ letters i = text_letters (codes "datagram " ++ fields) i h in omega (arith, e)

pub no_timeout : (digits : List ℕ) → ((now : ℕ) → now < 2 ^ 64 → digits ≢ decimal now) → (i : Input) → IsNext (codes "timeout " ++ digits) i → ⊥
no_timeout digits none (Timeout now) h = none now h.within (next_fields (codes "timeout") digits (Timeout now) refl h)
no_timeout digits none i h = let e : 336 ≡ letters i = text_letters (codes "timeout " ++ digits) i h in omega (arith, e)

pub no_transmit : (fields : List ℕ) → ((now : ℕ) (rest : List ℕ) → Begins (2 ^ 64) fields now rest → (count : ℕ) → count < 2 ^ 64 → rest ≢ decimal count) → (i : Input) → IsNext (codes "transmit " ++ fields) i → ⊥
no_transmit fields none (Transmit now count) h = none now _ (record { spelled = next_fields (codes "transmit") fields (Transmit now count) refl h; small = h.within.0 }) count h.within.1 refl
no_transmit fields none i h = let e : 328 ≡ letters i = text_letters (codes "transmit " ++ fields) i h in omega (arith, e)

pub no_open : (fields : List ℕ) → ((now : ℕ) (rest : List ℕ) → Begins (2 ^ 64) fields now rest → (dir : Dir) → rest ≢ dir_text dir) → (i : Input) → IsNext (codes "open " ++ fields) i → ⊥
no_open fields none (Open now dir) h = none now _ (record { spelled = next_fields (codes "open") fields (Open now dir) refl h; small = h.within }) dir refl
no_open fields none i h = let e : 244 ≡ letters i = text_letters (codes "open " ++ fields) i h in omega (arith, e)

pub no_accept : (fields : List ℕ) → ((now : ℕ) (rest : List ℕ) → Begins (2 ^ 64) fields now rest → (dir : Dir) → rest ≢ dir_text dir) → (i : Input) → IsNext (codes "accept " ++ fields) i → ⊥
no_accept fields none (Accept now dir) h = none now _ (record { spelled = next_fields (codes "accept") fields (Accept now dir) refl h; small = h.within }) dir refl
no_accept fields none i h = let e : 308 ≡ letters i = text_letters (codes "accept " ++ fields) i h in omega (arith, e)

pub no_write : (fields : List ℕ) → ((now : ℕ) (rest : List ℕ) → Begins (2 ^ 64) fields now rest → (id : ℕ) (more : List ℕ) → Begins (2 ^ 62) rest id more → (body : List ℕ) → IsBytes body → more ≢ hex_field body) → (i : Input) → IsNext (codes "write " ++ fields) i → ⊥
no_write fields none (Write now id body) h = none now _ (record { spelled = next_fields (codes "write") fields (Write now id body) refl h; small = h.within.0 }) id _ (record { spelled = refl; small = h.within.1 }) body h.within.2 refl
no_write fields none i h = let e : 325 ≡ letters i = text_letters (codes "write " ++ fields) i h in omega (arith, e)

pub no_finish : (fields : List ℕ) → ((now : ℕ) (rest : List ℕ) → Begins (2 ^ 64) fields now rest → (id : ℕ) → id < 2 ^ 62 → rest ≢ decimal id) → (i : Input) → IsNext (codes "finish " ++ fields) i → ⊥
no_finish fields none (Finish now id) h = none now _ (record { spelled = next_fields (codes "finish") fields (Finish now id) refl h; small = h.within.0 }) id h.within.1 refl
no_finish fields none i h = let e : 327 ≡ letters i = text_letters (codes "finish " ++ fields) i h in omega (arith, e)

pub no_reset : (fields : List ℕ) → ((now : ℕ) (rest : List ℕ) → Begins (2 ^ 64) fields now rest → (id : ℕ) (more : List ℕ) → Begins (2 ^ 62) rest id more → (code : ℕ) → code < 2 ^ 62 → more ≢ decimal code) → (i : Input) → IsNext (codes "reset " ++ fields) i → ⊥
no_reset fields none (ResetSend now id code) h = none now _ (record { spelled = next_fields (codes "reset") fields (ResetSend now id code) refl h; small = h.within.0 }) id _ (record { spelled = refl; small = h.within.1 }) code h.within.2 refl
no_reset fields none i h = let e : 345 ≡ letters i = text_letters (codes "reset " ++ fields) i h in omega (arith, e)

pub no_stop : (fields : List ℕ) → ((now : ℕ) (rest : List ℕ) → Begins (2 ^ 64) fields now rest → (id : ℕ) (more : List ℕ) → Begins (2 ^ 62) rest id more → (code : ℕ) → code < 2 ^ 62 → more ≢ decimal code) → (i : Input) → IsNext (codes "stop " ++ fields) i → ⊥
no_stop fields none (StopRecv now id code) h = none now _ (record { spelled = next_fields (codes "stop") fields (StopRecv now id code) refl h; small = h.within.0 }) id _ (record { spelled = refl; small = h.within.1 }) code h.within.2 refl
no_stop fields none i h = let e : 258 ≡ letters i = text_letters (codes "stop " ++ fields) i h in omega (arith, e)

pub no_read : (fields : List ℕ) → ((now : ℕ) (rest : List ℕ) → Begins (2 ^ 64) fields now rest → (id : ℕ) (more : List ℕ) → Begins (2 ^ 62) rest id more → (max : ℕ) → max < 2 ^ 64 → more ≢ decimal max) → (i : Input) → IsNext (codes "read " ++ fields) i → ⊥
no_read fields none (Read now id max) h = none now _ (record { spelled = next_fields (codes "read") fields (Read now id max) refl h; small = h.within.0 }) id _ (record { spelled = refl; small = h.within.1 }) max h.within.2 refl
no_read fields none i h = let e : 243 ≡ letters i = text_letters (codes "read " ++ fields) i h in omega (arith, e)

pub no_send : (fields : List ℕ) → ((now : ℕ) (rest : List ℕ) → Begins (2 ^ 64) fields now rest → (body : List ℕ) → IsBytes body → rest ≢ hex_field body) → (i : Input) → IsNext (codes "send " ++ fields) i → ⊥
no_send fields none (SendDatagram now body) h = none now _ (record { spelled = next_fields (codes "send") fields (SendDatagram now body) refl h; small = h.within.0 }) body h.within.1 refl
no_send fields none i h = let e : 257 ≡ letters i = text_letters (codes "send " ++ fields) i h in omega (arith, e)

pub no_recv : (digits : List ℕ) → ((now : ℕ) → now < 2 ^ 64 → digits ≢ decimal now) → (i : Input) → IsNext (codes "recv " ++ digits) i → ⊥
no_recv digits none (RecvDatagram now) h = none now h.within (next_fields (codes "recv") digits (RecvDatagram now) refl h)
no_recv digits none i h = let e : 245 ≡ letters i = text_letters (codes "recv " ++ digits) i h in omega (arith, e)

pub no_close : (fields : List ℕ) → ((now : ℕ) (rest : List ℕ) → Begins (2 ^ 64) fields now rest → (code : ℕ) (more : List ℕ) → Begins (2 ^ 62) rest code more → (reason : List ℕ) → IsBytes reason → more ≢ hex_field reason) → (i : Input) → IsNext (codes "close " ++ fields) i → ⊥
no_close fields none (Close now code reason) h = none now _ (record { spelled = next_fields (codes "close") fields (Close now code reason) refl h; small = h.within.0 }) code _ (record { spelled = refl; small = h.within.1 }) reason h.within.2 refl
no_close fields none i h = let e : 311 ≡ letters i = text_letters (codes "close " ++ fields) i h in omega (arith, e)

pub no_ping : (digits : List ℕ) → ((now : ℕ) → now < 2 ^ 64 → digits ≢ decimal now) → (i : Input) → IsNext (codes "ping " ++ digits) i → ⊥
no_ping digits none (Ping now) h = none now h.within (next_fields (codes "ping") digits (Ping now) refl h)
no_ping digits none i h = let e : 254 ≡ letters i = text_letters (codes "ping " ++ digits) i h in omega (arith, e)

pub no_update : (digits : List ℕ) → ((now : ℕ) → now < 2 ^ 64 → digits ≢ decimal now) → (i : Input) → IsNext (codes "update " ++ digits) i → ⊥
no_update digits none (Update now) h = none now h.within (next_fields (codes "update") digits (Update now) refl h)
no_update digits none i h = let e : 333 ≡ letters i = text_letters (codes "update " ++ digits) i h in omega (arith, e)

pub no_ids : (fields : List ℕ) → ((now : ℕ) (rest : List ℕ) → Begins (2 ^ 64) fields now rest → (ids : List IssuedCid) → AreIssued ids → 32 ∷ rest ≢ ids_text ids) → (i : Input) → IsNext (codes "ids " ++ fields) i → ⊥
no_ids fields none (Identifiers now ids) h =
    let front = ids_front ids h.within.1 in
    let spelled = next_fields (codes "ids") fields (Identifiers now ids) refl h ∙ ap (λ (z : List ℕ). decimal now ++ z) front.1 in
    none now front.0 (record { spelled = spelled; small = h.within.0 }) ids h.within.2 (sym front.1)
no_ids fields none i h = let e : 220 ≡ letters i = text_letters (codes "ids " ++ fields) i h in omega (arith, e)

pub no_streams : (fields : List ℕ) → ((now : ℕ) (rest : List ℕ) → Begins (2 ^ 64) fields now rest → (dir : Dir) (more : List ℕ) → rest ≡ dir_text dir ++ 32 ∷ more → (count : ℕ) → count < 2 ^ 62 → more ≢ decimal count) → (i : Input) → IsNext (codes "streams " ++ fields) i → ⊥
no_streams fields none (MaxStreams now dir count) h = none now _ (record { spelled = next_fields (codes "streams") fields (MaxStreams now dir count) refl h; small = h.within.0 }) dir _ refl count h.within.1 refl
no_streams fields none i h = let e : 326 ≡ letters i = text_letters (codes "streams " ++ fields) i h in omega (arith, e)

pub no_sendwindow : (fields : List ℕ) → ((now : ℕ) (rest : List ℕ) → Begins (2 ^ 64) fields now rest → (size : ℕ) → size < 2 ^ 64 → rest ≢ decimal size) → (i : Input) → IsNext (codes "sendwindow " ++ fields) i → ⊥
no_sendwindow fields none (SendWindow now size) h = none now _ (record { spelled = next_fields (codes "sendwindow") fields (SendWindow now size) refl h; small = h.within.0 }) size h.within.1 refl
no_sendwindow fields none i h = let e : 344 ≡ letters i = text_letters (codes "sendwindow " ++ fields) i h in omega (arith, e)

pub no_recvwindow : (fields : List ℕ) → ((now : ℕ) (rest : List ℕ) → Begins (2 ^ 64) fields now rest → (size : ℕ) → size < 2 ^ 62 → rest ≢ decimal size) → (i : Input) → IsNext (codes "recvwindow " ++ fields) i → ⊥
no_recvwindow fields none (ReceiveWindow now size) h = none now _ (record { spelled = next_fields (codes "recvwindow") fields (ReceiveWindow now size) refl h; small = h.within.0 }) size h.within.1 refl
no_recvwindow fields none i h = let e : 332 ≡ letters i = text_letters (codes "recvwindow " ++ fields) i h in omega (arith, e)

-- a text with none of the words of calls of the streams is the line of no such call
pub no_call : (text : List ℕ) → ((rest : List ℕ) → text ≢ codes "open " ++ rest) → ((rest : List ℕ) → text ≢ codes "accept " ++ rest) → ((rest : List ℕ) → text ≢ codes "write " ++ rest) → ((rest : List ℕ) → text ≢ codes "finish " ++ rest) → ((rest : List ℕ) → text ≢ codes "reset " ++ rest) → ((rest : List ℕ) → text ≢ codes "stop " ++ rest) → ((rest : List ℕ) → text ≢ codes "read " ++ rest) → ((rest : List ℕ) → text ≢ codes "streams " ++ rest) → ((rest : List ℕ) → text ≢ codes "sendwindow " ++ rest) → ((rest : List ℕ) → text ≢ codes "recvwindow " ++ rest)
    → (i : Input) → IsOfStreams i → IsNext text i → ⊥
no_call text opens accepts writes finishes resets stops reads streams sendwindows recvwindows (Open now dir) of h = opens _ (next_text text (Open now dir) h)
no_call text opens accepts writes finishes resets stops reads streams sendwindows recvwindows (Accept now dir) of h = accepts _ (next_text text (Accept now dir) h)
no_call text opens accepts writes finishes resets stops reads streams sendwindows recvwindows (Write now id body) of h = writes _ (next_text text (Write now id body) h)
no_call text opens accepts writes finishes resets stops reads streams sendwindows recvwindows (Finish now id) of h = finishes _ (next_text text (Finish now id) h)
no_call text opens accepts writes finishes resets stops reads streams sendwindows recvwindows (ResetSend now id code) of h = resets _ (next_text text (ResetSend now id code) h)
no_call text opens accepts writes finishes resets stops reads streams sendwindows recvwindows (StopRecv now id code) of h = stops _ (next_text text (StopRecv now id code) h)
no_call text opens accepts writes finishes resets stops reads streams sendwindows recvwindows (Read now id max) of h = reads _ (next_text text (Read now id max) h)
no_call text opens accepts writes finishes resets stops reads streams sendwindows recvwindows (MaxStreams now dir count) of h = streams _ (next_text text (MaxStreams now dir count) h)
no_call text opens accepts writes finishes resets stops reads streams sendwindows recvwindows (SendWindow now size) of h = sendwindows _ (next_text text (SendWindow now size) h)
no_call text opens accepts writes finishes resets stops reads streams sendwindows recvwindows (ReceiveWindow now size) of h = recvwindows _ (next_text text (ReceiveWindow now size) h)
no_call text opens accepts writes finishes resets stops reads streams sendwindows recvwindows _ of h = absurd of

-- and what is no such call, with none of the other words either, is the line of no input
no_word : (text : List ℕ) → ((rest : List ℕ) → text ≢ codes "datagram " ++ rest) → ((rest : List ℕ) → text ≢ codes "timeout " ++ rest) → ((rest : List ℕ) → text ≢ codes "transmit " ++ rest) → ((rest : List ℕ) → text ≢ codes "send " ++ rest) → ((rest : List ℕ) → text ≢ codes "recv " ++ rest) → ((rest : List ℕ) → text ≢ codes "close " ++ rest) → ((rest : List ℕ) → text ≢ codes "ping " ++ rest) → ((rest : List ℕ) → text ≢ codes "update " ++ rest) → ((rest : List ℕ) → text ≢ codes "ids " ++ rest) → ((i : Input) → IsOfStreams i → IsNext text i → ⊥)
    → (i : Input) → IsNext text i → ⊥
no_word text datagrams timeouts transmits sends recvs closes pings updates ids calls (Datagram now remote ecn bytes) h = datagrams _ (next_text text (Datagram now remote ecn bytes) h)
no_word text datagrams timeouts transmits sends recvs closes pings updates ids calls (Timeout now) h = timeouts _ (next_text text (Timeout now) h)
no_word text datagrams timeouts transmits sends recvs closes pings updates ids calls (Transmit now count) h = transmits _ (next_text text (Transmit now count) h)
no_word text datagrams timeouts transmits sends recvs closes pings updates ids calls (SendDatagram now body) h = sends _ (next_text text (SendDatagram now body) h)
no_word text datagrams timeouts transmits sends recvs closes pings updates ids calls (RecvDatagram now) h = recvs _ (next_text text (RecvDatagram now) h)
no_word text datagrams timeouts transmits sends recvs closes pings updates ids calls (Close now code reason) h = closes _ (next_text text (Close now code reason) h)
no_word text datagrams timeouts transmits sends recvs closes pings updates ids calls (Ping now) h = pings _ (next_text text (Ping now) h)
no_word text datagrams timeouts transmits sends recvs closes pings updates ids calls (Update now) h = updates _ (next_text text (Update now) h)
no_word text datagrams timeouts transmits sends recvs closes pings updates ids calls (Identifiers now given) h = ids _ (next_text text (Identifiers now given) h)
no_word text datagrams timeouts transmits sends recvs closes pings updates ids calls (Open now dir) h = calls (Open now dir) tt h
no_word text datagrams timeouts transmits sends recvs closes pings updates ids calls (Accept now dir) h = calls (Accept now dir) tt h
no_word text datagrams timeouts transmits sends recvs closes pings updates ids calls (Write now id body) h = calls (Write now id body) tt h
no_word text datagrams timeouts transmits sends recvs closes pings updates ids calls (Finish now id) h = calls (Finish now id) tt h
no_word text datagrams timeouts transmits sends recvs closes pings updates ids calls (ResetSend now id code) h = calls (ResetSend now id code) tt h
no_word text datagrams timeouts transmits sends recvs closes pings updates ids calls (StopRecv now id code) h = calls (StopRecv now id code) tt h
no_word text datagrams timeouts transmits sends recvs closes pings updates ids calls (Read now id max) h = calls (Read now id max) tt h
no_word text datagrams timeouts transmits sends recvs closes pings updates ids calls (MaxStreams now dir count) h = calls (MaxStreams now dir count) tt h
no_word text datagrams timeouts transmits sends recvs closes pings updates ids calls (SendWindow now size) h = calls (SendWindow now size) tt h
no_word text datagrams timeouts transmits sends recvs closes pings updates ids calls (ReceiveWindow now size) h = calls (ReceiveWindow now size) tt h

-- what a reader of such calls found is what a reader of all inputs finds, where none of the other words stands in front
pub call_read : {E : Type 0} (text : List ℕ) → ((rest : List ℕ) → text ≢ codes "datagram " ++ rest) → ((rest : List ℕ) → text ≢ codes "timeout " ++ rest) → ((rest : List ℕ) → text ≢ codes "transmit " ++ rest) → ((rest : List ℕ) → text ≢ codes "send " ++ rest) → ((rest : List ℕ) → text ≢ codes "recv " ++ rest) → ((rest : List ℕ) → text ≢ codes "close " ++ rest) → ((rest : List ℕ) → text ≢ codes "ping " ++ rest) → ((rest : List ℕ) → text ≢ codes "update " ++ rest) → ((rest : List ℕ) → text ≢ codes "ids " ++ rest) → (r : Result (Option Input) E) → IfOk r (IsCallRead text) → IfOk r (IsLineRead text)
call_read text datagrams timeouts transmits sends recvs closes pings updates ids (Ok None) h = no_word text datagrams timeouts transmits sends recvs closes pings updates ids h
call_read text datagrams timeouts transmits sends recvs closes pings updates ids (Ok (Some i)) h = h
call_read text datagrams timeouts transmits sends recvs closes pings updates ids (Err e) h = tt

-- what a reader of all inputs found is what one of such calls finds
pub read_call : (text : List ℕ) (r : Option Input) → IsLineRead text r → IsCallRead text r
read_call text None h = λ i of. h i
read_call text (Some i) h = h

-- so where want of memory may stop it
pub read_call_if : {E : Type 0} (text : List ℕ) (r : Result (Option Input) E) → IfOk r (IsLineRead text) → IfOk r (IsCallRead text)
read_call_if text (Ok r) h = read_call text r h
read_call_if text (Err e) h = tt

-- ---- datagrams

-- a datagram's fields are four
pub datagram_four : (fields : List ℕ) (t : ℕ) (a : SocketAddr) (m : Option EcnCodepoint) (bs : List ℕ) → IsWithin (Datagram t a m bs) → fields ≡ fields_of (Datagram t a m bs) → AreFields fields (decimal t) (address_text a) (ecn_text m) (hex_field bs)
datagram_four fields t a m bs h e = record {
  spelled = e;
  first = Lacks-decimal 32 t (omega arith) h.0;
  second = Lacks-address 32 a (omega arith) h.1;
  third = Lacks-mark 32 m (omega arith);
}

-- and these are the parts of them
pub datagram_parts : (fields a b c d : List ℕ) (t : ℕ) (r : SocketAddr) (m : Option EcnCodepoint) (bs : List ℕ) → AreFields fields a b c d → IsWithin (Datagram t r m bs) → fields ≡ fields_of (Datagram t r m bs) → (a ≡ decimal t) × (b ≡ address_text r) × (c ≡ ecn_text m) × (d ≡ hex_field bs)
datagram_parts fields a b c d t r m bs h k e = fields_same fields a b c d (decimal t) (address_text r) (ecn_text m) (hex_field bs) h (datagram_four fields t r m bs k e)

-- four fields that spell a datagram's parts
pub datagram_read : (fields a b c d : List ℕ) (t : ℕ) (r : SocketAddr) (m : Option EcnCodepoint) (bs : List ℕ) → AreFields fields a b c d → t < 2 ^ 64 → a ≡ decimal t → b ≡ address_text r → IsAddress r → c ≡ ecn_text m → d ≡ hex_field bs → IsBytes bs
    → IsNext (codes "datagram " ++ fields) (Datagram t r m bs)
datagram_read fields a b c d t r m bs h small time address within mark hex are_bytes =
    is_next fields (Datagram t r m bs) (h.spelled ∙ rw (time, address, mark, hex) refl) (small, within, are_bytes)

-- ---- other fields

-- a time, and a field that spells something
pub two_read : (fields rest last : List ℕ) (now : ℕ) → Begins (2 ^ 64) fields now rest → rest ≡ last → fields ≡ decimal now ++ 32 ∷ last
two_read fields rest last now h e = h.spelled ∙ ap (λ (z : List ℕ). decimal now ++ 32 ∷ z) e

-- so with a field between them
pub three_read : (fields rest middle more last : List ℕ) (now : ℕ) → Begins (2 ^ 64) fields now rest → rest ≡ middle ++ 32 ∷ more → more ≡ last → fields ≡ decimal now ++ 32 ∷ (middle ++ 32 ∷ last)
three_read fields rest middle more last now h f e = two_read fields rest (middle ++ 32 ∷ last) now h (f ∙ ap (λ (z : List ℕ). middle ++ 32 ∷ z) e)

-- ---- lines and inputs

-- the fields of one line are those of another one with its word
one_fields : (i j : Input) → word_of i ≡ word_of j → input_line i ≡ input_line j → fields_of i ≡ fields_of j
one_fields i j w e =
    let whole : word_of i ++ 32 ∷ fields_of i ≡ word_of j ++ 32 ∷ fields_of j = append_cancel_right _ _ (10 ∷ []) (sym (line_parts i) ∙ e ∙ line_parts j) in
    let same : word_of i ++ 32 ∷ fields_of i ≡ word_of i ++ 32 ∷ fields_of j = whole ∙ ap (λ (z : List ℕ). z ++ 32 ∷ fields_of j) (sym w) in
    ap (drop 1) (append_cancel_left (word_of i) (32 ∷ fields_of i) (32 ∷ fields_of j) same)

-- a number in front of a space
number_split : (m n : ℕ) (r s : List ℕ) → m < 2 ^ 64 → n < 2 ^ 64 → decimal m ++ 32 ∷ r ≡ decimal n ++ 32 ∷ s → (m ≡ n) × (r ≡ s)
number_split m n r s h k e = begins_same (2 ^ 64) (decimal m ++ 32 ∷ r) m r n s (omega arith) (record { spelled = refl; small = h }) (record { spelled = e; small = k })

code_split : (m n : ℕ) (r s : List ℕ) → m < 2 ^ 62 → n < 2 ^ 62 → decimal m ++ 32 ∷ r ≡ decimal n ++ 32 ∷ s → (m ≡ n) × (r ≡ s)
code_split m n r s h k e = number_split m n r s (omega arith) (omega arith) e

code_injective : (m n : ℕ) → m < 2 ^ 62 → n < 2 ^ 62 → decimal m ≡ decimal n → m ≡ n
code_injective m n h k e = decimal_injective m n (omega arith) (omega arith) e

datagram_injective : (t t' : ℕ) (a a' : SocketAddr) (m m' : Option EcnCodepoint) (bs bs' : List ℕ) → IsWithin (Datagram t a m bs) → IsWithin (Datagram t' a' m' bs') → fields_of (Datagram t a m bs) ≡ fields_of (Datagram t' a' m' bs') → Datagram t a m bs ≡ Datagram t' a' m' bs'
datagram_injective t t' a a' m m' bs bs' h k e =
    let parts = datagram_parts (fields_of (Datagram t a m bs)) (decimal t) (address_text a) (ecn_text m) (hex_field bs) t' a' m' bs'
    (datagram_four (fields_of (Datagram t a m bs)) t a m bs h refl) k e in
    let times = decimal_injective t t' h.0 k.0 parts.0 in
    let addresses = address_injective a a' h.1 k.1 parts.1 in
    let marks = mark_injective m m' parts.2 in
    let bodies = hex_field_injective bs bs' h.2 k.2 parts.3 in
    cc

transmit_injective : (now now' : ℕ) (count count' : ℕ) → IsWithin (Transmit now count) → IsWithin (Transmit now' count') → fields_of (Transmit now count) ≡ fields_of (Transmit now' count') → Transmit now count ≡ Transmit now' count'
transmit_injective now now' count count' h k e =
    let first = number_split now now' _ _ h.0 k.0 e in
    let times = first.0 in
    let last = decimal_injective count count' h.1 k.1 first.1 in
    cc

open_injective : (now now' : ℕ) (dir dir' : Dir) → IsWithin (Open now dir) → IsWithin (Open now' dir') → fields_of (Open now dir) ≡ fields_of (Open now' dir') → Open now dir ≡ Open now' dir'
open_injective now now' dir dir' h k e =
    let first = number_split now now' _ _ h k e in
    let times = first.0 in
    let last = dir_injective dir dir' first.1 in
    cc

accept_injective : (now now' : ℕ) (dir dir' : Dir) → IsWithin (Accept now dir) → IsWithin (Accept now' dir') → fields_of (Accept now dir) ≡ fields_of (Accept now' dir') → Accept now dir ≡ Accept now' dir'
accept_injective now now' dir dir' h k e =
    let first = number_split now now' _ _ h k e in
    let times = first.0 in
    let last = dir_injective dir dir' first.1 in
    cc

write_injective : (now now' : ℕ) (id id' : ℕ) (body body' : List ℕ) → IsWithin (Write now id body) → IsWithin (Write now' id' body') → fields_of (Write now id body) ≡ fields_of (Write now' id' body') → Write now id body ≡ Write now' id' body'
write_injective now now' id id' body body' h k e =
    let first = number_split now now' _ _ h.0 k.0 e in
    let times = first.0 in
    let second = code_split id id' _ _ h.1 k.1 first.1 in
    let ids = second.0 in
    let last = hex_field_injective body body' h.2 k.2 second.1 in
    cc

finish_injective : (now now' : ℕ) (id id' : ℕ) → IsWithin (Finish now id) → IsWithin (Finish now' id') → fields_of (Finish now id) ≡ fields_of (Finish now' id') → Finish now id ≡ Finish now' id'
finish_injective now now' id id' h k e =
    let first = number_split now now' _ _ h.0 k.0 e in
    let times = first.0 in
    let last = code_injective id id' h.1 k.1 first.1 in
    cc

reset_injective : (now now' : ℕ) (id id' : ℕ) (code code' : ℕ) → IsWithin (ResetSend now id code) → IsWithin (ResetSend now' id' code') → fields_of (ResetSend now id code) ≡ fields_of (ResetSend now' id' code') → ResetSend now id code ≡ ResetSend now' id' code'
reset_injective now now' id id' code code' h k e =
    let first = number_split now now' _ _ h.0 k.0 e in
    let times = first.0 in
    let second = code_split id id' _ _ h.1 k.1 first.1 in
    let ids = second.0 in
    let last = code_injective code code' h.2 k.2 second.1 in
    cc

stop_injective : (now now' : ℕ) (id id' : ℕ) (code code' : ℕ) → IsWithin (StopRecv now id code) → IsWithin (StopRecv now' id' code') → fields_of (StopRecv now id code) ≡ fields_of (StopRecv now' id' code') → StopRecv now id code ≡ StopRecv now' id' code'
stop_injective now now' id id' code code' h k e =
    let first = number_split now now' _ _ h.0 k.0 e in
    let times = first.0 in
    let second = code_split id id' _ _ h.1 k.1 first.1 in
    let ids = second.0 in
    let last = code_injective code code' h.2 k.2 second.1 in
    cc

read_injective : (now now' : ℕ) (id id' : ℕ) (max max' : ℕ) → IsWithin (Read now id max) → IsWithin (Read now' id' max') → fields_of (Read now id max) ≡ fields_of (Read now' id' max') → Read now id max ≡ Read now' id' max'
read_injective now now' id id' max max' h k e =
    let first = number_split now now' _ _ h.0 k.0 e in
    let times = first.0 in
    let second = code_split id id' _ _ h.1 k.1 first.1 in
    let ids = second.0 in
    let last = decimal_injective max max' h.2 k.2 second.1 in
    cc

send_injective : (now now' : ℕ) (body body' : List ℕ) → IsWithin (SendDatagram now body) → IsWithin (SendDatagram now' body') → fields_of (SendDatagram now body) ≡ fields_of (SendDatagram now' body') → SendDatagram now body ≡ SendDatagram now' body'
send_injective now now' body body' h k e =
    let first = number_split now now' _ _ h.0 k.0 e in
    let times = first.0 in
    let last = hex_field_injective body body' h.1 k.1 first.1 in
    cc

close_injective : (now now' : ℕ) (code code' : ℕ) (reason reason' : List ℕ) → IsWithin (Close now code reason) → IsWithin (Close now' code' reason') → fields_of (Close now code reason) ≡ fields_of (Close now' code' reason') → Close now code reason ≡ Close now' code' reason'
close_injective now now' code code' reason reason' h k e =
    let first = number_split now now' _ _ h.0 k.0 e in
    let times = first.0 in
    let second = code_split code code' _ _ h.1 k.1 first.1 in
    let ids = second.0 in
    let last = hex_field_injective reason reason' h.2 k.2 second.1 in
    cc

streams_injective : (now now' : ℕ) (dir dir' : Dir) (count count' : ℕ) → IsWithin (MaxStreams now dir count) → IsWithin (MaxStreams now' dir' count') → fields_of (MaxStreams now dir count) ≡ fields_of (MaxStreams now' dir' count') → MaxStreams now dir count ≡ MaxStreams now' dir' count'
streams_injective now now' dir dir' count count' h k e =
    let first = number_split now now' _ _ h.0 k.0 e in
    let times = first.0 in
    let second = dir_split dir dir' _ _ first.1 in
    let dirs = second.0 in
    let last = code_injective count count' h.1 k.1 second.1 in
    cc

sendwindow_injective : (now now' : ℕ) (size size' : ℕ) → IsWithin (SendWindow now size) → IsWithin (SendWindow now' size') → fields_of (SendWindow now size) ≡ fields_of (SendWindow now' size') → SendWindow now size ≡ SendWindow now' size'
sendwindow_injective now now' size size' h k e =
    let first = number_split now now' _ _ h.0 k.0 e in
    let times = first.0 in
    let last = decimal_injective size size' h.1 k.1 first.1 in
    cc

recvwindow_injective : (now now' : ℕ) (size size' : ℕ) → IsWithin (ReceiveWindow now size) → IsWithin (ReceiveWindow now' size') → fields_of (ReceiveWindow now size) ≡ fields_of (ReceiveWindow now' size') → ReceiveWindow now size ≡ ReceiveWindow now' size'
recvwindow_injective now now' size size' h k e =
    let first = number_split now now' _ _ h.0 k.0 e in
    let times = first.0 in
    let last = code_injective size size' h.1 k.1 first.1 in
    cc

identifiers_injective : (now now' : ℕ) (ids ids' : List IssuedCid) → IsWithin (Identifiers now ids) → IsWithin (Identifiers now' ids') → fields_of (Identifiers now ids) ≡ fields_of (Identifiers now' ids') → Identifiers now ids ≡ Identifiers now' ids'
identifiers_injective now now' ids ids' h k e =
    let front = ids_front ids h.1 in
    let front' = ids_front ids' k.1 in
    let first = number_split now now' front.0 front'.0 h.0 k.0 (sym (ap (λ (z : List ℕ). decimal now ++ z) front.1) ∙ e ∙ ap (λ (z : List ℕ). decimal now' ++ z) front'.1) in
    let times = first.0 in
    let last = ids_injective ids ids' h.2 k.2 (front.1 ∙ ap (λ (z : List ℕ). 32 ∷ z) first.1 ∙ sym front'.1) in
    cc

-- an input's line is that of no other input
pub input_line_injective : (i j : Input) → IsWithin i → IsWithin j → input_line i ≡ input_line j → i ≡ j
input_line_injective (Datagram now remote ecn bytes) (Datagram now' remote' ecn' bytes') h k e = datagram_injective now now' remote remote' ecn ecn' bytes bytes' h k (one_fields (Datagram now remote ecn bytes) (Datagram now' remote' ecn' bytes') refl e)
input_line_injective (Timeout now) (Timeout now') h k e = ap Timeout (decimal_injective now now' h k (one_fields (Timeout now) (Timeout now') refl e))
input_line_injective (Transmit now count) (Transmit now' count') h k e = transmit_injective now now' count count' h k (one_fields (Transmit now count) (Transmit now' count') refl e)
input_line_injective (Open now dir) (Open now' dir') h k e = open_injective now now' dir dir' h k (one_fields (Open now dir) (Open now' dir') refl e)
input_line_injective (Accept now dir) (Accept now' dir') h k e = accept_injective now now' dir dir' h k (one_fields (Accept now dir) (Accept now' dir') refl e)
input_line_injective (Write now id body) (Write now' id' body') h k e = write_injective now now' id id' body body' h k (one_fields (Write now id body) (Write now' id' body') refl e)
input_line_injective (Finish now id) (Finish now' id') h k e = finish_injective now now' id id' h k (one_fields (Finish now id) (Finish now' id') refl e)
input_line_injective (ResetSend now id code) (ResetSend now' id' code') h k e = reset_injective now now' id id' code code' h k (one_fields (ResetSend now id code) (ResetSend now' id' code') refl e)
input_line_injective (StopRecv now id code) (StopRecv now' id' code') h k e = stop_injective now now' id id' code code' h k (one_fields (StopRecv now id code) (StopRecv now' id' code') refl e)
input_line_injective (Read now id max) (Read now' id' max') h k e = read_injective now now' id id' max max' h k (one_fields (Read now id max) (Read now' id' max') refl e)
input_line_injective (SendDatagram now body) (SendDatagram now' body') h k e = send_injective now now' body body' h k (one_fields (SendDatagram now body) (SendDatagram now' body') refl e)
input_line_injective (RecvDatagram now) (RecvDatagram now') h k e = ap RecvDatagram (decimal_injective now now' h k (one_fields (RecvDatagram now) (RecvDatagram now') refl e))
input_line_injective (Close now code reason) (Close now' code' reason') h k e = close_injective now now' code code' reason reason' h k (one_fields (Close now code reason) (Close now' code' reason') refl e)
input_line_injective (Ping now) (Ping now') h k e = ap Ping (decimal_injective now now' h k (one_fields (Ping now) (Ping now') refl e))
input_line_injective (Update now) (Update now') h k e = ap Update (decimal_injective now now' h k (one_fields (Update now) (Update now') refl e))
input_line_injective (Identifiers now ids) (Identifiers now' ids') h k e = identifiers_injective now now' ids ids' h k (one_fields (Identifiers now ids) (Identifiers now' ids') refl e)
input_line_injective (MaxStreams now dir count) (MaxStreams now' dir' count') h k e = streams_injective now now' dir dir' count count' h k (one_fields (MaxStreams now dir count) (MaxStreams now' dir' count') refl e)
input_line_injective (SendWindow now size) (SendWindow now' size') h k e = sendwindow_injective now now' size size' h k (one_fields (SendWindow now size) (SendWindow now' size') refl e)
input_line_injective (ReceiveWindow now size) (ReceiveWindow now' size') h k e = recvwindow_injective now now' size size' h k (one_fields (ReceiveWindow now size) (ReceiveWindow now' size') refl e)
input_line_injective i j h k e = absurd (omega (arith, sym (line_letters i) ∙ ap letters_of e ∙ line_letters j))
