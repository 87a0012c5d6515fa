-- Frames that are written are read back
use Rattle.std.proofs.Common.{◌≡◌, ℕ, zero, suc, ◌+◌, ◌-◌, ◌*◌, ◌/◌, ◌<◌, ◌≤◌, ◌^◌, Bool, true, false, cond, ◌==◌, List, [], ◌∷◌, ◌++◌, length, Option, None, Some, is_some, unwrap_or, refl, sym, subst, append_assoc, append-nil, arith, lit<}
use Rattle.std.specs.List.{flat_map}
use Rattle.std.specs.Int.{w64, to_be_bytes}
use Rattle.std.proofs.lemmas.Bool.Decides.{nat_tests}
use Rattle.qc_base.specs.StreamId.{dir_bit}
use Rattle.qc_base.specs.Varint.{IsNumber, varint}
use Rattle.qc_base.specs.Grammar.{Bytes, Varint}
use Rattle.qc_base.specs.declared.side.Dir.{Dir}
use Rattle.qc_base.specs.declared.side.Dir.TheVariants.{Bi, Uni}
use Rattle.qc_base.proofs.Varints.{varint_spelled}
use Rattle.qc_base.proofs.Written.{Spells, spells_by, spells_then, spells_last, spells_is, spells_where, spells_text, spells_bytes, spells_byte, spells_word, spells_varint, spells_blob}
use Rattle.qc_frame.specs.Frame.{FrameValue, AckValue, TypedValue}
use Rattle.qc_frame.specs.FrameReading.{type_given}
use Rattle.qc_base.specs.Spelling.{blob}
use Rattle.qc_frame.specs.FrameSpelling.{numbers_of, ack_type, ecn_spelling, ack_spelling, stream_type, offset_spelling, has_offset, spelling, last_spelling, frame_type, last_type}
use Rattle.qc_frame.specs.FrameFits.{MoreRangesFit, RangesFit, CountsFit, TypeFits, Fits, shortest, as_written, last_as_written}
use Rattle.qc_frame.specs.FrameGrammar as grammar
use Rattle.qc_frame.specs.FrameGrammar.{Fields, FrameAt}
use Rattle.qc_frame.specs.declared.frames.EcnCounts.{EcnCounts}
use Rattle.qc_frame.specs.declared.frames.FrameOf.TheVariants as frames

-- a type, and the other fields behind it
typed : (f : FrameValue) (ty : ℕ) (t : List ℕ) → ty < 64 → ((z : List ℕ) → Fields f (t ++ z) z ty) → Spells FrameAt (record { ty = ty; frame = f }) (varint ty ++ t)
typed f ty t small fields = record {
  goes = λ z. (t ++ z, subst (λ (a : List ℕ). Varint ty a (t ++ z)) (sym (append_assoc (varint ty) t z)) (varint_spelled ty (t ++ z) (omega arith)), fields z);
}

-- a type alone
typed_only : (f : FrameValue) (ty : ℕ) → ty < 64 → ((z : List ℕ) → Fields f z z ty) → Spells FrameAt (record { ty = ty; frame = f }) (varint ty)
typed_only f ty small fields = record { goes = λ z. (z, varint_spelled ty z (omega arith), fields z) }

crypto_spelled : (offset : ℕ) (body : List ℕ) → IsNumber offset → IsNumber (length body) → Spells grammar.Crypto (frames.Crypto offset body) (varint offset ++ blob body)
crypto_spelled offset body o b = spells_then (spells_varint offset o) (spells_last (spells_blob body b))

new_token_spelled : (token : List ℕ) → IsNumber (length token) → Spells grammar.NewToken (frames.NewToken token) (blob token)
new_token_spelled token t = spells_last (spells_blob token t)

reset_stream_spelled : (id code size : ℕ) → IsNumber id → IsNumber code → IsNumber size
    → Spells grammar.ResetStream (frames.ResetStream id code size) (varint id ++ (varint code ++ varint size))
reset_stream_spelled id code size i c s = spells_then (spells_varint id i) (spells_then (spells_varint code c) (spells_last (spells_varint size s)))

stop_sending_spelled : (id code : ℕ) → IsNumber id → IsNumber code → Spells grammar.StopSending (frames.StopSending id code) (varint id ++ varint code)
stop_sending_spelled id code i c = spells_then (spells_varint id i) (spells_last (spells_varint code c))

max_data_spelled : (limit : ℕ) → IsNumber limit → Spells grammar.MaxData (frames.MaxData limit) (varint limit)
max_data_spelled limit l = spells_last (spells_varint limit l)

max_stream_data_spelled : (id offset : ℕ) → IsNumber id → IsNumber offset → Spells grammar.MaxStreamData (frames.MaxStreamData id offset) (varint id ++ varint offset)
max_stream_data_spelled id offset i o = spells_then (spells_varint id i) (spells_last (spells_varint offset o))

max_streams_spelled : (dir : Dir) (count : ℕ) → IsNumber count → Spells (grammar.MaxStreams dir) (frames.MaxStreams dir count) (varint count)
max_streams_spelled dir count c = spells_last (spells_varint count c)

data_blocked_spelled : (offset : ℕ) → IsNumber offset → Spells grammar.DataBlocked (frames.DataBlocked offset) (varint offset)
data_blocked_spelled offset o = spells_last (spells_varint offset o)

stream_data_blocked_spelled : (id offset : ℕ) → IsNumber id → IsNumber offset → Spells grammar.StreamDataBlocked (frames.StreamDataBlocked id offset) (varint id ++ varint offset)
stream_data_blocked_spelled id offset i o = spells_then (spells_varint id i) (spells_last (spells_varint offset o))

streams_blocked_spelled : (dir : Dir) (limit : ℕ) → IsNumber limit → Spells (grammar.StreamsBlocked dir) (frames.StreamsBlocked dir limit) (varint limit)
streams_blocked_spelled dir limit l = spells_last (spells_varint limit l)

retire_connection_id_spelled : (sequence : ℕ) → IsNumber sequence → Spells grammar.RetireConnectionId (frames.RetireConnectionId sequence) (varint sequence)
retire_connection_id_spelled sequence s = spells_last (spells_varint sequence s)

path_challenge_spelled : (word : ℕ) → word < 2 ^ 64 → Spells grammar.PathChallenge (frames.PathChallenge word) (to_be_bytes w64 word)
path_challenge_spelled word w = spells_last (spells_word w64 word w)

path_response_spelled : (word : ℕ) → word < 2 ^ 64 → Spells grammar.PathResponse (frames.PathResponse word) (to_be_bytes w64 word)
path_response_spelled word w = spells_last (spells_word w64 word w)

application_close_spelled : (code : ℕ) (reason : List ℕ) → IsNumber code → IsNumber (length reason)
    → Spells grammar.ApplicationClose (frames.ApplicationClose code reason) (varint code ++ blob reason)
application_close_spelled code reason c r = spells_then (spells_varint code c) (spells_last (spells_blob reason r))

datagram_spelled : (body : List ℕ) → IsNumber (length body) → Spells (grammar.Datagram true) (frames.Datagram body) (blob body)
datagram_spelled body b = spells_last (spells_blob body b)

-- a frame type other than 0, or 0 for none
type_spelled : (ty : Option ℕ) → TypeFits ty → (type_given (unwrap_or ty 0) ≡ ty) × IsNumber (unwrap_or ty 0)
type_spelled None fits = (refl, lit< tt)
type_spelled (Some ty) fits = let some : (ty == 0) ≡ false = grind (arith, nat_tests) in (rw some refl, fits.1)

connection_close_spelled : (code : ℕ) (ty : Option ℕ) (reason : List ℕ) → IsNumber code → TypeFits ty → IsNumber (length reason)
    → Spells grammar.ConnectionClose (frames.ConnectionClose code ty reason) (varint code ++ (varint (unwrap_or ty 0) ++ blob reason))
connection_close_spelled code ty reason c t r =
    let given = type_spelled ty t in
    let there : Spells grammar.ConnectionClose (frames.ConnectionClose code (type_given (unwrap_or ty 0)) reason) (varint code ++ (varint (unwrap_or ty 0) ++ blob reason))
    = spells_then (spells_varint code c) (spells_then (spells_varint (unwrap_or ty 0) given.1) (spells_last (spells_blob reason r))) in
    subst (λ (t : Option ℕ). Spells grammar.ConnectionClose (frames.ConnectionClose code t reason) (varint code ++ (varint (unwrap_or ty 0) ++ blob reason))) given.0 there

new_connection_id_spelled : (sequence retire : ℕ) (id token : List ℕ) → IsNumber sequence → retire ≤ sequence → 0 < length id → length id ≤ 20 → length token ≡ 16
    → Spells grammar.NewConnectionId (frames.NewConnectionId (record { sequence = sequence; retire_prior_to = retire; id = id; reset_token = token }))
    (varint sequence ++ (varint retire ++ ((length id ∷ []) ++ (id ++ token))))
new_connection_id_spelled sequence retire id token s r some few size =
    spells_then (spells_varint sequence s) (spells_then (spells_varint retire (omega arith)) (spells_where r
    (spells_then (spells_byte (length id)) (spells_where (some, few)
    (spells_then (spells_bytes id) (spells_last (sixteen token size)))))))
  where
    sixteen : (token : List ℕ) → length token ≡ 16 → Spells (Bytes 16) token token
    sixteen token size = record { goes = λ z. (size, refl) }

offset_by : (offset : ℕ) (none : Bool) → (offset == 0) ≡ none → IsNumber offset → Spells (grammar.Offset (cond none false true)) offset (cond none [] (varint offset))
offset_by offset true e o = let zero_is : 0 ≡ offset = grind (arith, nat_tests) in subst (λ (n : ℕ). Spells (grammar.Offset false) n []) zero_is (spells_is 0)
offset_by offset false e o = spells_varint offset o

offset_spelled : (offset : ℕ) → IsNumber offset → Spells (grammar.Offset (has_offset offset)) offset (offset_spelling offset)
offset_spelled offset o = offset_by offset (offset == 0) refl o

stream_spelled : (id offset : ℕ) (fin : Bool) (body : List ℕ) → IsNumber id → IsNumber offset → IsNumber (length body)
    → Spells (grammar.Stream (has_offset offset) true fin) (frames.Stream id offset fin body) (varint id ++ (offset_spelling offset ++ blob body))
stream_spelled id offset fin body i o b = spells_then (spells_varint id i) (spells_then (offset_spelled offset o) (spells_last (spells_blob body b)))

-- ---- ACK

more_spelled : (count smallest : ℕ) (ns : List ℕ) → length ns ≡ 2 * count → smallest < 4611686018427387904 → MoreRangesFit smallest ns
    → Spells (grammar.MoreRanges count smallest) tt (flat_map varint ns)
more_spelled zero smallest [] size small fits = spells_is tt
more_spelled zero smallest (gap ∷ ns) size small fits = absurd (omega arith)
more_spelled (suc count) smallest [] size small fits = absurd (omega arith)
more_spelled (suc count) smallest (gap ∷ []) size small fits = absurd (omega arith)
more_spelled (suc count) smallest (gap ∷ len ∷ ns) size small fits =
    spells_then (spells_varint gap (omega arith)) (spells_where fits.0 (spells_then (spells_varint len (omega arith)) (spells_where fits.1
    (more_spelled count (smallest - (gap + 2) - len) ns (omega arith) (omega arith) fits.2))))

even : (smallest : ℕ) (ns : List ℕ) → MoreRangesFit smallest ns → (count : ℕ) × (length ns ≡ 2 * count) × (2 * count ≤ smallest)
even smallest [] fits = (0, refl, omega arith)
even smallest (gap ∷ []) fits = absurd fits
even smallest (gap ∷ len ∷ ns) fits =
    let others = even (smallest - (gap + 2) - len) ns fits.2 in
    let size = others.1 in let few = others.2 in
    (suc others.0, omega arith, omega arith)

ranges_spelled : (largest : ℕ) (ns : List ℕ) → IsNumber largest → RangesFit largest ns
    → IsNumber (length ns / 2) × Spells (grammar.Ranges (length ns / 2) largest) tt (flat_map varint ns)
ranges_spelled largest [] small fits = absurd fits
ranges_spelled largest (first ∷ ns) small fits =
    let count = even (largest - first) ns fits.1 in
    let size = count.1 in let few = count.2 in
    let half : count.0 ≡ length (first ∷ ns) / 2 = omega arith in
    let more = more_spelled count.0 (largest - first) ns size (omega arith) fits.1 in (
      omega arith,
      subst (λ (n : ℕ). Spells (grammar.Ranges n largest) tt (flat_map varint (first ∷ ns))) half
          (spells_then (spells_varint first (omega arith)) (spells_where fits.0 more)),
    )

counts_spelled : (ecn : Option EcnCounts) → CountsFit ecn → Spells (grammar.Counts (is_some ecn)) ecn (ecn_spelling ecn)
counts_spelled None fits = spells_is None
counts_spelled (Some counts) fits =
    spells_by (sym (append_assoc (varint counts.ect0) (varint counts.ect1) (varint counts.ce)))
    (spells_then (spells_varint counts.ect0 fits.0) (spells_then (spells_varint counts.ect1 fits.1) (spells_last (spells_varint counts.ce fits.2))))

ack_spelled : (ack : AckValue) → IsNumber ack.largest → IsNumber ack.delay → RangesFit ack.largest (numbers_of ack.additional) → CountsFit ack.ecn
    → Spells (grammar.Ack (is_some ack.ecn)) (shortest (frames.Ack ack))
    (varint ack.largest ++ (varint ack.delay ++ (varint (length (numbers_of ack.additional) / 2) ++ (flat_map varint (numbers_of ack.additional) ++ ecn_spelling ack.ecn))))
ack_spelled ack l d r c =
    let ranges = ranges_spelled ack.largest (numbers_of ack.additional) l r in
    spells_then (spells_varint ack.largest l) (spells_then (spells_varint ack.delay d) (spells_then (spells_varint (length (numbers_of ack.additional) / 2) ranges.0)
    (spells_then (spells_text ranges.1) (spells_last (counts_spelled ack.ecn c)))))

-- ---- all kinds

small_stream_type : (o l f : Bool) → stream_type o l f < 64
small_stream_type true true true = lit< tt
small_stream_type true true false = lit< tt
small_stream_type true false true = lit< tt
small_stream_type true false false = lit< tt
small_stream_type false true true = lit< tt
small_stream_type false true false = lit< tt
small_stream_type false false true = lit< tt
small_stream_type false false false = lit< tt

small_dir : (ty : ℕ) (dir : Dir) → ty < 63 → ty + dir_bit dir < 64
small_dir ty Bi h = omega arith
small_dir ty Uni h = omega arith

-- three and four fields behind a type
three : (a b c : List ℕ) → a ++ (b ++ c) ≡ a ++ b ++ c
three a b c = sym (append_assoc a b c)

four : (a b c d : List ℕ) → a ++ (b ++ (c ++ d)) ≡ a ++ b ++ c ++ d
four a b c d = sym (simp append_assoc)

five : (a b c d e : List ℕ) → a ++ (b ++ (c ++ (d ++ e))) ≡ a ++ b ++ c ++ d ++ e
five a b c d e = sym (simp append_assoc)

six : (a b c d e f : List ℕ) → a ++ (b ++ (c ++ (d ++ (e ++ f)))) ≡ a ++ b ++ c ++ d ++ e ++ f
six a b c d e f = sym (simp append_assoc)

small_ack_type : (ecn : Option EcnCounts) → ack_type ecn < 64
small_ack_type None = lit< tt
small_ack_type (Some counts) = lit< tt

ack_fields : (f : FrameValue) (a z : List ℕ) (ecn : Option EcnCounts) → grammar.Ack (is_some ecn) f a z → Fields f a z (ack_type ecn)
ack_fields f a z None s = grammar.is_ack s
ack_fields f a z (Some counts) s = grammar.is_ack_with_counts s

ack_written : (ack : AckValue) → IsNumber ack.largest → IsNumber ack.delay → RangesFit ack.largest (numbers_of ack.additional) → CountsFit ack.ecn
    → Spells FrameAt (record { ty = ack_type ack.ecn; frame = shortest (frames.Ack ack) }) (ack_spelling ack)
unfolding ack_spelling
ack_written ack l d r c =
    let ns = numbers_of ack.additional in
    spells_by (six (varint (ack_type ack.ecn)) (varint ack.largest) (varint ack.delay) (varint (length ns / 2)) (flat_map varint ns) (ecn_spelling ack.ecn))
    (typed (shortest (frames.Ack ack)) (ack_type ack.ecn) (varint ack.largest ++ (varint ack.delay ++ (varint (length ns / 2) ++ (flat_map varint ns ++ ecn_spelling ack.ecn)))) (small_ack_type ack.ecn)
    (λ z. ack_fields (shortest (frames.Ack ack)) ((varint ack.largest ++ (varint ack.delay ++ (varint (length ns / 2) ++ (flat_map varint ns ++ ecn_spelling ack.ecn)))) ++ z) z ack.ecn
    ((ack_spelled ack l d r c).goes z)))

pub written : (f : FrameValue) → Fits f → Spells FrameAt (as_written f) (spelling f)
unfolding Fits spelling frame_type
written frames.Padding fits = typed_only frames.Padding 0x00 (lit< tt) (λ z. grammar.is_padding (refl, refl))
written frames.Ping fits = typed_only frames.Ping 0x01 (lit< tt) (λ z. grammar.is_ping (refl, refl))
written (frames.Ack ack) fits = ack_written ack fits.0 fits.1 fits.2 fits.3
written (frames.ResetStream id code size) fits =
    spells_by (four (varint 0x04) (varint id) (varint code) (varint size))
    (typed (frames.ResetStream id code size) 0x04 (varint id ++ (varint code ++ varint size)) (lit< tt) (λ z. grammar.is_reset_stream ((reset_stream_spelled id code size fits.0 fits.1 fits.2).goes z)))
written (frames.StopSending id code) fits =
    spells_by (three (varint 0x05) (varint id) (varint code))
    (typed (frames.StopSending id code) 0x05 (varint id ++ varint code) (lit< tt) (λ z. grammar.is_stop_sending ((stop_sending_spelled id code fits.0 fits.1).goes z)))
written (frames.Crypto offset body) fits =
    spells_by (three (varint 0x06) (varint offset) (blob body))
    (typed (frames.Crypto offset body) 0x06 (varint offset ++ blob body) (lit< tt) (λ z. grammar.is_crypto ((crypto_spelled offset body fits.0 fits.1).goes z)))
written (frames.NewToken token) fits =
    typed (frames.NewToken token) 0x07 (blob token) (lit< tt) (λ z. grammar.is_new_token ((new_token_spelled token fits).goes z))
written (frames.Stream id offset fin body) fits =
    spells_by (four (varint (stream_type (has_offset offset) true fin)) (varint id) (offset_spelling offset) (blob body))
    (typed (frames.Stream id offset fin body) (stream_type (has_offset offset) true fin) (varint id ++ (offset_spelling offset ++ blob body)) (small_stream_type (has_offset offset) true fin)
    (λ z. grammar.is_stream (has_offset offset) true fin ((stream_spelled id offset fin body fits.0 fits.1 fits.2).goes z)))
written (frames.MaxData limit) fits =
    typed (frames.MaxData limit) 0x10 (varint limit) (lit< tt) (λ z. grammar.is_max_data ((max_data_spelled limit fits).goes z))
written (frames.MaxStreamData id offset) fits =
    spells_by (three (varint 0x11) (varint id) (varint offset))
    (typed (frames.MaxStreamData id offset) 0x11 (varint id ++ varint offset) (lit< tt) (λ z. grammar.is_max_stream_data ((max_stream_data_spelled id offset fits.0 fits.1).goes z)))
written (frames.MaxStreams dir count) fits =
    typed (frames.MaxStreams dir count) (0x12 + dir_bit dir) (varint count) (small_dir 0x12 dir (lit< tt)) (λ z. grammar.is_max_streams dir ((max_streams_spelled dir count fits).goes z))
written (frames.DataBlocked offset) fits =
    typed (frames.DataBlocked offset) 0x14 (varint offset) (lit< tt) (λ z. grammar.is_data_blocked ((data_blocked_spelled offset fits).goes z))
written (frames.StreamDataBlocked id offset) fits =
    spells_by (three (varint 0x15) (varint id) (varint offset))
    (typed (frames.StreamDataBlocked id offset) 0x15 (varint id ++ varint offset) (lit< tt) (λ z. grammar.is_stream_data_blocked ((stream_data_blocked_spelled id offset fits.0 fits.1).goes z)))
written (frames.StreamsBlocked dir limit) fits =
    typed (frames.StreamsBlocked dir limit) (0x16 + dir_bit dir) (varint limit) (small_dir 0x16 dir (lit< tt)) (λ z. grammar.is_streams_blocked dir ((streams_blocked_spelled dir limit fits).goes z))
written (frames.NewConnectionId new) fits =
    spells_by (five (varint 0x18) (varint new.sequence) (varint new.retire_prior_to) (length new.id ∷ new.id) new.reset_token)
    (typed (frames.NewConnectionId new) 0x18 (varint new.sequence ++ (varint new.retire_prior_to ++ ((length new.id ∷ new.id) ++ new.reset_token))) (lit< tt)
    (λ z. grammar.is_new_connection_id ((new_connection_id_spelled new.sequence new.retire_prior_to new.id new.reset_token fits.0 fits.1 fits.2 fits.3 fits.4).goes z)))
written (frames.RetireConnectionId sequence) fits =
    typed (frames.RetireConnectionId sequence) 0x19 (varint sequence) (lit< tt) (λ z. grammar.is_retire_connection_id ((retire_connection_id_spelled sequence fits).goes z))
written (frames.PathChallenge word) fits =
    typed (frames.PathChallenge word) 0x1a (to_be_bytes w64 word) (lit< tt) (λ z. grammar.is_path_challenge ((path_challenge_spelled word fits).goes z))
written (frames.PathResponse word) fits =
    typed (frames.PathResponse word) 0x1b (to_be_bytes w64 word) (lit< tt) (λ z. grammar.is_path_response ((path_response_spelled word fits).goes z))
written (frames.ConnectionClose code ty reason) fits =
    spells_by (four (varint 0x1c) (varint code) (varint (unwrap_or ty 0)) (blob reason))
    (typed (frames.ConnectionClose code ty reason) 0x1c (varint code ++ (varint (unwrap_or ty 0) ++ blob reason)) (lit< tt)
    (λ z. grammar.is_connection_close ((connection_close_spelled code ty reason fits.0 fits.1 fits.2).goes z)))
written (frames.ApplicationClose code reason) fits =
    spells_by (three (varint 0x1d) (varint code) (blob reason))
    (typed (frames.ApplicationClose code reason) 0x1d (varint code ++ blob reason) (lit< tt) (λ z. grammar.is_application_close ((application_close_spelled code reason fits.0 fits.1).goes z)))
written frames.HandshakeDone fits = typed_only frames.HandshakeDone 0x1e (lit< tt) (λ z. grammar.is_handshake_done (refl, refl))
written (frames.Datagram body) fits =
    typed (frames.Datagram body) 0x31 (blob body) (lit< tt) (λ z. grammar.is_datagram_with_length ((datagram_spelled body fits).goes z))

-- ---- the last frame of a packet

ends_in : (f : FrameValue) (ty : ℕ) (t : List ℕ) → ty < 64 → Fields f t [] ty → FrameAt (record { ty = ty; frame = f }) (varint ty ++ t) []
ends_in f ty t small fields = (t, varint_spelled ty t (omega arith), fields)

whole : (f : TypedValue) (t : List ℕ) → Spells FrameAt f t → FrameAt f t []
whole f t s = subst (λ (a : List ℕ). FrameAt f a []) (append-nil t) (s.goes [])

pub last_written : (f : FrameValue) → Fits f → FrameAt (last_as_written f) (last_spelling f) []
unfolding Fits last_spelling last_type
last_written (frames.Stream id offset fin body) fits =
    let t = varint id ++ (offset_spelling offset ++ body) in
    subst (λ (a : List ℕ). FrameAt (last_as_written (frames.Stream id offset fin body)) a [])
    (four (varint (stream_type (has_offset offset) false fin)) (varint id) (offset_spelling offset) body)
    (ends_in (frames.Stream id offset fin body) (stream_type (has_offset offset) false fin) t (small_stream_type (has_offset offset) false fin)
    (grammar.is_stream (has_offset offset) false fin (
      id,
      offset_spelling offset ++ body,
      (spells_varint id fits.0).goes (offset_spelling offset ++ body),
      (offset, body, (offset_spelled offset fits.1).goes body, (body, [], (refl, refl), (refl, refl))),
    )))
last_written (frames.Datagram body) fits =
    ends_in (frames.Datagram body) 0x30 body (lit< tt) (grammar.is_datagram (body, [], (refl, refl), (refl, refl)))
last_written f fits = whole (as_written f) (spelling f) (written f fits)
