-- Each kind of frame: what is read is what its grammar says
use Rattle.std.proofs.Common.{ℕ, zero, suc, ◌+◌, ◌-◌, ◌<◌, ◌≤◌, Bool, true, false, ◌||◌, nat_lt, ◌==◌, None, Some, arith}
use Rattle.std.specs.Int.{w64}
use Rattle.std.proofs.lemmas.Bool.Decides.{nat_tests}
use Rattle.qc_base.specs.Grammar.{Varint, Blob, Bytes, Byte, Word}
use Rattle.qc_base.specs.declared.side.Dir.{Dir}
use Rattle.qc_base.proofs.Exact.{Exact, Tests, exact_or, exact_then, exact_give, exact_where, exact_text, exact_rest, found_byte, found_bytes}
use Rattle.qc_base.proofs.Varints.{found_varint, found_blob}
use Rattle.qc_base.proofs.Words.{found_word, word_64}
use Rattle.qc_frame.specs.FrameReading as reading
use Rattle.qc_frame.specs.FrameReading.{number_at, byte_at, bytes_at, blob_at, word_at, type_given}
use Rattle.qc_frame.specs.FrameGrammar as grammar
use Rattle.qc_frame.specs.declared.frames.FrameOf.TheVariants as frames
use Rattle.qc_frame.specs.declared.fault.FrameFault.TheVariants.{UnexpectedEnd, Malformed}

number : Exact number_at Varint
number = exact_or UnexpectedEnd found_varint

blob : Exact blob_at Blob
blob = exact_or UnexpectedEnd found_blob

byte : Exact byte_at Byte
byte = exact_or UnexpectedEnd found_byte

bytes : (n : ℕ) → Exact (bytes_at n) (Bytes n)
bytes n = exact_or UnexpectedEnd (found_bytes n)

word : Exact word_at (Word w64)
word = exact_or UnexpectedEnd (found_word w64 word_64)

at_most : (a b : ℕ) → Tests (nat_lt a b) (b ≤ a)
at_most a b = record { passes = λ e. grind (arith, nat_tests); fails = λ h. grind (arith, nat_tests) }

id_length : (len : ℕ) → Tests ((len == 0) || nat_lt 20 len) ((0 < len) × (len ≤ 20))
id_length len = record { passes = λ e. grind (arith, nat_tests); fails = λ h. grind (arith, nat_tests) }

pub crypto_exact : Exact reading.crypto_at grammar.Crypto
unfolding reading.crypto_at
crypto_exact = exact_then number (λ offset. exact_then blob (λ body. exact_give (frames.Crypto offset body)))

pub new_token_exact : Exact reading.new_token_at grammar.NewToken
unfolding reading.new_token_at
new_token_exact = exact_then blob (λ token. exact_give (frames.NewToken token))

pub more_ranges_exact : (count smallest : ℕ) → Exact (reading.more_ranges_at count smallest) (grammar.MoreRanges count smallest)
unfolding reading.more_ranges_at
more_ranges_exact zero smallest = exact_give tt
more_ranges_exact (suc count) smallest =
    exact_then number (λ gap. exact_where Malformed (at_most smallest (gap + 2))
    (exact_then number (λ len. exact_where Malformed (at_most (smallest - (gap + 2)) len) (more_ranges_exact count (smallest - (gap + 2) - len)))))

pub ranges_exact : (count largest : ℕ) → Exact (reading.ranges_at count largest) (grammar.Ranges count largest)
unfolding reading.ranges_at
ranges_exact count largest = exact_then number (λ first. exact_where Malformed (at_most largest first) (more_ranges_exact count (largest - first)))

pub counts_exact : (has_counts : Bool) → Exact (reading.counts_at has_counts) (grammar.Counts has_counts)
unfolding reading.counts_at
counts_exact false = exact_give None
counts_exact true = exact_then number (λ ect0. exact_then number (λ ect1. exact_then number (λ ce. exact_give (Some (record { ect0 = ect0; ect1 = ect1; ce = ce })))))

pub ack_exact : (has_counts : Bool) → Exact (reading.ack_at has_counts) (grammar.Ack has_counts)
unfolding reading.ack_at
ack_exact has_counts =
    exact_then number (λ largest. exact_then number (λ delay. exact_then number (λ count. exact_then (exact_text (ranges_exact count largest)) (λ additional. exact_then (counts_exact has_counts) (λ ecn.
    exact_give (frames.Ack (record { largest = largest; delay = delay; additional = additional; ecn = ecn })))))))

pub reset_stream_exact : Exact reading.reset_stream_at grammar.ResetStream
unfolding reading.reset_stream_at
reset_stream_exact = exact_then number (λ id. exact_then number (λ code. exact_then number (λ size. exact_give (frames.ResetStream id code size))))

pub stop_sending_exact : Exact reading.stop_sending_at grammar.StopSending
unfolding reading.stop_sending_at
stop_sending_exact = exact_then number (λ id. exact_then number (λ code. exact_give (frames.StopSending id code)))

pub offset_exact : (has_offset : Bool) → Exact (reading.offset_at has_offset) (grammar.Offset has_offset)
unfolding reading.offset_at
offset_exact false = exact_give 0
offset_exact true = number

pub body_exact : (has_length : Bool) → Exact (reading.body_at has_length) (grammar.Body has_length)
unfolding reading.body_at
body_exact false = exact_rest
body_exact true = blob

pub stream_exact : (has_offset has_length fin : Bool) → Exact (reading.stream_at has_offset has_length fin) (grammar.Stream has_offset has_length fin)
unfolding reading.stream_at
stream_exact has_offset has_length fin =
    exact_then number (λ id. exact_then (offset_exact has_offset) (λ offset. exact_then (body_exact has_length) (λ body. exact_give (frames.Stream id offset fin body))))

pub max_data_exact : Exact reading.max_data_at grammar.MaxData
unfolding reading.max_data_at
max_data_exact = exact_then number (λ limit. exact_give (frames.MaxData limit))

pub max_stream_data_exact : Exact reading.max_stream_data_at grammar.MaxStreamData
unfolding reading.max_stream_data_at
max_stream_data_exact = exact_then number (λ id. exact_then number (λ offset. exact_give (frames.MaxStreamData id offset)))

pub max_streams_exact : (dir : Dir) → Exact (reading.max_streams_at dir) (grammar.MaxStreams dir)
unfolding reading.max_streams_at
max_streams_exact dir = exact_then number (λ count. exact_give (frames.MaxStreams dir count))

pub data_blocked_exact : Exact reading.data_blocked_at grammar.DataBlocked
unfolding reading.data_blocked_at
data_blocked_exact = exact_then number (λ offset. exact_give (frames.DataBlocked offset))

pub stream_data_blocked_exact : Exact reading.stream_data_blocked_at grammar.StreamDataBlocked
unfolding reading.stream_data_blocked_at
stream_data_blocked_exact = exact_then number (λ id. exact_then number (λ offset. exact_give (frames.StreamDataBlocked id offset)))

pub streams_blocked_exact : (dir : Dir) → Exact (reading.streams_blocked_at dir) (grammar.StreamsBlocked dir)
unfolding reading.streams_blocked_at
streams_blocked_exact dir = exact_then number (λ limit. exact_give (frames.StreamsBlocked dir limit))

pub new_connection_id_exact : Exact reading.new_connection_id_at grammar.NewConnectionId
unfolding reading.new_connection_id_at
new_connection_id_exact =
    exact_then number (λ sequence. exact_then number (λ retire. exact_where Malformed (at_most sequence retire)
    (exact_then byte (λ len. exact_where Malformed (id_length len)
    (exact_then (bytes len) (λ id. exact_then (bytes 16) (λ token.
    exact_give (frames.NewConnectionId (record { sequence = sequence; retire_prior_to = retire; id = id; reset_token = token })))))))))

pub retire_connection_id_exact : Exact reading.retire_connection_id_at grammar.RetireConnectionId
unfolding reading.retire_connection_id_at
retire_connection_id_exact = exact_then number (λ sequence. exact_give (frames.RetireConnectionId sequence))

pub path_challenge_exact : Exact reading.path_challenge_at grammar.PathChallenge
unfolding reading.path_challenge_at
path_challenge_exact = exact_then word (λ w. exact_give (frames.PathChallenge w))

pub path_response_exact : Exact reading.path_response_at grammar.PathResponse
unfolding reading.path_response_at
path_response_exact = exact_then word (λ w. exact_give (frames.PathResponse w))

pub connection_close_exact : Exact reading.connection_close_at grammar.ConnectionClose
unfolding reading.connection_close_at
connection_close_exact = exact_then number (λ code. exact_then number (λ ty. exact_then blob (λ reason. exact_give (frames.ConnectionClose code (type_given ty) reason))))

pub application_close_exact : Exact reading.application_close_at grammar.ApplicationClose
unfolding reading.application_close_at
application_close_exact = exact_then number (λ code. exact_then blob (λ reason. exact_give (frames.ApplicationClose code reason)))

pub datagram_exact : (has_length : Bool) → Exact (reading.datagram_at has_length) (grammar.Datagram has_length)
unfolding reading.datagram_at
datagram_exact has_length = exact_then (body_exact has_length) (λ body. exact_give (frames.Datagram body))
