-- The script of a run, as its user's document has it.
--
-- A script is set lines and then input lines. Each line is ended by LF. The set lines come in this order, the first of them always
-- and each other one at most once; without it the value is the usual one, here in parentheses:
--     set side S        this end is the `client` or the `server`
--     set random W      where random words come from: `zero`, from zeros alone, or 32 bytes H, from ChaCha20 with this seed (zero)
--     set time N        the connection is made at time N (0)
--     set local H       this end's id (8 bytes 01)
--     set remote H      on a client the destination id of its first packets, of 8 bytes at least, and on a server the client's
--                       id (8 bytes 02)
--     set first H       on a server the destination id of the client's first packets (8 bytes 03)
--     set orig H        on a server the destination id of the client's packets before its Retry (that of its first packets)
--     set retry H       on a server the source id of its Retry (none)
--     set addr A        the peer's address (::1, port 4433)
--     set validated F   on a server whether the peer's address is validated: `0` or `1` (0)
--     set token H       on a client the token that its Initial packets carry (none)
--     set secret H      the toy's secret, of 5 bytes (zeros)
--     set limit_initial N    how many packets an Initial key may seal (2^23)
--     set limit_handshake N  how many packets a Handshake key may seal (2^23)
--     set limit_data N       how many packets a 1-RTT key may seal (2^23)
--     set limit_failures N   how many packets may fail to open (2^52; RFC 9001, section 6.6)
--     set idle N        this end's limit on idle time in milliseconds; 0 is none (30000)
--     set mtud F        whether larger datagrams are looked for: `0` or `1` (1)
--     set gso F         whether the datagrams of a transmit may stand behind each other: `0`, a transmit has at most one, or `1` (1)
--     set sent N        on a server how many tokens it sends its client for later connections (0)
--     set clock N       on a server its clock, which stands still: N seconds after the start of 1970 (0)
-- An input line is
--     datagram T A E H  a datagram H came at time T from the address A with the mark E of congestion
--     timeout T         timers may have come at time T
--     transmit T N      a transmit at time T of at most N datagrams
--     open T D          the application opens a stream of direction D at time T
--     accept T D        it accepts a stream of direction D that the peer opened
--     write T I H       it writes H on the stream I
--     finish T I        it finishes the stream I
--     reset T I C       it resets the stream I, with the code C
--     stop T I C        it wants no more of the stream I, with the code C
--     read T I N        it reads at most N bytes of the stream I in order
--     send T H          it sends a datagram H
--     recv T            it takes the oldest datagram that came
--     close T C H       the application closes at time T, with the code C and the reason H
--     ping T            a ping at time T
--     update T          the application asks for an update of the keys at time T
--     ids T I ..        the endpoint gives ids that the peer may use for this end, one or more, each I as S:H:K: its sequence number S,
--                       the id H, and the token K of 16 bytes for a stateless reset
--     streams T D N     the application sets that the peer may have N streams of direction D open at a time
--     sendwindow T N    it sets that N bytes may be kept until they are acknowledged
--     recvwindow T N    it sets that N bytes may be underway or unread
-- with one space between fields. Numbers are decimal, below 2^64, without leading zeros; a code, a stream's id, a limit on idle time,
-- and the N of `streams` and `recvwindow` are below 2^62. Bytes are lower-case hex, and `-` where there are none; an id of a
-- connection has at most 20. A direction is `bi` or `uni`. An address is its octets in hex, `/` and a port. A mark is its two bits
-- as a digit, or `-`. Times are in nanoseconds.
use Rattle.std.specs.Prelude.{◌≡◌, ℕ, ◌+◌, ◌-◌, ◌^◌, ◌<◌, ◌≤◌, List, [], ◌∷◌, ◌++◌, length, take, map, codes, Bool, true, false, ◌==◌, Option, Some, None, IfSome}
use Rattle.std.specs.Fmt.{decimal}
use Rattle.qc_base.specs.Grammar.{IsBytes}
use Rattle.qc_base.specs.declared.ids.IssuedCid.{IssuedCid}
use Rattle.qc_base.specs.declared.side.Side.{Side}
use Rattle.qc_base.specs.declared.side.Side.TheVariants.{Client, Server}
use Rattle.qc_state.specs.declared.input.Input.{Input}
use Rattle.qc_state.specs.declared.input.Input.TheVariants.{Datagram, Timeout, Transmit, Open, Accept, Write, Finish, ResetSend, StopRecv, Read, SendDatagram, RecvDatagram, Close, Ping, Update, Identifiers, MaxStreams, SendWindow, ReceiveWindow}
use Rattle.qc_script.specs.declared.settings.RandomWords.{RandomWords}
use Rattle.qc_script.specs.declared.settings.RandomWords.TheVariants.{Zeros, Seed}
use Rattle.qc_script.specs.declared.settings.Settings.{Settings}
use Rattle.qc_script.specs.declared.script.ScriptError.{ScriptError}
use Rattle.qc_script.specs.declared.script.ScriptError.TheVariants.{BadLine, OutOfMemory}
use Rattle.qc_script.specs.Fields.{hex_field, address_text, dir_text, ecn_text, flag_text, IsAddress}

-- a byte in front of these lines; a byte that ends a line is a line of its own
abbrev pub with_byte : (ends : Bool) → ℕ → List (List ℕ) → List (List ℕ)
with_byte true b lines = (b ∷ []) ∷ lines
with_byte false b [] = (b ∷ []) ∷ []
with_byte false b (line ∷ lines) = (b ∷ line) ∷ lines

-- the lines of a text, each with the LF that ends it; the last may have none
unfoldable pub lines_of : List ℕ → List (List ℕ)
lines_of [] = []
lines_of (b ∷ bytes) = with_byte (b == 10) b (lines_of bytes)

-- the word of a side
abbrev pub side_text : Side → List ℕ
side_text Client = codes "client"
side_text Server = codes "server"

-- the word of a source of random words, or its seed
abbrev pub random_text : RandomWords → List ℕ
random_text Zeros = codes "zero"
random_text (Seed bytes) = hex_field bytes

-- the line of a value, with these words in front, where there is a value
abbrev pub line_if : {T : Type 0} → (words : List ℕ) → (T → List ℕ) → Option T → List (List ℕ)
line_if words spell None = []
line_if words spell (Some value) = (words ++ (spell value ++ 10 ∷ [])) ∷ []

-- the line that every script begins with: which end this one is
unfoldable pub side_line : Side → List ℕ
side_line side = codes "set side " ++ (side_text side ++ 10 ∷ [])

-- the set lines, in their order
unfoldable pub set_lines : Settings → List (List ℕ)
set_lines s =
    side_line s.side
    ∷ (line_if (codes "set random ") random_text s.random
    ++ (line_if (codes "set time ") decimal s.time
    ++ (line_if (codes "set local ") hex_field s.local
    ++ (line_if (codes "set remote ") hex_field s.remote
    ++ (line_if (codes "set first ") hex_field s.first
    ++ (line_if (codes "set orig ") hex_field s.orig
    ++ (line_if (codes "set retry ") hex_field s.retry
    ++ (line_if (codes "set addr ") address_text s.addr
    ++ (line_if (codes "set validated ") flag_text s.validated
    ++ (line_if (codes "set token ") hex_field s.token
    ++ (line_if (codes "set secret ") hex_field s.secret
    ++ (line_if (codes "set limit_initial ") decimal s.limit_initial
    ++ (line_if (codes "set limit_handshake ") decimal s.limit_handshake
    ++ (line_if (codes "set limit_data ") decimal s.limit_data
    ++ (line_if (codes "set limit_failures ") decimal s.limit_failures
    ++ (line_if (codes "set idle ") decimal s.idle
    ++ (line_if (codes "set mtud ") flag_text s.mtud
    ++ (line_if (codes "set gso ") flag_text s.gso
    ++ (line_if (codes "set sent ") decimal s.sent
    ++ line_if (codes "set clock ") decimal s.clock)))))))))))))))))))

-- a seed has 32 bytes
abbrev pub IsSeed : List ℕ → Type 0
IsSeed bytes = IsBytes bytes × (length bytes ≡ 32)

-- a source's seed is one
abbrev pub IsRandom : RandomWords → Type 0
IsRandom Zeros = Unit {0}
IsRandom (Seed bytes) = IsSeed bytes

-- an id has at most 20 bytes
abbrev pub IsId : List ℕ → Type 0
IsId id = IsBytes id × (length id ≤ 20)

-- the destination id of a client's first packets has 8 bytes at least (RFC 9000, section 7.2)
abbrev pub IsRemote : Side → List ℕ → Type 0
IsRemote Client id = IsId id × (8 ≤ length id)
IsRemote Server id = IsId id

-- only a server is told the destination ids of the client's packets, and the id of its Retry
abbrev pub IsFirst : Side → List ℕ → Type 0
IsFirst Client id = ⊥
IsFirst Server id = IsId id

-- only a server is told whether the peer's address is validated
abbrev pub IsValidated : Side → Bool → Type 0
IsValidated Client validated = ⊥
IsValidated Server validated = Unit {0}

-- only a server is told how many tokens it sends, in 32 bits
abbrev pub IsSent : Side → ℕ → Type 0
IsSent Client count = ⊥
IsSent Server count = count < 2 ^ 32

-- only a server is told the time of its clock, in seconds
abbrev pub IsClock : Side → ℕ → Type 0
IsClock Client seconds = ⊥
IsClock Server seconds = seconds < 2 ^ 64

-- only a client is told a token
abbrev pub IsToken : Side → List ℕ → Type 0
IsToken Client bytes = IsBytes bytes
IsToken Server bytes = ⊥

-- the toy's secret has 5 bytes
abbrev pub IsSecret : List ℕ → Type 0
IsSecret bytes = IsBytes bytes × (length bytes ≡ 5)

-- what the set lines say lies within its bounds; the other flags have none
pub record AreSettings (s : Settings) : Type 0 where
  pub random : IfSome s.random IsRandom
  pub time : IfSome s.time (λ n. n < 2 ^ 64)
  pub local : IfSome s.local IsId
  pub remote : IfSome s.remote (IsRemote s.side)
  pub first : IfSome s.first (IsFirst s.side)
  pub orig : IfSome s.orig (IsFirst s.side)
  pub retry : IfSome s.retry (IsFirst s.side)
  pub addr : IfSome s.addr IsAddress
  pub validated : IfSome s.validated (IsValidated s.side)
  pub token : IfSome s.token (IsToken s.side)
  pub secret : IfSome s.secret IsSecret
  pub limit_initial : IfSome s.limit_initial (λ n. n < 2 ^ 64)
  pub limit_handshake : IfSome s.limit_handshake (λ n. n < 2 ^ 64)
  pub limit_data : IfSome s.limit_data (λ n. n < 2 ^ 64)
  pub limit_failures : IfSome s.limit_failures (λ n. n < 2 ^ 64)
  pub idle : IfSome s.idle (λ n. n < 2 ^ 62)
  pub sent : IfSome s.sent (IsSent s.side)
  pub clock : IfSome s.clock (IsClock s.side)

-- an id that an endpoint gives: its sequence number, its bytes and its token for a stateless reset
unfoldable pub issued_text : IssuedCid → List ℕ
issued_text issued = decimal issued.sequence ++ 58 ∷ (hex_field issued.id ++ 58 ∷ hex_field issued.reset_token)

-- ids, with a space in front of each
abbrev pub ids_text : List IssuedCid → List ℕ
ids_text [] = []
ids_text (issued ∷ ids) = 32 ∷ (issued_text issued ++ ids_text ids)

-- a token for a stateless reset has 16 bytes (RFC 9000, section 10.3)
abbrev pub IsResetToken : List ℕ → Type 0
IsResetToken token = IsBytes token × (length token ≡ 16)

-- the number of an id that is given is below 2^64, and it and its token are such bytes
pub record IsIssued (issued : IssuedCid) : Type 0 where
  pub sequence : issued.sequence < 2 ^ 64
  pub id : IsId issued.id
  pub reset_token : IsResetToken issued.reset_token

-- each of these ids is one that a line can give
abbrev pub AreIssued : List IssuedCid → Type 0
AreIssued [] = Unit {0}
AreIssued (issued ∷ ids) = IsIssued issued × AreIssued ids

-- the line of an input: its word, its time, for a datagram where it came from, its mark and its bytes, for a transmit how
-- many datagrams it may send, for a close its code and its reason, the ids that are given, for a call of the streams which one
-- it is of, of which direction, or how many, and what is written or sent
unfoldable pub input_line : Input → List ℕ
input_line (Datagram now remote ecn bytes) = codes "datagram " ++ (decimal now ++ 32 ∷ (address_text remote ++ 32 ∷ (ecn_text ecn ++ 32 ∷ (hex_field bytes ++ 10 ∷ []))))
input_line (Timeout now) = codes "timeout " ++ (decimal now ++ 10 ∷ [])
input_line (Transmit now max_datagrams) = codes "transmit " ++ (decimal now ++ 32 ∷ (decimal max_datagrams ++ 10 ∷ []))
input_line (Open now dir) = codes "open " ++ (decimal now ++ 32 ∷ (dir_text dir ++ 10 ∷ []))
input_line (Accept now dir) = codes "accept " ++ (decimal now ++ 32 ∷ (dir_text dir ++ 10 ∷ []))
input_line (Write now id body) = codes "write " ++ (decimal now ++ 32 ∷ (decimal id ++ 32 ∷ (hex_field body ++ 10 ∷ [])))
input_line (Finish now id) = codes "finish " ++ (decimal now ++ 32 ∷ (decimal id ++ 10 ∷ []))
input_line (ResetSend now id code) = codes "reset " ++ (decimal now ++ 32 ∷ (decimal id ++ 32 ∷ (decimal code ++ 10 ∷ [])))
input_line (StopRecv now id code) = codes "stop " ++ (decimal now ++ 32 ∷ (decimal id ++ 32 ∷ (decimal code ++ 10 ∷ [])))
input_line (Read now id max) = codes "read " ++ (decimal now ++ 32 ∷ (decimal id ++ 32 ∷ (decimal max ++ 10 ∷ [])))
input_line (SendDatagram now body) = codes "send " ++ (decimal now ++ 32 ∷ (hex_field body ++ 10 ∷ []))
input_line (RecvDatagram now) = codes "recv " ++ (decimal now ++ 10 ∷ [])
input_line (Close now code reason) = codes "close " ++ (decimal now ++ 32 ∷ (decimal code ++ 32 ∷ (hex_field reason ++ 10 ∷ [])))
input_line (Ping now) = codes "ping " ++ (decimal now ++ 10 ∷ [])
input_line (Update now) = codes "update " ++ (decimal now ++ 10 ∷ [])
input_line (Identifiers now ids) = codes "ids " ++ (decimal now ++ (ids_text ids ++ 10 ∷ []))
input_line (MaxStreams now dir count) = codes "streams " ++ (decimal now ++ 32 ∷ (dir_text dir ++ 32 ∷ (decimal count ++ 10 ∷ [])))
input_line (SendWindow now size) = codes "sendwindow " ++ (decimal now ++ 32 ∷ (decimal size ++ 10 ∷ []))
input_line (ReceiveWindow now size) = codes "recvwindow " ++ (decimal now ++ 32 ∷ (decimal size ++ 10 ∷ []))

-- the input's numbers are below 2^64; a code, a stream's id, a count of streams and a receive window are below 2^62; a datagram,
-- what is written or sent and a reason are bytes; at least one id is given; and an address has neither a flow label nor a scope
abbrev pub IsWithin : Input → Type 0
IsWithin (Datagram now remote ecn bytes) = (now < 2 ^ 64) × IsAddress remote × IsBytes bytes
IsWithin (Timeout now) = now < 2 ^ 64
IsWithin (Transmit now max_datagrams) = (now < 2 ^ 64) × (max_datagrams < 2 ^ 64)
IsWithin (Open now dir) = now < 2 ^ 64
IsWithin (Accept now dir) = now < 2 ^ 64
IsWithin (Write now id body) = (now < 2 ^ 64) × (id < 2 ^ 62) × IsBytes body
IsWithin (Finish now id) = (now < 2 ^ 64) × (id < 2 ^ 62)
IsWithin (ResetSend now id code) = (now < 2 ^ 64) × (id < 2 ^ 62) × (code < 2 ^ 62)
IsWithin (StopRecv now id code) = (now < 2 ^ 64) × (id < 2 ^ 62) × (code < 2 ^ 62)
IsWithin (Read now id max) = (now < 2 ^ 64) × (id < 2 ^ 62) × (max < 2 ^ 64)
IsWithin (SendDatagram now body) = (now < 2 ^ 64) × IsBytes body
IsWithin (RecvDatagram now) = now < 2 ^ 64
IsWithin (Close now code reason) = (now < 2 ^ 64) × (code < 2 ^ 62) × IsBytes reason
IsWithin (Ping now) = now < 2 ^ 64
IsWithin (Update now) = now < 2 ^ 64
IsWithin (Identifiers now ids) = (now < 2 ^ 64) × (0 < length ids) × AreIssued ids
IsWithin (MaxStreams now dir count) = (now < 2 ^ 64) × (count < 2 ^ 62)
IsWithin (SendWindow now size) = (now < 2 ^ 64) × (size < 2 ^ 64)
IsWithin (ReceiveWindow now size) = (now < 2 ^ 64) × (size < 2 ^ 62)

-- the numbers of each of these inputs have their bits
abbrev pub AllWithin : List Input → Type 0
AllWithin [] = Unit {0}
AllWithin (input ∷ inputs) = IsWithin input × AllWithin inputs

-- this text and LF is the line of this input
pub record IsNext (text : List ℕ) (input : Input) : Type 0 where
  pub spelled : text ++ 10 ∷ [] ≡ input_line input
  pub within : IsWithin input

-- what a reader may find of this text: its input, or nothing where it and LF are the line of none
abbrev pub IsLineRead : List ℕ → Option Input → Type 0
IsLineRead text None = (input : Input) → IsNext text input → ⊥
IsLineRead text (Some input) = IsNext text input

-- an input that is a call of the streams
abbrev pub IsOfStreams : Input → Type 0
IsOfStreams (Open now dir) = Unit {0}
IsOfStreams (Accept now dir) = Unit {0}
IsOfStreams (Write now id body) = Unit {0}
IsOfStreams (Finish now id) = Unit {0}
IsOfStreams (ResetSend now id code) = Unit {0}
IsOfStreams (StopRecv now id code) = Unit {0}
IsOfStreams (Read now id max) = Unit {0}
IsOfStreams (MaxStreams now dir count) = Unit {0}
IsOfStreams (SendWindow now size) = Unit {0}
IsOfStreams (ReceiveWindow now size) = Unit {0}
IsOfStreams _ = ⊥

-- what a reader of such calls may find of this text: its input, or nothing where it and LF are the line of none of them
abbrev pub IsCallRead : List ℕ → Option Input → Type 0
IsCallRead text None = (input : Input) → IsOfStreams input → IsNext text input → ⊥
IsCallRead text (Some input) = IsNext text input

-- these lines are a script of these settings and inputs
pub record IsScript (lines : List (List ℕ)) (settings : Settings) (inputs : List Input) : Type 0 where
  pub spelled : lines ≡ set_lines settings ++ map input_line inputs
  pub set : AreSettings settings
  pub within : AllWithin inputs

-- some script begins with these lines
pub record GoesOn (lines : List (List ℕ)) : Type 0 where
  pub more : List (List ℕ)
  pub settings : Settings
  pub inputs : List Input
  pub script : IsScript (lines ++ more) settings inputs

-- line k, counted from 1, is the first with which no script goes on after the lines before it; where only lines are
-- missing it is the line after the last
pub record IsFirstBad (lines : List (List ℕ)) (k : ℕ) : Type 0 where
  pub counted : 0 < k
  pub inside : k ≤ length lines + 1
  pub before : GoesOn (take (k - 1) lines)
  pub stops : k ≤ length lines → GoesOn (take k lines) → ⊥
  pub missing : k ≡ length lines + 1 → (settings : Settings) → (inputs : List Input) → IsScript lines settings inputs → ⊥

-- why a text is no script
abbrev pub IsRefusal : List (List ℕ) → ScriptError → Type 0
IsRefusal lines (BadLine k) = IsFirstBad lines k
IsRefusal lines OutOfMemory = Unit {0}
