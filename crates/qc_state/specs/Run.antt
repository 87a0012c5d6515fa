-- The steps of a driven connection, and its runs: lists of steps, each beginning where the one before ended.
use Rattle.std.specs.Prelude.{◌≡◌, ℕ, ◌+◌, ◌≤◌, true, List, [], ◌∷◌, ◌++◌, length, take, if◌then◌else◌, Option, Some, None}
use Rattle.qc_state.specs.declared.life.Close.TheVariants.{Application}
use Rattle.qc_state.specs.declared.input.Input.{Input}
use Rattle.qc_state.specs.declared.input.Input.TheVariants.{Datagram, Timeout, Transmit, Open, Accept, Write, Finish, ResetSend, StopRecv, Read, SendDatagram, RecvDatagram, MaxStreams, SendWindow, ReceiveWindow, Identifiers, Close, Ping, Update}
use Rattle.qc_state.specs.declared.input.Word.{Word}
use Rattle.qc_state.specs.declared.input.Word.TheVariants as word
use Rattle.qc_state.specs.declared.trace.Answer.{Answer}
use Rattle.qc_state.specs.declared.trace.Answer.TheVariants.{Done, Dropped, Flag, Nothing, Out}
use Rattle.qc_state.specs.declared.trace.Step.{Step}
use Rattle.qc_state.specs.declared.transmit.Transmit as transmit
use Rattle.qc_state.specs.Life.{is_open}
use Rattle.qc_state.specs.Moves.{Clock, Ask, Call, Issue, Post, Shut, ReportReady, ReportConnected, ReportAllHeard, ReportStreams, ReportLost, ReportNotices, ReportDrained, move_to, state_move}
use Rattle.qc_state.specs.Polls.{waiting_events, endpoint_events}
use Rattle.qc_state.specs.Receiving.{is_taken, datagram_after}
use Rattle.qc_state.specs.Sending.{Choice, MayTransmit, transmit_after, transmit_bytes, transmit_of}
use Rattle.qc_cids.specs.Cids.{give_refusal}
use Rattle.qc_datagrams.specs.Datagrams.{send_refusal}
use Rattle.qc_datagrams.specs.Steps as datagrams
use Rattle.qc_state.specs.Datagrams.{limit_on, sent_answer, taken_answer}
use Rattle.qc_state.specs.Streams.{MayRead, call_answer, calls_of}
use Rattle.qc_state.specs.Timeouts.{timeout_after}
use Rattle.qc_state.specs.Timers.{next_timeout}
use Rattle.qc_state.specs.Types.{Types, Meaning}
use Rattle.qc_state.specs.Updating.{may_update_now, updated_after}
use Rattle.qc_state.specs.View.{View, At, at}
use Rattle.qc_streams.specs.Waits as streams

-- the time of an input
abbrev pub time_of : Input → ℕ
time_of (Datagram time remote ecn bytes) = time
time_of (Timeout time) = time
time_of (Transmit time max) = time
time_of (Close time code reason) = time
time_of (Ping time) = time
time_of (Update time) = time
time_of (Open time dir) = time
time_of (Accept time dir) = time
time_of (Write time id body) = time
time_of (Finish time id) = time
time_of (ResetSend time id code) = time
time_of (StopRecv time id code) = time
time_of (Read time id max) = time
time_of (SendDatagram time body) = time
time_of (RecvDatagram time) = time
time_of (MaxStreams time dir count) = time
time_of (SendWindow time size) = time
time_of (ReceiveWindow time size) = time
time_of (Identifiers time ids) = time

-- its kind
abbrev pub word_of : Input → Word
word_of (Datagram time remote ecn bytes) = word.Datagram
word_of (Timeout time) = word.Timeout
word_of (Transmit time max) = word.Transmit
word_of (Close time code reason) = word.Close
word_of (Ping time) = word.Ping
word_of (Update time) = word.Update
word_of (Open time dir) = word.Open
word_of (Accept time dir) = word.Accept
word_of (Write time id body) = word.Write
word_of (Finish time id) = word.Finish
word_of (ResetSend time id code) = word.ResetSend
word_of (StopRecv time id code) = word.StopRecv
word_of (Read time id max) = word.Read
word_of (SendDatagram time body) = word.SendDatagram
word_of (RecvDatagram time) = word.RecvDatagram
word_of (MaxStreams time dir count) = word.MaxStreams
word_of (SendWindow time size) = word.SendWindow
word_of (ReceiveWindow time size) = word.ReceiveWindow
word_of (Identifiers time ids) = word.Identifiers

-- what a transmit answers
abbrev pub out_of : Option transmit.Transmit → List ℕ → Answer
out_of None bytes = Nothing
out_of (Some sent) bytes = Out sent.destination sent.segment_size sent.ecn bytes

module _ {t : Types} where
  -- how long a datagram of the application may be on the path in use, where the peer takes any
  unfoldable pub datagram_limit : View t → Option ℕ
  datagram_limit s = limit_on s.paths.current s.setup.peer

  -- the call begins: the connection is told the time
  unfoldable pub began : View t → ℕ → At t
  began s time = at (state_move (Clock time) s) []

  -- the application closes, where the connection is open; a later close changes nothing (RFC 9000, section 10.2)
  unfoldable pub close_after : ℕ → ℕ → List ℕ → At t → At t
  close_after time code reason a = if is_open a.state.life.state then move_to (Shut time (Application (record { error_code = code; reason = reason }))) a else a

  -- the application makes these calls of the streams
  abbrev pub called_all : List streams.Step → At t → At t
  called_all [] a = a
  called_all (x ∷ xs) a = called_all xs (move_to (Call x) a)

  -- what an input leaves before anything is reported: a function of the view and of what is free, which the trace names: of a transmit
  -- its packets are in the deeds, and what a read gives is its answer
  unfoldable pub input_after : Meaning t → Input → Choice → At t → At t
  input_after m (Datagram time remote ecn bytes) choice a = datagram_after m (record { time = time; remote = remote; mark = ecn }) bytes a
  input_after m (Timeout time) choice a = timeout_after m time a
  input_after m (Transmit time max) choice a = transmit_after m time max choice a
  input_after m (Close time code reason) choice a = close_after time code reason a
  input_after m (Ping time) choice a = move_to (Ask a.state.keys.highest) a
  input_after m (Update time) choice a = updated_after m a
  input_after m (SendDatagram time body) choice a = move_to (Post (datagrams.Sent (datagram_limit a.state) true body)) a
  input_after m (RecvDatagram time) choice a = move_to (Post datagrams.Taken) a
  input_after m (Identifiers time ids) choice a = move_to (Issue time ids) a
  input_after m i choice a = called_all (calls_of i choice.read a.state.lower.streams) a

  unfoldable pub called : Meaning t → View t → Input → Choice → At t
  called m s i choice = input_after m i choice (began s (time_of i))

  -- whatever waited to be reported was reported
  unfoldable pub reported : View t → View t
  reported s = state_move ReportDrained (state_move ReportNotices (state_move ReportLost (state_move ReportStreams (state_move ReportAllHeard (state_move ReportConnected (state_move ReportReady s))))))

  -- the view after a step
  unfoldable pub step_after : Meaning t → View t → Input → Choice → View t
  step_after m s i choice = reported (called m s i choice).state

  -- what an input may do, once its call has begun
  unfoldable pub IsAllowed : Meaning t → Input → Choice → At t → Type 0
  IsAllowed m (Transmit time max) choice a = MayTransmit m time max choice a
  IsAllowed m (Identifiers time ids) choice a = give_refusal ids a.state.lower.ids ≡ None
  IsAllowed m i choice a = MayRead i choice.read a.state.lower.streams

  -- what an input answers
  unfoldable pub answer_of : Meaning t → Input → Choice → At t → Answer
  answer_of m (Datagram time remote ecn bytes) choice a = if is_taken m a.state remote bytes then Done else Dropped
  answer_of m (Transmit time max) choice a = out_of (transmit_of m time max choice a) (transmit_bytes m time max choice a)
  answer_of m (SendDatagram time body) choice a = sent_answer (send_refusal (datagram_limit a.state) true body a.state.lower.datagrams)
  answer_of m (RecvDatagram time) choice a = taken_answer a.state.lower.datagrams.incoming
  answer_of m (Update time) choice a = Flag (may_update_now a.state)
  answer_of m i choice a = call_answer i choice.read a.state.lower.streams

  -- one step: how each group of the view changes, and what is told. A transmit and a read have their choice, one for all that is said
  -- here; no other input reads it.
  pub record IsStep (m : Meaning t) (k : ℕ) (s : View t) (i : Input) (x : Step) (s' : View t) : Type 0 where
    pub choice : Choice
    pub numbers : s'.numbers ≡ (step_after m s i choice).numbers
    pub keys : s'.keys ≡ (step_after m s i choice).keys
    pub life : s'.life ≡ (step_after m s i choice).life
    pub paths : s'.paths ≡ (step_after m s i choice).paths
    pub timers : s'.timers ≡ (step_after m s i choice).timers
    pub waiting : s'.waiting ≡ (step_after m s i choice).waiting
    pub setup : s'.setup ≡ (step_after m s i choice).setup
    pub lower : s'.lower ≡ (step_after m s i choice).lower
    pub issuer : s'.issuer ≡ (step_after m s i choice).issuer
    pub forward : s.timers.greatest ≤ time_of i
    pub deeds : x.did ≡ (called m s i choice).did
    pub allowed : IsAllowed m i choice (began s (time_of i))
    pub answer : x.answer ≡ answer_of m i choice (began s (time_of i))
    pub events : x.events ≡ waiting_events (called m s i choice).state
    pub endpoint : x.endpoint ≡ endpoint_events (called m s i choice).state
    pub timeout : x.timeout ≡ next_timeout s'.timers
    pub place : x.at ≡ k
    pub word : x.word ≡ word_of i
    pub time : x.now ≡ time_of i

  -- a run: one step an input, each from where the one before ended; the first step has the number k
  unfoldable pub Run : Meaning t → ℕ → View t → List Input → List Step → View t → Type 0
  Run m k s [] [] s' = s' ≡ s
  Run m k s (i ∷ is) (x ∷ xs) s' = (mid : View t) × IsStep m k s i x mid × Run m (k + 1) mid is xs s'
  Run m k s _ _ s' = ⊥

-- the same steps, with so many before them
abbrev pub placed_behind : ℕ → List Step → List Step
placed_behind n [] = []
placed_behind n (x ∷ xs) = record x { at = n + x.at } ∷ placed_behind n xs

module _ {t : Types} where
  -- what a call makes of an input, before anything is reported, and its answer
  pub record Calls (m : Meaning t) (s : View t) (i : Input) (b : At t) (answer : Answer) : Type 0 where
    pub choice : Choice
    pub leads : b ≡ called m s i choice
    pub allowed : IsAllowed m i choice (began s (time_of i))
    pub answers : answer ≡ answer_of m i choice (began s (time_of i))

  -- a run over the first inputs, as many as there are steps
  pub record Ran (m : Meaning t) (k : ℕ) (s : View t) (is : List Input) (xs : List Step) : Type 0 where
    pub last : View t
    pub run : Run m k s (take (length xs) is) xs last

  -- one step more than these
  pub record Adds (m : Meaning t) (k : ℕ) (s : View t) (i : Input) (s' : View t) (xs ys : List Step) : Type 0 where
    pub step : Step
    pub is_step : IsStep m k s i step s'
    pub added : ys ≡ xs ++ step ∷ []
