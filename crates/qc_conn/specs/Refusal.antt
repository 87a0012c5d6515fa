-- Inputs that are refused: those whose time falls, and those that ask for a call that can't be made of the connection as it is.
use Rattle.std.specs.Prelude.{◌≡◌, ℕ, ◌+◌, Bool, false, nat_lt, if◌then◌else◌, ◌==◌, List, [], ◌∷◌, length, take, drop, Option, Some, None}
use Rattle.std.specs.Option.{option_map}
use Rattle.qc_cids.specs.Cids.{give_refusal}
use Rattle.qc_cids.specs.declared.giving.GiveRefusal.{GiveRefusal}
use Rattle.qc_cids.specs.declared.giving.GiveRefusal.TheVariants as give
use Rattle.qc_conn.specs.declared.driving.BadWhy.{BadWhy}
use Rattle.qc_conn.specs.declared.driving.BadWhy.TheVariants.{ZeroDatagrams, Direction, NotAsked, Sequence, IdLength}
use Rattle.qc_conn.specs.declared.driving.DriveKind.{DriveKind}
use Rattle.qc_conn.specs.declared.driving.DriveKind.TheVariants.{OutOfMemory, TimeBack, BadCall, Failed}
use Rattle.qc_state.specs.declared.input.Input.{Input}
use Rattle.qc_state.specs.declared.input.Input.TheVariants.{Datagram, Timeout, Transmit, Open, Accept, Write, Finish, ResetSend, StopRecv, Read, SendDatagram, RecvDatagram, Close, Ping, Update, MaxStreams, SendWindow, ReceiveWindow, Identifiers}
use Rattle.qc_state.specs.declared.trace.Step.{Step}
use Rattle.qc_state.specs.Run.{time_of, IsStep}
use Rattle.qc_state.specs.Streams.{sends_on, receives_on}
use Rattle.qc_state.specs.Types.{Types, Meaning}
use Rattle.qc_state.specs.View.{View}

-- what is wrong with a call of the stream with this id, whose direction allows it or not
abbrev pub bad_direction : (allowed : Bool) → (id : ℕ) → Option BadWhy
bad_direction allowed id = if allowed then None else Some (Direction id)

-- what is wrong with ids that are given
abbrev pub bad_ids : Option GiveRefusal → Option BadWhy
bad_ids None = None
bad_ids (Some (give.NotAsked asked given)) = Some (NotAsked asked given)
bad_ids (Some (give.Sequence wanted given)) = Some (Sequence wanted given)
bad_ids (Some (give.IdLength wanted given)) = Some (IdLength wanted given)

module _ {t : Types} where
  -- what is wrong with the call that an input asks for of a connection: a transmit has to be allowed at least one datagram, and a call
  -- of a stream has to be one that the stream's direction allows this end (RFC 9000, section 2.1); ids that are given have to be no more than
  -- were asked for, with the next numbers, and of the length of this end's
  abbrev pub bad_call : View t → Input → Option BadWhy
  bad_call s (Transmit time max) = if max == 0 then Some ZeroDatagrams else None
  bad_call s (Datagram time remote ecn bytes) = None
  bad_call s (Timeout time) = None
  bad_call s (Open time dir) = None
  bad_call s (Accept time dir) = None
  bad_call s (Write time id body) = bad_direction (sends_on s.setup.fixed.side id) id
  bad_call s (Finish time id) = bad_direction (sends_on s.setup.fixed.side id) id
  bad_call s (ResetSend time id code) = bad_direction (sends_on s.setup.fixed.side id) id
  bad_call s (StopRecv time id code) = bad_direction (receives_on s.setup.fixed.side id) id
  bad_call s (Read time id max) = bad_direction (receives_on s.setup.fixed.side id) id
  bad_call s (SendDatagram time body) = None
  bad_call s (RecvDatagram time) = None
  bad_call s (Close time code reason) = None
  bad_call s (Ping time) = None
  bad_call s (Update time) = None
  bad_call s (MaxStreams time dir count) = None
  bad_call s (SendWindow time size) = None
  bad_call s (ReceiveWindow time size) = None
  bad_call s (Identifiers time ids) = bad_ids (give_refusal ids s.lower.ids)

  -- why a connection refuses the input with the number k, if it does: its time lies before the greatest so far, or it asks for a call
  -- that can't be made
  abbrev pub refusal_of : (k : ℕ) → View t → Input → Option DriveKind
  refusal_of k s i = if nat_lt (time_of i) s.timers.greatest then Some (TimeBack k (time_of i) s.timers.greatest) else option_map (BadCall k) (bad_call s i)

  -- a run over inputs none of which is refused, each by the connection as those before left it; the first has the number k
  unfoldable pub TakesAll : Meaning t → (k : ℕ) → View t → List Input → List Step → View t → Type 0
  TakesAll m k s [] [] s' = s' ≡ s
  TakesAll m k s (i ∷ is) (x ∷ xs) s' = (mid : View t) × (refusal_of k s i ≡ None) × IsStep m k s i x mid × TakesAll m (k + 1) mid is xs s'
  TakesAll m k s _ _ s' = ⊥

-- an error of `drive` that names an input
abbrev pub NamesInput : DriveKind → Type 0
NamesInput OutOfMemory = ⊥
NamesInput (TimeBack at given greatest) = Unit {0}
NamesInput (BadCall at why) = Unit {0}
NamesInput Failed = ⊥

-- the place of the input that it names
abbrev pub place_of : DriveKind → Option ℕ
place_of OutOfMemory = None
place_of (TimeBack at given greatest) = Some at
place_of (BadCall at why) = Some at
place_of Failed = None

module _ {t : Types} where
  -- the inputs before this one were done, none of which was refused, and nothing else; it is the first that is
  pub record RefusedAt (m : Meaning t) (s : View t) (is : List Input) (kind : DriveKind) (xs : List Step) (s' : View t) (failed : Bool) : Type 0 where
    pub input : Input
    pub behind : List Input
    pub here : drop (length xs) is ≡ input ∷ behind
    pub first : refusal_of (length xs) s' input ≡ Some kind
    pub place : place_of kind ≡ Some (length xs)
    pub before : TakesAll m 0 s (take (length xs) is) xs s'
    pub alive : failed ≡ false
