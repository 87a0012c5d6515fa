-- Bytes of streams: which are sent next, and what becomes of them (RFC 9000, sections 2.2, 2.3, 3.1 and 19.8)
use Rattle.std.specs.Prelude.{◌≡◌, ℕ, ℤ, neg_ℤ, negsuc, ◌+◌, ◌-◌, Bool, true, false, not, ◌&&◌, nat_lt, if◌then◌else◌, length, Option, None, Some, is_some}
use Rattle.std.specs.Option.{option_map}
use Rattle.qc_send_stream.specs.declared.send.Part.{Part}
use Rattle.qc_send_stream.specs.declared.send.SendPart.{SendPart}
use Rattle.qc_send_stream.specs.Sending.{IsOffer, is_done, part_sealed, part_acked, part_lost}
use Rattle.qc_turns.specs.Ready.{next_turn, with_place, without_place}
use Rattle.qc_streams.specs.declared.parts.Drawn.{Drawn}
use Rattle.qc_streams.specs.declared.waiting.Waiting.{Waiting}
use Rattle.qc_streams.specs.declared.parts.StreamPart.{StreamPart}
use Rattle.qc_streams.specs.declared.stream.Stream.{Stream}
use Rattle.qc_streams.specs.declared.events.StreamEvent.TheVariants.{Finished}
use Rattle.qc_streams.specs.declared.state.StreamsState.{StreamsState}
use Rattle.qc_streams.specs.Counts.{saturated}
use Rattle.qc_streams.specs.Records.{record_of, changed}
use Rattle.qc_streams.specs.Stream.{with_sending}
use Rattle.qc_streams.specs.Streams.{settled, told_if}
use Rattle.qc_streams.specs.Queues.{dues_at, dues_of, entered, left, next_place, queued, touched, with_turn}
use Rattle.qc_streams.specs.Writable.{writables_told}

-- What a stream may give next, with at most so many bytes
unfoldable pub IsOfferOf : ℕ → Option SendPart → Option Part → Type 0
IsOfferOf most None part = part ≡ None
IsOfferOf most (Some p) part = IsOffer most p part

-- the same of the stream with an id
unfoldable pub IsOfferAt : ℕ → Option Stream → Option Part → Type 0
IsOfferAt most None part = part ≡ None
IsOfferAt most (Some st) part = IsOfferOf most st.sending part

-- the stream whose turn it is, where there is room for a frame's head, of at most 19 bytes, and one byte more
abbrev pub turn_in : ℕ → StreamsState → Option ℕ
turn_in room s = if nat_lt 19 room then next_turn s.waiting.ready else None

-- a part with its stream
abbrev pub part_on : ℕ → Part → StreamPart
part_on id part = record { id = id; part = part }

-- What may be drawn of the stream whose turn it is
unfoldable pub IsTurn : ℕ → Option ℕ → StreamsState → Option StreamPart → Type 0
IsTurn most None s drawn = drawn ≡ None
IsTurn most (Some id) s drawn = (part : Option Part) × IsOfferAt most (record_of id s.records) part × (drawn ≡ option_map (part_on id) part)

-- What may be drawn, where there is room for so many bytes
unfoldable pub IsDrawn : ℕ → StreamsState → Option StreamPart → Type 0
IsDrawn room s drawn = IsTurn (room - 19) (turn_in room s) s drawn

-- the rank before that of every priority: -2^32
abbrev pub first_rank : ℤ
first_rank = negsuc 4294967295

-- where a stream goes on that has more: with fairness behind the others of its priority, without before all others
unfoldable pub place_again : ℕ → StreamsState → ℤ × ℕ
place_again id s = if s.fair then next_place id s else (first_rank, s.waiting.turns)

-- a stream had its turn: it takes another one where it has more
unfoldable pub turned : ℕ → StreamsState → StreamsState
turned id s =
    if (dues_at (record_of id s.records)).bytes then entered (place_again id (left id s)) id (left id s) else left id s

-- where a part ends
unfoldable pub part_end : Part → ℕ
part_end part = saturated (part.offset + length part.bytes)

-- a part is sealed
unfoldable pub sealed_part : StreamPart → StreamsState → StreamsState
sealed_part d s = turned d.id (record s { records = changed (with_sending (part_sealed d.part.offset (part_end d.part) d.part.last)) d.id s.records })

-- a part is drawn
abbrev pub part_drawn : Option StreamPart → StreamsState → StreamsState
part_drawn None s = s
part_drawn (Some d) s = sealed_part d s

-- bytes of a stream are lost: those that aren't acknowledged wait again, and so does the end, from this moment on
unfoldable pub bytes_lost : (id start stop : ℕ) → (last : Bool) → StreamsState → StreamsState
bytes_lost id start stop last s = touched id (queued id (record s { records = changed (with_sending (part_lost start stop last)) id s.records }))

-- whether all bytes and the end are acknowledged
abbrev pub is_finished : Option SendPart → Bool
is_finished None = false
is_finished (Some p) = is_done p && not (is_some p.reset)

-- the same of a stream
abbrev pub finished_at : Option Stream → Bool
finished_at None = false
finished_at (Some st) = is_finished st.sending

-- bytes of a stream are acknowledged
unfoldable pub bytes_taken : (id start stop : ℕ) → (last : Bool) → StreamsState → StreamsState
bytes_taken id start stop last s = record s { records = changed (with_sending (part_acked start stop last)) id s.records }

-- whether with them all bytes and the end are
unfoldable pub finishes : (id start stop : ℕ) → (last : Bool) → StreamsState → Bool
finishes id start stop last s =
    not (finished_at (record_of id s.records)) && finished_at (record_of id (bytes_taken id start stop last s).records)

-- the same; a stream that has ended leaves
unfoldable pub bytes_gone : (id start stop : ℕ) → (last : Bool) → StreamsState → StreamsState
bytes_gone id start stop last s = settled id (bytes_taken id start stop last s)

-- the same, with the events that the stream is finished, and that streams can be written on again, in ascending order of ids
unfoldable pub bytes_acked : (id start stop : ℕ) → (last : Bool) → StreamsState → StreamsState
bytes_acked id start stop last s =
    writables_told None (told_if (finishes id start stop last s) (Finished id) (writables_told (Some id) (bytes_gone id start stop last s)))

-- where a stream of a priority goes on that has more, where so many turns were given: the same as `place_again`
abbrev pub place_after : Bool → ℕ → ℤ → ℤ × ℕ
place_after fair turns priority = if fair then (neg_ℤ priority, turns) else (first_rank, turns)

-- a stream of which a part is sealed
unfoldable pub seal_one : Part → Stream → Stream
seal_one part st = with_sending (part_sealed part.offset (part_end part) part.last) st

-- a stream that had a turn takes the next place where it has more, and gives up the one that it has where it hasn't
abbrev pub drawn_turn : Bool → Option (ℤ × ℕ) → ℤ × ℕ → Stream → Stream
drawn_turn true turn next st = with_turn (Some next) st
drawn_turn false None next st = st
drawn_turn false (Some place) next st = with_turn None st

-- the same of a stream of which a part is sealed
unfoldable pub draw_one : Bool → ℕ → Part → Stream → Stream
draw_one fair turns part st = drawn_turn (dues_of (seal_one part st)).bytes st.turn (place_after fair turns st.priority) (seal_one part st)

-- What was drawn of a stream, beside the part
pub record IsTurnOf (fair : Bool) (turns : ℕ) (st : Stream) (d : Drawn) : Type 0 where
  -- whether it has more
  pub owes : d.owes ≡ (dues_of (seal_one d.part st)).bytes
  -- the place that it had
  pub turn : d.turn ≡ st.turn
  -- and that where it goes on
  pub next : d.next ≡ place_after fair turns st.priority

-- the same of a stream, where there is one
abbrev pub IsTurnAt : Bool → ℕ → Option Stream → Drawn → Type 0
IsTurnAt fair turns None d = ⊥
IsTurnAt fair turns (Some st) d = IsTurnOf fair turns st d

-- a stream that has a place gives it up
abbrev pub turn_left : Option (ℤ × ℕ) → Waiting → Waiting
turn_left None w = w
turn_left (Some place) w = record w { ready = without_place place w.ready }

-- a stream takes a place, where it has more
abbrev pub turn_taken : Bool → ℤ × ℕ → ℕ → Waiting → Waiting
turn_taken false next id w = w
turn_taken true next id w = record w { ready = with_place next id w.ready; turns = saturated (w.turns + 1) }
