-- What streams owe is where it waits, and a stream without a mark has a place for one
use Rattle.std.specs.Prelude.{◌≡◌, ℕ, ℤ, ◌-◌, ◌^◌, ◌<◌, ◌≤◌, Bool, true, false, not, List, Option, None, Some, is_some}
use Rattle.std.specs.BTreeMap.{is_at}
use Rattle.std.specs.List.{count_by, list_any}
use Rattle.std.specs.Map.{lookup, values_of}
use Rattle.std.specs.Ordering.{nat_cmp}
use Rattle.qc_turns.specs.Ready.{place_cmp}
use Rattle.qc_streams.specs.declared.state.StreamsState.{StreamsState}
use Rattle.qc_streams.specs.declared.stream.Stream.{Stream}
use Rattle.qc_streams.specs.declared.waiting.Waiting.{Waiting}
use Rattle.qc_streams.specs.Lending.{AllRecords}
use Rattle.qc_streams.specs.Records.{record_of}
use Rattle.qc_streams.specs.Queues.{dues_at, turn_at}
use Rattle.qc_streams.specs.Waits.{Step, MarksFiled, after, after_step}

-- whether there is a stream that is marked
abbrev pub is_marked : Option Stream → Bool
is_marked None = false
is_marked (Some st) = st.marked

-- whether a stream is among others
abbrev pub is_among : ℕ → List ℕ → Bool
is_among id ids = list_any (is_at (nat_cmp id)) ids

-- how many streams aren't marked
unfoldable pub unmarked_count : AllRecords → ℕ
unmarked_count all = count_by (λ st. not st.marked) (values_of all)

-- the stream that stands at a place
abbrev pub turn_of : ℤ × ℕ → List ((ℤ × ℕ) × ℕ) → Option ℕ
turn_of place ready = lookup (is_at (place_cmp place)) ready

-- What a stream owes is where it waits: a stream that is to be looked at stands among the marks, and any other is in each set exactly
-- where it owes that frame, and has a turn exactly where its bytes wait, or its end
pub record IsFiled (id : ℕ) (o : Option Stream) (w : Waiting) : Type 0 where
  pub marks : is_marked o ≡ true → is_among id w.marks.ids ≡ true
  pub resets : is_marked o ≡ false → is_among id w.resets ≡ (dues_at o).reset
  pub stops : is_marked o ≡ false → is_among id w.stops ≡ (dues_at o).stop
  pub credits : is_marked o ≡ false → is_among id w.credits ≡ (dues_at o).credit
  pub turn : is_marked o ≡ false → is_some (turn_at o) ≡ (dues_at o).bytes

-- Whatever happened, that holds of every stream
unfoldable pub OwedIsFiled : StreamsState → List Step → Type 0
OwedIsFiled s xs = (id : ℕ) → IsFiled id (record_of id (after xs s).records) (after xs s).waiting

-- A stream is in each set exactly where it owes that frame, and has a turn exactly where its bytes wait, or its end
pub record IsExact (id : ℕ) (o : Option Stream) (w : Waiting) : Type 0 where
  pub resets : is_among id w.resets ≡ (dues_at o).reset
  pub stops : is_among id w.stops ≡ (dues_at o).stop
  pub credits : is_among id w.credits ≡ (dues_at o).credit
  pub turn : is_some (turn_at o) ≡ (dues_at o).bytes

-- Whatever happened, once the marks are taken off, that holds of every stream
unfoldable pub FiledIsExact : StreamsState → List Step → Type 0
FiledIsExact s xs = (id : ℕ) → IsExact id (record_of id (after_step MarksFiled (after xs s)).records) (after_step MarksFiled (after xs s)).waiting

-- Whatever happened, there are as many free places for marks as streams without one
unfoldable pub UnmarkedHavePlaces : StreamsState → List Step → Type 0
UnmarkedHavePlaces s xs = unmarked_count (after xs s).records ≤ (after xs s).waiting.marks.free

-- A stream stands at a place exactly where that is its turn
unfoldable pub IsTurnFor : ℕ → ℤ × ℕ → StreamsState → Type 0
IsTurnFor id place s =
    (turn_of place s.waiting.ready ≡ Some id → turn_at (record_of id s.records) ≡ Some place)
    × (turn_at (record_of id s.records) ≡ Some place → turn_of place s.waiting.ready ≡ Some id)

-- Whatever happened, that holds of every stream and place, as long as fewer than 2^64 - 1 turns were given
unfoldable pub TurnsStand : StreamsState → List Step → Type 0
TurnsStand s xs = (after xs s).waiting.turns < 2 ^ 64 - 1 → (id : ℕ) (place : ℤ × ℕ) → IsTurnFor id place (after xs s)
