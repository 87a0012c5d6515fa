-- Which frame of the streams without bytes goes next: with less room none does where none does with more, and sealing bytes leaves it.
use Rattle.std.proofs.Common.{◌≡◌, ℕ, ℤ, ◌+◌, ◌≤◌, List, refl, ap, ◌∙◌, Bool, true, false, nat_le, if◌then◌else◌, Option, None, Some, arith}
use Rattle.std.specs.Option.{option_map}
use Rattle.std.proofs.lemmas.Bool.Decides.{nat_tests}
use Rattle.qc_base.specs.declared.side.Dir.TheVariants.{Bi, Uni}
use Rattle.qc_base.specs.declared.varint.VarInt.{VarInt}
use Rattle.qc_recv.specs.declared.recv.Recv.{Recv}
use Rattle.qc_send_stream.specs.Buffer.{range_sealed}
use Rattle.qc_send_stream.specs.Sending.{part_sealed, reset_owed}
use Rattle.qc_send_stream.specs.declared.send.SendPart.{SendPart}
use Rattle.qc_streams.proofs.Keyed.{set_alike}
use Rattle.qc_streams.specs.Control.{control_len, credit_of, data_with, gone_stop, if_fits, next_control, of_first, or_else, reset_due, reset_of, stop_of, streams_with}
use Rattle.qc_streams.specs.Counts.{saturated}
use Rattle.qc_streams.specs.Lending.{AllRecords}
use Rattle.qc_streams.specs.Owed.{max_data_owed, max_streams_owed}
use Rattle.qc_streams.specs.Queues.{dues_at, entered, left, left_from, turn_at, with_turn}
use Rattle.qc_streams.specs.Stops.{StopCodes, first_stop}
use Rattle.qc_streams.specs.Records.{changed, on_some, record_of}
use Rattle.qc_streams.specs.Stream.{with_sending}
use Rattle.qc_streams.specs.StreamBytes.{part_end, place_again, sealed_part, turned}
use Rattle.qc_streams.specs.declared.control.Control.{Control}
use Rattle.qc_streams.specs.declared.control.Control.TheVariants.{Reset, Stop}
use Rattle.qc_streams.specs.declared.parts.StreamPart.{StreamPart}
use Rattle.qc_streams.specs.declared.state.StreamsState.{StreamsState}
use Rattle.qc_streams.specs.declared.stream.Stream.{Stream}
use Rattle.qc_streams.specs.declared.waiting.Waiting.{Waiting}
use Rattle.qc_turns.specs.Ids.{first_id}
use Rattle.qc_turns.specs.Ready.{with_place, without_place}

-- ---- less room

-- what isn't there with more room isn't there with less
abbrev Shrinks : (ℕ → Option Control) → Type 0
Shrinks f = (less room : ℕ) → less ≤ room → f room ≡ None → f less ≡ None

one_by : (a b : Bool) (less room : ℕ) (c : Control) → nat_le (control_len c) less ≡ a → nat_le (control_len c) room ≡ b → less ≤ room → (if b then Some c else None) ≡ None → (if a then Some c else None) ≡ None
one_by true true less room c e f few none = none
one_by true false less room c e f few none = absurd (grind (arith, nat_tests))
one_by false b less room c e f few none = refl

one_shrinks : (o : Option Control) → Shrinks (λ room. if_fits room o)
one_shrinks None less room few none = refl
one_shrinks (Some c) less room few none = one_by (nat_le (control_len c) less) (nat_le (control_len c) room) less room c refl refl few none

or_first : (a b : Option Control) → or_else a b ≡ None → a ≡ None
or_first None b none = refl
or_first (Some c) b none = none

or_second : (a b : Option Control) → or_else a b ≡ None → b ≡ None
or_second None b none = none
or_second (Some c) b none = absurd (cc)

or_none : (a b : Option Control) → a ≡ None → b ≡ None → or_else a b ≡ None
or_none None b e f = f
or_none (Some c) b e f = e

both_shrink : (f g : ℕ → Option Control) → Shrinks f → Shrinks g → Shrinks (λ room. or_else (f room) (g room))
both_shrink f g x y less room few none = or_none (f less) (g less) (x less room few (or_first (f room) (g room) none)) (y less room few (or_second (f room) (g room) none))

-- the frame that goes next, by those that may
abbrev one_of : (a b c d e f g : Option Control) → (room : ℕ) → Option Control
one_of a b c d e f g room = or_else (if_fits room a) (or_else (if_fits room b) (or_else (if_fits room c) (or_else (if_fits room d) (or_else (if_fits room e) (or_else (if_fits room f) (if_fits room g))))))

one_of_shrinks : (a b c d e f g : Option Control) → Shrinks (one_of a b c d e f g)
one_of_shrinks a b c d e f g =
    both_shrink (λ r. if_fits r a) (λ r. or_else (if_fits r b) (or_else (if_fits r c) (or_else (if_fits r d) (or_else (if_fits r e) (or_else (if_fits r f) (if_fits r g)))))) (one_shrinks a)
    (both_shrink (λ r. if_fits r b) (λ r. or_else (if_fits r c) (or_else (if_fits r d) (or_else (if_fits r e) (or_else (if_fits r f) (if_fits r g))))) (one_shrinks b)
    (both_shrink (λ r. if_fits r c) (λ r. or_else (if_fits r d) (or_else (if_fits r e) (or_else (if_fits r f) (if_fits r g)))) (one_shrinks c)
    (both_shrink (λ r. if_fits r d) (λ r. or_else (if_fits r e) (or_else (if_fits r f) (if_fits r g))) (one_shrinks d)
    (both_shrink (λ r. if_fits r e) (λ r. or_else (if_fits r f) (if_fits r g)) (one_shrinks e)
    (both_shrink (λ r. if_fits r f) (λ r. if_fits r g) (one_shrinks f) (one_shrinks g))))))

pub next_less : (s : StreamsState) (less room : ℕ) → less ≤ room → next_control room s ≡ None → next_control less s ≡ None
unfolding next_control
next_less s =
    one_of_shrinks (of_first reset_of (first_id s.waiting.resets) s) (of_first stop_of (first_id s.waiting.stops) s) (gone_stop s) (data_with (max_data_owed s)) (of_first credit_of (first_id s.waiting.credits) s)
    (streams_with Bi (max_streams_owed Bi s)) (streams_with Uni (max_streams_owed Uni s))

-- ---- bytes are sealed

-- a change of a stream leaves the frames without bytes that it owes
record KeepsOwed (f : Stream → Stream) : Type 0 where
  reset : (id : ℕ) (st : Stream) → reset_of id (Some (f st)) ≡ reset_of id (Some st)
  receiving : (st : Stream) → (f st).receiving ≡ st.receiving

turn_keeps : (turn : Option (ℤ × ℕ)) → KeepsOwed (with_turn turn)
unfolding with_turn
turn_keeps turn = record { reset = λ id st. refl; receiving = λ st. refl }

sealed_owed : (start stop : ℕ) (last : Bool) (p : Option SendPart) → reset_due (option_map (part_sealed start stop last) p) ≡ reset_due p
unfolding part_sealed reset_owed range_sealed
sealed_owed start stop last None = refl
sealed_owed start stop last (Some p) = refl

sealed_keeps : (start stop : ℕ) (last : Bool) → KeepsOwed (with_sending (part_sealed start stop last))
unfolding with_sending
sealed_keeps start stop last = record {
  reset = λ id st. ap (λ (o : Option (VarInt × ℕ)). option_map (λ (due : VarInt × ℕ). Reset id due.0 due.1) o) (sealed_owed start stop last st.sending);
  receiving = λ st. refl;
}

-- so under each id
alike : {Y : Type 0} (g : Option Stream → Y) (f : Stream → Stream) → ((st : Stream) → g (Some (f st)) ≡ g (Some st)) → (id j : ℕ) (all : AllRecords) → g (record_of j (changed f id all)) ≡ g (record_of j all)
alike g f keeps id j all = by (record_of id all) refl
  where
    by : (o : Option Stream) → record_of id all ≡ o → g (record_of j (on_some f id o all)) ≡ g (record_of j all)
    by None is = refl
    by (Some st) is = set_alike g id j all st (f st) is (keeps st)

stop_alike : (f : Stream → Stream) → KeepsOwed f → (j : ℕ) (st : Stream) → stop_of j (Some (f st)) ≡ stop_of j (Some st)
stop_alike f keeps j st = ap (λ (r : Option Recv). stop_of j (Some (record st { receiving = r }))) (keeps.receiving st)

credit_alike : (f : Stream → Stream) → KeepsOwed f → (j : ℕ) (st : Stream) → credit_of j (Some (f st)) ≡ credit_of j (Some st)
credit_alike f keeps j st = ap (λ (r : Option Recv). credit_of j (Some (record st { receiving = r }))) (keeps.receiving st)

-- so is what the first of a set owes
first_alike : (x : ℕ → Option Stream → Option Control) (f : Stream → Stream) → ((j : ℕ) (st : Stream) → x j (Some (f st)) ≡ x j (Some st)) → (id : ℕ) (s : StreamsState) (w : Waiting) (first : Option ℕ) →
    of_first x first (record s { records = changed f id s.records; waiting = w }) ≡ of_first x first s
first_alike x f keeps id s w None = refl
first_alike x f keeps id s w (Some j) = alike (x j) f (keeps j) id j s.records

-- the same sets
record SameSets (v w : Waiting) : Type 0 where
  resets : w.resets ≡ v.resets
  stops : w.stops ≡ v.stops
  gone : w.gone_stops ≡ v.gone_stops
  credits : w.credits ≡ v.credits

next_alike : (f : Stream → Stream) → KeepsOwed f → (id : ℕ) (s : StreamsState) (w : Waiting) → SameSets s.waiting w → (room : ℕ) →
    next_control room (record s { records = changed f id s.records; waiting = w }) ≡ next_control room s
unfolding next_control max_data_owed max_streams_owed
next_alike f keeps id s w same room =
    let t : StreamsState = record s { records = changed f id s.records; waiting = w } in
    let resets : of_first reset_of (first_id w.resets) t ≡ of_first reset_of (first_id s.waiting.resets) s =
    ap (λ (ids : List ℕ). of_first reset_of (first_id ids) t) same.resets ∙ first_alike reset_of f keeps.reset id s w (first_id s.waiting.resets) in
    let stops : of_first stop_of (first_id w.stops) t ≡ of_first stop_of (first_id s.waiting.stops) s =
    ap (λ (ids : List ℕ). of_first stop_of (first_id ids) t) same.stops ∙ first_alike stop_of f (stop_alike f keeps) id s w (first_id s.waiting.stops) in
    let gone : gone_stop t ≡ gone_stop s = ap (λ (xs : StopCodes). option_map (λ (stop : ℕ × VarInt). Stop stop.0 stop.1) (first_stop xs)) same.gone in
    let credits : of_first credit_of (first_id w.credits) t ≡ of_first credit_of (first_id s.waiting.credits) s =
    ap (λ (ids : List ℕ). of_first credit_of (first_id ids) t) same.credits ∙ first_alike credit_of f (credit_alike f keeps) id s w (first_id s.waiting.credits) in
    λ i. one_of (resets i) (stops i) (gone i) (data_with (max_data_owed s)) (credits i) (streams_with Bi (max_streams_owed Bi s)) (streams_with Uni (max_streams_owed Uni s)) room

-- a stream gives its place up, or takes one
left_from_rests : (turn : Option (ℤ × ℕ)) (id : ℕ) (s : StreamsState) (room : ℕ) → next_control room (left_from turn id s) ≡ next_control room s
left_from_rests None id s room = refl
left_from_rests (Some place) id s room = next_alike (with_turn None) (turn_keeps None) id s (record s.waiting { ready = without_place place s.waiting.ready }) (record { resets = refl; stops = refl; gone = refl; credits = refl }) room

left_rests : (id : ℕ) (s : StreamsState) (room : ℕ) → next_control room (left id s) ≡ next_control room s
unfolding left
left_rests id s room = left_from_rests (turn_at (record_of id s.records)) id s room

entered_rests : (place : ℤ × ℕ) (id : ℕ) (s : StreamsState) (room : ℕ) → next_control room (entered place id s) ≡ next_control room s
unfolding entered
entered_rests place id s room = next_alike (with_turn (Some place)) (turn_keeps (Some place)) id s (record s.waiting { ready = with_place place id s.waiting.ready; turns = saturated (s.waiting.turns + 1) }) (record { resets = refl; stops = refl; gone = refl; credits = refl }) room

turned_by : (more : Bool) (id : ℕ) (s : StreamsState) (room : ℕ) → next_control room (if more then entered (place_again id (left id s)) id (left id s) else left id s) ≡ next_control room s
turned_by true id s room = entered_rests (place_again id (left id s)) id (left id s) room ∙ left_rests id s room
turned_by false id s room = left_rests id s room

turned_rests : (id : ℕ) (s : StreamsState) (room : ℕ) → next_control room (turned id s) ≡ next_control room s
unfolding turned
turned_rests id s room = turned_by (dues_at (record_of id s.records)).bytes id s room

-- bytes of a stream are sealed
pub sealed_rests : (d : StreamPart) (s : StreamsState) (room : ℕ) → next_control room (sealed_part d s) ≡ next_control room s
unfolding sealed_part
sealed_rests d s room =
    let f : Stream → Stream = with_sending (part_sealed d.part.offset (part_end d.part) d.part.last) in
    turned_rests d.id (record s { records = changed f d.id s.records }) room
    ∙ next_alike f (sealed_keeps d.part.offset (part_end d.part) d.part.last) d.id s s.waiting (record { resets = refl; stops = refl; gone = refl; credits = refl }) room
