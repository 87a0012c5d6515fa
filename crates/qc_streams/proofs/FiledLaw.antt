-- What streams owe is where it waits, whatever happens
use Rattle.std.proofs.Common.{◌≡◌, ◌∙◌, ℕ, Bool, true, false, List, [], ap, sym, refl}
use Rattle.std.proofs.lemmas.Bool.{false≢true}
use Rattle.qc_base.specs.declared.side.Side.{Side}
use Rattle.qc_streams.specs.declared.state.StreamsState.{StreamsState}
use Rattle.qc_streams.specs.Filed.{FiledIsExact, IsExact, IsTurnFor, OwedIsFiled, TurnsStand, UnmarkedHavePlaces, is_among, is_marked}
use Rattle.qc_streams.specs.Records.{record_of}
use Rattle.qc_streams.specs.Streams.{new_streams}
use Rattle.qc_streams.specs.Waits.{ArePossible, Step, MarksFiled, after, after_step}
use Rattle.qc_streams.proofs.FiledRoom.{HasRoom, no_marks, room}
use Rattle.qc_streams.proofs.FiledSets.{SetsFit, filed_sets}
use Rattle.qc_streams.proofs.FiledTurns.{filed_turns}
use Rattle.qc_streams.proofs.KeepLaw.{always, always_filed}
use Rattle.qc_streams.proofs.Keeps.{On}

pub owed_is_filed : (side : Side) (uni bi window stream_window send_window : ℕ) (fair : Bool) (xs : List Step) → ArePossible xs
    → OwedIsFiled (new_streams side uni bi window stream_window send_window fair) xs
unfolding OwedIsFiled
owed_is_filed side uni bi window stream_window send_window fair xs can id =
    let r = always room side uni bi window stream_window send_window fair xs can in
    let f = always filed_sets side uni bi window stream_window send_window fair xs can in
    record {
      marks = r.marks id;
      resets = λ u. (f.exact id u).resets;
      stops = λ u. (f.exact id u).stops;
      credits = λ u. (f.exact id u).credits;
      turn = λ u. (f.exact id u).turn;
    }

pub unmarked_have_places : (side : Side) (uni bi window stream_window send_window : ℕ) (fair : Bool) (xs : List Step) → ArePossible xs
    → UnmarkedHavePlaces (new_streams side uni bi window stream_window send_window fair) xs
unfolding UnmarkedHavePlaces
unmarked_have_places side uni bi window stream_window send_window fair xs can =
    (always room side uni bi window stream_window send_window fair xs can).room

pub turns_stand : (side : Side) (uni bi window stream_window send_window : ℕ) (fair : Bool) (xs : List Step) → ArePossible xs
    → TurnsStand (new_streams side uni bi window stream_window send_window fair) xs
unfolding TurnsStand IsTurnFor
turns_stand side uni bi window stream_window send_window fair xs can fewer id place =
    let t = always filed_turns side uni bi window stream_window send_window fair xs can fewer in
    (t.stands id place, t.takes id place)

-- ---- once the marks are taken off

none-marked : (b : Bool) → (b ≡ true → false ≡ true) → b ≡ false
none-marked true marks = absurd (false≢true (marks refl))
none-marked false marks = refl

unmarked : (id : ℕ) (s : StreamsState) → s.waiting.marks.ids ≡ [] → On HasRoom s → is_marked (record_of id s.records) ≡ false
unmarked id s none r = none-marked (is_marked (record_of id s.records)) (λ is. ap (λ (ids : List ℕ). is_among id ids) (sym none) ∙ r.marks id is)

exact : (id : ℕ) (s : StreamsState) → s.waiting.marks.ids ≡ [] → On HasRoom s → On SetsFit s → IsExact id (record_of id s.records) s.waiting
exact id s none r f = f.exact id (unmarked id s none r)

pub filed_is_exact : (side : Side) (uni bi window stream_window send_window : ℕ) (fair : Bool) (xs : List Step) → ArePossible xs
    → FiledIsExact (new_streams side uni bi window stream_window send_window fair) xs
unfolding FiledIsExact after_step
filed_is_exact side uni bi window stream_window send_window fair xs can id =
    let s = after xs (new_streams side uni bi window stream_window send_window fair) in
    exact id (after_step MarksFiled s) (no_marks s.waiting.marks.ids s refl)
    (always_filed room side uni bi window stream_window send_window fair xs can)
    (always_filed filed_sets side uni bi window stream_window send_window fair xs can)
