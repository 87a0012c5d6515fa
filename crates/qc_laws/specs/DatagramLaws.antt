-- What the laws over runs say of one datagram, whichever call it is handed to.
use Rattle.std.specs.Prelude.{◌≡◌, ℕ, ◌+◌, ◌≤◌, true, List, length, option_to_list}
use Rattle.std.specs.List.{All}
use Rattle.qc_base.specs.declared.side.SpaceId.{SpaceId}
use Rattle.qc_state.specs.declared.deeds.Did.{Did}
use Rattle.qc_state.specs.Headline.{entered_in, lives_in, reasons_in, is_harmless, EachNew, RisesFrom, OnlyCounts}
use Rattle.qc_state.specs.Life.{rank_of}
use Rattle.qc_state.specs.Numbers.{came_in}
use Rattle.qc_laws.specs.PathLaws.{PathHolds}
use Rattle.qc_state.specs.Types.{Types}
use Rattle.qc_state.specs.View.{View}

module _ {t : Types} where
  -- From one view to another, between which a datagram of which so many bytes count did these deeds: in each space, no packet number
  -- counts twice, as far as they are remembered; the life doesn't fall; at most one reason for the end is given; the path holds; and
  -- where no packet opened, only counts changed, and the loss timer where no datagram could be begun before.
  pub record DatagramHolds (came : ℕ) (ds : List Did) (s s' : View t) : Type 0 where
    pub admitted : (id : SpaceId) → EachNew (came_in s.numbers id) (entered_in id ds)
    pub life : RisesFrom (rank_of s.life.state + 1) (lives_in ds)
    pub reason : length (option_to_list s.life.reason) + length (reasons_in ds) ≤ 1
    pub paths : PathHolds came ds s.paths.current s'.paths.current
    pub harmless : All (λ d. is_harmless d ≡ true) ds → OnlyCounts s s'
