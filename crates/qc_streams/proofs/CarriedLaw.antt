-- What is sent was written, and what is read came, whatever happens
use Rattle.std.proofs.Common.{ℕ, Bool, List}
use Rattle.qc_base.specs.declared.side.Side.{Side}
use Rattle.qc_streams.specs.Carried.{EndIsToldOnce, GivesEachOnce, ReadsWhatCame, SendsWhatWasWritten}
use Rattle.qc_streams.specs.Streams.{new_streams}
use Rattle.qc_streams.specs.Waits.{Step}
use Rattle.qc_streams.proofs.CarriedEnd as end
use Rattle.qc_streams.proofs.CarriedGiven.{gives_once}
use Rattle.qc_streams.proofs.CarriedRead.{reads_came}
use Rattle.qc_streams.proofs.CarriedWritten.{sends_written}
use Rattle.qc_streams.proofs.StaysOpened.{stays_opened}
use Rattle.qc_streams.proofs.SteppedLaw.{steps}

pub sends_what_was_written : (side : Side) (uni bi window stream_window send_window : ℕ) (fair : Bool) (xs : List Step)
    → SendsWhatWasWritten (new_streams side uni bi window stream_window send_window fair) xs
sends_what_was_written side uni bi window stream_window send_window fair xs =
    sends_written steps stays_opened side uni bi window stream_window send_window fair xs

pub reads_what_came : (side : Side) (uni bi window stream_window send_window : ℕ) (fair : Bool) (xs : List Step)
    → ReadsWhatCame (new_streams side uni bi window stream_window send_window fair) xs
reads_what_came side uni bi window stream_window send_window fair xs = reads_came steps stays_opened side uni bi window stream_window send_window fair xs

pub end_is_told_once : (side : Side) (uni bi window stream_window send_window : ℕ) (fair : Bool) (xs : List Step)
    → EndIsToldOnce (new_streams side uni bi window stream_window send_window fair) xs
end_is_told_once side uni bi window stream_window send_window fair xs =
    end.end_is_told_once steps stays_opened side uni bi window stream_window send_window fair xs

pub gives_each_once : (side : Side) (uni bi window stream_window send_window : ℕ) (fair : Bool) (xs : List Step)
    → GivesEachOnce (new_streams side uni bi window stream_window send_window fair) xs
gives_each_once side uni bi window stream_window send_window fair xs = gives_once steps stays_opened side uni bi window stream_window send_window fair xs
