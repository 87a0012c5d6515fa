use Rattle.std.specs.Prelude.{List, Result, Ok, Err, IfErr, IfOk, OnOk}
use Rattle.qc_laws.proofs.AckHolds.{run_acks_hold, run_each_holds}
use Rattle.qc_laws.proofs.AcksAccepted.{none_acks_known, ran_acks_known, run_acks_known}
use Rattle.qc_laws.proofs.BytesKept.{run_keeps_written}
use Rattle.qc_laws.proofs.CidRuns.{run_tells_issued}
use Rattle.qc_laws.proofs.CidUses.{run_uses}
use Rattle.qc_laws.proofs.CryptoKept.{run_keeps_bytes}
use Rattle.qc_laws.proofs.EndsHold.{run_ends}
use Rattle.qc_laws.proofs.EventsTold.{none_tells_done, none_tells_once, ran_tells_done, ran_tells_once, run_stays_done, run_tells_done, run_tells_once}
use Rattle.qc_laws.proofs.FramesAcked.{run_acks_frames}
use Rattle.qc_laws.proofs.HarmlessBytes.{run_harmless}
use Rattle.qc_laws.proofs.IdsFold.{run_folds_ids}
use Rattle.qc_laws.proofs.IdsHold.{run_ids}
use Rattle.qc_laws.proofs.SpaceKeysHold.{run_space_keys}
use Rattle.qc_laws.proofs.InitialLeft.{run_leaves}
use Rattle.qc_laws.proofs.KeysFold.{run_folds_keys, run_keeps_epochs, run_last}
use Rattle.qc_laws.proofs.KeysHold.{run_keys_hold}
use Rattle.qc_laws.proofs.LengthsHold.{run_keeps_length}
use Rattle.qc_laws.proofs.LimitsEnd.{run_limits, run_spares}
use Rattle.qc_laws.proofs.MarksTold.{none_each_told, ran_each_told, run_each_told}
use Rattle.qc_laws.proofs.Mismatches.{none_mismatches, ran_mismatches, run_mismatches}
use Rattle.qc_laws.proofs.PathsHold.{path_run}
use Rattle.qc_laws.proofs.PostsFold.{run_posts}
use Rattle.qc_laws.proofs.PostsSealed.{run_seals}
use Rattle.qc_laws.proofs.PostsTaken.{run_takes}
use Rattle.qc_laws.proofs.ReadsHold.{run_reads, run_within}
use Rattle.qc_laws.proofs.Reasons.{run_causes}
use Rattle.qc_laws.proofs.WritesHold.{run_writes}
use Rattle.qc_laws.proofs.Recovers.{run_recovers, run_settles_once}
use Rattle.qc_laws.proofs.KeysCount.{run_counts}
use Rattle.qc_laws.proofs.FaultsClose.{run_faults_close}
use Rattle.qc_laws.proofs.RetriesCome.{run_of_inputs}
use Rattle.qc_laws.proofs.RetriesHold.{run_renews}
use Rattle.qc_laws.proofs.SealRuns.{run_seals_answers}
use Rattle.qc_laws.proofs.Steps.{ran_none}
use Rattle.qc_laws.proofs.SpacesFit.{run_spaces_fit}
use Rattle.qc_laws.proofs.StepsTell.{run_each_tells}
use Rattle.qc_laws.proofs.StreamHolds.{run_gives}
use Rattle.qc_laws.proofs.StreamsFold.{run_folds}
use Rattle.qc_laws.proofs.TimerHolds.{run_keeps_timer}
use Rattle.qc_laws.proofs.Told.{none_rises, none_admits, none_life_rises, none_closes, none_loses_once, ran_rises, ran_admits, ran_life_rises, ran_closes, ran_loses_once, run_rises, run_admits, run_life_rises, run_closes, run_loses_once}
use Rattle.qc_state.specs.declared.input.Input.{Input}
use Rattle.qc_state.specs.declared.trace.Step.{Step}
use Rattle.qc_state.specs.Run.{Ran, Run}
use Rattle.qc_state.specs.Types.{Types, Meaning}
use Rattle.qc_state.specs.View.{View}
use Rattle.qc_conn.specs.Seen.{KeepsCredit}
use Rattle.qc_conn.specs.declared.driving.DriveError.{DriveError}
use Rattle.qc_conn.proofs.RunsPlain.{ran_plain, run_plain, run_stays}
use Rattle.qc_conn.proofs.Stores.{none_stored}
use Rattle.qc_conn.proofs.driving.drive.Goals as goal

-- what holds of each run holds of a trace, if there is one
of_trace : {t : Types} {E : Type 0} (m : Meaning t) (s s' : View t) (inputs : List Input) (answer : Result (List Step) E) (P : List Step → Type 0) → IfOk answer (λ trace. Run m 0 s inputs trace s') → ((trace : List Step) → Run m 0 s inputs trace s' → P trace) → IfOk answer P
of_trace m s s' inputs (Ok trace) P run holds = holds trace run
of_trace m s s' inputs (Err e) P run holds = tt

-- what holds of the end of each run holds of what is left, if there is a trace
of_end : {t : Types} {E : Type 0} (m : Meaning t) (s s' : View t) (inputs : List Input) (answer : Result (List Step) E) (P : Type 0) → IfOk answer (λ trace. Run m 0 s inputs trace s') → ((trace : List Step) → Run m 0 s inputs trace s' → P) → OnOk answer P
of_end m s s' inputs (Ok trace) P run holds = holds trace run
of_end m s s' inputs (Err e) P run holds = tt

-- what holds of each run over the first inputs holds of the steps that were done, if it stopped
of_part : {t : Types} (m : Meaning t) (s : View t) (inputs : List Input) (answer : Result (List Step) DriveError) (P : List Step → Type 0) → IfErr answer (λ e. Ran m 0 s inputs e.done) → ((trace : List Step) → Ran m 0 s inputs trace → P trace) → IfErr answer (λ e. P e.done)
of_part m s inputs (Ok trace) P run holds = tt
of_part m s inputs (Err e) P run holds = holds e.done run

-- flow control is kept over a run
credit_kept : {t : Types} (m : Meaning t) (s s' : View t) (inputs : List Input) (trace : List Step) → Run m 0 s inputs trace s' → KeepsCredit s.lower.streams s'.lower.streams
unfolding KeepsCredit
credit_kept m s s' inputs trace run = λ side transport new window stream_window. run_within side transport m 0 s inputs trace s' run new window stream_window

pub returns-clause-rising : goal.returns-clause-rising
returns-clause-rising g c = of_trace _ _ _ _ c.drive_all.result _ c.drive_all.ensures.run (λ trace run. run_rises _ 0 _ _ trace _ run)

pub returns-clause-rising_part : goal.returns-clause-rising_part
returns-clause-rising_part g c = of_part _ _ _ c.drive_all.result _ c.drive_all.ensures.part (λ trace run. ran_rises _ 0 _ _ trace run)

pub returns-clause-admitted : goal.returns-clause-admitted
returns-clause-admitted g c = of_trace _ _ _ _ c.drive_all.result _ c.drive_all.ensures.run (λ trace run. run_admits _ 0 _ _ trace _ run)

pub returns-clause-admitted_part : goal.returns-clause-admitted_part
returns-clause-admitted_part g c = of_part _ _ _ c.drive_all.result _ c.drive_all.ensures.part (λ trace run. ran_admits _ 0 _ _ trace run)

pub returns-clause-acknowledged : goal.returns-clause-acknowledged
returns-clause-acknowledged g c = of_trace _ _ _ _ c.drive_all.result _ c.drive_all.ensures.run (λ trace run. run_acks_known _ 0 _ _ trace _ run)

pub returns-clause-acknowledged_part : goal.returns-clause-acknowledged_part
returns-clause-acknowledged_part g c = of_part _ _ _ c.drive_all.result _ c.drive_all.ensures.part (λ trace run. ran_acks_known _ 0 _ _ trace run)

pub returns-clause-marks : goal.returns-clause-marks
returns-clause-marks g c = of_trace _ _ _ _ c.drive_all.result _ c.drive_all.ensures.run (λ trace run. run_each_told _ 0 _ _ trace _ run)

pub returns-clause-marks_part : goal.returns-clause-marks_part
returns-clause-marks_part g c = of_part _ _ _ c.drive_all.result _ c.drive_all.ensures.part (λ trace run. ran_each_told _ 0 _ _ trace run)

pub returns-clause-life : goal.returns-clause-life
returns-clause-life g c = of_trace _ _ _ _ c.drive_all.result _ c.drive_all.ensures.run (λ trace run. run_life_rises _ 0 _ _ trace _ run)

pub returns-clause-life_part : goal.returns-clause-life_part
returns-clause-life_part g c = of_part _ _ _ c.drive_all.result _ c.drive_all.ensures.part (λ trace run. ran_life_rises _ 0 _ _ trace run)

pub returns-clause-closing : goal.returns-clause-closing
returns-clause-closing g c = of_trace _ _ _ _ c.drive_all.result _ c.drive_all.ensures.run (λ trace run. run_closes _ 0 _ _ trace _ run)

pub returns-clause-closing_part : goal.returns-clause-closing_part
returns-clause-closing_part g c = of_part _ _ _ c.drive_all.result _ c.drive_all.ensures.part (λ trace run. ran_closes _ 0 _ _ trace run)

pub returns-clause-paths : goal.returns-clause-paths
returns-clause-paths g c = of_trace _ _ _ _ c.drive_all.result _ c.drive_all.ensures.run (λ trace run. path_run _ 0 _ _ trace _ run)

pub returns-clause-ids : goal.returns-clause-ids
returns-clause-ids g c = of_end _ _ _ _ c.drive_all.result _ c.drive_all.ensures.run (λ trace run. run_ids _ 0 _ _ trace _ run)

pub returns-clause-keys : goal.returns-clause-keys
returns-clause-keys g c = λ holds. of_end _ _ _ _ c.drive_all.result _ c.drive_all.ensures.run (λ trace run. run_keys_hold _ 0 _ _ trace _ run holds)

pub returns-clause-ends : goal.returns-clause-ends
returns-clause-ends g c = λ ends. of_end _ _ _ _ c.drive_all.result _ c.drive_all.ensures.run (λ trace run. run_ends _ 0 _ _ trace _ run ends)

pub returns-clause-initial : goal.returns-clause-initial
returns-clause-initial g c = of_trace _ _ _ _ c.drive_all.result _ c.drive_all.ensures.run (λ trace run. run_leaves _ 0 _ _ trace _ run)

pub returns-clause-harmless : goal.returns-clause-harmless
returns-clause-harmless g c = of_trace _ _ _ _ c.drive_all.result _ c.drive_all.ensures.run (λ trace run. run_harmless _ 0 _ _ trace _ run)

pub returns-clause-reason : goal.returns-clause-reason
returns-clause-reason g c = of_trace _ _ _ _ c.drive_all.result _ c.drive_all.ensures.run (λ trace run. run_loses_once _ 0 _ _ trace _ run)

pub returns-clause-reason_part : goal.returns-clause-reason_part
returns-clause-reason_part g c = of_part _ _ _ c.drive_all.result _ c.drive_all.ensures.part (λ trace run. ran_loses_once _ 0 _ _ trace run)

pub returns-clause-tells : goal.returns-clause-tells
returns-clause-tells g c = of_trace _ _ _ _ c.drive_all.result _ c.drive_all.ensures.run (λ trace run. run_each_tells _ 0 _ _ trace _ run)

pub returns-clause-told : goal.returns-clause-told
returns-clause-told g c = λ waits. of_trace _ _ _ _ c.drive_all.result _ c.drive_all.ensures.run (λ trace run. run_tells_done _ 0 _ _ trace _ run waits)

pub returns-clause-told_part : goal.returns-clause-told_part
returns-clause-told_part g c = λ waits. of_part _ _ _ c.drive_all.result _ c.drive_all.ensures.part (λ trace run. ran_tells_done _ 0 _ _ trace run waits)

pub returns-clause-once : goal.returns-clause-once
returns-clause-once g c = λ waits. of_trace _ _ _ _ c.drive_all.result _ c.drive_all.ensures.run (λ trace run. run_tells_once _ 0 _ _ trace _ run waits)

pub returns-clause-once_part : goal.returns-clause-once_part
returns-clause-once_part g c = λ waits. of_part _ _ _ c.drive_all.result _ c.drive_all.ensures.part (λ trace run. ran_tells_once _ 0 _ _ trace run waits)

pub returns-clause-told_end : goal.returns-clause-told_end
returns-clause-told_end g c = λ waits. of_end _ _ _ _ c.drive_all.result _ c.drive_all.ensures.run (λ trace run. run_stays_done _ 0 _ _ trace _ run waits)

pub returns-clause-timer : goal.returns-clause-timer
returns-clause-timer g c = λ ends. of_trace _ _ _ _ c.drive_all.result _ c.drive_all.ensures.run (λ trace run. run_keeps_timer _ 0 _ _ trace _ run ends)

pub returns-clause-settles : goal.returns-clause-settles
returns-clause-settles g c = λ ends. of_trace _ _ _ _ c.drive_all.result _ c.drive_all.ensures.run (λ trace run. run_settles_once _ 0 _ _ trace _ run ends)

pub returns-clause-datagrams : goal.returns-clause-datagrams
returns-clause-datagrams g c = of_trace _ _ _ _ c.drive_all.result _ c.drive_all.ensures.run (λ trace run. run_seals_answers _ g.met.U.Session.PacketKey.PacketKey.sealed_length 0 _ _ trace _ run)

pub returns-clause-held : goal.returns-clause-held
returns-clause-held g c = λ holds. of_trace _ _ _ _ c.drive_all.result _ c.drive_all.ensures.run (λ trace run. run_each_holds _ 0 _ _ trace _ run holds)

pub returns-clause-held_end : goal.returns-clause-held_end
returns-clause-held_end g c = λ holds. of_end _ _ _ _ c.drive_all.result _ c.drive_all.ensures.run (λ trace run. run_acks_hold _ 0 _ _ trace _ run holds)

pub returns-clause-plain : goal.returns-clause-plain
returns-clause-plain g c = λ plain. of_trace _ _ _ _ c.drive_all.result _ c.drive_all.ensures.run (λ trace run. run_plain _ 0 _ _ trace _ run plain)

pub returns-clause-plain_part : goal.returns-clause-plain_part
returns-clause-plain_part g c = λ plain. of_part _ _ _ c.drive_all.result _ c.drive_all.ensures.part (λ trace run. ran_plain _ 0 _ _ trace run plain)

pub returns-clause-plain_end : goal.returns-clause-plain_end
returns-clause-plain_end g c = λ plain. of_end _ _ _ _ c.drive_all.result _ c.drive_all.ensures.run (λ trace run. run_stays _ 0 _ _ trace _ run plain)

pub returns-clause-recovers : goal.returns-clause-recovers
returns-clause-recovers g c = λ ends. of_trace _ _ _ _ c.drive_all.result _ c.drive_all.ensures.run (λ trace run. run_recovers _ 0 _ _ trace _ run ends)

pub returns-clause-counts : goal.returns-clause-counts
returns-clause-counts g c = of_trace _ _ _ _ c.drive_all.result _ c.drive_all.ensures.run (λ trace run. run_counts _ 0 _ _ trace _ run)

pub returns-clause-updates : goal.returns-clause-updates
returns-clause-updates g c = λ last. of_trace _ _ _ _ c.drive_all.result _ c.drive_all.ensures.run (λ trace run. run_folds_keys _ 0 _ _ trace _ run last)

pub returns-clause-epochs : goal.returns-clause-epochs
returns-clause-epochs g c = λ last. of_trace _ _ _ _ c.drive_all.result _ c.drive_all.ensures.run (λ trace run. run_keeps_epochs _ 0 _ _ trace _ run last)

pub returns-clause-last : goal.returns-clause-last
returns-clause-last g c = λ last. of_end _ _ _ _ c.drive_all.result _ c.drive_all.ensures.run (λ trace run. run_last _ 0 _ _ trace _ run last)

pub returns-clause-spared : goal.returns-clause-spared
returns-clause-spared g c spares = of_end _ _ _ _ c.drive_all.result _ c.drive_all.ensures.run (λ trace run. run_spares _ 0 _ _ trace _ run spares)

pub returns-clause-limits : goal.returns-clause-limits
returns-clause-limits g c spares = of_trace _ _ _ _ c.drive_all.result _ c.drive_all.ensures.run (λ trace run. run_limits _ 0 _ _ trace _ run spares)

pub returns-clause-retry : goal.returns-clause-retry
returns-clause-retry g c = of_trace _ _ _ _ c.drive_all.result _ c.drive_all.ensures.run (λ trace run. run_renews _ 0 _ _ trace _ run)

pub returns-clause-retries : goal.returns-clause-retries
returns-clause-retries g c = of_trace _ _ _ _ c.drive_all.result _ c.drive_all.ensures.run (λ trace run. run_of_inputs _ 0 _ _ trace _ run)

pub returns-clause-space_keys : goal.returns-clause-space_keys
returns-clause-space_keys g c named = of_end _ _ _ _ c.drive_all.result _ c.drive_all.ensures.run (λ trace run. run_space_keys _ 0 _ _ trace _ run named)

pub returns-clause-own_keys : goal.returns-clause-own_keys
returns-clause-own_keys g c fits =
    of_end _ _ _ _ c.drive_all.result _ c.drive_all.ensures.run
    (λ trace run. run_spaces_fit _ g.U.Session.Session
    (record {
      sound_read = g.met.U.Session.Session.sound_read;
      sound_write = g.met.U.Session.Session.sound_write;
      sound_next = g.met.U.Session.Session.sound_next;
      changes_write = g.met.U.Session.Session.changes_write;
      changes_read = g.met.U.Session.Session.changes_read;
      changes_next = g.met.U.Session.Session.changes_next;
      given_keys = g.met.U.Session.Session.given_keys;
      handshake_read = g.met.U.Session.Session.handshake_read;
      handshake_write = g.met.U.Session.Session.handshake_write;
      handshake_next = g.met.U.Session.Session.handshake_next;
      initial_read = g.met.U.Session.Session.initial_read;
      initial_write = g.met.U.Session.Session.initial_write;
      initial_next = g.met.U.Session.Session.initial_next;
    })
    0 _ _ trace _ run fits)

pub returns-clause-mismatch : goal.returns-clause-mismatch
returns-clause-mismatch g c = of_trace _ _ _ _ c.drive_all.result _ c.drive_all.ensures.run (λ trace run. run_mismatches _ 0 _ _ trace _ run)

pub returns-clause-mismatch_part : goal.returns-clause-mismatch_part
returns-clause-mismatch_part g c = of_part _ _ _ c.drive_all.result _ c.drive_all.ensures.part (λ trace run. ran_mismatches _ 0 _ _ trace run)

pub returns-clause-update_errors : goal.returns-clause-update_errors
returns-clause-update_errors g c = of_trace _ _ _ _ c.drive_all.result _ c.drive_all.ensures.run (λ trace run. run_causes _ 0 _ _ trace _ run)

pub returns-clause-faults : goal.returns-clause-faults
returns-clause-faults g c = of_trace _ _ _ _ c.drive_all.result _ c.drive_all.ensures.run (λ trace run. run_faults_close _ 0 _ _ trace _ run)

pub returns-clause-crypto : goal.returns-clause-crypto
returns-clause-crypto g c = λ ends. of_trace _ _ _ _ c.drive_all.result _ c.drive_all.ensures.run (λ trace run. run_keeps_bytes _ 0 _ _ trace _ run ends)

pub returns-clause-streams : goal.returns-clause-streams
returns-clause-streams g c = λ id. of_trace _ _ _ _ c.drive_all.result _ c.drive_all.ensures.run (λ trace run. run_gives id _ 0 _ _ trace _ run)

pub returns-clause-folded : goal.returns-clause-folded
returns-clause-folded g c = of_trace _ _ _ _ c.drive_all.result _ c.drive_all.ensures.run (λ trace run. run_folds _ 0 _ _ trace _ run)

pub returns-clause-frames : goal.returns-clause-frames
returns-clause-frames g c = λ ends. of_trace _ _ _ _ c.drive_all.result _ c.drive_all.ensures.run (λ trace run. run_acks_frames _ 0 _ _ trace _ run ends)

pub returns-clause-reads : goal.returns-clause-reads
returns-clause-reads g c = λ new. of_trace _ _ _ _ c.drive_all.result _ c.drive_all.ensures.run (λ trace run. run_reads _ 0 _ _ trace _ run new)

pub returns-clause-written : goal.returns-clause-written
returns-clause-written g c = λ new. of_trace _ _ _ _ c.drive_all.result _ c.drive_all.ensures.run (λ trace run. run_writes _ 0 _ _ trace _ run new)

pub returns-clause-credit : goal.returns-clause-credit
returns-clause-credit g c = of_end _ _ _ _ c.drive_all.result _ c.drive_all.ensures.run (λ trace run. credit_kept _ _ _ _ trace run)

pub returns-clause-bytes : goal.returns-clause-bytes
returns-clause-bytes g c = λ ends new. of_trace _ _ _ _ c.drive_all.result _ c.drive_all.ensures.run (λ trace run. run_keeps_written _ 0 _ _ trace _ run ends new)

pub returns-clause-posts : goal.returns-clause-posts
returns-clause-posts g c = of_trace _ _ _ _ c.drive_all.result _ c.drive_all.ensures.run (λ trace run. run_posts _ 0 _ _ trace _ run)

pub returns-clause-taken : goal.returns-clause-taken
returns-clause-taken g c = λ new. of_trace _ _ _ _ c.drive_all.result _ c.drive_all.ensures.run (λ trace run. run_takes _ 0 _ _ trace _ run new)

pub returns-clause-sent : goal.returns-clause-sent
returns-clause-sent g c = λ new. of_trace _ _ _ _ c.drive_all.result _ c.drive_all.ensures.run (λ trace run. run_seals _ 0 _ _ trace _ run new)

pub returns-clause-identifiers : goal.returns-clause-identifiers
returns-clause-identifiers g c = of_trace _ _ _ _ c.drive_all.result _ c.drive_all.ensures.run (λ trace run. run_folds_ids _ 0 _ _ trace _ run)

pub returns-clause-uses : goal.returns-clause-uses
returns-clause-uses g c = λ new. of_trace _ _ _ _ c.drive_all.result _ c.drive_all.ensures.run (λ trace run. run_uses _ 0 _ _ trace _ run new)

pub returns-clause-issues : goal.returns-clause-issues
returns-clause-issues g c = λ new. of_trace _ _ _ _ c.drive_all.result _ c.drive_all.ensures.run (λ trace run. run_tells_issued _ 0 _ _ trace _ run new)

pub returns-clause-lengths : goal.returns-clause-lengths
returns-clause-lengths g c = λ new. of_trace _ _ _ _ c.drive_all.result _ c.drive_all.ensures.run (λ trace run. run_keeps_length _ 0 _ _ trace _ run new)

-- the empty trace is a run over no inputs
pub returns-then-is_failed-clause-part : goal.returns-then-is_failed-clause-part
returns-then-is_failed-clause-part g c = ran_none _ _ _ _ _ c.new.ensures

pub returns-then-is_failed-clause-rising_part : goal.returns-then-is_failed-clause-rising_part
returns-then-is_failed-clause-rising_part g c = none_rises _ _ c.new.ensures

pub returns-then-is_failed-clause-reason_part : goal.returns-then-is_failed-clause-reason_part
returns-then-is_failed-clause-reason_part g c = none_loses_once _ _ c.new.ensures

pub returns-then-is_failed-clause-life_part : goal.returns-then-is_failed-clause-life_part
returns-then-is_failed-clause-life_part g c = none_life_rises _ _ c.new.ensures

pub returns-then-is_failed-clause-closing_part : goal.returns-then-is_failed-clause-closing_part
returns-then-is_failed-clause-closing_part g c = none_closes _ _ c.new.ensures

pub returns-then-is_failed-clause-admitted_part : goal.returns-then-is_failed-clause-admitted_part
returns-then-is_failed-clause-admitted_part g c = none_admits _ _ c.new.ensures

pub returns-then-is_failed-clause-acknowledged_part : goal.returns-then-is_failed-clause-acknowledged_part
returns-then-is_failed-clause-acknowledged_part g c = none_acks_known _ _ c.new.ensures

pub returns-then-is_failed-clause-told_part : goal.returns-then-is_failed-clause-told_part
returns-then-is_failed-clause-told_part g c = λ _. none_tells_done _ _ c.new.ensures

pub returns-then-is_failed-clause-once_part : goal.returns-then-is_failed-clause-once_part
returns-then-is_failed-clause-once_part g c = λ _. none_tells_once _ _ c.new.ensures

pub returns-then-is_failed-clause-marks_part : goal.returns-then-is_failed-clause-marks_part
returns-then-is_failed-clause-marks_part g c = none_each_told _ _ _ c.new.ensures

pub returns-then-is_failed-clause-mismatch_part : goal.returns-then-is_failed-clause-mismatch_part
returns-then-is_failed-clause-mismatch_part g c = none_mismatches _ c.new.ensures

-- the store was given nothing
pub returns-then-is_failed-clause-store_part : goal.returns-then-is_failed-clause-store_part
returns-then-is_failed-clause-store_part g c = none_stored g.G.TokenStore.inserted _ _ _ _ c.new.ensures
