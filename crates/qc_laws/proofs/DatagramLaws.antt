-- One datagram keeps the laws of runs.
use Rattle.std.proofs.Common.{◌≡◌, ℕ, ◌+◌, ◌≤◌, List, [], length, sym, subst, true, if◌then◌else◌}
use Rattle.std.specs.Prelude.{option_to_list}
use Rattle.std.specs.List.{list_all}
use Rattle.qc_base.specs.declared.side.SpaceId.{SpaceId}
use Rattle.qc_base.specs.declared.side.SpaceId.TheVariants.{Initial}
use Rattle.qc_laws.specs.DatagramLaws.{DatagramHolds}
use Rattle.qc_state.specs.declared.coming.Coming.{Coming}
use Rattle.qc_state.specs.declared.deeds.Did.{Did}
use Rattle.qc_state.specs.Headline.{entered_in, lives_in, reasons_in, is_harmless, EachNew, RisesFrom}
use Rattle.qc_state.specs.Life.{rank_of}
use Rattle.qc_state.specs.Numbers.{came_in}
use Rattle.qc_state.specs.Paths.{same_address}
use Rattle.qc_state.specs.Receiving.{datagram_after}
use Rattle.qc_state.specs.Types.{Types, Meaning}
use Rattle.qc_state.specs.View.{View, At, at}
use Rattle.qc_laws.proofs.HarmlessBytes.{Tame, same_counts, tame_datagram}
use Rattle.qc_laws.proofs.PathsHold.{path_datagram}
use Rattle.qc_state.proofs.Telling.{Told, admits, kernel, lives, reasons}
use Rattle.qc_laws.proofs.ToldReceiving.{told_datagram}
use Rattle.qc_laws.proofs.HarmlessTests.{all_harmless}

module _ {t : Types} where
  pub datagram_holds : (m : Meaning t) (coming : Coming) (bytes : List ℕ) (s : View t) →
      let r : At t = datagram_after m coming bytes (at s []) in DatagramHolds (if same_address s.paths.current.remote coming.remote then length bytes else 0) r.did s r.state
  datagram_holds m coming bytes s =
      let r : At t = datagram_after m coming bytes (at s []) in
      let told : (id : SpaceId) → Told id (at s []) r = λ id. told_datagram id m coming bytes (at s []) in
      let first : Told Initial (at s []) r = told Initial in
      let tame : Tame (at s []) r = tame_datagram m coming bytes (at s []) in
      record {
        admitted = λ id. subst (λ (ds : List Did). EachNew (came_in s.numbers id) (entered_in id ds)) (sym (told id).appended) (admits id (kernel id s) (kernel id r.state) (told id).since (told id).tells);
        life = subst (λ (ds : List Did). RisesFrom (rank_of s.life.state + 1) (lives_in ds)) (sym first.appended) (lives Initial (kernel Initial s) (kernel Initial r.state) first.since first.tells);
        reason = subst (λ (ds : List Did). length (option_to_list s.life.reason) + length (reasons_in ds) ≤ 1) (sym first.appended) (reasons Initial (kernel Initial s) (kernel Initial r.state) first.since first.tells);
        paths = path_datagram m coming bytes s;
        harmless = λ all. same_counts s r.state (tame.same (subst (λ (ds : List Did). list_all is_harmless ds ≡ true) tame.appended (all_harmless r.did all)));
      }
