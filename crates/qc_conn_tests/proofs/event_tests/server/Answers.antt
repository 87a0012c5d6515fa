use Rattle.std.proofs.Common.{◌≡◌, true, ap, sym, ◌∙◌, subst, Option, Some, None, Result, Ok, Err, IfOk}
use Rattle.std.proofs.lemmas.Option.{IfSome_then}
use Rattle.std.specs.Result.{result_ok}
use Rattle.qc_state.specs.First.{server_view}
use Rattle.qc_state.specs.Life.{is_handshake}
use Rattle.qc_conn_tests.proofs.event_tests.server.Goals as goal

abbrev some_or : {A : Type 0} → A → Option A → A
some_or x None = x
some_or x (Some y) = y

-- what holds of a result that is there holds of what was taken out of it
ok_of : {A E : Type 0} (r : Result A E) (x : A) (P : A → Type 0) → Some x ≡ result_ok r → IfOk r P → P x
ok_of (Ok y) x P e h = subst P (sym (ap (some_or x) e)) h
ok_of (Err y) x P e h = absurd (cc e)

-- a server that was just made shakes hands
pub returns-clause-shakes : goal.returns-clause-shakes
unfolding server_view
returns-clause-shakes c =
    IfSome_then c.boxed.result c.boxed.ensures
    (λ s is. ap (λ v. is_handshake v.core.life.state) is ∙ ap (λ a. is_handshake a.life.state) (ok_of c.new_server.result c.in_ok-server.server _ c.in_ok-server.ensures.value c.new_server.ensures.made))
