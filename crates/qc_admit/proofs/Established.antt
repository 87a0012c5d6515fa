-- The peer's parameters are read.
use Rattle.std.proofs.Common.{◌≡◌, ℕ, List, ap, sym, ◌∙◌, Bool, true, false, Option, Some, None, Result, Ok}
use Rattle.std.specs.Prelude.{if◌then◌else◌}
use Rattle.qc_base.specs.declared.transport_error.TransportError.{TransportError}
use Rattle.qc_params.specs.declared.params.TransportParameters.{TransportParameters}
use Rattle.qc_state.specs.Progress.{ids_fit, learned_with, parameters_and, token_after}
use Rattle.qc_state.specs.Stopping.{parameter_error, stopped_after}
use Rattle.qc_state.specs.Types.{Types}
use Rattle.qc_state.specs.View.{At}

module _ {t : Types} where
  -- they name the ids of this connection, and what comes behind is what comes behind them
  pub known_by : (time : ℕ) (answer : Result (Option TransportParameters) TransportError) (known : Option TransportParameters) (p : TransportParameters) (token : Option (List ℕ)) (fits : Bool) (a b c : At t) (others : At t → At t) →
      answer ≡ Ok known → known ≡ Some p → fits ≡ ids_fit a.state p → fits ≡ true → token ≡ p.stateless_reset_token → b ≡ token_after a.state.setup.fixed.side token a → c ≡ learned_with time p b →
      others c ≡ parameters_and time answer others a
  known_by time answer known p token fits a b c others is is_known is_fits e is_token is_b is_c =
      let told : At t = token_after a.state.setup.fixed.side p.stateless_reset_token a in
      ap others (is_c ∙ ap (λ (x : At t). learned_with time p x) (is_b ∙ ap (λ (k : Option (List ℕ)). token_after a.state.setup.fixed.side k a) is_token))
      ∙ ap (λ (x : Bool). if x then others (learned_with time p told) else stopped_after time parameter_error told) (sym e ∙ is_fits)
      ∙ ap (λ (x : Result (Option TransportParameters) TransportError). parameters_and time x others a) (sym (is ∙ ap (λ (o : Option TransportParameters). Ok o) is_known))

  -- they don't: this end closes behind the server's token
  pub unknown_by : (time : ℕ) (answer : Result (Option TransportParameters) TransportError) (known : Option TransportParameters) (p : TransportParameters) (token : Option (List ℕ)) (fits : Bool) (error : TransportError) (a b c : At t) (others : At t → At t) →
      answer ≡ Ok known → known ≡ Some p → fits ≡ ids_fit a.state p → fits ≡ false → token ≡ p.stateless_reset_token → b ≡ token_after a.state.setup.fixed.side token a →
      error.code ≡ 0x08 → error.frame ≡ None → c ≡ stopped_after time error b →
      c ≡ parameters_and time answer others a
  unknown_by time answer known p token fits error a b c others is is_known is_fits e is_token is_b code frame is_c =
      let told : At t = token_after a.state.setup.fixed.side p.stateless_reset_token a in
      is_c ∙ ap (λ (x : TransportError). stopped_after time x b) (λ i. record { code = code i; frame = frame i }) ∙ ap (λ (x : At t). stopped_after time parameter_error x) (is_b ∙ ap (λ (k : Option (List ℕ)). token_after a.state.setup.fixed.side k a) is_token)
      ∙ ap (λ (x : Bool). if x then others (learned_with time p told) else stopped_after time parameter_error told) (sym e ∙ is_fits)
      ∙ ap (λ (x : Result (Option TransportParameters) TransportError). parameters_and time x others a) (sym (is ∙ ap (λ (o : Option TransportParameters). Ok o) is_known))
