-- The text of a reason for the end tells the reason.
use Rattle.std.proofs.Common.{◌≡◌, ℕ, true, List, ◌∷◌, ◌++◌, drop, get_or, Option, refl, sym, ap, ◌∙◌, append_assoc, arith}
use Rattle.std.specs.Prelude.{decimal}
use Rattle.qc_base.specs.declared.transport_error.TransportError.{TransportError as TransportFault}
use Rattle.qc_state.specs.declared.life.ApplicationClose.{ApplicationClose}
use Rattle.qc_state.specs.declared.life.ConnectionClose.{ConnectionClose}
use Rattle.qc_state.specs.declared.life.ConnectionError.{ConnectionError}
use Rattle.qc_state.specs.declared.life.ConnectionError.TheVariants.{VersionMismatch, TransportError, ConnectionClosed, ApplicationClosed, TimedOut}
use Rattle.qc_text.specs.TraceText.{number_or_dash, bytes_or_dash, error_text, connection_close_text, application_close_text, reason_name, reason_values, reason_text}
use Rattle.qc_text.specs.OneText.{IsErrorInRange, IsReasonInRange}
use Rattle.qc_text.proofs.Tokens.{is_mark, is_token, token_back, number_back}
use Rattle.qc_text.proofs.FieldsBack.{option_back, body_back}

-- each reason as it is read
error_parts : (a : TransportFault) (r : List ℕ) → error_text a ++ r ≡ decimal a.code ++ 32 ∷ (number_or_dash a.frame ++ r)
unfolding error_text
error_parts a r = simp append_assoc

connection_parts : (code : ℕ) (frame : Option ℕ) (reason r : List ℕ) → connection_close_text code frame reason ++ r ≡ decimal code ++ 32 ∷ (number_or_dash frame ++ 32 ∷ (bytes_or_dash reason ++ r))
unfolding connection_close_text
connection_parts code frame reason r = simp append_assoc

application_parts : (code : ℕ) (reason r : List ℕ) → application_close_text code reason ++ r ≡ decimal code ++ 32 ∷ (bytes_or_dash reason ++ r)
unfolding application_close_text
application_parts code reason r = simp append_assoc

error_back : (a b : TransportFault) (r s : List ℕ) → IsErrorInRange a → IsErrorInRange b → error_text a ++ 10 ∷ r ≡ error_text b ++ 10 ∷ s → (a ≡ b) × (r ≡ s)
error_back a b r s p q e =
    let parts = sym (error_parts a (10 ∷ r)) ∙ e ∙ error_parts b (10 ∷ s) in
    let code = number_back a.code b.code 32 32 _ _ (omega arith) (omega arith) refl refl parts in
    let frame = option_back a.frame b.frame 10 10 r s p.1 q.1 refl refl (ap (drop 1) code.1) in
    (same code.0 frame.0, ap (drop 1) frame.1)
  where
    same : a.code ≡ b.code → a.frame ≡ b.frame → a ≡ b
    same k f = λ i. record { code = k i; frame = f i }

connection_back : (a b : ConnectionClose) (r s : List ℕ) → IsReasonInRange (ConnectionClosed a) → IsReasonInRange (ConnectionClosed b)
    → connection_close_text a.error_code a.frame_type a.reason ++ 10 ∷ r ≡ connection_close_text b.error_code b.frame_type b.reason ++ 10 ∷ s → (a ≡ b) × (r ≡ s)
connection_back a b r s p q e =
    let parts = sym (connection_parts a.error_code a.frame_type a.reason (10 ∷ r)) ∙ e ∙ connection_parts b.error_code b.frame_type b.reason (10 ∷ s) in
    let code = number_back a.error_code b.error_code 32 32 _ _ (omega arith) (omega arith) refl refl parts in
    let frame = option_back a.frame_type b.frame_type 32 32 _ _ p.1 q.1 refl refl (ap (drop 1) code.1) in
    let reason = body_back a.reason b.reason 10 10 r s p.2 q.2 refl refl (ap (drop 1) frame.1) in
    (same code.0 frame.0 reason.0, ap (drop 1) reason.1)
  where
    same : a.error_code ≡ b.error_code → a.frame_type ≡ b.frame_type → a.reason ≡ b.reason → a ≡ b
    same k f w = λ i. record { error_code = k i; frame_type = f i; reason = w i }

application_back : (a b : ApplicationClose) (r s : List ℕ) → IsReasonInRange (ApplicationClosed a) → IsReasonInRange (ApplicationClosed b)
    → application_close_text a.error_code a.reason ++ 10 ∷ r ≡ application_close_text b.error_code b.reason ++ 10 ∷ s → (a ≡ b) × (r ≡ s)
application_back a b r s p q e =
    let parts = sym (application_parts a.error_code a.reason (10 ∷ r)) ∙ e ∙ application_parts b.error_code b.reason (10 ∷ s) in
    let code = number_back a.error_code b.error_code 32 32 _ _ (omega arith) (omega arith) refl refl parts in
    let reason = body_back a.reason b.reason 10 10 r s p.1 q.1 refl refl (ap (drop 1) code.1) in
    (same code.0 reason.0, ap (drop 1) reason.1)
  where
    same : a.error_code ≡ b.error_code → a.reason ≡ b.reason → a ≡ b
    same k w = λ i. record { error_code = k i; reason = w i }

-- the values, where the kinds are the same; the second letters of these differ
values_back : (a b : ConnectionError) (r s : List ℕ) → IsReasonInRange a → IsReasonInRange b → reason_name a ≡ reason_name b → reason_values a ++ 10 ∷ r ≡ reason_values b ++ 10 ∷ s → (a ≡ b) × (r ≡ s)
unfolding reason_name reason_values
values_back (TransportError a) (TransportError b) r s p q n e = let both = error_back a b r s p q (ap (drop 1) e) in (ap TransportError both.0, both.1)
values_back (ConnectionClosed a) (ConnectionClosed b) r s p q n e = let both = connection_back a b r s p q (ap (drop 1) e) in (ap ConnectionClosed both.0, both.1)
values_back (ApplicationClosed a) (ApplicationClosed b) r s p q n e = let both = application_back a b r s p q (ap (drop 1) e) in (ap ApplicationClosed both.0, both.1)
values_back TimedOut TimedOut r s p q n e = (refl, ap (drop 1) e)
values_back VersionMismatch VersionMismatch r s p q n e = (refl, ap (drop 1) e)
values_back _ _ r s p q n e = absurd (omega (arith, ap (λ (a : List ℕ). get_or a 1 0) n))

name_is_token : (a : ConnectionError) → is_token (reason_name a) ≡ true
unfolding reason_name
name_is_token (TransportError a) = refl
name_is_token (ConnectionClosed a) = refl
name_is_token (ApplicationClosed a) = refl
name_is_token TimedOut = refl
name_is_token VersionMismatch = refl

-- behind the name a space stands, or the end of the line
values_mark : (a : ConnectionError) (r : List ℕ) → (c : ℕ) × (t : List ℕ) × (is_mark c ≡ true) × (reason_values a ++ 10 ∷ r ≡ c ∷ t)
unfolding reason_values
values_mark (TransportError a) r = (32, error_text a ++ 10 ∷ r, refl, refl)
values_mark (ConnectionClosed a) r = (32, connection_close_text a.error_code a.frame_type a.reason ++ 10 ∷ r, refl, refl)
values_mark (ApplicationClosed a) r = (32, application_close_text a.error_code a.reason ++ 10 ∷ r, refl, refl)
values_mark TimedOut r = (10, r, refl, refl)
values_mark VersionMismatch r = (10, r, refl, refl)

reason_parts : (a : ConnectionError) (r : List ℕ) → reason_text a ++ r ≡ reason_name a ++ (reason_values a ++ r)
unfolding reason_text
reason_parts a r = simp append_assoc

pub reason_back : (a b : ConnectionError) (r s : List ℕ) → IsReasonInRange a → IsReasonInRange b → reason_text a ++ 10 ∷ r ≡ reason_text b ++ 10 ∷ s → (a ≡ b) × (r ≡ s)
reason_back a b r s p q e =
    let parts = sym (reason_parts a (10 ∷ r)) ∙ e ∙ reason_parts b (10 ∷ s) in
    let left = values_mark a r in
    let right = values_mark b s in
    let there : reason_name a ++ left.0 ∷ left.1 ≡ reason_name b ++ right.0 ∷ right.1 = rw (← left.3, ← right.3) parts in
    let named = token_back (reason_name a) (reason_name b) left.0 right.0 left.1 right.1 (name_is_token a) (name_is_token b) left.2 right.2 there in
    values_back a b r s p q named.0 (left.3 ∙ named.1 ∙ sym right.3)
