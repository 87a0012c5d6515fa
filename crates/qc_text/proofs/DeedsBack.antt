-- The text of a deed tells the deed.
use Rattle.std.proofs.Common.{◌≡◌, ℕ, ◌+◌, ◌<◌, ◌^◌, Bool, true, false, List, [], ◌∷◌, ◌++◌, if◌then◌else◌, drop, get_or, Option, Some, None, refl, sym, ap, ◌∙◌, append_assoc, arith}
use Rattle.std.specs.Prelude.{decimal, codes}
use Rattle.std.specs.List.{All}
use Rattle.hex.specs.Hex.{encode_lower}
use Rattle.qc_base.specs.Grammar.{IsBytes}
use Rattle.qc_base.specs.declared.side.SpaceId.{SpaceId}
use Rattle.qc_base.specs.declared.side.SpaceId.TheVariants.{Initial, Handshake, «Data»}
use Rattle.qc_frame.specs.Frame.{FrameValue}
use Rattle.qc_state.specs.declared.deeds.Did.{Did}
use Rattle.qc_state.specs.declared.deeds.Did.TheVariants as deed
use Rattle.qc_state.specs.declared.deeds.Layer.{Layer}
use Rattle.qc_state.specs.declared.deeds.Layer.TheVariants.{Streams, Recovery, Session, Ids, Life, Store}
use Rattle.qc_state.specs.declared.deeds.Quiet.{Quiet}
use Rattle.qc_state.specs.declared.deeds.Quiet.TheVariants.{NothingOwed, Silent, Amplification, Congestion, Pacing, Killed}
use Rattle.qc_state.specs.declared.deeds.Verdict.{Verdict}
use Rattle.qc_state.specs.declared.deeds.Verdict.TheVariants.{Ignored, Failure, BadBits, BadUpdate, Seen, ReadForClose, NumberOnly, AckOnly, Admitted, RetryTaken, Versions}
use Rattle.qc_text.specs.TraceText.{number_or_dash, frames_text, space_name, option_space_name, verdict_name, layer_name, type_name, given_name, named_text, given_text, epoch_text, packet_text, sealed_text, piece_text, gave_text, quiet_name, did_text}
use Rattle.qc_text.specs.OneText.{IsOptionInRange, IsDeedInRange, IsDeedPlain}
use Rattle.qc_text.proofs.Tokens.{is_token, token_back, number_back, bytes_back, decimal_is_token, first_digit, decimal_injective_wide}
use Rattle.qc_text.proofs.FieldsBack.{option_back}
use Rattle.qc_text.proofs.FramesBack.{IsTold, frames_back, frames_mark}
use Rattle.qc_text.proofs.ReasonsBack.{reason_back}

-- ---- names

space_is_token : (space : SpaceId) → is_token (space_name space) ≡ true
unfolding space_name
space_is_token Initial = refl
space_is_token Handshake = refl
space_is_token Data = refl

space_injective : (a b : SpaceId) → space_name a ≡ space_name b → a ≡ b
unfolding space_name
space_injective Initial Initial e = refl
space_injective Handshake Handshake e = refl
space_injective Data Data e = refl
space_injective _ _ e = absurd (omega (arith, ap (λ (a : List ℕ). get_or a 0 0) e))

quiet_is_token : (quiet : Quiet) → is_token (quiet_name quiet) ≡ true
unfolding quiet_name
quiet_is_token NothingOwed = refl
quiet_is_token Silent = refl
quiet_is_token Amplification = refl
quiet_is_token Congestion = refl
quiet_is_token Pacing = refl
quiet_is_token Killed = refl

quiet_injective : (a b : Quiet) → quiet_name a ≡ quiet_name b → a ≡ b
unfolding quiet_name
quiet_injective NothingOwed NothingOwed e = refl
quiet_injective Silent Silent e = refl
quiet_injective Amplification Amplification e = refl
quiet_injective Congestion Congestion e = refl
quiet_injective Pacing Pacing e = refl
quiet_injective Killed Killed e = refl
quiet_injective _ _ e = absurd (omega (arith, ap (λ (a : List ℕ). get_or a 0 0) e))

option_space_is_token : (space : Option SpaceId) → is_token (option_space_name space) ≡ true
unfolding option_space_name
option_space_is_token None = refl
option_space_is_token (Some space) = space_is_token space

dash_is_no_space : (space : SpaceId) → codes "-" ≡ space_name space → ⊥
unfolding space_name
dash_is_no_space Initial e = omega (arith, ap (λ (a : List ℕ). get_or a 0 0) e)
dash_is_no_space Handshake e = omega (arith, ap (λ (a : List ℕ). get_or a 0 0) e)
dash_is_no_space Data e = omega (arith, ap (λ (a : List ℕ). get_or a 0 0) e)

option_space_injective : (a b : Option SpaceId) → option_space_name a ≡ option_space_name b → a ≡ b
unfolding option_space_name
option_space_injective None None e = refl
option_space_injective None (Some b) e = absurd (dash_is_no_space b e)
option_space_injective (Some a) None e = absurd (dash_is_no_space a (sym e))
option_space_injective (Some a) (Some b) e = ap Some (space_injective a b e)

verdict_is_token : (verdict : Verdict) → is_token (verdict_name verdict) ≡ true
unfolding verdict_name
verdict_is_token Ignored = refl
verdict_is_token Failure = refl
verdict_is_token BadBits = refl
verdict_is_token BadUpdate = refl
verdict_is_token Seen = refl
verdict_is_token ReadForClose = refl
verdict_is_token NumberOnly = refl
verdict_is_token AckOnly = refl
verdict_is_token Admitted = refl
verdict_is_token RetryTaken = refl
verdict_is_token Versions = refl

-- the fourth letters differ
verdict_injective : (a b : Verdict) → verdict_name a ≡ verdict_name b → a ≡ b
unfolding verdict_name
verdict_injective Ignored Ignored e = refl
verdict_injective Failure Failure e = refl
verdict_injective BadBits BadBits e = refl
verdict_injective BadUpdate BadUpdate e = refl
verdict_injective Seen Seen e = refl
verdict_injective ReadForClose ReadForClose e = refl
verdict_injective NumberOnly NumberOnly e = refl
verdict_injective AckOnly AckOnly e = refl
verdict_injective Admitted Admitted e = refl
verdict_injective RetryTaken RetryTaken e = refl
verdict_injective Versions Versions e = refl
verdict_injective _ _ e = absurd (omega (arith, ap (λ (a : List ℕ). get_or a 3 0) e))

layer_is_token : (layer : Layer) → is_token (layer_name layer) ≡ true
unfolding layer_name
layer_is_token Streams = refl
layer_is_token Recovery = refl
layer_is_token Session = refl
layer_is_token Ids = refl
layer_is_token Life = refl
layer_is_token Store = refl

-- the sums of the second and the third letter differ
layer_injective : (a b : Layer) → layer_name a ≡ layer_name b → a ≡ b
unfolding layer_name
layer_injective Streams Streams e = refl
layer_injective Recovery Recovery e = refl
layer_injective Session Session e = refl
layer_injective Ids Ids e = refl
layer_injective Life Life e = refl
layer_injective Store Store e = refl
layer_injective _ _ e = absurd (omega (arith, ap (λ (a : List ℕ). get_or a 1 0 + get_or a 2 0) e))

type_by : (a b c d e f g h i j k l m n : Bool) → is_token
    (if a then codes "ACK"
    else if b then codes "RESET_STREAM"
    else if c then codes "STOP_SENDING"
    else if d then codes "NEW_TOKEN"
    else if e then codes "STREAM"
    else if f then codes "MAX_DATA"
    else if g then codes "MAX_STREAM_DATA"
    else if h then codes "MAX_STREAMS"
    else if i then codes "NEW_CONNECTION_ID"
    else if j then codes "RETIRE_CONNECTION_ID"
    else if k then codes "CONNECTION_CLOSE"
    else if l then codes "APPLICATION_CLOSE"
    else if m then codes "HANDSHAKE_DONE"
    else if n then codes "DATAGRAM"
    else codes "-") ≡ true
type_by true b c d e f g h i j k l m n = refl
type_by false true c d e f g h i j k l m n = refl
type_by false false true d e f g h i j k l m n = refl
type_by false false false true e f g h i j k l m n = refl
type_by false false false false true f g h i j k l m n = refl
type_by false false false false false true g h i j k l m n = refl
type_by false false false false false false true h i j k l m n = refl
type_by false false false false false false false true i j k l m n = refl
type_by false false false false false false false false true j k l m n = refl
type_by false false false false false false false false false true k l m n = refl
type_by false false false false false false false false false false true l m n = refl
type_by false false false false false false false false false false false true m n = refl
type_by false false false false false false false false false false false false true n = refl
type_by false false false false false false false false false false false false false true = refl
type_by false false false false false false false false false false false false false false = refl

given_is_token : (body : List ℕ) → is_token (given_name body) ≡ true
unfolding given_name type_name
given_is_token [] = refl
given_is_token (type ∷ _) = type_by _ _ _ _ _ _ _ _ _ _ _ _ _ _

-- ---- sealed packets

epoch_is_token : (epoch : ℕ) (early : Bool) → epoch < 2 ^ 64 → is_token (epoch_text epoch early) ≡ true
unfolding epoch_text
epoch_is_token epoch true h = refl
epoch_is_token epoch false h = decimal_is_token epoch (omega arith)

early_is_no_number : (n : ℕ) → n < 2 ^ 64 → codes "early" ≡ decimal n → ⊥
early_is_no_number n h e =
    let first = first_digit n (omega arith) in
    omega (arith, first.1, ap (λ (a : List ℕ). get_or a 0 0) e)

epoch_injective : (m n : ℕ) (a b : Bool) → m < 2 ^ 64 → n < 2 ^ 64 → (a ≡ true → m ≡ 0) → (b ≡ true → n ≡ 0) → epoch_text m a ≡ epoch_text n b → (m ≡ n) × (a ≡ b)
unfolding epoch_text
epoch_injective m n true true p q k l e = (k refl ∙ sym (l refl), refl)
epoch_injective m n true false p q k l e = absurd (early_is_no_number n q e)
epoch_injective m n false true p q k l e = absurd (early_is_no_number m p (sym e))
epoch_injective m n false false p q k l e = (decimal_injective_wide m n (omega arith) (omega arith) e, refl)

-- a sealed packet as it is read
sealed_parts : (space : SpaceId) (number epoch : ℕ) (early : Bool) (fs : List FrameValue) (r : List ℕ) → sealed_text space number epoch early fs ++ r
    ≡ codes "seal " ++ (space_name space ++ 32 ∷ (decimal number ++ 32 ∷ (epoch_text epoch early ++ (frames_text fs ++ 10 ∷ r))))
unfolding sealed_text packet_text
sealed_parts space number epoch early fs r = simp append_assoc

all_told : (fs : List FrameValue) → (space : SpaceId) (number epoch : ℕ) (early : Bool) → IsDeedInRange (deed.Sealed space number epoch early fs) → IsDeedPlain (deed.Sealed space number epoch early fs) → All IsTold fs
all_told fs space number epoch early p k = λ i d h. record { fits = k.1 i d h; bytes = p.3 i d h }

sealed_back : (space space' : SpaceId) (m m' n n' : ℕ) (early early' : Bool) (fs gs : List FrameValue) (r s : List ℕ)
    → IsDeedInRange (deed.Sealed space m n early fs) → IsDeedInRange (deed.Sealed space' m' n' early' gs)
    → IsDeedPlain (deed.Sealed space m n early fs) → IsDeedPlain (deed.Sealed space' m' n' early' gs)
    → sealed_text space m n early fs ++ r ≡ sealed_text space' m' n' early' gs ++ s
    → (deed.Sealed space m n early fs ≡ deed.Sealed space' m' n' early' gs) × (r ≡ s)
sealed_back space space' m m' n n' early early' fs gs r s p q k l e =
    let parts = sym (sealed_parts space m n early fs r) ∙ e ∙ sealed_parts space' m' n' early' gs s in
    let first = token_back (space_name space) (space_name space') 32 32 _ _ (space_is_token space) (space_is_token space') refl refl (ap (drop 5) parts) in
    let number = number_back m m' 32 32 _ _ (omega arith) (omega arith) refl refl (ap (drop 1) first.1) in
    let left = frames_mark fs r in
    let right = frames_mark gs s in
    let there : epoch_text n early ++ left.0 ∷ left.1 ≡ epoch_text n' early' ++ right.0 ∷ right.1 = rw (← left.3, ← right.3) (ap (drop 1) number.1) in
    let token = token_back (epoch_text n early) (epoch_text n' early') left.0 right.0 left.1 right.1 (epoch_is_token n early p.1) (epoch_is_token n' early' q.1) left.2 right.2 there in
    let epoch = epoch_injective n n' early early' p.1 q.1 k.0 l.0 token.0 in
    let frames = frames_back fs gs r s p.2 q.2 (all_told fs space m n early p k) (all_told gs space' m' n' early' q l) (left.3 ∙ token.1 ∙ sym right.3) in
    (same (space_injective space space' first.0) number.0 epoch.0 epoch.1 frames.0, frames.1)
  where
    same : space ≡ space' → m ≡ m' → n ≡ n' → early ≡ early' → fs ≡ gs → deed.Sealed space m n early fs ≡ deed.Sealed space' m' n' early' gs
    same a b c d e = cc

-- ---- packets that came

piece_parts : (space : Option SpaceId) (number : Option ℕ) (verdict : Verdict) (r : List ℕ) → piece_text space number verdict ++ r
    ≡ codes "piece " ++ (option_space_name space ++ 32 ∷ (number_or_dash number ++ 32 ∷ (verdict_name verdict ++ 10 ∷ r)))
unfolding piece_text
piece_parts space number verdict r = simp append_assoc

piece_back : (space space' : Option SpaceId) (m n : Option ℕ) (u v : Verdict) (r s : List ℕ) → IsOptionInRange m → IsOptionInRange n
    → piece_text space m u ++ r ≡ piece_text space' n v ++ s → (deed.Piece space m u ≡ deed.Piece space' n v) × (r ≡ s)
piece_back space space' m n u v r s p q e =
    let parts = sym (piece_parts space m u r) ∙ e ∙ piece_parts space' n v s in
    let first = token_back (option_space_name space) (option_space_name space') 32 32 _ _ (option_space_is_token space) (option_space_is_token space') refl refl (ap (drop 6) parts) in
    let number = option_back m n 32 32 _ _ p q refl refl (ap (drop 1) first.1) in
    let verdict = token_back (verdict_name u) (verdict_name v) 10 10 r s (verdict_is_token u) (verdict_is_token v) refl refl (ap (drop 1) number.1) in
    (same (option_space_injective space space' first.0) number.0 (verdict_injective u v verdict.0), ap (drop 1) verdict.1)
  where
    same : space ≡ space' → m ≡ n → u ≡ v → deed.Piece space m u ≡ deed.Piece space' n v
    same a b c = cc

-- ---- what layers are given

named_parts : (body r : List ℕ) → named_text body ++ r ≡ given_name body ++ 47 ∷ (encode_lower body ++ r)
unfolding named_text
named_parts body r = simp append_assoc

named_back : (a b r s : List ℕ) → IsBytes a → IsBytes b → named_text a ++ 10 ∷ r ≡ named_text b ++ 10 ∷ s → (a ≡ b) × (r ≡ s)
named_back a b r s p q e =
    let parts = sym (named_parts a (10 ∷ r)) ∙ e ∙ named_parts b (10 ∷ s) in
    let named = token_back (given_name a) (given_name b) 47 47 _ _ (given_is_token a) (given_is_token b) refl refl parts in
    let body = bytes_back a b 10 10 r s p q refl refl (ap (drop 1) named.1) in
    (body.0, ap (drop 1) body.1)

-- where the layer is known
given_back : (layer : Layer) (a b r s : List ℕ) → IsBytes a → IsBytes b → given_text layer a ++ 10 ∷ r ≡ given_text layer b ++ 10 ∷ s → (a ≡ b) × (r ≡ s)
unfolding given_text
given_back Streams a b r s p q e = named_back a b r s p q e
given_back Recovery a b r s p q e = named_back a b r s p q e
given_back Session a b r s p q e =
    let body = bytes_back a b 10 10 r s p q refl refl e in
    (body.0, ap (drop 1) body.1)
given_back Ids a b r s p q e = named_back a b r s p q e
given_back Life a b r s p q e = named_back a b r s p q e
given_back Store a b r s p q e = named_back a b r s p q e

gave_parts : (layer : Layer) (body r : List ℕ) → gave_text layer body ++ r ≡ codes "gave " ++ (layer_name layer ++ 32 ∷ (given_text layer body ++ 10 ∷ r))
unfolding gave_text
gave_parts layer body r = simp append_assoc

gave_back : (x y : Layer) (a b r s : List ℕ) → IsBytes a → IsBytes b
    → gave_text x a ++ r ≡ gave_text y b ++ s → (deed.Gave x a ≡ deed.Gave y b) × (r ≡ s)
gave_back x y a b r s p q e =
    let parts = sym (gave_parts x a r) ∙ e ∙ gave_parts y b s in
    let layer = token_back (layer_name x) (layer_name y) 32 32 _ _ (layer_is_token x) (layer_is_token y) refl refl (ap (drop 5) parts) in
    let one : x ≡ y = layer_injective x y layer.0 in
    let other : given_text x b ++ 10 ∷ s ≡ given_text y b ++ 10 ∷ s = ap (λ (z : Layer). given_text z b ++ 10 ∷ s) one in
    let body = given_back x a b r s p q (ap (drop 1) layer.1 ∙ sym other) in
    (same one body.0, body.1)
  where
    same : x ≡ y → a ≡ b → deed.Gave x a ≡ deed.Gave y b
    same i j = cc

-- ---- deeds

-- the third letters differ
pub did_back : (a b : Did) (r s : List ℕ) → IsDeedInRange a × IsDeedPlain a → IsDeedInRange b × IsDeedPlain b → did_text a ++ r ≡ did_text b ++ s → (a ≡ b) × (r ≡ s)
unfolding did_text sealed_text piece_text gave_text
did_back (deed.Sealed space m n early fs) (deed.Sealed space' m' n' early' gs) r s p q e = sealed_back space space' m m' n n' early early' fs gs r s p.0 q.0 p.1 q.1 e
did_back (deed.Piece space m u) (deed.Piece space' n v) r s p q e = piece_back space space' m n u v r s p.0 q.0 e
did_back (deed.Gave x a) (deed.Gave y b) r s p q e = gave_back x y a b r s p.0 q.0 e
did_back (deed.Rose a) (deed.Rose b) r s p q e =
    let parts = simp append_assoc at e in
    let life = number_back a b 10 10 r s (omega arith) (omega arith) refl refl (ap (drop 5) parts) in
    (ap deed.Rose life.0, ap (drop 1) life.1)
did_back (deed.Lost a) (deed.Lost b) r s p q e =
    let parts = simp append_assoc at e in
    let reason = reason_back a b r s p.0 q.0 (ap (drop 5) parts) in
    (ap deed.Lost reason.0, reason.1)
did_back (deed.Quiet a) (deed.Quiet b) r s p q e =
    let parts = simp append_assoc at e in
    let quiet = token_back (quiet_name a) (quiet_name b) 10 10 r s (quiet_is_token a) (quiet_is_token b) refl refl (ap (drop 6) parts) in
    (ap deed.Quiet (quiet_injective a b quiet.0), ap (drop 1) quiet.1)
did_back _ _ r s p q e = absurd (omega (arith, ap (λ (a : List ℕ). get_or a 2 0) e))
