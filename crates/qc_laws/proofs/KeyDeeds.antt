-- What deeds tell of the 1-RTT keys' steps, one list behind another.
use Rattle.std.proofs.Common.{◌≡◌, ℕ, List, [], ◌∷◌, ◌++◌, refl, ap, sym, ◌∙◌, Bool, true, Option, if◌then◌else◌, append_assoc}
use Rattle.qc_base.specs.declared.side.SpaceId.{SpaceId}
use Rattle.qc_base.specs.declared.side.SpaceId.TheVariants.{«Data»}
use Rattle.qc_state.specs.declared.deeds.Did.{Did}
use Rattle.qc_state.specs.declared.deeds.Did.TheVariants as did
use Rattle.qc_state.specs.declared.deeds.Layer.TheVariants as layer
use Rattle.qc_state.specs.declared.deeds.Verdict.{Verdict}
use Rattle.qc_state.specs.declared.deeds.Verdict.TheVariants as verdict
use Rattle.qc_state.proofs.ReceivedMoves.{IsUnread}
use Rattle.qc_laws.specs.PieceLaws.{pieces_in}
use Rattle.qc_laws.specs.StreamLaws.{is_of}
use Rattle.qc_laws.specs.UpdateLaws.{acks_told, is_unsealed, sealed_here, sealed_under, unsealed_in, unsealed_number}
use Rattle.qc_laws.proofs.PieceLaws.{is_read}
use Rattle.qc_laws.proofs.StreamSteps.{last_of}

pub under_append : (ds es : List Did) → sealed_under (ds ++ es) ≡ sealed_under ds ++ sealed_under es
under_append [] es = refl
under_append (did.Sealed space n epoch early fs ∷ ds) es =
    ap (λ (l : List (ℕ × ℕ)). sealed_here space n epoch early ++ l) (under_append ds es) ∙ sym (append_assoc (sealed_here space n epoch early) (sealed_under ds) (sealed_under es))
under_append (d ∷ ds) es = under_append ds es

pub unsealed_append : (ds es : List Did) → unsealed_in (ds ++ es) ≡ unsealed_in ds ++ unsealed_in es
unsealed_append [] es = refl
unsealed_append (did.Piece space number v ∷ ds) es =
    ap (λ (l : List ℕ). unsealed_number space number v ++ l) (unsealed_append ds es) ∙ sym (append_assoc (unsealed_number space number v) (unsealed_in ds) (unsealed_in es))
unsealed_append (d ∷ ds) es = unsealed_append ds es

pub acks_append : (now : Bool) (ds es : List Did) → acks_told now (ds ++ es) ≡ acks_told now ds ++ acks_told (last_of «Data» now ds) es
acks_append now [] es = refl
acks_append now (did.Piece space number v ∷ ds) es = acks_append (is_of «Data» space) ds es
acks_append now (did.Gave layer.Recovery body ∷ ds) es =
    let front : List (List ℕ) = if now then body ∷ [] else [] in
    ap (λ (l : List (List ℕ)). front ++ l) (acks_append now ds es) ∙ sym (append_assoc front (acks_told now ds) (acks_told (last_of «Data» now ds) es))
acks_append now (did.Gave layer.Session body ∷ ds) es = acks_append now ds es
acks_append now (did.Gave layer.Life body ∷ ds) es = acks_append now ds es
acks_append now (did.Gave layer.Store body ∷ ds) es = acks_append now ds es
acks_append now (did.Gave layer.Ids body ∷ ds) es = acks_append now ds es
acks_append now (did.Gave layer.Streams body ∷ ds) es = acks_append now ds es
acks_append now (did.Sealed space n epoch early fs ∷ ds) es = acks_append now ds es
acks_append now (did.Rose life ∷ ds) es = acks_append now ds es
acks_append now (did.Lost why ∷ ds) es = acks_append now ds es
acks_append now (did.Quiet why ∷ ds) es = acks_append now ds es

-- deeds that tell of no packet which came tell of none that opened
pub no_pieces : (ds : List Did) → pieces_in ds ≡ [] → unsealed_in ds ≡ []
no_pieces [] h = refl
no_pieces (did.Piece space number v ∷ ds) h = absurd cc
no_pieces (did.Gave to body ∷ ds) h = no_pieces ds h
no_pieces (did.Sealed space n epoch early fs ∷ ds) h = no_pieces ds h
no_pieces (did.Rose life ∷ ds) h = no_pieces ds h
no_pieces (did.Lost why ∷ ds) h = no_pieces ds h
no_pieces (did.Quiet why ∷ ds) h = no_pieces ds h

-- a packet with such a verdict was opened
pub read_unsealed : (v : Verdict) → is_read v ≡ true → is_unsealed v ≡ true
read_unsealed verdict.Ignored h = h
read_unsealed verdict.Failure h = h
read_unsealed verdict.BadBits h = h
read_unsealed verdict.BadUpdate h = h
read_unsealed verdict.RetryTaken h = h
read_unsealed verdict.Versions h = h
read_unsealed verdict.Seen h = refl
read_unsealed verdict.ReadForClose h = refl
read_unsealed verdict.NumberOnly h = refl
read_unsealed verdict.AckOnly h = refl
read_unsealed verdict.Admitted h = refl

pub unread_none : (space : Option SpaceId) (number : Option ℕ) (v : Verdict) → IsUnread (did.Piece space number v) → unsealed_number space number v ≡ []
unread_none space number verdict.Ignored h = refl
unread_none space number verdict.Failure h = refl
unread_none space number verdict.BadBits h = refl
unread_none space number verdict.BadUpdate h = refl
unread_none space number verdict.Versions h = refl
unread_none space number _ h = absurd h
