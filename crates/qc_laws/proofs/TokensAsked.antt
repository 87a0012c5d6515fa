-- NEW_TOKENs that are asked for leave what else waits in each space.
use Rattle.std.proofs.Common.{◌≡◌, ℕ, refl, Option}
use Rattle.qc_base.specs.declared.side.SpaceId.{SpaceId}
use Rattle.qc_base.specs.declared.side.SpaceId.TheVariants.{Initial, Handshake, «Data»}
use Rattle.qc_state.specs.Spaces.{space_of}
use Rattle.qc_state.specs.Waiting.{tokens_asked}
use Rattle.qc_state.specs.declared.waiting.Waiting.{Waiting}

pub asked_acks : (id : SpaceId) (count : Option ℕ) (v : Waiting) → (space_of (tokens_asked count v).spaces id).acks ≡ (space_of v.spaces id).acks
asked_acks Initial count v = refl
asked_acks Handshake count v = refl
asked_acks Data count v = refl

pub asked_marks : (id : SpaceId) (count : Option ℕ) (v : Waiting) → (space_of (tokens_asked count v).spaces id).marks ≡ (space_of v.spaces id).marks
asked_marks Initial count v = refl
asked_marks Handshake count v = refl
asked_marks Data count v = refl

pub asked_crypto : (id : SpaceId) (count : Option ℕ) (v : Waiting) → (space_of (tokens_asked count v).spaces id).crypto ≡ (space_of v.spaces id).crypto
asked_crypto Initial count v = refl
asked_crypto Handshake count v = refl
asked_crypto Data count v = refl
