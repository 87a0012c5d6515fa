-- One value for each packet number space (RFC 9000, 12.3).
use Rattle.std.specs.Prelude.{Bool, true, false}
use Rattle.qc_base.specs.declared.side.SpaceId.{SpaceId}
use Rattle.qc_base.specs.declared.side.SpaceId.TheVariants.{Initial, Handshake, «Data»}
use Rattle.qc_state.specs.declared.spaces.Spaces.{Spaces}

-- the value of a space
abbrev pub space_of : {T : Type 0} → Spaces T → SpaceId → T
space_of v Initial = v.initial
space_of v Handshake = v.handshake
space_of v Data = v.application

-- the same with another value in one space
abbrev pub with_space : {T : Type 0} → Spaces T → SpaceId → T → Spaces T
with_space v Initial x = record v { initial = x }
with_space v Handshake x = record v { handshake = x }
with_space v Data x = record v { application = x }

-- whether two spaces are one
abbrev pub is_space : SpaceId → SpaceId → Bool
is_space Initial Initial = true
is_space Handshake Handshake = true
is_space Data Data = true
is_space _ _ = false
