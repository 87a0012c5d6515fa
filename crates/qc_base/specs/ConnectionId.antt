-- Connection ids (RFC 9000, section 5.1): at most 20 bytes, kept in a field of 20
use Rattle.std.specs.Prelude.{◌≡◌, ℕ, ◌-◌, ◌≤◌, List, ◌++◌, length, take, drop, replicate, refl}
use Rattle.std.proofs.Common.{arith}
use Rattle.std.proofs.lemmas.List.{length-take-le, take-append-drop}
use Rattle.qc_base.specs.declared.ids.ConnectionId.TheInside.{Inside}

-- the bytes past the id are zeros
pub record IsPadded (id : Inside) : Type 0 where
  pub size : length id.bytes ≡ 20
  pub fits : id.len ≤ 20
  pub zeros : drop id.len id.bytes ≡ replicate (20 - id.len) 0

-- the id with these bytes
abbrev pub padded : List ℕ → Inside
padded bytes = record { len = length bytes; bytes = bytes ++ replicate (20 - length bytes) 0 }

-- an id is known by its bytes
pub padded-take : (id : Inside) → IsPadded id → padded (take id.len id.bytes) ≡ id
padded-take id h =
    let as_long : length (take id.len id.bytes) ≡ id.len = length-take-le id.len id.bytes (omega arith) in
    let whole : take id.len id.bytes ++ replicate (20 - id.len) 0 ≡ id.bytes =
    rw (← h.zeros) (take-append-drop id.len id.bytes) in
    rw (as_long, whole) refl
