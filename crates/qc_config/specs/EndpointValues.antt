-- What contracts see of an endpoint's settings: their values. Times are in nanoseconds.
use Rattle.std.specs.Prelude.{ℕ, Bool, true, ◌&&◌, List, [], ◌∷◌, Option, None, nat_le}

-- an endpoint's settings, with reset keys of type H
pub record EndpointValues (H : Type 0) : Type 0 where
  pub reset_key : H
  pub max_udp_payload_size : ℕ
  pub supported_versions : List ℕ
  pub grease_quic_bit : Bool
  pub min_reset_interval : ℕ
  pub rng_seed : Option (List ℕ)

-- version 1, and the drafts 29 to 34
abbrev pub usual_versions : List ℕ
usual_versions = 1 ∷ 0xff00001d ∷ 0xff00001e ∷ 0xff00001f ∷ 0xff000020 ∷ 0xff000021 ∷ 0xff000022 ∷ []

-- the settings that an endpoint begins with
abbrev pub default_endpoint : {H : Type 0} → H → EndpointValues H
default_endpoint reset_key = record {
  reset_key = reset_key;
  max_udp_payload_size = 1472;
  supported_versions = usual_versions;
  grease_quic_bit = true;
  min_reset_interval = 20000000;
  rng_seed = None;
}

-- a size that each path takes at least, and that no UDP payload exceeds
abbrev pub is_payload_size : ℕ → Bool
is_payload_size n = nat_le 1200 n && nat_le n 65527
