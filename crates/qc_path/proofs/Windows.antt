-- A window keeps room for two datagrams, or for what it began with
use Rattle.std.proofs.Common.{ℕ, ◌*◌, ◌<◌, ◌≤◌, ◌^◌, Bool, true, false, arith}
use Rattle.std.specs.Prelude.{if◌then◌else◌, min}
use Rattle.qc_base.specs.Time.{plus}
use Rattle.qc_path.specs.NewReno.{HasRoom, Reno, grown_fast, grown_slowly, halved, new_reno, reno_acked, reno_congested, reno_resized}

choose : (first : ℕ) (b : Bool) (x y : Reno) → HasRoom first x → HasRoom first y → HasRoom first (if b then x else y)
choose first true x y a b = a
choose first false x y a b = b

fast_room : (first : ℕ) (bytes : ℕ) (r : Reno) → r.mtu < 2 ^ 16 → HasRoom first r → HasRoom first (grown_fast bytes r)
unfolding grown_fast
fast_room first bytes r small room = omega arith

slow_room : (first : ℕ) (bytes : ℕ) (r : Reno) → r.mtu < 2 ^ 16 → HasRoom first r → HasRoom first (grown_slowly bytes r)
unfolding grown_slowly
slow_room first bytes r small room =
    let grows : min (2 * r.mtu) first ≤ plus r.window r.mtu = omega arith in
    choose first _ _ _ grows room

pub acked_room : (first : ℕ) (sent bytes : ℕ) (limited : Bool) (r : Reno) → r.mtu < 2 ^ 16 → HasRoom first r → HasRoom first (reno_acked sent bytes limited r)
unfolding reno_acked
acked_room first sent bytes limited r small room = choose first _ _ _ room (choose first _ _ _ (fast_room first bytes r small room) (slow_room first bytes r small room))

either_size : (b : Bool) (least half : ℕ) → least ≤ half → least ≤ (if b then least else half)
either_size true least half le = omega arith
either_size false least half le = le

pub congested_room : (first : ℕ) (now sent : ℕ) (persistent : Bool) (r : Reno) → HasRoom first r → HasRoom first (reno_congested now sent persistent r)
unfolding reno_congested
congested_room first now sent persistent r room =
    let least : 2 * r.mtu ≤ halved r = omega arith in
    let fallen : 2 * r.mtu ≤ (if persistent then 2 * r.mtu else halved r) = either_size persistent (2 * r.mtu) (halved r) least in
    let kept : min (2 * r.mtu) first ≤ (if persistent then 2 * r.mtu else halved r) = omega (arith, fallen) in
    choose first _ _ _ kept room

pub resized_room : (mtu : ℕ) (r : Reno) → 2 * mtu ≤ (reno_resized mtu r).window
unfolding reno_resized
resized_room mtu r = omega arith

pub begun_room : (initial mtu : ℕ) → HasRoom initial (new_reno initial mtu)
unfolding new_reno
begun_room initial mtu = omega arith
