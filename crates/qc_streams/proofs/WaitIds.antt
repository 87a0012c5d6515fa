-- Ids of streams that are opened, of one kind one behind the other
use Rattle.std.proofs.Common.{◌≡◌, ℕ, ◌+◌, ◌*◌, ◌/◌, ◌%◌, ◌<◌, ◌==◌, true, false, cond, ap, arith}
use Rattle.std.proofs.lemmas.Bool.Decides.{nat_tests}
use Rattle.qc_base.specs.declared.side.Dir.{Dir}
use Rattle.qc_base.specs.declared.side.Dir.TheVariants.{Bi, Uni}
use Rattle.qc_base.specs.declared.side.Side.{Side}
use Rattle.qc_base.specs.declared.side.Side.TheVariants.{Client, Server}
use Rattle.qc_base.specs.StreamId.{initiator_bit, stream_id}
use Rattle.qc_streams.specs.Streams.{dir_of, is_own}

-- the id with an index, of another id's kind
abbrev pub nth : ℕ → ℕ → ℕ
nth id index = 4 * index + id % 4

pub nth_index : (id index : ℕ) → nth id index / 4 ≡ index
nth_index id index = omega arith

nth_mod : (id index : ℕ) → nth id index % 2 ≡ id % 2
nth_mod id index = omega arith

nth_dir : (id index : ℕ) → nth id index / 2 % 2 ≡ id / 2 % 2
nth_dir id index = omega arith

pub nth_own : (side : Side) (id index : ℕ) → is_own side (nth id index) ≡ is_own side id
unfolding is_own
nth_own side id index = ap (λ (n : ℕ). n == initiator_bit side) (nth_mod id index)

pub nth_kind : (id index : ℕ) → dir_of (nth id index) ≡ dir_of id
unfolding dir_of
nth_kind id index = ap (λ (n : ℕ). cond (n == 0) Bi Uni) (nth_dir id index)

pub nth_self : (id : ℕ) → nth id (id / 4) ≡ id
nth_self id = omega arith

pub nth_apart : (id i j : ℕ) → i < j → (nth id i == nth id j) ≡ false
nth_apart id i j less = grind (arith, nat_tests)

pub own_id : (side : Side) (dir : Dir) (index : ℕ) → is_own side (stream_id side dir index) ≡ true
unfolding is_own
own_id Client Bi index = grind (arith, nat_tests)
own_id Client Uni index = grind (arith, nat_tests)
own_id Server Bi index = grind (arith, nat_tests)
own_id Server Uni index = grind (arith, nat_tests)

pub own_kind : (side : Side) (dir : Dir) (index : ℕ) → dir_of (stream_id side dir index) ≡ dir
unfolding dir_of
own_kind Client Bi index = let z : (4 * index + 2 * 0 + 0) / 2 % 2 ≡ 0 = omega arith in ap (λ (n : ℕ). cond (n == 0) Bi Uni) z
own_kind Client Uni index = let z : (4 * index + 2 * 1 + 0) / 2 % 2 ≡ 1 = omega arith in ap (λ (n : ℕ). cond (n == 0) Bi Uni) z
own_kind Server Bi index = let z : (4 * index + 2 * 0 + 1) / 2 % 2 ≡ 0 = omega arith in ap (λ (n : ℕ). cond (n == 0) Bi Uni) z
own_kind Server Uni index = let z : (4 * index + 2 * 1 + 1) / 2 % 2 ≡ 1 = omega arith in ap (λ (n : ℕ). cond (n == 0) Bi Uni) z

pub own_index : (side : Side) (dir : Dir) (index : ℕ) → stream_id side dir index / 4 ≡ index
own_index Client Bi index = omega arith
own_index Client Uni index = omega arith
own_index Server Bi index = omega arith
own_index Server Uni index = omega arith
