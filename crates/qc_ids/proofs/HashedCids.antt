-- Nonce and check bytes, put together and taken apart again
use Rattle.std.proofs.Common.{◌≡◌, ℕ, true, List, ◌++◌, length, arith, refl}
use Rattle.std.proofs.lemmas.List.{take_at, drop_at, length-append}
use Rattle.std.specs.Cmp.Lexicographic.{nat_list_eq_equiv}
use Rattle.qc_ids.specs.HashedCid.{check_bytes, hashed_cid, is_hashed_cid}

-- the check value has five bytes
pub length-check_bytes : (key : ℕ) (nonce : List ℕ) → length (check_bytes key nonce) ≡ 5
unfolding check_bytes
length-check_bytes key nonce = refl

pub length-hashed_cid : (key : ℕ) (nonce : List ℕ) → length nonce ≡ 3 → length (hashed_cid key nonce) ≡ 8
unfolding hashed_cid
length-hashed_cid key nonce h = omega (arith, length-append nonce (check_bytes key nonce), length-check_bytes key nonce)

-- an id that was made by a key is taken by it
pub hashed_is_hashed : (key : ℕ) (nonce : List ℕ) → length nonce ≡ 3 → is_hashed_cid key (hashed_cid key nonce) ≡ true
unfolding hashed_cid is_hashed_cid
hashed_is_hashed key nonce h =
    let len : length (nonce ++ check_bytes key nonce) ≡ 8 = omega (arith, length-append nonce (check_bytes key nonce), length-check_bytes key nonce) in
    rw (len, take_at nonce (check_bytes key nonce) 3 h, drop_at nonce (check_bytes key nonce) 3 h)
    (nat_list_eq_equiv.refl (check_bytes key nonce))

pub own_cid : (key : ℕ) (nonce id : List ℕ) → id ≡ hashed_cid key nonce → length nonce ≡ 3 → is_hashed_cid key id ≡ true
own_cid key nonce id e h = rw e (hashed_is_hashed key nonce h)
