-- How far a key is used behind a packet that it sealed, next to its limit.
use Rattle.std.proofs.Common.{◌≡◌, ◌⊎◌, inl, inr, ℕ, zero, suc, ◌+◌, ◌≤◌, ◌<◌, refl, sym, subst, true, false, Option, Some, None, arith}
use Rattle.std.proofs.lemmas.Bool.Decides.{nat_tests}
use Rattle.std.specs.Prelude.{Bool, IfSome, is_some, nat_le}
use Rattle.std.specs.Option.{option_map}
use Rattle.qc_base.specs.Time.{plus}
use Rattle.qc_base.specs.declared.side.SpaceId.TheVariants.{Initial}
use Rattle.qc_rings.specs.Keyed.{keyed_sealed}
use Rattle.qc_state.specs.declared.form.Form.{Form}
use Rattle.qc_state.specs.declared.form.Form.TheVariants as form
use Rattle.qc_state.specs.declared.keys.KeyGroup.{KeyGroup}
use Rattle.qc_state.specs.declared.keys.KeyUse.{KeyUse}
use Rattle.qc_state.specs.declared.keys.OneRttKeys.{OneRttKeys}
use Rattle.qc_state.specs.declared.keys.SpaceKeys.{SpaceKeys}
use Rattle.qc_state.specs.declared.life.ConnectionError.{ConnectionError}
use Rattle.qc_state.specs.declared.life.ConnectionError.TheVariants as lost
use Rattle.qc_state.specs.Keys.{count_one, epoch_in, has_keys_for, key_used, keys_dropped, plain_usage, reaches_limit, ring_usage, ring_used, usage_of}
use Rattle.qc_laws.specs.KeyLaws.{IsLimitReason, IsNearLimit, IsSpared, limit_reached}
use Rattle.qc_laws.proofs.KeyUses.{AreUsedSo}

-- a key that has sealed a packet may seal two more
abbrev pub Spared : KeyUse → Type 0
Spared u = 1 ≤ u.sealed → u.sealed + 2 ≤ u.limit

-- a key that may seal two packets at all may seal one more
abbrev pub Left : KeyUse → Type 0
Left u = 2 ≤ u.limit → u.sealed < u.limit

pub none_spared : (limit : ℕ) → Spared (record { sealed = 0; limit = limit })
none_spared limit some = absurd (omega (arith, some))

-- with two packets more, a key has sealed as many as it may
abbrev pub is_near : Option KeyUse → Bool
is_near o = reaches_limit 2 o

-- one packet more
abbrev used : Option KeyUse → Option KeyUse
used o = option_map (λ (u : KeyUse). record { sealed = plus u.sealed 1; limit = u.limit }) o

near_plus : (sealed limit : ℕ) → nat_le limit (sealed + 0) ≡ false → nat_le limit (sealed + 2) ≡ true → limit ≤ 18446744073709551615 → limit ≤ plus sealed 1 + 1
near_plus sealed limit more near small = grind (arith, nat_tests, more, near, small)

spare_plus : (sealed limit : ℕ) → nat_le limit (sealed + 2) ≡ false → plus sealed 1 + 2 ≤ limit
spare_plus sealed limit far = grind (arith, nat_tests, far)

spared_left : (sealed limit : ℕ) → (1 ≤ sealed → sealed + 2 ≤ limit) → 2 ≤ limit → sealed < limit
spared_left zero limit h two = omega (arith, two)
spared_left (suc n) limit h two = let far : suc n + 2 ≤ limit = h (omega arith) in omega (arith, far)

left_plus : (sealed limit : ℕ) → (1 ≤ sealed → sealed + 2 ≤ limit) → 2 ≤ limit → plus sealed 1 < limit
left_plus zero limit h two = omega (arith, two)
left_plus (suc n) limit h two = let far : suc n + 2 ≤ limit = h (omega arith) in omega (arith, far)

near_used : (o : Option KeyUse) → reaches_limit 0 o ≡ false → is_near o ≡ true → IsNearLimit (used o)
near_used None more near = absurd cc
near_used (Some u) more near = λ small. near_plus u.sealed u.limit more near small

spare_used : (o : Option KeyUse) → is_near o ≡ false → IsSpared (used o)
spare_used None far = tt
spare_used (Some u) far = λ some. spare_plus u.sealed u.limit far

left_used : (o : Option KeyUse) → IsSpared o → IfSome (used o) Left
left_used None h = tt
left_used (Some u) h = λ two. left_plus u.sealed u.limit h two

spare_left : (o : Option KeyUse) → IsSpared o → IfSome o Left
spare_left None h = tt
spare_left (Some u) h = λ two. spared_left u.sealed u.limit h two

-- a key that has sealed as many as it may
pub near_reached : (o : Option KeyUse) → reaches_limit 0 o ≡ true → IsNearLimit o
near_reached None h = absurd cc
near_reached (Some u) h = λ small. grind (arith, nat_tests, h)

reached_so : (sealed limit : ℕ) → limit ≤ sealed → nat_le limit (sealed + 0) ≡ true
reached_so sealed limit h = grind (arith, nat_tests, h)

unreached_so : (sealed limit : ℕ) → sealed < limit → nat_le limit (sealed + 0) ≡ false
unreached_so sealed limit h = grind (arith, nat_tests, h)

pub limit_reason : (why : ConnectionError) (o : Option KeyUse) → is_some o ≡ true → (reaches_limit 0 o ≡ true → why ≡ lost.TransportError limit_reached) → (reaches_limit 0 o ≡ false → why ≡ lost.TransportError limit_reached → ⊥) → IsLimitReason why o
limit_reason why None there more less = absurd cc
limit_reason why (Some u) there more less = (λ h. more (reached_so u.sealed u.limit h), λ h. less (unreached_so u.sealed u.limit h))

mapped_some : {A : Type 0} (f : A → KeyUse) (o : Option A) → is_some o ≡ true → is_some (option_map f o) ≡ true
mapped_some f None h = cc
mapped_some f (Some x) h = refl

module _ {H P : Type 0} where
  -- where there are keys, it is known how far they are used
  pub keyed_usage : (v : KeyGroup H P) (f : Form) → has_keys_for v f ≡ true → is_some (usage_of v f) ≡ true
  unfolding has_keys_for usage_of
  keyed_usage v form.Initial h = mapped_some plain_usage v.initial h
  keyed_usage v form.Handshake h = mapped_some plain_usage v.handshake h
  keyed_usage v form.Early h = cc
  keyed_usage v form.OneRtt h = mapped_some ring_usage v.«data» h

  plain_used : (o : Option (SpaceKeys H P)) → option_map plain_usage (count_one o) ≡ used (option_map plain_usage o)
  unfolding count_one
  plain_used None = refl
  plain_used (Some k) = refl

  ring_is_used : (n : ℕ) (o : Option (OneRttKeys H P)) → option_map ring_usage (ring_used n o) ≡ used (option_map ring_usage o)
  unfolding ring_used keyed_sealed
  ring_is_used n None = refl
  ring_is_used n (Some k) = refl

  -- the key of the packet's form
  used_same : (v : KeyGroup H P) (f : Form) (n : ℕ) → usage_of (key_used v f n) f ≡ used (usage_of v f)
  unfolding key_used usage_of
  used_same v form.Initial n = plain_used v.initial
  used_same v form.Handshake n = plain_used v.handshake
  used_same v form.Early n = refl
  used_same v form.OneRtt n = ring_is_used n v.«data»

  -- and others
  used_other : (v : KeyGroup H P) (f : Form) (n : ℕ) (other : Form) → (other ≡ f) ⊎ (usage_of (key_used v f n) other ≡ usage_of v other)
  unfolding key_used usage_of
  used_other v form.Initial n form.Initial = inl refl
  used_other v form.Handshake n form.Handshake = inl refl
  used_other v form.OneRtt n form.OneRtt = inl refl
  used_other v _ n _ = inr refl

  pub near_behind : (v : KeyGroup H P) (f : Form) (n : ℕ) → reaches_limit 0 (usage_of v f) ≡ false → is_near (usage_of v f) ≡ true → IsNearLimit (usage_of (key_used v f n) f)
  near_behind v f n more near = subst IsNearLimit (sym (used_same v f n)) (near_used (usage_of v f) more near)

  spared_by : (v : KeyGroup H P) (f : Form) (n : ℕ) (other : Form) → is_near (usage_of v f) ≡ false → AreUsedSo Spared v → (other ≡ f) ⊎ (usage_of (key_used v f n) other ≡ usage_of v other) → IsSpared (usage_of (key_used v f n) other)
  spared_by v f n other far h (inl same) = subst (λ (g : Form). IsSpared (usage_of (key_used v f n) g)) (sym same) (subst IsSpared (sym (used_same v f n)) (spare_used (usage_of v f) far))
  spared_by v f n other far h (inr same) = subst IsSpared (sym same) (h other)

  pub spared_behind : (v : KeyGroup H P) (f : Form) (n : ℕ) → is_near (usage_of v f) ≡ false → AreUsedSo Spared v → AreUsedSo Spared (key_used v f n)
  spared_behind v f n far h other = spared_by v f n other far h (used_other v f n other)

  others_by : (v : KeyGroup H P) (f : Form) (n : ℕ) (other : Form) → AreUsedSo Spared v → (other ≡ f) ⊎ (usage_of (key_used v f n) other ≡ usage_of v other) → (other ≡ f) ⊎ IsSpared (usage_of (key_used v f n) other)
  others_by v f n other h (inl same) = inl same
  others_by v f n other h (inr same) = inr (subst IsSpared (sym same) (h other))

  pub others_behind : (v : KeyGroup H P) (f : Form) (n : ℕ) → AreUsedSo Spared v → (other : Form) → (other ≡ f) ⊎ IsSpared (usage_of (key_used v f n) other)
  others_behind v f n h other = others_by v f n other h (used_other v f n other)

  left_by : (v : KeyGroup H P) (f : Form) (n : ℕ) (other : Form) → AreUsedSo Spared v → (other ≡ f) ⊎ (usage_of (key_used v f n) other ≡ usage_of v other) → IfSome (usage_of (key_used v f n) other) Left
  left_by v f n other h (inl same) =
      subst (λ (g : Form). IfSome (usage_of (key_used v f n) g) Left) (sym same) (subst (λ (o : Option KeyUse). IfSome o Left) (sym (used_same v f n)) (left_used (usage_of v f) (h f)))
  left_by v f n other h (inr same) = subst (λ (o : Option KeyUse). IfSome o Left) (sym same) (spare_left (usage_of v other) (h other))

  pub left_behind : (v : KeyGroup H P) (f : Form) (n : ℕ) → AreUsedSo Spared v → AreUsedSo Left (key_used v f n)
  left_behind v f n h other = left_by v f n other h (used_other v f n other)

  pub all_left : (v : KeyGroup H P) → AreUsedSo Spared v → AreUsedSo Left v
  all_left v h other = spare_left (usage_of v other) (h other)

  -- once the Initial space is left
  pub dropped_usage : (v : KeyGroup H P) (f : Form) → (f ≡ form.Initial → ⊥) → usage_of (keys_dropped v Initial) f ≡ usage_of v f
  unfolding keys_dropped usage_of
  dropped_usage v form.Initial other = absurd (other refl)
  dropped_usage v form.Handshake other = refl
  dropped_usage v form.Early other = refl
  dropped_usage v form.OneRtt other = refl

  pub dropped_epoch : (v : KeyGroup H P) (f : Form) → epoch_in (keys_dropped v Initial) f ≡ epoch_in v f
  unfolding keys_dropped epoch_in
  dropped_epoch v form.Initial = refl
  dropped_epoch v form.Handshake = refl
  dropped_epoch v form.Early = refl
  dropped_epoch v form.OneRtt = refl

  pub dropped_others : (v : KeyGroup H P) (f : Form) → ((other : Form) → (other ≡ f) ⊎ IsSpared (usage_of v other)) → (other : Form) → (other ≡ f) ⊎ IsSpared (usage_of (keys_dropped v Initial) other)
  unfolding keys_dropped usage_of
  dropped_others v f h form.Initial = inr tt
  dropped_others v f h form.Handshake = h form.Handshake
  dropped_others v f h form.Early = inr tt
  dropped_others v f h form.OneRtt = h form.OneRtt

  pub dropped_so : (Q : KeyUse → Type 0) (v : KeyGroup H P) → AreUsedSo Q v → AreUsedSo Q (keys_dropped v Initial)
  unfolding keys_dropped usage_of
  dropped_so Q v h form.Initial = tt
  dropped_so Q v h form.Handshake = h form.Handshake
  dropped_so Q v h form.Early = tt
  dropped_so Q v h form.OneRtt = h form.OneRtt
