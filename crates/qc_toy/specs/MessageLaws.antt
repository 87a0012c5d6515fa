-- What the messages' definitions keep.
use Rattle.std.specs.Prelude.{Bool, true, false, nat_lt, ◌==◌, cond, is_some, Option, Some, None}
use Rattle.std.proofs.Common.{◌≡◌, ℕ, zero, suc, ◌+◌, ◌*◌, ◌<◌, ◌≤◌, List, [], ◌∷◌, ◌++◌, length, take, drop, refl, ap, subst, arith, length-append, lit<, lit≤}
use Rattle.std.proofs.lemmas.List.{length-take, take-append-le, drop-append-le}
use Rattle.qc_toy.specs.declared.messages.Kind.{Kind}
use Rattle.qc_toy.specs.Messages.{Message, message, messages, message_then, message_by_length, first_message, first_body, body_of, refusal, has_form, kind_byte, unexpected_message, decode_error}

-- a message has at most 65538 bytes
pub length-message : (kind : Kind) (body : List ℕ) → length (message kind body) ≤ 65538
unfolding message
length-message kind body = omega (arith, length-take 65535 body)

-- and at least its head
pub message_begins : (kind : Kind) (body : List ℕ) → 0 < length (message kind body)
unfolding message
message_begins kind body = omega arith

none_some : {m : Message} → None ≡ Some m → ⊥
none_some e = cc

cond_some : (b : Bool) (x m : Message) → cond b None (Some x) ≡ Some m → (b ≡ false) × (x ≡ m)
cond_some true x m e = absurd (none_some e)
cond_some false x m e = (refl, cc)

by_length_stays : (k n : ℕ) (bytes more : List ℕ) (m : Message) → message_by_length k n bytes ≡ Some m
    → message_by_length k n (bytes ++ more) ≡ Some (record m { rest = m.rest ++ more })
by_length_stays k n bytes more m e =
    let s = cond_some (nat_lt (length bytes) n) (record { kind = k; body = take n bytes; rest = drop n bytes }) m e in
    let h : n ≤ length bytes = grind (arith, s.0) in
    let long : nat_lt (length (bytes ++ more)) n ≡ false = grind (arith, length-append bytes more) in
    rw (long, take-append-le n bytes more h, drop-append-le n bytes more h) (ap (λ (x : Message). Some (record x { rest = x.rest ++ more })) s.1)

-- a message that is whole stays so as more bytes come
pub first_message_stays : (bytes more : List ℕ) (m : Message) → first_message bytes ≡ Some m
    → first_message (bytes ++ more) ≡ Some (record m { rest = m.rest ++ more })
unfolding first_message
first_message_stays [] more m e = absurd (none_some e)
first_message_stays (k ∷ []) more m e = absurd (none_some e)
first_message_stays (k ∷ h ∷ []) more m e = absurd (none_some e)
first_message_stays (k ∷ h ∷ l ∷ bytes) more m e = by_length_stays k (h * 256 + l) bytes more m e

pub first_stays : (bytes more : List ℕ) → is_some (first_body bytes) ≡ true → is_some (first_body (bytes ++ more)) ≡ true
first_stays bytes more h = first_by (first_message bytes) refl h where
  first_by : (o : Option Message) → first_message bytes ≡ o → is_some (body_of o) ≡ true → is_some (first_body (bytes ++ more)) ≡ true
  first_by None e h = cc
  first_by (Some m) e h = rw (first_message_stays bytes more m e) refl

some_same : {x y : ℕ} → Some x ≡ Some y → x ≡ y
some_same e = cc

small_by : (b c : Bool) (rest : Option ℕ) (a : ℕ) → (rest ≡ Some a → a < 256) → cond b (cond c rest (Some decode_error)) (Some unexpected_message) ≡ Some a → a < 256
small_by false c rest a h e = subst (λ x. x < 256) (some_same e) (lit< tt)
small_by true false rest a h e = subst (λ x. x < 256) (some_same e) (lit< tt)
small_by true true rest a h e = h e

-- an alert is a byte
pub refusal_small : (kinds : List Kind) (ms : List Message) (a : ℕ) → refusal kinds ms ≡ Some a → a < 256
refusal_small kinds [] a e = cc
refusal_small [] (m ∷ ms) a e = subst (λ x. x < 256) (some_same e) (lit< tt)
refusal_small (kind ∷ kinds) (m ∷ ms) a e = small_by (m.kind == kind_byte kind) (has_form kind m.body) (refusal kinds ms) a (λ h. refusal_small kinds ms a h) e

grow_by : (n : ℕ) (bytes more : List ℕ) → ((rest : List ℕ) → length (messages n rest) ≤ length (messages n (rest ++ more))) → (o : Option Message) → first_message bytes ≡ o
    → length (message_then (λ rest. messages n rest) o) ≤ length (message_then (λ rest. messages n rest) (first_message (bytes ++ more)))
grow_by n bytes more ih None e = omega arith
grow_by n bytes more ih (Some m) e = rw (first_message_stays bytes more m e) (let l = ih m.rest in omega (arith, l))

-- whole messages don't become fewer as more bytes come
pub messages_grow : (n : ℕ) (bytes more : List ℕ) → length (messages n bytes) ≤ length (messages n (bytes ++ more))
unfolding messages
messages_grow zero bytes more = lit≤ tt
messages_grow (suc n) bytes more = grow_by n bytes more (λ rest. messages_grow n rest more) (first_message bytes) refl

-- where one message is whole, the first is
pub one_is_first : (bytes : List ℕ) → 1 ≤ length (messages 2 bytes) → is_some (first_body bytes) ≡ true
unfolding messages
one_is_first bytes h = by (first_message bytes) h where
  by : (o : Option Message) → 1 ≤ length (message_then (λ rest. messages 1 rest) o) → is_some (body_of o) ≡ true
  by None h = absurd (none h) where
    none : 1 ≤ 0 → ⊥
    none h = omega (arith, h)
  by (Some m) h = refl
