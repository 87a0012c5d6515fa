-- Ends with keys mirror ends without: their logs are the same.
use Rattle.std.specs.Prelude.{Bool, true, false, Option, Some, None, is_some, nat_eq, slice_get, if◌then◌else◌, ◌≢◌}
use Rattle.std.proofs.Common.{◌≡◌, ℕ, zero, suc, ◌+◌, ◌<◌, ◌^◌, List, [], ◌∷◌, ◌++◌, length, refl, sym, ap, subst, ◌∙◌, arith, length-append}
use Rattle.std.proofs.lemmas.Bool.Decides.{nat_tests}
use Rattle.qc_base.specs.Time.{plus}
use Rattle.qc_base.specs.declared.side.Side.{Side}
use Rattle.qc_base.specs.declared.side.Side.TheVariants.{Client, Server}
use Rattle.qc_crypto.specs.Mates.{Sealing, Opening, OpensItsPackets, OpensNoPackets, ArePacketMates, ArePacketsApart}
use Rattle.qc_crypto.specs.declared.keys.KeyPair.{KeyPair}
use Rattle.qc_rings.specs.declared.sealed_packet.SealedPacket.{SealedPacket}
use Rattle.qc_rings.specs.declared.which.Which.{Which}
use Rattle.qc_rings.specs.declared.which.Which.TheVariants.{Current, Previous, Next}
use Rattle.qc_rings.specs.declared.pair.RingEvent.{RingEvent}
use Rattle.qc_rings.specs.declared.pair.RingEvent.TheVariants.{Seal, Update, Deliver, Discard}
use Rattle.qc_rings.specs.declared.pair.PairOutcome.TheVariants.{Sealed, Updated, Opened, Old, Discarded, Nothing}
use Rattle.qc_rings.specs.Ring.{Ring, Kept, Dropped, Open, Below, is_dropped, serves, same_phase, phase_of, which_named, may_update, has_floor, with_floor, new_epoch, after_opened, after_sealed, after_acked, after_update, after_discard, is_from}
use Rattle.qc_rings.specs.Keyed.{key_of, keyed_in, keyed_opened, keyed_sealed, keyed_acked, keyed_updated, keyed_discarded}
use Rattle.qc_rings.specs.TwoRings.{Packet, End, World, first_end, first_world, end_seals, end_sealed, end_updated, end_discarded, end_given, end_noted, end_opened, after_all_acked, is_of_epoch, opens, which_of, packet_at, happens, outcome, delivered, log_of}
use Rattle.qc_rings.specs.InStep.{FitsEnds}
use Rattle.qc_rings.specs.Party.{Party}
use Rattle.qc_rings.specs.Parties.{first_party, next_packet, party_sealed, party_updated, updated_outcome, party_discarded, discarded_outcome, opens_with, opened_by, names, party_opens, fresh_keys, keyed_acked_by, greatest_with, party_opened, party_given, given_outcome, Parties, first_parties, bytes_at, parties_after, parties_outcome, parties_log}
use Rattle.qc_rings.proofs.Greatest.{greatest, greatest-push, acked_by, acked_by_greatest}
use Rattle.qc_rings.proofs.Steps.{all_at}
use Rattle.qc_rings.proofs.StepLaws.{one_more}
use Rattle.qc_rings.proofs.Runs.{InStepWithin, happens_in_step, first_within}

-- a packet with its bytes, and the same without
pub record IsImage {P : Type 0} (seal : P → Sealing) (keys : ℕ → KeyPair P) (q : SealedPacket) (p : Packet) : Type 0 where
  pub number : q.number ≡ p.number
  pub epoch : q.epoch ≡ p.epoch
  pub carried : q.greatest ≡ greatest p.carried
  pub bytes : q.bytes ≡ seal (keys p.epoch).local p.number [] []

abbrev AreImages : {P : Type 0} → (P → Sealing) → (ℕ → KeyPair P) → List SealedPacket → List Packet → Type 0
AreImages seal keys [] [] = Unit {0}
AreImages seal keys [] (p ∷ ps) = ⊥
AreImages seal keys (q ∷ qs) [] = ⊥
AreImages seal keys (q ∷ qs) (p ∷ ps) = IsImage seal keys q p × AreImages seal keys qs ps

images-push : {P : Type 0} (seal : P → Sealing) (keys : ℕ → KeyPair P) (qs : List SealedPacket) (ps : List Packet) (q : SealedPacket) (p : Packet) → AreImages seal keys qs ps → IsImage seal keys q p → AreImages seal keys (qs ++ q ∷ []) (ps ++ p ∷ [])
images-push seal keys [] [] q p h i = (i, tt)
images-push seal keys [] (x ∷ ps) q p h i = absurd h
images-push seal keys (y ∷ qs) [] q p h i = absurd h
images-push seal keys (y ∷ qs) (x ∷ ps) q p h i = (h.0, images-push seal keys qs ps q p h.1 i)

abbrev BothAt : {P : Type 0} → (P → Sealing) → (ℕ → KeyPair P) → Option SealedPacket → Option Packet → Type 0
BothAt seal keys None None = Unit {0}
BothAt seal keys None (Some p) = ⊥
BothAt seal keys (Some q) None = ⊥
BothAt seal keys (Some q) (Some p) = IsImage seal keys q p

image_at : {P : Type 0} (seal : P → Sealing) (keys : ℕ → KeyPair P) (qs : List SealedPacket) (ps : List Packet) (k : ℕ) → AreImages seal keys qs ps → BothAt seal keys (slice_get qs k) (slice_get ps k)
image_at seal keys [] [] k h = tt
image_at seal keys [] (p ∷ ps) k h = absurd h
image_at seal keys (q ∷ qs) [] k h = absurd h
image_at seal keys (q ∷ qs) (p ∷ ps) zero h = h.0
image_at seal keys (q ∷ qs) (p ∷ ps) (suc k) h = image_at seal keys qs ps k h.1

-- the keys of the epoch before
pub record AreBefore {P : Type 0} (keys : ℕ → KeyPair P) (epoch : ℕ) (previous : Option (KeyPair P)) : Type 0 where
  pub before : ℕ
  pub one_less : before + 1 ≡ epoch
  pub are : previous ≡ Some (keys before)

-- an end with keys, and the same without
pub record Mirrors {P : Type 0} (seal : P → Sealing) (keys : ℕ → KeyPair P) (t : Party P) (e : End) : Type 0 where
  pub ring : t.keys.ring ≡ e.ring
  pub current : t.keys.current ≡ keys e.ring.epoch
  pub next : t.keys.next ≡ keys (plus e.ring.epoch 1)
  pub previous : is_dropped e.ring.kept ≡ false → AreBefore keys e.ring.epoch t.keys.previous
  pub sent : AreImages seal keys t.sent e.sent
  pub greatest_one : t.greatest ≡ greatest e.opened
  pub counted : length t.sent ≡ e.next

mirrors_first : {P : Type 0} (seal : P → Sealing) (keys : ℕ → KeyPair P) → Mirrors seal keys (first_party keys) first_end
mirrors_first seal keys = record { ring = refl; current = refl; next = refl; previous = λ e. cc; sent = tt; greatest_one = refl; counted = refl }

mirrors_sealed : {P : Type 0} (seal : P → Sealing) (keys : ℕ → KeyPair P) (t : Party P) (e : End) → Mirrors seal keys t e → Mirrors seal keys (party_sealed seal t) (end_sealed e)
unfolding party_sealed next_packet keyed_sealed end_seals after_sealed
mirrors_sealed {P} seal keys t e h =
    record {
      ring = ap (λ (r : Ring). after_sealed r (length t.sent)) h.ring ∙ ap (λ (n : ℕ). after_sealed e.ring n) h.counted;
      current = h.current;
      next = h.next;
      previous = h.previous;
      sent = images-push seal keys t.sent e.sent (next_packet seal t) (record { number = e.next; epoch = e.ring.epoch; carried = e.opened }) h.sent (record {
        number = h.counted;
        epoch = ap (λ (r : Ring). r.epoch) h.ring;
        carried = h.greatest_one;
        bytes = ap (λ (c : KeyPair P). seal c.local (length t.sent) [] []) h.current ∙ ap (λ (n : ℕ). seal (keys e.ring.epoch).local n [] []) h.counted;
      });
      greatest_one = h.greatest_one;
      counted = omega (arith, length-append t.sent (next_packet seal t ∷ []), h.counted);
    }

-- an update
two_more : (e : ℕ) → plus e 2 ≡ plus (plus e 1) 1
two_more e = omega arith

mirrors_risen : {P : Type 0} (seal : P → Sealing) (keys : ℕ → KeyPair P) (t : Party P) (e : End) → plus e.ring.epoch 1 ≡ e.ring.epoch + 1 → Mirrors seal keys t e
    → Mirrors seal keys (record t { keys = keyed_in (after_update t.keys.ring) t.keys (keys (plus t.keys.ring.epoch 2)) }) (record e { ring = after_update e.ring })
unfolding after_update
mirrors_risen {P} seal keys t e small h =
    let epoch : t.keys.ring.epoch ≡ e.ring.epoch = ap (λ (r : Ring). r.epoch) h.ring in
    record {
      ring = ap (λ (r : Ring). after_update r) h.ring;
      current = h.next;
      next = ap (λ (n : ℕ). keys (plus n 2)) epoch ∙ ap keys (two_more e.ring.epoch);
      previous = λ _. record { before = e.ring.epoch; one_less = sym small; are = ap (λ (c : KeyPair P). Some c) h.current };
      sent = h.sent;
      greatest_one = h.greatest_one;
      counted = h.counted;
    }

mirrors_updated : {P : Type 0} (seal : P → Sealing) (keys : ℕ → KeyPair P) (t : Party P) (e : End) → plus e.ring.epoch 1 ≡ e.ring.epoch + 1 → Mirrors seal keys t e
    → Mirrors seal keys (party_updated keys t) (end_updated e)
unfolding party_updated end_updated keyed_updated
mirrors_updated seal keys t e small h =
    let same : may_update t.keys.ring ≡ may_update e.ring = ap may_update h.ring in
    elim (may_update e.ring) as (λ b. may_update t.keys.ring ≡ b → Mirrors seal keys (record t { keys = if may_update t.keys.ring then keyed_in (after_update t.keys.ring) t.keys (keys (plus t.keys.ring.epoch 2)) else t.keys }) (if b then record e { ring = after_update e.ring } else e)) [
      | true ↦ λ y. rw y (mirrors_risen seal keys t e small h)
      | false ↦ λ y. rw y h
    ] same

updated_alike : {P : Type 0} (seal : P → Sealing) (keys : ℕ → KeyPair P) (t : Party P) (e : End) → Mirrors seal keys t e
    → updated_outcome t ≡ (if may_update e.ring then Updated (after_update e.ring).epoch else Nothing)
updated_alike seal keys t e h = ap (λ (r : Ring). if may_update r then Updated (after_update r).epoch else Nothing) h.ring

-- a discard
mirrors_dropped : {P : Type 0} (seal : P → Sealing) (keys : ℕ → KeyPair P) (t : Party P) (e : End) → Mirrors seal keys t e
    → Mirrors seal keys (record t { keys = record (t.keys) { ring = record (t.keys.ring) { kept = Dropped }; previous = None } }) (record e { ring = record (e.ring) { kept = Dropped } })
mirrors_dropped seal keys t e h =
    record { ring = ap (λ (r : Ring). record r { kept = Dropped }) h.ring; current = h.current; next = h.next; previous = λ y. cc; sent = h.sent; greatest_one = h.greatest_one; counted = h.counted }

mirrors_discarded : {P : Type 0} (seal : P → Sealing) (keys : ℕ → KeyPair P) (t : Party P) (e : End) → Mirrors seal keys t e → Mirrors seal keys (party_discarded t) (end_discarded e)
unfolding party_discarded keyed_discarded end_discarded after_discard
mirrors_discarded seal keys t e h =
    let same : has_floor t.keys.ring.kept ≡ has_floor e.ring.kept = ap (λ (r : Ring). has_floor r.kept) h.ring in
    elim (has_floor e.ring.kept) as (λ b. has_floor t.keys.ring.kept ≡ b → Mirrors seal keys (record t { keys = (if has_floor t.keys.ring.kept then record (t.keys) { ring = (if has_floor t.keys.ring.kept then record (t.keys.ring) { kept = Dropped } else t.keys.ring); previous = None } else t.keys) }) (record e { ring = (if b then record (e.ring) { kept = Dropped } else e.ring) })) [
      | true ↦ λ y. rw y (mirrors_dropped seal keys t e h)
      | false ↦ λ y. rw y h
    ] same

discarded_alike : {P : Type 0} (seal : P → Sealing) (keys : ℕ → KeyPair P) (t : Party P) (e : End) → Mirrors seal keys t e
    → discarded_outcome t ≡ (if has_floor e.ring.kept then Discarded else Nothing)
discarded_alike seal keys t e h = ap (λ (r : Ring). if has_floor r.kept then Discarded else Nothing) h.ring

-- what one end seals with its keys, the other opens by the epoch alone
pub record AreLawful {P : Type 0} (seal : P → Sealing) (opening : P → Opening) (from to : ℕ → KeyPair P) : Type 0 where
  pub mates : (epoch : ℕ) → OpensItsPackets (seal (from epoch).local) (opening (to epoch).remote)
  pub apart : (one another : ℕ) → one < 2 ^ 64 → another < 2 ^ 64 → one ≢ another → OpensNoPackets (seal (from one).local) (opening (to another).remote)

-- the test of a packet by the keys of an epoch
tried : {P : Type 0} (seal : P → Sealing) (opening : P → Opening) (from to : ℕ → KeyPair P) (q : SealedPacket) (p : Packet) (epoch : ℕ) → AreLawful seal opening from to
    → p.epoch < 2 ^ 64 → epoch < 2 ^ 64 → IsImage seal from q p → opens_with (opening (to epoch).remote) q ≡ nat_eq p.epoch epoch
unfolding opens_with
tried {P} seal opening from to q p epoch lawful small_one small_two i =
    let bytes : opening (to epoch).remote q.number [] q.bytes ≡ opening (to epoch).remote p.number [] (seal (from p.epoch).local p.number [] []) =
    ap (λ (n : ℕ). opening (to epoch).remote n [] q.bytes) i.number ∙ ap (λ (b : List ℕ). opening (to epoch).remote p.number [] b) i.bytes in
    elim (nat_eq p.epoch epoch) as (λ b. nat_eq p.epoch epoch ≡ b → is_some (opening (to epoch).remote q.number [] q.bytes) ≡ b) [
      | true ↦ λ y.
          let same : p.epoch ≡ epoch = grind (arith, nat_tests) in
          let opened : opening (to epoch).remote p.number [] (seal (from epoch).local p.number [] []) ≡ Some [] = (lawful.mates epoch).same p.number [] [] in
          rw (bytes, same, opened) refl
      | false ↦ λ y.
          let differ : p.epoch ≢ epoch = λ e. grind (arith, nat_tests) in
          rw (bytes, (lawful.apart p.epoch epoch small_one small_two differ).none p.number p.number [] []) refl
    ] refl

-- a packet names the same keys at both
named_alike : {P : Type 0} (seal : P → Sealing) (from to : ℕ → KeyPair P) (t : Party P) (e : End) (q : SealedPacket) (p : Packet) → Mirrors seal to t e → IsImage seal from q p → names t q ≡ which_of e p
named_alike seal from to t e q p h i =
    ap (λ (r : Ring). which_named r (phase_of q.epoch) q.number) h.ring
    ∙ ap (λ (n : ℕ). which_named e.ring (phase_of n) q.number) i.epoch
    ∙ ap (λ (n : ℕ). which_named e.ring (phase_of p.epoch) n) i.number

previous_kept : (r : Ring) (phase : Bool) (n : ℕ) → which_named r phase n ≡ Previous → is_dropped r.kept ≡ false
unfolding which_named
previous_kept r phase n e =
    elim (same_phase phase (phase_of r.epoch)) as (λ b. (if b then Current else (if serves r.kept n then Previous else Next)) ≡ Previous → is_dropped r.kept ≡ false) [
      | true ↦ λ y. cc
      | false ↦ λ y. elim r.kept as (λ k. (if serves k n then Previous else Next) ≡ Previous → is_dropped k ≡ false) [
        | Dropped ↦ λ z. cc
        | Open ↦ λ z. refl
        | Below f ↦ λ z. refl
      ] y
    ] e

one_before : (a b e : ℕ) → b + 1 ≡ e → nat_eq a b ≡ nat_eq (a + 1) e
one_before a b e h =
    elim (nat_eq a b) as (λ t. nat_eq a b ≡ t → t ≡ nat_eq (a + 1) e) [
      | true ↦ λ y. grind (arith, nat_tests)
      | false ↦ λ y. grind (arith, nat_tests)
    ] refl

opened_alike_by : {P : Type 0} (seal : P → Sealing) (opening : P → Opening) (from to : ℕ → KeyPair P) (t : Party P) (e : End) (q : SealedPacket) (p : Packet) (w : Which) → AreLawful seal opening from to
    → p.epoch < 2 ^ 64 → e.ring.epoch + 1 < 2 ^ 64 → Mirrors seal to t e → IsImage seal from q p → which_of e p ≡ w → opened_by opening (key_of t.keys w) q ≡ is_of_epoch e.ring w p.epoch
opened_alike_by {P} seal opening from to t e q p Current lawful sent small h i named =
    ap (λ (c : KeyPair P). opens_with (opening c.remote) q) h.current ∙ tried seal opening from to q p e.ring.epoch lawful sent (omega arith) i
opened_alike_by {P} seal opening from to t e q p Next lawful sent small h i named =
    ap (λ (c : KeyPair P). opens_with (opening c.remote) q) h.next ∙ tried seal opening from to q p (plus e.ring.epoch 1) lawful sent (omega arith) i
    ∙ ap (λ (n : ℕ). nat_eq p.epoch n) (one_more e.ring.epoch small)
opened_alike_by {P} seal opening from to t e q p Previous lawful sent small h i named =
    let b : AreBefore to e.ring.epoch t.keys.previous = h.previous (previous_kept e.ring (phase_of p.epoch) p.number named) in
    ap (λ (o : Option (KeyPair P)). opened_by opening o q) b.are ∙ tried seal opening from to q p b.before lawful sent (omega (arith, b.one_less)) i
    ∙ one_before p.epoch b.before e.ring.epoch b.one_less

opened_alike : {P : Type 0} (seal : P → Sealing) (opening : P → Opening) (from to : ℕ → KeyPair P) (t : Party P) (e : End) (q : SealedPacket) (p : Packet) → AreLawful seal opening from to
    → p.epoch < 2 ^ 64 → e.ring.epoch + 1 < 2 ^ 64 → Mirrors seal to t e → IsImage seal from q p → party_opens opening t q ≡ opens e p
unfolding party_opens opens
opened_alike seal opening from to t e q p lawful sent small h i =
    ap (λ (w : Which). opened_by opening (key_of t.keys w) q) (named_alike seal from to t e q p h i)
    ∙ opened_alike_by seal opening from to t e q p (which_of e p) lawful sent small h i refl

-- the greatest number opened
greatest_alike : (o : Option ℕ) (ns : List ℕ) (m n : ℕ) → o ≡ greatest ns → m ≡ n → Some (greatest_with o m) ≡ greatest (ns ++ n ∷ [])
greatest_alike o ns m n e f = ap (λ (x : Option ℕ). Some (greatest_with x m)) e ∙ ap (λ (k : ℕ). Some (greatest_with (greatest ns) k)) f ∙ sym (greatest-push ns n)

-- a packet opened by these keys
dropped_before_floor : (k : Kept) (n : ℕ) → is_dropped (with_floor k n) ≡ false → is_dropped k ≡ false
dropped_before_floor Dropped n e = e
dropped_before_floor Open n e = refl
dropped_before_floor (Below f) n e = refl

abbrev party_noted : {P : Type 0} → (ℕ → KeyPair P) → Party P → Which → SealedPacket → Party P
party_noted keys t w q = record t { keys = keyed_opened t.keys w q.number (fresh_keys keys t.keys.ring.epoch w); greatest = Some (greatest_with t.greatest q.number) }

mirrors_noted : {P : Type 0} (seal : P → Sealing) (from keys : ℕ → KeyPair P) (t : Party P) (e : End) (q : SealedPacket) (p : Packet) (w : Which) → plus e.ring.epoch 1 ≡ e.ring.epoch + 1
    → Mirrors seal keys t e → IsImage seal from q p → Mirrors seal keys (party_noted keys t w q) (end_noted e w p.number)
unfolding keyed_opened after_opened
mirrors_noted {P} seal from keys t e q p Current small h i =
    record {
      ring = ap (λ (r : Ring). record r { kept = with_floor r.kept q.number }) h.ring ∙ ap (λ (n : ℕ). record (e.ring) { kept = with_floor e.ring.kept n }) i.number;
      current = h.current;
      next = h.next;
      previous = λ y. h.previous (dropped_before_floor e.ring.kept p.number y);
      sent = h.sent;
      greatest_one = greatest_alike t.greatest e.opened q.number p.number h.greatest_one i.number;
      counted = h.counted;
    }
mirrors_noted {P} seal from keys t e q p Previous small h i =
    record { ring = h.ring; current = h.current; next = h.next; previous = h.previous; sent = h.sent; greatest_one = greatest_alike t.greatest e.opened q.number p.number h.greatest_one i.number; counted = h.counted }
mirrors_noted {P} seal from keys t e q p Next small h i =
    let epoch : t.keys.ring.epoch ≡ e.ring.epoch = ap (λ (r : Ring). r.epoch) h.ring in
    record {
      ring = ap (λ (r : Ring). new_epoch r (Below q.number) true) h.ring ∙ ap (λ (n : ℕ). new_epoch e.ring (Below n) true) i.number;
      current = h.next;
      next = ap (λ (n : ℕ). keys (plus n 2)) epoch ∙ ap keys (two_more e.ring.epoch);
      previous = λ _. record { before = e.ring.epoch; one_less = sym small; are = ap (λ (c : KeyPair P). Some c) h.current };
      sent = h.sent;
      greatest_one = greatest_alike t.greatest e.opened q.number p.number h.greatest_one i.number;
      counted = h.counted;
    }

-- an acknowledgement
mirrors_acked : {P : Type 0} (seal : P → Sealing) (keys : ℕ → KeyPair P) (t : Party P) (e : End) (o : Option ℕ) → Mirrors seal keys t e
    → Mirrors seal keys (record t { keys = keyed_acked_by t.keys o }) (record e { ring = acked_by e.ring o })
unfolding keyed_acked after_acked
mirrors_acked seal keys t e None h = record { ring = h.ring; current = h.current; next = h.next; previous = h.previous; sent = h.sent; greatest_one = h.greatest_one; counted = h.counted }
mirrors_acked seal keys t e (Some n) h =
    elim (is_from e.ring.first n) as (λ b. after_acked e.ring n ≡ (if b then record (e.ring) { acked = true } else e.ring) → Mirrors seal keys (record t { keys = keyed_acked t.keys n }) (record e { ring = (if b then record (e.ring) { acked = true } else e.ring) })) [
      | true ↦ λ y. record { ring = ap (λ (r : Ring). after_acked r n) h.ring ∙ y; current = h.current; next = h.next; previous = h.previous; sent = h.sent; greatest_one = h.greatest_one; counted = h.counted }
      | false ↦ λ y. record { ring = ap (λ (r : Ring). after_acked r n) h.ring ∙ y; current = h.current; next = h.next; previous = h.previous; sent = h.sent; greatest_one = h.greatest_one; counted = h.counted }
    ] refl

mirrors_opened : {P : Type 0} (seal : P → Sealing) (from keys : ℕ → KeyPair P) (t : Party P) (e : End) (q : SealedPacket) (p : Packet) (w : Which) → plus e.ring.epoch 1 ≡ e.ring.epoch + 1
    → Mirrors seal keys t e → IsImage seal from q p → Mirrors seal keys (party_opened keys t w q) (end_opened e w p)
unfolding party_opened end_opened
mirrors_opened {P} seal from keys t e q p w small h i =
    let one : Mirrors seal keys (party_noted keys t w q) (end_noted e w p.number) = mirrors_noted seal from keys t e q p w small h i in
    let two : Mirrors seal keys (record (party_noted keys t w q) { keys = keyed_acked_by (party_noted keys t w q).keys q.greatest }) (record (end_noted e w p.number) { ring = acked_by (after_opened e.ring w p.number) q.greatest }) =
    mirrors_acked seal keys (party_noted keys t w q) (end_noted e w p.number) q.greatest one in
    let same : acked_by (after_opened e.ring w p.number) q.greatest ≡ after_all_acked (after_opened e.ring w p.number) p.carried =
    ap (λ (o : Option ℕ). acked_by (after_opened e.ring w p.number) o) i.carried ∙ sym (acked_by_greatest (after_opened e.ring w p.number) p.carried) in
    subst (λ (r : Ring). Mirrors seal keys (party_opened keys t w q) (record (end_noted e w p.number) { ring = r })) same two

-- a packet that reaches an end
mirrors_given_one : {P : Type 0} (seal : P → Sealing) (opening : P → Opening) (from to : ℕ → KeyPair P) (t : Party P) (e : End) (q : SealedPacket) (p : Packet) → AreLawful seal opening from to
    → p.epoch < 2 ^ 64 → e.ring.epoch + 1 < 2 ^ 64 → Mirrors seal to t e → IsImage seal from q p → Mirrors seal to (party_given opening to t (Some q)) (end_given e (Some p))
unfolding party_given end_given
mirrors_given_one seal opening from to t e q p lawful sent small h i =
    let same : party_opens opening t q ≡ opens e p = opened_alike seal opening from to t e q p lawful sent small h i in
    let which : names t q ≡ which_of e p = named_alike seal from to t e q p h i in
    elim (opens e p) as (λ b. party_opens opening t q ≡ b → Mirrors seal to (if party_opens opening t q then party_opened to t (names t q) q else t) (if b then end_opened e (which_of e p) p else e)) [
      | true ↦ λ y. rw (y, which) (mirrors_opened seal from to t e q p (which_of e p) (one_more e.ring.epoch small) h i)
      | false ↦ λ y. rw y h
    ] same

mirrors_given : {P : Type 0} (seal : P → Sealing) (opening : P → Opening) (from to : ℕ → KeyPair P) (t : Party P) (e : End) (o : Option SealedPacket) (m : Option Packet) → AreLawful seal opening from to
    → ((p : Packet) → m ≡ Some p → p.epoch < 2 ^ 64) → e.ring.epoch + 1 < 2 ^ 64 → Mirrors seal to t e → BothAt seal from o m → Mirrors seal to (party_given opening to t o) (end_given e m)
mirrors_given seal opening from to t e None None lawful sent small h i = unfold party_given end_given in h
mirrors_given seal opening from to t e None (Some p) lawful sent small h i = absurd i
mirrors_given seal opening from to t e (Some q) None lawful sent small h i = absurd i
mirrors_given seal opening from to t e (Some q) (Some p) lawful sent small h i = mirrors_given_one seal opening from to t e q p lawful (sent p refl) small h i

given_alike : {P : Type 0} (seal : P → Sealing) (opening : P → Opening) (from to : ℕ → KeyPair P) (t : Party P) (e : End) (o : Option SealedPacket) (m : Option Packet) → AreLawful seal opening from to
    → ((p : Packet) → m ≡ Some p → p.epoch < 2 ^ 64) → e.ring.epoch + 1 < 2 ^ 64 → Mirrors seal to t e → BothAt seal from o m → given_outcome opening t o ≡ delivered e m
given_alike seal opening from to t e None None lawful sent small h i = refl
given_alike seal opening from to t e None (Some p) lawful sent small h i = absurd i
given_alike seal opening from to t e (Some q) None lawful sent small h i = absurd i
given_alike seal opening from to t e (Some q) (Some p) lawful sent small h i = ap (λ (b : Bool). if b then Opened else Old) (opened_alike seal opening from to t e q p lawful (sent p refl) small h i)

-- both ends
record MirrorBoth {P : Type 0} (seal : P → Sealing) (keys : Side → ℕ → KeyPair P) (t : Parties P) (w : World) : Type 0 where
  client : Mirrors seal (keys Client) t.client w.client
  server : Mirrors seal (keys Server) t.server w.server

-- both ways
record AreSound {P : Type 0} (seal : P → Sealing) (opening : P → Opening) (keys : Side → ℕ → KeyPair P) : Type 0 where
  forth : AreLawful seal opening (keys Client) (keys Server)
  back : AreLawful seal opening (keys Server) (keys Client)

client_epoch : (n : ℕ) (w : World) (k : ℕ) → n < 2 ^ 64 → InStepWithin n w → (p : Packet) → packet_at w Client k ≡ Some p → p.epoch < 2 ^ 64
client_epoch n w k small h p at = let f : FitsEnds w.client w.server p = all_at (FitsEnds w.client w.server) w.client.sent k p h.step.sent_one at in omega (arith, f.past, h.client)

server_epoch : (n : ℕ) (w : World) (k : ℕ) → n < 2 ^ 64 → InStepWithin n w → (p : Packet) → packet_at w Server k ≡ Some p → p.epoch < 2 ^ 64
server_epoch n w k small h p at = let f : FitsEnds w.server w.client p = all_at (FitsEnds w.server w.client) w.server.sent k p h.step.sent_two at in omega (arith, f.past, h.server)

after_alike : {P : Type 0} (seal : P → Sealing) (opening : P → Opening) (keys : Side → ℕ → KeyPair P) (n : ℕ) (t : Parties P) (w : World) (v : RingEvent) → AreSound seal opening keys → n + 1 < 2 ^ 64 → InStepWithin n w
    → MirrorBoth seal keys t w → MirrorBoth seal keys (parties_after seal opening keys t v) (happens w v)
unfolding parties_after happens
after_alike seal opening keys n t w (Seal Client) sound small i h = record { client = mirrors_sealed seal (keys Client) t.client w.client h.client; server = h.server }
after_alike seal opening keys n t w (Seal Server) sound small i h = record { client = h.client; server = mirrors_sealed seal (keys Server) t.server w.server h.server }
after_alike seal opening keys n t w (Update Client) sound small i h =
    record { client = mirrors_updated seal (keys Client) t.client w.client (one_more w.client.ring.epoch (omega (arith, i.client))) h.client; server = h.server }
after_alike seal opening keys n t w (Update Server) sound small i h =
    record { client = h.client; server = mirrors_updated seal (keys Server) t.server w.server (one_more w.server.ring.epoch (omega (arith, i.server))) h.server }
after_alike seal opening keys n t w (Deliver Client k) sound small i h =
    record {
      client = h.client;
      server = mirrors_given seal opening (keys Client) (keys Server) t.server w.server (bytes_at t Client k) (packet_at w Client k) sound.forth (client_epoch n w k (omega arith) i) (omega (arith, i.server)) h.server
          (image_at seal (keys Client) t.client.sent w.client.sent k h.client.sent);
    }
after_alike seal opening keys n t w (Deliver Server k) sound small i h =
    record {
      client = mirrors_given seal opening (keys Server) (keys Client) t.client w.client (bytes_at t Server k) (packet_at w Server k) sound.back (server_epoch n w k (omega arith) i) (omega (arith, i.client)) h.client
          (image_at seal (keys Server) t.server.sent w.server.sent k h.server.sent);
      server = h.server;
    }
after_alike seal opening keys n t w (Discard Client) sound small i h = record { client = mirrors_discarded seal (keys Client) t.client w.client h.client; server = h.server }
after_alike seal opening keys n t w (Discard Server) sound small i h = record { client = h.client; server = mirrors_discarded seal (keys Server) t.server w.server h.server }

sealed_alike : {P : Type 0} (seal : P → Sealing) (keys : ℕ → KeyPair P) (t : Party P) (e : End) → Mirrors seal keys t e → Sealed (length t.sent) t.keys.ring.epoch ≡ Sealed e.next e.ring.epoch
sealed_alike seal keys t e h = ap (λ (n : ℕ). Sealed n t.keys.ring.epoch) h.counted ∙ ap (λ (r : Ring). Sealed e.next r.epoch) h.ring

outcome_alike : {P : Type 0} (seal : P → Sealing) (opening : P → Opening) (keys : Side → ℕ → KeyPair P) (n : ℕ) (t : Parties P) (w : World) (v : RingEvent) → AreSound seal opening keys → n + 1 < 2 ^ 64 → InStepWithin n w
    → MirrorBoth seal keys t w → parties_outcome opening t v ≡ outcome w v
unfolding parties_outcome outcome
outcome_alike seal opening keys n t w (Seal Client) sound small i h = sealed_alike seal (keys Client) t.client w.client h.client
outcome_alike seal opening keys n t w (Seal Server) sound small i h = sealed_alike seal (keys Server) t.server w.server h.server
outcome_alike seal opening keys n t w (Update Client) sound small i h = updated_alike seal (keys Client) t.client w.client h.client
outcome_alike seal opening keys n t w (Update Server) sound small i h = updated_alike seal (keys Server) t.server w.server h.server
outcome_alike seal opening keys n t w (Deliver Client k) sound small i h =
    given_alike seal opening (keys Client) (keys Server) t.server w.server (bytes_at t Client k) (packet_at w Client k) sound.forth (client_epoch n w k (omega arith) i) (omega (arith, i.server)) h.server
    (image_at seal (keys Client) t.client.sent w.client.sent k h.client.sent)
outcome_alike seal opening keys n t w (Deliver Server k) sound small i h =
    given_alike seal opening (keys Server) (keys Client) t.client w.client (bytes_at t Server k) (packet_at w Server k) sound.back (server_epoch n w k (omega arith) i) (omega (arith, i.client)) h.client
    (image_at seal (keys Server) t.server.sent w.server.sent k h.server.sent)
outcome_alike seal opening keys n t w (Discard Client) sound small i h = discarded_alike seal (keys Client) t.client w.client h.client
outcome_alike seal opening keys n t w (Discard Server) sound small i h = discarded_alike seal (keys Server) t.server w.server h.server

-- a list of events
log_alike : {P : Type 0} (seal : P → Sealing) (opening : P → Opening) (keys : Side → ℕ → KeyPair P) (vs : List RingEvent) (n : ℕ) (t : Parties P) (w : World) → AreSound seal opening keys → n + length vs < 2 ^ 64
    → InStepWithin n w → MirrorBoth seal keys t w → parties_log seal opening keys vs t ≡ log_of vs w
log_alike seal opening keys [] n t w sound small i h = refl
log_alike {P} seal opening keys (v ∷ vs) n t w sound small i h =
    let here : parties_outcome opening t v ≡ outcome w v = outcome_alike seal opening keys n t w v sound (omega arith) i h in
    let rest : parties_log seal opening keys vs (parties_after seal opening keys t v) ≡ log_of vs (happens w v) =
    log_alike seal opening keys vs (n + 1) (parties_after seal opening keys t v) (happens w v) sound (omega arith) (happens_in_step n w v (omega arith) i) (after_alike seal opening keys n t w v sound (omega arith) i h) in
    rw (here, rest) refl

-- with the keys of a source
pub source_log : {P : Type 0} (seal : P → Sealing) (opening : P → Opening) (keys : Side → ℕ → KeyPair P) (vs : List RingEvent)
    → ((epoch : ℕ) → ArePacketMates seal opening (keys Client epoch) (keys Server epoch))
    → ((one another : ℕ) → one < 2 ^ 64 → another < 2 ^ 64 → one ≢ another → ArePacketsApart seal opening (keys Client one) (keys Server another))
    → length vs < 2 ^ 64 → parties_log seal opening keys vs (first_parties keys) ≡ log_of vs first_world
source_log {P} seal opening keys vs mates apart small =
    let sound : AreSound seal opening keys = record {
      forth = record { mates = λ e. (mates e).opens.forth; apart = λ a b x y d. (apart a b x y d).forth };
      back = record { mates = λ e. (mates e).opens.back; apart = λ a b x y d. (apart b a y x (λ e. d (sym e))).back };
    } in
    log_alike seal opening keys vs 0 (first_parties keys) first_world sound (omega arith) first_within (record { client = mirrors_first seal (keys Client); server = mirrors_first seal (keys Server) })
