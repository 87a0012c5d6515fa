-- Each move keeps two ends in step: an update, a discard, a sealing, a packet opened by current, previous
-- or next keys, and an acknowledgement.
use Rattle.std.specs.Prelude.{Bool, true, false, max, Option, Some, None}
use Rattle.std.proofs.Common.{◌≡◌, ℕ, ◌+◌, ◌<◌, ◌≤◌, List, [], ◌∷◌, ◌++◌, refl, sym, subst, arith, All}
use Rattle.std.proofs.lemmas.List.Elements.{All-weaker, All-push}
use Rattle.qc_base.specs.Time.{plus}
use Rattle.qc_rings.specs.declared.which.Which.TheVariants.{Current, Previous, Next}
use Rattle.qc_rings.specs.Ring.{Kept, Dropped, Open, Below, with_floor, first_with, after_opened, after_sealed, after_update}
use Rattle.qc_rings.specs.TwoRings.{Packet, End, bound, end_seals, end_noted, end_risen, end_heard}
use Rattle.qc_rings.specs.InStep.{start_of, start, floor_bound, Fits, FitsEnds, Keeps, AreInStep}
use Rattle.qc_rings.specs.Ring.{is_open}

-- an update
abbrev pub updated : End → End
updated a = record a { ring = after_update a.ring }

update_sent : (e n s : ℕ) (k : Kept) (e' n' s' d : ℕ) (p : Packet) → d ≡ e + 1 → e' ≤ e + 1 → Fits e n s k e' n' s' p → Fits d n n Open e' n' s' p
update_sent e n s k e' n' s' d p r near f = grind arith

other_rose : (e n s : ℕ) (k : Kept) (e' n' s' d : ℕ) (p : Packet) → d ≡ e' + 1 → Fits e n s k e' n' s' p → Fits e n s k d n' n' p
other_rose e n s k e' n' s' d p r f = grind arith

update_one : (a b : End) → plus a.ring.epoch 1 ≡ a.ring.epoch + 1 → a.ring.kept ≡ Dropped → a.ring.acked ≡ true → Keeps a b → Keeps b a → Keeps (updated a) b
unfolding after_update
update_one a b r d k h i = grind arith

update_two : (a b : End) → plus a.ring.epoch 1 ≡ a.ring.epoch + 1 → a.ring.kept ≡ Dropped → a.ring.acked ≡ true → Keeps a b → Keeps b a → Keeps b (updated a)
unfolding after_update
update_two a b r d k h i = grind arith

pub update : (a b : End) → plus a.ring.epoch 1 ≡ a.ring.epoch + 1 → a.ring.kept ≡ Dropped → a.ring.acked ≡ true → AreInStep a b → AreInStep (updated a) b
unfolding after_update
update a b r d k h =
    record {
      sent_one = All-weaker (FitsEnds a b) (FitsEnds (updated a) b) (λ p f. update_sent a.ring.epoch a.next (start a) a.ring.kept b.ring.epoch b.next (start b) (plus a.ring.epoch 1) p r h.two.near f) a.sent h.sent_one;
      sent_two = All-weaker (FitsEnds b a) (FitsEnds b (updated a)) (λ p f. other_rose b.ring.epoch b.next (start b) b.ring.kept a.ring.epoch a.next (start a) (plus a.ring.epoch 1) p r f) b.sent h.sent_two;
      one = update_one a b r d k h.one h.two;
      two = update_two a b r d k h.one h.two;
    }

-- a discard
abbrev pub dropped : End → End
dropped a = record a { ring = record (a.ring) { kept = Dropped } }

drop_sent : (e n s : ℕ) (k : Kept) (e' n' s' : ℕ) (p : Packet) → is_open k ≡ false → Fits e n s k e' n' s' p → Fits e n s Dropped e' n' s' p
drop_sent e n s k e' n' s' p o f = grind arith

drop_one : (a b : End) → is_open a.ring.kept ≡ false → Keeps a b → Keeps b a → Keeps (dropped a) b
drop_one a b o h i = grind arith

drop_two : (a b : End) → is_open a.ring.kept ≡ false → Keeps a b → Keeps b a → Keeps b (dropped a)
drop_two a b o h i = grind arith

pub drop : (a b : End) → is_open a.ring.kept ≡ false → AreInStep a b → AreInStep (dropped a) b
drop a b o h =
    record {
      sent_one = All-weaker (FitsEnds a b) (FitsEnds (dropped a) b) (λ p f. drop_sent a.ring.epoch a.next (start a) a.ring.kept b.ring.epoch b.next (start b) p o f) a.sent h.sent_one;
      sent_two = h.sent_two;
      one = drop_one a b o h.one h.two;
      two = drop_two a b o h.one h.two;
    }

-- Where an epoch begins, before and after a packet with number n was sealed, whose numbers may go on from m.
record Begins (s t m n : ℕ) : Type 0 where
  within : t ≤ n
  later : s ≤ t
  same : (x : ℕ) → x < m → t ≤ x → s ≤ x
  under : (x : ℕ) → x < m → x < t → x < s

begins : (first : Option ℕ) (m n : ℕ) → start_of first m ≤ m → m ≤ n → Begins (start_of first m) (start_of (first_with first n) (n + 1)) m n
begins None m n s h = record { within = omega arith; later = omega arith; same = λ x l g. omega arith; under = λ x l g. omega arith }
begins (Some f) m n s h = record { within = omega arith; later = omega arith; same = λ x l g. omega arith; under = λ x l g. omega arith }

-- a sealing, with any number from the next one on, which carries any numbers up to the greatest opened
seal_sent : (e m s : ℕ) (k : Kept) (e' n' s' n t : ℕ) (p : Packet) → m ≤ n → Begins s t m n → Fits e m s k e' n' s' p → Fits e (n + 1) t k e' n' s' p
seal_sent e m s k e' n' s' n t p h b f = grind (arith, b.same p.number, b.under p.number)

other_sealed : (e n s : ℕ) (k : Kept) (e' m' s' n' t' : ℕ) (p : Packet) → m' ≤ n' → Begins s' t' m' n' → Fits e n s k e' m' s' p → Fits e n s k e' (n' + 1) t' p
other_sealed e n s k e' m' s' n' t' p h b f = grind arith

seal_one : (a b : End) (n : ℕ) (ns : List ℕ) → a.next ≤ n → Begins (start a) (start (end_seals a n ns)) a.next n → Keeps a b → Keeps b a → Keeps (end_seals a n ns) b
unfolding end_seals after_sealed
seal_one a b n ns h g k l = grind arith

seal_two : (a b : End) (n : ℕ) (ns : List ℕ) → a.next ≤ n → Begins (start a) (start (end_seals a n ns)) a.next n → Keeps a b → Keeps b a → Keeps b (end_seals a n ns)
unfolding end_seals after_sealed
seal_two a b n ns h g k l = grind arith

abbrev sealed_packet : End → ℕ → List ℕ → Packet
sealed_packet a n ns = record { number = n; epoch = a.ring.epoch; carried = ns }

seal_new : (a b : End) (n : ℕ) (ns : List ℕ) → Begins (start a) (start (end_seals a n ns)) a.next n → bound ns ≤ bound a.opened → Keeps a b → FitsEnds (end_seals a n ns) b (sealed_packet a n ns)
unfolding end_seals after_sealed
seal_new a b n ns g c k = grind arith

pub seal : (a b : End) (n : ℕ) (ns : List ℕ) → a.next ≤ n → bound ns ≤ bound a.opened → AreInStep a b → AreInStep (end_seals a n ns) b
unfolding end_seals after_sealed
seal a b n ns h c k =
    let g : Begins (start a) (start (end_seals a n ns)) a.next n = begins a.ring.first a.next n k.one.begun h in
    let old : All (FitsEnds (end_seals a n ns) b) a.sent = All-weaker (FitsEnds a b) (FitsEnds (end_seals a n ns) b) (λ p f. seal_sent a.ring.epoch a.next (start a) a.ring.kept b.ring.epoch b.next (start b) n (start (end_seals a n ns)) p h g f) a.sent k.sent_one in
    record {
      sent_one = All-push (FitsEnds (end_seals a n ns) b) a.sent (sealed_packet a n ns) old (seal_new a b n ns g c k.one);
      sent_two = All-weaker (FitsEnds b a) (FitsEnds b (end_seals a n ns)) (λ p f. other_sealed b.ring.epoch b.next (start b) b.ring.kept a.ring.epoch a.next (start a) n (start (end_seals a n ns)) p h g f) b.sent k.sent_two;
      one = seal_one a b n ns h g k.one k.two;
      two = seal_two a b n ns h g k.one k.two;
    }

-- a packet is opened by these keys
bound-push : (ns : List ℕ) (n : ℕ) → bound (ns ++ n ∷ []) ≡ max (bound ns) (n + 1)
bound-push [] n = omega arith
bound-push (m ∷ ns) n = omega (arith, bound-push ns n)

with_floor-closed : (k : Kept) (n : ℕ) → is_open (with_floor k n) ≡ false
with_floor-closed Dropped n = refl
with_floor-closed Open n = refl
with_floor-closed (Below f) n = refl

with_floor-bound : (k : Kept) (n : ℕ) → floor_bound (with_floor k n) ≤ max (floor_bound k) (n + 1)
with_floor-bound Dropped n = omega arith
with_floor-bound Open n = omega arith
with_floor-bound (Below f) n = omega arith

-- by the current ones
current_sent : (e n s : ℕ) (k l : Kept) (e' n' s' : ℕ) (p : Packet) → is_open l ≡ false → Fits e n s k e' n' s' p → Fits e n s l e' n' s' p
current_sent e n s k l e' n' s' p o f = grind arith

current_one : (a b : End) (p : Packet) → FitsEnds b a p → p.epoch ≡ a.ring.epoch → Keeps a b → Keeps b a → Keeps (end_noted a Current p.number) b
unfolding after_opened
current_one a b p f e h i =
    let o = with_floor-closed a.ring.kept p.number in
    let g = with_floor-bound a.ring.kept p.number in
    let c = bound-push a.opened p.number in
    grind arith

current_two : (a b : End) (p : Packet) → FitsEnds b a p → p.epoch ≡ a.ring.epoch → Keeps a b → Keeps b a → Keeps b (end_noted a Current p.number)
unfolding after_opened
current_two a b p f e h i = let o = with_floor-closed a.ring.kept p.number in grind arith

pub current : (a b : End) (p : Packet) → FitsEnds b a p → p.epoch ≡ a.ring.epoch → AreInStep a b → AreInStep (end_noted a Current p.number) b
unfolding after_opened
current a b p f e h =
    let o = with_floor-closed a.ring.kept p.number in
    record {
      sent_one = All-weaker (FitsEnds a b) (FitsEnds (end_noted a Current p.number) b) (λ q g. current_sent a.ring.epoch a.next (start a) a.ring.kept (with_floor a.ring.kept p.number) b.ring.epoch b.next (start b) q o g) a.sent h.sent_one;
      sent_two = h.sent_two;
      one = current_one a b p f e h.one h.two;
      two = current_two a b p f e h.one h.two;
    }

-- by the previous ones
previous_one : (a b : End) (p : Packet) → FitsEnds b a p → p.epoch + 1 ≡ a.ring.epoch → Keeps a b → Keeps b a → Keeps (end_noted a Previous p.number) b
unfolding after_opened
previous_one a b p f e h i = let c = bound-push a.opened p.number in grind arith

previous_two : (a b : End) (p : Packet) → FitsEnds b a p → p.epoch + 1 ≡ a.ring.epoch → Keeps a b → Keeps b a → Keeps b (end_noted a Previous p.number)
unfolding after_opened
previous_two a b p f e h i = grind arith

pub previous : (a b : End) (p : Packet) → FitsEnds b a p → p.epoch + 1 ≡ a.ring.epoch → AreInStep a b → AreInStep (end_noted a Previous p.number) b
unfolding after_opened
previous a b p f e h =
    record { sent_one = h.sent_one; sent_two = h.sent_two; one = previous_one a b p f e h.one h.two; two = previous_two a b p f e h.one h.two }

-- by the next ones
next_sent : (e n s : ℕ) (k l : Kept) (e' n' s' d : ℕ) (p : Packet) → d ≡ e + 1 → is_open l ≡ false → e' ≡ e + 1 → Fits e n s k e' n' s' p → Fits d n n l e' n' s' p
next_sent e n s k l e' n' s' d p r o g f = grind arith

next_one : (a b : End) (p : Packet) → plus a.ring.epoch 1 ≡ a.ring.epoch + 1 → FitsEnds b a p → p.epoch ≡ a.ring.epoch + 1 → Keeps a b → Keeps b a → Keeps (end_noted a Next p.number) b
unfolding after_opened
next_one a b p r f e h i = let c = bound-push a.opened p.number in grind arith

next_two : (a b : End) (p : Packet) → plus a.ring.epoch 1 ≡ a.ring.epoch + 1 → FitsEnds b a p → p.epoch ≡ a.ring.epoch + 1 → Keeps a b → Keeps b a → Keeps b (end_noted a Next p.number)
unfolding after_opened
next_two a b p r f e h i = grind arith

pub next : (a b : End) (p : Packet) → plus a.ring.epoch 1 ≡ a.ring.epoch + 1 → FitsEnds b a p → p.epoch ≡ a.ring.epoch + 1 → AreInStep a b → AreInStep (end_noted a Next p.number) b
unfolding after_opened
next a b p r f e h =
    let same : b.ring.epoch ≡ a.ring.epoch + 1 = omega (arith, f.past, e, h.two.near) in
    record {
      sent_one = All-weaker (FitsEnds a b) (FitsEnds (end_noted a Next p.number) b) (λ q g. next_sent a.ring.epoch a.next (start a) a.ring.kept (Below p.number) b.ring.epoch b.next (start b) (plus a.ring.epoch 1) q r refl same g) a.sent h.sent_one;
      sent_two = All-weaker (FitsEnds b a) (FitsEnds b (end_noted a Next p.number)) (λ q g. other_rose b.ring.epoch b.next (start b) b.ring.kept a.ring.epoch a.next (start a) (plus a.ring.epoch 1) q r g) b.sent h.sent_two;
      one = next_one a b p r f e h.one h.two;
      two = next_two a b p r f e h.one h.two;
    }

-- An acknowledgement changes one mark.
abbrev pub flagged : End → Bool → End
flagged a t = record a { ring = record (a.ring) { acked = t } }

flag_one : (a b : End) (p : Packet) (t : Bool) → FitsEnds b a p → (a.ring.acked ≡ false → t ≡ true → start a < bound p.carried) → Keeps a b → Keeps b a → Keeps (flagged a t) b
flag_one a b p t f w h i = grind arith

flag_two : (a b : End) (t : Bool) → Keeps b a → Keeps b (flagged a t)
flag_two a b t i = grind arith

pub flag : (a b : End) (p : Packet) (t : Bool) → FitsEnds b a p → (a.ring.acked ≡ false → t ≡ true → start a < bound p.carried) → AreInStep a b → AreInStep (flagged a t) b
flag a b p t f w h =
    record { sent_one = h.sent_one; sent_two = h.sent_two; one = flag_one a b p t f w h.one h.two; two = flag_two a b t h.two }

-- Its numbers go on from a greater one, while nothing was sealed in its epoch.
rise_sent : (e n s : ℕ) (k : Kept) (e' n' s' m : ℕ) (p : Packet) → n ≤ m → s ≡ n → Fits e n s k e' n' s' p → Fits e m m k e' n' s' p
rise_sent e n s k e' n' s' m p h g f = grind arith

other_risen : (e n s : ℕ) (k : Kept) (e' n' s' m : ℕ) (p : Packet) → n' ≤ m → s' ≡ n' → Fits e n s k e' n' s' p → Fits e n s k e' m m p
other_risen e n s k e' n' s' m p h g f = grind arith

start_unused : (a : End) → a.ring.first ≡ None → start a ≡ a.next
start_unused a h = rw h refl

start_risen : (a : End) (n : ℕ) → a.ring.first ≡ None → start (end_risen a n) ≡ n
start_risen a n h = rw h refl

rise_one : (a b : End) (n : ℕ) → a.next ≤ n → start a ≡ a.next → start (end_risen a n) ≡ n → Keeps a b → Keeps b a → Keeps (end_risen a n) b
rise_one a b n h s t k l = grind arith

rise_two : (a b : End) (n : ℕ) → a.next ≤ n → start a ≡ a.next → start (end_risen a n) ≡ n → Keeps a b → Keeps b a → Keeps b (end_risen a n)
rise_two a b n h s t k l = grind arith

pub rise : (a b : End) (n : ℕ) → a.next ≤ n → a.ring.first ≡ None → AreInStep a b → AreInStep (end_risen a n) b
rise a b n h none k =
    let s = start_unused a none in
    let t = start_risen a n none in
    record {
      sent_one = All-weaker (FitsEnds a b) (FitsEnds (end_risen a n) b) (λ p f. subst (λ (x : ℕ). Fits a.ring.epoch n x a.ring.kept b.ring.epoch b.next (start b) p) (sym t) (rise_sent a.ring.epoch a.next (start a) a.ring.kept b.ring.epoch b.next (start b) n p h s f)) a.sent k.sent_one;
      sent_two = All-weaker (FitsEnds b a) (FitsEnds b (end_risen a n)) (λ p f. subst (λ (x : ℕ). Fits b.ring.epoch b.next (start b) b.ring.kept a.ring.epoch n x p) (sym t) (other_risen b.ring.epoch b.next (start b) b.ring.kept a.ring.epoch a.next (start a) n p h s f)) b.sent k.sent_two;
      one = rise_one a b n h s t k.one k.two;
      two = rise_two a b n h s t k.one k.two;
    }

-- It opened a packet from before the other end's epoch, by keys of no ring.
hear_one : (a b : End) (n : ℕ) → n < start b → Keeps a b → Keeps b a → Keeps (end_heard a n) b
hear_one a b n h k l = let c = bound-push a.opened n in grind arith

hear_two : (a b : End) (n : ℕ) → Keeps b a → Keeps b (end_heard a n)
hear_two a b n l = grind arith

pub hear : (a b : End) (n : ℕ) → n < start b → AreInStep a b → AreInStep (end_heard a n) b
hear a b n h k = record { sent_one = k.sent_one; sent_two = k.sent_two; one = hear_one a b n h k.one k.two; two = hear_two a b n k.two }
