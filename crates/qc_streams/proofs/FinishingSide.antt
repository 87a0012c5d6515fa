-- That a stream is finished is told once, where all of it was acknowledged: what each step leaves of a sending side
use Rattle.std.proofs.Common.{◌≡◌, ◌∙◌, ℕ, suc, ◌+◌, ◌==◌, ◌<◌, ◌≤◌, Bool, true, false, cond, not, ◌&&◌, ◌||◌, nat_le, nat_lt, min, List, [], ◌∷◌, ◌++◌, length, take, Option, None, Some, is_some, inl, inr, ap, sym, subst, arith, refl}
use Rattle.std.proofs.lemmas.Bool.{and_parts, cases_eq, cases_lt, eq-eqb, false≢true, le-ltb, ne_eqb}
use Rattle.std.proofs.lemmas.Bool.Decides.{nat_tests}
use Rattle.qc_send_stream.specs.Buffer.{Buffer, Kept, bytes_written, has_bytes, lies_in, marked, range_acked, range_lost, range_sealed, row, without}
use Rattle.qc_send_stream.specs.declared.send.SendPart.{SendPart}
use Rattle.qc_send_stream.specs.declared.send.Reset.{Reset}
use Rattle.qc_send_stream.specs.declared.send.Standing.{Standing}
use Rattle.qc_send_stream.specs.declared.send.Standing.TheVariants.{Waiting, InFlight, Acknowledged}
use Rattle.qc_send_stream.specs.Fates.{is_kept}
use Rattle.qc_send_stream.specs.Sending.{acked_standing, done_with, end_acked, end_with, finished, is_done, lost_standing, part_acked, part_lost, part_sealed, part_written, reset_acked, reset_lost, reset_sealed, reset_with, sealed_standing, was_reset}
use Rattle.qc_streams.specs.declared.control.Control.{Control}
use Rattle.qc_streams.specs.declared.control.Control.TheVariants.{Reset as ResetSent, Stop, MaxData, MaxStreamData, MaxStreams}
use Rattle.qc_streams.specs.Calls.{if_known}
use Rattle.qc_streams.specs.Carried.{keeps_streams}
use Rattle.qc_streams.specs.Finishing.{with_acked, with_ended}
use Rattle.qc_streams.specs.StreamBytes.{is_finished, part_end}
use Rattle.qc_streams.specs.Waits.{Step, EarlyRefused, Wrote, Finished, WasReset, ControlSealed, ControlLost, ControlAcked, PartSealed, BytesLost, BytesAcked}
use Rattle.qc_streams.proofs.StepAt.{SendsAlike, control_sent, sent_to}

-- ---- bytes that are kept

kept_append : (o : ℕ) (v w : List Kept) → is_kept o (v ++ w) ≡ (is_kept o v || is_kept o w)
unfolding is_kept
kept_append o [] w = refl
kept_append o (k ∷ v) w = by (o == k.offset) (kept_append o v w)
  where
    by : (b : Bool) → is_kept o (v ++ w) ≡ (is_kept o v || is_kept o w) → cond b true (is_kept o (v ++ w)) ≡ (cond b true (is_kept o v) || is_kept o w)
    by true rest = refl
    by false rest = rest

kept_row : (o n : ℕ) (l : Bool) (bs : List ℕ) → n ≤ o → o < n + length bs → is_kept o (row l n bs) ≡ true
unfolding is_kept row
kept_row o n l [] low high = absurd (omega (arith, low, high))
kept_row o n l (b ∷ bs) low high = elim (cases_eq o n) [
  | inl e ↦ rw (eq-eqb o n e) refl
  | inr other ↦ rw (ne_eqb o n other) (kept_row o (suc n) l bs (more other) (omega (arith, high)))
]
  where
    more : (o ≡ n → ⊥) → suc n ≤ o
    more other = elim (cases_lt n o) [ inl less ↦ omega (arith, less) | inr above ↦ absurd (other (omega (arith, low, above))) ]

kept_marked : (o : ℕ) (l : Bool) (start end : ℕ) (ks : List Kept) → is_kept o (marked l start end ks) ≡ is_kept o ks
unfolding is_kept marked
kept_marked o l start end [] = refl
kept_marked o l start end (k ∷ ks) = by (lies_in start end k) (kept_marked o l start end ks)
  where
    by : (b : Bool) → is_kept o (marked l start end ks) ≡ is_kept o ks → is_kept o (cond b (record k { lost = l }) k ∷ marked l start end ks) ≡ is_kept o (k ∷ ks)
    by true rest = ap (λ (t : Bool). cond (o == k.offset) true t) rest
    by false rest = ap (λ (t : Bool). cond (o == k.offset) true t) rest

-- a byte that lies in no range stays
kept_without : (o start end : ℕ) (ks : List Kept) → (nat_le start o && nat_lt o end) ≡ false → is_kept o (without start end ks) ≡ is_kept o ks
unfolding is_kept without lies_in
kept_without o start end [] out = refl
kept_without o start end (k ∷ ks) out = by (nat_le start k.offset && nat_lt k.offset end) refl (kept_without o start end ks out)
  where
    by : (b : Bool) → (nat_le start k.offset && nat_lt k.offset end) ≡ b → is_kept o (without start end ks) ≡ is_kept o ks
        → is_kept o (cond b (without start end ks) (k ∷ without start end ks)) ≡ cond (o == k.offset) true (is_kept o ks)
    by false is rest = ap (λ (t : Bool). cond (o == k.offset) true t) rest
    by true is rest = elim (cases_eq o k.offset) [
      | inl e ↦ absurd (false≢true (sym out ∙ ap (λ (i : ℕ). nat_le start i && nat_lt i end) e ∙ is))
      | inr other ↦ rw (ne_eqb o k.offset other) rest
    ]

-- a range that is cut off holds no more
cut_out : (o start end most : ℕ) → (nat_le start o && nat_lt o end) ≡ false → (nat_le start o && nat_lt o (min end most)) ≡ false
cut_out o start end most out = elim (cases_lt o start) [
  | inl below ↦ rw (lt_not start o below) refl
  | inr above ↦ elim (cases_lt o end) [
    | inl within ↦ absurd (false≢true (sym out ∙ both above within))
    | inr past ↦ past_all past (nat_le start o)
  ]
]
  where
    lt_not : (start o : ℕ) → o < start → nat_le start o ≡ false
    lt_not start o below = grind (arith, nat_tests)

    both : start ≤ o → o < end → (nat_le start o && nat_lt o end) ≡ true
    both above within = grind (arith, nat_tests)

    past_all : end ≤ o → (b : Bool) → (b && nat_lt o (min end most)) ≡ false
    past_all past true = le-ltb o (min end most) (omega (arith, past))
    past_all past false = refl

-- ---- what holds of a sending side

-- Of a side that wasn't reset each byte that was written is kept or was acknowledged; and an end that counts as acknowledged was
pub record SideOk (acked : ℕ → Bool) (ended : Bool) (p : SendPart) : Type 0 where
  pub bytes : p.reset ≡ None → (o : ℕ) → o < p.buffer.written → (is_kept o p.buffer.kept || acked o) ≡ true
  pub end : end_acked p.end ≡ true → ended ≡ true

if_ok : (b : Bool) (acked : ℕ → Bool) (ended : Bool) (q p : SendPart) → SideOk acked ended q → SideOk acked ended p → SideOk acked ended (cond b q p)
if_ok true acked ended q p then h = then
if_ok false acked ended q p then h = h

known_ok : (acked : ℕ → Bool) (ended : Bool) (f : SendPart → SendPart) (p : SendPart) → SideOk acked ended (f p) → SideOk acked ended p
    → SideOk acked ended (if_known f p)
known_ok acked ended f p then h = by (is_done p)
  where
    by : (b : Bool) → SideOk acked ended (cond b p (f p))
    by true = h
    by false = then

control_ok : (id : ℕ) (c : Control) (acked : ℕ → Bool) (ended : Bool) (f : SendPart → SendPart) (p : SendPart) → SideOk acked ended (f p)
    → SideOk acked ended p → SideOk acked ended (control_sent id c f p)
control_ok id (ResetSent j code size) acked ended f p then h = if_ok (j == id) acked ended (f p) p then h
control_ok id (Stop j code) acked ended f p then h = h
control_ok id (MaxData limit) acked ended f p then h = h
control_ok id (MaxStreamData j limit) acked ended f p then h = h
control_ok id (MaxStreams dir limit) acked ended f p then h = h

first_or : (b c d : Bool) → (b || d) ≡ true → ((b || c) || d) ≡ true
first_or true c d is = refl
first_or false true d is = refl
first_or false false d is = is

mid_or : (b c d : Bool) → c ≡ true → ((b || c) || d) ≡ true
mid_or true c d is = refl
mid_or false true d is = refl
mid_or false false d is = absurd (false≢true is)

written_ok : (acked : ℕ → Bool) (ended : Bool) (bs : List ℕ) (p : SendPart) → SideOk acked ended p → SideOk acked ended (part_written bs p)
unfolding part_written bytes_written
written_ok acked ended bs p h = record {
  bytes = λ none o less.
      ap (λ (t : Bool). t || acked o) (kept_append o p.buffer.kept (row false p.buffer.written bs))
      ∙ elim (cases_lt o p.buffer.written) [
        | inl old ↦ first_or (is_kept o p.buffer.kept) (is_kept o (row false p.buffer.written bs)) (acked o) (h.bytes none o old)
        | inr new ↦
            mid_or (is_kept o p.buffer.kept) (is_kept o (row false p.buffer.written bs)) (acked o) (kept_row o p.buffer.written false bs new less)
      ];
  end = h.end;
}

finished_ok : (acked : ℕ → Bool) (ended : Bool) (p : SendPart) → SideOk acked ended p → SideOk acked ended (finished p)
unfolding finished
finished_ok acked ended p h = record { bytes = h.bytes; end = λ is. absurd (false≢true is) }

some_not : (r : Reset) (o : Option Reset) → o ≡ Some r → o ≡ None → ⊥
some_not r o some none = false≢true (ap (λ (x : Option Reset). is_some x) (sym none ∙ some))

reset_ok : (code : _) (acked : ℕ → Bool) (ended : Bool) (p : SendPart) → SideOk acked ended p → SideOk acked ended (was_reset code p)
unfolding was_reset
reset_ok code acked ended p h = record { bytes = λ none o less. absurd (some_not _ _ refl none); end = h.end }

with_none : (f : Standing → Standing) (o : Option Reset) → reset_with f o ≡ None → o ≡ None
with_none f None is = refl
with_none f (Some r) is = absurd (some_not _ _ refl is)

reset_sealed_ok : (acked : ℕ → Bool) (ended : Bool) (p : SendPart) → SideOk acked ended p → SideOk acked ended (reset_sealed p)
unfolding reset_sealed
reset_sealed_ok acked ended p h = record { bytes = λ none. h.bytes (with_none sealed_standing p.reset none); end = h.end }

reset_lost_ok : (acked : ℕ → Bool) (ended : Bool) (p : SendPart) → SideOk acked ended p → SideOk acked ended (reset_lost p)
unfolding reset_lost
reset_lost_ok acked ended p h = record { bytes = λ none. h.bytes (with_none lost_standing p.reset none); end = h.end }

reset_acked_ok : (acked : ℕ → Bool) (ended : Bool) (p : SendPart) → SideOk acked ended p → SideOk acked ended (reset_acked p)
unfolding reset_acked
reset_acked_ok acked ended p h = record { bytes = λ none. h.bytes (with_none acked_standing p.reset none); end = h.end }

-- an end that counts as acknowledged did so before, but for an acknowledgement
sealed_end : (last : Bool) (e : Option Standing) → end_acked (end_with sealed_standing last e) ≡ end_acked e
sealed_end last None = refl
sealed_end false (Some x) = refl
sealed_end true (Some Waiting) = refl
sealed_end true (Some InFlight) = refl
sealed_end true (Some Acknowledged) = refl

lost_end : (last : Bool) (e : Option Standing) → end_acked (end_with lost_standing last e) ≡ end_acked e
lost_end last None = refl
lost_end false (Some x) = refl
lost_end true (Some Waiting) = refl
lost_end true (Some InFlight) = refl
lost_end true (Some Acknowledged) = refl

acked_end : (last ended : Bool) (e : Option Standing) → (end_acked e ≡ true → ended ≡ true) → end_acked (end_with acked_standing last e) ≡ true
    → cond last true ended ≡ true
acked_end true ended e before is = refl
acked_end false ended None before is = before is
acked_end false ended (Some x) before is = before is

sealed_ok : (start stop : ℕ) (last : Bool) (acked : ℕ → Bool) (ended : Bool) (p : SendPart) → SideOk acked ended p
    → SideOk acked ended (part_sealed start stop last p)
unfolding part_sealed range_sealed
sealed_ok start stop last acked ended p h = record {
  bytes = λ none o less. ap (λ (t : Bool). t || acked o) (kept_marked o false start stop p.buffer.kept) ∙ h.bytes none o less;
  end = λ is. h.end (sym (sealed_end last p.end) ∙ is);
}

lost_ok : (start stop : ℕ) (last : Bool) (acked : ℕ → Bool) (ended : Bool) (p : SendPart) → SideOk acked ended p
    → SideOk acked ended (part_lost start stop last p)
unfolding part_lost range_lost
lost_ok start stop last acked ended p h = record {
  bytes = λ none o less. ap (λ (t : Bool). t || acked o) (kept_marked o true start (min stop p.buffer.sent) p.buffer.kept) ∙ h.bytes none o less;
  end = λ is. h.end (sym (lost_end last p.end) ∙ is);
}

or_true : (b : Bool) → (b || true) ≡ true
or_true true = refl
or_true false = refl

acked_ok : (start stop : ℕ) (last : Bool) (acked : ℕ → Bool) (ended : Bool) (p : SendPart) → SideOk acked ended p
    → SideOk (λ o. cond (nat_le start o && nat_lt o stop) true (acked o)) (cond last true ended) (part_acked start stop last p)
unfolding part_acked range_acked
acked_ok start stop last acked ended p h = record {
  bytes = λ none o less. by o (nat_le start o && nat_lt o stop) refl (h.bytes none o less);
  end = acked_end last ended p.end h.end;
}
  where
    by : (o : ℕ) (b : Bool) → (nat_le start o && nat_lt o stop) ≡ b → (is_kept o p.buffer.kept || acked o) ≡ true
        → (is_kept o (without start (min stop p.buffer.sent) p.buffer.kept) || cond b true (acked o)) ≡ true
    by o true is before = or_true (is_kept o (without start (min stop p.buffer.sent) p.buffer.kept))
    by o false is before =
        ap (λ (t : Bool). t || acked o) (kept_without o start (min stop p.buffer.sent) p.buffer.kept (cut_out o start stop p.buffer.sent is)) ∙ before

-- what a step leaves of it
pub side_ok : (id : ℕ) (x : Step) (acked : ℕ → Bool) (ended : Bool) (p : SendPart) → keeps_streams x ≡ true → SideOk acked ended p
    → SideOk (λ o. with_acked id o x (acked o)) (with_ended id x ended) (sent_to id x p)
unfolding keeps_streams with_acked with_ended sent_to
side_ok id EarlyRefused acked ended p keeps h = absurd (false≢true keeps)
side_ok id (Wrote j n chunk) acked ended p keeps h =
    if_ok (j == id) acked ended _ p (known_ok acked ended (part_written (take n chunk)) p (written_ok acked ended (take n chunk) p h) h) h
side_ok id (Finished j) acked ended p keeps h = if_ok (j == id) acked ended _ p (known_ok acked ended finished p (finished_ok acked ended p h) h) h
side_ok id (WasReset code j) acked ended p keeps h =
    if_ok (j == id) acked ended _ p (known_ok acked ended (was_reset code) p (reset_ok code acked ended p h) h) h
side_ok id (ControlSealed c) acked ended p keeps h = control_ok id c acked ended reset_sealed p (reset_sealed_ok acked ended p h) h
side_ok id (ControlLost c) acked ended p keeps h = control_ok id c acked ended reset_lost p (reset_lost_ok acked ended p h) h
side_ok id (ControlAcked c) acked ended p keeps h = control_ok id c acked ended reset_acked p (reset_acked_ok acked ended p h) h
side_ok id (PartSealed d) acked ended p keeps h =
    if_ok (d.id == id) acked ended _ p (sealed_ok d.part.offset (part_end d.part) d.part.last acked ended p h) h
side_ok id (BytesLost j start stop last) acked ended p keeps h = if_ok (j == id) acked ended _ p (lost_ok start stop last acked ended p h) h
side_ok id (BytesAcked j start stop last) acked ended p keeps h = by (j == id)
  where
    by : (b : Bool) → SideOk (λ o. cond (b && (nat_le start o && nat_lt o stop)) true (acked o)) (cond (b && last) true ended) (cond b (part_acked start stop last p) p)
    by true = acked_ok start stop last acked ended p h
    by false = h
side_ok id x acked ended p keeps h = h

-- ---- a side that is finished stays so

-- a side with the same bytes, end and reset holds it too
pub alike_ok : (acked : ℕ → Bool) (ended : Bool) (p q : SendPart) → SendsAlike p q → SideOk acked ended p → SideOk acked ended q
alike_ok acked ended p q alike h = record {
  bytes = λ none o less.
      ap (λ (b : Buffer). is_kept o b.kept || acked o) alike.buffer
      ∙ h.bytes (sym alike.reset ∙ none) o (subst (λ (b : Buffer). o < b.written) alike.buffer less);
  end = λ is. h.end (ap (λ (e : Option Standing). end_acked e) (sym alike.end) ∙ is);
}

-- all of it was acknowledged: no byte is kept, and the end counts as acknowledged
pub record AllAcked (p : SendPart) : Type 0 where
  pub kept : has_bytes p.buffer.kept ≡ false
  pub end : end_acked p.end ≡ true
  pub reset : p.reset ≡ None

unless_has : (b : Bool) → not b ≡ true → b ≡ false
unless_has true is = absurd (false≢true is)
unless_has false is = refl

pub finished_all : (p : SendPart) → is_finished (Some p) ≡ true → AllAcked p
unfolding is_done
finished_all p is = by p.reset refl (and_parts (is_done p) (not (is_some p.reset)) is)
  where
    by : (r : Option Reset) → p.reset ≡ r → (is_done p ≡ true) × (not (is_some p.reset) ≡ true) → AllAcked p
    by (Some r) at both = absurd (false≢true (sym (ap (λ (o : Option Reset). not (is_some o)) at) ∙ both.1))
    by None at both =
        let done = and_parts (end_acked p.end) (not (has_bytes p.buffer.kept))
        (ap (λ (o : Option Reset). done_with o (end_acked p.end && not (has_bytes p.buffer.kept))) (sym at) ∙ both.0) in
        record { kept = unless_has (has_bytes p.buffer.kept) done.1; end = done.0; reset = at }

pub all_finished : (p : SendPart) → AllAcked p → is_finished (Some p) ≡ true
unfolding is_done
all_finished p a = rw (a.reset, a.end, a.kept) refl

pub all_done : (p : SendPart) → AllAcked p → is_done p ≡ true
unfolding is_done
all_done p a = rw (a.reset, a.end, a.kept) refl

none_kept : (ks : List Kept) → has_bytes ks ≡ false → ks ≡ []
unfolding has_bytes
none_kept [] is = refl
none_kept (k ∷ ks) is = absurd (false≢true (sym is))

-- so each byte and the end were
pub finished_bytes : (acked : ℕ → Bool) (ended : Bool) (p : SendPart) → AllAcked p → SideOk acked ended p → (o : ℕ) → o < p.buffer.written → acked o ≡ true
unfolding is_kept
finished_bytes acked ended p a h o less = ap (λ (ks : List Kept). is_kept o ks || acked o) (sym (none_kept p.buffer.kept a.kept)) ∙ h.bytes a.reset o less

pub finished_end : (acked : ℕ → Bool) (ended : Bool) (p : SendPart) → AllAcked p → SideOk acked ended p → ended ≡ true
finished_end acked ended p a h = h.end a.end

pub alike_all : (p q : SendPart) → SendsAlike p q → AllAcked p → AllAcked q
alike_all p q alike a = record {
  kept = ap (λ (b : Buffer). has_bytes b.kept) alike.buffer ∙ a.kept;
  end = ap (λ (e : Option Standing). end_acked e) alike.end ∙ a.end;
  reset = alike.reset ∙ a.reset;
}

all_if : (b : Bool) (q p : SendPart) → AllAcked q → AllAcked p → AllAcked (cond b q p)
all_if true q p then a = then
all_if false q p then a = a

-- nothing is done with one that the application doesn't know
all_known : (f : SendPart → SendPart) (p : SendPart) → AllAcked p → AllAcked (if_known f p)
all_known f p a = by (is_done p) (all_done p a)
  where
    by : (b : Bool) → b ≡ true → AllAcked (cond b p (f p))
    by true is = a
    by false is = absurd (false≢true is)

all_control : (id : ℕ) (c : Control) (f : SendPart → SendPart) (p : SendPart) → AllAcked (f p) → AllAcked p → AllAcked (control_sent id c f p)
all_control id (ResetSent j code size) f p then a = all_if (j == id) (f p) p then a
all_control id (Stop j code) f p then a = a
all_control id (MaxData limit) f p then a = a
all_control id (MaxStreamData j limit) f p then a = a
all_control id (MaxStreams dir limit) f p then a = a

none_marked : (l : Bool) (start end : ℕ) (ks : List Kept) → has_bytes ks ≡ false → has_bytes (marked l start end ks) ≡ false
unfolding has_bytes marked
none_marked l start end [] is = refl
none_marked l start end (k ∷ ks) is = absurd (false≢true (sym is))

none_without : (start end : ℕ) (ks : List Kept) → has_bytes ks ≡ false → has_bytes (without start end ks) ≡ false
unfolding has_bytes without
none_without start end [] is = refl
none_without start end (k ∷ ks) is = absurd (false≢true (sym is))

acked_stays : (last : Bool) (e : Option Standing) → end_acked e ≡ true → end_acked (end_with acked_standing last e) ≡ true
acked_stays last None is = is
acked_stays false (Some x) is = is
acked_stays true (Some x) is = refl

reset_all : (f : Standing → Standing) (o : Option Reset) → o ≡ None → reset_with f o ≡ None
reset_all f None is = refl
reset_all f (Some r) is = absurd (some_not _ _ refl is)

pub all_stays : (id : ℕ) (x : Step) (p : SendPart) → keeps_streams x ≡ true → AllAcked p → AllAcked (sent_to id x p)
unfolding keeps_streams sent_to part_sealed part_lost part_acked range_sealed range_lost range_acked reset_sealed reset_lost reset_acked
all_stays id EarlyRefused p keeps a = absurd (false≢true keeps)
all_stays id (Wrote j n chunk) p keeps a = all_if (j == id) _ p (all_known (part_written (take n chunk)) p a) a
all_stays id (Finished j) p keeps a = all_if (j == id) _ p (all_known finished p a) a
all_stays id (WasReset code j) p keeps a = all_if (j == id) _ p (all_known (was_reset code) p a) a
all_stays id (ControlSealed c) p keeps a =
    all_control id c reset_sealed p (record { kept = a.kept; end = a.end; reset = reset_all sealed_standing p.reset a.reset }) a
all_stays id (ControlLost c) p keeps a = all_control id c reset_lost p (record { kept = a.kept; end = a.end; reset = reset_all lost_standing p.reset a.reset }) a
all_stays id (ControlAcked c) p keeps a =
    all_control id c reset_acked p (record { kept = a.kept; end = a.end; reset = reset_all acked_standing p.reset a.reset }) a
all_stays id (PartSealed d) p keeps a = all_if (d.id == id) (part_sealed d.part.offset (part_end d.part) d.part.last p) p (record {
  kept = none_marked false d.part.offset (part_end d.part) p.buffer.kept a.kept;
  end = sealed_end d.part.last p.end ∙ a.end;
  reset = a.reset;
}) a
all_stays id (BytesLost j start stop last) p keeps a = all_if (j == id) (part_lost start stop last p) p (record {
  kept = none_marked true start (min stop p.buffer.sent) p.buffer.kept a.kept;
  end = lost_end last p.end ∙ a.end;
  reset = a.reset;
}) a
all_stays id (BytesAcked j start stop last) p keeps a = all_if (j == id) (part_acked start stop last p) p (record {
  kept = none_without start (min stop p.buffer.sent) p.buffer.kept a.kept;
  end = acked_stays last p.end a.end;
  reset = a.reset;
}) a
all_stays id x p keeps a = a
