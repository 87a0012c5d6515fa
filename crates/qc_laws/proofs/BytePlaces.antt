-- The bytes of a stream's sending side: where each of them is, behind each step of the streams.
use Rattle.std.proofs.Common.{◌≡◌, ◌∙◌, ℕ, ◌+◌, ◌==◌, ◌<◌, ◌≤◌, Bool, true, false, cond, nat_le, nat_lt, List, [], ◌∷◌, ◌++◌, length, take, Option, None, Some, is_some, ap, sym, subst, refl, arith, if◌then◌else◌}
use Rattle.std.specs.Prelude.{◌&&◌, ◌||◌, min}
use Rattle.std.specs.List.{list_any}
use Rattle.std.proofs.lemmas.Bool.{false≢true}
use Rattle.std.proofs.lemmas.Bool.Decides.{nat_tests}
use Rattle.std.proofs.lemmas.List.Folds.{list_any-append}
use Rattle.qc_base.specs.declared.varint.VarInt.{VarInt}
use Rattle.qc_send_stream.specs.Buffer.{Buffer, Kept, bytes_written, discarded, lies_in, marked, nothing, range_acked, range_lost, range_sealed, row, without}
use Rattle.qc_send_stream.specs.declared.send.Reset.{Reset}
use Rattle.qc_send_stream.specs.declared.send.SendPart.{SendPart}
use Rattle.qc_send_stream.specs.declared.send.Standing.{Standing}
use Rattle.qc_send_stream.specs.Sending.{finished, is_done, lost_standing, acked_standing, new_sending, part_acked, part_lost, part_sealed, part_written, reset_acked, reset_lost, reset_sealed, reset_with, sealed_standing, was_reset}
use Rattle.qc_streams.specs.declared.control.Control.{Control}
use Rattle.qc_streams.specs.declared.control.Control.TheVariants.{Reset as ResetSent, Stop, MaxData, MaxStreamData, MaxStreams}
use Rattle.qc_streams.specs.Calls.{if_known}
use Rattle.qc_streams.specs.Carried.{keeps_streams}
use Rattle.qc_streams.specs.Finishing.{with_acked}
use Rattle.qc_streams.specs.StreamBytes.{part_end}
use Rattle.qc_streams.specs.Waits.{Step, EarlyRefused, Wrote, Finished, WasReset, ControlSealed, ControlLost, ControlAcked, PartSealed, BytesLost, BytesAcked}
use Rattle.qc_streams.proofs.StepAt.{SendsAlike, control_sent, sent_to}
use Rattle.qc_laws.specs.CryptoLaws.{is_awaited, is_kept, is_lost}
use Rattle.qc_laws.proofs.CryptoBuffers.{lies_not, lost_grows, lost_there, marked_kept, more_awaited, or_either, or_left, or_more, or_right, row_has, sealed_awaited, sent_grown}

-- ---- what steps say of a byte

-- a packet in flight has it, once a frame with it was sealed, until one is lost
abbrev pub flown_by : (id o : ℕ) → Step → Bool → Bool
flown_by id o (PartSealed d) flown = if d.id == id && (nat_le d.part.offset o && nat_lt o (part_end d.part)) then true else flown
flown_by id o (BytesLost j start stop last) flown = if j == id && (nat_le start o && nat_lt o stop) then false else flown
flown_by id o x flown = flown

-- the application reset the stream
abbrev pub reset_by : ℕ → Step → Bool → Bool
reset_by id (WasReset code j) reset = if j == id then true else reset
reset_by id x reset = reset

-- ---- what holds of a sending side

-- Of one that wasn't reset, each byte that was written is kept or was acknowledged; and it waits, or is in flight, or was acknowledged.
pub record SidePlaced (acked flown : ℕ → Bool) (p : SendPart) : Type 0 where
  pub sent : p.buffer.sent ≤ p.buffer.written
  pub kept : p.reset ≡ None → (o : ℕ) → o < p.buffer.written → (is_kept o p.buffer.kept || acked o) ≡ true
  pub placed : p.reset ≡ None → (o : ℕ) → o < p.buffer.written → (is_awaited o p.buffer || (flown o || acked o)) ≡ true

pub fresh_placed : (acked flown : ℕ → Bool) (limit : ℕ) → SidePlaced acked flown (new_sending limit)
unfolding new_sending nothing
fresh_placed acked flown limit = record { sent = omega arith; kept = λ none o less. absurd (omega (arith, less)); placed = λ none o less. absurd (omega (arith, less)) }

-- one with the same bytes and reset
pub alike_placed : (acked flown : ℕ → Bool) (p q : SendPart) → SendsAlike p q → SidePlaced acked flown p → SidePlaced acked flown q
alike_placed acked flown p q alike h = record {
  sent = subst (λ (b : Buffer). b.sent ≤ b.written) (sym alike.buffer) h.sent;
  kept = λ none o less. ap (λ (b : Buffer). is_kept o b.kept || acked o) alike.buffer ∙ h.kept (sym alike.reset ∙ none) o (subst (λ (b : Buffer). o < b.written) alike.buffer less);
  placed = λ none o less. ap (λ (b : Buffer). is_awaited o b || (flown o || acked o)) alike.buffer ∙ h.placed (sym alike.reset ∙ none) o (subst (λ (b : Buffer). o < b.written) alike.buffer less);
}

-- where more was acknowledged, and less is in flight that wasn't
pub placed_more : (acked flown acked' flown' : ℕ → Bool) (p : SendPart) → ((o : ℕ) → acked o ≡ true → acked' o ≡ true) → ((o : ℕ) → flown o ≡ true → (flown' o || acked' o) ≡ true) →
    SidePlaced acked flown p → SidePlaced acked' flown' p
placed_more acked flown acked' flown' p more stays h = record {
  sent = h.sent;
  kept = λ none o less. or_more (is_kept o p.buffer.kept) (acked o) (is_kept o p.buffer.kept) (acked' o) (λ e. e) (more o) (h.kept none o less);
  placed = λ none o less.
      or_more (is_awaited o p.buffer) (flown o || acked o) (is_awaited o p.buffer) (flown' o || acked' o) (λ e. e)
      (or_either (flown o) (acked o) (flown' o || acked' o) (stays o) (λ e. or_right (flown' o) (acked' o) (more o e))) (h.placed none o less);
}

-- ---- each step

placed_if : (b : Bool) (acked flown : ℕ → Bool) (q p : SendPart) → SidePlaced acked flown q → SidePlaced acked flown p → SidePlaced acked flown (cond b q p)
placed_if true acked flown q p made h = made
placed_if false acked flown q p made h = h

known_placed : (acked flown : ℕ → Bool) (f : SendPart → SendPart) (p : SendPart) → SidePlaced acked flown (f p) → SidePlaced acked flown p → SidePlaced acked flown (if_known f p)
known_placed acked flown f p made h = placed_if (is_done p) acked flown p (f p) h made

control_placed : (id : ℕ) (c : Control) (acked flown : ℕ → Bool) (f : SendPart → SendPart) (p : SendPart) → SidePlaced acked flown (f p) → SidePlaced acked flown p → SidePlaced acked flown (control_sent id c f p)
control_placed id (ResetSent j code size) acked flown f p made h = placed_if (j == id) acked flown (f p) p made h
control_placed id (Stop j code) acked flown f p made h = h
control_placed id (MaxData limit) acked flown f p made h = h
control_placed id (MaxStreamData j limit) acked flown f p made h = h
control_placed id (MaxStreams dir limit) acked flown f p made h = h

-- what becomes of a reset leaves bytes where they are
with_none : (f : Standing → Standing) (o : Option Reset) → reset_with f o ≡ None → o ≡ None
with_none f None is = refl
with_none f (Some r) is = absurd (false≢true (ap (λ (x : Option Reset). is_some x) (sym is)))

reset_placed : (f : Standing → Standing) (acked flown : ℕ → Bool) (p : SendPart) → SidePlaced acked flown p → SidePlaced acked flown (record p { reset = reset_with f p.reset })
reset_placed f acked flown p h = record { sent = h.sent; kept = λ none. h.kept (with_none f p.reset none); placed = λ none. h.placed (with_none f p.reset none) }

finished_placed : (acked flown : ℕ → Bool) (p : SendPart) → SidePlaced acked flown p → SidePlaced acked flown (finished p)
unfolding finished
finished_placed acked flown p h = record { sent = h.sent; kept = h.kept; placed = h.placed }

some_reset : (r : Reset) {X : Type 0} → (let o : Option Reset = Some r in o) ≡ None → X
some_reset r is = absurd (false≢true (ap (λ (x : Option Reset). is_some x) (sym is)))

was_reset_placed : (code : VarInt) (acked flown : ℕ → Bool) (p : SendPart) → SidePlaced acked flown p → SidePlaced acked flown (was_reset code p)
unfolding was_reset discarded
was_reset_placed code acked flown p h = record { sent = h.sent; kept = λ none. some_reset _ none; placed = λ none. some_reset _ none }

-- bytes are written
written_placed : (acked flown : ℕ → Bool) (bs : List ℕ) (p : SendPart) → SidePlaced acked flown p → SidePlaced acked flown (part_written bs p)
unfolding part_written bytes_written
written_placed acked flown bs p h = record {
  sent = omega (arith, h.sent);
  kept = λ none o less. ap (λ (b : Bool). b || acked o) (list_any-append (λ k. k.offset == o) p.buffer.kept (row false p.buffer.written bs)) ∙ kept_by none o less (nat_lt o p.buffer.written) refl;
  placed = λ none o less. placed_by none o less (nat_lt o p.buffer.written) refl;
}
  where
    kept_by : p.reset ≡ None → (o : ℕ) → o < p.buffer.written + length bs → (c : Bool) → nat_lt o p.buffer.written ≡ c →
        ((is_kept o p.buffer.kept || is_kept o (row false p.buffer.written bs)) || acked o) ≡ true
    kept_by none o less true is =
        or_more (is_kept o p.buffer.kept) (acked o) (is_kept o p.buffer.kept || is_kept o (row false p.buffer.written bs)) (acked o) (or_left (is_kept o p.buffer.kept) _) (λ e. e) (h.kept none o (grind (arith, nat_tests)))
    kept_by none o less false is =
        or_left (is_kept o p.buffer.kept || is_kept o (row false p.buffer.written bs)) (acked o) (or_right (is_kept o p.buffer.kept) _ (row_has o p.buffer.written bs (grind (arith, nat_tests)) less))

    lost_by : (o : ℕ) → is_lost o p.buffer.kept ≡ true → is_lost o (p.buffer.kept ++ row false p.buffer.written bs) ≡ true
    lost_by o e = list_any-append (λ k. (k.offset == o) && k.lost) p.buffer.kept (row false p.buffer.written bs) ∙ or_left _ _ e

    placed_by : p.reset ≡ None → (o : ℕ) → o < p.buffer.written + length bs → (c : Bool) → nat_lt o p.buffer.written ≡ c →
        ((nat_le p.buffer.sent o || is_lost o (p.buffer.kept ++ row false p.buffer.written bs)) || (flown o || acked o)) ≡ true
    placed_by none o less true is =
        or_more (nat_le p.buffer.sent o || is_lost o p.buffer.kept) (flown o || acked o) _ _ (or_more (nat_le p.buffer.sent o) (is_lost o p.buffer.kept) _ _ (λ e. e) (lost_by o)) (λ e. e)
        (h.placed none o (grind (arith, nat_tests)))
    placed_by none o less false is =
        let sent : p.buffer.sent ≤ p.buffer.written = h.sent in
        let fresh : nat_le p.buffer.sent o ≡ true = grind (arith, nat_tests) in
        or_left (nat_le p.buffer.sent o || is_lost o (p.buffer.kept ++ row false p.buffer.written bs)) _ (or_left (nat_le p.buffer.sent o) _ fresh)

-- a frame with bytes is sealed
sealed_placed : (start stop : ℕ) (last : Bool) (acked flown : ℕ → Bool) (p : SendPart) → SidePlaced acked flown p →
    SidePlaced acked (λ o. if nat_le start o && nat_lt o stop then true else flown o) (part_sealed start stop last p)
unfolding part_sealed range_sealed
sealed_placed start stop last acked flown p h = record {
  sent = sent_grown start stop p.buffer h.sent;
  kept = λ none o less. ap (λ (b : Bool). b || acked o) (marked_kept o false start stop p.buffer.kept) ∙ h.kept none o less;
  placed = λ none o less.
      or_either (is_awaited o p.buffer) (flown o || acked o) _
      (λ e. or_either (is_awaited o (range_sealed start stop p.buffer)) (nat_le start o && nat_lt o stop) _ (λ x. or_left _ _ x)
      (λ x. or_right _ _ (or_left _ (acked o) (held (nat_le start o && nat_lt o stop) (flown o) x))) (sealed_awaited o start stop p.buffer e))
      (λ e. or_right _ _ (or_more (flown o) (acked o) _ (acked o) (flies (nat_le start o && nat_lt o stop) (flown o)) (λ x. x) e)) (h.placed none o less);
}
  where
    held : (b c : Bool) → b ≡ true → cond b true c ≡ true
    held true c is = refl
    held false c is = absurd (false≢true is)

    flies : (b c : Bool) → c ≡ true → cond b true c ≡ true
    flies true c is = refl
    flies false c is = is

-- it is lost: what it had waits again, as far as it isn't acknowledged
lost_placed : (start stop : ℕ) (last : Bool) (acked flown : ℕ → Bool) (p : SendPart) → SidePlaced acked flown p →
    SidePlaced acked (λ o. if nat_le start o && nat_lt o stop then false else flown o) (part_lost start stop last p)
unfolding part_lost range_lost
lost_placed start stop last acked flown p h = record {
  sent = h.sent;
  kept = λ none o less. ap (λ (b : Bool). b || acked o) (marked_kept o true start (min stop p.buffer.sent) p.buffer.kept) ∙ h.kept none o less;
  placed = λ none o less. by none o less (nat_le start o && nat_lt o stop) refl;
}
  where
    ks : List Kept
    ks = marked true start (min stop p.buffer.sent) p.buffer.kept

    waits : (o : ℕ) → (nat_le start o && nat_lt o stop) ≡ true → is_kept o p.buffer.kept ≡ true → (c : Bool) → nat_le p.buffer.sent o ≡ c → (nat_le p.buffer.sent o || is_lost o ks) ≡ true
    waits o within kept true is = or_left (nat_le p.buffer.sent o) _ is
    waits o within kept false is =
        or_right (nat_le p.buffer.sent o) _ (lost_there o start (min stop p.buffer.sent) p.buffer.kept (grind (arith, nat_tests)) (grind (arith, nat_tests)) kept)

    by : p.reset ≡ None → (o : ℕ) → o < p.buffer.written → (c : Bool) → (nat_le start o && nat_lt o stop) ≡ c → ((nat_le p.buffer.sent o || is_lost o ks) || (cond c false (flown o) || acked o)) ≡ true
    by none o less true is =
        or_either (is_kept o p.buffer.kept) (acked o) _ (λ e. or_left _ _ (waits o is e (nat_le p.buffer.sent o) refl)) (λ e. or_right _ _ e) (h.kept none o less)
    by none o less false is =
        or_more (is_awaited o p.buffer) (flown o || acked o) _ _ (more_awaited p.buffer (range_lost start stop p.buffer) (lost_grows start stop p.buffer) o) (λ e. e) (h.placed none o less)

-- it is acknowledged
any_without : (q : Kept → Bool) (o start stop : ℕ) → ((k : Kept) → q k ≡ true → (k.offset == o) ≡ true) → (nat_le start o && nat_lt o stop) ≡ false → (ks : List Kept) → list_any q ks ≡ true → list_any q (without start stop ks) ≡ true
unfolding without
any_without q o start stop place out [] h = h
any_without q o start stop place out (k ∷ ks) h = by (any_without q o start stop place out ks) (lies_in start stop k) refl
  where
    by : (list_any q ks ≡ true → list_any q (without start stop ks) ≡ true) → (b : Bool) → lies_in start stop k ≡ b → list_any q (cond b (without start stop ks) (k ∷ without start stop ks)) ≡ true
    by more true is = or_either (q k) (list_any q ks) _ (λ e. absurd (false≢true (sym (lies_not o start stop k (place k e) out) ∙ is))) more h
    by more false is = or_more (q k) (list_any q ks) (q k) _ (λ e. e) more h

-- a range that is cut off holds no more
cut_out : (o start stop most : ℕ) → (nat_le start o && nat_lt o stop) ≡ false → (nat_le start o && nat_lt o (min stop most)) ≡ false
cut_out o start stop most out = by (nat_le start o) (nat_lt o stop) (nat_lt o (min stop most)) refl refl out
  where
    by : (a b c : Bool) → nat_lt o stop ≡ b → nat_lt o (min stop most) ≡ c → (a && b) ≡ false → (a && c) ≡ false
    by false b c is cut none = refl
    by true true c is cut none = absurd (false≢true (sym none))
    by true false false is cut none = refl
    by true false true is cut none = absurd (grind (arith, nat_tests))

first_of : (a b : Bool) → (a && b) ≡ true → a ≡ true
first_of true b h = refl
first_of false b h = absurd (false≢true h)

acked_placed : (start stop : ℕ) (last : Bool) (acked flown : ℕ → Bool) (p : SendPart) → SidePlaced acked flown p →
    SidePlaced (λ o. if nat_le start o && nat_lt o stop then true else acked o) flown (part_acked start stop last p)
unfolding part_acked range_acked
acked_placed start stop last acked flown p h = record {
  sent = h.sent;
  kept = λ none o less. kept_by none o less (nat_le start o && nat_lt o stop) refl;
  placed = λ none o less. placed_by none o less (nat_le start o && nat_lt o stop) refl;
}
  where
    most : ℕ
    most = min stop p.buffer.sent

    kept_by : p.reset ≡ None → (o : ℕ) → o < p.buffer.written → (c : Bool) → (nat_le start o && nat_lt o stop) ≡ c → (is_kept o (without start most p.buffer.kept) || cond c true (acked o)) ≡ true
    kept_by none o less true is = or_right (is_kept o (without start most p.buffer.kept)) true refl
    kept_by none o less false is =
        or_more (is_kept o p.buffer.kept) (acked o) _ (acked o) (any_without (λ k. k.offset == o) o start most (λ k e. e) (cut_out o start stop p.buffer.sent is) p.buffer.kept) (λ e. e) (h.kept none o less)

    placed_by : p.reset ≡ None → (o : ℕ) → o < p.buffer.written → (c : Bool) → (nat_le start o && nat_lt o stop) ≡ c →
        ((nat_le p.buffer.sent o || is_lost o (without start most p.buffer.kept)) || (flown o || cond c true (acked o))) ≡ true
    placed_by none o less true is = or_right _ _ (or_right (flown o) true refl)
    placed_by none o less false is =
        or_more (nat_le p.buffer.sent o || is_lost o p.buffer.kept) (flown o || acked o) _ (flown o || acked o)
        (or_more (nat_le p.buffer.sent o) (is_lost o p.buffer.kept) (nat_le p.buffer.sent o) _ (λ e. e)
        (any_without (λ k. (k.offset == o) && k.lost) o start most (λ k e. first_of (k.offset == o) k.lost e) (cut_out o start stop p.buffer.sent is) p.buffer.kept)) (λ e. e) (h.placed none o less)

-- what a step leaves of a side
pub side_placed : (id : ℕ) (x : Step) (acked flown : ℕ → Bool) (p : SendPart) → keeps_streams x ≡ true → SidePlaced acked flown p →
    SidePlaced (λ o. with_acked id o x (acked o)) (λ o. flown_by id o x (flown o)) (sent_to id x p)
unfolding keeps_streams with_acked sent_to reset_sealed reset_lost reset_acked
side_placed id EarlyRefused acked flown p keeps h = absurd (false≢true keeps)
side_placed id (Wrote j n chunk) acked flown p keeps h =
    placed_if (j == id) acked flown _ p (known_placed acked flown (part_written (take n chunk)) p (written_placed acked flown (take n chunk) p h) h) h
side_placed id (Finished j) acked flown p keeps h = placed_if (j == id) acked flown _ p (known_placed acked flown finished p (finished_placed acked flown p h) h) h
side_placed id (WasReset code j) acked flown p keeps h =
    placed_if (j == id) acked flown _ p (known_placed acked flown (was_reset code) p (was_reset_placed code acked flown p h) h) h
side_placed id (ControlSealed c) acked flown p keeps h = control_placed id c acked flown reset_sealed p (reset_placed sealed_standing acked flown p h) h
side_placed id (ControlLost c) acked flown p keeps h = control_placed id c acked flown reset_lost p (reset_placed lost_standing acked flown p h) h
side_placed id (ControlAcked c) acked flown p keeps h = control_placed id c acked flown reset_acked p (reset_placed acked_standing acked flown p h) h
side_placed id (PartSealed d) acked flown p keeps h = by (d.id == id)
  where
    by : (b : Bool) → SidePlaced acked (λ o. cond (b && (nat_le d.part.offset o && nat_lt o (part_end d.part))) true (flown o)) (cond b (part_sealed d.part.offset (part_end d.part) d.part.last p) p)
    by true = sealed_placed d.part.offset (part_end d.part) d.part.last acked flown p h
    by false = h
side_placed id (BytesLost j start stop last) acked flown p keeps h = by (j == id)
  where
    by : (b : Bool) → SidePlaced acked (λ o. cond (b && (nat_le start o && nat_lt o stop)) false (flown o)) (cond b (part_lost start stop last p) p)
    by true = lost_placed start stop last acked flown p h
    by false = h
side_placed id (BytesAcked j start stop last) acked flown p keeps h = by (j == id)
  where
    by : (b : Bool) → SidePlaced (λ o. cond (b && (nat_le start o && nat_lt o stop)) true (acked o)) flown (cond b (part_acked start stop last p) p)
    by true = acked_placed start stop last acked flown p h
    by false = h
side_placed id x acked flown p keeps h = h

-- ---- resets

same_if : (b : Bool) (q r : SendPart) → q.reset ≡ None → r.reset ≡ None → (cond b q r).reset ≡ None
same_if true q r e f = e
same_if false q r e f = f

none_with : (f : Standing → Standing) (o : Option Reset) → o ≡ None → reset_with f o ≡ None
none_with f None is = refl
none_with f (Some r) is = some_reset r is

control_unreset : (id : ℕ) (c : Control) (f : Standing → Standing) (p : SendPart) → p.reset ≡ None → (control_sent id c (λ q. record q { reset = reset_with f q.reset }) p).reset ≡ None
control_unreset id (ResetSent j code size) f p none = same_if (j == id) (record p { reset = reset_with f p.reset }) p (none_with f p.reset none) none
control_unreset id (Stop j code) f p none = none
control_unreset id (MaxData limit) f p none = none
control_unreset id (MaxStreamData j limit) f p none = none
control_unreset id (MaxStreams dir limit) f p none = none

-- a side that wasn't reset isn't, where no step reset it
pub side_unreset : (id : ℕ) (x : Step) (reset : Bool) (p : SendPart) → (reset ≡ false → p.reset ≡ None) → reset_by id x reset ≡ false → (sent_to id x p).reset ≡ None
unfolding sent_to part_written finished part_sealed part_lost part_acked reset_sealed reset_lost reset_acked
side_unreset id (Wrote j n chunk) reset p h none = same_if (j == id) _ p (same_if (is_done p) p _ (h none) (h none)) (h none)
side_unreset id (Finished j) reset p h none = same_if (j == id) _ p (same_if (is_done p) p _ (h none) (h none)) (h none)
side_unreset id (WasReset code j) reset p h none = by (j == id) none
  where
    by : (b : Bool) → cond b true reset ≡ false → (cond b (if_known (was_reset code) p) p).reset ≡ None
    by true is = absurd (false≢true (sym is))
    by false is = h is
side_unreset id (ControlSealed c) reset p h none = control_unreset id c sealed_standing p (h none)
side_unreset id (ControlLost c) reset p h none = control_unreset id c lost_standing p (h none)
side_unreset id (ControlAcked c) reset p h none = control_unreset id c acked_standing p (h none)
side_unreset id (PartSealed d) reset p h none = same_if (d.id == id) _ p (h none) (h none)
side_unreset id (BytesLost j start stop last) reset p h none = same_if (j == id) _ p (h none) (h none)
side_unreset id (BytesAcked j start stop last) reset p h none = same_if (j == id) _ p (h none) (h none)
side_unreset id x reset p h none = h none
