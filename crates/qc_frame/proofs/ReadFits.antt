-- Frames that were read have a spelling that is read back
use Rattle.std.proofs.Common.{◌≡◌, ℕ, zero, suc, ◌+◌, ◌-◌, ◌<◌, ◌≤◌, Bool, true, false, cond, ◌==◌, List, [], ◌∷◌, ◌++◌, length, Option, None, Some, refl, sym, ap, ◌∙◌, subst, append_assoc, arith, lit<}
use Rattle.std.proofs.lemmas.List.{append_cancel_right, length-append}
use Rattle.std.proofs.lemmas.Bool.Decides.{nat_tests}
use Rattle.qc_base.specs.Varint.{IsNumber, Form, one, two, four, eight, limit, spelled}
use Rattle.qc_base.specs.Grammar.{Varint, Blob}
use Rattle.qc_base.proofs.Varints.{found_varint, varint_shorter}
use Rattle.qc_frame.specs.Frame.{FrameValue, TypedValue}
use Rattle.qc_frame.specs.FrameReading.{type_given}
use Rattle.qc_frame.specs.FrameSpelling.{numbers_of}
use Rattle.qc_frame.specs.FrameFits.{MoreRangesFit, RangesFit, CountsFit, TypeFits, Fits}
use Rattle.qc_frame.specs.FrameGrammar as grammar
use Rattle.qc_frame.specs.FrameGrammar.{Fields, FrameAt}
use Rattle.qc_frame.specs.declared.frames.EcnCounts.{EcnCounts}
use Rattle.qc_frame.specs.declared.frames.FrameOf.TheVariants as frames
use Rattle.qc_frame.proofs.EachKind.{more_ranges_exact}
use Rattle.qc_frame.proofs.Numbers.{numbers_of_none, numbers_of_next}

below : (f : Form) (n : ℕ) → n < limit f → IsNumber n
below one n h = omega arith
below two n h = omega arith
below four n h = omega arith
below eight n h = h

number : (n : ℕ) (a b : List ℕ) → Varint n a b → IsNumber n
number n a b (f, h, e) = below f n h

shorter : (n : ℕ) (a b : List ℕ) → Varint n a b → length b < length a
shorter n a b s = varint_shorter a n b (found_varint.again a n b s)

blob_size : (x a z : List ℕ) → Blob x a z → IsNumber (length x)
blob_size x a z s = subst (λ (n : ℕ). IsNumber n) (sym s.3.0) (number s.0 a s.1 s.2)

-- ---- ACK

none_before : (t z : List ℕ) → z ≡ t ++ z → t ≡ []
none_before [] z e = refl
none_before (x ∷ t) z e = let size = ap length e in absurd (omega (arith, size, length-append (x ∷ t) z))

more_text : (count smallest : ℕ) (a t z : List ℕ) → grammar.MoreRanges count smallest tt a z → a ≡ t ++ z → MoreRangesFit smallest (numbers_of t)
more_text zero smallest a t z s e =
    let none : t ≡ [] = none_before t z (s.1 ∙ e) in
    subst (λ (ns : List ℕ). MoreRangesFit smallest ns) (sym (ap numbers_of none ∙ numbers_of_none)) tt
more_text (suc count) smallest a t z (gap, b, (f, h, e1), (low, (len, c, (g, k, e2), (lower, more)))) e =
    let end = (more_ranges_exact count (smallest - (gap + 2) - len)).ends c tt z ((more_ranges_exact count (smallest - (gap + 2) - len)).again c tt z more) in
    let u = end.0 in
    let tail : List ℕ = spelled g len ++ u in
    let back : tail ++ z ≡ b = append_assoc (spelled g len) u z ∙ ap (λ (r : List ℕ). spelled g len ++ r) (sym end.1) ∙ sym e2 in
    let whole : (spelled f gap ++ tail) ++ z ≡ t ++ z = append_assoc (spelled f gap) tail z ∙ ap (λ (r : List ℕ). spelled f gap ++ r) back ∙ sym e1 ∙ e in
    let text : t ≡ spelled f gap ++ tail = sym (append_cancel_right (spelled f gap ++ tail) t z whole) in
    let first = numbers_of_next gap t tail (found_varint.again t gap tail (f, h, text)) in
    let second = numbers_of_next len tail u (found_varint.again tail len u (g, k, refl)) in
    subst (λ (ns : List ℕ). MoreRangesFit smallest ns) (sym (first ∙ ap (λ (ns : List ℕ). gap ∷ ns) second))
    (low, lower, more_text count (smallest - (gap + 2) - len) c u z more end.1)

ranges_text : (count largest : ℕ) (a t z : List ℕ) → grammar.Ranges count largest tt a z → a ≡ t ++ z → RangesFit largest (numbers_of t)
ranges_text count largest a t z (first, b, (f, h, e1), (most, more)) e =
    let end = (more_ranges_exact count (largest - first)).ends b tt z ((more_ranges_exact count (largest - first)).again b tt z more) in
    let u = end.0 in
    let back : u ++ z ≡ b = sym end.1 in
    let whole : (spelled f first ++ u) ++ z ≡ t ++ z = append_assoc (spelled f first) u z ∙ ap (λ (r : List ℕ). spelled f first ++ r) back ∙ sym e1 ∙ e in
    let text : t ≡ spelled f first ++ u = sym (append_cancel_right (spelled f first ++ u) t z whole) in
    let next = numbers_of_next first t u (found_varint.again t first u (f, h, text)) in
    subst (λ (ns : List ℕ). RangesFit largest ns) (sym next) (most, more_text count (largest - first) b u z more end.1)

counts_fit : (has_counts : Bool) (ecn : Option EcnCounts) (a z : List ℕ) → grammar.Counts has_counts ecn a z → CountsFit ecn
counts_fit false ecn a z s = subst CountsFit (sym s.0) tt
counts_fit true ecn a z (x, b, v, (y, c, w, (u, d, r, (e, _)))) = subst CountsFit (sym e) (number x a b v, number y b c w, number u c d r)

-- ---- all kinds

fits_as : (f g : FrameValue) → f ≡ g → Fits g → Fits f
fits_as f g e fits = subst Fits (sym e) fits

ack_fits : (has_counts : Bool) (f : FrameValue) (a z : List ℕ) → grammar.Ack has_counts f a z → Fits f
unfolding Fits
ack_fits has_counts f a z (largest, b, l, (delay, c, d, (count, r, n, (text, t, (_, ranges, text_is), (ecn, u, e, (is, _)))))) =
    fits_as f (frames.Ack (record { largest = largest; delay = delay; additional = text; ecn = ecn })) is
    (number largest a b l, number delay b c d, ranges_text count largest r text t ranges text_is, counts_fit has_counts ecn t u e)

type_fits : (ty : ℕ) (none : Bool) → (ty == 0) ≡ none → IsNumber ty → TypeFits (cond none None (Some ty))
type_fits ty true e h = tt
type_fits ty false e h = (grind (arith, nat_tests), h)

offset_fits : (has_offset : Bool) (offset : ℕ) (a b : List ℕ) → grammar.Offset has_offset offset a b → IsNumber offset × (length b ≤ length a)
offset_fits false offset a b (is, rest) = (subst (λ (n : ℕ). IsNumber n) (sym is) (lit< tt), let size = ap length rest in omega arith)
offset_fits true offset a b s = (number offset a b s, let less = shorter offset a b s in omega arith)

body_fits : (has_length : Bool) (body a z : List ℕ) → IsNumber (length a) → grammar.Body has_length body a z → IsNumber (length body)
body_fits false body a z size (is, _) = subst (λ (x : List ℕ). IsNumber (length x)) (sym is) size
body_fits true body a z size s = blob_size body a z s

stream_fits : (has_offset has_length fin : Bool) (f : FrameValue) (a z : List ℕ) → IsNumber (length a) → grammar.Stream has_offset has_length fin f a z → Fits f
unfolding Fits
stream_fits has_offset has_length fin f a z size (id, b, i, (offset, c, o, (body, d, s, (is, _)))) =
    let less = shorter id a b i in
    let at = offset_fits has_offset offset b c o in
    let fewer = at.1 in
    fits_as f (frames.Stream id offset fin body) is (number id a b i, at.0, body_fits has_length body c d (omega arith) s)

datagram_fits : (has_length : Bool) (f : FrameValue) (a z : List ℕ) → IsNumber (length a) → grammar.Datagram has_length f a z → Fits f
unfolding Fits
datagram_fits has_length f a z size (body, b, s, (is, _)) = fits_as f (frames.Datagram body) is (body_fits has_length body a b size s)

fields_fit : (f : FrameValue) (a z : List ℕ) (ty : ℕ) → IsNumber (length a) → Fields f a z ty → Fits f
unfolding Fits
fields_fit f a z ty size (grammar.is_padding (is, _)) = fits_as f frames.Padding is tt
fields_fit f a z ty size (grammar.is_ping (is, _)) = fits_as f frames.Ping is tt
fields_fit f a z ty size (grammar.is_ack s) = ack_fits false f a z s
fields_fit f a z ty size (grammar.is_ack_with_counts s) = ack_fits true f a z s
fields_fit f a z ty size (grammar.is_reset_stream (id, b, i, (code, c, e, (end, d, n, (is, _))))) =
    fits_as f (frames.ResetStream id code end) is (number id a b i, number code b c e, number end c d n)
fields_fit f a z ty size (grammar.is_stop_sending (id, b, i, (code, c, e, (is, _)))) = fits_as f (frames.StopSending id code) is (number id a b i, number code b c e)
fields_fit f a z ty size (grammar.is_crypto (offset, b, o, (body, c, s, (is, _)))) = fits_as f (frames.Crypto offset body) is (number offset a b o, blob_size body b c s)
fields_fit f a z ty size (grammar.is_new_token (token, b, s, (is, _))) = fits_as f (frames.NewToken token) is (blob_size token a b s)
fields_fit f a z ty size (grammar.is_stream has_offset has_length fin s) = stream_fits has_offset has_length fin f a z size s
fields_fit f a z ty size (grammar.is_max_data (n, b, v, (is, _))) = fits_as f (frames.MaxData n) is (number n a b v)
fields_fit f a z ty size (grammar.is_max_stream_data (id, b, i, (n, c, v, (is, _)))) = fits_as f (frames.MaxStreamData id n) is (number id a b i, number n b c v)
fields_fit f a z ty size (grammar.is_max_streams dir (n, b, v, (is, _))) = fits_as f (frames.MaxStreams dir n) is (number n a b v)
fields_fit f a z ty size (grammar.is_data_blocked (n, b, v, (is, _))) = fits_as f (frames.DataBlocked n) is (number n a b v)
fields_fit f a z ty size (grammar.is_stream_data_blocked (id, b, i, (n, c, v, (is, _)))) = fits_as f (frames.StreamDataBlocked id n) is (number id a b i, number n b c v)
fields_fit f a z ty size (grammar.is_streams_blocked dir (n, b, v, (is, _))) = fits_as f (frames.StreamsBlocked dir n) is (number n a b v)
fields_fit f a z ty size (grammar.is_new_connection_id (sequence, b, s, (retire, c, r, (most, (len, d, l, (long, (id, e, i, (token, g, t, (is, _))))))))) =
    fits_as f (frames.NewConnectionId (record { sequence = sequence; retire_prior_to = retire; id = id; reset_token = token })) is
    (number sequence a b s, most, subst (λ (n : ℕ). 0 < n) (sym i.0) long.0, subst (λ (n : ℕ). n ≤ 20) (sym i.0) long.1, t.0)
fields_fit f a z ty size (grammar.is_retire_connection_id (n, b, v, (is, _))) = fits_as f (frames.RetireConnectionId n) is (number n a b v)
fields_fit f a z ty size (grammar.is_path_challenge (w, b, v, (is, _))) = fits_as f (frames.PathChallenge w) is v.0
fields_fit f a z ty size (grammar.is_path_response (w, b, v, (is, _))) = fits_as f (frames.PathResponse w) is v.0
fields_fit f a z ty size (grammar.is_connection_close (code, b, v, (of, c, t, (reason, d, s, (is, _))))) =
    fits_as f (frames.ConnectionClose code (type_given of) reason) is (number code a b v, type_fits of (of == 0) refl (number of b c t), blob_size reason c d s)
fields_fit f a z ty size (grammar.is_application_close (code, b, v, (reason, c, s, (is, _)))) = fits_as f (frames.ApplicationClose code reason) is (number code a b v, blob_size reason b c s)
fields_fit f a z ty size (grammar.is_handshake_done (is, _)) = fits_as f frames.HandshakeDone is tt
fields_fit f a z ty size (grammar.is_datagram s) = datagram_fits false f a z size s
fields_fit f a z ty size (grammar.is_datagram_with_length s) = datagram_fits true f a z size s

pub read_fits : (f : TypedValue) (a z : List ℕ) → IsNumber (length a) → FrameAt f a z → Fits f.frame
read_fits f a z size (b, t, fields) = let less = shorter f.ty a b t in fields_fit f.frame b z f.ty (omega arith) fields
