-- The text of an answer tells the answer, where the call is known.
use Rattle.std.proofs.Common.{◌≡◌, ℕ, ◌+◌, ◌*◌, ◌/◌, ◌%◌, ◌<◌, Bool, true, false, ◌==◌, List, [], ◌∷◌, ◌++◌, length, drop, get_or, Option, Some, None, refl, sym, ap, ◌∙◌, append_assoc, arith}
use Rattle.std.specs.Prelude.{decimal, codes, ◌||◌}
use Rattle.std.proofs.lemmas.Bool.Decides.{nat_tests}
use Rattle.std.specs.Net.Addr.{ipv4_octets, ipv6_octets, octets_of}
use Rattle.std.specs.Net.Socket.{socket_ip, socket_port}
use Rattle.std.specs.declared.net.socket_addr.SocketAddr.{SocketAddr}
use Rattle.std.specs.declared.net.socket_addr.SocketAddr.TheVariants.{V4, V6}
use Rattle.hex.specs.Hex.{encode_lower}
use Rattle.qc_base.specs.Ecn.{ecn_bits}
use Rattle.qc_base.specs.Grammar.{IsBytes}
use Rattle.qc_base.specs.declared.ecn.EcnCodepoint.{EcnCodepoint}
use Rattle.qc_base.specs.declared.ecn.EcnCodepoint.TheVariants.{Ect0, Ect1, Ce}
use Rattle.qc_state.specs.declared.input.Word.{Word}
use Rattle.qc_state.specs.declared.input.Word.TheVariants as word
use Rattle.qc_state.specs.declared.trace.Answer.{Answer}
use Rattle.qc_state.specs.declared.trace.Answer.TheVariants as answer
use Rattle.qc_state.specs.declared.trace.Refusal.{Refusal}
use Rattle.qc_state.specs.declared.trace.Refusal.TheVariants as refusal
use Rattle.qc_text.specs.TraceText.{number_or_dash, bytes_or_dash, ip_text, address_text, ecn_text, target_text, marks_text, out_text, refusal_text, read_text, answer_text}
use Rattle.qc_text.specs.OneText.{IsOptionInRange, IsAddressInRange, IsPlainAddress, IsRefusalInRange, IsAnswerInRange, IsAnswerPlain}
use Rattle.qc_text.proofs.Tokens.{number_back, bytes_back}
use Rattle.qc_text.proofs.FieldsBack.{option_back, body_back}

-- ---- addresses

octets_injective : (a b : List ℕ) → octets_of a ≡ octets_of b → a ≡ b
octets_injective [] [] e = refl
octets_injective [] (y ∷ b) e = cc e
octets_injective (x ∷ a) [] e = cc e
octets_injective (x ∷ a) (y ∷ b) e =
    let high : x / 256 ≡ y / 256 = ap (λ (o : List ℕ). get_or o 0 0) e in
    let low : x % 256 ≡ y % 256 = ap (λ (o : List ℕ). get_or o 1 0) e in
    let first : x ≡ y = omega arith in
    let others = octets_injective a b (ap (drop 2) e) in
    cc

address_parts : (a : SocketAddr) (r : List ℕ) → address_text a ++ 32 ∷ r ≡ ip_text (socket_ip a) ++ 47 ∷ (decimal (socket_port a) ++ 32 ∷ r)
unfolding address_text
address_parts a r = simp append_assoc

-- the octets of an address
octets : SocketAddr → List ℕ
octets (V4 a) = ipv4_octets a.ip
octets (V6 a) = ipv6_octets a.ip

octets_in_range : (a : SocketAddr) → IsAddressInRange a → IsBytes (octets a)
unfolding octets
octets_in_range (V4 a) h = h.0.1
octets_in_range (V6 a) h = h.0.1

ip_is_octets : (a : SocketAddr) → ip_text (socket_ip a) ≡ encode_lower (octets a)
unfolding octets ip_text
ip_is_octets (V4 a) = refl
ip_is_octets (V6 a) = refl

-- an address is told by its octets and its port
address_injective : (a b : SocketAddr) → IsAddressInRange a → IsAddressInRange b → IsPlainAddress a → IsPlainAddress b → octets a ≡ octets b → socket_port a ≡ socket_port b → a ≡ b
unfolding octets
address_injective (V4 a) (V4 b) p q k l o n = λ i. V4 (record { ip = record { octets = o i }; port = n i })
address_injective (V4 a) (V6 b) p q k l o n = absurd (omega (arith, p.0.0, q.0.0, ap length o))
address_injective (V6 a) (V4 b) p q k l o n = absurd (omega (arith, p.0.0, q.0.0, ap length o))
address_injective (V6 a) (V6 b) p q k l o n =
    let segments = octets_injective a.ip.segments b.ip.segments o in
    let flow : a.flowinfo ≡ b.flowinfo = k.0 ∙ sym l.0 in
    let scope : a.scope_id ≡ b.scope_id = k.1 ∙ sym l.1 in
    λ i. V6 (record { ip = record { segments = segments i }; port = n i; flowinfo = flow i; scope_id = scope i })

pub address_back : (a b : SocketAddr) (r s : List ℕ) → IsAddressInRange a → IsAddressInRange b → IsPlainAddress a → IsPlainAddress b
    → address_text a ++ 32 ∷ r ≡ address_text b ++ 32 ∷ s → (a ≡ b) × (r ≡ s)
address_back a b r s p q k l e =
    let parts = sym (address_parts a r) ∙ e ∙ address_parts b s in
    let named : encode_lower (octets a) ++ 47 ∷ (decimal (socket_port a) ++ 32 ∷ r) ≡ encode_lower (octets b) ++ 47 ∷ (decimal (socket_port b) ++ 32 ∷ s)
    = rw (← ip_is_octets a, ← ip_is_octets b) parts in
    let ips = bytes_back (octets a) (octets b) 47 47 _ _ (octets_in_range a p) (octets_in_range b q) refl refl named in
    let port = number_back (socket_port a) (socket_port b) 32 32 r s (omega arith) (omega arith) refl refl (ap (drop 1) ips.1) in
    (address_injective a b p q k l ips.0 port.0, ap (drop 1) port.1)

-- ---- datagrams

bits_of : Option EcnCodepoint → Option ℕ
bits_of None = None
bits_of (Some mark) = Some (ecn_bits mark)

ecn_is_bits : (o : Option EcnCodepoint) → ecn_text o ≡ number_or_dash (bits_of o)
unfolding bits_of ecn_text number_or_dash
ecn_is_bits None = refl
ecn_is_bits (Some mark) = refl

small_bits : (o : Option EcnCodepoint) → IsOptionInRange (bits_of o)
unfolding bits_of
small_bits None = tt
small_bits (Some Ect0) = omega arith
small_bits (Some Ect1) = omega arith
small_bits (Some Ce) = omega arith

bits_or_none : Option ℕ → ℕ
bits_or_none None = 0
bits_or_none (Some n) = n

mark_injective : (a b : EcnCodepoint) → ecn_bits a ≡ ecn_bits b → a ≡ b
mark_injective Ect0 Ect0 e = refl
mark_injective Ect1 Ect1 e = refl
mark_injective Ce Ce e = refl
mark_injective _ _ e = absurd (omega (arith, e))

some_bits : (mark : EcnCodepoint) → 0 < ecn_bits mark
some_bits Ect0 = omega arith
some_bits Ect1 = omega arith
some_bits Ce = omega arith

bits_injective : (a b : Option EcnCodepoint) → bits_of a ≡ bits_of b → a ≡ b
unfolding bits_of bits_or_none
bits_injective None None e = refl
bits_injective None (Some mark) e = absurd (omega (arith, some_bits mark, ap bits_or_none e))
bits_injective (Some mark) None e = absurd (omega (arith, some_bits mark, ap bits_or_none e))
bits_injective (Some a) (Some b) e = ap Some (mark_injective a b (ap bits_or_none e))

target_parts : (a : SocketAddr) (size : ℕ) (r : List ℕ) → target_text a size ++ r ≡ codes "out " ++ (address_text a ++ 32 ∷ (decimal size ++ 32 ∷ r))
unfolding target_text
target_parts a size r = simp append_assoc

marks_parts : (segment : Option ℕ) (ecn : Option EcnCodepoint) (r : List ℕ) → marks_text segment ecn ++ r ≡ number_or_dash segment ++ 32 ∷ (ecn_text ecn ++ 32 ∷ r)
unfolding marks_text
marks_parts segment ecn r = simp append_assoc

-- datagrams as they are read
out_parts : (a : SocketAddr) (segment : Option ℕ) (ecn : Option EcnCodepoint) (bytes r : List ℕ) → out_text a segment ecn bytes ++ r
    ≡ codes "out " ++ (address_text a ++ 32 ∷ (decimal (length bytes) ++ 32 ∷ (number_or_dash segment ++ 32 ∷ (ecn_text ecn ++ 32 ∷ (encode_lower bytes ++ 10 ∷ r)))))
unfolding out_text
out_parts a segment ecn bytes r =
    let regrouped : out_text a segment ecn bytes ++ r ≡ target_text a (length bytes) ++ (marks_text segment ecn ++ (encode_lower bytes ++ 10 ∷ r)) = simp append_assoc in
    regrouped ∙ target_parts a (length bytes) (marks_text segment ecn ++ (encode_lower bytes ++ 10 ∷ r))
    ∙ ap (λ (z : List ℕ). codes "out " ++ (address_text a ++ 32 ∷ (decimal (length bytes) ++ 32 ∷ z))) (marks_parts segment ecn (encode_lower bytes ++ 10 ∷ r))

out_back : (a b : SocketAddr) (x y : Option ℕ) (u v : Option EcnCodepoint) (bs cs r s : List ℕ)
    → IsAnswerInRange (answer.Out a x u bs) → IsAnswerInRange (answer.Out b y v cs) → IsAnswerPlain (answer.Out a x u bs) → IsAnswerPlain (answer.Out b y v cs)
    → out_text a x u bs ++ r ≡ out_text b y v cs ++ s → (answer.Out a x u bs ≡ answer.Out b y v cs) × (r ≡ s)
out_back a b x y u v bs cs r s p q k l e =
    let parts = sym (out_parts a x u bs r) ∙ e ∙ out_parts b y v cs s in
    let address = address_back a b _ _ p.0 q.0 k l (ap (drop 4) parts) in
    let size = number_back (length bs) (length cs) 32 32 _ _ (omega arith) (omega arith) refl refl address.1 in
    let segment = option_back x y 32 32 _ _ p.1 q.1 refl refl (ap (drop 1) size.1) in
    let marked : number_or_dash (bits_of u) ++ 32 ∷ (encode_lower bs ++ 10 ∷ r) ≡ number_or_dash (bits_of v) ++ 32 ∷ (encode_lower cs ++ 10 ∷ s)
    = rw (← ecn_is_bits u, ← ecn_is_bits v) (ap (drop 1) segment.1) in
    let mark = option_back (bits_of u) (bits_of v) 32 32 _ _ (small_bits u) (small_bits v) refl refl marked in
    let bytes = bytes_back bs cs 10 10 r s p.3 q.3 refl refl (ap (drop 1) mark.1) in
    (same address.0 segment.0 (bits_injective u v mark.0) bytes.0, ap (drop 1) bytes.1)
  where
    same : a ≡ b → x ≡ y → u ≡ v → bs ≡ cs → answer.Out a x u bs ≡ answer.Out b y v cs
    same i j k l = cc

-- ---- calls on streams and of datagrams

-- why a call was refused, up to the line's end; the first letters differ
refusal_back : (a b : Refusal) (r s : List ℕ) → IsRefusalInRange a → IsRefusalInRange b → refusal_text a ++ 10 ∷ r ≡ refusal_text b ++ 10 ∷ s → (a ≡ b) × (r ≡ s)
unfolding refusal_text
refusal_back refusal.Blocked refusal.Blocked r s p q e = (refl, ap (drop 8) e)
refusal_back refusal.ClosedStream refusal.ClosedStream r s p q e = (refl, ap (drop 13) e)
refusal_back (refusal.Stopped m) (refusal.Stopped n) r s p q e =
    let parts = simp append_assoc at e in
    let code = number_back m n 10 10 r s (omega arith) (omega arith) refl refl (ap (drop 8) parts) in
    (ap refusal.Stopped code.0, ap (drop 1) code.1)
refusal_back refusal.IllegalOrderedRead refusal.IllegalOrderedRead r s p q e = (refl, ap (drop 19) e)
refusal_back (refusal.Reset m) (refusal.Reset n) r s p q e =
    let parts = simp append_assoc at e in
    let code = number_back m n 10 10 r s (omega arith) (omega arith) refl refl (ap (drop 6) parts) in
    (ap refusal.Reset code.0, ap (drop 1) code.1)
refusal_back refusal.Disabled refusal.Disabled r s p q e = (refl, ap (drop 9) e)
refusal_back refusal.UnsupportedByPeer refusal.UnsupportedByPeer r s p q e = (refl, ap (drop 18) e)
refusal_back refusal.TooLarge refusal.TooLarge r s p q e = (refl, ap (drop 9) e)
refusal_back _ _ r s p q e = absurd (omega (arith, ap (λ (a : List ℕ). get_or a 0 0) e))

read_parts : (offset : ℕ) (body r : List ℕ) → read_text offset body ++ r ≡ codes "answer read " ++ (decimal offset ++ 32 ∷ (bytes_or_dash body ++ 10 ∷ r))
unfolding read_text
read_parts offset body r = simp append_assoc

read_back : (m n : ℕ) (a b r s : List ℕ) → IsAnswerInRange (answer.Read m a) → IsAnswerInRange (answer.Read n b)
    → read_text m a ++ r ≡ read_text n b ++ s → (answer.Read m a ≡ answer.Read n b) × (r ≡ s)
read_back m n a b r s p q e =
    let parts = sym (read_parts m a r) ∙ e ∙ read_parts n b s in
    let offset = number_back m n 32 32 _ _ (omega arith) (omega arith) refl refl (ap (drop 12) parts) in
    let body = body_back a b 10 10 r s p.1 q.1 refl refl (ap (drop 1) offset.1) in
    (same offset.0 body.0, ap (drop 1) body.1)
  where
    same : m ≡ n → a ≡ b → answer.Read m a ≡ answer.Read n b
    same i j = cc

-- ---- answers

-- what follows an answer: events, endpoint events or the timer
abbrev pub is_after_answer : List ℕ → Bool
is_after_answer r = (get_or r 0 0 == 101) || (get_or r 0 0 == 116)

-- By this number the texts of two answers are told apart: where a text begins with `a`, as `answer` does, it is that of the two letters
-- behind `answer `; where it begins with `o`, as `out` does, it is 1, and else that of `answer none`.
abbrev mark_by : (is_answer is_out : Bool) → List ℕ → ℕ
mark_by true is_out text = 2 * get_or text 7 0 + get_or text 8 0
mark_by false true text = 1
mark_by false false text = 331

mark : List ℕ → ℕ
mark text = mark_by (get_or text 0 0 == 97) (get_or text 0 0 == 111) text

abbrev number : Answer → ℕ
number answer.Done = 311
number answer.Dropped = 314
number answer.Nothing = 331
number (answer.Flag true) = 346
number (answer.Flag false) = 301
number (answer.Opened id) = 334
number (answer.Accepted id) = 293
number (answer.Wrote count) = 352
number (answer.Read offset body) = 329
number answer.Ended = 312
number (answer.Datagram body) = 297
number (answer.Error why) = 316
number (answer.Out destination segment ecn bytes) = 1

no_answer_after : (r : List ℕ) → is_after_answer r ≡ true → mark r ≡ 331
unfolding mark
no_answer_after r h =
    let answer : (get_or r 0 0 == 97) ≡ false = grind (arith, nat_tests) in
    let out : (get_or r 0 0 == 111) ≡ false = grind (arith, nat_tests) in
    rw (answer, out) refl

marked : (w : Word) (a : Answer) (r : List ℕ) → is_after_answer r ≡ true → mark (answer_text w a ++ r) ≡ number a
unfolding mark answer_text read_text out_text target_text
marked w answer.Done r h = refl
marked w answer.Dropped r h = refl
marked word.Transmit answer.Nothing r h = no_answer_after r h
marked _ answer.Nothing r h = refl
marked w (answer.Flag true) r h = refl
marked w (answer.Flag false) r h = refl
marked w (answer.Opened id) r h = refl
marked w (answer.Accepted id) r h = refl
marked w (answer.Wrote count) r h = refl
marked w (answer.Read offset body) r h = refl
marked w answer.Ended r h = refl
marked w (answer.Datagram body) r h = refl
marked w (answer.Error why) r h = refl
marked w (answer.Out destination segment ecn bytes) r h = refl

-- two answers with one text have one mark
one_mark : (w : Word) (a b : Answer) (r s : List ℕ) → is_after_answer r ≡ true → is_after_answer s ≡ true → answer_text w a ++ r ≡ answer_text w b ++ s → number a ≡ number b
one_mark w a b r s g h e = sym (marked w a r g) ∙ ap mark e ∙ marked w b s h

pub answer_back : (w : Word) (a b : Answer) (r s : List ℕ) → IsAnswerInRange a → IsAnswerInRange b → IsAnswerPlain a → IsAnswerPlain b
    → is_after_answer r ≡ true → is_after_answer s ≡ true → answer_text w a ++ r ≡ answer_text w b ++ s → (a ≡ b) × (r ≡ s)
unfolding answer_text
answer_back w answer.Done answer.Done r s p q k l g h e = (refl, ap (drop 12) e)
answer_back w answer.Dropped answer.Dropped r s p q k l g h e = (refl, ap (drop 15) e)
answer_back word.Transmit answer.Nothing answer.Nothing r s p q k l g h e = (refl, e)
answer_back _ answer.Nothing answer.Nothing r s p q k l g h e = (refl, ap (drop 12) e)
answer_back w (answer.Flag true) (answer.Flag true) r s p q k l g h e = (refl, ap (drop 12) e)
answer_back w (answer.Flag false) (answer.Flag false) r s p q k l g h e = (refl, ap (drop 13) e)
answer_back w (answer.Opened m) (answer.Opened n) r s p q k l g h e =
    let parts = simp append_assoc at e in
    let id = number_back m n 10 10 r s (omega arith) (omega arith) refl refl (ap (drop 14) parts) in
    (ap answer.Opened id.0, ap (drop 1) id.1)
answer_back w (answer.Accepted m) (answer.Accepted n) r s p q k l g h e =
    let parts = simp append_assoc at e in
    let id = number_back m n 10 10 r s (omega arith) (omega arith) refl refl (ap (drop 16) parts) in
    (ap answer.Accepted id.0, ap (drop 1) id.1)
answer_back w (answer.Wrote m) (answer.Wrote n) r s p q k l g h e =
    let parts = simp append_assoc at e in
    let count = number_back m n 10 10 r s (omega arith) (omega arith) refl refl (ap (drop 13) parts) in
    (ap answer.Wrote count.0, ap (drop 1) count.1)
answer_back w (answer.Read m a) (answer.Read n b) r s p q k l g h e = read_back m n a b r s p q e
answer_back w answer.Ended answer.Ended r s p q k l g h e = (refl, ap (drop 13) e)
answer_back w (answer.Datagram a) (answer.Datagram b) r s p q k l g h e =
    let parts = simp append_assoc at e in
    let body = body_back a b 10 10 r s p q refl refl (ap (drop 16) parts) in
    (ap answer.Datagram body.0, ap (drop 1) body.1)
answer_back w (answer.Error a) (answer.Error b) r s p q k l g h e =
    let parts = simp append_assoc at e in
    let why = refusal_back a b r s p q (ap (drop 13) parts) in
    (ap answer.Error why.0, why.1)
answer_back w (answer.Out a x u bs) (answer.Out b y v cs) r s p q k l g h e = out_back a b x y u v bs cs r s p q k l e
answer_back w (answer.Flag true) b r s p q k l g h e = absurd (omega (arith, one_mark w (answer.Flag true) b r s g h e))
answer_back w (answer.Flag false) b r s p q k l g h e = absurd (omega (arith, one_mark w (answer.Flag false) b r s g h e))
answer_back w a (answer.Flag true) r s p q k l g h e = absurd (omega (arith, one_mark w a (answer.Flag true) r s g h e))
answer_back w a (answer.Flag false) r s p q k l g h e = absurd (omega (arith, one_mark w a (answer.Flag false) r s g h e))
answer_back w a b r s p q k l g h e = absurd (omega (arith, one_mark w a b r s g h e))
