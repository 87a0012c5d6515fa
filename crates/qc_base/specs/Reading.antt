-- Reading bytes. A reader gives a value and the bytes behind it, or a fault.
--
-- The names of what reads, here and in the specs of frames, headers and parameters:
--   x_of bytes     the x at the front of the bytes and what is behind it, or None where they are cut
--   x_at           the same as a Reader, which names its fault
--   x_in           the x that stands in a table or a list of entries, found by its key
--   x_value bytes  the x that all of the bytes are, with none behind it
-- Of something that isn't bytes, x_of y is the x that belongs to y.
use Rattle.std.specs.Prelude.{◌≡◌, ℕ, ◌-◌, Bool, List, [], ◌∷◌, length, take, drop, nat_lt, if◌then◌else◌, Result, Ok, Err, MatchResult, Option, None, Some}
use Rattle.std.specs.Option.{ok_or, option_map, option_and_then}
use Rattle.std.specs.Int.{Width, byte_len, from_be_bytes}
use Rattle.qc_base.specs.Varint.{Form, one, two, four, eight, width, mark}

-- what reads an X at the front of bytes, with the faults E
abbrev pub Reader : Type 0 → Type 0 → Type 0
Reader E X = List ℕ → Result (X × List ℕ) E

-- reads on behind the value
abbrev pub read_on : {E X Y : Type 0} → Result (X × List ℕ) E → (X → Reader E Y) → Result (Y × List ℕ) E
read_on (Ok x) k = k x.0 x.1
read_on (Err e) k = Err e

infixl 10 ◌>>=◌
-- one reader, and then the one that its value asks for
abbrev pub ◌>>=◌ : {E X Y : Type 0} → Reader E X → (X → Reader E Y) → Reader E Y
(r >>= k) bytes = read_on (r bytes) k

-- reads nothing, and gives this value
abbrev pub give : {E X : Type 0} → X → Reader E X
give x bytes = Ok (x, bytes)

-- a fault at this place, where the test holds
abbrev pub refuse : {E X : Type 0} → Bool → E → Reader E X → Reader E X
refuse test e r bytes = if test then Err e else r bytes

-- the bytes that r reads
abbrev pub text_of : {E X : Type 0} → Reader E X → Reader E (List ℕ)
text_of r bytes = read_on (r bytes) (λ _ rest. Ok (take (length bytes - length rest) bytes, rest))

-- reads nothing, and gives how many bytes are left
abbrev pub left_at : {E : Type 0} → Reader E ℕ
left_at bytes = Ok (length bytes, bytes)

-- all bytes that are left
abbrev pub rest_at : {E : Type 0} → Reader E (List ℕ)
rest_at bytes = Ok (bytes, [])

-- what is spelled at the front, or this fault where the bytes end before it does
abbrev pub or_fault : {E X : Type 0} → E → (List ℕ → Option (X × List ℕ)) → Reader E X
or_fault e read bytes = ok_or (read bytes) e

-- ---- the front of the bytes, None where they are cut

-- one byte
abbrev pub byte_of : List ℕ → Option (ℕ × List ℕ)
byte_of [] = None
byte_of (b ∷ bytes) = Some (b, bytes)

-- so many bytes
abbrev pub bytes_of : ℕ → List ℕ → Option (List ℕ × List ℕ)
bytes_of n bytes = if nat_lt (length bytes) n then None else Some (take n bytes, drop n bytes)

-- a big-endian number of fixed width
unfoldable pub word_of : Width → List ℕ → Option (ℕ × List ℕ)
word_of w bytes = option_map (λ x. (from_be_bytes w x.0, x.1)) (bytes_of (byte_len w) bytes)

-- which form a variable-length integer has, by the first two bits of its first byte (RFC 9000, section 16)
abbrev pub form_of : ℕ → Form
form_of b = if nat_lt b 64 then one else if nat_lt b 128 then two else if nat_lt b 192 then four else eight

-- a variable-length integer of this form
abbrev pub in_form : Form → List ℕ → Option (ℕ × List ℕ)
in_form f bytes = option_map (λ x. (from_be_bytes (width f) x.0 - mark f, x.1)) (bytes_of (byte_len (width f)) bytes)

-- a variable-length integer, of any length
unfoldable pub varint_of : List ℕ → Option (ℕ × List ℕ)
varint_of [] = None
varint_of (b ∷ bytes) = in_form (form_of b) (b ∷ bytes)

-- a byte string behind its length
unfoldable pub blob_of : List ℕ → Option (List ℕ × List ℕ)
blob_of bytes = option_and_then (λ x. bytes_of x.0 x.1) (varint_of bytes)

-- ---- what a function returned is a reading

-- what a function returned is this reading, its values seen by view
abbrev pub Gives : {E A X : Type 0} → (A → X × List ℕ) → Result A E → Result (X × List ℕ) E → Type 0
Gives view result reading = MatchResult result (λ a. reading ≡ Ok (view a)) (λ e. reading ≡ Err e)

-- and where the reading has no fault to name
abbrev pub Finds : {E A X : Type 0} → (A → X × List ℕ) → Result A E → Option (X × List ℕ) → Type 0
Finds view result reading = MatchResult result (λ a. reading ≡ Some (view a)) (λ _. reading ≡ None)
