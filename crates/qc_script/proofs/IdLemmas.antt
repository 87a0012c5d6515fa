-- Ids that an endpoint gives: what their fields spell, and that nothing else does.
use Rattle.std.proofs.Common.{◌≡◌, ◌≢◌, ℕ, ◌+◌, ◌%◌, ◌/◌, ◌^◌, ◌<◌, ◌==◌, suc, false, slice_index, List, [], ◌∷◌, ◌++◌, length, refl, sym, ◌∙◌, ap, subst, arith, append-nil}
use Rattle.std.proofs.lemmas.Bool.{agree_below_at, false≢true}
use Rattle.std.proofs.lemmas.Fmt.{decimal_by_steps, decimal_injective}
use Rattle.std.proofs.lemmas.List.{append_assoc}
use Rattle.std.specs.Fmt.{decimal}
use Rattle.hex.specs.Hex.{encode_lower, encode_with, lower_digits}
use Rattle.qc_base.specs.Grammar.{IsBytes}
use Rattle.qc_base.specs.declared.ids.IssuedCid.{IssuedCid}
use Rattle.qc_script.specs.Fields.{Lacks, hex_field}
use Rattle.qc_script.specs.Script.{AreIssued, IsIssued, ids_text, issued_text}
use Rattle.qc_script.proofs.FieldLemmas.{Lacks-hex_field, hex_field_injective}
use Rattle.qc_script.proofs.NumberLemmas.{Lacks-append, Lacks-decimal, first_split, no_split}

-- ---- numbers and bytes have no colon

Lacks_colon-decimal : (n : ℕ) → n < 2 ^ 64 → Lacks 58 (decimal n)
Lacks_colon-decimal = decimal_by_steps (λ m ds. Lacks 58 ds) (λ m l. ((λ e. omega (arith, e)), tt)) (λ m ds l front. Lacks-append 58 ds ((48 + m % 10) ∷ []) front ((λ e. omega (arith, e)), tt))

no_colon : (v : ℕ) → v < 16 → slice_index lower_digits v ≢ 58
no_colon v h e = false≢true (sym (agree_below_at (λ d. slice_index lower_digits d == 58) (λ d. false) 16 v refl h) ∙ ap (λ (d : ℕ). d == 58) e)

Lacks_colon-hex : (bs : List ℕ) → IsBytes bs → Lacks 58 (encode_lower bs)
unfolding encode_with
Lacks_colon-hex [] h = tt
Lacks_colon-hex (x ∷ xs) h =
    let byte : x < 256 = h 0 in
    (no_colon (x / 16) (omega arith), (no_colon (x % 16) (omega arith), Lacks_colon-hex xs (λ i. h (suc i))))

Lacks_colon-hex_field : (bs : List ℕ) → IsBytes bs → Lacks 58 (hex_field bs)
Lacks_colon-hex_field [] h = ((λ e. omega (arith, e)), tt)
Lacks_colon-hex_field (x ∷ xs) h = Lacks_colon-hex (x ∷ xs) h

-- ---- one id

issued_parts : (i : IssuedCid) → issued_text i ≡ decimal i.sequence ++ 58 ∷ (hex_field i.id ++ 58 ∷ hex_field i.reset_token)
unfolding issued_text
issued_parts i = refl

-- a text without a colon is none
pub issued_no_colon : (field : List ℕ) → Lacks 58 field → (i : IssuedCid) → IsIssued i → field ≢ issued_text i
issued_no_colon field lacks i h e = no_split 58 field (decimal i.sequence) (hex_field i.id ++ 58 ∷ hex_field i.reset_token) lacks (e ∙ issued_parts i)

-- the parts of an id's text: its number, and what is behind it
pub issued_split : (field digits rest : List ℕ) (i : IssuedCid) → field ≡ digits ++ 58 ∷ rest → Lacks 58 digits → IsIssued i → field ≡ issued_text i → (digits ≡ decimal i.sequence) × (rest ≡ hex_field i.id ++ 58 ∷ hex_field i.reset_token)
issued_split field digits rest i e lacks h is =
    first_split 58 digits (decimal i.sequence) rest (hex_field i.id ++ 58 ∷ hex_field i.reset_token) lacks (Lacks_colon-decimal i.sequence h.sequence) (sym e ∙ is ∙ issued_parts i)

-- a text with one colon is none either
pub issued_one_colon : (field digits rest : List ℕ) → field ≡ digits ++ 58 ∷ rest → Lacks 58 digits → Lacks 58 rest → (i : IssuedCid) → IsIssued i → field ≢ issued_text i
issued_one_colon field digits rest e lacks none i h is = no_split 58 rest (hex_field i.id) (hex_field i.reset_token) none (issued_split field digits rest i e lacks h is).1

-- all three parts
pub issued_all : (field digits rest id token : List ℕ) (i : IssuedCid) → field ≡ digits ++ 58 ∷ rest → Lacks 58 digits → rest ≡ id ++ 58 ∷ token → Lacks 58 id → IsIssued i → field ≡ issued_text i
    → (digits ≡ decimal i.sequence) × (id ≡ hex_field i.id) × (token ≡ hex_field i.reset_token)
issued_all field digits rest id token i e lacks f less h is =
    let first = issued_split field digits rest i e lacks h is in
    let second = first_split 58 id (hex_field i.id) token (hex_field i.reset_token) less (Lacks_colon-hex_field i.id h.id.0) (sym f ∙ first.1) in
    (first.0, second.0, second.1)

-- the id of these parts
pub issued_read : (field digits rest id token : List ℕ) (i : IssuedCid) → field ≡ digits ++ 58 ∷ rest → rest ≡ id ++ 58 ∷ token → digits ≡ decimal i.sequence → id ≡ hex_field i.id → token ≡ hex_field i.reset_token → field ≡ issued_text i
issued_read field digits rest id token i e f number bytes key =
    let parts : digits ++ 58 ∷ (id ++ 58 ∷ token) ≡ decimal i.sequence ++ 58 ∷ (hex_field i.id ++ 58 ∷ hex_field i.reset_token) = cc in
    e ∙ ap (λ (z : List ℕ). digits ++ 58 ∷ z) f ∙ parts ∙ sym (issued_parts i)

-- an id's text is that of no other id
issued_injective : (i j : IssuedCid) → IsIssued i → IsIssued j → issued_text i ≡ issued_text j → i ≡ j
issued_injective i j h k e =
    let parts = issued_all (issued_text i) (decimal i.sequence) (hex_field i.id ++ 58 ∷ hex_field i.reset_token) (hex_field i.id) (hex_field i.reset_token) j
    (issued_parts i) (Lacks_colon-decimal i.sequence h.sequence) refl (Lacks_colon-hex_field i.id h.id.0) k e in
    let sequences = decimal_injective i.sequence j.sequence h.sequence k.sequence parts.0 in
    let ids = hex_field_injective i.id j.id h.id.0 k.id.0 parts.1 in
    let tokens = hex_field_injective i.reset_token j.reset_token h.reset_token.0 k.reset_token.0 parts.2 in
    λ n. record { sequence = sequences n; id = ids n; reset_token = tokens n }

-- and it has no space
Lacks-issued : (i : IssuedCid) → IsIssued i → Lacks 32 (issued_text i)
Lacks-issued i h =
    rw (issued_parts i) (Lacks-append 32 (decimal i.sequence) (58 ∷ (hex_field i.id ++ 58 ∷ hex_field i.reset_token)) (Lacks-decimal 32 i.sequence (omega arith) h.sequence) (
      (λ e. omega (arith, e)),
      Lacks-append 32 (hex_field i.id) (58 ∷ hex_field i.reset_token) (Lacks-hex_field 32 i.id (omega arith) h.id.0)
          ((λ e. omega (arith, e)), Lacks-hex_field 32 i.reset_token (omega arith) h.reset_token.0),
    ))

-- ---- several ids

-- one or more begin with a space
pub ids_front : (ids : List IssuedCid) → 0 < length ids → (rest : List ℕ) × (ids_text ids ≡ 32 ∷ rest)
ids_front [] some = absurd (omega arith)
ids_front (i ∷ ids) some = (issued_text i ++ ids_text ids, refl)

-- a text without a space, in front of ids
head_split : (x y : List ℕ) (is js : List IssuedCid) → Lacks 32 x → Lacks 32 y → x ++ ids_text is ≡ y ++ ids_text js → (x ≡ y) × (ids_text is ≡ ids_text js)
head_split x y [] [] h k e = (sym (append-nil x) ∙ e ∙ append-nil y, refl)
head_split x y [] (j ∷ js) h k e = absurd (no_split 32 x y (issued_text j ++ ids_text js) h (sym (append-nil x) ∙ e))
head_split x y (i ∷ is) [] h k e = absurd (no_split 32 y x (issued_text i ++ ids_text is) k (sym (append-nil y) ∙ sym e))
head_split x y (i ∷ is) (j ∷ js) h k e =
    let parts = first_split 32 x y (issued_text i ++ ids_text is) (issued_text j ++ ids_text js) h k e in
    (parts.0, ap (λ (z : List ℕ). 32 ∷ z) parts.1)

-- the text of ids is that of no other ids
pub ids_injective : (is js : List IssuedCid) → AreIssued is → AreIssued js → ids_text is ≡ ids_text js → is ≡ js
ids_injective [] [] h k e = refl
ids_injective [] (j ∷ js) h k e = cc e
ids_injective (i ∷ is) [] h k e = cc e
ids_injective (i ∷ is) (j ∷ js) h k e =
    let tails : issued_text i ++ ids_text is ≡ issued_text j ++ ids_text js = cc in
    let parts = head_split (issued_text i) (issued_text j) is js (Lacks-issued i h.0) (Lacks-issued j k.0) tails in
    let first = issued_injective i j h.0 k.0 parts.0 in
    let others = ids_injective is js h.1 k.1 parts.1 in
    cc

ids_push : (is : List IssuedCid) (j : IssuedCid) → ids_text (is ++ j ∷ []) ≡ ids_text is ++ 32 ∷ issued_text j
ids_push [] j = ap (λ (z : List ℕ). 32 ∷ z) (append-nil (issued_text j))
ids_push (i ∷ is) j = ap (λ (z : List ℕ). 32 ∷ z) (ap (λ (z : List ℕ). issued_text i ++ z) (ids_push is j) ∙ sym (append_assoc (issued_text i) (ids_text is) (32 ∷ issued_text j)))

issued_push : (is : List IssuedCid) (j : IssuedCid) → AreIssued is → IsIssued j → AreIssued (is ++ j ∷ [])
issued_push [] j h k = (k, tt)
issued_push (i ∷ is) j h k = (h.0, issued_push is j h.1 k)

push_some : (is : List IssuedCid) (j : IssuedCid) → 0 < length (is ++ j ∷ [])
push_some [] j = omega arith
push_some (i ∷ is) j = omega arith

-- ---- ids that are read one after the other

-- ids that these fields spell
record AreSpelled (fields : List ℕ) : Type 0 where
  ids : List IssuedCid
  within : AreIssued ids
  spelled : 32 ∷ fields ≡ ids_text ids

-- one id that a field spells
record IsSpelled (field : List ℕ) : Type 0 where
  id : IssuedCid
  within : IsIssued id
  spelled : field ≡ issued_text id

-- a first field is an id's, and what is behind it spells ids
first_field : (fields field more : List ℕ) (is : List IssuedCid) → fields ≡ field ++ 32 ∷ more → Lacks 32 field → AreIssued is → 32 ∷ fields ≡ ids_text is → IsSpelled field × AreSpelled more
first_field fields field more [] e lacks h is = cc is
first_field fields field more (i ∷ []) e lacks h is =
    let alone : fields ≡ issued_text i ++ [] = cc in
    absurd (no_split 32 (issued_text i) field more (Lacks-issued i h.0) (sym (append-nil (issued_text i)) ∙ sym alone ∙ e))
first_field fields field more (i ∷ k ∷ ks) e lacks h is =
    let whole : fields ≡ issued_text i ++ 32 ∷ (issued_text k ++ ids_text ks) = cc in
    let parts = first_split 32 field (issued_text i) more (issued_text k ++ ids_text ks) lacks (Lacks-issued i h.0) (sym e ∙ whole) in
    (record { id = i; within = h.0; spelled = parts.0 }, record { ids = k ∷ ks; within = h.1; spelled = ap (λ (z : List ℕ). 32 ∷ z) parts.1 })

-- a field without a space behind it is an id's
last_field : (field : List ℕ) (is : List IssuedCid) → Lacks 32 field → AreIssued is → 32 ∷ field ≡ ids_text is → IsSpelled field
last_field field [] lacks h is = cc is
last_field field (i ∷ []) lacks h is =
    let alone : field ≡ issued_text i ++ [] = cc in
    record { id = i; within = h.0; spelled = alone ∙ append-nil (issued_text i) }
last_field field (i ∷ k ∷ ks) lacks h is =
    let whole : field ≡ issued_text i ++ 32 ∷ (issued_text k ++ ids_text ks) = cc in
    absurd (no_split 32 field (issued_text i) (issued_text k ++ ids_text ks) lacks whole)

-- of these fields the ids were read, and the rest wasn't: whatever ids the fields spell, the rest spells the others of them
pub record AreRead (fields : List ℕ) (ids : List IssuedCid) (rest : List ℕ) : Type 0 where
  spelled : 32 ∷ fields ≡ ids_text ids ++ 32 ∷ rest
  within : AreIssued ids
  others : (js : List IssuedCid) → AreIssued js → 32 ∷ fields ≡ ids_text js → AreSpelled rest

pub none_read : (fields : List ℕ) (ids : List IssuedCid) → ids ≡ [] → AreRead fields ids fields
none_read fields ids e = subst (λ (is : List IssuedCid). AreRead fields is fields) (sym e) (record { spelled = refl; within = tt; others = λ js h is. record { ids = js; within = h; spelled = is } })

-- one more
pub more_read : (fields : List ℕ) (ids : List IssuedCid) (rest field more : List ℕ) (i : IssuedCid) → AreRead fields ids rest → rest ≡ field ++ 32 ∷ more → Lacks 32 field → field ≡ issued_text i → IsIssued i → AreRead fields (ids ++ i ∷ []) more
more_read fields ids rest field more i r e lacks is h =
    let behind : rest ≡ issued_text i ++ 32 ∷ more = e ∙ ap (λ (z : List ℕ). z ++ 32 ∷ more) is in
    record {
      spelled = r.spelled ∙ ap (λ (z : List ℕ). ids_text ids ++ 32 ∷ z) behind ∙ sym (append_assoc (ids_text ids) (32 ∷ issued_text i) (32 ∷ more)) ∙ ap (λ (z : List ℕ). z ++ 32 ∷ more) (sym (ids_push ids i));
      within = issued_push ids i r.within h;
      others = λ js k whole. let left = r.others js k whole in (first_field rest field more left.ids e lacks left.within left.spelled).1;
    }

-- a field that is no id's
pub bad_field : (fields : List ℕ) (ids : List IssuedCid) (rest field more : List ℕ) → AreRead fields ids rest → rest ≡ field ++ 32 ∷ more → Lacks 32 field → ((i : IssuedCid) → IsIssued i → field ≢ issued_text i) → (js : List IssuedCid) → AreIssued js → 32 ∷ fields ≢ ids_text js
bad_field fields ids rest field more r e lacks none js k whole =
    let left = r.others js k whole in
    let first = (first_field rest field more left.ids e lacks left.within left.spelled).0 in
    none first.id first.within first.spelled

pub bad_last : (fields : List ℕ) (ids : List IssuedCid) (rest : List ℕ) → AreRead fields ids rest → Lacks 32 rest → ((i : IssuedCid) → IsIssued i → rest ≢ issued_text i) → (js : List IssuedCid) → AreIssued js → 32 ∷ fields ≢ ids_text js
bad_last fields ids rest r lacks none js k whole =
    let left = r.others js k whole in
    let last = last_field rest left.ids lacks left.within left.spelled in
    none last.id last.within last.spelled

-- the last one
pub all_read : (fields : List ℕ) (ids : List IssuedCid) (rest : List ℕ) (i : IssuedCid) (all : List IssuedCid) → AreRead fields ids rest → rest ≡ issued_text i → IsIssued i → all ≡ ids ++ i ∷ [] → (32 ∷ fields ≡ ids_text all) × (0 < length all) × AreIssued all
all_read fields ids rest i all r is h e =
    subst (λ (js : List IssuedCid). (32 ∷ fields ≡ ids_text js) × (0 < length js) × AreIssued js) (sym e)
    (r.spelled ∙ ap (λ (z : List ℕ). ids_text ids ++ 32 ∷ z) is ∙ sym (ids_push ids i), push_some ids i, issued_push ids i r.within h)
