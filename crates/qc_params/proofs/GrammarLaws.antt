-- Entries are read exactly where the grammar has them
use Rattle.std.proofs.Common.{◌≡◌, ℕ, List, [], ◌∷◌, ◌++◌, Option, Some, None, refl, sym, ap, ◌∙◌, subst}
use Rattle.std.specs.Option.{option_and_then}
use Rattle.qc_base.specs.Varint.{spelled}
use Rattle.qc_base.specs.Grammar.{IsBytes}
use Rattle.qc_base.specs.Reading.{varint_of, blob_of}
use Rattle.qc_base.proofs.Exact.{Ends, ends_bytes, ends_both}
use Rattle.qc_base.proofs.Front.{behind_bytes, same_first, same_second}
use Rattle.qc_base.proofs.Varints.{found_varint, found_blob, front_bytes}
use Rattle.qc_params.specs.declared.params.TransportParameters.{TransportParameters}
use Rattle.qc_params.specs.ParametersReading.{entry_of, entries_of, only_one, value_in, id_in, first_parameters_of, limits_of, middle_of, parameters_of, EntriesAreRead}
use Rattle.qc_params.specs.ParametersGrammar.{Entry, AnEntry, Entries, values_of}
use Rattle.qc_params.proofs.EntryLaws.{entries_step, entries_none, nothing, in_some}

-- what two readings in a row give
pub two_steps : {X Y : Type 0} (o : Option X) (k : X → Option Y) (y : Y) → option_and_then k o ≡ Some y → (x : X) × (o ≡ Some x) × (k x ≡ Some y)
two_steps None k y e = cc
two_steps (Some x) k y e = (x, refl, e)

entry_takes : (a : List ℕ) (e : Entry) (z : List ℕ) → IsBytes a → entry_of a ≡ Some (e, z) → AnEntry e a z
unfolding entry_of
entry_takes a e z h is =
    let first = two_steps (varint_of a) _ (e, z) is in
    let id = first.0 in
    let second = two_steps (blob_of id.1) _ (e, z) first.2 in
    let value = second.0 in
    let left = ends_bytes a id.1 (found_varint.ends a id.0 id.1 first.1) h in
    (id.0, id.1, found_varint.takes a id.0 id.1 h first.1, (value.0, value.1, found_blob.takes id.1 value.0 value.1 left second.1, (sym (same_first _ _ second.2), sym (same_second _ _ second.2))))

entry_again : (a : List ℕ) (e : Entry) (z : List ℕ) → AnEntry e a z → entry_of a ≡ Some (e, z)
unfolding entry_of
entry_again a e z (id, b, v, (value, c, w, (p, q))) =
    rw (found_varint.again a id b v, found_blob.again b value c w, p, q) refl

entry_ends : (a : List ℕ) (e : Entry) (z : List ℕ) → entry_of a ≡ Some (e, z) → Ends a z
unfolding entry_of
entry_ends a e z is =
    let first = two_steps (varint_of a) _ (e, z) is in
    let id = first.0 in
    let second = two_steps (blob_of id.1) _ (e, z) first.2 in
    let value = second.0 in
    let back : value.1 ≡ z = same_second _ _ second.2 in
    let P : List ℕ → Type 0 = λ w. Ends a w in
    subst P back (ends_both a id.1 value.1 (found_varint.ends a id.0 id.1 first.1) (found_blob.ends id.1 value.0 value.1 second.1))

-- what is read is spelled so
pub entries_take : (es : List Entry) (a : List ℕ) → IsBytes a → entries_of a ≡ Some es → Entries es a
entries_take [] [] h is = refl
entries_take [] (b ∷ a) h is =
    let first = two_steps (entry_of (b ∷ a)) _ _ (sym (entries_step b a) ∙ is) in
    let second = two_steps (entries_of first.0.1) _ _ first.2 in
    let none = second.2 in
    cc
entries_take (e ∷ es) [] h is = let none = sym entries_none ∙ is in cc
entries_take (e ∷ es) (b ∷ a) h is =
    let first = two_steps (entry_of (b ∷ a)) _ _ (sym (entries_step b a) ∙ is) in
    let entry = first.0 in
    let second = two_steps (entries_of entry.1) _ _ first.2 in
    let others = second.0 in
    let split : (entry.0 ∷ others) ≡ (e ∷ es) = in_some _ _ second.2 in
    let same : entry.0 ≡ e = cc in
    let tail : others ≡ es = cc in
    let P : Entry → Type 0 = λ w. AnEntry w (b ∷ a) entry.1 in
    let left = ends_bytes (b ∷ a) entry.1 (entry_ends (b ∷ a) entry.0 entry.1 first.1) h in
    (entry.1, subst P same (entry_takes (b ∷ a) entry.0 entry.1 h first.1), entries_take es entry.1 left (second.1 ∙ ap (λ (w : List Entry). Some w) tail))

nonempty : (e : Entry) (z : List ℕ) → AnEntry e [] z → ⊥
nonempty e z s = nothing e z (entry_again [] e z s)

-- what is spelled so is read
pub entries_again : (es : List Entry) (a : List ℕ) → Entries es a → entries_of a ≡ Some es
entries_again [] a e = rw e entries_none
entries_again (e ∷ es) [] (z, s, t) = absurd (nonempty e z s)
entries_again (e ∷ es) (b ∷ a) (z, s, t) =
    rw (entries_step b a, entry_again (b ∷ a) e z s, entries_again es z t) refl

pub values_from : (id : ℕ) (es : List Entry) (a : List ℕ) → entries_of a ≡ Some es → value_in id a ≡ only_one (values_of id es)
unfolding value_in
values_from id es a e = rw e refl

-- each value of an entry is bytes
abbrev pub EachBytes : List Entry → Type 0
EachBytes [] = Unit {0}
EachBytes (e ∷ es) = IsBytes e.1 × EachBytes es

entry_bytes : (a : List ℕ) (e : Entry) (z : List ℕ) → IsBytes a → AnEntry e a z → IsBytes e.1 × IsBytes z
entry_bytes a e z h (id, b, (f, _, v), (value, c, (n, d, (g, _, w), (_, t)), (p, q))) =
    let P : List ℕ → Type 0 = λ s. IsBytes s in
    let behind_id : IsBytes b = behind_bytes (spelled f id) b (subst P v h) in
    let behind_length : IsBytes d = behind_bytes (spelled g n) d (subst P w behind_id) in
    let both : IsBytes (value ++ c) = subst P t behind_length in
    (subst (λ (s : Entry). IsBytes s.1) (sym p) (front_bytes value c both), subst P (sym q) (behind_bytes value c both))

pub each_bytes : (es : List Entry) (a : List ℕ) → IsBytes a → Entries es a → EachBytes es
each_bytes [] a h s = tt
each_bytes (e ∷ es) a h (z, s, t) = let w = entry_bytes a e z h s in (w.0, each_bytes es z w.1 t)

-- ---- bytes that are parameters are entries

value_entries : (id : ℕ) (o : Option (List ℕ)) (a : List ℕ) → value_in id a ≡ Some o → (es : List Entry) × (entries_of a ≡ Some es)
unfolding value_in
value_entries id o a e = let w = two_steps (entries_of a) _ o e in (w.0, w.1)

first_entries : (a : List ℕ) (p : TransportParameters) → first_parameters_of a ≡ Some p → (es : List Entry) × (entries_of a ≡ Some es)
unfolding first_parameters_of id_in
first_entries a p e =
    let w = two_steps (id_in 0x00 a) _ p e in
    let v = two_steps (value_in 0x00 a) _ w.0 w.1 in
    value_entries 0x00 v.0 a v.1

pub all_entries : (a : List ℕ) (p : TransportParameters) → parameters_of a ≡ Some p → (es : List Entry) × (entries_of a ≡ Some es)
unfolding parameters_of middle_of limits_of
all_entries a p e =
    let middle = two_steps (middle_of a) _ p e in
    let limits = two_steps (limits_of a) _ middle.0 middle.1 in
    let first = two_steps (first_parameters_of a) _ limits.0 limits.1 in
    first_entries a first.0 first.1

pub entries_read : EntriesAreRead
entries_read a es e = entries_again es a e
