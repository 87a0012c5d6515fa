-- Values are read exactly where the grammar has them, and what is written of a value is spelled by the grammar
use Rattle.std.proofs.Common.{◌≡◌, ℕ, ◌+◌, ◌*◌, ◌/◌, ◌%◌, ◌≤◌, List, [], ◌∷◌, ◌++◌, length, Option, Some, None, Bool, true, false, refl, arith, sym, ap, ◌∙◌, subst, nat_eq, nat_le, append_assoc, if◌then◌else◌}
use Rattle.std.proofs.lemmas.List.{append-nil}
use Rattle.std.proofs.lemmas.Bool.Decides.{nat_tests}
use Rattle.std.proofs.lemmas.Nat.{from_be_bytes-to_be_bytes_2, be_bytes_2}
use Rattle.std.specs.Option.{option_and_then}
use Rattle.std.specs.Int.{w16, to_be_bytes, from_be_bytes}
use Rattle.std.specs.Net.Addr.{ipv4_octets, ipv6_segments, ipv6_octets, segments_of, octets_of}
use Rattle.qc_base.specs.Varint.{IsNumber, varint}
use Rattle.qc_base.specs.Grammar.{Spelling, ◌>>=◌, Is, Where, Varint, IsBytes}
use Rattle.qc_base.proofs.Front.{same_first, same_second}
use Rattle.qc_base.proofs.Exact.{Found, ends_bytes, ends_both, found_bytes, found_byte}
use Rattle.qc_base.proofs.Varints.{found_varint, varint_spelled}
use Rattle.qc_base.proofs.Words.{IsWord, found_word}
use Rattle.qc_params.specs.declared.params.PreferredAddress.{PreferredAddress}
use Rattle.qc_params.specs.ParametersFit.{IsId, IsToken, AddressFits}
use Rattle.qc_params.specs.ParametersSpelling.{address_bytes}
use Rattle.qc_params.specs.ParametersGrammar.{Number, Flag, Id, Token, Ipv4, Ipv6, Issued, Address}
use Rattle.qc_params.specs.ParametersReading.{whole, number_value, flag_value, id_value, token_value, ipv4_of, ipv6_of, issued_of, address_of, address_value}
use Rattle.qc_params.proofs.EntryLaws.{in_some}
use Rattle.qc_params.proofs.GrammarLaws.{two_steps}

-- ---- readings at the front of bytes

found_then : {X Y : Type 0} {r : List ℕ → Option (X × List ℕ)} {S : Spelling X} {T : X → Spelling Y} (k : X → List ℕ → Option (Y × List ℕ))
    → Found r S → ((x : X) → Found (k x) (T x)) → Found (λ a. option_and_then (λ x. k x.0 x.1) (r a)) (S >>= T)
found_then {r = r} k s t = record {
  takes = λ a y z h e. let w = two_steps (r a) _ (y, z) e in
      (w.0.0, w.0.1, s.takes a w.0.0 w.0.1 h w.1, (t w.0.0).takes w.0.1 y z (ends_bytes a w.0.1 (s.ends a w.0.0 w.0.1 w.1) h) w.2);
  again = λ a y z g. ap (λ v. option_and_then (λ x. k x.0 x.1) v) (s.again a g.0 g.1 g.2) ∙ (t g.0).again g.1 y z g.3;
  ends = λ a y z e. let w = two_steps (r a) _ (y, z) e in
      ends_both a w.0.1 z (s.ends a w.0.0 w.0.1 w.1) ((t w.0.0).ends w.0.1 y z w.2);
}

found_give : {X : Type 0} (x : X) → Found (λ a. Some (x, a)) (Is x)
found_give x = record {
  takes = λ a y z h e. (sym (same_first (x, a) (y, z) e), sym (same_second (x, a) (y, z) e));
  again = λ a y z s. rw (s.0, s.1) refl;
  ends = λ a y z e. ([], same_second (x, a) (y, z) e);
}

-- a value that is given where a test holds, which is where P does
given_where : {X : Type 0} (b : Bool) (x y : X) (a z : List ℕ) → if◌then◌else◌ {A = Option (X × List ℕ)} b (Some (x, a)) None ≡ Some (y, z) → (b ≡ true) × (x ≡ y) × (a ≡ z)
given_where true x y a z e = (refl, same_first (x, a) (y, z) e, same_second (x, a) (y, z) e)
given_where false x y a z e = cc

found_where : {X : Type 0} {P : Type 0} (b : Bool) (x : X) → (b ≡ true → P) → (P → b ≡ true) → Found {X = X} (λ a. if◌then◌else◌ {A = Option (X × List ℕ)} b (Some (x, a)) None) (Where P (Is x))
found_where b x passes holds = record {
  takes = λ a y z h e. let w = given_where b x y a z e in (passes w.0, (sym w.1, sym w.2));
  again = λ a y z g. rw (holds g.0, g.1.0, g.1.1) refl;
  ends = λ a y z e. let w = given_where b x y a z e in ([], w.2);
}

-- ---- readings of a value, from its first byte to its last

pub record Reads {X : Type 0} (read : List ℕ → Option X) (S : Spelling X) : Type 0 where
  pub takes : (a : List ℕ) (x : X) → IsBytes a → read a ≡ Some x → S x a []
  pub again : (a : List ℕ) (x : X) → S x a [] → read a ≡ Some x

some_left : (b : ℕ) (z : List ℕ) → nat_eq (length (b ∷ z)) 0 ≡ false
some_left b z = grind (arith, nat_tests)

nothing_left : {X : Type 0} (v x : X) (z : List ℕ) → (if nat_eq (length z) 0 then Some v else None) ≡ Some x → (v ≡ x) × (z ≡ [])
nothing_left v x [] e = (in_some v x e, refl)
nothing_left v x (b ∷ z) e = let none = sym (ap (λ t. if t then Some v else None) (some_left b z)) ∙ e in cc

reads_whole : {X : Type 0} {r : List ℕ → Option (X × List ℕ)} {S : Spelling X} → Found r S → Reads (λ a. whole (r a)) S
reads_whole {X} {r = r} {S = S} f = record {
  takes = λ a x h e.
      let w = two_steps (r a) _ x e in
      let left = nothing_left w.0.0 x w.0.1 w.2 in
      let P : X → Type 0 = λ y. S y a [] in
      let Q : List ℕ → Type 0 = λ z. S w.0.0 a z in
      subst P left.0 (subst Q left.1 (f.takes a w.0.0 w.0.1 h w.1));
  again = λ a x s. rw (f.again a x [] s) refl;
}

pub reads_number : Reads number_value Number
unfolding number_value
reads_number = reads_whole found_varint

flag_takes : (a : List ℕ) (b : Bool) → flag_value a ≡ Some b → Flag b a []
flag_takes [] b e = (sym (in_some true b e), refl)
flag_takes (c ∷ a) b e = let none = sym (ap (λ t. if t then Some true else None) (some_left c a)) ∙ e in cc

pub reads_flag : Reads flag_value Flag
reads_flag = record { takes = λ a b h e. flag_takes a b e; again = λ a b s. rw (s.0, sym s.1) refl }

is_most : (n m : ℕ) → nat_le n m ≡ true → n ≤ m
is_most n m e = grind (arith, nat_tests)

most_is : (n m : ℕ) → n ≤ m → nat_le n m ≡ true
most_is n m e = grind (arith, nat_tests)

id_takes_by : (t : Bool) (a x : List ℕ) → nat_le (length a) 20 ≡ t → (if t then Some a else None) ≡ Some x → Id x a []
id_takes_by true a x t e = (a, [], (refl, refl), (is_most (length a) 20 t, (sym (in_some a x e), refl)))
id_takes_by false a x t e = cc

id_again : (a x : List ℕ) → Id x a [] → id_value a ≡ Some x
id_again a x (id, z, (p, q), (short, (s, _))) =
    let fits : nat_le (length a) 20 ≡ true = most_is (length a) 20 (subst (λ (v : List ℕ). length v ≤ 20) p short) in
    rw (fits, s, p) refl

pub reads_id : Reads id_value Id
reads_id = record { takes = λ a x h e. id_takes_by (nat_le (length a) 20) a x refl e; again = id_again }

token_takes_by : (t : Bool) (a x : List ℕ) → nat_eq (length a) 16 ≡ t → (if t then Some a else None) ≡ Some x → Token x a []
token_takes_by true a x t e =
    let size : length a ≡ 16 = grind (arith, nat_tests) in
    subst (λ (v : List ℕ). Token v a []) (in_some a x e) (size, sym (append-nil a))
token_takes_by false a x t e = cc

token_again : (a x : List ℕ) → Token x a [] → token_value a ≡ Some x
token_again a x (size, e) = let same : a ≡ x = e ∙ append-nil x in rw (same, size) refl

pub reads_token : Reads token_value Token
reads_token = record { takes = λ a x h e. token_takes_by (nat_eq (length a) 16) a x refl e; again = token_again }

-- ---- addresses

word_16 : IsWord w16
word_16 = record {
  value = λ n h. from_be_bytes-to_be_bytes_2 n h;
  size = λ n. refl;
  small = λ x b. let b0 = b 0 in let b1 = b 1 in omega arith;
  back = λ x l b. be_bytes_2 x (from_be_bytes w16 x) l b refl;
}

found_ipv4 : Found ipv4_of Ipv4
unfolding ipv4_of
found_ipv4 = found_then _ (found_bytes 4) (λ octets. found_then _ (found_word w16 word_16) (λ port. found_give (record { octets = octets }, port)))

found_ipv6 : Found ipv6_of Ipv6
unfolding ipv6_of
found_ipv6 = found_then _ (found_bytes 16) (λ octets. found_then _ (found_word w16 word_16) (λ port. found_give (record { segments = segments_of octets }, port)))

found_issued : Found issued_of Issued
unfolding issued_of
found_issued = found_then _ found_byte (λ len. found_then _ (found_bytes len) (λ id. found_then _ (found_bytes 16) (λ token. found_where (nat_le len 20) (id, token) (is_most len 20) (most_is len 20))))

found_address : Found address_of Address
unfolding address_of
found_address = found_then _ found_ipv4 (λ v4. found_then _ found_ipv6 (λ v6. found_then _ found_issued (λ issued. found_give _)))

pub reads_address : Reads address_value Address
unfolding address_value
reads_address = reads_whole found_address

-- ---- what is written of a value is spelled so

pub number_spelled : (n : ℕ) → IsNumber n → Number n (varint n) []
number_spelled n h = subst (λ (a : List ℕ). Varint n a []) (append-nil (varint n)) (varint_spelled n [] h)

pub id_spelled : (id : List ℕ) → IsId id → Id id id []
id_spelled id h = (id, [], (refl, refl), (h, (refl, refl)))

pub token_spelled : (token : List ℕ) → IsToken token → Token token token []
token_spelled token h = (h, sym (append-nil token))

segments_back : (ss : List ℕ) → segments_of (octets_of ss) ≡ ss
segments_back [] = refl
segments_back (s ∷ ss) = let same : s / 256 * 256 + s % 256 ≡ s = omega arith in rw (same, segments_back ss) refl

pub length_octets : (ss : List ℕ) → length (octets_of ss) ≡ 2 * length ss
length_octets [] = refl
length_octets (s ∷ ss) = omega (arith, length_octets ss)

-- the parts of an address, each in front of what follows it
address_parts : (a : PreferredAddress) → address_bytes a
    ≡ ipv4_octets a.ipv4 ++ (to_be_bytes w16 a.port_v4 ++ (ipv6_octets a.ipv6 ++ (to_be_bytes w16 a.port_v6 ++ (length a.id ∷ (a.id ++ (a.reset_token ++ []))))))
unfolding address_bytes
address_parts a = simp (append_assoc, append-nil) refl

ipv4_spelled : (a : PreferredAddress) (z : List ℕ) → AddressFits a → Ipv4 (a.ipv4, a.port_v4) (ipv4_octets a.ipv4 ++ (to_be_bytes w16 a.port_v4 ++ z)) z
ipv4_spelled a z h = (ipv4_octets a.ipv4, to_be_bytes w16 a.port_v4 ++ z, (h.ipv4, refl), (a.port_v4, z, (h.port_v4, refl), (refl, refl)))

ipv6_spelled : (a : PreferredAddress) (z : List ℕ) → AddressFits a → Ipv6 (a.ipv6, a.port_v6) (ipv6_octets a.ipv6 ++ (to_be_bytes w16 a.port_v6 ++ z)) z
ipv6_spelled a z h =
    let size : length (ipv6_octets a.ipv6) ≡ 16 = omega (arith, length_octets (ipv6_segments a.ipv6), h.ipv6) in
    let same = segments_back (ipv6_segments a.ipv6) in
    (ipv6_octets a.ipv6, to_be_bytes w16 a.port_v6 ++ z, (size, refl), (a.port_v6, z, (h.port_v6, refl), (rw same refl, refl)))

issued_spelled : (a : PreferredAddress) (z : List ℕ) → AddressFits a → Issued (a.id, a.reset_token) (length a.id ∷ (a.id ++ (a.reset_token ++ z))) z
issued_spelled a z h = (length a.id, a.id ++ (a.reset_token ++ z), refl, (a.id, a.reset_token ++ z, (refl, refl), (a.reset_token, z, (h.reset_token, refl), (h.id, (refl, refl)))))

pub address_spelled : (a : PreferredAddress) → AddressFits a → Address a (address_bytes a) []
address_spelled a h =
    let issued = length a.id ∷ (a.id ++ (a.reset_token ++ [])) in
    let v6 = ipv6_octets a.ipv6 ++ (to_be_bytes w16 a.port_v6 ++ issued) in
    let P : List ℕ → Type 0 = λ b. Address a b [] in
    subst P (sym (address_parts a)) ((a.ipv4, a.port_v4), v6, ipv4_spelled a v6 h, ((a.ipv6, a.port_v6), issued, ipv6_spelled a issued h, ((a.id, a.reset_token), [], issued_spelled a [] h, (refl, refl))))
