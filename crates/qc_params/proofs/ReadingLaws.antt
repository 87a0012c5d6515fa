-- Parameters are read exactly where the grammar has them
use Rattle.std.proofs.Common.{◌≡◌, ℕ, List, [], ◌∷◌, Option, Some, None, Bool, true, false, Ok, Err, refl, sym, ap, ◌∙◌, subst, nat_eq, if◌then◌else◌}
use Rattle.std.specs.Option.{option_and_then, option_map}
use Rattle.qc_base.specs.Grammar.{Spelling, IsBytes}
use Rattle.qc_base.specs.declared.side.Side.{Side}
use Rattle.qc_params.specs.declared.error.ParamError.TheVariants.{IllegalValue}
use Rattle.qc_params.specs.declared.params.TransportParameters.{TransportParameters}
use Rattle.qc_params.specs.declared.params.PreferredAddress.{PreferredAddress}
use Rattle.qc_params.specs.ParametersSpelling.{default_parameters}
use Rattle.qc_params.specs.ParametersGrammar.{Entry, values_of, Number, Flag, Id, Token, Address, Given, OneOr, Under, AreParameters, Parameters}
use Rattle.qc_params.specs.ParametersReading.{entries_of, only_one, value_in, value_or, maybe, number_in, maybe_in, flag_in, id_in, token_in, address_in, first_parameters_of, limits_of, middle_of, parameters_of, is_legal, judged, parameters_read, IsReading}
use Rattle.qc_params.proofs.EntryLaws.{in_some}
use Rattle.qc_params.proofs.GrammarLaws.{two_steps, entries_take, entries_again, values_from, EachBytes, each_bytes, all_entries}
use Rattle.qc_params.proofs.ValueLaws.{Reads, reads_number, reads_flag, reads_id, reads_token, reads_address}

-- ---- the value under an id

abbrev AllBytes : List (List ℕ) → Type 0
AllBytes [] = Unit {0}
AllBytes (value ∷ values) = IsBytes value × AllBytes values

bytes_with : (b : Bool) (value : List ℕ) (values : List (List ℕ)) → IsBytes value → AllBytes values → AllBytes (if b then value ∷ values else values)
bytes_with true value values h hs = (h, hs)
bytes_with false value values h hs = hs

values_bytes : (id : ℕ) (es : List Entry) → EachBytes es → AllBytes (values_of id es)
values_bytes id [] h = tt
values_bytes id (e ∷ es) h = bytes_with (nat_eq e.0 id) e.1 (values_of id es) h.0 (values_bytes id es h.1)

one_takes : {X : Type 0} {read : List ℕ → Option X} {S : Spelling X} → Reads read S → (d : X) (values : List (List ℕ)) (x : X) → AllBytes values → option_and_then (value_or read d) (only_one values) ≡ Some x → OneOr S d values x
one_takes r d [] x h e = sym (in_some d x e)
one_takes r d (value ∷ []) x h e = r.takes value x h.0 e
one_takes r d (value ∷ other ∷ values) x h e = cc

one_again : {X : Type 0} {read : List ℕ → Option X} {S : Spelling X} → Reads read S → (d : X) (values : List (List ℕ)) (x : X) → OneOr S d values x → option_and_then (value_or read d) (only_one values) ≡ Some x
one_again r d [] x s = ap (λ y. Some y) (sym s)
one_again r d (value ∷ []) x s = r.again value x s
one_again r d (value ∷ other ∷ values) x s = absurd s

-- a value that has no default
given_takes : {X : Type 0} (S : Spelling X) (v : Option X) (a : List ℕ) (o : Option X) → ((x : X) → v ≡ Some x → S x a []) → option_map (λ x. Some x) v ≡ Some o → Given S o a []
given_takes S None a o f e = cc
given_takes S (Some x) a o f e = (x, [], f x refl, (sym (in_some (Some x) o e), refl))

reads_given : {X : Type 0} {read : List ℕ → Option X} {S : Spelling X} → Reads read S → Reads (λ a. option_map (λ x. Some x) (read a)) (Given S)
reads_given {read = read} {S = S} r = record {
  takes = λ a o h e. given_takes S (read a) a o (λ x is. r.takes a x h is) e;
  again = λ a o (x, z, s, (p, q)). rw (r.again a x (subst (λ (b : List ℕ). S x a b) (sym q) s), p) refl;
}

maybe_is : {X : Type 0} (read : List ℕ → Option X) (v : Option (List ℕ)) → maybe read v ≡ value_or (λ a. option_map (λ x. Some x) (read a)) None v
maybe_is read None = refl
maybe_is read (Some a) = refl

maybe_same : {X : Type 0} (read : List ℕ → Option X) (v : Option (Option (List ℕ))) → option_and_then (maybe read) v ≡ option_and_then (value_or (λ a. option_map (λ x. Some x) (read a)) None) v
maybe_same read None = refl
maybe_same read (Some v) = maybe_is read v

-- the bytes are these entries, and each of their values is bytes
record Split (es : List Entry) (a : List ℕ) : Type 0 where
  are : entries_of a ≡ Some es
  bytes : EachBytes es

under_takes : {X : Type 0} {read : List ℕ → Option X} {S : Spelling X} → Reads read S → (id : ℕ) (d : X) (es : List Entry) (a : List ℕ) (x : X) → Split es a → option_and_then (value_or read d) (value_in id a) ≡ Some x → Under id S d es x
under_takes {read = read} r id d es a x s e =
    one_takes r d (values_of id es) x (values_bytes id es s.bytes) (sym (ap (λ v. option_and_then (value_or read d) v) (values_from id es a s.are)) ∙ e)

under_again : {X : Type 0} {read : List ℕ → Option X} {S : Spelling X} → Reads read S → (id : ℕ) (d : X) (es : List Entry) (a : List ℕ) (x : X) → entries_of a ≡ Some es → Under id S d es x → option_and_then (value_or read d) (value_in id a) ≡ Some x
under_again {read = read} r id d es a x s u =
    ap (λ v. option_and_then (value_or read d) v) (values_from id es a s) ∙ one_again r d (values_of id es) x u

given_under : {X : Type 0} {read : List ℕ → Option X} {S : Spelling X} → Reads read S → (id : ℕ) (es : List Entry) (a : List ℕ) (o : Option X) → Split es a → option_and_then (maybe read) (value_in id a) ≡ Some o → Under id (Given S) None es o
given_under {read = read} r id es a o s e = under_takes (reads_given r) id None es a o s (sym (maybe_same read (value_in id a)) ∙ e)

given_again : {X : Type 0} {read : List ℕ → Option X} {S : Spelling X} → Reads read S → (id : ℕ) (es : List Entry) (a : List ℕ) (o : Option X) → entries_of a ≡ Some es → Under id (Given S) None es o → option_and_then (maybe read) (value_in id a) ≡ Some o
given_again {read = read} r id es a o s u = maybe_same read (value_in id a) ∙ under_again (reads_given r) id None es a o s u

-- ---- each kind of parameter, both ways

number_under : (id d n : ℕ) (es : List Entry) (a : List ℕ) → Split es a → number_in id d a ≡ Some n → Under id Number d es n
unfolding number_in
number_under id d n es a s e = under_takes reads_number id d es a n s e

number_again : (id d n : ℕ) (es : List Entry) (a : List ℕ) → entries_of a ≡ Some es → Under id Number d es n → number_in id d a ≡ Some n
unfolding number_in
number_again id d n es a s u = under_again reads_number id d es a n s u

flag_under : (id : ℕ) (b : Bool) (es : List Entry) (a : List ℕ) → Split es a → flag_in id a ≡ Some b → Under id Flag false es b
unfolding flag_in
flag_under id b es a s e = under_takes reads_flag id false es a b s e

flag_again : (id : ℕ) (b : Bool) (es : List Entry) (a : List ℕ) → entries_of a ≡ Some es → Under id Flag false es b → flag_in id a ≡ Some b
unfolding flag_in
flag_again id b es a s u = under_again reads_flag id false es a b s u

maybe_under : (id : ℕ) (o : Option ℕ) (es : List Entry) (a : List ℕ) → Split es a → maybe_in id a ≡ Some o → Under id (Given Number) None es o
unfolding maybe_in
maybe_under id o es a s e = given_under reads_number id es a o s e

maybe_again : (id : ℕ) (o : Option ℕ) (es : List Entry) (a : List ℕ) → entries_of a ≡ Some es → Under id (Given Number) None es o → maybe_in id a ≡ Some o
unfolding maybe_in
maybe_again id o es a s u = given_again reads_number id es a o s u

id_under : (id : ℕ) (o : Option (List ℕ)) (es : List Entry) (a : List ℕ) → Split es a → id_in id a ≡ Some o → Under id (Given Id) None es o
unfolding id_in
id_under id o es a s e = given_under reads_id id es a o s e

id_again : (id : ℕ) (o : Option (List ℕ)) (es : List Entry) (a : List ℕ) → entries_of a ≡ Some es → Under id (Given Id) None es o → id_in id a ≡ Some o
unfolding id_in
id_again id o es a s u = given_again reads_id id es a o s u

token_under : (id : ℕ) (o : Option (List ℕ)) (es : List Entry) (a : List ℕ) → Split es a → token_in id a ≡ Some o → Under id (Given Token) None es o
unfolding token_in
token_under id o es a s e = given_under reads_token id es a o s e

token_again : (id : ℕ) (o : Option (List ℕ)) (es : List Entry) (a : List ℕ) → entries_of a ≡ Some es → Under id (Given Token) None es o → token_in id a ≡ Some o
unfolding token_in
token_again id o es a s u = given_again reads_token id es a o s u

address_under : (id : ℕ) (o : Option PreferredAddress) (es : List Entry) (a : List ℕ) → Split es a → address_in id a ≡ Some o → Under id (Given Address) None es o
unfolding address_in
address_under id o es a s e = given_under reads_address id es a o s e

address_again : (id : ℕ) (o : Option PreferredAddress) (es : List Entry) (a : List ℕ) → entries_of a ≡ Some es → Under id (Given Address) None es o → address_in id a ≡ Some o
unfolding address_in
address_again id o es a s u = given_again reads_address id es a o s u

-- ---- what was read is what the entries say: the parameters group by group

-- 0x00 to 0x03
abbrev FirstSaid : List Entry → TransportParameters → Type 0
FirstSaid es p =
    Under 0x00 (Given Id) None es p.original_dst_cid
    × Under 0x01 Number 0 es p.max_idle_timeout
    × Under 0x02 (Given Token) None es p.stateless_reset_token
    × Under 0x03 Number 65527 es p.max_udp_payload_size

-- up to 0x09
abbrev LimitsSaid : List Entry → TransportParameters → Type 0
LimitsSaid es p =
    FirstSaid es p
    × Under 0x04 Number 0 es p.initial_max_data
    × Under 0x05 Number 0 es p.initial_max_stream_data_bidi_local
    × Under 0x06 Number 0 es p.initial_max_stream_data_bidi_remote
    × Under 0x07 Number 0 es p.initial_max_stream_data_uni
    × Under 0x08 Number 0 es p.initial_max_streams_bidi
    × Under 0x09 Number 0 es p.initial_max_streams_uni

-- up to 0x0e
abbrev MiddleSaid : List Entry → TransportParameters → Type 0
MiddleSaid es p =
    LimitsSaid es p
    × Under 0x0a Number 3 es p.ack_delay_exponent
    × Under 0x0b Number 25 es p.max_ack_delay
    × Under 0x0c Flag false es p.disable_active_migration
    × Under 0x0d (Given Address) None es p.preferred_address
    × Under 0x0e Number 2 es p.active_connection_id_limit

-- all
abbrev AllSaid : List Entry → TransportParameters → Type 0
AllSaid es p =
    MiddleSaid es p
    × Under 0x0f (Given Id) None es p.initial_src_cid
    × Under 0x10 (Given Id) None es p.retry_src_cid
    × Under 0x20 (Given Number) None es p.max_datagram_frame_size
    × Under 0x2ab2 Flag false es p.grease_quic_bit

first_said : (es : List Entry) (a : List ℕ) (p : TransportParameters) → Split es a → first_parameters_of a ≡ Some p → FirstSaid es p
unfolding first_parameters_of
first_said es a p s e =
    let w0 = two_steps (id_in 0x00 a) _ p e in
    let w1 = two_steps (number_in 0x01 0 a) _ p w0.2 in
    let w2 = two_steps (token_in 0x02 a) _ p w1.2 in
    let w3 = two_steps (number_in 0x03 65527 a) _ p w2.2 in
    let P : TransportParameters → Type 0 = λ q. FirstSaid es q in
    subst P (in_some _ p w3.2) (id_under 0x00 w0.0 es a s w0.1, number_under 0x01 0 w1.0 es a s w1.1, token_under 0x02 w2.0 es a s w2.1, number_under 0x03 65527 w3.0 es a s w3.1)

limits_said : (es : List Entry) (a : List ℕ) (p : TransportParameters) → Split es a → limits_of a ≡ Some p → LimitsSaid es p
unfolding limits_of
limits_said es a p s e =
    let v = two_steps (first_parameters_of a) _ p e in
    let w4 = two_steps (number_in 0x04 0 a) _ p v.2 in
    let w5 = two_steps (number_in 0x05 0 a) _ p w4.2 in
    let w6 = two_steps (number_in 0x06 0 a) _ p w5.2 in
    let w7 = two_steps (number_in 0x07 0 a) _ p w6.2 in
    let w8 = two_steps (number_in 0x08 0 a) _ p w7.2 in
    let w9 = two_steps (number_in 0x09 0 a) _ p w8.2 in
    let P : TransportParameters → Type 0 = λ q. LimitsSaid es q in
    subst P (in_some _ p w9.2) (
      first_said es a v.0 s v.1,
      number_under 0x04 0 w4.0 es a s w4.1,
      number_under 0x05 0 w5.0 es a s w5.1,
      number_under 0x06 0 w6.0 es a s w6.1,
      number_under 0x07 0 w7.0 es a s w7.1,
      number_under 0x08 0 w8.0 es a s w8.1,
      number_under 0x09 0 w9.0 es a s w9.1,
    )

middle_said : (es : List Entry) (a : List ℕ) (p : TransportParameters) → Split es a → middle_of a ≡ Some p → MiddleSaid es p
unfolding middle_of
middle_said es a p s e =
    let v = two_steps (limits_of a) _ p e in
    let wa = two_steps (number_in 0x0a 3 a) _ p v.2 in
    let wb = two_steps (number_in 0x0b 25 a) _ p wa.2 in
    let wc = two_steps (flag_in 0x0c a) _ p wb.2 in
    let wd = two_steps (address_in 0x0d a) _ p wc.2 in
    let we = two_steps (number_in 0x0e 2 a) _ p wd.2 in
    let P : TransportParameters → Type 0 = λ q. MiddleSaid es q in
    subst P (in_some _ p we.2) (
      limits_said es a v.0 s v.1,
      number_under 0x0a 3 wa.0 es a s wa.1,
      number_under 0x0b 25 wb.0 es a s wb.1,
      flag_under 0x0c wc.0 es a s wc.1,
      address_under 0x0d wd.0 es a s wd.1,
      number_under 0x0e 2 we.0 es a s we.1,
    )

all_said : (es : List Entry) (a : List ℕ) (p : TransportParameters) → Split es a → parameters_of a ≡ Some p → AllSaid es p
unfolding parameters_of
all_said es a p s e =
    let v = two_steps (middle_of a) _ p e in
    let w0 = two_steps (id_in 0x0f a) _ p v.2 in
    let w1 = two_steps (id_in 0x10 a) _ p w0.2 in
    let w2 = two_steps (maybe_in 0x20 a) _ p w1.2 in
    let w3 = two_steps (flag_in 0x2ab2 a) _ p w2.2 in
    let P : TransportParameters → Type 0 = λ q. AllSaid es q in
    subst P (in_some _ p w3.2) (
      middle_said es a v.0 s v.1,
      id_under 0x0f w0.0 es a s w0.1,
      id_under 0x10 w1.0 es a s w1.1,
      maybe_under 0x20 w2.0 es a s w2.1,
      flag_under 0x2ab2 w3.0 es a s w3.1,
    )

are_said : (es : List Entry) (p : TransportParameters) → AllSaid es p → AreParameters es p
are_said es p (((first, d4, d5, d6, d7, d8, d9), ma, mb, mc, md, me), l0, l1, l2, l3) = record {
  original_dst_cid = first.0;
  max_idle_timeout = first.1;
  stateless_reset_token = first.2;
  max_udp_payload_size = first.3;
  initial_max_data = d4;
  initial_max_stream_data_bidi_local = d5;
  initial_max_stream_data_bidi_remote = d6;
  initial_max_stream_data_uni = d7;
  initial_max_streams_bidi = d8;
  initial_max_streams_uni = d9;
  ack_delay_exponent = ma;
  max_ack_delay = mb;
  disable_active_migration = mc;
  preferred_address = md;
  active_connection_id_limit = me;
  initial_src_cid = l0;
  retry_src_cid = l1;
  max_datagram_frame_size = l2;
  grease_quic_bit = l3;
}

pub parameters_take : (a : List ℕ) (p : TransportParameters) → IsBytes a → parameters_of a ≡ Some p → Parameters p a
parameters_take a p h e =
    let split = all_entries a p e in
    let es = split.0 in
    let spelled = entries_take es a h split.1 in
    let s : Split es a = record { are = split.1; bytes = each_bytes es a h spelled } in
    record { entries = es; spelled = spelled; say = are_said es p (all_said es a p s e) }

-- ---- what the entries say is read

-- the parameters up to this group, the others as if absent
abbrev first_part : TransportParameters → TransportParameters
first_part p = record default_parameters { original_dst_cid = p.original_dst_cid; max_idle_timeout = p.max_idle_timeout; stateless_reset_token = p.stateless_reset_token; max_udp_payload_size = p.max_udp_payload_size }

abbrev limits_part : TransportParameters → TransportParameters
limits_part p = record (first_part p) { initial_max_data = p.initial_max_data; initial_max_stream_data_bidi_local = p.initial_max_stream_data_bidi_local; initial_max_stream_data_bidi_remote = p.initial_max_stream_data_bidi_remote; initial_max_stream_data_uni = p.initial_max_stream_data_uni; initial_max_streams_bidi = p.initial_max_streams_bidi; initial_max_streams_uni = p.initial_max_streams_uni }

abbrev middle_part : TransportParameters → TransportParameters
middle_part p = record (limits_part p) { ack_delay_exponent = p.ack_delay_exponent; max_ack_delay = p.max_ack_delay; disable_active_migration = p.disable_active_migration; preferred_address = p.preferred_address; active_connection_id_limit = p.active_connection_id_limit }

first_again : (es : List Entry) (a : List ℕ) (p : TransportParameters) → entries_of a ≡ Some es → AreParameters es p → first_parameters_of a ≡ Some (first_part p)
unfolding first_parameters_of
first_again es a p s say =
    rw (
      id_again 0x00 p.original_dst_cid es a s say.original_dst_cid,
      number_again 0x01 0 p.max_idle_timeout es a s say.max_idle_timeout,
      token_again 0x02 p.stateless_reset_token es a s say.stateless_reset_token,
      number_again 0x03 65527 p.max_udp_payload_size es a s say.max_udp_payload_size,
    ) refl

limits_again : (es : List Entry) (a : List ℕ) (p : TransportParameters) → entries_of a ≡ Some es → AreParameters es p → limits_of a ≡ Some (limits_part p)
unfolding limits_of
limits_again es a p s say =
    rw (
      first_again es a p s say,
      number_again 0x04 0 p.initial_max_data es a s say.initial_max_data,
      number_again 0x05 0 p.initial_max_stream_data_bidi_local es a s say.initial_max_stream_data_bidi_local,
      number_again 0x06 0 p.initial_max_stream_data_bidi_remote es a s say.initial_max_stream_data_bidi_remote,
      number_again 0x07 0 p.initial_max_stream_data_uni es a s say.initial_max_stream_data_uni,
      number_again 0x08 0 p.initial_max_streams_bidi es a s say.initial_max_streams_bidi,
      number_again 0x09 0 p.initial_max_streams_uni es a s say.initial_max_streams_uni,
    ) refl

middle_again : (es : List Entry) (a : List ℕ) (p : TransportParameters) → entries_of a ≡ Some es → AreParameters es p → middle_of a ≡ Some (middle_part p)
unfolding middle_of
middle_again es a p s say =
    rw (
      limits_again es a p s say,
      number_again 0x0a 3 p.ack_delay_exponent es a s say.ack_delay_exponent,
      number_again 0x0b 25 p.max_ack_delay es a s say.max_ack_delay,
      flag_again 0x0c p.disable_active_migration es a s say.disable_active_migration,
      address_again 0x0d p.preferred_address es a s say.preferred_address,
      number_again 0x0e 2 p.active_connection_id_limit es a s say.active_connection_id_limit,
    ) refl

said_again : (es : List Entry) (a : List ℕ) (p : TransportParameters) → entries_of a ≡ Some es → AreParameters es p → parameters_of a ≡ Some p
unfolding parameters_of
said_again es a p s say =
    rw (
      middle_again es a p s say,
      id_again 0x0f p.initial_src_cid es a s say.initial_src_cid,
      id_again 0x10 p.retry_src_cid es a s say.retry_src_cid,
      maybe_again 0x20 p.max_datagram_frame_size es a s say.max_datagram_frame_size,
      flag_again 0x2ab2 p.grease_quic_bit es a s say.grease_quic_bit,
    ) refl

pub parameters_again : (a : List ℕ) (p : TransportParameters) → Parameters p a → parameters_of a ≡ Some p
parameters_again a p s = said_again s.entries a p (entries_again s.entries a s.spelled) s.say

-- ---- what reading gives

pub read_only : (side : Side) (a : List ℕ) (p : TransportParameters) → Parameters p a → parameters_read side a ≡ judged side (Some p)
unfolding parameters_read
read_only side a p s = rw (parameters_again a p s) refl

none_other : {X : Type 0} (o : Option X) (x : X) → o ≡ None → o ≡ Some x → ⊥
none_other o x e f = let both = sym e ∙ f in cc

allowed_is : (side : Side) (a : List ℕ) (p : TransportParameters) (b : Bool) → IsBytes a → parameters_of a ≡ Some p → is_legal side p ≡ b → IsReading side a (if b then Ok p else Err IllegalValue)
allowed_is side a p true h e l = (parameters_take a p h e, l)
allowed_is side a p false h e l = (p, parameters_take a p h e, l)

judged_is : (side : Side) (a : List ℕ) (o : Option TransportParameters) → IsBytes a → parameters_of a ≡ o → IsReading side a (judged side o)
judged_is side a None h e = λ p s. none_other (parameters_of a) p e (parameters_again a p s)
judged_is side a (Some p) h e = allowed_is side a p (is_legal side p) h e refl

pub read_is : (side : Side) (a : List ℕ) → IsBytes a → IsReading side a (parameters_read side a)
unfolding parameters_read
read_is side a h = judged_is side a (parameters_of a) h refl
