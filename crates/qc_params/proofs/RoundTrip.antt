-- Parameters that were written are read back
use Rattle.std.proofs.Common.{◌≡◌, ℕ, ◌%◌, ◌≤◌, List, [], ◌∷◌, ◌++◌, length, Option, Some, None, Bool, true, false, Result, Ok, Err, OnOk, refl, arith, sym, ap, ◌∙◌, subst, nat_eq, append_assoc, if◌then◌else◌, length-append, nat_lt}
use Rattle.std.proofs.lemmas.Bool.Decides.{nat_tests}
use Rattle.std.specs.Prelude.{option_to_list}
use Rattle.std.specs.Option.{option_map}
use Rattle.std.specs.Net.Addr.{ipv6_segments}
use Rattle.qc_base.specs.Varint.{IsNumber, varint, one, two, four, eight, spelled}
use Rattle.qc_base.specs.Grammar.{Spelling}
use Rattle.qc_base.specs.declared.side.Side.{Side}
use Rattle.qc_base.proofs.Varints.{varint_spelled}
use Rattle.qc_params.specs.declared.params.TransportParameters.{TransportParameters}
use Rattle.qc_params.specs.declared.params.PreferredAddress.{PreferredAddress}
use Rattle.qc_params.specs.ParametersFit.{Each, IsId, IsToken, AddressFits, ParametersFit, ReadsBack}
use Rattle.qc_params.specs.ParametersGrammar.{Entry, AnEntry, Entries, values_of, Number, Flag, Id, Token, Address, Given, OneOr, Under, AreParameters, Parameters}
use Rattle.qc_params.specs.ParametersSpelling.{ParameterRow, parameter, number_text, flag_text, row_text, rows_text, first_rows, limit_rows, middle_rows, last_rows, address_bytes, parameters_spelling}
use Rattle.qc_params.specs.ParametersReading.{is_legal, parameters_read}
use Rattle.qc_params.proofs.ValueLaws.{number_spelled, id_spelled, token_spelled, address_spelled, length_octets}
use Rattle.qc_params.proofs.ReadingLaws.{read_only}

-- ---- the entries of a table

abbrev entries_in : List ParameterRow → List Entry
entries_in [] = []
entries_in ((id, None) ∷ rows) = entries_in rows
entries_in ((id, Some value) ∷ rows) = (id, value) ∷ entries_in rows

-- an id and a length have varints
abbrev ValueFits : List ℕ → Type 0
ValueFits value = IsNumber (length value)

record RowFits (row : ParameterRow) : Type 0 where
  pub id : IsNumber row.0
  pub value : Each ValueFits row.1

abbrev AllFit : List ParameterRow → Type 0
AllFit [] = Unit {0}
AllFit (row ∷ rows) = RowFits row × AllFit rows

rows_spelled : (rows : List ParameterRow) → AllFit rows → Entries (entries_in rows) (rows_text rows)
unfolding row_text parameter
rows_spelled [] h = refl
rows_spelled ((id, None) ∷ rows) h = rows_spelled rows h.1
rows_spelled ((id, Some value) ∷ rows) h =
    let row = h.0 in
    let fits : IsNumber (length value) = row.value in
    let rest = varint (length value) ++ (value ++ rows_text rows) in
    let parts : varint id ++ varint (length value) ++ value ++ rows_text rows ≡ varint id ++ rest = simp append_assoc refl in
    let P : List ℕ → Type 0 = λ a. AnEntry (id, value) a (rows_text rows) in (
      rows_text rows,
      subst P (sym parts)
          (id, rest, varint_spelled id rest row.id, (value, rows_text rows, (length value, value ++ rows_text rows, varint_spelled (length value) (value ++ rows_text rows) fits, (refl, refl)), (refl, refl))),
      rows_spelled rows h.1,
    )

-- ---- the value under an id of a table

abbrev values_at : ℕ → List ParameterRow → List (List ℕ)
values_at id [] = []
values_at id (row ∷ rows) = if nat_eq row.0 id then option_to_list row.1 ++ values_at id rows else values_at id rows

values_under : (id k : ℕ) (v : List ℕ) (rows : List ParameterRow) (b : Bool) → nat_eq k id ≡ b → values_of id (entries_in rows) ≡ values_at id rows
    → (if b then v ∷ values_of id (entries_in rows) else values_of id (entries_in rows)) ≡ (if b then (v ∷ []) ++ values_at id rows else values_at id rows)
values_under id k v rows true t e = ap (λ (w : List (List ℕ)). v ∷ w) e
values_under id k v rows false t e = e

none_under : (id k : ℕ) (rows : List ParameterRow) (b : Bool) → values_of id (entries_in rows) ≡ values_at id rows
    → values_of id (entries_in rows) ≡ (if b then [] ++ values_at id rows else values_at id rows)
none_under id k rows true e = e
none_under id k rows false e = e

values_of_rows : (id : ℕ) (rows : List ParameterRow) → values_of id (entries_in rows) ≡ values_at id rows
values_of_rows id [] = refl
values_of_rows id ((k, None) ∷ rows) = none_under id k rows (nat_eq k id) (values_of_rows id rows)
values_of_rows id ((k, Some v) ∷ rows) = values_under id k v rows (nat_eq k id) refl (values_of_rows id rows)

-- what a table says under an id where it has a value, or none
under_rows : {X : Type 0} (S : Spelling X) (d x : X) (id : ℕ) (o : Option (List ℕ)) (rows : List ParameterRow) → values_at id rows ≡ option_to_list o ++ [] → OneOr S d (option_to_list o) x → Under id S d (entries_in rows) x
under_rows S d x id None rows e s = subst (λ (w : List (List ℕ)). OneOr S d w x) (sym (values_of_rows id rows ∙ e)) s
under_rows S d x id (Some v) rows e s = subst (λ (w : List (List ℕ)). OneOr S d w x) (sym (values_of_rows id rows ∙ e)) s

-- ---- the table of the parameters

varint_short_by : (n : ℕ) (a b c : Bool) → length (if a then spelled one n else if b then spelled two n else if c then spelled four n else spelled eight (n % 4611686018427387904)) ≤ 8
varint_short_by n true b c = omega arith
varint_short_by n false true c = omega arith
varint_short_by n false false true = omega arith
varint_short_by n false false false = omega arith

varint_short : (n : ℕ) → length (varint n) ≤ 8
unfolding varint
varint_short n = varint_short_by n (nat_lt n 64) (nat_lt n 16384) (nat_lt n 1073741824)

number_fits_by : (n : ℕ) (b : Bool) → Each ValueFits (if b then None else Some (varint n))
number_fits_by n true = tt
number_fits_by n false = let short = varint_short n in omega arith

number_row : (id d n : ℕ) → IsNumber id → RowFits (id, number_text d n)
unfolding number_text
number_row id d n h = record { id = h; value = number_fits_by n (nat_eq n d) }

flag_row : (id : ℕ) (b : Bool) → IsNumber id → RowFits (id, flag_text b)
flag_row id true h = record { id = h; value = omega arith }
flag_row id false h = record { id = h; value = tt }

maybe_row : (id : ℕ) (o : Option ℕ) → IsNumber id → RowFits (id, option_map varint o)
maybe_row id None h = record { id = h; value = tt }
maybe_row id (Some n) h = record { id = h; value = let short = varint_short n in omega arith }

id_row : (id : ℕ) (o : Option (List ℕ)) → IsNumber id → Each IsId o → RowFits (id, o)
id_row id None h f = record { id = h; value = tt }
id_row id (Some v) h f = record { id = h; value = omega arith }

token_row : (id : ℕ) (o : Option (List ℕ)) → IsNumber id → Each IsToken o → RowFits (id, o)
token_row id None h f = record { id = h; value = tt }
token_row id (Some v) h f = record { id = h; value = omega arith }

address_short : (a : PreferredAddress) → AddressFits a → IsNumber (length (address_bytes a))
unfolding address_bytes
address_short a h =
    let four = h.ipv4 in
    let sixteen = length_octets (ipv6_segments a.ipv6) in
    let eight = h.ipv6 in
    let id = h.id in
    let token = h.reset_token in
    simp length-append (omega arith)

address_row : (id : ℕ) (o : Option PreferredAddress) → IsNumber id → Each AddressFits o → RowFits (id, option_map address_bytes o)
address_row id None h f = record { id = h; value = tt }
address_row id (Some a) h f = record { id = h; value = address_short a f }

abbrev rows : TransportParameters → List ParameterRow
rows p = first_rows p ++ limit_rows p ++ middle_rows p ++ last_rows p

all_fit : (p : TransportParameters) → ParametersFit p → AllFit (rows p)
all_fit p h = (
  id_row 0x00 p.original_dst_cid (omega arith) h.first.original_dst_cid,
  (
    number_row 0x01 0 p.max_idle_timeout (omega arith),
    (
      token_row 0x02 p.stateless_reset_token (omega arith) h.first.stateless_reset_token,
      (
        number_row 0x03 65527 p.max_udp_payload_size (omega arith),
        (
          number_row 0x04 0 p.initial_max_data (omega arith),
          (
            number_row 0x05 0 p.initial_max_stream_data_bidi_local (omega arith),
            (
              number_row 0x06 0 p.initial_max_stream_data_bidi_remote (omega arith),
              (
                number_row 0x07 0 p.initial_max_stream_data_uni (omega arith),
                (
                  number_row 0x08 0 p.initial_max_streams_bidi (omega arith),
                  (
                    number_row 0x09 0 p.initial_max_streams_uni (omega arith),
                    (
                      number_row 0x0a 3 p.ack_delay_exponent (omega arith),
                      (
                        number_row 0x0b 25 p.max_ack_delay (omega arith),
                        (
                          flag_row 0x0c p.disable_active_migration (omega arith),
                          (
                            address_row 0x0d p.preferred_address (omega arith) h.middle.preferred_address,
                            (
                              number_row 0x0e 2 p.active_connection_id_limit (omega arith),
                              (
                                id_row 0x0f p.initial_src_cid (omega arith) h.last.initial_src_cid,
                                (
                                  id_row 0x10 p.retry_src_cid (omega arith) h.last.retry_src_cid,
                                  (
                                    maybe_row 0x20 p.max_datagram_frame_size (omega arith),
                                    (
                                      flag_row 0x2ab2 p.grease_quic_bit (omega arith),
                                      tt,
                                    ),
                                  ),
                                ),
                              ),
                            ),
                          ),
                        ),
                      ),
                    ),
                  ),
                ),
              ),
            ),
          ),
        ),
      ),
    ),
  ),
)

-- ---- what the table says

number_said_by : (d n : ℕ) (b : Bool) → nat_eq n d ≡ b → IsNumber n → OneOr Number d (option_to_list (if b then None else Some (varint n))) n
number_said_by d n true t h = grind (arith, nat_tests)
number_said_by d n false t h = number_spelled n h

number_said : (rows : List ParameterRow) (id d n : ℕ) → IsNumber n → values_at id rows ≡ option_to_list (number_text d n) ++ [] → Under id Number d (entries_in rows) n
unfolding number_text
number_said rows id d n h e = under_rows Number d n id (number_text d n) rows e (number_said_by d n (nat_eq n d) refl h)

maybe_said : (rows : List ParameterRow) (id : ℕ) (o : Option ℕ) → Each IsNumber o → values_at id rows ≡ option_to_list (option_map varint o) ++ [] → Under id (Given Number) None (entries_in rows) o
maybe_said rows id None h e = under_rows (Given Number) None None id None rows e refl
maybe_said rows id (Some n) h e = under_rows (Given Number) None (Some n) id (Some (varint n)) rows e (n, [], number_spelled n h, (refl, refl))

flag_said : (rows : List ParameterRow) (id : ℕ) (b : Bool) → values_at id rows ≡ option_to_list (flag_text b) ++ [] → Under id Flag false (entries_in rows) b
flag_said rows id false e = under_rows Flag false false id None rows e refl
flag_said rows id true e = under_rows Flag false true id (Some []) rows e (refl, refl)

id_said : (rows : List ParameterRow) (id : ℕ) (o : Option (List ℕ)) → Each IsId o → values_at id rows ≡ option_to_list o ++ [] → Under id (Given Id) None (entries_in rows) o
id_said rows id None h e = under_rows (Given Id) None None id None rows e refl
id_said rows id (Some v) h e = under_rows (Given Id) None (Some v) id (Some v) rows e (v, [], id_spelled v h, (refl, refl))

token_said : (rows : List ParameterRow) (id : ℕ) (o : Option (List ℕ)) → Each IsToken o → values_at id rows ≡ option_to_list o ++ [] → Under id (Given Token) None (entries_in rows) o
token_said rows id None h e = under_rows (Given Token) None None id None rows e refl
token_said rows id (Some v) h e = under_rows (Given Token) None (Some v) id (Some v) rows e (v, [], token_spelled v h, (refl, refl))

address_said : (rows : List ParameterRow) (id : ℕ) (o : Option PreferredAddress) → Each AddressFits o → values_at id rows ≡ option_to_list (option_map address_bytes o) ++ [] → Under id (Given Address) None (entries_in rows) o
address_said rows id None h e = under_rows (Given Address) None None id None rows e refl
address_said rows id (Some v) h e = under_rows (Given Address) None (Some v) id (Some (address_bytes v)) rows e (v, [], address_spelled v h, (refl, refl))

all_said : (p : TransportParameters) → ParametersFit p → AreParameters (entries_in (rows p)) p
all_said p h =
    let r = rows p in
    record {
      original_dst_cid = id_said r 0x00 p.original_dst_cid h.first.original_dst_cid refl;
      max_idle_timeout = number_said r 0x01 0 p.max_idle_timeout h.first.max_idle_timeout refl;
      stateless_reset_token = token_said r 0x02 p.stateless_reset_token h.first.stateless_reset_token refl;
      max_udp_payload_size = number_said r 0x03 65527 p.max_udp_payload_size h.first.max_udp_payload_size refl;
      initial_max_data = number_said r 0x04 0 p.initial_max_data h.limits.initial_max_data refl;
      initial_max_stream_data_bidi_local = number_said r 0x05 0 p.initial_max_stream_data_bidi_local h.limits.initial_max_stream_data_bidi_local refl;
      initial_max_stream_data_bidi_remote = number_said r 0x06 0 p.initial_max_stream_data_bidi_remote h.limits.initial_max_stream_data_bidi_remote refl;
      initial_max_stream_data_uni = number_said r 0x07 0 p.initial_max_stream_data_uni h.limits.initial_max_stream_data_uni refl;
      initial_max_streams_bidi = number_said r 0x08 0 p.initial_max_streams_bidi h.limits.initial_max_streams_bidi refl;
      initial_max_streams_uni = number_said r 0x09 0 p.initial_max_streams_uni h.limits.initial_max_streams_uni refl;
      ack_delay_exponent = number_said r 0x0a 3 p.ack_delay_exponent h.middle.ack_delay_exponent refl;
      max_ack_delay = number_said r 0x0b 25 p.max_ack_delay h.middle.max_ack_delay refl;
      disable_active_migration = flag_said r 0x0c p.disable_active_migration refl;
      preferred_address = address_said r 0x0d p.preferred_address h.middle.preferred_address refl;
      active_connection_id_limit = number_said r 0x0e 2 p.active_connection_id_limit h.middle.active_connection_id_limit refl;
      initial_src_cid = id_said r 0x0f p.initial_src_cid h.last.initial_src_cid refl;
      retry_src_cid = id_said r 0x10 p.retry_src_cid h.last.retry_src_cid refl;
      max_datagram_frame_size = maybe_said r 0x20 p.max_datagram_frame_size h.last.max_datagram_frame_size refl;
      grease_quic_bit = flag_said r 0x2ab2 p.grease_quic_bit refl;
    }

written_spelled : (p : TransportParameters) → ParametersFit p → Parameters p (parameters_spelling p)
unfolding parameters_spelling
written_spelled p h = record { entries = entries_in (rows p); spelled = rows_spelled (rows p) (all_fit p h); say = all_said p h }

-- parameters that may be sent, and whose values fit, are read as what was written
written_back : (side : Side) (p : TransportParameters) → ParametersFit p → is_legal side p ≡ true → parameters_read side (parameters_spelling p) ≡ Ok p
written_back side p h legal = read_only side (parameters_spelling p) p (written_spelled p h) ∙ rw legal refl

pub reads_back : (p : TransportParameters) → ParametersFit p → ReadsBack p
reads_back p h = record { spelled = written_spelled p h; reads = λ side legal. written_back side p h legal }

-- where an answer is Ok, and fits are known of it
pub ok_reads_back : {E : Type 0} (p : TransportParameters) (r s : Result (Unit {0}) E) → s ≡ r → OnOk r (ParametersFit p) → OnOk s (ReadsBack p)
ok_reads_back p r (Ok u) e h = reads_back p (subst (λ q. OnOk q (ParametersFit p)) (sym e) h)
ok_reads_back p r (Err f) e h = tt
