-- The names of transport error codes (RFC 9000, section 20.1)
use Rattle.std.specs.Prelude.{ℕ, List, [], ◌∷◌, codes, ◌==◌, if◌then◌else◌}
use Rattle.std.specs.Fmt.{decimal}

-- each code that has a name
abbrev pub code_names : List (ℕ × List ℕ)
code_names =
    (0, codes "NO_ERROR") ∷
    (1, codes "INTERNAL_ERROR") ∷
    (2, codes "CONNECTION_REFUSED") ∷
    (3, codes "FLOW_CONTROL_ERROR") ∷
    (4, codes "STREAM_LIMIT_ERROR") ∷
    (5, codes "STREAM_STATE_ERROR") ∷
    (6, codes "FINAL_SIZE_ERROR") ∷
    (7, codes "FRAME_ENCODING_ERROR") ∷
    (8, codes "TRANSPORT_PARAMETER_ERROR") ∷
    (9, codes "CONNECTION_ID_LIMIT_ERROR") ∷
    (0xa, codes "PROTOCOL_VIOLATION") ∷
    (0xb, codes "INVALID_TOKEN") ∷
    (0xc, codes "APPLICATION_ERROR") ∷
    (0xd, codes "CRYPTO_BUFFER_EXCEEDED") ∷
    (0xe, codes "KEY_UPDATE_ERROR") ∷
    (0xf, codes "AEAD_LIMIT_REACHED") ∷
    (0x10, codes "NO_VIABLE_PATH") ∷
    []

-- the name that stands beside a code in the table, or the code's decimal digits
abbrev pub name_in : List (ℕ × List ℕ) → ℕ → List ℕ
name_in [] code = decimal code
name_in (row ∷ rows) code = if code == row.0 then row.1 else name_in rows code

-- what is printed for a code
unfoldable pub code_text : ℕ → List ℕ
code_text code = name_in code_names code
