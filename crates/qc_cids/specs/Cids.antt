-- The connection ids of both ends, as a connection keeps them (RFC 9000, sections 5.1, 19.15 and 19.16): those of the peer, of which the
-- first is in use; those that this end issued; and what of both waits to be told in frames.
use Rattle.std.specs.Prelude.{ℕ, ◌-◌, ◌^◌, min, ◌==◌, ◌&&◌, Bool, not, nat_le, nat_lt, if◌then◌else◌, List, [], ◌∷◌, length, Option, None, Some, is_some}
use Rattle.std.specs.Option.{option_map}
use Rattle.qc_base.specs.Time.{plus}
use Rattle.qc_base.specs.declared.ids.IssuedCid.{IssuedCid}
use Rattle.qc_base.specs.declared.transport_error.TransportError.{TransportError}
use Rattle.qc_cids.specs.declared.connection_ids.ConnectionIds.{ConnectionIds}
use Rattle.qc_cids.specs.declared.giving.GiveRefusal.{GiveRefusal}
use Rattle.qc_cids.specs.declared.giving.GiveRefusal.TheVariants.{NotAsked, Sequence, IdLength}
use Rattle.qc_frame.specs.declared.frames.NewConnectionId.{NewConnectionId}
use Rattle.qc_ids.specs.CidQueue.{active_of, active_seq_of, first_cid, insert_answer, next_answer}
use Rattle.qc_ids.specs.LocalCids.{LocalCids, allows_one_more, may_retire, newly_asked, retired}
use Rattle.qc_ids.specs.QueueLaws.{Insert, is_taken, retires}
use Rattle.qc_ids.specs.declared.cid_queue.KeptCid.{KeptCid}

-- those of a connection that was just made: it knows one id of the peer, and issued these of its own; nothing waits, and none is asked for
unfoldable pub first_ids : (remote : List ℕ) → LocalCids → ConnectionIds
first_ids remote local = record { remote = first_cid remote; local = local; unsent = []; retired = []; asked = 0 }

-- ---- what waits

-- the first number
abbrev pub first_number : List ℕ → Option ℕ
first_number [] = None
first_number (n ∷ ns) = Some n

-- the first id
abbrev pub first_issued : List IssuedCid → Option IssuedCid
first_issued [] = None
first_issued (c ∷ cs) = Some c

-- a number takes its place among others that ascend, behind those that are not greater
abbrev pub number_placed : ℕ → List ℕ → List ℕ
number_placed n [] = n ∷ []
number_placed n (k ∷ ks) = if nat_lt n k then n ∷ k ∷ ks else k ∷ number_placed n ks

-- numbers take their places among others, one after the other
abbrev pub numbers_placed : (new placed : List ℕ) → List ℕ
numbers_placed [] ks = ks
numbers_placed (n ∷ ns) ks = numbers_placed ns (number_placed n ks)

-- a number is taken out once, where it is there
abbrev pub number_dropped : ℕ → List ℕ → List ℕ
number_dropped n [] = []
number_dropped n (k ∷ ks) = if k == n then ks else k ∷ number_dropped n ks

-- an id takes its place among others by its number, unless one with that number is there
abbrev pub cid_placed : IssuedCid → List IssuedCid → List IssuedCid
cid_placed c [] = c ∷ []
cid_placed c (x ∷ xs) = if nat_lt c.sequence x.sequence then c ∷ x ∷ xs else if x.sequence == c.sequence then x ∷ xs else x ∷ cid_placed c xs

-- the id with a number is taken out, where it is there
abbrev pub cid_dropped : (sequence : ℕ) → List IssuedCid → List IssuedCid
cid_dropped n [] = []
cid_dropped n (x ∷ xs) = if x.sequence == n then xs else x ∷ cid_dropped n xs

-- the frame that tells an id, while ids below a number are to be retired: as many of them as lie below this one (RFC 9000, section 19.15)
abbrev pub told_with : (floor : ℕ) → IssuedCid → NewConnectionId
told_with floor c = record { sequence = c.sequence; retire_prior_to = min floor c.sequence; id = c.id; reset_token = c.reset_token }

-- an id can be told: its number has room in its field, and it has bytes
abbrev pub can_be_told : IssuedCid → Bool
can_be_told c = nat_lt c.sequence (2 ^ 62) && nat_lt 0 (length c.id)

-- the frame that tells the first of some ids, where it can be told
abbrev pub told_first : (floor : ℕ) → List IssuedCid → Option NewConnectionId
told_first floor [] = None
told_first floor (c ∷ cs) = if can_be_told c then Some (told_with floor c) else None

-- the NEW_CONNECTION_ID that goes next, where one waits: that of the id with the lowest number
unfoldable pub next_told : ConnectionIds → Option NewConnectionId
next_told s = told_first s.local.retire_prior_to s.unsent

-- the first of some numbers, where a frame has room for it
abbrev pub retired_first : List ℕ → Option ℕ
retired_first [] = None
retired_first (n ∷ ns) = if nat_lt n (2 ^ 62) then Some n else None

-- the number of the RETIRE_CONNECTION_ID that goes next, where one waits: the lowest
unfoldable pub next_retired : ConnectionIds → Option ℕ
next_retired s = retired_first s.retired

-- ---- frames that come

-- the id that comes with a preferred address has the number 1, and retires none (RFC 9000, section 5.1.1)
abbrev pub preferred_cid : (id reset_token : List ℕ) → NewConnectionId
preferred_cid id reset_token = record { sequence = 1; retire_prior_to = 0; id = id; reset_token = reset_token }

-- PROTOCOL_VIOLATION (RFC 9000, section 20.1)
abbrev pub violation : TransportError
violation = record { code = 0x0a; frame = None }

-- CONNECTION_ID_LIMIT_ERROR (RFC 9000, section 20.1)
abbrev pub limit_error : TransportError
limit_error = record { code = 0x09; frame = None }

-- Why a NEW_CONNECTION_ID changes nothing, if it doesn't: packets to the peer carry no id, so that it has no others (RFC 9000, section
-- 19.15); or it has issued more than are kept (section 5.1.1). One below the id in use was retired before it came.
unfoldable pub new_refusal : NewConnectionId → List KeptCid → Option TransportError
new_refusal new ids =
    if length (active_of ids) == 0 then Some violation
    else if nat_le (active_seq_of ids) new.sequence && not (is_taken new ids) then Some limit_error
    else None

-- the numbers that it has this end retire: its own, where it was retired before it came, and else those of the ids that give way to
-- another one in use
unfoldable pub retires_by : NewConnectionId → List KeptCid → List ℕ
retires_by new ids = if nat_lt new.sequence (active_seq_of ids) then new.sequence ∷ [] else retires (Insert new) ids

-- the reset token of the id that it has taken into use, if it has (RFC 9000, section 10.3)
unfoldable pub token_by : NewConnectionId → List KeptCid → Option (List ℕ)
token_by new ids =
    if is_some (new_refusal new ids) then None
    else if is_taken new ids then option_map (λ answer. answer.1) (insert_answer new ids)
    else None

-- that of the next id, where there is one
unfoldable pub next_token : List KeptCid → Option (List ℕ)
next_token ids = option_map (λ answer. answer.0) (next_answer ids)

-- how many retirements may wait: an end that makes its peer owe more is stopped (RFC 9000, section 5.1.2)
abbrev pub most_retired : ℕ
most_retired = 256

-- whether more wait than may
unfoldable pub retires_too_many : ConnectionIds → Bool
retires_too_many s = nat_lt most_retired (length s.retired)

-- the id in use is the first one that there was
unfoldable pub uses_first : ConnectionIds → Bool
uses_first s = active_seq_of s.remote == 0

-- ---- ids of this end

-- more are asked for
unfoldable pub asked_more : ℕ → ConnectionIds → ConnectionIds
asked_more n s = record s { asked = plus s.asked n }

-- how many may be given: those that are asked for, as far as there are numbers for them
unfoldable pub may_give : ConnectionIds → ℕ
may_give s = min s.asked (2 ^ 62 - s.local.issued)

-- whether one more is asked for as the peer retires an id (RFC 9000, section 5.1.1)
unfoldable pub asks_one : (limit sequence : ℕ) → ConnectionIds → Bool
asks_one limit n s = may_retire n s.local && allows_one_more limit (retired n s.local)

-- how many are asked for as the oldest ones have grown old
unfoldable pub asks_anew : ConnectionIds → ℕ
asks_anew s = newly_asked s.local

-- why the first of ids that isn't right isn't, where these are to have the next numbers and so many bytes each
abbrev pub bad_cid : (cid_len wanted : ℕ) → List IssuedCid → Option GiveRefusal
bad_cid cid_len wanted [] = None
bad_cid cid_len wanted (c ∷ cs) =
    if not (c.sequence == wanted) then Some (Sequence wanted c.sequence)
    else if not (length c.id == cid_len) then Some (IdLength cid_len (length c.id))
    else bad_cid cid_len (plus wanted 1) cs

-- why ids may not be given, if they may not: more than are asked for; or the first that isn't right has another number than the next one,
-- or another length than this end's ids
unfoldable pub give_refusal : List IssuedCid → ConnectionIds → Option GiveRefusal
give_refusal ids s = if nat_lt (may_give s) (length ids) then Some (NotAsked (may_give s) (length ids)) else bad_cid s.local.cid_len s.local.issued ids
