-- What happens to the connection ids of both ends, as steps.
use Rattle.std.specs.Prelude.{ℕ, ◌-◌, if◌then◌else◌, List, [], ◌∷◌, ◌++◌, length, is_some}
use Rattle.qc_base.specs.declared.ids.IssuedCid.{IssuedCid}
use Rattle.qc_cids.specs.declared.connection_ids.ConnectionIds.{ConnectionIds}
use Rattle.qc_cids.specs.Cids.{asked_more, asks_one, cid_dropped, cid_placed, new_refusal, number_dropped, number_placed, numbers_placed, retires_by}
use Rattle.qc_frame.specs.declared.frames.NewConnectionId.{NewConnectionId}
use Rattle.qc_ids.specs.CidQueue.{after_next, renamed}
use Rattle.qc_ids.specs.LocalCids.{issued_more, may_retire, retired, timed_out}
use Rattle.qc_ids.specs.QueueLaws.{Insert, Next, queue_after, retires}

-- what happens
pub data Step : Type 0 where
  -- a NEW_CONNECTION_ID comes, refused or not
  NewCame : NewConnectionId → Step
  -- the next id of the peer is taken into use, where there is one
  Switched : Step
  -- the peer has chosen another id in the place of the one in use
  Renamed : List ℕ → Step
  -- the peer has named an id with its parameters, which is kept like one of a frame (RFC 9000, section 9.6)
  Preferred : NewConnectionId → Step
  -- a RETIRE_CONNECTION_ID of a number comes, refused or not; so many ids may be active
  RetireCame : (limit sequence : ℕ) → Step
  -- so many ids of this end are asked for
  Asked : ℕ → Step
  -- ids of this end are given at a time
  Given : List IssuedCid → (time : ℕ) → Step
  -- the oldest ids of this end have grown old
  Expired : Step
  -- a NEW_CONNECTION_ID with a number is sealed
  TellSealed : (sequence : ℕ) → Step
  -- a RETIRE_CONNECTION_ID of a number is sealed
  RetireSealed : (sequence : ℕ) → Step
  -- the one that told this id was lost
  TellLost : IssuedCid → Step
  -- the one of this number was lost
  RetireLost : (sequence : ℕ) → Step

-- a NEW_CONNECTION_ID is taken: it is kept, unless it was retired before, and what it retires waits to be told
unfoldable pub new_taken : NewConnectionId → ConnectionIds → ConnectionIds
new_taken new s = record s { remote = queue_after (Insert new) s.remote; retired = numbers_placed (retires_by new s.remote) s.retired }

-- what a step leaves
unfoldable pub after_step : Step → ConnectionIds → ConnectionIds
after_step (NewCame new) s = if is_some (new_refusal new s.remote) then s else new_taken new s
after_step Switched s = record s { remote = after_next s.remote; retired = numbers_placed (retires Next s.remote) s.retired }
after_step (Renamed id) s = record s { remote = renamed id s.remote }
after_step (Preferred new) s = record s { remote = queue_after (Insert new) s.remote }
after_step (RetireCame limit n) s =
    if may_retire n s.local then asked_more (if asks_one limit n s then 1 else 0) (record s { local = retired n s.local }) else s
after_step (Asked n) s = asked_more n s
after_step (Given ids time) s = record s { local = issued_more ids time s.local; unsent = s.unsent ++ ids; asked = s.asked - length ids }
after_step Expired s = record s { local = timed_out s.local }
after_step (TellSealed n) s = record s { unsent = cid_dropped n s.unsent }
after_step (RetireSealed n) s = record s { retired = number_dropped n s.retired }
after_step (TellLost c) s = record s { unsent = cid_placed c s.unsent }
after_step (RetireLost n) s = record s { retired = number_placed n s.retired }

-- what steps leave, one after the other
unfoldable pub after : List Step → ConnectionIds → ConnectionIds
after [] s = s
after (x ∷ xs) s = after xs (after_step x s)
