-- What holds of the ids that this end issued, over any calls
use Rattle.std.specs.Prelude.{◌≡◌, ℕ, ◌-◌, ◌≤◌, ◌==◌, Bool, true, false, List, [], ◌∷◌, length, count_by, nat_le, if◌then◌else◌}
use Rattle.std.specs.List.{list_any}
use Rattle.qc_base.specs.declared.ids.IssuedCid.{IssuedCid}
use Rattle.qc_ids.specs.LocalCids.{AreNext, LocalCids, allows_one_more, issued_more, may_retire, newly_asked, retired, timed_out}

-- the calls that change what was issued; the first only with ids that are the next ones, as the call demands
pub data IssueCall : Type 0 where
  Issue : List IssuedCid → ℕ → IssueCall
  Retire : ℕ → IssueCall
  Expire : IssueCall

-- what a call leaves
unfoldable pub issued_after : IssueCall → LocalCids → LocalCids
issued_after (Issue ids now) s = issued_more ids now s
issued_after (Retire n) s = if may_retire n s then retired n s else s
issued_after Expire s = timed_out s

-- what a list of calls leaves
abbrev pub issue_run : List IssueCall → LocalCids → LocalCids
issue_run [] s = s
issue_run (call ∷ calls) s = issue_run calls (issued_after call s)

-- the call may be made
abbrev pub MayCall : IssueCall → LocalCids → Type 0
MayCall (Issue ids now) s = AreNext s.issued ids
MayCall (Retire n) s = Unit {0}
MayCall Expire s = Unit {0}

-- each call may be made as its turn comes
abbrev pub MayRun : List IssueCall → LocalCids → Type 0
MayRun [] s = Unit {0}
MayRun (call ∷ calls) s = MayCall call s × MayRun calls (issued_after call s)

-- whether this number's id is active
unfoldable pub is_active : ℕ → LocalCids → Bool
is_active n s = list_any (λ k. k == n) s.active

-- an id that was retired is never active again
unfoldable pub StaysRetired : LocalCids → List IssueCall → ℕ → List IssueCall → Type 0
StaysRetired first before n calls =
    may_retire n (issue_run before first) ≡ true → is_active n (issue_run calls (retired n (issue_run before first))) ≡ false

-- the number up to which the other end is asked to retire ids never falls
unfoldable pub NeverFalls : LocalCids → (before calls : List IssueCall) → Type 0
NeverFalls first before calls = (issue_run before first).retire_prior_to ≤ (issue_run calls (issue_run before first)).retire_prior_to

-- the number that a call raises, as it was before; another call leaves the one that was raised before that
abbrev pub floor_after : IssueCall → LocalCids → ℕ → ℕ
floor_after call s floor = if (issued_after call s).retire_prior_to == s.retire_prior_to then floor else s.retire_prior_to

-- the number as it was before its last raise; 0 where it wasn't raised
abbrev pub floor_run : List IssueCall → LocalCids → ℕ → ℕ
floor_run [] s floor = floor
floor_run (call ∷ calls) s floor = floor_run calls (issued_after call s) (floor_after call s floor)

-- so an active id that the other end is asked to retire is one that the last raise asked for
unfoldable pub AsksInTurn : LocalCids → List IssueCall → Type 0
AsksInTurn first calls = (n : ℕ) → is_active n (issue_run calls first) ≡ true → floor_run calls first 0 ≤ n

-- how many active ids the other end isn't asked to retire
unfoldable pub in_force : LocalCids → ℕ
in_force s = count_by (nat_le s.retire_prior_to) s.active

-- This end issues what is asked for, and at once: as the peer's parameters come, the batch of as many ids as the limit leaves
-- besides those of the handshake; from then on one id where a retirement leaves fewer than the limit; and at any time as many
-- as it newly asks the other end to retire. The other end retires ids in 1-RTT packets alone (RFC 9000, section 12.4), which
-- are read behind its parameters. From one state these calls lead to the other; the mark says whether the parameters came.
pub data Serves (limit issued : ℕ) : Bool → LocalCids → LocalCids → Type 0 where
  rests : (s : LocalCids) → Serves limit issued false s s
  begins : (s t : LocalCids) (now : ℕ) (ids : List IssuedCid) → Serves limit issued false s t → AreNext t.issued ids
      → length ids ≡ limit - issued → Serves limit issued true s (issued_more ids now t)
  retires : (s t : LocalCids) (n now : ℕ) (ids : List IssuedCid) → Serves limit issued true s t → may_retire n t ≡ true → AreNext t.issued ids
      → length ids ≡ (if allows_one_more limit (retired n t) then 1 else 0) → Serves limit issued true s (issued_more ids now (retired n t))
  expires : (came : Bool) (s t : LocalCids) (now : ℕ) (ids : List IssuedCid) → Serves limit issued came s t → AreNext t.issued ids
      → length ids ≡ newly_asked t → Serves limit issued came s (issued_more ids now (timed_out t))

-- no more ids are in force than the limit allows, which is 2 at least (RFC 9000, section 18.2)
unfoldable pub KeepsLimit : ℕ → (first last : LocalCids) → Type 0
KeepsLimit limit first last = 2 ≤ limit → (came : Bool) → Serves limit first.issued came first last → in_force last ≤ limit
