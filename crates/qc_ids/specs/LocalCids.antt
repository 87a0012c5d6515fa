-- The connection ids that this end issued, by sequence number
use Rattle.std.specs.Prelude.{◌≡◌, ℕ, ◌+◌, ◌<◌, ◌==◌, ◌&&◌, ◌++◌, length, Bool, not, List, [], ◌∷◌, Option, filter, count_by, map, nat_lt, nat_le, if◌then◌else◌}
use Rattle.std.specs.List.{list_any}
use Rattle.qc_base.specs.declared.ids.IssuedCid.{IssuedCid}
use Rattle.qc_ids.specs.declared.expiries.CidExpiry.{CidExpiry}
use Rattle.qc_ids.specs.Expiries.{expiry_of}

-- the numbers of the ids that the other end hasn't retired, in ascending order; how many ids were issued; the
-- number below which the other end is asked to retire them; when ids expire, those issued first in front; how
-- long the ids are, and how long after their issue they expire
pub record LocalCids : Type 0 where
  pub active : List ℕ
  pub issued : ℕ
  pub retire_prior_to : ℕ
  pub expiries : List CidExpiry
  pub cid_len : ℕ
  pub lifetime : Option ℕ

-- 0 alone, or 0 and 1
abbrev pub numbers_up_to : ℕ → List ℕ
numbers_up_to n = if n == 2 then 0 ∷ 1 ∷ [] else 0 ∷ []

-- the ids of the handshake are active: those below issued
unfoldable pub first_local_cids : ℕ → Option ℕ → (now issued : ℕ) → LocalCids
first_local_cids cid_len lifetime now issued = record {
  active = numbers_up_to issued;
  issued = issued;
  retire_prior_to = 0;
  expiries = expiry_of lifetime now issued;
  cid_len = cid_len;
  lifetime = lifetime;
}

-- the numbers of ids
abbrev pub sequences : List IssuedCid → List ℕ
sequences ids = map (λ id. id.sequence) ids

-- the ids are the next ones to be issued, in order
abbrev pub AreNext : ℕ → List IssuedCid → Type 0
AreNext n [] = Unit {0}
AreNext n (id ∷ ids) = (id.sequence ≡ n) × (n < 4611686018427387904) × AreNext (n + 1) ids

-- more ids are issued, and expire together
unfoldable pub issued_more : List IssuedCid → ℕ → LocalCids → LocalCids
issued_more [] now s = s
issued_more (id ∷ ids) now s = record s {
  active = s.active ++ sequences (id ∷ ids);
  issued = s.issued + length (id ∷ ids);
  expiries = s.expiries ++ expiry_of s.lifetime now (s.issued + length (id ∷ ids));
}

-- ids are in use, and this number was issued
unfoldable pub may_retire : ℕ → LocalCids → Bool
may_retire sequence s = not (s.cid_len == 0) && nat_lt sequence s.issued

-- the list without this number
unfoldable pub without : ℕ → List ℕ → List ℕ
without n ns = filter (λ k. not (k == n)) ns

-- the number is active no more
unfoldable pub retired : ℕ → LocalCids → LocalCids
retired sequence s = record s { active = without sequence s.active }

-- fewer ids are active than the other end's limit allows, so that one more may be issued (RFC 9000, section 5.1.1)
abbrev pub allows_one_more : (limit : ℕ) → LocalCids → Bool
allows_one_more limit s = nat_lt (length s.active) limit

-- how many numbers lie from low up to, but without, high
unfoldable pub count_between : (low high : ℕ) → List ℕ → ℕ
count_between low high ns = count_by (λ n. nat_le low n && nat_lt n high) ns

-- an id that the other end is asked to retire is still active
unfoldable pub awaits_retirement : LocalCids → Bool
awaits_retirement s = list_any (λ n. nat_lt n s.retire_prior_to) s.active

-- the ids of the oldest list expire. The other end is asked to retire them, unless it still has to retire others.
abbrev pub expired : List CidExpiry → LocalCids → LocalCids
expired [] s = s
expired (e ∷ es) s = record s { expiries = es; retire_prior_to = if awaits_retirement s then s.retire_prior_to else e.end }

-- what is left once the oldest list has expired
unfoldable pub timed_out : LocalCids → LocalCids
timed_out s = expired s.expiries s

-- how many active ids the other end is newly asked to retire
unfoldable pub newly_asked : LocalCids → ℕ
newly_asked s = count_between s.retire_prior_to (timed_out s).retire_prior_to s.active
