-- Any calls of a `CidState`
use Rattle.std.proofs.Common.{◌≡◌, ℕ, ◌+◌, ◌<◌, ◌≤◌, ◌==◌, ◌⊎◌, inl, inr, ◌||◌, ◌&&◌, Bool, true, false, not, List, [], ◌∷◌, ◌++◌, Option, length, nat_eq, nat_le, nat_lt, count_by, cond, if◌then◌else◌, arith, refl, subst, sym}
use Rattle.std.proofs.lemmas.Bool.Decides.{nat_tests}
use Rattle.std.proofs.lemmas.List.Sums.{count_by-le-length, sum_by-append, sum_by-cons}
use Rattle.std.proofs.lemmas.List.{length-map}
use Rattle.std.specs.List.{filter, list_any}
use Rattle.qc_base.specs.declared.ids.IssuedCid.{IssuedCid}
use Rattle.qc_ids.specs.declared.expiries.CidExpiry.{CidExpiry}
use Rattle.qc_ids.specs.CidState.{EndsRise}
use Rattle.qc_ids.specs.Numbers.{Rises}
use Rattle.qc_ids.specs.LocalCids.{AreNext, LocalCids, awaits_retirement, count_between, expired, first_local_cids, issued_more, may_retire, newly_asked, retired, sequences, timed_out, without}
use Rattle.qc_ids.specs.IssueLaws.{IssueCall, Issue, Retire, Expire, AsksInTurn, KeepsLimit, MayCall, MayRun, NeverFalls, Serves, StaysRetired, floor_run, in_force, is_active, issue_run, issued_after, rests, begins, retires, expires}
use Rattle.qc_ids.proofs.Numbers.{first_ends, first_rises, more_end, more_rise, waiting_ends, without_rises}

-- what is held at each moment
pub record IsSound (s : LocalCids) : Type 0 where
  pub active : Rises 0 s.issued s.active
  pub expiries : EndsRise s.retire_prior_to s.issued s.expiries

first_sound : (cid_len : ℕ) (lifetime : Option ℕ) (now issued : ℕ) → (issued ≡ 1) ⊎ (issued ≡ 2) → IsSound (first_local_cids cid_len lifetime now issued)
unfolding first_local_cids
first_sound cid_len lifetime now issued h = record { active = first_rises issued h; expiries = first_ends lifetime now issued }

issue_sound : (ids : List IssuedCid) (now : ℕ) (s : LocalCids) → AreNext s.issued ids → IsSound s → IsSound (issued_more ids now s)
unfolding issued_more
issue_sound [] now s n h = h
issue_sound (id ∷ ids) now s n h = record {
  active = more_rise s.issued s.active (id ∷ ids) n h.active;
  expiries = more_end s.retire_prior_to s.issued (s.issued + length (id ∷ ids)) now s.lifetime s.expiries h.expiries (omega arith);
}

retire_sound : (n : ℕ) (s : LocalCids) → IsSound s → IsSound (retired n s)
unfolding retired
retire_sound n s h = record { active = without_rises n 0 s.issued s.active h.active; expiries = h.expiries }

-- the number never falls as a list expires
expire_both : (s : LocalCids) (es : List CidExpiry) → EndsRise s.retire_prior_to s.issued es
    → (s.retire_prior_to ≤ (expired es s).retire_prior_to) × ((expired es s).issued ≡ s.issued) × ((expired es s).active ≡ s.active)
expire_both s [] h = (omega arith, refl, refl)
expire_both s (e ∷ es) h = (
  elim (awaits_retirement s) as (λ b. s.retire_prior_to ≤ (if b then s.retire_prior_to else e.end)) [ true ↦ omega arith | false ↦ h.0 ],
  refl,
  refl,
)

expire_ends : (s : LocalCids) (es : List CidExpiry) → s.expiries ≡ es → EndsRise s.retire_prior_to s.issued es → EndsRise (expired es s).retire_prior_to s.issued (expired es s).expiries
expire_ends s [] same h = rw same h
expire_ends s (e ∷ es) same h =
    elim (awaits_retirement s) as (λ b. EndsRise (if b then s.retire_prior_to else e.end) s.issued es) [
      | true ↦ waiting_ends s.retire_prior_to s.issued e es h
      | false ↦ h.1
    ]

expire_sound : (s : LocalCids) → IsSound s → IsSound (timed_out s)
unfolding timed_out
expire_sound s h =
    let kept = expire_both s s.expiries h.expiries in
    record {
      active = subst (λ n. Rises 0 n (expired s.expiries s).active) (sym kept.1) (subst (λ ns. Rises 0 s.issued ns) (sym kept.2) h.active);
      expiries = subst (λ n. EndsRise (expired s.expiries s).retire_prior_to n (expired s.expiries s).expiries) (sym kept.1) (expire_ends s s.expiries refl h.expiries);
    }

call_sound : (call : IssueCall) (s : LocalCids) → MayCall call s → IsSound s → IsSound (issued_after call s)
unfolding issued_after
call_sound (Issue ids now) s m h = issue_sound ids now s m h
call_sound (Retire n) s m h = elim (may_retire n s) as (λ b. IsSound (if b then retired n s else s)) [ true ↦ retire_sound n s h | false ↦ h ]
call_sound Expire s m h = expire_sound s h

run_sound : (calls : List IssueCall) (s : LocalCids) → MayRun calls s → IsSound s → IsSound (issue_run calls s)
run_sound [] s m h = h
run_sound (call ∷ calls) s m h = run_sound calls (issued_after call s) m.1 (call_sound call s m.0 h)

-- ---- the number never falls

call_rises : (call : IssueCall) (s : LocalCids) → IsSound s → s.retire_prior_to ≤ (issued_after call s).retire_prior_to
unfolding issued_after issued_more retired timed_out
call_rises (Issue [] now) s h = omega arith
call_rises (Issue (id ∷ ids) now) s h = omega arith
call_rises (Retire n) s h = elim (may_retire n s) as (λ b. s.retire_prior_to ≤ (if b then retired n s else s).retire_prior_to) [ true ↦ omega arith | false ↦ omega arith ]
call_rises Expire s h = (expire_both s s.expiries h.expiries).0

run_rises : (calls : List IssueCall) (s : LocalCids) → MayRun calls s → IsSound s → s.retire_prior_to ≤ (issue_run calls s).retire_prior_to
run_rises [] s m h = omega arith
run_rises (call ∷ calls) s m h =
    let one = call_rises call s h in
    let more = run_rises calls (issued_after call s) m.1 (call_sound call s m.0 h) in omega arith

-- ---- a retired id stays retired

none_active : (n low high : ℕ) (ns : List ℕ) → n < low → Rises low high ns → list_any (λ k. k == n) ns ≡ false
none_active n low high [] l r = refl
none_active n low high (k ∷ ns) l r =
    let a : low ≤ k = r.0 in
    let differs : nat_eq k n ≡ false = grind (arith, nat_tests) in
    rw (differs, none_active n (k + 1) high ns (omega arith) r.2) refl

without_none : (n : ℕ) (ns : List ℕ) → list_any (λ k. k == n) (without n ns) ≡ false
unfolding without
without_none n [] = refl
without_none n (k ∷ ns) =
    (elim (nat_eq k n) as (λ b. nat_eq k n ≡ b → list_any (λ j. j == n) (filter (λ j. not (j == n)) (k ∷ ns)) ≡ false) [
      | true ↦ λ e. rw e (without_none n ns)
      | false ↦ λ e. rw (e, e, without_none n ns) refl
    ]) refl

filter_none : (n m : ℕ) (ns : List ℕ) → list_any (λ k. k == n) ns ≡ false → list_any (λ k. k == n) (without m ns) ≡ false
unfolding without
filter_none n m [] h = refl
filter_none n m (k ∷ ns) h =
    (elim (nat_eq k n) as (λ b. nat_eq k n ≡ b → (b || list_any (λ j. j == n) ns) ≡ false → list_any (λ j. j == n) (filter (λ j. not (j == m)) (k ∷ ns)) ≡ false) [
      | true ↦ λ e f. absurd (let wrong : true ≡ false = f in cc)
      | false ↦ λ e f.
          elim (nat_eq k m) as (λ b. list_any (λ j. j == n) (if not b then k ∷ filter (λ j. not (j == m)) ns else filter (λ j. not (j == m)) ns) ≡ false) [
            | true ↦ filter_none n m ns f
            | false ↦ rw (e, filter_none n m ns f) refl
          ]
    ]) refl h

any_append : (n : ℕ) (ns ms : List ℕ) → list_any (λ k. k == n) ns ≡ false → list_any (λ k. k == n) ms ≡ false → list_any (λ k. k == n) (ns ++ ms) ≡ false
any_append n [] ms a b = b
any_append n (k ∷ ns) ms a b =
    (elim (nat_eq k n) as (λ t. nat_eq k n ≡ t → (t || list_any (λ j. j == n) ns) ≡ false → (t || list_any (λ j. j == n) (ns ++ ms)) ≡ false) [
      | true ↦ λ e f. f
      | false ↦ λ e f. any_append n ns ms f b
    ]) refl a

new_ones : (n next : ℕ) (ids : List IssuedCid) → n < next → AreNext next ids → list_any (λ k. k == n) (sequences ids) ≡ false
new_ones n next [] l h = refl
new_ones n next (id ∷ ids) l h =
    let here : id.sequence ≡ next = h.0 in
    let differs : nat_eq id.sequence n ≡ false = grind (arith, nat_tests) in
    rw (differs, new_ones n (next + 1) ids (omega arith) h.2) refl

-- an issued number that isn't active
pub record IsGone (n : ℕ) (s : LocalCids) : Type 0 where
  pub issued : n < s.issued
  pub inactive : list_any (λ k. k == n) s.active ≡ false

call_gone : (n : ℕ) (call : IssueCall) (s : LocalCids) → MayCall call s → IsSound s → IsGone n s → IsGone n (issued_after call s)
unfolding issued_after issued_more retired timed_out
call_gone n (Issue [] now) s m h g = g
call_gone n (Issue (id ∷ ids) now) s m h g =
    let past : n < s.issued = g.issued in
    record { issued = omega arith; inactive = any_append n s.active (sequences (id ∷ ids)) g.inactive (new_ones n s.issued (id ∷ ids) g.issued m) }
call_gone n (Retire k) s m h g =
    elim (may_retire k s) as (λ b. IsGone n (if b then retired k s else s)) [
      | true ↦ record { issued = g.issued; inactive = filter_none n k s.active g.inactive }
      | false ↦ g
    ]
call_gone n Expire s m h g =
    let kept = expire_both s s.expiries h.expiries in
    record { issued = subst (λ k. n < k) (sym kept.1) g.issued; inactive = subst (λ ns. list_any (λ k. k == n) ns ≡ false) (sym kept.2) g.inactive }

run_gone : (n : ℕ) (calls : List IssueCall) (s : LocalCids) → MayRun calls s → IsSound s → IsGone n s → IsGone n (issue_run calls s)
run_gone n [] s m h g = g
run_gone n (call ∷ calls) s m h g = run_gone n calls (issued_after call s) m.1 (call_sound call s m.0 h) (call_gone n call s m.0 h g)

retired_gone : (n : ℕ) (s : LocalCids) → may_retire n s ≡ true → IsGone n (retired n s)
unfolding retired may_retire
retired_gone n s h =
    let past : n < s.issued = grind (arith, nat_tests) in
    record { issued = past; inactive = without_none n s.active }

pub stays_retired : (cid_len : ℕ) (lifetime : Option ℕ) (now issued : ℕ) (before : List IssueCall) (n : ℕ) (calls : List IssueCall) → (issued ≡ 1) ⊎ (issued ≡ 2)
    → MayRun before (first_local_cids cid_len lifetime now issued)
    → MayRun calls (retired n (issue_run before (first_local_cids cid_len lifetime now issued)))
    → StaysRetired (first_local_cids cid_len lifetime now issued) before n calls
unfolding StaysRetired is_active
stays_retired cid_len lifetime now issued before n calls i m k may =
    let first = first_local_cids cid_len lifetime now issued in
    let s = issue_run before first in
    let sound = run_sound before first m (first_sound cid_len lifetime now issued i) in
    (run_gone n calls (retired n s) k (retire_sound n s sound) (retired_gone n s may)).inactive

pub never_falls : (cid_len : ℕ) (lifetime : Option ℕ) (now issued : ℕ) (before calls : List IssueCall) → (issued ≡ 1) ⊎ (issued ≡ 2)
    → MayRun before (first_local_cids cid_len lifetime now issued)
    → MayRun calls (issue_run before (first_local_cids cid_len lifetime now issued))
    → NeverFalls (first_local_cids cid_len lifetime now issued) before calls
unfolding NeverFalls
never_falls cid_len lifetime now issued before calls i m k =
    let first = first_local_cids cid_len lifetime now issued in
    run_rises calls (issue_run before first) k (run_sound before first m (first_sound cid_len lifetime now issued i))

-- ---- no more in force than the limit

issue_force : (ids : List IssuedCid) (now : ℕ) (s : LocalCids) → in_force (issued_more ids now s) ≤ in_force s + length ids
unfolding in_force issued_more
issue_force [] now s = omega arith
issue_force (id ∷ ids) now s =
    omega (
      arith,
      sum_by-append (λ n. cond (nat_le s.retire_prior_to n) 1 0) s.active (sequences (id ∷ ids)),
      count_by-le-length (nat_le s.retire_prior_to) (sequences (id ∷ ids)),
      length-map ids (λ (i : IssuedCid). i.sequence),
    )

retire_count : (p n : ℕ) (ns : List ℕ) → count_by (nat_le p) (without n ns) ≤ count_by (nat_le p) ns
unfolding without
retire_count p n [] = omega arith
retire_count p n (k ∷ ns) =
    let rest = retire_count p n ns in
    let w : ℕ → ℕ = λ j. cond (nat_le p j) 1 0 in
    (elim (nat_eq k n) as (λ b. nat_eq k n ≡ b → count_by (nat_le p) (filter (λ j. not (j == n)) (k ∷ ns)) ≤ count_by (nat_le p) (k ∷ ns)) [
      | true ↦ λ e. rw e (omega (arith, rest, sum_by-cons (λ j. cond (nat_le p j) 1 0) k ns))
      | false ↦ λ e. rw e (omega (arith, rest, sum_by-cons (λ j. cond (nat_le p j) 1 0) k ns, sum_by-cons (λ j. cond (nat_le p j) 1 0) k (filter (λ j. not (j == n)) ns)))
    ]) refl

weights : (p q n : ℕ) → p ≤ q → cond (nat_le q n) 1 0 + cond (nat_le p n && nat_lt n q) 1 0 ≡ cond (nat_le p n) 1 0
weights p q n l = grind (arith, nat_tests)

split_count : (p q : ℕ) (ns : List ℕ) → p ≤ q → count_by (nat_le q) ns + count_between p q ns ≡ count_by (nat_le p) ns
unfolding count_between
split_count p q [] l = omega arith
split_count p q (n ∷ ns) l =
    omega (
      arith,
      split_count p q ns l,
      weights p q n l,
      sum_by-cons (λ j. cond (nat_le p j) 1 0) n ns,
      sum_by-cons (λ j. cond (nat_le q j) 1 0) n ns,
      sum_by-cons (λ j. cond (nat_le p j && nat_lt j q) 1 0) n ns,
    )

expire_force : (s : LocalCids) → IsSound s → in_force (timed_out s) + newly_asked s ≡ in_force s
unfolding in_force newly_asked timed_out
expire_force s h =
    let kept = expire_both s s.expiries h.expiries in
    rw kept.2 (split_count s.retire_prior_to (expired s.expiries s).retire_prior_to s.active kept.0)

retired_next : (n : ℕ) (s : LocalCids) (ids : List IssuedCid) → AreNext s.issued ids → AreNext (retired n s).issued ids
unfolding retired
retired_next n s ids h = h

timed_out_next : (s : LocalCids) (ids : List IssuedCid) → IsSound s → AreNext s.issued ids → AreNext (timed_out s).issued ids
unfolding timed_out
timed_out_next s ids h next = subst (λ n. AreNext n ids) (sym (expire_both s s.expiries h.expiries).1) next

served_sound : (limit issued : ℕ) (came : Bool) (s t : LocalCids) → IsSound s → Serves limit issued came s t → IsSound t
served_sound limit issued came s t h (rests s') = h
served_sound limit issued came s t h (begins s' u now ids before next asked) =
    issue_sound ids now u next (served_sound limit issued false s u h before)
served_sound limit issued came s t h (retires s' u n now ids before may next asked) =
    issue_sound ids now (retired n u) (retired_next n u ids next) (retire_sound n u (served_sound limit issued true s u h before))
served_sound limit issued came s t h (expires c s' u now ids before next asked) =
    let sound = served_sound limit issued c s u h before in
    issue_sound ids now (timed_out u) (timed_out_next u ids sound next) (expire_sound u sound)

force_most : (n limit : ℕ) (s : LocalCids) → in_force s ≤ limit → in_force (retired n s) ≤ limit
unfolding in_force retired
force_most n limit s h = omega (arith, retire_count s.retire_prior_to n s.active)

force_length : (s : LocalCids) → in_force s ≤ length s.active
unfolding in_force
force_length s = count_by-le-length (nat_le s.retire_prior_to) s.active

-- how many may be in force: those of the handshake, and then as many as the limit
abbrev most_of : (limit issued : ℕ) → Bool → ℕ
most_of limit issued false = issued
most_of limit issued true = limit

served_force : (limit issued : ℕ) (came : Bool) (s t : LocalCids) → IsSound s → issued ≤ limit → in_force s ≤ issued → Serves limit issued came s t → in_force t ≤ most_of limit issued came
served_force limit issued came s t h small l (rests s') = l
served_force limit issued came s t h small l (begins s' u now ids before next asked) =
    let more = issue_force ids now u in
    let kept = served_force limit issued false s u h small l before in
    omega arith
served_force limit issued came s t h small l (retires s' u n now ids before may next asked) =
    let more = issue_force ids now (retired n u) in
    let few = force_length (retired n u) in
    let kept = force_most n limit u (served_force limit issued true s u h small l before) in
    (elim (nat_lt (length (retired n u).active) limit) as (λ b. nat_lt (length (retired n u).active) limit ≡ b → length ids ≡ (if b then 1 else 0) → in_force (issued_more ids now (retired n u)) ≤ limit) [
      | true ↦ λ e one. let room : length (retired n u).active < limit = grind (arith, nat_tests) in omega arith
      | false ↦ λ e none. omega arith
    ]) refl asked
served_force limit issued came s t h small l (expires c s' u now ids before next asked) =
    let more = issue_force ids now (timed_out u) in
    let same = expire_force u (served_sound limit issued c s u h before) in
    let kept = served_force limit issued c s u h small l before in
    omega arith

first_force : (cid_len : ℕ) (lifetime : Option ℕ) (now issued : ℕ) → (issued ≡ 1) ⊎ (issued ≡ 2) → in_force (first_local_cids cid_len lifetime now issued) ≤ issued
unfolding in_force first_local_cids
first_force cid_len lifetime now issued (inl one) = rw one (omega arith)
first_force cid_len lifetime now issued (inr two) = rw two (omega arith)

few_issued : (issued : ℕ) → (issued ≡ 1) ⊎ (issued ≡ 2) → issued ≤ 2
few_issued issued (inl one) = omega arith
few_issued issued (inr two) = omega arith

most_within : (limit issued : ℕ) (came : Bool) → issued ≤ limit → most_of limit issued came ≤ limit
most_within limit issued false small = small
most_within limit issued true small = omega arith

first_issued : (cid_len : ℕ) (lifetime : Option ℕ) (now issued : ℕ) → (first_local_cids cid_len lifetime now issued).issued ≡ issued
unfolding first_local_cids
first_issued cid_len lifetime now issued = refl

pub keeps_limit : (limit cid_len : ℕ) (lifetime : Option ℕ) (now issued : ℕ) (last : LocalCids) → (issued ≡ 1) ⊎ (issued ≡ 2)
    → KeepsLimit limit (first_local_cids cid_len lifetime now issued) last
unfolding KeepsLimit
keeps_limit limit cid_len lifetime now issued last i = λ two came serves.
    let few = few_issued issued i in
    let same : (first_local_cids cid_len lifetime now issued).issued ≡ issued = first_issued cid_len lifetime now issued in
    let served : Serves limit issued came (first_local_cids cid_len lifetime now issued) last = subst (λ (n : ℕ). Serves limit n came (first_local_cids cid_len lifetime now issued) last) same serves in
    let force = served_force limit issued came (first_local_cids cid_len lifetime now issued) last (first_sound cid_len lifetime now issued i) (omega arith) (first_force cid_len lifetime now issued i) served in
    omega (arith, most_within limit issued came (omega arith))

-- ---- the last raise

abbrev pub AllFrom : ℕ → List ℕ → Type 0
AllFrom f [] = Unit {0}
AllFrom f (n ∷ ns) = (f ≤ n) × AllFrom f ns

from_append : (f : ℕ) (ns ms : List ℕ) → AllFrom f ns → AllFrom f ms → AllFrom f (ns ++ ms)
from_append f [] ms a b = b
from_append f (n ∷ ns) ms a b = (a.0, from_append f ns ms a.1 b)

from_without : (f n : ℕ) (ns : List ℕ) → AllFrom f ns → AllFrom f (without n ns)
unfolding without
from_without f n [] h = tt
from_without f n (k ∷ ns) h =
    (elim (nat_eq k n) as (λ b. nat_eq k n ≡ b → AllFrom f (filter (λ j. not (j == n)) (k ∷ ns))) [
      | true ↦ λ e. rw e (from_without f n ns h.1)
      | false ↦ λ e. rw e (h.0, from_without f n ns h.1)
    ]) refl

from_new : (f next : ℕ) (ids : List IssuedCid) → f ≤ next → AreNext next ids → AllFrom f (sequences ids)
from_new f next [] l h = tt
from_new f next (id ∷ ids) l h = let here : id.sequence ≡ next = h.0 in (omega arith, from_new f (next + 1) ids (omega arith) h.2)

from_none_below : (f : ℕ) (ns : List ℕ) → list_any (λ n. nat_lt n f) ns ≡ false → AllFrom f ns
from_none_below f [] h = tt
from_none_below f (n ∷ ns) h =
    (elim (nat_lt n f) as (λ b. nat_lt n f ≡ b → (b || list_any (λ k. nat_lt k f) ns) ≡ false → (f ≤ n) × AllFrom f ns) [
      | true ↦ λ e g. absurd (let wrong : true ≡ false = g in cc)
      | false ↦ λ e g. (let above : f ≤ n = grind (arith, nat_tests) in above, from_none_below f ns g)
    ]) refl h

from_active : (f n : ℕ) (ns : List ℕ) → AllFrom f ns → list_any (λ k. k == n) ns ≡ true → f ≤ n
from_active f n [] h a = absurd (let wrong : false ≡ true = a in cc)
from_active f n (k ∷ ns) h a =
    (elim (nat_eq k n) as (λ b. nat_eq k n ≡ b → (b || list_any (λ j. j == n) ns) ≡ true → f ≤ n) [
      | true ↦ λ e g. let same : k ≡ n = grind (arith, nat_tests) in let above : f ≤ k = h.0 in omega arith
      | false ↦ λ e g. from_active f n ns h.1 g
    ]) refl a

-- active ids lie from f on, and f is no more than what is asked for
pub record IsFloor (f : ℕ) (s : LocalCids) : Type 0 where
  pub above : AllFrom f s.active
  pub asked : f ≤ s.retire_prior_to

same_number : (n : ℕ) → nat_eq n n ≡ true
same_number n = grind (arith, nat_tests)

ends_last : (low high : ℕ) (es : List CidExpiry) → EndsRise low high es → low ≤ high
ends_last low high [] h = h
ends_last low high (e ∷ es) h = let a : low ≤ e.end = h.0 in let b = ends_last e.end high es h.1 in omega arith

expire_floor : (f : ℕ) (s : LocalCids) (es : List CidExpiry) → EndsRise s.retire_prior_to s.issued es → IsFloor f s
    → IsFloor (if (expired es s).retire_prior_to == s.retire_prior_to then f else s.retire_prior_to) (expired es s)
unfolding awaits_retirement
expire_floor f s [] h g = rw (same_number s.retire_prior_to) g
expire_floor f s (e ∷ es) h g =
    let asked = g.asked in
    let rises : s.retire_prior_to ≤ e.end = h.0 in
    (elim (list_any (λ n. nat_lt n s.retire_prior_to) s.active) as (λ b. list_any (λ n. nat_lt n s.retire_prior_to) s.active ≡ b
    → IsFloor (if (if b then s.retire_prior_to else e.end) == s.retire_prior_to then f else s.retire_prior_to) (record s { expiries = es; retire_prior_to = if b then s.retire_prior_to else e.end })) [
      | true ↦ λ t. rw (same_number s.retire_prior_to) (record { above = g.above; asked = g.asked })
      | false ↦ λ t.
          elim (nat_eq e.end s.retire_prior_to) as (λ b. IsFloor (if b then f else s.retire_prior_to) (record s { expiries = es; retire_prior_to = e.end })) [
            | true ↦ record { above = g.above; asked = omega arith }
            | false ↦ record { above = from_none_below s.retire_prior_to s.active t; asked = rises }
          ]
    ]) refl

call_floor : (f : ℕ) (call : IssueCall) (s : LocalCids) → MayCall call s → IsSound s → IsFloor f s
    → IsFloor (if (issued_after call s).retire_prior_to == s.retire_prior_to then f else s.retire_prior_to) (issued_after call s)
unfolding issued_after issued_more retired timed_out
call_floor f (Issue [] now) s m h g = rw (same_number s.retire_prior_to) g
call_floor f (Issue (id ∷ ids) now) s m h g =
    let asked = g.asked in
    let issued : s.retire_prior_to ≤ s.issued = ends_last s.retire_prior_to s.issued s.expiries h.expiries in
    rw (same_number s.retire_prior_to)
    (record { above = from_append f s.active (sequences (id ∷ ids)) g.above (from_new f s.issued (id ∷ ids) (omega arith) m); asked = g.asked })
call_floor f (Retire n) s m h g =
    elim (may_retire n s) as (λ b. IsFloor (if (if b then retired n s else s).retire_prior_to == s.retire_prior_to then f else s.retire_prior_to) (if b then retired n s else s)) [
      | true ↦ rw (same_number s.retire_prior_to) (record { above = from_without f n s.active g.above; asked = g.asked })
      | false ↦ rw (same_number s.retire_prior_to) g
    ]
call_floor f Expire s m h g = expire_floor f s s.expiries h.expiries g

run_floor : (f : ℕ) (calls : List IssueCall) (s : LocalCids) → MayRun calls s → IsSound s → IsFloor f s → IsFloor (floor_run calls s f) (issue_run calls s)
run_floor f [] s m h g = g
run_floor f (call ∷ calls) s m h g =
    run_floor (if (issued_after call s).retire_prior_to == s.retire_prior_to then f else s.retire_prior_to) calls (issued_after call s) m.1 (call_sound call s m.0 h) (call_floor f call s m.0 h g)

all_from_zero : (ns : List ℕ) → AllFrom 0 ns
all_from_zero [] = tt
all_from_zero (n ∷ ns) = (omega arith, all_from_zero ns)

pub asks_in_turn : (cid_len : ℕ) (lifetime : Option ℕ) (now issued : ℕ) (calls : List IssueCall) → (issued ≡ 1) ⊎ (issued ≡ 2)
    → MayRun calls (first_local_cids cid_len lifetime now issued) → AsksInTurn (first_local_cids cid_len lifetime now issued) calls
unfolding AsksInTurn is_active
asks_in_turn cid_len lifetime now issued calls i m = λ n active.
    let first = first_local_cids cid_len lifetime now issued in
    let floor = run_floor 0 calls first m (first_sound cid_len lifetime now issued i) (record { above = all_from_zero first.active; asked = omega arith }) in
    from_active (floor_run calls first 0) n (issue_run calls first).active floor.above active
