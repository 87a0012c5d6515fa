-- Streams that are opened don't wait
use Rattle.std.proofs.Common.{◌≡◌, ◌∙◌, ℕ, zero, suc, ◌+◌, ◌-◌, ◌/◌, ◌^◌, ◌<◌, ◌≤◌, ◌==◌, Bool, true, false, cond, not, ◌&&◌, nat_le, nat_lt, min, None, ap, sym, arith, refl}
use Rattle.std.proofs.lemmas.Bool.Decides.{nat_tests}
use Rattle.qc_base.specs.declared.side.Dir.{Dir}
use Rattle.qc_base.specs.declared.side.Dir.TheVariants.{Bi, Uni}
use Rattle.qc_base.specs.declared.side.Side.{Side}
use Rattle.qc_base.specs.StreamId.{stream_id}
use Rattle.qc_send_stream.specs.Sending.{new_sending}
use Rattle.qc_streams.specs.declared.counts.ByDir.{ByDir}
use Rattle.qc_streams.specs.declared.counts.OwnStreams.{OwnStreams}
use Rattle.qc_streams.specs.declared.counts.PeerStreams.{PeerStreams}
use Rattle.qc_streams.specs.declared.state.StreamsState.{StreamsState}
use Rattle.qc_streams.specs.declared.stream.Stream.{Stream}
use Rattle.qc_streams.specs.Blocked.{BlockedIds}
use Rattle.qc_streams.specs.Counts.{at_most, by_dir, dir_put, own_opened, peer_opened}
use Rattle.qc_streams.specs.Lending.{AllRecords}
use Rattle.qc_streams.specs.Records.{changed, record_of}
use Rattle.qc_streams.specs.Stream.{fresh_stream}
use Rattle.qc_streams.specs.Streams.{dir_of, fresh_own, fresh_peer, is_own, is_peer_unopened, lower_opened, lower_unopened, made, met, next_own, opened_own, opened_with}
use Rattle.qc_streams.specs.Writable.{awaits}
use Rattle.qc_streams.proofs.Keyed.{new_other}
use Rattle.qc_streams.proofs.WaitIds.{nth, nth_apart, nth_index, nth_kind, nth_own, nth_self, own_id, own_index, own_kind}
use Rattle.qc_streams.proofs.Waits.{Sound, alike, comes, unopened}
use Rattle.qc_streams.proofs.WaitSteps.{Holds, was_opened}

-- a fresh stream doesn't wait
own_waits : (dir : Dir) (s : StreamsState) → awaits (fresh_own dir s).sending ≡ false
unfolding fresh_stream new_sending
own_waits Bi s = refl
own_waits Uni s = refl

pub peer_waits : (dir : Dir) (s : StreamsState) → awaits (fresh_peer dir s).sending ≡ false
unfolding fresh_stream new_sending
peer_waits Bi s = refl
peer_waits Uni s = refl

-- ---- this end opens one

more-own : (e d : Dir) (own : ByDir OwnStreams) (n : ℕ) → nat_lt n (by_dir d own).opened ≡ true
    → nat_lt n (by_dir d (dir_put e (own_opened (by_dir e own)) own)).opened ≡ true
unfolding own_opened
more-own Bi Bi own n is = grind (arith, nat_tests)
more-own Bi Uni own n is = is
more-own Uni Bi own n is = is
more-own Uni Uni own n is = grind (arith, nat_tests)

own-more : (side : Side) (e : Dir) (own : ByDir OwnStreams) (peer : ByDir PeerStreams) (b : Bool) (j : ℕ)
    → cond b (nat_lt (j / 4) (by_dir (dir_of j) own).opened) (nat_lt (j / 4) (by_dir (dir_of j) peer).opened) ≡ true
    → cond b (nat_lt (j / 4) (by_dir (dir_of j) (dir_put e (own_opened (by_dir e own)) own)).opened) (nat_lt (j / 4) (by_dir (dir_of j) peer).opened) ≡ true
own-more side e own peer true j is = more-own e (dir_of j) own (j / 4) is
own-more side e own peer false j is = is

at-own : (b : Bool) (x y : Bool) → b ≡ true → cond b x y ≡ x
at-own true x y is = refl
at-own false x y is = absurd (cc)

at-peer : (b : Bool) (x y : Bool) → b ≡ false → cond b x y ≡ y
at-peer true x y is = absurd (cc)
at-peer false x y is = refl

pub own-count : (side : Side) (dir : Dir) (own : ByDir OwnStreams) (peer : ByDir PeerStreams) (n : ℕ)
    → was_opened side own peer (stream_id side dir n) ≡ nat_lt n (by_dir dir own).opened
own-count side dir own peer n =
    at-own (is_own side (stream_id side dir n)) _ _ (own_id side dir n)
    ∙ ap (λ (i : ℕ). nat_lt i (by_dir (dir_of (stream_id side dir n)) own).opened) (own_index side dir n)
    ∙ ap (λ (d : Dir). nat_lt n (by_dir d own).opened) (own_kind side dir n)

pub not-less : (n : ℕ) → nat_lt n n ≡ false
not-less n = grind (arith, nat_tests)

one-more : (dir : Dir) (own : ByDir OwnStreams) → nat_lt (by_dir dir own).opened (by_dir dir (dir_put dir (own_opened (by_dir dir own)) own)).opened ≡ true
unfolding own_opened
one-more Bi own = grind (arith, nat_tests)
one-more Uni own = grind (arith, nat_tests)

pub opened_own_ok : (dir : Dir) (s : StreamsState) → Holds s → Holds (opened_own dir s)
unfolding opened_own next_own
opened_own_ok dir s h =
    let n = (by_dir dir s.own).opened in
    let id = stream_id s.side dir (by_dir dir s.own).opened in
    comes (was_opened s.side s.own s.peer) (was_opened s.side (dir_put dir (own_opened (by_dir dir s.own)) s.own) s.peer) id (fresh_own dir s) s.records s.blocked
    (λ j. own-more s.side dir s.own s.peer (is_own s.side j) j)
    (own-count s.side dir (dir_put dir (own_opened (by_dir dir s.own)) s.own) s.peer n ∙ one-more dir s.own)
    (unopened (was_opened s.side s.own s.peer) id s.records s.blocked h (own-count s.side dir s.own s.peer n ∙ not-less n))
    (own_waits dir s)
    h

-- ---- the peer opens some

pub made_absent : (id from k : ℕ) (st : Stream) (all : AllRecords) (j : ℕ) → record_of j all ≡ None → ((i : ℕ) → i < k → (nth id (from + i) == j) ≡ false)
    → record_of j (made id from k st all) ≡ None
unfolding made
made_absent id from zero st all j gone apart = gone
made_absent id from (suc k) st all j gone apart =
    new_other (nth id (from + k)) j (made id from k st all) st (apart k (omega arith))
    ∙ made_absent id from k st all j gone (λ i less. apart i (omega (arith, less)))

pub made_ok : (op op' : ℕ → Bool) (id from k : ℕ) (st : Stream) (all : AllRecords) (ids : BlockedIds) → ((j : ℕ) → op j ≡ true → op' j ≡ true)
    → ((i : ℕ) → op (nth id (from + i)) ≡ false) → ((i : ℕ) → i < k → op' (nth id (from + i)) ≡ true) → awaits st.sending ≡ false → Sound op all ids
    → Sound op' (made id from k st all) ids
unfolding made
made_ok op op' id from zero st all ids more old new none h = record { waits = h.waits; set = h.set; order = h.order; known = λ j there. more j (h.known j there) }
made_ok op op' id from (suc k) st all ids more old new none h =
    comes op' op' (nth id (from + k)) st (made id from k st all) ids (λ j is. is) (new k (omega arith))
    (made_absent id from k st all (nth id (from + k)) (unopened op (nth id (from + k)) all ids h (old k))
    (λ i less. nth_apart id (from + i) (from + k) (omega (arith, less)))) none
    (made_ok op op' id from k st all ids more old (λ i less. new i (omega (arith, less))) none h)

put-at : (e : Dir) (x : PeerStreams) (peer : ByDir PeerStreams) → by_dir e (dir_put e x peer) ≡ x
put-at Bi x peer = refl
put-at Uni x peer = refl

pub peer-count : (side : Side) (own : ByDir OwnStreams) (peer : ByDir PeerStreams) (id index : ℕ) → is_own side id ≡ false
    → was_opened side own peer (nth id index) ≡ nat_lt index (by_dir (dir_of id) peer).opened
peer-count side own peer id index other =
    at-peer (is_own side (nth id index)) _ _ (nth_own side id index ∙ other)
    ∙ ap (λ (i : ℕ). nat_lt i (by_dir (dir_of (nth id index)) peer).opened) (nth_index id index)
    ∙ ap (λ (d : Dir). nat_lt index (by_dir d peer).opened) (nth_kind id index)

more-peer : (e d : Dir) (peer : ByDir PeerStreams) (index n : ℕ) → (by_dir e peer).opened ≤ index → index < 2 ^ 60 → nat_lt n (by_dir d peer).opened ≡ true
    → nat_lt n (by_dir d (dir_put e (peer_opened index (by_dir e peer)) peer)).opened ≡ true
unfolding peer_opened at_most
more-peer Bi Bi peer index n from fits is = grind (arith, nat_tests)
more-peer Bi Uni peer index n from fits is = is
more-peer Uni Bi peer index n from fits is = is
more-peer Uni Uni peer index n from fits is = grind (arith, nat_tests)

peer-more : (side : Side) (e : Dir) (own : ByDir OwnStreams) (peer : ByDir PeerStreams) (index : ℕ) (b : Bool) (j : ℕ) → (by_dir e peer).opened ≤ index
    → index < 2 ^ 60 → cond b (nat_lt (j / 4) (by_dir (dir_of j) own).opened) (nat_lt (j / 4) (by_dir (dir_of j) peer).opened) ≡ true
    → cond b (nat_lt (j / 4) (by_dir (dir_of j) own).opened)
    (nat_lt (j / 4) (by_dir (dir_of j) (dir_put e (peer_opened index (by_dir e peer)) peer)).opened)
    ≡ true
peer-more side e own peer index true j from fits is = is
peer-more side e own peer index false j from fits is = more-peer e (dir_of j) peer index (j / 4) from fits is

up-to : (side : Side) (own : ByDir OwnStreams) (peer : ByDir PeerStreams) (id index n : ℕ) → is_own side id ≡ false → n ≤ index → index < 2 ^ 60
    → was_opened side own (dir_put (dir_of id) (peer_opened index (by_dir (dir_of id) peer)) peer) (nth id n) ≡ true
unfolding peer_opened at_most
up-to side own peer id index n other less fits =
    let there : nat_lt n (min (index + 1) (2 ^ 60)) ≡ true = grind (arith, nat_tests, less, fits) in
    peer-count side own (dir_put (dir_of id) (peer_opened index (by_dir (dir_of id) peer)) peer) id n other
    ∙ ap (λ (k : PeerStreams). nat_lt n k.opened) (put-at (dir_of id) (peer_opened index (by_dir (dir_of id) peer)) peer)
    ∙ there

pub past : (n m : ℕ) → m ≤ n → nat_lt n m ≡ false
past n m up = grind (arith, nat_tests)

pub not-own : (b c : Bool) → (not b && c) ≡ true → b ≡ false
not-own true c is = absurd (cc)
not-own false c is = refl

pub and-then : (b c : Bool) → (b && c) ≡ true → c ≡ true
and-then true c is = is
and-then false c is = absurd (cc)

pub reaches : (n m : ℕ) → nat_le n m ≡ true → n ≤ m
reaches n m is = grind (arith, nat_tests)

pub opened_with_ok : (id : ℕ) (st : Stream) (s : StreamsState) → is_peer_unopened id s ≡ true → id < 2 ^ 62 → awaits st.sending ≡ false → Holds s
    → Holds (opened_with id st s)
unfolding opened_with lower_opened lower_unopened is_peer_unopened
opened_with_ok id st s new fits none h =
    let index : ℕ = id / 4 in
    let from : ℕ = (by_dir (dir_of id) s.peer).opened in
    let other : is_own s.side id ≡ false = not-own (is_own s.side id) _ new in
    let below : (by_dir (dir_of id) s.peer).opened ≤ id / 4 =
    reaches (by_dir (dir_of id) s.peer).opened (id / 4) (and-then (not (is_own s.side id)) _ new) in
    let small : id / 4 < 2 ^ 60 = omega (arith, fits) in
    let op : ℕ → Bool = was_opened s.side s.own s.peer in
    let op' : ℕ → Bool = was_opened s.side s.own (dir_put (dir_of id) (peer_opened (id / 4) (by_dir (dir_of id) s.peer)) s.peer) in
    let lower : AllRecords = made id (by_dir (dir_of id) s.peer).opened (id / 4 - (by_dir (dir_of id) s.peer).opened) (fresh_peer (dir_of id) s) s.records in
    let unknown : was_opened s.side s.own s.peer id ≡ false =
    ap (λ (j : ℕ). was_opened s.side s.own s.peer j) (sym (nth_self id)) ∙ peer-count s.side s.own s.peer id (id / 4) other
    ∙ past (id / 4) (by_dir (dir_of id) s.peer).opened below in
    comes op' op' id st lower s.blocked (λ j is. is)
    (ap (λ (j : ℕ). op' j) (sym (nth_self id)) ∙ up-to s.side s.own s.peer id (id / 4) (id / 4) other (omega arith) small)
    (made_absent id from (index - from) (fresh_peer (dir_of id) s) s.records id (unopened op id s.records s.blocked h unknown)
    (λ i less. ap (λ (j : ℕ). nth id (from + i) == j) (sym (nth_self id)) ∙ nth_apart id (from + i) (id / 4) (omega (arith, less))))
    none
    (made_ok op op' id from (index - from) (fresh_peer (dir_of id) s) s.records s.blocked
    (λ j is. peer-more s.side (dir_of id) s.own s.peer (id / 4) (is_own s.side j) j below small is)
    (λ i. peer-count s.side s.own s.peer id (from + i) other ∙ past (from + i) from (omega arith))
    (λ i less. up-to s.side s.own s.peer id (id / 4) (from + i) other (omega (arith, less)) small)
    (peer_waits (dir_of id) s) h)

pub met_ok : (f : Stream → Stream) → ((st : Stream) → awaits (f st).sending ≡ awaits st.sending) → (id : ℕ) (s : StreamsState) → id < 2 ^ 62 → Holds s
    → Holds (met f id s)
unfolding met
met_ok f same id s fits h = by (is_peer_unopened id s) refl
  where
    by : (b : Bool) → is_peer_unopened id s ≡ b
        → Holds (cond b (opened_with id (f (fresh_peer (dir_of id) s)) s) (record s { records = changed f id s.records }))
    by true is = opened_with_ok id (f (fresh_peer (dir_of id) s)) s is fits (same (fresh_peer (dir_of id) s) ∙ peer_waits (dir_of id) s) h
    by false is = alike f same (was_opened s.side s.own s.peer) id s.records s.blocked h
