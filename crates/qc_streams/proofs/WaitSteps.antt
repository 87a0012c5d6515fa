-- Exactly those streams wait on which a write was blocked and that have credit: what each step leaves of that
use Rattle.std.proofs.Common.{◌≡◌, ◌∙◌, ℕ, ◌/◌, Bool, true, false, cond, ◌||◌, nat_lt, Option, None, Some, ap, refl}
use Rattle.std.specs.Prelude.{ℤ}
use Rattle.std.specs.Option.{option_map}
use Rattle.qc_base.specs.declared.side.Dir.{Dir}
use Rattle.qc_base.specs.declared.side.Dir.TheVariants.{Bi, Uni}
use Rattle.qc_base.specs.declared.side.Side.{Side}
use Rattle.qc_streams.specs.declared.counts.ByDir.{ByDir}
use Rattle.qc_streams.specs.declared.counts.OwnStreams.{OwnStreams}
use Rattle.qc_streams.specs.declared.counts.PeerStreams.{PeerStreams}
use Rattle.qc_streams.specs.declared.state.StreamsState.{StreamsState}
use Rattle.qc_streams.specs.declared.stream.Stream.{Stream}
use Rattle.qc_streams.specs.Counts.{accepted, by_dir, dir_put, opening_told, place_freed, places_lost, places_sealed, with_place}
use Rattle.qc_streams.specs.Records.{changed, record_of, without}
use Rattle.qc_streams.specs.Settings.{concurrent_set, with_concurrent}
use Rattle.qc_streams.specs.Stream.{has_ended, is_freed, with_freed}
use Rattle.qc_streams.specs.Streams.{dir_of, forgotten, is_own, left_over, lingering, released, removed, settled, stops_later}
use Rattle.qc_streams.specs.Queues.{left, left_from, queue_one, queued, touched, turn_at, with_mark, with_turn}
use Rattle.qc_streams.specs.Writable.{awaits_at}
use Rattle.qc_streams.proofs.Waits.{Sound, alike, ended_not, here, leaves, raise}

-- whether the stream with an id was opened
abbrev pub was_opened : Side → ByDir OwnStreams → ByDir PeerStreams → ℕ → Bool
was_opened side own peer id =
    cond (is_own side id) (nat_lt (id / 4) (by_dir (dir_of id) own).opened) (nat_lt (id / 4) (by_dir (dir_of id) peer).opened)

-- it holds of a state
abbrev pub Holds : StreamsState → Type 0
Holds s = Sound (was_opened s.side s.own s.peer) s.records s.blocked

pub touched_ok : (id : ℕ) (s : StreamsState) → Holds s → Holds (touched id s)
unfolding touched with_mark
touched_ok id s h = alike (with_mark true) (λ st. refl) (was_opened s.side s.own s.peer) id s.records s.blocked h

-- a stream began to wait
pub queued_ok : (id : ℕ) (s : StreamsState) → Holds s → Holds (queued id s)
unfolding queued queue_one
queued_ok id s h = alike (queue_one s.waiting.turns) (λ st. refl) (was_opened s.side s.own s.peer) id s.records s.blocked h

left_from_ok : (turn : Option (ℤ × ℕ)) (id : ℕ) (s : StreamsState) → Holds s → Holds (left_from turn id s)
unfolding with_turn
left_from_ok None id s h = h
left_from_ok (Some place) id s h = alike (with_turn None) (λ st. refl) (was_opened s.side s.own s.peer) id s.records s.blocked h

pub left_ok : (id : ℕ) (s : StreamsState) → Holds s → Holds (left id s)
unfolding left
left_ok id s h = left_from_ok (turn_at (record_of id s.records)) id s h

turned-at : (o : Option Stream) → awaits_at (option_map (with_turn None) o) ≡ awaits_at o
unfolding with_turn
turned-at None = refl
turned-at (Some st) = refl

left_from_awaits : (turn : Option (ℤ × ℕ)) (id : ℕ) (s : StreamsState) → awaits_at (record_of id (left_from turn id s).records) ≡ awaits_at (record_of id s.records)
left_from_awaits None id s = refl
left_from_awaits (Some place) id s = ap (λ (o : Option Stream). awaits_at o) (here (with_turn None) id s.records) ∙ turned-at (record_of id s.records)

left_awaits : (id : ℕ) (s : StreamsState) → awaits_at (record_of id (left id s).records) ≡ awaits_at (record_of id s.records)
unfolding left
left_awaits id s = left_from_awaits (turn_at (record_of id s.records)) id s

-- as many streams were opened
pub opened_same : (side : Side) (own : ByDir OwnStreams) (peer peer' : ByDir PeerStreams) → ((d : Dir) → (by_dir d peer').opened ≡ (by_dir d peer).opened)
    → (j : ℕ) → was_opened side own peer j ≡ true → was_opened side own peer' j ≡ true
opened_same side own peer peer' same j is =
    ap (λ (n : ℕ). cond (is_own side j) (nat_lt (j / 4) (by_dir (dir_of j) own).opened) (nat_lt (j / 4) n)) (same (dir_of j)) ∙ is

pub put_same : (f : PeerStreams → PeerStreams) → ((k : PeerStreams) → (f k).opened ≡ k.opened) → (e : Dir) (peer : ByDir PeerStreams) (d : Dir)
    → (by_dir d (dir_put e (f (by_dir e peer)) peer)).opened ≡ (by_dir d peer).opened
put_same f same Bi peer Bi = same peer.bi
put_same f same Bi peer Uni = refl
put_same f same Uni peer Bi = refl
put_same f same Uni peer Uni = same peer.uni

pub freed_same : (k : PeerStreams) → (place_freed k).opened ≡ k.opened
unfolding place_freed with_place
freed_same k = refl

pub told_same : (k : PeerStreams) → (opening_told k).opened ≡ k.opened
unfolding opening_told
told_same k = refl

pub accepted_same : (k : PeerStreams) → (accepted k).opened ≡ k.opened
unfolding accepted
accepted_same k = refl

pub sealed_same : (k : PeerStreams) → (places_sealed k).opened ≡ k.opened
unfolding places_sealed
sealed_same k = refl

pub lost_same : (k : PeerStreams) → (places_lost k).opened ≡ k.opened
unfolding places_lost
lost_same k = refl

pub concurrent_same : (n : ℕ) (k : PeerStreams) → (concurrent_set n k).opened ≡ k.opened
unfolding concurrent_set with_concurrent
concurrent_same n k = refl

removed_same : (b : Bool) (e : Dir) (peer : ByDir PeerStreams) (d : Dir)
    → (by_dir d (cond b peer (dir_put e (place_freed (by_dir e peer)) peer))).opened ≡ (by_dir d peer).opened
removed_same true e peer d = refl
removed_same false e peer d = put_same place_freed freed_same e peer d

removed_ok : (id : ℕ) (s : StreamsState) → awaits_at (record_of id s.records) ≡ false → Holds s → Holds (removed id s)
unfolding removed
removed_ok id s none h =
    raise (was_opened s.side s.own s.peer) _ (without id s.records) s.blocked
    (opened_same s.side s.own s.peer
    (cond (is_own s.side id || is_freed (record_of id s.records)) s.peer (dir_put (dir_of id) (place_freed (by_dir (dir_of id) s.peer)) s.peer))
    (removed_same (is_own s.side id || is_freed (record_of id s.records)) (dir_of id) s.peer))
    (leaves (was_opened s.side s.own s.peer) id s.records s.blocked none h)

released_ok : (id : ℕ) (s : StreamsState) → awaits_at (record_of id s.records) ≡ false → Holds s → Holds (released id s)
unfolding released forgotten
released_ok id s none h =
    removed_ok id (left id (forgotten id s)) (left_awaits id (forgotten id s) ∙ none) (left_ok id (forgotten id s) h)

lingering_ok : (id : ℕ) (s : StreamsState) → Holds s → Holds (lingering id s)
unfolding lingering with_freed
lingering_ok id s h =
    touched_ok id _
    (raise (was_opened s.side s.own s.peer) _ (changed with_freed id s.records) s.blocked
    (opened_same s.side s.own s.peer
    (cond (is_own s.side id || is_freed (record_of id s.records)) s.peer (dir_put (dir_of id) (place_freed (by_dir (dir_of id) s.peer)) s.peer))
    (removed_same (is_own s.side id || is_freed (record_of id s.records)) (dir_of id) s.peer))
    (alike with_freed (λ st. refl) (was_opened s.side s.own s.peer) id s.records s.blocked h))

pub settled_ok : (id : ℕ) (s : StreamsState) → Holds s → Holds (settled id s)
unfolding settled
settled_ok id s h = by (has_ended (record_of id s.records)) (stops_later (record_of id s.records)) refl
  where
    by : (b c : Bool) → has_ended (record_of id s.records) ≡ b → Holds (cond b (cond c (lingering id s) (released id s)) (touched id s))
    by true true is = lingering_ok id s h
    by true false is = released_ok id s (ended_not (record_of id s.records) is) h
    by false c is = touched_ok id s h

pub left_over_ok : (id : ℕ) (s : StreamsState) → Holds s → Holds (left_over id s)
unfolding left_over
left_over_ok id s h = by (has_ended (record_of id s.records)) refl
  where
    by : (b : Bool) → has_ended (record_of id s.records) ≡ b → Holds (cond b (released id s) s)
    by true is = released_ok id s (ended_not (record_of id s.records) is) h
    by false is = h
