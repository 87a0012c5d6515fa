-- Over any calls each packet is settled once
use Rattle.std.proofs.Common.{◌≡◌, ℕ, Bool, true, false, List, [], ◌∷◌, ◌++◌, append_assoc, append-nil, refl, sym, ◌∙◌, ap, subst}
use Rattle.std.specs.Prelude.{◌==◌, if◌then◌else◌, IsPermutation, Option, None, Some}
use Rattle.std.proofs.lemmas.Bool.{false≢true}
use Rattle.std.proofs.lemmas.List.Sorted.{IsPermutation-append_left, IsPermutation-append_right, IsPermutation-append_comm, IsPermutation-refl, IsPermutation-trans}
use Rattle.qc_base.specs.declared.side.SpaceId.{SpaceId}
use Rattle.qc_base.specs.declared.side.SpaceId.TheVariants.{Initial, Handshake, Data}
use Rattle.qc_flight.specs.Packets.{Entry}
use Rattle.qc_path.specs.declared.controller.Controller.{Ghosts as Control}
use Rattle.qc_recovery.specs.Calls.{begun_recovery, dropped_after}
use Rattle.qc_recovery.specs.Losses.{rank}
use Rattle.qc_recovery.specs.Runs.{AreSettledOnce, Acknowledge, Call, Discard, Fates, Fire, Send, all_fates, call_after, calls_after, fates_after, fired_lost, no_fates}
use Rattle.qc_recovery.specs.Steps.{SpaceAfter, ack_after, no_space, occasion, probe_fired, probe_line, sent_after, space_after, space_dropped, space_of, space_sent, space_timed, timeout_after, timeout_by, with_space}
use Rattle.qc_recovery.specs.declared.calls.Around.{Around}
use Rattle.qc_recovery.specs.declared.path.PathData.{PathData}
use Rattle.qc_recovery.specs.declared.recovery.Recovery.{Recovery}
use Rattle.qc_recovery.specs.declared.space.SpaceRecovery.{SpaceRecovery}
use Rattle.qc_recovery.specs.TransportValues.{TransportValues}
use Rattle.qc_recovery.proofs.Settling.{ack_settles, timer_settles}

-- a space that is put in its place is found there, and the others stay
pub put_flight : (id space : SpaceId) (s : SpaceRecovery) (r : Recovery) → (space_of id (with_space space s r)).flight ≡ (if rank space == rank id then s.flight else (space_of id r).flight)
put_flight Initial Initial s r = refl
put_flight Initial Handshake s r = refl
put_flight Initial Data s r = refl
put_flight Handshake Initial s r = refl
put_flight Handshake Handshake s r = refl
put_flight Handshake Data s r = refl
put_flight Data Initial s r = refl
put_flight Data Handshake s r = refl
put_flight Data Data s r = refl

same_flight : (id space : SpaceId) (r : Recovery) → (rank space == rank id) ≡ true → (space_of id r).flight ≡ (space_of space r).flight
same_flight Initial Initial r h = refl
same_flight Initial Handshake r h = absurd (false≢true h)
same_flight Initial Data r h = absurd (false≢true h)
same_flight Handshake Initial r h = absurd (false≢true h)
same_flight Handshake Handshake r h = refl
same_flight Handshake Data r h = absurd (false≢true h)
same_flight Data Initial r h = absurd (false≢true h)
same_flight Data Handshake r h = absurd (false≢true h)
same_flight Data Data r h = refl

pub count_keeps : (id : SpaceId) (n : ℕ) (r : Recovery) → (space_of id (record r { count = n })).flight ≡ (space_of id r).flight
count_keeps Initial n r = refl
count_keeps Handshake n r = refl
count_keeps Data n r = refl

swap_front : (ds bs xs : List Entry) → IsPermutation (ds ++ (bs ++ xs)) (bs ++ (ds ++ xs))
swap_front ds bs xs =
    subst (λ (es : List Entry). IsPermutation es (bs ++ (ds ++ xs))) (append_assoc ds bs xs)
    (subst (λ (es : List Entry). IsPermutation ((ds ++ bs) ++ xs) es) (append_assoc bs ds xs) (IsPermutation-append_left xs (ds ++ bs) (bs ++ ds) (IsPermutation-append_comm ds bs)))

-- lists of packets: sent, acknowledged, lost, dropped and in flight
sent_more : (sent acked lost dropped flight n : List Entry) → IsPermutation sent (acked ++ (lost ++ (dropped ++ flight))) → IsPermutation (sent ++ n) (acked ++ (lost ++ (dropped ++ (flight ++ n))))
sent_more sent acked lost dropped flight n h =
    subst (λ (es : List Entry). IsPermutation (sent ++ n) es)
    (append_assoc acked (lost ++ (dropped ++ flight)) n ∙ ap (λ es. acked ++ es) (append_assoc lost (dropped ++ flight) n ∙ ap (λ es. lost ++ es) (append_assoc dropped flight n)))
    (IsPermutation-append_left n sent (acked ++ (lost ++ (dropped ++ flight))) h)

settled_parts : (acked lost dropped a l rest : List Entry) → IsPermutation (acked ++ (lost ++ (dropped ++ (a ++ (l ++ rest))))) ((acked ++ a) ++ ((lost ++ l) ++ (dropped ++ rest)))
settled_parts acked lost dropped a l rest =
    let inner : IsPermutation (dropped ++ (a ++ (l ++ rest))) (a ++ (l ++ (dropped ++ rest))) =
    IsPermutation-trans _ _ _ (swap_front dropped a (l ++ rest)) (IsPermutation-append_right a _ _ (swap_front dropped l rest)) in
    let middle : IsPermutation (lost ++ (dropped ++ (a ++ (l ++ rest)))) (a ++ (lost ++ (l ++ (dropped ++ rest)))) =
    IsPermutation-trans _ _ _ (IsPermutation-append_right lost _ _ inner) (swap_front lost a (l ++ (dropped ++ rest))) in
    subst (λ (es : List Entry). IsPermutation (acked ++ (lost ++ (dropped ++ (a ++ (l ++ rest))))) es)
    (sym (append_assoc acked a ((lost ++ l) ++ (dropped ++ rest)) ∙ ap (λ es. acked ++ (a ++ es)) (append_assoc lost l (dropped ++ rest))))
    (IsPermutation-append_right acked _ _ middle)

settled_more : (sent acked lost dropped flight a l rest : List Entry) → IsPermutation sent (acked ++ (lost ++ (dropped ++ flight))) → IsPermutation flight (a ++ (l ++ rest)) → IsPermutation sent ((acked ++ a) ++ ((lost ++ l) ++ (dropped ++ rest)))
settled_more sent acked lost dropped flight a l rest h k =
    IsPermutation-trans _ _ _ h
    (IsPermutation-trans _ _ _ (IsPermutation-append_right acked _ _ (IsPermutation-append_right lost _ _ (IsPermutation-append_right dropped _ _ k))) (settled_parts acked lost dropped a l rest))

-- an ACK, and the timer
settled_by : (b : Bool) (sent acked lost dropped mine theirs a l rest : List Entry) → (b ≡ true → mine ≡ theirs) → IsPermutation sent (acked ++ (lost ++ (dropped ++ mine))) → IsPermutation theirs (a ++ (l ++ rest))
    → IsPermutation sent ((acked ++ (if b then a else [])) ++ ((lost ++ (if b then l else [])) ++ (dropped ++ (if b then rest else mine))))
settled_by true sent acked lost dropped mine theirs a l rest same h k = settled_more sent acked lost dropped mine a l rest h (subst (λ (es : List Entry). IsPermutation es (a ++ (l ++ rest))) (sym (same refl)) k)
settled_by false sent acked lost dropped mine theirs a l rest same h k = rw (append-nil acked, append-nil lost) h

lost_by : (b : Bool) (sent acked lost dropped mine theirs l rest : List Entry) → (b ≡ true → mine ≡ theirs) → IsPermutation sent (acked ++ (lost ++ (dropped ++ mine))) → IsPermutation theirs (l ++ rest)
    → IsPermutation sent (acked ++ ((lost ++ (if b then l else [])) ++ (dropped ++ (if b then rest else mine))))
lost_by b sent acked lost dropped mine theirs l rest same h k =
    subst (λ (es : List Entry). IsPermutation sent (es ++ ((lost ++ (if b then l else [])) ++ (dropped ++ (if b then rest else mine))))) (none_more b acked)
    (settled_by b sent acked lost dropped mine theirs [] l rest same h k)
  where
    none_more : (b : Bool) (es : List Entry) → (es ++ (if b then [] else [])) ≡ es
    none_more true es = append-nil es
    none_more false es = append-nil es

dropped_by : (b : Bool) (sent acked lost dropped mine theirs : List Entry) → (b ≡ true → mine ≡ theirs) → IsPermutation sent (acked ++ (lost ++ (dropped ++ mine)))
    → IsPermutation sent (acked ++ (lost ++ ((dropped ++ (if b then theirs else [])) ++ (if b then [] else mine))))
dropped_by true sent acked lost dropped mine theirs same h = rw (append-nil (dropped ++ theirs), ← same refl) h
dropped_by false sent acked lost dropped mine theirs same h = rw (append-nil dropped) h

sent_by : (b : Bool) (sent acked lost dropped mine theirs n : List Entry) → (b ≡ true → mine ≡ theirs) → IsPermutation sent (acked ++ (lost ++ (dropped ++ mine)))
    → IsPermutation (sent ++ (if b then n else [])) (acked ++ (lost ++ (dropped ++ (if b then theirs ++ n else mine))))
sent_by true sent acked lost dropped mine theirs n same h = rw (← same refl) (sent_more sent acked lost dropped mine n h)
sent_by false sent acked lost dropped mine theirs n same h = rw (append-nil sent) h

begun_flight : (id : SpaceId) (config : TransportValues) → (space_of id (begun_recovery config)).flight ≡ []
unfolding begun_recovery no_space
begun_flight Initial config = refl
begun_flight Handshake config = refl
begun_flight Data config = refl

-- ---- each call

-- what is in flight in a space, where that is known
settles : (id : SpaceId) (r : Recovery) (f : Fates) (flight : List Entry) → (space_of id r).flight ≡ flight → IsPermutation f.sent (f.acked ++ (f.lost ++ (f.dropped ++ flight))) → AreSettledOnce id r f
unfolding AreSettledOnce
settles id r f flight is h = rw is h

unsettles : (id : SpaceId) (r : Recovery) (f : Fates) → AreSettledOnce id r f → IsPermutation f.sent (f.acked ++ (f.lost ++ (f.dropped ++ (space_of id r).flight)))
unfolding AreSettledOnce
unsettles id r f h = h

module _ {C : Type 0} where
  fired_settles : (m : Control C) (id : SpaceId) (now : ℕ) (around : Around) (path : PathData C) (first : Option (ℕ × SpaceId)) (r : Recovery) (f : Fates) → AreSettledOnce id r f
      → AreSettledOnce id (timeout_by m now around first r path).recovery (record f { lost = f.lost ++ fired_lost id (timeout_by m now around first r path).fired })
  unfolding space_timed
  fired_settles m id now around path None r f h = probed (probe_line now around path.rtt r)
    where
      probed : (due : Option (ℕ × SpaceId)) → AreSettledOnce id (probe_fired due r path).recovery (record f { lost = f.lost ++ fired_lost id (probe_fired due r path).fired })
      probed None = settles id r _ (space_of id r).flight refl (rw (append-nil f.lost) (unsettles id r f h))
      probed (Some due) = settles id _ _ (space_of id r).flight (count_keeps id _ r) (rw (append-nil f.lost) (unsettles id r f h))
  fired_settles m id now around path (Some loss) r f h =
      let space : SpaceId = loss.1 in
      let q : SpaceAfter C = space_timed m r.limits now space (space_of space r) path in
      settles id _ _ _ (put_flight id space q.space r)
      (lost_by (rank space == rank id) f.sent f.acked f.lost f.dropped (space_of id r).flight (space_of space r).flight q.lost q.space.flight (same_flight id space r) (unsettles id r f h)
      (timer_settles m r.limits now space (space_of space r) path))

  call_settles : (m : Control C) (id : SpaceId) (c : Call C) (r : Recovery) (f : Fates) → AreSettledOnce id r f → AreSettledOnce id (call_after m c r) (fates_after m id c r f)
  unfolding call_after fates_after sent_after space_sent ack_after timeout_after dropped_after space_dropped
  call_settles m id (Send space number packet) r f h =
      settles id _ _ _ (put_flight id space (space_sent number packet (space_of space r)) r)
      (sent_by (rank space == rank id) f.sent f.acked f.lost f.dropped (space_of id r).flight (space_of space r).flight ((number, packet) ∷ []) (same_flight id space r) (unsettles id r f h))
  call_settles m id (Acknowledge now space next began ack ranges around path) r f h =
      let q : SpaceAfter C = space_after m r.limits (occasion now space next began r) ack ranges around (space_of space r) path in
      settles id _ _ _ (count_keeps id _ (with_space space q.space r) ∙ put_flight id space q.space r)
      (settled_by (rank space == rank id) f.sent f.acked f.lost f.dropped (space_of id r).flight (space_of space r).flight q.acked q.lost q.space.flight (same_flight id space r) (unsettles id r f h)
      (ack_settles m r.limits (occasion now space next began r) ack ranges around (space_of space r) path))
  call_settles m id (Fire now around path) r f h = fired_settles m id now around path _ r f h
  call_settles m id (Discard space) r f h =
      settles id _ _ _ (put_flight id space (space_dropped (space_of space r)) r)
      (dropped_by (rank space == rank id) f.sent f.acked f.lost f.dropped (space_of id r).flight (space_of space r).flight (same_flight id space r) (unsettles id r f h))

  pub calls_settle : (m : Control C) (id : SpaceId) (cs : List (Call C)) (r : Recovery) (f : Fates) → AreSettledOnce id r f → AreSettledOnce id (calls_after m cs r) (all_fates m id cs r f)
  calls_settle m id [] r f h = h
  calls_settle m id (c ∷ cs) r f h = calls_settle m id cs (call_after m c r) (fates_after m id c r f) (call_settles m id c r f h)

  pub run_settles : (m : Control C) (id : SpaceId) (config : TransportValues) (cs : List (Call C)) → AreSettledOnce id (calls_after m cs (begun_recovery config)) (all_fates m id cs (begun_recovery config) no_fates)
  run_settles m id config cs = calls_settle m id cs (begun_recovery config) no_fates (settles id _ no_fates [] (begun_flight id config) (IsPermutation-refl []))
