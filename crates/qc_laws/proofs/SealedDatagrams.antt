-- The datagrams of a transmit are the bytes of its packets, in the order of their deeds.
use Rattle.std.proofs.Common.{◌≡◌, ℕ, ◌+◌, ◌<◌, ◌≤◌, min, Bool, true, false, ◌||◌, ◌&&◌, List, [], ◌∷◌, ◌++◌, length, map, refl, ap, sym, ◌∙◌, subst, append-nil, append_assoc, length-append, arith, Option, Some, None, nat_lt, if◌then◌else◌}
use Rattle.std.proofs.lemmas.Bool.Decides.{nat_tests}
use Rattle.qc_base.specs.declared.side.SpaceId.TheVariants.{«Data»}
use Rattle.qc_packet.specs.Arrival.{AllCanArrive, SealedAs, bytes_as, coalesced}
use Rattle.qc_state.specs.declared.deeds.Did.{Did}
use Rattle.qc_state.specs.declared.deeds.Did.TheVariants as did
use Rattle.qc_state.specs.declared.deeds.Quiet.{Quiet}
use Rattle.qc_state.specs.declared.deeds.Quiet.TheVariants.{NothingOwed, Silent, Amplification, Congestion, Pacing, Killed}
use Rattle.qc_state.specs.declared.form.Form.{Form}
use Rattle.qc_state.specs.declared.form.Form.TheVariants as form
use Rattle.qc_state.specs.declared.transmit.Batch.{Batch}
use Rattle.qc_state.specs.declared.transmit.Transmit.{Transmit}
use Rattle.qc_state.specs.Forms.{is_one_rtt, number_space}
use Rattle.qc_state.specs.Moves.{Ask, Hand, Hold, Move, Probe, Seal, Tell, deeds_move, move_to}
use Rattle.qc_state.specs.Numbers.{next_number}
use Rattle.qc_state.specs.Offers.{path_size}
use Rattle.qc_state.specs.Paths.{held_size, least_on, most_on}
use Rattle.qc_state.specs.Batches.{IsBehind, is_closed_up, is_whole, next_segment, segment_of, takes_another}
use Rattle.qc_state.specs.Sending.{Choice, Died, Ending, Going, Held, Hushed, MayAll, MayEnd, MayFollow, MayStand, Probed, Sent, Went, MayTransmit, begun_after, bytes_out, ending_after, going_from, gone_after, held_after, is_key_nearly_used_up, most_of, probe_begun_after, probe_frames, probe_sealed, probed_after, sealed_in, spared_after, packet_after, packet_size, packets_after, sent_out, transmit_after, transmit_bytes, transmit_of, transmit_with, MayProbe, going_tried, kill_in}
use Rattle.qc_state.specs.Setup.{takes_grease}
use Rattle.qc_state.specs.Types.{Types, Meaning}
use Rattle.qc_state.specs.View.{View, At}
use Rattle.qc_state.proofs.Telling.{told_appends}
use Rattle.qc_state.proofs.Transmitted.{IsSending, IsUnprobed, holds_spared, holds_unprobed, untold_sending}
use Rattle.qc_laws.specs.SealLaws.{AllArrive, AreSealedAs, HasFields, SealsBetween, SealsDatagrams, SealsGiven, all_of, datagrams_of}
use Rattle.qc_laws.proofs.BatchSizes.{IsSmall, JoinsSo, OpensSo, begun_small, joined_small, joins_behind, opened_small, segment_later, whole_size}
use Rattle.qc_laws.proofs.InitialLeft.{begun_deeds, packet_deeds, sealed_deed}
use Rattle.qc_laws.proofs.PacketBytes.{AreCut, datagrams_apart}
use Rattle.qc_laws.proofs.PacketSeals.{SealsPacket, packet_joins, packet_opens, seals_packet, size_of}
use Rattle.qc_laws.proofs.ProbesSealed.{SealsProbe, probe_deed, probe_deeds, seals_probe}
use Rattle.qc_laws.proofs.SealingKept.{SealsAlike, SealsBy, by_alike, by_begun, by_tried, packet_alike, packets_by}
use Rattle.qc_state.specs.Updating.{tried_after}
use Rattle.qc_state.proofs.Tried.{tried_did, tried_same}

second_holds : (a b : Bool) → b ≡ true → (a || b) ≡ true
second_holds true b h = refl
second_holds false b h = h

-- ---- sizes

-- these datagrams are all of a transmit: there is one, or they have the size of the first, but the last, which may have fewer bytes
abbrev AreAll : Batch → List (List ℕ) → Type 0
AreAll c [] = Unit {0}
AreAll c (d ∷ []) = c.made ≡ 1
AreAll c (d ∷ e ∷ ds) = (1 < c.made) × AreCut c.segment (d ∷ e ∷ ds)

-- from one batch to another so many bytes joined the open datagram, and these datagrams were made behind it
abbrev EndsSo : (b c : Batch) → (joined : ℕ) → List (List ℕ) → Type 0
EndsSo b c n [] = (c.made ≡ b.made) × (c.segment ≡ b.segment) × (b.filled ≤ b.capacity → b.filled + n ≤ b.capacity)
EndsSo b c n (d ∷ ds) =
    (0 < b.made → (1 < c.made) × (b.filled + n ≡ c.segment) × AreCut c.segment (d ∷ ds)) × (1 < b.made → c.segment ≡ b.segment) × (b.made ≡ 0 → AreAll c (d ∷ ds))

-- a packet opens the first of them
opened_ends : (form : Form) (n k : ℕ) (b mid c : Batch) (d : List ℕ) (ds : List (List ℕ)) → OpensSo form n b mid → (0 < b.made → b.filled ≡ next_segment b) → length d ≡ n + k → 0 < n → EndsSo mid c k ds → EndsSo b c 0 (d ∷ ds)
opened_ends form n k b mid c d [] so whole len some ends =
    let segment : c.segment ≡ next_segment b = ends.1 ∙ so.segment in
    let made : c.made ≡ mid.made = ends.0 in
    let within : mid.filled + k ≤ mid.capacity = ends.2 (omega (arith, so.filled, so.within)) in (
      λ past. let behind : b.filled ≡ next_segment b = whole past in
          (omega (arith, made, so.more past), omega (arith, behind, segment), (omega (arith, len, some), omega (arith, len, so.filled, within, so.capacity, segment))),
      λ many. segment ∙ segment_later b many,
      λ none. made ∙ so.first none,
    )
opened_ends form n k b mid c d (e ∷ es) so whole len some ends =
    let tail = ends.0 so.some in
    let full : mid.filled + k ≡ c.segment = tail.1 in
    let size : length d ≡ c.segment = omega (arith, len, so.filled, full) in
    let nonempty : 0 < length d = omega (arith, len, some) in (
      λ past. let behind : b.filled ≡ next_segment b = whole past in
          let fixed : c.segment ≡ mid.segment = ends.1 (so.more past) in
          (tail.0, omega (arith, behind, fixed, so.segment), (nonempty, size, tail.2)),
      λ many. ends.1 (so.more (omega (arith, many))) ∙ so.segment ∙ segment_later b many,
      λ none. (tail.0, (nonempty, size, tail.2)),
    )

-- a packet joins the open one
joined_ends : (form : Form) (n k : ℕ) (b mid c : Batch) (ds : List (List ℕ)) → JoinsSo form n b mid → 0 < b.made → EndsSo mid c k ds → EndsSo b c (n + k) ds
joined_ends form n k b mid c [] so some ends =
    let within : mid.filled + k ≤ mid.capacity = ends.2 (omega (arith, so.filled, so.within, so.capacity)) in
    (ends.0 ∙ so.made, ends.1 ∙ so.segment, λ few. omega (arith, within, so.filled, so.capacity))
joined_ends form n k b mid c (d ∷ ds) so some ends =
    let tail = ends.0 (omega (arith, so.made, some)) in
    let full : mid.filled + k ≡ c.segment = tail.1 in
    (λ past. (tail.0, omega (arith, full, so.filled), tail.2), λ many. ends.1 (omega (arith, so.made, many)) ∙ so.segment, λ none. absurd (omega (arith, none, some)))

-- so their bytes are cut into them
segment_one : (c : Batch) → c.made ≡ 1 → segment_of c ≡ None
segment_one c one = by_test (nat_lt 1 c.made) refl
  where
    by_test : (b : Bool) → nat_lt 1 c.made ≡ b → (if b then Some c.segment else None) ≡ None
    by_test true e = absurd (let many : 1 < c.made = grind (arith, nat_tests) in omega (arith, many, one))
    by_test false e = refl

segment_many : (c : Batch) → 1 < c.made → segment_of c ≡ Some c.segment
segment_many c many = by_test (nat_lt 1 c.made) refl
  where
    by_test : (b : Bool) → nat_lt 1 c.made ≡ b → (if b then Some c.segment else None) ≡ Some c.segment
    by_test true e = refl
    by_test false e = absurd (let few : c.made ≤ 1 = grind (arith, nat_tests) in omega (arith, few, many))

all_cut : (c : Batch) (ds : List (List ℕ)) → 0 < length ds → AreAll c ds → datagrams_of (segment_of c) (all_of ds) ≡ ds
all_cut c [] some are = absurd (omega (arith, some))
all_cut c (d ∷ []) some are = ap (λ (o : Option ℕ). datagrams_of o (d ++ [])) (segment_one c are) ∙ ap (λ (x : List ℕ). x ∷ []) (append-nil d)
all_cut c (d ∷ e ∷ ds) some are = ap (λ (o : Option ℕ). datagrams_of o (all_of (d ∷ e ∷ ds))) (segment_many c are.0) ∙ datagrams_apart c.segment (d ∷ e ∷ ds) are.1

-- ---- deeds

-- deeds that seal nothing
abbrev NoneSealed : List Did → Type 0
NoneSealed [] = Unit {0}
NoneSealed (did.Sealed space number epoch early frames ∷ ds) = ⊥
NoneSealed (_ ∷ ds) = NoneSealed ds

none_both : (ds es : List Did) → NoneSealed ds → NoneSealed es → NoneSealed (ds ++ es)
none_both [] es h k = k
none_both (did.Sealed space number epoch early frames ∷ ds) es h k = absurd h
none_both (did.Piece space number verdict ∷ ds) es h k = none_both ds es h k
none_both (did.Gave layer body ∷ ds) es h k = none_both ds es h k
none_both (did.Rose life ∷ ds) es h k = none_both ds es h k
none_both (did.Lost why ∷ ds) es h k = none_both ds es h k
none_both (did.Quiet why ∷ ds) es h k = none_both ds es h k

-- bytes behind a packet
behind_packet : (out one joined more mid last : List ℕ) → last ≡ mid ++ (joined ++ more) → mid ≡ out ++ one → last ≡ out ++ ((one ++ joined) ++ more)
behind_packet out one joined more mid last is_last is_mid =
    is_last ∙ ap (λ (x : List ℕ). x ++ (joined ++ more)) is_mid ∙ append_assoc out one (joined ++ more) ∙ ap (λ (x : List ℕ). out ++ x) (sym (append_assoc one joined more))

-- a deed with others before and behind it, all told one after the other
probe_appended : (ds sent before behind : List Did) (deed : Did) (u v w x : List Did) → u ≡ ds ++ sent → v ≡ u ++ before → w ≡ v ++ deed ∷ [] → x ≡ w ++ behind → x ≡ ds ++ (sent ++ (before ++ (deed ∷ behind)))
probe_appended ds sent before behind deed u v w x is_u is_v is_w is_x =
    is_x ∙ ap (λ (l : List Did). l ++ behind) is_w ∙ append_assoc v (deed ∷ []) behind ∙ ap (λ (l : List Did). l ++ (deed ∷ behind)) is_v ∙ append_assoc u before (deed ∷ behind)
    ∙ ap (λ (l : List Did). l ++ (before ++ (deed ∷ behind))) is_u ∙ append_assoc ds sent (before ++ (deed ∷ behind))

held_small : (n : ℕ) → held_size n ≤ 16383
held_small n = omega arith

module _ {t : Types} where
  none_sealed : (m : Meaning t) (s : View t) (ds : List Did) → NoneSealed ds → AreSealedAs m s ds []
  none_sealed m s [] h = refl
  none_sealed m s (did.Sealed space number epoch early frames ∷ ds) h = absurd h
  none_sealed m s (did.Piece space number verdict ∷ ds) h = none_sealed m s ds h
  none_sealed m s (did.Gave layer body ∷ ds) h = none_sealed m s ds h
  none_sealed m s (did.Rose life ∷ ds) h = none_sealed m s ds h
  none_sealed m s (did.Lost why ∷ ds) h = none_sealed m s ds h
  none_sealed m s (did.Quiet why ∷ ds) h = none_sealed m s ds h

  sealed_append : (m : Meaning t) (s : View t) (ds es : List Did) (ps : List (SealedAs t.P)) → AreSealedAs m s ds ps → NoneSealed es → AreSealedAs m s (ds ++ es) ps
  sealed_append m s [] es ps h none = subst (λ (xs : List (SealedAs t.P)). AreSealedAs m s es xs) (sym h) (none_sealed m s es none)
  sealed_append m s (did.Sealed space number epoch early frames ∷ ds) es [] h none = absurd h
  sealed_append m s (did.Sealed space number epoch early frames ∷ ds) es (p ∷ ps) h none = (h.0, sealed_append m s ds es ps h.1 none)
  sealed_append m s (did.Piece space number verdict ∷ ds) es ps h none = sealed_append m s ds es ps h none
  sealed_append m s (did.Gave layer body ∷ ds) es ps h none = sealed_append m s ds es ps h none
  sealed_append m s (did.Rose life ∷ ds) es ps h none = sealed_append m s ds es ps h none
  sealed_append m s (did.Lost why ∷ ds) es ps h none = sealed_append m s ds es ps h none
  sealed_append m s (did.Quiet why ∷ ds) es ps h none = sealed_append m s ds es ps h none

  -- deeds as which no packet is sealed seal nothing, and stand before others
  unsealed_of : (m : Meaning t) (s : View t) (ds : List Did) → AreSealedAs m s ds [] → NoneSealed ds
  unsealed_of m s [] h = tt
  unsealed_of m s (did.Sealed space number epoch early frames ∷ ds) h = h
  unsealed_of m s (did.Piece space number verdict ∷ ds) h = unsealed_of m s ds h
  unsealed_of m s (did.Gave layer body ∷ ds) h = unsealed_of m s ds h
  unsealed_of m s (did.Rose life ∷ ds) h = unsealed_of m s ds h
  unsealed_of m s (did.Lost why ∷ ds) h = unsealed_of m s ds h
  unsealed_of m s (did.Quiet why ∷ ds) h = unsealed_of m s ds h

  none_before : (m : Meaning t) (s : View t) (ds es : List Did) (ps : List (SealedAs t.P)) → NoneSealed ds → AreSealedAs m s es ps → AreSealedAs m s (ds ++ es) ps
  none_before m s [] es ps none h = h
  none_before m s (did.Sealed space number epoch early frames ∷ ds) es ps none h = absurd none
  none_before m s (did.Piece space number verdict ∷ ds) es ps none h = none_before m s ds es ps none h
  none_before m s (did.Gave layer body ∷ ds) es ps none h = none_before m s ds es ps none h
  none_before m s (did.Rose life ∷ ds) es ps none h = none_before m s ds es ps none h
  none_before m s (did.Lost why ∷ ds) es ps none h = none_before m s ds es ps none h
  none_before m s (did.Quiet why ∷ ds) es ps none h = none_before m s ds es ps none h

  -- how a transmit ends seals nothing
  record Unsealed (a b : At t) : Type 0 where
    pub since : List Did
    pub appended : b.did ≡ a.did ++ since
    pub none : NoneSealed since

  unsealed_here : (a : At t) → Unsealed a a
  unsealed_here a = record { since = []; appended = sym (append-nil a.did); none = tt }

  unsealed_same : (a b : At t) → b.did ≡ a.did → Unsealed a b
  unsealed_same a b is = record { since = []; appended = is ∙ sym (append-nil a.did); none = tt }

  unsealed_next : (a b c : At t) → Unsealed a b → Unsealed b c → Unsealed a c
  unsealed_next a b c g h = record {
    since = g.since ++ h.since;
    appended = h.appended ∙ ap (λ (ds : List Did). ds ++ h.since) g.appended ∙ append_assoc a.did g.since h.since;
    none = none_both g.since h.since g.none h.none;
  }

  sending_none : (x : Move t) (s : View t) → IsSending x → NoneSealed (deeds_move x s)
  unfolding deeds_move
  sending_none (Seal time form n size fs) s h = absurd h
  sending_none (Tell d) s h = absurd h
  sending_none (Hand frame) s h = absurd h
  sending_none _ s h = tt

  unsealed_move : (x : Move t) → IsSending x → (a : At t) → Unsealed a (move_to x a)
  unfolding move_to
  unsealed_move x r a = record { since = deeds_move x a.state; appended = told_appends a.did (deeds_move x a.state); none = sending_none x a.state r }

  -- ---- packets

  -- from one moment of a transmit to another these packets joined the open datagram, and these datagrams were made behind it
  record Fills (m : Meaning t) (s : View t) (g h : Going t) : Type 0 where
    pub first : List (SealedAs t.P)
    pub more : List (List (SealedAs t.P))
    pub since : List Did
    pub appended : h.now.did ≡ g.now.did ++ since
    pub told : AreSealedAs m s since (first ++ all_of more)
    pub out : h.out ≡ g.out ++ (coalesced m.seal first ++ all_of (map (coalesced m.seal) more))
    pub sizes : EndsSo g.batch h.batch (length (coalesced m.seal first)) (map (coalesced m.seal) more)
    pub alone : g.batch.short ≡ true → first ≡ []
    pub none : g.batch.made ≡ 0 → first ≡ []
    pub arrive : HasFields s → AllCanArrive m.seal (length s.paths.current.remote_cid) (s.setup.fixed.version ∷ []) (takes_grease s.setup.peer) first × AllArrive m s more

  -- a packet has its tag
  size_some : (p : Sent) (g : Going t) → 0 < size_of p g
  unfolding packet_size
  size_some p g = omega arith

  joined_size : (m : Meaning t) (x : SealedAs t.P) (xs : List (SealedAs t.P)) (n : ℕ) → length (bytes_as m.seal x) ≡ n → length (coalesced m.seal (x ∷ xs)) ≡ n + length (coalesced m.seal xs)
  joined_size m x xs n is = length-append (bytes_as m.seal x) (coalesced m.seal xs) ∙ ap (λ (k : ℕ). k + length (coalesced m.seal xs)) is

  -- where a packet joins, it may
  place_joins : (m : Meaning t) (time : ℕ) (p : Sent) (g : Going t) → MayFollow m time g.now.state g.batch p → p.opens ≡ false → takes_another g.batch ≡ true
  place_joins m time p g may joins = subst (λ (o : Bool). MayStand m time g.now.state g.batch (number_space p.form) o) joins may.begins.place

  -- where it opens a datagram, the one before it has the size of the first
  behind_whole : (m : Meaning t) (time : ℕ) (p : Sent) (g : Going t) → MayFollow m time g.now.state g.batch p → p.opens ≡ true → 0 < g.batch.made → g.batch.filled ≡ next_segment g.batch
  behind_whole m time p g may opens some = whole_size g.batch (by_opens p.opens opens may.begins.behind) some
    where
      by_opens : (o : Bool) → o ≡ true → IsBehind g.batch o → (is_whole g.batch && is_closed_up g.batch) ≡ true
      by_opens true e h = h
      by_opens false e h = cc

  fills : (m : Meaning t) → ((key : t.P) (number : ℕ) (header plain : List ℕ) → length (m.seal key number header plain) ≡ length plain + 16) → (time : ℕ) (s : View t) (ps : List Sent) (g : Going t) →
      SealsBy s g.now.state → IsSmall g.batch → MayAll m time g ps → Fills m s g (packets_after m time ps g)
  fills m size time s [] g alike small may = record {
    first = [];
    more = [];
    since = [];
    appended = sym (append-nil g.now.did);
    told = refl;
    out = sym (append-nil g.out);
    sizes = (refl, refl, λ few. omega (arith, few));
    alone = λ e. refl;
    none = λ e. refl;
    arrive = λ fields. (tt, tt);
  }
  fills m size time s (p ∷ ps) g alike small may =
      by_opens p.opens refl (λ few. fills m size time s ps (packet_after m time p f) (by_alike s f.now.state (packet_after m time p f).now.state tried (packet_alike m time p f may.0)) few may.1)
    where
      -- behind the update that is tried for it
      f : Going t
      f = going_tried m p.form g

      tried : SealsBy s f.now.state
      tried = by_tried m s p.form g.now alike

      one : SealsPacket m s time p f
      one = seals_packet m size time s p f tried may.0

      deed : Did
      deed = sealed_deed p (begun_after (number_space p.form) p.opens f.now)

      appended_so : (last mid : List Did) → last ≡ (packet_after m time p f).now.did ++ mid → last ≡ g.now.did ++ deed ∷ mid
      appended_so last mid is = is ∙ ap (λ (ds : List Did). ds ++ mid) (packet_deeds m time p f ∙ ap (λ (ds : List Did). ds ++ deed ∷ []) (tried_did m p.form g.now)) ∙ append_assoc g.now.did (deed ∷ []) mid

      nonempty : 0 < size_of p f
      nonempty = size_some p f

      by_opens : (o : Bool) → p.opens ≡ o → (IsSmall (packet_after m time p f).batch → Fills m s (packet_after m time p f) (packets_after m time ps (packet_after m time p f))) → Fills m s g (packets_after m time ps (packet_after m time p f))
      by_opens true opens further =
          let g' : Going t = packet_after m time p f in
          let so : OpensSo p.form (size_of p f) g.batch g'.batch = packet_opens m time p f may.0 opens in
          let few : IsSmall g'.batch = opened_small p.form (size_of p f) g.batch g'.batch small so in
          let rest : Fills m s g' (packets_after m time ps g') = further few in
          let x : SealedAs t.P = one.packet in
          record {
            first = [];
            more = (x ∷ rest.first) ∷ rest.more;
            since = deed ∷ rest.since;
            appended = appended_so (packets_after m time ps g').now.did rest.since rest.appended;
            told = (one.is, rest.told);
            out = behind_packet g.out (bytes_as m.seal x) (coalesced m.seal rest.first) (all_of (map (coalesced m.seal) rest.more)) g'.out (packets_after m time ps g').out rest.out one.out;
            sizes = opened_ends p.form (size_of p f) (length (coalesced m.seal rest.first)) g.batch g'.batch (packets_after m time ps g').batch (coalesced m.seal (x ∷ rest.first)) (map (coalesced m.seal) rest.more) so
                (behind_whole m time p f may.0 opens) (joined_size m x rest.first (size_of p f) one.size) nonempty rest.sizes;
            alone = λ e. refl;
            none = λ e. refl;
            arrive = λ fields. let more = rest.arrive fields in
                (tt, ((one.can fields few.capacity (coalesced m.seal rest.first) (λ short. ap (coalesced m.seal) (rest.alone (so.short ∙ short))), more.0), more.1));
          }
      by_opens false joins further =
          let g' : Going t = packet_after m time p f in
          let so : JoinsSo p.form (size_of p f) g.batch g'.batch = packet_joins m time p f may.0 joins in
          let few : IsSmall g'.batch = joined_small p.form (size_of p f) g.batch g'.batch small so in
          let rest : Fills m s g' (packets_after m time ps g') = further few in
          let x : SealedAs t.P = one.packet in
          let behind = joins_behind g.batch (place_joins m time p f may.0 joins) in
          record {
            first = x ∷ rest.first;
            more = rest.more;
            since = deed ∷ rest.since;
            appended = appended_so (packets_after m time ps g').now.did rest.since rest.appended;
            told = (one.is, rest.told);
            out = behind_packet g.out (bytes_as m.seal x) (coalesced m.seal rest.first) (all_of (map (coalesced m.seal) rest.more)) g'.out (packets_after m time ps g').out rest.out one.out;
            sizes = subst (λ (n : ℕ). EndsSo g.batch (packets_after m time ps g').batch n (map (coalesced m.seal) rest.more)) (sym (joined_size m x rest.first (size_of p f) one.size))
                (joined_ends p.form (size_of p f) (length (coalesced m.seal rest.first)) g.batch g'.batch (packets_after m time ps g').batch (map (coalesced m.seal) rest.more) so behind.0 rest.sizes);
            alone = λ e. absurd (let long : g.batch.short ≡ false = behind.1 in cc);
            none = λ e. absurd (let some : 0 < g.batch.made = behind.0 in omega (arith, e, some));
            arrive = λ fields. let more = rest.arrive fields in
                ((one.can fields few.capacity (coalesced m.seal rest.first) (λ short. ap (coalesced m.seal) (rest.alone (so.short ∙ second_holds g.batch.short (is_one_rtt p.form) short))), more.0), more.1);
          }

  -- ---- a transmit

  -- the bytes that it gives, by the view in which it began
  whole : (m : Meaning t) (s : View t) (g h : Going t) (es : List Did) → g.batch.made ≡ 0 → g.out ≡ [] → 0 < h.batch.made → NoneSealed es → (f : Fills m s g h) → SealsDatagrams m s (f.since ++ es) (segment_of h.batch) h.out
  whole m s g h es none empty some quiet f =
      let joined : f.first ≡ [] = f.none none in
      let bytes : h.out ≡ all_of (map (coalesced m.seal) f.more) =
      f.out ∙ ap (λ (x : List ℕ). x ++ (coalesced m.seal f.first ++ all_of (map (coalesced m.seal) f.more))) empty ∙ ap (λ (xs : List (SealedAs t.P)). coalesced m.seal xs ++ all_of (map (coalesced m.seal) f.more)) joined in
      record {
        datagrams = f.more;
        cut = ap (λ (x : List ℕ). datagrams_of (segment_of h.batch) x) bytes ∙ by_sizes (map (coalesced m.seal) f.more) f.sizes;
        told = sealed_append m s f.since es (all_of f.more) (subst (λ (xs : List (SealedAs t.P)). AreSealedAs m s f.since (xs ++ all_of f.more)) joined f.told) quiet;
        arrive = λ fields. (f.arrive fields).1;
      }
    where
      by_sizes : (ds : List (List ℕ)) → EndsSo g.batch h.batch (length (coalesced m.seal f.first)) ds → datagrams_of (segment_of h.batch) (all_of ds) ≡ ds
      by_sizes [] ends = absurd (let made : h.batch.made ≡ g.batch.made = ends.0 in omega (arith, made, none, some))
      by_sizes (d ∷ ds) ends = all_cut h.batch (d ∷ ds) (omega arith) (ends.2 none)

  -- behind datagrams, or for want of any, it seals nothing more
  given_so : (m : Meaning t) (time : ℕ) (s : View t) (g h : Going t) (es : List Did) (to : View t) (e : Ending) (sent : Option Transmit) (buffer : List ℕ) → g.batch.made ≡ 0 → g.out ≡ [] → NoneSealed es → (f : Fills m s g h) → IsUnprobed e →
      MayEnd m time e h.now.state h.batch → sent ≡ sent_out e (transmit_with to h.batch) → buffer ≡ bytes_out m time e h.batch h.now h.out → SealsGiven m s (f.since ++ es) sent buffer
  unfolding transmit_with
  given_so m time s g h es to Went sent buffer none empty quiet f plain may is_sent is_buffer =
      subst (λ (o : Option Transmit). SealsGiven m s (f.since ++ es) o buffer) (sym is_sent)
      (subst (λ (x : List ℕ). SealsDatagrams m s (f.since ++ es) (segment_of h.batch) x) (sym is_buffer) (whole m s g h es none empty may.some quiet f))
  given_so m time s g h es to Held sent buffer none empty quiet f plain may is_sent is_buffer =
      subst (λ (o : Option Transmit). SealsGiven m s (f.since ++ es) o buffer) (sym is_sent)
      (subst (λ (x : List ℕ). SealsDatagrams m s (f.since ++ es) (segment_of h.batch) x) (sym is_buffer) (whole m s g h es none empty may.0.some quiet f))
  given_so m time s g h es to (Hushed why) sent buffer none empty quiet f plain may is_sent is_buffer = subst (λ (o : Option Transmit). SealsGiven m s (f.since ++ es) o buffer) (sym is_sent) is_buffer
  given_so m time s g h es to (Probed why size) sent buffer none empty quiet f plain may is_sent is_buffer = absurd plain
  given_so m time s g h es to (Died f' why) sent buffer none empty quiet f plain may is_sent is_buffer = subst (λ (o : Option Transmit). SealsGiven m s (f.since ++ es) o buffer) (sym is_sent) is_buffer

  plain_gives : (m : Meaning t) (time : ℕ) (s : View t) (g h : Going t) (to : View t) (e : Ending) (sent : Option Transmit) (buffer : List ℕ) → g.batch.made ≡ 0 → g.out ≡ [] → Fills m s g h → IsUnprobed e →
      MayEnd m time e h.now.state h.batch → sent ≡ sent_out e (transmit_with to h.batch) → buffer ≡ bytes_out m time e h.batch h.now h.out → SealsBetween m s g.now (ending_after m time e h.batch h.now) sent buffer
  plain_gives m time s g h to e sent buffer none empty f plain may is_sent is_buffer =
      let end : Unsealed h.now (ending_after m time e h.batch h.now) = holds_unprobed Unsealed unsealed_here unsealed_next (λ x r c k. unsealed_move x r c) m time e h.batch h.now plain may in
      record {
        since = f.since ++ end.since;
        appended = end.appended ∙ ap (λ (ds : List Did). ds ++ end.since) f.appended ∙ append_assoc g.now.did f.since end.since;
        seals = given_so m time s g h end.since to e sent buffer none empty end.none f plain may is_sent is_buffer;
      }

  -- a probe of the path's size is a datagram by itself: what goes before it, and behind it, seals nothing
  begun_unsealed : (m : Meaning t) (time : ℕ) (quiet : Quiet) (b : Batch) (a : At t) → Unsealed a (probe_begun_after m time quiet b a)
  unfolding probe_begun_after held_after
  begun_unsealed m time quiet b a =
      let c : At t = held_after m time quiet b a in
      let d : At t = move_to (Ask «Data») c in
      unsealed_next a c (begun_after «Data» false d) (by_quiet quiet) (unsealed_next c d (begun_after «Data» false d) (unsealed_move (Ask «Data») tt c) (unsealed_same d (begun_after «Data» false d) (begun_deeds «Data» false d)))
    where
      by_quiet : (q : Quiet) → Unsealed a (held_after m time q b a)
      by_quiet Pacing = unsealed_move (Hold _) tt a
      by_quiet NothingOwed = unsealed_here a
      by_quiet Silent = unsealed_here a
      by_quiet Amplification = unsealed_here a
      by_quiet Congestion = unsealed_here a
      by_quiet Killed = unsealed_here a

  -- nothing was sealed before it
  none_filled : (m : Meaning t) (s : View t) (g h : Going t) → g.batch.made ≡ 0 → h.batch.made ≡ 0 → (f : Fills m s g h) → NoneSealed f.since
  none_filled m s g h none still f =
      unsealed_of m s f.since (subst (λ (xs : List (SealedAs t.P)). AreSealedAs m s f.since xs) (ap (λ (xs : List (SealedAs t.P)). xs ++ all_of f.more) (f.none none) ∙ by_more f.more f.sizes) f.told)
    where
      by_more : (more : List (List (SealedAs t.P))) → EndsSo g.batch h.batch (length (coalesced m.seal f.first)) (map (coalesced m.seal) more) → all_of more ≡ []
      by_more [] ends = refl
      by_more (d ∷ ds) ends = absurd (by_all (map (coalesced m.seal) ds) (ends.2 none))
        where
          by_all : (es : List (List ℕ)) → AreAll h.batch (coalesced m.seal d ∷ es) → ⊥
          by_all [] one = omega (arith, one, still)
          by_all (e ∷ es) many = omega (arith, many.0, still)

  probe_gives : (m : Meaning t) (time size : ℕ) (quiet : Quiet) (s : View t) (g h : Going t) (to : View t) (sent : Option Transmit) (buffer : List ℕ) →
      g.batch.made ≡ 0 → SealsBy s h.now.state → Fills m s g h → MayEnd m time (Probed quiet size) h.now.state h.batch → sent ≡ sent_out (Probed quiet size) (transmit_with to h.batch) →
      buffer ≡ bytes_out m time (Probed quiet size) h.batch h.now h.out → SealsBetween m s g.now (ending_after m time (Probed quiet size) h.batch h.now) sent buffer
  unfolding ending_after probed_after probe_sealed transmit_with
  probe_gives m time size quiet s g h to sent buffer none alike f may is_sent is_buffer =
      let tried : At t = tried_after m form.OneRtt h.now in
      let c : At t = probe_begun_after m time quiet h.batch tried in
      let d : At t = sealed_in m time form.OneRtt (probe_frames c.state size) c in
      let e : At t = move_to (Probe time (next_number c.state.numbers «Data») size quiet) d in
      let last : At t = spared_after time (is_key_nearly_used_up c.state form.OneRtt) e in
      let before : Unsealed h.now c = unsealed_next h.now tried c (unsealed_same h.now tried (tried_did m form.OneRtt h.now)) (begun_unsealed m time quiet h.batch tried) in
      let probe : MayProbe m time tried.state h.batch quiet size = subst (λ (v : View t). MayProbe m time v h.batch quiet size) (sym (tried_same m form.OneRtt h.now)) may.0 in
      let fresh : kill_in h.batch tried.state form.OneRtt ≡ None = ap (λ (v : View t). kill_in h.batch v form.OneRtt) (tried_same m form.OneRtt h.now) ∙ may.1 in
      let behind : Unsealed d last = unsealed_next d e last (unsealed_move (Probe time (next_number c.state.numbers «Data») size quiet) tt d)
      (holds_spared Unsealed unsealed_here unsealed_next (λ x r b k. unsealed_move x (untold_sending x r) b) time (is_key_nearly_used_up c.state form.OneRtt) e) in
      let one : SealsProbe m s time size c = seals_probe m time size quiet s h.batch tried (by_tried m s form.OneRtt h.now alike) probe.due fresh in
      let deed : Did = probe_deed size c in
      let since : List Did = f.since ++ (before.since ++ (deed ∷ behind.since)) in
      let quiet_before : NoneSealed f.since = none_filled m s g h none may.0.none f in
      record {
        since = since;
        appended = probe_appended g.now.did f.since before.since behind.since deed h.now.did c.did d.did last.did f.appended before.appended (probe_deeds m time size c) behind.appended;
        seals = subst (λ (o : Option Transmit). SealsGiven m s since o buffer) (sym is_sent)
            (record {
              datagrams = (one.packet ∷ []) ∷ [];
              cut = ap (λ (x : List ℕ). x ∷ []) (is_buffer ∙ one.bytes ∙ sym (append-nil (bytes_as m.seal one.packet)));
              told = none_before m s f.since (before.since ++ (deed ∷ behind.since)) (one.packet ∷ []) quiet_before
                  (none_before m s before.since (deed ∷ behind.since) (one.packet ∷ []) before.none (one.is, none_sealed m s behind.since behind.none));
              arrive = λ fields. ((one.can fields, tt), tt);
            });
      }

  -- a path's datagrams are no larger than a Length field of two bytes tells
  size_small : (s : View t) → path_size s ≤ 16383
  unfolding most_on
  size_small s = held_small (if s.paths.current.validated then s.paths.current.kept.mtud.current else min s.paths.current.first_mtu s.paths.current.kept.mtud.current)

  pub transmit_gives : (m : Meaning t) → ((key : t.P) (number : ℕ) (header plain : List ℕ) → length (m.seal key number header plain) ≡ length plain + 16) → (time asked : ℕ) (choice : Choice) (s : View t) (a b : At t) (sent : Option Transmit) (buffer : List ℕ) →
      SealsAlike s a.state → MayTransmit m time asked choice a → b ≡ transmit_after m time asked choice a → sent ≡ transmit_of m time asked choice a → buffer ≡ transmit_bytes m time asked choice a → SealsBetween m s a b sent buffer
  unfolding MayTransmit transmit_after transmit_of transmit_bytes gone_after
  transmit_gives m size time asked choice s a b sent buffer alike may leads is_sent is_buffer =
      let g : Going t = going_from asked a in
      let h : Going t = packets_after m time choice.packets g in
      let f : Fills m s g h = fills m size time s choice.packets g (by_begun s a.state alike) (begun_small a.state.waiting.close_owed a.state.setup.fixed.pads (most_of a.state asked) (path_size a.state) (least_on a.state.paths.current) (size_small a.state)) may.0 in
      let begun : SealsBy s a.state = by_begun s a.state alike in
      let behind : SealsBy s h.now.state = packets_by m time s choice.packets g begun may.0 in
      subst (λ (x : At t). SealsBetween m s a x sent buffer) (sym leads) (by_ending choice.ending f behind may.1 is_sent is_buffer)
    where
      by_ending : (e : Ending) → let g : Going t = going_from asked a in let h : Going t = packets_after m time choice.packets g in Fills m s g h → SealsBy s h.now.state → MayEnd m time e h.now.state h.batch →
          sent ≡ sent_out e (transmit_with a.state h.batch) → buffer ≡ bytes_out m time e h.batch h.now h.out → SealsBetween m s a (ending_after m time e h.batch h.now) sent buffer
      by_ending (Probed quiet n) f behind may so out = probe_gives m time n quiet s (going_from asked a) (packets_after m time choice.packets (going_from asked a)) a.state sent buffer refl behind f may so out
      by_ending Went f behind may so out = plain_gives m time s (going_from asked a) (packets_after m time choice.packets (going_from asked a)) a.state Went sent buffer refl refl f tt may so out
      by_ending Held f behind may so out = plain_gives m time s (going_from asked a) (packets_after m time choice.packets (going_from asked a)) a.state Held sent buffer refl refl f tt may so out
      by_ending (Hushed quiet) f behind may so out = plain_gives m time s (going_from asked a) (packets_after m time choice.packets (going_from asked a)) a.state (Hushed quiet) sent buffer refl refl f tt may so out
      by_ending (Died f' why) f behind may so out = plain_gives m time s (going_from asked a) (packets_after m time choice.packets (going_from asked a)) a.state (Died f' why) sent buffer refl refl f tt may so out
