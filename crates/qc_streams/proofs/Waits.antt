-- Exactly those streams wait on which a write was blocked and that have credit: what one change leaves of that
use Rattle.std.proofs.Common.{◌≡◌, ◌∙◌, ℕ, ◌==◌, Bool, true, false, cond, not, ◌&&◌, ◌||◌, nat_le, Option, None, Some, is_some, ap, sym, subst, refl}
use Rattle.std.proofs.lemmas.Bool.{false≢true}
use Rattle.std.specs.Option.{option_map}
use Rattle.qc_send_stream.specs.Buffer.{has_bytes}
use Rattle.qc_send_stream.specs.declared.send.Reset.{Reset}
use Rattle.qc_send_stream.specs.declared.send.SendPart.{SendPart}
use Rattle.qc_send_stream.specs.declared.send.Standing.{Standing}
use Rattle.qc_send_stream.specs.Sending.{done_with, end_acked, is_closed, is_done, was_blocked}
use Rattle.qc_streams.specs.declared.stream.Stream.{Stream}
use Rattle.qc_streams.specs.Blocked.{BlockedIds, with_blocked, without_blocked}
use Rattle.qc_streams.specs.Calls.{if_known}
use Rattle.qc_streams.specs.Lending.{AllRecords}
use Rattle.qc_streams.specs.Records.{changed, on_some, record_of, with_new, without}
use Rattle.qc_streams.specs.Stream.{has_ended, is_over, receiving_over, sending_over, with_sending}
use Rattle.qc_streams.specs.Waits.{waits_at}
use Rattle.qc_streams.specs.Writable.{awaits, awaits_at, credit_at, credit_of, has_credit}
use Rattle.qc_streams.proofs.Keyed.{Ascends, ascends_gone, ascends_new, ascends_set, gone_here, gone_other, new_here, new_other, same_id, set_alike, set_here, set_other}

-- streams and those of them that wait, where `opened` says which were opened
pub record Sound (opened : ℕ → Bool) (all : AllRecords) (ids : BlockedIds) : Type 0 where
  pub waits : (j : ℕ) → waits_at j ids ≡ awaits_at (record_of j all)
  pub set : Ascends ids
  pub order : Ascends all
  pub known : (j : ℕ) → is_some (record_of j all) ≡ true → opened j ≡ true

-- the same, but for one stream
pub record SoundBut (id : ℕ) (opened : ℕ → Bool) (all : AllRecords) (ids : BlockedIds) : Type 0 where
  pub waits : (j : ℕ) → (id == j) ≡ false → waits_at j ids ≡ awaits_at (record_of j all)
  pub set : Ascends ids
  pub order : Ascends all
  pub known : (j : ℕ) → is_some (record_of j all) ≡ true → opened j ≡ true

-- it holds of that one too
pub close : (id : ℕ) (op : ℕ → Bool) (all : AllRecords) (ids : BlockedIds) → SoundBut id op all ids → waits_at id ids ≡ awaits_at (record_of id all) → Sound op all ids
close id op all ids h here = record { waits = λ j. by j (id == j) refl; set = h.set; order = h.order; known = h.known }
  where
    by : (j : ℕ) (b : Bool) → (id == j) ≡ b → waits_at j ids ≡ awaits_at (record_of j all)
    by j true is = subst (λ (k : ℕ). waits_at k ids ≡ awaits_at (record_of k all)) (same_id id j is) here
    by j false is = h.waits j is

pub weaken : (id : ℕ) (op : ℕ → Bool) (all : AllRecords) (ids : BlockedIds) → Sound op all ids → SoundBut id op all ids
weaken id op all ids h = record { waits = λ j apart. h.waits j; set = h.set; order = h.order; known = h.known }

-- more streams were opened
pub raise : (op op' : ℕ → Bool) (all : AllRecords) (ids : BlockedIds) → ((j : ℕ) → op j ≡ true → op' j ≡ true) → Sound op all ids → Sound op' all ids
raise op op' all ids more h = record { waits = h.waits; set = h.set; order = h.order; known = λ j there. more j (h.known j there) }

-- ---- a stream changes

alike-in : (f : Stream → Stream) → ((st : Stream) → awaits (f st).sending ≡ awaits st.sending) → (op : ℕ → Bool) (id : ℕ) (all : AllRecords) (ids : BlockedIds) (o : Option Stream)
    → record_of id all ≡ o → Sound op all ids → Sound op (on_some f id o all) ids
alike-in f same op id all ids None is h = h
alike-in f same op id all ids (Some st) is h = record {
  waits = λ j. h.waits j ∙ sym (set_alike (λ (o : Option Stream). awaits_at o) id j all st (f st) is (same st));
  set = h.set;
  order = ascends_set id all (f st) h.order;
  known = λ j there. h.known j (sym (set_alike (λ (o : Option Stream). is_some o) id j all st (f st) is refl) ∙ there);
}

-- it waits as before
pub alike : (f : Stream → Stream) → ((st : Stream) → awaits (f st).sending ≡ awaits st.sending) → (op : ℕ → Bool) (id : ℕ) (all : AllRecords) (ids : BlockedIds)
    → Sound op all ids → Sound op (changed f id all) ids
alike f same op id all ids h = alike-in f same op id all ids (record_of id all) refl h

but-in : (f : Stream → Stream) (op : ℕ → Bool) (id : ℕ) (all : AllRecords) (ids : BlockedIds) (o : Option Stream)
    → record_of id all ≡ o → Sound op all ids → SoundBut id op (on_some f id o all) ids
but-in f op id all ids None is h = record { waits = λ j apart. h.waits j; set = h.set; order = h.order; known = h.known }
but-in f op id all ids (Some st) is h = record {
  waits = λ j apart. h.waits j ∙ sym (ap (λ (o : Option Stream). awaits_at o) (set_other id j all (f st) apart));
  set = h.set;
  order = ascends_set id all (f st) h.order;
  known = λ j there. h.known j (sym (set_alike (λ (o : Option Stream). is_some o) id j all st (f st) is refl) ∙ there);
}

changed_but : (f : Stream → Stream) (op : ℕ → Bool) (id : ℕ) (all : AllRecords) (ids : BlockedIds) → Sound op all ids → SoundBut id op (changed f id all) ids
changed_but f op id all ids h = but-in f op id all ids (record_of id all) refl h

with_but : (id : ℕ) (op : ℕ → Bool) (all : AllRecords) (ids : BlockedIds) → SoundBut id op all ids → SoundBut id op all (with_blocked id ids)
with_but id op all ids h = record {
  waits = λ j apart. ap (λ (o : Option ℕ). is_some o) (new_other id j ids id apart) ∙ h.waits j apart;
  set = ascends_new id ids id h.set;
  order = h.order;
  known = h.known;
}

without_but : (id : ℕ) (op : ℕ → Bool) (all : AllRecords) (ids : BlockedIds) → SoundBut id op all ids → SoundBut id op all (without_blocked id ids)
without_but id op all ids h = record {
  waits = λ j apart. ap (λ (o : Option ℕ). is_some o) (gone_other id j ids apart) ∙ h.waits j apart;
  set = ascends_gone id ids h.set;
  order = h.order;
  known = h.known;
}

in_set : (id : ℕ) (ids : BlockedIds) → waits_at id (with_blocked id ids) ≡ true
in_set id ids = ap (λ (o : Option ℕ). is_some o) (new_here id ids id)

out_set : (id : ℕ) (ids : BlockedIds) → Ascends ids → waits_at id (without_blocked id ids) ≡ false
out_set id ids asc = ap (λ (o : Option ℕ). is_some o) (gone_here id ids asc)

here-in : (f : Stream → Stream) (id : ℕ) (all : AllRecords) (o : Option Stream) → record_of id all ≡ o → record_of id (on_some f id o all) ≡ option_map f o
here-in f id all None is = is
here-in f id all (Some st) is = set_here id all st (f st) is

-- what the stream is then
pub here : (f : Stream → Stream) (id : ℕ) (all : AllRecords) → record_of id (changed f id all) ≡ option_map f (record_of id all)
here f id all = here-in f id all (record_of id all) refl

-- ---- without credit no stream waits

none-and : (b c : Bool) → c ≡ false → (b && c) ≡ false
none-and true c is = is
none-and false c is = refl

part_needs : (o : Option SendPart) → credit_of o ≡ false → awaits o ≡ false
part_needs None is = refl
part_needs (Some p) is = none-and p.blocked (has_credit p) is

needs : (o : Option Stream) → credit_at o ≡ false → awaits_at o ≡ false
needs None is = refl
needs (Some st) is = part_needs st.sending is

ended-end : (end : Option Standing) (none : Bool) → (end_acked end && none) ≡ true → is_some end ≡ true
ended-end None none is = absurd (cc)
ended-end (Some x) none is = refl

pub or-right : (b c : Bool) → c ≡ true → (b || c) ≡ true
or-right true c is = refl
or-right false c is = is

pub or-left : (b c : Bool) → b ≡ true → (b || c) ≡ true
or-left true c is = refl
or-left false c is = absurd (cc)

ended-with : (r : Option Reset) (end : Option Standing) (none : Bool) → done_with r (end_acked end && none) ≡ true → (is_some end || is_some r) ≡ true
ended-with None end none is = or-left (is_some end) false (ended-end end none is)
ended-with (Some r) end none is = or-right (is_some end) true refl

pub done_closed : (p : SendPart) → is_done p ≡ true → is_closed p ≡ true
unfolding is_done is_closed
done_closed p is = ended-with p.reset p.end (not (has_bytes p.buffer.kept)) is

pub no_credit_closed : (p : SendPart) → is_closed p ≡ true → has_credit p ≡ false
unfolding has_credit
no_credit_closed p is = ap (λ (b : Bool). not b) (or-left (is_closed p) (nat_le p.limit p.buffer.written) is)

done_lacks : (p : SendPart) → is_done p ≡ true → has_credit p ≡ false
done_lacks p is = no_credit_closed p (done_closed p is)

over-part : (o : Option SendPart) → sending_over o ≡ true → awaits o ≡ false
over-part None is = refl
over-part (Some p) is = none-and p.blocked (has_credit p) (done_lacks p is)

and-right : (b c : Bool) → (b && c) ≡ true → c ≡ true
and-right true c is = is
and-right false c is = absurd (cc)

-- a stream that has ended doesn't wait
pub ended_not : (o : Option Stream) → has_ended o ≡ true → awaits_at o ≡ false
unfolding is_over
ended_not None is = refl
ended_not (Some st) is = over-part st.sending (and-right (receiving_over st.receiving) (sending_over st.sending) is)

-- ---- a stream that was finished or reset, or has no credit left, leaves the set

pass-credit : (b : Bool) (op : ℕ → Bool) (id : ℕ) (all : AllRecords) (ids : BlockedIds) → SoundBut id op all ids → credit_at (record_of id all) ≡ b
    → (b ≡ true → waits_at id ids ≡ awaits_at (record_of id all)) → Sound op all (cond b ids (without_blocked id ids))
pass-credit true op id all ids h is stays = close id op all ids h (stays refl)
pass-credit false op id all ids h is stays =
    close id op all (without_blocked id ids) (without_but id op all ids h) (out_set id ids h.set ∙ sym (needs (record_of id all) is))

stays-in : (f : Stream → Stream) → ((st : Stream) → credit_of (f st).sending ≡ true → awaits (f st).sending ≡ awaits st.sending)
    → (o : Option Stream) → credit_at (option_map f o) ≡ true → awaits_at o ≡ awaits_at (option_map f o)
stays-in f same None is = refl
stays-in f same (Some st) is = sym (same st is)

pub pass : (f : Stream → Stream) → ((st : Stream) → credit_of (f st).sending ≡ true → awaits (f st).sending ≡ awaits st.sending)
    → (op : ℕ → Bool) (id : ℕ) (all : AllRecords) (ids : BlockedIds) → Sound op all ids
    → Sound op (changed f id all) (cond (credit_at (record_of id (changed f id all))) ids (without_blocked id ids))
pass f same op id all ids h =
    pass-credit (credit_at (record_of id (changed f id all))) op id (changed f id all) ids (changed_but f op id all ids h) refl
    (λ is. h.waits id ∙ stays-in f same (record_of id all) (ap (λ (o : Option Stream). credit_at o) (sym (here f id all)) ∙ is)
    ∙ ap (λ (o : Option Stream). awaits_at o) (sym (here f id all)))

-- ---- a write is blocked

block-part : (d : Bool) (p : SendPart) → is_done p ≡ d → awaits (Some (cond d p (was_blocked p))) ≡ has_credit p
unfolding was_blocked has_credit is_closed
block-part true p is = none-and p.blocked (has_credit p) (done_lacks p is) ∙ sym (done_lacks p is)
block-part false p is = refl

block-of : (o : Option SendPart) → awaits (option_map (if_known was_blocked) o) ≡ credit_of o
block-of None = refl
block-of (Some p) = block-part (is_done p) p refl

block-at : (o : Option Stream) → awaits_at (option_map (with_sending (if_known was_blocked)) o) ≡ credit_at o
unfolding with_sending
block-at None = refl
block-at (Some st) = block-of st.sending

still-credit : (b : Bool) (op : ℕ → Bool) (id : ℕ) (all : AllRecords) (ids : BlockedIds) → SoundBut id op all ids → awaits_at (record_of id all) ≡ b
    → Sound op all (cond b (with_blocked id ids) (without_blocked id ids))
still-credit true op id all ids h is = close id op all (with_blocked id ids) (with_but id op all ids h) (in_set id ids ∙ sym is)
still-credit false op id all ids h is = close id op all (without_blocked id ids) (without_but id op all ids h) (out_set id ids h.set ∙ sym is)

pub blocked_still : (op : ℕ → Bool) (id : ℕ) (all : AllRecords) (ids : BlockedIds) → Sound op all ids
    → Sound op (changed (with_sending (if_known was_blocked)) id all)
    (cond (credit_at (record_of id all)) (with_blocked id ids) (without_blocked id ids))
blocked_still op id all ids h =
    still-credit (credit_at (record_of id all)) op id (changed (with_sending (if_known was_blocked)) id all) ids
    (changed_but (with_sending (if_known was_blocked)) op id all ids h)
    (ap (λ (o : Option Stream). awaits_at o) (here (with_sending (if_known was_blocked)) id all) ∙ block-at (record_of id all))

-- ---- it is told that a stream can be written on again

pub told : (f : Stream → Stream) → ((st : Stream) → awaits (f st).sending ≡ false) → (op : ℕ → Bool) (id : ℕ) (all : AllRecords) (ids : BlockedIds) → Sound op all ids
    → Sound op (changed f id all) (without_blocked id ids)
told f none op id all ids h =
    close id op (changed f id all) (without_blocked id ids) (without_but id op (changed f id all) ids (changed_but f op id all ids h))
    (out_set id ids h.set ∙ sym (ap (λ (o : Option Stream). awaits_at o) (here f id all) ∙ by (record_of id all)))
  where
    by : (o : Option Stream) → awaits_at (option_map f o) ≡ false
    by None = refl
    by (Some st) = none st

-- ---- the peer gives a stream credit

pub watch-in : (b : Bool) (op : ℕ → Bool) (id : ℕ) (all : AllRecords) (ids : BlockedIds) → SoundBut id op all ids → awaits_at (record_of id all) ≡ b
    → (b ≡ false → waits_at id ids ≡ false) → Sound op all (cond b (with_blocked id ids) ids)
watch-in true op id all ids h is before = close id op all (with_blocked id ids) (with_but id op all ids h) (in_set id ids ∙ sym is)
watch-in false op id all ids h is before = close id op all ids h (before refl ∙ sym is)

pub watch : (f : Stream → Stream) → ((st : Stream) → awaits (f st).sending ≡ false → awaits st.sending ≡ false)
    → (op : ℕ → Bool) (id : ℕ) (all : AllRecords) (ids : BlockedIds) → Sound op all ids
    → Sound op (changed f id all) (cond (awaits_at (record_of id (changed f id all))) (with_blocked id ids) ids)
watch f back op id all ids h =
    watch-in (awaits_at (record_of id (changed f id all))) op id (changed f id all) ids (changed_but f op id all ids h) refl
    (λ is. h.waits id ∙ by (record_of id all) (ap (λ (o : Option Stream). awaits_at o) (sym (here f id all)) ∙ is))
  where
    by : (o : Option Stream) → awaits_at (option_map f o) ≡ false → awaits_at o ≡ false
    by None is = refl
    by (Some st) is = back st is

-- ---- a stream comes, or leaves

absent : (o : Option Stream) → (is_some o ≡ true → false ≡ true) → o ≡ None
absent None only = refl
absent (Some st) only = absurd (false≢true (only refl))

-- one that wasn't opened isn't there
pub unopened : (op : ℕ → Bool) (id : ℕ) (all : AllRecords) (ids : BlockedIds) → Sound op all ids → op id ≡ false → record_of id all ≡ None
unopened op id all ids h is = absent (record_of id all) (λ there. sym is ∙ h.known id there)

pub comes : (op op' : ℕ → Bool) (id : ℕ) (st : Stream) (all : AllRecords) (ids : BlockedIds) → ((j : ℕ) → op j ≡ true → op' j ≡ true) → op' id ≡ true
    → record_of id all ≡ None → awaits st.sending ≡ false → Sound op all ids → Sound op' (with_new id st all) ids
comes op op' id st all ids more new gone none h = record {
  waits = λ j. h.waits j ∙ wait j (id == j) refl;
  set = h.set;
  order = ascends_new id all st h.order;
  known = λ j there. know j (id == j) refl there;
}
  where
    wait : (j : ℕ) (b : Bool) → (id == j) ≡ b → awaits_at (record_of j all) ≡ awaits_at (record_of j (with_new id st all))
    wait j true is =
        subst (λ (k : ℕ). awaits_at (record_of k all) ≡ awaits_at (record_of k (with_new id st all))) (same_id id j is)
        (ap (λ (o : Option Stream). awaits_at o) gone ∙ sym none ∙ ap (λ (o : Option Stream). awaits_at o) (sym (new_here id all st)))
    wait j false is = ap (λ (o : Option Stream). awaits_at o) (sym (new_other id j all st is))

    know : (j : ℕ) (b : Bool) → (id == j) ≡ b → is_some (record_of j (with_new id st all)) ≡ true → op' j ≡ true
    know j true is there = subst (λ (k : ℕ). op' k ≡ true) (same_id id j is) new
    know j false is there = more j (h.known j (ap (λ (o : Option Stream). is_some o) (sym (new_other id j all st is)) ∙ there))

pub leaves : (op : ℕ → Bool) (id : ℕ) (all : AllRecords) (ids : BlockedIds) → awaits_at (record_of id all) ≡ false → Sound op all ids → Sound op (without id all) ids
leaves op id all ids none h = record {
  waits = λ j. h.waits j ∙ wait j (id == j) refl;
  set = h.set;
  order = ascends_gone id all h.order;
  known = λ j there. know j (id == j) refl there;
}
  where
    wait : (j : ℕ) (b : Bool) → (id == j) ≡ b → awaits_at (record_of j all) ≡ awaits_at (record_of j (without id all))
    wait j true is =
        subst (λ (k : ℕ). awaits_at (record_of k all) ≡ awaits_at (record_of k (without id all))) (same_id id j is)
        (none ∙ ap (λ (o : Option Stream). awaits_at o) (sym (gone_here id all h.order)))
    wait j false is = ap (λ (o : Option Stream). awaits_at o) (sym (gone_other id j all is))

    know : (j : ℕ) (b : Bool) → (id == j) ≡ b → is_some (record_of j (without id all)) ≡ true → op j ≡ true
    know j true is there =
        absurd (false≢true (subst (λ (k : ℕ). is_some (record_of k (without id all)) ≡ true → false ≡ true) (same_id id j is)
        (λ there. ap (λ (o : Option Stream). is_some o) (sym (gone_here id all h.order)) ∙ there) there))
    know j false is there = h.known j (ap (λ (o : Option Stream). is_some o) (sym (gone_other id j all is)) ∙ there)
