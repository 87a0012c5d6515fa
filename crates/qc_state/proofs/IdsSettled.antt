-- What frames about connection ids leave that are lost: one frame more, PADDING at the end, one packet more.
use Rattle.std.proofs.Common.{◌≡◌, ℕ, zero, suc, ◌+◌, ◌<◌, ◌≤◌, List, [], ◌∷◌, ◌++◌, length, drop, get_or, replicate, refl, ap, sym, ◌∙◌, add-one, arith}
use Rattle.qc_cids.specs.Steps.{Step, after, after_step}
use Rattle.qc_cids.specs.declared.connection_ids.ConnectionIds.{ConnectionIds}
use Rattle.qc_flight.specs.Packets.{Entry}
use Rattle.qc_frame.specs.Frame.{FrameValue}
use Rattle.qc_frame.specs.declared.frames.FrameOf.TheVariants.{Padding}
use Rattle.qc_state.specs.Ids.{lost_cid, lost_cids, lost_ids}

-- what joined steps leave
pub after_append : (xs ys : List Step) (s : ConnectionIds) → after (xs ++ ys) s ≡ after ys (after xs s)
unfolding after
after_append [] ys s = refl
after_append (x ∷ xs) ys s = after_append xs ys (after_step x s)

-- PADDING is no frame about them
lost_padding : (n : ℕ) → lost_cids (replicate n Padding) ≡ []
unfolding lost_cids
lost_padding zero = refl
lost_padding (suc n) = lost_padding n

pub lost_padded : (fs : List FrameValue) (n : ℕ) → lost_cids (fs ++ replicate n Padding) ≡ lost_cids fs
unfolding lost_cids
lost_padded [] n = lost_padding n
lost_padded (f ∷ fs) n = ap (λ (xs : List Step). lost_cid f ++ xs) (lost_padded fs n)

-- one frame more
pub lost_more : (f : FrameValue) (fs : List FrameValue) (s : ConnectionIds) → after (lost_cids fs) (after (lost_cid f) s) ≡ after (lost_cids (f ∷ fs)) s
unfolding lost_cids
lost_more f fs s = sym (after_append (lost_cid f) (lost_cids fs) s)

-- no packet is left
drop_all : (es : List Entry) (place : ℕ) → length es ≤ place → drop place es ≡ []
drop_all [] zero le = refl
drop_all [] (suc place) le = refl
drop_all (x ∷ es) zero le = absurd (omega arith)
drop_all (x ∷ es) (suc place) le = drop_all es place (omega arith)

pub packets_none : (es : List Entry) (place : ℕ) (s : ConnectionIds) → length es ≤ place → after (lost_ids (drop place es)) s ≡ s
unfolding after lost_ids
packets_none es place s le = ap (λ (ds : List Entry). after (lost_ids ds) s) (drop_all es place le)

-- one packet more
packets_suc : (es : List Entry) (place : ℕ) (e : Entry) (s : ConnectionIds) → e ≡ get_or es place e → place < length es →
    after (lost_ids (drop (suc place) es)) (after (lost_cids e.1.frames) s) ≡ after (lost_ids (drop place es)) s
unfolding lost_ids
packets_suc [] place e s is within = absurd (omega arith)
packets_suc (x ∷ es) zero e s is within = ap (λ (y : Entry). after (lost_ids es) (after (lost_cids y.1.frames) s)) is ∙ sym (after_append (lost_cids x.1.frames) (lost_ids es) s)
packets_suc (x ∷ es) (suc place) e s is within = packets_suc es place e s is (omega arith)

pub packets_more : (es : List Entry) (place : ℕ) (e : Entry) (s : ConnectionIds) → e ≡ get_or es place e → place < length es →
    after (lost_ids (drop (place + 1) es)) (after (lost_cids e.1.frames) s) ≡ after (lost_ids (drop place es)) s
packets_more es place e s is within = rw add-one (packets_suc es place e s is within)
