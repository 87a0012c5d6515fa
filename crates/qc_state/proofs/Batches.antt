-- What a packet makes of the batch of a transmit.
use Rattle.std.proofs.Common.{◌≡◌, ℕ, ◌<◌, ◌≤◌, refl, sym, subst, Bool, true, false, arith, ◌==◌, not, if◌then◌else◌}
use Rattle.std.specs.Prelude.{◌&&◌, nat_lt}
use Rattle.std.proofs.lemmas.Bool.Decides.{nat_tests}
use Rattle.qc_state.specs.declared.transmit.Batch.{Batch}
use Rattle.qc_state.specs.Forms.{number_space}
use Rattle.qc_state.specs.declared.form.Form.{Form}
use Rattle.qc_state.specs.Batches.{batch_grown, batch_opened, next_segment, takes_another}
use Rattle.qc_state.specs.Sending.{Going, MayFollow, MayStand, Sent, packet_after, begun_batch}
use Rattle.qc_state.specs.Types.{Types, Meaning}
use Rattle.qc_state.specs.View.{View}
use Rattle.qc_state.specs.Spaces.{space_of}

-- the first datagram may have what the path takes
next_by : (b : Bool) (made filled segment : ℕ) → (made == 1) ≡ b → made ≡ 0 → (if b then filled else segment) ≡ segment
next_by true made filled segment is none = absurd (one_is made none is)
  where
    one_is : (n : ℕ) → n ≡ 0 → (n == 1) ≡ true → ⊥
    one_is n e h = grind (arith, nat_tests)
next_by false made filled segment is none = refl

pub next_first : (b : Batch) → b.made ≡ 0 → next_segment b ≡ b.segment
next_first b none = next_by (b.made == 1) b.made b.filled b.segment refl none

-- a datagram that is begun may have no more bytes than the next one may
pub opened_most : (b : Batch) (probes : Bool) → (batch_opened true probes b).capacity ≤ next_segment b
unfolding batch_opened
opened_most b true = omega arith
opened_most b false = omega arith

-- and nothing is in it
pub opened_filled : (b : Batch) (probes : Bool) → (batch_opened true probes b).filled ≡ 0
unfolding batch_opened
opened_filled b probes = refl

pub opened_total : (b : Batch) (opens probes : Bool) → (batch_opened opens probes b).total ≡ b.total
unfolding batch_opened
opened_total b true probes = refl
opened_total b false probes = refl

opened_made : (b : Batch) (opens probes : Bool) → (opens ≡ false → 0 < b.made) → 0 < (batch_opened opens probes b).made
unfolding batch_opened
opened_made b true probes some = omega arith
opened_made b false probes some = some refl

grown_made : (form : Form) (number size padding : ℕ) (fills nearly : Bool) (b : Batch) → (batch_grown form number size padding fills nearly b).made ≡ b.made
unfolding batch_grown
grown_made form number size padding fills nearly b = refl

-- where a packet joins a datagram, one was begun
first_of_both : (a b : Bool) → (a && b) ≡ true → a ≡ true
first_of_both true b h = refl
first_of_both false b h = cc

some_by : (n : ℕ) → nat_lt 0 n ≡ true → 0 < n
some_by n h = grind (arith, nat_tests)

pub joins_some : (b : Batch) → takes_another b ≡ true → 0 < b.made
joins_some b h = some_by b.made (first_of_both (nat_lt 0 b.made) _ h)

module _ {t : Types} where
  stands_some : (m : Meaning t) (time : ℕ) (s : View t) (b : Batch) (p : Sent) (opens : Bool) → MayStand m time s b (number_space p.form) opens → opens ≡ false → 0 < b.made
  stands_some m time s b p true may h = cc
  stands_some m time s b p false may h = joins_some b may

  -- the first packet of a transmit begins a datagram
  pub first_opens : (m : Meaning t) (time : ℕ) (s : View t) (b : Batch) (p : Sent) → MayFollow m time s b p → b.made ≡ 0 → p.opens ≡ true
  first_opens m time s b p may none = opens_by p.opens refl
    where
      opens_by : (o : Bool) → p.opens ≡ o → p.opens ≡ true
      opens_by true e = e
      opens_by false e = absurd (omega (arith, none, stands_some m time s b p p.opens may.begins.place e))

  -- behind a packet there is a datagram
  pub packet_made : (m : Meaning t) (time : ℕ) (p : Sent) (g : Going t) → MayFollow m time g.now.state g.batch p → 0 < (packet_after m time p g).batch.made
  unfolding packet_after begun_batch
  packet_made m time p g may =
      let probes : Bool = not ((space_of g.now.state.waiting.spaces (number_space p.form)).probes == 0) in
      subst (λ (n : ℕ). 0 < n) (sym (grown_made p.form _ _ _ _ _ (batch_opened p.opens probes g.batch)))
      (opened_made g.batch p.opens probes (stands_some m time g.now.state g.batch p p.opens may.begins.place))
