-- Packets that are sealed one behind the other, and the update that is tried before each.
use Rattle.std.proofs.Common.{◌≡◌, ℕ, List, [], ◌∷◌, ◌++◌, refl, ap, sym, ◌∙◌, subst, Bool, Option, Some, None}
use Rattle.qc_base.specs.declared.side.SpaceId.{SpaceId}
use Rattle.qc_send.specs.declared.joining.Further.{Further}
use Rattle.qc_send.specs.declared.joining.Further.TheVariants as further
use Rattle.qc_send.specs.declared.sending.Dying.{Dying}
use Rattle.qc_send.specs.declared.sending.Next.{Next}
use Rattle.qc_send.specs.declared.sending.Next.TheVariants as next
use Rattle.qc_send.specs.declared.sending.Outcome.{Outcome}
use Rattle.qc_send.specs.declared.sending.Outcome.TheVariants as outcome
use Rattle.qc_send.specs.Ending.{SendsUpTo, form_dying, next_dying, outcome_dying}
use Rattle.qc_send.specs.Joining.{follows, outcome_of}
use Rattle.qc_state.specs.declared.form.Form.{Form}
use Rattle.qc_state.specs.declared.transmit.Batch.{Batch}
use Rattle.qc_state.specs.Sending.{Going, MayAll, MayFollow, SendsAll, SendsOne, Sent, going, going_tried, packet_after, packets_after}
use Rattle.qc_state.specs.Types.{Types, Meaning}
use Rattle.qc_state.specs.Updating.{tried_after}
use Rattle.qc_state.specs.View.{At}

module _ {t : Types} (m : Meaning t) (time : ℕ) where
  -- what joined lists leave
  after_append : (ps qs : List Sent) (g : Going t) → packets_after m time (ps ++ qs) g ≡ packets_after m time qs (packets_after m time ps g)
  after_append [] qs g = refl
  after_append (p ∷ ps) qs g = after_append ps qs (packet_after m time p (going_tried m p.form g))

  all_append : (ps qs : List Sent) (g : Going t) → MayAll m time g ps → MayAll m time (packets_after m time ps g) qs → MayAll m time g (ps ++ qs)
  all_append [] qs g h k = k
  all_append (p ∷ ps) qs g h k = (h.0, all_append ps qs (packet_after m time p (going_tried m p.form g)) h.1 k)

  -- none, one, and those of two lists
  pub sends_none : (g : Going t) → SendsAll m time g g
  sends_none g = record { packets = []; may = tt; leads = refl }

  sends_one : (form : Form) (g h : Going t) → SendsOne m time form (going_tried m form g) h → SendsAll m time g h
  sends_one form g h s = record {
    packets = s.packet ∷ [];
    may = (subst (λ (f : Form). let tried : Going t = going_tried m f g in MayFollow m time tried.now.state tried.batch s.packet) (sym s.same) s.may, tt);
    leads = s.leads ∙ ap (λ (f : Form). packet_after m time s.packet (going_tried m f g)) (sym s.same);
  }

  pub sends_tried : (form : Form) (a b : At t) (batch : Batch) (out : List ℕ) (h : Going t) → b ≡ tried_after m form a → SendsOne m time form (going b batch out) h → SendsAll m time (going a batch out) h
  sends_tried form a b batch out h is s = sends_one form (going a batch out) h (subst (λ (x : At t). SendsOne m time form (going x batch out) h) is s)

  pub sends_join : (g h k : Going t) → SendsAll m time g h → SendsAll m time h k → SendsAll m time g k
  sends_join g h k s r = record {
    packets = s.packets ++ r.packets;
    may = all_append s.packets r.packets g s.may (subst (λ (x : Going t). MayAll m time x r.packets) s.leads r.may);
    leads = r.leads ∙ ap (λ (x : Going t). packets_after m time r.packets x) s.leads ∙ sym (after_append s.packets r.packets g);
  }

  -- ---- up to a moment at which the connection is about to end, or isn't

  pub up_none : (g h : Going t) → SendsAll m time g h → SendsUpTo m time None g h
  up_none g h s = record { last = h; sends = s; leads = refl }

  up_all : (g h : Going t) → SendsUpTo m time None g h → SendsAll m time g h
  up_all g h s = subst (λ (x : Going t). SendsAll m time g x) (sym s.leads) s.sends

  -- a packet was to begin that can't
  pub up_dies : (form : Form) (a b : At t) (batch : Batch) (out : List ℕ) → b ≡ tried_after m form a → SendsUpTo m time (Some form) (going a batch out) (going b batch out)
  up_dies form a b batch out is = record { last = going a batch out; sends = sends_none (going a batch out); leads = ap (λ (x : At t). going x batch out) is }

  pub up_join : (dying : Option Form) (g h k : Going t) → SendsAll m time g h → SendsUpTo m time dying h k → SendsUpTo m time dying g k
  up_join dying g h k s r = record { last = r.last; sends = sends_join g h r.last s r.sends; leads = r.leads }

  -- by what follows a packet
  by_follows : (o : Option SpaceId) → next_dying (follows o) ≡ None
  by_follows None = refl
  by_follows (Some id) = refl

  pub up_follows : (o : Option SpaceId) (found : Next) (g h : Going t) → found ≡ follows o → SendsAll m time g h → SendsUpTo m time (next_dying found) g h
  up_follows o found g h is s = subst (λ (x : Option Form). SendsUpTo m time x g h) (sym (ap next_dying is ∙ by_follows o)) (up_none g h s)

  pub up_joins : (found : Next) (id : SpaceId) (g h : Going t) → found ≡ next.Joins id → SendsUpTo m time (next_dying found) g h → SendsAll m time g h
  up_joins found id g h is s = up_all g h (subst (λ (x : Next). SendsUpTo m time (next_dying x) g h) is s)

  pub up_full : (found : Next) (g h : Going t) → found ≡ next.Full → SendsUpTo m time (next_dying found) g h → SendsAll m time g h
  up_full found g h is s = up_all g h (subst (λ (x : Next). SendsUpTo m time (next_dying x) g h) is s)

  pub up_ends : (found : Next) (dying : Dying) (g h : Going t) → found ≡ next.Dies dying → SendsUpTo m time (next_dying found) g h → SendsUpTo m time (Some dying.form) g h
  up_ends found dying g h is s = subst (λ (x : Next). SendsUpTo m time (next_dying x) g h) is s

  -- by what a datagram comes to
  pub up_filled : (dies : Option Dying) (dying : Dying) (g h : Going t) → dies ≡ Some dying → SendsUpTo m time (form_dying dies) g h → SendsUpTo m time (Some dying.form) g h
  up_filled dies dying g h is s = subst (λ (x : Option Dying). SendsUpTo m time (form_dying x) g h) is s

  by_outcome : (found : Further) → outcome_dying (outcome_of found) ≡ None
  by_outcome (further.Begins id) = refl
  by_outcome further.Paced = refl
  by_outcome further.Ends = refl
  by_outcome further.Passes = refl

  pub up_outcome : (dies : Option Dying) (found : Further) (o : Outcome) (g h : Going t) → dies ≡ None → o ≡ outcome_of found → SendsUpTo m time (form_dying dies) g h → SendsUpTo m time (outcome_dying o) g h
  up_outcome dies found o g h none is s = subst (λ (x : Option Form). SendsUpTo m time x g h) (ap form_dying none ∙ sym (ap outcome_dying is ∙ by_outcome found)) s

  -- by that
  pub up_begins : (o : Outcome) (id : SpaceId) (g h : Going t) → o ≡ outcome.Begins id → SendsUpTo m time (outcome_dying o) g h → SendsAll m time g h
  up_begins o id g h is s = up_all g h (subst (λ (x : Outcome). SendsUpTo m time (outcome_dying x) g h) is s)

  pub up_goes : (o : Outcome) (paced : Bool) (g h : Going t) → o ≡ outcome.Ends paced → SendsUpTo m time (outcome_dying o) g h → SendsAll m time g h
  up_goes o paced g h is s = up_all g h (subst (λ (x : Outcome). SendsUpTo m time (outcome_dying x) g h) is s)

  pub up_killed : (o : Outcome) (dying : Dying) (g h : Going t) → o ≡ outcome.Dies dying → SendsUpTo m time (outcome_dying o) g h → SendsUpTo m time (Some dying.form) g h
  up_killed o dying g h is s = subst (λ (x : Outcome). SendsUpTo m time (outcome_dying x) g h) is s
