-- What a transmit sealed, or why it sealed nothing, is what it may do.
use Rattle.std.proofs.Common.{◌≡◌, ℕ, List, [], length, refl, ap, sym, ◌∙◌, subst, Bool, true, false, Option, Some, None, Err, inl}
use Rattle.qc_state.specs.declared.deeds.Quiet.TheVariants.{Killed}
use Rattle.qc_state.specs.declared.form.Form.{Form}
use Rattle.qc_state.specs.declared.life.ConnectionError.{ConnectionError}
use Rattle.qc_state.specs.declared.transmit.Batch.{Batch}
use Rattle.qc_state.specs.declared.transmit.Transmit.{Transmit}
use Rattle.qc_streams.specs.declared.fault.ReadFault.TheVariants.{Blocked}
use Rattle.qc_send.specs.Ending.{EndsSo, ending_of, held_if, SendsUpTo}
use Rattle.qc_send.specs.Joining.{HeldIf, IsFull}
use Rattle.qc_frame.specs.Frame.{FrameValue}
use Rattle.qc_state.specs.Forms.{number_space}
use Rattle.qc_state.specs.Moves.{Arm, Begin, Move, MayMove, Say, Seal, Skip, Spend, Take, move_to, paths_move, setup_move, state_move, Update}
use Rattle.qc_state.specs.Numbers.{next_number}
use Rattle.qc_state.specs.Paths.{path_kept}
use Rattle.qc_state.specs.Sending.{Died, Dies, Going, MayEnd, MayTransmit, SendsAll, Transmits, batch_from, ending_after, finished_after, going, going_from, gone_after, packet_size, packets_after, sent_size, transmit_after, transmit_bytes, transmit_of, transmit_with}
use Rattle.qc_state.specs.Setup.{packet_drawn, word_drawn}
use Rattle.qc_state.specs.Stopping.{killed_after}
use Rattle.qc_state.specs.Types.{Types, Meaning}
use Rattle.qc_state.specs.View.{View, At}
use Rattle.qc_state.proofs.Transmitted.{IsPacketMove, IsSealable, holds_packets}
use Rattle.qc_state.specs.Updating.{tried_after, tried_view}
use Rattle.qc_state.proofs.Tried.{holds_tried, tried_same}

module _ {t : Types} where
  -- what says where datagrams go, and how, is as before
  pub record KeepsWay (a b : At t) : Type 0 where
    pub remote : b.state.paths.current.remote ≡ a.state.paths.current.remote
    pub marks : b.state.paths.current.kept.sending_ecn ≡ a.state.paths.current.kept.sending_ecn
    pub fixed : b.state.setup.fixed ≡ a.state.setup.fixed

  way_here : (a : At t) → KeepsWay a a
  way_here a = record { remote = refl; marks = refl; fixed = refl }

  way_next : (a b c : At t) → KeepsWay a b → KeepsWay b c → KeepsWay a c
  way_next a b c h k = record { remote = k.remote ∙ h.remote; marks = k.marks ∙ h.marks; fixed = k.fixed ∙ h.fixed }

  way_move : (x : Move t) → IsPacketMove x → (a : At t) → MayMove x a.state → KeepsWay a (move_to x a)
  unfolding move_to state_move paths_move setup_move path_kept word_drawn packet_drawn
  way_move (Begin id opens) p a may = record { remote = refl; marks = refl; fixed = refl }
  way_move Skip p a may = record { remote = refl; marks = refl; fixed = refl }
  way_move (Update fresh session) p a may = record { remote = refl; marks = refl; fixed = refl }
  way_move (Spend tokens) p a may = record { remote = refl; marks = refl; fixed = refl }
  way_move (Arm due) p a may = record { remote = refl; marks = refl; fixed = refl }
  way_move _ p a may = absurd p

  way_seal : (time : ℕ) (form : Form) (fs : List FrameValue) (a : At t) → IsSealable time a.state form fs →
      KeepsWay a (move_to (Seal time form (next_number a.state.numbers (number_space form)) (packet_size a.state form fs) fs) (move_to (Take (number_space form) fs) a))
  unfolding move_to state_move paths_move setup_move
  way_seal time form fs a may = record { remote = refl; marks = refl; fixed = refl }

  way_same : (a b : At t) (batch : Batch) → KeepsWay a b → transmit_with b.state batch ≡ transmit_with a.state batch
  unfolding transmit_with
  way_same a b batch h = cc

  -- an update that is tried leaves where they go
  pub tried_sent : (m : Meaning t) (f : Form) (a : At t) (batch : Batch) → transmit_with (tried_after m f a).state batch ≡ transmit_with a.state batch
  tried_sent m f a batch = way_same a (tried_after m f a) batch (holds_tried m KeepsWay way_here (λ b may. way_move (Update _ _) tt b may) f a)

  -- so the datagrams of packets go where they would have gone before
  sent_same : (m : Meaning t) (time : ℕ) (g h : Going t) (batch : Batch) → SendsAll m time g h → transmit_with h.now.state batch ≡ transmit_with g.now.state batch
  sent_same m time g h batch s =
      ap (λ (x : Going t). transmit_with x.now.state batch) s.leads
      ∙ way_same g.now (packets_after m time s.packets g).now batch (holds_packets KeepsWay way_here way_next way_move way_seal m time s.packets g s.may)

  -- ---- how a transmit ends that has begun

  may_end : (m : Meaning t) (time : ℕ) (s : View t) (b : Batch) (paced : Bool) → IsFull time s b → HeldIf m time s b paced → MayEnd m time (ending_of paced) s b
  may_end m time s b true full held = (full.ended, held)
  may_end m time s b false full held = full.ended

  -- what it leaves, where the pacer holds another datagram back or doesn't
  pub leaves_end : (m : Meaning t) (time : ℕ) (b batch : Batch) (paced : Bool) (a mid c : At t) → mid ≡ held_if m time b paced a → batch ≡ b → c ≡ finished_after m time batch mid → c ≡ ending_after m time (ending_of paced) b a
  unfolding ending_after
  leaves_end m time b batch true a mid c is_mid is_b is = is ∙ ap (λ (x : Batch). finished_after m time x mid) is_b ∙ ap (λ (x : At t). finished_after m time b x) is_mid
  leaves_end m time b batch false a mid c is_mid is_b is = is ∙ ap (λ (x : Batch). finished_after m time x mid) is_b ∙ ap (λ (x : At t). finished_after m time b x) is_mid

  -- with datagrams
  pub ends_so : (m : Meaning t) (time : ℕ) (g h : Going t) (b : At t) (paced : Bool) (sent : Option Transmit) → SendsAll m time g h → length h.out ≡ h.batch.total → IsFull time h.now.state h.batch → HeldIf m time h.now.state h.batch paced →
      b ≡ ending_after m time (ending_of paced) h.batch h.now → sent ≡ Some (transmit_with h.now.state h.batch) → EndsSo m time g b sent h.out
  unfolding transmit_with
  ends_so m time g h b paced sent s size full held is_b is_sent = by_way paced held is_b
    where
      answer_of : sent ≡ Some (transmit_with g.now.state (packets_after m time s.packets g).batch)
      answer_of = is_sent ∙ ap Some (sent_same m time g h h.batch s) ∙ ap (λ (x : Going t). Some (transmit_with g.now.state x.batch)) s.leads

      size_of : (o : Option Transmit) → o ≡ Some (transmit_with h.now.state h.batch) → length h.out ≡ sent_size o
      size_of o is = size ∙ sym (ap sent_size is)

      by_way : (paced : Bool) → HeldIf m time h.now.state h.batch paced → b ≡ ending_after m time (ending_of paced) h.batch h.now → EndsSo m time g b sent h.out
      by_way true held is_b = record {
        packets = s.packets;
        ending = ending_of true;
        may = s.may;
        ends = subst (λ (x : Going t). MayEnd m time (ending_of true) x.now.state x.batch) s.leads (may_end m time h.now.state h.batch true full held);
        leads = is_b ∙ ap (λ (x : Going t). ending_after m time (ending_of true) x.batch x.now) s.leads;
        answer = answer_of;
        bytes = ap (λ (x : Going t). x.out) s.leads;
        full = size_of sent is_sent;
      }
      by_way false held is_b = record {
        packets = s.packets;
        ending = ending_of false;
        may = s.may;
        ends = subst (λ (x : Going t). MayEnd m time (ending_of false) x.now.state x.batch) s.leads (may_end m time h.now.state h.batch false full held);
        leads = is_b ∙ ap (λ (x : Going t). ending_after m time (ending_of false) x.batch x.now) s.leads;
        answer = answer_of;
        bytes = ap (λ (x : Going t). x.out) s.leads;
        full = size_of sent is_sent;
      }

  -- with the end of the connection
  pub dies_so : (m : Meaning t) (time : ℕ) (g h : Going t) (b : At t) (f : Form) (why : ConnectionError) (sent : Option Transmit) (buffer : List ℕ) → SendsUpTo m time (Some f) g h → Dies m time h.now.state h.batch f why →
      b ≡ move_to (Say Killed) (killed_after why h.now) → sent ≡ None → buffer ≡ [] → EndsSo m time g b sent buffer
  unfolding ending_after
  dies_so m time g h b f why sent buffer s dies is_b is_sent empty = record {
    packets = s.sends.packets;
    ending = Died f why;
    may = s.sends.may;
    ends = inl (subst (λ (x : Going t). Dies m time (tried_view m x.now.state f) x.batch f why) s.sends.leads
        (subst (λ (v : View t). Dies m time v s.last.batch f why) (tried_same m f s.last.now) (subst (λ (x : Going t). Dies m time x.now.state x.batch f why) s.leads dies)));
    leads = is_b ∙ ap (λ (x : Going t). move_to (Say Killed) (killed_after why x.now)) s.leads ∙ ap (λ (x : Going t). move_to (Say Killed) (killed_after why (tried_after m f x.now))) s.sends.leads;
    answer = is_sent;
    bytes = empty;
    full = ap length empty ∙ sym (ap sent_size is_sent);
  }

  -- ---- a transmit

  -- one that has begun with nothing sealed
  pub transmits_so : (m : Meaning t) (time asked : ℕ) (a b : At t) (batch : Batch) (old buffer : List ℕ) (sent : Option Transmit) → batch ≡ batch_from asked a.state → old ≡ [] →
      EndsSo m time (going a batch old) b sent buffer → Transmits m time asked a b sent buffer
  unfolding MayTransmit transmit_after gone_after transmit_of transmit_bytes
  transmits_so m time asked a b batch old buffer sent is_batch is_old h =
      by_start (subst (λ (x : Batch). EndsSo m time (going a x []) b sent buffer) is_batch (subst (λ (x : List ℕ). EndsSo m time (going a batch x) b sent buffer) is_old h))
    where
      by_start : EndsSo m time (going_from asked a) b sent buffer → Transmits m time asked a b sent buffer
      by_start h = record {
        choice = record { packets = h.packets; ending = h.ending; read = Err Blocked };
        may = (h.may, h.ends);
        leads = h.leads;
        answer = h.answer;
        bytes = h.bytes;
        full = h.full;
      }

  -- none of its bytes are counted before
  pub begun_empty : (s : View t) (asked : ℕ) (batch : Batch) (old : List ℕ) → batch ≡ batch_from asked s → old ≡ [] → length old ≡ batch.total
  begun_empty s asked batch old is_batch is_old = ap length is_old ∙ sym (ap (λ (x : Batch). x.total) is_batch)
