-- What is kept as a probe is spent, frames wait again and a PING is asked for is kept as a packet is begun, which makes steps of the streams'
-- and the ids' own; and a frame that is taken leaves its space as `without` says.
use Rattle.std.proofs.Common.{◌≡◌, ◌==◌, List, [], ◌∷◌, refl, ap, sym, ◌∙◌, Bool, true, false, if◌then◌else◌, Option, Some, None}
use Rattle.qc_base.specs.declared.side.SpaceId.{SpaceId}
use Rattle.qc_base.specs.declared.side.SpaceId.TheVariants.{Initial, Handshake, «Data»}
use Rattle.qc_flight.specs.declared.sent.SentPacket.{SentPacket}
use Rattle.qc_frame.specs.Frame.{FrameValue}
use Rattle.qc_state.specs.Moves.{Begin, Take, state_move, numbers_move, keys_move, life_move, paths_move, timers_move, waiting_move, setup_move, lower_move}
use Rattle.qc_cids.specs.Steps as ids
use Rattle.qc_state.specs.Ids.{again_ids, lost_cids}
use Rattle.qc_state.specs.Lower.{ids_stepped, streams_stepped}
use Rattle.qc_state.specs.Offers.{again_steps, begun_ids, begun_steps, oldest_in, packet_again, packet_begun, probe_begun, probe_ids, probe_sent, probe_steps, streams_filed, wants_sending, with_ping}
use Rattle.qc_state.specs.Keys.{form_in}
use Rattle.qc_state.specs.Setup.{packet_drawn}
use Rattle.qc_state.specs.Spaces.{space_of}
use Rattle.qc_state.specs.StreamFrames.{filed_steps, packet_lost}
use Rattle.qc_state.specs.Types.{Types}
use Rattle.qc_state.specs.View.{View}
use Rattle.qc_state.specs.Waiting.{frames_again, ping_asked, probe_spent, waiting_without, without, without_all}
use Rattle.qc_state.specs.declared.lower.Lower.{Lower}
use Rattle.qc_state.specs.declared.waiting.Waiting.{Waiting}
use Rattle.qc_streams.proofs.StepsLaw.{after_append}
use Rattle.qc_streams.specs.Waits.{Step, after}
use Rattle.qc_streams.specs.declared.state.StreamsState.{StreamsState}

module _ {t : Types} where
  -- a frame that is taken waits no longer in its space
  pub taken_space : (id : SpaceId) (f : FrameValue) (s : View t) → space_of (state_move (Take id (f ∷ [])) s).waiting.spaces id ≡ without (space_of s.waiting.spaces id) f
  unfolding state_move waiting_move waiting_without without_all
  taken_space Initial f s = refl
  taken_space Handshake f s = refl
  taken_space Data f s = refl

-- a packet that is begun changes what waits, and the streams, by their own steps
module _ {t : Types} where
  again_only : (id : SpaceId) (oldest : Option SentPacket) (s v : View t) (b : Bool) → v ≡ record s { waiting = v.waiting; lower = v.lower } →
      (if b then v else packet_again id oldest v) ≡ record s { waiting = (if b then v else packet_again id oldest v).waiting; lower = (if b then v else packet_again id oldest v).lower }
  again_only id oldest s v true h = h
  again_only id None s v false h = h
  again_only id (Some packet) s v false h =
      ap (λ (x : View t). record x { waiting = frames_again v.waiting id packet.frames; lower = ids_stepped (lost_cids packet.frames) (streams_stepped (packet_lost packet) v.lower) }) h

  ping_only : (id : SpaceId) (s v : View t) (b : Bool) → v ≡ record s { waiting = v.waiting; lower = v.lower } →
      (if b then v else record v { waiting = ping_asked v.waiting id })
      ≡ record s { waiting = (if b then v else record v { waiting = ping_asked v.waiting id }).waiting; lower = (if b then v else record v { waiting = ping_asked v.waiting id }).lower }
  ping_only id s v true h = h
  ping_only id s v false h = ap (λ (x : View t). record x { waiting = ping_asked v.waiting id }) h

  probed_only : (id : SpaceId) (s v : View t) → v ≡ record s { waiting = v.waiting; lower = v.lower } → probe_sent id v ≡ record s { waiting = (probe_sent id v).waiting; lower = (probe_sent id v).lower }
  unfolding probe_sent with_ping
  probed_only id s v h =
      let x : View t = if wants_sending v id then v else packet_again id (oldest_in v id) v in
      ping_only id s x (wants_sending x id) (again_only id (oldest_in v id) s v (wants_sending v id) h)

  -- a probe that is spent, or not
  abbrev spent_if : Bool → SpaceId → View t → View t
  spent_if opens id s = if opens then record s { waiting = probe_spent s.waiting id } else s

  spent_only : (id : SpaceId) (opens : Bool) (s : View t) → spent_if opens id s ≡ record s { waiting = (spent_if opens id s).waiting; lower = (spent_if opens id s).lower }
  spent_only id true s = refl
  spent_only id false s = refl

  begun_only : (id : SpaceId) (opens : Bool) (s : View t) (b : Bool) → (if b then s else probe_sent id (spent_if opens id s))
      ≡ record s { waiting = (if b then s else probe_sent id (spent_if opens id s)).waiting; lower = (if b then s else probe_sent id (spent_if opens id s)).lower }
  begun_only id opens s true = refl
  begun_only id opens s false = probed_only id s (spent_if opens id s) (spent_only id opens s)

  filed_only : (id : SpaceId) (s v : View t) → v ≡ record s { waiting = v.waiting; lower = v.lower } → streams_filed id v ≡ record s { waiting = (streams_filed id v).waiting; lower = (streams_filed id v).lower }
  unfolding streams_filed
  filed_only id s v h = ap (λ (x : View t). record x { lower = streams_stepped (filed_steps id) v.lower }) h

  pub begun_is : (id : SpaceId) (opens : Bool) (s : View t) →
      record (packet_begun id opens s) { setup = packet_drawn (packet_begun id opens s).setup (form_in (packet_begun id opens s).keys id) } ≡ state_move (Begin id opens) s
  unfolding packet_begun probe_begun state_move numbers_move keys_move life_move paths_move timers_move waiting_move setup_move lower_move
  begun_is id opens s =
      ap (λ (x : View t). record x { setup = packet_drawn x.setup (form_in x.keys id) })
      (filed_only id s (probe_begun id opens s) (begun_only id opens s ((space_of s.waiting.spaces id).probes == 0)))

  -- ---- what it makes of the streams and of the ids, and that it leaves the other layers below

  again_steps_so : (id : SpaceId) (oldest : Option SentPacket) (s : View t) (b : Bool) →
      (if b then s else packet_again id oldest s).lower ≡ ids_stepped (if b then [] else again_ids oldest) (streams_stepped (if b then [] else again_steps oldest) s.lower)
  unfolding streams_stepped ids_stepped after ids.after
  again_steps_so id oldest s true = refl
  again_steps_so id None s false = refl
  again_steps_so id (Some packet) s false = refl

  ping_stays : (id : SpaceId) (s : View t) (b : Bool) → (if b then s else record s { waiting = ping_asked s.waiting id }).lower ≡ s.lower
  ping_stays id s true = refl
  ping_stays id s false = refl

  probed_steps : (id : SpaceId) (s : View t) → (probe_sent id s).lower ≡ ids_stepped (probe_ids id s) (streams_stepped (probe_steps id s) s.lower)
  unfolding probe_sent with_ping probe_steps probe_ids
  probed_steps id s =
      let x : View t = if wants_sending s id then s else packet_again id (oldest_in s id) s in
      ping_stays id x (wants_sending x id) ∙ again_steps_so id (oldest_in s id) s (wants_sending s id)

  spent_stays : (id : SpaceId) (opens : Bool) (s : View t) → (spent_if opens id s).lower ≡ s.lower
  spent_stays id true s = refl
  spent_stays id false s = refl

  begun_steps_by : (id : SpaceId) (opens : Bool) (s : View t) (b : Bool) → (if b then s else probe_sent id (spent_if opens id s)).lower
      ≡ ids_stepped (if b then [] else probe_ids id (spent_if opens id s)) (streams_stepped (if b then [] else probe_steps id (spent_if opens id s)) s.lower)
  unfolding streams_stepped ids_stepped after ids.after
  begun_steps_by id opens s true = refl
  begun_steps_by id opens s false =
      probed_steps id (spent_if opens id s)
      ∙ ap (λ (l : Lower t.S). record l { streams = after (probe_steps id (spent_if opens id s)) l.streams; ids = ids.after (probe_ids id (spent_if opens id s)) l.ids }) (spent_stays id opens s)

  -- a packet that is begun makes these steps of the streams and of the ids, and leaves all else below as it was
  pub begun_streams : (id : SpaceId) (opens : Bool) (s : View t) → (packet_begun id opens s).lower ≡ ids_stepped (begun_ids id opens s) (streams_stepped (begun_steps id opens s) s.lower)
  unfolding packet_begun probe_begun streams_filed begun_steps begun_ids streams_stepped ids_stepped
  begun_streams id opens s =
      let b : Bool = (space_of s.waiting.spaces id).probes == 0 in
      let xs : List Step = if b then [] else probe_steps id (spent_if opens id s) in
      let zs : List ids.Step = if b then [] else probe_ids id (spent_if opens id s) in
      ap (λ (l : Lower t.S). record l { streams = after (filed_steps id) l.streams }) (begun_steps_by id opens s b)
      ∙ ap (λ (x : StreamsState). record s.lower { streams = x; ids = ids.after zs s.lower.ids }) (sym (after_append xs (filed_steps id) s.lower.streams))

module _ {t : Types} (P : Waiting → Type 0) (spent : (w : Waiting) (id : SpaceId) → P w → P (probe_spent w id)) (again : (w : Waiting) (id : SpaceId) (fs : List FrameValue) → P w → P (frames_again w id fs))
    (asked : (w : Waiting) (id : SpaceId) → P w → P (ping_asked w id)) where
  again_by : (id : SpaceId) (oldest : Option SentPacket) (s : View t) (b : Bool) → P s.waiting → P (if b then s else packet_again id oldest s).waiting
  again_by id oldest s true h = h
  again_by id None s false h = h
  again_by id (Some packet) s false h = again s.waiting id packet.frames h

  ping_by : (id : SpaceId) (s : View t) (b : Bool) → P s.waiting → P (if b then s else record s { waiting = ping_asked s.waiting id }).waiting
  ping_by id s true h = h
  ping_by id s false h = asked s.waiting id h

  probed : (id : SpaceId) (s : View t) → P s.waiting → P (probe_sent id s).waiting
  unfolding probe_sent with_ping
  probed id s h =
      let v : View t = if wants_sending s id then s else packet_again id (oldest_in s id) s in
      ping_by id v (wants_sending v id) (again_by id (oldest_in s id) s (wants_sending s id) h)

  spent_by : (id : SpaceId) (opens : Bool) (s : View t) → P s.waiting → P (if opens then record s { waiting = probe_spent s.waiting id } else s).waiting
  spent_by id true s h = spent s.waiting id h
  spent_by id false s h = h

  begun_by : (id : SpaceId) (opens : Bool) (s : View t) (b : Bool) → P s.waiting → P (if b then s else probe_sent id (if opens then record s { waiting = probe_spent s.waiting id } else s)).waiting
  begun_by id opens s true h = h
  begun_by id opens s false h = probed id (if opens then record s { waiting = probe_spent s.waiting id } else s) (spent_by id opens s h)

  pub begun_holds : (id : SpaceId) (opens : Bool) (s : View t) → P s.waiting → P (packet_begun id opens s).waiting
  unfolding packet_begun probe_begun streams_filed
  begun_holds id opens s h = begun_by id opens s ((space_of s.waiting.spaces id).probes == 0) h
