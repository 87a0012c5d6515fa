-- The bytes of all writes are at most the greatest limit that came
use Rattle.std.proofs.Common.{◌≡◌, ◌∙◌, ℕ, ◌+◌, ◌^◌, ◌<◌, ◌≤◌, max, Bool, true, false, cond, List, [], ◌∷◌, length, take, Option, None, Some, ap, sym, subst, arith, refl, length-take}
use Rattle.qc_base.specs.declared.side.Dir.TheVariants.{Bi, Uni}
use Rattle.qc_base.specs.declared.side.Side.{Side}
use Rattle.qc_recv.specs.Receiving.{reset_taken, stream_taken}
use Rattle.qc_send_stream.specs.declared.send.SendPart.{SendPart}
use Rattle.qc_send_stream.specs.Sending.{takes}
use Rattle.qc_streams.specs.declared.credit.Outgoing.{Outgoing}
use Rattle.qc_streams.specs.declared.state.StreamsState.{StreamsState}
use Rattle.qc_streams.specs.Calls.{count_taken, gives, known_at, reading_begun, resets, send_room, sends, wrote}
use Rattle.qc_streams.specs.Counts.{saturated}
use Rattle.qc_streams.specs.Credit.{budget, new_outgoing, outgoing_raised, outgoing_written}
use Rattle.qc_streams.specs.Early.{early_refused}
use Rattle.qc_streams.specs.Events.{first_dropped}
use Rattle.qc_streams.specs.Frames.{comes, limit_came, reset_came, stop_came, stream_came, stream_limit_came, streams_limit_came}
use Rattle.qc_streams.specs.Owed.{polled, told_opened}
use Rattle.qc_streams.specs.StreamBytes.{bytes_acked, bytes_gone, bytes_lost, bytes_taken}
use Rattle.qc_streams.specs.Settings.{max_concurrent_set, priority_set, receive_window_set, send_window_set}
use Rattle.qc_streams.specs.Stream.{limit_taken, stop_taken, with_receiving, with_sending}
use Rattle.qc_streams.specs.Streams.{accepted_one, counted, limits_set, new_streams, opened_own, told_if}
use Rattle.qc_streams.specs.Tied.{HasLimit, HaveLimits, WritesWithin, bytes_written, greatest_limit, with_bytes, with_limit}
use Rattle.qc_streams.specs.Queues.{queued, touched}
use Rattle.qc_streams.specs.Waits.{Step, LimitsKnown, EarlyRefused, Closed, Failed, Opened, Accepted, Wrote, Refused, Finished, WasReset, Began, Read, Stopped, ResetAsked, PrioritySet, SendWindowSet, ReceiveWindowSet, ConcurrentSet, Polled, StreamCame, ResetCame, StopCame, StreamLimitCame, StreamsLimitCame, LimitCame, MarksFiled, ControlSealed, ControlLost, ControlAcked, PartSealed, BytesLost, BytesAcked, after_step}
use Rattle.qc_streams.specs.Within.{AreTaken, IsTaken}
use Rattle.qc_streams.specs.Writable.{passed, watched}
use Rattle.qc_streams.proofs.Beside.{acked_beside, all_filed_beside, lost_beside, met_beside, part_beside, refused_beside, sealed_beside, settled_beside, told_telling}

-- ---- what a step leaves of the credit for what is sent

polled_out : (s : StreamsState) → (polled s).outgoing ≡ s.outgoing
unfolding polled told_opened
polled_out s = by s.peer.bi.tells s.peer.uni.tells
  where
    by : (b c : Bool) → (cond b (told_opened Bi s) (cond c (told_opened Uni s) (record s { events = first_dropped s.events }))).outgoing ≡ s.outgoing
    by true c = refl
    by false true = refl
    by false false = refl

-- what each step makes of it
abbrev out_of : Step → Outgoing → Outgoing
out_of (LimitsKnown p) o = outgoing_raised p.all_data o
out_of EarlyRefused o = new_outgoing
out_of (Wrote id n chunk) o = outgoing_written n o
out_of (LimitCame n) o = outgoing_raised n o
out_of x o = o

out_after : (x : Step) (s : StreamsState) → (after_step x s).outgoing ≡ out_of x s.outgoing
unfolding after_step limits_set early_refused opened_own accepted_one wrote resets sends queued passed touched gives comes counted reading_begun priority_set send_window_set receive_window_set max_concurrent_set stream_came reset_came stop_came stream_limit_came watched streams_limit_came limit_came bytes_lost bytes_acked bytes_gone bytes_taken told_if
out_after (LimitsKnown p) s = (told_telling None _).outgoing
out_after EarlyRefused s = refl
out_after Closed s = refl
out_after Failed s = refl
out_after (Opened dir) s = refl
out_after (Accepted dir) s = refl
out_after (Wrote id n chunk) s = refl
out_after (Refused e id) s = (refused_beside e id s).outgoing
out_after (Finished id) s = refl
out_after (WasReset code id) s = (told_telling None _).outgoing
out_after (Began ordered id) s = refl
out_after (Read ordered result id) s = (settled_beside id _).outgoing
out_after (Stopped code id) s = (settled_beside id _).outgoing
out_after (ResetAsked id) s = (settled_beside id _).outgoing
out_after (PrioritySet priority id) s = refl
out_after (SendWindowSet n) s = (told_telling None _).outgoing
out_after (ReceiveWindowSet n) s = refl
out_after (ConcurrentSet dir n) s = refl
out_after Polled s = polled_out s
out_after (StreamCame id o bs last) s = (settled_beside id _).outgoing ∙ (met_beside (with_receiving (stream_taken o bs last)) id s).outgoing
out_after (ResetCame id code size) s = (settled_beside id _).outgoing ∙ (met_beside (with_receiving (reset_taken code size)) id s).outgoing
out_after (StopCame id code) s = (met_beside (with_sending (stop_taken code)) id s).outgoing
out_after (StreamLimitCame id limit) s = (told_telling None _).outgoing ∙ (met_beside (with_sending (limit_taken limit)) id s).outgoing
out_after (StreamsLimitCame dir n) s = refl
out_after (LimitCame n) s = (told_telling None _).outgoing
out_after MarksFiled s = (all_filed_beside s.waiting.marks.ids s).outgoing
out_after (ControlSealed c) s = (sealed_beside c s).outgoing
out_after (ControlLost c) s = (lost_beside c s).outgoing
out_after (ControlAcked c) s = (acked_beside c s).outgoing
out_after (PartSealed d) s = (part_beside d s).outgoing
out_after (BytesLost id start stop last) s = refl
out_after (BytesAcked id start stop last) s =
    (told_telling None _).outgoing ∙ (told_telling (Some id) (bytes_gone id start stop last s)).outgoing ∙ (settled_beside id _).outgoing

-- ---- the bytes of all writes, and the greatest limit

-- what is counted: no fewer bytes than were written, no more than the limit, which is the greatest that came
record Tied (k m : ℕ) (o : Outgoing) : Type 0 where
  counts : k ≤ o.written
  within : o.written ≤ o.limit
  limit : o.limit ≡ m
  small : o.limit < 2 ^ 64

no_more : (wanted most n : ℕ) (o : Option SendPart) → n ≤ count_taken wanted most o → n ≤ most
unfolding takes
no_more wanted most n None fits = omega (arith, fits)
no_more wanted most n (Some p) fits = omega (arith, fits)

raised_tied : (n k m : ℕ) (o : Outgoing) → n < 2 ^ 64 → Tied k m o → Tied k (max m n) (outgoing_raised n o)
unfolding outgoing_raised
raised_tied n k m o fits h = record {
  counts = h.counts;
  within = omega (arith, h.within);
  limit = ap (λ (l : ℕ). max l n) h.limit;
  small = omega (arith, h.small, fits);
}

wrote_tied : (n room k m : ℕ) (chunk : List ℕ) (o : Outgoing) → n ≤ budget room o → Tied k m o → Tied (k + length (take n chunk)) m (outgoing_written n o)
unfolding outgoing_written saturated budget
wrote_tied n room k m chunk o fits h = record {
  counts = omega (arith, h.counts, h.within, h.small, fits, length-take n chunk);
  within = omega (arith, h.within, h.small, fits);
  limit = h.limit;
  small = h.small;
}

none_tied : Tied 0 0 new_outgoing
unfolding new_outgoing
none_tied = record { counts = omega arith; within = omega arith; limit = refl; small = omega arith }

step_tied : (x : Step) (s : StreamsState) (k m : ℕ) → HasLimit x → IsTaken x s → Tied k m s.outgoing → Tied (with_bytes x k) (with_limit x m) (out_of x s.outgoing)
unfolding HasLimit IsTaken with_bytes with_limit
step_tied (LimitsKnown p) s k m limit taken h = raised_tied p.all_data k m s.outgoing limit h
step_tied EarlyRefused s k m limit taken h = none_tied
step_tied (Wrote id n chunk) s k m limit taken h =
    wrote_tied n (send_room s) k m chunk s.outgoing (no_more (length chunk) (budget (send_room s) s.outgoing) n (known_at id s) taken) h
step_tied (LimitCame n) s k m limit taken h = raised_tied n k m s.outgoing limit h
step_tied Closed s k m limit taken h = h
step_tied Failed s k m limit taken h = h
step_tied (Opened dir) s k m limit taken h = h
step_tied (Accepted dir) s k m limit taken h = h
step_tied (Refused e id) s k m limit taken h = h
step_tied (Finished id) s k m limit taken h = h
step_tied (WasReset code id) s k m limit taken h = h
step_tied (Began ordered id) s k m limit taken h = h
step_tied (Read ordered result id) s k m limit taken h = h
step_tied (Stopped code id) s k m limit taken h = h
step_tied (ResetAsked id) s k m limit taken h = h
step_tied (PrioritySet priority id) s k m limit taken h = h
step_tied (SendWindowSet n) s k m limit taken h = h
step_tied (ReceiveWindowSet n) s k m limit taken h = h
step_tied (ConcurrentSet dir n) s k m limit taken h = h
step_tied Polled s k m limit taken h = h
step_tied (StreamCame id o bs last) s k m limit taken h = h
step_tied (ResetCame id code size) s k m limit taken h = h
step_tied (StopCame id code) s k m limit taken h = h
step_tied (StreamLimitCame id n) s k m limit taken h = h
step_tied (StreamsLimitCame dir n) s k m limit taken h = h
step_tied MarksFiled s k m limit taken h = h
step_tied (ControlSealed c) s k m limit taken h = h
step_tied (ControlLost c) s k m limit taken h = h
step_tied (ControlAcked c) s k m limit taken h = h
step_tied (PartSealed d) s k m limit taken h = h
step_tied (BytesLost id start stop last) s k m limit taken h = h
step_tied (BytesAcked id start stop last) s k m limit taken h = h

after_tied : (xs : List Step) (s : StreamsState) (k m : ℕ) → HaveLimits xs → AreTaken xs s → Tied k m s.outgoing → bytes_written xs k ≤ greatest_limit xs m
unfolding HaveLimits AreTaken bytes_written greatest_limit
after_tied [] s k m limits taken h = omega (arith, h.counts, h.within, h.limit)
after_tied (x ∷ xs) s k m limits taken h =
    after_tied xs (after_step x s) (with_bytes x k) (with_limit x m) limits.1 taken.1
    (subst (λ (o : Outgoing). Tied (with_bytes x k) (with_limit x m) o) (sym (out_after x s)) (step_tied x s k m limits.0 taken.0 h))

pub writes_within : (side : Side) (uni bi window stream_window send_window : ℕ) (fair : Bool) (xs : List Step)
    → WritesWithin (new_streams side uni bi window stream_window send_window fair) xs
unfolding WritesWithin new_streams
writes_within side uni bi window stream_window send_window fair xs limits taken =
    after_tied xs (new_streams side uni bi window stream_window send_window fair) 0 0 limits taken none_tied
