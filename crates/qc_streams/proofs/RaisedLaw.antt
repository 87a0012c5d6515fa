-- Streams whose limits rise as parameters come a second time
use Rattle.std.proofs.Common.{◌≡◌, ℕ, zero, suc, List, [], ◌∷◌, ◌++◌, refl, sym, ap, ◌∙◌}
use Rattle.qc_base.specs.declared.side.Dir.{Dir}
use Rattle.qc_base.specs.declared.side.Dir.TheVariants.{Bi, Uni}
use Rattle.qc_base.specs.declared.side.Side.{Side}
use Rattle.qc_base.specs.StreamId.{stream_id}
use Rattle.qc_streams.specs.declared.state.StreamsState.{StreamsState}
use Rattle.qc_streams.specs.Counts.{at_most}
use Rattle.qc_streams.specs.Frames.{stream_limit_came}
use Rattle.qc_streams.specs.Raised.{kind_raised, kind_steps, opened_raised, raising_steps}
use Rattle.qc_streams.specs.Streams.{other}
use Rattle.qc_streams.specs.Waits.{Step, StreamLimitCame, after, after_step}
use Rattle.qc_streams.proofs.StepsLaw.{after_append}

one_step : (id limit : ℕ) (s : StreamsState) → after (StreamLimitCame id limit ∷ []) s ≡ stream_limit_came id limit s
unfolding after after_step
one_step id limit s = refl

kind_by_steps : (initiator : Side) (dir : Dir) (limit count : ℕ) (s : StreamsState) → after (kind_steps initiator dir limit count) s ≡ kind_raised initiator dir limit count s
unfolding kind_steps kind_raised after
kind_by_steps initiator dir limit zero s = refl
kind_by_steps initiator dir limit (suc k) s =
    after_append (kind_steps initiator dir limit k) (StreamLimitCame (stream_id initiator dir k) limit ∷ []) s
    ∙ one_step (stream_id initiator dir k) limit (after (kind_steps initiator dir limit k) s)
    ∙ ap (λ (t : StreamsState). stream_limit_came (stream_id initiator dir k) limit t) (kind_by_steps initiator dir limit k s)

three_kinds : (xs ys zs : List Step) (s : StreamsState) → after (xs ++ (ys ++ zs)) s ≡ after zs (after ys (after xs s))
three_kinds xs ys zs s = after_append xs (ys ++ zs) s ∙ after_append ys zs (after xs s)

pub raised_by_steps : (s : StreamsState) → opened_raised s ≡ after (raising_steps s) s
unfolding opened_raised raising_steps
raised_by_steps s = sym (
    three_kinds (kind_steps s.side Bi s.limits.own_bidi_data (at_most s.own.bi.opened)) (kind_steps s.side Uni s.limits.own_uni_data (at_most s.own.uni.opened)) (kind_steps (other s.side) Bi s.limits.peer_bidi_data s.peer.bi.opened) s
    ∙ kind_by_steps (other s.side) Bi s.limits.peer_bidi_data s.peer.bi.opened _
    ∙ ap (λ (t : StreamsState). kind_raised (other s.side) Bi s.limits.peer_bidi_data s.peer.bi.opened t) (
    kind_by_steps s.side Uni s.limits.own_uni_data (at_most s.own.uni.opened) _
    ∙ ap (λ (t : StreamsState). kind_raised s.side Uni s.limits.own_uni_data (at_most s.own.uni.opened) t) (kind_by_steps s.side Bi s.limits.own_bidi_data (at_most s.own.bi.opened) s)))
