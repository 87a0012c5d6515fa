-- The peer's transport parameters that come a second time, behind early data that it accepted (RFC 9000, section 7.4.1)
use Rattle.std.specs.Prelude.{ℕ, zero, suc, List, [], ◌∷◌, ◌++◌}
use Rattle.qc_base.specs.declared.side.Dir.{Dir}
use Rattle.qc_base.specs.declared.side.Dir.TheVariants.{Bi, Uni}
use Rattle.qc_base.specs.declared.side.Side.{Side}
use Rattle.qc_base.specs.StreamId.{stream_id}
use Rattle.qc_streams.specs.declared.state.StreamsState.{StreamsState}
use Rattle.qc_streams.specs.Counts.{at_most}
use Rattle.qc_streams.specs.Frames.{stream_limit_came}
use Rattle.qc_streams.specs.Streams.{other}
use Rattle.qc_streams.specs.Waits.{Step, StreamLimitCame}

-- the limits of the first streams of a kind, so many of them, rise to this one, as by a MAX_STREAM_DATA for each
unfoldable pub kind_raised : (initiator : Side) → (dir : Dir) → (limit count : ℕ) → StreamsState → StreamsState
kind_raised initiator dir limit zero s = s
kind_raised initiator dir limit (suc k) s = stream_limit_came (stream_id initiator dir k) limit (kind_raised initiator dir limit k s)

-- What the peer takes of a stream rises to its present limit for streams of that kind, of all that were opened and on which this end
-- sends, whichever end opened them. A limit that would fall stays
unfoldable pub opened_raised : StreamsState → StreamsState
opened_raised s =
    kind_raised (other s.side) Bi s.limits.peer_bidi_data s.peer.bi.opened
    (kind_raised s.side Uni s.limits.own_uni_data (at_most s.own.uni.opened)
    (kind_raised s.side Bi s.limits.own_bidi_data (at_most s.own.bi.opened) s))

-- ---- the same as steps

-- the steps of a kind
unfoldable pub kind_steps : (initiator : Side) → (dir : Dir) → (limit count : ℕ) → List Step
kind_steps initiator dir limit zero = []
kind_steps initiator dir limit (suc k) = kind_steps initiator dir limit k ++ StreamLimitCame (stream_id initiator dir k) limit ∷ []

-- the steps of all
unfoldable pub raising_steps : StreamsState → List Step
raising_steps s =
    kind_steps s.side Bi s.limits.own_bidi_data (at_most s.own.bi.opened)
    ++ (kind_steps s.side Uni s.limits.own_uni_data (at_most s.own.uni.opened)
    ++ kind_steps (other s.side) Bi s.limits.peer_bidi_data s.peer.bi.opened)
