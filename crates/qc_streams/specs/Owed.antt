-- The events that are told, and the credit and the places that are owed to the peer (RFC 9000, sections 4.1 and 4.6)
use Rattle.std.specs.Prelude.{ℕ, if◌then◌else◌, Option, None, Some}
use Rattle.qc_base.specs.declared.side.Dir.{Dir}
use Rattle.qc_base.specs.declared.side.Dir.TheVariants.{Bi, Uni}
use Rattle.qc_streams.specs.declared.events.StreamEvent.{StreamEvent}
use Rattle.qc_streams.specs.declared.events.StreamEvent.TheVariants.{Opened}
use Rattle.qc_streams.specs.declared.state.StreamsState.{StreamsState}
use Rattle.qc_streams.specs.Counts.{by_dir, dir_put, opening_told, places_sealed, places_lost}
use Rattle.qc_streams.specs.Credit.{credit_value, credit_sealed, credit_lost}
use Rattle.qc_streams.specs.Events.{first_dropped, first_event}

-- the next event: that the peer opened streams comes before all others, bidirectional ones first; these in the order of their causes
unfoldable pub next_event : StreamsState → Option StreamEvent
next_event s =
    if s.peer.bi.tells then Some (Opened Bi)
    else if s.peer.uni.tells then Some (Opened Uni)
    else first_event s.events.items

-- that the peer opened streams was told
unfoldable pub told_opened : Dir → StreamsState → StreamsState
told_opened dir s = record s { peer = dir_put dir (opening_told (by_dir dir s.peer)) s.peer }

-- the next event was told
unfoldable pub polled : StreamsState → StreamsState
polled s =
    if s.peer.bi.tells then told_opened Bi s
    else if s.peer.uni.tells then told_opened Uni s
    else record s { events = first_dropped s.events }

-- the credit of a MAX_DATA that waits
unfoldable pub max_data_owed : StreamsState → Option ℕ
max_data_owed s = if s.incoming.waits then Some (credit_value s.incoming) else None

-- a MAX_DATA is sealed
unfoldable pub max_data_sealed : StreamsState → StreamsState
max_data_sealed s = record s { incoming = credit_sealed s.incoming }

-- a MAX_DATA is lost
unfoldable pub max_data_lost : StreamsState → StreamsState
max_data_lost s = record s { incoming = credit_lost s.incoming }

-- the number of a MAX_STREAMS that waits
unfoldable pub max_streams_owed : Dir → StreamsState → Option ℕ
max_streams_owed dir s = if (by_dir dir s.peer).waits then Some (by_dir dir s.peer).limit else None

-- a MAX_STREAMS is sealed
unfoldable pub max_streams_sealed : Dir → StreamsState → StreamsState
max_streams_sealed dir s = record s { peer = dir_put dir (places_sealed (by_dir dir s.peer)) s.peer }

-- a MAX_STREAMS is lost
unfoldable pub max_streams_lost : Dir → StreamsState → StreamsState
max_streams_lost dir s = record s { peer = dir_put dir (places_lost (by_dir dir s.peer)) s.peer }
