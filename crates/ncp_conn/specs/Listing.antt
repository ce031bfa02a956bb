-- The connections of a table by index, the capacity of each, and the connection that a link identifies.
use Rattle.std.specs.Prelude.{ℕ, ◌==◌, Bool, List, slice_get, Option, None, Some}
use Rattle.std.specs.List.{count_by}
use Rattle.std.specs.Ordering.{is_lt}
use Rattle.std.specs.FinMap.{entries, get}
use Rattle.ncp_model.specs.declared.pair.Pair.{Pair}
use Rattle.ncp_model.specs.Pairs.{pair_cmp}
use Rattle.ncp_model.specs.Endpoint as model
use Rattle.ncp_model.specs.Ends.{Ends, sender_on, receiver_on, pair_of}
use Rattle.ncp_conn.specs.declared.record.Role.{Role}
use Rattle.ncp_conn.specs.declared.record.Role.TheVariants.{Send, Receive}
use Rattle.ncp_conn.specs.declared.record.Record.{Record}
use Rattle.ncp_conn.specs.Records.{record_of}

abbrev pub with_record : Option (Pair × model.Endpoint) → Option (Pair × Record)
with_record None = None
with_record (Some p) = Some (p.0, record_of p.0 p.1)

-- the connection at index `place`, with its record: ordered by the socket here, then by the socket there
-- (this profile's rule)
abbrev pub connection_in : ℕ → Ends → Option (Pair × Record)
connection_in place m = with_record (slice_get (entries m) place)

-- the capacity of its store, in bits
abbrev pub room_if_any : Option model.Endpoint → Option ℕ
room_if_any None = None
room_if_any (Some e) = Some e.room

abbrev pub room_of : Pair → Ends → Option ℕ
room_of pair m = room_if_any (get m pair)

-- the pair whose sending endpoint a link identifies, and whose receiving one (NIC 8246, links)
abbrev pub pair_demuxed_to : Role → ℕ → Ends → Option Pair
pair_demuxed_to Send on m = pair_of (sender_on on m)
pair_demuxed_to Receive on m = pair_of (receiver_on on m)

-- an entry precedes a pair
abbrev pub is_before : Pair → Pair × model.Endpoint → Bool
is_before pair p = is_lt (pair_cmp p.0 pair)

-- `place` of the entries `es` precede `p`
abbrev pub stands_at : ℕ → List (Pair × model.Endpoint) → Pair × model.Endpoint → Bool
stands_at place es p = count_by (is_before p.0) es == place
