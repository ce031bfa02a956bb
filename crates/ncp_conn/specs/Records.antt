-- The record that a user reads of a connection.
use Rattle.std.specs.Prelude.{if◌then◌else◌, length, Option, None, Some}
use Rattle.std.specs.FinMap.{get}
use Rattle.ncp_model.specs.declared.pair.Pair.{Pair}
use Rattle.ncp_model.specs.Pairs.{is_send}
use Rattle.ncp_model.specs.Endpoint as model
use Rattle.ncp_model.specs.Ends.{Ends}
use Rattle.ncp_conn.specs.declared.record.Role.{Role}
use Rattle.ncp_conn.specs.declared.record.Role.TheVariants.{Send, Receive}
use Rattle.ncp_conn.specs.declared.record.Record.{Record}

-- an odd socket sends
abbrev pub end_here : Pair → Role
end_here pair = if is_send pair.local then Send else Receive

-- its state, with the number of stored bits in place of the bits
abbrev pub record_of : Pair → model.Endpoint → Record
record_of pair e = record {
  end = end_here pair;
  asked = e.asked;
  heard = e.heard;
  opened = e.opened;
  leaving = e.leaving;
  left = e.left;
  cls = e.cls;
  link = e.link;
  size = e.size;
  messages = e.messages;
  bits = e.bits;
  stored = length e.stored;
  busy = e.busy;
  recall = e.recall;
  interrupts = e.interrupts;
}

abbrev pub record_if_any : Pair → Option model.Endpoint → Option Record
record_if_any pair None = None
record_if_any pair (Some e) = Some (record_of pair e)

-- the record of a pair, if it has an endpoint
abbrev pub record_in : Pair → Ends → Option Record
record_in pair m = record_if_any pair (get m pair)
