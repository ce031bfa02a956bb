-- Changes of a connection between two readings: the one seen last, and the present one. If there was no
-- connection, all of the first is 0 and false. (NIC 8246, establishment, allocation, interrupts,
-- closing.)
use Rattle.std.specs.Prelude.{Bool, false, not, ◌&&◌, ◌||◌, nat_lt, if◌then◌else◌, Option, None, Some, Result, Ok, Err}
use Rattle.ncp_conn.specs.declared.record.Record.{Record}
use Rattle.ncp_model.specs.declared.call_fault.CallFault.{CallFault}
use Rattle.ncp_model.specs.declared.call_fault.CallFault.TheVariants.{NoEntry}
use Rattle.ncp_results.specs.declared.changes.Changes.{Changes}
use Rattle.ncp_results.specs.declared.connection.ConnectionInfo.{ConnectionInfo}
use Rattle.ncp_results.specs.Returned.{connection_of}

abbrev pub no_connection : ConnectionInfo
no_connection = record {
  bits = 0;
  stored = 0;
  interrupts = 0;
  messages = 0;
  link = 0;
  size = 0;
  sends = false;
  asked = false;
  heard = false;
  opened = false;
  leaving = false;
  left = false;
  cls = false;
  busy = false;
  recall = false;
}

-- this side had closed it, and no CLS of the peer had been received
abbrev pub is_closed_here : ConnectionInfo → Bool
is_closed_here c = (c.leaving || c.left) && not c.cls

abbrev pub no_changes : Changes
no_changes = record {
  closed = false;
  refused = false;
  ended = false;
  asks = false;
  opened = false;
  text = false;
  allowed = false;
  delivered = false;
  interrupted = false;
  closes = false;
}

-- the peer asks, and there is no local request
abbrev pub peer_asks : ConnectionInfo → ConnectionInfo → Bool
peer_asks seen now = now.heard && not (seen.heard || now.asked)

-- a receiver holds more
abbrev pub is_more_held : ConnectionInfo → ConnectionInfo → Bool
is_more_held seen now = nat_lt seen.stored now.stored && not now.sends

-- a sender may send more messages, or more bits
abbrev pub is_more_allowed : ConnectionInfo → ConnectionInfo → Bool
is_more_allowed seen now = now.sends && (nat_lt seen.messages now.messages || nat_lt seen.bits now.bits)

-- a flag was set
abbrev pub became : Bool → Bool → Bool
became seen now = now && not seen

-- the changes of one that exists; the text that was unacknowledged was delivered if the sender is no
-- longer busy
abbrev pub changes_of : ConnectionInfo → ConnectionInfo → Changes
changes_of seen now = record no_changes {
  asks = peer_asks seen now;
  opened = became seen.opened now.opened;
  text = is_more_held seen now;
  allowed = is_more_allowed seen now;
  delivered = became now.busy seen.busy;
  interrupted = nat_lt seen.interrupts now.interrupts;
  closes = became seen.cls now.cls;
}

-- the changes of one that no longer exists: closed first by this side; or else by the peer, which refused
-- the local request, or had asked too
abbrev pub ending_of : ConnectionInfo → Changes
ending_of seen = record no_changes {
  closed = is_closed_here seen;
  refused = seen.asked && not seen.heard && not (is_closed_here seen);
  ended = seen.heard && not (is_closed_here seen);
}

-- the one seen before ended, and one between the same sockets began since: during one connection none of
-- these flags is cleared
abbrev pub is_another : ConnectionInfo → ConnectionInfo → Bool
is_another seen now =
    became now.asked seen.asked || became now.heard seen.heard || became now.opened seen.opened || became now.left seen.left || became now.cls seen.cls

-- how it ended, and the changes of the one that began
abbrev pub changes_anew : ConnectionInfo → ConnectionInfo → Changes
changes_anew seen now = record (changes_of no_connection now) { closed = (ending_of seen).closed; refused = (ending_of seen).refused; ended = (ending_of seen).ended }

abbrev pub changes_since : ConnectionInfo → ConnectionInfo → Changes
changes_since seen now = if is_another seen now then changes_anew seen now else changes_of seen now

abbrev pub changes_between : ConnectionInfo → Option ConnectionInfo → Changes
changes_between seen None = ending_of seen
changes_between seen (Some now) = changes_since seen now

-- the reading kept for the next comparison
abbrev pub seen_of : Option ConnectionInfo → ConnectionInfo
seen_of None = no_connection
seen_of (Some now) = now

-- the reading of a connection, or none if it does not exist
abbrev pub connection_read : Result Record CallFault → Result (Option ConnectionInfo) CallFault
connection_read (Ok r) = Ok (Some (connection_of r))
connection_read (Err NoEntry) = Ok None
connection_read (Err fault) = Err fault
