-- Calls on the connection between two sockets, and listings of the connections, for the host of a handle.
use Rattle.std.specs.Prelude.{ℕ, Bool, Option, Result}
use Rattle.ncp_model.specs.declared.pair.Pair.{Pair}
use Rattle.ncp_model.specs.declared.call_fault.CallFault.{CallFault}
use Rattle.ncp_model.specs.Peers.{PairCall}
use Rattle.ncp_conn.specs.declared.record.Record.{Record}
use Rattle.ncp_host.specs.Host.{Host}
use Rattle.ncp_host.specs.Calls.{call_reply, after_call_to, record_told}
use Rattle.ncp_host.specs.Listing.{connection_returned, pair_returned}
use Rattle.ncp_results.specs.declared.changes.Changes.{Changes}
use Rattle.ncp_results.specs.declared.connection.ConnectionInfo.{ConnectionInfo}
use Rattle.ncp_embed.specs.declared.which.ConnectionId.{ConnectionId}
use Rattle.ncp_embed.specs.declared.handle.held.BoxedHost.{BoxedHost}
use Rattle.ncp_embed.specs.Which.{of_which, which_between}
use Rattle.ncp_results.specs.Changes.{changes_between, connection_read}
use Rattle.ncp_embed.specs.Exports.{code_in, host_changed_in, AnswersOrNoMemory, formed_in, found_formed_in}
use Rattle.ncp_results.specs.Returned.{connection_of, end_that_sends}

-- a call: its code, and the host after it

abbrev pub code_of_call : ConnectionId → PairCall → Option BoxedHost → ℕ
code_of_call which call at = code_in (of_which call_reply which call) at

abbrev pub host_called : ConnectionId → PairCall → Option BoxedHost → Option BoxedHost
host_called which call at = host_changed_in (of_which after_call_to which call) at

-- a call that allocates
abbrev pub Tries : ConnectionId → PairCall → ℕ → Option BoxedHost → Option BoxedHost → Type 0
Tries which call result before now =
    AnswersOrNoMemory (code_of_call which call before) (host_called which call before) result before now

-- a result is copied to the output, if there is one
abbrev pub returned_copied : {A : Type 0} → (Host → Result A CallFault) → Option BoxedHost → A → A
returned_copied reply at out = formed_in (λ answer. answer) reply at out

-- the present reading of a connection, and the changes since it was seen
abbrev pub reading_returned : ConnectionId → Host → Result (Option ConnectionInfo) CallFault
reading_returned which h = connection_read (of_which record_told which h)

abbrev pub changes_read : ConnectionId → ConnectionInfo → Option BoxedHost → Changes → Changes
changes_read which seen at out = formed_in (changes_between seen) (reading_returned which) at out

-- the connection at an index of a peer: its identity and its record

abbrev pub listed_at : ℕ → ConnectionId → Host → Result (Option (Pair × Record)) CallFault
listed_at place which h = connection_returned which.peer place h

abbrev pub which_at : ℕ → ConnectionId → Option BoxedHost → ConnectionId
which_at place which at = found_formed_in (λ known. which_between which known.0) (listed_at place which) at which

abbrev pub known_connection : Pair × Record → ConnectionInfo
known_connection known = connection_of known.1

-- the connection that a link with a peer identifies, at the endpoint that sends here or at the one that
-- receives

abbrev pub pair_on : Bool → ℕ → ConnectionId → Host → Result (Option Pair) CallFault
pair_on sends link which h = pair_returned which.peer (end_that_sends sends) link h

abbrev pub which_on : Bool → ℕ → ConnectionId → Option BoxedHost → ConnectionId
which_on sends link which at = found_formed_in (which_between which) (pair_on sends link which) at which
