-- More example notes, histories and counts for the definitions.
use Rattle.std.specs.Prelude.{ℕ, Bool, true, false, List, [], ◌∷◌, Some}
use Rattle.ncp_wire.specs.declared.command.Command.{Command}
use Rattle.ncp_wire.specs.declared.fault.CommandFault.{CommandFault}
use Rattle.ncp_model.specs.declared.pair.Pair.{Pair}
use Rattle.ncp_model.specs.declared.outcomes.Error.{Error}
use Rattle.ncp_model.specs.declared.call_fault.CallFault.TheVariants.{NoEntry}
use Rattle.ncp_model.specs.Amounts.{amount}
use Rattle.ncp_model.specs.Endpoint.{Endpoint}
use Rattle.ncp_model.specs.Rows.{inward, ones}
use Rattle.ncp_model.specs.EndpointEvents.{EndpointEvent, happens}
use Rattle.ncp_model.specs.Phase.{Phase, up_phase}
use Rattle.ncp_proof_endpoint.specs.Histories.{PairHistory, no_past}
use Rattle.ncp_conn.specs.declared.record.Role.TheVariants.{Receive}
use Rattle.ncp_conn.specs.declared.record.Record.{Record}
use Rattle.ncp_peer.specs.declared.counts.Counts.{Counts}
use Rattle.ncp_phase.specs.declared.flags.Flags.{Flags}
use Rattle.ncp_peer.specs.Counting.{no_counts}
use Rattle.ncp_peer.specs.PeerState.{PeerState, new_state}
use Rattle.ncp_transcript.specs.declared.call.Call.{Call}
use Rattle.ncp_transcript.specs.declared.note.HostNote.{HostNote}
use Rattle.ncp_proof_runs.specs.Acts.{Acted}
use Rattle.ncp_proof_runs.specs.Histories.{past_then}
use Rattle.ncp_proof_runs.specs.Making.{Made, nothing_made}
use Rattle.ncp_proof_runs.specs.Marks.{Marks, no_marks}
use Rattle.ncp_proof_runs.specs.Echoing.{EchoHistory, no_echo}
use Rattle.ncp_proof_runs.specs.Counted.{counted_heard_all}
use Rattle.ncp_proof_runs.specs.Examples.{asking, is_asked, allocating, gets, cls_comes, one_error, other_error, echo_before}

-- notes for a peer and a pair: a take, a gift, an allocation, both requests, a close, a reset, a record,
-- and no entry

abbrev pub a_take : ℕ → List Bool → ℕ → Pair → HostNote
a_take bytes text n pair = HostNote.Took n pair bytes text

abbrev pub a_gift : List Bool → ℕ → Pair → HostNote
a_gift text n pair = HostNote.Done (Call.Give n pair text)

abbrev pub a_grant : ℕ → ℕ → ℕ → Pair → HostNote
a_grant messages bits n pair = HostNote.Done (Call.Allocate n pair messages bits)

abbrev pub an_ask_to_send : ℕ → ℕ → ℕ → Pair → HostNote
an_ask_to_send of_size room n pair = HostNote.Done (Call.AskSend n pair.local pair.remote of_size room)

abbrev pub an_ask_to_receive : ℕ → ℕ → Pair → HostNote
an_ask_to_receive room n pair = HostNote.Done (Call.AskReceive n pair.local pair.remote room)

abbrev pub a_close : ℕ → Pair → HostNote
a_close n pair = HostNote.Done (Call.Close n pair)

abbrev pub a_reset_done : ℕ → Pair → HostNote
a_reset_done n pair = HostNote.Done (Call.Reset n)

abbrev pub a_state : Record → ℕ → Pair → HostNote
a_state r n pair = HostNote.State n pair r

abbrev pub no_entry : ℕ → Pair → HostNote
no_entry n pair = HostNote.Refused (Call.State n pair) NoEntry

-- the host is down with a peer, and nothing is wanted or owed
abbrev pub down_alone : Flags
down_alone = record { down = true; want = false; owe = false; wait = false }

-- `cs` were made, and `many` of them were sent; then: one was sent, and the first two were made before a
-- clearing; these were made, and those received
abbrev pub made_so_far : List Command → ℕ → Made
made_so_far cs many = record nothing_made { all = cs; gone = many }

abbrev pub made_and_cleared : List Command → Made
made_and_cleared cs = record (made_so_far cs 1) { cleared = 2 }

abbrev pub one_of_two_gone : Made
one_of_two_gone = made_so_far (Command.Eco 1 ∷ Command.Eco 2 ∷ []) 1

abbrev pub came_alone : List Command → Made
came_alone others = record nothing_made { came = others }

abbrev pub made_and_came : List Command → List Command → Made
made_and_came cs others = record nothing_made { all = cs; came = others }

-- an RRP is owed, and an RST is wanted; then: both were made
abbrev pub both_due : Phase
both_due = record up_phase { owe = true; want = true }

abbrev pub both_made : Made
both_made = record nothing_made { all = Command.Rrp ∷ Command.Rst ∷ []; began = true; got_answer = false }

-- the history of a pair that receives, after an event on its endpoint
abbrev pub past_inward : Endpoint → EndpointEvent → PairHistory → PairHistory
past_inward before what past = past_then (Some before) what (happens inward what (Some before)) past

-- two bytes were got; then: one was got and taken; one was returned
abbrev pub two_bytes_got : PairHistory
two_bytes_got = record no_past { got = ones 16 }

abbrev pub one_byte_taken : PairHistory
one_byte_taken = record no_past { got = ones 8; taken = ones 8 }

abbrev pub one_byte_returned : PairHistory
one_byte_returned = record no_past { returned = amount 1 8 }

-- the echo is no longer awaited; then: an ERR arrives, as the second of two
abbrev pub echo_ended : EchoHistory
echo_ended = record echo_before { asked = false }

abbrev pub an_err : Command
an_err = Command.Err 4 (9 ∷ [])

abbrev pub two_errors : List Error
two_errors = one_error ∷ other_error ∷ []

-- the counts of commands, also while the host is not up; a fault of code 1, without bytes; a count of
-- seven of one kind
abbrev pub counts_from : List Command → PeerState → EchoHistory → Counts
counts_from cs s t = counted_heard_all cs s t no_counts

abbrev pub counts_while_down : List Command → Counts
counts_while_down cs = counts_from cs new_state no_echo

abbrev pub fault_of_1 : CommandFault
fault_of_1 = record { code = 1; bytes = [] }

abbrev pub some_late : Counts
some_late = record no_counts { late = 7 }

-- events on a pair that receives, up to its opening; up to a text received; up to the peer's CLS
abbrev pub it_opens : List Acted
it_opens = asking ∷ is_asked ∷ []

abbrev pub it_gets : List Acted
it_gets = asking ∷ is_asked ∷ allocating ∷ gets ∷ []

abbrev pub it_is_closed : List Acted
it_is_closed = asking ∷ is_asked ∷ allocating ∷ gets ∷ cls_comes ∷ []

-- the local request is marked, or both; a sender was granted two messages and 16 bits, and returned one;
-- the record of a receiver that holds two bytes
abbrev pub asked_alone : Marks
asked_alone = record no_marks { asked = true; link = 2; room = 64 }

abbrev pub both_asked : Marks
both_asked = record asked_alone { heard = true; size = 8 }

abbrev pub two_granted : Marks
two_granted = record no_marks { granted = amount 2 16 }

abbrev pub one_of_two_back : Marks
one_of_two_back = record two_granted { returned = amount 1 16 }

abbrev pub record_of_two_bytes : Record
record_of_two_bytes = record {
  end = Receive;
  asked = true;
  heard = true;
  opened = true;
  leaving = false;
  left = false;
  cls = false;
  link = 2;
  size = 8;
  messages = 2;
  bits = 16;
  stored = 16;
  busy = false;
  recall = false;
  interrupts = 0;
}
