-- A ledger as computed from the state of the hosts and the subnet.
use Rattle.std.specs.Prelude.{ℕ, ◌*◌, ◌^◌, ◌==◌, Bool, true, false, ◌&&◌, ◌||◌, not, if◌then◌else◌, List, [], ◌++◌, take, Option, None, Some, Result, Ok, Err}
use Rattle.ncp_numbers.specs.Bytes.{bytes_of}
use Rattle.ncp_leader.specs.declared.fault.MessageFault.{MessageFault}
use Rattle.ncp_leader.specs.Message.{Message, message_in}
use Rattle.ncp_wire.specs.declared.command.Command.{Command}
use Rattle.ncp_control.specs.Reading.{commands_in}
use Rattle.ncp_model.specs.declared.pair.Pair.{Pair}
use Rattle.ncp_model.specs.declared.call_fault.CallFault.{CallFault}
use Rattle.ncp_model.specs.declared.limits.TheConstants.{MAX_WAITING}
use Rattle.ncp_model.specs.Pairs.{is_send, counterpart}
use Rattle.ncp_model.specs.Amounts.{amount, ◌⊕◌, ◌⊑◌, granted, returned}
use Rattle.ncp_proof_headline.specs.Headline.{total_on}
use Rattle.ncp_conn.specs.declared.record.Record.{Record}
use Rattle.ncp_peer.specs.PeerState.{PeerState, control_link}
use Rattle.ncp_host.specs.Host.{state_of}
use Rattle.ncp_peer.specs.Hearing.{control_size}
use Rattle.ncp_peer.specs.PeerCalls.{kept_for}
use Rattle.ncp_host.specs.Calls.{record_told}
use Rattle.ncp_subnet.specs.Transit.{is_delivered}
use Rattle.ncp_world.specs.declared.carrying.Carried.{Carried}
use Rattle.ncp_transcript_two.specs.declared.ledger.Ledger.{Ledger}
use Rattle.ncp_transcript_two.specs.declared.side.Side.{Side}
use Rattle.ncp_transcript_two.specs.Between.{Hosts, other, side_number, host_of, transit_of}
use Rattle.ncp_transcript_two.specs.Underway.{amount_out}

-- the amounts granted and returned by commands on a link, summed; two such sums together; a bound for the
-- sums of `n` commands

abbrev pub carried_on : ℕ → List Command → Carried
carried_on on cs = record { granted = total_on on granted cs; returned = total_on on returned cs }

abbrev pub carried_both : Carried → Carried → Carried
carried_both a b = record { granted = a.granted ⊕ b.granted; returned = a.returned ⊕ b.returned }

abbrev pub OfAtMost : ℕ → Carried → Type 0
OfAtMost n x = (x.granted ⊑ amount (n * 2 ^ 32) (n * 2 ^ 32)) × (x.returned ⊑ amount (n * 2 ^ 32) (n * 2 ^ 32))

-- the commands of a control message, which has bytes of eight bits

abbrev pub control_commands : Result Message MessageFault → List Command
control_commands (Err fault) = []
control_commands (Ok m) = if m.size == control_size then commands_in (bytes_of m.text) else []

abbrev pub commands_kept : Option (List Bool) → List Command
commands_kept None = []
commands_kept (Some m) = control_commands (message_in m)

-- the queued commands
abbrev pub waiting_of : Option PeerState → List Command
waiting_of None = []
waiting_of (Some s) = s.peer.phase.waiting

-- the message that a side keeps on a link, unless it has arrived

abbrev pub unless_came : Bool → Option (List Bool) → Option (List Bool)
unless_came true kept = None
unless_came false kept = kept

abbrev pub kept_from : Side → ℕ → Hosts → Option (List Bool)
kept_from side link w = unless_came (is_delivered (transit_of side link w)) (kept_for (state_of (host_of side w) (side_number (other side) w)) link)

-- the commands underway from a side: those of that message, and the queued ones
abbrev pub commands_from : Side → Hosts → List Command
commands_from side w = commands_kept (kept_from side control_link w) ++ take MAX_WAITING (waiting_of (state_of (host_of side w) (side_number (other side) w)))

-- the record of an open endpoint

abbrev pub is_open_record : Record → Bool
is_open_record r = r.asked && r.heard && not (r.leaving || r.left)

abbrev pub if_open : Result Record CallFault → Option Record
if_open (Err fault) = None
if_open (Ok r) = if is_open_record r then Some r else None

abbrev pub open_at : Side → Pair → Hosts → Option Record
open_at side pair w = if_open (record_told (side_number (other side) w) pair (host_of side w))

-- the ledger of two open endpoints

abbrev pub ledger_with : Side → Hosts → Record → Record → Ledger
ledger_with side w sender receiver = record {
  outstanding = amount receiver.messages receiver.bits;
  counters = amount sender.messages sender.bits;
  all = total_on sender.link granted (commands_from (other side) w);
  text = amount_out (kept_from side sender.link w);
  ret = total_on sender.link returned (commands_from side w);
}

abbrev pub ledger_if : Side → Hosts → Option Record → Option Record → Option Ledger
ledger_if side w None receiver = None
ledger_if side w (Some s) None = None
ledger_if side w (Some s) (Some r) = Some (ledger_with side w s r)

abbrev pub ledger_read : Side → Pair → Hosts → Option Ledger
ledger_read side pair w = if is_send pair.local then ledger_if side w (open_at side pair w) (open_at (other side) (counterpart pair) w) else None
