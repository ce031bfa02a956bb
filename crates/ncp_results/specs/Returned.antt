-- Results for C, as records of numbers.
use Rattle.std.specs.Prelude.{ℕ, List, Bool, true, false, not, ◌&&◌, ◌||◌, if◌then◌else◌, Option, None, Some, Result, Ok, Err}
use Rattle.ncp_conn.specs.declared.record.Role.{Role}
use Rattle.ncp_conn.specs.declared.record.Role.TheVariants.{Send, Receive}
use Rattle.ncp_conn.specs.declared.record.Record.{Record}
use Rattle.ncp_leader.specs.declared.leader.Leader.{Leader}
use Rattle.ncp_leader.specs.declared.leader.Short.{Short}
use Rattle.ncp_leader.specs.declared.fault.MessageFault.{MessageFault}
use Rattle.ncp_leader.specs.declared.fault.MessageFault.TheVariants.{ShortPrefix, M1NotZero, SizeZero, M2NotZero, TextMissing, TextTooLong, NotWhole}
use Rattle.ncp_model.specs.declared.pair.Pair.{Pair}
use Rattle.ncp_model.specs.declared.outcomes.Error.{Error}
use Rattle.ncp_model.specs.declared.outcomes.Took.{Took}
use Rattle.ncp_model.specs.declared.outcomes.Took.TheVariants as took
use Rattle.ncp_peer.specs.declared.counts.Counts.{Counts}
use Rattle.ncp_host.specs.declared.ignored.Ignored.{Ignored}
use Rattle.ncp_phase.specs.declared.flags.Flags.{Flags}
use Rattle.ncp_peer.specs.declared.received.Received.{Received}
use Rattle.ncp_peer.specs.declared.received.Received.TheVariants as received
use Rattle.ncp_results.specs.declared.commands.Tally.{Tally}
use Rattle.ncp_results.specs.declared.connection.ConnectionInfo.{ConnectionInfo}
use Rattle.ncp_results.specs.declared.returned.Arrived.{Arrived}
use Rattle.ncp_results.specs.declared.returned.PeerCounts.{PeerCounts}
use Rattle.ncp_results.specs.declared.returned.IgnoredCounts.{IgnoredCounts}
use Rattle.ncp_results.specs.declared.returned.ErrCommand.{ErrCommand}
use Rattle.ncp_results.specs.declared.returned.PeerFlags.{PeerFlags}
use Rattle.ncp_results.specs.Commands.{command_tally_of}

-- in the order of the checks
abbrev pub number_of_message_fault : MessageFault → ℕ
number_of_message_fault ShortPrefix = 1
number_of_message_fault M1NotZero = 2
number_of_message_fault SizeZero = 3
number_of_message_fault M2NotZero = 4
number_of_message_fault TextMissing = 5
number_of_message_fault TextTooLong = 6
number_of_message_fault NotWhole = 7

abbrev pub number_of_took : Took → ℕ
number_of_took took.Admitted = 1
number_of_took took.Late = 2
number_of_took took.WrongSize = 3
number_of_took took.Over = 4
number_of_took took.NotOpen = 5

-- a result of receiving bits and its detail, with the host, the link and the type in their leader, if
-- there is one (BBN 1822, section 3)
abbrev pub arrival : Result Leader Short → ℕ → ℕ → Arrived
arrival (Ok leader) what detail = record { what = what; detail = detail; local = 0; remote = 0; errors = 0; resets = 0; peer = leader.host; link = leader.link; kind = leader.kind }
arrival (Err short) what detail = record { what = what; detail = detail; local = 0; remote = 0; errors = 0; resets = 0; peer = 0; link = 0; kind = 0 }

-- with the sockets of a connection, if there is one
abbrev pub led_to : Option Pair → Arrived → Arrived
led_to None arrived = arrived
led_to (Some pair) arrived = record arrived { local = pair.local; remote = pair.remote }

-- with the numbers of ERRs and RSTs among the commands read
abbrev pub with_tally : Tally → Arrived → Arrived
with_tally t arrived = record arrived { errors = t.errors; resets = t.resets }

-- the type in a leader (BBN 1822, section 3); that of an answer gives the result of the message
abbrev pub kind_of_leader : Result Leader Short → ℕ
kind_of_leader (Ok leader) = leader.kind
kind_of_leader (Err short) = 0

-- in the order of the checks; a text with the connection that its link identifies, a control message with
-- its tally
abbrev pub arrived_of : Option Pair → Result Leader Short → List Bool → Received → Arrived
arrived_of pair leader bits received.Short = arrival leader 1 0
arrived_of pair leader bits (received.Other kind) = arrival leader 2 kind
arrived_of pair leader bits received.Unknown = arrival leader 3 0
arrived_of pair leader bits received.Stray = arrival leader 4 0
arrived_of pair leader bits received.Answered = arrival leader 5 (kind_of_leader leader)
arrived_of pair leader bits (received.Fault fault) = arrival leader 6 (number_of_message_fault fault)
arrived_of pair leader bits received.WrongLink = arrival leader 7 0
arrived_of pair leader bits received.WrongSize = arrival leader 8 0
arrived_of pair leader bits (received.Control commands) = with_tally (command_tally_of bits) (arrival leader 9 commands)
arrived_of pair leader bits (received.Text took) = led_to pair (arrival leader 10 (number_of_took took))
arrived_of pair leader bits received.NotUp = arrival leader 11 0

abbrev pub phase_of : Flags → PeerFlags
phase_of f = record { down = f.down; want = f.want; owe = f.owe; wait = f.wait }

-- no flag is set (NIC 8246, reset: both sides are up once RST and RRP were exchanged)
abbrev pub are_flags_up : Flags → Bool
are_flags_up f = not (f.down || f.want || f.owe || f.wait)

abbrev pub counted_returned : Counts → PeerCounts
counted_returned n = record { stray = n.stray; faults = n.faults; wrong_link = n.wrong_link; wrong_size = n.wrong_size; not_up = n.not_up; late = n.late; over = n.over }

abbrev pub discarded_of : Ignored → IgnoredCounts
discarded_of n = record { short_bits = n.short; other = n.other; unknown = n.unknown }

abbrev pub noted_of : Error → ErrCommand
noted_of e = record { code = e.code; bytes = e.bytes }

abbrev pub is_send_end : Role → Bool
is_send_end Send = true
is_send_end Receive = false

abbrev pub end_that_sends : Bool → Role
end_that_sends sends = if sends then Send else Receive

-- both requests were made, and this side is not closing (NIC 8246, establishment)
abbrev pub is_record_open : Record → Bool
is_record_open r = r.asked && r.heard && not (r.leaving || r.left)

abbrev pub connection_of : Record → ConnectionInfo
connection_of r = record {
  bits = r.bits;
  stored = r.stored;
  interrupts = r.interrupts;
  messages = r.messages;
  link = r.link;
  size = r.size;
  sends = is_send_end r.end;
  asked = r.asked;
  heard = r.heard;
  opened = r.opened;
  leaving = r.leaving;
  left = r.left;
  cls = r.cls;
  busy = r.busy;
  recall = r.recall;
}
