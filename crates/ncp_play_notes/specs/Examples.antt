-- Example notes for the definitions.
use Rattle.std.specs.Prelude.{Bool, true, false, List, [], ◌∷◌, map, Some, None}
use Rattle.ncp_numbers.specs.Bytes.{bits_of_bytes}
use Rattle.ncp_wire.specs.declared.answer.Answer.TheVariants.{Rfnm}
use Rattle.ncp_model.specs.declared.call_fault.CallFault.TheVariants.{Busy, NoEntry, OutOfMemory}
use Rattle.ncp_model.specs.declared.outcomes.Took.TheVariants as took
use Rattle.ncp_model.specs.declared.pair.Pair.{Pair}
use Rattle.ncp_leader.specs.declared.fault.MessageFault.TheVariants.{TextMissing}
use Rattle.ncp_conn.specs.declared.record.Role.TheVariants.{Send, Receive}
use Rattle.ncp_conn.specs.declared.record.Record.{Record}
use Rattle.ncp_phase.specs.declared.flags.Flags.{Flags}
use Rattle.ncp_peer.specs.declared.received.Received.{Received}
use Rattle.ncp_peer.specs.declared.received.Received.TheVariants as received
use Rattle.ncp_transcript.specs.declared.call.Call.TheVariants as calls
use Rattle.ncp_transcript.specs.declared.note.HostNote.{HostNote}
use Rattle.ncp_transcript.specs.declared.note.HostNote.TheVariants as notes
use Rattle.ncp_play_files.specs.declared.file.FileFault.TheVariants.{BadHeader}
use Rattle.ncp_play_notes.specs.declared.fault.PlayFault.{PlayFault}
use Rattle.ncp_play_notes.specs.declared.fault.PlayFault.TheVariants as faults
use Rattle.ncp_play_notes.specs.declared.heading.LineHost.TheVariants.{Host, Side}
use Rattle.ncp_play_notes.specs.declared.heading.LinePrefix.{LinePrefix}

-- the line prefixes of the first note of a host, and of side b
abbrev pub line_prefix_of_host : LinePrefix
line_prefix_of_host = record { number = 1; speaker = Host }

abbrev pub of_side_b : LinePrefix
of_side_b = record { number = 1; speaker = Side 98 }

abbrev pub pair : Pair
pair = record { local = 3; remote = 2 }

-- ---- the first script of one host

abbrev pub flags : Bool → Bool → Bool → Bool → Flags
flags down want owe wait = record { down = down; want = want; owe = owe; wait = wait }

-- RST in a message from host 2
abbrev pub rst_from_2 : List Bool
rst_from_2 = bits_of_bytes (0 ∷ 2 ∷ 0 ∷ 0 ∷ 0 ∷ 8 ∷ 0 ∷ 1 ∷ 0 ∷ 12 ∷ [])

-- RRP, and ECO of 65, in a message to host 2
abbrev pub rrp_and_eco : List Bool
rrp_and_eco = bits_of_bytes (0 ∷ 2 ∷ 0 ∷ 0 ∷ 0 ∷ 8 ∷ 0 ∷ 3 ∷ 0 ∷ 13 ∷ 9 ∷ 65 ∷ [])

abbrev pub first_host_script : List HostNote
first_host_script =
    notes.Phase 2 (flags true false false false)
    ∷ notes.Answered 2 0 Rfnm received.Stray
    ∷ notes.In rst_from_2 (received.Control 1)
    ∷ notes.Phase 2 (flags false false false false)
    ∷ notes.Done (calls.Echo 2 65)
    ∷ notes.Refused (calls.Echo 2 66) Busy
    ∷ notes.Out rrp_and_eco
    ∷ []

-- ---- results

-- a sender that has asked
abbrev pub asked : Record
asked = record {
  end = Send;
  asked = true;
  heard = false;
  opened = false;
  leaving = false;
  left = false;
  cls = false;
  link = 0;
  size = 8;
  messages = 0;
  bits = 0;
  stored = 0;
  busy = false;
  recall = false;
  interrupts = 0;
}

-- each result with more than `ok`
abbrev pub each_result : List HostNote
each_result =
    notes.Took 2 pair 100 (bits_of_bytes (97 ∷ 98 ∷ []))
    ∷ notes.Took 2 pair 100 []
    ∷ notes.State 2 pair (record asked { heard = true; opened = true; link = 2; messages = 1; stored = 8 })
    ∷ notes.State 2 pair asked
    ∷ notes.State 2 pair (record asked { end = Receive; link = 2; left = true })
    ∷ notes.Phase 2 (flags true true true true)
    ∷ notes.Echoed 2 None
    ∷ notes.Echoed 2 (Some 65)
    ∷ notes.Errors 2 []
    ∷ notes.Errors 2 (record { code = 1; bytes = 14 ∷ 0 ∷ 0 ∷ 0 ∷ 0 ∷ 0 ∷ 0 ∷ 0 ∷ 0 ∷ 0 ∷ [] } ∷ [])
    ∷ notes.Counts 2 (record { stray = 1; faults = 2; wrong_link = 3; wrong_size = 4; not_up = 5; late = 6; over = 7 })
    ∷ notes.Ignored (record { short = 1; other = 2; unknown = 3 })
    ∷ notes.Refused (calls.State 2 pair) NoEntry
    ∷ notes.Refused (calls.AskSend 2 3 2 8 64) OutOfMemory
    ∷ []

-- ---- received bits

abbrev pub each_received : List Received
each_received =
    received.Short
    ∷ received.Other 4
    ∷ received.Unknown
    ∷ received.Stray
    ∷ received.Answered
    ∷ received.Fault TextMissing
    ∷ received.WrongLink
    ∷ received.WrongSize
    ∷ received.Control 12
    ∷ received.Text took.Admitted
    ∷ received.Text took.Late
    ∷ received.Text took.WrongSize
    ∷ received.Text took.Over
    ∷ received.Text took.NotOpen
    ∷ received.NotUp
    ∷ []

abbrev pub each_that_came : List HostNote
each_that_came = map (notes.In []) each_received

-- ---- the first lines of a side of two hosts

abbrev pub of_a_side : List HostNote
of_a_side =
    notes.Done (calls.AskReceive 1 3 2 1024)
    ∷ notes.Out (bits_of_bytes (0 ∷ 1 ∷ 2 ∷ 0 ∷ 0 ∷ 8 ∷ 0 ∷ 2 ∷ 0 ∷ 97 ∷ 98 ∷ []))
    ∷ notes.Nothing
    ∷ []

-- ---- faults

abbrev pub each_fault : List PlayFault
each_fault = faults.BadLine 3 ∷ faults.LineTooLong 12 ∷ faults.BadHosts ∷ faults.Feed BadHeader ∷ faults.ReadFailed ∷ faults.WriteFailed ∷ faults.OutOfMemory ∷ []
