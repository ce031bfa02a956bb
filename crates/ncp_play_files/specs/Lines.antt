-- The lines that `show` prints of a record, as functions of its message.
use Rattle.std.specs.Prelude.{ℕ, ◌==◌, ◌&&◌, Bool, false, List, [], ◌∷◌, ◌++◌, length, Option, Some, None, Result, Ok, codes, decimal, if◌then◌else◌}
use Rattle.std.specs.declared.result.Result.TheVariants.{Err as Fault}
use Rattle.std.specs.List.{flat_map}
use Rattle.ncp_numbers.specs.Bytes.{bytes_of}
use Rattle.ncp_leader.specs.declared.leader.Leader.{Leader}
use Rattle.ncp_leader.specs.declared.leader.Short.{Short}
use Rattle.ncp_leader.specs.declared.fault.MessageFault.{MessageFault}
use Rattle.ncp_leader.specs.Leader.{leader_in}
use Rattle.ncp_leader.specs.Fault.{name_of_message_fault}
use Rattle.ncp_leader.specs.Message.{Message, message_in}
use Rattle.ncp_wire.specs.declared.command.Command.{Command}
use Rattle.ncp_wire.specs.declared.command.Command.TheVariants.{Nop, Rts, Str, Cls, All as Allocate, Gvb, Ret, Inr, Ins, Eco, Erp, Err, Rst, Rrp}
use Rattle.ncp_wire.specs.declared.fault.CommandFault.{CommandFault}
use Rattle.ncp_control.specs.Texts.{items_of}
use Rattle.ncp_control.specs.Reading.{commands_in, fault_in}
use Rattle.ncp_play_files.specs.declared.file.Direction.{Direction}
use Rattle.ncp_play_files.specs.declared.file.Direction.TheVariants.{ToImp, FromImp}
use Rattle.ncp_play_files.specs.declared.version.CapturePoint.{CapturePoint}
use Rattle.ncp_play_buffer.specs.Lines.{field, hex_of, number_after}
use Rattle.ncp_play_files.specs.Versions.{Recorded}

-- ---- the first line

-- a type without a name
abbrev pub nameless : ℕ → List ℕ
nameless kind = field (codes "type-") kind

-- the name of a type that is named in one direction only
abbrev pub name_toward : Direction → ℕ → List ℕ
name_toward ToImp kind = nameless kind
name_toward FromImp kind =
    if kind == 2 then codes "going-down"
    else if kind == 5 then codes "rfnm"
    else if kind == 7 then codes "dead"
    else if kind == 9 then codes "incomplete"
    else nameless kind

-- the name of a message's type (BBN 1822, section 3)
abbrev pub kind_name : Direction → ℕ → List ℕ
kind_name direction kind =
    if kind == 0 then codes "regular"
    else if kind == 4 then codes "nop"
    else name_toward direction kind

-- flags and low field, if one of them is not zero
abbrev pub extras : Leader → List ℕ
extras leader =
    if (leader.flags == 0) && (leader.low == 0) then []
    else field (codes " flags=") leader.flags ++ field (codes " low=") leader.low

-- the rest of the line after the number of a record
abbrev pub summary : Direction → Result Leader Short → List ℕ
summary direction (Fault short) = codes " short\n"
summary direction (Ok leader) =
    codes " " ++ kind_name direction leader.kind ++ field (codes " host=") leader.host ++ field (codes " link=") leader.link ++ extras leader
    ++ codes "\n"

-- the direction of a message and its host, if the file names the host
abbrev pub way_words : Direction → Option ℕ → List ℕ
way_words direction None = []
way_words ToImp (Some host) = field (codes " to-imp at=") host
way_words FromImp (Some host) = field (codes " from-imp at=") host

abbrev pub capture_point_words : CapturePoint → List ℕ
capture_point_words capture_point = way_words capture_point.direction capture_point.at

-- the first line of the record with this number
abbrev pub record_first_line : CapturePoint → ℕ → List Bool → List ℕ
record_first_line capture_point number message = decimal number ++ capture_point_words capture_point ++ summary capture_point.direction (leader_in message)

-- ---- the detail lines of a regular message

-- a command's name and fields
abbrev pub command_words : Command → List ℕ
command_words Nop = codes "NOP"
command_words (Rts receive send link) = codes "RTS" ++ field (codes " receive=") receive ++ field (codes " send=") send ++ field (codes " link=") link
command_words (Str send receive size) = codes "STR" ++ field (codes " send=") send ++ field (codes " receive=") receive ++ field (codes " size=") size
command_words (Cls my your) = codes "CLS" ++ field (codes " my=") my ++ field (codes " your=") your
command_words (Allocate link messages bits) = codes "ALL" ++ field (codes " link=") link ++ field (codes " messages=") messages ++ field (codes " bits=") bits
command_words (Gvb link fm fb) = codes "GVB" ++ field (codes " link=") link ++ field (codes " fm=") fm ++ field (codes " fb=") fb
command_words (Ret link messages bits) = codes "RET" ++ field (codes " link=") link ++ field (codes " messages=") messages ++ field (codes " bits=") bits
command_words (Inr link) = codes "INR" ++ field (codes " link=") link
command_words (Ins link) = codes "INS" ++ field (codes " link=") link
command_words (Eco byte) = codes "ECO" ++ field (codes " data=") byte
command_words (Erp byte) = codes "ERP" ++ field (codes " data=") byte
command_words (Err code bytes) = codes "ERR" ++ field (codes " code=") code ++ codes " data=" ++ hex_of bytes
command_words Rst = codes "RST"
command_words Rrp = codes "RRP"

-- a fault of a control text
abbrev pub bad_words : CommandFault → List ℕ
bad_words fault = codes "bad" ++ field (codes " code=") fault.code ++ codes " data=" ++ hex_of fault.bytes

-- a command, or the fault after the last one
abbrev pub item_words : Result Command CommandFault → List ℕ
item_words (Ok command) = command_words command
item_words (Fault fault) = bad_words fault

-- a line for each command, and one for the fault
abbrev pub item_line : Result Command CommandFault → List ℕ
item_line item = codes "  " ++ item_words item ++ codes "\n"

abbrev pub control_lines : List ℕ → List ℕ
control_lines bytes = flat_map item_line (items_of (commands_in bytes) (fault_in bytes))

-- the bytes of a text that is not empty
abbrev pub text_word : List Bool → List ℕ
text_word text = if length text == 0 then [] else codes " " ++ hex_of (bytes_of text)

abbrev pub text_line : List Bool → List ℕ
text_line text = field (codes "  text bits=") (length text) ++ text_word text ++ codes "\n"

-- the control link is link 0
abbrev pub is_on_control_link : Message → Bool
is_on_control_link message = message.leader.link == 0

-- a control message: it is on the control link, and its bytes have eight bits
abbrev pub is_control : Message → Bool
is_control message = is_on_control_link message && (message.size == 8)

abbrev pub text_lines : Message → List ℕ
text_lines message = if is_control message then control_lines (bytes_of message.text) else text_line message.text

abbrev pub size_line : Message → List ℕ
size_line message = field (codes "  size=") message.size ++ field (codes " count=") message.count ++ codes "\n"

abbrev pub message_fault_line : MessageFault → List ℕ
message_fault_line fault = codes "  fault " ++ name_of_message_fault fault ++ codes "\n"

abbrev pub message_lines : Result Message MessageFault → List ℕ
message_lines (Fault fault) = message_fault_line fault
message_lines (Ok message) = size_line message ++ text_lines message

-- ---- records

-- a message of type 0
abbrev pub is_regular_leader : Result Leader Short → Bool
is_regular_leader (Fault short) = false
is_regular_leader (Ok leader) = leader.kind == 0

abbrev pub details : List Bool → List ℕ
details message = if is_regular_leader (leader_in message) then message_lines (message_in message) else []

-- the lines of the record with this number
abbrev pub record_lines : ℕ → Recorded → List ℕ
record_lines number shown = record_first_line shown.capture_point number shown.message ++ details shown.message

-- the lines of each record, one after the other, from this number on
abbrev pub lines_printed_from : {X : Type 0} → (ℕ → X → List ℕ) → ℕ → List X → List ℕ
lines_printed_from lines number [] = []
lines_printed_from lines number (first ∷ more) = lines number first ++ lines_printed_from lines (number_after number) more

-- the lines of records from this number on
abbrev pub record_lines_from : ℕ → List Recorded → List ℕ
record_lines_from number records = lines_printed_from record_lines number records
