-- What `count` counts and writes: the messages of each kind, and the commands of each name.
use Rattle.std.specs.Prelude.{◌≡◌, ◌⊎◌, ℕ, ◌==◌, Bool, true, false, List, [], ◌∷◌, ◌++◌, count_by, Option, Some, None, Result, Ok, codes, if◌then◌else◌}
use Rattle.std.specs.declared.result.Result.TheVariants.{Err as Fault}
use Rattle.std.specs.List.{flat_map}
use Rattle.ncp_numbers.specs.Bytes.{bytes_of}
use Rattle.ncp_leader.specs.declared.leader.Leader.{Leader}
use Rattle.ncp_leader.specs.declared.leader.Short.{Short}
use Rattle.ncp_leader.specs.declared.fault.MessageFault.{MessageFault}
use Rattle.ncp_leader.specs.Leader.{leader_in}
use Rattle.ncp_leader.specs.Message.{Message, message_in}
use Rattle.ncp_wire.specs.declared.command.Command.{Command}
use Rattle.ncp_wire.specs.declared.command.Command.TheVariants.{Nop, Rts, Str, Cls, All as Allocate, Gvb, Ret, Inr, Ins, Eco, Erp, Err, Rst, Rrp}
use Rattle.ncp_control.specs.Reading.{commands_in}
use Rattle.ncp_play_files.specs.declared.counting.MessageKind.{MessageKind}
use Rattle.ncp_play_files.specs.declared.counting.MessageKind.TheVariants as kinds
use Rattle.ncp_play_files.specs.declared.counting.MessageCounts.{MessageCounts}
use Rattle.ncp_play_files.specs.declared.counting.CommandCounts.{CommandCounts}
use Rattle.ncp_play_files.specs.declared.counting.Counting.{Counting}
use Rattle.ncp_play_files.specs.declared.file.Direction.{Direction}
use Rattle.ncp_play_files.specs.declared.file.Direction.TheVariants.{ToImp, FromImp}
use Rattle.ncp_play_files.specs.declared.file.FileFault.{FileFault}
use Rattle.ncp_play_files.specs.Results.{MatchFault}
use Rattle.ncp_play_files.specs.File.{IsCut}
use Rattle.ncp_play_files.specs.Versions.{Recorded}
use Rattle.ncp_play_files.specs.Lines.{is_regular_leader, is_control}
use Rattle.ncp_play_files.specs.Checked.{capped, FileHolds}
use Rattle.ncp_play_files.specs.Tallies.{one_more_where}
use Rattle.ncp_play_files.specs.Passes.{PassRules}
use Rattle.ncp_play_files.specs.Writing.{Wrote, WritesAll, WritesRead, WritesPrefix}
use Rattle.ncp_play_buffer.specs.Lines.{field}

-- ---- the kind of a message

-- a type that is named in one direction only
abbrev pub kind_toward : Direction → ℕ → MessageKind
kind_toward ToImp kind = kinds.Other
kind_toward FromImp kind =
    if kind == 2 then kinds.GoingDown
    else if kind == 5 then kinds.Rfnm
    else if kind == 7 then kinds.Dead
    else if kind == 9 then kinds.Incomplete
    else kinds.Other

-- the kind of a message, by its type (BBN 1822, section 3)
abbrev pub kind_of : Direction → ℕ → MessageKind
kind_of direction kind =
    if kind == 0 then kinds.Regular
    else if kind == 4 then kinds.Nop
    else kind_toward direction kind

abbrev pub kind_with_leader : Direction → Result Leader Short → MessageKind
kind_with_leader direction (Fault short) = kinds.Short
kind_with_leader direction (Ok leader) = kind_of direction leader.kind

abbrev pub kind_of_record : Recorded → MessageKind
kind_of_record seen = kind_with_leader seen.capture_point.direction (leader_in seen.message)

-- its row in the output
abbrev pub row_of_kind : MessageKind → ℕ
row_of_kind kinds.Short = 0
row_of_kind kinds.Regular = 1
row_of_kind kinds.GoingDown = 2
row_of_kind kinds.Nop = 3
row_of_kind kinds.Rfnm = 4
row_of_kind kinds.Dead = 5
row_of_kind kinds.Incomplete = 6
row_of_kind kinds.Other = 7

abbrev pub has_kind : MessageKind → Recorded → Bool
has_kind kind seen = row_of_kind (kind_of_record seen) == row_of_kind kind

-- ---- its commands

-- a message without a fault on the control link, in bytes of eight bits, has commands
abbrev pub commands_said : Result Message MessageFault → List Command
commands_said (Fault fault) = []
commands_said (Ok message) = if is_control message then commands_in (bytes_of message.text) else []

abbrev pub commands_of_record : Recorded → List Command
commands_of_record seen = if is_regular_leader (leader_in seen.message) then commands_said (message_in seen.message) else []

-- a command's opcode (NIC 8246), its row in the output
abbrev pub opcode_of : Command → ℕ
opcode_of Nop = 0
opcode_of (Rts receive send link) = 1
opcode_of (Str send receive size) = 2
opcode_of (Cls my your) = 3
opcode_of (Allocate link messages bits) = 4
opcode_of (Gvb link fm fb) = 5
opcode_of (Ret link messages bits) = 6
opcode_of (Inr link) = 7
opcode_of (Ins link) = 8
opcode_of (Eco byte) = 9
opcode_of (Erp byte) = 10
opcode_of (Err code bytes) = 11
opcode_of Rst = 12
opcode_of Rrp = 13

abbrev pub has_opcode : ℕ → Command → Bool
has_opcode opcode command = opcode_of command == opcode

-- ---- the counts

-- the number of items that pass a test; it saturates
abbrev pub capped_count : {X : Type 0} → (X → Bool) → List X → ℕ
capped_count test items = capped (count_by test items)

-- the messages of each kind
abbrev pub messages_counted : List Recorded → MessageCounts
messages_counted records = record {
  short = capped_count (has_kind kinds.Short) records;
  regular = capped_count (has_kind kinds.Regular) records;
  going_down = capped_count (has_kind kinds.GoingDown) records;
  nop = capped_count (has_kind kinds.Nop) records;
  rfnm = capped_count (has_kind kinds.Rfnm) records;
  dead = capped_count (has_kind kinds.Dead) records;
  incomplete = capped_count (has_kind kinds.Incomplete) records;
  other = capped_count (has_kind kinds.Other) records;
}

-- the commands of each opcode
abbrev pub commands_counted : List Command → CommandCounts
commands_counted commands = record {
  nop = capped_count (has_opcode 0) commands;
  rts = capped_count (has_opcode 1) commands;
  str = capped_count (has_opcode 2) commands;
  cls = capped_count (has_opcode 3) commands;
  all = capped_count (has_opcode 4) commands;
  gvb = capped_count (has_opcode 5) commands;
  ret = capped_count (has_opcode 6) commands;
  inr = capped_count (has_opcode 7) commands;
  ins = capped_count (has_opcode 8) commands;
  eco = capped_count (has_opcode 9) commands;
  erp = capped_count (has_opcode 10) commands;
  err = capped_count (has_opcode 11) commands;
  rst = capped_count (has_opcode 12) commands;
  rrp = capped_count (has_opcode 13) commands;
}

abbrev pub counted : List Recorded → Counting
counted records = record { messages = messages_counted records; commands = commands_counted (flat_map commands_of_record records) }

-- ---- the lines

abbrev pub count_line : List ℕ → ℕ → List ℕ
count_line name number = field name number ++ codes "\n"

abbrev pub message_count_lines : MessageCounts → List ℕ
message_count_lines counts =
    count_line (codes "short=") counts.short ++ count_line (codes "regular=") counts.regular ++ count_line (codes "going-down=") counts.going_down
    ++ count_line (codes "nop=") counts.nop ++ count_line (codes "rfnm=") counts.rfnm ++ count_line (codes "dead=") counts.dead
    ++ count_line (codes "incomplete=") counts.incomplete ++ count_line (codes "other=") counts.other

abbrev pub command_count_lines : CommandCounts → List ℕ
command_count_lines counts =
    count_line (codes "NOP=") counts.nop ++ count_line (codes "RTS=") counts.rts ++ count_line (codes "STR=") counts.str ++ count_line (codes "CLS=") counts.cls
    ++ count_line (codes "ALL=") counts.all ++ count_line (codes "GVB=") counts.gvb ++ count_line (codes "RET=") counts.ret ++ count_line (codes "INR=") counts.inr
    ++ count_line (codes "INS=") counts.ins ++ count_line (codes "ECO=") counts.eco ++ count_line (codes "ERP=") counts.erp ++ count_line (codes "ERR=") counts.err
    ++ count_line (codes "RST=") counts.rst ++ count_line (codes "RRP=") counts.rrp

abbrev pub count_lines : Counting → List ℕ
count_lines counting = message_count_lines counting.messages ++ command_count_lines counting.commands

-- ---- one message more

abbrev pub messages_with : MessageCounts → MessageKind → MessageCounts
messages_with counts kind = record {
  short = one_more_where (row_of_kind kind == 0) counts.short;
  regular = one_more_where (row_of_kind kind == 1) counts.regular;
  going_down = one_more_where (row_of_kind kind == 2) counts.going_down;
  nop = one_more_where (row_of_kind kind == 3) counts.nop;
  rfnm = one_more_where (row_of_kind kind == 4) counts.rfnm;
  dead = one_more_where (row_of_kind kind == 5) counts.dead;
  incomplete = one_more_where (row_of_kind kind == 6) counts.incomplete;
  other = one_more_where (row_of_kind kind == 7) counts.other;
}

abbrev pub commands_with : CommandCounts → Command → CommandCounts
commands_with counts command = record {
  nop = one_more_where (opcode_of command == 0) counts.nop;
  rts = one_more_where (opcode_of command == 1) counts.rts;
  str = one_more_where (opcode_of command == 2) counts.str;
  cls = one_more_where (opcode_of command == 3) counts.cls;
  all = one_more_where (opcode_of command == 4) counts.all;
  gvb = one_more_where (opcode_of command == 5) counts.gvb;
  ret = one_more_where (opcode_of command == 6) counts.ret;
  inr = one_more_where (opcode_of command == 7) counts.inr;
  ins = one_more_where (opcode_of command == 8) counts.ins;
  eco = one_more_where (opcode_of command == 9) counts.eco;
  erp = one_more_where (opcode_of command == 10) counts.erp;
  err = one_more_where (opcode_of command == 11) counts.err;
  rst = one_more_where (opcode_of command == 12) counts.rst;
  rrp = one_more_where (opcode_of command == 13) counts.rrp;
}

abbrev pub commands_counted_from : CommandCounts → List Command → CommandCounts
commands_counted_from counts [] = counts
commands_counted_from counts (command ∷ commands) = commands_counted_from (commands_with counts command) commands

abbrev pub counting_with : Counting → Recorded → Counting
counting_with counting seen = record { messages = messages_with counting.messages (kind_of_record seen); commands = commands_counted_from counting.commands (commands_of_record seen) }

-- `count` as a pass: the lines of the counts at the end, in files of both versions
abbrev pub count_pass : PassRules Counting
count_pass = record {
  State = Counting;
  state = λ pass. pass;
  reads = λ _. true;
  lines = λ _ _ _. [];
  after = λ _ state seen. counting_with state seen;
  closing = λ state _. count_lines state;
  good = λ _. true;
  closes = λ _. true;
  is_prompt = false;
}

-- ---- the file

-- the lines for the records before the first fault of a file, and that fault, if any
abbrev pub CountedAs : List ℕ → List ℕ → Option FileFault → Type 0
CountedAs bytes text fault = (records : List Recorded) × FileHolds bytes records fault × (text ≡ count_lines (counted records))

-- those for the records complete in the bytes before a failed read
abbrev pub CountedCut : List ℕ → List ℕ → Type 0
CountedCut given text = (fault : Option FileFault) × IsCut given fault × CountedAs given text fault

-- a prefix was written: of the lines for all bytes, or of those for the bytes before a failed read
abbrev pub CountsPrefix : List ℕ → List ℕ → Option (List ℕ) → Type 0
CountsPrefix bytes was written =
    WritesPrefix CountedAs bytes was written
    ⊎ ((given : List ℕ) × (rest : List ℕ) × (text : List ℕ) × (more : List ℕ) × (bytes ≡ given ++ rest) × CountedCut given (text ++ more) × Wrote was text written)

-- the output for a file, by the result
abbrev pub Counted : List ℕ → List ℕ → Option (List ℕ) → Option (List ℕ) → Result Unit FileFault → Type 0
Counted bytes was left written (Ok done) = WritesAll CountedAs bytes was written None
Counted bytes was left written (Fault fault) =
    MatchFault (λ f. WritesAll CountedAs bytes was written (Some f)) (WritesRead CountedCut bytes was left written) (CountsPrefix bytes was written) fault
