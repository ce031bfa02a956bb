-- The messages and commands of a file, counted one after the other.
use Rattle.std.proofs.Common.{◌≡◌, inl, inr, ℕ, Bool, List, [], ◌∷◌, ◌++◌, Option, Some, None, Ok, Err, refl, sym, ap, ◌∙◌, subst}
use Rattle.std.specs.List.{flat_map}
use Rattle.ncp_wire.specs.declared.command.Command.{Command}
use Rattle.ncp_play_files.specs.declared.counting.MessageCounts.{MessageCounts}
use Rattle.ncp_play_files.specs.declared.counting.MessageKind.TheVariants as kinds
use Rattle.ncp_play_files.specs.declared.counting.CommandCounts.{CommandCounts}
use Rattle.ncp_play_files.specs.declared.counting.Counting.{Counting}
use Rattle.ncp_play_files.specs.declared.file.FileFault.{FileFault}
use Rattle.ncp_play_files.specs.declared.file.FileFault.TheVariants.{BadHeader, Truncated, TooLong, SpareNotZero, ReadFailed, WriteFailed, BadDirection, Mixed}
use Rattle.ncp_play_files.specs.declared.version.Version.{Version}
use Rattle.ncp_play_files.specs.File.{version_of}
use Rattle.ncp_play_files.specs.Versions.{Recorded}
use Rattle.ncp_play_files.specs.Checked.{FileHolds}
use Rattle.ncp_play_files.specs.Writing.{WritesAll}
use Rattle.ncp_play_files.specs.declared.pass.FileEnd.{FileEnd}
use Rattle.ncp_play_files.specs.declared.pass.FileEnd.TheVariants.{Whole, CutOff}
use Rattle.ncp_play_files.specs.Passes.{end_at, text_from, state_from, whole_text, PassHolds, PrintsAs, PrintsCut, PrintsPrefix, Passes}
use Rattle.ncp_play_files.specs.Counted.{kind_of_record, has_kind, commands_of_record, has_opcode, messages_counted, commands_counted, counted, count_lines, messages_with, commands_with, commands_counted_from, counting_with, count_pass, CountedAs, CountedCut, CountsPrefix, Counted}
use Rattle.ncp_play_buffer.specs.Lines.{number_after}
use Rattle.ncp_play_files.proofs.Counts.{count_from, from_none}

-- ---- messages

abbrev messages_from : MessageCounts → List Recorded → MessageCounts
messages_from counts [] = counts
messages_from counts (seen ∷ records) = messages_from (messages_with counts (kind_of_record seen)) records

messages_from_is : (counts : MessageCounts) (records : List Recorded) → messages_from counts records ≡ record {
  short = count_from (has_kind kinds.Short) counts.short records;
  regular = count_from (has_kind kinds.Regular) counts.regular records;
  going_down = count_from (has_kind kinds.GoingDown) counts.going_down records;
  nop = count_from (has_kind kinds.Nop) counts.nop records;
  rfnm = count_from (has_kind kinds.Rfnm) counts.rfnm records;
  dead = count_from (has_kind kinds.Dead) counts.dead records;
  incomplete = count_from (has_kind kinds.Incomplete) counts.incomplete records;
  other = count_from (has_kind kinds.Other) counts.other records;
}
messages_from_is counts [] = refl
messages_from_is counts (seen ∷ records) = messages_from_is (messages_with counts (kind_of_record seen)) records

all_messages : (records : List Recorded) → messages_from (messages_counted []) records ≡ messages_counted records
all_messages records =
    messages_from_is (messages_counted []) records
    ∙ rw (
      from_none (has_kind kinds.Short) records,
      from_none (has_kind kinds.Regular) records,
      from_none (has_kind kinds.GoingDown) records,
      from_none (has_kind kinds.Nop) records,
      from_none (has_kind kinds.Rfnm) records,
      from_none (has_kind kinds.Dead) records,
      from_none (has_kind kinds.Incomplete) records,
      from_none (has_kind kinds.Other) records,
    ) refl

-- ---- commands

commands_from_is : (counts : CommandCounts) (commands : List Command) → commands_counted_from counts commands ≡ record {
  nop = count_from (has_opcode 0) counts.nop commands;
  rts = count_from (has_opcode 1) counts.rts commands;
  str = count_from (has_opcode 2) counts.str commands;
  cls = count_from (has_opcode 3) counts.cls commands;
  all = count_from (has_opcode 4) counts.all commands;
  gvb = count_from (has_opcode 5) counts.gvb commands;
  ret = count_from (has_opcode 6) counts.ret commands;
  inr = count_from (has_opcode 7) counts.inr commands;
  ins = count_from (has_opcode 8) counts.ins commands;
  eco = count_from (has_opcode 9) counts.eco commands;
  erp = count_from (has_opcode 10) counts.erp commands;
  err = count_from (has_opcode 11) counts.err commands;
  rst = count_from (has_opcode 12) counts.rst commands;
  rrp = count_from (has_opcode 13) counts.rrp commands;
}
commands_from_is counts [] = refl
commands_from_is counts (command ∷ commands) = commands_from_is (commands_with counts command) commands

all_commands : (commands : List Command) → commands_counted_from (commands_counted []) commands ≡ commands_counted commands
all_commands commands =
    commands_from_is (commands_counted []) commands
    ∙ rw (
      from_none (has_opcode 0) commands,
      from_none (has_opcode 1) commands,
      from_none (has_opcode 2) commands,
      from_none (has_opcode 3) commands,
      from_none (has_opcode 4) commands,
      from_none (has_opcode 5) commands,
      from_none (has_opcode 6) commands,
      from_none (has_opcode 7) commands,
      from_none (has_opcode 8) commands,
      from_none (has_opcode 9) commands,
      from_none (has_opcode 10) commands,
      from_none (has_opcode 11) commands,
      from_none (has_opcode 12) commands,
      from_none (has_opcode 13) commands,
    ) refl

commands_after : (counts : CommandCounts) (commands more : List Command) → commands_counted_from counts (commands ++ more) ≡ commands_counted_from (commands_counted_from counts commands) more
commands_after counts [] more = refl
commands_after counts (command ∷ commands) more = commands_after (commands_with counts command) commands more

-- ---- records

state_is : (number : ℕ) (counts : Counting) (records : List Recorded) → state_from count_pass number counts records ≡ record { messages = messages_from counts.messages records; commands = commands_counted_from counts.commands (flat_map commands_of_record records) }
state_is number counts [] = refl
state_is number counts (seen ∷ records) =
    state_is (number_after number) (counting_with counts seen) records
    ∙ ap (λ (commands : CommandCounts). record { messages = messages_from (messages_with counts.messages (kind_of_record seen)) records; commands = commands })
    (sym (commands_after counts.commands (commands_of_record seen) (flat_map commands_of_record records)))

all_counted : (records : List Recorded) → state_from count_pass 1 (counted []) records ≡ counted records
all_counted records =
    state_is 1 (counted []) records
    ∙ ap (λ (messages : MessageCounts). record { messages = messages; commands = commands_counted_from (commands_counted []) (flat_map commands_of_record records) }) (all_messages records)
    ∙ ap (λ (commands : CommandCounts). record { messages = messages_counted records; commands = commands }) (all_commands (flat_map commands_of_record records))

nothing_told : (number : ℕ) (counts : Counting) (records : List Recorded) → text_from count_pass number counts records ≡ []
nothing_told number counts [] = refl
nothing_told number counts (seen ∷ records) = nothing_told (number_after number) (counting_with counts seen) records

all_lines : (records : List Recorded) (ends : FileEnd) → whole_text count_pass (counted []) records ends ≡ count_lines (counted records)
all_lines records ends = ap (λ (text : List ℕ). text ++ count_lines (state_from count_pass 1 (counted []) records)) (nothing_told 1 (counted []) records) ∙ ap count_lines (all_counted records)

-- ---- files

holds_by : (bytes : List ℕ) (records : List Recorded) (fault : Option FileFault) (o : Option Version) → version_of bytes ≡ o → PassHolds count_pass bytes records fault → FileHolds bytes records fault
holds_by bytes records fault None e h = let held = rw e at h in rw e held
holds_by bytes records fault (Some version) e h = let held = rw e at h in rw e held

counted_as : (bytes text : List ℕ) (fault : Option FileFault) (ends : FileEnd) (records : List Recorded) → PassHolds count_pass bytes records fault → text ≡ whole_text count_pass (counted []) records ends → CountedAs bytes text fault
counted_as bytes text fault ends records h t = (records, holds_by bytes records fault (version_of bytes) refl h, t ∙ all_lines records ends)

counted_cut : (given text : List ℕ) → PrintsCut count_pass (counted []) given text → CountedCut given text
counted_cut given text h = (h.1, h.2, counted_as given text h.1 CutOff h.0 h.3 h.4)

module _ (bytes was : List ℕ) (left written : Option (List ℕ)) where
  written_all : (fault : Option FileFault) → WritesAll (PrintsAs count_pass (counted [])) bytes was written fault → WritesAll CountedAs bytes was written fault
  written_all fault h = (h.0, counted_as bytes h.0 fault (end_at fault) h.1.0 h.1.1 h.1.2, h.2)

  written_part : PrintsPrefix count_pass (counted []) bytes was written → CountsPrefix bytes was written
  written_part (inl h) = inl (h.0, h.1, h.2, counted_as bytes (h.0 ++ h.1) h.2 (end_at h.2) h.3.0 h.3.1 h.3.2, h.4)
  written_part (inr h) = inr (h.0, h.1, h.2, h.3, h.4, counted_cut h.0 (h.2 ++ h.3) h.5, h.6)

  pub counted_ok : (state : Counting) (good : Bool) → state ≡ counted [] → Passes count_pass state bytes was left written (Ok good) → Counted bytes was left written (Ok tt)
  counted_ok state good e k =
      let h = subst (λ (s : Counting). Passes count_pass s bytes was left written (Ok good)) e k in
      written_all None (whole_text count_pass (counted []) h.0 Whole, (h.0, h.1, refl), h.2)

  by_fault : (fault : FileFault) → Passes count_pass (counted []) bytes was left written (Err fault) → Counted bytes was left written (Err fault)
  by_fault BadHeader h = written_all _ h
  by_fault Truncated h = written_all _ h
  by_fault TooLong h = written_all _ h
  by_fault SpareNotZero h = written_all _ h
  by_fault BadDirection h = written_all _ h
  by_fault Mixed h = written_all _ h
  by_fault ReadFailed h = (h.0, h.1, h.2, h.3, h.4, counted_cut h.0 h.2 h.5, h.6)
  by_fault WriteFailed h = written_part h

  pub counted_err : (state : Counting) (fault : FileFault) → state ≡ counted [] → Passes count_pass state bytes was left written (Err fault) → Counted bytes was left written (Err fault)
  counted_err state fault e k = by_fault fault (subst (λ (s : Counting). Passes count_pass s bytes was left written (Err fault)) e k)
