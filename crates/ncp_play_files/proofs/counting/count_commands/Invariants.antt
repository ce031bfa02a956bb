use Rattle.std.proofs.Common.{◌≡◌}
use Rattle.ncp_numbers.specs.Bytes.{bytes_of}
use Rattle.ncp_control.specs.Texts.{commands_among}
use Rattle.ncp_control.specs.Reading.{commands_in}
use Rattle.ncp_play_files.specs.Counted.{commands_counted_from}
use Rattle.ncp_play_files.proofs.counting.count_commands.Given as goal

-- the remaining commands make of the counts what all make of the first
abbrev pub invariant-loop-item : goal.invariant-loop-item
invariant-loop-item l = commands_counted_from l.counts (commands_among l.item-iterator) ≡ commands_counted_from l.initial.counts (commands_in (bytes_of l.fn.text))
