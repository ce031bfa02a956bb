use Rattle.std.proofs.Common.{refl}
use Rattle.ncp_numbers.specs.Bytes.{bytes_of, byte_of}
use Rattle.ncp_numbers.specs.Numbers.{number_of}
use Rattle.ncp_control.specs.Reading.{command_with, command_at, commands_within}
use Rattle.ncp_proof_monitor.proofs.alarms.wrong_hosts_are_blamed.Goals as goal

pub returns-clause-recorded : goal.returns-clause-recorded
returns-clause-recorded c = refl

pub returns-clause-short : goal.returns-clause-short
unfolding number_of lib.Count.ones
returns-clause-short c = refl

pub returns-clause-here : goal.returns-clause-here
returns-clause-here c = refl

pub returns-clause-there : goal.returns-clause-there
unfolding number_of lib.Count.ones
returns-clause-there c = refl

pub returns-clause-bad : goal.returns-clause-bad
unfolding number_of byte_of bytes_of command_at commands_within lib.Count.ones
returns-clause-bad c = refl

pub returns-clause-resets : goal.returns-clause-resets
unfolding number_of byte_of bytes_of command_with command_at commands_within lib.Count.ones
returns-clause-resets c = refl

pub returns-clause-blamed : goal.returns-clause-blamed
unfolding number_of byte_of bytes_of command_with command_at commands_within lib.Count.ones
returns-clause-blamed c = refl

pub returns-clause-twice : goal.returns-clause-twice
unfolding number_of lib.Count.ones
returns-clause-twice c = refl

pub returns-clause-again : goal.returns-clause-again
unfolding number_of lib.Count.ones
returns-clause-again c = refl

pub returns-clause-passing : goal.returns-clause-passing
returns-clause-passing c = refl

pub returns-clause-coming : goal.returns-clause-coming
returns-clause-coming c = refl
