use Rattle.std.proofs.Common.{refl}
use Rattle.ncp_numbers.specs.Bytes.{bytes_of, byte_of}
use Rattle.ncp_numbers.specs.Numbers.{number_of}
use Rattle.ncp_control.specs.Reading.{command_with, command_at, commands_within}
use Rattle.ncp_proof_monitor_messages.proofs.two.wrong_files_are_found.Goals as goal

pub returns-clause-everywhere : goal.returns-clause-everywhere
unfolding number_of lib.Count.ones
returns-clause-everywhere c = refl

pub returns-clause-stray : goal.returns-clause-stray
unfolding number_of lib.Count.ones
returns-clause-stray c = refl

pub returns-clause-answered : goal.returns-clause-answered
unfolding number_of lib.Count.ones
returns-clause-answered c = refl

pub returns-clause-judged : goal.returns-clause-judged
unfolding number_of lib.Count.ones
returns-clause-judged c = refl

pub returns-clause-come : goal.returns-clause-come
unfolding number_of byte_of bytes_of command_with command_at commands_within lib.Count.ones
returns-clause-come c = refl
