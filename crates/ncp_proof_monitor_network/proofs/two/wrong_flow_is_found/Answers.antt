use Rattle.std.proofs.Common.{refl}
use Rattle.ncp_numbers.specs.Bytes.{bytes_of, byte_of}
use Rattle.ncp_numbers.specs.Numbers.{number_of}
use Rattle.ncp_control.specs.Reading.{command_with, command_at, commands_within}
use Rattle.ncp_proof_monitor_network.proofs.two.wrong_flow_is_found.Goals as goal

pub returns-clause-goes : goal.returns-clause-goes
unfolding number_of byte_of bytes_of command_with command_at commands_within lib.Count.ones
returns-clause-goes c = refl

pub returns-clause-comes : goal.returns-clause-comes
unfolding number_of byte_of bytes_of command_with command_at commands_within lib.Count.ones
returns-clause-comes c = refl

pub returns-clause-judged : goal.returns-clause-judged
unfolding number_of byte_of bytes_of command_with command_at commands_within lib.Count.ones
returns-clause-judged c = refl

pub returns-clause-spared : goal.returns-clause-spared
unfolding number_of byte_of bytes_of command_with command_at commands_within lib.Count.ones
returns-clause-spared c = refl

pub returns-clause-sent : goal.returns-clause-sent
unfolding number_of byte_of bytes_of command_with command_at commands_within lib.Count.ones
returns-clause-sent c = refl

pub returns-clause-received : goal.returns-clause-received
unfolding number_of byte_of bytes_of command_with command_at commands_within lib.Count.ones
returns-clause-received c = refl

pub returns-clause-allocated : goal.returns-clause-allocated
unfolding number_of byte_of bytes_of command_with command_at commands_within lib.Count.ones
returns-clause-allocated c = refl
