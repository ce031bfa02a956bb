use Rattle.std.proofs.Common.{refl}
use Rattle.ncp_numbers.specs.Bytes.{bytes_of, byte_of}
use Rattle.ncp_numbers.specs.Numbers.{number_of}
use Rattle.ncp_control.specs.Reading.{command_with, command_at, commands_within}
use Rattle.ncp_proof_monitor_host.proofs.flow.wrong_flow_is_blamed.Goals as goal

pub returns-clause-found : goal.returns-clause-found
unfolding number_of byte_of bytes_of command_with command_at commands_within lib.Count.ones
returns-clause-found c = refl

pub returns-clause-blamed : goal.returns-clause-blamed
unfolding number_of byte_of bytes_of command_with command_at commands_within lib.Count.ones
returns-clause-blamed c = refl

pub returns-clause-spared : goal.returns-clause-spared
unfolding number_of byte_of bytes_of command_with command_at commands_within lib.Count.ones
returns-clause-spared c = refl

pub returns-clause-unopened : goal.returns-clause-unopened
unfolding number_of byte_of bytes_of command_with command_at commands_within lib.Count.ones
returns-clause-unopened c = refl

pub returns-clause-allocated : goal.returns-clause-allocated
unfolding number_of byte_of bytes_of command_with command_at commands_within lib.Count.ones
returns-clause-allocated c = refl
