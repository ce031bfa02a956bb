use Rattle.std.proofs.Common.{refl}
use Rattle.ncp_numbers.specs.Bytes.{byte_bits, bytes_of, byte_of}
use Rattle.ncp_numbers.specs.Numbers.{number_of, bits_of}
use Rattle.ncp_control.specs.Reading.{command_with, command_at, commands_within}
use Rattle.ncp_proof_monitor_exact.proofs.cases.each_rule_is_found.Goals as goal

pub returns-clause-right : goal.returns-clause-right
unfolding number_of bits_of byte_bits byte_of bytes_of command_with command_at commands_within lib.Count.ones
returns-clause-right c = refl

pub returns-clause-own_host : goal.returns-clause-own_host
unfolding number_of bits_of byte_bits byte_of bytes_of command_with command_at commands_within lib.Count.ones
returns-clause-own_host c = refl

pub returns-clause-kind : goal.returns-clause-kind
unfolding number_of bits_of byte_bits byte_of bytes_of command_with command_at commands_within lib.Count.ones
returns-clause-kind c = refl

pub returns-clause-wrong_link : goal.returns-clause-wrong_link
unfolding number_of bits_of byte_bits byte_of bytes_of command_with command_at commands_within lib.Count.ones
returns-clause-wrong_link c = refl

pub returns-clause-wrong_size : goal.returns-clause-wrong_size
unfolding number_of bits_of byte_bits byte_of bytes_of command_with command_at commands_within lib.Count.ones
returns-clause-wrong_size c = refl

pub returns-clause-extras : goal.returns-clause-extras
unfolding number_of bits_of byte_bits byte_of bytes_of command_with command_at commands_within lib.Count.ones
returns-clause-extras c = refl

pub returns-clause-occupied : goal.returns-clause-occupied
unfolding number_of bits_of byte_bits byte_of bytes_of command_with command_at commands_within lib.Count.ones
returns-clause-occupied c = refl

pub returns-clause-changed : goal.returns-clause-changed
unfolding number_of bits_of byte_bits byte_of bytes_of command_with command_at commands_within lib.Count.ones
returns-clause-changed c = refl

pub returns-clause-bad : goal.returns-clause-bad
unfolding number_of bits_of byte_bits byte_of bytes_of command_with command_at commands_within lib.Count.ones
returns-clause-bad c = refl

pub returns-clause-unquiet : goal.returns-clause-unquiet
unfolding number_of bits_of byte_bits byte_of bytes_of command_with command_at commands_within lib.Count.ones
returns-clause-unquiet c = refl

pub returns-clause-rrp_first : goal.returns-clause-rrp_first
unfolding number_of bits_of byte_bits byte_of bytes_of command_with command_at commands_within lib.Count.ones
returns-clause-rrp_first c = refl

pub returns-clause-missing_rrp : goal.returns-clause-missing_rrp
unfolding number_of bits_of byte_bits byte_of bytes_of command_with command_at commands_within lib.Count.ones
returns-clause-missing_rrp c = refl

pub returns-clause-missing : goal.returns-clause-missing
unfolding number_of bits_of byte_bits byte_of bytes_of command_with command_at commands_within lib.Count.ones
returns-clause-missing c = refl

pub returns-clause-text_out : goal.returns-clause-text_out
unfolding number_of bits_of byte_bits byte_of bytes_of command_with command_at commands_within lib.Count.ones
returns-clause-text_out c = refl
