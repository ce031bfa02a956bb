use Rattle.std.proofs.Common.{refl}
use Rattle.ncp_numbers.specs.Bytes.{byte_bits, byte_of, bytes_of}
use Rattle.ncp_numbers.specs.Numbers.{bits_of, number_of}
use Rattle.ncp_control.specs.Reading.{commands_within, command_at, command_with}
use Rattle.ncp_proof_progress.specs.Work.{causes_all}
use Rattle.ncp_proof_quiescence.proofs.host_rows.messages_bring_so.Goals as goal

pub returns-clause-rst : goal.returns-clause-rst
unfolding causes_all byte_bits byte_of bytes_of bits_of number_of commands_within command_at command_with
returns-clause-rst c = refl

pub returns-clause-rts : goal.returns-clause-rts
unfolding causes_all byte_bits byte_of bytes_of bits_of number_of commands_within command_at command_with
returns-clause-rts c = refl

pub returns-clause-fault : goal.returns-clause-fault
unfolding causes_all byte_bits byte_of bytes_of bits_of number_of commands_within command_at command_with
returns-clause-fault c = refl

pub returns-clause-text : goal.returns-clause-text
unfolding causes_all byte_bits byte_of bytes_of bits_of number_of commands_within command_at command_with
returns-clause-text c = refl

pub returns-clause-wrong_link : goal.returns-clause-wrong_link
unfolding causes_all byte_bits byte_of bytes_of bits_of number_of commands_within command_at command_with
returns-clause-wrong_link c = refl
