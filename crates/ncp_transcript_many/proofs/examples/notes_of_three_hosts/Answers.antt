use Rattle.std.proofs.Common.{refl}
use Rattle.ncp_numbers.specs.Bytes.{byte_bits}
use Rattle.ncp_numbers.specs.Numbers.{number_of, bits_of}
use Rattle.ncp_transcript_many.proofs.examples.notes_of_three_hosts.Goals as goal

pub returns-clause-second : goal.returns-clause-second
unfolding number_of byte_bits bits_of
returns-clause-second c = refl

pub returns-clause-third : goal.returns-clause-third
unfolding number_of byte_bits bits_of
returns-clause-third c = refl

pub returns-clause-counterpart : goal.returns-clause-counterpart
unfolding number_of byte_bits bits_of
returns-clause-counterpart c = refl

pub returns-clause-others : goal.returns-clause-others
unfolding number_of byte_bits bits_of
returns-clause-others c = refl
