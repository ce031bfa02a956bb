use Rattle.std.proofs.Common.{refl}
use Rattle.ncp_numbers.specs.Numbers.{number_of}
use Rattle.ncp_numbers.specs.Bytes.{byte_of, bytes_of}
use Rattle.ncp_model.proofs.rows.refusing_text.Goals as goal

pub returns-clause-text : goal.returns-clause-text
unfolding bytes_of byte_of number_of
returns-clause-text c = refl

pub returns-clause-short : goal.returns-clause-short
unfolding bytes_of byte_of number_of
returns-clause-short c = refl

pub returns-clause-empty : goal.returns-clause-empty
unfolding bytes_of byte_of number_of
returns-clause-empty c = refl
