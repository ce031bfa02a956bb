use Rattle.ncp_play_files.specs.Versions.{next_in}
use Rattle.ncp_play_files.proofs.Contents.{by_some, by_once}
use Rattle.ncp_play_files.proofs.Placing.{in_front}
use Rattle.ncp_play_files.proofs.laws.files_have_one_reading.Goals as goal

pub returns-clause-some : goal.returns-clause-some
returns-clause-some c = λ version bytes. by_some (next_in version) (in_front version) bytes

pub returns-clause-only : goal.returns-clause-only
returns-clause-only c = λ version bytes records others fault other h k. by_once (next_in version) bytes records others fault other h k
