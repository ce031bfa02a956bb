use Rattle.std.proofs.Common.{refl}
use Rattle.std.specs.Fmt.{digits}
use Rattle.ncp_play_files.proofs.examples.counts_are_printed_so.Goals as goal

pub returns : goal.returns
unfolding digits
returns c = refl
