use Rattle.std.proofs.Common.{refl}
use Rattle.clap.proofs.OnLiterals.{clap_on_literals}
use Rattle.ncp_play_command_line.proofs.laws.numbers_are_read_so.Goals as goal

pub returns : goal.returns
unfolding clap_on_literals
returns c = record {
  seven = refl;
  most = refl;
  sound = refl;
  missing = refl;
  great = refl;
  negative = refl;
  twice = refl;
}
