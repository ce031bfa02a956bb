use Rattle.std.proofs.Common.{refl}
use Rattle.clap.proofs.OnLiterals.{clap_on_literals}
use Rattle.ncp_play_command_line.proofs.laws.follows_are_read_so.Goals as goal

pub returns : goal.returns
unfolding clap_on_literals
returns c = record {
  bare = refl;
  part = refl;
  bytes = refl;
  most = refl;
  sound = refl;
  none = refl;
  great = refl;
  letters = refl;
  raw = refl;
  file = refl;
}
