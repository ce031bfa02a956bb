use Rattle.std.proofs.Common.{refl}
use Rattle.clap.proofs.OnLiterals.{clap_on_literals}
use Rattle.ncp_play_command_line.proofs.laws.words_are_read_so.Goals as goal

pub returns : goal.returns
unfolding clap_on_literals
returns c = record {
  nothing = refl;
  world = refl;
  counted = refl;
  recorded = refl;
  version = refl;
}
