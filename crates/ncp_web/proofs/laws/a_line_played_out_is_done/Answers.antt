use Rattle.ncp_play_world.specs.WorldRules.{world_rules}
use Rattle.ncp_play_world.specs.ManyRules.{many_rules}
use Rattle.ncp_play_world.specs.Renderings.{lines_of_script, lines_of_many}
use Rattle.ncp_web.proofs.PlayedOut.{played_out}
use Rattle.ncp_web.proofs.laws.a_line_played_out_is_done.Goals as goal

pub returns-clause-two : goal.returns-clause-two
returns-clause-two c = λ first line before now. played_out world_rules (lines_of_script first) first line before now

pub returns-clause-many : goal.returns-clause-many
returns-clause-many c = λ first line before now. played_out many_rules (lines_of_many first) first line before now
