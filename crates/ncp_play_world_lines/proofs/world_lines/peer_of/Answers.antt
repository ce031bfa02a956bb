use Rattle.std.proofs.Common.{sym, ap}
use Rattle.ncp_play_world_lines.specs.WorldLines.{peer_of_side}
use Rattle.ncp_play_world_lines.proofs.world_lines.peer_of.Goals as goal

pub returns-in-A : goal.returns-in-A
returns-in-A c = ap (peer_of_side c.args.hosts) (sym c.in-A.is)
