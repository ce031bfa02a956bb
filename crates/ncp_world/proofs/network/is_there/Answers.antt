use Rattle.std.proofs.Common.{ap, ◌∙◌}
use Rattle.std.specs.Option.{is_some}
use Rattle.ncp_world.proofs.Members.{placed}
use Rattle.ncp_world.proofs.network.is_there.Goals as goal

pub returns : goal.returns
returns g c = c.is_some.ensures ∙ ap is_some c.first_index.ensures ∙ placed c.args.members.now c.args.number
