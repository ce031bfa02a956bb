use Rattle.std.proofs.Common.{sym, ◌∙◌}
use Rattle.ncp_transcript_many.proofs.Places.{place-some}
use Rattle.ncp_world.proofs.Members.{has-place}
use Rattle.ncp_world.proofs.network.position_of.Goals as goal

pub unwrap-requires : goal.unwrap-requires
unwrap-requires g c = has-place c.args.members.now c.args.number c.first_index.result c.first_index.ensures c.requires

pub returns-clause-index : goal.returns-clause-index
returns-clause-index g c = place-some c.args.members.now c.args.number c.unwrap.result (sym c.unwrap.ensures ∙ c.first_index.ensures)
