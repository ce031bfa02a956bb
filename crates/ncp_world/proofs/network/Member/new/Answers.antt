use Rattle.std.proofs.Common.{ap, ◌∙◌}
use Rattle.ncp_host.specs.Host.{are_peers}
use Rattle.ncp_transcript_many.proofs.Others.{others-fit}
use Rattle.ncp_world.proofs.network.Member.new.Goals as goal

pub new_host-requires : goal.new_host-requires
new_host-requires g c = ap (are_peers c.args.number) (c.deref.ensures.value ∙ c.in_ok-peers.ensures) ∙ others-fit c.args.number c.args.hosts.now c.requires.good c.requires.there
