use Rattle.std.proofs.Common.{◌≡◌, None, Option, refl, sym, subst, ◌∙◌}
use Rattle.ncp_host.specs.Host.{Host, state_of}
use Rattle.ncp_peer.specs.PeerCalls.{kept_for}
use Rattle.ncp_transcript_many.specs.Numbered.{thing_in}
use Rattle.ncp_transcript_many.specs.Network.{host_or_none}
use Rattle.ncp_world.specs.Lowest.{lowest_kept}
use Rattle.ncp_world.proofs.Lowest.{none_there}
use Rattle.ncp_world.proofs.network.NetworkAnyHosts.first_kept.Goals as goal

pub returns-in_err-host-clause-lowest : goal.returns-in_err-host-clause-lowest
returns-in_err-host-clause-lowest g c =
    let absent : thing_in c.args.self.now.hosts c.args.from ≡ None = sym c.in_err-host.ensures in
    c.from_residual.ensures
    ∙ subst (λ (o : Option Host). None ≡ lowest_kept (kept_for (state_of (host_or_none c.args.from o) c.args.to))) (sym absent)
    (none_there (kept_for (state_of (host_or_none c.args.from None) c.args.to)) (λ link. refl))
