use Rattle.ncp_subnet.proofs.Places.{transit_at-same, transit_at-others}
use Rattle.ncp_subnet.proofs.laws.links_are_independent.Goals as goal

pub returns-clause-same : goal.returns-clause-same
returns-clause-same c = transit_at-same

pub returns-clause-others : goal.returns-clause-others
returns-clause-others c = transit_at-others
