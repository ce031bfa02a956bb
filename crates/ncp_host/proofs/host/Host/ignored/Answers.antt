use Rattle.ncp_host.proofs.host.Host.ignored.Goals as goal

pub returns : goal.returns
returns g c = cc
