use Rattle.ncp_example_file.proofs.Quiet.{goes-on-stays}
use Rattle.ncp_example_file.proofs.calls.settle.Goals as goal

pub returns : goal.returns
returns g c = goes-on-stays c.args.world.now c.settle.new.self c.settle.ensures.made
