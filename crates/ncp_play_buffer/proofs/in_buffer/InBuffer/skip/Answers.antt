use Rattle.ncp_play_buffer.proofs.InBuffers.{skipped}
use Rattle.ncp_play_buffer.proofs.in_buffer.InBuffer.skip.Goals as goal

pub returns : goal.returns
returns c = skipped c.self.inside.bytes c.args.self.now c.self.inside.from c.self.inside.to c.args.count c.self.view_is c.self.invariant.0 c.requires
