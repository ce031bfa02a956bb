use Rattle.std.proofs.Common.{length, ap, arith}
use Rattle.std.proofs.lemmas.List.{length-take}
use Rattle.ncp_play_buffer.proofs.out_buffer.OutBuffer.make_room.Goals as goal

pub returns-else-count-self-clause-room : goal.returns-else-count-self-clause-room
returns-else-count-self-clause-room g c = omega (arith, simp length-take at (ap length c.self.view_is))
