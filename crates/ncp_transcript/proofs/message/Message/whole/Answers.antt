use Rattle.std.proofs.Common.{refl}
use Rattle.ncp_transcript.proofs.Packing.{read_exact}
use Rattle.ncp_transcript.proofs.message.Message.whole.Goals as goal

pub unwrap-requires : goal.unwrap-requires
unwrap-requires c = rw (c.from_bytes.ensures.read, c.deref.ensures.value, read_exact c.self.inside.bytes.items c.self.inside.len c.self.invariant) refl
