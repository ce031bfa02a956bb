use Rattle.std.proofs.Common.{refl}
use Rattle.ncp_transcript.proofs.acts.done.Goals as goal

pub returns-in-Ok : goal.returns-in-Ok
returns-in-Ok c = rw c.in-Ok.is refl
