-- The session as a box at its type, and what its handle owns.
use denote.Signature.{Slot, plain}
use Rattle.std.proofs.BoxSteps.Form.{Bx}
use Rattle.ncp_parts.proofs.AsBox as parts
use Rattle.ncp_web.specs.contracts.handle.held.BoxedSession as BoxedSession
use Rattle.ncp_web.proofs.handle.held.BoxedSession.TheLaws as laws
use Rattle.ncp_web.specs.contracts.handle.SessionHandle as SessionHandle

abbrev pub E : Bx
E = parts.E BoxedSession.the_row laws.the_row_laws

abbrev pub FromParts : Slot 0
FromParts = parts.FromParts BoxedSession.the_row

abbrev pub FromHandle : Slot 0
FromHandle = plain (λ _. SessionHandle.the_row)
