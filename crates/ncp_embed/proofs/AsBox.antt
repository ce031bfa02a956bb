-- The host as a box at its type, and what its handle owns.
use denote.Signature.{Slot, plain}
use Rattle.std.proofs.BoxSteps.Form.{Bx}
use Rattle.ncp_parts.proofs.AsBox as parts
use Rattle.ncp_embed.specs.contracts.handle.held.BoxedHost as BoxedHost
use Rattle.ncp_embed.proofs.handle.held.BoxedHost.TheLaws as laws
use Rattle.ncp_embed.specs.contracts.handle.HostHandle as HostHandle

abbrev pub E : Bx
E = parts.E BoxedHost.the_row laws.the_row_laws

abbrev pub FromParts : Slot 0
FromParts = parts.FromParts BoxedHost.the_row

abbrev pub FromHandle : Slot 0
FromHandle = plain (λ _. HostHandle.the_row)
