-- The subnet as a box at its type, and what its handle owns.
use denote.Signature.{Slot, plain}
use Rattle.std.proofs.BoxSteps.Form.{Bx}
use Rattle.ncp_parts.proofs.AsBox as parts
use Rattle.ncp_embed.specs.contracts.net.carried.BoxedSubnet as BoxedSubnet
use Rattle.ncp_embed.proofs.net.carried.BoxedSubnet.TheLaws as laws
use Rattle.ncp_embed.specs.contracts.net.SubnetHandle as SubnetHandle

abbrev pub E : Bx
E = parts.E BoxedSubnet.the_row laws.the_row_laws

abbrev pub FromParts : Slot 0
FromParts = parts.FromParts BoxedSubnet.the_row

abbrev pub FromHandle : Slot 0
FromHandle = plain (λ _. SubnetHandle.the_row)
