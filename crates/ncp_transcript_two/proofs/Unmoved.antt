-- What changes no link of a host of the model.
use Rattle.std.proofs.Common.{◌≡◌, ℕ, Bool, true, false, if◌then◌else◌, List, refl}
use Rattle.ncp_wire.specs.declared.command.Command.{Command}
use Rattle.ncp_wire.specs.declared.command.Command.TheVariants.{Rst, Rrp}
use Rattle.ncp_model.specs.declared.pair.Pair.{Pair}
use Rattle.ncp_model.specs.Phase.{is_resetting}
use Rattle.ncp_proof_machine.specs.Resets.{is_up}
use Rattle.ncp_proof_machine.specs.Hosts.{Node, TextOut, PairCall}
use Rattle.ncp_proof_machine.specs.Hosts as hosts

-- both nodes have the same links
abbrev pub Unmoved : Node → Node → Type 0
Unmoved n m = (m.control ≡ n.control) × (m.texts ≡ n.texts)

either : (b : Bool) (n m o : Node) → Unmoved n m → Unmoved n o → Unmoved n (if b then m else o)
either true n m o p q = p
either false n m o p q = q

pub calls-unmoved : (pair : Pair) (call : PairCall) (n : Node) → Unmoved n (hosts.node_calls pair call n)
calls-unmoved pair call n = either (is_up n.host) n (hosts.happens_at pair _ n) n (refl, refl) (refl, refl)

pub echo-unmoved : (byte : ℕ) (n : Node) → Unmoved n (hosts.node_calls_echo byte n)
echo-unmoved byte n = either (is_up n.host) n (hosts.node_echo_called byte n) n (refl, refl) (refl, refl)

pub reset-unmoved : (n : Node) → Unmoved n (hosts.node_calls_reset n)
reset-unmoved n = either (is_resetting n.host.phase) n n (hosts.node_cleared _ n) (refl, refl) (refl, refl)

pub hears-unmoved : (c : Command) (n : Node) → Unmoved n (hosts.node_hears c n)
hears-unmoved Rst n = (refl, refl)
hears-unmoved Rrp n = (refl, refl)
hears-unmoved c n = either (is_up n.host) n (hosts.node_hears_other c n) n (refl, refl) (refl, refl)

pub text-unmoved : (on : ℕ) (head : List Bool) (t : TextOut) (n : Node) → Unmoved n (hosts.node_hears_text on head t n)
text-unmoved on head t n = either (is_up n.host) n (hosts.node_takes_text on head t n) n (refl, refl) (refl, refl)
