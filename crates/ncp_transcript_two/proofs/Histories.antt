-- What the model notes in its histories is what Watch says.
use Rattle.std.proofs.Common.{◌≡◌, ℕ, Bool, true, false, if◌then◌else◌, List, Some, refl}
use Rattle.ncp_wire.specs.declared.command.Command.{Command}
use Rattle.ncp_wire.specs.declared.command.Command.TheVariants.{Rst, Rrp}
use Rattle.ncp_model.specs.declared.pair.Pair.{Pair}
use Rattle.ncp_model.specs.Ends.{pair_of, receiver_on}
use Rattle.ncp_model.specs.EndpointEvents as all
use Rattle.ncp_model.specs.Phase.{up, is_resetting}
use Rattle.ncp_model.specs.Sending.{is_full}
use Rattle.ncp_proof_machine.specs.Hosts.{Node, TextOut, pasts_after_at, peer_of}
use Rattle.ncp_proof_machine.specs.Hosts as hosts
use Rattle.ncp_proof_machine.specs.Resets as resets
use Rattle.ncp_model.specs.Peers as peers
use Rattle.ncp_transcript_two.specs.Watch.{pasts_after_call, of_command}

pasts_if : (b : Bool) (m n : Node) → (if b then m else n).pasts ≡ (if b then m.pasts else n.pasts)
pasts_if true m n = refl
pasts_if false m n = refl

pub calls-pasts : (pair : Pair) (call : peers.PairCall) (n : Node) → (hosts.node_calls pair call n).pasts ≡ pasts_after_call pair call (peer_of n) n.pasts
calls-pasts pair call n =
    let full : Bool = is_full n.host.phase in
    pasts_if (up n.host.phase) (hosts.happens_at pair (peers.called call full n.ends) n) n

pub echo-pasts : (byte : ℕ) (n : Node) → (hosts.node_calls_echo byte n).pasts ≡ n.pasts
echo-pasts byte n = go (up n.host.phase)
  where
    go : (b : Bool) → (if b then hosts.node_echo_called byte n else n).pasts ≡ n.pasts
    go true = refl
    go false = refl

pub reset-pasts : (n : Node) → (hosts.node_calls_reset n).pasts ≡ n.pasts
reset-pasts n = go (is_resetting n.host.phase)
  where
    go : (b : Bool) → (if b then n else hosts.node_cleared (resets.host_resets (hosts.quiet n) n.host) n).pasts ≡ n.pasts
    go true = refl
    go false = refl

pub hears-pasts : (c : Command) (n : Node) → (hosts.node_hears c n).pasts ≡ of_command c (peer_of n) n.pasts
hears-pasts Rst n = refl
hears-pasts Rrp n = refl
hears-pasts c n = pasts_if (up n.host.phase) (hosts.node_hears_other c n) n

pub text-pasts : (on : ℕ) (head : List Bool) (t : TextOut) (n : Node)
    → (hosts.node_hears_text on head t n).pasts ≡ (if up n.host.phase then pasts_after_at (pair_of (receiver_on on n.ends)) (Some (all.Text_comes head t.of_size t.bits)) n.ends n.pasts else n.pasts)
text-pasts on head t n = pasts_if (up n.host.phase) (hosts.node_takes_text on head t n) n
