-- A reset recovers (NIC 8246, RST and RRP): when the hosts are quiescent, nothing is left of anything
-- before the reset.
use Rattle.std.specs.Prelude.{◌≡◌, Bool, true, false, List, [], ◌∷◌}
use Rattle.ncp_model.specs.Ends.{no_ends}
use Rattle.ncp_proof_machine.specs.Resets.{Party, This, That, is_up}
use Rattle.ncp_proof_machine.specs.Hosts.{Node, TwoNodes, NodeStep, Calls_reset, Calls, Calls_echo, Falls, NodeEvent}

-- the steps that do not come from messages and answers alone: a call of a user, other than one for what
-- is held; and a host that goes down of itself, which no host of a transcript does
abbrev pub disturbs : NodeStep → Bool
disturbs Calls_reset = true
disturbs (Calls pair call) = true
disturbs (Calls_echo byte) = true
disturbs Falls = true
disturbs step = false

-- a schedule without such a step
abbrev pub IsUndisturbed : List NodeEvent → Type 0
IsUndisturbed [] = Unit {0}
IsUndisturbed (e ∷ es) = (disturbs e.step ≡ false) × IsUndisturbed es

-- the host of a side
abbrev pub node_of_party : Party → TwoNodes → Node
node_of_party This w = w.this
node_of_party That w = w.that

-- a host that is up with its peer, has no endpoints and awaits no echo: nothing of earlier connections is
-- left
abbrev pub IsFresh : Node → Type 0
IsFresh n = record { up : is_up n.host ≡ true; ends : n.ends ≡ no_ends; echo : n.echoes.awaited ≡ false }

abbrev pub HaveRecovered : TwoNodes → Type 0
HaveRecovered w = IsFresh w.this × IsFresh w.that
