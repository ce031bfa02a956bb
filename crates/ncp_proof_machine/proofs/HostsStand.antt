-- Meant for other crates too: they cite what is public here.
--
-- A host that is not up has no ends; all its ends are sound and in their limits, and no two are on
-- one link.
use Rattle.std.proofs.Common.{List, [], ◌∷◌}
use Rattle.std.specs.FinMap.{get}
use Rattle.ncp_wire.specs.declared.command.Command.{Command}
use Rattle.ncp_model.specs.declared.pair.Pair.{Pair}
use Rattle.ncp_model.specs.Ends.{Ends, put}
use Rattle.ncp_model.specs.EndpointEvents.{EndpointEvent, Transition, happens}
use Rattle.ncp_model.specs.Sending.{is_full}
use Rattle.ncp_proof_machine.specs.Resets.{is_up, host_makes_all, Party, This, That}
use Rattle.ncp_proof_machine.specs.Hosts.{Node, PairCall, called, happens_at, node_calls, node_hears, node_hears_all, TwoNodes, nodes_swapped, NodeStep, node_steps, NodeEvent, node_at, run_from, run, start}
use Rattle.ncp_proof_machine.proofs.EndsGood.{EndsInvariant, none-good, Changes, good-after, put-changes, called-suits, called-fresh}
use Rattle.ncp_proof_machine.proofs.HostsBase.{either, other-keeps}
use Rattle.ncp_proof_machine.proofs.Standing.{ByLinks, StandsIn, keeping, none-stand, command-stands, commands-stand, step-keeps}

abbrev pub NodesStand : Node → Type 0
NodesStand n = StandsIn EndsInvariant n

by_links : (m k : Ends) (pair : Pair) (what : EndpointEvent) → ByLinks m pair what → Changes m k pair what → EndsInvariant m → EndsInvariant k
by_links m k pair what b c g = good-after m k pair what b.suited c b.fresh g

pub hearing-stands : (c : Command) (n : Node) → NodesStand n → NodesStand (node_hears c n)
hearing-stands c n p = command-stands EndsInvariant none-good by_links c n p

pub hearing_all-stands : (cs : List Command) (n : Node) → NodesStand n → NodesStand (node_hears_all cs n)
hearing_all-stands cs n p = commands-stand EndsInvariant none-good by_links cs n p

calling-stands : (pair : Pair) (call : PairCall) (n : Node) → NodesStand n → NodesStand (node_calls pair call n)
calling-stands pair call n p =
    let what : EndpointEvent = called call (is_full n.host.phase) n.ends in
    let did : Transition = happens pair what (get n.ends pair) in
    let good = good-after n.ends (put n.ends pair did.after) pair what (called-suits pair call (is_full n.host.phase) n.ends) (put-changes n.ends pair what) (called-fresh call (is_full n.host.phase) n.ends) p.good in
    either NodesStand (is_up n.host) (happens_at pair what n) n (keeping EndsInvariant none-good by_links (host_makes_all did.made n.host) (put n.ends pair did.after) good) p

abbrev pub BothStand : TwoNodes → Type 0
BothStand w = NodesStand w.this × NodesStand w.that

step-stands : (step : NodeStep) (w : TwoNodes) → BothStand w → BothStand (node_steps step w)
step-stands step w p = (
  step-keeps EndsInvariant none-good by_links step w (λ pair call e. calling-stands pair call w.this p.0) p.0,
  other-keeps NodesStand (λ n l q. q) (λ n ls q. q) step w p.1,
)

pub side-stands : (side : Party) (step : NodeStep) (w : TwoNodes) → BothStand w → BothStand (node_at side step w)
side-stands This step w p = step-stands step w p
side-stands That step w p = let q = step-stands step (nodes_swapped w) (p.1, p.0) in (q.1, q.0)

run-stands : (es : List NodeEvent) (w : TwoNodes) → BothStand w → BothStand (run_from es w)
run-stands [] w p = p
run-stands (e ∷ es) w p = run-stands es (node_at e.side e.step w) (side-stands e.side e.step w p)

pub ever-stand : (es : List NodeEvent) → BothStand (run es)
ever-stand es = let n = none-stand EndsInvariant none-good by_links in run-stands es start (n (is_up start.this.host), n (is_up start.that.host))
