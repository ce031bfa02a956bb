-- The hosts, steps and pairs that the headline is about.
use Rattle.std.specs.Prelude.{◌≡◌, ℕ, Bool, true, false, List}
use Rattle.std.specs.List.{list_any}
use Rattle.ncp_wire.specs.declared.command.Command.{Command}
use Rattle.ncp_model.specs.declared.pair.Pair.{Pair}
use Rattle.ncp_model.specs.Pairs.{sends}
use Rattle.ncp_model.specs.Effect.{answer}
use Rattle.ncp_model.specs.Ends.{hear, text_in}
use Rattle.ncp_model.specs.EndpointEvents.{Outcome, of_hearing, outcome_of_text}
use Rattle.ncp_model.specs.Phase.{is_rrp}
use Rattle.ncp_proof_machine.specs.Delivery.{Accepted}
use Rattle.ncp_proof_machine.specs.Resets.{is_up}
use Rattle.ncp_proof_machine.specs.Hosts.{Node, NodeEvent, NodeStep, TextOut, TwoNodes, node_at, node_hears, node_hears_text, node_steps, run}
use Rattle.ncp_proof_headline.specs.Headline.{BothWaysInModel}

-- it holds for two hosts after every schedule, and each pair that sends, in both directions
abbrev pub OfEachSender : (Pair → TwoNodes → Type 0) → Type 0
OfEachSender holds = (events : List NodeEvent) (pair : Pair) → sends pair ≡ true → BothWaysInModel (holds pair) (run events)

-- it holds for two hosts before and after each step that follows any schedule
abbrev pub InEachStep : (TwoNodes → TwoNodes → Type 0) → Type 0
InEachStep holds = (events : List NodeEvent) (e : NodeEvent) → holds (run events) (node_at e.side e.step (run events))

-- it holds for each host that awaits an RRP; then: for two hosts, in each step in which this host stops
-- waiting
abbrev pub WhileItAwaits : (Node → Type 0) → Type 0
WhileItAwaits holds = (n : Node) → n.host.phase.wait ≡ true → holds n

abbrev pub WhereAwaitingEnds : (TwoNodes → Type 0) → Type 0
WhereAwaitingEnds holds =
    (step : NodeStep) (w : TwoNodes) → w.this.host.phase.wait ≡ true → (node_steps step w).this.host.phase.wait ≡ false → holds w

-- a message with an RRP is in flight to this host
abbrev pub AnRrpComes : TwoNodes → Type 0
AnRrpComes w = (m : List Command) × (w.that.control.subnet ≡ Accepted m) × (list_any is_rrp m ≡ true)

-- it holds for each command, and each text, received by a host that is up: for the host before it, and
-- after it
abbrev pub OfCommandsAtNodes : (Command → Node → Node → Type 0) → Type 0
OfCommandsAtNodes holds = (c : Command) (n : Node) → is_up n.host ≡ true → holds c n (node_hears c n)

abbrev pub OfTextsAtNodes : (ℕ → TextOut → Node → Node → Type 0) → Type 0
OfTextsAtNodes holds =
    (on : ℕ) (head : List Bool) (t : TextOut) (n : Node) → is_up n.host ≡ true → holds on t n (node_hears_text on head t n)

-- the outcome of the command; then: of the text
abbrev pub of_command_at : Command → Node → Outcome
of_command_at c n = of_hearing (answer (hear c n.ends))

abbrev pub of_text_at : ℕ → TextOut → Node → Outcome
of_text_at on t n = outcome_of_text (answer (text_in on t.of_size t.bits n.ends))
