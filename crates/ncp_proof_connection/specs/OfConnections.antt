-- The connections that the theorems are about: each is named by the pair of its sender's host.
use Rattle.std.specs.Prelude.{◌≡◌, ◌<◌, ℕ, Bool, true, List, ◌∷◌, Option}
use Rattle.ncp_wire.specs.declared.command.Command.{Command}
use Rattle.ncp_model.specs.declared.pair.Pair.{Pair}
use Rattle.ncp_model.specs.declared.limits.TheConstants.{MAX_BY_PEER}
use Rattle.ncp_model.specs.Pairs.{sends, counterpart}
use Rattle.ncp_model.specs.Endpoint.{Endpoint}
use Rattle.ncp_model.specs.EndpointEvents.{EndpointEvent}
use Rattle.ncp_proof_connection.specs.Connections.{Away, Connection, ConnectionEvent, command_comes, occur}
use Rattle.ncp_proof_connection.specs.Clearings.{Change, Hosted, change}

-- it holds for each connection after every list of events; then: after every list of changes
abbrev pub AfterEvents : (Connection → Type 0) → Type 0
AfterEvents holds = (pair : Pair) (events : List ConnectionEvent) → sends pair ≡ true → holds (occur pair events)

abbrev pub AfterChanges : (Hosted → Type 0) → Type 0
AfterChanges holds = (pair : Pair) (changes : List Change) → sends pair ≡ true → holds (change pair changes)

-- it holds for the next command to the sender, and to the receiver, while the peer has fewer requests
-- than its limit: for the pair as that host names it, the event of the command, and the end
abbrev pub OfNextToSender : (Pair → Option EndpointEvent → Option Endpoint → Type 0) → Type 0
OfNextToSender holds =
    (pair : Pair) (events : List ConnectionEvent) (c : Command) (rest : List Command) (by_peer : ℕ) → sends pair ≡ true → by_peer < MAX_BY_PEER → (occur pair events).to_sender ≡ c ∷ rest → holds pair (command_comes by_peer c) (occur pair events).sender.end

abbrev pub OfNextToReceiver : (Pair → Option EndpointEvent → Option Endpoint → Type 0) → Type 0
OfNextToReceiver holds =
    (pair : Pair) (events : List ConnectionEvent) (c : Command) (rest : List Command) (by_peer : ℕ) → sends pair ≡ true → by_peer < MAX_BY_PEER → (occur pair events).to_receiver ≡ c ∷ rest → holds (counterpart pair) (command_comes by_peer c) (occur pair events).receiver.end

-- it holds for the text in flight, with any leader and prefix
abbrev pub OfTextUnderway : (Pair → EndpointEvent → Option Endpoint → Type 0) → Type 0
OfTextUnderway holds =
    (pair : Pair) (events : List ConnectionEvent) (head : List Bool) (on of_size : ℕ) (bits : List Bool) → sends pair ≡ true → (occur pair events).text ≡ Away on of_size bits → holds (counterpart pair) (EndpointEvent.Text_comes head of_size bits) (occur pair events).receiver.end
