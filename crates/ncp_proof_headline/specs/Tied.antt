-- Two hosts, and the machine of many connections with the connections from this one to that one.
use Rattle.std.specs.Prelude.{◌≡◌, true, List}
use Rattle.std.specs.FinMap.{get}
use Rattle.ncp_model.specs.declared.pair.Pair.{Pair}
use Rattle.ncp_model.specs.Pairs.{sends, counterpart}
use Rattle.ncp_proof_endpoint.specs.Histories.{EndpointWithHistory}
use Rattle.ncp_proof_connection.specs.Sharing.{Shared, new_shared, Shared_event, shared, AllMayHappen}
use Rattle.ncp_proof_machine.specs.Hosts.{Node, TwoNodes, past_of}

-- a host's endpoint of a pair, with its history
abbrev pub watched_at : Node → Pair → EndpointWithHistory
watched_at n pair = record { end = get n.ends pair; past = past_of n.pasts pair }

-- The machine's senders are this host's ends that send; its receivers are that host's ends that receive,
-- each with its history.
abbrev pub HasEnds : Shared → TwoNodes → Type 0
HasEnds s w = (pair : Pair) → sends pair ≡ true → (s.sender pair ≡ watched_at w.this pair) × (s.receiver pair ≡ watched_at w.that (counterpart pair))

-- a list of the machine's events, each of which is possible, leads to these ends
abbrev pub IsTied : TwoNodes → Type 0
IsTied w = (events : List Shared_event) × AllMayHappen events new_shared × HasEnds (shared events) w
