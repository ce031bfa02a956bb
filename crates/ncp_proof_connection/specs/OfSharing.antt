-- The connections that the theorems on sharing are about, and the lists of possible events.
use Rattle.std.specs.Prelude.{◌≡◌, true, List}
use Rattle.ncp_model.specs.declared.pair.Pair.{Pair}
use Rattle.ncp_model.specs.Pairs.{sends}
use Rattle.ncp_proof_connection.specs.Connections.{Connection}
use Rattle.ncp_proof_connection.specs.Sharing.{Shared, Shared_event, MayHappen, AllMayHappen, new_shared, shared, shared_occurs, connection_at}

-- it holds for all connections after every list of possible events; then: for each pair that sends; and
-- for its connection
abbrev pub AfterSharing : (Shared → Type 0) → Type 0
AfterSharing holds = (events : List Shared_event) → AllMayHappen events new_shared → holds (shared events)

abbrev pub OfSharedPairs : (Pair → Shared → Type 0) → Type 0
OfSharedPairs holds =
    (events : List Shared_event) (pair : Pair) → AllMayHappen events new_shared → sends pair ≡ true → holds pair (shared events)

abbrev pub OfEachConnection : (Connection → Type 0) → Type 0
OfEachConnection holds = OfSharedPairs (λ pair w. holds (connection_at pair w))

-- it holds for all connections before and after one more event
abbrev pub InEachSharedStep : (Shared → Shared → Type 0) → Type 0
InEachSharedStep holds =
    (events : List Shared_event) (e : Shared_event) → AllMayHappen events new_shared → MayHappen e (shared events) → holds (shared events) (shared_occurs e (shared events))
