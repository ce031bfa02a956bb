-- The results of receiving bits, in rows: the result, its number, and the number of its detail.
use Rattle.std.specs.Prelude.{◌≡◌, ℕ, Bool, false, List, Option, Result}
use Rattle.ncp_leader.specs.declared.leader.Leader.{Leader}
use Rattle.ncp_leader.specs.declared.leader.Short.{Short}
use Rattle.ncp_model.specs.declared.pair.Pair.{Pair}
use Rattle.ncp_model.specs.declared.outcomes.Took.{Took}
use Rattle.ncp_phase.specs.declared.flags.Flags.{Flags}
use Rattle.ncp_peer.specs.declared.received.Received.{Received}
use Rattle.ncp_peer.specs.declared.received.Received.TheVariants as received
use Rattle.ncp_results.specs.declared.returned.Arrived.{Arrived}
use Rattle.ncp_results.specs.Returned.{arrived_of, arrival, led_to}

-- for any bits, any leader, and any connection identified by its link
abbrev pub ArrivesAs : Received → ℕ → ℕ → Type 0
ArrivesAs became what detail = (p : Option Pair) (l : Result Leader Short) (b : List Bool) → arrived_of p l b became ≡ arrival l what detail

-- for a text also the connection that its link identifies
abbrev pub TextArrivesAs : Took → ℕ → Type 0
TextArrivesAs took detail =
    (p : Option Pair) (l : Result Leader Short) (b : List Bool) → arrived_of p l b (received.Text took) ≡ led_to p (arrival l 10 detail)

-- all is 0
abbrev pub no_arrival : Arrived
no_arrival = record { what = 0; detail = 0; local = 0; remote = 0; errors = 0; resets = 0; peer = 0; link = 0; kind = 0 }

-- no flag is set
abbrev pub no_flags : Flags
no_flags = record { down = false; want = false; owe = false; wait = false }
