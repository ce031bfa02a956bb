-- Lookups in a host by index and by link, and the result of receiving bits.
use Rattle.std.specs.Prelude.{ℕ, Bool, List, slice_get, Option, None, Result, Ok, Err}
use Rattle.ncp_leader.specs.declared.leader.Leader.{Leader}
use Rattle.ncp_leader.specs.declared.leader.Short.{Short}
use Rattle.ncp_model.specs.declared.pair.Pair.{Pair}
use Rattle.ncp_model.specs.declared.call_fault.CallFault.{CallFault}
use Rattle.ncp_model.specs.declared.outcomes.Error.{Error}
use Rattle.ncp_conn.specs.declared.record.Role.TheVariants.{Receive}
use Rattle.ncp_host.specs.Host.{Host}
use Rattle.ncp_host.specs.Calls.{errors_returned}
use Rattle.ncp_host.specs.Arrivals.{received_in, after_received}
use Rattle.ncp_host.specs.Listing.{pair_returned}
use Rattle.ncp_leader.specs.Leader.{leader_in}
use Rattle.ncp_results.specs.declared.returned.Arrived.{Arrived}
use Rattle.ncp_results.specs.Returned.{arrived_of}

-- the received ERR at an index, oldest first, if there is one
abbrev pub error_at_place : ℕ → Result (List Error) CallFault → Result (Option Error) CallFault
error_at_place place (Ok errors) = Ok (slice_get errors place)
error_at_place place (Err fault) = Err fault

abbrev pub error_told : ℕ → ℕ → Host → Result (Option Error) CallFault
error_told peer place h = error_at_place place (errors_returned peer h)

-- the connection that receives texts on the link named in a leader, if any
abbrev pub pair_if_any : Result (Option Pair) CallFault → Option Pair
pair_if_any (Ok pair) = pair
pair_if_any (Err fault) = None

abbrev pub pair_named : Result Leader Short → Host → Option Pair
pair_named (Ok leader) h = pair_if_any (pair_returned leader.host Receive leader.link h)
pair_named (Err short) h = None

-- the result of receiving bits; the connection is looked up once they have been received
abbrev pub arrived_at : List Bool → Host → Arrived
arrived_at bits h = arrived_of (pair_named (leader_in bits) (after_received bits h)) (leader_in bits) bits (received_in bits h)
