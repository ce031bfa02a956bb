-- Schedules that reach the bound.
use Rattle.std.specs.Prelude.{List, ◌∷◌, ◌++◌}
use Rattle.ncp_proof_machine.specs.Resets.{This, That}
use Rattle.ncp_proof_machine.specs.Hosts.{NodeEvent, Calls_reset, Sends, Loses, Dies, Is_answered, Wakes}
use Rattle.ncp_proof_machine.specs.HostRuns.{by, message}

-- a reset whose RST is lost, and sent again
abbrev pub reset_lost_once : List NodeEvent
reset_lost_once = by This Calls_reset ∷ by This (Sends 0) ∷ by This Loses ∷ by This Is_answered ∷ message This ++ message That

-- a reset whose RST finds its destination dead, and is sent again after a wake
abbrev pub reset_woken : List NodeEvent
reset_woken = by This Calls_reset ∷ by This (Sends 0) ∷ by This Dies ∷ by This Is_answered ∷ by This Wakes ∷ message This ++ message That
