-- The commands of the next control message, and when the queue has no room for a call's command. The
-- numbers are this profile's limits.
use Rattle.std.specs.Prelude.{ℕ, ◌-◌, Bool, nat_le, if◌then◌else◌, List, [], ◌∷◌, length}
use Rattle.ncp_wire.specs.declared.command.Command.{Command}
use Rattle.ncp_wire.specs.Spelling.{spelling}
use Rattle.ncp_model.specs.declared.limits.TheConstants.{MAX_CALLED, MAX_CONTROL}
use Rattle.ncp_model.specs.Phase.{Phase}

-- 256 or more commands are queued
abbrev pub is_full : Phase → Bool
is_full p = nat_le MAX_CALLED (length p.waiting)

-- the longest run of whole commands from the front with at most `room` bytes in all
abbrev pub fitting : ℕ → List Command → List Command
fitting room [] = []
fitting room (c ∷ cs) = if nat_le (length (spelling c)) room then c ∷ fitting (room - length (spelling c)) cs else []

-- a control message has as many as fit 120 bytes
abbrev pub next_commands : List Command → List Command
next_commands waiting = fitting MAX_CONTROL waiting
