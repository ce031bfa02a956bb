-- A phase that is restored: its flags, and then its commands, one after the other.
use Rattle.std.specs.Prelude.{◌≡◌, Bool, not, ◌&&◌, if◌then◌else◌, List, length}
use Rattle.std.specs.List.{list_any}
use Rattle.ncp_wire.specs.declared.command.Command.{Command}
use Rattle.ncp_wire.specs.declared.command.Command.TheVariants.{Rst, Rrp}
use Rattle.ncp_wire.specs.declared.command.TheConstants.{ERROR_DATA}
use Rattle.ncp_model.specs.declared.outcomes.Error.{Error}
use Rattle.ncp_model.specs.Phase.{Phase, up, is_rst, is_rrp, has_room_for_one, queued}
use Rattle.ncp_phase.specs.declared.flags.Flags.{Flags}

-- the phase with these flags and these commands
abbrev pub phase_with : Flags → List Command → Phase
phase_with flags waiting = record { down = flags.down; want = flags.want; owe = flags.owe; wait = flags.wait; waiting = waiting }

-- an RST and an RRP may be queued once, another command while up
abbrev pub may_wait : Command → Phase → Bool
may_wait Rst p = not (list_any is_rst p.waiting)
may_wait Rrp p = not (list_any is_rrp p.waiting)
may_wait c p = up p

abbrev pub restored : Command → Phase → Phase
restored c p = if has_room_for_one p && may_wait c p then queued c p else p

-- an error has all bytes of its data
abbrev pub HasAllData : Error → Type 0
HasAllData error = length error.bytes ≡ ERROR_DATA
