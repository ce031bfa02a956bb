-- The event that a record shows (one message of a capture, at a host's interface to its IMP), by its
-- direction and leader (BBN 1822, section 3).
use Rattle.std.specs.Prelude.{ℕ, ◌==◌, not, ◌&&◌, ◌||◌, Bool, true, false, List, Result, Ok, Err, if◌then◌else◌}
use Rattle.ncp_leader.specs.declared.leader.Leader.{Leader}
use Rattle.ncp_leader.specs.declared.leader.Short.{Short as TooShort}
use Rattle.ncp_leader.specs.Leader.{leader_in}
use Rattle.ncp_interface.specs.declared.imp_direction.ImpDirection.{ImpDirection}
use Rattle.ncp_interface.specs.declared.imp_direction.ImpDirection.TheVariants.{ToImp, FromImp}
use Rattle.ncp_interface.specs.declared.event.InterfaceEvent.{InterfaceEvent}
use Rattle.ncp_interface.specs.declared.event.InterfaceEvent.TheVariants.{Short, Nothing, Own, Other, Out, Answer, In}

-- of a message that the host sent, or received
abbrev pub way_of : Bool → ImpDirection
way_of true = ToImp
way_of false = FromImp

-- Ready For Next Message, Destination Dead, Incomplete Transmission
abbrev pub is_answer : ℕ → Bool
is_answer kind = kind == 5 || kind == 7 || kind == 9

-- a NOP is for no host, whatever its leader names
abbrev pub is_nop : Leader → Bool
is_nop leader = leader.kind == 4

abbrev pub event_out : ℕ → Leader → InterfaceEvent
event_out at leader =
    if is_nop leader then Nothing
    else if leader.host == at then Own leader.kind leader.link
    else if leader.kind == 0 then Out leader.host leader.link
    else Other leader.kind

-- the subnet's other messages are no events
abbrev pub event_from : ℕ → Leader → InterfaceEvent
event_from at leader =
    if not (leader.kind == 0) && not (is_answer leader.kind) then Nothing
    else if leader.host == at then Own leader.kind leader.link
    else if leader.kind == 0 then In leader.host leader.link
    else Answer leader.kind leader.host leader.link

abbrev pub event_after : ImpDirection → ℕ → Result Leader TooShort → InterfaceEvent
event_after way at (Err short) = Short
event_after ToImp at (Ok leader) = event_out at leader
event_after FromImp at (Ok leader) = event_from at leader

abbrev pub event_of : ImpDirection → ℕ → List Bool → InterfaceEvent
event_of way at bits = event_after way at (leader_in bits)
