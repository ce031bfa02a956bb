-- The number of the peer of an event is one byte of a leader.
use Rattle.std.proofs.Common.{ℕ, ◌<◌, ◌==◌, Bool, true, false, not, ◌&&◌, nat_lt, if◌then◌else◌, List, length, Ok, Err}
use Rattle.ncp_leader.specs.declared.leader.Leader.{Leader}
use Rattle.ncp_leader.specs.Leader.{leader_at}
use Rattle.ncp_leader.proofs.Leaders.{IsLeader-at}
use Rattle.ncp_interface.specs.declared.event.InterfaceEvent.{InterfaceEvent}
use Rattle.ncp_interface.specs.declared.event.InterfaceEvent.TheVariants as event
use Rattle.ncp_interface.specs.declared.imp_direction.ImpDirection.{ImpDirection}
use Rattle.ncp_interface.specs.declared.imp_direction.ImpDirection.TheVariants.{ToImp, FromImp}
use Rattle.ncp_interface.specs.Events.{is_answer, event_after, event_of}

abbrev pub HasPeer : InterfaceEvent → Type 0
HasPeer (event.Out peer link) = peer < 256
HasPeer (event.In peer link) = peer < 256
HasPeer (event.Answer kind peer link) = peer < 256
HasPeer other = Unit {0}

pub peer_fits : (way : ImpDirection) (at : ℕ) (bits : List Bool) → HasPeer (event_of way at bits)
peer_fits way at bits = go (nat_lt (length bits) 32)
  where
    leader : Leader
    leader = leader_at bits

    small : leader.host < 256
    small = (IsLeader-at bits).host

    out : (nop own zero : Bool) → HasPeer (if nop then event.Nothing else if own then event.Own leader.kind leader.link else if zero then event.Out leader.host leader.link else event.Other leader.kind)
    out true own zero = tt
    out false true zero = tt
    out false false true = small
    out false false false = tt

    come : (none own zero : Bool) → HasPeer (if none then event.Nothing else if own then event.Own leader.kind leader.link else if zero then event.In leader.host leader.link else event.Answer leader.kind leader.host leader.link)
    come true own zero = tt
    come false true zero = tt
    come false false true = small
    come false false false = small

    by : (way : ImpDirection) → HasPeer (event_after way at (Ok leader))
    by ToImp = out (leader.kind == 4) (leader.host == at) (leader.kind == 0)
    by FromImp = come (not (leader.kind == 0) && not (is_answer leader.kind)) (leader.host == at) (leader.kind == 0)

    short : (way : ImpDirection) → HasPeer (event_after way at (Err (record {})))
    short ToImp = tt
    short FromImp = tt

    go : (b : Bool) → HasPeer (event_after way at (if b then Err (record {}) else Ok leader))
    go true = short way
    go false = by way
