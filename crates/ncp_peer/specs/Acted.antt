-- Receiving from a peer and sending to it: steps used in the contracts of private functions.
use Rattle.std.specs.Prelude.{ℕ, Bool, List, slice_get, Option}
use Rattle.ncp_wire.specs.declared.command.Command.{Command}
use Rattle.ncp_control.specs.Reading.{commands_in, fault_in}
use Rattle.ncp_control.specs.Texts.{items_of}
use Rattle.ncp_model.specs.Effect.{answer}
use Rattle.ncp_model.specs.Ends.{hear, demux_command, map_after_at}
use Rattle.ncp_model.specs.Peers.{Peer}
use Rattle.ncp_peer.specs.declared.counts.Counts.{Counts}
use Rattle.ncp_peer.specs.Counting.{one_more_if, is_late}
use Rattle.ncp_peer.specs.PeerState.{PeerState}
use Rattle.ncp_peer.specs.PeerCalls.{kept_for}
use Rattle.ncp_peer.specs.Steps.{by_hearing, heard_items}

-- a command about a connection is received: the effect on its endpoint, the command that its answer
-- makes, and the counts
abbrev pub by_connection : Command → Peer → Peer
by_connection c p =
    by_hearing (answer (hear c p.ends)) (record p { ends = map_after_at p.ends (demux_command c p.ends) (hear c p.ends) })

abbrev pub counted_late : Command → Peer → Counts → Counts
counted_late c p n = record n { late = one_more_if (is_late (answer (hear c p.ends))) n.late }

-- a control text is received: its commands in order, and then its fault
abbrev pub heard_text : Bool → List ℕ → Peer × Counts → Peer × Counts
heard_text quiet bytes s = heard_items quiet (items_of (commands_in bytes) (fault_in bytes)) s

-- the message kept for the peer at index `at.0`, on link `at.1`
abbrev pub message_kept_at : List PeerState → ℕ × ℕ → Option (List Bool)
message_kept_at ss at = kept_for (slice_get ss at.0) at.1
