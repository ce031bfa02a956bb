-- Local requests by their sockets, and the tables after them.
use Rattle.std.specs.Prelude.{ℕ, Bool, Result}
use Rattle.std.specs.FinMap.{get}
use Rattle.ncp_wire.specs.declared.command.Command.{Command}
use Rattle.ncp_model.specs.declared.pair.Pair.{Pair}
use Rattle.ncp_model.specs.declared.call_fault.CallFault.{CallFault}
use Rattle.ncp_model.specs.Endpoint.{or_new}
use Rattle.ncp_model.specs.Calls.{asked_to_send, asked_to_receive}
use Rattle.ncp_model.specs.Ends.{Ends, ask_send_in, ask_receive_in, map_with}
use Rattle.ncp_conn.specs.Asking.{ActsOrNoMemory}

-- a socket here asks to send to one of the peer, or to receive from it; if the allocation fails, nothing
-- changes
abbrev pub AsksToSend : ℕ → ℕ → ℕ → ℕ → Bool → Result Command CallFault → Ends → Ends → Type 0
AsksToSend local remote of_size room full result before now =
    let pair : Pair = record { local = local; remote = remote } in
    ActsOrNoMemory pair (ask_send_in pair of_size room full before) result before now

abbrev pub AsksToReceive : ℕ → ℕ → ℕ → Bool → Result Command CallFault → Ends → Ends → Type 0
AsksToReceive local remote room full result before now =
    let pair : Pair = record { local = local; remote = remote } in
    ActsOrNoMemory pair (ask_receive_in pair room full before) result before now

-- the table after the request at a pair, by its endpoint or a new one
abbrev pub with_sender_asked : Pair → ℕ → ℕ → Ends → Ends
with_sender_asked pair of_size room m = map_with m pair (asked_to_send of_size room (or_new (get m pair)))

abbrev pub with_receiver_asked : Pair → ℕ → ℕ → Ends → Ends
with_receiver_asked pair on room m = map_with m pair (asked_to_receive on room (or_new (get m pair)))
