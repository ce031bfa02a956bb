-- A measure of the messages one host can still cause with one peer, regardless of what the peer sends:
-- the messages it has yet to send, and those that their answers can cause. Nothing is assumed of the peer
-- or the ends, so the bound is loose when both keep the rules.
use Rattle.std.specs.Prelude.{ℕ, Bool, ◌+◌, ◌*◌, ◌/◌, not, ◌||◌, if◌then◌else◌, List, [], ◌∷◌, length, Option, None, Some}
use Rattle.std.specs.List.{sum_by}
use Rattle.std.specs.FinMap.{entries}
use Rattle.ncp_wire.specs.declared.command.Command.{Command}
use Rattle.ncp_wire.specs.declared.command.Command.TheVariants.{Rts, Str, Cls, All, Gvb, Ret, Inr, Ins, Eco, Rst}
use Rattle.ncp_model.specs.declared.pair.Pair.{Pair}
use Rattle.ncp_model.specs.Pairs.{sends}
use Rattle.ncp_model.specs.Endpoint.{Endpoint}
use Rattle.ncp_model.specs.Ends.{Ends}
use Rattle.ncp_model.specs.Phase.{Phase}
use Rattle.ncp_model.specs.Peers.{Peer, PairCall, Ask_to_send, Ask_to_receive, Close, Give, Take, Allocate, Call_back, Interrupt}
use Rattle.ncp_model.specs.EndpointEvents.{EndpointEvent, Transition, Outcome, Sent}

-- The number of messages that a command can still cause after it arrives. A request makes an end, whose
-- CLS is answered (NIC 8246, RTS, STR, CLS). A RET answers a GVB, an ERP an ECO, an RRP an RST. An ERR
-- answers a command that names no connection; it may answer the RET, and the CLS, too.
abbrev pub causes : Command → ℕ
causes (Rts receive send on) = 2
causes (Str send receive of_size) = 2
causes (Gvb on of_messages of_bits) = 2
causes (Cls my your) = 1
causes (All on of_messages of_bits) = 1
causes (Ret on of_messages of_bits) = 1
causes (Inr on) = 1
causes (Ins on) = 1
causes (Eco byte) = 1
causes Rst = 1
causes c = 0

-- the same for all commands of a message
unfoldable pub causes_all : List Command → ℕ
causes_all [] = 0
causes_all (c ∷ cs) = causes c + causes_all cs

-- queued commands: each counts one message, and those it causes
unfoldable pub queue_work : List Command → ℕ
queue_work [] = 0
queue_work (c ∷ cs) = 1 + causes c + queue_work cs

-- an end that has yet to make its CLS; and at a sender each stored byte, which may be a text by itself
-- and answered by an ERR
abbrev pub end_work : Pair → Endpoint → ℕ
end_work pair e = (if not e.left || e.leaving then 2 else 0) + (if sends pair then 2 * (length e.stored / e.size) else 0)

abbrev pub end_work_at : Pair → Option Endpoint → ℕ
end_work_at pair None = 0
end_work_at pair (Some e) = end_work pair e

-- the work after an event: of the commands made, and of the end
abbrev pub happened_work : Pair → Transition → ℕ
happened_work pair h = queue_work h.made + end_work_at pair h.after

-- the number of bytes of a text, in the byte size of an end
abbrev pub bytes_at : Option Endpoint → List Bool → ℕ
bytes_at None text = 0
bytes_at (Some e) text = length text / e.size

-- The work that each event may add to the end before it. A text received demultiplexes to receiving ends
-- only; at a sending end it would be stored, and each of its bits could be a byte.
abbrev pub work_added : Pair → EndpointEvent → Option Endpoint → ℕ
work_added pair (EndpointEvent.Asks_to_send of_size with_room own full) before = 5
work_added pair (EndpointEvent.Asks_to_receive with_room on own full) before = 5
work_added pair (EndpointEvent.Closes full) before = 0
work_added pair (EndpointEvent.Gives text) before = 2 * bytes_at before text
work_added pair (EndpointEvent.Takes bytes) before = 0
work_added pair (EndpointEvent.Allocates of_messages of_bits full) before = 2
work_added pair (EndpointEvent.Calls_back of_messages of_bits full) before = 3
work_added pair (EndpointEvent.Interrupts full) before = 2
work_added pair (EndpointEvent.Rts_comes on taken by_peer) before = 2
work_added pair (EndpointEvent.Str_comes of_size by_peer) before = 2
work_added pair EndpointEvent.Cls_comes before = 1
work_added pair (EndpointEvent.All_comes on of_messages of_bits) before = 1
work_added pair (EndpointEvent.Gvb_comes on of_messages of_bits) before = 2
work_added pair (EndpointEvent.Ret_comes on of_messages of_bits) before = 1
work_added pair (EndpointEvent.Inr_comes on) before = 1
work_added pair (EndpointEvent.Ins_comes on) before = 1
work_added pair (EndpointEvent.Text_comes head of_size text) before = 1 + (if sends pair then 2 * length text else 0)
work_added pair EndpointEvent.Text_goes_out before = 0
work_added pair (EndpointEvent.Is_answered how) before = 0
work_added pair EndpointEvent.Is_cleared before = 0

-- the work that sending a text takes away
abbrev pub takes_away : Outcome → ℕ
takes_away (Sent of_size text) = 2
takes_away outcome = 0

-- the work of all ends with a peer
abbrev pub entry_work : Pair × Endpoint → ℕ
entry_work p = end_work p.0 p.1

unfoldable pub ends_work : Ends → ℕ
ends_work m = sum_by entry_work (entries m)

-- the work of one host with one peer: its queued commands, an RRP owed, an RST wanted, and the ends
abbrev pub phase_work : Phase → ℕ
phase_work q = queue_work q.waiting + (if q.owe then 1 else 0) + (if q.want then 2 else 0)

abbrev pub peer_work : Peer → ℕ
peer_work p = phase_work p.phase + ends_work p.ends

-- the work that a user's call may add at the end of its pair before it
abbrev pub call_budget : PairCall → Option Endpoint → ℕ
call_budget (Ask_to_send of_size with_room) before = 5
call_budget (Ask_to_receive with_room) before = 5
call_budget Close before = 0
call_budget (Give text) before = 2 * bytes_at before text
call_budget (Take bytes) before = 0
call_budget (Allocate of_messages of_bits) before = 2
call_budget (Call_back of_messages of_bits) before = 3
call_budget Interrupt before = 2
