-- The endpoint at which an event occurs. The rules of one endpoint presume that it is the right one.
use Rattle.std.specs.Prelude.{ℕ, Bool, true, false, List, take, drop, Option, None, Some}
use Rattle.ncp_numbers.specs.Numbers.{number_of}
use Rattle.ncp_wire.specs.declared.command.Command.{Command}
use Rattle.ncp_wire.specs.declared.command.Command.TheVariants as commands
use Rattle.ncp_model.specs.declared.pair.Pair.{Pair}
use Rattle.ncp_model.specs.Pairs.{sends, receives}
use Rattle.ncp_model.specs.Endpoint.{Endpoint}
use Rattle.ncp_model.specs.Ends.{Ends, count, any, is_by_peer, hears_link, uses_link}
use Rattle.ncp_model.specs.EndpointEvents.{EndpointEvent}
use Rattle.ncp_model.specs.EndpointEvents as all

-- ALL, GVB, INR, and the sending and answering of a text are events of a sending endpoint; RET, INS and
-- arriving text of a receiving one (NIC 8246). Every other event checks its pair itself
abbrev pub suits : Pair → EndpointEvent → Bool
suits pair (all.All_comes on m b) = sends pair
suits pair (all.Gvb_comes on m b) = sends pair
suits pair (all.Inr_comes on) = sends pair
suits pair all.Text_goes_out = sends pair
suits pair (all.Is_answered how) = sends pair
suits pair (all.Ret_comes on m b) = receives pair
suits pair (all.Ins_comes on) = receives pair
suits pair (all.Text_comes head of_size text) = receives pair
suits pair what = true

-- the link in the leader of a text: its bits 17 to 24 (BBN 1822, leader)
abbrev pub link_in_head : List Bool → ℕ
link_in_head head = number_of (take 8 (drop 16 head))

-- an endpoint is there, and passes a test
abbrev pub passes : (Pair × Endpoint → Bool) → Pair → Option Endpoint → Bool
passes test pair None = false
passes test pair (Some e) = test (pair, e)

-- an event that names a link occurs at an endpoint that heard it or asked with it; any other event, at a
-- pair that suits it
abbrev pub leads : Pair → EndpointEvent → Option Endpoint → Bool
leads pair (all.All_comes on m b) before = passes (hears_link on) pair before
leads pair (all.Gvb_comes on m b) before = passes (hears_link on) pair before
leads pair (all.Inr_comes on) before = passes (hears_link on) pair before
leads pair (all.Ret_comes on m b) before = passes (uses_link on) pair before
leads pair (all.Ins_comes on) before = passes (uses_link on) pair before
leads pair (all.Text_comes head of_size text) before = passes (uses_link (link_in_head head)) pair before
leads pair what before = suits pair what

-- the event of a command at the endpoint that it identifies (NIC 8246, commands)
abbrev pub comes : Command → Ends → Option EndpointEvent
comes (commands.Rts receive send on) m = Some (all.Rts_comes on (any (hears_link on) m) (count is_by_peer m))
comes (commands.Str send receive of_size) m = Some (all.Str_comes of_size (count is_by_peer m))
comes (commands.Cls my your) m = Some all.Cls_comes
comes (commands.All on of_messages of_bits) m = Some (all.All_comes on of_messages of_bits)
comes (commands.Gvb on of_messages of_bits) m = Some (all.Gvb_comes on of_messages of_bits)
comes (commands.Ret on of_messages of_bits) m = Some (all.Ret_comes on of_messages of_bits)
comes (commands.Inr on) m = Some (all.Inr_comes on)
comes (commands.Ins on) m = Some (all.Ins_comes on)
comes c m = None
