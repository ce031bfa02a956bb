-- The events that change each flag and number of an endpoint, and the commands that show it.
use Rattle.std.specs.Prelude.{◌≡◌, Bool, true, false, Option, None, Some}
use Rattle.ncp_wire.specs.declared.command.Command.{Command}
use Rattle.ncp_wire.specs.declared.command.Command.TheVariants.{Cls}
use Rattle.ncp_model.specs.declared.pair.Pair.{Pair}
use Rattle.ncp_model.specs.Endpoint.{Endpoint, or_new}
use Rattle.ncp_model.specs.Texts.{Rfnm}
use Rattle.ncp_model.specs.EndpointEvents.{EndpointEvent, happens}

-- For every event after which the endpoint exists: the event, and the endpoint before and after. One that
-- did not exist before counts as a new one.
abbrev pub Always : (EndpointEvent → Endpoint → Endpoint → Type 0) → Type 0
Always holds =
    (pair : Pair) (what : EndpointEvent) (before : Option Endpoint) (e : Endpoint) → (happens pair what before).after ≡ Some e → holds what (or_new before) e

-- this event changes only the fields that `named` takes from its first argument
abbrev pub MovesOnly : EndpointEvent → (Endpoint → Endpoint → Endpoint) → Type 0
MovesOnly what named =
    (pair : Pair) (before : Option Endpoint) (e : Endpoint) → (happens pair what before).after ≡ Some e → e ≡ named e (or_new before)

-- The fields that an event may change: those of the first endpoint, put into the second.

abbrev pub own_size : Endpoint → Endpoint → Endpoint
own_size now was = record was { asked = now.asked; opened = now.opened; size = now.size; stored = now.stored; room = now.room }

abbrev pub own_link : Endpoint → Endpoint → Endpoint
own_link now was = record was { asked = now.asked; opened = now.opened; link = now.link; stored = now.stored; room = now.room }

abbrev pub its_leaving : Endpoint → Endpoint → Endpoint
its_leaving now was = record was { leaving = now.leaving; left = now.left; stored = now.stored }

abbrev pub store_alone : Endpoint → Endpoint → Endpoint
store_alone now was = record was { stored = now.stored }

abbrev pub both_numbers : Endpoint → Endpoint → Endpoint
both_numbers now was = record was { messages = now.messages; bits = now.bits }

abbrev pub recall_alone : Endpoint → Endpoint → Endpoint
recall_alone now was = record was { recall = now.recall }

abbrev pub no_field : Endpoint → Endpoint → Endpoint
no_field now was = was

abbrev pub request_and_link : Endpoint → Endpoint → Endpoint
request_and_link now was = record was { heard = now.heard; opened = now.opened; link = now.link }

abbrev pub request_and_size : Endpoint → Endpoint → Endpoint
request_and_size now was = record was { heard = now.heard; opened = now.opened; size = now.size }

abbrev pub closing_marks : Endpoint → Endpoint → Endpoint
closing_marks now was = record was { leaving = now.leaving; left = now.left; cls = now.cls; stored = now.stored }

abbrev pub numbers_and_recall : Endpoint → Endpoint → Endpoint
numbers_and_recall now was = record was { messages = now.messages; bits = now.bits; recall = now.recall }

abbrev pub interrupts_alone : Endpoint → Endpoint → Endpoint
interrupts_alone now was = record was { interrupts = now.interrupts }

abbrev pub numbers_and_store : Endpoint → Endpoint → Endpoint
numbers_and_store now was = record was { messages = now.messages; bits = now.bits; stored = now.stored }

abbrev pub text_out : Endpoint → Endpoint → Endpoint
text_out now was = record was { messages = now.messages; bits = now.bits; stored = now.stored; busy = now.busy }

abbrev pub text_back : Endpoint → Endpoint → Endpoint
text_back now was = record was { leaving = now.leaving; left = now.left; stored = now.stored; busy = now.busy }

-- the call of a GVB; the RET that answers it (NIC 8246, GVB and RET)
abbrev pub calls_back : EndpointEvent → Bool
calls_back (EndpointEvent.Calls_back of_messages of_bits full) = true
calls_back what = false

abbrev pub is_ret : EndpointEvent → Bool
is_ret (EndpointEvent.Ret_comes on of_messages of_bits) = true
is_ret what = false

-- an interrupt arrives (NIC 8246, INR and INS)
abbrev pub is_interrupt : EndpointEvent → Bool
is_interrupt (EndpointEvent.Inr_comes on) = true
is_interrupt (EndpointEvent.Ins_comes on) = true
is_interrupt what = false

-- a text is sent; its RFNM arrives (BBN 1822, RFNM)
abbrev pub is_sending : EndpointEvent → Bool
is_sending EndpointEvent.Text_goes_out = true
is_sending what = false

abbrev pub frees_the_sender : EndpointEvent → Bool
frees_the_sender (EndpointEvent.Is_answered Rfnm) = true
frees_the_sender what = false

-- events that may change the counters: an allocation, and an ALL, GVB, RET or text that arrives or is
-- sent (NIC 8246, allocation)
abbrev pub counts : EndpointEvent → Bool
counts (EndpointEvent.Allocates of_messages of_bits full) = true
counts (EndpointEvent.All_comes on of_messages of_bits) = true
counts (EndpointEvent.Gvb_comes on of_messages of_bits) = true
counts (EndpointEvent.Ret_comes on of_messages of_bits) = true
counts (EndpointEvent.Text_comes head of_size text) = true
counts EndpointEvent.Text_goes_out = true
counts what = false

-- the command is a CLS
abbrev pub is_cls : Command → Bool
is_cls (Cls my your) = true
is_cls c = false

-- the event is a clearing
abbrev pub is_clearing : EndpointEvent → Bool
is_clearing EndpointEvent.Is_cleared = true
is_clearing what = false

-- the endpoint has made its CLS, or has ended
abbrev pub was_left : Option Endpoint → Bool
was_left None = true
was_left (Some e) = e.left
