-- Example messages for the definitions: at host 1's interface, from host 1 to host 2 and back.
use Rattle.std.specs.Prelude.{ℕ, Bool, true, false, List, [], ◌∷◌, None, Some, Result, Ok}
use Rattle.ncp_wire.specs.declared.command.Command.{Command}
use Rattle.ncp_wire.specs.declared.command.Command.TheVariants.{Nop, Rts, Str, Cls, All, Gvb, Ret, Eco, Rst, Rrp}
use Rattle.ncp_wire.specs.declared.fault.CommandFault.{CommandFault}
use Rattle.ncp_monitor.specs.declared.phase.MessageContext.{MessageContext}
use Rattle.ncp_monitor.specs.declared.monitor.Monitor.{Monitor}
use Rattle.ncp_monitor.specs.declared.view.View.{View}
use Rattle.ncp_monitor.specs.declared.finding.Finding.{Finding}
use Rattle.ncp_monitor.specs.declared.finding.Rule.TheVariants.{Early}
use Rattle.ncp_monitor.specs.declared.finding.ItemKind.TheVariants as thing
use Rattle.ncp_interface.specs.declared.sent_message.LinkState.{LinkState}
use Rattle.ncp_monitor.specs.Phases.{broken_by, after_items, after_room}
use Rattle.ncp_monitor.specs.Views.{new_view}
use Rattle.ncp_monitor.specs.Judged.{view_after_out, monitor_after_out, after_in}
use Rattle.ncp_monitor.specs.declared.observed_flow.ObservedFlow.{ObservedFlow}
use Rattle.ncp_monitor.specs.ConnStates.{SeenTables, no_conn_tables}
use Rattle.ncp_monitor.specs.Speaking.{tables_after_command}
use Rattle.ncp_monitor.specs.Texts.{conn_tables_after_text}
use Rattle.ncp_leader.specs.Message.{Message}

-- no data link of host 1 is busy, and the state of its link 0 is known

abbrev pub out_turn : MessageContext
out_turn = record { by = 1; sent = true; busy = None; zero = true }

-- link 2 is busy
abbrev pub while_busy : MessageContext
while_busy = record out_turn { busy = Some 2 }

abbrev pub in_turn : MessageContext
in_turn = record { by = 2; sent = false; busy = None; zero = true }

abbrev pub nop : Result Command CommandFault
nop = Ok Nop

abbrev pub rst : Result Command CommandFault
rst = Ok Rst

abbrev pub rrp : Result Command CommandFault
rrp = Ok Rrp

-- the view after host 1 sends or receives these items

abbrev pub view_sends : List (Result Command CommandFault) → View → View
view_sends items view = after_items out_turn items view

abbrev pub view_hears : List (Result Command CommandFault) → View → View
view_hears items view = after_items in_turn items view

-- host 2 sends two resets, and each is answered; then it sends a third and host 1 sends one, and only the
-- latter is answered
abbrev pub answered_twice : View
answered_twice = view_hears (rrp ∷ []) (view_sends (rst ∷ []) (view_hears (rst ∷ []) (view_sends (rrp ∷ rrp ∷ []) (view_hears (rst ∷ rst ∷ []) (new_view false)))))

-- host 1 sends a reset, which is answered twice
abbrev pub replied_twice : View
replied_twice = view_hears (rrp ∷ rrp ∷ []) (view_sends (rst ∷ []) (new_view false))

-- a capture that begins in the middle, after a control message of host 1 with room for one more command
abbrev pub in_the_middle : View
in_the_middle = after_room out_turn true (view_sends (nop ∷ []) (new_view true))

-- while link 2 of host 1 is busy
abbrev pub in_while_busy : MessageContext
in_while_busy = record in_turn { busy = Some 2 }

-- a reset of host 2 comes twice, and host 1 answers it once; then host 2 sends a NOP
abbrev pub asked_twice : View
asked_twice = view_hears (rst ∷ []) (view_sends (rrp ∷ []) (view_hears (rst ∷ []) (new_view false)))

abbrev pub acted_on : View
acted_on = view_hears (nop ∷ []) asked_twice

abbrev pub early_nop : Finding
early_nop = broken_by in_turn (Early thing.Nop true true false)

-- host 1 sends a text on link 2
abbrev pub view_texts : View → View
view_texts view = view_after_out view 2 LinkState.Empty false

-- host 2 sends an RST, and goes on before the RRP; then host 1 sends a text
abbrev pub text_passed : View
text_passed = view_texts (view_hears (rst ∷ nop ∷ []) (new_view false))

-- ---- hosts 0 and 1, both with records: messages on link 2 of host 0, which are just bits

abbrev pub both_seen : Monitor
both_seen = record { part = false; full = false; seen = true ∷ true ∷ []; unclear = []; in_doubt = []; views = new_view false ∷ new_view false ∷ []; kept = []; conn_tables = no_conn_tables }

-- host 0 alone has records
abbrev pub one_seen : Monitor
one_seen = record both_seen { seen = true ∷ false ∷ [] }

abbrev pub one_message : List Bool
one_message = true ∷ []

abbrev pub another_message : List Bool
another_message = false ∷ []

-- a message is sent; then another before any answer
abbrev pub one_out : Monitor
one_out = monitor_after_out both_seen 0 1 2 one_message

abbrev pub two_out : Monitor
two_out = monitor_after_out one_out 0 1 2 another_message

-- the first is delivered before the other is sent
abbrev pub one_came_two_out : Monitor
one_came_two_out = monitor_after_out (after_in one_out 1 0 2) 0 1 2 another_message

-- ---- commands of hosts 1 and 2 while they are up with each other

abbrev pub host_says : ObservedFlow
host_says = record { at = 1; peer = 2; sent = true }

abbrev pub peer_says : ObservedFlow
peer_says = record { at = 1; peer = 2; sent = false }

abbrev pub tables_after_commands : ObservedFlow → List Command → SeenTables → SeenTables
tables_after_commands flow [] conn_tables = conn_tables
tables_after_commands flow (c ∷ cs) conn_tables = tables_after_commands flow cs (tables_after_command flow [] c conn_tables)

-- host 1 receives on link 2, on its socket 2 from socket 3 of host 2
abbrev pub open_books : SeenTables
open_books = tables_after_commands peer_says (Str 3 2 8 ∷ []) (tables_after_commands host_says (Rts 2 3 2 ∷ []) no_conn_tables)

-- one of the two has closed
abbrev pub host_closed : SeenTables
host_closed = tables_after_commands host_says (Cls 2 3 ∷ []) open_books

abbrev pub peer_closed : SeenTables
peer_closed = tables_after_commands peer_says (Cls 3 2 ∷ []) open_books

-- host 2 has closed a connection that nobody asked for; and the bytes of an ERR about that CLS
abbrev pub none_closed : SeenTables
none_closed = tables_after_commands peer_says (Cls 3 2 ∷ []) no_conn_tables

abbrev pub cls_shown : List ℕ
cls_shown = 3 ∷ 0 ∷ 0 ∷ 0 ∷ 3 ∷ 0 ∷ 0 ∷ 0 ∷ 2 ∷ 0 ∷ []

-- both have closed
abbrev pub over_tables : SeenTables
over_tables = tables_after_commands peer_says (Cls 3 2 ∷ []) (tables_after_commands host_says (Cls 2 3 ∷ []) open_books)

-- a text of one byte from host 2, on link 2
abbrev pub text_of_byte : Message
text_of_byte = record { leader = record { flags = 0; kind = 0; host = 2; link = 2; low = 0 }; size = 8; count = 1; text = false ∷ true ∷ true ∷ false ∷ false ∷ false ∷ false ∷ true ∷ [] }

-- host 2 closes, and sends a text after its CLS. Host 1 had also closed, and given link 2 to its socket
-- 4, for socket 5: its CLS and its RTS were queued, and are sent after the text. Then host 2 closes that
-- second connection, for which host 1 holds the text
abbrev pub text_after_cls : SeenTables
text_after_cls =
    tables_after_commands peer_says (Cls 5 4 ∷ [])
    (tables_after_commands host_says (Cls 2 3 ∷ Rts 4 5 2 ∷ []) (conn_tables_after_text peer_says 2 text_of_byte (tables_after_commands peer_says (Str 5 4 8 ∷ []) (tables_after_commands peer_says (Cls 3 2 ∷ []) open_books))))

-- one ECO of host 2 to host 1, and two
abbrev pub one_echo : SeenTables
one_echo = tables_after_commands peer_says (Eco 1 ∷ []) no_conn_tables

abbrev pub two_echoes : SeenTables
two_echoes = tables_after_commands peer_says (Eco 1 ∷ Eco 2 ∷ []) no_conn_tables

-- two messages and 16 bits, for link 2 and for link 3; more messages than a sender may be allowed; and a
-- RET of one bit too many
abbrev pub an_all : Command
an_all = All 2 2 16

abbrev pub all_on_3 : Command
all_on_3 = All 3 2 16

abbrev pub too_many : Command
too_many = All 2 65534 0

abbrev pub a_ret : Command
a_ret = Ret 2 1 9

-- only host 1 has asked
abbrev pub half_asked : SeenTables
half_asked = tables_after_commands host_says (Rts 2 3 2 ∷ []) no_conn_tables

-- host 1 sends on link 2, from its socket 3 to socket 2 of host 2, in bytes of 8 bits
abbrev pub sending_tables : SeenTables
sending_tables = tables_after_commands host_says (Str 3 2 8 ∷ []) (tables_after_commands peer_says (Rts 2 3 2 ∷ []) no_conn_tables)

-- two messages and 16 bits are allocated; and half of each is asked back
abbrev pub allocated_tables : SeenTables
allocated_tables = tables_after_commands peer_says (an_all ∷ []) sending_tables

abbrev pub recalled_tables : SeenTables
recalled_tables = tables_after_commands peer_says (Gvb 2 64 64 ∷ []) allocated_tables

-- that amount is returned
abbrev pub returned_tables : SeenTables
returned_tables = tables_after_commands host_says (Ret 2 1 8 ∷ []) recalled_tables

-- both allocated messages are sent, one byte each
abbrev pub used_tables : SeenTables
used_tables = conn_tables_after_text host_says 2 text_of_byte (conn_tables_after_text host_says 2 text_of_byte allocated_tables)

-- the same eight bits, with another byte size
abbrev pub text_of_seven : Message
text_of_seven = record text_of_byte { size = 7 }

-- a text of host 2 arrived on a link without a connection
abbrev pub text_for_nobody : SeenTables
text_for_nobody = conn_tables_after_text peer_says 3 text_of_byte no_conn_tables

-- host 1, the sender, closes before it returns that amount
abbrev pub closing_tables : SeenTables
closing_tables = tables_after_commands host_says (Cls 3 2 ∷ []) recalled_tables

-- host 2 allocates more than host 1 accepts
abbrev pub refused_tables : SeenTables
refused_tables = tables_after_commands peer_says (too_many ∷ []) allocated_tables

-- host 1 receives and allocates one message of one byte; then asks for all of it back
abbrev pub granted_tables : SeenTables
granted_tables = tables_after_commands host_says (All 2 1 8 ∷ []) open_books

abbrev pub asked_tables : SeenTables
asked_tables = tables_after_commands host_says (Gvb 2 128 128 ∷ []) granted_tables

-- a text of host 2 arrived for which only a queued ALL allocates; the ALL is sent after it
abbrev pub text_before_all : SeenTables
text_before_all = tables_after_commands host_says (All 2 1 8 ∷ []) (conn_tables_after_text peer_says 2 text_of_byte open_books)
