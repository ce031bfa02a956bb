-- The effect of a record on the followed connections.
use Rattle.std.specs.Prelude.{ℕ, not, ◌&&◌, Bool, true, false, List, [], ◌∷◌, length, map, Option, Some, None, Result, Ok, if◌then◌else◌}
use Rattle.std.specs.declared.result.Result.TheVariants.{Err as Fault}
use Rattle.ncp_leader.specs.declared.fault.MessageFault.{MessageFault}
use Rattle.ncp_leader.specs.Message.{Message, message_in}
use Rattle.ncp_wire.specs.declared.command.Command.{Command}
use Rattle.ncp_wire.specs.declared.command.Command.TheVariants.{Nop, Rts, Str, Cls, All as Allocate, Gvb, Ret, Inr, Ins, Eco, Erp, Err, Rst, Rrp}
use Rattle.ncp_wire.specs.declared.fault.CommandFault.{CommandFault}
use Rattle.ncp_follow.specs.declared.connection.EndReason.{EndReason}
use Rattle.ncp_follow.specs.declared.connection.EndReason.TheVariants.{ResetSent, ResetCame, ReplyCame}
use Rattle.ncp_interface.specs.declared.request.Request.TheVariants.{Link, Size}
use Rattle.ncp_interface.specs.declared.event.InterfaceEvent.{InterfaceEvent}
use Rattle.ncp_interface.specs.declared.event.InterfaceEvent.TheVariants as event
use Rattle.ncp_interface.specs.declared.notice.ImpNotice.{ImpNotice}
use Rattle.ncp_interface.specs.declared.notice.ImpNotice.TheVariants as notice
use Rattle.ncp_interface.specs.declared.message_class.MessageClass.{MessageClass}
use Rattle.ncp_interface.specs.declared.message_class.MessageClass.TheVariants as read
use Rattle.ncp_interface.specs.Events.{way_of, event_of}
use Rattle.ncp_interface.specs.Notices.{notice_of}
use Rattle.ncp_interface.specs.Contents.{message_class, items_said}
use Rattle.ncp_interface.specs.Slots.{position_of, is_repeat, gone_out, with_out, with_answer, after_repeat_at}
use Rattle.ncp_follow.specs.declared.session.Session.{Session}
use Rattle.ncp_follow.specs.declared.tables.Tables.{Tables}
use Rattle.ncp_follow.specs.declared.observation.Observation.{Observation}
use Rattle.ncp_follow.specs.declared.follower.Follower.{Follower}
use Rattle.ncp_follow.specs.Sessions.{is_heard, session_after_reset, session_after_reply, with_stray, session_of, with_session}
use Rattle.ncp_follow.specs.Connections.{index_numbered, silent_at}
use Rattle.ncp_follow.specs.Tables.{after_asking, after_close, after_grant, after_return, after_text, belongs, after_clearing}

-- ---- items of a control text

-- a command other than RST and RRP
abbrev pub after_command : Observation → Command → Tables → Tables
after_command observation Nop tables = tables
after_command observation (Rts receive send link) tables = after_asking observation receive send (Link link) tables
after_command observation (Str send receive size) tables = after_asking observation receive send (Size size) tables
after_command observation (Cls my your) tables = after_close observation my your tables
after_command observation (Allocate link messages bits) tables = after_grant observation link messages bits tables
after_command observation (Gvb link fm fb) tables = tables
after_command observation (Ret link messages bits) tables = after_return observation link messages bits tables
after_command observation (Inr link) tables = tables
after_command observation (Ins link) tables = tables
after_command observation (Eco byte) tables = tables
after_command observation (Erp byte) tables = tables
after_command observation (Err code bytes) tables = tables
after_command observation Rst tables = tables
after_command observation Rrp tables = tables

abbrev pub end_of_reset : Bool → EndReason
end_of_reset sent = if sent then ResetSent else ResetCame

-- the awaited RRP clears connections again: some may have been requested since the RST
abbrev pub ends_reset : Observation → Session → Bool
ends_reset observation session = not observation.sent && session.host_waits

abbrev pub heard_after : Observation → Command → Session → Tables → Tables
heard_after observation command session tables = if is_heard session observation.sent then after_command observation command tables else tables

-- the effect of an item on connections
abbrev pub tables_after : Observation → Result Command CommandFault → Session → Tables → Tables
tables_after observation (Fault fault) session tables = tables
tables_after observation (Ok Rst) session tables = after_clearing observation (end_of_reset observation.sent) tables
tables_after observation (Ok Rrp) session tables = if ends_reset observation session then after_clearing observation ReplyCame tables else tables
tables_after observation (Ok Nop) session tables = heard_after observation Nop session tables
tables_after observation (Ok (Rts receive send link)) session tables = heard_after observation (Rts receive send link) session tables
tables_after observation (Ok (Str send receive size)) session tables = heard_after observation (Str send receive size) session tables
tables_after observation (Ok (Cls my your)) session tables = heard_after observation (Cls my your) session tables
tables_after observation (Ok (Allocate link messages bits)) session tables = heard_after observation (Allocate link messages bits) session tables
tables_after observation (Ok (Gvb link fm fb)) session tables = heard_after observation (Gvb link fm fb) session tables
tables_after observation (Ok (Ret link messages bits)) session tables = heard_after observation (Ret link messages bits) session tables
tables_after observation (Ok (Inr link)) session tables = heard_after observation (Inr link) session tables
tables_after observation (Ok (Ins link)) session tables = heard_after observation (Ins link) session tables
tables_after observation (Ok (Eco byte)) session tables = heard_after observation (Eco byte) session tables
tables_after observation (Ok (Erp byte)) session tables = heard_after observation (Erp byte) session tables
tables_after observation (Ok (Err code bytes)) session tables = heard_after observation (Err code bytes) session tables

-- and on the session
abbrev pub session_after : Observation → Result Command CommandFault → Session → Session
session_after observation (Fault fault) session = session
session_after observation (Ok Rst) session = session_after_reset session observation.sent
session_after observation (Ok Rrp) session = session_after_reply session observation.sent
session_after observation (Ok Nop) session = session
session_after observation (Ok (Rts receive send link)) session = session
session_after observation (Ok (Str send receive size)) session = session
session_after observation (Ok (Cls my your)) session = session
session_after observation (Ok (Allocate link messages bits)) session = session
session_after observation (Ok (Gvb link fm fb)) session = session
session_after observation (Ok (Ret link messages bits)) session = session
session_after observation (Ok (Inr link)) session = session
session_after observation (Ok (Ins link)) session = session
session_after observation (Ok (Eco byte)) session = session
session_after observation (Ok (Erp byte)) session = session
session_after observation (Ok (Err code bytes)) session = session

-- all items of a control text, in order
abbrev pub session_after_all : Observation → List (Result Command CommandFault) → Session → Session
session_after_all observation [] session = session
session_after_all observation (item ∷ items) session = session_after_all observation items (session_after observation item session)

abbrev pub tables_after_all : Observation → List (Result Command CommandFault) → Session → Tables → Tables
tables_after_all observation [] session tables = tables
tables_after_all observation (item ∷ items) session tables = tables_after_all observation items (session_after observation item session) (tables_after observation item session tables)

-- ---- texts

abbrev pub is_text_opened : Observation → ℕ → Session → Tables → Bool
is_text_opened observation link session tables = is_heard session observation.sent && belongs observation link tables

abbrev pub text_tables : Observation → ℕ → ℕ → List Bool → Session → Tables → Tables
text_tables observation link size text session tables = if is_heard session observation.sent then after_text observation link size text tables else tables

abbrev pub text_session : Observation → ℕ → List Bool → Session → Tables → Session
text_session observation link text session tables = if is_text_opened observation link session tables then session else with_stray session observation.sent (length text)

-- ---- messages

abbrev pub read_session : MessageClass → Observation → Message → Session → Tables → Session
read_session read.Stop observation message session tables = session
read_session read.Text observation message session tables = text_session observation message.leader.link message.text session tables
read_session read.Control observation message session tables = session_after_all observation (items_said message.text) session

abbrev pub read_tables : MessageClass → Observation → Message → Session → Tables → Tables
read_tables read.Stop observation message session tables = tables
read_tables read.Text observation message session tables = text_tables observation message.leader.link message.size message.text session tables
read_tables read.Control observation message session tables = tables_after_all observation (items_said message.text) session tables

abbrev pub follower_after_regular : Observation → Message → Follower → Follower
follower_after_regular observation message follower =
    let session = session_of follower.part follower.sessions observation.at observation.peer in
    record follower {
      sessions = with_session follower.sessions (read_session (message_class message) observation message session follower.tables);
      tables = read_tables (message_class message) observation message session follower.tables;
    }

abbrev pub follower_after_said : Observation → Result Message MessageFault → Follower → Follower
follower_after_said observation (Ok message) follower = follower_after_regular observation message follower
follower_after_said observation (Fault fault) follower = follower

-- ---- records

-- a message that is sent again has no new contents
abbrev pub follower_after_out : ℕ → ℕ → ℕ → ℕ → List Bool → Follower → Follower
follower_after_out number at peer link bits follower =
    let place = position_of at peer link follower.outs in
    let after = record follower { outs = with_out follower.outs place (gone_out at peer link bits) } in
    if is_repeat follower.outs place bits then after
    else follower_after_said (record { number = number; at = at; peer = peer; sent = true }) (message_in bits) after

abbrev pub follower_after_in : ℕ → ℕ → ℕ → List Bool → Follower → Follower
follower_after_in number at peer bits follower = follower_after_said (record { number = number; at = at; peer = peer; sent = false }) (message_in bits) follower

-- a link without a stored message has none outstanding
abbrev pub follower_after_answer : ℕ → ℕ → ℕ → ℕ → Follower → Follower
follower_after_answer at peer link kind follower = record follower { outs = with_answer true kind follower.outs (position_of at peer link follower.outs) }

abbrev pub follower_after_event : ℕ → ℕ → List Bool → InterfaceEvent → Follower → Follower
follower_after_event number at bits event.Short follower = follower
follower_after_event number at bits event.Nothing follower = follower
follower_after_event number at bits (event.Own kind link) follower = follower
follower_after_event number at bits (event.Other kind) follower = follower
follower_after_event number at bits (event.Out peer link) follower = follower_after_out number at peer link bits follower
follower_after_event number at bits (event.Answer kind peer link) follower = follower_after_answer at peer link kind follower
follower_after_event number at bits (event.In peer link) follower = follower_after_in number at peer bits follower

-- An interface reset stands for an answer to each message of the host that was not delivered; the refusal
-- of a message, for an Incomplete Transmission (type 9) of that message.
abbrev pub follower_after_notice : ℕ → Option ImpNotice → Follower → Follower
follower_after_notice at None follower = follower
follower_after_notice at (Some notice.InterfaceReset) follower = record follower { outs = map (after_repeat_at at) follower.outs }
follower_after_notice at (Some (notice.MessageRefused peer link)) follower = follower_after_answer at peer link 9 follower

-- record `number`: a message that host `at` sent or received
abbrev pub follower_after_record : ℕ → Bool → ℕ → List Bool → Follower → Follower
follower_after_record number sent at bits follower =
    follower_after_notice at (notice_of (way_of sent) bits) (follower_after_event number at bits (event_of (way_of sent) at bits) follower)

-- nothing observed yet; a partial capture may begin in the middle
abbrev pub new_follower : Bool → Follower
new_follower part = record { part = part; sessions = []; outs = []; tables = record { tracks = []; told = [] } }

-- with the text of the connection with this number emptied
abbrev pub silent : ℕ → Follower → Follower
silent number follower = record follower { tables = record follower.tables { told = silent_at follower.tables.told (index_numbered number) } }
