-- The replies of a side, in the order of what they answer (NIC 8246, ECO, ERP and ERR). The codes of ERR,
-- its data, and this order are this project's own rules (its profile). A reply is mandatory if what it
-- answers leaves no choice; else it is only admitted.
use Rattle.std.specs.Prelude.{ℕ, ◌==◌, not, ◌&&◌, ◌||◌, min, Bool, true, false, List, [], ◌∷◌, get_or, map, Option, Some, None, option_map, if◌then◌else◌}
use Rattle.std.specs.List.{list_any}
use Rattle.std.proofs.Math.Bool.{beq}
use Rattle.ncp_wire.specs.declared.command.Command.{Command}
use Rattle.ncp_wire.specs.declared.command.Command.TheVariants.{Ret, Erp, Err}
use Rattle.ncp_wire.specs.declared.fault.CommandFault.{CommandFault}
use Rattle.ncp_wire.specs.Spelling.{error_data}
use Rattle.ncp_monitor.specs.declared.pending_reply.PendingReply.{PendingReply}
use Rattle.ncp_monitor.specs.declared.pending_reply.ExpectedReply.{ExpectedReply}
use Rattle.ncp_monitor.specs.declared.pending_reply.ExpectedReply.TheVariants.{Echo, Error, Return}
use Rattle.ncp_monitor.specs.declared.finding.Rule.{Rule}
use Rattle.ncp_monitor.specs.declared.finding.Rule.TheVariants as rule
use Rattle.ncp_monitor.specs.declared.observed_flow.ObservedFlow.{ObservedFlow}
use Rattle.ncp_monitor.specs.ConnStates.{SeenTables, with_due}
pub use Rattle.ncp_monitor.specs.ConnStates.{same_bytes}

-- a reply can be the expected one
abbrev pub says_wanted : ExpectedReply → Command → Bool
says_wanted (Echo byte) (Erp other) = other == byte
says_wanted (Error code or bytes) (Err other shown) = (other == code || other == or) && same_bytes shown bytes
says_wanted (Return link messages bits) (Ret on of_messages of_bits) = on == link
says_wanted wanted c = false

-- the reply as a command: an ERR with the first of its two codes, and a RET with at most 65,535 messages,
-- all that its field can hold
abbrev pub reply_wanted : ExpectedReply → Command
reply_wanted (Echo byte) = Erp byte
reply_wanted (Error code or bytes) = Err code bytes
reply_wanted (Return link messages bits) = Ret link (min messages 65535) bits

-- ---- whose

-- a reply of the host (or the peer)
abbrev pub is_due_of : ℕ → ℕ → Bool → PendingReply → Bool
is_due_of at peer host due = due.at == at && due.peer == peer && beq due.host host

-- of the source
abbrev pub is_own : ObservedFlow → PendingReply → Bool
is_own flow due = is_due_of flow.at flow.peer flow.sent due

-- the destination owes a reply, or may give one
abbrev pub owes : ObservedFlow → ExpectedReply → Bool → SeenTables → SeenTables
owes flow wanted mandatory conn_tables = with_due conn_tables (record { at = flow.at; peer = flow.peer; host = not flow.sent; wanted = wanted; mandatory = mandatory })

-- an ERR about a command, or about a fault of a control text

abbrev pub error_wanted : ℕ → ℕ → Command → ExpectedReply
error_wanted code or c = Error code or (error_data c)

abbrev pub fault_wanted : CommandFault → ExpectedReply
fault_wanted fault = Error fault.code fault.code fault.bytes

-- ---- a given reply

-- a pending reply of the source that the given one fits
abbrev pub answers : (PendingReply → Bool) → Command → PendingReply → Bool
answers own c due = own due && says_wanted due.wanted c

abbrev pub is_wanted : (PendingReply → Bool) → Command → List PendingReply → Bool
is_wanted own c pending_replies = list_any (answers own c) pending_replies

-- the first mandatory reply that is skipped: it precedes the first that fits
abbrev pub skipped : (PendingReply → Bool) → Command → List PendingReply → Option Command
skipped own c [] = None
skipped own c (due ∷ pending_replies) =
    if answers own c due then None
    else if own due && due.mandatory then Some (reply_wanted due.wanted)
    else skipped own c pending_replies

-- optional if the given reply fits it: the same contents may have been meant for a later one
abbrev pub optional : (PendingReply → Bool) → Command → PendingReply → PendingReply
optional own c due = if answers own c due then record due { mandatory = false } else due

-- the first that fits is mandatory, or none fits
abbrev pub fits_sure : (PendingReply → Bool) → Command → List PendingReply → Bool
fits_sure own c [] = true
fits_sure own c (due ∷ pending_replies) = if answers own c due then due.mandatory else fits_sure own c pending_replies

-- without those of the source up to the first that fits; that one is removed too
abbrev pub pending_struck : (PendingReply → Bool) → Command → List PendingReply → List PendingReply
pending_struck own c [] = []
pending_struck own c (due ∷ pending_replies) = if own due then if says_wanted due.wanted c then pending_replies else pending_struck own c pending_replies else due ∷ pending_struck own c pending_replies

-- the replies still pending
abbrev pub pending_left : (PendingReply → Bool) → Command → List PendingReply → List PendingReply
pending_left own c pending_replies = if fits_sure own c pending_replies then pending_struck own c pending_replies else pending_struck own c (map (optional own c) pending_replies)

abbrev pub no_due : PendingReply
no_due = record { at = 0; peer = 0; host = false; wanted = Echo 0; mandatory = false }

abbrev pub due_at : List PendingReply → ℕ → PendingReply
due_at pending_replies place = get_or pending_replies place no_due

-- ---- the rule that a reply breaks, and its effect

-- it skips a mandatory one, or nothing asked for it
abbrev pub reply_rule : ObservedFlow → Command → Rule → SeenTables → Option Rule
reply_rule flow c unasked conn_tables =
    if is_wanted (is_own flow) c conn_tables.pending_replies then option_map (λ d. rule.Skipped d) (skipped (is_own flow) c conn_tables.pending_replies) else Some unasked

abbrev pub after_reply : ObservedFlow → Command → SeenTables → SeenTables
after_reply flow c conn_tables = if is_wanted (is_own flow) c conn_tables.pending_replies then record conn_tables { pending_replies = pending_left (is_own flow) c conn_tables.pending_replies } else conn_tables
