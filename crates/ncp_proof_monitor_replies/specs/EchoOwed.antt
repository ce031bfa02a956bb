-- Worked cases of owed replies: an ECO that arrived, and its ERP.
use Rattle.std.specs.Prelude.{ℕ, true, List, [], ◌∷◌}
use Rattle.ncp_wire.specs.declared.command.Command.TheVariants.{Erp}
use Rattle.ncp_monitor.specs.declared.pending_reply.PendingReply.{PendingReply}
use Rattle.ncp_monitor.specs.declared.pending_reply.ExpectedReply.TheVariants.{Echo}
use Rattle.ncp_monitor.specs.Replies.{is_due_of}
use Rattle.ncp_proof_monitor_replies.specs.Owed.{Item, Gives, nothing_ended, Owed}

-- host 1 owes host 2 an ERP with byte 7
abbrev pub echo_due : PendingReply
echo_due = record { at = 1; peer = 2; host = true; wanted = Echo 7; mandatory = true }

-- this queue of host 1 matches what it owes
abbrev pub IsOwed : List Item → Type 0
IsOwed items = Owed (is_due_of 1 2 true) (λ (link : ℕ). true) nothing_ended items (echo_due ∷ [])

abbrev pub ErpWaits : Type 0
ErpWaits = IsOwed (Gives (Erp 7) ∷ [])

abbrev pub OtherWaits : Type 0
OtherWaits = IsOwed (Gives (Erp 8) ∷ [])

abbrev pub NoneWaits : Type 0
NoneWaits = IsOwed []
