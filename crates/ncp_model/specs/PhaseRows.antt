-- Phases and peers for the laws of phases, and their transitions.
use Rattle.std.specs.Prelude.{◌≡◌, ◌<◌, ◌≤◌, ℕ, ◌+◌, ◌++◌, Bool, true, false, List, [], ◌∷◌, length, take, replicate, Result}
use Rattle.std.specs.List.{list_any}
use Rattle.ncp_wire.specs.declared.command.Command.{Command}
use Rattle.ncp_wire.specs.declared.command.Command.TheVariants.{Inr}
use Rattle.ncp_wire.specs.declared.fault.CommandFault.{CommandFault}
use Rattle.ncp_wire.specs.Spelling.{spellings}
use Rattle.ncp_model.specs.declared.call_fault.CallFault.{CallFault}
use Rattle.ncp_model.specs.declared.limits.TheConstants.{MAX_WAITING}
use Rattle.ncp_model.specs.Echo.{echo_answer, eco_reply}
use Rattle.ncp_model.specs.Phase.{Phase, up, up_phase, is_rst, is_rrp, is_other, queued, makes_all, phase_hears, phase_settles}
use Rattle.ncp_model.specs.Sending.{is_full, next_commands}
use Rattle.ncp_model.specs.Peers.{Peer}
use Rattle.ncp_model.specs.PeerRows.{flagged, peer_in}
use Rattle.ncp_model.specs.Rows.{err}

-- the phase once the data links are quiet
abbrev pub settled : Phase → Phase
settled p = phase_settles true p

-- for every phase that owes only an RRP, and for every phase that wants only an RST, with none of that
-- kind queued
abbrev pub WhereRrpIsDue : (Phase → Type 0) → Type 0
WhereRrpIsDue holds = (p : Phase) → p.owe ≡ true → p.want ≡ false → list_any is_rrp p.waiting ≡ false → holds p

abbrev pub WhereRstIsDue : (Phase → Type 0) → Type 0
WhereRstIsDue holds = (p : Phase) → p.owe ≡ false → p.want ≡ true → list_any is_rst p.waiting ≡ false → holds p

-- for every phase with both flags, with one of each kind queued, or none of either
abbrev pub WhereBothAreDue : Bool → (Phase → Type 0) → Type 0
WhereBothAreDue waits holds =
    (p : Phase) → p.owe ≡ true → p.want ≡ true → list_any is_rrp p.waiting ≡ waits → list_any is_rst p.waiting ≡ waits → holds p

-- no flag set except that an RRP is awaited
abbrev pub awaiting_rrp : List Command → Phase
awaiting_rrp commands = flagged false false false true commands

-- for every phase that is up; for every phase without a reset wanted or awaited; for every command but
-- RST and RRP, at a phase that is up and at one that is not
abbrev pub IfUp : (Phase → Type 0) → Type 0
IfUp holds = (p : Phase) → up p ≡ true → holds p

abbrev pub IfMayReset : (Phase → Type 0) → Type 0
IfMayReset holds = (p : Phase) → p.want ≡ false → p.wait ≡ false → holds p

abbrev pub OfOthersWhileUp : (Command → Phase → Type 0) → Type 0
OfOthersWhileUp holds = (c : Command) (p : Phase) → is_other c ≡ true → up p ≡ true → holds c p

abbrev pub OfOthersWhileNotUp : (Command → Phase → Type 0) → Type 0
OfOthersWhileNotUp holds = (c : Command) (p : Phase) → is_other c ≡ true → up p ≡ false → holds c p

-- an INR arrives, and the host makes these replies; and the same when the table has no room
abbrev pub on_inr : ℕ → Bool → List Command → Phase → Phase
on_inr link is_quiet commands p =
    phase_hears (Inr link) (record { quiet = is_quiet; full = false; replies = commands }) p

abbrev pub on_inr_full : ℕ → Bool → List Command → Phase → Phase
on_inr_full link is_quiet commands p =
    phase_hears (Inr link) (record { quiet = is_quiet; full = true; replies = commands }) p

-- for every queue, and its first command that is not in the next control message
abbrev pub OfFirstLeftOut : (List Command → Command → Type 0) → Type 0
OfFirstLeftOut holds = (cs rest : List Command) (c : Command) → next_commands cs ++ c ∷ rest ≡ cs → holds cs c

-- the number of bytes of commands
abbrev pub bytes_of_commands : List Command → ℕ
bytes_of_commands cs = length (spellings cs)

-- the next control message has at least one command, and its commands are the first ones of the queue
abbrev pub TakesSome : List Command → Type 0
TakesSome cs = (n : ℕ) × (next_commands cs ≡ take (n + 1) cs)

-- for every host that is up with the peer: every text; when the queue has room for one more command; when
-- it has none
abbrev pub OfTextsWhileUp : (ℕ → List Bool → ℕ → List Bool → Peer → Type 0) → Type 0
OfTextsWhileUp holds =
    (on : ℕ) (head : List Bool) (of_size : ℕ) (text : List Bool) (p : Peer) → up p.phase ≡ true → holds on head of_size text p

abbrev pub WhileUpWithPlace : (Peer → Type 0) → Type 0
WhileUpWithPlace holds = (p : Peer) → up p.phase ≡ true → length p.phase.waiting < MAX_WAITING → holds p

abbrev pub WhileUpWithoutPlace : (Peer → Type 0) → Type 0
WhileUpWithoutPlace holds = (p : Peer) → up p.phase ≡ true → MAX_WAITING ≤ length p.phase.waiting → holds p

-- the answer to an echo call at a host that is up
abbrev pub echo_judged : ℕ → Peer → Result Command CallFault
echo_judged byte p = echo_answer byte (is_full p.phase) p.echoes

-- with a command queued last; with the ERR for a fault queued last
abbrev pub with_queued : Command → Peer → Peer
with_queued c p = record p { phase = queued c p.phase }

abbrev pub with_error : CommandFault → Peer → Peer
with_error fault p = with_queued (err fault.code fault.bytes) p

-- the awaited echo ends; the byte of the last one and the errors are unchanged
abbrev pub EndsTheEcho : Peer → Peer → Type 0
EndsTheEcho before after = after.echoes ≡ record before.echoes { awaited = false }

-- up, with these queued commands; with only the reply to an echo queued
abbrev pub up_with : List Command → Peer
up_with cs = peer_in (record up_phase { waiting = cs })

abbrev pub replying_peer : Peer
replying_peer = peer_in (makes_all (eco_reply 65 ∷ []) up_phase)

-- the fault of an unknown opcode, and of an ALL that is cut after its link
abbrev pub bad_opcode : CommandFault
bad_opcode = record { code = 1; bytes = 14 ∷ replicate 9 0 }

abbrev pub cut_short : CommandFault
cut_short = record { code = 2; bytes = 4 ∷ 2 ∷ replicate 8 0 }
