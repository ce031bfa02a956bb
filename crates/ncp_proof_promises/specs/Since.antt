-- The commands that a host made, and those it received while it was up, each since it was last cleared:
-- by an accepted reset, by an RST received, or by going down. RST and RRP are left out. Each note appends
-- the commands that the rules define at the state before it.
use Rattle.std.specs.Prelude.{◌≡◌, ℕ, ◌==◌, Bool, true, false, if◌then◌else◌, List, [], ◌∷◌, ◌++◌, take, Option, None, Some, Result, Ok, Err}
use Rattle.std.specs.List.{filter}
use Rattle.std.specs.FinMap.{empty}
use Rattle.ncp_leader.specs.declared.regular.TheConstants.{FRONT_BITS}
use Rattle.ncp_leader.specs.declared.fault.MessageFault.{MessageFault}
use Rattle.ncp_leader.specs.Message.{Message, message_in}
use Rattle.ncp_wire.specs.declared.answer.Answer.{Answer}
use Rattle.ncp_wire.specs.declared.answer.Answer.TheVariants.{Rfnm, Incomplete, Dead}
use Rattle.ncp_slot.specs.Slots.{is_quiet}
use Rattle.ncp_model.specs.Phase.{up, is_reset, is_other, is_resetting}
use Rattle.ncp_proof_machine.specs.Resets.{Party, This, That}
use Rattle.ncp_proof_machine.specs.Watching.{HistoryVars, begins_empty, sees_call, sees_echo, sees_each, sees_text, sees_taken}
use Rattle.ncp_peer.specs.PeerState.{PeerState, control_link}
use Rattle.ncp_transcript.specs.Asked.{Asked, Asks, Asks_echo, Asks_reset, Asks_wake}
use Rattle.ncp_transcript_two.specs.World.{World, swap, NoteBody, Called, In, Answered}
use Rattle.ncp_transcript_two.specs.Underway.{commands_of, underway}
use Rattle.ncp_transcript_two.specs.declared.side.Side.{Side}
use Rattle.ncp_transcript_two.specs.declared.note.Note.{Note}
use Rattle.ncp_transcript_two.specs.Between.{Hosts, hosts_after_note}
use Rattle.ncp_transcript_two.specs.Seen.{seen, as_rules, body_of, side_of}

-- the history variables at this host and at that one: commands made and received there
pub record Watches : Type 0 where
  pub this : HistoryVars
  pub that : HistoryVars

abbrev pub nothing_seen : HistoryVars
nothing_seen = record { made = []; came = []; pasts = empty; violated = false }

abbrev pub none_watched : Watches
none_watched = record { this = nothing_seen; that = nothing_seen }

-- the history variables at the host of a side
abbrev pub watch_at : Side → Watches → HistoryVars
watch_at Side.A p = p.this
watch_at Side.B p = p.that

abbrev pub other_way : Watches → Watches
other_way p = record { this = p.that; that = p.this }

-- after a user's call: it makes a command, or resets, which clears
abbrev pub watch_after_asked : Asked → PeerState → HistoryVars → HistoryVars
watch_after_asked (Asks pair call) s w = sees_call pair call s.peer w
watch_after_asked (Asks_echo byte) s w = sees_echo byte s.peer w
watch_after_asked Asks_reset s w = if is_resetting s.peer.phase then w else begins_empty w
watch_after_asked Asks_wake s w = w

-- after a text received, with its leader and prefix: it may make an ERR, or a CLS
abbrev pub watch_after_text : ℕ → List Bool → Result Message MessageFault → PeerState → HistoryVars → HistoryVars
watch_after_text on head (Err fault) s w = w
watch_after_text on head (Ok m) s w = sees_text on head (record { of_size = m.size; bits = m.text }) s.peer w

-- after a message received: each command of a control message, in order, may make others
abbrev pub watch_after_message : ℕ → List Bool → PeerState → HistoryVars → HistoryVars
watch_after_message on message s w =
    if on == control_link then sees_each (is_quiet s.slots) (commands_of message) s.peer w else watch_after_text on (take FRONT_BITS message) (message_in message) s w

-- after an RFNM of a text: a sender that leaves makes its CLS
abbrev pub of_answer : ℕ → Answer → PeerState → HistoryVars → HistoryVars
of_answer on Rfnm s w = if on == control_link then w else sees_taken on s.peer w
of_answer on Incomplete s w = w
of_answer on Dead s w = w

-- after a note of this host, in the world before it
abbrev pub watches_after_body : NoteBody → World → Watches → Watches
watches_after_body (Called asked reply) v p = record p { this = watch_after_asked asked v.this p.this }
watches_after_body (In on message received) v p = record p { that = watch_after_message on message v.that p.that }
watches_after_body (Answered on how received) v p = record p { this = of_answer on how v.this p.this }
watches_after_body told v p = p

abbrev pub watches_on_side : Party → NoteBody → World → Watches → Watches
watches_on_side This told v p = watches_after_body told v p
watches_on_side That told v p = other_way (watches_after_body told (swap v) (other_way p))

abbrev pub watches_if_body : Party → Option NoteBody → World → Watches → Watches
watches_if_body side None v p = p
watches_if_body side (Some told) v p = watches_on_side side told v p

-- after a list of notes, in order
abbrev pub watched_from : List Note → Hosts → Watches → Watches
watched_from [] w p = p
watched_from (note ∷ rest) w p = watched_from rest (hosts_after_note note w) (watches_if_body (as_rules (side_of note)) (body_of note) (seen w) p)

-- Between two hosts that are up: no RST or RRP is underway (queued or in flight) from this host, and the
-- commands received by that host, followed by those underway to it, are the commands this host made.
abbrev pub CommandsAgree : World → Watches → Type 0
CommandsAgree v p = up v.this.peer.phase ≡ true → up v.that.peer.phase ≡ true
    → (filter is_reset (underway v.this v.going) ≡ []) × (p.that.came ++ filter is_other (underway v.this v.going) ≡ p.this.made)

-- A host that is not up has made and received no command since it was cleared, and has no queued commands
-- except RST and RRP.
abbrev pub IsSilentWhileDown : PeerState → HistoryVars → Type 0
IsSilentWhileDown s w = up s.peer.phase ≡ false → (w.made ≡ []) × (w.came ≡ []) × (filter is_other s.peer.phase.waiting ≡ [])
