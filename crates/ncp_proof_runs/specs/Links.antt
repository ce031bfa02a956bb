-- A link to a peer, as the notes of the peer show it: the last message sent on it, and its answer (BBN
-- 1822, section 3: one unanswered message per link; that a message is held is this profile's rule). These
-- determine the host's slot for the link.
use Rattle.std.specs.Prelude.{ℕ, ◌==◌, Bool, true, false, not, ◌&&◌, if◌then◌else◌, List, [], ◌∷◌, ◌++◌, Option, None, Some, Result, Ok, Err}
use Rattle.ncp_leader.specs.declared.leader.Leader.{Leader}
use Rattle.ncp_leader.specs.declared.leader.Short.{Short}
use Rattle.ncp_leader.specs.Leader.{leader_in}
use Rattle.ncp_slot.specs.declared.slot.Slot.TheVariants.{Empty, Ready, Travelling, Held}
use Rattle.ncp_wire.specs.declared.answer.Answer.{Answer}
use Rattle.ncp_wire.specs.declared.answer.Answer.TheVariants.{Rfnm, Incomplete, Dead}
use Rattle.ncp_slot.specs.Slots.{LinkSlot}
use Rattle.ncp_model.specs.Peers.{Peer}
use Rattle.ncp_peer.specs.declared.received.Received.{Received}
use Rattle.ncp_peer.specs.Output.{made_on}
use Rattle.ncp_transcript.specs.declared.call.Call.{Call}
use Rattle.ncp_transcript.specs.declared.note.HostNote.{HostNote}
use Rattle.ncp_proof_runs.specs.Peers.{is_this_number}

-- the history of a link so far
pub record LinkSoFar : Type 0 where
  pub fresh : List Bool  -- the last fresh message that was sent
  pub answer : Option Answer  -- the last answer, of those that answered a message
  pub unanswered : Bool  -- a message was sent, and has no answer yet
  pub woken : Bool  -- a wake was accepted since that answer

abbrev pub nothing_noted : LinkSoFar
nothing_noted = record { fresh = []; answer = None; unanswered = false; woken = false }

-- The next message is fresh if no answer precedes it, or the last was RFNM; otherwise it is a
-- retransmission.

abbrev pub takes_fresh : Option Answer → Bool
takes_fresh None = true
takes_fresh (Some Rfnm) = true
takes_fresh (Some Incomplete) = false
takes_fresh (Some Dead) = false

abbrev pub goes_fresh : LinkSoFar → Bool
goes_fresh t = takes_fresh t.answer

abbrev pub link_went_out : List Bool → LinkSoFar → LinkSoFar
link_went_out message t = record t { fresh = if goes_fresh t then message else t.fresh; unanswered = true }

-- an answer while none is awaited is stray, and answers nothing
abbrev pub was_answered : Answer → LinkSoFar → LinkSoFar
was_answered how t = record t {
  answer = if t.unanswered then Some how else t.answer;
  unanswered = false;
  woken = if t.unanswered then false else t.woken;
}

abbrev pub was_woken : LinkSoFar → LinkSoFar
was_woken t = record t { woken = true }

-- the link that a leader names
abbrev pub link_of_leader : Result Leader Short → Option ℕ
link_of_leader (Err short) = None
link_of_leader (Ok leader) = Some leader.link

abbrev pub noted_by : ℕ → HostNote → LinkSoFar → LinkSoFar
noted_by on (HostNote.Out message) t = if is_this_number on (link_of_leader (leader_in message)) then link_went_out message t else t
noted_by on (HostNote.Answered peer link answer told) t = if link == on then was_answered answer t else t
noted_by on (HostNote.Done (Call.Wake peer)) t = was_woken t
noted_by on note t = t

-- the history of a link after a list of notes of one peer, in order
abbrev pub link_noted_from : ℕ → List HostNote → LinkSoFar → LinkSoFar
link_noted_from on [] t = t
link_noted_from on (note ∷ rest) t = link_noted_from on rest (noted_by on note t)

abbrev pub noted_on : ℕ → List HostNote → LinkSoFar
noted_on on all = link_noted_from on all nothing_noted

-- The fresh messages sent on a link.

abbrev pub fresh_by : ℕ → HostNote → LinkSoFar → List (List Bool)
fresh_by on (HostNote.Out message) t = if is_this_number on (link_of_leader (leader_in message)) then (if goes_fresh t then message ∷ [] else []) else []
fresh_by on note t = []

abbrev pub fresh_from : ℕ → List HostNote → LinkSoFar → List (List Bool)
fresh_from on [] t = []
fresh_from on (note ∷ rest) t = fresh_by on note t ++ fresh_from on rest (noted_by on note t)

abbrev pub fresh_on : ℕ → List HostNote → List (List Bool)
fresh_on on all = fresh_from on all nothing_noted

-- The messages received on a link.

abbrev pub came_by : ℕ → HostNote → List (List Bool)
came_by on (HostNote.In message told) = if is_this_number on (link_of_leader (leader_in message)) then message ∷ [] else []
came_by on note = []

abbrev pub came_on : ℕ → List HostNote → List (List Bool)
came_on on [] = []
came_on on (note ∷ rest) = came_by on note ++ came_on on rest

-- The host's slot for the link, as this history determines it.

abbrev pub slot_of_answer : Option Answer → Bool → List Bool → LinkSlot
slot_of_answer None woken message = Empty
slot_of_answer (Some Rfnm) woken message = Empty
slot_of_answer (Some Incomplete) woken message = Ready message
slot_of_answer (Some Dead) woken message = if woken then Ready message else Held message

abbrev pub slot_so_far : LinkSoFar → LinkSlot
slot_so_far t = if t.unanswered then Travelling t.fresh else slot_of_answer t.answer t.woken t.fresh

-- the link is quiet: no message on it is unanswered, and none is to be sent again
abbrev pub is_quiet_noted : LinkSoFar → Bool
is_quiet_noted t = not t.unanswered && takes_fresh t.answer

-- the result of an answer on the link
abbrev pub received_noted : LinkSoFar → Received
received_noted t = if t.unanswered then Received.Answered else Received.Stray

-- The message that is ready on a link with no unanswered message: the failed one, woken first if its
-- destination was dead; or a message of the queued commands, or of a text.

abbrev pub ready_after : Option Answer → Bool → List Bool → Option (List Bool) → Option (List Bool)
ready_after None woken message made = made
ready_after (Some Rfnm) woken message made = made
ready_after (Some Incomplete) woken message made = Some message
ready_after (Some Dead) woken message made = if woken then Some message else None

abbrev pub ready_as_noted : ℕ → ℕ → LinkSoFar → Peer → Option (List Bool)
ready_as_noted n on t p = if t.unanswered then None else ready_after t.answer t.woken t.fresh (made_on n on p)
