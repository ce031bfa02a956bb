-- The messages that the notes of a host for one of its peers bring, and the number of its new messages.
use Rattle.std.specs.Prelude.{ℕ, ◌+◌, Bool, List, [], ◌∷◌, Option, Some, Result, Ok, Err}
use Rattle.std.specs.FinMap.{get}
use Rattle.ncp_leader.specs.declared.leader.Leader.{Leader}
use Rattle.ncp_leader.specs.declared.leader.Short.{Short}
use Rattle.ncp_leader.specs.Leader.{leader_in}
use Rattle.ncp_leader.specs.Message.{message_in}
use Rattle.ncp_slot.specs.declared.slot.Slot.TheVariants.{Empty}
use Rattle.ncp_slot.specs.Slots.{LinkSlot, slot_at}
use Rattle.ncp_model.specs.declared.pair.Pair.{Pair}
use Rattle.ncp_model.specs.Peers.{PairCall}
use Rattle.ncp_peer.specs.PeerState.{PeerState}
use Rattle.ncp_transcript.specs.declared.call.Call.{Call}
use Rattle.ncp_transcript.specs.declared.note.HostNote.{HostNote}
use Rattle.ncp_transcript.specs.Asked.{Asked, Asks, Asks_echo, Asks_reset, asked_in}
use Rattle.ncp_proof_runs.specs.Peers.{note_for}
use Rattle.ncp_proof_progress.specs.Work.{call_budget}
use Rattle.ncp_proof_quiescence.specs.HostWork.{message_brings}

-- a message is new if its link's slot was empty; otherwise it is sent again (BBN 1822, section 3)
abbrev pub one_if_free : LinkSlot → ℕ
one_if_free Empty = 1
one_if_free slot = 0

abbrev pub one_if_new : Result Leader Short → PeerState → ℕ
one_if_new (Err short) s = 0
one_if_new (Ok leader) s = one_if_free (slot_at s.slots leader.link)

abbrev pub new_by : HostNote → PeerState → ℕ
new_by (HostNote.Out message) s = one_if_new (leader_in message) s
new_by note s = 0

-- the messages that a call brings when it is done
abbrev pub credit_at : Pair → PairCall → PeerState → ℕ
credit_at pair call s = call_budget call (get s.peer.ends pair)

abbrev pub asking_brings : Option (ℕ × Asked) → PeerState → ℕ
asking_brings (Some (peer, Asks pair call)) s = credit_at pair call s
asking_brings (Some (peer, Asks_echo byte)) s = 2
asking_brings (Some (peer, Asks_reset)) s = 2
asking_brings other s = 0

abbrev pub call_brings : Call → PeerState → ℕ
call_brings call s = asking_brings (asked_in call) s

-- the messages that bits received bring
abbrev pub arrival_brings : Result Leader Short → List Bool → ℕ
arrival_brings (Err short) bits = 0
arrival_brings (Ok leader) bits = message_brings leader.link (message_in bits)

abbrev pub brought_by : HostNote → PeerState → ℕ
brought_by (HostNote.Done call) s = call_brings call s
brought_by (HostNote.In message received) s = arrival_brings (leader_in message) message
brought_by note s = 0

-- the new messages of all notes of a peer, from this state on
unfoldable pub sent_new : List HostNote → PeerState → ℕ
sent_new [] s = 0
sent_new (note ∷ rest) s = new_by note s + sent_new rest (note_for note s)

unfoldable pub brought : List HostNote → PeerState → ℕ
brought [] s = 0
brought (note ∷ rest) s = brought_by note s + brought rest (note_for note s)
