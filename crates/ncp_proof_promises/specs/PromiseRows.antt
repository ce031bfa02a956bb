-- More states for examples.
use Rattle.std.specs.Prelude.{ℕ, Bool, List, [], ◌∷◌}
use Rattle.std.specs.List.{list_any}
use Rattle.ncp_wire.specs.declared.command.Command.TheVariants.{Eco, Erp, Inr}
use Rattle.ncp_model.specs.Amounts.{amount}
use Rattle.ncp_model.specs.Peers.{Peer}
use Rattle.ncp_proof_machine.specs.Resets.{Party, This, That}
use Rattle.ncp_proof_endpoint.specs.Histories.{PairHistory, no_past}
use Rattle.ncp_proof_machine.specs.Watching.{HistoryVars}
use Rattle.ncp_proof_machine.specs.Hosts.{Hears, node_at, run, peer_of}
use Rattle.ncp_proof_machine.specs.HostRuns.{meets, meets_there}
use Rattle.ncp_peer.specs.PeerState.{PeerState}
use Rattle.ncp_transcript_two.specs.Subnet.{TransitByLink, Accepted, link_in, set_at}
use Rattle.ncp_transcript_two.specs.World.{World}
use Rattle.ncp_transcript_two.specs.Honest.{IsPrefixWithin, sent, came}
use Rattle.ncp_transcript_two.specs.Underway.{underway}
use Rattle.ncp_transcript_two.specs.declared.note.Note.{Note}
use Rattle.ncp_transcript_two.specs.Seen.{told}
use Rattle.ncp_proof_promises.specs.Judged.{is_error}
use Rattle.ncp_proof_promises.specs.Resetting.{AwaitsReply, StillWaits}
use Rattle.ncp_proof_promises.specs.Since.{watch_after_message}
use Rattle.ncp_proof_promises.specs.Examples.{seen_before}

-- a sender's request at this host and a receiver's at that one meet: the state before, and after
abbrev pub before_meeting : Peer
before_meeting = peer_of (run meets).this

abbrev pub after_meeting : Peer
after_meeting = peer_of (node_at This Hears (run meets)).this

abbrev pub before_meeting_there : Peer
before_meeting_there = peer_of (run meets_there).that

abbrev pub after_meeting_there : Peer
after_meeting_there = peer_of (node_at That Hears (run meets_there)).that

-- an ECO is made after `seen_before`; then: one is received, and its ERP is made
abbrev pub eco_made : HistoryVars
eco_made = record seen_before { made = Eco 64 ∷ Eco 65 ∷ [] }

abbrev pub eco_came : HistoryVars
eco_came = record seen_before { made = Eco 64 ∷ Erp 65 ∷ []; came = Inr 2 ∷ Eco 65 ∷ [] }

-- the history of a pair with these numbers of messages granted, returned and used
abbrev pub of_messages : ℕ → ℕ → ℕ → PairHistory
of_messages granted returned used = record no_past { granted = amount granted 0; returned = amount returned 0; used_messages = used }

-- the links to that host after the subnet accepted a message
abbrev pub taken_from_here : List Bool → World → TransitByLink
taken_from_here message v = set_at (link_in message) (Accepted message) v.going

-- the messages from the host of this number that arrived on a link are a prefix of those it sent there
abbrev pub IsInOrder : Party → ℕ → ℕ → List Note → Type 0
IsInOrder side number on notes = IsPrefixWithin 1 (came side on (told notes)) (sent number side on (told notes))

-- an ERR is underway to that host; and to this one
abbrev pub an_err_goes : World → Bool
an_err_goes v = list_any is_error (underway v.this v.going)

abbrev pub an_err_comes : World → Bool
an_err_comes v = list_any is_error (underway v.that v.coming)

-- a host that awaits an RRP still waits, as defined
abbrev pub GoesOnWaiting : PeerState → Type 0
GoesOnWaiting s = AwaitsReply s → StillWaits s

-- the history variables after a control message received
abbrev pub heard_in : List Bool → PeerState → HistoryVars → HistoryVars
heard_in m s w = watch_after_message 0 m s w
