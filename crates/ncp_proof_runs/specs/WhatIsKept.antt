-- Properties read off the notes of a run, for each peer by its number; and the same for a host with its
-- transcript.
use Rattle.std.specs.Prelude.{◌≡◌, ℕ, Bool, true, List, ◌∷◌, ◌++◌, map, length, Option, Some, Ok}
use Rattle.std.specs.FinMap.{get}
use Rattle.ncp_wire.specs.declared.command.Command.{Command}
use Rattle.ncp_leader.specs.Leader.{leader_in}
use Rattle.ncp_model.specs.declared.pair.Pair.{Pair}
use Rattle.ncp_model.specs.Pairs.{receives}
use Rattle.ncp_model.specs.Endpoint.{Endpoint}
use Rattle.ncp_model.specs.Ends.{Ends, pair_of}
use Rattle.ncp_proof_endpoint.specs.Histories.{PairHistory}
use Rattle.ncp_peer.specs.PeerState.{PeerState, control_link}
use Rattle.ncp_peer.specs.Output.{leader_to}
use Rattle.ncp_host.specs.Host.{Host, state_of, numbers_of, is_one_of, new_host}
use Rattle.ncp_transcript.specs.declared.note.HostNote.{HostNote}
use Rattle.ncp_transcript.specs.After.{after_notes}
use Rattle.ncp_transcript.specs.Runs.{IsHostTranscript, host_began}
use Rattle.ncp_transcript.specs.Alone.{Alone}
use Rattle.ncp_proof_runs.specs.Peers.{FromBeginning, notes_of_peer}
use Rattle.ncp_proof_runs.specs.Links.{fresh_on}
use Rattle.ncp_proof_runs.specs.Histories.{past_so_far}
use Rattle.ncp_proof_runs.specs.Making.{made_of, message_of, joined}
use Rattle.ncp_proof_runs.specs.Marks.{Marks, marks_of}

-- the commands made for a peer are those in the fresh messages on link 0, followed by the queued ones, in
-- order; and the number sent is the number in these messages
abbrev pub WentOutAsMade : ℕ → List HostNote → PeerState → Type 0
WentOutAsMade n own s =
    (css : List (List Command))
    × (fresh_on control_link own ≡ map (message_of n) css)
    × ((made_of own).all ≡ joined css ++ s.peer.phase.waiting)
    × ((made_of own).gone ≡ length (joined css))

-- it holds for all notes of each run, and the host after it
abbrev pub AfterARun : (List HostNote → Host → Type 0) → Type 0
AfterARun holds = (me : ℕ) (ns : List ℕ) (all : List HostNote) → FromBeginning me ns all → holds all (after_notes all (new_host me ns))

-- it holds for each peer of a host after a run: for the host's number, the host, the peer's number, and
-- its notes
abbrev pub OfItsPeers : (ℕ → Host → ℕ → List HostNote → Type 0) → Type 0
OfItsPeers holds =
    (me : ℕ) (ns : List ℕ) (all : List HostNote) (n : ℕ) → FromBeginning me ns all → is_one_of n ns ≡ true → holds me (after_notes all (new_host me ns)) n (notes_of_peer n all)

-- it holds for each number for which a host has a state after a run: for the number, its notes, and the
-- state
abbrev pub OfEachNumber : (ℕ → List HostNote → PeerState → Type 0) → Type 0
OfEachNumber holds =
    (me : ℕ) (ns : List ℕ) (all : List HostNote) (n : ℕ) (s : PeerState) → FromBeginning me ns all → state_of (after_notes all (new_host me ns)) n ≡ Some s → holds n (notes_of_peer n all) s

-- it holds for each pair that a link identifies: for the link, the pair and its marks
abbrev pub OfPairsOn : (ℕ → Ends → Option (Pair × Endpoint)) → (ℕ → Pair → Marks → Type 0) → Type 0
OfPairsOn leads holds =
    (me : ℕ) (ns : List ℕ) (all : List HostNote) (n on : ℕ) (s : PeerState) (pair : Pair)
    → FromBeginning me ns all
    → state_of (after_notes all (new_host me ns)) n ≡ Some s
    → pair_of (leads on s.peer.ends) ≡ Some pair
    → holds on pair (marks_of pair (notes_of_peer n all))

-- it holds for each transcript of a host: for its notes and the host
abbrev pub OfHostTranscripts : (List HostNote → Host → Type 0) → Type 0
OfHostTranscripts holds = (all : List HostNote) (h : Host) → IsHostTranscript all h → holds all h

-- For a host with its transcript. It holds for each of its peers: for the notes of the peer, and the
-- host's state for it.
abbrev pub OfPeersOf : Alone → (List HostNote → Option PeerState → Type 0) → Type 0
OfPeersOf now holds = (n : ℕ) → is_one_of n (numbers_of now.host.peers) ≡ true → holds (notes_of_peer n now.notes) (state_of now.host n)

-- the same with its number; then: for each pair; and for each receiver that has opened, with its history
abbrev pub OfNumbersOf : Alone → (ℕ → List HostNote → PeerState → Type 0) → Type 0
OfNumbersOf now holds = (n : ℕ) (s : PeerState) → state_of now.host n ≡ Some s → holds n (notes_of_peer n now.notes) s

abbrev pub OfPairsOf : Alone → (Pair → List HostNote → PeerState → Type 0) → Type 0
OfPairsOf now holds = (n : ℕ) (s : PeerState) (pair : Pair) → state_of now.host n ≡ Some s → holds pair (notes_of_peer n now.notes) s

abbrev pub OfOpenedReceiversOf : Alone → (PairHistory → Endpoint → Type 0) → Type 0
OfOpenedReceiversOf now holds =
    (n : ℕ) (s : PeerState) (pair : Pair) (e : Endpoint) → state_of now.host n ≡ Some s → receives pair ≡ true → get s.peer.ends pair ≡ Some e → e.opened ≡ true → holds (past_so_far pair (notes_of_peer n now.notes)) e

-- it holds for each message sent to a peer on a link, and the notes of the peer before it
abbrev pub OfMessagesOf : Alone → (ℕ → ℕ → List Bool → List HostNote → Type 0) → Type 0
OfMessagesOf now holds =
    (before after : List HostNote) (message : List Bool) (n on : ℕ) → now.notes ≡ before ++ HostNote.Out message ∷ after → leader_in message ≡ Ok (leader_to n on) → holds n on message (notes_of_peer n before)

-- it holds wherever the note appears: for the notes before it; then: for the host before it
abbrev pub BeforeIn : Alone → HostNote → (List HostNote → Type 0) → Type 0
BeforeIn now note holds = (before after : List HostNote) → now.notes ≡ before ++ note ∷ after → holds before

abbrev pub HostBeforeIn : Alone → HostNote → (Host → Type 0) → Type 0
HostBeforeIn now note holds = (before after : List HostNote) → now.notes ≡ before ++ note ∷ after → holds (after_notes before (host_began now.host))
