-- Properties read off the notes of a run: of a peer's state after it, and before one of its notes.
use Rattle.std.specs.Prelude.{◌≡◌, ℕ, Bool, true, false, List, ◌∷◌, ◌++◌, Some, Ok}
use Rattle.std.specs.FinMap.{get}
use Rattle.ncp_leader.specs.Leader.{leader_in}
use Rattle.ncp_model.specs.declared.pair.Pair.{Pair}
use Rattle.ncp_model.specs.Pairs.{receives}
use Rattle.ncp_model.specs.Endpoint.{Endpoint}
use Rattle.ncp_proof_endpoint.specs.Histories.{PairHistory}
use Rattle.ncp_peer.specs.PeerState.{PeerState}
use Rattle.ncp_peer.specs.Output.{leader_to}
use Rattle.ncp_host.specs.Host.{Host, state_of, new_host}
use Rattle.ncp_transcript.specs.declared.note.HostNote.{HostNote}
use Rattle.ncp_transcript.specs.declared.note.HostNote.TheVariants.{Out}
use Rattle.ncp_transcript.specs.After.{after_notes}
use Rattle.ncp_proof_runs.specs.Peers.{FromBeginning, notes_of_peer}
use Rattle.ncp_proof_runs.specs.Histories.{past_so_far}
use Rattle.ncp_proof_runs.specs.Marks.{Marks, marks_of}

-- it holds for the notes of each peer, and the host's state for it after them
abbrev pub FromNotes : (List HostNote → PeerState → Type 0) → Type 0
FromNotes holds =
    (me : ℕ) (ns : List ℕ) (all : List HostNote) (n : ℕ) (s : PeerState) → FromBeginning me ns all → state_of (after_notes all (new_host me ns)) n ≡ Some s → holds (notes_of_peer n all) s

-- the same for each pair of sockets; then: for each endpoint and its marks
abbrev pub OfEachPair : (Pair → List HostNote → PeerState → Type 0) → Type 0
OfEachPair holds =
    (me : ℕ) (ns : List ℕ) (all : List HostNote) (n : ℕ) (s : PeerState) (pair : Pair) → FromBeginning me ns all → state_of (after_notes all (new_host me ns)) n ≡ Some s → holds pair (notes_of_peer n all) s

abbrev pub OfEachEnd : (Pair → Marks → Endpoint → Type 0) → Type 0
OfEachEnd holds =
    (me : ℕ) (ns : List ℕ) (all : List HostNote) (n : ℕ) (s : PeerState) (pair : Pair) (e : Endpoint) → FromBeginning me ns all → state_of (after_notes all (new_host me ns)) n ≡ Some s → get s.peer.ends pair ≡ Some e → holds pair (marks_of pair (notes_of_peer n all)) e

-- it holds for each receiver that has opened, with its history; then: for each end that has not opened
abbrev pub OfOpenedReceivers : (PairHistory → Endpoint → Type 0) → Type 0
OfOpenedReceivers holds =
    (me : ℕ) (ns : List ℕ) (all : List HostNote) (n : ℕ) (s : PeerState) (pair : Pair) (e : Endpoint) → FromBeginning me ns all → state_of (after_notes all (new_host me ns)) n ≡ Some s → receives pair ≡ true → get s.peer.ends pair ≡ Some e → e.opened ≡ true → holds (past_so_far pair (notes_of_peer n all)) e

abbrev pub OfUnopenedEnds : (Endpoint → Type 0) → Type 0
OfUnopenedEnds holds =
    (me : ℕ) (ns : List ℕ) (all : List HostNote) (n : ℕ) (s : PeerState) (pair : Pair) (e : Endpoint) → FromBeginning me ns all → state_of (after_notes all (new_host me ns)) n ≡ Some s → get s.peer.ends pair ≡ Some e → e.opened ≡ false → holds e

-- it holds for the notes of a peer before a certain note of a run
abbrev pub BeforeNote : ℕ → HostNote → (List HostNote → Type 0) → Type 0
BeforeNote n note holds =
    (me : ℕ) (ns : List ℕ) (before after : List HostNote) → FromBeginning me ns (before ++ note ∷ after) → holds (notes_of_peer n before)

-- it holds for each message sent to a peer on a link, and the notes of the peer before it
abbrev pub WhenOut : (ℕ → ℕ → List Bool → List HostNote → Type 0) → Type 0
WhenOut holds =
    (me : ℕ) (ns : List ℕ) (before after : List HostNote) (message : List Bool) (n on : ℕ) → FromBeginning me ns (before ++ Out message ∷ after) → leader_in message ≡ Ok (leader_to n on) → holds n on message (notes_of_peer n before)

-- it holds for the notes of each peer of a host, and the host's state for it
abbrev pub EachPeer : Host → List HostNote → (List HostNote → PeerState → Type 0) → Type 0
EachPeer host notes holds = (n : ℕ) (s : PeerState) → state_of host n ≡ Some s → holds (notes_of_peer n notes) s
