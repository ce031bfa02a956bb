-- Properties of a run wherever a certain note appears in it: of the notes before it, and of a pair of
-- sockets before and after it.
use Rattle.std.specs.Prelude.{◌≡◌, ℕ, Bool, true, false, List, [], ◌∷◌, ◌++◌, Option, None, Some, Ok}
use Rattle.std.specs.List.{list_all}
use Rattle.ncp_leader.specs.declared.leader.Leader.{Leader}
use Rattle.ncp_leader.specs.Leader.{leader_in}
use Rattle.ncp_leader.specs.Message.{Message, message_in}
use Rattle.ncp_wire.specs.declared.answer.Answer.{Answer}
use Rattle.ncp_slot.specs.Slots.{data_links}
use Rattle.ncp_model.specs.declared.pair.Pair.{Pair}
use Rattle.ncp_model.specs.declared.outcomes.Error.{Error}
use Rattle.ncp_model.specs.declared.outcomes.Took.TheVariants.{Admitted}
use Rattle.ncp_model.specs.Ends.{pair_of, receiver_on}
use Rattle.ncp_conn.specs.declared.record.Record.{Record}
use Rattle.ncp_proof_endpoint.specs.Histories.{PairHistory}
use Rattle.ncp_peer.specs.declared.counts.Counts.{Counts}
use Rattle.ncp_phase.specs.declared.flags.Flags.{Flags}
use Rattle.ncp_peer.specs.declared.received.Received.{Received}
use Rattle.ncp_peer.specs.PeerState.{new_state}
use Rattle.ncp_peer.specs.Output.{leader_to, links}
use Rattle.ncp_host.specs.Host.{Host, is_one_of, new_host}
use Rattle.ncp_transcript.specs.declared.note.HostNote.{HostNote}
use Rattle.ncp_transcript.specs.After.{after_notes}
use Rattle.ncp_proof_runs.specs.Peers.{FromBeginning, notes_of_peer, notes_for}
use Rattle.ncp_proof_runs.specs.Links.{goes_fresh, is_quiet_noted, noted_on, ready_as_noted}
use Rattle.ncp_proof_runs.specs.Histories.{past_so_far}
use Rattle.ncp_proof_runs.specs.Making.{Made, made_of}
use Rattle.ncp_proof_runs.specs.Marks.{Marks, record_marked, marks_of}

-- by the notes of a peer: the data links to it are quiet; then: the message that is ready on a link to it
abbrev pub are_quiet_noted : List HostNote → Bool
are_quiet_noted own = list_all (λ on. is_quiet_noted (noted_on on own)) data_links

abbrev pub ready_noted : ℕ → ℕ → List HostNote → Option (List Bool)
ready_noted n on own = ready_as_noted n on (noted_on on own) (notes_for own new_state).peer

-- the record of a pair; then: a message repeats the last fresh one on its link, unless it is fresh itself
abbrev pub record_noted : Pair → List HostNote → Option Record
record_noted pair own = record_marked pair (marks_of pair own)

abbrev pub IsTheLastUnlessFresh : ℕ → List Bool → List HostNote → Type 0
IsTheLastUnlessFresh on message own = goes_fresh (noted_on on own) ≡ false → message ≡ (noted_on on own).fresh

-- no message is ready on any link to any of these peers
abbrev pub NoneReady : List ℕ → List HostNote → Type 0
NoneReady ns all = (n on : ℕ) → is_one_of n ns ≡ true → is_one_of on links ≡ true → ready_noted n on (notes_of_peer n all) ≡ None

-- a message names one of these peers and one of its links
abbrev pub IsAddressed : List Bool → List ℕ → Type 0
IsAddressed message ns = (n : ℕ) × (on : ℕ) × (is_one_of n ns ≡ true) × (is_one_of on links ≡ true) × (leader_in message ≡ Ok (leader_to n on))

-- it holds wherever the note appears: for the peers' numbers and all notes before it; then: for the host
-- before it
abbrev pub WhereNoted : HostNote → (List ℕ → List HostNote → Type 0) → Type 0
WhereNoted note holds = (me : ℕ) (ns : List ℕ) (before after : List HostNote) → FromBeginning me ns (before ++ note ∷ after) → holds ns before

abbrev pub HostBefore : HostNote → (Host → Type 0) → Type 0
HostBefore note holds = (me : ℕ) (ns : List ℕ) (before after : List HostNote) → FromBeginning me ns (before ++ note ∷ after) → holds (after_notes before (new_host me ns))

-- it holds for each answer received: for the peers' numbers, its peer and link, its result, and the notes
-- of that peer before it
abbrev pub WhenAnswered : (List ℕ → ℕ → ℕ → Received → List HostNote → Type 0) → Type 0
WhenAnswered holds =
    (me : ℕ) (ns : List ℕ) (before after : List HostNote) (n on : ℕ) (how : Answer) (told : Received) → FromBeginning me ns (before ++ HostNote.Answered n on how told ∷ after) → holds ns n on told (notes_of_peer n before)

-- it holds for each note that reads the flags of a peer, its errors or its counts: for their value, and
-- the commands made by the notes of the peer before it, or these notes
abbrev pub WhenFlagsRead : (Flags → Made → Type 0) → Type 0
WhenFlagsRead holds =
    (n : ℕ) (flags : Flags) (me : ℕ) (ns : List ℕ) (before after : List HostNote) → FromBeginning me ns (before ++ HostNote.Phase n flags ∷ after) → holds flags (made_of (notes_of_peer n before))

abbrev pub WhenErrorsRead : (List Error → List HostNote → Type 0) → Type 0
WhenErrorsRead holds =
    (n : ℕ) (errors : List Error) (me : ℕ) (ns : List ℕ) (before after : List HostNote) → FromBeginning me ns (before ++ HostNote.Errors n errors ∷ after) → holds errors (notes_of_peer n before)

abbrev pub WhenCounted : (Counts → List HostNote → Type 0) → Type 0
WhenCounted holds =
    (n : ℕ) (counts : Counts) (me : ℕ) (ns : List ℕ) (before after : List HostNote) → FromBeginning me ns (before ++ HostNote.Counts n counts ∷ after) → holds counts (notes_of_peer n before)

-- it holds for a note about a pair, of any peer: for the history of the pair before and after it; then:
-- for its marks before it; and after it
abbrev pub Across : (ℕ → Pair → HostNote) → (PairHistory → PairHistory → Type 0) → Type 0
Across note holds =
    (me : ℕ) (ns : List ℕ) (before after : List HostNote) (n : ℕ) (pair : Pair) → FromBeginning me ns (before ++ note n pair ∷ after) → holds (past_so_far pair (notes_of_peer n before)) (past_so_far pair (notes_of_peer n (before ++ note n pair ∷ [])))

abbrev pub MarkedBefore : (ℕ → Pair → HostNote) → (Pair → Marks → Type 0) → Type 0
MarkedBefore note holds =
    (me : ℕ) (ns : List ℕ) (before after : List HostNote) (n : ℕ) (pair : Pair) → FromBeginning me ns (before ++ note n pair ∷ after) → holds pair (marks_of pair (notes_of_peer n before))

abbrev pub MarkedAfter : (ℕ → Pair → HostNote) → (Marks → Type 0) → Type 0
MarkedAfter note holds =
    (me : ℕ) (ns : List ℕ) (before after : List HostNote) (n : ℕ) (pair : Pair) → FromBeginning me ns (before ++ note n pair ∷ after) → holds (marks_of pair (notes_of_peer n (before ++ note n pair ∷ [])))

-- it holds for each message whose text was admitted: for the history of the pair that its link
-- identifies, before and after it
abbrev pub WhenAdmitted : (Message → PairHistory → PairHistory → Type 0) → Type 0
WhenAdmitted holds =
    (me : ℕ) (ns : List ℕ) (before after : List HostNote) (message : List Bool) (leader : Leader) (m : Message) (pair : Pair)
    → FromBeginning me ns (before ++ HostNote.In message (Received.Text Admitted) ∷ after)
    → leader_in message ≡ Ok leader
    → message_in message ≡ Ok m
    → pair_of (receiver_on leader.link (notes_for (notes_of_peer leader.host before) new_state).peer.ends) ≡ Some pair
    → holds m (past_so_far pair (notes_of_peer leader.host before)) (past_so_far pair (notes_of_peer leader.host (before ++ HostNote.In message (Received.Text Admitted) ∷ [])))
