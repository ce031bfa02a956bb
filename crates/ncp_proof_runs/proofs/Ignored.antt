-- What is ignored is what the notes of no peer say.
use Rattle.std.proofs.Common.{◌≡◌, ℕ, ◌==◌, Bool, true, false, if◌then◌else◌, length, List, [], ◌∷◌, Option, None, Some, Result, Ok, Err, refl, sym, ap, ◌∙◌}
use Rattle.ncp_numbers.specs.Bytes.{bytes_of}
use Rattle.ncp_control.specs.Reading.{commands_in}
use Rattle.ncp_leader.specs.declared.leader.Leader.{Leader}
use Rattle.ncp_leader.specs.declared.leader.Short.{Short}
use Rattle.ncp_leader.specs.declared.fault.MessageFault.{MessageFault}
use Rattle.ncp_leader.specs.Leader.{leader_in}
use Rattle.ncp_leader.specs.Message.{Message, message_in}
use Rattle.ncp_model.specs.Phase.{up}
use Rattle.ncp_host.specs.declared.ignored.Ignored.{Ignored}
use Rattle.ncp_peer.specs.declared.received.Received.{Received}
use Rattle.ncp_host.specs.Ignoring.{none_ignored}
use Rattle.ncp_peer.specs.PeerState.{PeerState, control_link, is_answered}
use Rattle.ncp_peer.specs.Hearing.{regular, is_kind, is_wrong_link, control_size, took, message_received, answer_received, received_of}
use Rattle.ncp_host.specs.Host.{Host, state_of, new_host}
use Rattle.ncp_host.specs.Arrivals.{received_with, received_from, after_with, after_from, one_other}
use Rattle.ncp_transcript.specs.declared.note.HostNote.{HostNote}
use Rattle.ncp_transcript.specs.After.{after_note, after_notes}
use Rattle.ncp_transcript.specs.Runs.{IsHostSaid, IsHostRun}
use Rattle.ncp_proof_runs.specs.Peers.{FromBeginning, ignored_more, ignored_after, ignored_by}
use Rattle.ncp_transcript.specs.Asked.{Asked, asked_in, host_after_asked}

-- what comes from a peer is not ignored

message-counts : (on : ℕ) (r : Result Message MessageFault) (s : PeerState) (i : Ignored) → ignored_more (message_received on r s) i ≡ i
message-counts on (Err fault) s i = refl
message-counts on (Ok m) s i = by (is_wrong_link on) (on == control_link) (m.size == control_size) (up s.peer.phase)
  where
    by : (a b c d : Bool) → ignored_more (if a then Received.WrongLink else if b then (if c then Received.Control (length (commands_in (bytes_of m.text))) else Received.WrongSize) else if d then Received.Text (took on m s) else Received.NotUp) i ≡ i
    by true b c d = refl
    by false true true d = refl
    by false true false d = refl
    by false false c true = refl
    by false false c false = refl

answer-counts : (on : ℕ) (s : PeerState) (i : Ignored) → ignored_more (answer_received on s) i ≡ i
answer-counts on s i = by (is_answered on s)
  where
    by : (b : Bool) → ignored_more (if b then Received.Answered else Received.Stray) i ≡ i
    by true = refl
    by false = refl

peer-counts : (leader : Leader) (bits : List Bool) (s : PeerState) (i : Ignored) → ignored_more (received_of leader bits s) i ≡ i
peer-counts leader bits s i = by (leader.kind == regular)
  where
    by : (b : Bool) → ignored_more (if b then message_received leader.link (message_in bits) s else answer_received leader.link s) i ≡ i
    by true = message-counts leader.link (message_in bits) s i
    by false = answer-counts leader.link s i

bits-counts : (r : Result Leader Short) (bits : List Bool) (h : Host) → (after_with r bits h).ignored ≡ ignored_more (received_with r bits h) h.ignored
bits-counts (Err short) bits h = refl
bits-counts (Ok leader) bits h = by (is_kind leader.kind) (state_of h leader.host)
  where
    by : (b : Bool) (o : Option PeerState) → (if b then after_from o leader bits h else one_other h).ignored ≡ ignored_more (if b then received_from o leader bits else Received.Other leader.kind) h.ignored
    by true None = refl
    by true (Some s) = sym (peer-counts leader bits s h.ignored)
    by false o = refl

called-counts : (asked : Option (ℕ × Asked)) (h : Host) → (host_after_asked asked h).ignored ≡ h.ignored
called-counts None h = refl
called-counts (Some (peer, asked)) h = refl

note-counts : (note : HostNote) (h : Host) → IsHostSaid note h → (after_note note h).ignored ≡ ignored_after note h.ignored
note-counts (HostNote.Done call) h p = called-counts (asked_in call) h
note-counts (HostNote.In message received) h p = bits-counts (leader_in message) message h ∙ ap (λ t. ignored_more t h.ignored) p.1
note-counts other h p = refl

all-counts : (all : List HostNote) (h : Host) → IsHostRun all h → (after_notes all h).ignored ≡ ignored_by all h.ignored
all-counts [] h p = refl
all-counts (note ∷ rest) h p = all-counts rest (after_note note h) p.1 ∙ ap (ignored_by rest) (note-counts note h p.0)

pub ignored_told : (me : ℕ) (ns : List ℕ) (all : List HostNote) → FromBeginning me ns all → (after_notes all (new_host me ns)).ignored ≡ ignored_by all none_ignored
ignored_told me ns all from = all-counts all (new_host me ns) from.run
