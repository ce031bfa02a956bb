-- Two hosts that have the same for one number note the same of it.
use Rattle.std.proofs.Common.{◌≡◌, ℕ, ◌==◌, Bool, true, false, if◌then◌else◌, List, Option, None, Some, Result, Ok, inl, inr, refl, sym, ap, ◌∙◌}
use Rattle.ncp_leader.specs.declared.leader.Leader.{Leader}
use Rattle.ncp_leader.specs.declared.leader.Short.{Short}
use Rattle.ncp_leader.specs.Leader.{IsLeader, leader_in}
use Rattle.ncp_peer.specs.declared.received.Received.{Received}
use Rattle.ncp_peer.specs.declared.received.Received.TheVariants as cases
use Rattle.ncp_peer.specs.PeerState.{PeerState}
use Rattle.ncp_host.specs.Host.{Host, state_of}
use Rattle.ncp_peer.specs.Hearing.{regular, is_kind}
use Rattle.ncp_peer.specs.Output.{leader_to}
use Rattle.ncp_host.specs.Arrivals.{received_with, received_from}
use Rattle.ncp_subnet.specs.Messages.{answer_bits}
use Rattle.ncp_transcript.specs.declared.call.Call.{Call}
use Rattle.ncp_transcript.specs.declared.note.HostNote.{HostNote}
use Rattle.ncp_transcript.specs.declared.note.HostNote.TheVariants as notes
use Rattle.ncp_transcript.specs.Asked.{peer_of_call}
use Rattle.ncp_transcript.specs.Noting.{CallNoted, is_answer, if_peer, answer_with, note_as, note_of_bits}
use Rattle.ncp_transcript.proofs.AskedCalls.{reads, CallOutcome, Was_done, Was_taken, Was_refused, Was_read, outcome-noted, same-answer}
use Rattle.ncp_proof_runs.specs.Peers.{peer_of_leader, peer_of_note, is_this_number, names}
use Rattle.ncp_transcript_two.proofs.OnePeer.{noted-message}
use Rattle.ncp_transcript_two.proofs.Written.{answer_leader, answer-led}

-- A call.

pub noted-alike : (h k : Host) (call : Call) (note : HostNote) (n : ℕ) → peer_of_call call ≡ Some n → state_of h n ≡ state_of k n → CallNoted call note h → CallNoted call note k
noted-alike h k call note n e same (inl is) = inl (is ∙ same-answer h k n same call e)
noted-alike h k call note n e same (inr want) = inr (record { takes = want.takes; good = sym (same-answer h k n same call e) ∙ want.good; said = want.said })

-- its note names whom it names

abbrev peer_if : Option Call → Option ℕ
peer_if None = None
peer_if (Some call) = peer_of_call call

read-names : (note : HostNote) (call : Call) → reads note ≡ Some call → peer_of_note note ≡ peer_if (reads note)
read-names (notes.Refused asked fault) call e = absurd (cc e)
read-names (notes.Done asked) call e = absurd (cc e)
read-names (notes.Took peer pair bytes text) call e = absurd (cc e)
read-names (notes.Out message) call e = absurd (cc e)
read-names (notes.In message received) call e = absurd (cc e)
read-names (notes.Answered peer link answer received) call e = absurd (cc e)
read-names note call e = refl

pub call-names : (call : Call) (note : HostNote) (h : Host) → CallNoted call note h → peer_of_note note ≡ peer_of_call call
call-names call note h noted = go note (outcome-noted call note h noted)
  where
    go : (n : HostNote) → CallOutcome call h n → peer_of_note n ≡ peer_of_call call
    go n (Was_done peer asked s at says by) = refl
    go n (Was_taken peer pair bytes text s at says is) = sym (ap peer_of_call is)
    go n (Was_refused fault why) = refl
    go n (Was_read read by) = read-names read call by ∙ ap peer_if by

-- Bits that come.

with-leader : (bits : List Bool) (l : Leader) (h : Host) → leader_in bits ≡ Ok l → note_of_bits bits h ≡ note_as (answer_with (Ok l) h) bits (received_with (Ok l) bits h)
with-leader bits l h led = ap (λ (r : Result Leader Short). note_as (answer_with r h) bits (received_with r bits h)) led

pub bits-alike : (bits : List Bool) (l : Leader) (h k : Host) → leader_in bits ≡ Ok l → state_of h l.host ≡ state_of k l.host → note_of_bits bits h ≡ note_of_bits bits k
bits-alike bits l h k led same =
    with-leader bits l h led
    ∙ ap (λ (o : Option PeerState). note_as (if is_answer l.kind then if_peer o l else None) bits (if is_kind l.kind then received_from o l bits else cases.Other l.kind)) same
    ∙ sym (with-leader bits l k led)

-- a message names its sender
pub message-names : (bits : List Bool) (from on : ℕ) (h : Host) → leader_in bits ≡ Ok (leader_to from on) → peer_of_note (note_of_bits bits h) ≡ Some from
message-names bits from on h led = ap peer_of_note (noted-message h bits (leader_to from on) led refl) ∙ ap peer_of_leader led

-- an answer names nobody but the host to which the message went
pub answer-names-one : (kind to on n : ℕ) (h : Host) → IsLeader (answer_leader kind to on) → is_answer kind ≡ true → (kind == regular) ≡ false → (to == n) ≡ false → names n (note_of_bits (answer_bits kind to on) h) ≡ false
answer-names-one kind to on n h fits is not_regular other =
    ap (names n) (with-leader bits l h led)
    ∙ ap (λ (b : Bool). names n (note_as (if b then if_peer (state_of h to) l else None) bits (received_with (Ok l) bits h))) is
    ∙ go (state_of h to) (received_with (Ok l) bits h)
  where
    l : Leader
    l = answer_leader kind to on

    bits : List Bool
    bits = answer_bits kind to on

    led : leader_in bits ≡ Ok l
    led = answer-led kind to on fits

    go : (o : Option PeerState) (told : Received) → names n (note_as (if_peer o l) bits told) ≡ false
    go None told = ap (λ (r : Result Leader Short). is_this_number n (peer_of_leader r)) led ∙ ap (λ (b : Bool). is_this_number n (if b then Some to else None)) not_regular
    go (Some s) told = other
