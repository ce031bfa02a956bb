-- A ledger's numbers are those of the books that the notes keep.
use Rattle.std.proofs.Common.{◌≡◌, ℕ, Bool, true, false, ◌&&◌, if◌then◌else◌, List, Option, None, Some, refl, subst}
use Rattle.std.proofs.lemmas.Bool.{and_parts}
use Rattle.std.specs.FinMap.{get}
use Rattle.ncp_model.specs.declared.pair.Pair.{Pair}
use Rattle.ncp_model.specs.Pairs.{is_send, counterpart}
use Rattle.ncp_model.specs.Endpoint.{Endpoint, is_open, or_new}
use Rattle.ncp_peer.specs.PeerState.{PeerState}
use Rattle.ncp_host.specs.Host.{Host, numbers_of}
use Rattle.ncp_transcript.specs.declared.note.HostNote.{HostNote}
use Rattle.ncp_transcript.specs.Runs as runs
use Rattle.ncp_proof_runs.specs.Marks.{Marks}
use Rattle.ncp_proof_runs.proofs.Begun.{is_run, is_kept}
use Rattle.ncp_proof_runs.proofs.Recorded.{stored-there}
use Rattle.ncp_transcript_two.specs.World.{World, swap}
use Rattle.ncp_transcript_two.specs.Underway.{sender_at, receiver_at}
use Rattle.ncp_model.specs.Amounts.{allowance}
use Rattle.ncp_transcript_two.specs.Ledgers.{ledger_in, are_open, ledger_from, ledger_of}
use Rattle.ncp_transcript_two.specs.declared.ledger.Ledger.{Ledger}
use Rattle.ncp_transcript_two.specs.declared.note.Note.{Note}
use Rattle.ncp_transcript_two.specs.declared.side.Side.{Side}
use Rattle.ncp_transcript_two.specs.declared.side.Side.TheVariants.{A, B}
use Rattle.ncp_transcript_two.specs.Between.{Hosts, other, side_number, host_of}
use Rattle.ncp_transcript_two.specs.Sides.{notes_at}
use Rattle.ncp_transcript_two.specs.Transcript.{IsTranscript}
use Rattle.ncp_transcript_two.specs.Seen.{seen, had_for}
use Rattle.ncp_transcript_two.proofs.OneSide.{by_itself}
use Rattle.ncp_proof_promises.proofs.Standing.{kept-for}
use Rattle.ncp_world.specs.Booked.{marks_at, Remains, IsBooked}

-- What an end has is what remains as its host's notes say.
remains : (ns : List Note) (w : Hosts) → IsTranscript ns w → (side : Side) (pair : Pair) (e : Endpoint) → get (had_for (side_number (other side) w) (host_of side w)).peer.ends pair ≡ Some e
    → Remains (allowance e) (marks_at side pair ns w)
remains ns w t side pair e is =
    let all : List HostNote = notes_at side ns in
    let h : Host = host_of side w in
    let n : ℕ = side_number (other side) w in
    let s : PeerState = had_for n h in
    let own : runs.IsHostTranscript all h = by_itself ns w side t in
    (stored-there h.me (numbers_of h.peers) all n s pair e (is_run all h own) (is_kept all h n (Some s) own (kept-for ns w side t)) is).amounts

-- An end that is open is there.
is-there : (o : Option Endpoint) → is_open (or_new o) ≡ true → o ≡ Some (or_new o)
is-there None e = absurd (cc e)
is-there (Some x) e = refl

module _ (pair : Pair) (v : World) (sender receiver : Marks)
    (sent : (e : Endpoint) → get v.this.peer.ends pair ≡ Some e → Remains (allowance e) sender)
    (received : (e : Endpoint) → get v.that.peer.ends (counterpart pair) ≡ Some e → Remains (allowance e) receiver) where
  booked : (l : Ledger) → ledger_from pair v ≡ Some l → Remains l.outstanding receiver × Remains l.counters sender
  booked l = go (is_send pair.local && are_open pair v) refl
    where
      go : (b : Bool) → (is_send pair.local && are_open pair v) ≡ b → (if b then Some (ledger_in pair v) else None) ≡ Some l → Remains l.outstanding receiver × Remains l.counters sender
      go false e is = absurd (cc is)
      go true e is =
          let a = and_parts (is_send pair.local) (are_open pair v) e in
          let opened = and_parts (is_open (sender_at pair v)) (is_open (receiver_at pair v)) a.1 in
          let same : ledger_in pair v ≡ l = cc is in
          subst (λ (x : Ledger). Remains x.outstanding receiver × Remains x.counters sender) same
          (received (receiver_at pair v) (is-there (get v.that.peer.ends (counterpart pair)) opened.1), sent (sender_at pair v) (is-there (get v.this.peer.ends pair) opened.0))

pub ledger-booked : (ns : List Note) (w : Hosts) → IsTranscript ns w → (side : Side) (pair : Pair) (l : Ledger) → ledger_of side pair w ≡ Some l → IsBooked side pair ns w l
ledger-booked ns w t A pair l e = booked pair (seen w) (marks_at A pair ns w) (marks_at B (counterpart pair) ns w) (remains ns w t A pair) (remains ns w t B (counterpart pair)) l e
ledger-booked ns w t B pair l e = booked pair (swap (seen w)) (marks_at B pair ns w) (marks_at A (counterpart pair) ns w) (remains ns w t B pair) (remains ns w t A (counterpart pair)) l e
