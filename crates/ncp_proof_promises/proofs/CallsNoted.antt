-- What is noted of a call at one of two hosts, each of which has the other as its one peer: that what is asked of it was
-- done, what was taken from it, a refusal, or a reading. So what holds of each of these holds of the note of any call.
use Rattle.std.proofs.Common.{◌≡◌, ℕ, Bool, true, List, [], ◌∷◌, Some, refl, sym, ap, ◌∙◌, subst}
use Rattle.std.proofs.lemmas.Bool.{eq-eqb}
use Rattle.ncp_model.specs.declared.call_fault.CallFault.{CallFault}
use Rattle.ncp_model.specs.declared.pair.Pair.{Pair}
use Rattle.ncp_peer.specs.PeerState.{PeerState}
use Rattle.ncp_host.specs.Host.{numbers_of, state_of}
use Rattle.ncp_transcript.specs.declared.call.Call.{Call}
use Rattle.ncp_transcript.specs.declared.note.HostNote.{HostNote}
use Rattle.ncp_transcript.specs.Asked.{Asked, asked_in, peer_asked, peer_of_call}
use Rattle.ncp_transcript.specs.Noting.{CallNoted}
use Rattle.ncp_transcript.proofs.AskedCalls.{CallOutcome, Was_done, Was_taken, Was_refused, Was_read, reads, outcome-noted}
use Rattle.ncp_proof_runs.specs.Peers.{is_this_number, names}
use Rattle.ncp_transcript_two.specs.declared.side.Side.{Side}
use Rattle.ncp_transcript_two.specs.declared.side.Side.TheVariants.{A, B}
use Rattle.ncp_transcript_two.specs.Between.{Hosts, other, side_number, host_of}
use Rattle.ncp_transcript_two.proofs.OnePeer.{only-peer}
use Rattle.ncp_transcript_two.proofs.SeenSteps.{Stand}

-- a call that asks something of a peer names it

pub asked-peer : (call : Call) (peer : ℕ) (asked : Asked) → asked_in call ≡ Some (peer, asked) → peer_of_call call ≡ Some peer
asked-peer (Call.State n pair) peer asked e = absurd (cc e)
asked-peer (Call.Phase n) peer asked e = absurd (cc e)
asked-peer (Call.Echoed n) peer asked e = absurd (cc e)
asked-peer (Call.Errors n) peer asked e = absurd (cc e)
asked-peer (Call.Counts n) peer asked e = absurd (cc e)
asked-peer (Call.Waiting n place) peer asked e = absurd (cc e)
asked-peer (Call.Kept n link) peer asked e = absurd (cc e)
asked-peer call peer asked e = ap peer_asked e

pub asked-names : (n : ℕ) (call : Call) (asked : Asked) → asked_in call ≡ Some (n, asked) → names n (HostNote.Done call) ≡ true
asked-names n call asked is = ap (is_this_number n) (asked-peer call n asked is) ∙ eq-eqb n n refl

pub only-one : (side : Side) (w : Hosts) → Stand w → numbers_of (host_of side w).peers ≡ side_number (other side) w ∷ []
only-one A w k = k.a
only-one B w k = k.b

module _ (side : Side) (w : Hosts) (k : Stand w) (P : HostNote → Type 0)
    (done : (call : Call) (asked : Asked) → asked_in call ≡ Some (side_number (other side) w, asked) → P (HostNote.Done call))
    (took : (pair : Pair) (bytes : ℕ) (text : List Bool) → P (HostNote.Took (side_number (other side) w) pair bytes text))
    (refused : (call : Call) (fault : CallFault) → P (HostNote.Refused call fault))
    (read : (hn : HostNote) (call : Call) → reads hn ≡ Some call → P hn)
  where
    only : (peer : ℕ) (s : PeerState) → state_of (host_of side w) peer ≡ Some s → peer ≡ side_number (other side) w
    only peer s e = only-peer (side_number (other side) w) peer s (host_of side w).peers (only-one side w k) e

    by-outcome : (call : Call) (hn : HostNote) → CallOutcome call (host_of side w) hn → P hn
    by-outcome call hn (Was_done peer asked s at says by) = done call asked (subst (λ (n : ℕ). asked_in call ≡ Some (n, asked)) (only peer s at) by)
    by-outcome call hn (Was_taken peer pair bytes text s at is says) = subst (λ (n : ℕ). P (HostNote.Took n pair bytes text)) (sym (only peer s at)) (took pair bytes text)
    by-outcome call hn (Was_refused fault why) = refused call fault
    by-outcome call hn (Was_read note is) = read note call is

    pub own-kinds : (call : Call) (hn : HostNote) → CallNoted call hn (host_of side w) → P hn
    own-kinds call hn c = by-outcome call hn (outcome-noted call hn (host_of side w) c)
