-- The transcript of a host is a run from its beginning, which has led to the host as it is.
use Rattle.std.proofs.Common.{◌≡◌, ℕ, Bool, true, false, not, ◌&&◌, nat_le, List, ◌∷◌, ◌++◌, length, Option, Some, refl, sym, ap, ◌∙◌, subst}
use Rattle.ncp_host.specs.declared.limits.TheConstants.{MAX_PEERS}
use Rattle.ncp_peer.specs.PeerState.{PeerState, new_state}
use Rattle.ncp_host.specs.Host.{Host, state_of, numbers_of, is_one_of, are_distinct, new_host}
use Rattle.ncp_transcript.specs.declared.note.HostNote.{HostNote}
use Rattle.ncp_transcript.specs.After.{after_notes}
use Rattle.ncp_transcript.specs.Runs.{IsHostTranscript}
use Rattle.ncp_proof_runs.specs.Peers.{FromBeginning, notes_of_peer, notes_for}
use Rattle.ncp_proof_runs.proofs.EachPeer.{each_peer}

third : (a b c d : Bool) → (a && b && c && d) ≡ true → c ≡ true
third true true true d e = refl
third true true false d e = absurd (cc)
third true false c d e = absurd (cc)
third false b c d e = absurd (cc)

pub is_run : (all : List HostNote) (h : Host) → IsHostTranscript all h → FromBeginning h.me (numbers_of h.peers) all
is_run all h t =
    let ns = numbers_of h.peers in
    record {
      distinct = third (nat_le 1 (length ns)) (nat_le (length ns) MAX_PEERS) (are_distinct ns) (not (is_one_of h.me ns)) t.peers;
      places = t.fits;
      run = t.run;
    }

-- up to a note of it, too
pub is_run_at : (all before after : List HostNote) (note : HostNote) (h : Host) → IsHostTranscript all h → all ≡ before ++ note ∷ after → FromBeginning h.me (numbers_of h.peers) (before ++ note ∷ after)
is_run_at all before after note h t e = subst (λ (xs : List HostNote). FromBeginning h.me (numbers_of h.peers) xs) e (is_run all h t)

-- what is kept for a peer is there after the notes
pub is_kept : (all : List HostNote) (h : Host) (n : ℕ) (o : Option PeerState) → IsHostTranscript all h → state_of h n ≡ o → state_of (after_notes all (new_host h.me (numbers_of h.peers))) n ≡ o
is_kept all h n o t e = ap (λ (x : Host). state_of x n) (sym t.state) ∙ e

pub peer_told : (all : List HostNote) (h : Host) (n : ℕ) → IsHostTranscript all h → is_one_of n (numbers_of h.peers) ≡ true → state_of h n ≡ Some (notes_for (notes_of_peer n all) new_state)
peer_told all h n t e = ap (λ (x : Host). state_of x n) t.state ∙ (each_peer h.me (numbers_of h.peers) all n (is_run all h t) e).state
