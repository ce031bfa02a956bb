-- Where a link leads, a pair is marked with it.
use Rattle.std.proofs.Common.{◌≡◌, ℕ, ◌==◌, Bool, true, false, ◌&&◌, if◌then◌else◌, List, None, Some, refl, sym, ap, ◌∙◌}
use Rattle.std.proofs.lemmas.Bool.{eqb-true}
use Rattle.ncp_model.specs.declared.pair.Pair.{Pair}
use Rattle.ncp_model.specs.Pairs.{sends, receives}
use Rattle.ncp_model.specs.Endpoint.{Endpoint}
use Rattle.ncp_model.specs.Ends.{hears_link, uses_link, pair_of, sender_on, receiver_on}
use Rattle.ncp_model.specs.Demux.{passes}
use Rattle.ncp_model.proofs.LinksDemux.{led}
use Rattle.ncp_peer.specs.PeerState.{PeerState}
use Rattle.ncp_host.specs.Host.{state_of, new_host}
use Rattle.ncp_transcript.specs.declared.note.HostNote.{HostNote}
use Rattle.ncp_transcript.specs.After.{after_notes}
use Rattle.ncp_proof_runs.specs.Peers.{FromBeginning, notes_of_peer}
use Rattle.ncp_proof_runs.specs.Marks.{Marks, is_marked_there, end_of_marks, end_marked, marks_of}
use Rattle.ncp_proof_runs.proofs.Recorded.{end-there}

there-passes : (test : (p : Pair × Endpoint) → Bool) (pair : Pair) (m : Marks) → passes test pair (end_marked pair m) ≡ true → test (pair, end_of_marks pair m) ≡ true
there-passes test pair m e = go (is_marked_there m) e
  where
    go : (b : Bool) → passes test pair (if b then Some (end_of_marks pair m) else None) ≡ true → test (pair, end_of_marks pair m) ≡ true
    go true e = e
    go false e = absurd (cc)

three : (a b : Bool) (l on : ℕ) → (a && b && l == on) ≡ true → (a ≡ true) × (b ≡ true) × (l ≡ on)
three true true l on e = (refl, refl, eqb-true l on e)
three true false l on e = absurd (cc)
three false b l on e = absurd (cc)

pub sender-led : (me : ℕ) (ns : List ℕ) (all : List HostNote) (n on : ℕ) (s : PeerState) (pair : Pair) → FromBeginning me ns all → state_of (after_notes all (new_host me ns)) n ≡ Some s → pair_of (sender_on on s.peer.ends) ≡ Some pair
    → (sends pair ≡ true) × ((marks_of pair (notes_of_peer n all)).heard ≡ true) × ((marks_of pair (notes_of_peer n all)).link ≡ on)
sender-led me ns all n on s pair from there e =
    let m = marks_of pair (notes_of_peer n all) in
    let p : passes (hears_link on) pair (end_marked pair m) ≡ true = ap (passes (hears_link on) pair) (sym (end-there me ns all n s pair from there)) ∙ (led (hears_link on) s.peer.ends pair e).1 in
    three (sends pair) m.heard m.link on (there-passes (hears_link on) pair m p)

pub receiver-led : (me : ℕ) (ns : List ℕ) (all : List HostNote) (n on : ℕ) (s : PeerState) (pair : Pair) → FromBeginning me ns all → state_of (after_notes all (new_host me ns)) n ≡ Some s → pair_of (receiver_on on s.peer.ends) ≡ Some pair
    → (receives pair ≡ true) × ((marks_of pair (notes_of_peer n all)).asked ≡ true) × ((marks_of pair (notes_of_peer n all)).link ≡ on)
receiver-led me ns all n on s pair from there e =
    let m = marks_of pair (notes_of_peer n all) in
    let p : passes (uses_link on) pair (end_marked pair m) ≡ true = ap (passes (uses_link on) pair) (sym (end-there me ns all n s pair from there)) ∙ (led (uses_link on) s.peer.ends pair e).1 in
    three (receives pair) m.asked m.link on (there-passes (uses_link on) pair m p)
