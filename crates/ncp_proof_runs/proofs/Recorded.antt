-- The record of a pair is the one that its marks and sums tell.
use Rattle.std.proofs.Common.{◌≡◌, ℕ, Bool, true, false, if◌then◌else◌, List, [], ◌∷◌, ◌++◌, length, drop, Option, None, Some, inl, inr, refl, sym, ap, ◌∙◌, subst, arith}
use Rattle.std.proofs.Math.Seq.{drop-append_seam}
use Rattle.std.specs.FinMap.{get}
use Rattle.ncp_model.specs.declared.pair.Pair.{Pair}
use Rattle.ncp_model.specs.declared.call_fault.CallFault.TheVariants.{NoEntry}
use Rattle.ncp_model.specs.Endpoint.{Endpoint, is_open}
use Rattle.ncp_conn.specs.declared.record.Record.{Record}
use Rattle.ncp_proof_endpoint.specs.Sound.{SoundEnd}
use Rattle.ncp_conn.specs.Records.{record_if_any, record_in}
use Rattle.ncp_peer.specs.PeerState.{PeerState, new_state}
use Rattle.ncp_host.specs.Host.{Host, state_of, new_host, if_known}
use Rattle.ncp_peer.specs.PeerCalls.{record_answer}
use Rattle.ncp_host.specs.Calls.{record_told}
use Rattle.ncp_transcript.specs.declared.call.Call.{Call}
use Rattle.ncp_transcript.specs.declared.note.HostNote.{HostNote}
use Rattle.ncp_transcript.specs.Notes.{returned_or_refused}
use Rattle.ncp_transcript.specs.After.{after_notes}
use Rattle.ncp_transcript.specs.Runs.{IsHostSaid}
use Rattle.ncp_proof_runs.specs.Peers.{FromBeginning, notes_of_peer, notes_for}
use Rattle.ncp_proof_runs.specs.Acts.{acts_of}
use Rattle.ncp_proof_runs.specs.Marks.{Marks, no_marks, is_marked_there, is_marked_open, is_marked_dropped, end_of_marks, end_marked, record_marked, marks_of}
use Rattle.ncp_proof_runs.proofs.InRuns.{before_note, kept_as_noted}
use Rattle.ncp_proof_runs.proofs.ActsOfRuns.{acts-from-nothing}
use Rattle.ncp_proof_runs.proofs.MarksKept.{IsMarked, IsSummed, IsSummedAt, Told, told-from}

end-told : (pair : Pair) (e : Endpoint) (m : Marks) → IsMarked e m → IsSummed pair e m → e ≡ end_of_marks pair m
end-told pair e m k q = let s = stored (is_marked_dropped pair m) refl in grind arith
  where
    stored : (b : Bool) → is_marked_dropped pair m ≡ b → e.stored ≡ (if b then [] else drop (length m.drawn) m.entered)
    stored true d = q.dropped d
    stored false d = sym (ap (λ (xs : List Bool). drop (length m.drawn) xs) (q.kept d) ∙ drop-append_seam m.drawn e.stored)

is-there : (e : Endpoint) (m : Marks) → IsMarked e m → is_marked_there m ≡ true
is-there e m k = grind arith

pub end-marked : (pair : Pair) (o : Option Endpoint) (m : Marks) → Told pair o m → o ≡ end_marked pair m
end-marked pair None m t = ap (end_marked pair) (sym t.marked)
end-marked pair (Some e) m t =
    ap (λ (x : Endpoint). Some x) (end-told pair e m t.marked t.summed)
    ∙ ap (λ (b : Bool). if b then Some (end_of_marks pair m) else None) (sym (is-there e m t.marked))

-- after any run
pub told-there : (me : ℕ) (ns : List ℕ) (all : List HostNote) (n : ℕ) (s : PeerState) (pair : Pair) → FromBeginning me ns all → state_of (after_notes all (new_host me ns)) n ≡ Some s
    → Told pair (get s.peer.ends pair) (marks_of pair (notes_of_peer n all))
told-there me ns all n s pair from there =
    let acts = acts-from-nothing pair (notes_of_peer n all) in
    let t = told-from pair (acts_of pair (notes_of_peer n all)) None (get (notes_for (notes_of_peer n all) new_state).peer.ends pair) no_marks acts (record { sound = tt; marked = refl; summed = tt }) in
    subst (λ (x : PeerState). Told pair (get x.peer.ends pair) (marks_of pair (notes_of_peer n all))) (sym (kept_as_noted me ns all n s from there)) t

pub end-there : (me : ℕ) (ns : List ℕ) (all : List HostNote) (n : ℕ) (s : PeerState) (pair : Pair) → FromBeginning me ns all → state_of (after_notes all (new_host me ns)) n ≡ Some s
    → get s.peer.ends pair ≡ end_marked pair (marks_of pair (notes_of_peer n all))
end-there me ns all n s pair from there = end-marked pair (get s.peer.ends pair) (marks_of pair (notes_of_peer n all)) (told-there me ns all n s pair from there)

pub record-there : (me : ℕ) (ns : List ℕ) (all : List HostNote) (n : ℕ) (s : PeerState) (pair : Pair) → FromBeginning me ns all → state_of (after_notes all (new_host me ns)) n ≡ Some s
    → record_in pair s.peer.ends ≡ record_marked pair (marks_of pair (notes_of_peer n all))
record-there me ns all n s pair from there = ap (record_if_any pair) (end-there me ns all n s pair from there)

pub stored-there : (me : ℕ) (ns : List ℕ) (all : List HostNote) (n : ℕ) (s : PeerState) (pair : Pair) (e : Endpoint) → FromBeginning me ns all → state_of (after_notes all (new_host me ns)) n ≡ Some s → get s.peer.ends pair ≡ Some e
    → IsSummed pair e (marks_of pair (notes_of_peer n all))
stored-there me ns all n s pair e from there is = subst (λ (o : Option Endpoint). IsSummedAt pair o (marks_of pair (notes_of_peer n all))) is (told-there me ns all n s pair from there).summed

-- what the end says of itself

end-open : (pair : Pair) (e : Endpoint) (m : Marks) → SoundEnd pair e → IsMarked e m → is_open e ≡ is_marked_open m
end-open pair e m s k = grind arith

pub open-there : (me : ℕ) (ns : List ℕ) (all : List HostNote) (n : ℕ) (s : PeerState) (pair : Pair) (e : Endpoint) → FromBeginning me ns all → state_of (after_notes all (new_host me ns)) n ≡ Some s → get s.peer.ends pair ≡ Some e
    → (is_open e ≡ is_marked_open (marks_of pair (notes_of_peer n all))) × (e.opened ≡ (marks_of pair (notes_of_peer n all)).opened)
open-there me ns all n s pair e from there is =
    let m = marks_of pair (notes_of_peer n all) in
    let t : Told pair (Some e) m = subst (λ (o : Option Endpoint). Told pair o m) is (told-there me ns all n s pair from there) in
    (end-open pair e m t.sound t.marked, t.marked.opened)

-- a note that reads it

record-read : (n : ℕ) (pair : Pair) (r : Record) (h : Host) → returned_or_refused (Call.State n pair) (HostNote.State n pair) (record_told n pair h) ≡ HostNote.State n pair r → (s : PeerState) × (state_of h n ≡ Some s) × (record_in pair s.peer.ends ≡ Some r)
record-read n pair r h e = go (state_of h n) refl e
  where
    answered : (s : PeerState) (o : Option Record) → returned_or_refused (Call.State n pair) (HostNote.State n pair) (record_answer o) ≡ HostNote.State n pair r → o ≡ Some r
    answered s None e = absurd (cc)
    answered s (Some x) e = let same : x ≡ r = cc in ap (λ (y : Record). Some y) same

    go : (o : Option PeerState) → state_of h n ≡ o → returned_or_refused (Call.State n pair) (HostNote.State n pair) (if_known o (λ s. record_answer (record_in pair s.peer.ends))) ≡ HostNote.State n pair r → (s : PeerState) × (state_of h n ≡ Some s) × (record_in pair s.peer.ends ≡ Some r)
    go None f e = absurd (cc)
    go (Some s) f e = (s, f, answered s (record_in pair s.peer.ends) e)

pub record-noted : (me : ℕ) (ns : List ℕ) (before after : List HostNote) (n : ℕ) (pair : Pair) (r : Record) → FromBeginning me ns (before ++ HostNote.State n pair r ∷ after)
    → record_marked pair (marks_of pair (notes_of_peer n before)) ≡ Some r
record-noted me ns before after n pair r from =
    let b = before_note me ns before after (HostNote.State n pair r) from in
    let w = record-read n pair r (after_notes before (new_host me ns)) b.said in
    sym (record-there me ns before n w.0 pair b.from w.1) ∙ w.2

-- and one that finds none

none-read : (n : ℕ) (pair : Pair) (h : Host) → returned_or_refused (Call.State n pair) (HostNote.State n pair) (record_told n pair h) ≡ HostNote.Refused (Call.State n pair) NoEntry → (s : PeerState) × (state_of h n ≡ Some s) × (record_in pair s.peer.ends ≡ None)
none-read n pair h e = go (state_of h n) refl e
  where
    answered : (o : Option Record) → returned_or_refused (Call.State n pair) (HostNote.State n pair) (record_answer o) ≡ HostNote.Refused (Call.State n pair) NoEntry → o ≡ None
    answered None e = refl
    answered (Some x) e = absurd (cc)

    go : (o : Option PeerState) → state_of h n ≡ o → returned_or_refused (Call.State n pair) (HostNote.State n pair) (if_known o (λ s. record_answer (record_in pair s.peer.ends))) ≡ HostNote.Refused (Call.State n pair) NoEntry → (s : PeerState) × (state_of h n ≡ Some s) × (record_in pair s.peer.ends ≡ None)
    go None f e = absurd (cc)
    go (Some s) f e = (s, f, answered (record_in pair s.peer.ends) e)

by-rules : (n : ℕ) (pair : Pair) (h : Host) → IsHostSaid (HostNote.Refused (Call.State n pair) NoEntry) h → returned_or_refused (Call.State n pair) (HostNote.State n pair) (record_told n pair h) ≡ HostNote.Refused (Call.State n pair) NoEntry
by-rules n pair h p = elim p [
  | inl e ↦ e
  | inr w ↦ (let memory = w.said in absurd (cc))
]

pub none-noted : (me : ℕ) (ns : List ℕ) (before after : List HostNote) (n : ℕ) (pair : Pair) → FromBeginning me ns (before ++ HostNote.Refused (Call.State n pair) NoEntry ∷ after)
    → record_marked pair (marks_of pair (notes_of_peer n before)) ≡ None
none-noted me ns before after n pair from =
    let h = after_notes before (new_host me ns) in
    let b = before_note me ns before after (HostNote.Refused (Call.State n pair) NoEntry) from in
    let w = none-read n pair h (by-rules n pair h b.said) in
    sym (record-there me ns before n w.0 pair b.from w.1) ∙ w.2
