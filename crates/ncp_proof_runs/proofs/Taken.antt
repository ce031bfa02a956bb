-- What is got is taken or is held; and what a note says was taken is what joins the taken.
use Rattle.std.proofs.Common.{◌≡◌, ℕ, ◌==◌, Bool, true, false, cond, if◌then◌else◌, List, [], ◌∷◌, ◌++◌, Option, None, Some, Ok, refl, sym, ap, ◌∙◌, subst, arith}
use Rattle.std.proofs.lemmas.List.Elements.{filter-append}
use Rattle.std.specs.FinMap.{get}
use Rattle.ncp_model.specs.declared.call_fault.CallFault.TheVariants.{NotUp}
use Rattle.ncp_model.specs.declared.pair.Pair.{Pair}
use Rattle.ncp_model.specs.Pairs.{receives}
use Rattle.ncp_model.specs.Endpoint.{Endpoint}
use Rattle.ncp_model.specs.EndpointEvents.{Outcome, Refused, Takes, happens}
use Rattle.ncp_model.specs.Phase.{up}
use Rattle.ncp_model.specs.Peers.{Take, comes_of, happened_at, reply_of_take}
use Rattle.ncp_proof_endpoint.specs.Histories.{PairHistory, no_past, opens, taken_out, reopened}
use Rattle.ncp_proof_endpoint.specs.Books.{Books, BooksAt}
use Rattle.ncp_proof_endpoint.specs.Sound.{SoundEnd, SoundAt}
use Rattle.ncp_peer.specs.PeerState.{PeerState, new_state}
use Rattle.ncp_host.specs.Host.{state_of, new_host, if_known}
use Rattle.ncp_transcript.specs.declared.call.Call.{Call}
use Rattle.ncp_transcript.specs.declared.note.HostNote.{HostNote}
use Rattle.ncp_transcript.specs.Notes.{returned_or_refused}
use Rattle.ncp_transcript.specs.After.{after_notes}
use Rattle.ncp_proof_runs.specs.Peers.{FromBeginning, names, notes_of_peer, note_for, notes_for}
use Rattle.ncp_proof_runs.specs.Histories.{past_then, past_at, past_called, past_by, past_from, past_so_far}
use Rattle.ncp_proof_runs.proofs.HostRuns.{note-said}
use Rattle.ncp_proof_runs.proofs.BooksOfRuns.{same_itself, run-kept, new-kept}
use Rattle.ncp_proof_runs.proofs.InRuns.{before_note, kept_as_noted}

pub books-agree : (me : ℕ) (ns : List ℕ) (all_notes : List HostNote) (n : ℕ) (s : PeerState) (pair : Pair) (e : Endpoint) → FromBeginning me ns all_notes → state_of (after_notes all_notes (new_host me ns)) n ≡ Some s → receives pair ≡ true → get s.peer.ends pair ≡ Some e
    → Books e (past_so_far pair (notes_of_peer n all_notes))
books-agree me ns all_notes n s pair e from there r is =
    let k = run-kept pair (notes_of_peer n all_notes) new_state no_past (new-kept pair) in
    subst (λ (o : Option Endpoint). BooksAt o (past_so_far pair (notes_of_peer n all_notes)))
    (ap (λ (x : PeerState). get x.peer.ends pair) (sym (kept_as_noted me ns all_notes n s from there)) ∙ is) (k.1 r)

-- an end is sound, whichever way its texts go
pub sound-there : (me : ℕ) (ns : List ℕ) (all_notes : List HostNote) (n : ℕ) (s : PeerState) (pair : Pair) (e : Endpoint) → FromBeginning me ns all_notes → state_of (after_notes all_notes (new_host me ns)) n ≡ Some s → get s.peer.ends pair ≡ Some e
    → SoundEnd pair e
sound-there me ns all_notes n s pair e from there is =
    let k = run-kept pair (notes_of_peer n all_notes) new_state no_past (new-kept pair) in
    subst (λ (o : Option Endpoint). SoundAt pair o)
    (ap (λ (x : PeerState). get x.peer.ends pair) (sym (kept_as_noted me ns all_notes n s from there)) ∙ is) k.0

-- Taking.

takes-opens-not : (pair : Pair) (bytes : ℕ) (before : Option Endpoint) → opens before (happens pair (Takes bytes) before).after ≡ false
takes-opens-not pair bytes None = grind arith
takes-opens-not pair bytes (Some e) = grind arith

out_taken : (o : Outcome) (text : List Bool) → reply_of_take o ≡ Ok text → taken_out o ≡ text
out_taken (Outcome.Took_out t) text e = cc
out_taken (Outcome.Refused fault) text e = absurd (cc)
out_taken Outcome.Accepted text e = cc
out_taken (Outcome.Sent of_size t) text e = cc
out_taken Outcome.Late text e = cc
out_taken (Outcome.Erred error) text e = cc
out_taken Outcome.Full text e = cc
out_taken Outcome.Admitted text e = cc
out_taken Outcome.WrongSize text e = cc
out_taken Outcome.Over text e = cc
out_taken Outcome.NotOpen text e = cc

pub taken-more : (p : Pair) (bytes : ℕ) (text : List Bool) (s : PeerState) (past : PairHistory) → reply_of_take (comes_of p (Take bytes) s.peer) ≡ Ok text → (past_called p p (Take bytes) s past).taken ≡ past.taken ++ text
taken-more p bytes text s past e = go (up s.peer.phase) e
  where
    go : (b : Bool) → reply_of_take (if b then (happened_at p (Take bytes) s.peer).outcome else Refused NotUp) ≡ Ok text → (if b then past_at p (Some p) (Some (Takes bytes)) s.peer.ends past else past).taken ≡ past.taken ++ text
    go false e = absurd (cc)
    go true e =
        let before = get s.peer.ends p in
        let did = happens p (Takes bytes) before in
        ap (λ (b : Bool). (if b then past_then before (Takes bytes) did past else past).taken) (same_itself p)
        ∙ ap (λ (b : Bool). (if b then reopened past else past).taken ++ taken_out did.outcome) (takes-opens-not p bytes before)
        ∙ ap (λ (t : List Bool). past.taken ++ t) (out_taken did.outcome text e)

-- One more note.

pub past-more : (pair : Pair) (before : List HostNote) (note : HostNote) (s : PeerState) (past : PairHistory) → past_from pair (before ++ note ∷ []) s past ≡ past_by pair note (notes_for before s) (past_from pair before s past)
past-more pair [] note s past = refl
past-more pair (first ∷ before) note s past = past-more pair before note (note_for first s) (past_by pair first s past)

pub notes-more : (n : ℕ) (before : List HostNote) (note : HostNote) → names n note ≡ true → notes_of_peer n (before ++ note ∷ []) ≡ notes_of_peer n before ++ note ∷ []
notes-more n before note e = filter-append (names n) before (note ∷ []) ∙ ap (λ (b : Bool). notes_of_peer n before ++ cond b (note ∷ []) []) e

took-known : (o : Option PeerState) (n : ℕ) (p : Pair) (bytes : ℕ) (text : List Bool) → returned_or_refused (Call.Take n p bytes) (HostNote.Took n p bytes) (if_known o (λ x. reply_of_take (comes_of p (Take bytes) x.peer))) ≡ HostNote.Took n p bytes text
    → (s : PeerState) × (o ≡ Some s)
took-known None n p bytes text e = absurd (cc)
took-known (Some s) n p bytes text e = (s, refl)

pub itself : (n : ℕ) → (n == n) ≡ true
itself n = grind arith

pub taken-noted : (me : ℕ) (ns : List ℕ) (before after : List HostNote) (n : ℕ) (p : Pair) (bytes : ℕ) (text : List Bool) → FromBeginning me ns (before ++ HostNote.Took n p bytes text ∷ after)
    → (past_so_far p (notes_of_peer n (before ++ HostNote.Took n p bytes text ∷ []))).taken ≡ (past_so_far p (notes_of_peer n before)).taken ++ text
taken-noted me ns before after n p bytes text from =
    let note = HostNote.Took n p bytes text in
    let b = before_note me ns before after note from in
    let h = after_notes before (new_host me ns) in
    let w = took-known (state_of h n) n p bytes text b.said in
    let said = note-said ns note h n w.0 b.holds b.said w.1 (itself n) in
    let is : w.0 ≡ notes_for (notes_of_peer n before) new_state = kept_as_noted me ns before n w.0 b.from w.1 in
    let here : reply_of_take (comes_of p (Take bytes) (notes_for (notes_of_peer n before) new_state).peer) ≡ Ok text = ap (λ (x : PeerState). reply_of_take (comes_of p (Take bytes) x.peer)) (sym is) ∙ said in
    ap (λ (xs : List HostNote). (past_so_far p xs).taken) (notes-more n before note (itself n))
    ∙ ap (λ (x : PairHistory). x.taken) (past-more p (notes_of_peer n before) note new_state no_past)
    ∙ taken-more p bytes text (notes_for (notes_of_peer n before) new_state) (past_so_far p (notes_of_peer n before)) here
