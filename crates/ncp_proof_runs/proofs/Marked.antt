-- What calls that were done leave of the marks.
use Rattle.std.proofs.Common.{◌≡◌, ℕ, Bool, true, false, ◌||◌, if◌then◌else◌, List, [], ◌∷◌, ◌++◌, Option, None, Some, Ok, Err, refl, sym, ap, ◌∙◌, subst, arith}
use Rattle.std.proofs.lemmas.List.{append-nil, append_assoc}
use Rattle.ncp_model.specs.declared.pair.Pair.{Pair}
use Rattle.ncp_model.specs.declared.call_fault.CallFault.TheVariants.{Busy}
use Rattle.ncp_model.specs.Phase.{Phase, up, is_resetting, reset_answer}
use Rattle.ncp_model.specs.Sending.{is_full}
use Rattle.ncp_model.specs.Peers.{Peer, PairCall, Ask_to_send, Ask_to_receive, Close, called, happened_at, reply, calls_up}
use Rattle.ncp_peer.specs.PeerState.{PeerState, new_state}
use Rattle.ncp_host.specs.Host.{state_of, new_host, if_known}
use Rattle.ncp_transcript.specs.declared.call.Call.{Call}
use Rattle.ncp_transcript.specs.declared.note.HostNote.{HostNote}
use Rattle.ncp_transcript.specs.Notes.{done_or_refused}
use Rattle.ncp_transcript.specs.After.{after_notes}
use Rattle.ncp_proof_runs.specs.Peers.{FromBeginning, names, notes_of_peer, note_for, notes_for}
use Rattle.ncp_proof_runs.specs.Acts.{Acted, acted, was_cleared, act_at, gone_down, acts_called, acts_by, acts_from}
use Rattle.ncp_proof_endpoint.specs.Histories.{is_outcome_accepted}
use Rattle.ncp_proof_runs.specs.Marks.{Marks, no_marks, is_marked_open, asked_size, asked_link, closed, cls_made, makes_cls, link_asked, marks_by, marks_from, marks_of}
use Rattle.ncp_proof_runs.proofs.BooksOfRuns.{same_itself}
use Rattle.ncp_proof_runs.proofs.InRuns.{before_note, kept_as_noted}
use Rattle.ncp_proof_runs.proofs.Taken.{itself, notes-more}
use Rattle.ncp_proof_runs.proofs.Given.{done-before, accepted}

-- One more note.

marks-joined : (acts more : List Acted) (m : Marks) → marks_from (acts ++ more) m ≡ marks_from more (marks_from acts m)
marks-joined [] more m = refl
marks-joined (act ∷ acts) more m = marks-joined acts more (marks_by act.what act.outcome act.made m)

acts-more : (pair : Pair) (before : List HostNote) (note : HostNote) (s : PeerState) → acts_from pair (before ++ note ∷ []) s ≡ acts_from pair before s ++ acts_by pair note (notes_for before s)
acts-more pair [] note s = append-nil (acts_by pair note s)
acts-more pair (first ∷ before) note s =
    ap (λ (xs : List Acted). acts_by pair first s ++ xs) (acts-more pair before note (note_for first s))
    ∙ sym (append_assoc (acts_by pair first s) (acts_from pair before (note_for first s)) (acts_by pair note (notes_for before (note_for first s))))

pub marks-more : (pair : Pair) (n : ℕ) (before : List HostNote) (note : HostNote) → names n note ≡ true
    → marks_of pair (notes_of_peer n (before ++ note ∷ [])) ≡ marks_from (acts_by pair note (notes_for (notes_of_peer n before) new_state)) (marks_of pair (notes_of_peer n before))
marks-more pair n before note e =
    ap (marks_of pair) (notes-more n before note e)
    ∙ ap (λ (xs : List Acted). marks_from xs no_marks) (acts-more pair (notes_of_peer n before) note new_state)
    ∙ marks-joined (acts_from pair (notes_of_peer n before) new_state) (acts_by pair note (notes_for (notes_of_peer n before) new_state)) no_marks

-- the acts of a call on the pair itself, while up
acts-up : (p : Pair) (call : PairCall) (s : PeerState) → up s.peer.phase ≡ true
    → acts_called p p call s ≡ acted (called call (is_full s.peer.phase) s.peer.ends) (happened_at p call s.peer) ∷ gone_down (calls_up p call s.peer).phase
acts-up p call s is_up =
    let what = called call (is_full s.peer.phase) s.peer.ends in
    let act = acted what (happened_at p call s.peer) in
    ap (λ (b : Bool). if b then act_at p (Some p) (Some what) s.peer.ends ++ gone_down (calls_up p call s.peer).phase else []) is_up
    ∙ ap (λ (b : Bool). (if b then act ∷ [] else []) ++ gone_down (calls_up p call s.peer).phase) (same_itself p)

-- An own request finds a place for its command, so the host does not go down.

sender-stays : (p : Pair) (of_size room : ℕ) (s : Peer) → up s.phase ≡ true → reply (happened_at p (Ask_to_send of_size room) s).outcome ≡ Ok tt → up (calls_up p (Ask_to_send of_size room) s).phase ≡ true
sender-stays p of_size room s is_up fine = grind arith

receiver-stays : (p : Pair) (room : ℕ) (s : Peer) → up s.phase ≡ true → reply (happened_at p (Ask_to_receive room) s).outcome ≡ Ok tt → up (calls_up p (Ask_to_receive room) s).phase ≡ true
receiver-stays p room s is_up fine = grind arith

-- the request is marked, and a close is

or-true : (b : Bool) → (b || true) ≡ true
or-true true = refl
or-true false = refl

sender-asked : (it : Bool) (of_size room : ℕ) (m : Marks) → it ≡ true → ((asked_size it of_size room m).asked ≡ true) × ((asked_size it of_size room m).size ≡ of_size)
sender-asked it of_size room m e = subst (λ (b : Bool). ((asked_size b of_size room m).asked ≡ true) × ((asked_size b of_size room m).size ≡ of_size)) (sym e) (or-true m.asked, refl)

receiver-asked : (it : Bool) (on room : ℕ) (m : Marks) → it ≡ true → (asked_link it on room m).asked ≡ true
receiver-asked it on room m e = ap (λ (b : Bool). m.asked || b) e ∙ or-true m.asked

-- a pair that was closed is not open, whether its CLS was made, ended it, or is due
close-shut : (it b : Bool) (m : Marks) → it ≡ true → is_marked_open (cls_made b (closed it m)) ≡ false
close-shut it b m e = grind arith

down-shut : (q : Phase) (m : Marks) → is_marked_open m ≡ false → is_marked_open (marks_from (gone_down q) m) ≡ false
down-shut q m e = go (up q)
  where
    go : (b : Bool) → is_marked_open (marks_from (if b then [] else was_cleared ∷ []) m) ≡ false
    go true = e
    go false = refl

pub sender-marked : (me : ℕ) (ns : List ℕ) (before after : List HostNote) (n : ℕ) (p : Pair) (of_size room : ℕ) → FromBeginning me ns (before ++ HostNote.Done (Call.AskSend n p.local p.remote of_size room) ∷ after)
    → (let m = marks_of p (notes_of_peer n (before ++ HostNote.Done (Call.AskSend n p.local p.remote of_size room) ∷ [])) in (m.asked ≡ true) × (m.size ≡ of_size))
sender-marked me ns before after n p of_size room from =
    let note = HostNote.Done (Call.AskSend n p.local p.remote of_size room) in
    let b = before_note me ns before after note from in
    let w = done-before me ns before n p (Ask_to_send of_size room) (Call.AskSend n p.local p.remote of_size room) b.from b.said in
    let s = notes_for (notes_of_peer n before) new_state in
    let m = marks_of p (notes_of_peer n before) in
    let act = acted (called (Ask_to_send of_size room) (is_full s.peer.phase) s.peer.ends) (happened_at p (Ask_to_send of_size room) s.peer) in
    let is : marks_of p (notes_of_peer n (before ++ note ∷ [])) ≡ marks_by act.what act.outcome act.made m =
    marks-more p n before note (itself n)
    ∙ ap (λ (xs : List Acted). marks_from xs m) (acts-up p (Ask_to_send of_size room) s w.is_up)
    ∙ ap (λ (c : Bool). marks_from (act ∷ (if c then [] else was_cleared ∷ [])) m) (sender-stays p of_size room s.peer w.is_up w.fine) in
    subst (λ (x : Marks). (x.asked ≡ true) × (x.size ≡ of_size)) (sym is) (sender-asked (is_outcome_accepted act.outcome) of_size room m (accepted _ w.fine))

pub receiver-marked : (me : ℕ) (ns : List ℕ) (before after : List HostNote) (n : ℕ) (p : Pair) (room : ℕ) → FromBeginning me ns (before ++ HostNote.Done (Call.AskReceive n p.local p.remote room) ∷ after)
    → (marks_of p (notes_of_peer n (before ++ HostNote.Done (Call.AskReceive n p.local p.remote room) ∷ []))).asked ≡ true
receiver-marked me ns before after n p room from =
    let note = HostNote.Done (Call.AskReceive n p.local p.remote room) in
    let b = before_note me ns before after note from in
    let w = done-before me ns before n p (Ask_to_receive room) (Call.AskReceive n p.local p.remote room) b.from b.said in
    let s = notes_for (notes_of_peer n before) new_state in
    let m = marks_of p (notes_of_peer n before) in
    let act = acted (called (Ask_to_receive room) (is_full s.peer.phase) s.peer.ends) (happened_at p (Ask_to_receive room) s.peer) in
    ap (λ (x : Marks). x.asked)
    (marks-more p n before note (itself n)
    ∙ ap (λ (xs : List Acted). marks_from xs m) (acts-up p (Ask_to_receive room) s w.is_up)
    ∙ ap (λ (c : Bool). marks_from (act ∷ (if c then [] else was_cleared ∷ [])) m) (receiver-stays p room s.peer w.is_up w.fine))
    ∙ receiver-asked (is_outcome_accepted act.outcome) (link_asked act.made) room m (accepted _ w.fine)

pub close-marked : (me : ℕ) (ns : List ℕ) (before after : List HostNote) (n : ℕ) (p : Pair) → FromBeginning me ns (before ++ HostNote.Done (Call.Close n p) ∷ after)
    → is_marked_open (marks_of p (notes_of_peer n (before ++ HostNote.Done (Call.Close n p) ∷ []))) ≡ false
close-marked me ns before after n p from =
    let note = HostNote.Done (Call.Close n p) in
    let b = before_note me ns before after note from in
    let w = done-before me ns before n p Close (Call.Close n p) b.from b.said in
    let s = notes_for (notes_of_peer n before) new_state in
    let m = marks_of p (notes_of_peer n before) in
    let act = acted (called Close (is_full s.peer.phase) s.peer.ends) (happened_at p Close s.peer) in
    ap is_marked_open (marks-more p n before note (itself n) ∙ ap (λ (xs : List Acted). marks_from xs m) (acts-up p Close s w.is_up))
    ∙ down-shut (calls_up p Close s.peer).phase (marks_by act.what act.outcome act.made m) (close-shut (is_outcome_accepted act.outcome) (makes_cls act.made) m (accepted _ w.fine))

-- A reset that was done clears.

known-reset : (n : ℕ) (o : Option PeerState) → done_or_refused (Call.Reset n) (if_known o (λ s. reset_answer s.peer.phase)) ≡ HostNote.Done (Call.Reset n) → (s : PeerState) × (o ≡ Some s) × (is_resetting s.peer.phase ≡ false)
known-reset n None e = absurd (cc)
known-reset n (Some s) e = (s, refl, go (is_resetting s.peer.phase) e)
  where
    go : (b : Bool) → done_or_refused (Call.Reset n) (if b then Err Busy else Ok tt) ≡ HostNote.Done (Call.Reset n) → b ≡ false
    go true e = absurd (cc)
    go false e = refl

pub reset-marked : (me : ℕ) (ns : List ℕ) (before after : List HostNote) (n : ℕ) (p : Pair) → FromBeginning me ns (before ++ HostNote.Done (Call.Reset n) ∷ after)
    → marks_of p (notes_of_peer n (before ++ HostNote.Done (Call.Reset n) ∷ [])) ≡ no_marks
reset-marked me ns before after n p from =
    let note = HostNote.Done (Call.Reset n) in
    let b = before_note me ns before after note from in
    let w = known-reset n (state_of (after_notes before (new_host me ns)) n) b.said in
    let s = notes_for (notes_of_peer n before) new_state in
    let m = marks_of p (notes_of_peer n before) in
    let is : w.0 ≡ s = kept_as_noted me ns before n w.0 b.from w.1 in
    marks-more p n before note (itself n)
    ∙ ap (λ (c : Bool). marks_from (if c then [] else was_cleared ∷ []) m) (ap (λ (x : PeerState). is_resetting x.peer.phase) (sym is) ∙ w.2)
