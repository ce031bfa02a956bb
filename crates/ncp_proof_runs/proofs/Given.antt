-- What was given and what was granted by calls that were done.
use Rattle.std.proofs.Common.{◌≡◌, ℕ, Bool, true, false, if◌then◌else◌, List, [], ◌∷◌, ◌++◌, Option, None, Some, Result, Ok, Err, refl, sym, ap, ◌∙◌, arith}
use Rattle.std.specs.FinMap.{get}
use Rattle.ncp_model.specs.declared.call_fault.CallFault.{CallFault}
use Rattle.ncp_model.specs.declared.call_fault.CallFault.TheVariants.{NotUp}
use Rattle.ncp_model.specs.declared.pair.Pair.{Pair}
use Rattle.ncp_model.specs.Amounts.{amount, no_amount, ◌⊕◌}
use Rattle.ncp_model.specs.Endpoint.{Endpoint}
use Rattle.ncp_model.specs.EndpointEvents.{Outcome, Refused, Gives, Allocates, happens, outcome_of_call}
use Rattle.ncp_model.specs.Phase.{up}
use Rattle.ncp_model.specs.Sending.{is_full}
use Rattle.ncp_model.specs.Peers.{PairCall, Give, Allocate, called, comes_of, happened_at, reply}
use Rattle.ncp_proof_endpoint.specs.Histories.{PairHistory, no_past, is_outcome_accepted, adds, opens, reopened}
use Rattle.ncp_peer.specs.PeerState.{PeerState, new_state}
use Rattle.ncp_host.specs.Host.{state_of, new_host, if_known}
use Rattle.ncp_transcript.specs.declared.call.Call.{Call}
use Rattle.ncp_transcript.specs.declared.note.HostNote.{HostNote}
use Rattle.ncp_transcript.specs.Notes.{done_or_refused}
use Rattle.ncp_transcript.specs.After.{after_notes}
use Rattle.ncp_proof_runs.specs.Peers.{FromBeginning, notes_of_peer, notes_for}
use Rattle.ncp_proof_runs.specs.Histories.{past_then, past_at, past_called, past_so_far}
use Rattle.ncp_proof_runs.proofs.BooksOfRuns.{same_itself}
use Rattle.ncp_proof_runs.proofs.InRuns.{before_note, kept_as_noted}
use Rattle.ncp_proof_runs.proofs.Taken.{itself, past-more, notes-more}

-- Neither opens a connection.

gives-open-not : (pair : Pair) (text : List Bool) (before : Option Endpoint) → opens before (happens pair (Gives text) before).after ≡ false
gives-open-not pair text None = grind arith
gives-open-not pair text (Some e) = grind arith

allocates-open-not : (pair : Pair) (messages bits : ℕ) (full : Bool) (before : Option Endpoint) → opens before (happens pair (Allocates messages bits full) before).after ≡ false
allocates-open-not pair messages bits full None = grind arith
allocates-open-not pair messages bits full (Some e) = grind arith

-- A call that was done was accepted, while up.

was-done : (c : Call) (r : Result (Unit {0}) CallFault) → done_or_refused c r ≡ HostNote.Done c → r ≡ Ok tt
was-done c (Ok tt) e = refl
was-done c (Err fault) e = absurd (cc)

known : (c : Call) (o : Option PeerState) (p : Pair) (call : PairCall) → done_or_refused c (if_known o (λ s. reply (comes_of p call s.peer))) ≡ HostNote.Done c → (s : PeerState) × (o ≡ Some s) × (reply (comes_of p call s.peer) ≡ Ok tt)
known c None p call e = absurd (cc)
known c (Some s) p call e = (s, refl, was-done c (reply (comes_of p call s.peer)) e)

up-then : (b : Bool) (o : Outcome) → reply (if b then o else Refused NotUp) ≡ Ok tt → (b ≡ true) × (reply o ≡ Ok tt)
up-then true o e = (refl, e)
up-then false o e = absurd (cc)

pub accepted : {A : Type 0} (r : Result A CallFault) → reply (outcome_of_call r) ≡ Ok tt → is_outcome_accepted (outcome_of_call r) ≡ true
accepted (Ok a) e = refl
accepted (Err fault) e = absurd (cc)

-- its history is then what it adds
called-more : (p : Pair) (call : PairCall) (s : PeerState) (past : PairHistory) → up s.peer.phase ≡ true
    → opens (get s.peer.ends p) (happened_at p call s.peer).after ≡ false
    → past_called p p call s past ≡ adds (called call (is_full s.peer.phase) s.peer.ends) (happened_at p call s.peer).outcome past
called-more p call s past is_up not_open =
    let what = called call (is_full s.peer.phase) s.peer.ends in
    let before = get s.peer.ends p in
    ap (λ (b : Bool). if b then past_at p (Some p) (Some what) s.peer.ends past else past) is_up
    ∙ ap (λ (b : Bool). if b then past_then before what (happens p what before) past else past) (same_itself p)
    ∙ ap (λ (b : Bool). adds what (happens p what before).outcome (if b then reopened past else past)) not_open

-- the state before a call that was done, and its answer there
pub record WasDone (me : ℕ) (ns : List ℕ) (before : List HostNote) (n : ℕ) (p : Pair) (call : PairCall) : Type 0 where
  pub is_up : up (notes_for (notes_of_peer n before) new_state).peer.phase ≡ true
  pub fine : reply (happened_at p call (notes_for (notes_of_peer n before) new_state).peer).outcome ≡ Ok tt

pub done-before : (me : ℕ) (ns : List ℕ) (before : List HostNote) (n : ℕ) (p : Pair) (call : PairCall) (c : Call) → FromBeginning me ns before
    → done_or_refused c (if_known (state_of (after_notes before (new_host me ns)) n) (λ s. reply (comes_of p call s.peer))) ≡ HostNote.Done c
    → WasDone me ns before n p call
done-before me ns before n p call c from said =
    let w = known c (state_of (after_notes before (new_host me ns)) n) p call said in
    let is : w.0 ≡ notes_for (notes_of_peer n before) new_state = kept_as_noted me ns before n w.0 from w.1 in
    let t = notes_for (notes_of_peer n before) new_state in
    let b = up-then (up t.peer.phase) (happened_at p call t.peer).outcome (ap (λ (x : PeerState). reply (comes_of p call x.peer)) (sym is) ∙ w.2) in
    record { is_up = b.0; fine = b.1 }

given-more : (p : Pair) (text : List Bool) (s : PeerState) (past : PairHistory) → up s.peer.phase ≡ true → reply (happened_at p (Give text) s.peer).outcome ≡ Ok tt → (past_called p p (Give text) s past).given ≡ past.given ++ text
given-more p text s past is_up fine =
    ap (λ (x : PairHistory). x.given) (called-more p (Give text) s past is_up (gives-open-not p text (get s.peer.ends p)))
    ∙ ap (λ (b : Bool). past.given ++ (if b then text else [])) (accepted _ fine)

granted-more : (p : Pair) (messages bits : ℕ) (s : PeerState) (past : PairHistory) → up s.peer.phase ≡ true → reply (happened_at p (Allocate messages bits) s.peer).outcome ≡ Ok tt
    → (past_called p p (Allocate messages bits) s past).granted ≡ past.granted ⊕ amount messages bits
granted-more p messages bits s past is_up fine =
    ap (λ (x : PairHistory). x.granted) (called-more p (Allocate messages bits) s past is_up (allocates-open-not p messages bits (is_full s.peer.phase) (get s.peer.ends p)))
    ∙ ap (λ (b : Bool). past.granted ⊕ (if b then amount messages bits else no_amount)) (accepted _ fine)

pub given-noted : (me : ℕ) (ns : List ℕ) (before after : List HostNote) (n : ℕ) (p : Pair) (text : List Bool) → FromBeginning me ns (before ++ HostNote.Done (Call.Give n p text) ∷ after)
    → (past_so_far p (notes_of_peer n (before ++ HostNote.Done (Call.Give n p text) ∷ []))).given ≡ (past_so_far p (notes_of_peer n before)).given ++ text
given-noted me ns before after n p text from =
    let note = HostNote.Done (Call.Give n p text) in
    let b = before_note me ns before after note from in
    let w = done-before me ns before n p (Give text) (Call.Give n p text) b.from b.said in
    ap (λ (xs : List HostNote). (past_so_far p xs).given) (notes-more n before note (itself n))
    ∙ ap (λ (x : PairHistory). x.given) (past-more p (notes_of_peer n before) note new_state no_past)
    ∙ given-more p text (notes_for (notes_of_peer n before) new_state) (past_so_far p (notes_of_peer n before)) w.is_up w.fine

pub granted-noted : (me : ℕ) (ns : List ℕ) (before after : List HostNote) (n : ℕ) (p : Pair) (messages bits : ℕ) → FromBeginning me ns (before ++ HostNote.Done (Call.Allocate n p messages bits) ∷ after)
    → (past_so_far p (notes_of_peer n (before ++ HostNote.Done (Call.Allocate n p messages bits) ∷ []))).granted ≡ (past_so_far p (notes_of_peer n before)).granted ⊕ amount messages bits
granted-noted me ns before after n p messages bits from =
    let note = HostNote.Done (Call.Allocate n p messages bits) in
    let b = before_note me ns before after note from in
    let w = done-before me ns before n p (Allocate messages bits) (Call.Allocate n p messages bits) b.from b.said in
    ap (λ (xs : List HostNote). (past_so_far p xs).granted) (notes-more n before note (itself n))
    ∙ ap (λ (x : PairHistory). x.granted) (past-more p (notes_of_peer n before) note new_state no_past)
    ∙ granted-more p messages bits (notes_for (notes_of_peer n before) new_state) (past_so_far p (notes_of_peer n before)) w.is_up w.fine
