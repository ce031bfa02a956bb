-- What the notes of a peer say that a user did is what the rules say that he did.
use Rattle.std.proofs.Common.{◌≡◌, ℕ, Bool, true, false, cond, if◌then◌else◌, List, [], ◌∷◌, ◌++◌, Option, None, Some, Result, Ok, Err, refl, sym, ap, ◌∙◌, subst}
use Rattle.std.proofs.lemmas.Bool.{eqb-true}
use Rattle.std.proofs.lemmas.List.{append_assoc, append-nil}
use Rattle.std.proofs.lemmas.List.Elements.{filter-append}
use Rattle.ncp_model.specs.declared.call_fault.CallFault.{CallFault}
use Rattle.ncp_model.specs.declared.call_fault.CallFault.TheVariants.{NotUp}
use Rattle.ncp_model.specs.declared.pair.Pair.{Pair}
use Rattle.ncp_model.specs.Pairs.{same}
use Rattle.ncp_model.specs.EndpointEvents.{Outcome, Refused, outcome_of_call}
use Rattle.ncp_model.specs.Phase.{up}
use Rattle.ncp_model.specs.Sending.{is_full}
use Rattle.ncp_model.specs.Peers.{PairCall, Ask_to_send, Ask_to_receive, Give, Take, Allocate, Call_back, Close, called, comes_of, happened_at, reply, reply_of_take}
use Rattle.ncp_proof_endpoint.specs.Histories.{is_outcome_accepted}
use Rattle.ncp_peer.specs.PeerState.{PeerState, new_state}
use Rattle.ncp_host.specs.Host.{state_of, new_host, if_known}
use Rattle.ncp_transcript.specs.declared.call.Call.{Call}
use Rattle.ncp_transcript.specs.declared.note.HostNote.{HostNote}
use Rattle.ncp_transcript.specs.Notes.{returned_or_refused}
use Rattle.ncp_transcript.specs.Asked.{Asked, Asks, Replied, asked_in, reply_to, as_done}
use Rattle.ncp_transcript.specs.Answers.{answer_to}
use Rattle.ncp_transcript.specs.After.{after_notes}
use Rattle.ncp_transcript.proofs.AskedCalls.{CallOutcome, Was_done, Was_taken, Was_refused, Was_read, reads, outcome-of}
use Rattle.ncp_proof_runs.specs.Peers.{FromBeginning, is_this_number, names, notes_of_peer, note_for, notes_for}
use Rattle.ncp_proof_runs.proofs.InRuns.{before_note, kept_as_noted}
use Rattle.ncp_proof_runs.proofs.BooksOfRuns.{same_pair}
use Rattle.ncp_proof_promises.proofs.CallsNoted.{asked-peer}
use Rattle.ncp_statement.specs.Statement.{UserEvent, Gave, TookBits, AllowedBits, CalledBack, OtherEvent, on_pair, user_event_by, user_event_of}
use Rattle.ncp_proof_statement.specs.Since.{had_out, use_then, did_called, did_asked, did_by, did_run, uses_by}

-- a call that was done, by its outcome
done-use : {A : Type 0} (u : UserEvent) (r : Result A CallFault) → reply (outcome_of_call r) ≡ Ok tt → u ≡ (if is_outcome_accepted (outcome_of_call r) then u else OtherEvent)
done-use u (Ok a) e = refl
done-use u (Err fault) e = absurd (cc)

-- text that was answered
had-use : (o : Outcome) (text : List Bool) → reply_of_take o ≡ Ok text → TookBits text ≡ had_out o
had-use (Outcome.Took_out t) text e = cc
had-use (Outcome.Refused fault) text e = absurd (cc)
had-use Outcome.Accepted text e = cc
had-use (Outcome.Sent of_size t) text e = cc
had-use Outcome.Late text e = cc
had-use (Outcome.Erred error) text e = cc
had-use Outcome.Full text e = cc
had-use Outcome.Admitted text e = cc
had-use Outcome.WrongSize text e = cc
had-use Outcome.Over text e = cc
had-use Outcome.NotOpen text e = cc

-- what the rules say of a call that answered so, and does not while the host is down
does : {T : Type 0} (answers : Outcome → Result T CallFault) (x : T) (pair p : Pair) (call : PairCall) (s : PeerState) (u : UserEvent) → (answers (Refused NotUp) ≡ Ok x → ⊥)
    → ((q : Pair) → answers (happened_at q call s.peer).outcome ≡ Ok x → u ≡ use_then (called call (is_full s.peer.phase) s.peer.ends) (happened_at q call s.peer).outcome)
    → answers (comes_of p call s.peer) ≡ Ok x → on_pair (same pair p) u ≡ did_called pair p call s
does answers x pair p call s u not_down says e = go (up s.peer.phase) (same pair p) e refl
  where
    go : (b d : Bool) → answers (if b then (happened_at p call s.peer).outcome else Refused NotUp) ≡ Ok x → same pair p ≡ d
        → on_pair d u ≡ (if b then (if d then use_then (called call (is_full s.peer.phase) s.peer.ends) (happened_at pair call s.peer).outcome else OtherEvent) else OtherEvent)
    go false d e i = absurd (not_down e)
    go true true e i = says pair (ap (λ (q : Pair). answers (happened_at q call s.peer).outcome) (same_pair pair p i) ∙ e)
    go true false e i = refl

takes : (pair p : Pair) (bytes : ℕ) (text : List Bool) (s : PeerState) → reply_of_take (comes_of p (Take bytes) s.peer) ≡ Ok text
    → on_pair (same pair p) (TookBits text) ≡ did_called pair p (Take bytes) s
takes pair p bytes text s e = does reply_of_take text pair p (Take bytes) s (TookBits text) (λ f. cc f) (λ q f. had-use (happened_at q (Take bytes) s.peer).outcome text f) e

-- What is asked, as the page reads it.

abbrev use_asked : Pair → Option (ℕ × Asked) → UserEvent
use_asked pair (Some (peer, Asks p (Ask_to_send size room))) = on_pair (same pair p) UserEvent.Asked
use_asked pair (Some (peer, Asks p (Ask_to_receive room))) = on_pair (same pair p) UserEvent.Asked
use_asked pair (Some (peer, Asks p (Give text))) = on_pair (same pair p) (Gave text)
use_asked pair (Some (peer, Asks p (Allocate messages bits))) = on_pair (same pair p) (AllowedBits bits)
use_asked pair (Some (peer, Asks p (Call_back messages bits))) = on_pair (same pair p) CalledBack
use_asked pair (Some (peer, Asks p Close)) = on_pair (same pair p) UserEvent.Closed
use_asked pair other = OtherEvent

by-call : (pair : Pair) (call : Call) → user_event_by pair call ≡ use_asked pair (asked_in call)
by-call pair (Call.Reset peer) = refl
by-call pair call = refl

-- that it was done is what the rules say then
done-says : (pair : Pair) (n : ℕ) (asked : Asked) (s : PeerState) → reply_to asked s ≡ Replied (Ok tt) → use_asked pair (Some (n, asked)) ≡ did_asked pair (Some (n, asked)) s
done-says pair n (Asks p call) s e = go call e
  where
    made : (call : PairCall) (u : UserEvent) → ((q : Pair) → reply (happened_at q call s.peer).outcome ≡ Ok tt → u ≡ use_then (called call (is_full s.peer.phase) s.peer.ends) (happened_at q call s.peer).outcome)
        → Replied (reply (comes_of p call s.peer)) ≡ Replied (Ok tt) → on_pair (same pair p) u ≡ did_called pair p call s
    made call u says e = does reply tt pair p call s u (λ f. cc f) says (ap as_done e)

    no_use : (a b : Bool) → OtherEvent ≡ (if a then (if b then OtherEvent else OtherEvent) else OtherEvent)
    no_use true true = refl
    no_use true false = refl
    no_use false b = refl

    go : (call : PairCall) → reply_to (Asks p call) s ≡ Replied (Ok tt) → use_asked pair (Some (n, Asks p call)) ≡ did_called pair p call s
    go (Ask_to_send size room) e = made (Ask_to_send size room) UserEvent.Asked (λ q f. done-use UserEvent.Asked _ f) e
    go (Ask_to_receive room) e = made (Ask_to_receive room) UserEvent.Asked (λ q f. done-use UserEvent.Asked _ f) e
    go (Give text) e = made (Give text) (Gave text) (λ q f. done-use (Gave text) _ f) e
    go (Allocate messages bits) e = made (Allocate messages bits) (AllowedBits bits) (λ q f. done-use (AllowedBits bits) _ f) e
    go (Call_back messages bits) e = made (Call_back messages bits) CalledBack (λ q f. done-use CalledBack _ f) e
    go Close e = made Close UserEvent.Closed (λ q f. done-use UserEvent.Closed _ f) e
    go (Take bytes) e = absurd (cc e)
    go call e = no_use (up s.peer.phase) (same pair p)
done-says pair n asked s e = refl

pub took-known : (o : Option PeerState) (n : ℕ) (p : Pair) (bytes : ℕ) (text : List Bool) → returned_or_refused (Call.Take n p bytes) (HostNote.Took n p bytes) (if_known o (λ x. reply_of_take (comes_of p (Take bytes) x.peer))) ≡ HostNote.Took n p bytes text
    → (s : PeerState) × (o ≡ Some s) × (reply_of_take (comes_of p (Take bytes) s.peer) ≡ Ok text)
took-known None n p bytes text e = absurd (cc)
took-known (Some s) n p bytes text e = (s, refl, go (reply_of_take (comes_of p (Take bytes) s.peer)) e)
  where
    go : (r : Result (List Bool) CallFault) → returned_or_refused (Call.Take n p bytes) (HostNote.Took n p bytes) r ≡ HostNote.Took n p bytes text → r ≡ Ok text
    go (Ok t) e = cc
    go (Err fault) e = absurd (cc)

module _ (me : ℕ) (ns : List ℕ) (n : ℕ) (pair : Pair) where
  abbrev Says : HostNote → List HostNote → Type 0
  Says note before = user_event_of pair note ≡ did_by pair note (notes_for (notes_of_peer n before) new_state)

  -- each note of the peer

  was-done : (call : Call) (before after : List HostNote) → FromBeginning me ns (before ++ HostNote.Done call ∷ after) → names n (HostNote.Done call) ≡ true → Says (HostNote.Done call) before
  was-done call before after from e =
      let b = before_note me ns before after (HostNote.Done call) from in
      go b.from (answer_to call (after_notes before (new_host me ns))) (outcome-of call (after_notes before (new_host me ns))) b.said
    where
      s : PeerState
      s = notes_for (notes_of_peer n before) new_state

      go : FromBeginning me ns before → (note : HostNote) → CallOutcome call (after_notes before (new_host me ns)) note → note ≡ HostNote.Done call → Says (HostNote.Done call) before
      go b note (Was_done peer asked t at says by) f =
          let here : peer ≡ n = eqb-true peer n (ap (is_this_number n) (sym (asked-peer call peer asked by)) ∙ e) in
          let is : t ≡ s = kept_as_noted me ns before n t b (subst (λ (k : ℕ). state_of (after_notes before (new_host me ns)) k ≡ Some t) here at) in
          by-call pair call
          ∙ ap (use_asked pair) by
          ∙ done-says pair peer asked s (ap (reply_to asked) (sym is) ∙ says)
          ∙ sym (ap (λ (o : Option (ℕ × Asked)). did_asked pair o s) by)
      go b note (Was_taken peer p bytes text t at says is) f = absurd (cc f)
      go b note (Was_refused fault why) f = absurd (cc f)
      go b note (Was_read read is) f = absurd (cc (is, ap reads f))

  by-note : (note : HostNote) (before after : List HostNote) → FromBeginning me ns (before ++ note ∷ after) → names n note ≡ true → Says note before
  by-note (HostNote.Done call) before after from e = was-done call before after from e
  by-note (HostNote.Took peer p bytes text) before after from e =
      let from-n = subst (λ (k : ℕ). FromBeginning me ns (before ++ HostNote.Took k p bytes text ∷ after)) (eqb-true peer n e) from in
      let b = before_note me ns before after (HostNote.Took n p bytes text) from-n in
      let w = took-known (state_of (after_notes before (new_host me ns)) n) n p bytes text b.said in
      let is : w.0 ≡ notes_for (notes_of_peer n before) new_state = kept_as_noted me ns before n w.0 b.from w.1 in
      takes pair p bytes text (notes_for (notes_of_peer n before) new_state) (ap (λ (x : PeerState). reply_of_take (comes_of p (Take bytes) x.peer)) (sym is) ∙ w.2)
  by-note note before after from e = refl

  for-more : (before : List HostNote) (note : HostNote) (s : PeerState) → notes_for (before ++ note ∷ []) s ≡ note_for note (notes_for before s)
  for-more [] note s = refl
  for-more (first ∷ before) note s = for-more before note (note_for first s)

  -- the notes before are done; those of the peer are taken in turn
  pub noted-from : (before rest : List HostNote) → FromBeginning me ns (before ++ rest) → uses_by pair (notes_of_peer n rest) ≡ did_run pair (notes_of_peer n rest) (notes_for (notes_of_peer n before) new_state)
  noted-from before [] from = refl
  noted-from before (note ∷ rest) from =
      let next : FromBeginning me ns ((before ++ note ∷ []) ++ rest) = subst (λ (xs : List HostNote). FromBeginning me ns xs) (sym (append_assoc before (note ∷ []) rest)) from in
      go (names n note) refl (noted-from (before ++ note ∷ []) rest next)
    where
      More : Type 0
      More = uses_by pair (notes_of_peer n rest) ≡ did_run pair (notes_of_peer n rest) (notes_for (notes_of_peer n (before ++ note ∷ [])) new_state)

      cut : (b : Bool) → names n note ≡ b → notes_of_peer n (before ++ note ∷ []) ≡ notes_of_peer n before ++ cond b (note ∷ []) []
      cut b e = filter-append (names n) before (note ∷ []) ∙ ap (λ (c : Bool). notes_of_peer n before ++ cond c (note ∷ []) []) e

      go : (b : Bool) → names n note ≡ b → More → uses_by pair (cond b (note ∷ notes_of_peer n rest) (notes_of_peer n rest)) ≡ did_run pair (cond b (note ∷ notes_of_peer n rest) (notes_of_peer n rest)) (notes_for (notes_of_peer n before) new_state)
      go true e more =
          let s = notes_for (notes_of_peer n before) new_state in
          ap (λ (u : UserEvent). u ∷ uses_by pair (notes_of_peer n rest)) (by-note note before rest from e)
          ∙ ap (λ (us : List UserEvent). did_by pair note s ∷ us)
          (more ∙ ap (did_run pair (notes_of_peer n rest)) (ap (λ (xs : List HostNote). notes_for xs new_state) (cut true e) ∙ for-more (notes_of_peer n before) note new_state))
      go false e more = more ∙ ap (did_run pair (notes_of_peer n rest)) (ap (λ (xs : List HostNote). notes_for xs new_state) (cut false e ∙ append-nil (notes_of_peer n before)))
