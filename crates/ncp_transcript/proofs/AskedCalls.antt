-- What comes of a call: what is asked of its peer is done, or something is taken or read, or it is refused.
use Rattle.std.proofs.Common.{◌≡◌, ◌⊎◌, ℕ, Bool, List, Option, None, Some, Result, Ok, Err, inl, inr, refl, sym, ap, ◌∙◌, subst}
use Rattle.ncp_model.specs.declared.call_fault.CallFault.{CallFault}
use Rattle.ncp_model.specs.declared.call_fault.CallFault.TheVariants.{UnknownPeer, NoEntry, OutOfMemory}
use Rattle.ncp_model.specs.declared.pair.Pair.{Pair}
use Rattle.ncp_model.specs.Peers.{Take, comes_of, reply_of_take, call_accepted}
use Rattle.ncp_peer.specs.PeerState.{PeerState}
use Rattle.ncp_host.specs.Host.{Host, state_of, if_known}
use Rattle.ncp_phase.specs.Flags.{flags_of}
use Rattle.ncp_peer.specs.PeerCalls.{record_answer, waiting_at, kept_for}
use Rattle.ncp_host.specs.Calls.{record_told, flags_returned, echoed_returned, errors_returned, counts_returned}
use Rattle.ncp_transcript.specs.declared.call.Call.{Call}
use Rattle.ncp_transcript.specs.declared.call.Call.TheVariants as calls
use Rattle.ncp_transcript.specs.declared.note.HostNote.{HostNote}
use Rattle.ncp_transcript.specs.declared.note.HostNote.TheVariants as notes
use Rattle.ncp_transcript.specs.Notes.{done_or_refused, returned_or_refused}
use Rattle.ncp_transcript.specs.Asked.{Asked, Asks, Replied, Took, asked_in, peer_asked, peer_of_call, reply_to, as_done, asked_reply}
use Rattle.ncp_transcript.specs.Answers.{answer_to}
use Rattle.ncp_transcript.specs.After.{after_note}
use Rattle.ncp_transcript.specs.Noting.{IsOutOfMemory, CallNoted}

-- the call by which this was read
abbrev pub reads : HostNote → Option Call
reads (notes.State peer pair told) = Some (calls.State peer pair)
reads (notes.Phase peer flags) = Some (calls.Phase peer)
reads (notes.Echoed peer byte) = Some (calls.Echoed peer)
reads (notes.Errors peer errors) = Some (calls.Errors peer)
reads (notes.Counts peer counts) = Some (calls.Counts peer)
reads (notes.Waiting peer place command) = Some (calls.Waiting peer place)
reads (notes.Kept peer link message) = Some (calls.Kept peer link)
reads (notes.Ignored ignored) = Some calls.Ignored
reads other = None

pub data WhyNot (call : Call) (h : Host) (fault : CallFault) : Type 0 where
  Not_done : (it : ℕ × Asked) → asked_in call ≡ Some it → asked_reply (Some it) h ≡ Err fault → WhyNot call h fault
  Not_read : asked_in call ≡ None → (fault ≡ UnknownPeer) ⊎ (fault ≡ NoEntry) → WhyNot call h fault
  No_memory : IsOutOfMemory call (notes.Refused call fault) h → WhyNot call h fault

pub data CallOutcome (call : Call) (h : Host) : HostNote → Type 0 where
  Was_done : (peer : ℕ) → (asked : Asked) → (s : PeerState) → state_of h peer ≡ Some s → reply_to asked s ≡ Replied (Ok tt) → asked_in call ≡ Some (peer, asked) → CallOutcome call h (notes.Done call)
  Was_taken : (peer : ℕ) → (pair : Pair) → (bytes : ℕ) → (text : List Bool) → (s : PeerState) → state_of h peer ≡ Some s → reply_to (Asks pair (Take bytes)) s ≡ Took (Ok text) → call ≡ calls.Take peer pair bytes
      → CallOutcome call h (notes.Took peer pair bytes text)
  Was_refused : (fault : CallFault) → WhyNot call h fault → CallOutcome call h (notes.Refused call fault)
  Was_read : (note : HostNote) → reads note ≡ Some call → CallOutcome call h note

-- What is asked is done or not.

abbrev IsAnswered : Option (ℕ × Asked) → Type 0
IsAnswered None = ⊥
IsAnswered (Some (peer, asked)) = (s : PeerState) → reply_to asked s ≡ Replied (as_done (reply_to asked s))

asked-outcome : (call : Call) (h : Host) (o : Option (ℕ × Asked)) → asked_in call ≡ o → IsAnswered o → CallOutcome call h (done_or_refused call (asked_reply o h))
asked-outcome call h None by answers = absurd answers
asked-outcome call h (Some (peer, asked)) by answers = go (state_of h peer) refl
  where
    answer : Option PeerState → Result (Unit {0}) CallFault
    answer o = if_known o (λ s. as_done (reply_to asked s))

    of : (s : PeerState) → state_of h peer ≡ Some s → (r : Result (Unit {0}) CallFault) → as_done (reply_to asked s) ≡ r → CallOutcome call h (done_or_refused call r)
    of s at (Ok u) e = Was_done peer asked s at (answers s ∙ ap Replied e) by
    of s at (Err fault) e = Was_refused fault (Not_done (peer, asked) by (ap answer at ∙ e))

    go : (o : Option PeerState) → state_of h peer ≡ o → CallOutcome call h (done_or_refused call (answer o))
    go None at = Was_refused UnknownPeer (Not_done (peer, asked) by (ap answer at))
    go (Some s) at = of s at (as_done (reply_to asked s)) refl

take-outcome : (peer : ℕ) (pair : Pair) (bytes : ℕ) (h : Host) → CallOutcome (calls.Take peer pair bytes) h (answer_to (calls.Take peer pair bytes) h)
take-outcome peer pair bytes h = go (state_of h peer) refl
  where
    asked : ℕ × Asked
    asked = (peer, Asks pair (Take bytes))

    taken : PeerState → Result (List Bool) CallFault
    taken s = reply_of_take (comes_of pair (Take bytes) s.peer)

    note : Result (List Bool) CallFault → HostNote
    note r = returned_or_refused (calls.Take peer pair bytes) (notes.Took peer pair bytes) r

    refused : (fault : CallFault) (o : Option PeerState) → state_of h peer ≡ o → if_known o (λ s. call_accepted (taken s)) ≡ Err fault → CallOutcome (calls.Take peer pair bytes) h (notes.Refused (calls.Take peer pair bytes) fault)
    refused fault o at e = Was_refused fault (Not_done asked refl (ap (λ (x : Option PeerState). if_known x (λ s. call_accepted (taken s))) at ∙ e))

    of : (s : PeerState) → state_of h peer ≡ Some s → (r : Result (List Bool) CallFault) → taken s ≡ r → CallOutcome (calls.Take peer pair bytes) h (note r)
    of s at (Ok text) e = Was_taken peer pair bytes text s at (ap Took e) refl
    of s at (Err fault) e = refused fault (Some s) at (ap call_accepted e)

    go : (o : Option PeerState) → state_of h peer ≡ o → CallOutcome (calls.Take peer pair bytes) h (note (if_known o taken))
    go None at = refused UnknownPeer None at refl
    go (Some s) at = of s at (taken s) refl

-- What is read is told or not.

told-outcome : {A : Type 0} (call : Call) (told : A → HostNote) (r : Result A CallFault) (h : Host) → asked_in call ≡ None → ((it : A) → reads (told it) ≡ Some call)
    → ((fault : CallFault) → r ≡ Err fault → (fault ≡ UnknownPeer) ⊎ (fault ≡ NoEntry)) → CallOutcome call h (returned_or_refused call told r)
told-outcome call told (Ok it) h none read why = Was_read (told it) (read it)
told-outcome call told (Err fault) h none read why = Was_refused fault (Not_read none (why fault refl))

no-peer : {A : Type 0} (o : Option PeerState) (f : PeerState → A) (fault : CallFault) → if_known o (λ s. Ok (f s)) ≡ Err fault → (fault ≡ UnknownPeer) ⊎ (fault ≡ NoEntry)
no-peer None f fault e = inl (cc)
no-peer (Some s) f fault e = absurd (cc e)

no-entry : (o : Option PeerState) (entry : PeerState → Option _) (fault : CallFault) → if_known o (λ s. record_answer (entry s)) ≡ Err fault → (fault ≡ UnknownPeer) ⊎ (fault ≡ NoEntry)
no-entry None entry fault e = inl (cc)
no-entry (Some s) entry fault e = go (entry s) e
  where
    go : (r : Option _) → record_answer r ≡ Err fault → (fault ≡ UnknownPeer) ⊎ (fault ≡ NoEntry)
    go None e = inr (cc)
    go (Some r) e = absurd (cc e)

pub outcome-of : (call : Call) (h : Host) → CallOutcome call h (answer_to call h)
outcome-of (calls.Take peer pair bytes) h = take-outcome peer pair bytes h
outcome-of (calls.State peer pair) h = told-outcome (calls.State peer pair) (notes.State peer pair) (record_told peer pair h) h refl (λ it. refl) (no-entry (state_of h peer) _)
outcome-of (calls.Phase peer) h = told-outcome (calls.Phase peer) (notes.Phase peer) (flags_returned peer h) h refl (λ it. refl) (no-peer (state_of h peer) (λ s. flags_of s.peer.phase))
outcome-of (calls.Echoed peer) h = told-outcome (calls.Echoed peer) (notes.Echoed peer) (echoed_returned peer h) h refl (λ it. refl) (no-peer (state_of h peer) (λ s. s.peer.echoes.echoed))
outcome-of (calls.Errors peer) h = told-outcome (calls.Errors peer) (notes.Errors peer) (errors_returned peer h) h refl (λ it. refl) (no-peer (state_of h peer) (λ s. s.peer.echoes.errors))
outcome-of (calls.Counts peer) h = told-outcome (calls.Counts peer) (notes.Counts peer) (counts_returned peer h) h refl (λ it. refl) (no-peer (state_of h peer) (λ s. s.counts))
outcome-of (calls.Waiting peer place) h = Was_read (answer_to (calls.Waiting peer place) h) refl
outcome-of (calls.Kept peer link) h = Was_read (answer_to (calls.Kept peer link) h) refl
outcome-of calls.Ignored h = Was_read (answer_to calls.Ignored h) refl
outcome-of call h = asked-outcome call h (asked_in call) refl (λ s. refl)

pub outcome-noted : (call : Call) (note : HostNote) (h : Host) → CallNoted call note h → CallOutcome call h note
outcome-noted call note h (inl e) = subst (CallOutcome call h) (sym e) (outcome-of call h)
outcome-noted call note h (inr w) = subst (CallOutcome call h) (sym w.said) (Was_refused OutOfMemory (No_memory (record { takes = w.takes; good = w.good; said = refl })))

-- where something was read nothing was asked, and nothing changes

abbrev asked_of : Option Call → Option (ℕ × Asked)
asked_of None = None
asked_of (Some call) = asked_in call

pub reads-none : (note : HostNote) (call : Call) → reads note ≡ Some call → asked_in call ≡ None
reads-none note call e = sym (ap asked_of e) ∙ go note
  where
    go : (n : HostNote) → asked_of (reads n) ≡ None
    go (notes.Done asked) = refl
    go n = refl

pub reads-stays : (note : HostNote) (call : Call) (h : Host) → reads note ≡ Some call → after_note note h ≡ h
reads-stays (notes.Done asked) call h e = absurd (cc e)
reads-stays (notes.Took peer pair bytes text) call h e = absurd (cc e)
reads-stays (notes.Out message) call h e = absurd (cc e)
reads-stays (notes.In message received) call h e = absurd (cc e)
reads-stays (notes.Answered peer link answer received) call h e = absurd (cc e)
reads-stays note call h e = refl

-- what was done was accepted
pub done-asked : (call : Call) (h : Host) → answer_to call h ≡ notes.Done call → asked_reply (asked_in call) h ≡ Ok tt
done-asked call h is = go (answer_to call h) (outcome-of call h) is
  where
    go : (note : HostNote) → CallOutcome call h note → note ≡ notes.Done call → asked_reply (asked_in call) h ≡ Ok tt
    go note (Was_done peer asked s at says by) e = ap (λ (o : Option (ℕ × Asked)). asked_reply o h) by ∙ ap (λ (o : Option PeerState). if_known o (λ t. as_done (reply_to asked t))) at ∙ ap as_done says
    go note (Was_taken peer pair bytes text s at says is) e = absurd (cc e)
    go note (Was_refused fault why) e = absurd (cc e)
    go note (Was_read read by) e = absurd (cc (by, ap reads e))

-- A call answers the same where two hosts have the same for its peer.
module _ (h g : Host) (n : ℕ) (same : state_of h n ≡ state_of g n) where
  at-peer : (peer : ℕ) → Some peer ≡ Some n → state_of h peer ≡ state_of g peer
  at-peer peer e = let is : peer ≡ n = cc in ap (state_of h) is ∙ same ∙ ap (state_of g) (sym is)

  told-same : {A : Type 0} (call : Call) (told : A → HostNote) (peer : ℕ) (f : PeerState → Result A CallFault) → Some peer ≡ Some n
      → returned_or_refused call told (if_known (state_of h peer) f) ≡ returned_or_refused call told (if_known (state_of g peer) f)
  told-same call told peer f e = ap (λ (o : Option PeerState). returned_or_refused call told (if_known o f)) (at-peer peer e)

  asked-same : (call : Call) (o : Option (ℕ × Asked)) → peer_asked o ≡ Some n → done_or_refused call (asked_reply o h) ≡ done_or_refused call (asked_reply o g)
  asked-same call None e = absurd (cc e)
  asked-same call (Some (peer, asked)) e = ap (λ (o : Option PeerState). done_or_refused call (if_known o (λ s. as_done (reply_to asked s)))) (at-peer peer e)

  pub same-answer : (call : Call) → peer_of_call call ≡ Some n → answer_to call h ≡ answer_to call g
  same-answer (calls.Take peer pair bytes) e = told-same (calls.Take peer pair bytes) (notes.Took peer pair bytes) peer (λ s. reply_of_take (comes_of pair (Take bytes) s.peer)) e
  same-answer (calls.State peer pair) e = told-same (calls.State peer pair) (notes.State peer pair) peer _ e
  same-answer (calls.Phase peer) e = told-same (calls.Phase peer) (notes.Phase peer) peer (λ s. Ok (flags_of s.peer.phase)) e
  same-answer (calls.Echoed peer) e = told-same (calls.Echoed peer) (notes.Echoed peer) peer (λ s. Ok s.peer.echoes.echoed) e
  same-answer (calls.Errors peer) e = told-same (calls.Errors peer) (notes.Errors peer) peer (λ s. Ok s.peer.echoes.errors) e
  same-answer (calls.Counts peer) e = told-same (calls.Counts peer) (notes.Counts peer) peer (λ s. Ok s.counts) e
  same-answer (calls.Waiting peer place) e = ap (λ (o : Option PeerState). notes.Waiting peer place (waiting_at o place)) (at-peer peer e)
  same-answer (calls.Kept peer link) e = ap (λ (o : Option PeerState). notes.Kept peer link (kept_for o link)) (at-peer peer e)
  same-answer calls.Ignored e = absurd (cc e)
  same-answer call e = asked-same call (asked_in call) e
