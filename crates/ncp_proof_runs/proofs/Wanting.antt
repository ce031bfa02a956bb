-- Want of memory is answered to requests alone.
use Rattle.std.proofs.Common.{◌≡◌, ℕ, Bool, true, false, ◌&&◌, if◌then◌else◌, List, [], ◌∷◌, ◌++◌, take, drop, Option, None, Some, Result, Ok, Err, inl, inr, refl, sym, ap, ◌∙◌}
use Rattle.std.specs.FinMap.{get}
use Rattle.ncp_wire.specs.declared.command.Command.{Command}
use Rattle.ncp_model.specs.declared.pair.Pair.{Pair}
use Rattle.ncp_model.specs.declared.call_fault.CallFault.{CallFault}
use Rattle.ncp_model.specs.declared.call_fault.CallFault.TheVariants.{UnknownPeer, NoEntry, NotUp, Busy, QueueFull, OutOfMemory}
use Rattle.ncp_model.specs.Pairs.{sends}
use Rattle.ncp_model.specs.Endpoint.{Endpoint}
use Rattle.ncp_model.specs.Effect.{Effect, Becomes, answer, leaves, closing}
use Rattle.ncp_model.specs.Calls.{refuse, ◌>>◌, unless_refused, may_close, may_take, bits_to_take, emptied}
use Rattle.ncp_model.specs.Echo.{echo_answer}
use Rattle.ncp_model.specs.Ends.{Ends}
use Rattle.ncp_model.specs.EndpointEvents.{happens, Outcome, Refused, outcome_of_call, of_take}
use Rattle.ncp_model.specs.Phase.{up, is_resetting, reset_answer}
use Rattle.ncp_model.specs.Sending.{is_full}
use Rattle.ncp_model.specs.Peers.{Peer, called, Ask_to_send, Ask_to_receive, Close, Take, happened_at, comes_of, reply, reply_of_take, call_accepted, reply_of_echo, PairCall}
use Rattle.ncp_peer.specs.PeerState.{PeerState}
use Rattle.ncp_host.specs.Host.{Host, state_of, new_host, if_known}
use Rattle.ncp_transcript.specs.declared.call.Call.{Call}
use Rattle.ncp_transcript.specs.declared.note.HostNote.{HostNote}
use Rattle.ncp_transcript.specs.Asked.{Asked, Asks, Asks_echo, Asks_reset, Asks_wake, reply_to, as_done}
use Rattle.ncp_transcript.specs.Noting.{CallNoted}
use Rattle.ncp_transcript.proofs.AskedCalls.{reads, WhyNot, Not_done, Not_read, No_memory, CallOutcome, Was_done, Was_taken, Was_refused, Was_read, outcome-noted}
use Rattle.ncp_transcript.specs.Answers.{takes_memory}
use Rattle.ncp_transcript.specs.After.{after_notes}
use Rattle.ncp_transcript.specs.Runs.{IsHostSaid}
use Rattle.ncp_proof_runs.specs.Peers.{FromBeginning}
use Rattle.ncp_proof_runs.proofs.InRuns.{before_note}

-- A call's reasons to be refused, one after the other: none is want of memory; nor is what follows where none holds.

abbrev is_memory : CallFault → Bool
is_memory OutOfMemory = true
is_memory fault = false

Spared : {A : Type 0} → Result A CallFault → Type 0
Spared r = r ≡ Err OutOfMemory → ⊥

one : (fault : CallFault) (holds : Bool) → is_memory fault ≡ false → Spared (refuse fault holds)
unfolding Spared
one fault false none e = absurd (cc)
one fault true none e = let same : fault ≡ OutOfMemory = cc in let never : true ≡ false = sym (ap is_memory same) ∙ none in absurd (cc)

more : (first next : Result (Unit {0}) CallFault) → Spared first → Spared next → Spared (first >> next)
unfolding Spared
more (Ok it) next a b e = b e
more (Err fault) next a b e = a e

acting : {A : Type 0} (of : Result A CallFault → Outcome) (reasons : Result (Unit {0}) CallFault) (act : Effect (Result A CallFault)) → of (answer (unless_refused reasons act)) ≡ Refused OutOfMemory
    → ((f : CallFault) → of (Err f) ≡ Refused f) → Spared reasons → (of (answer act) ≡ Refused OutOfMemory → ⊥) → ⊥
unfolding Spared
acting of (Ok it) act e is spared last = last e
acting of (Err fault) act e is spared last = let f : Refused fault ≡ Refused OutOfMemory = sym (is fault) ∙ e in let same : fault ≡ OutOfMemory = cc in spared (ap Err same)

-- a call that is done where no reason holds
doing : {A : Type 0} (reasons : Result (Unit {0}) CallFault) (x : Endpoint) (it : A) → outcome_of_call (answer (unless_refused reasons (Becomes x (Ok it)))) ≡ Refused OutOfMemory → Spared reasons → ⊥
unfolding Spared
doing (Ok u) x it e spared = absurd (cc)
doing (Err fault) x it e spared = let same : fault ≡ OutOfMemory = cc in spared (ap Err same)

closes-unwanted : (pair : Pair) (x : Endpoint) (b : Bool)
    → outcome_of_call (answer (if b then Becomes (record x { leaving = true; stored = [] }) (Ok None) else Becomes (leaves x) (Ok (Some (closing pair))))) ≡ Refused OutOfMemory → ⊥
closes-unwanted pair x true e = absurd (cc)
closes-unwanted pair x false e = absurd (cc)

bits-unwanted : (pair : Pair) (count : ℕ) (x : Endpoint) (b : Bool)
    → of_take (answer (if b then Becomes (leaves x) (Ok (take count x.stored, Some (closing pair))) else Becomes (record x { stored = drop count x.stored }) (Ok (take count x.stored, None)))) ≡ Refused OutOfMemory → ⊥
bits-unwanted pair count x true e = absurd (cc)
bits-unwanted pair count x false e = absurd (cc)

-- each call on an end
pair-unwanted : (pair : Pair) (call : PairCall) (full : Bool) (m : Ends) (before : Option Endpoint) → (happens pair (called call full m) before).outcome ≡ Refused OutOfMemory → ⊥
pair-unwanted pair (Ask_to_send size room) full m before e = doing _ _ _ e (search (one, more) depth 12)
pair-unwanted pair (Ask_to_receive room) full m before e = doing _ _ _ e (search (one, more) depth 12)
pair-unwanted pair call full m None e = absurd (cc)
pair-unwanted pair Close full m (Some x) e = acting outcome_of_call (may_close pair full x) _ e (λ f. refl) (search (one, more)) (closes-unwanted pair x (sends pair && x.busy))
pair-unwanted pair (Take bytes) full m (Some x) e = acting of_take (may_take pair x) _ e (λ f. refl) (search (one, more)) (bits-unwanted pair (bits_to_take bytes x) x (x.leaving && emptied x (bits_to_take bytes x)))
pair-unwanted pair call full m (Some x) e = doing _ _ _ e (search (one, more))

-- What a host replies.

reply-refused : (o : Outcome) → reply o ≡ Err OutOfMemory → o ≡ Refused OutOfMemory
reply-refused (Refused fault) e = let same : fault ≡ OutOfMemory = cc in ap Refused same
reply-refused o e = absurd (cc)

taking-refused : (o : Outcome) → call_accepted (reply_of_take o) ≡ Err OutOfMemory → o ≡ Refused OutOfMemory
taking-refused (Refused fault) e = let same : fault ≡ OutOfMemory = cc in ap Refused same
taking-refused o e = absurd (cc)

comes-unwanted : (pair : Pair) (call : PairCall) (p : Peer) → comes_of pair call p ≡ Refused OutOfMemory → ⊥
comes-unwanted pair call p e = go (up p.phase) e
  where
    go : (b : Bool) → (if b then (happened_at pair call p).outcome else Refused NotUp) ≡ Refused OutOfMemory → ⊥
    go true e = pair-unwanted pair call (is_full p.phase) p.ends (get p.ends pair) e
    go false e = absurd (cc)

echo-unwanted : (byte : ℕ) (p : Peer) → reply_of_echo byte p ≡ Err OutOfMemory → ⊥
echo-unwanted byte p e = go (up p.phase) e
  where
    inner : (a b : Bool) → call_accepted (if a then Err Busy else if b then Err QueueFull else Ok (Command.Eco byte)) ≡ Err OutOfMemory → ⊥
    inner true b e = absurd (cc)
    inner false true e = absurd (cc)
    inner false false e = absurd (cc)

    go : (b : Bool) → (if b then call_accepted (echo_answer byte (is_full p.phase) p.echoes) else Err NotUp) ≡ Err OutOfMemory → ⊥
    go true e = inner p.echoes.awaited (is_full p.phase) e
    go false e = absurd (cc)

reset-unwanted : (p : Peer) → reset_answer p.phase ≡ Err OutOfMemory → ⊥
reset-unwanted p e = go (is_resetting p.phase) e
  where
    go : (b : Bool) → (let r : Result (Unit {0}) CallFault = if b then Err Busy else Ok tt in r) ≡ Err OutOfMemory → ⊥
    go true e = absurd (cc)
    go false e = absurd (cc)

asked-unwanted : (asked : Asked) (s : PeerState) → as_done (reply_to asked s) ≡ Err OutOfMemory → ⊥
asked-unwanted (Asks pair (Take bytes)) s e = comes-unwanted pair (Take bytes) s.peer (taking-refused (comes_of pair (Take bytes) s.peer) e)
asked-unwanted (Asks pair call) s e = comes-unwanted pair call s.peer (reply-refused (comes_of pair call s.peer) e)
asked-unwanted (Asks_echo byte) s e = echo-unwanted byte s.peer e
asked-unwanted Asks_reset s e = reset-unwanted s.peer e
asked-unwanted Asks_wake s e = absurd (cc)

known-unwanted : (asked : Asked) (o : Option PeerState) → if_known o (λ s. as_done (reply_to asked s)) ≡ Err OutOfMemory → ⊥
known-unwanted asked None e = absurd (cc)
known-unwanted asked (Some s) e = asked-unwanted asked s e

-- What a note says of a call.

want-known : (call : Call) (h : Host) (fault : CallFault) → WhyNot call h fault → fault ≡ OutOfMemory → takes_memory call ≡ true
want-known call h fault (Not_done (peer, asked) by says) e = absurd (known-unwanted asked (state_of h peer) (says ∙ ap Err e))
want-known call h fault (Not_read none (inl unknown)) e = let no : UnknownPeer ≡ OutOfMemory = sym unknown ∙ e in absurd (cc)
want-known call h fault (Not_read none (inr no_entry)) e = let no : NoEntry ≡ OutOfMemory = sym no_entry ∙ e in absurd (cc)
want-known call h fault (No_memory want) e = want.takes

want-noted : (call : Call) (h : Host) (note : HostNote) → CallOutcome call h note → note ≡ HostNote.Refused call OutOfMemory → takes_memory call ≡ true
want-noted call h note (Was_done peer asked s at says by) e = absurd (cc)
want-noted call h note (Was_taken peer pair bytes text s at says by) e = absurd (cc)
want-noted call h note (Was_refused fault why) e = want-known call h fault why (cc)
want-noted call h note (Was_read told read) e = let no : None ≡ Some call = sym (ap reads e) ∙ read in absurd (cc)

pub want-said : (me : ℕ) (ns : List ℕ) (before after : List HostNote) (call : Call) → FromBeginning me ns (before ++ HostNote.Refused call OutOfMemory ∷ after) → takes_memory call ≡ true
want-said me ns before after call from = want-noted call h (HostNote.Refused call OutOfMemory) (outcome-noted call (HostNote.Refused call OutOfMemory) h (by (before_note me ns before after (HostNote.Refused call OutOfMemory) from).said)) refl
  where
    h : Host
    h = after_notes before (new_host me ns)

    by : IsHostSaid (HostNote.Refused call OutOfMemory) h → CallNoted call (HostNote.Refused call OutOfMemory) h
    by (inl e) = inl (sym e)
    by (inr want) = inr want
