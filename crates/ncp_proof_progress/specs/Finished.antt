-- Two hosts that are finished: no step moves a message, and all that remains waits for a user.
use Rattle.std.specs.Prelude.{◌≡◌, ◌<◌, true, false, ◌++◌, List, length, Bool, Option, None, Some}
use Rattle.std.specs.FinMap.{get}
use Rattle.ncp_model.specs.declared.pair.Pair.{Pair}
use Rattle.ncp_model.specs.Pairs.{sends, counterpart}
use Rattle.ncp_model.specs.Endpoint.{Endpoint, is_open}
use Rattle.ncp_model.specs.Ends.{no_ends}
use Rattle.ncp_model.specs.Texts.{can_send}
use Rattle.ncp_proof_machine.specs.Resets.{is_up}
use Rattle.ncp_proof_machine.specs.Hosts.{Node, TwoNodes, nodes_swapped, past_of}
use Rattle.ncp_proof_progress.specs.Idle.{IsIdle}

-- a quiescent end: no text of it is unacknowledged; a sender has no CLS pending; the pending CLS of a
-- receiver waits for its user, who has yet to take the text it holds
abbrev pub EndQuiescent : Pair → Endpoint → Type 0
EndQuiescent pair e = record {
  busy : e.busy ≡ false;
  sender : sends pair ≡ true → e.leaving ≡ false;
  receiver : e.leaving ≡ true → (e.cls ≡ true) × (0 < length e.stored);
}

abbrev pub EndQuiescentAt : Pair → Option Endpoint → Type 0
EndQuiescentAt pair None = Unit {0}
EndQuiescentAt pair (Some e) = EndQuiescent pair e

-- a quiescent host: no link has a message, no command is queued, no text may be sent, and no flag is set
-- except `down`; if that is set, it has no ends and awaits no echo; and each end is quiescent
abbrev pub IsAtRest : Node → Type 0
IsAtRest n = record {
  idle : IsIdle n;
  wait : n.host.phase.wait ≡ false;
  down : n.host.phase.down ≡ true → n.ends ≡ no_ends;
  echo : n.host.phase.down ≡ true → n.echoes.awaited ≡ false;
  ends : (pair : Pair) → EndQuiescentAt pair (get n.ends pair);
}

-- the local request was made, or the peer's was received, and nothing else

abbrev pub AskedAlone : Endpoint → Type 0
AskedAlone e = record {
  asked : e.asked ≡ true;
  heard : e.heard ≡ false;
  opened : e.opened ≡ false;
  leaving : e.leaving ≡ false;
  left : e.left ≡ false;
  cls : e.cls ≡ false;
}

abbrev pub HeardAlone : Endpoint → Type 0
HeardAlone e = record {
  asked : e.asked ≡ false;
  heard : e.heard ≡ true;
  opened : e.opened ≡ false;
  leaving : e.leaving ≡ false;
  left : e.left ≡ false;
  cls : e.cls ≡ false;
}

-- Both ends are open and agree on the link, the size and the allocation. All text given was got, except
-- the stored text, which cannot be sent: it lacks allocation or a whole byte.
abbrev pub OpenAndAgreed : Pair → Endpoint → Endpoint → List Bool → List Bool → Type 0
OpenAndAgreed pair s r given got = record {
  sender : is_open s ≡ true;
  receiver : is_open r ≡ true;
  link : s.link ≡ r.link;
  size : r.size ≡ s.size;
  messages : r.messages ≡ s.messages;
  bits : r.bits ≡ s.bits;
  text : given ≡ got ++ s.stored;
  waits : can_send pair s ≡ false;
}

-- The sender's end and the receiver's of a pair, with the text given and got. Each of the five states
-- waits for a user: a request for that of the other user; two open ends for text or an allocation; and
-- text held after its sender left, for its user to take it.
pub data PairFinished (pair : Pair) (s r : Option Endpoint) (given got : List Bool) : Type 0 where
  Nobody : s ≡ None → r ≡ None → PairFinished pair s r given got
  Sender_asked : (e f : Endpoint) → s ≡ Some e → r ≡ Some f → AskedAlone e → HeardAlone f → f.size ≡ e.size → PairFinished pair s r given got
  Receiver_asked : (e f : Endpoint) → s ≡ Some e → r ≡ Some f → HeardAlone e → AskedAlone f → e.link ≡ f.link → PairFinished pair s r given got
  Both_open : (e f : Endpoint) → s ≡ Some e → r ≡ Some f → OpenAndAgreed pair e f given got → PairFinished pair s r given got
  Receiver_holds : (e f : Endpoint) → s ≡ Some e → r ≡ Some f → (e.left ≡ true) × (e.cls ≡ false) × (e.leaving ≡ false) → (f.leaving ≡ true) × (f.cls ≡ true) × (0 < length f.stored) → PairFinished pair s r given got

-- for the direction from this host to that one
abbrev pub PairIsFinishedInModel : Pair → TwoNodes → Type 0
PairIsFinishedInModel pair w = PairFinished pair (get w.this.ends pair) (get w.that.ends (counterpart pair)) (past_of w.this.pasts pair).given (past_of w.that.pasts (counterpart pair)).got

-- Both hosts are quiescent; and if both are up, each pair is finished, in both directions. A host that
-- went down has nothing; what its peer still has of the connections waits for a reset.
abbrev pub IsFinished : TwoNodes → Type 0
IsFinished w = record {
  this : IsAtRest w.this;
  that : IsAtRest w.that;
  pairs : is_up w.this.host ≡ true → is_up w.that.host ≡ true → (pair : Pair) → sends pair ≡ true → PairIsFinishedInModel pair w × PairIsFinishedInModel pair (nodes_swapped w);
}
