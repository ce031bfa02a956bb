-- A GVB is answered (NIC 8246, GVB and RET): if only a call can happen next, and both hosts are up, no
-- receiver awaits a RET unless an endpoint of its connection is closing.
use Rattle.std.specs.Prelude.{◌≡◌, true, false, List, Option, Some}
use Rattle.std.specs.FinMap.{get}
use Rattle.ncp_model.specs.declared.pair.Pair.{Pair}
use Rattle.ncp_model.specs.Pairs.{sends, counterpart}
use Rattle.ncp_model.specs.Endpoint.{Endpoint, is_closing}
use Rattle.ncp_model.specs.Phase.{up}
use Rattle.ncp_proof_machine.specs.Resets.{is_up}
use Rattle.ncp_proof_machine.specs.Hosts.{TwoNodes, nodes_swapped}
use Rattle.ncp_transcript_two.specs.World.{World, swap}
use Rattle.ncp_transcript_two.specs.declared.note.Note.{Note}
use Rattle.ncp_transcript_two.specs.Between.{Hosts}
use Rattle.ncp_transcript_two.specs.Seen.{seen}
use Rattle.ncp_proof_quiescence.specs.Settled.{IsSettled}

-- the sender's endpoint and the receiver's: a receiver's GVB is unanswered while `recall` is set. A
-- closing endpoint takes a GVB as late, and no RET follows: this profile's rule.
abbrev pub NoneIsCalledBack : Option Endpoint → Option Endpoint → Type 0
NoneIsCalledBack s r = (e f : Endpoint) → s ≡ Some e → r ≡ Some f → is_closing e ≡ false → is_closing f ≡ false → f.recall ≡ false

-- of each pair, from this host to that one
abbrev pub NoneCallsBack : TwoNodes → Type 0
NoneCallsBack w = (pair : Pair) → sends pair ≡ true → NoneIsCalledBack (get w.this.ends pair) (get w.that.ends (counterpart pair))

-- in both directions, between two hosts of the model that are up
abbrev pub AllReturned : TwoNodes → Type 0
AllReturned w = is_up w.this.host ≡ true → is_up w.that.host ≡ true → NoneCallsBack w × NoneCallsBack (nodes_swapped w)

-- and for a transcript
abbrev pub NoneCallsBackThen : World → Type 0
NoneCallsBackThen v = (pair : Pair) → sends pair ≡ true → NoneIsCalledBack (get v.this.peer.ends pair) (get v.that.peer.ends (counterpart pair))

abbrev pub AllReturnedThen : World → Type 0
AllReturnedThen v = up v.this.peer.phase ≡ true → up v.that.peer.phase ≡ true → NoneCallsBackThen v × NoneCallsBackThen (swap v)

abbrev pub GvbsAreAnswered : List Note → Hosts → Type 0
GvbsAreAnswered ns w = IsSettled (seen w) → AllReturnedThen (seen w)
