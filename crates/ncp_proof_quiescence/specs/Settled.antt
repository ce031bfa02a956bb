-- Two hosts of a transcript for which only a call can cause an event, and two that are finished.
use Rattle.std.specs.Prelude.{◌≡◌, ℕ, Bool, true, false, List, [], None}
use Rattle.std.specs.FinMap.{get}
use Rattle.ncp_slot.specs.declared.slot.Slot.TheVariants.{Empty, Held}
use Rattle.ncp_slot.specs.Slots.{HasSlot, LinkSlot, slot_at}
use Rattle.ncp_model.specs.declared.pair.Pair.{Pair}
use Rattle.ncp_model.specs.Pairs.{sends, counterpart}
use Rattle.ncp_model.specs.Ends.{no_ends}
use Rattle.ncp_model.specs.Phase.{up}
use Rattle.ncp_proof_machine.specs.Hosts.{past_of}
use Rattle.ncp_peer.specs.PeerState.{PeerState}
use Rattle.ncp_peer.specs.Output.{next_of}
use Rattle.ncp_transcript_two.specs.Subnet.{TransitByLink, Free}
use Rattle.ncp_transcript_two.specs.World.{World, swap}
use Rattle.ncp_transcript_two.specs.Watch.{Both, turn}
use Rattle.ncp_transcript_two.specs.declared.note.Note.{Note}
use Rattle.ncp_transcript_two.specs.Between.{Hosts}
use Rattle.ncp_transcript_two.specs.Seen.{seen}
use Rattle.ncp_transcript_two.specs.OfRules.{histories_of}
use Rattle.ncp_proof_progress.specs.Finished.{EndQuiescentAt, PairFinished}

abbrev pub is_held : LinkSlot → Bool
is_held (Held message) = true
is_held slot = false

-- The state of a host for its peer, with number `there`, and its messages in transit: none is ready, none
-- is in transit, and none is held until a wake (BBN 1822, section 3).
pub record IsStill (there : ℕ) (s : PeerState) (u : TransitByLink) : Type 0 where
  pub out : next_of there s ≡ None
  pub free : (on : ℕ) → HasSlot on → u on ≡ Free
  pub awake : (on : ℕ) → HasSlot on → is_held (slot_at s.slots on) ≡ false

-- so at either host only a user's request can cause an event
abbrev pub IsSettled : World → Type 0
IsSettled v = IsStill v.there v.this v.going × IsStill v.here v.that v.coming

-- The state of a host for its peer when all is finished: no link has a message, no command is queued, and
-- no flag is set except `down`; if that is set, it has no ends and awaits no echo; and each end is
-- quiescent.
pub record HasNothingLeft (s : PeerState) : Type 0 where
  pub slots : (on : ℕ) → HasSlot on → slot_at s.slots on ≡ Empty
  pub waiting : s.peer.phase.waiting ≡ []
  pub want : s.peer.phase.want ≡ false
  pub owe : s.peer.phase.owe ≡ false
  pub wait : s.peer.phase.wait ≡ false
  pub down : s.peer.phase.down ≡ true → s.peer.ends ≡ no_ends
  pub echo : s.peer.phase.down ≡ true → s.peer.echoes.awaited ≡ false
  pub ends : (pair : Pair) → EndQuiescentAt pair (get s.peer.ends pair)

-- a pair in the direction from this host to that one, with the text given and got, is finished
abbrev pub PairIsFinished : Pair → World → Both → Type 0
PairIsFinished pair v p = PairFinished pair (get v.this.peer.ends pair) (get v.that.peer.ends (counterpart pair)) (past_of p.this pair).given (past_of p.that (counterpart pair)).got

-- Both hosts have nothing left; and if both are up, each pair is finished, in both directions.
pub record AreFinished (v : World) (p : Both) : Type 0 where
  pub this : HasNothingLeft v.this
  pub that : HasNothingLeft v.that
  pub pairs : up v.this.peer.phase ≡ true → up v.that.peer.phase ≡ true → (pair : Pair) → sends pair ≡ true → PairIsFinished pair v p × PairIsFinished pair (swap v) (turn p)

-- if it is settled, it is finished
abbrev pub EndsFinished : List Note → Hosts → Type 0
EndsFinished notes w = IsSettled (seen w) → AreFinished (seen w) (histories_of notes w)
