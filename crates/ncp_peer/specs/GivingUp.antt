-- A restarted IMP has forgotten the messages in flight, and answers none of them. So the host treats each
-- as not delivered: an Incomplete Transmission (BBN 1822, section 3) is received on each link with an
-- unanswered message, in the order of the links (this profile's rule).
use Rattle.std.specs.Prelude.{◌≡◌, ℕ, if◌then◌else◌, List, [], ◌∷◌}
use Rattle.ncp_wire.specs.declared.answer.Answer.TheVariants.{Incomplete}
use Rattle.ncp_slot.specs.Slot.{answered}
use Rattle.ncp_slot.specs.Slots.{HasSlot, slot_at}
use Rattle.ncp_peer.specs.PeerState.{PeerState, is_answered, answer_comes}
use Rattle.ncp_peer.specs.Output.{links}

-- The state of the peer after it: each message that was in flight is ready to be sent again, and all else
-- is unchanged.
pub record IsGivenUp (before now : PeerState) : Type 0 where
  pub peer : now.peer ≡ before.peer
  pub counts : now.counts ≡ before.counts
  pub slots : (on : ℕ) → HasSlot on → slot_at now.slots on ≡ answered Incomplete (slot_at before.slots on)

-- The same for the state of one peer, used in the contracts of private functions.

abbrev pub gives_up : ℕ → PeerState → PeerState
gives_up on s = if is_answered on s then answer_comes on Incomplete s else s

unfoldable pub gives_up_all : List ℕ → PeerState → PeerState
gives_up_all [] s = s
gives_up_all (on ∷ ons) s = gives_up_all ons (gives_up on s)

abbrev pub restarts : PeerState → PeerState
restarts s = gives_up_all links s
