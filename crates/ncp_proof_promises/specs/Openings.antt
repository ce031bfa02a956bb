-- From sending a text to its RFNM, no pair whose texts that host sends on that link opens, at either
-- host. A text is unacknowledged on a link of a host while the slot of the link is not empty.
use Rattle.std.specs.Prelude.{◌≡◌, ℕ, ◌==◌, true, false, List, [], ◌∷◌}
use Rattle.std.specs.FinMap.{get}
use Rattle.ncp_wire.specs.declared.command.Command.{Command}
use Rattle.ncp_slot.specs.Slot.{is_empty}
use Rattle.ncp_slot.specs.Slots.{slot_at}
use Rattle.ncp_model.specs.declared.pair.Pair.{Pair}
use Rattle.ncp_model.specs.Ends.{hears_link, uses_link}
use Rattle.ncp_model.specs.Demux.{passes}
use Rattle.ncp_model.specs.Peers.{Peer}
use Rattle.ncp_proof_endpoint.specs.Histories.{opens}
use Rattle.ncp_peer.specs.PeerState.{PeerState, control_link}
use Rattle.ncp_peer.specs.Hearing.{state_hears, state_hears_all}
use Rattle.ncp_transcript_two.specs.World.{World, NoteBody, Called, Out, In, Answered}
use Rattle.ncp_transcript_two.specs.Underway.{commands_of}

-- the pair opens at a host: it becomes live
abbrev pub Opens : Pair → Peer → Peer → Type 0
Opens pair before after = opens (get before.ends pair) (get after.ends pair) ≡ true

-- If a pair opens at a host on a data link, no text on it is unacknowledged: none of this host if it
-- sends the pair's texts on that link, and none of the other if the texts come from there.
abbrev pub OpensOnFreeLinks : PeerState → PeerState → Peer → Peer → Type 0
OpensOnFreeLinks own other before after = (pair : Pair) (on : ℕ) → (on == control_link) ≡ false → Opens pair before after
    → (passes (hears_link on) pair (get after.ends pair) ≡ true → is_empty (slot_at own.slots on) ≡ true)
    × (passes (uses_link on) pair (get after.ends pair) ≡ true → is_empty (slot_at other.slots on) ≡ true)

-- the same for each command of a message, even if a later one ends what it opens
abbrev pub EachOpensOnFreeLinks : List Command → PeerState → PeerState → Type 0
EachOpensOnFreeLinks [] own other = Unit {0}
EachOpensOnFreeLinks (c ∷ cs) own other = OpensOnFreeLinks own other own.peer (state_hears c own).peer × EachOpensOnFreeLinks cs (state_hears c own) other

abbrev pub OpensNothing : Peer → Peer → Type 0
OpensNothing before after = (pair : Pair) → opens (get before.ends pair) (get after.ends pair) ≡ false

-- a call and a command open pairs on free links only, and no other note opens any
abbrev pub OpensUnderNoText : NoteBody → World → World → Type 0
OpensUnderNoText (Called asked reply) v after = OpensOnFreeLinks v.this v.that v.this.peer after.this.peer × (after.that ≡ v.that)
OpensUnderNoText (Out message) v after = OpensNothing v.this.peer after.this.peer × (after.that ≡ v.that)
OpensUnderNoText (In on message told) v after =
    ((on == control_link) ≡ true → (after.that ≡ state_hears_all (commands_of message) v.that) × EachOpensOnFreeLinks (commands_of message) v.that v.this)
    × ((on == control_link) ≡ false → OpensNothing v.that.peer after.that.peer) × (after.this ≡ v.this)
OpensUnderNoText (Answered on how told) v after = OpensNothing v.this.peer after.this.peer × (after.that ≡ v.that)
OpensUnderNoText told v after = (after.this ≡ v.this) × (after.that ≡ v.that)
