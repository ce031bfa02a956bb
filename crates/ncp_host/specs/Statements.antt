-- Statements about one host, as types. Each is a theorem: src/laws.rt has it as an `ensures` clause of a
-- function with an empty body. For each peer a host has a slot for link 0 (control) and one for each of
-- links 2 to 71. A slot holds the one message of its link that no RFNM has acknowledged: `Ready` (to be
-- sent again, as after an Incomplete Transmission), travelling (in flight), or held until the user wakes
-- it. A link is ready if its slot is `Ready`, or is empty and there is something new to send.
use Rattle.std.specs.Prelude.{◌≡◌, ◌≢◌, ◌⊎◌, ◌<◌, ◌≤◌, ◌+◌, ◌^◌, ℕ, Bool, true, List, ◌∷◌, length, None, Some, Ok, Err}
use Rattle.ncp_leader.specs.declared.leader.Leader.{Leader}
use Rattle.ncp_leader.specs.declared.leader.Short.{Short}
use Rattle.ncp_wire.specs.declared.command.Command.{Command}
use Rattle.ncp_slot.specs.declared.slot.Slot.{Slot}
use Rattle.ncp_slot.specs.Slots.{HasSlot, slot_at}
use Rattle.ncp_model.specs.declared.call_fault.CallFault.{CallFault}
use Rattle.ncp_model.specs.declared.limits.TheConstants.{MAX_MESSAGES}
use Rattle.ncp_model.specs.declared.pair.Pair.{Pair}
use Rattle.ncp_model.specs.Endpoint.{Endpoint}
use Rattle.ncp_model.specs.Effect.{answer}
use Rattle.ncp_model.specs.Calls.{give_end, allocate_end}
use Rattle.ncp_model.specs.Peers.{Peer}
use Rattle.ncp_conn.specs.declared.record.Record.{Record}
use Rattle.ncp_peer.specs.PeerState.{PeerState}
use Rattle.ncp_host.specs.Host.{Host, state_of}
use Rattle.ncp_host.specs.Calls.{record_told}
use Rattle.ncp_host.specs.Listing.{connection_returned}
use Rattle.ncp_host.specs.Arrivals.{OnlyNamedPeerChanges}
use Rattle.ncp_peer.specs.GivingUp.{IsGivenUp}
use Rattle.ncp_host.specs.Restarting.{after_restart}
use Rattle.ncp_host.specs.Saved.{saved, HaveTheirLinks}
use Rattle.ncp_peer.specs.Readiness.{is_ready_by, is_link_ready, NoLinkReady, IsFirstLink, IsNext}

-- if a command is queued for a peer (`waiting`) and the slot of link 0 is empty, link 0 is ready
abbrev pub WaitingIsReady : Type 0
WaitingIsReady = (p : Peer) (c : Command) (cs : List Command) → p.phase.waiting ≡ c ∷ cs → is_ready_by Slot.Empty 0 p ≡ true

-- if a link that has a slot is ready for the first peer in the list, it cannot be that nothing is sent
-- next
abbrev pub ReadyFirstGoesOut : Type 0
ReadyFirstGoesOut =
    (on : ℕ) (p : ℕ × PeerState) (ps : List (ℕ × PeerState))
    → HasSlot on → is_link_ready on p.1 ≡ true → IsNext None (p ∷ ps) → ⊥

-- the same for the second peer in the list; nothing is stated here of later ones
abbrev pub ReadyAfterGoesOut : Type 0
ReadyAfterGoesOut =
    (on : ℕ) (p q : ℕ × PeerState) (ps : List (ℕ × PeerState))
    → HasSlot on → is_link_ready on q.1 ≡ true → IsNext None (p ∷ q ∷ ps) → ⊥

-- if the slot of link 0 of the first peer is `Ready`, its message may be sent next
abbrev pub AgainMayGoOut : Type 0
AgainMayGoOut =
    (p : ℕ × PeerState) (ps : List (ℕ × PeerState)) (again : List Bool)
    → slot_at p.1.slots 0 ≡ Slot.Ready again → IsNext (Some again) (p ∷ ps)

-- if the slot of link 0 of the first peer is `Ready`, no other message may be sent next. Nor can it be
-- that nothing is sent: link 0 is ready (`ReadyFirstGoesOut`).
abbrev pub AgainAloneGoesOut : Type 0
AgainAloneGoesOut =
    (p : ℕ × PeerState) (ps : List (ℕ × PeerState)) (again message : List Bool)
    → slot_at p.1.slots 0 ≡ Slot.Ready again → IsNext (Some message) (p ∷ ps) → message ≡ again

-- if no link of the first peer is ready and the slot of link 0 of the second is `Ready`, no message may
-- be sent next except the one in that slot
abbrev pub AgainAfterGoesOut : Type 0
AgainAfterGoesOut =
    (p q : ℕ × PeerState) (ps : List (ℕ × PeerState)) (again message : List Bool)
    → NoLinkReady p.1 → slot_at q.1.slots 0 ≡ Slot.Ready again → IsNext (Some message) (p ∷ q ∷ ps) → message ≡ again

-- `IsFirstLink` is the first ready link of a peer: no lower link that has a slot is ready
abbrev pub NoLowerIsReady : Type 0
NoLowerIsReady =
    (lower on : ℕ) (s : PeerState)
    → lower < on → HasSlot lower → is_link_ready lower s ≡ true → IsFirstLink on s → ⊥

-- A host before and after it receives bits, as the contract of `Host::receive` relates the two
-- (`OnlyNamedPeerChanges`): if the bits begin with this leader, the state of every other peer than the
-- one named in it is unchanged.
abbrev pub OtherPeersStay : Type 0
OtherPeersStay =
    (leader : Leader) (before now : Host) (other : ℕ)
    → other ≢ leader.host → OnlyNamedPeerChanges (Ok leader) before now → state_of now other ≡ state_of before other

-- related in this way, if the bits begin with a leader: the three counts of messages that belong to no
-- peer (`ignored`) are unchanged, or all peers are, or both
abbrev pub CountsOrPeersStay : Type 0
CountsOrPeersStay =
    (leader : Leader) (before now : Host)
    → OnlyNamedPeerChanges (Ok leader) before now → (now.ignored ≡ before.ignored) ⊎ (now.peers ≡ before.peers)

-- related in this way, if the bits are too few for a leader: all peers are unchanged
abbrev pub ShortLeavesPeers : Type 0
ShortLeavesPeers = (short : Short) (before now : Host) → OnlyNamedPeerChanges (Err short) before now → now.peers ≡ before.peers

-- After a restart of the IMP, as the host handles it for one of its peers (whose number fits eight bits),
-- it still has that peer. Each message to the peer that was in flight is `Ready`; all else of the peer is
-- unchanged.
abbrev pub RestartGivesUp : Type 0
RestartGivesUp =
    (number : ℕ) (h : Host) (s : PeerState)
    → number < 2 ^ 8 → state_of h number ≡ Some s
    → (now : PeerState) × (state_of (after_restart number h) number ≡ Some now) × IsGivenUp s now

-- A user reads the connections with a peer by index (`connection_returned`, the list), or one by its pair
-- of sockets (`record_told`). If the list has a pair with a record at an index, reading that pair returns
-- this record.
abbrev pub ListedIsReturned : Type 0
ListedIsReturned =
    (number place : ℕ) (pair : Pair) (r : Record) (h : Host)
    → connection_returned number place h ≡ Ok (Some (pair, r)) → record_told number pair h ≡ Ok r

-- conversely, if reading a pair returns a record, the list has the pair with this record at some index
abbrev pub ReturnedIsListed : Type 0
ReturnedIsListed =
    (number : ℕ) (pair : Pair) (r : Record) (h : Host)
    → record_told number pair h ≡ Ok r → (place : ℕ) × (connection_returned number place h ≡ Ok (Some (pair, r)))

-- the list has a pair at no more than one index
abbrev pub IsListedOnce : Type 0
IsListedOnce =
    (number here there : ℕ) (pair : Pair) (r s : Record) (h : Host)
    → connection_returned number here h ≡ Ok (Some (pair, r)) → connection_returned number there h ≡ Ok (Some (pair, s)) → here ≡ there

-- the list has no gap: if it has no connection at an index, it has none at any later one
abbrev pub NoneIsListedAfter : Type 0
NoneIsListedAfter =
    (number place more : ℕ) (h : Host)
    → connection_returned number place h ≡ Ok None → place ≤ more → connection_returned number more h ≡ Ok None

-- if an endpoint accepts text from its user, its stored bits and those of the text together are at most
-- its room, the most bits that it may store
abbrev pub GivenFits : Type 0
GivenFits =
    (pair : Pair) (text : List Bool) (e : Endpoint)
    → answer (give_end pair text e) ≡ Ok tt → length e.stored + length text ≤ e.room

-- if an endpoint refuses text with `NoRoom`, its stored bits and those of the text together are more than
-- its room
abbrev pub NotGivenIsOver : Type 0
NotGivenIsOver =
    (pair : Pair) (text : List Bool) (e : Endpoint)
    → answer (give_end pair text e) ≡ Err CallFault.NoRoom → e.room < length e.stored + length text

-- If an endpoint accepts an allocation by its user (it makes an ALL), the bits outstanding, stored and
-- added together are at most its room, and the messages outstanding and added at most `MAX_MESSAGES`.
-- `full`: the queue has no room for the command of a call.
abbrev pub AllowedFits : Type 0
AllowedFits =
    (pair : Pair) (messages bits : ℕ) (full : Bool) (e : Endpoint) (c : Command)
    → answer (allocate_end pair messages bits full e) ≡ Ok c
    → (e.bits + length e.stored + bits ≤ e.room) × (e.messages + messages ≤ MAX_MESSAGES)

-- if an endpoint refuses an allocation with `TooMuch`, the bits outstanding, stored and added together
-- are more than its room, or the messages outstanding and added more than `MAX_MESSAGES`, or both
abbrev pub NotAllowedIsOver : Type 0
NotAllowedIsOver =
    (pair : Pair) (messages bits : ℕ) (full : Bool) (e : Endpoint)
    → answer (allocate_end pair messages bits full e) ≡ Err CallFault.TooMuch
    → (e.room < e.bits + length e.stored + bits) ⊎ (MAX_MESSAGES < e.messages + messages)

-- two hosts with the same saved bytes are equal, if each peer of both has slots for exactly the links 0
-- and 2 to 71
abbrev pub SavedDistinguishes : Type 0
SavedDistinguishes =
    (one other : Host)
    → HaveTheirLinks one.peers → HaveTheirLinks other.peers → saved one ≡ saved other → one ≡ other
