-- Refinement of the model's world by the world of bits: the hosts are equal except for the histories, and
-- each message is the encoding of the commands or the text that the model has in its place.
use Rattle.std.specs.Prelude.{◌≡◌, ◌<◌, ◌≤◌, ℕ, ◌==◌, ◌%◌, ◌^◌, Bool, false, List, [], ◌∷◌, length, All, Option, None, Some}
use Rattle.std.specs.FinMap.{get}
use Rattle.ncp_numbers.specs.Bytes.{bits_of_bytes}
use Rattle.ncp_leader.specs.declared.regular.TheConstants.{MAX_TEXT_BITS}
use Rattle.ncp_wire.specs.declared.command.Command.{Command}
use Rattle.ncp_wire.specs.Spelling.{spellings, IsCommand}
use Rattle.ncp_slot.specs.declared.slot.Slot.TheVariants as slots
use Rattle.ncp_slot.specs.Slots.{LinkSlot, slot_at}
use Rattle.ncp_model.specs.declared.pair.Pair.{Pair}
use Rattle.ncp_model.specs.declared.limits.TheConstants.{MAX_CONTROL}
use Rattle.ncp_model.specs.Endpoint.{Endpoint}
use Rattle.ncp_proof_machine.specs.Delivery.{Link, Empty, Ready, Travelling, Held, Free, Accepted, Delivered, Lost, Dead}
use Rattle.ncp_proof_machine.specs.Resets.{Party}
use Rattle.ncp_model.specs.Peers.{Peer, PairCall, Ask_to_send, Allocate, Call_back}
use Rattle.ncp_proof_machine.specs.Hosts.{TextOut, Node, peer_of}
use Rattle.ncp_proof_machine.specs.Hosts as hosts
use Rattle.ncp_peer.specs.PeerState.{PeerState, new_state, control_link}
use Rattle.ncp_peer.specs.Hearing.{control_size, is_wrong_link}
use Rattle.ncp_peer.specs.Output.{message_to}
use Rattle.ncp_transcript_two.specs.Subnet.{Holds, TransitByLink}
use Rattle.ncp_transcript_two.specs.Subnet as bits
use Rattle.ncp_transcript.specs.Asked.{Asked, Asks, Asks_echo, Asks_reset, Asks_wake}
use Rattle.ncp_transcript_two.specs.World.{World}
use Rattle.ncp_transcript_two.specs.World as worlds

-- The state of the message of a link.
pub data MessageState (M : Type 0) : Type 0 where
  Nowhere : MessageState M
  Waits : (m : M) → MessageState M  -- at its host, to be sent again
  Goes : (m : M) → MessageState M  -- in the subnet
  Came : (m : M) → MessageState M
  Failed : (m : M) → MessageState M
  Died : (m : M) → MessageState M  -- its destination was found dead
  Kept : (m : M) → MessageState M  -- at its host, until the user asks for it

abbrev pub model_of : {M : Type 0} → MessageState M → Link M
model_of Nowhere = record { slot = Empty; subnet = Free }
model_of (Waits m) = record { slot = Ready m; subnet = Free }
model_of (Goes m) = record { slot = Travelling m; subnet = Accepted m }
model_of (Came m) = record { slot = Travelling m; subnet = Delivered }
model_of (Failed m) = record { slot = Travelling m; subnet = Lost }
model_of (Died m) = record { slot = Travelling m; subnet = Dead }
model_of (Kept m) = record { slot = Held m; subnet = Free }

abbrev pub slot_of : {M : Type 0} → (M → List Bool) → MessageState M → LinkSlot
slot_of write Nowhere = slots.Empty
slot_of write (Waits m) = slots.Ready (write m)
slot_of write (Goes m) = slots.Travelling (write m)
slot_of write (Came m) = slots.Travelling (write m)
slot_of write (Failed m) = slots.Travelling (write m)
slot_of write (Died m) = slots.Travelling (write m)
slot_of write (Kept m) = slots.Held (write m)

abbrev pub holds_of : {M : Type 0} → (M → List Bool) → MessageState M → Holds
holds_of write Nowhere = bits.Free
holds_of write (Waits m) = bits.Free
holds_of write (Goes m) = bits.Accepted (write m)
holds_of write (Came m) = bits.Delivered
holds_of write (Failed m) = bits.Lost
holds_of write (Died m) = bits.Dead
holds_of write (Kept m) = bits.Free

-- `P` holds for the message, if there is one
abbrev pub OfMessage : {M : Type 0} → (M → Type 0) → MessageState M → Type 0
OfMessage P Nowhere = Unit {0}
OfMessage P (Waits m) = P m
OfMessage P (Goes m) = P m
OfMessage P (Came m) = P m
OfMessage P (Failed m) = P m
OfMessage P (Died m) = P m
OfMessage P (Kept m) = P m

-- a slot and a subnet link that refine a link of the model
pub record LinkRefines {M : Type 0} (write : M → List Bool) (P : M → Type 0) (link : Link M) (slot : LinkSlot) (holds : Holds) : Type 0 where
  pub place : MessageState M
  pub model : link ≡ model_of place
  pub in_slot : slot ≡ slot_of write place
  pub in_subnet : holds ≡ holds_of write place
  pub fits : OfMessage P place

-- the message of a list of commands, and of a text
abbrev pub control_bits : ℕ → List Command → List Bool
control_bits number cs = message_to number control_link control_size (bits_of_bytes (spellings cs))

abbrev pub text_as_message : ℕ → ℕ → TextOut → List Bool
text_as_message number on t = message_to number on t.of_size t.bits

-- commands that can be encoded in one message
abbrev pub AreCommands : List Command → Type 0
AreCommands cs = All IsCommand cs × (length (spellings cs) ≤ MAX_CONTROL)

abbrev pub IsText : ℕ → List Bool → Type 0
IsText of_size text = (0 < of_size) × (of_size < 2 ^ 8) × (length text ≤ MAX_TEXT_BITS) × (length text % of_size ≡ 0)

abbrev pub IsTextOn : ℕ → TextOut → Type 0
IsTextOn on t = (is_wrong_link on ≡ false) × IsText t.of_size t.bits

-- The numbers in users' calls fit their fields.

abbrev pub IsPair : Pair → Type 0
IsPair pair = (pair.local < 2 ^ 32) × (pair.remote < 2 ^ 32)

abbrev pub IsCall : PairCall → Type 0
IsCall (Ask_to_send of_size with_room) = of_size < 2 ^ 8
IsCall (Allocate of_messages of_bits) = (of_messages < 2 ^ 16) × (of_bits < 2 ^ 32)
IsCall (Call_back of_messages of_bits) = (of_messages < 2 ^ 8) × (of_bits < 2 ^ 8)
IsCall call = Unit {0}

-- The commands queued at a host can be encoded, and the numbers of its ends fit their fields.

abbrev pub EndFits : Option Endpoint → Type 0
EndFits None = Unit {0}
EndFits (Some e) = (e.size < 2 ^ 8) × (e.link < 2 ^ 8)

abbrev pub EndpointFieldsInRange : Pair → Option Endpoint → Type 0
EndpointFieldsInRange pair None = Unit {0}
EndpointFieldsInRange pair (Some e) = IsPair pair × EndFits (Some e)

pub record FieldsInRange (p : Peer) : Type 0 where
  pub waiting : All IsCommand p.phase.waiting
  pub ends : (pair : Pair) → EndpointFieldsInRange pair (get p.ends pair)

-- the state of one host, and its outgoing messages, refine a node of the model
pub record Represents (there : ℕ) (n : Node) (s : PeerState) (u : TransitByLink) : Type 0 where
  pub number : there < 2 ^ 8
  pub peer : s.peer ≡ peer_of n
  pub control : LinkRefines (control_bits there) AreCommands n.control (slot_at s.slots 0) (u 0)
  pub texts : (on : ℕ) → (on == 0) ≡ false → LinkRefines (text_as_message there on) (IsTextOn on) (n.texts on) (slot_at s.slots on) (u on)
  pub well : FieldsInRange s.peer

-- the model reaches this world
pub data IsReachable : hosts.TwoNodes → Type 0 where
  Begins : IsReachable hosts.start
  Goes_on : {w : hosts.TwoNodes} → IsReachable w → (side : Party) → (step : hosts.NodeStep) → IsReachable (hosts.node_at side step w)

pub record Refines (w : hosts.TwoNodes) (v : World) : Type 0 where
  pub reached : IsReachable w
  pub this : Represents v.there w.this v.this v.going
  pub that : Represents v.here w.that v.that v.coming

-- a call whose numbers fit their fields
abbrev pub IsAsked : Asked → Type 0
IsAsked (Asks pair call) = IsPair pair × IsCall call
IsAsked (Asks_echo byte) = byte < 2 ^ 8
IsAsked Asks_reset = Unit {0}
IsAsked Asks_wake = Unit {0}

abbrev pub IsMove : worlds.WorldStep → Type 0
IsMove (worlds.Call_is_made asked) = IsAsked asked
IsMove step = Unit {0}

abbrev pub AreEvents : List worlds.WorldEvent → Type 0
AreEvents [] = Unit {0}
AreEvents (e ∷ es) = IsMove e.step × AreEvents es

-- a new world: both hosts have new states, and every link is free
pub record IsNewWorld (v : World) : Type 0 where
  pub here : v.here < 2 ^ 8
  pub there : v.there < 2 ^ 8
  pub this : v.this ≡ new_state
  pub that : v.that ≡ new_state
  pub going : (on : ℕ) → v.going on ≡ bits.Free
  pub coming : (on : ℕ) → v.coming on ≡ bits.Free

-- the model reaches a world that this one refines
abbrev pub IsOfModel : World → Type 0
IsOfModel v = (w : hosts.TwoNodes) × Refines w v
