-- What a host has sent to a peer that no RFNM has acknowledged, as its user may ask when the IMP was
-- restarted (BBN 1822, section 3): on each link the message that is unanswered, or is to be sent again.
-- A message that is held does not count: its destination was dead, so it did not arrive.
use Rattle.std.specs.Prelude.{◌≡◌, ℕ, Bool, false, ◌&&◌, ◌||◌, if◌then◌else◌, List, Option, None, Some, Result, Ok}
use Rattle.std.specs.List.{list_any}
use Rattle.ncp_wire.specs.declared.command.Command.{Command}
use Rattle.ncp_control.specs.Reading.{commands_in}
use Rattle.ncp_slot.specs.Slot.{is_ready, is_travelling}
use Rattle.ncp_slot.specs.Slots.{LinkSlot, HasSlot, slot_at}
use Rattle.ncp_model.specs.declared.call_fault.CallFault.{CallFault}
use Rattle.ncp_model.specs.Phase.{is_reset}
use Rattle.ncp_peer.specs.PeerState.{PeerState, control_link}
use Rattle.ncp_peer.specs.PeerCalls.{kept_for}
use Rattle.ncp_peer.specs.Output.{links}
use Rattle.ncp_host.specs.Host.{Host, state_of, if_known}
use Rattle.ncp_host.specs.Restarting.{is_message_out}
use Rattle.ncp_results.specs.Commands.{control_text}
use Rattle.ncp_results.specs.declared.unacknowledged.Unacknowledged.{Unacknowledged}
use Rattle.ncp_results.specs.declared.unacknowledged.Unacknowledged.TheVariants.{Nothing, Message, Reset}

-- the message of a slot is unanswered, or is to be sent again
abbrev pub is_slot_unacknowledged : LinkSlot → Bool
is_slot_unacknowledged slot = is_ready slot || is_travelling slot

-- there is such a message on a link, if the host has the peer
abbrev pub is_unacknowledged : ℕ → Option PeerState → Bool
is_unacknowledged on None = false
is_unacknowledged on (Some s) = is_slot_unacknowledged (slot_at s.slots on)

-- an RST or an RRP is among these commands (NIC 8246, RST and RRP)
abbrev pub has_reset_among : List Command → Bool
has_reset_among cs = list_any is_reset cs

-- a message has one of them among its commands
abbrev pub has_reset : List Bool → Bool
has_reset message = has_reset_among (commands_in (control_text message))

abbrev pub has_reset_if_any : Option (List Bool) → Bool
has_reset_if_any None = false
has_reset_if_any (Some message) = has_reset message

-- the message on the control link is unacknowledged, and has one
abbrev pub is_reset_unacknowledged : Option PeerState → Bool
is_reset_unacknowledged known = is_unacknowledged control_link known && has_reset_if_any (kept_for known control_link)

-- a message is unacknowledged on one of these links
unfoldable pub is_any_unacknowledged : List ℕ → Option PeerState → Bool
is_any_unacknowledged ons known = list_any (λ on. is_unacknowledged on known) ons

abbrev pub unacknowledged_for : Option PeerState → Unacknowledged
unacknowledged_for known =
    if is_reset_unacknowledged known then Reset
    else if is_any_unacknowledged links known then Message
    else Nothing

abbrev pub unacknowledged_returned : ℕ → Host → Result Unacknowledged CallFault
unacknowledged_returned number h = if_known (state_of h number) (λ s. Ok (unacknowledged_for (Some s)))

-- its number for C
abbrev pub number_of_unacknowledged : Unacknowledged → ℕ
number_of_unacknowledged Nothing = 0
number_of_unacknowledged Message = 1
number_of_unacknowledged Reset = 2

-- What the laws say of the links to a peer.

-- on none of them a message is unacknowledged
abbrev pub AllAcknowledged : PeerState → Type 0
AllAcknowledged s = (on : ℕ) → HasSlot on → is_slot_unacknowledged (slot_at s.slots on) ≡ false

-- on none of them a message is unanswered, so that a restart would lose it
abbrev pub NoneUnanswered : ℕ → Host → Type 0
NoneUnanswered number h = (on : ℕ) → HasSlot on → is_message_out on (state_of h number) ≡ false

-- on none of them a message is to be sent again
abbrev pub NoneToSendAgain : PeerState → Type 0
NoneToSendAgain s = (on : ℕ) → HasSlot on → is_ready (slot_at s.slots on) ≡ false
