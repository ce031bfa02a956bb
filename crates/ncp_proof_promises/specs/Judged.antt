-- The result of an arrival: each command of a control message acts once, in order, and is answered by no
-- ERR.
use Rattle.std.specs.Prelude.{◌≡◌, ◌==◌, Bool, true, false, List, [], ◌∷◌, length, None}
use Rattle.std.specs.List.{list_any}
use Rattle.ncp_numbers.specs.Bytes.{bytes_of}
use Rattle.ncp_control.specs.Reading.{fault_in}
use Rattle.ncp_wire.specs.declared.command.Command.{Command}
use Rattle.ncp_slot.specs.Slots.{is_quiet}
use Rattle.ncp_model.specs.Phase.{up}
use Rattle.ncp_model.specs.Peers.{reaction}
use Rattle.ncp_peer.specs.declared.received.Received.{Received}
use Rattle.ncp_peer.specs.PeerState.{PeerState, control_link}
use Rattle.ncp_peer.specs.Hearing.{state_hears, state_hears_all}
use Rattle.ncp_transcript_two.specs.World.{World, NoteBody, In}
use Rattle.ncp_transcript_two.specs.Refused.{is_refused}
use Rattle.ncp_transcript_two.specs.Underway.{text_of, commands_of}

-- A control message received does to that host what its commands do, each once, in order, and does
-- nothing to this one.
abbrev pub ActsOnce : NoteBody → World → World → Type 0
ActsOnce (In on message told) v after =
    (on == control_link) ≡ true → (told ≡ Received.Control (length (commands_of message))) × (after.that ≡ state_hears_all (commands_of message) v.that) × (after.this ≡ v.this)
ActsOnce told v after = Unit {0}

abbrev pub is_error : Command → Bool
is_error (Command.Err code bytes) = true
is_error c = false

-- a host that is up makes no ERR for any of these commands
abbrev pub NoneErrs : List Command → PeerState → Type 0
NoneErrs [] s = Unit {0}
NoneErrs (c ∷ cs) s =
    (up s.peer.phase ≡ true → list_any is_error (reaction (is_quiet s.slots) c s.peer).replies ≡ false) × NoneErrs cs (state_hears c s)

-- No control text received has a fault, and no command of one is answered by an ERR; no text is answered
-- as not connected, of the wrong size or beyond the allocation, and no bits are a faulty message.
abbrev pub MakesNoErr : NoteBody → World → World → Type 0
MakesNoErr (In on message told) v after =
    ((on == control_link) ≡ true → (fault_in (bytes_of (text_of message)) ≡ None) × NoneErrs (commands_of message) v.that) × (is_refused told ≡ false)
MakesNoErr told v after = Unit {0}
