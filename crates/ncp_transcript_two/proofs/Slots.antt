-- What comes to a host changes no slot but by an answer.
use Rattle.std.proofs.Common.{◌≡◌, ℕ, ◌==◌, Bool, true, false, if◌then◌else◌, List, [], ◌∷◌, take, Option, None, Some, Result, Ok, Err, refl, ◌∙◌}
use Rattle.ncp_numbers.specs.Bytes.{bytes_of}
use Rattle.ncp_leader.specs.declared.regular.TheConstants.{FRONT_BITS}
use Rattle.ncp_leader.specs.declared.fault.MessageFault.{MessageFault}
use Rattle.ncp_leader.specs.Message.{Message}
use Rattle.ncp_wire.specs.declared.command.Command.{Command}
use Rattle.ncp_wire.specs.declared.fault.CommandFault.{CommandFault}
use Rattle.ncp_control.specs.Reading.{commands_in, fault_in}
use Rattle.ncp_peer.specs.Counting.{one_more}
use Rattle.ncp_peer.specs.PeerState.{PeerState, control_link}
use Rattle.ncp_peer.specs.Hearing.{state_hears, state_hears_all, hears_last, state_hears_text, control_size, state_after_control, state_after_text, is_wrong_link, message_after}

pub slots_if : (b : Bool) (s t : PeerState) → (if b then s else t).slots ≡ (if b then s.slots else t.slots)
slots_if true s t = refl
slots_if false s t = refl

pub hears_all-slots : (cs : List Command) (s : PeerState) → (state_hears_all cs s).slots ≡ s.slots
hears_all-slots [] s = refl
hears_all-slots (c ∷ cs) s = hears_all-slots cs (state_hears c s)

hears_last-slots : (f : Option CommandFault) (s : PeerState) → (hears_last f s).slots ≡ s.slots
hears_last-slots None s = refl
hears_last-slots (Some f) s = refl

hears_text-slots : (cs : List Command) (f : Option CommandFault) (s : PeerState) → (state_hears_text cs f s).slots ≡ s.slots
hears_text-slots cs f s = hears_last-slots f (state_hears_all cs s) ∙ hears_all-slots cs s

control-slots : (m : Message) (s : PeerState) → (state_after_control m s).slots ≡ s.slots
control-slots m s = go (m.size == control_size)
  where
    go : (b : Bool) → (if b then state_hears_text (commands_in (bytes_of m.text)) (fault_in (bytes_of m.text)) s else record s { counts = record s.counts { wrong_size = one_more s.counts.wrong_size } }).slots ≡ s.slots
    go true = hears_text-slots (commands_in (bytes_of m.text)) (fault_in (bytes_of m.text)) s
    go false = refl

pub message-slots : (on : ℕ) (bits : List Bool) (r : Result Message MessageFault) (s : PeerState) → (message_after on bits r s).slots ≡ s.slots
message-slots on bits (Err fault) s = refl
message-slots on bits (Ok m) s = go (is_wrong_link on) (on == control_link)
  where
    go : (a b : Bool) → (if a then record s { counts = record s.counts { wrong_link = one_more s.counts.wrong_link } } else if b then state_after_control m s else state_after_text on (take FRONT_BITS bits) m s).slots ≡ s.slots
    go true b = refl
    go false true = control-slots m s
    go false false = refl
