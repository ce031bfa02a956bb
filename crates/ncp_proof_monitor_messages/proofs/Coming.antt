-- A message of side A that the subnet has: commands, or a text; and the state of the other host after it came.
use Rattle.std.proofs.Common.{◌≡◌, ℕ, ◌==◌, Bool, false, List, Result, Ok, refl, ap, ◌∙◌}
use Rattle.ncp_leader.specs.declared.leader.Leader.{Leader}
use Rattle.ncp_leader.specs.declared.leader.Short.{Short}
use Rattle.ncp_leader.specs.Leader.{leader_in}
use Rattle.ncp_leader.specs.Message.{message_in}
use Rattle.ncp_wire.specs.declared.command.Command.{Command}
use Rattle.ncp_slot.specs.declared.slot.Slot.{Slot}
use Rattle.ncp_slot.specs.Slots.{slot_at}
use Rattle.ncp_subnet.specs.Subnet.{transit_at}
use Rattle.ncp_peer.specs.PeerState.{PeerState}
use Rattle.ncp_peer.specs.Hearing.{is_wrong_link, state_hears_all}
use Rattle.ncp_peer.specs.Output.{leader_to, message_to}
use Rattle.ncp_transcript.specs.declared.note.HostNote.{HostNote}
use Rattle.ncp_transcript.specs.After.{after_note}
use Rattle.ncp_transcript.specs.Noting.{note_of_bits}
use Rattle.ncp_transcript_two.specs.Subnet.{Accepted, from_host}
use Rattle.ncp_transcript_two.specs.World.{World, state_after_with, state_after_received}
use Rattle.ncp_transcript_two.specs.Tie.{control_bits, text_as_message, AreCommands, IsText, IsTextOn, Refines}
use Rattle.ncp_transcript_two.specs.Between.{Hosts}
use Rattle.ncp_transcript_two.specs.Seen.{had_for, seen}
use Rattle.ncp_transcript_two.proofs.Links.{Comes, delivered, away}
use Rattle.ncp_transcript_two.proofs.Comings.{control-heard}
use Rattle.ncp_transcript_two.proofs.OnePeer.{had-received, noted-message}
use Rattle.ncp_transcript_two.proofs.Slots.{message-slots}
use Rattle.ncp_proof_monitor_messages.proofs.Between.{Joined}

pub record Control (w : Hosts) (m : List Bool) : Type 0 where
  pub cs : List Command
  pub fits : AreCommands cs
  pub is : m ≡ control_bits w.number_b cs
  pub slot : slot_at (had_for w.number_b w.a).slots 0 ≡ Slot.Travelling m
  pub heard : state_after_received (from_host w.number_a m) (had_for w.number_a w.b) ≡ state_hears_all cs (had_for w.number_a w.b)

pub control : (w : Hosts) (m : List Bool) → Joined w → transit_at w.subnet w.number_a w.number_b 0 ≡ Accepted m → Control w m
control w m k e =
    let x = k.model.0 in
    let t : Refines x (seen w) = k.model.1 in
    let v : World = seen w in
    let c : Comes (control_bits v.there) AreCommands x.this.control (slot_at v.this.slots 0) m = delivered (control_bits v.there) AreCommands x.this.control (slot_at v.this.slots 0) (v.going 0) m t.this.control e in
    record {
      cs = c.what;
      fits = c.fits;
      is = c.written;
      slot = (away (control_bits v.there) AreCommands x.this.control (slot_at v.this.slots 0) (v.going 0) m t.this.control e).2;
      heard = control-heard x v m t c;
    }

pub record Text (w : Hosts) (on : ℕ) (m : List Bool) : Type 0 where
  pub size : ℕ
  pub text : List Bool
  pub fits : IsText size text
  pub right : is_wrong_link on ≡ false
  pub is : m ≡ message_to w.number_b on size text
  pub slot : slot_at (had_for w.number_b w.a).slots on ≡ Slot.Travelling m

pub a_text : (w : Hosts) (on : ℕ) (m : List Bool) → (on == 0) ≡ false → Joined w → transit_at w.subnet w.number_a w.number_b on ≡ Accepted m → Text w on m
a_text w on m z k e =
    let x = k.model.0 in
    let t : Refines x (seen w) = k.model.1 in
    let v : World = seen w in
    let c : Comes (text_as_message v.there on) (IsTextOn on) (x.this.texts on) (slot_at v.this.slots on) m = delivered (text_as_message v.there on) (IsTextOn on) (x.this.texts on) (slot_at v.this.slots on) (v.going on) m (t.this.texts on z) e in
    record {
      size = c.what.of_size;
      text = c.what.bits;
      fits = c.fits.1;
      right = c.fits.0;
      is = c.written;
      slot = (away (text_as_message v.there on) (IsTextOn on) (x.this.texts on) (slot_at v.this.slots on) (v.going on) m (t.this.texts on z) e).2;
    }

-- what comes leaves the links
pub received_slots : (n on : ℕ) (bits : List Bool) (s : PeerState) → leader_in bits ≡ Ok (leader_to n on) → (state_after_received bits s).slots ≡ s.slots
received_slots n on bits s led = ap (λ (r : Result Leader Short). (state_after_with r bits s).slots) led ∙ message-slots on bits (message_in bits) s

-- side B after it
pub came_to : (w : Hosts) (on : ℕ) (bits : List Bool) → Joined w → leader_in bits ≡ Ok (leader_to w.number_a on) → had_for w.number_a (after_note (note_of_bits bits w.b) w.b) ≡ state_after_received bits (had_for w.number_a w.b)
came_to w on bits k led =
    ap (λ (n : HostNote). had_for w.number_a (after_note n w.b)) (noted-message w.b bits (leader_to w.number_a on) led refl)
    ∙ had-received w.b bits (leader_to w.number_a on) k.stand.b led refl
