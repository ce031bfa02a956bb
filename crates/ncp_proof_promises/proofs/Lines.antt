-- What is on the control link of a host, read off its slot and the subnet, as steps change it.
use Rattle.std.proofs.Common.{◌≡◌, ◌<◌, ◌≤◌, ◌-◌, ◌^◌, ℕ, ◌==◌, Bool, true, false, if◌then◌else◌, nat_le, All, List, [], ◌∷◌, length, take, Result, refl, sym, ap, ◌∙◌, arith, subst}
use Rattle.std.proofs.lemmas.Bool.{leb-true}
use Rattle.std.proofs.lemmas.List.{length-append}
use Rattle.std.proofs.lemmas.List.Elements.{All-take}
use Rattle.ncp_numbers.specs.Bytes.{bytes_of, bits_of_bytes}
use Rattle.ncp_numbers.proofs.Packing.{bytes_of-bits_of_bytes}
use Rattle.ncp_leader.specs.declared.fault.MessageFault.{MessageFault}
use Rattle.ncp_leader.specs.Message.{Message}
use Rattle.ncp_wire.specs.declared.command.Command.{Command}
use Rattle.ncp_wire.specs.Spelling.{spelling, spellings, IsCommand}
use Rattle.ncp_control.specs.Reading.{commands_in}
use Rattle.ncp_control.proofs.Reading.{spellings_small, spelled_alone}
use Rattle.ncp_slot.specs.declared.slot.Slot.{Slot}
use Rattle.ncp_wire.specs.declared.answer.Answer.{Answer}
use Rattle.ncp_slot.specs.Slot.{answered, woken}
use Rattle.ncp_slot.specs.Slots.{LinkSlot, LinkSlots, slot_at, with_slot, all_woken}
use Rattle.ncp_slot.proofs.Places.{slot_at-with_slot_same}
use Rattle.ncp_slot.proofs.Waking.{slot_at-all_woken}
use Rattle.ncp_model.specs.Sending.{fitting, next_commands}
use Rattle.ncp_proof_machine.specs.Hosts.{TwoNodes}
use Rattle.ncp_transcript_two.specs.Subnet.{Holds, Free, Accepted, Delivered, TransitByLink, set_at}
use Rattle.ncp_transcript_two.specs.World.{World}
use Rattle.ncp_transcript_two.specs.Tie.{control_bits, AreCommands, Refines}
use Rattle.ncp_transcript_two.specs.Underway.{text_read, commands_of, not_come, commands_out}
use Rattle.ncp_transcript_two.proofs.Links.{away, set_at-apart, with_slot-apart}
use Rattle.ncp_transcript_two.proofs.Written.{read, control_text}

abbrev pub line_of : LinkSlot → Holds → List Command
line_of s h = commands_out (not_come s h)

abbrev pub line : LinkSlots → TransitByLink → List Command
line sl u = line_of (slot_at sl 0) (u 0)

-- what was written is read
pub commands-written : (there : ℕ) (cs : List Command) → there < 2 ^ 8 → AreCommands cs → commands_of (control_bits there cs) ≡ cs
commands-written there cs n a =
    ap (λ (r : Result Message MessageFault). commands_in (bytes_of (text_read r))) (read there 0 8 (bits_of_bytes (spellings cs)) n (omega arith) (control_text cs a))
    ∙ ap commands_in (bytes_of-bits_of_bytes (spellings cs) (spellings_small cs a.0))
    ∙ (spelled_alone cs a.0).0

-- The commands of a message are the first that wait, and few.

pub fitting-take : (room : ℕ) (cs : List Command) → fitting room cs ≡ take (length (fitting room cs)) cs
fitting-take room [] = refl
fitting-take room (c ∷ cs) = go (nat_le (length (spelling c)) room) (fitting-take (room - length (spelling c)) cs)
  where
    go : (b : Bool) → fitting (room - length (spelling c)) cs ≡ take (length (fitting (room - length (spelling c)) cs)) cs → (if b then c ∷ fitting (room - length (spelling c)) cs else []) ≡ take (length (if b then c ∷ fitting (room - length (spelling c)) cs else [])) (c ∷ cs)
    go true r = ap (λ (ds : List Command). c ∷ ds) r
    go false r = refl

fitting-few : (room : ℕ) (cs : List Command) → length (spellings (fitting room cs)) ≤ room
fitting-few room [] = omega arith
fitting-few room (c ∷ cs) = go (nat_le (length (spelling c)) room) refl (fitting-few (room - length (spelling c)) cs)
  where
    go : (b : Bool) → nat_le (length (spelling c)) room ≡ b → length (spellings (fitting (room - length (spelling c)) cs)) ≤ room - length (spelling c) → length (spellings (if b then c ∷ fitting (room - length (spelling c)) cs else [])) ≤ room
    go true e more =
        let few : length (spelling c) ≤ room = leb-true (length (spelling c)) room e in
        let sum = length-append (spelling c) (spellings (fitting (room - length (spelling c)) cs)) in
        omega (arith, few, more, sum)
    go false e more = omega arith

pub next-are : (cs : List Command) → All IsCommand cs → AreCommands (next_commands cs)
next-are cs a = (subst (λ (ds : List Command). All IsCommand ds) (sym (fitting-take 120 cs)) (All-take IsCommand (length (next_commands cs)) cs a), fitting-few 120 cs)

-- a message that the subnet has stands in its slot
pub accepted-line : (w : TwoNodes) (v : World) (m : List Bool) → Refines w v → v.going 0 ≡ Accepted m → (slot_at v.this.slots 0 ≡ Slot.Travelling m) × (line v.this.slots v.going ≡ commands_of m)
accepted-line w v m t e =
    let s : slot_at v.this.slots 0 ≡ Slot.Travelling m = (away (control_bits v.there) AreCommands w.this.control (slot_at v.this.slots 0) (v.going 0) m t.this.control e).2 in
    (s, ap (λ (x : LinkSlot). line_of x (v.going 0)) s ∙ ap (λ (h : Holds). line_of (Slot.Travelling m) h) e)

-- messages that are held are to go out again
pub woken-line : (sl : LinkSlots) (u : TransitByLink) → line (all_woken sl) u ≡ line sl u
woken-line sl u = ap (λ (s : LinkSlot). line_of s (u 0)) (slot_at-all_woken sl 0) ∙ go (slot_at sl 0) (u 0)
  where
    go : (s : LinkSlot) (h : Holds) → line_of (woken s) h ≡ line_of s h
    go Slot.Empty h = refl
    go (Slot.Ready m) h = refl
    go (Slot.Travelling m) h = refl
    go (Slot.Held m) h = refl

-- what the subnet has of a message on another link is another matter
pub other-line : (on : ℕ) (h : Holds) (sl : LinkSlots) (u : TransitByLink) → (0 == on) ≡ false → line sl (set_at on h u) ≡ line sl u
other-line on h sl u z = ap (line_of (slot_at sl 0)) (set_at-apart on h u 0 z)

-- where the subnet loses it, or finds its destination dead, it is still underway
pub failed-line : (h : Holds) (w : TwoNodes) (v : World) (m : List Bool) → (line_of (Slot.Travelling m) h ≡ commands_of m) → Refines w v → v.going 0 ≡ Accepted m → line v.this.slots (set_at 0 h v.going) ≡ line v.this.slots v.going
failed-line h w v m same t e =
    let k = accepted-line w v m t e in
    ap (λ (s : LinkSlot). line_of s h) k.0 ∙ same ∙ sym k.1

-- it was delivered
pub delivered-line : (sl : LinkSlots) (u : TransitByLink) (m : List Bool) → slot_at sl 0 ≡ Slot.Travelling m → line sl (set_at 0 Delivered u) ≡ []
delivered-line sl u m e = ap (λ (s : LinkSlot). line_of s Delivered) e

-- it is answered
pub answered-line : (how : Answer) (h : Holds) (sl : LinkSlots) (u : TransitByLink) (m : List Bool) → slot_at sl 0 ≡ Slot.Travelling m → u 0 ≡ h → line_of (answered how (Slot.Travelling m)) Free ≡ line_of (Slot.Travelling m) h
    → line (with_slot sl 0 (answered how (Slot.Travelling m))) (set_at 0 Free u) ≡ line sl u
answered-line how h sl u m e k same =
    ap (λ (s : LinkSlot). line_of s Free) (slot_at-with_slot_same sl 0 (answered how (Slot.Travelling m)))
    ∙ same ∙ sym (ap (λ (s : LinkSlot). line_of s (u 0)) e ∙ ap (line_of (Slot.Travelling m)) k)

-- a slot of another link, and what the subnet has for that
pub apart-line : (on : ℕ) (s : LinkSlot) (h : Holds) (sl : LinkSlots) (u : TransitByLink) → (0 == on) ≡ false → line (with_slot sl on s) (set_at on h u) ≡ line sl u
apart-line on s h sl u z = ap (λ (x : LinkSlot). line_of x (set_at on h u 0)) (with_slot-apart on s sl 0 z) ∙ other-line on h sl u z

-- a message goes out
pub out-line : (m : List Bool) (sl : LinkSlots) (u : TransitByLink) → line (with_slot sl 0 (Slot.Travelling m)) (set_at 0 (Accepted m) u) ≡ commands_of m
out-line m sl u = ap (λ (s : LinkSlot). line_of s (Accepted m)) (slot_at-with_slot_same sl 0 (Slot.Travelling m))
