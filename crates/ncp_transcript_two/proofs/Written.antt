-- What was written, with the number of the host that it is from, is read as what was written.
use Rattle.std.proofs.Common.{◌≡◌, ◌<◌, ◌≤◌, ℕ, ◌*◌, ◌^◌, Bool, List, [], length, Option, Result, Ok, refl, sym, ap, ◌∙◌, arith}
use Rattle.std.proofs.lemmas.List.{append-nil}
use Rattle.ncp_numbers.specs.Numbers.{bits_of}
use Rattle.ncp_numbers.specs.Bytes.{bits_of_bytes, bytes_of}
use Rattle.ncp_numbers.proofs.Packing.{bytes_of-bits_of_bytes}
use Rattle.ncp_numbers.proofs.Bytes.{length-bits_of_bytes}
use Rattle.ncp_leader.specs.declared.leader.Leader.{Leader}
use Rattle.ncp_leader.specs.Leader.{leader_bits, IsLeader, leader_in}
use Rattle.ncp_leader.specs.Message.{Message, IsMessage, message_in, message_with}
use Rattle.ncp_leader.proofs.Leaders.{leader_in-bits}
use Rattle.ncp_leader.proofs.Messages.{message_in-bits, message_leader, IsMessage-with}
use Rattle.ncp_wire.specs.declared.command.Command.{Command}
use Rattle.ncp_wire.specs.declared.fault.CommandFault.{CommandFault}
use Rattle.ncp_wire.specs.Spelling.{spellings}
use Rattle.ncp_control.specs.Reading.{commands_in, fault_in}
use Rattle.ncp_control.proofs.Reading.{spellings_small, spelled_alone}
use Rattle.ncp_wire.specs.declared.answer.Answer.TheVariants.{Rfnm, Incomplete}
use Rattle.ncp_wire.specs.declared.answer.Answer.TheVariants as answer_kinds
use Rattle.ncp_peer.specs.PeerState.{PeerState, answer_comes}
use Rattle.ncp_peer.specs.Hearing.{state_hears_all, state_hears_text, message_received, message_after, rfnm, incomplete, destination_dead}
use Rattle.ncp_peer.specs.Output.{leader_to, message_to}
use Rattle.ncp_transcript_two.specs.Subnet.{from_host, answer_bits}
use Rattle.ncp_transcript_two.specs.World.{state_after_with, state_after_received, state_received_with, received}
use Rattle.ncp_transcript_two.specs.Tie.{AreCommands, IsText}

-- the number of the sender stands where the destination stood
pub from_host-message : (from to on size : ℕ) (text : List Bool) → from_host from (message_to to on size text) ≡ message_to from on size text
unfolding from_host bits_of
from_host-message from to on size text = refl

IsLeader-to : (number on : ℕ) → number < 2 ^ 8 → on < 2 ^ 8 → IsLeader (leader_to number on)
IsLeader-to number on n o = record { flags = omega arith; kind = omega arith; host = n; link = o; low = omega arith }

pub IsMessage-to : (number on size : ℕ) (text : List Bool) → number < 2 ^ 8 → on < 2 ^ 8 → IsText size text → IsMessage (message_with (leader_to number on) size text)
IsMessage-to number on size text n o t = IsMessage-with (leader_to number on) size text (IsLeader-to number on n o) t.0 t.1 t.2 t.3

pub read : (number on size : ℕ) (text : List Bool) → number < 2 ^ 8 → on < 2 ^ 8 → IsText size text
    → message_in (message_to number on size text) ≡ Ok (message_with (leader_to number on) size text)
read number on size text n o t =
    ap message_in (sym (append-nil (message_to number on size text))) ∙ message_in-bits (message_with (leader_to number on) size text) [] (IsMessage-to number on size text n o t)

pub led : (number on size : ℕ) (text : List Bool) → number < 2 ^ 8 → on < 2 ^ 8 → IsText size text → leader_in (message_to number on size text) ≡ Ok (leader_to number on)
led number on size text n o t = message_leader (message_to number on size text) (message_with (leader_to number on) size text) (read number on size text n o t)

-- what comes of it
pub comes : (number on size : ℕ) (text : List Bool) (s : PeerState) → number < 2 ^ 8 → on < 2 ^ 8 → IsText size text
    → state_after_received (message_to number on size text) s ≡ message_after on (message_to number on size text) (Ok (message_with (leader_to number on) size text)) s
comes number on size text s n o t =
    let m : List Bool = message_to number on size text in
    ap (λ (r : Result Leader _). state_after_with r m s) (led number on size text n o t)
    ∙ ap (λ (r : Result Message _). message_after on m r s) (read number on size text n o t)

pub comes-received : (number on size : ℕ) (text : List Bool) (s : PeerState) → number < 2 ^ 8 → on < 2 ^ 8 → IsText size text
    → received (message_to number on size text) s ≡ message_received on (Ok (message_with (leader_to number on) size text)) s
comes-received number on size text s n o t =
    let m : List Bool = message_to number on size text in
    ap (λ (r : Result Leader _). state_received_with r m s) (led number on size text n o t)
    ∙ ap (λ (r : Result Message _). message_received on r s) (read number on size text n o t)

-- the answers

abbrev pub answer_leader : ℕ → ℕ → ℕ → Leader
answer_leader kind number on = record { flags = 0; kind = kind; host = number; link = on; low = 0 }

pub answer-led : (kind number on : ℕ) → IsLeader (answer_leader kind number on) → leader_in (answer_bits kind number on) ≡ Ok (answer_leader kind number on)
unfolding answer_bits
answer-led kind number on fits = ap leader_in (sym (append-nil (leader_bits (answer_leader kind number on)))) ∙ leader_in-bits (answer_leader kind number on) [] fits

pub answer_comes-is : (number on : ℕ) (s : PeerState) → number < 2 ^ 8 → on < 2 ^ 8
    → (state_after_received (answer_bits rfnm number on) s ≡ answer_comes on Rfnm s) × (state_after_received (answer_bits incomplete number on) s ≡ answer_comes on Incomplete s)
    × (state_after_received (answer_bits destination_dead number on) s ≡ answer_comes on answer_kinds.Dead s)
answer_comes-is number on s n o = (go rfnm (omega arith), go incomplete (omega arith), go destination_dead (omega arith))
  where
    fits : (kind : ℕ) → kind ≤ 15 → IsLeader (answer_leader kind number on)
    fits kind k = record { flags = omega arith; kind = k; host = n; link = o; low = omega arith }

    go : (kind : ℕ) → kind ≤ 15 → state_after_received (answer_bits kind number on) s ≡ state_after_with (Ok (answer_leader kind number on)) (answer_bits kind number on) s
    go kind k = ap (λ (r : Result Leader _). state_after_with r (answer_bits kind number on) s) (answer-led kind number on (fits kind k))

-- a control message is a text of bytes of eight bits, and is read as its commands
pub control_text : (cs : List Command) → AreCommands cs → IsText 8 (bits_of_bytes (spellings cs))
control_text cs a =
    let l : length (bits_of_bytes (spellings cs)) ≡ 8 * length (spellings cs) = length-bits_of_bytes (spellings cs) in
    (omega arith, omega arith, omega (arith, a.1), omega arith)

pub control_comes : (number : ℕ) (cs : List Command) (s : PeerState) → number < 2 ^ 8 → AreCommands cs
    → state_after_received (message_to number 0 8 (bits_of_bytes (spellings cs))) s ≡ state_hears_all cs s
control_comes number cs s n a =
    let text : List Bool = bits_of_bytes (spellings cs) in
    let bytes : bytes_of text ≡ spellings cs = bytes_of-bits_of_bytes (spellings cs) (spellings_small cs a.0) in
    comes number 0 8 text s n (omega arith) (control_text cs a)
    ∙ ap (λ (bs : List ℕ). state_hears_text (commands_in bs) (fault_in bs) s) bytes
    ∙ ap (λ (ds : List Command). state_hears_text ds (fault_in (spellings cs)) s) (spelled_alone cs a.0).0
    ∙ ap (λ (f : Option CommandFault). state_hears_text cs f s) (spelled_alone cs a.0).1
