-- A message that goes and comes is what two hosts note by themselves; one that comes twice is not.
use Rattle.std.proofs.Common.{◌≡◌, ℕ, ◌==◌, Bool, true, false, nat_le, List, [], ◌∷◌, length, Option, None, Some, Result, Ok, refl, sym, ap, ◌∙◌, subst, arith}
use Rattle.std.proofs.lemmas.List.Elements.{All-nil, All-cons}
use Rattle.ncp_numbers.specs.Bytes.{bits_of_bytes}
use Rattle.ncp_leader.specs.declared.leader.Leader.{Leader}
use Rattle.ncp_leader.specs.declared.leader.TheConstants.{LEADER_BITS}
use Rattle.ncp_leader.specs.Leader.{leader_in, leader_at}
use Rattle.ncp_wire.specs.declared.command.Command.{Command}
use Rattle.ncp_wire.specs.Spelling.{spellings, IsCommand}
use Rattle.ncp_slot.specs.Slots.{LinkSlot, is_quiet, no_slots}
use Rattle.ncp_slot.proofs.Places.{slot_at-no_slots, is_quiet-tells}
use Rattle.ncp_subnet.specs.Messages.{from_host, link_in}
use Rattle.ncp_peer.specs.declared.received.Received.{Received}
use Rattle.ncp_peer.specs.PeerState.{PeerState, new_state, state_calls_reset}
use Rattle.ncp_host.specs.Host.{Host, new_host, numbers_of, state_of}
use Rattle.ncp_peer.specs.Hearing.{answer_received}
use Rattle.ncp_host.specs.Arrivals.{received_in}
use Rattle.ncp_model.specs.Peers.{new_peer, calls_reset}
use Rattle.ncp_slot.specs.Slots.{data_links}
use Rattle.ncp_peer.specs.Output.{first_output, first_or, output_on, output_by, made_on, next_of, message_on, leader_to}
use Rattle.ncp_host.specs.Turns.{next_output}
use Rattle.ncp_transcript.specs.declared.call.Call.{Call}
use Rattle.ncp_transcript.specs.declared.note.HostNote.{HostNote}
use Rattle.ncp_transcript.specs.After.{after_note}
use Rattle.ncp_transcript.specs.Noting.{answer_in, answer_with}
use Rattle.ncp_transcript.specs.Runs.{answer_returned}
use Rattle.ncp_transcript.proofs.Beginning.{began_noted, same_peers}
use Rattle.ncp_transcript_two.specs.declared.side.Side.TheVariants.{A, B}
use Rattle.ncp_transcript_two.specs.Honest.{MessageEvent, Sent, Arrives, Acked, Other, Clear, if_on, HonestFrom}
use Rattle.ncp_transcript_two.specs.Seen.{had_for}
use Rattle.ncp_transcript_two.specs.Tie.{AreCommands}
use Rattle.ncp_transcript_two.proofs.OnePeer.{has-peer, next-message}
use Rattle.ncp_transcript_two.proofs.SeenMoves.{leader-parts}
use Rattle.ncp_transcript_two.proofs.Written.{from_host-message, led, control_text}
use Rattle.ncp_statement.specs.Statement.{Delivers}
use Rattle.ncp_proof_statement.specs.Notes.{as_notes}
use Rattle.ncp_proof_statement.specs.HonestRuns.{IsHonestRun}
use Rattle.ncp_proof_statement.specs.Examples.{reset_message, delivered_once, delivered_twice}

fits : AreCommands (Command.Rst ∷ [])
fits = (All-cons IsCommand Command.Rst [] tt (All-nil IsCommand), omega arith)

led-two : leader_in reset_message ≡ Ok (leader_to 2 0)
led-two = led 2 0 8 (bits_of_bytes (spellings (Command.Rst ∷ []))) (omega arith) (omega arith) (control_text (Command.Rst ∷ []) fits)

led-one : leader_in (from_host 1 reset_message) ≡ Ok (leader_to 1 0)
led-one = ap leader_in (from_host-message 1 2 0 8 (bits_of_bytes (spellings (Command.Rst ∷ [])))) ∙ led 1 0 8 (bits_of_bytes (spellings (Command.Rst ∷ []))) (omega arith) (omega arith) (control_text (Command.Rst ∷ []) fits)

on-zero : (number : ℕ) (m : List Bool) → leader_in m ≡ Ok (leader_to number 0) → link_in m ≡ 0
on-zero number m e = let parts : (nat_le LEADER_BITS (length m) ≡ true) × (leader_at m ≡ leader_to number 0) = leader-parts m (leader_to number 0) e in ap (λ (l : Leader). l.link) parts.1

-- Host 1.

abbrev first : Host
first = new_host 1 (2 ∷ [])

abbrev asked : Host
asked = after_note (HostNote.Done (Call.Reset 2)) first

abbrev sent : Host
sent = after_note (HostNote.Out reset_message) asked

quiet : is_quiet no_slots ≡ true
quiet = (is_quiet-tells no_slots).1 (λ link low high. slot_at-no_slots link)

asked-peer : numbers_of asked.peers ≡ 2 ∷ []
asked-peer = same_peers first asked (began_noted (HostNote.Done (Call.Reset 2)) first)

abbrev wants : PeerState
wants = state_calls_reset new_state

makes : output_on 2 0 wants ≡ Some reset_message
makes = ap (λ (slot : LinkSlot). output_by slot 2 0 wants.peer) (slot_at-no_slots 0) ∙ ap (λ (q : Bool). made_on 2 0 (calls_reset q new_peer)) quiet

out-first : next_of 2 wants ≡ Some (0, reset_message)
unfolding first_output
out-first = ap (λ (o : Option (List Bool)). first_or 0 o (first_output 2 data_links wants)) makes

goes : next_output asked ≡ Some reset_message
goes = next-message 2 asked asked-peer ∙ ap message_on out-first

one-peer : numbers_of sent.peers ≡ 2 ∷ []
one-peer = same_peers asked sent (began_noted (HostNote.Out reset_message) asked) ∙ same_peers first asked (began_noted (HostNote.Done (Call.Reset 2)) first)

told : (here : Received) → answer_received 0 (had_for 2 sent) ≡ here → answer_returned (state_of sent 2) 0 ≡ Some here
told here e = ap (λ (o : Option PeerState). answer_returned o 0) (has-peer 2 sent one-peer) ∙ ap Some e

-- Host 2.

heard : answer_in (from_host 1 reset_message) (new_host 2 (1 ∷ [])) ≡ None
heard = ap (λ (r : Result Leader _). answer_with r (new_host 2 (1 ∷ []))) led-one

-- The subnet.

honest : (there here : Received) → Delivers 1 2 (as_notes (delivered_once there here))
honest there here A on =
    subst (λ (k : ℕ). HonestFrom 1 Clear (Other ∷ if_on (k == on) (Sent reset_message) ∷ if_on (link_in (from_host 1 reset_message) == on) (Arrives (from_host 1 reset_message)) ∷ if_on (0 == on) Acked ∷ [])) (sym (on-zero 2 reset_message led-two))
    (subst (λ (k : ℕ). HonestFrom 1 Clear (Other ∷ if_on (0 == on) (Sent reset_message) ∷ if_on (k == on) (Arrives (from_host 1 reset_message)) ∷ if_on (0 == on) Acked ∷ [])) (sym (on-zero 1 (from_host 1 reset_message) led-one))
    (go (0 == on)))
  where
    go : (b : Bool) → HonestFrom 1 Clear (Other ∷ if_on b (Sent reset_message) ∷ if_on b (Arrives (from_host 1 reset_message)) ∷ if_on b Acked ∷ [])
    go true = (refl, tt)
    go false = tt
honest there here B on = tt

pub a-message-goes : (there here : Received) × IsHonestRun 1 2 (delivered_once there here)
a-message-goes =
    let there : Received = received_in (from_host 1 reset_message) (new_host 2 (1 ∷ [])) in
    let here : Received = answer_received 0 (had_for 2 sent) in (
      there,
      here,
      record {
        differ = λ e. absurd (cc e);
        fits_a = omega arith;
        fits_b = omega arith;
        run_a = (refl, (goes, (told here refl, tt)));
        run_b = ((heard, refl), tt);
        calls = (tt, (tt, (tt, (tt, tt))));
        honest = honest there here;
      },
    )

pub none-comes-twice : (there again here : Received) → IsHonestRun 1 2 (delivered_twice there again here) → ⊥
none-comes-twice there again here t =
    let zero : HonestFrom 1 Clear (deeds (link_in reset_message) 0) = subst (λ (k : ℕ). HonestFrom 1 Clear (deeds (link_in reset_message) k)) (on-zero 1 (from_host 1 reset_message) led-one) (t.honest A 0) in
    let all : HonestFrom 1 Clear (deeds 0 0) = subst (λ (k : ℕ). HonestFrom 1 Clear (deeds k 0)) (on-zero 2 reset_message led-two) zero in
    all.1
  where
    deeds : ℕ → ℕ → List MessageEvent
    deeds i k = Other ∷ if_on (i == 0) (Sent reset_message) ∷ if_on (k == 0) (Arrives (from_host 1 reset_message)) ∷ if_on (k == 0) (Arrives (from_host 1 reset_message)) ∷ if_on (0 == 0) Acked ∷ []
