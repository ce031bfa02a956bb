-- The effect of a host's step on each end with its peer and on its history, as the run notes them: a
-- call, a control text command by command, a text, an answer, and a sent message.
use Rattle.std.proofs.Common.{ℕ, ◌==◌, Bool, true, false, ◌&&◌, if◌then◌else◌, List, [], Some}
use Rattle.ncp_leader.specs.Message.{Message}
use Rattle.ncp_wire.specs.declared.answer.Answer.{Answer}
use Rattle.ncp_wire.specs.declared.answer.Answer.TheVariants.{Rfnm, Incomplete, Dead}
use Rattle.ncp_wire.specs.declared.command.Command.{Command}
use Rattle.ncp_wire.specs.declared.fault.CommandFault.{CommandFault}
use Rattle.ncp_slot.specs.declared.slot.Slot.TheVariants.{Empty, Ready, Travelling, Held}
use Rattle.ncp_slot.specs.Slots.{LinkSlot, LinkSlots, slot_at, with_slot, is_quiet}
use Rattle.ncp_slot.specs.Slot.{answered}
use Rattle.ncp_model.specs.declared.pair.Pair.{Pair}
use Rattle.ncp_model.specs.Effect.{answer}
use Rattle.ncp_model.specs.Ends.{sender_on, receiver_on, pair_of, demux_command, text_in, cut_in}
use Rattle.ncp_model.specs.Phase.{up}
use Rattle.ncp_model.specs.Peers.{happened_at, peer_sends, frees, cuts}
use Rattle.ncp_peer.specs.PeerState.{PeerState, control_link, is_answered, frees_on, after_answer, answer_taken, answer_comes}
use Rattle.ncp_peer.specs.Counting.{one_more}
use Rattle.ncp_peer.specs.Hearing.{state_hears, state_hears_fault, state_after_text}
use Rattle.ncp_peer.specs.Output.{after_by, after_output}
use Rattle.ncp_transcript.specs.Asked.{Asked, Asks, Asks_echo, Asks_reset, Asks_wake, state_after_asked}
use Rattle.ncp_transcript_two.specs.Watch.{pasts_after_asked, of_command, pasts_after_text}
use Rattle.ncp_proof_machine.specs.Hosts.{Pasts}
use Rattle.ncp_proof_follow.proofs.PeerLives.{SoundAll, mine, is_mine, PeerLives, peer_stays, is_ask, given_by, call_lives, echo_lives, reset_lives, is_request_of, command_lives, fault_lives, text_took, text_lives, text_cut, cut_lives, answered_lives}

abbrev pub HostLives : Pair → PeerState → PeerState → Pasts → Pasts → List Bool → List Bool → List Bool → Bool → Type 0
HostLives q s now pasts then_past given come gone asked = PeerLives q s.peer now.peer pasts then_past given come gone asked

-- ---- a call

-- what is given by it
abbrev pub given_asked : Pair → Asked → PeerState → List Bool
given_asked q (Asks pair call) s = if up s.peer.phase then mine q (Some pair) (given_by call (happened_at pair call s.peer).outcome) else []
given_asked q asked s = []

-- it asks for the connection
abbrev pub asks_for : Pair → Asked → PeerState → Bool
asks_for q (Asks pair call) s = up s.peer.phase && is_mine q (Some pair) (is_ask call)
asks_for q asked s = false

module _ (s : PeerState) (pasts : Pasts) (sound : SoundAll s.peer.ends) (q : Pair) where
  pub asked_lives : (asked : Asked) → HostLives q s (state_after_asked asked s) pasts (pasts_after_asked asked s.peer pasts) (given_asked q asked s) [] [] (asks_for q asked s)
  asked_lives (Asks pair call) = call_lives pair call s.peer pasts sound q
  asked_lives (Asks_echo byte) = echo_lives byte s.peer pasts q
  asked_lives Asks_reset = reset_lives (is_quiet s.slots) s.peer pasts q
  asked_lives Asks_wake = peer_stays q s.peer pasts false

  -- ---- what comes

  pub heard_lives : (c : Command) → HostLives q s (state_hears c s) pasts (of_command c s.peer pasts) [] [] [] (is_mine q (demux_command c s.peer.ends) (is_request_of c))
  heard_lives c = command_lives (is_quiet s.slots) c s.peer pasts sound q

  pub faulted_lives : (fault : CommandFault) → HostLives q s (state_hears_fault fault s) pasts pasts [] [] [] false
  faulted_lives fault = fault_lives fault s.peer pasts q

  -- what is got by a text
  pub got_lives : (on : ℕ) (head : List Bool) (m : Message) → HostLives q s (state_after_text on head m s) pasts (pasts_after_text on head m s.peer pasts) []
      (if up s.peer.phase then mine q (pair_of (receiver_on on s.peer.ends)) (text_took (answer (text_in on m.size m.text s.peer.ends)) m.text) else []) [] false
  got_lives on head m = text_lives on head m.size m.text s.peer pasts sound q

  freed_lives : (on : ℕ) → PeerLives q s.peer (frees_on on s.peer) pasts pasts [] [] [] false
  freed_lives on = go (on == control_link)
    where
      go : (b : Bool) → PeerLives q s.peer (if b then s.peer else frees on s.peer) pasts pasts [] [] [] false
      go true = peer_stays q s.peer pasts false
      go false = answered_lives on s.peer pasts sound q

  answer_lives : (on : ℕ) (how : Answer) (slots : LinkSlots) → PeerLives q s.peer (after_answer on how slots s.peer) pasts pasts [] [] [] false
  answer_lives on Rfnm slots = freed_lives on
  answer_lives on Incomplete slots = peer_stays q s.peer pasts false
  answer_lives on Dead slots = peer_stays q s.peer pasts false

  pub opened_lives : (on : ℕ) (how : Answer) → HostLives q s (answer_comes on how s) pasts pasts [] [] [] false
  opened_lives on how = go (is_answered on s)
    where
      go : (b : Bool) → HostLives q s (if b then answer_taken on how s else record s { counts = record s.counts { stray = one_more s.counts.stray } }) pasts pasts [] [] [] false
      go true = answer_lives on how (with_slot s.slots on (answered how (slot_at s.slots on)))
      go false = peer_stays q s.peer pasts false

  -- ---- sent messages: a text is cut when nothing is on its link

  abbrev pub gone_by : LinkSlot → ℕ → List Bool
  gone_by Empty on = if on == control_link then [] else mine q (pair_of (sender_on on s.peer.ends)) (text_cut (answer (cut_in on s.peer.ends)))
  gone_by (Ready message) on = []
  gone_by (Travelling message) on = []
  gone_by (Held message) on = []

  out_by : (slot : LinkSlot) (on : ℕ) → PeerLives q s.peer (after_by slot on s.peer) pasts pasts [] [] (gone_by slot on) false
  out_by Empty on = go (on == control_link)
    where
      go : (b : Bool) → PeerLives q s.peer (if b then peer_sends s.peer else cuts on s.peer) pasts pasts [] [] (if b then [] else mine q (pair_of (sender_on on s.peer.ends)) (text_cut (answer (cut_in on s.peer.ends)))) false
      go true = peer_stays q s.peer pasts false
      go false = cut_lives on s.peer pasts sound q
  out_by (Ready message) on = peer_stays q s.peer pasts false
  out_by (Travelling message) on = peer_stays q s.peer pasts false
  out_by (Held message) on = peer_stays q s.peer pasts false

  pub out_lives : (on : ℕ) (message : List Bool) → HostLives q s (after_output on message s) pasts pasts [] [] (gone_by (slot_at s.slots on) on) false
  out_lives on message = out_by (slot_at s.slots on) on
