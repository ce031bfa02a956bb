-- What waits at a host for a peer, and the texts of its ends that are out: nothing of it is seen.
use Rattle.std.specs.Prelude.{◌≡◌, ℕ, ◌==◌, not, ◌||◌, Bool, true, false, List}
use Rattle.std.specs.FinMap.{get}
use Rattle.std.specs.List.{list_any}
use Rattle.ncp_slot.specs.Slot.{is_empty}
use Rattle.ncp_slot.specs.Slots.{LinkSlots, slot_at}
use Rattle.ncp_model.specs.declared.pair.Pair.{Pair}
use Rattle.ncp_model.specs.Phase.{Phase}
use Rattle.ncp_model.specs.Peers.{Peer}
use Rattle.ncp_proof_progress.specs.Idle.{LeavingAt}
use Rattle.ncp_peer.specs.Soundness.{Agree}
use Rattle.ncp_interface.specs.declared.sent_message.SentMessage.{SentMessage}
use Rattle.ncp_interface.specs.Slots.{is_busy_on}
use Rattle.ncp_proof_monitor_allocation.proofs.Proper.{AllProper, ProperEnds}
use Rattle.ncp_proof_monitor_host.proofs.BusySlots.{BusySlots}

-- no reset is due
abbrev pub is_unreset : Phase → Bool
is_unreset p = not (p.down || p.want || p.owe)

pub record Carries (p : Peer) (slots : LinkSlots) : Type 0 where
  pub proper : AllProper p.phase.waiting
  pub sexes : ProperEnds p.ends
  pub busy : is_unreset p.phase ≡ true → BusySlots p.ends slots
  pub agree : Agree p.ends slots
  pub leaving : (q : Pair) → LeavingAt q (get p.ends q)

-- what is kept of the data links shows which of them have a message
abbrev pub ShowsBusy : ℕ → ℕ → List SentMessage → LinkSlots → Type 0
ShowsBusy me n kept slots = (on : ℕ) → (on == 0) ≡ false → is_empty (slot_at slots on) ≡ not (list_any (is_busy_on me n on) kept)
