-- A host that went down, and comes up again by the reset of its peer.
use Rattle.std.proofs.Common.{◌≡◌, ℕ, ◌∷◌, ◌++◌, List, Bool, Option, refl, ap}
use Rattle.ncp_slot.specs.Slot.{ready_message}
use Rattle.ncp_model.specs.Effect.{answer}
use Rattle.ncp_model.specs.Ends.{cut_in}
use Rattle.ncp_proof_machine.specs.Delivery.{Empty}
use Rattle.ncp_proof_machine.specs.Resets.{Party, This, That}
use Rattle.ncp_proof_machine.specs.Hosts.{TwoNodes, Falls, NodeStep, Sends, Sends_text, Wakes, all_empty, run}
use Rattle.ncp_proof_machine.specs.HostRuns.{by, comes_up}
use Rattle.ncp_proof_machine.specs.Moving.{put_if_any, as_text}
use Rattle.ncp_proof_machine.proofs.Standing.{nothing_out}
use Rattle.ncp_proof_progress.specs.HostsWork.{moved_at, held_texts, one_if_any}
use Rattle.ncp_proof_progress.specs.Idle.{IsSettledInModel}
use Rattle.ncp_proof_recovery.specs.Recovery.{HaveRecovered}

abbrev again : TwoNodes
again = run (comes_up This ++ by That Falls ∷ comes_up This)

still : (side : Party) (step : NodeStep) → moved_at side step again ≡ 0
unfolding held_texts all_empty
still This (Sends n) = refl
still That (Sends n) = refl
still This (Sends_text on) = ap (λ (o : Option (ℕ × List Bool)). one_if_any (ready_message (put_if_any (as_text o) Empty))) (nothing_out on)
still That (Sends_text on) = ap (λ (o : Option (ℕ × List Bool)). one_if_any (ready_message (put_if_any (as_text o) Empty))) (nothing_out on)
still This Wakes = refl
still That Wakes = refl
still This step = refl
still That step = refl

pub fallen-settled : IsSettledInModel again
fallen-settled side step l = still side step

pub fallen-recovered : HaveRecovered again
unfolding all_empty
fallen-recovered = (record { up = refl; ends = refl; echo = refl }, record { up = refl; ends = refl; echo = refl })
