use Rattle.std.proofs.Common.{ℕ, List, [], true, refl, subst}
use Rattle.ncp_proof_machine.specs.Resets.{Party}
use Rattle.ncp_transcript_two.specs.World.{World, WorldEvent, notes_from}
use Rattle.ncp_transcript_two.specs.Honest.{number_of_side, message_events_in}
use Rattle.ncp_transcript_two.specs.Tie.{IsNewWorld, AreEvents}
use Rattle.ncp_transcript_two.proofs.Runs.{new-ties}
use Rattle.ncp_transcript_two.proofs.Turns.{Flight, Idle, Flies, honest, begins, repeats}
use Rattle.ncp_transcript_two.proofs.Flights.{flies, new-idle}
use Rattle.ncp_transcript_two.proofs.laws.subnets_are_honest.Goals as goal

each : (v : World) (es : List WorldEvent) → IsNewWorld v → AreEvents es → (side : Party) (on : ℕ) → Flies (number_of_side v.here v.there side) Idle (message_events_in side on (notes_from es v))
each v es new ok side on = subst (λ (f : Flight). Flies (number_of_side v.here v.there side) f (message_events_in side on (notes_from es v))) (new-idle v new side on) (flies es v ok (new-ties v new) side on)

pub returns-clause-honest : goal.returns-clause-honest
returns-clause-honest c = λ v es new ok side on. honest (number_of_side v.here v.there side) Idle (message_events_in side on (notes_from es v)) (each v es new ok side on)

pub returns-clause-came : goal.returns-clause-came
returns-clause-came c = λ v es new ok side on. begins (number_of_side v.here v.there side) Idle true (message_events_in side on (notes_from es v)) refl (each v es new ok side on)

pub returns-clause-again : goal.returns-clause-again
returns-clause-again c = λ v es new ok side on. repeats (number_of_side v.here v.there side) Idle [] true (message_events_in side on (notes_from es v)) refl tt (each v es new ok side on)
