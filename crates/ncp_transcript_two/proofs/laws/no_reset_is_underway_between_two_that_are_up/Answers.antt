use Rattle.std.proofs.Common.{List}
use Rattle.ncp_transcript_two.specs.World.{World, WorldEvent, swap, world_run_from}
use Rattle.ncp_transcript_two.specs.Watch.{turn, no_histories, histories_from}
use Rattle.ncp_transcript_two.specs.Tie.{IsNewWorld, AreEvents}
use Rattle.ncp_transcript_two.proofs.Runs.{OfModelWith, run-watched, new-watched}
use Rattle.ncp_transcript_two.proofs.Carried.{counterpart-over}
use Rattle.ncp_transcript_two.proofs.Underway.{no-reset-carried}
use Rattle.ncp_transcript_two.proofs.laws.no_reset_is_underway_between_two_that_are_up.Goals as goal

whole : (v : World) (es : List WorldEvent) → IsNewWorld v → AreEvents es → OfModelWith (histories_from es v no_histories) (world_run_from es v)
whole v es new ok = run-watched es v no_histories ok (new-watched v new)

pub returns : goal.returns
returns c = λ v es new ok. (let p = histories_from es v no_histories in let t = whole v es new ok in (no-reset-carried (world_run_from es v) p t, no-reset-carried (swap (world_run_from es v)) (turn p) (counterpart-over (world_run_from es v) p t)))
