use Rattle.std.proofs.Common.{List}
use Rattle.ncp_transcript_two.specs.World.{World, WorldEvent, swap, world_run_from}
use Rattle.ncp_transcript_two.specs.Watch.{turn, no_histories, histories_from}
use Rattle.ncp_transcript_two.specs.Tie.{IsNewWorld, AreEvents}
use Rattle.ncp_transcript_two.proofs.Runs.{OfModelWith, run-watched, new-watched}
use Rattle.ncp_transcript_two.proofs.Carried.{got-begins, got-held, got-within, counterpart-over}
use Rattle.ncp_transcript_two.proofs.laws.streams_are_kept.Goals as goal

whole : (v : World) (es : List WorldEvent) → IsNewWorld v → AreEvents es → OfModelWith (histories_from es v no_histories) (world_run_from es v)
whole v es new ok = run-watched es v no_histories ok (new-watched v new)

pub returns-clause-beginning : goal.returns-clause-beginning
returns-clause-beginning c = λ v es pair new ok s. (let p = histories_from es v no_histories in let t = whole v es new ok in (got-begins pair s (world_run_from es v) p t, got-begins pair s (swap (world_run_from es v)) (turn p) (counterpart-over (world_run_from es v) p t)))

pub returns-clause-held : goal.returns-clause-held
returns-clause-held c = λ v es pair new ok s. (let p = histories_from es v no_histories in let t = whole v es new ok in (got-held pair s (world_run_from es v) p t, got-held pair s (swap (world_run_from es v)) (turn p) (counterpart-over (world_run_from es v) p t)))

pub returns-clause-allocation : goal.returns-clause-allocation
returns-clause-allocation c = λ v es pair new ok s. (let p = histories_from es v no_histories in let t = whole v es new ok in (got-within pair s (world_run_from es v) p t, got-within pair s (swap (world_run_from es v)) (turn p) (counterpart-over (world_run_from es v) p t)))
