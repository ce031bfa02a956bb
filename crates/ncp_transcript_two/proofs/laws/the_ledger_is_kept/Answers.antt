use Rattle.std.proofs.Common.{List}
use Rattle.ncp_transcript_two.specs.World.{World, WorldEvent, swap, world_run_from}
use Rattle.ncp_transcript_two.specs.Watch.{turn, no_histories, histories_from}
use Rattle.ncp_transcript_two.specs.Tie.{IsNewWorld, AreEvents}
use Rattle.ncp_transcript_two.proofs.Runs.{OfModelWith, run-watched, new-watched}
use Rattle.ncp_transcript_two.proofs.Carried.{counterpart-over}
use Rattle.ncp_transcript_two.proofs.Underway.{amounts-carried, parted-carried}
use Rattle.ncp_transcript_two.proofs.laws.the_ledger_is_kept.Goals as goal

whole : (v : World) (es : List WorldEvent) → IsNewWorld v → AreEvents es → OfModelWith (histories_from es v no_histories) (world_run_from es v)
whole v es new ok = run-watched es v no_histories ok (new-watched v new)

pub returns-clause-amounts : goal.returns-clause-amounts
returns-clause-amounts c = λ v es pair new ok s. (let p = histories_from es v no_histories in let t = whole v es new ok in (amounts-carried pair s (world_run_from es v) p t, amounts-carried pair s (swap (world_run_from es v)) (turn p) (counterpart-over (world_run_from es v) p t)))

pub returns-clause-parted : goal.returns-clause-parted
returns-clause-parted c = λ v es pair new ok s. (let p = histories_from es v no_histories in let t = whole v es new ok in (parted-carried pair s (world_run_from es v) p t, parted-carried pair s (swap (world_run_from es v)) (turn p) (counterpart-over (world_run_from es v) p t)))
