-- The findings of a whole file: at each interface, record after record, by an audit that knows of no
-- interface resets. In a file without them there is no difference (`nothing_changes_without_resets`).
use Rattle.std.specs.Prelude.{◌≡◌, ◌≢◌, ◌<◌, ℕ, Bool, false, List, [], ◌∷◌, ◌++◌}
use Rattle.std.specs.List.{filter}
use Rattle.ncp_transcript_two.specs.declared.event.Event.{Event}
use Rattle.ncp_transcript_two.specs.Between.{new_hosts}
use Rattle.ncp_transcript_two.specs.Transcript.{Noted_world, new_world, AreSteps}
use Rattle.ncp_monitor.specs.declared.finding.Finding.{Finding}
use Rattle.ncp_monitor.specs.declared.finding.Rule.{Rule}
use Rattle.ncp_monitor.specs.declared.monitor.Monitor.{Monitor}
use Rattle.ncp_interface.specs.declared.imp_direction.ImpDirection.{ImpDirection}
use Rattle.ncp_monitor.specs.Judged.{new_monitor, record_findings, after_record}
use Rattle.ncp_proof_monitor.specs.Worlds.{world_file}

-- all findings, in order
abbrev pub findings_in : Monitor → List (ℕ × ImpDirection × List Bool) → List Finding
findings_in monitor [] = []
findings_in monitor (one ∷ more) = record_findings monitor one.1 one.0 one.2 ++ findings_in (after_record monitor one.1 one.0 one.2) more

-- those of some rules
abbrev pub found_by : (Rule → Bool) → List Finding → List Finding
found_by judged found = filter (λ finding. judged finding.rule) found

-- For two hosts with the subnet between them, and for any calls and any events of the subnet in any
-- order, no finding in the file of both interfaces is by one of these rules: neither against a host nor
-- against the subnet.
abbrev pub NothingFound : (Rule → Bool) → Type 0
NothingFound judged =
    (a b : ℕ) (given : List Event) (now : Noted_world)
    → a ≢ b → a < 256 → b < 256 → AreSteps given (new_world a b) now
    → found_by judged (findings_in (new_monitor false) (world_file given now.notes (new_hosts a b))) ≡ []
