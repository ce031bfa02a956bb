use Rattle.std.proofs.Common.{ap}
use Rattle.ncp_play_notes.specs.Faults.{name_of_play_fault}
use Rattle.ncp_play_notes.proofs.fault.PlayFault.name.Goals as goal

pub returns-in-Feed : goal.returns-in-Feed
returns-in-Feed c = let named = ap name_of_play_fault c.in-Feed.is in cc
