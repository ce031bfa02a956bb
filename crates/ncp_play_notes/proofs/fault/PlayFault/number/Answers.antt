use Rattle.std.proofs.Common.{sym, ap}
use Rattle.ncp_play_notes.specs.Faults.{number_of_play_fault}
use Rattle.ncp_play_notes.proofs.fault.PlayFault.number.Goals as goal

pub returns-in-BadHosts : goal.returns-in-BadHosts
returns-in-BadHosts c = ap number_of_play_fault (sym c.in-BadHosts.is)
