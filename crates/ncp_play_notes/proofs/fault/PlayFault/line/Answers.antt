use Rattle.std.proofs.Common.{sym, ap}
use Rattle.ncp_play_notes.specs.Faults.{line_of}
use Rattle.ncp_play_notes.proofs.fault.PlayFault.line.Goals as goal

pub returns-in-LineTooLong : goal.returns-in-LineTooLong
returns-in-LineTooLong c = ap line_of (sym c.in-LineTooLong.is)
