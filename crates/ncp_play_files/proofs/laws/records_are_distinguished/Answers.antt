use Rattle.ncp_play_files.proofs.Written.{record_exactly, record_ends, record_judged}
use Rattle.ncp_play_files.proofs.Judged.{record_at_judged}
use Rattle.ncp_play_files.proofs.laws.records_are_distinguished.Goals as goal

pub returns-clause-record : goal.returns-clause-record
returns-clause-record c = record_exactly

pub returns-clause-end : goal.returns-clause-end
returns-clause-end c = record_ends

pub returns-clause-fault : goal.returns-clause-fault
returns-clause-fault c = record_judged

pub returns-clause-placed : goal.returns-clause-placed
returns-clause-placed c = record_at_judged
