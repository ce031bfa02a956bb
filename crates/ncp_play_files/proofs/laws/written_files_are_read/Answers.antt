use Rattle.ncp_play_files.proofs.Again.{written_again, version_of-written, file_holds_written, file_holds_only}
use Rattle.ncp_play_files.proofs.laws.written_files_are_read.Goals as goal

pub returns-clause-record : goal.returns-clause-record
returns-clause-record c = written_again

pub returns-clause-version : goal.returns-clause-version
returns-clause-version c = version_of-written

pub returns-clause-file : goal.returns-clause-file
returns-clause-file c = file_holds_written

pub returns-clause-only : goal.returns-clause-only
returns-clause-only c = file_holds_only
