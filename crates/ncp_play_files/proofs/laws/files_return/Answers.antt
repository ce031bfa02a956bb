use Rattle.ncp_play_files.proofs.Returning.{files_come_back}
use Rattle.ncp_play_files.proofs.laws.files_return.Goals as goal

pub returns : goal.returns
returns c = files_come_back
