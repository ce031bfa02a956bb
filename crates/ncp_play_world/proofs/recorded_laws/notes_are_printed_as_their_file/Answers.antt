use Rattle.ncp_play_world.proofs.Tellings.{printed_is_file, printed_is_file_of_many}
use Rattle.ncp_play_world.proofs.recorded_laws.notes_are_printed_as_their_file.Goals as goal

pub returns-clause-two : goal.returns-clause-two
returns-clause-two c = printed_is_file

pub returns-clause-many : goal.returns-clause-many
returns-clause-many c = printed_is_file_of_many
