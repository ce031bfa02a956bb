use Rattle.ncp_play_host.proofs.Incompletes.{nothing_out, begins_at_data, begins_at_control}
use Rattle.ncp_play_host.proofs.laws.restarts_begin_at_the_lowest_link.Goals as goal

pub returns-clause-control : goal.returns-clause-control
returns-clause-control c = begins_at_control

pub returns-clause-data : goal.returns-clause-data
returns-clause-data c = begins_at_data

pub returns-clause-none : goal.returns-clause-none
returns-clause-none c = nothing_out
