use Rattle.ncp_model.proofs.FreeLinks.{free-from, free-lowest, free-free, free-room}
use Rattle.ncp_model.proofs.links.receivers_take_the_lowest_free_link.Goals as goal

pub returns-clause-from : goal.returns-clause-from
returns-clause-from c = free-from

pub returns-clause-lowest : goal.returns-clause-lowest
returns-clause-lowest c = free-lowest

pub returns-clause-free : goal.returns-clause-free
returns-clause-free c = free-free

pub returns-clause-room : goal.returns-clause-room
returns-clause-room c = free-room
