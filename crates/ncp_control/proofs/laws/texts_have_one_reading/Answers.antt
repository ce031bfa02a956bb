use Rattle.ncp_control.proofs.Reading.{reads, only, first_ones}
use Rattle.ncp_control.proofs.laws.texts_have_one_reading.Goals as goal

pub returns-clause-reads : goal.returns-clause-reads
returns-clause-reads c = reads

pub returns-clause-only : goal.returns-clause-only
returns-clause-only c = λ bytes rest commands small is. (only commands bytes rest small is).0

pub returns-clause-only_rest : goal.returns-clause-only_rest
returns-clause-only_rest c = λ bytes rest commands small is. (only commands bytes rest small is).1

pub returns-clause-longest : goal.returns-clause-longest
returns-clause-longest c bytes more others = first_ones others bytes more
