use Rattle.std.proofs.Common.{List}
use Rattle.ncp_proof_machine.specs.Hosts.{NodeEvent}
use Rattle.ncp_proof_machine.proofs.HostsStand.{ever-stand}
use Rattle.ncp_proof_machine.proofs.hosts.ends_stand_only_while_up.Goals as goal

pub returns-clause-none : goal.returns-clause-none
returns-clause-none c = λ (events : List NodeEvent). (ever-stand events).0.none

pub returns-clause-none_too : goal.returns-clause-none_too
returns-clause-none_too c = λ (events : List NodeEvent). (ever-stand events).1.none

pub returns-clause-sound : goal.returns-clause-sound
returns-clause-sound c = λ (events : List NodeEvent). (ever-stand events).0.good.sound

pub returns-clause-sound_too : goal.returns-clause-sound_too
returns-clause-sound_too c = λ (events : List NodeEvent). (ever-stand events).1.good.sound

pub returns-clause-pairwise_distinct : goal.returns-clause-pairwise_distinct
returns-clause-pairwise_distinct c = λ (events : List NodeEvent). (ever-stand events).0.good.heard

pub returns-clause-distinct_too : goal.returns-clause-distinct_too
returns-clause-distinct_too c = λ (events : List NodeEvent). (ever-stand events).0.good.asked
