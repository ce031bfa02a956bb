use Rattle.std.proofs.Common.{Bool, List, Option, Some, refl, ap, ◌∙◌}
use Rattle.ncp_step.specs.Noted.{note_if_any}
use Rattle.ncp_step.proofs.steps.comes.Goals as goal

pub returns-clause-note : goal.returns-clause-note
returns-clause-note g c = ap Some c.hear_in_room.ensures.note ∙ ap (λ (bits : Option (List Bool)). note_if_any bits c.args.host.now) c.in-Some.ensures.message

pub returns-clause-host : goal.returns-clause-host
returns-clause-host g c = c.hear_in_room.ensures.host

pub returns-clause-subnet : goal.returns-clause-subnet
returns-clause-subnet g c = c.in-Some.ensures.some

pub returns-in_default-clause-note : goal.returns-in_default-clause-note
returns-in_default-clause-note g c = ap (λ (bits : Option (List Bool)). note_if_any bits c.args.host.now) c.in_default.ensures.message

pub returns-in_default-clause-host : goal.returns-in_default-clause-host
returns-in_default-clause-host g c = refl

pub returns-in_default-clause-subnet : goal.returns-in_default-clause-subnet
returns-in_default-clause-subnet g c = c.in_default.ensures.none
