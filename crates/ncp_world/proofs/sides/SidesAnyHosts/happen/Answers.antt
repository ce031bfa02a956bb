use Rattle.std.proofs.Common.{IfOk, sym, subst}
use Rattle.ncp_transcript_two.specs.declared.event.Event.{Event}
use Rattle.ncp_transcript_two.specs.Happening.{Noted}
use Rattle.ncp_world.proofs.sides.SidesAnyHosts.happen.Goals as goal

pub returns-in-Out-clause-note : goal.returns-in-Out-clause-note
returns-in-Out-clause-note g c = subst (λ (e : Event). IfOk c.out.result (λ note. Noted e note c.args.self.now)) (sym c.in-Out.is) c.out.ensures.note
