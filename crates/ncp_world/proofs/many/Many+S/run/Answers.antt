use Rattle.ncp_transcript_many.proofs.ManyRuns.{next-event, all-noted}
use Rattle.ncp_world.proofs.many.Many+S.run.Goals as goal

pub loop-event-init : goal.loop-event-init
loop-event-init g c = λ last steps. steps

pub loop-event-preserved : goal.loop-event-preserved
loop-event-preserved g c = λ last rest.
    c.loop-event.invariant last (next-event c.args.events.now c.loop-event.event-index c.event-item.result c.loop-event.many c.happen.new.self last c.loop-event-test.true c.event-item.is c.in_ok-happen.ensures.step rest)

pub returns-clause-notes : goal.returns-clause-notes
returns-clause-notes g c = (all-noted c.args.events.now c.loop-event.event-index c.args.hosts.now c.in_ok-many.many c.loop-event.many c.in_ok-many.ensures.many c.loop-event.invariant c.loop-event-test.false).0

pub returns-clause-hosts : goal.returns-clause-hosts
returns-clause-hosts g c = (all-noted c.args.events.now c.loop-event.event-index c.args.hosts.now c.in_ok-many.many c.loop-event.many c.in_ok-many.ensures.many c.loop-event.invariant c.loop-event-test.false).1

pub returns-clause-headline : goal.returns-clause-headline
returns-clause-headline g c = c.keeps.ensures.headline

pub returns-clause-run : goal.returns-clause-run
returns-clause-run g c = c.keeps.ensures.run

pub returns-clause-taken : goal.returns-clause-taken
returns-clause-taken g c = c.keeps.ensures.taken

pub returns-clause-within_budget : goal.returns-clause-within_budget
returns-clause-within_budget g c = c.keeps.ensures.within_budget

pub returns-clause-finished : goal.returns-clause-finished
returns-clause-finished g c = c.keeps.ensures.finished
