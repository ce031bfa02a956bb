use Rattle.std.proofs.Common.{◌≡◌, refl}
use Rattle.ncp_transcript_many.specs.declared.many_event.ManyEvent.{ManyEvent}
use Rattle.ncp_transcript_many.specs.declared.many_event.ManyEvent.TheVariants as events
use Rattle.ncp_transcript_many.specs.ManyHappening.{ends_of, as_of_two, event_by_numbers}
use Rattle.ncp_transcript_many.proofs.examples.an_event_of_many_is_one_of_two.Goals as goal

same : (event : ManyEvent) → event_by_numbers (ends_of event).0 (ends_of event).1 (as_of_two event) ≡ event
same (events.Call host call) = refl
same (events.Out host) = refl
same (events.Deliver from to link) = refl
same (events.Lose from to link) = refl
same (events.Dead from to link) = refl
same (events.Answer from to link) = refl

pub returns-clause-turned_back : goal.returns-clause-turned_back
returns-clause-turned_back c = same
