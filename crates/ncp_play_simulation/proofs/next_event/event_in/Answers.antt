use Rattle.std.proofs.Common.{refl, sym, ap, ◌∙◌}
use Rattle.ncp_play_simulation.proofs.next_event.event_in.Goals as goal

pub returns-in-Ok-Some : goal.returns-in-Ok-Some
returns-in-Ok-Some g c = ap (g.C.Simulation.rules.reads c.args.first.now) (sym c.new.ensures) ∙ sym c.in-Ok-Some.ensures.event ∙ c.in-Ok-Some.field-0-is

pub returns-in-Ok-None : goal.returns-in-Ok-None
returns-in-Ok-None g c = (ap (g.C.Simulation.rules.reads c.args.first.now) (sym c.new.ensures) ∙ sym c.in-Ok-None.ensures.event ∙ c.in-Ok-None.field-0-is, refl)
