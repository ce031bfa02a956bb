use Rattle.std.proofs.Common.{ℕ, sym, subst}
use Rattle.ncp_play_simulation.specs.Playing.{Tells}
use Rattle.ncp_play_simulation.proofs.OneEvent.{prints_one, prints_one_broken}
use Rattle.ncp_play_simulation.proofs.playing.play_part.Goals as goal

pub returns-in_default-clause-output : goal.returns-in_default-clause-output
returns-in_default-clause-output g c = λ began was told.
    subst (λ (hosts : g.row.C-Hosts.Denot). Tells g.C.Simulation.rules (g.T.Renderer.rendering c.args.first.now) began was hosts c.args.player.now.number c.args.out.now.page.now (g.W.Sink.written c.args.out.now.sink.now)) (sym c.in_default.ensures.err) told

pub returns-in-Ok-say-clause-output : goal.returns-in-Ok-say-clause-output
returns-in-Ok-say-clause-output g c = λ began was told.
    let w = g.W.Sink in let rules = g.C.Simulation.rules in let rendering = g.T.Renderer.rendering c.args.first.now in let before = c.args.player.now.hosts in let page = c.args.out.now.page.now in let number = c.args.player.now.number in
    let old = w.written c.args.out.now.sink.now in let now = w.written c.say.new.out.sink.now in let last = c.say.new.out.page.now in let hosts = c.step.new.hosts in
    let one = g.met.C.Simulation.noted_one c.args.event.now c.args.left c.in-Ok.more before hosts c.in-Ok.ensures.part in
    let says = c.in-Ok-say.ensures.output (rules.notes before) one.0 one.1 in
    subst (λ (next : ℕ). Tells rules rendering began was hosts next last now) (sym c.saturating_add-player.ensures) (prints_one rules rendering began was number before hosts one.0 page old told one.1 one.2 last now says)

pub returns-in-Err-clause-output : goal.returns-in-Err-clause-output
returns-in-Err-clause-output g c = λ began was told.
    let w = g.W.Sink in let rules = g.C.Simulation.rules in let rendering = g.T.Renderer.rendering c.args.first.now in let before = c.args.player.now.hosts in let page = c.args.out.now.page.now in let number = c.args.player.now.number in
    let old = w.written c.args.out.now.sink.now in let now = w.written c.say.new.out.sink.now in let hosts = c.step.new.hosts in
    let one = g.met.C.Simulation.noted_one c.args.event.now c.args.left c.in-Ok.more before hosts c.in-Ok.ensures.part in
    let says = c.in-Err.ensures.output (rules.notes before) one.0 one.1 in
    prints_one_broken rules rendering began was number before hosts one.0 page old told one.1 one.2 now says
