use Rattle.std.proofs.Common.{◌∙◌, ℕ, if◌then◌else◌, Some, ap, subst}
use Rattle.ncp_play_stream.specs.Streams.{WritesText, WritesPrefixOf}
use Rattle.ncp_web.specs.Sessions.{note_number}
use Rattle.ncp_web.proofs.stepping.noted.Goals as goal

pub returns-in-Ok-say-clause-notes : goal.returns-in-Ok-say-clause-notes
returns-in-Ok-say-clause-notes g c =
    let rules = g.C.Simulation.rules in let rendering = g.T.Renderer.rendering c.args.first.now in let before = c.args.hosts.now in let hosts = c.step.new.hosts in let page = c.args.out.now.page.now in
    let old = Some c.args.out.now.sink.now.written in let now = Some c.say.new.out.sink.now.written in let last = c.say.new.out.page.now in let more = c.in-Ok.more in
    let part = c.in-Ok.ensures.part in
    let one = g.met.C.Simulation.noted_one c.args.event.now c.args.left.now more before hosts part in
    let number = c.number_of.ensures ∙ ap note_number c.told.ensures in
    let left = c.left_then.ensures ∙ ap (λ (n : ℕ). if more then n else 0) c.in-Some.ensures.1 in
    (one.0, (part, one.1), left, subst (λ (n : ℕ). WritesText page old (rendering.of_note n one.0 hosts) last now) number (c.in-Ok-say.ensures.output (rules.notes before) one.0 one.1))

pub returns-in-Err-clause-notes : goal.returns-in-Err-clause-notes
returns-in-Err-clause-notes g c =
    let rules = g.C.Simulation.rules in let rendering = g.T.Renderer.rendering c.args.first.now in let before = c.args.hosts.now in let hosts = c.step.new.hosts in let page = c.args.out.now.page.now in
    let old = Some c.args.out.now.sink.now.written in let now = Some c.say.new.out.sink.now.written in let more = c.in-Ok.more in
    let part = c.in-Ok.ensures.part in
    let one = g.met.C.Simulation.noted_one c.args.event.now c.args.left.now more before hosts part in
    let number = c.number_of.ensures ∙ ap note_number c.told.ensures in
    let left = c.left_then.ensures ∙ ap (λ (n : ℕ). if more then n else 0) c.in-Some.ensures.1 in
    (more, one.0, (part, one.1), left, subst (λ (n : ℕ). WritesPrefixOf page old (rendering.of_note n one.0 hosts) now) number (c.in-Err.ensures.output (rules.notes before) one.0 one.1))
