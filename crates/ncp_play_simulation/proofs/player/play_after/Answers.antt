use Rattle.std.proofs.Common.{subst, refl, Err, ◌≡◌, rules}
use Rattle.ncp_play_notes.specs.declared.fault.PlayFault.TheVariants.{OutOfMemory}
use Rattle.ncp_play_simulation.specs.NextEvents.{course_of}
use Rattle.ncp_play_simulation.specs.Players.{PlaysLines}
use Rattle.ncp_play_simulation.proofs.PlayedLines.{none_first, plays_finished, good_finished}
use Rattle.ncp_play_simulation.proofs.PlayedScripts.{begins}
use Rattle.ncp_play_simulation.proofs.player.play_after.Goals as goal

pub returns-in_default-clause-output : goal.returns-in_default-clause-output
returns-in_default-clause-output g c =
    let same_sink : c.finish.new.out.sink.now ≡ c.sink-1.given.0 = search rules in
    rw (← same_sink) (
    λ bytes was ahead w none.
    let rules = g.C.Simulation.rules in let first = c.args.first.now in let rendering = g.T.Renderer.rendering first in let number = c.args.script.now.lines.now.number in
    let new = rules.begun first in let left = g.R.Source.left c.args.script.now.source.now in
    let so_far = begins rules rendering first was c.begin.new.page new (g.W.Sink.written c.args.sink.now) (g.met.C.Simulation.noted_none first) refl c.begin.ensures w in (
      new,
      plays_finished rules first number bytes new new left (Err OutOfMemory) c.finish.result (none_first rules (course_of rules first number bytes) new) c.finish.ensures.same,
      g.met.C.Simulation.run_none first c.requires.proper,
      c.finish.ensures.output rendering new was new 1 so_far,
      good_finished rules (rules.notes new) (Err OutOfMemory) c.finish.result tt c.finish.ensures.same,
    ))

pub returns-clause-output : goal.returns-clause-output
returns-clause-output g c =
    let same_sink : c.finish-2.new.out.sink.now ≡ c.sink-2-1.given.0 = search rules in
    rw (← same_sink) (
    λ bytes was ahead w none.
    let rules = g.C.Simulation.rules in let first = c.args.first.now in let rendering = g.T.Renderer.rendering first in let number = c.args.script.now.lines.now.number in
    let new = rules.begun first in let left = g.R.Source.left c.play_all-played.new.script.source.now in
    let now = c.play_all-played.new.player in let played = c.play_all-played.result in
    let so_far = c.play_all-played.ensures.output new was (begins rules rendering first was c.begin.new.page c.in-Ok.hosts (g.W.Sink.written c.args.sink.now) (g.met.C.Simulation.noted_none first) c.in-Ok.ensures c.begin.ensures w) in
    let events = subst (λ (hosts : g.row.C-Hosts.Denot). PlaysLines rules first number bytes hosts played now.hosts left) c.in-Ok.ensures (c.play_all-played.ensures.events bytes ahead none) in (
      now.hosts,
      plays_finished rules first number bytes new now.hosts left played c.finish-2.result events c.finish-2.ensures.same,
      c.play_all-played.ensures.run,
      c.finish-2.ensures.output rendering new was now.hosts now.number so_far,
      good_finished rules (rules.notes now.hosts) played c.finish-2.result c.play_all-played.ensures.good c.finish-2.ensures.same,
    ))
