use Rattle.std.proofs.Common.{List, ℕ, sym, ap, ◌∙◌, ◌≡◌, rules}
use Rattle.ncp_play_script.specs.Words.{words_of}
use Rattle.ncp_play_simulation.proofs.AskedLines.{first_bad}
use Rattle.ncp_play_simulation.proofs.PlayedScripts.{none_following, plays_after}
use Rattle.ncp_play_simulation.proofs.player.play_first.Goals as goal

pub returns-in_default-clause-output : goal.returns-in_default-clause-output
returns-in_default-clause-output g c = λ bytes was found w.
    let rules = g.C.Simulation.rules in
    let none = ap rules.first (sym c.new.ensures) ∙ sym c.in_default.ensures.first in (
      first_bad rules 1 bytes found.0 found.1 c.args.lines.now (g.R.Source.left c.args.source.now) c.text.result.now found.2 (c.text.ensures ∙ found.4) none,
      w,
    )

pub returns-clause-output : goal.returns-clause-output
returns-clause-output g c =
    let same_source : c.play_after.new.script.source.now ≡ c.source-1.given.0 = search rules in
    rw (← same_source) (
    λ bytes was found w.
    let rules = g.C.Simulation.rules in let lines = c.args.lines.now in let read = g.R.Source.left c.args.source.now in
    let named = c.in-Some.first in let rendering = g.T.Renderer.rendering in let ended = c.args.ended in
    let left = g.R.Source.left c.play_after.new.script.source.now in let written = g.W.Sink.written c.play_after.new.sink in
    let some = ap (λ (t : List ℕ). rules.first (words_of t)) (sym found.4 ∙ sym c.text.ensures) ∙ ap rules.first (sym c.new.ensures) ∙ sym c.in-Some.ensures.first in
    let none = none_following rules rendering bytes was named lines left written found.0 found.1 read found.2 some ended found.3 in
    plays_after rules rendering bytes was named lines left written found.0 found.1 read found.2 some ended found.3 c.play_after.result c.play_after.ensures.unread
    (c.play_after.ensures.output found.1.behind was found.2.3 w none))
