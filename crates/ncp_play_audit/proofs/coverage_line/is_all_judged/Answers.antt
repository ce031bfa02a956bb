use Rattle.std.proofs.Common.{◌∙◌, sym, ap, arith}
use Rattle.ncp_monitor.specs.Coverage.{is_excused}
use Rattle.ncp_play_audit.specs.CoverageLines.{unjudged_at}
use Rattle.ncp_play_audit.proofs.Places.{places_more, not_all_places, places_all}
use Rattle.ncp_play_audit.proofs.coverage_line.is_all_judged.Goals as goal

pub loop-place-preserved : goal.loop-place-preserved
loop-place-preserved c =
    places_more (λ place. is_excused (unjudged_at c.args.monitor.now c.args.coverage.now place)) c.loop-place.place c.loop-place-test.true c.loop-place.invariant
    (sym (c.is_excused.ensures ∙ ap is_excused c.unjudged_at.ensures) ∙ c.if-not-is_excused.false)

pub returns-then-not-is_excused : goal.returns-then-not-is_excused
returns-then-not-is_excused c =
    sym (
    not_all_places (λ place. is_excused (unjudged_at c.args.monitor.now c.args.coverage.now place)) c.loop-place.place c.loop-place-test.true
    (sym (c.is_excused.ensures ∙ ap is_excused c.unjudged_at.ensures) ∙ c.if-not-is_excused.true))

pub returns : goal.returns
returns c =
    sym (places_all (λ place. is_excused (unjudged_at c.args.monitor.now c.args.coverage.now place)) c.loop-place.place (omega (arith, c.loop-place-test.false)) c.loop-place.invariant)
