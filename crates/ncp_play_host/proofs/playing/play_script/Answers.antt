use Rattle.std.proofs.Common.{◌≡◌, ◌++◌, ◌∙◌, ℕ, List, Bool, not, Err, ap, subst, rules}
use Rattle.std.proofs.Math.Bool.{or-false}
use Rattle.std.proofs.lemmas.Result.{err_from_is_err_and}
use Rattle.ncp_play_stream.specs.Streams.{RemainingInput}
use Rattle.ncp_transcript.specs.Alone.{Alone}
use Rattle.ncp_play_script.specs.FirstLines.{named_in}
use Rattle.ncp_play_host.specs.Played.{has_refusal, first_line_prefix, AfterDoes}
use Rattle.ncp_play_host.proofs.Telling.{prints_end}
use Rattle.ncp_play_host.proofs.Whole.{begin_renders, after_does, after_done}
use Rattle.ncp_play_host.proofs.playing.play_script.Goals as goal

pub returns-in_err-alone-clause-output : goal.returns-in_err-alone-clause-output
returns-in_err-alone-clause-output g c = λ bytes was e said.
    let p = err_from_is_err_and c.from_residual.result c.from_residual.ensures.1 in
    let ahead : RemainingInput c.new-lines.result.window (g.R.Source.left c.args.source.now) bytes = (bytes, e, ap (λ lines. lines.window ++ bytes) c.new-lines.ensures) in
    rw (p.1, p.2) (
    begin_renders bytes was c.in_err-alone.field-0.0 c.begin.new.lines (g.R.Source.left c.begin.new.source) c.args.out.now.page.now (g.W.Sink.written c.args.out.now.sink.now) (c.in_err-alone.ensures.output bytes ahead) said)

pub returns-in_err-played-clause-output : goal.returns-in_err-played-clause-output
returns-in_err-played-clause-output g c =
    let same_source : c.play_after-played.new.script.source.now ≡ c.source-1.given.0 = search rules in
    rw (← same_source) (
    λ bytes was e said.
    let result = c.from_residual-in_err-played.result in
    let p = err_from_is_err_and result c.from_residual-in_err-played.ensures.1 in
    let ahead : RemainingInput c.new-lines.result.window (g.R.Source.left c.args.source.now) bytes = (bytes, e, ap (λ lines. lines.window ++ bytes) c.new-lines.ensures) in
    let begun = c.in_ok-alone.ensures.output bytes ahead in
    let now = c.play_after-played.new.alone in let left = g.R.Source.left c.play_after-played.new.script.source.now in
    let does =
    subst (λ (peers : List ℕ). AfterDoes peers c.begin.new.lines.number begun.0 c.in_ok-alone.alone (Err c.in_err-played.field-0.0) now left) c.as_slice.ensures.value (c.in_err-played.ensures.events begun.0 begun.3 begun.4) in
    let tells = c.in_err-played.ensures.output was (ap (λ (a : Alone). a.notes) begun.2) said in (
      now.notes,
      tells.0,
      rw (p.1, p.2) (after_does bytes (named_in c.in_ok-alone.hosts) c.in_ok-alone.alone c.in_ok-alone.ended c.begin.new.lines (g.R.Source.left c.begin.new.source) begun c.in_err-played.field-0.0 now left c.in_err-played.ensures.whole c.transcript.ensures.run does),
      prints_end (Unit {0}) Bool was first_line_prefix now.notes result p.0 tells.0 c.play_after-played.new.out.page.now (g.W.Sink.written c.play_after-played.new.out.sink.now) p.1 (rw p.2 tells.1),
    ))

pub returns-in_err-played-clause-source_mark : goal.returns-in_err-played-clause-source_mark
returns-in_err-played-clause-source_mark g c =
    let same_source : c.play_after-played.new.script.source.now ≡ c.source-1.given.0 = search rules in
    rw (← same_source) (
    let p = err_from_is_err_and c.from_residual-in_err-played.result c.from_residual-in_err-played.ensures.1 in
    rw (p.1, p.2) (rw (c.in_ok-alone.ensures.mark ∙ or-false _) at c.in_err-played.ensures.source_mark))

pub returns-clause-output : goal.returns-clause-output
returns-clause-output g c =
    let same_source : c.play_after-played.new.script.source.now ≡ c.source-1.given.0 = search rules in
    rw (← same_source) (
    λ bytes was e said.
    let ahead : RemainingInput c.new-lines.result.window (g.R.Source.left c.args.source.now) bytes = (bytes, e, ap (λ lines. lines.window ++ bytes) c.new-lines.ensures) in
    let begun = c.in_ok-alone.ensures.output bytes ahead in
    let now = c.play_after-played.new.alone in let left = g.R.Source.left c.play_after-played.new.script.source.now in
    let does = rw c.as_slice.ensures.value at (c.in_ok-played.ensures.events begun.0 begun.3 begun.4) in
    let tells = c.in_ok-played.ensures.output was (ap (λ (a : Alone). a.notes) begun.2) said in (
      now.notes,
      tells.0,
      (
        after_done bytes (named_in c.in_ok-alone.hosts) c.in_ok-alone.alone c.in_ok-alone.ended c.begin.new.lines (g.R.Source.left c.begin.new.source) begun now left c.transcript.ensures.run does,
        ap (λ b. not b) (c.has_refusal-good.ensures ∙ ap has_refusal c.transcript.ensures.notes),
      ),
      tells.1,
    ))
