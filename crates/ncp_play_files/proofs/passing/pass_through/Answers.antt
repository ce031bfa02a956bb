use Rattle.std.proofs.Common.{◌≡◌, ◌∙◌, ◌||◌, Bool, true, false, Result, [], sym, ap, subst, rules}
use Rattle.ncp_play_files.specs.declared.file.FileFault.{FileFault}
use Rattle.ncp_play_files.specs.declared.pass.FileEnd.{FileEnd}
use Rattle.ncp_play_files.specs.Results.{is_write_failed}
use Rattle.ncp_play_files.specs.Passes.{Passes}
use Rattle.ncp_play_stream.specs.Streams.{WritesText, WritesPrefixOf}
use Rattle.ncp_play_files.proofs.PassProgress.{broken_before, closed, closed_part}
use Rattle.ncp_play_files.proofs.passing.pass_through.Goals as goal

pub returns-then-failed-clause-output : goal.returns-then-failed-clause-output
returns-then-failed-clause-output g c =
    let same_sink : c.pass_file-passed.new.out.sink.now ≡ c.sink-1.given.0 = search rules in
    rw (← same_sink) (
    λ bytes was e f.
    let passed = c.pass_file-passed in
    let blamed : is_write_failed passed.result ≡ true = sym (passed.ensures.sink_mark ∙ ap (λ b. b || is_write_failed passed.result) c.requires.sink_clean) ∙ sym c.failed.ensures ∙ c.if-failed.true in
    broken_before g.P.Pass.rules (g.P.Pass.rules.state c.args.pass.now) was bytes passed.new.out.page.now (g.S.Source.left passed.new.input.source.now) (g.W.Sink.written passed.new.out.sink.now) (g.W.Sink.written passed.new.out.sink.now) (g.P.Pass.rules.state passed.new.pass) passed.result
    (passed.ensures.output bytes was e f) blamed)

pub returns-in-Ok-clause-output : goal.returns-in-Ok-clause-output
returns-in-Ok-clause-output g c =
    let same_source : c.pass_file-passed.new.input.source.now ≡ c.source-1.given.0 = search rules in
    let same_sink : c.close.new.out.sink.now ≡ c.sink-2-1.given.0 = search rules in
    rw (← same_source, ← same_sink) (
    λ bytes was e f.
    let passed = c.pass_file-passed in
    let rules = g.P.Pass.rules in let now = rules.state passed.new.pass in
    let left = g.S.Source.left passed.new.input.source.now in let written = g.W.Sink.written c.close.new.out.sink.now in
    let mark = passed.ensures.sink_mark ∙ ap (λ b. b || is_write_failed passed.result) c.requires.sink_clean in
    let blamed : is_write_failed passed.result ≡ false = sym mark ∙ sym c.failed.ensures ∙ c.if-failed.false in
    subst (λ (r : Result Bool FileFault). Passes rules (rules.state c.args.pass.now) bytes was left written r) (sym c.result_of.ensures.result)
    (closed rules (rules.state c.args.pass.now) was bytes passed.new.out.page.now left (g.W.Sink.written passed.new.out.sink.now) written now passed.result
    (passed.ensures.output bytes was e f)
    (subst (λ (end : FileEnd). WritesText passed.new.out.page.now (g.W.Sink.written passed.new.out.sink.now) (rules.closing now end) [] written) c.end_of.ensures c.in-Ok.ensures.output) blamed))

pub returns-in-Err-clause-output : goal.returns-in-Err-clause-output
returns-in-Err-clause-output g c =
    let same_sink : c.close.new.out.sink.now ≡ c.sink-2-1.given.0 = search rules in
    rw (← same_sink) (
    λ bytes was e f.
    let passed = c.pass_file-passed in
    let rules = g.P.Pass.rules in let now = rules.state passed.new.pass in
    let written = g.W.Sink.written c.close.new.out.sink.now in
    let mark = passed.ensures.sink_mark ∙ ap (λ b. b || is_write_failed passed.result) c.requires.sink_clean in
    let blamed : is_write_failed passed.result ≡ false = sym mark ∙ sym c.failed.ensures ∙ c.if-failed.false in
    closed_part rules (rules.state c.args.pass.now) was bytes passed.new.out.page.now (g.S.Source.left passed.new.input.source.now) (g.W.Sink.written passed.new.out.sink.now) written now passed.result
    (passed.ensures.output bytes was e f)
    (subst (λ (end : FileEnd). WritesPrefixOf passed.new.out.page.now (g.W.Sink.written passed.new.out.sink.now) (rules.closing now end) written) c.end_of.ensures c.in-Err.ensures.output) blamed)
