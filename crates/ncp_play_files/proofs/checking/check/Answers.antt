use Rattle.std.proofs.Common.{◌≡◌, ◌∙◌, ◌++◌, ◌||◌, true, false, List, ℕ, sym, ap, rules}
use Rattle.std.proofs.lemmas.Result.{err_from_is_err_and}
use Rattle.ncp_play_files.specs.Checked.{totals_line}
use Rattle.ncp_play_files.proofs.Checks.{checked_ok, checked_broken, checked_fault}
use Rattle.ncp_play_files.specs.Results.{is_read}
use Rattle.ncp_play_files.proofs.Limits.{reads_done}
use Rattle.ncp_play_files.proofs.checking.check.Goals as goal

pub returns-in_err-tally-clause-output : goal.returns-in_err-tally-clause-output
returns-in_err-tally-clause-output g c =
    let same_source : c.totals_file.new.input.source.now ≡ c.source-1.given.0 = search rules in
    rw (← same_source) (
    λ bytes was e f.
    let p = err_from_is_err_and c.from_residual.result c.from_residual.ensures.1 in
    rw (p.1, p.2) (checked_fault bytes was (g.S.Source.left c.totals_file.new.input.source.now) (g.W.Sink.written c.args.sink.now) c.in_err-tally.field-0.0 (c.in_err-tally.ensures.output bytes e) f))

pub returns-in-Ok-clause-output : goal.returns-in-Ok-clause-output
returns-in-Ok-clause-output g c = λ bytes was e f.
    let page : c.push_totals.new.page ≡ totals_line c.in_ok-tally.tally = c.push_totals.ensures ∙ ap (λ (page : List ℕ). page ++ totals_line c.in_ok-tally.tally) c.new-page.ensures in
    checked_ok bytes was c.push_totals.new.page c.flush.new.self (g.S.Source.left c.totals_file.new.input.source.now) (g.W.Sink.written c.args.sink.now) (g.W.Sink.written c.flush.new.sink) c.in_ok-tally.tally c.is_sound.result (c.in_ok-tally.ensures.output bytes e) f page c.in-Ok.ensures.ok
    c.is_sound.ensures

pub returns-in-Err-clause-output : goal.returns-in-Err-clause-output
returns-in-Err-clause-output g c = λ bytes was e f.
    let page : c.push_totals.new.page ≡ totals_line c.in_ok-tally.tally = c.push_totals.ensures ∙ ap (λ (page : List ℕ). page ++ totals_line c.in_ok-tally.tally) c.new-page.ensures in
    checked_broken bytes was c.push_totals.new.page (g.S.Source.left c.totals_file.new.input.source.now) (g.W.Sink.written c.args.sink.now) (g.W.Sink.written c.flush.new.sink) c.in_ok-tally.tally (c.in_ok-tally.ensures.output bytes e) f page c.in-Err.ensures.err

pub returns-in_err-tally-clause-reads : goal.returns-in_err-tally-clause-reads
returns-in_err-tally-clause-reads g c =
    let same_source : c.totals_file.new.input.source.now ≡ c.source-1.given.0 = search rules in
    rw (← same_source) (
    λ bytes e.
    let s = g.S.Source in
    reads_done s.gives_all (s.reads c.args.source.now) (s.reads c.totals_file.new.input.source.now) 1 bytes (s.left c.totals_file.new.input.source.now) (rw e at c.in_err-tally.ensures.reads))

pub returns-in-Ok-clause-reads : goal.returns-in-Ok-clause-reads
returns-in-Ok-clause-reads g c =
    let same_source : c.totals_file.new.input.source.now ≡ c.source-1.given.0 = search rules in
    rw (← same_source) (
    λ bytes e.
    let s = g.S.Source in
    reads_done s.gives_all (s.reads c.args.source.now) (s.reads c.totals_file.new.input.source.now) 1 bytes (s.left c.totals_file.new.input.source.now) (rw e at c.in_ok-tally.ensures.reads))

pub returns-in-Err-clause-reads : goal.returns-in-Err-clause-reads
returns-in-Err-clause-reads g c =
    let same_source : c.totals_file.new.input.source.now ≡ c.source-1.given.0 = search rules in
    rw (← same_source) (
    λ bytes e.
    let s = g.S.Source in
    reads_done s.gives_all (s.reads c.args.source.now) (s.reads c.totals_file.new.input.source.now) 1 bytes (s.left c.totals_file.new.input.source.now) (rw e at c.in_ok-tally.ensures.reads))

pub returns-in_err-tally-clause-read_failed : goal.returns-in_err-tally-clause-read_failed
returns-in_err-tally-clause-read_failed g c =
    let same_source : c.totals_file.new.input.source.now ≡ c.source-1.given.0 = search rules in
    rw (← same_source) (
    let p = err_from_is_err_and c.from_residual.result c.from_residual.ensures.1 in
    rw (p.1, p.2) (c.in_err-tally.ensures.mark ∙ ap (λ b. b || is_read c.in_err-tally.field-0.0) c.requires.source_clean))

pub returns-in_err-tally-clause-write_failed : goal.returns-in_err-tally-clause-write_failed
returns-in_err-tally-clause-write_failed g c =
    let p = err_from_is_err_and c.from_residual.result c.from_residual.ensures.1 in
    rw (p.1, p.2) (c.requires.sink_clean ∙ sym c.in_err-tally.ensures.other)

pub returns-in-Ok-clause-read_failed : goal.returns-in-Ok-clause-read_failed
returns-in-Ok-clause-read_failed g c =
    let same_source : c.totals_file.new.input.source.now ≡ c.source-1.given.0 = search rules in
    rw (← same_source) (
    c.in_ok-tally.ensures.mark ∙ ap (λ b. b || false) c.requires.source_clean)

pub returns-in-Ok-clause-write_failed : goal.returns-in-Ok-clause-write_failed
returns-in-Ok-clause-write_failed g c = c.in-Ok.ensures.mark ∙ ap (λ b. b || false) c.requires.sink_clean

pub returns-in-Err-clause-read_failed : goal.returns-in-Err-clause-read_failed
returns-in-Err-clause-read_failed g c =
    let same_source : c.totals_file.new.input.source.now ≡ c.source-1.given.0 = search rules in
    rw (← same_source) (
    c.in_ok-tally.ensures.mark ∙ ap (λ b. b || false) c.requires.source_clean)

pub returns-in-Err-clause-write_failed : goal.returns-in-Err-clause-write_failed
returns-in-Err-clause-write_failed g c = c.in-Err.ensures.mark ∙ ap (λ b. b || true) c.requires.sink_clean
