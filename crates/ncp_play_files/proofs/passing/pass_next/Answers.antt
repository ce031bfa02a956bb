use Rattle.std.proofs.Common.{◌∙◌, refl, drop, ap}
use Rattle.std.proofs.lemmas.Result.{err_from_is_err_and}
use Rattle.ncp_numbers.specs.Bytes.{bytes_for}
use Rattle.ncp_play_files.specs.Versions.{recorded}
use Rattle.ncp_play_files.proofs.Files.{record_after}
use Rattle.ncp_play_files.proofs.Placing.{found_stops}
use Rattle.ncp_play_files.proofs.PassProgress.{pass_ends}
use Rattle.ncp_play_files.proofs.passing.pass_next.Goals as goal

pub returns-in_err-found-clause-output : goal.returns-in_err-found-clause-output
returns-in_err-found-clause-output g c = λ bytes was said a k.
    let p = err_from_is_err_and c.from_residual.result c.from_residual.ensures.1 in
    let rules = g.P.Pass.rules in let state = rules.state c.args.pass.now in
    rw (p.1, p.2) (
    pass_ends rules (g.R.Records.version c.args.records) c.args.number.now state state bytes was said c.find_next.new.input.window.now c.args.out.now.page.now (g.S.Source.left c.find_next.new.input.source.now) (g.W.Sink.written c.args.out.now.sink.now) c.in_err-found.field-0.0
    (c.in_err-found.ensures.output bytes a) refl k)

pub returns-in_default-clause-output : goal.returns-in_default-clause-output
returns-in_default-clause-output g c = λ bytes was said a k. (rw c.in_default.is at (c.in_ok-found.ensures.output bytes a), refl, k)

pub returns-in-Err-clause-output : goal.returns-in-Err-clause-output
returns-in-Err-clause-output g c = λ bytes was said a k.
    let version = g.R.Records.version c.args.records in
    let rules = g.P.Pass.rules in let state = rules.state c.args.pass.now in
    let left = g.S.Source.left c.find_next.new.input.source.now in
    let found = rw c.in-Some.is at (c.in_ok-found.ensures.output bytes a) in
    pass_ends rules version c.args.number.now state state bytes was said c.find_next.new.input.window.now c.args.out.now.page.now left (g.W.Sink.written c.args.out.now.sink.now) c.in-Err.fault
    (found_stops version bytes found.0 c.in-Some.found.capture_point found.1 left c.in-Err.fault found.2 (c.in-Err.ensures.output found.0 left found.3)) refl k

pub returns-in-Ok-passed-clause-output : goal.returns-in-Ok-passed-clause-output
returns-in-Ok-passed-clause-output g c = λ bytes was said a k.
    let left = g.S.Source.left c.find_next.new.input.source.now in
    let found = rw c.in-Some.is at (c.in_ok-found.ensures.output bytes a) in
    let whole = rw c.in-Some.is at c.in_ok-found.ensures.stands in (
      record { capture_point = c.in-Some.found.capture_point; message = c.in-Ok.message },
      drop (bytes_for c.in-Some.found.len) (drop 2 found.0),
      found.2 ∙ ap (recorded c.in-Some.found.capture_point found.1) (c.in-Ok.ensures.output found.0 left found.3),
      record_after c.find_next.new.input.window.now c.skip_record.new.window found.0 left c.in-Some.found.len whole c.skip_record.ensures.rest found.3,
      c.in-Ok-passed.ensures.state,
      c.in-Ok-passed.ensures.output was said k,
    )

pub returns-in-Err-passed-clause-output : goal.returns-in-Err-passed-clause-output
returns-in-Err-passed-clause-output g c = λ bytes was said a k.
    let left = g.S.Source.left c.find_next.new.input.source.now in
    let found = rw c.in-Some.is at (c.in_ok-found.ensures.output bytes a) in
    let broken = c.in-Err-passed.ensures.output in (
      record { capture_point = c.in-Some.found.capture_point; message = c.in-Ok.message },
      drop (bytes_for c.in-Some.found.len) (drop 2 found.0),
      broken.0,
      found.2 ∙ ap (recorded c.in-Some.found.capture_point found.1) (c.in-Ok.ensures.output found.0 left found.3),
      broken.1 was said k,
    )
