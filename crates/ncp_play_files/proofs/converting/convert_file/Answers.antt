use Rattle.std.proofs.Common.{◌++◌, ◌∙◌, ◌||◌, List, [], ℕ, Some, drop, sym, ap, subst, arith}
use Rattle.std.proofs.Math.Bool.{or-false}
use Rattle.std.proofs.lemmas.List.{append-nil}
use Rattle.std.proofs.lemmas.Result.{err_from_is_err_and}
use Rattle.ncp_play_stream.specs.Streams.{RemainingInput, SaidSoFar}
use Rattle.ncp_play_files.specs.Converted.{other_version, capture_point_in, next_at}
use Rattle.ncp_play_files.specs.Turning.{RendersTurned}
use Rattle.ncp_play_files.proofs.ConvertedFiles.{turns_nothing, turns_no_more, file_turned}
use Rattle.ncp_play_files.specs.Results.{is_read, is_read_failed}
use Rattle.ncp_play_files.proofs.converting.convert_file.Goals as goal

pub returns-in_err-version-clause-output : goal.returns-in_err-version-clause-output
returns-in_err-version-clause-output g c = λ bytes was e f.
    let p = err_from_is_err_and c.from_residual.result c.from_residual.ensures.1 in
    let ahead : RemainingInput c.args.input.now.window.now (g.S.Source.left c.args.input.now.source.now) bytes = (bytes, e, ap (λ (w : List ℕ). w ++ bytes) c.requires.window) in
    let said : SaidSoFar was c.args.out.now.page.now (g.W.Sink.written c.args.out.now.sink.now) [] = ([], f ∙ ap Some (sym (append-nil was)), c.requires.page) in
    rw (p.1, p.2) (
    turns_nothing c.args.at bytes was c.read_version.new.input.window.now c.args.out.now.page.now (g.S.Source.left c.read_version.new.input.source.now) (g.W.Sink.written c.args.out.now.sink.now) c.in_err-version.field-0.0
    (c.in_err-version.ensures.output bytes ahead) said)

pub returns-in_err-direction-clause-output : goal.returns-in_err-direction-clause-output
returns-in_err-direction-clause-output g c = λ bytes was e f.
    let p = err_from_is_err_and c.from_residual-in_err-direction.result c.from_residual-in_err-direction.ensures.1 in
    let ahead : RemainingInput c.args.input.now.window.now (g.S.Source.left c.args.input.now.source.now) bytes = (bytes, e, ap (λ (w : List ℕ). w ++ bytes) c.requires.window) in
    let said : SaidSoFar was c.args.out.now.page.now (g.W.Sink.written c.args.out.now.sink.now) [] = ([], f ∙ ap Some (sym (append-nil was)), c.requires.page) in
    let head = c.in_ok-version.ensures.output bytes ahead in
    rw (p.1, p.2) (
    turns_no_more c.args.at bytes was c.find_direction.new.input.window.now c.args.out.now.page.now (g.S.Source.left c.find_direction.new.input.source.now) (g.W.Sink.written c.args.out.now.sink.now) c.in_ok-version.version c.in_err-direction.field-0.0 head.0
    (c.in_err-direction.ensures.output (drop 4 bytes) head.1) said)

pub returns-clause-output : goal.returns-clause-output
returns-clause-output g c = λ bytes was e f.
    let ahead : RemainingInput c.args.input.now.window.now (g.S.Source.left c.args.input.now.source.now) bytes = (bytes, e, ap (λ (w : List ℕ). w ++ bytes) c.requires.window) in
    let version = c.in_ok-version.version in
    let left = g.S.Source.left c.convert_messages.new.input.source.now in let written = g.W.Sink.written c.convert_messages.new.out.sink.now in let page = c.convert_messages.new.out.page.now in
    let head = c.in_ok-version.ensures.output bytes ahead in
    let found = c.in_ok-direction.ensures.output (drop 4 bytes) head.1 in
    let counterpart = rw (c.turn_of.ensures.from, c.turn_of.ensures.wanted, c.turn_of.ensures.to, c.turn_of.ensures.given) at (c.convert_messages.ensures.output (drop 4 bytes) was found.1 f) in
    file_turned c.args.at bytes was version head.0 c.convert_messages.result left page written
    (subst (λ direction. RendersTurned (other_version version direction) (capture_point_in (other_version version direction) direction c.args.at) (next_at version (capture_point_in version direction c.args.at)) (drop 4 bytes) was c.convert_messages.result left page written)
    found.0 counterpart)

pub returns-in_err-version-clause-writes : goal.returns-in_err-version-clause-writes
returns-in_err-version-clause-writes g c = omega (arith, c.in_err-version.ensures.lowers)

pub returns-in_err-version-clause-sink_mark : goal.returns-in_err-version-clause-sink_mark
returns-in_err-version-clause-sink_mark g c =
    let p = err_from_is_err_and c.from_residual.result c.from_residual.ensures.1 in
    rw (p.1, p.2) (sym (or-false _) ∙ ap (λ b. g.W.Sink.has_failed c.args.out.now.sink.now || b) (sym c.in_err-version.ensures.other))

pub returns-in_err-direction-clause-source_mark : goal.returns-in_err-direction-clause-source_mark
returns-in_err-direction-clause-source_mark g c =
    let p = err_from_is_err_and c.from_residual-in_err-direction.result c.from_residual-in_err-direction.ensures.1 in
    rw (p.1, p.2) (c.in_err-direction.ensures.mark ∙ ap (λ b. b || is_read c.in_err-direction.field-0.0) (c.in_ok-version.ensures.mark ∙ or-false _))

pub returns-in_err-direction-clause-writes : goal.returns-in_err-direction-clause-writes
returns-in_err-direction-clause-writes g c = omega (arith, c.in_ok-version.ensures.lowers, c.in_err-direction.ensures.lowers)

pub returns-in_err-direction-clause-sink_mark : goal.returns-in_err-direction-clause-sink_mark
returns-in_err-direction-clause-sink_mark g c =
    let p = err_from_is_err_and c.from_residual-in_err-direction.result c.from_residual-in_err-direction.ensures.1 in
    rw (p.1, p.2) (sym (or-false _) ∙ ap (λ b. g.W.Sink.has_failed c.args.out.now.sink.now || b) (sym c.in_err-direction.ensures.other))

pub returns-clause-source_mark : goal.returns-clause-source_mark
returns-clause-source_mark g c =
    c.convert_messages.ensures.source_mark ∙ ap (λ b. b || is_read_failed c.convert_messages.result) (c.in_ok-direction.ensures.mark ∙ or-false _ ∙ c.in_ok-version.ensures.mark ∙ or-false _)

pub returns-clause-writes : goal.returns-clause-writes
returns-clause-writes g c = omega (arith, c.in_ok-version.ensures.lowers, c.in_ok-direction.ensures.lowers, c.convert_messages.ensures.writes)
