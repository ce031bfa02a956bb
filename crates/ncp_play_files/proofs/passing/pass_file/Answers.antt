use Rattle.std.proofs.Common.{◌++◌, ◌∙◌, List, [], ℕ, Some, drop, refl, sym, ap, arith}
use Rattle.std.proofs.lemmas.List.{append-nil}
use Rattle.std.proofs.lemmas.Result.{err_from_is_err_and}
use Rattle.ncp_play_stream.specs.Streams.{RemainingInput, SaidSoFar}
use Rattle.ncp_play_files.specs.declared.file.FileFault.TheVariants.{BadHeader}
use Rattle.ncp_play_files.specs.declared.version.Version.TheVariants.{One, Two}
use Rattle.ncp_play_files.proofs.PassProgress.{file_none, file_refused, file_passed, version_refused}
use Rattle.ncp_play_files.proofs.passing.pass_file.Goals as goal

pub returns-in_err-version-clause-output : goal.returns-in_err-version-clause-output
returns-in_err-version-clause-output g c = λ bytes was e f.
    let p = err_from_is_err_and c.from_residual.result c.from_residual.ensures.1 in
    let rules = g.P.Pass.rules in let state = rules.state c.args.pass.now in
    let ahead : RemainingInput c.args.input.now.window.now (g.S.Source.left c.args.input.now.source.now) bytes = (bytes, e, ap (λ (w : List ℕ). w ++ bytes) c.requires.window) in
    let said : SaidSoFar was c.args.out.now.page.now (g.W.Sink.written c.args.out.now.sink.now) [] = ([], f ∙ ap Some (sym (append-nil was)), c.requires.page) in
    rw (p.1, p.2) (
    file_none rules state was bytes c.read_version.new.input.window.now c.args.out.now.page.now (g.S.Source.left c.read_version.new.input.source.now) (g.W.Sink.written c.args.out.now.sink.now) state c.in_err-version.field-0.0
    (c.in_err-version.ensures.output bytes ahead) refl said)

pub returns-then-not-reads-clause-output : goal.returns-then-not-reads-clause-output
returns-then-not-reads-clause-output g c = λ bytes was e f.
    let rules = g.P.Pass.rules in let state = rules.state c.args.pass.now in
    let ahead : RemainingInput c.args.input.now.window.now (g.S.Source.left c.args.input.now.source.now) bytes = (bytes, e, ap (λ (w : List ℕ). w ++ bytes) c.requires.window) in
    let said : SaidSoFar was c.args.out.now.page.now (g.W.Sink.written c.args.out.now.sink.now) [] = ([], f ∙ ap Some (sym (append-nil was)), c.requires.page) in
    let read = c.in_ok-version.ensures.output bytes ahead in
    file_refused rules state was bytes c.args.out.now.page.now (g.W.Sink.written c.args.out.now.sink.now) state BadHeader (version_refused rules state was _ bytes (sym c.reads.ensures ∙ c.if-not-reads.true) read.0) refl said refl

pub returns-in-One-clause-output : goal.returns-in-One-clause-output
returns-in-One-clause-output g c = λ bytes was e f.
    let rules = g.P.Pass.rules in let state = rules.state c.args.pass.now in
    let ahead : RemainingInput c.args.input.now.window.now (g.S.Source.left c.args.input.now.source.now) bytes = (bytes, e, ap (λ (w : List ℕ). w ++ bytes) c.requires.window) in
    let said : SaidSoFar was c.args.out.now.page.now (g.W.Sink.written c.args.out.now.sink.now) [] = ([], f ∙ ap Some (sym (append-nil was)), c.requires.page) in
    let read = rw c.in-One.is at (c.in_ok-version.ensures.output bytes ahead) in
    let reads = rw c.in-One.is at (sym c.reads.ensures ∙ c.if-not-reads.false) in
    file_passed rules state was (One c.in-One.direction) reads bytes c.pass_records.new.out.page.now (g.S.Source.left c.pass_records.new.input.source.now) (g.W.Sink.written c.pass_records.new.out.sink.now) (rules.state c.pass_records.new.pass) c.pass_records.result read.0
    (c.pass_records.ensures.output (drop 4 bytes) was [] read.1 said)

pub returns-in-Two-clause-output : goal.returns-in-Two-clause-output
returns-in-Two-clause-output g c = λ bytes was e f.
    let rules = g.P.Pass.rules in let state = rules.state c.args.pass.now in
    let ahead : RemainingInput c.args.input.now.window.now (g.S.Source.left c.args.input.now.source.now) bytes = (bytes, e, ap (λ (w : List ℕ). w ++ bytes) c.requires.window) in
    let said : SaidSoFar was c.args.out.now.page.now (g.W.Sink.written c.args.out.now.sink.now) [] = ([], f ∙ ap Some (sym (append-nil was)), c.requires.page) in
    let read = rw c.in-Two.is at (c.in_ok-version.ensures.output bytes ahead) in
    let reads = rw c.in-Two.is at (sym c.reads.ensures ∙ c.if-not-reads.false) in
    file_passed rules state was Two reads bytes c.pass_records-in-Two.new.out.page.now (g.S.Source.left c.pass_records-in-Two.new.input.source.now) (g.W.Sink.written c.pass_records-in-Two.new.out.sink.now) (rules.state c.pass_records-in-Two.new.pass) c.pass_records-in-Two.result read.0
    (c.pass_records-in-Two.ensures.output (drop 4 bytes) was [] read.1 said)

pub returns-in_err-version-clause-writes : goal.returns-in_err-version-clause-writes
returns-in_err-version-clause-writes g c = omega (arith, c.in_err-version.ensures.lowers)

pub returns-then-not-reads-clause-writes : goal.returns-then-not-reads-clause-writes
returns-then-not-reads-clause-writes g c = omega (arith, c.in_ok-version.ensures.lowers)

pub returns-in-One-clause-writes : goal.returns-in-One-clause-writes
returns-in-One-clause-writes g c = omega (arith, c.in_ok-version.ensures.lowers, c.pass_records.ensures.writes)

pub returns-in-Two-clause-writes : goal.returns-in-Two-clause-writes
returns-in-Two-clause-writes g c = omega (arith, c.in_ok-version.ensures.lowers, c.pass_records-in-Two.ensures.writes)
