use Rattle.std.proofs.Common.{◌≡◌, ℕ, true, false, ◌++◌, Ok, Err, sym, ap, ◌∙◌, subst}
use Rattle.std.proofs.lemmas.Result.{err_from_is_err_and}
use Rattle.ncp_play_stream.specs.Streams.{RemainingInput}
use Rattle.ncp_play_reader.specs.declared.lines.Lines.{Lines}
use Rattle.ncp_play_script.specs.FirstLines.{is_many}
use Rattle.ncp_play_simulation.specs.NextEvents.{FindsFirst}
use Rattle.ncp_play_simulation.proofs.PlayedScripts.{finds_none}
use Rattle.ncp_play_world.specs.WorldRules.{world_rules}
use Rattle.ncp_play_world.specs.ManyRules.{many_rules, is_many_script}
use Rattle.ncp_play_world.proofs.ManyFound.{found_many}
use Rattle.ncp_play_world.proofs.player.play_script.Goals as goal

pub returns-in_err-ended-clause-output : goal.returns-in_err-ended-clause-output
returns-in_err-ended-clause-output g c = λ bytes was e w two.
    let left = g.R.Source.left c.find_first.new.source in let now = c.find_first.new.lines in let fault = c.in_err-ended.field-0.0 in
    let p = err_from_is_err_and c.from_residual.result c.from_residual.ensures.1 in
    let ahead : RemainingInput c.new-lines.result.window (g.R.Source.left c.args.source.now) bytes = (bytes, e, ap (λ (l : Lines). l.window ++ bytes) c.new-lines.ensures) in
    let found = subst (λ (n : ℕ). FindsFirst n bytes (Err fault) now left) (ap (λ (l : Lines). l.number) c.new-lines.ensures) (c.in_err-ended.ensures.output bytes ahead) in
    rw (p.1, p.2) (finds_none world_rules g.T.Renderer.rendering bytes was fault now left (g.W.Sink.written c.args.sink.now) found w)

pub returns-in_err-ended-clause-many : goal.returns-in_err-ended-clause-many
returns-in_err-ended-clause-many g c = λ bytes was e w many.
    let left = g.R.Source.left c.find_first.new.source in let now = c.find_first.new.lines in let fault = c.in_err-ended.field-0.0 in
    let p = err_from_is_err_and c.from_residual.result c.from_residual.ensures.1 in
    let ahead : RemainingInput c.new-lines.result.window (g.R.Source.left c.args.source.now) bytes = (bytes, e, ap (λ (l : Lines). l.window ++ bytes) c.new-lines.ensures) in
    let found = subst (λ (n : ℕ). FindsFirst n bytes (Err fault) now left) (ap (λ (l : Lines). l.number) c.new-lines.ensures) (c.in_err-ended.ensures.output bytes ahead) in
    rw (p.1, p.2) (finds_none many_rules g.M.Renderer.rendering bytes was fault now left (g.W.Sink.written c.args.sink.now) found w)

pub returns-then-is_many-clause-output : goal.returns-then-is_many-clause-output
returns-then-is_many-clause-output g c = λ bytes was e w kind_is.
    let left = g.R.Source.left c.find_first.new.source in let now = c.find_first.new.lines in
    let ahead : RemainingInput c.new-lines.result.window (g.R.Source.left c.args.source.now) bytes = (bytes, e, ap (λ (l : Lines). l.window ++ bytes) c.new-lines.ensures) in
    let found = subst (λ (n : ℕ). FindsFirst n bytes (Ok c.in_ok-ended.ended) now left) (ap (λ (l : Lines). l.number) c.new-lines.ensures) (c.in_ok-ended.ensures.output bytes ahead) in
    let kind : is_many_script bytes ≡ true = found_many bytes c.in_ok-ended.ended now left c.text.result.now true found c.text.ensures (sym c.if-is_many.true ∙ c.is_many.ensures ∙ ap is_many c.new.ensures) in
    let both : true ≡ false = sym kind ∙ kind_is in
    let wrong : ⊥ = cc in absurd wrong

pub returns-then-is_many-clause-many : goal.returns-then-is_many-clause-many
returns-then-is_many-clause-many g c = λ bytes was e w kind_is.
    let left = g.R.Source.left c.find_first.new.source in let now = c.find_first.new.lines in
    let ahead : RemainingInput c.new-lines.result.window (g.R.Source.left c.args.source.now) bytes = (bytes, e, ap (λ (l : Lines). l.window ++ bytes) c.new-lines.ensures) in
    let found = subst (λ (n : ℕ). FindsFirst n bytes (Ok c.in_ok-ended.ended) now left) (ap (λ (l : Lines). l.number) c.new-lines.ensures) (c.in_ok-ended.ensures.output bytes ahead) in
    c.play_first.ensures.output bytes was found w

pub returns-clause-output : goal.returns-clause-output
returns-clause-output g c = λ bytes was e w kind_is.
    let left = g.R.Source.left c.find_first.new.source in let now = c.find_first.new.lines in
    let ahead : RemainingInput c.new-lines.result.window (g.R.Source.left c.args.source.now) bytes = (bytes, e, ap (λ (l : Lines). l.window ++ bytes) c.new-lines.ensures) in
    let found = subst (λ (n : ℕ). FindsFirst n bytes (Ok c.in_ok-ended.ended) now left) (ap (λ (l : Lines). l.number) c.new-lines.ensures) (c.in_ok-ended.ensures.output bytes ahead) in
    c.play_first-2.ensures.output bytes was found w

pub returns-clause-many : goal.returns-clause-many
returns-clause-many g c = λ bytes was e w kind_is.
    let left = g.R.Source.left c.find_first.new.source in let now = c.find_first.new.lines in
    let ahead : RemainingInput c.new-lines.result.window (g.R.Source.left c.args.source.now) bytes = (bytes, e, ap (λ (l : Lines). l.window ++ bytes) c.new-lines.ensures) in
    let found = subst (λ (n : ℕ). FindsFirst n bytes (Ok c.in_ok-ended.ended) now left) (ap (λ (l : Lines). l.number) c.new-lines.ensures) (c.in_ok-ended.ensures.output bytes ahead) in
    let kind : is_many_script bytes ≡ false = found_many bytes c.in_ok-ended.ended now left c.text.result.now false found c.text.ensures (sym c.if-is_many.false ∙ c.is_many.ensures ∙ ap is_many c.new.ensures) in
    let both : true ≡ false = sym kind_is ∙ kind in
    let wrong : ⊥ = cc in absurd wrong
