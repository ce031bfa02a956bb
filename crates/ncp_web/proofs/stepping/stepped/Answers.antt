use Rattle.std.proofs.Common.{Bool, Some, Result, subst, ◌≡◌, rules}
use Rattle.std.proofs.lemmas.Result.{err_from_is_err_and}
use Rattle.ncp_web.specs.declared.stage.Refusal.{Refusal}
use Rattle.ncp_web.specs.Sessions.{Notes, Reads, printed_last}
use Rattle.ncp_web.proofs.Said.{whole, broken_off, refused}
use Rattle.ncp_web.proofs.stepping.stepped.Goals as goal

pub returns-in_err-more-clause-steps : goal.returns-in_err-more-clause-steps
returns-in_err-more-clause-steps g c =
    let same_sink : c.noted.new.out.sink.now ≡ c.in_err-more.sink-1-own.given.0 = search rules in
    rw (← same_sink) (
    let rules = g.C.Simulation.rules in let rendering = g.T.Renderer.rendering c.args.stage.now.first in let first = c.args.stage.now.first in let line = c.args.line.now in let event = c.in_ok-event.event in
    let reads = subst (λ (it : Result g.row.C-Event.Denot Refusal). Reads rules first line it) c.in_ok-event.was c.event_in.ensures in
    let noted = subst (λ (it : Result Bool Refusal). Notes rules rendering event c.args.stage.now.left c.args.stage.now.hosts it c.noted.new.left c.noted.new.hosts c.new-page.result (Some c.args.sink.now.written) c.noted.new.out.page.now (Some c.noted.new.out.sink.now.written)) c.in_err-more.was c.noted.ensures.notes in
    let p = err_from_is_err_and c.from_residual-in_err-more.result c.from_residual-in_err-more.ensures.1 in
    rw (p.1, p.2) (
    refused rules rendering first line event c.args.stage.now.left c.noted.new.left c.args.stage.now.hosts c.noted.new.hosts c.new-page.result c.args.sink.now.written c.noted.new.out.page.now c.noted.new.out.sink.now.written c.in_err-more.field-0.0 c.new-page.ensures c.requires.empty reads noted))

pub returns-in-Ok-clause-steps : goal.returns-in-Ok-clause-steps
returns-in-Ok-clause-steps g c =
    let same_sink : c.flush.new.self.sink.now ≡ c.sink-2-1.given.0 = search rules in
    rw (← same_sink) (
    let rules = g.C.Simulation.rules in let rendering = g.T.Renderer.rendering c.args.stage.now.first in let first = c.args.stage.now.first in let line = c.args.line.now in let event = c.in_ok-event.event in
    let reads = subst (λ (it : Result g.row.C-Event.Denot Refusal). Reads rules first line it) c.in_ok-event.was c.event_in.ensures in
    let noted = subst (λ (it : Result Bool Refusal). Notes rules rendering event c.args.stage.now.left c.args.stage.now.hosts it c.noted.new.left c.noted.new.hosts c.new-page.result (Some c.args.sink.now.written) c.noted.new.out.page.now (Some c.noted.new.out.sink.now.written)) c.in_ok-more.was c.noted.ensures.notes in
    (noted.0, (event, reads, noted.1), noted.2, whole (printed_last rules rendering noted.0 c.noted.new.hosts) c.new-page.result c.args.sink.now.written c.new-page.ensures c.requires.empty c.noted.new.out.page.now c.flush.new.self.page.now c.flush.new.self.sink.now.written (Some c.noted.new.out.sink.now.written) noted.3 c.in-Ok.ensures.ok))

pub returns-clause-steps : goal.returns-clause-steps
returns-clause-steps g c =
    let same_sink : c.flush.new.self.sink.now ≡ c.sink-2-1.given.0 = search rules in
    rw (← same_sink) (
    let rules = g.C.Simulation.rules in let rendering = g.T.Renderer.rendering c.args.stage.now.first in let first = c.args.stage.now.first in let line = c.args.line.now in let event = c.in_ok-event.event in
    let reads = subst (λ (it : Result g.row.C-Event.Denot Refusal). Reads rules first line it) c.in_ok-event.was c.event_in.ensures in
    let noted = subst (λ (it : Result Bool Refusal). Notes rules rendering event c.args.stage.now.left c.args.stage.now.hosts it c.noted.new.left c.noted.new.hosts c.new-page.result (Some c.args.sink.now.written) c.noted.new.out.page.now (Some c.noted.new.out.sink.now.written)) c.in_ok-more.was c.noted.ensures.notes in
    let begun = broken_off (printed_last rules rendering noted.0 c.noted.new.hosts) c.new-page.result c.args.sink.now.written c.new-page.ensures c.requires.empty c.noted.new.out.page.now c.flush.new.self.sink.now.written (Some c.noted.new.out.sink.now.written) noted.3 c.in-Err.ensures.err in
    (c.in_ok-more.more, noted.0, (event, reads, noted.1), noted.2, begun.0, begun.1))
