use Rattle.ncp_play_files.proofs.PassProgress.{closes_out}
use Rattle.ncp_play_files.proofs.passing.close.Goals as goal

pub returns-clause-output : goal.returns-clause-output
returns-clause-output g c =
    let w = g.W.Sink in let rules = g.P.Pass.rules in
    closes_out c.args.out.now.page.now (rules.closing (rules.state c.args.pass.now) c.args.end) c.close.new.out.page.now c.flush.new.self.page.now (w.written c.args.out.now.sink.now) (w.written c.close.new.out.sink.now) (w.written c.flush.new.self.sink.now) c.flush.result
    c.in_ok-close.ensures.output c.flush.ensures.ok c.flush.ensures.err
