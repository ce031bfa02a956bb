use Rattle.ncp_play_audit.proofs.Covering.{audited_writes, audited_verdict, few_writes}
use Rattle.ncp_play_audit.proofs.auditing.audit.Goals as goal

pub returns-clause-output : goal.returns-clause-output
returns-clause-output g c = λ bytes was e f.
    let auditor = c.args.auditor.now in
    audited_writes c.args.standard auditor.strict auditor.monitor auditor.noted bytes was (g.S.Source.left c.pass_through.new.source) (g.W.Sink.written c.pass_through.new.sink) c.pass_through.result (c.pass_through.ensures.output bytes was e f)

pub returns-clause-verdict : goal.returns-clause-verdict
returns-clause-verdict g c = λ bytes was e f.
    let auditor = c.args.auditor.now in
    audited_verdict c.args.standard auditor.strict auditor.monitor auditor.noted bytes was (g.S.Source.left c.pass_through.new.source) (g.W.Sink.written c.pass_through.new.sink) c.pass_through.result (c.pass_through.ensures.output bytes was e f)

pub returns-clause-writes : goal.returns-clause-writes
returns-clause-writes g c = λ was now full e f. few_writes c.args.auditor.now.noted _ _ _ _ (c.pass_through.ensures.writes was now full e f)
