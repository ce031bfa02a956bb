use Rattle.std.proofs.Common.{rules, ◌≡◌, Bool, [], false, Some, subst}
use Rattle.std.specs.Prelude.{IfOk}
use Rattle.ncp_play_files.specs.Writing.{Writes}
use Rattle.ncp_monitor.specs.declared.monitor.Monitor.{Monitor}
use Rattle.ncp_monitor.specs.Judged.{new_monitor}
use Rattle.ncp_play_audit.specs.Audited.{Noted, noted_first, AuditedCut, ReportedAs, HasReportVerdict, done_of}
use Rattle.ncp_web.proofs.files.audited.Goals as goal

pub returns : goal.returns
returns c =
    let left : Some c.new-source.result.left ≡ Some c.args.input.now = search rules in
    let was : Some c.args.sink.now.written ≡ Some [] = search rules in
    let modes = c.args.modes.now in
    let made = c.in-Ok.ensures in let auditor = c.in-Ok.auditor in
    let input = c.args.input.now in let answer = c.audit.result in
    let whole = new_monitor modes.part in (
      (
        Some c.audit.new.source.left,
        subst (λ (n : Noted). Writes (ReportedAs modes.standard whole n) (AuditedCut modes.standard whole) input [] (Some c.audit.new.source.left) (Some c.audit.new.sink.written) (done_of answer)) made.noted
            (subst (λ (u : Monitor). Writes (ReportedAs modes.standard u auditor.noted) (AuditedCut modes.standard u) input [] (Some c.audit.new.source.left) (Some c.audit.new.sink.written) (done_of answer)) made.monitor
            (c.audit.ensures.output input [] left was)),
      ),
      subst (λ (b : Bool). IfOk answer (HasReportVerdict b modes.standard whole (noted_first modes.coverage) input)) made.strict
          (subst (λ (n : Noted). IfOk answer (HasReportVerdict auditor.strict modes.standard whole n input)) made.noted
          (subst (λ (u : Monitor). IfOk answer (HasReportVerdict auditor.strict modes.standard u auditor.noted input)) made.monitor (c.audit.ensures.verdict input [] left was))),
    )
