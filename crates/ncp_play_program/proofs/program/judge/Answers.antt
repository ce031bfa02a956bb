use Rattle.std.proofs.Common.{inl, inr, Ok, Err, refl}
use Rattle.ncp_monitor.specs.Judged.{new_monitor}
use Rattle.ncp_play_audit.specs.Audited.{noted_first}
use Rattle.ncp_play_program.specs.Orders.{covers, is_strict}
use Rattle.ncp_play_program.proofs.Auditing.{same_audit}
use Rattle.ncp_play_program.proofs.program.judge.Goals as goal

pub returns-in_default-clause-does : goal.returns-in_default-clause-does
returns-in_default-clause-does g c = inl (refl, refl)

pub returns-in-Ok-audit-clause-does : goal.returns-in-Ok-audit-clause-does
returns-in-Ok-audit-clause-does g c = inr (
  Ok c.in-Ok-audit.good,
  refl,
  record { read_failed = c.in-Ok-audit.ensures.read_failed; write_failed = c.in-Ok-audit.ensures.write_failed; blamed = c.in-Ok-audit.ensures.blamed },
  λ bytes was left written.
      same_audit c.args.asked.standard bytes was (g.S.Source.left c.audit.new.source) (g.W.Sink.written c.audit.new.sink) (Ok c.in-Ok-audit.good) c.in-Ok.auditor.strict (is_strict c.args.asked.report) c.in-Ok.auditor.monitor (new_monitor c.args.asked.part) c.in-Ok.auditor.noted (noted_first (covers c.args.asked.report))
      c.in-Ok.ensures.monitor c.in-Ok.ensures.noted c.in-Ok.ensures.strict
      (c.in-Ok-audit.ensures.output bytes was left written) (c.in-Ok-audit.ensures.verdict bytes was left written),
)

pub returns-clause-does : goal.returns-clause-does
returns-clause-does g c = inr (
  Err c.in-Err.fault,
  refl,
  record { read_failed = c.in-Err.ensures.read_failed; write_failed = c.in-Err.ensures.write_failed; blamed = c.in-Err.ensures.blamed },
  λ bytes was left written.
      same_audit c.args.asked.standard bytes was (g.S.Source.left c.audit.new.source) (g.W.Sink.written c.audit.new.sink) (Err c.in-Err.fault) c.in-Ok.auditor.strict (is_strict c.args.asked.report) c.in-Ok.auditor.monitor (new_monitor c.args.asked.part) c.in-Ok.auditor.noted (noted_first (covers c.args.asked.report))
      c.in-Ok.ensures.monitor c.in-Ok.ensures.noted c.in-Ok.ensures.strict
      (c.in-Err.ensures.output bytes was left written) tt,
)
