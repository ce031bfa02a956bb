use Rattle.std.proofs.Common.{sym, subst}
use Rattle.std.specs.Result.{IfOk}
use Rattle.ncp_transcript.specs.declared.input.Input.{Input}
use Rattle.ncp_transcript.specs.Noting.{HostNoted}
use Rattle.ncp_transcript.proofs.transcript.note_of.Goals as goal

pub returns-in-Call-clause-note : goal.returns-in-Call-clause-note
returns-in-Call-clause-note g c = subst (λ (input : Input). IfOk c.perform.result (λ note. HostNoted input note c.args.host.now)) (sym c.in-Call.is) c.perform.ensures.note

pub returns-in-In-clause-note : goal.returns-in-In-clause-note
returns-in-In-clause-note g c = subst (λ (input : Input). IfOk c.hear.result (λ note. HostNoted input note c.args.host.now)) (sym c.in-In.is) c.hear.ensures.note

pub returns-in-Out-clause-note : goal.returns-in-Out-clause-note
returns-in-Out-clause-note g c = subst (λ (input : Input). IfOk c.send.result (λ note. HostNoted input note c.args.host.now)) (sym c.in-Out.is) c.send.ensures.note
