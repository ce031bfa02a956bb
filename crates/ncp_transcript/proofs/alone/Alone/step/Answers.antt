use Rattle.std.proofs.Common.{subst}
use Rattle.std.specs.Result.{OnOk}
use Rattle.ncp_transcript.specs.Alone.{Alone, IsHostStep}
use Rattle.ncp_transcript.proofs.Growing.{transcript_stepped}
use Rattle.ncp_transcript.proofs.alone.Alone.step.Goals as goal

pub invariant_of-self : goal.invariant_of-self
invariant_of-self g c =
    transcript_stepped c.note.result c.args.input.now (record { host = c.self.inside.host; notes = c.self.inside.notes }) (record { host = c.note.new.host; notes = c.note.new.self })
    c.note.ensures.step c.note.ensures.err c.self.invariant

pub returns-clause-step : goal.returns-clause-step
returns-clause-step g c =
    let now : Alone = record { host = c.note.new.host; notes = c.note.new.self } in
    subst (λ (before : Alone). OnOk c.note.result (IsHostStep c.args.input.now before now)) c.self.view_is c.note.ensures.step

pub returns-clause-run : goal.returns-clause-run
returns-clause-run g c =
    transcript_stepped c.note.result c.args.input.now (record { host = c.self.inside.host; notes = c.self.inside.notes }) (record { host = c.note.new.host; notes = c.note.new.self })
    c.note.ensures.step c.note.ensures.err c.self.invariant
