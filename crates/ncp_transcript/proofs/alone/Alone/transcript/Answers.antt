use Rattle.std.proofs.Common.{ap, ◌∙◌, subst}
use Rattle.ncp_transcript.specs.Alone.{Alone}
use Rattle.ncp_transcript.specs.Runs.{IsHostTranscript}
use Rattle.ncp_transcript.proofs.alone.Alone.transcript.Goals as goal

pub returns-clause-notes : goal.returns-clause-notes
returns-clause-notes g c = c.as_slice.ensures ∙ ap (λ (a : Alone). a.notes) c.self.view_is

pub returns-clause-run : goal.returns-clause-run
returns-clause-run g c = subst (λ (a : Alone). IsHostTranscript a.notes a.host) c.self.view_is c.self.invariant
