use Rattle.std.proofs.Common.{sym, ap, ◌∙◌, is_some}
use Rattle.ncp_transcript_many.specs.Network.{is_there}
use Rattle.ncp_transcript_many.specs.ManyTranscript.{Noted_many}
use Rattle.ncp_world.proofs.Members.{some-there, copied-some}
use Rattle.ncp_world.proofs.many.Many+S.host.Goals as goal

pub returns-clause-there : goal.returns-clause-there
returns-clause-there g c =
    sym (copied-some c.host.result) ∙ ap is_some c.host.ensures ∙ some-there c.self.inside.hosts.hosts c.args.number
    ∙ ap (λ (m : Noted_many). is_there c.args.number m.hosts) c.self.view_is
