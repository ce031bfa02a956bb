use Rattle.std.proofs.Common.{sym, ◌∙◌}
use Rattle.ncp_step.proofs.steps.new_host.Goals as goal

pub returns-in-Ok : goal.returns-in-Ok
returns-in-Ok g c = c.in-Ok.ensures.new

pub unreachable-requires : goal.unreachable-requires
unreachable-requires g c = absurd (cc (sym c.in-Err-BadPeers.field-0-is ∙ c.in-Err-BadPeers.ensures.full c.requires))
