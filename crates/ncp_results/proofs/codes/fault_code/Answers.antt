use Rattle.std.proofs.Common.{◌∙◌}
use Rattle.ncp_results.proofs.codes.fault_code.Goals as goal

pub returns : goal.returns
returns c = c.from.ensures ∙ c.number.ensures
