use Rattle.std.proofs.Common.{◌∙◌}
use Rattle.ncp_transcript.proofs.error_list.ErrorList.as_slice.Goals as goal

pub returns : goal.returns
returns c = c.as_slice.ensures.value ∙ c.self.view_is
