use Rattle.std.proofs.Common.{ap, ◌∙◌}
use Rattle.ncp_play_stream.specs.Memory.{Writing}
use Rattle.ncp_play_stream.proofs.memory.MemorySink.bytes.Goals as goal

pub returns : goal.returns
returns c = c.as_slice.ensures.value ∙ ap (λ (sink : Writing). sink.written) c.self.view_is
