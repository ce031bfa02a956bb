use Rattle.std.proofs.Common.{ℕ, List, ap, ◌∙◌}
use Rattle.ncp_bits.specs.Packed.{bit_run}
use Rattle.ncp_bits.proofs.bits.Bits.whole.Goals as goal

pub returns : goal.returns
returns c = c.of_bytes.ensures.bits ∙ ap (λ (bytes : List ℕ). bit_run bytes 0 c.self.inside.len) c.as_slice.ensures.value ∙ c.self.view_is
