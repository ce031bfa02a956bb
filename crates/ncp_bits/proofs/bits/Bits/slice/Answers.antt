use Rattle.std.proofs.Common.{◌+◌, slice_range, List, Bool, ap, ◌∙◌}
use Rattle.ncp_bits.proofs.bits.Bits.slice.Goals as goal

pub returns-clause-bits : goal.returns-clause-bits
returns-clause-bits c = c.slice.ensures.bits ∙ ap (λ (bits : List Bool). slice_range bits c.args.at (c.args.at + c.args.len)) c.whole.ensures

pub returns-clause-len : goal.returns-clause-len
returns-clause-len c = c.slice.ensures.len
