use Rattle.std.proofs.Common.{◌+◌, slice_range, List, Bool, ap, ◌∙◌}
use Rattle.ncp_numbers.specs.Numbers.{number_of}
use Rattle.ncp_bits.proofs.bits.Bits.number.Goals as goal

pub returns-clause-number : goal.returns-clause-number
returns-clause-number c =
    c.number.ensures.number ∙ ap (λ (bits : List Bool). number_of (slice_range bits c.args.at (c.args.at + c.args.width))) c.whole.ensures

pub returns-clause-fits : goal.returns-clause-fits
returns-clause-fits c = c.number.ensures.fits
