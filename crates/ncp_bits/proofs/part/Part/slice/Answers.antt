use Rattle.std.proofs.Common.{◌≡◌, ◌+◌, ap, sym, ◌∙◌, length, slice_range, List, Bool, arith}
use Rattle.ncp_bits.proofs.Runs.{length-part, range-run}
use Rattle.ncp_bits.proofs.part.Part.slice.Goals as goal

pub overflow_add-self-inside : goal.overflow_add-self-inside
overflow_add-self-inside c = omega (arith, length-part c.self.invariant c.self.view_is)

pub of_bytes-requires-clause-fits : goal.of_bytes-requires-clause-fits
of_bytes-requires-clause-fits c = omega (arith, length-part c.self.invariant c.self.view_is)

pub of_bytes-requires-clause-inside : goal.of_bytes-requires-clause-inside
of_bytes-requires-clause-inside c = omega (arith, length-part c.self.invariant c.self.view_is)

pub returns-clause-bits : goal.returns-clause-bits
returns-clause-bits c =
    let l : c.self.inside.len ≡ length c.args.self.now = length-part c.self.invariant c.self.view_is in
    c.of_bytes.ensures.bits
    ∙ sym (range-run c.self.inside.bytes.now c.self.inside.skip c.self.inside.len c.args.at c.args.len (omega arith))
    ∙ ap (λ (bits : List Bool). slice_range bits c.args.at (c.args.at + c.args.len)) c.self.view_is

pub returns-clause-len : goal.returns-clause-len
returns-clause-len c = c.of_bytes.ensures.len
