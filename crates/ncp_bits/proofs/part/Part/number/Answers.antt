use Rattle.std.proofs.Common.{◌≡◌, ◌+◌, ◌<◌, ◌^◌, ap, sym, ◌∙◌, length, slice_range, List, Bool, arith}
use Rattle.ncp_numbers.specs.Numbers.{number_of}
use Rattle.ncp_numbers.proofs.Numbers.{number_of_range}
use Rattle.ncp_bits.proofs.Runs.{length-part, range-run}
use Rattle.ncp_bits.proofs.part.Part.number.Goals as goal

pub overflow_add-self-inside : goal.overflow_add-self-inside
overflow_add-self-inside c = omega (arith, length-part c.self.invariant c.self.view_is)

pub number_in-requires-clause-inside : goal.number_in-requires-clause-inside
number_in-requires-clause-inside c = omega (arith, length-part c.self.invariant c.self.view_is)

pub number_in-requires-clause-counted : goal.number_in-requires-clause-counted
number_in-requires-clause-counted c = omega (arith, length-part c.self.invariant c.self.view_is)

pub returns-clause-number : goal.returns-clause-number
returns-clause-number c =
    let l : c.self.inside.len ≡ length c.args.self.now = length-part c.self.invariant c.self.view_is in
    c.number_in.ensures
    ∙ ap number_of (
    sym (range-run c.self.inside.bytes.now c.self.inside.skip c.self.inside.len c.args.at c.args.width (omega arith))
    ∙ ap (λ (bits : List Bool). slice_range bits c.args.at (c.args.at + c.args.width)) c.self.view_is)

pub returns-clause-fits : goal.returns-clause-fits
returns-clause-fits c =
    let fits : number_of (slice_range c.args.self.now c.args.at (c.args.at + c.args.width)) < 2 ^ c.args.width = number_of_range c.args.self.now c.args.at c.args.width in
    let e : c.number_in.result ≡ number_of (slice_range c.args.self.now c.args.at (c.args.at + c.args.width)) = returns-clause-number c in
    rw e fits
