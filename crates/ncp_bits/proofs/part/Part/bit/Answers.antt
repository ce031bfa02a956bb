use Rattle.std.proofs.Common.{◌≡◌, ap, sym, ◌∙◌, length, get_or, false, Some, List, Bool, arith}
use Rattle.std.proofs.lemmas.Option.{slice_get-get_or}
use Rattle.ncp_bits.proofs.Runs.{length-part, get_or-run}
use Rattle.ncp_bits.proofs.part.Part.bit.Goals as goal

pub overflow_add-self-inside : goal.overflow_add-self-inside
overflow_add-self-inside c = omega (arith, length-part c.self.invariant c.self.view_is)

pub bit_in-requires : goal.bit_in-requires
bit_in-requires c = omega (arith, length-part c.self.invariant c.self.view_is)

pub returns : goal.returns
returns c =
    let l : c.self.inside.len ≡ length c.args.self.now = length-part c.self.invariant c.self.view_is in
    slice_get-get_or c.args.self.now c.args.place false c.requires
    ∙ ap Some (
    ap (λ (bits : List Bool). get_or bits c.args.place false) (sym c.self.view_is)
    ∙ get_or-run c.self.inside.bytes.now c.self.inside.skip c.self.inside.len c.args.place (omega arith)
    ∙ sym c.bit_in.ensures)
