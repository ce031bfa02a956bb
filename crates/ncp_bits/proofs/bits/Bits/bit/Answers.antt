use Rattle.std.proofs.Common.{◌≡◌, ◌+◌, ap, sym, ◌∙◌, length, get_or, false, Some, List, Bool, ℕ, arith}
use Rattle.std.proofs.lemmas.Option.{slice_get-get_or}
use Rattle.ncp_numbers.specs.Bytes.{bits_of_bytes}
use Rattle.ncp_bits.proofs.Runs.{length-packed, get_or-run}
use Rattle.ncp_bits.proofs.bits.Bits.bit.Goals as goal

pub bit_in-requires : goal.bit_in-requires
bit_in-requires c =
    let l : c.self.inside.len ≡ length c.args.self.now = length-packed c.self.invariant c.self.view_is in
    let same : length c.as_slice.result.now ≡ length c.self.inside.bytes.items = ap length c.as_slice.ensures.value in
    omega (arith, c.self.invariant.inside)

pub returns : goal.returns
returns c =
    let l : c.self.inside.len ≡ length c.args.self.now = length-packed c.self.invariant c.self.view_is in
    let place : 0 + c.args.place ≡ c.args.place = omega arith in
    slice_get-get_or c.args.self.now c.args.place false c.requires
    ∙ ap Some (
    ap (λ (bits : List Bool). get_or bits c.args.place false) (sym c.self.view_is)
    ∙ get_or-run c.self.inside.bytes.items 0 c.self.inside.len c.args.place (omega arith)
    ∙ ap (λ (n : ℕ). get_or (bits_of_bytes c.self.inside.bytes.items) n false) place
    ∙ ap (λ (bytes : List ℕ). get_or (bits_of_bytes bytes) c.args.place false) (sym c.as_slice.ensures.value)
    ∙ sym c.bit_in.ensures)
