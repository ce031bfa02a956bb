use Rattle.std.proofs.Common.{◌≡◌, ◌<◌, ◌+◌, ◌*◌, ◌^◌, ℕ, List, length, get_or, sym, ap, ◌∙◌, arith}
use Rattle.std.proofs.lemmas.List.{get_or-take}
use Rattle.ncp_numbers.specs.Numbers.{number_of}
use Rattle.ncp_numbers.specs.Bytes.{byte_bits}
use Rattle.ncp_bits.specs.Packed.{bit_run}
use Rattle.ncp_numbers.proofs.Fields.{number_of-fitting}
use Rattle.ncp_bits.proofs.Runs.{run_of_byte}
use Rattle.ncp_bits.proofs.writing.fill.Goals as goal

pub returns : goal.returns
unfolding byte_bits
returns c = λ k h.
    let inside : k < length c.args.out.now = omega arith in
    let place : 8 * k + c.args.skip ≡ 8 * k = omega arith in
    let small : get_or c.args.bytes.now k 0 < 2 ^ 8 = let fits = c.type_inv.bytes k in omega arith in
    ap (λ (xs : List ℕ). get_or xs k 0) c.copy_from_slice.ensures.after
    ∙ get_or-take (length c.args.out.now) c.args.bytes.now k 0 inside
    ∙ sym (number_of-fitting 8 (get_or c.args.bytes.now k 0) small)
    ∙ ap number_of (sym (run_of_byte c.args.bytes.now k (omega arith)))
    ∙ ap (λ (n : ℕ). number_of (bit_run c.args.bytes.now n 8)) (sym place)
