use Rattle.std.proofs.Common.{◌≡◌, ◌++◌, [], ◌∷◌, List, Bool, true, false, ℕ, take, get_or, refl, sym, ap, ◌∙◌, arith}
use Rattle.std.specs.Int.{from_bool}
use Rattle.std.proofs.lemmas.List.{append_assoc, take_more}
use Rattle.std.proofs.lemmas.Result.{IfOk-at_ok}
use Rattle.ncp_numbers.specs.Numbers.{bits_of}
use Rattle.ncp_bits.proofs.plain_store.push_cells.Goals as goal

-- a bit as a number of one bit
one_bit : (bit : Bool) → bits_of 1 (from_bool bit) ≡ bit ∷ []
unfolding bits_of
one_bit true = refl
one_bit false = refl

pub loop-cell-preserved : goal.loop-cell-preserved
loop-cell-preserved c =
    IfOk-at_ok (λ _. c.push_number.new.self ≡ c.loop-cell.bits ++ bits_of 1 c.from.result) c.unwrap.ensures c.push_number.ensures.ok
    ∙ ap (λ (n : ℕ). c.loop-cell.bits ++ bits_of 1 n) c.from.ensures
    ∙ ap (λ bits. c.loop-cell.bits ++ bits) (one_bit (get_or c.args.cells.now c.loop-cell.cell-index false))
    ∙ ap (λ (bits : List Bool). bits ++ get_or c.args.cells.now c.loop-cell.cell-index false ∷ []) c.loop-cell.invariant
    ∙ append_assoc c.args.bits.now (take c.loop-cell.cell-index c.args.cells.now) (get_or c.args.cells.now c.loop-cell.cell-index false ∷ [])
    ∙ ap (λ (bits : List Bool). c.args.bits.now ++ bits) (sym (take_more c.args.cells.now c.loop-cell.cell-index false (omega arith)))
