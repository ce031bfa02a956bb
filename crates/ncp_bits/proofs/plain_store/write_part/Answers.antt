use Rattle.std.proofs.Common.{◌≡◌, ◌+◌, ◌++◌, [], ◌∷◌, List, Bool, false, take, get_or, sym, ap, ◌∙◌, arith}
use Rattle.std.proofs.lemmas.List.{append_assoc, take_more, length-set}
use Rattle.std.proofs.lemmas.Grind.{take-set_at}
use Rattle.std.proofs.lemmas.Option.{get_or_from_slice_get}
use Rattle.ncp_bits.proofs.plain_store.write_part.Goals as goal

pub loop-place-preserved : goal.loop-place-preserved
loop-place-preserved c =
    let bit : get_or c.args.part.now c.loop-place.place false ≡ c.bit.result = get_or_from_slice_get c.args.part.now c.loop-place.place c.bit.result false c.bit.ensures in
    record {
      written = take-set_at c.loop-place.cells (c.args.at + c.loop-place.place) (c.args.at + (c.loop-place.place + 1)) c.bit.result (omega arith) (omega (arith, c.loop-place.invariant.len, c.requires))
          ∙ ap (λ (items : List Bool). items ++ c.bit.result ∷ []) c.loop-place.invariant.written
          ∙ append_assoc (take c.args.at c.args.cells.now) (take c.loop-place.place c.args.part.now) (c.bit.result ∷ [])
          ∙ ap (λ bits. take c.args.at c.args.cells.now ++ bits) (sym (take_more c.args.part.now c.loop-place.place false (omega arith) ∙ ap (λ bit. take c.loop-place.place c.args.part.now ++ bit ∷ []) bit));
      len = length-set c.loop-place.cells (c.args.at + c.loop-place.place) c.bit.result ∙ c.loop-place.invariant.len;
    }
