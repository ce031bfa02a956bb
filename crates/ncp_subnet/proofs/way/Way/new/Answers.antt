use Rattle.std.proofs.Common.{◌∙◌, ap, List, ◌++◌, ◌∷◌, [], length, arith}
use Rattle.std.proofs.lemmas.List.{length-replicate, replicate-append-replicate}
use Rattle.ncp_subnet.specs.declared.transit.Transit.TheVariants.{Free}
use Rattle.ncp_subnet.specs.Ways.{OnLink}
use Rattle.ncp_subnet.proofs.way.Way.new.Goals as goal

pub loop-link-preserved : goal.loop-link-preserved
loop-link-preserved c = record {
  len = omega arith;
  room = omega arith;
  free = c.push_reserved.ensures.items ∙ ap (λ (items : List OnLink). items ++ Free ∷ []) c.loop-link.invariant.free ∙ replicate-append-replicate c.loop-link._link 1 Free;
}

pub invariant_of-result : goal.invariant_of-result
invariant_of-result c = ap length c.into_boxed_slice.ensures.items ∙ ap length c.loop-link.invariant.free ∙ length-replicate _ _ ∙ omega arith
