use Rattle.std.proofs.Common.{◌≡◌, ◌∙◌, ap, replicate, Bool, false, List, ◌++◌, ◌∷◌, [], length, arith}
use Rattle.std.proofs.lemmas.List.{length-replicate, replicate-append-replicate}
use Rattle.ncp_monitor.specs.declared.views.TheConstants.{VIEWS}
use Rattle.ncp_monitor.proofs.host_pairs.HostPairs.new.Goals as goal

pub loop-place-preserved : goal.loop-place-preserved
loop-place-preserved c = record {
  len = omega arith;
  room = omega arith;
  new = c.push_reserved.ensures.items ∙ ap (λ (items : List Bool). items ++ false ∷ []) c.loop-place.invariant.new ∙ replicate-append-replicate c.loop-place._place 1 false;
}

pub invariant_of-result : goal.invariant_of-result
invariant_of-result c = ap length c.into_boxed_slice.ensures.items ∙ ap length c.loop-place.invariant.new ∙ length-replicate _ _ ∙ omega arith

pub returns : goal.returns
returns c =
    let all : c.loop-place._place ≡ VIEWS = omega arith in
    c.into_boxed_slice.ensures.items ∙ c.loop-place.invariant.new ∙ ap (λ n. replicate n false) all
