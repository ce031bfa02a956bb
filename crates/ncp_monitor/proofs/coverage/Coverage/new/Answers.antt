use Rattle.std.proofs.Common.{◌≡◌, ◌∙◌, ap, replicate, List, ◌++◌, ◌∷◌, [], length, arith}
use Rattle.std.proofs.lemmas.List.{length-replicate, replicate-append-replicate}
use Rattle.ncp_monitor.specs.declared.coverage.PairCoverage.{PairCoverage}
use Rattle.ncp_monitor.specs.declared.views.TheConstants.{VIEWS}
use Rattle.ncp_monitor.specs.Coverage.{nothing_passed}
use Rattle.ncp_monitor.proofs.coverage.Coverage.new.Goals as goal

pub loop-place-preserved : goal.loop-place-preserved
loop-place-preserved c = record {
  len = omega arith;
  room = omega arith;
  new = c.push_reserved.ensures.items ∙ ap (λ (items : List PairCoverage). items ++ c.nothing_passed.result ∷ []) c.loop-place.invariant.new ∙ (let e : c.nothing_passed.result ≡ nothing_passed = c.nothing_passed.ensures in rw e (replicate-append-replicate c.loop-place._place 1 nothing_passed));
}

pub invariant_of-result : goal.invariant_of-result
invariant_of-result c = ap length c.into_boxed_slice.ensures.items ∙ ap length c.loop-place.invariant.new ∙ length-replicate _ _ ∙ omega arith

pub returns : goal.returns
returns c =
    let all : c.loop-place._place ≡ VIEWS = omega arith in
    c.into_boxed_slice.ensures.items ∙ c.loop-place.invariant.new ∙ ap (λ n. replicate n nothing_passed) all
