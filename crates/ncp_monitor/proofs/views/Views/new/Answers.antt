use Rattle.std.proofs.Common.{◌≡◌, ◌∙◌, ap, replicate, List, ◌++◌, ◌∷◌, [], length, arith}
use Rattle.std.proofs.lemmas.List.{length-replicate, replicate-append-replicate}
use Rattle.ncp_monitor.specs.declared.view.View.{View}
use Rattle.ncp_monitor.specs.declared.views.TheConstants.{VIEWS}
use Rattle.ncp_monitor.specs.Views.{new_view}
use Rattle.ncp_monitor.proofs.views.Views.new.Goals as goal

pub loop-place-preserved : goal.loop-place-preserved
loop-place-preserved c = record {
  len = omega arith;
  room = omega arith;
  new = c.push_reserved.ensures.items ∙ ap (λ (items : List View). items ++ c.new.result ∷ []) c.loop-place.invariant.new ∙ (let e : c.new.result ≡ new_view c.args.part = c.new.ensures in rw e (replicate-append-replicate c.loop-place._place 1 (new_view c.args.part)));
}

pub invariant_of-result : goal.invariant_of-result
invariant_of-result c = ap length c.into_boxed_slice.ensures.items ∙ ap length c.loop-place.invariant.new ∙ length-replicate _ _ ∙ omega arith

pub returns : goal.returns
returns c =
    let all : c.loop-place._place ≡ VIEWS = omega arith in
    c.into_boxed_slice.ensures.items ∙ c.loop-place.invariant.new ∙ ap (λ n. replicate n (new_view c.args.part)) all
