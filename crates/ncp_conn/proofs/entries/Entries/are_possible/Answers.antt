use Rattle.std.proofs.Common.{◌≡◌, ℕ, false, List, sym, ◌∙◌, subst, arith}
use Rattle.std.specs.List.{All}
use Rattle.slab.specs.Slab.{entries}
use Rattle.ncp_model.specs.declared.pair.Pair.{Pair}
use Rattle.ncp_model.specs.Endpoint.{Endpoint, is_ended}
use Rattle.ncp_conn.specs.Restoring.{IsPossible}
use Rattle.ncp_conn.proofs.Possible.{IsFit, all_cons, all_values}
use Rattle.ncp_conn.proofs.entries.Entries.are_possible.Goals as goal

pub loop-entry-init : goal.loop-entry-init
loop-entry-init g c = (tt, tt, subst (λ (es : List (ℕ × (Pair × Endpoint))). All IsFit es → All IsFit (entries c.args.self.now.slab)) (sym (c.into_iter-entry-iterator.ensures.into_iter_gives ∙ c.iter-entry-items.ensures.rest)) (λ all. all))

pub loop-entry-preserved : goal.loop-entry-preserved
loop-entry-preserved g c = (
  tt,
  tt,
  λ rest. c.loop-entry.invariant.2 (subst (λ (es : List (ℕ × (Pair × Endpoint))). All IsFit es) (sym c.in-Some.ensures.steps) (all_cons IsFit (c.in-Some.field-0-0, c.in-Some.entry.now) c.next.new.self c.is_possible.ensures rest)),
)

pub returns : goal.returns
returns g c =
    let left : All IsFit c.loop-entry.entry-iterator = subst (λ (es : List (ℕ × (Pair × Endpoint))). All IsFit es) (sym c.in-None.ensures.steps.0) (λ k d l. absurd (omega (arith, l))) in
    all_values (λ (p : Pair × Endpoint). is_ended p.1 ≡ false → IsPossible p) 0 c.args.self.now.slab.slots (c.loop-entry.invariant.2 left)
