use Rattle.std.proofs.Common.{◌≡◌, ◌≤◌, ◌++◌, ◌∷◌, List, length, sym, ap, ◌∙◌, arith}
use Rattle.circular_buffer.specs.Buffer.{Buffer}
use Rattle.ncp_phase.proofs.Copying.{one_kept}
use Rattle.ncp_phase.proofs.fixed_ring.FixedRing.copy.Goals as goal

pub loop-item-init : goal.loop-item-init
loop-item-init g c = (
  tt,
  tt,
  ap (λ (b : Buffer g.row.T.Denot). b.items ++ c.into_iter-item-iterator.result) c.in_ok-copy.ensures ∙ c.into_iter-item-iterator.ensures.into_iter_gives ∙ c.iter-item-items.ensures.rest ∙ ap (λ (b : Buffer g.row.T.Denot). b.items) c.self.view_is,
  ap (λ (b : Buffer g.row.T.Denot). b.capacity) c.in_ok-copy.ensures ∙ c.capacity.ensures.capacity ∙ ap (λ (b : Buffer g.row.T.Denot). b.capacity) c.self.view_is,
)

pub loop-item-preserved : goal.loop-item-preserved
loop-item-preserved g c =
    let i = c.loop-item.invariant in
    let many : length c.self.inside.ring.items ≡ length c.args.self.now.items = ap (λ (b : Buffer g.row.T.Denot). length b.items) c.self.view_is in
    let room : c.self.inside.ring.capacity ≡ c.args.self.now.capacity = ap (λ (b : Buffer g.row.T.Denot). b.capacity) c.self.view_is in
    let same : c.capacity.result ≡ c.self.inside.ring.capacity = c.capacity.ensures.capacity in
    let inside : length c.self.inside.ring.items ≤ c.capacity.result = c.capacity.ensures.within.0 in
    let kept : c.loop-item.copy.capacity ≡ c.args.self.now.capacity = i.3 in
    let fits : length c.args.self.now.items ≤ c.loop-item.copy.capacity = omega (arith, many, room, same, inside, kept) in
    let left : c.loop-item.copy.items ++ c.in-Some.item.now ∷ c.next.new.self ≡ c.args.self.now.items = ap (λ (xs : List g.row.T.Denot). c.loop-item.copy.items ++ xs) (sym c.in-Some.ensures.steps) ∙ i.2 in (
      tt,
      tt,
      ap (λ (b : Buffer g.row.T.Denot). b.items ++ c.next.new.self) c.push_back.ensures.items ∙ one_kept c.loop-item.copy.items c.next.new.self c.args.self.now.items c.in-Some.item.now c.loop-item.copy.capacity left fits,
      ap (λ (b : Buffer g.row.T.Denot). b.capacity) c.push_back.ensures.items ∙ i.3,
    )
