use Rattle.std.specs.Box.{boxed_slice_items, boxed_slice_len}
use Rattle.std.proofs.Common.{◌≡◌, ◌+◌, ◌-◌, ◌++◌, sym, ap, ◌∙◌, length, take, drop, List, Bool, ℕ, arith}
use Rattle.std.proofs.lemmas.List.{take-take, take-append-le, drop-take, length-take-le, length-drop}
use Rattle.ncp_bits.specs.Store.{Stored}
use Rattle.ncp_bits.proofs.plain_store.PlainStoreBitStore.move_to.Goals as goal

pub returns-clause-held : goal.returns-clause-held
returns-clause-held c =
    let items = boxed_slice_items c.self.inside.cells in
    let count = c.args.count in
    let left = c.self.inside.len - count in
    let lent : length c.as_mut_slice.result.now ≡ length items = ap length c.as_mut_slice.ensures.value in
    let long : length items ≡ boxed_slice_len c.self.inside.cells = omega (arith, lent, c.as_mut_slice.ensures.len) in
    let held : length (take c.self.inside.len items) ≡ c.self.inside.len = length-take-le c.self.inside.len items (omega (arith, long, c.self.invariant)) in
    let few : length (take c.self.inside.len items) ≡ length c.args.self.now.held = ap (λ (store : Stored). length store.held) c.self.view_is in
    let counterpart : c.rotate_left.new.self ≡ drop count items ++ take count items = c.rotate_left.ensures.after ∙ ap (λ (xs : List Bool). drop count xs ++ take count xs) c.as_mut_slice.ensures.value in
    let behind : length (drop count items) ≡ length items - count = length-drop count items in
    let total : count + left ≡ c.self.inside.len = omega (arith, c.requires.held, held, few) in
    take-take left _ _ (omega (arith, total, c.self.invariant))
    ∙ take-append-le left _ _ (omega (arith, total, long, lent, c.rotate_left.ensures.len, c.self.invariant))
    ∙ ap (take left) counterpart
    ∙ take-append-le left (drop count items) (take count items) (omega (arith, behind, total, long, c.self.invariant))
    ∙ sym (drop-take count left items)
    ∙ ap (λ (n : ℕ). drop count (take n items)) total
    ∙ ap (λ (store : Stored). drop count store.held) c.self.view_is
