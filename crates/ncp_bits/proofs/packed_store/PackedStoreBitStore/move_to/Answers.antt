use Rattle.std.specs.Box.{boxed_slice_items}
use Rattle.std.proofs.Common.{◌≡◌, ◌++◌, sym, ap, ◌∙◌, length, take, drop, List, Bool, ℕ, arith}
use Rattle.std.proofs.lemmas.Result.{IfOk-at_ok}
use Rattle.ncp_bits.specs.Store.{Stored}
use Rattle.ncp_bits.specs.Packed.{bit_run}
use Rattle.ncp_bits.proofs.Runs.{length-held, take-run, drop-run}
use Rattle.ncp_bits.proofs.packed_store.PackedStoreBitStore.move_to.Goals as goal

pub of_bytes-requires-clause-inside : goal.of_bytes-requires-clause-inside
of_bytes-requires-clause-inside c =
    let l : c.self.inside.len ≡ length c.args.self.now.held = length-held c.self.invariant (ap (λ (store : Stored). store.held) c.self.view_is) in
    let same : length c.as_slice.result.now ≡ length (boxed_slice_items c.self.inside.bytes) = ap length c.as_slice.ensures.value in
    omega (arith, c.self.invariant.inside)

pub overflow_add-self : goal.overflow_add-self
overflow_add-self c = omega (arith, length-held c.self.invariant (ap (λ (store : Stored). store.held) c.self.view_is), c.self.invariant.inside, c.self.invariant.counted)

pub overflow_sub-self : goal.overflow_sub-self
overflow_sub-self c = omega (arith, length-held c.self.invariant (ap (λ (store : Stored). store.held) c.self.view_is))

pub invariant_of-self : goal.invariant_of-self
invariant_of-self c =
    let l : c.self.inside.len ≡ length c.args.self.now.held = length-held c.self.invariant (ap (λ (store : Stored). store.held) c.self.view_is) in
    record {
      fits = omega (arith, c.self.invariant.fits);
      inside = omega (arith, c.self.invariant.inside);
      room = c.self.invariant.room;
      counted = c.self.invariant.counted;
    }

pub returns-clause-bits : goal.returns-clause-bits
returns-clause-bits c =
    let l : c.self.inside.len ≡ length c.args.self.now.held = length-held c.self.invariant (ap (λ (store : Stored). store.held) c.self.view_is) in
    IfOk-at_ok (λ _. c.append.new.self ≡ c.args.bits.now ++ c.of_bytes.result) c.unwrap.ensures c.append.ensures.ok
    ∙ ap (λ (bits : List Bool). c.args.bits.now ++ bits) (c.of_bytes.ensures.bits
    ∙ ap (λ (bytes : List ℕ). bit_run bytes c.self.inside.from c.args.count) c.as_slice.ensures.value
    ∙ sym (take-run (boxed_slice_items c.self.inside.bytes) c.self.inside.from c.self.inside.len c.args.count (omega arith))
    ∙ ap (λ (store : Stored). take c.args.count store.held) c.self.view_is)

pub returns-clause-held : goal.returns-clause-held
returns-clause-held c =
    let l : c.self.inside.len ≡ length c.args.self.now.held = length-held c.self.invariant (ap (λ (store : Stored). store.held) c.self.view_is) in
    sym (drop-run (boxed_slice_items c.self.inside.bytes) c.self.inside.from c.self.inside.len c.args.count (omega arith))
    ∙ ap (λ (store : Stored). drop c.args.count store.held) c.self.view_is
