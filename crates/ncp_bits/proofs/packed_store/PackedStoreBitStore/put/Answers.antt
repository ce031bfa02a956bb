use Rattle.std.specs.Box.{boxed_slice_len}
use Rattle.std.proofs.Common.{◌≡◌, refl, ◌+◌, ◌++◌, ap, ◌∙◌, length, List, ℕ, arith}
use Rattle.std.proofs.lemmas.List.{take_at}
use Rattle.ncp_bits.specs.Store.{Stored}
use Rattle.ncp_bits.specs.Packed.{bit_run}
use Rattle.ncp_bits.proofs.Runs.{length-held}
use Rattle.ncp_bits.proofs.packed_store.PackedStoreBitStore.put.Goals as goal

pub returns-then-len-self-clause-variant : goal.returns-then-len-self-clause-variant
returns-then-len-self-clause-variant c =
    let l : c.self.inside.len ≡ length c.args.self.now.held = length-held c.self.invariant (ap (λ (store : Stored). store.held) c.self.view_is) in
    let size : c.self.inside.capacity ≡ c.args.self.now.capacity = ap (λ (store : Stored). store.capacity) c.self.view_is in
    ((λ h. absurd (cc)), (λ h. absurd (omega arith)))

pub returns-clause-variant : goal.returns-clause-variant
returns-clause-variant c =
    let l : c.self.inside.len ≡ length c.args.self.now.held = length-held c.self.invariant (ap (λ (store : Stored). store.held) c.self.view_is) in
    let size : c.self.inside.capacity ≡ c.args.self.now.capacity = ap (λ (store : Stored). store.capacity) c.self.view_is in
    ((λ _. omega (arith, c.self.invariant.fits)), (λ _. refl))

pub returns-clause-ok : goal.returns-clause-ok
returns-clause-ok c =
    let l : c.self.inside.len ≡ length c.args.self.now.held = length-held c.self.invariant (ap (λ (store : Stored). store.held) c.self.view_is) in
    let long : length c.append_run-self-inside.new.bytes ≡ boxed_slice_len c.self.inside.bytes = omega arith in
    ap (λ (bytes : List ℕ). bit_run bytes c.append_run-self-inside.result (c.self.inside.len + c.len-2.result)) (take_at c.append_run-self-inside.new.bytes _ (boxed_slice_len c.self.inside.bytes) long)
    ∙ ap (λ (n : ℕ). bit_run c.append_run-self-inside.new.bytes c.append_run-self-inside.result (c.self.inside.len + n)) c.len-2.ensures.len
    ∙ c.append_run-self-inside.ensures.held
    ∙ ap (λ (bytes : List ℕ). bit_run bytes c.self.inside.from c.self.inside.len ++ c.args.part) c.as_mut_slice.ensures.value
    ∙ ap (λ (store : Stored). store.held ++ c.args.part) c.self.view_is

pub returns-then-len-self-clause-ok : goal.returns-then-len-self-clause-ok
returns-then-len-self-clause-ok c = tt
