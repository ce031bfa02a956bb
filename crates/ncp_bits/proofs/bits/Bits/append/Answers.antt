use Rattle.std.proofs.Common.{◌≡◌, ◌+◌, ◌++◌, List, ℕ, length, take, drop, refl, sym, ap, ◌∙◌, arith}
use Rattle.std.proofs.lemmas.List.{take_at, length-append}
use Rattle.ncp_bits.specs.Packed.{bit_run}
use Rattle.ncp_bits.proofs.Runs.{length-packed, run-take}
use Rattle.ncp_bits.proofs.bits.Bits.append.Goals as goal

pub returns-then-len-self-clause-variant : goal.returns-then-len-self-clause-variant
returns-then-len-self-clause-variant c =
    let l : c.self.inside.len ≡ length c.args.self.now = length-packed c.self.invariant c.self.view_is in
    ((λ h. absurd (cc)), (λ h. absurd (omega arith)))

-- the bytes that are left are those that were written
same : (c : goal.After-self-2-1) → take (length c.lengthen.new.bytes.items) (c.write_after.new.out ++ drop (length c.write_after.new.out) c.lengthen.new.bytes.items) ≡ c.write_after.new.out
same c =
    let long : length c.write_after.new.out ≡ length c.lengthen.new.bytes.items = let e : length c.as_mut_slice.result.now ≡ length c.lengthen.new.bytes.items = ap length c.as_mut_slice.ensures.value in omega arith in
    take_at c.write_after.new.out (drop (length c.write_after.new.out) c.lengthen.new.bytes.items) (length c.lengthen.new.bytes.items) long

now : (c : goal.After-self-2-1) → c.self.inside.len + c.len-2.result ≡ c.self.inside.len + length c.args.part
now c = ap (λ (n : ℕ). c.self.inside.len + n) c.len-2.ensures.len

pub invariant_of-self : goal.invariant_of-self
invariant_of-self c =
    let e : length c.as_mut_slice.result.now ≡ length c.lengthen.new.bytes.items = ap length c.as_mut_slice.ensures.value in
    rw (same c, now c) (record { fits = omega arith; inside = omega arith })

pub returns-clause-variant : goal.returns-clause-variant
returns-clause-variant c =
    let l : c.self.inside.len ≡ length c.args.self.now = length-packed c.self.invariant c.self.view_is in
    ((λ _. omega (arith, c.self.invariant.fits)), (λ _. refl))

pub returns-clause-ok : goal.returns-clause-ok
returns-clause-ok c =
    let e : length c.as_mut_slice.result.now ≡ length c.lengthen.new.bytes.items = ap length c.as_mut_slice.ensures.value in
    ap (λ (bytes : List ℕ). bit_run bytes 0 (c.self.inside.len + c.len-2.result)) (same c)
    ∙ ap (bit_run c.write_after.new.out 0) (now c)
    ∙ c.write_after.ensures
    ∙ ap (λ bits. bits ++ c.args.part) (
    ap (λ (bytes : List ℕ). bit_run bytes 0 c.self.inside.len) c.as_mut_slice.ensures.value
    ∙ sym (run-take c.lengthen.new.bytes.items (length c.self.inside.bytes.items) 0 c.self.inside.len (omega arith) (omega (arith, c.self.invariant.inside)))
    ∙ ap (λ (bytes : List ℕ). bit_run bytes 0 c.self.inside.len) c.lengthen.ensures.front
    ∙ c.self.view_is)

pub returns-clause-len : goal.returns-clause-len
returns-clause-len c = ap length (returns-clause-ok c) ∙ length-append c.args.self.now c.args.part
