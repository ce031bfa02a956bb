use Rattle.std.proofs.Common.{◌≡◌, ◌+◌, ◌-◌, ◌++◌, ℕ, List, false, length, replicate, Result, Ok, Err, IsOk, OnErr, refl, ap, ◌∙◌, arith}
use Rattle.std.proofs.lemmas.Result.{IfOk-at_ok}
use Rattle.std.proofs.lemmas.List.{append_assoc, length-append, length-replicate}
use Rattle.ncp_numbers.specs.Numbers.{bits_of}
use Rattle.ncp_bits.specs.Packed.{bit_run}
use Rattle.ncp_numbers.proofs.Numbers.{bits_of-spelled}
use Rattle.ncp_bits.proofs.Runs.{run-number, run-zeros, length-packed}
use Rattle.ncp_bits.proofs.Joins.{min_is}
use Rattle.ncp_bits.proofs.bits.Bits.push_number.Goals as goal

never_err : {T E : Type 0} (P : Type 0) (r : Result T E) → IsOk r → OnErr r P
never_err P (Ok x) h = tt
never_err P (Err e) h = let f : ⊥ = cc in absurd f

pub returns-then-width-self-clause-variant : goal.returns-then-width-self-clause-variant
returns-then-width-self-clause-variant c =
    let l : c.self.inside.len ≡ length c.args.self.now = length-packed c.self.invariant c.self.view_is in
    ((λ h. absurd (cc)), (λ h. absurd (omega arith)))

pub unwrap-requires : goal.unwrap-requires
unwrap-requires c =
    let l : c.self.inside.len ≡ length c.args.self.now = length-packed c.self.invariant c.self.view_is in
    c.append.ensures.variant.1 (omega (arith, c.of_bytes.ensures.len))

-- the zeros in front were appended
widened : (c : goal.After-append-2) → c.append.new.self ≡ c.args.self.now ++ replicate (c.args.width - c.min-spelled.result) false
widened c =
    IfOk-at_ok (λ _. c.append.new.self ≡ c.args.self.now ++ c.of_bytes.result) c.unwrap.ensures c.append.ensures.ok
    ∙ ap (λ bits. c.args.self.now ++ bits) (c.of_bytes.ensures.bits ∙ run-zeros 1024 (c.args.width - c.min-spelled.result) (omega arith))

-- and then the number's own bits
appended : (c : goal.After-append-2) → c.append.new.self ++ c.of_bytes-2.result ≡ c.args.self.now ++ bits_of c.args.width c.args.value
appended c =
    let own : c.of_bytes-2.result ≡ bits_of c.min-spelled.result c.args.value =
    c.of_bytes-2.ensures.bits ∙ ap (λ (bytes : List ℕ). bit_run bytes (64 - c.min-spelled.result) c.min-spelled.result) c.to_be_bytes-bytes.ensures ∙ run-number c.args.value c.min-spelled.result (omega arith) in
    ap (λ bits. bits ++ c.of_bytes-2.result) (widened c)
    ∙ append_assoc c.args.self.now (replicate (c.args.width - c.min-spelled.result) false) c.of_bytes-2.result
    ∙ ap (λ bits. c.args.self.now ++ bits) (
    ap (λ bits. replicate (c.args.width - c.min-spelled.result) false ++ bits) own
    ∙ bits_of-spelled c.args.width 64 c.min-spelled.result c.args.value (min_is c.args.width 64 c.min-spelled.result c.min-spelled.ensures) (omega arith) (omega arith))

pub returns-clause-ok : goal.returns-clause-ok
returns-clause-ok c = let h = c.append-2.ensures.ok in rw (appended c) at h

-- they fit
fitting : (c : goal.After-append-2) → IsOk c.append-2.result
fitting c =
    let l : c.self.inside.len ≡ length c.args.self.now = length-packed c.self.invariant c.self.view_is in
    let more : length c.append.new.self ≡ length c.args.self.now + (c.args.width - c.min-spelled.result) = ap length (widened c) ∙ simp (length-append, length-replicate) refl in
    c.append-2.ensures.variant.1 (omega (arith, c.of_bytes-2.ensures.len))

pub returns-clause-err : goal.returns-clause-err
returns-clause-err c = never_err _ c.append-2.result (fitting c)
