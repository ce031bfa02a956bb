use Rattle.std.proofs.Common.{◌≡◌, ◌∙◌, ◌++◌, refl, sym, ap, length, take, drop, Ok, List, ℕ, arith}
use Rattle.std.proofs.lemmas.List.{take_at}
use Rattle.ncp_bits.specs.Packed.{bit_run}
use Rattle.ncp_bits.proofs.Runs.{run-append, length-packed}
use Rattle.ncp_bits.proofs.bits.Bits.copy_from_bytes.Goals as goal

-- the bytes that are left are those that were written
same : (c : goal.After-self-2-1) → take (length c.lengthen.new.bytes.items) (c.overwrite.new.out ++ drop (length c.overwrite.new.out) c.lengthen.new.bytes.items) ≡ c.overwrite.new.out
same c =
    let long : length c.overwrite.new.out ≡ length c.lengthen.new.bytes.items = let e : length c.as_mut_slice.result.now ≡ length c.lengthen.new.bytes.items = ap length c.as_mut_slice.ensures.value in omega arith in
    take_at c.overwrite.new.out (drop (length c.overwrite.new.out) c.lengthen.new.bytes.items) (length c.lengthen.new.bytes.items) long

-- the bytes that come, and others behind them
now : (c : goal.After-self-2-1) → take (length c.lengthen.new.bytes.items) (c.overwrite.new.out ++ drop (length c.overwrite.new.out) c.lengthen.new.bytes.items) ≡ c.in_ok-taken.taken.now ++ drop (length c.in_ok-taken.taken.now) c.as_mut_slice.result.now
now c = same c ∙ c.overwrite.ensures

pub invariant_of-self : goal.invariant_of-self
invariant_of-self c =
    let e : length c.as_mut_slice.result.now ≡ length c.lengthen.new.bytes.items = ap length c.as_mut_slice.ensures.value in
    let used = c.in_ok-taken.ensures.used in
    rw (same c) (record { fits = c.in_ok-taken.ensures.fits; inside = omega arith })

pub returns-clause-ok : goal.returns-clause-ok
returns-clause-ok c =
    let taken = c.in_ok-taken.taken.now in
    let used = c.in_ok-taken.ensures.used in
    c.in_ok-taken.ensures.read
    ∙ ap Ok (sym (run-append taken (drop (length taken) c.as_mut_slice.result.now) 0 c.args.len (omega arith)))
    ∙ ap (λ (bytes : List ℕ). Ok (bit_run bytes 0 c.args.len)) (sym (now c))

pub returns-clause-len : goal.returns-clause-len
returns-clause-len c = sym (length-packed (invariant_of-self c) refl)
