use Rattle.std.proofs.Common.{◌≡◌, ◌<◌, ◌+◌, ◌*◌, ◌/◌, ◌%◌, ◌^◌, ℕ, List, bit_or, length, take, drop, get_or, refl, sym, ap, ◌∙◌, arith}
use Rattle.std.proofs.lemmas.Nat.{or_shifted, shl_whole}
use Rattle.ncp_numbers.specs.Numbers.{number_of}
use Rattle.ncp_numbers.specs.Bytes.{byte_bits}
use Rattle.ncp_bits.specs.Packed.{bit_run}
use Rattle.ncp_numbers.proofs.Numbers.{number_of-below}
use Rattle.ncp_numbers.proofs.Shifts.{number_of-append}
use Rattle.ncp_bits.proofs.Runs.{run_split, run_in_byte, length-run}
use Rattle.ncp_bits.proofs.reading.number_across.Goals as goal

pub loop-done-init : goal.loop-done-init
unfolding number_of bit_run
loop-done-init c = record { inside = omega arith; number = refl }

-- the number so far, with the bits of one byte more
next : (c : goal.After-from) → bit_or (c.loop-done.number * 2 ^ c.min-count.result % 2 ^ 64) c.from.result ≡ number_of (bit_run c.args.bytes.now c.args.from (c.loop-done.done + c.min-count.result))
next c =
    let bytes : List ℕ = c.args.bytes.now in
    let place : ℕ = c.args.from + c.loop-done.done in
    let count : ℕ = c.min-count.result in
    let was : c.loop-done.number ≡ number_of (bit_run c.args.bytes.now c.args.from c.loop-done.done) = c.loop-done.invariant.number in
    let front : length (bit_run c.args.bytes.now c.args.from c.loop-done.done) ≡ c.loop-done.done = length-run c.args.bytes.now c.args.from c.loop-done.done (omega arith) in
    let back : length (bit_run c.args.bytes.now (c.args.from + c.loop-done.done) c.min-count.result) ≡ c.min-count.result = length-run c.args.bytes.now (c.args.from + c.loop-done.done) c.min-count.result (omega arith) in
    let here : bit_run c.args.bytes.now (c.args.from + c.loop-done.done) c.min-count.result ≡ take c.min-count.result (drop ((c.args.from + c.loop-done.done) % 8) (byte_bits (get_or c.args.bytes.now ((c.args.from + c.loop-done.done) / 8) 0))) =
    ap (λ (k : ℕ). bit_run c.args.bytes.now k c.min-count.result) (omega arith)
    ∙ run_in_byte c.args.bytes.now ((c.args.from + c.loop-done.done) / 8) ((c.args.from + c.loop-done.done) % 8) c.min-count.result (omega arith) (omega arith) in
    let new : c.from.result ≡ number_of (bit_run c.args.bytes.now (c.args.from + c.loop-done.done) c.min-count.result) = c.from.ensures ∙ c.bits_in.ensures ∙ ap number_of (sym here) in
    let small : c.from.result < 2 ^ c.min-count.result = rw new (number_of-below (bit_run c.args.bytes.now (c.args.from + c.loop-done.done) c.min-count.result) c.min-count.result (omega arith)) in
    let fits : c.loop-done.number < 2 ^ c.loop-done.done = rw was (number_of-below (bit_run c.args.bytes.now c.args.from c.loop-done.done) c.loop-done.done (omega arith)) in
    ap (λ (k : ℕ). bit_or k c.from.result) (shl_whole c.loop-done.number c.loop-done.done c.min-count.result 64 fits (omega arith))
    ∙ or_shifted c.loop-done.number c.min-count.result c.from.result small
    ∙ ap (λ (k : ℕ). k * 2 ^ c.min-count.result + c.from.result) was
    ∙ ap (λ (k : ℕ). number_of (bit_run c.args.bytes.now c.args.from c.loop-done.done) * 2 ^ c.min-count.result + k) new
    ∙ ap (λ (k : ℕ). number_of (bit_run c.args.bytes.now c.args.from c.loop-done.done) * 2 ^ k + number_of (bit_run c.args.bytes.now (c.args.from + c.loop-done.done) c.min-count.result)) (sym back)
    ∙ sym (number_of-append (bit_run c.args.bytes.now c.args.from c.loop-done.done) (bit_run c.args.bytes.now (c.args.from + c.loop-done.done) c.min-count.result))
    ∙ ap number_of (sym (run_split c.args.bytes.now c.args.from c.loop-done.done c.min-count.result))

pub loop-done-preserved : goal.loop-done-preserved
loop-done-preserved c = record { inside = omega arith; number = next c }
