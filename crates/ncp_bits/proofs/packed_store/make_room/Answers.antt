use Rattle.std.proofs.Common.{◌≡◌, ◌+◌, ◌*◌, ◌/◌, ◌%◌, ◌-◌, ℕ, List, length, take, drop, ap, ◌∙◌, arith}
use Rattle.std.proofs.lemmas.List.{length-drop, length-take-le}
use Rattle.ncp_bits.specs.Packed.{bit_run}
use Rattle.ncp_bits.proofs.Runs.{run-append, run-take, run-drop}
use Rattle.ncp_bits.proofs.packed_store.make_room.Goals as goal

pub returns-clause-held : goal.returns-clause-held
returns-clause-held c =
    let left : length (drop (c.args.from / 8) c.args.bytes.now) ≡ length c.args.bytes.now - c.args.from / 8 = length-drop (c.args.from / 8) c.args.bytes.now in
    let moved : length (take (c.div_ceil.result - c.args.from / 8) (drop (c.args.from / 8) c.args.bytes.now)) ≡ c.div_ceil.result - c.args.from / 8 = length-take-le (c.div_ceil.result - c.args.from / 8) (drop (c.args.from / 8) c.args.bytes.now) (omega arith) in
    let place : 8 * (c.args.from / 8) + c.args.from % 8 ≡ c.args.from = omega arith in
    ap (λ (bytes : List ℕ). bit_run bytes (c.args.from % 8) c.args.len) c.copy_within.ensures.after
    ∙ run-append (take (c.div_ceil.result - c.args.from / 8) (drop (c.args.from / 8) c.args.bytes.now)) _ (c.args.from % 8) c.args.len (omega arith)
    ∙ run-take (drop (c.args.from / 8) c.args.bytes.now) (c.div_ceil.result - c.args.from / 8) (c.args.from % 8) c.args.len (omega arith) (omega arith)
    ∙ run-drop c.args.bytes.now (c.args.from / 8) (c.args.from % 8) c.args.len (omega arith)
    ∙ ap (λ (n : ℕ). bit_run c.args.bytes.now n c.args.len) place
