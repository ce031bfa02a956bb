use Rattle.std.proofs.Common.{◌≡◌, ◌+◌, ◌*◌, ◌/◌, ◌%◌, ℕ, List, length, ap, ◌∙◌, arith}
use Rattle.std.proofs.lemmas.List.{take_rest}
use Rattle.ncp_bits.specs.Packed.{bit_run}
use Rattle.ncp_bits.proofs.Runs.{run-drop, length-run}
use Rattle.ncp_bits.proofs.part.Part.of_bytes.Goals as goal

pub returns-clause-bits : goal.returns-clause-bits
returns-clause-bits c =
    let place : 8 * (c.args.from / 8) + c.args.from % 8 ≡ c.args.from = omega arith in
    ap (λ (bytes : List ℕ). bit_run bytes (c.args.from % 8) c.args.len) (take_rest c.args.bytes.now (c.args.from / 8))
    ∙ run-drop c.args.bytes.now (c.args.from / 8) (c.args.from % 8) c.args.len (omega arith)
    ∙ ap (λ (n : ℕ). bit_run c.args.bytes.now n c.args.len) place

pub returns-clause-len : goal.returns-clause-len
returns-clause-len c = ap length (returns-clause-bits c) ∙ length-run c.args.bytes.now c.args.from c.args.len c.requires.inside
