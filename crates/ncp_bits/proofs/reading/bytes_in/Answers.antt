use Rattle.std.proofs.Common.{◌<◌, ◌≤◌, ◌+◌, ◌*◌, ◌/◌, ◌-◌, ℕ, length, take, drop, sym, ap, ◌∙◌, arith}
use Rattle.std.specs.List.{All}
use Rattle.std.proofs.lemmas.List.{length-drop, length-take-le}
use Rattle.std.proofs.lemmas.List.Elements.{All-from_get_or, All-drop, All-take}
use Rattle.ncp_numbers.specs.Bytes.{bytes_of}
use Rattle.ncp_numbers.proofs.Packing.{bytes_of-bits_of_bytes}
use Rattle.ncp_bits.proofs.Runs.{run_of_bytes}
use Rattle.ncp_bits.proofs.reading.bytes_in.Goals as goal

IsByte : ℕ → Type 0
IsByte byte = byte < 256

pub returns-clause-bytes : goal.returns-clause-bytes
unfolding IsByte
returns-clause-bytes c =
    let first = c.args.from / 8 in
    let count = c.args.from / 8 + c.args.len / 8 - c.args.from / 8 in
    let small : All IsByte c.args.bytes.now = All-from_get_or IsByte c.args.bytes.now 0 (λ place h. let fits = c.type_inv.bytes place in omega arith) in
    ap bytes_of (sym (run_of_bytes c.args.bytes.now c.args.from c.args.len c.if-from-ne0.false c.if-len-ne0.false c.requires.inside))
    ∙ bytes_of-bits_of_bytes (take count (drop first c.args.bytes.now)) (All-take IsByte count (drop first c.args.bytes.now) (All-drop IsByte first c.args.bytes.now small))

pub returns-clause-len : goal.returns-clause-len
returns-clause-len c =
    let first = c.args.from / 8 in
    let count = c.args.from / 8 + c.args.len / 8 - c.args.from / 8 in
    let inside : count ≤ length (drop first c.args.bytes.now) = simp length-drop (omega arith) in
    ap (λ (n : ℕ). 8 * n) (length-take-le count (drop first c.args.bytes.now) inside) ∙ omega arith
