use Rattle.std.proofs.Common.{◌≡◌, ◌+◌, ◌*◌, ◌/◌, ◌%◌, ◌-◌, ℕ, [], Bool, eqb, not, length, drop, sym, ap, ◌∙◌, arith}
use Rattle.std.specs.List.{list_any}
use Rattle.std.proofs.lemmas.List.{take_all, drop_all, length-drop}
use Rattle.ncp_numbers.specs.Numbers.{number_of}
use Rattle.ncp_numbers.specs.Bytes.{bits_of_bytes}
use Rattle.ncp_bits.specs.Packed.{bit_run}
use Rattle.ncp_numbers.proofs.Bytes.{length-bits_of_bytes}
use Rattle.ncp_bits.proofs.Runs.{any_set, run_in_byte}
use Rattle.ncp_bits.proofs.reading.is_spare_set.Goals as goal

pub returns-then-spare-eq0 : goal.returns-then-spare-eq0
returns-then-spare-eq0 c =
    let l : length (bits_of_bytes c.args.bytes.now) ≡ 8 * length c.args.bytes.now = length-bits_of_bytes c.args.bytes.now in
    let none : drop c.args.len (bits_of_bytes c.args.bytes.now) ≡ [] = drop_all c.args.len (bits_of_bytes c.args.bytes.now) (omega arith) in
    ap (list_any (λ (bit : Bool). bit)) (sym none)

pub returns : goal.returns
unfolding bit_run
returns c =
    let spare = 8 * length c.args.bytes.now - c.args.len in
    let place : 8 * (c.args.len / 8) + c.args.len % 8 ≡ c.args.len = omega arith in
    let l : length (bits_of_bytes c.args.bytes.now) ≡ 8 * length c.args.bytes.now = length-bits_of_bytes c.args.bytes.now in
    let all : bit_run c.args.bytes.now c.args.len spare ≡ drop c.args.len (bits_of_bytes c.args.bytes.now) = take_all spare (drop c.args.len (bits_of_bytes c.args.bytes.now)) (simp length-drop (omega arith)) in
    let last : bit_run c.args.bytes.now c.args.len spare ≡ _ = ap (λ (k : ℕ). bit_run c.args.bytes.now k spare) (sym place) ∙ run_in_byte c.args.bytes.now (c.args.len / 8) (c.args.len % 8) spare (omega arith) (omega arith) in
    ap (λ (n : ℕ). not (eqb n 0)) (c.bits_in.ensures ∙ ap number_of (sym last ∙ all)) ∙ any_set (drop c.args.len (bits_of_bytes c.args.bytes.now))
