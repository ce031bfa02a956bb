use Rattle.std.proofs.Common.{◌≡◌, ◌+◌, ◌*◌, ◌/◌, ◌%◌, ◌-◌, ◌^◌, ℕ, length, take, drop, get_or, ◌⊎◌, inl, inr, ap, ◌∙◌, arith}
use Rattle.std.proofs.lemmas.List.{take_all, length-drop}
use Rattle.ncp_numbers.specs.Numbers.{number_of}
use Rattle.ncp_numbers.specs.Bytes.{byte_bits}
use Rattle.ncp_bits.proofs.Joins.{written_aligned, written_at, run_after, min_is}
use Rattle.ncp_bits.proofs.append.write_after.Goals as goal

pub returns-then-kept-eq0 : goal.returns-then-kept-eq0
returns-then-kept-eq0 c =
    run_after _ c.args.out.now c.args.part.now c.args.at (omega arith)
    (written_aligned c.args.out.now c.to_bytes.new.out _ _ c.args.part.now c.args.at (c.args.at / 8) (omega arith) (omega arith) c.to_bytes.ensures.bytes)

pub returns : goal.returns
returns c =
    let place : 8 * (c.args.at / 8) + c.args.at % 8 ≡ c.args.at = omega arith in
    let ends : (c.min-count.result ≡ length c.args.part.now) ⊎ (c.args.at % 8 + c.min-count.result ≡ 8) = elim (min_is c.len.result (8 - c.args.at % 8) c.min-count.result c.min-count.ensures) [ inl h ↦ inl (omega arith) | inr h ↦ inr (omega arith) ] in
    let front : 0 + c.min-count.result - 0 ≡ c.min-count.result = omega arith in
    let spelled : c.number.result ≡ number_of (take c.min-count.result c.args.part.now) = c.number.ensures.number ∙ ap (λ (k : ℕ). number_of (take k c.args.part.now)) front in
    let rest : c.slice.result ≡ drop c.min-count.result c.args.part.now = c.slice.ensures.bits ∙ take_all (c.min-count.result + (c.len-2.result - c.min-count.result) - c.min-count.result) (drop c.min-count.result c.args.part.now) (simp length-drop (omega arith)) in
    let byte : c.joined_byte.result ≡ number_of (take (c.args.at % 8) (byte_bits (get_or c.args.out.now (c.args.at / 8) 0))) * 2 ^ (8 - c.args.at % 8) + number_of (take c.min-count.result c.args.part.now) * 2 ^ (8 - c.args.at % 8 - c.min-count.result) =
    c.joined_byte.ensures ∙ ap (λ (k : ℕ). number_of (take (c.args.at % 8) (byte_bits (get_or c.args.out.now (c.args.at / 8) 0))) * 2 ^ (8 - c.args.at % 8) + k * 2 ^ (8 - c.args.at % 8 - c.min-count.result)) spelled in
    run_after _ c.args.out.now c.args.part.now c.args.at (omega arith)
    (written_at c.args.out.now c.to_bytes-2.new.out _ _ c.args.part.now (c.args.at / 8) (c.args.at % 8) c.min-count.result c.joined_byte.result (omega arith) (omega arith) (omega arith) (omega arith) (omega arith) byte
    (let t = c.to_bytes-2.ensures.bytes in rw rest at t) c.args.at place ends)
