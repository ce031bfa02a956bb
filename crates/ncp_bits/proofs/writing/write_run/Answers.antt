use Rattle.std.proofs.Common.{◌≡◌, ◌<◌, ◌+◌, ◌*◌, ◌/◌, ◌%◌, ◌-◌, ◌^◌, ◌++◌, ℕ, below_more, length, take, drop, set, sym, ap, ◌∙◌, arith}
use Rattle.std.proofs.lemmas.List.{drop_at, drop-drop, drop-set-lt, get_or_append_left, get_or-set_same, get_or-set_other, length-append, length-drop, length-set, length-take-le}
use Rattle.std.proofs.lemmas.Nat.{shl_whole}
use Rattle.ncp_numbers.specs.Bytes.{byte_of}
use Rattle.ncp_bits.specs.Packed.{bit_run}
use Rattle.ncp_numbers.proofs.Numbers.{number_of-below}
use Rattle.ncp_numbers.proofs.Bytes.{bytes_of-written, byte_of-fits}
use Rattle.ncp_bits.proofs.Runs.{length-run, byte_of-run, last_of-run}
use Rattle.ncp_bits.proofs.writing.write_run.Goals as goal

pub returns-then-rest-eq0-clause-bytes : goal.returns-then-rest-eq0-clause-bytes
returns-then-rest-eq0-clause-bytes c =
    let l : length (bit_run c.args.bytes.now c.args.skip c.args.len) ≡ c.args.len = length-run c.args.bytes.now c.args.skip c.args.len c.requires.inside in
    let front : length (take (c.args.len / 8) c.args.out.now) ≡ c.args.len / 8 = length-take-le (c.args.len / 8) c.args.out.now (omega arith) in
    let whole : length c.fill.new.out ≡ c.args.len / 8 = omega arith in
    bytes_of-written (bit_run c.args.bytes.now c.args.skip c.args.len) (c.fill.new.out ++ drop (c.args.len / 8) c.args.out.now) c.args.out.now (c.args.len / 8) (omega arith) (simp length-append (omega arith))
    (λ k h. get_or_append_left c.fill.new.out (drop (c.args.len / 8) c.args.out.now) 0 k (omega arith) ∙ c.fill.ensures k (omega arith) ∙ byte_of-run c.args.bytes.now c.args.skip c.args.len k (omega arith) c.requires.inside)
    (drop_at c.fill.new.out (drop (c.args.len / 8) c.args.out.now) (c.args.len / 8) whole)

-- the last byte
last : (c : goal.After-number_in) → c.number_in.result * 2 ^ (8 - c.args.len % 8) % 2 ^ 64 ≡ byte_of (drop (8 * (c.args.len / 8)) (bit_run c.args.bytes.now c.args.skip c.args.len))
last c =
    let l : length (bit_run c.args.bytes.now (8 * (c.args.len / 8) + c.args.skip) (c.args.len % 8)) ≡ c.args.len % 8 = length-run c.args.bytes.now (8 * (c.args.len / 8) + c.args.skip) (c.args.len % 8) (omega arith) in
    let small : c.number_in.result < 2 ^ (c.args.len % 8) = rw c.number_in.ensures (number_of-below (bit_run c.args.bytes.now (8 * (c.args.len / 8) + c.args.skip) (c.args.len % 8)) (c.args.len % 8) (omega arith)) in
    shl_whole c.number_in.result (c.args.len % 8) (8 - c.args.len % 8) 64 small (omega arith)
    ∙ ap (λ (n : ℕ). n * 2 ^ (8 - c.args.len % 8)) c.number_in.ensures
    ∙ last_of-run c.args.bytes.now c.args.skip c.args.len (c.args.len / 8) (c.args.len % 8) (omega arith) (omega arith) c.requires.inside

pub overflow_cast-out : goal.overflow_cast-out
overflow_cast-out c =
    let fits : byte_of (drop (8 * (c.args.len / 8)) (bit_run c.args.bytes.now c.args.skip c.args.len)) < 256 = byte_of-fits (drop (8 * (c.args.len / 8)) (bit_run c.args.bytes.now c.args.skip c.args.len)) in
    rw (last c) (omega arith)

pub returns-clause-bytes : goal.returns-clause-bytes
returns-clause-bytes c =
    let l : length (bit_run c.args.bytes.now c.args.skip c.args.len) ≡ c.args.len = length-run c.args.bytes.now c.args.skip c.args.len c.requires.inside in
    let front : length (take (c.args.len / 8) c.args.out.now) ≡ c.args.len / 8 = length-take-le (c.args.len / 8) c.args.out.now (omega arith) in
    let whole : length c.fill.new.out ≡ c.args.len / 8 = omega arith in
    let long : length (c.fill.new.out ++ drop (c.args.len / 8) c.args.out.now) ≡ length c.args.out.now = length-append c.fill.new.out (drop (c.args.len / 8) c.args.out.now) ∙ (let d : length (drop (c.args.len / 8) c.args.out.now) ≡ length c.args.out.now - c.args.len / 8 = length-drop (c.args.len / 8) c.args.out.now in omega arith) in
    bytes_of-written (bit_run c.args.bytes.now c.args.skip c.args.len) (set (c.fill.new.out ++ drop (c.args.len / 8) c.args.out.now) (c.args.len / 8) (c.number_in.result * 2 ^ (8 - c.args.len % 8) % 2 ^ 64)) c.args.out.now (c.args.len / 8 + 1) (omega arith) (simp length-set (omega arith))
    (below_more _ (c.args.len / 8)
    (λ k h. get_or-set_other (c.fill.new.out ++ drop (c.args.len / 8) c.args.out.now) (c.args.len / 8) k (c.number_in.result * 2 ^ (8 - c.args.len % 8) % 2 ^ 64) 0 (λ e. omega arith)
    ∙ get_or_append_left c.fill.new.out (drop (c.args.len / 8) c.args.out.now) 0 k (omega arith) ∙ c.fill.ensures k (omega arith) ∙ byte_of-run c.args.bytes.now c.args.skip c.args.len k (omega arith) c.requires.inside)
    (get_or-set_same (c.fill.new.out ++ drop (c.args.len / 8) c.args.out.now) (c.args.len / 8) (c.number_in.result * 2 ^ (8 - c.args.len % 8) % 2 ^ 64) 0 (omega arith) ∙ last c))
    (drop-set-lt (c.args.len / 8 + 1) (c.fill.new.out ++ drop (c.args.len / 8) c.args.out.now) (c.args.len / 8) (c.number_in.result * 2 ^ (8 - c.args.len % 8) % 2 ^ 64) (omega arith)
    ∙ sym (drop-drop 1 (c.args.len / 8) (c.fill.new.out ++ drop (c.args.len / 8) c.args.out.now))
    ∙ ap (drop 1) (drop_at c.fill.new.out (drop (c.args.len / 8) c.args.out.now) (c.args.len / 8) whole)
    ∙ drop-drop 1 (c.args.len / 8) c.args.out.now)
