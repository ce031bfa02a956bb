use Rattle.std.proofs.Common.{◌≡◌, ◌+◌, ◌-◌, false, List, Bool, ◌++◌, take, drop, length, ap, ◌∙◌, arith, min}
use Rattle.std.specs.Prelude.{replicate, slice_range}
use Rattle.std.proofs.lemmas.List.{append_assoc, append-nil}
use Rattle.ncp_numbers.specs.Bytes.{bytes_of, bytes_for}
use Rattle.ncp_numbers.specs.Numbers.{bits_of}
use Rattle.ncp_wire.specs.declared.command.Command.TheVariants as commands
use Rattle.ncp_peer.proofs.Showing.{shown}
use Rattle.ncp_peer.proofs.association.hearing.text_error.Goals as goal

pub returns : goal.returns
returns c =
    let a = rw c.unwrap.ensures at c.append.ensures.ok in
    let b = rw c.unwrap-2.ensures at c.push_number.ensures.ok in
    let la = rw c.unwrap.ensures at c.append.ensures.len in
    let lb = rw c.unwrap-2.ensures at c.push_number.ensures.len in
    let k = c.min-shown.result in
    let h = c.min-shown.ensures ∙ ap (λ n. min n 8) c.len.ensures.len in
    let bits : c.push_number.new.self ≡ c.args.head ++ take 8 (c.args.text ++ replicate 8 false)
    = b ∙ ap (λ xs. xs ++ bits_of (8 - k) 0) (a ∙ ap (λ xs. c.to_bits-bits.result ++ xs) c.slice.ensures.bits ∙ ap (λ xs. xs ++ slice_range c.args.text 0 (0 + k)) c.to_bits-bits.ensures)
    ∙ append_assoc c.args.head (slice_range c.args.text 0 (0 + k)) (bits_of (8 - k) 0) ∙ ap (λ xs. c.args.head ++ xs) (shown c.args.text k h) in
    let long : length c.push_number.new.self ≡ 80 = omega (arith, la, lb, c.slice.ensures.len, c.min-shown.ensures, c.requires, ap (λ (xs : List Bool). length xs) c.to_bits-bits.ensures) in
    let used : c.to_bytes.result ≡ 10 = c.to_bytes.ensures.used ∙ ap bytes_for long in
    ap (λ bytes. commands.Err 5 bytes) (c.to_bytes.ensures.bytes ∙ ap (λ n. bytes_of c.push_number.new.self ++ drop n (replicate 10 0)) used ∙ append-nil (bytes_of c.push_number.new.self) ∙ ap bytes_of bits)
