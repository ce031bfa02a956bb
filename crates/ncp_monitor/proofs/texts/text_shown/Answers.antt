use Rattle.std.proofs.Common.{◌≡◌, ◌+◌, ◌-◌, ℕ, false, List, Bool, ◌++◌, take, drop, length, ap, ◌∙◌, arith, min}
use Rattle.std.specs.Prelude.{replicate, slice_range}
use Rattle.std.proofs.lemmas.List.{append_assoc, append-nil}
use Rattle.ncp_numbers.specs.Bytes.{bytes_of, bytes_for}
use Rattle.ncp_numbers.specs.Numbers.{bits_of}
use Rattle.ncp_leader.specs.declared.leader.Leader.{Leader}
use Rattle.ncp_leader.specs.Front.{front_bits}
use Rattle.ncp_monitor.proofs.Showing.{shown}
use Rattle.ncp_monitor.proofs.texts.text_shown.Goals as goal

pub returns : goal.returns
returns c =
    let a = rw c.unwrap.ensures at c.append.ensures.ok in
    let b = rw c.unwrap-2.ensures at c.push_number.ensures.ok in
    let la = rw c.unwrap.ensures at c.append.ensures.len in
    let lb = rw c.unwrap-2.ensures at c.push_number.ensures.len in
    let k = c.min-shown.result in
    let message = c.args.regular.now in
    let h : k ≡ min (length message.text) 8 = c.min-shown.ensures ∙ ap (λ n. min n 8) (c.len.ensures.len ∙ ap (λ (xs : List Bool). length xs) c.text-text.ensures.text) in
    let leader : Leader = record message.leader { host = c.args.speaker } in
    let front : List Bool = front_bits leader message.size message.count in
    let is : c.put_front.new.bits ≡ front =
    c.put_front.ensures.bits ∙ ap (λ (l : Leader). front_bits (record l { host = c.args.speaker }) c.size.result c.count.result) c.leader.ensures.leader
    ∙ ap (λ (n : ℕ). front_bits leader n c.count.result) c.size.ensures.size ∙ ap (λ (n : ℕ). front_bits leader message.size n) c.count.ensures in
    let first : c.slice.result ≡ slice_range message.text 0 (0 + k) = c.slice.ensures.bits ∙ ap (λ (xs : List Bool). slice_range xs 0 (0 + k)) c.text-text.ensures.text in
    let bits : c.push_number.new.self ≡ front ++ take 8 (message.text ++ replicate 8 false)
    = b ∙ ap (λ (xs : List Bool). xs ++ bits_of (8 - k) 0) (a ∙ ap (λ (xs : List Bool). c.put_front.new.bits ++ xs) first ∙ ap (λ (xs : List Bool). xs ++ slice_range message.text 0 (0 + k)) is)
    ∙ append_assoc front (slice_range message.text 0 (0 + k)) (bits_of (8 - k) 0) ∙ ap (λ (xs : List Bool). front ++ xs) (shown message.text k h) in
    let long : length c.push_number.new.self ≡ 80 = omega (arith, la, lb, c.slice.ensures.len, c.min-shown.ensures, c.put_front.ensures.len) in
    let used : c.to_bytes.result ≡ 10 = c.to_bytes.ensures.used ∙ ap bytes_for long in
    c.to_bytes.ensures.bytes ∙ ap (λ (n : ℕ). bytes_of c.push_number.new.self ++ drop n (replicate 10 0)) used ∙ append-nil (bytes_of c.push_number.new.self) ∙ ap bytes_of bits
