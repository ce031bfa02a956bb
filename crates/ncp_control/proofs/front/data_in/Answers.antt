use Rattle.std.proofs.Common.{◌≡◌, ◌*◌, ◌-◌, ◌++◌, length, drop, replicate, min, ap, ◌∙◌}
use Rattle.ncp_numbers.specs.Bytes.{bytes_of, bytes_for}
use Rattle.ncp_control.proofs.Text.{data_of}
use Rattle.ncp_control.proofs.front.data_in.Goals as goal

pub returns : goal.returns
returns c =
    let shown : c.min-shown.result ≡ min (length c.args.text.now - 8 * c.args.offset) 80 = c.min-shown.ensures ∙ ap (λ n. min (n - 8 * c.args.offset) 80) c.len.ensures.len in
    let used : c.to_bytes.result ≡ bytes_for c.min-shown.result = c.to_bytes.ensures.used ∙ ap bytes_for c.slice.ensures.len in
    c.to_bytes.ensures.bytes
    ∙ ap (λ bits. bytes_of bits ++ drop c.to_bytes.result (replicate 10 0)) c.slice.ensures.bits
    ∙ data_of c.args.text.now c.args.offset 10 c.min-shown.result c.to_bytes.result c.requires.whole c.requires.inside shown used
