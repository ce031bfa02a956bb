use Rattle.std.proofs.Common.{◌≡◌, ◌++◌, ◌∙◌, ◌-◌, List, ℕ, length, take, sym, ap, arith}
use Rattle.std.proofs.lemmas.List.{length-take-le}
use Rattle.ncp_play_buffer.proofs.Decimal.{block_begins}
use Rattle.ncp_play_buffer.proofs.out_buffer.OutBuffer.push_byte.Goals as goal

pub returns : goal.returns
returns c =
    let page = c.self.inside in let block = c.byte_digits.result in let count = c.count_byte_digits in
    let len : page.len ≡ length c.args.self.now = sym (length-take-le page.len page.bytes (omega arith)) ∙ ap length c.self.view_is in
    block_begins page.bytes c.args.self.now block page.len (16384 - page.len) 4 count.result (omega (arith, c.self.told)) (omega (arith, len, c.requires)) c.self.view_is c.byte_digits.ensures.whole
    (omega (arith, count.ensures.few))
    ∙ ap (λ (n : ℕ). c.args.self.now ++ take n block) count.ensures.digits ∙ ap (λ (digits : List ℕ). c.args.self.now ++ digits) c.byte_digits.ensures.digits
