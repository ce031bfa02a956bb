use Rattle.std.proofs.Common.{◌≡◌, ◌∙◌, ◌-◌, ◌+◌, ℕ, length, take, sym, ap, arith}
use Rattle.std.proofs.lemmas.List.{length-append, length-take-le}
use Rattle.ncp_play_buffer.proofs.Decimal.{block_begins}
use Rattle.ncp_play_buffer.proofs.out_buffer.OutBuffer.push_front.Goals as goal

pub returns-clause-bytes : goal.returns-clause-bytes
returns-clause-bytes c =
    let page = c.self.inside in let block = c.args.block.now in
    let len : page.len ≡ length c.args.self.now = sym (length-take-le page.len page.bytes (omega arith)) ∙ ap length c.self.view_is in
    block_begins page.bytes c.args.self.now block page.len (16384 - page.len) 32 c.args.count (omega (arith, c.self.told)) (omega (arith, len, c.requires.room)) c.self.view_is c.told-block
    c.requires.count

pub returns-clause-len : goal.returns-clause-len
unfolding returns-clause-bytes
returns-clause-len c =
    ap length (returns-clause-bytes c) ∙ length-append c.args.self.now (take c.args.count c.args.block.now)
    ∙ ap (λ (n : ℕ). length c.args.self.now + n) (length-take-le c.args.count c.args.block.now (omega (arith, c.told-block, c.requires.count)))
