use Rattle.std.proofs.Common.{◌++◌, ◌∙◌, ℕ, codes, ap}
use Rattle.ncp_play_buffer.specs.Lines.{field}
use Rattle.ncp_play_files.proofs.line.push_way.Goals as goal

pub returns-in-FromImp-clause-bytes : goal.returns-in-FromImp-clause-bytes
returns-in-FromImp-clause-bytes c =
    rw c.in-FromImp.is (c.push_field-in-FromImp.ensures.bytes ∙ ap (λ (n : ℕ). c.args.page.now ++ field (codes " from-imp at=") n) c.from-in-FromImp.ensures)
