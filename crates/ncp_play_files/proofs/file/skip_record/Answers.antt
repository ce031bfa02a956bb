use Rattle.std.proofs.Common.{ℕ, ◌+◌, ◌∙◌, ap, drop}
use Rattle.ncp_play_files.proofs.file.skip_record.Goals as goal

pub returns-clause-rest : goal.returns-clause-rest
returns-clause-rest c = c.skip.ensures ∙ ap (λ (n : ℕ). drop (2 + n) c.args.window.now) c.div_ceil.ensures
