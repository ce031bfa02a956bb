use Rattle.std.proofs.Common.{ℕ, ap}
use Rattle.ncp_play_notes.proofs.heading.LinePrefix.next.Goals as goal

pub returns : goal.returns
returns c = ap (λ (number : ℕ). record c.args.self { number = number }) c.saturating_add.ensures
