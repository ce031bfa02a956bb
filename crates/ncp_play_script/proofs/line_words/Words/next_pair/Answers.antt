use Rattle.std.proofs.Common.{ℕ, List, option_map, ap, ◌∙◌}
use Rattle.ncp_model.specs.declared.pair.Pair.{Pair}
use Rattle.ncp_play_script.specs.Arguments.{remote_after}
use Rattle.ncp_play_script.proofs.line_words.Words.next_pair.Goals as goal

pub returns : goal.returns
returns c =
    let local = c.in_ok-local.local in
    let pair : ℕ × List (List ℕ) → Pair × List (List ℕ) = λ found. (record { local = local; remote = found.0 }, found.1) in
    ap (option_map pair) c.in_ok-remote.ensures ∙ ap remote_after c.in_ok-local.ensures
