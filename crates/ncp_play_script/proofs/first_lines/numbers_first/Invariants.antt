use Rattle.std.proofs.Common.{◌≡◌, ◌≤◌, length}
use Rattle.ncp_host.specs.declared.limits.TheConstants.{MAX_PEERS}
use Rattle.ncp_play_script.specs.FirstLines.{numbers_first, few_first}
use Rattle.ncp_play_script.proofs.Peers.{in_front}
use Rattle.ncp_play_script.proofs.first_lines.numbers_first.Given as goal

-- what was read is in front of what is left
abbrev pub invariant-loop-words : goal.invariant-loop-words
invariant-loop-words l = record {
  read : few_first (numbers_first l.fn.words) ≡ few_first (in_front l.numbers.items (numbers_first l.words));
  room : length l.numbers.items ≤ MAX_PEERS;
}

abbrev pub decreases-loop-words : goal.decreases-loop-words
decreases-loop-words l = length l.words
