use Rattle.std.proofs.Common.{◌≡◌, ◌≤◌, ◌++◌, length, option_map}
use Rattle.ncp_host.specs.declared.limits.TheConstants.{MAX_PEERS}
use Rattle.ncp_play_script.specs.FirstLines.{numbers_of_words, few}
use Rattle.ncp_play_script.proofs.first_lines.peers_of.Given as goal

abbrev pub invariant-loop-words : goal.invariant-loop-words
invariant-loop-words l = record {
  read : few (numbers_of_words l.fn.words) ≡ few (option_map (λ behind. l.peers.items ++ behind) (numbers_of_words l.words));
  room : length l.peers.items ≤ MAX_PEERS;
}

abbrev pub decreases-loop-words : goal.decreases-loop-words
decreases-loop-words l = length l.words
