-- The words after `by=`, with their meanings.
use Rattle.std.specs.Prelude.{ℕ, List, map}
use Rattle.ncp_play_follow.specs.declared.ends.TheConstants.{ENDS}

-- each word with its text
abbrev pub ends_by_word : List (List ℕ × List ℕ)
ends_by_word = map (λ entry. (entry.0.now, entry.1.now)) ENDS.now
