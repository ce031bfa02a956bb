-- The names of faults and refusals, with their meanings.
use Rattle.std.specs.Prelude.{ℕ, List, map}
use Rattle.ncp_play_explain.specs.declared.names.TheConstants.{NAMES}

-- each name with its text
abbrev pub table : List (List ℕ × List ℕ)
table = map (λ entry. (entry.0.now, entry.1.now)) NAMES.now
