-- Where the page finds the meaning of a name.
use Rattle.std.specs.Prelude.{ℕ, List, ◌++◌}
use Rattle.ncp_play_explain.specs.Names.{table}
use Rattle.ncp_play_explain.specs.Printed.{printed}
use Rattle.ncp_play_audit.specs.Rules.{rules_reported}
use Rattle.ncp_play_follow.specs.Ends.{ends_by_word}

-- the ends of a connection, then the other words of lines
abbrev pub line_meanings : List (List ℕ × List ℕ)
line_meanings = ends_by_word ++ printed

-- first the rules
abbrev pub report_meanings : List (List ℕ × List ℕ)
report_meanings = rules_reported ++ line_meanings

-- first the names of faults and refusals
abbrev pub meanings : List (List ℕ × List ℕ)
meanings = table ++ report_meanings
