-- The names of the rules, with their meanings.
use Rattle.std.specs.Prelude.{ℕ, List, map}
use Rattle.ncp_play_audit.specs.declared.rules.TheConstants.{RULES}

-- each name with its text
abbrev pub rules_reported : List (List ℕ × List ℕ)
rules_reported = map (λ entry. (entry.0.now, entry.1.now)) RULES.now
