-- The words of printed lines, with their meanings.
use Rattle.std.specs.Prelude.{ℕ, List, map, ◌++◌}
use Rattle.ncp_play_explain.specs.declared.message_words.TheConstants.{MESSAGE_WORDS}
use Rattle.ncp_play_explain.specs.declared.report_words.TheConstants.{REPORT_WORDS}
use Rattle.ncp_play_explain.specs.declared.script_words.TheConstants.{SCRIPT_WORDS}

-- Each word with its text: first the words about a message, then those of reports and of scripts.

abbrev pub message_words : List (List ℕ × List ℕ)
message_words = map (λ entry. (entry.0.now, entry.1.now)) MESSAGE_WORDS.now

abbrev pub report_words : List (List ℕ × List ℕ)
report_words = map (λ entry. (entry.0.now, entry.1.now)) REPORT_WORDS.now

abbrev pub script_words : List (List ℕ × List ℕ)
script_words = map (λ entry. (entry.0.now, entry.1.now)) SCRIPT_WORDS.now

-- the words that are not about a message
abbrev pub other_words : List (List ℕ × List ℕ)
other_words = report_words ++ script_words

abbrev pub printed : List (List ℕ × List ℕ)
printed = message_words ++ other_words
