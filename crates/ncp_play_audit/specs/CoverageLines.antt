-- The lines of coverage: how many records were judged, and then for each two hosts, at the interface of
-- the first, why something was not.
use Rattle.std.specs.Prelude.{ℕ, ◌/◌, ◌%◌, Bool, List, [], ◌++◌, Option, Some, None, codes}
use Rattle.std.specs.List.{flat_map, list_all, range_with_len}
use Rattle.ncp_play_buffer.specs.Lines.{field}
use Rattle.ncp_monitor.specs.declared.monitor.Monitor.{Monitor}
use Rattle.ncp_monitor.specs.declared.views.TheConstants.{HOSTS, VIEWS}
use Rattle.ncp_monitor.specs.declared.coverage.PairCoverage.{PairCoverage}
use Rattle.ncp_monitor.specs.declared.coverage.Unjudged.{Unjudged}
use Rattle.ncp_monitor.specs.declared.coverage.Unjudged.TheVariants as why
use Rattle.ncp_monitor.specs.Coverage.{unjudged_in, is_excused}

abbrev pub judged_line : ℕ → List ℕ
judged_line number = field (codes "- judged ") number ++ codes "\n"

abbrev pub reason_word : Unjudged → List ℕ
reason_word why.Messages = codes "messages"
reason_word why.Connections = codes "connections"
reason_word why.Late = codes "late"
reason_word why.Crowded = codes "crowded"
reason_word why.Suspended = codes "suspended"
reason_word why.Restarted = codes "restarted"
reason_word why.Connection = codes "connection"
reason_word why.Part = codes "part"
reason_word why.Alone = codes "alone"

abbrev pub host_words : ℕ → ℕ → List ℕ
host_words at peer = field (codes "- at=") at ++ field (codes " host=") peer

abbrev pub unjudged_words : Unjudged → List ℕ
unjudged_words reason = codes " not-judged " ++ reason_word reason ++ codes "\n"

abbrev pub unjudged_line : ℕ → ℕ → Unjudged → List ℕ
unjudged_line at peer reason = host_words at peer ++ unjudged_words reason

abbrev pub line_for : ℕ → ℕ → Option Unjudged → List ℕ
line_for at peer None = []
line_for at peer (Some reason) = unjudged_line at peer reason

-- the pairs of hosts by their places: those of host 0 first, in the order of their peers

unfoldable pub all_places : List ℕ
all_places = range_with_len 0 VIEWS

abbrev pub unjudged_at : Monitor → List PairCoverage → ℕ → Option Unjudged
unjudged_at monitor pairs place = unjudged_in monitor pairs (place / HOSTS) (place % HOSTS)

abbrev pub line_at : Monitor → List PairCoverage → ℕ → List ℕ
line_at monitor pairs place = line_for (place / HOSTS) (place % HOSTS) (unjudged_at monitor pairs place)

abbrev pub pair_lines : Monitor → List PairCoverage → List ℕ
pair_lines monitor pairs = flat_map (line_at monitor pairs) all_places

abbrev pub coverage_lines : Monitor → List PairCoverage → List ℕ
coverage_lines monitor pairs = judged_line monitor.conn_tables.number ++ pair_lines monitor pairs

-- all was judged, except what one interface alone cannot show
abbrev pub is_all_judged : Monitor → List PairCoverage → Bool
is_all_judged monitor pairs = list_all (λ place. is_excused (unjudged_at monitor pairs place)) all_places
