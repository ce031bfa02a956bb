-- The script of one host, by its bytes (this profile).
use Rattle.std.specs.Prelude.{ℕ, List, Option, option_map}
use Rattle.ncp_play_script.specs.declared.host_lines.HostEvent.{HostEvent}
use Rattle.ncp_play_script.specs.declared.host_lines.HostLine.{HostLine}
use Rattle.ncp_play_script.specs.declared.host_lines.HostLine.TheVariants as lines
use Rattle.ncp_play_script.specs.FirstLines.{Named, first_of_host}
use Rattle.ncp_play_script.specs.HostLines.{host_line_of}
use Rattle.ncp_play_script.specs.Scripts.{AskedByLine, Event, Feeding, Script, script_of}

-- the directive of a line: an event, or a feed of the bytes after it
abbrev pub asked_by_line : HostLine → AskedByLine HostEvent
asked_by_line (lines.Event event) = Event event
asked_by_line lines.Feed = Feeding

-- the meaning of a line of these words, after the first line, for a host with these peers
abbrev pub asked_of : List ℕ → List (List ℕ) → Option (AskedByLine HostEvent)
asked_of peers words = option_map asked_by_line (host_line_of peers words)

-- the first line names the host and its peers; the lines after it have events
abbrev pub host_script : List ℕ → Script Named HostEvent
host_script bytes = script_of first_of_host (λ named. asked_of named.peers) bytes
