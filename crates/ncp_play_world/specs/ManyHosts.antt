-- The first line of a script of two to eight hosts (this profile): their numbers, and the sender whose
-- ledger is printed.
use Rattle.std.specs.Prelude.{ℕ, List, Option, Some, None, if◌then◌else◌}
use Rattle.ncp_play_script.specs.Calls.{Read}
use Rattle.ncp_play_script.specs.FirstLines.{many_first}
use Rattle.ncp_transcript_many.specs.Network.{are_hosts}
use Rattle.ncp_play_world_lines.specs.declared.first_line.HostAndPeer.{HostAndPeer}
use Rattle.ncp_play_world_lines.specs.declared.first_line.FirstLine.{FirstLine}
use Rattle.ncp_play_world_lines.specs.FirstLine.{with_watch, host_and_peer_first}

-- the numbers of hosts: two to eight distinct ones
abbrev pub if_hosts : Read (List ℕ) → Read (List ℕ)
if_hosts None = None
if_hosts (Some (hosts, words)) = if are_hosts hosts then Some (hosts, words) else None

abbrev pub if_many_watched : Read (List ℕ) → Option (FirstLine (List ℕ) HostAndPeer)
if_many_watched None = None
if_many_watched (Some (hosts, words)) = with_watch (host_and_peer_first hosts) hosts words

-- the first line that the words spell
abbrev pub many_of : List (List ℕ) → Option (FirstLine (List ℕ) HostAndPeer)
many_of words = if_many_watched (if_hosts (many_first words))
