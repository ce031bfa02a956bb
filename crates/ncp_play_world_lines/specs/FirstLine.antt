-- The first line of a script of two hosts or more (this profile): the hosts, and the sender whose ledger is
-- printed.
use Rattle.std.specs.Prelude.{ℕ, ◌==◌, List, [], ◌∷◌, Option, Some, None, option_map, codes, if◌then◌else◌}
use Rattle.std.specs.Str.{bytes_eq}
use Rattle.ncp_model.specs.declared.pair.Pair.{Pair}
use Rattle.ncp_model.specs.Pairs.{sends}
use Rattle.ncp_play_script.specs.declared.first_lines.TwoHosts.{TwoHosts}
use Rattle.ncp_play_script.specs.Arguments.{pair_first}
use Rattle.ncp_play_script.specs.Calls.{Read, behind, all_of}
use Rattle.ncp_play_script.specs.FirstLines.{hosts_first}
use Rattle.ncp_transcript_two.specs.declared.side.Side.{Side}
use Rattle.ncp_play_world_lines.specs.declared.first_line.Watch.{Watch}
use Rattle.ncp_play_world_lines.specs.declared.first_line.HostAndPeer.{HostAndPeer}
use Rattle.ncp_play_world_lines.specs.declared.first_line.FirstLine.{FirstLine}
use Rattle.ncp_play_world_lines.specs.Moves.{side_named}
use Rattle.ncp_play_world_lines.specs.ManyLines.{host_first}

-- only a sender can be watched: its socket is odd, and the remote one even
abbrev pub if_sends : {N : Type 0} → N → Option Pair → Option (Watch N)
if_sends sender None = None
if_sends sender (Some pair) = if sends pair then Some (record { sender = sender; pair = pair }) else None

-- a sender by its name (its side, or its host and its peer), with its sockets in all words after that
abbrev pub watch_named : {N : Type 0} → Read N → Option (Watch N)
watch_named None = None
watch_named (Some (sender, words)) = if_sends sender (all_of (pair_first words))

-- the sender to watch: the word `watch`, its side, or its host and its peer, and its sockets
abbrev pub watch_asked : {N : Type 0} → (List (List ℕ) → Read N) → List (List ℕ) → Option (Watch N)
watch_asked named [] = None
watch_asked named (word ∷ words) = if bytes_eq (codes "watch") word then watch_named (named words) else None

-- the first line with these hosts, followed by these words
abbrev pub with_watch : {H N : Type 0} → (List (List ℕ) → Read N) → H → List (List ℕ) → Option (FirstLine H N)
with_watch named hosts [] = Some (record { hosts = hosts; watch = None })
with_watch named hosts (word ∷ words) = option_map (λ watch. record { hosts = hosts; watch = Some watch }) (watch_asked named (word ∷ words))

-- the side that the first word names
abbrev pub side_first : List (List ℕ) → Read Side
side_first [] = None
side_first (word ∷ words) = option_map (λ side. (side, words)) (side_named word)

abbrev pub if_watched : Read TwoHosts → Option (FirstLine TwoHosts Side)
if_watched None = None
if_watched (Some (hosts, words)) = with_watch side_first hosts words

-- the first line of a script of two hosts that the words spell
abbrev pub first_line_of : List (List ℕ) → Option (FirstLine TwoHosts Side)
first_line_of words = if_watched (hosts_first words)

-- Of more hosts, a sender to watch is named by two of them: its host and its peer.

abbrev pub if_differ : Read HostAndPeer → Read HostAndPeer
if_differ None = None
if_differ (Some (it, words)) = if it.host == it.peer then None else Some (it, words)

abbrev pub host_and_peer_first : List ℕ → List (List ℕ) → Read HostAndPeer
host_and_peer_first hosts words =
    if_differ (behind (host_first hosts words) (λ host words. behind (host_first hosts words) (λ peer words. Some (record { host = host; peer = peer }, words))))
