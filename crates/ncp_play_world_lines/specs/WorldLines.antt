-- The lines of a script of two hosts (this profile), as events.
use Rattle.std.specs.Prelude.{ℕ, List, [], ◌∷◌, Option, Some, None, option_map, codes, if◌then◌else◌}
use Rattle.std.specs.Str.{bytes_eq}
use Rattle.ncp_play_script.specs.declared.first_lines.TwoHosts.{TwoHosts}
use Rattle.ncp_play_script.specs.Words.{number_first, largest_u8}
use Rattle.ncp_play_script.specs.Calls.{all_of, call_of}
use Rattle.ncp_play_script.specs.HostLines.{alone}
use Rattle.ncp_transcript_two.specs.declared.side.Side.{Side}
use Rattle.ncp_transcript_two.specs.declared.side.Side.TheVariants.{A, B}
use Rattle.ncp_transcript_two.specs.declared.note.Move.{Move}
use Rattle.ncp_transcript_two.specs.declared.note.Move.TheVariants as moves
use Rattle.ncp_transcript_two.specs.declared.event.Event.{Event}
use Rattle.ncp_transcript_two.specs.declared.event.Event.TheVariants as events
use Rattle.ncp_play_world_lines.specs.Moves.{side_named, move_named}

-- the peer of a side's calls, which no word names: the other host
abbrev pub peer_of_side : TwoHosts → Side → ℕ
peer_of_side hosts A = hosts.b
peer_of_side hosts B = hosts.a

-- the event of a move of a side's message on a link
abbrev pub event_of_move : Side → Move → ℕ → Event
event_of_move side moves.Deliver link = events.Deliver side link
event_of_move side moves.Lose link = events.Lose side link
event_of_move side moves.Dead link = events.Dead side link
event_of_move side moves.Answer link = events.Answer side link

-- a move, with its link in all of these words
abbrev pub move_of_words : Side → Move → List (List ℕ) → Option Event
move_of_words side wanted words = option_map (event_of_move side wanted) (all_of (number_first largest_u8 words))

-- the call that the words spell, without its peer
abbrev pub call_event_of : TwoHosts → Side → List (List ℕ) → Option Event
call_event_of hosts side words = option_map (λ call. events.Call side call) (call_of (Some (peer_of_side hosts side)) words)

-- a move, if the first word names one, else a call
abbrev pub move_or_call : TwoHosts → Side → Option Move → List ℕ → List (List ℕ) → Option Event
move_or_call hosts side None word words = call_event_of hosts side (word ∷ words)
move_or_call hosts side (Some wanted) word words = move_of_words side wanted words

-- the event in the words after a side: a request for its next message, a move of its message on a link,
-- or a call
abbrev pub event_asked_of : TwoHosts → Side → List (List ℕ) → Option Event
event_asked_of hosts side [] = None
event_asked_of hosts side (word ∷ words) =
    if bytes_eq (codes "out") word then alone (events.Out side) words else move_or_call hosts side (move_named word) word words

abbrev pub event_asked_by : TwoHosts → Option Side → List (List ℕ) → Option Event
event_asked_by hosts None words = None
event_asked_by hosts (Some side) words = event_asked_of hosts side words

-- the event in a line of these words, which begin with a side
abbrev pub world_line_of : TwoHosts → List (List ℕ) → Option Event
world_line_of hosts [] = None
world_line_of hosts (word ∷ words) = event_asked_by hosts (side_named word) words
