-- The lines of a script of two to eight hosts after the first (this profile), as events.
use Rattle.std.specs.Prelude.{ℕ, Bool, true, List, [], ◌∷◌, Option, Some, None, codes, if◌then◌else◌}
use Rattle.std.specs.Str.{bytes_eq}
use Rattle.ncp_host.specs.Host.{is_one_of}
use Rattle.ncp_transcript.specs.declared.call.Call.{Call}
use Rattle.ncp_transcript.specs.Asked.{peer_of_call}
use Rattle.ncp_play_script.specs.Words.{number_first, largest_u8}
use Rattle.ncp_play_script.specs.Calls.{Read, behind, all_of, call_of}
use Rattle.ncp_play_script.specs.HostLines.{alone}
use Rattle.ncp_transcript_two.specs.declared.note.Move.{Move}
use Rattle.ncp_transcript_many.specs.declared.many_event.ManyEvent.{ManyEvent}
use Rattle.ncp_transcript_many.specs.declared.many_event.ManyEvent.TheVariants as events
use Rattle.ncp_transcript_many.specs.ManyHappening.{wanted_of}
use Rattle.ncp_play_world_lines.specs.Moves.{move_named}

abbrev pub if_one_of : List ℕ → Read ℕ → Read ℕ
if_one_of hosts None = None
if_one_of hosts (Some (number, words)) = if is_one_of number hosts then Some (number, words) else None

-- the number in the first word, if it is one of the hosts
abbrev pub host_first : List ℕ → List (List ℕ) → Read ℕ
host_first hosts words = if_one_of hosts (number_first largest_u8 words)

-- a move of a message from a host: all of these words are its destination and its link
abbrev pub many_move_of : List ℕ → ℕ → Move → List (List ℕ) → Option ManyEvent
many_move_of hosts from wanted words =
    all_of (behind (host_first hosts words) (λ to words. behind (number_first largest_u8 words) (λ link words. Some (wanted_of wanted from to link, words))))

-- a call names no peer, or one of the hosts
abbrev pub is_known : List ℕ → Option ℕ → Bool
is_known hosts None = true
is_known hosts (Some peer) = is_one_of peer hosts

abbrev pub call_if_known : List ℕ → ℕ → Option Call → Option ManyEvent
call_if_known hosts host None = None
call_if_known hosts host (Some call) = if is_known hosts (peer_of_call call) then Some (events.Call host call) else None

-- the call that the words spell, its peer included
abbrev pub many_call_line : List ℕ → ℕ → List (List ℕ) → Option ManyEvent
many_call_line hosts host words = call_if_known hosts host (call_of None words)

-- a move, if the first word names one, else a call
abbrev pub many_move_or_call : List ℕ → ℕ → Option Move → List ℕ → List (List ℕ) → Option ManyEvent
many_move_or_call hosts host None word words = many_call_line hosts host (word ∷ words)
many_move_or_call hosts host (Some wanted) word words = many_move_of hosts host wanted words

-- the event in the words after a host: a request for its next message, a move of a message from it, or a
-- call
abbrev pub many_asked_of : List ℕ → ℕ → List (List ℕ) → Option ManyEvent
many_asked_of hosts host [] = None
many_asked_of hosts host (word ∷ words) =
    if bytes_eq (codes "out") word then alone (events.Out host) words else many_move_or_call hosts host (move_named word) word words

abbrev pub many_asked_by : List ℕ → Read ℕ → Option ManyEvent
many_asked_by hosts None = None
many_asked_by hosts (Some (host, words)) = many_asked_of hosts host words

-- the event in a line of these words, which begin with the number of a host
abbrev pub many_line_of : List ℕ → List (List ℕ) → Option ManyEvent
many_line_of hosts words = many_asked_by hosts (host_first hosts words)
