-- The directives of a script of one host, line by line (this profile).
use Rattle.std.specs.Prelude.{ℕ, List, [], ◌∷◌, Option, Some, None, option_map, codes, if◌then◌else◌}
use Rattle.std.specs.Str.{bytes_eq}
use Rattle.ncp_host.specs.Host.{is_one_of}
use Rattle.ncp_transcript.specs.declared.input.Input.{Input}
use Rattle.ncp_transcript.specs.declared.input.Input.TheVariants as inputs
use Rattle.ncp_play_script.specs.declared.host_lines.HostEvent.TheVariants as events
use Rattle.ncp_play_script.specs.declared.host_lines.HostLine.{HostLine}
use Rattle.ncp_play_script.specs.declared.host_lines.HostLine.TheVariants.{Event, Feed}
use Rattle.ncp_play_script.specs.Words.{number_first, largest_u8}
use Rattle.ncp_play_script.specs.BitStrings.{bits_first}
use Rattle.ncp_play_script.specs.Calls.{all_of, call_of}

-- a value, if no word is left
abbrev pub alone : {A : Type 0} → A → List (List ℕ) → Option A
alone it [] = Some it
alone it (word ∷ words) = None

-- an input to the host
abbrev pub input_line : Input → HostLine
input_line input = Event (events.Input input)

-- the bits in all of the words, as input to the host
abbrev pub bits_line : List (List ℕ) → Option HostLine
bits_line words = option_map (λ bits. input_line (inputs.In bits)) (all_of (bits_first words))

-- a restart of the IMP for the peer in the first word, if the host has it and no word is left
abbrev pub restart_of_peer : List ℕ → Option (ℕ × List (List ℕ)) → Option HostLine
restart_of_peer peers None = None
restart_of_peer peers (Some (peer, words)) = if is_one_of peer peers then alone (Event (events.Restart (Some peer))) words else None

-- for the peer in the words; for each if there is no word
abbrev pub restart_line : List ℕ → List (List ℕ) → Option HostLine
restart_line peers [] = Some (Event (events.Restart None))
restart_line peers (word ∷ words) = restart_of_peer peers (number_first largest_u8 (word ∷ words))

-- the call in the words, its peer included
abbrev pub call_of_words : List (List ℕ) → Option HostLine
call_of_words words = option_map (λ call. input_line (inputs.Call call)) (call_of None words)

-- the directive of these words, for a host with these peers: bits for the host, a request for its next
-- message, a feed of the bytes after the line, a restart of its IMP, or a call
abbrev pub host_line_of : List ℕ → List (List ℕ) → Option HostLine
host_line_of peers [] = None
host_line_of peers (word ∷ words) =
    if bytes_eq (codes "in") word then bits_line words
    else if bytes_eq (codes "out") word then alone (input_line inputs.Out) words
    else if bytes_eq (codes "feed") word then alone Feed words
    else if bytes_eq (codes "restart") word then restart_line peers words
    else call_of_words (word ∷ words)
