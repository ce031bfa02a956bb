-- The lines of a note, as functions of the note and its number (this profile).
use Rattle.std.specs.Prelude.{ℕ, Bool, true, false, if◌then◌else◌, List, [], ◌∷◌, ◌++◌, length, Option, Some, None, Result, Ok, codes, decimal}
use Rattle.std.specs.declared.result.Result.TheVariants.{Err as Cut_off}
use Rattle.ncp_leader.specs.declared.leader.Leader.{Leader}
use Rattle.ncp_leader.specs.declared.leader.Short.{Short}
use Rattle.ncp_leader.specs.Leader.{leader_in}
use Rattle.ncp_leader.specs.Message.{message_in}
use Rattle.ncp_peer.specs.declared.received.Received.{Received}
use Rattle.ncp_transcript.specs.declared.note.HostNote.{HostNote}
use Rattle.ncp_transcript.specs.declared.note.HostNote.TheVariants as notes
use Rattle.ncp_play_script.specs.Verbs.{word_of_verb}
use Rattle.ncp_play_buffer.specs.Lines.{field, number_after}
use Rattle.ncp_play_files.specs.Lines.{message_lines}
use Rattle.ncp_play_notes.specs.declared.heading.LineHost.{LineHost}
use Rattle.ncp_play_notes.specs.declared.heading.LineHost.TheVariants.{Host, Side, Number}
use Rattle.ncp_play_notes.specs.declared.heading.LinePrefix.{LinePrefix}
use Rattle.ncp_play_notes.specs.Names.{Name, name_of_note}
use Rattle.ncp_play_notes.specs.Results.{result_words, error_lines}
use Rattle.ncp_play_notes.specs.Arrived.{received_words}

-- ---- line prefixes

-- the side in a two-host script, or the host in one of two to eight; lines of a one-host script name no
-- host
abbrev pub speaker_word : LineHost → List ℕ
speaker_word Host = []
speaker_word (Side letter) = codes " " ++ letter ∷ []
speaker_word (Number number) = field (codes " ") number

-- only in a two-host script does the side identify the peer
abbrev pub names_peer : LineHost → Bool
names_peer Host = true
names_peer (Side letter) = false
names_peer (Number number) = true

-- the peer that a call names
abbrev pub peer_word : LineHost → Option ℕ → List ℕ
peer_word speaker None = []
peer_word speaker (Some peer) = if names_peer speaker then field (codes " ") peer else []

-- the number, and the side or the host
abbrev pub front : LinePrefix → List ℕ
front heading = decimal heading.number ++ speaker_word heading.speaker

-- ---- calls

abbrev pub line_prefix_and_name : LinePrefix → Name → List ℕ
line_prefix_and_name heading name = front heading ++ codes " " ++ word_of_verb name.0 ++ peer_word heading.speaker name.1

-- the line of a call with its result, if the call has a name
abbrev pub line_if_named : LinePrefix → Option Name → List ℕ → List ℕ
line_if_named heading None result = []
line_if_named heading (Some name) result = line_prefix_and_name heading name ++ result ++ codes "\n"

abbrev pub call_line : LinePrefix → HostNote → List ℕ
call_line heading note = line_if_named heading (name_of_note note) (result_words note)

-- ---- messages

-- received bits, in a one-host script; a script of several hosts shows the delivery event instead
abbrev pub in_line : LinePrefix → Received → List ℕ
in_line heading received = front heading ++ codes " in " ++ received_words received ++ codes "\n"

-- a message's destination; `short` for one without a leader, which no host sends
abbrev pub toward : Result Leader Short → List ℕ
toward (Cut_off short) = codes " short"
toward (Ok leader) = field (codes " host=") leader.host ++ field (codes " link=") leader.link

abbrev pub out_line : LinePrefix → List Bool → List ℕ
out_line heading message = front heading ++ codes " out" ++ toward (leader_in message) ++ field (codes " bits=") (length message) ++ codes "\n"

abbrev pub nothing_line : LinePrefix → List ℕ
nothing_line heading = front heading ++ codes " out nothing\n"

-- ---- notes

abbrev pub first_line : LinePrefix → HostNote → List ℕ
first_line heading (notes.Out message) = out_line heading message
first_line heading notes.Nothing = nothing_line heading
first_line heading (notes.In message received) = in_line heading received
first_line heading (notes.Answered peer link answer received) = in_line heading received
first_line heading note = call_line heading note

-- the lines after the first: the details of a sent message, as `show` prints them (a host sends only
-- regular messages), and the ERRs that were read
abbrev pub lines_after : HostNote → List ℕ
lines_after (notes.Out message) = message_lines (message_in message)
lines_after (notes.Errors peer errors) = error_lines errors
lines_after other = []

abbrev pub note_lines : LinePrefix → HostNote → List ℕ
note_lines heading note = first_line heading note ++ lines_after note

-- the prefix of the next note's lines
abbrev pub next_line_prefix : LinePrefix → LinePrefix
next_line_prefix heading = record heading { number = number_after heading.number }

-- the lines of notes; the first has this prefix
abbrev pub lines_from : LinePrefix → List HostNote → List ℕ
lines_from heading [] = []
lines_from heading (note ∷ notes) = note_lines heading note ++ lines_from (next_line_prefix heading) notes

-- the prefix of the note after these
abbrev pub line_prefix_after : LinePrefix → List HostNote → LinePrefix
line_prefix_after heading [] = heading
line_prefix_after heading (note ∷ notes) = line_prefix_after (next_line_prefix heading) notes
