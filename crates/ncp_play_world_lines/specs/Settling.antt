-- The word `settle` of scripts of two hosts, and of two to eight (this profile): it performs all events
-- that are possible without a call. Each event has its line, as if the script asked for it; then a line
-- has their number.
use Rattle.std.specs.Prelude.{ℕ, List, [], ◌++◌, Option, Some, option_map, codes, decimal, if◌then◌else◌}
use Rattle.ncp_play_script.specs.Words.{is_only}
use Rattle.ncp_play_world_lines.specs.declared.settling.Directive.{Directive}
use Rattle.ncp_play_world_lines.specs.declared.settling.Directive.TheVariants.{Event, Settle}
use Rattle.ncp_play_world_lines.specs.declared.settling.ScriptNote.{ScriptNote}
use Rattle.ncp_play_world_lines.specs.declared.settling.ScriptNote.TheVariants.{Noted, Settled}

-- a line that is this one word, or an event
abbrev pub deed_of_line : {E : Type 0} → (List (List ℕ) → Option E) → List (List ℕ) → Option (Directive E)
deed_of_line event_of words = if is_only (codes "settle") words then Some Settle else option_map Event (event_of words)

-- a script note over other notes
abbrev pub trace_of : {M N : Type 0} → (M → N) → ScriptNote M → ScriptNote N
trace_of note_of (Noted note) = Noted (note_of note)
trace_of note_of (Settled many) = Settled many

-- the line after those of the events: their number
abbrev pub settled_line : ℕ → ℕ → List ℕ
settled_line number many = decimal number ++ codes " settle " ++ decimal many ++ codes "\n"

-- the lines of a note, or that line
abbrev pub trace_lines : {N : Type 0} → (ℕ → N → List ℕ) → ℕ → ScriptNote N → List ℕ
trace_lines note_lines number (Noted note) = note_lines number note
trace_lines note_lines number (Settled many) = settled_line number many

-- the record of a note; that line has none
abbrev pub trace_bytes : {N : Type 0} → (N → List ℕ) → ScriptNote N → List ℕ
trace_bytes note_bytes (Noted note) = note_bytes note
trace_bytes note_bytes (Settled many) = []
