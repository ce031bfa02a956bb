-- The script notes of hosts: the notes of events, and after those of each word `settle` their number.
use Rattle.std.specs.Prelude.{◌≡◌, ℕ, zero, suc, ◌+◌, ◌-◌, ◌==◌, nat_lt, Bool, false, List, [], ◌∷◌, ◌++◌, map, take, drop, Option, Some, None, option_map, if◌then◌else◌}
use Rattle.ncp_play_world_lines.specs.declared.settling.ScriptNote.{ScriptNote}
use Rattle.ncp_play_world_lines.specs.declared.settling.ScriptNote.TheVariants.{Noted, Settled}
use Rattle.ncp_play_world.specs.declared.marks.Mark.{Mark}

-- hosts with their notes, and their script notes
pub record Staged (W N : Type 0) : Type 0 where
  pub hosts : W
  pub traces : List (ScriptNote N)

-- the notes with the marks among them; a mark follows `behind` notes, counted from the mark before
abbrev pub traces_of : {N : Type 0} → List N → List Mark → List (ScriptNote N)
traces_of notes [] = map Noted notes
traces_of notes (mark ∷ marks) = map Noted (take mark.behind notes) ++ Settled mark.many ∷ traces_of (drop mark.behind notes) marks

-- the number of notes before the last mark
abbrev pub notes_marked : List Mark → ℕ
notes_marked [] = 0
notes_marked (mark ∷ marks) = mark.behind + notes_marked marks

-- the number of events of the last word
abbrev pub last_word : List Mark → Option ℕ
last_word [] = None
last_word (mark ∷ []) = Some mark.many
last_word (mark ∷ next ∷ marks) = last_word (next ∷ marks)

-- the same, if no note follows it
abbrev pub last_marked : List Mark → ℕ → Option ℕ
last_marked marks zero = last_word marks
last_marked marks (suc since) = None

-- The index of the note of the line with this number, counted from 0 after `before` notes; `since` notes
-- follow the last mark.
abbrev pub marked_place : List Mark → ℕ → ℕ → ℕ → Option ℕ
marked_place [] since before left = if nat_lt left since then Some (before + left) else None
marked_place (mark ∷ marks) since before left =
    if nat_lt left mark.behind then Some (before + left) else if left == mark.behind then None else marked_place marks since (before + mark.behind) (left - (mark.behind + 1))

-- the notes alone
abbrev pub notes_in : {N : Type 0} → List (ScriptNote N) → List N
notes_in [] = []
notes_in (Noted note ∷ traces) = note ∷ notes_in traces
notes_in (Settled many ∷ traces) = notes_in traces

-- the index among the notes of the note of the line with this number, both counted from 0; none for a
-- word `settle`, or if there is no such line
abbrev pub note_place : {N : Type 0} → List (ScriptNote N) → ℕ → Option ℕ
note_place [] line = None
note_place (Noted note ∷ traces) zero = Some 0
note_place (Noted note ∷ traces) (suc line) = option_map suc (note_place traces line)
note_place (Settled many ∷ traces) zero = None
note_place (Settled many ∷ traces) (suc line) = note_place traces line

-- the same for a line whose number is counted from 1
abbrev pub position_of_line : {N : Type 0} → List (ScriptNote N) → ℕ → Option ℕ
position_of_line traces zero = None
position_of_line traces (suc line) = note_place traces line

-- the last of the script notes
abbrev pub IsLast : {N : Type 0} → ScriptNote N → List (ScriptNote N) → Type 0
IsLast {N} trace traces = (before : List (ScriptNote N)) × (traces ≡ before ++ trace ∷ [])

-- hosts after one more script note
abbrev pub traced : {W N : Type 0} → (N → W → W) → ScriptNote N → Staged W N → Staged W N
traced after (Noted note) s = record { hosts = after note s.hosts; traces = s.traces ++ Noted note ∷ [] }
traced after (Settled many) s = record { hosts = s.hosts; traces = s.traces ++ Settled many ∷ [] }

-- a call was refused
abbrev pub is_trace_refusal : {N : Type 0} → (N → Bool) → ScriptNote N → Bool
is_trace_refusal is_refusal (Noted note) = is_refusal note
is_trace_refusal is_refusal (Settled many) = false
