-- A script, by its bytes (this profile): its lines, their directives up to the first fault, and that
-- fault. The meaning of a directive is a parameter, since scripts of one host and of more differ in it.
use Rattle.std.specs.Prelude.{ℕ, ◌+◌, min, Bool, true, false, List, [], ◌∷◌, Option, Some, None, if◌then◌else◌}
use Rattle.ncp_play_script.specs.declared.line_buffer.LineKind.{LineKind}
use Rattle.ncp_play_script.specs.declared.line_buffer.LineKind.TheVariants.{Skipped, TooLong, Played}
use Rattle.ncp_play_script.specs.Lines.{is_lf, text_of_line, line_kind}
use Rattle.ncp_play_script.specs.Words.{words_of}
use Rattle.ncp_model.specs.declared.limits.TheConstants.{MAX_COUNT}

-- one line: its bytes without its LF, whether an LF ended it, and all bytes after it
pub record Line : Type 0 where
  pub bytes : List ℕ
  pub ended : Bool
  pub behind : List ℕ

-- a byte before lines belongs to the first of them
abbrev pub onto_line : ℕ → List Line → List Line
onto_line byte [] = record { bytes = byte ∷ []; ended = false; behind = [] } ∷ []
onto_line byte (line ∷ lines) = record line { bytes = byte ∷ line.bytes } ∷ lines

-- the lines of bytes: each ends with an LF, which the last may lack
abbrev pub lines_of : List ℕ → List Line
lines_of [] = []
lines_of (byte ∷ bytes) = if is_lf byte then record { bytes = []; ended = true; behind = bytes } ∷ lines_of bytes else onto_line byte (lines_of bytes)

-- the text of a line
abbrev pub said : Line → List ℕ
said line = text_of_line line.ended line.bytes

-- why a script stops: a line without a directive, a line that is too long, each with its number among all
-- lines, from 1; or no first line that names valid hosts
pub data ScriptFault : Type 0 where
  BadLine : ℕ → ScriptFault
  LineTooLong : ℕ → ScriptFault
  BadHosts : ScriptFault

-- the end of a script: after its last line, with bytes that are a message file, or at a fault
pub data Ending : Type 0 where
  Over : Ending
  Fed : List ℕ → Ending
  Faulty : ScriptFault → Ending

-- the directive of a line: one event, or a feed of the bytes after its LF
pub data AskedByLine (E : Type 0) : Type 0 where
  Event : E → AskedByLine E
  Feeding : AskedByLine E

-- the events of lines, in order, and their end
pub record EventPlan (E : Type 0) : Type 0 where
  pub events : List E
  pub ending : Ending

abbrev pub course_ends : {E : Type 0} → Ending → EventPlan E
course_ends ending = record { events = []; ending = ending }

-- the plan of a line that is played and has this number, and of those after it
abbrev pub played : {E : Type 0} → ℕ → Line → Option (AskedByLine E) → EventPlan E → EventPlan E
played number line None course = course_ends (Faulty (BadLine number))
played number line (Some (Event event)) course = record course { events = event ∷ course.events }
played number line (Some Feeding) course = course_ends (if line.ended then Fed line.behind else Faulty (BadLine number))

abbrev pub course_of_line : {E : Type 0} → ℕ → Line → LineKind → Option (AskedByLine E) → EventPlan E → EventPlan E
course_of_line number line Skipped asked course = course
course_of_line number line TooLong asked course = course_ends (Faulty (LineTooLong number))
course_of_line number line Played asked course = played number line asked course

-- the number of the next line; numbers saturate (this profile's rule)
abbrev pub number_following : ℕ → ℕ
number_following number = min (number + 1) MAX_COUNT

-- the plan of lines, given the directive of each line's words; the first has this number
abbrev pub course_from : {E : Type 0} → (List (List ℕ) → Option (AskedByLine E)) → ℕ → List Line → EventPlan E
course_from asked number [] = course_ends Over
course_from asked number (line ∷ lines) = course_of_line number line (line_kind (said line)) (asked (words_of (said line))) (course_from asked (number_following number) lines)

-- a script: the hosts of its first line and the plan of the lines after it, or why there are no hosts
pub data Script (H E : Type 0) : Type 0 where
  NoHosts : ScriptFault → Script H E
  Plays : H → EventPlan E → Script H E

abbrev pub script_begun : {H E : Type 0} → Option H → (H → EventPlan E) → Script H E
script_begun None course = NoHosts BadHosts
script_begun (Some hosts) course = Plays hosts (course hosts)

abbrev pub first_judged : {H E : Type 0} → ℕ → LineKind → Option H → (H → EventPlan E) → Script H E → Script H E
first_judged number Skipped hosts course script = script
first_judged number TooLong hosts course script = NoHosts (LineTooLong number)
first_judged number Played hosts course script = script_begun hosts course

-- the script of lines: `hosts` reads the hosts of the first line, and `asked h` the directive of any
-- other
abbrev pub script_from : {H E : Type 0} → (List (List ℕ) → Option H) → (H → List (List ℕ) → Option (AskedByLine E)) → ℕ → List Line → Script H E
script_from hosts asked number [] = NoHosts BadHosts
script_from hosts asked number (line ∷ lines) =
    first_judged number (line_kind (said line)) (hosts (words_of (said line))) (λ h. course_from (asked h) (number_following number) lines) (script_from hosts asked (number_following number) lines)

abbrev pub script_of : {H E : Type 0} → (List (List ℕ) → Option H) → (H → List (List ℕ) → Option (AskedByLine E)) → List ℕ → Script H E
script_of hosts asked bytes = script_from hosts asked 1 (lines_of bytes)
