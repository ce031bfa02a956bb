-- A session: hosts that are played line by line, and each line note by note.
use Rattle.std.specs.Prelude.{◌≡◌, ◌⊎◌, ℕ, zero, suc, ◌+◌, ◌==◌, if◌then◌else◌, Bool, true, false, List, [], ◌∷◌, ◌++◌, length, min, Option, None, Some, Result, Ok, Err}
use Rattle.ncp_host.specs.Host.{Host}
use Rattle.ncp_play_script.specs.FirstLines.{is_many}
use Rattle.ncp_play_script.specs.Words.{words_of}
use Rattle.ncp_play_script.specs.declared.first_lines.TwoHosts.{TwoHosts}
use Rattle.ncp_transcript_two.specs.declared.side.Side.{Side}
use Rattle.ncp_transcript_two.specs.declared.side.Side.TheVariants.{A, B}
use Rattle.ncp_transcript_two.specs.Between.{host_of}
use Rattle.ncp_transcript_many.specs.Numbered.{thing_in}
use Rattle.ncp_play_stream.specs.Streams.{WritesText, WritesPrefixOf}
use Rattle.ncp_play_simulation.specs.Rules.{Rules, Step}
use Rattle.ncp_play_simulation.specs.Printing.{Rendering}
use Rattle.ncp_play_world.specs.WorldRules.{world_rules}
use Rattle.ncp_play_world.specs.ManyRules.{many_rules}
use Rattle.ncp_play_world.specs.Renderings.{lines_of_script, lines_of_many}
use Rattle.ncp_web.specs.Bytes.{IsFront}
use Rattle.ncp_web.specs.declared.answer.TheConstants.{DONE, NO_LINE, NO_MEMORY, NO_SESSION, FULL, GOES_ON}
use Rattle.ncp_web.specs.declared.handle.held.BoxedSession.{BoxedSession}
use Rattle.ncp_web.specs.declared.stage.SessionHosts.{SessionHosts}
use Rattle.ncp_web.specs.declared.stage.SessionHosts.TheVariants.{Two, Many}
use Rattle.ncp_web.specs.declared.stage.Refusal.{Refusal}
use Rattle.ncp_web.specs.declared.stage.Refusal.TheVariants.{NoLine, NoMemory, Full}

-- the number of the last of `count` notes, or the largest number if they are more
abbrev pub note_number : ℕ → ℕ
note_number count = min count 4294967295

-- the side of the host with a number
abbrev pub side_at : TwoHosts → ℕ → Option Side
side_at hosts number = if number == hosts.a then Some A else if number == hosts.b then Some B else None

-- the number of notes of an unfinished line after one note more, or 0 for a finished one
abbrev pub left_then : Bool → ℕ → ℕ
left_then more left = if more then left + 1 else 0

module _ {F E N W : Type 0} (rules : Rules F E N W) where
  -- new hosts, as named in a first line
  abbrev pub Begins : List ℕ → Result (F × W) Refusal → Type 0
  Begins line (Ok made) = (rules.first (words_of line) ≡ Some made.0) × (made.1 ≡ rules.begun made.0)
  Begins line (Err NoLine) = rules.first (words_of line) ≡ None
  Begins line (Err NoMemory) = (first : F) × (rules.first (words_of line) ≡ Some first)
  Begins line (Err Full) = ⊥

  -- the event in a line, unless it is refused or an allocation fails
  abbrev pub Reads : F → List ℕ → Result E Refusal → Type 0
  Reads first line (Ok event) = rules.reads first (words_of line) ≡ Some event
  Reads first line (Err NoLine) = rules.reads first (words_of line) ≡ None
  Reads first line (Err NoMemory) = Unit {0}
  Reads first line (Err Full) = ⊥

  -- the next part of an event with `left` notes so far happened, and added one note; then the event goes
  -- on, or is finished
  abbrev pub Leaves : E → ℕ → Bool → W → N → W → Type 0
  Leaves event left more before note now = rules.Part event left more before now × (rules.notes now ≡ rules.notes before ++ note ∷ [])

  -- the same for the event in a line
  abbrev pub Happens : F → List ℕ → ℕ → Bool → W → N → W → Type 0
  Happens first line left more before note now = (event : E) × (rules.reads first (words_of line) ≡ Some event) × Leaves event left more before note now

  -- the lines of the last note, which has the number of all notes
  abbrev pub printed_last : Rendering N W → N → W → List ℕ
  printed_last rendering note now = rendering.of_note (note_number (length (rules.notes now))) note now

  -- the effect of a part of an event, and the text written, by the result
  abbrev pub Notes : Rendering N W → E → ℕ → W → Result Bool Refusal → ℕ → W → List ℕ → Option (List ℕ) → List ℕ → Option (List ℕ) → Type 0
  Notes rendering event left before (Ok more) left' now page written page' written' =
      (note : N) × Leaves event left more before note now × (left' ≡ left_then more left) × WritesText page written (printed_last rendering note now) page' written'
  Notes rendering event left before (Err NoMemory) left' now page written page' written' = (now ≡ before) × (left' ≡ left) × (written' ≡ written)
  Notes rendering event left before (Err Full) left' now page written page' written' =
      (more : Bool) × (note : N) × Leaves event left more before note now × (left' ≡ left_then more left) × WritesPrefixOf page written (printed_last rendering note now) written'
  Notes rendering event left before (Err NoLine) left' now page written page' written' = ⊥

  -- the effect of a part of a line, and the text written, by the result
  abbrev pub Steps : Rendering N W → F → List ℕ → ℕ → W → Result Bool Refusal → ℕ → W → List ℕ → Type 0
  Steps rendering first line left before (Ok more) left' now text = (note : N) × Happens first line left more before note now × (left' ≡ left_then more left) × (text ≡ printed_last rendering note now)
  Steps rendering first line left before (Err NoLine) left' now text = (rules.reads first (words_of line) ≡ None) × (now ≡ before) × (left' ≡ left) × (text ≡ [])
  Steps rendering first line left before (Err NoMemory) left' now text = (now ≡ before) × (left' ≡ left) × (text ≡ [])
  Steps rendering first line left before (Err Full) left' now text =
      (more : Bool) × (note : N) × Happens first line left more before note now × (left' ≡ left_then more left) × (rest : List ℕ) × (text ++ rest ≡ printed_last rendering note now)

  -- a line added a given number of notes, one after the other, and goes on after each
  abbrev pub GoesOn : Rendering N W → F → List ℕ → ℕ → ℕ → W → ℕ → W → Type 0
  GoesOn rendering first line zero left before left' now = (left' ≡ left) × (now ≡ before)
  GoesOn rendering first line (suc many) left before left' now =
      (between : ℕ) × (next : W) × (text : List ℕ) × Steps rendering first line left before (Ok true) between next text × GoesOn rendering first line many between next left' now

  -- the same, and then its last note
  abbrev pub PlaysOut : Rendering N W → F → List ℕ → W → W → Type 0
  PlaysOut rendering first line before now =
      (many : ℕ) × (left : ℕ) × (last : W) × (text : List ℕ) × GoesOn rendering first line many 0 before left last × Steps rendering first line left last (Ok false) 0 now text

  -- the line had the effect that it has in a script
  abbrev pub IsDone : F → List ℕ → W → W → Type 0
  IsDone first line before now = (event : E) × (rules.reads first (words_of line) ≡ Some event) × Step rules event before now

-- ---- a session of two hosts, or of two to eight

abbrev pub host_of_stage : ℕ → SessionHosts → Option Host
host_of_stage number (Two s) = if number == s.first.hosts.a then Some (host_of A s.hosts.hosts.hosts) else if number == s.first.hosts.b then Some (host_of B s.hosts.hosts.hosts) else None
host_of_stage number (Many s) = thing_in s.hosts.hosts.hosts.hosts number

-- new hosts, as named in the first line of a script
abbrev pub BeginsStage : List ℕ → Result SessionHosts Refusal → Type 0
BeginsStage line (Ok (Two s)) = (is_many (words_of line) ≡ false) × Begins world_rules line (Ok (s.first, s.hosts)) × (s.left ≡ 0)
BeginsStage line (Ok (Many s)) = (is_many (words_of line) ≡ true) × Begins many_rules line (Ok (s.first, s.hosts)) × (s.left ≡ 0)
BeginsStage line (Err refusal) = (is_many (words_of line) ≡ false → Begins world_rules line (Err refusal)) × (is_many (words_of line) ≡ true → Begins many_rules line (Err refusal))

-- the effect of a part of a line, and the text written
abbrev pub StepsStage : List ℕ → SessionHosts → Result Bool Refusal → SessionHosts → List ℕ → Type 0
StepsStage line (Two s) answer (Two t) text = (t.first ≡ s.first) × Steps world_rules (lines_of_script s.first) s.first line s.left s.hosts answer t.left t.hosts text
StepsStage line (Many s) answer (Many t) text = (t.first ≡ s.first) × Steps many_rules (lines_of_many s.first) s.first line s.left s.hosts answer t.left t.hosts text
StepsStage line (Two s) answer (Many t) text = ⊥
StepsStage line (Many s) answer (Two t) text = ⊥

-- ---- of a handle

abbrev pub code_of_refusal : Refusal → ℕ
code_of_refusal NoLine = NO_LINE
code_of_refusal NoMemory = NO_MEMORY
code_of_refusal Full = FULL

abbrev pub code_of_step : Result Bool Refusal → ℕ
code_of_step (Ok true) = GOES_ON
code_of_step (Ok false) = DONE
code_of_step (Err refusal) = code_of_refusal refusal

-- the session that a first line opens replaces the one before; after a refusal that one is unchanged
abbrev pub OpensSession : List ℕ → ℕ → Option BoxedSession → Option BoxedSession → Type 0
OpensSession line result before now =
    ((stage : SessionHosts) × BeginsStage line (Ok stage) × (result ≡ DONE) × (now ≡ Some (record { stage = stage })))
    ⊎ (((result ≡ NO_MEMORY) ⊎ (BeginsStage line (Err NoLine) × (result ≡ NO_LINE))) × (now ≡ before))

-- a line is played in a session, and its text is written to the front of a buffer
abbrev pub StepsHeld : List ℕ → ℕ → Option BoxedSession → Option BoxedSession → List ℕ → List ℕ → ℕ → Type 0
StepsHeld line result None now out out' written = (result ≡ NO_SESSION) × (now ≡ None)
StepsHeld line result (Some s) None out out' written = ⊥
StepsHeld line result (Some s) (Some t) out out' written =
    (answer : Result Bool Refusal) × (text : List ℕ) × StepsStage line s.stage answer t.stage text × (result ≡ code_of_step answer) × IsFront text out out' written

-- the same, or as many bytes as the buffer has could not be allocated, and nothing has happened
abbrev pub StepsSession : List ℕ → ℕ → Option BoxedSession → Option BoxedSession → List ℕ → List ℕ → ℕ → Type 0
StepsSession line result before now out out' written =
    ((result ≡ NO_MEMORY) × (now ≡ before)) ⊎ StepsHeld line result before now out out' written
