-- The effect of a player of hosts for a script, and its output.
use Rattle.std.specs.Prelude.{◌≡◌, ◌⊎◌, ℕ, Bool, true, false, not, List, ◌++◌, Option, Some, None, Result, Ok, Err, IfOk}
use Rattle.ncp_play_stream.specs.Streams.{RemainingInput}
use Rattle.ncp_play_script.specs.Scripts.{Line, EventPlan, Ending, Over, Faulty, Script, Plays, NoHosts, lines_of, script_from}
use Rattle.ncp_play_script.specs.Scripts.{BadLine as Is_bad_line, LineTooLong as Is_too_long, BadHosts as Are_bad_hosts}
use Rattle.ncp_play_reader.specs.NextLines.{next_from, ended_lines, CameBefore}
use Rattle.ncp_play_notes.specs.declared.fault.PlayFault.{PlayFault}
use Rattle.ncp_play_notes.specs.declared.fault.PlayFault.TheVariants.{BadLine, LineTooLong, BadHosts, Feed, ReadFailed, WriteFailed, OutOfMemory}
use Rattle.ncp_play_simulation.specs.Rules.{Rules, Step, Steps, NextBegins, asks, script, any_refusal}
use Rattle.ncp_play_simulation.specs.Printing.{Rendering, told}
use Rattle.ncp_play_simulation.specs.Playing.{PrintsPrefixOf}
use Rattle.ncp_play_simulation.specs.NextEvents.{course_of, course_cut}

module _ {F E N W : Type 0} (rules : Rules F E N W) where
  -- ---- events

  -- all events of a plan happened in order, and it ends with `ending`
  abbrev pub PlayedTo : EventPlan E → Ending → W → W → Type 0
  PlayedTo course ending before now = (course.ending ≡ ending) × Steps (Step rules) course.events before now

  -- a prefix of a plan's events happened, and parts of the next at most
  abbrev pub PlayedFirst : EventPlan E → W → W → Type 0
  PlayedFirst course before now =
      (events : List E) × (more : List E) × (mid : W) × (course.events ≡ events ++ more) × Steps (Step rules) events before mid × NextBegins rules more mid now

  -- a read failed: the events of the complete lines happened, and they are a prefix of all events
  abbrev pub PlayedCut : F → ℕ → List ℕ → W → W → Option (List ℕ) → Type 0
  PlayedCut named first bytes before now left =
      (given : List ℕ) × CameBefore bytes left given × PlayedTo (course_cut rules named first given) Over before now × PlayedFirst (course_of rules named first bytes) before now

  -- the effect of these lines, the first of which has the number `first`, by the result
  abbrev pub PlaysLines : {X : Type 0} → F → ℕ → List ℕ → W → Result X PlayFault → W → Option (List ℕ) → Type 0
  PlaysLines named first bytes before (Ok done) now left = PlayedTo (course_of rules named first bytes) Over before now
  PlaysLines named first bytes before (Err (BadLine line)) now left = PlayedTo (course_of rules named first bytes) (Faulty (Is_bad_line line)) before now
  PlaysLines named first bytes before (Err (LineTooLong line)) now left = PlayedTo (course_of rules named first bytes) (Faulty (Is_too_long line)) before now
  PlaysLines named first bytes before (Err ReadFailed) now left = PlayedCut named first bytes before now left
  PlaysLines named first bytes before (Err OutOfMemory) now left = PlayedFirst (course_of rules named first bytes) before now
  PlaysLines named first bytes before (Err WriteFailed) now left = PlayedFirst (course_of rules named first bytes) before now
  PlaysLines named first bytes before (Err BadHosts) now left = ⊥
  PlaysLines named first bytes before (Err (Feed fault)) now left = ⊥

  -- if the rest has this effect, then the whole has it
  abbrev pub GoesOn : F → ℕ → List ℕ → W → ℕ → List ℕ → W → Type 0
  GoesOn named first bytes before number rest now = (r : Result Unit PlayFault) (last : W) (left : Option (List ℕ)) → PlaysLines named number rest now r last left → PlaysLines named first bytes before r last left

  -- one event happened and others may follow; or it was the last, or there is none; or a fault
  abbrev pub PlaysNext : F → ℕ → List ℕ → W → Result Bool PlayFault → W → ℕ → List ℕ → Option (List ℕ) → Type 0
  PlaysNext named first bytes before (Ok true) now number window left = (rest : List ℕ) × RemainingInput window left rest × GoesOn named first bytes before number rest now
  PlaysNext named first bytes before (Ok false) now number window left = PlaysLines {X = Unit} named first bytes before (Ok tt) now left
  PlaysNext named first bytes before (Err fault) now number window left = PlaysLines {X = Unit} named first bytes before (Err fault) now left

  -- ---- output

  -- exactly the rendering of the notes was written, after `was`
  abbrev pub WritesAll : Rendering N W → W → List ℕ → List N → Option (List ℕ) → Type 0
  WritesAll rendering began was notes written = written ≡ Some (was ++ told rules.after rendering began notes)

  -- all of it was written; after a failed write a prefix
  abbrev pub WritesAs : {X : Type 0} → Rendering N W → W → List ℕ → List N → Result X PlayFault → Option (List ℕ) → Type 0
  WritesAs rendering began was notes (Ok x) written = WritesAll rendering began was notes written
  WritesAs rendering began was notes (Err WriteFailed) written = PrintsPrefixOf rules rendering began was notes written
  WritesAs rendering began was notes (Err OutOfMemory) written = WritesAll rendering began was notes written
  WritesAs rendering began was notes (Err ReadFailed) written = WritesAll rendering began was notes written
  WritesAs rendering began was notes (Err BadHosts) written = WritesAll rendering began was notes written
  WritesAs rendering began was notes (Err (BadLine line)) written = WritesAll rendering began was notes written
  WritesAs rendering began was notes (Err (LineTooLong line)) written = WritesAll rendering began was notes written
  WritesAs rendering began was notes (Err (Feed fault)) written = WritesAll rendering began was notes written

  -- the result of playing a script: whether no call was refused
  abbrev pub AnswersGood : Result Bool PlayFault → List N → Type 0
  AnswersGood result notes = IfOk result (λ good. good ≡ not (any_refusal rules notes))

  -- the effect on new hosts of the lines after this first line, and the output; the notes are a
  -- transcript
  abbrev pub PlaysAfter : Rendering N W → F → ℕ → List ℕ → List ℕ → Result Bool PlayFault → Option (List ℕ) → Option (List ℕ) → Type 0
  PlaysAfter rendering named first bytes was result left written =
      (now : W) × PlaysLines named first bytes (rules.begun named) result now left × rules.IsRun now
      × WritesAs rendering (rules.begun named) was (rules.notes now) result written × AnswersGood result (rules.notes now)

  -- ---- a whole script

  -- all its events happened to new hosts, and it ends with `ending`; the notes are a transcript
  abbrev pub PlaysAll : Script F E → Ending → F → W → Type 0
  PlaysAll said ending named now = (course : EventPlan E) × (said ≡ Plays named course) × PlayedTo course ending (rules.begun named) now × rules.IsRun now

  -- a prefix of its events happened to new hosts; the notes are a transcript
  abbrev pub PlaysSome : Script F E → F → W → Type 0
  PlaysSome said named now = (course : EventPlan E) × (said ≡ Plays named course) × PlayedFirst course (rules.begun named) now × rules.IsRun now

  -- all its events happened, up to its end, and the rendering of their notes was written
  abbrev pub PlaysPrinted : (F → Rendering N W) → Script F E → Ending → List ℕ → Option (List ℕ) → Type 0
  PlaysPrinted rendering said ending was written = (named : F) × (now : W) × PlaysAll said ending named now × WritesAll (rendering named) (rules.begun named) was (rules.notes now) written

  -- no hosts were created, and nothing was written
  abbrev pub PlaysNone : Script F E → Script F E → List ℕ → Option (List ℕ) → Type 0
  PlaysNone said wanted was written = (said ≡ wanted) × (written ≡ Some was)

  -- the script from line `first` on
  abbrev pub script_after : ℕ → List Line → Script F E
  script_after first lines = script_from rules.first (asks rules) first lines

  -- the script of the complete lines
  abbrev pub script_cut : List ℕ → Script F E
  script_cut bytes = script_after 1 (ended_lines (lines_of bytes))

  -- the effect of a script and its output, by the result; the first line determines the rendering. After
  -- a failed read, the complete lines are all skipped, or they were played
  abbrev pub PlaysScript : (F → Rendering N W) → List ℕ → List ℕ → Result Bool PlayFault → Option (List ℕ) → Option (List ℕ) → Type 0
  PlaysScript rendering bytes was (Ok good) left written =
      (named : F) × (now : W) × PlaysAll (script rules bytes) Over named now × WritesAll (rendering named) (rules.begun named) was (rules.notes now) written
      × (good ≡ not (any_refusal rules (rules.notes now)))
  PlaysScript rendering bytes was (Err (BadLine line)) left written = PlaysPrinted rendering (script rules bytes) (Faulty (Is_bad_line line)) was written
  PlaysScript rendering bytes was (Err (LineTooLong line)) left written =
      PlaysNone (script rules bytes) (NoHosts (Is_too_long line)) was written ⊎ PlaysPrinted rendering (script rules bytes) (Faulty (Is_too_long line)) was written
  PlaysScript rendering bytes was (Err BadHosts) left written = PlaysNone (script rules bytes) (NoHosts Are_bad_hosts) was written
  PlaysScript rendering bytes was (Err ReadFailed) left written =
      (given : List ℕ) × CameBefore bytes left given
      × (((next_from 1 (ended_lines (lines_of given)) ≡ None) × (written ≡ Some was)) ⊎ PlaysPrinted rendering (script_cut given) Over was written)
  PlaysScript rendering bytes was (Err OutOfMemory) left written =
      (named : F) × (now : W) × PlaysSome (script rules bytes) named now × WritesAll (rendering named) (rules.begun named) was (rules.notes now) written
  PlaysScript rendering bytes was (Err WriteFailed) left written =
      (named : F) × (now : W) × PlaysSome (script rules bytes) named now × PrintsPrefixOf rules (rendering named) (rules.begun named) was (rules.notes now) written
  PlaysScript rendering bytes was (Err (Feed fault)) left written = ⊥
