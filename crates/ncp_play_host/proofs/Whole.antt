-- A whole script: its first line, the lines after it, and the out buffer that is written at the end.
use Rattle.std.proofs.Common.{◌≡◌, ◌⊎◌, inl, inr, ℕ, Bool, true, false, List, [], ◌++◌, Option, Some, Result, Ok, Err, refl, sym, ap, ◌∙◌, subst}
use Rattle.std.proofs.lemmas.List.{append-nil}
use Rattle.ncp_play_stream.specs.Streams.{SaidSoFar, WritesText, WritesPrefixOf}
use Rattle.ncp_play_script.specs.declared.host_lines.HostEvent.{HostEvent}
use Rattle.ncp_transcript.specs.declared.note.HostNote.{HostNote}
use Rattle.ncp_transcript.specs.Alone.{Alone}
use Rattle.ncp_transcript.specs.Runs.{IsHostTranscript}
use Rattle.ncp_play_script.specs.FirstLines.{Named}
use Rattle.ncp_play_script.specs.HostScripts.{host_script}
use Rattle.ncp_play_script.specs.Scripts as scripts
use Rattle.ncp_play_script.specs.Scripts.{EventPlan, Script, NoHosts, Plays, lines_of}
use Rattle.ncp_play_reader.specs.declared.lines.Lines.{Lines}
use Rattle.ncp_play_reader.specs.NextLines.{ended_lines}
use Rattle.ncp_play_notes.specs.declared.fault.PlayFault.{PlayFault}
use Rattle.ncp_play_notes.specs.declared.fault.PlayFault.TheVariants.{BadLine, LineTooLong, BadHosts, Feed, ReadFailed, WriteFailed, OutOfMemory}
use Rattle.ncp_play_notes.specs.declared.heading.LinePrefix.{LinePrefix}
use Rattle.ncp_play_notes.specs.Faults.{play_read_failed, play_write_failed}
use Rattle.ncp_play_notes.specs.NoteLines.{lines_from}
use Rattle.ncp_play_notes.specs.Playing.{Tells}
use Rattle.ncp_play_host.specs.Asking.{course_of}
use Rattle.ncp_play_host.specs.Doing.{DoesAll, DoesFirst}
use Rattle.ncp_play_host.specs.Beginning.{begun_by, IsBegun, HostBegins}
use Rattle.ncp_play_host.specs.Played.{CourseDoes, AfterDoes, ScriptDoes, ScriptBegins, WholeDoes, HostDoes, Answers, first_line_prefix, Says, WritesAllLines, WritesSomeLines, HostPlayed}
use Rattle.ncp_play_host.proofs.Does.{does_not}

-- ---- the first line

not_begun : (bytes : List ℕ) (fault : scripts.ScriptFault) (r : Result Unit PlayFault) (left : Option (List ℕ)) → host_script bytes ≡ NoHosts fault → ScriptDoes (NoHosts fault) r [] left → ScriptDoes (host_script bytes) r [] left
not_begun bytes fault r left e does = subst (λ (s : Script Named HostEvent). ScriptDoes s r [] left) (sym e) does

-- there is no host: nothing is rendered
pub begin_renders : (bytes was : List ℕ) (fault : PlayFault) (now : Lines) (left : Option (List ℕ)) (page : List ℕ) (written : Option (List ℕ)) → HostBegins bytes (Err fault) now left → SaidSoFar was page written [] → Says bytes was (Err fault) left page written
begin_renders bytes was BadHosts now left page written begins said = ([], first_line_prefix, not_begun bytes scripts.BadHosts (Err BadHosts) left begins (refl, refl), (refl, said))
begin_renders bytes was (LineTooLong line) now left page written begins said = ([], first_line_prefix, not_begun bytes (scripts.LineTooLong line) (Err (LineTooLong line)) left begins (refl, refl), (refl, said))
begin_renders bytes was OutOfMemory now left page written begins said =
    let some : ScriptBegins (host_script bytes) [] = subst (λ (s : Script Named HostEvent). ScriptBegins s []) (sym begins.2) (begun_by begins.0, does_not begins.0.peers begins.1 (begun_by begins.0) (begun_by begins.0) refl, refl, begins.3) in
    ([], first_line_prefix, inr some, (refl, said))
begin_renders bytes was ReadFailed now left page written begins said =
    ([], first_line_prefix, (begins.0, begins.1, inl (begins.2, refl)), (refl, said))
begin_renders bytes was (BadLine line) now left page written begins said = absurd begins
begin_renders bytes was (Feed fault) now left page written begins said = absurd begins
begin_renders bytes was WriteFailed now left page written begins said = absurd begins

-- ---- the lines after it

module _ (bytes : List ℕ) (named : Named) (alone : Alone) (ended : Bool) (lines : Lines) (read : Option (List ℕ)) (begun : IsBegun bytes named alone ended lines read) where
  abbrev behind : List ℕ
  behind = begun.0

  abbrev course : EventPlan HostEvent
  course = course_of named.peers lines.number (lines_of behind)

  all_does : (r : Result Unit PlayFault) (now : Alone) (left : Option (List ℕ)) → IsHostTranscript now.notes now.host → CourseDoes named.peers course alone r now left → ScriptDoes (host_script bytes) r now.notes left
  all_does r now left told does =
      subst (λ (s : Script Named HostEvent). ScriptDoes s r now.notes left) (sym begun.1) (now, subst (λ (a : Alone). CourseDoes named.peers course a r now left) begun.2 does, refl, told)

  some_does : (now : Alone) → IsHostTranscript now.notes now.host → DoesFirst named.peers course alone now → ScriptBegins (host_script bytes) now.notes
  some_does now told does = subst (λ (s : Script Named HostEvent). ScriptBegins s now.notes) (sym begun.1) (now, subst (λ (a : Alone). DoesFirst named.peers course a now) begun.2 does, refl, told)

  either_does : (r : Result Unit PlayFault) (now : Alone) (left : Option (List ℕ)) → IsHostTranscript now.notes now.host → CourseDoes named.peers course alone r now left ⊎ DoesFirst named.peers course alone now → ScriptDoes (host_script bytes) r now.notes left ⊎ ScriptBegins (host_script bytes) now.notes
  either_does r now left told (inl does) = inl (all_does r now left told does)
  either_does r now left told (inr does) = inr (some_does now told does)

  -- a read failed: an LF ended the first line, since nothing is read after a line without one
  came_does : (lf : Bool) (now : Alone) (left : Option (List ℕ)) → ended ≡ lf → (ended ≡ false → true ≡ false) → IsHostTranscript now.notes now.host → AfterDoes named.peers lines.number behind alone (Err ReadFailed) now left → HostDoes bytes (Err ReadFailed) now.notes left
  came_does true now left lf none told does =
      let came = begun.5 lf left does.0 does.1 in
      let rest = course_of named.peers lines.number (ended_lines (lines_of does.0)) in (
        came.0,
        came.1,
        inr (subst (λ (s : Script Named HostEvent). WholeDoes s now.notes) (sym came.2) (now, subst (λ (a : Alone). DoesAll named.peers rest scripts.Over a now) begun.2 does.2, refl, told)),
      )
  came_does false now left lf none told does = absurd (let f = none lf in cc)

  pub after_does : (fault : PlayFault) (now : Alone) (left : Option (List ℕ)) → (ended ≡ false → play_read_failed {X = Unit {0}} (Err fault) ≡ false) → IsHostTranscript now.notes now.host → AfterDoes named.peers lines.number behind alone (Err fault) now left → HostDoes bytes (Err fault) now.notes left
  after_does (BadLine line) now left whole told does = all_does (Err (BadLine line)) now left told does
  after_does (LineTooLong line) now left whole told does = all_does (Err (LineTooLong line)) now left told does
  after_does BadHosts now left whole told does = all_does (Err BadHosts) now left told does
  after_does (Feed fault) now left whole told does = all_does (Err (Feed fault)) now left told does
  after_does OutOfMemory now left whole told does = either_does (Err OutOfMemory) now left told does
  after_does WriteFailed now left whole told does = either_does (Err WriteFailed) now left told does
  after_does ReadFailed now left whole told does = came_does ended now left refl whole told does

  pub after_done : (now : Alone) (left : Option (List ℕ)) → IsHostTranscript now.notes now.host → AfterDoes named.peers lines.number behind alone (Ok tt) now left → ScriptDoes (host_script bytes) (Ok tt) now.notes left
  after_done now left told does = all_does (Ok tt) now left told does

-- ---- the out buffer

-- everything rendered is written
pub written_all : (was lines page last : List ℕ) (written now : Option (List ℕ)) → SaidSoFar was page written lines → (last ≡ []) × WritesText page written [] last now → now ≡ Some (was ++ lines)
written_all was lines page last written now said flushed =
    let all = flushed.1 was lines said in
    let same : all.0 ≡ lines = sym (append-nil all.0) ∙ ap (λ xs. all.0 ++ xs) (sym flushed.0) ∙ all.2 ∙ append-nil lines in
    all.1 ∙ ap (λ xs. Some (was ++ xs)) same

-- a prefix of it is written
abbrev Beginning : List ℕ → List ℕ → Option (List ℕ) → Type 0
Beginning was lines now = (text : List ℕ) × (more : List ℕ) × (text ++ more ≡ lines) × (now ≡ Some (was ++ text))

written_some : (was lines page : List ℕ) (written now : Option (List ℕ)) → SaidSoFar was page written lines → WritesPrefixOf page written [] now → Beginning was lines now
written_some was lines page written now said broken = let all = broken.1 was lines said in (all.0, broken.0, all.2 ∙ append-nil lines, all.1)

begins_with : (bytes was : List ℕ) (r : Result Bool PlayFault) (left : Option (List ℕ)) (now : Option (List ℕ)) (notes : List HostNote) → Answers bytes r notes left → Beginning was (lines_from first_line_prefix notes) now → WritesSomeLines bytes was left now
begins_with bytes was r left now notes answers beginning = (r, notes, beginning.0, beginning.1, answers, beginning.2, beginning.3)

-- a line could not be written
pub played_failed : (bytes was : List ℕ) (r : Result Bool PlayFault) (left : Option (List ℕ)) (page : List ℕ) (written : Option (List ℕ)) → Says bytes was r left page written → play_write_failed r ≡ true → HostPlayed bytes was r left written
played_failed bytes was (Err WriteFailed) left page written says e = let told = says.3 in begins_with bytes was (Err WriteFailed) left written says.0 says.2 (told.1.0, told.0, told.1.2, told.1.1)
played_failed bytes was (Ok good) left page written says e = absurd (let f : ⊥ = cc in f)
played_failed bytes was (Err (BadLine line)) left page written says e = absurd (let f : ⊥ = cc in f)
played_failed bytes was (Err (LineTooLong line)) left page written says e = absurd (let f : ⊥ = cc in f)
played_failed bytes was (Err BadHosts) left page written says e = absurd (let f : ⊥ = cc in f)
played_failed bytes was (Err (Feed fault)) left page written says e = absurd (let f : ⊥ = cc in f)
played_failed bytes was (Err ReadFailed) left page written says e = absurd (let f : ⊥ = cc in f)
played_failed bytes was (Err OutOfMemory) left page written says e = absurd (let f : ⊥ = cc in f)

-- the out buffer was written
module _ (bytes was : List ℕ) (left : Option (List ℕ)) (page last : List ℕ) (written now : Option (List ℕ)) (flushed : (last ≡ []) × WritesText page written [] last now) where
  writes_all : (r : Result Bool PlayFault) (notes : List HostNote) (heading : LinePrefix) → Answers bytes r notes left → Tells was first_line_prefix notes heading page written → WritesAllLines bytes was r left now
  writes_all r notes heading answers tells = (notes, answers, written_all was (lines_from first_line_prefix notes) page last written now tells.1 flushed)

  pub played_whole : (r : Result Bool PlayFault) → Says bytes was r left page written → play_write_failed r ≡ false → HostPlayed bytes was r left now
  played_whole (Ok good) says e = writes_all (Ok good) says.0 says.1 says.2 says.3
  played_whole (Err (BadLine line)) says e = writes_all (Err (BadLine line)) says.0 says.1 says.2 says.3
  played_whole (Err (LineTooLong line)) says e = writes_all (Err (LineTooLong line)) says.0 says.1 says.2 says.3
  played_whole (Err BadHosts) says e = writes_all (Err BadHosts) says.0 says.1 says.2 says.3
  played_whole (Err (Feed fault)) says e = writes_all (Err (Feed fault)) says.0 says.1 says.2 says.3
  played_whole (Err ReadFailed) says e = writes_all (Err ReadFailed) says.0 says.1 says.2 says.3
  played_whole (Err OutOfMemory) says e = writes_all (Err OutOfMemory) says.0 says.1 says.2 says.3
  played_whole (Err WriteFailed) says e = absurd (let f : ⊥ = cc in f)

-- the out buffer could not be written
module _ (bytes was : List ℕ) (left : Option (List ℕ)) (page : List ℕ) (written now : Option (List ℕ)) (broken : WritesPrefixOf page written [] now) where
  writes_some : (r : Result Bool PlayFault) (notes : List HostNote) (heading : LinePrefix) → Answers bytes r notes left → Tells was first_line_prefix notes heading page written → WritesSomeLines bytes was left now
  writes_some r notes heading answers tells = begins_with bytes was r left now notes answers (written_some was (lines_from first_line_prefix notes) page written now tells.1 broken)

  pub played_broken : (r : Result Bool PlayFault) → Says bytes was r left page written → play_write_failed r ≡ false → WritesSomeLines bytes was left now
  played_broken (Ok good) says e = writes_some (Ok good) says.0 says.1 says.2 says.3
  played_broken (Err (BadLine line)) says e = writes_some (Err (BadLine line)) says.0 says.1 says.2 says.3
  played_broken (Err (LineTooLong line)) says e = writes_some (Err (LineTooLong line)) says.0 says.1 says.2 says.3
  played_broken (Err BadHosts) says e = writes_some (Err BadHosts) says.0 says.1 says.2 says.3
  played_broken (Err (Feed fault)) says e = writes_some (Err (Feed fault)) says.0 says.1 says.2 says.3
  played_broken (Err ReadFailed) says e = writes_some (Err ReadFailed) says.0 says.1 says.2 says.3
  played_broken (Err OutOfMemory) says e = writes_some (Err OutOfMemory) says.0 says.1 says.2 says.3
  played_broken (Err WriteFailed) says e = absurd (let f : ⊥ = cc in f)
