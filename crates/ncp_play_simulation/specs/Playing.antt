-- The output of a player of hosts, and its effect for one event.
use Rattle.std.specs.Prelude.{◌≡◌, ◌⊎◌, ℕ, suc, Bool, List, Option, Result, Ok, Err}
use Rattle.ncp_play_stream.specs.Streams.{SaidSoFar}
use Rattle.ncp_play_notes.specs.declared.fault.PlayFault.{PlayFault}
use Rattle.ncp_play_notes.specs.declared.fault.PlayFault.TheVariants.{BadLine, LineTooLong, BadHosts, Feed, ReadFailed, WriteFailed, OutOfMemory}
use Rattle.ncp_play_simulation.specs.Rules.{Rules, Begins, Step}
use Rattle.ncp_play_simulation.specs.Printing.{Rendering, after_all, told, number_after_notes}

module _ {F E N W : Type 0} (rules : Rules F E N W) where
  -- the hosts are those that began as `began`, after their notes; since the sink held `was`, exactly
  -- these notes were rendered; the next note has this number
  abbrev pub Tells : Rendering N W → W → List ℕ → W → ℕ → List ℕ → Option (List ℕ) → Type 0
  Tells rendering began was now number page written =
      (now ≡ after_all rules.after (rules.notes now) began) × (number ≡ number_after_notes 1 (rules.notes now)) × SaidSoFar was page written (told rules.after rendering began (rules.notes now))

  -- a prefix of their rendering was written
  abbrev pub PrintsPrefixOf : Rendering N W → W → List ℕ → List N → Option (List ℕ) → Type 0
  PrintsPrefixOf rendering began was notes written = (lost : List ℕ) × SaidSoFar was lost written (told rules.after rendering began notes)

  -- the effect of one part, by the result: after `left` notes the event left one more, also if a write
  -- failed; on allocation failure nothing has happened
  abbrev pub DoesPart : E → ℕ → W → Result Bool PlayFault → W → Type 0
  DoesPart event left before (Ok more) now = rules.Part event left more before now
  DoesPart event left before (Err OutOfMemory) now = now ≡ before
  DoesPart event left before (Err WriteFailed) now = (more : Bool) × rules.Part event left more before now
  DoesPart event left before (Err ReadFailed) now = ⊥
  DoesPart event left before (Err BadHosts) now = ⊥
  DoesPart event left before (Err (BadLine line)) now = ⊥
  DoesPart event left before (Err (LineTooLong line)) now = ⊥
  DoesPart event left before (Err (Feed fault)) now = ⊥

  -- the effect of one event, by the result: it was performed; on allocation failure it left some notes or
  -- none, and did not end; on a failed write it left one note at least
  abbrev pub DoesEvent : E → W → Result Unit PlayFault → W → Type 0
  DoesEvent event before (Ok done) now = Step rules event before now
  DoesEvent event before (Err OutOfMemory) now = (many : ℕ) × Begins rules event 0 many before now
  DoesEvent event before (Err WriteFailed) now = ((many : ℕ) × Begins rules event 0 (suc many) before now) ⊎ Step rules event before now
  DoesEvent event before (Err ReadFailed) now = ⊥
  DoesEvent event before (Err BadHosts) now = ⊥
  DoesEvent event before (Err (BadLine line)) now = ⊥
  DoesEvent event before (Err (LineTooLong line)) now = ⊥
  DoesEvent event before (Err (Feed fault)) now = ⊥

  -- all notes were rendered; after a failed write a prefix was written
  abbrev pub PrintsAs : {X : Type 0} → Rendering N W → W → List ℕ → W → Result X PlayFault → ℕ → List ℕ → Option (List ℕ) → Type 0
  PrintsAs rendering began was now (Ok x) number page written = Tells rendering began was now number page written
  PrintsAs rendering began was now (Err WriteFailed) number page written = PrintsPrefixOf rendering began was (rules.notes now) written
  PrintsAs rendering began was now (Err OutOfMemory) number page written = Tells rendering began was now number page written
  PrintsAs rendering began was now (Err ReadFailed) number page written = Tells rendering began was now number page written
  PrintsAs rendering began was now (Err BadHosts) number page written = Tells rendering began was now number page written
  PrintsAs rendering began was now (Err (BadLine line)) number page written = Tells rendering began was now number page written
  PrintsAs rendering began was now (Err (LineTooLong line)) number page written = Tells rendering began was now number page written
  PrintsAs rendering began was now (Err (Feed fault)) number page written = Tells rendering began was now number page written
