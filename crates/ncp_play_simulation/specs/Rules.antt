-- The rules of a script with any number of hosts: new hosts, the events of lines, the effects of events,
-- and the notes that events leave.
use Rattle.std.specs.Prelude.{◌≡◌, ℕ, zero, suc, Bool, true, false, List, [], ◌∷◌, Option, option_map}
use Rattle.std.specs.List.{list_any}
use Rattle.ncp_play_script.specs.Scripts.{AskedByLine, Event as Asks, Script, script_of}

-- parameters: the types of first lines, of events, of notes, and of hosts with their notes
pub record Rules (F E N W : Type 0) : Type 1 where
  pub first : List (List ℕ) → Option F  -- the first line with these words
  pub reads : F → List (List ℕ) → Option E  -- the event of a later line with these words
  pub begun : F → W  -- new hosts, without notes
  pub notes : W → List N
  pub after : N → W → W  -- the hosts and their notes after one more note
  pub Part : E → ℕ → Bool → W → W → Type 0  -- an event that has left this many notes leaves one more; true: it then goes on, false: it is done
  pub IsRun : W → Type 0  -- the notes are a transcript of the hosts
  pub is_refusal : N → Bool  -- a call was refused

module _ {E W : Type 0} (Step : E → W → W → Type 0) where
  -- events in order
  abbrev pub Steps : List E → W → W → Type 0
  Steps [] before now = now ≡ before
  Steps (event ∷ events) before now = (next : W) × Step event before next × Steps events next now

module _ {F E N W : Type 0} (rules : Rules F E N W) where
  -- an event that has left `left` notes leaves this many more, and does not end
  abbrev pub Begins : E → ℕ → ℕ → W → W → Type 0
  Begins event left zero before now = now ≡ before
  Begins event left (suc more) before now = (next : W) × rules.Part event left true before next × Begins event (suc left) more next now

  -- one event, to its end
  abbrev pub Step : E → W → W → Type 0
  Step event before now = (many : ℕ) × (last : W) × Begins event 0 many before last × rules.Part event many false last now

  -- the first of these events, if there is one, has left some notes or none, and has not ended
  abbrev pub NextBegins : List E → W → W → Type 0
  NextBegins [] before now = now ≡ before
  NextBegins (event ∷ events) before now = (many : ℕ) × Begins event 0 many before now

  -- the event that the words of a line after the first line ask for
  abbrev pub asks : F → List (List ℕ) → Option (AskedByLine E)
  asks named words = option_map Asks (rules.reads named words)

  -- the first line names the hosts; each line after it asks for an event
  abbrev pub script : List ℕ → Script F E
  script bytes = script_of rules.first asks bytes

  abbrev pub any_refusal : List N → Bool
  any_refusal notes = list_any rules.is_refusal notes
