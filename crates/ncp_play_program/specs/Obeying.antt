-- The effect of the words of a command line, the output about it, and the exit status (this profile).
use Rattle.std.specs.Prelude.{◌≡◌, ◌⊎◌, ℕ, Bool, true, false, ◌||◌, List, [], Option, Some, Result, Ok, Err, is_err}
use Rattle.clap.specs.Faults.{fault_of}
use Rattle.clap.specs.Kinds.{HasKind}
use Rattle.clap.specs.Values.{kind_of}
use Rattle.clap.specs.Walk.{Text}
use Rattle.clap.specs.declared.error.Error.{Error}
use Rattle.clap.specs.declared.error.kind.ErrorKind.{ErrorKind}
use Rattle.clap.specs.declared.error.kind.ErrorKind.TheVariants.{DisplayHelp, DisplayVersion}
use Rattle.ncp_play_command_line.specs.CommandLine.{order_in, program}
use Rattle.ncp_play_stream.specs.declared.source.Failed.{Failed}
use Rattle.ncp_play_notes.specs.declared.fault.PlayFault.{PlayFault}
use Rattle.ncp_play_notes.specs.Faults.{fault_line, WroteOrBegan}
use Rattle.ncp_play_program.specs.Orders.{Streams, Does}

-- the stream for faults: its bytes, if known, and whether a write to it has failed
pub record Telling : Type 0 where
  pub told : Option (List ℕ)
  pub failed : Bool

abbrev pub telling_of : Option (List ℕ) → Bool → Telling
telling_of told failed = record { told = told; failed = failed }

-- the output for an answer: for a fault its line, or a prefix if a write fails; for others nothing
abbrev pub PrintsFault : Result Bool PlayFault → Telling → Telling → Type 0
PrintsFault (Ok good) before now = now ≡ before
PrintsFault (Err fault) before now = (r : Result Unit Failed) × ((was : List ℕ) → before.told ≡ Some was → WroteOrBegan was (fault_line fault) r now.told) × (now.failed ≡ (before.failed || is_err r))

-- 0 if all is good, 1 if the answer is no, 2 after a fault
abbrev pub status_of : Result Bool Unit → ℕ
status_of (Ok true) = 0
status_of (Ok false) = 1
status_of (Err fault) = 2

-- the status after an answer: the same for all faults
abbrev pub status_after : Result Bool PlayFault → ℕ
status_after (Ok good) = status_of (Ok good)
status_after (Err fault) = status_of (Err tt)

-- the status after clap's message: 0 for help or the version, else that of a fault
abbrev pub status_of_kind : ErrorKind → ℕ
status_of_kind DisplayHelp = 0
status_of_kind DisplayVersion = 0
status_of_kind other = status_of (Err tt)

module _ (words : List Text) (before : Streams) (status : ℕ) (now : Streams) where
  -- clap finds no fault in the words; the order in them was carried out, and the status is that of its
  -- answer
  abbrev pub EndsCarried : Type 0
  EndsCarried = (fault_of program words ≡ []) × (answer : Result Bool PlayFault) × Does before answer now (order_in words) × (status ≡ status_after answer)

  -- clap finds a fault in the words, or allocation for them failed; the status is that of this error, and
  -- nothing was read or written
  abbrev pub EndsDeclined : Type 0
  EndsDeclined = (error : Error) × HasKind (fault_of program words) error × (status ≡ status_of_kind (kind_of error)) × (now ≡ before)

  -- the status after the words, regardless of the output about a fault
  abbrev pub Ends : Type 0
  Ends = EndsCarried ⊎ EndsDeclined

module _ (words : List Text) (before : Streams) (told : Telling) (status : ℕ) (now : Streams) (told_now : Telling) where
  -- clap finds no fault in the words; the order in them was carried out, a fault in its answer was
  -- printed, and the status is that of the answer
  abbrev pub CarriesOut : Type 0
  CarriesOut = (fault_of program words ≡ []) × (answer : Result Bool PlayFault) × Does before answer now (order_in words) × PrintsFault answer told told_now × (status ≡ status_after answer)

  -- clap finds a fault in the words, or allocation for them failed; the status is that of this error, and
  -- nothing was read, written or printed
  abbrev pub Declines : Type 0
  Declines = (error : Error) × HasKind (fault_of program words) error × (status ≡ status_of_kind (kind_of error)) × (now ≡ before) × (told_now ≡ told)

  abbrev pub Obeys : Type 0
  Obeys = CarriesOut ⊎ Declines
