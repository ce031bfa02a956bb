-- The recording of one host's interface while the host runs and its IMP is reset, and that an audit of it
-- reports no violation by the host.
use Rattle.std.specs.Prelude.{◌≡◌, ◌<◌, ℕ, ◌==◌, ◌&&◌, Bool, true, false, List, [], ◌∷◌, ◌++◌, Option, None, Some, is_none, if◌then◌else◌}
use Rattle.std.specs.List.{list_all}
use Rattle.ncp_host.specs.Host.{is_one_of, are_peers}
use Rattle.ncp_host.specs.Restarting.{incomplete_bits}
use Rattle.ncp_transcript.specs.declared.input.Input.{Input}
use Rattle.ncp_transcript.specs.declared.note.HostNote.{HostNote}
use Rattle.ncp_transcript.specs.Alone.{Alone, AreHostSteps}
use Rattle.ncp_monitor.specs.declared.finding.Finding.{Finding}
use Rattle.ncp_monitor.specs.declared.finding.Rule.{Rule}
use Rattle.ncp_monitor.specs.declared.monitor.Monitor.{Monitor}
use Rattle.ncp_interface.specs.declared.imp_direction.ImpDirection.{ImpDirection}
use Rattle.ncp_interface.specs.declared.imp_direction.ImpDirection.TheVariants.{FromImp}
use Rattle.ncp_interface.specs.declared.notice.ImpNotice.{ImpNotice}
use Rattle.ncp_interface.specs.declared.notice.ImpNotice.TheVariants as notice
use Rattle.ncp_monitor.specs.Judged.{new_monitor}
use Rattle.ncp_monitor.specs.Resets.{judged_findings, after_judged}
use Rattle.ncp_interface.specs.Notices.{notice_of}
use Rattle.ncp_proof_monitor_messages.specs.Files.{findings_in}
use Rattle.ncp_proof_monitor.specs.Recordings.{passes_with, begun_alone, AreFit, spares, at_interface}

-- ---- the run

-- What happens at a host's interface: an input; or a notice of its IMP, for which the host takes an
-- Incomplete Transmission on each of these links, a peer's number and a link. On the wire these
-- Incompletes do not pass: the notice stands for them.
pub data Happening : Type 0 where
  Given : (input : Input) → Happening
  Noticed : (bits : List Bool) → (links : List (ℕ × ℕ)) → Happening

-- the inputs of the host
abbrev pub incompletes_on : List (ℕ × ℕ) → List Input → List Input
incompletes_on [] more = more
incompletes_on (one ∷ links) more = Input.In (incomplete_bits one.0 one.1) ∷ incompletes_on links more

abbrev pub inputs_of : List Happening → List Input
inputs_of [] = []
inputs_of (Given input ∷ more) = input ∷ inputs_of more
inputs_of (Noticed bits links ∷ more) = incompletes_on links (inputs_of more)

-- a notice covers a link: a reset all of them, the refusal of a message its link
abbrev pub covers : ImpNotice → ℕ × ℕ → Bool
covers notice.InterfaceReset one = true
covers (notice.MessageRefused peer link) one = one.0 == peer && one.1 == link

abbrev pub covers_all : Option ImpNotice → List (ℕ × ℕ) → Bool
covers_all None links = false
covers_all (Some notice) links = list_all (covers notice) links

-- links of the host's peers
abbrev pub AreLinks : List ℕ → List (ℕ × ℕ) → Type 0
AreLinks ns [] = Unit {0}
AreLinks ns (one ∷ links) = (is_one_of one.0 ns ≡ true) × (one.1 < 256) × AreLinks ns links

-- each notice is one, and covers the links on which the host takes an Incomplete
abbrev pub AreNoticed : List ℕ → List Happening → Type 0
AreNoticed ns [] = Unit {0}
AreNoticed ns (Given input ∷ more) = AreNoticed ns more
AreNoticed ns (Noticed bits links ∷ more) = (covers_all (notice_of FromImp bits) links ≡ true) × AreLinks ns links × AreNoticed ns more

-- ---- its recording

-- the notes that follow those of the Incompletes
abbrev pub notes_following : List (ℕ × ℕ) → List HostNote → List HostNote
notes_following [] noted = noted
notes_following (one ∷ links) [] = []
notes_following (one ∷ links) (note ∷ noted) = notes_following links noted

abbrev pub recording_of : List Happening → List HostNote → List (ImpDirection × List Bool)
recording_of [] noted = []
recording_of (Given input ∷ more) [] = []
recording_of (Given input ∷ more) (note ∷ noted) = passes_with input note ++ recording_of more noted
recording_of (Noticed bits links ∷ more) noted = (FromImp, bits) ∷ recording_of more (notes_following links noted)

-- ---- its findings

-- those of the records at a host's interface, if an audit reads the whole file
abbrev pub judged_at : Monitor → ℕ → List (ℕ × ImpDirection × List Bool) → List Finding
judged_at monitor me [] = []
judged_at monitor me (one ∷ more) = (if one.0 == me then judged_findings monitor one.1 one.0 one.2 else []) ++ judged_at (after_judged monitor one.1 one.0 one.2) me more

-- If the records at a host's interface are its whole recording, an audit reports no violation by the host
-- of one of these rules. This holds for any calls, any received bits, any resets of its IMP, and any other
-- records of the file, if the numbers of the host and its peers fit a leader, and those of all calls fit
-- commands. The host may take each reset for what it is, for some of its peers alone, or not at all.
abbrev pub NobodyBlamedThroughResets : (Rule → Bool) → Type 0
NobodyBlamedThroughResets judged =
    (me : ℕ) (ns : List ℕ) (given : List Happening) (now : Alone) (file : List (ℕ × ImpDirection × List Bool))
    → are_peers me ns ≡ true → ((n : ℕ) → is_one_of n ns ≡ true → n < 256) → me < 256 → AreNoticed ns given → AreFit (inputs_of given)
    → AreHostSteps (inputs_of given) (begun_alone me ns) now → at_interface me file ≡ recording_of given now.notes
    → list_all (spares judged me) (judged_at (new_monitor false) me file) ≡ true

-- ---- files without resets

abbrev pub has_no_notice : ℕ × ImpDirection × List Bool → Bool
has_no_notice one = is_none (notice_of one.1 one.2)

-- the findings in a file, in order, and the monitor after it
abbrev pub judged_in : Monitor → List (ℕ × ImpDirection × List Bool) → List Finding
judged_in monitor [] = []
judged_in monitor (one ∷ more) = judged_findings monitor one.1 one.0 one.2 ++ judged_in (after_judged monitor one.1 one.0 one.2) more

-- If no IMP is reset and refuses no message, an audit finds what it would if it knew of neither.
abbrev pub WithoutNotices : Type 0
WithoutNotices = (part : Bool) (file : List (ℕ × ImpDirection × List Bool)) → list_all has_no_notice file ≡ true → judged_in (new_monitor part) file ≡ findings_in (new_monitor part) file
