-- A host with its transcript.
use Rattle.std.specs.Prelude.{◌≡◌, List, [], ◌∷◌, ◌++◌}
use Rattle.ncp_host.specs.Host.{Host}
use Rattle.ncp_transcript.specs.declared.input.Input.{Input}
use Rattle.ncp_transcript.specs.declared.note.HostNote.{HostNote}
use Rattle.ncp_transcript.specs.After.{after_note}
use Rattle.ncp_transcript.specs.Noting.{HostNoted}

pub record Alone : Type 0 where
  pub host : Host
  pub notes : List HostNote

-- one input: it appends a correct note, and leaves the host in the state after it
abbrev pub IsHostStep : Input → Alone → Alone → Type 0
IsHostStep input before now =
    (note : HostNote) × HostNoted input note before.host × (now.notes ≡ before.notes ++ note ∷ []) × (now.host ≡ after_note note before.host)

-- inputs in order
abbrev pub AreHostSteps : List Input → Alone → Alone → Type 0
AreHostSteps [] before now = now ≡ before
AreHostSteps (input ∷ inputs) before now = (next : Alone) × IsHostStep input before next × AreHostSteps inputs next now
