-- Arrivals from the subnet, as the note of a host names them.
use Rattle.std.specs.Prelude.{◌≡◌, ℕ, Bool, List}
use Rattle.ncp_wire.specs.declared.answer.Answer.{Answer}
use Rattle.ncp_peer.specs.declared.received.Received.{Received}
use Rattle.ncp_subnet.specs.Messages.{host_in, link_in}
use Rattle.ncp_transcript.specs.declared.note.HostNote.{HostNote}
use Rattle.ncp_transcript.specs.declared.note.HostNote.TheVariants.{In, Answered}

-- a message from the host with this number, on this link
abbrev pub IsMessageFrom : ℕ → ℕ → HostNote → Type 0
IsMessageFrom number link note = (message : List Bool) × (received : Received) × (note ≡ In message received) × (host_in message ≡ number) × (link_in message ≡ link)

-- the answer to a message sent to the host with this number, on this link
abbrev pub IsAnswerAbout : ℕ → ℕ → HostNote → Type 0
IsAnswerAbout number link note = (how : Answer) × (received : Received) × (note ≡ Answered number link how received)
