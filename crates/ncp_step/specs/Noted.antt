-- A host's note of bits from the subnet, if there are any; and the state after it.
use Rattle.std.specs.Prelude.{ℕ, Bool, List, Option, None, Some}
use Rattle.ncp_subnet.specs.Ways.{OnLink}
use Rattle.ncp_subnet.specs.Subnet.{Subnet, with_transit}
use Rattle.ncp_host.specs.Host.{Host}
use Rattle.ncp_transcript.specs.declared.note.HostNote.{HostNote}
use Rattle.ncp_transcript.specs.Noting.{note_of_bits}
use Rattle.ncp_transcript.specs.After.{after_note}

abbrev pub note_if_any : Option (List Bool) → Host → Option HostNote
note_if_any None h = None
note_if_any (Some bits) h = Some (note_of_bits bits h)

abbrev pub after_noted : Option HostNote → Host → Host
after_noted None h = h
after_noted (Some note) h = after_note note h

-- if there were bits, the transit there after it
abbrev pub put_noted : Option HostNote → ℕ → ℕ → ℕ → OnLink → Subnet → Subnet
put_noted None from to link transit subnet = subnet
put_noted (Some note) from to link transit subnet = with_transit subnet from to link transit
