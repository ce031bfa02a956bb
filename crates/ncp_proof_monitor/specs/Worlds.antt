-- The records at the interfaces of two hosts with the subnet between them, in one file, as `ncp record`
-- writes it; and that an audit of it reports no violation by either at its own interface.
use Rattle.std.specs.Prelude.{◌≡◌, ◌≢◌, ◌<◌, ℕ, Bool, true, false, List, [], ◌∷◌, ◌++◌, Option, None, Some}
use Rattle.std.specs.List.{list_all}
use Rattle.ncp_subnet.specs.Messages.{arriving, answer_about}
use Rattle.ncp_transcript.specs.declared.note.HostNote.{HostNote}
use Rattle.ncp_transcript_two.specs.declared.side.Side.{Side}
use Rattle.ncp_transcript_two.specs.declared.event.Event.{Event}
use Rattle.ncp_transcript_two.specs.declared.note.Note.{Note}
use Rattle.ncp_transcript_two.specs.Between.{Hosts, new_hosts, other, side_number, transit_of, hosts_after_note}
use Rattle.ncp_transcript_two.specs.Transcript.{Noted_world, new_world, AreSteps}
use Rattle.ncp_monitor.specs.declared.finding.Rule.{Rule}
use Rattle.ncp_interface.specs.declared.imp_direction.ImpDirection.{ImpDirection}
use Rattle.ncp_interface.specs.declared.imp_direction.ImpDirection.TheVariants.{ToImp, FromImp}
use Rattle.ncp_monitor.specs.Judged.{new_monitor}
use Rattle.ncp_proof_monitor.specs.Recordings.{spares, found_at}

-- the record of bits that arrive at a host, if any do
abbrev pub comes_to : ℕ → Option (List Bool) → List (ℕ × ImpDirection × List Bool)
comes_to host None = []
comes_to host (Some bits) = (host, FromImp, bits) ∷ []

-- the record of a message that a host sends, from its note
abbrev pub goes_from : ℕ → HostNote → List (ℕ × ImpDirection × List Bool)
goes_from host (HostNote.Out message) = (host, ToImp, message) ∷ []
goes_from host note = []

abbrev pub records_going_out : Note → Hosts → List (ℕ × ImpDirection × List Bool)
records_going_out (Note.Out side note) w = goes_from (side_number side w) note
records_going_out note w = []

-- the record of an event: a message that is sent, one that the subnet delivers, or an answer of the
-- subnet
abbrev pub passes_between : Event → Note → Hosts → List (ℕ × ImpDirection × List Bool)
passes_between (Event.Call side call) note w = []
passes_between (Event.Out side) note w = records_going_out note w
passes_between (Event.Deliver side link) note w = comes_to (side_number (other side) w) (arriving (side_number side w) (transit_of side link w))
passes_between (Event.Lose side link) note w = []
passes_between (Event.Dead side link) note w = []
passes_between (Event.Answer side link) note w = comes_to (side_number side w) (answer_about (side_number (other side) w) link (transit_of side link w))

-- the records of all events, with their notes, in order
abbrev pub world_file : List Event → List Note → Hosts → List (ℕ × ImpDirection × List Bool)
world_file [] noted w = []
world_file (event ∷ more) [] w = []
world_file (event ∷ more) (note ∷ noted) w = passes_between event note w ++ world_file more noted (hosts_after_note note w)

-- For two hosts with the subnet between them, and for any calls and any events of the subnet in any
-- order, no finding is that a host broke one of these rules at its own interface.
abbrev pub NeitherBlamed : (Rule → Bool) → Type 0
NeitherBlamed judged =
    (a b : ℕ) (given : List Event) (now : Noted_world) (side : Side)
    → a ≢ b → a < 256 → b < 256 → AreSteps given (new_world a b) now
    → list_all (spares judged (side_number side (new_hosts a b))) (found_at (new_monitor false) (side_number side (new_hosts a b)) (world_file given now.notes (new_hosts a b))) ≡ true
