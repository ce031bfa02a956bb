-- Three hosts begin: a run in which a host is reset, one is asked, and nothing is in transit.
use Rattle.std.proofs.Common.{true, false, inl, refl, sym, ap}
use Rattle.ncp_subnet.specs.Messages.{arriving}
use Rattle.ncp_subnet.specs.Ways.{OnLink}
use Rattle.ncp_subnet.proofs.NewRows.{transit-new}
use Rattle.ncp_transcript.specs.declared.call.Call.TheVariants as calls
use Rattle.ncp_transcript.specs.declared.note.HostNote.TheVariants as of_host
use Rattle.ncp_transcript_two.specs.declared.side.Side.TheVariants.{A}
use Rattle.ncp_transcript_two.specs.declared.note.Move.TheVariants as moves
use Rattle.ncp_transcript_two.specs.declared.note.Note.TheVariants as notes
use Rattle.ncp_transcript_two.specs.Happening.{note_of_coming}
use Rattle.ncp_transcript_many.specs.declared.many_event.ManyEvent.TheVariants as events
use Rattle.ncp_transcript_many.specs.declared.many_note.ManyNote.TheVariants as many
use Rattle.ncp_transcript_many.specs.Network.{Network, between, after_many}
use Rattle.ncp_transcript_many.specs.ManyHappening.{ManyNoted}
use Rattle.ncp_transcript_many.specs.ManyTranscript.{AreManyNotes}
use Rattle.ncp_transcript_many.specs.Examples.{three_hosts, three_new, first_events, first_notes}

reset : ManyNoted (events.Call 1 (calls.Reset 2)) (many.Called 1 (of_host.Done (calls.Reset 2))) three_new
reset = record {
  two = notes.Called A (of_host.Done (calls.Reset 2));
  noted = record { of_host = of_host.Done (calls.Reset 2); said = refl; noted = inl refl; fits = tt };
  said = refl;
}

abbrev was_reset : Network
was_reset = after_many (many.Called 1 (of_host.Done (calls.Reset 2))) three_new

asked : ManyNoted (events.Call 2 (calls.Phase 1)) (many.Called 2 (of_host.Phase 1 (record { down = true; want = false; owe = false; wait = false }))) was_reset
asked = record {
  two = notes.Called A (of_host.Phase 1 (record { down = true; want = false; owe = false; wait = false }));
  noted = record { of_host = of_host.Phase 1 (record { down = true; want = false; owe = false; wait = false }); said = refl; noted = inl refl; fits = tt };
  said = refl;
}

abbrev was_asked : Network
was_asked = after_many (many.Called 2 (of_host.Phase 1 (record { down = true; want = false; owe = false; wait = false }))) was_reset

none-comes : ManyNoted (events.Deliver 1 3 0) (many.Nothing (events.Deliver 1 3 0)) was_asked
none-comes = record {
  two = notes.Nothing A 0 moves.Deliver;
  noted = ap (λ (t : OnLink). note_of_coming A 0 (arriving 1 t) (between 1 3 was_asked)) (sym (transit-new three_hosts 1 3 0));
  said = refl;
}

pub begins : AreManyNotes first_events first_notes three_new
begins = (reset, (asked, (none-comes, (refl, tt))))
