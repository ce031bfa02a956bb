-- Meant for other crates too: they cite what is public here.
--
-- Hosts go on by one event more, and by many.
use Rattle.std.proofs.Common.{◌≡◌, ℕ, Bool, true, false, List, [], ◌∷◌, ◌++◌, Option, None, Some, refl, sym, ap, ◌∙◌, subst}
use Rattle.std.proofs.lemmas.List.{append_assoc, append-nil}
use Rattle.ncp_subnet.specs.Messages.{arriving, answer_about}
use Rattle.ncp_host.specs.Turns.{next_output}
use Rattle.ncp_transcript.specs.Noting.{note_of_message}
use Rattle.ncp_transcript_two.specs.declared.side.Side.{Side}
use Rattle.ncp_transcript_two.specs.declared.event.Event.{Event}
use Rattle.ncp_transcript_two.specs.declared.note.Note.{Note}
use Rattle.ncp_transcript_two.specs.Between.{Hosts, other, side_number, host_of, transit_of, hosts_after_note, hosts_after_notes}
use Rattle.ncp_transcript_two.specs.Happening.{note_of_coming, note_of_answering, Noted}
use Rattle.ncp_transcript_two.specs.Transcript.{IsSaid, Noted_world}
use Rattle.ncp_transcript_two.proofs.Growing.{after_append}
use Rattle.ncp_proof_quiescence.specs.Settling.{ByItself, AllByThemselves, GoesOnce, GoesOn, says_nothing, IsTried}

-- A message that goes out, comes or is answered, where its note says something, does so by itself.

abbrev pub OfMessage : Event → Type 0
OfMessage (Event.Out side) = Unit {0}
OfMessage (Event.Deliver side link) = Unit {0}
OfMessage (Event.Answer side link) = Unit {0}
OfMessage event = ⊥

abbrev Own : Hosts → Note → Type 0
Own w note = says_nothing note ≡ false → ByItself note w

out-own : (side : Side) (o : Option (List Bool)) (w : Hosts) → Own w (Note.Out side (note_of_message o))
out-own side None w says = absurd (cc says)
out-own side (Some m) w says = tt

came-own : (side : Side) (link : ℕ) (o : Option (List Bool)) (w : Hosts) → Own w (note_of_coming side link o w)
came-own side link None w says = absurd (cc says)
came-own side link (Some bits) w says = tt

answered-own : (side : Side) (link : ℕ) (o : Option (List Bool)) (w : Hosts) → Own w (note_of_answering side link o w)
answered-own side link None w says = absurd (cc says)
answered-own side link (Some bits) w says = tt

own : (event : Event) (note : Note) (w : Hosts) → OfMessage event → Noted event note w → Own w note
own (Event.Call side call) note w u n = absurd u
own (Event.Out side) note w u n = subst (Own w) (sym n) (out-own side (next_output (host_of side w)) w)
own (Event.Deliver side link) note w u n = subst (Own w) (sym n) (came-own side link (arriving (side_number side w) (transit_of side link w)) w)
own (Event.Lose side link) note w u n = absurd u
own (Event.Dead side link) note w u n = absurd u
own (Event.Answer side link) note w u n = subst (Own w) (sym n) (answered-own side link (answer_about (side_number (other side) w) link (transit_of side link w)) w)

pub tried-once : (event : Event) (before now : Noted_world) → OfMessage event → IsTried event true before now → GoesOnce before now
tried-once event before now u (note, noted, says, longer, after) = (note, (event, noted), own event note before.hosts u noted says, longer, after)

-- By many.

pub on-begun : (before : Noted_world) → GoesOn before before
on-begun before = ([], tt, sym (append-nil before.notes), refl)

all-append : (made : List Note) (note : Note) (w : Hosts) → AllByThemselves made w → IsSaid note (hosts_after_notes made w) → ByItself note (hosts_after_notes made w) → AllByThemselves (made ++ note ∷ []) w
all-append [] note w a said b = (said, b, tt)
all-append (n ∷ ns) note w a said b = (a.0, a.1, all-append ns note (hosts_after_note n w) a.2 said b)

pub on-further : (before next now : Noted_world) → GoesOn before next → GoesOnce next now → GoesOn before now
on-further before next now (made, all, longer, after) (note, said, b, more, last) = (
  made ++ note ∷ [],
  all-append made note before.hosts all (subst (IsSaid note) after said) (subst (ByItself note) after b),
  more ∙ ap (λ (ns : List Note). ns ++ note ∷ []) longer ∙ append_assoc before.notes made (note ∷ []),
  last ∙ ap (hosts_after_note note) after ∙ sym (after_append made (note ∷ []) before.hosts),
)
