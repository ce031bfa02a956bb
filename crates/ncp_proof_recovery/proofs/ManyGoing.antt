-- Meant for other crates too: they cite what is public here.
--
-- Two to eight hosts go on by one event more, and by many.
use Rattle.std.proofs.Common.{◌≡◌, ℕ, Bool, true, false, List, [], ◌∷◌, ◌++◌, Option, None, Some, refl, sym, ap, ◌∙◌, subst}
use Rattle.std.proofs.lemmas.List.{append_assoc, append-nil}
use Rattle.ncp_subnet.specs.Messages.{arriving, answer_about}
use Rattle.ncp_host.specs.Turns.{next_output}
use Rattle.ncp_transcript.specs.Noting.{note_of_message}
use Rattle.ncp_transcript_two.specs.declared.side.Side.TheVariants.{A}
use Rattle.ncp_transcript_two.specs.declared.note.Note.{Note}
use Rattle.ncp_transcript_two.specs.Between.{Hosts, transit_of}
use Rattle.ncp_transcript_two.specs.Happening.{note_of_coming, note_of_answering}
use Rattle.ncp_transcript_many.specs.declared.many_event.ManyEvent.{ManyEvent}
use Rattle.ncp_transcript_many.specs.declared.many_note.ManyNote.{ManyNote}
use Rattle.ncp_transcript_many.specs.Network.{Network, host_at, between, after_many, after_many_notes}
use Rattle.ncp_transcript_many.specs.ManyHappening.{are_there, by_numbers, IfThere, ManyNoted}
use Rattle.ncp_transcript_many.specs.ManyTranscript.{IsManySaid, Noted_many}
use Rattle.ncp_transcript_many.proofs.ManyRuns.{after-append}
use Rattle.ncp_proof_recovery.specs.ManySettling.{ManyByItself, AllManyByThemselves, ManyGoOnce, ManyGoOn, many_says_nothing, IsManyTried}

-- A message that goes out, comes or is answered, where its note says something, does so by itself.

abbrev pub OfMessage : ManyEvent → Type 0
OfMessage (ManyEvent.Out host) = Unit {0}
OfMessage (ManyEvent.Deliver from to link) = Unit {0}
OfMessage (ManyEvent.Answer from to link) = Unit {0}
OfMessage event = ⊥

abbrev Own : Network → ManyNote → Type 0
Own m note = many_says_nothing note ≡ false → ManyByItself note m

out-own : (host : ℕ) (o : Option (List Bool)) (m : Network) → Own m (ManyNote.Out host (note_of_message o))
out-own host None m says = absurd (cc says)
out-own host (Some message) m says = tt

came-own : (from to link : ℕ) (o : Option (List Bool)) (w : Hosts) (m : Network) → Own m (by_numbers from to (note_of_coming A link o w))
came-own from to link None w m says = absurd (cc says)
came-own from to link (Some bits) w m says = tt

answered-own : (from to link : ℕ) (o : Option (List Bool)) (w : Hosts) (m : Network) → Own m (by_numbers from to (note_of_answering A link o w))
answered-own from to link None w m says = absurd (cc says)
answered-own from to link (Some bits) w m says = tt

own-there : (event : ManyEvent) (note : ManyNote) (m : Network) (b : Bool) → OfMessage event → IfThere b event note m → Own m note
own-there event note m false u n = subst (Own m) (sym n) (λ says. absurd (cc says))
own-there (ManyEvent.Call host call) note m true u n = absurd u
own-there (ManyEvent.Lose from to link) note m true u n = absurd u
own-there (ManyEvent.Dead from to link) note m true u n = absurd u
own-there (ManyEvent.Out host) note m true u n = subst (Own m) (sym (n.said ∙ ap (by_numbers host host) n.noted)) (out-own host (next_output (host_at host m)) m)
own-there (ManyEvent.Deliver from to link) note m true u n =
    let w : Hosts = between from to m in
    subst (Own m) (sym (n.said ∙ ap (by_numbers from to) n.noted)) (came-own from to link (arriving from (transit_of A link w)) w m)
own-there (ManyEvent.Answer from to link) note m true u n =
    let w : Hosts = between from to m in
    subst (Own m) (sym (n.said ∙ ap (by_numbers from to) n.noted)) (answered-own from to link (answer_about to link (transit_of A link w)) w m)

pub tried-once : (event : ManyEvent) (before now : Noted_many) → OfMessage event → IsManyTried event true before now → ManyGoOnce before now
tried-once event before now u (note, noted, says, longer, after) = (note, (event, noted), own-there event note before.hosts (are_there event before.hosts) u noted says, longer, after)

-- By many.

pub on-begun : (before : Noted_many) → ManyGoOn before before
on-begun before = ([], tt, sym (append-nil before.notes), refl)

all-append : (made : List ManyNote) (note : ManyNote) (m : Network) → AllManyByThemselves made m → IsManySaid note (after_many_notes made m) → ManyByItself note (after_many_notes made m) → AllManyByThemselves (made ++ note ∷ []) m
all-append [] note m a said b = (said, b, tt)
all-append (n ∷ ns) note m a said b = (a.0, a.1, all-append ns note (after_many n m) a.2 said b)

pub on-further : (before next now : Noted_many) → ManyGoOn before next → ManyGoOnce next now → ManyGoOn before now
on-further before next now (made, all, longer, after) (note, said, b, more, last) = (
  made ++ note ∷ [],
  all-append made note before.hosts all (subst (IsManySaid note) after said) (subst (ManyByItself note) after b),
  more ∙ ap (λ (ns : List ManyNote). ns ++ note ∷ []) longer ∙ append_assoc before.notes made (note ∷ []),
  last ∙ ap (after_many note) after ∙ sym (after-append made (note ∷ []) before.hosts),
)
