-- The headline, of transcripts.
use Rattle.std.proofs.Common.{◌≡◌, ◌≢◌, ℕ, ◌==◌, Bool, true, false, if◌then◌else◌, List, [], ◌∷◌, None, Some, refl, sym, ap, ◌∙◌, subst}
use Rattle.std.proofs.lemmas.Bool.{eq-eqb, ne_eqb}
use Rattle.ncp_proof_machine.specs.Resets.{Party}
use Rattle.ncp_peer.specs.PeerState.{new_state}
use Rattle.ncp_subnet.specs.Subnet.{has_way, new_subnet}
use Rattle.ncp_subnet.proofs.NewRows.{has_way-new, transit-new}
use Rattle.ncp_transcript_two.specs.World.{World, WorldEvent, swap, world_run_from, notes_from}
use Rattle.ncp_transcript_two.specs.World as worlds
use Rattle.ncp_transcript_two.specs.Honest.{IsHonest, IsPrefixWithin, Repeats, number_of_side, sent, came, message_events_in}
use Rattle.ncp_transcript_two.specs.Refused.{any_refused}
use Rattle.ncp_transcript_two.specs.Watch.{Both, no_histories, histories_from}
use Rattle.ncp_transcript_two.specs.Tie.{IsNewWorld, Refines}
use Rattle.ncp_transcript_two.specs.declared.note.Note.{Note}
use Rattle.ncp_transcript_two.specs.Between.{Hosts}
use Rattle.ncp_transcript_two.specs.Transcript.{began, IsTranscript}
use Rattle.ncp_transcript_two.specs.Seen.{state_or_new, seen, told}
use Rattle.ncp_transcript_two.specs.OfRules.{histories_of, IsOfRules, IsOfModelsHosts}
use Rattle.ncp_transcript_two.proofs.Runs.{OfModelWith, run-watched, new-watched, new-ties}
use Rattle.ncp_proof_machine.specs.Hosts as hosts
use Rattle.ncp_transcript_two.proofs.Reaching.{reached-run}
use Rattle.ncp_transcript_two.proofs.Refusals.{none-refused}
use Rattle.ncp_transcript_two.proofs.Turns.{Flight, Idle, Flies, honest, begins, repeats}
use Rattle.ncp_transcript_two.proofs.Flights.{flies, new-idle}
use Rattle.ncp_transcript_two.proofs.SeenSteps.{Stand}
use Rattle.ncp_transcript_two.proofs.SeenRuns.{Follows, follows}

-- A new world.

two : (a b : ℕ) → a ≢ b → has_way (new_subnet (a ∷ b ∷ [])) a b ≡ true
two a b differ =
    has_way-new (a ∷ b ∷ []) a b
    ∙ rw (eq-eqb a a refl, eq-eqb b b refl, ne_eqb a b differ) refl

back : (a b : ℕ) → a ≢ b → has_way (new_subnet (a ∷ b ∷ [])) b a ≡ true
back a b differ =
    has_way-new (a ∷ b ∷ []) b a
    ∙ rw (eq-eqb a a refl, eq-eqb b b refl, ne_eqb a b differ, ne_eqb b a (λ e. differ (sym e))) refl

new-state : (n : ℕ) → state_or_new (if n == n then Some new_state else None) ≡ new_state
new-state n = ap (λ (b : Bool). state_or_new (if b then Some new_state else None)) (eq-eqb n n refl)

module _ (ns : List Note) (w : Hosts) (t : IsTranscript ns w) where
  abbrev first : World
  first = seen (began w)

  pub stands : Stand (began w)
  stands = record {
    differ = t.differ;
    fits_a = t.fits_a;
    fits_b = t.fits_b;
    a = refl;
    b = refl;
    to_b = two w.number_a w.number_b t.differ;
    to_a = back w.number_a w.number_b t.differ;
  }

  pub new : IsNewWorld first
  new = record {
    here = t.fits_a;
    there = t.fits_b;
    this = new-state w.number_b;
    that = new-state w.number_a;
    going = λ on. transit-new (w.number_a ∷ w.number_b ∷ []) w.number_a w.number_b on;
    coming = λ on. transit-new (w.number_a ∷ w.number_b ∷ []) w.number_b w.number_a on;
  }

  f : Follows ns (began w) first
  f = follows ns (began w) t.run stands (new-ties first new)

  last : world_run_from f.events first ≡ seen w
  last = f.state ∙ ap seen (sym t.state)

  pub of-rules : IsOfRules ns w
  of-rules = (f.events, f.are, last, f.said, f.watches no_histories)

  pub watched-all : OfModelWith (histories_of ns w) (seen w)
  watched-all =
      subst (λ (p : Both). OfModelWith p (seen w)) (f.watches no_histories)
      (subst (OfModelWith (histories_from f.events first no_histories)) last (run-watched f.events first no_histories f.are (new-watched first new)))

  pub of-model : IsOfModelsHosts ns w
  of-model =
      let m = watched-all in
      let r = reached-run m.1.reached in (
        r.0,
        subst (λ (x : hosts.TwoNodes). Refines x (seen w)) (sym r.1) m.1,
        ap (λ (x : hosts.TwoNodes). x.this.pasts) r.1 ∙ ap (λ (b : Both). b.this) m.2,
        ap (λ (x : hosts.TwoNodes). x.that.pasts) r.1 ∙ ap (λ (b : Both). b.that) m.2,
      )

  pub none-is-refused : any_refused (told ns) ≡ false
  none-is-refused = subst (λ (ms : List worlds.WorldNote). any_refused ms ≡ false) f.said (none-refused f.events first f.are (new-ties first new))

  each : (side : Party) (on : ℕ) → Flies (number_of_side w.number_a w.number_b side) Idle (message_events_in side on (told ns))
  each side on =
      subst (λ (ms : List worlds.WorldNote). Flies (number_of_side w.number_a w.number_b side) Idle (message_events_in side on ms)) f.said
      (subst (λ (g : Flight). Flies (number_of_side w.number_a w.number_b side) g (message_events_in side on (notes_from f.events first))) (new-idle first new side on) (flies f.events first f.are (new-ties first new) side on))

  pub is-honest : IsHonest w.number_a w.number_b (told ns)
  is-honest side on = honest (number_of_side w.number_a w.number_b side) Idle (message_events_in side on (told ns)) (each side on)

  pub came-begins : (side : Party) (on : ℕ) → IsPrefixWithin 1 (came side on (told ns)) (sent (number_of_side w.number_a w.number_b side) side on (told ns))
  came-begins side on = begins (number_of_side w.number_a w.number_b side) Idle true (message_events_in side on (told ns)) refl (each side on)

  pub goes-again : (side : Party) (on : ℕ) → Repeats side on (told ns)
  goes-again side on = repeats (number_of_side w.number_a w.number_b side) Idle [] true (message_events_in side on (told ns)) refl tt (each side on)
