-- Meant for other crates too: they cite what is public here.
--
-- Nothing can happen to two new hosts but a call.
use Rattle.std.proofs.Common.{◌≡◌, ◌≢◌, ◌<◌, ◌^◌, ℕ, ◌==◌, Bool, true, false, if◌then◌else◌, List, [], ◌∷◌, Option, None, refl, sym, ap, ◌∙◌, subst}
use Rattle.ncp_slot.specs.Slots.{LinkSlot}
use Rattle.ncp_slot.proofs.Places.{slot_at-no_slots}
use Rattle.ncp_model.specs.Effect.{answer}
use Rattle.ncp_model.specs.Ends.{no_ends, cut_in}
use Rattle.ncp_proof_machine.proofs.Standing.{nothing_out}
use Rattle.ncp_peer.specs.PeerState.{PeerState, new_state}
use Rattle.ncp_peer.specs.Output.{next_of, links, first_or, first_output, output_by, output_on, text_message}
use Rattle.ncp_transcript_two.specs.Subnet.{TransitByLink, Free}
use Rattle.ncp_transcript_two.specs.Between.{new_hosts}
use Rattle.ncp_transcript_two.specs.Transcript.{IsTranscript}
use Rattle.ncp_transcript_two.specs.Seen.{seen}
use Rattle.ncp_transcript_two.proofs.Headlines.{new}
use Rattle.ncp_proof_quiescence.specs.Settled.{is_held, IsStill, IsSettled}

none-first : (n : ℕ) (s : PeerState) (ons : List ℕ) → ((on : ℕ) → output_on n on s ≡ None) → first_output n ons s ≡ None
unfolding first_output
none-first n s [] h = refl
none-first n s (on ∷ ons) h = ap (λ (o : Option (List Bool)). first_or on o (first_output n ons s)) (h on) ∙ none-first n s ons h

none-new : (n on : ℕ) → output_on n on new_state ≡ None
none-new n on = ap (λ (x : LinkSlot). output_by x n on new_state.peer) (slot_at-no_slots on) ∙ go (on == 0)
  where
    go : (b : Bool) → (if b then None else text_message n on (answer (cut_in on no_ends))) ≡ None
    go true = refl
    go false = ap (λ (o : Option (ℕ × List Bool)). text_message n on o) (nothing_out on)

pub new-none : (there : ℕ) → next_of there new_state ≡ None
new-none there = none-first there new_state links (none-new there)

new-still : (there : ℕ) (s : PeerState) (u : TransitByLink) → s ≡ new_state → ((on : ℕ) → u on ≡ Free) → IsStill there s u
new-still there s u e f = subst (λ (x : PeerState). IsStill there x u) (sym e) (record {
  out = new-none there;
  free = λ on h. f on;
  awake = λ on h. ap is_held (slot_at-no_slots on);
})

pub new-settled : (a b : ℕ) → a ≢ b → a < 2 ^ 8 → b < 2 ^ 8 → IsSettled (seen (new_hosts a b))
new-settled a b d l h =
    let t : IsTranscript [] (new_hosts a b) = record { differ = d; fits_a = l; fits_b = h; run = tt; state = refl } in
    let k = new [] (new_hosts a b) t in
    (new-still b (seen (new_hosts a b)).this (seen (new_hosts a b)).going k.this k.going, new-still a (seen (new_hosts a b)).that (seen (new_hosts a b)).coming k.that k.coming)
