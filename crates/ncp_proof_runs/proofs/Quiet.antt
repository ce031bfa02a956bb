-- The data links are quiet where their notes say so.
use Rattle.std.proofs.Common.{◌≡◌, ℕ, Bool, true, false, not, ◌&&◌, if◌then◌else◌, List, [], ◌∷◌, Option, None, Some, refl, ap, ◌∙◌}
use Rattle.std.specs.List.{list_all}
use Rattle.ncp_slot.specs.declared.slot.Slot.TheVariants.{Travelling}
use Rattle.ncp_wire.specs.declared.answer.Answer.{Answer}
use Rattle.ncp_wire.specs.declared.answer.Answer.TheVariants.{Rfnm, Incomplete, Dead}
use Rattle.ncp_slot.specs.Slot.{is_empty}
use Rattle.ncp_slot.specs.Slots.{LinkSlots, slot_at, data_links, is_quiet}
use Rattle.ncp_peer.specs.PeerState.{PeerState}
use Rattle.ncp_host.specs.Host.{state_of, new_host}
use Rattle.ncp_transcript.specs.declared.note.HostNote.{HostNote}
use Rattle.ncp_transcript.specs.After.{after_notes}
use Rattle.ncp_proof_runs.specs.Peers.{FromBeginning, notes_of_peer}
use Rattle.ncp_proof_runs.specs.Links.{LinkSoFar, takes_fresh, slot_of_answer, slot_so_far, is_quiet_noted, noted_on}
use Rattle.ncp_proof_runs.proofs.InRuns.{slot_as_noted}

empty-after : (a : Option Answer) (w : Bool) (f : List Bool) → is_empty (slot_of_answer a w f) ≡ takes_fresh a
empty-after None w f = refl
empty-after (Some Rfnm) w f = refl
empty-after (Some Incomplete) w f = refl
empty-after (Some Dead) true f = refl
empty-after (Some Dead) false f = refl

empty-by : (u : Bool) (a : Option Answer) (w : Bool) (f : List Bool) → is_empty (if u then Travelling f else slot_of_answer a w f) ≡ (not u && takes_fresh a)
empty-by true a w f = refl
empty-by false a w f = empty-after a w f

empty-told : (t : LinkSoFar) → is_empty (slot_so_far t) ≡ is_quiet_noted t
empty-told t = empty-by t.unanswered t.answer t.woken t.fresh

all-same : (f g : ℕ → Bool) (ons : List ℕ) → ((on : ℕ) → f on ≡ g on) → list_all f ons ≡ list_all g ons
all-same f g [] same = refl
all-same f g (on ∷ ons) same = ap (λ (b : Bool). b && list_all f ons) (same on) ∙ ap (λ (b : Bool). g on && b) (all-same f g ons same)

quiet-is : (slots : LinkSlots) → is_quiet slots ≡ list_all (λ on. is_empty (slot_at slots on)) data_links
unfolding is_quiet
quiet-is slots = refl

pub quiet_as_noted : (me : ℕ) (ns : List ℕ) (all : List HostNote) (n : ℕ) (s : PeerState) → FromBeginning me ns all → state_of (after_notes all (new_host me ns)) n ≡ Some s → is_quiet s.slots ≡ list_all (λ on. is_quiet_noted (noted_on on (notes_of_peer n all))) data_links
quiet_as_noted me ns all n s from e =
    quiet-is s.slots
    ∙ all-same (λ on. is_empty (slot_at s.slots on)) (λ on. is_quiet_noted (noted_on on (notes_of_peer n all))) data_links
    (λ on. ap is_empty (slot_as_noted me ns all n on s from e) ∙ empty-told (noted_on on (notes_of_peer n all)))
