-- What became of a message between two hosts by their sides, and between two of many.
use Rattle.std.proofs.Common.{◌≡◌, ℕ, ◌==◌, Bool, true, false, not, ◌&&◌, if◌then◌else◌, List, Option, None, Some, refl, sym, ap, ◌∙◌}
use Rattle.std.proofs.lemmas.Bool.{eqb-false}
use Rattle.ncp_subnet.specs.Subnet.{transit_at}
use Rattle.ncp_transcript_two.specs.declared.side.Side.{Side}
use Rattle.ncp_transcript_two.specs.declared.side.Side.TheVariants.{A, B}
use Rattle.ncp_transcript_two.specs.declared.note.Note.{Note}
use Rattle.ncp_transcript_two.specs.Between.{Hosts, transit_of}
use Rattle.ncp_transcript_two.specs.Transcript.{IsTranscript}
use Rattle.ncp_proof_promises.specs.Taking.{IsTaken, EveryOutputAccepted}
use Rattle.ncp_transcript_many.specs.declared.many_note.ManyNote.{ManyNote}
use Rattle.ncp_transcript_many.specs.Network.{Network, is_there}
use Rattle.ncp_transcript_many.specs.ManyHappening.{are_two}
use Rattle.ncp_transcript_many.specs.ManyTranscript.{IsManyTranscript}
use Rattle.ncp_transcript_many.specs.NotesOfTwo.{ForEachNoteOfTwo}
use Rattle.ncp_web.specs.declared.transit.TransitState.{TransitState}
use Rattle.ncp_web.specs.declared.transit.TransitState.TheVariants.{Free}
use Rattle.ncp_web.specs.TransitStates.{transit_state_of, transit_state_between, transit_state_among, transit_state_printed, transit_state_printed_of_many, is_same_side, last_printed}
use Rattle.ncp_web.proofs.TransitStates.{of-transcript, of-many}

no-peer : (side : Side) (link : ℕ) (w : Hosts) → transit_state_between (Some side) None link w ≡ Free
no-peer A link w = refl
no-peer B link w = refl

one-side : (side peer : Side) (link : ℕ) (w : Hosts) → is_same_side side peer ≡ true → transit_state_between (Some side) (Some peer) link w ≡ Free
one-side A A link w e = refl
one-side A B link w e = absurd (cc e)
one-side B A link w e = absurd (cc e)
one-side B B link w e = refl

two-sides : (side peer : Side) (link : ℕ) (w : Hosts) → is_same_side side peer ≡ false → transit_state_between (Some side) (Some peer) link w ≡ transit_state_of (transit_of side link w)
two-sides A A link w e = absurd (cc e)
two-sides A B link w e = refl
two-sides B A link w e = refl
two-sides B B link w e = absurd (cc e)

module _ (sender peer : Option Side) (link : ℕ) (w : Hosts) where
  pub of-no-sender : sender ≡ None → Free ≡ transit_state_between sender peer link w
  of-no-sender e = sym (ap (λ (o : Option Side). transit_state_between o peer link w) e)

  named : (side : Side) (other : Option Side) → sender ≡ Some side → peer ≡ other → transit_state_between sender peer link w ≡ transit_state_between (Some side) other link w
  named side other e f = ap (λ (o : Option Side). transit_state_between o peer link w) e ∙ ap (λ (o : Option Side). transit_state_between (Some side) o link w) f

  pub of-no-peer : (side : Side) → sender ≡ Some side → peer ≡ None → Free ≡ transit_state_between sender peer link w
  of-no-peer side e f = sym (named side None e f ∙ no-peer side link w)

  pub of-one-side : (side other : Side) → sender ≡ Some side → peer ≡ Some other → is_same_side side other ≡ true → Free ≡ transit_state_between sender peer link w
  of-one-side side other e f same = sym (named side (Some other) e f ∙ one-side side other link w same)

  pub of-two-sides : (side other : Side) (ns : List Note) → sender ≡ Some side → peer ≡ Some other → is_same_side side other ≡ false → IsTranscript ns w → EveryOutputAccepted ns w
      → last_printed (transit_state_printed side link) ns Free ≡ transit_state_between sender peer link w
  of-two-sides side other ns e f differ run taken = of-transcript side link ns w run taken ∙ sym (named side (Some other) e f ∙ two-sides side other link w differ)

both : (one other same : Bool) → (one && other && not same) ≡ true → (one ≡ true) × (other ≡ true) × (same ≡ false)
both true true false e = (refl, refl, refl)
both true true true e = absurd (cc e)
both true false same e = absurd (cc e)
both false other same e = absurd (cc e)

module _ (sender peer link : ℕ) (m : Network) where
  abbrev told : Bool → TransitState
  told so = if so then transit_state_of (transit_at m.subnet sender peer link) else Free

  pub of-no-two : are_two sender peer m ≡ false → Free ≡ transit_state_among sender peer link m
  of-no-two e = sym (ap told e)

  pub of-two-there : (ns : List ManyNote) → are_two sender peer m ≡ true → IsManyTranscript ns m → ForEachNoteOfTwo IsTaken ns m
      → last_printed (transit_state_printed_of_many sender peer link) ns Free ≡ transit_state_among sender peer link m
  of-two-there ns e run taken =
      let there = both (is_there sender m) (is_there peer m) (sender == peer) e in
      of-many sender peer link ns m run taken there.0 there.1 (eqb-false sender peer there.2) ∙ sym (ap told e)
