-- What the subnet has on a link is what the notes say that it has.
use Rattle.std.proofs.Common.{◌≡◌, ◌≢◌, ℕ, ◌==◌, Bool, true, false, ◌&&◌, if◌then◌else◌, List, [], ◌∷◌, refl, sym, ap, ◌∙◌}
use Rattle.std.proofs.lemmas.Bool.{both_ways, eq-eqb, eqb-true}
use Rattle.ncp_subnet.specs.declared.transit.Transit.TheVariants.{Free, Accepted, Delivered, Lost, Dead}
use Rattle.ncp_subnet.specs.Messages.{host_in, link_in}
use Rattle.ncp_subnet.specs.Ways.{OnLink}
use Rattle.ncp_subnet.specs.Subnet.{Subnet, transit_at, with_transit}
use Rattle.ncp_subnet.proofs.NewRows.{transit-new}
use Rattle.ncp_subnet.proofs.Places.{transit_at-same, transit_at-others}
use Rattle.ncp_transcript.specs.declared.note.HostNote.{HostNote}
use Rattle.ncp_transcript_two.specs.declared.side.Side.{Side}
use Rattle.ncp_transcript_two.specs.declared.side.Side.TheVariants.{A, B}
use Rattle.ncp_transcript_two.specs.declared.note.Note.{Note}
use Rattle.ncp_transcript_two.specs.Between.{Hosts, is_taken, accepted_from, transit_of, with_transit_of, hosts_after_note, hosts_after_notes}
use Rattle.ncp_transcript_two.specs.Seen.{seen, as_rules, body_of, side_of}
use Rattle.ncp_transcript_two.specs.Transcript.{began, IsTranscript}
use Rattle.ncp_transcript_two.proofs.Accepting.{taken_yes, taken_no}
use Rattle.ncp_transcript_two.proofs.Growing.{began_noted}
use Rattle.ncp_proof_promises.specs.EachNote.{OfBody, OfEachNote}
use Rattle.ncp_proof_promises.specs.Taking.{IsTaken}
use Rattle.ncp_statement.specs.Statement.{is_same, link_state_after, link_state_from}

-- Something comes to be in transit on a link.

module _ (s : Subnet) where
  put-same : (from to link on : ℕ) (t : OnLink) → transit_at (with_transit s from to link t) from to on ≡ (if link == on then t else transit_at s from to on)
  put-same from to link on t = go (link == on) refl
    where
      go : (b : Bool) → (link == on) ≡ b → transit_at (with_transit s from to link t) from to on ≡ (if b then t else transit_at s from to on)
      go true e = ap (λ (k : ℕ). transit_at (with_transit s from to link t) from to k) (sym (eqb-true link on e)) ∙ transit_at-same s from to link t
      go false e = transit_at-others s from to link t from to on (λ is. both_ways (link == on) e (eq-eqb link on (sym is.2)))

  put-apart : (from to link on : ℕ) (t : OnLink) → from ≢ to → transit_at (with_transit s from to link t) to from on ≡ transit_at s to from on
  put-apart from to link on t differ = transit_at-others s from to link t to from on (λ is. differ (sym is.0))

put : (w : Hosts) → w.number_a ≢ w.number_b → (side by : Side) (link on : ℕ) (t : OnLink) → transit_of side on (with_transit_of by link t w) ≡ (if is_same side by && link == on then t else transit_of side on w)
put w d A A link on t = put-same w.subnet w.number_a w.number_b link on t
put w d B B link on t = put-same w.subnet w.number_b w.number_a link on t
put w d A B link on t = put-apart w.subnet w.number_b w.number_a link on t (λ e. d (sym e))
put w d B A link on t = put-apart w.subnet w.number_a w.number_b link on t d

-- A message goes out.

-- the other links stay
stays : (s : Subnet) (from x y on : ℕ) (m : List Bool) → ((x ≡ from) × (y ≡ host_in m) × (on ≡ link_in m) → ⊥) → transit_at (accepted_from from m s) x y on ≡ transit_at s x y on
stays s from x y on m ne = go (is_taken s from m) refl
  where
    go : (b : Bool) → is_taken s from m ≡ b → transit_at (accepted_from from m s) x y on ≡ transit_at s x y on
    go true e = ap (λ (u : Subnet). transit_at u x y on) (taken_yes s from m e) ∙ transit_at-others s from (host_in m) (link_in m) (Accepted m) x y on ne
    go false e = ap (λ (u : Subnet). transit_at u x y on) (taken_no s from m e)

-- its own link has it
lands : (s : Subnet) (from to on : ℕ) (m : List Bool) → transit_at (accepted_from from m s) from to (link_in m) ≡ Accepted m → transit_at (accepted_from from m s) from to on ≡ (if link_in m == on then Accepted m else transit_at s from to on)
lands s from to on m landed = go (link_in m == on) refl
  where
    go : (b : Bool) → (link_in m == on) ≡ b → transit_at (accepted_from from m s) from to on ≡ (if b then Accepted m else transit_at s from to on)
    go true e = ap (λ (k : ℕ). transit_at (accepted_from from m s) from to k) (sym (eqb-true (link_in m) on e)) ∙ landed
    go false e = stays s from from to on m (λ is. both_ways (link_in m == on) e (eq-eqb (link_in m) on (sym is.2)))

abbrev Landed : Note → Hosts → Type 0
Landed (Note.Out by (HostNote.Out m)) w = transit_of by (link_in m) (hosts_after_note (Note.Out by (HostNote.Out m)) w) ≡ Accepted m
Landed note w = Unit {0}

landed : (note : Note) (w : Hosts) → OfBody IsTaken (as_rules (side_of note)) (body_of note) (seen w) (seen (hosts_after_note note w)) → Landed note w
landed (Note.Out A (HostNote.Out m)) w o = o
landed (Note.Out B (HostNote.Out m)) w o = o
landed note w o = tt

-- Each note.

abbrev Carries : Side → ℕ → Note → Hosts → Type 0
Carries side on note w = transit_of side on (hosts_after_note note w) ≡ link_state_after side on note (transit_of side on w)

out-carries : (side by : Side) (on : ℕ) (hn : HostNote) (w : Hosts) → w.number_a ≢ w.number_b → Landed (Note.Out by hn) w → Carries side on (Note.Out by hn) w
out-carries A A on (HostNote.Out m) w d l = lands w.subnet w.number_a w.number_b on m l
out-carries B B on (HostNote.Out m) w d l = lands w.subnet w.number_b w.number_a on m l
out-carries A B on (HostNote.Out m) w d l = stays w.subnet w.number_b w.number_a w.number_b on m (λ is. d is.0)
out-carries B A on (HostNote.Out m) w d l = stays w.subnet w.number_a w.number_b w.number_a on m (λ is. d (sym is.0))
out-carries A A on hn w d l = refl
out-carries B B on hn w d l = refl
out-carries A B on hn w d l = refl
out-carries B A on hn w d l = refl

carries : (side : Side) (on : ℕ) (note : Note) (w : Hosts) → w.number_a ≢ w.number_b → Landed note w → Carries side on note w
carries side on (Note.Out by hn) w d l = out-carries side by on hn w d l
carries A on (Note.Called A hn) w d l = refl
carries A on (Note.Called B hn) w d l = refl
carries B on (Note.Called A hn) w d l = refl
carries B on (Note.Called B hn) w d l = refl
carries A on (Note.Came A link hn) w d l = put w d A A link on Delivered
carries A on (Note.Came B link hn) w d l = put w d A B link on Delivered
carries B on (Note.Came A link hn) w d l = put w d B A link on Delivered
carries B on (Note.Came B link hn) w d l = put w d B B link on Delivered
carries side on (Note.Lost by link) w d l = put w d side by link on Lost
carries side on (Note.FoundDead by link) w d l = put w d side by link on Dead
carries A on (Note.Answered A link hn) w d l = put w d A A link on Free
carries A on (Note.Answered B link hn) w d l = put w d A B link on Free
carries B on (Note.Answered A link hn) w d l = put w d B A link on Free
carries B on (Note.Answered B link hn) w d l = put w d B B link on Free
carries side on (Note.Nothing by link wanted) w d l = refl

-- All notes.

differ-after : (note : Note) (w : Hosts) → w.number_a ≢ w.number_b → (hosts_after_note note w).number_a ≢ (hosts_after_note note w).number_b
differ-after note w d e =
    let a : (hosts_after_note note w).number_a ≡ w.number_a = ap (λ (x : Hosts). x.number_a) (began_noted note w) in
    let b : (hosts_after_note note w).number_b ≡ w.number_b = ap (λ (x : Hosts). x.number_b) (began_noted note w) in
    d (sym a ∙ e ∙ b)

walk : (side : Side) (on : ℕ) (ns : List Note) (w : Hosts) → w.number_a ≢ w.number_b → OfEachNote IsTaken ns w → transit_of side on (hosts_after_notes ns w) ≡ link_state_from side on (transit_of side on w) ns
walk side on [] w d o = refl
walk side on (note ∷ ns) w d o =
    walk side on ns (hosts_after_note note w) (differ-after note w d) o.1
    ∙ ap (λ (has : OnLink). link_state_from side on has ns) (carries side on note w d (landed note w o.0))

free-first : (side : Side) (on : ℕ) (w : Hosts) → transit_of side on (began w) ≡ Free
free-first A on w = transit-new (w.number_a ∷ w.number_b ∷ []) w.number_a w.number_b on
free-first B on w = transit-new (w.number_a ∷ w.number_b ∷ []) w.number_b w.number_a on

pub carried-is : (side : Side) (on : ℕ) (ns : List Note) (w : Hosts) → IsTranscript ns w → OfEachNote IsTaken ns (began w) → link_state_from side on Free ns ≡ transit_of side on w
carried-is side on ns w t o =
    ap (λ (has : OnLink). link_state_from side on has ns) (sym (free-first side on w))
    ∙ sym (walk side on ns (began w) t.differ o)
    ∙ ap (transit_of side on) (sym t.state)
