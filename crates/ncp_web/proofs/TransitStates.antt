-- What the notes of a transcript make of the last message on a link is what the subnet has there.
use Rattle.std.proofs.Common.{◌≡◌, ◌≢◌, ◌<◌, ◌≤◌, ◌-◌, ℕ, suc, ◌==◌, Bool, true, false, ◌&&◌, nat_le, nat_lt, if◌then◌else◌, List, [], ◌∷◌, ◌++◌, length, take, get_or, Option, None, Some, unwrap_or, Ok, inl, inr, ◌⊎◌, refl, sym, ap, ◌∙◌, subst, arith}
use Rattle.std.proofs.Math.Seq.{take-suc}
use Rattle.std.proofs.lemmas.Bool.{eqb-true, eqb-false, eq-eqb, ne_eqb}
use Rattle.std.proofs.lemmas.Bool.Decides.{nat_tests}
use Rattle.ncp_leader.specs.declared.leader.Leader.{Leader}
use Rattle.ncp_leader.specs.declared.leader.TheConstants.{LEADER_BITS}
use Rattle.ncp_leader.specs.declared.kinds.TheConstants.{REGULAR}
use Rattle.ncp_leader.specs.Leader.{leader_at, leader_in}
use Rattle.ncp_subnet.specs.declared.transit.Transit.TheVariants as transits
use Rattle.ncp_subnet.specs.Transit.{is_free}
use Rattle.ncp_subnet.specs.Messages.{host_in, link_in}
use Rattle.ncp_subnet.specs.Ways.{OnLink}
use Rattle.ncp_subnet.specs.Subnet.{Subnet, TransitKey, place, has_way, transit_at, with_transit}
use Rattle.ncp_subnet.proofs.NewRows.{transit-new}
use Rattle.ncp_subnet.proofs.Places.{transit_at-same, transit_at-others}
use Rattle.ncp_host.specs.Host.{Host}
use Rattle.ncp_transcript.specs.After as transcripts
use Rattle.ncp_transcript.specs.declared.note.HostNote.{HostNote}
use Rattle.ncp_transcript.specs.declared.note.HostNote.TheVariants as host_notes
use Rattle.ncp_transcript_two.specs.declared.side.Side.{Side}
use Rattle.ncp_transcript_two.specs.declared.side.Side.TheVariants.{A, B}
use Rattle.ncp_transcript_two.specs.declared.note.Note.{Note}
use Rattle.ncp_transcript_two.specs.declared.note.Note.TheVariants as notes
use Rattle.ncp_transcript_two.specs.Between.{Hosts, new_hosts, other, side_number, host_of, transit_of, with_transit_of, with_host, is_regular, is_taken, accepted_from, subnet_after_out, sent_out, hosts_after_note, hosts_after_notes}
use Rattle.ncp_transcript_two.specs.Transcript as two
use Rattle.ncp_transcript_two.specs.Seen.{seen, as_rules, side_of, body_of, body_out}
use Rattle.ncp_proof_machine.specs.Resets.{This, That}
use Rattle.ncp_transcript_two.proofs.Accepting.{taken_yes, taken_no}
use Rattle.ncp_transcript_two.proofs.Growing.{began_noted}
use Rattle.ncp_proof_runs.specs.Peers.{peer_of_leader, peer_of_note}
use Rattle.ncp_proof_promises.specs.EachNote.{OnSide, OfBody, OfEachNote}
use Rattle.ncp_proof_promises.specs.Taking.{IsTaken, EveryOutputAccepted}
use Rattle.ncp_transcript_many.specs.declared.many_note.ManyNote.{ManyNote}
use Rattle.ncp_transcript_many.specs.declared.many_note.ManyNote.TheVariants as many
use Rattle.ncp_transcript_many.specs.Network.{Network, numbers_in, is_there, between, after_many, after_many_notes}
use Rattle.ncp_transcript_many.specs.ManyTranscript.{IsManyTranscript}
use Rattle.ncp_transcript_many.specs.ManyTranscript as manys
use Rattle.ncp_transcript_many.specs.Pairs.{with_peer, side_of_pair, if_side, note_between}
use Rattle.ncp_transcript_many.specs.NotesOfTwo.{AmongAll, OfEachNoteOfTwo, ForEachNoteOfTwo}
use Rattle.ncp_transcript_many.proofs.Transits.{taken-elsewhere}
use Rattle.ncp_web.specs.declared.transit.TransitState.{TransitState}
use Rattle.ncp_web.specs.declared.transit.TransitState.TheVariants.{Free, Underway}
use Rattle.ncp_web.specs.TransitStates.{transit_state_of, regular_leader, leader_out, is_leader_on, is_to, is_same_side, transit_state_if, transit_state_printed, transit_state_printed_of_many, last_printed}

-- the last of some notes
last-one : {N : Type 0} (says : N → Option TransitState) (more : List N) (note : N) (before : TransitState) → last_printed says (more ++ note ∷ []) before ≡ unwrap_or (says note) (last_printed says more before)
last-one says [] note before = refl
last-one says (first ∷ more) note before = last-one says more note (unwrap_or (says first) before)

-- ---- looked for from the end: so many notes are left, and what the last of them says is known

module _ {N : Type 0} (says : N → Option TransitState) (noted : List N) (left : ℕ) (before : TransitState) (some : 0 < left) (within : left ≤ length noted) where
  last-of : (other : N) → last_printed says (take left noted) before ≡ unwrap_or (says (get_or noted (left - 1) other)) (last_printed says (take (left - 1) noted) before)
  last-of other =
      let e : left ≡ suc (left - 1) = omega arith in
      ap (λ (k : ℕ). last_printed says (take k noted) before) e
      ∙ ap (λ (l : List N). last_printed says l before) (take-suc noted (left - 1) other (omega arith))
      ∙ last-one says (take (left - 1) noted) (get_or noted (left - 1) other) before

  -- it says something: that is what all say
  pub last-found : (other : N) (transit_state : TransitState) → says (get_or noted (left - 1) other) ≡ Some transit_state → last_printed says (take left noted) before ≡ last_printed says noted before
      → transit_state ≡ last_printed says noted before
  last-found other transit_state e all = sym (last-of other ∙ ap (λ (o : Option TransitState). unwrap_or o (last_printed says (take (left - 1) noted) before)) e) ∙ all

  -- it says nothing: that is what the others say
  pub last-passed : (other : N) → says (get_or noted (left - 1) other) ≡ None → last_printed says (take left noted) before ≡ last_printed says noted before
      → last_printed says (take (left - 1) noted) before ≡ last_printed says noted before
  last-passed other e all = sym (last-of other ∙ ap (λ (o : Option TransitState). unwrap_or o (last_printed says (take (left - 1) noted) before)) e) ∙ all

-- ---- something comes to be in transit

self : (n : ℕ) → (n == n) ≡ true
self n = eq-eqb n n refl

nothing-and : (b : Bool) → (b && false) ≡ false
nothing-and true = refl
nothing-and false = refl

-- what is in transit on one link, where something comes to be on another
put : (s : Subnet) (from to on : ℕ) (x : OnLink) (a b link : ℕ) → transit_at (with_transit s from to on x) a b link ≡ (if (from == a && to == b) && on == link then x else transit_at s a b link)
put s from to on x a b link = go (from == a) (to == b) (on == link) refl refl refl
  where
    at : TransitKey → OnLink
    at p = transit_at (with_transit s from to on x) p.from p.to p.link

    go : (p q r : Bool) → (from == a) ≡ p → (to == b) ≡ q → (on == link) ≡ r → transit_at (with_transit s from to on x) a b link ≡ (if (p && q) && r then x else transit_at s a b link)
    go true true true e f g =
        let one : a ≡ from = sym (eqb-true from a e) in let two : b ≡ to = sym (eqb-true to b f) in let three : link ≡ on = sym (eqb-true on link g) in
        (λ i. at (place (one i) (two i) (three i))) ∙ transit_at-same s from to on x
    go false q r e f g = transit_at-others s from to on x a b link (λ is. eqb-false from a e (sym is.0))
    go true false r e f g = transit_at-others s from to on x a b link (λ is. eqb-false to b f (sym is.1))
    go true true false e f g = transit_at-others s from to on x a b link (λ is. eqb-false on link g (sym is.2))

-- what a note says of a link is what comes to be there
says : (b : Bool) (x y : OnLink) → transit_state_of (if b then x else y) ≡ unwrap_or (transit_state_if b (transit_state_of x)) (transit_state_of y)
says true x y = refl
says false x y = refl

-- ---- a message goes out

-- what a host noted: that a message went out, or anything else, of which the subnet takes nothing
abbrev Outs : HostNote → Type 0
Outs note = ((m : List Bool) × (note ≡ host_notes.Out m)) ⊎ ((leader_out note ≡ None) × ((from : ℕ) (s : Subnet) → subnet_after_out from note s ≡ s))

outs : (note : HostNote) → Outs note
outs (host_notes.Refused call fault) = inr (refl, λ from s. refl)
outs (host_notes.Done call) = inr (refl, λ from s. refl)
outs (host_notes.Took peer pair bytes text) = inr (refl, λ from s. refl)
outs (host_notes.State peer pair read) = inr (refl, λ from s. refl)
outs (host_notes.Phase peer flags) = inr (refl, λ from s. refl)
outs (host_notes.Echoed peer byte) = inr (refl, λ from s. refl)
outs (host_notes.Errors peer errors) = inr (refl, λ from s. refl)
outs (host_notes.Counts peer counts) = inr (refl, λ from s. refl)
outs (host_notes.Waiting peer place command) = inr (refl, λ from s. refl)
outs (host_notes.Kept peer link message) = inr (refl, λ from s. refl)
outs (host_notes.Ignored ignored) = inr (refl, λ from s. refl)
outs (host_notes.Out message) = inl (message, refl)
outs host_notes.Nothing = inr (refl, λ from s. refl)
outs (host_notes.In message received) = inr (refl, λ from s. refl)
outs (host_notes.Answered peer link answer received) = inr (refl, λ from s. refl)

le-not : (a b : ℕ) → nat_lt b a ≡ true → nat_le a b ≡ false
le-not a b e = grind (arith, nat_tests)

-- a regular message has its leader; another one is not taken
abbrev Regular : List Bool → Type 0
Regular m = ((leader_in m ≡ Ok (leader_at m)) × (((leader_at m).kind == REGULAR) ≡ true)) ⊎ ((regular_leader (leader_in m) ≡ None) × (is_regular m ≡ false))

regular : (m : List Bool) → Regular m
regular m = go (nat_lt (length m) LEADER_BITS) ((leader_at m).kind == REGULAR) refl refl
  where
    go : (p q : Bool) → nat_lt (length m) LEADER_BITS ≡ p → ((leader_at m).kind == REGULAR) ≡ q → Regular m
    go true q e f = inr (rw e refl, ap (λ (b : Bool). b && (leader_at m).kind == REGULAR) (le-not LEADER_BITS (length m) e))
    go false true e f = inl (rw e refl, f)
    go false false e f = inr (rw e (rw f refl), ap (λ (b : Bool). nat_le LEADER_BITS (length m) && b) f ∙ nothing-and (nat_le LEADER_BITS (length m)))

led : (m : List Bool) → leader_in m ≡ Ok (leader_at m) → ((leader_at m).kind == REGULAR) ≡ true → regular_leader (leader_in m) ≡ Some (leader_at m)
led m e f = ap regular_leader e ∙ ap (λ (b : Bool). if b then Some (leader_at m) else None) f

not-taken : (s : Subnet) (from : ℕ) (m : List Bool) → is_regular m ≡ false → accepted_from from m s ≡ s
not-taken s from m e = taken_no s from m (ap (λ (b : Bool). (b && has_way s from (host_in m)) && is_free (transit_at s from (host_in m) (link_in m))) e)

-- on another link than its own nothing changes
off-link : (s : Subnet) (from : ℕ) (m : List Bool) (a b link : ℕ) → (link_in m == link) ≡ false → transit_at (accepted_from from m s) a b link ≡ transit_at s a b link
off-link s from m a b link e = go (is_taken s from m) refl
  where
    go : (t : Bool) → is_taken s from m ≡ t → transit_at (accepted_from from m s) a b link ≡ transit_at s a b link
    go true f = ap (λ (u : Subnet). transit_at u a b link) (taken_yes s from m f) ∙ transit_at-others s from (host_in m) (link_in m) (transits.Accepted m) a b link (λ is. eqb-false (link_in m) link e (sym is.2))
    go false f = ap (λ (u : Subnet). transit_at u a b link) (taken_no s from m f)

-- a message went out to this host: on its link it is underway, and elsewhere all is as it was
went : (s : Subnet) (from : ℕ) (m : List Bool) (a b link : ℕ) → transit_at (accepted_from from m s) a b (link_in m) ≡ transits.Accepted m
    → transit_state_of (transit_at (accepted_from from m s) a b link) ≡ unwrap_or (transit_state_if (link_in m == link) Underway) (transit_state_of (transit_at s a b link))
went s from m a b link there = go (link_in m == link) refl
  where
    go : (t : Bool) → (link_in m == link) ≡ t → transit_state_of (transit_at (accepted_from from m s) a b link) ≡ unwrap_or (transit_state_if t Underway) (transit_state_of (transit_at s a b link))
    go true e = ap (λ (k : ℕ). transit_state_of (transit_at (accepted_from from m s) a b k)) (sym (eqb-true (link_in m) link e)) ∙ ap transit_state_of there
    go false e = ap transit_state_of (off-link s from m a b link e)

-- ---- two hosts

module _ (side : Side) (link : ℕ) where
  abbrev Fated : Note → Hosts → Type 0
  Fated note w = transit_state_of (transit_of side link (hosts_after_note note w)) ≡ unwrap_or (transit_state_printed side link note) (transit_state_of (transit_of side link w))

-- a host that changes is not in transit
hosts-stay : (side one : Side) (link : ℕ) (h : Host) (w : Hosts) → transit_of side link (with_host one h w) ≡ transit_of side link w
hosts-stay A A link h w = refl
hosts-stay A B link h w = refl
hosts-stay B A link h w = refl
hosts-stay B B link h w = refl

put-side : (side one : Side) (on link : ℕ) (x : OnLink) (w : Hosts) → w.number_a ≢ w.number_b
    → transit_of side link (with_transit_of one on x w) ≡ (if is_same_side one side && on == link then x else transit_of side link w)
put-side A A on link x w differ = put w.subnet w.number_a w.number_b on x w.number_a w.number_b link ∙ rw (self w.number_a, self w.number_b) refl
put-side A B on link x w differ = put w.subnet w.number_b w.number_a on x w.number_a w.number_b link ∙ rw (ne_eqb w.number_b w.number_a (λ e. differ (sym e))) refl
put-side B A on link x w differ = put w.subnet w.number_a w.number_b on x w.number_b w.number_a link ∙ rw (ne_eqb w.number_a w.number_b differ) refl
put-side B B on link x w differ = put w.subnet w.number_b w.number_a on x w.number_b w.number_a link ∙ rw (self w.number_a, self w.number_b) refl

put-fated : (side one : Side) (on link : ℕ) (x : OnLink) (w : Hosts) → w.number_a ≢ w.number_b
    → transit_state_of (transit_of side link (with_transit_of one on x w)) ≡ unwrap_or (transit_state_if (is_same_side one side && on == link) (transit_state_of x)) (transit_state_of (transit_of side link w))
put-fated side one on link x w differ = ap transit_state_of (put-side side one on link x w differ) ∙ says (is_same_side one side && on == link) x (transit_of side link w)

-- a message of a side that went out
abbrev OutFated : Side → Side → ℕ → HostNote → Hosts → Type 0
OutFated side one link note w =
    transit_state_of (transit_of side link (sent_out one note w)) ≡ unwrap_or (transit_state_if (is_same_side one side && is_leader_on link (leader_out note)) Underway) (transit_state_of (transit_of side link w))

abbrev Took : Side → List Bool → Hosts → Type 0
Took side m w = transit_of side (link_in m) (sent_out side (host_notes.Out m) w) ≡ transits.Accepted m

out-same : (s : Subnet) (from : ℕ) (m : List Bool) (a b link : ℕ) → transit_at (accepted_from from m s) a b (link_in m) ≡ transits.Accepted m
    → transit_state_of (transit_at (accepted_from from m s) a b link) ≡ unwrap_or (transit_state_if (is_leader_on link (regular_leader (leader_in m))) Underway) (transit_state_of (transit_at s a b link))
out-same s from m a b link there = elim (regular m) [
  | inl e ↦ went s from m a b link there ∙ ap (λ (o : Option Leader). unwrap_or (transit_state_if (is_leader_on link o) Underway) (transit_state_of (transit_at s a b link))) (sym (led m e.0 e.1))
  | inr e ↦ ap (λ (u : Subnet). transit_state_of (transit_at u a b link)) (not-taken s from m e.1) ∙ ap (λ (o : Option Leader). unwrap_or (transit_state_if (is_leader_on link o) Underway) (transit_state_of (transit_at s a b link))) (sym e.0)
]

out-message : (side one : Side) (link : ℕ) (m : List Bool) (w : Hosts) → w.number_a ≢ w.number_b → Took one m w → OutFated side one link (host_notes.Out m) w
out-message A A link m w differ there = out-same w.subnet w.number_a m w.number_a w.number_b link there
out-message B B link m w differ there = out-same w.subnet w.number_b m w.number_b w.number_a link there
out-message A B link m w differ there = ap transit_state_of (taken-elsewhere w.subnet w.number_a w.number_b w.number_b m (λ e f. differ e) link)
out-message B A link m w differ there = ap transit_state_of (taken-elsewhere w.subnet w.number_b w.number_a w.number_a m (λ e f. differ (sym e)) link)

same-subnet : (side one : Side) (link : ℕ) (note : HostNote) (w : Hosts) → subnet_after_out (side_number one w) note w.subnet ≡ w.subnet → transit_of side link (sent_out one note w) ≡ transit_of side link w
same-subnet A A link note w e = ap (λ (u : Subnet). transit_at u w.number_a w.number_b link) e
same-subnet A B link note w e = ap (λ (u : Subnet). transit_at u w.number_a w.number_b link) e
same-subnet B A link note w e = ap (λ (u : Subnet). transit_at u w.number_b w.number_a link) e
same-subnet B B link note w e = ap (λ (u : Subnet). transit_at u w.number_b w.number_a link) e

no-leader : (so : Bool) (link : ℕ) (transit_state : TransitState) (o : Option Leader) → o ≡ None → transit_state ≡ unwrap_or (transit_state_if (so && is_leader_on link o) Underway) transit_state
no-leader so link transit_state o e = sym (ap (λ (i : Option Leader). unwrap_or (transit_state_if (so && is_leader_on link i) Underway) transit_state) e ∙ ap (λ (b : Bool). unwrap_or (transit_state_if b Underway) transit_state) (nothing-and so))

-- what is said of the note of an output, where it is that of a message
abbrev IfTook : Side → HostNote → Hosts → Type 0
IfTook one note w = (m : List Bool) → note ≡ host_notes.Out m → Took one m w

out-fated : (side one : Side) (link : ℕ) (note : HostNote) (w : Hosts) → w.number_a ≢ w.number_b → IfTook one note w → OutFated side one link note w
out-fated side one link note w differ there = elim (outs note) [
  | inl o ↦ subst (λ (n : HostNote). OutFated side one link n w) (sym o.1) (out-message side one link o.0 w differ (there o.0 o.1))
  | inr o ↦ ap transit_state_of (same-subnet side one link note w (o.1 (side_number one w) w.subnet)) ∙ no-leader (is_same_side one side) link (transit_state_of (transit_of side link w)) (leader_out note) o.0
]

-- of each note
abbrev NoteTook : Note → Hosts → Type 0
NoteTook (notes.Out one note) w = IfTook one note w
NoteTook note w = Unit {0}

fated : (side : Side) (link : ℕ) (note : Note) (w : Hosts) → w.number_a ≢ w.number_b → NoteTook note w → Fated side link note w
fated side link (notes.Called one note) w differ there = ap transit_state_of (hosts-stay side one link (transcripts.after_note note (host_of one w)) w)
fated side link (notes.Out one note) w differ there = out-fated side one link note w differ there
fated side link (notes.Came one on note) w differ there =
    let placed : Hosts = with_transit_of one on transits.Delivered w in
    ap transit_state_of (hosts-stay side (other one) link (transcripts.after_note note (host_of (other one) placed)) placed) ∙ put-fated side one on link transits.Delivered w differ
fated side link (notes.Lost one on) w differ there = put-fated side one on link transits.Lost w differ
fated side link (notes.FoundDead one on) w differ there = put-fated side one on link transits.Dead w differ
fated side link (notes.Answered one on note) w differ there =
    let placed : Hosts = with_transit_of one on transits.Free w in
    ap transit_state_of (hosts-stay side one link (transcripts.after_note note (host_of one placed)) placed) ∙ put-fated side one on link transits.Free w differ
fated side link (notes.Nothing one on wanted) w differ there = refl

note-took : (note : Note) (w : Hosts) → OfBody IsTaken (as_rules (side_of note)) (body_of note) (seen w) (seen (hosts_after_note note w)) → NoteTook note w
note-took (notes.Called one note) w h = tt
note-took (notes.Out A note) w h = λ m e. subst (λ (n : HostNote). OnSide IsTaken This (body_out n) (seen w) (seen (sent_out A n w))) e h
note-took (notes.Out B note) w h = λ m e. subst (λ (n : HostNote). OnSide IsTaken That (body_out n) (seen w) (seen (sent_out B n w))) e h
note-took (notes.Came one on note) w h = tt
note-took (notes.Lost one on) w h = tt
note-took (notes.FoundDead one on) w h = tt
note-took (notes.Answered one on note) w h = tt
note-took (notes.Nothing one on wanted) w h = tt

differ-on : (note : Note) (w : Hosts) → w.number_a ≢ w.number_b → (hosts_after_note note w).number_a ≢ (hosts_after_note note w).number_b
differ-on note w differ e =
    let same : two.began (hosts_after_note note w) ≡ two.began w = began_noted note w in
    differ (sym (ap (λ (h : Hosts). h.number_a) same) ∙ e ∙ ap (λ (h : Hosts). h.number_b) same)

all : (side : Side) (link : ℕ) (ns : List Note) (w : Hosts) → w.number_a ≢ w.number_b → OfEachNote IsTaken ns w
    → transit_state_of (transit_of side link (hosts_after_notes ns w)) ≡ last_printed (transit_state_printed side link) ns (transit_state_of (transit_of side link w))
all side link [] w differ h = refl
all side link (note ∷ ns) w differ h =
    all side link ns (hosts_after_note note w) (differ-on note w differ) h.1 ∙ ap (last_printed (transit_state_printed side link) ns) (fated side link note w differ (note-took note w h.0))

new : (side : Side) (link a b : ℕ) → transit_of side link (new_hosts a b) ≡ transits.Free
new A link a b = transit-new (a ∷ b ∷ []) a b link
new B link a b = transit-new (a ∷ b ∷ []) b a link

-- of two hosts
pub of-transcript : (side : Side) (link : ℕ) (ns : List Note) (w : Hosts) → two.IsTranscript ns w → EveryOutputAccepted ns w → last_printed (transit_state_printed side link) ns Free ≡ transit_state_of (transit_of side link w)
of-transcript side link ns w t taken = sym (
    ap (λ (h : Hosts). transit_state_of (transit_of side link h)) t.state
    ∙ all side link ns (two.began w) t.differ taken
    ∙ ap (λ (x : OnLink). last_printed (transit_state_printed side link) ns (transit_state_of x)) (new side link w.number_a w.number_b))

-- ---- two to eight hosts

module _ (sender peer link : ℕ) where
  abbrev ManyFated : ManyNote → Network → Type 0
  ManyFated note m = transit_state_of (transit_at (after_many note m).subnet sender peer link) ≡ unwrap_or (transit_state_printed_of_many sender peer link note) (transit_state_of (transit_at m.subnet sender peer link))

  -- what each note says of the two, of what is seen of them
  abbrev ManyTook : ManyNote → Network → Type 0
  ManyTook note m = AmongAll IsTaken (note_between sender peer note) (seen (between sender peer m)) (seen (between sender peer (after_many note m)))

  put-many : (m : Network) (from to on : ℕ) (x : OnLink)
      → transit_state_of (transit_at (with_transit m.subnet from to on x) sender peer link) ≡ unwrap_or (transit_state_if ((from == sender && to == peer) && on == link) (transit_state_of x)) (transit_state_of (transit_at m.subnet sender peer link))
  put-many m from to on x = ap transit_state_of (put m.subnet from to on x sender peer link) ∙ says ((from == sender && to == peer) && on == link) x (transit_at m.subnet sender peer link)

  no-leader-many : (so : Bool) (transit_state : TransitState) (o : Option Leader) → o ≡ None → transit_state ≡ unwrap_or (transit_state_if (so && is_to peer link o) Underway) transit_state
  no-leader-many so transit_state o e = sym (ap (λ (i : Option Leader). unwrap_or (transit_state_if (so && is_to peer link i) Underway) transit_state) e ∙ ap (λ (b : Bool). unwrap_or (transit_state_if b Underway) transit_state) (nothing-and so))

  -- a message from the one to the other went out
  accepted : (host : ℕ) (msg : List Bool) (m : Network) → leader_in msg ≡ Ok (leader_at msg) → ((leader_at msg).kind == REGULAR) ≡ true → (host == sender) ≡ true → (host_in msg == peer) ≡ true
      → ManyTook (many.Out host (host_notes.Out msg)) m → transit_at (accepted_from host msg m.subnet) sender peer (link_in msg) ≡ transits.Accepted msg
  accepted host msg m e f g h took = subst (λ (one : List Note). AmongAll IsTaken one (seen (between sender peer m)) (seen (between sender peer (after_many note m)))) is took
    where
      note : ManyNote
      note = many.Out host (host_notes.Out msg)

      named : peer_of_note (host_notes.Out msg) ≡ Some (host_in msg)
      named = ap peer_of_leader e ∙ ap (λ (b : Bool). if b then Some (host_in msg) else None) f

      is : note_between sender peer note ≡ notes.Out A (host_notes.Out msg) ∷ []
      is = ap (λ (o : Option ℕ). if_side (side_of_pair sender peer (with_peer host o)) note) named
          ∙ ap (λ (b : Bool). if_side (if b && host_in msg == peer then Some A else (if host == peer && host_in msg == sender then Some B else None)) note) g
          ∙ ap (λ (b : Bool). if_side (if b then Some A else (if host == peer && host_in msg == sender then Some B else None)) note) h

  message-many : (host : ℕ) (msg : List Bool) (m : Network) → ManyTook (many.Out host (host_notes.Out msg)) m → ManyFated (many.Out host (host_notes.Out msg)) m
  message-many host msg m took = elim (regular msg) [
    | inl e ↦ go e.0 e.1 (host == sender) (host_in msg == peer) refl refl
        ∙ ap (λ (o : Option Leader). unwrap_or (transit_state_if (host == sender && is_to peer link o) Underway) (transit_state_of (transit_at m.subnet sender peer link))) (sym (led msg e.0 e.1))
    | inr e ↦ ap (λ (u : Subnet). transit_state_of (transit_at u sender peer link)) (not-taken m.subnet host msg e.1) ∙ no-leader-many (host == sender) (transit_state_of (transit_at m.subnet sender peer link)) (regular_leader (leader_in msg)) e.0
  ]
    where
      elsewhere : (sender ≡ host → peer ≡ host_in msg → ⊥) → transit_state_of (transit_at (accepted_from host msg m.subnet) sender peer link) ≡ transit_state_of (transit_at m.subnet sender peer link)
      elsewhere ne = ap transit_state_of (taken-elsewhere m.subnet sender peer host msg ne link)

      told : Bool → Bool → TransitState
      told p q = unwrap_or (transit_state_if (p && (q && link_in msg == link)) Underway) (transit_state_of (transit_at m.subnet sender peer link))

      go : leader_in msg ≡ Ok (leader_at msg) → ((leader_at msg).kind == REGULAR) ≡ true → (p q : Bool) → (host == sender) ≡ p → (host_in msg == peer) ≡ q
          → transit_state_of (transit_at (accepted_from host msg m.subnet) sender peer link) ≡ told (host == sender) (host_in msg == peer)
      go e f true true g h = went m.subnet host msg sender peer link (accepted host msg m e f g h took) ∙ ap (λ (b : Bool). told b true) (sym g) ∙ ap (told (host == sender)) (sym h)
      go e f false q g h = elsewhere (λ is to. eqb-false host sender g (sym is)) ∙ ap (λ (b : Bool). told b (host_in msg == peer)) (sym g)
      go e f true false g h = elsewhere (λ is to. eqb-false (host_in msg) peer h (sym to)) ∙ ap (λ (b : Bool). told b false) (sym g) ∙ ap (told (host == sender)) (sym h)

  out-many : (host : ℕ) (note : HostNote) (m : Network) → ManyTook (many.Out host note) m → ManyFated (many.Out host note) m
  out-many host note m took = elim (outs note) [
    | inl o ↦ subst (λ (n : HostNote). ManyFated (many.Out host n) m) (sym o.1) (message-many host o.0 m (subst (λ (n : HostNote). ManyTook (many.Out host n) m) o.1 took))
    | inr o ↦ ap (λ (u : Subnet). transit_state_of (transit_at u sender peer link)) (o.1 host m.subnet) ∙ no-leader-many (host == sender) (transit_state_of (transit_at m.subnet sender peer link)) (leader_out note) o.0
  ]

  fated-many : (note : ManyNote) (m : Network) → ManyTook note m → ManyFated note m
  fated-many (many.Called host note) m took = refl
  fated-many (many.Out host note) m took = out-many host note m took
  fated-many (many.Came from to on note) m took = put-many m from to on transits.Delivered
  fated-many (many.Lost from to on) m took = put-many m from to on transits.Lost
  fated-many (many.FoundDead from to on) m took = put-many m from to on transits.Dead
  fated-many (many.Answered from to on note) m took = put-many m from to on transits.Free
  fated-many (many.Nothing event) m took = refl

  all-many : (ns : List ManyNote) (m : Network) → OfEachNoteOfTwo IsTaken sender peer ns m
      → transit_state_of (transit_at (after_many_notes ns m).subnet sender peer link) ≡ last_printed (transit_state_printed_of_many sender peer link) ns (transit_state_of (transit_at m.subnet sender peer link))
  all-many [] m h = refl
  all-many (note ∷ ns) m h = all-many ns (after_many note m) h.1 ∙ ap (last_printed (transit_state_printed_of_many sender peer link) ns) (fated-many note m h.0)

  -- of two of them
  pub of-many : (ns : List ManyNote) (m : Network) → IsManyTranscript ns m → ForEachNoteOfTwo IsTaken ns m → is_there sender m ≡ true → is_there peer m ≡ true → sender ≢ peer
      → last_printed (transit_state_printed_of_many sender peer link) ns Free ≡ transit_state_of (transit_at m.subnet sender peer link)
  of-many ns m t taken one other differ = sym (
      ap (λ (c : Network). transit_state_of (transit_at c.subnet sender peer link)) t.state
      ∙ all-many ns (manys.network_began m) (taken sender peer one other differ)
      ∙ ap (λ (x : OnLink). last_printed (transit_state_printed_of_many sender peer link) ns (transit_state_of x)) (transit-new (numbers_in m) sender peer link))
