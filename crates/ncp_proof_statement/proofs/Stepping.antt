-- One note of two hosts by themselves after the other, in a world.
use Rattle.std.proofs.Common.{◌≡◌, ◌≢◌, ℕ, ◌==◌, Bool, true, false, ◌&&◌, if◌then◌else◌, List, [], ◌∷◌, ◌++◌, Option, None, Some, refl, sym, ap, ◌∙◌, subst, inl, inr}
use Rattle.std.proofs.lemmas.Bool.{both_ways, eq-eqb, eqb-true}
use Rattle.ncp_leader.specs.declared.leader.Leader.{Leader}
use Rattle.ncp_wire.specs.declared.answer.Answer.{Answer}
use Rattle.ncp_wire.specs.declared.answer.Answer.TheVariants.{Rfnm, Incomplete, Dead}
use Rattle.ncp_proof_machine.specs.Hosts as hosts
use Rattle.ncp_subnet.specs.declared.transit.Transit.TheVariants as transits
use Rattle.ncp_subnet.specs.Transit.{is_accepted}
use Rattle.ncp_subnet.specs.Messages.{link_in, from_host, answer_bits, answer_about, arriving}
use Rattle.ncp_subnet.specs.Ways.{OnLink}
use Rattle.ncp_subnet.specs.Subnet.{Subnet, transit_at, with_transit}
use Rattle.ncp_subnet.proofs.Places.{transit_at-same, transit_at-others}
use Rattle.ncp_peer.specs.declared.received.Received.{Received}
use Rattle.ncp_host.specs.Host.{Host, state_of}
use Rattle.ncp_host.specs.Arrivals.{received_in}
use Rattle.ncp_host.specs.Turns.{next_output}
use Rattle.ncp_transcript.specs.declared.call.Call.{Call}
use Rattle.ncp_transcript.specs.declared.call.Call.TheVariants as calls
use Rattle.ncp_transcript.specs.declared.note.HostNote.{HostNote}
use Rattle.ncp_transcript.specs.declared.note.HostNote.TheVariants as of_host
use Rattle.ncp_transcript.specs.After.{after_notes}
use Rattle.ncp_transcript.specs.Noting.{CallNoted, answer_in, note_as, note_of_bits, note_of_message}
use Rattle.ncp_transcript.specs.Runs.{answer_returned, IsHostSaid}
use Rattle.ncp_transcript_two.specs.declared.side.Side.{Side}
use Rattle.ncp_transcript_two.specs.declared.side.Side.TheVariants.{A, B}
use Rattle.ncp_transcript_two.specs.declared.event.Event.TheVariants as events
use Rattle.ncp_transcript_two.specs.declared.note.Move.TheVariants as moves
use Rattle.ncp_transcript_two.specs.declared.note.Note.{Note}
use Rattle.ncp_transcript_two.specs.declared.note.Note.TheVariants as notes
use Rattle.ncp_transcript_two.specs.Between.{Hosts, other, side_number, host_of, transit_of, with_transit_of, accepted_from, hosts_after_note, hosts_after_notes}
use Rattle.ncp_transcript_two.specs.Happening.{note_of_coming, note_of_answering}
use Rattle.ncp_transcript_two.specs.Honest.{MessageEvent}
use Rattle.ncp_transcript_two.specs.Seen.{seen, CallFits}
use Rattle.ncp_transcript_two.specs.Sides.{if_same}
use Rattle.ncp_transcript_two.specs.Tie.{IsOfModel}
use Rattle.ncp_transcript_two.specs.Transcript.{IsSaid, IsRun}
use Rattle.ncp_transcript_two.proofs.Growing.{began_noted}
use Rattle.ncp_transcript_two.proofs.SeenSteps.{Stand}
use Rattle.ncp_transcript_two.proofs.SeenRuns.{counterpart, stand-counterpart, stands-at}
use Rattle.ncp_transcript_two.proofs.Ties.{tied-swapped}
use Rattle.ncp_statement.specs.Statement.{is_same, message_event_of, message_events_of, link_state_after}
use Rattle.ncp_proof_statement.specs.Notes.{as_note, NotedCallFits, without_subnet}
use Rattle.ncp_proof_statement.proofs.Deeds.{FollowsAt, other-goes, sent-goes, comes-goes, taken-goes, refused-goes, comes-was, taken-was, refused-was, sent-was}
use Rattle.ncp_proof_statement.proofs.Saying.{Answers, kind_of, answered-noted, takes}

-- Something comes to be in transit on a link.

module _ (s : Subnet) where
  put-same : (from to link on : ℕ) (t : OnLink) → transit_at (with_transit s from to link t) from to on ≡ (if link == on then t else transit_at s from to on)
  put-same from to link on t = go (link == on) refl
    where
      go : (b : Bool) → (link == on) ≡ b → transit_at (with_transit s from to link t) from to on ≡ (if b then t else transit_at s from to on)
      go true e = ap (λ (k : ℕ). transit_at (with_transit s from to link t) from to k) (sym (eqb-true link on e)) ∙ transit_at-same s from to link t
      go false e = transit_at-others s from to link t from to on (λ is. both_ways (link == on) e (eq-eqb link on (sym is.2)))

  put-apart : (from to link on : ℕ) (t : OnLink) → from ≢ to → transit_at (with_transit s from to link t) to from on ≡ transit_at s to from on
  put-apart from to link on t differ = transit_at-others s from to link t to from on (λ is. differ (sym is.0))

put : (w : Hosts) → w.number_a ≢ w.number_b → (side by : Side) (link on : ℕ) (t : OnLink) → transit_of side on (with_transit_of by link t w) ≡ (if is_same side by && link == on then t else transit_of side on w)
put w d A A link on t = put-same w.subnet w.number_a w.number_b link on t
put w d B B link on t = put-same w.subnet w.number_b w.number_a link on t
put w d A B link on t = put-apart w.subnet w.number_b w.number_a link on t (λ e. d (sym e))
put w d B A link on t = put-apart w.subnet w.number_a w.number_b link on t d

-- What the subnet has after a note.

abbrev pub Carries : Note → Hosts → Type 0
Carries note w = (side : Side) (on : ℕ) → transit_of side on (hosts_after_note note w) ≡ link_state_after side on note (transit_of side on w)

called-carries : (by : Side) (hn : HostNote) (w : Hosts) → Carries (notes.Called by hn) w
called-carries A hn w A on = refl
called-carries A hn w B on = refl
called-carries B hn w A on = refl
called-carries B hn w B on = refl

nothing-carries : (by : Side) (w : Hosts) → Carries (notes.Out by of_host.Nothing) w
nothing-carries A w A on = refl
nothing-carries A w B on = refl
nothing-carries B w A on = refl
nothing-carries B w B on = refl

came-carries : (by : Side) (link : ℕ) (m : List Bool) (told : Received) (w : Hosts) → w.number_a ≢ w.number_b → Carries (notes.Came by link (of_host.In m told)) w
came-carries A link m told w d A on = put w d A A link on transits.Delivered
came-carries A link m told w d B on = put w d B A link on transits.Delivered
came-carries B link m told w d A on = put w d A B link on transits.Delivered
came-carries B link m told w d B on = put w d B B link on transits.Delivered

answered-carries : (by : Side) (link peer on : ℕ) (how : Answer) (told : Received) (w : Hosts) → w.number_a ≢ w.number_b → Carries (notes.Answered by link (of_host.Answered peer on how told)) w
answered-carries A link peer l how told w d A on = put w d A A link on transits.Free
answered-carries A link peer l how told w d B on = put w d B A link on transits.Free
answered-carries B link peer l how told w d A on = put w d A B link on transits.Free
answered-carries B link peer l how told w d B on = put w d B B link on transits.Free

-- a subnet that takes the message
abbrev pub Takes : Side → List Bool → Hosts → Type 0
Takes by m w = accepted_from (side_number by w) m w.subnet ≡ with_transit w.subnet (side_number by w) (side_number (other by) w) (link_in m) (transits.Accepted m)

out-carries : (by : Side) (m : List Bool) (w : Hosts) → w.number_a ≢ w.number_b → Takes by m w → Carries (notes.Out by (of_host.Out m)) w
out-carries A m w d t A on = ap (λ (s : Subnet). transit_at s w.number_a w.number_b on) t ∙ put w d A A (link_in m) on (transits.Accepted m)
out-carries A m w d t B on = ap (λ (s : Subnet). transit_at s w.number_b w.number_a on) t ∙ put w d B A (link_in m) on (transits.Accepted m)
out-carries B m w d t A on = ap (λ (s : Subnet). transit_at s w.number_a w.number_b on) t ∙ put w d A B (link_in m) on (transits.Accepted m)
out-carries B m w d t B on = ap (λ (s : Subnet). transit_at s w.number_b w.number_a on) t ∙ put w d B B (link_in m) on (transits.Accepted m)

-- What follows on each link.

abbrev pub Links : List Note → Hosts → Type 0
Links ns w = (side : Side) (on : ℕ) → FollowsAt (side_number side w) (transit_of side on w) (message_events_of side on ns)

number-same : (side : Side) (note : Note) (w : Hosts) → side_number side (hosts_after_note note w) ≡ side_number side w
number-same A note w = ap (λ (x : Hosts). x.number_a) (began_noted note w)
number-same B note w = ap (λ (x : Hosts). x.number_b) (began_noted note w)

-- a note by which its deed and what the subnet has go together
abbrev pub GoesOn : Note → Type 0
GoesOn note = (side : Side) (on n : ℕ) (t : OnLink) (ds : List MessageEvent) → FollowsAt n t (message_event_of side on note ∷ ds) → FollowsAt n (link_state_after side on note t) ds

links-after : (note : Note) (ns : List Note) (w : Hosts) → GoesOn note → Carries note w → Links (note ∷ ns) w → Links ns (hosts_after_note note w)
links-after note ns w goes c l side on =
    subst (λ (n : ℕ). FollowsAt n (transit_of side on (hosts_after_note note w)) (message_events_of side on ns)) (sym (number-same side note w))
    (subst (λ (t : OnLink). FollowsAt (side_number side w) t (message_events_of side on ns)) (sym (c side on)) (goes side on (side_number side w) (transit_of side on w) (message_events_of side on ns) (l side on)))

answered-goes : (by : Side) (link peer l : ℕ) (how : Answer) (told : Received) → GoesOn (notes.Answered by link (of_host.Answered peer l how told))
answered-goes by link peer l Rfnm told side on n t ds k = taken-goes (is_same side by && link == on) n t ds k
answered-goes by link peer l Incomplete told side on n t ds k = refused-goes (is_same side by && link == on) n t ds k
answered-goes by link peer l Dead told side on n t ds k = refused-goes (is_same side by && link == on) n t ds k

-- The notes of a host that a note of the world is.

called-hosts : (by side : Side) (hn : HostNote) (w : Hosts) → host_of side (hosts_after_note (notes.Called by hn) w) ≡ after_notes (if_same side by hn) (host_of side w)
called-hosts A A hn w = refl
called-hosts A B hn w = refl
called-hosts B A hn w = refl
called-hosts B B hn w = refl

out-hosts : (by side : Side) (hn : HostNote) (w : Hosts) → host_of side (hosts_after_note (notes.Out by hn) w) ≡ after_notes (if_same side by hn) (host_of side w)
out-hosts A A hn w = refl
out-hosts A B hn w = refl
out-hosts B A hn w = refl
out-hosts B B hn w = refl

came-hosts : (by side : Side) (link : ℕ) (hn : HostNote) (w : Hosts) → host_of side (hosts_after_note (notes.Came (other by) link hn) w) ≡ after_notes (if_same side by hn) (host_of side w)
came-hosts A A link hn w = refl
came-hosts A B link hn w = refl
came-hosts B A link hn w = refl
came-hosts B B link hn w = refl

answered-hosts : (by side : Side) (link : ℕ) (hn : HostNote) (w : Hosts) → host_of side (hosts_after_note (notes.Answered by link hn) w) ≡ after_notes (if_same side by hn) (host_of side w)
answered-hosts A A link hn w = refl
answered-hosts A B link hn w = refl
answered-hosts B A link hn w = refl
answered-hosts B B link hn w = refl

-- One note, with what the subnet keeps to itself before it.
pub record Steps (note : Note) (by : Side) (hn : HostNote) (ns : List Note) (w : Hosts) : Type 0 where
  pub before : List Note
  pub run : IsRun (before ++ note ∷ []) w
  pub drops : (more : List Note) → without_subnet ((before ++ note ∷ []) ++ more) ≡ note ∷ without_subnet more
  pub links : Links ns (hosts_after_notes (before ++ note ∷ []) w)
  pub hosts : (side : Side) → host_of side (hosts_after_notes (before ++ note ∷ []) w) ≡ after_notes (if_same side by hn) (host_of side w)
  pub carries : (side : Side) (on : ℕ) → transit_of side on (hosts_after_notes (before ++ note ∷ []) w) ≡ link_state_after side on note (transit_of side on w)

module _ (ns : List Note) (w : Hosts) (k : Stand w) (m : IsOfModel (seen w)) where
  k' : Stand (counterpart w)
  k' = stand-counterpart w k

  m' : IsOfModel (seen (counterpart w))
  m' = (hosts.nodes_swapped m.0, tied-swapped m.0 (seen w) m.1)

  call-steps : (by : Side) (hn : HostNote) (call : Call) → CallNoted call hn (host_of by w) → CallFits call → Links (notes.Called by hn ∷ ns) w → Steps (notes.Called by hn) by hn ns w
  call-steps by hn call noted fits l = record {
    before = [];
    run = ((events.Call by call, record { of_host = hn; said = refl; noted = noted; fits = fits }), tt);
    drops = λ more. refl;
    links = links-after (notes.Called by hn) ns w (λ side on n t ds f. other-goes n t ds f) (called-carries by hn w) l;
    hosts = λ side. called-hosts by side hn w;
    carries = called-carries by hn w;
  }

  nothing-steps : (by : Side) → next_output (host_of by w) ≡ None → Links (notes.Out by of_host.Nothing ∷ ns) w → Steps (notes.Out by of_host.Nothing) by of_host.Nothing ns w
  nothing-steps by none l = record {
    before = [];
    run = ((events.Out by, ap (λ (o : Option (List Bool)). notes.Out by (note_of_message o)) (sym none)), tt);
    drops = λ more. refl;
    links = links-after (notes.Out by of_host.Nothing) ns w (λ side on n t ds f. other-goes n t ds f) (nothing-carries by w) l;
    hosts = λ side. out-hosts by side of_host.Nothing w;
    carries = nothing-carries by w;
  }

  -- A message goes out.

  same-side : (side : Side) → is_same side side ≡ true
  same-side A = refl
  same-side B = refl

  on-its-own : (by : Side) (link : ℕ) → (is_same by by && link == link) ≡ true
  on-its-own A link = eq-eqb link link refl
  on-its-own B link = eq-eqb link link refl

  it-takes : (by : Side) (message : List Bool) → next_output (host_of by w) ≡ Some message → transit_of by (link_in message) w ≡ transits.Free → Takes by message w
  it-takes A message e free = takes w k m message e free
  it-takes B message e free = takes (counterpart w) k' m' message e free

  out-steps : (by : Side) (message : List Bool) → next_output (host_of by w) ≡ Some message → Links (notes.Out by (of_host.Out message) ∷ ns) w → Steps (notes.Out by (of_host.Out message)) by (of_host.Out message) ns w
  out-steps by message e l =
      let free : transit_of by (link_in message) w ≡ transits.Free = sent-was (is_same by by && link_in message == link_in message) _ _ message _ (on-its-own by (link_in message)) (l by (link_in message)) in
      record {
        before = [];
        run = ((events.Out by, ap (λ (o : Option (List Bool)). notes.Out by (note_of_message o)) (sym e)), tt);
        drops = λ more. refl;
        links = links-after (notes.Out by (of_host.Out message)) ns w (λ side on n t ds f. sent-goes (is_same side by && link_in message == on) n t message ds f) (out-carries by message w k.differ (it-takes by message e free)) l;
        hosts = λ side. out-hosts by side (of_host.Out message) w;
        carries = out-carries by message w k.differ (it-takes by message e free);
      }

  -- A message comes.

  other-twice : (by : Side) → host_of (other (other by)) w ≡ host_of by w
  other-twice A = refl
  other-twice B = refl

  came-steps : (by : Side) (message : List Bool) (told : Received) → (answer_in message (host_of by w) ≡ None) × (received_in message (host_of by w) ≡ told)
      → Links (notes.Came (other by) (link_in message) (of_host.In message told) ∷ ns) w → Steps (notes.Came (other by) (link_in message) (of_host.In message told)) by (of_host.In message told) ns w
  came-steps by message told said l =
      let from : Side = other by in
      let on : ℕ = link_in message in
      let was : (x : List Bool) × (transit_of from on w ≡ transits.Accepted x) × (message ≡ from_host (side_number from w) x) = comes-was (is_same from from && on == on) _ _ message _ (on-its-own from on) (l from on) in
      let noted : note_of_bits message (host_of by w) ≡ of_host.In message told = ap (λ (o : Option Leader). note_as o message (received_in message (host_of by w))) said.0 ∙ ap (of_host.In message) said.1 in
      record {
        before = [];
        run = (
          (
            events.Deliver from on,
            ap (notes.Came from on) (sym noted ∙ ap (note_of_bits message) (sym (other-twice by)) ∙ ap (λ (b : List Bool). note_of_bits b (host_of (other from) w)) was.2)
                ∙ sym (ap (λ (t : OnLink). note_of_coming from on (arriving (side_number from w) t) w) was.1),
          ),
          tt,
        );
        drops = λ more. refl;
        links = links-after (notes.Came from on (of_host.In message told)) ns w (λ side k n t ds f. comes-goes (is_same side from && on == k) n t message ds f) (came-carries from on message told w k.differ) l;
        hosts = λ side. came-hosts by side on (of_host.In message told) w;
        carries = came-carries from on message told w k.differ;
      }

  -- An answer comes, where the subnet has what it answers.

  answer-said : (by : Side) (link peer : ℕ) (how : Answer) (told : Received) → answer_returned (state_of (host_of by w) peer) link ≡ Some told → Answers how (transit_of by link w)
      → IsSaid (notes.Answered by link (of_host.Answered peer link how told)) w
  answer-said A link peer how told h fits =
      (events.Answer A link, sym (ap (λ (o : Option (List Bool)). note_of_answering A link o w) (answering how fits) ∙ ap (notes.Answered A link) (answered-noted w k m link peer how told h fits)))
    where
      answering : (how : Answer) → Answers how (transit_of A link w) → answer_about w.number_b link (transit_of A link w) ≡ Some (answer_bits (kind_of how) w.number_b link)
      answering Rfnm e = ap (answer_about w.number_b link) e
      answering Incomplete e = ap (answer_about w.number_b link) e
      answering Dead e = ap (answer_about w.number_b link) e
  answer-said B link peer how told h fits =
      (events.Answer B link, sym (ap (λ (o : Option (List Bool)). note_of_answering B link o w) (answering how fits) ∙ ap (notes.Answered B link) (answered-noted (counterpart w) k' m' link peer how told h fits)))
    where
      answering : (how : Answer) → Answers how (transit_of B link w) → answer_about w.number_a link (transit_of B link w) ≡ Some (answer_bits (kind_of how) w.number_a link)
      answering Rfnm e = ap (answer_about w.number_a link) e
      answering Incomplete e = ap (answer_about w.number_a link) e
      answering Dead e = ap (answer_about w.number_a link) e

  taken-steps : (by : Side) (link peer : ℕ) (told : Received) → answer_returned (state_of (host_of by w) peer) link ≡ Some told
      → Links (notes.Answered by link (of_host.Answered peer link Rfnm told) ∷ ns) w → Steps (notes.Answered by link (of_host.Answered peer link Rfnm told)) by (of_host.Answered peer link Rfnm told) ns w
  taken-steps by link peer told h l = record {
    before = [];
    run = (answer-said by link peer Rfnm told h (taken-was (is_same by by && link == link) _ _ _ (on-its-own by link) (l by link)), tt);
    drops = λ more. refl;
    links = links-after (notes.Answered by link (of_host.Answered peer link Rfnm told)) ns w (answered-goes by link peer link Rfnm told) (answered-carries by link peer link Rfnm told w k.differ) l;
    hosts = λ side. answered-hosts by side link (of_host.Answered peer link Rfnm told) w;
    carries = answered-carries by link peer link Rfnm told w k.differ;
  }

-- An answer that the message did not come: before it the subnet lost the message, or found its destination dead.

same-host : (side by : Side) (link : ℕ) (t : OnLink) (w : Hosts) → host_of side (with_transit_of by link t w) ≡ host_of side w
same-host A by link t w = refl
same-host B by link t w = refl

collapse : (b : Bool) (x y t : OnLink) → (if b then x else if b then y else t) ≡ (if b then x else t)
collapse true x y t = refl
collapse false x y t = refl

abbrev LinksOf : List Note → ℕ → Side → ℕ → OnLink → Type 0
LinksOf ns n side on t = FollowsAt n t (message_events_of side on ns)

module _ (ns : List Note) (w : Hosts) (k : Stand w) (m : IsOfModel (seen w)) (by : Side) (link peer : ℕ) (told : Received) (h : answer_returned (state_of (host_of by w) peer) link ≡ Some told) where
  own : (by : Side) → (is_same by by && link == link) ≡ true
  own A = eq-eqb link link refl
  own B = eq-eqb link link refl

  after-kept : (kept : Note) (how : Answer) (mid : OnLink) → hosts_after_note kept w ≡ with_transit_of by link mid w → IsSaid kept w → Answers how mid
      → ((more : List Note) → without_subnet (kept ∷ more) ≡ without_subnet more)
      → ((side : Side) (on n : ℕ) (t : OnLink) (ds : List MessageEvent) → FollowsAt n t (message_event_of side on (notes.Answered by link (of_host.Answered peer link how told)) ∷ ds) → FollowsAt n (if is_same side by && link == on then transits.Free else t) ds)
      → Links (notes.Answered by link (of_host.Answered peer link how told) ∷ ns) w → Steps (notes.Answered by link (of_host.Answered peer link how told)) by (of_host.Answered peer link how told) ns w
  after-kept kept how mid after said fits drops goes l =
      let hn : HostNote = of_host.Answered peer link how told in
      let w1 : Hosts = hosts_after_note kept w in
      let t = stands-at (kept ∷ []) w (said, tt) k m in
      let host1 : (side : Side) → host_of side w1 ≡ host_of side w = λ side. ap (host_of side) after ∙ same-host side by link mid w in
      let transit1 : (side : Side) (on : ℕ) → transit_of side on w1 ≡ (if is_same side by && link == on then mid else transit_of side on w) = λ side on. ap (transit_of side on) after ∙ put w k.differ side by link on mid in
      let heard : answer_returned (state_of (host_of by w1) peer) link ≡ Some told = ap (λ (x : Host). answer_returned (state_of x peer) link) (host1 by) ∙ h in
      let here : transit_of by link w1 ≡ mid = transit1 by link ∙ ap (λ (b : Bool). if b then mid else transit_of by link w) (own by) in
      let last : Note = notes.Answered by link hn in
      let transit2 : (side : Side) (on : ℕ) → transit_of side on (hosts_after_note last w1) ≡ (if is_same side by && link == on then transits.Free else transit_of side on w) =
      λ side on. answered-carries by link peer link how told w1 t.0.differ side on
      ∙ ap (λ (x : OnLink). if is_same side by && link == on then transits.Free else x) (transit1 side on)
      ∙ collapse (is_same side by && link == on) transits.Free mid (transit_of side on w) in
      record {
        before = kept ∷ [];
        run = (said, (answer-said ns w1 t.0 t.1 by link peer how told heard (subst (Answers how) (sym here) fits), tt));
        drops = λ more. drops (last ∷ more);
        links = λ side on.
            subst (λ (n : ℕ). LinksOf ns n side on (transit_of side on (hosts_after_note last w1))) (sym (number-same side last w1 ∙ number-same side kept w))
            (subst (LinksOf ns (side_number side w) side on) (sym (transit2 side on)) (goes side on (side_number side w) (transit_of side on w) (message_events_of side on ns) (l side on)));
        hosts = λ side. answered-hosts by side link hn w1 ∙ ap (after_notes (if_same side by hn)) (host1 side);
        carries = transit2;
      }

  lost-steps : Links (notes.Answered by link (of_host.Answered peer link Incomplete told) ∷ ns) w → Steps (notes.Answered by link (of_host.Answered peer link Incomplete told)) by (of_host.Answered peer link Incomplete told) ns w
  lost-steps l =
      let was = refused-was (is_same by by && link == link) _ _ _ (own by) (l by link) in
      after-kept (notes.Lost by link) Incomplete transits.Lost refl (events.Lose by link, sym (ap (λ (t : OnLink). if is_accepted t then notes.Lost by link else notes.Nothing by link moves.Lose) was.1)) refl
      (λ more. refl) (λ side on n t ds f. refused-goes (is_same side by && link == on) n t ds f) l

  dead-steps : Links (notes.Answered by link (of_host.Answered peer link Dead told) ∷ ns) w → Steps (notes.Answered by link (of_host.Answered peer link Dead told)) by (of_host.Answered peer link Dead told) ns w
  dead-steps l =
      let was = refused-was (is_same by by && link == link) _ _ _ (own by) (l by link) in
      after-kept (notes.FoundDead by link) Dead transits.Dead refl (events.Dead by link, sym (ap (λ (t : OnLink). if is_accepted t then notes.FoundDead by link else notes.Nothing by link moves.Dead) was.1)) refl
      (λ more. refl) (λ side on n t ds f. refused-goes (is_same side by && link == on) n t ds f) l

-- Each note of a host.

pub step : (by : Side) (hn : HostNote) (ns : List Note) (w : Hosts) → Stand w → IsOfModel (seen w) → IsHostSaid hn (host_of by w) → NotedCallFits hn → Links (as_note by hn ∷ ns) w → Steps (as_note by hn) by hn ns w
step by (of_host.Refused call fault) ns w k m (inl e) f l = call-steps ns w k m by (of_host.Refused call fault) call (inl (sym e)) f l
step by (of_host.Refused call fault) ns w k m (inr e) f l = call-steps ns w k m by (of_host.Refused call fault) call (inr e) f l
step by (of_host.Done call) ns w k m s f l = call-steps ns w k m by (of_host.Done call) call (inl (sym s)) f l
step by (of_host.Took peer pair bytes text) ns w k m s f l = call-steps ns w k m by (of_host.Took peer pair bytes text) (calls.Take peer pair bytes) (inl (sym s)) f l
step by (of_host.State peer pair r) ns w k m s f l = call-steps ns w k m by (of_host.State peer pair r) (calls.State peer pair) (inl (sym s)) tt l
step by (of_host.Phase peer flags) ns w k m s f l = call-steps ns w k m by (of_host.Phase peer flags) (calls.Phase peer) (inl (sym s)) tt l
step by (of_host.Echoed peer byte) ns w k m s f l = call-steps ns w k m by (of_host.Echoed peer byte) (calls.Echoed peer) (inl (sym s)) tt l
step by (of_host.Errors peer errors) ns w k m s f l = call-steps ns w k m by (of_host.Errors peer errors) (calls.Errors peer) (inl (sym s)) tt l
step by (of_host.Counts peer counts) ns w k m s f l = call-steps ns w k m by (of_host.Counts peer counts) (calls.Counts peer) (inl (sym s)) tt l
step by (of_host.Waiting peer place command) ns w k m s f l = call-steps ns w k m by (of_host.Waiting peer place command) (calls.Waiting peer place) (inl (sym s)) tt l
step by (of_host.Kept peer link message) ns w k m s f l = call-steps ns w k m by (of_host.Kept peer link message) (calls.Kept peer link) (inl (sym s)) tt l
step by (of_host.Ignored ignored) ns w k m s f l = call-steps ns w k m by (of_host.Ignored ignored) calls.Ignored (inl (sym s)) tt l
step by (of_host.Out message) ns w k m s f l = out-steps ns w k m by message s l
step by of_host.Nothing ns w k m s f l = nothing-steps ns w k m by s l
step by (of_host.In message told) ns w k m s f l = came-steps ns w k m by message told s l
step by (of_host.Answered peer link Rfnm told) ns w k m s f l = taken-steps ns w k m by link peer told s l
step by (of_host.Answered peer link Incomplete told) ns w k m s f l = lost-steps ns w k m by link peer told s l
step by (of_host.Answered peer link Dead told) ns w k m s f l = dead-steps ns w k m by link peer told s l
