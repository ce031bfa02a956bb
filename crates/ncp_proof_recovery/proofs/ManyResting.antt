-- Meant for other crates too: they cite what is public here.
--
-- Where a host has nothing ready, its lowest link to a peer that keeps a message moves, or holds it; and where none
-- keeps one, nothing of the host to the peer is ready, in transit or held.
use Rattle.std.proofs.Common.{◌≡◌, ◌≢◌, ◌≤◌, ℕ, ◌==◌, Bool, true, false, if◌then◌else◌, List, [], ◌∷◌, Option, None, Some, Ok, is_some, inl, inr, refl, sym, ap, ◌∙◌, subst}
use Rattle.std.proofs.lemmas.Bool.{eqb-true}
use Rattle.ncp_wire.specs.declared.links.TheConstants.{LAST_LINK}
use Rattle.ncp_slot.specs.Slots.{slot_at}
use Rattle.ncp_proof_machine.specs.Hosts.{Node}
use Rattle.ncp_subnet.specs.Transit.{is_accepted, answer_kind}
use Rattle.ncp_subnet.specs.Messages.{arriving, answer_about}
use Rattle.ncp_subnet.specs.Subnet.{transit_at}
use Rattle.ncp_peer.specs.PeerState.{PeerState}
use Rattle.ncp_host.specs.Host.{Host, state_in, state_of, if_known}
use Rattle.ncp_peer.specs.PeerCalls.{kept_for}
use Rattle.ncp_peer.specs.Output.{next_of}
use Rattle.ncp_host.specs.Turns.{first_message, message_in_turn, next_output}
use Rattle.ncp_proof_runs.proofs.States.{message_cons}
use Rattle.ncp_transcript.specs.declared.call.Call.{Call}
use Rattle.ncp_transcript.specs.declared.note.HostNote.{HostNote}
use Rattle.ncp_transcript.specs.Notes.{done_or_refused}
use Rattle.ncp_transcript.specs.Noting.{CallNoted, note_of_message}
use Rattle.ncp_transcript_two.specs.Subnet.{Holds, TransitByLink, Free, Accepted, Delivered, Lost, Dead}
use Rattle.ncp_transcript_two.specs.World.{World}
use Rattle.ncp_transcript_two.specs.Tie.{Represents}
use Rattle.ncp_transcript_two.specs.declared.side.Side.TheVariants.{A}
use Rattle.ncp_transcript_two.specs.Between.{Hosts}
use Rattle.ncp_transcript_two.specs.Happening.{note_of_coming, note_of_answering}
use Rattle.ncp_transcript_two.specs.Seen.{state_or_new, had_for, seen}
use Rattle.ncp_transcript_many.specs.declared.many_event.ManyEvent.{ManyEvent}
use Rattle.ncp_transcript_many.specs.declared.many_note.ManyNote.{ManyNote}
use Rattle.ncp_transcript_many.specs.Network.{Network, is_there, host_at, between}
use Rattle.ncp_transcript_many.specs.ManyHappening.{are_there, are_two, by_numbers, IsOfTwo, IfThere, ManyNoted}
use Rattle.ncp_transcript_many.specs.ManyTranscript.{IsManyTranscript, Noted_many}
use Rattle.ncp_transcript_many.specs.Pairs.{notes_between, hosts_between}
use Rattle.ncp_transcript_many.proofs.EachPair.{pair-runs, pair-seen}
use Rattle.ncp_proof_quiescence.specs.Settled.{is_held}
use Rattle.ncp_proof_quiescence.proofs.Beginning.{new-none}
use Rattle.ncp_proof_quiescence.proofs.Resting.{stands-at, kept-is, still, held-on}
use Rattle.ncp_proof_recovery.specs.ManySettling.{IsStillTo, ManyByItself, ManyGoOnce, many_says_nothing, IsManyTried}

-- A host without a next message has none for any peer.

none-in-turn : (ps : List (ℕ × PeerState)) (n : ℕ) → message_in_turn ps ≡ None → next_of n (state_or_new (state_in ps n)) ≡ None
none-in-turn [] n e = new-none n
none-in-turn (p ∷ ps) n e = go (next_of p.0 p.1) refl (none-in-turn ps n)
  where
    told : (o : Option (ℕ × List Bool)) → next_of p.0 p.1 ≡ o → first_message o (message_in_turn ps) ≡ None
    told o q = ap (λ (x : Option (ℕ × List Bool)). first_message x (message_in_turn ps)) (sym q) ∙ sym (message_cons p ps) ∙ e

    by : (b : Bool) → (p.0 == n) ≡ b → next_of p.0 p.1 ≡ None → next_of n (state_or_new (state_in ps n)) ≡ None → next_of n (state_or_new (if b then Some p.1 else state_in ps n)) ≡ None
    by true g q rest = ap (λ (k : ℕ). next_of k p.1) (sym (eqb-true p.0 n g)) ∙ q
    by false g q rest = rest

    go : (o : Option (ℕ × List Bool)) → next_of p.0 p.1 ≡ o → (message_in_turn ps ≡ None → next_of n (state_or_new (state_in ps n)) ≡ None) → next_of n (state_or_new (if p.0 == n then Some p.1 else state_in ps n)) ≡ None
    go None q rest = by (p.0 == n) refl q (rest (told None q))
    go (Some out) q rest = let never : Some out.1 ≡ None = told (Some out) q in absurd (cc never)

-- what is noted where an event's hosts are there
noted-there : (event : ManyEvent) (note : ManyNote) (m : Network) → are_there event m ≡ true → ManyNoted event note m → IsOfTwo event note m
noted-there event note m there noted = subst (λ (b : Bool). IfThere b event note m) there noted

module _ (w : Noted_many) (from : ℕ) (there : is_there from w.hosts ≡ true) where
  no-message : (o : Option (List Bool)) → many_says_nothing (ManyNote.Out from (note_of_message o)) ≡ true → o ≡ None
  no-message None says = refl
  no-message (Some message) says = absurd (cc says)

  -- no link was ready
  pub none-out : (after : Noted_many) → IsManyTried (ManyEvent.Out from) false w after → next_output (host_at from w.hosts) ≡ None
  none-out after (note, noted, says, same) =
      let two = noted-there (ManyEvent.Out from) note w.hosts there noted in
      no-message (next_output (host_at from w.hosts)) (ap many_says_nothing (sym (two.said ∙ ap (by_numbers from from) two.noted)) ∙ says)

-- One host, of which nothing is ready, and a peer.

module _ (w : Noted_many) (t : IsManyTranscript w.notes w.hosts) (from to : ℕ) (i : is_there from w.hosts ≡ true) (j : is_there to w.hosts ≡ true) (differ : from ≢ to) (both : are_two from to w.hosts ≡ true)
    (none : next_output (host_at from w.hosts) ≡ None) where
  abbrev has : PeerState
  has = had_for to (host_at from w.hosts)

  abbrev flow : TransitByLink
  flow on = transit_at w.hosts.subnet from to on

  stands : (n : Node) × Represents to n has flow
  stands =
      let ns = notes_between from to w.notes in
      let s = stands-at A ns (hosts_between from to w.notes) (pair-runs w.notes w.hosts t from to i j differ) in
      (s.0, subst (λ (v : World). Represents v.there s.0 v.this v.going) (pair-seen w.notes w.hosts t from to i j differ) s.1)

  nothing-next : next_of to has ≡ None
  nothing-next = none-in-turn (host_at from w.hosts).peers to none

  -- none is kept
  pub quiescent : ((link : ℕ) → link ≤ LAST_LINK → kept_for (state_of (host_at from w.hosts) to) link ≡ None) → IsStillTo from to w.hosts
  quiescent kept =
      let s = stands in
      still to s.0 has flow s.1 nothing-next (λ on h. sym (kept-is (state_of (host_at from w.hosts) to) on) ∙ kept on h)

  known-of : (o : Option PeerState) (on : ℕ) → is_some (kept_for o on) ≡ true → (s : PeerState) × (o ≡ Some s)
  known-of None on e = absurd (cc e)
  known-of (Some s) on e = (s, refl)

  woken : (peer : ℕ) (s : PeerState) (h : Host) (n : HostNote) → state_of h peer ≡ Some s → CallNoted (Call.Wake peer) n h → n ≡ HostNote.Done (Call.Wake peer)
  woken peer s h n e (inl is) = is ∙ ap (λ (o : Option PeerState). done_or_refused (Call.Wake peer) (if_known o (λ x. Ok tt))) e
  woken peer s h n e (inr want) = absurd (cc want.takes)

  abbrev two_hosts : Hosts
  two_hosts = between from to w.hosts

  cannot-come : (link : ℕ) (h : Holds) → many_says_nothing (by_numbers from to (note_of_coming A link (arriving from h) two_hosts)) ≡ true → is_accepted h ≡ false
  cannot-come link Free says = refl
  cannot-come link (Accepted m) says = absurd (cc says)
  cannot-come link Delivered says = refl
  cannot-come link Lost says = refl
  cannot-come link Dead says = refl

  cannot-answer : (link : ℕ) (h : Holds) → many_says_nothing (by_numbers from to (note_of_answering A link (answer_about to link h) two_hosts)) ≡ true → answer_kind h ≡ None
  cannot-answer link Free says = refl
  cannot-answer link (Accepted m) says = refl
  cannot-answer link Delivered says = absurd (cc says)
  cannot-answer link Lost says = absurd (cc says)
  cannot-answer link Dead says = absurd (cc says)

  -- one is kept, and does not come and is not answered: it is held, and so the wake of the peer is done
  pub wakes : (link : ℕ) (n1 n2 n3 : Noted_many) → is_some (kept_for (state_of (host_at from w.hosts) to) link) ≡ true → IsManyTried (ManyEvent.Deliver from to link) false w n1 → IsManyTried (ManyEvent.Answer from to link) false n1 n2
      → IsManyTried (ManyEvent.Call from (Call.Wake to)) true n2 n3 → ManyGoOnce w n3
  wakes link n1 n2 n3 kept came_not answered_not call =
      let e1 : n1 ≡ w = came_not.3 in
      let e2 : n2 ≡ w = answered_not.3 ∙ e1 in
      let a : IsManyTried (ManyEvent.Answer from to link) false w n2 = subst (λ (x : Noted_many). IsManyTried (ManyEvent.Answer from to link) false x n2) e1 answered_not in
      let c : IsManyTried (ManyEvent.Call from (Call.Wake to)) true w n3 = subst (λ (x : Noted_many). IsManyTried (ManyEvent.Call from (Call.Wake to)) true x n3) e2 call in
      let gone = noted-there (ManyEvent.Deliver from to link) came_not.0 w.hosts both came_not.1 in
      let told = noted-there (ManyEvent.Answer from to link) a.0 w.hosts both a.1 in
      let here : is_accepted (flow link) ≡ false = cannot-come link (flow link) (ap many_says_nothing (sym (gone.said ∙ ap (by_numbers from to) gone.noted)) ∙ came_not.2) in
      let away : answer_kind (flow link) ≡ None = cannot-answer link (flow link) (ap many_says_nothing (sym (told.said ∙ ap (by_numbers from to) told.noted)) ∙ a.2) in
      let s = stands in
      let held : is_held (slot_at has.slots link) ≡ true = held-on to s.0 has flow s.1 nothing-next link (sym (ap is_some (kept-is (state_of (host_at from w.hosts) to) link)) ∙ kept) here away in
      let one = noted-there (ManyEvent.Call from (Call.Wake to)) c.0 w.hosts i c.1 in
      let known = known-of (state_of (host_at from w.hosts) to) link kept in
      let said : c.0 ≡ ManyNote.Called from (HostNote.Done (Call.Wake to)) =
      one.said ∙ ap (by_numbers from from) one.noted.said ∙ ap (ManyNote.Called from) (woken to known.0 (host_at from w.hosts) one.noted.of_host known.1 one.noted.noted) in
      (c.0, (ManyEvent.Call from (Call.Wake to), c.1), subst (λ (x : ManyNote). ManyByItself x w.hosts) (sym said) (link, held), c.3, c.4)

  -- a call always says something
  pub call-says : (n2 n3 : Noted_many) → n2 ≡ w → IsManyTried (ManyEvent.Call from (Call.Wake to)) false n2 n3 → ⊥
  call-says n2 n3 e call =
      let c : IsManyTried (ManyEvent.Call from (Call.Wake to)) false w n3 = subst (λ (x : Noted_many). IsManyTried (ManyEvent.Call from (Call.Wake to)) false x n3) e call in
      let one = noted-there (ManyEvent.Call from (Call.Wake to)) c.0 w.hosts i c.1 in
      let is : many_says_nothing (ManyNote.Called from one.noted.of_host) ≡ true = ap many_says_nothing (sym (one.said ∙ ap (by_numbers from from) one.noted.said)) ∙ c.2 in
      absurd (cc is)
