-- One note of many hosts: what the two of a pair and the subnet between them do is what a world of two does at
-- the note of the pair; a note of others changes nothing of them.
use Rattle.std.proofs.Common.{◌≡◌, ◌<◌, ◌≤◌, ◌^◌, ℕ, ◌==◌, Bool, true, false, not, ◌&&◌, if◌then◌else◌, List, [], ◌∷◌, Option, None, Some, Ok, Result, refl, sym, ap, ◌∙◌, subst, arith}
use Rattle.std.proofs.lemmas.Bool.{and_parts, both_ways, eq-eqb, eqb-true, ne_eqb}
use Rattle.ncp_leader.specs.declared.leader.Leader.{Leader}
use Rattle.ncp_leader.specs.declared.leader.Short.{Short}
use Rattle.ncp_leader.specs.Leader.{IsLeader, leader_in}
use Rattle.ncp_peer.specs.PeerState.{PeerState}
use Rattle.ncp_peer.specs.Hearing.{regular}
use Rattle.ncp_host.specs.Host.{Host, state_of}
use Rattle.ncp_peer.specs.Output.{leader_to, links, next_of, message_on}
use Rattle.ncp_host.specs.Turns.{next_output}
use Rattle.ncp_subnet.specs.declared.transit.Transit.TheVariants.{Free, Accepted, Delivered, Lost, Dead}
use Rattle.ncp_subnet.specs.Transit.{is_accepted, answer_kind}
use Rattle.ncp_subnet.specs.Messages.{host_in, from_host, answer_bits, arriving}
use Rattle.ncp_subnet.specs.Ways.{OnLink}
use Rattle.ncp_subnet.specs.Subnet.{transit_at}
use Rattle.ncp_transcript.specs.declared.call.Call.{Call}
use Rattle.ncp_transcript.specs.declared.input.Input.TheVariants as inputs
use Rattle.ncp_transcript.specs.declared.note.HostNote.{HostNote}
use Rattle.ncp_transcript.specs.declared.note.HostNote.TheVariants as of_host
use Rattle.ncp_transcript.specs.Noting.{CallNoted, is_answer, note_of_bits, note_of_message}
use Rattle.ncp_transcript.specs.Runs as runs
use Rattle.ncp_transcript.proofs.Saying.{noted_said}
use Rattle.ncp_transcript.specs.Asked.{peer_of_call}
use Rattle.ncp_proof_runs.specs.Peers.{peer_of_leader, peer_of_note, is_this_number, names}
use Rattle.ncp_proof_runs.proofs.States.{Turn}
use Rattle.ncp_proof_runs.proofs.Ready.{first_is, link_small}
use Rattle.ncp_proof_runs.proofs.HostRuns.{out-turn, out-leader}
use Rattle.ncp_transcript_two.specs.declared.side.Side.TheVariants.{A, B}
use Rattle.ncp_transcript_two.specs.declared.note.Note.{Note}
use Rattle.ncp_transcript_two.specs.declared.note.Note.TheVariants as notes
use Rattle.ncp_transcript_two.specs.Seen.{CallFits, state_or_new}
use Rattle.ncp_transcript_two.specs.Between.{Hosts, accepted_from, hosts_after_note, hosts_after_notes}
use Rattle.ncp_transcript_two.specs.Transcript.{IsRun}
use Rattle.ncp_transcript_two.proofs.Accepting.{both}
use Rattle.ncp_transcript_two.proofs.OnePeer.{next-message}
use Rattle.ncp_transcript_two.proofs.Written.{answer_leader, answer-led}
use Rattle.ncp_transcript_two.proofs.SeenMoves.{leader-parts}
use Rattle.ncp_transcript_two.proofs.SeenRuns.{counterpart}
use Rattle.ncp_transcript_many.specs.declared.many_event.ManyEvent.{ManyEvent}
use Rattle.ncp_transcript_many.specs.declared.many_event.ManyEvent.TheVariants as events
use Rattle.ncp_transcript_many.specs.declared.many_note.ManyNote.{ManyNote}
use Rattle.ncp_transcript_many.specs.declared.many_note.ManyNote.TheVariants as many
use Rattle.ncp_transcript_many.specs.Network.{Network, is_there, host_at, host_notes, put_transit, after_many}
use Rattle.ncp_transcript_many.specs.ManyHappening.{are_two, are_there, ManyNoted}
use Rattle.ncp_transcript_many.specs.Pairs.{with_peer, two_of, side_of_pair, on_side, if_side, note_between}
use Rattle.ncp_transcript_many.proofs.ByItself.{two-there}
use Rattle.ncp_transcript_many.proofs.Transits.{put-in-place, taken-alike, taken-elsewhere, taken-way, taken-in-place, accepted-in-place, travels-in-place, answered-in-place, from_host-led}
use Rattle.ncp_transcript_many.proofs.Alike.{noted-alike, call-names, bits-alike, message-names, answer-names-one}
use Rattle.ncp_transcript_many.proofs.NoteKinds.{Kinds, each-kind}
use Rattle.ncp_transcript_many.proofs.Sayings.{said-called, said-out, said-came, said-lost, said-dead, said-answered, said-never-came, said-never-lost, said-never-dead, said-never-answered}
use Rattle.ncp_transcript_many.proofs.Agreeing.{Fine, fine-noted, fine-subnet, Agrees, agrees-counterpart, agrees-noted, agrees-others, agrees-subnets, agrees-put, agrees-put-others}

-- The note of a pair: of the first, of the second, or none.

off : (x a y b : ℕ) → (x == a && y == b) ≡ false → x ≡ a → y ≡ b → ⊥
off x a y b differ p q = both_ways (x == a && y == b) differ (both (x == a) (y == b) (eq-eqb x a p) (eq-eqb y b q))

of-two : (a b : ℕ) (n : ManyNote) (x y : ℕ) (P : List Note → Type 0) → two_of n ≡ Some (x, y) → (x ≡ a → y ≡ b → P (on_side A n)) → (x ≡ b → y ≡ a → P (on_side B n))
    → ((x ≡ a → y ≡ b → ⊥) → (x ≡ b → y ≡ a → ⊥) → P []) → P (note_between a b n)
of-two a b n x y P named forth back none = subst (λ (o : Option (ℕ × ℕ)). P (if_side (side_of_pair a b o) n)) (sym named) (go (x == a && y == b) (x == b && y == a) refl refl)
  where
    go : (c d : Bool) → (x == a && y == b) ≡ c → (x == b && y == a) ≡ d → P (if_side (if c then Some A else (if d then Some B else None)) n)
    go true d e f = let p = and_parts (x == a) (y == b) e in forth (eqb-true x a p.0) (eqb-true y b p.1)
    go false true e f = let p = and_parts (x == b) (y == a) f in back (eqb-true x b p.0) (eqb-true y a p.1)
    go false false e f = none (off x a y b e) (off x b y a f)

of-none : (a b : ℕ) (n : ManyNote) (P : List Note → Type 0) → two_of n ≡ None → P [] → P (note_between a b n)
of-none a b n P named is = subst (λ (o : Option (ℕ × ℕ)). P (if_side (side_of_pair a b o) n)) (sym named) is

not-named : (number c : ℕ) (n : HostNote) → peer_of_note n ≡ Some c → (c ≡ number → ⊥) → names number n ≡ false
not-named number c n e ne = ap (is_this_number number) e ∙ ne_eqb c number ne

-- Which answers there are.

abbrev IsOfAnswer : ℕ → Type 0
IsOfAnswer kind = (kind ≤ 15) × (is_answer kind ≡ true) × ((kind == regular) ≡ false)

of-answer : (x : OnLink) (kind : ℕ) → answer_kind x ≡ Some kind → IsOfAnswer kind
of-answer Free kind e = absurd (cc)
of-answer (Accepted m) kind e = absurd (cc)
of-answer Delivered kind e = subst IsOfAnswer (let same : 5 ≡ kind = cc in same) (omega arith, refl, refl)
of-answer Lost kind e = subst IsOfAnswer (let same : 9 ≡ kind = cc in same) (omega arith, refl, refl)
of-answer Dead kind e = subst IsOfAnswer (let same : 7 ≡ kind = cc in same) (omega arith, refl, refl)

-- What is known of a message that goes out.

record Goes (m : Network) (message : List Bool) (host to on : ℕ) : Type 0 where
  s : PeerState
  next : next_output (host_at host m) ≡ Some message
  led : leader_in message ≡ Ok (leader_to to on)
  small : on < 2 ^ 8
  found : state_of (host_at host m) to ≡ Some s
  first : next_of to s ≡ Some (on, message)

goes-to : (m : Network) → Fine m → (host : ℕ) (message : List Bool) → is_there host m ≡ true → next_output (host_at host m) ≡ Some message → (to : ℕ) × (on : ℕ) × Goes m message host to on
goes-to m f host message there next =
    let own = f.own host there in
    let t : Turn (host_at host m).peers message = out-turn own.0 (host_at host m) message own.1 next in (
      t.n,
      t.on,
      record {
        s = t.s;
        next = next;
        led = out-leader own.0 (host_at host m) message own.1 t;
        small = link_small t.on (first_is t.n t.s links t.on message t.next).0;
        found = t.found;
        first = t.next;
      },
    )

said-goes : (message : List Bool) (h : Host) → next_output h ≡ Some message → runs.IsHostSaid (of_host.Out message) h
said-goes message h next = noted_said inputs.Out (of_host.Out message) h (sym (ap note_of_message next))

said-still : (h : Host) → next_output h ≡ None → runs.IsHostSaid of_host.Nothing h
said-still h next = noted_said inputs.Out of_host.Nothing h (sym (ap note_of_message next))

-- The many alone stay fine.

module _ (m : Network) (f : Fine m) where
  fine-delivered : (from to link : ℕ) → link < 2 ^ 8 → Fine (put_transit from to link Delivered m)
  fine-delivered from to link small = fine-subnet m _ f (put-in-place m.subnet from to link Delivered f.in_place small)

  fine-lost : (from to link : ℕ) → link < 2 ^ 8 → Fine (put_transit from to link Lost m)
  fine-lost from to link small = fine-subnet m _ f (put-in-place m.subnet from to link Lost f.in_place small)

  fine-dead : (from to link : ℕ) → link < 2 ^ 8 → Fine (put_transit from to link Dead m)
  fine-dead from to link small = fine-subnet m _ f (put-in-place m.subnet from to link Dead f.in_place small)

  fine-freed : (from to link : ℕ) → Fine (put_transit from to link Free m)
  fine-freed from to link = fine-subnet m _ f (put-in-place m.subnet from to link Free f.in_place tt)

  accepted : (from to link : ℕ) (y : List Bool) → transit_at m.subnet from to link ≡ Accepted y → (link < 2 ^ 8) × (leader_in y ≡ Ok (leader_to to link))
  accepted from to link y there = accepted-in-place to link (transit_at m.subnet from to link) y (f.in_place from to link) there

  travels : (from to link : ℕ) → is_accepted (transit_at m.subnet from to link) ≡ true → link < 2 ^ 8
  travels from to link there = travels-in-place to link (transit_at m.subnet from to link) (f.in_place from to link) there

  abbrev StaysFine : ManyNote → Type 0
  StaysFine n = Fine (after_many n m)

  fine-goes : (host : ℕ) (message : List Bool) → is_there host m ≡ true → next_output (host_at host m) ≡ Some message → StaysFine (many.Out host (of_host.Out message))
  fine-goes host message there next =
      let r = goes-to m f host message there next in
      fine-subnet (host_notes host (of_host.Out message) m) (accepted_from host message m.subnet)
      (fine-noted m host (of_host.Out message) f there (said-goes message (host_at host m) next))
      (taken-in-place m.subnet host r.0 r.1 message r.2.led r.2.small f.in_place)

  fine-kinds : Kinds m StaysFine
  fine-kinds = record {
    called = λ host call n there noted fits. fine-noted m host n f there (noted_said (inputs.Call call) n (host_at host m) noted);
    goes = fine-goes;
    still = λ host there next. fine-noted m host of_host.Nothing f there (said-still (host_at host m) next);
    came = λ from to link y two there.
        fine-noted (put_transit from to link Delivered m) to (note_of_bits (from_host from y) (host_at to m))
        (fine-delivered from to link (accepted from to link y there).0) (two-there from to m two).1
        (noted_said (inputs.In (from_host from y)) (note_of_bits (from_host from y) (host_at to m)) (host_at to m) refl);
    lost = λ from to link two there. fine-lost from to link (travels from to link there);
    dead = λ from to link two there. fine-dead from to link (travels from to link there);
    answered = λ from to link kind two there.
        fine-noted (put_transit from to link Free m) from (note_of_bits (answer_bits kind to link) (host_at from m))
        (fine-freed from to link) (two-there from to m two).0
        (noted_said (inputs.In (answer_bits kind to link)) (note_of_bits (answer_bits kind to link) (host_at from m)) (host_at from m) refl);
    never_came = λ from to link two none. f;
    never_lost = λ from to link two none. f;
    never_dead = λ from to link two none. f;
    never_answered = λ from to link two none. f;
    absent = λ event none. f;
  }

  pub fine-after : (event : ManyEvent) (n : ManyNote) → ManyNoted event n m → Fine (after_many n m)
  fine-after = each-kind m StaysFine fine-kinds

-- The pair, side A.

module _ (m : Network) (f : Fine m) (w : Hosts) (g : Agrees m w) where
  called-a : (call : Call) (n : HostNote) → CallNoted call n (host_at w.number_a m) → peer_of_call call ≡ Some w.number_b → CallNoted call n w.a × Agrees (after_many (many.Called w.number_a n) m) (hosts_after_note (notes.Called A n) w)
  called-a call n noted p =
      let two : CallNoted call n w.a = noted-alike (host_at w.number_a m) w.a call n w.number_b p g.here noted in
      (two, agrees-noted m w n f g (noted_said (inputs.Call call) n (host_at w.number_a m) noted) (noted_said (inputs.Call call) n w.a two))

  goes-a : (message : List Bool) (on : ℕ) → Goes m message w.number_a w.number_b on → (next_output w.a ≡ Some message) × Agrees (after_many (many.Out w.number_a (of_host.Out message)) m) (hosts_after_note (notes.Out A (of_host.Out message)) w)
  goes-a message on r =
      let had : state_or_new (state_of w.a w.number_b) ≡ r.s = ap state_or_new (sym g.here ∙ r.found) in
      let two : next_output w.a ≡ Some message = next-message w.number_b w.a g.own_a.numbers ∙ ap (λ (s : PeerState). message_on (next_of w.number_b s)) had ∙ ap message_on r.first in
      let noted = agrees-noted m w (of_host.Out message) f g (said-goes message (host_at w.number_a m) r.next) (said-goes message w.a two) in (
        two,
        agrees-subnets _ _ (accepted_from w.number_a message m.subnet) (accepted_from w.number_a message w.subnet) noted
            (taken-alike m.subnet w.subnet w.number_a w.number_b w.number_a w.number_b on message r.led g.many_to_b g.two_to_b (g.going on) g.going)
            (taken-alike m.subnet w.subnet w.number_b w.number_a w.number_a w.number_b on message r.led g.many_to_b g.two_to_b (g.going on) g.coming)
            (taken-way m.subnet w.number_a w.number_b w.number_a message ∙ g.many_to_b)
            (taken-way m.subnet w.number_b w.number_a w.number_a message ∙ g.many_to_a)
            (taken-way w.subnet w.number_a w.number_b w.number_a message ∙ g.two_to_b)
            (taken-way w.subnet w.number_b w.number_a w.number_a message ∙ g.two_to_a),
      )

  came-a : (link : ℕ) (y : List Bool) → link < 2 ^ 8 → leader_in (from_host w.number_a y) ≡ Ok (leader_to w.number_a link)
      → (let n : HostNote = note_of_bits (from_host w.number_a y) (host_at w.number_b m) in (n ≡ note_of_bits (from_host w.number_a y) w.b) × Agrees (after_many (many.Came w.number_a w.number_b link n) m) (hosts_after_note (notes.Came A link n) w))
  came-a link y small led =
      let bits : List Bool = from_host w.number_a y in
      let n : HostNote = note_of_bits bits (host_at w.number_b m) in
      let same : n ≡ note_of_bits bits w.b = bits-alike bits (leader_to w.number_a link) (host_at w.number_b m) w.b led g.there in
      let put = agrees-put m w link Delivered g in (
        same,
        agrees-counterpart _ _
            (agrees-noted (put_transit w.number_a w.number_b link Delivered m) _ n (fine-delivered m f w.number_a w.number_b link small) (agrees-counterpart _ _ put)
            (noted_said (inputs.In bits) n (host_at w.number_b m) refl)
            (noted_said (inputs.In bits) n w.b same)),
      )

  answered-a : (link kind : ℕ) → leader_in (answer_bits kind w.number_b link) ≡ Ok (answer_leader kind w.number_b link)
      → (let n : HostNote = note_of_bits (answer_bits kind w.number_b link) (host_at w.number_a m) in (n ≡ note_of_bits (answer_bits kind w.number_b link) w.a) × Agrees (after_many (many.Answered w.number_a w.number_b link n) m) (hosts_after_note (notes.Answered A link n) w))
  answered-a link kind led =
      let bits : List Bool = answer_bits kind w.number_b link in
      let n : HostNote = note_of_bits bits (host_at w.number_a m) in
      let same : n ≡ note_of_bits bits w.a = bits-alike bits (answer_leader kind w.number_b link) (host_at w.number_a m) w.a led g.here in (
        same,
        agrees-noted (put_transit w.number_a w.number_b link Free m) _ n (fine-freed m f w.number_a w.number_b link) (agrees-put m w link Free g)
            (noted_said (inputs.In bits) n (host_at w.number_a m) refl)
            (noted_said (inputs.In bits) n w.a same),
      )

-- The pair, and others.

abbrev Come : Network → ℕ → List Bool → ℕ → ℕ → Type 0
Come m link y from to = (transit_at m.subnet from to link ≡ Accepted y) × (leader_in (from_host from y) ≡ Ok (leader_to from link))

abbrev Has : Network → ℕ → ℕ → ℕ → ℕ → Type 0
Has m link kind from to = (answer_kind (transit_at m.subnet from to link) ≡ Some kind) × (leader_in (answer_bits kind to link) ≡ Ok (answer_leader kind to link))

module _ (m : Network) (f : Fine m) (w : Hosts) (g : Agrees m w) where
  abbrev Step : ManyNote → List Note → Type 0
  Step n ns = IsRun ns w × Agrees (after_many n m) (hosts_after_notes ns w)

  abbrev Paired : ManyNote → Type 0
  Paired n = Step n (note_between w.number_a w.number_b n)

  back : Agrees m (counterpart w)
  back = agrees-counterpart m w g

  step-called : (host : ℕ) (call : Call) (n : HostNote) → is_there host m ≡ true → CallNoted call n (host_at host m) → CallFits call → Paired (many.Called host n)
  step-called host call n there noted fits = go (peer_of_call call) refl
    where
      of : peer_of_note n ≡ peer_of_call call
      of = call-names call n (host_at host m) noted

      said : runs.IsHostSaid n (host_at host m)
      said = noted_said (inputs.Call call) n (host_at host m) noted

      first : (to : ℕ) → peer_of_call call ≡ Some to → host ≡ w.number_a → to ≡ w.number_b → Step (many.Called host n) (notes.Called A n ∷ [])
      first to e p q =
          subst (λ (k : ℕ). CallNoted call n (host_at k m) → Step (many.Called k n) (notes.Called A n ∷ [])) (sym p)
          (λ is. (let c = called-a m f w g call n is (e ∙ ap (λ (k : ℕ). Some k) q) in ((said-called A w call n c.0 fits, tt), c.1))) noted

      second : (to : ℕ) → peer_of_call call ≡ Some to → host ≡ w.number_b → to ≡ w.number_a → Step (many.Called host n) (notes.Called B n ∷ [])
      second to e p q =
          subst (λ (k : ℕ). CallNoted call n (host_at k m) → Step (many.Called k n) (notes.Called B n ∷ [])) (sym p)
          (λ is. (let c = called-a m f (counterpart w) back call n is (e ∙ ap (λ (k : ℕ). Some k) q) in ((said-called B w call n c.0 fits, tt), agrees-counterpart _ _ c.1))) noted

      go : (o : Option ℕ) → peer_of_call call ≡ o → Paired (many.Called host n)
      go None e =
          of-none w.number_a w.number_b (many.Called host n) (Step (many.Called host n)) (ap (with_peer host) (of ∙ e))
          (tt, agrees-others m w host n f g there said (λ k. ap (is_this_number w.number_b) (of ∙ e)) (λ k. ap (is_this_number w.number_a) (of ∙ e)))
      go (Some to) e =
          of-two w.number_a w.number_b (many.Called host n) host to (Step (many.Called host n)) (ap (with_peer host) (of ∙ e)) (first to e) (second to e)
          (λ this that. (tt, agrees-others m w host n f g there said (λ k. not-named w.number_b to n (of ∙ e) (this k)) (λ k. not-named w.number_a to n (of ∙ e) (that k))))

  step-goes : (host : ℕ) (message : List Bool) → is_there host m ≡ true → next_output (host_at host m) ≡ Some message → Paired (many.Out host (of_host.Out message))
  step-goes host message there next = by (goes-to m f host message there next)
    where
      n : HostNote
      n = of_host.Out message

      by : (to : ℕ) × (on : ℕ) × Goes m message host to on → Paired (many.Out host n)
      by (to, on, r) = of-two w.number_a w.number_b (many.Out host n) host to (Step (many.Out host n)) (ap (λ (x : Result Leader Short). with_peer host (peer_of_leader x)) r.led) first second none
        where
          first : host ≡ w.number_a → to ≡ w.number_b → Step (many.Out host n) (notes.Out A n ∷ [])
          first p q =
              subst (λ (k : ℕ). Goes m message k w.number_b on → Step (many.Out k n) (notes.Out A n ∷ [])) (sym p)
              (λ is. (let c = goes-a m f w g message on is in ((said-out A w n (sym (ap note_of_message c.0)), tt), c.1)))
              (subst (λ (k : ℕ). Goes m message host k on) q r)

          second : host ≡ w.number_b → to ≡ w.number_a → Step (many.Out host n) (notes.Out B n ∷ [])
          second p q =
              subst (λ (k : ℕ). Goes m message k w.number_a on → Step (many.Out k n) (notes.Out B n ∷ [])) (sym p)
              (λ is. (let c = goes-a m f (counterpart w) back message on is in ((said-out B w n (sym (ap note_of_message c.0)), tt), agrees-counterpart _ _ c.1)))
              (subst (λ (k : ℕ). Goes m message host k on) q r)

          of : peer_of_note n ≡ Some to
          of = ap peer_of_leader r.led

          at : host_in message ≡ to
          at = ap (λ (l : Leader). l.host) (leader-parts message (leader_to to on) r.led).1

          none : (host ≡ w.number_a → to ≡ w.number_b → ⊥) → (host ≡ w.number_b → to ≡ w.number_a → ⊥) → Step (many.Out host n) []
          none this that = (
            tt,
            agrees-subnets _ w (accepted_from host message m.subnet) w.subnet
                (agrees-others m w host n f g there (said-goes message (host_at host m) next) (λ k. not-named w.number_b to n of (this k)) (λ k. not-named w.number_a to n of (that k)))
                (λ link. taken-elsewhere m.subnet w.number_a w.number_b host message (λ x y. this (sym x) (sym at ∙ sym y)) link ∙ g.going link)
                (λ link. taken-elsewhere m.subnet w.number_b w.number_a host message (λ x y. that (sym x) (sym at ∙ sym y)) link ∙ g.coming link)
                (taken-way m.subnet w.number_a w.number_b host message ∙ g.many_to_b)
                (taken-way m.subnet w.number_b w.number_a host message ∙ g.many_to_a)
                g.two_to_b g.two_to_a,
          )

  step-still : (host : ℕ) → is_there host m ≡ true → next_output (host_at host m) ≡ None → Paired (many.Out host of_host.Nothing)
  step-still host there next =
      of-none w.number_a w.number_b (many.Out host of_host.Nothing) (Step (many.Out host of_host.Nothing)) refl
      (tt, agrees-others m w host of_host.Nothing f g there (said-still (host_at host m) next) (λ k. refl) (λ k. refl))

  step-came : (from to link : ℕ) (y : List Bool) → are_two from to m ≡ true → transit_at m.subnet from to link ≡ Accepted y → Paired (many.Came from to link (note_of_bits (from_host from y) (host_at to m)))
  step-came from to link y two there = of-two w.number_a w.number_b (many.Came from to link n) from to (Step (many.Came from to link n)) refl first second none
    where
      n : HostNote
      n = note_of_bits (from_host from y) (host_at to m)

      front : (link < 2 ^ 8) × (leader_in y ≡ Ok (leader_to to link))
      front = accepted m f from to link y there

      led : leader_in (from_host from y) ≡ Ok (leader_to from link)
      led = from_host-led from to link y (f.fits from (two-there from to m two).0) front.1

      first : from ≡ w.number_a → to ≡ w.number_b → Step (many.Came from to link n) (notes.Came A link n ∷ [])
      first p q =
          subst (λ (j : ℕ). Come m link y j to → Step (many.Came j to link (note_of_bits (from_host j y) (host_at to m))) (notes.Came A link (note_of_bits (from_host j y) (host_at to m)) ∷ [])) (sym p)
          (subst (λ (k : ℕ). Come m link y w.number_a k → Step (many.Came w.number_a k link (note_of_bits (from_host w.number_a y) (host_at k m))) (notes.Came A link (note_of_bits (from_host w.number_a y) (host_at k m)) ∷ [])) (sym q)
          (λ is. (let c = came-a m f w g link y front.0 is.1 in ((said-came A w link y _ (sym (g.going link) ∙ is.0) c.0, tt), c.1))))
          (there, led)

      second : from ≡ w.number_b → to ≡ w.number_a → Step (many.Came from to link n) (notes.Came B link n ∷ [])
      second p q =
          subst (λ (j : ℕ). Come m link y j to → Step (many.Came j to link (note_of_bits (from_host j y) (host_at to m))) (notes.Came B link (note_of_bits (from_host j y) (host_at to m)) ∷ [])) (sym p)
          (subst (λ (k : ℕ). Come m link y w.number_b k → Step (many.Came w.number_b k link (note_of_bits (from_host w.number_b y) (host_at k m))) (notes.Came B link (note_of_bits (from_host w.number_b y) (host_at k m)) ∷ [])) (sym q)
          (λ is. (let c = came-a m f (counterpart w) back link y front.0 is.1 in ((said-came B w link y _ (sym (g.coming link) ∙ is.0) c.0, tt), agrees-counterpart _ _ c.1))))
          (there, led)

      of : peer_of_note n ≡ Some from
      of = message-names (from_host from y) from link (host_at to m) led

      none : (from ≡ w.number_a → to ≡ w.number_b → ⊥) → (from ≡ w.number_b → to ≡ w.number_a → ⊥) → Step (many.Came from to link n) []
      none this that = (
        tt,
        agrees-others (put_transit from to link Delivered m) w to n (fine-delivered m f from to link front.0)
            (agrees-put-others m w from to link Delivered g (λ p q. this (sym p) (sym q)) (λ p q. that (sym p) (sym q)))
            (two-there from to m two).1 (noted_said (inputs.In (from_host from y)) n (host_at to m) refl)
            (λ k. not-named w.number_b from n of (λ p. that p k)) (λ k. not-named w.number_a from n of (λ p. this p k)),
      )

  step-lost : (from to link : ℕ) → are_two from to m ≡ true → is_accepted (transit_at m.subnet from to link) ≡ true → Paired (many.Lost from to link)
  step-lost from to link two there = of-two w.number_a w.number_b (many.Lost from to link) from to (Step (many.Lost from to link)) refl first second none
    where
      first : from ≡ w.number_a → to ≡ w.number_b → Step (many.Lost from to link) (notes.Lost A link ∷ [])
      first p q =
          subst (λ (j : ℕ). is_accepted (transit_at m.subnet j to link) ≡ true → Step (many.Lost j to link) (notes.Lost A link ∷ [])) (sym p)
          (subst (λ (k : ℕ). is_accepted (transit_at m.subnet w.number_a k link) ≡ true → Step (many.Lost w.number_a k link) (notes.Lost A link ∷ [])) (sym q)
          (λ is. ((said-lost A w link (ap (λ (x : OnLink). is_accepted x) (sym (g.going link)) ∙ is), tt), agrees-put m w link Lost g))) there

      second : from ≡ w.number_b → to ≡ w.number_a → Step (many.Lost from to link) (notes.Lost B link ∷ [])
      second p q =
          subst (λ (j : ℕ). is_accepted (transit_at m.subnet j to link) ≡ true → Step (many.Lost j to link) (notes.Lost B link ∷ [])) (sym p)
          (subst (λ (k : ℕ). is_accepted (transit_at m.subnet w.number_b k link) ≡ true → Step (many.Lost w.number_b k link) (notes.Lost B link ∷ [])) (sym q)
          (λ is. ((said-lost B w link (ap (λ (x : OnLink). is_accepted x) (sym (g.coming link)) ∙ is), tt), agrees-counterpart _ _ (agrees-put m (counterpart w) link Lost back)))) there

      none : (from ≡ w.number_a → to ≡ w.number_b → ⊥) → (from ≡ w.number_b → to ≡ w.number_a → ⊥) → Step (many.Lost from to link) []
      none this that = (tt, agrees-put-others m w from to link Lost g (λ p q. this (sym p) (sym q)) (λ p q. that (sym p) (sym q)))

  step-dead : (from to link : ℕ) → are_two from to m ≡ true → is_accepted (transit_at m.subnet from to link) ≡ true → Paired (many.FoundDead from to link)
  step-dead from to link two there = of-two w.number_a w.number_b (many.FoundDead from to link) from to (Step (many.FoundDead from to link)) refl first second none
    where
      first : from ≡ w.number_a → to ≡ w.number_b → Step (many.FoundDead from to link) (notes.FoundDead A link ∷ [])
      first p q =
          subst (λ (j : ℕ). is_accepted (transit_at m.subnet j to link) ≡ true → Step (many.FoundDead j to link) (notes.FoundDead A link ∷ [])) (sym p)
          (subst (λ (k : ℕ). is_accepted (transit_at m.subnet w.number_a k link) ≡ true → Step (many.FoundDead w.number_a k link) (notes.FoundDead A link ∷ [])) (sym q)
          (λ is. ((said-dead A w link (ap (λ (x : OnLink). is_accepted x) (sym (g.going link)) ∙ is), tt), agrees-put m w link Dead g))) there

      second : from ≡ w.number_b → to ≡ w.number_a → Step (many.FoundDead from to link) (notes.FoundDead B link ∷ [])
      second p q =
          subst (λ (j : ℕ). is_accepted (transit_at m.subnet j to link) ≡ true → Step (many.FoundDead j to link) (notes.FoundDead B link ∷ [])) (sym p)
          (subst (λ (k : ℕ). is_accepted (transit_at m.subnet w.number_b k link) ≡ true → Step (many.FoundDead w.number_b k link) (notes.FoundDead B link ∷ [])) (sym q)
          (λ is. ((said-dead B w link (ap (λ (x : OnLink). is_accepted x) (sym (g.coming link)) ∙ is), tt), agrees-counterpart _ _ (agrees-put m (counterpart w) link Dead back)))) there

      none : (from ≡ w.number_a → to ≡ w.number_b → ⊥) → (from ≡ w.number_b → to ≡ w.number_a → ⊥) → Step (many.FoundDead from to link) []
      none this that = (tt, agrees-put-others m w from to link Dead g (λ p q. this (sym p) (sym q)) (λ p q. that (sym p) (sym q)))

  step-answered : (from to link kind : ℕ) → are_two from to m ≡ true → answer_kind (transit_at m.subnet from to link) ≡ Some kind → Paired (many.Answered from to link (note_of_bits (answer_bits kind to link) (host_at from m)))
  step-answered from to link kind two there = of-two w.number_a w.number_b (many.Answered from to link n) from to (Step (many.Answered from to link n)) refl first second none
    where
      n : HostNote
      n = note_of_bits (answer_bits kind to link) (host_at from m)

      is_one : IsOfAnswer kind
      is_one = of-answer (transit_at m.subnet from to link) kind there

      fits : IsLeader (answer_leader kind to link)
      fits = record {
        flags = omega arith;
        kind = is_one.0;
        host = f.fits to (two-there from to m two).1;
        link = answered-in-place to link kind (transit_at m.subnet from to link) (f.in_place from to link) there;
        low = omega arith;
      }

      has : Has m link kind from to
      has = (there, answer-led kind to link fits)

      first : from ≡ w.number_a → to ≡ w.number_b → Step (many.Answered from to link n) (notes.Answered A link n ∷ [])
      first p q =
          subst (λ (j : ℕ). Has m link kind j to → Step (many.Answered j to link (note_of_bits (answer_bits kind to link) (host_at j m))) (notes.Answered A link (note_of_bits (answer_bits kind to link) (host_at j m)) ∷ [])) (sym p)
          (subst (λ (k : ℕ). Has m link kind w.number_a k → Step (many.Answered w.number_a k link (note_of_bits (answer_bits kind k link) (host_at w.number_a m))) (notes.Answered A link (note_of_bits (answer_bits kind k link) (host_at w.number_a m)) ∷ [])) (sym q)
          (λ is. (let c = answered-a m f w g link kind is.1 in ((said-answered A w link kind _ (ap (λ (x : OnLink). answer_kind x) (sym (g.going link)) ∙ is.0) c.0, tt), c.1)))) has

      second : from ≡ w.number_b → to ≡ w.number_a → Step (many.Answered from to link n) (notes.Answered B link n ∷ [])
      second p q =
          subst (λ (j : ℕ). Has m link kind j to → Step (many.Answered j to link (note_of_bits (answer_bits kind to link) (host_at j m))) (notes.Answered B link (note_of_bits (answer_bits kind to link) (host_at j m)) ∷ [])) (sym p)
          (subst (λ (k : ℕ). Has m link kind w.number_b k → Step (many.Answered w.number_b k link (note_of_bits (answer_bits kind k link) (host_at w.number_b m))) (notes.Answered B link (note_of_bits (answer_bits kind k link) (host_at w.number_b m)) ∷ [])) (sym q)
          (λ is. (let c = answered-a m f (counterpart w) back link kind is.1 in ((said-answered B w link kind _ (ap (λ (x : OnLink). answer_kind x) (sym (g.coming link)) ∙ is.0) c.0, tt), agrees-counterpart _ _ c.1)))) has

      apart : (number : ℕ) → (to ≡ number → ⊥) → names number n ≡ false
      apart number ne = answer-names-one kind to link number (host_at from m) fits is_one.1 is_one.2 (ne_eqb to number ne)

      none : (from ≡ w.number_a → to ≡ w.number_b → ⊥) → (from ≡ w.number_b → to ≡ w.number_a → ⊥) → Step (many.Answered from to link n) []
      none this that = (
        tt,
        agrees-others (put_transit from to link Free m) w from n (fine-freed m f from to link)
            (agrees-put-others m w from to link Free g (λ p q. this (sym p) (sym q)) (λ p q. that (sym p) (sym q)))
            (two-there from to m two).0 (noted_said (inputs.In (answer_bits kind to link)) n (host_at from m) refl)
            (λ k. apart w.number_b (this k)) (λ k. apart w.number_a (that k)),
      )

  -- what was wanted in vain

  step-never-came : (from to link : ℕ) → are_two from to m ≡ true → arriving from (transit_at m.subnet from to link) ≡ None → Paired (many.Nothing (events.Deliver from to link))
  step-never-came from to link two none = of-two w.number_a w.number_b (many.Nothing (events.Deliver from to link)) from to (Step (many.Nothing (events.Deliver from to link))) refl
      (λ p q. ((said-never-came A w link (ap (arriving w.number_a) (sym (g.going link)) ∙ moved w.number_a w.number_b p q), tt), g))
      (λ p q. ((said-never-came B w link (ap (arriving w.number_b) (sym (g.coming link)) ∙ moved w.number_b w.number_a p q), tt), g))
      (λ this that. (tt, g))
    where
      moved : (j k : ℕ) → from ≡ j → to ≡ k → arriving j (transit_at m.subnet j k link) ≡ None
      moved j k p q = subst (λ (i : ℕ). arriving i (transit_at m.subnet i k link) ≡ None) p (subst (λ (i : ℕ). arriving from (transit_at m.subnet from i link) ≡ None) q none)

  not-accepted : (from to link j k : ℕ) → from ≡ j → to ≡ k → is_accepted (transit_at m.subnet from to link) ≡ false → is_accepted (transit_at m.subnet j k link) ≡ false
  not-accepted from to link j k p q none = subst (λ (i : ℕ). is_accepted (transit_at m.subnet i k link) ≡ false) p (subst (λ (i : ℕ). is_accepted (transit_at m.subnet from i link) ≡ false) q none)

  step-never-lost : (from to link : ℕ) → are_two from to m ≡ true → is_accepted (transit_at m.subnet from to link) ≡ false → Paired (many.Nothing (events.Lose from to link))
  step-never-lost from to link two none = of-two w.number_a w.number_b (many.Nothing (events.Lose from to link)) from to (Step (many.Nothing (events.Lose from to link))) refl
      (λ p q. ((said-never-lost A w link (ap (λ (x : OnLink). is_accepted x) (sym (g.going link)) ∙ not-accepted from to link w.number_a w.number_b p q none), tt), g))
      (λ p q. ((said-never-lost B w link (ap (λ (x : OnLink). is_accepted x) (sym (g.coming link)) ∙ not-accepted from to link w.number_b w.number_a p q none), tt), g))
      (λ this that. (tt, g))

  step-never-dead : (from to link : ℕ) → are_two from to m ≡ true → is_accepted (transit_at m.subnet from to link) ≡ false → Paired (many.Nothing (events.Dead from to link))
  step-never-dead from to link two none = of-two w.number_a w.number_b (many.Nothing (events.Dead from to link)) from to (Step (many.Nothing (events.Dead from to link))) refl
      (λ p q. ((said-never-dead A w link (ap (λ (x : OnLink). is_accepted x) (sym (g.going link)) ∙ not-accepted from to link w.number_a w.number_b p q none), tt), g))
      (λ p q. ((said-never-dead B w link (ap (λ (x : OnLink). is_accepted x) (sym (g.coming link)) ∙ not-accepted from to link w.number_b w.number_a p q none), tt), g))
      (λ this that. (tt, g))

  step-never-answered : (from to link : ℕ) → are_two from to m ≡ true → answer_kind (transit_at m.subnet from to link) ≡ None → Paired (many.Nothing (events.Answer from to link))
  step-never-answered from to link two none = of-two w.number_a w.number_b (many.Nothing (events.Answer from to link)) from to (Step (many.Nothing (events.Answer from to link))) refl
      (λ p q. ((said-never-answered A w link (ap (λ (x : OnLink). answer_kind x) (sym (g.going link)) ∙ moved w.number_a w.number_b p q), tt), g))
      (λ p q. ((said-never-answered B w link (ap (λ (x : OnLink). answer_kind x) (sym (g.coming link)) ∙ moved w.number_b w.number_a p q), tt), g))
      (λ this that. (tt, g))
    where
      moved : (j k : ℕ) → from ≡ j → to ≡ k → answer_kind (transit_at m.subnet j k link) ≡ None
      moved j k p q = subst (λ (i : ℕ). answer_kind (transit_at m.subnet i k link) ≡ None) p (subst (λ (i : ℕ). answer_kind (transit_at m.subnet from i link) ≡ None) q none)

  -- both are there

  are-two : are_two w.number_a w.number_b m ≡ true
  are-two = both _ _ (both _ _ g.there_a g.there_b) (ap not (ne_eqb w.number_a w.number_b g.differ))

  are-two-back : are_two w.number_b w.number_a m ≡ true
  are-two-back = both _ _ (both _ _ g.there_b g.there_a) (ap not (ne_eqb w.number_b w.number_a (λ e. g.differ (sym e))))

  step-away : (from to : ℕ) (n : ManyNote) → two_of n ≡ Some (from, to) → after_many n m ≡ m → are_two from to m ≡ false → Paired n
  step-away from to n named same away =
      of-two w.number_a w.number_b n from to (Step n) named
      (λ p q. absurd (both_ways (are_two w.number_a w.number_b m) (moved w.number_a w.number_b p q) are-two))
      (λ p q. absurd (both_ways (are_two w.number_b w.number_a m) (moved w.number_b w.number_a p q) are-two-back))
      (λ this that. (tt, subst (λ (x : Network). Agrees x w) (sym same) g))
    where
      moved : (j k : ℕ) → from ≡ j → to ≡ k → are_two j k m ≡ false
      moved j k p q = subst (λ (i : ℕ). are_two i k m ≡ false) p (subst (λ (i : ℕ). are_two from i m ≡ false) q away)

  step-absent : (event : ManyEvent) → are_there event m ≡ false → Paired (many.Nothing event)
  step-absent (events.Call host call) away = of-none w.number_a w.number_b (many.Nothing (events.Call host call)) (Step (many.Nothing (events.Call host call))) refl (tt, g)
  step-absent (events.Out host) away = of-none w.number_a w.number_b (many.Nothing (events.Out host)) (Step (many.Nothing (events.Out host))) refl (tt, g)
  step-absent (events.Deliver from to link) away = step-away from to (many.Nothing (events.Deliver from to link)) refl refl away
  step-absent (events.Lose from to link) away = step-away from to (many.Nothing (events.Lose from to link)) refl refl away
  step-absent (events.Dead from to link) away = step-away from to (many.Nothing (events.Dead from to link)) refl refl away
  step-absent (events.Answer from to link) away = step-away from to (many.Nothing (events.Answer from to link)) refl refl away

  step-kinds : Kinds m Paired
  step-kinds = record {
    called = step-called;
    goes = step-goes;
    still = step-still;
    came = step-came;
    lost = step-lost;
    dead = step-dead;
    answered = step-answered;
    never_came = step-never-came;
    never_lost = step-never-lost;
    never_dead = step-never-dead;
    never_answered = step-never-answered;
    absent = step-absent;
  }

  pub paired : (event : ManyEvent) (n : ManyNote) → ManyNoted event n m → IsRun (note_between w.number_a w.number_b n) w × Agrees (after_many n m) (hosts_after_notes (note_between w.number_a w.number_b n) w)
  paired = each-kind m Paired step-kinds
