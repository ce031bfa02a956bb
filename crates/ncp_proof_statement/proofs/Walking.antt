-- The histories of two hosts are those of the notes of each, over a whole transcript.
use Rattle.std.proofs.Common.{◌≡◌, ℕ, Bool, true, false, cond, if◌then◌else◌, List, [], ◌∷◌, Option, None, Some, Result, Ok, refl, sym, ap, ◌∙◌, subst}
use Rattle.std.proofs.lemmas.Bool.{eq-eqb}
use Rattle.ncp_leader.specs.declared.leader.Leader.{Leader}
use Rattle.ncp_leader.specs.declared.leader.Short.{Short}
use Rattle.ncp_leader.specs.declared.fault.MessageFault.{MessageFault}
use Rattle.ncp_leader.specs.Message.{Message, message_in}
use Rattle.ncp_model.specs.declared.call_fault.CallFault.{CallFault}
use Rattle.ncp_model.specs.declared.pair.Pair.{Pair}
use Rattle.ncp_model.specs.Peers.{Take}
use Rattle.ncp_proof_endpoint.specs.Histories.{PairHistory}
use Rattle.ncp_proof_machine.specs.Resets.{This, That}
use Rattle.ncp_proof_machine.specs.Hosts.{Pasts, TwoNodes, nodes_swapped}
use Rattle.ncp_proof_machine.specs.Hosts.{past_of}
use Rattle.ncp_peer.specs.PeerState.{PeerState}
use Rattle.ncp_host.specs.Host.{Host}
use Rattle.ncp_host.specs.Arrivals.{received_in}
use Rattle.ncp_host.specs.Turns.{next_output}
use Rattle.ncp_peer.specs.declared.received.Received.{Received}
use Rattle.ncp_subnet.specs.Messages.{arriving, answer_about}
use Rattle.ncp_transcript.specs.declared.call.Call.{Call}
use Rattle.ncp_transcript.specs.declared.note.HostNote.{HostNote}
use Rattle.ncp_transcript.specs.Noting.{CallNoted, note_of_bits, note_of_message}
use Rattle.ncp_transcript.proofs.AskedCalls.{reads}
use Rattle.ncp_proof_runs.specs.Peers.{names, is_this_number, peer_of_leader, notes_of_peer}
use Rattle.ncp_proof_runs.specs.Histories.{past_message, past_bits, past_asked, past_by, past_from}
use Rattle.ncp_transcript_two.specs.Subnet.{Holds, Free, Accepted, Delivered, Lost, Dead, from_host}
use Rattle.ncp_transcript.specs.Asked.{Asked, Asks, Asks_echo, Asks_reset, Asks_wake, Reply, asked_in}
use Rattle.ncp_transcript_two.specs.World.{World, Called}
use Rattle.ncp_transcript_two.specs.Tie.{Refines}
use Rattle.ncp_transcript_two.specs.Watch.{Both, pasts_after_asked, pasts_after_message, histories_after_note}
use Rattle.ncp_transcript_two.specs.Seen.{seen, had_for, as_rules, done, call_body, body_of, side_of, watched}
use Rattle.ncp_transcript_two.specs.Sides.{notes_at_side}
use Rattle.ncp_transcript_two.specs.declared.side.Side.{Side}
use Rattle.ncp_transcript_two.specs.declared.side.Side.TheVariants.{A, B}
use Rattle.ncp_transcript_two.specs.declared.event.Event.{Event}
use Rattle.ncp_transcript_two.specs.declared.note.Move.{Move}
use Rattle.ncp_transcript_two.specs.declared.note.Note.{Note}
use Rattle.ncp_transcript_two.specs.Between.{Hosts, other, side_number, host_of}
use Rattle.ncp_transcript_two.specs.Happening.{Noted, note_of_coming, note_of_answering}
use Rattle.ncp_transcript_two.specs.Naming.{IsAnswerAbout}
use Rattle.ncp_transcript_two.proofs.SeenSteps.{Stand}
use Rattle.ncp_transcript_two.proofs.SeenRuns.{counterpart, stand-counterpart}
use Rattle.ncp_transcript_two.proofs.Ties.{tied-swapped}
use Rattle.ncp_transcript_two.proofs.Naming.{AnswerNamed, answer-named}
use Rattle.ncp_proof_promises.proofs.CallsNoted.{asked-names, own-kinds}
use Rattle.ncp_proof_promises.proofs.MadeWalking.{ours, judged, front, unrefused, noted-in}
use Rattle.ncp_proof_statement.proofs.Bridging.{call-here, message-here}

abbrev pub mine : Side → Both → Pasts
mine A p = p.this
mine B p = p.that

-- the answer that comes to a host, if one comes
abbrev BodyAbout : Option (List Bool) → ℕ → ℕ → Host → Type 0
BodyAbout None n link h = Unit {0}
BodyAbout (Some bits) n link h = IsAnswerAbout n link (note_of_bits bits h)

module _ (pair : Pair) where
  abbrev pub StepAt : Side → Note → Hosts → Both → Type 0
  StepAt side note w p =
      past_of (mine side (watched (as_rules (side_of note)) (body_of note) (seen w) p)) pair
      ≡ past_from pair (notes_of_peer (side_number (other side) w) (notes_at_side side note)) (ours side w) (past_of (mine side p) pair)

  -- a note that adds nothing, whether it names the peer or not
  still : (b : Bool) (hn : HostNote) (s : PeerState) (x : PairHistory) → past_by pair hn s x ≡ x → x ≡ past_from pair (cond b (hn ∷ []) []) s x
  still true hn s x e = sym e
  still false hn s x e = refl

  -- what is asked of the peer
  asked-here : (n : ℕ) (asked : Asked) (s : PeerState) (pasts : Pasts) → past_of (pasts_after_asked asked s.peer pasts) pair ≡ past_asked pair (Some (n, asked)) s (past_of pasts pair)
  asked-here n (Asks q call) s pasts = call-here pair q call s pasts
  asked-here n (Asks_echo byte) s pasts = refl
  asked-here n Asks_reset s pasts = refl
  asked-here n Asks_wake s pasts = refl

  -- A call at this side.

  module _ (side : Side) (w : Hosts) (k : Stand w) (p : Both) where
    abbrev Own : HostNote → Type 0
    Own hn = past_of (mine side (watched (as_rules side) (call_body hn) (seen w) p)) pair ≡ past_from pair (notes_of_peer (side_number (other side) w) (hn ∷ [])) (ours side w) (past_of (mine side p) pair)

    own-asked : (asked : Asked) (answer : Reply) → past_of (mine side (histories_after_note (as_rules side) (Called asked answer) (seen w) p)) pair ≡ past_of (pasts_after_asked asked (ours side w).peer (mine side p)) pair
    own-asked asked answer = go side
      where
        go : (s : Side) → past_of (mine s (histories_after_note (as_rules s) (Called asked answer) (seen w) p)) pair ≡ past_of (pasts_after_asked asked (ours s w).peer (mine s p)) pair
        go A = refl
        go B = refl

    named : (b : Bool) (hn : HostNote) → b ≡ true → past_by pair hn (ours side w) (past_of (mine side p) pair) ≡ past_from pair (cond b (hn ∷ []) []) (ours side w) (past_of (mine side p) pair)
    named true hn e = refl
    named false hn e = absurd (cc e)

    own-asks : (asked : Asked) (answer : Reply) (hn : HostNote) → names (side_number (other side) w) hn ≡ true
        → past_by pair hn (ours side w) (past_of (mine side p) pair) ≡ past_asked pair (Some (side_number (other side) w, asked)) (ours side w) (past_of (mine side p) pair)
        → past_of (mine side (histories_after_note (as_rules side) (Called asked answer) (seen w) p)) pair ≡ past_from pair (notes_of_peer (side_number (other side) w) (hn ∷ [])) (ours side w) (past_of (mine side p) pair)
    own-asks asked answer hn is says =
        own-asked asked answer
        ∙ asked-here (side_number (other side) w) asked (ours side w) (mine side p)
        ∙ sym says
        ∙ named (names (side_number (other side) w) hn) hn is

    refused : (call : Call) (fault : CallFault) → Own (HostNote.Refused call fault)
    refused call fault = still (names (side_number (other side) w) (HostNote.Refused call fault)) (HostNote.Refused call fault) (ours side w) (past_of (mine side p) pair) refl

    own-done : (call : Call) (asked : Asked) → asked_in call ≡ Some (side_number (other side) w, asked) → Own (HostNote.Done call)
    own-done call asked is =
        ap (λ (o : Option (ℕ × Asked)). past_of (mine side (watched (as_rules side) (done o) (seen w) p)) pair) is
        ∙ own-asks asked (Reply.Replied (Ok tt)) (HostNote.Done call) (asked-names (side_number (other side) w) call asked is)
        (ap (λ (o : Option (ℕ × Asked)). past_asked pair o (ours side w) (past_of (mine side p) pair)) is)

    own-took : (q : Pair) (bytes : ℕ) (text : List Bool) → Own (HostNote.Took (side_number (other side) w) q bytes text)
    own-took q bytes text = own-asks (Asks q (Take bytes)) (Reply.Took (Ok text)) (HostNote.Took (side_number (other side) w) q bytes text) (eq-eqb (side_number (other side) w) (side_number (other side) w) refl) refl

    was-read : (hn : HostNote) (call : Call) → reads hn ≡ Some call → Own hn
    was-read (HostNote.Done call) of e = absurd (cc e)
    was-read (HostNote.Took peer q bytes text) of e = absurd (cc e)
    was-read (HostNote.In message told) of e = absurd (cc e)
    was-read hn of e = still (names (side_number (other side) w) hn) hn (ours side w) (past_of (mine side p) pair) refl

    own : (call : Call) (hn : HostNote) → CallNoted call hn (host_of side w) → Own hn
    own = own-kinds side w k Own own-done own-took refused was-read

  -- a call at the other

  a-aside : (o : Option (ℕ × Asked)) (v : World) (p : Both) → (watched That (done o) v p).this ≡ p.this
  a-aside None v p = refl
  a-aside (Some (peer, asked)) v p = refl

  b-aside : (o : Option (ℕ × Asked)) (v : World) (p : Both) → (watched This (done o) v p).that ≡ p.that
  b-aside None v p = refl
  b-aside (Some (peer, asked)) v p = refl

  a-call-aside : (hn : HostNote) (v : World) (p : Both) → (watched That (call_body hn) v p).this ≡ p.this
  a-call-aside (HostNote.Done call) v p = a-aside (asked_in call) v p
  a-call-aside hn v p = refl

  b-call-aside : (hn : HostNote) (v : World) (p : Both) → (watched This (call_body hn) v p).that ≡ p.that
  b-call-aside (HostNote.Done call) v p = b-aside (asked_in call) v p
  b-call-aside hn v p = refl

  called : (side by : Side) (w : Hosts) → Stand w → (p : Both) (call : Call) (hn : HostNote) → CallNoted call hn (host_of by w) → StepAt side (Note.Called by hn) w p
  called A A w k p call hn c = own A w k p call hn c
  called B B w k p call hn c = own B w k p call hn c
  called A B w k p call hn c = ap (λ (x : Pasts). past_of x pair) (a-call-aside hn (seen w) p)
  called B A w k p call hn c = ap (λ (x : Pasts). past_of x pair) (b-call-aside hn (seen w) p)

  -- a message that goes out

  went : (side by : Side) (w : Hosts) (p : Both) (o : Option (List Bool)) → StepAt side (Note.Out by (note_of_message o)) w p
  went A A w p None = still (names w.number_b HostNote.Nothing) HostNote.Nothing (ours A w) (past_of p.this pair) refl
  went A A w p (Some m) = still (names w.number_b (HostNote.Out m)) (HostNote.Out m) (ours A w) (past_of p.this pair) refl
  went A B w p None = refl
  went A B w p (Some m) = refl
  went B A w p None = refl
  went B A w p (Some m) = refl
  went B B w p None = still (names w.number_a HostNote.Nothing) HostNote.Nothing (ours B w) (past_of p.that pair) refl
  went B B w p (Some m) = still (names w.number_a (HostNote.Out m)) (HostNote.Out m) (ours B w) (past_of p.that pair) refl

  -- an answer that comes

  was-answered : (side by : Side) (link n : ℕ) (w : Hosts) (p : Both) (hn : HostNote) → IsAnswerAbout n link hn → StepAt side (Note.Answered by link hn) w p
  was-answered side by link n w p hn (how, told, is) = subst (λ (x : HostNote). StepAt side (Note.Answered by link x) w p) (sym is) (go side by)
    where
      go : (side by : Side) → StepAt side (Note.Answered by link (HostNote.Answered n link how told)) w p
      go A A = still (names w.number_b (HostNote.Answered n link how told)) (HostNote.Answered n link how told) (ours A w) (past_of p.this pair) refl
      go A B = refl
      go B A = refl
      go B B = still (names w.number_a (HostNote.Answered n link how told)) (HostNote.Answered n link how told) (ours B w) (past_of p.that pair) refl

  -- nothing comes

  none-came : (side by : Side) (link : ℕ) (kind : _) (w : Hosts) (p : Both) → StepAt side (Note.Nothing by link kind) w p
  none-came A A link kind w p = refl
  none-came A B link kind w p = refl
  none-came B A link kind w p = refl
  none-came B B link kind w p = refl

  was-lost : (side by : Side) (link : ℕ) (w : Hosts) (p : Both) → StepAt side (Note.Lost by link) w p
  was-lost A A link w p = refl
  was-lost A B link w p = refl
  was-lost B A link w p = refl
  was-lost B B link w p = refl

  was-dead : (side by : Side) (link : ℕ) (w : Hosts) (p : Both) → StepAt side (Note.FoundDead by link) w p
  was-dead A A link w p = refl
  was-dead A B link w p = refl
  was-dead B A link w p = refl
  was-dead B B link w p = refl

  -- A message of side A that comes to side B.

  module _ (w : Hosts) (k : Stand w) (x : TwoNodes) (t : Refines x (seen w)) (link : ℕ) (m : List Bool) (e : (seen w).going link ≡ Accepted m) where
    pub come-here : (told : Received) (pasts : Pasts) → past_of (pasts_after_message link (from_host w.number_a m) (message_in (from_host w.number_a m)) (had_for w.number_a w.b) pasts) pair
        ≡ past_from pair (notes_of_peer w.number_a (HostNote.In (from_host w.number_a m) told ∷ [])) (had_for w.number_a w.b) (past_of pasts pair)
    come-here told pasts =
        let j = judged link (message_in (from_host w.number_a m)) (had_for w.number_a w.b) (unrefused w k x t link m e) in
        subst (λ (o : Result Message MessageFault). past_of (pasts_after_message link (from_host w.number_a m) o (had_for w.number_a w.b) pasts) pair ≡ past_message pair link (from_host w.number_a m) o (had_for w.number_a w.b) (past_of pasts pair)) (sym j.is)
        (message-here pair link (from_host w.number_a m) j.m (had_for w.number_a w.b) pasts j.good j.sized)
        ∙ ap (λ (r : Result Leader Short). past_bits pair r (from_host w.number_a m) (had_for w.number_a w.b) (past_of pasts pair)) (sym (front w k x t link m e))
        ∙ go (names w.number_a (HostNote.In (from_host w.number_a m) told)) (ap (λ (r : Result Leader Short). is_this_number w.number_a (peer_of_leader r)) (front w k x t link m e) ∙ eq-eqb w.number_a w.number_a refl)
      where
        go : (b : Bool) → b ≡ true → past_by pair (HostNote.In (from_host w.number_a m) told) (had_for w.number_a w.b) (past_of pasts pair)
            ≡ past_from pair (cond b (HostNote.In (from_host w.number_a m) told ∷ []) []) (had_for w.number_a w.b) (past_of pasts pair)
        go true e = refl
        go false e = absurd (cc e)

    a-comes : (side : Side) (p : Both) → StepAt side (Note.Came A link (note_of_bits (from_host w.number_a m) w.b)) w p
    a-comes side p = subst (λ (hn : HostNote). StepAt side (Note.Came A link hn) w p) (sym (noted-in w k x t link m e)) (go side)
      where
        go : (side : Side) → StepAt side (Note.Came A link (HostNote.In (from_host w.number_a m) (received_in (from_host w.number_a m) w.b))) w p
        go A = refl
        go B = come-here (received_in (from_host w.number_a m) w.b) p.that

  a-arrives : (w : Hosts) → Stand w → (x : TwoNodes) → Refines x (seen w) → (link : ℕ) (h : Holds) → (seen w).going link ≡ h → (side : Side) (p : Both) → StepAt side (note_of_coming A link (arriving w.number_a h) w) w p
  a-arrives w k x t link Free e side p = none-came side A link Move.Deliver w p
  a-arrives w k x t link Delivered e side p = none-came side A link Move.Deliver w p
  a-arrives w k x t link Lost e side p = none-came side A link Move.Deliver w p
  a-arrives w k x t link Dead e side p = none-came side A link Move.Deliver w p
  a-arrives w k x t link (Accepted m) e side p = a-comes w k x t link m e side p

  b-comes : (w : Hosts) → Stand w → (x : TwoNodes) → Refines x (seen w) → (link : ℕ) (m : List Bool) → (seen w).coming link ≡ Accepted m → (side : Side) (p : Both) → StepAt side (Note.Came B link (note_of_bits (from_host w.number_b m) w.a)) w p
  b-comes w k x t link m e side p = subst (λ (hn : HostNote). StepAt side (Note.Came B link hn) w p) (sym (noted-in (counterpart w) (stand-counterpart w k) (nodes_swapped x) (tied-swapped x (seen w) t) link m e)) (go side)
    where
      go : (side : Side) → StepAt side (Note.Came B link (HostNote.In (from_host w.number_b m) (received_in (from_host w.number_b m) w.a))) w p
      go A = come-here (counterpart w) (stand-counterpart w k) (nodes_swapped x) (tied-swapped x (seen w) t) link m e (received_in (from_host w.number_b m) w.a) p.this
      go B = refl

  b-arrives : (w : Hosts) → Stand w → (x : TwoNodes) → Refines x (seen w) → (link : ℕ) (h : Holds) → (seen w).coming link ≡ h → (side : Side) (p : Both) → StepAt side (note_of_coming B link (arriving w.number_b h) w) w p
  b-arrives w k x t link Free e side p = none-came side B link Move.Deliver w p
  b-arrives w k x t link Delivered e side p = none-came side B link Move.Deliver w p
  b-arrives w k x t link Lost e side p = none-came side B link Move.Deliver w p
  b-arrives w k x t link Dead e side p = none-came side B link Move.Deliver w p
  b-arrives w k x t link (Accepted m) e side p = b-comes w k x t link m e side p

  -- Each event.

  answered-here : (by side : Side) (link n : ℕ) (o : Option (List Bool)) (w : Hosts) (p : Both) → BodyAbout o n link (host_of by w) → StepAt side (note_of_answering by link o w) w p
  answered-here by side link n None w p k = none-came side by link Move.Answer w p
  answered-here by side link n (Some bits) w p k = was-answered side by link n w p (note_of_bits bits (host_of by w)) k

  told-as : (o : Option (List Bool)) (n link : ℕ) (w : Hosts) → AnswerNamed o n link w → BodyAbout o n link w.a
  told-as None n link w k = tt
  told-as (Some _) n link w k = k

  lost-here : (side by : Side) (link : ℕ) (b : Bool) (w : Hosts) (p : Both) → StepAt side (if b then Note.Lost by link else Note.Nothing by link Move.Lose) w p
  lost-here side by link true w p = was-lost side by link w p
  lost-here side by link false w p = none-came side by link Move.Lose w p

  dead-here : (side by : Side) (link : ℕ) (b : Bool) (w : Hosts) (p : Both) → StepAt side (if b then Note.FoundDead by link else Note.Nothing by link Move.Dead) w p
  dead-here side by link true w p = was-dead side by link w p
  dead-here side by link false w p = none-came side by link Move.Dead w p

  pub step-here : (side : Side) (w : Hosts) → Stand w → (x : TwoNodes) → Refines x (seen w) → (event : Event) (note : Note) → Noted event note w → (p : Both) → StepAt side note w p
  step-here side w k x t (Event.Call by call) note n p = subst (λ (y : Note). StepAt side y w p) (sym n.said) (called side by w k p call n.of_host n.noted)
  step-here side w k x t (Event.Out by) note n p = subst (λ (y : Note). StepAt side y w p) (sym n) (went side by w p (next_output (host_of by w)))
  step-here side w k x t (Event.Deliver A link) note n p = subst (λ (y : Note). StepAt side y w p) (sym n) (a-arrives w k x t link ((seen w).going link) refl side p)
  step-here side w k x t (Event.Deliver B link) note n p = subst (λ (y : Note). StepAt side y w p) (sym n) (b-arrives w k x t link ((seen w).coming link) refl side p)
  step-here side w k x t (Event.Lose by link) note n p = subst (λ (y : Note). StepAt side y w p) (sym n) (lost-here side by link _ w p)
  step-here side w k x t (Event.Dead by link) note n p = subst (λ (y : Note). StepAt side y w p) (sym n) (dead-here side by link _ w p)
  step-here side w k x t (Event.Answer A link) note n p =
      subst (λ (y : Note). StepAt side y w p) (sym n)
      (answered-here A side link w.number_b (answer_about w.number_b link ((seen w).going link)) w p
      (told-as (answer_about w.number_b link ((seen w).going link)) w.number_b link w (answer-named w k x t link ((seen w).going link) refl)))
  step-here side w k x t (Event.Answer B link) note n p =
      subst (λ (y : Note). StepAt side y w p) (sym n)
      (answered-here B side link w.number_a (answer_about w.number_a link ((seen w).coming link)) w p
      (told-as (answer_about w.number_a link ((seen w).coming link)) w.number_a link (counterpart w) (answer-named (counterpart w) (stand-counterpart w k) (nodes_swapped x) (tied-swapped x (seen w) t) link ((seen w).coming link) refl)))
