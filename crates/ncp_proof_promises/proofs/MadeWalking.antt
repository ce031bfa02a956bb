-- What is watched of two hosts is what the notes of each say was made and came, note by note.
use Rattle.std.proofs.Common.{◌≡◌, ℕ, ◌==◌, Bool, true, false, cond, if◌then◌else◌, List, [], ◌∷◌, length, take, Option, None, Some, Result, Ok, Err, refl, sym, ap, ◌∙◌, subst}
use Rattle.std.proofs.lemmas.Bool.{eq-eqb}
use Rattle.ncp_leader.specs.declared.leader.Leader.{Leader}
use Rattle.ncp_leader.specs.declared.leader.Short.{Short}
use Rattle.ncp_leader.specs.declared.fault.MessageFault.{MessageFault}
use Rattle.ncp_leader.specs.Leader.{leader_in}
use Rattle.ncp_leader.specs.Message.{Message, message_in}
use Rattle.ncp_model.specs.declared.call_fault.CallFault.{CallFault}
use Rattle.ncp_model.specs.Peers.{Take}
use Rattle.ncp_proof_machine.specs.Resets.{This, That}
use Rattle.ncp_proof_machine.specs.Hosts.{TwoNodes, nodes_swapped}
use Rattle.ncp_peer.specs.PeerState.{PeerState, control_link}
use Rattle.ncp_peer.specs.Hearing.{control_size, is_wrong_link, message_received, control_received, text_received}
use Rattle.ncp_host.specs.Host.{Host}
use Rattle.ncp_host.specs.Arrivals.{received_in}
use Rattle.ncp_peer.specs.Output.{leader_to}
use Rattle.ncp_host.specs.Turns.{next_output}
use Rattle.ncp_peer.specs.declared.received.Received.{Received}
use Rattle.ncp_numbers.specs.Bytes.{bytes_of}
use Rattle.ncp_subnet.specs.Messages.{arriving, answer_about}
use Rattle.ncp_transcript.specs.declared.call.Call.{Call}
use Rattle.ncp_transcript.specs.declared.note.HostNote.{HostNote}
use Rattle.ncp_transcript.specs.Noting.{CallNoted, note_of_bits, note_of_message}
use Rattle.ncp_transcript.proofs.AskedCalls.{reads}
use Rattle.ncp_proof_runs.specs.Peers.{names, is_this_number, peer_of_leader, notes_of_peer}
use Rattle.ncp_transcript_two.specs.Subnet.{Holds, Free, Accepted, Delivered, Lost, Dead, from_host}
use Rattle.ncp_transcript.specs.Asked.{Asked, Asks, Asks_echo, Asks_reset, Asks_wake, Reply, asked_in}
use Rattle.ncp_transcript_two.specs.World.{World, NoteBody, Called, Is_delivered, delivers, state_received_with}
use Rattle.ncp_transcript_two.specs.Tie.{Refines}
use Rattle.ncp_transcript_two.specs.Seen.{seen, had_for, as_rules, done, call_body, body_of, side_of}
use Rattle.ncp_transcript_two.specs.Sides.{notes_at_side}
use Rattle.ncp_transcript_two.specs.declared.side.Side.{Side}
use Rattle.ncp_transcript_two.specs.declared.side.Side.TheVariants.{A, B}
use Rattle.ncp_transcript_two.specs.declared.event.Event.{Event}
use Rattle.ncp_transcript_two.specs.declared.note.Move.{Move}
use Rattle.ncp_transcript_two.specs.declared.note.Note.{Note}
use Rattle.ncp_transcript_two.specs.Between.{Hosts, other, side_number, host_of}
use Rattle.ncp_transcript_two.specs.Happening.{Noted, note_of_coming, note_of_answering}
use Rattle.ncp_transcript_two.specs.Naming.{IsAnswerAbout}
use Rattle.ncp_transcript_two.proofs.OnePeer.{noted-message}
use Rattle.ncp_transcript_two.proofs.SeenSteps.{Stand}
use Rattle.ncp_transcript_two.proofs.SeenMoves.{sent-led}
use Rattle.ncp_transcript_two.proofs.SeenRuns.{counterpart, stand-counterpart}
use Rattle.ncp_transcript_two.proofs.Ties.{tied-swapped}
use Rattle.ncp_transcript_two.proofs.Naming.{AnswerNamed, answer-named}
use Rattle.ncp_leader.specs.declared.regular.TheConstants.{FRONT_BITS}
use Rattle.ncp_control.specs.Reading.{commands_in, fault_in}
use Rattle.ncp_slot.specs.Slot.{is_travelling}
use Rattle.ncp_slot.specs.Slots.{is_quiet}
use Rattle.ncp_model.specs.declared.pair.Pair.{Pair}
use Rattle.ncp_proof_machine.specs.Watching.{HistoryVars, sees_each}
use Rattle.ncp_peer.specs.PeerState.{is_answered}
use Rattle.ncp_proof_runs.specs.Links.{LinkSoFar, goes_fresh, link_of_leader}
use Rattle.ncp_proof_runs.specs.Making.{Made, made_sent, by_asked, by_message, by_bits, by_out, made_by_note, made_from}
use Rattle.ncp_transcript_two.specs.Refused.{is_refused}
use Rattle.ncp_transcript_two.specs.Underway.{text_read}
use Rattle.ncp_transcript_two.proofs.Flights.{delivered-out, lost-out, dead-out}
use Rattle.ncp_proof_promises.specs.Judged.{MakesNoErr}
use Rattle.ncp_proof_promises.specs.Since.{Watches, watch_at, watch_after_asked, watch_after_text, watch_after_message, of_answer, watches_if_body}
use Rattle.ncp_proof_promises.proofs.Judging.{makes-no-err}
use Rattle.ncp_proof_promises.proofs.CallsNoted.{asked-names, own-kinds}
use Rattle.ncp_proof_promises.proofs.MadeMatched.{IsWatched, call-watched, echo-watched, reset-watched, answer-watched, message-watched}

-- what the host of a side has for the other
abbrev pub ours : Side → Hosts → PeerState
ours side w = had_for (side_number (other side) w) (host_of side w)

-- How a message is judged, that is not refused.

pub record Right (link : ℕ) (o : Result Message MessageFault) : Type 0 where
  pub m : Message
  pub is : o ≡ Ok m
  pub good : is_wrong_link link ≡ false
  pub sized : (link == control_link) ≡ true → (m.size == control_size) ≡ true

pub judged : (link : ℕ) (o : Result Message MessageFault) (s : PeerState) → is_refused (message_received link o s) ≡ false → Right link o
judged link (Err fault) s e = absurd (cc e)
judged link (Ok m) s e = go (is_wrong_link link) refl e
  where
    by : (n : ℕ) (b : Bool) → is_refused (if b then Received.Control n else Received.WrongSize) ≡ false → b ≡ true
    by n true e = refl
    by n false e = absurd (cc e)

    sized : (z : Bool) → is_refused (if z then control_received m else text_received link m s) ≡ false → z ≡ true → (m.size == control_size) ≡ true
    sized false e z = absurd (cc z)
    sized true e z = by (length (commands_in (bytes_of m.text))) (m.size == control_size) e

    go : (b : Bool) → is_wrong_link link ≡ b → is_refused (if b then Received.WrongLink else if link == control_link then control_received m else text_received link m s) ≡ false → Right link (Ok m)
    go true h e = absurd (cc e)
    go false h e = record { m = m; is = refl; good = h; sized = sized (link == control_link) e }

-- the answer that comes to a host, if one comes, and the message that it answers
abbrev BodyAbout : Option (List Bool) → ℕ → ℕ → PeerState → Host → Type 0
BodyAbout None n link s h = Unit {0}
BodyAbout (Some bits) n link s h = IsAnswerAbout n link (note_of_bits bits h) × (is_answered link s ≡ true)

abbrev pub StepAt : Side → Note → Hosts → Watches → Type 0
StepAt side note w p =
    (t : LinkSoFar) (l : Made) → IsWatched (watch_at side p) l
    → IsWatched (watch_at side (watches_if_body (as_rules (side_of note)) (body_of note) (seen w) p)) (made_from (notes_of_peer (side_number (other side) w) (notes_at_side side note)) (ours side w) t l)

-- a note, whether it names the peer or not
still : (b : Bool) (hn : HostNote) (s : PeerState) (t : LinkSoFar) (l : Made) (x : HistoryVars) → IsWatched x (made_by_note hn s t l) → IsWatched x l → IsWatched x (made_from (cond b (hn ∷ []) []) s t l)
still true hn s t l x i k = i
still false hn s t l x i k = k

named : (b : Bool) (hn : HostNote) (s : PeerState) (t : LinkSoFar) (l : Made) (x : HistoryVars) → b ≡ true → IsWatched x (made_by_note hn s t l) → IsWatched x (made_from (cond b (hn ∷ []) []) s t l)
named true hn s t l x e i = i
named false hn s t l x e i = absurd (cc e)

-- what is asked of the peer
asked-watched : (n : ℕ) (asked : Asked) (s : PeerState) (x : HistoryVars) (l : Made) → IsWatched x l → IsWatched (watch_after_asked asked s x) (by_asked (Some (n, asked)) s l)
asked-watched n (Asks q call) s x l i = call-watched q call s x l i
asked-watched n (Asks_echo byte) s x l i = echo-watched byte s x l i
asked-watched n Asks_reset s x l i = reset-watched s x l i
asked-watched n Asks_wake s x l i = i

-- A call at this side.

module _ (side : Side) (w : Hosts) (k : Stand w) (p : Watches) where
  abbrev Own : HostNote → Type 0
  Own hn =
      (t : LinkSoFar) (l : Made) → IsWatched (watch_at side p) l
      → IsWatched (watch_at side (watches_if_body (as_rules side) (call_body hn) (seen w) p)) (made_from (notes_of_peer (side_number (other side) w) (hn ∷ [])) (ours side w) t l)

  own-asked : (asked : Asked) (answer : Reply) → watch_at side (watches_if_body (as_rules side) (Some (Called asked answer)) (seen w) p) ≡ watch_after_asked asked (ours side w) (watch_at side p)
  own-asked asked answer = go side
    where
      go : (s : Side) → watch_at s (watches_if_body (as_rules s) (Some (Called asked answer)) (seen w) p) ≡ watch_after_asked asked (ours s w) (watch_at s p)
      go A = refl
      go B = refl

  own-asks : (asked : Asked) (answer : Reply) (hn : HostNote) → names (side_number (other side) w) hn ≡ true
      → ((t : LinkSoFar) (l : Made) → IsWatched (watch_at side p) l → IsWatched (watch_after_asked asked (ours side w) (watch_at side p)) (made_by_note hn (ours side w) t l))
      → (t : LinkSoFar) (l : Made) → IsWatched (watch_at side p) l
      → IsWatched (watch_at side (watches_if_body (as_rules side) (Some (Called asked answer)) (seen w) p)) (made_from (notes_of_peer (side_number (other side) w) (hn ∷ [])) (ours side w) t l)
  own-asks asked answer hn is says t l i =
      subst (λ (x : HistoryVars). IsWatched x (made_from (notes_of_peer (side_number (other side) w) (hn ∷ [])) (ours side w) t l)) (sym (own-asked asked answer))
      (named (names (side_number (other side) w) hn) hn (ours side w) t l (watch_after_asked asked (ours side w) (watch_at side p)) is (says t l i))

  quiet : (hn : HostNote) → call_body hn ≡ None → ((t : LinkSoFar) (l : Made) → made_by_note hn (ours side w) t l ≡ l) → Own hn
  quiet hn none same t l i =
      subst (λ (o : Option NoteBody). IsWatched (watch_at side (watches_if_body (as_rules side) o (seen w) p)) (made_from (notes_of_peer (side_number (other side) w) (hn ∷ [])) (ours side w) t l)) (sym none)
      (still (names (side_number (other side) w) hn) hn (ours side w) t l (watch_at side p) (subst (λ (j : Made). IsWatched (watch_at side p) j) (sym (same t l)) i) i)

  refused : (call : Call) (fault : CallFault) → Own (HostNote.Refused call fault)
  refused call fault = quiet (HostNote.Refused call fault) refl (λ t l. refl)

  own-done : (call : Call) (asked : Asked) → asked_in call ≡ Some (side_number (other side) w, asked) → Own (HostNote.Done call)
  own-done call asked is =
      subst (λ (o : Option (ℕ × Asked)). (t : LinkSoFar) (l : Made) → IsWatched (watch_at side p) l → IsWatched (watch_at side (watches_if_body (as_rules side) (done o) (seen w) p)) (made_from (notes_of_peer (side_number (other side) w) (HostNote.Done call ∷ [])) (ours side w) t l)) (sym is)
      (own-asks asked (Reply.Replied (Ok tt)) (HostNote.Done call) (asked-names (side_number (other side) w) call asked is)
      (λ t l i. subst (λ (o : Option (ℕ × Asked)). IsWatched (watch_after_asked asked (ours side w) (watch_at side p)) (by_asked o (ours side w) l)) (sym is) (asked-watched (side_number (other side) w) asked (ours side w) (watch_at side p) l i)))

  own-took : (q : Pair) (bytes : ℕ) (text : List Bool) → Own (HostNote.Took (side_number (other side) w) q bytes text)
  own-took q bytes text =
      own-asks (Asks q (Take bytes)) (Reply.Took (Ok text)) (HostNote.Took (side_number (other side) w) q bytes text) (eq-eqb (side_number (other side) w) (side_number (other side) w) refl)
      (λ t l i. call-watched q (Take bytes) (ours side w) (watch_at side p) l i)

  was-read : (hn : HostNote) (call : Call) → reads hn ≡ Some call → Own hn
  was-read hn call e = let is = go hn e in quiet hn is.0 is.1
    where
      go : (hn : HostNote) → reads hn ≡ Some call → (call_body hn ≡ None) × ((t : LinkSoFar) (l : Made) → made_by_note hn (ours side w) t l ≡ l)
      go (HostNote.Done call) e = absurd (cc e)
      go (HostNote.Took peer q bytes text) e = absurd (cc e)
      go (HostNote.Out message) e = absurd (cc e)
      go (HostNote.In message told) e = absurd (cc e)
      go (HostNote.Answered peer link how told) e = absurd (cc e)
      go hn e = (refl, λ t l. refl)

  own : (call : Call) (hn : HostNote) → CallNoted call hn (host_of side w) → Own hn
  own = own-kinds side w k Own own-done own-took refused was-read

-- a call at the other

a-aside : (o : Option (ℕ × Asked)) (v : World) (p : Watches) → (watches_if_body That (done o) v p).this ≡ p.this
a-aside None v p = refl
a-aside (Some (peer, asked)) v p = refl

b-aside : (o : Option (ℕ × Asked)) (v : World) (p : Watches) → (watches_if_body This (done o) v p).that ≡ p.that
b-aside None v p = refl
b-aside (Some (peer, asked)) v p = refl

a-call-aside : (hn : HostNote) (v : World) (p : Watches) → (watches_if_body That (call_body hn) v p).this ≡ p.this
a-call-aside (HostNote.Done call) v p = a-aside (asked_in call) v p
a-call-aside hn v p = refl

b-call-aside : (hn : HostNote) (v : World) (p : Watches) → (watches_if_body This (call_body hn) v p).that ≡ p.that
b-call-aside (HostNote.Done call) v p = b-aside (asked_in call) v p
b-call-aside hn v p = refl

called : (side by : Side) (w : Hosts) → Stand w → (p : Watches) (call : Call) (hn : HostNote) → CallNoted call hn (host_of by w) → StepAt side (Note.Called by hn) w p
called A A w k p call hn c = own A w k p call hn c
called B B w k p call hn c = own B w k p call hn c
called A B w k p call hn c = λ t l i. subst (λ (x : HistoryVars). IsWatched x l) (sym (a-call-aside hn (seen w) p)) i
called B A w k p call hn c = λ t l i. subst (λ (x : HistoryVars). IsWatched x l) (sym (b-call-aside hn (seen w) p)) i

-- a message that goes out

out-watched : (r : Result Leader Short) (t : LinkSoFar) (l : Made) (x : HistoryVars) → IsWatched x l → IsWatched x (by_out r t l)
out-watched r t l x i = go (is_this_number control_link (link_of_leader r)) (goes_fresh t)
  where
    go : (a b : Bool) → IsWatched x (if a then (if b then made_sent l else l) else l)
    go true true = i
    go true false = i
    go false b = i

went : (side by : Side) (w : Hosts) (p : Watches) (o : Option (List Bool)) → StepAt side (Note.Out by (note_of_message o)) w p
went A A w p None = λ t l i. still (names w.number_b HostNote.Nothing) HostNote.Nothing (ours A w) t l p.this i i
went A A w p (Some m) = λ t l i. still (names w.number_b (HostNote.Out m)) (HostNote.Out m) (ours A w) t l p.this (out-watched (leader_in m) t l p.this i) i
went A B w p None = λ t l i. i
went A B w p (Some m) = λ t l i. i
went B A w p None = λ t l i. i
went B A w p (Some m) = λ t l i. i
went B B w p None = λ t l i. still (names w.number_a HostNote.Nothing) HostNote.Nothing (ours B w) t l p.that i i
went B B w p (Some m) = λ t l i. still (names w.number_a (HostNote.Out m)) (HostNote.Out m) (ours B w) t l p.that (out-watched (leader_in m) t l p.that i) i

-- an answer that comes, to a message that is out

was-answered : (side by : Side) (link : ℕ) (w : Hosts) (p : Watches) (hn : HostNote) → IsAnswerAbout (side_number (other by) w) link hn → is_answered link (ours by w) ≡ true → StepAt side (Note.Answered by link hn) w p
was-answered side by link w p hn (how, told, is) out = subst (λ (x : HostNote). StepAt side (Note.Answered by link x) w p) (sym is) (go side by out)
  where
    go : (side by : Side) → is_answered link (ours by w) ≡ true → StepAt side (Note.Answered by link (HostNote.Answered (side_number (other by) w) link how told)) w p
    go A A e = λ t l i. named (w.number_b == w.number_b) (HostNote.Answered w.number_b link how told) (ours A w) t l (of_answer link how (ours A w) p.this) (eq-eqb w.number_b w.number_b refl) (answer-watched link how (ours A w) p.this l e i)
    go A B e = λ t l i. i
    go B A e = λ t l i. i
    go B B e = λ t l i. named (w.number_a == w.number_a) (HostNote.Answered w.number_a link how told) (ours B w) t l (of_answer link how (ours B w) p.that) (eq-eqb w.number_a w.number_a refl) (answer-watched link how (ours B w) p.that l e i)

-- nothing comes

none-came : (side by : Side) (link : ℕ) (kind : _) (w : Hosts) (p : Watches) → StepAt side (Note.Nothing by link kind) w p
none-came A A link kind w p = λ t l i. i
none-came A B link kind w p = λ t l i. i
none-came B A link kind w p = λ t l i. i
none-came B B link kind w p = λ t l i. i

was-lost : (side by : Side) (link : ℕ) (w : Hosts) (p : Watches) → StepAt side (Note.Lost by link) w p
was-lost A A link w p = λ t l i. i
was-lost A B link w p = λ t l i. i
was-lost B A link w p = λ t l i. i
was-lost B B link w p = λ t l i. i

was-dead : (side by : Side) (link : ℕ) (w : Hosts) (p : Watches) → StepAt side (Note.FoundDead by link) w p
was-dead A A link w p = λ t l i. i
was-dead A B link w p = λ t l i. i
was-dead B A link w p = λ t l i. i
was-dead B B link w p = λ t l i. i

-- A message of side A that comes to side B.

module _ (w : Hosts) (k : Stand w) (x : TwoNodes) (t : Refines x (seen w)) (link : ℕ) (m : List Bool) (e : (seen w).going link ≡ Accepted m) where
  pub front : leader_in (from_host w.number_a m) ≡ Ok (leader_to w.number_a link)
  front = (sent-led link x (seen w) m t e).1

  right : MakesNoErr (delivers link (Accepted m) (seen w)).1 (seen w) (delivers link (Accepted m) (seen w)).0
  right = subst (λ (h : Holds). MakesNoErr (delivers link h (seen w)).1 (seen w) (delivers link h (seen w)).0) e (makes-no-err (Is_delivered link) x (seen w) tt t)

  pub unrefused : is_refused (message_received link (message_in (from_host w.number_a m)) (had_for w.number_a w.b)) ≡ false
  unrefused = ap (λ (r : Result Leader Short). is_refused (state_received_with r (from_host w.number_a m) (had_for w.number_a w.b))) (sym front) ∙ right.1

  pub noted-in : note_of_bits (from_host w.number_a m) w.b ≡ HostNote.In (from_host w.number_a m) (received_in (from_host w.number_a m) w.b)
  noted-in = noted-message w.b (from_host w.number_a m) (leader_to w.number_a link) front refl

  pub come-here : (told : Received) (seen_there : HistoryVars) (h : LinkSoFar) (l : Made) → IsWatched seen_there l
      → IsWatched (watch_after_message link (from_host w.number_a m) (had_for w.number_a w.b) seen_there) (made_from (notes_of_peer w.number_a (HostNote.In (from_host w.number_a m) told ∷ [])) (had_for w.number_a w.b) h l)
  come-here told y h l i =
      let j = judged link (message_in (from_host w.number_a m)) (had_for w.number_a w.b) unrefused in
      named (names w.number_a (HostNote.In (from_host w.number_a m) told)) (HostNote.In (from_host w.number_a m) told) (had_for w.number_a w.b) h l (watch_after_message link (from_host w.number_a m) (had_for w.number_a w.b) y)
      (ap (λ (r : Result Leader Short). is_this_number w.number_a (peer_of_leader r)) front ∙ eq-eqb w.number_a w.number_a refl)
      (subst (λ (r : Result Leader Short). IsWatched (watch_after_message link (from_host w.number_a m) (had_for w.number_a w.b) y) (by_bits r (from_host w.number_a m) (had_for w.number_a w.b) l)) (sym front)
      (subst (λ (o : Result Message MessageFault). IsWatched (if link == control_link then sees_each (is_quiet (had_for w.number_a w.b).slots) (commands_in (bytes_of (text_read o))) (had_for w.number_a w.b).peer y else watch_after_text link (take FRONT_BITS (from_host w.number_a m)) o (had_for w.number_a w.b) y) (by_message link (from_host w.number_a m) o (had_for w.number_a w.b) l)) (sym j.is)
      (message-watched link (from_host w.number_a m) j.m (had_for w.number_a w.b) y l j.good j.sized
      (λ z. ap (λ (o : Result Message MessageFault). fault_in (bytes_of (text_read o))) (sym j.is) ∙ (right.0 z).0) i)))

  a-comes : (side : Side) (p : Watches) → StepAt side (Note.Came A link (note_of_bits (from_host w.number_a m) w.b)) w p
  a-comes side p = subst (λ (hn : HostNote). StepAt side (Note.Came A link hn) w p) (sym noted-in) (go side)
    where
      go : (side : Side) → StepAt side (Note.Came A link (HostNote.In (from_host w.number_a m) (received_in (from_host w.number_a m) w.b))) w p
      go A = λ h l i. i
      go B = come-here (received_in (from_host w.number_a m) w.b) p.that

a-arrives : (w : Hosts) → Stand w → (x : TwoNodes) → Refines x (seen w) → (link : ℕ) (h : Holds) → (seen w).going link ≡ h → (side : Side) (p : Watches) → StepAt side (note_of_coming A link (arriving w.number_a h) w) w p
a-arrives w k x t link Free e side p = none-came side A link Move.Deliver w p
a-arrives w k x t link Delivered e side p = none-came side A link Move.Deliver w p
a-arrives w k x t link Lost e side p = none-came side A link Move.Deliver w p
a-arrives w k x t link Dead e side p = none-came side A link Move.Deliver w p
a-arrives w k x t link (Accepted m) e side p = a-comes w k x t link m e side p

b-comes : (w : Hosts) → Stand w → (x : TwoNodes) → Refines x (seen w) → (link : ℕ) (m : List Bool) → (seen w).coming link ≡ Accepted m → (side : Side) (p : Watches) → StepAt side (Note.Came B link (note_of_bits (from_host w.number_b m) w.a)) w p
b-comes w k x t link m e side p = subst (λ (hn : HostNote). StepAt side (Note.Came B link hn) w p) (sym (noted-in (counterpart w) (stand-counterpart w k) (nodes_swapped x) (tied-swapped x (seen w) t) link m e)) (go side)
  where
    go : (side : Side) → StepAt side (Note.Came B link (HostNote.In (from_host w.number_b m) (received_in (from_host w.number_b m) w.a))) w p
    go A = come-here (counterpart w) (stand-counterpart w k) (nodes_swapped x) (tied-swapped x (seen w) t) link m e (received_in (from_host w.number_b m) w.a) p.this
    go B = λ h l i. i

b-arrives : (w : Hosts) → Stand w → (x : TwoNodes) → Refines x (seen w) → (link : ℕ) (h : Holds) → (seen w).coming link ≡ h → (side : Side) (p : Watches) → StepAt side (note_of_coming B link (arriving w.number_b h) w) w p
b-arrives w k x t link Free e side p = none-came side B link Move.Deliver w p
b-arrives w k x t link Delivered e side p = none-came side B link Move.Deliver w p
b-arrives w k x t link Lost e side p = none-came side B link Move.Deliver w p
b-arrives w k x t link Dead e side p = none-came side B link Move.Deliver w p
b-arrives w k x t link (Accepted m) e side p = b-comes w k x t link m e side p

-- An answer of the subnet to side A is about a message that is out.
answer-out : (w : Hosts) → Stand w → (x : TwoNodes) → Refines x (seen w) → (link : ℕ) (h : Holds) → (seen w).going link ≡ h → AnswerNamed (answer_about w.number_b link h) w.number_b link w → BodyAbout (answer_about w.number_b link h) w.number_b link (ours A w) w.a
answer-out w k x t link Free e n = tt
answer-out w k x t link (Accepted m) e n = tt
answer-out w k x t link Delivered e n = (n, ap is_travelling (delivered-out link x (seen w) t e).in_slot)
answer-out w k x t link Lost e n = (n, ap is_travelling (lost-out link x (seen w) t e).in_slot)
answer-out w k x t link Dead e n = (n, ap is_travelling (dead-out link x (seen w) t e).in_slot)

-- Each event.

answered-here : (by side : Side) (link : ℕ) (o : Option (List Bool)) (w : Hosts) (p : Watches) → BodyAbout o (side_number (other by) w) link (ours by w) (host_of by w) → StepAt side (note_of_answering by link o w) w p
answered-here by side link None w p k = none-came side by link Move.Answer w p
answered-here by side link (Some bits) w p k = was-answered side by link w p (note_of_bits bits (host_of by w)) k.0 k.1

lost-here : (side by : Side) (link : ℕ) (b : Bool) (w : Hosts) (p : Watches) → StepAt side (if b then Note.Lost by link else Note.Nothing by link Move.Lose) w p
lost-here side by link true w p = was-lost side by link w p
lost-here side by link false w p = none-came side by link Move.Lose w p

dead-here : (side by : Side) (link : ℕ) (b : Bool) (w : Hosts) (p : Watches) → StepAt side (if b then Note.FoundDead by link else Note.Nothing by link Move.Dead) w p
dead-here side by link true w p = was-dead side by link w p
dead-here side by link false w p = none-came side by link Move.Dead w p

pub step-here : (side : Side) (w : Hosts) → Stand w → (x : TwoNodes) → Refines x (seen w) → (event : Event) (note : Note) → Noted event note w → (p : Watches) → StepAt side note w p
step-here side w k x t (Event.Call by call) note n p = subst (λ (y : Note). StepAt side y w p) (sym n.said) (called side by w k p call n.of_host n.noted)
step-here side w k x t (Event.Out by) note n p = subst (λ (y : Note). StepAt side y w p) (sym n) (went side by w p (next_output (host_of by w)))
step-here side w k x t (Event.Deliver A link) note n p = subst (λ (y : Note). StepAt side y w p) (sym n) (a-arrives w k x t link ((seen w).going link) refl side p)
step-here side w k x t (Event.Deliver B link) note n p = subst (λ (y : Note). StepAt side y w p) (sym n) (b-arrives w k x t link ((seen w).coming link) refl side p)
step-here side w k x t (Event.Lose by link) note n p = subst (λ (y : Note). StepAt side y w p) (sym n) (lost-here side by link _ w p)
step-here side w k x t (Event.Dead by link) note n p = subst (λ (y : Note). StepAt side y w p) (sym n) (dead-here side by link _ w p)
step-here side w k x t (Event.Answer A link) note n p =
    subst (λ (y : Note). StepAt side y w p) (sym n)
    (answered-here A side link (answer_about w.number_b link ((seen w).going link)) w p
    (answer-out w k x t link ((seen w).going link) refl (answer-named w k x t link ((seen w).going link) refl)))
step-here side w k x t (Event.Answer B link) note n p =
    subst (λ (y : Note). StepAt side y w p) (sym n)
    (answered-here B side link (answer_about w.number_a link ((seen w).coming link)) w p
    (answer-out (counterpart w) (stand-counterpart w k) (nodes_swapped x) (tied-swapped x (seen w) t) link ((seen w).coming link) refl
    (answer-named (counterpart w) (stand-counterpart w k) (nodes_swapped x) (tied-swapped x (seen w) t) link ((seen w).coming link) refl)))
