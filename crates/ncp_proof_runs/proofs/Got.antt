-- What a note says was admitted is what joins what was got, and one more that was used.
use Rattle.std.proofs.Common.{◌≡◌, ℕ, ◌+◌, ◌==◌, Bool, true, false, if◌then◌else◌, List, [], ◌∷◌, ◌++◌, take, length, Option, None, Some, Result, Ok, refl, sym, ap, ◌∙◌, subst, arith}
use Rattle.std.specs.FinMap.{get}
use Rattle.ncp_numbers.specs.Bytes.{bytes_of}
use Rattle.ncp_leader.specs.declared.leader.Leader.{Leader}
use Rattle.ncp_leader.specs.declared.leader.Short.{Short}
use Rattle.ncp_leader.specs.declared.fault.MessageFault.{MessageFault}
use Rattle.ncp_leader.specs.Leader.{leader_in}
use Rattle.ncp_leader.specs.Message.{Message, message_in}
use Rattle.ncp_control.specs.Reading.{commands_in}
use Rattle.ncp_model.specs.declared.pair.Pair.{Pair}
use Rattle.ncp_model.specs.declared.outcomes.Took.{Took}
use Rattle.ncp_model.specs.declared.outcomes.Took.TheVariants.{Admitted}
use Rattle.ncp_model.specs.Endpoint.{Endpoint}
use Rattle.ncp_model.specs.Effect.{answer}
use Rattle.ncp_model.specs.Texts.{hear_text}
use Rattle.ncp_model.specs.Ends.{uses_link, pair_of, receiver_on}
use Rattle.ncp_model.specs.EndpointEvents.{Text_comes, happens, outcome_of_text}
use Rattle.ncp_model.specs.Phase.{up}
use Rattle.ncp_model.proofs.LinksDemux.{led}
use Rattle.ncp_proof_endpoint.specs.Histories.{PairHistory, no_past, adds, opens, reopened}
use Rattle.ncp_peer.specs.declared.received.Received.{Received}
use Rattle.ncp_peer.specs.PeerState.{PeerState, new_state, control_link, is_answered}
use Rattle.ncp_peer.specs.Hearing.{regular, is_kind, is_wrong_link, control_size, took, message_received}
use Rattle.ncp_host.specs.Host.{Host, state_of, new_host}
use Rattle.ncp_host.specs.Arrivals.{received_with, received_from}
use Rattle.ncp_transcript.specs.declared.note.HostNote.{HostNote}
use Rattle.ncp_transcript.specs.After.{after_notes}
use Rattle.ncp_proof_runs.specs.Peers.{FromBeginning, is_this_number, peer_of_leader, names, notes_of_peer, notes_for}
use Rattle.ncp_proof_runs.specs.Histories.{past_then, past_at, past_heard_all, past_message, past_bits, past_so_far}
use Rattle.ncp_proof_runs.proofs.Said.{IsIn}
use Rattle.ncp_proof_runs.proofs.HostRuns.{note-said}
use Rattle.ncp_proof_runs.proofs.BooksOfRuns.{same_itself}
use Rattle.ncp_proof_runs.proofs.InRuns.{before_note, kept_as_noted}
use Rattle.ncp_proof_runs.proofs.Taken.{itself, past-more, notes-more}

texts-open-not : (pair : Pair) (head : List Bool) (of_size : ℕ) (text : List Bool) (before : Option Endpoint) → opens before (happens pair (Text_comes head of_size text) before).after ≡ false
texts-open-not pair head of_size text None = refl
texts-open-not pair head of_size text (Some e) = grind arith

-- one more text was got
abbrev pub with_text : List Bool → PairHistory → PairHistory
with_text text past = record past { got = past.got ++ text; used_messages = past.used_messages + 1 }

admitted_by : (pair : Pair) (head : List Bool) (of_size : ℕ) (text : List Bool) (before : Option Endpoint) (past : PairHistory) → answer (hear_text of_size text before) ≡ Admitted
    → past_then before (Text_comes head of_size text) (happens pair (Text_comes head of_size text) before) past ≡ with_text text past
admitted_by pair head of_size text before past e =
    ap (λ (b : Bool). adds (Text_comes head of_size text) (outcome_of_text (answer (hear_text of_size text before))) (if b then reopened past else past)) (texts-open-not pair head of_size text before)
    ∙ ap (λ (t : Took). adds (Text_comes head of_size text) (outcome_of_text t) past) e

-- the text of a message that was admitted
admitted_in : (pair : Pair) (on : ℕ) (bits : List Bool) (m : Message) (s : PeerState) (past : PairHistory) → Received.Text Admitted ≡ message_received on (Ok m) s → pair_of (receiver_on on s.peer.ends) ≡ Some pair
    → past_message pair on bits (Ok m) s past ≡ with_text m.text past
admitted_in pair on bits m s past e to = go (is_wrong_link on) (on == control_link) (m.size == control_size) (up s.peer.phase) e
  where
    here : took on m s ≡ Admitted → past_at pair (pair_of (receiver_on on s.peer.ends)) (Some (Text_comes (take 72 bits) m.size m.text)) s.peer.ends past ≡ with_text m.text past
    here a =
        let l = led (uses_link on) s.peer.ends pair to in
        ap (λ (o : Option Pair). past_at pair o (Some (Text_comes (take 72 bits) m.size m.text)) s.peer.ends past) to
        ∙ ap (λ (b : Bool). if b then past_then (get s.peer.ends pair) (Text_comes (take 72 bits) m.size m.text) (happens pair (Text_comes (take 72 bits) m.size m.text) (get s.peer.ends pair)) past else past) (same_itself pair)
        ∙ admitted_by pair (take 72 bits) m.size m.text (get s.peer.ends pair) past (ap (λ (o : Option Endpoint). answer (hear_text m.size m.text o)) l.0 ∙ a)

    same_text : (t : Took) → Received.Text Admitted ≡ Received.Text t → t ≡ Admitted
    same_text t e = cc

    go : (a b c d : Bool) → Received.Text Admitted ≡ (if a then Received.WrongLink else if b then (if c then Received.Control (length (commands_in (bytes_of m.text))) else Received.WrongSize) else if d then Received.Text (took on m s) else Received.NotUp)
        → (if a then past else if b then (if c then past_heard_all pair (commands_in (bytes_of m.text)) s past else past) else if d then past_at pair (pair_of (receiver_on on s.peer.ends)) (Some (Text_comes (take 72 bits) m.size m.text)) s.peer.ends past else past) ≡ with_text m.text past
    go true b c d e = absurd (cc)
    go false true true d e = absurd (cc)
    go false true false d e = absurd (cc)
    go false false c true e = here (same_text (took on m s) e)
    go false false c false e = absurd (cc)

-- it came from a peer, in a regular message
came_from : (leader : Leader) (bits : List Bool) (h : Host) (t : Took) → received_with (Ok leader) bits h ≡ Received.Text t → (s : PeerState) × (state_of h leader.host ≡ Some s) × ((leader.kind == regular) ≡ true)
came_from leader bits h t e = go (is_kind leader.kind) (state_of h leader.host) refl e
  where
    kind : (s : PeerState) (b : Bool) (a : Bool) → (leader.kind == regular) ≡ b → (if b then message_received leader.link (message_in bits) s else if a then Received.Answered else Received.Stray) ≡ Received.Text t → (leader.kind == regular) ≡ true
    kind s true a f e = f
    kind s false true f e = absurd (cc)
    kind s false false f e = absurd (cc)

    go : (b : Bool) (o : Option PeerState) → state_of h leader.host ≡ o → (if b then received_from o leader bits else Received.Other leader.kind) ≡ Received.Text t → (s : PeerState) × (state_of h leader.host ≡ Some s) × ((leader.kind == regular) ≡ true)
    go false o f e = absurd (cc)
    go true None f e = absurd (cc)
    go true (Some s) f e = (s, f, kind s (leader.kind == regular) (is_answered leader.link s) refl e)

pub got-noted : (me : ℕ) (ns : List ℕ) (before after : List HostNote) (message : List Bool) (leader : Leader) (m : Message) (pair : Pair) → FromBeginning me ns (before ++ HostNote.In message (Received.Text Admitted) ∷ after)
    → leader_in message ≡ Ok leader → message_in message ≡ Ok m → pair_of (receiver_on leader.link (notes_for (notes_of_peer leader.host before) new_state).peer.ends) ≡ Some pair
    → past_so_far pair (notes_of_peer leader.host (before ++ HostNote.In message (Received.Text Admitted) ∷ [])) ≡ with_text m.text (past_so_far pair (notes_of_peer leader.host before))
got-noted me ns before after message leader m pair from e f to =
    let note = HostNote.In message (Received.Text Admitted) in
    let b = before_note me ns before after note from in
    let h = after_notes before (new_host me ns) in
    let w = came_from leader message h Admitted (ap (λ (r : Result Leader Short). received_with r message h) (sym e) ∙ b.said.1) in
    let named : names leader.host note ≡ true =
    ap (λ (r : Result Leader Short). is_this_number leader.host (peer_of_leader r)) e
    ∙ ap (λ (c : Bool). is_this_number leader.host (if c then Some leader.host else None)) w.2
    ∙ itself leader.host in
    let s = notes_for (notes_of_peer leader.host before) new_state in
    let is : w.0 ≡ s = kept_as_noted me ns before leader.host w.0 b.from w.1 in
    let said : IsIn (leader_in message) message (Received.Text Admitted) w.0 = note-said ns note h leader.host w.0 b.holds b.said w.1 named in
    let there : Received.Text Admitted ≡ message_received leader.link (message_in message) w.0 = subst (λ (r : Result Leader Short). IsIn r message (Received.Text Admitted) w.0) e said in
    let here : Received.Text Admitted ≡ message_received leader.link (Ok m) s = there ∙ ap (λ (x : PeerState). message_received leader.link (message_in message) x) is ∙ ap (λ (r : Result Message MessageFault). message_received leader.link r s) f in
    ap (past_so_far pair) (notes-more leader.host before note named)
    ∙ past-more pair (notes_of_peer leader.host before) note new_state no_past
    ∙ ap (λ (r : Result Leader Short). past_bits pair r message s (past_so_far pair (notes_of_peer leader.host before))) e
    ∙ ap (λ (r : Result Message MessageFault). past_message pair leader.link message r s (past_so_far pair (notes_of_peer leader.host before))) f
    ∙ admitted_in pair leader.link message m s (past_so_far pair (notes_of_peer leader.host before)) here to
