-- Each end is sound, and the books of one that receives agree with its history, after each note.
use Rattle.std.proofs.Common.{◌≡◌, ℕ, ◌==◌, Bool, true, false, cond, if◌then◌else◌, List, [], ◌∷◌, take, Option, None, Some, Result, Ok, Err, refl, sym, ap, ◌∙◌, subst, arith}
use Rattle.std.proofs.lemmas.Bool.{eqb-true, and_parts}
use Rattle.std.specs.FinMap.{get, get-insert, get-remove, get-empty}
use Rattle.std.specs.Ordering.{eq_by_cmp}
use Rattle.std.proofs.lemmas.Map.Views.{tells_apart}
use Rattle.ncp_numbers.specs.Bytes.{bytes_of}
use Rattle.ncp_leader.specs.declared.leader.Leader.{Leader}
use Rattle.ncp_leader.specs.declared.leader.Short.{Short}
use Rattle.ncp_leader.specs.declared.fault.MessageFault.{MessageFault}
use Rattle.ncp_leader.specs.Leader.{leader_in}
use Rattle.ncp_leader.specs.Message.{Message, message_in}
use Rattle.ncp_wire.specs.declared.command.Command.{Command}
use Rattle.ncp_wire.specs.declared.fault.CommandFault.{CommandFault}
use Rattle.ncp_control.specs.Reading.{commands_in, fault_in}
use Rattle.ncp_slot.specs.declared.slot.Slot.TheVariants.{Empty, Ready, Travelling, Held}
use Rattle.ncp_wire.specs.declared.answer.Answer.{Answer}
use Rattle.ncp_wire.specs.declared.answer.Answer.TheVariants.{Rfnm, Incomplete, Dead}
use Rattle.ncp_slot.specs.Slot.{answered}
use Rattle.ncp_slot.specs.Slots.{LinkSlot, LinkSlots, slot_at, with_slot, is_quiet}
use Rattle.ncp_model.specs.declared.pair.Pair.{Pair}
use Rattle.ncp_model.specs.Pairs.{same, sends, receives, pair_cmp}
use Rattle.ncp_model.specs.Endpoint.{Endpoint}
use Rattle.ncp_model.specs.Effect.{Effect, end_after}
use Rattle.ncp_model.specs.Texts
use Rattle.ncp_model.specs.Ends.{Ends, uses_link, hears_link, pair_of, receiver_on, sender_on, demux_command, hear, text_in, cut_in, answered_in, map_after, map_after_at, no_ends, put}
use Rattle.ncp_model.specs.EndpointEvents.{EndpointEvent, Text_comes, Text_goes_out, Is_answered, happens}
use Rattle.ncp_model.specs.Texts.{hear_text}
use Rattle.ncp_model.specs.Demux.{suits, comes}
use Rattle.ncp_model.specs.Phase.{Phase, up, is_resetting, resets}
use Rattle.ncp_model.specs.Sending.{is_full}
use Rattle.ncp_model.specs.Peers.{Peer, Close, Take, kept, called, happened_at, PairCall, calls, calls_echo, calls_reset, calls_up, cleared, cuts, echo_called, frees, frees_up, hears, hears_fault, hears_other, hears_text, makes, peer_sends, takes_text}
use Rattle.ncp_model.proofs.PairOrder.{pairs_exact, pairs_total}
use Rattle.ncp_model.proofs.EndsAfter.{after-at, after-elsewhere}
use Rattle.ncp_model.proofs.LinksDemux.{itself, led, command-led, cut-led, answered-led, hearer-sends, user-receives, suits-led}
use Rattle.ncp_proof_endpoint.specs.Histories.{PairHistory, no_past}
use Rattle.ncp_proof_endpoint.specs.Sound.{SoundAt}
use Rattle.ncp_proof_endpoint.specs.Books.{BooksAt}
use Rattle.ncp_proof_endpoint.proofs.SoundEnds.{one_way, sound-after}
use Rattle.ncp_proof_endpoint.proofs.BooksKept.{books-kept}
use Rattle.ncp_peer.specs.Counting.{one_more}
use Rattle.ncp_peer.specs.PeerState.{PeerState, new_state, control_link, is_answered, answer_taken, answer_comes, frees_on, after_answer}
use Rattle.ncp_peer.specs.Hearing.{control_size, state_after_control, state_after_text, is_wrong_link, state_hears, state_hears_all, hears_last, message_after}
use Rattle.ncp_peer.specs.Output.{after_made, after_by}
use Rattle.ncp_transcript.specs.Asked.{asked_in, Asked, Asks, Asks_echo, Asks_reset, Asks_wake}
use Rattle.ncp_transcript.specs.declared.note.HostNote.{HostNote}
use Rattle.ncp_proof_runs.specs.Peers.{state_asked, bits_for, out_for, note_for, notes_for}
use Rattle.ncp_proof_runs.specs.Histories.{past_then, past_at, past_called, past_heard, past_heard_all, past_text, past_message, past_bits, past_asked, past_by, past_from}

-- the end of a pair is sound, and where it receives its books agree
abbrev pub Kept : Pair → Ends → PairHistory → Type 0
Kept pair m past = SoundAt pair (get m pair) × (receives pair ≡ true → BooksAt (get m pair) past)

pub same_pair : (a b : Pair) → same a b ≡ true → a ≡ b
same_pair a b e =
    let p = and_parts (a.local == b.local) (a.remote == b.remote) e in
    ap (λ (x : ℕ). (let q : Pair = record { local = x; remote = a.remote } in q)) (eqb-true a.local b.local p.0)
    ∙ ap (λ (x : ℕ). (let q : Pair = record { local = b.local; remote = x } in q)) (eqb-true a.remote b.remote p.1)

pub same_itself : (a : Pair) → same a a ≡ true
same_itself a = grind arith

pub another : (a b : Pair) → same a b ≡ false → (a ≡ b) → ⊥
another a b e i = let yes : same a b ≡ true = ap (same a) (sym i) ∙ same_itself a in absurd (cc (e, yes))

module _ (pair : Pair) where
  none-kept : (past : PairHistory) → Kept pair no_ends past
  none-kept past = subst (λ (o : Option Endpoint). SoundAt pair o × (receives pair ≡ true → BooksAt o past)) (sym (get-empty pair_cmp pair)) (tt, λ r. tt)

  while-up : (q : Phase) (m : Ends) (past : PairHistory) → Kept pair m past → Kept pair (kept q m) past
  while-up q m past k = go (up q)
    where
      go : (b : Bool) → Kept pair (if b then m else no_ends) past
      go true = k
      go false = none-kept past

  elsewhere-kept : (m now : Ends) (past : PairHistory) → get now pair ≡ get m pair → Kept pair m past → Kept pair now past
  elsewhere-kept m now past e k = subst (λ (o : Option Endpoint). SoundAt pair o × (receives pair ≡ true → BooksAt o past)) (sym e) k

  -- something happened to a pair, and the others stay
  moved : (m now : Ends) (p : Pair) (what : EndpointEvent) (past : PairHistory) → suits p what ≡ true → get now p ≡ (happens p what (get m p)).after → ((q : Pair) → (q ≡ p → ⊥) → get now q ≡ get m q) → Kept pair m past → Kept pair now (past_at pair (Some p) (Some what) m past)
  moved m now p what past fits here there k = go (same pair p) refl
    where
      go : (b : Bool) → same pair p ≡ b → Kept pair now (if b then past_then (get m pair) what (happens pair what (get m pair)) past else past)
      go true e =
          let i : pair ≡ p = same_pair pair p e in
          let is : get now pair ≡ (happens pair what (get m pair)).after = ap (get now) i ∙ here ∙ ap (λ (q : Pair). (happens q what (get m q)).after) (sym i) in
          let fit : suits pair what ≡ true = ap (λ (q : Pair). suits q what) i ∙ fits in
          subst (λ (o : Option Endpoint). SoundAt pair o × (receives pair ≡ true → BooksAt o (past_then (get m pair) what (happens pair what (get m pair)) past))) (sym is)
          (sound-after pair what (get m pair) k.0, λ r. books-kept pair what (get m pair) past (one_way pair r) fit k.0 (k.1 r))
      go false e = elsewhere-kept m now past (there pair (another pair p e)) k

  -- A call.

  pub put_here : (m : Ends) (p : Pair) (o : Option Endpoint) → get (put m p o) p ≡ o
  put_here m p None = get-remove pairs_total m p p ∙ ap (λ b. cond b None (get m p)) (itself p)
  put_here m p (Some e) = get-insert pairs_total m p e p ∙ ap (λ b. cond b (Some e) (get m p)) (itself p)

  apart : (q p : Pair) → (q ≡ p → ⊥) → eq_by_cmp pair_cmp q p ≡ false
  apart q p n = go (eq_by_cmp pair_cmp q p) refl
    where
      go : (b : Bool) → eq_by_cmp pair_cmp q p ≡ b → eq_by_cmp pair_cmp q p ≡ false
      go true e = absurd (n (tells_apart pairs_exact q p e))
      go false e = e

  pub put_there : (m : Ends) (p : Pair) (o : Option Endpoint) (q : Pair) → (q ≡ p → ⊥) → get (put m p o) q ≡ get m q
  put_there m p None q n = get-remove pairs_total m p q ∙ ap (λ b. cond b None (get m q)) (apart q p n)
  put_there m p (Some e) q n = get-insert pairs_total m p e q ∙ ap (λ b. cond b (Some e) (get m q)) (apart q p n)

  pub called-suits : (p : Pair) (call : PairCall) (full : Bool) (m : Ends) → suits p (called call full m) ≡ true
  called-suits p Close full m = refl
  called-suits p call full m = refl

  call-kept : (p : Pair) (call : PairCall) (s : PeerState) (past : PairHistory) → Kept pair s.peer.ends past → Kept pair (calls p call s.peer).ends (past_called pair p call s past)
  call-kept p call s past k = go (up s.peer.phase)
    where
      after : Ends
      after = put s.peer.ends p (happened_at p call s.peer).after

      moves : Kept pair (put s.peer.ends p (happened_at p call s.peer).after) (past_at pair (Some p) (Some (called call (is_full s.peer.phase) s.peer.ends)) s.peer.ends past)
      moves = moved s.peer.ends (put s.peer.ends p (happened_at p call s.peer).after) p (called call (is_full s.peer.phase) s.peer.ends) past (called-suits p call (is_full s.peer.phase) s.peer.ends)
          (put_here s.peer.ends p (happened_at p call s.peer).after) (put_there s.peer.ends p (happened_at p call s.peer).after) k

      go : (b : Bool) → Kept pair (if b then calls_up p call s.peer else s.peer).ends (if b then past_at pair (Some p) (Some (called call (is_full s.peer.phase) s.peer.ends)) s.peer.ends past else past)
      go true = while-up (calls_up p call s.peer).phase (put s.peer.ends p (happened_at p call s.peer).after) _ moves
      go false = k

  -- A command that comes.

  pub comes-led : (c : Command) (m : Ends) (p : Pair) → demux_command c m ≡ Some p → comes c m ≡ None → ⊥
  comes-led (Command.Rts receive send on) m p e f = absurd (cc)
  comes-led (Command.Str send receive of_size) m p e f = absurd (cc)
  comes-led (Command.Cls my your) m p e f = absurd (cc)
  comes-led (Command.All on a b) m p e f = absurd (cc)
  comes-led (Command.Gvb on a b) m p e f = absurd (cc)
  comes-led (Command.Ret on a b) m p e f = absurd (cc)
  comes-led (Command.Inr on) m p e f = absurd (cc)
  comes-led (Command.Ins on) m p e f = absurd (cc)
  comes-led c m p e f = absurd (cc)

  command-moves : (c : Command) (m : Ends) (past : PairHistory) → Kept pair m past → Kept pair (map_after_at m (demux_command c m) (hear c m)) (past_at pair (demux_command c m) (comes c m) m past)
  command-moves c m past k = go (demux_command c m) (comes c m) refl refl
    where
      go : (o : Option Pair) (w : Option EndpointEvent) → demux_command c m ≡ o → comes c m ≡ w → Kept pair (map_after_at m o (hear c m)) (past_at pair o w m past)
      go None w e f = k
      go (Some p) None e f = absurd (comes-led c m p e f)
      go (Some p) (Some what) e f =
          let l = command-led m c p what e f in
          moved m (map_after m p (hear c m)) p what past (suits-led p what (get m p) l.0) (after-at m p (hear c m) ∙ sym (ap (λ h. h.after) l.1)) (λ q n. after-elsewhere m p q (hear c m) n) k

  other-kept : (quiet : Bool) (c : Command) (p : Peer) (past : PairHistory) → Kept pair p.ends past → Kept pair (if up p.phase then hears_other quiet c p else p).ends (if up p.phase then past_at pair (demux_command c p.ends) (comes c p.ends) p.ends past else past)
  other-kept quiet c p past k = go (up p.phase)
    where
      go : (b : Bool) → Kept pair (if b then hears_other quiet c p else p).ends (if b then past_at pair (demux_command c p.ends) (comes c p.ends) p.ends past else past)
      go true = while-up (hears_other quiet c p).phase (map_after_at p.ends (demux_command c p.ends) (hear c p.ends)) _ (command-moves c p.ends past k)
      go false = k

  either-past : (b : Bool) (m : Ends) (past : PairHistory) → Kept pair m past → Kept pair m (if b then past else past)
  either-past true m past k = k
  either-past false m past k = k

  heard-kept : (quiet : Bool) (c : Command) (p : Peer) (past : PairHistory) → Kept pair p.ends past → Kept pair (hears quiet c p).ends (if up p.phase then past_at pair (demux_command c p.ends) (comes c p.ends) p.ends past else past)
  heard-kept quiet Command.Rst p past k = none-kept _
  heard-kept quiet Command.Rrp p past k = either-past (up p.phase) p.ends past k
  heard-kept quiet c p past k = other-kept quiet c p past k

  all-kept : (cs : List Command) (s : PeerState) (past : PairHistory) → Kept pair s.peer.ends past → Kept pair (state_hears_all cs s).peer.ends (past_heard_all pair cs s past)
  all-kept [] s past k = k
  all-kept (c ∷ cs) s past k = all-kept cs (state_hears c s) (past_heard pair c s past) (heard-kept (is_quiet s.slots) c s.peer past k)

  fault-kept : (fault : CommandFault) (p : Peer) (past : PairHistory) → Kept pair p.ends past → Kept pair (hears_fault fault p).ends past
  fault-kept fault p past k = go (up p.phase)
    where
      made : Peer
      made = makes (Command.Err fault.code fault.bytes ∷ []) p

      go : (b : Bool) → Kept pair (if b then makes (Command.Err fault.code fault.bytes ∷ []) p else p).ends past
      go true = while-up (makes (Command.Err fault.code fault.bytes ∷ []) p).phase p.ends past k
      go false = k

  last-kept : (fault : Option CommandFault) (s : PeerState) (past : PairHistory) → Kept pair s.peer.ends past → Kept pair (hears_last fault s).peer.ends past
  last-kept None s past k = k
  last-kept (Some fault) s past k = fault-kept fault s.peer past k

  -- A text that comes.

  text-moves : (on : ℕ) (head : List Bool) (of_size : ℕ) (text : List Bool) (m : Ends) (past : PairHistory) → Kept pair m past
      → Kept pair (map_after_at m (pair_of (receiver_on on m)) (text_in on of_size text m)) (past_at pair (pair_of (receiver_on on m)) (Some (Text_comes head of_size text)) m past)
  text-moves on head of_size text m past k = go (pair_of (receiver_on on m)) refl
    where
      go : (o : Option Pair) → pair_of (receiver_on on m) ≡ o → Kept pair (map_after_at m o (text_in on of_size text m)) (past_at pair o (Some (Text_comes head of_size text)) m past)
      go None e = k
      go (Some p) e =
          let l = led (uses_link on) m p e in
          moved m (map_after m p (text_in on of_size text m)) p (Text_comes head of_size text) past (user-receives on p (get m p) l.1)
          (after-at m p (text_in on of_size text m) ∙ ap (λ o. end_after (get m p) (hear_text of_size text o)) (sym l.0))
          (λ q n. after-elsewhere m p q (text_in on of_size text m) n) k

  text-kept : (on : ℕ) (head : List Bool) (of_size : ℕ) (text : List Bool) (p : Peer) (past : PairHistory) → Kept pair p.ends past
      → Kept pair (hears_text on head of_size text p).ends (if up p.phase then past_at pair (pair_of (receiver_on on p.ends)) (Some (Text_comes head of_size text)) p.ends past else past)
  text-kept on head of_size text p past k = go (up p.phase)
    where
      go : (b : Bool) → Kept pair (if b then takes_text on head of_size text p else p).ends (if b then past_at pair (pair_of (receiver_on on p.ends)) (Some (Text_comes head of_size text)) p.ends past else past)
      go true = while-up (takes_text on head of_size text p).phase (map_after_at p.ends (pair_of (receiver_on on p.ends)) (text_in on of_size text p.ends)) _ (text-moves on head of_size text p.ends past k)
      go false = k

  -- A text that goes out, and one that was taken, are of a pair that sends.

  sender-moves : {A : Type 0} → (on : ℕ) (m : Ends) (act : Effect A) (past : PairHistory) → ((p : Pair) → pair_of (sender_on on m) ≡ Some p → SoundAt p (get m p) → SoundAt p (end_after (get m p) act)) → Kept pair m past
      → Kept pair (map_after_at m (pair_of (sender_on on m)) act) past
  sender-moves on m act past f k = go (pair_of (sender_on on m)) refl
    where
      here : (p : Pair) → pair_of (sender_on on m) ≡ Some p → pair ≡ p → Kept pair (map_after m p act) past
      here p e i =
          let sent : sends pair ≡ true = ap sends i ∙ hearer-sends on p (get m p) (led (hears_link on) m p e).1 in
          let sound : SoundAt pair (get m pair) = k.0 in (
            subst (λ (q : Pair). SoundAt q (get (map_after m p act) q)) (sym i)
                (subst (λ (o : Option Endpoint). SoundAt p o) (sym (after-at m p act)) (f p e (subst (λ (q : Pair). SoundAt q (get m q)) i sound))),
            λ r. let no : sends pair ≡ false = one_way pair r in absurd (cc (sent, no)),
          )

      by : (p : Pair) (b : Bool) → pair_of (sender_on on m) ≡ Some p → same pair p ≡ b → Kept pair (map_after m p act) past
      by p true e q = here p e (same_pair pair p q)
      by p false e q = elsewhere-kept m (map_after m p act) past (after-elsewhere m p pair act (another pair p q)) k

      go : (o : Option Pair) → pair_of (sender_on on m) ≡ o → Kept pair (map_after_at m o act) past
      go None e = k
      go (Some p) e = by p (same pair p) e refl

  freed : (on : ℕ) (m : Ends) (past : PairHistory) → Kept pair m past → Kept pair (map_after_at m (pair_of (sender_on on m)) (answered_in on Texts.Rfnm m)) past
  freed on m past k =
      sender-moves on m (answered_in on Texts.Rfnm m) past
      (λ p e s. subst (λ (o : Option Endpoint). SoundAt p o) (ap (λ h. h.after) (answered-led m on Texts.Rfnm p e).1) (sound-after p (Is_answered Texts.Rfnm) (get m p) s)) k

  gone : (on : ℕ) (m : Ends) (past : PairHistory) → Kept pair m past → Kept pair (map_after_at m (pair_of (sender_on on m)) (cut_in on m)) past
  gone on m past k =
      sender-moves on m (cut_in on m) past
      (λ p e s. subst (λ (o : Option Endpoint). SoundAt p o) (ap (λ h. h.after) (cut-led m on p e).1) (sound-after p Text_goes_out (get m p) s)) k

  frees-kept : (on : ℕ) (p : Peer) (past : PairHistory) → Kept pair p.ends past → Kept pair (frees on p).ends past
  frees-kept on p past k = go (up p.phase)
    where
      go : (b : Bool) → Kept pair (if b then frees_up on p else p).ends past
      go true = while-up (frees_up on p).phase (map_after_at p.ends (pair_of (sender_on on p.ends)) (answered_in on Texts.Rfnm p.ends)) past (freed on p.ends past k)
      go false = k

  freed-kept : (on : ℕ) (p : Peer) (past : PairHistory) → Kept pair p.ends past → Kept pair (frees_on on p).ends past
  freed-kept on p past k = go (on == control_link)
    where
      go : (b : Bool) → Kept pair (if b then p else frees on p).ends past
      go true = k
      go false = frees-kept on p past k

  answer-kept : (on : ℕ) (how : Answer) (slots : LinkSlots) (p : Peer) (past : PairHistory) → Kept pair p.ends past → Kept pair (after_answer on how slots p).ends past
  answer-kept on Rfnm slots p past k = freed-kept on p past k
  answer-kept on Incomplete slots p past k = k
  answer-kept on Dead slots p past k = k

  answers-kept : (on : ℕ) (how : Answer) (s : PeerState) (past : PairHistory) → Kept pair s.peer.ends past → Kept pair (answer_comes on how s).peer.ends past
  answers-kept on how s past k = go (is_answered on s)
    where
      go : (b : Bool) → Kept pair (if b then answer_taken on how s else record s { counts = record s.counts { stray = one_more s.counts.stray } }).peer.ends past
      go true = answer-kept on how (with_slot s.slots on (answered how (slot_at s.slots on))) s.peer past k
      go false = k

  made-kept : (on : ℕ) (p : Peer) (past : PairHistory) → Kept pair p.ends past → Kept pair (after_made on p).ends past
  made-kept on p past k = go (on == control_link)
    where
      go : (b : Bool) → Kept pair (if b then peer_sends p else cuts on p).ends past
      go true = k
      go false = gone on p.ends past k

  out-kept : (on : ℕ) (slot : LinkSlot) (p : Peer) (past : PairHistory) → Kept pair p.ends past → Kept pair (after_by slot on p).ends past
  out-kept on Empty p past k = made-kept on p past k
  out-kept on (Ready message) p past k = k
  out-kept on (Travelling message) p past k = k
  out-kept on (Held message) p past k = k

  sent-kept : (o : Result Leader Short) (message : List Bool) (s : PeerState) (past : PairHistory) → Kept pair s.peer.ends past → Kept pair (out_for o message s).peer.ends past
  sent-kept (Err short) message s past k = k
  sent-kept (Ok leader) message s past k = out-kept leader.link (slot_at s.slots leader.link) s.peer past k

  -- A message that comes.

  message-kept : (on : ℕ) (bits : List Bool) (o : Result Message MessageFault) (s : PeerState) (past : PairHistory) → Kept pair s.peer.ends past → Kept pair (message_after on bits o s).peer.ends (past_message pair on bits o s past)
  message-kept on bits (Err fault) s past k = k
  message-kept on bits (Ok m) s past k = go (is_wrong_link on) (on == control_link)
    where
      control : (b : Bool) → Kept pair (if b then hears_last (fault_in (bytes_of m.text)) (state_hears_all (commands_in (bytes_of m.text)) s) else record s { counts = record s.counts { wrong_size = one_more s.counts.wrong_size } }).peer.ends
          (if b then past_heard_all pair (commands_in (bytes_of m.text)) s past else past)
      control true = last-kept (fault_in (bytes_of m.text)) (state_hears_all (commands_in (bytes_of m.text)) s) _ (all-kept (commands_in (bytes_of m.text)) s past k)
      control false = k

      go : (a b : Bool) → Kept pair (if a then record s { counts = record s.counts { wrong_link = one_more s.counts.wrong_link } } else if b then state_after_control m s else state_after_text on (take 72 bits) m s).peer.ends
          (if a then past else if b then (if m.size == control_size then past_heard_all pair (commands_in (bytes_of m.text)) s past else past) else past_text pair on (take 72 bits) m s past)
      go true b = k
      go false true = control (m.size == control_size)
      go false false = text-kept on (take 72 bits) m.size m.text s.peer past k

  bits-kept : (o : Result Leader Short) (bits : List Bool) (s : PeerState) (past : PairHistory) → Kept pair s.peer.ends past → Kept pair (bits_for o bits s).peer.ends (past_bits pair o bits s past)
  bits-kept (Err short) bits s past k = k
  bits-kept (Ok leader) bits s past k = message-kept leader.link bits (message_in bits) s past k

  -- The other calls.

  reset-kept : (quiet : Bool) (p : Peer) (past : PairHistory) → Kept pair p.ends past → Kept pair (calls_reset quiet p).ends past
  reset-kept quiet p past k = go (is_resetting p.phase)
    where
      go : (b : Bool) → Kept pair (if b then p else cleared (resets quiet p.phase) p).ends past
      go true = k
      go false = none-kept past

  echo-kept : (byte : ℕ) (p : Peer) (past : PairHistory) → Kept pair p.ends past → Kept pair (calls_echo byte p).ends past
  echo-kept byte p past k = go (up p.phase)
    where
      go : (b : Bool) → Kept pair (if b then echo_called byte p else p).ends past
      go true = while-up (echo_called byte p).phase p.ends past k
      go false = k

  done-kept : (asked : Option (ℕ × Asked)) (s : PeerState) (past : PairHistory) → Kept pair s.peer.ends past → Kept pair (state_asked asked s).peer.ends (past_asked pair asked s past)
  done-kept None s past k = k
  done-kept (Some (peer, Asks p call)) s past k = call-kept p call s past k
  done-kept (Some (peer, Asks_echo byte)) s past k = echo-kept byte s.peer past k
  done-kept (Some (peer, Asks_reset)) s past k = reset-kept (is_quiet s.slots) s.peer past k
  done-kept (Some (peer, Asks_wake)) s past k = k

  note-kept : (note : HostNote) (s : PeerState) (past : PairHistory) → Kept pair s.peer.ends past → Kept pair (note_for note s).peer.ends (past_by pair note s past)
  note-kept (HostNote.Done call) s past k = done-kept (asked_in call) s past k
  note-kept (HostNote.Took peer p bytes text) s past k = call-kept p (Take bytes) s past k
  note-kept (HostNote.Out message) s past k = sent-kept (leader_in message) message s past k
  note-kept (HostNote.In message told) s past k = bits-kept (leader_in message) message s past k
  note-kept (HostNote.Answered peer link how told) s past k = answers-kept link how s past k
  note-kept other s past k = k

  pub run-kept : (all : List HostNote) (s : PeerState) (past : PairHistory) → Kept pair s.peer.ends past → Kept pair (notes_for all s).peer.ends (past_from pair all s past)
  run-kept [] s past k = k
  run-kept (note ∷ rest) s past k = run-kept rest (note_for note s) (past_by pair note s past) (note-kept note s past k)

  pub new-kept : Kept pair new_state.peer.ends no_past
  new-kept = none-kept no_past
