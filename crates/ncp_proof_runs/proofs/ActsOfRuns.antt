-- The acts that the notes of a peer say of a pair are those of the rules, and lead to the end that is there.
use Rattle.std.proofs.Common.{◌≡◌, ℕ, ◌==◌, Bool, true, false, if◌then◌else◌, List, [], ◌∷◌, ◌++◌, take, Option, None, Some, Result, Ok, Err, refl, sym, ap, ◌∙◌, subst}
use Rattle.std.specs.FinMap.{get, get-empty}
use Rattle.ncp_numbers.specs.Bytes.{bytes_of}
use Rattle.ncp_leader.specs.declared.leader.Leader.{Leader}
use Rattle.ncp_leader.specs.declared.leader.Short.{Short}
use Rattle.ncp_leader.specs.declared.fault.MessageFault.{MessageFault}
use Rattle.ncp_leader.specs.Leader.{leader_in}
use Rattle.ncp_leader.specs.Message.{Message, message_in}
use Rattle.ncp_wire.specs.declared.command.Command.{Command}
use Rattle.ncp_wire.specs.declared.fault.CommandFault.{CommandFault}
use Rattle.ncp_control.specs.Reading.{commands_in, fault_in}
use Rattle.ncp_slot.specs.declared.slot.Slot.TheVariants.{Empty, Ready, Travelling, Held}
use Rattle.ncp_wire.specs.declared.answer.Answer.{Answer}
use Rattle.ncp_wire.specs.declared.answer.Answer.TheVariants.{Rfnm, Incomplete, Dead}
use Rattle.ncp_slot.specs.Slot.{answered}
use Rattle.ncp_slot.specs.Slots.{LinkSlot, LinkSlots, slot_at, with_slot, is_quiet}
use Rattle.ncp_model.specs.declared.pair.Pair.{Pair}
use Rattle.ncp_model.specs.Pairs.{same, pair_cmp}
use Rattle.ncp_model.specs.Endpoint.{Endpoint}
use Rattle.ncp_model.specs.Effect.{Effect, end_after}
use Rattle.ncp_model.specs.Texts
use Rattle.ncp_model.specs.Texts.{hear_text}
use Rattle.ncp_model.specs.Ends.{Ends, uses_link, hears_link, pair_of, receiver_on, sender_on, demux_command, hear, text_in, cut_in, answered_in, map_after, map_after_at, no_ends, put}
use Rattle.ncp_model.specs.EndpointEvents.{EndpointEvent, Text_comes, Text_goes_out, Is_answered, happens}
use Rattle.ncp_model.specs.Demux.{suits, comes}
use Rattle.ncp_model.specs.Phase.{Phase, up, is_resetting, resets}
use Rattle.ncp_model.specs.Sending.{is_full}
use Rattle.ncp_model.specs.Peers.{Peer, Take, kept, called, happened_at, PairCall, calls, calls_echo, calls_reset, calls_up, cuts, echo_called, frees, frees_up, hears, hears_fault, hears_other, hears_text, makes, peer_sends, takes_text}
use Rattle.ncp_model.specs.Peers
use Rattle.ncp_model.proofs.EndsAfter.{after-at, after-elsewhere}
use Rattle.ncp_model.proofs.LinksDemux.{led, command-led, cut-led, answered-led, hearer-sends, user-receives, suits-led}
use Rattle.ncp_peer.specs.Counting.{one_more}
use Rattle.ncp_peer.specs.PeerState.{PeerState, new_state, control_link, is_answered, answer_taken, answer_comes, frees_on, after_answer}
use Rattle.ncp_peer.specs.Hearing.{control_size, state_after_control, state_after_text, is_wrong_link, state_hears, state_hears_all, hears_last, message_after}
use Rattle.ncp_peer.specs.Output.{after_made, after_by}
use Rattle.ncp_transcript.specs.Asked.{asked_in, Asked, Asks, Asks_echo, Asks_reset, Asks_wake}
use Rattle.ncp_transcript.specs.declared.note.HostNote.{HostNote}
use Rattle.ncp_proof_runs.specs.Peers.{state_asked, bits_for, out_for, note_for, notes_for}
use Rattle.ncp_proof_runs.specs.Acts.{Acted, was_cleared, act_at, gone_down, acts_called, acts_echoed, acts_reset, acts_asked, acts_heard_up, acts_heard, acts_heard_all, acts_of_fault, acts_of_control, acts_of_text, acts_of_message, acts_of_bits, acts_of_new, acts_of_output, acts_of_out, acts_of_freeing, acts_of_answer, acts_answered, acts_by, acts_from, AreActs}
use Rattle.ncp_proof_runs.proofs.BooksOfRuns.{same_pair, another, put_here, put_there, called-suits, comes-led}

module _ (pair : Pair) where
  pub joined-acts : (acts more : List Acted) (before between after : Option Endpoint) → AreActs pair before acts between → AreActs pair between more after → AreActs pair before (acts ++ more) after
  joined-acts [] more before between after e f = subst (λ (o : Option Endpoint). AreActs pair o more after) e f
  joined-acts (act ∷ acts) more before between after e f = (e.0, e.1, joined-acts acts more (happens pair act.what before).after between after e.2 f)

  cleared : (before : Option Endpoint) → AreActs pair before (was_cleared ∷ []) (get no_ends pair)
  cleared before = (refl, refl, get-empty pair_cmp pair)

  down : (q : Phase) (m : Ends) → AreActs pair (get m pair) (gone_down q) (get (kept q m) pair)
  down q m = go (up q)
    where
      go : (b : Bool) → AreActs pair (get m pair) (if b then [] else was_cleared ∷ []) (get (if b then m else no_ends) pair)
      go true = refl
      go false = cleared (get m pair)

  -- something happened to a pair, and the others stay
  moves : (m now : Ends) (p : Pair) (what : EndpointEvent) → suits p what ≡ true → get now p ≡ (happens p what (get m p)).after → ((q : Pair) → (q ≡ p → ⊥) → get now q ≡ get m q) → AreActs pair (get m pair) (act_at pair (Some p) (Some what) m) (get now pair)
  moves m now p what fits here there = go (same pair p) refl
    where
      go : (b : Bool) → same pair p ≡ b → AreActs pair (get m pair) (if b then (let did = happens pair what (get m pair) in record { what = what; outcome = did.outcome; made = did.made }) ∷ [] else []) (get now pair)
      go true e =
          let i : pair ≡ p = same_pair pair p e in (
            ap (λ (q : Pair). suits q what) i ∙ fits,
            refl,
            ap (get now) i ∙ here ∙ ap (λ (q : Pair). (happens q what (get m q)).after) (sym i),
          )
      go false e = there pair (another pair p e)

  -- an act where a look-up led
  act-moves : {A : Type 0} → (m : Ends) (o : Option Pair) (what : EndpointEvent) (act : Effect A) → ((p : Pair) → o ≡ Some p → (suits p what ≡ true) × ((happens p what (get m p)).after ≡ end_after (get m p) act)) → AreActs pair (get m pair) (act_at pair o (Some what) m) (get (map_after_at m o act) pair)
  act-moves m None what act f = refl
  act-moves m (Some p) what act f =
      let g = f p refl in
      moves m (map_after m p act) p what g.0 (after-at m p act ∙ sym g.1) (λ q n. after-elsewhere m p q act n)

  -- A call.

  call-acts : (p : Pair) (call : PairCall) (s : PeerState) → AreActs pair (get s.peer.ends pair) (acts_called pair p call s) (get (calls p call s.peer).ends pair)
  call-acts p call s = go (up s.peer.phase)
    where
      did : AreActs pair (get s.peer.ends pair) (act_at pair (Some p) (Some (called call (is_full s.peer.phase) s.peer.ends)) s.peer.ends) (get (put s.peer.ends p (happened_at p call s.peer).after) pair)
      did = moves s.peer.ends (put s.peer.ends p (happened_at p call s.peer).after) p (called call (is_full s.peer.phase) s.peer.ends) (called-suits pair p call (is_full s.peer.phase) s.peer.ends)
          (put_here pair s.peer.ends p (happened_at p call s.peer).after) (put_there pair s.peer.ends p (happened_at p call s.peer).after)

      go : (b : Bool) → AreActs pair (get s.peer.ends pair) (if b then act_at pair (Some p) (Some (called call (is_full s.peer.phase) s.peer.ends)) s.peer.ends ++ gone_down (calls_up p call s.peer).phase else []) (get (if b then calls_up p call s.peer else s.peer).ends pair)
      go true = joined-acts (act_at pair (Some p) (Some (called call (is_full s.peer.phase) s.peer.ends)) s.peer.ends) (gone_down (calls_up p call s.peer).phase) _ _ _ did (down (calls_up p call s.peer).phase (put s.peer.ends p (happened_at p call s.peer).after))
      go false = refl

  reset-acts : (s : PeerState) → AreActs pair (get s.peer.ends pair) (acts_reset s) (get (calls_reset (is_quiet s.slots) s.peer).ends pair)
  reset-acts s = go (is_resetting s.peer.phase)
    where
      go : (b : Bool) → AreActs pair (get s.peer.ends pair) (if b then [] else was_cleared ∷ []) (get (if b then s.peer else Peers.cleared (resets (is_quiet s.slots) s.peer.phase) s.peer).ends pair)
      go true = refl
      go false = cleared (get s.peer.ends pair)

  echo-acts : (byte : ℕ) (s : PeerState) → AreActs pair (get s.peer.ends pair) (acts_echoed byte s) (get (calls_echo byte s.peer).ends pair)
  echo-acts byte s = go (up s.peer.phase)
    where
      go : (b : Bool) → AreActs pair (get s.peer.ends pair) (if b then gone_down (echo_called byte s.peer).phase else []) (get (if b then echo_called byte s.peer else s.peer).ends pair)
      go true = down (echo_called byte s.peer).phase s.peer.ends
      go false = refl

  done-acts : (asked : Option (ℕ × Asked)) (s : PeerState) → AreActs pair (get s.peer.ends pair) (acts_asked pair asked s) (get (state_asked asked s).peer.ends pair)
  done-acts None s = refl
  done-acts (Some (peer, Asks p call)) s = call-acts p call s
  done-acts (Some (peer, Asks_echo byte)) s = echo-acts byte s
  done-acts (Some (peer, Asks_reset)) s = reset-acts s
  done-acts (Some (peer, Asks_wake)) s = refl

  -- A command that comes.

  command-moves : (c : Command) (m : Ends) → AreActs pair (get m pair) (act_at pair (demux_command c m) (comes c m) m) (get (map_after_at m (demux_command c m) (hear c m)) pair)
  command-moves c m = go (demux_command c m) (comes c m) refl refl
    where
      go : (o : Option Pair) (w : Option EndpointEvent) → demux_command c m ≡ o → comes c m ≡ w → AreActs pair (get m pair) (act_at pair o w m) (get (map_after_at m o (hear c m)) pair)
      go None w e f = refl
      go (Some p) None e f = absurd (comes-led pair c m p e f)
      go (Some p) (Some what) e f =
          let l = command-led m c p what e f in
          moves m (map_after m p (hear c m)) p what (suits-led p what (get m p) l.0) (after-at m p (hear c m) ∙ sym (ap (λ h. h.after) l.1)) (λ q n. after-elsewhere m p q (hear c m) n)

  other-acts : (quiet : Bool) (c : Command) (p : Peer) → AreActs pair (get p.ends pair) (if up p.phase then acts_heard_up quiet pair c p else []) (get (if up p.phase then hears_other quiet c p else p).ends pair)
  other-acts quiet c p = go (up p.phase)
    where
      go : (b : Bool) → AreActs pair (get p.ends pair) (if b then acts_heard_up quiet pair c p else []) (get (if b then hears_other quiet c p else p).ends pair)
      go true = joined-acts (act_at pair (demux_command c p.ends) (comes c p.ends) p.ends) (gone_down (hears_other quiet c p).phase) _ _ _ (command-moves c p.ends) (down (hears_other quiet c p).phase (map_after_at p.ends (demux_command c p.ends) (hear c p.ends)))
      go false = refl

  heard-acts : (quiet : Bool) (c : Command) (p : Peer) → AreActs pair (get p.ends pair) (acts_heard quiet pair c p) (get (hears quiet c p).ends pair)
  heard-acts quiet Command.Rst p = cleared (get p.ends pair)
  heard-acts quiet Command.Rrp p = refl
  heard-acts quiet c p = other-acts quiet c p

  all-acts : (cs : List Command) (s : PeerState) → AreActs pair (get s.peer.ends pair) (acts_heard_all pair cs s) (get (state_hears_all cs s).peer.ends pair)
  all-acts [] s = refl
  all-acts (c ∷ cs) s = joined-acts (acts_heard (is_quiet s.slots) pair c s.peer) (acts_heard_all pair cs (state_hears c s)) _ _ _ (heard-acts (is_quiet s.slots) c s.peer) (all-acts cs (state_hears c s))

  fault-acts : (fault : Option CommandFault) (s : PeerState) → AreActs pair (get s.peer.ends pair) (acts_of_fault fault s.peer) (get (hears_last fault s).peer.ends pair)
  fault-acts None s = refl
  fault-acts (Some fault) s = go (up s.peer.phase) refl
    where
      made : Peer
      made = makes (Command.Err fault.code fault.bytes ∷ []) s.peer

      go : (b : Bool) → up s.peer.phase ≡ b → AreActs pair (get s.peer.ends pair) (if b then gone_down (hears_fault fault s.peer).phase else []) (get (hears_fault fault s.peer).ends pair)
      go b e =
          subst (λ (p : Peer). AreActs pair (get s.peer.ends pair) (if b then gone_down p.phase else []) (get p.ends pair))
          (ap (λ (x : Bool). if x then makes (Command.Err fault.code fault.bytes ∷ []) s.peer else s.peer) (sym e)) (by b)
        where
          by : (x : Bool) → AreActs pair (get s.peer.ends pair) (if x then gone_down (if x then makes (Command.Err fault.code fault.bytes ∷ []) s.peer else s.peer).phase else []) (get (if x then makes (Command.Err fault.code fault.bytes ∷ []) s.peer else s.peer).ends pair)
          by true = down (makes (Command.Err fault.code fault.bytes ∷ []) s.peer).phase s.peer.ends
          by false = refl

  control-acts : (m : Message) (s : PeerState) → AreActs pair (get s.peer.ends pair) (if m.size == control_size then acts_of_control pair m s else []) (get (state_after_control m s).peer.ends pair)
  control-acts m s = go (m.size == control_size)
    where
      cs : List Command
      cs = commands_in (bytes_of m.text)

      go : (b : Bool) → AreActs pair (get s.peer.ends pair) (if b then acts_of_control pair m s else []) (get (if b then hears_last (fault_in (bytes_of m.text)) (state_hears_all (commands_in (bytes_of m.text)) s) else record s { counts = record s.counts { wrong_size = one_more s.counts.wrong_size } }).peer.ends pair)
      go true =
          joined-acts (acts_heard_all pair (commands_in (bytes_of m.text)) s) (acts_of_fault (fault_in (bytes_of m.text)) (state_hears_all (commands_in (bytes_of m.text)) s).peer) _ _ _
          (all-acts (commands_in (bytes_of m.text)) s) (fault-acts (fault_in (bytes_of m.text)) (state_hears_all (commands_in (bytes_of m.text)) s))
      go false = refl

  -- A text that comes.

  text-acts : (on : ℕ) (head : List Bool) (m : Message) (p : Peer) → AreActs pair (get p.ends pair) (acts_of_text pair on head m p) (get (hears_text on head m.size m.text p).ends pair)
  text-acts on head m p = go (up p.phase)
    where
      did : AreActs pair (get p.ends pair) (act_at pair (pair_of (receiver_on on p.ends)) (Some (Text_comes head m.size m.text)) p.ends) (get (map_after_at p.ends (pair_of (receiver_on on p.ends)) (text_in on m.size m.text p.ends)) pair)
      did =
          act-moves p.ends (pair_of (receiver_on on p.ends)) (Text_comes head m.size m.text) (text_in on m.size m.text p.ends)
          (λ q e. let l = led (uses_link on) p.ends q e in (user-receives on q (get p.ends q) l.1, ap (λ o. end_after (get p.ends q) (hear_text m.size m.text o)) l.0))

      go : (b : Bool) → AreActs pair (get p.ends pair) (if b then act_at pair (pair_of (receiver_on on p.ends)) (Some (Text_comes head m.size m.text)) p.ends ++ gone_down (takes_text on head m.size m.text p).phase else []) (get (if b then takes_text on head m.size m.text p else p).ends pair)
      go true =
          joined-acts (act_at pair (pair_of (receiver_on on p.ends)) (Some (Text_comes head m.size m.text)) p.ends) (gone_down (takes_text on head m.size m.text p).phase) _ _ _ did
          (down (takes_text on head m.size m.text p).phase (map_after_at p.ends (pair_of (receiver_on on p.ends)) (text_in on m.size m.text p.ends)))
      go false = refl

  message-acts : (on : ℕ) (bits : List Bool) (o : Result Message MessageFault) (s : PeerState) → AreActs pair (get s.peer.ends pair) (acts_of_message pair on bits o s) (get (message_after on bits o s).peer.ends pair)
  message-acts on bits (Err fault) s = refl
  message-acts on bits (Ok m) s = go (is_wrong_link on) (on == control_link)
    where
      go : (a b : Bool) → AreActs pair (get s.peer.ends pair) (if a then [] else if b then (if m.size == control_size then acts_of_control pair m s else []) else acts_of_text pair on (take 72 bits) m s.peer)
          (get (if a then record s { counts = record s.counts { wrong_link = one_more s.counts.wrong_link } } else if b then state_after_control m s else state_after_text on (take 72 bits) m s).peer.ends pair)
      go true b = refl
      go false true = control-acts m s
      go false false = text-acts on (take 72 bits) m s.peer

  bits-acts : (o : Result Leader Short) (bits : List Bool) (s : PeerState) → AreActs pair (get s.peer.ends pair) (acts_of_bits pair o bits s) (get (bits_for o bits s).peer.ends pair)
  bits-acts (Err short) bits s = refl
  bits-acts (Ok leader) bits s = message-acts leader.link bits (message_in bits) s

  -- A text that goes out, and one that was taken.

  new-acts : (on : ℕ) (p : Peer) → AreActs pair (get p.ends pair) (acts_of_new pair on p) (get (after_made on p).ends pair)
  new-acts on p = go (on == control_link)
    where
      go : (b : Bool) → AreActs pair (get p.ends pair) (if b then [] else act_at pair (pair_of (sender_on on p.ends)) (Some Text_goes_out) p.ends) (get (if b then peer_sends p else cuts on p).ends pair)
      go true = refl
      go false =
          act-moves p.ends (pair_of (sender_on on p.ends)) Text_goes_out (cut_in on p.ends)
          (λ q e. (hearer-sends on q (get p.ends q) (led (hears_link on) p.ends q e).1, ap (λ h. h.after) (cut-led p.ends on q e).1))

  output-acts : (on : ℕ) (slot : LinkSlot) (p : Peer) → AreActs pair (get p.ends pair) (acts_of_output pair slot on p) (get (after_by slot on p).ends pair)
  output-acts on Empty p = new-acts on p
  output-acts on (Ready message) p = refl
  output-acts on (Travelling message) p = refl
  output-acts on (Held message) p = refl

  out-acts : (o : Result Leader Short) (message : List Bool) (s : PeerState) → AreActs pair (get s.peer.ends pair) (acts_of_out pair o s) (get (out_for o message s).peer.ends pair)
  out-acts (Err short) message s = refl
  out-acts (Ok leader) message s = output-acts leader.link (slot_at s.slots leader.link) s.peer

  freeing-acts : (on : ℕ) (p : Peer) → AreActs pair (get p.ends pair) (acts_of_freeing pair on p) (get (frees on p).ends pair)
  freeing-acts on p = go (up p.phase)
    where
      did : AreActs pair (get p.ends pair) (act_at pair (pair_of (sender_on on p.ends)) (Some (Is_answered Texts.Rfnm)) p.ends) (get (map_after_at p.ends (pair_of (sender_on on p.ends)) (answered_in on Texts.Rfnm p.ends)) pair)
      did =
          act-moves p.ends (pair_of (sender_on on p.ends)) (Is_answered Texts.Rfnm) (answered_in on Texts.Rfnm p.ends)
          (λ q e. (hearer-sends on q (get p.ends q) (led (hears_link on) p.ends q e).1, ap (λ h. h.after) (answered-led p.ends on Texts.Rfnm q e).1))

      go : (b : Bool) → AreActs pair (get p.ends pair) (if b then act_at pair (pair_of (sender_on on p.ends)) (Some (Is_answered Texts.Rfnm)) p.ends ++ gone_down (frees_up on p).phase else []) (get (if b then frees_up on p else p).ends pair)
      go true =
          joined-acts (act_at pair (pair_of (sender_on on p.ends)) (Some (Is_answered Texts.Rfnm)) p.ends) (gone_down (frees_up on p).phase) _ _ _ did
          (down (frees_up on p).phase (map_after_at p.ends (pair_of (sender_on on p.ends)) (answered_in on Texts.Rfnm p.ends)))
      go false = refl

  taken-acts : (on : ℕ) (p : Peer) → AreActs pair (get p.ends pair) (if on == control_link then [] else acts_of_freeing pair on p) (get (frees_on on p).ends pair)
  taken-acts on p = go (on == control_link)
    where
      go : (b : Bool) → AreActs pair (get p.ends pair) (if b then [] else acts_of_freeing pair on p) (get (if b then p else frees on p).ends pair)
      go true = refl
      go false = freeing-acts on p

  answer-acts : (on : ℕ) (how : Answer) (slots : LinkSlots) (p : Peer) → AreActs pair (get p.ends pair) (acts_of_answer pair on how p) (get (after_answer on how slots p).ends pair)
  answer-acts on Rfnm slots p = taken-acts on p
  answer-acts on Incomplete slots p = refl
  answer-acts on Dead slots p = refl

  answered-acts : (on : ℕ) (how : Answer) (s : PeerState) → AreActs pair (get s.peer.ends pair) (acts_answered pair on how s) (get (answer_comes on how s).peer.ends pair)
  answered-acts on how s = go (is_answered on s)
    where
      go : (b : Bool) → AreActs pair (get s.peer.ends pair) (if b then acts_of_answer pair on how s.peer else []) (get (if b then answer_taken on how s else record s { counts = record s.counts { stray = one_more s.counts.stray } }).peer.ends pair)
      go true = answer-acts on how (with_slot s.slots on (answered how (slot_at s.slots on))) s.peer
      go false = refl

  note-acts : (note : HostNote) (s : PeerState) → AreActs pair (get s.peer.ends pair) (acts_by pair note s) (get (note_for note s).peer.ends pair)
  note-acts (HostNote.Done call) s = done-acts (asked_in call) s
  note-acts (HostNote.Took peer p bytes text) s = call-acts p (Take bytes) s
  note-acts (HostNote.Out message) s = out-acts (leader_in message) message s
  note-acts (HostNote.In message told) s = bits-acts (leader_in message) message s
  note-acts (HostNote.Answered peer link how told) s = answered-acts link how s
  note-acts other s = refl

  pub run-acts : (all : List HostNote) (s : PeerState) → AreActs pair (get s.peer.ends pair) (acts_from pair all s) (get (notes_for all s).peer.ends pair)
  run-acts [] s = refl
  run-acts (note ∷ rest) s = joined-acts (acts_by pair note s) (acts_from pair rest (note_for note s)) _ _ _ (note-acts note s) (run-acts rest (note_for note s))

  pub acts-from-nothing : (all : List HostNote) → AreActs pair None (acts_from pair all new_state) (get (notes_for all new_state).peer.ends pair)
  acts-from-nothing all = subst (λ (o : Option Endpoint). AreActs pair o (acts_from pair all new_state) (get (notes_for all new_state).peer.ends pair)) (get-empty pair_cmp pair) (run-acts all new_state)
