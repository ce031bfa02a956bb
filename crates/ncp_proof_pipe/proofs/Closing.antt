-- A host hears a close of its peer for a pair only by a CLS that it reads.
use Rattle.std.proofs.Common.{◌≡◌, ◌≤◌, ℕ, ◌+◌, ◌==◌, Bool, true, false, ◌&&◌, cond, if◌then◌else◌, List, [], ◌∷◌, ◌++◌, length, take, Option, None, Some, Result, Ok, Err, refl, sym, ap, subst, arith}
use Rattle.std.specs.List.{filter}
use Rattle.std.specs.FinMap.{get}
use Rattle.ncp_numbers.specs.Bytes.{bytes_of}
use Rattle.ncp_leader.specs.declared.leader.Leader.{Leader}
use Rattle.ncp_leader.specs.declared.leader.Short.{Short}
use Rattle.ncp_leader.specs.declared.fault.MessageFault.{MessageFault}
use Rattle.ncp_leader.specs.declared.regular.TheConstants.{FRONT_BITS}
use Rattle.ncp_leader.specs.Leader.{leader_in}
use Rattle.ncp_leader.specs.Message.{Message, message_in}
use Rattle.ncp_wire.specs.declared.command.Command.{Command}
use Rattle.ncp_wire.specs.declared.fault.CommandFault.{CommandFault}
use Rattle.ncp_control.specs.Reading.{commands_in, fault_in}
use Rattle.ncp_slot.specs.declared.slot.Slot.TheVariants as slots
use Rattle.ncp_slot.specs.Slots.{LinkSlot, slot_at, is_quiet}
use Rattle.ncp_wire.specs.declared.answer.Answer.{Answer}
use Rattle.ncp_wire.specs.declared.answer.Answer.TheVariants.{Rfnm, Incomplete, Dead}
use Rattle.ncp_model.specs.declared.pair.Pair.{Pair}
use Rattle.ncp_model.specs.Pairs.{same}
use Rattle.ncp_model.specs.Texts
use Rattle.ncp_model.specs.Texts.{made_by_text}
use Rattle.ncp_model.specs.Ends.{Ends, pair_of, receiver_on, sender_on, demux_command}
use Rattle.ncp_model.specs.EndpointEvents.{EndpointEvent, happens}
use Rattle.ncp_model.specs.Demux.{comes}
use Rattle.ncp_model.specs.Phase.{Phase, up, is_resetting}
use Rattle.ncp_model.specs.Sending.{is_full}
use Rattle.ncp_model.specs.Peers
use Rattle.ncp_model.specs.Peers.{Peer, Take, makes, PairCall, called, happened_at, calls_up, echo_called, frees_up, hears_fault, hears_other, takes_text, reaction}
use Rattle.ncp_peer.specs.PeerState.{PeerState, control_link, is_answered}
use Rattle.ncp_peer.specs.Hearing.{control_size, is_wrong_link, state_hears, state_hears_all}
use Rattle.ncp_transcript.specs.Asked.{Asked, Asks, Asks_echo, Asks_reset, Asks_wake, asked_in}
use Rattle.ncp_transcript.specs.declared.note.HostNote.{HostNote}
use Rattle.ncp_proof_runs.specs.Acts.{Acted, acted, was_cleared, act_at, gone_down, acts_called, acts_asked, acts_heard, acts_heard_all, acts_of_fault, acts_of_control, acts_of_text, acts_of_message, acts_of_bits, acts_of_output, acts_of_out, acts_of_freeing, acts_of_answer, acts_answered, acts_by, acts_from}
use Rattle.ncp_proof_runs.specs.Peers.{note_for}
use Rattle.ncp_proof_runs.proofs.HostRuns.{some_same}
use Rattle.ncp_proof_pipe.specs.Clearings.{read_by, commands_read, is_close_of, closes_read}
use Rattle.ncp_proof_pipe.specs.Stops.{is_close_by_peer, times}

abbrev Closes : List Acted → ℕ
Closes acts = times is_close_by_peer acts

abbrev one_if : Bool → ℕ
one_if b = if b then 1 else 0

zero-le : (n : ℕ) → 0 ≤ n
zero-le n = omega arith

closes-append : (some more : List Acted) → Closes (some ++ more) ≡ Closes some + Closes more
closes-append [] more = omega arith
closes-append (act ∷ some) more = omega (arith, closes-append some more)

none-down : (q : Phase) → Closes (gone_down q) ≡ 0
none-down q = go (up q)
  where
    go : (b : Bool) → Closes (if b then [] else was_cleared ∷ []) ≡ 0
    go true = refl
    go false = refl

then-down : (acts : List Acted) (q : Phase) (n : ℕ) → Closes acts ≤ n → Closes (acts ++ gone_down q) ≤ n
then-down acts q n l = omega (arith, closes-append acts (gone_down q), none-down q, l)

if-up : (b : Bool) (acts : List Acted) (n : ℕ) → Closes acts ≤ n → Closes (if b then acts else []) ≤ n
if-up true acts n l = l
if-up false acts n l = zero-le n

none-of : (what now : EndpointEvent) → is_close_by_peer what ≡ false → Some what ≡ Some now → is_close_by_peer now ≡ false
none-of what now n e = subst (λ (w : EndpointEvent). is_close_by_peer w ≡ false) (some_same e) n

none-called : (call : PairCall) (full : Bool) (m : Ends) → is_close_by_peer (called call full m) ≡ false
none-called (Peers.Ask_to_send a b) full m = refl
none-called (Peers.Ask_to_receive a) full m = refl
none-called Peers.Close full m = refl
none-called (Peers.Give text) full m = refl
none-called (Peers.Take bytes) full m = refl
none-called (Peers.Allocate a b) full m = refl
none-called (Peers.Call_back a b) full m = refl
none-called Peers.Interrupt full m = refl

module _ (pair : Pair) where
  none-at : (p : Option Pair) (w : Option EndpointEvent) (m : Ends) → ((what : EndpointEvent) → w ≡ Some what → is_close_by_peer what ≡ false) → Closes (act_at pair p w m) ≤ 0
  none-at (Some p) (Some what) m alien = go (same pair p)
    where
      go : (b : Bool) → Closes (if b then acted what (happens pair what (get m pair)) ∷ [] else []) ≤ 0
      go true = subst (λ (n : ℕ). n ≤ 0) (sym (ap (λ (c : Bool). one_if c + 0) (alien what refl))) (zero-le 0)
      go false = zero-le 0
  none-at (Some p) None m alien = zero-le 0
  none-at None w m alien = zero-le 0

  called-closes : (p : Pair) (call : PairCall) (s : PeerState) → Closes (acts_called pair p call s) ≤ 0
  called-closes p call s =
      if-up (up s.peer.phase) (act_at pair (Some p) (Some (called call (is_full s.peer.phase) s.peer.ends)) s.peer.ends ++ gone_down (calls_up p call s.peer).phase) 0
      (then-down (act_at pair (Some p) (Some (called call (is_full s.peer.phase) s.peer.ends)) s.peer.ends) (calls_up p call s.peer).phase 0 (none-at (Some p) (Some (called call (is_full s.peer.phase) s.peer.ends)) s.peer.ends (λ what e. none-of _ what (none-called call (is_full s.peer.phase) s.peer.ends) e)))

  asked-closes : (o : Option (ℕ × Asked)) (s : PeerState) → Closes (acts_asked pair o s) ≤ 0
  asked-closes (Some (peer, Asks p call)) s = called-closes p call s
  asked-closes (Some (peer, Asks_echo byte)) s = if-up (up s.peer.phase) (gone_down (echo_called byte s.peer).phase) 0 (then-down [] (echo_called byte s.peer).phase 0 (zero-le 0))
  asked-closes (Some (peer, Asks_reset)) s = go (is_resetting s.peer.phase)
    where
      go : (b : Bool) → Closes (if b then [] else was_cleared ∷ []) ≤ 0
      go true = zero-le 0
      go false = zero-le 0
  asked-closes (Some (peer, Asks_wake)) s = zero-le 0
  asked-closes None s = zero-le 0

  -- a command that is read

  abbrev Read : List Command → ℕ
  Read cs = length (filter (is_close_of pair) cs)

  cls-closes : (my your : ℕ) (m : Ends) → Closes (act_at pair (Some (record { local = your; remote = my })) (Some EndpointEvent.Cls_comes) m) ≤ Read (Command.Cls my your ∷ [])
  cls-closes my your m = go (same pair (record { local = your; remote = my }))
    where
      go : (b : Bool) → Closes (if b then acted EndpointEvent.Cls_comes (happens pair EndpointEvent.Cls_comes (get m pair)) ∷ [] else []) ≤ length (cond b (Command.Cls my your ∷ []) [])
      go true = omega arith
      go false = zero-le 0

  at-closes : (c : Command) (m : Ends) → Closes (act_at pair (demux_command c m) (comes c m) m) ≤ Read (c ∷ [])
  at-closes (Command.Cls my your) m = cls-closes my your m
  at-closes (Command.Rts receive send on) m = none-at (demux_command (Command.Rts receive send on) m) (comes (Command.Rts receive send on) m) m (λ what e. none-of _ what refl e)
  at-closes (Command.Str send receive of_size) m = none-at (demux_command (Command.Str send receive of_size) m) (comes (Command.Str send receive of_size) m) m (λ what e. none-of _ what refl e)
  at-closes (Command.All on a b) m = none-at (demux_command (Command.All on a b) m) (comes (Command.All on a b) m) m (λ what e. none-of _ what refl e)
  at-closes (Command.Gvb on a b) m = none-at (demux_command (Command.Gvb on a b) m) (comes (Command.Gvb on a b) m) m (λ what e. none-of _ what refl e)
  at-closes (Command.Ret on a b) m = none-at (demux_command (Command.Ret on a b) m) (comes (Command.Ret on a b) m) m (λ what e. none-of _ what refl e)
  at-closes (Command.Inr on) m = none-at (demux_command (Command.Inr on) m) (comes (Command.Inr on) m) m (λ what e. none-of _ what refl e)
  at-closes (Command.Ins on) m = none-at (demux_command (Command.Ins on) m) (comes (Command.Ins on) m) m (λ what e. none-of _ what refl e)
  at-closes c m = zero-le 0

  heard-closes : (still : Bool) (c : Command) (p : Peer) → Closes (acts_heard still pair c p) ≤ Read (c ∷ [])
  heard-closes still Command.Rst p = zero-le 0
  heard-closes still Command.Rrp p = zero-le 0
  heard-closes still c p =
      if-up (up p.phase) (act_at pair (demux_command c p.ends) (comes c p.ends) p.ends ++ gone_down (hears_other still c p).phase) (Read (c ∷ []))
      (then-down (act_at pair (demux_command c p.ends) (comes c p.ends) p.ends) (hears_other still c p).phase (Read (c ∷ [])) (at-closes c p.ends))

  one-more : (c : Command) (cs : List Command) → Read (c ∷ cs) ≡ Read (c ∷ []) + Read cs
  one-more c cs = go (is_close_of pair c)
    where
      go : (b : Bool) → length (cond b (c ∷ filter (is_close_of pair) cs) (filter (is_close_of pair) cs)) ≡ length (cond b (c ∷ []) []) + length (filter (is_close_of pair) cs)
      go true = omega arith
      go false = omega arith

  all-heard : (cs : List Command) (s : PeerState) → Closes (acts_heard_all pair cs s) ≤ Read cs
  all-heard [] s = zero-le 0
  all-heard (c ∷ cs) s =
      omega (arith, closes-append (acts_heard (is_quiet s.slots) pair c s.peer) (acts_heard_all pair cs (state_hears c s)), heard-closes (is_quiet s.slots) c s.peer, all-heard cs (state_hears c s), one-more c cs)

  fault-closes : (fault : Option CommandFault) (p : Peer) → Closes (acts_of_fault fault p) ≤ 0
  fault-closes None p = zero-le 0
  fault-closes (Some fault) p = if-up (up p.phase) (gone_down (hears_fault fault p).phase) 0 (then-down [] (hears_fault fault p).phase 0 (zero-le 0))

  message-closes : (on : ℕ) (bits : List Bool) (m : Message) (s : PeerState) → Closes (acts_of_message pair on bits (Ok m) s) ≤ Read (if on == control_link && m.size == control_size then commands_in (bytes_of m.text) else [])
  message-closes on bits m s = go (is_wrong_link on) (on == control_link) (m.size == control_size)
    where
      all : List Command
      all = commands_in (bytes_of m.text)

      control : Closes (acts_of_control pair m s) ≤ Read all
      control = omega (arith, closes-append (acts_heard_all pair all s) (acts_of_fault (fault_in (bytes_of m.text)) (state_hears_all all s).peer), all-heard all s, fault-closes (fault_in (bytes_of m.text)) (state_hears_all all s).peer)

      data_text : Closes (acts_of_text pair on (take FRONT_BITS bits) m s.peer) ≤ 0
      data_text =
          if-up (up s.peer.phase) (act_at pair (pair_of (receiver_on on s.peer.ends)) (Some (EndpointEvent.Text_comes (take FRONT_BITS bits) m.size m.text)) s.peer.ends ++ gone_down (takes_text on (take FRONT_BITS bits) m.size m.text s.peer).phase) 0
          (then-down (act_at pair (pair_of (receiver_on on s.peer.ends)) (Some (EndpointEvent.Text_comes (take FRONT_BITS bits) m.size m.text)) s.peer.ends) (takes_text on (take FRONT_BITS bits) m.size m.text s.peer).phase 0
          (none-at (pair_of (receiver_on on s.peer.ends)) (Some (EndpointEvent.Text_comes (take FRONT_BITS bits) m.size m.text)) s.peer.ends (λ what e. none-of _ what refl e)))

      go : (a b c : Bool) → Closes (if a then [] else if b then (if c then acts_of_control pair m s else []) else acts_of_text pair on (take FRONT_BITS bits) m s.peer) ≤ Read (if b && c then all else [])
      go true b c = zero-le _
      go false true true = control
      go false true false = zero-le _
      go false false c = data_text

  in-closes : (o : Result Leader Short) (bits : List Bool) (r : Result Message MessageFault) (s : PeerState) → r ≡ message_in bits → Closes (acts_of_bits pair o bits s) ≤ Read (read_by o (message_in bits))
  in-closes (Err short) bits r s e = zero-le _
  in-closes (Ok leader) bits (Err fault) s e = subst (λ (x : Result Message MessageFault). Closes (acts_of_message pair leader.link bits x s) ≤ Read (read_by (Ok leader) x)) e (zero-le 0)
  in-closes (Ok leader) bits (Ok m) s e = subst (λ (x : Result Message MessageFault). Closes (acts_of_message pair leader.link bits x s) ≤ Read (read_by (Ok leader) x)) e (message-closes leader.link bits m s)

  -- an answer, and a text that goes out

  answer-closes : (on : ℕ) (how : Answer) (p : Peer) → Closes (acts_of_answer pair on how p) ≤ 0
  answer-closes on Rfnm p = go (on == control_link)
    where
      go : (b : Bool) → Closes (if b then [] else acts_of_freeing pair on p) ≤ 0
      go true = zero-le 0
      go false =
          if-up (up p.phase) (act_at pair (pair_of (sender_on on p.ends)) (Some (EndpointEvent.Is_answered Texts.Rfnm)) p.ends ++ gone_down (frees_up on p).phase) 0
          (then-down (act_at pair (pair_of (sender_on on p.ends)) (Some (EndpointEvent.Is_answered Texts.Rfnm)) p.ends) (frees_up on p).phase 0
          (none-at (pair_of (sender_on on p.ends)) (Some (EndpointEvent.Is_answered Texts.Rfnm)) p.ends (λ what e. none-of _ what refl e)))
  answer-closes on Incomplete p = zero-le 0
  answer-closes on Dead p = zero-le 0

  answered-closes : (on : ℕ) (how : Answer) (s : PeerState) → Closes (acts_answered pair on how s) ≤ 0
  answered-closes on how s = if-up (is_answered on s) (acts_of_answer pair on how s.peer) 0 (answer-closes on how s.peer)

  out-closes : (o : Result Leader Short) (s : PeerState) → Closes (acts_of_out pair o s) ≤ 0
  out-closes (Err short) s = zero-le 0
  out-closes (Ok leader) s = by (slot_at s.slots leader.link)
    where
      by : (slot : LinkSlot) → Closes (acts_of_output pair slot leader.link s.peer) ≤ 0
      by slots.Empty = go (leader.link == control_link)
        where
          go : (b : Bool) → Closes (if b then [] else act_at pair (pair_of (sender_on leader.link s.peer.ends)) (Some EndpointEvent.Text_goes_out) s.peer.ends) ≤ 0
          go true = zero-le 0
          go false = none-at (pair_of (sender_on leader.link s.peer.ends)) (Some EndpointEvent.Text_goes_out) s.peer.ends (λ what e. none-of _ what refl e)
      by (slots.Ready message) = zero-le 0
      by (slots.Travelling message) = zero-le 0
      by (slots.Held message) = zero-le 0

  note-closes : (note : HostNote) (s : PeerState) → Closes (acts_by pair note s) ≤ Read (commands_read note)
  note-closes (HostNote.Done call) s = asked-closes (asked_in call) s
  note-closes (HostNote.Took peer p bytes text) s = called-closes p (Take bytes) s
  note-closes (HostNote.Out message) s = out-closes (leader_in message) s
  note-closes (HostNote.In message told) s = in-closes (leader_in message) message (message_in message) s refl
  note-closes (HostNote.Answered peer link how told) s = answered-closes link how s
  note-closes note s = zero-le 0

  pub all-closes : (told : List HostNote) (s : PeerState) → Closes (acts_from pair told s) ≤ closes_read pair told
  all-closes [] s = zero-le 0
  all-closes (note ∷ told) s = omega (arith, closes-append (acts_by pair note s) (acts_from pair told (note_for note s)), note-closes note s, all-closes told (note_for note s))
