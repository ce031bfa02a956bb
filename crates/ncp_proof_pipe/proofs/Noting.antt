-- The calls in the history of a pair are the users' steps that the notes of a transcript have.
use Rattle.std.proofs.Common.{◌≡◌, ℕ, ◌==◌, Bool, true, false, if◌then◌else◌, List, [], ◌∷◌, ◌++◌, take, Option, None, Some, Result, Ok, Err, refl, sym, ap, ◌∙◌, subst, arith}
use Rattle.std.proofs.lemmas.List.{append-nil, append_assoc}
use Rattle.std.specs.FinMap.{get}
use Rattle.ncp_numbers.specs.Bytes.{bytes_of}
use Rattle.ncp_leader.specs.declared.leader.Leader.{Leader}
use Rattle.ncp_leader.specs.declared.leader.Short.{Short}
use Rattle.ncp_leader.specs.declared.fault.MessageFault.{MessageFault}
use Rattle.ncp_leader.specs.declared.regular.TheConstants.{FRONT_BITS}
use Rattle.ncp_leader.specs.Leader.{leader_in}
use Rattle.ncp_leader.specs.Message.{Message, message_in}
use Rattle.ncp_wire.specs.declared.command.Command.{Command}
use Rattle.ncp_wire.specs.declared.fault.CommandFault.{CommandFault}
use Rattle.ncp_control.specs.Reading.{commands_in, fault_in}
use Rattle.ncp_slot.specs.declared.slot.Slot.TheVariants as slots
use Rattle.ncp_slot.specs.Slots.{LinkSlot, slot_at, is_quiet}
use Rattle.ncp_wire.specs.declared.answer.Answer.{Answer}
use Rattle.ncp_wire.specs.declared.answer.Answer.TheVariants.{Rfnm, Incomplete, Dead}
use Rattle.ncp_model.specs.declared.call_fault.CallFault.{CallFault}
use Rattle.ncp_model.specs.declared.pair.Pair.{Pair}
use Rattle.ncp_model.specs.Pairs.{same, sends, receives}
use Rattle.ncp_model.specs.Texts
use Rattle.ncp_model.specs.Ends.{Ends, pair_of, receiver_on, sender_on, demux_command}
use Rattle.ncp_model.specs.Phase.{Phase, up, is_resetting}
use Rattle.ncp_model.specs.Sending.{is_full}
use Rattle.ncp_model.specs.Peers.{Peer, Take, PairCall, called, calls_up, echo_called, frees_up, hears_fault, hears_other, takes_text}
use Rattle.ncp_model.specs.Endpoint.{Endpoint}
use Rattle.ncp_model.specs.EndpointEvents.{EndpointEvent, Outcome, happens, of_take}
use Rattle.ncp_model.specs.Demux.{suits, comes}
use Rattle.ncp_proof_endpoint.specs.Histories.{PairHistory, no_past, is_outcome_accepted, opens, reopened, calls_after}
use Rattle.ncp_proof_endpoint.specs.Sound.{SoundAt}
use Rattle.ncp_proof_machine.specs.Hosts.{past_of}
use Rattle.ncp_peer.specs.PeerState.{PeerState, new_state, control_link, is_answered}
use Rattle.ncp_peer.specs.Hearing.{control_size, is_wrong_link, state_hears, state_hears_all}
use Rattle.ncp_transcript.specs.Asked.{Asked, Asks, Asks_echo, Asks_reset, Asks_wake, asked_in}
use Rattle.ncp_transcript.specs.declared.note.HostNote.{HostNote}
use Rattle.ncp_proof_runs.specs.Acts.{Acted, acted, was_cleared, act_at, gone_down, acts_called, acts_asked, acts_heard, acts_heard_all, acts_of_fault, acts_of_control, acts_of_text, acts_of_message, acts_of_bits, acts_of_new, acts_of_output, acts_of_out, acts_of_freeing, acts_of_answer, acts_answered, acts_by, acts_from, acts_of}
use Rattle.ncp_proof_runs.specs.Peers.{note_for}
use Rattle.ncp_proof_runs.specs.Histories.{past_then, past_so_far}
use Rattle.ncp_proof_runs.proofs.HostRuns.{some_same}
use Rattle.ncp_transcript_two.specs.declared.side.Side.{Side}
use Rattle.ncp_transcript_two.specs.declared.note.Note.{Note}
use Rattle.ncp_transcript_two.specs.Between.{Hosts}
use Rattle.ncp_transcript_two.specs.Transcript.{IsTranscript}
use Rattle.ncp_transcript_two.specs.OfRules.{histories_of}
use Rattle.ncp_statement.specs.Statement.{UserEvent, Gave, TookBits, AllowedBits, CalledBack, OtherEvent, user_events}
use Rattle.ncp_proof_statement.specs.Since.{use_then, had_out, did_at, did_called, did_asked, did_by, did_run, uses_by, tallied}
use Rattle.ncp_proof_statement.proofs.Tallies
use Rattle.ncp_proof_statement.proofs.Tallies.{Ties, new-kept}
use Rattle.ncp_proof_statement.proofs.Sending.{refused-it}
use Rattle.ncp_proof_statement.proofs.Using.{strip, same-uses}
use Rattle.ncp_proof_statement.proofs.GoingOn.{agree, told-uses, Own}
use Rattle.ncp_proof_statement.proofs.Walking.{mine}
use Rattle.ncp_pipe.specs.Pipe.{Step}
use Rattle.ncp_proof_pipe.specs.Views.{sender_step, receiver_step, if_took}
use Rattle.ncp_proof_pipe.specs.Calls.{sender_steps, receiver_steps}
use Rattle.ncp_proof_pipe.specs.Noted.{sender_did, receiver_did, steps_by, sender_steps_noted, receiver_steps_noted}
use Rattle.ncp_proof_pipe.proofs.CallsKept.{sender-grows, receiver-grows}
use Rattle.ncp_proof_pipe.proofs.Accounted.{calls_of}

abbrev Calls : Type 0
Calls = List (EndpointEvent × Outcome)

abbrev is_user_call : EndpointEvent → Bool
is_user_call (EndpointEvent.Asks_to_send of_size with_room own full) = true
is_user_call (EndpointEvent.Asks_to_receive with_room on own full) = true
is_user_call (EndpointEvent.Closes full) = true
is_user_call (EndpointEvent.Gives text) = true
is_user_call (EndpointEvent.Takes bytes) = true
is_user_call (EndpointEvent.Allocates of_messages of_bits full) = true
is_user_call (EndpointEvent.Calls_back of_messages of_bits full) = true
is_user_call what = false

-- A side's steps, read off a history (steps) and off the notes (did).

module _
    (did : UserEvent → List Step)
    (steps : Calls → List Step)
    (step : EndpointEvent → Outcome → List Step)
    (Such : Pair → Type 0)
    (quiet : did OtherEvent ≡ [])
    (none : steps [] ≡ [])
    (grows : (what : EndpointEvent) (o : Outcome) (ls : Calls) → steps (calls_after what o ls) ≡ steps ls ++ step what o)
    (silent : (what : EndpointEvent) (o : Outcome) → is_user_call what ≡ false → step what o ≡ [])
    (agrees : (pair : Pair) (what : EndpointEvent) (o : Option Endpoint) → Such pair → step what (happens pair what o).outcome ≡ did (use_then what (happens pair what o).outcome)) where
  abbrev add : UserEvent → List Step → List Step
  add u x = x ++ did u

  abbrev Agrees : Pair → Option Endpoint → PairHistory → List Step → Type 0
  Agrees pair o past x = Such pair → steps past.calls ≡ x

  after : (what : EndpointEvent) (o : Outcome) (past : PairHistory) (b : Bool) → steps (calls_after what o (if b then reopened past else past).calls) ≡ steps past.calls ++ step what o
  after what o past true = grows what o past.calls
  after what o past false = grows what o past.calls

  moves : (pair : Pair) (what : EndpointEvent) (o : Option Endpoint) (past : PairHistory) (x : List Step) → suits pair what ≡ true → SoundAt pair o → Agrees pair o past x
      → Agrees pair (happens pair what o).after (past_then o what (happens pair what o) past) (add (use_then what (happens pair what o).outcome) x)
  moves pair what o past x fit sound k such =
      after what (happens pair what o).outcome past (opens o (happens pair what o).after)
      ∙ ap (λ (l : List Step). l ++ step what (happens pair what o).outcome) (k such)
      ∙ ap (λ (l : List Step). x ++ l) (agrees pair what o such)

  ties : Ties (List Step) add Agrees
  ties = record {
    quiet = λ x. ap (λ (l : List Step). x ++ l) quiet ∙ append-nil x;
    step = moves;
    ends = λ pair o past x k. k;
    goes = λ pair o past x h s k. k;
    frees = λ pair o past x h s k. k;
  }

  by-rules : (pair : Pair) (all : List HostNote) → Such pair → steps (past_so_far pair all).calls ≡ tallied add [] (did_run pair all new_state)
  by-rules pair all such = (Tallies.run-kept (List Step) add Agrees ties pair all new_state no_past [] (new-kept (List Step) add Agrees ties pair [] (λ s. none))).1 such

  as-list : (us : List UserEvent) (x : List Step) → tallied add x us ≡ x ++ steps_by did us
  as-list [] x = sym (append-nil x)
  as-list (u ∷ us) x = as-list us (x ++ did u) ∙ append_assoc x (did u) (steps_by did us)

  stripped : (us : List UserEvent) → steps_by did us ≡ steps_by did (strip us)
  stripped [] = refl
  stripped (UserEvent.Asked ∷ us) = ap (λ (l : List Step). did UserEvent.Asked ++ l) (stripped us)
  stripped (Gave text ∷ us) = ap (λ (l : List Step). did (Gave text) ++ l) (stripped us)
  stripped (TookBits text ∷ us) = ap (λ (l : List Step). did (TookBits text) ++ l) (stripped us)
  stripped (AllowedBits bits ∷ us) = ap (λ (l : List Step). did (AllowedBits bits) ++ l) (stripped us)
  stripped (CalledBack ∷ us) = ap (λ (l : List Step). did CalledBack ++ l) (stripped us)
  stripped (UserEvent.Closed ∷ us) = ap (λ (l : List Step). did UserEvent.Closed ++ l) (stripped us)
  stripped (OtherEvent ∷ us) = ap (λ (l : List Step). l ++ steps_by did us) quiet ∙ stripped us

  noted : (ns : List Note) (w : Hosts) (t : IsTranscript ns w) (side : Side) (pair : Pair) → Such pair → steps (past_of (mine side (histories_of ns w)) pair).calls ≡ steps_by did (user_events side pair ns)
  noted ns w t side pair such =
      ap (λ (x : PairHistory). steps x.calls) (agree ns w t side pair)
      ∙ by-rules pair (Own ns w t side) such
      ∙ as-list (did_run pair (Own ns w t side) new_state) []
      ∙ ap (steps_by did) (sym (told-uses ns w t side pair))
      ∙ stripped (uses_by pair (Own ns w t side))
      ∙ ap (steps_by did) (sym (same-uses pair side ns w t))
      ∙ sym (stripped (user_events side pair ns))

  -- What happened at the endpoint has the same calls.

  abbrev Steps : List Acted → List Step
  Steps acts = calls_of step acts

  steps-append : (some more : List Acted) → Steps (some ++ more) ≡ Steps some ++ Steps more
  steps-append [] more = refl
  steps-append (act ∷ some) more = ap (λ (l : List Step). step act.what act.outcome ++ l) (steps-append some more) ∙ sym (append_assoc (step act.what act.outcome) (Steps some) (Steps more))

  none-down : (q : Phase) → Steps (gone_down q) ≡ []
  none-down q = go (up q)
    where
      go : (b : Bool) → Steps (if b then [] else was_cleared ∷ []) ≡ []
      go true = refl
      go false = ap (λ (l : List Step). l ++ []) (silent EndpointEvent.Is_cleared Outcome.Accepted refl)

  -- with what may follow, which is no call
  then-down : (acts : List Acted) (q : Phase) (x : List Step) → Steps acts ≡ x → Steps (acts ++ gone_down q) ≡ x
  then-down acts q x e = steps-append acts (gone_down q) ∙ ap (λ (l : List Step). l ++ Steps (gone_down q)) e ∙ ap (λ (l : List Step). x ++ l) (none-down q) ∙ append-nil x

  -- what is no call
  no-call-at : (pair : Pair) (p : Option Pair) (w : Option EndpointEvent) (m : Ends) → ((what : EndpointEvent) → w ≡ Some what → is_user_call what ≡ false) → Steps (act_at pair p w m) ≡ []
  no-call-at pair (Some p) (Some what) m alien = go (same pair p)
    where
      go : (b : Bool) → Steps (if b then acted what (happens pair what (get m pair)) ∷ [] else []) ≡ []
      go true = ap (λ (l : List Step). l ++ []) (silent what (happens pair what (get m pair)).outcome (alien what refl))
      go false = refl
  no-call-at pair (Some p) None m alien = refl
  no-call-at pair None w m alien = refl

  one-no-call : (what now : EndpointEvent) → is_user_call what ≡ false → Some what ≡ Some now → is_user_call now ≡ false
  one-no-call what now n e = subst (λ (w : EndpointEvent). is_user_call w ≡ false) (some_same e) n

  comes-no-call : (c : Command) (m : Ends) (what : EndpointEvent) → comes c m ≡ Some what → is_user_call what ≡ false
  comes-no-call (Command.Rts receive send on) m what e = one-no-call _ what refl e
  comes-no-call (Command.Str send receive of_size) m what e = one-no-call _ what refl e
  comes-no-call (Command.Cls my your) m what e = one-no-call _ what refl e
  comes-no-call (Command.All on a b) m what e = one-no-call _ what refl e
  comes-no-call (Command.Gvb on a b) m what e = one-no-call _ what refl e
  comes-no-call (Command.Ret on a b) m what e = one-no-call _ what refl e
  comes-no-call (Command.Inr on) m what e = one-no-call _ what refl e
  comes-no-call (Command.Ins on) m what e = one-no-call _ what refl e
  comes-no-call c m what e = absurd (cc e)

  called-steps : (pair p : Pair) (call : PairCall) (s : PeerState) → Such pair → Steps (acts_called pair p call s) ≡ did (did_called pair p call s)
  called-steps pair p call s such = go (up s.peer.phase)
    where
      what : EndpointEvent
      what = called call (is_full s.peer.phase) s.peer.ends

      at : (b : Bool) → Steps (if b then acted what (happens pair what (get s.peer.ends pair)) ∷ [] else []) ≡ did (if b then use_then what (happens pair what (get s.peer.ends pair)).outcome else OtherEvent)
      at true = append-nil (step what (happens pair what (get s.peer.ends pair)).outcome) ∙ agrees pair what (get s.peer.ends pair) such
      at false = sym quiet

      go : (b : Bool) → Steps (if b then act_at pair (Some p) (Some what) s.peer.ends ++ gone_down (calls_up p call s.peer).phase else []) ≡ did (if b then did_at pair p what s.peer.ends else OtherEvent)
      go true = then-down (act_at pair (Some p) (Some what) s.peer.ends) (calls_up p call s.peer).phase (did (did_at pair p what s.peer.ends)) (at (same pair p))
      go false = sym quiet

  if-down : (b : Bool) (q : Phase) → Steps (if b then gone_down q else []) ≡ []
  if-down true q = none-down q
  if-down false q = refl

  asked-steps : (pair : Pair) (o : Option (ℕ × Asked)) (s : PeerState) → Such pair → Steps (acts_asked pair o s) ≡ did (did_asked pair o s)
  asked-steps pair (Some (peer, Asks p call)) s such = called-steps pair p call s such
  asked-steps pair (Some (peer, Asks_echo byte)) s such = if-down (up s.peer.phase) (echo_called byte s.peer).phase ∙ sym quiet
  asked-steps pair (Some (peer, Asks_reset)) s such = go (is_resetting s.peer.phase) ∙ sym quiet
    where
      go : (b : Bool) → Steps (if b then [] else was_cleared ∷ []) ≡ []
      go true = refl
      go false = ap (λ (l : List Step). l ++ []) (silent EndpointEvent.Is_cleared Outcome.Accepted refl)
  asked-steps pair (Some (peer, Asks_wake)) s such = sym quiet
  asked-steps pair None s such = sym quiet

  no-up : (b : Bool) (acts : List Acted) (q : Phase) → Steps acts ≡ [] → Steps (if b then acts ++ gone_down q else []) ≡ []
  no-up true acts q e = then-down acts q [] e
  no-up false acts q e = refl

  heard-steps : (still : Bool) (pair : Pair) (c : Command) (p : Peer) → Steps (acts_heard still pair c p) ≡ []
  heard-steps still pair Command.Rst p = ap (λ (l : List Step). l ++ []) (silent EndpointEvent.Is_cleared Outcome.Accepted refl)
  heard-steps still pair Command.Rrp p = refl
  heard-steps still pair c p = no-up (up p.phase) (act_at pair (demux_command c p.ends) (comes c p.ends) p.ends) (hears_other still c p).phase (no-call-at pair (demux_command c p.ends) (comes c p.ends) p.ends (comes-no-call c p.ends))

  heard-all-steps : (pair : Pair) (cs : List Command) (s : PeerState) → Steps (acts_heard_all pair cs s) ≡ []
  heard-all-steps pair [] s = refl
  heard-all-steps pair (c ∷ cs) s =
      steps-append (acts_heard (is_quiet s.slots) pair c s.peer) (acts_heard_all pair cs (state_hears c s))
      ∙ ap (λ (l : List Step). l ++ Steps (acts_heard_all pair cs (state_hears c s))) (heard-steps (is_quiet s.slots) pair c s.peer)
      ∙ heard-all-steps pair cs (state_hears c s)

  fault-steps : (fault : Option CommandFault) (p : Peer) → Steps (acts_of_fault fault p) ≡ []
  fault-steps None p = refl
  fault-steps (Some fault) p = if-down (up p.phase) (hears_fault fault p).phase

  message-steps : (pair : Pair) (on : ℕ) (bits : List Bool) (o : Result Message MessageFault) (s : PeerState) → Steps (acts_of_message pair on bits o s) ≡ []
  message-steps pair on bits (Err fault) s = refl
  message-steps pair on bits (Ok m) s = go (is_wrong_link on) (on == control_link) (m.size == control_size)
    where
      control : Steps (acts_of_control pair m s) ≡ []
      control =
          steps-append (acts_heard_all pair (commands_in (bytes_of m.text)) s) (acts_of_fault (fault_in (bytes_of m.text)) (state_hears_all (commands_in (bytes_of m.text)) s).peer)
          ∙ ap (λ (l : List Step). l ++ Steps (acts_of_fault (fault_in (bytes_of m.text)) (state_hears_all (commands_in (bytes_of m.text)) s).peer)) (heard-all-steps pair (commands_in (bytes_of m.text)) s)
          ∙ fault-steps (fault_in (bytes_of m.text)) (state_hears_all (commands_in (bytes_of m.text)) s).peer

      go : (a b c : Bool) → Steps (if a then [] else if b then (if c then acts_of_control pair m s else []) else acts_of_text pair on (take FRONT_BITS bits) m s.peer) ≡ []
      go true b c = refl
      go false true true = control
      go false true false = refl
      go false false c =
          no-up (up s.peer.phase) (act_at pair (pair_of (receiver_on on s.peer.ends)) (Some (EndpointEvent.Text_comes (take FRONT_BITS bits) m.size m.text)) s.peer.ends) (takes_text on (take FRONT_BITS bits) m.size m.text s.peer).phase
          (no-call-at pair (pair_of (receiver_on on s.peer.ends)) (Some (EndpointEvent.Text_comes (take FRONT_BITS bits) m.size m.text)) s.peer.ends (λ what e. one-no-call _ what refl e))

  bits-steps : (pair : Pair) (o : Result Leader Short) (bits : List Bool) (s : PeerState) → Steps (acts_of_bits pair o bits s) ≡ []
  bits-steps pair (Err short) bits s = refl
  bits-steps pair (Ok leader) bits s = message-steps pair leader.link bits (message_in bits) s

  new-steps : (pair : Pair) (on : ℕ) (p : Peer) → Steps (acts_of_new pair on p) ≡ []
  new-steps pair on p = go (on == control_link)
    where
      go : (b : Bool) → Steps (if b then [] else act_at pair (pair_of (sender_on on p.ends)) (Some EndpointEvent.Text_goes_out) p.ends) ≡ []
      go true = refl
      go false = no-call-at pair (pair_of (sender_on on p.ends)) (Some EndpointEvent.Text_goes_out) p.ends (λ what e. one-no-call _ what refl e)

  output-steps : (pair : Pair) (slot : LinkSlot) (on : ℕ) (p : Peer) → Steps (acts_of_output pair slot on p) ≡ []
  output-steps pair slots.Empty on p = new-steps pair on p
  output-steps pair (slots.Ready message) on p = refl
  output-steps pair (slots.Travelling message) on p = refl
  output-steps pair (slots.Held message) on p = refl

  out-steps : (pair : Pair) (o : Result Leader Short) (s : PeerState) → Steps (acts_of_out pair o s) ≡ []
  out-steps pair (Err short) s = refl
  out-steps pair (Ok leader) s = output-steps pair (slot_at s.slots leader.link) leader.link s.peer

  answer-steps : (pair : Pair) (on : ℕ) (how : Answer) (p : Peer) → Steps (acts_of_answer pair on how p) ≡ []
  answer-steps pair on Rfnm p = go (on == control_link)
    where
      go : (b : Bool) → Steps (if b then [] else acts_of_freeing pair on p) ≡ []
      go true = refl
      go false =
          no-up (up p.phase) (act_at pair (pair_of (sender_on on p.ends)) (Some (EndpointEvent.Is_answered Texts.Rfnm)) p.ends) (frees_up on p).phase
          (no-call-at pair (pair_of (sender_on on p.ends)) (Some (EndpointEvent.Is_answered Texts.Rfnm)) p.ends (λ what e. one-no-call _ what refl e))
  answer-steps pair on Incomplete p = refl
  answer-steps pair on Dead p = refl

  answered-steps : (pair : Pair) (on : ℕ) (how : Answer) (s : PeerState) → Steps (acts_answered pair on how s) ≡ []
  answered-steps pair on how s = go (is_answered on s)
    where
      go : (b : Bool) → Steps (if b then acts_of_answer pair on how s.peer else []) ≡ []
      go true = answer-steps pair on how s.peer
      go false = refl

  note-steps : (pair : Pair) (note : HostNote) (s : PeerState) → Such pair → Steps (acts_by pair note s) ≡ did (did_by pair note s)
  note-steps pair (HostNote.Done call) s such = asked-steps pair (asked_in call) s such
  note-steps pair (HostNote.Took peer p bytes text) s such = called-steps pair p (Take bytes) s such
  note-steps pair (HostNote.Out message) s such = out-steps pair (leader_in message) s ∙ sym quiet
  note-steps pair (HostNote.In message told) s such = bits-steps pair (leader_in message) message s ∙ sym quiet
  note-steps pair (HostNote.Answered peer link how told) s such = answered-steps pair link how s ∙ sym quiet
  note-steps pair note s such = sym quiet

  acts-steps : (pair : Pair) (all : List HostNote) (s : PeerState) → Such pair → Steps (acts_from pair all s) ≡ steps_by did (did_run pair all s)
  acts-steps pair [] s such = refl
  acts-steps pair (note ∷ all) s such =
      steps-append (acts_by pair note s) (acts_from pair all (note_for note s))
      ∙ ap (λ (l : List Step). l ++ Steps (acts_from pair all (note_for note s))) (note-steps pair note s such)
      ∙ ap (λ (l : List Step). did (did_by pair note s) ++ l) (acts-steps pair all (note_for note s) such)

  acts-noted : (ns : List Note) (w : Hosts) (t : IsTranscript ns w) (side : Side) (pair : Pair) → Such pair → Steps (acts_of pair (Own ns w t side)) ≡ steps_by did (user_events side pair ns)
  acts-noted ns w t side pair such =
      acts-steps pair (Own ns w t side) new_state such
      ∙ ap (steps_by did) (sym (told-uses ns w t side pair))
      ∙ stripped (uses_by pair (Own ns w t side))
      ∙ ap (steps_by did) (sym (same-uses pair side ns w t))
      ∙ sym (stripped (user_events side pair ns))

-- what was accepted or not is read alike

alike : (did : UserEvent → List Step) (u : UserEvent) (b : Bool) → did OtherEvent ≡ [] → (if b then did u else []) ≡ did (if b then u else OtherEvent)
alike did u true e = refl
alike did u false e = sym e

nothing : (did : UserEvent → List Step) (u : UserEvent) (b : Bool) → did OtherEvent ≡ [] → did u ≡ [] → [] ≡ did (if b then u else OtherEvent)
nothing did u true e k = sym k
nothing did u false e k = sym e

refused : (did : UserEvent → List Step) (u : UserEvent) (b : Bool) → did OtherEvent ≡ [] → b ≡ false → [] ≡ did (if b then u else OtherEvent)
refused did u true e k = absurd (cc k)
refused did u false e k = sym e

sender-had : (r : Result (List Bool × Option Command) CallFault) → [] ≡ sender_did (had_out (of_take r))
sender-had (Ok taken) = refl
sender-had (Err fault) = refl

receiver-had : (r : Result (List Bool × Option Command) CallFault) → if_took (of_take r) ≡ receiver_did (had_out (of_take r))
receiver-had (Ok taken) = refl
receiver-had (Err fault) = refl

refused-to-send : (pair : Pair) (of_size room own : ℕ) (full : Bool) (o : Option Endpoint) → receives pair ≡ true → is_outcome_accepted (happens pair (EndpointEvent.Asks_to_send of_size room own full) o).outcome ≡ false
refused-to-send pair of_size room own full None h = grind arith
refused-to-send pair of_size room own full (Some e) h = grind arith

sender-agrees : (pair : Pair) (what : EndpointEvent) (o : Option Endpoint) → sends pair ≡ true → sender_step what (happens pair what o).outcome ≡ sender_did (use_then what (happens pair what o).outcome)
sender-agrees pair (EndpointEvent.Asks_to_send a b n full) o s = alike sender_did UserEvent.Asked (is_outcome_accepted (happens pair (EndpointEvent.Asks_to_send a b n full) o).outcome) refl
sender-agrees pair (EndpointEvent.Asks_to_receive a b n full) o s =
    refused sender_did UserEvent.Asked (is_outcome_accepted (happens pair (EndpointEvent.Asks_to_receive a b n full) o).outcome) refl (refused-it pair a b n full o s)
sender-agrees pair (EndpointEvent.Gives text) o s = alike sender_did (Gave text) (is_outcome_accepted (happens pair (EndpointEvent.Gives text) o).outcome) refl
sender-agrees pair (EndpointEvent.Closes full) o s = alike sender_did UserEvent.Closed (is_outcome_accepted (happens pair (EndpointEvent.Closes full) o).outcome) refl
sender-agrees pair (EndpointEvent.Takes bytes) o s = sender-had _
sender-agrees pair (EndpointEvent.Allocates m b full) o s = nothing sender_did (AllowedBits b) (is_outcome_accepted (happens pair (EndpointEvent.Allocates m b full) o).outcome) refl refl
sender-agrees pair (EndpointEvent.Calls_back m b full) o s = nothing sender_did CalledBack (is_outcome_accepted (happens pair (EndpointEvent.Calls_back m b full) o).outcome) refl refl
sender-agrees pair what o s = refl

receiver-agrees : (pair : Pair) (what : EndpointEvent) (o : Option Endpoint) → receives pair ≡ true → receiver_step what (happens pair what o).outcome ≡ receiver_did (use_then what (happens pair what o).outcome)
receiver-agrees pair (EndpointEvent.Asks_to_send a b n full) o s =
    refused receiver_did UserEvent.Asked (is_outcome_accepted (happens pair (EndpointEvent.Asks_to_send a b n full) o).outcome) refl (refused-to-send pair a b n full o s)
receiver-agrees pair (EndpointEvent.Asks_to_receive a b n full) o s = alike receiver_did UserEvent.Asked (is_outcome_accepted (happens pair (EndpointEvent.Asks_to_receive a b n full) o).outcome) refl
receiver-agrees pair (EndpointEvent.Gives text) o s = nothing receiver_did (Gave text) (is_outcome_accepted (happens pair (EndpointEvent.Gives text) o).outcome) refl refl
receiver-agrees pair (EndpointEvent.Closes full) o s = alike receiver_did UserEvent.Closed (is_outcome_accepted (happens pair (EndpointEvent.Closes full) o).outcome) refl
receiver-agrees pair (EndpointEvent.Takes bytes) o s = receiver-had _
receiver-agrees pair (EndpointEvent.Allocates m b full) o s = alike receiver_did (AllowedBits b) (is_outcome_accepted (happens pair (EndpointEvent.Allocates m b full) o).outcome) refl
receiver-agrees pair (EndpointEvent.Calls_back m b full) o s = alike receiver_did CalledBack (is_outcome_accepted (happens pair (EndpointEvent.Calls_back m b full) o).outcome) refl
receiver-agrees pair what o s = refl

sender-silent : (what : EndpointEvent) (o : Outcome) → is_user_call what ≡ false → sender_step what o ≡ []
sender-silent (EndpointEvent.Asks_to_send a b n full) o e = absurd (cc e)
sender-silent (EndpointEvent.Gives text) o e = absurd (cc e)
sender-silent (EndpointEvent.Closes full) o e = absurd (cc e)
sender-silent what o e = refl

receiver-silent : (what : EndpointEvent) (o : Outcome) → is_user_call what ≡ false → receiver_step what o ≡ []
receiver-silent (EndpointEvent.Asks_to_receive a b n full) o e = absurd (cc e)
receiver-silent (EndpointEvent.Takes bytes) o e = absurd (cc e)
receiver-silent (EndpointEvent.Allocates m b full) o e = absurd (cc e)
receiver-silent (EndpointEvent.Calls_back m b full) o e = absurd (cc e)
receiver-silent (EndpointEvent.Closes full) o e = absurd (cc e)
receiver-silent what o e = refl

module _ (ns : List Note) (w : Hosts) (t : IsTranscript ns w) (side : Side) (pair : Pair) where
  pub sender-noted : sends pair ≡ true → sender_steps (past_of (mine side (histories_of ns w)) pair).calls ≡ sender_steps_noted side pair ns
  sender-noted s = noted sender_did sender_steps sender_step (λ p. sends p ≡ true) refl refl sender-grows sender-silent sender-agrees ns w t side pair s

  pub receiver-noted : receives pair ≡ true → receiver_steps (past_of (mine side (histories_of ns w)) pair).calls ≡ receiver_steps_noted side pair ns
  receiver-noted r = noted receiver_did receiver_steps receiver_step (λ p. receives p ≡ true) refl refl receiver-grows receiver-silent receiver-agrees ns w t side pair r

  -- the same by what happened at the endpoint

  pub sender-acts-noted : sends pair ≡ true → calls_of sender_step (acts_of pair (Own ns w t side)) ≡ sender_steps_noted side pair ns
  sender-acts-noted s = acts-noted sender_did sender_steps sender_step (λ p. sends p ≡ true) refl refl sender-grows sender-silent sender-agrees ns w t side pair s

  pub receiver-acts-noted : receives pair ≡ true → calls_of receiver_step (acts_of pair (Own ns w t side)) ≡ receiver_steps_noted side pair ns
  receiver-acts-noted r = acts-noted receiver_did receiver_steps receiver_step (λ p. receives p ≡ true) refl refl receiver-grows receiver-silent receiver-agrees ns w t side pair r
