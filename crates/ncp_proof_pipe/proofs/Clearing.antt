-- A host is cleared by an accepted reset, by an RST that it reads, or by going down.
use Rattle.std.proofs.Common.{◌≡◌, ◌≤◌, ℕ, ◌+◌, ◌==◌, Bool, true, false, not, ◌&&◌, ◌||◌, if◌then◌else◌, List, [], ◌∷◌, ◌++◌, take, Option, None, Some, Result, Ok, Err, refl, sym, ap, ◌∙◌, subst, arith}
use Rattle.std.specs.List.{list_any}
use Rattle.std.specs.FinMap.{get}
use Rattle.ncp_numbers.specs.Bytes.{bytes_of}
use Rattle.ncp_leader.specs.declared.leader.Leader.{Leader}
use Rattle.ncp_leader.specs.declared.leader.Short.{Short}
use Rattle.ncp_leader.specs.declared.fault.MessageFault.{MessageFault}
use Rattle.ncp_leader.specs.declared.regular.TheConstants.{FRONT_BITS}
use Rattle.ncp_leader.specs.Leader.{leader_in}
use Rattle.ncp_leader.specs.Message.{Message, message_in}
use Rattle.ncp_wire.specs.declared.command.Command.{Command}
use Rattle.ncp_wire.specs.declared.command.Command.TheVariants.{Rst, Rrp}
use Rattle.ncp_wire.specs.declared.fault.CommandFault.{CommandFault}
use Rattle.ncp_control.specs.Reading.{commands_in, fault_in}
use Rattle.ncp_slot.specs.declared.slot.Slot.TheVariants as slots
use Rattle.ncp_slot.specs.Slots.{LinkSlot, slot_at, with_slot, is_quiet}
use Rattle.ncp_slot.specs.Slot.{answered}
use Rattle.ncp_wire.specs.declared.answer.Answer.{Answer}
use Rattle.ncp_wire.specs.declared.answer.Answer.TheVariants.{Rfnm, Incomplete, Dead}
use Rattle.ncp_model.specs.declared.pair.Pair.{Pair}
use Rattle.ncp_model.specs.Pairs.{same}
use Rattle.ncp_model.specs.Effect.{answer, made_by_call, made_if_any}
use Rattle.ncp_model.specs.Echo.{echo_answer}
use Rattle.ncp_model.specs.Texts
use Rattle.ncp_model.specs.Texts.{made_by_text}
use Rattle.ncp_model.specs.Ends.{Ends, pair_of, receiver_on, sender_on, demux_command, text_in, answered_in}
use Rattle.ncp_model.specs.EndpointEvents.{EndpointEvent, happens}
use Rattle.ncp_model.specs.Demux.{comes}
use Rattle.ncp_model.specs.Phase.{Phase, up, is_resetting, is_rst, is_rrp, is_other, has_room_for_one, makes_all, phase_settles, phase_asks, goes_down, resets}
use Rattle.ncp_model.specs.Sending.{is_full}
use Rattle.ncp_model.specs.Peers
use Rattle.ncp_model.specs.Peers.{Peer, Take, makes, PairCall, called, happened_at, calls_up, echo_called, frees_up, hears_fault, hears_other, takes_text, reaction, cleared}
use Rattle.ncp_peer.specs.Counting.{one_more}
use Rattle.ncp_peer.specs.PeerState.{PeerState, control_link, is_answered, answer_comes, answer_taken}
use Rattle.ncp_peer.specs.Hearing.{control_size, is_wrong_link, state_hears, state_hears_all, hears_last, state_after_text, message_after}
use Rattle.ncp_transcript.specs.Asked.{Asked, Asks, Asks_echo, Asks_reset, Asks_wake, asked_in}
use Rattle.ncp_transcript.specs.declared.call.Call.{Call}
use Rattle.ncp_transcript.specs.declared.call.Call.TheVariants as calls
use Rattle.ncp_transcript.specs.declared.note.HostNote.{HostNote}
use Rattle.ncp_proof_runs.specs.Acts.{Acted, acted, was_cleared, act_at, gone_down, acts_called, acts_asked, acts_heard, acts_heard_all, acts_of_fault, acts_of_control, acts_of_text, acts_of_message, acts_of_bits, acts_of_output, acts_of_out, acts_of_freeing, acts_of_answer, acts_answered, acts_by, acts_from}
use Rattle.ncp_proof_runs.specs.Peers.{state_asked, bits_for, note_for, out_for}
use Rattle.ncp_proof_runs.proofs.HostRuns.{some_same}
use Rattle.ncp_proof_pipe.specs.Clearings.{read_by, if_up, went_down, cleared_by_command, cleared_reading, cleared_by, clearings_from}
use Rattle.ncp_proof_pipe.specs.Stops.{is_clearing, may_make, cuts_in}
use Rattle.ncp_peer.specs.Output.{after_by}

abbrev one_if : Bool → ℕ
one_if b = if b then 1 else 0

zero-le : (n : ℕ) → 0 ≤ n
zero-le n = omega arith

-- whether something may have made the endpoint since it was last cleared
abbrev there_after : Bool → List Acted → Bool
there_after there [] = there
there_after there (act ∷ acts) = if is_clearing act.what then there_after false acts else there_after (there || may_make act.what) acts

cuts-append : (some more : List Acted) (there : Bool) → cuts_in there (some ++ more) ≡ cuts_in there some + cuts_in (there_after there some) more
cuts-append [] more there = omega arith
cuts-append (act ∷ some) more there = go (is_clearing act.what) (cuts-append some more false) (cuts-append some more (there || may_make act.what))
  where
    go : (b : Bool) → cuts_in false (some ++ more) ≡ cuts_in false some + cuts_in (there_after false some) more
        → cuts_in (there || may_make act.what) (some ++ more) ≡ cuts_in (there || may_make act.what) some + cuts_in (there_after (there || may_make act.what) some) more
        → (if b then one_if there + cuts_in false (some ++ more) else cuts_in (there || may_make act.what) (some ++ more))
        ≡ (if b then one_if there + cuts_in false some else cuts_in (there || may_make act.what) some) + cuts_in (if b then there_after false some else there_after (there || may_make act.what) some) more
    go true e f = omega (arith, e)
    go false e f = f

after-append : (some more : List Acted) (there : Bool) → there_after there (some ++ more) ≡ there_after (there_after there some) more
after-append [] more there = refl
after-append (act ∷ some) more there = go (is_clearing act.what) (after-append some more false) (after-append some more (there || may_make act.what))
  where
    go : (b : Bool) → there_after false (some ++ more) ≡ there_after (there_after false some) more → there_after (there || may_make act.what) (some ++ more) ≡ there_after (there_after (there || may_make act.what) some) more
        → (if b then there_after false (some ++ more) else there_after (there || may_make act.what) (some ++ more)) ≡ there_after (if b then there_after false some else there_after (there || may_make act.what) some) more
    go true e f = e
    go false e f = f

-- what is no clearing

abbrev NoCuts : List Acted → Type 0
NoCuts acts = (there : Bool) → cuts_in there acts ≡ 0

none-at : (pair : Pair) (p : Option Pair) (w : Option EndpointEvent) (m : Ends) → ((what : EndpointEvent) → w ≡ Some what → is_clearing what ≡ false) → NoCuts (act_at pair p w m)
none-at pair (Some p) (Some what) m alien there = go (same pair p)
  where
    go : (b : Bool) → cuts_in there (if b then acted what (happens pair what (get m pair)) ∷ [] else []) ≡ 0
    go true = ap (λ (c : Bool). if c then one_if there + 0 else 0) (alien what refl)
    go false = refl
none-at pair (Some p) None m alien there = refl
none-at pair None w m alien there = refl

none-of : (what now : EndpointEvent) → is_clearing what ≡ false → Some what ≡ Some now → is_clearing now ≡ false
none-of what now n e = subst (λ (w : EndpointEvent). is_clearing w ≡ false) (some_same e) n

none-comes : (c : Command) (m : Ends) (what : EndpointEvent) → comes c m ≡ Some what → is_clearing what ≡ false
none-comes (Command.Rts receive send on) m what e = none-of _ what refl e
none-comes (Command.Str send receive of_size) m what e = none-of _ what refl e
none-comes (Command.Cls my your) m what e = none-of _ what refl e
none-comes (Command.All on a b) m what e = none-of _ what refl e
none-comes (Command.Gvb on a b) m what e = none-of _ what refl e
none-comes (Command.Ret on a b) m what e = none-of _ what refl e
none-comes (Command.Inr on) m what e = none-of _ what refl e
none-comes (Command.Ins on) m what e = none-of _ what refl e
none-comes c m what e = absurd (cc e)

none-called : (call : PairCall) (full : Bool) (m : Ends) → is_clearing (called call full m) ≡ false
none-called (Peers.Ask_to_send a b) full m = refl
none-called (Peers.Ask_to_receive a) full m = refl
none-called Peers.Close full m = refl
none-called (Peers.Give text) full m = refl
none-called (Peers.Take bytes) full m = refl
none-called (Peers.Allocate a b) full m = refl
none-called (Peers.Call_back a b) full m = refl
none-called Peers.Interrupt full m = refl

-- A host that was up and made commands: it is up still, or it went down.

data Made (q : Phase) : Type 0 where
  Still_up : up q ≡ true → Made q
  Fell : q.down ≡ true → q.want ≡ false → q.owe ≡ false → Made q

flags : (a b c d : Bool) → not (a || b || c || d) ≡ true → (a ≡ false) × (b ≡ false) × (c ≡ false)
flags false false false d e = (refl, refl, refl)
flags true b c d e = absurd (cc e)
flags false true c d e = absurd (cc e)
flags false false true d e = absurd (cc e)

down-up : (q : Phase) → q.down ≡ true → up q ≡ false
down-up q e = ap (λ (b : Bool). not (b || q.want || q.owe || q.wait)) e

stays-down : (cs : List Command) (q : Phase) → q.down ≡ true → makes_all cs q ≡ q
stays-down [] q e = refl
stays-down (c ∷ cs) q e =
    ap (λ (b : Bool). makes_all cs (if b && is_other c then (if has_room_for_one q then record q { waiting = q.waiting ++ c ∷ [] } else goes_down q) else q)) (down-up q e)
    ∙ stays-down cs q e

made : (cs : List Command) (p : Phase) → up p ≡ true → Made (makes_all cs p)
made [] p u = Still_up u
made (c ∷ cs) p u = go (up p) u (is_other c) (has_room_for_one p) (made cs (record p { waiting = p.waiting ++ c ∷ [] }) u) (made cs p u)
  where
    fell : Made (makes_all cs (goes_down p))
    fell = let f = flags p.down p.want p.owe p.wait u in subst Made (sym (stays-down cs (goes_down p) refl)) (Fell refl f.1 f.2)

    go : (a : Bool) → a ≡ true → (b r : Bool) → Made (makes_all cs (record p { waiting = p.waiting ++ c ∷ [] })) → Made (makes_all cs p)
        → Made (makes_all cs (if a && b then (if r then record p { waiting = p.waiting ++ c ∷ [] } else goes_down p) else p))
    go true e true true more same = more
    go true e true false more same = fell
    go true e false r more same = same
    go false e b r more same = absurd (cc e)

settled : (still : Bool) (q : Phase) → q.want ≡ false → q.owe ≡ false → phase_settles still q ≡ q
settled true q w o = ap (λ (b : Bool). phase_asks (if b then record q { down = false; owe = false; waiting = if list_any is_rrp q.waiting then q.waiting else q.waiting ++ Rrp ∷ [] } else q)) o ∙ ap (λ (b : Bool). if b then record q { down = false; want = false; wait = true; waiting = if list_any is_rst q.waiting then q.waiting else q.waiting ++ Rst ∷ [] } else q) w
settled false q w o = refl

is-down : (s now : PeerState) → up s.peer.phase ≡ true → now.peer.phase.down ≡ true → went_down s now ≡ 1
is-down s now u d =
    let f = flags s.peer.phase.down s.peer.phase.want s.peer.phase.owe s.peer.phase.wait u in
    ap (λ (b : Bool). one_if (not b && now.peer.phase.down)) f.0 ∙ ap (λ (b : Bool). one_if b) d

or-true : (b : Bool) → (b || false) ≡ true → b ≡ true
or-true true e = refl
or-true false e = e

-- Its cuts are bounded, and the endpoint is there only while the host is up.

abbrev OnlyUp : Bool → PeerState → Type 0
OnlyUp there s = there ≡ true → up s.peer.phase ≡ true

record Bounded (there : Bool) (acts : List Acted) (now : PeerState) (n : ℕ) : Type 0 where
  bound : cuts_in there acts ≤ n
  only : OnlyUp (there_after there acts) now

-- nothing happened at the endpoint
nothing : (there : Bool) (s now : PeerState) (n : ℕ) → OnlyUp there s → (up s.peer.phase ≡ true → up now.peer.phase ≡ true) → Bounded there [] now n
nothing there s now n o k = record { bound = zero-le n; only = λ h. k (o h) }

one-cleared : (there : Bool) (s now : PeerState) → OnlyUp there s → Bounded there (was_cleared ∷ []) now (if_up s)
one-cleared true s now o = record { bound = subst (λ (b : Bool). 1 + 0 ≤ one_if b) (sym (o refl)) (omega arith); only = λ h. absurd (cc h) }
one-cleared false s now o = record { bound = zero-le (if_up s); only = λ h. absurd (cc h) }

both : (there : Bool) (some more : List Acted) (mid now : PeerState) (n m : ℕ) → Bounded there some mid n → ((b : Bool) → OnlyUp b mid → Bounded b more now m) → Bounded there (some ++ more) now (n + m)
both there some more mid now n m x f =
    let y = f (there_after there some) x.only in
    record { bound = omega (arith, cuts-append some more there, x.bound, y.bound); only = λ h. y.only (sym (after-append some more there) ∙ h) }

looser : (there : Bool) (acts : List Acted) (now : PeerState) (n m : ℕ) → n ≤ m → Bounded there acts now n → Bounded there acts now m
looser there acts now n m l x = record { bound = omega (arith, x.bound, l); only = x.only }

abbrev WentDown : PeerState → Phase → Type 0
WentDown now q = q.down ≡ true → q.want ≡ false → q.owe ≡ false → now.peer.phase.down ≡ true

-- while the host is up, something happens and commands are made
module _ (there : Bool) (s now : PeerState) (acts : List Acted) (q : Phase) (none : NoCuts acts) where
  down-once : up s.peer.phase ≡ true → Made q → WentDown now q → (up q ≡ true → up now.peer.phase ≡ true) → Bounded there (acts ++ gone_down q) now (went_down s now)
  down-once u (Still_up v) d k =
      let e : gone_down q ≡ [] = ap (λ (b : Bool). if b then [] else was_cleared ∷ []) v in
      subst (λ (l : List Acted). Bounded there (acts ++ l) now (went_down s now)) (sym e) (record { bound = omega (arith, cuts-append acts [] there, none there); only = λ h. k v })
  down-once u (Fell a b c) d k =
      let e : gone_down q ≡ was_cleared ∷ [] = ap (λ (x : Bool). if x then [] else was_cleared ∷ []) (down-up q a) in
      subst (λ (l : List Acted). Bounded there (acts ++ l) now (went_down s now)) (sym e) (record {
        bound = omega (arith, cuts-append acts (was_cleared ∷ []) there, none there, at-most (there_after there acts), is-down s now u (d a b c));
        only = λ h. absurd (cc (sym (after-append acts (was_cleared ∷ []) there) ∙ h));
      })
    where
      at-most : (b : Bool) → cuts_in b (was_cleared ∷ []) ≤ 1
      at-most true = omega arith
      at-most false = omega arith

  in-up : OnlyUp there s → (up s.peer.phase ≡ true → Made q) → (up s.peer.phase ≡ true → WentDown now q) → (up s.peer.phase ≡ true → up q ≡ true → up now.peer.phase ≡ true) → Bounded there (if up s.peer.phase then acts ++ gone_down q else []) now (went_down s now)
  in-up o m d k = go (up s.peer.phase) refl
    where
      go : (b : Bool) → up s.peer.phase ≡ b → Bounded there (if b then acts ++ gone_down q else []) now (went_down s now)
      go true u = down-once u (m u) (d u) (k u)
      go false u = record { bound = zero-le (went_down s now); only = λ h. absurd (cc (sym (o h) ∙ u)) }

  -- and nothing else is done with its flags
  in-up-so : OnlyUp there s → (up s.peer.phase ≡ true → Made q) → (up s.peer.phase ≡ true → now.peer.phase ≡ q) → Bounded there (if up s.peer.phase then acts ++ gone_down q else []) now (went_down s now)
  in-up-so o m is = in-up o m (λ u a b c. ap (λ (x : Phase). x.down) (is u) ∙ a) (λ u v. ap up (is u) ∙ v)

abbrev is_reset_asked : Option (ℕ × Asked) → Bool
is_reset_asked (Some (peer, Asks_reset)) = true
is_reset_asked o = false

-- the ERR of a fault is made
abbrev faulty : CommandFault → Peer → Peer
faulty fault p = makes (Command.Err fault.code fault.bytes ∷ []) p

up-after : {A : Type 0} → (p : Phase) (a b : A) → up p ≡ true → (if up p then a else b) ≡ a
up-after {A} p a b u = ap (λ (x : Bool). if x then a else b) u

phase-after : (s : PeerState) (a : Peer) → up s.peer.phase ≡ true → (if up s.peer.phase then a else s.peer).phase ≡ a.phase
phase-after s a u = ap (λ (x : Peer). x.phase) (up-after s.peer.phase a s.peer u)

still-up : (a b c d : Bool) → not (a || b || c || d) ≡ true → not (a || b || c || false) ≡ true
still-up false false false d e = refl
still-up true b c d e = absurd (cc e)
still-up false true c d e = absurd (cc e)
still-up false false true d e = absurd (cc e)

settled-up : (still : Bool) (q : Phase) → up q ≡ true → up (phase_settles still q) ≡ true
settled-up still q u = let f = flags q.down q.want q.owe q.wait u in ap up (settled still q f.1 f.2) ∙ u

module _ (pair : Pair) where
  called-cleared : (p : Pair) (call : PairCall) (s now : PeerState) (there : Bool) → OnlyUp there s → (up s.peer.phase ≡ true → now.peer.phase ≡ (calls_up p call s.peer).phase) → Bounded there (acts_called pair p call s) now (went_down s now)
  called-cleared p call s now there o is =
      in-up-so there s now (act_at pair (Some p) (Some (called call (is_full s.peer.phase) s.peer.ends)) s.peer.ends) (calls_up p call s.peer).phase
      (none-at pair (Some p) (Some (called call (is_full s.peer.phase) s.peer.ends)) s.peer.ends (λ what e. none-of _ what (none-called call (is_full s.peer.phase) s.peer.ends) e))
      o (λ u. made (happened_at p call s.peer).made s.peer.phase u) is

  asked-cleared : (o : Option (ℕ × Asked)) (s : PeerState) (there : Bool) → OnlyUp there s → Bounded there (acts_asked pair o s) (state_asked o s) (if is_reset_asked o then if_up s else went_down s (state_asked o s))
  asked-cleared (Some (peer, Asks p call)) s there o = called-cleared p call s (state_asked (Some (peer, Asks p call)) s) there o (phase-after s (calls_up p call s.peer))
  asked-cleared (Some (peer, Asks_echo byte)) s there o =
      in-up-so there s (state_asked (Some (peer, Asks_echo byte)) s) [] (echo_called byte s.peer).phase (λ b. refl) o (λ u. made (made_by_call (echo_answer byte (is_full s.peer.phase) s.peer.echoes)) s.peer.phase u) (phase-after s (echo_called byte s.peer))
  asked-cleared (Some (peer, Asks_reset)) s there o = go (is_resetting s.peer.phase)
    where
      go : (b : Bool) → Bounded there (if b then [] else was_cleared ∷ []) (record s { peer = if b then s.peer else cleared (resets (is_quiet s.slots) s.peer.phase) s.peer }) (if_up s)
      go true = nothing there s s (if_up s) o (λ u. u)
      go false = one-cleared there s _ o
  asked-cleared (Some (peer, Asks_wake)) s there o = nothing there s (state_asked (Some (peer, Asks_wake)) s) _ o (λ u. u)
  asked-cleared None s there o = nothing there s s _ o (λ u. u)

  -- a command that is read

  heard-made : (still : Bool) (c : Command) (p : Peer) → up p.phase ≡ true → is_other c ≡ true → Made (hears_other still c p).phase
  heard-made still Command.Rst p u n = absurd (cc n)
  heard-made still Command.Rrp p u n = absurd (cc n)
  heard-made still c p u n = go (up p.phase) u (reaction still c p).full
    where
      go : (a : Bool) → a ≡ true → (f : Bool) → Made (if a then (if f then goes_down p.phase else makes_all (reaction still c p).replies p.phase) else p.phase)
      go true e true = let f = flags p.phase.down p.phase.want p.phase.owe p.phase.wait u in Fell refl f.1 f.2
      go true e false = made (reaction still c p).replies p.phase u
      go false e f = absurd (cc e)

  heard-cleared : (c : Command) (s : PeerState) (there : Bool) → OnlyUp there s → Bounded there (acts_heard (is_quiet s.slots) pair c s.peer) (state_hears c s) (cleared_by_command c s)
  heard-cleared Command.Rst s there o = one-cleared there s (state_hears Rst s) o
  heard-cleared Command.Rrp s there o = nothing there s (state_hears Rrp s) _ o (λ u. still-up s.peer.phase.down s.peer.phase.want s.peer.phase.owe s.peer.phase.wait u)
  heard-cleared c s there o =
      in-up-so there s (state_hears c s) (act_at pair (demux_command c s.peer.ends) (comes c s.peer.ends) s.peer.ends) (hears_other (is_quiet s.slots) c s.peer).phase
      (none-at pair (demux_command c s.peer.ends) (comes c s.peer.ends) s.peer.ends (none-comes c s.peer.ends))
      o (λ u. heard-made (is_quiet s.slots) c s.peer u refl) (phase-after s (hears_other (is_quiet s.slots) c s.peer))

  all-cleared : (cs : List Command) (s : PeerState) (there : Bool) → OnlyUp there s → Bounded there (acts_heard_all pair cs s) (state_hears_all cs s) (cleared_reading cs s)
  all-cleared [] s there o = nothing there s s 0 o (λ u. u)
  all-cleared (c ∷ cs) s there o =
      both there (acts_heard (is_quiet s.slots) pair c s.peer) (acts_heard_all pair cs (state_hears c s)) (state_hears c s) (state_hears_all cs (state_hears c s)) (cleared_by_command c s) (cleared_reading cs (state_hears c s))
      (heard-cleared c s there o) (λ b m. all-cleared cs (state_hears c s) b m)

  fault-cleared : (fault : Option CommandFault) (s : PeerState) (there : Bool) → OnlyUp there s → Bounded there (acts_of_fault fault s.peer) (hears_last fault s) (went_down s (hears_last fault s))
  fault-cleared None s there o = nothing there s s _ o (λ u. u)
  fault-cleared (Some fault) s there o =
      in-up-so there s (hears_last (Some fault) s) [] (hears_fault fault s.peer).phase (λ b. refl) o
      (λ u. subst (λ (x : Peer). Made x.phase) (sym (up-after s.peer.phase (faulty fault s.peer) s.peer u)) (made (Command.Err fault.code fault.bytes ∷ []) s.peer.phase u)) (λ u. refl)

  -- a message that is received
  message-cleared : (on : ℕ) (bits : List Bool) (m : Message) (s : PeerState) (there : Bool) → OnlyUp there s
      → let cs = if on == control_link && m.size == control_size then commands_in (bytes_of m.text) else [] in
      Bounded there (acts_of_message pair on bits (Ok m) s) (message_after on bits (Ok m) s) (cleared_reading cs s + went_down (state_hears_all cs s) (message_after on bits (Ok m) s))
  message-cleared on bits m s there o = go (is_wrong_link on) (on == control_link) (m.size == control_size)
    where
      all : List Command
      all = commands_in (bytes_of m.text)

      late : PeerState
      late = state_hears_all all s

      last : PeerState
      last = hears_last (fault_in (bytes_of m.text)) late

      control : Bounded there (acts_of_control pair m s) last (cleared_reading all s + went_down late last)
      control = both there (acts_heard_all pair all s) (acts_of_fault (fault_in (bytes_of m.text)) late.peer) late last (cleared_reading all s) (went_down late last) (all-cleared all s there o) (λ b k. fault-cleared (fault_in (bytes_of m.text)) late b k)

      data_text : Bounded there (acts_of_text pair on (take FRONT_BITS bits) m s.peer) (state_after_text on (take FRONT_BITS bits) m s) (went_down s (state_after_text on (take FRONT_BITS bits) m s))
      data_text =
          in-up-so there s (state_after_text on (take FRONT_BITS bits) m s) (act_at pair (pair_of (receiver_on on s.peer.ends)) (Some (EndpointEvent.Text_comes (take FRONT_BITS bits) m.size m.text)) s.peer.ends) (takes_text on (take FRONT_BITS bits) m.size m.text s.peer).phase
          (none-at pair (pair_of (receiver_on on s.peer.ends)) (Some (EndpointEvent.Text_comes (take FRONT_BITS bits) m.size m.text)) s.peer.ends (λ what e. none-of _ what refl e))
          o (λ u. made (made_by_text (take FRONT_BITS bits) m.text (answer (text_in on m.size m.text s.peer.ends))) s.peer.phase u) (phase-after s (takes_text on (take FRONT_BITS bits) m.size m.text s.peer))

      counted : (n : PeerState) → n.peer.phase ≡ s.peer.phase → (k : ℕ) → Bounded there [] n k
      counted n e k = nothing there s n k o (λ u. ap up e ∙ u)

      go : (a b c : Bool) → Bounded there (if a then [] else if b then (if c then acts_of_control pair m s else []) else acts_of_text pair on (take FRONT_BITS bits) m s.peer)
          (if a then record s { counts = record s.counts { wrong_link = one_more s.counts.wrong_link } } else if b then (if c then last else record s { counts = record s.counts { wrong_size = one_more s.counts.wrong_size } }) else state_after_text on (take FRONT_BITS bits) m s)
          (cleared_reading (if b && c then all else []) s + went_down (state_hears_all (if b && c then all else []) s)
          (if a then record s { counts = record s.counts { wrong_link = one_more s.counts.wrong_link } } else if b then (if c then last else record s { counts = record s.counts { wrong_size = one_more s.counts.wrong_size } }) else state_after_text on (take FRONT_BITS bits) m s))
      go true b c = counted _ refl _
      go false true true = control
      go false true false = counted _ refl _
      go false false c = looser there _ _ _ _ (omega arith) data_text

  in-note : (l : Result Leader Short) (bits : List Bool) (r : Result Message MessageFault) (s : PeerState) (there : Bool) → OnlyUp there s → r ≡ message_in bits
      → Bounded there (acts_of_bits pair l bits s) (bits_for l bits s) (cleared_reading (read_by l (message_in bits)) s + went_down (state_hears_all (read_by l (message_in bits)) s) (bits_for l bits s))
  in-note (Err short) bits r s there o e = nothing there s s _ o (λ u. u)
  in-note (Ok leader) bits (Err fault) s there o e =
      subst (λ (x : Result Message MessageFault). Bounded there (acts_of_message pair leader.link bits x s) (message_after leader.link bits x s) (cleared_reading (read_by (Ok leader) x) s + went_down (state_hears_all (read_by (Ok leader) x) s) (message_after leader.link bits x s))) e
      (nothing there s _ _ o (λ u. u))
  in-note (Ok leader) bits (Ok m) s there o e =
      subst (λ (x : Result Message MessageFault). Bounded there (acts_of_message pair leader.link bits x s) (message_after leader.link bits x s) (cleared_reading (read_by (Ok leader) x) s + went_down (state_hears_all (read_by (Ok leader) x) s) (message_after leader.link bits x s))) e
      (message-cleared leader.link bits m s there o)

  -- an answer
  freeing-cleared : (on : ℕ) (still : Bool) (s now : PeerState) (there : Bool) → OnlyUp there s → now.peer.phase ≡ phase_settles still (if up s.peer.phase then frees_up on s.peer else s.peer).phase → Bounded there (acts_of_freeing pair on s.peer) now (went_down s now)
  freeing-cleared on still s now there o is =
      in-up there s now (act_at pair (pair_of (sender_on on s.peer.ends)) (Some (EndpointEvent.Is_answered Texts.Rfnm)) s.peer.ends) (frees_up on s.peer).phase
      (none-at pair (pair_of (sender_on on s.peer.ends)) (Some (EndpointEvent.Is_answered Texts.Rfnm)) s.peer.ends (λ what e. none-of _ what refl e))
      o (λ u. made (made_if_any (answer (answered_in on Texts.Rfnm s.peer.ends))) s.peer.phase u)
      (λ u a b c. ap (λ (q : Phase). q.down) (so u ∙ settled still (frees_up on s.peer).phase b c) ∙ a)
      (λ u v. ap up (so u) ∙ settled-up still (frees_up on s.peer).phase v)
    where
      so : up s.peer.phase ≡ true → now.peer.phase ≡ phase_settles still (frees_up on s.peer).phase
      so u = is ∙ ap (phase_settles still) (phase-after s (frees_up on s.peer) u)

  answer-cleared : (on : ℕ) (how : Answer) (s : PeerState) (there : Bool) → OnlyUp there s → Bounded there (acts_of_answer pair on how s.peer) (answer_taken on how s) (went_down s (answer_taken on how s))
  answer-cleared on Rfnm s there o = go (on == control_link) refl
    where
      still : Bool
      still = is_quiet (with_slot s.slots on (answered Rfnm (slot_at s.slots on)))

      go : (b : Bool) → (on == control_link) ≡ b → Bounded there (if b then [] else acts_of_freeing pair on s.peer) (answer_taken on Rfnm s) (went_down s (answer_taken on Rfnm s))
      go true e =
          nothing there s (answer_taken on Rfnm s) _ o
          (λ u. ap (λ (b : Bool). up (phase_settles still (if b then s.peer else (if up s.peer.phase then frees_up on s.peer else s.peer)).phase)) e ∙ settled-up still s.peer.phase u)
      go false e = freeing-cleared on still s (answer_taken on Rfnm s) there o (ap (λ (b : Bool). phase_settles still (if b then s.peer else (if up s.peer.phase then frees_up on s.peer else s.peer)).phase) e)
  answer-cleared on Incomplete s there o = nothing there s (answer_taken on Incomplete s) _ o (λ u. u)
  answer-cleared on Dead s there o = nothing there s (answer_taken on Dead s) _ o (λ u. u)

  answered-cleared : (on : ℕ) (how : Answer) (s : PeerState) (there : Bool) → OnlyUp there s → Bounded there (acts_answered pair on how s) (answer_comes on how s) (went_down s (answer_comes on how s))
  answered-cleared on how s there o = go (is_answered on s)
    where
      stray : PeerState
      stray = record s { counts = record s.counts { stray = one_more s.counts.stray } }

      go : (b : Bool) → Bounded there (if b then acts_of_answer pair on how s.peer else []) (if b then answer_taken on how s else stray) (went_down s (if b then answer_taken on how s else stray))
      go true = answer-cleared on how s there o
      go false = nothing there s stray _ o (λ u. u)

  -- a text that goes out makes nothing
  out-at : (p : Option Pair) (m : Ends) (there : Bool) → there_after there (act_at pair p (Some EndpointEvent.Text_goes_out) m) ≡ true → there ≡ true
  out-at None m there h = h
  out-at (Some p) m there h = go (same pair p) h
    where
      go : (b : Bool) → there_after there (if b then acted EndpointEvent.Text_goes_out (happens pair EndpointEvent.Text_goes_out (get m pair)) ∷ [] else []) ≡ true → there ≡ true
      go true h = or-true there h
      go false h = h

  out-cleared : (l : Result Leader Short) (message : List Bool) (s : PeerState) (there : Bool) (n : ℕ) → OnlyUp there s → Bounded there (acts_of_out pair l s) (out_for l message s) n
  out-cleared (Err short) message s there n o = nothing there s s n o (λ u. u)
  out-cleared (Ok leader) message s there n o = by (slot_at s.slots leader.link)
    where
      by : (slot : LinkSlot) → Bounded there (acts_of_output pair slot leader.link s.peer) (record s { slots = with_slot s.slots leader.link (slots.Travelling message); peer = after_by slot leader.link s.peer }) n
      by slots.Empty = go (leader.link == control_link)
        where
          go : (b : Bool) → Bounded there (if b then [] else act_at pair (pair_of (sender_on leader.link s.peer.ends)) (Some EndpointEvent.Text_goes_out) s.peer.ends)
              (record s { slots = with_slot s.slots leader.link (slots.Travelling message); peer = if b then Peers.peer_sends s.peer else Peers.cuts leader.link s.peer }) n
          go true = nothing there s _ n o (λ u. u)
          go false = record {
            bound = subst (λ (k : ℕ). k ≤ n) (sym (none-at pair (pair_of (sender_on leader.link s.peer.ends)) (Some EndpointEvent.Text_goes_out) s.peer.ends (λ what e. none-of _ what refl e) there)) (zero-le n);
            only = λ h. o (out-at (pair_of (sender_on leader.link s.peer.ends)) s.peer.ends there h);
          }
      by (slots.Ready m) = nothing there s _ n o (λ u. u)
      by (slots.Travelling m) = nothing there s _ n o (λ u. u)
      by (slots.Held m) = nothing there s _ n o (λ u. u)

  abbrev Explained : HostNote → PeerState → Bool → Type 0
  Explained note s there = OnlyUp there s → Bounded there (acts_by pair note s) (note_for note s) (cleared_by note s)

  done-cleared : (call : Call) (s : PeerState) (there : Bool) → Explained (HostNote.Done call) s there
  done-cleared (calls.Reset peer) s there o = asked-cleared (Some (peer, Asks_reset)) s there o
  done-cleared call s there o = looser there (acts_asked pair (asked_in call) s) (state_asked (asked_in call) s) _ _ (omega arith) (asked-cleared (asked_in call) s there o)

  note-cleared : (note : HostNote) (s : PeerState) (there : Bool) → Explained note s there
  note-cleared (HostNote.Done call) s there o = done-cleared call s there o
  note-cleared (HostNote.Took peer p bytes text) s there o =
      looser there (acts_called pair p (Take bytes) s) (note_for (HostNote.Took peer p bytes text) s) _ _ (omega arith) (called-cleared p (Take bytes) s (note_for (HostNote.Took peer p bytes text) s) there o (phase-after s (calls_up p (Take bytes) s.peer)))
  note-cleared (HostNote.Out message) s there o = out-cleared (leader_in message) message s there _ o
  note-cleared (HostNote.In message told) s there o = in-note (leader_in message) message (message_in message) s there o refl
  note-cleared (HostNote.Answered peer link how told) s there o = looser there (acts_answered pair link how s) (answer_comes link how s) _ _ (omega arith) (answered-cleared link how s there o)
  note-cleared note s there o = nothing there s s _ o (λ u. u)

  pub all-explained : (told : List HostNote) (s : PeerState) (there : Bool) → OnlyUp there s → cuts_in there (acts_from pair told s) ≤ clearings_from told s
  all-explained [] s there o = zero-le 0
  all-explained (note ∷ told) s there o =
      let x = note-cleared note s there o in
      omega (arith, cuts-append (acts_by pair note s) (acts_from pair told (note_for note s)) there, x.bound, all-explained told (note_for note s) (there_after there (acts_by pair note s)) x.only)
