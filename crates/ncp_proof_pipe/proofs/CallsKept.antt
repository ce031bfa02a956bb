-- The life of each pair is told by the calls of the events.
use Rattle.std.proofs.Common.{◌≡◌, ℕ, Bool, true, false, nat_lt, if◌then◌else◌, List, [], ◌∷◌, ◌++◌, refl, sym, ap, ◌∙◌, subst}
use Rattle.std.proofs.lemmas.Bool.{both_ways}
use Rattle.std.proofs.lemmas.List.{append-nil, append_assoc}
use Rattle.ncp_wire.specs.declared.command.Command.{Command}
use Rattle.ncp_wire.specs.declared.command.Command.TheVariants.{Rts, Str, Cls, All, Gvb, Ret, Inr, Ins}
use Rattle.ncp_model.specs.declared.pair.Pair.{Pair}
use Rattle.ncp_model.specs.declared.call_fault.CallFault.{CallFault}
use Rattle.ncp_model.specs.declared.limits.TheConstants.{MAX_BY_PEER}
use Rattle.ncp_model.specs.Pairs.{sends, counterpart, same}
use Rattle.ncp_model.specs.Texts.{Answer, Rfnm, Incomplete, Dead}
use Rattle.ncp_model.specs.EndpointEvents.{EndpointEvent, Outcome, happens}
use Rattle.ncp_proof_endpoint.specs.Histories.{reopened, calls_after, with_call, is_outcome_accepted, opens, EndpointWithHistory, watches}
use Rattle.ncp_proof_connection.specs.Connections.{Connection, Text, No_text, Away, Here, sender_does, receiver_does, is_call, command_comes, ConnectionEvent, Sender_calls, Receiver_calls, Comes_to_sender, Comes_to_receiver, Text_goes_out, Text_comes, Text_is_answered, sender_hears, receiver_hears, text_comes, text_is_answered, occurs}
use Rattle.ncp_proof_connection.specs.Clearings.{Hosted, Occurs, changes, is_at_sender, misses, text_dropped, text_over}
use Rattle.ncp_proof_connection.specs.Sharing.{Tagged, Shared, new_shared, connection_at, bringing, put_hosted, set_at_pair, Shared_event, On, Next_to_senders, Next_to_receivers, Other_to_senders, Other_to_receivers, Senders_are_cleared, Receivers_are_cleared, All_start_empty, next_to_senders, next_to_receivers, shared_occurs, shared_from, shared}
use Rattle.ncp_proof_connection.proofs.Projecting.{same_refl, same_true}
use Rattle.ncp_pipe.specs.Pipe.{Step}
use Rattle.ncp_pipe.specs.Pipe as pipes
use Rattle.ncp_proof_pipe.specs.Views.{sender_step, receiver_step, event_steps, shared_steps, user_steps_from}
use Rattle.ncp_pipe.specs.Sides.{is_sender_step, is_receiver_step}
use Rattle.ncp_proof_pipe.specs.Calls.{steps_of_sender, steps_of_receiver, sender_steps, receiver_steps, CallsGrow}

set-own : {A : Type 0} → (p : Pair) (x : A) (f : Pair → A) → set_at_pair p x f p ≡ x
set-own {A} p x f = ap (λ b. if b then x else f p) (same_refl p)

set-other : {A : Type 0} → (q p : Pair) (x : A) (f : Pair → A) → same q p ≡ false → set_at_pair q x f p ≡ f p
set-other {A} q p x f e = ap (λ b. if b then x else f p) e

sender-more : (ls : List (EndpointEvent × Outcome)) (what : EndpointEvent) (o : Outcome) → sender_steps (ls ++ (what, o) ∷ []) ≡ sender_steps ls ++ sender_step what o
sender-more [] what o = append-nil (sender_step what o)
sender-more (l ∷ ls) what o = ap (λ (x : List Step). sender_step l.0 l.1 ++ x) (sender-more ls what o) ∙ sym (append_assoc (sender_step l.0 l.1) (sender_steps ls) (sender_step what o))

receiver-more : (ls : List (EndpointEvent × Outcome)) (what : EndpointEvent) (o : Outcome) → receiver_steps (ls ++ (what, o) ∷ []) ≡ receiver_steps ls ++ receiver_step what o
receiver-more [] what o = append-nil (receiver_step what o)
receiver-more (l ∷ ls) what o = ap (λ (x : List Step). receiver_step l.0 l.1 ++ x) (receiver-more ls what o) ∙ sym (append_assoc (receiver_step l.0 l.1) (receiver_steps ls) (receiver_step what o))

sender-with-call : (ls : List (EndpointEvent × Outcome)) (what : EndpointEvent) (o : Outcome) → ((fault : CallFault) → sender_step what (Outcome.Refused fault) ≡ []) → sender_steps (with_call what o ls) ≡ sender_steps ls ++ sender_step what o
sender-with-call ls what (Outcome.Refused fault) none = sym (append-nil (sender_steps ls)) ∙ ap (λ (x : List Step). sender_steps ls ++ x) (sym (none fault))
sender-with-call ls what o none = sender-more ls what o

pub sender-grows : (what : EndpointEvent) (o : Outcome) (ls : List (EndpointEvent × Outcome)) → sender_steps (calls_after what o ls) ≡ sender_steps ls ++ sender_step what o
sender-grows (EndpointEvent.Asks_to_send a b n full) o ls = sender-with-call ls (EndpointEvent.Asks_to_send a b n full) o (λ fault. refl)
sender-grows (EndpointEvent.Asks_to_receive a b n full) o ls = sender-with-call ls (EndpointEvent.Asks_to_receive a b n full) o (λ fault. refl)
sender-grows (EndpointEvent.Closes full) o ls = sender-with-call ls (EndpointEvent.Closes full) o (λ fault. refl)
sender-grows (EndpointEvent.Gives text) o ls = sender-with-call ls (EndpointEvent.Gives text) o (λ fault. refl)
sender-grows (EndpointEvent.Takes bytes) o ls = sender-with-call ls (EndpointEvent.Takes bytes) o (λ fault. refl)
sender-grows (EndpointEvent.Allocates a b full) o ls = sender-with-call ls (EndpointEvent.Allocates a b full) o (λ fault. refl)
sender-grows (EndpointEvent.Calls_back a b full) o ls = sender-with-call ls (EndpointEvent.Calls_back a b full) o (λ fault. refl)
sender-grows what o ls = sym (append-nil (sender_steps ls))

receiver-with-call : (ls : List (EndpointEvent × Outcome)) (what : EndpointEvent) (o : Outcome) → ((fault : CallFault) → receiver_step what (Outcome.Refused fault) ≡ []) → receiver_steps (with_call what o ls) ≡ receiver_steps ls ++ receiver_step what o
receiver-with-call ls what (Outcome.Refused fault) none = sym (append-nil (receiver_steps ls)) ∙ ap (λ (x : List Step). receiver_steps ls ++ x) (sym (none fault))
receiver-with-call ls what o none = receiver-more ls what o

pub receiver-grows : (what : EndpointEvent) (o : Outcome) (ls : List (EndpointEvent × Outcome)) → receiver_steps (calls_after what o ls) ≡ receiver_steps ls ++ receiver_step what o
receiver-grows (EndpointEvent.Asks_to_send a b n full) o ls = receiver-with-call ls (EndpointEvent.Asks_to_send a b n full) o (λ fault. refl)
receiver-grows (EndpointEvent.Asks_to_receive a b n full) o ls = receiver-with-call ls (EndpointEvent.Asks_to_receive a b n full) o (λ fault. refl)
receiver-grows (EndpointEvent.Closes full) o ls = receiver-with-call ls (EndpointEvent.Closes full) o (λ fault. refl)
receiver-grows (EndpointEvent.Gives text) o ls = receiver-with-call ls (EndpointEvent.Gives text) o (λ fault. refl)
receiver-grows (EndpointEvent.Takes bytes) o ls = receiver-with-call ls (EndpointEvent.Takes bytes) o (λ fault. refl)
receiver-grows (EndpointEvent.Allocates a b full) o ls = receiver-with-call ls (EndpointEvent.Allocates a b full) o (λ fault. refl)
receiver-grows (EndpointEvent.Calls_back a b full) o ls = receiver-with-call ls (EndpointEvent.Calls_back a b full) o (λ fault. refl)
receiver-grows what o ls = sym (append-nil (receiver_steps ls))

-- whose steps they are

by-sender-all : (what : EndpointEvent) (o : Outcome) → (steps_of_sender (sender_step what o) ≡ sender_step what o) × (steps_of_receiver (sender_step what o) ≡ [])
by-sender-all (EndpointEvent.Asks_to_send a b n full) o = go (is_outcome_accepted o)
  where
    go : (x : Bool) → (steps_of_sender (if x then pipes.Asks_to_send ∷ [] else []) ≡ (if x then pipes.Asks_to_send ∷ [] else [])) × (steps_of_receiver (if x then pipes.Asks_to_send ∷ [] else []) ≡ [])
    go true = (refl, refl)
    go false = (refl, refl)
by-sender-all (EndpointEvent.Gives text) o = go (is_outcome_accepted o)
  where
    go : (x : Bool) → (steps_of_sender (if x then pipes.Gives text ∷ [] else []) ≡ (if x then pipes.Gives text ∷ [] else [])) × (steps_of_receiver (if x then pipes.Gives text ∷ [] else []) ≡ [])
    go true = (refl, refl)
    go false = (refl, refl)
by-sender-all (EndpointEvent.Closes full) o = go (is_outcome_accepted o)
  where
    go : (x : Bool) → (steps_of_sender (if x then pipes.Closes_sender ∷ [] else []) ≡ (if x then pipes.Closes_sender ∷ [] else [])) × (steps_of_receiver (if x then pipes.Closes_sender ∷ [] else []) ≡ [])
    go true = (refl, refl)
    go false = (refl, refl)
by-sender-all what o = (refl, refl)

one-of-receiver : (s : Step) → is_sender_step s ≡ false → is_receiver_step s ≡ true → (x : Bool) → (steps_of_receiver (if x then s ∷ [] else []) ≡ (if x then s ∷ [] else [])) × (steps_of_sender (if x then s ∷ [] else []) ≡ [])
one-of-receiver s a b true = (ap (λ (y : Bool). if y then s ∷ [] else []) b, ap (λ (y : Bool). if y then s ∷ [] else []) a)
one-of-receiver s a b false = (refl, refl)

by-receiver-all : (what : EndpointEvent) (o : Outcome) → (steps_of_receiver (receiver_step what o) ≡ receiver_step what o) × (steps_of_sender (receiver_step what o) ≡ [])
by-receiver-all (EndpointEvent.Asks_to_receive a b n full) o = one-of-receiver pipes.Asks_to_receive refl refl (is_outcome_accepted o)
by-receiver-all (EndpointEvent.Allocates a b full) o = one-of-receiver (pipes.Allows b) refl refl (is_outcome_accepted o)
by-receiver-all (EndpointEvent.Calls_back a b full) o = one-of-receiver pipes.Calls_back refl refl (is_outcome_accepted o)
by-receiver-all (EndpointEvent.Closes full) o = one-of-receiver pipes.Closes_receiver refl refl (is_outcome_accepted o)
by-receiver-all (EndpointEvent.Takes bytes) (Outcome.Took_out text) = (refl, refl)
by-receiver-all (EndpointEvent.Takes bytes) o = (refl, refl)
by-receiver-all what o = (refl, refl)

calls-on : (pair : Pair) (what : EndpointEvent) (w : EndpointWithHistory) → (watches pair what w).past.calls ≡ calls_after what (happens pair what w.end).outcome w.past.calls
calls-on pair what w = go (opens w.end (happens pair what w.end).after)
  where
    go : (b : Bool) → calls_after what (happens pair what w.end).outcome (if b then reopened w.past else w.past).calls ≡ calls_after what (happens pair what w.end).outcome w.past.calls
    go true = refl
    go false = refl

module _ (pair : Pair) where
  abbrev SenderSteps : EndpointWithHistory → List Step
  SenderSteps w = sender_steps w.past.calls

  abbrev ReceiverSteps : EndpointWithHistory → List Step
  ReceiverSteps w = receiver_steps w.past.calls

  still : (w v : Connection) → v.sender ≡ w.sender → v.receiver ≡ w.receiver → CallsGrow w v []
  still w v a b = (ap SenderSteps a ∙ sym (append-nil (SenderSteps w.sender)), ap ReceiverSteps b ∙ sym (append-nil (ReceiverSteps w.receiver)))

  does-s : (what : EndpointEvent) (w v : Connection) → v.sender ≡ w.sender → v.receiver ≡ w.receiver → CallsGrow w (sender_does pair what v) (sender_step what (happens pair what w.sender.end).outcome)
  does-s what w v a b =
      let o : Outcome = (happens pair what w.sender.end).outcome in
      let k = by-sender-all what o in (
        ap (λ (x : EndpointWithHistory). SenderSteps (watches pair what x)) a ∙ ap sender_steps (calls-on pair what w.sender) ∙ sender-grows what o w.sender.past.calls ∙ ap (λ (x : List Step). SenderSteps w.sender ++ x) (sym k.0),
        ap ReceiverSteps b ∙ sym (append-nil (ReceiverSteps w.receiver)) ∙ ap (λ (x : List Step). ReceiverSteps w.receiver ++ x) (sym k.1),
      )

  does-r : (what : EndpointEvent) (w v : Connection) → v.sender ≡ w.sender → v.receiver ≡ w.receiver → CallsGrow w (receiver_does pair what v) (receiver_step what (happens (counterpart pair) what w.receiver.end).outcome)
  does-r what w v a b =
      let o : Outcome = (happens (counterpart pair) what w.receiver.end).outcome in
      let k = by-receiver-all what o in (
        ap SenderSteps a ∙ sym (append-nil (SenderSteps w.sender)) ∙ ap (λ (x : List Step). SenderSteps w.sender ++ x) (sym k.1),
        ap (λ (x : EndpointWithHistory). ReceiverSteps (watches (counterpart pair) what x)) b ∙ ap receiver_steps (calls-on (counterpart pair) what w.receiver) ∙ receiver-grows what o w.receiver.past.calls ∙ ap (λ (x : List Step). ReceiverSteps w.receiver ++ x) (sym k.0),
      )

  abbrev bare : Connection → Connection
  bare w = record w { to_receiver = []; to_sender = [] }

  abbrev after : ConnectionEvent → Bool → Bool → Connection → Connection
  after e a b v = if (if is_at_sender e then a else b) then occurs pair e v else misses e v

  event : (e : ConnectionEvent) (a b : Bool) (w : Connection) → CallsGrow w (after e a b (bare w)) (event_steps pair a b e w)
  event (Sender_calls what) false b w = still w (bare w) refl refl
  event (Sender_calls what) true b w = go (is_call what)
    where
      go : (c : Bool) → CallsGrow w (if c then sender_does pair what (bare w) else bare w) (if c then sender_step what (happens pair what w.sender.end).outcome else [])
      go true = does-s what w (bare w) refl refl
      go false = still w (bare w) refl refl
  event (Receiver_calls what) a false w = still w (bare w) refl refl
  event (Receiver_calls what) a true w = go (is_call what)
    where
      go : (c : Bool) → CallsGrow w (if c then receiver_does pair what (bare w) else bare w) (if c then receiver_step what (happens (counterpart pair) what w.receiver.end).outcome else [])
      go true = does-r what w (bare w) refl refl
      go false = still w (bare w) refl refl
  event (Comes_to_sender n) false b w = still w (bare w) refl refl
  event (Comes_to_sender n) true b w = go (nat_lt n MAX_BY_PEER)
    where
      go : (c : Bool) → CallsGrow w (if c then bare w else bare w) []
      go true = still w (bare w) refl refl
      go false = still w (bare w) refl refl
  event (Comes_to_receiver n) a false w = still w (bare w) refl refl
  event (Comes_to_receiver n) a true w = go (nat_lt n MAX_BY_PEER)
    where
      go : (c : Bool) → CallsGrow w (if c then bare w else bare w) []
      go true = still w (bare w) refl refl
      go false = still w (bare w) refl refl
  event Text_goes_out false b w = still w (bare w) refl refl
  event Text_goes_out true b w = does-s EndpointEvent.Text_goes_out w (bare w) refl refl
  event (Text_comes head) a false w = still w (record (bare w) { text = text_dropped w.text }) refl refl
  event (Text_comes head) a true w = go w.text
    where
      go : (t : Text) → CallsGrow w (text_comes pair head t (bare w)) []
      go No_text = still w (bare w) refl refl
      go (Away li n bits) = does-r (EndpointEvent.Text_comes head n bits) w (record (bare w) { text = Here li }) refl refl
      go (Here li) = still w (bare w) refl refl
  event (Text_is_answered how) false b w = still w (record (bare w) { text = text_over how w.text }) refl refl
  event (Text_is_answered how) true b w = go how w.text
    where
      go : (how : Answer) (t : Text) → CallsGrow w (text_is_answered pair how t (bare w)) []
      go Rfnm No_text = still w (bare w) refl refl
      go Rfnm (Away li n bits) = still w (bare w) refl refl
      go Rfnm (Here li) = does-s (EndpointEvent.Is_answered Rfnm) w (record (bare w) { text = No_text }) refl refl
      go Incomplete No_text = still w (bare w) refl refl
      go Incomplete (Away li n bits) = does-s (EndpointEvent.Is_answered Incomplete) w (bare w) refl refl
      go Incomplete (Here li) = still w (bare w) refl refl
      go Dead No_text = still w (bare w) refl refl
      go Dead (Away li n bits) = does-s (EndpointEvent.Is_answered Dead) w (bare w) refl refl
      go Dead (Here li) = still w (bare w) refl refl

  to-sender : (n : ℕ) (c : Command) (w : Connection) → CallsGrow w (sender_hears pair (command_comes n c) (bare w)) []
  to-sender n (Rts i j on) w = does-s (EndpointEvent.Rts_comes on false n) w (bare w) refl refl
  to-sender n (Str i j z) w = does-s (EndpointEvent.Str_comes z n) w (bare w) refl refl
  to-sender n (Cls i j) w = does-s EndpointEvent.Cls_comes w (bare w) refl refl
  to-sender n (All on x y) w = does-s (EndpointEvent.All_comes on x y) w (bare w) refl refl
  to-sender n (Gvb on x y) w = does-s (EndpointEvent.Gvb_comes on x y) w (bare w) refl refl
  to-sender n (Ret on x y) w = does-s (EndpointEvent.Ret_comes on x y) w (bare w) refl refl
  to-sender n (Inr on) w = does-s (EndpointEvent.Inr_comes on) w (bare w) refl refl
  to-sender n (Ins on) w = does-s (EndpointEvent.Ins_comes on) w (bare w) refl refl
  to-sender n c w = still w (bare w) refl refl

  to-receiver : (n : ℕ) (c : Command) (w : Connection) → CallsGrow w (receiver_hears pair (command_comes n c) (bare w)) []
  to-receiver n (Rts i j on) w = does-r (EndpointEvent.Rts_comes on false n) w (bare w) refl refl
  to-receiver n (Str i j z) w = does-r (EndpointEvent.Str_comes z n) w (bare w) refl refl
  to-receiver n (Cls i j) w = does-r EndpointEvent.Cls_comes w (bare w) refl refl
  to-receiver n (All on x y) w = does-r (EndpointEvent.All_comes on x y) w (bare w) refl refl
  to-receiver n (Gvb on x y) w = does-r (EndpointEvent.Gvb_comes on x y) w (bare w) refl refl
  to-receiver n (Ret on x y) w = does-r (EndpointEvent.Ret_comes on x y) w (bare w) refl refl
  to-receiver n (Inr on) w = does-r (EndpointEvent.Inr_comes on) w (bare w) refl refl
  to-receiver n (Ins on) w = does-r (EndpointEvent.Ins_comes on) w (bare w) refl refl
  to-receiver n c w = still w (bare w) refl refl

alike : (pair : Pair) (w x v : Connection) (users : List Step) → v.sender ≡ x.sender → v.receiver ≡ x.receiver → CallsGrow w x users → CallsGrow w v users
alike pair w x v users a b l = (ap (λ (y : EndpointWithHistory). sender_steps y.past.calls) a ∙ l.0, ap (λ (y : EndpointWithHistory). receiver_steps y.past.calls) b ∙ l.1)

module _ (p : Pair) (sp : sends p ≡ true) where
  abbrev At : Shared → Connection
  At s = connection_at p s

  put-own : (h : Hosted) (s g : Shared) (users : List Step) → CallsGrow (At s) h.connection users → CallsGrow (At s) (At (put_hosted p h g)) users
  put-own h s g users l = alike p (At s) h.connection (At (put_hosted p h g)) users (set-own p h.connection.sender g.sender) (set-own p h.connection.receiver g.receiver) l

  put-other : (q : Pair) (h : Hosted) (s g : Shared) → same q p ≡ false → g.sender p ≡ s.sender p → g.receiver p ≡ s.receiver p → CallsGrow (At s) (At (put_hosted q h g)) []
  put-other q h s g d a b = still p (At s) (At (put_hosted q h g)) (set-other q p h.connection.sender g.sender d ∙ a) (set-other q p h.connection.receiver g.receiver d ∙ b)

  on-one : (q : Pair) (e : ConnectionEvent) (s : Shared) → (b : Bool) → same q p ≡ b → CallsGrow (At s) (At (put_hosted q (changes q (Occurs e) (bringing q [] [] s)) s)) (if b then event_steps p s.sends s.receives e (At s) else [])
  on-one q e s false d = put-other q (changes q (Occurs e) (bringing q [] [] s)) s s d refl refl
  on-one q e s true i =
      subst (λ (r : Pair). CallsGrow (At s) (At (put_hosted r (changes r (Occurs e) (bringing r [] [] s)) s)) (event_steps p s.sends s.receives e (At s))) (sym (same_true q p i))
      (put-own (changes p (Occurs e) (bringing p [] [] s)) s s (event_steps p s.sends s.receives e (At s)) (event p e s.sends s.receives (At s)))

  next-sender : (n : ℕ) (c : Tagged) (rest : List Tagged) (s : Shared) → nat_lt n MAX_BY_PEER ≡ true → CallsGrow (At s) (At (next_to_senders n (c ∷ rest) s)) []
  next-sender n c rest s few = go (sends c.pair)
    where
      h : Pair → Hosted
      h r = changes r (Occurs (Comes_to_sender n)) (bringing r [] (c.command ∷ []) s)

      g : Shared
      g = record s { to_senders = rest }

      alive : (a : Bool) → s.sends ≡ a → CallsGrow (At s) (h p).connection []
      alive true e = rw (e, few) (to-sender p n c.command (At s))
      alive false e = rw e (still p (At s) (At s) refl refl)

      which : (b : Bool) → same c.pair p ≡ b → CallsGrow (At s) (At (put_hosted c.pair (h c.pair) g)) []
      which true i = subst (λ (r : Pair). CallsGrow (At s) (At (put_hosted r (h r) g)) []) (sym (same_true c.pair p i)) (put-own (h p) s g [] (alive s.sends refl))
      which false d = put-other c.pair (h c.pair) s g d refl refl

      go : (b : Bool) → CallsGrow (At s) (At (if b then put_hosted c.pair (h c.pair) g else g)) []
      go true = which (same c.pair p) refl
      go false = still p (At s) (At g) refl refl

  next-receiver : (n : ℕ) (c : Tagged) (rest : List Tagged) (s : Shared) → nat_lt n MAX_BY_PEER ≡ true → CallsGrow (At s) (At (next_to_receivers n (c ∷ rest) s)) []
  next-receiver n c rest s few = go (sends c.pair)
    where
      h : Pair → Hosted
      h r = changes r (Occurs (Comes_to_receiver n)) (bringing r (c.command ∷ []) [] s)

      g : Shared
      g = record s { to_receivers = rest }

      alive : (a : Bool) → s.receives ≡ a → CallsGrow (At s) (h p).connection []
      alive true e = rw (e, few) (to-receiver p n c.command (At s))
      alive false e = rw e (still p (At s) (At s) refl refl)

      which : (b : Bool) → same c.pair p ≡ b → CallsGrow (At s) (At (put_hosted c.pair (h c.pair) g)) []
      which true i = subst (λ (r : Pair). CallsGrow (At s) (At (put_hosted r (h r) g)) []) (sym (same_true c.pair p i)) (put-own (h p) s g [] (alive s.receives refl))
      which false d = put-other c.pair (h c.pair) s g d refl refl

      go : (b : Bool) → CallsGrow (At s) (At (if b then put_hosted c.pair (h c.pair) g else g)) []
      go true = which (same c.pair p) refl
      go false = still p (At s) (At g) refl refl

  step : (e : Shared_event) (s : Shared) → CallsGrow (At s) (At (shared_occurs e s)) (shared_steps p e s)
  step (On q e) s = go (sends q) refl (same q p) refl
    where
      go : (b : Bool) → sends q ≡ b → (c : Bool) → same q p ≡ c → CallsGrow (At s) (At (if b then put_hosted q (changes q (Occurs e) (bringing q [] [] s)) s else s)) (if c then event_steps p s.sends s.receives e (At s) else [])
      go true sq c d = on-one q e s c d
      go false sq true i = absurd (both_ways (sends p) (subst (λ (x : Pair). sends x ≡ false) (same_true q p i) sq) sp)
      go false sq false i = still p (At s) (At s) refl refl
  step (Next_to_senders n) s = go (nat_lt n MAX_BY_PEER) refl s.to_senders
    where
      go : (b : Bool) → nat_lt n MAX_BY_PEER ≡ b → (xs : List Tagged) → CallsGrow (At s) (At (if b then next_to_senders n xs s else s)) []
      go false few xs = still p (At s) (At s) refl refl
      go true few [] = still p (At s) (At s) refl refl
      go true few (c ∷ rest) = next-sender n c rest s few
  step (Next_to_receivers n) s = go (nat_lt n MAX_BY_PEER) refl s.to_receivers
    where
      go : (b : Bool) → nat_lt n MAX_BY_PEER ≡ b → (xs : List Tagged) → CallsGrow (At s) (At (if b then next_to_receivers n xs s else s)) []
      go false few xs = still p (At s) (At s) refl refl
      go true few [] = still p (At s) (At s) refl refl
      go true few (c ∷ rest) = next-receiver n c rest s few
  step (Other_to_senders c) s = go (sends c.pair)
    where
      go : (b : Bool) → CallsGrow (At s) (At (if b then s else record s { to_senders = s.to_senders ++ c ∷ [] })) []
      go true = still p (At s) (At s) refl refl
      go false = still p (At s) (At (record s { to_senders = s.to_senders ++ c ∷ [] })) refl refl
  step (Other_to_receivers c) s = go (sends c.pair)
    where
      go : (b : Bool) → CallsGrow (At s) (At (if b then s else record s { to_receivers = s.to_receivers ++ c ∷ [] })) []
      go true = still p (At s) (At s) refl refl
      go false = still p (At s) (At (record s { to_receivers = s.to_receivers ++ c ∷ [] })) refl refl
  step (Senders_are_cleared n) s = does-s p EndpointEvent.Is_cleared (At s) (At s) refl refl
  step (Receivers_are_cleared n) s = does-r p EndpointEvent.Is_cleared (At s) (At s) refl refl
  step All_start_empty s = still p (At s) (At (shared_occurs All_start_empty s)) refl refl

  sender-joined : (xs ys : List Step) → steps_of_sender (xs ++ ys) ≡ steps_of_sender xs ++ steps_of_sender ys
  sender-joined [] ys = refl
  sender-joined (x ∷ xs) ys = go (is_sender_step x) (sender-joined xs ys)
    where
      go : (b : Bool) → steps_of_sender (xs ++ ys) ≡ steps_of_sender xs ++ steps_of_sender ys → (if b then x ∷ steps_of_sender (xs ++ ys) else steps_of_sender (xs ++ ys)) ≡ (if b then x ∷ steps_of_sender xs else steps_of_sender xs) ++ steps_of_sender ys
      go true e = ap (λ (l : List Step). x ∷ l) e
      go false e = e

  receiver-joined : (xs ys : List Step) → steps_of_receiver (xs ++ ys) ≡ steps_of_receiver xs ++ steps_of_receiver ys
  receiver-joined [] ys = refl
  receiver-joined (x ∷ xs) ys = go (is_receiver_step x) (receiver-joined xs ys)
    where
      go : (b : Bool) → steps_of_receiver (xs ++ ys) ≡ steps_of_receiver xs ++ steps_of_receiver ys → (if b then x ∷ steps_of_receiver (xs ++ ys) else steps_of_receiver (xs ++ ys)) ≡ (if b then x ∷ steps_of_receiver xs else steps_of_receiver xs) ++ steps_of_receiver ys
      go true e = ap (λ (l : List Step). x ∷ l) e
      go false e = e

  run : (es : List Shared_event) (s : Shared) → CallsGrow (At s) (At (shared_from es s)) (user_steps_from p es s)
  run [] s = still p (At s) (At s) refl refl
  run (e ∷ es) s =
      let one = step e s in
      let rest = run es (shared_occurs e s) in
      let us : List Step = shared_steps p e s in
      let vs : List Step = user_steps_from p es (shared_occurs e s) in (
        rest.0 ∙ ap (λ (l : List Step). l ++ steps_of_sender vs) one.0 ∙ append_assoc (sender_steps (s.sender p).past.calls) (steps_of_sender us) (steps_of_sender vs) ∙ ap (λ (l : List Step). sender_steps (s.sender p).past.calls ++ l) (sym (sender-joined us vs)),
        rest.1 ∙ ap (λ (l : List Step). l ++ steps_of_receiver vs) one.1 ∙ append_assoc (receiver_steps (s.receiver p).past.calls) (steps_of_receiver us) (steps_of_receiver vs) ∙ ap (λ (l : List Step). receiver_steps (s.receiver p).past.calls ++ l) (sym (receiver-joined us vs)),
      )

  pub calls-known : (es : List Shared_event) → (steps_of_sender (user_steps_from p es new_shared) ≡ sender_steps ((shared es).sender p).past.calls) × (steps_of_receiver (user_steps_from p es new_shared) ≡ receiver_steps ((shared es).receiver p).past.calls)
  calls-known es = let r = run es new_shared in (sym r.0, sym r.1)
