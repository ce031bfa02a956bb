-- What users call at a host, and a command of no connection: the host and the machines stay tied.
use Rattle.std.proofs.Common.{◌≡◌, ◌⊎◌, inl, inr, ℕ, ◌≤◌, Bool, true, false, not, ◌&&◌, nat_le, cond, if◌then◌else◌, List, [], ◌∷◌, ◌++◌, Option, None, Some, Result, Ok, Err, refl, sym, ap, ◌∙◌, subst, arith}
use Rattle.std.specs.FinMap.{get, get-insert}
use Rattle.std.specs.Ordering.{eq_by_cmp}
use Rattle.std.proofs.lemmas.Bool.{both_ways}
use Rattle.std.proofs.lemmas.List.{append-nil}
use Rattle.std.proofs.lemmas.Map.Views.{tells_apart}
use Rattle.ncp_wire.specs.declared.command.Command.{Command}
use Rattle.ncp_model.specs.declared.pair.Pair.{Pair}
use Rattle.ncp_model.specs.declared.call_fault.CallFault.{CallFault}
use Rattle.ncp_model.specs.declared.call_fault.CallFault.TheVariants.{BadSex, BadRoom, NoEntry, TableFull, QueueFull}
use Rattle.ncp_model.specs.declared.limits.TheConstants.{MAX_OWN}
use Rattle.ncp_model.specs.Pairs.{pair_cmp, sends, receives, counterpart}
use Rattle.ncp_model.specs.Endpoint.{Endpoint, or_new, is_live}
use Rattle.ncp_model.specs.Effect.{Effect, is_data_link, is_room, made_by_call}
use Rattle.ncp_model.specs.Calls.{refuse, ◌>>◌, end_to_ask, may_ask_receive}
use Rattle.ncp_model.specs.Ends.{Ends, count, has_asked, uses_link, free_link, put}
use Rattle.ncp_model.specs.EndpointEvents.{EndpointEvent, Outcome, Transition, happens, happened, outcome_of_call, of_take, is_violation}
use Rattle.ncp_model.specs.Demux.{passes}
use Rattle.ncp_proof_endpoint.specs.Histories.{PairHistory, EndpointWithHistory, watches, adds, opens, reopened}
use Rattle.ncp_proof_machine.specs.Delivery.{Link}
use Rattle.ncp_proof_connection.specs.Connections.{Text, text_after_outcome, is_call, Sender_calls, Receiver_calls}
use Rattle.ncp_proof_connection.specs.Sharing.{Tagged, Shared, set_at_pair, uses_at, Shared_event, On, shared_occurs, MayHappen}
use Rattle.ncp_proof_connection.specs.Finding.{link_out}
use Rattle.ncp_proof_machine.specs.Hosts.{TextOut, Node, or_no_past, past_after, pasts_after, PairCall, Ask_to_send, Ask_to_receive, Close, Give, Take, Allocate, Call_back, Interrupt, called}
use Rattle.ncp_model.proofs.PairOrder.{pairs_exact, pairs_total}
use Rattle.ncp_model.proofs.FreeLinks.{free-from, free-free, free-room}
use Rattle.ncp_model.proofs.LinksDemux.{itself}
use Rattle.ncp_model.proofs.Lookups.{any-none}
use Rattle.ncp_model.proofs.Refusals.{refused, stays_by}
use Rattle.ncp_proof_machine.proofs.EndsGood.{Changes, same_or, put-changes}
use Rattle.ncp_proof_connection.proofs.Linking.{uses_parts}
use Rattle.ncp_proof_headline.specs.Tied.{watched_at}
use Rattle.ncp_proof_headline.proofs.Ties.{commands_of, turn, turn_all, demuxes_nowhere, Apt, Flow, Owned, Owners, Texts, Way, Ties, further, reached-same}
use Rattle.ncp_proof_headline.proofs.TiesBase.{Sees, sender_did, receiver_did, set_same, others-to-senders, others-to-receivers, sender-acts, receiver-acts}

-- A command of no connection is added to those underway, as one of a pair with no sending end.

abbrev nobody : Pair
nobody = record { local = 0; remote = 0 }

commands_of_one : (cs : List Tagged) (d : Tagged) → commands_of (cs ++ d ∷ []) ≡ commands_of cs ++ d.command ∷ []
commands_of_one [] d = refl
commands_of_one (e ∷ cs) d = ap (λ (l : List Command). e.command ∷ l) (commands_of_one cs d)

turn_all_one : (cs : List Tagged) (d : Tagged) → turn_all (cs ++ d ∷ []) ≡ turn_all cs ++ turn d ∷ []
turn_all_one [] d = refl
turn_all_one (e ∷ cs) d = ap (λ (l : List Tagged). turn e ∷ l) (turn_all_one cs d)

apt_one : (cs : List Tagged) (d : Tagged) → demuxes_nowhere d.command ≡ true → Apt cs → Apt (cs ++ d ∷ [])
apt_one [] d n a = (λ e. n, tt)
apt_one (e ∷ cs) d n a = (a.0, apt_one cs d n a.1)

flow_one : (b : Bool) (u : List Command) (here there : List Tagged) (d : Tagged) → demuxes_nowhere d.command ≡ true → Flow b u here there → Flow b (u ++ d.command ∷ []) (here ++ d ∷ []) (there ++ turn d ∷ [])
flow_one b u here there d n f e =
    let k = f e in
    record {
      commands = commands_of_one here d ∙ ap (λ (l : List Command). l ++ d.command ∷ []) k.commands;
      same = ap (λ (l : List Tagged). l ++ turn d ∷ []) k.same ∙ sym (turn_all_one here d);
      apt = apt_one here d n k.apt;
    }

pub ties-echo : (a b : Bool) (own own' : Owners) (n m : Node) (u v : List Command) (c : Command) → demuxes_nowhere c ≡ true → Ties a b own own' n m u v → Ties a b own own' n m (u ++ c ∷ []) v
ties-echo a b own own' n m u v c l t =
    let d : Tagged = record { pair = nobody; command = c } in
    record {
      g = record t.g { to_receivers = t.g.to_receivers ++ d ∷ [] };
      back = record t.back { to_senders = t.back.to_senders ++ turn d ∷ [] };
      reached = others-to-receivers t.g nobody (c ∷ []) refl t.reached;
      reached_back = others-to-senders t.back (counterpart nobody) (c ∷ []) refl t.reached_back;
      there = t.there;
      here = t.here;
      going = flow_one b u t.g.to_receivers t.back.to_senders d l t.going;
      coming = t.coming;
    }

-- What happens at a pair is seen there, and nowhere else.

apart : (q pair : Pair) → ((q ≡ pair) → ⊥) → eq_by_cmp pair_cmp q pair ≡ false
apart q pair d = go (eq_by_cmp pair_cmp q pair) refl
  where
    go : (b : Bool) → eq_by_cmp pair_cmp q pair ≡ b → eq_by_cmp pair_cmp q pair ≡ false
    go true t = absurd (d (tells_apart pairs_exact q pair t))
    go false t = t

abbrev node_after : Node → Pair → EndpointEvent → Node
node_after n pair what = record n { ends = put n.ends pair (happens pair what (get n.ends pair)).after; pasts = pasts_after pair what n.ends n.pasts }

abbrev seen : Option Endpoint → Option PairHistory → EndpointWithHistory
seen e p = record { end = e; past = or_no_past p }

sees-put : (n : Node) (pair : Pair) (what : EndpointEvent) → Sees n (node_after n pair what) pair what
sees-put n pair what = record {
  at_it = ap (λ (o : Option Endpoint). seen o (get (pasts_after pair what n.ends n.pasts) pair)) c.there
      ∙ ap (λ (o : Option PairHistory). seen (happens pair what (get n.ends pair)).after o) (get-insert pairs_total n.pasts pair past pair ∙ ap (λ b. cond b (Some past) (get n.pasts pair)) (itself pair));
  beside = λ q d. ap (λ (o : Option Endpoint). seen o (get (pasts_after pair what n.ends n.pasts) q)) (c.elsewhere q d)
      ∙ ap (λ (o : Option PairHistory). seen (get n.ends q) o) (get-insert pairs_total n.pasts pair past q ∙ ap (λ b. cond b (Some past) (get n.pasts q)) (apart q pair d));
}
  where
    c : Changes n.ends (put n.ends pair (happens pair what (get n.ends pair)).after) pair what
    c = put-changes n.ends pair what

    past : PairHistory
    past = past_after (get n.ends pair) what (happens pair what (get n.ends pair)) (or_no_past (get n.pasts pair))

-- A call that is refused changes nothing: the same machines do.

abbrev Refusal : Pair → EndpointEvent → Option Endpoint → Type 0
Refusal pair what before = (fault : CallFault) × (happens pair what before ≡ record { after = before; made = []; outcome = Outcome.Refused fault })

refused-adds : (what : EndpointEvent) (fault : CallFault) (past : PairHistory) → adds what (Outcome.Refused fault) past ≡ past
refused-adds (EndpointEvent.Gives text) fault past = ap (λ (l : List Bool). record past { given = l }) (append-nil past.given)
refused-adds (EndpointEvent.Takes bytes) fault past = ap (λ (l : List Bool). record past { taken = l }) (append-nil past.taken)
refused-adds (EndpointEvent.Allocates m b full) fault past = grind arith
refused-adds (EndpointEvent.Ret_comes on m b) fault past = grind arith
refused-adds (EndpointEvent.Text_comes head of_size text) fault past = grind (arith, append-nil)
refused-adds what fault past = refl

opens-not : (e : Option Endpoint) → opens e e ≡ false
opens-not e = go (is_live e)
  where
    go : (b : Bool) → (not b && b) ≡ false
    go true = refl
    go false = refl

refused-stays : (pair : Pair) (what : EndpointEvent) (w : EndpointWithHistory) → Refusal pair what w.end → watches pair what w ≡ w
refused-stays pair what w r =
    ap (λ (h : Transition). record { end = h.after; past = adds what h.outcome (if opens w.end h.after then reopened w.past else w.past) }) r.1
    ∙ (ap (λ b. record { end = w.end; past = adds what (Outcome.Refused r.0) (if b then reopened w.past else w.past) }) (opens-not w.end)
    ∙ ap (λ (past : PairHistory). record { end = w.end; past = past }) (refused-adds what r.0 w.past))

-- the ties rest on what a host knows of its pairs, and on its texts
ties-same : (a b : Bool) (own own' : Owners) (n n' m : Node) (u v : List Command) → ((q : Pair) → watched_at n' q ≡ watched_at n q) → n'.texts ≡ n.texts → Ties a b own own' n m u v → Ties a b own own' n' m u v
ties-same a b own own' n n' m u v e f t = record {
  g = t.g;
  back = t.back;
  reached = t.reached;
  reached_back = t.reached_back;
  there = record {
    alive = t.there.alive;
    alive_too = t.there.alive_too;
    sender = λ p s. t.there.sender p s ∙ sym (e p);
    receiver = t.there.receiver;
    texts = subst (λ (links : ℕ → Link TextOut). Texts own links t.g.text) (sym f) t.there.texts;
    proper = λ p i. ap (λ (w : EndpointWithHistory). w.end) (e p) ∙ t.there.proper p i;
  };
  here = record {
    alive = t.here.alive;
    alive_too = t.here.alive_too;
    sender = t.here.sender;
    receiver = λ p s. t.here.receiver p s ∙ sym (e (counterpart p));
    texts = t.here.texts;
    proper = t.here.proper;
  };
  going = t.going;
  coming = t.coming;
}

-- texts that are the same at each pair
texts-same : (own : Owners) (links : ℕ → Link TextOut) (f h : Pair → Text) → ((q : Pair) → h q ≡ f q) → Texts own links f → Texts own links h
texts-same own links f h e x = record {
  owned = λ on. go on (own on) (x.owned on);
  out = λ p on k. x.out p on (subst (λ (y : Text). link_out y ≡ Some on) (e p) k);
}
  where
    go : (on : ℕ) (o : Option Pair) → Owned on o (links on) f → Owned on o (links on) h
    go on None k = k
    go on (Some p) k = record { sending = k.sending; data_link = k.data_link; carried = k.carried; text = e p ∙ k.text }

-- What a call comes to, whether something happens in a machine or not.

abbrev Did : Bool → Bool → Owners → Owners → Node → Node → List Command → List Command → Pair → EndpointEvent → Type 0
Did a b own own' n m u v pair what = record {
  ties : Ties a b own own' (node_after n pair what) m (u ++ (happens pair what (get n.ends pair)).made) v;
  safe : is_violation (happens pair what (get n.ends pair)).outcome ≡ false;
}

-- the event sends no text
abbrev Unsent : Pair → EndpointEvent → Type 0
Unsent pair what = (before : Option Endpoint) (on : ℕ) (text : Text) → text_after_outcome on (happens pair what before).outcome text ≡ text

module _ (a b : Bool) (own own' : Owners) (n m : Node) (u v : List Command) (pair : Pair) (what : EndpointEvent) (t : Ties a b own own' n m u v) where
  by-none : Refusal pair what (get n.ends pair) → Did a b own own' n m u v pair what
  by-none r = record {
    ties = subst (λ (l : List Command). Ties a b own own' n' m l v) (sym (ap (λ (h : Transition). u ++ h.made) r.1 ∙ append-nil u)) (ties-same a b own own' n n' m u v same_everywhere refl t);
    safe = ap (λ (h : Transition). is_violation h.outcome) r.1;
  }
    where
      n' : Node
      n' = node_after n pair what

      s : Sees n n' pair what
      s = sees-put n pair what

      same_everywhere : (q : Pair) → watched_at n' q ≡ watched_at n q
      same_everywhere q = go (same_or q pair)
        where
          go : (q ≡ pair) ⊎ ((q ≡ pair) → ⊥) → watched_at n' q ≡ watched_at n q
          go (inl e) = subst (λ (p : Pair). watched_at n' p ≡ watched_at n p) (sym e) (s.at_it ∙ refused-stays pair what (watched_at n pair) r)
          go (inr d) = s.beside q d

  by-sender : a ≡ true → sends pair ≡ true → is_call what ≡ true → Unsent pair what → Did a b own own' n m u v pair what
  by-sender up s c sent =
      sender-acts a b own own' n n' m u v what t.g t.back pair (t.g.text pair) own s t.there t.here t.going t.coming
      (reached-same (shared_occurs event t.g) (sender_did pair what (t.g.text pair) t.g) same_event (further t.g event t.reached tt)) t.reached_back
      (sees-put n pair what) (texts-same own n.texts t.g.text (set_at_pair pair (t.g.text pair) t.g.text) (λ q. set_same pair q t.g.text) t.there.texts)
    where
      n' : Node
      n' = node_after n pair what

      event : Shared_event
      event = On pair (Sender_calls what)

      alive : t.g.sends ≡ true
      alive = t.there.alive ∙ up

      did : shared_occurs (On pair (Sender_calls what)) t.g ≡ sender_did pair what (text_after_outcome (or_new (t.g.sender pair).end).link (happens pair what (t.g.sender pair).end).outcome (t.g.text pair)) t.g
      did = rw (s, alive, c) refl

      same_event : shared_occurs (On pair (Sender_calls what)) t.g ≡ sender_did pair what (t.g.text pair) t.g
      same_event = did ∙ ap (λ (x : Text). sender_did pair what x t.g) (sent (t.g.sender pair).end (or_new (t.g.sender pair).end).link (t.g.text pair))

  by-receiver : a ≡ true → sends (counterpart pair) ≡ true → is_call what ≡ true → MayHappen (On (counterpart pair) (Receiver_calls what)) t.back → Did a b own own' n m u v pair what
  by-receiver up s c may =
      receiver-acts a b own own' n n' m u v what t.g t.back m (counterpart pair) (t.back.text (counterpart pair)) own' s t.there t.here t.going t.coming
      t.reached (reached-same (shared_occurs event t.back) (receiver_did (counterpart pair) what (t.back.text (counterpart pair)) t.back) same_event (further t.back event t.reached_back may))
      (sees-put n pair what) (λ q. refl) t.there.texts (texts-same own' m.texts t.back.text (set_at_pair (counterpart pair) (t.back.text (counterpart pair)) t.back.text) (λ q. set_same (counterpart pair) q t.back.text) t.here.texts)
    where
      n' : Node
      n' = node_after n pair what

      event : Shared_event
      event = On (counterpart pair) (Receiver_calls what)

      alive : t.back.receives ≡ true
      alive = t.here.alive_too ∙ up

      same_event : shared_occurs (On (counterpart pair) (Receiver_calls what)) t.back ≡ receiver_did (counterpart pair) what (t.back.text (counterpart pair)) t.back
      same_event = rw (s, alive, c) refl

-- Of the calls.

unsent-call : {A : Type 0} → (r : Result A CallFault) (on : ℕ) (text : Text) → text_after_outcome on (outcome_of_call r) text ≡ text
unsent-call (Ok x) on text = refl
unsent-call (Err fault) on text = refl

unsent-take : (r : Result (List Bool × Option Command) CallFault) (on : ℕ) (text : Text) → text_after_outcome on (of_take r) text ≡ text
unsent-take (Ok x) on text = refl
unsent-take (Err fault) on text = refl

calls-unsent : (pair : Pair) (call : PairCall) (full : Bool) (m : Ends) → Unsent pair (called call full m)
calls-unsent pair (Ask_to_send of_size with_room) full m before on text = unsent-call _ on text
calls-unsent pair (Ask_to_receive with_room) full m before on text = unsent-call _ on text
calls-unsent pair Close full m before on text = unsent-call _ on text
calls-unsent pair (Give bits) full m before on text = unsent-call _ on text
calls-unsent pair (Take bytes) full m before on text = unsent-take _ on text
calls-unsent pair (Allocate of_messages of_bits) full m before on text = unsent-call _ on text
calls-unsent pair (Call_back of_messages of_bits) full m before on text = unsent-call _ on text
calls-unsent pair Interrupt full m before on text = unsent-call _ on text

-- where there is no end, and neither socket suits a request
none-refused : (pair : Pair) (call : PairCall) (full : Bool) (m : Ends) → sends pair ≡ false → receives pair ≡ false → Refusal pair (called call full m) None
none-refused pair (Ask_to_send of_size with_room) full m s r = (BadSex, rw s refl)
none-refused pair (Ask_to_receive with_room) full m s r = (BadSex, rw r refl)
none-refused pair call full m s r = (NoEntry, grind arith)

-- where the socket here does not receive
sex-refused : (pair : Pair) (with_room on own : ℕ) (full : Bool) (before : Option Endpoint) → receives pair ≡ false → Refusal pair (EndpointEvent.Asks_to_receive with_room on own full) before
sex-refused pair with_room on own full before r = (BadSex, rw r refl)

-- where 64 ends have asked
abbrev Refuses : Result (Unit {0}) CallFault → Type 0
Refuses r = (fault : CallFault) × (r ≡ Err fault)

or_sooner : (r next : Result (Unit {0}) CallFault) → Refuses next → Refuses (r >> next)
or_sooner (Ok t) next r = r
or_sooner (Err fault) next r = (fault, refl)

table-refused : (pair : Pair) (with_room on own : ℕ) (full : Bool) (before : Option Endpoint) → nat_le MAX_OWN own ≡ true → Refusal pair (EndpointEvent.Asks_to_receive with_room on own full) before
table-refused pair with_room on own full before e =
    let r : Refuses (may_ask_receive pair with_room own full before) =
    or_sooner (refuse BadSex (not (receives pair))) _
    (or_sooner (refuse BadRoom (not (is_room with_room))) _
    (or_sooner (end_to_ask (or_new before)) _ (TableFull, refused TableFull (nat_le MAX_OWN own) (refuse QueueFull full) e))) in
    (r.0, ap (λ (act : Effect (Result Command CallFault)). happened before act made_by_call outcome_of_call) (stays_by _ r.0 _ r.1))

-- where fewer have, a link is free, and no receiving end uses it
module _ (b a : Bool) (own : Owners) (m n : Node) (back : Shared) (w : Way b a own m n back) (few : count has_asked n.ends ≤ MAX_OWN) where
  free-data : is_data_link (free_link n.ends) ≡ true
  free-data = let f = free-from n.ends in let l = free-room n.ends few in grind arith

  free-unused : (p : Pair) → uses_at back (free_link n.ends) p ≡ true → ⊥
  free-unused p k = go (sends p) refl
    where
      none_here : (o : Option Endpoint) → passes (uses_link (free_link n.ends)) (counterpart p) o ≡ false → uses_link (free_link n.ends) (counterpart p, or_new o) ≡ false
      none_here None f = grind arith
      none_here (Some e) f = f

      unused : passes (uses_link (free_link n.ends)) (counterpart p) (get n.ends (counterpart p)) ≡ false
      unused = any-none (uses_link (free_link n.ends)) n.ends (free-free n.ends (free-room n.ends few)) (counterpart p)

      go : (x : Bool) → sends p ≡ x → ⊥
      go true s =
          let h : uses_link (free_link n.ends) (counterpart p, or_new (get n.ends (counterpart p))) ≡ true = subst (λ (o : EndpointWithHistory). uses_link (free_link n.ends) (counterpart p, or_new o.end) ≡ true) (w.receiver p s) k in
          both_ways (uses_link (free_link n.ends) (counterpart p, or_new (get n.ends (counterpart p)))) (none_here (get n.ends (counterpart p)) unused) h
      go false s = let h = uses_parts (free_link n.ends) p (or_new (back.receiver p).end) k in both_ways (sends p) s h.0

receives-not : (pair : Pair) → sends pair ≡ true → receives pair ≡ false
receives-not pair s = grind arith

receives-counterpart : (pair : Pair) → receives pair ≡ true → sends (counterpart pair) ≡ true
receives-counterpart pair r = grind arith

module _ (a b : Bool) (own own' : Owners) (n m : Node) (u v : List Command) (pair : Pair) (full : Bool) (up : a ≡ true) (t : Ties a b own own' n m u v) where
  -- a request to receive, at a pair that receives
  asking : (with_room : ℕ) → receives pair ≡ true → Did a b own own' n m u v pair (called (Ask_to_receive with_room) full n.ends)
  asking with_room r = go (nat_le MAX_OWN (count has_asked n.ends)) refl
    where
      go : (x : Bool) → nat_le MAX_OWN (count has_asked n.ends) ≡ x → Did a b own own' n m u v pair (called (Ask_to_receive with_room) full n.ends)
      go true e = by-none a b own own' n m u v pair (called (Ask_to_receive with_room) full n.ends) t (table-refused pair with_room (free_link n.ends) (count has_asked n.ends) full (get n.ends pair) e)
      go false e =
          let few : count has_asked n.ends ≤ MAX_OWN = grind arith in
          by-receiver a b own own' n m u v pair (called (Ask_to_receive with_room) full n.ends) t up (receives-counterpart pair r) (free-data b a own' m n t.back t.here few) (free-unused b a own' m n t.back t.here few)

  at-receiver : (call : PairCall) → receives pair ≡ true → Did a b own own' n m u v pair (called call full n.ends)
  at-receiver (Ask_to_receive with_room) r = asking with_room r
  at-receiver (Ask_to_send of_size with_room) r = by-receiver a b own own' n m u v pair (called (Ask_to_send of_size with_room) full n.ends) t up (receives-counterpart pair r) refl tt
  at-receiver Close r = by-receiver a b own own' n m u v pair (called Close full n.ends) t up (receives-counterpart pair r) refl tt
  at-receiver (Give text) r = by-receiver a b own own' n m u v pair (called (Give text) full n.ends) t up (receives-counterpart pair r) refl tt
  at-receiver (Take bytes) r = by-receiver a b own own' n m u v pair (called (Take bytes) full n.ends) t up (receives-counterpart pair r) refl tt
  at-receiver (Allocate of_messages of_bits) r = by-receiver a b own own' n m u v pair (called (Allocate of_messages of_bits) full n.ends) t up (receives-counterpart pair r) refl tt
  at-receiver (Call_back of_messages of_bits) r = by-receiver a b own own' n m u v pair (called (Call_back of_messages of_bits) full n.ends) t up (receives-counterpart pair r) refl tt
  at-receiver Interrupt r = by-receiver a b own own' n m u v pair (called Interrupt full n.ends) t up (receives-counterpart pair r) refl tt

  at-sender : (call : PairCall) → sends pair ≡ true → Did a b own own' n m u v pair (called call full n.ends)
  at-sender call s = go call (calls-unsent pair call full n.ends)
    where
      go : (call : PairCall) → Unsent pair (called call full n.ends) → Did a b own own' n m u v pair (called call full n.ends)
      go (Ask_to_receive with_room) x = by-none a b own own' n m u v pair (called (Ask_to_receive with_room) full n.ends) t (sex-refused pair with_room (free_link n.ends) (count has_asked n.ends) full (get n.ends pair) (receives-not pair s))
      go (Ask_to_send of_size with_room) x = by-sender a b own own' n m u v pair (called (Ask_to_send of_size with_room) full n.ends) t up s refl x
      go Close x = by-sender a b own own' n m u v pair (called Close full n.ends) t up s refl x
      go (Give text) x = by-sender a b own own' n m u v pair (called (Give text) full n.ends) t up s refl x
      go (Take bytes) x = by-sender a b own own' n m u v pair (called (Take bytes) full n.ends) t up s refl x
      go (Allocate of_messages of_bits) x = by-sender a b own own' n m u v pair (called (Allocate of_messages of_bits) full n.ends) t up s refl x
      go (Call_back of_messages of_bits) x = by-sender a b own own' n m u v pair (called (Call_back of_messages of_bits) full n.ends) t up s refl x
      go Interrupt x = by-sender a b own own' n m u v pair (called Interrupt full n.ends) t up s refl x

  -- at a pair that is neither: it has no end
  at-neither : (call : PairCall) → sends pair ≡ false → receives pair ≡ false → Did a b own own' n m u v pair (called call full n.ends)
  at-neither call s r =
      let none : get n.ends pair ≡ None = t.there.proper pair (rw (s, r) refl) in
      by-none a b own own' n m u v pair (called call full n.ends) t (subst (Refusal pair (called call full n.ends)) (sym none) (none-refused pair call full n.ends s r))

pub ties-calls : (a b : Bool) (own own' : Owners) (n m : Node) (u v : List Command) (pair : Pair) (call : PairCall) (full : Bool) → a ≡ true → Ties a b own own' n m u v
    → record {
      ties : Ties a b own own' (record n { ends = put n.ends pair (happens pair (called call full n.ends) (get n.ends pair)).after; pasts = pasts_after pair (called call full n.ends) n.ends n.pasts }) m (u ++ (happens pair (called call full n.ends) (get n.ends pair)).made) v;
      safe : is_violation (happens pair (called call full n.ends) (get n.ends pair)).outcome ≡ false;
    }
ties-calls a b own own' n m u v pair call full up t = go (sends pair) (receives pair) refl refl
  where
    go : (x y : Bool) → sends pair ≡ x → receives pair ≡ y → Did a b own own' n m u v pair (called call full n.ends)
    go true y s r = at-sender a b own own' n m u v pair full up t call s
    go false true s r = at-receiver a b own own' n m u v pair full up t call r
    go false false s r = at-neither a b own own' n m u v pair full up t call s r
