-- One host with one peer: how its work changes with all that may happen to it.
use Rattle.std.proofs.Common.{◌≡◌, ℕ, ◌+◌, ◌*◌, ◌≤◌, length, Bool, true, false, cond, List, [], ◌∷◌, ◌++◌, Option, Some, None, refl, sym, ap, subst, arith}
use Rattle.std.specs.FinMap.{get}
use Rattle.ncp_wire.specs.declared.command.Command.{Command}
use Rattle.ncp_wire.specs.declared.fault.CommandFault.{CommandFault}
use Rattle.ncp_model.specs.declared.pair.Pair.{Pair}
use Rattle.ncp_model.specs.Pairs.{sends, receives}
use Rattle.ncp_model.specs.Endpoint.{Endpoint}
use Rattle.ncp_model.specs.Effect.{Effect, answer, end_after, made_by_hearing, made_by_call, made_if_any}
use Rattle.ncp_model.specs.Texts.{Rfnm, made_by_text, hear_text}
use Rattle.ncp_model.specs.declared.outcomes.Heard.{Heard}
use Rattle.ncp_model.specs.Echo.{Echoes, echo_asked}
use Rattle.ncp_model.specs.Ends.{Ends, any, count, hears_link, is_by_peer, sender_on, receiver_on, uses_link, pair_of, end_of, demux_command, hear, text_in, cut_in, cut_at, answered_in, answered_at, map_after, map_after_at, no_ends, put}
use Rattle.ncp_model.specs.Commands.{hear_all, hear_gvb, hear_ret, hear_inr, hear_ins}
use Rattle.ncp_model.specs.EndpointEvents.{EndpointEvent, Transition, Outcome, happens, happened, of_hearing, of_cut, outcome_of_text}
use Rattle.ncp_model.specs.Demux.{comes}
use Rattle.ncp_model.specs.Phase.{Phase, up, Reaction, is_other, is_resetting, goes_down, makes_all, hears_rst, resets, phase_hears}
use Rattle.ncp_model.specs.Sending.{is_full, next_commands}
use Rattle.ncp_model.specs.declared.limits.TheConstants.{MAX_CONTROL}
use Rattle.ncp_model.specs.declared.call_fault.CallFault.TheVariants.{Busy, QueueFull}
use Rattle.std.specs.Prelude.{Ok, Err}
use Rattle.ncp_model.specs.Peers.{Peer, PairCall, called, happened_at, calls, calls_up, standing, cleared, echo_replies, hears, hears_other, reaction, echoes_after, echo_called, calls_echo, calls_reset, hears_fault, takes_text, hears_text, cuts, frees, frees_up, falls, makes, peer_sends, settles}
use Rattle.ncp_model.proofs.LinksDemux.{led, command-led, cut-led, answered-led, user-receives}
use Rattle.ncp_proof_progress.specs.Work.{causes, queue_work, end_work_at, work_added, takes_away, happened_work, ends_work, phase_work, peer_work, call_budget}
use Rattle.ncp_proof_progress.proofs.EndWork.{paid}
use Rattle.ncp_proof_progress.proofs.EndsWork.{ends-put, ends-after, ends-none}
use Rattle.ncp_proof_progress.proofs.PhaseWork.{queue-append, queue-fitting, makes_all-work, down-work, hears_rst-work, resets-work, settles-work}

-- an act at a pair is paid for as what happens there is
pub act-paid : {A : Type 0} (m : Ends) (pair : Pair) (act : Effect A) (what : EndpointEvent) (made_by : A → List Command) (of : A → Outcome)
    → happens pair what (get m pair) ≡ happened (get m pair) act made_by of
    → queue_work (made_by (answer act)) + ends_work (map_after m pair act) + takes_away (of (answer act)) ≤ ends_work m + work_added pair what (get m pair)
act-paid m pair act what made_by of e =
    let p : queue_work (made_by (answer act)) + end_work_at pair (end_after (get m pair) act) + takes_away (of (answer act)) ≤ end_work_at pair (get m pair) + work_added pair what (get m pair) = subst (λ (h : Transition). happened_work pair h + takes_away h.outcome ≤ end_work_at pair (get m pair) + work_added pair what (get m pair)) e (paid pair what (get m pair)) in
    let s = ends-after m pair act in
    omega (arith, p, s)

-- a command that leads to a pair
Heard-paid : Ends → Command → ℕ → Type 0
Heard-paid m c n = queue_work (made_by_hearing (answer (hear c m))) + ends_work (map_after_at m (demux_command c m) (hear c m)) ≤ ends_work m + n

heard-there : (m : Ends) (c : Command) (pair : Pair) (what : EndpointEvent) → demux_command c m ≡ Some pair → comes c m ≡ Some what → Heard-paid m c (work_added pair what (get m pair))
unfolding Heard-paid
heard-there m c pair what e k =
    let l = command-led m c pair what e k in
    let p = act-paid m pair (hear c m) what made_by_hearing of_hearing l.1 in
    rw e (omega (arith, p))

-- a command that names a link, by where it leads
by-look-up : (m : Ends) (c : Command) (o : Option (Pair × Endpoint)) (f : Option Endpoint → Effect Heard) (n : ℕ) (what : EndpointEvent)
    → demux_command c m ≡ pair_of o → hear c m ≡ f (end_of o) → comes c m ≡ Some what → ((pair : Pair) → work_added pair what (get m pair) ≤ n) → queue_work (made_by_hearing (answer (f None))) ≤ n → Heard-paid m c n
unfolding Heard-paid
by-look-up m c None f n what l h w a z = rw (l, h) (omega (arith, z))
by-look-up m c (Some p) f n what l h w a z = let t = heard-there m c p.0 what l w in let k = a p.0 in omega (arith, t, k)

join : (m : Ends) (c : Command) (n : ℕ) → Heard-paid m c n → n + queue_work (echo_replies c) ≤ causes c
    → queue_work (made_by_hearing (answer (hear c m)) ++ echo_replies c) + ends_work (map_after_at m (demux_command c m) (hear c m)) ≤ ends_work m + causes c
unfolding Heard-paid
join m c n h k = rw (queue-append (made_by_hearing (answer (hear c m))) (echo_replies c)) (omega (arith, h, k))

pub heard-paid : (m : Ends) (c : Command) → queue_work (made_by_hearing (answer (hear c m)) ++ echo_replies c) + ends_work (map_after_at m (demux_command c m) (hear c m)) ≤ ends_work m + causes c
unfolding queue_work Heard-paid
heard-paid m (Command.Rts receive send on) = join m (Command.Rts receive send on) 2 (heard-there m (Command.Rts receive send on) (record { local = send; remote = receive }) (EndpointEvent.Rts_comes on (any (hears_link on) m) (count is_by_peer m)) refl refl) (omega arith)
heard-paid m (Command.Str send receive of_size) = join m (Command.Str send receive of_size) 2 (heard-there m (Command.Str send receive of_size) (record { local = receive; remote = send }) (EndpointEvent.Str_comes of_size (count is_by_peer m)) refl refl) (omega arith)
heard-paid m (Command.Cls my your) = join m (Command.Cls my your) 1 (heard-there m (Command.Cls my your) (record { local = your; remote = my }) EndpointEvent.Cls_comes refl refl) (omega arith)
heard-paid m (Command.All on a b) = join m (Command.All on a b) 1 (by-look-up m (Command.All on a b) (sender_on on m) (hear_all on a b) 1 (EndpointEvent.All_comes on a b) refl refl refl (λ pair. omega arith) (omega arith)) (omega arith)
heard-paid m (Command.Gvb on a b) = join m (Command.Gvb on a b) 2 (by-look-up m (Command.Gvb on a b) (sender_on on m) (hear_gvb on a b) 2 (EndpointEvent.Gvb_comes on a b) refl refl refl (λ pair. omega arith) (omega arith)) (omega arith)
heard-paid m (Command.Ret on a b) = join m (Command.Ret on a b) 1 (by-look-up m (Command.Ret on a b) (receiver_on on m) (hear_ret on a b) 1 (EndpointEvent.Ret_comes on a b) refl refl refl (λ pair. omega arith) (omega arith)) (omega arith)
heard-paid m (Command.Inr on) = join m (Command.Inr on) 1 (by-look-up m (Command.Inr on) (sender_on on m) (hear_inr on) 1 (EndpointEvent.Inr_comes on) refl refl refl (λ pair. omega arith) (omega arith)) (omega arith)
heard-paid m (Command.Ins on) = join m (Command.Ins on) 1 (by-look-up m (Command.Ins on) (receiver_on on m) (hear_ins on) 1 (EndpointEvent.Ins_comes on) refl refl refl (λ pair. omega arith) (omega arith)) (omega arith)
heard-paid m (Command.Eco byte) = omega arith
heard-paid m (Command.Erp byte) = omega arith
heard-paid m (Command.Err code bytes) = omega arith
heard-paid m Command.Nop = omega arith
heard-paid m Command.Rst = omega arith
heard-paid m Command.Rrp = omega arith

-- the phase and the ends together

standing-work : (q : Phase) (m : Ends) (s : Echoes) → peer_work (standing q m s) ≤ phase_work q + ends_work m
standing-work q m s = go (up q)
  where
    go : (b : Bool) → phase_work q + ends_work (cond b m no_ends) ≤ phase_work q + ends_work m
    go true = omega arith
    go false = let z = ends-none in omega (arith, z)

cleared-work : (q : Phase) (p : Peer) → peer_work (cleared q p) ≤ phase_work q
cleared-work q p = let z = ends-none in omega (arith, z)

pub makes-peer-work : (cs : List Command) (m : Ends) (p : Peer) → peer_work (makes cs (record p { ends = m })) ≤ phase_work p.phase + queue_work cs + ends_work m
makes-peer-work cs m p = let h = standing-work (makes_all cs p.phase) m p.echoes in let k = makes_all-work cs p.phase in omega (arith, h, k)

reacts : (r : Reaction) (q : Phase) → phase_work (cond (up q) (cond r.full (goes_down q) (makes_all r.replies q)) q) ≤ phase_work q + queue_work r.replies
reacts r q = go (up q) r.full
  where
    go : (a b : Bool) → phase_work (cond a (cond b (goes_down q) (makes_all r.replies q)) q) ≤ phase_work q + queue_work r.replies
    go true true = let h = down-work q in omega (arith, h)
    go true false = makes_all-work r.replies q
    go false b = omega arith

heard-phase : (c : Command) (r : Reaction) (q : Phase) → is_other c ≡ true → phase_work (phase_hears c r q) ≤ phase_work q + queue_work r.replies
heard-phase Command.Rst r q e = absurd (cc e)
heard-phase Command.Rrp r q e = absurd (cc e)
heard-phase Command.Nop r q e = reacts r q
heard-phase (Command.Rts receive send on) r q e = reacts r q
heard-phase (Command.Str send receive of_size) r q e = reacts r q
heard-phase (Command.Cls my your) r q e = reacts r q
heard-phase (Command.All on a b) r q e = reacts r q
heard-phase (Command.Gvb on a b) r q e = reacts r q
heard-phase (Command.Ret on a b) r q e = reacts r q
heard-phase (Command.Inr on) r q e = reacts r q
heard-phase (Command.Ins on) r q e = reacts r q
heard-phase (Command.Eco byte) r q e = reacts r q
heard-phase (Command.Erp byte) r q e = reacts r q
heard-phase (Command.Err code bytes) r q e = reacts r q

other-comes : (quiet : Bool) (c : Command) (p : Peer) → is_other c ≡ true → peer_work (cond (up p.phase) (hears_other quiet c p) p) ≤ peer_work p + causes c
other-comes quiet c p e = go (up p.phase)
  where
    go : (b : Bool) → peer_work (cond b (hears_other quiet c p) p) ≤ peer_work p + causes c
    go true =
        let h = standing-work (phase_hears c (reaction quiet c p) p.phase) (map_after_at p.ends (demux_command c p.ends) (hear c p.ends)) (echoes_after c p.echoes) in
        let k = heard-phase c (reaction quiet c p) p.phase e in
        let l = heard-paid p.ends c in
        omega (arith, h, k, l)
    go false = omega arith

pub comes-work : (quiet : Bool) (c : Command) (p : Peer) → peer_work (hears quiet c p) ≤ peer_work p + causes c
comes-work quiet Command.Rst p = let h = hears_rst-work quiet p.phase in let k = cleared-work (hears_rst quiet p.phase) p in omega (arith, h, k)
comes-work quiet Command.Rrp p = omega arith
comes-work quiet Command.Nop p = other-comes quiet Command.Nop p refl
comes-work quiet (Command.Rts receive send on) p = other-comes quiet (Command.Rts receive send on) p refl
comes-work quiet (Command.Str send receive of_size) p = other-comes quiet (Command.Str send receive of_size) p refl
comes-work quiet (Command.Cls my your) p = other-comes quiet (Command.Cls my your) p refl
comes-work quiet (Command.All on a b) p = other-comes quiet (Command.All on a b) p refl
comes-work quiet (Command.Gvb on a b) p = other-comes quiet (Command.Gvb on a b) p refl
comes-work quiet (Command.Ret on a b) p = other-comes quiet (Command.Ret on a b) p refl
comes-work quiet (Command.Inr on) p = other-comes quiet (Command.Inr on) p refl
comes-work quiet (Command.Ins on) p = other-comes quiet (Command.Ins on) p refl
comes-work quiet (Command.Eco byte) p = other-comes quiet (Command.Eco byte) p refl
comes-work quiet (Command.Erp byte) p = other-comes quiet (Command.Erp byte) p refl
comes-work quiet (Command.Err code bytes) p = other-comes quiet (Command.Err code bytes) p refl

-- the calls of a user

credits : (pair : Pair) (call : PairCall) (full : Bool) (m : Ends) → work_added pair (called call full m) (get m pair) ≡ call_budget call (get m pair)
credits pair (PairCall.Ask_to_send of_size with_room) full m = refl
credits pair (PairCall.Ask_to_receive with_room) full m = refl
credits pair PairCall.Close full m = refl
credits pair (PairCall.Give text) full m = refl
credits pair (PairCall.Take bytes) full m = refl
credits pair (PairCall.Allocate a b) full m = refl
credits pair (PairCall.Call_back a b) full m = refl
credits pair PairCall.Interrupt full m = refl

pub call-work : (pair : Pair) (call : PairCall) (p : Peer) → peer_work (calls pair call p) ≤ peer_work p + call_budget call (get p.ends pair)
call-work pair call p = go (up p.phase)
  where
    go : (b : Bool) → peer_work (cond b (calls_up pair call p) p) ≤ peer_work p + call_budget call (get p.ends pair)
    go true =
        let h = makes-peer-work (happened_at pair call p).made (put p.ends pair (happened_at pair call p).after) p in
        let s = ends-put p.ends pair (happened_at pair call p).after in
        let a : queue_work (happened_at pair call p).made + end_work_at pair (happened_at pair call p).after + takes_away (happened_at pair call p).outcome ≤ end_work_at pair (get p.ends pair) + work_added pair (called call (is_full p.phase) p.ends) (get p.ends pair) = paid pair (called call (is_full p.phase) p.ends) (get p.ends pair) in
        let c = credits pair call (is_full p.phase) p.ends in
        omega (arith, h, s, a, c)
    go false = omega arith

pub echo-work : (byte : ℕ) (p : Peer) → peer_work (calls_echo byte p) ≤ peer_work p + 2
unfolding queue_work
echo-work byte p = go (up p.phase) p.echoes.awaited (is_full p.phase)
  where
    made : Bool → Bool → List Command
    made a f = made_by_call (cond a (Err Busy) (cond f (Err QueueFull) (Ok (Command.Eco byte))))

    few : (a f : Bool) → queue_work (made a f) ≤ 2
    few true f = omega arith
    few false true = omega arith
    few false false = omega arith

    go : (b a f : Bool) → peer_work (cond b (echo_called byte p) p) ≤ peer_work p + 2
    go true a f =
        let h = standing-work (makes_all (made p.echoes.awaited (is_full p.phase)) p.phase) p.ends (echo_asked (is_full p.phase) p.echoes) in
        let k = makes_all-work (made p.echoes.awaited (is_full p.phase)) p.phase in
        let l = few p.echoes.awaited (is_full p.phase) in
        omega (arith, h, k, l)
    go false a f = omega arith

pub reset-work : (quiet : Bool) (p : Peer) → peer_work (calls_reset quiet p) ≤ peer_work p + 2
reset-work quiet p = go (is_resetting p.phase)
  where
    go : (b : Bool) → peer_work (cond b p (cleared (resets quiet p.phase) p)) ≤ peer_work p + 2
    go true = omega arith
    go false = let h = resets-work quiet p.phase in let k = cleared-work (resets quiet p.phase) p in omega (arith, h, k)

-- what comes beside commands

pub fault-work : (fault : CommandFault) (p : Peer) → peer_work (hears_fault fault p) ≤ peer_work p + 1
unfolding queue_work
fault-work fault p = go (up p.phase)
  where
    go : (b : Bool) → peer_work (cond b (makes (Command.Err fault.code fault.bytes ∷ []) p) p) ≤ peer_work p + 1
    go true = let h = makes-peer-work (Command.Err fault.code fault.bytes ∷ []) p.ends p in omega (arith, h)
    go false = omega arith

one-way : (pair : Pair) → receives pair ≡ true → sends pair ≡ false
one-way pair h = grind arith

text-paid : (m : Ends) (on : ℕ) (head : List Bool) (of_size : ℕ) (text : List Bool)
    → queue_work (made_by_text head text (answer (text_in on of_size text m))) + ends_work (map_after_at m (pair_of (receiver_on on m)) (text_in on of_size text m)) ≤ ends_work m + 1
unfolding queue_work
text-paid m on head of_size text = go (receiver_on on m) refl
  where
    Goal : Option (Pair × Endpoint) → Type 0
    Goal o = queue_work (made_by_text head text (answer (hear_text of_size text (end_of o)))) + ends_work (map_after_at m (pair_of o) (hear_text of_size text (end_of o))) ≤ ends_work m + 1

    go : (o : Option (Pair × Endpoint)) → receiver_on on m ≡ o → Goal (receiver_on on m)
    go None e = subst Goal (sym e) (omega arith)
    go (Some p) e =
        let l = led (uses_link on) m p.0 (ap pair_of e) in
        let r : sends p.0 ≡ false = one-way p.0 (user-receives on p.0 (get m p.0) l.1) in
        let h : happens p.0 (EndpointEvent.Text_comes head of_size text) (get m p.0) ≡ happened (get m p.0) (text_in on of_size text m) (made_by_text head text) outcome_of_text = ap (λ (x : Option Endpoint). happened (get m p.0) (hear_text of_size text x) (made_by_text head text) outcome_of_text) l.0 in
        let a = act-paid m p.0 (text_in on of_size text m) (EndpointEvent.Text_comes head of_size text) (made_by_text head text) outcome_of_text h in
        let z : work_added p.0 (EndpointEvent.Text_comes head of_size text) (get m p.0) ≡ 1 = ap (λ (b : Bool). 1 + cond b (2 * length text) 0) r in
        let f : pair_of (receiver_on on m) ≡ Some p.0 = ap pair_of e in
        rw f (omega (arith, a, z))

pub text-work : (on : ℕ) (head : List Bool) (of_size : ℕ) (text : List Bool) (p : Peer) → peer_work (hears_text on head of_size text p) ≤ peer_work p + 1
text-work on head of_size text p = go (up p.phase)
  where
    go : (b : Bool) → peer_work (cond b (takes_text on head of_size text p) p) ≤ peer_work p + 1
    go true =
        let h = makes-peer-work (made_by_text head text (answer (text_in on of_size text p.ends))) (map_after_at p.ends (pair_of (receiver_on on p.ends)) (text_in on of_size text p.ends)) p in
        let k = text-paid p.ends on head of_size text in
        omega (arith, h, k)
    go false = omega arith

-- what goes out, and its answer

pub cut-work : (on : ℕ) (p : Peer) → peer_work (cuts on p) + takes_away (of_cut (answer (cut_in on p.ends))) ≤ peer_work p
unfolding queue_work
cut-work on p = go (sender_on on p.ends) refl
  where
    Goal : Option (Pair × Endpoint) → Type 0
    Goal o = phase_work p.phase + ends_work (map_after_at p.ends (pair_of o) (cut_at o)) + takes_away (of_cut (answer (cut_at o))) ≤ peer_work p

    go : (o : Option (Pair × Endpoint)) → sender_on on p.ends ≡ o → Goal (sender_on on p.ends)
    go None e = subst Goal (sym e) (omega arith)
    go (Some x) e =
        let f : pair_of (sender_on on p.ends) ≡ Some x.0 = ap pair_of e in
        let l = cut-led p.ends on x.0 f in
        let a = act-paid p.ends x.0 (cut_in on p.ends) EndpointEvent.Text_goes_out (λ _. []) of_cut l.1 in
        rw f (omega (arith, a))

pub sends-work : (p : Peer) → peer_work (peer_sends p) + queue_work (next_commands p.phase.waiting) ≡ peer_work p
sends-work p = let h = queue-fitting MAX_CONTROL p.phase.waiting in omega (arith, h)

pub free-work : (on : ℕ) (p : Peer) → peer_work (frees on p) ≤ peer_work p
unfolding queue_work
free-work on p = go (up p.phase)
  where
    Goal : Option (Pair × Endpoint) → Type 0
    Goal o = queue_work (made_if_any (answer (answered_at Rfnm o))) + ends_work (map_after_at p.ends (pair_of o) (answered_at Rfnm o)) ≤ ends_work p.ends

    at : (o : Option (Pair × Endpoint)) → sender_on on p.ends ≡ o → Goal (sender_on on p.ends)
    at None e = subst Goal (sym e) (omega arith)
    at (Some x) e =
        let f : pair_of (sender_on on p.ends) ≡ Some x.0 = ap pair_of e in
        let l = answered-led p.ends on Rfnm x.0 f in
        let a = act-paid p.ends x.0 (answered_in on Rfnm p.ends) (EndpointEvent.Is_answered Rfnm) made_if_any (λ _. Outcome.Accepted) l.1 in
        rw f (omega (arith, a))

    go : (b : Bool) → peer_work (cond b (frees_up on p) p) ≤ peer_work p
    go true =
        let h = makes-peer-work (made_if_any (answer (answered_in on Rfnm p.ends))) (map_after_at p.ends (pair_of (sender_on on p.ends)) (answered_in on Rfnm p.ends)) p in
        let k = at (sender_on on p.ends) refl in
        omega (arith, h, k)
    go false = omega arith

pub settle-work : (quiet : Bool) (p : Peer) → peer_work (settles quiet p) ≤ peer_work p
settle-work quiet p = let h = settles-work quiet p.phase in omega (arith, h)

pub falls-work : (p : Peer) → peer_work (falls p) ≤ peer_work p
falls-work p = let h = down-work p.phase in let k = cleared-work (goes_down p.phase) p in omega (arith, h, k)
