-- A host's state for a peer, besides the monitor's view of its phase: through each call and each received
-- message.
use Rattle.std.proofs.Common.{◌≡◌, ◌⊎◌, inl, inr, ℕ, ◌<◌, Bool, true, false, ◌&&◌, ◌||◌, if◌then◌else◌, List, [], ◌∷◌, ◌++◌, Option, Ok, Err, refl, sym, ap, ◌∙◌, subst, arith}
use Rattle.std.specs.List.{list_any}
use Rattle.std.specs.FinMap.{get, get-empty}
use Rattle.ncp_wire.specs.declared.command.Command.{Command}
use Rattle.ncp_wire.specs.declared.fault.CommandFault.{CommandFault}
use Rattle.ncp_model.specs.declared.pair.Pair.{Pair}
use Rattle.ncp_model.specs.Pairs.{pair_cmp}
use Rattle.ncp_model.specs.Effect.{answer, made_by_call}
use Rattle.ncp_model.specs.Echo.{Echoes, echo_answer, echo_asked}
use Rattle.ncp_model.specs.Ends.{Ends, hears_link, put, receiver_on, pair_of, demux_command, hear, text_in, map_after_at, no_ends}
use Rattle.ncp_model.specs.EndpointEvents.{EndpointEvent, happens}
use Rattle.ncp_model.specs.Demux.{passes}
use Rattle.ncp_model.specs.Phase.{Phase, Reaction, up, is_rst, is_rrp, is_other, is_resetting, has_room_for_one, queued, goes_down, wants_reset, owes_answer, hears_rrp, phase_answers, phase_asks, phase_settles, makes_all, phase_hears, phase_makes, resets}
use Rattle.ncp_model.specs.Sending.{is_full}
use Rattle.ncp_model.specs.Texts.{made_by_text}
use Rattle.ncp_model.specs.Peers.{Peer, PairCall, Ask_to_send, happened_at, standing, called, calls, calls_echo, calls_reset, calls_up, cleared, echo_called, echoes_after, hears, hears_fault, hears_other, hears_text, makes, reaction, takes_text}
use Rattle.ncp_model.proofs.ResetLists.{rrps, rrps-append, rrps-purged}
use Rattle.ncp_proof_machine.proofs.EndsGood.{EndsInvariant, same_or, put-changes}
use Rattle.ncp_proof_endpoint.proofs.LinksStay.{brings_link, heard-by}
use Rattle.ncp_monitor.specs.declared.finding.ItemKind.{ItemKind}
use Rattle.ncp_monitor.specs.declared.view.View.{View}
use Rattle.ncp_monitor.specs.Phases.{after_thing, after_item, view_after_reset, view_after_reply}
use Rattle.ncp_proof_monitor.proofs.Phased.{Phased, Settled, Sees, falling, queueing, wanting, answering, asking, rst_comes, rrp_comes, rrp_acts, rrp_ends_rest, other_comes}

-- ---- the commands that are made

pub record Made (p now : Phase) (q : Bool) (v : View) : Type 0 where
  pub phased : Phased now q v
  pub settled : Settled now q
  pub replies : rrps now.waiting ≡ rrps p.waiting

not_reset : (c : Command) → is_other c ≡ true → (is_rst c ≡ false) × (is_rrp c ≡ false)
not_reset c o = (grind arith, grind arith)

-- one command

make : (c : Command) (p : Phase) (q : Bool) (v : View) → Phased p q v → Settled p q → Made p (phase_makes c p) q v
make c p q v k s = go (up p) refl (is_other c) refl (has_room_for_one p)
  where
    go : (b : Bool) → up p ≡ b → (o : Bool) → is_other c ≡ o → (d : Bool) → Made p (if b && o then (if d then queued c p else goes_down p) else p) q v
    go true u true o true =
        let r = not_reset c o in
        let m = rrps-append p.waiting (c ∷ []) in
        record { phased = queueing p q v c u o r.0 r.1 k; settled = s; replies = grind arith }
    go true u true o false = record { phased = falling p q v k; settled = s; replies = rrps-purged p.waiting }
    go true u false o d = record { phased = k; settled = s; replies = refl }
    go false u o e d = record { phased = k; settled = s; replies = refl }

pub make_all : (cs : List Command) (p : Phase) (q : Bool) (v : View) → Phased p q v → Settled p q → Made p (makes_all cs p) q v
make_all [] p q v k s = record { phased = k; settled = s; replies = refl }
make_all (c ∷ cs) p q v k s =
    let one = make c p q v k s in
    let rest = make_all cs (phase_makes c p) q v one.phased one.settled in
    record { phased = rest.phased; settled = rest.settled; replies = rest.replies ∙ one.replies }

-- ---- the ends

-- no sending end heard a link
abbrev pub Unheard : Ends → Type 0
Unheard m = (l : ℕ) (pair : Pair) → passes (hears_link l) pair (get m pair) ≡ false

pub none_heard : Unheard no_ends
none_heard l pair = ap (passes (hears_link l) pair) (get-empty pair_cmp pair)

none_brings : (call : PairCall) (full : Bool) (m : Ends) (l : ℕ) → brings_link l (called call full m) ≡ false
none_brings (Ask_to_send of_size with_room) full m l = refl
none_brings call full m l = refl

false_or_true : (b : Bool) → (b ≡ true → ⊥) → b ≡ false
false_or_true true n = absurd (n refl)
false_or_true false n = refl

-- a call makes none hear one
pub call_unheard : (pair : Pair) (call : PairCall) (full : Bool) (m : Ends) → EndsInvariant m → Unheard m → Unheard (put m pair (happens pair (called call full m) (get m pair)).after)
call_unheard pair call full m g u l q = go (same_or q pair)
  where
    what : EndpointEvent
    what = called call full m

    now : Ends
    now = put m pair (happens pair what (get m pair)).after

    here : passes (hears_link l) pair (get now pair) ≡ true → ⊥
    here h =
        let c = put-changes m pair what in
        let either = heard-by l pair what (get m pair) (g.sound pair) (ap (passes (hears_link l) pair) (sym c.there) ∙ h) in
        let nay : false ≡ true = sym (ap (λ (b : Bool). b || brings_link l what) (u l pair) ∙ none_brings call full m l) ∙ either in
        absurd (cc)

    go : (q ≡ pair) ⊎ ((q ≡ pair) → ⊥) → passes (hears_link l) q (get now q) ≡ false
    go (inl e) = subst (λ (r : Pair). passes (hears_link l) r (get now r) ≡ false) (sym e) (false_or_true (passes (hears_link l) pair (get now pair)) here)
    go (inr d) = ap (passes (hears_link l) q) ((put-changes m pair what).elsewhere q d) ∙ u l q

-- ---- a peer

pub record Stands (p : Peer) (q : Bool) (v : View) : Type 0 where
  pub phased : Phased p.phase q v
  pub settled : Settled p.phase q
  pub down : up p.phase ≡ false → p.ends ≡ no_ends
  -- while an RRP waits, no end of a peer that keeps the rules has heard a link
  pub unheard : up p.phase ≡ true → v.suspended ≡ false → v.acted ≡ false → 0 < rrps p.phase.waiting → Unheard p.ends

pub stands_if : (b : Bool) (p other : Peer) (q : Bool) (v : View) → (b ≡ true → Stands p q v) → (b ≡ false → Stands other q v) → Stands (if b then p else other) q v
stands_if true p other q v k l = k refl
stands_if false p other q v k l = l refl

pub unheard_kept : (b : Bool) (m : Ends) → Unheard m → Unheard (if b then m else no_ends)
unheard_kept true m u = u
unheard_kept false m u = none_heard

down_kept : (b : Bool) (m : Ends) → b ≡ false → (if b then m else no_ends) ≡ no_ends
down_kept true m e = absurd (cc)
down_kept false m e = refl

-- with commands made, or gone down
stood : (now : Phase) (m : Ends) (s : Echoes) (p : Phase) (q : Bool) (v : View) → Made p now q v → (v.suspended ≡ false → v.acted ≡ false → 0 < rrps p.waiting → Unheard m) → Stands (standing now m s) q v
stood now m s p q v k u = record {
  phased = k.phased;
  settled = k.settled;
  down = λ e. down_kept (up now) m e;
  unheard = λ up_is r a w. unheard_kept (up now) m (u r a (subst (λ (n : ℕ). 0 < n) k.replies w));
}

-- cleared
anew : (now : Phase) (s : Echoes) (q : Bool) (v : View) → Phased now q v → Settled now q → Stands (record { phase = now; ends = no_ends; echoes = s }) q v
anew now s q v k e = record { phased = k; settled = e; down = λ x. refl; unheard = λ x y a z. none_heard }

-- ---- calls

pub calls_stand : (pair : Pair) (call : PairCall) (p : Peer) (q : Bool) (v : View) → EndsInvariant p.ends → Stands p q v → Stands (calls pair call p) q v
calls_stand pair call p q v g k = stands_if (up p.phase) (calls_up pair call p) p q v made (λ e. k)
  where
    made : up p.phase ≡ true → Stands (calls_up pair call p) q v
    made e =
        stood (makes_all (happened_at pair call p).made p.phase) (put p.ends pair (happened_at pair call p).after) p.echoes p.phase q v
        (make_all (happened_at pair call p).made p.phase q v k.phased k.settled)
        (λ r a w. call_unheard pair call (is_full p.phase) p.ends g (k.unheard e r a w))

pub echo_stands : (byte : ℕ) (p : Peer) (q : Bool) (v : View) → Stands p q v → Stands (calls_echo byte p) q v
echo_stands byte p q v k = stands_if (up p.phase) (echo_called byte p) p q v made (λ e. k)
  where
    cs : List Command
    cs = made_by_call (echo_answer byte (is_full p.phase) p.echoes)

    made : up p.phase ≡ true → Stands (echo_called byte p) q v
    made e = stood (makes_all cs p.phase) p.ends (echo_asked (is_full p.phase) p.echoes) p.phase q v (make_all cs p.phase q v k.phased k.settled) (λ r a w. k.unheard e r a w)

-- ---- settling

answered_none : (p : Phase) → (phase_answers p).owe ≡ false
answered_none p = go p.owe refl
  where
    go : (b : Bool) → p.owe ≡ b → (if b then record p { down = false; owe = false; waiting = if list_any is_rrp p.waiting then p.waiting else p.waiting ++ Command.Rrp ∷ [] } else p).owe ≡ false
    go true e = refl
    go false e = e

asked_none : (p : Phase) → p.owe ≡ false → Settled (phase_asks p) true
asked_none p e = go p.want refl
  where
    go : (b : Bool) → p.want ≡ b → Settled (if b then record p { down = false; want = false; wait = true; waiting = if list_any is_rst p.waiting then p.waiting else p.waiting ++ Command.Rst ∷ [] } else p) true
    go true w = record { owes = λ x. e; wants = λ x. refl }
    go false w = record { owes = λ x. e; wants = λ x. w }

pub settling : (p : Phase) (q : Bool) (v : View) → Phased p q v → Phased (phase_settles q p) q v × Settled (phase_settles q p) q
settling p true v k = let o = answered_none p in (asking (phase_answers p) v o (answering p v k), asked_none (phase_answers p) o)
settling p false v k = (k, record { owes = λ x. absurd (cc); wants = λ x. absurd (cc) })

pub reset_stands : (p : Peer) (q : Bool) (v : View) → Stands p q v → Stands (calls_reset q p) q v
reset_stands p q v k = stands_if (is_resetting p.phase) p (cleared (resets q p.phase) p) q v (λ e. k) anew_is
  where
    anew_is : is_resetting p.phase ≡ false → Stands (cleared (resets q p.phase) p) q v
    anew_is e =
        let w = settling (wants_reset p.phase) q v (wanting p.phase q v e k.phased) in
        subst (λ (b : Bool). Stands (cleared (if b then p.phase else phase_settles q (wants_reset p.phase)) p) q v) (sym e) (anew (phase_settles q (wants_reset p.phase)) (cleared p.phase p).echoes q v w.0 w.1)

-- ---- what comes

-- another command than RST and RRP, a fault, or a text, where the host is up or drops it
thing_stands : (n : ℕ) (busy : Option ℕ) (zero : Bool) (what : ItemKind) (p done : Peer) (q : Bool) (v : View) → Sees q busy → Stands p q v
    → (up p.phase ≡ true → (w : View) → Phased p.phase q w → (w.suspended ≡ false → w.acted ≡ false → rrps p.phase.waiting ≡ 0) → Stands done q w)
    → Stands (if up p.phase then done else p) q (after_thing (record { by = n; sent = false; busy = busy; zero = zero }) what v)
thing_stands n busy zero what p done q v b k does =
    let w : View = after_thing (record { by = n; sent = false; busy = busy; zero = zero }) what v in
    let o = other_comes n busy zero what p.phase q v b k.phased in
    stands_if (up p.phase) done p q w
    (λ e. does e w o.0 (o.1 e))
    (λ e. record { phased = o.0; settled = k.settled; down = k.down; unheard = λ up_is r a z. absurd (cc (e, up_is)) })

pub no_reply : (n : ℕ) → n ≡ 0 → 0 < n → ⊥
no_reply n e l = omega (arith, e, l)

-- where it makes commands
pub makes_stand : (cs : List Command) (m : Ends) (s : Echoes) (p : Phase) (q : Bool) (w : View) → Phased p q w → Settled p q → (w.suspended ≡ false → w.acted ≡ false → rrps p.waiting ≡ 0) → Stands (standing (makes_all cs p) m s) q w
makes_stand cs m s p q w k e none = stood (makes_all cs p) m s p q w (make_all cs p q w k e) (λ r a z. absurd (no_reply (rrps p.waiting) (none r a) z))

pub fault_stands : (n : ℕ) (busy : Option ℕ) (zero : Bool) (fault : CommandFault) (p : Peer) (q : Bool) (v : View) → Sees q busy → Stands p q v
    → Stands (hears_fault fault p) q (after_item (record { by = n; sent = false; busy = busy; zero = zero }) (Err fault) v)
fault_stands n busy zero fault p q v b k =
    let cs : List Command = Command.Err fault.code fault.bytes ∷ [] in
    thing_stands n busy zero ItemKind.Bad p (makes cs p) q v b k (λ e w ph none. makes_stand cs p.ends p.echoes p.phase q w ph k.settled none)

pub text_stands : (n : ℕ) (busy : Option ℕ) (zero : Bool) (on : ℕ) (head : List Bool) (of_size : ℕ) (text : List Bool) (p : Peer) (q : Bool) (v : View) → Sees q busy → Stands p q v
    → Stands (hears_text on head of_size text p) q (after_thing (record { by = n; sent = false; busy = busy; zero = zero }) ItemKind.Text v)
text_stands n busy zero on head of_size text p q v b k =
    let took = text_in on of_size text p.ends in
    thing_stands n busy zero ItemKind.Text p (takes_text on head of_size text p) q v b k
    (λ e w ph none. makes_stand (made_by_text head text (answer took)) (map_after_at p.ends (pair_of (receiver_on on p.ends)) took) p.echoes p.phase q w ph k.settled none)

-- another command
other_stands : (n : ℕ) (busy : Option ℕ) (zero : Bool) (what : ItemKind) (c : Command) (p : Peer) (q : Bool) (v : View)
    → ((r : Reaction) → phase_hears c r p.phase ≡ (if up p.phase then (if r.full then goes_down p.phase else makes_all r.replies p.phase) else p.phase))
    → Sees q busy → Stands p q v
    → Stands (if up p.phase then hears_other q c p else p) q (after_thing (record { by = n; sent = false; busy = busy; zero = zero }) what v)
other_stands n busy zero what c p q v is b k = thing_stands n busy zero what p (hears_other q c p) q v b k does
  where
    r : Reaction
    r = reaction q c p

    m : Ends
    m = map_after_at p.ends (demux_command c p.ends) (hear c p.ends)

    does : up p.phase ≡ true → (w : View) → Phased p.phase q w → (w.suspended ≡ false → w.acted ≡ false → rrps p.phase.waiting ≡ 0) → Stands (hears_other q c p) q w
    does e w ph none =
        subst (λ (now : Phase). Stands (standing now m (echoes_after c p.echoes)) q w) (sym (is r ∙ ap (λ (b : Bool). if b then (if r.full then goes_down p.phase else makes_all r.replies p.phase) else p.phase) e)) (by r.full)
      where
        by : (b : Bool) → Stands (standing (if b then goes_down p.phase else makes_all r.replies p.phase) m (echoes_after c p.echoes)) q w
        by true =
            stood (goes_down p.phase) m (echoes_after c p.echoes) p.phase q w
            (record { phased = falling p.phase q w ph; settled = k.settled; replies = rrps-purged p.phase.waiting })
            (λ x a z. absurd (no_reply (rrps p.phase.waiting) (none x a) z))
        by false = makes_stand r.replies m (echoes_after c p.echoes) p.phase q w ph k.settled none

pub command_stands : (n : ℕ) (busy : Option ℕ) (zero : Bool) (c : Command) (p : Peer) (q : Bool) (v : View) → Sees q busy → Stands p q v
    → Stands (hears q c p) q (after_item (record { by = n; sent = false; busy = busy; zero = zero }) (Ok c) v)
command_stands n busy zero Command.Rst p q v b k =
    let w = settling (owes_answer p.phase) q (view_after_reset (record { by = n; sent = false; busy = busy; zero = zero }) v) (rst_comes n busy zero p.phase q v b k.settled k.phased) in
    anew (phase_settles q (owes_answer p.phase)) (cleared p.phase p).echoes q (view_after_reset (record { by = n; sent = false; busy = busy; zero = zero }) v) w.0 w.1
command_stands n busy zero Command.Rrp p q v b k = record {
  phased = rrp_comes n busy zero p.phase q v k.settled k.phased;
  settled = k.settled;
  down = λ e. k.down (still_down p.phase e);
  unheard = λ e r a z. by (up p.phase) refl e r a z;
}
  where
    still_down : (p : Phase) → up (hears_rrp p) ≡ false → up p ≡ false
    still_down p e = grind arith

    by : (u : Bool) → up p.phase ≡ u → up (hears_rrp p.phase) ≡ true → (view_after_reply (record { by = n; sent = false; busy = busy; zero = zero }) v).suspended ≡ false → (view_after_reply (record { by = n; sent = false; busy = busy; zero = zero }) v).acted ≡ false → 0 < rrps p.phase.waiting → Unheard p.ends
    by false u e r a z = subst Unheard (sym (k.down u)) none_heard
    by true u e r a z = k.unheard u (rrp_ends_rest n busy zero p.phase q v u k.phased r) (sym (rrp_acts n busy zero p.phase q v k.phased) ∙ a) z
command_stands n busy zero Command.Nop p q v b k = other_stands n busy zero ItemKind.Nop Command.Nop p q v (λ r. refl) b k
command_stands n busy zero (Command.Rts x y z) p q v b k = other_stands n busy zero ItemKind.Rts (Command.Rts x y z) p q v (λ r. refl) b k
command_stands n busy zero (Command.Str x y z) p q v b k = other_stands n busy zero ItemKind.Str (Command.Str x y z) p q v (λ r. refl) b k
command_stands n busy zero (Command.Cls x y) p q v b k = other_stands n busy zero ItemKind.Cls (Command.Cls x y) p q v (λ r. refl) b k
command_stands n busy zero (Command.All x y z) p q v b k = other_stands n busy zero ItemKind.All (Command.All x y z) p q v (λ r. refl) b k
command_stands n busy zero (Command.Gvb x y z) p q v b k = other_stands n busy zero ItemKind.Gvb (Command.Gvb x y z) p q v (λ r. refl) b k
command_stands n busy zero (Command.Ret x y z) p q v b k = other_stands n busy zero ItemKind.Ret (Command.Ret x y z) p q v (λ r. refl) b k
command_stands n busy zero (Command.Inr x) p q v b k = other_stands n busy zero ItemKind.Inr (Command.Inr x) p q v (λ r. refl) b k
command_stands n busy zero (Command.Ins x) p q v b k = other_stands n busy zero ItemKind.Ins (Command.Ins x) p q v (λ r. refl) b k
command_stands n busy zero (Command.Eco x) p q v b k = other_stands n busy zero ItemKind.Eco (Command.Eco x) p q v (λ r. refl) b k
command_stands n busy zero (Command.Erp x) p q v b k = other_stands n busy zero ItemKind.Erp (Command.Erp x) p q v (λ r. refl) b k
command_stands n busy zero (Command.Err x y) p q v b k = other_stands n busy zero ItemKind.Err (Command.Err x y) p q v (λ r. refl) b k
