-- If no violation of the rules of resets is found, no session is suspended: the effect of each command on
-- the view of such a session.
use Rattle.std.proofs.Common.{◌≡◌, ℕ, ◌==◌, Bool, true, false, not, ◌&&◌, ◌||◌, if◌then◌else◌, List, [], ◌∷◌, ◌++◌, Option, None, Some, Result, Ok, Err, option_map, option_to_list, refl, sym, ap, ◌∙◌, arith}
use Rattle.std.specs.List.{list_all}
use Rattle.ncp_wire.specs.declared.command.Command.{Command}
use Rattle.ncp_wire.specs.declared.fault.CommandFault.{CommandFault}
use Rattle.ncp_model.specs.Phase.{is_rst, is_rrp, is_other}
use Rattle.ncp_model.proofs.ResetLists.{bit}
use Rattle.ncp_monitor.specs.declared.act.Act.{Act}
use Rattle.ncp_monitor.specs.declared.act.Act.TheVariants.{Reset, Reply, Other}
use Rattle.ncp_monitor.specs.declared.finding.Finding.{Finding}
use Rattle.ncp_monitor.specs.declared.finding.Rule.{Rule}
use Rattle.ncp_monitor.specs.declared.finding.ItemKind.{ItemKind}
use Rattle.ncp_interface.specs.declared.sent_message.SentMessage.{SentMessage}
use Rattle.ncp_interface.specs.declared.sent_message.LinkState.{LinkState}
use Rattle.ncp_monitor.specs.declared.phase.MessageContext.{MessageContext}
use Rattle.ncp_monitor.specs.declared.observed_flow.ObservedFlow.{ObservedFlow}
use Rattle.ncp_monitor.specs.declared.view.View.{View}
use Rattle.ncp_monitor.specs.declared.view.Wait.TheVariants.{Even}
use Rattle.ncp_monitor.specs.Acts.{act_of}
use Rattle.ncp_monitor.specs.ConnStates.{SeenTables}
use Rattle.ncp_monitor.specs.Views.{awaits_reply, is_answered_too_often, new_view}
use Rattle.ncp_proof_monitor.proofs.Phased.{same_after}
use Rattle.ncp_monitor.specs.Phases.{broken_by, sender, is_text, is_early, early_rule, early_finding, after_thing, hears_reset, again_finding, unquiet_finding, first_finding, reset_findings, view_after_reset, unasked_finding, reply_findings, view_after_reply, act_findings, item_findings, after_item, items_findings, after_room}
use Rattle.ncp_monitor.specs.Talked.{flow_finding, number_findings, after_flow, all_findings, talked_findings}
use Rattle.ncp_monitor.specs.Judged.{changes_slot, may_pass_reset, view_after_out}
use Rattle.ncp_monitor.proofs.Passing.{Pass}
use Rattle.ncp_monitor.proofs.Parted.{pass_parts}
use Rattle.ncp_proof_monitor_messages.proofs.Quiet.{phase_quiet}

-- a session that does not rest: the host owes a reply while the peer awaits one, and each was asked for as many as the other
-- awaits
abbrev pub Awake : View → Type 0
Awake v = record {
  told : v.told ≡ true;
  suspended : v.suspended ≡ false;
  acted : v.acted ≡ false;
  desynced : v.desynced ≡ false;
  owes : v.owes ≡ awaits_reply v.peer.wait;
  own_asked : v.host.asked ≡ bit (awaits_reply v.peer.wait);
  peer_asked : v.peer.asked ≡ bit (awaits_reply v.host.wait);
  own_even : is_answered_too_often v.host.wait ≡ false;
  peer_even : is_answered_too_often v.peer.wait ≡ false;
  own_strict : v.host.admits ≡ false;
  peer_strict : v.peer.admits ≡ false;
}

pub new_awake : Awake (new_view false)
new_awake = record { told = refl; suspended = refl; acted = refl; desynced = refl; owes = refl; own_asked = refl; peer_asked = refl; own_even = refl; peer_even = refl; own_strict = refl; peer_strict = refl }

-- ---- RST and RRP of the host

pub record OwnReset (v now : View) : Type 0 where
  pub awake : Awake now
  pub before : awaits_reply v.host.wait ≡ false
  pub after : awaits_reply now.host.wait ≡ true
  pub owes : now.owes ≡ v.owes

pub own_reset : (me : ℕ) (busy : Option ℕ) (zero : Bool) (v : View) → Awake v → reset_findings (record { by = me; sent = true; busy = busy; zero = zero }) v ≡ []
    → OwnReset v (view_after_reset (record { by = me; sent = true; busy = busy; zero = zero }) v)
own_reset me busy zero v a none = record { awake = grind arith; before = grind arith; after = grind arith; owes = grind arith }

pub record OwnReply (v now : View) : Type 0 where
  pub awake : Awake now
  pub before : v.owes ≡ true
  pub after : now.owes ≡ false
  pub waits : awaits_reply now.host.wait ≡ awaits_reply v.host.wait

pub own_reply : (me : ℕ) (busy : Option ℕ) (zero : Bool) (v : View) → Awake v → reply_findings (record { by = me; sent = true; busy = busy; zero = zero }) v ≡ []
    → OwnReply v (view_after_reply (record { by = me; sent = true; busy = busy; zero = zero }) v)
own_reply me busy zero v a none = record { awake = grind arith; before = grind arith; after = grind arith; waits = grind arith }

-- ---- RST and RRP of the peer

pub record TheirReset (v now : View) : Type 0 where
  pub awake : Awake now
  pub before : v.owes ≡ false
  pub after : now.owes ≡ true
  pub waits : awaits_reply now.host.wait ≡ awaits_reply v.host.wait

pub their_reset : (n : ℕ) (busy : Option ℕ) (zero : Bool) (v : View) → Awake v → reset_findings (record { by = n; sent = false; busy = busy; zero = zero }) v ≡ []
    → TheirReset v (view_after_reset (record { by = n; sent = false; busy = busy; zero = zero }) v)
their_reset n busy zero v a none = record { awake = grind arith; before = grind arith; after = grind arith; waits = grind arith }

pub record TheirReply (v now : View) : Type 0 where
  pub awake : Awake now
  pub before : awaits_reply v.host.wait ≡ true
  pub after : awaits_reply now.host.wait ≡ false
  pub owes : now.owes ≡ v.owes

pub their_reply : (n : ℕ) (busy : Option ℕ) (zero : Bool) (v : View) → Awake v → reply_findings (record { by = n; sent = false; busy = busy; zero = zero }) v ≡ []
    → TheirReply v (view_after_reply (record { by = n; sent = false; busy = busy; zero = zero }) v)
their_reply n busy zero v a none = record { awake = grind arith; before = grind arith; after = grind arith; owes = grind arith }

-- ---- what is neither

-- the command is a thing to the phase
pub record IsThing (c : Command) : Type 0 where
  pub what : ItemKind
  pub act : act_of (Ok c) ≡ Other what
  pub is : is_other c ≡ true
  pub not_rst : is_rst c ≡ false
  pub not_rrp : is_rrp c ≡ false

pub by_kind : (P : Command → Type 0) → P Command.Rst → P Command.Rrp → ((c : Command) → IsThing c → P c) → (c : Command) → P c
by_kind P r q o Command.Rst = r
by_kind P r q o Command.Rrp = q
by_kind P r q o Command.Nop = o Command.Nop (record { what = ItemKind.Nop; act = refl; is = refl; not_rst = refl; not_rrp = refl })
by_kind P r q o (Command.Rts x y z) = o (Command.Rts x y z) (record { what = ItemKind.Rts; act = refl; is = refl; not_rst = refl; not_rrp = refl })
by_kind P r q o (Command.Str x y z) = o (Command.Str x y z) (record { what = ItemKind.Str; act = refl; is = refl; not_rst = refl; not_rrp = refl })
by_kind P r q o (Command.Cls x y) = o (Command.Cls x y) (record { what = ItemKind.Cls; act = refl; is = refl; not_rst = refl; not_rrp = refl })
by_kind P r q o (Command.All x y z) = o (Command.All x y z) (record { what = ItemKind.All; act = refl; is = refl; not_rst = refl; not_rrp = refl })
by_kind P r q o (Command.Gvb x y z) = o (Command.Gvb x y z) (record { what = ItemKind.Gvb; act = refl; is = refl; not_rst = refl; not_rrp = refl })
by_kind P r q o (Command.Ret x y z) = o (Command.Ret x y z) (record { what = ItemKind.Ret; act = refl; is = refl; not_rst = refl; not_rrp = refl })
by_kind P r q o (Command.Inr x) = o (Command.Inr x) (record { what = ItemKind.Inr; act = refl; is = refl; not_rst = refl; not_rrp = refl })
by_kind P r q o (Command.Ins x) = o (Command.Ins x) (record { what = ItemKind.Ins; act = refl; is = refl; not_rst = refl; not_rrp = refl })
by_kind P r q o (Command.Eco x) = o (Command.Eco x) (record { what = ItemKind.Eco; act = refl; is = refl; not_rst = refl; not_rrp = refl })
by_kind P r q o (Command.Erp x) = o (Command.Erp x) (record { what = ItemKind.Erp; act = refl; is = refl; not_rst = refl; not_rrp = refl })
by_kind P r q o (Command.Err x y) = o (Command.Err x y) (record { what = ItemKind.Err; act = refl; is = refl; not_rst = refl; not_rrp = refl })

pub none_early : (context : MessageContext) (what : ItemKind) (v : View) → v.told ≡ true → option_to_list (early_finding context what v) ≡ [] → is_early context what v ≡ false
none_early context what v t none = go v.told (is_early context what v) t none
  where
    go : (told early : Bool) → told ≡ true → option_to_list (if not told || not early then None else Some (broken_by context (early_rule context what v))) ≡ [] → early ≡ false
    go true true t none = absurd (cc none)
    go true false t none = refl
    go false early t none = absurd (cc t)

-- it leaves the view
pub thing_leaves : (context : MessageContext) (what : ItemKind) (v : View) → is_early context what v ≡ false → after_thing context what v ≡ v
thing_leaves context what v e = same_after context what v e

-- the host itself sends it while it neither waits for a reply nor owes one
pub own_in_time : (me : ℕ) (busy : Option ℕ) (zero : Bool) (what : ItemKind) (v : View) → v.suspended ≡ false → is_early (record { by = me; sent = true; busy = busy; zero = zero }) what v ≡ false → (awaits_reply v.host.wait ≡ false) × (v.owes ≡ false)
own_in_time me busy zero what v r e = go v.suspended (is_text what) v.host.began (awaits_reply v.host.wait) v.owes r e
  where
    go : (r t b w o : Bool) → r ≡ false → (if true && r && t then w else not b || w || (true && o)) ≡ false → (w ≡ false) × (o ≡ false)
    go true t b w o r e = absurd (cc r)
    go false t false w o r e = absurd (cc e)
    go false t true true o r e = absurd (cc e)
    go false t true false true r e = absurd (cc e)
    go false t true false false r e = (refl, refl)

-- a text in time
pub text_leaves : (context : MessageContext) (v : View) → v.told ≡ true → early_finding context ItemKind.Text v ≡ None → after_thing context ItemKind.Text v ≡ v
text_leaves context v t none = thing_leaves context ItemKind.Text v (none_early context ItemKind.Text v t (ap option_to_list none))

-- ---- what else is done to a view

pub room_leaves : (context : MessageContext) (room : Bool) (v : View) → v.told ≡ true → is_answered_too_often v.host.wait ≡ false → after_room context room v ≡ v
room_leaves context room v t a = go context.sent room v.told (is_answered_too_often v.host.wait) t a
  where
    go : (s r told answered : Bool) → told ≡ true → answered ≡ false → (if s && r && (not told || answered) then record v { host = record v.host { wait = Even } } else v) ≡ v
    go true true true false t a = refl
    go true false true false t a = refl
    go false r true false t a = refl
    go s r false x t a = absurd (cc t)
    go s r true true t a = absurd (cc a)

or_none : (x y : Bool) → x ≡ false → y ≡ false → (x || y) ≡ false
or_none true y e f = absurd (cc e)
or_none false y e f = f

no_passing : (t a b l : Bool) → a ≡ false → b ≡ false → (t && (a || b) && l) ≡ false
no_passing true false false l e f = refl
no_passing false false false l e f = refl
no_passing t true b l e f = absurd (cc e)
no_passing t false true l e f = absurd (cc f)

-- a message is sent that does not differ from the one before it
pub out_awake : (v : View) (link : ℕ) (slot : LinkState) (same : Bool) → changes_slot slot same ≡ false → Awake v → Awake (view_after_out v link slot same)
out_awake v link slot same e a = record {
  told = a.told;
  suspended = or_none (v.suspended || changes_slot slot same) (may_pass_reset v link) (or_none v.suspended (changes_slot slot same) a.suspended e) (no_passing v.told (is_answered_too_often v.host.wait) v.acted (not (link == 0)) a.own_even a.acted);
  acted = a.acted;
  desynced = a.desynced;
  owes = a.owes;
  own_asked = a.own_asked;
  peer_asked = a.peer_asked;
  own_even = a.own_even;
  peer_even = a.peer_even;
  own_strict = a.own_strict;
  peer_strict = a.peer_strict;
}

-- ---- where no finding is of resets, nothing is found of them

no_more : (f : Finding) (found : List Finding) → phase_quiet f ≡ false → Pass phase_quiet (f ∷ found) → ⊥
no_more f found e p =
    let nay : false ≡ true = sym (ap (λ (b : Bool). b && list_all phase_quiet found) e) ∙ p in
    absurd (cc nay)

unless_none : (b : Bool) (f : Finding) → phase_quiet f ≡ false → Pass phase_quiet (option_to_list (if b then None else Some f)) → option_to_list (if b then None else Some f) ≡ []
unless_none true f e p = refl
unless_none false f e p = absurd (no_more f [] e p)

where_none : (b : Bool) (f : Finding) → phase_quiet f ≡ false → Pass phase_quiet (option_to_list (if b then Some f else None)) → option_to_list (if b then Some f else None) ≡ []
where_none true f e p = absurd (no_more f [] e p)
where_none false f e p = refl

both_none : (xs ys : List Finding) → (Pass phase_quiet xs → xs ≡ []) → (Pass phase_quiet ys → ys ≡ []) → Pass phase_quiet (xs ++ ys) → xs ++ ys ≡ []
both_none xs ys f g p = let parts = pass_parts phase_quiet xs ys p in ap (λ (zs : List Finding). zs ++ ys) (f parts.0) ∙ g parts.1

where_all : (b : Bool) (xs : List Finding) → (Pass phase_quiet xs → xs ≡ []) → Pass phase_quiet (if b then xs else []) → (if b then xs else []) ≡ []
where_all true xs f p = f p
where_all false xs f p = refl

unquiet_none : (context : MessageContext) (reply : Bool) (v : View) → Pass phase_quiet (option_to_list (unquiet_finding reply context v)) → option_to_list (unquiet_finding reply context v) ≡ []
unquiet_none context reply v p = go (not context.sent || v.suspended) context.busy p
  where
    go : (b : Bool) (o : Option ℕ) → Pass phase_quiet (option_to_list (if b then None else option_map (λ (link : ℕ). broken_by context (Rule.Unquiet reply link)) o))
        → option_to_list (if b then None else option_map (λ (link : ℕ). broken_by context (Rule.Unquiet reply link)) o) ≡ []
    go true o p = refl
    go false None p = refl
    go false (Some link) p = absurd (no_more (broken_by context (Rule.Unquiet reply link)) [] refl p)

pub act_none : (context : MessageContext) (act : Act) (v : View) → Pass phase_quiet (act_findings context act v) → act_findings context act v ≡ []
act_none context Reset v p =
    let again = option_to_list (again_finding context v) in
    let unquiet = option_to_list (unquiet_finding false context v) in
    let first = option_to_list (first_finding context v) in
    where_all (hears_reset context v) (again ++ unquiet ++ first)
    (both_none (again ++ unquiet) first (both_none again unquiet (unless_none (not (awaits_reply (sender context v).wait)) (broken_by context Rule.RstAgain) refl) (unquiet_none context false v))
    (where_none (context.sent && v.owes && v.first && not v.suspended) (broken_by context Rule.RrpFirst) refl)) p
act_none context Reply v p =
    let unasked = option_to_list (unasked_finding context v) in
    let unquiet = option_to_list (unquiet_finding true context v) in
    where_all v.told (unasked ++ unquiet)
    (both_none unasked unquiet (unless_none (not ((sender context v).asked == 0) || (sender context v).admits) (broken_by context Rule.RrpUnasked) refl) (unquiet_none context true v)) p
act_none context (Other what) v p = unless_none (not v.told || not (is_early context what v)) (broken_by context (early_rule context what v)) refl p

item_none : (context : MessageContext) (item : Result Command CommandFault) (v : View) → Pass phase_quiet (item_findings context item v) → item_findings context item v ≡ []
item_none context (Ok c) v p = act_none context (act_of (Ok c)) v p
item_none context (Err fault) v p = absurd (no_more (broken_by context (Rule.Bad fault)) (act_findings context (Other ItemKind.Bad) v) refl p)

-- by the findings of a control text
pub quiet_items : (context : MessageContext) (flow : ObservedFlow) (kept : List SentMessage) (items : List (Result Command CommandFault)) (v : View) (b : SeenTables) → Pass phase_quiet (talked_findings context flow kept items v b) → items_findings context items v ≡ []
quiet_items context flow kept [] v b p = refl
quiet_items context flow kept (item ∷ items) v b p =
    let next = after_item context item v in
    let now = after_flow context flow kept item v b in
    let of_flow = option_to_list (flow_finding context flow kept item v b) in
    let parts = pass_parts phase_quiet (all_findings context flow kept item v b) (talked_findings context flow kept items next now) p in
    let said = pass_parts phase_quiet (item_findings context item v ++ of_flow) (number_findings context flow item v b) parts.0 in
    let one = pass_parts phase_quiet (item_findings context item v) of_flow said.0 in
    ap (λ (xs : List Finding). xs ++ items_findings context items next) (item_none context item v one.0) ∙ quiet_items context flow kept items next now parts.1
