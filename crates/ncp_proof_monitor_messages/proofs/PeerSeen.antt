-- The monitor's view of a host's peer at the host's interface, if both keep the rules: its relation to
-- the phase of the host, and to the commands underway from the peer.
use Rattle.std.proofs.Common.{◌≡◌, ℕ, ◌+◌, Bool, true, false, not, ◌||◌, if◌then◌else◌, List, [], ◌∷◌, ◌++◌, Option, None, Some, Ok, option_to_list, refl, sym, ap, ◌∙◌, arith}
use Rattle.ncp_wire.specs.declared.command.Command.{Command}
use Rattle.ncp_control.specs.Texts.{items_of}
use Rattle.ncp_model.specs.Phase.{Phase, is_rst, is_rrp, is_reset, is_other}
use Rattle.ncp_model.proofs.ResetLists.{bit, rsts, rrps, others, after_rst, after_rst-calm}
use Rattle.ncp_monitor.specs.declared.finding.Finding.{Finding}
use Rattle.ncp_monitor.specs.declared.finding.ItemKind.{ItemKind}
use Rattle.ncp_monitor.specs.declared.view.View.{View}
use Rattle.ncp_monitor.specs.Views.{awaits_reply, is_answered_too_often}
use Rattle.ncp_monitor.specs.Judged.{by_host}
use Rattle.ncp_monitor.specs.Phases.{is_early, early_rule, early_finding, after_thing, reset_findings, view_after_reset, reply_findings, view_after_reply, item_findings, after_item, items_findings, after_items}

-- ---- the relation to the phase of the host

abbrev pub Beside : Phase → View → Type 0
Beside k v = record {
  told : v.told ≡ true;
  -- of what the peer began, the host owes the reply, or lets it wait
  waits : bit (awaits_reply v.peer.wait) ≡ bit k.owe + rrps k.waiting;
  mandatory : is_answered_too_often v.peer.wait ≡ false;
  -- of what the host began, its RST waits, or the peer was asked
  asked : v.peer.asked + rsts k.waiting ≡ bit k.wait;
  own : v.peer.asked ≡ bit (awaits_reply v.host.wait);
  own_sure : is_answered_too_often v.host.wait ≡ false;
  -- before anything of the peer was seen
  unborn : v.peer.began ≡ false → awaits_reply v.peer.wait ≡ false;
  alone : v.peer.began ≡ false → v.host.began ≡ true → awaits_reply v.host.wait ≡ true;
}

-- ---- the relation to the commands underway: u from the peer, whose phase is h, and x on the line to it

abbrev pub Within : Phase → List Command → List Command → View → Type 0
Within h x u v = record {
  told : v.told ≡ true;
  waits : bit (awaits_reply v.peer.wait) + rsts u + rrps x ≡ bit h.wait;
  mandatory : is_answered_too_often v.peer.wait ≡ false;
  asked : v.peer.asked ≡ rsts x + bit h.owe + rrps u;
  own : v.peer.asked ≡ bit (awaits_reply v.host.wait);
  own_sure : is_answered_too_often v.host.wait ≡ false;
  unborn : v.peer.began ≡ false → awaits_reply v.peer.wait ≡ false;
  alone : v.peer.began ≡ false → v.host.began ≡ true → awaits_reply v.host.wait ≡ true;
}

-- ---- the host sends

pub record Sent (k : Phase) (u : List Command) (v now : View) : Type 0 where
  pub beside : Beside (record k { waiting = u }) now
  pub less : awaits_reply now.peer.wait ≡ true → awaits_reply v.peer.wait ≡ true
  pub began : now.peer.began ≡ v.peer.began

rst_sent : (me : ℕ) (busy : Option ℕ) (zero : Bool) (u : List Command) (k : Phase) (v : View) → Beside (record k { waiting = Command.Rst ∷ u }) v → Sent k u v (view_after_reset (record { by = me; sent = true; busy = busy; zero = zero }) v)
rst_sent me busy zero u k v b = record { beside = grind arith; less = grind arith; began = grind arith }

rrp_sent : (me : ℕ) (busy : Option ℕ) (zero : Bool) (u : List Command) (k : Phase) (v : View) → Beside (record k { waiting = Command.Rrp ∷ u }) v → Sent k u v (view_after_reply (record { by = me; sent = true; busy = busy; zero = zero }) v)
rrp_sent me busy zero u k v b = record { beside = grind arith; less = grind arith; began = grind arith }

other_sent : (me : ℕ) (busy : Option ℕ) (zero : Bool) (what : ItemKind) (c : Command) (u : List Command) (k : Phase) (v : View) → is_rst c ≡ false → is_rrp c ≡ false → Beside (record k { waiting = c ∷ u }) v → Sent k u v (after_thing (record { by = me; sent = true; busy = busy; zero = zero }) what v)
other_sent me busy zero what c u k v r s b =
    let w : bit (awaits_reply v.peer.wait) ≡ bit k.owe + rrps u = b.waits ∙ ap (λ (d : Bool). bit k.owe + (bit d + rrps u)) s ∙ (omega arith) in
    let z : v.peer.asked + rsts u ≡ bit k.wait = sym (ap (λ (d : Bool). v.peer.asked + (bit d + rsts u)) r ∙ (omega arith)) ∙ b.asked in
    record { beside = record { told = b.told; waits = w; mandatory = b.mandatory; asked = z; own = b.own; own_sure = b.own_sure; unborn = b.unborn; alone = b.alone }; less = λ x. x; began = refl }

one_sent : (me : ℕ) (busy : Option ℕ) (zero : Bool) (c : Command) (u : List Command) (k : Phase) (v : View) → Beside (record k { waiting = c ∷ u }) v → Sent k u v (after_item (record { by = me; sent = true; busy = busy; zero = zero }) (Ok c) v)
one_sent me busy zero Command.Rst u k v b = rst_sent me busy zero u k v b
one_sent me busy zero Command.Rrp u k v b = rrp_sent me busy zero u k v b
one_sent me busy zero Command.Nop u k v b = other_sent me busy zero ItemKind.Nop Command.Nop u k v refl refl b
one_sent me busy zero (Command.Rts x y z) u k v b = other_sent me busy zero ItemKind.Rts (Command.Rts x y z) u k v refl refl b
one_sent me busy zero (Command.Str x y z) u k v b = other_sent me busy zero ItemKind.Str (Command.Str x y z) u k v refl refl b
one_sent me busy zero (Command.Cls x y) u k v b = other_sent me busy zero ItemKind.Cls (Command.Cls x y) u k v refl refl b
one_sent me busy zero (Command.All x y z) u k v b = other_sent me busy zero ItemKind.All (Command.All x y z) u k v refl refl b
one_sent me busy zero (Command.Gvb x y z) u k v b = other_sent me busy zero ItemKind.Gvb (Command.Gvb x y z) u k v refl refl b
one_sent me busy zero (Command.Ret x y z) u k v b = other_sent me busy zero ItemKind.Ret (Command.Ret x y z) u k v refl refl b
one_sent me busy zero (Command.Inr x) u k v b = other_sent me busy zero ItemKind.Inr (Command.Inr x) u k v refl refl b
one_sent me busy zero (Command.Ins x) u k v b = other_sent me busy zero ItemKind.Ins (Command.Ins x) u k v refl refl b
one_sent me busy zero (Command.Eco x) u k v b = other_sent me busy zero ItemKind.Eco (Command.Eco x) u k v refl refl b
one_sent me busy zero (Command.Erp x) u k v b = other_sent me busy zero ItemKind.Erp (Command.Erp x) u k v refl refl b
one_sent me busy zero (Command.Err x y) u k v b = other_sent me busy zero ItemKind.Err (Command.Err x y) u k v refl refl b

pub all_sent : (me : ℕ) (busy : Option ℕ) (zero : Bool) (cs rest : List Command) (k : Phase) (v : View) → Beside (record k { waiting = cs ++ rest }) v
    → Sent k rest v (after_items (record { by = me; sent = true; busy = busy; zero = zero }) (items_of cs None) v)
all_sent me busy zero [] rest k v b = record { beside = b; less = λ x. x; began = refl }
all_sent me busy zero (c ∷ cs) rest k v b =
    let one = one_sent me busy zero c (cs ++ rest) k v b in
    let more = all_sent me busy zero cs rest k (after_item (record { by = me; sent = true; busy = busy; zero = zero }) (Ok c) v) one.beside in
    record { beside = more.beside; less = λ x. one.less (more.less x); began = more.began ∙ one.began }

-- ---- the peer is heard

pub record Heard (h : Phase) (x u : List Command) (v now : View) (found : List Finding) : Type 0 where
  pub none : found ≡ []
  pub within : Within h x u now
  pub began : now.peer.began ≡ true
  pub host : now.host.began ≡ v.host.began
  pub calm : awaits_reply now.peer.wait ≡ true → others u ≡ []
  pub still : after_rst u ≡ []

rst_none : (n : ℕ) (busy : Option ℕ) (zero : Bool) (h : Phase) (x u : List Command) (v : View) → Within h x (Command.Rst ∷ u) v → reset_findings (record { by = n; sent = false; busy = busy; zero = zero }) v ≡ []
rst_none n busy zero h x u v w = grind arith

rst_within : (n : ℕ) (busy : Option ℕ) (zero : Bool) (h : Phase) (x u : List Command) (v : View) → Within h x (Command.Rst ∷ u) v → Within h x u (view_after_reset (record { by = n; sent = false; busy = busy; zero = zero }) v)
rst_within n busy zero h x u v w = grind arith

rst_began : (n : ℕ) (busy : Option ℕ) (zero : Bool) (v : View) → v.told ≡ true → (view_after_reset (record { by = n; sent = false; busy = busy; zero = zero }) v).peer.began ≡ true
rst_began n busy zero v t = grind arith

rst_host : (n : ℕ) (busy : Option ℕ) (zero : Bool) (v : View) → (view_after_reset (record { by = n; sent = false; busy = busy; zero = zero }) v).host.began ≡ v.host.began
rst_host n busy zero v = grind arith

rst_heard : (n : ℕ) (busy : Option ℕ) (zero : Bool) (h : Phase) (x u : List Command) (v : View) → Within h x (Command.Rst ∷ u) v → after_rst (Command.Rst ∷ u) ≡ []
    → Heard h x u v (view_after_reset (record { by = n; sent = false; busy = busy; zero = zero }) v) (reset_findings (record { by = n; sent = false; busy = busy; zero = zero }) v)
rst_heard n busy zero h x u v w s = record { none = rst_none n busy zero h x u v w; within = rst_within n busy zero h x u v w; began = rst_began n busy zero v w.told; host = rst_host n busy zero v; calm = λ y. s; still = after_rst-calm u s }

rrp_none : (n : ℕ) (busy : Option ℕ) (zero : Bool) (h : Phase) (x u : List Command) (v : View) → Within h x (Command.Rrp ∷ u) v → reply_findings (record { by = n; sent = false; busy = busy; zero = zero }) v ≡ []
rrp_none n busy zero h x u v w = grind arith

rrp_within : (n : ℕ) (busy : Option ℕ) (zero : Bool) (h : Phase) (x u : List Command) (v : View) → Within h x (Command.Rrp ∷ u) v → Within h x u (view_after_reply (record { by = n; sent = false; busy = busy; zero = zero }) v)
rrp_within n busy zero h x u v w = grind arith

rrp_began : (n : ℕ) (busy : Option ℕ) (zero : Bool) (v : View) → v.told ≡ true → (view_after_reply (record { by = n; sent = false; busy = busy; zero = zero }) v).peer.began ≡ true
rrp_began n busy zero v t = grind arith

rrp_host : (n : ℕ) (busy : Option ℕ) (zero : Bool) (v : View) → (view_after_reply (record { by = n; sent = false; busy = busy; zero = zero }) v).host.began ≡ v.host.began
rrp_host n busy zero v = grind arith

rrp_same : (n : ℕ) (busy : Option ℕ) (zero : Bool) (v : View) → v.told ≡ true → (view_after_reply (record { by = n; sent = false; busy = busy; zero = zero }) v).peer.wait ≡ v.peer.wait
rrp_same n busy zero v t = grind arith

rrp_heard : (n : ℕ) (busy : Option ℕ) (zero : Bool) (h : Phase) (x u : List Command) (v : View) → Within h x (Command.Rrp ∷ u) v → after_rst (Command.Rrp ∷ u) ≡ [] → (awaits_reply v.peer.wait ≡ true → others (Command.Rrp ∷ u) ≡ [])
    → Heard h x u v (view_after_reply (record { by = n; sent = false; busy = busy; zero = zero }) v) (reply_findings (record { by = n; sent = false; busy = busy; zero = zero }) v)
rrp_heard n busy zero h x u v w s c = record {
  none = rrp_none n busy zero h x u v w;
  within = rrp_within n busy zero h x u v w;
  began = rrp_began n busy zero v w.told;
  host = rrp_host n busy zero v;
  calm = λ y. c (sym (ap awaits_reply (rrp_same n busy zero v w.told)) ∙ y);
  still = s;
}

-- what is neither comes in time
pub in_time : (n : ℕ) (busy : Option ℕ) (zero : Bool) (what : ItemKind) (v : View) → v.peer.began ≡ true → awaits_reply v.peer.wait ≡ false → early_finding (record { by = n; sent = false; busy = busy; zero = zero }) what v ≡ None
in_time n busy zero what v b w = go v.told late
  where
    late : is_early (record { by = n; sent = false; busy = busy; zero = zero }) what v ≡ false
    late = rw (b, w) refl

    go : (t : Bool) → is_early (record { by = n; sent = false; busy = busy; zero = zero }) what v ≡ false
        → (if not t || not (is_early (record { by = n; sent = false; busy = busy; zero = zero }) what v) then None else Some (by_host n (early_rule (record { by = n; sent = false; busy = busy; zero = zero }) what v))) ≡ None
    go true e = rw e refl
    go false e = refl

wait_false : (b : Bool) → (b ≡ true → ⊥) → b ≡ false
wait_false true f = absurd (f refl)
wait_false false f = refl

other_heard : (n : ℕ) (busy : Option ℕ) (zero : Bool) (what : ItemKind) (c : Command) (h : Phase) (x u : List Command) (v : View) → is_rst c ≡ false → is_rrp c ≡ false → Within h x (c ∷ u) v → after_rst (c ∷ u) ≡ [] → (awaits_reply v.peer.wait ≡ true → others (c ∷ u) ≡ []) → v.peer.began ≡ true
    → Heard h x u v (after_thing (record { by = n; sent = false; busy = busy; zero = zero }) what v) (option_to_list (early_finding (record { by = n; sent = false; busy = busy; zero = zero }) what v))
other_heard n busy zero what c h x u v r s w still calm b = record {
  none = ap option_to_list (in_time n busy zero what v b waits);
  within = record {
    told = w.told;
    waits = sym (ap (λ (d : Bool). bit (awaits_reply v.peer.wait) + (bit d + rsts u) + rrps x) r ∙ (omega arith)) ∙ w.waits;
    mandatory = w.mandatory;
    asked = w.asked ∙ ap (λ (d : Bool). rsts x + bit h.owe + (bit d + rrps u)) s ∙ (omega arith);
    own = w.own;
    own_sure = w.own_sure;
    unborn = w.unborn;
    alone = w.alone;
  };
  began = b;
  host = refl;
  calm = λ y. absurd (busy_other y);
  still = sym (ap (λ (d : Bool). if d then others u else after_rst u) r) ∙ still;
}
  where
    is_an_other : is_other c ≡ true
    is_an_other = ap (λ (d : Bool). not (d || is_rrp c)) r ∙ ap not s

    busy_other : awaits_reply v.peer.wait ≡ true → ⊥
    busy_other y = let none : c ∷ others u ≡ [] = sym (ap (λ (d : Bool). if d then c ∷ others u else others u) is_an_other) ∙ calm y in absurd (cc none)

    waits : awaits_reply v.peer.wait ≡ false
    waits = wait_false (awaits_reply v.peer.wait) busy_other

-- the first of these is an RST or an RRP
abbrev pub starts : List Command → Bool
starts [] = true
starts (c ∷ u) = is_reset c

born : (b r : Bool) → (b ≡ false → r ≡ true) → r ≡ false → b ≡ true
born true r f e = refl
born false r f e = let nay : false ≡ true = sym e ∙ f refl in absurd (cc)

one_heard : (n : ℕ) (busy : Option ℕ) (zero : Bool) (c : Command) (h : Phase) (x u : List Command) (v : View) → Within h x (c ∷ u) v → after_rst (c ∷ u) ≡ [] → (awaits_reply v.peer.wait ≡ true → others (c ∷ u) ≡ []) → (v.peer.began ≡ false → is_reset c ≡ true)
    → Heard h x u v (after_item (record { by = n; sent = false; busy = busy; zero = zero }) (Ok c) v) (item_findings (record { by = n; sent = false; busy = busy; zero = zero }) (Ok c) v)
one_heard n busy zero Command.Rst h x u v w s c o = rst_heard n busy zero h x u v w s
one_heard n busy zero Command.Rrp h x u v w s c o = rrp_heard n busy zero h x u v w s c
one_heard n busy zero Command.Nop h x u v w s c o = other_heard n busy zero ItemKind.Nop Command.Nop h x u v refl refl w s c (born v.peer.began false o refl)
one_heard n busy zero (Command.Rts i j k) h x u v w s c o = other_heard n busy zero ItemKind.Rts (Command.Rts i j k) h x u v refl refl w s c (born v.peer.began false o refl)
one_heard n busy zero (Command.Str i j k) h x u v w s c o = other_heard n busy zero ItemKind.Str (Command.Str i j k) h x u v refl refl w s c (born v.peer.began false o refl)
one_heard n busy zero (Command.Cls i j) h x u v w s c o = other_heard n busy zero ItemKind.Cls (Command.Cls i j) h x u v refl refl w s c (born v.peer.began false o refl)
one_heard n busy zero (Command.All i j k) h x u v w s c o = other_heard n busy zero ItemKind.All (Command.All i j k) h x u v refl refl w s c (born v.peer.began false o refl)
one_heard n busy zero (Command.Gvb i j k) h x u v w s c o = other_heard n busy zero ItemKind.Gvb (Command.Gvb i j k) h x u v refl refl w s c (born v.peer.began false o refl)
one_heard n busy zero (Command.Ret i j k) h x u v w s c o = other_heard n busy zero ItemKind.Ret (Command.Ret i j k) h x u v refl refl w s c (born v.peer.began false o refl)
one_heard n busy zero (Command.Inr i) h x u v w s c o = other_heard n busy zero ItemKind.Inr (Command.Inr i) h x u v refl refl w s c (born v.peer.began false o refl)
one_heard n busy zero (Command.Ins i) h x u v w s c o = other_heard n busy zero ItemKind.Ins (Command.Ins i) h x u v refl refl w s c (born v.peer.began false o refl)
one_heard n busy zero (Command.Eco i) h x u v w s c o = other_heard n busy zero ItemKind.Eco (Command.Eco i) h x u v refl refl w s c (born v.peer.began false o refl)
one_heard n busy zero (Command.Erp i) h x u v w s c o = other_heard n busy zero ItemKind.Erp (Command.Erp i) h x u v refl refl w s c (born v.peer.began false o refl)
one_heard n busy zero (Command.Err i j) h x u v w s c o = other_heard n busy zero ItemKind.Err (Command.Err i j) h x u v refl refl w s c (born v.peer.began false o refl)

pub record AllHeard (cs : List Command) (h : Phase) (x rest : List Command) (v now : View) (found : List Finding) : Type 0 where
  pub none : found ≡ []
  pub within : Within h x rest now
  pub stays : v.peer.began ≡ true → now.peer.began ≡ true
  pub host : now.host.began ≡ v.host.began
  pub empty : now.peer.began ≡ false → cs ≡ []

pub all_heard : (n : ℕ) (busy : Option ℕ) (zero : Bool) (cs rest : List Command) (h : Phase) (x : List Command) (v : View) → Within h x (cs ++ rest) v → after_rst (cs ++ rest) ≡ [] → (awaits_reply v.peer.wait ≡ true → others (cs ++ rest) ≡ []) → (v.peer.began ≡ false → starts cs ≡ true)
    → AllHeard cs h x rest v (after_items (record { by = n; sent = false; busy = busy; zero = zero }) (items_of cs None) v) (items_findings (record { by = n; sent = false; busy = busy; zero = zero }) (items_of cs None) v)
all_heard n busy zero [] rest h x v w s c o = record { none = refl; within = w; stays = λ y. y; host = refl; empty = λ y. refl }
all_heard n busy zero (d ∷ cs) rest h x v w s c o =
    let now : View = after_item (record { by = n; sent = false; busy = busy; zero = zero }) (Ok d) v in
    let one = one_heard n busy zero d h x (cs ++ rest) v w s c o in
    let more = all_heard n busy zero cs rest h x now one.within one.still one.calm (λ y. let nay : true ≡ false = sym one.began ∙ y in absurd (cc)) in
    record {
      none = ap (λ (xs : List Finding). xs ++ items_findings (record { by = n; sent = false; busy = busy; zero = zero }) (items_of cs None) now) one.none ∙ more.none;
      within = more.within;
      stays = λ y. more.stays one.began;
      host = more.host ∙ one.host;
      empty = λ y. let nay : true ≡ false = sym (more.stays one.began) ∙ y in absurd (cc);
    }
