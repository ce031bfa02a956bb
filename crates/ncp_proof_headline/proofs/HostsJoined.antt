-- Meant for other crates too: they cite what is public here.
--
-- Two hosts, what is on the two lines between them, and the machines of their connections: the steps
-- of one host's phase keep them joined.
use Rattle.std.proofs.Common.{◌≡◌, ℕ, ◌<◌, Bool, true, false, not, ◌||◌, nat_lt, if◌then◌else◌, List, [], ◌∷◌, ◌++◌, None, refl, sym, ap, ◌∙◌, subst, arith}
use Rattle.std.specs.List.{list_any}
use Rattle.std.proofs.lemmas.Bool.{both_ways, and_parts, cond_both}
use Rattle.std.proofs.lemmas.List.{append-nil, append_assoc}
use Rattle.ncp_wire.specs.declared.command.Command.{Command}
use Rattle.ncp_wire.specs.declared.command.Command.TheVariants.{Rst, Rrp}
use Rattle.ncp_model.specs.Ends.{Ends, no_ends}
use Rattle.ncp_model.specs.Phase.{Phase, is_rst, is_rrp, is_other, phase_answers, phase_asks, is_resetting, wants_reset, owes_answer, queued, has_room_for_one}
use Rattle.ncp_proof_machine.specs.Resets.{ResetHost, is_up, anew, host_resets, host_settles, host_falls, host_makes, host_makes_all}
use Rattle.ncp_model.specs.Echo.{Echoes}
use Rattle.ncp_proof_machine.specs.Hosts.{Node, quiet, node_cleared, node_kept, node_calls_reset, node_settles, node_hears}
use Rattle.ncp_model.proofs.ResetLists.{rsts, rrps, purged, rrps-append, rsts-append, any-rrps, any-rsts}
use Rattle.ncp_proof_machine.proofs.ResetKept.{Kept, counterpart, falling, wanting, answering, asking, owing, heard_rrp, made_up}
use Rattle.ncp_proof_headline.proofs.Lives.{live, behind, alive, Cut, after_new, live_rst, live_cut, rrps_cut, live_more, owed, live_none}
use Rattle.ncp_proof_headline.proofs.Ties.{Owners, Ties, ties-counterpart}
use Rattle.ncp_proof_headline.proofs.TiesClear.{ties-to, ties-clear, ties-fresh, quiet-owns-none}

-- what of n's commands is live on its way to m, where x is on the line
abbrev pub lives : Node → Node → List Command → List Command
lives n m x = live m.host.phase.wait (x ++ n.host.phase.waiting)

-- whether n is alive, where y is on the line from m
abbrev pub is_alive : Node → Node → List Command → Bool
is_alive n m y = alive n.host (rrps (y ++ m.host.phase.waiting))

abbrev pub Whole : Owners → Node → Type 0
Whole own n = record {
  none : is_up n.host ≡ false → n.ends ≡ no_ends;
  quiet : n.host.phase.wait ≡ true → (on : ℕ) → own on ≡ None;
  safe : n.violated ≡ false;
}

abbrev pub Joined : Owners → Owners → Node → Node → List Command → List Command → Type 0
Joined own own' n m x y = record {
  kept : Kept n.host m.host x y;
  ties : Ties (is_alive n m y) (is_alive m n x) own own' n m (lives n m x) (lives m n y);
  this : Whole own n;
  that : Whole own' m;
}

pub joined-counterpart : (own own' : Owners) (n m : Node) (x y : List Command) → Joined own own' n m x y → Joined own' own m n y x
joined-counterpart own own' n m x y k = record {
  kept = counterpart n.host m.host x y k.kept;
  ties = ties-counterpart (is_alive n m y) (is_alive m n x) own own' n m (lives n m x) (lives m n y) k.ties;
  this = k.that;
  that = k.this;
}

-- Flags.

pub up_alive : (h : ResetHost) (c : ℕ) → is_up h ≡ true → alive h c ≡ true
up_alive h c e = grind arith

pub up_waits : (h : ResetHost) → is_up h ≡ true → h.phase.wait ≡ false
up_waits h e = grind arith

pub not_up_wait : (h : ResetHost) → h.phase.wait ≡ true → is_up h ≡ false
not_up_wait h e = grind arith

not_up_owe : (h : ResetHost) → h.phase.owe ≡ true → is_up h ≡ false
not_up_owe h e = grind arith

not_up_want : (h : ResetHost) → h.phase.want ≡ true → is_up h ≡ false
not_up_want h e = grind arith

pub not_alive : (h : ResetHost) (c : ℕ) → is_up h ≡ false → h.phase.wait ≡ false → alive h c ≡ false
not_alive h c e w = grind arith

dead : (h : ResetHost) (c : ℕ) → not (h.phase.down || h.phase.want || h.phase.owe) ≡ false → alive h c ≡ false
dead h c e = rw e refl

owe_dead : (h : ResetHost) (c : ℕ) → h.phase.owe ≡ true → alive h c ≡ false
owe_dead h c e = grind arith

want_dead : (h : ResetHost) (c : ℕ) → h.phase.want ≡ true → alive h c ≡ false
want_dead h c e = grind arith

wait_dead : (h : ResetHost) (c : ℕ) → h.phase.wait ≡ true → c ≡ 0 → alive h c ≡ false
wait_dead h c e z = grind (arith, e, z)

-- Clearings.

-- n becomes h, which lost the ends and what waited
clears_from : (own own' : Owners) (n m : Node) (x y : List Command) (a : Bool) (u v : List Command) (h : ResetHost) → h.phase.waiting ≡ purged n.host.phase.waiting → not (h.phase.down || h.phase.want || h.phase.owe) ≡ false → h.phase.wait ≡ n.host.phase.wait
    → Kept h m.host x y → Cut (live m.host.phase.wait (x ++ purged n.host.phase.waiting)) u → Ties a (is_alive m n x) own own' n m u v → Whole own n → Whole own' m → Joined own own' (node_cleared h n) m x y
clears_from own own' n m x y a u v h q r w kept cut ties this that = record {
  kept = kept;
  ties = subst (λ (c : Bool). Ties c (alive m.host (rrps (x ++ h.phase.waiting))) own own' (record n { ends = no_ends }) m (live m.host.phase.wait (x ++ h.phase.waiting)) v') (sym (dead h (rrps (y ++ m.host.phase.waiting)) r))
      (subst (λ (l : List Command). Ties false (alive m.host (rrps (x ++ l))) own own' (record n { ends = no_ends }) m (live m.host.phase.wait (x ++ l)) v') (sym q)
      (subst (λ (c : ℕ). Ties false (alive m.host c) own own' (record n { ends = no_ends }) m (live m.host.phase.wait (x ++ purged n.host.phase.waiting)) v') (sym (rrps_cut x n.host.phase.waiting))
      (ties-clear a (is_alive m n x) own own' n m u v (live m.host.phase.wait (x ++ purged n.host.phase.waiting)) v' cut ties)));
  this = record { none = λ e. refl; quiet = λ e. this.quiet (sym w ∙ e); safe = this.safe };
  that = that;
}
  where
    v' : List Command
    v' = live h.phase.wait (y ++ m.host.phase.waiting)

pub clears : (own own' : Owners) (n m : Node) (x y y' : List Command) (h : ResetHost) → h.phase.waiting ≡ purged n.host.phase.waiting → not (h.phase.down || h.phase.want || h.phase.owe) ≡ false → h.phase.wait ≡ n.host.phase.wait → Kept h m.host x y' → Joined own own' n m x y → Joined own own' (node_cleared h n) m x y'
clears own own' n m x y y' h q r w kept k =
    clears_from own own' n m x y' (is_alive n m y) (lives n m x) (lives m n y) h q r w kept (live_cut m.host.phase.wait x n.host.phase.waiting) k.ties k.this k.that

-- RRP and RST.

none-any : (q : List Command) → rrps q ≡ 0 → list_any is_rrp q ≡ false
none-any q e = grind (arith, any-rrps, e)

rrp_lives : (x q : List Command) → rrps (x ++ q) ≡ 0 → behind (x ++ (if list_any is_rrp q then q else q ++ Rrp ∷ [])) ≡ []
rrp_lives x q p = let z : rrps q ≡ 0 = omega (arith, rrps-append x q, p) in rw (none-any q z, sym (append_assoc x q (Rrp ∷ []))) (after_new (x ++ q) p)

abbrev with_phase : Phase → Node → Node
with_phase p n = record n { host = record n.host { phase = p } }

abbrev answered : Phase → Phase
answered p = record p { down = false; owe = false; waiting = if list_any is_rrp p.waiting then p.waiting else p.waiting ++ Rrp ∷ [] }

abbrev asked : Phase → Phase
asked p = record p { down = false; want = false; wait = true; waiting = if list_any is_rst p.waiting then p.waiting else p.waiting ++ Rst ∷ [] }

module _ (own own' : Owners) (n m : Node) (x y : List Command) where
  answers-made : ((on : ℕ) → own on ≡ None) → n.host.phase.owe ≡ true → Joined own own' n m x y → Joined own own' (with_phase (answered n.host.phase) n) m x y
  answers-made t e k = record {
    kept = subst (λ (b : Bool). Kept (record n.host { phase = if b then answered n.host.phase else n.host.phase }) m.host x y) e (answering n.host m.host x y k.kept);
    ties = go (alive h (rrps (y ++ m.host.phase.waiting))) refl;
    this = record { none = λ f. k.this.none (not_up_owe n.host e); quiet = λ _. t; safe = k.this.safe };
    that = k.that;
  }
    where
      h : ResetHost
      h = record n.host { phase = answered n.host.phase }

      due : (m.host.phase.wait ≡ true) × (rrps (x ++ n.host.phase.waiting) ≡ 0) × (rsts (y ++ m.host.phase.waiting) ≡ 0)
      due = owed n.host m.host x y k.kept e

      there : live m.host.phase.wait (x ++ h.phase.waiting) ≡ []
      there = rw (due.0) (rrp_lives x n.host.phase.waiting due.1)

      neither : Ties false false own own' n m (lives n m x) (lives m n y)
      neither = subst (λ (a : Bool). Ties a false own own' n m (lives n m x) (lives m n y)) (owe_dead n.host (rrps (y ++ m.host.phase.waiting)) e)
          (subst (λ (b : Bool). Ties (is_alive n m y) b own own' n m (lives n m x) (lives m n y)) (wait_dead m.host (rrps (x ++ n.host.phase.waiting)) due.0 due.1) k.ties)

      new : (a : Bool) (v : List Command) → (a ≡ true → [] ≡ v) → Ties a (alive m.host (rrps (x ++ h.phase.waiting))) own own' n m (live m.host.phase.wait (x ++ h.phase.waiting)) v
      new a v f = ties-to a (alive m.host (rrps (x ++ h.phase.waiting))) own own' n m [] [] (live m.host.phase.wait (x ++ h.phase.waiting)) v (λ _. sym there) f
          (ties-fresh a (alive m.host (rrps (x ++ h.phase.waiting))) own own' n m (lives n m x) (lives m n y) (k.this.none (not_up_owe n.host e)) (k.that.none (not_up_wait m.host due.0)) t (k.that.quiet due.0) neither)

      go : (a : Bool) → alive h (rrps (y ++ m.host.phase.waiting)) ≡ a → Ties a (alive m.host (rrps (x ++ h.phase.waiting))) own own' n m (live m.host.phase.wait (x ++ h.phase.waiting)) (live n.host.phase.wait (y ++ m.host.phase.waiting))
      go true f = new true (live n.host.phase.wait (y ++ m.host.phase.waiting)) (λ _. sym (live_none n.host m.host x y k.kept due.0 due.2 (and_parts (not (false || n.host.phase.want || false)) (not n.host.phase.wait || nat_lt 0 (rrps (y ++ m.host.phase.waiting))) f).1))
      go false f = new false (live n.host.phase.wait (y ++ m.host.phase.waiting)) (λ z. absurd (cc z))

  answers-keeps : ((on : ℕ) → own on ≡ None) → Joined own own' n m x y → Joined own own' (with_phase (phase_answers n.host.phase) n) m x y
  answers-keeps t k = cond_both n.host.phase.owe (answered n.host.phase) n.host.phase (λ (p : Phase). Joined own own' (with_phase p n) m x y) (λ e. answers-made t e k) (λ e. k)

  rst_same : (w : Bool) (x q : List Command) → (live w (x ++ (if list_any is_rst q then q else q ++ Rst ∷ [])) ≡ live w (x ++ q)) × (rrps (x ++ (if list_any is_rst q then q else q ++ Rst ∷ [])) ≡ rrps (x ++ q))
  rst_same w x q = cond_both (list_any is_rst q) q (q ++ Rst ∷ []) (λ (l : List Command). (live w (x ++ l) ≡ live w (x ++ q)) × (rrps (x ++ l) ≡ rrps (x ++ q)))
      (λ e. (refl, refl))
      (λ e. (rw (sym (append_assoc x q (Rst ∷ []))) (live_rst w (x ++ q)), grind (arith, rrps-append)))

  rst_there : (x q : List Command) → 0 < rsts (x ++ (if list_any is_rst q then q else q ++ Rst ∷ []))
  rst_there x q = grind (arith, rsts-append, any-rsts)

  asks-made : ((on : ℕ) → own on ≡ None) → n.host.phase.want ≡ true → Joined own own' n m x y → Joined own own' (with_phase (asked n.host.phase) n) m x y
  asks-made t e k = record {
    kept = now_kept;
    ties = subst (λ (a : Bool). Ties a (alive m.host (rrps (x ++ h.phase.waiting))) own own' n m (live m.host.phase.wait (x ++ h.phase.waiting)) (live true (y ++ m.host.phase.waiting))) (sym now)
        (subst (λ (l : List Command). Ties false (alive m.host (rrps (x ++ h.phase.waiting))) own own' n m l (live true (y ++ m.host.phase.waiting))) (sym (rst_same m.host.phase.wait x n.host.phase.waiting).0)
        (subst (λ (c : ℕ). Ties false (alive m.host c) own own' n m (lives n m x) (live true (y ++ m.host.phase.waiting))) (sym (rst_same m.host.phase.wait x n.host.phase.waiting).1)
        (ties-to false (is_alive m n x) own own' n m (lives n m x) (lives m n y) (lives n m x) (live true (y ++ m.host.phase.waiting)) (λ _. refl) (λ z. absurd (cc z))
        (subst (λ (a : Bool). Ties a (is_alive m n x) own own' n m (lives n m x) (lives m n y)) (want_dead n.host (rrps (y ++ m.host.phase.waiting)) e) k.ties))));
    this = record { none = λ f. k.this.none (not_up_want n.host e); quiet = λ f. t; safe = k.this.safe };
    that = k.that;
  }
    where
      h : ResetHost
      h = record n.host { phase = asked n.host.phase }

      now_kept : Kept h m.host x y
      now_kept = subst (λ (b : Bool). Kept (record n.host { phase = if b then asked n.host.phase else n.host.phase }) m.host x y) e (asking n.host m.host x y k.kept)

      none : rrps (y ++ m.host.phase.waiting) ≡ 0
      none = omega (arith, now_kept.there.count, rst_there x n.host.phase.waiting)

      now : alive h (rrps (y ++ m.host.phase.waiting)) ≡ false
      now = grind (arith, none)

  asks-keeps : ((on : ℕ) → own on ≡ None) → Joined own own' n m x y → Joined own own' (with_phase (phase_asks n.host.phase) n) m x y
  asks-keeps t k = cond_both n.host.phase.want (asked n.host.phase) n.host.phase (λ (p : Phase). Joined own own' (with_phase p n) m x y) (λ e. asks-made t e k) (λ e. k)

pub settles-keeps : (own own' : Owners) (n m : Node) (x y : List Command) → Joined own own' n m x y → Joined own own' (node_settles n) m x y
settles-keeps own own' n m x y k = cond_both (quiet n) (phase_asks (phase_answers n.host.phase)) n.host.phase (λ (p : Phase). Joined own own' (with_phase p n) m x y)
    (λ e. let t = quiet-owns-none n own k.ties.g.text e k.ties.there.texts in asks-keeps own own' (with_phase (phase_answers n.host.phase) n) m x y t (answers-keeps own own' n m x y t k))
    (λ e. k)

-- The host resets, and goes down.

pub resets-keeps : (own own' : Owners) (n m : Node) (x y : List Command) → Joined own own' n m x y → Joined own own' (node_calls_reset n) m x y
resets-keeps own own' n m x y k = cond_both (is_resetting n.host.phase) n (node_cleared (host_resets (quiet n) n.host) n) (λ (o : Node). Joined own own' o m x y) (λ e. k)
    (λ e. subst (λ (h : ResetHost). Joined own own' (node_cleared h n) m x y) (sym (becomes e))
    (settles-keeps own own' (node_cleared (anew (wants_reset n.host.phase)) n) m x y
    (clears own own' n m x y y (anew (wants_reset n.host.phase)) refl (grind arith) refl (wanting n.host m.host x y (grind arith) (grind arith) k.kept) k)))
  where
    becomes : is_resetting n.host.phase ≡ false → host_resets (quiet n) n.host ≡ host_settles (quiet n) (anew (wants_reset n.host.phase))
    becomes e = rw e refl

pub falls-keeps : (own own' : Owners) (n m : Node) (x y : List Command) → Joined own own' n m x y → Joined own own' (node_cleared (host_falls n.host) n) m x y
falls-keeps own own' n m x y k = clears own own' n m x y y (host_falls n.host) refl refl refl (falling n.host m.host x y k.kept) k

pub hears_rst-keeps : (own own' : Owners) (n m : Node) (x y : List Command) → Joined own own' n m x (Rst ∷ y) → Joined own own' (node_hears Rst n) m x y
hears_rst-keeps own own' n m x y k =
    settles-keeps own own' (node_cleared (anew (owes_answer n.host.phase)) n) m x y
    (clears own own' n m x (Rst ∷ y) y (anew (owes_answer n.host.phase)) refl (grind arith) refl (owing n.host m.host x y k.kept) k)

pub hears_rrp-keeps : (own own' : Owners) (n m : Node) (x y : List Command) → Joined own own' n m x (Rrp ∷ y) → Joined own own' (node_hears Rrp n) m x y
hears_rrp-keeps own own' n m x y k = record {
  kept = heard_rrp n.host m.host x y k.kept;
  ties = subst (λ (a : Bool). Ties a (is_alive m n x) own own' n m (lives n m x) (live false (y ++ m.host.phase.waiting))) same
      (subst (λ (w : Bool). Ties (is_alive n m (Rrp ∷ y)) (is_alive m n x) own own' n m (lives n m x) (live w (Rrp ∷ (y ++ m.host.phase.waiting)))) waits k.ties);
  this = record { none = λ e. k.this.none (not_up_wait n.host waits); quiet = λ e. absurd (both_ways false refl e); safe = k.this.safe };
  that = k.that;
}
  where
    waits : n.host.phase.wait ≡ true
    waits = grind (arith, k.kept.there.count)

    same : is_alive n m (Rrp ∷ y) ≡ alive (record n.host { phase = record n.host.phase { wait = false } }) (rrps (y ++ m.host.phase.waiting))
    same = grind (arith, waits)

-- Commands are made.

abbrev pub AllOther : List Command → Type 0
AllOther [] = Unit {0}
AllOther (c ∷ cs) = (is_other c ≡ true) × AllOther cs

down_makes : (cs : List Command) (h : ResetHost) → is_up h ≡ false → host_makes_all cs h ≡ h
down_makes [] h e = refl
down_makes (c ∷ cs) h e = let same : host_makes c h ≡ h = rw e refl in ap (host_makes_all cs) same ∙ down_makes cs h e

-- the host after these commands, which has its ends if it is up
abbrev pub making : List Command → Echoes → Node → Node
making cs echoes n = record n { host = host_makes_all cs n.host; ends = node_kept (host_makes_all cs n.host) n.ends; echoes = echoes }

-- the ends are as after these commands, which are still to be made
pub pending : (cs : List Command) (echoes : Echoes) (own own' : Owners) (n m : Node) (x y : List Command) → AllOther cs → is_up n.host ≡ true → Kept n.host m.host x y
    → Ties (is_alive n m y) (is_alive m n x) own own' n m (lives n m x ++ cs) (lives m n y) → Whole own n → Whole own' m → Joined own own' (making cs echoes n) m x y
pending [] echoes own own' n m x y o e k ties this that = subst (λ (d : Ends). Joined own own' (record n { ends = d; echoes = echoes }) m x y) (sym up) (record {
  kept = k;
  ties = subst (λ (l : List Command). Ties (is_alive n m y) (is_alive m n x) own own' n m l (lives m n y)) (append-nil (lives n m x)) ties;
  this = this;
  that = that;
})
  where
    up : node_kept n.host n.ends ≡ n.ends
    up = rw e refl
pending (c ∷ cs) echoes own own' n m x y o e k ties this that = subst (λ (h : ResetHost). Joined own own' (record n { host = host_makes_all cs h; ends = node_kept (host_makes_all cs h) n.ends; echoes = echoes }) m x y) (sym first)
    (cond_both (has_room_for_one n.host.phase) made (host_falls n.host) (λ (h : ResetHost). Joined own own' (record n { host = host_makes_all cs h; ends = node_kept (host_makes_all cs h) n.ends; echoes = echoes }) m x y)
    (λ _. pending cs echoes own own' (record n { host = made }) m x y o.1 e (made_up n.host m.host x y c e o.0 k) after this that)
    (λ _. full))
  where
    made : ResetHost
    made = record n.host { phase = queued c n.host.phase; made = n.host.made ++ c ∷ [] }

    first : host_makes c n.host ≡ (if has_room_for_one n.host.phase then made else host_falls n.host)
    first = rw (e, o.0) refl

    count : rrps (x ++ (n.host.phase.waiting ++ c ∷ [])) ≡ rrps (x ++ n.host.phase.waiting)
    count = let q = o.0 in grind (arith, rrps-append, q)

    more : is_alive m n x ≡ true → lives n m x ++ (c ∷ cs) ≡ live m.host.phase.wait (x ++ (n.host.phase.waiting ++ c ∷ [])) ++ cs
    more b = sym (append_assoc (lives n m x) (c ∷ []) cs) ∙ ap (λ (l : List Command). l ++ cs) (sym (live_more n.host m.host x y k c o.0 e b))

    after : Ties (is_alive n m y) (alive m.host (rrps (x ++ (n.host.phase.waiting ++ c ∷ [])))) own own' n m (live m.host.phase.wait (x ++ (n.host.phase.waiting ++ c ∷ [])) ++ cs) (lives m n y)
    after = subst (λ (i : ℕ). Ties (is_alive n m y) (alive m.host i) own own' n m (live m.host.phase.wait (x ++ (n.host.phase.waiting ++ c ∷ [])) ++ cs) (lives m n y)) (sym count)
        (ties-to (is_alive n m y) (is_alive m n x) own own' n m (lives n m x ++ (c ∷ cs)) (lives m n y) (live m.host.phase.wait (x ++ (n.host.phase.waiting ++ c ∷ [])) ++ cs) (lives m n y) more (λ _. refl) ties)

    full : Joined own own' (record n { host = host_makes_all cs (host_falls n.host); ends = node_kept (host_makes_all cs (host_falls n.host)) n.ends; echoes = echoes }) m x y
    full =
        let cut = live_cut m.host.phase.wait x n.host.phase.waiting in
        subst (λ (h : ResetHost). Joined own own' (record n { host = h; ends = node_kept h n.ends; echoes = echoes }) m x y) (sym (down_makes cs (host_falls n.host) refl))
        (clears_from own own' n m x y (is_alive n m y) (lives n m x ++ (c ∷ cs)) (lives m n y) (host_falls n.host) refl refl refl (falling n.host m.host x y k)
        (cut.0 ++ (c ∷ cs), sym (append_assoc (live m.host.phase.wait (x ++ purged n.host.phase.waiting)) cut.0 (c ∷ cs)) ∙ ap (λ (l : List Command). l ++ (c ∷ cs)) cut.1) ties this that)
