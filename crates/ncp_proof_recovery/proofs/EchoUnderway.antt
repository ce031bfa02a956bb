-- A host that awaits an echo is up; and while its peer lives, the ECO or the ERP is underway.
use Rattle.std.proofs.Common.{◌≡◌, ℕ, ◌+◌, ◌<◌, Bool, true, false, not, ◌&&◌, ◌||◌, if◌then◌else◌, List, [], ◌∷◌, ◌++◌, take, drop, refl, sym, ap, ◌∙◌, subst, arith}
use Rattle.std.specs.List.{list_any}
use Rattle.std.proofs.lemmas.Bool.{both_ways, and_parts, cond_both}
use Rattle.std.proofs.lemmas.List.{take-append-drop}
use Rattle.ncp_wire.specs.declared.command.Command.{Command}
use Rattle.ncp_wire.specs.declared.command.Command.TheVariants.{Rst, Rrp, Eco, Erp}
use Rattle.ncp_model.specs.Phase.{Phase, is_rst, is_rrp, is_other, phase_answers, phase_asks, hears_rrp, has_room_for_one, queued}
use Rattle.ncp_model.proofs.ResetLists.{bit, rsts, rrps, rrps-append}
use Rattle.ncp_proof_machine.specs.Resets.{ResetHost, is_up, host_settles, host_falls, host_makes, host_makes_all}
use Rattle.ncp_proof_machine.proofs.ResetKept.{Kept, answering, making}
use Rattle.ncp_proof_headline.proofs.Lives.{live, alive, fronts_other, after_other, live_more, owed}
use Rattle.ncp_proof_headline.proofs.HostsJoined.{AllOther, up_alive, up_waits, not_up_wait, not_alive}

abbrev pub is_eco : Command → Bool
is_eco (Eco byte) = true
is_eco c = false

abbrev pub is_erp : Command → Bool
is_erp (Erp byte) = true
is_erp c = false

-- how many ECOs are among these, and how many ERPs
abbrev pub ecos : List Command → ℕ
ecos [] = 0
ecos (c ∷ u) = bit (is_eco c) + ecos u

abbrev pub erps : List Command → ℕ
erps [] = 0
erps (c ∷ u) = bit (is_erp c) + erps u

ecos-append : (u v : List Command) → ecos (u ++ v) ≡ ecos u + ecos v
ecos-append [] v = omega arith
ecos-append (c ∷ u) v = omega (arith, ecos-append u v)

erps-append : (u v : List Command) → erps (u ++ v) ≡ erps u + erps v
erps-append [] v = omega arith
erps-append (c ∷ u) v = omega (arith, erps-append u v)

-- h awaits an echo from k, where x and y are on the lines, and p more of them are about to be made
abbrev pub Awaits : ℕ → Bool → ResetHost → ResetHost → List Command → List Command → Type 0
Awaits p a h k x y =
    a ≡ true → alive k (rrps (x ++ h.phase.waiting)) ≡ true → 0 < p + ecos (live k.phase.wait (x ++ h.phase.waiting)) + erps (live h.phase.wait (y ++ k.phase.waiting))

abbrev pub Echoing : ℕ → ℕ → Bool → Bool → ResetHost → ResetHost → List Command → List Command → Type 0
Echoing p q a b h k x y = record {
  up : a ≡ true → is_up h ≡ true;
  up_too : b ≡ true → is_up k ≡ true;
  there : Awaits p a h k x y;
  back : Awaits q b k h y x;
}

pub echoing-counterpart : (a b : Bool) (h k : ResetHost) (x y : List Command) → Echoing 0 0 a b h k x y → Echoing 0 0 b a k h y x
echoing-counterpart a b h k x y r = record { up = r.up_too; up_too = r.up; there = r.back; back = r.there }

abbrev with_phase : ResetHost → Phase → ResetHost
with_phase h p = record h { phase = p }

-- A host that is cleared awaits none, and is not alive.
pub clears-echo : (b : Bool) (h k : ResetHost) (x y : List Command) → not (h.phase.down || h.phase.want || h.phase.owe) ≡ false → (b ≡ true → is_up k ≡ true) → Echoing 0 0 false b h k x y
clears-echo b h k x y d f = record {
  up = λ e. absurd (both_ways false refl e);
  up_too = f;
  there = λ e. absurd (both_ways false refl e);
  back = λ e g. absurd (both_ways (alive h (rrps (y ++ k.phase.waiting))) dead g);
}
  where
    dead : alive h (rrps (y ++ k.phase.waiting)) ≡ false
    dead = rw d refl

-- Settling: whoever owes an RRP or wants an RST is not up, nor is he that waits for it.

owes-not-up : (h : ResetHost) → h.phase.owe ≡ true → is_up h ≡ false
owes-not-up h e = grind arith

wants-not-up : (h : ResetHost) → h.phase.want ≡ true → is_up h ≡ false
wants-not-up h e = grind arith

waits-dead : (h : ResetHost) (c : ℕ) → h.phase.wait ≡ true → c ≡ 0 → alive h c ≡ false
waits-dead h c e z = grind (arith, e, z)

module _ (a b : Bool) (h k : ResetHost) (x y : List Command) where
  answers-echo : Kept h k x y → Echoing 0 0 a b h k x y → Echoing 0 0 a b (with_phase h (phase_answers h.phase)) k x y
  answers-echo p r = cond_both h.phase.owe new h.phase (λ (q : Phase). Echoing 0 0 a b (with_phase h q) k x y) made (λ _. r)
    where
      new : Phase
      new = record h.phase { down = false; owe = false; waiting = if list_any is_rrp h.phase.waiting then h.phase.waiting else h.phase.waiting ++ Rrp ∷ [] }

      made : h.phase.owe ≡ true → Echoing 0 0 a b (with_phase h new) k x y
      made e =
          let n = owes-not-up h e in
          let m = not_up_wait k (owed h k x y p e).0 in
          record {
            up = λ s. absurd (both_ways (is_up h) n (r.up s));
            up_too = r.up_too;
            there = λ s. absurd (both_ways (is_up h) n (r.up s));
            back = λ s. absurd (both_ways (is_up k) m (r.up_too s));
          }

  asks-echo : Kept h k x y → Echoing 0 0 a b h k x y → Echoing 0 0 a b (with_phase h (phase_asks h.phase)) k x y
  asks-echo p r = cond_both h.phase.want new h.phase (λ (q : Phase). Echoing 0 0 a b (with_phase h q) k x y) made (λ _. r)
    where
      new : Phase
      new = record h.phase { down = false; want = false; wait = true; waiting = if list_any is_rst h.phase.waiting then h.phase.waiting else h.phase.waiting ++ Rst ∷ [] }

      made : h.phase.want ≡ true → Echoing 0 0 a b (with_phase h new) k x y
      made e =
          let n = wants-not-up h e in
          let w : bit h.phase.wait ≡ 0 = ap bit (p.this.wants e) in
          let c = p.there.count in
          let z : rrps (y ++ k.phase.waiting) ≡ 0 = omega (arith, c, w) in
          record {
            up = λ s. absurd (both_ways (is_up h) n (r.up s));
            up_too = r.up_too;
            there = λ s. absurd (both_ways (is_up h) n (r.up s));
            back = λ s g. absurd (both_ways (alive (with_phase h new) (rrps (y ++ k.phase.waiting))) (waits-dead (with_phase h new) (rrps (y ++ k.phase.waiting)) refl z) g);
          }

pub settles-echo : (quiet a b : Bool) (h k : ResetHost) (x y : List Command) → Kept h k x y → Echoing 0 0 a b h k x y → Echoing 0 0 a b (host_settles quiet h) k x y
settles-echo true a b h k x y p r = asks-echo a b (with_phase h (phase_answers h.phase)) k x y (answering h k x y p) (answers-echo a b h k x y p r)
settles-echo false a b h k x y p r = r

-- The RRP comes: who waits for it awaits no echo.
pub rrp-echo : (a b : Bool) (h k : ResetHost) (x y : List Command) → Kept h k x (Rrp ∷ y) → Echoing 0 0 a b h k x (Rrp ∷ y) → Echoing 0 0 a b (with_phase h (hears_rrp h.phase)) k x y
rrp-echo a b h k x y p r = record {
  up = λ s. absurd (both_ways (is_up h) (not_up_wait h waits) (r.up s));
  up_too = r.up_too;
  there = λ s. absurd (both_ways (is_up h) (not_up_wait h waits) (r.up s));
  back = λ s g. subst (λ (w : Bool). 0 < 0 + ecos (live w (Rrp ∷ (y ++ k.phase.waiting))) + erps (live k.phase.wait (x ++ h.phase.waiting))) waits (r.back s (same ∙ g));
}
  where
    waits : h.phase.wait ≡ true
    waits = grind (arith, p.there.count)

    same : alive h (rrps (Rrp ∷ (y ++ k.phase.waiting))) ≡ alive (with_phase h (hears_rrp h.phase)) (rrps (y ++ k.phase.waiting))
    same = grind (arith, waits)

-- Any other command comes.

rrps-other : (c : Command) (u : List Command) → is_other c ≡ true → rrps (c ∷ u) ≡ rrps u
rrps-other c u o = grind arith

-- a host that is not up drops it
pub drops-echo : (a b : Bool) (h k : ResetHost) (x y : List Command) (c : Command) → is_other c ≡ true → is_up h ≡ false → Echoing 0 0 a b h k x (c ∷ y) → Echoing 0 0 a b h k x y
drops-echo a b h k x y c o d r = record {
  up = r.up;
  up_too = r.up_too;
  there = λ s. absurd (both_ways (is_up h) d (r.up s));
  back = λ s g. go h.phase.wait refl g (r.back s (ap (alive h) (rrps-other c (y ++ k.phase.waiting) o) ∙ g));
}
  where
    go : (w : Bool) → h.phase.wait ≡ w → alive h (rrps (y ++ k.phase.waiting)) ≡ true → 0 < 0 + ecos (live w (c ∷ (y ++ k.phase.waiting))) + erps (live k.phase.wait (x ++ h.phase.waiting)) → 0 < 0 + ecos (live w (y ++ k.phase.waiting)) + erps (live k.phase.wait (x ++ h.phase.waiting))
    go true e g i = subst (λ (l : List Command). 0 < 0 + ecos l + erps (live k.phase.wait (x ++ h.phase.waiting))) (after_other c (y ++ k.phase.waiting) o) i
    go false e g i = absurd (both_ways (alive h (rrps (y ++ k.phase.waiting))) (not_alive h (rrps (y ++ k.phase.waiting)) d e) g)

abbrev pub came : Command → ResetHost → ResetHost
came c h = record h { came = h.came ++ c ∷ [] }

-- one that is up hears it: an ERP ends the echo, and an ECO is about to be answered
pub comes-echo : (a b : Bool) (h k : ResetHost) (x y : List Command) (c : Command) → is_other c ≡ true → is_up h ≡ true → Echoing 0 0 a b h k x (c ∷ y) → Echoing 0 (bit (is_eco c)) (not (is_erp c) && a) b (came c h) k x y
comes-echo a b h k x y c o u r = record {
  up = λ s. r.up (and_parts (not (is_erp c)) a s).1;
  up_too = r.up_too;
  there = λ s g.
      let q = and_parts (not (is_erp c)) a s in
      let z : bit (is_erp c) ≡ 0 = no-bit (is_erp c) q.0 in
      let i : 0 < 0 + ecos (live k.phase.wait (x ++ h.phase.waiting)) + erps (c ∷ live h.phase.wait (y ++ k.phase.waiting)) = subst (λ (l : List Command). 0 < 0 + ecos (live k.phase.wait (x ++ h.phase.waiting)) + erps l) fronted (r.there q.1 g) in
      omega (arith, i, z);
  back = λ s g.
      let i : 0 < 0 + ecos (c ∷ live h.phase.wait (y ++ k.phase.waiting)) + erps (live k.phase.wait (x ++ h.phase.waiting)) =
      subst (λ (l : List Command). 0 < 0 + ecos l + erps (live k.phase.wait (x ++ h.phase.waiting))) fronted (r.back s (ap (alive h) (rrps-other c (y ++ k.phase.waiting) o) ∙ g)) in
      omega (arith, i);
}
  where
    no-bit : (e : Bool) → not e ≡ true → bit e ≡ 0
    no-bit true f = absurd (both_ways false refl f)
    no-bit false f = refl

    fronted : live h.phase.wait (c ∷ (y ++ k.phase.waiting)) ≡ c ∷ live h.phase.wait (y ++ k.phase.waiting)
    fronted =
        let w = up_waits h u in
        ap (λ (b : Bool). live b (c ∷ (y ++ k.phase.waiting))) w ∙ (fronts_other c (y ++ k.phase.waiting) o ∙ ap (λ (b : Bool). c ∷ live b (y ++ k.phase.waiting)) (sym w))

-- Commands are made. A host that goes down in the midst of it awaits nothing.

abbrev pub Made : Bool → Bool → ResetHost → ResetHost → List Command → List Command → Type 0
Made a b h k x y = Echoing 0 0 (is_up h && a) b h k x y

module _ (a b : Bool) (h k : ResetHost) (x y : List Command) (c : Command) (o : is_other c ≡ true) (u : is_up h ≡ true) (p : Kept h k x y) (r : Echoing (bit (is_eco c)) (bit (is_erp c)) a b h k x y) where
  abbrev more : ResetHost
  more = record h { phase = queued c h.phase; made = h.made ++ c ∷ [] }

  count : rrps (x ++ (h.phase.waiting ++ c ∷ [])) ≡ rrps (x ++ h.phase.waiting)
  count = grind (arith, rrps-append, o)

  queues : Echoing 0 0 a b more k x y
  queues = record {
    up = r.up;
    up_too = r.up_too;
    there = λ s g.
        let f : alive k (rrps (x ++ h.phase.waiting)) ≡ true = sym (ap (alive k) count) ∙ g in
        let i = r.there s f in
        let j : ecos (live k.phase.wait (x ++ (h.phase.waiting ++ c ∷ []))) ≡ ecos (live k.phase.wait (x ++ h.phase.waiting)) + ecos (c ∷ []) = ap ecos (live_more h k x y p c o u f) ∙ ecos-append (live k.phase.wait (x ++ h.phase.waiting)) (c ∷ []) in
        omega (arith, i, j);
    back = λ s g.
        let f : alive k (rrps (x ++ h.phase.waiting)) ≡ true = up_alive k (rrps (x ++ h.phase.waiting)) (r.up_too s) in
        let i = r.back s g in
        let j : erps (live k.phase.wait (x ++ (h.phase.waiting ++ c ∷ []))) ≡ erps (live k.phase.wait (x ++ h.phase.waiting)) + erps (c ∷ []) = ap erps (live_more h k x y p c o u f) ∙ erps-append (live k.phase.wait (x ++ h.phase.waiting)) (c ∷ []) in
        omega (arith, i, j);
  }

  pub makes-echo : Made a b (host_makes c h) k x y
  makes-echo =
      let first : host_makes c h ≡ (if has_room_for_one h.phase then more else host_falls h) = rw (u, o) refl in
      subst (λ (g : ResetHost). Made a b g k x y) (sym first)
      (cond_both (has_room_for_one h.phase) more (host_falls h) (λ (g : ResetHost). Made a b g k x y)
      (λ _. subst (λ (t : Bool). Echoing 0 0 (t && a) b more k x y) (sym u) queues)
      (λ _. clears-echo b (host_falls h) k x y refl r.up_too))

-- any others, one after another
pub all-make-echo : (cs : List Command) (a b : Bool) (h k : ResetHost) (x y : List Command) → AllOther cs → Kept h k x y → Made a b h k x y → Made a b (host_makes_all cs h) k x y
all-make-echo [] a b h k x y o p r = r
all-make-echo (c ∷ cs) a b h k x y o p r = all-make-echo cs a b (host_makes c h) k x y o.1 (making h k x y c p) (go (is_up h) refl)
  where
    go : (t : Bool) → is_up h ≡ t → Made a b (host_makes c h) k x y
    go false u = let same : host_makes c h ≡ h = rw u refl in subst (λ (g : ResetHost). Made a b g k x y) (sym same) r
    go true u =
        let q : Echoing 0 0 a b h k x y = subst (λ (t : Bool). Echoing 0 0 (t && a) b h k x y) u r in
        makes-echo a b h k x y c o.0 u p
        (record {
          up = q.up;
          up_too = q.up_too;
          there = λ s g. let i = q.there s g in omega (arith, i);
          back = λ s g. let i = q.back s g in omega (arith, i);
        })

-- The front of what waits goes onto the empty line.
pub front-echo : (n : ℕ) (a b : Bool) (h k : ResetHost) (y : List Command) → Echoing 0 0 a b h k [] y → Echoing 0 0 a b (record h { phase = record h.phase { waiting = drop n h.phase.waiting } }) k (take n h.phase.waiting) y
front-echo n a b h k y r = record {
  up = r.up;
  up_too = r.up_too;
  there = λ s g.
      subst (λ (u : List Command). 0 < 0 + ecos (live k.phase.wait u) + erps (live h.phase.wait (y ++ k.phase.waiting))) (sym same)
      (r.there s (subst (λ (u : List Command). alive k (rrps u) ≡ true) same g));
  back = λ s g. subst (λ (u : List Command). 0 < 0 + ecos (live h.phase.wait (y ++ k.phase.waiting)) + erps (live k.phase.wait u)) (sym same) (r.back s g);
}
  where
    same : take n h.phase.waiting ++ drop n h.phase.waiting ≡ h.phase.waiting
    same = take-append-drop n h.phase.waiting
