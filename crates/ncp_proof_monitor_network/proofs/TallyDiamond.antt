-- Two hosts speak at the same time: what the one may say it may still say after what the other may say, by what is counted and
-- what is owed.
use Rattle.std.proofs.Common.{◌≡◌, ℕ, ◌+◌, ◌≤◌, ◌==◌, Bool, true, false, not, ◌&&◌, ◌||◌, if◌then◌else◌, List, [], ◌∷◌, ◌++◌, Option, None, Some, is_some, refl, sym, ap, ◌∙◌, subst, arith}
use Rattle.std.proofs.lemmas.Bool.{and_parts, eqb-true}
use Rattle.ncp_wire.specs.declared.command.Command.{Command}
use Rattle.ncp_wire.specs.declared.command.Command.TheVariants.{Rts, Str, Cls, Eco, Erp, Err, Nop, All, Gvb, Ret, Inr, Ins, Rst, Rrp}
use Rattle.ncp_interface.specs.Sockets.{is_senders}
use Rattle.ncp_monitor.proofs.Shapes.{Shape, Ask, Leave, own_step, their_step}
use Rattle.ncp_monitor.proofs.LinkOrder.{Sockets, same, same_is, put}
use Rattle.ncp_proof_monitor_allocation.proofs.Words.{Count, no_count}
use Rattle.ncp_proof_monitor_allocation.proofs.SeenTables.{step}
use Rattle.ncp_proof_monitor_network.specs.Owing.{Owing, Echoes, Returning, is_echo_of, is_returning_on, is_owed_of, is_echo, NextOwed, owed_after, has_echo, any_owing}
use Rattle.ncp_proof_monitor_network.proofs.Tallied.{left_by, is_open_by, receives_by, IsDemuxed, HasNumbers, count_put, counted_on, recalled_by, returned_by, return_asked, by_side, users_put, is_user, users_after_cls, counts_after_cls, owing_without, next_more, next_weaker, no_more}
use Rattle.ncp_proof_monitor_network.proofs.Said.{Said, say_of, sockets_by, may_say, FitsBy, TallyLegal, after_said_by}

-- ---- what a side looks at, and what the other leaves of it when it speaks

-- a connection is open for this side, and it receives by it, or sends

abbrev pub IsReceiver : Bool → Said → Sockets → Type 0
IsReceiver s x u = (receives_by s u ≡ true) × (is_open_by s (x.shapes u) ≡ true)

abbrev pub IsSender : Bool → Said → Sockets → Type 0
IsSender s x u = (receives_by (not s) u ≡ true) × (is_open_by s (x.shapes u) ≡ true)

pub record LeavesRight (s : Bool) (x now : Said) : Type 0 where
  pub users : (r : Bool) (link : ℕ) (u : Sockets) → x.users r link ≡ Some u → is_open_by s (x.shapes u) ≡ true → now.users r link ≡ Some u
  pub open_still : (u : Sockets) → is_open_by s (x.shapes u) ≡ true → is_open_by s (now.shapes u) ≡ true
  pub free : (link : ℕ) → x.users s link ≡ None → now.users s link ≡ None
  pub echo : has_echo (x.owing (not s)) ≡ false → has_echo (now.owing (not s)) ≡ false
  pub more : List Owing
  pub owed : now.owing s ≡ x.owing s ++ more
  -- where it receives
  pub messages : (u : Sockets) → IsReceiver s x u → (now.counts u).messages ≤ (x.counts u).messages
  pub bits : (u : Sockets) → IsReceiver s x u → (now.counts u).bits ≤ (x.counts u).bits
  pub calm : (u : Sockets) → IsReceiver s x u → (x.counts u).recall ≡ false → (now.counts u).recall ≡ false
  -- where it sends: what is asked back stays so; and of the other's counts nothing is lost
  pub recalled : (u : Sockets) → IsSender s x u → (x.counts u).recall ≡ true → (now.counts u).recall ≡ true
  pub enough : (u : Sockets) → IsSender s x u → s ≡ false → ((x.counts u).messages ≤ (now.counts u).messages) × ((x.counts u).bits ≤ (now.counts u).bits)

module _ (s : Bool) (x now : Said) (l : LeavesRight s x now) where
  still_led : (r : Bool) (link : ℕ) (p q : Sockets → Type 0) → ((u : Sockets) → (receives_by r u ≡ true) × (is_open_by s (x.shapes u) ≡ true) → p u → q u) → IsDemuxed s r (x.users r link) x.shapes p → IsDemuxed s r (now.users r link) now.shapes q
  still_led r link p q f led = go (x.users r link) refl led
    where
      go : (o : Option Sockets) → x.users r link ≡ o → IsDemuxed s r o x.shapes p → IsDemuxed s r (now.users r link) now.shapes q
      go None e led = absurd led
      go (Some u) e led =
          subst (λ (o : Option Sockets). IsDemuxed s r o now.shapes q) (sym (l.users r link u e led.1))
          (led.0, l.open_still u led.1, f u (led.0, led.1) led.2)

  still_next : (fits : Owing → Bool) (p : Owing → Type 0) → NextOwed fits p (x.owing s) → NextOwed fits p (now.owing s)
  still_next fits p n = subst (λ (os : List Owing). NextOwed fits p os) (sym l.owed) (next_more fits p (x.owing s) l.more n)

  numbers : (t : Bool) → s ≡ t → (messages bits : ℕ) (u : Sockets) → IsSender s x u → (o : Owing) → HasNumbers t messages bits (x.counts u) o → HasNumbers t messages bits (now.counts u) o
  numbers t e messages bits u r (Echoes byte) h = absurd h
  numbers true e messages bits u r (Returning v link most most_bits) h = h
  numbers false e messages bits u r (Returning v link most most_bits) h =
      let more = l.enough u r e in
      let a = h.2 in
      let b = h.3 in
      let c = more.0 in
      let d = more.1 in
      (h.0, h.1, omega (arith, a, c), omega (arith, b, d))

  pub kept_legal : (c : Command) → TallyLegal s c x → TallyLegal s c now
  kept_legal (Rts receive send link) t = l.free link t
  kept_legal (Str send receive size) t = tt
  kept_legal (Cls my your) t = tt
  kept_legal (Eco byte) t = l.echo t
  kept_legal (Erp byte) t = still_next (is_echo_of byte) any_owing t
  kept_legal (Err code bytes) t = absurd t
  kept_legal Nop t = tt
  kept_legal (All link messages bits) t =
      still_led s link (λ u. ((x.counts u).messages + messages ≤ 65535) × ((x.counts u).bits + bits ≤ 65536)) (λ u. ((now.counts u).messages + messages ≤ 65535) × ((now.counts u).bits + bits ≤ 65536))
      (λ u r k. let a = k.0 in let b = k.1 in let c = l.messages u r in let d = l.bits u r in (omega (arith, a, c), omega (arith, b, d))) t
  kept_legal (Gvb link fm fb) t = still_led s link (λ u. (x.counts u).recall ≡ false) (λ u. (now.counts u).recall ≡ false) (λ u r k. l.calm u r k) t
  kept_legal (Ret link messages bits) t =
      still_led (not s) link (λ u. ((x.counts u).recall ≡ true) × NextOwed (is_returning_on link) (HasNumbers s messages bits (x.counts u)) (x.owing s))
      (λ u. ((now.counts u).recall ≡ true) × NextOwed (is_returning_on link) (HasNumbers s messages bits (now.counts u)) (now.owing s))
      (λ u r k. (
        l.recalled u r k.0,
        still_next (is_returning_on link) (HasNumbers s messages bits (now.counts u))
            (next_weaker (is_returning_on link) (HasNumbers s messages bits (x.counts u)) (HasNumbers s messages bits (now.counts u)) (x.owing s) (λ o h. numbers s refl messages bits u r o h) k.1),
      )) t
  kept_legal (Inr link) t = still_led s link (λ u. Unit {0}) (λ u. Unit {0}) (λ u r k. tt) t
  kept_legal (Ins link) t = still_led (not s) link (λ u. Unit {0}) (λ u. Unit {0}) (λ u r k. tt) t
  kept_legal Rst t = tt
  kept_legal Rrp t = tt

-- ---- lists of what is owed

none_following : (fits : Owing → Bool) (os : List Owing) → has_echo os ≡ false → has_echo (owed_after fits os) ≡ false
none_following fits [] e = refl
none_following fits (o ∷ os) e = go (fits o) (later (is_echo o) e) (none_following fits os)
  where
    later : (b : Bool) → (b || has_echo os) ≡ false → has_echo os ≡ false
    later true e = absurd (cc e)
    later false e = e

    go : (b : Bool) → has_echo os ≡ false → (has_echo os ≡ false → has_echo (owed_after fits os) ≡ false) → has_echo (if b then os else owed_after fits os) ≡ false
    go true e rest = e
    go false e rest = rest e

none_without : (u : Sockets) (os : List Owing) → has_echo os ≡ false → has_echo (owing_without u os) ≡ false
none_without u [] e = refl
none_without u (o ∷ os) e = go (is_owed_of u o) (is_echo o) refl e (none_without u os)
  where
    go : (b x : Bool) → is_echo o ≡ x → (x || has_echo os) ≡ false → (has_echo os ≡ false → has_echo (owing_without u os) ≡ false) → has_echo (if not b then o ∷ owing_without u os else owing_without u os) ≡ false
    go b true k e rest = absurd (cc e)
    go true false k e rest = rest e
    go false false k e rest = ap (λ (y : Bool). y || has_echo (owing_without u os)) k ∙ rest e

-- ---- what is counted of one connection is other

pub record Lowers (k j : Count) : Type 0 where
  pub messages : j.messages ≤ k.messages
  pub bits : j.bits ≤ k.bits
  pub calm : k.recall ≡ false → j.recall ≡ false

pub record Raises (s : Bool) (k j : Count) : Type 0 where
  pub recalled : k.recall ≡ true → j.recall ≡ true
  pub enough : s ≡ false → (k.messages ≤ j.messages) × (k.bits ≤ j.bits)

lowers_same : (k : Count) → Lowers k k
lowers_same k = record { messages = omega arith; bits = omega arith; calm = λ e. e }

raises_same : (s : Bool) (k : Count) → Raises s k k
raises_same s k = record { recalled = λ e. e; enough = λ e. (omega arith, omega arith) }

by_put : (P : Count → Type 0) (counts : Sockets → Count) (o : Option Sockets) (f : Count → Count) (u : Sockets) → P (counts u) → ((v : Sockets) → o ≡ Some v → same u v ≡ true → P (f (counts u))) → P (count_put counts o f u)
by_put P counts None f u p q = p
by_put P counts (Some v) f u p q = go (same u v) refl
  where
    go : (b : Bool) → same u v ≡ b → P (if b then f (counts u) else counts u)
    go true e = q v refl e
    go false e = p

-- one does not send and receive by the same connection
pub one_sex : (u v : Sockets) → receives_by true u ≡ true → receives_by false v ≡ true → same u v ≡ true → ⊥
one_sex u v r q e =
    let sender : is_senders u.0 ≡ true = ap (λ (w : Sockets). is_senders w.0) (same_is u v e) ∙ q in
    let nay : true ≡ false = sym r ∙ ap not sender in cc nay

pub sex_one : (u v : Sockets) → receives_by false u ≡ true → receives_by true v ≡ true → same u v ≡ true → ⊥
sex_one u v r q e =
    let sender : is_senders v.0 ≡ true = ap (λ (w : Sockets). is_senders w.0) (sym (same_is u v e)) ∙ r in
    let nay : true ≡ false = sym q ∙ ap not sender in cc nay

pub led_side : (s r : Bool) (o : Option Sockets) (m : Sockets → Option Shape) (p : Sockets → Type 0) → IsDemuxed s r o m p → (v : Sockets) → o ≡ Some v → receives_by r v ≡ true
led_side s r None m p led v e = absurd led
led_side s r (Some w) m p led v e = let is : w ≡ v = cc e in subst (λ (z : Sockets). receives_by r z ≡ true) is led.0

counts_leave : (s : Bool) (x : Said) (o : Option Sockets) (f : Count → Count) (owing : Bool → List Owing) (more : List Owing) → (has_echo (x.owing (not s)) ≡ false → has_echo (owing (not s)) ≡ false) → owing s ≡ x.owing s ++ more
    → ((u v : Sockets) → IsReceiver s x u → o ≡ Some v → same u v ≡ true → Lowers (x.counts u) (f (x.counts u))) → ((u v : Sockets) → IsSender s x u → o ≡ Some v → same u v ≡ true → Raises s (x.counts u) (f (x.counts u)))
    → LeavesRight s x (record x { counts = count_put x.counts o f; owing = owing })
counts_leave s x o f owing more echo owed mine theirs = record {
  users = λ r link u e k. e;
  open_still = λ u k. k;
  free = λ link e. e;
  echo = echo;
  more = more;
  owed = owed;
  messages = λ u r. (lower u r).messages;
  bits = λ u r. (lower u r).bits;
  calm = λ u r. (lower u r).calm;
  recalled = λ u r. (raise u r).recalled;
  enough = λ u r. (raise u r).enough;
}
  where
    lower : (u : Sockets) → IsReceiver s x u → Lowers (x.counts u) (count_put x.counts o f u)
    lower u r = by_put (λ (j : Count). Lowers (x.counts u) j) x.counts o f u (lowers_same (x.counts u)) (λ v e d. mine u v r e d)

    raise : (u : Sockets) → IsSender s x u → Raises s (x.counts u) (count_put x.counts o f u)
    raise u r = by_put (λ (j : Count). Raises s (x.counts u) j) x.counts o f u (raises_same s (x.counts u)) (λ v e d. theirs u v r e d)

-- more is owed, or less of the other
owing_leave : (s : Bool) (x : Said) (owing : Bool → List Owing) (more : List Owing) → (has_echo (x.owing (not s)) ≡ false → has_echo (owing (not s)) ≡ false) → owing s ≡ x.owing s ++ more → LeavesRight s x (record x { owing = owing })
owing_leave s x owing more echo owed = record {
  users = λ r link u e k. e;
  open_still = λ u k. k;
  free = λ link e. e;
  echo = echo;
  more = more;
  owed = owed;
  messages = λ u r. omega arith;
  bits = λ u r. omega arith;
  calm = λ u r k. k;
  recalled = λ u r k. k;
  enough = λ u r k. (omega arith, omega arith);
}

-- nothing is other
idle_leave : (s : Bool) (x : Said) → LeavesRight s x x
idle_leave s x = record {
  users = λ r link u e k. e;
  open_still = λ u k. k;
  free = λ link e. e;
  echo = λ e. e;
  more = [];
  owed = no_more (x.owing s);
  messages = λ u r. omega arith;
  bits = λ u r. omega arith;
  calm = λ u r k. k;
  recalled = λ u r k. k;
  enough = λ u r k. (omega arith, omega arith);
}

-- ---- a request of the other

-- it is open where it was
asked_open : (s : Bool) (number : ℕ) (m : Option Shape) → is_open_by s m ≡ true → is_open_by s (step (not s) (Ask number) m) ≡ true
asked_open s number None e = absurd (cc e)
asked_open true number (Some m) e = go (is_some m.own) (is_some m.others) (not m.left) e
  where
    go : (a b c : Bool) → (a && b && c) ≡ true → (a && true && c) ≡ true
    go true true c e = e
    go true false c e = absurd (cc e)
    go false b c e = absurd (cc e)
asked_open false number (Some m) e = go (is_some m.own) (is_some m.others) (not m.cls) e
  where
    go : (a b c : Bool) → (a && b && c) ≡ true → (true && b && c) ≡ true
    go true b c e = e
    go false b c e = absurd (cc e)

put_open : (s : Bool) (m : Sockets → Option Shape) (p : Sockets) (now : Option Shape) → (is_open_by s (m p) ≡ true → is_open_by s now ≡ true) → (u : Sockets) → is_open_by s (m u) ≡ true → is_open_by s (put m p now u) ≡ true
put_open s m p now f u e = go (same u p) refl
  where
    go : (b : Bool) → same u p ≡ b → is_open_by s (if b then now else m u) ≡ true
    go true d = f (ap (λ (z : Sockets). is_open_by s (m z)) (sym (same_is u p d)) ∙ e)
    go false d = e

asked_leave : (s : Bool) (x : Said) (p : Sockets) (number : ℕ) (users : Bool → ℕ → Option Sockets) → ((r : Bool) (link : ℕ) (u : Sockets) → x.users r link ≡ Some u → users r link ≡ Some u) → ((link : ℕ) → x.users s link ≡ None → users s link ≡ None)
    → LeavesRight s x (record x { shapes = put x.shapes p (step (not s) (Ask number) (x.shapes p)); users = users })
asked_leave s x p number users kept free = record {
  users = λ r link u e k. kept r link u e;
  open_still = put_open s x.shapes p (step (not s) (Ask number) (x.shapes p)) (asked_open s number (x.shapes p));
  free = free;
  echo = λ e. e;
  more = [];
  owed = no_more (x.owing s);
  messages = λ u r. omega arith;
  bits = λ u r. omega arith;
  calm = λ u r k. k;
  recalled = λ u r k. k;
  enough = λ u r k. (omega arith, omega arith);
}

-- a link that nobody had is given
pub put_users : (users : Bool → ℕ → Option Sockets) (t : Bool) (link : ℕ) (p : Sockets) → users t link ≡ None → (r : Bool) (l : ℕ) (u : Sockets) → users r l ≡ Some u → users_put users t link p r l ≡ Some u
put_users users true link p none false l u e = e
put_users users false link p none true l u e = e
put_users users true link p none true l u e = go (l == link) refl
  where
    go : (b : Bool) → (l == link) ≡ b → (if b then Some p else users true l) ≡ Some u
    go true d = let nay : None ≡ Some u = sym none ∙ ap (users true) (sym (eqb-true l link d)) ∙ e in absurd (cc nay)
    go false d = e
put_users users false link p none false l u e = go (l == link) refl
  where
    go : (b : Bool) → (l == link) ≡ b → (if b then Some p else users false l) ≡ Some u
    go true d = let nay : None ≡ Some u = sym none ∙ ap (users false) (sym (eqb-true l link d)) ∙ e in absurd (cc nay)
    go false d = e

-- ---- a CLS of the other

-- where it ends the connection this side had left it; and it is open where it was
closed_open : (s : Bool) (m : Option Shape) → may_say (not s) Leave m ≡ true → is_open_by s m ≡ true → is_open_by s (step (not s) Leave m) ≡ true
closed_open s None l e = absurd (cc e)
closed_open true (Some m) l e = go m.left refl
  where
    go : (b : Bool) → m.left ≡ b → is_open_by true (if b then None else Some (record m { cls = true })) ≡ true
    go true k = let nay : true ≡ false = sym (and_parts (is_some m.own && is_some m.others) (not m.left) e).1 ∙ ap not k in absurd (cc nay)
    go false k = e
closed_open false (Some m) l e = go m.cls refl
  where
    go : (b : Bool) → m.cls ≡ b → is_open_by false (if b then None else Some (record m { left = true })) ≡ true
    go true k = let nay : true ≡ false = sym (and_parts (is_some m.own && is_some m.others) (not m.cls) e).1 ∙ ap not k in absurd (cc nay)
    go false k = e

pub open_unleft : (s : Bool) (m : Option Shape) → is_open_by s m ≡ true → left_by s m ≡ false
open_unleft s None e = absurd (cc e)
open_unleft true (Some m) e = go m.left (and_parts (is_some m.own && is_some m.others) (not m.left) e).1
  where
    go : (b : Bool) → not b ≡ true → b ≡ false
    go true e = absurd (cc e)
    go false e = refl
open_unleft false (Some m) e = go m.cls (and_parts (is_some m.own && is_some m.others) (not m.cls) e).1
  where
    go : (b : Bool) → not b ≡ true → b ≡ false
    go true e = absurd (cc e)
    go false e = refl

-- one that is open is not the one that ends
not_it : (s : Bool) (x : Said) (p u : Sockets) → left_by s (x.shapes p) ≡ true → is_open_by s (x.shapes u) ≡ true → same u p ≡ false
not_it s x p u l e = go (same u p) refl
  where
    go : (b : Bool) → same u p ≡ b → same u p ≡ false
    go false d = d
    go true d = let nay : true ≡ false = sym l ∙ ap (λ (z : Sockets). left_by s (x.shapes z)) (sym (same_is u p d)) ∙ open_unleft s (x.shapes u) e in absurd (cc nay)

less_kept : (over : Bool) (s : Bool) (x : Said) (p : Sockets) → (over ≡ true → left_by s (x.shapes p) ≡ true) → (r : Bool) (link : ℕ) (u : Sockets) → x.users r link ≡ Some u → is_open_by s (x.shapes u) ≡ true → users_after_cls over p x.users r link ≡ Some u
less_kept false s x p f r link u e k = e
less_kept true s x p f r link u e k =
    ap (λ (o : Option Sockets). if is_user p o then None else o) e ∙ ap (λ (b : Bool). if b then None else Some u) (not_it s x p u (f refl) k)

less_free : (over : Bool) (x : Said) (p : Sockets) (r : Bool) (link : ℕ) → x.users r link ≡ None → users_after_cls over p x.users r link ≡ None
less_free false x p r link e = e
less_free true x p r link e = ap (λ (o : Option Sockets). if is_user p o then None else o) e

pub counts_kept : (over : Bool) (s : Bool) (x : Said) (p : Sockets) → (over ≡ true → left_by s (x.shapes p) ≡ true) → (u : Sockets) → is_open_by s (x.shapes u) ≡ true → counts_after_cls over p x.counts u ≡ x.counts u
counts_kept false s x p f u k = refl
counts_kept true s x p f u k = ap (λ (b : Bool). if b then no_count else x.counts u) (not_it s x p u (f refl) k)

-- ---- each command of the other

pub theirs_leave : (c : Command) (x : Said) → FitsBy false (say_of false c) x.shapes → TallyLegal false c x → LeavesRight true x (after_said_by false c x)
theirs_leave (Rts receive send link) x l t =
    asked_leave true x (sockets_by false receive send) link (users_put x.users false link (sockets_by false receive send)) (put_users x.users false link (sockets_by false receive send) t) (λ k e. e)
theirs_leave (Str send receive size) x l t = asked_leave true x (sockets_by false send receive) size x.users (λ r k u e. e) (λ k e. e)
theirs_leave (Cls my your) x l t = record {
  users = less_kept (left_by true (x.shapes (your, my))) true x (your, my) (λ e. e);
  open_still = put_open true x.shapes (your, my) (their_step Leave (x.shapes (your, my))) (closed_open true (x.shapes (your, my)) l);
  free = λ link e. less_free (left_by true (x.shapes (your, my))) x (your, my) true link e;
  echo = none_without (your, my) (x.owing false);
  more = [];
  owed = no_more (x.owing true);
  messages = λ u r. let same_count = ap (λ (k : Count). k.messages) (counts_kept (left_by true (x.shapes (your, my))) true x (your, my) (λ e. e) u r.1) in omega (arith, same_count);
  bits = λ u r. let same_count = ap (λ (k : Count). k.bits) (counts_kept (left_by true (x.shapes (your, my))) true x (your, my) (λ e. e) u r.1) in omega (arith, same_count);
  calm = λ u r k. ap (λ (j : Count). j.recall) (counts_kept (left_by true (x.shapes (your, my))) true x (your, my) (λ e. e) u r.1) ∙ k;
  recalled = λ u r k. ap (λ (j : Count). j.recall) (counts_kept (left_by true (x.shapes (your, my))) true x (your, my) (λ e. e) u r.1) ∙ k;
  enough = λ u r e. absurd (cc e);
}
theirs_leave (Eco byte) x l t = owing_leave true x (by_side true (x.owing true ++ Echoes byte ∷ []) x.owing) (Echoes byte ∷ []) (λ e. e) refl
theirs_leave (Erp byte) x l t = owing_leave true x (by_side false (owed_after (is_echo_of byte) (x.owing false)) x.owing) [] (none_following (is_echo_of byte) (x.owing false)) (no_more (x.owing true))
theirs_leave (Err code bytes) x l t = absurd t
theirs_leave Nop x l t = idle_leave true x
theirs_leave (All link messages bits) x l t =
    counts_leave true x (x.users false link) (counted_on messages bits) x.owing [] (λ e. e) (no_more (x.owing true))
    (λ u v r e d. absurd (one_sex u v r.0 (led_side false false (x.users false link) x.shapes (λ u. ((x.counts u).messages + messages ≤ 65535) × ((x.counts u).bits + bits ≤ 65536)) t v e) d))
    (λ u v r e d. record { recalled = λ k. k; enough = λ z. absurd (cc z) })
theirs_leave (Gvb link fm fb) x l t =
    counts_leave true x (x.users false link) (recalled_by false fm fb) (by_side true (x.owing true ++ return_asked false link fm fb x.shapes x.counts (x.users false link)) x.owing) (return_asked false link fm fb x.shapes x.counts (x.users false link)) (λ e. e) refl
    (λ u v r e d. absurd (one_sex u v r.0 (led_side false false (x.users false link) x.shapes (λ u. (x.counts u).recall ≡ false) t v e) d))
    (λ u v r e d. record { recalled = λ k. refl; enough = λ z. absurd (cc z) })
theirs_leave (Ret link messages bits) x l t =
    counts_leave true x (x.users true link) (returned_by false messages bits) (by_side false (owed_after (is_returning_on link) (x.owing false)) x.owing) [] (none_following (is_returning_on link) (x.owing false)) (no_more (x.owing true))
    (λ u v r e d. record { messages = omega arith; bits = omega arith; calm = λ k. refl })
    (λ u v r e d. absurd (sex_one u v r.0 (led_side false true (x.users true link) x.shapes (λ u. ((x.counts u).recall ≡ true) × NextOwed (is_returning_on link) (HasNumbers false messages bits (x.counts u)) (x.owing false)) t v e) d))
theirs_leave (Inr link) x l t = idle_leave true x
theirs_leave (Ins link) x l t = idle_leave true x
theirs_leave Rst x l t = idle_leave true x
theirs_leave Rrp x l t = idle_leave true x

pub ours_leave : (c : Command) (x : Said) → FitsBy true (say_of true c) x.shapes → TallyLegal true c x → LeavesRight false x (after_said_by true c x)
ours_leave (Rts receive send link) x l t =
    asked_leave false x (sockets_by true receive send) link (users_put x.users true link (sockets_by true receive send)) (put_users x.users true link (sockets_by true receive send) t) (λ k e. e)
ours_leave (Str send receive size) x l t = asked_leave false x (sockets_by true send receive) size x.users (λ r k u e. e) (λ k e. e)
ours_leave (Cls my your) x l t = record {
  users = less_kept (left_by false (x.shapes (my, your))) false x (my, your) (λ e. e);
  open_still = put_open false x.shapes (my, your) (own_step Leave (x.shapes (my, your))) (closed_open false (x.shapes (my, your)) l);
  free = λ link e. less_free (left_by false (x.shapes (my, your))) x (my, your) false link e;
  echo = none_without (my, your) (x.owing true);
  more = [];
  owed = no_more (x.owing false);
  messages = λ u r. let same_count = ap (λ (k : Count). k.messages) (counts_kept (left_by false (x.shapes (my, your))) false x (my, your) (λ e. e) u r.1) in omega (arith, same_count);
  bits = λ u r. let same_count = ap (λ (k : Count). k.bits) (counts_kept (left_by false (x.shapes (my, your))) false x (my, your) (λ e. e) u r.1) in omega (arith, same_count);
  calm = λ u r k. ap (λ (j : Count). j.recall) (counts_kept (left_by false (x.shapes (my, your))) false x (my, your) (λ e. e) u r.1) ∙ k;
  recalled = λ u r k. ap (λ (j : Count). j.recall) (counts_kept (left_by false (x.shapes (my, your))) false x (my, your) (λ e. e) u r.1) ∙ k;
  enough = λ u r e. (
    let same_count = ap (λ (k : Count). k.messages) (counts_kept (left_by false (x.shapes (my, your))) false x (my, your) (λ e. e) u r.1) in omega (arith, same_count),
    let same_count = ap (λ (k : Count). k.bits) (counts_kept (left_by false (x.shapes (my, your))) false x (my, your) (λ e. e) u r.1) in omega (arith, same_count),
  );
}
ours_leave (Eco byte) x l t = owing_leave false x (by_side false (x.owing false ++ Echoes byte ∷ []) x.owing) (Echoes byte ∷ []) (λ e. e) refl
ours_leave (Erp byte) x l t = owing_leave false x (by_side true (owed_after (is_echo_of byte) (x.owing true)) x.owing) [] (none_following (is_echo_of byte) (x.owing true)) (no_more (x.owing false))
ours_leave (Err code bytes) x l t = absurd t
ours_leave Nop x l t = idle_leave false x
ours_leave (All link messages bits) x l t =
    counts_leave false x (x.users true link) (counted_on messages bits) x.owing [] (λ e. e) (no_more (x.owing false))
    (λ u v r e d. absurd (sex_one u v r.0 (led_side true true (x.users true link) x.shapes (λ u. ((x.counts u).messages + messages ≤ 65535) × ((x.counts u).bits + bits ≤ 65536)) t v e) d))
    (λ u v r e d. record { recalled = λ k. k; enough = λ z. (omega arith, omega arith) })
ours_leave (Gvb link fm fb) x l t =
    counts_leave false x (x.users true link) (recalled_by true fm fb) (by_side false (x.owing false ++ return_asked true link fm fb x.shapes x.counts (x.users true link)) x.owing) (return_asked true link fm fb x.shapes x.counts (x.users true link)) (λ e. e) refl
    (λ u v r e d. absurd (sex_one u v r.0 (led_side true true (x.users true link) x.shapes (λ u. (x.counts u).recall ≡ false) t v e) d))
    (λ u v r e d. record { recalled = λ k. refl; enough = λ z. (omega arith, omega arith) })
ours_leave (Ret link messages bits) x l t =
    counts_leave false x (x.users false link) (returned_by true messages bits) (by_side true (owed_after (is_returning_on link) (x.owing true)) x.owing) [] (none_following (is_returning_on link) (x.owing true)) (no_more (x.owing false))
    (λ u v r e d. record { messages = omega arith; bits = omega arith; calm = λ k. refl })
    (λ u v r e d. absurd (one_sex u v r.0 (led_side true false (x.users false link) x.shapes (λ u. ((x.counts u).recall ≡ true) × NextOwed (is_returning_on link) (HasNumbers true messages bits (x.counts u)) (x.owing true)) t v e) d))
ours_leave (Inr link) x l t = idle_leave false x
ours_leave (Ins link) x l t = idle_leave false x
ours_leave Rst x l t = idle_leave false x
ours_leave Rrp x l t = idle_leave false x

-- ---- so each may still say what it may

pub legal_after_theirs : (h k : Command) (x : Said) → TallyLegal true h x → FitsBy false (say_of false k) x.shapes → TallyLegal false k x → TallyLegal true h (after_said_by false k x)
legal_after_theirs h k x t l u = kept_legal true x (after_said_by false k x) (theirs_leave k x l u) h t

pub legal_after_ours : (h k : Command) (x : Said) → TallyLegal false k x → FitsBy true (say_of true h) x.shapes → TallyLegal true h x → TallyLegal false k (after_said_by true h x)
legal_after_ours h k x t l u = kept_legal false x (after_said_by true h x) (ours_leave h x l u) k t
