-- What one of two hosts may say by what it has seen when all has come it may say by what the other has seen.
use Rattle.std.proofs.Common.{◌≡◌, ℕ, ◌+◌, ◌≤◌, Bool, true, false, not, ◌&&◌, ◌||◌, Option, None, Some, is_some, refl, sym, ap, ◌∙◌, subst, arith}
use Rattle.ncp_wire.specs.declared.command.Command.{Command}
use Rattle.ncp_wire.specs.declared.command.Command.TheVariants.{Rts, Str, Cls, Eco, Erp, Err, Nop, All, Gvb, Ret, Inr, Ins, Rst, Rrp}
use Rattle.ncp_interface.specs.Sockets.{is_senders}
use Rattle.ncp_monitor.proofs.Shapes.{Shape, Say, Ask, Leave}
use Rattle.ncp_monitor.proofs.LinkOrder.{Sockets, same, same_is}
use Rattle.ncp_proof_monitor_network.specs.Owing.{is_returning_on, NextOwed}
use Rattle.ncp_proof_monitor_network.proofs.Tallied.{left_by, has_both, is_open_by, receives_by, IsDemuxed, HasNumbers}
use Rattle.ncp_proof_monitor_network.proofs.Said.{Said, say_of, may_say, FitsBy, takes_by, number_by, TallyLegal, Legal, facing_shape, facing_user}
use Rattle.ncp_proof_monitor_network.proofs.UsersSaid.{is_sexed}
use Rattle.ncp_proof_monitor_network.proofs.MatchSteps.{matches_echo, matches_erp, matches_ret, one_on, owed_next}
use Rattle.ncp_proof_monitor_network.proofs.ConsistentViews.{Mirrors, Sane}

-- ---- a connection as the other sees it

pub left_faces : (s : Bool) (m : Option Shape) → left_by s (facing_shape m) ≡ left_by (not s) m
left_faces true None = refl
left_faces false None = refl
left_faces true (Some m) = refl
left_faces false (Some m) = refl

and_turned : (x y : Bool) → (x && y) ≡ (y && x)
and_turned true true = refl
and_turned true false = refl
and_turned false true = refl
and_turned false false = refl

both_faces : (m : Option Shape) → has_both (facing_shape m) ≡ has_both m
both_faces None = refl
both_faces (Some m) = and_turned (is_some m.others) (is_some m.own)

open_faces : (s : Bool) (m : Option Shape) → is_open_by s (facing_shape m) ≡ is_open_by (not s) m
open_faces s m = ap (λ (b : Bool). b && not (left_by s (facing_shape m))) (both_faces m) ∙ ap (λ (b : Bool). has_both m && not b) (left_faces s m)

pub number_faces : (s : Bool) (m : Option Shape) → number_by s (facing_shape m) ≡ number_by (not s) m
number_faces true None = refl
number_faces false None = refl
number_faces true (Some m) = refl
number_faces false (Some m) = refl

may_faces : (a : Say) (m : Option Shape) → may_say false a m ≡ may_say true a (facing_shape m)
may_faces (Ask n) None = refl
may_faces (Ask n) (Some m) = refl
may_faces Leave None = refl
may_faces Leave (Some m) = refl

-- ---- sexes

pub taken_by : (r : Bool) (u : Sockets) → receives_by r u ≡ true → is_sexed u ≡ true → takes_by r u ≡ true
taken_by true u e s = go (is_senders u.0) (is_senders u.1) e s
  where
    go : (a b : Bool) → not a ≡ true → ((not a && b) || (not b && a)) ≡ true → (not a && b) ≡ true
    go true b e s = absurd (cc e)
    go false true e s = refl
    go false false e s = absurd (cc s)
taken_by false u e s = go (is_senders u.0) (is_senders u.1) e s
  where
    go : (a b : Bool) → a ≡ true → ((not a && b) || (not b && a)) ≡ true → (not b && a) ≡ true
    go true true e s = absurd (cc s)
    go true false e s = refl
    go false b e s = absurd (cc e)

-- a connection on which a side receives is not one on which it sends
pub apart : (r : Bool) (u v : Sockets) → takes_by r u ≡ true → takes_by (not r) v ≡ true → same v u ≡ false
apart r u v e f = go (same v u) refl
  where
    both : (r : Bool) (w : Sockets) → takes_by r w ≡ true → takes_by (not r) w ≡ true → ⊥
    both true w e f = by (is_senders w.0) (is_senders w.1) e f
      where
        by : (a b : Bool) → (not a && b) ≡ true → (not b && a) ≡ true → ⊥
        by true b e f = cc e
        by false true e f = cc f
        by false false e f = cc f
    both false w e f = by (is_senders w.0) (is_senders w.1) e f
      where
        by : (a b : Bool) → (not b && a) ≡ true → (not a && b) ≡ true → ⊥
        by true true e f = cc e
        by true false e f = cc f
        by false true e f = cc e
        by false false e f = cc f

    go : (b : Bool) → same v u ≡ b → same v u ≡ false
    go false d = d
    go true d = absurd (both r u e (ap (takes_by (not r)) (sym (same_is v u d)) ∙ f))

-- ---- a connection that has a link, and is open for the one who speaks

pub record LedAt (x : Said) (r : Bool) (link : ℕ) (p : Sockets → Type 0) : Type 0 where
  pub by : Sockets
  pub used : x.users r link ≡ Some by
  pub takes : takes_by r by ≡ true
  pub is_open : is_open_by true (x.shapes by) ≡ true
  pub has : p by

open_some : (s : Bool) (m : Option Shape) → is_open_by s m ≡ true → is_some m ≡ true
open_some s None e = absurd (cc e)
open_some s (Some m) e = refl

pub led_at : (x : Said) (r : Bool) (link : ℕ) (p : Sockets → Type 0) → Sane x → IsDemuxed true r (x.users r link) x.shapes p → LedAt x r link p
led_at x r link p sane led = go (x.users r link) refl led
  where
    go : (o : Option Sockets) → x.users r link ≡ o → IsDemuxed true r o x.shapes p → LedAt x r link p
    go None e led = absurd led
    go (Some u) e led = record { by = u; used = e; takes = taken_by r u led.0 (sane.fit.sexed u (open_some true (x.shapes u) led.1)); is_open = led.1; has = led.2 }

module _ {x y : Said} {tx ty : ℕ → Option (ℕ × ℕ)} (m : Mirrors x y tx ty) where
  pub user_there : (r : Bool) (link : ℕ) (u : Sockets) → x.users r link ≡ Some u → y.users (not r) link ≡ Some (u.1, u.0)
  user_there r link u e = go (y.users (not r) link) (sym (m.users r link) ∙ e)
    where
      go : (o : Option Sockets) → facing_user o ≡ Some u → o ≡ Some (u.1, u.0)
      go None k = absurd (cc k)
      go (Some v) k = let at : (v.1, v.0) ≡ u = cc k in ap (λ (w : Sockets). Some (w.1, w.0)) at

  pub none_there : (r : Bool) (link : ℕ) → x.users r link ≡ None → y.users (not r) link ≡ None
  none_there r link e = go (y.users (not r) link) (sym (m.users r link) ∙ e)
    where
      go : (o : Option Sockets) → facing_user o ≡ None → o ≡ None
      go None k = refl
      go (Some v) k = absurd (cc k)

  led_there : (r : Bool) (link : ℕ) (p q : Sockets → Type 0) → Sane y → (at : LedAt x r link p) → q (at.by.1, at.by.0) → IsDemuxed false (not r) (y.users (not r) link) y.shapes q
  led_there r link p q sane at has =
      let used : y.users (not r) link ≡ Some (at.by.1, at.by.0) = user_there r link at.by at.used in
      subst (λ (o : Option Sockets). IsDemuxed false (not r) o y.shapes q) (sym used) (
        (sane.fit.used (not r) link (at.by.1, at.by.0) used).0,
        sym (open_faces true (y.shapes (at.by.1, at.by.0))) ∙ sym (ap (is_open_by true) (m.shapes at.by)) ∙ at.is_open,
        has,
      )

  -- ---- what a RET takes off is there

  pub ret_there : (link messages bits : ℕ) → Sane x → (at : LedAt x false link (λ u. ((x.counts u).recall ≡ true) × NextOwed (is_returning_on link) (HasNumbers true messages bits (x.counts u)) (x.owing true)))
      → (messages ≤ (y.counts (at.by.1, at.by.0)).messages) × (bits ≤ (y.counts (at.by.1, at.by.0)).bits)
  ret_there link messages bits sane at =
      let less = owed_next true x.shapes x.users x.counts link at.by at.used messages bits (x.counts at.by) (x.owing true) (sane.owes true) at.has.1 in
      let faces = m.there at.by at.takes in
      let a = less.0 in
      let b = less.1 in
      let c = faces.messages in
      let d = faces.bits in (omega (arith, a, c), omega (arith, b, d))

  ret_faces : (link messages bits : ℕ) → Sane x → Sane y
      → (at : LedAt x false link (λ u. ((x.counts u).recall ≡ true) × NextOwed (is_returning_on link) (HasNumbers true messages bits (x.counts u)) (x.owing true)))
      → NextOwed (is_returning_on link) (HasNumbers false messages bits (y.counts (at.by.1, at.by.0))) (y.owing false)
  ret_faces link messages bits sane there at =
      let fits = ret_there link messages bits sane at in
      (matches_ret link messages bits (x.counts at.by) (y.counts (at.by.1, at.by.0)) (y.owing false) (x.owing true)
      (one_on false y.shapes y.users y.counts link (at.by.1, at.by.0) (user_there false link at.by at.used) (y.owing false) (there.owes false)) m.theirs at.has.1 fits.0 fits.1).0

  tally_faces : (c : Command) → Sane x → Sane y → TallyLegal true c x → TallyLegal false c y
  tally_faces (Rts receive send link) sane there l = none_there true link l
  tally_faces (Str send receive size) sane there l = tt
  tally_faces (Cls my your) sane there l = tt
  tally_faces (Eco byte) sane there l = sym (matches_echo (x.owing false) (y.owing true) m.mine) ∙ l
  tally_faces (Erp byte) sane there l = (matches_erp byte (y.owing false) (x.owing true) m.theirs l).0
  tally_faces (Err code bytes) sane there l = absurd l
  tally_faces Nop sane there l = tt
  tally_faces (All link messages bits) sane there l =
      let at = led_at x true link (λ u. ((x.counts u).messages + messages ≤ 65535) × ((x.counts u).bits + bits ≤ 65536)) sane l in
      let faces = m.here at.by at.takes in
      let a = at.has.0 in
      let b = at.has.1 in
      let c = faces.messages in
      let d = faces.bits in
      led_there true link (λ u. ((x.counts u).messages + messages ≤ 65535) × ((x.counts u).bits + bits ≤ 65536)) (λ u. ((y.counts u).messages + messages ≤ 65535) × ((y.counts u).bits + bits ≤ 65536))
      there at (omega (arith, a, c), omega (arith, b, d))
  tally_faces (Gvb link fm fb) sane there l =
      let at = led_at x true link (λ u. (x.counts u).recall ≡ false) sane l in
      led_there true link (λ u. (x.counts u).recall ≡ false) (λ u. (y.counts u).recall ≡ false) there at (sym (m.here at.by at.takes).recall ∙ at.has)
  tally_faces (Ret link messages bits) sane there l =
      let at = led_at x false link (λ u. ((x.counts u).recall ≡ true) × NextOwed (is_returning_on link) (HasNumbers true messages bits (x.counts u)) (x.owing true)) sane l in
      led_there false link (λ u. ((x.counts u).recall ≡ true) × NextOwed (is_returning_on link) (HasNumbers true messages bits (x.counts u)) (x.owing true))
      (λ u. ((y.counts u).recall ≡ true) × NextOwed (is_returning_on link) (HasNumbers false messages bits (y.counts u)) (y.owing false)) there at
      ((m.there at.by at.takes).recall ∙ at.has.0, ret_faces link messages bits sane there at)
  tally_faces (Inr link) sane there l = led_there true link (λ u. Unit {0}) (λ u. Unit {0}) there (led_at x true link (λ u. Unit {0}) sane l) tt
  tally_faces (Ins link) sane there l = led_there false link (λ u. Unit {0}) (λ u. Unit {0}) there (led_at x false link (λ u. Unit {0}) sane l) tt
  tally_faces Rst sane there l = tt
  tally_faces Rrp sane there l = tt

  may_there : (a : Say) (u : Sockets) → may_say true a (x.shapes u) ≡ true → may_say false a (y.shapes (u.1, u.0)) ≡ true
  may_there a u f = may_faces a (y.shapes (u.1, u.0)) ∙ sym (ap (may_say true a) (m.shapes u)) ∙ f

  fits_there : (c : Command) → FitsBy true (say_of true c) x.shapes → FitsBy false (say_of false c) y.shapes
  fits_there (Rts receive send link) f = may_there (Ask link) (receive, send) f
  fits_there (Str send receive size) f = may_there (Ask size) (send, receive) f
  fits_there (Cls my your) f = may_there Leave (my, your) f
  fits_there (Eco byte) f = tt
  fits_there (Erp byte) f = tt
  fits_there (Err code bytes) f = tt
  fits_there Nop f = tt
  fits_there (All link messages bits) f = tt
  fits_there (Gvb link fm fb) f = tt
  fits_there (Ret link messages bits) f = tt
  fits_there (Inr link) f = tt
  fits_there (Ins link) f = tt
  fits_there Rst f = tt
  fits_there Rrp f = tt

  pub legal_faces : (c : Command) → Sane x → Sane y → Legal true c x → Legal false c y
  legal_faces c sane there l = record { right = l.right; fits = fits_there c l.fits; tally = tally_faces c sane there l.tally }
