-- The user of each link, by the connections alone: a connection that has a link, on which a side
-- receives, is its user, and a user has it; its sockets are a receiver's and a sender's; and a connection
-- that only one side requested has no counts. All this is preserved by everything that may be sent.
use Rattle.std.proofs.Common.{◌≡◌, ℕ, ◌+◌, ◌≤◌, ◌==◌, Bool, true, false, not, ◌&&◌, ◌||◌, nat_le, if◌then◌else◌, Option, None, Some, is_some, eq-eqb, refl, sym, ap, ◌∙◌, subst}
use Rattle.std.proofs.Math.Bool.{beq}
use Rattle.std.proofs.lemmas.Bool.{eqb-true, and_parts}
use Rattle.ncp_wire.specs.declared.command.Command.{Command}
use Rattle.ncp_wire.specs.declared.command.Command.TheVariants.{Rts, Str, Cls, Eco, Erp, Err, Nop, All, Gvb, Ret, Inr, Ins, Rst, Rrp}
use Rattle.ncp_interface.specs.Sockets.{is_senders, is_of_sexes}
use Rattle.ncp_monitor.proofs.Shapes.{Shape, Ask, Leave}
use Rattle.ncp_monitor.proofs.LinkOrder.{Sockets, same, same_is, put}
use Rattle.ncp_proof_monitor_allocation.proofs.SeenTables.{step}
use Rattle.ncp_proof_monitor_allocation.proofs.Words.{Count, no_count, link_given}
use Rattle.ncp_proof_monitor_network.specs.Owing.{is_returning_on, NextOwed}
use Rattle.ncp_proof_monitor_network.proofs.Tallied.{HasNumbers, left_by, has_both, receives_by, IsDemuxed, count_put, counted_on, counted_off, recalled_by, returned_by, users_put, is_user, users_less, users_after_cls, counts_after_cls}
use Rattle.ncp_proof_monitor_network.proofs.Said.{Said, sockets_by, may_say, takes_by, number_by, Legal, TextLegal, after_said_by, after_text_by}

-- one of the two sockets is a receiver's, and the other a sender's
abbrev pub is_sexed : Sockets → Bool
is_sexed u = is_of_sexes u.0 u.1 || is_of_sexes u.1 u.0

-- the link of a connection
abbrev pub link_between : Sockets → Option Shape → Option ℕ
link_between u m = link_given (is_senders u.0) m

pub record Connected (m : Sockets → Option Shape) (users : Bool → ℕ → Option Sockets) (counts : Sockets → Count) : Type 0 where
  pub sexed : (u : Sockets) → is_some (m u) ≡ true → is_sexed u ≡ true
  pub unopened : (u : Sockets) → has_both (m u) ≡ false → counts u ≡ no_count
  pub used : (s : Bool) (link : ℕ) (u : Sockets) → users s link ≡ Some u → (receives_by s u ≡ true) × (link_between u (m u) ≡ Some link)
  pub user : (s : Bool) (link : ℕ) (u : Sockets) → receives_by s u ≡ true → link_between u (m u) ≡ Some link → users s link ≡ Some u

abbrev pub IsConnected : Said → Type 0
IsConnected x = Connected x.shapes x.users x.counts

pub fit_none : Connected (λ u. None) (λ s link. None) (λ u. no_count)
fit_none = record { sexed = λ u e. absurd (cc e); unopened = λ u e. refl; used = λ s link u e. absurd (cc e); user = λ s link u r e. absurd (cc e) }

pub fit_alike : (m : Sockets → Option Shape) (users : Bool → ℕ → Option Sockets) (counts : Sockets → Count) (m2 : Sockets → Option Shape) (users2 : Bool → ℕ → Option Sockets) (counts2 : Sockets → Count)
    → ((u : Sockets) → m u ≡ m2 u) → ((s : Bool) (link : ℕ) → users s link ≡ users2 s link) → ((u : Sockets) → counts u ≡ counts2 u) → Connected m users counts → Connected m2 users2 counts2
fit_alike m users counts m2 users2 counts2 k j i f = record {
  sexed = λ u e. f.sexed u (ap is_some (k u) ∙ e);
  unopened = λ u e. sym (i u) ∙ f.unopened u (ap has_both (k u) ∙ e);
  used = λ s link u e. let is = f.used s link u (j s link ∙ e) in (is.0, sym (ap (link_between u) (k u)) ∙ is.1);
  user = λ s link u r e. sym (j s link) ∙ f.user s link u r (ap (link_between u) (k u) ∙ e);
}

-- ---- of a side that receives

is_true : (y : Bool) → not y ≡ true → y ≡ false
is_true true e = absurd (cc e)
is_true false e = refl

pub taken : (s : Bool) (u : Sockets) → takes_by s u ≡ true → receives_by s u ≡ true
taken true u e = (and_parts (not (is_senders u.0)) (is_senders u.1) e).0
taken false u e = (and_parts (not (is_senders u.1)) (is_senders u.0) e).1

taken_sexed : (s : Bool) (u : Sockets) → takes_by s u ≡ true → is_sexed u ≡ true
taken_sexed true u e = ap (λ (b : Bool). b || is_of_sexes u.1 u.0) e
taken_sexed false u e = by (is_of_sexes u.0 u.1) (is_of_sexes u.1 u.0) e
  where
    by : (a b : Bool) → b ≡ true → (a || b) ≡ true
    by true b e = refl
    by false b e = e

pub one_side : (r s : Bool) (u : Sockets) → receives_by r u ≡ true → receives_by s u ≡ true → r ≡ s
one_side true true u a b = refl
one_side false false u a b = refl
one_side true false u a b = let nay : true ≡ false = sym b ∙ is_true (is_senders u.0) a in absurd (cc nay)
one_side false true u a b = let nay : true ≡ false = sym a ∙ is_true (is_senders u.0) b in absurd (cc nay)

users_put_is : (users : Bool → ℕ → Option Sockets) (s : Bool) (link : ℕ) (u : Sockets) (r : Bool) (l : ℕ) → users_put users s link u r l ≡ (if beq r s && (l == link) then Some u else users r l)
users_put_is users true link u true l = refl
users_put_is users true link u false l = refl
users_put_is users false link u true l = refl
users_put_is users false link u false l = refl

is_beq : (a b : Bool) → beq a b ≡ true → a ≡ b
is_beq true true e = refl
is_beq true false e = absurd (cc e)
is_beq false true e = absurd (cc e)
is_beq false false e = refl

pub same_self : (u : Sockets) → same u u ≡ true
same_self u = ap (λ (b : Bool). b && (u.1 == u.1)) (eq-eqb u.0 u.0 refl) ∙ eq-eqb u.1 u.1 refl

beq_itself : (b : Bool) → beq b b ≡ true
beq_itself true = refl
beq_itself false = refl

-- ---- its link, after a request

asked_link : (s : Bool) (u : Sockets) (k : ℕ) (o : Option Shape) → receives_by s u ≡ true → link_between u (step s (Ask k) o) ≡ Some k
asked_link true u k None r = ap (λ (b : Bool). link_given b (step true (Ask k) None)) (is_true (is_senders u.0) r)
asked_link true u k (Some m) r = ap (λ (b : Bool). link_given b (step true (Ask k) (Some m))) (is_true (is_senders u.0) r)
asked_link false u k None r = ap (λ (b : Bool). link_given b (step false (Ask k) None)) r
asked_link false u k (Some m) r = ap (λ (b : Bool). link_given b (step false (Ask k) (Some m))) r

-- a side that receives had none
unasked_link : (s : Bool) (u : Sockets) (k l : ℕ) (o : Option Shape) → receives_by s u ≡ true → may_say s (Ask k) o ≡ true → link_between u o ≡ Some l → ⊥
unasked_link s u k l None r e g = cc g
unasked_link true u k l (Some m) r e g = by m.own m.left e (sym (ap (λ (b : Bool). link_given b (Some m)) (is_true (is_senders u.0) r)) ∙ g)
  where
    by : (o : Option ℕ) (left : Bool) → (not (is_some o) && not left) ≡ true → o ≡ Some l → ⊥
    by None left e g = cc g
    by (Some x) left e g = cc e
unasked_link false u k l (Some m) r e g = by m.others m.cls e (sym (ap (λ (b : Bool). link_given b (Some m)) r) ∙ g)
  where
    by : (o : Option ℕ) (left : Bool) → (not (is_some o) && not left) ≡ true → o ≡ Some l → ⊥
    by None left e g = cc g
    by (Some x) left e g = cc e

-- a size is none
sized_link : (s : Bool) (u : Sockets) (k : ℕ) (o : Option Shape) → receives_by (not s) u ≡ true → link_between u (step s (Ask k) o) ≡ link_between u o
sized_link true u k None r = ap (λ (b : Bool). link_given b (step true (Ask k) None)) r
sized_link true u k (Some m) r = ap (λ (b : Bool). link_given b (step true (Ask k) (Some m))) r ∙ sym (ap (λ (b : Bool). link_given b (Some m)) r)
sized_link false u k None r = ap (λ (b : Bool). link_given b (step false (Ask k) None)) (is_true (is_senders u.0) r)
sized_link false u k (Some m) r = ap (λ (b : Bool). link_given b (step false (Ask k) (Some m))) (is_true (is_senders u.0) r) ∙ sym (ap (λ (b : Bool). link_given b (Some m)) (is_true (is_senders u.0) r))

asked_both : (s : Bool) (k : ℕ) (o : Option Shape) → has_both (step s (Ask k) o) ≡ false → has_both o ≡ false
asked_both s k None e = refl
asked_both true k (Some m) e = by (is_some m.own) (is_some m.others) e
  where
    by : (a b : Bool) → b ≡ false → (a && b) ≡ false
    by true b e = e
    by false b e = refl
asked_both false k (Some m) e = by (is_some m.own) (is_some m.others) e
  where
    by : (a b : Bool) → (a && true) ≡ false → (a && b) ≡ false
    by true b e = absurd (cc e)
    by false b e = refl

module _ (m : Sockets → Option Shape) (users : Bool → ℕ → Option Sockets) (counts : Sockets → Count) (f : Connected m users counts) where
  -- ---- a request: of a receiver, and of a sender

  module _ (s : Bool) (u : Sockets) (k : ℕ) where
    abbrev asked : Sockets → Option Shape
    asked = put m u (step s (Ask k) (m u))

    here_asked : (v : Sockets) → same v u ≡ true → asked v ≡ step s (Ask k) (m u)
    here_asked v e = ap (λ (b : Bool). if b then step s (Ask k) (m u) else m v) e

    there_asked : (v : Sockets) → same v u ≡ false → asked v ≡ m v
    there_asked v e = ap (λ (b : Bool). if b then step s (Ask k) (m u) else m v) e

    asked_sexed : is_sexed u ≡ true → (v : Sockets) → is_some (asked v) ≡ true → is_sexed v ≡ true
    asked_sexed x v i = go (same v u) refl
      where
        go : (y : Bool) → same v u ≡ y → is_sexed v ≡ true
        go true e = ap is_sexed (same_is v u e) ∙ x
        go false e = f.sexed v (sym (ap is_some (there_asked v e)) ∙ i)

    asked_unopened : (v : Sockets) → has_both (asked v) ≡ false → counts v ≡ no_count
    asked_unopened v i = go (same v u) refl
      where
        go : (y : Bool) → same v u ≡ y → counts v ≡ no_count
        go true e = ap counts (same_is v u e) ∙ f.unopened u (asked_both s k (m u) (sym (ap has_both (here_asked v e)) ∙ i))
        go false e = f.unopened v (sym (ap has_both (there_asked v e)) ∙ i)

    fit_linked : takes_by s u ≡ true → may_say s (Ask k) (m u) ≡ true → users s k ≡ None → Connected asked (users_put users s k u) counts
    fit_linked t may none = record { sexed = asked_sexed (taken_sexed s u t); unopened = asked_unopened; used = used; user = user }
      where
        receives : receives_by s u ≡ true
        receives = taken s u t

        used : (r : Bool) (l : ℕ) (v : Sockets) → users_put users s k u r l ≡ Some v → (receives_by r v ≡ true) × (link_between v (asked v) ≡ Some l)
        used r l v e = go (beq r s && (l == k)) refl (sym (users_put_is users s k u r l) ∙ e)
          where
            old : users r l ≡ Some v → (receives_by r v ≡ true) × (link_between v (asked v) ≡ Some l)
            old g = let was = f.used r l v g in (was.0, by (same v u) refl was)
              where
                by : (y : Bool) → same v u ≡ y → (receives_by r v ≡ true) × (link_between v (m v) ≡ Some l) → link_between v (asked v) ≡ Some l
                by true i was =
                    let at : v ≡ u = same_is v u i in
                    absurd (unasked_link s u k l (m u) receives may (subst (λ (w : Sockets). link_between w (m w) ≡ Some l) at was.1))
                by false i was = ap (link_between v) (there_asked v i) ∙ was.1

            go : (y : Bool) → (beq r s && (l == k)) ≡ y → (if y then Some u else users r l) ≡ Some v → (receives_by r v ≡ true) × (link_between v (asked v) ≡ Some l)
            go true i g =
                let parts = and_parts (beq r s) (l == k) i in
                let at : u ≡ v = cc g in
                subst (λ (w : Sockets). (receives_by r w ≡ true) × (link_between w (asked w) ≡ Some l)) at (
                  ap (λ (z : Bool). receives_by z u) (is_beq r s parts.0) ∙ receives,
                  ap (link_between u) (here_asked u (same_self u)) ∙ asked_link s u k (m u) receives ∙ ap (λ (z : ℕ). Some z) (sym (eqb-true l k parts.1)),
                )
            go false i g = old g

        user : (r : Bool) (l : ℕ) (v : Sockets) → receives_by r v ≡ true → link_between v (asked v) ≡ Some l → users_put users s k u r l ≡ Some v
        user r l v x e = users_put_is users s k u r l ∙ go (same v u) refl
          where
            go : (y : Bool) → same v u ≡ y → (if beq r s && (l == k) then Some u else users r l) ≡ Some v
            go true i =
                let at : v ≡ u = same_is v u i in
                let side : r ≡ s = one_side r s u (subst (λ (w : Sockets). receives_by r w ≡ true) at x) receives in
                let its : Some k ≡ Some l = sym (asked_link s u k (m u) receives) ∙ sym (ap (link_between u) (here_asked u (same_self u))) ∙ subst (λ (w : Sockets). link_between w (asked w) ≡ Some l) at e in
                let link : l ≡ k = sym (cc its) in
                ap (λ (b : Bool). if b && (l == k) then Some u else users r l) (ap (λ (z : Bool). beq z s) side ∙ beq_itself s)
                ∙ ap (λ (b : Bool). if true && b then Some u else users r l) (eq-eqb l k link)
                ∙ ap (λ (w : Sockets). Some w) (sym at)
            go false i = by (beq r s && (l == k)) refl
              where
                old : users r l ≡ Some v
                old = f.user r l v x (sym (ap (link_between v) (there_asked v i)) ∙ e)

                by : (y : Bool) → (beq r s && (l == k)) ≡ y → (if y then Some u else users r l) ≡ Some v
                by false j = old
                by true j =
                    let parts = and_parts (beq r s) (l == k) j in
                    let nay : None ≡ Some v = sym none ∙ ap (λ (z : Bool). users z k) (sym (is_beq r s parts.0)) ∙ ap (users r) (sym (eqb-true l k parts.1)) ∙ old in absurd (cc nay)

    fit_sized : takes_by (not s) u ≡ true → Connected asked users counts
    fit_sized t = record { sexed = asked_sexed (taken_sexed (not s) u t); unopened = asked_unopened; used = used; user = user }
      where
        link_same : (v : Sockets) → link_between v (asked v) ≡ link_between v (m v)
        link_same v = go (same v u) refl
          where
            go : (y : Bool) → same v u ≡ y → link_between v (asked v) ≡ link_between v (m v)
            go true e =
                ap (link_between v) (here_asked v e) ∙ ap (λ (w : Sockets). link_between w (step s (Ask k) (m u))) (same_is v u e) ∙ sized_link s u k (m u) (taken (not s) u t)
                ∙ ap (λ (w : Sockets). link_between w (m w)) (sym (same_is v u e))
            go false e = ap (link_between v) (there_asked v e)

        used : (r : Bool) (l : ℕ) (v : Sockets) → users r l ≡ Some v → (receives_by r v ≡ true) × (link_between v (asked v) ≡ Some l)
        used r l v e = let was = f.used r l v e in (was.0, link_same v ∙ was.1)

        user : (r : Bool) (l : ℕ) (v : Sockets) → receives_by r v ≡ true → link_between v (asked v) ≡ Some l → users r l ≡ Some v
        user r l v x e = f.user r l v x (sym (link_same v) ∙ e)

  -- ---- a CLS

  module _ (s : Bool) (u : Sockets) where
    abbrev left : Sockets → Option Shape
    left = put m u (step s Leave (m u))

    here_left : (v : Sockets) → same v u ≡ true → left v ≡ step s Leave (m u)
    here_left v e = ap (λ (b : Bool). if b then step s Leave (m u) else m v) e

    there_left : (v : Sockets) → same v u ≡ false → left v ≡ m v
    there_left v e = ap (λ (b : Bool). if b then step s Leave (m u) else m v) e

    -- it is over
    step_over : (t : Bool) (o : Option Shape) → left_by (not t) o ≡ true → step t Leave o ≡ None
    step_over t None e = absurd (cc e)
    step_over true (Some x) e = ap (λ (b : Bool). if b then None else Some (record x { left = true })) e
    step_over false (Some x) e = ap (λ (b : Bool). if b then None else Some (record x { cls = true })) e

    -- or all but the CLS is as before
    record Open (o now : Option Shape) : Type 0 where
      pub some : is_some now ≡ is_some o
      pub both : has_both now ≡ has_both o
      pub link : (y : Bool) → link_given y now ≡ link_given y o

    step_open : (t : Bool) (o : Option Shape) → left_by (not t) o ≡ false → Open o (step t Leave o)
    step_open true None e = record { some = refl; both = refl; link = λ y. refl }
    step_open false None e = record { some = refl; both = refl; link = λ y. refl }
    step_open true (Some x) e = subst (λ (b : Bool). Open (Some x) (if b then None else Some (record x { left = true }))) (sym e) (record { some = refl; both = refl; link = λ y. refl })
    step_open false (Some x) e = subst (λ (b : Bool). Open (Some x) (if b then None else Some (record x { cls = true }))) (sym e) (record { some = refl; both = refl; link = λ y. refl })

    fit_over : left_by (not s) (m u) ≡ true → Connected left (users_less users u) (count_put counts (Some u) (λ k. no_count))
    fit_over over = record { sexed = sexed; unopened = unopened; used = used; user = user }
      where
        gone : (v : Sockets) → same v u ≡ true → left v ≡ None
        gone v e = here_left v e ∙ step_over s (m u) over

        sexed : (v : Sockets) → is_some (left v) ≡ true → is_sexed v ≡ true
        sexed v i = go (same v u) refl
          where
            go : (y : Bool) → same v u ≡ y → is_sexed v ≡ true
            go true e = let nay : false ≡ true = sym (ap is_some (gone v e)) ∙ i in absurd (cc nay)
            go false e = f.sexed v (sym (ap is_some (there_left v e)) ∙ i)

        unopened : (v : Sockets) → has_both (left v) ≡ false → (if same v u then no_count else counts v) ≡ no_count
        unopened v i = go (same v u) refl
          where
            go : (y : Bool) → same v u ≡ y → (if y then no_count else counts v) ≡ no_count
            go true e = refl
            go false e = f.unopened v (sym (ap has_both (there_left v e)) ∙ i)

        used : (r : Bool) (l : ℕ) (v : Sockets) → users_less users u r l ≡ Some v → (receives_by r v ≡ true) × (link_between v (left v) ≡ Some l)
        used r l v e = go (users r l) refl e
          where
            go : (o : Option Sockets) → users r l ≡ o → (if is_user u o then None else o) ≡ Some v → (receives_by r v ≡ true) × (link_between v (left v) ≡ Some l)
            go None i g = absurd (cc g)
            go (Some w) i g = by (same w u) refl g
              where
                by : (y : Bool) → same w u ≡ y → (if y then None else Some w) ≡ Some v → (receives_by r v ≡ true) × (link_between v (left v) ≡ Some l)
                by true j h = absurd (cc h)
                by false j h =
                    let at : w ≡ v = cc h in
                    let was = f.used r l w i in
                    subst (λ (z : Sockets). (receives_by r z ≡ true) × (link_between z (left z) ≡ Some l)) at (was.0, ap (link_between w) (there_left w j) ∙ was.1)

        user : (r : Bool) (l : ℕ) (v : Sockets) → receives_by r v ≡ true → link_between v (left v) ≡ Some l → users_less users u r l ≡ Some v
        user r l v x e = go (same v u) refl
          where
            go : (y : Bool) → same v u ≡ y → users_less users u r l ≡ Some v
            go true i = let nay : None ≡ Some l = sym (ap (link_between v) (gone v i)) ∙ e in absurd (cc nay)
            go false i =
                let is : users r l ≡ Some v = f.user r l v x (sym (ap (link_between v) (there_left v i)) ∙ e) in
                ap (λ (o : Option Sockets). if is_user u o then None else o) is ∙ ap (λ (b : Bool). if b then None else Some v) i

    fit_left : left_by (not s) (m u) ≡ false → Connected left users counts
    fit_left open_yet = record { sexed = sexed; unopened = unopened; used = used; user = user }
      where
        is : Open (m u) (step s Leave (m u))
        is = step_open s (m u) open_yet

        same_at : {A : Type 0} (P : Sockets → Option Shape → A) → ((v : Sockets) → v ≡ u → P v (step s Leave (m u)) ≡ P v (m u)) → (v : Sockets) → P v (left v) ≡ P v (m v)
        same_at {A} P k v = go (same v u) refl
          where
            go : (y : Bool) → same v u ≡ y → P v (left v) ≡ P v (m v)
            go true e = ap (P v) (here_left v e) ∙ k v (same_is v u e) ∙ ap (λ (w : Sockets). P v (m w)) (sym (same_is v u e))
            go false e = ap (P v) (there_left v e)

        link_same : (v : Sockets) → link_between v (left v) ≡ link_between v (m v)
        link_same = same_at link_between (λ v e. is.link (is_senders v.0))

        sexed : (v : Sockets) → is_some (left v) ≡ true → is_sexed v ≡ true
        sexed v i = f.sexed v (sym (same_at (λ w o. is_some o) (λ w e. is.some) v) ∙ i)

        unopened : (v : Sockets) → has_both (left v) ≡ false → counts v ≡ no_count
        unopened v i = f.unopened v (sym (same_at (λ w o. has_both o) (λ w e. is.both) v) ∙ i)

        used : (r : Bool) (l : ℕ) (v : Sockets) → users r l ≡ Some v → (receives_by r v ≡ true) × (link_between v (left v) ≡ Some l)
        used r l v e = let was = f.used r l v e in (was.0, link_same v ∙ was.1)

        user : (r : Bool) (l : ℕ) (v : Sockets) → receives_by r v ≡ true → link_between v (left v) ≡ Some l → users r l ≡ Some v
        user r l v x e = f.user r l v x (sym (link_same v) ∙ e)

  -- ---- of a connection for which both have asked something is counted

  fit_counted : (o : Option Sockets) (by : Count → Count) → ((u : Sockets) → o ≡ Some u → has_both (m u) ≡ true) → Connected m users (count_put counts o by)
  fit_counted o by open_now = record { sexed = f.sexed; unopened = λ u e. go o open_now u e; used = f.used; user = f.user }
    where
      go : (o : Option Sockets) → ((u : Sockets) → o ≡ Some u → has_both (m u) ≡ true) → (u : Sockets) → has_both (m u) ≡ false → count_put counts o by u ≡ no_count
      go None k u e = f.unopened u e
      go (Some p) k u e = at (same u p) refl
        where
          at : (y : Bool) → same u p ≡ y → (if y then by (counts u) else counts u) ≡ no_count
          at true i = let nay : true ≡ false = sym (k p refl) ∙ ap (λ (v : Sockets). has_both (m v)) (sym (same_is u p i)) ∙ e in absurd (cc nay)
          at false i = f.unopened u e

-- ---- everything that may be sent

-- the sockets of a request: who asks with a link receives, and who asks with a size sends
takes_rts : (s : Bool) (receive send : ℕ) (y : Bool) → (is_of_sexes receive send && y) ≡ true → takes_by s (sockets_by s receive send) ≡ true
takes_rts true receive send y e = (and_parts (is_of_sexes receive send) y e).0
takes_rts false receive send y e = (and_parts (is_of_sexes receive send) y e).0

takes_str : (s : Bool) (send receive : ℕ) (y : Bool) → (is_of_sexes receive send && y) ≡ true → takes_by (not s) (sockets_by s send receive) ≡ true
takes_str true send receive y e = (and_parts (is_of_sexes receive send) y e).0
takes_str false send receive y e = (and_parts (is_of_sexes receive send) y e).0

led_both : (s r : Bool) (o : Option Sockets) (m : Sockets → Option Shape) (p : Sockets → Type 0) → IsDemuxed s r o m p → (u : Sockets) → o ≡ Some u → has_both (m u) ≡ true
led_both s r None m p l u e = absurd l
led_both s r (Some v) m p l u e =
    let at : v ≡ u = cc e in
    ap (λ (w : Sockets). has_both (m w)) (sym at) ∙ (and_parts (has_both (m v)) (not (left_by s (m v))) l.1).0

fit_cls : (s : Bool) (u : Sockets) (x : Said) → IsConnected x
    → Connected (put x.shapes u (step s Leave (x.shapes u))) (users_after_cls (left_by (not s) (x.shapes u)) u x.users) (counts_after_cls (left_by (not s) (x.shapes u)) u x.counts)
fit_cls s u x f = go (left_by (not s) (x.shapes u)) refl
  where
    go : (y : Bool) → left_by (not s) (x.shapes u) ≡ y → Connected (put x.shapes u (step s Leave (x.shapes u))) (users_after_cls y u x.users) (counts_after_cls y u x.counts)
    go true e = fit_alike (put x.shapes u (step s Leave (x.shapes u))) (users_less x.users u) (count_put x.counts (Some u) (λ k. no_count)) (put x.shapes u (step s Leave (x.shapes u))) (users_after_cls true u x.users) (counts_after_cls true u x.counts)
        (λ v. refl) (λ r l. refl) (λ v. refl) (fit_over x.shapes x.users x.counts f s u e)
    go false e = fit_alike (put x.shapes u (step s Leave (x.shapes u))) x.users x.counts (put x.shapes u (step s Leave (x.shapes u))) (users_after_cls false u x.users) (counts_after_cls false u x.counts)
        (λ v. refl) (λ r l. refl) (λ v. refl) (fit_left x.shapes x.users x.counts f s u e)

pub fit_step : (s : Bool) (c : Command) (x : Said) → Legal s c x → IsConnected x → IsConnected (after_said_by s c x)
fit_step s (Rts receive send link) x l f = fit_linked x.shapes x.users x.counts f s (sockets_by s receive send) link (takes_rts s receive send (nat_le 2 link && nat_le link 71) l.right) l.fits l.tally
fit_step s (Str send receive size) x l f = fit_sized x.shapes x.users x.counts f s (sockets_by s send receive) size (takes_str s send receive (not (size == 0)) l.right)
fit_step s (Cls my your) x l f = fit_cls s (sockets_by s my your) x f
fit_step s (Eco byte) x l f = f
fit_step s (Erp byte) x l f = f
fit_step s (Err code bytes) x l f = absurd l.tally
fit_step s Nop x l f = f
fit_step s (All link messages bits) x l f =
    fit_counted x.shapes x.users x.counts f (x.users s link) (counted_on messages bits)
    (led_both s s (x.users s link) x.shapes (λ u. ((x.counts u).messages + messages ≤ 65535) × ((x.counts u).bits + bits ≤ 65536)) l.tally)
fit_step s (Gvb link fm fb) x l f =
    fit_counted x.shapes x.users x.counts f (x.users s link) (recalled_by s fm fb)
    (led_both s s (x.users s link) x.shapes (λ u. (x.counts u).recall ≡ false) l.tally)
fit_step s (Ret link messages bits) x l f =
    fit_counted x.shapes x.users x.counts f (x.users (not s) link) (returned_by s messages bits)
    (led_both s (not s) (x.users (not s) link) x.shapes (λ u. ((x.counts u).recall ≡ true) × NextOwed (is_returning_on link) (HasNumbers s messages bits (x.counts u)) (x.owing s)) l.tally)
fit_step s (Inr link) x l f = f
fit_step s (Ins link) x l f = f
fit_step s Rst x l f = f
fit_step s Rrp x l f = f

pub fit_text : (s : Bool) (link size bits : ℕ) (x : Said) → TextLegal s link size bits x → IsConnected x → IsConnected (after_text_by s link bits x)
fit_text s link size bits x l f =
    fit_counted x.shapes x.users x.counts f (x.users (not s) link) (counted_off 1 bits)
    (led_both s (not s) (x.users (not s) link) x.shapes (λ u. (number_by s (x.shapes u) ≡ Some size) × (1 ≤ (x.counts u).messages) × (bits ≤ (x.counts u).bits)) l)
