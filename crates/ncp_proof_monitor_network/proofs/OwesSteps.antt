-- The replies that each of two hosts owes the other stay rightly owed after any command that one of them
-- may send.
use Rattle.std.proofs.Common.{◌≡◌, ℕ, ◌==◌, Bool, true, false, not, ◌&&◌, ◌||◌, if◌then◌else◌, List, [], ◌∷◌, ◌++◌, Option, None, Some, is_some, eq-eqb, refl, sym, ap, ◌∙◌, subst}
use Rattle.std.specs.List.{list_any, filter}
use Rattle.std.proofs.lemmas.Bool.{eqb-true}
use Rattle.ncp_wire.specs.declared.command.Command.{Command}
use Rattle.ncp_wire.specs.declared.command.Command.TheVariants.{Rts, Str, Cls, Eco, Erp, Err, Nop, All, Gvb, Ret, Inr, Ins, Rst, Rrp}
use Rattle.ncp_monitor.specs.Allocation.{part_returned}
use Rattle.ncp_monitor.proofs.Shapes.{Shape, Ask, Leave}
use Rattle.ncp_monitor.proofs.LinkOrder.{Sockets, same, same_is, put}
use Rattle.ncp_proof_monitor_allocation.proofs.SeenTables.{step}
use Rattle.ncp_proof_monitor_allocation.proofs.Words.{Count, no_count}
use Rattle.ncp_proof_monitor_network.specs.Owing.{Owing, Echoes, Returning, is_echo_of, is_returning_on, is_owed_of, is_echo, Chosen, NextOwed, owed_after, has_echo}
use Rattle.ncp_proof_monitor_network.proofs.Tallied.{left_by, has_both, is_open_by, receives_by, IsDemuxed, HasNumbers, count_put, counted_on, counted_off, recalled_by, returned_by, return_asked, by_side, users_put, is_user, users_less, users_after_cls, counts_after_cls, owing_without}
use Rattle.ncp_proof_monitor_network.proofs.Said.{Said, sockets_by, Legal, after_said_by, after_text_by, without_owed}
use Rattle.ncp_proof_monitor_network.proofs.PendingOwed.{IsRetOwed, IsOwedRightly, OwesRightly}

abbrev pub OwesOf : Bool → Said → Type 0
OwesOf s x = OwesRightly s x.shapes x.users x.counts (x.owing s)

-- ---- sockets, and sides

pub same_itself : (u : Sockets) → same u u ≡ true
same_itself u = ap (λ (y : Bool). y && (u.1 == u.1)) (eq-eqb u.0 u.0 refl) ∙ eq-eqb u.1 u.1 refl

sockets_turned : (u v : Sockets) → same u v ≡ false → same v u ≡ false
sockets_turned u v e = go (same v u) refl
  where
    go : (y : Bool) → same v u ≡ y → same v u ≡ false
    go true k = let nay : true ≡ false = sym (ap (λ (w : Sockets). same w v) (sym (same_is v u k)) ∙ same_itself v) ∙ e in absurd (cc nay)
    go false k = k

one_side : (s : Bool) (u : Sockets) → receives_by (not s) u ≡ true → receives_by s u ≡ true → ⊥
one_side true u e k = let nay : false ≡ true = sym (ap not e) ∙ k in cc nay
one_side false u e k = let nay : false ≡ true = sym (ap not k) ∙ e in cc nay

pub unturned : (s : Bool) → not (not s) ≡ s
unturned true = refl
unturned false = refl

pub on_both : (p : Bool → Type 0) (t : Bool) → p t → p (not t) → (s : Bool) → p s
on_both p true a b true = a
on_both p true a b false = b
on_both p false a b true = b
on_both p false a b false = a

pub its_side_is : (t : Bool) (now : List Owing) (owing : Bool → List Owing) → by_side t now owing t ≡ now
its_side_is true now owing = refl
its_side_is false now owing = refl

pub other_side_is : (t : Bool) (now : List Owing) (owing : Bool → List Owing) → by_side t now owing (not t) ≡ owing (not t)
other_side_is true now owing = refl
other_side_is false now owing = refl

pub other_side_kept : (t : Bool) (now : List Owing) (owing : Bool → List Owing) → by_side (not t) now owing t ≡ owing t
other_side_kept true now owing = refl
other_side_kept false now owing = refl

-- ---- with other connections

module _ (s : Bool) (shapes : Sockets → Option Shape) (users : Bool → ℕ → Option Sockets) (counts : Sockets → Count) (shapes_now : Sockets → Option Shape) (users_now : Bool → ℕ → Option Sockets) (counts_now : Sockets → Count) where
  owes_kept : (os : List Owing) → ((u : Sockets) (link : ℕ) (later : List Owing) → IsRetOwed s shapes users counts u link later → IsRetOwed s shapes_now users_now counts_now u link later)
      → OwesRightly s shapes users counts os → OwesRightly s shapes_now users_now counts_now os
  owes_kept [] f r = tt
  owes_kept (Echoes byte ∷ os) f r = (r.0, owes_kept os f r.1)
  owes_kept (Returning u link messages bits ∷ os) f r = (f u link os r.0, owes_kept os f r.1)

  -- no RET of this connection is owed
  owes_distinct : (v : Sockets) (os : List Owing) → list_any (is_owed_of v) os ≡ false
      → ((u : Sockets) (link : ℕ) (later : List Owing) → same u v ≡ false → IsRetOwed s shapes users counts u link later → IsRetOwed s shapes_now users_now counts_now u link later)
      → OwesRightly s shapes users counts os → OwesRightly s shapes_now users_now counts_now os
  owes_distinct v [] e f r = tt
  owes_distinct v (Echoes byte ∷ os) e f r = (r.0, owes_distinct v os e f r.1)
  owes_distinct v (Returning u link messages bits ∷ os) e f r = (f u link os (first (same u v) e) r.0, owes_distinct v os (later (same u v) e) f r.1)
    where
      first : (y : Bool) → (y || list_any (is_owed_of v) os) ≡ false → y ≡ false
      first true e = absurd (cc e)
      first false e = refl

      later : (y : Bool) → (y || list_any (is_owed_of v) os) ≡ false → list_any (is_owed_of v) os ≡ false
      later true e = absurd (cc e)
      later false e = e

-- ---- less is owed, and more

less_any : (f t : Owing → Bool) (os : List Owing) → list_any f os ≡ false → list_any f (filter t os) ≡ false
less_any f t [] e = refl
less_any f t (o ∷ os) e = go (f o) refl (t o) e (less_any f t os)
  where
    go : (y : Bool) → f o ≡ y → (z : Bool) → (y || list_any f os) ≡ false → (list_any f os ≡ false → list_any f (filter t os) ≡ false) → list_any f (if z then o ∷ filter t os else filter t os) ≡ false
    go true k z e rest = absurd (cc e)
    go false k true e rest = ap (λ (y : Bool). y || list_any f (filter t os)) k ∙ rest e
    go false k false e rest = rest e

less_echo : (t : Owing → Bool) (os : List Owing) → has_echo os ≡ false → has_echo (filter t os) ≡ false
less_echo t [] e = refl
less_echo t (o ∷ os) e = go (is_echo o) refl (t o) e (less_echo t os)
  where
    go : (y : Bool) → is_echo o ≡ y → (z : Bool) → (y || has_echo os) ≡ false → (has_echo os ≡ false → has_echo (filter t os) ≡ false) → has_echo (if z then o ∷ filter t os else filter t os) ≡ false
    go true k z e rest = absurd (cc e)
    go false k true e rest = ap (λ (y : Bool). y || has_echo (filter t os)) k ∙ rest e
    go false k false e rest = rest e

more_any : (f : Owing → Bool) (os : List Owing) (o : Owing) → list_any f os ≡ false → f o ≡ false → list_any f (os ++ o ∷ []) ≡ false
more_any f [] o e k = ap (λ (y : Bool). y || false) k
more_any f (p ∷ os) o e k = go (f p) e (more_any f os o)
  where
    go : (y : Bool) → (y || list_any f os) ≡ false → (list_any f os ≡ false → f o ≡ false → list_any f (os ++ o ∷ []) ≡ false) → (y || list_any f (os ++ o ∷ [])) ≡ false
    go true e rest = absurd (cc e)
    go false e rest = rest e k

more_echo : (os : List Owing) (o : Owing) → has_echo os ≡ false → is_echo o ≡ false → has_echo (os ++ o ∷ []) ≡ false
more_echo [] o e k = ap (λ (y : Bool). y || false) k
more_echo (p ∷ os) o e k = go (is_echo p) e (more_echo os o)
  where
    go : (y : Bool) → (y || has_echo os) ≡ false → (has_echo os ≡ false → is_echo o ≡ false → has_echo (os ++ o ∷ []) ≡ false) → (y || has_echo (os ++ o ∷ [])) ≡ false
    go true e rest = absurd (cc e)
    go false e rest = rest e k

any_first : (y z : Bool) → (y || z) ≡ false → y ≡ false
any_first true z e = absurd (cc e)
any_first false z e = refl

any_later : (y z : Bool) → (y || z) ≡ false → z ≡ false
any_later true z e = absurd (cc e)
any_later false z e = e

pub none_without_it : (u : Sockets) (os : List Owing) → list_any (is_owed_of u) (owing_without u os) ≡ false
none_without_it u [] = refl
none_without_it u (o ∷ os) = go (is_owed_of u o) refl (none_without_it u os)
  where
    go : (y : Bool) → is_owed_of u o ≡ y → list_any (is_owed_of u) (owing_without u os) ≡ false → list_any (is_owed_of u) (if not y then o ∷ owing_without u os else owing_without u os) ≡ false
    go true k rest = rest
    go false k rest = ap (λ (y : Bool). y || list_any (is_owed_of u) (owing_without u os)) k ∙ rest

module _ (s : Bool) (shapes : Sockets → Option Shape) (users : Bool → ℕ → Option Sockets) (counts : Sockets → Count) where
  owes_after : (fits : Owing → Bool) (os : List Owing) → OwesRightly s shapes users counts os → OwesRightly s shapes users counts (owed_after fits os)
  owes_after fits [] r = tt
  owes_after fits (o ∷ os) r = go (fits o) (owes_after fits os r.1)
    where
      go : (y : Bool) → OwesRightly s shapes users counts (owed_after fits os) → OwesRightly s shapes users counts (if y then os else owed_after fits os)
      go true rest = r.1
      go false rest = rest

  owes_without : (u : Sockets) (os : List Owing) → OwesRightly s shapes users counts os → OwesRightly s shapes users counts (owing_without u os)
  owes_without u [] r = tt
  owes_without u (o ∷ os) r = go (is_owed_of u o) (owes_without u os r.1)
    where
      less : (o : Owing) → IsOwedRightly s shapes users counts o os → IsOwedRightly s shapes users counts o (owing_without u os)
      less (Echoes byte) i = less_echo (λ o. not (is_owed_of u o)) os i
      less (Returning v link messages bits) i =
          record { recalled = i.recalled; user = i.user; sends = i.sends; both = i.both; stays = i.stays; once = less_any (is_owed_of v) (λ o. not (is_owed_of u o)) os i.once }

      go : (y : Bool) → OwesRightly s shapes users counts (owing_without u os) → OwesRightly s shapes users counts (if not y then o ∷ owing_without u os else owing_without u os)
      go true rest = rest
      go false rest = (less o r.0, rest)

  owes_echo : (byte : ℕ) (os : List Owing) → has_echo os ≡ false → OwesRightly s shapes users counts os → OwesRightly s shapes users counts (os ++ Echoes byte ∷ [])
  owes_echo byte [] e r = (refl, tt)
  owes_echo byte (Echoes other ∷ os) e r = absurd (cc e)
  owes_echo byte (Returning u link messages bits ∷ os) e r = (
    record { recalled = r.0.recalled; user = r.0.user; sends = r.0.sends; both = r.0.both; stays = r.0.stays; once = more_any (is_owed_of u) os (Echoes byte) r.0.once refl },
    owes_echo byte os e r.1,
  )

  owes_return : (v : Sockets) (link messages bits : ℕ) (os : List Owing) → IsRetOwed s shapes users counts v link [] → list_any (is_owed_of v) os ≡ false → OwesRightly s shapes users counts os
      → OwesRightly s shapes users counts (os ++ Returning v link messages bits ∷ [])
  owes_return v link messages bits [] i e r = (i, tt)
  owes_return v link messages bits (Echoes other ∷ os) i e r = (more_echo os (Returning v link messages bits) r.0 refl, owes_return v link messages bits os i e r.1)
  owes_return v link messages bits (Returning u on m k ∷ os) i e r = (
    record {
      recalled = r.0.recalled;
      user = r.0.user;
      sends = r.0.sends;
      both = r.0.both;
      stays = r.0.stays;
      once = more_any (is_owed_of u) os (Returning v link messages bits) r.0.once (sockets_turned u v (any_first (same u v) (list_any (is_owed_of v) os) e));
    },
    owes_return v link messages bits os i (any_later (same u v) (list_any (is_owed_of v) os) e) r.1,
  )

  -- of a connection that asked for nothing back no RET is owed
  pub calm_owes_none : (v : Sockets) (os : List Owing) → (counts v).recall ≡ false → OwesRightly s shapes users counts os → list_any (is_owed_of v) os ≡ false
  calm_owes_none v [] e r = refl
  calm_owes_none v (Echoes byte ∷ os) e r = calm_owes_none v os e r.1
  calm_owes_none v (Returning u link messages bits ∷ os) e r = go (same u v) refl (calm_owes_none v os e r.1)
    where
      go : (y : Bool) → same u v ≡ y → list_any (is_owed_of v) os ≡ false → (same u v || list_any (is_owed_of v) os) ≡ false
      go true k rest = let nay : true ≡ false = sym r.0.recalled ∙ ap (λ (w : Sockets). (counts w).recall) (same_is u v k) ∙ e in absurd (cc nay)
      go false k rest = ap (λ (y : Bool). y || list_any (is_owed_of v) os) k ∙ rest

  -- the RET that is given was asked for, and none of its connection is owed after it
  pub record Given (link : ℕ) (u : Sockets) (os : List Owing) : Type 0 where
    pub recalled : (counts u).recall ≡ true
    pub none : list_any (is_owed_of u) (owed_after (is_returning_on link) os) ≡ false

  pub next_given : (link : ℕ) (u : Sockets) (p : Owing → Type 0) (os : List Owing) → users (not s) link ≡ Some u → NextOwed (is_returning_on link) p os → OwesRightly s shapes users counts os → Given link u os
  next_given link u p [] k n r = absurd n
  next_given link u p (Echoes byte ∷ os) k n r = absurd n
  next_given link u p (Returning v on messages bits ∷ os) k n r = go (on == link) refl n (λ n. next_given link u p os k n r.1)
    where
      go : (y : Bool) → (on == link) ≡ y → Chosen y false (p (Returning v on messages bits)) (NextOwed (is_returning_on link) p os) → (NextOwed (is_returning_on link) p os → Given link u os)
          → Given link u (Returning v on messages bits ∷ os)
      go true e n rest =
          let is : Some v ≡ Some u = sym r.0.user ∙ ap (users (not s)) (eqb-true on link e) ∙ k in
          let it : v ≡ u = cc is in
          record {
            recalled = ap (λ (w : Sockets). (counts w).recall) (sym it) ∙ r.0.recalled;
            none = ap (λ (y : Bool). list_any (is_owed_of u) (if y then os else owed_after (is_returning_on link) os)) e ∙ ap (λ (w : Sockets). list_any (is_owed_of w) os) (sym it) ∙ r.0.once;
          }
      go false e n rest = let g = rest n in record {
        recalled = g.recalled;
        none = ap (λ (y : Bool). list_any (is_owed_of u) (if y then os else owed_after (is_returning_on link) os)) e ∙ g.none;
      }

  -- and with an ERP the one that is owed is given
  pub echo_given : (byte : ℕ) (p : Owing → Type 0) (os : List Owing) → NextOwed (is_echo_of byte) p os → OwesRightly s shapes users counts os → has_echo (owed_after (is_echo_of byte) os) ≡ false
  echo_given byte p [] n r = absurd n
  echo_given byte p (Echoes other ∷ os) n r = go (other == byte) n
    where
      go : (y : Bool) → Chosen y true (p (Echoes other)) (NextOwed (is_echo_of byte) p os) → has_echo (if y then os else owed_after (is_echo_of byte) os) ≡ false
      go true n = r.0
      go false n = absurd n
  echo_given byte p (Returning v link messages bits ∷ os) n r = echo_given byte p os n r.1

-- ---- what a request and a CLS change

ask_both : (t : Bool) (number : ℕ) (m : Option Shape) → has_both m ≡ true → has_both (step t (Ask number) m) ≡ true
ask_both t number None e = absurd (cc e)
ask_both true number (Some m) e = go (is_some m.own) (is_some m.others) e
  where
    go : (y z : Bool) → (y && z) ≡ true → z ≡ true
    go true true e = refl
    go true false e = absurd (cc e)
    go false z e = absurd (cc e)
ask_both false number (Some m) e = go (is_some m.own) (is_some m.others) e
  where
    go : (y z : Bool) → (y && z) ≡ true → (y && true) ≡ true
    go true z e = refl
    go false z e = absurd (cc e)

ask_stays : (t s : Bool) (number : ℕ) (m : Option Shape) → left_by s m ≡ false → left_by s (step t (Ask number) m) ≡ false
ask_stays true true number None e = refl
ask_stays true false number None e = refl
ask_stays false true number None e = refl
ask_stays false false number None e = refl
ask_stays true true number (Some m) e = e
ask_stays true false number (Some m) e = e
ask_stays false true number (Some m) e = e
ask_stays false false number (Some m) e = e

-- the CLS of one where the other has not left

leave_both : (t : Bool) (m : Option Shape) → left_by (not t) m ≡ false → has_both m ≡ true → has_both (step t Leave m) ≡ true
leave_both true None e k = k
leave_both false None e k = k
leave_both true (Some m) e k = subst (λ (y : Bool). has_both (if y then None else Some (record m { left = true })) ≡ true) (sym e) k
leave_both false (Some m) e k = subst (λ (y : Bool). has_both (if y then None else Some (record m { cls = true })) ≡ true) (sym e) k

leave_stays : (t : Bool) (m : Option Shape) → left_by (not t) m ≡ false → left_by (not t) (step t Leave m) ≡ false
leave_stays true None e = refl
leave_stays false None e = refl
leave_stays true (Some m) e = subst (λ (y : Bool). left_by false (if y then None else Some (record m { left = true })) ≡ false) (sym e) e
leave_stays false (Some m) e = subst (λ (y : Bool). left_by true (if y then None else Some (record m { cls = true })) ≡ false) (sym e) e

by_put : (p : Option Shape → Type 0) (m : Sockets → Option Shape) (v : Sockets) (now : Option Shape) (u : Sockets) → p (m u) → (same u v ≡ true → p now) → p (put m v now u)
by_put p m v now u a b = go (same u v) refl
  where
    go : (y : Bool) → same u v ≡ y → p (if y then now else m u)
    go true e = b e
    go false e = a

put_users : (users : Bool → ℕ → Option Sockets) (t : Bool) (link : ℕ) (v : Sockets) → users t link ≡ None → (r : Bool) (l : ℕ) (u : Sockets) → users r l ≡ Some u → users_put users t link v r l ≡ Some u
put_users users t link v none r l u k = by t r none k
  where
    at_link : (r : Bool) → users r link ≡ None → users r l ≡ Some u → (if l == link then Some v else users r l) ≡ Some u
    at_link r none k = go (l == link) refl
      where
        go : (y : Bool) → (l == link) ≡ y → (if y then Some v else users r l) ≡ Some u
        go true e = let nay : None ≡ Some u = sym none ∙ ap (users r) (sym (eqb-true l link e)) ∙ k in absurd (cc nay)
        go false e = k

    by : (t r : Bool) → users t link ≡ None → users r l ≡ Some u → users_put users t link v r l ≡ Some u
    by true true none k = at_link true none k
    by true false none k = k
    by false true none k = k
    by false false none k = at_link false none k

-- ---- what is counted: what was asked back stays so

recall_put : (counts : Sockets → Count) (o : Option Sockets) (f : Count → Count) → ((k : Count) → k.recall ≡ true → (f k).recall ≡ true) → (u : Sockets) → (counts u).recall ≡ true → (count_put counts o f u).recall ≡ true
recall_put counts None f h u e = e
recall_put counts (Some v) f h u e = go (same u v)
  where
    go : (y : Bool) → (if y then f (counts u) else counts u).recall ≡ true
    go true = h (counts u) e
    go false = e

recalls_now : (t : Bool) (fm fb : ℕ) (k : Count) → (recalled_by t fm fb k).recall ≡ true
recalls_now true fm fb k = refl
recalls_now false fm fb k = refl

other_put : (counts : Sockets → Count) (v : Sockets) (f : Count → Count) (u : Sockets) → same u v ≡ false → count_put counts (Some v) f u ≡ counts u
other_put counts v f u e = ap (λ (y : Bool). if y then f (counts u) else counts u) e

-- ---- one of the two speaks

module _ (t : Bool) (x : Said) (owes : (s : Bool) → OwesOf s x) where
  -- what is counted alone changes, and nothing asked back is lost
  counts_owe : (counts : Sockets → Count) → ((u : Sockets) → (x.counts u).recall ≡ true → (counts u).recall ≡ true) → (s : Bool) → OwesRightly s x.shapes x.users counts (x.owing s)
  counts_owe counts h s =
      owes_kept s x.shapes x.users x.counts x.shapes x.users counts (x.owing s)
      (λ u link later i. record { recalled = h u i.recalled; user = i.user; sends = i.sends; both = i.both; stays = i.stays; once = i.once }) (owes s)

  ask_owes : (v : Sockets) (number : ℕ) (users : Bool → ℕ → Option Sockets) → ((r : Bool) (l : ℕ) (u : Sockets) → x.users r l ≡ Some u → users r l ≡ Some u)
      → (s : Bool) → OwesRightly s (put x.shapes v (step t (Ask number) (x.shapes v))) users x.counts (x.owing s)
  ask_owes v number users h s =
      owes_kept s x.shapes x.users x.counts (put x.shapes v (step t (Ask number) (x.shapes v))) users x.counts (x.owing s)
      (λ u link later i. record {
        recalled = i.recalled;
        user = h (not s) link u i.user;
        sends = i.sends;
        both = by_put (λ (m : Option Shape). has_both m ≡ true) x.shapes v (step t (Ask number) (x.shapes v)) u i.both
            (λ e. ask_both t number (x.shapes v) (ap (λ (w : Sockets). has_both (x.shapes w)) (sym (same_is u v e)) ∙ i.both));
        stays = by_put (λ (m : Option Shape). left_by s m ≡ false) x.shapes v (step t (Ask number) (x.shapes v)) u i.stays
            (λ e. ask_stays t s number (x.shapes v) (ap (λ (w : Sockets). left_by s (x.shapes w)) (sym (same_is u v e)) ∙ i.stays));
        once = i.once;
      }) (owes s)

  module _ (v : Sockets) where
    abbrev over : Bool
    over = left_by (not t) (x.shapes v)

    abbrev shapes_then : Sockets → Option Shape
    shapes_then = put x.shapes v (step t Leave (x.shapes v))

    abbrev users_then : Bool → ℕ → Option Sockets
    users_then = users_after_cls over v x.users

    abbrev counts_then : Sockets → Count
    counts_then = counts_after_cls over v x.counts

    other_user : (r : Bool) (l : ℕ) (u : Sockets) → same u v ≡ false → x.users r l ≡ Some u → users_then r l ≡ Some u
    other_user r l u e k = go over
      where
        less : users_less x.users v r l ≡ Some u
        less = ap (λ (o : Option Sockets). if is_user v o then None else o) k ∙ ap (λ (y : Bool). if y then None else Some u) e

        go : (y : Bool) → (if y then users_less x.users v r l else x.users r l) ≡ Some u
        go true = less
        go false = k

    other_count : (u : Sockets) → same u v ≡ false → counts_then u ≡ x.counts u
    other_count u e = go over
      where
        go : (y : Bool) → (if y then count_put x.counts (Some v) (λ k. no_count) u else x.counts u) ≡ x.counts u
        go true = other_put x.counts v (λ k. no_count) u e
        go false = refl

    other_shape : (u : Sockets) → same u v ≡ false → shapes_then u ≡ x.shapes u
    other_shape u e = ap (λ (y : Bool). if y then step t Leave (x.shapes v) else x.shapes u) e

    other_ret : (s : Bool) (u : Sockets) (link : ℕ) (later : List Owing) → same u v ≡ false → IsRetOwed s x.shapes x.users x.counts u link later → IsRetOwed s shapes_then users_then counts_then u link later
    other_ret s u link later e i = record {
      recalled = ap (λ (k : Count). k.recall) (other_count u e) ∙ i.recalled;
      user = other_user (not s) link u e i.user;
      sends = i.sends;
      both = ap has_both (other_shape u e) ∙ i.both;
      stays = ap (left_by s) (other_shape u e) ∙ i.stays;
      once = i.once;
    }

    -- of the one who speaks: none of this connection
    left_owes : OwesRightly t shapes_then users_then counts_then (owing_without v (x.owing t))
    left_owes =
        owes_distinct t x.shapes x.users x.counts shapes_then users_then counts_then v (owing_without v (x.owing t)) (none_without_it v (x.owing t)) (λ u link later. other_ret t u link later)
        (owes_without t x.shapes x.users x.counts v (x.owing t) (owes t))

    -- of the other: if it owes one of this connection, it has not left
    heard_owes : OwesRightly (not t) shapes_then users_then counts_then (x.owing (not t))
    heard_owes =
        owes_kept (not t) x.shapes x.users x.counts shapes_then users_then counts_then (x.owing (not t)) (λ u link later i. go u link later i (same u v) refl) (owes (not t))
      where
        go : (u : Sockets) (link : ℕ) (later : List Owing) → IsRetOwed (not t) x.shapes x.users x.counts u link later → (y : Bool) → same u v ≡ y → IsRetOwed (not t) shapes_then users_then counts_then u link later
        go u link later i false e = other_ret (not t) u link later e i
        go u link later i true e =
            let is : u ≡ v = same_is u v e in
            let on : over ≡ false = ap (λ (w : Sockets). left_by (not t) (x.shapes w)) (sym is) ∙ i.stays in
            let both : has_both (x.shapes v) ≡ true = ap (λ (w : Sockets). has_both (x.shapes w)) (sym is) ∙ i.both in
            let at_it : shapes_then u ≡ step t Leave (x.shapes v) = ap (λ (y : Bool). if y then step t Leave (x.shapes v) else x.shapes u) e in
            record {
              recalled = ap (λ (y : Bool). (counts_after_cls y v x.counts u).recall) on ∙ i.recalled;
              user = ap (λ (y : Bool). users_after_cls y v x.users (not (not t)) link) on ∙ i.user;
              sends = i.sends;
              both = ap has_both at_it ∙ leave_both t (x.shapes v) on both;
              stays = ap (left_by (not t)) at_it ∙ leave_stays t (x.shapes v) on;
              once = i.once;
            }

  pub open_both : (m : Option Shape) → is_open_by t m ≡ true → (has_both m ≡ true) × (left_by t m ≡ false)
  open_both m e = go (has_both m) (left_by t m) e
    where
      go : (y z : Bool) → (y && not z) ≡ true → (y ≡ true) × (z ≡ false)
      go true true e = absurd (cc e)
      go true false e = (refl, refl)
      go false z e = absurd (cc e)

  -- a GVB: one more reply is owed, for a connection that owed none
  asked_owes : (link fm fb : ℕ) → IsDemuxed t t (x.users t link) x.shapes (λ u. (x.counts u).recall ≡ false)
      → OwesRightly (not t) x.shapes x.users (count_put x.counts (x.users t link) (recalled_by t fm fb)) (x.owing (not t) ++ return_asked t link fm fb x.shapes x.counts (x.users t link))
  asked_owes link fm fb led = go (x.users t link) refl led
    where
      nil : (os : List Owing) → os ≡ os ++ []
      nil [] = refl
      nil (o ∷ os) = ap (λ (ps : List Owing). o ∷ ps) (nil os)

      go : (o : Option Sockets) → x.users t link ≡ o → IsDemuxed t t o x.shapes (λ u. (x.counts u).recall ≡ false)
          → OwesRightly (not t) x.shapes x.users (count_put x.counts o (recalled_by t fm fb)) (x.owing (not t) ++ return_asked t link fm fb x.shapes x.counts o)
      go None e led = absurd led
      go (Some u) e led = by (left_by (not t) (x.shapes u)) refl
        where
          now : Sockets → Count
          now = count_put x.counts (Some u) (recalled_by t fm fb)

          old : OwesRightly (not t) x.shapes x.users now (x.owing (not t))
          old = counts_owe now (recall_put x.counts (Some u) (recalled_by t fm fb) (λ k e. recalls_now t fm fb k)) (not t)

          at_it : (now u).recall ≡ true
          at_it = ap (λ (y : Bool). (if y then recalled_by t fm fb (x.counts u) else x.counts u).recall) (same_itself u) ∙ recalls_now t fm fb (x.counts u)

          by : (y : Bool) → left_by (not t) (x.shapes u) ≡ y
              → OwesRightly (not t) x.shapes x.users now (x.owing (not t) ++ (if y then [] else Returning u link (part_returned (x.counts u).messages fm) (part_returned (x.counts u).bits fb) ∷ []))
          by true k = subst (OwesRightly (not t) x.shapes x.users now) (nil (x.owing (not t))) old
          by false k =
              owes_return (not t) x.shapes x.users now u link (part_returned (x.counts u).messages fm) (part_returned (x.counts u).bits fb) (x.owing (not t))
              (record {
                recalled = at_it;
                user = ap (λ (r : Bool). x.users r link) (unturned t) ∙ e;
                sends = ap (λ (r : Bool). receives_by r u) (unturned t) ∙ led.0;
                both = (open_both (x.shapes u) led.1).0;
                stays = k;
                once = refl;
              })
              (calm_owes_none (not t) x.shapes x.users x.counts u (x.owing (not t)) led.2 (owes (not t))) old

  -- a RET: of its connection none is owed any more, by neither
  module _ (link messages bits : ℕ) (p : Sockets → Owing → Type 0) (led : IsDemuxed t (not t) (x.users (not t) link) x.shapes (λ u. ((x.counts u).recall ≡ true) × NextOwed (is_returning_on link) (p u) (x.owing t))) where
    abbrev counts_back : Option Sockets → Sockets → Count
    counts_back o = count_put x.counts o (returned_by t messages bits)

    distinct_ret : (s : Bool) (v u : Sockets) (on : ℕ) (later : List Owing) → same u v ≡ false → IsRetOwed s x.shapes x.users x.counts u on later → IsRetOwed s x.shapes x.users (counts_back (Some v)) u on later
    distinct_ret s v u on later e i =
        record { recalled = ap (λ (k : Count). k.recall) (other_put x.counts v (returned_by t messages bits) u e) ∙ i.recalled; user = i.user; sends = i.sends; both = i.both; stays = i.stays; once = i.once }

    given_owes : OwesRightly t x.shapes x.users (counts_back (x.users (not t) link)) (owed_after (is_returning_on link) (x.owing t))
    given_owes = go (x.users (not t) link) refl led
      where
        go : (o : Option Sockets) → x.users (not t) link ≡ o → IsDemuxed t (not t) o x.shapes (λ u. ((x.counts u).recall ≡ true) × NextOwed (is_returning_on link) (p u) (x.owing t))
            → OwesRightly t x.shapes x.users (counts_back o) (owed_after (is_returning_on link) (x.owing t))
        go None e led = absurd led
        go (Some v) e led =
            owes_distinct t x.shapes x.users x.counts x.shapes x.users (counts_back (Some v)) v (owed_after (is_returning_on link) (x.owing t))
            (next_given t x.shapes x.users x.counts link v (p v) (x.owing t) e led.2.1 (owes t)).none (λ u on later. distinct_ret t v u on later)
            (owes_after t x.shapes x.users x.counts (is_returning_on link) (x.owing t) (owes t))

    taken_owes : OwesRightly (not t) x.shapes x.users (counts_back (x.users (not t) link)) (x.owing (not t))
    taken_owes = go (x.users (not t) link) refl led
      where
        go : (o : Option Sockets) → x.users (not t) link ≡ o → IsDemuxed t (not t) o x.shapes (λ u. ((x.counts u).recall ≡ true) × NextOwed (is_returning_on link) (p u) (x.owing t))
            → OwesRightly (not t) x.shapes x.users (counts_back o) (x.owing (not t))
        go None e led = absurd led
        go (Some v) e led =
            owes_kept (not t) x.shapes x.users x.counts x.shapes x.users (counts_back (Some v)) (x.owing (not t)) (λ u on later i. distinct_ret (not t) v u on later (apart u (i.sends)) i) (owes (not t))
          where
            apart : (u : Sockets) → receives_by (not (not t)) u ≡ true → same u v ≡ false
            apart u k = by (same u v) refl
              where
                by : (y : Bool) → same u v ≡ y → same u v ≡ false
                by true e = absurd (one_side t v led.0 (ap (receives_by t) (sym (same_is u v e)) ∙ ap (λ (r : Bool). receives_by r u) (sym (unturned t)) ∙ k))
                by false e = e

  -- with what is owed by the one who speaks, or by the other

  by_speaker : (shapes : Sockets → Option Shape) (users : Bool → ℕ → Option Sockets) (counts : Sockets → Count) (now : List Owing) → OwesRightly t shapes users counts now → OwesRightly (not t) shapes users counts (x.owing (not t))
      → (s : Bool) → OwesRightly s shapes users counts (by_side t now x.owing s)
  by_speaker shapes users counts now a b =
      on_both (λ s. OwesRightly s shapes users counts (by_side t now x.owing s)) t
      (subst (OwesRightly t shapes users counts) (sym (its_side_is t now x.owing)) a) (subst (OwesRightly (not t) shapes users counts) (sym (other_side_is t now x.owing)) b)

  by_hearer : (shapes : Sockets → Option Shape) (users : Bool → ℕ → Option Sockets) (counts : Sockets → Count) (now : List Owing) → OwesRightly t shapes users counts (x.owing t) → OwesRightly (not t) shapes users counts now
      → (s : Bool) → OwesRightly s shapes users counts (by_side (not t) now x.owing s)
  by_hearer shapes users counts now a b =
      on_both (λ s. OwesRightly s shapes users counts (by_side (not t) now x.owing s)) t
      (subst (OwesRightly t shapes users counts) (sym (other_side_kept t now x.owing)) a) (subst (OwesRightly (not t) shapes users counts) (sym (its_side_is (not t) now x.owing)) b)

  pub owes_step : (c : Command) → Legal t c x → (s : Bool) → OwesOf s (after_said_by t c x)
  owes_step (Rts receive send link) l s =
      ask_owes (sockets_by t receive send) link (users_put x.users t link (sockets_by t receive send)) (put_users x.users t link (sockets_by t receive send) l.tally) s
  owes_step (Str send receive size) l s = ask_owes (sockets_by t send receive) size x.users (λ r l u k. k) s
  owes_step (Cls my your) l s =
      let v = sockets_by t my your in
      by_speaker (shapes_then v) (users_then v) (counts_then v) (owing_without v (x.owing t)) (left_owes v) (heard_owes v) s
  owes_step (Eco byte) l s =
      by_hearer x.shapes x.users x.counts (x.owing (not t) ++ Echoes byte ∷ []) (owes t) (owes_echo (not t) x.shapes x.users x.counts byte (x.owing (not t)) l.tally (owes (not t))) s
  owes_step (Erp byte) l s =
      by_speaker x.shapes x.users x.counts (owed_after (is_echo_of byte) (x.owing t)) (owes_after t x.shapes x.users x.counts (is_echo_of byte) (x.owing t) (owes t)) (owes (not t)) s
  owes_step (Err code bytes) l s = absurd l.tally
  owes_step Nop l s = owes s
  owes_step (All link messages bits) l s =
      counts_owe (count_put x.counts (x.users t link) (counted_on messages bits)) (recall_put x.counts (x.users t link) (counted_on messages bits) (λ k e. e)) s
  owes_step (Gvb link fm fb) l s =
      let now = count_put x.counts (x.users t link) (recalled_by t fm fb) in
      by_hearer x.shapes x.users now (x.owing (not t) ++ return_asked t link fm fb x.shapes x.counts (x.users t link))
      (counts_owe now (recall_put x.counts (x.users t link) (recalled_by t fm fb) (λ k e. recalls_now t fm fb k)) t) (asked_owes link fm fb l.tally) s
  owes_step (Ret link messages bits) l s =
      let p = λ (u : Sockets). HasNumbers t messages bits (x.counts u) in
      by_speaker x.shapes x.users (count_put x.counts (x.users (not t) link) (returned_by t messages bits)) (owed_after (is_returning_on link) (x.owing t))
      (given_owes link messages bits p l.tally) (taken_owes link messages bits p l.tally) s
  owes_step (Inr link) l s = owes s
  owes_step (Ins link) l s = owes s
  owes_step Rst l s = owes s
  owes_step Rrp l s = owes s

  -- a text takes nothing of it, and what the one who sees it owes may be forgotten

  pub owes_text : (link bits : ℕ) (s : Bool) → OwesOf s (after_text_by t link bits x)
  owes_text link bits s = counts_owe (count_put x.counts (x.users (not t) link) (counted_off 1 bits)) (recall_put x.counts (x.users (not t) link) (counted_off 1 bits) (λ k e. e)) s

pub owes_forgotten : (x : Said) → ((s : Bool) → OwesOf s x) → (s : Bool) → OwesOf s (without_owed x)
owes_forgotten x owes true = tt
owes_forgotten x owes false = owes false
