-- Both sides of an open connection have the same counts, with any queued commands, when the other host
-- grants, calls back, gives back or sends: its command is counted at once, before the queued ones.
use Rattle.std.proofs.Common.{◌≡◌, ◌≤◌, ℕ, ◌+◌, Bool, true, false, not, ◌&&◌, ◌||◌, nat_le, if◌then◌else◌, List, [], ◌∷◌, Option, None, Some, is_some, refl, sym, ap, ◌∙◌, subst, arith}
use Rattle.ncp_model.specs.Endpoint.{Endpoint, is_closing}
use Rattle.ncp_monitor.proofs.Shapes.{Shape, Ask, Leave, legal, own_step, is_closed}
use Rattle.ncp_proof_monitor_allocation.proofs.Words.{Word, Speaks, Grants, Recalls, Returns, Hints, Count, no_count, link_given, is_within, count_after, Agreed, FitsEnd, Fits, open_link}

-- ---- a connection that the host asked for, and that the other has not closed, with this link

pub record Lasting (sends : Bool) (on : ℕ) (m : Option Shape) : Type 0 where
  pub shape : Shape
  pub is : m ≡ Some shape
  pub own : is_some shape.own ≡ true
  pub unclosed : shape.cls ≡ false
  pub given : link_given sends m ≡ Some on

asked_again : (sends : Bool) (on n : ℕ) (m : Option Shape) → Lasting sends on m → legal (Ask n) m ≡ true → ⊥
asked_again sends on n m l r =
    let nay : (not true && not l.shape.left) ≡ true = ap (λ (b : Bool). not b && not l.shape.left) (sym l.own) ∙ ap (legal (Ask n)) (sym l.is) ∙ r in cc nay

leave_lasts : (sends : Bool) (on : ℕ) (m : Option Shape) → Lasting sends on m → Lasting sends on (own_step Leave m)
leave_lasts sends on m l = record {
  shape = record l.shape { left = true };
  is = now;
  own = l.own;
  unclosed = l.unclosed;
  given = ap (link_given sends) now ∙ sym (ap (link_given sends) l.is) ∙ l.given;
}
  where
    now : own_step Leave m ≡ Some (record l.shape { left = true })
    now = ap (own_step Leave) l.is ∙ ap (λ (b : Bool). if b then None else Some (record l.shape { left = true })) l.unclosed

leave_counts : (sends : Bool) (on : ℕ) (m : Option Shape) (k : Count) → Lasting sends on m → count_after (Speaks Leave) m k ≡ k
leave_counts sends on m k l = ap (λ (b : Bool). if b then no_count else k) (ap is_closed l.is ∙ l.unclosed)

-- ---- the host sends: what waits moves no number

pub sender_recounted : (links : ℕ → Bool) (fits then_fits : Option Shape → Count → Type 0) (on : ℕ) (ws : List Word) (m : Option Shape) (k j : Count) → Lasting true on m
    → ((x : Option Shape) (y z : Count) → link_given true x ≡ Some on → y.messages ≡ k.messages → y.bits ≡ k.bits → z.messages ≡ j.messages → z.bits ≡ j.bits → fits x y → then_fits x z)
    → Agreed true links fits ws m k → Agreed true links then_fits ws m j
sender_recounted links fits then_fits on [] m k j l f a = f m k j l.given refl refl refl refl a
sender_recounted links fits then_fits on (Speaks (Ask n) ∷ ws) m k j l f (r, (i, a)) = absurd (asked_again true on n m l r)
sender_recounted links fits then_fits on (Speaks Leave ∷ ws) m k j l f (r, (i, a)) = (
  r,
  (
    i,
    subst (Agreed true links then_fits ws (own_step Leave m)) (sym (leave_counts true on m j l))
        (sender_recounted links fits then_fits on ws (own_step Leave m) k j (leave_lasts true on m l) f (subst (Agreed true links fits ws (own_step Leave m)) (leave_counts true on m k l) a)),
  ),
)
sender_recounted links fits then_fits on (Grants link messages bits ∷ ws) m k j l f (r, (i, a)) = absurd (cc r)
sender_recounted links fits then_fits on (Recalls link of_messages of_bits ∷ ws) m k j l f (r, (i, a)) = absurd (cc r)
sender_recounted links fits then_fits on (Returns link messages bits ∷ ws) m k j l f (r, (i, a)) =
    (r, (i, sender_recounted links fits then_fits on ws m (count_after (Returns link messages bits) m k) (count_after (Returns link messages bits) m j) l f a))
sender_recounted links fits then_fits on (Hints link ∷ ws) m k j l f (r, (i, a)) = (r, (i, sender_recounted links fits then_fits on ws m k j l f a))

-- what was counted before is what the host has
pub sender_counted : (links : ℕ → Bool) (on : ℕ) (ws : List Word) (m : Option Shape) (k : Count) (o : Option Endpoint) (e : Endpoint) → Lasting true on m → links on ≡ false → o ≡ Some e → is_closing e ≡ false
    → Agreed true links (Fits true links o) ws m k → (k.messages ≡ e.messages) × (k.bits ≡ e.bits)
sender_counted links on [] m k o e l r s g a = let c = (a e s g).given on l.given r in (c.messages, c.bits)
sender_counted links on (Speaks (Ask n) ∷ ws) m k o e l r s g (h, (i, a)) = absurd (asked_again true on n m l h)
sender_counted links on (Speaks Leave ∷ ws) m k o e l r s g (h, (i, a)) =
    sender_counted links on ws (own_step Leave m) k o e (leave_lasts true on m l) r s g (subst (Agreed true links (Fits true links o) ws (own_step Leave m)) (leave_counts true on m k l) a)
sender_counted links on (Grants link messages bits ∷ ws) m k o e l r s g (h, (i, a)) = absurd (cc h)
sender_counted links on (Recalls link of_messages of_bits ∷ ws) m k o e l r s g (h, (i, a)) = absurd (cc h)
sender_counted links on (Returns link messages bits ∷ ws) m k o e l r s g (h, (i, a)) = sender_counted links on ws m (count_after (Returns link messages bits) m k) o e l r s g a
sender_counted links on (Hints link ∷ ws) m k o e l r s g (h, (i, a)) = sender_counted links on ws m k o e l r s g a

same_some : (e d : Endpoint) → Some e ≡ Some d → e ≡ d
same_some e d s = cc s

-- both sides move their numbers by the same
pub sender_agreed : (links : ℕ → Bool) (on : ℕ) (ws : List Word) (m : Option Shape) (k j : Count) (e now : Endpoint) → Lasting true on m → links on ≡ false → is_closing now ≡ is_closing e
    → (k.messages ≡ e.messages → j.messages ≡ now.messages) → (k.bits ≡ e.bits → j.bits ≡ now.bits) → Agreed true links (Fits true links (Some e)) ws m k → Agreed true links (Fits true links (Some now)) ws m j
sender_agreed links on ws m k j e now l r going f h = sender_recounted links (Fits true links (Some e)) (Fits true links (Some now)) on ws m k j l at
  where
    at : (x : Option Shape) (y z : Count) → link_given true x ≡ Some on → y.messages ≡ k.messages → y.bits ≡ k.bits → z.messages ≡ j.messages → z.bits ≡ j.bits → Fits true links (Some e) x y → Fits true links (Some now) x z
    at x y z given ym yb zm zb a d s g =
        let is : now ≡ d = same_some now d s in
        subst (λ (v : Endpoint). FitsEnd true links v x z) is
        (record {
          given = λ c t u.
              let it = (a e refl (sym going ∙ ap is_closing is ∙ g)).given on given r in
              record { messages = zm ∙ f (sym ym ∙ it.messages); bits = zb ∙ h (sym yb ∙ it.bits); recall = λ p. absurd (cc p) };
          ungiven = λ t. absurd (cc (sym given ∙ t));
        })

-- of one that is on its way out nothing has to be shown
pub sender_late : (links : ℕ → Bool) (on : ℕ) (ws : List Word) (m : Option Shape) (k j : Count) (e : Endpoint) → Lasting true on m → is_closing e ≡ true
    → Agreed true links (Fits true links (Some e)) ws m k → Agreed true links (Fits true links (Some e)) ws m j
sender_late links on ws m k j e l going = sender_recounted links (Fits true links (Some e)) (Fits true links (Some e)) on ws m k j l (λ x y z given ym yb zm zb a d s g. absurd (nay d (same_some e d s) g))
  where
    nay : (d : Endpoint) → e ≡ d → is_closing d ≡ false → ⊥
    nay d s g = let k : true ≡ false = sym going ∙ ap is_closing s ∙ g in cc k

-- ---- the host receives: what waits adds to both

-- so much is taken off; with a RET the GVB is answered
abbrev pub RecallSo : Bool → Count → Count → Type 0
RecallSo true k j = (k.recall ≡ true) × (j.recall ≡ false)
RecallSo false k j = k.recall ≡ j.recall

pub record Takes (a b : ℕ) (returns : Bool) (k j : Count) : Type 0 where
  pub messages : k.messages ≡ j.messages + a
  pub bits : k.bits ≡ j.bits + b
  pub recall : RecallSo returns k j

granted_too : (a b : ℕ) (returns : Bool) (k j : Count) (messages bits : ℕ) → Takes a b returns k j
    → Takes a b returns (record k { messages = k.messages + messages; bits = k.bits + bits }) (record j { messages = j.messages + messages; bits = j.bits + bits })
granted_too a b returns k j messages bits t = record { messages = both k.messages j.messages messages a t.messages; bits = both k.bits j.bits bits b t.bits; recall = by returns t.recall }
  where
    both : (x y z c : ℕ) → x ≡ y + c → x + z ≡ y + z + c
    both x y z c e = grind arith

    by : (r : Bool) → RecallSo r k j → RecallSo r (record k { messages = k.messages + messages; bits = k.bits + bits }) (record j { messages = j.messages + messages; bits = j.bits + bits })
    by true e = e
    by false e = e

unrested : (x y : Bool) → x ≡ false → (x || y) ≡ true → y ≡ true
unrested true y e f = absurd (cc e)
unrested false y e f = f

within_too : (km jm kb jb a b messages bits : ℕ) → km ≡ jm + a → kb ≡ jb + b → (nat_le (km + messages) 65535 && nat_le (kb + bits) 65536) ≡ true → (nat_le (jm + messages) 65535 && nat_le (jb + bits) 65536) ≡ true
within_too km jm kb jb a b messages bits e f h = grind arith

-- a GVB that is right has none before it that is not answered
recalled_too : (a b : ℕ) (returns : Bool) (k j : Count) → Takes a b returns k j → not k.recall ≡ true → (not j.recall ≡ true) × Takes a b returns (record k { recall = true }) (record j { recall = true })
recalled_too a b true k j t n = let nay : not true ≡ true = ap not (sym t.recall.0) ∙ n in absurd (cc nay)
recalled_too a b false k j t n = (ap not (sym t.recall) ∙ n, record { messages = t.messages; bits = t.bits; recall = refl })

or_so : (x y : Bool) → y ≡ true → (x || y) ≡ true
or_so true y e = refl
or_so false y e = e

pub receiver_recounted : (links : ℕ → Bool) (fits then_fits : Option Shape → Count → Type 0) (on a b : ℕ) (returns : Bool) (ws : List Word) (m : Option Shape) (k j : Count) → Lasting false on m → links on ≡ false → Takes a b returns k j
    → ((x : Option Shape) (y z : Count) → link_given false x ≡ Some on → Takes a b returns y z → fits x y → then_fits x z) → Agreed false links fits ws m k → Agreed false links then_fits ws m j
receiver_recounted links fits then_fits on a b returns [] m k j l u t f h = f m k j l.given t h
receiver_recounted links fits then_fits on a b returns (Speaks (Ask n) ∷ ws) m k j l u t f (r, (i, h)) = absurd (asked_again false on n m l r)
receiver_recounted links fits then_fits on a b returns (Speaks Leave ∷ ws) m k j l u t f (r, (i, h)) = (
  r,
  (
    i,
    subst (Agreed false links then_fits ws (own_step Leave m)) (sym (leave_counts false on m j l))
        (receiver_recounted links fits then_fits on a b returns ws (own_step Leave m) k j (leave_lasts false on m l) u t f (subst (Agreed false links fits ws (own_step Leave m)) (leave_counts false on m k l) h)),
  ),
)
receiver_recounted links fits then_fits on a b returns (Grants link messages bits ∷ ws) m k j l u t f (r, (i, h)) =
    let here : links link ≡ false = ap links (open_link false link on m r l.given) ∙ u in (
      r,
      (
        or_so (links link) (is_within (Grants link messages bits) j) (within_too k.messages j.messages k.bits j.bits a b messages bits t.messages t.bits (unrested (links link) (is_within (Grants link messages bits) k) here i)),
        receiver_recounted links fits then_fits on a b returns ws m (count_after (Grants link messages bits) m k) (count_after (Grants link messages bits) m j) l u (granted_too a b returns k j messages bits t) f h,
      ),
    )
receiver_recounted links fits then_fits on a b returns (Recalls link of_messages of_bits ∷ ws) m k j l u t f (r, (i, h)) =
    let here : links link ≡ false = ap links (open_link false link on m r l.given) ∙ u in
    let both = recalled_too a b returns k j t (unrested (links link) (not k.recall) here i) in (
      r,
      (
        or_so (links link) (not j.recall) both.0,
        receiver_recounted links fits then_fits on a b returns ws m (record k { recall = true }) (record j { recall = true }) l u both.1 f h,
      ),
    )
receiver_recounted links fits then_fits on a b returns (Returns link messages bits ∷ ws) m k j l u t f (r, (i, h)) = absurd (cc r)
receiver_recounted links fits then_fits on a b returns (Hints link ∷ ws) m k j l u t f (r, (i, h)) = (r, (i, receiver_recounted links fits then_fits on a b returns ws m k j l u t f h))

-- the counts before the queued words are at most the host's
pub receiver_counted : (links : ℕ → Bool) (on : ℕ) (ws : List Word) (m : Option Shape) (k : Count) (o : Option Endpoint) (e : Endpoint) → Lasting false on m → links on ≡ false → o ≡ Some e → is_closing e ≡ false
    → Agreed false links (Fits false links o) ws m k → (k.messages ≤ e.messages) × (k.bits ≤ e.bits)
receiver_counted links on [] m k o e l r s g a = let c = (a e s g).given on l.given r in (equal k.messages e.messages c.messages, equal k.bits e.bits c.bits)
  where
    equal : (x y : ℕ) → x ≡ y → x ≤ y
    equal x y e = grind arith
receiver_counted links on (Speaks (Ask n) ∷ ws) m k o e l r s g (h, (i, a)) = absurd (asked_again false on n m l h)
receiver_counted links on (Speaks Leave ∷ ws) m k o e l r s g (h, (i, a)) =
    receiver_counted links on ws (own_step Leave m) k o e (leave_lasts false on m l) r s g (subst (Agreed false links (Fits false links o) ws (own_step Leave m)) (leave_counts false on m k l) a)
receiver_counted links on (Grants link messages bits ∷ ws) m k o e l r s g (h, (i, a)) =
    let more = receiver_counted links on ws m (count_after (Grants link messages bits) m k) o e l r s g a in
    (less k.messages messages e.messages more.0, less k.bits bits e.bits more.1)
  where
    less : (x y z : ℕ) → x + y ≤ z → x ≤ z
    less x y z e = grind arith
receiver_counted links on (Recalls link of_messages of_bits ∷ ws) m k o e l r s g (h, (i, a)) = receiver_counted links on ws m (count_after (Recalls link of_messages of_bits) m k) o e l r s g a
receiver_counted links on (Returns link messages bits ∷ ws) m k o e l r s g (h, (i, a)) = absurd (cc h)
receiver_counted links on (Hints link ∷ ws) m k o e l r s g (h, (i, a)) = receiver_counted links on ws m k o e l r s g a

-- both sides take off the same
pub receiver_agreed : (links : ℕ → Bool) (on a b : ℕ) (returns : Bool) (ws : List Word) (m : Option Shape) (k j : Count) (e now : Endpoint) → Lasting false on m → links on ≡ false → Takes a b returns k j → is_closing now ≡ is_closing e
    → e.messages ≡ now.messages + a → e.bits ≡ now.bits + b → (returns ≡ false → now.recall ≡ e.recall)
    → Agreed false links (Fits false links (Some e)) ws m k → Agreed false links (Fits false links (Some now)) ws m j
receiver_agreed links on a b returns ws m k j e now l r t going f h c = receiver_recounted links (Fits false links (Some e)) (Fits false links (Some now)) on a b returns ws m k j l r t at
  where
    off : (x y p q c : ℕ) → x ≡ y + c → x ≡ p → p ≡ q + c → y ≡ q
    off x y p q c u v w = grind arith

    recalled : (s : Bool) → returns ≡ s → (y z : Count) → RecallSo s y z → (e.recall ≡ false → y.recall ≡ false) → now.recall ≡ false → z.recall ≡ false
    recalled true u y z k n g = k.1
    recalled false u y z k n g = sym k ∙ n (sym (c u) ∙ g)

    at : (x : Option Shape) (y z : Count) → link_given false x ≡ Some on → Takes a b returns y z → Fits false links (Some e) x y → Fits false links (Some now) x z
    at x y z given t fit d s g =
        let is : now ≡ d = same_some now d s in
        subst (λ (v : Endpoint). FitsEnd false links v x z) is
        (record {
          given = λ c v u.
              let it = (fit e refl (sym going ∙ ap is_closing is ∙ g)).given on given r in
              record {
                messages = off y.messages z.messages e.messages now.messages a t.messages it.messages f;
                bits = off y.bits z.bits e.bits now.bits b t.bits it.bits h;
                recall = λ p q. recalled returns refl y z t.recall (it.recall refl) q;
              };
          ungiven = λ v. absurd (cc (sym given ∙ v));
        })

pub receiver_late : (links : ℕ → Bool) (on a b : ℕ) (returns : Bool) (ws : List Word) (m : Option Shape) (k j : Count) (e : Endpoint) → Lasting false on m → links on ≡ false → Takes a b returns k j → is_closing e ≡ true
    → Agreed false links (Fits false links (Some e)) ws m k → Agreed false links (Fits false links (Some e)) ws m j
receiver_late links on a b returns ws m k j e l r t going = receiver_recounted links (Fits false links (Some e)) (Fits false links (Some e)) on a b returns ws m k j l r t (λ x y z given t fit d s g. absurd (nay d (same_some e d s) g))
  where
    nay : (d : Endpoint) → e ≡ d → is_closing d ≡ false → ⊥
    nay d s g = let k : true ≡ false = sym going ∙ ap is_closing s ∙ g in cc k
