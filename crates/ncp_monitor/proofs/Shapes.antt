-- A connection as one of the two hosts keeps it, and as it is seen at the interface of this host while commands of it wait:
-- what is kept is what is seen after those that wait; and what the other says does the same to both.
use Rattle.std.proofs.Common.{◌≡◌, ℕ, Bool, true, false, not, ◌&&◌, if◌then◌else◌, List, [], ◌∷◌, ◌++◌, Option, None, Some, is_some, refl, sym, ap, ◌∙◌, subst}
use Rattle.std.proofs.Math.Bool.{and-false}

-- the requests of both sides, by their link or size, and the CLSs of both
pub record Shape : Type 0 where
  pub own : Option ℕ
  pub others : Option ℕ
  pub left : Bool
  pub cls : Bool

-- a request, or a CLS
pub data Say : Type 0 where
  Ask : (number : ℕ) → Say
  Leave : Say

abbrev pub new_shape : Shape
new_shape = record { own = None; others = None; left = false; cls = false }

abbrev pub or_new : Option Shape → Shape
or_new None = new_shape
or_new (Some m) = m

-- ---- what the host says

-- it may: it has not asked, nor left
abbrev pub legal : Say → Option Shape → Bool
legal (Ask n) None = true
legal (Ask n) (Some m) = not (is_some m.own) && not m.left
legal Leave None = false
legal Leave (Some m) = not m.left

abbrev pub own_step : Say → Option Shape → Option Shape
own_step (Ask n) m = Some (record (or_new m) { own = Some n })
own_step Leave None = None
own_step Leave (Some m) = if m.cls then None else Some (record m { left = true })

-- ---- what the other says

abbrev pub their_legal : Say → Option Shape → Bool
their_legal (Ask n) None = true
their_legal (Ask n) (Some m) = not (is_some m.others) && not m.cls
their_legal Leave None = false
their_legal Leave (Some m) = not m.cls

abbrev pub their_step : Say → Option Shape → Option Shape
their_step (Ask n) m = Some (record (or_new m) { others = Some n })
their_step Leave None = None
their_step Leave (Some m) = if m.left then None else Some (record m { cls = true })

-- ---- what is kept, what is seen, and what waits

abbrev pub Agrees : List Say → Option Shape → Option Shape → Type 0
Agrees [] e m = m ≡ e
Agrees (c ∷ q) e m = (legal c m ≡ true) × Agrees q e (own_step c m)

-- one more waits: the host has said it
pub says : (q : List Say) (e m : Option Shape) (c : Say) → legal c e ≡ true → Agrees q e m → Agrees (q ++ c ∷ []) (own_step c e) m
says [] e m c l a = (subst (λ (x : Option Shape). legal c x ≡ true) (sym a) l, ap (own_step c) a)
says (d ∷ q) e m c l (k, a) = (k, says q e (own_step d m) c l a)

-- ---- the other says something

-- both may, and in either order the same comes of it
record Commute (c x : Say) (m : Option Shape) : Type 0 where
  pub legal : legal c (their_step x m) ≡ true
  pub theirs : their_legal x (own_step c m) ≡ true
  pub same : own_step c (their_step x m) ≡ their_step x (own_step c m)

commute : (c x : Say) (m : Option Shape) → legal c m ≡ true → their_legal x m ≡ true → Commute c x m
commute (Ask n) (Ask k) None l t = record { legal = refl; theirs = refl; same = refl }
commute (Ask n) Leave None l t = absurd (cc t)
commute Leave x None l t = absurd (cc l)
commute (Ask n) (Ask k) (Some m) l t = record { legal = l; theirs = t; same = refl }
commute (Ask n) Leave (Some m) l t = go m.left refl
  where
    go : (b : Bool) → m.left ≡ b → Commute (Ask n) Leave (Some m)
    go true e =
        let nay : (not (is_some m.own) && false) ≡ true = ap (λ (b : Bool). not (is_some m.own) && not b) (sym e) ∙ l in
        let no : true ≡ false = sym nay ∙ and-false (not (is_some m.own)) in absurd (cc no)
    go false e = record {
      legal = subst (λ (b : Bool). legal (Ask n) (if b then None else Some (record m { cls = true })) ≡ true) (sym e) l;
      theirs = t;
      same = subst (λ (b : Bool). own_step (Ask n) (if b then None else Some (record m { cls = true })) ≡ (if b then None else Some (record m { own = Some n; cls = true }))) (sym e) refl;
    }
commute Leave (Ask k) (Some m) l t = go m.cls refl
  where
    go : (b : Bool) → m.cls ≡ b → Commute Leave (Ask k) (Some m)
    go true e =
        let nay : (not (is_some m.others) && false) ≡ true = ap (λ (b : Bool). not (is_some m.others) && not b) (sym e) ∙ t in
        let no : true ≡ false = sym nay ∙ and-false (not (is_some m.others)) in absurd (cc no)
    go false e = record {
      legal = l;
      theirs = subst (λ (b : Bool). their_legal (Ask k) (if b then None else Some (record m { left = true })) ≡ true) (sym e) t;
      same = subst (λ (b : Bool). (if b then None else Some (record m { others = Some k; left = true })) ≡ their_step (Ask k) (if b then None else Some (record m { left = true }))) (sym e) refl;
    }
commute Leave Leave (Some m) l t = go m.left m.cls refl refl
  where
    go : (a b : Bool) → m.left ≡ a → m.cls ≡ b → Commute Leave Leave (Some m)
    go true b d e = let nay : not true ≡ true = ap not (sym d) ∙ l in absurd (cc nay)
    go false true d e = let nay : not true ≡ true = ap not (sym e) ∙ t in absurd (cc nay)
    go false false d e = record {
      legal = subst (λ (b : Bool). legal Leave (if b then None else Some (record m { cls = true })) ≡ true) (sym d) l;
      theirs = subst (λ (b : Bool). their_legal Leave (if b then None else Some (record m { left = true })) ≡ true) (sym e) t;
      same = subst (λ (b : Bool). own_step Leave (if b then None else Some (record m { cls = true })) ≡ their_step Leave (own_step Leave (Some m))) (sym d)
          (subst (λ (b : Bool). None ≡ their_step Leave (if b then None else Some (record m { left = true }))) (sym e) refl);
    }

-- what may be said by what is seen may be said by what is kept, and does the same to it
pub hears : (q : List Say) (e m : Option Shape) (x : Say) → their_legal x m ≡ true → Agrees q e m → Agrees q (their_step x e) (their_step x m)
hears [] e m x t a = ap (their_step x) a
hears (c ∷ q) e m x t (k, a) =
    let both = commute c x m k t in
    (both.legal, subst (Agrees q (their_step x e)) (sym both.same) (hears q e (own_step c m) x both.theirs a))

pub may_hear : (q : List Say) (e m : Option Shape) (x : Say) → their_legal x m ≡ true → Agrees q e m → their_legal x e ≡ true
may_hear [] e m x t a = subst (λ (y : Option Shape). their_legal x y ≡ true) a t
may_hear (c ∷ q) e m x t (l, a) = may_hear q e (own_step c m) x (commute c x m l t).theirs a

-- ---- a second request of the other, before its CLS: it is refused

abbrev pub others_of : Option Shape → Option ℕ
others_of None = None
others_of (Some m) = m.others

abbrev pub is_closed : Option Shape → Bool
is_closed None = false
is_closed (Some m) = m.cls

-- it has asked with this number, and sent no CLS
pub record HasAsked (n : ℕ) (m : Option Shape) : Type 0 where
  pub asked : others_of m ≡ Some n
  pub unclosed : is_closed m ≡ false

own_keeps : (c : Say) (m : Option Shape) (n : ℕ) → HasAsked n m → HasAsked n (own_step c m)
own_keeps (Ask k) None n h = record { asked = h.asked; unclosed = h.unclosed }
own_keeps (Ask k) (Some m) n h = record { asked = h.asked; unclosed = h.unclosed }
own_keeps Leave None n h = h
own_keeps Leave (Some m) n h = subst (λ (b : Bool). HasAsked n (if b then None else Some (record m { left = true }))) (sym h.unclosed) (record { asked = h.asked; unclosed = h.unclosed })

pub still_asked : (q : List Say) (e m : Option Shape) (n : ℕ) → HasAsked n m → Agrees q e m → HasAsked n e
still_asked [] e m n h a = subst (HasAsked n) a h
still_asked (c ∷ q) e m n h (l, a) = still_asked q e (own_step c m) n (own_keeps c m n h) a

-- what is kept of its request was seen

own_others : (c : Say) (m : Option Shape) (n : ℕ) → others_of (own_step c m) ≡ Some n → others_of m ≡ Some n
own_others (Ask k) None n e = e
own_others (Ask k) (Some m) n e = e
own_others Leave None n e = e
own_others Leave (Some m) n e = go m.cls e
  where
    go : (b : Bool) → others_of (if b then None else Some (record m { left = true })) ≡ Some n → m.others ≡ Some n
    go true e = absurd (cc e)
    go false e = e

pub others_were : (q : List Say) (e m : Option Shape) (n : ℕ) → Agrees q e m → others_of e ≡ Some n → others_of m ≡ Some n
others_were [] e m n a h = ap others_of a ∙ h
others_were (c ∷ q) e m n (l, a) h = own_others c m n (others_were q e (own_step c m) n a h)
