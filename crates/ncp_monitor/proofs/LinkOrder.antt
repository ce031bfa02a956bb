-- A link that does not rest has no user when an RTS of the host with it goes out: whatever the other says meanwhile.
use Rattle.std.proofs.Common.{◌≡◌, ℕ, ◌==◌, Bool, true, false, not, ◌&&◌, if◌then◌else◌, List, [], ◌∷◌, ◌++◌, Option, None, Some, ◌⊎◌, inl, inr, refl, sym, ap, ◌∙◌, subst}
use Rattle.std.proofs.lemmas.Bool.{eqb-true, and_parts}
use Rattle.ncp_monitor.proofs.Shapes.{Shape, Say, Ask, Leave, Agrees, own_step, their_step, their_legal, is_closed}

-- the sockets of a connection
abbrev pub Sockets : Type 0
Sockets = ℕ × ℕ

abbrev pub same : Sockets → Sockets → Bool
same u p = (u.0 == p.0) && (u.1 == p.1)

-- the connections of all sockets, and one of them changed
abbrev pub put : (Sockets → Option Shape) → Sockets → Option Shape → Sockets → Option Shape
put m p s u = if same u p then s else m u

abbrev pub number_of : Option Shape → Option ℕ
number_of None = None
number_of (Some s) = s.own

-- the host does not receive on this link by it
abbrev pub Lacks : ℕ → Option Shape → Type 0
Lacks l m = number_of m ≡ Some l → ⊥

-- the host asks with this link
abbrev pub takes : (Sockets → Bool) → ℕ → Sockets → ℕ → Bool
takes receives l p n = receives p && (n == l)

-- rests: the connections at rest
abbrev pub Free : (Sockets → Bool) → ℕ → (Sockets → Bool) → List (Sockets × Say) → (Sockets → Option Shape) → Type 0
Free receives l suspended [] m = Unit {0}
Free receives l suspended ((p, Ask n) ∷ w) m =
    ((suspended p && takes receives l p n) ≡ true)
    ⊎ ((takes receives l p n ≡ true → (u : Sockets) → suspended u ≡ false → receives u ≡ true → Lacks l (m u)) × Free receives l suspended w (put m p (own_step (Ask n) (m p))))
Free receives l suspended ((p, Leave) ∷ w) m = Free receives l suspended w (put m p (own_step Leave (m p)))

-- ---- less is taken

-- no other number, and closed where it was
pub record Less (less m : Option Shape) : Type 0 where
  pub number : (number_of less ≡ number_of m) ⊎ (number_of less ≡ None)
  pub closed : is_closed m ≡ true → is_closed less ≡ true

pub less_lacks : (l : ℕ) (less m : Option Shape) → Less less m → Lacks l m → Lacks l less
less_lacks l less m a k e = go a.number
  where
    go : (number_of less ≡ number_of m) ⊎ (number_of less ≡ None) → ⊥
    go (inl s) = k (sym s ∙ e)
    go (inr s) = let nay : None ≡ Some l = sym s ∙ e in cc nay

pub same_less : (m : Option Shape) → Less m m
same_less m = record { number = inl refl; closed = λ e. e }

asked_closed : (n : ℕ) (m : Option Shape) → is_closed (own_step (Ask n) m) ≡ is_closed m
asked_closed n None = refl
asked_closed n (Some s) = refl

asked_number : (n : ℕ) (m : Option Shape) → number_of (own_step (Ask n) m) ≡ Some n
asked_number n None = refl
asked_number n (Some s) = refl

own_less : (c : Say) (less m : Option Shape) → Less less m → Less (own_step c less) (own_step c m)
own_less (Ask n) less m a = record {
  number = inl (asked_number n less ∙ sym (asked_number n m));
  closed = λ e. asked_closed n less ∙ a.closed (sym (asked_closed n m) ∙ e);
}
own_less Leave None None a = a
own_less Leave None (Some s) a = go s.cls refl
  where
    go : (b : Bool) → s.cls ≡ b → Less None (if b then None else Some (record s { left = true }))
    go true e = same_less None
    go false e = record { number = inr refl; closed = λ d. let nay : false ≡ true = sym e ∙ d in absurd (cc nay) }
own_less Leave (Some t) None a = go t.cls a.number
  where
    go : (b : Bool) → (t.own ≡ None) ⊎ (t.own ≡ None) → Less (if b then None else Some (record t { left = true })) None
    go true e = same_less None
    go false (inl e) = record { number = inr e; closed = λ d. absurd (cc d) }
    go false (inr e) = record { number = inr e; closed = λ d. absurd (cc d) }
own_less Leave (Some t) (Some s) a = go t.cls s.cls refl refl
  where
    go : (x y : Bool) → t.cls ≡ x → s.cls ≡ y → Less (if x then None else Some (record t { left = true })) (if y then None else Some (record s { left = true }))
    go true true d e = same_less None
    go true false d e = record { number = inr refl; closed = λ f. let nay : false ≡ true = sym e ∙ f in absurd (cc nay) }
    go false true d e = let nay : false ≡ true = sym d ∙ a.closed e in absurd (cc nay)
    go false false d e = record { number = a.number; closed = a.closed }

-- what the other says, where it may
pub their_less : (x : Say) (m : Option Shape) → their_legal x m ≡ true → Less (their_step x m) m
their_less (Ask k) None t = record { number = inl refl; closed = λ e. e }
their_less (Ask k) (Some s) t = record { number = inl refl; closed = λ e. e }
their_less Leave None t = same_less None
their_less Leave (Some s) t = go s.left
  where
    go : (b : Bool) → Less (if b then None else Some (record s { cls = true })) (Some s)
    go true = record { number = inr refl; closed = λ e. let nay : not true ≡ true = ap not (sym e) ∙ t in absurd (cc nay) }
    go false = record { number = inl refl; closed = λ e. refl }

-- ---- it stays free

pub same_is : (u p : Sockets) → same u p ≡ true → u ≡ p
same_is (a, b) (x, y) e =
    let parts = and_parts (a == x) (b == y) e in
    ap (λ (n : ℕ). (n, b)) (eqb-true a x parts.0) ∙ ap (λ (n : ℕ). (x, n)) (eqb-true b y parts.1)

-- where less is taken, of the connections that do not rest, and more rest
pub stays_free : (receives : Sockets → Bool) (l : ℕ) (suspended more : Sockets → Bool) (w : List (Sockets × Say)) (less m : Sockets → Option Shape)
    → ((u : Sockets) → more u ≡ false → (suspended u ≡ false) × Less (less u) (m u)) → Free receives l suspended w m → Free receives l more w less
stays_free receives l suspended more [] less m h f = f
stays_free receives l suspended more ((p, Leave) ∷ w) less m h f = stays_free receives l suspended more w (put less p (own_step Leave (less p))) (put m p (own_step Leave (m p))) next f
  where
    other : (u : Sockets) → more u ≡ false → (s : Bool) → same u p ≡ s → Less (if s then own_step Leave (less p) else less u) (if s then own_step Leave (m p) else m u)
    other u k true e = own_less Leave (less p) (m p) (subst (λ (x : Sockets). Less (less x) (m x)) (same_is u p e) (h u k).1)
    other u k false e = (h u k).1

    next : (u : Sockets) → more u ≡ false → (suspended u ≡ false) × Less (put less p (own_step Leave (less p)) u) (put m p (own_step Leave (m p)) u)
    next u k = ((h u k).0, other u k (same u p) refl)
stays_free receives l suspended more ((p, Ask n) ∷ w) less m h f = go (more p) refl (stays_free receives l suspended more w (put less p (own_step (Ask n) (less p))) (put m p (own_step (Ask n) (m p))) next) f
  where
    other : (u : Sockets) → more u ≡ false → (s : Bool) → same u p ≡ s → Less (if s then own_step (Ask n) (less p) else less u) (if s then own_step (Ask n) (m p) else m u)
    other u k true e = own_less (Ask n) (less p) (m p) (subst (λ (x : Sockets). Less (less x) (m x)) (same_is u p e) (h u k).1)
    other u k false e = (h u k).1

    next : (u : Sockets) → more u ≡ false → (suspended u ≡ false) × Less (put less p (own_step (Ask n) (less p)) u) (put m p (own_step (Ask n) (m p)) u)
    next u k = ((h u k).0, other u k (same u p) refl)

    go : (b : Bool) → more p ≡ b → (Free receives l suspended w (put m p (own_step (Ask n) (m p))) → Free receives l more w (put less p (own_step (Ask n) (less p))))
        → ((suspended p && takes receives l p n) ≡ true)
        ⊎ ((takes receives l p n ≡ true → (u : Sockets) → suspended u ≡ false → receives u ≡ true → Lacks l (m u)) × Free receives l suspended w (put m p (own_step (Ask n) (m p))))
        → Free receives l more ((p, Ask n) ∷ w) less
    go true e rest (inl r) = inl (ap (λ (b : Bool). b && takes receives l p n) e ∙ (and_parts (suspended p) (takes receives l p n) r).1)
    go false e rest (inl r) = let nay : true ≡ false = sym (and_parts (suspended p) (takes receives l p n) r).0 ∙ (h p e).0 in absurd (cc nay)
    go b e rest (inr (k, f)) = inr (λ t u j r. less_lacks l (less u) (m u) (h u j).1 (k t u (h u j).0 r), rest f)

-- ---- one more waits: the host has chosen a link that no connection has then

-- what all is after those that wait
abbrev pub after_all : List (Sockets × Say) → (Sockets → Option Shape) → Sockets → Option Shape
after_all [] m = m
after_all ((p, c) ∷ w) m = after_all w (put m p (own_step c (m p)))

pub asks_free : (receives : Sockets → Bool) (l : ℕ) (suspended : Sockets → Bool) (w : List (Sockets × Say)) (m : Sockets → Option Shape) (p : Sockets) (n : ℕ)
    → (takes receives l p n ≡ true → (u : Sockets) → suspended u ≡ false → receives u ≡ true → Lacks l (after_all w m u))
    → Free receives l suspended w m → Free receives l suspended (w ++ (p, Ask n) ∷ []) m
asks_free receives l suspended [] m p n k f = inr (k, tt)
asks_free receives l suspended ((q, Ask j) ∷ w) m p n k (inl r) = inl r
asks_free receives l suspended ((q, Ask j) ∷ w) m p n k (inr (g, f)) = inr (g, asks_free receives l suspended w (put m q (own_step (Ask j) (m q))) p n k f)
asks_free receives l suspended ((q, Leave) ∷ w) m p n k f = asks_free receives l suspended w (put m q (own_step Leave (m q))) p n k f

pub leaves_free : (receives : Sockets → Bool) (l : ℕ) (suspended : Sockets → Bool) (w : List (Sockets × Say)) (m : Sockets → Option Shape) (p : Sockets)
    → Free receives l suspended w m → Free receives l suspended (w ++ (p, Leave) ∷ []) m
leaves_free receives l suspended [] m p f = tt
leaves_free receives l suspended ((q, Ask j) ∷ w) m p (inl r) = inl r
leaves_free receives l suspended ((q, Ask j) ∷ w) m p (inr (g, f)) = inr (g, leaves_free receives l suspended w (put m q (own_step (Ask j) (m q))) p f)
leaves_free receives l suspended ((q, Leave) ∷ w) m p f = leaves_free receives l suspended w (put m q (own_step Leave (m q))) p f

-- ---- what waits about one connection

abbrev pub about : Sockets → List (Sockets × Say) → List Say
about u [] = []
about u ((p, c) ∷ w) = if same u p then c ∷ about u w else about u w

pub about_after : (u : Sockets) (w : List (Sockets × Say)) (p : Sockets) (c : Say) → about u (w ++ (p, c) ∷ []) ≡ (if same u p then about u w ++ c ∷ [] else about u w)
about_after u [] p c = refl
about_after u ((q, d) ∷ w) p c = go (same u q) (same u p) (about_after u w p c)
  where
    go : (x y : Bool) → about u (w ++ (p, c) ∷ []) ≡ (if y then about u w ++ c ∷ [] else about u w)
        → (if x then d ∷ about u (w ++ (p, c) ∷ []) else about u (w ++ (p, c) ∷ []))
        ≡ (if y then (if x then d ∷ about u w else about u w) ++ c ∷ [] else if x then d ∷ about u w else about u w)
    go true true e = ap (λ (xs : List Say). d ∷ xs) e
    go true false e = ap (λ (xs : List Say). d ∷ xs) e
    go false y e = e

-- what one is after all that waits is what is kept of it
pub all_seen : (w : List (Sockets × Say)) (m : Sockets → Option Shape) (u : Sockets) (e : Option Shape) → Agrees (about u w) e (m u) → after_all w m u ≡ e
all_seen [] m u e a = a
all_seen ((p, c) ∷ w) m u e a = all_seen w (put m p (own_step c (m p))) u e (go (same u p) refl a)
  where
    go : (b : Bool) → same u p ≡ b → Agrees (if b then c ∷ about u w else about u w) e (m u) → Agrees (about u w) e (if b then own_step c (m p) else m u)
    go true s (k, a) = subst (λ (x : Sockets). Agrees (about u w) e (own_step c (m x))) (same_is u p s) a
    go false s a = a
