-- The observed state of all connections between two hosts matches the state that one host keeps and the
-- commands queued at it. This is preserved when the host makes or sends a command, when the other host
-- sends one, and when a connection becomes suspended.
use Rattle.std.proofs.Common.{◌≡◌, ℕ, ◌==◌, Bool, true, false, ◌&&◌, if◌then◌else◌, List, [], ◌∷◌, ◌++◌, Option, None, ◌⊎◌, inl, inr, eq-eqb, refl, sym, ap, ◌∙◌, subst}
use Rattle.std.proofs.lemmas.Bool.{eqb-true, and_parts}
use Rattle.ncp_monitor.proofs.Shapes.{Shape, Say, Ask, Leave, Agrees, legal, own_step, their_legal, their_step, says, hears}
use Rattle.ncp_monitor.proofs.LinkOrder.{Sockets, same, same_is, put, Lacks, takes, Free, Less, same_less, their_less, stays_free, after_all, all_seen, asks_free, leaves_free, about, about_after}

-- `receives`: the local socket is a receiver's; `links`, `suspended`: the suspended links and
-- connections; `w`: the queue; `e`: the state kept; `m`: the state observed
pub record Tallies (receives : Sockets → Bool) (links : ℕ → Bool) (suspended : Sockets → Bool) (w : List (Sockets × Say)) (e m : Sockets → Option Shape) : Type 0 where
  pub pairs : (u : Sockets) → suspended u ≡ false → Agrees (about u w) (e u) (m u)
  pub free : (l : ℕ) → links l ≡ false → Free receives l suspended w m

-- nothing is there, and nothing waits
pub none_tallies : (receives : Sockets → Bool) (links : ℕ → Bool) (suspended : Sockets → Bool) → Tallies receives links suspended [] (λ u. None) (λ u. None)
none_tallies receives links suspended = record { pairs = λ u r. refl; free = λ l k. tt }

clash : {A : Type 0} (b : Bool) → b ≡ true → b ≡ false → A
clash b x y = let nay : true ≡ false = sym x ∙ y in absurd (cc nay)

pub same_self : (p : Sockets) → same p p ≡ true
same_self (a, b) = rw (eq-eqb a a refl, eq-eqb b b refl) refl

module _ (receives : Sockets → Bool) (links : ℕ → Bool) (suspended : Sockets → Bool) where
  -- ---- the host says something

  said_pairs : (w : List (Sockets × Say)) (e m : Sockets → Option Shape) (p : Sockets) (c : Say) → legal c (e p) ≡ true → Tallies receives links suspended w e m
      → (u : Sockets) → suspended u ≡ false → Agrees (about u (w ++ (p, c) ∷ [])) (put e p (own_step c (e p)) u) (m u)
  said_pairs w e m p c l t u r = subst (λ (q : List Say). Agrees q (put e p (own_step c (e p)) u) (m u)) (sym (about_after u w p c)) (go (same u p) refl)
    where
      go : (b : Bool) → same u p ≡ b → Agrees (if b then about u w ++ c ∷ [] else about u w) (if b then own_step c (e p) else e u) (m u)
      go true s =
          subst (λ (x : Sockets). Agrees (about u w ++ c ∷ []) (own_step c (e x)) (m u)) (same_is u p s)
          (says (about u w) (e u) (m u) c (subst (λ (x : Sockets). legal c (e x) ≡ true) (sym (same_is u p s)) l) (t.pairs u r))
      go false s = t.pairs u r

  -- a request; a receiver has chosen a link that no receiver has
  pub asks_tallies : (w : List (Sockets × Say)) (e m : Sockets → Option Shape) (p : Sockets) (n : ℕ) → legal (Ask n) (e p) ≡ true → (receives p ≡ true → (u : Sockets) → receives u ≡ true → Lacks n (e u))
      → Tallies receives links suspended w e m → Tallies receives links suspended (w ++ (p, Ask n) ∷ []) (put e p (own_step (Ask n) (e p))) m
  asks_tallies w e m p n l none t = record { pairs = said_pairs w e m p (Ask n) l t; free = λ k i. asks_free receives k suspended w m p n (lacks k) (t.free k i) }
    where
      lacks : (k : ℕ) → takes receives k p n ≡ true → (u : Sockets) → suspended u ≡ false → receives u ≡ true → Lacks k (after_all w m u)
      lacks k a u r g =
          let parts = and_parts (receives p) (n == k) a in
          subst (Lacks k) (sym (all_seen w m u (e u) (t.pairs u r))) (subst (λ (x : ℕ). Lacks x (e u)) (eqb-true n k parts.1) (none parts.0 u g))

  -- a CLS
  pub leaves_tallies : (w : List (Sockets × Say)) (e m : Sockets → Option Shape) (p : Sockets) → legal Leave (e p) ≡ true
      → Tallies receives links suspended w e m → Tallies receives links suspended (w ++ (p, Leave) ∷ []) (put e p (own_step Leave (e p))) m
  leaves_tallies w e m p l t = record { pairs = said_pairs w e m p Leave l t; free = λ k i. leaves_free receives k suspended w m p (t.free k i) }

  -- ---- the other says something that is right

  pub hears_tallies : (w : List (Sockets × Say)) (e m : Sockets → Option Shape) (p : Sockets) (x : Say) → their_legal x (m p) ≡ true
      → Tallies receives links suspended w e m → Tallies receives links suspended w (put e p (their_step x (e p))) (put m p (their_step x (m p)))
  hears_tallies w e m p x l t = record {
    pairs = λ u r. pair u r (same u p) refl;
    free = λ k i. stays_free receives k suspended suspended w (put m p (their_step x (m p))) m (λ u r. (r, less u (same u p) refl)) (t.free k i);
  }
    where
      pair : (u : Sockets) → suspended u ≡ false → (b : Bool) → same u p ≡ b → Agrees (about u w) (if b then their_step x (e p) else e u) (if b then their_step x (m p) else m u)
      pair u r true s =
          subst (λ (y : Sockets). Agrees (about u w) (their_step x (e y)) (their_step x (m y))) (same_is u p s)
          (hears (about u w) (e u) (m u) x (subst (λ (y : Sockets). their_legal x (m y) ≡ true) (sym (same_is u p s)) l) (t.pairs u r))
      pair u r false s = t.pairs u r

      less : (u : Sockets) (b : Bool) → same u p ≡ b → Less (if b then their_step x (m p) else m u) (m u)
      less u true s = subst (λ (y : Sockets). Less (their_step x (m p)) (m y)) (sym (same_is u p s)) (their_less x (m p) l)
      less u false s = same_less (m u)

  -- ---- more becomes suspended: nothing has to be known of suspended connections

  unmarked : (busy : ℕ → Bool) → ((n : ℕ) → links n ≡ true → busy n ≡ true) → (k : ℕ) → busy k ≡ false → links k ≡ false
  unmarked busy g k i = by (links k) refl
    where
      by : (b : Bool) → links k ≡ b → links k ≡ false
      by true z = clash (busy k) (g k z) i
      by false z = z

  pub suspended_tally : (busy : ℕ → Bool) (more : Sockets → Bool) (w : List (Sockets × Say)) (e m d o : Sockets → Option Shape)
      → ((n : ℕ) → links n ≡ true → busy n ≡ true) → ((u : Sockets) → more u ≡ false → (suspended u ≡ false) × ((d u ≡ e u) × (o u ≡ m u)))
      → Tallies receives links suspended w e m → Tallies receives busy more w d o
  suspended_tally busy more w e m d o g h t = record {
    pairs = λ u r. pair u (h u r);
    free = λ k i. stays_free receives k suspended more w o m (λ u r. less u (h u r)) (t.free k (unmarked busy g k i));
  }
    where
      pair : (u : Sockets) → (suspended u ≡ false) × ((d u ≡ e u) × (o u ≡ m u)) → Agrees (about u w) (d u) (o u)
      pair u (r, (x, y)) = subst (λ (z : Option Shape). Agrees (about u w) z (o u)) (sym x) (subst (λ (z : Option Shape). Agrees (about u w) (e u) z) (sym y) (t.pairs u r))

      less : (u : Sockets) → (suspended u ≡ false) × ((d u ≡ e u) × (o u ≡ m u)) → (suspended u ≡ false) × Less (o u) (m u)
      less u (r, (x, y)) = (r, subst (λ (z : Option Shape). Less z (m u)) (sym y) (same_less (m u)))

  -- ---- the first queued command is sent

  first_pair : (w : List (Sockets × Say)) (e m : Sockets → Option Shape) (p : Sockets) (c : Say) → suspended p ≡ false → Tallies receives links suspended ((p, c) ∷ w) e m → Agrees (c ∷ about p w) (e p) (m p)
  first_pair w e m p c r t = subst (λ (b : Bool). Agrees (if b then c ∷ about p w else about p w) (e p) (m p)) (same_self p) (t.pairs p r)

  -- it is right: all agree after it
  next_pairs : (w : List (Sockets × Say)) (e m : Sockets → Option Shape) (p : Sockets) (c : Say) → Tallies receives links suspended ((p, c) ∷ w) e m → (u : Sockets) → suspended u ≡ false → Agrees (about u w) (e u) (put m p (own_step c (m p)) u)
  next_pairs w e m p c t u r = go (same u p) refl (t.pairs u r)
    where
      go : (b : Bool) → same u p ≡ b → Agrees (if b then c ∷ about u w else about u w) (e u) (m u) → Agrees (about u w) (e u) (if b then own_step c (m p) else m u)
      go true s (l, a) = subst (λ (y : Sockets). Agrees (about u w) (e u) (own_step c (m y))) (same_is u p s) a
      go false s a = a

  -- it belongs to a connection that is suspended after it: nothing changes for all others
  hidden_pairs : (more : Sockets → Bool) (w : List (Sockets × Say)) (e m : Sockets → Option Shape) (p : Sockets) (c : Say) → ((u : Sockets) → more u ≡ false → (suspended u ≡ false) × (same u p ≡ false))
      → Tallies receives links suspended ((p, c) ∷ w) e m → (u : Sockets) → more u ≡ false → Agrees (about u w) (e u) (m u)
  hidden_pairs more w e m p c h t u r = subst (λ (b : Bool). Agrees (if b then c ∷ about u w else about u w) (e u) (m u)) (h u r).1 (t.pairs u (h u r).0)

  hidden_less : (m : Sockets → Option Shape) (p : Sockets) (c : Say) (u : Sockets) → same u p ≡ false → Less (m u) (put m p (own_step c (m p)) u)
  hidden_less m p c u d = subst (λ (b : Bool). Less (m u) (if b then own_step c (m p) else m u)) (sym d) (same_less (m u))

  -- a request, if neither the connection nor its link is suspended: it is right
  pub record AskGoes (w : List (Sockets × Say)) (e m : Sockets → Option Shape) (p : Sockets) (n : ℕ) : Type 0 where
    pub right : legal (Ask n) (m p) ≡ true
    pub unused : receives p ≡ true → (u : Sockets) → suspended u ≡ false → receives u ≡ true → Lacks n (m u)
    pub tallies : Tallies receives links suspended w e (put m p (own_step (Ask n) (m p)))

  pub ask_goes : (w : List (Sockets × Say)) (e m : Sockets → Option Shape) (p : Sockets) (n : ℕ) → suspended p ≡ false → (receives p && links n) ≡ false → Tallies receives links suspended ((p, Ask n) ∷ w) e m → AskGoes w e m p n
  ask_goes w e m p n r h t = record {
    right = (first_pair w e m p (Ask n) r t).0;
    unused = λ g. by_link (t.free n (ap (λ (b : Bool). b && links n) (sym g) ∙ h)) (ap (λ (b : Bool). b && (n == n)) g ∙ eq-eqb n n refl);
    tallies = record { pairs = next_pairs w e m p (Ask n) t; free = λ k i. rest k (t.free k i) };
  }
    where
      by_link : ((suspended p && takes receives n p n) ≡ true)
          ⊎ ((takes receives n p n ≡ true → (u : Sockets) → suspended u ≡ false → receives u ≡ true → Lacks n (m u)) × Free receives n suspended w (put m p (own_step (Ask n) (m p))))
          → takes receives n p n ≡ true → (u : Sockets) → suspended u ≡ false → receives u ≡ true → Lacks n (m u)
      by_link (inl x) = clash (suspended p) (and_parts (suspended p) (takes receives n p n) x).0 r
      by_link (inr (k, f)) = k

      rest : (k : ℕ)
          → ((suspended p && takes receives k p n) ≡ true)
          ⊎ ((takes receives k p n ≡ true → (u : Sockets) → suspended u ≡ false → receives u ≡ true → Lacks k (m u)) × Free receives k suspended w (put m p (own_step (Ask n) (m p))))
          → Free receives k suspended w (put m p (own_step (Ask n) (m p)))
      rest k (inl x) = clash (suspended p) (and_parts (suspended p) (takes receives k p n) x).0 r
      rest k (inr (z, f)) = f

  -- a request, if the connection or its link is suspended: both are suspended then, and nothing else has
  -- to be known
  pub ask_hides : (busy : ℕ → Bool) (more : Sockets → Bool) (w : List (Sockets × Say)) (e m : Sockets → Option Shape) (p : Sockets) (n : ℕ)
      → ((k : ℕ) → links k ≡ true → busy k ≡ true) → (receives p ≡ true → busy n ≡ true) → ((u : Sockets) → more u ≡ false → (suspended u ≡ false) × (same u p ≡ false))
      → Tallies receives links suspended ((p, Ask n) ∷ w) e m → Tallies receives busy more w e m
  ask_hides busy more w e m p n g linked h t = record { pairs = hidden_pairs more w e m p (Ask n) h t; free = λ k i. rest k i (t.free k (unmarked busy g k i)) }
    where
      rest : (k : ℕ) → busy k ≡ false
          → ((suspended p && takes receives k p n) ≡ true)
          ⊎ ((takes receives k p n ≡ true → (u : Sockets) → suspended u ≡ false → receives u ≡ true → Lacks k (m u)) × Free receives k suspended w (put m p (own_step (Ask n) (m p))))
          → Free receives k more w m
      rest k i (inl x) =
          let t = and_parts (receives p) (n == k) (and_parts (suspended p) (takes receives k p n) x).1 in
          clash (busy k) (subst (λ (j : ℕ). busy j ≡ true) (eqb-true n k t.1) (linked t.0)) i
      rest k i (inr (z, f)) = stays_free receives k suspended more w m (put m p (own_step (Ask n) (m p))) (λ u r. ((h u r).0, hidden_less m p (Ask n) u (h u r).1)) f

  -- a CLS, where the connection does not rest: it is right
  pub record LeaveGoes (w : List (Sockets × Say)) (e m : Sockets → Option Shape) (p : Sockets) : Type 0 where
    pub right : legal Leave (m p) ≡ true
    pub tallies : Tallies receives links suspended w e (put m p (own_step Leave (m p)))

  pub leave_goes : (w : List (Sockets × Say)) (e m : Sockets → Option Shape) (p : Sockets) → suspended p ≡ false → Tallies receives links suspended ((p, Leave) ∷ w) e m → LeaveGoes w e m p
  leave_goes w e m p r t = record {
    right = (first_pair w e m p Leave r t).0;
    tallies = record { pairs = next_pairs w e m p Leave t; free = λ k i. t.free k i };
  }

  -- a CLS of a suspended connection
  pub leave_hides : (more : Sockets → Bool) (w : List (Sockets × Say)) (e m : Sockets → Option Shape) (p : Sockets) → ((u : Sockets) → more u ≡ false → (suspended u ≡ false) × (same u p ≡ false))
      → Tallies receives links suspended ((p, Leave) ∷ w) e m → Tallies receives links more w e m
  leave_hides more w e m p h t = record {
    pairs = hidden_pairs more w e m p Leave h t;
    free = λ k i. stays_free receives k suspended more w m (put m p (own_step Leave (m p))) (λ u r. ((h u r).0, hidden_less m p Leave u (h u r).1)) (t.free k i);
  }
