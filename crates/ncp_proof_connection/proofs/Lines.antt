-- Meant for other crates too: they cite what is public here.
--
-- Requests and CLSs between two ends x and y: what is underway fits the marks of both.
use Rattle.std.proofs.Common.{◌≡◌, ℕ, Bool, true, false, ◌||◌, if◌then◌else◌, List, [], ◌∷◌, ◌++◌, refl, ap, sym, ◌∙◌, subst}
use Rattle.std.proofs.lemmas.Bool.{both_ways, or_right}

-- A command underway (queued or in flight), reduced to requests, CLSs and links. `Data` is a command on
-- an open connection. It names a link that either its maker's end or the end that receives it asked for.
pub data Kind : Type 0 where
  Request : (number : ℕ) → (good : Bool) → Kind  -- the link of an RTS, the size of an STR
  Close : Kind
  Data : (of_maker : Bool) → (on : ℕ) → Kind
  Alien : Kind  -- no end makes it

-- what an end did and heard in its round
pub record Marks : Type 0 where
  pub asked : Bool
  pub heard : Bool
  pub left : Bool
  pub cls : Bool
  pub own : ℕ  -- the number of its request
  pub its : ℕ  -- the number of the peer's

abbrev pub no_marks : Marks
no_marks = record { asked = false; heard = false; left = false; cls = false; own = 0; its = 0 }

-- These commands of an end that asked (a) with number n, heard a request (o) and is left (l) may
-- come, in the same round, to a peer that heard its request (h) with number x and its CLS (c), and
-- asked with y; after them the peer has heard all.
abbrev pub Comes : Bool → Bool → ℕ → ℕ → List Kind → Bool → Bool → Bool → ℕ → Type 0
Comes h c x y [] a o l n = (h ≡ a) × (c ≡ l) × (h ≡ true → x ≡ n)
Comes h c x y (Request m g ∷ cs) a o l n = (h ≡ false) × (c ≡ false) × (g ≡ true) × Comes true c m y cs a o l n
Comes h c x y (Close ∷ cs) a o l n = (c ≡ false) × ((h || o) ≡ true) × Comes h true x y cs a o l n
Comes h c x y (Data b on ∷ cs) a o l n = (h ≡ true) × (c ≡ false) × (o ≡ true) × (on ≡ (if b then x else y)) × Comes h c x y cs a o l n
Comes h c x y (Alien ∷ cs) a o l n = ⊥

-- The same where the maker has ended and the peer, which is left, has not: up to the CLS all is of
-- the round that the maker ended. g: the peer asked.
abbrev pub Passes : Bool → Bool → ℕ → ℕ → List Kind → Bool → Bool → Bool → ℕ → Type 0
Passes g h x y [] a o l n = ⊥
Passes g h x y (Request m u ∷ cs) a o l n = (h ≡ false) × (u ≡ true) × Passes g true m y cs a o l n
Passes g h x y (Close ∷ cs) a o l n = Comes false false 0 0 cs a o l n
Passes g h x y (Data b on ∷ cs) a o l n = (h ≡ true) × (g ≡ true) × (on ≡ (if b then x else y)) × Passes g h x y cs a o l n
Passes g h x y (Alien ∷ cs) a o l n = ⊥

-- both ends are in one round
pub record Same (x y : Marks) (to_y to_x : List Kind) : Type 0 where
  pub there : Comes y.heard y.cls y.its y.own to_y x.asked x.heard x.left x.own
  pub back : Comes x.heard x.cls x.its x.own to_x y.asked y.heard y.left y.own

-- x ended the round, and y has not: y is left, and what y made has come
pub record Ahead (x y : Marks) (to_y to_x : List Kind) : Type 0 where
  pub left : y.left ≡ true
  pub none : to_x ≡ []
  pub unheard : x.heard ≡ false
  pub passes : Passes y.asked y.heard y.its y.own to_y x.asked x.heard x.left x.own

-- the marks of one end fit each other
pub record Well (m : Marks) : Type 0 where
  pub heard : m.cls ≡ true → m.heard ≡ true
  pub over : m.left ≡ true → m.cls ≡ false
  pub there : m.left ≡ true → (m.asked || m.heard) ≡ true

-- What is underway grows.

pub comes_request : (h c : Bool) (x y : ℕ) (cs : List Kind) (a o l : Bool) (n m : ℕ) → a ≡ false → l ≡ false → Comes h c x y cs a o l n → Comes h c x y (cs ++ Request m true ∷ []) true o l m
comes_request h c x y [] a o l n m e f k = (k.0 ∙ e, k.1 ∙ f, refl, (refl, k.1, λ _. refl))
comes_request h c x y (Request i g ∷ cs) a o l n m e f k = (k.0, k.1, k.2, comes_request true c i y cs a o l n m e f k.3)
comes_request h c x y (Close ∷ cs) a o l n m e f k = (k.0, k.1, comes_request h true x y cs a o l n m e f k.2)
comes_request h c x y (Data b on ∷ cs) a o l n m e f k = (k.0, k.1, k.2, k.3, comes_request h c x y cs a o l n m e f k.4)
comes_request h c x y (Alien ∷ cs) a o l n m e f k = absurd k

pub comes_close : (h c : Bool) (x y : ℕ) (cs : List Kind) (a o l : Bool) (n : ℕ) → l ≡ false → (a || o) ≡ true → Comes h c x y cs a o l n → Comes h c x y (cs ++ Close ∷ []) a o true n
comes_close h c x y [] a o l n f e k = (k.1 ∙ f, subst (λ (b : Bool). (b || o) ≡ true) (sym k.0) e, (k.0, refl, k.2))
comes_close h c x y (Request i g ∷ cs) a o l n f e k = (k.0, k.1, k.2, comes_close true c i y cs a o l n f e k.3)
comes_close h c x y (Close ∷ cs) a o l n f e k = (k.0, k.1, comes_close h true x y cs a o l n f e k.2)
comes_close h c x y (Data b on ∷ cs) a o l n f e k = (k.0, k.1, k.2, k.3, comes_close h c x y cs a o l n f e k.4)
comes_close h c x y (Alien ∷ cs) a o l n f e k = absurd k

-- what names the maker's link, or that of the end to which it comes
pub comes_data : (h c : Bool) (x y : ℕ) (cs : List Kind) (a o l : Bool) (n : ℕ) (b : Bool) (on : ℕ) → a ≡ true → o ≡ true → l ≡ false → on ≡ (if b then n else y) → Comes h c x y cs a o l n → Comes h c x y (cs ++ Data b on ∷ []) a o l n
comes_data h c x y [] a o l n b on e f g w k = (k.0 ∙ e, k.1 ∙ g, f, go b w, k)
  where
    go : (b : Bool) → on ≡ (if b then n else y) → on ≡ (if b then x else y)
    go true w = w ∙ sym (k.2 (k.0 ∙ e))
    go false w = w
comes_data h c x y (Request i u ∷ cs) a o l n b on e f g w k = (k.0, k.1, k.2, comes_data true c i y cs a o l n b on e f g w k.3)
comes_data h c x y (Close ∷ cs) a o l n b on e f g w k = (k.0, k.1, comes_data h true x y cs a o l n b on e f g w k.2)
comes_data h c x y (Data d i ∷ cs) a o l n b on e f g w k = (k.0, k.1, k.2, k.3, comes_data h c x y cs a o l n b on e f g w k.4)
comes_data h c x y (Alien ∷ cs) a o l n b on e f g w k = absurd k

-- the maker hears the peer's request
pub comes_hears : (h c : Bool) (x y : ℕ) (cs : List Kind) (a o l : Bool) (n : ℕ) → Comes h c x y cs a o l n → Comes h c x y cs a true l n
comes_hears h c x y [] a o l n k = k
comes_hears h c x y (Request i g ∷ cs) a o l n k = (k.0, k.1, k.2, comes_hears true c i y cs a o l n k.3)
comes_hears h c x y (Close ∷ cs) a o l n k = (k.0, or_right h true refl, comes_hears h true x y cs a o l n k.2)
comes_hears h c x y (Data b on ∷ cs) a o l n k = (k.0, k.1, refl, k.3, comes_hears h c x y cs a o l n k.4)
comes_hears h c x y (Alien ∷ cs) a o l n k = absurd k

-- the end to which these come asks
pub comes_asks : (h c : Bool) (x y z : ℕ) (cs : List Kind) (a o l : Bool) (n : ℕ) → o ≡ false → Comes h c x y cs a o l n → Comes h c x z cs a o l n
comes_asks h c x y z [] a o l n e k = k
comes_asks h c x y z (Request i g ∷ cs) a o l n e k = (k.0, k.1, k.2, comes_asks true c i y z cs a o l n e k.3)
comes_asks h c x y z (Close ∷ cs) a o l n e k = (k.0, k.1, comes_asks h true x y z cs a o l n e k.2)
comes_asks h c x y z (Data b on ∷ cs) a o l n e k = absurd (both_ways o e k.2)
comes_asks h c x y z (Alien ∷ cs) a o l n e k = absurd k

pub passes_request : (g h : Bool) (x y : ℕ) (cs : List Kind) (a o l : Bool) (n m : ℕ) → a ≡ false → l ≡ false → Passes g h x y cs a o l n → Passes g h x y (cs ++ Request m true ∷ []) true o l m
passes_request g h x y [] a o l n m e f k = absurd k
passes_request g h x y (Request i u ∷ cs) a o l n m e f k = (k.0, k.1, passes_request g true i y cs a o l n m e f k.2)
passes_request g h x y (Close ∷ cs) a o l n m e f k = comes_request false false 0 0 cs a o l n m e f k
passes_request g h x y (Data b on ∷ cs) a o l n m e f k = (k.0, k.1, k.2, passes_request g h x y cs a o l n m e f k.3)
passes_request g h x y (Alien ∷ cs) a o l n m e f k = absurd k

pub passes_close : (g h : Bool) (x y : ℕ) (cs : List Kind) (a o l : Bool) (n : ℕ) → l ≡ false → (a || o) ≡ true → Passes g h x y cs a o l n → Passes g h x y (cs ++ Close ∷ []) a o true n
passes_close g h x y [] a o l n f e k = absurd k
passes_close g h x y (Request i u ∷ cs) a o l n f e k = (k.0, k.1, passes_close g true i y cs a o l n f e k.2)
passes_close g h x y (Close ∷ cs) a o l n f e k = comes_close false false 0 0 cs a o l n f e k
passes_close g h x y (Data b on ∷ cs) a o l n f e k = (k.0, k.1, k.2, passes_close g h x y cs a o l n f e k.3)
passes_close g h x y (Alien ∷ cs) a o l n f e k = absurd k

-- What follows from what may come.

-- a peer that heard the request heard it from an end that asked
pub comes_asked : (h c : Bool) (x y : ℕ) (cs : List Kind) (a o l : Bool) (n : ℕ) → h ≡ true → Comes h c x y cs a o l n → a ≡ true
comes_asked h c x y [] a o l n e k = sym k.0 ∙ e
comes_asked h c x y (Request i g ∷ cs) a o l n e k = comes_asked true c i y cs a o l n refl k.3
comes_asked h c x y (Close ∷ cs) a o l n e k = comes_asked h true x y cs a o l n e k.2
comes_asked h c x y (Data b on ∷ cs) a o l n e k = comes_asked h c x y cs a o l n e k.4
comes_asked h c x y (Alien ∷ cs) a o l n e k = absurd k

-- and heard the number of that request
pub comes_number : (h c : Bool) (x y : ℕ) (cs : List Kind) (a o l : Bool) (n : ℕ) → h ≡ true → Comes h c x y cs a o l n → x ≡ n
comes_number h c x y [] a o l n e k = k.2 e
comes_number h c x y (Request i g ∷ cs) a o l n e k = absurd (both_ways h k.0 e)
comes_number h c x y (Close ∷ cs) a o l n e k = comes_number h true x y cs a o l n e k.2
comes_number h c x y (Data b on ∷ cs) a o l n e k = comes_number h c x y cs a o l n e k.4
comes_number h c x y (Alien ∷ cs) a o l n e k = absurd k

-- nothing follows a CLS in a round
pub comes_closed : (h : Bool) (x y : ℕ) (cs : List Kind) (a o l : Bool) (n : ℕ) → Comes h true x y cs a o l n → (cs ≡ []) × (l ≡ true)
comes_closed h x y [] a o l n k = (refl, sym k.1)
comes_closed h x y (Request i g ∷ cs) a o l n k = absurd (both_ways true k.1 refl)
comes_closed h x y (Close ∷ cs) a o l n k = absurd (both_ways true k.0 refl)
comes_closed h x y (Data b on ∷ cs) a o l n k = absurd (both_ways true k.1 refl)
comes_closed h x y (Alien ∷ cs) a o l n k = absurd k

-- nothing comes of an end that did nothing
pub comes_none : (c : Bool) (x y : ℕ) (cs : List Kind) (a o l : Bool) (n : ℕ) → a ≡ false → o ≡ false → Comes false c x y cs a o l n → cs ≡ []
comes_none c x y [] a o l n e f k = refl
comes_none c x y (Request i g ∷ cs) a o l n e f k = absurd (both_ways a e (comes_asked true c i y cs a o l n refl k.3))
comes_none c x y (Close ∷ cs) a o l n e f k = absurd (both_ways o f k.1)
comes_none c x y (Data b on ∷ cs) a o l n e f k = absurd (both_ways o f k.2)
comes_none c x y (Alien ∷ cs) a o l n e f k = absurd k

-- An end ends, and its peer is left.

-- it makes its CLS and ends at once
pub passes_end : (g h : Bool) (x y : ℕ) (cs : List Kind) (a o l : Bool) (n : ℕ) → l ≡ false → Comes h false x y cs a o l n → (o ≡ true → g ≡ true) → Passes g h x y (cs ++ Close ∷ []) false false false 0
passes_end g h x y [] a o l n f k e = (refl, refl, λ _. refl)
passes_end g h x y (Request i u ∷ cs) a o l n f k e = (k.0, k.2, passes_end g true i y cs a o l n f k.3 e)
passes_end g h x y (Close ∷ cs) a o l n f k e = absurd (both_ways l f (comes_closed h x y cs a o l n k.2).1)
passes_end g h x y (Data b on ∷ cs) a o l n f k e = (k.0, e k.2, k.3, passes_end g h x y cs a o l n f k.4 e)
passes_end g h x y (Alien ∷ cs) a o l n f k e = absurd k

-- its CLS is underway
pub passes_left : (g h : Bool) (x y : ℕ) (cs : List Kind) (a o l : Bool) (n : ℕ) → l ≡ true → Comes h false x y cs a o l n → (o ≡ true → g ≡ true) → Passes g h x y cs false false false 0
passes_left g h x y [] a o l n f k e = absurd (both_ways l (sym k.1) f)
passes_left g h x y (Request i u ∷ cs) a o l n f k e = (k.0, k.2, passes_left g true i y cs a o l n f k.3 e)
passes_left g h x y (Close ∷ cs) a o l n f k e = subst (λ (ds : List Kind). Comes false false 0 0 ds false false false 0) (sym (comes_closed h x y cs a o l n k.2).0) (refl, refl, λ _. refl)
passes_left g h x y (Data b on ∷ cs) a o l n f k e = (k.0, e k.2, k.3, passes_left g h x y cs a o l n f k.4 e)
passes_left g h x y (Alien ∷ cs) a o l n f k e = absurd k

-- The steps of x.

abbrev pub asks : ℕ → Marks → Marks
asks n m = record m { asked = true; own = n }

abbrev pub hears : ℕ → Marks → Marks
hears n m = record m { heard = true; its = n }

abbrev pub leaves : Marks → Marks
leaves m = record m { left = true }

abbrev pub is_shut : Marks → Marks
is_shut m = record m { cls = true }

module _ (x y : Marks) (p q : List Kind) where
  pub same_swap : Same x y p q → Same y x q p
  same_swap k = record { there = k.back; back = k.there }

  -- x has not asked, so y has heard nothing
  same_unheard : x.asked ≡ false → Same x y p q → y.heard ≡ false
  same_unheard a k = go y.heard refl
    where
      go : (b : Bool) → y.heard ≡ b → b ≡ false
      go true e = absurd (both_ways x.asked a (comes_asked y.heard y.cls y.its y.own p x.asked x.heard x.left x.own e k.there))
      go false e = refl

  pub same_asks : (n : ℕ) → x.asked ≡ false → x.left ≡ false → Same x y p q → Same (asks n x) y (p ++ Request n true ∷ []) q
  same_asks n a l k = record {
    there = comes_request y.heard y.cls y.its y.own p x.asked x.heard x.left x.own n a l k.there;
    back = comes_asks x.heard x.cls x.its x.own n q y.asked y.heard y.left y.own (same_unheard a k) k.back;
  }

  pub ahead_asks : (n : ℕ) → x.asked ≡ false → x.left ≡ false → Ahead x y p q → Ahead (asks n x) y (p ++ Request n true ∷ []) q
  ahead_asks n a l k = record { left = k.left; none = k.none; unheard = k.unheard; passes = passes_request y.asked y.heard y.its y.own p x.asked x.heard x.left x.own n a l k.passes }

  pub same_leaves : x.left ≡ false → (x.asked || x.heard) ≡ true → Same x y p q → Same (leaves x) y (p ++ Close ∷ []) q
  same_leaves l e k = record { there = comes_close y.heard y.cls y.its y.own p x.asked x.heard x.left x.own l e k.there; back = k.back }

  pub ahead_leaves : x.left ≡ false → (x.asked || x.heard) ≡ true → Ahead x y p q → Ahead (leaves x) y (p ++ Close ∷ []) q
  ahead_leaves l e k = record { left = k.left; none = k.none; unheard = k.unheard; passes = passes_close y.asked y.heard y.its y.own p x.asked x.heard x.left x.own l e k.passes }

  -- a CLS came, and x makes its own
  pub same_ends : x.left ≡ false → x.cls ≡ true → Well y → Same x y p q → Ahead no_marks y (p ++ Close ∷ []) q
  same_ends l c w k =
      let closed = comes_closed x.heard x.its x.own q y.asked y.heard y.left y.own (subst (λ (b : Bool). Comes x.heard b x.its x.own q y.asked y.heard y.left y.own) c k.back) in
      record {
        left = closed.1;
        none = closed.0;
        unheard = refl;
        passes = passes_end y.asked y.heard y.its y.own p x.asked x.heard x.left x.own l (subst (λ (b : Bool). Comes y.heard b y.its y.own p x.asked x.heard x.left x.own) (w.over closed.1) k.there) (λ e. comes_asked x.heard x.cls x.its x.own q y.asked y.heard y.left y.own e k.back);
      }

  pub same_data : (b : Bool) (on : ℕ) → x.asked ≡ true → x.heard ≡ true → x.left ≡ false → on ≡ (if b then x.own else y.own) → Same x y p q → Same x y (p ++ Data b on ∷ []) q
  same_data b on a o l w k = record { there = comes_data y.heard y.cls y.its y.own p x.asked x.heard x.left x.own b on a o l w k.there; back = k.back }

  -- the number that x heard is the one with which y asked
  pub same_number : x.heard ≡ true → Same x y p q → x.its ≡ y.own
  same_number o k = comes_number x.heard x.cls x.its x.own q y.asked y.heard y.left y.own o k.back

  pub same_hears_request : (n : ℕ) (g : Bool) → Same x y p (Request n g ∷ q) → (x.heard ≡ false) × (g ≡ true) × Same (hears n x) y p q
  same_hears_request n g k = (k.back.0, k.back.2, record { there = comes_hears y.heard y.cls y.its y.own p x.asked x.heard x.left x.own k.there; back = k.back.3 })

  pub after_hears_request : (n : ℕ) (g : Bool) → Ahead y x (Request n g ∷ q) p → (x.heard ≡ false) × (g ≡ true) × Ahead y (hears n x) q p
  after_hears_request n g k = (k.passes.0, k.passes.1, record { left = k.left; none = k.none; unheard = k.unheard; passes = k.passes.2 })

  -- a CLS comes only to an end that is there, and only once
  pub same_close_fits : Same x y p (Close ∷ q) → (x.cls ≡ false) × ((x.asked || x.heard) ≡ true)
  same_close_fits k = (k.back.0, go x.heard refl k.back.1)
    where
      go : (b : Bool) → x.heard ≡ b → (b || y.heard) ≡ true → (x.asked || b) ≡ true
      go true e t = or_right x.asked true refl
      go false e t = ap (λ (a : Bool). a || false) (comes_asked y.heard y.cls y.its y.own p x.asked x.heard x.left x.own t k.there)

  pub same_hears_close : Same x y p (Close ∷ q) → Same (is_shut x) y p q
  same_hears_close k = record { there = k.there; back = k.back.2 }

  -- x made its CLS before: it ends
  pub same_left_ends : x.left ≡ true → Well y → Same x y p (Close ∷ q) → Ahead no_marks y p q
  same_left_ends l w k =
      let closed = comes_closed x.heard x.its x.own q y.asked y.heard y.left y.own k.back.2 in
      record {
        left = closed.1;
        none = closed.0;
        unheard = refl;
        passes = passes_left y.asked y.heard y.its y.own p x.asked x.heard x.left x.own l (subst (λ (b : Bool). Comes y.heard b y.its y.own p x.asked x.heard x.left x.own) (w.over closed.1) k.there) (λ e. comes_asked x.heard x.cls x.its x.own (Close ∷ q) y.asked y.heard y.left y.own e k.back);
      }

  -- x replies, and ends
  pub same_replies : x.left ≡ false → Well y → Same x y p (Close ∷ q) → Ahead no_marks y (p ++ Close ∷ []) q
  same_replies l w k =
      let closed = comes_closed x.heard x.its x.own q y.asked y.heard y.left y.own k.back.2 in
      record {
        left = closed.1;
        none = closed.0;
        unheard = refl;
        passes = passes_end y.asked y.heard y.its y.own p x.asked x.heard x.left x.own l (subst (λ (b : Bool). Comes y.heard b y.its y.own p x.asked x.heard x.left x.own) (w.over closed.1) k.there) (λ e. comes_asked x.heard x.cls x.its x.own (Close ∷ q) y.asked y.heard y.left y.own e k.back);
      }

  -- x, which was one round after y, ends, and both are in the same round
  pub after_ends : Well y → Ahead y x (Close ∷ q) p → Same no_marks y p q
  after_ends w k = record {
    there = subst (λ (ds : List Kind). Comes y.heard y.cls y.its y.own ds false false false 0) (sym k.none) (k.unheard, go y.cls refl, λ e. absurd (both_ways y.heard k.unheard e));
    back = k.passes;
  }
    where
      go : (b : Bool) → y.cls ≡ b → b ≡ false
      go true e = absurd (both_ways y.heard k.unheard (w.heard e))
      go false e = refl

  -- in one round x hears what y made open: x has asked, and the link is theirs
  pub same_data_fits : (b : Bool) (on : ℕ) → Same x y p (Data b on ∷ q) → (x.asked ≡ true) × (x.heard ≡ true) × (on ≡ (if b then x.its else x.own)) × Same x y p q
  same_data_fits b on k = (comes_asked y.heard y.cls y.its y.own p x.asked x.heard x.left x.own k.back.2 k.there, k.back.0, k.back.3, record { there = k.there; back = k.back.4 })
