-- A receiver of the host that holds text: a text was observed to arrive for it, or its RTS is queued and
-- its link is suspended.
use Rattle.std.proofs.Common.{◌≡◌, ◌<◌, ℕ, Bool, true, false, not, if◌then◌else◌, List, [], ◌∷◌, length, Option, None, Some, is_some, ◌⊎◌, refl, sym, ap, ◌∙◌, arith}
use Rattle.std.specs.FinMap.{get}
use Rattle.std.proofs.lemmas.Bool.{and_parts}
use Rattle.ncp_wire.specs.declared.command.Command.{Command}
use Rattle.ncp_model.specs.declared.pair.Pair.{Pair}
use Rattle.ncp_model.specs.Pairs.{sends, receives}
use Rattle.ncp_model.specs.Endpoint.{Endpoint}
use Rattle.ncp_model.specs.Ends.{Ends}
use Rattle.ncp_proof_endpoint.specs.Sound.{SoundAt}
use Rattle.ncp_monitor.specs.declared.conn_state.ConnState.{ConnState}
use Rattle.ncp_monitor.specs.declared.conn_state.FactKind.{FactKind}
use Rattle.ncp_monitor.specs.ConnStates.{SeenTables, is_marked}
use Rattle.ncp_interface.specs.Sockets.{is_senders}
use Rattle.ncp_monitor.proofs.Shapes.{Shape, Say, Ask, Leave, Agrees, own_step, others_of, others_were}
use Rattle.ncp_monitor.proofs.LinkOrder.{Sockets, about}
use Rattle.ncp_proof_monitor_allocation.proofs.KeptEnds.{of_end, kept}
use Rattle.ncp_proof_monitor_allocation.proofs.OwnMoves.{all_says}
use Rattle.ncp_proof_monitor_allocation.proofs.Changed.{pair_at, kept_of}
use Rattle.ncp_proof_monitor_allocation.proofs.SeenTables.{conn_seen, suspended_of}

-- a request waits
abbrev pub asks_in : List Say → Bool
asks_in [] = false
asks_in (Ask n ∷ q) = true
asks_in (Leave ∷ q) = asks_in q

-- a text came for it
abbrev pub has_come : Option ConnState → Bool
has_come None = false
has_come (Some conn) = conn.came

abbrev pub Came : ℕ → ℕ → Ends → List Command → SeenTables → Type 0
Came me n m w b =
    (u : Sockets) (e : Endpoint) → get m (pair_at u) ≡ Some e → receives (pair_at u) ≡ true → 0 < length e.stored
    → (suspended_of me n b u ≡ true) ⊎ ((if asks_in (about u (all_says w)) then is_marked me n (FactKind.LinkSuspended true e.link) b else has_come (conn_seen me n b u)) ≡ true)

-- ---- what waits of a connection that the host has not left

abbrev pub is_left : Option Shape → Bool
is_left None = true
is_left (Some s) = s.left

-- once it is left it stays so, or is over, while no request waits
pub left_stays : (q : List Say) (s : Shape) (m : Option Shape) → asks_in q ≡ false → is_left m ≡ true → Agrees q (Some s) m → s.left ≡ true
left_stays [] s m a l g = ap is_left (sym g) ∙ l
left_stays (Ask n ∷ q) s m a l g = absurd (cc a)
left_stays (Leave ∷ q) s None a l (k, g) = absurd (cc k)
left_stays (Leave ∷ q) s (Some x) a l (k, g) = let nay : not true ≡ true = ap not (sym l) ∙ k in absurd (cc nay)

is_left_after : (m : Option Shape) → is_left (own_step Leave m) ≡ true
is_left_after None = refl
is_left_after (Some x) = go x.cls
  where
    go : (b : Bool) → is_left (if b then None else Some (record x { left = true })) ≡ true
    go true = refl
    go false = refl

-- so if it is not left, no CLS waits but before a request
pub unleft_asks : (q : List Say) (s : Shape) (m : Option Shape) → s.left ≡ false → Agrees (Leave ∷ q) (Some s) m → asks_in q ≡ true
unleft_asks q s m l (k, g) = go (asks_in q) refl
  where
    go : (b : Bool) → asks_in q ≡ b → asks_in q ≡ true
    go true e = e
    go false e = let nay : true ≡ false = sym (left_stays q s (own_step Leave m) e (is_left_after m) g) ∙ l in absurd (cc nay)

-- the last request that waits is that of the connection as it is kept
pub last_asked : (n : ℕ) (q : List Say) (s : Shape) (m : Option Shape) → s.left ≡ false → asks_in q ≡ false → Agrees (Ask n ∷ q) (Some s) m → s.own ≡ Some n
last_asked n [] s None l a (k, g) = let is : record { own = Some n; others = None; left = false; cls = false } ≡ s = cc g in ap (λ (x : Shape). x.own) (sym is)
last_asked n [] s (Some x) l a (k, g) = let is : record x { own = Some n } ≡ s = cc g in ap (λ (y : Shape). y.own) (sym is)
last_asked n (Ask k ∷ q) s m l a g = absurd (cc a)
last_asked n (Leave ∷ q) s m l a (k, g) = let nay : true ≡ false = sym (unleft_asks q s (own_step (Ask n) m) l g) ∙ a in absurd (cc nay)

-- if a CLS waits first, and what the other said is still kept, it is left
pub left_since : (q : List Say) (s : Shape) (m : Option Shape) (n : ℕ) → s.others ≡ Some n → Agrees (Leave ∷ q) (Some s) m → s.left ≡ true
left_since q s m n o (k, g) = go m (others_were q (Some s) (own_step Leave m) n g o) g
  where
    nothing_more : (q : List Say) (x : Shape) → x.left ≡ true → Agrees q (Some s) (Some x) → s.left ≡ true
    nothing_more [] x l g = let is : x ≡ s = cc g in ap (λ (y : Shape). y.left) (sym is) ∙ l
    nothing_more (Ask k ∷ q) x l (j, g) = let nay : not true ≡ true = ap not (sym l) ∙ (and_parts (not (is_some x.own)) (not x.left) j).1 in absurd (cc nay)
    nothing_more (Leave ∷ q) x l (j, g) = let nay : not true ≡ true = ap not (sym l) ∙ j in absurd (cc nay)

    go : (m : Option Shape) → others_of (own_step Leave m) ≡ Some n → Agrees q (Some s) (own_step Leave m) → s.left ≡ true
    go None o g = absurd (cc o)
    go (Some x) o g = by x.cls o g
      where
        by : (b : Bool) → others_of (if b then None else Some (record x { left = true })) ≡ Some n → Agrees q (Some s) (if b then None else Some (record x { left = true })) → s.left ≡ true
        by true o g = absurd (cc o)
        by false o g = nothing_more q (record x { left = true }) refl g

-- ---- an end that holds text

pub holds_unleft : (pair : Pair) (e : Endpoint) → SoundAt pair (Some e) → 0 < length e.stored → e.left ≡ false
holds_unleft pair e sound h = go e.left refl
  where
    go : (b : Bool) → e.left ≡ b → e.left ≡ false
    go false l = l
    go true l = let d = sound.dropped l in absurd (grind (arith, d))

pub one_sex : (pair : Pair) → receives pair ≡ true → sends pair ≡ false
one_sex pair r = grind arith

pub receiving_socket : (pair : Pair) → receives pair ≡ true → not (is_senders pair.local) ≡ true
receiving_socket pair r = grind arith

-- what is kept of it
pub kept_there : (m : Ends) (u : Sockets) (e : Endpoint) (x : Bool) → get m (pair_at u) ≡ Some e → sends (pair_at u) ≡ x → kept_of m u ≡ Some (of_end x e)
kept_there m u e x g s = ap (kept (sends (pair_at u))) g ∙ ap (λ (y : Bool). Some (of_end y e)) s
