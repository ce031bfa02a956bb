-- What a restart does to a host, from what it does on each link to a peer.
use Rattle.std.proofs.Common.{◌≡◌, ◌<◌, ◌≤◌, inl, inr, ℕ, zero, suc, ◌+◌, ◌-◌, ◌==◌, Bool, true, false, ◌&&◌, ◌||◌, nat_lt, if◌then◌else◌, List, [], ◌∷◌, Option, None, Some, Result, Ok, refl, sym, ap, subst, ◌∙◌, arith}
use Rattle.std.specs.List.{list_all, list_any, range_with_len}
use Rattle.std.proofs.lemmas.List.{append-nil}
use Rattle.std.proofs.lemmas.Bool.Decides.{eqb_tells}
use Rattle.ncp_leader.specs.declared.leader.Leader.{Leader}
use Rattle.ncp_leader.specs.declared.leader.Short.{Short}
use Rattle.ncp_leader.specs.Leader.{IsLeader, leader_in}
use Rattle.ncp_leader.proofs.Leaders.{leader_in-bits}
use Rattle.ncp_wire.specs.declared.answer.Answer.TheVariants.{Incomplete}
use Rattle.ncp_slot.specs.declared.slot.Slot.TheVariants.{Empty, Ready, Travelling, Held}
use Rattle.ncp_slot.specs.Slot.{answered, is_travelling}
use Rattle.ncp_slot.specs.Slots.{LinkSlot, LinkSlots, HasSlot, slot_at, with_slot, data_links}
use Rattle.ncp_slot.proofs.Places.{slot_at-changed, OthersStay-changed}
use Rattle.ncp_peer.specs.PeerState.{PeerState, is_answered, answer_taken, answer_comes}
use Rattle.ncp_peer.specs.Counting.{one_more}
use Rattle.ncp_peer.specs.Output.{links}
use Rattle.ncp_host.specs.Host.{Host, state_in, state_of, at_peer, changed}
use Rattle.ncp_host.specs.Arrivals.{after_with, after_from, after_received}
use Rattle.ncp_host.specs.Running.{Receives}
use Rattle.ncp_peer.specs.Soundness.{AreWell}
use Rattle.ncp_peer.specs.GivingUp.{gives_up, gives_up_all, restarts, IsGivenUp}
use Rattle.ncp_host.specs.Restarting.{incomplete_leader, incomplete_bits, is_message_out, incomplete_comes, incompletes_come}
use Rattle.ncp_host.proofs.Living.{lives_on}
use Rattle.ncp_peer.proofs.GivingUp.{given_up_none, given_up_more}

pub come_none : (number : ℕ) (h : Host) → incompletes_come number [] h ≡ h
unfolding incompletes_come
come_none number h = refl

pub come_more : (number on : ℕ) (ons : List ℕ) (h : Host) → incompletes_come number (on ∷ ons) h ≡ incompletes_come number ons (incomplete_comes number on h)
unfolding incompletes_come
come_more number on ons h = refl

-- what happens to one peer twice, and not at all
at_peer_same : (ps : List (ℕ × PeerState)) (n : ℕ) (f g : PeerState → PeerState) (s : PeerState) → state_in ps n ≡ Some s → f s ≡ g s → at_peer n f ps ≡ at_peer n g ps
at_peer_same [] n f g s is same = refl
at_peer_same (p ∷ ps) n f g s is same = go (p.0 == n) is (at_peer_same ps n f g s)
  where
    go : (b : Bool) → (if b then Some p.1 else state_in ps n) ≡ Some s → (state_in ps n ≡ Some s → f s ≡ g s → at_peer n f ps ≡ at_peer n g ps)
        → (if b then (p.0, f p.1) ∷ ps else p ∷ at_peer n f ps) ≡ (if b then (p.0, g p.1) ∷ ps else p ∷ at_peer n g ps)
    go true e rest = let here : p.1 ≡ s = cc in ap (λ (x : PeerState). (p.0, x) ∷ ps) (ap f here ∙ same ∙ ap g (sym here))
    go false e rest = ap (λ (qs : List (ℕ × PeerState)). p ∷ qs) (rest e same)

at_peer_stays : (ps : List (ℕ × PeerState)) (n : ℕ) (f : PeerState → PeerState) (s : PeerState) → state_in ps n ≡ Some s → f s ≡ s → ps ≡ at_peer n f ps
at_peer_stays [] n f s is same = refl
at_peer_stays (p ∷ ps) n f s is same = go (p.0 == n) is (at_peer_stays ps n f s)
  where
    go : (b : Bool) → (if b then Some p.1 else state_in ps n) ≡ Some s → (state_in ps n ≡ Some s → f s ≡ s → ps ≡ at_peer n f ps)
        → p ∷ ps ≡ (if b then (p.0, f p.1) ∷ ps else p ∷ at_peer n f ps)
    go true e rest = let here : p.1 ≡ s = cc in ap (λ (x : PeerState). (p.0, x) ∷ ps) (here ∙ sym same ∙ ap f (sym here))
    go false e rest = ap (λ (qs : List (ℕ × PeerState)). p ∷ qs) (rest e same)

at_peer_twice : (ps : List (ℕ × PeerState)) (n : ℕ) (f g : PeerState → PeerState) → at_peer n f (at_peer n g ps) ≡ at_peer n (λ s. f (g s)) ps
at_peer_twice [] n f g = refl
at_peer_twice (p ∷ ps) n f g = go (p.0 == n) refl (at_peer_twice ps n f g)
  where
    go : (b : Bool) → (p.0 == n) ≡ b → at_peer n f (at_peer n g ps) ≡ at_peer n (λ s. f (g s)) ps
        → at_peer n f (if b then (p.0, g p.1) ∷ ps else p ∷ at_peer n g ps) ≡ (if b then (p.0, f (g p.1)) ∷ ps else p ∷ at_peer n (λ s. f (g s)) ps)
    go true e rest = ap (λ (b : Bool). if b then (p.0, f (g p.1)) ∷ ps else (p.0, g p.1) ∷ at_peer n f ps) e
    go false e rest = ap (λ (b : Bool). if b then (p.0, f p.1) ∷ at_peer n g ps else p ∷ at_peer n f (at_peer n g ps)) e ∙ ap (λ (qs : List (ℕ × PeerState)). p ∷ qs) rest

pub state_at : (ps : List (ℕ × PeerState)) (n : ℕ) (f : PeerState → PeerState) (s : PeerState) → state_in ps n ≡ Some s → state_in (at_peer n f ps) n ≡ Some (f s)
state_at [] n f s is = absurd (cc)
state_at (p ∷ ps) n f s is = go (p.0 == n) refl is (state_at ps n f s)
  where
    go : (b : Bool) → (p.0 == n) ≡ b → (if b then Some p.1 else state_in ps n) ≡ Some s → (state_in ps n ≡ Some s → state_in (at_peer n f ps) n ≡ Some (f s))
        → state_in (if b then (p.0, f p.1) ∷ ps else p ∷ at_peer n f ps) n ≡ Some (f s)
    go true e h rest = let here : p.1 ≡ s = cc in ap (λ (b : Bool). if b then Some (f p.1) else state_in ps n) e ∙ ap (λ (x : PeerState). Some (f x)) here
    go false e h rest = ap (λ (b : Bool). if b then Some p.1 else state_in (at_peer n f ps) n) e ∙ rest h

-- one Incomplete Transmission, as bits
fits : (number on : ℕ) → number < 256 → on < 256 → IsLeader (incomplete_leader number on)
fits number on n o = record { flags = omega arith; kind = omega arith; host = omega arith; link = omega arith; low = omega arith }

its_leader : (number on : ℕ) → number < 256 → on < 256 → leader_in (incomplete_bits number on) ≡ Ok (incomplete_leader number on)
its_leader number on n o =
    ap leader_in (sym (append-nil (incomplete_bits number on))) ∙ leader_in-bits (incomplete_leader number on) [] (fits number on n o)

abbrev with_peers : Host → List (ℕ × PeerState) → Host
with_peers h ps = record h { peers = ps }

is_received : (number on : ℕ) (h : Host) (s : PeerState) → number < 256 → on < 256 → state_of h number ≡ Some s → after_received (incomplete_bits number on) h ≡ changed number (answer_comes on Incomplete) h
is_received number on h s n o known =
    ap (λ (r : Result Leader Short). after_with r (incomplete_bits number on) h) (its_leader number on n o)
    ∙ ap (λ (x : Option PeerState). after_from x (incomplete_leader number on) (incomplete_bits number on) h) known

comes : (number on : ℕ) (h : Host) (s : PeerState) → number < 256 → on < 256 → state_of h number ≡ Some s → incomplete_comes number on h ≡ changed number (gives_up on) h
comes number on h s n o known = ap (λ (x : Option PeerState). if is_message_out on x then after_received (incomplete_bits number on) h else h) known ∙ go (is_answered on s) refl
  where
    go : (b : Bool) → is_answered on s ≡ b → (if b then after_received (incomplete_bits number on) h else h) ≡ changed number (gives_up on) h
    go true e =
        is_received number on h s n o known
        ∙ ap (with_peers h) (at_peer_same h.peers number (answer_comes on Incomplete) (gives_up on) s known (sym (ap (λ (b : Bool). if b then answer_comes on Incomplete s else s) e)))
    go false e = ap (with_peers h) (at_peer_stays h.peers number (gives_up on) s known (ap (λ (b : Bool). if b then answer_comes on Incomplete s else s) e))

small : (on : ℕ) → nat_lt on 256 ≡ true → on < 256
small on h = grind arith

first_small : (a b : Bool) → (a && b) ≡ true → (a ≡ true) × (b ≡ true)
first_small true b h = (refl, h)
first_small false b h = absurd (cc)

-- on all links to a peer, one after the other
pub all_come : (number : ℕ) (ons : List ℕ) (h : Host) (s : PeerState) → number < 256 → list_all (λ on. nat_lt on 256) ons ≡ true → state_of h number ≡ Some s → incompletes_come number ons h ≡ changed number (gives_up_all ons) h
all_come number [] h s n o known = come_none number h ∙ ap (with_peers h) (at_peer_stays h.peers number (gives_up_all []) s known (given_up_none s))
all_come number (on ∷ ons) h s n o known =
    let both = first_small (nat_lt on 256) (list_all (λ k. nat_lt k 256) ons) o in
    come_more number on ons h
    ∙ ap (incompletes_come number ons) (comes number on h s n (small on both.0) known)
    ∙ all_come number ons (changed number (gives_up on) h) (gives_up on s) n both.1 (state_at h.peers number (gives_up on) s known)
    ∙ ap (with_peers h) (at_peer_twice h.peers number (gives_up_all ons) (gives_up on))
    ∙ ap (with_peers h) (at_peer_same h.peers number (λ x. gives_up_all ons (gives_up on x)) (gives_up_all (on ∷ ons)) s known (sym (given_up_more on ons s)))

-- and to none
pub none_come : (number : ℕ) (ons : List ℕ) (h : Host) → state_of h number ≡ None → incompletes_come number ons h ≡ h
none_come number [] h none = come_none number h
none_come number (on ∷ ons) h none =
    come_more number on ons h
    ∙ ap (incompletes_come number ons) (ap (λ (x : Option PeerState). if is_message_out on x then after_received (incomplete_bits number on) h else h) none)
    ∙ none_come number ons h none

-- what is true of a host is true then
pub lives_restarted : (number : ℕ) (ons : List ℕ) (h : Host) → AreWell h.peers → AreWell (incompletes_come number ons h).peers
lives_restarted number [] h well = subst (λ (x : Host). AreWell x.peers) (sym (come_none number h)) well
lives_restarted number (on ∷ ons) h well =
    subst (λ (x : Host). AreWell x.peers) (sym (come_more number on ons h)) (lives_restarted number ons (incomplete_comes number on h) (go (is_message_out on (state_of h number))))
  where
    go : (b : Bool) → AreWell (if b then after_received (incomplete_bits number on) h else h).peers
    go true = lives_on (Receives (incomplete_bits number on)) h _ well refl
    go false = well

-- what becomes of the slots, and of all else
abbrev taken_on : ℕ → PeerState → LinkSlots
taken_on k s = with_slot s.slots k (answered Incomplete (slot_at s.slots k))

in_slot : (on k : ℕ) (s : PeerState) → slot_at (gives_up k s).slots on ≡ (if on == k then answered Incomplete (slot_at s.slots on) else slot_at s.slots on)
in_slot on k s = go (is_answered k s) refl
  where
    stays : (slot : LinkSlot) → is_travelling slot ≡ false → slot ≡ answered Incomplete slot
    stays Empty e = refl
    stays (Ready m) e = refl
    stays (Travelling m) e = absurd (cc)
    stays (Held m) e = refl

    go : (b : Bool) → is_answered k s ≡ b → slot_at (if b then answer_comes k Incomplete s else s).slots on ≡ (if on == k then answered Incomplete (slot_at s.slots on) else slot_at s.slots on)
    go true e =
        ap (λ (b : Bool). slot_at (if b then answer_taken k Incomplete s else record s { counts = record s.counts { stray = one_more s.counts.stray } }).slots on) e
        ∙ elim (eqb_tells on k) [
          | inl y ↦ ap (λ (j : ℕ). slot_at (taken_on k s) j) y.1 ∙ slot_at-changed (taken_on k s) s.slots k (answered Incomplete (slot_at s.slots k)) refl
              ∙ ap (λ (j : ℕ). answered Incomplete (slot_at s.slots j)) (sym y.1)
              ∙ sym (ap (λ (b : Bool). if b then answered Incomplete (slot_at s.slots on) else slot_at s.slots on) y.0)
          | inr n ↦ OthersStay-changed (taken_on k s) s.slots k (answered Incomplete (slot_at s.slots k)) refl on n.1
              ∙ sym (ap (λ (b : Bool). if b then answered Incomplete (slot_at s.slots on) else slot_at s.slots on) n.0)
        ]
    go false e = elim (eqb_tells on k) [
      | inl y ↦ stays (slot_at s.slots on) (ap (λ (j : ℕ). is_travelling (slot_at s.slots j)) y.1 ∙ e)
          ∙ sym (ap (λ (b : Bool). if b then answered Incomplete (slot_at s.slots on) else slot_at s.slots on) y.0)
      | inr n ↦ sym (ap (λ (b : Bool). if b then answered Incomplete (slot_at s.slots on) else slot_at s.slots on) n.0)
    ]

-- one that is taken as not delivered twice
twice : (slot : LinkSlot) → answered Incomplete (answered Incomplete slot) ≡ answered Incomplete slot
twice Empty = refl
twice (Ready m) = refl
twice (Travelling m) = refl
twice (Held m) = refl

either : (a b : Bool) (slot : LinkSlot) → (if b then answered Incomplete (if a then answered Incomplete slot else slot) else (if a then answered Incomplete slot else slot)) ≡ (if a || b then answered Incomplete slot else slot)
either true true slot = twice slot
either true false slot = refl
either false true slot = refl
either false false slot = refl

in_slots : (ons : List ℕ) (on : ℕ) (s : PeerState) → slot_at (gives_up_all ons s).slots on ≡ (if list_any (λ k. on == k) ons then answered Incomplete (slot_at s.slots on) else slot_at s.slots on)
in_slots [] on s = ap (λ (x : PeerState). slot_at x.slots on) (given_up_none s)
in_slots (k ∷ ons) on s =
    ap (λ (x : PeerState). slot_at x.slots on) (given_up_more k ons s)
    ∙ in_slots ons on (gives_up k s)
    ∙ ap (λ (x : LinkSlot). if list_any (λ j. on == j) ons then answered Incomplete x else x) (in_slot on k s)
    ∙ either (on == k) (list_any (λ j. on == j) ons) (slot_at s.slots on)

abbrev SamePeer : PeerState → PeerState → Type 0
SamePeer s x = (x.peer ≡ s.peer) × (x.counts ≡ s.counts)

one_peer : (k : ℕ) (s : PeerState) → ((gives_up k s).peer ≡ s.peer) × ((gives_up k s).counts ≡ s.counts)
one_peer k s = go (is_answered k s) refl
  where
    go : (b : Bool) → is_answered k s ≡ b → SamePeer s (if b then answer_comes k Incomplete s else s)
    go true e = subst (SamePeer s) (sym (ap (λ (b : Bool). if b then answer_taken k Incomplete s else record s { counts = record s.counts { stray = one_more s.counts.stray } }) e)) (refl, refl)
    go false e = (refl, refl)

all_peer : (ons : List ℕ) (s : PeerState) → ((gives_up_all ons s).peer ≡ s.peer) × ((gives_up_all ons s).counts ≡ s.counts)
all_peer [] s = (ap (λ (x : PeerState). x.peer) (given_up_none s), ap (λ (x : PeerState). x.counts) (given_up_none s))
all_peer (k ∷ ons) s =
    let rest = all_peer ons (gives_up k s) in
    let here = one_peer k s in
    (ap (λ (x : PeerState). x.peer) (given_up_more k ons s) ∙ rest.0 ∙ here.0, ap (λ (x : PeerState). x.counts) (given_up_more k ons s) ∙ rest.1 ∙ here.1)

in_range : (n a on : ℕ) → a ≤ on → on < a + n → list_any (λ k. on == k) (range_with_len a n) ≡ true
in_range zero a on low high = absurd (omega arith)
in_range (suc n) a on low high = elim (eqb_tells on a) [
  | inl y ↦ ap (λ (b : Bool). b || list_any (λ k. on == k) (range_with_len (a + 1) n)) y.0
  | inr other ↦ ap (λ (b : Bool). b || list_any (λ k. on == k) (range_with_len (a + 1) n)) other.0 ∙ in_range n (a + 1) on (let d = other.1 in omega (arith, d)) (omega arith)
]

pub in_links : (on : ℕ) → HasSlot on → list_any (λ k. on == k) links ≡ true
in_links on has = elim (eqb_tells on 0) [
  | inl y ↦ ap (λ (b : Bool). b || list_any (λ k. on == k) data_links) y.0
  | inr other ↦ ap (λ (b : Bool). b || list_any (λ k. on == k) data_links) other.0 ∙ in_range 70 2 on (let d = other.1 in let e = has.0 in omega (arith, d, e)) (let l = has.1 in omega (arith, l))
]

pub is_given_up : (s : PeerState) → IsGivenUp s (restarts s)
is_given_up s =
    let rest = all_peer links s in
    record {
      peer = rest.0;
      counts = rest.1;
      slots = λ on has. in_slots links on s ∙ ap (λ (b : Bool). if b then answered Incomplete (slot_at s.slots on) else slot_at s.slots on) (in_links on has);
    }
