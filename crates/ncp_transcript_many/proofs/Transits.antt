-- What is in transit between two hosts, in two subnets; and that each message that is in transit has the
-- destination and the link of its place in its leader.
use Rattle.std.proofs.Common.{◌≡◌, ◌≢◌, ◌<◌, ◌≤◌, ℕ, ◌==◌, ◌^◌, Bool, true, false, ◌&&◌, nat_le, if◌then◌else◌, List, ◌++◌, length, drop, Some, Ok, inl, inr, refl, sym, ap, ◌∙◌, subst, arith}
use Rattle.std.proofs.lemmas.Bool.Decides.{nat_tests}
use Rattle.ncp_numbers.specs.Numbers.{bits_of}
use Rattle.ncp_leader.specs.declared.leader.Leader.{Leader}
use Rattle.ncp_leader.specs.declared.kinds.TheConstants.{REGULAR}
use Rattle.ncp_leader.specs.declared.leader.TheConstants.{LEADER_BITS}
use Rattle.ncp_leader.specs.Leader.{IsLeader, leader_in, leader_at, leader_bits}
use Rattle.ncp_leader.proofs.Leaders.{IsLeader-at, leader_first, leader_in-bits}
use Rattle.ncp_peer.specs.Output.{leader_to}
use Rattle.ncp_subnet.specs.declared.transit.Transit.TheVariants.{Free, Accepted, Delivered, Lost, Dead}
use Rattle.ncp_subnet.specs.Transit.{is_free, is_accepted, answer_kind}
use Rattle.ncp_subnet.specs.Messages.{host_in, link_in, from_host}
use Rattle.ncp_subnet.specs.Ways.{OnLink}
use Rattle.ncp_subnet.specs.Subnet.{TransitKey, place, Subnet, has_way, transit_at, with_transit}
use Rattle.ncp_subnet.proofs.Places.{same_or_distinct, transit_at-same, transit_at-others}
use Rattle.ncp_transcript_two.specs.Between.{is_regular, is_taken, accepted_from}
use Rattle.ncp_transcript_two.proofs.Accepting.{both, taken_yes, taken_no}
use Rattle.ncp_transcript_two.proofs.SeenMoves.{leader-parts}

-- the same is in transit from one host to another
abbrev pub SameWay : Subnet → Subnet → ℕ → ℕ → Type 0
SameWay s t a b = (on : ℕ) → transit_at s a b on ≡ transit_at t a b on

at-place : (s : Subnet) (from to link : ℕ) (x : OnLink) (a b on : ℕ) → place a b on ≡ place from to link → transit_at (with_transit s from to link x) a b on ≡ x
at-place s from to link x a b on e =
    ap (λ (p : TransitKey). transit_at (with_transit s from to link x) p.from p.to p.link) e ∙ transit_at-same s from to link x

off-place : (s : Subnet) (from to link : ℕ) (x : OnLink) (a b on : ℕ) → place a b on ≢ place from to link → transit_at (with_transit s from to link x) a b on ≡ transit_at s a b on
off-place s from to link x a b on ne = transit_at-others s from to link x a b on (λ e. ne (λ i. place (e.0 i) (e.1 i) (e.2 i)))

-- it stays so where the same comes to be in transit in both
pub put-alike : (s t : Subnet) (a b from to link : ℕ) (x : OnLink) → SameWay s t a b → SameWay (with_transit s from to link x) (with_transit t from to link x) a b
put-alike s t a b from to link x same on = elim (same_or_distinct (place a b on) (place from to link)) [
  | inl e ↦ at-place s from to link x a b on e ∙ sym (at-place t from to link x a b on e)
  | inr ne ↦ off-place s from to link x a b on ne ∙ same on ∙ sym (off-place t from to link x a b on ne)
]

-- what is in transit between others says nothing
pub put-elsewhere : (s : Subnet) (a b from to link : ℕ) (x : OnLink) → (a ≡ from → b ≡ to → ⊥) → SameWay (with_transit s from to link x) s a b
put-elsewhere s a b from to link x ne on = transit_at-others s from to link x a b on (λ e. ne e.0 e.1)

-- A message with its destination and its link in its leader.

nothing-and : (a b : Bool) → b ≡ false → (a && b) ≡ false
nothing-and true b e = e
nothing-and false b e = refl

pub taken-as : (s : Subnet) (from to on : ℕ) (m : List Bool) → leader_in m ≡ Ok (leader_to to on) → has_way s from to ≡ true
    → accepted_from from m s ≡ (if is_free (transit_at s from to on) then with_transit s from to on (Accepted m) else s)
taken-as s from to on m led way = go (is_free (transit_at s from to on)) refl
  where
    parts : (nat_le LEADER_BITS (length m) ≡ true) × (leader_at m ≡ leader_to to on)
    parts = leader-parts m (leader_to to on) led

    regular : is_regular m ≡ true
    regular = both _ _ parts.0 (ap (λ (l : Leader). l.kind == REGULAR) parts.1)

    there : has_way s from (host_in m) ≡ true
    there = ap (λ (l : Leader). has_way s from l.host) parts.1 ∙ way

    free : (b : Bool) → is_free (transit_at s from to on) ≡ b → is_free (transit_at s from (host_in m) (link_in m)) ≡ b
    free b e = ap (λ (l : Leader). is_free (transit_at s from l.host l.link)) parts.1 ∙ e

    go : (b : Bool) → is_free (transit_at s from to on) ≡ b → accepted_from from m s ≡ (if b then with_transit s from to on (Accepted m) else s)
    go true e = taken_yes s from m (both _ _ (both _ _ regular there) (free true e)) ∙ ap (λ (l : Leader). with_transit s from l.host l.link (Accepted m)) parts.1
    go false e = taken_no s from m (nothing-and _ _ (free false e))

pub taken-alike : (s t : Subnet) (a b from to on : ℕ) (m : List Bool) → leader_in m ≡ Ok (leader_to to on) → has_way s from to ≡ true → has_way t from to ≡ true
    → transit_at s from to on ≡ transit_at t from to on → SameWay s t a b → SameWay (accepted_from from m s) (accepted_from from m t) a b
taken-alike s t a b from to on m led ways wayt is same at =
    ap (λ (u : Subnet). transit_at u a b at) (taken-as s from to on m led ways)
    ∙ ap (λ (x : OnLink). transit_at (if is_free x then with_transit s from to on (Accepted m) else s) a b at) is
    ∙ go (is_free (transit_at t from to on))
    ∙ sym (ap (λ (u : Subnet). transit_at u a b at) (taken-as t from to on m led wayt))
  where
    go : (c : Bool) → transit_at (if c then with_transit s from to on (Accepted m) else s) a b at ≡ transit_at (if c then with_transit t from to on (Accepted m) else t) a b at
    go true = put-alike s t a b from to on (Accepted m) same at
    go false = same at

pub taken-elsewhere : (s : Subnet) (a b from : ℕ) (m : List Bool) → (a ≡ from → b ≡ host_in m → ⊥) → SameWay (accepted_from from m s) s a b
taken-elsewhere s a b from m ne on = go (is_taken s from m) refl
  where
    go : (c : Bool) → is_taken s from m ≡ c → transit_at (accepted_from from m s) a b on ≡ transit_at s a b on
    go true e = ap (λ (u : Subnet). transit_at u a b on) (taken_yes s from m e) ∙ put-elsewhere s a b from (host_in m) (link_in m) (Accepted m) ne on
    go false e = ap (λ (u : Subnet). transit_at u a b on) (taken_no s from m e)

pub taken-way : (s : Subnet) (a b from : ℕ) (m : List Bool) → has_way (accepted_from from m s) a b ≡ has_way s a b
taken-way s a b from m = go (is_taken s from m) refl
  where
    go : (c : Bool) → is_taken s from m ≡ c → has_way (accepted_from from m s) a b ≡ has_way s a b
    go true e = ap (λ (u : Subnet). has_way u a b) (taken_yes s from m e)
    go false e = ap (λ (u : Subnet). has_way u a b) (taken_no s from m e)

-- What is in transit has a small link, and a message there its place in its leader.

abbrev pub InPlace : ℕ → ℕ → OnLink → Type 0
InPlace to link Free = Unit {0}
InPlace to link (Accepted m) = (link < 2 ^ 8) × (leader_in m ≡ Ok (leader_to to link))
InPlace to link Delivered = link < 2 ^ 8
InPlace to link Lost = link < 2 ^ 8
InPlace to link Dead = link < 2 ^ 8

abbrev pub AllInPlace : Subnet → Type 0
AllInPlace s = (from to link : ℕ) → InPlace to link (transit_at s from to link)

pub put-in-place : (s : Subnet) (from to link : ℕ) (x : OnLink) → AllInPlace s → InPlace to link x → AllInPlace (with_transit s from to link x)
put-in-place s from to link x all is a b on = elim (same_or_distinct (place a b on) (place from to link)) [
  | inl e ↦ subst (InPlace b on) (sym (at-place s from to link x a b on e)) (subst (λ (p : TransitKey). InPlace p.to p.link x) (sym e) is)
  | inr ne ↦ subst (InPlace b on) (sym (off-place s from to link x a b on ne)) (all a b on)
]

pub taken-in-place : (s : Subnet) (from to on : ℕ) (m : List Bool) → leader_in m ≡ Ok (leader_to to on) → on < 2 ^ 8 → AllInPlace s → AllInPlace (accepted_from from m s)
taken-in-place s from to on m led small all = go (is_taken s from m) refl
  where
    is : leader_at m ≡ leader_to to on
    is = (leader-parts m (leader_to to on) led).1

    go : (c : Bool) → is_taken s from m ≡ c → AllInPlace (accepted_from from m s)
    go true e =
        subst AllInPlace (sym (taken_yes s from m e))
        (put-in-place s from (host_in m) (link_in m) (Accepted m) all (subst (λ (l : Leader). InPlace l.host l.link (Accepted m)) (sym is) (small, led)))
    go false e = subst AllInPlace (sym (taken_no s from m e)) all

-- a message that may still come
pub accepted-in-place : (to link : ℕ) (x : OnLink) (m : List Bool) → InPlace to link x → x ≡ Accepted m → (link < 2 ^ 8) × (leader_in m ≡ Ok (leader_to to link))
accepted-in-place to link x m is e = subst (InPlace to link) e is

pub travels-in-place : (to link : ℕ) (x : OnLink) → InPlace to link x → is_accepted x ≡ true → link < 2 ^ 8
travels-in-place to link (Accepted m) is e = is.0
travels-in-place to link Free is e = absurd (cc)
travels-in-place to link Delivered is e = absurd (cc)
travels-in-place to link Lost is e = absurd (cc)
travels-in-place to link Dead is e = absurd (cc)

-- one that is answered
pub answered-in-place : (to link kind : ℕ) (x : OnLink) → InPlace to link x → answer_kind x ≡ Some kind → link < 2 ^ 8
answered-in-place to link kind Free is e = absurd (cc)
answered-in-place to link kind (Accepted m) is e = absurd (cc)
answered-in-place to link kind Delivered is e = is
answered-in-place to link kind Lost is e = is
answered-in-place to link kind Dead is e = is

-- It comes with the number of its sender in its leader.

le_of : (a b : ℕ) → nat_le a b ≡ true → a ≤ b
le_of a b h = grind (arith, nat_tests)

with-sender : (from to on : ℕ) (rest : List Bool) → from_host from (leader_bits (leader_to to on) ++ rest) ≡ leader_bits (leader_to from on) ++ rest
unfolding from_host bits_of
with-sender from to on rest = refl

pub from_host-led : (from to on : ℕ) (m : List Bool) → from < 2 ^ 8 → leader_in m ≡ Ok (leader_to to on) → leader_in (from_host from m) ≡ Ok (leader_to from on)
from_host-led from to on m small led =
    let parts : (nat_le 32 (length m) ≡ true) × (leader_at m ≡ leader_to to on) = leader-parts m (leader_to to on) led in
    let fits : IsLeader (leader_to to on) = subst IsLeader parts.1 (IsLeader-at m) in
    let form : m ≡ leader_bits (leader_to to on) ++ drop 32 m = leader_first m (le_of 32 (length m) parts.0) ∙ ap (λ (l : Leader). leader_bits l ++ drop 32 m) parts.1 in
    ap (λ (b : List Bool). leader_in (from_host from b)) form
    ∙ ap leader_in (with-sender from to on (drop 32 m))
    ∙ leader_in-bits (leader_to from on) (drop 32 m) (record { flags = fits.flags; kind = fits.kind; host = small; link = fits.link; low = fits.low })
