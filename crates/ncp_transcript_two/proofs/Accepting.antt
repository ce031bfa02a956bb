-- The subnet takes the message of a host, or stays as it is.
use Rattle.std.proofs.Common.{◌≡◌, ◌↔◌, ℕ, ◌≤◌, ◌==◌, Bool, true, false, ◌&&◌, nat_le, List, length, refl, sym, ap, ◌∙◌, arith, eqb-true, IsOk, OnOk, OnErr, Ok, Err, Result}
use Rattle.std.proofs.lemmas.Bool.{and_parts}
use Rattle.std.proofs.lemmas.Bool.Decides.{nat_tests}
use Rattle.ncp_bits.specs.Reasons.{NoneHolds}
use Rattle.ncp_leader.specs.declared.leader.TheConstants.{LEADER_BITS}
use Rattle.ncp_leader.specs.Leader.{leader_at}
use Rattle.ncp_leader.specs.declared.kinds.TheConstants.{REGULAR}
use Rattle.ncp_subnet.specs.declared.fault.SubnetFault.{SubnetFault}
use Rattle.ncp_subnet.specs.declared.transit.Transit.TheVariants.{Free, Accepted, Delivered, Lost, Dead}
use Rattle.ncp_subnet.specs.Transit.{is_free}
use Rattle.ncp_subnet.specs.Messages.{IsRegular, host_in, link_in}
use Rattle.ncp_subnet.specs.Ways.{OnLink}
use Rattle.ncp_subnet.specs.Subnet.{Subnet, has_way, transit_at, with_transit, refusals, Refuses}
use Rattle.ncp_transcript_two.specs.Between.{is_regular, is_taken, accepted_from}

le_of : (a b : ℕ) → nat_le a b ≡ true → a ≤ b
le_of a b h = grind (arith, nat_tests)

pub of_le : (a b : ℕ) → a ≤ b → nat_le a b ≡ true
of_le a b h = grind (arith, nat_tests)

regular : (m : List Bool) → is_regular m ≡ true → IsRegular m
regular m h = let parts : (nat_le LEADER_BITS (length m) ≡ true) × (((leader_at m).kind == REGULAR) ≡ true) = and_parts _ _ h in (le_of LEADER_BITS (length m) parts.0, eqb-true (leader_at m).kind REGULAR parts.1)

free : (t : OnLink) → is_free t ≡ true → t ≡ Free
free Free h = refl
free (Accepted m) h = cc
free Delivered h = cc
free Lost h = cc
free Dead h = cc

pub both : (a b : Bool) → a ≡ true → b ≡ true → (a && b) ≡ true
both true true h k = refl
both true false h k = cc
both false b h k = cc

not_regular : (m : List Bool) → is_regular m ≡ false → ¬ IsRegular m
not_regular m h (long, kind) = let is : is_regular m ≡ true = both _ _ (of_le LEADER_BITS (length m) long) (rw kind refl) in cc

-- where the message is taken, no refusal holds
no_refusal : (s : Subnet) (from : ℕ) (m : List Bool) → is_taken s from m ≡ true → NoneHolds (Refuses s from m) refusals
no_refusal s from m h =
    let all : ((is_regular m && has_way s from (host_in m)) ≡ true) × (is_free (transit_at s from (host_in m) (link_in m)) ≡ true) = and_parts _ _ h in
    let front : (is_regular m ≡ true) × (has_way s from (host_in m) ≡ true) = and_parts _ _ all.0 in
    ((λ n. n (regular m front.0)), ((λ n. cc), ((λ n. n (free _ all.1)), tt)))

-- where it is not, one holds
a_refusal : (s : Subnet) (from : ℕ) (m : List Bool) → is_taken s from m ≡ false → NoneHolds (Refuses s from m) refusals → ⊥
a_refusal s from m h none = by_regular (is_regular m) refl
  where
    by_free : (t : OnLink) → transit_at s from (host_in m) (link_in m) ≡ t → is_regular m ≡ true → has_way s from (host_in m) ≡ true → ⊥
    by_free Free e r w = let is : is_taken s from m ≡ true = both _ _ (both _ _ r w) (ap is_free e) in cc
    by_free (Accepted x) e r w = none.1.1.0 (λ f. cc)
    by_free Delivered e r w = none.1.1.0 (λ f. cc)
    by_free Lost e r w = none.1.1.0 (λ f. cc)
    by_free Dead e r w = none.1.1.0 (λ f. cc)

    by_way : (b : Bool) → has_way s from (host_in m) ≡ b → is_regular m ≡ true → ⊥
    by_way true w r = by_free (transit_at s from (host_in m) (link_in m)) refl r w
    by_way false w r = none.1.0 w

    by_regular : (b : Bool) → is_regular m ≡ b → ⊥
    by_regular true r = by_way (has_way s from (host_in m)) refl r
    by_regular false r = none.0 (not_regular m r)

pub taken_yes : (s : Subnet) (from : ℕ) (m : List Bool) → is_taken s from m ≡ true → accepted_from from m s ≡ with_transit s from (host_in m) (link_in m) (Accepted m)
unfolding accepted_from
taken_yes s from m t = rw t refl

pub taken_no : (s : Subnet) (from : ℕ) (m : List Bool) → is_taken s from m ≡ false → accepted_from from m s ≡ s
unfolding accepted_from
taken_no s from m t = rw t refl

-- what the subnet answers to a message, and how it is then, is what the rules say
pub accepting : (s now : Subnet) (from : ℕ) (m : List Bool) (r : Result (Unit {0}) SubnetFault) → (IsOk r ↔ NoneHolds (Refuses s from m) refusals) → OnOk r (now ≡ with_transit s from (host_in m) (link_in m) (Accepted m)) → OnErr r (now ≡ s) → now ≡ accepted_from from m s
accepting s now from m r variant ok err = by_taken (is_taken s from m) refl r variant ok err
  where
    by_taken : (b : Bool) → is_taken s from m ≡ b → (r : Result (Unit {0}) SubnetFault) → (IsOk r ↔ NoneHolds (Refuses s from m) refusals) → OnOk r (now ≡ with_transit s from (host_in m) (link_in m) (Accepted m)) → OnErr r (now ≡ s) → now ≡ accepted_from from m s
    by_taken true t (Ok u) v ok err = ok ∙ sym (taken_yes s from m t)
    by_taken false t (Ok u) v ok err = absurd (a_refusal s from m t (v.0 refl))
    by_taken true t (Err f) v ok err = absurd (not_ok (v.1 (no_refusal s from m t)))
      where
        not_ok : IsOk {T = Unit {0}} {E = SubnetFault} (Err f) → ⊥
        not_ok e = cc
    by_taken false t (Err f) v ok err = err ∙ sym (taken_no s from m t)
