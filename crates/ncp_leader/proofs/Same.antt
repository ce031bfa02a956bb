-- What the test of every field says.
use Rattle.std.proofs.Common.{◌≡◌, Bool, true, ◌&&◌, nat_eq, sym, subst}
use Rattle.std.proofs.lemmas.Bool.{and_parts}
use Rattle.std.proofs.lemmas.Bool.Decides.{Decides-eqb}
use Rattle.std.proofs.Math.Bool.{beq}
use Rattle.std.specs.Bool.{Decides}
use Rattle.std.specs.Cmp.{booleans_Decides}
use Rattle.std.specs.Cmp.Lexicographic.{pointwise, pointwise_decides}
use Rattle.ncp_leader.specs.declared.leader.Leader.{Leader}
use Rattle.ncp_leader.specs.Message.{Message}
use Rattle.ncp_leader.specs.Same.{same_leader, same_message, message_equiv}

first : (s t : Bool) → (s && t) ≡ true → s ≡ true
first s t e = (and_parts s t e).0

second : (s t : Bool) → (s && t) ≡ true → t ≡ true
second s t e = (and_parts s t e).1

-- leaders and messages with the same fields
one_leader : (a b : Leader) → a.flags ≡ b.flags → a.kind ≡ b.kind → a.host ≡ b.host → a.link ≡ b.link → a.low ≡ b.low → a ≡ b
one_leader a b flags kind host link low = λ i. record { flags = flags i; kind = kind i; host = host i; link = link i; low = low i }

one_message : (a b : Message) → a.leader ≡ b.leader → a.size ≡ b.size → a.count ≡ b.count → a.text ≡ b.text → a ≡ b
one_message a b leader size count text = λ i. record { leader = leader i; size = size i; count = count i; text = text i }

pub leaders_same : (a b : Leader) → same_leader a b ≡ true → a ≡ b
leaders_same a b e =
    let f : Bool = nat_eq a.flags b.flags in
    let k : Bool = nat_eq a.kind b.kind in
    let h : Bool = nat_eq a.host b.host in
    let l : Bool = nat_eq a.link b.link in
    let w : Bool = nat_eq a.low b.low in
    let e1 : (k && (h && (l && w))) ≡ true = second f (k && (h && (l && w))) e in
    let e2 : (h && (l && w)) ≡ true = second k (h && (l && w)) e1 in
    let e3 : (l && w) ≡ true = second h (l && w) e2 in
    one_leader a b
    ((Decides-eqb a.flags b.flags).0 (first f (k && (h && (l && w))) e))
    ((Decides-eqb a.kind b.kind).0 (first k (h && (l && w)) e1))
    ((Decides-eqb a.host b.host).0 (first h (l && w) e2))
    ((Decides-eqb a.link b.link).0 (first l w e3))
    ((Decides-eqb a.low b.low).0 (second l w e3))

messages_same : (a b : Message) → same_message a b ≡ true → a ≡ b
messages_same a b e =
    let l : Bool = same_leader a.leader b.leader in
    let s : Bool = nat_eq a.size b.size in
    let c : Bool = nat_eq a.count b.count in
    let t : Bool = pointwise beq a.text b.text in
    let e1 : (s && (c && t)) ≡ true = second l (s && (c && t)) e in
    let e2 : (c && t) ≡ true = second s (c && t) e1 in
    one_message a b
    (leaders_same a.leader b.leader (first l (s && (c && t)) e))
    ((Decides-eqb a.size b.size).0 (first s (c && t) e1))
    ((Decides-eqb a.count b.count).0 (first c t e2))
    ((pointwise_decides booleans_Decides a.text b.text).0 (second c t e2))

pub messages_decided : (a b : Message) (r : Bool) → r ≡ same_message a b → Decides r (a ≡ b)
messages_decided a b r e = (λ t. messages_same a b (subst (λ (s : Bool). s ≡ true) e t), λ p. subst (λ (s : Bool). s ≡ true) (sym e) (subst (λ (m : Message). same_message a m ≡ true) p (message_equiv.refl a)))
