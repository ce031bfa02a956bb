use Rattle.std.proofs.Common.{◌≡◌, ◌≤◌, ℕ, ◌==◌, Bool, true, false, List, [], ◌∷◌, length, refl, sym, subst, arith}
use Rattle.ncp_subnet.specs.Messages.{link_in, from_host}
use Rattle.ncp_transcript_two.specs.Honest.{MessageEvent, Sent, Arrives, Acked, Nacked, Clear, HonestFrom, if_on, sent_from, messages_coming, IsPrefixWithin}
use Rattle.ncp_transcript_two.specs.declared.side.Side.TheVariants.{A, B}
use Rattle.ncp_statement.proofs.examples.wrong_subnets_are_seen.Goals as goal

itself : (n : ℕ) → (n == n) ≡ true
itself n = grind arith

-- where the link is that of the message
on : (m : List Bool) (P : Bool → Type 0) → P (link_in m == link_in m) → P true
on m P k = subst P (itself (link_in m)) k

pub returns-clause-good : goal.returns-clause-good
returns-clause-good c m r s A link = go (link_in m == link)
  where
    go : (b : Bool) → HonestFrom 1 Clear (if_on b (Sent m) ∷ if_on b (Arrives (from_host 1 m)) ∷ if_on b Acked ∷ [])
    go true = (refl, tt)
    go false = tt
returns-clause-good c m r s B link = tt

pub returns-clause-twice : goal.returns-clause-twice
returns-clause-twice c m r s t = (on m (λ b. HonestFrom 1 Clear (if_on b (Sent m) ∷ if_on b (Arrives (from_host 1 m)) ∷ if_on b (Arrives (from_host 1 m)) ∷ [])) (t A (link_in m))).1

pub returns-clause-changed : goal.returns-clause-changed
returns-clause-changed c m n r not t = not (on m (λ b. HonestFrom 1 Clear (if_on b (Sent m) ∷ if_on b (Arrives n) ∷ [])) (t A (link_in m))).0

pub returns-clause-unsaid : goal.returns-clause-unsaid
returns-clause-unsaid c m r t = on m (λ b. HonestFrom 1 Clear (if_on b (Sent m) ∷ if_on b Acked ∷ [])) (t A (link_in m))

pub returns-clause-denied : goal.returns-clause-denied
returns-clause-denied c m r s t = (on m (λ b. HonestFrom 1 Clear (if_on b (Sent m) ∷ if_on b (Arrives (from_host 1 m)) ∷ if_on b Nacked ∷ [])) (t A (link_in m))).1

abbrev Behind : List MessageEvent → Type 0
Behind ds = IsPrefixWithin 1 (messages_coming ds) (sent_from 1 true ds)

came_more : (n : List Bool) (rest : List (List Bool)) → [] ≡ n ∷ rest → ⊥
came_more n rest e = absurd (cc e)

pub returns-clause-made_up : goal.returns-clause-made_up
returns-clause-made_up c m n r t = let k = on m (λ b. Behind (if_on b (Arrives n) ∷ [])) (t A (link_in m)) in came_more n k.0 k.1

pub returns-clause-following : goal.returns-clause-following
returns-clause-following c m A link = go (link_in m == link)
  where
    go : (b : Bool) → Behind (if_on b (Sent m) ∷ [])
    go true = (from_host 1 m ∷ [], refl, grind arith)
    go false = ([], refl, grind arith)
returns-clause-following c m B link = ([], refl, grind arith)

two_more : (x y : List Bool) (rest : List (List Bool)) → x ∷ y ∷ [] ≡ rest → length rest ≤ 1 → ⊥
two_more x y rest e k = let two : 2 ≤ 1 = subst (λ (l : List (List Bool)). length l ≤ 1) (sym e) k in absurd (omega (arith, two))

pub returns-clause-two_after : goal.returns-clause-two_after
returns-clause-two_after c m r t = let k = on m (λ b. Behind (if_on b (Sent m) ∷ if_on b Acked ∷ if_on b (Sent m) ∷ [])) (t A (link_in m)) in two_more _ _ k.0 k.1 k.2
