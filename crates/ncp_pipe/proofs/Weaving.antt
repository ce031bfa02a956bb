-- Runs and lists of steps: what both sides need.
use Rattle.std.proofs.Common.{◌≡◌, Bool, true, false, if◌then◌else◌, List, [], ◌∷◌, ◌++◌, refl, sym, ap, ◌∙◌, subst}
use Rattle.ncp_pipe.specs.Pipe.{Pipe, Step, IsRun}
use Rattle.ncp_pipe.specs.Sides.{those}

-- one run after another
pub joined : (x y z : Pipe) (some more : List Step) → IsRun x some y → IsRun y more z → IsRun x (some ++ more) z
joined x y z [] more r t = subst (λ (a : Pipe). IsRun a more z) (sym r) t
joined x y z (a ∷ some) more (m, i, r) t = (m, i, joined m y z some more r t)

pub those-append : (which : Step → Bool) (xs ys : List Step) → those which (xs ++ ys) ≡ those which xs ++ those which ys
those-append which [] ys = refl
those-append which (x ∷ xs) ys = go (which x) (those-append which xs ys)
  where
    go : (b : Bool) → those which (xs ++ ys) ≡ those which xs ++ those which ys → (if b then x ∷ those which (xs ++ ys) else those which (xs ++ ys)) ≡ (if b then x ∷ those which xs else those which xs) ++ those which ys
    go true e = ap (λ (l : List Step). x ∷ l) e
    go false e = e

pub behind : (out steps a b ab : List Step) (which : Step → Bool) → those which out ≡ a → those which steps ≡ b → ab ≡ a ++ b → those which (out ++ steps) ≡ ab
behind out steps a b ab which e f k = those-append which out steps ∙ ap (λ (l : List Step). l ++ those which steps) e ∙ ap (λ (l : List Step). a ++ l) f ∙ sym k

-- what some steps are among those of a side
pub among : (some side : Step → Bool) → ((x : Step) → side x ≡ false → some x ≡ false) → (xs : List Step) → those some xs ≡ those some (those side xs)
among some side within [] = refl
among some side within (x ∷ xs) = go (side x) refl (some x) refl (among some side within xs)
  where
    go : (b : Bool) → side x ≡ b → (c : Bool) → some x ≡ c → those some xs ≡ those some (those side xs) → (if c then x ∷ those some xs else those some xs) ≡ those some (if b then x ∷ those side xs else those side xs)
    go true s c h e = ap (λ (l : List Step). if c then x ∷ l else l) e ∙ ap (λ (d : Bool). if d then x ∷ those some (those side xs) else those some (those side xs)) (sym h)
    go false s true h e = absurd (cc (sym h ∙ within x s))
    go false s false h e = e

pub same-among : (some side : Step → Bool) → ((x : Step) → side x ≡ false → some x ≡ false) → (xs ys : List Step) → those side xs ≡ those side ys → those some xs ≡ those some ys
same-among some side within xs ys e = among some side within xs ∙ ap (those some) e ∙ sym (among some side within ys)
