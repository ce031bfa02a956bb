use Rattle.std.proofs.Common.{◌≡◌, ℕ, ◌+◌, ◌-◌, ◌<◌, ◌≤◌, Bool, true, false, nat_le, if◌then◌else◌, List, [], ◌∷◌, ◌++◌, length, take, refl, sym, ap, ◌∙◌, add-one, arith}
use Rattle.std.proofs.lemmas.List.{length-append}
use Rattle.ncp_wire.specs.declared.command.Command.{Command}
use Rattle.ncp_wire.specs.declared.command.Command.TheVariants.{Nop, Rts, Str, Cls, All, Gvb, Ret, Inr, Ins, Eco, Erp, Err, Rst, Rrp}
use Rattle.ncp_wire.specs.Spelling.{IsCommand, spelling, spellings}
use Rattle.ncp_model.specs.declared.limits.TheConstants.{MAX_CONTROL}
use Rattle.ncp_model.specs.Sending.{fitting}
use Rattle.ncp_model.proofs.phases.control_messages_are_filled.Goals as goal

abbrev Begins : List Command → List Command → Type 0
Begins xs ys = (rest : List Command) × (xs ++ rest ≡ ys)

more : (c : Command) (xs ys : List Command) → Begins xs ys → Begins (c ∷ xs) (c ∷ ys)
more c xs ys p = (p.0, ap (λ (l : List Command). c ∷ l) p.1)

either : (b : Bool) (xs ys zs : List Command) → Begins xs zs → Begins ys zs → Begins (if b then xs else ys) zs
either true xs ys zs p q = p
either false xs ys zs p q = q

begins : (room : ℕ) (cs : List Command) → Begins (fitting room cs) cs
begins room [] = ([], refl)
begins room (c ∷ cs) =
    either (nat_le (length (spelling c)) room) (c ∷ fitting (room - length (spelling c)) cs) [] (c ∷ cs)
    (more c (fitting (room - length (spelling c)) cs) cs (begins (room - length (spelling c)) cs)) (c ∷ cs, refl)

pub returns-clause-beginning : goal.returns-clause-beginning
returns-clause-beginning c = begins MAX_CONTROL

-- so many bytes do they have
weighs : (room : ℕ) (cs : List Command) → length (spellings (fitting room cs)) ≤ room
weighs room [] = omega arith
weighs room (c ∷ cs) = go (nat_le (length (spelling c)) room) refl (weighs (room - length (spelling c)) cs)
  where
    go : (b : Bool) → nat_le (length (spelling c)) room ≡ b → length (spellings (fitting (room - length (spelling c)) cs)) ≤ room - length (spelling c) → length (spellings (fitting room (c ∷ cs))) ≤ room
    go true e h = let l = length-append (spelling c) (spellings (fitting (room - length (spelling c)) cs)) in grind arith
    go false e h = grind arith

-- with one more they would have too many
outweighs : (room : ℕ) (cs rest : List Command) (c : Command) → fitting room cs ++ c ∷ rest ≡ cs → room < length (spellings (fitting room cs ++ c ∷ []))
outweighs room [] rest c e = absurd (cc e)
outweighs room (d ∷ ds) rest c e = go (nat_le (length (spelling d)) room) refl (outweighs (room - length (spelling d)) ds rest c)
  where
    go : (b : Bool) → nat_le (length (spelling d)) room ≡ b → (fitting (room - length (spelling d)) ds ++ c ∷ rest ≡ ds → room - length (spelling d) < length (spellings (fitting (room - length (spelling d)) ds ++ c ∷ []))) → room < length (spellings (fitting room (d ∷ ds) ++ c ∷ []))
    go true t h =
        let f : fitting room (d ∷ ds) ≡ d ∷ fitting (room - length (spelling d)) ds = grind arith in
        let s : d ∷ (fitting (room - length (spelling d)) ds ++ c ∷ rest) ≡ d ∷ ds = ap (λ (l : List Command). l ++ c ∷ rest) (sym f) ∙ e in
        let k = h (cc s) in
        let l = length-append (spelling d) (spellings (fitting (room - length (spelling d)) ds ++ c ∷ [])) in
        let g : length (spellings (fitting room (d ∷ ds) ++ c ∷ [])) ≡ length (spelling d ++ spellings (fitting (room - length (spelling d)) ds ++ c ∷ [])) = ap (λ (y : List Command). length (spellings (y ++ c ∷ []))) f in
        omega (arith, k, l, g)
    go false t h =
        let f : fitting room (d ∷ ds) ≡ [] = grind arith in
        let s : c ∷ rest ≡ d ∷ ds = ap (λ (l : List Command). l ++ c ∷ rest) (sym f) ∙ e in
        let same : c ≡ d = cc s in
        let l : length (spellings (c ∷ [])) ≡ length (spelling d) = ap (λ (y : Command). length (spelling y ++ [])) same ∙ (length-append (spelling d) [] ∙ omega arith) in
        let g : length (spellings (fitting room (d ∷ ds) ++ c ∷ [])) ≡ length (spellings (c ∷ [])) = ap (λ (y : List Command). length (spellings (y ++ c ∷ []))) f in
        let n : room < length (spelling d) = grind arith in
        omega (arith, l, g, n)

-- they are the first ones
firsts : (room : ℕ) (cs : List Command) → fitting room cs ≡ take (length (fitting room cs)) cs
firsts room [] = refl
firsts room (c ∷ cs) = go (nat_le (length (spelling c)) room) refl (firsts (room - length (spelling c)) cs)
  where
    go : (b : Bool) → nat_le (length (spelling c)) room ≡ b → fitting (room - length (spelling c)) cs ≡ take (length (fitting (room - length (spelling c)) cs)) cs → fitting room (c ∷ cs) ≡ take (length (fitting room (c ∷ cs))) (c ∷ cs)
    go true e h =
        let f : fitting room (c ∷ cs) ≡ c ∷ fitting (room - length (spelling c)) cs = grind arith in
        rw f (ap (λ (l : List Command). c ∷ l) h)
    go false e h = let f : fitting room (c ∷ cs) ≡ [] = grind arith in rw f refl

first : (c : Command) (cs : List Command) → length (spelling c) ≤ MAX_CONTROL → (n : ℕ) × (fitting MAX_CONTROL (c ∷ cs) ≡ take (n + 1) (c ∷ cs))
first c cs l =
    let f : fitting MAX_CONTROL (c ∷ cs) ≡ c ∷ fitting (MAX_CONTROL - length (spelling c)) cs = grind arith in
    let n = length (fitting (MAX_CONTROL - length (spelling c)) cs) in
    (n, f ∙ rw (add-one n) (ap (λ (y : List Command). c ∷ y) (firsts (MAX_CONTROL - length (spelling c)) cs)))

short : (c : Command) → IsCommand c → length (spelling c) ≤ 12
short (Err code bytes) h = let l : length bytes ≡ 10 = h.1 in omega (arith, l)
short Nop h = omega arith
short (Rts a b d) h = omega arith
short (Str a b d) h = omega arith
short (Cls a b) h = omega arith
short (All a b d) h = omega arith
short (Gvb a b d) h = omega arith
short (Ret a b d) h = omega arith
short (Inr a) h = omega arith
short (Ins a) h = omega arith
short (Eco a) h = omega arith
short (Erp a) h = omega arith
short Rst h = omega arith
short Rrp h = omega arith

pub returns-clause-fits : goal.returns-clause-fits
returns-clause-fits c = weighs MAX_CONTROL

pub returns-clause-no_more_fits : goal.returns-clause-no_more_fits
returns-clause-no_more_fits c = outweighs MAX_CONTROL

pub returns-clause-at_least_one : goal.returns-clause-at_least_one
returns-clause-at_least_one c = first

pub returns-clause-every_one : goal.returns-clause-every_one
returns-clause-every_one c = λ (d : Command) h. let k = short d h in omega (arith, k)
