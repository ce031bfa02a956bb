-- Which link a receiver takes.
use Rattle.std.proofs.Common.{◌≡◌, ℕ, ◌+◌, ◌<◌, ◌≤◌, suc, zero, Bool, true, false, not, cond, nat_lt, List, [], ◌∷◌, refl, arith}
use Rattle.std.specs.List.{count_by}
use Rattle.std.specs.FinMap.{entries}
use Rattle.std.proofs.lemmas.List.Sums.{sum_by-cons}
use Rattle.ncp_model.specs.declared.pair.Pair.{Pair}
use Rattle.ncp_model.specs.declared.limits.TheConstants.{MAX_OWN}
use Rattle.ncp_wire.specs.declared.links.TheConstants.{FIRST_LINK, LAST_LINK, DATA_LINKS}
use Rattle.ncp_model.specs.Endpoint.{Endpoint}
use Rattle.ncp_model.specs.Ends.{Ends, count, any, has_asked, uses_link, lowest, free_link}

pub lowest-from : (test : ℕ → Bool) (n from : ℕ) → from ≤ lowest test n from
unfolding lowest
lowest-from test zero from = omega arith
lowest-from test (suc n) from = let h = lowest-from test n (suc from) in grind arith

pub lowest-upto : (test : ℕ → Bool) (n from : ℕ) → lowest test n from ≤ from + n
unfolding lowest
lowest-upto test zero from = omega arith
lowest-upto test (suc n) from = let h = lowest-upto test n (suc from) in grind arith

-- below it none passes
pub lowest-below : (test : ℕ → Bool) (n from i : ℕ) → from ≤ i → i < lowest test n from → test i ≡ false
unfolding lowest
lowest-below test zero from i l h = absurd (omega arith)
lowest-below test (suc n) from i l h = go (test from) refl (lowest-below test n (suc from) i)
  where
    go : (b : Bool) → test from ≡ b → (suc from ≤ i → i < lowest test n (suc from) → test i ≡ false) → test i ≡ false
    go true e below = let k : lowest test (suc n) from ≡ from = grind arith in absurd (omega (arith, k))
    go false e below =
        let k : lowest test (suc n) from ≡ lowest test n (suc from) = grind arith in
        let here : i ≡ from → test i ≡ false = λ s. rw s e in
        grind arith

-- it passes, unless it is the one behind them
pub lowest-passes : (test : ℕ → Bool) (n from : ℕ) → lowest test n from < from + n → test (lowest test n from) ≡ true
unfolding lowest
lowest-passes test zero from h = absurd (omega arith)
lowest-passes test (suc n) from h = go (test from) refl (lowest-passes test n (suc from))
  where
    go : (b : Bool) → test from ≡ b → (lowest test n (suc from) < suc from + n → test (lowest test n (suc from)) ≡ true) → test (lowest test (suc n) from) ≡ true
    go true e passes = let k : lowest test (suc n) from ≡ from = grind arith in rw k e
    go false e passes = let k : lowest test (suc n) from ≡ lowest test n (suc from) = grind arith in rw k (passes (omega (arith, k)))

-- There are fewer receiving ends than links.

abbrev one : Bool → ℕ
one b = cond b 1 0

-- on how many of these links an end is
abbrev hits : Pair × Endpoint → ℕ → ℕ → ℕ
hits p zero from = 0
hits p (suc n) from = one (uses_link from p) + hits p n (suc from)

hits-above : (p : Pair × Endpoint) (n from : ℕ) → p.1.link < from → hits p n from ≡ 0
hits-above p zero from h = refl
hits-above p (suc n) from h = let k = hits-above p n (suc from) (omega arith) in grind arith

hits-le : (p : Pair × Endpoint) (n from : ℕ) → hits p n from ≤ one (has_asked p)
hits-le p zero from = omega arith
hits-le p (suc n) from = let h = hits-le p n (suc from) in let k = hits-above p n (suc from) in grind arith

-- how many ends are on these links
abbrev total : List (Pair × Endpoint) → ℕ → ℕ → ℕ
total es zero from = 0
total es (suc n) from = count_by (uses_link from) es + total es n (suc from)

total-nil : (n from : ℕ) → total [] n from ≡ 0
total-nil zero from = refl
total-nil (suc n) from = let h = total-nil n (suc from) in omega (arith, h)

total-cons : (p : Pair × Endpoint) (es : List (Pair × Endpoint)) (n from : ℕ) → total (p ∷ es) n from ≡ hits p n from + total es n from
total-cons p es zero from = refl
total-cons p es (suc n) from =
    let h = total-cons p es n (suc from) in let k = sum_by-cons (λ x. cond (uses_link from x) 1 0) p es in omega (arith, h, k)

total-le : (es : List (Pair × Endpoint)) (n from : ℕ) → total es n from ≤ count_by has_asked es
total-le [] n from = omega (arith, total-nil n from)
total-le (p ∷ es) n from =
    let h = total-le es n from in let k = hits-le p n from in let t = total-cons p es n from in
    let c = sum_by-cons (λ x. cond (has_asked x) 1 0) p es in omega (arith, h, k, t, c)

-- where none is free, each of the links has an end
total-full : (es : List (Pair × Endpoint)) (n from : ℕ) → from + n ≤ lowest (λ on. not (nat_lt 0 (count_by (uses_link on) es))) n from → n ≤ total es n from
unfolding lowest
total-full es zero from h = omega arith
total-full es (suc n) from h = let k = total-full es n (suc from) in grind arith

-- of the ends with one peer

pub free-from : (m : Ends) → FIRST_LINK ≤ free_link m
free-from m = lowest-from (λ on. not (any (uses_link on) m)) DATA_LINKS FIRST_LINK

pub free-lowest : (m : Ends) (on : ℕ) → FIRST_LINK ≤ on → on < free_link m → any (uses_link on) m ≡ true
free-lowest m on l h = let k = lowest-below (λ on. not (any (uses_link on) m)) DATA_LINKS FIRST_LINK on l h in grind arith

pub free-free : (m : Ends) → free_link m ≤ LAST_LINK → any (uses_link (free_link m)) m ≡ false
free-free m h = let k = lowest-passes (λ on. not (any (uses_link on) m)) DATA_LINKS FIRST_LINK (omega arith) in grind arith

pub free-room : (m : Ends) → count has_asked m ≤ MAX_OWN → free_link m ≤ LAST_LINK
free-room m h =
    let k = total-full (entries m) DATA_LINKS FIRST_LINK in
    let t = total-le (entries m) DATA_LINKS FIRST_LINK in
    let u = lowest-upto (λ on. not (any (uses_link on) m)) DATA_LINKS FIRST_LINK in
    go (nat_lt LAST_LINK (free_link m)) refl
  where
    go : (b : Bool) → nat_lt LAST_LINK (free_link m) ≡ b → free_link m ≤ LAST_LINK
    go false e = grind arith
    go true e = let f : DATA_LINKS ≤ total (entries m) DATA_LINKS FIRST_LINK = total-full (entries m) DATA_LINKS FIRST_LINK (grind arith) in absurd (omega (arith, f, total-le (entries m) DATA_LINKS FIRST_LINK))
