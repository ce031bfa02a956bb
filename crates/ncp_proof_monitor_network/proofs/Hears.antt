-- Of the commands that are underway from one host to the other: those that the other judges when they come; and that what each
-- awaits is on its way, or owed.
use Rattle.std.proofs.Common.{◌≡◌, ℕ, ◌+◌, ◌<◌, ◌==◌, Bool, true, false, not, ◌||◌, if◌then◌else◌, List, [], ◌∷◌, ◌++◌, refl, sym, ap, ◌∙◌, arith}
use Rattle.std.proofs.lemmas.List.{append-nil}
use Rattle.ncp_wire.specs.declared.command.Command.{Command}
use Rattle.ncp_model.specs.Phase.{is_rst, is_rrp, is_reset, is_other}
use Rattle.ncp_model.proofs.ResetLists.{bit, rsts, rrps, others, after_rst, rsts-append, rrps-append, after_rst-append, after_rst-calm}

-- a host that waits for a reply drops what comes before the RRP; and what comes after an RST is of another session
abbrev pub hears : Bool → List Command → List Command
hears waits [] = []
hears true (c ∷ u) = hears (not (is_rrp c)) u
hears false (c ∷ u) = if is_rst c then [] else if is_rrp c then hears false u else c ∷ hears false u

-- ---- one that comes

pub hears_other : (c : Command) (u : List Command) → is_rst c ≡ false → is_rrp c ≡ false → hears false (c ∷ u) ≡ c ∷ hears false u
hears_other c u r p = ap (λ (b : Bool). if b then [] else if is_rrp c then hears false u else c ∷ hears false u) r ∙ ap (λ (b : Bool). if b then hears false u else c ∷ hears false u) p

pub drops_other : (c : Command) (u : List Command) → is_rrp c ≡ false → hears true (c ∷ u) ≡ hears true u
drops_other c u p = ap (λ (b : Bool). hears (not b) u) p

-- ---- where there is nothing to judge

other_first : (c : Command) (u : List Command) → is_rst c ≡ false → is_rrp c ≡ false → others (c ∷ u) ≡ [] → ⊥
other_first c u r p e =
    let is : is_other c ≡ true = ap (λ (b : Bool). not (b || is_rrp c)) r ∙ ap not p in
    let nay : c ∷ others u ≡ [] = sym (ap (λ (b : Bool). if b then c ∷ others u else others u) is) ∙ e in
    absurd (cc nay)

fewer_others : (c : Command) (u : List Command) → others (c ∷ u) ≡ [] → others u ≡ []
fewer_others c u e = go (is_other c) refl
  where
    go : (b : Bool) → is_other c ≡ b → others u ≡ []
    go true f = let nay : c ∷ others u ≡ [] = sym (ap (λ (b : Bool). if b then c ∷ others u else others u) f) ∙ e in absurd (cc nay)
    go false f = sym (ap (λ (b : Bool). if b then c ∷ others u else others u) f) ∙ e

pub hears_none : (waits : Bool) (u : List Command) → others u ≡ [] → hears waits u ≡ []
hears_none true [] e = refl
hears_none false [] e = refl
hears_none true (c ∷ u) e = hears_none (not (is_rrp c)) u (fewer_others c u e)
hears_none false (c ∷ u) e = go (is_rst c) refl (is_rrp c) refl (hears_none false u (fewer_others c u e))
  where
    go : (r : Bool) → is_rst c ≡ r → (p : Bool) → is_rrp c ≡ p → hears false u ≡ [] → (if r then [] else if p then hears false u else c ∷ hears false u) ≡ []
    go true f p g rest = refl
    go false f true g rest = rest
    go false f false g rest = absurd (other_first c u f g e)

-- where there are none, the first is none
no_first : (b : Bool) (n : ℕ) → bit b + n ≡ 0 → (b ≡ false) × (n ≡ 0)
no_first true n e = absurd (omega (arith, e))
no_first false n e = (refl, omega (arith, e))

-- no RRP is on its way
pub hears_unanswered : (u : List Command) → rrps u ≡ 0 → hears true u ≡ []
hears_unanswered [] e = refl
hears_unanswered (c ∷ u) e = let none = no_first (is_rrp c) (rrps u) e in ap (λ (b : Bool). hears (not b) u) none.0 ∙ hears_unanswered u none.1

-- ---- one more is sent

-- an RST or an RRP
pub hears_reset_more : (waits : Bool) (u : List Command) (c : Command) → is_reset c ≡ true → hears waits (u ++ c ∷ []) ≡ hears waits u
hears_reset_more true [] c r = go (is_rrp c)
  where
    go : (b : Bool) → hears (not b) [] ≡ []
    go true = refl
    go false = refl
hears_reset_more false [] c r = go (is_rst c) (is_rrp c) r
  where
    go : (x y : Bool) → (x || y) ≡ true → (if x then [] else if y then [] else c ∷ []) ≡ []
    go true y e = refl
    go false true e = refl
    go false false e = absurd (cc e)
hears_reset_more true (d ∷ u) c r = hears_reset_more (not (is_rrp d)) u c r
hears_reset_more false (d ∷ u) c r = ap (λ (xs : List Command). if is_rst d then [] else if is_rrp d then xs else d ∷ xs) (hears_reset_more false u c r)

-- another, where no RST is on the line
pub hears_more : (u : List Command) (c : Command) → is_rst c ≡ false → is_rrp c ≡ false → rsts u ≡ 0 → hears false (u ++ c ∷ []) ≡ hears false u ++ c ∷ []
hears_more [] c r p e = hears_other c [] r p
hears_more (d ∷ u) c r p e = let none = no_first (is_rst d) (rsts u) e in go (is_rst d) none.0 (is_rrp d) (hears_more u c r p none.1)
  where
    go : (x : Bool) → x ≡ false → (y : Bool) → hears false (u ++ c ∷ []) ≡ hears false u ++ c ∷ []
        → (if x then [] else if y then hears false (u ++ c ∷ []) else d ∷ hears false (u ++ c ∷ [])) ≡ (if x then [] else if y then hears false u else d ∷ hears false u) ++ c ∷ []
    go true f y rest = absurd (cc f)
    go false f true rest = rest
    go false f false rest = ap (λ (xs : List Command). d ∷ xs) rest

-- and the RRP that is awaited is on it
pub answered_more : (u : List Command) (c : Command) → is_rst c ≡ false → is_rrp c ≡ false → rsts u ≡ 0 → 0 < rrps u → hears true (u ++ c ∷ []) ≡ hears true u ++ c ∷ []
answered_more [] c r p e some = absurd (omega (arith, some))
answered_more (d ∷ u) c r p e some =
    let none = no_first (is_rst d) (rsts u) e in go (is_rrp d) some (hears_more u c r p none.1) (answered_more u c r p none.1)
  where
    go : (x : Bool) → 0 < bit x + rrps u → hears false (u ++ c ∷ []) ≡ hears false u ++ c ∷ [] → (0 < rrps u → hears true (u ++ c ∷ []) ≡ hears true u ++ c ∷ [])
        → hears (not x) (u ++ c ∷ []) ≡ hears (not x) u ++ c ∷ []
    go true some now later = now
    go false some now later = later (omega (arith, some))

-- ---- what each awaits: the RST is on its way, the RRP owed, or on its way

-- of two hosts: whether each waits for a reply, and owes one; and what is underway from each
abbrev pub Matched : Bool → Bool → Bool → Bool → List Command → List Command → Type 0
Matched wh oh wk ok hl kl = record {
  ours : rsts hl + bit ok + rrps kl ≡ bit wh;
  theirs : rsts kl + bit oh + rrps hl ≡ bit wk;
  behind : after_rst hl ≡ [];
  after_theirs : after_rst kl ≡ [];
}

pub turn_matched : (wh oh wk ok : Bool) (hl kl : List Command) → Matched wh oh wk ok hl kl → Matched wk ok wh oh kl hl
turn_matched wh oh wk ok hl kl m = record { ours = m.theirs; theirs = m.ours; behind = m.after_theirs; after_theirs = m.behind }

-- one more command that is no RST adds nothing after an RST, if there is none before
following_more : (u : List Command) (c : Command) → (rsts u ≡ 0) → is_rst c ≡ false → after_rst (u ++ c ∷ []) ≡ after_rst u
following_more u c e r =
    after_rst-append u (c ∷ []) ∙ ap (λ (n : ℕ). after_rst u ++ (if n == 0 then after_rst (c ∷ []) else others (c ∷ []))) e
    ∙ ap (λ (b : Bool). after_rst u ++ (if b then [] else [])) r ∙ append-nil (after_rst u)

following_reset : (u : List Command) (c : Command) → is_other c ≡ false → after_rst (u ++ c ∷ []) ≡ after_rst u
following_reset u c o =
    after_rst-append u (c ∷ []) ∙ ap (λ (xs : List Command). after_rst u ++ xs) (by (rsts u == 0) (is_rst c)) ∙ append-nil (after_rst u)
  where
    none : others (c ∷ []) ≡ []
    none = ap (λ (b : Bool). if b then c ∷ [] else []) o

    by : (b r : Bool) → (if b then (if r then [] else []) else others (c ∷ [])) ≡ []
    by true true = refl
    by true false = refl
    by false r = none

-- the first host sends
pub reset_goes : (oh wk ok : Bool) (hl kl : List Command) → Matched false oh wk ok hl kl → Matched true oh wk ok (hl ++ Command.Rst ∷ []) kl
reset_goes oh wk ok hl kl m = record {
  ours = let a = rsts-append hl (Command.Rst ∷ []) in let e = m.ours in omega (arith, a, e);
  theirs = let a = rrps-append hl (Command.Rst ∷ []) in let e = m.theirs in omega (arith, a, e);
  behind = following_reset hl Command.Rst refl ∙ m.behind;
  after_theirs = m.after_theirs;
}

pub reply_goes : (wh wk ok : Bool) (hl kl : List Command) → Matched wh true wk ok hl kl → Matched wh false wk ok (hl ++ Command.Rrp ∷ []) kl
reply_goes wh wk ok hl kl m = record {
  ours = let a = rsts-append hl (Command.Rrp ∷ []) in let e = m.ours in omega (arith, a, e);
  theirs = let a = rrps-append hl (Command.Rrp ∷ []) in let e = m.theirs in omega (arith, a, e);
  behind = following_reset hl Command.Rrp refl ∙ m.behind;
  after_theirs = m.after_theirs;
}

pub other_goes : (oh wk ok : Bool) (c : Command) (hl kl : List Command) → is_rst c ≡ false → is_rrp c ≡ false → Matched false oh wk ok hl kl → Matched false oh wk ok (hl ++ c ∷ []) kl
other_goes oh wk ok c hl kl r p m = record {
  ours = let a = rsts-append hl (c ∷ []) in let e = m.ours in let f : bit (is_rst c) ≡ 0 = ap bit r in omega (arith, a, e, f);
  theirs = let a = rrps-append hl (c ∷ []) in let e = m.theirs in let f : bit (is_rrp c) ≡ 0 = ap bit p in omega (arith, a, e, f);
  behind = following_more hl c (let e = m.ours in omega (arith, e)) r ∙ m.behind;
  after_theirs = m.after_theirs;
}

-- it comes to the second
pub reset_comes : (wh oh wk : Bool) (hl kl : List Command) → Matched wh oh wk false (Command.Rst ∷ hl) kl → Matched wh oh wk true hl kl
reset_comes wh oh wk hl kl m = record {
  ours = let e = m.ours in omega (arith, e);
  theirs = let e = m.theirs in omega (arith, e);
  behind = after_rst-calm hl m.behind;
  after_theirs = m.after_theirs;
}

pub reply_comes : (wh oh ok : Bool) (hl kl : List Command) → Matched wh oh true ok (Command.Rrp ∷ hl) kl → Matched wh oh false ok hl kl
reply_comes wh oh ok hl kl m = record { ours = let e = m.ours in omega (arith, e); theirs = let e = m.theirs in omega (arith, e); behind = m.behind; after_theirs = m.after_theirs }

pub other_comes : (wh oh wk ok : Bool) (c : Command) (hl kl : List Command) → is_rst c ≡ false → is_rrp c ≡ false → Matched wh oh wk ok (c ∷ hl) kl → Matched wh oh wk ok hl kl
other_comes wh oh wk ok c hl kl r p m = record {
  ours = let e = m.ours in let f : bit (is_rst c) ≡ 0 = ap bit r in omega (arith, e, f);
  theirs = let e = m.theirs in let f : bit (is_rrp c) ≡ 0 = ap bit p in omega (arith, e, f);
  behind = sym (ap (λ (b : Bool). if b then others hl else after_rst hl) r) ∙ m.behind;
  after_theirs = m.after_theirs;
}

-- ---- what follows of it

bits_one : (b : Bool) (i : ℕ) → 0 < i → i ≡ bit b → b ≡ true
bits_one true i some e = refl
bits_one false i some e = absurd (omega (arith, some, e))

-- an RST of the first is on its way: it waits, and nothing else of either session is
pub record Crossing (wh : Bool) (kl : List Command) : Type 0 where
  pub waits : wh ≡ true
  pub unanswered : rrps kl ≡ 0

pub crossing : (wh oh wk ok : Bool) (hl kl : List Command) → 0 < rsts hl → Matched wh oh wk ok hl kl → Crossing wh kl
crossing wh oh wk ok hl kl some m =
    let e = m.ours in
    let one = bit_small wh in
    record {
      waits = bits_one wh (rsts hl + bit ok + rrps kl) (omega (arith, some)) e;
      unanswered = omega (arith, some, e, one);
    }
  where
    bit_small : (b : Bool) → bit b < 2
    bit_small true = omega arith
    bit_small false = omega arith
