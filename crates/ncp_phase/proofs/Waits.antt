-- How many commands wait, whatever happens to them.
use Rattle.std.proofs.Common.{◌≡◌, ℕ, zero, suc, ◌+◌, ◌≤◌, ◌<◌, Bool, true, false, cond, ◌||◌, List, [], ◌∷◌, ◌++◌, refl, ap, ◌∙◌, arith, length-append}
use Rattle.std.specs.Prelude.{length, drop}
use Rattle.std.specs.List.{count_by, filter, list_any}
use Rattle.std.proofs.lemmas.List.Sums.{sum_by-cons, length-filter, count_by-le-length}
use Rattle.ncp_wire.specs.declared.command.Command.{Command}
use Rattle.ncp_wire.specs.declared.command.Command.TheVariants.{Rst, Rrp}
use Rattle.ncp_model.specs.Phase.{Phase, up, is_rst, is_rrp, is_reset, is_other, queued, goes_down, wants_reset, owes_answer, hears_rrp}
use Rattle.ncp_phase.specs.Waiting.{QueueFits, rsts, rrps}

abbrev pub one : Bool → ℕ
one b = cond b 1 0

count_cons : (p : Command → Bool) (c : Command) (cs : List Command) → count_by p (c ∷ cs) ≡ one (p c) + count_by p cs
count_cons p c cs = sum_by-cons (λ d. one (p d)) c cs

count_push : (p : Command → Bool) (cs : List Command) (c : Command) → count_by p (cs ++ c ∷ []) ≡ count_by p cs + one (p c)
count_push p [] c = count_cons p c [] ∙ omega arith
count_push p (d ∷ cs) c = let h = count_push p cs c in rw (count_cons p d (cs ++ c ∷ []), count_cons p d cs) (omega arith)

length_push : (cs : List Command) (c : Command) → length (cs ++ c ∷ []) ≡ length cs + 1
length_push cs c = length-append cs (c ∷ [])

none_any : (p : Command → Bool) (cs : List Command) → list_any p cs ≡ false → count_by p cs ≡ 0
none_any p [] e = refl
none_any p (c ∷ cs) e = count_cons p c cs ∙ go (p c) e (λ f. none_any p cs f)
  where
    go : (b : Bool) → (b || list_any p cs) ≡ false → (list_any p cs ≡ false → count_by p cs ≡ 0) → one b + count_by p cs ≡ 0
    go true e rest = absurd (cc)
    go false e rest = let h = rest e in omega arith

-- a purge leaves RST and RRP, each as often as before

struck : (cs : List Command) → length (filter is_reset cs) ≡ rsts (filter is_reset cs) + rrps (filter is_reset cs)
struck [] = refl
struck (Rst ∷ cs) = let h = struck cs in rw (count_cons is_rst Rst (filter is_reset cs), count_cons is_rrp Rst (filter is_reset cs)) (omega arith)
struck (Rrp ∷ cs) = let h = struck cs in rw (count_cons is_rst Rrp (filter is_reset cs), count_cons is_rrp Rrp (filter is_reset cs)) (omega arith)
struck (c ∷ cs) = struck cs

kept_rsts : (cs : List Command) → rsts (filter is_reset cs) ≡ rsts cs
kept_rsts [] = refl
kept_rsts (Rst ∷ cs) = let h = kept_rsts cs in rw (count_cons is_rst Rst (filter is_reset cs), count_cons is_rst Rst cs) (omega arith)
kept_rsts (Rrp ∷ cs) = let h = kept_rsts cs in rw (count_cons is_rst Rrp (filter is_reset cs), count_cons is_rst Rrp cs) (omega arith)
kept_rsts (c ∷ cs) = let h = kept_rsts cs in rw (count_cons is_rst c cs) (omega arith)

kept_rrps : (cs : List Command) → rrps (filter is_reset cs) ≡ rrps cs
kept_rrps [] = refl
kept_rrps (Rst ∷ cs) = let h = kept_rrps cs in rw (count_cons is_rrp Rst (filter is_reset cs), count_cons is_rrp Rst cs) (omega arith)
kept_rrps (Rrp ∷ cs) = let h = kept_rrps cs in rw (count_cons is_rrp Rrp (filter is_reset cs), count_cons is_rrp Rrp cs) (omega arith)
kept_rrps (c ∷ cs) = let h = kept_rrps cs in rw (count_cons is_rrp c cs) (omega arith)

shorter : (cs : List Command) → length (filter is_reset cs) ≤ length cs
shorter cs = let a = length-filter is_reset cs in let b = count_by-le-length is_reset cs in omega arith

-- of what waits, whatever the flags
pub record Few (cs : List Command) : Type 0 where
  pub place : length cs ≤ 512
  pub rst : rsts cs ≤ 1
  pub rrp : rrps cs ≤ 1
  pub few : length cs ≤ rsts cs + rrps cs

purged : (p : Phase) → QueueFits p → Few (filter is_reset p.waiting)
purged p w = record {
  place = let a = shorter p.waiting in let b = w.place in omega arith;
  rst = let a = kept_rsts p.waiting in let b = w.rst in omega arith;
  rrp = let a = kept_rrps p.waiting in let b = w.rrp in omega arith;
  few = let a = struck p.waiting in omega arith;
}

pub waits_down : (p : Phase) → QueueFits p → QueueFits (goes_down p)
waits_down p w = let f = purged p w in record { place = f.place; rst = f.rst; rrp = f.rrp; few = λ _. f.few }

pub waits_wanted : (p : Phase) → QueueFits p → QueueFits (wants_reset p)
waits_wanted p w = let f = purged p w in record { place = f.place; rst = f.rst; rrp = f.rrp; few = λ _. f.few }

pub waits_owing : (p : Phase) → QueueFits p → QueueFits (owes_answer p)
waits_owing p w = let f = purged p w in record { place = f.place; rst = f.rst; rrp = f.rrp; few = λ _. f.few }

not_rst : (c : Command) → is_other c ≡ true → is_rst c ≡ false
not_rst c o = grind arith

not_rrp : (c : Command) → is_other c ≡ true → is_rrp c ≡ false
not_rrp c o = grind arith

pub waits_queued : (c : Command) (p : Phase) → up p ≡ true → is_other c ≡ true → length p.waiting < 512 → QueueFits p → QueueFits (queued c p)
waits_queued c p u o l w =
    let n = length_push p.waiting c in
    let a : one (is_rst c) ≡ 0 = ap one (not_rst c o) in
    let b : one (is_rrp c) ≡ 0 = ap one (not_rrp c o) in
    record {
      place = omega arith;
      rst = let e = count_push is_rst p.waiting c in let h = w.rst in omega arith;
      rrp = let e = count_push is_rrp p.waiting c in let h = w.rrp in omega arith;
      few = λ d. absurd (cc);
    }

-- while the RRP is owed no more than two wait, so there is a place
pub answer_place : (p : Phase) → QueueFits p → p.owe ≡ true → length p.waiting ≤ 2
answer_place p w o = let u : up p ≡ false = grind arith in let f = w.few u in let a = w.rst in let b = w.rrp in omega arith

pub ask_place : (p : Phase) → QueueFits p → p.want ≡ true → length p.waiting ≤ 2
ask_place p w o = let u : up p ≡ false = grind arith in let f = w.few u in let a = w.rst in let b = w.rrp in omega arith

-- one more RRP, or RST, where there was none
pub one_rrp : (cs : List Command) → length cs ≤ rsts cs + rrps cs → rsts cs ≤ 1 → list_any is_rrp cs ≡ false → Few (cs ++ Rrp ∷ [])
one_rrp cs f r n =
    let z = none_any is_rrp cs n in
    let l = length_push cs Rrp in
    let a = count_push is_rst cs Rrp in
    let b = count_push is_rrp cs Rrp in
    record { place = omega arith; rst = omega arith; rrp = omega arith; few = omega arith }

pub one_rst : (cs : List Command) → length cs ≤ rsts cs + rrps cs → rrps cs ≤ 1 → list_any is_rst cs ≡ false → Few (cs ++ Rst ∷ [])
one_rst cs f r n =
    let z = none_any is_rst cs n in
    let l = length_push cs Rst in
    let a = count_push is_rst cs Rst in
    let b = count_push is_rrp cs Rst in
    record { place = omega arith; rst = omega arith; rrp = omega arith; few = omega arith }

-- an RRP came
pub waits_heard : (p : Phase) → QueueFits p → QueueFits (hears_rrp p)
waits_heard p w = record { place = w.place; rst = w.rst; rrp = w.rrp; few = λ d. w.few (grind arith) }

-- the first goes out
skipped : (c : Command) (cs : List Command) → length (c ∷ cs) ≤ rsts (c ∷ cs) + rrps (c ∷ cs) → length cs ≤ rsts cs + rrps cs
skipped Rst cs f = let a = count_cons is_rst Rst cs in let b = count_cons is_rrp Rst cs in omega arith
skipped Rrp cs f = let a = count_cons is_rst Rrp cs in let b = count_cons is_rrp Rrp cs in omega arith
skipped c cs f = let a = count_cons is_rst c cs in let b = count_cons is_rrp c cs in omega arith

-- while an RRP is owed, or an RST wanted, nothing else waits
pub few_owing : (p : Phase) → QueueFits p → p.owe ≡ true → length p.waiting ≤ rsts p.waiting + rrps p.waiting
few_owing p w o = w.few (grind arith)

pub few_wanting : (p : Phase) → QueueFits p → p.want ≡ true → length p.waiting ≤ rsts p.waiting + rrps p.waiting
few_wanting p w o = w.few (grind arith)

drop_few : (n : ℕ) (cs : List Command) → length cs ≤ rsts cs + rrps cs → length (drop n cs) ≤ rsts (drop n cs) + rrps (drop n cs)
drop_few zero cs f = f
drop_few (suc n) [] f = f
drop_few (suc n) (c ∷ cs) f = drop_few n cs (skipped c cs f)

drop_count : (p : Command → Bool) (n : ℕ) (cs : List Command) → count_by p (drop n cs) ≤ count_by p cs
drop_count p zero cs = omega arith
drop_count p (suc n) [] = omega arith
drop_count p (suc n) (c ∷ cs) = let h = drop_count p n cs in let e = count_cons p c cs in omega arith

drop_len : (n : ℕ) (cs : List Command) → length (drop n cs) ≤ length cs
drop_len zero cs = omega arith
drop_len (suc n) [] = omega arith
drop_len (suc n) (c ∷ cs) = let h = drop_len n cs in omega arith

-- the first so many go out
pub waits_dropped : (n : ℕ) (p : Phase) → QueueFits p → QueueFits (record p { waiting = drop n p.waiting })
waits_dropped n p w = record {
  place = let a = drop_len n p.waiting in let b = w.place in omega arith;
  rst = let a = drop_count is_rst n p.waiting in let b = w.rst in omega arith;
  rrp = let a = drop_count is_rrp n p.waiting in let b = w.rrp in omega arith;
  few = λ d. drop_few n p.waiting (w.few d);
}

-- one more RST, or RRP, where there was none, whatever the flags
pub waits_rst : (p : Phase) → QueueFits p → length p.waiting < 512 → list_any is_rst p.waiting ≡ false → QueueFits (record p { waiting = p.waiting ++ Rst ∷ [] })
waits_rst p w l n =
    let z = none_any is_rst p.waiting n in
    let m = length_push p.waiting Rst in
    let a = count_push is_rst p.waiting Rst in
    let b = count_push is_rrp p.waiting Rst in
    let r = w.rrp in
    record { place = omega arith; rst = omega arith; rrp = omega arith; few = λ d. let f = w.few d in omega arith }

pub waits_rrp : (p : Phase) → QueueFits p → length p.waiting < 512 → list_any is_rrp p.waiting ≡ false → QueueFits (record p { waiting = p.waiting ++ Rrp ∷ [] })
waits_rrp p w l n =
    let z = none_any is_rrp p.waiting n in
    let m = length_push p.waiting Rrp in
    let a = count_push is_rst p.waiting Rrp in
    let b = count_push is_rrp p.waiting Rrp in
    let r = w.rst in
    record { place = omega arith; rst = omega arith; rrp = omega arith; few = λ d. let f = w.few d in omega arith }
