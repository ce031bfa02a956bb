-- A command that is restored: it is queued, or the queue is as it was.
use Rattle.std.proofs.Common.{◌≡◌, ℕ, ◌+◌, ◌≤◌, ◌<◌, Bool, true, false, not, ◌&&◌, ◌||◌, if◌then◌else◌, List, [], ◌∷◌, ◌++◌, All, Option, IfSome, slice_get, refl, sym, ap, ap₂, ◌∙◌, subst, arith, length}
use Rattle.std.specs.List.{list_any, count_by}
use Rattle.std.proofs.lemmas.Option.{slice_get-get_or}
use Rattle.ncp_wire.specs.declared.command.Command.{Command}
use Rattle.ncp_wire.specs.declared.command.Command.TheVariants.{Rst, Rrp}
use Rattle.ncp_model.specs.Phase.{Phase, up, is_rst, is_rrp, is_other, has_room_for_one, queued, goes_down, phase_makes}
use Rattle.ncp_phase.specs.declared.flags.Flags.{Flags}
use Rattle.ncp_phase.specs.Waiting.{QueueFits, rsts, rrps}
use Rattle.ncp_phase.specs.Restoring.{phase_with, may_wait, restored}
use Rattle.std.proofs.lemmas.List.Sums.{sum_by-cons}
use Rattle.ncp_phase.proofs.Waits.{one}

count_cons : (p : Command → Bool) (c : Command) (cs : List Command) → count_by p (c ∷ cs) ≡ one (p c) + count_by p cs
count_cons p c cs = sum_by-cons (λ d. one (p d)) c cs

has_place : (p : Phase) → length p.waiting < 512 → has_room_for_one p ≡ true
has_place p l = grind arith

no_place : (p : Phase) → 512 ≤ length p.waiting → has_room_for_one p ≡ false
no_place p l = grind arith

pub restored_full : (c : Command) (p : Phase) → 512 ≤ length p.waiting → p ≡ restored c p
restored_full c p l = sym (ap (λ (b : Bool). if b && may_wait c p then queued c p else p) (no_place p l))

pub restored_if : (c : Command) (p : Phase) (b : Bool) → length p.waiting < 512 → may_wait c p ≡ b → restored c p ≡ (if b then queued c p else p)
restored_if c p b l m = ap₂ (λ (x y : Bool). if x && y then queued c p else p) (has_place p l) m

rst_is : (c : Command) → is_rst c ≡ true → c ≡ Rst
rst_is Rst e = refl
rst_is c e = absurd (cc)

rrp_is : (c : Command) → is_rrp c ≡ true → c ≡ Rrp
rrp_is Rrp e = refl
rrp_is c e = absurd (cc)

pub as_rst : (c : Command) (p now : Phase) → is_rst c ≡ true → now ≡ restored Rst p → now ≡ restored c p
as_rst c p now e is = is ∙ ap (λ (k : Command). restored k p) (sym (rst_is c e))

pub as_rrp : (c : Command) (p now : Phase) → is_rrp c ≡ true → now ≡ restored Rrp p → now ≡ restored c p
as_rrp c p now e is = is ∙ ap (λ (k : Command). restored k p) (sym (rrp_is c e))

other_waits : (c : Command) (p : Phase) → is_rst c ≡ false → is_rrp c ≡ false → (may_wait c p ≡ up p) × (is_other c ≡ true)
other_waits Rst p e f = absurd (cc)
other_waits Rrp p e f = absurd (cc)
other_waits c p e f = (refl, refl)

made : (b r : Bool) (x y z : Phase) → r ≡ true → (if b && true then (if r then x else y) else z) ≡ (if r && b then x else z)
made true true x y z e = refl
made false true x y z e = refl
made b false x y z e = absurd (cc)

pub as_other : (c : Command) (p now : Phase) → is_rst c ≡ false → is_rrp c ≡ false → length p.waiting < 512 → now ≡ phase_makes c p → now ≡ restored c p
as_other c p now e f l is =
    let w = other_waits c p e f in
    is
    ∙ ap (λ (b : Bool). if up p && b then (if has_room_for_one p then queued c p else goes_down p) else p) w.1
    ∙ made (up p) (has_room_for_one p) (queued c p) (goes_down p) p (has_place p l)
    ∙ ap (λ (b : Bool). if has_room_for_one p && b then queued c p else p) (sym w.0)

-- In a queue that fits, each command may be queued behind those before it.

count_apart : (p : Command → Bool) (cs ds : List Command) → count_by p (cs ++ ds) ≡ count_by p cs + count_by p ds
count_apart p [] ds = omega arith
count_apart p (c ∷ cs) ds = let h = count_apart p cs ds in rw (count_cons p c (cs ++ ds), count_cons p c cs) (omega arith)

length_apart : (cs ds : List Command) → length (cs ++ ds) ≡ length cs + length ds
length_apart [] ds = omega arith
length_apart (c ∷ cs) ds = let h = length_apart cs ds in omega (arith, h)

some_any : (p : Command → Bool) (cs : List Command) → count_by p cs ≡ 0 → list_any p cs ≡ false
some_any p [] e = refl
some_any p (c ∷ cs) e = go (p c) refl (some_any p cs)
  where
    go : (b : Bool) → p c ≡ b → (count_by p cs ≡ 0 → list_any p cs ≡ false) → (p c || list_any p cs) ≡ false
    go true is rest = absurd (let n = count_cons p c cs in let o : one (p c) ≡ 1 = ap one is in omega (arith, n, o, e))
    go false is rest = let n = count_cons p c cs in ap (λ (x : Bool). x || list_any p cs) is ∙ rest (omega (arith, n, e))

resets : (cs : List Command) → rsts cs + rrps cs ≤ length cs
resets [] = omega arith
resets (Rst ∷ cs) = let h = resets cs in let a = count_cons is_rst Rst cs in let b = count_cons is_rrp Rst cs in omega (arith, h, a, b)
resets (Rrp ∷ cs) = let h = resets cs in let a = count_cons is_rst Rrp cs in let b = count_cons is_rrp Rrp cs in omega (arith, h, a, b)
resets (c ∷ cs) = let h = resets cs in let a = count_cons is_rst c cs in let b = count_cons is_rrp c cs in omega (arith, h, a, b)

up_or : (p : Phase) → (up p ≡ false → ⊥) → up p ≡ true
up_or p never = go (up p) refl
  where
    go : (b : Bool) → up p ≡ b → up p ≡ true
    go true e = e
    go false e = absurd (never e)

fits_waits : (flags : Flags) (done others : List Command) (c : Command) → QueueFits (phase_with flags (done ++ c ∷ others)) → may_wait c (phase_with flags done) ≡ true
fits_waits flags done others Rst q =
    let a = count_apart is_rst done (Rst ∷ others) in
    let b = count_cons is_rst Rst others in
    let m = q.rst in
    ap not (some_any is_rst done (omega (arith, a, b, m)))
fits_waits flags done others Rrp q =
    let a = count_apart is_rrp done (Rrp ∷ others) in
    let b = count_cons is_rrp Rrp others in
    let m = q.rrp in
    ap not (some_any is_rrp done (omega (arith, a, b, m)))
fits_waits flags done others c q = up_or (phase_with flags done) (λ down.
    let few = q.few down in
    let l = length_apart done (c ∷ others) in
    let a = count_apart is_rst done (c ∷ others) in
    let b = count_apart is_rrp done (c ∷ others) in
    let d = count_cons is_rst c others in
    let e = count_cons is_rrp c others in
    let f = resets done in
    let g = resets others in
    omega (arith, few, l, a, b, d, e, f, g))

pub next_restored : (flags : Flags) (done others : List Command) (c : Command) → QueueFits (phase_with flags (done ++ c ∷ others)) → restored c (phase_with flags done) ≡ phase_with flags (done ++ c ∷ [])
next_restored flags done others c q =
    let l = length_apart done (c ∷ others) in
    let m = q.place in
    restored_if c (phase_with flags done) true (omega (arith, l, m)) (fits_waits flags done others c q)

-- what each place has each item has
pub all_from_places : {A : Type 0} (P : A → Type 0) (xs : List A) (n : ℕ) → length xs ≤ n → ((k : ℕ) → k < n → IfSome (slice_get xs k) P) → All P xs
all_from_places P xs n l each k d i = subst (λ (o : Option _). IfSome o P) (slice_get-get_or xs k d i) (each k (omega (arith, l, i)))
