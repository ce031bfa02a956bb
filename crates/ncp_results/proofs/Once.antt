-- What is seen is told no more.
use Rattle.std.proofs.Common.{◌≡◌, ℕ, Bool, true, false, not, ◌&&◌, ◌||◌, if◌then◌else◌, nat_lt, Option, None, Some, refl, ap, ◌∙◌}
use Rattle.std.proofs.lemmas.Bool.{le-ltb}
use Rattle.std.proofs.Math.Nat.{le_refl}
use Rattle.ncp_results.specs.declared.changes.Changes.{Changes}
use Rattle.ncp_results.specs.declared.connection.ConnectionInfo.{ConnectionInfo}
use Rattle.ncp_results.specs.Changes.{no_changes, became, is_more_held, is_more_allowed, is_another, changes_of, changes_anew, changes_since, changes_between, seen_of}

none_became : (b : Bool) → became b b ≡ false
none_became true = refl
none_became false = refl

none_less : (n : ℕ) → nat_lt n n ≡ false
none_less n = le-ltb n n (le_refl n)

none_of : (a b : Bool) → a ≡ false → b ≡ false → (a || b) ≡ false
none_of a b first rest = ap (λ (x : Bool). x || b) first ∙ rest

none_at : (a b : Bool) → b ≡ false → (a && b) ≡ false
none_at true b e = e
none_at false b e = refl

none_asks : (heard asked : Bool) → (heard && not (heard || asked)) ≡ false
none_asks true asked = refl
none_asks false asked = refl

-- no flag of a connection fell, if it stays as it is
is_same : (c : ConnectionInfo) → is_another c c ≡ false
is_same c =
    let heard = none_of (became c.asked c.asked) (became c.heard c.heard) (none_became c.asked) (none_became c.heard) in
    let opened = none_of (became c.asked c.asked || became c.heard c.heard) (became c.opened c.opened) heard (none_became c.opened) in
    let left = none_of (became c.asked c.asked || became c.heard c.heard || became c.opened c.opened) (became c.left c.left) opened (none_became c.left) in
    none_of (became c.asked c.asked || became c.heard c.heard || became c.opened c.opened || became c.left c.left) (became c.cls c.cls) left (none_became c.cls)

-- the changes, by what each is
abbrev changed : Bool → Bool → Bool → Bool → Bool → Bool → Bool → Changes
changed a o t w d i l = record no_changes { asks = a; opened = o; text = t; allowed = w; delivered = d; interrupted = i; closes = l }

unchanged : (c : ConnectionInfo) → changes_of c c ≡ no_changes
unchanged c =
    ap (λ (x : Bool). changed x (became c.opened c.opened) (is_more_held c c) (is_more_allowed c c) (became c.busy c.busy) (nat_lt c.interrupts c.interrupts) (became c.cls c.cls)) (none_asks c.heard c.asked)
    ∙ ap (λ (x : Bool). changed false x (is_more_held c c) (is_more_allowed c c) (became c.busy c.busy) (nat_lt c.interrupts c.interrupts) (became c.cls c.cls)) (none_became c.opened)
    ∙ ap (λ (x : Bool). changed false false (x && not c.sends) (is_more_allowed c c) (became c.busy c.busy) (nat_lt c.interrupts c.interrupts) (became c.cls c.cls)) (none_less c.stored)
    ∙ ap (λ (x : Bool). changed false false false x (became c.busy c.busy) (nat_lt c.interrupts c.interrupts) (became c.cls c.cls)) (none_at c.sends (nat_lt c.messages c.messages || nat_lt c.bits c.bits) (none_of (nat_lt c.messages c.messages) (nat_lt c.bits c.bits) (none_less c.messages) (none_less c.bits)))
    ∙ ap (λ (x : Bool). changed false false false false x (nat_lt c.interrupts c.interrupts) (became c.cls c.cls)) (none_became c.busy)
    ∙ ap (λ (x : Bool). changed false false false false false x (became c.cls c.cls)) (none_less c.interrupts)
    ∙ ap (λ (x : Bool). changed false false false false false false x) (none_became c.cls)

same : (c : ConnectionInfo) → changes_since c c ≡ no_changes
same c = ap (λ (anew : Bool). if anew then changes_anew c c else changes_of c c) (is_same c) ∙ unchanged c

pub told : (now : Option ConnectionInfo) → changes_between (seen_of now) now ≡ no_changes
told None = refl
told (Some c) = same c
