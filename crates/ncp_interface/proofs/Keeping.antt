-- Messages that are kept before others that are over.
use Rattle.std.proofs.Common.{◌≡◌, ℕ, suc, zero, ◌<◌, ◌≤◌, ◌+◌, ◌-◌, List, [], ◌∷◌, take, length, set, get_or, Some, refl, sym, ap, ◌∙◌, arith}
use Rattle.std.specs.List.{remove}
use Rattle.std.proofs.lemmas.List.{get_or-take, get_or_default, length-take-le}
use Rattle.std.proofs.Math.Seq.{take-set-lt}
use Rattle.ncp_interface.specs.declared.sent_message.SentMessage.{SentMessage}
use Rattle.ncp_interface.specs.declared.doubt.Doubt.{Doubt}
use Rattle.ncp_interface.specs.declared.sent_message.LinkState.{LinkState}
use Rattle.ncp_interface.specs.Slots.{nothing_kept, kept_at, with_kept_slot}
use Rattle.ncp_interface.specs.Doubts.{with_doubt}

-- without one of them
pub fewer_kept : (xs : List SentMessage) (left place : ℕ) → place < suc left → take left (remove xs place) ≡ remove (take (suc left) xs) place
fewer_kept [] zero zero is = refl
fewer_kept [] zero (suc place) is = refl
fewer_kept [] (suc left) zero is = refl
fewer_kept [] (suc left) (suc place) is = refl
fewer_kept (x ∷ xs) left zero is = refl
fewer_kept (x ∷ xs) zero (suc place) is = absurd (omega arith)
fewer_kept (x ∷ xs) (suc left) (suc place) is = ap (λ (ys : List SentMessage). x ∷ ys) (fewer_kept xs left place (omega arith))

-- without the last
pub last_over : (xs : List SentMessage) (left : ℕ) → suc left ≤ length xs → take left xs ≡ remove (take (suc left) xs) left
last_over [] left is = absurd (omega arith)
last_over (x ∷ xs) zero is = refl
last_over (x ∷ xs) (suc left) is = ap (λ (ys : List SentMessage). x ∷ ys) (last_over xs left (omega arith))

inside : (xs now : List SentMessage) (count place : ℕ) → take count xs ≡ now → place < length now → count ≤ length xs → place < count
inside xs now count place v is fits =
    let a : length now ≡ length (take count xs) = ap (λ (ys : List SentMessage). length ys) (sym v) in
    let b = length-take-le count xs fits in
    omega (arith, a, b)

pub forgets : (xs now new : List SentMessage) (count place : ℕ) → take count xs ≡ now → place < length now → count ≤ length xs → new ≡ remove xs place → take (count - 1) new ≡ remove now place
forgets xs now new zero place v is fits n = absurd (omega (arith, inside xs now zero place v is fits))
forgets xs now new (suc left) place v is fits n =
    let e : suc left - 1 ≡ left = omega arith in
    ap (λ k. take k new) e ∙ ap (λ (ys : List SentMessage). take left ys) n ∙ fewer_kept xs left place (inside xs now (suc left) place v is fits) ∙ ap (λ (ys : List SentMessage). remove ys place) v

pub forgets_last : (xs now : List SentMessage) (count place : ℕ) → take count xs ≡ now → place < length now → count ≤ length xs → count ≤ place + 1 → take (count - 1) xs ≡ remove now place
forgets_last xs now zero place v is fits last = absurd (omega (arith, inside xs now zero place v is fits))
forgets_last xs now (suc left) place v is fits last =
    let e : suc left - 1 ≡ left = omega arith in
    let at : left ≡ place = omega (arith, inside xs now (suc left) place v is fits, last) in
    ap (λ k. take k xs) e ∙ last_over xs left fits ∙ ap (λ (ys : List SentMessage). remove ys left) v ∙ ap (λ k. remove now k) at

-- another one in its place
pub kept_over : (xs now : List SentMessage) (count place : ℕ) (kept : SentMessage) → take count xs ≡ now → place < length now → count ≤ length xs → take count (set xs place kept) ≡ set now place kept
kept_over xs now count place kept v is fits = take-set-lt count xs place kept (inside xs now count place v is fits) ∙ ap (λ (ys : List SentMessage). set ys place kept) v

-- with another slot
pub slot_over : (xs now : List SentMessage) (count place : ℕ) (kept : SentMessage) (slot : LinkState) → take count xs ≡ now → place < length now → count ≤ length xs → kept ≡ get_or xs place kept
    → take count (set xs place (record kept { slot = slot })) ≡ with_kept_slot now place slot
slot_over xs now count place kept slot v is fits k =
    let lt = inside xs now count place v is fits in
    let there : kept ≡ kept_at now place = k ∙ get_or_default xs place kept nothing_kept (omega (arith, lt, fits)) ∙ sym (get_or-take count xs place nothing_kept lt) ∙ ap (λ (ys : List SentMessage). get_or ys place nothing_kept) v in
    kept_over xs now count place (record kept { slot = slot }) v is fits ∙ ap (λ (one : SentMessage). set now place (record one { slot = slot })) there

-- with another doubt
pub doubt_over : (xs now : List SentMessage) (count place : ℕ) (kept : SentMessage) (doubt : Doubt) → take count xs ≡ now → place < length now → count ≤ length xs → kept ≡ get_or xs place kept
    → take count (set xs place (record kept { doubt = doubt })) ≡ with_doubt now (Some place) doubt
doubt_over xs now count place kept doubt v is fits k =
    let lt = inside xs now count place v is fits in
    let there : kept ≡ kept_at now place = k ∙ get_or_default xs place kept nothing_kept (omega (arith, lt, fits)) ∙ sym (get_or-take count xs place nothing_kept lt) ∙ ap (λ (ys : List SentMessage). get_or ys place nothing_kept) v in
    kept_over xs now count place (record kept { doubt = doubt }) v is fits ∙ ap (λ (one : SentMessage). set now place (record one { doubt = doubt })) there

-- whatever stands for those that are not there
pub kept_same : (kept : List SentMessage) (i : ℕ) (a b : SentMessage) → i < length kept → get_or kept i a ≡ get_or kept i b
kept_same [] i a b inside = absurd (omega arith)
kept_same (one ∷ kept) zero a b inside = refl
kept_same (one ∷ kept) (suc i) a b inside = kept_same kept i a b (omega arith)
