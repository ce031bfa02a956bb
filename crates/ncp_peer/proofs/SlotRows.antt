-- Things that are saved in a row, one after the other.
use Rattle.std.proofs.Common.{◌≡◌, ◌<◌, ◌≤◌, ℕ, ◌+◌, ◌-◌, List, ◌∷◌, ◌++◌, suc, sym, ap, ◌∙◌, arith}
use Rattle.std.specs.List.{range_with_len}
use Rattle.std.proofs.lemmas.List.{append_assoc, append-nil}
use Rattle.ncp_slot.specs.Slots.{LinkSlots, slot_at}
use Rattle.ncp_peer.specs.SavedPeer.{slot_saved, slots_on}

-- the same of slots, from a link on to the last

pub cut_range : (on : ℕ) → on < 72 → range_with_len on (72 - on) ≡ on ∷ range_with_len (on + 1) (72 - (on + 1))
cut_range on l = let e : 72 - on ≡ suc (72 - (on + 1)) = omega arith in ap (λ k. range_with_len on k) e

pub slot_more : (slots : LinkSlots) (on : ℕ) (out now all : List ℕ) → on < 72 → now ≡ out ++ slot_saved (slot_at slots on) → out ++ slots_on (range_with_len on (72 - on)) slots ≡ all → now ++ slots_on (range_with_len (on + 1) (72 - (on + 1))) slots ≡ all
slot_more slots on out now all l is e =
    ap (λ (w : List ℕ). w ++ slots_on (range_with_len (on + 1) (72 - (on + 1))) slots) is
    ∙ append_assoc out (slot_saved (slot_at slots on)) (slots_on (range_with_len (on + 1) (72 - (on + 1))) slots)
    ∙ ap (λ (ons : List ℕ). out ++ slots_on ons slots) (sym (cut_range on l))
    ∙ e

pub slot_end : (slots : LinkSlots) (on : ℕ) (out all : List ℕ) → 72 ≤ on → out ++ slots_on (range_with_len on (72 - on)) slots ≡ all → out ≡ all
slot_end slots on out all l e =
    let none : 72 - on ≡ 0 = omega arith in
    sym (append-nil out) ∙ ap (λ (k : ℕ). out ++ slots_on (range_with_len on k) slots) (sym none) ∙ e
