-- A sender that is leaving has a text out, and what is kept of the messages shows it.
use Rattle.std.proofs.Common.{◌≡◌, ℕ, ◌==◌, Bool, true, false, not, ◌&&◌, List, Some, refl, sym, ap, ◌∙◌, subst}
use Rattle.std.specs.FinMap.{get}
use Rattle.std.specs.List.{list_any}
use Rattle.std.proofs.lemmas.Bool.{and_parts, eqb-true}
use Rattle.ncp_slot.specs.Slots.{LinkSlots, slot_at}
use Rattle.ncp_slot.specs.Slot.{is_empty}
use Rattle.ncp_model.specs.Pairs.{sends}
use Rattle.ncp_model.specs.Ends.{Ends, hears_link}
use Rattle.ncp_model.specs.Demux.{passes}
use Rattle.ncp_model.specs.declared.pair.Pair.{Pair}
use Rattle.ncp_proof_progress.specs.Idle.{LeavingAt}
use Rattle.ncp_peer.specs.Soundness.{is_end_busy, pair_hears_link, Agree}
use Rattle.ncp_interface.specs.declared.sent_message.SentMessage.{SentMessage}
use Rattle.ncp_interface.specs.Slots.{is_busy_on}
use Rattle.ncp_proof_monitor_allocation.proofs.Changed.{pair_at}
use Rattle.ncp_proof_monitor_host.proofs.Carries.{ShowsBusy}
use Rattle.ncp_proof_monitor_host.proofs.ComesTold.{LeavingBusy}

not_none : (k : ℕ) → ((k ≡ 0) → ⊥) → (k == 0) ≡ false
not_none k z = go (k == 0) refl
  where
    go : (x : Bool) → (k == 0) ≡ x → (k == 0) ≡ false
    go true e = absurd (z (eqb-true k 0 e))
    go false e = e

pub leaving_busy : (me n : ℕ) (m : Ends) (slots : LinkSlots) (kept : List SentMessage) → Agree m slots → ((q : Pair) → LeavingAt q (get m q)) → ShowsBusy me n kept slots → LeavingBusy me n m kept
leaving_busy me n m slots kept agree leaving shows on u e g s l due =
    by (agree.out (pair_at u) (ap is_end_busy g ∙ (subst (LeavingAt (pair_at u)) g (leaving (pair_at u))).busy due s))
  where
    by : (k : ℕ) × ((k ≡ 0) → ⊥) × (pair_hears_link k (pair_at u) m ≡ true) × (is_empty (slot_at slots k) ≡ false) → list_any (is_busy_on me n on) kept ≡ true
    by (k, z, h, f) =
        let its : passes (hears_link k) (pair_at u) (Some e) ≡ true = ap (passes (hears_link k) (pair_at u)) (sym g) ∙ h in
        let is : k ≡ on = sym (eqb-true e.link k (and_parts (sends (pair_at u) && e.heard) (e.link == k) its).1) ∙ l in
        subst (λ (x : ℕ). list_any (is_busy_on me n x) kept ≡ true) is (so (list_any (is_busy_on me n k) kept) (sym f ∙ shows k (not_none k z)))
      where
        so : (x : Bool) → false ≡ not x → x ≡ true
        so true e = refl
        so false e = absurd (cc e)
