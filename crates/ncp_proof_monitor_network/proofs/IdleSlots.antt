-- If no text of a host is unacknowledged on a link, a CLS for the link leaves none unacknowledged.
use Rattle.std.proofs.Common.{◌≡◌, ℕ, Bool, true, false, not, ◌&&◌, ◌||◌, if◌then◌else◌, List, [], ◌∷◌, Option, None, Some, refl, sym, ap, ◌∙◌}
use Rattle.std.specs.List.{list_any}
use Rattle.ncp_leader.specs.Message.{message_in}
use Rattle.ncp_interface.specs.declared.sent_message.SentMessage.{SentMessage}
use Rattle.ncp_interface.specs.Slots.{is_of, position_of, kept_at, nothing_kept, is_slot_empty, is_busy_on}
use Rattle.ncp_monitor.specs.ConnStates.{SeenTables}
use Rattle.ncp_monitor.specs.Texts.{admits_out, message_out_at}
use Rattle.ncp_monitor.proofs.Firsts.{first, found_first}

-- if no text is unacknowledged on a link, its slot is empty
idle_slot : (me n link : ℕ) (kept : List SentMessage) (k : SentMessage) → list_any (is_busy_on me n link) kept ≡ false → first (is_of me n link) kept ≡ Some k → is_slot_empty k.slot ≡ true
idle_slot me n link [] k e f = absurd (cc f)
idle_slot me n link (o ∷ kept) k e f = go (is_of me n link o) (is_slot_empty o.slot) refl e f (idle_slot me n link kept k)
  where
    go : (y z : Bool) → is_slot_empty o.slot ≡ z → ((y && not z) || list_any (is_busy_on me n link) kept) ≡ false → (if y then Some o else first (is_of me n link) kept) ≡ Some k
        → (list_any (is_busy_on me n link) kept ≡ false → first (is_of me n link) kept ≡ Some k → is_slot_empty k.slot ≡ true) → is_slot_empty k.slot ≡ true
    go true true i e f rest = let is : o ≡ k = cc f in ap (λ (w : SentMessage). is_slot_empty w.slot) (sym is) ∙ i
    go true false i e f rest = absurd (cc e)
    go false z i e f rest = rest e f

pub none_out : (me n : ℕ) (s : Bool) (kept : List SentMessage) (link : ℕ) (b : SeenTables) → list_any (is_busy_on me n link) kept ≡ false → message_out_at (record { at = me; peer = n; sent = s }) kept (position_of me n link kept) b ≡ b
none_out me n s kept link b e = go (position_of me n link kept) refl
  where
    go : (o : Option ℕ) → position_of me n link kept ≡ o → message_out_at (record { at = me; peer = n; sent = s }) kept o b ≡ b
    go None k = refl
    go (Some place) k =
        ap (λ (y : Bool). if y then b else admits_out (record { at = me; peer = n; sent = s }) (message_in (kept_at kept place).message) b)
        (idle_slot me n link kept (kept_at kept place) e (found_first (is_of me n link) kept place nothing_kept k))
