-- What the first byte of a slot says of its message.
use Rattle.std.proofs.Common.{◌≡◌, Bool, true, false, List, [], ◌∷◌, None, Some, refl, ap}
use Rattle.ncp_slot.specs.declared.slot.Slot.TheVariants.{Empty, Ready, Travelling, Held}
use Rattle.ncp_slot.specs.Slot.{kept_message, is_ready, is_held}
use Rattle.ncp_slot.specs.Slots.{LinkSlot}
use Rattle.ncp_saved.specs.Values.{bits_saved}
use Rattle.ncp_peer.specs.SavedPeer.{slot_saved}

pub kind_ready : (s : LinkSlot) (message : List Bool) → true ≡ is_ready s → kept_message s ≡ Some message → slot_saved s ≡ 1 ∷ bits_saved message
unfolding slot_saved
kind_ready Empty message is kept = absurd (cc)
kind_ready (Ready m) message is kept = let same : m ≡ message = cc in ap (λ (b : List Bool). 1 ∷ bits_saved b) same
kind_ready (Travelling m) message is kept = absurd (cc)
kind_ready (Held m) message is kept = absurd (cc)

pub kind_held : (s : LinkSlot) (message : List Bool) → true ≡ is_held s → kept_message s ≡ Some message → slot_saved s ≡ 3 ∷ bits_saved message
unfolding slot_saved
kind_held Empty message is kept = absurd (cc)
kind_held (Ready m) message is kept = absurd (cc)
kind_held (Travelling m) message is kept = absurd (cc)
kind_held (Held m) message is kept = let same : m ≡ message = cc in ap (λ (b : List Bool). 3 ∷ bits_saved b) same

pub kind_out : (s : LinkSlot) (message : List Bool) → false ≡ is_ready s → false ≡ is_held s → kept_message s ≡ Some message → slot_saved s ≡ 2 ∷ bits_saved message
unfolding slot_saved
kind_out Empty message is not_held kept = absurd (cc)
kind_out (Ready m) message is not_held kept = absurd (cc)
kind_out (Travelling m) message is not_held kept = let same : m ≡ message = cc in ap (λ (b : List Bool). 2 ∷ bits_saved b) same
kind_out (Held m) message is not_held kept = absurd (cc)

pub kind_none : (s : LinkSlot) → kept_message s ≡ None → slot_saved s ≡ 0 ∷ []
unfolding slot_saved
kind_none Empty kept = refl
kind_none (Ready m) kept = absurd (cc)
kind_none (Travelling m) kept = absurd (cc)
kind_none (Held m) kept = absurd (cc)
