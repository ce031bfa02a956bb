-- The links on which a text may be sent.
use Rattle.std.specs.Prelude.{◌≡◌, ℕ, Bool, false, List, Option, None, Some, if◌then◌else◌}
use Rattle.slab.specs.Slab.{Slab, get}
use Rattle.ncp_model.specs.declared.pair.Pair.{Pair}
use Rattle.ncp_model.specs.Endpoint.{Endpoint}
use Rattle.ncp_model.specs.Texts.{can_send}
use Rattle.ncp_model.specs.Ends.{hears_link}
use Rattle.ncp_conn.specs.Indexes.{key_at, entry_passes}
use Rattle.ncp_conn.specs.Links.{is_in}

-- whether an entry may send a text
abbrev pub may_send_text : Pair × Endpoint → Bool
may_send_text p = can_send p.0 p.1

-- whether the entry that a link identifies may; not if it identifies none
abbrev pub sends_at : Option ℕ → Slab (Pair × Endpoint) → Bool
sends_at None s = false
sends_at (Some key) s = entry_passes may_send_text (get s key)

-- a link is in the set exactly when a text may be sent on it
abbrev pub AreSending : ℕ → List (Option ℕ) → Slab (Pair × Endpoint) → Type 0
AreSending links senders s = (on : ℕ) → is_in links on ≡ sends_at (key_at senders on) s

-- the link that an entry heard is in the set exactly when the entry may send; all others are unchanged
abbrev pub Notes : Pair × Endpoint → ℕ → ℕ → Type 0
Notes p old new = (on : ℕ) → is_in new on ≡ (if hears_link on p then may_send_text p else is_in old on)
