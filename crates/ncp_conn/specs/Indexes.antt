-- The index of links: for each link, the key of the entry that it identifies.
use Rattle.std.specs.Prelude.{◌≡◌, ◌↔◌, ℕ, Bool, true, false, List, Option, None, Some, slice_index_or, if◌then◌else◌}
use Rattle.slab.specs.Slab.{Slab, get}
use Rattle.ncp_model.specs.declared.pair.Pair.{Pair}
use Rattle.ncp_model.specs.Endpoint.{Endpoint}

-- the key for a link
abbrev pub key_at : List (Option ℕ) → ℕ → Option ℕ
key_at keys on = slice_index_or keys on None

-- whether there is an entry, and it passes a test
abbrev pub entry_passes : (Pair × Endpoint → Bool) → Option (Pair × Endpoint) → Bool
entry_passes test None = false
entry_passes test (Some p) = test p

-- a link has a key exactly when the entry under that key passes the test for the link
abbrev pub IsIndex : (ℕ → Pair × Endpoint → Bool) → List (Option ℕ) → Slab (Pair × Endpoint) → Type 0
IsIndex test keys s = (on key : ℕ) → (key_at keys on ≡ Some key) ↔ (entry_passes (test on) (get s key) ≡ true)

-- the links of an entry have this key now, or none; all others are unchanged
abbrev pub LeadsTo : (ℕ → Pair × Endpoint → Bool) → Pair × Endpoint → Option ℕ → List (Option ℕ) → List (Option ℕ) → Type 0
LeadsTo test p key old new = (on : ℕ) → key_at new on ≡ (if test on p then key else key_at old on)
