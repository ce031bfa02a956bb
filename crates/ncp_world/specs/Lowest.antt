-- The lowest link on which a host keeps a message for a peer.
use Rattle.std.specs.Prelude.{ℕ, zero, suc, ◌+◌, Bool, if◌then◌else◌, List, Option, None, Some, is_some}
use Rattle.ncp_wire.specs.declared.links.TheConstants.{LAST_LINK}

-- the first number from the last argument on that passes; the second argument says how many are tried
unfoldable pub first_passing : (ℕ → Bool) → ℕ → ℕ → Option ℕ
first_passing test zero from = None
first_passing test (suc many) from = if test from then Some from else first_passing test many (suc from)

-- the lowest link with a message
abbrev pub lowest_kept : (ℕ → Option (List Bool)) → Option ℕ
lowest_kept kept = first_passing (λ link. is_some (kept link)) (LAST_LINK + 1) 0
