-- The pairs of a table as a list.
use Rattle.std.specs.Prelude.{◌≡◌, if◌then◌else◌, is_some, List}
use Rattle.std.specs.List.{count_by}
use Rattle.std.specs.FinMap.{get}
use Rattle.ncp_model.specs.declared.pair.Pair.{Pair}
use Rattle.ncp_model.specs.Pairs.{same}
use Rattle.ncp_model.specs.Ends.{Ends}

-- the list has each pair of the table exactly once, and no other
abbrev pub AreItsPairs : List Pair → Ends → Type 0
AreItsPairs pairs m = (pair : Pair) → count_by (λ other. same other pair) pairs ≡ (if is_some (get m pair) then 1 else 0)
