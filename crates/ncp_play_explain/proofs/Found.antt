-- A word that is looked for in one table, and then in another.
use Rattle.std.proofs.Common.{◌++◌, List, Option, Some, None}
use Rattle.std.specs.Prelude.{IfSome, IfNone}
use Rattle.std.specs.List.{All, Contains}
use Rattle.std.proofs.lemmas.List.Elements.{Contains-append_right, All-append}
use Rattle.ncp_play_explain.proofs.Apart.{Entry}

-- it is found in the other
pub found_after : {T : Type 0} (entry : T → Entry) (front back : List Entry) (found : Option T) → IfSome found (λ t. Contains back (entry t)) → IfSome found (λ t. Contains (front ++ back) (entry t))
found_after entry front back None h = h
found_after entry front back (Some t) h = Contains-append_right front back (entry t) h

-- it is in neither
pub found_nowhere : {T : Type 0} (P : Entry → Type 0) (front back : List Entry) (found : Option T) → All P front → IfNone found (All P back) → IfNone found (All P (front ++ back))
found_nowhere P front back None h k = All-append P front back h k
found_nowhere P front back (Some t) h k = k
