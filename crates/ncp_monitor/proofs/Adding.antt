-- Findings that are added one after the other.
use Rattle.std.proofs.Common.{◌≡◌, List, ◌++◌, ap, ◌∙◌}
use Rattle.std.proofs.lemmas.List.{append_assoc}
use Rattle.ncp_monitor.specs.declared.finding.Finding.{Finding}

pub two_more : (was a b first new : List Finding) → first ≡ was ++ a → new ≡ first ++ b → new ≡ was ++ (a ++ b)
two_more was a b first new e f = f ∙ ap (λ (xs : List Finding). xs ++ b) e ∙ append_assoc was a b

pub four_more : (was a b c d first second third new : List Finding) → first ≡ was ++ a → second ≡ first ++ b → third ≡ second ++ c → new ≡ third ++ d
    → new ≡ was ++ ((a ++ b) ++ (c ++ d))
four_more was a b c d first second third new e f g h =
    two_more was (a ++ b) (c ++ d) second new (two_more was a b first second e f) (two_more second c d third new g h)
