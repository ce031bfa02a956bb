-- Files of the interfaces of hosts 1 and 2, examples for the law.
use Rattle.std.specs.Prelude.{ℕ, Bool, List, [], ◌∷◌}
use Rattle.ncp_proof_runs.specs.Examples.{message_on_0}
use Rattle.ncp_interface.specs.declared.imp_direction.ImpDirection.{ImpDirection}
use Rattle.ncp_interface.specs.declared.imp_direction.ImpDirection.TheVariants.{ToImp, FromImp}
use Rattle.ncp_proof_monitor.specs.Examples.{incomplete_from_2, wrong_resets}

-- the bits of records, as received by host 1
abbrev pub as_come : List (ImpDirection × List Bool) → List (ℕ × ImpDirection × List Bool)
as_come [] = []
as_come (one ∷ more) = (1, FromImp, one.1) ∷ as_come more

-- an answer arrives before any message is sent
abbrev pub stray_answer : List (ℕ × ImpDirection × List Bool)
stray_answer = (1, FromImp, incomplete_from_2) ∷ []

-- a message to host 2, just its leader, is sent and answered
abbrev pub message_and_answer : List (ℕ × ImpDirection × List Bool)
message_and_answer = (1, ToImp, message_on_0) ∷ (1, FromImp, incomplete_from_2) ∷ []

-- RST, RST, RRP and NOP arrive in one message of host 2
abbrev pub resets_come : List (ℕ × ImpDirection × List Bool)
resets_come = as_come wrong_resets
